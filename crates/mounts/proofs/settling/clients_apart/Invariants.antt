use Rattle.std.proofs.Common.{◌≡◌, ◌+◌, All, length}
use Rattle.std.specs.Vec.Iter.{into_iter_items}
use Rattle.live_links.specs.Ending.{IsEnded}
use Rattle.live_links.specs.Parts.{AreParts}
use Rattle.mounts.specs.Replies.{AreSaid}
use Rattle.mounts.proofs.settling.clients_apart.Given as goal

abbrev pub invariant-loop-client : goal.invariant-loop-client
invariant-loop-client g l = record {
  parts : AreParts g.N.Actor.transition g.N.Member.first g.R.RunName.script g.R.RunName.outs l.parts.full l.parts.journals.items l.parts.nodes l.parts.outs.items l.parts.ins.items;
  full : l.parts.full ≡ l.fn.full;
  ended : All (λ c. IsEnded g.N.Actor.transition g.N.Member.first g.R.RunName.script l.fn.full c.cell.journal.place c.cell.journal.moments) (into_iter_items l.client-iterator);
  count : length l.parts.journals.items + length (into_iter_items l.client-iterator) ≡ length l.fn.clients.items;
  level : length l.told.replies ≡ length l.parts.journals.items;
  said : AreSaid g.N.Actor.transition g.N.Member.first g.R.RunName.script l.parts.journals.items l.told.calls l.told.replies;
}
