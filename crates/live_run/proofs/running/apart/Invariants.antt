use Rattle.std.proofs.Common.{◌≡◌, ◌+◌, All, length}
use Rattle.std.specs.Vec.Iter.{into_iter_items}
use Rattle.live_links.specs.Ending.{IsEnded}
use Rattle.live_links.specs.Parts.{AreParts}
use Rattle.live_run.specs.Live.{IsFront}
use Rattle.live_run.proofs.running.apart.Given as goal

abbrev pub invariant-loop-cell : goal.invariant-loop-cell
invariant-loop-cell g l = record {
  parts : AreParts g.N.Actor.transition g.N.Member.first g.R.RunName.script g.R.RunName.outs l.parts.full l.parts.journals.items l.parts.nodes l.parts.outs.items l.parts.ins.items;
  full : l.parts.full ≡ l.fn.parts.full;
  ended : All (λ c. IsEnded g.N.Actor.transition g.N.Member.first g.R.RunName.script l.fn.parts.full c.journal.place c.journal.moments) (into_iter_items l.cell-iterator);
  count : length l.parts.journals.items + length (into_iter_items l.cell-iterator) ≡ length l.fn.parts.journals.items + length l.fn.cells.items;
  front : IsFront l.fn.parts.journals.items l.parts.journals.items;
}
