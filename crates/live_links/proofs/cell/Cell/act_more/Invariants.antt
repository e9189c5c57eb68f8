use Rattle.std.proofs.Common.{◌≡◌, ℕ, ◌≤◌}
use Rattle.world_base.specs.Cluster.{cluster_of}
use Rattle.journals.specs.Journals.{whats}
use Rattle.live_links.specs.Acts.{Acts, ticks}
use Rattle.live_links.specs.Facts.{first_at}
use Rattle.live_links.proofs.cell.Cell.act_more.Given as goal

-- what was done so far are acts, one after the other, and no time passed
abbrev pub invariant-loop : goal.invariant-loop
invariant-loop g l = record {
  place : l.cell.journal.place ≡ l.fn.self.journal.place;
  acted : (count : ℕ) × (count ≤ l.counter) × Acts g.N.Actor.transition (first_at g.N.Member.first g.R.RunName.script l.fn.self.journal.place) (cluster_of g.R.RunName.script.setup) l.fn.self.journal.place count
      (record { moments = l.fn.self.journal.moments; outs = l.fn.self.outs; ins = l.fn.self.ins }) (record { moments = l.cell.journal.moments; outs = l.cell.outs; ins = l.cell.ins });
  waits : ticks (whats l.cell.journal.moments) ≡ ticks (whats l.fn.self.journal.moments);
}
