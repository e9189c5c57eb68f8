use Rattle.run_holdings.proofs.sync_law.Settling.{syncs_so}
use Rattle.run_holdings.proofs.sync_law.syncs_settle.Goals as goal

pub returns : goal.returns
returns c = record {
  settles = λ e setup run.
      syncs_so c.writes_what_is_dirty.ensures.written e (c.runs_are_linearizable.ensures.linear e setup run).syncs
      (c.what_is_settled_is_the_join.ensures.settled e setup run);
}
