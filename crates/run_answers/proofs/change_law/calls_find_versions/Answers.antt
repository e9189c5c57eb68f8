use Rattle.run_answers.proofs.change_law.Runs.{each_runs_calls_find_versions}
use Rattle.run_answers.proofs.change_law.calls_find_versions.Goals as goal

pub returns : goal.returns
returns c = record {
  finds = each_runs_calls_find_versions (record {
    stands = c.every_run_stands.ensures;
    legal = c.acts_are_legal.ensures.legal;
    blocks = c.blocks-2.ensures.legal;
    nodes = c.nodes_are_seen.ensures;
    apart = c.what_fell_is_held_by_nobody.ensures.apart;
    nobody = c.what_fell_is_held_by_nobody.ensures.nobody;
    own = c.every_runs_acts_are_legal.ensures.own;
    holders = c.every_runs_acts_are_legal.ensures.holders;
    acts = c.every_runs_acts_are_legal.ensures.legal;
  });
}
