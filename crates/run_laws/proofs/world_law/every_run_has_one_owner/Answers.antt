use Rattle.run_laws.proofs.world_law.Laws.{every_run}
use Rattle.run_laws.proofs.world_law.every_run_has_one_owner.Goals as goal

pub returns : goal.returns
returns c = record {
  one_owner = every_run c.nodes_are_seen.ensures c.tokens_keep_their_word.ensures.one_owner;
}
