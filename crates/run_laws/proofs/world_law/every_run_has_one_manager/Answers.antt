use Rattle.run_laws.proofs.world_law.Managers.{every_run_one_manager}
use Rattle.run_laws.proofs.world_law.every_run_has_one_manager.Goals as goal

pub returns : goal.returns
returns c = record {
  one_manager = every_run_one_manager c.nodes_are_seen.ensures c.tokens_keep_their_word.ensures.promised c.tokens_keep_their_word.ensures.believed
      c.tokens_keep_their_word.ensures.acceptable;
}
