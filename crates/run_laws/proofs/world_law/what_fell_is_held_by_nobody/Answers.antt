use Rattle.run_laws.proofs.world_law.Fallen.{falls_apart, nobody_holds}
use Rattle.run_laws.proofs.world_law.what_fell_is_held_by_nobody.Goals as goal

pub returns : goal.returns
returns c = record {
  nobody = nobody_holds c.nodes_are_seen.ensures c.tokens_keep_their_word.ensures.nobody;
  apart = falls_apart c.nodes_are_seen.ensures c.acts_are_legal.ensures.apart;
}
