use Rattle.run_laws.proofs.world_reads.tokens_below.Goals as goal

pub returns : goal.returns
returns c = record {
  nodes = c.nodes_are_seen.ensures;
  active_epochs_promised = c.tokens_keep_their_word.ensures.promised;
  acts_are_legal = c.acts_are_legal.ensures.legal;
  dirty_blocks_lead = c.dirty_blocks_lead.ensures.lead;
  epochs = c.epoch_laws.ensures;
  every_run_has_falls_apart = c.what_fell_is_held_by_nobody.ensures.apart;
  blocks_make_legal = c.blocks-2.ensures.legal;
}
