-- A fact of a client's tokens alone is kept where the log takes an input, if a segment that is settled keeps it; and where clean blocks
-- leave the cache, if an eviction keeps it.
use Rattle.std.proofs.Common.{Bool, ◌&&◌, List, [], ◌∷◌}
use Rattle.std.specs.List.{fold, list_any}
use Rattle.client_log.specs.declared.input.In as log_in
use Rattle.client_log.specs.declared.output.Out as log_out
use Rattle.client_log.specs.declared.output.Out.TheVariants.{Send, Settled}
use Rattle.client_log.specs.Transition as log
use Rattle.client_serving.specs.declared.serving.Serving.{Serving}
use Rattle.client_serving.specs.Flights.{seals_again, serving_settle, serving_write, write_one}
use Rattle.client_serving.specs.Follow.{evicts, note_clean, note_gone, serving_seal}
use Rattle.client_serving.specs.Sends.{Done}
use Rattle.coop_cache.specs.declared.output.Out as cache_out
use Rattle.coop_cache.specs.declared.output.Out.TheVariants.{Victim}
use Rattle.coop_cache.specs.Transition.{cache_clean, cache_leave}
use Rattle.log_owner.specs.Sealing.{is_settling}
use Rattle.token_client.specs.Settling.{is_giving}
use Rattle.token_client.specs.State.{TokensState, held_of}
use Rattle.token_client.specs.Transition.{on_evict}
use Rattle.xfs_base.specs.declared.block.BlockId.{BlockId}
use Rattle.xfs_base.specs.declared.entry.Entry.{Entry}
use Rattle.xfs_base.specs.declared.segment.End.{End}
use Rattle.xfs_base.specs.Modes.{is_nothing}
use Rattle.xfs_base.specs.Steps.{steps, still}
use Rattle.xfs_base.proofs.Booleans.{by_test}

module _ (R : TokensState → Type 0) where
  -- ---- the cache

  module _ (evict : (t : TokensState) (block : BlockId) → R t → R (on_evict t block).state) where
    all_evicted : (s : Serving) (outs : List cache_out.Out) → R s.tokens → R (fold evicts s outs).tokens
    unfolding evicts
    all_evicted s [] p = p
    all_evicted s (Victim block ∷ outs) p = all_evicted (evicts s (Victim block)) outs (evict s.tokens block p)

    pub note_clean-tokens : (s : Serving) (block : BlockId) → R s.tokens → R (note_clean s block).tokens
    unfolding note_clean
    note_clean-tokens s block p = all_evicted (record s { cache = (cache_clean s.cache block).state }) (cache_clean s.cache block).outs p

  pub note_gone-tokens : (s : Serving) (block : BlockId) → R s.tokens → R (note_gone s block).tokens
  unfolding note_gone
  note_gone-tokens s block p =
      by_test (λ (t : Serving). R t.tokens) (is_nothing (held_of s.tokens.blocks block).mode) (record s { cache = cache_leave s.cache block }) s (λ t. p) (λ t. p)

  -- ---- the log

  seals_again-tokens : (s : Serving) (settling : Bool) → R s.tokens → R (seals_again s settling).state.tokens
  unfolding serving_seal
  seals_again-tokens s settling p =
      by_test (λ (d : Done). R d.state.tokens) (settling && is_giving s.tokens) (serving_seal s) (still s) (λ t. p) (λ t. p)

  module _ (settle : (s : Serving) (end : End) (rows : List (BlockId × Entry)) → R s.tokens → R (serving_settle s end rows).state.tokens) where
    all_written : (s : Serving) (outs : List log_out.Out) → R s.tokens → R (steps write_one s outs).state.tokens
    unfolding write_one
    all_written s [] p = p
    all_written s (Send fragment member ∷ outs) p = all_written s outs p
    all_written s (Settled end rows ∷ outs) p = all_written (serving_settle s end rows).state outs (settle s end rows p)

    pub serving_write-tokens : (s : Serving) (i : log_in.In) → R s.tokens → R (serving_write s i).state.tokens
    unfolding serving_write
    serving_write-tokens s i p =
        let t : Serving = record s { log = (log.transition s.log i).state } in
        let outs : List log_out.Out = (log.transition s.log i).outs in
        seals_again-tokens (steps write_one t outs).state (list_any is_settling outs) (all_written t outs p)
