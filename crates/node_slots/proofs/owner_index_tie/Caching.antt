-- What a client notes in its cache, and of settled versions, leaves its number, its log and its feed as they are.
use Rattle.std.proofs.Common.{ℕ, ◌&&◌, not, List, [], ◌∷◌}
use Rattle.std.specs.Prelude.{fold}
use Rattle.client_log.specs.LogState.{LogState}
use Rattle.client_serving.specs.declared.serving.Serving.{Serving}
use Rattle.client_serving.specs.Flights.{held_at, notes_settled, keep_row, settle_rows}
use Rattle.client_serving.specs.Follow.{evicts, note_clean, note_gone, note_copy}
use Rattle.coop_cache.specs.declared.output.Out as cache_out
use Rattle.coop_cache.specs.declared.output.Out.TheVariants.{Victim}
use Rattle.coop_cache.specs.Transition.{cache_clean, cache_leave}
use Rattle.delta_feed.specs.FeedState.{FeedState}
use Rattle.token_client.specs.Held.{is_dirty}
use Rattle.token_client.specs.State.{held_of}
use Rattle.xfs_base.proofs.Booleans.{by_test}
use Rattle.xfs_base.specs.declared.block.BlockId.{BlockId}
use Rattle.xfs_base.specs.declared.entry.Entry.{Entry}
use Rattle.xfs_base.specs.declared.token.Mode.TheVariants.{Copy}
use Rattle.xfs_base.specs.Modes.{same_mode, is_held, is_nothing}

pub stands_fold : {S A : Type 0} (At : S → Type 0) (step : S → A → S) → ((s : S) (x : A) → At s → At (step s x)) → (s : S) (xs : List A) → At s
    → At (fold step s xs)
stands_fold At step one s [] h = h
stands_fold At step one s (x ∷ xs) h = stands_fold At step one (step s x) xs (one s x h)

-- whatever holds of these
module _ (Q : ℕ → LogState → FeedState → Type 0) where
  abbrev At : Serving → Type 0
  At s = Q s.lasting.number s.log s.feed

  evicts_so : (s : Serving) (o : cache_out.Out) → At s → At (evicts s o)
  unfolding evicts
  evicts_so s (Victim block) h = h

  pub note_clean_so : (s : Serving) (block : BlockId) → At s → At (note_clean s block)
  unfolding note_clean
  note_clean_so s block h =
      stands_fold At evicts evicts_so (record s { cache = (cache_clean s.cache block).state }) (cache_clean s.cache block).outs h

  pub note_gone_so : (s : Serving) (block : BlockId) → At s → At (note_gone s block)
  unfolding note_gone
  note_gone_so s block h =
      by_test (λ (t : Serving). At t) (is_nothing (held_of s.tokens.blocks block).mode) (record s { cache = cache_leave s.cache block }) s (λ t. h) (λ t. h)

  pub note_copy_so : (s : Serving) (block : BlockId) → At s → At (note_copy s block)
  unfolding note_copy
  note_copy_so s block h =
      by_test (λ (t : Serving). At t) (same_mode (held_of s.tokens.blocks block).mode Copy) (note_clean s block) s (λ t. note_clean_so s block h) (λ t. h)

  -- ---- settled versions

  notes_settled_so : (s : Serving) (row : BlockId × Entry) → At s → At (notes_settled s row)
  unfolding notes_settled
  notes_settled_so s row h = h

  keep_row_so : (s : Serving) (row : BlockId × Entry) → At s → At (keep_row s row)
  unfolding keep_row
  keep_row_so s row h =
      by_test (λ (t : Serving). At t) (not (is_dirty (held_at s row.0)) && is_held (held_at s row.0).mode) (note_clean s row.0) s
      (λ t. note_clean_so s row.0 h) (λ t. h)

  pub settle_rows_so : (s : Serving) (rows : List (BlockId × Entry)) → At s → At (settle_rows s rows)
  settle_rows_so s rows h = stands_fold At keep_row keep_row_so (fold notes_settled s rows) rows (stands_fold At notes_settled notes_settled_so s rows h)
