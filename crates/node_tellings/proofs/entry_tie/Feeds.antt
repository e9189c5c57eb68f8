-- What a feed keeps of settled segments, and tells managers, is what they say of blocks.
use Rattle.std.proofs.Common.{ℕ, ◌-◌, ◌&&◌, ◌==◌, List, [], ◌∷◌, ◌++◌, map, nat_lt}
use Rattle.std.specs.List.{AllByRecursion, flat_map, range_with_len}
use Rattle.delta_feed.specs.declared.feed.FiledDeltas.{FiledDeltas}
use Rattle.delta_feed.specs.declared.output.Out.{Out}
use Rattle.delta_feed.specs.FeedState.{FeedState, acked_of, feed_start}
use Rattle.delta_feed.specs.Transition.{settled, acknowledged, new_epoch, slot_rows, rows_after, feed_push}
use Rattle.log_owner.specs.declared.promised.Managers.{Managers}
use Rattle.log_owner.specs.Opened.{feed_one, feed_all, feed_of}
use Rattle.log_owner.specs.Sending.{range, sending_push, push_all}
use Rattle.segment_format.specs.declared.segment.Segment.{Segment}
use Rattle.segment_format.specs.Rows.{rows_of}
use Rattle.version_model.specs.declared.act.Act.{Act}
use Rattle.xfs_base.proofs.Booleans.{by_test}
use Rattle.xfs_base.specs.Blocks.{slot_of}
use Rattle.xfs_base.specs.declared.block.BlockId.{BlockId}
use Rattle.xfs_base.specs.declared.entry.Entry.{Entry}
use Rattle.xfs_base.specs.declared.segment.End.{End}
use Rattle.xfs_base.proofs.Alls.{all_append, all_filter}
use Rattle.xfs_base.specs.Limits.{slot_count}
use Rattle.node_tellings.specs.entry_tie.ClientTells.{DeltasTold, FeedTold}
use Rattle.node_tellings.specs.entry_tie.Told.{Told, RowTold, RowsTold}
use Rattle.node_tellings.proofs.entry_tie.Frames.{AllSay}

module _ (told : Told) where
  -- ---- what it keeps

  pub settled_told : (f : FeedState) (seq : ℕ) (rows : List (BlockId × Entry)) → FeedTold told f → RowsTold told rows → FeedTold told (settled f seq rows)
  settled_told f seq rows h new =
      by_test (FeedTold told) (nat_lt f.end seq) _ f (λ t. all_append (DeltasTold told) f.filed (record { seq = seq; rows = rows } ∷ []) h (new, tt)) (λ t. h)

  pub acknowledged_told : (f : FeedState) (slot upto : ℕ) → FeedTold told f → FeedTold told (acknowledged f slot upto)
  acknowledged_told f slot upto h = by_test (FeedTold told) (nat_lt slot slot_count && nat_lt (acked_of f slot) upto) _ f (λ t. h) (λ t. h)

  pub renewed_told : (f : FeedState) (slot : ℕ) → FeedTold told f → FeedTold told (new_epoch f slot)
  renewed_told f slot h = by_test (FeedTold told) (nat_lt slot slot_count) _ f (λ t. h) (λ t. h)

  fed_told : (f : FeedState) (chain : List Segment) → FeedTold told f → AllByRecursion (λ s. RowsTold told (rows_of s)) chain → FeedTold told (feed_all f chain)
  unfolding feed_one
  fed_told f [] h all = h
  fed_told f (s ∷ chain) h all = fed_told (feed_one f s) chain (settled_told f s.name.seq (rows_of s) h all.0) all.1

  -- that of a log that is open again
  pub opened_told : (low : ℕ) (chain : List Segment) (end : End) → AllByRecursion (λ s. RowsTold told (rows_of s)) chain → FeedTold told (feed_of low chain end)
  opened_told low chain end all =
      settled_told (feed_all (feed_start (low - 1)) chain) end.seq [] (fed_told (feed_start (low - 1)) chain tt all) tt

  -- ---- what it tells

  after_told : (slot number : ℕ) (filed : List FiledDeltas) → AllByRecursion (DeltasTold told) filed → RowsTold told (rows_after slot number filed)
  after_told slot number [] all = tt
  after_told slot number (f ∷ filed) all =
      all_append (RowTold told) _ (rows_after slot number filed)
      (by_test (RowsTold told) (nat_lt number f.seq) (slot_rows slot f.rows) []
      (λ t. all_filter (RowTold told) (λ row. slot_of row.0.ino.0 == slot) f.rows all.0) (λ t. tt))
      (after_told slot number filed all.1)

module _ (told : Told) (done : List Act) (managers : Managers) (f : FeedState) (h : FeedTold told f) where
  all_say : (slot : ℕ) → AllSay told done (map (range managers) (feed_push f slot))
  unfolding feed_push
  all_say slot =
      by_test (λ (outs : List Out). AllSay told done (map (range managers) outs)) (nat_lt slot slot_count && nat_lt (acked_of f slot) f.end) _ []
      (λ t. (after_told told slot (acked_of f slot) f.filed h, tt)) (λ t. tt)

  map_append : (xs ys : List Out) → AllSay told done (map (range managers) xs) → AllSay told done (map (range managers) ys)
      → AllSay told done (map (range managers) (xs ++ ys))
  map_append [] ys all more = more
  map_append (x ∷ xs) ys all more = (all.0, map_append xs ys all.1 more)

  each_says : (slots : List ℕ) → AllSay told done (map (range managers) (flat_map (feed_push f) slots))
  each_says [] = tt
  each_says (slot ∷ slots) = map_append (feed_push f slot) (flat_map (feed_push f) slots) (all_say slot) (each_says slots)

  pub pushes_say : (slot : ℕ) → AllSay told done (sending_push managers f slot)
  pushes_say slot = all_say slot

  pub push_all_say : AllSay told done (push_all managers f)
  push_all_say = each_says (range_with_len 0 slot_count)
