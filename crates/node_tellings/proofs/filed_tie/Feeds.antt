-- What a feed tells was filed: it tells up to its end; and how a feed goes on.
use Rattle.std.proofs.Common.{ℕ, ◌-◌, ◌≤◌, suc, ◌&&◌, List, [], ◌∷◌, ◌++◌, map, nat_lt, arith}
use Rattle.std.specs.List.{AllByRecursion, flat_map, range_with_len}
use Rattle.delta_feed.specs.declared.output.Out.{Out}
use Rattle.delta_feed.specs.FeedState.{FeedState, acked_of, feed_start}
use Rattle.delta_feed.specs.Transition.{settled, acknowledged, new_epoch, feed_push}
use Rattle.log_owner.specs.declared.promised.Managers.{Managers}
use Rattle.log_owner.specs.Opened.{feed_one, feed_all, feed_of}
use Rattle.log_owner.specs.Sending.{range, sending_push, push_all}
use Rattle.manager_serving.specs.Serving.{fed_log}
use Rattle.segment_format.specs.declared.segment.Segment.{Segment}
use Rattle.segment_format.specs.Rows.{rows_of}
use Rattle.xfs_base.proofs.Booleans.{by_test}
use Rattle.xfs_base.specs.declared.block.BlockId.{BlockId}
use Rattle.xfs_base.specs.declared.entry.Entry.{Entry}
use Rattle.xfs_base.specs.declared.node.NodeId.{NodeId}
use Rattle.xfs_base.specs.declared.segment.End.{End}
use Rattle.xfs_base.specs.Limits.{slot_count}
use Rattle.node_tellings.specs.filed_tie.Reach.{Reach, LogReaches}
use Rattle.node_tellings.proofs.filed_tie.Frames.{AllSay}

-- ---- its end

module _ (limit : ℕ) where
  pub settled_end : (f : FeedState) (seq : ℕ) (rows : List (BlockId × Entry)) → f.end ≤ limit → seq ≤ limit → (settled f seq rows).end ≤ limit
  settled_end f seq rows h new = by_test (λ (g : FeedState). g.end ≤ limit) (nat_lt f.end seq) _ f (λ t. new) (λ t. h)

  pub acknowledged_end : (f : FeedState) (slot upto : ℕ) → f.end ≤ limit → (acknowledged f slot upto).end ≤ limit
  acknowledged_end f slot upto h = by_test (λ (g : FeedState). g.end ≤ limit) (nat_lt slot slot_count && nat_lt (acked_of f slot) upto) _ f (λ t. h) (λ t. h)

  pub renewed_end : (f : FeedState) (slot : ℕ) → f.end ≤ limit → (new_epoch f slot).end ≤ limit
  renewed_end f slot h = by_test (λ (g : FeedState). g.end ≤ limit) (nat_lt slot slot_count) _ f (λ t. h) (λ t. h)

  fed_end : (f : FeedState) (chain : List Segment) → f.end ≤ limit → AllByRecursion (λ s. s.name.seq ≤ limit) chain → (feed_all f chain).end ≤ limit
  unfolding feed_one
  fed_end f [] h all = h
  fed_end f (s ∷ chain) h all = fed_end (feed_one f s) chain (settled_end f s.name.seq (rows_of s) h all.0) all.1

  -- that of a log that is open again
  pub opened_end : (low : ℕ) (chain : List Segment) (end : End) → low ≤ suc limit → AllByRecursion (λ s. s.name.seq ≤ limit) chain → end.seq ≤ limit
      → (feed_of low chain end).end ≤ limit
  opened_end low chain end small all new =
      settled_end (feed_all (feed_start (low - 1)) chain) end.seq [] (fed_end (feed_start (low - 1)) chain (omega (arith, small)) all) new

-- ---- what it tells

module _ (reach : Reach) (node : NodeId) (managers : Managers) (f : FeedState) (h : LogReaches reach (fed_log node) f.end) where
  all_say : (slot : ℕ) → AllSay reach node (map (range managers) (feed_push f slot))
  unfolding feed_push
  all_say slot =
      by_test (λ (outs : List Out). AllSay reach node (map (range managers) outs)) (nat_lt slot slot_count && nat_lt (acked_of f slot) f.end) _ []
      (λ t. (h, tt)) (λ t. tt)

  map_append : (xs ys : List Out) → AllSay reach node (map (range managers) xs) → AllSay reach node (map (range managers) ys)
      → AllSay reach node (map (range managers) (xs ++ ys))
  map_append [] ys all more = more
  map_append (x ∷ xs) ys all more = (all.0, map_append xs ys all.1 more)

  each_says : (slots : List ℕ) → AllSay reach node (map (range managers) (flat_map (feed_push f) slots))
  each_says [] = tt
  each_says (slot ∷ slots) = map_append (feed_push f slot) (flat_map (feed_push f) slots) (all_say slot) (each_says slots)

  pub pushes_say : (slot : ℕ) → AllSay reach node (sending_push managers f slot)
  pushes_say slot = all_say slot

  pub push_all_say : AllSay reach node (push_all managers f)
  push_all_say = each_says (range_with_len 0 slot_count)
