use Rattle.std.proofs.Common.{◌≡◌, ◌++◌, ◌-◌}
use Rattle.std.specs.List.{flat_map, range_with_len}
use Rattle.xfs_base.specs.Limits.{slot_count}
use Rattle.delta_feed.specs.Transition.{feed_push}
use Rattle.delta_feed.proofs.feed.Feed.tick.Given as goal

-- the ranges so far and those of the slots to come are all
abbrev pub invariant-loop-slot : goal.invariant-loop-slot
invariant-loop-slot l =
    l.outs ++ flat_map (feed_push l.self) (range_with_len l.slot (slot_count - l.slot)) ≡ l.initial.outs ++ flat_map (feed_push l.self) (range_with_len 0 slot_count)
