-- What a feed tells is no Report.
use Rattle.std.proofs.Common.{ℕ, List, [], ◌∷◌, map}
use Rattle.delta_feed.specs.declared.output.Out.{Out}
use Rattle.delta_feed.specs.declared.output.Out.TheVariants.{Range}
use Rattle.delta_feed.specs.FeedState.{FeedState}
use Rattle.delta_feed.specs.Transition.{feed_push}
use Rattle.log_owner.specs.declared.promised.Managers.{Managers}
use Rattle.log_owner.specs.Sending.{range, sending_push, push_all}
use Rattle.std.specs.List.{flat_map, range_with_len}
use Rattle.xfs_base.specs.declared.segment.End.{End}
use Rattle.xfs_base.specs.Limits.{slot_count}
use Rattle.node_tellings.proofs.reference_tie.Reporting.{AllSay}

module _ (told : End) (managers : Managers) where
  ranges_say : (outs : List Out) → AllSay told (map (range managers) outs)
  ranges_say [] = tt
  ranges_say (Range slot first upto rows ∷ outs) = (tt, ranges_say outs)

  pub pushes_say : (f : FeedState) (slot : ℕ) → AllSay told (sending_push managers f slot)
  pushes_say f slot = ranges_say (feed_push f slot)

  pub push_all_say : (f : FeedState) → AllSay told (push_all managers f)
  push_all_say f = ranges_say (flat_map (feed_push f) (range_with_len 0 slot_count))
