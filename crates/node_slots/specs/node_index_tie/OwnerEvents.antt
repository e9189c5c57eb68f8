-- How the feed of a log's owner is seen in the small world of one slot's index, and that what it tells managers was filed.
use Rattle.std.specs.Prelude.{◌≡◌, ◌<◌, ◌≤◌, ℕ, suc, List}
use Rattle.std.specs.List.{All}
use Rattle.delta_feed.specs.FeedState.{FeedState}
use Rattle.delta_feed.specs.History.{state_after}
use Rattle.delta_feed.specs.Transition.{settled, acknowledged, new_epoch}
use Rattle.delta_feed.specs.declared.input.In.{In}
use Rattle.index_tie.specs.Feeds.{IsFed}
use Rattle.headline.specs.Filed.{rows_at}
use Rattle.index_tie.specs.Growth.{with_segment}
use Rattle.index_tie.specs.Net.{Net}
use Rattle.log_owner.specs.Sending.{sending_push, push_all}
use Rattle.log_owner.specs.declared.promised.Managers.{Managers}
use Rattle.segment_format.specs.Rows.{rows_of}
use Rattle.segment_format.specs.declared.segment.Segment.{Segment}
use Rattle.node_base.specs.declared.effects.Effect.{Effect}
use Rattle.node_base.specs.declared.effects.Effect.TheVariants.{Send}
use Rattle.wire_msg.specs.declared.body.Body.{Body}
use Rattle.wire_msg.specs.declared.body.Body.TheVariants as body
use Rattle.xfs_base.specs.Limits.{u32_end, block_logs}
use Rattle.node_slots.specs.node_index_tie.Sight.{RowsFit, DeltasKnown}

module _ (part : ℕ) (n : Net) (l : ℕ) where
  -- A feed of a log that began at a base was told of each filed segment of the log above it, and of no other. Rows fit their types, and the log isn't at
  -- its last number.
  pub record FeedSeen (feed : FeedState) : Type 0 where
    pub base : ℕ
    pub inputs : List In
    pub feed_is : feed ≡ state_after base inputs
    pub fed : IsFed n.filed l base inputs
    pub fit : (q : ℕ) → RowsFit (rows_at n.filed l q)
    pub short : n.filed.head l < u32_end

  -- Deltas of the slot tell what the log filed
  abbrev pub BodyTells : Body → Type 0
  BodyTells (body.Deltas m) = m.slot ≡ part → DeltasKnown part n l m
  BodyTells _ = Unit {0}

  abbrev pub OwnerDoes : Effect → Type 0
  OwnerDoes (Send to m) = BodyTells m
  OwnerDoes _ = Unit {0}

-- What an owner tells the manager of one slot, and of each, was filed.
pub record OwnerTells (part : ℕ) (n : Net) (l : ℕ) (feed : FeedState) (managers : Managers) : Type 0 where
  pub one : (slot : ℕ) → All (OwnerDoes part n l) (sending_push managers feed slot)
  pub each : All (OwnerDoes part n l) (push_all managers feed)

abbrev pub OwnersTell : Type 0
OwnersTell = (part : ℕ) (n : Net) (l : ℕ) (feed : FeedState) (managers : Managers) → 0 < l → l ≤ block_logs → FeedSeen part n l feed → OwnerTells part n l feed
    managers

-- An acknowledgement, and a new epoch of a slot, leave a feed seen.
pub record StaysSeen (part : ℕ) (n : Net) (l : ℕ) (feed : FeedState) : Type 0 where
  pub acks : (slot upto : ℕ) → FeedSeen part n l (acknowledged feed slot upto)
  pub epochs : (slot : ℕ) → FeedSeen part n l (new_epoch feed slot)

abbrev pub FeedsStay : Type 0
FeedsStay = (part : ℕ) (n : Net) (l : ℕ) (feed : FeedState) → FeedSeen part n l feed → StaysSeen part n l feed

-- A feed that is told of one more segment, once its log has filed it, is seen; what another log files leaves it seen.
pub record GrowsOn (part : ℕ) (n : Net) (l : ℕ) (feed : FeedState) : Type 0 where
  pub own : (s : Segment) → RowsFit (rows_of s) → suc (n.filed.head l) < u32_end
      → FeedSeen part (record n { filed = with_segment n.filed l s }) l (settled feed (suc (n.filed.head l)) (rows_of s))
  pub others : (other : ℕ) (s : Segment) → (other ≡ l → ⊥) → FeedSeen part (record n { filed = with_segment n.filed other s }) l feed

abbrev pub FeedsGrow : Type 0
FeedsGrow = (part : ℕ) (n : Net) (l : ℕ) (feed : FeedState) → FeedSeen part n l feed → GrowsOn part n l feed
