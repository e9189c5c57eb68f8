-- A log that is open again: what is filed, and what its feed tells the managers.
use Rattle.std.specs.Prelude.{ℕ, ◌-◌, List, [], ◌∷◌, ◌++◌, map, fold}
use Rattle.delta_feed.specs.FeedState.{FeedState}
use Rattle.delta_feed.specs.FeedState as feed
use Rattle.delta_feed.specs.Transition.{settled}
use Rattle.node_base.specs.declared.effects.Effect.{Effect}
use Rattle.node_base.specs.declared.effects.Effect.TheVariants.{Does}
use Rattle.segment_format.specs.declared.segment.Segment.{Segment}
use Rattle.segment_format.specs.Rows.{rows_of}
use Rattle.version_model.specs.declared.act.Act.TheVariants.{Filed}
use Rattle.xfs_base.specs.declared.segment.End.{End}
use Rattle.xfs_base.specs.declared.segment.LogId.{LogId}
use Rattle.xfs_base.specs.declared.segment.SegName.{SegName}
use Rattle.log_owner.specs.Sending.{name_of}

abbrev pub names_in : List Segment → List SegName
names_in chain = map (λ segment. segment.name) chain

abbrev pub filed : Segment → Effect
filed segment = Does (Filed segment.name)

-- the chain and the first segment behind it are filed
abbrev pub file_all : LogId → List Segment → End → List Effect
file_all log chain end = map filed chain ++ Does (Filed (name_of log end)) ∷ []

-- a feed with a further segment
unfoldable pub feed_one : FeedState → Segment → FeedState
feed_one f segment = settled f segment.name.seq (rows_of segment)

-- a feed with the segments of a chain
abbrev pub feed_all : FeedState → List Segment → FeedState
feed_all f chain = fold feed_one f chain

-- the feed of a chain and of the first segment behind it, which has no item; what lies below the horizon the
-- slots know from elsewhere
abbrev pub feed_of : ℕ → List Segment → End → FeedState
feed_of low chain end = settled (feed_all (feed.feed_start (low - 1)) chain) end.seq []
