-- Each act of a run that a segment is lost is earned: whoever says it reads, and of each kind of reader it is known.
use Rattle.std.proofs.Common.{◌≡◌, ℕ, Some, slice_get}
use Rattle.core_world.specs.AnyNode.{any_start, any_step}
use Rattle.core_world.specs.declared.any_node.AnyNode.{AnyNode}
use Rattle.run_losses.specs.earned_law.Earned.{LostActsAreEarned}
use Rattle.headline.specs.Losses.{IsEarned}
use Rattle.headline.specs.Losses.IsEarned.{ToRead, ToTakeover, WhileItOpened}
use Rattle.run_losses.specs.lost_law.Reads.{ReadsLoseWhatIsTorn}
use Rattle.run_losses.specs.reader_law.Readers.{IsReader, OnlyReadersSayLost}
use Rattle.run_losses.specs.reader_law.Readers.IsReader.{Manages, Scans, Serves}
use Rattle.run_losses.specs.source_law.Sources.{TakeoversLoseWhatWasFiled}
use Rattle.run_losses.specs.taking_law.Takings.{TakeoversLoseWhatIsTorn}
use Rattle.run_losses.specs.whole_law.Whole.{ReopeningsLoseWhatWasWhole}
use Rattle.node_base.specs.Setups.{IsSetup}
use Rattle.headline.specs.Moments.{acts_in, moment}
use Rattle.token_protocol.specs.Basics.{In}
use Rattle.version_model.specs.declared.act.Act.TheVariants as act
use Rattle.world_base.specs.declared.estate.Estate.{Estate}
use Rattle.world_base.specs.declared.event.Event.{Event}
use Rattle.world_base.specs.Events.{node_of, what_of}
use Rattle.world_base.specs.Runs.{IsRun}
use Rattle.xfs_base.specs.declared.node.NodeId.{NodeId}
use Rattle.xfs_base.specs.declared.segment.SegName.{SegName}

pub record Below : Type 0 where
  pub readers : OnlyReadersSayLost
  pub reopenings : ReopeningsLoseWhatWasWhole
  pub takeovers : TakeoversLoseWhatIsTorn
  pub filed : TakeoversLoseWhatWasFiled
  pub reads : ReadsLoseWhatIsTorn

module _ (below : Below) (e : Estate AnyNode) (setup : IsSetup e.script.setup) (run : IsRun any_step any_start e.script e.events e.world) (count : ℕ)
    (event : Event) (fact : slice_get e.events count ≡ Some event) (name : SegName) where
  earned : (node : NodeId) → node ≡ node_of event → In (act.Lost node name) (acts_in (moment e count) event) → IsReader e count node
      → IsEarned e count (what_of event) name node
  earned node own among (Scans r there keeps scans) =
      WhileItOpened r there keeps scans (below.reopenings e setup run r there keeps count event fact own scans name among)
  earned node own among (Serves c there s serves item waits) =
      ToRead c there s serves item waits (λ none. below.reads e setup run c there.0 there.1 count none event fact own s serves name among)
  earned node own among (Manages j there) =
      ToTakeover j there (below.takeovers e setup run j there count event fact own name among)
      (λ none. below.filed e setup run count none event fact j there own name among)

pub lost_acts_are_earned : Below → LostActsAreEarned
lost_acts_are_earned below e setup run count event fact node name among =
    let r = below.readers e setup run count event fact node name among in
    (r.0, earned below e setup run count event fact name node r.0 among r.1)
