-- Where the cleaner comes back, no two segments of its new incarnation have been filed: there is at most the one by which its log was opened.
use Rattle.std.specs.Prelude.{◌≡◌, ℕ, suc, true, false, Some}
use Rattle.cleaner_node.specs.CleanerEvents.{is_serving, lasting_of}
use Rattle.cleaner_node.specs.declared.cleaner.Cleaner.{Cleaner as Sweeper}
use Rattle.core_world.specs.declared.any_node.AnyNode.{AnyNode}
use Rattle.core_world.specs.declared.any_node.AnyNode.TheVariants as any
use Rattle.token_protocol.specs.Basics.{In}
use Rattle.version_model.specs.declared.act.Act.TheVariants as act
use Rattle.world_base.specs.declared.estate.Estate.{Estate}
use Rattle.xfs_base.specs.declared.node.NodeId.TheVariants.{Cleaner}
use Rattle.xfs_base.specs.declared.segment.SegName.{SegName}
use Rattle.xfs_base.specs.Logs.{cleaners_number}
use Rattle.headline.specs.Logs.{did}
use Rattle.headline.specs.Moments.{moment, node_named}

module _ (e : Estate AnyNode) where
  -- at this count of events the cleaner is this one
  abbrev pub IsTheCleaner : ℕ → Sweeper → Type 0
  IsTheCleaner count c = node_named (moment e count) Cleaner ≡ Some (any.Cleaner c)

  -- of what the cleaner acted to be filed up to here no two segments are of this incarnation
  abbrev pub FilesOneOf : ℕ → ℕ → Type 0
  FilesOneOf count inc =
      (a b : SegName) → In (act.Filed a) (did e cleaners_number count) → In (act.Filed b) (did e cleaners_number count) → a.pass.inc ≡ inc → b.pass.inc ≡ inc
      → a ≡ b

  -- wherever it doesn't serve before an event and serves behind it, that is so at the end of the event
  abbrev pub TheCleanerFilesOne : Type 0
  TheCleanerFilesOne =
      (count : ℕ) (before after : Sweeper) → IsTheCleaner count before → is_serving before.phase ≡ false → IsTheCleaner (suc count) after
      → is_serving after.phase ≡ true → FilesOneOf (suc count) (lasting_of after.phase).inc
