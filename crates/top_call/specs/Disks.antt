-- What a call of the program answers of the disks of servers.
use Rattle.std.specs.Prelude.{◌≡◌, ℕ, ◌+◌, List, length, slice_get, Option, Some, None}
use Rattle.disk_play.specs.Courses.{disk_estate_of, disks_of, shelf_at}
use Rattle.disk_play.specs.Disks.{OnDisk, drives, drives_told}
use Rattle.disk_shelf.specs.MemDisk.{MemState, disk_bytes}
use Rattle.disk_shelf.specs.Records.{DiskState, StandsFor}
use Rattle.fragment_store.specs.ShelfState.{ShelfState}
use Rattle.version_model.specs.declared.work.Work.{Work}
use Rattle.wire_msg.specs.declared.packet.Do.{Do}
use Rattle.wire_msg.specs.NodeStep.{NodeStep}
use Rattle.world_base.specs.declared.estate.Estate.{Estate}
use Rattle.world_base.specs.declared.world.World.{World}
use Rattle.xfs_base.specs.declared.node.NodeId.{NodeId}
use Rattle.xfs_base.specs.declared.node.NodeId.TheVariants.{Server}
use Rattle.xfs_base.specs.declared.setup.Setup.{Setup}
use Rattle.top_call.specs.declared.command.Command.{Command}
use Rattle.top_call.specs.declared.command.Command.TheVariants.{Disks}

-- `open` of this disk, without fault, gives what is said to be kept on the disk of this place, the shelf and the last Welcome: `open` gives a state for
-- which the disk stands, and it stands for this one alone. The shelf is that of the server in a world.
pub record Gives {N : Type 0} (shelf_of : N → Option ShelfState) (w : World N) (told : List OnDisk) (place : ℕ) (disk : MemState) : Type 0 where
  pub kept : OnDisk
  pub told_of : slice_get told place ≡ Some kept
  pub stands : StandsFor kept.state (disk_bytes disk)
  pub only : (s : DiskState) → StandsFor s (disk_bytes disk) → s ≡ kept.state
  pub shelf : shelf_at shelf_of w (Server (place + 1)) ≡ Some kept.state.shelf

-- There is a disk for each server, in their order. Each did all the writes and syncs that are said, so that it has their bytes; and it gives what is said to
-- be kept on it, with the shelf of that server in the world in which the run ends.
pub record DisksGive {N : Type 0} (shelf_of : N → Option ShelfState) (e : Estate N) (told : List OnDisk) (disks : List MemState) : Type 0 where
  pub count : length disks ≡ e.script.setup.servers
  pub did : drives disks ≡ drives_told told
  pub each : (place : ℕ) (disk : MemState) → slice_get disks place ≡ Some disk → Gives shelf_of e.world told place disk

module _ {N : Type 0} (step : N → Do → NodeStep N) (first : NodeId → Setup → List Work → N) (shelf_of : N → Option ShelfState) where
  -- the run is the one that its script determines with servers that stop, and so are the disks that it leaves
  pub record LeavesDisks (e : Estate N) (told : Option (List MemState)) : Type 0 where
    pub determined : e ≡ disk_estate_of step shelf_of first e.script
    pub disks : List MemState
    pub are : told ≡ Some disks
    pub give : DisksGive shelf_of e (disks_of step shelf_of first e.script) disks

  -- where there is no run, there are no disks
  abbrev pub DisksIn : Option (Estate N) → Option (List MemState) → Type 0
  DisksIn None told = told ≡ None
  DisksIn (Some e) told = LeavesDisks e told

  -- the disks are there exactly where the word is `disks` and there is a run
  abbrev pub DisksOf : Option Command → Option (Estate N) → Option (List MemState) → Type 0
  DisksOf (Some Disks) o told = DisksIn o told
  DisksOf command o told = told ≡ None
