-- What stands between two events of a play with servers that stop: its run, and the disks of its servers.
use Rattle.std.specs.Prelude.{◌≡◌, ◌≢◌, ℕ, ◌+◌, false, IsFalse, List, [], ◌∷◌, length, slice_get, slice_set, Option, Some, None}
use Rattle.disk_shelf.specs.Kept.{Kept}
use Rattle.disk_shelf.specs.MemDisk.{MemState, disk_bytes, set_to_stop}
use Rattle.disk_shelf.specs.declared.ask.Ask.{Ask}
use Rattle.disk_shelf.specs.Records.{StandsFor}
use Rattle.shelf_changes.specs.Changes.{ChangesByOne, shelf_after_one}
use Rattle.fragment_store.specs.ShelfState.{ShelfState}
use Rattle.script_text.specs.declared.script.Script.{Script}
use Rattle.version_model.specs.declared.work.Work.{Work}
use Rattle.wire_msg.specs.declared.packet.Do.{Do}
use Rattle.wire_msg.specs.NodeStep.{NodeStep}
use Rattle.world_base.specs.declared.estate.Estate.{Estate}
use Rattle.world_base.specs.declared.world.World.{World}
use Rattle.world_base.specs.Runs.{IsRun}
use Rattle.xfs_base.specs.declared.node.NodeId.{NodeId}
use Rattle.xfs_base.specs.declared.node.NodeId.TheVariants.{Server}
use Rattle.xfs_base.specs.declared.setup.Setup.{Setup}
use Rattle.disk_play.specs.declared.course.Course.{Course}
use Rattle.disk_play.specs.declared.stop.Fate.TheVariants.{Lost}
use Rattle.disk_play.specs.declared.stop.Stop.{Stop}
use Rattle.disk_play.specs.Courses.{disk_after, fate_for, shelf_at}
use Rattle.disk_play.specs.Disks.{OnDisk, drives, drives_told, new_disk, on_disk}

-- a shelf is open, and its disk runs, with no stop that waits
pub record Runs (shelf : Kept MemState) : Type 0 where
  pub is_open : IsFalse shelf.closed
  pub runs : shelf.disk.drive.stopped ≡ false
  pub waits : shelf.disk.drive.passes ≡ None

-- and nothing was kept on it yet
pub record IsNew (shelf : Kept MemState) : Type 0 where
  pub runs : Runs shelf
  pub new : on_disk shelf ≡ new_disk

-- a stop is set, where one is to wait
abbrev pub arm : Kept MemState → Option ℕ → Kept MemState
arm shelf None = shelf
arm shelf (Some passes) = record shelf { disk = record shelf.disk { drive = set_to_stop shelf.disk.drive passes } }

-- the shelf at a place is another, made of the one that was there
pub record ChangesAt (old new : List (Kept MemState)) (place : ℕ) (Makes : Kept MemState → Kept MemState → Type 0) : Type 0 where
  pub before : Kept MemState
  pub after : Kept MemState
  pub was : slice_get old place ≡ Some before
  pub is : new ≡ slice_set old place after
  pub makes : Makes before after

-- a shelf after an event that would make it this one, with this change, under a stop: it is, or it stays; and its disk is what the event makes of it
pub record Took (stop : Stop) (what : Do) (call : Option Ask) (before after : Kept MemState) : Type 0 where
  pub runs : Runs after
  pub disk : on_disk after ≡ disk_after stop what call (on_disk before)
  pub there : fate_for stop call ≢ Lost → after.state.shelf ≡ shelf_after_one before.state.shelf call
  pub lost : fate_for stop call ≡ Lost → after.state.shelf ≡ before.state.shelf

-- the call that is seen makes the shelf of a node after an event, where one call did
abbrev pub GivesOf : Do → ShelfState → Option ShelfState → Option Ask → Type 0
GivesOf what old None call = Unit {0}
GivesOf what old (Some new) call = ChangesByOne what old new → new ≡ shelf_after_one old call

-- a shelf on a disk is that of a node
pub record Follows (shelf : Kept MemState) (kept : Option ShelfState) : Type 0 where
  pub runs : Runs shelf
  pub same : kept ≡ Some shelf.state.shelf

-- there is a shelf for each server, and it is that of the server
pub record Follow {N : Type 0} (shelf_of : N → Option ShelfState) (w : World N) (shelves : List (Kept MemState)) : Type 0 where
  pub count : length shelves ≡ w.cluster.servers
  pub each : (place : ℕ) (shelf : Kept MemState) → slice_get shelves place ≡ Some shelf → Follows shelf (shelf_at shelf_of w (Server (place + 1)))

-- what happened is a run of the script, a stop is known of each server, and the shelves follow
pub record Stands {N : Type 0} (step : N → Do → NodeStep N) (first : NodeId → Setup → List Work → N) (shelf_of : N → Option ShelfState) (script : Script)
    (c : Course N) (shelves : List (Kept MemState)) : Type 0 where
  pub run : IsRun step first script c.player.events c.player.world
  pub stops : length c.stops ≡ length shelves
  pub follow : Follow shelf_of c.player.world shelves

-- these are the disks of these shelves, and each stands for what an open one keeps
abbrev pub AreTheirs : List (Kept MemState) → List MemState → Type 0
AreTheirs [] [] = Unit {0}
AreTheirs [] (d ∷ ds) = ⊥
AreTheirs (s ∷ ss) [] = ⊥
AreTheirs (s ∷ ss) (d ∷ ds) = ((d ≡ s.disk) × (IsFalse s.closed → StandsFor s.state (disk_bytes d))) × AreTheirs ss ds

-- a disk stands for what is said to be kept on it, and that has the shelf of the server at its place in a world
pub record StandsAt {N : Type 0} (shelf_of : N → Option ShelfState) (w : World N) (told : List OnDisk) (place : ℕ) (disk : MemState) : Type 0 where
  pub kept : OnDisk
  pub told_of : slice_get told place ≡ Some kept
  pub stands : StandsFor kept.state (disk_bytes disk)
  pub shelf : shelf_at shelf_of w (Server (place + 1)) ≡ Some kept.state.shelf

-- there is a disk for each server, it did all that is said, and each stands so
pub record DisksStand {N : Type 0} (shelf_of : N → Option ShelfState) (e : Estate N) (told : List OnDisk) (disks : List MemState) : Type 0 where
  pub count : length disks ≡ e.script.setup.servers
  pub did : drives disks ≡ drives_told told
  pub each : (place : ℕ) (disk : MemState) → slice_get disks place ≡ Some disk → StandsAt shelf_of e.world told place disk
