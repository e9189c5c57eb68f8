-- What the events of a play make of the disk of a server: a function of what is kept on it, of the event and of the stop that waits.
use Rattle.std.specs.Prelude.{ℕ, zero, suc, nat_lt, ◌&&◌, ◌==◌, if◌then◌else◌, List, [], ◌∷◌, map, Option, Some, None}
use Rattle.disk_shelf.specs.Asks.{after_ask, record_of}
use Rattle.disk_shelf.specs.declared.ask.Ask.{Ask}
use Rattle.disk_shelf.specs.declared.ask.Ask.TheVariants as asks
use Rattle.disk_shelf.specs.Drives.{reopened, with_record}
use Rattle.disk_shelf.specs.Kept.{Kept}
use Rattle.disk_shelf.specs.MemDisk.{Drive, MemState, new_drive, set_to_stop, started}
use Rattle.disk_shelf.specs.Records.{DiskState, new_state}
use Rattle.disk_shelf.specs.Stops.{is_there}
use Rattle.wire_msg.specs.declared.body.Body.{Body}
use Rattle.wire_msg.specs.declared.body.Body.TheVariants as body
use Rattle.wire_msg.specs.declared.packet.Do.{Do}
use Rattle.wire_msg.specs.declared.packet.Do.TheVariants.{Deliver}

-- all that a disk did, and what is kept on it
pub record OnDisk : Type 0 where
  pub drive : Drive
  pub state : DiskState

-- an empty disk that was opened
abbrev pub new_disk : OnDisk
new_disk = record { drive = reopened new_drive; state = new_state }

-- a stop is set, where one is to wait
abbrev pub to_stop : Option ℕ → Drive → Drive
to_stop None d = d
to_stop (Some passes) d = set_to_stop d passes

-- a disk that stopped within a change is opened again at once
abbrev pub runs_again : Drive → Drive
runs_again d = if d.stopped then reopened d else started d

-- a change, under a stop that lets so many writes and syncs pass, where one waits
abbrev pub changed : Option ℕ → Ask → OnDisk → OnDisk
changed passes call k = record {
  drive = runs_again (with_record (record_of k.state.shelf call) (to_stop passes k.drive));
  state = if is_there passes then after_ask k.state call else k.state;
}

-- the generation of the Welcome that came; none where none did
abbrev pub welcome_in : Body → Option ℕ
welcome_in (body.Welcome m) = Some m.inc
welcome_in other = None

abbrev pub welcome_of : Do → Option ℕ
welcome_of (Deliver packet) = welcome_in packet.body
welcome_of what = None

-- that the Welcome of a generation was had is kept once
abbrev pub welcomed : ℕ → OnDisk → OnDisk
welcomed generation k = if k.state.welcomed == generation then k else changed None (asks.Welcome generation) k

-- and only where it is for the generation of the shelf, and that began with the loss of the disk
abbrev pub welcomed_by : Option ℕ → OnDisk → OnDisk
welcomed_by None k = k
welcomed_by (Some generation) k = if nat_lt 1 generation && (generation == k.state.shelf.generation) then welcomed generation k else k

-- the disk at a place is changed
abbrev pub change_at : (OnDisk → OnDisk) → ℕ → List OnDisk → List OnDisk
change_at change place [] = []
change_at change zero (k ∷ disks) = change k ∷ disks
change_at change (suc place) (k ∷ disks) = k ∷ change_at change place disks

-- what is kept on the disk of a shelf
abbrev pub on_disk : Kept MemState → OnDisk
on_disk shelf = record { drive = shelf.disk.drive; state = shelf.state }

abbrev pub on_disks : List (Kept MemState) → List OnDisk
on_disks shelves = map on_disk shelves

-- all that disks did, and all that is said of disks
abbrev pub drives : List MemState → List Drive
drives disks = map (λ (m : MemState). m.drive) disks

abbrev pub drives_told : List OnDisk → List Drive
drives_told disks = map (λ (k : OnDisk). k.drive) disks
