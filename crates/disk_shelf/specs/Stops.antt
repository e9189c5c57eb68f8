-- What a stop that waits makes of a change: a change takes four writes and syncs of its disk.
use Rattle.std.specs.Prelude.{◌≡◌, ℕ, ◌-◌, nat_le, not, Bool, true, false, if◌then◌else◌, Option, Some, None, List}
use Rattle.disk_shelf.specs.Deeds.{IsImage, images}
use Rattle.disk_shelf.specs.Deeds.Deed.{Write, Sync}
use Rattle.disk_shelf.specs.declared.record.Record.{Record}
use Rattle.disk_shelf.specs.Drives.{opened, with_record}
use Rattle.disk_shelf.specs.MemDisk.{MemState, acted, disk_bytes, failed}
use Rattle.disk_shelf.specs.Records.{DiskState, StandsFor}
use Rattle.disk_shelf.specs.Steps.{OpenedBy, TookRecord}

-- a change is answered where no stop waits, or four passes are left to it
abbrev pub is_answered : Option ℕ → Bool
is_answered None = true
is_answered (Some passes) = nat_le 4 passes

-- and it uses four
abbrev pub passes_after : Option ℕ → Option ℕ
passes_after None = None
passes_after (Some passes) = Some (passes - 4)

-- one that is not answered is on the disk where two were left, since its gate opens in the third
abbrev pub is_there : Option ℕ → Bool
is_there None = true
is_there (Some passes) = nat_le 2 passes

-- how a change ends on a disk in memory that runs: its record was added, up to the call within which it stopped. It is answered, with four
-- passes less; or else the disk stopped, and reads what stands for the state before or after, as so many passes were left
pub record EndsByPasses (old : MemState) (s t : DiskState) (change : Record) (ok : Bool) (new : MemState) : Type 0 where
  pub drive : new.drive ≡ with_record change old.drive
  pub runs : ok ≡ not new.drive.stopped
  pub answered : ok ≡ is_answered old.drive.passes
  pub passed : ok ≡ true → (new.drive.passes ≡ passes_after old.drive.passes) × (new.drive.stopped ≡ false)
  pub cut : ok ≡ false → StandsFor (if is_there old.drive.passes then t else s) (disk_bytes new)

-- a disk in memory took the record of a change, or failed within that
abbrev pub MemTook : MemState → DiskState → DiskState → Record → Bool → MemState → Type 0
MemTook =
    TookRecord (λ (m : MemState). disk_bytes m) (λ (m : MemState) (c : List ℕ). IsImage (images m.drive.deeds) c)
    (λ (m n : MemState). n.drive ≡ m.drive)
    (λ (m : MemState) (at : ℕ) (piece : List ℕ) (ok : Bool) (n : MemState). (n.drive ≡ acted m.drive (Write at piece)) × (ok ≡ not n.drive.stopped))
    (λ (m : MemState) (ok : Bool) (n : MemState). (n.drive ≡ acted m.drive Sync) × (ok ≡ not n.drive.stopped))

-- each change ends so
abbrev pub ChangesEndByPasses : Type 0
ChangesEndByPasses =
    (old : MemState) (s t : DiskState) (change : Record) (ok : Bool) (new : MemState) → old.drive.stopped ≡ false → MemTook old s t change ok new
    → EndsByPasses old s t change ok new

-- a disk in memory was opened
abbrev pub MemOpened : MemState → MemState → Type 0
MemOpened =
    OpenedBy (λ (m : MemState). disk_bytes m) (λ (m n : MemState). n.drive ≡ m.drive)
    (λ (m : MemState) (ok : Bool) (n : MemState). (n.drive ≡ (if m.drive.stopped then failed m.drive else m.drive)) × (ok ≡ not m.drive.stopped))
    (λ (m : MemState) (at : ℕ) (piece : List ℕ) (ok : Bool) (n : MemState). (n.drive ≡ acted m.drive (Write at piece)) × (ok ≡ not n.drive.stopped))
    (λ (m : MemState) (ok : Bool) (n : MemState). (n.drive ≡ acted m.drive Sync) × (ok ≡ not n.drive.stopped))

-- each is opened so
abbrev pub DisksOpenSo : Type 0
DisksOpenSo = (old new : MemState) → MemOpened old new → new.drive ≡ opened old.drive
