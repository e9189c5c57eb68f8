-- A disk in memory, as contracts see it.
use Rattle.std.specs.Prelude.{◌≡◌, ℕ, ◌+◌, ◌-◌, ◌≤◌, Bool, true, false, Option, Some, None, List, [], ◌∷◌, ◌++◌, length, take, drop, nat_eq, if◌then◌else◌}
use Rattle.disk_shelf.specs.declared.logged.Logged.{Logged}
use Rattle.disk_shelf.specs.declared.logged.Logged.TheVariants as logged
use Rattle.xfs_base.specs.Causes.{next_count}
use Rattle.disk_shelf.specs.Deeds.{Deed, images}
use Rattle.disk_shelf.specs.Deeds.Deed.{Write, Sync}

-- all that it did, how many passes a stop that waits has left, whether it is stopped, and how often it failed
pub record Drive : Type 0 where
  pub deeds : List Deed
  pub passes : Option ℕ
  pub stopped : Bool
  pub faults : ℕ

-- a disk, and for how many more writes and syncs, and bytes in them, room was made
pub record MemState : Type 0 where
  pub drive : Drive
  pub calls_left : ℕ
  pub bytes_left : ℕ

abbrev pub new_drive : Drive
new_drive = record { deeds = []; passes = None; stopped = false; faults = 0 }

-- what it reads
abbrev pub disk_bytes : MemState → List ℕ
disk_bytes m = (images m.drive.deeds).read

-- whether the next write or sync is the one within which it stops
abbrev pub is_due : Option ℕ → Bool
is_due None = false
is_due (Some passes) = nat_eq passes 0

abbrev pub one_less : Option ℕ → Option ℕ
one_less None = None
one_less (Some passes) = Some (passes - 1)

abbrev pub failed : Drive → Drive
failed d = record d { faults = next_count d.faults }

-- a disk stops within what it does, and fails, or one pass less is left
abbrev pub passed : Bool → Drive → Drive
passed stops d = if stops then record (failed d) { stopped = true } else record d { passes = one_less d.passes }

-- a write or a sync: a stopped disk fails, and one whose stop is due stops within it
abbrev pub acted : Drive → (Bool → Deed) → Drive
acted d deed = if d.stopped then failed d else passed (is_due d.passes) (record d { deeds = d.deeds ++ deed (is_due d.passes) ∷ [] })

-- it stops within the write or sync after so many more
abbrev pub set_to_stop : Drive → ℕ → Drive
set_to_stop d passes = record d { passes = Some passes }

-- it runs, and no stop waits
abbrev pub started : Drive → Drive
started d = record d { passes = None; stopped = false }

-- how many bytes these writes have
abbrev pub total : List Logged → ℕ
total [] = 0
total (logged.Write at len stops ∷ ds) = len + total ds
total (logged.Sync stops ∷ ds) = total ds

-- the deeds, where the bytes of all writes stand one behind the other
abbrev pub told : List ℕ → List Logged → List Deed
told bytes [] = []
told bytes (logged.Write at len stops ∷ ds) = Write at (take len bytes) stops ∷ told (drop len bytes) ds
told bytes (logged.Sync stops ∷ ds) = Sync stops ∷ told bytes ds

-- Each byte belongs to a write, what is read and what is kept are what the deeds make and begin with so many bytes alike, and there is
-- room to take the one for the other.
pub record IsKept (deeds : List Logged) (written read kept : List ℕ) (alike room_read room_kept : ℕ) : Type 0 where
  pub all : total deeds ≡ length written
  pub same : record { read = read; kept = kept } ≡ images (told written deeds)
  pub within : alike ≤ length kept
  pub begins : take alike kept ≡ take alike read
  pub shorter : length kept ≤ length read
  pub room : (length read ≤ room_read) × (length read ≤ room_kept)
