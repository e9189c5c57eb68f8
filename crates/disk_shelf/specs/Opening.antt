-- What an error of opening gives back, and when it comes.
use Rattle.std.specs.Prelude.{ℕ, ◌<◌, List, length}
use Rattle.xfs_base.specs.Causes.{Rose}
use Rattle.disk_shelf.specs.declared.disk_error.OpenError.{OpenError}
use Rattle.disk_shelf.specs.declared.disk_error.OpenError.TheVariants.{Damaged, Fault, Memory}
use Rattle.disk_shelf.specs.Reading.{IsDamaged}

-- the disk that an error gives back
abbrev pub disk_of : {D : Type 0} → OpenError D → D
disk_of (Damaged disk at) = disk
disk_of (Fault disk) = disk
disk_of (Memory disk) = disk

-- a disk is damaged, with more than one byte; or it failed since; want of memory has no cause that is told
abbrev pub HasCause : {D : Type 0} → (D → List ℕ) → (D → ℕ) → D → OpenError D → Type 0
HasCause seen faults old (Damaged disk at) = IsDamaged at (seen old) × (1 < length (seen old))
HasCause seen faults old (Fault disk) = Rose (faults old) (faults disk)
HasCause seen faults old (Memory disk) = Unit {0}
