-- What opening makes of a disk, and a change, call by call, where a disk tells what each of its calls makes of it.
use Rattle.std.specs.Prelude.{◌≡◌, ◌⊎◌, ℕ, ◌+◌, ◌<◌, ◌≤◌, Bool, true, false, List, [], ◌∷◌, ◌++◌, length}
use Rattle.disk_shelf.specs.declared.record.Record.{Record}
use Rattle.disk_shelf.specs.Records.{DiskState, Fits, IsAtRest, after_record, text}

module _ {D : Type 0} (by_write : D → ℕ → List ℕ → Bool → D → Type 0) (by_sync : D → Bool → D → Type 0) where
  -- a write and a sync, or a write that fails
  abbrev pub PutBy : D → ℕ → List ℕ → Bool → D → Type 0
  PutBy old at piece ok new = (by_write old at piece false new × (ok ≡ false)) ⊎ ((mid : D) × by_write old at piece true mid × by_sync mid ok new)

  -- a record behind the closed gate, and then a 1 over that gate
  abbrev pub AppendedBy : D → ℕ → List ℕ → Bool → D → Type 0
  AppendedBy old gate behind ok new =
      (PutBy old (gate + 1) behind false new × (ok ≡ false)) ⊎ ((mid : D) × PutBy old (gate + 1) behind true mid × PutBy mid gate (1 ∷ []) ok new)

-- A disk at rest took this record, which makes the one state of the other and for which room was made, or it failed within that.
pub record TookRecord {D : Type 0} (seen : D → List ℕ) (may_leave : D → List ℕ → Type 0) (by_room : D → D → Type 0)
    (by_write : D → ℕ → List ℕ → Bool → D → Type 0) (by_sync : D → Bool → D → Type 0) (old : D) (s t : DiskState) (change : Record) (ok : Bool) (new : D)
    : Type 0 where
  pub fits : Fits change
  pub makes : after_record s change ≡ t
  pub gate : ℕ
  pub rests : IsAtRest seen may_leave old gate s
  pub roomy : D
  pub room : by_room old roomy
  pub appended : AppendedBy by_write by_sync roomy gate (text change ++ 0 ∷ []) ok new

-- a sync, for which room was made; and then the first gate, where the disk has one byte at most
pub record SettledBy {D : Type 0} (seen : D → List ℕ) (by_room : D → D → Type 0) (by_write : D → ℕ → List ℕ → Bool → D → Type 0)
    (by_sync : D → Bool → D → Type 0) (old new : D) : Type 0 where
  pub roomy : D
  pub room : by_room old roomy
  pub synced : D
  pub sync : by_sync roomy true synced
  pub gate : (1 < length (seen synced)) × (new ≡ synced) ⊎ (length (seen synced) ≤ 1) × PutBy by_write by_sync synced 0 (0 ∷ []) true new

-- and then a read of all
pub record OpenedBy {D : Type 0} (seen : D → List ℕ) (by_room : D → D → Type 0) (by_read : D → Bool → D → Type 0)
    (by_write : D → ℕ → List ℕ → Bool → D → Type 0) (by_sync : D → Bool → D → Type 0) (old new : D) : Type 0 where
  pub settled : D
  pub settles : SettledBy seen by_room by_write by_sync old settled
  pub read : by_read settled true new
