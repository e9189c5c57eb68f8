-- What a disk in memory did, and what it reads then.
use Rattle.std.specs.Prelude.{◌≡◌, ◌⊎◌, ℕ, ◌+◌, ◌-◌, ◌/◌, ◌≤◌, Bool, List, [], ◌∷◌, ◌++◌, length, take, drop, replicate, if◌then◌else◌}
use Rattle.disk_shelf.specs.Disk.{Elapses}

-- a write of a piece at an offset, or a sync, and whether the disk stopped within it
pub data Deed : Type 0 where
  Write : ℕ → List ℕ → Bool → Deed
  Sync : Bool → Deed

-- what it reads, and what it would read after a stop: of each write since the last sync there is the first half alone
pub record Images : Type 0 where
  pub read : List ℕ
  pub kept : List ℕ

-- zeros up to this offset, where the bytes end before it
abbrev pub padded : ℕ → List ℕ → List ℕ
padded at old = old ++ replicate (at - length old) 0

-- a piece over what is there, and behind it
abbrev pub written_over : List ℕ → ℕ → List ℕ → List ℕ
written_over old at piece = take at (padded at old) ++ piece ++ drop (at + length piece) (padded at old)

-- rounded up
abbrev pub first_half : List ℕ → List ℕ
first_half piece = take (length piece - length piece / 2) piece

-- a disk that stops reads from then on what it kept
abbrev pub stopped_at : Bool → List ℕ → List ℕ → Images
stopped_at stops read kept = record { read = if stops then kept else read; kept = kept }

abbrev pub after_deed : Images → Deed → Images
after_deed i (Write at piece stops) = stopped_at stops (written_over i.read at piece) (written_over i.kept at (first_half piece))
after_deed i (Sync stops) = stopped_at stops i.read (if stops then i.kept else i.read)

abbrev pub after_deeds : Images → List Deed → Images
after_deeds i [] = i
after_deeds i (d ∷ ds) = after_deeds (after_deed i d) ds

-- from an empty disk on
abbrev pub images : List Deed → Images
images deeds = after_deeds (record { read = []; kept = [] }) deeds

-- a crash leaves what it reads, or what it would read after a stop
abbrev pub IsImage : Images → List ℕ → Type 0
IsImage i c = (c ≡ i.read) ⊎ (c ≡ i.kept)

-- a crash after the first so many deeds, no fewer than t, would have left this
pub record WasImage (deeds : List Deed) (t : ℕ) (c : List ℕ) : Type 0 where
  pub count : ℕ
  pub late : t ≤ count
  pub done : count ≤ length deeds
  pub left : IsImage (images (take count deeds)) c

-- Time goes on from the one list of deeds to the other: what is new is an image of the last moment.
abbrev pub Goes : List Deed → List Deed → Type 0
Goes old new = Elapses (length old) (length new) (WasImage old) (WasImage new) (IsImage (images new))
