-- What the owners of logs write: a client what its calls wrote, at first hand; the cleaner what it moved; a manager the pages of its checkpoints.
use Rattle.std.specs.Prelude.{◌≡◌, ◌<◌, ℕ, List, [], Option, None, IfSome, map}
use Rattle.std.specs.List.{AllByRecursion}
use Rattle.client_log.specs.LogState.{LogState}
use Rattle.run_laws.specs.index_reads.Clients.{AreFirstHand}
use Rattle.run_laws.specs.index_reads.Rows.{IsPlain, AreVersioned}
use Rattle.headline.specs.Filed.{IsNoPart}
use Rattle.log_flight.specs.declared.dirty.Change.{Change}
use Rattle.log_flight.specs.Flights.{FlightState}
use Rattle.node_slots.specs.node_tie.LogRows.{told}
use Rattle.segment_format.specs.declared.segment.Item.{Item}
use Rattle.segment_format.specs.declared.segment.Item.TheVariants.{Block, Delta, Part}
use Rattle.segment_format.specs.declared.segment.Segment.{Segment}
use Rattle.segment_format.specs.Rows.{rows_of}
use Rattle.segment_format.specs.Rule.{KeepsRule}
use Rattle.token_law.specs.Books.{AreOnce}
use Rattle.xfs_base.specs.declared.block.BlockId.{BlockId}

-- ---- segments

-- A segment that tells of blocks: it has Blocks and Deltas alone, of each block one Delta at most, each of a version from 1 on; and each Delta names the Block
-- of its value, which stands right before it, or none where the version is absent.
pub record TellsOnce (s : Segment) : Type 0 where
  pub no_parts : AllByRecursion IsNoPart s.items
  pub plain : IsPlain s
  pub versioned : AreVersioned s
  pub places : KeepsRule None 0 s.items

-- what a client writes: nothing of it was ever moved
pub record IsOriginal (s : Segment) : Type 0 where
  pub tells : TellsOnce s
  pub first_hand : AreFirstHand s

-- what the segment says was moved at least once
abbrev pub AreMoved : Segment → Type 0
AreMoved s = AllByRecursion (λ row. 0 < row.1.hop) (rows_of s)

-- what the cleaner writes
pub record IsCopies (s : Segment) : Type 0 where
  pub tells : TellsOnce s
  pub moved : AreMoved s

abbrev pub IsPart : Item → Type 0
IsPart (Block block value) = ⊥
IsPart (Delta block ver hop item) = ⊥
IsPart (Part slot rows) = Unit {0}

-- what a manager writes
abbrev pub IsPages : Segment → Type 0
IsPages s = AllByRecursion IsPart s.items

-- ---- logs

abbrev pub IsFirstHand : ℕ → Type 0
IsFirstHand hop = hop ≡ 0

abbrev pub IsMoved : ℕ → Type 0
IsMoved hop = 0 < hop

-- a version that waits is one from 1 on, and was moved so often
pub record IsWaiting (Moved : ℕ → Type 0) (change : Change) : Type 0 where
  pub version : 0 < change.entry.ver
  pub hop : Moved change.entry.hop

-- Of what waits no block stands twice, and each is such a version; what is in flight is so.
pub record WritesSo (Moved : ℕ → Type 0) (Flies : Segment → Type 0) (waits : List (BlockId × Change)) (flight : Option FlightState) : Type 0 where
  pub once : AreOnce (map told waits)
  pub each : AllByRecursion (λ (c : BlockId × Change). IsWaiting Moved c.1) waits
  pub flies : IfSome flight (λ f. Flies f.segment)

-- the log of a client that serves
abbrev pub WritesOriginals : LogState → Type 0
WritesOriginals s = WritesSo IsFirstHand IsOriginal s.dirty s.flight

-- the log of the cleaner that serves
abbrev pub WritesCopies : LogState → Type 0
WritesCopies s = WritesSo IsMoved IsCopies s.dirty s.flight

-- Nothing waits, and what is in flight is so.
pub record WritesOnly (Flies : Segment → Type 0) (waits : List (BlockId × Change)) (flight : Option FlightState) : Type 0 where
  pub clear : waits ≡ []
  pub flies : IfSome flight (λ f. Flies f.segment)

-- the log of a manager that serves
abbrev pub WritesPages : LogState → Type 0
WritesPages s = WritesOnly IsPages s.dirty s.flight

-- a log that is opened again: its opening segment has no items
abbrev pub WritesNothing : LogState → Type 0
WritesNothing s = WritesOnly (λ s. s.items ≡ []) s.dirty s.flight

-- ---- laws of segments

-- A segment without items is of each of these kinds.
pub record IsAnyKind (s : Segment) : Type 0 where
  pub original : IsOriginal s
  pub copies : IsCopies s
  pub pages : IsPages s

abbrev pub NothingIsAnyKind : Type 0
NothingIsAnyKind = (s : Segment) → s.items ≡ [] → IsAnyKind s

-- Another attempt of a segment, with the same items, is of its kind.
pub record IsAlike (s t : Segment) : Type 0 where
  pub original : IsOriginal s → IsOriginal t
  pub copies : IsCopies s → IsCopies t
  pub pages : IsPages s → IsPages t

abbrev pub AttemptsAreAlike : Type 0
AttemptsAreAlike = (s t : Segment) → s.items ≡ t.items → IsAlike s t
