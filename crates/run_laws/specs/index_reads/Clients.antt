-- What tokens give the index: what a client has in flight is news there, once it is filed.
use Rattle.std.specs.Prelude.{◌≡◌, ℕ, suc, []}
use Rattle.std.specs.List.{AllByRecursion}
use Rattle.checkpoint.specs.WriterState.{Rows}
use Rattle.headline.specs.Filed.{Filed}
use Rattle.index_tie.specs.Net as index
use Rattle.node_slots.specs.node_tie.LogRows.{rows_told}
use Rattle.node_slots.specs.owner_index_tie.ClientEvents.{IsNewerAtSlot}
use Rattle.segment_format.specs.Rows.{rows_of}
use Rattle.segment_format.specs.declared.segment.Segment.{Segment}
use Rattle.token_law.specs.Laws.{IsClient}
use Rattle.token_law.specs.Net as tokens
use Rattle.xfs_base.specs.declared.segment.SegRef.{SegRef}
use Rattle.run_laws.specs.index_reads.Rows.{IsPlain, AreVersioned}
use Rattle.run_laws.specs.index_reads.Ties.{Tied}

-- what the segment says was never moved
abbrev pub AreFirstHand : Segment → Type 0
AreFirstHand s = AllByRecursion (λ row. row.1.hop ≡ 0) (rows_of s)

-- The segment says what stands behind the end of a client's log, at first hand.
pub record IsFlight (t : tokens.Net) (c : ℕ) (s : Segment) : Type 0 where
  pub rows : t.books.rows c (suc (t.books.end c)) ≡ rows_told s.items
  pub plain : IsPlain s
  pub versioned : AreVersioned s
  pub first_hand : AreFirstHand s

-- What a client has in flight, or had when it fell, is news of each block of the slot: newer than all that is filed, at first hand.
abbrev pub FlightsAreNews : Type 0
FlightsAreNews =
    (members part : ℕ) (holds : SegRef → Rows) (t : tokens.Net) (i : index.Net) (c : ℕ) (s : Segment) → Tied members part holds t i → IsClient members c
    → IsFlight t c s → IsNewerAtSlot part i.filed s

-- A segment that says nothing of blocks is news of each.
abbrev pub NothingIsNewer : Type 0
NothingIsNewer = (part : ℕ) (f : Filed) (s : Segment) → rows_of s ≡ [] → IsNewerAtSlot part f s
