-- What a client has in flight is news of each block of the slot: tokens know that it is above all that is filed.
use Rattle.std.proofs.Common.{◌≡◌, ℕ, zero, suc, ◌<◌, refl, ap, ◌∙◌, arith}
use Rattle.std.proofs.lemmas.Bool.{eq-eqb}
use Rattle.delta_index.specs.Join.{join}
use Rattle.headline.specs.Filed.{row_at}
use Rattle.index_tie.specs.Growth.{said_of}
use Rattle.index_tie.specs.Net as index
use Rattle.index_tie.proofs.Rows.{join_has}
use Rattle.segment_format.specs.Rows.{rows_of}
use Rattle.segment_format.specs.declared.segment.Segment.{Segment}
use Rattle.checkpoint.specs.WriterState.{Rows}
use Rattle.token_law.specs.Books.{row_in, said}
use Rattle.token_law.specs.Laws.{IsClient}
use Rattle.token_law.specs.Net as tokens
use Rattle.token_law.proofs.Laws.{flights_are_newer}
use Rattle.xfs_base.specs.Blocks.{slot_of}
use Rattle.xfs_base.specs.declared.block.BlockId.{BlockId}
use Rattle.xfs_base.specs.declared.entry.Entry.{Entry}
use Rattle.xfs_base.specs.declared.segment.SegRef.{SegRef}
use Rattle.run_laws.specs.index_reads.Clients.{IsFlight, FlightsAreNews, NothingIsNewer}
use Rattle.run_laws.specs.index_reads.Ties.{Tied}
use Rattle.run_laws.proofs.index_reads.Rows.{rows_are_entries}
use Rattle.run_laws.proofs.index_reads.Sayings.{same_version, of_log}
use Rattle.run_laws.proofs.index_reads.Worlds.{same, begins}

module _ (members part : ℕ) (holds : SegRef → Rows) (t : tokens.Net) (i : index.Net) (tied : Tied members part holds t i) (c : ℕ) (s : Segment)
    (fact : IsClient members c) (flight : IsFlight t c s) (b : BlockId) (inside : slot_of b.ino.0 ≡ part) where
  -- what the books have of the flight
  flown : (said t.books c (suc (t.books.end c)) b).version ≡ (said_of s b).ver
  flown = ap (λ rows. (row_in rows b).version) flight.rows ∙ (rows_are_entries s b flight.plain flight.versioned).version

  newer : 0 < (said_of s b).ver → (l q : ℕ) → (row_at i.filed b l q).ver < (said_of s b).ver
  newer some l q = by (row_at i.filed b l q).ver refl
    where
      by : (v : ℕ) → (row_at i.filed b l q).ver ≡ v → (row_at i.filed b l q).ver < (said_of s b).ver
      by zero none = omega arith
      by (suc v) has =
          let tells = same members part holds t i tied in
          let at = of_log t.books i.filed tells b l q (omega arith) in
          let version = same_version t.books i.filed tells b (begins members part holds t i tied) l q at.some at.limit at.to in
          let end = tied.books.end l at.some at.limit in
          let to = at.to in
          let its = flown in
          let above = flights_are_newer members part t b (record { run = tied.tokens_run; inside = eq-eqb (slot_of b.ino.0) part inside }) c fact
          (omega arith) l q
          (omega arith) in
          omega arith

pub flights_are_news : FlightsAreNews
flights_are_news members part holds t i c s tied fact flight b inside = record {
  newer = newer members part holds t i tied c s fact flight b inside;
  first_hand = λ some. join_has (λ (e : Entry). e.hop ≡ 0) b (rows_of s) refl flight.first_hand;
}

pub nothing_is_news : NothingIsNewer
nothing_is_news part f s none b inside =
    record {
      newer = λ some. absurd (let zero_ : (said_of s b).ver ≡ 0 = ap (λ rows. (join rows b).ver) none in omega arith);
      first_hand = λ some. ap (λ rows. (join rows b).hop) none;
    }
