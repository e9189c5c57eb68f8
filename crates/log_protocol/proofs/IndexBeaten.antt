-- Beaten: a row that was answered Dead is strictly below the join of all that is filed, now and always.
-- Stands on Rows, Bounds and Joins.
use Rattle.std.proofs.Common.{◌≡◌, ℕ, ◌<◌, ◌≤◌, arith}
use Rattle.std.proofs.lemmas.Bool.Decides.{nat_tests}
use Rattle.log_protocol.specs.IndexState.{IndexState, new_block}
use Rattle.log_protocol.specs.IndexSteps.{CanBeat, beats, IndexStep}
use Rattle.log_protocol.specs.IndexSteps.IndexStep.{Files, Beats, Counts, Drops_row}
use Rattle.log_protocol.proofs.IndexRows.{IndexRows}
use Rattle.log_protocol.proofs.IndexBounds.{IndexBounds}
use Rattle.log_protocol.proofs.IndexJoins.{IndexJoins}
use Rattle.log_protocol.proofs.IndexPlaces.{named_beats}

pub record IndexBeaten (w : IndexState) : Type 0 where
  -- in version,
  pub below_version : (l q : ℕ) → w.beaten l q ≡ 1 → w.version l q ≤ w.joined.version
  -- of equal versions in hop,
  pub below_hop : (l q : ℕ) → w.beaten l q ≡ 1 → w.version l q ≡ w.joined.version → w.hop l q ≤ w.joined.hop
  -- of equal hops in seq
  pub below_seq : (l q : ℕ) → w.beaten l q ≡ 1 → 0 < w.version l q → w.version l q ≡ w.joined.version → w.hop l q ≡ w.joined.hop → w.joined.seq < q
  -- it is filed
  pub beaten_filed : (l q : ℕ) → w.beaten l q ≡ 1 → q ≤ w.head l
  -- who answered Dead told of such a row,
  pub told_beaten : (e l q : ℕ) → w.told e l q ≡ 1 → w.beaten l q ≡ 1
  -- only such a Dead is counted,
  pub dead_beaten : (l q : ℕ) → 0 < w.dead_at l q → w.beaten l q ≡ 1
  -- and only what is counted is dropped
  pub dropped_dead : (l q : ℕ) → w.dropped l q ≡ 1 → 0 < w.dead_at l q

-- what an active manager answers Dead is below what it names, and so below the join
record Below (w : IndexState) (l q : ℕ) : Type 0 where
  version : w.version l q ≤ w.joined.version
  hop : w.version l q ≡ w.joined.version → w.hop l q ≤ w.joined.hop
  seq : w.version l q ≡ w.joined.version → w.hop l q ≡ w.joined.hop → w.joined.seq < q
  filed : q ≤ w.head l

told_below : (w : IndexState) (d e l q : ℕ) → CanBeat w d e l q → IndexRows w → IndexBounds w → IndexJoins w → Below w l q
told_below w d e l q can rows bounds joins =
    let j = joins.each e can.on in
    let some = can.some in
    let lower = can.below in
    let rises = bounds.floor_rises d e l can.kept_by in
    let covered = bounds.active_covered e l can.on in
    let within : q ≤ w.applied e l = omega arith in
    let b = named_beats w (w.applied e) (w.index e) l q rows j within some can.elsewhere in
    let v = b.version in
    let s = j.within (omega arith) in
    let f = bounds.applied_filed e (w.index e).log in
    let its_version = j.its_version (omega arith) in
    let its_hop = j.its_hop (omega arith) in
    let n = rows.joined.newest (w.index e).log (w.index e).seq (omega arith) in
    record {
      version = omega arith;
      hop = λ same. let h = b.hop (omega arith) in let k = rows.joined.furthest (w.index e).log (w.index e).seq (omega arith) (omega arith) in omega arith;
      seq = λ same same_hop.
          let h = b.hop (omega arith) in
          let k = rows.joined.furthest (w.index e).log (w.index e).seq (omega arith) (omega arith) in
          let c = b.seq (omega arith) (omega arith) in
          let m = rows.joined.earliest (w.index e).log (w.index e).seq (omega arith) (omega arith) (omega arith) (omega arith) in
          omega arith;
      filed = let g = bounds.applied_filed e l in omega arith;
    }

-- so the facts on such rows hold of it too
beats_keeps_index_beaten : (w : IndexState) (d e l q : ℕ) → Below w l q → IndexBeaten w → IndexBeaten (beats w e l q)
beats_keeps_index_beaten w d e l q below beaten = grind (arith, nat_tests)

pub step_keeps_index_beaten : (w u : IndexState) → IndexStep w u → IndexRows w → IndexBounds w → IndexJoins w → IndexBeaten w → IndexBeaten u
step_keeps_index_beaten w u (Files l version can) rows bounds joins beaten = grind (arith, nat_tests)
step_keeps_index_beaten w u (Beats d e l q can) rows bounds joins beaten =
    beats_keeps_index_beaten w d e l q (told_below w d e l q can rows bounds joins) beaten
step_keeps_index_beaten w u (Counts e l q can) rows bounds joins beaten = grind (arith, nat_tests)
step_keeps_index_beaten w u (Drops_row l q can) rows bounds joins beaten = grind (arith, nat_tests)
step_keeps_index_beaten w u step rows bounds joins beaten = grind (arith, nat_tests)

pub new_block_index_beaten : (cleaner : ℕ) → IndexBeaten (new_block cleaner)
new_block_index_beaten cleaner = grind (arith, nat_tests)
