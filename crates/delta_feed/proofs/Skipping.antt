-- A push goes over the segments that it tells, and over no others: those up to a number have no rows above it.
use Rattle.std.proofs.Common.{◌≡◌, ℕ, ◌<◌, ◌≤◌, zero, suc, true, false, cond, List, [], ◌∷◌, ◌++◌, length, get_or, drop, refl, sym, ap, ◌∙◌, arith}
use Rattle.std.specs.Prelude.{nat_lt}
use Rattle.std.specs.List.Sorted.{IsPartitionPoint}
use Rattle.std.proofs.lemmas.Bool.Decides.{nat_tests}
use Rattle.delta_feed.specs.declared.feed.FiledDeltas.{FiledDeltas}
use Rattle.delta_feed.specs.Transition.{slot_rows, all_rows, rows_after}

module _ (slot number : ℕ) where
  below : (f : FiledDeltas) (fs : List FiledDeltas) → f.seq ≤ number → rows_after slot number (f ∷ fs) ≡ rows_after slot number fs
  below f fs l = let p : nat_lt number f.seq ≡ false = grind (arith, nat_tests) in ap (λ t. cond t (slot_rows slot f.rows) [] ++ rows_after slot number fs) p

  above : (f : FiledDeltas) (fs : List FiledDeltas) → number < f.seq → rows_after slot number (f ∷ fs) ≡ slot_rows slot f.rows ++ rows_after slot number fs
  above f fs l = let p : nat_lt number f.seq ≡ true = grind (arith, nat_tests) in ap (λ t. cond t (slot_rows slot f.rows) [] ++ rows_after slot number fs) p

  all_above : (fs : List FiledDeltas) → ((k : ℕ) (d : FiledDeltas) → k < length fs → number < (get_or fs k d).seq)
      → rows_after slot number fs ≡ all_rows slot fs
  all_above [] h = refl
  all_above (f ∷ fs) h = above f fs (h 0 f (omega arith)) ∙ ap (λ rows. slot_rows slot f.rows ++ rows) (all_above fs (λ k d l. h (suc k) d (omega arith)))

  -- the rows above a number are all rows of the segments from the first above it
  pub skipped : (fs : List FiledDeltas) (known : ℕ) → IsPartitionPoint (λ (f : FiledDeltas). f.seq ≤ number) (λ (f : FiledDeltas). number < f.seq) fs known
      → all_rows slot (drop known fs) ≡ rows_after slot number fs
  skipped fs zero point = sym (all_above fs (λ k d l. point.1 k d (omega arith) l))
  skipped [] (suc known) point = refl
  skipped (f ∷ fs) (suc known) point =
      skipped fs known (λ k d from upto. point.0 (suc k) d (omega arith) (omega arith), λ k d from upto. point.1 (suc k) d (omega arith) (omega arith))
      ∙ sym (below f fs (point.0 0 f (omega arith) (omega arith)))
