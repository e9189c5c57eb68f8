-- Lists that have a number of each log: one is read, one is put in, and the nine are given.
use Rattle.std.proofs.Common.{◌≡◌, ℕ, zero, suc, ◌+◌, ◌≤◌, List, [], ◌∷◌, map, subst, arith}
use Rattle.std.specs.Prelude.{slice_index, slice_set}
use Rattle.std.specs.List.{range_with_len}
use Rattle.xfs_base.specs.Limits.{block_logs}
use Rattle.node_tellings.specs.filed_tie.Reach.{Reach, NumbersUpto}

-- the number of the log at a place
pub number_at : (limit : Reach) (log : ℕ) (numbers : List ℕ) (place at : ℕ) → log + place ≡ at → NumbersUpto limit log numbers
    → slice_index numbers place ≤ limit at
number_at limit log [] place at fact all = omega arith
number_at limit log (n ∷ ns) zero at fact all = subst (λ l. n ≤ limit l) (let e : log ≡ at = omega arith in e) all.0
number_at limit log (n ∷ ns) (suc place) at fact all = number_at limit (suc log) ns place at (omega arith) all.1

-- it is another
pub number_put : (limit : Reach) (log : ℕ) (numbers : List ℕ) (place at new : ℕ) → log + place ≡ at → new ≤ limit at → NumbersUpto limit log numbers
    → NumbersUpto limit log (slice_set numbers place new)
number_put limit log [] place at new fact here all = tt
number_put limit log (n ∷ ns) zero at new fact here all = (subst (λ l. new ≤ limit l) (let e : at ≡ log = omega arith in e) here, all.1)
number_put limit log (n ∷ ns) (suc place) at new fact here all = (all.0, number_put limit (suc log) ns place at new (omega arith) here all.1)

-- each of the logs 1 to 9 has its own
pub numbers_of : (limit : Reach) (number : ℕ → ℕ) → ((log : ℕ) → 1 ≤ log → number log ≤ limit log) → NumbersUpto limit 1 (map number (range_with_len 1 block_logs))
numbers_of limit number upto =
    let at = λ (before : ℕ). upto (suc before) (omega arith) in
    (at 0, (at 1, (at 2, (at 3, (at 4, (at 5, (at 6, (at 7, (at 8, tt)))))))))

-- none is below itself, where one rises
pub not_below : (numbers : List ℕ) (place new other : ℕ) → slice_index numbers place ≤ new
    → slice_index numbers other ≤ slice_index (slice_set numbers place new) other
not_below [] place new other up = omega arith
not_below (n ∷ ns) zero new zero up = up
not_below (n ∷ ns) zero new (suc other) up = omega arith
not_below (n ∷ ns) (suc place) new zero up = omega arith
not_below (n ∷ ns) (suc place) new (suc other) up = not_below ns place new other up
