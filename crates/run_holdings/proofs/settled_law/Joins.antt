-- The join of all that logs filed of a block: what each filed row has it has, and it is no older than any of them.
use Rattle.std.proofs.Common.{◌≡◌, ◌⊎◌, ℕ, zero, suc, ◌+◌, ◌-◌, ◌<◌, ◌≤◌, ◌==◌, Bool, true, false, cond, List, inl, inr, refl, sym, subst, arith}
use Rattle.std.proofs.lemmas.Bool.Decides.{nat_tests}
use Rattle.std.specs.List.{flat_map, range_with_len}
use Rattle.delta_index.proofs.JoinAlgebra.{join-append}
use Rattle.delta_index.specs.Entries.{first_greatest, is_newer, no_entry}
use Rattle.delta_index.specs.Join.{join}
use Rattle.index_tie.proofs.Rows.{one_of}
use Rattle.headline.specs.Filed.{Filed, row_at, rows_at}
use Rattle.headline.specs.Settled.{rows_of_log, settled_entry}
use Rattle.xfs_base.specs.declared.block.BlockId.{BlockId}
use Rattle.xfs_base.specs.declared.entry.Entry.{Entry}
use Rattle.xfs_base.specs.Limits.{block_logs}

-- of two entries the greater is no older than either
no_older : (a b : Entry) → (a.ver ≤ (first_greatest a b).ver) × (b.ver ≤ (first_greatest a b).ver)
no_older a b = by (is_newer b a) refl
  where
    by : (t : Bool) → is_newer b a ≡ t → (a.ver ≤ (cond t b a).ver) × (b.ver ≤ (cond t b a).ver)
    by true fact = (grind (arith, nat_tests), omega arith)
    by false fact = (omega arith, grind (arith, nat_tests))

-- a number of a range is its first, or one of the rest
first_or_later : (first k n : ℕ) → first ≤ k → k < first + suc n → (k ≡ first) ⊎ ((first + 1 ≤ k) × (k < first + 1 + n))
first_or_later first k n from to = by (k == first) refl
  where
    by : (t : Bool) → (k == first) ≡ t → (k ≡ first) ⊎ ((first + 1 ≤ k) × (k < first + 1 + n))
    by true fact = inl (grind (arith, nat_tests))
    by false fact = inr (grind (arith, nat_tests), omega arith)

-- ---- lists of rows, by number

module _ (rows : ℕ → List (BlockId × Entry)) (b : BlockId) where
  abbrev over : ℕ → ℕ → Entry
  over first n = join (flat_map rows (range_with_len first n)) b

  -- what holds of no entry, and of the join of each list, holds of the join of all
  pub join_each : (P : Entry → Type 0) → P no_entry → (n first : ℕ) → ((k : ℕ) → first ≤ k → k < first + n → P (join (rows k) b)) → P (over first n)
  join_each P none zero first each = none
  join_each P none (suc n) first each =
      subst P (sym (join-append (rows first) (flat_map rows (range_with_len (first + 1) n)) b))
      (one_of P (join (rows first) b) (over (first + 1) n) (each first (omega arith) (omega arith))
      (join_each P none n (first + 1) (λ k from to. each k (omega arith) (omega arith))))

  -- the join of all is no older than that of each
  pub join_later : (n first k : ℕ) → first ≤ k → k < first + n → (join (rows k) b).ver ≤ (over first n).ver
  join_later zero first k from to = absurd (omega arith)
  join_later (suc n) first k from to =
      subst (λ (e : Entry). (join (rows k) b).ver ≤ e.ver) (sym (join-append (rows first) (flat_map rows (range_with_len (first + 1) n)) b))
      (by (first_or_later first k n from to) (λ low high. join_later n (first + 1) k low high))
    where
      both : ((join (rows first) b).ver ≤ (first_greatest (join (rows first) b) (over (first + 1) n)).ver)
          × ((over (first + 1) n).ver ≤ (first_greatest (join (rows first) b) (over (first + 1) n)).ver)
      both = no_older (join (rows first) b) (over (first + 1) n)

      by : (k ≡ first) ⊎ ((first + 1 ≤ k) × (k < first + 1 + n))
          → (first + 1 ≤ k → k < first + 1 + n → (join (rows k) b).ver ≤ (over (first + 1) n).ver)
          → (join (rows k) b).ver ≤ (first_greatest (join (rows first) b) (over (first + 1) n)).ver
      by (inl same) rest =
          subst (λ x. (join (rows x) b).ver ≤ (first_greatest (join (rows first) b) (over (first + 1) n)).ver) (sym same) both.0
      by (inr later) rest = let less = rest later.0 later.1 in let last = both.1 in omega arith

-- ---- what is filed

-- what holds of no entry, and of each filed row, holds of the join
pub settled_each : (f : Filed) (b : BlockId) (P : Entry → Type 0) → P no_entry
    → ((l q : ℕ) → 0 < l → l ≤ block_logs → 0 < q → q ≤ f.head l → P (row_at f b l q)) → P (settled_entry f b)
settled_each f b P none each =
    join_each (rows_of_log f) b P none block_logs 1
    (λ l from to. join_each (rows_at f l) b P none (suc (f.head l) - 1) 1 (λ q some limit. each l q (omega arith) (omega arith) (omega arith) (omega arith)))

-- the join is no older than a filed row
pub settled_later : (f : Filed) (b : BlockId) (l q : ℕ) → 0 < l → l ≤ block_logs → 0 < q → q ≤ f.head l → (row_at f b l q).ver ≤ (settled_entry f b).ver
settled_later f b l q some limit from to =
    let low : (row_at f b l q).ver ≤ (join (rows_of_log f l) b).ver = join_later (rows_at f l) b (suc (f.head l) - 1) 1 q (omega arith) (omega arith) in
    let high : (join (rows_of_log f l) b).ver ≤ (settled_entry f b).ver = join_later (rows_of_log f) b block_logs 1 l (omega arith) (omega arith) in
    omega arith
