-- What moves and restarts of managers make of the entry of a slot, and of the incarnations that are kept.
use Rattle.std.proofs.Common.{◌≡◌, ◌≢◌, ℕ, zero, suc, ◌+◌, ◌%◌, ◌<◌, ◌≤◌, Bool, true, false, cond, ◌&&◌, not, List, [], ◌∷◌, length, refl, sym, ap, ◌∙◌, subst, unwrap_or, Some, arith, nat_lt, slice_set}
use Rattle.std.specs.Prelude.{◌==◌}
use Rattle.std.specs.BTreeMap.{is_at, insert_entry}
use Rattle.std.specs.List.{fold, list_all, range_with_len}
use Rattle.std.specs.Map.{lookup}
use Rattle.std.specs.Ordering.{nat_cmp, eq_by_cmp}
use Rattle.std.proofs.lemmas.Bool.Decides.{nat_tests}
use Rattle.std.proofs.lemmas.Cmp.{eq_by_cmp_equiv, nat_cmp_total}
use Rattle.std.proofs.Math.ListN.{length-set}
use Rattle.manager_map.specs.declared.entry.SlotEntry.{SlotEntry}
use Rattle.manager_map.specs.Slots.{entry_at, next_entry, manager_map_advance}
use Rattle.registry.specs.Board.{inc_of}
use Rattle.registry.specs.Slots.{all_slots, entry_of, raise_one, raised, can_rise_one, can_rise}
use Rattle.xfs_base.proofs.BlockOrder.{lookup-insert_entry}
use Rattle.xfs_base.proofs.Booleans.{by_test, or_second}
use Rattle.xfs_base.specs.Limits.{u32_end}

-- ---- one entry

pub set_other : (es : List SlotEntry) (at slot : ℕ) (e : SlotEntry) → at ≢ slot → entry_at (slice_set es at e) slot ≡ entry_at es slot
set_other [] at slot e apart = refl
set_other (x ∷ xs) zero zero e apart = absurd (apart refl)
set_other (x ∷ xs) zero (suc slot) e apart = refl
set_other (x ∷ xs) (suc at) zero e apart = refl
set_other (x ∷ xs) (suc at) (suc slot) e apart = set_other xs at slot e (λ same. apart (ap suc same))

pub set_same : (es : List SlotEntry) (at : ℕ) (e : SlotEntry) → at < length es → entry_at (slice_set es at e) at ≡ e
set_same [] at e within = absurd (omega arith)
set_same (x ∷ xs) zero e within = refl
set_same (x ∷ xs) (suc at) e within = set_same xs at e (omega arith)

-- the next entry, where the epoch isn't the last
pub next_epoch : (e : SlotEntry) (manager : ℕ) → e.epoch < u32_end → (next_entry e manager).epoch ≡ e.epoch + 1
next_epoch e manager below = grind (arith, nat_tests)

-- ---- a manager's slots are given to it again

-- what that makes of an entry
unfoldable pub raised_entry : ℕ → SlotEntry → SlotEntry
raised_entry manager e = cond (e.manager == manager) (next_entry e manager) e

-- it moves a slot, or leaves all as it is
raise_keeps : (P : List SlotEntry → Type 0) (manager : ℕ) (es : List SlotEntry) (slot : ℕ) → P es → P (manager_map_advance es slot manager)
    → P (raise_one manager es slot)
unfolding raise_one
raise_keeps P manager es slot as_is moved =
    by_test P ((entry_of es slot).manager == manager) (cond (nat_lt 7 slot) es (manager_map_advance es slot manager)) es
    (λ t. by_test P (nat_lt 7 slot) es (manager_map_advance es slot manager) (λ u. as_is) (λ u. moved))
    (λ t. as_is)

raise_long : (manager : ℕ) (es : List SlotEntry) (slot : ℕ) → length (raise_one manager es slot) ≡ length es
raise_long manager es slot =
    raise_keeps (λ (xs : List SlotEntry). length xs ≡ length es) manager es slot refl (length-set es slot (next_entry (entry_at es slot) manager))

raise_other : (manager : ℕ) (es : List SlotEntry) (slot p : ℕ) → slot ≢ p → entry_at (raise_one manager es slot) p ≡ entry_at es p
raise_other manager es slot p apart =
    raise_keeps (λ (xs : List SlotEntry). entry_at xs p ≡ entry_at es p) manager es slot refl
    (set_other es slot p (next_entry (entry_at es slot) manager) apart)

raise_same : (manager : ℕ) (es : List SlotEntry) (p : ℕ) → p < 8 → length es ≡ 8 → entry_at (raise_one manager es p) p ≡ raised_entry manager (entry_at es p)
unfolding raise_one raised_entry
raise_same manager es p below long =
    subst
    (λ (q : ℕ). entry_at (cond ((entry_at es q).manager == manager) (cond (nat_lt 7 p) es (manager_map_advance es p manager)) es) p ≡ raised_entry manager
    (entry_at es p))
    (sym low)
    (at ((entry_at es p).manager == manager))
  where
    low : p % 8 ≡ p
    low = omega arith

    at : (t : Bool) → entry_at (cond t (cond (nat_lt 7 p) es (manager_map_advance es p manager)) es) p ≡ cond t (next_entry (entry_at es p) manager) (entry_at es p)
    at true =
        by_test (λ (xs : List SlotEntry). entry_at xs p ≡ next_entry (entry_at es p) manager) (nat_lt 7 p) es (manager_map_advance es p manager)
        (λ u. absurd (grind (arith, nat_tests))) (λ u. set_same es p (next_entry (entry_at es p) manager) (omega arith))
    at false = refl

raise_below : (manager : ℕ) (es : List SlotEntry) (from n p : ℕ) → p < from → entry_at (fold (raise_one manager) es (range_with_len from n)) p ≡ entry_at es p
raise_below manager es from zero p low = refl
raise_below manager es from (suc n) p low =
    raise_below manager (raise_one manager es from) (from + 1) n p (omega arith) ∙ raise_other manager es from p (λ same. absurd (omega arith))

raise_range : (manager : ℕ) (es : List SlotEntry) (from n p : ℕ) → from ≤ p → p < from + n → p < 8 → length es ≡ 8
    → entry_at (fold (raise_one manager) es (range_with_len from n)) p ≡ raised_entry manager (entry_at es p)
raise_range manager es from zero p low high below long = absurd (omega arith)
raise_range manager es from (suc n) p low high below long =
    at (from == p) refl (λ next. raise_range manager (raise_one manager es from) (from + 1) n p next (omega arith) below (raise_long manager es from ∙ long))
  where
    at : (t : Bool) → (from == p) ≡ t
        → (from + 1 ≤ p
        → entry_at (fold (raise_one manager) (raise_one manager es from) (range_with_len (from + 1) n)) p ≡ raised_entry manager
        (entry_at (raise_one manager es from) p))
        → entry_at (fold (raise_one manager) (raise_one manager es from) (range_with_len (from + 1) n)) p ≡ raised_entry manager (entry_at es p)
    at true same later =
        let fact : from ≡ p = grind (arith, nat_tests) in
        raise_below manager (raise_one manager es from) (from + 1) n p (omega arith)
        ∙ ap (λ (q : ℕ). entry_at (raise_one manager es q) p) fact ∙ raise_same manager es p below long
    at false other later =
        let apart : from ≢ p = grind (arith, nat_tests) in
        later (omega arith) ∙ ap (raised_entry manager) (raise_other manager es from p apart)

-- the entry of each slot
pub raised_at : (manager : ℕ) (es : List SlotEntry) (p : ℕ) → p < 8 → length es ≡ 8 → entry_at (raised manager es) p ≡ raised_entry manager (entry_at es p)
raised_at manager es p below long = raise_range manager es 0 8 p (omega arith) (omega arith) below long

fold_long : (manager : ℕ) (es : List SlotEntry) (slots : List ℕ) → length (fold (raise_one manager) es slots) ≡ length es
fold_long manager es [] = refl
fold_long manager es (slot ∷ slots) = fold_long manager (raise_one manager es slot) slots ∙ raise_long manager es slot

pub raised_long : (manager : ℕ) (es : List SlotEntry) → length (raised manager es) ≡ length es
raised_long manager es = fold_long manager es all_slots

-- where no epoch is the last, all slots can be given again
pub all_can_rise : (manager : ℕ) (es : List SlotEntry) → ((slot : ℕ) → slot < 8 → (entry_at es slot).epoch < u32_end) → can_rise manager es ≡ true
all_can_rise manager es below = all_so all_slots
  where
    one_so : (slot : ℕ) → can_rise_one manager es slot ≡ true
    one_so slot =
        let low : slot % 8 < 8 = omega arith in
        let less : (entry_at es (slot % 8)).epoch < u32_end = below (slot % 8) low in
        or_second (not ((entry_of es slot).manager == manager)) (nat_lt (entry_of es slot).epoch u32_end) (grind (arith, nat_tests))

    both : (a b : Bool) → a ≡ true → b ≡ true → (a && b) ≡ true
    both true b fact so = so
    both false b fact so = fact

    all_so : (slots : List ℕ) → list_all (can_rise_one manager es) slots ≡ true
    all_so [] = refl
    all_so (slot ∷ slots) = both (can_rise_one manager es slot) (list_all (can_rise_one manager es) slots) (one_so slot) (all_so slots)

-- ---- incarnations

pub inc_put : (incs : List (ℕ × ℕ)) (manager inc q : ℕ)
    → inc_of (insert_entry nat_cmp incs manager inc) q ≡ cond (eq_by_cmp nat_cmp q manager) inc (inc_of incs q)
inc_put incs manager inc q =
    ap (λ o. unwrap_or o 1) (lookup-insert_entry nat_cmp_total q manager inc incs) ∙ at (eq_by_cmp nat_cmp q manager)
  where
    at : (t : Bool) → unwrap_or (cond t (Some inc) (lookup (is_at (nat_cmp q)) incs)) 1 ≡ cond t inc (inc_of incs q)
    at true = refl
    at false = refl

-- of the manager itself, and of others
pub inc_here : (incs : List (ℕ × ℕ)) (manager inc : ℕ) → inc_of (insert_entry nat_cmp incs manager inc) manager ≡ inc
inc_here incs manager inc =
    inc_put incs manager inc manager ∙ ap (λ (t : Bool). cond t inc (inc_of incs manager)) ((eq_by_cmp_equiv nat_cmp_total).refl manager)
