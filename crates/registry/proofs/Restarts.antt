-- What the restart of a manager makes of each slot.
use Rattle.std.proofs.Common.{◌≡◌, ℕ, zero, suc, ◌+◌, ◌<◌, ◌≤◌, Bool, true, false, cond, ◌||◌, not, List, [], ◌∷◌, length, refl, sym, ap, ◌∙◌, arith}
use Rattle.std.specs.Prelude.{slice_set, nat_lt, ◌==◌}
use Rattle.std.specs.List.{fold, list_all, range_with_len}
use Rattle.std.proofs.lemmas.Bool.Decides.{nat_tests}
use Rattle.std.proofs.Math.ListN.{length-set}
use Rattle.xfs_base.specs.Blocks.{slot_of}
use Rattle.xfs_base.specs.declared.node.NodeId.TheVariants.{Manager}
use Rattle.xfs_base.proofs.Booleans.{and_first, and_second}
use Rattle.xfs_base.specs.Limits.{u32_end, slot_count}
use Rattle.manager_map.specs.declared.entry.SlotEntry.{SlotEntry}
use Rattle.manager_map.specs.Slots.{entry_at, manager_map_advance, next_entry}
use Rattle.registry.specs.declared.input.In.TheVariants.{Hello}
use Rattle.registry.specs.declared.output.Out.TheVariants.{Changed}
use Rattle.registry.specs.BoardState.{BoardState}
use Rattle.registry.specs.Board.{Made, transition, manager_restarted, inc_of, hears_manager, manager_hello}
use Rattle.registry.specs.Slots.{entry_of, raise_one, can_rise_one, can_rise}
use Rattle.registry.specs.Laws.{restarted_entry}

small_slot : (slot : ℕ) → slot < slot_count → slot_of slot ≡ slot
small_slot slot small = omega arith

set_own : (es : List SlotEntry) (slot : ℕ) (e : SlotEntry) → slot < length es → entry_at (slice_set es slot e) slot ≡ e
set_own [] slot e within = absurd (omega arith)
set_own (x ∷ xs) zero e within = refl
set_own (x ∷ xs) (suc slot) e within = set_own xs slot e (omega arith)

set_other : (es : List SlotEntry) (at slot : ℕ) (e : SlotEntry) → (at ≡ slot → ⊥) → entry_at (slice_set es at e) slot ≡ entry_at es slot
set_other [] at slot e other = refl
set_other (x ∷ xs) zero zero e other = absurd (other refl)
set_other (x ∷ xs) zero (suc slot) e other = refl
set_other (x ∷ xs) (suc at) zero e other = refl
set_other (x ∷ xs) (suc at) (suc slot) e other = set_other xs at slot e (λ same. other (ap suc same))

module _ (manager : ℕ) where
  -- what is given to the manager again, where it is its own
  abbrev again : SlotEntry → SlotEntry
  again e = cond (e.manager == manager) (next_entry e manager) e

  raise-length : (es : List SlotEntry) (at : ℕ) → length (raise_one manager es at) ≡ length es
  unfolding raise_one
  raise-length es at =
      elim ((entry_of es at).manager == manager) as
      (λ t. length (cond t (cond (nat_lt 7 at) es (manager_map_advance es at manager)) es) ≡ length es) [
        | true ↦ elim (nat_lt 7 at) as (λ t. length (cond t es (manager_map_advance es at manager)) ≡ length es) [ true ↦ refl | false ↦ length-set es at _ ]
        | false ↦ refl
      ]

  raise-other : (es : List SlotEntry) (at slot : ℕ) → (at ≡ slot → ⊥) → entry_at (raise_one manager es at) slot ≡ entry_at es slot
  unfolding raise_one
  raise-other es at slot other =
      elim ((entry_of es at).manager == manager) as
      (λ t. entry_at (cond t (cond (nat_lt 7 at) es (manager_map_advance es at manager)) es) slot ≡ entry_at es slot) [
        | true ↦ elim (nat_lt 7 at) as (λ t. entry_at (cond t es (manager_map_advance es at manager)) slot ≡ entry_at es slot) [
          | true ↦ refl
          | false ↦ set_other es at slot _ other
        ]
        | false ↦ refl
      ]

  raise-own : (es : List SlotEntry) (slot : ℕ) → slot < slot_count → slot < length es → entry_at (raise_one manager es slot) slot ≡ again (entry_at es slot)
  unfolding raise_one
  raise-own es slot small within =
      let low : nat_lt 7 slot ≡ false = grind (arith, nat_tests) in
      ap (λ b. entry_at (cond ((entry_of es slot).manager == manager) (cond b es (manager_map_advance es slot manager)) es) slot) low
      ∙ ap (λ at. entry_at (cond ((entry_at es at).manager == manager) (manager_map_advance es slot manager) es) slot) (small_slot slot small)
      ∙ at_test ((entry_at es slot).manager == manager)
    where
      at_test : (t : Bool) → entry_at (cond t (manager_map_advance es slot manager) es) slot ≡ cond t (next_entry (entry_at es slot) manager) (entry_at es slot)
      at_test true = set_own es slot _ within
      at_test false = refl

  -- the slots from a later one on leave a slot as it is
  raised-before : (es : List SlotEntry) (from n slot : ℕ) → slot < from
      → entry_at (fold (raise_one manager) es (range_with_len from n)) slot ≡ entry_at es slot
  raised-before es from zero slot low = refl
  raised-before es from (suc n) slot low =
      raised-before (raise_one manager es from) (from + 1) n slot (omega arith) ∙ raise-other es from slot (λ same. absurd (omega arith))

  raised-within : (es : List SlotEntry) (from n slot : ℕ) → from ≤ slot → slot < from + n → slot < slot_count → slot < length es
      → entry_at (fold (raise_one manager) es (range_with_len from n)) slot ≡ again (entry_at es slot)
  raised-within es from zero slot low high small within = absurd (omega arith)
  raised-within es from (suc n) slot low high small within =
      at (from == slot) refl
      (λ later. raised-within (raise_one manager es from) (from + 1) n slot later (omega arith) small (omega (arith, raise-length es from)))
    where
      at : (t : Bool) → (from == slot) ≡ t
          → (from + 1 ≤ slot → entry_at (fold (raise_one manager) es (range_with_len from (suc n))) slot ≡ again (entry_at (raise_one manager es from) slot))
          → entry_at (fold (raise_one manager) es (range_with_len from (suc n))) slot ≡ again (entry_at es slot)
      at true fact _ =
          let same : from ≡ slot = grind (arith, nat_tests) in
          raised-before (raise_one manager es from) (from + 1) n slot (omega arith)
          ∙ ap (λ f. entry_at (raise_one manager es f) slot) same ∙ raise-own es slot small within
      at false fact rest =
          let below : from < slot = grind (arith, nat_tests) in
          rest (omega (arith, below)) ∙ ap again (raise-other es from slot (λ same. absurd (omega (arith, below, same))))

  -- whether each slot after one has a next epoch, where it is the manager's
  abbrev rest_can : List SlotEntry → ℕ → ℕ → Bool
  rest_can es from n = list_all (can_rise_one manager es) (range_with_len (from + 1) n)

  -- each slot of the manager has a next epoch
  can : (es : List SlotEntry) (from n slot : ℕ) → list_all (can_rise_one manager es) (range_with_len from n) ≡ true → from ≤ slot → slot < from + n
      → can_rise_one manager es slot ≡ true
  can es from zero slot all low high = absurd (omega arith)
  can es from (suc n) slot all low high =
      at (from == slot) refl
      (λ later. can es (from + 1) n slot (and_second (can_rise_one manager es from) (rest_can es from n) all) later
      (omega arith))
    where
      at : (t : Bool) → (from == slot) ≡ t → (from + 1 ≤ slot → can_rise_one manager es slot ≡ true) → can_rise_one manager es slot ≡ true
      at true fact _ =
          let same : from ≡ slot = grind (arith, nat_tests) in
          ap (can_rise_one manager es) (sym same) ∙ and_first (can_rise_one manager es from) (rest_can es from n) all
      at false fact rest =
          let below : from < slot = grind (arith, nat_tests) in
          rest (omega (arith, below))

  has_next : (e : SlotEntry) → (not (e.manager == manager) || nat_lt e.epoch u32_end) ≡ true → again e ≡ restarted_entry manager e
  has_next e may = at (e.manager == manager) may
    where
      at : (t : Bool) → (not t || nat_lt e.epoch u32_end) ≡ true
          → cond t (next_entry e manager) e ≡ cond t (record { epoch = e.epoch + 1; manager = manager }) e
      at true low = ap (λ t. cond t (record { epoch = e.epoch + 1; manager = manager }) e) low
      at false low = refl

pub restarted : (s : BoardState) (manager inc slot : ℕ) → hears_manager s manager inc ≡ true → slot < slot_count → slot < length s.entries
    → entry_at (transition s (Hello (Manager manager) inc)).state.entries slot ≡ restarted_entry manager (entry_at s.entries slot)
unfolding manager_hello
restarted s manager inc slot hears small within =
    let rise : can_rise manager s.entries ≡ true =
    and_second (nat_lt (inc_of s.incs manager) inc) (can_rise manager s.entries) (and_second (nat_lt s.version u32_end) _ hears) in
    let may : can_rise_one manager s.entries slot ≡ true = can manager s.entries 0 8 slot rise (omega arith) (omega arith) in
    let heard : Made = record { state = manager_restarted s manager inc; outs = Changed ∷ [] } in
    let unheard : Made = record { state = s; outs = [] } in
    ap (λ t. entry_at (cond t heard unheard).state.entries slot) hears
    ∙ raised-within manager s.entries 0 8 slot (omega arith) (omega arith) small within
    ∙ has_next manager (entry_at s.entries slot)
    (ap (λ at. not ((entry_at s.entries at).manager == manager) || nat_lt (entry_at s.entries at).epoch u32_end) (sym (small_slot slot small)) ∙ may)
