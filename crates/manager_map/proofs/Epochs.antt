-- What one move does to the entry of any slot, and what any list of moves does.
use Prim.Native.Nat.compare
use Rattle.std.proofs.Common.{◌≡◌, ℕ, ◌+◌, ◌<◌, ◌≤◌, Bool, true, false, cond, List, [], ◌∷◌, length, map, min, zero, suc, refl, ap, ◌∙◌, arith, nat_lt, slice_set}
use Rattle.std.specs.Prelude.{◌==◌}
use Rattle.std.specs.List.{range_with_len}
use Rattle.std.proofs.lemmas.Bool.Decides.{nat_tests}
use Rattle.std.proofs.lemmas.List.Sums.{sum_by-cons}
use Rattle.std.proofs.Math.ListN.{length-set}
use Rattle.manager_map.specs.declared.entry.SlotEntry.{SlotEntry}
use Rattle.manager_map.specs.Slots.{first_entry, manager_map_start, entry_at, next_entry, manager_map_advance}
use Rattle.manager_map.specs.Moves.{Move, after_moves, moves_of}
use Rattle.xfs_base.specs.Limits.{u32_end, slot_count}

-- the second entry may follow the first: its epoch is not below, and under the same epoch it is the same
pub record Follows (before now : SlotEntry) : Type 0 where
  pub never_below : before.epoch ≤ now.epoch
  pub same_manager : now.epoch ≡ before.epoch → now ≡ before

follows_itself : (entry : SlotEntry) → Follows entry entry
follows_itself entry = record { never_below = omega arith; same_manager = λ _. refl }

follows_both : (a b c : SlotEntry) → Follows a b → Follows b c → Follows a c
follows_both a b c ab bc = record {
  never_below = omega (arith, ab.never_below, bc.never_below);
  same_manager = λ same. bc.same_manager (omega (arith, ab.never_below, bc.never_below)) ∙ ab.same_manager (omega (arith, ab.never_below, bc.never_below));
}

next_entry_follows : (entry : SlotEntry) (manager : ℕ) → Follows entry (next_entry entry manager)
next_entry_follows entry manager =
    elim (nat_lt entry.epoch u32_end) as (λ (below : Bool). Follows entry (cond below (record { epoch = entry.epoch + 1; manager = manager }) entry)) [
      | true ↦ record { never_below = omega arith; same_manager = λ same. absurd (omega arith) }
      | false ↦ follows_itself entry
    ]

set_follows : (slots : List SlotEntry) (at slot : ℕ) (entry : SlotEntry) → Follows (entry_at slots at) entry
    → Follows (entry_at slots slot) (entry_at (slice_set slots at entry) slot)
set_follows [] at slot entry follows = follows_itself _
set_follows (x ∷ xs) zero zero entry follows = follows
set_follows (x ∷ xs) zero (suc slot) entry follows = follows_itself _
set_follows (x ∷ xs) (suc at) zero entry follows = follows_itself _
set_follows (x ∷ xs) (suc at) (suc slot) entry follows = set_follows xs at slot entry follows

-- no list of moves takes an epoch down, nor changes a manager under its epoch
pub moves_follow : (slots : List SlotEntry) (moves : List Move) (slot : ℕ) → Follows (entry_at slots slot) (entry_at (after_moves slots moves) slot)
moves_follow slots [] slot = follows_itself _
moves_follow slots (move ∷ moves) slot =
    let next = manager_map_advance slots move.slot move.manager in
    let one : Follows (entry_at slots slot) (entry_at next slot) =
    set_follows slots move.slot slot _ (next_entry_follows (entry_at slots move.slot) move.manager) in
    follows_both (entry_at slots slot) (entry_at next slot) _ one (moves_follow next moves slot)

-- ---- the epoch counts the moves

-- one more where the move is of the slot, but at the last epoch
next_entry_epoch : (entry : SlotEntry) (manager : ℕ) → entry.epoch ≤ u32_end → (next_entry entry manager).epoch ≡ min (entry.epoch + 1) u32_end
next_entry_epoch entry manager small = grind (arith, nat_tests)

set_epoch : (slots : List SlotEntry) (at slot : ℕ) (entry : SlotEntry) → slot < length slots
    → (entry_at (slice_set slots at entry) slot).epoch ≡ cond (at == slot) entry.epoch (entry_at slots slot).epoch
set_epoch [] at slot entry within = absurd (omega arith)
set_epoch (x ∷ xs) zero zero entry within = refl
set_epoch (x ∷ xs) zero (suc slot) entry within = grind (arith, nat_tests)
set_epoch (x ∷ xs) (suc at) zero entry within = grind (arith, nat_tests)
set_epoch (x ∷ xs) (suc at) (suc slot) entry within =
    rw (compare.suc-suc at slot) (set_epoch xs at slot entry (omega arith))

-- what one move makes of the epoch of any slot
move_epoch : (slots : List SlotEntry) (move : Move) (slot : ℕ) → slot < length slots → (entry_at slots slot).epoch ≤ u32_end
    → (entry_at (manager_map_advance slots move.slot move.manager) slot).epoch ≡ min ((entry_at slots slot).epoch + cond (move.slot == slot) 1 0) u32_end
move_epoch slots move slot within small =
    set_epoch slots move.slot slot (next_entry (entry_at slots move.slot) move.manager) within
    ∙ at_slot (move.slot == slot) refl
  where
    at_slot : (same : Bool) → (move.slot == slot) ≡ same
        → cond same (next_entry (entry_at slots move.slot) move.manager).epoch (entry_at slots slot).epoch ≡ min ((entry_at slots slot).epoch + cond same 1 0)
        u32_end
    at_slot true fact =
        let one : move.slot ≡ slot = grind (arith, nat_tests) in
        ap (λ at. (next_entry (entry_at slots at) move.manager).epoch) one ∙ next_entry_epoch (entry_at slots slot) move.manager small
    at_slot false fact = omega arith

sums : (epoch next one rest all last : ℕ) → next ≡ min (epoch + one) last → all ≡ one + rest → min (next + rest) last ≡ min (epoch + all) last
sums epoch next one rest all last first count = omega arith

-- each move of the slot adds one, up to the last epoch
pub moves_epoch : (slots : List SlotEntry) (moves : List Move) (slot : ℕ) → slot < length slots → (entry_at slots slot).epoch ≤ u32_end
    → (entry_at (after_moves slots moves) slot).epoch ≡ min ((entry_at slots slot).epoch + moves_of slot moves) u32_end
moves_epoch slots [] slot within small = omega arith
moves_epoch slots (move ∷ moves) slot within small =
    let next = manager_map_advance slots move.slot move.manager in
    let one = move_epoch slots move slot within small in
    let long : length next ≡ length slots = length-set slots move.slot _ in
    let more = moves_epoch next moves slot (omega arith) (omega arith) in
    let count : moves_of slot (move ∷ moves) ≡ cond (move.slot == slot) 1 0 + moves_of slot moves =
    sum_by-cons (λ (m : Move). cond (m.slot == slot) 1 0) move moves in
    more ∙ sums (entry_at slots slot).epoch (entry_at next slot).epoch (cond (move.slot == slot) 1 0) (moves_of slot moves) (moves_of slot (move ∷ moves))
    u32_end one count

-- every slot starts under epoch 1
pub start_epoch : (managers : ℕ) (slot : ℕ) → slot < slot_count → (entry_at (manager_map_start managers) slot).epoch ≡ 1
start_epoch managers slot within = first_epoch 0 8 slot within
  where
    first_epoch : (from n at : ℕ) → at < n → (entry_at (map (first_entry managers) (range_with_len from n)) at).epoch ≡ 1
    first_epoch from zero at within = absurd (omega arith)
    first_epoch from (suc n) zero within = refl
    first_epoch from (suc n) (suc at) within = first_epoch (from + 1) n at (omega arith)
