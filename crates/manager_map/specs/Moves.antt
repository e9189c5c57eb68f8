-- Any list of moves, and what they make of a map.
use Rattle.std.specs.Prelude.{ℕ, List, [], ◌∷◌, ◌==◌, count_by}
use Rattle.manager_map.specs.declared.entry.SlotEntry.{SlotEntry}
use Rattle.manager_map.specs.Slots.{manager_map_advance}

-- a slot is to be given to a manager
pub record Move : Type 0 where
  pub slot : ℕ
  pub manager : ℕ

-- the map once all of these are made, in order; a move of a slot that there isn't changes nothing
abbrev pub after_moves : List SlotEntry → List Move → List SlotEntry
after_moves slots [] = slots
after_moves slots (move ∷ moves) = after_moves (manager_map_advance slots move.slot move.manager) moves

-- how many of them are of this slot
abbrev pub moves_of : ℕ → List Move → ℕ
moves_of slot moves = count_by (λ move. move.slot == slot) moves
