use Rattle.std.proofs.Common.{◌≡◌, ◌++◌, drop}
use Rattle.delta_feed.specs.Transition.{slot_rows}
use Rattle.delta_feed.proofs.feed.add_slot_rows.Given as goal

-- the rows so far and those of the slot to come are all
abbrev pub invariant-loop-row : goal.invariant-loop-row
invariant-loop-row l = l.rows ++ slot_rows l.slot (drop l.row-index l.row-items) ≡ l.initial.rows ++ slot_rows l.slot l.row-items
