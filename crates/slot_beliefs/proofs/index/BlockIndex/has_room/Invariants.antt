use Rattle.std.proofs.Common.{◌≡◌, drop, length}
use Rattle.slot_beliefs.specs.Index.{has_room}
use Rattle.slot_beliefs.proofs.index.BlockIndex.has_room.Given as goal

-- there is room for the rows so far
abbrev pub invariant-loop-row : goal.invariant-loop-row
invariant-loop-row l = has_room (length l.rows) l.self.usage (drop l.row-index l.rows) ≡ has_room (length l.rows) l.self.usage l.rows
