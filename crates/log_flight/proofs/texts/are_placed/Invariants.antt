use Rattle.std.proofs.Common.{◌≡◌, drop}
use Rattle.std.specs.List.{list_all}
use Rattle.log_flight.specs.Texts.{is_placed}
use Rattle.log_flight.proofs.texts.are_placed.Given as goal

-- the rest are placed exactly where all are
abbrev pub invariant-loop-row : goal.invariant-loop-row
invariant-loop-row l = list_all (λ r. is_placed r.1.place) (drop l.row-index l.rows) ≡ list_all (λ r. is_placed r.1.place) l.rows
