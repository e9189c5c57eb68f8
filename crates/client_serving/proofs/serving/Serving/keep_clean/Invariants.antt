use Rattle.std.proofs.Common.{◌≡◌, drop}
use Rattle.std.specs.Prelude.{fold}
use Rattle.client_serving.proofs.serving.Serving.keep_clean.Given as goal
use Rattle.client_serving.specs.Flights.{keep_row}

abbrev pub invariant-loop-row : goal.invariant-loop-row
invariant-loop-row l = fold keep_row l.self (drop l.row-index l.rows) ≡ fold keep_row l.initial.self l.rows
