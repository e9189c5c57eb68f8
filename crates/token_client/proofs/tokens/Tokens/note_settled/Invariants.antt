use Rattle.std.proofs.Common.{◌≡◌, drop}
use Rattle.std.specs.Prelude.{fold}
use Rattle.token_client.specs.Settling.{note_row}
use Rattle.token_client.proofs.tokens.Tokens.note_settled.Given as goal

abbrev pub invariant-loop-row : goal.invariant-loop-row
invariant-loop-row l = fold note_row l.self (drop l.row-index l.rows) ≡ fold note_row l.initial.self l.rows
