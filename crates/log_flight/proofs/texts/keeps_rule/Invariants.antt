use Rattle.std.proofs.Common.{◌≡◌, None, drop}
use Rattle.log_flight.specs.Texts.{keeps_rule}
use Rattle.log_flight.proofs.texts.keeps_rule.Given as goal

-- the rest keeps the rule, where the Delta of the last Block is awaited, exactly where all items do
abbrev pub invariant-loop-number : goal.invariant-loop-number
invariant-loop-number l = keeps_rule l.awaited l.number (drop l.number l.items) ≡ keeps_rule None 0 l.items
