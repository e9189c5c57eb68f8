use Rattle.std.proofs.Common.{◌≡◌, drop}
use Rattle.std.specs.List.{fold}
use Rattle.transcript.specs.Falls.{settling_settle}
use Rattle.transcript.proofs.falls.Settling.settle_each.Given as goal

abbrev pub invariant-loop-told : goal.invariant-loop-told
invariant-loop-told l = fold (settling_settle l.chain) l.self (drop l.told-index l.waiting) ≡ fold (settling_settle l.chain) l.fn.self l.waiting
