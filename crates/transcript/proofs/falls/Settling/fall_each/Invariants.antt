use Rattle.std.proofs.Common.{◌≡◌, drop}
use Rattle.std.specs.List.{fold}
use Rattle.transcript.specs.Falls.{settle_fall}
use Rattle.transcript.proofs.falls.Settling.fall_each.Given as goal

abbrev pub invariant-loop-fall : goal.invariant-loop-fall
invariant-loop-fall l = fold (settle_fall l.held) l.self (drop l.fall-index l.falls) ≡ fold (settle_fall l.held) l.fn.self l.falls
