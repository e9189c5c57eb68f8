use Rattle.std.proofs.Common.{◌≡◌, drop}
use Rattle.version_model.specs.Shown.{falls_in}
use Rattle.version_model.proofs.histories.settle_falls.Given as goal

-- what is left to fall gives the rows in the end
abbrev pub invariant-loop-fall : goal.invariant-loop-fall
invariant-loop-fall l = falls_in l.adopted (drop l.fall-index l.falls) l.blocks.entries ≡ falls_in l.adopted l.falls l.fn.blocks.entries
