use Rattle.std.proofs.Common.{◌≡◌, drop}
use Rattle.version_model.specs.Shown.{settled_in}
use Rattle.version_model.proofs.histories.settle_told.Given as goal

-- what is left to settle gives the rows in the end
abbrev pub invariant-loop-fall : goal.invariant-loop-fall
invariant-loop-fall l = settled_in l.chain (drop l.fall-index l.told) l.blocks.entries ≡ settled_in l.chain l.told l.fn.blocks.entries
