-- The numbers and the bytes of an act are in the ranges of their types, as those of each act that a program holds.
use Rattle.std.specs.Prelude.{◌<◌, ◌^◌, ℕ, Option, Some, None}
use Rattle.std.specs.List.{AllByRecursion}
use Rattle.journal_law.specs.Told.{IsBlock, IsContent, IsFall, IsVersion}
use Rattle.segment_format.specs.Ranges.{FitsName}
use Rattle.version_model.specs.declared.act.Act.{Act}
use Rattle.version_model.specs.declared.act.Act.TheVariants as act

abbrev pub FitsFlight : Option (ℕ × ℕ) → Type 0
FitsFlight None = Unit {0}
FitsFlight (Some p) = (p.0 < 2 ^ 32) × (p.1 < 2 ^ 32)

-- nodes are left out: which there are the run says
abbrev pub FitsAct : Act → Type 0
FitsAct (act.Wrote client block value) = IsBlock block × IsContent value
FitsAct (act.Read client block ver value) = IsBlock block × IsVersion ver × IsContent value
FitsAct (act.Synced client) = Unit {0}
FitsAct (act.Fell client flight falls) = FitsFlight flight × AllByRecursion IsFall falls
FitsAct (act.Back client chain) = AllByRecursion FitsName chain
FitsAct (act.Lost node seg) = FitsName seg
FitsAct (act.Filed seg) = FitsName seg
FitsAct (act.Dropped seg) = FitsName seg
FitsAct (act.Answered node item answer) = Unit {0}
