use Rattle.std.proofs.Common.{◌≡◌, List, take}
use Rattle.version_model.specs.Effects.{history_after}
use Rattle.version_model.specs.History.{nothing_yet}
use Rattle.version_model.specs.Legal.{AreLegal}
use Rattle.version_model.specs.Shown.{shown}
use Rattle.version_model.specs.declared.act.Act.{Act}
use Rattle.version_model.specs.declared.histories.Histories.{Histories}
use Rattle.version_model.proofs.judge.legal.Given as goal

-- the acts so far are legal, and the tables show the history that they leave
pub record SoFar (histories : Histories) (taken : List Act) : Type 0 where
  pub shows : shown histories ≡ history_after taken nothing_yet
  pub legal : AreLegal taken

abbrev pub invariant-loop-place : goal.invariant-loop-place
invariant-loop-place l = SoFar l.histories (take l.place l.acts)
