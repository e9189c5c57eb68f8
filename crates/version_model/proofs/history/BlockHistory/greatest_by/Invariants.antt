use Rattle.std.proofs.Common.{◌≡◌, ℕ, ◌+◌, ◌≤◌, max, drop}
use Rattle.version_model.specs.History.{greatest_by}
use Rattle.version_model.proofs.history.BlockHistory.greatest_by.Given as goal

pub record SoFar (greatest place : ℕ) (rest all : ℕ) : Type 0 where
  pub below : greatest ≤ place
  pub all_of : max greatest rest ≡ all

-- the greatest so far, with those to come, is the greatest of all
abbrev pub invariant-loop-place : goal.invariant-loop-place
invariant-loop-place l = SoFar l.greatest l.place (greatest_by l.client (l.place + 1) (drop l.place l.versions)) (greatest_by l.client 1 l.versions)
