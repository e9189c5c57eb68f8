-- Steps of a machine that keep a fact of its state, and of which each thing that they give is as it should be.
use Rattle.std.proofs.Common.{List, [], ◌∷◌}
use Rattle.std.specs.List.{AllByRecursion}
use Rattle.xfs_base.specs.Steps.{Stepped, still, saying, steps}
use Rattle.xfs_base.proofs.Alls.{all_append}

module _ {S O : Type 0} (Keeps : S → Type 0) (GivesSo : O → Type 0) where
  -- a step that leaves its state so, and gives these things
  pub record Leaves (d : Stepped S O) : Type 0 where
    pub state : Keeps d.state
    pub outs : AllByRecursion GivesSo d.outs

  pub stays : (s : S) → Keeps s → Leaves (still s)
  stays s kept = record { state = kept; outs = tt }

  pub goes_after : (outs : List O) (d : Stepped S O) → AllByRecursion GivesSo outs → Leaves d → Leaves (saying outs d)
  goes_after outs d given left = record { state = left.state; outs = all_append GivesSo outs d.outs given left.outs }

  -- one step for each item of a list of such items
  pub leaves_each : {X : Type 0} (Takes : X → Type 0) (step : S → X → Stepped S O) → ((s : S) (x : X) → Keeps s → Takes x → Leaves (step s x))
      → (s : S) (xs : List X) → Keeps s → AllByRecursion Takes xs → Leaves (steps step s xs)
  leaves_each Takes step each s [] kept all = stays s kept
  leaves_each Takes step each s (x ∷ xs) kept all =
      let first = each s x kept all.0 in
      goes_after (step s x).outs (steps step (step s x).state xs) first.outs (leaves_each Takes step each (step s x).state xs first.state all.1)
