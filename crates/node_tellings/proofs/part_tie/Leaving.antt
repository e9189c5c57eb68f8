-- Steps of a machine that keep a fact of its state, and give what they should, where what they give is so.
use Rattle.std.proofs.Common.{List, [], ◌∷◌}
use Rattle.std.specs.List.{AllByRecursion}
use Rattle.xfs_base.specs.Steps.{Stepped, steps}
use Rattle.xfs_base.proofs.Leaving.{Leaves, goes_after, stays}
use Rattle.node_tellings.proofs.filed_tie.Frames.{all_before, all_behind}

module _ {S O : Type 0} (So : O → Type 0) (Keeps : S → Type 0) (GivesSo : O → Type 0) where
  -- so it is where each thing that it gives is so
  abbrev pub LeavesIf : Stepped S O → Type 0
  LeavesIf d = AllByRecursion So d.outs → Leaves Keeps GivesSo d

  pub leaves_each-if : {X : Type 0} (Takes : X → Type 0) (step : S → X → Stepped S O) → ((s : S) (x : X) → Keeps s → Takes x → LeavesIf (step s x))
      → (s : S) (xs : List X) → Keeps s → AllByRecursion Takes xs → LeavesIf (steps step s xs)
  leaves_each-if Takes step each s [] kept all so = stays Keeps GivesSo s kept
  leaves_each-if Takes step each s (x ∷ xs) kept all so =
      let rest : Stepped S O = steps step (step s x).state xs in
      let first : Leaves Keeps GivesSo (step s x) = each s x kept all.0 (all_before So (step s x).outs rest.outs so) in
      goes_after Keeps GivesSo (step s x).outs rest first.outs
      (leaves_each-if Takes step each (step s x).state xs first.state all.1 (all_behind So (step s x).outs rest.outs so))
