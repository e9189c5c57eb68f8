-- What each event keeps, of the events before and of the world, holds at each front of a run; and which acts an event adds.
use Rattle.std.proofs.Common.{◌≡◌, ℕ, zero, suc, List, [], ◌∷◌, ◌++◌, append-nil, append_assoc, drop, length, take, refl, sym, subst}
use Rattle.std.specs.List.{fold}
use Rattle.core_world.specs.AnyNode.{any_step}
use Rattle.core_world.specs.declared.any_node.AnyNode.{AnyNode}
use Rattle.version_model.specs.declared.act.Act.{Act}
use Rattle.world_base.specs.declared.event.Event.{Event}
use Rattle.world_base.specs.declared.world.World.{World}
use Rattle.world_base.specs.NextWorld.{next_world}

module _ (Holds : List Event → World AnyNode → Type 0)
    (keeps : (past : List Event) (event : Event) (w : World AnyNode) → Holds past w → Holds (past ++ event ∷ []) (next_world any_step w event)) where
  pub holds_at : (events : List Event) (count : ℕ) (w : World AnyNode) (past : List Event) → Holds past w
      → Holds (past ++ take count events) (fold (next_world any_step) w (take count events))
  holds_at events zero w past all = subst (λ es. Holds es w) (sym (append-nil past)) all
  holds_at [] (suc count) w past all = subst (λ es. Holds es w) (sym (append-nil past)) all
  holds_at (event ∷ events) (suc count) w past all =
      subst (λ es. Holds es (fold (next_world any_step) (next_world any_step w event) (take count events)))
      (append_assoc past (event ∷ []) (take count events))
      (holds_at events count (next_world any_step w event) (past ++ event ∷ []) (keeps past event w all))

-- ---- the acts behind those before

pub done_after : (xs ys : List Act) → drop (length xs) (xs ++ ys) ≡ ys
done_after [] ys = refl
done_after (x ∷ xs) ys = done_after xs ys

pub none_after : (xs : List Act) → drop (length xs) xs ≡ []
none_after [] = refl
none_after (x ∷ xs) = none_after xs
