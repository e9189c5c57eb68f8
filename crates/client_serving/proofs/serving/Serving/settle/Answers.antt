use Rattle.std.proofs.Common.{◌≡◌, List, [], ◌∷◌, ◌++◌, ap, ◌∙◌, append_assoc}
use Rattle.std.proofs.lemmas.Result.{on_ok_weaker}
use Rattle.client_serving.specs.declared.serving.Serving.{Serving}
use Rattle.client_serving.specs.Flights.{give_if_clean, serving_settle}
use Rattle.log_owner.specs.Sending.{name_of, push_all}
use Rattle.node_base.specs.declared.effects.Effect.{Effect}
use Rattle.node_base.specs.declared.effects.Effect.TheVariants.{Does}
use Rattle.version_model.specs.declared.act.Act.TheVariants.{Filed}
use Rattle.xfs_base.specs.declared.block.BlockId.{BlockId}
use Rattle.xfs_base.specs.declared.segment.SegName.{SegName}
use Rattle.xfs_base.specs.Steps.{steps}
use Rattle.client_serving.proofs.serving.Serving.settle.Goals as goal

-- what is told once the rows are taken
abbrev told : Serving → List BlockId → List Effect
told s blocks = push_all s.managers s.feed ++ (steps give_if_clean s blocks).outs

-- what is filed, and then what is told of the client as it is then, is done together
joined : (made filed all : List Effect) (seg name : SegName) (s t : Serving) (blocks dirty : List BlockId) → filed ≡ made ++ Does (Filed seg) ∷ [] → seg ≡ name
    → s ≡ t → blocks ≡ dirty → all ≡ filed ++ told s blocks → all ≡ made ++ Does (Filed name) ∷ told t dirty
joined made filed all seg name s t blocks dirty fact named now same e =
    e ∙ ap (λ u. u ++ told s blocks) fact ∙ append_assoc made (Does (Filed seg) ∷ []) (told s blocks)
    ∙ ap (λ u. made ++ Does (Filed u) ∷ told s blocks) named ∙ ap (λ u. made ++ Does (Filed name) ∷ told u blocks) now
    ∙ ap (λ u. made ++ Does (Filed name) ∷ told t u) same

pub returns-clause-effects : goal.returns-clause-effects
unfolding serving_settle
returns-clause-effects c =
    on_ok_weaker c.tell_settled.result
    (joined _ _ _ _ _ _ _ _ _ c.in_ok-act.ensures (c.name_of-seg.ensures ∙ ap (λ l. name_of l c.args.end) c.log.ensures) c.in_ok-take_rows.ensures
    (c.as_slice.ensures ∙ c.in_ok-dirty.ensures))
    c.tell_settled.ensures.effects
