use Rattle.std.proofs.Common.{◌≡◌, ◌++◌, ◌∷◌, [], List, ap, ◌∙◌, append_assoc}
use Rattle.std.proofs.lemmas.Result.{on_ok_weaker}
use Rattle.node_base.specs.declared.effects.Effect.{Effect}
use Rattle.client_node.proofs.returning.say_back.Goals as goal

-- what is done one after the other is done together
joined : (a : List Effect) (x : Effect) (b c e1 e2 e3 : List Effect) → e1 ≡ a ++ x ∷ [] → e2 ≡ e1 ++ b → e3 ≡ e2 ++ c → e3 ≡ a ++ x ∷ (b ++ c)
joined a x b c e1 e2 e3 p q r = r ∙ ap (λ u. u ++ c) (q ∙ ap (λ u. u ++ b) p) ∙ append_assoc (a ++ x ∷ []) b c ∙ append_assoc a (x ∷ []) (b ++ c)

pub returns-clause-effects : goal.returns-clause-effects
returns-clause-effects c =
    on_ok_weaker c.answer.result
    (λ last. joined _ _ _ _ _ _ _ c.in_ok-act.ensures c.in_ok-push_all.ensures.effects last)
    c.answer.ensures.effects
