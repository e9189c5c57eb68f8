-- The calls on blocks that the open call makes in one event, one at each turn.
use Rattle.std.proofs.Common.{◌≡◌, ℕ, suc, cond, true, false, List, ◌++◌, sym, ap, subst, ◌∙◌, append_assoc, append-nil}
use Rattle.client_serving.specs.declared.serving.Serving.{Serving}
use Rattle.client_running.specs.Running.{run_once, run_upto}
use Rattle.node_base.specs.declared.effects.Effect.{Effect}
use Rattle.xfs_base.specs.Steps.{saying}

module _ (m n : ℕ) (s t : Serving) (made more : List Effect) (e : suc m ≡ n) (now : t ≡ (run_once s).done.state)
    (out : more ≡ made ++ (run_once s).done.outs) where
  -- where the call was answered, the turns that are left are made
  goes : (run_once s).goes ≡ true → run_upto n s ≡ saying (run_once s).done.outs (run_upto m (run_once s).done.state)
  unfolding run_upto
  goes g =
      subst (λ k. run_upto k s ≡ saying (run_once s).done.outs (run_upto m (run_once s).done.state)) e
      (ap (λ b. cond b (saying (run_once s).done.outs (run_upto m (run_once s).done.state)) (run_once s).done) g)

  -- where it waits, none is
  stops : (run_once s).goes ≡ false → run_upto n s ≡ (run_once s).done
  unfolding run_upto
  stops g =
      subst (λ k. run_upto k s ≡ (run_once s).done) e
      (ap (λ b. cond b (saying (run_once s).done.outs (run_upto m (run_once s).done.state)) (run_once s).done) g)

  pub state_next : (end : Serving) → (run_once s).goes ≡ true → (run_upto n s).state ≡ end → (run_upto m t).state ≡ end
  state_next end g h = ap (λ u. (run_upto m u).state) now ∙ sym (ap (λ d. d.state) (goes g)) ∙ h

  pub outs_next : (all : List Effect) → (run_once s).goes ≡ true → made ++ (run_upto n s).outs ≡ all → more ++ (run_upto m t).outs ≡ all
  outs_next all g h =
      ap (λ u. u ++ (run_upto m t).outs) out ∙ ap (λ u. (made ++ (run_once s).done.outs) ++ (run_upto m u).outs) now
      ∙ append_assoc made _ _ ∙ sym (ap (λ d. made ++ d.outs) (goes g)) ∙ h

  pub state_last : (end : Serving) → (run_once s).goes ≡ false → (run_upto n s).state ≡ end → t ≡ end
  state_last end g h = now ∙ sym (ap (λ d. d.state) (stops g)) ∙ h

  pub outs_last : (all : List Effect) → (run_once s).goes ≡ false → made ++ (run_upto n s).outs ≡ all → more ≡ all
  outs_last all g h = out ∙ sym (ap (λ d. made ++ d.outs) (stops g)) ∙ h

-- where no turn is left, nothing more is done
pub state_over : (n : ℕ) (s end : Serving) → n ≡ 0 → (run_upto n s).state ≡ end → s ≡ end
unfolding run_upto
state_over n s end e h = subst (λ k. (run_upto k s).state ≡ end) e h

pub outs_over : (n : ℕ) (s : Serving) (made all : List Effect) → n ≡ 0 → made ++ (run_upto n s).outs ≡ all → made ≡ all
unfolding run_upto
outs_over n s made all e h = sym (append-nil made) ∙ subst (λ k. made ++ (run_upto k s).outs ≡ all) e h
