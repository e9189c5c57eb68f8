-- The open call runs: behind that it awaits what it lacks, or so many of its calls on blocks were answered as one event lets it make.
use Rattle.std.proofs.Common.{◌≡◌, ◌⊎◌, ℕ, zero, suc, List, [], ◌++◌, Option, Some, None, inl, inr, refl, sym, ap, subst, ◌∙◌}
use Rattle.client_call.specs.Calls.{plan_answered}
use Rattle.client_call.specs.declared.call.Call.{Call}
use Rattle.client_call.specs.declared.call.Going.{Going}
use Rattle.client_call.specs.declared.call.Going.TheVariants.{On, Ends}
use Rattle.client_call.specs.declared.call.Plan.{Plan}
use Rattle.client_running.specs.Blocks.{Made, blocks_make}
use Rattle.client_running.specs.Running.{most_steps, run, run_once, run_upto, running_go_on}
use Rattle.client_serving.specs.declared.serving.Serving.{Serving}
use Rattle.client_serving.specs.Sends.{Done}
use Rattle.file_plan.specs.declared.block_call.BlockAnswer.{BlockAnswer}
use Rattle.file_plan.specs.declared.block_call.BlockCall.{BlockCall}
use Rattle.node_base.specs.declared.effects.Effect.{Effect}
use Rattle.serving_moves.specs.call_moves.Moves.{Fits}
use Rattle.version_model.specs.declared.act.Act.{Act}
use Rattle.xfs_base.specs.declared.node.NodeId.{NodeId}
use Rattle.xfs_base.specs.declared.node.NodeId.TheVariants as nodes
use Rattle.xfs_base.specs.Steps.{saying}
use Rattle.run_answers.proofs.own_law.Filing.{acts_then, its_acts}
use Rattle.run_answers.proofs.own_law.Moving.{HasMade, has_made, tells_acts}
use Rattle.run_answers.proofs.own_law.Running.{first_turn, none_run, turn_then}
use Rattle.run_answers.proofs.wait_law.Steps.{AwaitsSo, step_waits}
use Rattle.headline.specs.Calls.{IsAnswerTo, told}
use Rattle.headline.specs.Waits.{Makes}
use Rattle.headline.specs.Waits.Makes.{NoMore, OneMore}

-- the call that is open awaits what it lacks
abbrev pub Quiet : Serving → Type 0
Quiet t = (call : Call) → t.call ≡ Some call → AwaitsSo t call.step

one_call : (a b : Call) → Some a ≡ Some b → a ≡ b
one_call a b fact = cc

no_call : (call : Call) → None ≡ Some call → ⊥
no_call call fact = cc

-- where none is open none waits
pub none_quiet : (t : Serving) → t.call ≡ None → Quiet t
none_quiet t none call is = absurd (no_call call (sym none ∙ is))

module _ (client : ℕ) where
  abbrev me : NodeId
  me = nodes.Client client

  -- from where a call stood so many of its calls on blocks are answered, and it is open still
  pub record IsCutAfter (count : ℕ) (g : Going) (d : Done) : Type 0 where
    pub now : Call
    pub stays : d.state.call ≡ Some now
    pub makes : Makes client count g (its_acts me d.outs) (On now)

  abbrev pub Outcome : ℕ → Going → Done → Type 0
  Outcome count g d = Quiet d.state ⊎ IsCutAfter count g d

  -- it goes on, and then runs, so often at most
  abbrev on_and_runs : ℕ → Serving → Going → Done
  on_and_runs k s g = saying (running_go_on s g).outs (run_upto k (running_go_on s g).state)

  -- the answer that comes first
  first_then : (k : ℕ) (call : Call) (a : BlockAnswer) (outs : List Effect) (d : Done) → IsAnswerTo call.step a → its_acts me outs ≡ told client call.step a
      → Outcome k (plan_answered call.plan a) d → Outcome (suc k) (On call) (saying outs d)
  first_then k call a outs d fits acted (inl quiet) = inl quiet
  first_then k call a outs d fits acted (inr cut) = inr (record {
    now = cut.now;
    stays = cut.stays;
    makes = subst (λ (acts : List Act). Makes client (suc k) (On call) acts (On cut.now))
        (ap (λ (acts : List Act). acts ++ its_acts me d.outs) (sym acted) ∙ sym (acts_then me outs d.outs)) (OneMore a fits cut.makes);
  })

  cut : (k : ℕ) (s : Serving) (g : Going) → s.lasting.number ≡ client → s.call ≡ None → Outcome k g (on_and_runs k s g)
  unfolding running_go_on run_upto run_once
  cut k s (Ends a) its none =
      inl (none_quiet (run_upto k (running_go_on s (Ends a)).state).state
      (ap (λ (x : Done). x.state.call) (none_run k (running_go_on s (Ends a)).state none) ∙ none))
  cut zero s (On call) its none = inr (record { now = call; stays = refl; makes = NoMore })
  cut (suc k) s (On call) its none = by (λ t g numbered over. cut k t g numbered over) m.answer refl
    where
      u : Serving
      u = record s { call = None }

      m : Made
      m = blocks_make u call.step

      made : HasMade me u call.step m
      made = has_made me u call.step refl

      by : ((t : Serving) (g : Going) → t.lasting.number ≡ client → t.call ≡ None → Outcome k g (on_and_runs k t g)) → (a : Option BlockAnswer) → m.answer ≡ a
          → Outcome (suc k) (On call) (saying [] (run_upto (suc k) (record s { call = Some call })))
      by rest None is =
          subst (λ (d : Done). Outcome (suc k) (On call) (saying [] d)) (sym (first_turn k s call None is))
          (inl (λ c same. subst (λ (x : Call). AwaitsSo (record m.done.state { call = Some call }) x.step) (one_call call c same) (step_waits u call call.step is)))
      by rest (Some a) is =
          subst (λ (d : Done). Outcome (suc k) (On call) (saying [] d)) (sym (first_turn k s call (Some a) is ∙ turn_then k s call m.done a))
          (first_then k call a m.done.outs (on_and_runs k m.done.state (plan_answered call.plan a)) (subst (Fits call.step) is made.fits)
          (made.acts ∙ (ap (tells_acts me s.lasting.number call.step) is ∙ ap (λ (n : ℕ). told n call.step a) its))
          (rest m.done.state (plan_answered call.plan a) (made.kept.number ∙ its) made.none))

  -- it goes on so, and runs
  pub going_cut : (s : Serving) (g : Going) → s.lasting.number ≡ client → s.call ≡ None
      → Outcome most_steps g (saying (running_go_on s g).outs (run (running_go_on s g).state))
  unfolding run
  going_cut s g its none = cut most_steps s g its none

  -- the open call runs
  pub open_cut : (s : Serving) (call : Call) → s.lasting.number ≡ client → s.call ≡ Some call → Outcome most_steps (On call) (run s)
  unfolding run running_go_on
  open_cut s call its is =
      let u : Serving = record s { call = None } in
      let whole : Outcome most_steps (On call) (run_upto most_steps (record s { call = Some call })) = cut most_steps u (On call) its refl in
      let same : record s { call = Some call } ≡ s = ap (λ (o : Option Call). record s { call = o }) (sym is) in
      subst (λ (t : Serving). Outcome most_steps (On call) (run_upto most_steps t)) same whole

  -- a reading more or less leaves where a call stands
  pub makes_on : (k : ℕ) {acts : List Act} {after : Going} (call new : Call) → new.plan ≡ call.plan → new.step ≡ call.step
      → Makes client (suc k) (On new) acts after → Makes client (suc k) (On call) acts after
  makes_on k {acts} {after} call new plan step (OneMore {acts = rest} a fits more) =
      subst (λ (t : BlockCall). Makes client (suc k) (On call) (told client t a ++ rest) after) (sym step)
      (OneMore a (subst (λ (t : BlockCall). IsAnswerTo t a) step fits) (subst (λ (p : Plan). Makes client k (plan_answered p a) rest after) plan more))
