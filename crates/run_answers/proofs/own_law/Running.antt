-- The open call runs: a stretch of it.
use Rattle.std.proofs.Common.{◌≡◌, ℕ, zero, suc, Bool, true, false, if◌then◌else◌, List, [], ◌∷◌, ◌++◌, append-nil, append_assoc, Option, Some, None, refl, sym, ap, subst, ◌∙◌}
use Rattle.client_call.specs.Calls.{plan_answered}
use Rattle.client_call.specs.declared.call.Call.{Call}
use Rattle.client_call.specs.declared.call.Going.{Going}
use Rattle.client_call.specs.declared.call.Going.TheVariants.{On, Ends}
use Rattle.client_call.specs.declared.call.Plan.{Plan}
use Rattle.client_call.specs.declared.call.Plan.TheVariants.{One}
use Rattle.client_running.specs.Blocks.{Made, is_settled, blocks_make, blocks_sync}
use Rattle.client_running.specs.Running.{Ran, running_go_on, if_goes, most_steps, ran, run, runs_call, run_once, run_upto}
use Rattle.client_serving.specs.declared.serving.Serving.{Serving}
use Rattle.client_serving.specs.Flights.{held_at}
use Rattle.client_serving.specs.Follow.{serving_seal}
use Rattle.client_serving.specs.Sends.{Done, gives}
use Rattle.file_plan.specs.declared.block_call.BlockAnswer.{BlockAnswer}
use Rattle.file_plan.specs.declared.block_call.BlockAnswer.TheVariants.{Synced}
use Rattle.file_plan.specs.declared.block_call.BlockCall.{BlockCall}
use Rattle.file_plan.specs.declared.block_call.BlockCall.TheVariants.{Sync}
use Rattle.node_base.specs.Beginning.{items_answer}
use Rattle.node_base.specs.declared.effects.Effect.{Effect}
use Rattle.node_base.specs.declared.effects.Effect.TheVariants.{Does}
use Rattle.node_base.specs.declared.items.Items.{Items}
use Rattle.serving_moves.specs.call_moves.Moves.{Fits}
use Rattle.headline.specs.Calls.{EventStretch, IsAnswerTo, IsHeldSince, told}
use Rattle.version_model.specs.declared.act.Act.{Act}
use Rattle.version_model.specs.declared.act.Act.TheVariants as act
use Rattle.xfs_base.specs.declared.node.NodeId.{NodeId}
use Rattle.xfs_base.specs.declared.node.NodeId.TheVariants as nodes
use Rattle.xfs_base.specs.Steps.{saying, still}
use Rattle.run_answers.proofs.own_law.Filing.{acts_then, answered_are, its_acts}
use Rattle.run_answers.proofs.own_law.Holding.{made_after, on_keeps, since_kept}
use Rattle.run_answers.proofs.own_law.Moving.{HasMade, has_made, tells_acts}
use Rattle.headline.specs.Calls.EventStretch.{Awaits, Follows, Concludes}

-- the items behind: while a call is open its item is
abbrev pub items_after : Option Call → Items → Items
items_after None items = items_answer items
items_after (Some call) items = items

-- with no call open nothing runs
pub none_run : (k : ℕ) (s : Serving) → s.call ≡ None → run_upto k s ≡ still s
unfolding run_upto run_once
none_run zero s none = refl
none_run (suc k) s none = ap (λ (r : Ran). if_goes r (run_upto k)) once
  where
    once : run_once s ≡ record { done = still s; goes = false }
    once = ap (runs_call s) none

-- ---- the first turn of a call

module _ (k : ℕ) (s : Serving) (call : Call) where
  -- what its call on blocks makes
  abbrev pub turn_made : Made
  turn_made = blocks_make (record s { call = None }) call.step

  -- with the call open, and that answered so
  pub first_turn : (a : Option BlockAnswer) → turn_made.answer ≡ a
      → run_upto (suc k) (record s { call = Some call }) ≡ if_goes (ran call (record { done = turn_made.done; answer = a })) (run_upto k)
  unfolding run_upto run_once
  first_turn a is = ap (λ (x : Option BlockAnswer). if_goes (ran call (record { done = turn_made.done; answer = x })) (run_upto k)) is

  -- then it goes on, and runs
  pub turn_then : (d : Done) (a : BlockAnswer)
      → if_goes (ran call (record { done = d; answer = Some a })) (run_upto k)
      ≡ saying d.outs (saying (running_go_on d.state (plan_answered call.plan a)).outs (run_upto k (running_go_on d.state (plan_answered call.plan a)).state))
  turn_then d a =
      let g : Done = running_go_on d.state (plan_answered call.plan a) in
      ap (λ (outs : List Effect). record { state = (run_upto k g.state).state; outs = outs }) (append_assoc d.outs g.outs (run_upto k g.state).outs)

-- ---- a call that is one sync

-- where it is open no more, it was answered, with nothing waiting for the log and nothing in flight
pub sync_runs : (k : ℕ) (t : Serving) (call : Call) → t.call ≡ Some call → call.plan ≡ One → call.step ≡ Sync → (run_upto k t).state.call ≡ None
    → is_settled (run_upto k t).state ≡ true
unfolding run_upto run_once blocks_make blocks_sync serving_seal running_go_on
sync_runs zero t call is one sync = λ over. absurd (no_call call (sym over ∙ is))
  where
    no_call : (call : Call) → None ≡ Some call → ⊥
    no_call call fact = cc
sync_runs (suc k) t call is one sync =
    subst Drains (sym (ap (runs_call t) is ∙ ap (λ (step : BlockCall). ran call (blocks_make u step)) sync)) (by (is_settled d.state) refl)
  where
    u : Serving
    u = record t { call = None }

    d : Done
    d = serving_seal u

    Drains : Ran → Type 0
    Drains r = (if_goes r (run_upto k)).state.call ≡ None → is_settled (if_goes r (run_upto k)).state ≡ true

    -- what was answered so
    ended : Plan → Serving
    ended q = (running_go_on d.state (plan_answered q Synced)).state

    by_plan : (q : Plan) → One ≡ q → is_settled d.state ≡ true → is_settled (run_upto k (ended q)).state ≡ true
    by_plan q same settled =
        subst (λ (p : Plan). is_settled (run_upto k (ended p)).state ≡ true) same
        (ap (λ (x : Done). is_settled x.state) (none_run k (ended One) refl) ∙ settled)

    by : (b : Bool) → is_settled d.state ≡ b
        → Drains (ran call (record {
          done = gives d.state (d.outs ++ (if b then Does (act.Synced d.state.lasting.number) ∷ [] else []));
          answer = if b then Some Synced else None;
        }))
    by true settled = λ over. by_plan call.plan (sym one) settled
    by false settled = λ over. absurd (let clash : Some call ≡ None = over in cc)

module _ (client : ℕ) where
  -- this is a stretch from where a call of the open item stands
  pub record Stretched (s : Serving) (g : Going) (d : Done) : Type 0 where
    pub number : d.state.lasting.number ≡ client
    pub items : d.state.lasting.items ≡ items_after d.state.call s.lasting.items
    pub acts : EventStretch client s.lasting.items.unanswered (held_at d.state) g (its_acts (nodes.Client client) d.outs) d.state.call

  abbrev me : NodeId
  me = nodes.Client client

  -- it goes on, and then runs, so often at most
  abbrev on_and_runs : ℕ → Serving → Going → Done
  on_and_runs k s g = saying (running_go_on s g).outs (run_upto k (running_go_on s g).state)

  -- the acts that are told first
  told_then : (s t : Serving) (call : Call) (a : BlockAnswer) (outs : List Effect) (d : Done) → IsAnswerTo call.step a
      → its_acts me outs ≡ told client call.step a → t.lasting.items ≡ s.lasting.items → IsHeldSince (held_at d.state) call.step a (its_acts me d.outs)
      → Stretched t (plan_answered call.plan a) d → Stretched s (On call) (saying outs d)
  told_then s t call a outs d fits acted same since st = record {
    number = st.number;
    items = st.items ∙ ap (items_after d.state.call) same;
    acts = subst (λ (acts : List Act). EventStretch client s.lasting.items.unanswered (held_at d.state) (On call) acts d.state.call)
        (ap (λ (acts : List Act). acts ++ its_acts me d.outs) (sym acted) ∙ sym (acts_then me outs d.outs))
        (Follows a fits since
        (subst (λ (items : Items). EventStretch client items.unanswered (held_at d.state) (plan_answered call.plan a) (its_acts me d.outs) d.state.call) same
        st.acts));
  }

  stretched : (k : ℕ) (s : Serving) (g : Going) → s.lasting.number ≡ client → s.call ≡ None → Stretched s g (on_and_runs k s g)
  unfolding running_go_on run_upto run_once
  stretched k s (Ends a) its none = subst (Stretched s (Ends a)) (ap (saying outs) (sym (none_run k t none))) now
    where
      t : Serving
      t = (running_go_on s (Ends a)).state

      outs : List Effect
      outs = (running_go_on s (Ends a)).outs

      now : Stretched s (Ends a) (saying outs (still t))
      now = record {
        number = its;
        items = subst (λ (call : Option Call). t.lasting.items ≡ items_after call s.lasting.items) (sym none) refl;
        acts = subst (λ (call : Option Call). EventStretch client s.lasting.items.unanswered (held_at t) (Ends a) (its_acts me (outs ++ [])) call) (sym none)
            (subst (λ (acts : List Act). EventStretch client s.lasting.items.unanswered (held_at t) (Ends a) acts None)
            (sym (ap (its_acts me) (append-nil outs) ∙ answered_are me s.lasting.items.unanswered a)) (Concludes a));
      }
  stretched zero s (On call) its none = record { number = its; items = refl; acts = Awaits refl refl }
  stretched (suc k) s (On call) its none = by (λ t g numbered over. stretched k t g numbered over) m.answer refl
    where
      t : Serving
      t = record s { call = Some call }

      u : Serving
      u = record s { call = None }

      m : Made
      m = blocks_make u call.step

      made : HasMade me u call.step m
      made = has_made me u call.step refl

      by : ((t : Serving) (g : Going) → t.lasting.number ≡ client → t.call ≡ None → Stretched t g (on_and_runs k t g)) → (a : Option BlockAnswer) → m.answer ≡ a
          → Stretched s (On call) (saying [] (run_upto (suc k) t))
      by rest None is = subst (Stretched s (On call)) (sym (first_turn k s call None is)) (record {
        number = made.kept.number ∙ its;
        items = made.kept.items;
        acts = subst (λ (acts : List Act). EventStretch client s.lasting.items.unanswered (held_at (record m.done.state { call = Some call })) (On call) acts (Some call))
            (sym (ap (its_acts me) (append-nil m.done.outs) ∙ (made.acts ∙ ap (tells_acts me s.lasting.number call.step) is))) (Awaits refl refl);
      })
      by rest (Some a) is =
          subst (Stretched s (On call)) (sym (first_turn k s call (Some a) is ∙ turn_then k s call m.done a))
          (told_then s m.done.state call a m.done.outs (on_and_runs k m.done.state (plan_answered call.plan a)) (subst (Fits call.step) is made.fits)
          (made.acts ∙ (ap (tells_acts me s.lasting.number call.step) is ∙ ap (λ (n : ℕ). told n call.step a) its)) made.kept.items
          (since_kept client m.done.state (on_and_runs k m.done.state (plan_answered call.plan a)) call.step a (made_after u call.step a is)
          (on_keeps client k m.done.state (plan_answered call.plan a) (made.kept.number ∙ its)))
          (rest m.done.state (plan_answered call.plan a) (made.kept.number ∙ its) made.none))

  -- it goes on so, and runs
  pub going_runs : (s : Serving) (g : Going) → s.lasting.number ≡ client → s.call ≡ None → Stretched s g (saying (running_go_on s g).outs (run (running_go_on s g).state))
  unfolding run
  going_runs s g its none = stretched most_steps s g its none

  -- the open call runs
  pub open_runs : (s : Serving) (call : Call) → s.lasting.number ≡ client → s.call ≡ Some call → Stretched s (On call) (run s)
  unfolding run running_go_on
  open_runs s call its is =
      let u : Serving = record s { call = None } in
      let whole : Stretched u (On call) (run_upto most_steps (record s { call = Some call })) = stretched most_steps u (On call) its refl in
      let same : record s { call = Some call } ≡ s = ap (λ (o : Option Call). record s { call = o }) (sym is) in
      subst (λ (t : Serving). Stretched s (On call) (run_upto most_steps t)) same
      (record { number = whole.number; items = whole.items; acts = whole.acts })

  -- none does
  pub no_runs : (s : Serving) → s.call ≡ None → run s ≡ still s
  unfolding run
  no_runs s none = none_run most_steps s none
