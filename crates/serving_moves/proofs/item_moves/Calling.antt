-- What the open call makes of the items of a client that serves: whatever it answers, that is the open item. `P` is asked of the plan of the open call, and `J`
-- is so of what it answers then.
use Rattle.std.proofs.Common.{subst, ◌≡◌, ℕ, zero, suc, [], ◌∷◌, Option, Some, None, is_some, refl, sym}
use Rattle.client_call.specs.Calls.{plan_answered, call_of}
use Rattle.client_call.specs.declared.call.Call.{Call}
use Rattle.client_call.specs.declared.call.Going.{Going}
use Rattle.client_running.specs.Blocks.{Made, blocks_make}
use Rattle.client_serving.specs.declared.serving.Serving.{Serving}
use Rattle.client_running.specs.Opens.{begin_call, call_at, opens}
use Rattle.client_running.specs.Running.{Ran, take_answer, running_go_on, most_steps, ran, run, runs_call, run_once, run_upto}
use Rattle.client_serving.specs.Sends.{Done, gives}
use Rattle.file_plan.specs.declared.block_call.BlockAnswer.{BlockAnswer}
use Rattle.node_base.specs.Beginning.{items_wait, work_at}
use Rattle.node_base.specs.declared.effects.Effect.TheVariants.{Answer as Answers}
use Rattle.version_model.specs.declared.answer.Answer.TheVariants as answer
use Rattle.xfs_base.proofs.Booleans.{by_test}
use Rattle.xfs_base.specs.Steps.{saying, still}
use Rattle.client_call.specs.declared.call.Going.TheVariants as goings
use Rattle.client_call.specs.declared.call.Plan.{Plan}
use Rattle.version_model.specs.declared.answer.Answer.{Answer}
use Rattle.version_model.specs.declared.work.Work.{Work}
use Rattle.serving_moves.proofs.item_moves.ClientServing.{Goes, items_of, makes_go, number_of}
use Rattle.serving_moves.proofs.item_moves.Keeping as moving
use Rattle.serving_moves.proofs.item_moves.Keeping.{moves_of, plainly, same, then_goes}
use Rattle.serving_moves.specs.call_moves.Moves.{CallStays}
use Rattle.serving_moves.specs.item_moves.Moves.{IsNone, IsPrompt, ItemsStay}
use Rattle.serving_moves.specs.item_moves.Moves.Begun.{AtOnce, Waits}
use Rattle.serving_moves.specs.item_moves.Moves.Losses.{Answering}
use Rattle.serving_moves.specs.item_moves.Moves.Move.{Ends}
use Rattle.serving_moves.specs.item_moves.Moves.Moves.{Last}

-- the open call has such a plan, where one is open
abbrev pub CallSo : (Plan → Type 0) → Option Call → Type 0
CallSo P None = Unit {0}
CallSo P (Some call) = P call.plan

-- it goes on by such a plan, or ends so
abbrev pub GoingSo : (Plan → Type 0) → (Answer → Type 0) → Going → Type 0
GoingSo P J (goings.On call) = P call.plan
GoingSo P J (goings.Ends a) = J a

abbrev pub BeginsSo : (Plan → Type 0) → (Answer → Type 0) → Option Going → Type 0
BeginsSo P J None = Unit {0}
BeginsSo P J (Some going) = GoingSo P J going

module _ (P : Plan → Type 0) (J : Answer → Type 0) where
  -- what is done by one that serves
  pub record Went (s : Serving) (d : Done) : Type 0 where
    pub calls : CallSo P s.call → CallSo P d.state.call
    pub does : moving.Goes Answering J Serving items_of number_of s d

  -- and as an item of this number begins
  pub record Opens (number : ℕ) (s : Serving) (d : Done) : Type 0 where
    pub calls : CallSo P d.state.call
    pub does : moving.Opens Answering J IsPrompt Serving items_of number_of number s d

  then_went : (s : Serving) (d x : Done) → Went s d → Went d.state x → Went s (saying d.outs x)
  then_went s d x a b = record { calls = λ so. b.calls (a.calls so); does = then_goes s d x a.does b.does }

  -- ---- moves

  -- a call that is open behind a move has the plan that it had before
  call_so : (before after : Option Call) → CallStays before after → CallSo P before → CallSo P after
  call_so before None stays so = tt
  call_so before (Some call) stays so =
      let old = stays call refl in
      subst P (sym old.1.1.0) (subst (CallSo P) old.1.0 so)

  no_answer : (a : Answer) → IsNone a → J a
  no_answer a none = absurd none

  pub went : (s : Serving) (d : Done) → Goes s d → Went s d
  went s d g = record {
    calls = call_so s.call d.state.call g.calls;
    does = record { its_number = g.does.its_number; moves = moves_of Answering IsNone J no_answer (items_of s) (items_of d.state) d.outs g.does.moves };
  }

  -- it becomes another, with the same items
  turns : (s t : Serving) → (CallSo P s.call → CallSo P t.call) → number_of t ≡ number_of s → ItemsStay (items_of s) (items_of t) → Went s (still t)
  turns s t calls number stay = record { calls = calls; does = plainly s (still t) number stay tt }

  -- ---- the open call

  -- the call goes on, or its item is answered
  pub running_go_on_went : (s : Serving) (going : Going) → GoingSo P J going → Went s (running_go_on s going)
  unfolding running_go_on
  running_go_on_went s (goings.On call) so = turns s (record s { call = Some call }) (λ _. so) refl (same (items_of s))
  running_go_on_went s (goings.Ends a) so = record { calls = λ h. h; does = record { its_number = refl; moves = Last (Ends a so) } }

  module _ (after : (p : Plan) (a : BlockAnswer) → P p → GoingSo P J (plan_answered p a))
      (starts : (w : Work) (number self : ℕ) → BeginsSo P J (call_of w number self)) where
    answers_went : (s : Serving) (call : Call) (a : Option BlockAnswer) → P call.plan → Went s (take_answer s call a).done
    answers_went s call None so = turns s (record s { call = Some call }) (λ _. so) refl (same (items_of s))
    answers_went s call (Some a) so = running_go_on_went s (plan_answered call.plan a) (after call.plan a so)

    call_went : (s : Serving) (call : Option Call) → CallSo P call → Went s (runs_call s call).done
    call_went s None so = turns s s (λ h. h) refl (same (items_of s))
    call_went s (Some call) so =
        let u : Serving = record s { call = None } in
        let m : Made = blocks_make u call.step in
        then_went s (still u) (ran call m).done (turns s u (λ _. tt) refl (same (items_of s)))
        (then_went u m.done (take_answer m.done.state call m.answer).done (went u m.done (makes_go u call.step))
        (answers_went m.done.state call m.answer so))

    once_went : (s : Serving) → CallSo P s.call → Went s (run_once s).done
    unfolding run_once
    once_went s so = call_went s s.call so

    upto_went : (k : ℕ) (s : Serving) → CallSo P s.call → Went s (run_upto k s)
    unfolding run_upto
    upto_went zero s so = turns s s (λ h. h) refl (same (items_of s))
    upto_went (suc k) s so =
        let r : Ran = run_once s in
        let one : Went s r.done = once_went s so in
        by_test (Went s) r.goes (saying r.done.outs (run_upto k r.done.state)) r.done
        (λ _. then_went s r.done (run_upto k r.done.state) one (upto_went k r.done.state (one.calls so))) (λ _. one)

    -- what is done, and then the open call runs
    pub then_runs_went : (s : Serving) (d : Done) → CallSo P s.call → Went s d → Went s (saying d.outs (run d.state))
    unfolding run
    then_runs_went s d so w = then_went s d (run_upto most_steps d.state) w (upto_went most_steps d.state (w.calls so))

    -- ---- a call begins

    begins_went : (s : Serving) (number : ℕ) → CallSo P s.call → (going : Option Going) → BeginsSo P J going → Opens number s (begin_call s number going)
    begins_went s number so None begins =
        record { calls = so; does = record { its_number = refl; begun = AtOnce answer.Done [] [] tt tt tt } }
    begins_went s number so (Some going) begins =
        let t : Serving = record s { lasting = record s.lasting { items = items_wait s.lasting.items number } } in
        let w : Went t (saying (running_go_on t going).outs (run (running_go_on t going).state)) =
        then_runs_went t (running_go_on t going) so (running_go_on_went t going begins) in
        record { calls = w.calls so; does = record { its_number = w.does.its_number; begun = Waits w.does.moves } }

    starts_at : (s : Serving) (number : ℕ) (asked : Option Work) → BeginsSo P J (call_at s number asked)
    starts_at s number None = tt
    starts_at s number (Some w) = starts w number s.lasting.number

    pub opens_went : (s : Serving) (number : ℕ) → CallSo P s.call → Opens number s (opens s number)
    unfolding opens
    opens_went s number so =
        by_test (Opens number s) (is_some s.lasting.items.unanswered) (gives s (Answers number answer.Busy ∷ []))
        (begin_call s number (call_at s number (work_at s.lasting.items number)))
        (λ _. record { calls = so; does = record { its_number = refl; begun = AtOnce answer.Busy [] [] tt tt tt } })
        (λ _. begins_went s number so (call_at s number (work_at s.lasting.items number)) (starts_at s number (work_at s.lasting.items number)))
