-- The open call of a client makes one call on blocks: it is answered, or waits.
use Rattle.std.proofs.Common.{◌≡◌, ℕ, zero, suc, true, false, List, [], ◌++◌, Some, None, refl, ap, ◌∙◌, append-nil}
use Rattle.client_running.specs.Blocks.{Made, blocks_make}
use Rattle.client_running.specs.Running.{running_go_on, most_steps, ran, run, run_once, run_upto}
use Rattle.client_call.specs.Calls.{answer_of, call_new}
use Rattle.client_call.specs.declared.call.Plan.TheVariants.{One}
use Rattle.client_serving.specs.declared.serving.Serving.{Serving}
use Rattle.file_plan.specs.declared.block_call.BlockAnswer.{BlockAnswer}
use Rattle.file_plan.specs.declared.block_call.BlockCall.{BlockCall}
use Rattle.node_base.specs.Beginning.{items_answer, answers_unanswered}
use Rattle.node_base.specs.declared.effects.Effect.{Effect}
use Rattle.xfs_base.specs.Steps.{saying, still}

-- with no call nothing runs
none_upto : (n : ℕ) (s : Serving) → s.call ≡ None → run_upto n s ≡ still s
unfolding run_upto run_once
none_upto zero s none = refl
none_upto (suc n) s none = rw none refl

pub runs_none : (s : Serving) → s.call ≡ None → run s ≡ still s
unfolding run
runs_none s none = none_upto most_steps s none

-- the item of the call is answered
abbrev pub with_answer : Serving → Serving
with_answer s = record s { lasting = record s.lasting { items = items_answer s.lasting.items } }

module _ (s : Serving) (step : BlockCall) (is_open : s.call ≡ Some (call_new One step)) where
  abbrev pub waiting : Serving
  waiting = record s { call = None }

  once : (made : Made) → blocks_make waiting step ≡ made → run_once s ≡ ran (call_new One step) made
  unfolding run_once
  once made is = rw (is_open, is) refl

  module _ (after : Serving) (outs : List Effect) (a : BlockAnswer) (is : blocks_make waiting step ≡ record { done = record { state = after; outs = outs }; answer = Some a })
      (none : after.call ≡ None) where
    abbrev pub all_outs : List Effect
    all_outs = outs ++ answers_unanswered after.lasting.items.unanswered (answer_of a)

    once_answered : run_once s ≡ record { done = record { state = with_answer after; outs = all_outs }; goes = true }
    unfolding running_go_on
    once_answered = once _ is

    answered_upto : (n : ℕ) → run_upto (suc n) s ≡ record { state = with_answer after; outs = all_outs }
    unfolding run_upto
    answered_upto n =
        rw once_answered
        (ap (saying all_outs) (none_upto n (with_answer after) none) ∙ ap (λ outs. record { state = with_answer after; outs = outs }) (append-nil all_outs))

    pub runs_answered : run s ≡ record { state = with_answer after; outs = all_outs }
    unfolding run
    runs_answered = answered_upto 4095

  module _ (after : Serving) (outs : List Effect) (is : blocks_make waiting step ≡ record { done = record { state = after; outs = outs }; answer = None }) where
    abbrev pub kept : Serving
    kept = record after { call = Some (call_new One step) }

    once_waits : run_once s ≡ record { done = record { state = kept; outs = outs ++ [] }; goes = false }
    once_waits = once _ is

    waits_upto : (n : ℕ) → run_upto (suc n) s ≡ record { state = kept; outs = outs ++ [] }
    unfolding run_upto
    waits_upto n = rw once_waits refl

    pub runs_waits : run s ≡ record { state = kept; outs = outs }
    unfolding run
    runs_waits = waits_upto 4095 ∙ ap (λ outs. record { state = kept; outs = outs }) (append-nil outs)
