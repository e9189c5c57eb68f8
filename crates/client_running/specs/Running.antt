-- The open call: it is looked at at the end of each event.
use Rattle.std.specs.Prelude.{ℕ, zero, suc, Bool, true, false, if◌then◌else◌, Option, Some, None}
use Rattle.client_call.specs.Calls.{plan_answered}
use Rattle.client_call.specs.declared.call.Call.{Call}
use Rattle.client_call.specs.declared.call.Going.TheVariants.{On, Ends}
use Rattle.client_call.specs.declared.call.Going.{Going}
use Rattle.client_running.specs.Blocks.{Made, blocks_make}
use Rattle.client_serving.specs.declared.serving.Serving.{Serving}
use Rattle.client_serving.specs.Sends.{Done, gives}
use Rattle.file_plan.specs.declared.block_call.BlockAnswer.{BlockAnswer}
use Rattle.node_base.specs.Beginning.{items_answer, answers_unanswered}
use Rattle.xfs_base.specs.Steps.{still, saying}

-- the open call stands so: it goes on, or its item is answered
unfoldable pub running_go_on : Serving → Going → Done
running_go_on s (On call) = still (record s { call = Some call })
running_go_on s (Ends answer) =
    gives (record s { lasting = record s.lasting { items = items_answer s.lasting.items } }) (answers_unanswered s.lasting.items.unanswered answer)

-- one call on blocks of the open call: what it does, and whether it was answered
pub record Ran : Type 0 where
  pub done : Done
  pub goes : Bool

-- the call waits with its call on blocks, or that was answered so
abbrev pub take_answer : Serving → Call → Option BlockAnswer → Ran
take_answer s call None = record { done = still (record s { call = Some call }); goes = false }
take_answer s call (Some a) = record { done = running_go_on s (plan_answered call.plan a); goes = true }

abbrev pub ran : Call → Made → Ran
ran call made = (let r = take_answer made.done.state call made.answer in record { done = saying made.done.outs r.done; goes = r.goes })

abbrev pub runs_call : Serving → Option Call → Ran
runs_call s None = record { done = still s; goes = false }
runs_call s (Some call) = ran call (blocks_make (record s { call = None }) call.step)

unfoldable pub run_once : Serving → Ran
run_once s = runs_call s s.call

abbrev pub if_goes : Ran → (Serving → Done) → Done
if_goes r f = if r.goes then saying r.done.outs (f r.done.state) else r.done

-- so many calls on blocks at most
unfoldable pub run_upto : ℕ → Serving → Done
run_upto zero s = still s
run_upto (suc n) s = if_goes (run_once s) (run_upto n)

-- how many calls on blocks a call makes in one event at most
abbrev pub most_steps : ℕ
most_steps = 4096

-- the open call runs until it must wait or is answered
unfoldable pub run : Serving → Done
run s = run_upto most_steps s
