-- A call begins.
use Rattle.std.specs.Prelude.{ℕ, if◌then◌else◌, [], ◌∷◌, Option, Some, None, is_some}
use Rattle.client_call.specs.Calls.{call_of}
use Rattle.client_call.specs.declared.call.Going.{Going}
use Rattle.client_serving.specs.declared.serving.Serving.{Serving}
use Rattle.client_running.specs.Running.{running_go_on, run}
use Rattle.client_serving.specs.Sends.{Done, gives}
use Rattle.node_base.specs.Beginning.{work_at, items_wait}
use Rattle.node_base.specs.declared.effects.Effect.TheVariants.{Answer as Answers}
use Rattle.version_model.specs.declared.answer.Answer.TheVariants as answer
use Rattle.version_model.specs.declared.work.Work.{Work}
use Rattle.xfs_base.specs.Steps.{saying}

abbrev pub begin_call : Serving → ℕ → Option Going → Done
begin_call s number None = gives s (Answers number answer.Done ∷ [])
begin_call s number (Some going) =
    (let d = running_go_on (record s { lasting = record s.lasting { items = items_wait s.lasting.items number } }) going in saying d.outs (run d.state))

abbrev pub call_at : Serving → ℕ → Option Work → Option Going
call_at s number None = None
call_at s number (Some w) = call_of w number s.lasting.number

-- Begin of a call: it opens, and runs until it must wait. While another is open it is refused.
unfoldable pub opens : Serving → ℕ → Done
opens s number =
    if is_some s.lasting.items.unanswered then gives s (Answers number answer.Busy ∷ [])
    else begin_call s number (call_at s number (work_at s.lasting.items number))
