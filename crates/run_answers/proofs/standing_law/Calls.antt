-- The calls of a client, and what they answer: what their plans reply.
use Rattle.std.proofs.Common.{◌≡◌, ℕ, Option, Some, None, refl}
use Rattle.client_call.specs.Calls.{plan_answered, answer_of, call_of, stands_by, going_by, may_make}
use Rattle.client_call.specs.declared.call.Call.{Call}
use Rattle.client_call.specs.declared.call.Going.{Going}
use Rattle.client_call.specs.declared.call.Plan.{Plan}
use Rattle.client_call.specs.declared.call.Plan.TheVariants.{One, File}
use Rattle.client_running.specs.Opens.{call_at}
use Rattle.client_running.specs.Running.{running_go_on, run}
use Rattle.client_serving.specs.declared.serving.Serving.{Serving}
use Rattle.client_serving.specs.Sends.{Done}
use Rattle.file_plan.specs.declared.block_call.BlockAnswer.{BlockAnswer}
use Rattle.file_plan.specs.declared.block_call.BlockAnswer.TheVariants.{Got, Changed, Synced}
use Rattle.file_plan.specs.declared.block_call.BlockAnswer.TheVariants.{Put as Written}
use Rattle.file_plan.specs.declared.block_call.Next.{Next}
use Rattle.file_plan.specs.declared.block_call.Next.TheVariants.{Step, Reply}
use Rattle.file_plan.specs.declared.state.PlanState.{PlanState}
use Rattle.file_plan.specs.Plan as plan
use Rattle.serving_moves.proofs.item_moves.Calling.{BeginsSo, CallSo, GoingSo, Went, running_go_on_went, then_runs_went, went}
use Rattle.serving_moves.proofs.item_moves.ClientServing.{Goes}
use Rattle.serving_moves.proofs.item_moves.Plans.{EndsWell, IsFileReply, answered_well, replies_well, start_well}
use Rattle.version_model.specs.declared.answer.Answer.{Answer}
use Rattle.version_model.specs.declared.answer.Answer.TheVariants as answer
use Rattle.version_model.specs.declared.work.Work.{Work}
use Rattle.version_model.specs.declared.work.Work.TheVariants as work
use Rattle.xfs_base.proofs.Booleans.{by_test}
use Rattle.xfs_base.specs.Steps.{saying}

-- an answer of a call
abbrev pub IsReply : Answer → Type 0
IsReply (answer.Version ver) = Unit {0}
IsReply (answer.Got ver value) = Unit {0}
IsReply answer.Done = Unit {0}
IsReply (answer.Made ino) = Unit {0}
IsReply (answer.Bytes bytes) = Unit {0}
IsReply (answer.Size size) = Unit {0}
IsReply (answer.Names names) = Unit {0}
IsReply (answer.File fault) = Unit {0}
IsReply _ = ⊥

file_replies : (a : Answer) → IsFileReply a → IsReply a
file_replies answer.Done reply = tt
file_replies (answer.Made ino) reply = tt
file_replies (answer.Bytes bytes) reply = tt
file_replies (answer.Size size) reply = tt
file_replies (answer.Names names) reply = tt
file_replies (answer.File fault) reply = tt
file_replies _ reply = absurd reply

one_replies : (a : BlockAnswer) → IsReply (answer_of a)
one_replies (Got ver value) = tt
one_replies (Written ver) = tt
one_replies Changed = tt
one_replies Synced = tt

-- the plan of a call on files replies well
abbrev pub PlanWell : Plan → Type 0
PlanWell One = Unit {0}
PlanWell (File p) = EndsWell p

-- no call is open, or such a one
abbrev pub CallWell : Option Call → Type 0
CallWell = CallSo PlanWell

abbrev GoingWell : Going → Type 0
GoingWell = GoingSo PlanWell IsReply

abbrev pub BeginsWell : Option Going → Type 0
BeginsWell = BeginsSo PlanWell IsReply

file_well : (p : PlanState) → EndsWell p → GoingWell (stands_by p)
file_well p well = by (plan.file_plan_next p) refl
  where
    by : (next : Next) → plan.file_plan_next p ≡ next → GoingWell (going_by p next)
    by (Step step) e = well
    by (Reply a) e = file_replies a (replies_well p a well e)

after_well : (p : Plan) (a : BlockAnswer) → PlanWell p → GoingWell (plan_answered p a)
after_well One a well = one_replies a
after_well (File p) a well = file_well (plan.file_plan_answered p a) (answered_well p well a)

work_well : (w : Work) (number self : ℕ) → BeginsWell (call_of w number self)
work_well (work.Bput c block value) number self = tt
work_well (work.Bget c block) number self = tt
work_well (work.Sync c) number self = tt
work_well (work.File c call) number self =
    by_test BeginsWell (may_make number self) (Some (stands_by (plan.start call (plan.made_by number self)))) None
    (λ _. file_well (plan.start call (plan.made_by number self)) (start_well call (plan.made_by number self))) (λ _. tt)
work_well _ number self = tt

pub begins_well : (s : Serving) (number : ℕ) (w : Option Work) → BeginsWell (call_at s number w)
begins_well s number None = tt
begins_well s number (Some w) = work_well w number s.lasting.number

-- what is done, and then the open call runs
pub behind_well : (s : Serving) (d : Done) → CallWell s.call → Goes s d → Went PlanWell IsReply s (saying d.outs (run d.state))
behind_well s d well g = then_runs_went PlanWell IsReply after_well work_well s d well (went PlanWell IsReply s d g)

-- a call that has begun
pub going_well : (s : Serving) (g : Going) → CallWell s.call → GoingWell g → Went PlanWell IsReply s (saying (running_go_on s g).outs (run (running_go_on s g).state))
going_well s g calls well = then_runs_went PlanWell IsReply after_well work_well s (running_go_on s g) calls (running_go_on_went PlanWell IsReply s g well)
