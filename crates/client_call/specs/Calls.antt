-- The call that is open: what it is to make on blocks, and its answer.
use Rattle.std.specs.Prelude.{ℕ, Bool, ◌&&◌, nat_le, if◌then◌else◌, Option, Some, None}
use Rattle.xfs_base.specs.declared.block.BlockId.{BlockId}
use Rattle.xfs_base.specs.Limits.{max_lines}
use Rattle.client_call.specs.declared.call.Call.{Call}
use Rattle.client_call.specs.declared.call.Going.TheVariants.{On, Ends}
use Rattle.client_call.specs.declared.call.Going.{Going}
use Rattle.client_call.specs.declared.call.Plan.TheVariants.{One, File}
use Rattle.client_call.specs.declared.call.Plan.{Plan}
use Rattle.file_plan.specs.declared.block_call.BlockAnswer.{BlockAnswer}
use Rattle.file_plan.specs.declared.block_call.BlockAnswer.TheVariants as answer
use Rattle.file_plan.specs.declared.block_call.BlockCall.{BlockCall}
use Rattle.file_plan.specs.declared.block_call.BlockCall.TheVariants.{Get, Put, PutAt, Sync}
use Rattle.file_plan.specs.declared.block_call.Next.{Next}
use Rattle.file_plan.specs.declared.block_call.Next.TheVariants.{Step, Reply}
use Rattle.file_plan.specs.declared.state.PlanState.{PlanState}
use Rattle.file_plan.specs.Plan as plan
use Rattle.version_model.specs.declared.answer.Answer.{Answer}
use Rattle.version_model.specs.declared.answer.Answer.TheVariants.{Got, Version, Done as Finished}
use Rattle.version_model.specs.declared.file_call.FileCall.{FileCall}
use Rattle.version_model.specs.declared.work.Work.{Work}
use Rattle.version_model.specs.declared.work.Work.TheVariants as work

-- a call that has this call on blocks to make
abbrev pub call_new : Plan → BlockCall → Call
call_new p step = record { plan = p; step = step; reading = None }

-- the block that a call on blocks is on; none where it waits for all that is dirty
abbrev pub block_of : BlockCall → Option BlockId
block_of (Get block) = Some block
block_of (Put block value) = Some block
block_of (PutAt block ver value) = Some block
block_of Sync = None

abbrev pub going_by : PlanState → Next → Going
going_by p (Step step) = On (call_new (File p) step)
going_by p (Reply answer) = Ends answer

abbrev pub stands_by : PlanState → Going
stands_by p = going_by p (plan.file_plan_next p)

-- the answer of a call that is one call on blocks
abbrev pub answer_of : BlockAnswer → Answer
answer_of (answer.Got ver value) = Got ver value
answer_of (answer.Put ver) = Version ver
answer_of answer.Changed = Finished
answer_of answer.Synced = Finished

-- where a call stands once its call on blocks is answered
abbrev pub plan_answered : Plan → BlockAnswer → Going
plan_answered One a = Ends (answer_of a)
plan_answered (File p) a = stands_by (plan.file_plan_answered p a)

-- neither an item nor a client has a greater number
abbrev pub may_make : ℕ → ℕ → Bool
may_make number self = nat_le number max_lines && (nat_le 1 self && nat_le self 8)

-- the call on files of an item
abbrev pub file_call : FileCall → ℕ → ℕ → Option Going
file_call call number self = if may_make number self then Some (stands_by (plan.start call (plan.made_by number self))) else None

-- the call of an item; none where the item is no call, or is one on files that its number or its client can't make
abbrev pub call_of : Work → ℕ → ℕ → Option Going
call_of (work.Bput client block value) number self = Some (On (call_new One (Put block value)))
call_of (work.Bget client block) number self = Some (On (call_new One (Get block)))
call_of (work.Sync client) number self = Some (On (call_new One Sync))
call_of (work.File client call) number self = file_call call number self
call_of (work.Crash node) number self = None
call_of (work.Restart node) number self = None
call_of (work.Checkpoint manager) number self = None
call_of (work.Lose server) number self = None
call_of (work.Rebuild server) number self = None
call_of (work.Move slot manager) number self = None
call_of (work.Clean count) number self = None
call_of (work.NetLose count) number self = None
call_of (work.NetAgain count) number self = None
call_of (work.NetMix seed) number self = None
call_of work.NetHold number self = None
call_of work.NetGo number self = None
call_of (work.NetStep count) number self = None
call_of (work.BoardStop board) number self = None
call_of (work.BoardStart board) number self = None
call_of (work.ServerStop server passes) number self = None
call_of (work.ServerStart server) number self = None
