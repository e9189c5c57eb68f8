-- The course of a call: the calls on blocks that it makes, each by what those before were answered, what these answers tell of, and its answer at last.
use Rattle.std.specs.Prelude.{◌≡◌, ℕ, if◌then◌else◌, List, [], ◌∷◌, ◌++◌, Option, Some, None}
use Rattle.client_call.specs.Calls.{answer_of, may_make}
use Rattle.file_plan.specs.declared.block_call.BlockAnswer.{BlockAnswer}
use Rattle.file_plan.specs.declared.block_call.BlockCall.{BlockCall}
use Rattle.file_plan.specs.declared.block_call.BlockCall.TheVariants.{Get, Put, Sync}
use Rattle.file_plan.specs.declared.block_call.Next.{Next}
use Rattle.file_plan.specs.declared.block_call.Next.TheVariants.{Reply, Step}
use Rattle.file_plan.specs.Plan.{plan}
use Rattle.version_model.specs.declared.act.Act.{Act}
use Rattle.version_model.specs.declared.answer.Answer.{Answer}
use Rattle.version_model.specs.declared.work.Work.{Work}
use Rattle.version_model.specs.declared.work.Work.TheVariants as work
use Rattle.headline.specs.Calls.{IsAnswerTo, told}

-- what a call does next, by the answers that its calls on blocks had so far
abbrev pub Doing : Type 0
Doing = List BlockAnswer → Next

-- one call on blocks is made, and what that is answered is replied
abbrev pub by_one : BlockCall → Doing
by_one call [] = Step call
by_one call (x ∷ answers) = Reply (answer_of x)

-- What an item of a client does; none where it is no call, or one on files whose number or client is out of range, as in no script that is read.
abbrev pub doing_of : Work → ℕ → ℕ → Option Doing
doing_of (work.Bput c block value) item client = Some (by_one (Put block value))
doing_of (work.Bget c block) item client = Some (by_one (Get block))
doing_of (work.Sync c) item client = Some (by_one Sync)
doing_of (work.File c call) item client = if may_make item client then Some (plan call item client) else None
doing_of _ item client = None

-- What a client acts of blocks for a call, from where its calls on blocks had these answers, until it is answered so; or so far, where it isn't answered yet.
pub data Course (client : ℕ) (does : Doing) : List BlockAnswer → List Act → Option Answer → Type 0 where
  -- It isn't answered yet.
  Waits : {had : List BlockAnswer} → Course client does had [] None
  -- It replies this, and that is its answer.
  Replies : {had : List BlockAnswer} (a : Answer) → does had ≡ Reply a → Course client does had [] (Some a)
  -- Its next call on blocks is answered so: what the answer tells of is acted, and nothing else, and it goes on.
  Told : {had : List BlockAnswer} {acts : List Act} {a : Option Answer} (step : BlockCall) (x : BlockAnswer) → does had ≡ Step step → IsAnswerTo step x
      → Course client does (had ++ x ∷ []) acts a → Course client does had (told client step x ++ acts) a
