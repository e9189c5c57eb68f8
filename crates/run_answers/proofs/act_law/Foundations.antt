-- The foundation of a client's answers, and that it grows.
use Rattle.std.proofs.Common.{ℕ, List, ◌++◌, Option}
use Rattle.version_model.specs.declared.act.Act.{Act}
use Rattle.version_model.specs.declared.answer.Answer.{Answer}
use Rattle.version_model.specs.declared.answer.Answer.TheVariants as answer
use Rattle.version_model.specs.declared.work.Work.{Work}
use Rattle.run_answers.proofs.act_law.Telling.{Foundation, Grows}
use Rattle.headline.specs.Answers.{IsFounded}
use Rattle.headline.specs.Files.{IsByPlan}
use Rattle.headline.specs.Items.{asked_at}

-- of a client that has these works, in an event behind these acts of the run
module _ (Began : ℕ → List Act → Type 0) (client : ℕ) (works : List Work) (first : List Act) where
  -- what is founded on some items that are done is founded on more
  founded_more : (w : Option Work) (said : List Act) (done all : ℕ → Type 0) (a : Answer) → ((n : ℕ) → done n → all n)
      → IsFounded client works w said done a → IsFounded client works w said all a
  founded_more w said done all answer.Cut up f = (f.0, (f.1.0, up f.0 f.1.1))
  founded_more w said done all _ up f = f

  -- what an answer is founded on that is given to an item which asks for this: it tells of acts of the event, and is by the plan of a call on files
  abbrev pub ItsOf : Option Work → ℕ → List Act → (ℕ → Type 0) → Answer → Type 0
  ItsOf w item said done a = IsFounded client works w said done a × IsByPlan Began client item w (first ++ said) a

  abbrev pub Its : Foundation
  Its item said done a = ItsOf (asked_at works item) item said done a

  pub its_grow : Grows Its
  its_grow item said done all a up f = (founded_more (asked_at works item) said done all a up f.0, f.1)
