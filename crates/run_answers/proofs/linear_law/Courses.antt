-- A stretch of a call is its course: its plan, as the client keeps it, stands where the answers lead that its calls on blocks had.
use Rattle.std.proofs.Common.{◌≡◌, ◌⊎◌, ℕ, Bool, true, false, List, [], ◌∷◌, ◌++◌, append-nil, append_assoc, Option, Some, None, inl, inr, if◌then◌else◌, refl, sym, ap, subst, ◌∙◌}
use Rattle.client_call.specs.Calls.{plan_answered, answer_of, call_new, call_of, stands_by, going_by, may_make}
use Rattle.client_call.specs.declared.call.Call.{Call}
use Rattle.client_call.specs.declared.call.Going.{Going}
use Rattle.client_call.specs.declared.call.Going.TheVariants.{On, Ends}
use Rattle.client_call.specs.declared.call.Plan.{Plan}
use Rattle.client_call.specs.declared.call.Plan.TheVariants.{One, File}
use Rattle.file_plan.specs.declared.block_call.BlockAnswer.{BlockAnswer}
use Rattle.file_plan.specs.declared.block_call.BlockCall.{BlockCall}
use Rattle.file_plan.specs.declared.block_call.BlockCall.TheVariants.{Get, Put, Sync}
use Rattle.file_plan.specs.declared.block_call.Next.{Next}
use Rattle.file_plan.specs.declared.block_call.Next.TheVariants.{Step, Reply}
use Rattle.file_plan.specs.declared.state.PlanState.{PlanState}
use Rattle.file_plan.specs.Plan as plan
use Rattle.headline.specs.Calls.{Stretch, answered_so, told}
use Rattle.token_protocol.specs.Basics.{In}
use Rattle.version_model.specs.declared.act.Act.{Act}
use Rattle.version_model.specs.declared.act.Act.TheVariants as act
use Rattle.version_model.specs.declared.answer.Answer.{Answer}
use Rattle.version_model.specs.declared.work.Work.{Work}
use Rattle.version_model.specs.declared.work.Work.TheVariants as work
use Rattle.xfs_base.specs.declared.node.NodeId.TheVariants as nodes
use Rattle.run_laws.proofs.world_law.Sent.{in_append}
use Rattle.run_answers.proofs.own_law.Answered.{is_it, told_no}
use Rattle.run_answers.proofs.own_law.Whole.{blocks_then, its_told}
use Rattle.headline.specs.Courses.{Course, Doing, by_one, doing_of}
use Rattle.headline.specs.Courses.Course.{Waits as Awaits, Replies, Told as Goes}
use Rattle.headline.specs.Calls.Stretch.{Waits, Told, Finishes}
use Rattle.headline.specs.ItemActs.{blocks_by}

module _ (does : Doing) where
  -- ---- where a call stands, by the answers that it had

  -- behind any further ones it does what its plan says
  abbrev pub PlanAt : List BlockAnswer → Plan → Type 0
  PlanAt had One = (x : BlockAnswer) → does (had ++ x ∷ []) ≡ Reply (answer_of x)
  PlanAt had (File p) = (more : List BlockAnswer) → does (had ++ more) ≡ plan.file_plan_next (plan.after_all p more)

  abbrev pub At : List BlockAnswer → Going → Type 0
  At had (On call) = (does had ≡ Step call.step) × PlanAt had call.plan
  At had (Ends a) = does had ≡ Reply a

  goes_at : (had : List BlockAnswer) (p : PlanState) (next : Next) → plan.file_plan_next p ≡ next → PlanAt had (File p) → At had (going_by p next)
  goes_at had p next is at = by next (ap does (sym (append-nil had)) ∙ (at [] ∙ is))
    where
      by : (n : Next) → does had ≡ n → At had (going_by p n)
      by (Step step) here = (here, at)
      by (Reply a) here = here

  pub after_at : (had : List BlockAnswer) (q : Plan) (x : BlockAnswer) → PlanAt had q → At (had ++ x ∷ []) (plan_answered q x)
  after_at had One x at = at x
  after_at had (File p) x at =
      goes_at (had ++ x ∷ []) (plan.file_plan_answered p x) (plan.file_plan_next (plan.file_plan_answered p x)) refl
      (λ more. ap does (append_assoc had (x ∷ []) more) ∙ at (x ∷ more))

  -- ---- a stretch from there

  module _ (client : ℕ) where
    -- its acts of blocks are those of a course, to the answer that is acted
    pub record Coursed (had : List BlockAnswer) (acts : List Act) : Type 0 where
      pub answer : Option Answer
      pub course : Course client does had (blocks_by client acts) answer
      pub told : (item : ℕ) (a : Answer) → In (act.Answered (nodes.Client client) item a) acts → answer ≡ Some a

    no_blocks : (item : Option ℕ) (a : Answer) → blocks_by client (answered_so (nodes.Client client) item a) ≡ []
    no_blocks None a = refl
    no_blocks (Some item) a = refl

    behind_told : (step : BlockCall) (x : BlockAnswer) (rest : List Act)
        → blocks_by client (told client step x ++ rest) ≡ told client step x ++ blocks_by client rest
    behind_told step x rest =
        blocks_then client (told client step x) rest ∙ ap (λ (acts : List Act). acts ++ blocks_by client rest) (its_told client step x)

    pub coursed : {item : Option ℕ} {had : List BlockAnswer} {g : Going} {acts : List Act} {after : Option Call} → At had g
        → Stretch client item g acts after → Coursed had acts
    coursed at (Waits plan step) = record { answer = None; course = Awaits; told = λ n a among. absurd among }
    coursed {had} at (Told {call = call} {acts = rest} x fits more) = by (coursed {had = had ++ x ∷ []} (after_at had call.plan x at.1) more)
      where
        by : Coursed (had ++ x ∷ []) rest → Coursed had (told client call.step x ++ rest)
        by c = record {
          answer = c.answer;
          course = subst (λ (acts : List Act). Course client does had acts c.answer) (sym (behind_told call.step x rest))
              (Goes call.step x at.0 fits c.course);
          told = λ n a among. behind n a (in_append (told client call.step x) rest (act.Answered (nodes.Client client) n a) among);
        }
          where
            behind : (n : ℕ) (a : Answer) → In (act.Answered (nodes.Client client) n a) (told client call.step x) ⊎ In (act.Answered (nodes.Client client) n a) rest
                → c.answer ≡ Some a
            behind n a (inl first) = absurd (told_no client n a call.step x first)
            behind n a (inr later) = c.told n a later
    coursed {item} {had} at (Finishes x) = record {
      answer = Some x;
      course = subst (λ (acts : List Act). Course client does had acts (Some x)) (sym (no_blocks item x)) (Replies x at);
      told = λ n a among. ap Some (is_it client n a item x among).answer;
    }

-- ---- where a call begins

-- the call of an item does so, and stands where that begins
pub record Made (w : Work) (item client : ℕ) (g : Going) : Type 0 where
  pub does : Doing
  pub call : doing_of w item client ≡ Some does
  pub at : At does [] g

one_made : (w : Work) (item client : ℕ) (step : BlockCall) (g : Going) → doing_of w item client ≡ Some (by_one step) → Some (On (call_new One step)) ≡ Some g
    → Made w item client g
one_made w item client step g call is =
    (let same : On (call_new One step) ≡ g = cc in
    subst (Made w item client) same (record { does = by_one step; call = call; at = (refl, λ x. refl) }))

pub made_of : (w : Work) (item client : ℕ) (g : Going) → call_of w item client ≡ Some g → Made w item client g
made_of (work.Bput c block value) item client g is = one_made (work.Bput c block value) item client (Put block value) g refl is
made_of (work.Bget c block) item client g is = one_made (work.Bget c block) item client (Get block) g refl is
made_of (work.Sync c) item client g is = one_made (work.Sync c) item client Sync g refl is
made_of (work.File c call) item client g is = by (may_make item client) refl is
  where
    first : PlanState
    first = plan.start call (plan.made_by item client)

    by : (t : Bool) → may_make item client ≡ t → (if t then Some (stands_by first) else None) ≡ Some g → Made (work.File c call) item client g
    by false may made = absurd cc
    by true may made =
        let same : stands_by first ≡ g = cc in
        subst (Made (work.File c call) item client) same
        (record {
          does = plan.plan call item client;
          call = ap (λ (t : Bool). if t then Some (plan.plan call item client) else None) may;
          at = goes_at (plan.plan call item client) [] first (plan.file_plan_next first) refl (λ more. refl);
        })
made_of _ item client g is = absurd cc

-- and an item that does something is a call
pub going_of : (w : Work) (item client : ℕ) (does : Doing) → doing_of w item client ≡ Some does → (g : Going) × (call_of w item client ≡ Some g)
going_of (work.Bput c block value) item client does is = (On (call_new One (Put block value)), refl)
going_of (work.Bget c block) item client does is = (On (call_new One (Get block)), refl)
going_of (work.Sync c) item client does is = (On (call_new One Sync), refl)
going_of (work.File c call) item client does is = by (may_make item client) refl is
  where
    first : PlanState
    first = plan.start call (plan.made_by item client)

    by : (t : Bool) → may_make item client ≡ t → (if t then Some (plan.plan call item client) else None) ≡ Some does
        → (g : Going) × (call_of (work.File c call) item client ≡ Some g)
    by false may made = absurd cc
    by true may made = (stands_by first, ap (λ (t : Bool). if t then Some (stands_by first) else None) may)
going_of _ item client does is = absurd cc
