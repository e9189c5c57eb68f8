-- The plan of a call on files over the acts of a run: it stands where the answers lead that its calls on blocks had, and each of them was acted.
use Rattle.std.proofs.Common.{◌≡◌, ℕ, true, List, [], ◌∷◌, ◌++◌, append-nil, append_assoc, Option, Some, refl, sym, ap, subst, ◌∙◌}
use Rattle.client_call.specs.Calls.{may_make}
use Rattle.file_plan.specs.declared.block_call.BlockAnswer.{BlockAnswer}
use Rattle.file_plan.specs.declared.block_call.BlockAnswer.TheVariants.{Got, Changed, Synced}
use Rattle.file_plan.specs.declared.block_call.BlockAnswer.TheVariants.{Put as Written}
use Rattle.file_plan.specs.declared.block_call.BlockCall.{BlockCall}
use Rattle.file_plan.specs.declared.block_call.BlockCall.TheVariants.{Get, Put, PutAt, Sync}
use Rattle.file_plan.specs.declared.block_call.Next.{Next}
use Rattle.file_plan.specs.declared.block_call.Next.TheVariants.{Step, Reply}
use Rattle.file_plan.specs.declared.state.PlanState.{PlanState}
use Rattle.file_plan.specs.Plan as plan
use Rattle.version_model.specs.declared.act.Act.{Act}
use Rattle.version_model.specs.declared.act.Act.TheVariants as act
use Rattle.version_model.specs.declared.answer.Answer.{Answer}
use Rattle.version_model.specs.declared.file_call.FileCall.{FileCall}
use Rattle.version_model.specs.declared.work.Work.{Work}
use Rattle.version_model.specs.declared.work.Work.TheVariants as work
use Rattle.run_answers.proofs.act_law.Telling.{in_behind}
use Rattle.headline.specs.Files.{AreActed, IsActed, IsCallsAnswer, IsGiven, IsPlanned}

-- ---- answers of calls on blocks

module _ (client : ℕ) where
  acted_behind : (step : BlockCall) (a : BlockAnswer) (front acts : List Act) → IsActed client step a acts → IsActed client step a (front ++ acts)
  acted_behind (Get block) (Got ver value) front acts f = in_behind (act.Read client block ver value) front acts f
  acted_behind (Put block value) (Written ver) front acts f = in_behind (act.Wrote client block value) front acts f
  acted_behind (PutAt block named value) (Written ver) front acts f = in_behind (act.Wrote client block value) front acts f
  acted_behind (PutAt block named value) Changed front acts f = tt
  acted_behind Sync Synced front acts f = in_behind (act.Synced client) front acts f
  acted_behind _ _ front acts f = absurd f

  module _ (makes : List BlockAnswer → Next) where
    -- while more is acted
    still_acted : (had answers : List BlockAnswer) (acts more : List Act) → AreActed client makes had answers acts → AreActed client makes had answers (acts ++ more)
    still_acted had [] acts more f = tt
    still_acted had (a ∷ answers) acts more f = (
      f.0,
      f.1 ++ more,
      f.2,
      ap (λ (xs : List Act). xs ++ more) f.3 ∙ append_assoc f.0 f.1 more,
      f.4,
      f.5,
      still_acted (had ++ a ∷ []) answers f.1 more f.6,
    )

    -- and one answer more
    then_acted : (had answers : List BlockAnswer) (a : BlockAnswer) (step : BlockCall) (acts more : List Act) → makes (had ++ answers) ≡ Step step
        → IsActed client step a more → AreActed client makes had answers acts → AreActed client makes had (answers ++ a ∷ []) (acts ++ more)
    then_acted had [] a step acts more next now f = (
      acts ++ more,
      [],
      step,
      sym (append-nil (acts ++ more)),
      subst (λ xs. makes xs ≡ Step step) (append-nil had) next,
      acted_behind step a acts more now,
      tt,
    )
    then_acted had (b ∷ answers) a step acts more next now f = (
      f.0,
      f.1 ++ more,
      f.2,
      ap (λ (xs : List Act). xs ++ more) f.3 ∙ append_assoc f.0 f.1 more,
      f.4,
      f.5,
      then_acted (had ++ b ∷ []) answers a step f.1 more (subst (λ xs. makes xs ≡ Step step) (sym (append_assoc had (b ∷ []) answers)) next) now f.6,
    )

-- ---- a plan

after_one : (s : PlanState) (answers : List BlockAnswer) (a : BlockAnswer) → plan.after_all s (answers ++ a ∷ []) ≡ plan.file_plan_answered (plan.after_all s answers) a
after_one s [] a = refl
after_one s (b ∷ answers) a = after_one (plan.file_plan_answered s b) answers a

module _ (Began : ℕ → List Act → Type 0) (client item : ℕ) where
  -- behind these acts the plan of the call stands here
  pub record Trail (call : FileCall) (acts : List Act) (p : PlanState) : Type 0 where
    pub first : List Act
    pub since : List Act
    pub all : acts ≡ first ++ since
    pub begins : Began item first
    pub answers : List BlockAnswer
    pub acted : AreActed client (plan.plan call item client) [] answers since
    pub stands : plan.after_all (plan.start call (plan.made_by item client)) answers ≡ p

  -- it has just begun
  begun_trail : (call : FileCall) (first since : List Act) → Began item first
      → Trail call (first ++ since) (plan.start call (plan.made_by item client))
  begun_trail call first since begins =
      record { first = first; since = since; all = refl; begins = begins; answers = []; acted = tt; stands = refl }

  more_trail : (call : FileCall) (acts more : List Act) (p : PlanState) → Trail call acts p → Trail call (acts ++ more) p
  more_trail call acts more p t = record {
    first = t.first;
    since = t.since ++ more;
    all = ap (λ (xs : List Act). xs ++ more) t.all ∙ append_assoc t.first t.since more;
    begins = t.begins;
    answers = t.answers;
    acted = still_acted client (plan.plan call item client) [] t.answers t.since more t.acted;
    stands = t.stands;
  }

  next_trail : (call : FileCall) (acts more : List Act) (p : PlanState) (step : BlockCall) (a : BlockAnswer) → plan.file_plan_next p ≡ Step step
      → IsActed client step a more → Trail call acts p → Trail call (acts ++ more) (plan.file_plan_answered p a)
  next_trail call acts more p step a next now t = record {
    first = t.first;
    since = t.since ++ more;
    all = ap (λ (xs : List Act). xs ++ more) t.all ∙ append_assoc t.first t.since more;
    begins = t.begins;
    answers = t.answers ++ a ∷ [];
    acted = then_acted client (plan.plan call item client) [] t.answers a step t.since more (ap plan.file_plan_next t.stands ∙ next) now t.acted;
    stands = after_one (plan.start call (plan.made_by item client)) t.answers a ∙ ap (λ (q : PlanState). plan.file_plan_answered q a) t.stands;
  }

  planned : (call : FileCall) (acts : List Act) (p : PlanState) (a : Answer) → plan.file_plan_next p ≡ Reply a → Trail call acts p
      → IsPlanned Began client item call acts a
  planned call acts p a next t = record {
    first = t.first;
    since = t.since;
    all = t.all;
    begins = t.begins;
    answers = t.answers;
    acted = t.acted;
    replies = ap plan.file_plan_next t.stands ∙ next;
  }

  -- ---- the plan of what is asked for

  -- a call on files is, and its plan stands here
  abbrev pub Trailed : Option Work → List Act → PlanState → Type 0
  Trailed (Some (work.File c call)) acts p = (may_make item client ≡ true) × Trail call acts p
  Trailed _ acts p = ⊥

  pub begins_trailed : (c : ℕ) (call : FileCall) (first since : List Act) → Began item first → may_make item client ≡ true
      → Trailed (Some (work.File c call)) (first ++ since) (plan.start call (plan.made_by item client))
  begins_trailed c call first since begins room = (room, begun_trail call first since begins)

  pub more_trailed : (w : Option Work) (acts more : List Act) (p : PlanState) → Trailed w acts p → Trailed w (acts ++ more) p
  more_trailed (Some (work.File c call)) acts more p t = (t.0, more_trail call acts more p t.1)
  more_trailed _ acts more p t = absurd t

  pub next_trailed : (w : Option Work) (acts more : List Act) (p : PlanState) (step : BlockCall) (a : BlockAnswer) → plan.file_plan_next p ≡ Step step
      → IsActed client step a more → Trailed w acts p → Trailed w (acts ++ more) (plan.file_plan_answered p a)
  next_trailed (Some (work.File c call)) acts more p step a next now t = (t.0, next_trail call acts more p step a next now t.1)
  next_trailed _ acts more p step a next now t = absurd t

  -- what it replies is the answer
  pub replies_so : (w : Option Work) (acts : List Act) (p : PlanState) (a : Answer) → plan.file_plan_next p ≡ Reply a → Trailed w acts p
      → IsCallsAnswer Began client item w acts a
  replies_so (Some (work.File c call)) acts p a next t =
      subst (λ room. IsGiven Began client item call room acts a) (sym t.0) (planned call acts p a next t.1)
  replies_so _ acts p a next t = absurd t
