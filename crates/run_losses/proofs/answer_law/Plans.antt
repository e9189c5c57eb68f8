-- No call ends by its plan with the answer that a segment is lost.
use Rattle.std.proofs.Common.{◌≡◌, ◌⊎◌, inl, inr, refl, sym, subst, ℕ, Some, None}
use Rattle.client_call.specs.Calls.{plan_answered, answer_of, call_of, stands_by, file_call, may_make}
use Rattle.client_call.specs.declared.call.Plan.{Plan}
use Rattle.client_call.specs.declared.call.Plan.TheVariants.{One, File}
use Rattle.file_plan.specs.declared.block_call.BlockAnswer.{BlockAnswer}
use Rattle.file_plan.specs.declared.block_call.BlockAnswer.TheVariants.{Got, Changed, Synced}
use Rattle.file_plan.specs.declared.block_call.BlockAnswer.TheVariants.{Put as Written}
use Rattle.file_plan.specs.declared.state.PlanState.{PlanState}
use Rattle.file_plan.specs.declared.state.PlanState.TheVariants.{Ends}
use Rattle.file_plan.specs.Plan as plan
use Rattle.version_model.specs.declared.answer.Answer.TheVariants as answer
use Rattle.version_model.specs.declared.file_call.FileCall.{FileCall}
use Rattle.version_model.specs.declared.work.Work.{Work}
use Rattle.version_model.specs.declared.work.Work.TheVariants as work
use Rattle.xfs_base.proofs.Booleans.{by_test}
use Rattle.version_model.specs.declared.answer.Answer.{Answer}
use Rattle.serving_moves.proofs.item_moves.Calling.{BeginsSo, GoingSo}
use Rattle.serving_moves.proofs.item_moves.Plans as plans
use Rattle.serving_moves.proofs.item_moves.Plans.{IsFileReply}
use Rattle.run_losses.specs.answer_law.Calls.{EndsWell, NotLost, PlansWell}

reply_well : (a : Answer) → IsFileReply a → NotLost a
reply_well (answer.Lost name) reply = reply
reply_well _ reply = tt

plan_well : (p : PlanState) → plans.EndsWell p → EndsWell p
plan_well (Ends a) well = reply_well a well
plan_well _ well = tt

-- one that has ended stays so
still_over : (b : Answer) (x : BlockAnswer) → NotLost b → EndsWell (plan.file_plan_answered (Ends b) x)
still_over b (Got ver value) well = well
still_over b (Written ver) well = well
still_over b Changed well = well
still_over b Synced well = well

-- and one that has not replies as calls on files do
ended : (p : PlanState) → plans.EndsWell p ⊎ ((b : Answer) × (p ≡ Ends b))
ended (Ends b) = inr (b, refl)
ended _ = inl tt

answered_well : (p : PlanState) → EndsWell p → (a : BlockAnswer) → EndsWell (plan.file_plan_answered p a)
answered_well p well a = by (ended p)
  where
    by : plans.EndsWell p ⊎ ((b : Answer) × (p ≡ Ends b)) → EndsWell (plan.file_plan_answered p a)
    by (inl replies) = plan_well (plan.file_plan_answered p a) (plans.answered_well p replies a)
    by (inr over) = subst (λ (q : PlanState). EndsWell (plan.file_plan_answered q a)) (sym over.1) (still_over over.0 a (subst EndsWell over.1 well))

-- ---- the call

going_well : (p : PlanState) → EndsWell p → GoingSo PlansWell NotLost (stands_by p)
going_well (Ends a) well = well
going_well _ well = tt

one_well : (a : BlockAnswer) → NotLost (answer_of a)
one_well (Got ver value) = tt
one_well (Written ver) = tt
one_well Changed = tt
one_well Synced = tt

pub after_well : (p : Plan) (a : BlockAnswer) → PlansWell p → GoingSo PlansWell NotLost (plan_answered p a)
after_well One a well = one_well a
after_well (File p) a well = going_well (plan.file_plan_answered p a) (answered_well p well a)

file_well : (c : FileCall) (number self : ℕ) → BeginsSo PlansWell NotLost (file_call c number self)
file_well c number self =
    by_test (BeginsSo PlansWell NotLost) (may_make number self) (Some (stands_by (plan.start c (plan.made_by number self)))) None
    (λ _. going_well (plan.start c (plan.made_by number self))
    (plan_well (plan.start c (plan.made_by number self)) (plans.start_well c (plan.made_by number self)))) (λ _. tt)

pub starts_well : (w : Work) (number self : ℕ) → BeginsSo PlansWell NotLost (call_of w number self)
starts_well (work.File client c) number self = file_well c number self
starts_well (work.Bput client block value) number self = tt
starts_well (work.Bget client block) number self = tt
starts_well (work.Sync client) number self = tt
starts_well _ number self = tt
