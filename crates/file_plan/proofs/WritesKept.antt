-- What a plan has written or settled stays so while more answers come.
use Rattle.std.proofs.Common.{◌≡◌, ℕ, Bool, true, false, cond, List, [], ◌∷◌, ◌++◌, refl, ap, ◌∙◌, append_assoc}
use Rattle.xfs_base.specs.declared.block.BlockId.{BlockId}
use Rattle.version_model.specs.History.{Content}
use Rattle.file_plan.specs.declared.block_call.BlockAnswer.{BlockAnswer}
use Rattle.file_plan.specs.declared.block_call.BlockAnswer.TheVariants.{Synced}
use Rattle.file_plan.specs.declared.block_call.BlockAnswer.TheVariants.{Put as Written}
use Rattle.file_plan.specs.declared.block_call.BlockCall.TheVariants.{PutAt}
use Rattle.file_plan.specs.declared.block_call.Next.{Next}
use Rattle.file_plan.specs.declared.block_call.Next.TheVariants.{Step}
use Rattle.file_plan.specs.declared.state.PlanState.{PlanState}
use Rattle.file_plan.specs.Plan.{file_plan_answered, file_plan_next, after_all}
use Rattle.file_plan.specs.WriteOrder.{HasWritten, HasSettled}

-- a fact that holds of the states to which each of two outcomes leads
pub either : (P : PlanState → Type 0) (b : Bool) (x y : PlanState) → P x → P y → P (cond b x y)
either P true x y f g = f
either P false x y f g = g

-- the states after one answer more
pub last : (answers : List BlockAnswer) (a : BlockAnswer) (s : PlanState) → after_all s (answers ++ a ∷ []) ≡ file_plan_answered (after_all s answers) a
last [] a s = refl
last (b ∷ answers) a s = last answers a (file_plan_answered s b)

module _ (s0 : PlanState) where
  abbrev pub from_here : List BlockAnswer → Next
  from_here answers = file_plan_next (after_all s0 answers)

  pub written_more : (IsSuch : BlockId → Content → Type 0) (answers : List BlockAnswer) (a : BlockAnswer) → HasWritten from_here answers IsSuch
      → HasWritten from_here (answers ++ a ∷ []) IsSuch
  written_more IsSuch answers a w = record {
    before = w.before;
    later = w.later ++ a ∷ [];
    block = w.block;
    over = w.over;
    value = w.value;
    made = w.made;
    split = ap (λ (as' : List BlockAnswer). as' ++ a ∷ []) w.split ∙ append_assoc w.before (Written w.made ∷ w.later) (a ∷ []);
    step = w.step;
    such = w.such;
  }

  -- an answer to a write, where it is the last
  pub written_last : (IsSuch : BlockId → Content → Type 0) (answers : List BlockAnswer) (a : BlockAnswer) (made : ℕ) (block : BlockId) (over : ℕ) (value : Content)
      → a ≡ Written made → from_here answers ≡ Step (PutAt block over value) → IsSuch block value → HasWritten from_here (answers ++ a ∷ []) IsSuch
  written_last IsSuch answers a made block over value e step such = record {
    before = answers;
    later = [];
    block = block;
    over = over;
    value = value;
    made = made;
    split = ap (λ (b : BlockAnswer). answers ++ b ∷ []) e;
    step = step;
    such = such;
  }

  pub settled_more : (answers : List BlockAnswer) (a : BlockAnswer) → HasSettled from_here answers → HasSettled from_here (answers ++ a ∷ [])
  settled_more answers a w = record {
    before = w.before;
    later = w.later ++ a ∷ [];
    split = ap (λ (as' : List BlockAnswer). as' ++ a ∷ []) w.split ∙ append_assoc w.before (Synced ∷ w.later) (a ∷ []);
    step = w.step;
    entered = w.entered;
  }
