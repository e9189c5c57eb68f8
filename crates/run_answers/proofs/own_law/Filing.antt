-- Which acts of items effects are.
use Rattle.std.proofs.Common.{◌≡◌, ℕ, List, [], ◌∷◌, ◌++◌, append-nil, Option, Some, None, refl, ap, ◌∙◌}
use Rattle.std.proofs.lemmas.List.Concat.{flat_map-append}
use Rattle.std.proofs.lemmas.List.Elements.{filter-append}
use Rattle.file_plan.specs.declared.block_call.BlockAnswer.{BlockAnswer}
use Rattle.file_plan.specs.declared.block_call.BlockAnswer.TheVariants.{Got, Changed, Synced}
use Rattle.file_plan.specs.declared.block_call.BlockAnswer.TheVariants.{Put as Written}
use Rattle.file_plan.specs.declared.block_call.BlockCall.{BlockCall}
use Rattle.file_plan.specs.declared.block_call.BlockCall.TheVariants.{Get, Put, PutAt, Sync}
use Rattle.node_base.specs.Beginning.{answers_unanswered}
use Rattle.node_base.specs.declared.effects.Effect.{Effect}
use Rattle.node_base.specs.declared.effects.Effect.TheVariants.{Send, Answer as Answers, Lose, Does}
use Rattle.node_base.specs.Effects.{act_of, acts_of}
use Rattle.serving_moves.specs.call_moves.Moves.{AllStill, IsFiled, tells}
use Rattle.headline.specs.Calls.{answered_so, is_of_items, of_items, told}
use Rattle.version_model.specs.declared.act.Act.{Act}
use Rattle.version_model.specs.declared.act.Act.TheVariants as act
use Rattle.version_model.specs.declared.answer.Answer.{Answer}
use Rattle.xfs_base.specs.declared.node.NodeId.{NodeId}

module _ (me : NodeId) where
  -- the acts of items of these effects
  abbrev pub its_acts : List Effect → List Act
  its_acts outs = of_items (acts_of me outs)

  pub acts_then : (xs ys : List Effect) → its_acts (xs ++ ys) ≡ its_acts xs ++ its_acts ys
  acts_then xs ys = ap of_items (flat_map-append (act_of me) xs ys) ∙ filter-append is_of_items (acts_of me xs) (acts_of me ys)

  filed_aside : (a : Act) → IsFiled a → of_items (a ∷ []) ≡ []
  filed_aside (act.Filed seg) filed = refl
  filed_aside _ filed = absurd filed

  -- what is still is none
  pub still_none : (outs : List Effect) → AllStill outs → its_acts outs ≡ []
  still_none [] all = refl
  still_none (Send to said ∷ outs) all = still_none outs all.1
  still_none (Answers item a ∷ outs) all = absurd all.0
  still_none (Lose name ∷ outs) all = absurd all.0
  still_none (Does (act.Filed seg) ∷ outs) all = still_none outs all.1
  still_none (Does _ ∷ outs) all = absurd all.0

  -- behind what is still, and before it
  pub behind_still : (xs ys : List Effect) → AllStill xs → its_acts (xs ++ ys) ≡ its_acts ys
  behind_still xs ys all = acts_then xs ys ∙ ap (λ (acts : List Act). acts ++ its_acts ys) (still_none xs all)

  pub before_still : (xs ys : List Effect) → AllStill ys → its_acts (xs ++ ys) ≡ its_acts xs
  before_still xs ys all = acts_then xs ys ∙ (ap (λ (acts : List Act). its_acts xs ++ acts) (still_none ys all) ∙ append-nil (its_acts xs))

  -- what an answer to a call on blocks tells of is
  pub told_are : (client : ℕ) (call : BlockCall) (a : BlockAnswer) → its_acts (tells client call (Some a)) ≡ told client call a
  told_are client (Get block) (Got ver value) = refl
  told_are client (Put block value) (Written ver) = refl
  told_are client (PutAt block named value) (Written ver) = refl
  told_are client Sync Synced = refl
  told_are client (Get block) (Written ver) = refl
  told_are client (Get block) Changed = refl
  told_are client (Get block) Synced = refl
  told_are client (Put block value) (Got ver v) = refl
  told_are client (Put block value) Changed = refl
  told_are client (Put block value) Synced = refl
  told_are client (PutAt block named value) (Got ver v) = refl
  told_are client (PutAt block named value) Changed = refl
  told_are client (PutAt block named value) Synced = refl
  told_are client Sync (Got ver v) = refl
  told_are client Sync (Written ver) = refl
  told_are client Sync Changed = refl

  -- so are answers
  pub answered_are : (item : Option ℕ) (a : Answer) → its_acts (answers_unanswered item a) ≡ answered_so me item a
  answered_are None a = refl
  answered_are (Some item) a = refl
