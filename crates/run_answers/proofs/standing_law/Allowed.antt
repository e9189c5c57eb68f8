-- What a node may answer, shown by what is known of the item and of where the node stands.
use Rattle.std.proofs.Common.{◌≡◌, ℕ, true, List, [], ◌∷◌, ◌++◌, Option, Some, None, is_some, refl, sym, subst, ◌∙◌}
use Rattle.core_world.specs.declared.any_node.AnyNode.{AnyNode}
use Rattle.node_base.specs.Beginning.{answers_unanswered}
use Rattle.node_base.specs.declared.effects.Effect.{Effect}
use Rattle.node_base.specs.declared.effects.Effect.TheVariants.{Answer as Answers}
use Rattle.node_base.specs.declared.items.Items.{Items}
use Rattle.version_model.specs.declared.answer.Answer.{Answer}
use Rattle.version_model.specs.declared.answer.Answer.TheVariants as answer
use Rattle.version_model.specs.declared.work.Work.{Work}
use Rattle.version_model.specs.declared.work.Work.TheVariants as work
use Rattle.serving_moves.specs.item_moves.Moves.{AllPlain, IsCount, IsRebuilt, Losses, Moves}
use Rattle.xfs_base.proofs.Alls.{all_append}
use Rattle.run_answers.proofs.standing_law.Calls.{IsReply}
use Rattle.run_answers.proofs.standing_law.Meeting.{AllMeet, Meets, Moved, moves_meet, open_meets, plain_meets}
use Rattle.headline.specs.Items.{IsOpen, asked_at, items_in}
use Rattle.headline.specs.Standings.{Falls, IsCall, IsCounted, IsDone, IsRebuild, IsRestart, MayAnswer, standing}
use Rattle.headline.specs.Standings.Standing.{Fallen, Serves}

-- one that serves has not fallen
pub serves_apart : (before : AnyNode) → standing before ≡ Serves → standing before ≡ Fallen → ⊥
serves_apart before serves fallen = (let clash : Serves ≡ Fallen = sym serves ∙ fallen in cc)

module _ (before after : AnyNode) (item : ℕ) where
  served_done : (w : Option Work) → IsCall w → standing before ≡ Serves → IsDone before after item w
  served_done (Some (work.Crash node)) called serves = absurd called
  served_done (Some (work.Restart node)) called serves = absurd called
  served_done (Some (work.Lose server)) called serves = absurd called
  served_done (Some (work.Move slot manager)) called serves = absurd called
  served_done _ called serves = serves

  -- an answer of a call
  pub reply_may : (w : Option Work) (a : Answer) → IsReply a → IsCall w → standing before ≡ Serves → MayAnswer before after item w a
  reply_may w (answer.Version ver) reply called serves = (called, serves)
  reply_may w (answer.Got ver value) reply called serves = (called, serves)
  reply_may w answer.Done reply called serves = served_done w called serves
  reply_may w (answer.Made ino) reply called serves = (called, serves)
  reply_may w (answer.Bytes bytes) reply called serves = (called, serves)
  reply_may w (answer.Size size) reply called serves = (called, serves)
  reply_may w (answer.Names names) reply called serves = (called, serves)
  reply_may w (answer.File fault) reply called serves = (called, serves)
  reply_may w _ reply called serves = absurd reply

  -- a restart is done by a node that serves then
  pub restart_done : (w : Option Work) → IsRestart w → (standing before ≡ Serves → ⊥) → standing after ≡ Serves → IsDone before after item w
  restart_done (Some (work.Restart node)) restart apart serves = (apart, serves)
  restart_done _ restart apart serves = absurd restart

-- whether an item is open
pub is_open : (o : Option ℕ) → is_some o ≡ true → (n : ℕ) × (o ≡ Some n)
is_open None fact = absurd cc
is_open (Some n) fact = (n, refl)

-- what is answered by a count, and by how much is filled again
count_may : (before after : AnyNode) (item : ℕ) (w : Option Work) (a : Answer) → IsCount a → IsCounted w → standing before ≡ Serves
    → MayAnswer before after item w a
count_may before after item w (answer.Count count) so counted serves = (counted, serves)
count_may before after item w _ so counted serves = absurd so

rebuilt_may : (before after : AnyNode) (item : ℕ) (w : Option Work) (a : Answer) → IsRebuilt a → IsRebuild w → MayAnswer before after item w a
rebuilt_may before after item w (answer.Rebuilt filled gone) so rebuild = rebuild
rebuilt_may before after item w _ so rebuild = absurd so

module _ (works : List Work) (before after : AnyNode) where
  -- what such a node may answer to an item, where it has these items
  abbrev pub May : ℕ → Answer → Type 0
  May item a = MayAnswer before after item (asked_at works item) a

  -- the item of this number is answered, which asks for that
  pub at_once : (number : ℕ) (wanted : Option Work) (a : Answer) → asked_at works number ≡ wanted → MayAnswer before after number wanted a
      → AllMeet May (Answers number a ∷ [])
  at_once number wanted a asked may = (subst (λ w. MayAnswer before after number w a) (sym asked) may, tt)

  -- the open item is cut, and behind it the one is done by which the node falls
  pub falls_meet : (o : Option ℕ) (number : ℕ) (wanted : Option Work) → ((item : ℕ) → o ≡ Some item → IsOpen (items_in before) item) → Falls before after
      → asked_at works number ≡ wanted → IsDone before after number wanted → (losses : Losses) (more : List Effect)
      → AllPlain losses more
      → AllMeet May (answers_unanswered o answer.Cut ++ Answers number answer.Done ∷ more)
  falls_meet o number wanted opens falls asked done losses more plain =
      all_append (Meets May) (answers_unanswered o answer.Cut) (Answers number answer.Done ∷ more)
      (open_meets May o answer.Cut (λ item waits. (opens item waits, falls)))
      (subst (λ w. IsDone before after number w) (sym asked) done, plain_meets May losses more plain)

  module _ (These : ℕ → Type 0) (serves : standing before ≡ Serves) (losses : Losses) where
    -- of the items of a node that serves those are answered, by counts, which ask for that
    pub counts_meet : ((item : ℕ) → These item → IsCounted (asked_at works item)) → (items left : Items) (outs : List Effect)
        → ((item : ℕ) → IsOpen items item → These item) → Moves losses IsCount items outs left → Moved May These outs left
    counts_meet its items left outs opens moves =
        moves_meet May losses IsCount These (λ item a so this. count_may before after item (asked_at works item) a so (its item this) serves)
        (λ item name this. serves_apart before serves) items left outs opens moves

    pub rebuilds_meet : ((item : ℕ) → These item → IsRebuild (asked_at works item)) → (items left : Items) (outs : List Effect)
        → ((item : ℕ) → IsOpen items item → These item) → Moves losses IsRebuilt items outs left → Moved May These outs left
    rebuilds_meet its items left outs opens moves =
        moves_meet May losses IsRebuilt These (λ item a so this. rebuilt_may before after item (asked_at works item) a so (its item this))
        (λ item name this. serves_apart before serves) items left outs opens moves
