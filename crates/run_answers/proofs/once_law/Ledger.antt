-- The ledger of a list of effects: what is answered was open, and is open no more.
use Rattle.std.proofs.Common.{◌≡◌, ◌⊎◌, ℕ, List, [], ◌∷◌, ◌++◌, Option, Some, None, inl, inr, refl, sym, ap, ◌∙◌}
use Rattle.node_base.specs.Beginning.{answers_unanswered}
use Rattle.node_base.specs.declared.effects.Effect.{Effect}
use Rattle.node_base.specs.declared.effects.Effect.TheVariants.{Send, Answer as Answers, Lose, Does}
use Rattle.node_base.specs.Effects.{acts_of}
use Rattle.version_model.specs.declared.act.Act.{Act}
use Rattle.version_model.specs.declared.act.Act.TheVariants as act
use Rattle.version_model.specs.declared.answer.Answer.{Answer}
use Rattle.version_model.specs.declared.answer.Answer.TheVariants as answer
use Rattle.xfs_base.specs.declared.node.NodeId.{NodeId}
use Rattle.serving_moves.proofs.item_moves.Keeping.{no_item}
use Rattle.serving_moves.specs.item_moves.Moves as moves
use Rattle.serving_moves.specs.item_moves.Moves.{IsSilent}
use Rattle.serving_moves.specs.item_moves.Moves.Losses.{Answering}
use Rattle.run_answers.specs.once_law.Ledgers.{Without}
use Rattle.run_answers.specs.once_law.Ledgers as acts

-- an effect, and many, that answer nothing
abbrev pub IsPlain : Effect → Type 0
IsPlain = moves.IsPlain Answering

abbrev pub AllPlain : List Effect → Type 0
AllPlain = moves.AllPlain Answering

-- ---- answers

-- whatever it is, or that a segment is lost
abbrev pub Any : Answer → Type 0
Any a = Unit {0}

abbrev pub IsLoss : Answer → Type 0
IsLoss (answer.Lost name) = Unit {0}
IsLoss _ = ⊥

-- by these effects, of the items that were open those are left, and each answer is such
module _ (J : Answer → Type 0) where
  abbrev pub Closes : (ℕ → Type 0) → List Effect → (ℕ → Type 0) → Type 0
  Closes these [] left = (item : ℕ) → left item → these item
  Closes these (Send to b ∷ outs) left = Closes these outs left
  Closes these (Answers item a ∷ outs) left = J a × (these item × Closes (Without these item) outs left)
  Closes these (Lose name ∷ outs) left = Closes these outs left
  Closes these (Does a ∷ outs) left = IsSilent a × Closes these outs left

-- of more items, or other answers, or fewer that are left
pub closes_more : (J K : Answer → Type 0) → ((a : Answer) → J a → K a) → (these more left fewer : ℕ → Type 0) → ((n : ℕ) → these n → more n)
    → ((n : ℕ) → fewer n → left n) → (outs : List Effect) → Closes J these outs left → Closes K more outs fewer
closes_more J K so these more left fewer up down [] c = λ n last. up n (c n (down n last))
closes_more J K so these more left fewer up down (Send to b ∷ outs) c = closes_more J K so these more left fewer up down outs c
closes_more J K so these more left fewer up down (Answers item a ∷ outs) c = (
  so a c.0,
  (
    up item c.1.0,
    closes_more J K so (Without these item) (Without more item) left fewer (λ n w. (up n w.0, w.1)) down outs c.1.1,
  ),
)
closes_more J K so these more left fewer up down (Lose name ∷ outs) c = closes_more J K so these more left fewer up down outs c
closes_more J K so these more left fewer up down (Does a ∷ outs) c = (c.0, closes_more J K so these more left fewer up down outs c.1)

-- one list behind another
pub closes_append : (J : Answer → Type 0) (these between left : ℕ → Type 0) (xs ys : List Effect) → Closes J these xs between → Closes J between ys left
    → Closes J these (xs ++ ys) left
closes_append J these between left [] ys c d = closes_more J J (λ a so. so) between these left left c (λ n last. last) ys d
closes_append J these between left (Send to b ∷ xs) ys c d = closes_append J these between left xs ys c d
closes_append J these between left (Answers item a ∷ xs) ys c d =
    (c.0, (c.1.0, closes_append J (Without these item) between left xs ys c.1.1 d))
closes_append J these between left (Lose name ∷ xs) ys c d = closes_append J these between left xs ys c d
closes_append J these between left (Does a ∷ xs) ys c d = (c.0, closes_append J these between left xs ys c.1 d)

-- where nothing is answered
pub closes_plain : (J : Answer → Type 0) (these left : ℕ → Type 0) → ((n : ℕ) → left n → these n) → (outs : List Effect) → AllPlain outs
    → Closes J these outs left
closes_plain J these left within [] plain = within
closes_plain J these left within (Send to b ∷ outs) plain = closes_plain J these left within outs plain.1
closes_plain J these left within (Answers item a ∷ outs) plain = absurd plain.0
closes_plain J these left within (Lose name ∷ outs) plain = closes_plain J these left within outs plain.1
closes_plain J these left within (Does a ∷ outs) plain = (plain.0, closes_plain J these left within outs plain.1)

-- the open item is answered, and none is open
pub closes_open : (J : Answer → Type 0) (o : Option ℕ) (a : Answer) → J a
    → Closes J (λ n. o ≡ Some n) (answers_unanswered o a) (λ n. None ≡ Some n)
closes_open J None a so = λ n fact. fact
closes_open J (Some item) a so = (so, (refl, λ n fact. absurd (no_item n fact)))

-- ---- an item begins

-- it was open before, or it is the item of this number, which begins
abbrev pub OpenOr : Option ℕ → ℕ → ℕ → Type 0
OpenOr o number n = (o ≡ Some n) ⊎ (number ≡ n)

module _ (o : Option ℕ) (number : ℕ) where
  module _ (fresh : o ≡ Some number → ⊥) where
    -- it is answered at once, and what was open is open still
    pub answers_now : (a : Answer) (more : List Effect) → AllPlain more → Closes Any (OpenOr o number) (Answers number a ∷ more) (λ n. o ≡ Some n)
    answers_now a more plain = (
      tt,
      (
        inr refl,
        closes_plain Any (Without (OpenOr o number) number) (λ n. o ≡ Some n) (λ n fact. (inl fact, λ same. fresh (fact ∙ ap Some same))) more plain,
      ),
    )

    -- and so is what was open
    pub answers_both : (a b : Answer) (more : List Effect) → AllPlain more
        → Closes Any (OpenOr o number) (answers_unanswered o a ++ Answers number b ∷ more) (λ n. None ≡ Some n)
    answers_both a b more plain = by o fresh
      where
        last : (these : ℕ → Type 0) → Closes Any these more (λ n. None ≡ Some n)
        last these = closes_plain Any these (λ n. None ≡ Some n) (λ n fact. absurd (no_item n fact)) more plain

        by : (p : Option ℕ) → (p ≡ Some number → ⊥) → Closes Any (OpenOr p number) (answers_unanswered p a ++ Answers number b ∷ more) (λ n. None ≡ Some n)
        by None new = (tt, (inr refl, last (Without (OpenOr None number) number)))
        by (Some k) new = (
          tt,
          (
            inl refl,
            (tt, ((inr refl, λ same. new (ap Some (sym same))), last (Without (Without (OpenOr (Some k) number) k) number))),
          ),
        )

-- ---- acts

module _ (me : NodeId) where
  past_act : (a : Act) (more : List Act) (these left : ℕ → Type 0) → IsSilent a → acts.Closes me these more left → acts.Closes me these (a ∷ more) left
  past_act (act.Answered node item x) more these left none c = absurd none
  past_act _ more these left none c = c

  pub acts_close : (J : Answer → Type 0) (these left : ℕ → Type 0) (outs : List Effect) → Closes J these outs left
      → acts.Closes me these (acts_of me outs) left
  acts_close J these left [] c = c
  acts_close J these left (Send to b ∷ outs) c = acts_close J these left outs c
  acts_close J these left (Answers item a ∷ outs) c = (refl, (c.1.0, acts_close J (Without these item) left outs c.1.1))
  acts_close J these left (Lose name ∷ outs) c = acts_close J these left outs c
  acts_close J these left (Does a ∷ outs) c = past_act a (acts_of me outs) these left c.0 (acts_close J these left outs c.1)
