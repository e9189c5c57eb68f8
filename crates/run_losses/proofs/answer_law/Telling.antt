-- What a list of effects answers: that a segment is lost only of an item that had begun, and just behind the word that it is lost.
use Rattle.std.proofs.Common.{◌≡◌, ◌⊎◌, ℕ, List, [], ◌∷◌, ◌++◌, Option, Some, None, inl, inr, refl, sym, ap, subst, ◌∙◌}
use Rattle.std.specs.List.{AllByRecursion}
use Rattle.node_base.specs.Beginning.{answers_unanswered}
use Rattle.node_base.specs.declared.effects.Effect.{Effect}
use Rattle.node_base.specs.declared.effects.Effect.TheVariants.{Send, Answer as Answers, Lose, Does}
use Rattle.node_base.specs.Effects.{acts_of}
use Rattle.token_protocol.specs.Basics.{In}
use Rattle.version_model.specs.declared.act.Act.{Act}
use Rattle.version_model.specs.declared.act.Act.TheVariants as act
use Rattle.version_model.specs.declared.answer.Answer.{Answer}
use Rattle.version_model.specs.declared.answer.Answer.TheVariants as answer
use Rattle.xfs_base.specs.declared.node.NodeId.{NodeId}
use Rattle.xfs_base.specs.declared.segment.SegName.{SegName}
use Rattle.serving_moves.proofs.item_moves.Keeping.{in_behind}
use Rattle.serving_moves.specs.item_moves.Moves.{EndsInLoss, IsSilent}
use Rattle.headline.specs.Losses.{LossesAreSaid, NoneIsLost, answers_lost}
use Rattle.run_losses.specs.answer_law.Calls.{NotLost}

-- ---- effects that answer no item so

abbrev pub IsPlain : Effect → Type 0
IsPlain (Send to said) = Unit {0}
IsPlain (Answers item a) = NotLost a
IsPlain (Lose name) = Unit {0}
IsPlain (Does a) = IsSilent a

abbrev pub AllPlain : List Effect → Type 0
AllPlain outs = AllByRecursion IsPlain outs

pub answers_plain : (item : Option ℕ) (a : Answer) → NotLost a → AllPlain (answers_unanswered item a)
answers_plain None a plain = tt
answers_plain (Some number) a plain = (plain, tt)

-- none is named where none is
none_named : (name : SegName) → None ≡ Some name → ⊥
none_named name e = cc

-- ---- effects that answer so of these items alone

module _ (I : ℕ → Type 0) where
  -- `last` is the segment of which the act before says that it is lost, if that says so
  abbrev pub Fits : Option SegName → ℕ → Answer → Type 0
  Fits last item (answer.Lost name) = I item × (last ≡ Some name)
  Fits last item _ = Unit {0}

  -- each answer that a segment is lost is to such an item, and the act just before says that this very segment is lost
  abbrev pub Told : Option SegName → List Effect → Type 0
  Told last [] = Unit {0}
  Told last (Send to b ∷ outs) = Told last outs
  Told last (Answers item a ∷ outs) = Fits last item a × Told None outs
  Told last (Lose name ∷ outs) = Told (Some name) outs
  Told last (Does a ∷ outs) = IsSilent a × Told None outs

  -- what is so with no such act before is so with any
  fits_after : (last : Option SegName) (item : ℕ) (a : Answer) → Fits None item a → Fits last item a
  fits_after last item (answer.Lost name) f = absurd (none_named name f.1)
  fits_after last item _ f = tt

  told_after : (last : Option SegName) (outs : List Effect) → Told None outs → Told last outs
  told_after last [] t = tt
  told_after last (Send to b ∷ outs) t = told_after last outs t
  told_after last (Answers item a ∷ outs) t = (fits_after last item a t.0, t.1)
  told_after last (Lose name ∷ outs) t = t
  told_after last (Does a ∷ outs) t = t

  -- one list behind another
  pub told_append : (last : Option SegName) (xs ys : List Effect) → Told last xs → Told None ys → Told last (xs ++ ys)
  told_append last [] ys t more = told_after last ys more
  told_append last (Send to b ∷ xs) ys t more = told_append last xs ys t more
  told_append last (Answers item a ∷ xs) ys t more = (t.0, told_append None xs ys t.1 more)
  told_append last (Lose name ∷ xs) ys t more = told_append (Some name) xs ys t more
  told_append last (Does a ∷ xs) ys t more = (t.0, told_append None xs ys t.1 more)

  fits_plain : (last : Option SegName) (item : ℕ) (a : Answer) → NotLost a → Fits last item a
  fits_plain last item (answer.Lost name) plain = absurd plain
  fits_plain last item _ plain = tt

  pub told_plain : (last : Option SegName) (outs : List Effect) → AllPlain outs → Told last outs
  told_plain last [] all = tt
  told_plain last (Send to b ∷ outs) all = told_plain last outs all.1
  told_plain last (Answers item a ∷ outs) all = (fits_plain last item a all.0, told_plain None outs all.1)
  told_plain last (Lose name ∷ outs) all = told_plain (Some name) outs all.1
  told_plain last (Does a ∷ outs) all = (all.0, told_plain None outs all.1)

  module _ (name : SegName) (item : Option ℕ) (its : (number : ℕ) → item ≡ Some number → I number) where
    -- it was said just before, and then it is answered
    told_then : Told (Some name) (answers_unanswered item (answer.Lost name))
    told_then = by item refl
      where
        by : (o : Option ℕ) → item ≡ o → Told (Some name) (answers_unanswered o (answer.Lost name))
        by None e = tt
        by (Some number) e = ((its number e, refl), tt)

    said_last : (last : Option SegName) (front : List Effect) → AllPlain (front ++ Lose name ∷ [])
        → Told last ((front ++ Lose name ∷ []) ++ answers_unanswered item (answer.Lost name))
    said_last last [] all = told_then
    said_last last (Send to b ∷ front) all = said_last last front all.1
    said_last last (Answers number a ∷ front) all = (fits_plain last number a all.0, said_last None front all.1)
    said_last last (Lose seg ∷ front) all = said_last (Some seg) front all.1
    said_last last (Does a ∷ front) all = (all.0, said_last None front all.1)

    -- it is said last of these, and answered behind them
    pub told_behind : (last : Option SegName) (xs : List Effect) → AllPlain xs → EndsInLoss name xs
        → Told last (xs ++ answers_unanswered item (answer.Lost name))
    told_behind last xs all ends =
        subst (λ (outs : List Effect). Told last (outs ++ answers_unanswered item (answer.Lost name))) (sym ends.1)
        (said_last last ends.0 (subst AllPlain ends.1 all))

-- of fewer items, or more
module _ (I J : ℕ → Type 0) (each : (item : ℕ) → I item → J item) where
  fits_by : (last : Option SegName) (item : ℕ) (a : Answer) → Fits I last item a → Fits J last item a
  fits_by last item (answer.Lost name) f = (each item f.0, f.1)
  fits_by last item _ f = tt

  pub told_of : (last : Option SegName) (outs : List Effect) → Told I last outs → Told J last outs
  told_of last [] t = tt
  told_of last (Send to b ∷ outs) t = told_of last outs t
  told_of last (Answers item a ∷ outs) t = (fits_by last item a t.0, told_of None outs t.1)
  told_of last (Lose name ∷ outs) t = told_of (Some name) outs t
  told_of last (Does a ∷ outs) t = (t.0, told_of None outs t.1)

-- ---- acts

module _ (I : ℕ → Type 0) (me node : NodeId) (item : ℕ) (name : SegName) where
  -- the last of these acts says that the segment is lost
  abbrev SaidLast : List Act → Type 0
  SaidLast before = (front : List Act) × (before ≡ front ++ act.Lost me name ∷ [])

  -- what is known of an answer behind these acts, where the act before them said that this segment is lost, or another
  record Earned (last : Option SegName) (before : List Act) : Type 0 where
    is_me : node ≡ me
    its : I item
    lost : ((last ≡ Some name) × (before ≡ [])) ⊎ SaidLast before

  none_there : (before behind : List Act) → [] ≡ before ++ answers_lost node item name ∷ behind → ⊥
  none_there [] behind e = cc
  none_there (a ∷ before) behind e = cc

  fitting : (last : Option SegName) (number : ℕ) (a : Answer) → Fits I last number a → act.Answered me number a ≡ answers_lost node item name
      → Earned last []
  fitting last number (answer.Lost seg) f e =
      let same : name ≡ seg = cc in
      let number_is : number ≡ item = cc in
      record { is_me = cc; its = subst I number_is f.0; lost = inl (f.1 ∙ ap Some (sym same), refl) }
  fitting last number _ f e = absurd cc

  no_answer : (a : Act) → IsSilent a → a ≡ answers_lost node item name → ⊥
  no_answer (act.Answered owner number x) none e = none
  no_answer _ none e = cc

  first_of : (a b : Act) (xs ys : List Act) → a ∷ xs ≡ b ∷ ys → a ≡ b
  first_of a b xs ys e = cc

  rest_of : (a b : Act) (xs ys : List Act) → a ∷ xs ≡ b ∷ ys → xs ≡ ys
  rest_of a b xs ys e = cc

  behind_one : (last : Option SegName) (a : Act) (before : List Act) → Earned None before → Earned last (a ∷ before)
  behind_one last a before h = record { is_me = h.is_me; its = h.its; lost = inr (by h.lost) }
    where
      by : ((None ≡ Some name) × (before ≡ [])) ⊎ SaidLast before → SaidLast (a ∷ before)
      by (inl none) = absurd (none_named name none.0)
      by (inr fact) = (a ∷ fact.0, ap (λ (acts : List Act). a ∷ acts) fact.1)

  same_seg : (seg : SegName) → Some seg ≡ Some name → seg ≡ name
  same_seg seg e = cc

  behind_loss : (last : Option SegName) (seg : SegName) (a : Act) (before : List Act) → act.Lost me seg ≡ a → Earned (Some seg) before
      → Earned last (a ∷ before)
  behind_loss last seg a before e h = record { is_me = h.is_me; its = h.its; lost = inr (by h.lost) }
    where
      by : ((Some seg ≡ Some name) × (before ≡ [])) ⊎ SaidLast before → SaidLast (a ∷ before)
      by (inl now) =
          let is : a ≡ act.Lost me name = sym e ∙ ap (act.Lost me) (same_seg seg now.0) in
          ([], ap (λ (acts : List Act). a ∷ acts) now.1 ∙ ap (λ (x : Act). x ∷ []) is)
      by (inr fact) = (a ∷ fact.0, ap (λ (acts : List Act). a ∷ acts) fact.1)

  earned : (last : Option SegName) (outs : List Effect) (before behind : List Act) → Told I last outs
      → acts_of me outs ≡ before ++ answers_lost node item name ∷ behind → Earned last before
  earned last [] before behind t e = absurd (none_there before behind e)
  earned last (Send to b ∷ outs) before behind t e = earned last outs before behind t e
  earned last (Answers number a ∷ outs) [] behind t e = fitting last number a t.0 (first_of _ _ _ _ e)
  earned last (Answers number a ∷ outs) (x ∷ before) behind t e =
      behind_one last x before (earned None outs before behind t.1 (rest_of _ _ _ _ e))
  earned last (Lose seg ∷ outs) [] behind t e = absurd (let clash = first_of _ _ _ _ e in cc)
  earned last (Lose seg ∷ outs) (x ∷ before) behind t e =
      behind_loss last seg x before (first_of _ _ _ _ e) (earned (Some seg) outs before behind t (rest_of _ _ _ _ e))
  earned last (Does a ∷ outs) [] behind t e = absurd (no_answer a t.0 (first_of _ _ _ _ e))
  earned last (Does a ∷ outs) (x ∷ before) behind t e =
      behind_one last x before (earned None outs before behind t.1 (rest_of _ _ _ _ e))

-- what stands in a list stands behind some of it
record Split {X : Type 0} (x : X) (xs : List X) : Type 0 where
  before : List X
  behind : List X
  stands : xs ≡ before ++ x ∷ behind

split : {X : Type 0} (x : X) (xs : List X) → In x xs → Split x xs
split x [] fact = absurd fact
split x (y ∷ xs) (inl e_) = record { before = []; behind = xs; stands = ap (λ z. z ∷ xs) (sym e_) }
split x (y ∷ xs) (inr fact) = (let s = split x xs fact in record { before = y ∷ s.before; behind = s.behind; stands = ap (λ zs. y ∷ zs) s.stands })

module _ (I : ℕ → Type 0) (me : NodeId) (outs : List Effect) (told : Told I None outs) where
  pub losses_said : LossesAreSaid (acts_of me outs)
  losses_said node item name before behind e =
      let h = earned I me node item name None outs before behind told e in
      by h.is_me h.lost
    where
      by : node ≡ me → ((None ≡ Some name) × (before ≡ [])) ⊎ ((front : List Act) × (before ≡ front ++ act.Lost me name ∷ []))
          → (front : List Act) × (before ≡ front ++ act.Lost node name ∷ [])
      by same (inl none) = absurd (none_named name none.0)
      by same (inr fact) = (fact.0, fact.1 ∙ ap (λ (n : NodeId). fact.0 ++ act.Lost n name ∷ []) (sym same))

  -- it is one of these items
  pub items_so : (node : NodeId) (item : ℕ) (name : SegName) → In (answers_lost node item name) (acts_of me outs) → I item
  items_so node item name fact =
      let s = split (answers_lost node item name) (acts_of me outs) fact in
      (earned I me node item name None outs s.before s.behind told s.stands).its

  -- and the node is this one
  pub node_so : (node : NodeId) (item : ℕ) (name : SegName) → In (answers_lost node item name) (acts_of me outs) → node ≡ me
  node_so node item name fact =
      let s = split (answers_lost node item name) (acts_of me outs) fact in
      (earned I me node item name None outs s.before s.behind told s.stands).is_me

-- what a node acts to be lost, it says is lost, and it acts that of itself
module _ (I : ℕ → Type 0) (me node : NodeId) (name : SegName) where
  pub record SaysLost (outs : List Effect) : Type 0 where
    pub own : node ≡ me
    pub among : In (Lose name) outs

  behind_it : (x : Effect) (outs : List Effect) → SaysLost outs → SaysLost (x ∷ outs)
  behind_it x outs s = record { own = s.own; among = inr s.among }

  here : (seg : SegName) (outs : List Effect) → act.Lost node name ≡ act.Lost me seg → SaysLost (Lose seg ∷ outs)
  here seg outs e = (let same : name ≡ seg = cc in record { own = cc; among = inl (ap Lose same) })

  pub says_lost : (last : Option SegName) (outs : List Effect) → Told I last outs → In (act.Lost node name) (acts_of me outs) → SaysLost outs
  says_lost last [] t fact = absurd fact
  says_lost last (Send to b ∷ outs) t fact = behind_it (Send to b) outs (says_lost last outs t fact)
  says_lost last (Answers item a ∷ outs) t (inl e) = absurd cc
  says_lost last (Answers item a ∷ outs) t (inr fact) = behind_it (Answers item a) outs (says_lost None outs t.1 fact)
  says_lost last (Lose seg ∷ outs) t (inl e) = here seg outs e
  says_lost last (Lose seg ∷ outs) t (inr fact) = behind_it (Lose seg) outs (says_lost (Some seg) outs t fact)
  says_lost last (Does a ∷ outs) t (inl e) = absurd (subst IsSilent (sym e) t.0)
  says_lost last (Does a ∷ outs) t (inr fact) = behind_it (Does a) outs (says_lost None outs t.1 fact)

-- what answers no item so answers none
pub none_lost : (me : NodeId) (outs : List Effect) → AllPlain outs → NoneIsLost (acts_of me outs)
none_lost me outs plain node item name fact = items_so (λ number. ⊥) me outs (told_plain (λ number. ⊥) None outs plain) node item name fact

-- where none is answered so, all is said
pub none_said : (acts : List Act) → NoneIsLost acts → LossesAreSaid acts
none_said acts none node item name before behind e =
    absurd (none node item name (subst (In (answers_lost node item name)) (sym e) (in_behind (answers_lost node item name) before _ (inl refl))))
