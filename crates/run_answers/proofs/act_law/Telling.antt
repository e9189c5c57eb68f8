-- What a list of effects answers, and what was acted before that, in its order.
use Rattle.std.proofs.Common.{◌≡◌, ℕ, List, [], ◌∷◌, ◌++◌, append-nil, append_assoc, Option, Some, None, inl, inr, refl, sym, ap, subst, ◌∙◌}
use Rattle.std.proofs.lemmas.Grind.{flat_map-append}
use Rattle.node_base.specs.Beginning.{answers_unanswered}
use Rattle.node_base.specs.declared.effects.Effect.{Effect}
use Rattle.node_base.specs.declared.effects.Effect.TheVariants.{Send, Answer as Answers, Lose, Does}
use Rattle.node_base.specs.declared.items.Items.{Items}
use Rattle.node_base.specs.Effects.{act_of, acts_of}
use Rattle.token_protocol.specs.Basics.{In}
use Rattle.version_model.specs.declared.act.Act.{Act}
use Rattle.version_model.specs.declared.act.Act.TheVariants as act
use Rattle.version_model.specs.declared.answer.Answer.{Answer}
use Rattle.version_model.specs.declared.answer.Answer.TheVariants as answer
use Rattle.xfs_base.specs.declared.node.NodeId.{NodeId}
use Rattle.xfs_base.specs.declared.segment.SegName.{SegName}
use Rattle.serving_moves.specs.item_moves.Moves.{IsSilent, Losses, MayAnswer, Moves}
use Rattle.run_answers.proofs.once_law.Items.{moves_close}
use Rattle.run_answers.proofs.once_law.Ledger.{AllPlain, Closes}
use Rattle.run_answers.specs.once_law.Ledgers.{Without}
use Rattle.headline.specs.Items.{IsOpen}

-- ---- more acts

pub in_front : (x : Act) (xs ys : List Act) → In x xs → In x (xs ++ ys)
in_front x [] ys among = absurd among
in_front x (y ∷ xs) ys (inl e) = inl e
in_front x (y ∷ xs) ys (inr among) = inr (in_front x xs ys among)

pub in_behind : (x : Act) (xs ys : List Act) → In x ys → In x (xs ++ ys)
in_behind x [] ys among = among
in_behind x (y ∷ xs) ys among = inr (in_behind x xs ys among)

effect_in_front : (x : Effect) (xs ys : List Effect) → In x xs → In x (xs ++ ys)
effect_in_front x [] ys among = absurd among
effect_in_front x (y ∷ xs) ys (inl e) = inl e
effect_in_front x (y ∷ xs) ys (inr among) = inr (effect_in_front x xs ys among)

pub effect_behind : (x : Effect) (xs ys : List Effect) → In x ys → In x (xs ++ ys)
effect_behind x [] ys among = among
effect_behind x (y ∷ xs) ys among = inr (effect_behind x xs ys among)

-- the items that are done by these effects
abbrev pub DoneIn : List Effect → ℕ → Type 0
DoneIn outs item = In (Answers item answer.Done) outs

-- What an answer to an item is founded on: the acts before it, and the items that are done behind it.
abbrev pub Foundation : Type 1
Foundation = ℕ → List Act → (ℕ → Type 0) → Answer → Type 0

-- what is founded on some items that are done is founded on more
abbrev pub Grows : Foundation → Type 1
Grows F = (item : ℕ) (said : List Act) (done all : ℕ → Type 0) (a : Answer) → ((n : ℕ) → done n → all n) → F item said done a → F item said all a

module _ (me : NodeId) where
  -- the acts behind these effects
  abbrev pub acted : List Act → List Effect → List Act
  acted said outs = said ++ acts_of me outs

  pub acted_then : (said : List Act) (xs ys : List Effect) → acted (acted said xs) ys ≡ acted said (xs ++ ys)
  acted_then said xs ys =
      append_assoc said (acts_of me xs) (acts_of me ys) ∙ ap (λ (zs : List Act). said ++ zs) (sym (flat_map-append (act_of me) xs ys))

  -- what was acted before, or is acted by these effects
  pub acted_before : (a : Act) (said : List Act) (outs : List Effect) → In a said → In a (acted said outs)
  acted_before a said outs among = in_front a said (acts_of me outs) among

  pub is_acted : (a : Act) (outs : List Effect) → In (Does a) outs → In a (acts_of me outs)
  is_acted a [] among = absurd among
  is_acted a (Send to b ∷ outs) (inl e) = absurd cc
  is_acted a (Send to b ∷ outs) (inr among) = is_acted a outs among
  is_acted a (Answers item x ∷ outs) (inl e) = absurd cc
  is_acted a (Answers item x ∷ outs) (inr among) = inr (is_acted a outs among)
  is_acted a (Lose name ∷ outs) (inl e) = absurd cc
  is_acted a (Lose name ∷ outs) (inr among) = inr (is_acted a outs among)
  is_acted a (Does x ∷ outs) (inl e) = (let same : a ≡ x = cc in inl same)
  is_acted a (Does x ∷ outs) (inr among) = inr (is_acted a outs among)

  pub acted_by : (a : Act) (said : List Act) (outs : List Effect) → In (Does a) outs → In a (acted said outs)
  acted_by a said outs among = in_behind a said (acts_of me outs) (is_acted a outs among)

  module _ (F : Foundation) where
    -- each answer is founded on these acts and those before it, in their order
    abbrev pub Founded : List Act → List Effect → Type 0
    Founded said [] = Unit {0}
    Founded said (Send to b ∷ outs) = Founded said outs
    Founded said (Answers item a ∷ outs) = F item said (DoneIn outs) a × Founded (said ++ act.Answered me item a ∷ []) outs
    Founded said (Lose name ∷ outs) = Founded (said ++ act.Lost me name ∷ []) outs
    Founded said (Does a ∷ outs) = IsSilent a × Founded (said ++ a ∷ []) outs

    -- what is acted to be answered is answered by these effects
    pub answered_by : (said : List Act) (outs : List Effect) → Founded said outs → (node : NodeId) (item : ℕ) (a : Answer)
        → In (act.Answered node item a) (acts_of me outs) → In (Answers item a) outs
    answered_by said [] f node item a among = among
    answered_by said (Send to b ∷ outs) f node item a among = inr (answered_by said outs f node item a among)
    answered_by said (Answers n x ∷ outs) f node item a (inl e) =
        let one : item ≡ n = cc in
        let two : a ≡ x = cc in
        inl (ap (λ k. Answers k a) one ∙ ap (Answers n) two)
    answered_by said (Answers n x ∷ outs) f node item a (inr among) =
        inr (answered_by (said ++ act.Answered me n x ∷ []) outs f.1 node item a among)
    answered_by said (Lose name ∷ outs) f node item a (inl e) = absurd cc
    answered_by said (Lose name ∷ outs) f node item a (inr among) = inr (answered_by (said ++ act.Lost me name ∷ []) outs f node item a among)
    answered_by said (Does x ∷ outs) f node item a (inl e) = absurd (subst IsSilent (sym e) f.0)
    answered_by said (Does x ∷ outs) f node item a (inr among) = inr (answered_by (said ++ x ∷ []) outs f.1 node item a among)

  module _ (F : Foundation) (grow : Grows F) where
    -- the same acts, one of them set apart
    apart : (said : List Act) (x : Act) (more : List Act) (ys : List Effect) → Founded F (said ++ x ∷ more) ys → Founded F ((said ++ x ∷ []) ++ more) ys
    apart said x more ys g = subst (λ (acts : List Act). Founded F acts ys) (sym (append_assoc said (x ∷ []) more)) g

    -- one list behind another, founded on what that acted besides
    pub founded_then : (said : List Act) (xs ys : List Effect) → Founded F said xs → Founded F (acted said xs) ys → Founded F said (xs ++ ys)
    founded_then said [] ys f g = subst (λ (acts : List Act). Founded F acts ys) (append-nil said) g
    founded_then said (Send to b ∷ xs) ys f g = founded_then said xs ys f g
    founded_then said (Answers item a ∷ xs) ys f g = (
      grow item said (DoneIn xs) (DoneIn (xs ++ ys)) a (λ n done. effect_in_front (Answers n answer.Done) xs ys done) f.0,
      founded_then (said ++ act.Answered me item a ∷ []) xs ys f.1 (apart said (act.Answered me item a) (acts_of me xs) ys g),
    )
    founded_then said (Lose name ∷ xs) ys f g =
        founded_then (said ++ act.Lost me name ∷ []) xs ys f (apart said (act.Lost me name) (acts_of me xs) ys g)
    founded_then said (Does a ∷ xs) ys f g = (f.0, founded_then (said ++ a ∷ []) xs ys f.1 (apart said a (acts_of me xs) ys g))

    -- where nothing is answered
    pub plain_founded : (said : List Act) (outs : List Effect) → AllPlain outs → Founded F said outs
    plain_founded said [] plain = tt
    plain_founded said (Send to b ∷ outs) plain = plain_founded said outs plain.1
    plain_founded said (Answers item a ∷ outs) plain = absurd plain.0
    plain_founded said (Lose name ∷ outs) plain = plain_founded (said ++ act.Lost me name ∷ []) outs plain.1
    plain_founded said (Does a ∷ outs) plain = (plain.0, plain_founded (said ++ a ∷ []) outs plain.1)

    -- where the open item is answered so, and each such answer is founded
    module _ (J : Answer → Type 0) (each : (item : ℕ) (said : List Act) (done : ℕ → Type 0) (a : Answer) → J a → F item said done a) where
      pub closes_founded : (these left : ℕ → Type 0) (said : List Act) (outs : List Effect) → Closes J these outs left → Founded F said outs
      closes_founded these left said [] c = tt
      closes_founded these left said (Send to b ∷ outs) c = closes_founded these left said outs c
      closes_founded these left said (Answers item a ∷ outs) c =
          (each item said (DoneIn outs) a c.0, closes_founded (Without these item) left (said ++ act.Answered me item a ∷ []) outs c.1.1)
      closes_founded these left said (Lose name ∷ outs) c = closes_founded these left (said ++ act.Lost me name ∷ []) outs c
      closes_founded these left said (Does a ∷ outs) c = (c.0, closes_founded these left (said ++ a ∷ []) outs c.1)

      -- so are moves whose answers are such
      module _ (losses : Losses) (I : Answer → Type 0) (ends : (a : Answer) → I a → J a)
          (lost : (name : SegName) → MayAnswer losses → J (answer.Lost name)) where
        pub moves_founded : (said : List Act) (before after : Items) (outs : List Effect) → Moves losses I before outs after → Founded F said outs
        moves_founded said before after outs made =
            closes_founded (IsOpen before) (IsOpen after) said outs (moves_close losses I J ends lost before after outs made)

    -- the open item is answered
    pub open_founded : (said : List Act) (o : Option ℕ) (a : Answer) → ((item : ℕ) → o ≡ Some item → F item said (DoneIn []) a)
        → Founded F said (answers_unanswered o a)
    open_founded said None a each = tt
    open_founded said (Some item) a each = (each item refl, tt)

    -- ---- acts

    module _ (node : NodeId) (item : ℕ) (a : Answer) where
      abbrev its : Act
      its = act.Answered node item a

      first_of : (x y : Act) (xs ys : List Act) → x ∷ xs ≡ y ∷ ys → x ≡ y
      first_of x y xs ys e = cc

      rest_of : (x y : Act) (xs ys : List Act) → x ∷ xs ≡ y ∷ ys → xs ≡ ys
      rest_of x y xs ys e = cc

      none_there : (before behind : List Act) → [] ≡ before ++ its ∷ behind → ⊥
      none_there [] behind e = cc
      none_there (x ∷ before) behind e = cc

      is_answer : (said : List Act) (done : ℕ → Type 0) (number : ℕ) (x : Answer) → F number said done x
          → act.Answered me number x ≡ its → F item said done a
      is_answer said done number x f e =
          let number_is : number ≡ item = cc in
          let answer_is : x ≡ a = cc in
          subst (λ y. F item said done y) answer_is
          (subst (λ n. F n said done x) number_is f)

      no_answer : (x : Act) → IsSilent x → x ≡ its → ⊥
      no_answer (act.Answered owner number y) none e = none
      no_answer _ none e = cc

      -- the items that are done by these acts
      abbrev DoneBy : List Act → ℕ → Type 0
      DoneBy acts n = In (act.Answered me n answer.Done) acts

      done_so : (outs : List Effect) (n : ℕ) → DoneIn outs n → DoneBy (acts_of me outs) n
      done_so [] n among = among
      done_so (Send to b ∷ outs) n (inl e) = absurd cc
      done_so (Send to b ∷ outs) n (inr among) = done_so outs n among
      done_so (Answers number x ∷ outs) n (inl e) =
          let one : n ≡ number = cc in
          let two : answer.Done ≡ x = cc in
          inl (ap (λ k. act.Answered me k answer.Done) one ∙ ap (act.Answered me number) two)
      done_so (Answers number x ∷ outs) n (inr among) = inr (done_so outs n among)
      done_so (Lose name ∷ outs) n (inl e) = absurd cc
      done_so (Lose name ∷ outs) n (inr among) = inr (done_so outs n among)
      done_so (Does x ∷ outs) n (inl e) = absurd cc
      done_so (Does x ∷ outs) n (inr among) = inr (done_so outs n among)

      -- the first of the acts is this one
      more_known : (x y : Act) → x ≡ y → (said before behind : List Act) → F item ((said ++ x ∷ []) ++ before) (DoneBy behind) a
          → F item (said ++ y ∷ before) (DoneBy behind) a
      more_known x y same said before behind f =
          subst (λ z. F item (said ++ z ∷ before) (DoneBy behind) a) same
          (subst (λ (xs : List Act). F item xs (DoneBy behind) a) (append_assoc said (x ∷ []) before) f)

      pub behind_acts : (said : List Act) (outs : List Effect) → Founded F said outs → (before behind : List Act) → acts_of me outs ≡ before ++ its ∷ behind
          → F item (said ++ before) (DoneBy behind) a
      behind_acts said [] f before behind e = absurd (none_there before behind e)
      behind_acts said (Send to b ∷ outs) f before behind e = behind_acts said outs f before behind e
      behind_acts said (Answers number x ∷ outs) f [] behind e =
          let after : acts_of me outs ≡ behind = rest_of _ _ _ _ e in
          subst (λ (acts : List Act). F item acts (DoneBy behind) a) (sym (append-nil said))
          (grow item said (DoneIn outs) (DoneBy behind) a (λ n done. subst (λ (xs : List Act). DoneBy xs n) after (done_so outs n done))
          (is_answer said (DoneIn outs) number x f.0 (first_of _ _ _ _ e)))
      behind_acts said (Answers number x ∷ outs) f (y ∷ before) behind e =
          more_known (act.Answered me number x) y (first_of _ _ _ _ e) said before behind
          (behind_acts (said ++ act.Answered me number x ∷ []) outs f.1 before behind (rest_of _ _ _ _ e))
      behind_acts said (Lose name ∷ outs) f [] behind e = absurd (let clash = first_of _ _ _ _ e in cc)
      behind_acts said (Lose name ∷ outs) f (y ∷ before) behind e =
          more_known (act.Lost me name) y (first_of _ _ _ _ e) said before behind
          (behind_acts (said ++ act.Lost me name ∷ []) outs f before behind (rest_of _ _ _ _ e))
      behind_acts said (Does x ∷ outs) f [] behind e = absurd (no_answer x f.0 (first_of _ _ _ _ e))
      behind_acts said (Does x ∷ outs) f (y ∷ before) behind e =
          more_known x y (first_of _ _ _ _ e) said before behind
          (behind_acts (said ++ x ∷ []) outs f.1 before behind (rest_of _ _ _ _ e))
