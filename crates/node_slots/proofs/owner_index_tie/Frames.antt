-- What an owner does step by step: steps that file nothing, and steps that file.
use Rattle.std.proofs.Common.{◌≡◌, ◌≤◌, ◌<◌, ◌==◌, ℕ, suc, List, [], ◌∷◌, ◌++◌, Option, Some, None, refl, sym, ap, subst, ◌∙◌, arith}
use Rattle.std.specs.List.{AllByRecursion}
use Rattle.headline.specs.Filed.{Filed, Texts}
use Rattle.index_tie.specs.Growth.{IsMore, with_segment}
use Rattle.index_tie.specs.Net.{Net}
use Rattle.index_tie.specs.Takeovers.{IsEnd, Linked}
use Rattle.headline.specs.Indexes.{of_log}
use Rattle.index_tie.proofs.Growth.{deltas_stay, more_is_filed}
use Rattle.node_base.specs.Beginning.{answers_unanswered}
use Rattle.node_base.specs.declared.effects.Effect.{Effect}
use Rattle.node_base.specs.declared.effects.Effect.TheVariants.{Send, Answer as Answers, Lose, Does}
use Rattle.node_slots.specs.node_index_tie.Sight.{DeltasKnown, EndKnown}
use Rattle.segment_format.specs.declared.segment.Segment.{Segment}
use Rattle.version_model.specs.declared.act.Act.{Act}
use Rattle.version_model.specs.declared.act.Act.TheVariants.{Filed as ActsFiled}
use Rattle.version_model.specs.declared.answer.Answer.{Answer}
use Rattle.wire_msg.specs.declared.body.Body.{Body}
use Rattle.wire_msg.specs.declared.body.Body.TheVariants as body
use Rattle.wire_msg.specs.declared.deltas.Deltas.{Deltas}
use Rattle.xfs_base.proofs.Booleans.{by_test}
use Rattle.xfs_base.specs.Steps.{Stepped, still, saying, steps}
use Rattle.xfs_base.specs.declared.segment.End.{End}
use Rattle.xfs_base.specs.declared.segment.SegName.{SegName}
use Rattle.xfs_base.proofs.Alls.{all_append, all_weaker}
use Rattle.node_slots.specs.owner_index_tie.Acting.{ActSo, AllSo, EffectSo}
use Rattle.node_slots.specs.owner_index_tie.Filing.{filing, with_name, after_act, after_effect, filed_after, FilesNext, OwedAct, OwedEffect, FilesOwed}
use Rattle.node_slots.specs.owner_index_tie.Owners.{EndTold, OwnerSays, OwnerDoes}

-- ---- what is said stays said while more is filed

module _ (part : ℕ) (n m : Net) (l since : ℕ) (more : IsMore n.filed m.filed) (same : m.horizon ≡ n.horizon) where
  deltas_on : (d : Deltas) → DeltasKnown part n l d → DeltasKnown part m l d
  deltas_on d k =
      record { tells = λ b inside. deltas_stay b n.filed m.filed l d.first d.upto d.rows more (k.tells b inside); fit = k.fit; short = k.short }

  end_on : (epoch : ℕ) (end : End) → EndKnown part n epoch l end → EndKnown part m epoch l end
  end_on epoch end k =
      let low = of_log (n.horizon epoch) l in
      subst (λ h. (0 < of_log (h epoch) l → of_log (h epoch) l ≤ end.seq → IsEnd m.filed l end) ×
      (0 < of_log (h epoch) l → Linked m.filed l (of_log (h epoch) l) end.seq)
      → EndKnown part m epoch l end) same (λ known. record { filed = known.0; linked = known.1; short = k.short }) (
        λ some upto. let was = k.filed some upto in let last = was.filed in let limit = more.head l in record {
          filed = omega arith;
          named = was.named ∙ ap (λ (s : Segment). s.name.pass) (sym (more.segment l end.seq (omega arith) last));
        },
        λ some q from to. let was = k.filed some (omega arith) in let last = was.filed in
            ap (λ (s : Segment). s.prior.pass) (more.segment l (suc q) (omega arith) (omega arith)) ∙ k.linked some q from to
            ∙ ap (λ (s : Segment). s.name.pass) (sym (more.segment l q (omega arith) (omega arith))),
      )

  told_on : (end : ℕ) → EndTold part n l since end → EndTold part m l since end
  told_on end h = record { late = h.late; filed = let a = h.filed in let limit = more.head l in omega arith }

  pub says_on : (b : Body) → OwnerSays part n l since b → OwnerSays part m l since b
  says_on (body.Deltas d) h = λ inside. deltas_on d (h inside)
  says_on (body.Report r) h = (λ inside. end_on r.epoch r.end (h.0 inside), told_on r.end.seq h.1)
  says_on (body.Want w) h = told_on w.end h
  says_on (body.Gave g) h = told_on g.end h
  says_on _ h = h

  pub does_on : (e : Effect) → OwnerDoes part n l since e → OwnerDoes part m l since e
  does_on (Send to b) h = says_on b h
  does_on _ h = tt

-- ---- what is filed

pub more_itself : (f : Filed) → IsMore f f
more_itself f = record { head = λ l. let h = f.head l in omega arith; segment = λ l q some filed. refl }

pub more_then : (f g h : Filed) → IsMore f g → IsMore g h → IsMore f h
more_then f g h a b = record {
  head = λ l. let x = a.head l in let y = b.head l in omega arith;
  segment = λ l q some filed. let x = a.head l in b.segment l q some (omega arith) ∙ a.segment l q some filed;
}

module _ (texts : Texts) (l : ℕ) where
  more_name : (f : Filed) (name : SegName) → IsMore f (with_name texts l f name)
  more_name f name =
      by_test (IsMore f) (name.seq == suc (f.head l)) (with_segment f l (texts name)) f (λ _. more_is_filed f l (texts name)) (λ _. more_itself f)

  more_act : (f : Filed) (a : Act) → IsMore f (after_act texts l f a)
  more_act f (ActsFiled name) = more_name f name
  more_act f _ = more_itself f

  more_effect : (f : Filed) (e : Effect) → IsMore f (after_effect texts l f e)
  more_effect f (Does act) = more_act f act
  more_effect f _ = more_itself f

  pub more_after : (f : Filed) (es : List Effect) → IsMore f (filed_after texts l f es)
  more_after f [] = more_itself f
  more_after f (e ∷ es) = more_then f (after_effect texts l f e) (filed_after texts l (after_effect texts l f e) es) (more_effect f e)
      (more_after (after_effect texts l f e) es)

  pub after_both : (f : Filed) (xs ys : List Effect) → filed_after texts l f (xs ++ ys) ≡ filed_after texts l (filed_after texts l f xs) ys
  after_both f [] ys = refl
  after_both f (x ∷ xs) ys = after_both (after_effect texts l f x) xs ys

module _ (New : Filed → Segment → Type 0) (texts : Texts) (l : ℕ) where
  pub owed_before : (f : Filed) (xs ys : List Effect) → FilesOwed New texts l f (xs ++ ys) → FilesOwed New texts l f xs
  owed_before f [] ys owed = tt
  owed_before f (x ∷ xs) ys owed = (owed.0, owed_before (after_effect texts l f x) xs ys owed.1)

  pub owed_behind : (f : Filed) (xs ys : List Effect) → FilesOwed New texts l f (xs ++ ys) → FilesOwed New texts l (filed_after texts l f xs) ys
  owed_behind f [] ys owed = owed
  owed_behind f (x ∷ xs) ys owed = owed_behind (after_effect texts l f x) xs ys owed.1

-- ---- what is acted to be filed

-- the text of this name bears it
abbrev pub IsNamed : Texts → SegName → Type 0
IsNamed texts name = (texts name).name ≡ name

module _ (New : Filed → Segment → Type 0) (texts : Texts) (l : ℕ) where
  -- wherever the text of a name bears it, it may be filed next
  abbrev pub AllMay : Type 0
  AllMay = (f : Filed) (name : SegName) → IsNamed texts name → name.seq ≡ suc (f.head l) → FilesNext New texts l f name

  module _ (may : AllMay) where
    may_act : (f : Filed) (a : Act) → ActSo (IsNamed texts) a → OwedAct New texts l f a
    may_act f (ActsFiled name) named = may f name named
    may_act f _ named = tt

    may_effect : (f : Filed) (e : Effect) → EffectSo (IsNamed texts) e → OwedEffect New texts l f e
    may_effect f (Does act) named = may_act f act named
    may_effect f _ named = tt

    -- then what is named is owed
    pub owed_named : (f : Filed) (es : List Effect) → AllSo (IsNamed texts) es → FilesOwed New texts l f es
    owed_named f [] named = tt
    owed_named f (e ∷ es) named = (may_effect f e named.0, owed_named (after_effect texts l f e) es named.1)

-- ---- steps that file nothing

abbrev IsNoFiling : Act → Type 0
IsNoFiling (ActsFiled name) = ⊥
IsNoFiling _ = Unit {0}

module _ (part : ℕ) (n : Net) (l since : ℕ) (f : Filed) where
  -- nothing is filed, and what is told is so
  abbrev pub Plain : Effect → Type 0
  Plain (Send to m) = OwnerSays part (filing n f) l since m
  Plain (Answers item answer) = Unit {0}
  Plain (Lose seg) = Unit {0}
  Plain (Does act) = IsNoFiling act

  abbrev pub AllPlain : List Effect → Type 0
  AllPlain outs = AllByRecursion Plain outs

  plain_does : (e : Effect) → Plain e → OwnerDoes part (filing n f) l since e
  plain_does (Send to m) h = h
  plain_does _ h = tt

  pub all_do : (outs : List Effect) → AllPlain outs → AllByRecursion (OwnerDoes part (filing n f) l since) outs
  all_do outs all = all_weaker Plain (OwnerDoes part (filing n f) l since) plain_does outs all

  module _ (texts : Texts) where
    act_files : (a : Act) → IsNoFiling a → after_act texts l f a ≡ f
    act_files (ActsFiled name) h = absurd h
    act_files _ h = refl

    effect_files : (e : Effect) → Plain e → after_effect texts l f e ≡ f
    effect_files (Does act) h = act_files act h
    effect_files _ h = refl

    pub files_none : (outs : List Effect) → AllPlain outs → filed_after texts l f outs ≡ f
    files_none [] all = refl
    files_none (e ∷ es) all = ap (λ g. filed_after texts l g es) (effect_files e all.0) ∙ files_none es all.1

  module _ (So : SegName → Type 0) where
    act_so : (a : Act) → IsNoFiling a → ActSo So a
    act_so (ActsFiled name) h = absurd h
    act_so _ h = tt

    effect_so : (e : Effect) → Plain e → EffectSo So e
    effect_so (Does act) h = act_so act h
    effect_so _ h = tt

    pub plain_so : (outs : List Effect) → AllPlain outs → AllSo So outs
    plain_so outs all = all_weaker Plain (EffectSo So) effect_so outs all

  pub answers_plain : (item : Option ℕ) (answer : Answer) → AllPlain (answers_unanswered item answer)
  answers_plain None answer = tt
  answers_plain (Some number) answer = (tt, tt)

  pub both_plain : (item : Option ℕ) (first : Answer) (number : ℕ) (second : Answer)
      → AllPlain (answers_unanswered item first ++ Answers number second ∷ [])
  both_plain item first number second = all_append Plain (answers_unanswered item first) (Answers number second ∷ []) (answers_plain item first) (tt, tt)

  module _ {S : Type 0} (At : S → Type 0) where
    pub record Quiet (d : Stepped S Effect) : Type 0 where
      pub stands : At d.state
      pub plain : AllPlain d.outs

    pub quiet_still : (s : S) → At s → Quiet (still s)
    quiet_still s h = record { stands = h; plain = tt }

    pub quiet_plain : (s : S) (outs : List Effect) → At s → AllPlain outs → Quiet (record { state = s; outs = outs })
    quiet_plain s outs h all = record { stands = h; plain = all }

    -- one thing follows another
    pub quiet_on : (d e : Stepped S Effect) → Quiet d → (At d.state → Quiet e) → Quiet (saying d.outs e)
    quiet_on d e p k = (let q = k p.stands in record { stands = q.stands; plain = all_append Plain d.outs e.outs p.plain q.plain })

    pub quiet_after : (outs : List Effect) (d : Stepped S Effect) → AllPlain outs → Quiet d → Quiet (saying outs d)
    quiet_after outs d all p = record { stands = p.stands; plain = all_append Plain outs d.outs all p.plain }

    -- another state that stands so too, and more is said
    pub quiet_gives : (d : Stepped S Effect) (s : S) (outs : List Effect) → Quiet d → (At d.state → At s) → (At d.state → AllPlain outs)
        → Quiet (record { state = s; outs = d.outs ++ outs })
    quiet_gives d s outs p k all = record { stands = k p.stands; plain = all_append Plain d.outs outs p.plain (all p.stands) }

    pub quiet_steps : {A : Type 0} (step : S → A → Stepped S Effect) → ((s : S) (x : A) → At s → Quiet (step s x)) → (s : S) (xs : List A) → At s
        → Quiet (steps step s xs)
    quiet_steps step one s [] h = quiet_still s h
    quiet_steps step one s (x ∷ xs) h = quiet_on (step s x) (steps step (step s x).state xs) (one s x h) (λ k. quiet_steps step one (step s x).state xs k)

-- ---- steps that file

module _ (New : Filed → Segment → Type 0) (part : ℕ) (texts : Texts) (n : Net) (l since : ℕ) {S : Type 0} (At : Filed → S → Type 0) where
  abbrev pub Says : Filed → Effect → Type 0
  Says f e = OwnerDoes part (filing n f) l since e

  -- it stands so with what is filed then, and what it told is so then
  pub record Ends (f : Filed) (s : S) (outs : List Effect) : Type 0 where
    pub stands : At f s
    pub says : AllByRecursion (OwnerDoes part (filing n f) l since) outs

  -- where what is filed next is owed; and texts that bear their names alone are filed, where those may be
  abbrev pub Goes : Filed → Stepped S Effect → Type 0
  Goes f d = (FilesOwed New texts l f d.outs → Ends (filed_after texts l f d.outs) d.state d.outs) × (AllMay New texts l → AllSo (IsNamed texts) d.outs)

  pub goes_quiet : (f : Filed) (d : Stepped S Effect) → Quiet part n l since f (At f) d → Goes f d
  goes_quiet f d q = (
    λ owed. subst (λ g. Ends g d.state d.outs) (sym (files_none part n l since f texts d.outs q.plain))
        (record { stands = q.stands; says = all_do part n l since f d.outs q.plain }),
    λ may. plain_so part n l since f (IsNamed texts) d.outs q.plain,
  )

  -- what files nothing goes before
  pub goes_behind : (f : Filed) (outs : List Effect) (d : Stepped S Effect) → AllPlain part n l since f outs → Goes f d → Goes f (saying outs d)
  goes_behind f outs d all p =
      (λ owed. behind owed, λ may. all_append (EffectSo (IsNamed texts)) outs d.outs (plain_so part n l since f (IsNamed texts) outs all) (p.1 may))
    where
      behind : FilesOwed New texts l f (outs ++ d.outs) → Ends (filed_after texts l f (outs ++ d.outs)) d.state (outs ++ d.outs)
      behind owed =
          let same = files_none part n l since f texts outs all in
          let two = p.0 (subst (λ g. FilesOwed New texts l g d.outs) same (owed_behind New texts l f outs d.outs owed)) in
          let g = filed_after texts l f d.outs in
          subst (λ h. Ends h d.state (outs ++ d.outs)) (sym (after_both texts l f outs d.outs ∙ ap (λ h. filed_after texts l h d.outs) same)) (record {
            stands = two.stands;
            says = all_append (Says g) outs d.outs
                (all_weaker (Says f) (Says g) (does_on part (filing n f) (filing n g) l since (more_after texts l f d.outs) refl) outs
                (all_do part n l since f outs all)) two.says;
          })

  -- a name is acted to be filed first, and then nothing is
  pub goes_filed : (f : Filed) (name : SegName) (d : Stepped S Effect) → IsNamed texts name
      → (OwedAct New texts l f (ActsFiled name) → Quiet part n l since (with_name texts l f name) (At (with_name texts l f name)) d)
      → Goes f (saying (Does (ActsFiled name) ∷ []) d)
  goes_filed f name d named k = (
    λ owed. let g = with_name texts l f name in
        let q = k owed.0 in
        subst (λ h. Ends h d.state (Does (ActsFiled name) ∷ d.outs)) (sym (files_none part n l since g texts d.outs q.plain))
        (record { stands = q.stands; says = (tt, all_do part n l since g d.outs q.plain) }),
    λ may. (named, plain_so part n l since (with_name texts l f name) (IsNamed texts) d.outs (k (may f name named)).plain),
  )

-- one thing follows another, maybe of another state
module _ (New : Filed → Segment → Type 0) (part : ℕ) (texts : Texts) (n : Net) (l since : ℕ) {S T : Type 0} (At : Filed → S → Type 0)
    (Bt : Filed → T → Type 0) where
  pub goes_through : (f : Filed) (d : Stepped S Effect) (e : Stepped T Effect) → Goes New part texts n l since At f d
      → (At (filed_after texts l f d.outs) d.state → Goes New part texts n l since Bt (filed_after texts l f d.outs) e)
      → Goes New part texts n l since Bt f (record { state = e.state; outs = d.outs ++ e.outs })
  goes_through f d e p k = (
    λ owed. through owed,
    λ may. all_append (EffectSo (IsNamed texts)) d.outs e.outs (p.1 may) ((k (p.0 (owed_named New texts l may f d.outs (p.1 may))).stands).1 may),
  )
    where
      through : FilesOwed New texts l f (d.outs ++ e.outs)
          → Ends New part texts n l since Bt (filed_after texts l f (d.outs ++ e.outs)) e.state (d.outs ++ e.outs)
      through owed =
          let g = filed_after texts l f d.outs in
          let h = filed_after texts l g e.outs in
          let one = p.0 (owed_before New texts l f d.outs e.outs owed) in
          let two = (k one.stands).0 (owed_behind New texts l f d.outs e.outs owed) in
          subst (λ x. Ends New part texts n l since Bt x e.state (d.outs ++ e.outs)) (sym (after_both texts l f d.outs e.outs)) (record {
            stands = two.stands;
            says = all_append (OwnerDoes part (filing n h) l since) d.outs e.outs
                (all_weaker (OwnerDoes part (filing n g) l since) (OwnerDoes part (filing n h) l since)
                (does_on part (filing n g) (filing n h) l since (more_after texts l g e.outs) refl) d.outs one.says)
                two.says;
          })

module _ (New : Filed → Segment → Type 0) (part : ℕ) (texts : Texts) (n : Net) (l since : ℕ) {S : Type 0} (At : Filed → S → Type 0) where
  pub goes_on : (f : Filed) (d e : Stepped S Effect) → Goes New part texts n l since At f d
      → (At (filed_after texts l f d.outs) d.state → Goes New part texts n l since At (filed_after texts l f d.outs) e)
      → Goes New part texts n l since At f (saying d.outs e)
  goes_on f d e p k = goes_through New part texts n l since At At f d e p k
