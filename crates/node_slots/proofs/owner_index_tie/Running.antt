-- What an owner files runs in the small world, and it stays that of each name the text is filed.
use Rattle.std.proofs.Common.{◌≡◌, ◌≤◌, ◌==◌, ℕ, suc, Bool, true, false, cond, List, [], ◌∷◌, refl, sym, ap, subst, ◌∙◌, arith}
use Rattle.std.proofs.lemmas.Bool.{eqb-true}
use Rattle.std.proofs.lemmas.Bool.Decides.{nat_tests}
use Rattle.checkpoint.specs.WriterState.{Rows}
use Rattle.headline.specs.Filed.{AreTexts, Filed, Texts}
use Rattle.index_tie.specs.Growth.{with_segment}
use Rattle.index_tie.specs.Net.{Net, Happens, Runs}
use Rattle.index_tie.specs.Net.Runs.{Begun, On}
use Rattle.node_base.specs.declared.effects.Effect.{Effect}
use Rattle.node_base.specs.declared.effects.Effect.TheVariants.{Does}
use Rattle.node_slots.proofs.node_index_tie.Moves.{runs_through}
use Rattle.segment_format.specs.declared.segment.Segment.{Segment}
use Rattle.version_model.specs.declared.act.Act.{Act}
use Rattle.version_model.specs.declared.act.Act.TheVariants.{Filed as ActsFiled}
use Rattle.xfs_base.proofs.Booleans.{by_test}
use Rattle.xfs_base.specs.declared.segment.SegName.{SegName}
use Rattle.xfs_base.specs.declared.segment.SegRef.{SegRef}
use Rattle.index_tie.proofs.Tables.{at_other}
use Rattle.node_slots.specs.owner_index_tie.Filing.{IsSameLog, filing, with_name, after_act, after_effect, filed_after, FilesNext, OwedAct, OwedEffect, FilesOwed}

-- ---- a segment of a name

module _ (New : Filed → Segment → Type 0) (texts : Texts) (l : ℕ) where
  is_next : (f : Filed) (name : SegName) → (name.seq == suc (f.head l)) ≡ true → name.seq ≡ suc (f.head l)
  is_next f name fact = eqb-true name.seq (suc (f.head l)) fact

  -- what holds where it is next, and where it isn't, holds
  pub by_next : (P : Filed → Type 0) (f : Filed) (name : SegName) → OwedAct New texts l f (ActsFiled name)
      → (FilesNext New texts l f name → P (with_segment f l (texts name))) → P f → P (with_name texts l f name)
  by_next P f name owed files rests =
      by_test P (name.seq == suc (f.head l)) (with_segment f l (texts name)) f (λ fact. files (owed (is_next f name fact))) (λ _. rests)

  segment_text : (f : Filed) (name : SegName) → AreTexts texts f → (texts name).name ≡ name → AreTexts texts (with_segment f l (texts name))
  segment_text f name are named m q some limit = by (m == l) (q == suc (f.head l)) refl refl
    where
      old : (m == l) ≡ false → q ≤ f.head m
      old other = subst (λ (b : Bool). q ≤ cond b (suc (f.head l)) (f.head m)) other limit

      lower : (m == l) ≡ true → (q == suc (f.head l)) ≡ false → q ≤ f.head m
      lower fact other =
          let at = subst (λ (b : Bool). q ≤ cond b (suc (f.head l)) (f.head m)) fact limit in
          subst (λ k. q ≤ f.head k) (sym (eqb-true m l fact)) (grind (arith, nat_tests, at, other))

      by : (t u : Bool) → (m == l) ≡ t → (q == suc (f.head l)) ≡ u
          → cond t (cond u (texts name) (f.segment m q)) (f.segment m q) ≡ texts (cond t (cond u (texts name) (f.segment m q)) (f.segment m q)).name
      by true true fact at = ap texts (sym named)
      by true false fact other = are m q some (lower fact other)
      by false u other at = are m q some (old other)

  name_text : (f : Filed) (name : SegName) → OwedAct New texts l f (ActsFiled name) → AreTexts texts f → AreTexts texts (with_name texts l f name)
  name_text f name owed are = by_next (AreTexts texts) f name owed (λ k. segment_text f name are k.named) are

  act_text : (f : Filed) (a : Act) → OwedAct New texts l f a → AreTexts texts f → AreTexts texts (after_act texts l f a)
  act_text f (ActsFiled name) owed are = name_text f name owed are
  act_text f _ owed are = are

  effect_text : (f : Filed) (e : Effect) → OwedEffect New texts l f e → AreTexts texts f → AreTexts texts (after_effect texts l f e)
  effect_text f (Does act) owed are = act_text f act owed are
  effect_text f _ owed are = are

  -- what is filed are the texts of their names
  pub texts_after : (f : Filed) (es : List Effect) → FilesOwed New texts l f es → AreTexts texts f → AreTexts texts (filed_after texts l f es)
  texts_after f [] owed are = are
  texts_after f (e ∷ es) owed are = texts_after (after_effect texts l f e) es owed.1 (effect_text f e owed.0 are)

-- ---- other logs

same_itself : (l : ℕ) (f : Filed) → IsSameLog l f f
same_itself l f = record { head = refl; segment = λ q some limit. refl }

same_then : (l : ℕ) (f g h : Filed) → IsSameLog l f g → IsSameLog l g h → IsSameLog l f h
same_then l f g h a b = record {
  head = b.head ∙ a.head;
  segment = λ q some limit. let e = a.head in b.segment q some (omega arith) ∙ a.segment q some limit;
}

module _ (texts : Texts) (l other : ℕ) (apart : other ≡ l → ⊥) where
  same_name : (f : Filed) (name : SegName) → IsSameLog other f (with_name texts l f name)
  same_name f name =
      by_test (IsSameLog other f) (name.seq == suc (f.head l)) (with_segment f l (texts name)) f
      (λ _. record {
        head = at_other other l (suc (f.head l)) (f.head other) apart;
        segment = λ q some limit. at_other other l (cond (q == suc (f.head l)) (texts name) (f.segment other q)) (f.segment other q) apart;
      })
      (λ _. same_itself other f)

  same_act : (f : Filed) (a : Act) → IsSameLog other f (after_act texts l f a)
  same_act f (ActsFiled name) = same_name f name
  same_act f _ = same_itself other f

  same_effect : (f : Filed) (e : Effect) → IsSameLog other f (after_effect texts l f e)
  same_effect f (Does act) = same_act f act
  same_effect f _ = same_itself other f

  -- an owner files nothing of another log
  pub others_after : (f : Filed) (es : List Effect) → IsSameLog other f (filed_after texts l f es)
  others_after f [] = same_itself other f
  others_after f (e ∷ es) = same_then other f (after_effect texts l f e) (filed_after texts l (after_effect texts l f e) es) (same_effect f e)
      (others_after (after_effect texts l f e) es)

-- ---- runs

module _ (New : Filed → Segment → Type 0) (part : ℕ) (texts : Texts) (holds : SegRef → Rows) (n : Net) (l : ℕ)
    (files : (f : Filed) (name : SegName) → FilesNext New texts l f name → Happens part holds (filing n f) (filing n (with_segment f l (texts name)))) where
  name_runs : (f : Filed) (name : SegName) → OwedAct New texts l f (ActsFiled name) → Runs part holds (filing n f) (filing n (with_name texts l f name))
  name_runs f name owed = by_next New texts l (λ g. Runs part holds (filing n f) (filing n g)) f name owed (λ k. On Begun (files f name k)) Begun

  act_runs : (f : Filed) (a : Act) → OwedAct New texts l f a → Runs part holds (filing n f) (filing n (after_act texts l f a))
  act_runs f (ActsFiled name) owed = name_runs f name owed
  act_runs f _ owed = Begun

  effect_runs : (f : Filed) (e : Effect) → OwedEffect New texts l f e → Runs part holds (filing n f) (filing n (after_effect texts l f e))
  effect_runs f (Does act) owed = act_runs f act owed
  effect_runs f _ owed = Begun

  pub runs_after : (f : Filed) (es : List Effect) → FilesOwed New texts l f es → Runs part holds (filing n f) (filing n (filed_after texts l f es))
  runs_after f [] owed = Begun
  runs_after f (e ∷ es) owed =
      let g = after_effect texts l f e in
      runs_through (filing n f) (filing n g) (filing n (filed_after texts l g es)) (effect_runs f e owed.0) (runs_after g es owed.1)
