-- What acts file, one list of them behind another.
use Rattle.std.proofs.Common.{◌≡◌, ℕ, List, [], ◌∷◌, ◌++◌, refl, sym, ap, subst, ◌∙◌}
use Rattle.std.proofs.lemmas.List.Concat.{flat_map-append}
use Rattle.std.specs.List.{AllByRecursion}
use Rattle.node_base.specs.declared.effects.Effect.{Effect}
use Rattle.node_base.specs.declared.effects.Effect.TheVariants.{Send, Answer as Answers, Lose, Does}
use Rattle.node_base.specs.Effects.{act_of, acts_of}
use Rattle.version_model.specs.declared.act.Act.{Act}
use Rattle.version_model.specs.declared.act.Act.TheVariants as act
use Rattle.xfs_base.specs.declared.node.NodeId.{NodeId}
use Rattle.xfs_base.specs.declared.segment.LogId.{LogId}
use Rattle.xfs_base.specs.declared.segment.SegName.{SegName}
use Rattle.headline.specs.Filings.{FilesNothing, FilesOn, filed_last}

-- an effect by which nothing is filed
abbrev pub IsOther : Act → Type 0
IsOther (act.Filed name) = ⊥
IsOther _ = Unit {0}

abbrev pub FilesNone : Effect → Type 0
FilesNone (Does a) = IsOther a
FilesNone _ = Unit {0}

abbrev pub AllFileNone : List Effect → Type 0
AllFileNone outs = AllByRecursion FilesNone outs

last_aside : (a : Act) → IsOther a → (before : ℕ) (acts : List Act) → filed_last before (a ∷ acts) ≡ filed_last before acts
last_aside (act.Filed name) other before acts = absurd other
last_aside _ other before acts = refl

pub last_then : (before : ℕ) (xs ys : List Act) → filed_last before (xs ++ ys) ≡ filed_last (filed_last before xs) ys
last_then before [] ys = refl
last_then before (act.Filed name ∷ xs) ys = last_then name.seq xs ys
last_then before (_ ∷ xs) ys = last_then before xs ys

-- of a node, what these effects act to be filed last
pub last_none : (me : NodeId) (before : ℕ) (outs : List Effect) → AllFileNone outs → filed_last before (acts_of me outs) ≡ before
last_none me before [] all = refl
last_none me before (Send to said ∷ outs) all = last_none me before outs all.1
last_none me before (Answers item a ∷ outs) all = last_none me before outs all.1
last_none me before (Lose name ∷ outs) all = last_none me before outs all.1
last_none me before (Does a ∷ outs) all = last_aside a all.0 before (acts_of me outs) ∙ last_none me before outs all.1

pub last_then_effects : (me : NodeId) (before : ℕ) (xs ys : List Effect)
    → filed_last before (acts_of me (xs ++ ys)) ≡ filed_last (filed_last before (acts_of me xs)) (acts_of me ys)
last_then_effects me before xs ys =
    ap (filed_last before) (flat_map-append (act_of me) xs ys) ∙ last_then before (acts_of me xs) (acts_of me ys)

nothing_aside : (a : Act) → IsOther a → (acts : List Act) → FilesNothing acts → FilesNothing (a ∷ acts)
nothing_aside (act.Filed name) other acts none = absurd other
nothing_aside _ other acts none = none

-- nothing is filed by effects none of which files
pub nothing_filed : (me : NodeId) (outs : List Effect) → AllFileNone outs → FilesNothing (acts_of me outs)
nothing_filed me [] all = tt
nothing_filed me (Send to said ∷ outs) all = nothing_filed me outs all.1
nothing_filed me (Answers item a ∷ outs) all = nothing_filed me outs all.1
nothing_filed me (Lose name ∷ outs) all = nothing_filed me outs all.1
nothing_filed me (Does a ∷ outs) all = nothing_aside a all.0 (acts_of me outs) (nothing_filed me outs all.1)

-- where the last is filed
pub effects_last : (me : NodeId) (before : ℕ) (first : List Effect) (name : SegName)
    → filed_last before (acts_of me (first ++ Does (act.Filed name) ∷ [])) ≡ name.seq
effects_last me before first name = last_then_effects me before first (Does (act.Filed name) ∷ [])

module _ (log : LogId) (inc : ℕ) where
  -- what these acts file is in order, from one number up to another
  pub record Files (before : ℕ) (acts : List Act) (after : ℕ) : Type 0 where
    pub each : FilesOn log inc before acts
    pub last : filed_last before acts ≡ after

  on_aside : (a : Act) → IsOther a → (before : ℕ) (acts : List Act) → FilesOn log inc before acts → FilesOn log inc before (a ∷ acts)
  on_aside (act.Filed name) other before acts on = absurd other
  on_aside _ other before acts on = on

  on_then : (before : ℕ) (xs ys : List Act) → FilesOn log inc before xs → FilesOn log inc (filed_last before xs) ys → FilesOn log inc before (xs ++ ys)
  on_then before [] ys a b = b
  on_then before (act.Filed name ∷ xs) ys a b = (a.0, on_then name.seq xs ys a.1 b)
  on_then before (_ ∷ xs) ys a b = on_then before xs ys a b

  pub on_none : (me : NodeId) (before : ℕ) (outs : List Effect) → AllFileNone outs → FilesOn log inc before (acts_of me outs)
  on_none me before [] all = tt
  on_none me before (Send to said ∷ outs) all = on_none me before outs all.1
  on_none me before (Answers item a ∷ outs) all = on_none me before outs all.1
  on_none me before (Lose name ∷ outs) all = on_none me before outs all.1
  on_none me before (Does a ∷ outs) all = on_aside a all.0 before (acts_of me outs) (on_none me before outs all.1)

  pub none_files : (me : NodeId) (before : ℕ) (outs : List Effect) → AllFileNone outs → Files before (acts_of me outs) before
  none_files me before outs all = record { each = on_none me before outs all; last = last_none me before outs all }

  pub then_files : (me : NodeId) (a b c : ℕ) (xs ys : List Effect) → Files a (acts_of me xs) b → Files b (acts_of me ys) c → Files a (acts_of me (xs ++ ys)) c
  then_files me a b c xs ys f g =
      subst (λ acts. Files a acts c) (sym (flat_map-append (act_of me) xs ys)) (record {
        each = on_then a (acts_of me xs) (acts_of me ys) f.each (subst (λ n. FilesOn log inc n (acts_of me ys)) (sym f.last) g.each);
        last = last_then a (acts_of me xs) (acts_of me ys) ∙ (ap (λ n. filed_last n (acts_of me ys)) f.last ∙ g.last);
      })
