-- What a shelf has at each name, and at each log, after each change.
use Rattle.std.proofs.Common.{◌≡◌, Bool, true, false, cond, List, [], ◌∷◌, Option, Some, None, filter, unwrap_or, refl, sym, ap, ◌∙◌}
use Rattle.std.specs.Prelude.{not, is_some, ◌||◌}
use Rattle.std.specs.List.{list_any}
use Rattle.std.specs.declared.cmp.Ordering.TheVariants.{Less, Equal, Greater}
use Rattle.std.specs.Ordering.{is_eq, eq_by_cmp, match_ordering}
use Rattle.std.specs.Cmp.{IsTotalOrder}
use Rattle.std.specs.Map.{lookup}
use Rattle.std.specs.BTreeMap.{is_at, insert_entry}
use Rattle.std.specs.BTreeSet.{insert_key}
use Rattle.std.proofs.lemmas.Cmp.{on_total, nat_cmp_total}
use Rattle.xfs_base.specs.declared.fragment.Fragment.{Fragment}
use Rattle.xfs_base.specs.declared.segment.LogId.{LogId}
use Rattle.xfs_base.specs.declared.segment.Pass.{Pass}
use Rattle.xfs_base.specs.declared.segment.SegName.{SegName}
use Rattle.xfs_base.specs.Segments.{seg_cmp}
use Rattle.xfs_base.specs.Stamps.{is_greater}
use Rattle.xfs_base.proofs.BlockOrder.{lookup-insert_entry}
use Rattle.xfs_base.proofs.Booleans.{contrary}
use Rattle.fragment_store.specs.ShelfState.{same_name, log_cmp, held_at, is_marked, fence_of}
use Rattle.fragment_store.specs.Calls.{with_fragment}
use Rattle.xfs_base.proofs.SegmentNames.{one_name}

-- two names that a third is cannot differ
one_of_two : (a b name : SegName) → same_name name a ≡ true → same_name name b ≡ true → same_name a b ≡ true
one_of_two a b name p q = ap (λ n. same_name n b) (sym (one_name name a p)) ∙ q

-- a list with one more fragment, of a name that it hadn't
pub held-with : (f : Fragment) (fs : List Fragment) (name : SegName) → held_at fs f.meta.name ≡ None
    → held_at (with_fragment f fs) name ≡ cond (same_name name f.meta.name) (Some f) (held_at fs name)
held-with f [] name none = refl
held-with f (h ∷ hs) name none = by (is_greater (seg_cmp f.meta.name h.meta.name)) (same_name f.meta.name h.meta.name) refl none (λ k. held-with f hs name k)
  where
    order : (s t : Bool) → same_name name h.meta.name ≡ s → same_name name f.meta.name ≡ t → same_name f.meta.name h.meta.name ≡ false
        → cond s (Some h) (cond t (Some f) (held_at hs name)) ≡ cond t (Some f) (cond s (Some h) (held_at hs name))
    order false t a b e = refl
    order true false a b e = refl
    order true true a b e = contrary (sym e ∙ one_of_two f.meta.name h.meta.name name b a)

    by : (t u : Bool) → same_name f.meta.name h.meta.name ≡ u → cond u (Some h) (held_at hs f.meta.name) ≡ None
        → (held_at hs f.meta.name ≡ None → held_at (with_fragment f hs) name ≡ cond (same_name name f.meta.name) (Some f) (held_at hs name))
        → held_at (cond t (h ∷ with_fragment f hs) (f ∷ h ∷ hs)) name ≡ cond (same_name name f.meta.name) (Some f)
        (cond (same_name name h.meta.name) (Some h) (held_at hs name))
    by false u e k more = refl
    by true true e k more = contrary (sym (ap is_some k))
    by true false e k more =
        ap (λ o. cond (same_name name h.meta.name) (Some h) o) (more k) ∙ order (same_name name h.meta.name) (same_name name f.meta.name) refl refl e

-- a list without the fragments of a name
pub held-without : (gone : SegName) (fs : List Fragment) (name : SegName)
    → held_at (filter (λ f. not (same_name gone f.meta.name)) fs) name ≡ cond (same_name gone name) None (held_at fs name)
held-without gone [] name = by (same_name gone name)
  where
    by : (t : Bool) → held_at [] name ≡ cond t None (held_at [] name)
    by true = refl
    by false = refl
held-without gone (h ∷ hs) name = by (same_name gone h.meta.name) (same_name name h.meta.name) (same_name gone name) refl refl refl (held-without gone hs name)
  where
    rest : List Fragment
    rest = filter (λ f. not (same_name gone f.meta.name)) hs

    by : (s t u : Bool) → same_name gone h.meta.name ≡ s → same_name name h.meta.name ≡ t → same_name gone name ≡ u
        → held_at (filter (λ f. not (same_name gone f.meta.name)) hs) name ≡ cond u None (held_at hs name)
        → held_at (cond (not s) (h ∷ filter (λ f. not (same_name gone f.meta.name)) hs) (filter (λ f. not (same_name gone f.meta.name)) hs)) name ≡ cond u None
        (cond t (Some h) (held_at hs name))
    by false false u a b c more = ap (λ t. cond t (Some h) (held_at (filter (λ f. not (same_name gone f.meta.name)) hs) name)) b ∙ more
    by false true false a b c more = ap (λ t. cond t (Some h) (held_at (filter (λ f. not (same_name gone f.meta.name)) hs) name)) b
    by false true true a b c more = contrary (sym a ∙ (ap (λ n. same_name n h.meta.name) (one_name gone name c) ∙ b))
    by true false u a b c more = more
    by true true true a b c more = more
    by true true false a b c more = contrary (sym c ∙ (ap (same_name gone) (one_name name h.meta.name b) ∙ a))

or_cases : (x a b : Bool) → (b || (x || a)) ≡ (x || (b || a))
or_cases true a true = refl
or_cases true a false = refl
or_cases false a b = refl

-- one more name is marked
pub is_marked-with : (marks : List SegName) (new name : SegName) → is_marked (insert_key seg_cmp marks new) name ≡ same_name name new || is_marked marks name
is_marked-with [] new name = refl
is_marked-with (m ∷ ms) new name =
    elim (seg_cmp new m) as
    (λ o. is_eq (seg_cmp new m) ≡ is_eq o
    → list_any (same_name name) (match_ordering o (new ∷ m ∷ ms) (m ∷ ms) (m ∷ insert_key seg_cmp ms new)) ≡ same_name name new ||
    (same_name name m || is_marked ms name)) [
      | Less ↦ λ e. refl
      | Equal ↦ λ e. twice (same_name name m) (same_name name new) (is_marked ms name) (ap (same_name name) (one_name new m e))
      | Greater ↦ λ e. ap (λ t. same_name name m || t) (is_marked-with ms new name) ∙ or_cases (same_name name new) (is_marked ms name) (same_name name m)
    ] refl
  where
    twice : (a b c : Bool) → b ≡ a → (a || c) ≡ (b || (a || c))
    twice true true c e = refl
    twice true false c e = contrary e
    twice false true c e = contrary (sym e)
    twice false false c e = refl

pub log_cmp_total : IsTotalOrder log_cmp
log_cmp_total = on_total (λ (l : LogId). l.0) nat_cmp_total

-- the fence of each log once one is set
pub fence_of-with : (fences : List (LogId × Pass)) (log : LogId) (pass : Pass) (other : LogId)
    → fence_of (insert_entry log_cmp fences log pass) other ≡ cond (eq_by_cmp log_cmp other log) pass (fence_of fences other)
fence_of-with fences log pass other =
    ap (λ o. unwrap_or o (record { inc = 0; att = 0 })) (lookup-insert_entry log_cmp_total other log pass fences)
    ∙ out (eq_by_cmp log_cmp other log) (lookup (is_at (log_cmp other)) fences)
  where
    out : (t : Bool) (o : Option Pass)
        → unwrap_or (cond t (Some pass) o) (record { inc = 0; att = 0 }) ≡ cond t pass (unwrap_or o (record { inc = 0; att = 0 }))
    out true o = refl
    out false o = refl
