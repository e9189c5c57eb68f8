-- A shelf keeps a fragment exactly where nothing speaks against it.
use Rattle.std.proofs.Common.{◌≡◌, ℕ, Bool, true, false, cond, not, nat_eq, refl, sym, ap, ◌∙◌}
use Rattle.std.specs.Prelude.{Option, Some, None, Ok, Err, is_some}
use Rattle.xfs_base.specs.declared.segment.Pass.{Pass}
use Rattle.xfs_base.specs.declared.segment.SegName.{SegName}
use Rattle.xfs_base.specs.Segments.{pass_cmp}
use Rattle.xfs_base.specs.Stamps.{is_greater}
use Rattle.fragment_store.specs.declared.store_error.StoreError.{StoreError}
use Rattle.fragment_store.specs.declared.store_error.StoreError.TheVariants.{WrongGeneration, Marked, Fenced, Memory}
use Rattle.fragment_store.specs.Calls.{refusal}
use Rattle.fragment_store.specs.ShelfState.{ShelfState, is_marked, fence_of}

-- a shelf never refuses a fragment for want of memory
pub not_memory : (s : ShelfState) (name : SegName) (generation : ℕ) → refusal s name generation ≡ Some Memory → ⊥
not_memory s name generation =
    by_tests (not (nat_eq generation s.generation)) (is_marked s.marks name) (is_greater (pass_cmp (fence_of s.fences name.log) name.pass)) s.generation
    (fence_of s.fences name.log)
  where
    by_tests : (a b c : Bool) (g : ℕ) (fence : Pass)
        → cond a (Some (WrongGeneration g)) (cond b (Some Marked) (cond c (Some (Fenced fence)) None)) ≡ Some Memory → ⊥
    by_tests true b c g fence e = cc
    by_tests false true c g fence e = cc
    by_tests false false true g fence e = cc
    by_tests false false false g fence e = cc

-- what is refused for no reason but want of memory, and not for that, is not refused
pub none_refused : (refused : Option StoreError) → ((e : StoreError) → (e ≡ Memory → ⊥) → refused ≡ Some e → ⊥) → (refused ≡ Some Memory → ⊥) → refused ≡ None
none_refused None others memory = refl
none_refused (Some (WrongGeneration g)) others memory = absurd (others (WrongGeneration g) (λ e. cc) refl)
none_refused (Some Marked) others memory = absurd (others Marked (λ e. cc) refl)
none_refused (Some (Fenced fence)) others memory = absurd (others (Fenced fence) (λ e. cc) refl)
none_refused (Some Memory) others memory = absurd (memory refl)

-- what is kept is no error
pub no_error : {T : Type 0} (kept : T) (e : StoreError) → Ok kept ≡ Err e → ⊥
no_error kept e h = cc

module _ {A : Type 0} where
  -- where nothing is refused, what is kept is what the choice gives
  pub unrefused : (refused : Option StoreError) (x stay keep : A) → refused ≡ None → x ≡ keep → x ≡ cond (is_some refused) stay keep
  unrefused refused x stay keep none e = e ∙ sym (ap (λ r. cond (is_some r) stay keep) none)

  pub refused_for : (refused : Option StoreError) (why : StoreError) (x stay keep : A) → refused ≡ Some why → x ≡ stay → x ≡ cond (is_some refused) stay keep
  refused_for refused why x stay keep some e = e ∙ sym (ap (λ r. cond (is_some r) stay keep) some)
