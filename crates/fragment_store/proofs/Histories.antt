-- What no list of stores, fences, deletions and fills undoes.
use Rattle.std.proofs.Common.{◌≡◌, Bool, true, false, cond, List, [], ◌∷◌, Option, Some, None, refl, sym, ap, subst, ◌∙◌, inl, inr}
use Rattle.std.specs.Prelude.{◌⊎◌, Contains, IsTrue, IsFalse, is_none, is_some, not, ◌||◌, nat_eq}
use Rattle.std.specs.declared.cmp.Ordering.{Ordering}
use Rattle.std.specs.declared.cmp.Ordering.TheVariants.{Less, Equal, Greater}
use Rattle.std.specs.Ordering.{eq_by_cmp, is_gt, ordering_reverse}
use Rattle.std.specs.BTreeMap.{insert_entry}
use Rattle.std.proofs.lemmas.Cmp.{tied_itself, upto}
use Rattle.std.proofs.lemmas.Map.Lookups.{CmpEqualImpliesEq, exact_unsigned}
use Rattle.std.proofs.lemmas.Map.Views.{tells_apart}
use Rattle.xfs_base.specs.declared.fragment.Fragment.{Fragment}
use Rattle.xfs_base.specs.declared.segment.LogId.{LogId}
use Rattle.xfs_base.specs.declared.segment.Pass.{Pass}
use Rattle.xfs_base.specs.declared.segment.SegName.{SegName}
use Rattle.xfs_base.specs.Segments.{pass_cmp}
use Rattle.xfs_base.specs.Stamps.{is_greater}
use Rattle.xfs_base.proofs.Booleans.{contrary, by_test, or_second}
use Rattle.xfs_base.proofs.Members.{contains_first, contains_rest}
use Rattle.xfs_base.proofs.Orders.{pass_cmp_total}
use Rattle.fragment_store.specs.declared.store_error.StoreError.TheVariants.{WrongGeneration, Marked}
use Rattle.fragment_store.specs.ShelfState.{ShelfState, same_name, log_cmp, held_at, is_held, is_marked, fence_of}
use Rattle.fragment_store.specs.Calls.{with_fragment, refusal, shelf_store, on_fence, on_delete}
use Rattle.fragment_store.specs.Histories.{Call, DeletedAreAway, after_call, after_calls}
use Rattle.fragment_store.specs.Histories.Call.{Store, Fence, Delete, Fill}
use Rattle.fragment_store.proofs.Entries.{none_held}
use Rattle.xfs_base.proofs.SegmentNames.{one_name, same_back}
use Rattle.fragment_store.proofs.Tables.{held-with, held-without, is_marked-with, fence_of-with}

-- ---- passes

greater-is_gt : (o : Ordering) → is_greater o ≡ is_gt o
greater-is_gt Less = refl
greater-is_gt Equal = refl
greater-is_gt Greater = refl

abbrev NotBelow : Pass → Pass → Type 0
NotBelow a b = is_greater (pass_cmp a b) ≡ false

not_below_itself : (a : Pass) → NotBelow a a
not_below_itself a = ap is_greater (tied_itself pass_cmp_total a)

not_below_through : (a b c : Pass) → NotBelow a b → NotBelow b c → NotBelow a c
not_below_through a b c h k =
    greater-is_gt (pass_cmp a c) ∙ upto pass_cmp_total a b c (sym (greater-is_gt (pass_cmp a b)) ∙ h) (sym (greater-is_gt (pass_cmp b c)) ∙ k)

reversed : (o : Ordering) → is_greater o ≡ true → is_greater (ordering_reverse o) ≡ false
reversed Less h = contrary h
reversed Equal h = refl
reversed Greater h = refl

not_below_greater : (a b : Pass) → is_greater (pass_cmp b a) ≡ true → NotBelow a b
not_below_greater a b h = ap is_greater (pass_cmp_total.antisymm a b) ∙ reversed (pass_cmp b a) h

-- ---- fences

log_cmp_exact : CmpEqualImpliesEq log_cmp
log_cmp_exact a b h = ap (λ (n : _). record { 0 = n }) (exact_unsigned a.0 b.0 h)

abbrev Rises : ShelfState → LogId → ShelfState → Type 0
Rises s log later = NotBelow (fence_of s.fences log) (fence_of later.fences log)

rises_or_stays : (s : ShelfState) (log : LogId) (pass : Pass) (other : LogId) (t : Bool) → eq_by_cmp log_cmp other log ≡ t
    → is_greater (pass_cmp pass (fence_of s.fences log)) ≡ true → NotBelow (fence_of s.fences other) (cond t pass (fence_of s.fences other))
rises_or_stays s log pass other true e h =
    not_below_greater (fence_of s.fences other) pass (ap (λ l. is_greater (pass_cmp pass (fence_of s.fences l))) (tells_apart log_cmp_exact other log e) ∙ h)
rises_or_stays s log pass other false e h = not_below_itself (fence_of s.fences other)

fence_rises : (s : ShelfState) (log : LogId) (pass : Pass) (other : LogId) → Rises s other (on_fence s log pass)
fence_rises s log pass other =
    by_test (Rises s other) (is_greater (pass_cmp pass (fence_of s.fences log))) (record s { fences = insert_entry log_cmp s.fences log pass }) s
    (λ h. subst (NotBelow (fence_of s.fences other)) (sym (fence_of-with s.fences log pass other))
    (rises_or_stays s log pass other (eq_by_cmp log_cmp other log) refl h))
    (λ h. not_below_itself (fence_of s.fences other))

kept_rises : (s : ShelfState) (f : Fragment) (log : LogId) → Rises s log (shelf_store s f)
kept_rises s f log =
    by_test (Rises s log) (is_held s f.meta.name) s (record s { held = with_fragment f s.held }) (λ h. not_below_itself (fence_of s.fences log))
    (λ h. not_below_itself (fence_of s.fences log))

fence_after_call : (s : ShelfState) (c : Call) (log : LogId) → Rises s log (after_call s c)
fence_after_call s (Store f generation) log =
    by_test (Rises s log) (is_none (refusal s f.meta.name generation)) (shelf_store s f) s (λ h. kept_rises s f log)
    (λ h. not_below_itself (fence_of s.fences log))
fence_after_call s (Fence log' pass) log = fence_rises s log' pass log
fence_after_call s (Delete name) log = not_below_itself (fence_of s.fences log)
fence_after_call s (Fill f) log =
    by_test (Rises s log) (is_marked s.marks f.meta.name) s (shelf_store s f) (λ h. not_below_itself (fence_of s.fences log)) (λ h. kept_rises s f log)

pub never_fall : (s : ShelfState) (calls : List Call) (log : LogId)
    → IsFalse (is_greater (pass_cmp (fence_of s.fences log) (fence_of (after_calls s calls).fences log)))
never_fall s [] log = not_below_itself (fence_of s.fences log)
never_fall s (c ∷ cs) log =
    not_below_through (fence_of s.fences log) (fence_of (after_call s c).fences log) (fence_of (after_calls (after_call s c) cs).fences log)
    (fence_after_call s c log) (never_fall (after_call s c) cs log)

-- ---- marks

abbrev StaysMarked : ShelfState → SegName → ShelfState → Type 0
StaysMarked s name later = is_marked s.marks name ≡ true → is_marked later.marks name ≡ true

kept_marks : (s : ShelfState) (f : Fragment) (name : SegName) → StaysMarked s name (shelf_store s f)
kept_marks s f name = by_test (StaysMarked s name) (is_held s f.meta.name) s (record s { held = with_fragment f s.held }) (λ h m. m) (λ h m. m)

marks_after_call : (s : ShelfState) (c : Call) (name : SegName) → StaysMarked s name (after_call s c)
marks_after_call s (Store f generation) name =
    by_test (StaysMarked s name) (is_none (refusal s f.meta.name generation)) (shelf_store s f) s (λ h. kept_marks s f name) (λ h m. m)
marks_after_call s (Fence log pass) name =
    by_test (StaysMarked s name) (is_greater (pass_cmp pass (fence_of s.fences log))) (record s { fences = insert_entry log_cmp s.fences log pass }) s
    (λ h m. m) (λ h m. m)
marks_after_call s (Delete gone) name = λ m. is_marked-with s.marks gone name ∙ or_second (same_name name gone) (is_marked s.marks name) m
marks_after_call s (Fill f) name = by_test (StaysMarked s name) (is_marked s.marks f.meta.name) s (shelf_store s f) (λ h m. m) (λ h. kept_marks s f name)

pub marks_stay : (s : ShelfState) (calls : List Call) (name : SegName) → IsTrue (is_marked s.marks name) → IsTrue (is_marked (after_calls s calls).marks name)
marks_stay s [] name m = m
marks_stay s (c ∷ cs) name m = marks_stay (after_call s c) cs name (marks_after_call s c name m)

-- ---- what is held

abbrev HeldOr : Type 0 → SegName → Fragment → ShelfState → Type 0
HeldOr deleted name f s = (held_at s.held name ≡ Some f) ⊎ deleted

-- a fragment of another name comes
beside : (s : ShelfState) (new : Fragment) (name : SegName) (f : Fragment) → held_at s.held new.meta.name ≡ None → held_at s.held name ≡ Some f → (t : Bool)
    → same_name name new.meta.name ≡ t → cond t (Some new) (held_at s.held name) ≡ Some f
beside s new name f none h true e =
    contrary (sym (ap is_some none) ∙ (ap (λ n. is_some (held_at s.held n)) (sym (one_name name new.meta.name e)) ∙ ap is_some h))
beside s new name f none h false e = h

kept_held : (s : ShelfState) (new : Fragment) (name : SegName) (f : Fragment) → held_at s.held name ≡ Some f → held_at (shelf_store s new).held name ≡ Some f
kept_held s new name f h =
    by_test (λ (later : ShelfState). held_at later.held name ≡ Some f) (is_held s new.meta.name) s (record s { held = with_fragment new s.held }) (λ e. h)
    (λ e. let none = none_held (held_at s.held new.meta.name) e in
    held-with new s.held name none ∙ beside s new name f none h (same_name name new.meta.name) refl)

deleted_or_held : (s : ShelfState) (gone name : SegName) (f : Fragment) → held_at s.held name ≡ Some f → (t : Bool) → same_name gone name ≡ t
    → HeldOr (Delete gone ≡ Delete name) name f (on_delete s gone)
deleted_or_held s gone name f h true e = inr (ap Delete (one_name gone name e))
deleted_or_held s gone name f h false e = inl (held-without gone s.held name ∙ ap (λ t. cond t None (held_at s.held name)) e ∙ h)

held_after_call : (s : ShelfState) (c : Call) (name : SegName) (f : Fragment) → held_at s.held name ≡ Some f
    → HeldOr (c ≡ Delete name) name f (after_call s c)
held_after_call s (Store new generation) name f h =
    by_test (HeldOr (Store new generation ≡ Delete name) name f) (is_none (refusal s new.meta.name generation)) (shelf_store s new) s
    (λ e. inl (kept_held s new name f h)) (λ e. inl h)
held_after_call s (Fence log pass) name f h =
    by_test (HeldOr (Fence log pass ≡ Delete name) name f) (is_greater (pass_cmp pass (fence_of s.fences log)))
    (record s { fences = insert_entry log_cmp s.fences log pass }) s (λ e. inl h) (λ e. inl h)
held_after_call s (Delete gone) name f h = deleted_or_held s gone name f h (same_name gone name) refl
held_after_call s (Fill new) name f h =
    by_test (HeldOr (Fill new ≡ Delete name) name f) (is_marked s.marks new.meta.name) s (shelf_store s new) (λ e. inl h) (λ e. inl (kept_held s new name f h))

abbrev HeldOrDeleted : SegName → Fragment → ShelfState → List Call → Type 0
HeldOrDeleted name f s calls = HeldOr (Contains calls (Delete name)) name f (after_calls s calls)

later_deleted : (s : ShelfState) (c : Call) (calls : List Call) (name : SegName) (f : Fragment) → HeldOrDeleted name f (after_call s c) calls
    → HeldOrDeleted name f s (c ∷ calls)
later_deleted s c calls name f (inl h) = inl h
later_deleted s c calls name f (inr k) = inr (contains_rest c (Delete name) calls k)

held_on : (s : ShelfState) (c : Call) (calls : List Call) (name : SegName) (f : Fragment)
    → ((h : held_at (after_call s c).held name ≡ Some f) → HeldOrDeleted name f (after_call s c) calls) → HeldOr (c ≡ Delete name) name f (after_call s c)
    → HeldOrDeleted name f s (c ∷ calls)
held_on s c calls name f more (inl h) = later_deleted s c calls name f (more h)
held_on s c calls name f more (inr e) = inr (subst (Contains (c ∷ calls)) e (contains_first c calls))

pub held_until_deleted : (s : ShelfState) (calls : List Call) (name : SegName) (f : Fragment) → held_at s.held name ≡ Some f → HeldOrDeleted name f s calls
held_until_deleted s [] name f h = inl h
held_until_deleted s (c ∷ cs) name f h = held_on s c cs name f (λ k. held_until_deleted (after_call s c) cs name f k) (held_after_call s c name f h)

-- ---- nothing is held of a marked name

pub with_away : (new : Fragment) (held : List Fragment) (marks : List SegName) → held_at held new.meta.name ≡ None → is_marked marks new.meta.name ≡ false
    → ((name : SegName) → is_marked marks name ≡ true → held_at held name ≡ None)
    → (name : SegName) → is_marked marks name ≡ true → held_at (with_fragment new held) name ≡ None
with_away new held marks none unmarked away name marked =
    held-with new held name none ∙ apart (same_name name new.meta.name) refl
  where
    apart : (t : Bool) → same_name name new.meta.name ≡ t → cond t (Some new) (held_at held name) ≡ None
    apart true e = contrary (sym unmarked ∙ (ap (is_marked marks) (sym (one_name name new.meta.name e)) ∙ marked))
    apart false e = away name marked

kept_away : (s : ShelfState) (new : Fragment) → is_marked s.marks new.meta.name ≡ false → DeletedAreAway s → DeletedAreAway (shelf_store s new)
kept_away s new unmarked away =
    by_test DeletedAreAway (is_held s new.meta.name) s (record s { held = with_fragment new s.held }) (λ e. away)
    (λ e. with_away new s.held s.marks (none_held (held_at s.held new.meta.name) e) unmarked away)

not_marked : {A : Type 0} (a b : Bool) (x y : A) (o : Option A) → is_none (cond a (Some x) (cond b (Some y) o)) ≡ true → b ≡ false
not_marked true b x y o h = contrary h
not_marked false true x y o h = contrary h
not_marked false false x y o h = refl

deleted_away : (s : ShelfState) (gone name : SegName) → DeletedAreAway s → (t : Bool) → same_name gone name ≡ t
    → (same_name name gone || is_marked s.marks name) ≡ true
    → cond t None (held_at s.held name) ≡ None
deleted_away s gone name away true e m = refl
deleted_away s gone name away false e m = away name (sym (ap (λ t. t || is_marked s.marks name) (same_back name gone ∙ e)) ∙ m)

pub deletion_away : (s : ShelfState) (gone : SegName) → DeletedAreAway s → DeletedAreAway (on_delete s gone)
deletion_away s gone away =
    λ name m. held-without gone s.held name ∙ deleted_away s gone name away (same_name gone name) refl (sym (is_marked-with s.marks gone name) ∙ m)

away_after_call : (s : ShelfState) (c : Call) → DeletedAreAway s → DeletedAreAway (after_call s c)
away_after_call s (Store new generation) away =
    by_test DeletedAreAway (is_none (refusal s new.meta.name generation)) (shelf_store s new) s
    (λ e. kept_away s new (not_marked (not (nat_eq generation s.generation)) (is_marked s.marks new.meta.name) (WrongGeneration s.generation) Marked _ e) away)
    (λ e. away)
away_after_call s (Fence log pass) away =
    by_test DeletedAreAway (is_greater (pass_cmp pass (fence_of s.fences log))) (record s { fences = insert_entry log_cmp s.fences log pass }) s (λ e. away)
    (λ e. away)
away_after_call s (Delete gone) away = deletion_away s gone away
away_after_call s (Fill new) away = by_test DeletedAreAway (is_marked s.marks new.meta.name) s (shelf_store s new) (λ e. away) (λ e. kept_away s new e away)

pub deleted_stay_away : (s : ShelfState) (calls : List Call) → DeletedAreAway s → DeletedAreAway (after_calls s calls)
deleted_stay_away s [] away = away
deleted_stay_away s (c ∷ cs) away = deleted_stay_away (after_call s c) cs (away_after_call s c away)

pub nothing_marked : (s : ShelfState) → s.marks ≡ [] → DeletedAreAway s
nothing_marked s none name marked = contrary (sym (ap (λ marks. is_marked marks name) none) ∙ marked)
