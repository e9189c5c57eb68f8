-- How a shelf is seen after one more fragment, after a deletion, after the loss of its disk.
use Rattle.std.proofs.Common.{◌≡◌, ℕ, suc, ◌==◌, Bool, true, false, cond, not, ◌||◌, if◌then◌else◌, is_some, min, List, [], ◌∷◌, filter, Option, Some, None, refl, sym, ap, subst, ◌∙◌, ◌<◌, ◌+◌, arith}
use Rattle.std.proofs.lemmas.Bool.Decides.{nat_tests}
use Rattle.std.proofs.lemmas.Bool.{eqb-true}
use Rattle.xfs_base.specs.declared.fragment.Fragment.{Fragment}
use Rattle.xfs_base.specs.declared.segment.SegName.{SegName}
use Rattle.xfs_base.specs.Limits.{u32_end}
use Rattle.xfs_base.specs.Segments.{seg_cmp}
use Rattle.xfs_base.specs.Stamps.{is_greater}
use Rattle.xfs_base.proofs.Booleans.{contrary, equal_itself}
use Rattle.segment_format.specs.declared.segment.Segment.{Segment}
use Rattle.fragment_store.specs.ShelfState.{ShelfState, same_name, held_at, is_held, is_marked}
use Rattle.fragment_store.specs.Calls.{with_fragment, on_delete, on_lose}
use Rattle.xfs_base.proofs.SegmentNames.{one_name, same_itself}
use Rattle.fragment_store.proofs.Tables.{held-with, held-without, is_marked-with}
use Rattle.log_tie.specs.Setting.{Setting, name_of, fragment_of}
use Rattle.log_tie.specs.Shelves.{Kept, IsPiece, AllPieces, Shelved, flag, is_of_log}
use Rattle.log_tie.proofs.Names.{one_number}

pub none_held : (o : Option Fragment) → is_some o ≡ false → o ≡ None
none_held None e = refl
none_held (Some f) e = contrary (sym e)

pub pieces_with : (g : Setting) (book : ℕ → Segment) (booked : ℕ → ℕ) (f : Fragment) (fs : List Fragment)
    → (is_of_log g f.meta.name ≡ true → IsPiece g book booked f) → AllPieces g book booked fs → AllPieces g book booked (with_fragment f fs)
pieces_with g book booked f [] k all = (k, tt)
pieces_with g book booked f (h ∷ hs) k all = by (is_greater (seg_cmp f.meta.name h.meta.name)) (pieces_with g book booked f hs k all.1)
  where
    by : (t : Bool) → AllPieces g book booked (with_fragment f hs) → AllPieces g book booked (cond t (h ∷ with_fragment f hs) (f ∷ h ∷ hs))
    by true more = (all.0, more)
    by false more = (k, all)

pieces_without : (g : Setting) (book : ℕ → Segment) (booked : ℕ → ℕ) (name : SegName) (fs : List Fragment) → AllPieces g book booked fs
    → AllPieces g book booked (filter (λ f. not (same_name name f.meta.name)) fs)
pieces_without g book booked name [] all = tt
pieces_without g book booked name (h ∷ hs) all = by (same_name name h.meta.name) (pieces_without g book booked name hs all.1)
  where
    by : (t : Bool) → AllPieces g book booked (filter (λ f. not (same_name name f.meta.name)) hs)
        → AllPieces g book booked (cond (not t) (h ∷ filter (λ f. not (same_name name f.meta.name)) hs) (filter (λ f. not (same_name name f.meta.name)) hs))
    by true more = more
    by false more = (all.0, more)

module _ (g : Setting) where
  -- whether two numbers are one is whether their names are
  pub number_test : (x y : ℕ) → same_name (name_of g x) (name_of g y) ≡ (x == y)
  number_test x y = by (x == y) (same_name (name_of g x) (name_of g y)) refl refl
    where
      by : (s t : Bool) → (x == y) ≡ s → same_name (name_of g x) (name_of g y) ≡ t → t ≡ s
      by true true e f = refl
      by false false e f = refl
      by true false e f = contrary (sym f ∙ (ap (λ z. same_name (name_of g x) (name_of g z)) (sym (eqb-true x y e)) ∙ same_itself (name_of g x)))
      by false true e f = contrary (sym e ∙ (ap (λ z. x == z) (sym (one_number g x y (one_name (name_of g x) (name_of g y) f))) ∙ equal_itself x))

module _ (g : Setting) (book : ℕ → Segment) (booked : ℕ → ℕ) (generation : ℕ) (holds index marked : ℕ → ℕ) (s : ShelfState)
    (h : Shelved g book booked generation holds index marked s) where
  -- a fragment is kept of a name that the shelf hadn't
  pub shelf_with : (f : Fragment) (x i : ℕ) → is_held s f.meta.name ≡ false → f.meta.name ≡ name_of g x → booked x ≡ 1 → f ≡ fragment_of g (book x) i
      → Shelved g book booked generation (λ y. if y == x then 1 else holds y) (λ y. if y == x then i else index y) marked
      (record s { held = with_fragment f s.held })
  shelf_with f x i absent named known fact =
      record { of = h.of; keeps = keeps; each = pieces_with g book booked f s.held (λ own. (x, i, known, fact)) h.each; marks = h.marks }
    where
      keeps : (y : ℕ)
          → Kept g (book y) (held_at (with_fragment f s.held) (name_of g y)) (booked y) (if y == x then 1 else holds y) (if y == x then i else index y)
      keeps y = subst (λ o. Kept g (book y) o (booked y) (if y == x then 1 else holds y) (if y == x then i else index y))
          (sym (held-with f s.held (name_of g y) (none_held _ absent)
          ∙ ap (λ t. cond t (Some f) (held_at s.held (name_of g y))) (ap (same_name (name_of g y)) named ∙ number_test g y x)))
          (by (y == x) refl)
        where
          by : (t : Bool) → (y == x) ≡ t → Kept g (book y) (cond t (Some f) (held_at s.held (name_of g y))) (booked y) (cond t 1 (holds y)) (cond t i (index y))
          by true a = let same = eqb-true y x a in (refl, ap booked same ∙ known, fact ∙ ap (λ z. fragment_of g (book z) i) (sym same))
          by false a = h.keeps y

  -- a fragment of another log is kept
  pub shelf_foreign : (f : Fragment) → is_held s f.meta.name ≡ false → is_of_log g f.meta.name ≡ false
      → Shelved g book booked generation holds index marked (record s { held = with_fragment f s.held })
  shelf_foreign f absent other = record {
    of = h.of;
    keeps = λ y. subst (λ o. Kept g (book y) o (booked y) (holds y) (index y))
        (sym (held-with f s.held (name_of g y) (none_held _ absent)
        ∙ ap (λ t. cond t (Some f) (held_at s.held (name_of g y))) (differs y (same_name (name_of g y) f.meta.name) refl))) (h.keeps y);
    each = pieces_with g book booked f s.held (λ own. contrary (sym other ∙ own)) h.each;
    marks = h.marks;
  }
    where
      differs : (y : ℕ) (t : Bool) → same_name (name_of g y) f.meta.name ≡ t → t ≡ false
      differs y true e = contrary (sym other ∙ (ap (λ (z : SegName). is_of_log g z) (sym (one_name (name_of g y) f.meta.name e)) ∙ equal_itself g.log.0))
      differs y false e = refl

  -- a name is deleted
  pub shelf_without : (name : SegName) (x : ℕ) → name ≡ name_of g x
      → Shelved g book booked generation (λ y. if y == x then 0 else holds y) index (λ y. if y == x then 1 else marked y) (on_delete s name)
  shelf_without name x named = record { of = h.of; keeps = keeps; each = pieces_without g book booked name s.held h.each; marks = marks }
    where
      keeps : (y : ℕ) → Kept g (book y) (held_at (on_delete s name).held (name_of g y)) (booked y) (if y == x then 0 else holds y) (index y)
      keeps y = subst (λ o. Kept g (book y) o (booked y) (if y == x then 0 else holds y) (index y))
          (sym (held-without name s.held (name_of g y)
          ∙ ap (λ t. cond t None (held_at s.held (name_of g y))) (ap (λ n. same_name n (name_of g y)) named ∙ number_test g x y)))
          (by (x == y) (y == x) refl refl)
        where
          by : (t u : Bool) → (x == y) ≡ t → (y == x) ≡ u
              → Kept g (book y) (cond t None (held_at s.held (name_of g y))) (booked y) (cond u 0 (holds y)) (index y)
          by true true a b = refl
          by false false a b = h.keeps y
          by true false a b = contrary (sym b ∙ (ap (λ z. y == z) (eqb-true x y a) ∙ equal_itself y))
          by false true a b = contrary (sym a ∙ (ap (λ z. x == z) (eqb-true y x b) ∙ equal_itself x))

      marks : (y : ℕ) → (if y == x then 1 else marked y) ≡ flag (is_marked (on_delete s name).marks (name_of g y))
      marks y = by (y == x) (h.marks y) ∙ ap (λ t. flag (t || is_marked s.marks (name_of g y))) (sym (ap (same_name (name_of g y)) named ∙ number_test g y x))
          ∙ ap flag (sym (is_marked-with s.marks name (name_of g y)))
        where
          by : (t : Bool) → marked y ≡ flag (is_marked s.marks (name_of g y)) → cond t 1 (marked y) ≡ flag (t || is_marked s.marks (name_of g y))
          by true k = refl
          by false k = k

  -- a name of another log is deleted
  pub shelf_without_foreign : (name : SegName) → is_of_log g name ≡ false → Shelved g book booked generation holds index marked (on_delete s name)
  shelf_without_foreign name other = record {
    of = h.of;
    keeps = λ y. subst (λ o. Kept g (book y) o (booked y) (holds y) (index y))
        (sym (held-without name s.held (name_of g y) ∙ ap (λ t. cond t None (held_at s.held (name_of g y))) (differs y (same_name name (name_of g y)) refl)))
        (h.keeps y);
    each = pieces_without g book booked name s.held h.each;
    marks = λ y. h.marks y ∙ ap (λ t. flag (t || is_marked s.marks (name_of g y))) (sym (differs_back y (same_name (name_of g y) name) refl))
        ∙ ap flag (sym (is_marked-with s.marks name (name_of g y)));
  }
    where
      differs : (y : ℕ) (t : Bool) → same_name name (name_of g y) ≡ t → t ≡ false
      differs y true e = contrary (sym other ∙ (ap (λ (z : SegName). is_of_log g z) (one_name name (name_of g y) e) ∙ equal_itself g.log.0))
      differs y false e = refl

      differs_back : (y : ℕ) (t : Bool) → same_name (name_of g y) name ≡ t → same_name (name_of g y) name ≡ false
      differs_back y true e = contrary (sym other ∙ (ap (λ (z : SegName). is_of_log g z) (sym (one_name (name_of g y) name e)) ∙ equal_itself g.log.0))
      differs_back y false e = e

  -- the disk is lost, while there is a generation after this one
  pub shelf_lost : s.generation < u32_end → Shelved g book booked (suc generation) (λ y. 0) index (λ y. 0) (on_lose s)
  shelf_lost room = record { of = ap suc h.of ∙ next s.generation room; keeps = λ y. refl; each = tt; marks = λ y. refl }
    where
      next : (n : ℕ) → n < u32_end → suc n ≡ min (n + 1) u32_end
      next n room = grind (arith, nat_tests)

  -- what the shelf answers
  pub absent_there : (x : ℕ) → is_held s (name_of g x) ≡ false → holds x ≡ 0
  absent_there x e = subst (λ o. Kept g (book x) o (booked x) (holds x) (index x)) (none_held _ e) (h.keeps x)

  pub present_there : (x : ℕ) → is_held s (name_of g x) ≡ true → holds x ≡ 1
  present_there x e = by (held_at s.held (name_of g x)) (h.keeps x) e
    where
      by : (o : Option Fragment) → Kept g (book x) o (booked x) (holds x) (index x) → is_some o ≡ true → holds x ≡ 1
      by None k t = contrary t
      by (Some f) k t = k.0

  pub unmarked_there : (x : ℕ) → is_marked s.marks (name_of g x) ≡ false → marked x ≡ 0
  unmarked_there x e = h.marks x ∙ ap flag e
