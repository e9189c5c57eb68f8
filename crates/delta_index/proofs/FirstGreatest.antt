-- The join of a list is its first greatest entry above version 0 and hop 0, and nothing else is.
use Rattle.std.proofs.Common.{◌≡◌, true, false, cond, List, [], ◌∷◌, ◌++◌, refl, sym, ap, ◌∙◌, subst, inl, inr, append_assoc, append-nil}
use Rattle.std.specs.Prelude.{IsTrue, IsFalse, All}
use Rattle.std.specs.List.{fold}
use Rattle.std.proofs.lemmas.List.Sums.{fold-append}
use Rattle.std.proofs.lemmas.List.Elements.{All-nil, All-head, All-tail, All-push, All-append, All-cons, All-weaker, All-same}
use Rattle.xfs_base.specs.declared.entry.Entry.{Entry}
use Rattle.delta_index.specs.Entries.{no_entry, is_newer, first_greatest}
use Rattle.delta_index.specs.Join.{IsJoin}
use Rattle.delta_index.proofs.EntryAlgebra.{is_newer-asym, newer_than_no_newer, newer_than_none, not_newer_itself, first_greatest-newer, first_greatest-not_newer}

-- no entry of a list is above its join
not_above : (es : List Entry) (a : Entry) → IsJoin es a → All (λ e. IsFalse (is_newer e a)) es
not_above es a (inl f) =
    All-same (λ e. IsFalse (is_newer e a)) es (f.before ++ a ∷ f.later) f.stands
    (All-append (λ e. IsFalse (is_newer e a)) f.before (a ∷ f.later)
    (All-weaker (λ e. IsTrue (is_newer a e)) (λ e. IsFalse (is_newer e a)) (λ e p. is_newer-asym e a p) f.before f.above)
    (All-cons (λ e. IsFalse (is_newer e a)) a f.later (not_newer_itself a) f.unbeaten))
not_above es a (inr n) = subst (λ x. All (λ e. IsFalse (is_newer e x)) es) (sym n.0) n.1

-- one more entry, above the join
push_above : (es : List Entry) (a e : Entry) → is_newer e a ≡ true → IsJoin es a → IsJoin (es ++ e ∷ []) e
push_above es a e p j = inl record {
  before = es;
  later = [];
  stands = refl;
  held = newer_than_none a e p;
  above = All-weaker (λ x. IsFalse (is_newer x a)) (λ x. IsTrue (is_newer e x)) (λ x q. newer_than_no_newer a x e q p) es (not_above es a j);
  unbeaten = All-nil (λ x. IsFalse (is_newer x e));
}

-- one more entry, not above it
push_below : (es : List Entry) (a e : Entry) → is_newer e a ≡ false → IsJoin es a → IsJoin (es ++ e ∷ []) a
push_below es a e p (inl f) = inl record {
  before = f.before;
  later = f.later ++ e ∷ [];
  stands = ap (λ xs. xs ++ e ∷ []) f.stands ∙ append_assoc f.before (a ∷ f.later) (e ∷ []);
  held = f.held;
  above = f.above;
  unbeaten = All-push (λ x. IsFalse (is_newer x a)) f.later e f.unbeaten p;
}
push_below es a e p (inr n) = inr (n.0, All-push (λ x. IsFalse (is_newer x no_entry)) es e n.1 (subst (λ x. is_newer e x ≡ false) n.0 p))

join_push : (es : List Entry) (a e : Entry) → IsJoin es a → IsJoin (es ++ e ∷ []) (first_greatest a e)
join_push es a e j =
    elim (is_newer e a) as (λ t. is_newer e a ≡ t → IsJoin (es ++ e ∷ []) (cond t e a)) [
      | true ↦ λ p. push_above es a e p j
      | false ↦ λ p. push_below es a e p j
    ] refl

join_more : (done es : List Entry) (a : Entry) → IsJoin done a → IsJoin (done ++ es) (fold first_greatest a es)
join_more done [] a j = subst (λ xs. IsJoin xs a) (sym (append-nil done)) j
join_more done (e ∷ es) a j =
    subst (λ xs. IsJoin xs (fold first_greatest (first_greatest a e) es)) (append_assoc done (e ∷ []) es)
    (join_more (done ++ e ∷ []) es (first_greatest a e) (join_push done a e j))

pub IsJoin-fold : (es : List Entry) → IsJoin es (fold first_greatest no_entry es)
IsJoin-fold es = join_more [] es no_entry (inr (refl, All-nil (λ e. IsFalse (is_newer e no_entry))))

-- entries that are not above a change nothing
fold_stays : (a : Entry) (es : List Entry) → All (λ e. IsFalse (is_newer e a)) es → fold first_greatest a es ≡ a
fold_stays a [] h = refl
fold_stays a (e ∷ es) h =
    ap (λ x. fold first_greatest x es) (first_greatest-not_newer a e (All-head (λ x. IsFalse (is_newer x a)) e es h))
    ∙ fold_stays a es (All-tail (λ x. IsFalse (is_newer x a)) e es h)

-- what is above each entry is above their first greatest
fold_below : (b a : Entry) (es : List Entry) → is_newer b a ≡ true → All (λ e. IsTrue (is_newer b e)) es → is_newer b (fold first_greatest a es) ≡ true
fold_below b a [] p h = p
fold_below b a (e ∷ es) p h =
    fold_below b (first_greatest a e) es
    (elim (is_newer e a) as (λ t. is_newer b (cond t e a) ≡ true) [ true ↦ All-head (λ x. IsTrue (is_newer b x)) e es h | false ↦ p ])
    (All-tail (λ x. IsTrue (is_newer b x)) e es h)

pub fold-IsJoin : (es : List Entry) (found : Entry) → IsJoin es found → found ≡ fold first_greatest no_entry es
fold-IsJoin es found (inl f) =
    sym (ap (fold first_greatest no_entry) f.stands ∙ fold-append first_greatest no_entry f.before (found ∷ f.later)
    ∙ ap (λ x. fold first_greatest x f.later)
    (first_greatest-newer (fold first_greatest no_entry f.before) found (fold_below found no_entry f.before f.held f.above))
    ∙ fold_stays found f.later f.unbeaten)
fold-IsJoin es found (inr n) = n.0 ∙ sym (fold_stays no_entry es n.1)
