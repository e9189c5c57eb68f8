-- The ends that were made are those of the cells.
use Rattle.std.proofs.Common.{◌≡◌, refl, sym, ap, subst, ◌∙◌, ℕ, suc, ◌+◌, List, [], ◌∷◌, ◌++◌, length, Some, inl, inr, length-append, arith}
use Rattle.std.specs.Prelude.{slice_get, reverse, All}
use Rattle.std.proofs.lemmas.List.{length-reverse}
use mathlib.Core.List.{reverse-cons}
use Rattle.std.proofs.lemmas.List.Elements.{All-head, All-push, All-same, All-tail}
use Rattle.journals.proofs.Gets.{get_end, get_front, get_snoc}
use Rattle.live_links.specs.Ends.{In, IsInsOf, IsOutsOf, IsUnused, Out}
use Rattle.live_links.specs.Made.{AreLinks}
use Rattle.live_links.proofs.Each.{same_out}
use Rattle.live_run.specs.Live.{IsFront}

module _ (n : ℕ) (outs rings : List (List Out)) (ins : List (List In)) (l : AreLinks n n outs ins) (are : outs ≡ rings) where
  pub outs_of : (p : ℕ) (row : List Out) → slice_get outs p ≡ Some row → IsOutsOf rings p row
  outs_of p row at =
      subst (λ r. IsOutsOf r p row) are (record {
        count = (l.rows p row at).0 ∙ sym l.outs_count;
        named = λ q o got. (o, (row, at, got), same_out o);
      })

  pub ins_of : (q : ℕ) (ends : List In) → slice_get ins q ≡ Some ends → IsInsOf rings q ends
  ins_of q ends at =
      subst (λ r. IsInsOf r q ends) are (record {
        count = l.ends q ends at ∙ sym l.outs_count;
        named = λ p c got. let m = l.pairs q ends p c at got in (m.1, (m.0, m.2, m.3), m.4);
      })

  pub unused_of : (p : ℕ) (row : List Out) → slice_get outs p ≡ Some row → IsUnused row
  unused_of p row at = (l.rows p row at).1

-- what is left stands where it stood
pub front_less : {X : Type 0} (xs less all : List X) (y : X) → IsFront xs all → xs ≡ less ++ y ∷ [] → IsFront less all
front_less {X} xs less all y f is k x at = f k x (subst (λ (ys : List X). slice_get ys k ≡ Some x) (sym is) (get_front less y x k at))

pub front_last : {X : Type 0} (xs less all : List X) (y : X) → IsFront xs all → xs ≡ less ++ y ∷ [] → slice_get all (length less) ≡ Some y
front_last {X} xs less all y f is = f (length less) y (subst (λ (ys : List X). slice_get ys (length less) ≡ Some y) (sym is) (get_end less y (length less) refl))

pub one_less : {X : Type 0} (xs less : List X) (y : X) → xs ≡ less ++ y ∷ [] → length xs ≡ length less + 1
one_less {X} xs less y is = ap (λ (ys : List X). length ys) is ∙ length-append less (y ∷ [])

-- what holds of all holds of all in the other order
pub All-reverse : {X : Type 0} (P : X → Type 0) (xs : List X) → All P xs → All P (reverse xs)
All-reverse P [] h = h
All-reverse P (x ∷ xs) h =
    All-same P (reverse (x ∷ xs)) (reverse xs ++ x ∷ []) (reverse-cons x xs) (All-push P (reverse xs) x (All-reverse P xs (All-tail P x xs h)) (All-head P x xs h))

-- what stands at a place stood at that place from the end
pub get_reverse : {X : Type 0} (xs : List X) (p : ℕ) (x : X) → slice_get (reverse xs) p ≡ Some x → (k : ℕ) × (k + p + 1 ≡ length xs) × (slice_get xs k ≡ Some x)
get_reverse {X} [] p x got = absurd (cc)
get_reverse {X} (y ∷ xs) p x got =
    elim (get_snoc (reverse xs) y x p (subst (λ (ys : List X). slice_get ys p ≡ Some x) (reverse-cons y xs) got)) [
      | inl before ↦ let there = get_reverse xs p x before in let place = there.1 in (suc there.0, omega arith, there.2)
      | inr last ↦ let place = last.0 in let count = length-reverse xs in (0, omega arith, ap Some last.1)
    ]
