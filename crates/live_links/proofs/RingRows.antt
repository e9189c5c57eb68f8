-- The rings are made row by row.
use Rattle.std.proofs.Common.{◌≡◌, refl, sym, ap, subst, ◌∙◌, ℕ, zero, suc, ◌+◌, ◌<◌, ◌≤◌, List, [], ◌∷◌, ◌++◌, length, Some, inl, inr, arith, length-append}
use Rattle.std.specs.Prelude.{slice_get, slice_set, replicate}
use Rattle.std.proofs.lemmas.Option.{same_Some, slice_get_within}
use Rattle.rtrb.specs.Ring.{IsPair, sent}
use Rattle.journals.proofs.Gets.{get_end, get_front, get_snoc, has, one_there, set_cases, set_length}
use Rattle.live_links.specs.Ends.{In, IsUnused, Out}
use Rattle.live_links.specs.Made.{AreLinks, IsRowMade}

pub replicate_more : {X : Type 0} (n : ℕ) (x : X) → replicate n x ++ x ∷ [] ≡ replicate (n + 1) x
replicate_more zero x = refl
replicate_more (suc n) x =
    let e : suc (n + 1) ≡ suc n + 1 = omega arith in
    ap (λ xs. x ∷ xs) (replicate_more n x) ∙ ap (λ k. replicate k x) e

replicate_count : {X : Type 0} (n : ℕ) (x : X) → length (replicate n x) ≡ n
replicate_count zero x = refl
replicate_count (suc n) x = ap suc (replicate_count n x)

replicate_at : {X : Type 0} (n k : ℕ) (x y : X) → slice_get (replicate n x) k ≡ Some y → y ≡ x
replicate_at zero k x y at = absurd (cc)
replicate_at (suc n) zero x y at = sym (same_Some x y at)
replicate_at (suc n) (suc k) x y at = replicate_at n k x y at

-- one of the ends of a node is new
abbrev pub OneMore : ℕ → List Out → List In → List In → Type 0
OneMore q row a b = (c : In) × (o : Out) × (b ≡ a ++ c ∷ []) × (slice_get row q ≡ Some o) × IsPair o c

-- a row that is made as far as here
pub record RowSo (old : List (List In)) (row : List Out) (now : List (List In)) (to : ℕ) : Type 0 where
  pub count : length now ≡ length old
  pub row_count : length row ≡ to
  pub unused : IsUnused row
  pub made : (q : ℕ) (a b : List In) → slice_get old q ≡ Some a → slice_get now q ≡ Some b → q < to → OneMore q row a b
  pub left : (q : ℕ) (a b : List In) → slice_get old q ≡ Some a → slice_get now q ≡ Some b → to ≤ q → b ≡ a

pub row_none : (old : List (List In)) (row : List Out) → row ≡ [] → RowSo old row old 0
row_none old row is = record {
  count = refl;
  row_count = ap length is;
  unused = λ q o at. absurd (let e = ap (λ (r : List Out). length r) is in let h = slice_get_within row q o at in omega arith);
  made = λ q a b x y lt. absurd (omega arith);
  left = λ q a b x y le. one_there old q b a y x;
}

pub row_more : (old now : List (List In)) (row new : List Out) (to : ℕ) (x y : List In) (o : Out) (c : In) → RowSo old row now to → slice_get now to ≡ Some x → IsPair o c → sent o ≡ []
    → new ≡ row ++ o ∷ [] → y ≡ x ++ c ∷ [] → RowSo old new (slice_set now to y) (to + 1)
row_more old now row new to x y o c r at pair empty is_new is_y = record {
  count = set_length now to y ∙ r.count;
  row_count = ap length is_new ∙ (let h = r.row_count in omega (arith, length-append row (o ∷ [])));
  unused = λ q end got. elim (get_snoc row o end q (subst (λ es. slice_get es q ≡ Some end) is_new got)) [
    | inl before ↦ r.unused q end before
    | inr now' ↦ ap sent (sym now'.1) ∙ empty
  ];
  made = λ q a b at_a at_b lt. elim (set_cases now to q y b at_b) [
    | inl here ↦
        let same : x ≡ a = r.left to a x (subst (λ (k : ℕ). slice_get old k ≡ Some a) here.0 at_a) at (omega arith) in
        let q_is : q ≡ length row = here.0 ∙ sym r.row_count in
        (c, o, here.1 ∙ is_y ∙ ap (λ es. es ++ c ∷ []) same, subst (λ es. slice_get es q ≡ Some o) (sym is_new) (get_end row o q q_is), pair)
    | inr there ↦
        let apart = there.0 in
        let m = r.made q a b at_a there.1 (omega arith) in
        (m.0, m.1, m.2, subst (λ es. slice_get es q ≡ Some m.1) (sym is_new) (get_front row o m.1 q m.3), m.4)
  ];
  left = λ q a b at_a at_b le. elim (set_cases now to q y b at_b) [
    | inl here ↦ absurd (let e = here.0 in omega arith)
    | inr there ↦ r.left q a b at_a there.1 (omega arith)
  ];
}

pub row_made : (old now : List (List In)) (row : List Out) (to : ℕ) → RowSo old row now to → to ≡ length old → IsRowMade old row now
row_made old now row to r is = record {
  count = r.count;
  row_count = r.row_count ∙ is;
  unused = r.unused;
  ends = λ q a b at_a at_b. let h = slice_get_within old q a at_a in r.made q a b at_a at_b (omega arith);
}

pub no_links : (count : ℕ) (ins : List (List In)) → ins ≡ replicate count [] → AreLinks 0 count [] ins
no_links count ins is = record {
  outs_count = refl;
  ins_count = ap length is ∙ replicate_count count [];
  rows = λ p row at. absurd (cc);
  ends = λ q ends at. ap length (replicate_at count q [] ends (subst (λ es. slice_get es q ≡ Some ends) is at));
  pairs = λ q ends p c at at_c.
      absurd (let e = ap (λ (es : List In). length es) (replicate_at count q [] ends (subst (λ es. slice_get es q ≡ Some ends) is at)) in let h = slice_get_within ends p c at_c in omega arith);
}

pub links_more : (made count : ℕ) (outs new : List (List Out)) (ins now : List (List In)) (row : List Out) → AreLinks made count outs ins → IsRowMade ins row now → new ≡ outs ++ row ∷ []
    → AreLinks (made + 1) count new now
links_more made count outs new ins now row l m is = record {
  outs_count = ap length is ∙ (let h = l.outs_count in omega (arith, length-append outs (row ∷ [])));
  ins_count = m.count ∙ l.ins_count;
  rows = λ p r at. elim (get_snoc outs row r p (subst (λ rs. slice_get rs p ≡ Some r) is at)) [
    | inl before ↦ l.rows p r before
    | inr now' ↦ (ap length (sym now'.1) ∙ m.row_count ∙ l.ins_count, subst IsUnused now'.1 m.unused)
  ];
  ends = λ q b at.
      let len = m.count in
      let here = slice_get_within now q b at in
      let a = has ins q (omega arith) in
      let one = m.ends q a.0 b a.1 at in
      let old = l.ends q a.0 a.1 in
      ap length one.2 ∙ (omega (arith, length-append a.0 (one.0 ∷ [])));
  pairs = λ q b p c at at_c.
      let len = m.count in
      let here = slice_get_within now q b at in
      let a = has ins q (omega arith) in
      let one = m.ends q a.0 b a.1 at in
      elim (get_snoc a.0 one.0 c p (subst (λ es. slice_get es p ≡ Some c) one.2 at_c)) [
        | inl before ↦
            let old = l.pairs q a.0 p c a.1 before in
            (old.0, old.1, subst (λ rs. slice_get rs p ≡ Some old.0) (sym is) (get_front outs row old.0 p old.2), old.3, old.4)
        | inr end ↦
            let p_is : p ≡ length outs = end.0 ∙ l.ends q a.0 a.1 ∙ sym l.outs_count in
            (row, one.1, subst (λ rs. slice_get rs p ≡ Some row) (sym is) (get_end outs row p p_is), one.3, subst (λ d. IsPair one.1 d) end.1 one.4)
      ];
}
