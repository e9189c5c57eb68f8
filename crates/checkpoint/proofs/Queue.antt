-- What is given out of a queue, one page after the other.
use Rattle.std.proofs.Common.{◌≡◌, ℕ, suc, ◌+◌, ◌-◌, ◌<◌, List, [], ◌∷◌, ◌++◌, take, drop, refl, sym, ap, ◌∙◌, append_assoc, arith}
use Rattle.std.proofs.Math.Seq.{take-nil, drop-nil}
use Rattle.segment_format.specs.declared.segment.Item.{Item}
use Rattle.checkpoint.specs.WriterState.{Rows, WorkState, items_of}

-- the first page, and then so many
first_then : (m slot : ℕ) (left : List Rows) → items_of slot (take 1 left) ++ items_of slot (take m (drop 1 left)) ≡ items_of slot (take (suc m) left)
first_then m slot [] = ap (items_of slot) (take-nil m)
first_then m slot (page ∷ left) = refl

rest_then : (m : ℕ) (left : List Rows) → drop m (drop 1 left) ≡ drop (suc m) left
rest_then m [] = drop-nil m
rest_then m (page ∷ left) = refl

-- the items so far and those to come, once a page is given out
items_more : (slot k : ℕ) (items next : List Item) (left rest : List Rows) (all : List Item) → k < 24 → next ≡ items ++ items_of slot (take 1 left)
    → rest ≡ drop 1 left
    → items ++ items_of slot (take (24 - k) left) ≡ all → next ++ items_of slot (take (24 - (k + 1)) rest) ≡ all
items_more slot k items next left rest all few fact gone before =
    let one : 24 - k ≡ suc (24 - (k + 1)) = omega arith in
    ap (λ n. n ++ items_of slot (take (24 - (k + 1)) rest)) fact
    ∙ append_assoc items (items_of slot (take 1 left)) (items_of slot (take (24 - (k + 1)) rest))
    ∙ ap (λ r. items ++ (items_of slot (take 1 left) ++ items_of slot (take (24 - (k + 1)) r))) gone
    ∙ ap (λ r. items ++ r) (first_then (24 - (k + 1)) slot left)
    ∙ ap (λ n. items ++ items_of slot (take n left)) (sym one) ∙ before

left_more : (k : ℕ) (left rest all : List Rows) → k < 24 → rest ≡ drop 1 left → drop (24 - k) left ≡ all → drop (24 - (k + 1)) rest ≡ all
left_more k left rest all few gone before =
    let one : 24 - k ≡ suc (24 - (k + 1)) = omega arith in
    ap (drop (24 - (k + 1))) gone ∙ rest_then (24 - (k + 1)) left ∙ ap (λ n. drop n left) (sym one) ∙ before

-- the same of a checkpoint that gives its first page out
module _ (k : ℕ) (few : k < 24) (w next : WorkState) (fact : next ≡ record w { left = drop 1 w.left }) where
  pub items_next : (items more all : List Item) → more ≡ items ++ items_of w.slot (take 1 w.left) → items ++ items_of w.slot (take (24 - k) w.left) ≡ all
      → more ++ items_of next.slot (take (24 - (k + 1)) next.left) ≡ all
  items_next items more all given before =
      ap (λ (v : WorkState). more ++ items_of v.slot (take (24 - (k + 1)) v.left)) fact
      ∙ items_more w.slot k items more w.left (drop 1 w.left) all few given refl before

  pub left_next : (all : List Rows) → drop (24 - k) w.left ≡ all → drop (24 - (k + 1)) next.left ≡ all
  left_next all before = ap (λ (v : WorkState). drop (24 - (k + 1)) v.left) fact ∙ left_more k w.left (drop 1 w.left) all few refl before

  pub same_next : (first : WorkState) → w ≡ record first { left = w.left } → next ≡ record first { left = next.left }
  same_next first before =
      fact ∙ ap (λ (v : WorkState). record v { left = drop 1 w.left }) before ∙ sym (ap (λ (v : WorkState). record first { left = v.left }) fact)
