-- What is handed over: items that are called in their order, and replies that are given in theirs.
use Rattle.std.proofs.Common.{◌≡◌, refl, sym, ap, subst, ◌∙◌, ℕ, suc, ◌+◌, ◌<◌, ◌≤◌, true, false, cond, nat_lt, List, [], ◌∷◌, ◌++◌, length, take, arith, append_assoc, append-nil, length-append, get_or}
use Rattle.std.proofs.lemmas.Bool.Decides.{nat_tests}
use Rattle.std.proofs.lemmas.List.{take_more}
use Rattle.std.proofs.lemmas.List.Elements.{filter_map-append}
use Rattle.version_model.specs.declared.act.Act.{Act}
use Rattle.mounts.specs.declared.reply.Reply.{Reply}
use Rattle.mounts.specs.Ports.{items_to}
use Rattle.mounts.specs.Replies.{replies_of, reply_in}

items_suc : (k n : ℕ) → n ≡ suc k → items_to n ≡ items_to k ++ n ∷ []
items_suc k n e = subst (λ j. items_to j ≡ items_to k ++ j ∷ []) (sym e) refl

-- nothing was called yet
pub items_none : (xs : List ℕ) → xs ≡ [] → xs ≡ items_to (length xs)
items_none xs none = subst (λ (ys : List ℕ). ys ≡ items_to (length ys)) (sym none) refl

-- the next item was called
pub items_more : (xs ys : List ℕ) (x : ℕ) → ys ≡ xs ++ x ∷ [] → x ≡ length xs + 1 → xs ≡ items_to (length xs) → ys ≡ items_to (length ys)
items_more xs ys x more is are =
    let count : length ys ≡ length xs + 1 = ap (λ (zs : List ℕ). length zs) more ∙ length-append xs (x ∷ []) in
    let next : length ys ≡ suc (length xs) = omega arith in
    let number : x ≡ length ys = is ∙ sym count in
    more ∙ ap (λ (zs : List ℕ). zs ++ x ∷ []) are ∙ ap (λ (n : ℕ). items_to (length xs) ++ n ∷ []) number ∙ sym (items_suc (length xs) (length ys) next)

-- an item is begun only where one is called that isn't begun
pub begun_within : (before called now : ℕ) → before ≤ called → now ≤ before + cond (nat_lt before called) 1 0 → now ≤ called
begun_within before called now le most =
    elim (nat_lt before called) as (λ t. nat_lt before called ≡ t → now ≤ before + cond t 1 0 → now ≤ called) [
      | true ↦ λ e m. let lt : before < called = grind (arith, nat_tests) in omega arith
      | false ↦ λ e m. omega arith
    ] refl most

-- what stood before stands at the front
pub take_before : {X : Type 0} (xs ys more : List X) (n : ℕ) → ys ≡ xs ++ more → n ≡ length xs → take n ys ≡ xs
take_before {X} xs ys more n is count = ap (take n) is ∙ ap (λ k. take k (xs ++ more)) count ∙ front xs
  where
    front : (zs : List X) → take (length zs) (zs ++ more) ≡ zs
    front [] = refl
    front (z ∷ zs) = ap (λ ws. z ∷ ws) (front zs)

pub within_more : {X : Type 0} (xs ys more : List X) (n : ℕ) → ys ≡ xs ++ more → n ≡ length xs → n ≤ length ys
within_more {X} xs ys more n is count = let e = ap (λ (zs : List X). length zs) is ∙ length-append xs more in omega arith

-- one reply more is given
pub given_more : (acts : List Act) (i : ℕ) (act : Act) (before now : List Reply) → i < length acts → act ≡ get_or acts i act → before ≡ replies_of (take i acts)
    → now ≡ before ++ replies_of (act ∷ []) → now ≡ replies_of (take (i + 1) acts)
given_more acts i act before now within at so_far is =
    is ∙ ap (λ (rs : List Reply). rs ++ replies_of (act ∷ [])) so_far
    ∙ ap (λ (a : Act). replies_of (take i acts) ++ replies_of (a ∷ [])) at
    ∙ sym (ap replies_of (take_more acts i act within) ∙ filter_map-append reply_in (take i acts) (get_or acts i act ∷ []))

nothing_more : {X : Type 0} (xs ys : List X) → length ys ≡ 0 → xs ++ ys ≡ xs
nothing_more xs [] e = append-nil xs
nothing_more xs (y ∷ ys) e = absurd (omega arith)

-- all that was given is taken where nothing is left
pub none_left : {X : Type 0} (received known sent : List X) (i count : ℕ) → received ++ known ≡ sent → length known + i ≡ count → count ≤ i → received ≡ sent
none_left received known sent i count all left past = sym (nothing_more received known (omega arith)) ∙ all

-- one more is taken of those that are known
pub one_taken : {X : Type 0} (before after known rest sent : List X) (x : X) → after ≡ before ++ x ∷ [] → known ≡ x ∷ rest → before ++ known ≡ sent → after ++ rest ≡ sent
one_taken before after known rest sent x is first all =
    ap (λ ys. ys ++ rest) is ∙ append_assoc before (x ∷ []) rest ∙ ap (λ ys. before ++ ys) (sym first) ∙ all
