-- Two lists combined place by place, as a loop does it that goes up: what is done, then what is
-- left. Of any operation on two bytes.
use Rattle.std.proofs.Common.{◌≡◌, ℕ, ◌+◌, ◌≤◌, List, [], ◌∷◌, ◌++◌, length, take, drop, zero, suc, refl, ap, ap₂, sym, ◌∙◌, arith, append_assoc}
use Rattle.std.proofs.lemmas.List.{drop-drop}
use Rattle.std.proofs.lemmas.Simd.{take_more_put_chunk, length-zip2, length-chunk}
use lib.Lanes.{zip2, put_chunk, chunk}

drop_put : (i : ℕ) (xs zs : List ℕ) → drop (length zs) (drop i (put_chunk i xs zs)) ≡ drop (length zs) (drop i xs)
drop_put zero [] zs = refl
drop_put (suc i) [] zs = refl
drop_put zero (x ∷ xs) [] = refl
drop_put zero (x ∷ xs) (z ∷ zs) = drop_put zero xs zs
drop_put (suc i) (x ∷ xs) zs = drop_put i xs zs

module _ (f : ℕ → ℕ → ℕ) where
  -- combining again with an operation that undoes itself gives the first list back
  pub zip2_undone : ((a b : ℕ) → f (f a b) b ≡ a) → (xs ys : List ℕ) → length xs ≡ length ys → zip2 f (zip2 f xs ys) ys ≡ xs
  zip2_undone undone [] ys _ = refl
  zip2_undone undone (x ∷ xs) [] long = absurd (omega arith)
  zip2_undone undone (x ∷ xs) (y ∷ ys) long = ap₂ (λ (z : ℕ) (zs : List ℕ). z ∷ zs) (undone x y) (zip2_undone undone xs ys (omega arith))

  zip2_none : (xs : List ℕ) → zip2 f xs [] ≡ []
  zip2_none [] = refl
  zip2_none (x ∷ xs) = refl

  zip2-split : (n : ℕ) (xs ys : List ℕ) → zip2 f xs ys ≡ zip2 f (take n xs) (take n ys) ++ zip2 f (drop n xs) (drop n ys)
  zip2-split zero xs ys = refl
  zip2-split (suc n) [] ys = refl
  zip2-split (suc n) (x ∷ xs) [] = sym (zip2_none (drop n xs))
  zip2-split (suc n) (x ∷ xs) (y ∷ ys) = ap (λ (zs : List ℕ). f x y ∷ zs) (zip2-split n xs ys)

  -- the n bytes of one vector more are done
  pub chunk_more : (xs ys : List ℕ) (i n : ℕ) → i + n ≤ length xs → length xs ≡ length ys
      → let now = put_chunk i xs (zip2 f (chunk i n xs) (chunk i n ys)) in
      take (i + n) now ++ zip2 f (drop (i + n) now) (drop (i + n) ys) ≡ take i xs ++ zip2 f (drop i xs) (drop i ys)
  chunk_more xs ys i n room long =
      let done = zip2 f (chunk i n xs) (chunk i n ys) in
      let now = put_chunk i xs done in
      let count : length done ≡ n =
      length-zip2 f (chunk i n xs) (chunk i n ys) (length-chunk i n xs room ∙ sym (length-chunk i n ys (omega arith))) ∙ length-chunk i n xs room in
      let front : take (i + n) now ≡ take i xs ++ done = take_more_put_chunk i xs done (i + n) (omega arith) room in
      let back : drop (i + n) now ≡ drop n (drop i xs) =
      sym (drop-drop n i now) ∙ ap (λ (k : ℕ). drop k (drop i now)) (sym count) ∙ drop_put i xs done ∙ ap (λ (k : ℕ). drop k (drop i xs)) count in
      let rest : drop (i + n) ys ≡ drop n (drop i ys) = sym (drop-drop n i ys) in
      ap₂ (λ (a b : List ℕ). a ++ b) front (ap₂ (zip2 f) back rest) ∙ append_assoc (take i xs) done _
      ∙ ap (λ (zs : List ℕ). take i xs ++ zs) (sym (zip2-split n (drop i xs) (drop i ys)))
