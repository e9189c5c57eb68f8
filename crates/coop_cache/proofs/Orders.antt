-- The two orders of the same blocks: an LRU cache has the most recently used first, and what contracts see has it last.
use Rattle.std.proofs.Common.{◌≡◌, ℕ, zero, suc, ◌+◌, ◌-◌, ◌<◌, ◌≤◌, Bool, true, false, cond, ◌||◌, List, [], ◌∷◌, ◌++◌, length, take, drop, reverse, None, refl, sym, ap, subst, inl, inr, ◌∙◌, arith}
use Rattle.std.specs.Prelude.{not, filter, option_to_list}
use Rattle.std.specs.List.{list_any, slice_get, IsDistinct, AllByRecursion}
use Rattle.std.specs.Set.{remove_key}
use Rattle.std.proofs.lemmas.Bool.{true≢false, cases_lt}
use Rattle.std.proofs.lemmas.List.{append-nil, length-append, reverse-append, length-reverse, take_all, take-append-drop, length-drop, drop-append-le, take-append-le}
use Rattle.std.proofs.lemmas.List.Elements.{filter-append}
use Rattle.std.proofs.lemmas.List.Sorted.{IsPermutation-reverse, list_any-IsPermutation}
use Rattle.std.proofs.lemmas.Map.Keys.{IsDistinct-head, IsDistinct-tail}
use Rattle.std.proofs.lemmas.Map.Made.{length-remove_key}
use Rattle.std.proofs.Math.Seq.{drop-append_seam, take-nil}
use Rattle.xfs_base.specs.declared.block.BlockId.{BlockId}
use Rattle.xfs_base.specs.Blocks.{same_block}
use Rattle.xfs_base.proofs.BlockOrder.{same_block_exact}
use Rattle.coop_cache.specs.CacheState.{CacheState}
use Rattle.coop_cache.specs.Transition.{without, used_last, excess, touch}

-- a block that isn't there is taken from nothing
pub without-absent : (block : BlockId) (bs : List BlockId) → list_any (same_block block) bs ≡ false → without block bs ≡ bs
without-absent block [] h = refl
without-absent block (b ∷ bs) h =
    elim (same_block block b) as (λ t. (t || list_any (same_block block) bs) ≡ false → cond (not t) (b ∷ without block bs) (without block bs) ≡ b ∷ bs) [
      | true ↦ λ e. absurd (true≢false e)
      | false ↦ λ e. ap (λ r. b ∷ r) (without-absent block bs e)
    ] h

none_same : (block : BlockId) (bs : List BlockId) → AllByRecursion (λ y. same_block block y ≡ false) bs → list_any (same_block block) bs ≡ false
none_same block [] h = refl
none_same block (b ∷ bs) h = ap (λ t. t || list_any (same_block block) bs) h.0 ∙ none_same block bs h.1

-- where no block stands twice, it is enough to take out the first that is found
remove_key-without : (block : BlockId) (bs : List BlockId) → IsDistinct same_block bs → remove_key (same_block block) bs ≡ without block bs
remove_key-without block [] d = refl
remove_key-without block (b ∷ bs) d =
    elim (same_block block b) as
    (λ t. same_block block b ≡ t → cond t bs (b ∷ remove_key (same_block block) bs) ≡ cond (not t) (b ∷ without block bs) (without block bs)) [
      | true ↦ λ e. sym
          (without-absent block bs
          (subst (λ x. list_any (same_block x) bs ≡ false) (same_block_exact block b e) (none_same b bs (IsDistinct-head same_block b bs d))))
      | false ↦ λ e. ap (λ r. b ∷ r) (remove_key-without block bs (IsDistinct-tail same_block b bs d))
    ] refl

filter-reverse : (p : BlockId → Bool) (bs : List BlockId) → filter p (reverse bs) ≡ reverse (filter p bs)
filter-reverse p [] = refl
filter-reverse p (b ∷ bs) =
    ap (filter p) (reverse-append (b ∷ []) bs) ∙ filter-append p (reverse bs) (b ∷ []) ∙ ap (λ r. r ++ filter p (b ∷ [])) (filter-reverse p bs)
    ∙ elim (p b) as (λ t. reverse (filter p bs) ++ cond t (b ∷ []) [] ≡ reverse (cond t (b ∷ filter p bs) (filter p bs))) [
      | true ↦ sym (reverse-append (b ∷ []) (filter p bs))
      | false ↦ append-nil (reverse (filter p bs))
    ]

pub reverse-remove_key : (block : BlockId) (bs : List BlockId) → IsDistinct same_block bs
    → reverse (remove_key (same_block block) bs) ≡ without block (reverse bs)
reverse-remove_key block bs d = ap reverse (remove_key-without block bs d) ∙ sym (filter-reverse (λ b. not (same_block block b)) bs)

list_any-reverse : (p : BlockId → Bool) (bs : List BlockId) → list_any p (reverse bs) ≡ list_any p bs
list_any-reverse p bs = sym (list_any-IsPermutation p bs (reverse bs) (IsPermutation-reverse bs))

-- the last ones of an order are the first ones of the other
reverse-take : (n : ℕ) (bs : List BlockId) → n ≤ length bs → reverse (take n bs) ≡ drop (length bs - n) (reverse bs)
reverse-take n bs h =
    let whole : reverse bs ≡ reverse (drop n bs) ++ reverse (take n bs) = ap reverse (sym (take-append-drop n bs)) ∙ reverse-append (take n bs) (drop n bs) in
    let size : length (reverse (drop n bs)) ≡ length bs - n = length-reverse (drop n bs) ∙ length-drop n bs in
    sym (ap (drop (length bs - n)) whole ∙ ap (λ k. drop k (reverse (drop n bs) ++ reverse (take n bs))) (sym size)
    ∙ drop-append_seam (reverse (drop n bs)) (reverse (take n bs)))

-- the last of a full order is the first of the other
last_one : (bs : List BlockId) (n : ℕ) → length bs ≤ n + 1 → option_to_list (slice_get bs n) ≡ take (length bs - n) (reverse bs)
last_one [] n h = sym (take-nil (0 - n))
last_one (b ∷ []) zero h = refl
last_one (b ∷ c ∷ bs) zero h = absurd (omega arith)
last_one (b ∷ bs) (suc n) h =
    let fits : length bs ≤ n + 1 = omega arith in
    let within : length bs - n ≤ length (reverse bs) = omega (arith, length-reverse bs) in
    let less : suc (length bs) - suc n ≡ length bs - n = omega arith in
    last_one bs n fits ∙ sym (take-append-le (length bs - n) (reverse bs) (b ∷ []) within) ∙ ap (take (length bs - n)) (sym (reverse-append (b ∷ []) bs))
    ∙ ap (λ k. take k (reverse (b ∷ bs))) (sym less)

-- how long the order is in which a block is the last
length-used_last : (block : BlockId) (bs : List BlockId) → list_any (same_block block) bs ≡ true → IsDistinct same_block bs
    → length (used_last block (reverse bs)) ≡ length bs
length-used_last block bs h d =
    length-append (without block (reverse bs)) (block ∷ [])
    ∙ ap (λ n. n + 1) (ap length (sym (reverse-remove_key block bs d)) ∙ length-reverse (remove_key (same_block block) bs))
    ∙ length-remove_key (same_block block) bs h

module _ (capacity : ℕ) (block : BlockId) (bs : List BlockId) (some : 0 < capacity) (fits : length bs ≤ capacity) (d : IsDistinct same_block bs) where
  -- a block that is there: nothing is too many
  there : list_any (same_block block) bs ≡ true
      → reverse (block ∷ remove_key (same_block block) bs) ≡ drop (excess capacity (used_last block (reverse bs))) (used_last block (reverse bs))
  there h =
      let size : length (used_last block (reverse bs)) ≡ length bs = length-used_last block bs h d in
      let none : excess capacity (used_last block (reverse bs)) ≡ 0 = omega arith in
      reverse-append (block ∷ []) (remove_key (same_block block) bs) ∙ ap (λ r. r ++ block ∷ []) (reverse-remove_key block bs d)
      ∙ sym (ap (λ n. drop n (used_last block (reverse bs))) none)

  -- a new block: where the cache is full, the first leaves
  new_last : list_any (same_block block) bs ≡ false → used_last block (reverse bs) ≡ reverse bs ++ block ∷ []
  new_last h = ap (λ r. r ++ block ∷ []) (without-absent block (reverse bs) (list_any-reverse (same_block block) bs ∙ h))

  excess_new : list_any (same_block block) bs ≡ false → excess capacity (used_last block (reverse bs)) ≡ length bs - (capacity - 1)
  excess_new h =
      let size : length (used_last block (reverse bs)) ≡ length bs + 1 =
      ap length (new_last h) ∙ length-append (reverse bs) (block ∷ []) ∙ ap (λ n. n + 1) (length-reverse bs) in
      omega arith

  absent : list_any (same_block block) bs ≡ false
      → reverse (block ∷ take (capacity - 1) bs) ≡ drop (excess capacity (used_last block (reverse bs))) (used_last block (reverse bs))
  absent h =
      let size : length (reverse bs) ≡ length bs = length-reverse bs in
      let within : length bs - (capacity - 1) ≤ length (reverse bs) = omega arith in
      reverse-append (block ∷ []) (take (capacity - 1) bs) ∙ ap (λ r. r ++ block ∷ []) (last_ones (capacity - 1))
      ∙ sym (drop-append-le (length bs - (capacity - 1)) (reverse bs) (block ∷ []) within)
      ∙ ap (λ r. drop (length bs - (capacity - 1)) r) (sym (new_last h)) ∙ ap (λ n. drop n (used_last block (reverse bs))) (sym (excess_new h))
    where
      -- of a take that is longer than the list too
      last_ones : (n : ℕ) → reverse (take n bs) ≡ drop (length bs - n) (reverse bs)
      last_ones n = elim (cases_lt n (length bs)) [
        | inl lt ↦ let le : n ≤ length bs = omega arith in reverse-take n bs le
        | inr le ↦ let none : length bs - n ≡ 0 = omega arith in ap reverse (take_all n bs le) ∙ sym (ap (λ k. drop k (reverse bs)) none)
      ]

  -- what the order is once the block is cached
  pub reverse-pushed : reverse (cond (list_any (same_block block) bs) (block ∷ remove_key (same_block block) bs) (block ∷ take (capacity - 1) bs)) ≡ drop
      (excess capacity (used_last block (reverse bs))) (used_last block (reverse bs))
  reverse-pushed =
      elim (list_any (same_block block) bs) as
      (λ t. list_any (same_block block) bs ≡ t
      → reverse (cond t (block ∷ remove_key (same_block block) bs) (block ∷ take (capacity - 1) bs)) ≡ drop (excess capacity (used_last block (reverse bs)))
      (used_last block (reverse bs))) [
        | true ↦ λ h. there h
        | false ↦ λ h. absent h
      ] refl

  -- and what leaves for it
  pub pushed_out : option_to_list (cond (list_any (same_block block) bs) None (slice_get bs (capacity - 1))) ≡ take
      (excess capacity (used_last block (reverse bs))) (used_last block (reverse bs))
  pushed_out =
      elim (list_any (same_block block) bs) as
      (λ t. list_any (same_block block) bs ≡ t
      → option_to_list (cond t None (slice_get bs (capacity - 1))) ≡ take (excess capacity (used_last block (reverse bs))) (used_last block (reverse bs))) [
        | true ↦ λ h.
            let size : length (used_last block (reverse bs)) ≡ length bs = length-used_last block bs h d in
            let none : excess capacity (used_last block (reverse bs)) ≡ 0 = omega arith in
            sym (ap (λ n. take n (used_last block (reverse bs))) none)
        | false ↦ λ h.
            let within : length bs - (capacity - 1) ≤ length (reverse bs) = omega (arith, length-reverse bs) in
            last_one bs (capacity - 1) (omega arith) ∙ sym (take-append-le (length bs - (capacity - 1)) (reverse bs) (block ∷ []) within)
            ∙ ap (λ r. take (length bs - (capacity - 1)) r) (sym (new_last h)) ∙ ap (λ n. take n (used_last block (reverse bs))) (sym (excess_new h))
      ] refl

-- what a use of a block makes of the order
pub touch-promoted : (capacity : ℕ) (block : BlockId) (bs : List BlockId) → IsDistinct same_block bs
    → record { blocks = reverse (cond (list_any (same_block block) bs) (block ∷ remove_key (same_block block) bs) bs); capacity = capacity } ≡ touch
    (record { blocks = reverse bs; capacity = capacity }) block
touch-promoted capacity block bs d =
    let used : reverse (block ∷ remove_key (same_block block) bs) ≡ used_last block (reverse bs) =
    reverse-append (block ∷ []) (remove_key (same_block block) bs) ∙ ap (λ r. r ++ block ∷ []) (reverse-remove_key block bs d) in
    let s : List BlockId → CacheState = λ ks. record { blocks = ks; capacity = capacity } in
    elim (list_any (same_block block) bs) as
    (λ t. s (reverse (cond t (block ∷ remove_key (same_block block) bs) bs)) ≡ cond t (s (used_last block (reverse bs))) (s (reverse bs))) [
      | true ↦ ap s used
      | false ↦ refl
    ] ∙ ap (λ t. cond t (s (used_last block (reverse bs))) (s (reverse bs))) (sym (list_any-reverse (same_block block) bs))
