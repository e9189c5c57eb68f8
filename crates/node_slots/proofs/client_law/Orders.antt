-- The order of a cache as a set of blocks: what is in it once a block is used, leaves, or is too many; and that it has none twice.
use Rattle.std.proofs.Common.{◌≡◌, ◌⊎◌, inl, inr, ℕ, zero, suc, Bool, true, false, cond, ◌||◌, ◌&&◌, not, List, [], ◌∷◌, ◌++◌, take, drop, refl, sym, ap, subst, ◌∙◌}
use Rattle.std.specs.List.{list_any}
use Rattle.coop_cache.specs.Transition.{used_last, without}
use Rattle.xfs_base.specs.Blocks.{same_block}
use Rattle.xfs_base.specs.declared.block.BlockId.{BlockId}
use Rattle.node_slots.specs.client_law.Blocks.{Once}
use Rattle.xfs_base.proofs.BlockOrder.{same_block_exact, same_block_itself}
use Rattle.xfs_base.proofs.Booleans.{and_first, and_second, contrary, not_true, or_first, or_second}

abbrev pub has : BlockId → List BlockId → Bool
has b bs = list_any (same_block b) bs

-- a block is this one or not
pub either : (t : Bool) → (t ≡ true) ⊎ (t ≡ false)
either true = inl refl
either false = inr refl

pub or_cases : (a b : Bool) → (a || b) ≡ true → (a ≡ true) ⊎ (b ≡ true)
or_cases true b h = inl refl
or_cases false b h = inr h

pub or_elim : {A : Type 0} (a b : Bool) → (a ≡ true → A) → (b ≡ true → A) → (a || b) ≡ true → A
or_elim true b f g h = f refl
or_elim false b f g h = g h

pub not_both : (a : Bool) → (a ≡ true → false ≡ true) → a ≡ false
not_both true f = sym (f refl)
not_both false f = refl

pub same_symmetric : (a b : BlockId) → same_block a b ≡ true → same_block b a ≡ true
same_symmetric a b h = subst (λ c. same_block c a ≡ true) (sym (same_block_exact a b h)) (same_block_itself a)

pub has_append : (b : BlockId) (xs ys : List BlockId) → has b (xs ++ ys) ≡ (has b xs || has b ys)
has_append b [] ys = refl
has_append b (x ∷ xs) ys = first (same_block b x) (has_append b xs ys)
  where
    first : (t : Bool) → has b (xs ++ ys) ≡ (has b xs || has b ys) → (t || has b (xs ++ ys)) ≡ ((t || has b xs) || has b ys)
    first true h = refl
    first false h = h

-- ---- without a block

unless_both : (a h n : Bool) → (a ≡ true → n ≡ false) → (h && n) ≡ ((a || h) && n)
unless_both true true n f = refl
unless_both true false n f = sym (f refl)
unless_both false h n f = refl

or_both : (a h n : Bool) → (a ≡ true → n ≡ true) → (a || (h && n)) ≡ ((a || h) && n)
or_both true h n f = sym (f refl)
or_both false h n f = refl

module _ (block : BlockId) where
  without_step : (b x : BlockId) (xs : List BlockId) (t : Bool) → same_block block x ≡ t
      → has b (without block xs) ≡ (has b xs && not (same_block block b))
      → has b (cond (not t) (x ∷ without block xs) (without block xs)) ≡ ((same_block b x || has b xs) && not (same_block block b))
  without_step b x xs true fact rest =
      rest ∙ unless_both (same_block b x) (has b xs) (not (same_block block b))
      (λ same. ap not (ap (same_block block) (sym (same_block_exact b x same)) ∙ fact))
  without_step b x xs false fact rest =
      ap (λ r. same_block b x || r) rest ∙ or_both (same_block b x) (has b xs) (not (same_block block b))
      (λ same. ap not (ap (same_block block) (sym (same_block_exact b x same)) ∙ fact))

  -- without a block there are the others
  pub has_without : (b : BlockId) (bs : List BlockId) → has b (without block bs) ≡ (has b bs && not (same_block block b))
  has_without b [] = refl
  has_without b (x ∷ xs) = without_step b x xs (same_block block x) refl (has_without b xs)

  pub in_without : (b : BlockId) (bs : List BlockId) → has b (without block bs) ≡ true → (has b bs ≡ true) × (same_block block b ≡ false)
  in_without b bs h =
      let both : (has b bs && not (same_block block b)) ≡ true = sym (has_without b bs) ∙ h in
      (and_first (has b bs) _ both, not_true (same_block block b) (and_second (has b bs) _ both))

  pub to_without : (b : BlockId) (bs : List BlockId) → has b bs ≡ true → same_block block b ≡ false → has b (without block bs) ≡ true
  to_without b bs inside other = has_without b bs ∙ ap (λ r. r && not (same_block block b)) inside ∙ ap not other

  once_step : (x : BlockId) (xs : List BlockId) (t : Bool) → has x xs ≡ false → Once (without block xs)
      → Once (cond (not t) (x ∷ without block xs) (without block xs))
  once_step x xs true absent rest = rest
  once_step x xs false absent rest = (not_both (has x (without block xs)) (λ h. sym absent ∙ (in_without x xs h).0), rest)

  pub once_without : (bs : List BlockId) → Once bs → Once (without block bs)
  once_without [] o = tt
  once_without (x ∷ xs) o = once_step x xs (same_block block x) o.0 (once_without xs o.1)

-- ---- used last

once_last : (block : BlockId) (bs : List BlockId) → has block bs ≡ false → Once bs → Once (bs ++ block ∷ [])
once_last block [] absent o = (refl, tt)
once_last block (x ∷ xs) absent o = (here, once_last block xs (or_false_second (same_block block x) (has block xs) absent) o.1)
  where
    or_false_second : (a b : Bool) → (a || b) ≡ false → b ≡ false
    or_false_second true b h = contrary (sym h)
    or_false_second false b h = h

    or_false_first : (a b : Bool) → (a || b) ≡ false → a ≡ false
    or_false_first true b h = h
    or_false_first false b h = refl

    two_false : (a b : Bool) → a ≡ false → b ≡ false → (a || b) ≡ false
    two_false true b h g = h
    two_false false b h g = g

    here : has x (xs ++ block ∷ []) ≡ false
    here =
        has_append x xs (block ∷ []) ∙ two_false (has x xs) _ o.0
        (two_false (same_block x block) false
        (not_both (same_block x block) (λ h. sym (or_false_first (same_block block x) (has block xs) absent) ∙ same_symmetric x block h)) refl)

pub once_used : (block : BlockId) (bs : List BlockId) → Once bs → Once (used_last block bs)
once_used block bs o =
    once_last block (without block bs) (not_both (has block (without block bs)) (λ h. sym (in_without block block bs h).1 ∙ same_block_itself block))
    (once_without block bs o)

-- what was there is still, and the block is
pub to_used : (block b : BlockId) (bs : List BlockId) → (b ≡ block) ⊎ (has b bs ≡ true) → has b (used_last block bs) ≡ true
to_used block b bs (inl same) =
    has_append b (without block bs) (block ∷ []) ∙ or_second (has b (without block bs)) _
    (or_first (same_block b block) false (ap (λ c. same_block c block) same ∙ same_block_itself block))
to_used block b bs (inr inside) = by_same (same_block block b) refl
  where
    by_same : (t : Bool) → same_block block b ≡ t → has b (used_last block bs) ≡ true
    by_same true fact =
        has_append b (without block bs) (block ∷ [])
        ∙ or_second (has b (without block bs)) _ (or_first (same_block b block) false (same_symmetric block b fact))
    by_same false other = has_append b (without block bs) (block ∷ []) ∙ or_first (has b (without block bs)) _ (to_without block b bs inside other)

-- and nothing else
pub in_used : (block b : BlockId) (bs : List BlockId) → has b (used_last block bs) ≡ true → (b ≡ block) ⊎ (has b bs ≡ true)
in_used block b bs h = by_part (or_cases (has b (without block bs)) _ (sym (has_append b (without block bs) (block ∷ [])) ∙ h))
  where
    last : (same_block b block ≡ true) ⊎ (false ≡ true) → b ≡ block
    last (inl same) = sym (same_block_exact b block same)
    last (inr none) = contrary none

    by_part : (has b (without block bs) ≡ true) ⊎ (has b (block ∷ []) ≡ true) → (b ≡ block) ⊎ (has b bs ≡ true)
    by_part (inl inside) = inr (in_without block b bs inside).0
    by_part (inr end) = inl (last (or_cases (same_block b block) false end))

-- ---- what is too many

pub in_drop : (n : ℕ) (b : BlockId) (bs : List BlockId) → has b (drop n bs) ≡ true → has b bs ≡ true
in_drop zero b bs h = h
in_drop (suc n) b [] h = h
in_drop (suc n) b (x ∷ xs) h = or_second (same_block b x) (has b xs) (in_drop n b xs h)

pub in_take : (n : ℕ) (b : BlockId) (bs : List BlockId) → has b (take n bs) ≡ true → has b bs ≡ true
in_take zero b bs h = contrary h
in_take (suc n) b [] h = h
in_take (suc n) b (x ∷ xs) h =
    or_elim (same_block b x) (has b (take n xs)) (λ same. or_first (same_block b x) (has b xs) same)
    (λ rest. or_second (same_block b x) (has b xs) (in_take n b xs rest)) h

pub once_drop : (n : ℕ) (bs : List BlockId) → Once bs → Once (drop n bs)
once_drop zero bs o = o
once_drop (suc n) [] o = o
once_drop (suc n) (x ∷ xs) o = once_drop n xs o.1

-- each block is dropped or not, and not both
pub taken_or_left : (n : ℕ) (b : BlockId) (bs : List BlockId) → has b bs ≡ true → (has b (drop n bs) ≡ true) ⊎ (has b (take n bs) ≡ true)
taken_or_left zero b bs h = inl h
taken_or_left (suc n) b [] h = inl h
taken_or_left (suc n) b (x ∷ xs) h =
    or_elim (same_block b x) (has b xs) (λ same. inr (or_first (same_block b x) (has b (take n xs)) same)) (λ rest. further (taken_or_left n b xs rest)) h
  where
    further : (has b (drop n xs) ≡ true) ⊎ (has b (take n xs) ≡ true) → (has b (drop n xs) ≡ true) ⊎ ((same_block b x || has b (take n xs)) ≡ true)
    further (inl left) = inl left
    further (inr taken) = inr (or_second (same_block b x) (has b (take n xs)) taken)

pub not_both_parts : (n : ℕ) (b : BlockId) (bs : List BlockId) → Once bs → has b (take n bs) ≡ true → has b (drop n bs) ≡ false
not_both_parts zero b bs o h = contrary h
not_both_parts (suc n) b [] o h = refl
not_both_parts (suc n) b (x ∷ xs) o h =
    or_elim (same_block b x) (has b (take n xs))
    (λ same. not_both (has b (drop n xs)) (λ left. sym o.0 ∙ ap (λ c. has c xs) (same_block_exact b x same) ∙ in_drop n b xs left))
    (λ rest. not_both_parts n b xs o.1 rest) h
