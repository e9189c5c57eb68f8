-- What a client knows of blocks once a clean block came into its cache: each block is as it was, or was clean and is let go; and the block that came in stays.
use Rattle.std.proofs.Common.{◌≡◌, ◌⊎◌, inl, inr, ℕ, zero, suc, ◌≤◌, ◌==◌, not, true, false, cond, List, [], ◌∷◌, ◌++◌, drop, fold, length, length-append, take, refl, sym, ap, subst, ◌∙◌, arith}
use Rattle.std.specs.List.{AllByRecursion}
use Rattle.std.proofs.lemmas.Bool.{false≢true}
use Rattle.std.proofs.lemmas.Bool.Decides.{nat_tests}
use Rattle.client_node.specs.Serving.{cached_upto}
use Rattle.coop_cache.specs.Transition.{excess, used_last, without}
use Rattle.token_client.proofs.Tables.{put_each}
use Rattle.token_client.specs.declared.held.Held.{Held}
use Rattle.token_client.specs.Held.{let_go, may_evict}
use Rattle.token_client.specs.State.{held_of, put_held}
use Rattle.xfs_base.proofs.BlockOrder.{same_block_itself}
use Rattle.xfs_base.specs.Blocks.{same_block}
use Rattle.xfs_base.specs.declared.block.BlockId.{BlockId}
use Rattle.quiet_nodes.proofs.Settling.{Known, comes_in, leaves}

-- another block is as it was once one is put
other_held : (k : BlockId) (h : Held) (es : List (BlockId × Held)) (q : BlockId) → (q ≡ k → ⊥) → held_of (put_held es k h) q ≡ held_of es q
other_held k h es = put_each (λ q x. (q ≡ k → ⊥) → x ≡ held_of es q) k h es (λ differs. absurd (differs refl)) (λ q differs. refl)

-- a block is as it was, or was clean and is let go
abbrev pub OrGone : Held → Held → Type 0
OrGone h g = (g ≡ h) ⊎ ((may_evict h ≡ true) × (g ≡ let_go h))

gone_again : (h g f : Held) → OrGone h g → OrGone g f → OrGone h f
gone_again h g f (inl same) o = subst (λ x. OrGone x f) same o
gone_again h g f (inr gone) (inl same) = inr (gone.0, same ∙ gone.1)
gone_again h g f (inr gone) (inr again) = absurd (false≢true (sym (ap may_evict gone.1) ∙ again.0))

one_leaves : (k : Known) (v x : BlockId) → OrGone (held_of k.blocks x) (held_of (leaves k v).blocks x)
one_leaves k v x =
    elim (may_evict (held_of k.blocks v)) as
    (λ t. may_evict (held_of k.blocks v) ≡ t
    → OrGone (held_of k.blocks x) (held_of (cond t (put_held k.blocks v (let_go (held_of k.blocks v))) k.blocks) x)) [
      | true ↦ λ may. put_each (λ q g. OrGone (held_of k.blocks q) g) v (let_go (held_of k.blocks v)) k.blocks (inr (may, refl)) (λ q. inl refl) x
      | false ↦ λ _. inl refl
    ] refl

all_leave : (vs : List BlockId) (k : Known) (x : BlockId) → OrGone (held_of k.blocks x) (held_of (fold leaves k vs).blocks x)
all_leave [] k x = inl refl
all_leave (v ∷ vs) k x =
    gone_again (held_of k.blocks x) (held_of (leaves k v).blocks x) (held_of (fold leaves (leaves k v) vs).blocks x) (one_leaves k v x) (all_leave vs (leaves k v) x)

-- ---- the block itself

abbrev IsOther : BlockId → BlockId → Type 0
IsOther b v = same_block b v ≡ false

apart : (b v : BlockId) → IsOther b v → b ≡ v → ⊥
apart b v other same = false≢true (sym other ∙ ap (same_block b) (sym same) ∙ same_block_itself b)

stays_by : (b : BlockId) (vs : List BlockId) (k : Known) → AllByRecursion (IsOther b) vs → held_of (fold leaves k vs).blocks b ≡ held_of k.blocks b
stays_by b [] k others = refl
stays_by b (v ∷ vs) k others = stays_by b vs (leaves k v) others.1 ∙ one
  where
    one : held_of (leaves k v).blocks b ≡ held_of k.blocks b
    one =
        elim (may_evict (held_of k.blocks v)) as
        (λ t. held_of (cond t (put_held k.blocks v (let_go (held_of k.blocks v))) k.blocks) b ≡ held_of k.blocks b)
        [ true ↦ other_held v (let_go (held_of k.blocks v)) k.blocks b (apart b v others.0) | false ↦ refl ]

others_only : (b : BlockId) (bs : List BlockId) → AllByRecursion (IsOther b) (without b bs)
others_only b [] = tt
others_only b (x ∷ bs) =
    elim (same_block b x) as (λ t. same_block b x ≡ t → AllByRecursion (IsOther b) (cond (not t) (x ∷ without b bs) (without b bs))) [
      | true ↦ λ same. others_only b bs
      | false ↦ λ other. (other, others_only b bs)
    ] refl

front : (b : BlockId) (n : ℕ) (xs ys : List BlockId) → n ≤ length xs → AllByRecursion (IsOther b) xs → AllByRecursion (IsOther b) (take n (xs ++ ys))
front b zero xs ys few all = tt
front b (suc n) [] ys few all = absurd (omega (arith, few))
front b (suc n) (x ∷ xs) ys few all = (all.0, front b n xs ys (omega arith) all.1)

-- a cache has room for one block
pub some_room : (n : ℕ) → 1 ≤ cached_upto n
some_room n = elim (n == 0) as (λ t. (n == 0) ≡ t → 1 ≤ cond t 1 n) [ true ↦ λ _. omega arith | false ↦ λ more. at_least n more ] refl
  where
    at_least : (m : ℕ) → (m == 0) ≡ false → 1 ≤ m
    at_least m h = grind (arith, nat_tests)

module _ (capacity : ℕ) (some : 1 ≤ capacity) (k : Known) (b : BlockId) where
  few_leave : excess capacity (used_last b k.cached) ≤ length (without b k.cached)
  few_leave = let both = length-append (without b k.cached) (b ∷ []) in omega arith

  pub stays_in : held_of (comes_in capacity k b).blocks b ≡ held_of k.blocks b
  stays_in =
      stays_by b (take (excess capacity (used_last b k.cached)) (used_last b k.cached))
      (record k { cached = drop (excess capacity (used_last b k.cached)) (used_last b k.cached) })
      (front b (excess capacity (used_last b k.cached)) (without b k.cached) (b ∷ []) few_leave (others_only b k.cached))

  pub each_or_gone : (x : BlockId) → OrGone (held_of k.blocks x) (held_of (comes_in capacity k b).blocks x)
  each_or_gone x =
      all_leave (take (excess capacity (used_last b k.cached)) (used_last b k.cached))
      (record k { cached = drop (excess capacity (used_last b k.cached)) (used_last b k.cached) }) x
