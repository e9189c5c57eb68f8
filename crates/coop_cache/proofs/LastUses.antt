-- The order of a cache is that of the last uses.
use Rattle.std.proofs.Common.{◌≡◌, ℕ, zero, suc, ◌+◌, ◌<◌, ◌≤◌, Bool, true, false, cond, ◌||◌, List, [], ◌∷◌, ◌++◌, All, length, take, drop, map, refl, sym, ap, subst, ◌∙◌, if◌then◌else◌, arith}
use Rattle.std.specs.Prelude.{not}
use Rattle.std.specs.List.{list_any, filter, AllPairs, AllByRecursion}
use Rattle.std.proofs.lemmas.Bool.{true≢false}
use Rattle.std.proofs.lemmas.List.{length-append, length-drop}
use Rattle.std.proofs.lemmas.List.Elements.{All-cons, All-nil}
use Rattle.std.proofs.lemmas.List.Kept.{AllPairs-cons}
use Rattle.xfs_base.specs.declared.block.BlockId.{BlockId}
use Rattle.xfs_base.specs.Blocks.{same_block}
use Rattle.xfs_base.specs.Steps.{steps}
use Rattle.xfs_base.proofs.BlockOrder.{same_block_itself}
use Rattle.xfs_base.proofs.StepLoops.{steps_both}
use Rattle.coop_cache.specs.declared.input.In.{In}
use Rattle.coop_cache.specs.declared.input.In.TheVariants.{Clean, Touch, Dirty, Gone}
use Rattle.coop_cache.specs.declared.output.Out.TheVariants.{Victim}
use Rattle.coop_cache.specs.CacheState.{CacheState, cache_start}
use Rattle.coop_cache.specs.Transition.{without, used_last, excess, is_clean, touch, transition}
use Rattle.coop_cache.specs.Use.{state_after, uses, is_used, last_use, IsByUse, IsLeastUsed}
use Rattle.coop_cache.proofs.Orders.{without-absent}

-- each block is below all later ones, by a number for each
IsRising : (BlockId → ℕ) → List BlockId → Type 0
IsRising f [] = Unit {0}
IsRising f (b ∷ bs) = AllByRecursion (λ c. f b < f c) bs × IsRising f bs

all_of : (P : BlockId → Type 0) (bs : List BlockId) → AllByRecursion P bs → All P bs
all_of P [] h = All-nil P
all_of P (b ∷ bs) h = All-cons P b bs h.0 (all_of P bs h.1)

pairs_of : (f : BlockId → ℕ) (bs : List BlockId) → IsRising f bs → AllPairs (λ a b. f a < f b) bs
unfolding IsRising
pairs_of f [] r = λ i j d l m. absurd (omega arith)
pairs_of f (b ∷ bs) r = AllPairs-cons (λ x y. f x < f y) b bs (all_of (λ c. f b < f c) bs r.0) (pairs_of f bs r.1)

dropped_all : (P : BlockId → Type 0) (n : ℕ) (bs : List BlockId) → AllByRecursion P bs → AllByRecursion P (drop n bs)
dropped_all P zero bs h = h
dropped_all P (suc n) [] h = h
dropped_all P (suc n) (b ∷ bs) h = dropped_all P n bs h.1

dropped : (f : BlockId → ℕ) (n : ℕ) (bs : List BlockId) → IsRising f bs → IsRising f (drop n bs)
unfolding IsRising
dropped f zero bs r = r
dropped f (suc n) [] r = r
dropped f (suc n) (b ∷ bs) r = dropped f n bs r.1

-- all that are left out at the front are below all that stay
left_out : (history : List In) (n : ℕ) (bs : List BlockId) → IsRising (last_use history) bs → All (IsLeastUsed history (drop n bs)) (map Victim (take n bs))
unfolding IsRising
left_out history zero bs r = All-nil (IsLeastUsed history bs)
left_out history (suc n) [] r = All-nil (IsLeastUsed history [])
left_out history (suc n) (b ∷ bs) r =
    All-cons (IsLeastUsed history (drop n bs)) (Victim b) (map Victim (take n bs))
    (all_of (λ c. last_use history b < last_use history c) (drop n bs) (dropped_all (λ c. last_use history b < last_use history c) n bs r.0))
    (left_out history n bs r.1)

-- some use of a block at the time n + 1, by numbers that were at most n
module _ (f : BlockId → ℕ) (n : ℕ) (block : BlockId) (past : (b : BlockId) → f b ≤ n) where
  abbrev used_now : BlockId → ℕ
  used_now b = if same_block block b then n + 1 else f b

  kept_above : (m : ℕ) (bs : List BlockId) → AllByRecursion (λ c. m < f c) bs → AllByRecursion (λ c. m < used_now c) (without block bs)
  kept_above m [] h = h
  kept_above m (b ∷ bs) h =
      elim (same_block block b) as
      (λ t. same_block block b ≡ t → AllByRecursion (λ c. m < used_now c) (cond (not t) (b ∷ without block bs) (without block bs))) [
        | true ↦ λ e. kept_above m bs h.1
        | false ↦ λ e. (subst (λ t. m < cond t (n + 1) (f b)) (sym e) h.0, kept_above m bs h.1)
      ] refl

  kept : (bs : List BlockId) → IsRising f bs → IsRising used_now (without block bs)
  unfolding IsRising
  kept [] r = r
  kept (b ∷ bs) r =
      elim (same_block block b) as (λ t. same_block block b ≡ t → IsRising used_now (cond (not t) (b ∷ without block bs) (without block bs))) [
        | true ↦ λ e. kept bs r.1
        | false ↦ λ e. (subst (λ t. AllByRecursion (λ c. cond t (n + 1) (f b) < used_now c) (without block bs)) (sym e) (kept_above (f b) bs r.0), kept bs r.1)
      ] refl

  below_now : (bs : List BlockId) → AllByRecursion (λ c. used_now c < n + 1) (without block bs)
  below_now [] = tt
  below_now (b ∷ bs) =
      elim (same_block block b) as
      (λ t. same_block block b ≡ t → AllByRecursion (λ c. used_now c < n + 1) (cond (not t) (b ∷ without block bs) (without block bs))) [
        | true ↦ λ e. below_now bs
        | false ↦ λ e. let here : f b < n + 1 = omega (arith, past b) in (subst (λ t. cond t (n + 1) (f b) < n + 1) (sym e) here, below_now bs)
      ] refl

  at_end : (bs : List BlockId) → IsRising used_now bs → AllByRecursion (λ c. used_now c < n + 1) bs → IsRising used_now (bs ++ block ∷ [])
  unfolding IsRising
  at_end [] r h = (tt, tt)
  at_end (b ∷ bs) r h = (above bs r.0, at_end bs r.1 h.1)
    where
      itself : n + 1 ≡ used_now block
      itself = sym (ap (λ t. cond t (n + 1) (f block)) (same_block_itself block))

      above : (cs : List BlockId) → AllByRecursion (λ c. used_now b < used_now c) cs → AllByRecursion (λ c. used_now b < used_now c) (cs ++ block ∷ [])
      above [] a = (subst (λ m. used_now b < m) itself h.0, tt)
      above (c ∷ cs) a = (a.0, above cs a.1)

  -- the block that is used now is the last
  used_rises : (bs : List BlockId) → IsRising f bs → IsRising used_now (used_last block bs)
  used_rises bs r = at_end (without block bs) (kept bs r) (below_now bs)

  -- what isn't used now keeps its order
  unused_rises : (bs : List BlockId) → list_any (same_block block) bs ≡ false → IsRising f bs → IsRising used_now bs
  unused_rises bs h r = subst (IsRising used_now) (without-absent block bs h) (kept bs r)

  touch_rises : (s : CacheState) → IsRising f s.blocks → IsRising used_now (touch s block).blocks
  touch_rises s r =
      elim (is_clean s block) as
      (λ t. is_clean s block ≡ t → IsRising used_now (cond t (record { blocks = used_last block s.blocks; capacity = s.capacity }) s).blocks) [
        | true ↦ λ e. used_rises s.blocks r
        | false ↦ λ e. unused_rises s.blocks e r
      ] refl

taken_above : (f : BlockId → ℕ) (m : ℕ) (p : BlockId → Bool) (bs : List BlockId) → AllByRecursion (λ c. m < f c) bs
    → AllByRecursion (λ c. m < f c) (filter p bs)
taken_above f m p [] h = h
taken_above f m p (b ∷ bs) h =
    elim (p b) as (λ t. AllByRecursion (λ c. m < f c) (cond t (b ∷ filter p bs) (filter p bs))) [
      | true ↦ (h.0, taken_above f m p bs h.1)
      | false ↦ taken_above f m p bs h.1
    ]

taken_rises : (f : BlockId → ℕ) (p : BlockId → Bool) (bs : List BlockId) → IsRising f bs → IsRising f (filter p bs)
unfolding IsRising
taken_rises f p [] r = r
taken_rises f p (b ∷ bs) r =
    elim (p b) as (λ t. IsRising f (cond t (b ∷ filter p bs) (filter p bs))) [
      | true ↦ (taken_above f (f b) p bs r.0, taken_rises f p bs r.1)
      | false ↦ taken_rises f p bs r.1
    ]

-- ---- the last uses, from one input to the next

-- the last uses after one more input, where n came before and these were the last uses
abbrev after_one : (BlockId → ℕ) → ℕ → In → BlockId → ℕ
after_one f n input b = if uses input b then n + 1 else f b

-- and after more inputs
abbrev after_more : (BlockId → ℕ) → ℕ → List In → BlockId → ℕ
after_more f n [] = f
after_more f n (input ∷ later) = after_more (after_one f n input) (n + 1) later

unused : (inputs : List In) (b : BlockId) → is_used inputs b ≡ false → last_use inputs b ≡ 0
unused [] b h = refl
unused (input ∷ later) b h = ap (λ t. if t then last_use later b + 1 else 0) h

-- the last use counts from the first of more inputs, where one of them is a use
counted : (f : BlockId → ℕ) (n : ℕ) (inputs : List In) (b : BlockId)
    → after_more f n inputs b ≡ (if is_used inputs b then n + last_use inputs b else f b)
counted f n [] b = refl
counted f n (input ∷ later) b =
    let last : ℕ = last_use later b in
    counted (after_one f n input) (n + 1) later b ∙ elim (uses input b) as
    (λ t. cond (is_used later b) (n + 1 + last) (cond t (n + 1) (f b)) ≡ cond (t || is_used later b) (n + cond (t || is_used later b) (last + 1) 0) (f b)) [
      | true ↦ elim (is_used later b) as (λ t. is_used later b ≡ t → cond t (n + 1 + last) (n + 1) ≡ n + (last + 1))
          [ true ↦ λ e. omega arith | false ↦ λ e. omega (arith, unused later b e) ] refl
      | false ↦ elim (is_used later b) as (λ t. cond t (n + 1 + last) (f b) ≡ cond t (n + cond t (last + 1) 0) (f b)) [ true ↦ omega arith | false ↦ refl ]
    ]

-- of a cache that has just begun, no block was used
abbrev never : BlockId → ℕ
never b = 0

from_start : (inputs : List In) (b : BlockId) → after_more never 0 inputs b ≡ last_use inputs b
from_start inputs b =
    counted never 0 inputs b ∙ elim (is_used inputs b) as (λ t. is_used inputs b ≡ t → cond t (0 + last_use inputs b) 0 ≡ last_use inputs b)
    [ true ↦ λ e. omega arith | false ↦ λ e. sym (unused inputs b e) ] refl

-- ---- the order, from one input to the next

one_past : (f : BlockId → ℕ) (n : ℕ) (input : In) → ((b : BlockId) → f b ≤ n) → (b : BlockId) → after_one f n input b ≤ n + 1
one_past f n input past b =
    elim (uses input b) as (λ t. cond t (n + 1) (f b) ≤ n + 1) [ true ↦ omega arith | false ↦ omega (arith, past b) ]

one_rises : (f : BlockId → ℕ) (n : ℕ) (s : CacheState) (input : In) → ((b : BlockId) → f b ≤ n) → IsRising f s.blocks
    → IsRising (after_one f n input) (transition s input).state.blocks
one_rises f n s (Clean block) past r =
    let blocks : List BlockId = used_last block s.blocks in
    dropped (after_one f n (Clean block)) (excess s.capacity blocks) blocks (used_rises f n block past s.blocks r)
one_rises f n s (Touch block) past r = touch_rises f n block past s r
one_rises f n s (Dirty block) past r = taken_rises f (λ b. not (same_block block b)) s.blocks r
one_rises f n s (Gone block) past r = taken_rises f (λ b. not (same_block block b)) s.blocks r

all_rises : (f : BlockId → ℕ) (n : ℕ) (s : CacheState) (inputs : List In) → ((b : BlockId) → f b ≤ n) → IsRising f s.blocks
    → IsRising (after_more f n inputs) (steps transition s inputs).state.blocks
all_rises f n s [] past r = r
all_rises f n s (input ∷ later) past r =
    all_rises (after_one f n input) (n + 1) (transition s input).state later (one_past f n input past) (one_rises f n s input past r)

-- a block that is cached after some inputs stands above all that were there, before any leaves
cached_rises : (f : BlockId → ℕ) (n : ℕ) (s : CacheState) (inputs : List In) (block : BlockId) → ((b : BlockId) → f b ≤ n) → IsRising f s.blocks
    → IsRising (after_more f n (inputs ++ Clean block ∷ [])) (used_last block (steps transition s inputs).state.blocks)
cached_rises f n s [] block past r = used_rises f n block past s.blocks r
cached_rises f n s (input ∷ later) block past r =
    cached_rises (after_one f n input) (n + 1) (transition s input).state later block (one_past f n input past) (one_rises f n s input past r)

module _ (f g : BlockId → ℕ) (same : (b : BlockId) → f b ≡ g b) where
  same_above : (b : BlockId) (bs : List BlockId) → AllByRecursion (λ c. f b < f c) bs → AllByRecursion (λ c. g b < g c) bs
  same_above b [] h = h
  same_above b (c ∷ cs) h = (omega (arith, same b, same c, h.0), same_above b cs h.1)

  same_rises : (bs : List BlockId) → IsRising f bs → IsRising g bs
  unfolding IsRising
  same_rises [] r = r
  same_rises (b ∷ bs) r = (same_above b bs r.0, same_rises bs r.1)

pub by_use : (capacity : ℕ) (history : List In) → IsByUse history (state_after capacity history).blocks
unfolding IsRising
by_use capacity history =
    let blocks : List BlockId = (state_after capacity history).blocks in
    pairs_of (last_use history) blocks
    (same_rises (after_more never 0 history) (last_use history) (from_start history) blocks
    (all_rises never 0 (cache_start capacity) history (λ b. omega arith) tt))

none_told : (capacity : ℕ) (history : List In) → All (IsLeastUsed history (state_after capacity history).blocks) []
none_told capacity history = All-nil (IsLeastUsed history (state_after capacity history).blocks)

pub victims_least : (capacity : ℕ) (history : List In) (input : In)
    → All (IsLeastUsed (history ++ input ∷ []) (state_after capacity (history ++ input ∷ [])).blocks) (transition (state_after capacity history) input).outs
unfolding IsRising
victims_least capacity history (Clean block) =
    let s : CacheState = state_after capacity history in
    let blocks : List BlockId = used_last block s.blocks in
    let all : List In = history ++ Clean block ∷ [] in
    subst (λ t. All (IsLeastUsed all t.blocks) (transition s (Clean block)).outs) (sym (steps_both transition (cache_start capacity) history (Clean block ∷ [])))
    (left_out all (excess s.capacity blocks) blocks
    (same_rises (after_more never 0 all) (last_use all) (from_start all) blocks
    (cached_rises never 0 (cache_start capacity) history block (λ b. omega arith) tt)))
victims_least capacity history (Touch block) = none_told capacity (history ++ Touch block ∷ [])
victims_least capacity history (Dirty block) = none_told capacity (history ++ Dirty block ∷ [])
victims_least capacity history (Gone block) = none_told capacity (history ++ Gone block ∷ [])

-- ---- the capacity

one_capacity : (s : CacheState) (input : In) → (transition s input).state.capacity ≡ s.capacity
one_capacity s (Clean block) = refl
one_capacity s (Touch block) =
    elim (is_clean s block) as (λ t. (cond t (record { blocks = used_last block s.blocks; capacity = s.capacity }) s).capacity ≡ s.capacity)
    [ true ↦ refl | false ↦ refl ]
one_capacity s (Dirty block) = refl
one_capacity s (Gone block) = refl

capacity_stays : (s : CacheState) (inputs : List In) → (steps transition s inputs).state.capacity ≡ s.capacity
capacity_stays s [] = refl
capacity_stays s (input ∷ later) = capacity_stays (transition s input).state later ∙ one_capacity s input

pub fewer : (p : BlockId → Bool) (bs : List BlockId) → length (filter p bs) ≤ length bs
fewer p [] = omega arith
fewer p (b ∷ bs) =
    elim (p b) as (λ t. length (cond t (b ∷ filter p bs) (filter p bs)) ≤ suc (length bs))
    [ true ↦ omega (arith, fewer p bs) | false ↦ omega (arith, fewer p bs) ]

one_fewer : (block : BlockId) (bs : List BlockId) → list_any (same_block block) bs ≡ true → length (without block bs) + 1 ≤ length bs
one_fewer block [] h = absurd (true≢false (sym h))
one_fewer block (b ∷ bs) h =
    elim (same_block block b) as
    (λ t. (t || list_any (same_block block) bs) ≡ true → length (cond (not t) (b ∷ without block bs) (without block bs)) + 1 ≤ suc (length bs)) [
      | true ↦ λ e. omega (arith, fewer (λ c. not (same_block block c)) bs)
      | false ↦ λ e. omega (arith, one_fewer block bs e)
    ] h

-- no more blocks are kept than may be
abbrev Fits : CacheState → Type 0
Fits s = length s.blocks ≤ s.capacity

one_fits : (s : CacheState) (input : In) → Fits s → Fits (transition s input).state
one_fits s (Clean block) fits =
    let blocks : List BlockId = used_last block s.blocks in
    omega (arith, length-drop (excess s.capacity blocks) blocks)
one_fits s (Touch block) fits =
    elim (is_clean s block) as (λ t. is_clean s block ≡ t → Fits (cond t (record { blocks = used_last block s.blocks; capacity = s.capacity }) s)) [
      | true ↦ λ e. omega (arith, one_fewer block s.blocks e, length-append (without block s.blocks) (block ∷ []), fits)
      | false ↦ λ e. fits
    ] refl
one_fits s (Dirty block) fits = omega (arith, fewer (λ b. not (same_block block b)) s.blocks, fits)
one_fits s (Gone block) fits = omega (arith, fewer (λ b. not (same_block block b)) s.blocks, fits)

all_fit : (s : CacheState) (inputs : List In) → Fits s → Fits (steps transition s inputs).state
all_fit s [] fits = fits
all_fit s (input ∷ later) fits = all_fit (transition s input).state later (one_fits s input fits)

pub fits_after : (capacity : ℕ) (history : List In) → length (state_after capacity history).blocks ≤ (state_after capacity history).capacity
fits_after capacity history = all_fit (cache_start capacity) history (omega arith)

pub capacity_kept : (capacity : ℕ) (history : List In) → length (state_after capacity history).blocks ≤ capacity
capacity_kept capacity history = omega (arith, fits_after capacity history, capacity_stays (cache_start capacity) history)
