-- The beliefs about one block stand together in their order, so a walk from the first of them on meets them all.
use Rattle.std.proofs.Common.{◌≡◌, ℕ, Bool, true, false, cond, not, ◌&&◌, ◌||◌, ◌==◌, if◌then◌else◌, List, [], ◌∷◌, ◌++◌, append_assoc, append-nil, refl, sym, ap, ◌∙◌, arith, zero, suc}
use Rattle.std.specs.declared.cmp.Ordering.{Ordering}
use Rattle.std.specs.declared.cmp.Ordering.TheVariants.{Less, Equal, Greater}
use Rattle.std.specs.declared.ops.Bound.TheVariants.{Included, Unbounded}
use Rattle.std.specs.Ordering.{nat_cmp, is_le, is_lt, ordering_then, ordering_reverse}
use Rattle.std.specs.List.{filter, AllByRecursion}
use Rattle.std.specs.List.Sorted.{IsStrictlySortedBy}
use Rattle.std.specs.Map.{keys_of, remove_entry}
use Rattle.std.specs.BTreeMap.{is_at}
use Rattle.std.specs.BTreeMap.Range.{range_contains}
use Rattle.std.specs.Cmp.{nat_cmp_is}
use Rattle.std.proofs.lemmas.Bool.{false≢true}
use Rattle.std.proofs.lemmas.Cmp.{tied_itself}
use Rattle.std.proofs.lemmas.Map.Views.{tells_apart}
use Rattle.xfs_base.specs.declared.block.BlockId.{BlockId}
use Rattle.xfs_base.specs.Blocks.{block_cmp, same_block}
use Rattle.xfs_base.proofs.BlockOrder.{block_cmp_total, block_cmp_exact, same_block_exact, same_block_itself}
use Rattle.slot_beliefs.specs.declared.job.Holder.{Holder}
use Rattle.slot_beliefs.specs.Beliefs.{holder_cmp, holder, others, forget_block}
use Rattle.slot_beliefs.proofs.Shares.{holder_cmp_exact}

-- whether a belief is not before all beliefs about a block
abbrev pub is_reached : BlockId → Holder × Bool → Bool
is_reached block e = range_contains holder_cmp (Included (holder block 0)) Unbounded e.0

abbrev pub NoneOf : BlockId → List (Holder × Bool) → Type 0
NoneOf block es = AllByRecursion (λ e. same_block e.0.block block ≡ false) es

-- the first belief is about another block, or there is none
abbrev pub StartsPast : BlockId → List (Holder × Bool) → Type 0
StartsPast block [] = Unit {0}
StartsPast block (e ∷ es) = same_block e.0.block block ≡ false

-- the other clients of a block, up to the first belief about another
abbrev pub listed : List (Holder × Bool) → BlockId → ℕ → Bool → List ℕ
listed [] block client owners = []
listed (e ∷ es) block client owners =
    if same_block e.0.block block
    then (if not (e.0.client == client) && (e.1 || not owners) then e.0.client ∷ listed es block client owners else listed es block client owners)
    else []

refuted : (b : Bool) → (b ≡ true → ⊥) → b ≡ false
refuted true never = absurd (never refl)
refuted false never = refl

reached : (b t : Bool) → b && true ≡ t → b ≡ t
reached true t h = h
reached false t h = h

zero_first : (n : ℕ) → is_le (nat_cmp 0 n) ≡ true
zero_first zero = refl
zero_first (suc n) = ap is_le (sym (nat_cmp_is 0 (suc n) Less (omega arith)))

met : (a b n m : Ordering) → a ≡ ordering_reverse b → is_le (ordering_then a n) ≡ true → ordering_then b m ≡ Less → b ≡ Equal
met a Less n m r le lt = absurd (false≢true (sym (ap (λ o. is_le (ordering_then o n)) r) ∙ le))
met a Equal n m r le lt = refl
met a Greater n m r le lt = absurd (false≢true (ap is_lt lt))

itself_reached : (h : Holder) → is_le (holder_cmp (holder h.block 0) h) ≡ true
itself_reached h = ap (λ o. is_le (ordering_then o (nat_cmp 0 h.client))) (tied_itself block_cmp_total h.block) ∙ zero_first h.client

before_all : (block : BlockId) (h : Holder) → is_le (holder_cmp (holder block 0) h) ≡ false → same_block h.block block ≡ false
before_all block h below =
    refuted (same_block h.block block)
    (λ same. false≢true (sym below ∙ ap (λ b. is_le (holder_cmp (holder b 0) h)) (same_block_exact h.block block same) ∙ itself_reached h))

past_all : (block : BlockId) (h k : Holder) → is_le (holder_cmp (holder block 0) h) ≡ true → same_block h.block block ≡ false → holder_cmp h k ≡ Less
    → same_block k.block block ≡ false
past_all block h k le past lt = refuted (same_block k.block block) (λ same.
    let fact : block ≡ k.block = same_block_exact k.block block same in
    let below : ordering_then (block_cmp h.block block) (nat_cmp h.client k.client) ≡ Less =
    ap (λ b. ordering_then (block_cmp h.block b) (nat_cmp h.client k.client)) fact ∙ lt in
    let tied : block_cmp h.block block ≡ Equal =
    met (block_cmp block h.block) (block_cmp h.block block) (nat_cmp 0 h.client) (nat_cmp h.client k.client)
    (block_cmp_total.antisymm block h.block) le below in
    false≢true (sym past ∙ ap (λ b. same_block h.block b) (sym (block_cmp_exact h.block block tied)) ∙ same_block_itself h.block))

all_past : (block : BlockId) (h : Holder) (es : List (Holder × Bool)) → is_le (holder_cmp (holder block 0) h) ≡ true → same_block h.block block ≡ false
    → AllByRecursion (λ k. holder_cmp h k ≡ Less) (keys_of es) → NoneOf block es
all_past block h [] le past below = tt
all_past block h (e ∷ es) le past below = (past_all block h e.0 le past below.0, all_past block h es le past below.1)

-- where the walk starts past a block, nothing is believed of the block
pub none_of : (block : BlockId) (es : List (Holder × Bool)) → IsStrictlySortedBy holder_cmp (keys_of es) → StartsPast block (filter (is_reached block) es)
    → NoneOf block es
unfolding IsStrictlySortedBy
none_of block [] sorted starts = tt
none_of block (e ∷ es) sorted starts =
    elim (is_reached block e) as
    (λ t. is_reached block e ≡ t → StartsPast block (cond t (e ∷ filter (is_reached block) es) (filter (is_reached block) es)) → NoneOf block (e ∷ es)) [
      | true ↦ λ le past. (past, all_past block e.0 es (reached _ true le) past sorted.0)
      | false ↦ λ lt rest. (before_all block e.0 (reached _ false lt), none_of block es sorted.1 rest)
    ] refl starts

pub without_none : (block : BlockId) (es : List (Holder × Bool)) → NoneOf block es → forget_block es block ≡ es
without_none block [] h = refl
without_none block (e ∷ es) h = ap (λ t. cond (not t) (e ∷ forget_block es block) (forget_block es block)) h.0 ∙ ap (λ r. e ∷ r) (without_none block es h.1)

others_none : (block : BlockId) (client : ℕ) (owners : Bool) (es : List (Holder × Bool)) → NoneOf block es → others es block client owners ≡ []
others_none block client owners [] h = refl
others_none block client owners (e ∷ es) h =
    ap (λ t. if t && not (e.0.client == client) && (e.1 || not owners) then e.0.client ∷ others es block client owners else others es block client owners) h.0
    ∙ others_none block client owners es h.1

-- the walk lists all other clients of the block
pub listed_is : (block : BlockId) (client : ℕ) (owners : Bool) (es : List (Holder × Bool)) → IsStrictlySortedBy holder_cmp (keys_of es)
    → listed (filter (is_reached block) es) block client owners ≡ others es block client owners
unfolding IsStrictlySortedBy
listed_is block client owners [] sorted = refl
listed_is block client owners (e ∷ es) sorted =
    let rest = listed_is block client owners es sorted.1 in
    let more = filter (is_reached block) es in
    let takes = not (e.0.client == client) && (e.1 || not owners) in
    elim (is_reached block e) as (λ t. is_reached block e ≡ t → listed (cond t (e ∷ more) more) block client owners ≡ others (e ∷ es) block client owners) [
      | true ↦ λ le. elim (same_block e.0.block block) as
          (λ s. same_block e.0.block block ≡ s
          → (if s then (if takes then e.0.client ∷ listed more block client owners else listed more block client owners) else []) ≡
          (if s && not (e.0.client == client) && (e.1 || not owners) then e.0.client ∷ others es block client owners else others es block client owners)) [
            | true ↦ λ _. ap (λ r. if takes then e.0.client ∷ r else r) rest
            | false ↦ λ past. sym (others_none block client owners es (all_past block e.0 es (reached _ true le) past sorted.0))
          ] refl
      | false ↦ λ lt. rest
          ∙ sym (ap (λ t. if t && not (e.0.client == client) &&
          (e.1 || not owners) then e.0.client ∷ others es block client owners else others es block client owners) (before_all block e.0 (reached _ false lt)))
    ] refl

-- a belief about the block is listed where its client is one of the others
pub listed_more : (clients : List ℕ) (e : Holder × Bool) (es : List (Holder × Bool)) (block : BlockId) (client : ℕ) (owners : Bool)
    → not (same_block e.0.block block) ≡ false
    → (if not (e.0.client == client) && (e.1 || not owners) then clients ++ e.0.client ∷ [] else clients) ++ listed es block client owners ≡
    clients ++ listed (e ∷ es) block client owners
listed_more clients e es block client owners here =
    let more = listed es block client owners in
    let takes = not (e.0.client == client) && (e.1 || not owners) in
    elim takes as (λ t. (if t then clients ++ e.0.client ∷ [] else clients) ++ more ≡ clients ++ (if t then e.0.client ∷ more else more)) [
      | true ↦ append_assoc clients (e.0.client ∷ []) more
      | false ↦ refl
    ]
    ∙ sym (ap (λ s. clients ++ (if s then (if takes then e.0.client ∷ more else more) else [])) (upheld (same_block e.0.block block) here))
  where
    upheld : (b : Bool) → not b ≡ false → b ≡ true
    upheld true h = refl
    upheld false h = sym h

-- a belief about another block is past the block
pub another : (b : Bool) → not b ≡ true → b ≡ false
another true h = sym h
another false h = refl

-- where the walk is past a block, no more is listed
pub listed_all : (clients : List ℕ) (es : List (Holder × Bool)) (block : BlockId) (client : ℕ) (owners : Bool) → StartsPast block es
    → clients ≡ clients ++ listed es block client owners
listed_all clients [] block client owners past = sym (append-nil clients)
listed_all clients (e ∷ es) block client owners past =
    let more = listed es block client owners in
    let takes = not (e.0.client == client) && (e.1 || not owners) in
    sym (ap (λ s. clients ++ (if s then (if takes then e.0.client ∷ more else more) else [])) past ∙ append-nil clients)

-- a belief about a block that goes is no belief about another
pub without_removed : (h : Holder) (block : BlockId) (es : List (Holder × Bool)) → same_block h.block block ≡ true
    → forget_block (remove_entry (is_at (holder_cmp h)) es) block ≡ forget_block es block
without_removed h block [] same = refl
without_removed h block (e ∷ es) same =
    elim (is_at (holder_cmp h) e.0) as
    (λ t. is_at (holder_cmp h) e.0 ≡ t → forget_block (cond t es (e ∷ remove_entry (is_at (holder_cmp h)) es)) block ≡ forget_block (e ∷ es) block) [
      | true ↦ λ at.
          let here : same_block e.0.block block ≡ true = ap (λ k. same_block k.block block) (sym (tells_apart holder_cmp_exact h e.0 at)) ∙ same in
          sym (ap (λ t. cond (not t) (e ∷ forget_block es block) (forget_block es block)) here)
      | false ↦ λ _. ap (λ r. cond (not (same_block e.0.block block)) (e ∷ r) r) (without_removed h block es same)
    ] refl
