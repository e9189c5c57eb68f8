-- Between events the cache has just the blocks that are held and clean, and none twice. Within an event some blocks may be held and clean
-- and not be in it yet: those are excepted.
use Rattle.std.proofs.Common.{◌≡◌, ◌⊎◌, inl, inr, ℕ, Bool, true, false, ◌&&◌, not, nat_lt, List, [], ◌∷◌, map, take, drop, refl, sym, ap, subst, ◌∙◌, arith}
use Rattle.std.specs.Prelude.{fold}
use Rattle.std.specs.List.{AllByRecursion}
use Rattle.std.proofs.lemmas.Bool.Decides.{nat_tests}
use Rattle.client_serving.specs.declared.serving.Serving.{Serving}
use Rattle.client_serving.specs.Flights.{held_at}
use Rattle.client_serving.specs.Follow.{evicts, note_clean}
use Rattle.coop_cache.specs.CacheState.{CacheState}
use Rattle.coop_cache.specs.declared.output.Out.TheVariants.{Victim}
use Rattle.coop_cache.specs.Transition.{cache_clean, excess, is_clean, cache_leave, used_last}
use Rattle.token_client.specs.declared.held.Held.{Held}
use Rattle.token_client.specs.Held.{is_dirty, let_go, may_evict}
use Rattle.token_client.specs.State.{TokensState, held_of, put_held, with_held}
use Rattle.token_client.specs.Transition.{Done, on_evict}
use Rattle.token_client.proofs.Tables.{held_of-put_itself, put_each}
use Rattle.xfs_base.specs.Blocks.{same_block}
use Rattle.xfs_base.specs.declared.block.BlockId.{BlockId}
use Rattle.xfs_base.specs.declared.token.Mode.{Mode}
use Rattle.xfs_base.specs.declared.token.Mode.TheVariants.{Nothing, Copy, Own}
use Rattle.xfs_base.specs.Modes.{is_held, is_nothing}
use Rattle.xfs_base.specs.Steps.{still}
use Rattle.xfs_base.proofs.BlockOrder.{same_block_exact, same_block_itself}
use Rattle.xfs_base.proofs.Booleans.{by_test, contrary, or_first, or_second}
use Rattle.node_slots.specs.client_law.Blocks.{Once}
use Rattle.node_slots.specs.client_law.Caching.{IsCleanVictim}
use Rattle.node_slots.proofs.client_law.Giving.{dirty_same}
use Rattle.node_slots.proofs.client_law.Keeping.{At, Fact, TakesKeep}
use Rattle.node_slots.proofs.client_law.Orders.{either, has, in_drop, in_used, in_without, not_both_parts, once_drop, once_used, once_without, or_elim, same_symmetric, taken_or_left, to_used, to_without}
use Rattle.node_slots.proofs.client_law.Quiet.{IsQuiet}

-- the cache has just what is held and clean, but perhaps for these
pub record CachesBut (X : BlockId → Type 0) (t : TokensState) (c : CacheState) : Type 0 where
  pub once : Once c.blocks
  pub cached : (b : BlockId) → is_clean c b ≡ true → may_evict (held_of t.blocks b) ≡ true
  pub caches : (b : BlockId) → may_evict (held_of t.blocks b) ≡ true → (is_clean c b ≡ true) ⊎ X b

-- ---- one block is put

put_other : (k : BlockId) (h : Held) (es : List (BlockId × Held)) (q : BlockId) → same_block k q ≡ false → held_of (put_held es k h) q ≡ held_of es q
put_other k h es =
    put_each (λ q w. same_block k q ≡ false → w ≡ held_of es q) k h es (λ other. contrary (sym other ∙ same_block_itself k)) (λ q other. refl)

-- what holds of the block that is put, and of each other as it was, holds of all
pub put_cases : (P : BlockId → Held → Type 0) (k : BlockId) (h : Held) (es : List (BlockId × Held)) → P k h
    → ((q : BlockId) → same_block k q ≡ false → P q (held_of es q)) → (q : BlockId) → P q (held_of (put_held es k h) q)
put_cases P k h es here there q = by_same (either (same_block k q))
  where
    by_same : (same_block k q ≡ true) ⊎ (same_block k q ≡ false) → P q (held_of (put_held es k h) q)
    by_same (inl same) =
        subst (λ b. P b (held_of (put_held es k h) b)) (sym (same_block_exact k q same)) (subst (P k) (sym (held_of-put_itself k h es)) here)
    by_same (inr other) = subst (P q) (sym (put_other k h es q other)) (there q other)

-- ---- what is held and clean

evict_same : (h g : Held) → g.mode ≡ h.mode → g.ver ≡ h.ver → g.settled ≡ h.settled → may_evict g ≡ may_evict h
evict_same h g mode ver settled = ap (λ m. is_held m && not (is_dirty g)) mode ∙ ap (λ d. is_held h.mode && not d) (dirty_same h g ver settled)

pub nothing_stays : (h : Held) → h.mode ≡ Nothing → may_evict h ≡ false
nothing_stays h nothing = ap (λ m. is_held m && not (is_dirty h)) nothing

pub dirty_stays : (h : Held) → is_dirty h ≡ true → may_evict h ≡ false
dirty_stays h dirty = ap (λ d. is_held h.mode && not d) dirty ∙ none (is_held h.mode)
  where
    none : (b : Bool) → (b && false) ≡ false
    none true = refl
    none false = refl

pub clean_evicts : (h : Held) → is_held h.mode ≡ true → is_dirty h ≡ false → may_evict h ≡ true
clean_evicts h held clean = ap (λ b. b && not (is_dirty h)) held ∙ ap not clean

pub settled_clean : (h : Held) → h.settled ≡ h.ver → is_dirty h ≡ false
settled_clean h same = ap (λ n. nat_lt n h.ver) same ∙ itself h.ver
  where
    itself : (n : ℕ) → nat_lt n n ≡ false
    itself n = grind (arith, nat_tests)

nothing_is : (mode : Mode) → is_nothing mode ≡ true → mode ≡ Nothing
nothing_is Nothing h = refl
nothing_is Copy h = contrary h
nothing_is Own h = contrary h

-- ---- what gives nothing new

module _ (X : BlockId → Type 0) where
  -- a block is put that is held and clean as it was
  pub same-caches : (t : TokensState) (c : CacheState) → CachesBut X t c → (block : BlockId) (g : Held)
      → may_evict g ≡ may_evict (held_of t.blocks block) → CachesBut X (with_held t block g) c
  same-caches t c p block g same = record {
    once = p.once;
    cached = put_each (λ b h. is_clean c b ≡ true → may_evict h ≡ true) block g t.blocks (λ inside. same ∙ p.cached block inside) p.cached;
    caches = put_each (λ b h. may_evict h ≡ true → (is_clean c b ≡ true) ⊎ X b) block g t.blocks (λ clean. p.caches block (sym same ∙ clean)) p.caches;
  }

  -- a block is put that isn't held and clean, and leaves
  pub gone-caches : (t : TokensState) (c : CacheState) → CachesBut X t c → (block : BlockId) (g : Held) → may_evict g ≡ false
      → CachesBut X (with_held t block g) (cache_leave c block)
  gone-caches t c p block g gone = record {
    once = once_without block c.blocks p.once;
    cached =
        put_cases (λ b h. is_clean (cache_leave c block) b ≡ true → may_evict h ≡ true) block g t.blocks
        (λ inside. contrary (sym (in_without block block c.blocks inside).1 ∙ same_block_itself block))
        (λ b other inside. p.cached b (in_without block b c.blocks inside).0);
    caches =
        put_cases (λ b h. may_evict h ≡ true → (is_clean (cache_leave c block) b ≡ true) ⊎ X b) block g t.blocks (λ clean. contrary (sym gone ∙ clean))
        (λ b other clean. others b other (p.caches b clean));
  }
    where
      others : (b : BlockId) → same_block block b ≡ false → (is_clean c b ≡ true) ⊎ X b → (is_clean (cache_leave c block) b ≡ true) ⊎ X b
      others b other (inl inside) = inl (to_without block b c.blocks inside other)
      others b other (inr x) = inr x

  -- a block leaves that isn't held and clean
  pub cache_leave-caches : (t : TokensState) (c : CacheState) → CachesBut X t c → (block : BlockId) → may_evict (held_of t.blocks block) ≡ false
      → CachesBut X t (cache_leave c block)
  cache_leave-caches t c p block gone = record {
    once = once_without block c.blocks p.once;
    cached = λ b inside. p.cached b (in_without block b c.blocks inside).0;
    caches = λ b clean. others b clean (either (same_block block b)) (p.caches b clean);
  }
    where
      others : (b : BlockId) → may_evict (held_of t.blocks b) ≡ true → (same_block block b ≡ true) ⊎ (same_block block b ≡ false) → (is_clean c b ≡ true) ⊎ X b
          → (is_clean (cache_leave c block) b ≡ true) ⊎ X b
      others b clean (inl same) x =
          contrary (sym gone ∙ ap (λ a. may_evict (held_of t.blocks a)) (sym (same_block_exact block b same)) ∙ clean)
      others b clean (inr other) (inl inside) = inl (to_without block b c.blocks inside other)
      others b clean (inr other) (inr x) = inr x

  quiet-caches : (t u : TokensState) (c : CacheState) → IsQuiet t u → CachesBut X t c → CachesBut X u c
  quiet-caches t u c q p = record {
    once = p.once;
    cached = λ b inside. same b ∙ p.cached b inside;
    caches = λ b clean. p.caches b (sym (same b) ∙ clean);
  }
    where
      same : (b : BlockId) → may_evict (held_of u.blocks b) ≡ may_evict (held_of t.blocks b)
      same b = evict_same (held_of t.blocks b) (held_of u.blocks b) (q b).mode (q b).ver (q b).settled

  abbrev pub C : Fact
  C t l c = CachesBut X t c

  pub takes-cache : TakesKeep C
  takes-cache = record {
    quiet = λ t u l c q p. quiet-caches t u c q p;
    puts_off = λ t l c block g dirty fact p. same-caches t c p block g (evict_same (held_of t.blocks block) g fact.mode fact.ver fact.settled);
    lets = λ t l c block g clean fact p. gone-caches t c p block g (nothing_stays g fact.mode);
    lowers = λ t l c block g clean fact p.
        same-caches t c p block g
        (clean_evicts g (ap is_held fact.mode) (dirty_same (held_of t.blocks block) g fact.ver fact.settled ∙ clean)
        ∙ sym (clean_evicts (held_of t.blocks block) fact.held clean));
    leaves = λ t l c block nothing p. cache_leave-caches t c p block (nothing_stays (held_of t.blocks block) (nothing_is (held_of t.blocks block).mode nothing));
    seals = λ t l c p. p;
  }

-- ---- a block that is held and clean goes into the cache

module _ (X : BlockId → Type 0) where
  -- one victim after the other is let go
  abbrev Victims : List BlockId → BlockId → Type 0
  Victims vs b = (has b vs ≡ true) ⊎ X b

  abbrev AreAbsent : List BlockId → CacheState → Type 0
  AreAbsent vs c = (b : BlockId) → has b vs ≡ true → is_clean c b ≡ false

  module _ (v : BlockId) (vs : List BlockId) (t : TokensState) (c : CacheState) (absent : AreAbsent (v ∷ vs) c) (p : CachesBut (Victims (v ∷ vs)) t c) where
    but_first : (b : BlockId) → same_block v b ≡ false → (is_clean c b ≡ true) ⊎ Victims (v ∷ vs) b → (is_clean c b ≡ true) ⊎ Victims vs b
    but_first b other (inl inside) = inl inside
    but_first b other (inr (inl out)) =
        or_elim (same_block b v) (has b vs) (λ same. contrary (sym other ∙ same_symmetric b v same)) (λ rest. inr (inl rest)) out
    but_first b other (inr (inr x)) = inr (inr x)

    let_go-caches : CachesBut (Victims vs) (with_held t v (let_go (held_of t.blocks v))) c
    let_go-caches = record {
      once = p.once;
      cached =
          put_each (λ b h. is_clean c b ≡ true → may_evict h ≡ true) v (let_go (held_of t.blocks v)) t.blocks
          (λ inside. contrary (sym (absent v (or_first (same_block v v) (has v vs) (same_block_itself v))) ∙ inside)) p.cached;
      caches =
          put_cases (λ b h. may_evict h ≡ true → (is_clean c b ≡ true) ⊎ Victims vs b) v (let_go (held_of t.blocks v)) t.blocks (λ clean. contrary clean)
          (λ b other clean. but_first b other (p.caches b clean));
    }

    kept-caches : may_evict (held_of t.blocks v) ≡ false → CachesBut (Victims vs) t c
    kept-caches stays = record {
      once = p.once;
      cached = p.cached;
      caches = λ b clean. by_same b clean (either (same_block v b));
    }
      where
        by_same : (b : BlockId) → may_evict (held_of t.blocks b) ≡ true → (same_block v b ≡ true) ⊎ (same_block v b ≡ false)
            → (is_clean c b ≡ true) ⊎ Victims vs b
        by_same b clean (inl same) =
            contrary (sym stays ∙ ap (λ a. may_evict (held_of t.blocks a)) (sym (same_block_exact v b same)) ∙ clean)
        by_same b clean (inr other) = but_first b other (p.caches b clean)

    evicted-caches : CachesBut (Victims vs) (on_evict t v).state c
    unfolding on_evict
    evicted-caches =
        by_test (λ (d : Done). CachesBut (Victims vs) d.state c) (may_evict (held_of t.blocks v)) (still (with_held t v (let_go (held_of t.blocks v))))
        (still t)
        (λ x. let_go-caches) kept-caches

  none_left : (t : TokensState) (c : CacheState) → CachesBut (Victims []) t c → CachesBut X t c
  none_left t c p = record { once = p.once; cached = p.cached; caches = λ b clean. less (p.caches b clean) }
    where
      less : {A B : Type 0} → A ⊎ ((false ≡ true) ⊎ B) → A ⊎ B
      less (inl a) = inl a
      less (inr (inl h)) = contrary h
      less (inr (inr x)) = inr x

  all_evicted : (s : Serving) (vs : List BlockId) → AreAbsent vs s.cache → CachesBut (Victims vs) s.tokens s.cache → At (C X) (fold evicts s (map Victim vs))
  unfolding evicts
  all_evicted s [] absent p = none_left s.tokens s.cache p
  all_evicted s (v ∷ vs) absent p =
      all_evicted (evicts s (Victim v)) vs (λ b rest. absent b (or_second (same_block b v) (has b vs) rest)) (evicted-caches v vs s.tokens s.cache absent p)

  -- the block that goes in is excepted no more
  module _ (Y : BlockId → Type 0) (s : Serving) (block : BlockId) (here : may_evict (held_at s block) ≡ true) (p : At (C Y) s)
      (but : (b : BlockId) → Y b → (b ≡ block) ⊎ X b) where
    abbrev order : List BlockId
    order = used_last block s.cache.blocks

    abbrev over : ℕ
    over = excess s.cache.capacity order

    is_kept : (b : BlockId) → (b ≡ block) ⊎ (has b s.cache.blocks ≡ true) → may_evict (held_at s b) ≡ true
    is_kept b (inl same) = ap (λ a. may_evict (held_at s a)) same ∙ here
    is_kept b (inr inside) = p.cached b inside

    in_order : (b : BlockId) → has b order ≡ true → may_evict (held_at s b) ≡ true
    in_order b inside = is_kept b (in_used block b s.cache.blocks inside)

    placed : (b : BlockId) → (has b (drop over order) ≡ true) ⊎ (has b (take over order) ≡ true)
        → (has b (drop over order) ≡ true) ⊎ Victims (take over order) b
    placed b (inl stays) = inl stays
    placed b (inr leaves) = inr (inl leaves)

    ordered : (b : BlockId) → (is_clean s.cache b ≡ true) ⊎ Y b → (has b (drop over order) ≡ true) ⊎ Victims (take over order) b
    ordered b (inl inside) = placed b (taken_or_left over b order (to_used block b s.cache.blocks (inr inside)))
    ordered b (inr y) = by_block (but b y)
      where
        by_block : (b ≡ block) ⊎ X b → (has b (drop over order) ≡ true) ⊎ Victims (take over order) b
        by_block (inl same) = placed b (taken_or_left over b order (to_used block b s.cache.blocks (inl same)))
        by_block (inr x) = inr (inr x)

    pub clean-caches : At (C X) (note_clean s block)
    unfolding note_clean
    clean-caches =
        all_evicted (record s { cache = (cache_clean s.cache block).state }) (take over order)
        (λ b out. not_both_parts over b order (once_used block s.cache.blocks p.once) out)
        (record {
          once = once_drop over order (once_used block s.cache.blocks p.once);
          cached = λ b inside. in_order b (in_drop over b order inside);
          caches = λ b clean. ordered b (p.caches b clean);
        })

    pub clean_victims : (vs : List BlockId) → ((b : BlockId) → has b vs ≡ true → has b order ≡ true) → AllByRecursion (IsCleanVictim s) (map Victim vs)
    clean_victims [] inside = tt
    clean_victims (v ∷ vs) inside = (
      in_order v (inside v (or_first (same_block v v) (has v vs) (same_block_itself v))),
      clean_victims vs (λ b rest. inside b (or_second (same_block b v) (has b vs) rest)),
    )
