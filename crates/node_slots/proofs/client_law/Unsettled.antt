-- What waits and what is in flight, as tables of versions beside a client's tokens: that just what is dirty waits or flies, and that each
-- change of a block, each seal and each landing keeps it.
use Rattle.std.proofs.Common.{◌≡◌, ◌⊎◌, inl, inr, ℕ, ◌+◌, ◌<◌, ◌≤◌, Bool, true, false, cond, nat_lt, List, [], ◌∷◌, take, drop, Option, Some, None, is_some, unwrap_or, refl, sym, ap, subst, ◌∙◌, arith}
use Rattle.std.proofs.lemmas.Bool.Decides.{nat_tests}
use Rattle.token_client.specs.declared.held.Held.{Held}
use Rattle.token_client.specs.Held.{is_dirty, is_settled_by, version_settled, held_write}
use Rattle.token_client.specs.State.{TokensState, held_of, with_held}
use Rattle.token_client.specs.Transition.{Done, on_settled}
use Rattle.token_client.proofs.Tables.{put_each}
use Rattle.xfs_base.specs.Blocks.{same_block}
use Rattle.xfs_base.specs.declared.block.BlockId.{BlockId}
use Rattle.xfs_base.specs.Steps.{still}
use Rattle.xfs_base.proofs.BlockOrder.{same_block_exact, same_block_itself}
use Rattle.xfs_base.proofs.Booleans.{by_test, contrary}
use Rattle.node_slots.specs.client_law.Unsettled.{version_at}
use Rattle.node_slots.proofs.client_law.Caching.{put_cases}
use Rattle.node_slots.proofs.client_law.Giving.{dirty_same}
use Rattle.node_slots.proofs.client_law.Versions.{EachOnce, Versions, found_dropped, found_has, found_put, found_taken, not_in_both, once_dropped, once_put, once_taken, put, same_turned, taken_or_dropped}

-- `w` waits and `d` is in flight
pub record AreUnsettled (t : TokensState) (w d : Versions) : Type 0 where
  pub waits_once : EachOnce w
  pub flies_once : EachOnce d
  pub newest : (b : BlockId) (v : ℕ) → version_at w b ≡ Some v → v ≡ (held_of t.blocks b).ver
  pub unsettled : (b : BlockId) (v : ℕ) → version_at w b ≡ Some v → is_dirty (held_of t.blocks b) ≡ true
  pub unflown : (b : BlockId) (v u : ℕ) → version_at w b ≡ Some v → version_at d b ≡ Some u → u < v
  pub all : (b : BlockId) → is_dirty (held_of t.blocks b) ≡ true → (is_some (version_at w b) ≡ true) ⊎ (version_at d b ≡ Some (held_of t.blocks b).ver)
  pub above : (b : BlockId) (u : ℕ) → version_at d b ≡ Some u → (held_of t.blocks b).settled < u
  pub upto : (b : BlockId) (u : ℕ) → version_at d b ≡ Some u → u ≤ (held_of t.blocks b).ver

some_of : {A : Type 0} (o : Option A) → is_some o ≡ true → (x : A) × (o ≡ Some x)
some_of None h = contrary h
some_of (Some x) h = (x, refl)

some_exact : (a b : ℕ) → Some a ≡ Some b → a ≡ b
some_exact a b h = ap (λ o. unwrap_or o 0) h

-- nothing waits or flies where nothing is known
pub none_unsettled : (t : TokensState) → ((b : BlockId) → is_dirty (held_of t.blocks b) ≡ false) → AreUnsettled t [] []
none_unsettled t clean = record {
  waits_once = tt;
  flies_once = tt;
  newest = λ b v h. contrary (ap is_some h);
  unsettled = λ b v h. contrary (ap is_some h);
  unflown = λ b v u h. contrary (ap is_some h);
  all = λ b dirty. contrary (sym (clean b) ∙ dirty);
  above = λ b u h. contrary (ap is_some h);
  upto = λ b u h. contrary (ap is_some h);
}

between : (h : Held) (u : ℕ) → h.settled < u → u ≤ h.ver → is_dirty h ≡ true
between h u low high = grind (arith, nat_tests)

module _ (t : TokensState) (w d : Versions) (p : AreUnsettled t w d) where
  -- what is in flight is dirty
  flown_dirty : (b : BlockId) (u : ℕ) → version_at d b ≡ Some u → is_dirty (held_of t.blocks b) ≡ true
  flown_dirty b u h = between (held_of t.blocks b) u (p.above b u h) (p.upto b u h)

  -- the same versions of each block
  pub unsettled-same : (u : TokensState)
      → ((b : BlockId) → ((held_of u.blocks b).ver ≡ (held_of t.blocks b).ver) × ((held_of u.blocks b).settled ≡ (held_of t.blocks b).settled))
      → AreUnsettled u w d
  unsettled-same u same = record {
    waits_once = p.waits_once;
    flies_once = p.flies_once;
    newest = λ b v h. p.newest b v h ∙ sym (same b).0;
    unsettled = λ b v h. dirty b ∙ p.unsettled b v h;
    unflown = p.unflown;
    all = λ b fact. by_case b (p.all b (sym (dirty b) ∙ fact));
    above = λ b v h. subst (λ n. n < v) (sym (same b).1) (p.above b v h);
    upto = λ b v h. subst (λ n. v ≤ n) (sym (same b).0) (p.upto b v h);
  }
    where
      dirty : (b : BlockId) → is_dirty (held_of u.blocks b) ≡ is_dirty (held_of t.blocks b)
      dirty b = dirty_same (held_of t.blocks b) (held_of u.blocks b) (same b).0 (same b).1

      by_case : (b : BlockId) → (is_some (version_at w b) ≡ true) ⊎ (version_at d b ≡ Some (held_of t.blocks b).ver)
          → (is_some (version_at w b) ≡ true) ⊎ (version_at d b ≡ Some (held_of u.blocks b).ver)
      by_case b (inl waits) = inl waits
      by_case b (inr flies) = inr (flies ∙ ap (λ n. Some n) (sym (same b).0))

  module _ (block : BlockId) (g : Held) where
    abbrev h : Held
    h = held_of t.blocks block

    -- one block at the same versions
    pub unsettled-put : g.ver ≡ h.ver → g.settled ≡ h.settled → AreUnsettled (with_held t block g) w d
    unsettled-put ver settled =
        unsettled-same (with_held t block g)
        (put_each (λ b f. (f.ver ≡ (held_of t.blocks b).ver) × (f.settled ≡ (held_of t.blocks b).settled)) block g t.blocks (ver, settled) (λ b. (refl, refl)))

    -- a clean block becomes another clean one
    pub unsettled-clean : is_dirty h ≡ false → is_dirty g ≡ false → AreUnsettled (with_held t block g) w d
    unsettled-clean was now = record {
      waits_once = p.waits_once;
      flies_once = p.flies_once;
      newest = put_each (λ b f. (v : ℕ) → version_at w b ≡ Some v → v ≡ f.ver) block g t.blocks (λ v at. contrary (sym was ∙ p.unsettled block v at)) p.newest;
      unsettled =
          put_each (λ b f. (v : ℕ) → version_at w b ≡ Some v → is_dirty f ≡ true) block g t.blocks
          (λ v at. contrary (sym was ∙ p.unsettled block v at)) p.unsettled;
      unflown = p.unflown;
      all =
          put_each (λ b f. is_dirty f ≡ true → (is_some (version_at w b) ≡ true) ⊎ (version_at d b ≡ Some f.ver)) block g t.blocks
          (λ dirty. contrary (sym now ∙ dirty))
          p.all;
      above = put_each (λ b f. (u : ℕ) → version_at d b ≡ Some u → f.settled < u) block g t.blocks
          (λ u at. contrary (sym was ∙ flown_dirty block u at)) p.above;
      upto = put_each (λ b f. (u : ℕ) → version_at d b ≡ Some u → u ≤ f.ver) block g t.blocks (λ u at. contrary (sym was ∙ flown_dirty block u at)) p.upto;
    }

  -- ---- a block is written: its new version waits

  module _ (block : BlockId) (value : Option (List ℕ)) (below : (held_of t.blocks block).settled ≤ (held_of t.blocks block).ver) where
    abbrev old : Held
    old = held_of t.blocks block

    abbrev next : Versions
    next = put block (old.ver + 1) w

    at_block : version_at next block ≡ Some (old.ver + 1)
    at_block = found_put block (old.ver + 1) block w ∙ ap (λ r. cond r (Some (old.ver + 1)) (version_at w block)) (same_block_itself block)

    elsewhere : (b : BlockId) → same_block block b ≡ false → version_at next b ≡ version_at w b
    elsewhere b other = found_put block (old.ver + 1) b w ∙ ap (λ r. cond r (Some (old.ver + 1)) (version_at w b)) (same_turned b block ∙ other)

    written_is : (v : ℕ) → version_at next block ≡ Some v → v ≡ old.ver + 1
    written_is v at = sym (some_exact (old.ver + 1) v (sym at_block ∙ at))

    pub unsettled-held_write : AreUnsettled (with_held t block (held_write old value)) next d
    unsettled-held_write = record {
      waits_once = once_put block (old.ver + 1) w p.waits_once;
      flies_once = p.flies_once;
      newest =
          put_cases (λ b f. (v : ℕ) → version_at next b ≡ Some v → v ≡ f.ver) block (held_write old value) t.blocks written_is
          (λ b other v at. p.newest b v (sym (elsewhere b other) ∙ at));
      unsettled =
          put_cases (λ b f. (v : ℕ) → version_at next b ≡ Some v → is_dirty f ≡ true) block (held_write old value) t.blocks
          (λ v at. dirty_now old.settled old.ver below)
          (λ b other v at. p.unsettled b v (sym (elsewhere b other) ∙ at));
      unflown = λ b v u at flies. by_block b v u (same_block block b) refl at flies;
      all =
          put_cases (λ b f. is_dirty f ≡ true → (is_some (version_at next b) ≡ true) ⊎ (version_at d b ≡ Some f.ver)) block (held_write old value) t.blocks
          (λ dirty. inl (ap is_some at_block))
          (λ b other dirty. waits_still b other (p.all b dirty));
      above = put_each (λ b f. (u : ℕ) → version_at d b ≡ Some u → f.settled < u) block (held_write old value) t.blocks (p.above block) p.above;
      upto =
          put_each (λ b f. (u : ℕ) → version_at d b ≡ Some u → u ≤ f.ver) block (held_write old value) t.blocks
          (λ u flies. more u old.ver (p.upto block u flies)) p.upto;
    }
      where
        dirty_now : (settled ver : ℕ) → settled ≤ ver → nat_lt settled (ver + 1) ≡ true
        dirty_now settled ver low = grind (arith, nat_tests)

        more : (u ver : ℕ) → u ≤ ver → u ≤ ver + 1
        more u ver h = omega (arith, h)

        less : (u ver v : ℕ) → v ≡ ver + 1 → u ≤ ver → u < v
        less u ver v fact h = omega (arith, fact, h)

        waits_still : (b : BlockId) → same_block block b ≡ false → (is_some (version_at w b) ≡ true) ⊎ (version_at d b ≡ Some (held_of t.blocks b).ver)
            → (is_some (version_at next b) ≡ true) ⊎ (version_at d b ≡ Some (held_of t.blocks b).ver)
        waits_still b other (inl waits) = inl (ap is_some (elsewhere b other) ∙ waits)
        waits_still b other (inr flies) = inr flies

        by_block : (b : BlockId) (v u : ℕ) (r : Bool) → same_block block b ≡ r → version_at next b ≡ Some v → version_at d b ≡ Some u → u < v
        by_block b v u true same at flies =
            let fact : b ≡ block = same_block_exact block b same in
            less u old.ver v (written_is v (ap (version_at next) (sym fact) ∙ at)) (p.upto block u (ap (version_at d) (sym fact) ∙ flies))
        by_block b v u false other at flies = p.unflown b v u (sym (elsewhere b other) ∙ at) flies

-- ---- what waits first is sealed, where nothing flies

pub unsettled-sealed : (t : TokensState) (w : Versions) (n : ℕ) → AreUnsettled t w [] → AreUnsettled t (drop n w) (take n w)
unsettled-sealed t w n p = record {
  waits_once = once_dropped n w p.waits_once;
  flies_once = once_taken n w p.waits_once;
  newest = λ b v at. p.newest b v (found_dropped n w b v p.waits_once at);
  unsettled = λ b v at. p.unsettled b v (found_dropped n w b v p.waits_once at);
  unflown = λ b v u at flies. contrary (not_in_both n w b u v p.waits_once flies at);
  all = λ b dirty. by_case b (p.all b dirty);
  above = λ b u flies. low b u (p.newest b u (found_taken n w b u flies)) (p.unsettled b u (found_taken n w b u flies));
  upto = λ b u flies. subst (λ m. u ≤ m) (p.newest b u (found_taken n w b u flies)) (itself u);
}
  where
    itself : (u : ℕ) → u ≤ u
    itself u = omega arith

    low : (b : BlockId) (u : ℕ) → u ≡ (held_of t.blocks b).ver → is_dirty (held_of t.blocks b) ≡ true → (held_of t.blocks b).settled < u
    low b u fact dirty = grind (arith, nat_tests)

    part : (b : BlockId) (v : ℕ) → v ≡ (held_of t.blocks b).ver → (version_at (take n w) b ≡ Some v) ⊎ (version_at (drop n w) b ≡ Some v)
        → (is_some (version_at (drop n w) b) ≡ true) ⊎ (version_at (take n w) b ≡ Some (held_of t.blocks b).ver)
    part b v fact (inl taken) = inr (taken ∙ ap (λ m. Some m) fact)
    part b v fact (inr left) = inl (ap is_some left)

    found : (b : BlockId) → (v : ℕ) × (version_at w b ≡ Some v)
        → (is_some (version_at (drop n w) b) ≡ true) ⊎ (version_at (take n w) b ≡ Some (held_of t.blocks b).ver)
    found b e = part b e.0 (p.newest b e.0 e.1) (taken_or_dropped n w b e.0 e.1)

    by_case : (b : BlockId) → (is_some (version_at w b) ≡ true) ⊎ (None ≡ Some (held_of t.blocks b).ver)
        → (is_some (version_at (drop n w) b) ≡ true) ⊎ (version_at (take n w) b ≡ Some (held_of t.blocks b).ver)
    by_case b (inl waits) = found b (some_of (version_at w b) waits)
    by_case b (inr flies) = contrary (ap is_some flies)

-- ---- what flies is settled, one row after the other

module _ (t : TokensState) (w d : Versions) (block : BlockId) (u : ℕ) (p : AreUnsettled t w ((block, u) ∷ d)) where
  abbrev row : BlockId × ℕ
  row = (block, u)

  abbrev f : Held
  f = held_of t.blocks block

  flies_here : version_at (row ∷ d) block ≡ Some u
  flies_here = ap (λ r. cond r (Some u) (version_at d block)) (same_block_itself block)

  flies_there : (b : BlockId) → same_block block b ≡ false → version_at (row ∷ d) b ≡ version_at d b
  flies_there b other = ap (λ r. cond r (Some u) (version_at d b)) (same_turned b block ∙ other)

  -- the block isn't among the rest
  not_again : (v : ℕ) → version_at d block ≡ Some v → false ≡ true
  not_again v at = sym p.flies_once.0 ∙ found_has d block v at

  rest_flies : (b : BlockId) (v : ℕ) (r : Bool) → same_block block b ≡ r → version_at d b ≡ Some v → version_at (row ∷ d) b ≡ Some v
  rest_flies b v true same at = contrary (not_again v (ap (version_at d) (sym (same_block_exact block b same)) ∙ at))
  rest_flies b v false other at = flies_there b other ∙ at

  settled_now : AreUnsettled (with_held t block (version_settled f u)) w d
  settled_now = record {
    waits_once = p.waits_once;
    flies_once = p.flies_once.1;
    newest = put_each (λ b g. (v : ℕ) → version_at w b ≡ Some v → v ≡ g.ver) block (version_settled f u) t.blocks (p.newest block) p.newest;
    unsettled =
        put_each (λ b g. (v : ℕ) → version_at w b ≡ Some v → is_dirty g ≡ true) block (version_settled f u) t.blocks
        (λ v at. newer u v f.ver (p.unflown block v u at flies_here) (p.newest block v at)) p.unsettled;
    unflown = λ b v x at flies. p.unflown b v x at (rest_flies b x (same_block block b) refl flies);
    all =
        put_cases (λ b g. is_dirty g ≡ true → (is_some (version_at w b) ≡ true) ⊎ (version_at d b ≡ Some g.ver)) block (version_settled f u) t.blocks
        (λ dirty. here dirty (p.all block (between f u (p.above block u flies_here) (p.upto block u flies_here))))
        (λ b other dirty. there b other (p.all b dirty));
    above =
        put_cases (λ b g. (v : ℕ) → version_at d b ≡ Some v → g.settled < v) block (version_settled f u) t.blocks (λ v at. contrary (not_again v at))
        (λ b other v at. p.above b v (flies_there b other ∙ at));
    upto =
        put_cases (λ b g. (v : ℕ) → version_at d b ≡ Some v → v ≤ g.ver) block (version_settled f u) t.blocks (λ v at. contrary (not_again v at))
        (λ b other v at. p.upto b v (flies_there b other ∙ at));
  }
    where
      newer : (u v ver : ℕ) → u < v → v ≡ ver → nat_lt u ver ≡ true
      newer u v ver less fact = grind (arith, nat_tests)

      none_newer : (u ver : ℕ) → u ≡ ver → nat_lt u ver ≡ true → false ≡ true
      none_newer u ver fact less = grind (arith, nat_tests)

      here : nat_lt u f.ver ≡ true → (is_some (version_at w block) ≡ true) ⊎ (version_at (row ∷ d) block ≡ Some f.ver)
          → (is_some (version_at w block) ≡ true) ⊎ (version_at d block ≡ Some f.ver)
      here dirty (inl waits) = inl waits
      here dirty (inr flies) = contrary (none_newer u f.ver (some_exact u f.ver (sym flies_here ∙ flies)) dirty)

      there : (b : BlockId) → same_block block b ≡ false → (is_some (version_at w b) ≡ true) ⊎ (version_at (row ∷ d) b ≡ Some (held_of t.blocks b).ver)
          → (is_some (version_at w b) ≡ true) ⊎ (version_at d b ≡ Some (held_of t.blocks b).ver)
      there b other (inl waits) = inl waits
      there b other (inr flies) = inr (sym (flies_there b other) ∙ flies)

  pub unsettled-settled : AreUnsettled (on_settled t block u).state w d
  unfolding on_settled
  unsettled-settled =
      by_test (λ (x : Done). AreUnsettled x.state w d) (is_settled_by f u) (still (with_held t block (version_settled f u))) (still t) (λ news. settled_now)
      (λ old. contrary (sym old ∙ is_news f u (p.above block u flies_here) (p.upto block u flies_here)))
    where
      is_news : (h : Held) (u : ℕ) → h.settled < u → u ≤ h.ver → is_settled_by h u ≡ true
      is_news h u low high = grind (arith, nat_tests)
