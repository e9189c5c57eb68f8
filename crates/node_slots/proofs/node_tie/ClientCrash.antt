-- What a client that falls tells: of each dirty block that it may fall to its settled version, or to the one in flight.
use Rattle.std.proofs.Common.{◌≡◌, ◌⊎◌, inl, inr, ℕ, ◌<◌, ◌≤◌, Bool, true, false, cond, max, List, [], ◌∷◌, filter, map, Option, Some, None, is_some, unwrap_or, refl, sym, ap, subst, ◌∙◌, arith}
use Rattle.std.specs.List.{AllByRecursion, filter_map, slice_get}
use Rattle.std.specs.List.Sorted.{IsStrictlySortedBy}
use Rattle.std.specs.Map.{keys_of, lookup}
use Rattle.std.specs.BTreeMap.{is_at}
use Rattle.std.specs.Ordering.{is_eq}
use Rattle.std.specs.declared.cmp.Ordering.{Ordering}
use Rattle.std.specs.declared.cmp.Ordering.TheVariants.{Less, Equal, Greater}
use Rattle.std.proofs.lemmas.Cmp.{tied_itself}
use Rattle.act_tie.specs.BlockActs as acts
use Rattle.client_call.specs.Reads.{value_in}
use Rattle.client_node.specs.Crash.{fall_of, flight_of, flown_version, version_in}
use Rattle.client_serving.specs.declared.serving.Serving.{Serving}
use Rattle.log_flight.specs.Flights.{FlightState}
use Rattle.segment_format.specs.declared.segment.Item.{Item}
use Rattle.segment_format.specs.declared.segment.Item.TheVariants.{Block, Delta, Part}
use Rattle.token_client.specs.declared.held.Held.{Held}
use Rattle.token_client.specs.Held.{is_dirty, held_new}
use Rattle.token_client.specs.Laws.{IsSound}
use Rattle.token_client.specs.State.{dirty_in, held_of}
use Rattle.token_client.proofs.Tables.{InOrder}
use Rattle.token_law.specs.Books.{Row, Books, nothing_said, row_in}
use Rattle.token_law.specs.Owed.{FallsSo, fall_from}
use Rattle.version_model.specs.declared.act.Fall.{Fall}
use Rattle.version_model.specs.Legal.{NamesNoBlockTwice}
use Rattle.xfs_base.proofs.BlockOrder.{block_cmp_exact, block_cmp_total, same_block_exact, same_block_itself}
use Rattle.xfs_base.proofs.Booleans.{by_test, contrary}
use Rattle.xfs_base.specs.Blocks.{block_cmp, same_block}
use Rattle.xfs_base.specs.declared.block.BlockId.{BlockId}
use Rattle.node_slots.specs.node_tie.ClientLogs.{AreVersions, IsUnsettled, LogAgrees}
use Rattle.node_slots.specs.node_tie.LogRows.{row_told, rows_flown, rows_told, rows_waiting}
use Rattle.node_slots.proofs.node_tie.ClientRows.{same_turned}

-- ---- one block

-- the version in flight is what the rows say, or there is none
abbrev Flown : BlockId → ℕ → ℕ → Row → Type 0
Flown b low version row = ((version ≡ row.version) × (0 < row.version)) ⊎ ((row ≡ nothing_said) × (version ≡ low))

flown_of : (all : List Item) (b : BlockId) (low : ℕ) (items : List Item) → AreVersions (filter_map (row_told all) items)
    → Flown b low (version_in b low items) (row_in (filter_map (row_told all) items) b)
flown_of all b low [] some = inr (refl, refl)
flown_of all b low (Block block value ∷ items) some = flown_of all b low items some
flown_of all b low (Delta block ver hop item ∷ items) some = by_same (same_block block b) some.0 (flown_of all b low items some.1)
  where
    by_same : (t : Bool) → 0 < ver → Flown b low (version_in b low items) (row_in (filter_map (row_told all) items) b)
        → Flown b low (unwrap_or (cond t (Some ver) None) (version_in b low items))
        (cond t (record { version = ver; value = value_in (slice_get all item) }) (row_in (filter_map (row_told all) items) b))
    by_same true new rest = inl (refl, new)
    by_same false new rest = rest
flown_of all b low (Part slot rows ∷ items) some = flown_of all b low items some

-- so a dirty block may fall to the greater of both versions
high_is : (h : Held) (b : BlockId) (flight : Option FlightState) (waits : Row) → AreVersions (rows_flown flight)
    → IsUnsettled h waits (row_in (rows_flown flight) b)
    → flown_version flight b h.settled ≡ max h.settled (row_in (rows_flown flight) b).version
high_is h b None waits some p = none h.settled
  where
    none : (low : ℕ) → low ≡ max low 0
    none low = omega arith
high_is h b (Some f) waits some p = by_flown (flown_of f.segment.items b h.settled f.segment.items some) p.flown
  where
    none : (low v : ℕ) → v ≡ 0 → low ≡ max low v
    none low v fact = omega (arith, fact)

    more : (low v : ℕ) → low < v → v ≡ max low v
    more low v fact = omega (arith, fact)

    not_none : (v : ℕ) → 0 < v → v ≡ 0 → ⊥
    not_none v less fact = omega (arith, less, fact)

    by_flown : Flown b h.settled (version_in b h.settled f.segment.items) (row_in (rows_told f.segment.items) b)
        → ((row_in (rows_told f.segment.items) b).version ≡ 0)
        ⊎ ((h.settled < (row_in (rows_told f.segment.items) b).version) × ((row_in (rows_told f.segment.items) b).version ≤ h.ver))
        → version_in b h.settled f.segment.items ≡ max h.settled (row_in (rows_told f.segment.items) b).version
    by_flown (inl fact) (inl zero_is) = absurd (not_none (row_in (rows_told f.segment.items) b).version fact.1 zero_is)
    by_flown (inl fact) (inr above) = fact.0 ∙ more h.settled (row_in (rows_told f.segment.items) b).version above.0
    by_flown (inr fact) flown = fact.1 ∙ none h.settled (row_in (rows_told f.segment.items) b).version (ap (λ (r : Row). r.version) fact.0)

-- ---- the dirty ones

-- blocks in order are apart
apart : (a b : BlockId) → block_cmp a b ≡ Less → same_block a b ≡ false
apart a b below = by_same (same_block a b) refl
  where
    less_equal : Less ≡ Equal → true ≡ false
    less_equal fact = cc

    by_same : (t : Bool) → same_block a b ≡ t → t ≡ false
    by_same true same =
        let fact : block_cmp a b ≡ Equal = ap (block_cmp a) (same_block_exact a b same) ∙ tied_itself block_cmp_total a in
        less_equal (sym below ∙ fact)
    by_same false other = refl

-- the table finds by the order what the names say
eq_same : (a b : BlockId) → is_eq (block_cmp b a) ≡ same_block a b
eq_same a b = by_same (same_block a b) refl
  where
    equal : (o : Ordering) → is_eq o ≡ true → o ≡ Equal
    equal Less fact = contrary fact
    equal Equal fact = refl
    equal Greater fact = contrary fact

    not_equal : same_block a b ≡ false → (t : Bool) → is_eq (block_cmp b a) ≡ t → t ≡ false
    not_equal other true fact =
        let same : b ≡ a = block_cmp_exact b a (equal (block_cmp b a) fact) in
        sym (sym other ∙ ap (same_block a) same ∙ same_block_itself a)
    not_equal other false fact = refl

    by_same : (t : Bool) → same_block a b ≡ t → is_eq (block_cmp b a) ≡ t
    by_same true same = ap (λ k. is_eq (block_cmp k a)) (same_block_exact a b same) ∙ ap is_eq (tied_itself block_cmp_total a)
    by_same false other = not_equal other (is_eq (block_cmp b a)) refl

module _ (s : Serving) where
  abbrev falls_in : List (BlockId × Held) → List Fall
  falls_in es = map (fall_of s) (dirty_in es)

  block_is : (b : BlockId) → (fall_of s b).block ≡ b
  unfolding fall_of
  block_is b = refl

  apart_all : (a : BlockId) (es : List (BlockId × Held)) → AllByRecursion (λ b. block_cmp a b ≡ Less) (keys_of es)
      → AllByRecursion (λ (g : Fall). same_block (fall_of s a).block g.block ≡ false) (falls_in es)
  unfolding fall_of
  apart_all a [] below = tt
  apart_all a (e ∷ es) below =
      let rows : List (BlockId × Held) = filter (λ (x : BlockId × Held). is_dirty x.1) es in
      by_test (λ (xs : List (BlockId × Held)). AllByRecursion (λ (g : Fall). same_block a g.block ≡ false) (map (fall_of s) (keys_of xs))) (is_dirty e.1)
      (e ∷ rows) rows
      (λ dirty. (apart a e.0 below.0, apart_all a es below.1)) (λ clean. apart_all a es below.1)

  -- no block falls twice
  pub once : (es : List (BlockId × Held)) → InOrder es → NamesNoBlockTwice (falls_in es)
  unfolding IsStrictlySortedBy
  once [] sorted = tt
  once (e ∷ es) sorted =
      let rows : List (BlockId × Held) = filter (λ (x : BlockId × Held). is_dirty x.1) es in
      by_test (λ (xs : List (BlockId × Held)). NamesNoBlockTwice (map (fall_of s) (keys_of xs))) (is_dirty e.1) (e ∷ rows) rows
      (λ dirty. (apart_all e.0 es sorted.0, once es sorted.1)) (λ clean. once es sorted.1)

  -- none of the others is found
  none_found : (b : BlockId) (es : List (BlockId × Held)) → AllByRecursion (λ k. block_cmp b k ≡ Less) (keys_of es) → acts.fall_of b (falls_in es) ≡ None
  unfolding fall_of
  none_found b [] below = refl
  none_found b (e ∷ es) below =
      let rows : List (BlockId × Held) = filter (λ (x : BlockId × Held). is_dirty x.1) es in
      by_test (λ (xs : List (BlockId × Held)). acts.fall_of b (map (fall_of s) (keys_of xs)) ≡ None) (is_dirty e.1) (e ∷ rows) rows
      (λ dirty. ap (λ t. cond t (Some (fall_of s e.0)) (acts.fall_of b (falls_in es))) (same_turned e.0 b ∙ apart b e.0 below.0) ∙ none_found b es below.1)
      (λ clean. none_found b es below.1)

  -- a block falls where it is dirty
  abbrev Found : BlockId → List (BlockId × Held) → Held → Type 0
  Found b es h = acts.fall_of b (falls_in es) ≡ cond (is_dirty h) (Some (fall_of s b)) None

  found_first : (b : BlockId) (e : BlockId × Held) (es : List (BlockId × Held)) → AllByRecursion (λ k. block_cmp e.0 k ≡ Less) (keys_of es) → e.0 ≡ b
      → Found b (e ∷ es) e.1
  unfolding fall_of
  found_first b e es below same = at_head (is_dirty e.1)
    where
      at_head : (t : Bool)
          → acts.fall_of b
          (map (fall_of s) (keys_of (cond t (e ∷ filter (λ (x : BlockId × Held). is_dirty x.1) es) (filter (λ (x : BlockId × Held). is_dirty x.1) es))))
          ≡ cond t (Some (fall_of s b)) None
      at_head true =
          ap (λ t. cond t (Some (fall_of s e.0)) (acts.fall_of b (falls_in es))) (ap (λ k. same_block k b) same ∙ same_block_itself b)
          ∙ ap (λ k. Some (fall_of s k)) same
      at_head false = none_found b es (subst (λ k. AllByRecursion (λ q. block_cmp k q ≡ Less) (keys_of es)) same below)

  found_later : (b : BlockId) (e : BlockId × Held) (es : List (BlockId × Held)) (h : Held) → same_block e.0 b ≡ false → Found b es h → Found b (e ∷ es) h
  unfolding fall_of
  found_later b e es h other rest =
      let rows : List (BlockId × Held) = filter (λ (x : BlockId × Held). is_dirty x.1) es in
      by_test (λ (xs : List (BlockId × Held)). acts.fall_of b (map (fall_of s) (keys_of xs)) ≡ cond (is_dirty h) (Some (fall_of s b)) None) (is_dirty e.1)
      (e ∷ rows) rows
      (λ dirty. ap (λ t. cond t (Some (fall_of s e.0)) (acts.fall_of b (falls_in es))) other ∙ rest) (λ clean. rest)

  found_step : (b : BlockId) (e : BlockId × Held) (es : List (BlockId × Held)) → AllByRecursion (λ k. block_cmp e.0 k ≡ Less) (keys_of es)
      → Found b es (held_of es b)
      → Found b (e ∷ es) (held_of (e ∷ es) b)
  found_step b e es below rest =
      subst (λ t. Found b (e ∷ es) (unwrap_or (cond t (Some e.1) (lookup (is_at (block_cmp b)) es)) held_new)) (sym (eq_same e.0 b))
      (by_same (same_block e.0 b) refl)
    where
      by_same : (t : Bool) → same_block e.0 b ≡ t → Found b (e ∷ es) (unwrap_or (cond t (Some e.1) (lookup (is_at (block_cmp b)) es)) held_new)
      by_same true same = found_first b e es below (sym (same_block_exact e.0 b same))
      by_same false other = found_later b e es (held_of es b) other rest

  found : (b : BlockId) (es : List (BlockId × Held)) → InOrder es → Found b es (held_of es b)
  unfolding IsStrictlySortedBy
  found b [] sorted = refl
  found b (e ∷ es) sorted = found_step b e es sorted.0 (found b es sorted.1)

  -- ---- what it tells

  flies_so : (flight : Option FlightState) → is_some (flight_of flight) ≡ is_some flight
  flies_so None = refl
  flies_so (Some f) = refl

  fall_is : (b : BlockId) (row : Row) → flown_version s.log.flight b (held_of s.tokens.blocks b).settled ≡ max (held_of s.tokens.blocks b).settled row.version
      → cond (is_dirty (held_of s.tokens.blocks b)) (Some (fall_of s b)) None ≡ fall_from b (held_of s.tokens.blocks b) row
  unfolding fall_of
  fall_is b row high =
      ap (λ (v : ℕ). cond (is_dirty (held_of s.tokens.blocks b)) (Some (record { block = b; low = (held_of s.tokens.blocks b).settled; high = v })) None) high

  pub falls_so : (k : Books) (c : ℕ) → IsSound s.tokens → LogAgrees k c s.tokens s.log
      → FallsSo k c s.tokens (flight_of s.log.flight) (map (fall_of s) (dirty_in s.tokens.blocks))
  falls_so k c sound g = record {
    flies = flies_so s.log.flight ∙ sym g.seen.flying;
    each = λ b.
        found b s.tokens.blocks sound.sorted
        ∙ fall_is b (row_in (rows_flown s.log.flight) b)
        (high_is (held_of s.tokens.blocks b) b s.log.flight (row_in (rows_waiting s.log) b) g.unsettled.flies_some (g.unsettled.each b))
        ∙ ap (λ (rows : List (BlockId × Row)). fall_from b (held_of s.tokens.blocks b) (row_in rows b)) (sym g.said);
  }
