-- What waits to be written and what is in flight of a client's blocks: each change of a block, each seal and each segment that is settled keeps that
-- just what is dirty waits or flies.
use Rattle.std.proofs.Common.{◌≡◌, ◌⊎◌, inl, inr, ℕ, ◌+◌, ◌<◌, ◌≤◌, Bool, true, false, cond, nat_lt, List, [], ◌∷◌, take, drop, Option, refl, sym, ap, subst, ◌∙◌, arith}
use Rattle.std.proofs.lemmas.Bool.Decides.{nat_tests}
use Rattle.token_client.specs.declared.held.Held.{Held}
use Rattle.token_client.specs.Held.{is_dirty, is_settled_by, version_settled, held_write}
use Rattle.token_client.specs.State.{TokensState, held_of, put_held, with_held}
use Rattle.token_client.specs.Transition.{Done, on_settled}
use Rattle.token_client.proofs.Tables.{put_each, held_of-put_itself}
use Rattle.token_law.specs.Books.{Row, AreOnce, row_in, nothing_said}
use Rattle.token_law.specs.Net.{all_settled}
use Rattle.token_law.specs.Owed.{IsNewest}
use Rattle.xfs_base.specs.Blocks.{same_block}
use Rattle.xfs_base.specs.declared.block.BlockId.{BlockId}
use Rattle.xfs_base.specs.Steps.{still}
use Rattle.xfs_base.proofs.BlockOrder.{same_block_exact, same_block_itself}
use Rattle.xfs_base.proofs.Booleans.{by_test, contrary}
use Rattle.node_slots.specs.node_tie.ClientLogs.{IsUnsettled}
use Rattle.node_slots.proofs.node_tie.ClientRows.{InOnePart, Rows, absent_said, in_one_part, put_row, said_put}

-- ---- one block

clean_low : (settled ver v : ℕ) → nat_lt settled ver ≡ false → settled < v → v ≤ ver → false ≡ true
clean_low settled ver v clean low high = grind (arith, nat_tests)

-- of a clean block nothing waits, and nothing is in flight
nothing_waits : (h : Held) (w f : Row) → IsUnsettled h w f → is_dirty h ≡ false → w ≡ nothing_said
nothing_waits h w f p clean = by_newest p.newest
  where
    by_newest : IsNewest h w → w ≡ nothing_said
    by_newest (inl none) = none
    by_newest (inr fact) = contrary (sym clean ∙ fact.0)

nothing_flies : (h : Held) (w f : Row) → IsUnsettled h w f → is_dirty h ≡ false → f.version ≡ 0
nothing_flies h w f p clean = by_flown p.flown
  where
    by_flown : (f.version ≡ 0) ⊎ ((h.settled < f.version) × (f.version ≤ h.ver)) → f.version ≡ 0
    by_flown (inl none) = none
    by_flown (inr fact) = contrary (clean_low h.settled h.ver f.version clean fact.0 fact.1)

module _ (w f : Row) where
  -- a clean block, of which nothing waits or flies
  clean_unsettled : (h : Held) → is_dirty h ≡ false → w ≡ nothing_said → f.version ≡ 0 → IsUnsettled h w f
  clean_unsettled h clean waits flies = record { newest = inl waits; unflown = inl waits; flown = inl flies; all = λ dirty. contrary (sym clean ∙ dirty) }

  -- a clean block becomes another clean one
  pub stays_clean : (h g : Held) → is_dirty h ≡ false → is_dirty g ≡ false → IsUnsettled h w f → IsUnsettled g w f
  stays_clean h g was now p = clean_unsettled g now (nothing_waits h w f p was) (nothing_flies h w f p was)

  -- the same version and value
  pub stays_same : (h g : Held) → g.ver ≡ h.ver → g.settled ≡ h.settled → g.value ≡ h.value → IsUnsettled h w f → IsUnsettled g w f
  stays_same h g ver settled value p = record {
    newest = by_newest p.newest;
    unflown = p.unflown;
    flown = by_flown p.flown;
    all = λ dirty. by_all (p.all (sym same ∙ dirty));
  }
    where
      same : is_dirty g ≡ is_dirty h
      same = ap (λ k. nat_lt g.settled k) ver ∙ ap (λ k. nat_lt k h.ver) settled

      by_newest : IsNewest h w → IsNewest g w
      by_newest (inl none) = inl none
      by_newest (inr fact) = inr (same ∙ fact.0, fact.1 ∙ sym ver, value ∙ fact.2)

      by_flown : (f.version ≡ 0) ⊎ ((h.settled < f.version) × (f.version ≤ h.ver)) → (f.version ≡ 0) ⊎ ((g.settled < f.version) × (f.version ≤ g.ver))
      by_flown (inl none) = inl none
      by_flown (inr fact) = inr (subst (λ k. k < f.version) (sym settled) fact.0, subst (λ k. f.version ≤ k) (sym ver) fact.1)

      by_all : (0 < w.version) ⊎ (f.version ≡ h.ver) → (0 < w.version) ⊎ (f.version ≡ g.ver)
      by_all (inl waits) = inl waits
      by_all (inr flies) = inr (flies ∙ sym ver)

  -- it is written, and waits
  pub stays_written : (h : Held) (value : Option (List ℕ)) → h.settled ≤ h.ver → IsUnsettled h w f
      → IsUnsettled (held_write h value) (record { version = h.ver + 1; value = value }) f
  stays_written h value below p = record {
    newest = inr (dirty h.settled h.ver below, refl, refl);
    unflown = inr (under p.flown);
    flown = further p.flown;
    all = λ d. inl (positive h.ver);
  }
    where
      dirty : (settled ver : ℕ) → settled ≤ ver → nat_lt settled (ver + 1) ≡ true
      dirty settled ver low = grind (arith, nat_tests)

      positive : (ver : ℕ) → 0 < ver + 1
      positive ver = omega arith

      zero_less : (v ver : ℕ) → v ≡ 0 → v < ver + 1
      zero_less v ver fact = omega (arith, fact)

      less : (v ver : ℕ) → v ≤ ver → v < ver + 1
      less v ver fact = omega (arith, fact)

      more : (v ver : ℕ) → v ≤ ver → v ≤ ver + 1
      more v ver fact = omega (arith, fact)

      under : (f.version ≡ 0) ⊎ ((h.settled < f.version) × (f.version ≤ h.ver)) → f.version < h.ver + 1
      under (inl none) = zero_less f.version h.ver none
      under (inr fact) = less f.version h.ver fact.1

      further : (f.version ≡ 0) ⊎ ((h.settled < f.version) × (f.version ≤ h.ver)) → (f.version ≡ 0) ⊎ ((h.settled < f.version) × (f.version ≤ h.ver + 1))
      further (inl none) = inl none
      further (inr fact) = inr (fact.0, more f.version h.ver fact.1)

-- it is sealed: what waits is in flight
sealed_first : (h : Held) (w : Row) → IsUnsettled h w nothing_said → IsUnsettled h nothing_said w
sealed_first h w p = record { newest = inl refl; unflown = inl refl; flown = flies p.newest; all = λ dirty. inr (newest_flies dirty p.newest (p.all dirty)) }
  where
    low : (settled ver v : ℕ) → nat_lt settled ver ≡ true → v ≡ ver → (settled < v) × (v ≤ ver)
    low settled ver v dirty fact = (above, omega (arith, fact))
      where
        above : settled < v
        above = grind (arith, nat_tests)

    none_dirty : (settled ver : ℕ) → nat_lt settled ver ≡ true → 0 ≡ ver → false ≡ true
    none_dirty settled ver dirty fact = grind (arith, nat_tests)

    flies : IsNewest h w → (w.version ≡ 0) ⊎ ((h.settled < w.version) × (w.version ≤ h.ver))
    flies (inl none) = inl (ap (λ (r : Row). r.version) none)
    flies (inr fact) = inr (low h.settled h.ver w.version fact.0 fact.1)

    newest_flies : is_dirty h ≡ true → IsNewest h w → (0 < w.version) ⊎ (0 ≡ h.ver) → w.version ≡ h.ver
    newest_flies dirty (inr fact) waits = fact.1
    newest_flies dirty (inl none) (inl waits) = absurd (not_positive w.version (ap (λ (r : Row). r.version) none) waits)
      where
        not_positive : (v : ℕ) → v ≡ 0 → 0 < v → ⊥
        not_positive v fact more = omega (arith, fact, more)
    newest_flies dirty (inl none) (inr flies) = contrary (none_dirty h.settled h.ver dirty flies)

-- what is in flight of it is settled
abbrev settled_by : Held → ℕ → Held
settled_by h v = cond (is_settled_by h v) (version_settled h v) h

settled_now : (h : Held) (w f : Row) → IsUnsettled h w f → IsUnsettled (settled_by h f.version) w nothing_said
settled_now h w f p = by_flown p.flown
  where
    not_news : (settled ver v : ℕ) → v ≡ 0 → is_settled_by (record h { settled = settled; ver = ver }) v ≡ false
    not_news settled ver v fact = grind (arith, nat_tests)

    news : (k : Held) (v : ℕ) → k.settled < v → v ≤ k.ver → is_settled_by k v ≡ true
    news k v low high = grind (arith, nat_tests)

    late : (v ver x : ℕ) → v < x → x ≡ ver → nat_lt v ver ≡ true
    late v ver x less fact = grind (arith, nat_tests)

    some : (v x : ℕ) → v < x → 0 < x
    some v x less = omega (arith, less)

    not_late : (v ver : ℕ) → nat_lt v ver ≡ true → v ≡ ver → false ≡ true
    not_late v ver less fact = grind (arith, nat_tests)

    was_dirty : (settled ver v : ℕ) → settled < v → v ≤ ver → nat_lt settled ver ≡ true
    was_dirty settled ver v low high = grind (arith, nat_tests)

    -- nothing of it flies
    quiet : f.version ≡ 0 → IsUnsettled h w nothing_said
    quiet none = record {
      newest = p.newest;
      unflown = by_unflown p.unflown;
      flown = inl refl;
      all = λ dirty. by_all (p.all dirty);
    }
      where
        by_unflown : (w ≡ nothing_said) ⊎ (f.version < w.version) → (w ≡ nothing_said) ⊎ (0 < w.version)
        by_unflown (inl fact) = inl fact
        by_unflown (inr less) = inr (some f.version w.version less)

        by_all : (0 < w.version) ⊎ (f.version ≡ h.ver) → (0 < w.version) ⊎ (0 ≡ h.ver)
        by_all (inl waits) = inl waits
        by_all (inr flies) = inr (sym none ∙ flies)

    lands : h.settled < f.version → f.version ≤ h.ver → IsUnsettled (version_settled h f.version) w nothing_said
    lands low high = record {
      newest = by_newest p.newest p.unflown;
      unflown = by_unflown p.unflown;
      flown = inl refl;
      all = λ dirty. by_all dirty (p.all (was_dirty h.settled h.ver f.version low high));
    }
      where
        by_newest : IsNewest h w → (w ≡ nothing_said) ⊎ (f.version < w.version) → IsNewest (version_settled h f.version) w
        by_newest (inl none) u = inl none
        by_newest (inr fact) (inl none) = inl none
        by_newest (inr fact) (inr less) = inr (late f.version h.ver w.version less fact.1, fact.1, fact.2)

        by_unflown : (w ≡ nothing_said) ⊎ (f.version < w.version) → (w ≡ nothing_said) ⊎ (0 < w.version)
        by_unflown (inl fact) = inl fact
        by_unflown (inr less) = inr (some f.version w.version less)

        by_all : nat_lt f.version h.ver ≡ true → (0 < w.version) ⊎ (f.version ≡ h.ver) → (0 < w.version) ⊎ (0 ≡ h.ver)
        by_all dirty (inl waits) = inl waits
        by_all dirty (inr flies) = contrary (not_late f.version h.ver dirty flies)

    by_flown : (f.version ≡ 0) ⊎ ((h.settled < f.version) × (f.version ≤ h.ver)) → IsUnsettled (settled_by h f.version) w nothing_said
    by_flown (inl none) =
        subst (λ t. IsUnsettled (cond t (version_settled h f.version) h) w nothing_said) (sym (not_news h.settled h.ver f.version none)) (quiet none)
    by_flown (inr fact) =
        subst (λ t. IsUnsettled (cond t (version_settled h f.version) h) w nothing_said) (sym (news h f.version fact.0 fact.1)) (lands fact.0 fact.1)

-- where nothing waits or flies it is clean
pub nothing_dirty : (h : Held) → IsUnsettled h nothing_said nothing_said → is_dirty h ≡ false
nothing_dirty h p = by_dirty (is_dirty h) refl
  where
    never : (settled ver : ℕ) → nat_lt settled ver ≡ true → (0 < 0) ⊎ (0 ≡ ver) → false ≡ true
    never settled ver dirty (inl less) = absurd (omega (arith, less))
    never settled ver dirty (inr fact) = none settled ver dirty fact
      where
        none : (settled ver : ℕ) → nat_lt settled ver ≡ true → 0 ≡ ver → false ≡ true
        none settled ver dirty fact = grind (arith, nat_tests)

    by_dirty : (t : Bool) → is_dirty h ≡ t → t ≡ false
    by_dirty true fact = sym (never h.settled h.ver fact (p.all fact))
    by_dirty false fact = refl

-- ---- all blocks

-- of each block this waits, and this is in flight
abbrev pub AllUnsettled : TokensState → (BlockId → Row) → (BlockId → Row) → Type 0
AllUnsettled t w f = (b : BlockId) → IsUnsettled (held_of t.blocks b) (w b) (f b)

-- what waits first is sealed
pub all_sealed : (t : TokensState) (n : ℕ) (rows : Rows) → AreOnce rows → AllUnsettled t (row_in rows) (row_in [])
    → AllUnsettled t (row_in (drop n rows)) (row_in (take n rows))
all_sealed t n rows once p b = by_part (in_one_part n rows b once)
  where
    by_part : InOnePart n rows b → IsUnsettled (held_of t.blocks b) (row_in (drop n rows) b) (row_in (take n rows) b)
    by_part (inl first) = subst (λ (w : Row). IsUnsettled (held_of t.blocks b) w (row_in (take n rows) b)) (sym first.1)
        (subst (λ (f : Row). IsUnsettled (held_of t.blocks b) nothing_said f) (sym first.0) (sealed_first (held_of t.blocks b) (row_in rows b) (p b)))
    by_part (inr rest) = subst (λ (w : Row). IsUnsettled (held_of t.blocks b) w (row_in (take n rows) b)) (sym rest.1)
        (subst (λ (f : Row). IsUnsettled (held_of t.blocks b) (row_in rows b) f) (sym rest.0) (p b))

-- what is sealed of a block is its newest version
pub taken_newest : (n : ℕ) (rows : Rows) (b : BlockId) (h : Held) → AreOnce rows → IsNewest h (row_in rows b) → IsNewest h (row_in (take n rows) b)
taken_newest n rows b h once newest = by_part (in_one_part n rows b once)
  where
    by_part : InOnePart n rows b → IsNewest h (row_in (take n rows) b)
    by_part (inl first) = subst (IsNewest h) (sym first.0) newest
    by_part (inr rest) = inl rest.0

-- what holds of one block, and of each other, holds of all
by_block : (P : BlockId → Type 0) (k : BlockId) → P k → ((b : BlockId) → same_block k b ≡ false → P b) → (b : BlockId) → P b
by_block P k here there b = by_same (same_block k b) refl
  where
    by_same : (t : Bool) → same_block k b ≡ t → P b
    by_same true same = subst P (sym (same_block_exact k b same)) here
    by_same false other = there b other

-- what holds of the block that is put, and of each other as it was, holds of all
pub put_cases : (P : BlockId → Held → Type 0) (k : BlockId) (h : Held) (es : List (BlockId × Held)) → P k h
    → ((b : BlockId) → same_block k b ≡ false → P b (held_of es b)) → (b : BlockId) → P b (held_of (put_held es k h) b)
put_cases P k h es here there =
    by_block (λ b. P b (held_of (put_held es k h) b)) k (subst (P k) (sym (held_of-put_itself k h es)) here)
    (λ b other. subst (P b) (sym (put_other b other)) (there b other))
  where
    put_other : (b : BlockId) → same_block k b ≡ false → held_of (put_held es k h) b ≡ held_of es b
    put_other b other = put_each (λ q w. same_block k q ≡ false → w ≡ held_of es q) k h es (λ o. contrary (sym o ∙ same_block_itself k)) (λ q o. refl) b other

-- one row is settled
settled_known : (t : TokensState) (k : BlockId) (v : ℕ) (P : BlockId → Held → Type 0) → P k (settled_by (held_of t.blocks k) v)
    → ((b : BlockId) → same_block k b ≡ false → P b (held_of t.blocks b)) → (b : BlockId) → P b (held_of (on_settled t k v).state.blocks b)
unfolding on_settled
settled_known t k v P here there =
    let h : Held = held_of t.blocks k in
    by_test (λ (d : Done). (b : BlockId) → P b (held_of d.state.blocks b)) (is_settled_by h v) (still (with_held t k (version_settled h v))) (still t)
    (λ fact. put_cases P k (version_settled h v) t.blocks (subst (λ x. P k (cond x (version_settled h v) h)) fact here) there)
    (λ fact. by_block (λ b. P b (held_of t.blocks b)) k (subst (λ x. P k (cond x (version_settled h v) h)) fact here) there)

-- what is in flight is settled
pub rows_settled : (t : TokensState) (w : BlockId → Row) (rows : Rows) → AreOnce rows → AllUnsettled t w (row_in rows)
    → AllUnsettled (all_settled t rows) w (row_in [])
rows_settled t w [] once p = p
rows_settled t w (r ∷ rows) once p = rows_settled (on_settled t r.0 r.1.version).state w rows once.1
    (settled_known t r.0 r.1.version (λ b h. IsUnsettled h (w b) (row_in rows b))
    (subst (λ (f : Row). IsUnsettled (settled_by (held_of t.blocks r.0) r.1.version) (w r.0) f) (sym (absent_said r.0 rows once.0))
    (settled_now (held_of t.blocks r.0) (w r.0) r.1
    (subst (λ x. IsUnsettled (held_of t.blocks r.0) (w r.0) (cond x r.1 (row_in rows r.0))) (same_block_itself r.0) (p r.0))))
    (λ b other. subst (λ x. IsUnsettled (held_of t.blocks b) (w b) (cond x r.1 (row_in rows b))) other (p b)))

-- a block is written, and its row waits
pub all_written : (t : TokensState) (k : BlockId) (value : Option (List ℕ)) (rows : Rows) (f : BlockId → Row)
    → (held_of t.blocks k).settled ≤ (held_of t.blocks k).ver
    → AllUnsettled t (row_in rows) f
    → AllUnsettled (with_held t k (held_write (held_of t.blocks k) value))
    (row_in (put_row k (record { version = (held_of t.blocks k).ver + 1; value = value }) rows)) f
all_written t k value rows f below p =
    put_cases (λ b h. IsUnsettled h (row_in (put_row k new rows) b) (f b)) k (held_write (held_of t.blocks k) value) t.blocks
    (subst (λ (w : Row). IsUnsettled (held_write (held_of t.blocks k) value) w (f k))
    (sym (said_put k new k rows ∙ ap (λ x. cond x new (row_in rows k)) (same_block_itself k)))
    (stays_written (row_in rows k) (f k) (held_of t.blocks k) value below (p k)))
    (λ b other. subst (λ (w : Row). IsUnsettled (held_of t.blocks b) w (f b)) (sym (said_put k new b rows ∙ ap (λ x. cond x new (row_in rows b)) other)) (p b))
  where
    new : Row
    new = record { version = (held_of t.blocks k).ver + 1; value = value }
