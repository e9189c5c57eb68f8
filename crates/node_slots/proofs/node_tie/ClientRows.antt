-- Rows of blocks, in which each block stands once: what they say of a block in a part of them, and once a row is put.
use Rattle.std.proofs.Common.{◌≡◌, ◌⊎◌, inl, inr, ℕ, zero, suc, ◌<◌, Bool, true, false, cond, ◌||◌, List, [], ◌∷◌, map, take, drop, refl, sym, ap, subst, ◌∙◌}
use Rattle.std.specs.List.{list_any}
use Rattle.indexmap.specs.IndexMap.{insert_entry}
use Rattle.log_flight.specs.declared.dirty.Change.{Change}
use Rattle.token_law.specs.Books.{Row, AreOnce, row_in, nothing_said}
use Rattle.xfs_base.specs.Blocks.{same_block}
use Rattle.xfs_base.specs.declared.block.BlockId.{BlockId}
use Rattle.xfs_base.proofs.BlockOrder.{same_block_exact, same_block_itself}
use Rattle.xfs_base.proofs.Booleans.{contrary}
use Rattle.node_slots.specs.node_tie.ClientLogs.{AreVersions}

abbrev pub Rows : Type 0
Rows = List (BlockId × Row)

-- the block stands in them
abbrev pub stands_in : BlockId → Rows → Bool
stands_in b rows = list_any (λ (r : BlockId × Row). same_block b r.0) rows

-- ---- names of blocks

same_symmetric : (a b : BlockId) → same_block a b ≡ true → same_block b a ≡ true
same_symmetric a b h = subst (λ c. same_block c a ≡ true) (sym (same_block_exact a b h)) (same_block_itself a)

pub same_turned : (a b : BlockId) → same_block a b ≡ same_block b a
same_turned a b = both (same_block a b) (same_block b a) (same_symmetric a b) (same_symmetric b a)
  where
    both : (x y : Bool) → (x ≡ true → y ≡ true) → (y ≡ true → x ≡ true) → x ≡ y
    both true y f g = sym (f refl)
    both false true f g = g refl
    both false false f g = refl

-- ---- parts

pub neither : (x y : Bool) → (x || y) ≡ false → (x ≡ false) × (y ≡ false)
neither true y h = contrary (sym h)
neither false y h = (refl, h)

-- of a block that doesn't stand in them nothing is said
pub absent_said : (b : BlockId) (rows : Rows) → stands_in b rows ≡ false → row_in rows b ≡ nothing_said
absent_said b [] h = refl
absent_said b (r ∷ rows) h =
    let parts : (same_block b r.0 ≡ false) × (stands_in b rows ≡ false) = neither (same_block b r.0) (stands_in b rows) h in
    ap (λ t. cond t r.1 (row_in rows b)) (same_turned r.0 b ∙ parts.0) ∙ absent_said b rows parts.1

absent_dropped : (n : ℕ) (b : BlockId) (rows : Rows) → stands_in b rows ≡ false → stands_in b (drop n rows) ≡ false
absent_dropped zero b rows h = h
absent_dropped (suc n) b [] h = h
absent_dropped (suc n) b (r ∷ rows) h = absent_dropped n b rows (neither (same_block b r.0) (stands_in b rows) h).1

absent_taken : (n : ℕ) (b : BlockId) (rows : Rows) → stands_in b rows ≡ false → stands_in b (take n rows) ≡ false
absent_taken zero b rows h = refl
absent_taken (suc n) b [] h = h
absent_taken (suc n) b (r ∷ rows) h =
    let parts : (same_block b r.0 ≡ false) × (stands_in b rows ≡ false) = neither (same_block b r.0) (stands_in b rows) h in
    ap (λ t. t || stands_in b (take n rows)) parts.0 ∙ absent_taken n b rows parts.1

pub once_dropped : (n : ℕ) (rows : Rows) → AreOnce rows → AreOnce (drop n rows)
once_dropped zero rows once = once
once_dropped (suc n) [] once = once
once_dropped (suc n) (r ∷ rows) once = once_dropped n rows once.1

pub once_taken : (n : ℕ) (rows : Rows) → AreOnce rows → AreOnce (take n rows)
once_taken zero rows once = tt
once_taken (suc n) [] once = once
once_taken (suc n) (r ∷ rows) once = (absent_taken n r.0 rows once.0, once_taken n rows once.1)

pub some_dropped : (n : ℕ) (rows : Rows) → AreVersions rows → AreVersions (drop n rows)
some_dropped zero rows some = some
some_dropped (suc n) [] some = some
some_dropped (suc n) (r ∷ rows) some = some_dropped n rows some.1

pub some_taken : (n : ℕ) (rows : Rows) → AreVersions rows → AreVersions (take n rows)
some_taken zero rows some = tt
some_taken (suc n) [] some = some
some_taken (suc n) (r ∷ rows) some = (some.0, some_taken n rows some.1)

-- what is said of a block is said by one part
abbrev pub InOnePart : ℕ → Rows → BlockId → Type 0
InOnePart n rows b =
    ((row_in (take n rows) b ≡ row_in rows b) × (row_in (drop n rows) b ≡ nothing_said))
    ⊎ ((row_in (take n rows) b ≡ nothing_said) × (row_in (drop n rows) b ≡ row_in rows b))

pub in_one_part : (n : ℕ) (rows : Rows) (b : BlockId) → AreOnce rows → InOnePart n rows b
in_one_part zero rows b once = inr (refl, refl)
in_one_part (suc n) [] b once = inl (refl, refl)
in_one_part (suc n) (r ∷ rows) b once = by_same (same_block r.0 b) refl (in_one_part n rows b once.1)
  where
    by_same : (t : Bool) → same_block r.0 b ≡ t → InOnePart n rows b
        → ((cond t r.1 (row_in (take n rows) b) ≡ cond t r.1 (row_in rows b)) × (row_in (drop n rows) b ≡ nothing_said))
        ⊎ ((cond t r.1 (row_in (take n rows) b) ≡ nothing_said) × (row_in (drop n rows) b ≡ cond t r.1 (row_in rows b)))
    by_same true same rest =
        inl (refl, absent_said b (drop n rows) (absent_dropped n b rows (ap (λ k. stands_in k rows) (same_block_exact r.0 b same) ∙ once.0)))
    by_same false other rest = rest

-- ---- a row is put

module _ (k : BlockId) (row : Row) where
  abbrev pub put_row : Rows → Rows
  put_row rows = insert_entry same_block rows k row

  put_step : (b : BlockId) (r : BlockId × Row) (rows rest : Rows) (t : Bool) → same_block k r.0 ≡ t → row_in rest b ≡ cond (same_block k b) row (row_in rows b)
      → row_in (cond t ((r.0, row) ∷ rows) (r ∷ rest)) b ≡ cond (same_block k b) row (cond (same_block r.0 b) r.1 (row_in rows b))
  put_step b r rows rest true same h =
      hidden (same_block r.0 b) (same_block k b) (ap (λ c. same_block c b) (same_block_exact k r.0 same))
    where
      hidden : (p q : Bool) → p ≡ q → cond p row (row_in rows b) ≡ cond q row (cond p r.1 (row_in rows b))
      hidden true true h = refl
      hidden true false h = contrary (sym h)
      hidden false true h = contrary h
      hidden false false h = refl
  put_step b r rows rest false other h = ap (cond (same_block r.0 b) r.1) h ∙ swapped (same_block r.0 b) (same_block k b) apart
    where
      swapped : (p q : Bool) → (p ≡ true → q ≡ false) → cond p r.1 (cond q row (row_in rows b)) ≡ cond q row (cond p r.1 (row_in rows b))
      swapped true true f = contrary (sym (f refl))
      swapped true false f = refl
      swapped false q f = refl

      apart : same_block r.0 b ≡ true → same_block k b ≡ false
      apart same = ap (same_block k) (same_block_exact r.0 b same) ∙ other

  -- it is said of its block, and of each other block the same as before
  pub said_put : (b : BlockId) (rows : Rows) → row_in (put_row rows) b ≡ cond (same_block k b) row (row_in rows b)
  said_put b [] = refl
  said_put b (r ∷ rows) = put_step b r rows (put_row rows) (same_block k r.0) refl (said_put b rows)

  stands_step : (b : BlockId) (r : BlockId × Row) (rows rest : Rows) (t : Bool) → same_block k r.0 ≡ t → stands_in b rest ≡ (stands_in b rows || same_block b k)
      → stands_in b (cond t ((r.0, row) ∷ rows) (r ∷ rest)) ≡ ((same_block b r.0 || stands_in b rows) || same_block b k)
  stands_step b r rows rest true same h = covered (same_block b r.0) (stands_in b rows) (same_block b k) (ap (same_block b) (sym (same_block_exact k r.0 same)))
    where
      covered : (p r q : Bool) → q ≡ p → (p || r) ≡ ((p || r) || q)
      covered true r q h = refl
      covered false true q h = refl
      covered false false q h = sym h
  stands_step b r rows rest false other h = ap (λ x. same_block b r.0 || x) h ∙ shifted (same_block b r.0) (stands_in b rows) (same_block b k)
    where
      shifted : (p r q : Bool) → (p || (r || q)) ≡ ((p || r) || q)
      shifted true r q = refl
      shifted false r q = refl

  stands_put : (b : BlockId) (rows : Rows) → stands_in b (put_row rows) ≡ (stands_in b rows || same_block b k)
  stands_put b [] = turned (same_block b k)
    where
      turned : (p : Bool) → (p || false) ≡ (false || p)
      turned true = refl
      turned false = refl
  stands_put b (r ∷ rows) = stands_step b r rows (put_row rows) (same_block k r.0) refl (stands_put b rows)

  once_step : (r : BlockId × Row) (rows : Rows) (t : Bool) → same_block k r.0 ≡ t → stands_in r.0 rows ≡ false → AreOnce rows → AreOnce (put_row rows)
      → AreOnce (cond t ((r.0, row) ∷ rows) (r ∷ put_row rows))
  once_step r rows true same absent once rest = (absent, once)
  once_step r rows false other absent once rest = (stands_put r.0 rows ∙ ap (λ t. t || same_block r.0 k) absent ∙ same_turned r.0 k ∙ other, rest)

  pub once_put : (rows : Rows) → AreOnce rows → AreOnce (put_row rows)
  once_put [] once = (refl, tt)
  once_put (r ∷ rows) once = once_step r rows (same_block k r.0) refl once.0 once.1 (once_put rows once.1)

  pub some_put : 0 < row.version → (rows : Rows) → AreVersions rows → AreVersions (put_row rows)
  some_put new [] some = (new, tt)
  some_put new (r ∷ rows) some = by_same (same_block k r.0) (some_put new rows some.1)
    where
      by_same : (t : Bool) → AreVersions (put_row rows) → AreVersions (cond t ((r.0, row) ∷ rows) (r ∷ put_row rows))
      by_same true rest = (new, some.1)
      by_same false rest = (some.0, rest)

-- rows of changes, once one is put
module _ (f : Change → Row) where
  abbrev pub row_with : BlockId × Change → BlockId × Row
  row_with c = (c.0, f c.1)

  pub rows_put : (k : BlockId) (change : Change) (cs : List (BlockId × Change))
      → map row_with (insert_entry same_block cs k change) ≡ put_row k (f change) (map row_with cs)
  rows_put k change [] = refl
  rows_put k change (c ∷ cs) = by_same (same_block k c.0) (rows_put k change cs)
    where
      by_same : (t : Bool) → map row_with (insert_entry same_block cs k change) ≡ put_row k (f change) (map row_with cs)
          → map row_with (cond t ((c.0, change) ∷ cs) (c ∷ insert_entry same_block cs k change))
          ≡ cond t ((c.0, f change) ∷ map row_with cs) (row_with c ∷ put_row k (f change) (map row_with cs))
      by_same true h = refl
      by_same false h = ap (λ rest. row_with c ∷ rest) h
