-- Tables of versions, in which each block stands once: what is found of a block in a part of one, and once a version is put.
use Rattle.std.proofs.Common.{◌≡◌, ◌⊎◌, inl, inr, ℕ, zero, suc, ◌+◌, length, Bool, true, false, cond, ◌||◌, List, [], ◌∷◌, ◌++◌, map, take, drop, Option, Some, None, is_some, refl, sym, ap, ◌∙◌}
use Rattle.std.specs.List.{filter_map}
use Rattle.std.specs.Map.{keys_of}
use Rattle.std.proofs.lemmas.Map.Made.{is_some-lookup}
use Rattle.indexmap.specs.IndexMap.{insert_entry}
use Rattle.log_flight.specs.declared.dirty.Change.{Change}
use Rattle.log_flight.specs.Items.{change_items, items_of}
use Rattle.segment_format.specs.declared.segment.Item.{Item}
use Rattle.segment_format.specs.declared.segment.Segment.{Segment}
use Rattle.segment_format.specs.Rows.{row_of}
use Rattle.xfs_base.specs.Blocks.{same_block}
use Rattle.xfs_base.specs.declared.block.BlockId.{BlockId}
use Rattle.xfs_base.specs.declared.entry.Entry.{Entry}
use Rattle.xfs_base.proofs.BlockOrder.{same_block_exact}
use Rattle.xfs_base.proofs.Booleans.{contrary}
use Rattle.node_slots.specs.client_law.Blocks.{Once}
use Rattle.node_slots.specs.client_law.Unsettled.{version_at}
use Rattle.node_slots.proofs.client_law.Orders.{has, same_symmetric}

abbrev pub Versions : Type 0
Versions = List (BlockId × ℕ)

abbrev pub EachOnce : Versions → Type 0
EachOnce vs = Once (keys_of vs)

-- what is found stands there
pub found_has : (vs : Versions) (b : BlockId) (v : ℕ) → version_at vs b ≡ Some v → has b (keys_of vs) ≡ true
found_has vs b v h = sym (is_some-lookup (same_block b) vs) ∙ ap is_some h

-- ---- parts

-- what is found in the rest is found, where the first is another
later : (e : BlockId × ℕ) (es : Versions) (b : BlockId) (v : ℕ) → has e.0 (keys_of es) ≡ false → version_at es b ≡ Some v → version_at (e ∷ es) b ≡ Some v
later e es b v absent h = by_same (same_block b e.0) refl
  where
    by_same : (t : Bool) → same_block b e.0 ≡ t → cond t (Some e.1) (version_at es b) ≡ Some v
    by_same true same = contrary (sym absent ∙ ap (λ c. has c (keys_of es)) (same_block_exact b e.0 same) ∙ found_has es b v h)
    by_same false other = h

pub found_dropped : (n : ℕ) (vs : Versions) (b : BlockId) (v : ℕ) → EachOnce vs → version_at (drop n vs) b ≡ Some v → version_at vs b ≡ Some v
found_dropped zero vs b v once h = h
found_dropped (suc n) [] b v once h = h
found_dropped (suc n) (e ∷ es) b v once h = later e es b v once.0 (found_dropped n es b v once.1 h)

none_found : {A : Type 0} (x : A) → None ≡ Some x → false ≡ true
none_found x h = ap is_some h

-- a test decides between two, and so does each of them
cond_map : {A : Type 0} (t : Bool) (x y z : A) (v : A) → (y ≡ v → z ≡ v) → cond t x y ≡ v → cond t x z ≡ v
cond_map true x y z v f h = h
cond_map false x y z v f h = f h

pub found_taken : (n : ℕ) (vs : Versions) (b : BlockId) (v : ℕ) → version_at (take n vs) b ≡ Some v → version_at vs b ≡ Some v
found_taken zero vs b v h = contrary (none_found v h)
found_taken (suc n) [] b v h = h
found_taken (suc n) (e ∷ es) b v h = cond_map (same_block b e.0) (Some e.1) (version_at (take n es) b) (version_at es b) (Some v) (found_taken n es b v) h

pub taken_or_dropped : (n : ℕ) (vs : Versions) (b : BlockId) (v : ℕ) → version_at vs b ≡ Some v
    → (version_at (take n vs) b ≡ Some v) ⊎ (version_at (drop n vs) b ≡ Some v)
taken_or_dropped zero vs b v h = inr h
taken_or_dropped (suc n) [] b v h = inl h
taken_or_dropped (suc n) (e ∷ es) b v h = by_same (same_block b e.0) (taken_or_dropped n es b v) h
  where
    by_same : (t : Bool) → (version_at es b ≡ Some v → (version_at (take n es) b ≡ Some v) ⊎ (version_at (drop n es) b ≡ Some v))
        → cond t (Some e.1) (version_at es b) ≡ Some v → (cond t (Some e.1) (version_at (take n es) b) ≡ Some v) ⊎ (version_at (drop n es) b ≡ Some v)
    by_same true rest h = inl h
    by_same false rest h = rest h

-- a block isn't in both parts
pub not_in_both : (n : ℕ) (vs : Versions) (b : BlockId) (u v : ℕ) → EachOnce vs → version_at (take n vs) b ≡ Some u → version_at (drop n vs) b ≡ Some v
    → false ≡ true
not_in_both zero vs b u v once h g = none_found u h
not_in_both (suc n) [] b u v once h g = none_found u h
not_in_both (suc n) (e ∷ es) b u v once h g = by_same (same_block b e.0) refl (λ k. not_in_both n es b u v once.1 k g) h
  where
    by_same : (t : Bool) → same_block b e.0 ≡ t → (version_at (take n es) b ≡ Some u → false ≡ true) → cond t (Some e.1) (version_at (take n es) b) ≡ Some u
        → false ≡ true
    by_same true same rest h = sym once.0 ∙ ap (λ c. has c (keys_of es)) (same_block_exact b e.0 same) ∙ found_has es b v (found_dropped n es b v once.1 g)
    by_same false other rest h = rest h

pub once_dropped : (n : ℕ) (vs : Versions) → EachOnce vs → EachOnce (drop n vs)
once_dropped zero vs once = once
once_dropped (suc n) [] once = once
once_dropped (suc n) (e ∷ es) once = once_dropped n es once.1

absent_taken : (n : ℕ) (vs : Versions) (b : BlockId) → has b (keys_of vs) ≡ false → has b (keys_of (take n vs)) ≡ false
absent_taken zero vs b absent = refl
absent_taken (suc n) [] b absent = refl
absent_taken (suc n) (e ∷ es) b absent = by_same (same_block b e.0) (absent_taken n es b) absent
  where
    by_same : (t : Bool) → (has b (keys_of es) ≡ false → has b (keys_of (take n es)) ≡ false) → (t || has b (keys_of es)) ≡ false
        → (t || has b (keys_of (take n es))) ≡ false
    by_same true rest h = h
    by_same false rest h = rest h

pub once_taken : (n : ℕ) (vs : Versions) → EachOnce vs → EachOnce (take n vs)
once_taken zero vs once = tt
once_taken (suc n) [] once = once
once_taken (suc n) (e ∷ es) once = (absent_taken n es e.0 once.0, once_taken n es once.1)

-- ---- a version is put

pub same_turned : (a b : BlockId) → same_block a b ≡ same_block b a
same_turned a b = by_test (same_block a b) (same_block b a) (same_symmetric a b) (same_symmetric b a)
  where
    by_test : (x y : Bool) → (x ≡ true → y ≡ true) → (y ≡ true → x ≡ true) → x ≡ y
    by_test true y f g = sym (f refl)
    by_test false true f g = g refl
    by_test false false f g = refl

module _ (k : BlockId) (v : ℕ) where
  abbrev pub put : Versions → Versions
  put vs = insert_entry same_block vs k v

  put-step : (b : BlockId) (e : BlockId × ℕ) (es rest : Versions) (t : Bool) → same_block k e.0 ≡ t
      → version_at rest b ≡ cond (same_block b k) (Some v) (version_at es b)
      → version_at (cond t ((e.0, v) ∷ es) (e ∷ rest)) b ≡ cond (same_block b k) (Some v) (cond (same_block b e.0) (Some e.1) (version_at es b))
  put-step b e es rest true same h =
      ap (λ c. cond (same_block b c) (Some v) (version_at es b)) (same_block_exact k e.0 same)
      ∙ hidden (same_block b k) (same_block b e.0) (ap (same_block b) (sym (same_block_exact k e.0 same)))
    where
      hidden : (p q : Bool) → p ≡ q → cond p (Some v) (version_at es b) ≡ cond p (Some v) (cond q (Some e.1) (version_at es b))
      hidden true q h = refl
      hidden false true h = contrary h
      hidden false false h = refl
  put-step b e es rest false other h = ap (cond (same_block b e.0) (Some e.1)) h ∙ swapped (same_block b e.0) (same_block b k) apart
    where
      swapped : (p q : Bool) → (p ≡ true → q ≡ false)
          → cond p (Some e.1) (cond q (Some v) (version_at es b)) ≡ cond q (Some v) (cond p (Some e.1) (version_at es b))
      swapped true true f = contrary (sym (f refl))
      swapped true false f = refl
      swapped false q f = refl

      apart : same_block b e.0 ≡ true → same_block b k ≡ false
      apart same = ap (λ c. same_block c k) (sym (same_block_exact b e.0 same)) ∙ same_turned e.0 k ∙ other

  -- it is found, and each other is found as before
  pub found_put : (b : BlockId) (vs : Versions) → version_at (put vs) b ≡ cond (same_block b k) (Some v) (version_at vs b)
  found_put b [] = refl
  found_put b (e ∷ es) = put-step b e es (put es) (same_block k e.0) refl (found_put b es)

  has-step : (b : BlockId) (e : BlockId × ℕ) (es rest : Versions) (t : Bool) → same_block k e.0 ≡ t
      → has b (keys_of rest) ≡ (has b (keys_of es) || same_block b k)
      → has b (keys_of (cond t ((e.0, v) ∷ es) (e ∷ rest))) ≡ ((same_block b e.0 || has b (keys_of es)) || same_block b k)
  has-step b e es rest true same h = covered (same_block b e.0) (has b (keys_of es)) (same_block b k) (ap (same_block b) (sym (same_block_exact k e.0 same)))
    where
      covered : (p r q : Bool) → q ≡ p → (p || r) ≡ ((p || r) || q)
      covered true r q h = refl
      covered false true q h = refl
      covered false false q h = sym h
  has-step b e es rest false other h = ap (λ x. same_block b e.0 || x) h ∙ shifted (same_block b e.0) (has b (keys_of es)) (same_block b k)
    where
      shifted : (p r q : Bool) → (p || (r || q)) ≡ ((p || r) || q)
      shifted true r q = refl
      shifted false r q = refl

  has_put : (b : BlockId) (vs : Versions) → has b (keys_of (put vs)) ≡ (has b (keys_of vs) || same_block b k)
  has_put b [] = turned (same_block b k)
    where
      turned : (p : Bool) → (p || false) ≡ (false || p)
      turned true = refl
      turned false = refl
  has_put b (e ∷ es) = has-step b e es (put es) (same_block k e.0) refl (has_put b es)

  once-step : (e : BlockId × ℕ) (es : Versions) (t : Bool) → same_block k e.0 ≡ t → has e.0 (keys_of es) ≡ false → EachOnce es → EachOnce (put es)
      → EachOnce (cond t ((e.0, v) ∷ es) (e ∷ put es))
  once-step e es true same absent once rest = (absent, once)
  once-step e es false other absent once rest =
      (has_put e.0 es ∙ ap (λ r. r || same_block e.0 k) absent ∙ same_turned e.0 k ∙ other, rest)

  pub once_put : (vs : Versions) → EachOnce vs → EachOnce (put vs)
  once_put [] once = (refl, tt)
  once_put (e ∷ es) once = once-step e es (same_block k e.0) refl once.0 once.1 (once_put es once.1)

-- ---- changes and rows

abbrev pub version_of : BlockId × Change → BlockId × ℕ
version_of c = (c.0, c.1.entry.ver)

abbrev pub row_version : BlockId × Entry → BlockId × ℕ
row_version row = (row.0, row.1.ver)

pub versions_put : (k : BlockId) (change : Change) (cs : List (BlockId × Change))
    → map version_of (insert_entry same_block cs k change) ≡ insert_entry same_block (map version_of cs) k change.entry.ver
versions_put k change [] = refl
versions_put k change (c ∷ cs) = by_same (same_block k c.0) (versions_put k change cs)
  where
    by_same : (t : Bool) → map version_of (insert_entry same_block cs k change) ≡ insert_entry same_block (map version_of cs) k change.entry.ver
        → map version_of (cond t ((c.0, change) ∷ cs) (c ∷ insert_entry same_block cs k change))
        ≡ cond t ((c.0, change.entry.ver) ∷ map version_of cs) (version_of c ∷ insert_entry same_block (map version_of cs) k change.entry.ver)
    by_same true h = refl
    by_same false h = ap (λ rest. version_of c ∷ rest) h

-- what items tell of blocks
abbrev pub told : Segment → List Item → Versions
told s items = map row_version (filter_map (row_of s) items)

told-change : (s : Segment) (before : ℕ) (b : BlockId) (entry : Entry) (value : Option (List ℕ)) (rest : List Item)
    → told s (change_items before b (record { entry = entry; value = value }) ++ rest) ≡ (b, entry.ver) ∷ told s rest
told-change s before b entry None rest = refl
told-change s before b entry (Some bytes) rest = refl

-- the items of changes tell just the versions of these
pub versions_written : (s : Segment) (before : ℕ) (cs : List (BlockId × Change))
    → map row_version (filter_map (row_of s) (items_of before cs)) ≡ map version_of cs
versions_written s before [] = refl
versions_written s before (c ∷ cs) =
    told-change s before c.0 c.1.entry c.1.value _ ∙ ap (λ rest. version_of c ∷ rest) (versions_written s (before + length (change_items before c.0 c.1)) cs)
