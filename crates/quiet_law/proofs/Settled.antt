-- What a client knows of blocks once all that waited is settled: nothing is dirty, nothing is asked for or to be given up, and all versions and stamps are as they
-- were; what the cache has no place for isn't held.
use Rattle.std.proofs.Common.{◌≡◌, ℕ, ◌≤◌, ◌&&◌, ◌||◌, ◌⊎◌, inl, inr, not, Bool, true, false, cond, nat_lt, nat_le, List, [], ◌∷◌, drop, take, fold, refl, sym, ap, subst, ◌∙◌, arith}
use Rattle.std.proofs.lemmas.Bool.{false≢true}
use Rattle.std.proofs.lemmas.Bool.Decides.{nat_tests}
use Rattle.std.specs.List.{AllByRecursion, list_any}
use Rattle.coop_cache.specs.Transition.{excess, used_last}
use Rattle.token_client.proofs.Tables.{held_of-put_itself, put_each, put_same}
use Rattle.token_client.specs.declared.held.Held.{Held}
use Rattle.token_client.specs.Held.{is_dirty, is_settled_by, let_go, may_evict, version_settled}
use Rattle.token_client.specs.State.{held_of, put_held}
use Rattle.xfs_base.proofs.BlockOrder.{same_block_exact, same_block_itself}
use Rattle.xfs_base.specs.Blocks.{same_block}
use Rattle.xfs_base.specs.declared.block.BlockId.{BlockId}
use Rattle.xfs_base.specs.declared.entry.Entry.{Entry}
use Rattle.xfs_base.specs.Modes.{is_held}
use Rattle.quiet_law.specs.Drained.{IsLow, IsQuietBlock, mode_number}
use Rattle.quiet_nodes.proofs.Settling.{Known, all_settled, comes_in, leaves, row_comes_in, row_settles}
use Rattle.quiet_law.proofs.Waiting.{other_held}

-- what each step keeps of what is known, all steps keep
fold_keeps : {X : Type 0} (P : Known → Type 0) (on : Known → X → Known) → ((k : Known) (x : X) → P k → P (on k x)) → (xs : List X) (k : Known) → P k → P (fold on k xs)
fold_keeps P on keeps [] k h = h
fold_keeps P on keeps (x ∷ xs) k h = fold_keeps P on keeps xs (on k x) (keeps k x h)

-- what no block that leaves changes, the cache keeps
module _ (capacity : ℕ) (P : List (BlockId × Held) → Type 0) (keeps : (k : Known) (b : BlockId) → P k.blocks → P (leaves k b).blocks) where
  one_comes_in : (k : Known) (row : BlockId × Entry) → P k.blocks → P (row_comes_in capacity k row).blocks
  one_comes_in k row h =
      elim (not (is_dirty (held_of k.blocks row.0)) && is_held (held_of k.blocks row.0).mode) as (λ t. P (cond t (comes_in capacity k row.0) k).blocks) [
        | true ↦ fold_keeps (λ x. P x.blocks) leaves keeps (take (excess capacity (used_last row.0 k.cached)) (used_last row.0 k.cached))
            (record k { cached = drop (excess capacity (used_last row.0 k.cached)) (used_last row.0 k.cached) }) h
        | false ↦ h
      ]

  all_come_in : (rows : List (BlockId × Entry)) (k : Known) → P k.blocks → P (fold (row_comes_in capacity) k rows).blocks
  all_come_in rows k h = fold_keeps (λ x. P x.blocks) (row_comes_in capacity) one_comes_in rows k h

-- ---- fields that stay

module _ {A : Type 0} (f : Held → A) (settling : (h : Held) (ver : ℕ) → f (version_settled h ver) ≡ f h) (leaving : (h : Held) → f (let_go h) ≡ f h)
    (capacity : ℕ) (blocks : List (BlockId × Held)) where
  abbrev Same : List (BlockId × Held) → Type 0
  Same now = (x : BlockId) → f (held_of now x) ≡ f (held_of blocks x)

  put_is : (now : List (BlockId × Held)) (b : BlockId) (h : Held) (t : Bool) → f h ≡ f (held_of now b) → Same now → Same (cond t (put_held now b h) now)
  put_is now b h true same all x = put_same f x b h now same ∙ all x
  put_is now b h false same all x = all x

  settling_is : (k : Known) (row : BlockId × Entry) → Same k.blocks → Same (row_settles k row).blocks
  settling_is k row all =
      put_is k.blocks row.0 (version_settled (held_of k.blocks row.0) row.1.ver) (is_settled_by (held_of k.blocks row.0) row.1.ver)
      (settling (held_of k.blocks row.0) row.1.ver) all

  leaving_is : (k : Known) (b : BlockId) → Same k.blocks → Same (leaves k b).blocks
  leaving_is k b all = put_is k.blocks b (let_go (held_of k.blocks b)) (may_evict (held_of k.blocks b)) (leaving (held_of k.blocks b)) all

  pub field_stays : (cached : List BlockId) (rows : List (BlockId × Entry)) (x : BlockId)
      → f (held_of (all_settled capacity (record { blocks = blocks; cached = cached }) rows).blocks x) ≡ f (held_of blocks x)
  field_stays cached rows =
      all_come_in capacity Same leaving_is rows (fold row_settles (record { blocks = blocks; cached = cached }) rows)
      (fold_keeps (λ k. Same k.blocks) row_settles settling_is rows (record { blocks = blocks; cached = cached }) (λ x. refl))

-- ---- the mode stays or falls

module _ (capacity : ℕ) (blocks : List (BlockId × Held)) where
  abbrev NoMore : List (BlockId × Held) → Type 0
  NoMore now = (x : BlockId) → mode_number (held_of now x).mode ≤ mode_number (held_of blocks x).mode

  put_no_more : (now : List (BlockId × Held)) (b : BlockId) (h : Held) (t : Bool) → mode_number h.mode ≤ mode_number (held_of now b).mode → NoMore now
      → NoMore (cond t (put_held now b h) now)
  put_no_more now b h true less all =
      put_each (λ x g. mode_number g.mode ≤ mode_number (held_of blocks x).mode) b h now (let before = all b in omega (arith, less)) all
  put_no_more now b h false less all = all

  pub mode_falls : (cached : List BlockId) (rows : List (BlockId × Entry))
      → NoMore (all_settled capacity (record { blocks = blocks; cached = cached }) rows).blocks
  mode_falls cached rows =
      all_come_in capacity NoMore
      (λ k b all. put_no_more k.blocks b (let_go (held_of k.blocks b)) (may_evict (held_of k.blocks b)) (omega arith) all)
      rows (fold row_settles (record { blocks = blocks; cached = cached }) rows)
      (fold_keeps (λ k. NoMore k.blocks) row_settles
      (λ k row all. put_no_more k.blocks row.0 (version_settled (held_of k.blocks row.0) row.1.ver) (is_settled_by (held_of k.blocks row.0) row.1.ver) (omega arith) all)
      rows (record { blocks = blocks; cached = cached }) (λ x. omega arith))

-- ---- what is settled is not beyond what there is

module _ (capacity : ℕ) (blocks : List (BlockId × Held)) where
  abbrev pub AreBehind : List (BlockId × Held) → Type 0
  AreBehind now = (x : BlockId) → (held_of now x).settled ≤ (held_of now x).ver

  put_behind : (now : List (BlockId × Held)) (b : BlockId) (h : Held) (t : Bool) → (t ≡ true → h.settled ≤ h.ver) → AreBehind now → AreBehind (cond t (put_held now b h) now)
  put_behind now b h true here all = put_each (λ x g. g.settled ≤ g.ver) b h now (here refl) all
  put_behind now b h false here all = all

  its_version : (s v w : ℕ) → (nat_lt s v && nat_le v w) ≡ true → v ≤ w
  its_version s v w h = grind (arith, nat_tests)

  pub behind_stays : (cached : List BlockId) (rows : List (BlockId × Entry)) → AreBehind blocks
      → AreBehind (all_settled capacity (record { blocks = blocks; cached = cached }) rows).blocks
  behind_stays cached rows before =
      all_come_in capacity AreBehind
      (λ k b all. put_behind k.blocks b (let_go (held_of k.blocks b)) (may_evict (held_of k.blocks b)) (λ _. all b) all)
      rows (fold row_settles (record { blocks = blocks; cached = cached }) rows)
      (fold_keeps (λ k. AreBehind k.blocks) row_settles
      (λ k row all. put_behind k.blocks row.0 (version_settled (held_of k.blocks row.0) row.1.ver) (is_settled_by (held_of k.blocks row.0) row.1.ver)
      (its_version (held_of k.blocks row.0).settled row.1.ver (held_of k.blocks row.0).ver) all)
      rows (record { blocks = blocks; cached = cached }) before)

-- ---- nothing is dirty

abbrev IsClean : List (BlockId × Held) → BlockId → Type 0
IsClean blocks x = is_dirty (held_of blocks x) ≡ false

abbrev pub AreNewest : List (BlockId × Held) → List (BlockId × Entry) → Type 0
AreNewest blocks rows = AllByRecursion (λ (row : BlockId × Entry). row.1.ver ≡ (held_of blocks row.0).ver) rows

not_below_itself : (v w : ℕ) → v ≡ w → nat_lt v w ≡ false
not_below_itself v w same = grind (arith, nat_tests)

not_news : (s v w : ℕ) → v ≡ w → (nat_lt s v && nat_le v w) ≡ false → nat_lt s w ≡ false
not_news s v w same test = grind (arith, nat_tests)

-- the block of a row
row_cleans : (k : Known) (row : BlockId × Entry) → row.1.ver ≡ (held_of k.blocks row.0).ver → IsClean (row_settles k row).blocks row.0
row_cleans k row newest =
    let h = held_of k.blocks row.0 in
    elim (is_settled_by h row.1.ver) as
    (λ t. is_settled_by h row.1.ver ≡ t → IsClean (cond t (put_held k.blocks row.0 (version_settled h row.1.ver)) k.blocks) row.0) [
      | true ↦ λ _. ap is_dirty (held_of-put_itself row.0 (version_settled h row.1.ver) k.blocks) ∙ not_below_itself row.1.ver h.ver newest
      | false ↦ λ old. not_news h.settled row.1.ver h.ver newest old
    ] refl

-- another block
row_leaves : (k : Known) (row : BlockId × Entry) (x : BlockId) → (x ≡ row.0 → ⊥) → held_of (row_settles k row).blocks x ≡ held_of k.blocks x
row_leaves k row x differs =
    let h = held_of k.blocks row.0 in
    elim (is_settled_by h row.1.ver) as (λ t. held_of (cond t (put_held k.blocks row.0 (version_settled h row.1.ver)) k.blocks) x ≡ held_of k.blocks x)
    [ true ↦ other_held row.0 (version_settled h row.1.ver) k.blocks x differs | false ↦ refl ]

row_versions : (k : Known) (row : BlockId × Entry) (x : BlockId) → (held_of (row_settles k row).blocks x).ver ≡ (held_of k.blocks x).ver
row_versions k row x =
    let h = held_of k.blocks row.0 in
    elim (is_settled_by h row.1.ver) as
    (λ t. (held_of (cond t (put_held k.blocks row.0 (version_settled h row.1.ver)) k.blocks) x).ver ≡ (held_of k.blocks x).ver)
    [ true ↦ put_same (λ (g : Held). g.ver) x row.0 (version_settled h row.1.ver) k.blocks refl | false ↦ refl ]

still_newest : (k : Known) (row : BlockId × Entry) (rows : List (BlockId × Entry)) → AreNewest k.blocks rows → AreNewest (row_settles k row).blocks rows
still_newest k row [] newest = tt
still_newest k row (r ∷ rows) newest = (newest.0 ∙ sym (row_versions k row r.0), still_newest k row rows newest.1)

abbrev IsNamed : List (BlockId × Entry) → BlockId → Type 0
IsNamed rows x = list_any (λ (row : BlockId × Entry). same_block x row.0) rows ≡ true

-- a block that a row names, or that is clean, is clean once all rows are settled
rows_clean : (rows : List (BlockId × Entry)) (k : Known) (x : BlockId) → AreNewest k.blocks rows → IsNamed rows x ⊎ IsClean k.blocks x
    → IsClean (fold row_settles k rows).blocks x
rows_clean [] k x newest (inl named) = absurd (false≢true named)
rows_clean [] k x newest (inr clean) = clean
rows_clean (row ∷ rows) k x newest h =
    elim (same_block x row.0) as (λ t. same_block x row.0 ≡ t → IsClean (fold row_settles (row_settles k row) rows).blocks x) [
      | true ↦ λ same. rows_clean rows (row_settles k row) x (still_newest k row rows newest.1)
          (inr (subst (IsClean (row_settles k row).blocks) (same_block_exact x row.0 same) (row_cleans k row newest.0)))
      | false ↦ λ other. rows_clean rows (row_settles k row) x (still_newest k row rows newest.1) (next other h)
    ] refl
  where
    apart : same_block x row.0 ≡ false → x ≡ row.0 → ⊥
    apart other same = false≢true (sym other ∙ ap (same_block x) (sym same) ∙ same_block_itself x)

    next : same_block x row.0 ≡ false → IsNamed (row ∷ rows) x ⊎ IsClean k.blocks x → IsNamed rows x ⊎ IsClean (row_settles k row).blocks x
    next other (inl named) = inl (sym (ap (λ t. t || list_any (λ (r : BlockId × Entry). same_block x r.0) rows) other) ∙ named)
    next other (inr clean) = inr (ap is_dirty (row_leaves k row x (apart other)) ∙ clean)

module _ (capacity : ℕ) (blocks : List (BlockId × Held)) (cached : List BlockId) (rows : List (BlockId × Entry)) (newest : AreNewest blocks rows)
    (all : (x : BlockId) → is_dirty (held_of blocks x) ≡ true → list_any (λ (row : BlockId × Entry). same_block x row.0) rows ≡ true) where
  abbrev pub settled_blocks : List (BlockId × Held)
  settled_blocks = (all_settled capacity (record { blocks = blocks; cached = cached }) rows).blocks

  leaving_clean : (k : Known) (b : BlockId) → ((x : BlockId) → IsClean k.blocks x) → (x : BlockId) → IsClean (leaves k b).blocks x
  leaving_clean k b clean x =
      let h = held_of k.blocks b in
      elim (may_evict h) as (λ t. IsClean (cond t (put_held k.blocks b (let_go h)) k.blocks) x)
      [ true ↦ put_same is_dirty x b (let_go h) k.blocks refl ∙ clean x | false ↦ clean x ]

  named_or_clean : (x : BlockId) → IsNamed rows x ⊎ IsClean blocks x
  named_or_clean x =
      elim (is_dirty (held_of blocks x)) as (λ t. is_dirty (held_of blocks x) ≡ t → IsNamed rows x ⊎ IsClean blocks x)
      [ true ↦ λ dirty. inl (all x dirty) | false ↦ λ clean. inr clean ] refl

  pub none_dirty : (x : BlockId) → is_dirty (held_of settled_blocks x) ≡ false
  none_dirty =
      all_come_in capacity (λ now. (x : BlockId) → IsClean now x) leaving_clean rows (fold row_settles (record { blocks = blocks; cached = cached }) rows)
      (λ x. rows_clean rows (record { blocks = blocks; cached = cached }) x newest (named_or_clean x))

  -- each block is quiet then
  pub settled_quiet : (n : ℕ) → ((x : BlockId) → IsQuietBlock n (held_of blocks x)) → (x : BlockId) → IsQuietBlock n (held_of settled_blocks x)
  settled_quiet n quiet x = record {
    want = field_stays (λ (h : Held). h.want) (λ h ver. refl) (λ h. refl) capacity blocks cached rows x ∙ (quiet x).want;
    fetch = field_stays (λ (h : Held). h.fetch) (λ h ver. refl) (λ h. refl) capacity blocks cached rows x ∙ (quiet x).fetch;
    giving = field_stays (λ (h : Held). h.giving) (λ h ver. refl) (λ h. refl) capacity blocks cached rows x ∙ (quiet x).giving;
    owned = λ dirty. absurd (false≢true (sym (none_dirty x) ∙ dirty));
    low = subst (IsLow n) (sym (field_stays (λ (h : Held). h.ver) (λ h ver. refl) (λ h. refl) capacity blocks cached rows x)) (quiet x).low;
    settled_low = behind_stays capacity blocks cached rows (λ y. (quiet y).settled_low) x;
  }

  -- and its stamp is as it was
  pub settled_stamp : (x : BlockId) → (held_of settled_blocks x).stamp ≡ (held_of blocks x).stamp
  settled_stamp x = field_stays (λ (h : Held). h.stamp) (λ h ver. refl) (λ h. refl) capacity blocks cached rows x
