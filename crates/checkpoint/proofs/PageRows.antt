-- What the rows of pages say of a block: what the index holds of it, where the block's page is among them.
use Rattle.std.proofs.Common.{◌≡◌, ℕ, zero, suc, ◌+◌, ◌-◌, ◌*◌, ◌/◌, ◌<◌, ◌≤◌, ◌^◌, min, Bool, true, false, cond, ◌||◌, ◌==◌, nat_lt, List, [], ◌∷◌, ◌++◌, filter, map, Option, Some, None, unwrap_or, refl, sym, ap, ◌∙◌, subst, arith}
use Rattle.std.specs.List.{list_any, range_with_len}
use Rattle.std.specs.Map.{lookup}
use Rattle.std.specs.BTreeMap.{is_at}
use Rattle.std.proofs.lemmas.Bool.Decides.{nat_tests}
use Rattle.std.proofs.lemmas.List.Folds.{list_any-append}
use Rattle.xfs_base.specs.declared.block.BlockId.{BlockId}
use Rattle.xfs_base.specs.declared.entry.Entry.{Entry}
use Rattle.xfs_base.specs.Blocks.{block_cmp, same_block}
use Rattle.xfs_base.proofs.BlockOrder.{same_block_exact}
use Rattle.xfs_base.proofs.Booleans.{or_first, or_second}
use Rattle.xfs_base.specs.Limits.{u32_end}
use Rattle.delta_index.specs.Entries.{no_entry, first_greatest}
use Rattle.delta_index.specs.Index.{entry_of}
use Rattle.delta_index.specs.Join.{join}
use Rattle.delta_index.proofs.EntryAlgebra.{first_greatest-none, first_greatest-itself}
use Rattle.delta_index.proofs.JoinAlgebra.{join-append, join-one}
use Rattle.index_pages.specs.declared.layout.Page.{Page}
use Rattle.index_pages.specs.Layout.{is_direct, first_block, blocks_run, blocks_on}
use Rattle.index_pages.specs.Pages.{row_of, held, rows_on}
use Rattle.index_pages.specs.Calls.{page_with}
use Rattle.checkpoint.specs.Laws.{rows_of}

-- ---- a block stands on its page

any_at : {X : Type 0} (p : X → Bool) (f : ℕ → X) (n a k : ℕ) → k < n → p (f (a + k)) ≡ true → list_any p (map f (range_with_len a n)) ≡ true
any_at p f zero a k less fact = absurd (omega arith)
any_at p f (suc n) a zero less fact =
    let e : a + 0 ≡ a = omega arith in
    or_first (p (f a)) (list_any p (map f (range_with_len (a + 1) n))) (subst (λ j. p (f j) ≡ true) e fact)
any_at p f (suc n) a (suc k) less fact =
    let e : a + suc k ≡ a + 1 + k = omega arith in
    or_second (p (f a)) (list_any p (map f (range_with_len (a + 1) n))) (any_at p f n (a + 1) k (omega arith) (subst (λ j. p (f j) ≡ true) e fact))

-- a block stands in a run of its file that reaches it
in_run : (q b : BlockId) (count k : ℕ) → q.ino ≡ b.ino → q.blk ≡ b.blk + k → k < count → list_any (same_block q) (blocks_run b count) ≡ true
in_run q b count k ino blk less =
    let here : same_block q (record { ino = b.ino; blk = b.blk + (0 + k) }) ≡ true = grind (arith, nat_tests) in
    any_at (same_block q) (λ (j : ℕ). record { ino = b.ino; blk = b.blk + j }) count 0 k less here

abbrev direct : BlockId → BlockId
direct q = record { ino = q.ino; blk = 0 }

abbrev indirect : BlockId → BlockId
indirect q = record { ino = q.ino; blk = 16 + (q.blk - 16) / 64 * 64 }

on_direct : (q : BlockId) → is_direct q.blk ≡ true → list_any (same_block q) (blocks_run (direct q) 16 ++ record { ino = q.ino; blk = u32_end } ∷ []) ≡ true
on_direct q fact =
    list_any-append (same_block q) (blocks_run (direct q) 16) (record { ino = q.ino; blk = u32_end } ∷ [])
    ∙ elim (nat_lt q.blk 16) as
    (λ t. nat_lt q.blk 16 ≡ t
    → (list_any (same_block q) (blocks_run (direct q) 16) || (same_block q (record { ino = q.ino; blk = u32_end }) || false)) ≡ true) [
      | true ↦ λ low. let less : q.blk < 16 = grind (arith, nat_tests) in let at : q.blk ≡ 0 + q.blk =
          omega arith in or_first _ _ (in_run q (direct q) 16 q.blk refl at less)
      | false ↦ λ high. let last : same_block q (record { ino = q.ino; blk = u32_end }) ≡ true =
          grind (arith, nat_tests) in or_second _ _ (or_first _ false last)
    ] refl

on_indirect : (q : BlockId) → q.blk < 2 ^ 32 → is_direct q.blk ≡ false → list_any (same_block q) (blocks_on (indirect q)) ≡ true
on_indirect q fits fact =
    let high : 16 ≤ q.blk = grind (arith, nat_tests) in
    let low : q.blk < u32_end = grind (arith, nat_tests) in
    let start : (16 + (q.blk - 16) / 64 * 64 == 0) ≡ false = grind (arith, nat_tests) in
    let k : ℕ = q.blk - (16 + (q.blk - 16) / 64 * 64) in
    let blk : q.blk ≡ 16 + (q.blk - 16) / 64 * 64 + k = omega arith in
    let less : k < min 64 (u32_end - (16 + (q.blk - 16) / 64 * 64)) = omega arith in
    ap (λ t. list_any (same_block q)
    (cond t (blocks_run (indirect q) 16 ++ record { ino = q.ino; blk = u32_end } ∷ []) (blocks_run (indirect q) (min 64 (u32_end - (indirect q).blk)))))
    start
    ∙ in_run q (indirect q) (min 64 (u32_end - (indirect q).blk)) k refl blk less

in_page : (q : BlockId) → q.blk < 2 ^ 32 → list_any (same_block q) (blocks_on (first_block q)) ≡ true
in_page q fits =
    elim (is_direct q.blk) as (λ t. is_direct q.blk ≡ t → list_any (same_block q) (blocks_on (cond t (direct q) (indirect q))) ≡ true) [
      | true ↦ on_direct q
      | false ↦ on_indirect q fits
    ] refl

abbrev pub on_page : BlockId → Page → Bool
on_page q page = list_any (same_block q) (blocks_on page.first)

abbrev is_changed : Page → Bool
is_changed page = page.changed

-- among these pages is that of the block
pub its_page : (q : BlockId) (blocks firsts : List BlockId) → q.blk < 2 ^ 32 → list_any (same_block (first_block q)) firsts ≡ true
    → list_any (on_page q) (map (page_with blocks) firsts) ≡ true
its_page q blocks [] fits there = there
its_page q blocks (f ∷ fs) fits there =
    elim (same_block (first_block q) f) as
    (λ t. same_block (first_block q) f ≡ t → (t || list_any (same_block (first_block q)) fs) ≡ true
    → (on_page q (page_with blocks f) || list_any (on_page q) (map (page_with blocks) fs)) ≡ true) [
      | true ↦ λ same _. or_first _ _ (ap (λ b. list_any (same_block q) (blocks_on b)) (same_block_exact (first_block q) f same) ∙ in_page q fits)
      | false ↦ λ _ rest. or_second (on_page q (page_with blocks f)) _ (its_page q blocks fs fits rest)
    ] refl there

-- and where something was put on that page, it is among those that changed
pub its_changed_page : (q : BlockId) (blocks firsts : List BlockId) → q.blk < 2 ^ 32 → list_any (λ b. same_block (first_block b) (first_block q)) blocks ≡ true
    → list_any (same_block (first_block q)) firsts ≡ true
    → list_any (on_page q) (filter is_changed (map (page_with blocks) firsts)) ≡ true
its_changed_page q blocks [] fits put there = there
its_changed_page q blocks (f ∷ fs) fits put there =
    let rest = filter is_changed (map (page_with blocks) fs) in
    elim (same_block (first_block q) f) as
    (λ t. same_block (first_block q) f ≡ t → (t || list_any (same_block (first_block q)) fs) ≡ true
    → list_any (on_page q) (cond ((page_with blocks f).changed) (page_with blocks f ∷ rest) rest) ≡ true) [
      | true ↦ λ same _.
          let fact : f ≡ first_block q = same_block_exact (first_block q) f same in
          let changed : true ≡ ((page_with blocks f).changed) = sym (ap (λ g. list_any (λ b. same_block (first_block b) g) blocks) fact ∙ put) in
          subst (λ u. list_any (on_page q) (cond u (page_with blocks f ∷ rest) rest) ≡ true) changed
          (or_first _ _ (ap (λ b. list_any (same_block q) (blocks_on b)) fact ∙ in_page q fits))
      | false ↦ λ _ more.
          let found : list_any (on_page q) rest ≡ true = its_changed_page q blocks fs fits put more in
          elim ((page_with blocks f).changed) as (λ u. list_any (on_page q) (cond u (page_with blocks f ∷ rest) rest) ≡ true) [
            | true ↦ or_second (on_page q (page_with blocks f)) (list_any (on_page q) rest) found
            | false ↦ found
          ]
    ] refl there

-- ---- what rows of blocks join to

-- of two lists each joins to the entry or to nothing
both : (t u : Bool) (e : Entry) → first_greatest no_entry e ≡ e → first_greatest (cond t e no_entry) (cond u e no_entry) ≡ cond (t || u) e no_entry
both true true e fact = first_greatest-itself e
both true false e fact = first_greatest-none e
both false true e fact = fact
both false false e fact = first_greatest-none no_entry

module _ (rows : List (BlockId × Entry)) (q : BlockId) (fact : first_greatest no_entry (entry_of rows q) ≡ entry_of rows q) where
  join-row : (b : BlockId) (o : Option Entry) → lookup (is_at (block_cmp b)) rows ≡ o → join (row_of b o) q ≡ cond (same_block q b) (entry_of rows q) no_entry
  join-row b None found =
      elim (same_block q b) as (λ t. same_block q b ≡ t → no_entry ≡ cond t (entry_of rows q) no_entry) [
        | true ↦ λ same. sym (ap (entry_of rows) (sym (same_block_exact q b same)) ∙ ap (λ o. unwrap_or o no_entry) found)
        | false ↦ λ _. refl
      ] refl
  join-row b (Some e) found =
      join-one (b, e) q
      ∙ elim (same_block q b) as (λ t. same_block q b ≡ t → cond t (first_greatest no_entry e) no_entry ≡ cond t (entry_of rows q) no_entry) [
        | true ↦ λ same. let held_there : e ≡ entry_of rows q =
            sym (ap (entry_of rows) (sym (same_block_exact q b same)) ∙ ap (λ o. unwrap_or o no_entry) found) in ap (first_greatest no_entry) held_there ∙ fact
        | false ↦ λ _. refl
      ] refl

  join-held : (blocks : List BlockId) → join (held rows blocks) q ≡ cond (list_any (same_block q) blocks) (entry_of rows q) no_entry
  join-held [] = refl
  join-held (b ∷ bs) =
      join-append (row_of b (lookup (is_at (block_cmp b)) rows)) (held rows bs) q
      ∙ ap (λ x. first_greatest x (join (held rows bs) q)) (join-row b (lookup (is_at (block_cmp b)) rows) refl)
      ∙ ap (first_greatest (cond (same_block q b) (entry_of rows q) no_entry)) (join-held bs)
      ∙ both (same_block q b) (list_any (same_block q) bs) (entry_of rows q) fact

  pub join-pages : (pages : List Page) → join (rows_of (map (rows_on rows) pages)) q ≡ cond (list_any (on_page q) pages) (entry_of rows q) no_entry
  join-pages [] = refl
  join-pages (p ∷ ps) =
      join-append (rows_on rows p) (rows_of (map (rows_on rows) ps)) q
      ∙ ap (λ x. first_greatest x (join (rows_of (map (rows_on rows) ps)) q)) (join-held (blocks_on p.first))
      ∙ ap (first_greatest (cond (on_page q p) (entry_of rows q) no_entry)) (join-pages ps)
      ∙ both (on_page q p) (list_any (on_page q) ps) (entry_of rows q) fact
