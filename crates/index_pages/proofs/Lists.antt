-- What loops and undone changes need.
use Rattle.std.proofs.Common.{◌≡◌, ℕ, ◌+◌, List, [], ◌∷◌, ◌++◌, Option, cond, length, take, None, Some, ◌-◌, refl, sym, ap, ◌∙◌, arith}
use Rattle.std.specs.declared.cmp.Ordering.{Ordering}
use Rattle.std.specs.declared.cmp.Ordering.TheVariants.{Less, Equal, Greater}
use Rattle.std.specs.Ordering.{match_ordering, is_eq}
use Rattle.std.specs.Cmp.{IsTotalOrder}
use Rattle.std.specs.Map.{lookup, remove_entry}
use Rattle.std.specs.BTreeMap.{is_at, insert_entry}
use Rattle.std.proofs.lemmas.Cmp.{tied_itself}
use Rattle.xfs_base.specs.declared.block.BlockId.{BlockId}
use Rattle.xfs_base.specs.declared.entry.Entry.{Entry}
use Rattle.xfs_base.specs.Blocks.{block_cmp}
use Rattle.xfs_base.proofs.BlockOrder.{block_cmp_total}
use Rattle.index_pages.specs.declared.layout.Page.{Page}
use Rattle.index_pages.specs.Layout.{first_block}
use Rattle.index_pages.specs.Pages.{PagesState, page_of, begin_page, row_of}
use Rattle.std.proofs.lemmas.List.{append_assoc, take_at, length_push}

-- what is put at a new key and then removed leaves the entries as they were
pub remove-insert : {K X : Type 0} {R : K → K → Ordering} (total : IsTotalOrder R) (k : K) (v : X) (es : List (K × X)) → lookup (is_at (R k)) es ≡ None
    → remove_entry (is_at (R k)) (insert_entry R es k v) ≡ es
remove-insert {R = R} total k v [] absent = ap (λ o. cond (is_eq o) [] ((k, v) ∷ [])) (tied_itself total k)
remove-insert {R = R} total k v (e ∷ es) absent =
    elim (R k e.0) as
    (λ o. R k e.0 ≡ o → cond (is_eq o) (Some e.1) (lookup (is_at (R k)) es) ≡ None
    → remove_entry (is_at (R k)) (match_ordering o ((k, v) ∷ e ∷ es) ((e.0, v) ∷ es) (e ∷ insert_entry R es k v)) ≡ e ∷ es) [
      | Less ↦ λ p h. ap (λ o. cond (is_eq o) (e ∷ es) ((k, v) ∷ remove_entry (is_at (R k)) (e ∷ es))) (tied_itself total k)
      | Equal ↦ λ p h. cc
      | Greater ↦ λ p h. ap (λ o. cond (is_eq o) (insert_entry R es k v) (e ∷ remove_entry (is_at (R k)) (insert_entry R es k v))) p
          ∙ ap (λ r. e ∷ r) (remove-insert total k v es h)
    ] refl absent

-- a list without the item that was appended
take_push : {X : Type 0} (xs : List X) (y : X) → take (length (xs ++ y ∷ []) - 1) (xs ++ y ∷ []) ≡ xs
take_push xs y =
    let long : length (xs ++ y ∷ []) - 1 ≡ length xs = omega (arith, length_push xs y) in
    ap (λ n. take n (xs ++ y ∷ [])) long ∙ take_at xs (y ∷ []) (length xs) refl

-- a page that was begun and is taken back leaves all as it was
pub undone : (old now : PagesState) (block : BlockId) (rows : List (BlockId × Entry)) (numbers : List (BlockId × ℕ)) (pages : List Page)
    → page_of old block ≡ None → now ≡ begin_page old block
    → rows ≡ now.rows → numbers ≡ remove_entry (is_at (block_cmp (first_block block))) now.numbers → pages ≡ take (length now.pages - 1) now.pages
    → record { rows = rows; numbers = numbers; pages = pages } ≡ old
undone old now block rows numbers pages absent fact r n p =
    let same_rows : rows ≡ old.rows = r ∙ ap (λ (s : PagesState). s.rows) fact in
    let same_numbers : numbers ≡ old.numbers = n ∙ ap (λ (s : PagesState). remove_entry (is_at (block_cmp (first_block block))) s.numbers) fact
    ∙ remove-insert block_cmp_total (first_block block) (length old.pages) old.numbers absent in
    let same_pages : pages ≡ old.pages = p ∙ ap (λ (s : PagesState). take (length s.pages - 1) s.pages) fact ∙ take_push old.pages _ in
    λ i. record { rows = same_rows i; numbers = same_numbers i; pages = same_pages i }

-- the rows so far and those to come, once a block is looked up
pub row_more : (done now rest all : List (BlockId × Entry)) (block : BlockId) (found known : Option Entry) → found ≡ known
    → done ++ (row_of block found ++ rest) ≡ all → now ≡ done ++ row_of block known → now ++ rest ≡ all
row_more done now rest all block found known same before fact =
    ap (λ n. n ++ rest) fact ∙ append_assoc done (row_of block known) rest ∙ ap (λ o. done ++ (row_of block o ++ rest)) (sym same) ∙ before
