-- The rows of the pages are the plain table.
use Rattle.std.proofs.Common.{◌≡◌, Bool, true, false, cond, ◌&&◌, List, [], ◌∷◌, Option, Some, None, refl, sym, ap, ◌∙◌, unwrap_or}
use Rattle.std.specs.List.{fold}
use Rattle.std.specs.Map.{lookup}
use Rattle.std.specs.BTreeMap.{is_at, insert_entry}
use Rattle.std.specs.Ordering.{eq_by_cmp}
use Rattle.xfs_base.specs.declared.block.BlockId.{BlockId}
use Rattle.xfs_base.specs.declared.entry.Entry.{Entry}
use Rattle.xfs_base.specs.Blocks.{block_cmp, same_block}
use Rattle.xfs_base.proofs.BlockOrder.{block_cmp_total, lookup-insert_entry, same_block_exact}
use Rattle.delta_index.specs.Entries.{no_entry, is_newer}
use Rattle.delta_index.specs.Index.{entry_of, merged}
use Rattle.delta_index.proofs.JoinAlgebra.{same_block-eq}
use Rattle.index_pages.specs.Pages.{PagesState, put, pages_merge, put_at, pages_clean, page_of}
use Rattle.index_pages.specs.Calls.{Call, after_call, after_calls, put_over}
use Rattle.index_pages.specs.Calls.Call.{Put, Merge, Clean}

unwrap_or-cond : (t : Bool) (x : Entry) (o : Option Entry) → unwrap_or (cond t (Some x) o) no_entry ≡ cond t x (unwrap_or o no_entry)
unwrap_or-cond true x o = refl
unwrap_or-cond false x o = refl

-- what rows hold of a block once an entry is put
pub entry_of-insert : (rows : List (BlockId × Entry)) (block : BlockId) (entry : Entry) (q : BlockId)
    → entry_of (insert_entry block_cmp rows block entry) q ≡ cond (same_block q block) entry (entry_of rows q)
entry_of-insert rows block entry q =
    ap (λ o. unwrap_or o no_entry) (lookup-insert_entry block_cmp_total q block entry rows)
    ∙ unwrap_or-cond (eq_by_cmp block_cmp q block) entry (lookup (is_at (block_cmp q)) rows)
    ∙ ap (λ t. cond t entry (entry_of rows q)) (same_block-eq q block)

-- the rows of the pages once an entry is put
pub rows-put : (s : PagesState) (block : BlockId) (entry : Entry) → (put s block entry).rows ≡ insert_entry block_cmp s.rows block entry
unfolding put
rows-put s block entry = at_page (page_of s block)
  where
    at_page : (o : Option _) → (put_at o s block entry).rows ≡ insert_entry block_cmp s.rows block entry
    at_page (Some page) = refl
    at_page None = refl

-- the rows of the pages once an entry is merged
pub rows-pages_merge : (s : PagesState) (block : BlockId) (entry : Entry) → (pages_merge s block entry).rows ≡ merged s.rows block entry
unfolding pages_merge merged
rows-pages_merge s block entry = at_test (is_newer entry (entry_of s.rows block))
  where
    at_test : (t : Bool) → (cond t (put s block entry) s).rows ≡ cond t (insert_entry block_cmp s.rows block entry) s.rows
    at_test true = rows-put s block entry
    at_test false = refl

pub one_call : (s : PagesState) (call : Call) (q : BlockId) → entry_of (after_call s call).rows q ≡ put_over q (entry_of s.rows q) call
unfolding pages_clean merged
one_call s (Put block entry) q = ap (λ r. entry_of r q) (rows-put s block entry) ∙ entry_of-insert s.rows block entry q
one_call s (Merge block entry) q =
    ap (λ r. entry_of r q) (rows-pages_merge s block entry) ∙ at_test (is_newer entry (entry_of s.rows block)) refl
  where
    at_test : (t : Bool) → is_newer entry (entry_of s.rows block) ≡ t
        → entry_of (cond t (insert_entry block_cmp s.rows block entry) s.rows) q ≡ put_over q (entry_of s.rows q) (Merge block entry)
    at_test true newer = entry_of-insert s.rows block entry q ∙ at_block (same_block q block) refl
      where
        at_block : (u : Bool) → same_block q block ≡ u
            → cond u entry (entry_of s.rows q) ≡ cond (u && is_newer entry (entry_of s.rows q)) entry (entry_of s.rows q)
        at_block true same =
            ap (λ t. cond t entry (entry_of s.rows q)) (sym newer ∙ ap (λ b. is_newer entry (entry_of s.rows b)) (same_block_exact q block same))
        at_block false other = refl
    at_test false older = at_block (same_block q block) refl
      where
        at_block : (u : Bool) → same_block q block ≡ u → entry_of s.rows q ≡ cond (u && is_newer entry (entry_of s.rows q)) entry (entry_of s.rows q)
        at_block true same =
            ap (λ t. cond t entry (entry_of s.rows q)) (sym older ∙ ap (λ b. is_newer entry (entry_of s.rows b)) (same_block_exact q block same))
        at_block false other = refl
one_call s Clean q = refl

pub entry_of-calls : (s : PagesState) (calls : List Call) (q : BlockId) → entry_of (after_calls s calls).rows q ≡ fold (put_over q) (entry_of s.rows q) calls
entry_of-calls s [] q = refl
entry_of-calls s (call ∷ calls) q = entry_of-calls (after_call s call) calls q ∙ ap (λ e. fold (put_over q) e calls) (one_call s call q)
