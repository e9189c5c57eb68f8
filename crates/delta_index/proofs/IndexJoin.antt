-- What an index holds after merges is their join.
use Rattle.std.proofs.Common.{◌≡◌, Bool, true, false, cond, List, [], ◌∷◌, Option, Some, refl, sym, ap, ◌∙◌, unwrap_or}
use Rattle.std.specs.declared.cmp.Ordering.TheVariants.{Less, Equal, Greater}
use Rattle.std.specs.Ordering.{eq_by_cmp, is_eq}
use Rattle.std.specs.Map.{lookup}
use Rattle.std.specs.BTreeMap.{is_at, insert_entry}
use Rattle.xfs_base.specs.declared.block.BlockId.{BlockId}
use Rattle.xfs_base.specs.declared.entry.Entry.{Entry}
use Rattle.xfs_base.specs.Blocks.{block_cmp, same_block}
use Rattle.xfs_base.proofs.BlockOrder.{block_cmp_total, block_cmp_exact, lookup-insert_entry}
use Rattle.delta_index.specs.Entries.{no_entry, is_newer, first_greatest}
use Rattle.delta_index.specs.Index.{entry_of, merged, merged_all}
use Rattle.delta_index.specs.Join.{join}
use Rattle.delta_index.proofs.EntryAlgebra.{first_greatest-newer, first_greatest-not_newer, first_greatest-none, first_greatest-assoc, none_between}
use Rattle.delta_index.proofs.JoinAlgebra.{join-cons, join-one, none-join, same_block-eq}

-- under the test that two names are of one block, what is equal at one block
at_block : (q block : BlockId) (x y z : Entry) → (q ≡ block → x ≡ y) → cond (eq_by_cmp block_cmp q block) x z ≡ cond (eq_by_cmp block_cmp q block) y z
at_block q block x y z h =
    elim (block_cmp q block) as (λ r. block_cmp q block ≡ r → cond (is_eq r) x z ≡ cond (is_eq r) y z) [
      | Less ↦ λ p. refl
      | Equal ↦ λ p. h (block_cmp_exact q block p)
      | Greater ↦ λ p. refl
    ] refl

unwrap_or-cond : (t : Bool) (x : Entry) (o : Option Entry) → unwrap_or (cond t (Some x) o) no_entry ≡ cond t x (unwrap_or o no_entry)
unwrap_or-cond true x o = refl
unwrap_or-cond false x o = refl

cond-itself : (t : Bool) (x : Entry) → x ≡ cond t x x
cond-itself true x = refl
cond-itself false x = refl

-- what an index gives after one merge
entry_of-merged : (rows : List (BlockId × Entry)) (block : BlockId) (entry : Entry) (q : BlockId)
    → entry_of (merged rows block entry) q ≡ cond (eq_by_cmp block_cmp q block) (first_greatest (entry_of rows q) entry) (entry_of rows q)
unfolding merged
entry_of-merged rows block entry q =
    elim (is_newer entry (entry_of rows block)) as
    (λ b. is_newer entry (entry_of rows block) ≡ b
    → entry_of (cond b (insert_entry block_cmp rows block entry) rows) q ≡ cond (eq_by_cmp block_cmp q block) (first_greatest (entry_of rows q) entry)
    (entry_of rows q)) [
      | true ↦ λ p. ap (λ o. unwrap_or o no_entry) (lookup-insert_entry block_cmp_total q block entry rows)
          ∙ unwrap_or-cond (eq_by_cmp block_cmp q block) entry (lookup (is_at (block_cmp q)) rows)
          ∙ at_block q block entry (first_greatest (entry_of rows q) entry) (entry_of rows q)
          (λ e. sym (first_greatest-newer (entry_of rows q) entry (ap (λ k. is_newer entry (entry_of rows k)) e ∙ p)))
      | false ↦ λ p. cond-itself (eq_by_cmp block_cmp q block) (entry_of rows q)
          ∙ at_block q block (entry_of rows q) (first_greatest (entry_of rows q) entry) (entry_of rows q)
          (λ e. sym (first_greatest-not_newer (entry_of rows q) entry (ap (λ k. is_newer entry (entry_of rows k)) e ∙ p)))
    ] refl

-- an entry x, a merge of m where t says that it is of the block, and the join j of the merges after it
one_more : (x m j : Entry) (t : Bool)
    → first_greatest (cond t (first_greatest x m) x) j ≡ first_greatest x (first_greatest (cond t (first_greatest no_entry m) no_entry) j)
one_more x m j true =
    first_greatest-assoc x m j ∙ sym (none_between x (first_greatest m j)) ∙ ap (first_greatest x) (sym (first_greatest-assoc no_entry m j))
one_more x m j false = sym (none_between x j)

pub entry_of-merged_all : (rows ms : List (BlockId × Entry)) (q : BlockId) → entry_of (merged_all rows ms) q ≡ first_greatest (entry_of rows q) (join ms q)
entry_of-merged_all rows [] q = sym (first_greatest-none (entry_of rows q))
entry_of-merged_all rows (m ∷ ms) q =
    entry_of-merged_all (merged rows m.0 m.1) ms q
    ∙ ap (λ e. first_greatest e (join ms q))
    (entry_of-merged rows m.0 m.1 q ∙ ap (λ t. cond t (first_greatest (entry_of rows q) m.1) (entry_of rows q)) (same_block-eq q m.0))
    ∙ one_more (entry_of rows q) m.1 (join ms q) (same_block q m.0)
    ∙ ap (first_greatest (entry_of rows q)) (sym (join-cons m ms q ∙ ap (λ e. first_greatest e (join ms q)) (join-one m q)))

pub index_join : (ms : List (BlockId × Entry)) (q : BlockId) → entry_of (merged_all [] ms) q ≡ join ms q
index_join ms q = entry_of-merged_all [] ms q ∙ none-join ms q
