-- The rows of an index are just the blocks above version 0 and hop 0.
use Rattle.std.proofs.Common.{◌≡◌, true, List, Option, None, Some, sym, ap, ◌∙◌, subst, unwrap_or}
use Rattle.std.specs.Prelude.{IsTrue, IfSome}
use Rattle.std.specs.List.Sorted.{IsStrictlySortedBy}
use Rattle.std.specs.Map.{lookup, keys_of}
use Rattle.std.specs.BTreeMap.{is_at, insert_entry}
use Rattle.std.proofs.lemmas.Bool.{false≢true}
use Rattle.std.proofs.lemmas.Cmp.{eq_by_cmp_equiv}
use Rattle.std.proofs.lemmas.Map.Keys.{IsDistinct-from_sorted}
use Rattle.std.proofs.lemmas.Map.Views.{All-values-insert_entry, Contains-from_lookup, lookup-from_Contains, tells_apart, IfSome-lookup_from_All}
use Rattle.xfs_base.specs.declared.block.BlockId.{BlockId}
use Rattle.xfs_base.specs.declared.entry.Entry.{Entry}
use Rattle.xfs_base.specs.Blocks.{block_cmp}
use Rattle.xfs_base.proofs.BlockOrder.{block_cmp_total, block_cmp_exact}
use Rattle.delta_index.specs.Entries.{no_entry, is_newer}
use Rattle.delta_index.specs.Index.{entry_of, AllHeld, HoldsJust}
use Rattle.delta_index.proofs.EntryAlgebra.{none_newer, newer_than_none}

-- an entry that is above what is held may be put in
pub AllHeld-insert : (rows : List (BlockId × Entry)) (block : BlockId) (entry : Entry) → AllHeld rows → is_newer entry (entry_of rows block) ≡ true
    → AllHeld (insert_entry block_cmp rows block entry)
AllHeld-insert rows block entry held newer =
    All-values-insert_entry block_cmp block entry (λ e. IsTrue (is_newer e no_entry)) rows held (newer_than_none (entry_of rows block) entry newer)

-- what a look-up gave, where it is above version 0 and hop 0
found : (o : Option Entry) (entry : Entry) → entry ≡ unwrap_or o no_entry → is_newer entry no_entry ≡ true → o ≡ Some entry
found None entry e p = absurd (false≢true (sym (none_newer no_entry) ∙ sym (ap (λ x. is_newer x no_entry) e) ∙ p))
found (Some x) entry e p = ap Some (sym e)

pub holds_just : (rows : List (BlockId × Entry)) → IsStrictlySortedBy block_cmp (keys_of rows) → AllHeld rows → HoldsJust (entry_of rows) rows
holds_just rows sorted held = λ block entry. (
  λ c. let l : lookup (is_at (block_cmp block)) rows ≡ Some entry =
      lookup-from_Contains (eq_by_cmp_equiv block_cmp_total) block entry rows (IsDistinct-from_sorted block_cmp (keys_of rows) sorted) c in (
        sym (ap (λ o. unwrap_or o no_entry) l),
        subst (λ o. IfSome o (λ e. IsTrue (is_newer e no_entry))) l
            (IfSome-lookup_from_All (λ e. IsTrue (is_newer e no_entry)) (is_at (block_cmp block)) rows held),
      ),
  λ h. Contains-from_lookup (tells_apart block_cmp_exact) block entry rows (found _ entry h.0 h.1),
)
