-- What an index holds of each block determines its rows.
use Rattle.std.proofs.Common.{◌≡◌, T, true, false, cond, List, [], ◌∷◌, Option, None, Some, refl, sym, ap, ◌∙◌, subst, unwrap_or}
use Rattle.std.specs.Prelude.{IsTrue, IfSome}
use Rattle.std.specs.Map.{lookup}
use Rattle.std.specs.BTreeMap.{is_at, insert_entry}
use Rattle.std.specs.FinMap.Entries.{is_sorted, is_sorted-put, same_entries}
use Rattle.std.proofs.lemmas.Bool.{false≢true}
use Rattle.std.proofs.lemmas.List.Elements.{All-nil}
use Rattle.std.proofs.lemmas.Map.Views.{IfSome-lookup_from_All}
use Rattle.xfs_base.specs.declared.block.BlockId.{BlockId}
use Rattle.xfs_base.specs.declared.entry.Entry.{Entry}
use Rattle.xfs_base.specs.Blocks.{block_cmp}
use Rattle.xfs_base.proofs.BlockOrder.{block_cmp_total, block_cmp_exact, lookup-find, insert_entry-put}
use Rattle.delta_index.specs.Entries.{no_entry, is_newer}
use Rattle.delta_index.specs.Index.{entry_of, merged, merged_all, AllHeld}
use Rattle.delta_index.specs.Join.{join}
use Rattle.delta_index.proofs.EntryAlgebra.{none_newer}
use Rattle.delta_index.proofs.HeldRows.{AllHeld-insert}
use Rattle.delta_index.proofs.IndexJoin.{index_join}

-- what is true of the rows of every index
record IsIndex (rows : List (BlockId × Entry)) : Type 0 where
  in_order : T (is_sorted block_cmp rows)
  held : AllHeld rows

IsIndex-merged : (rows : List (BlockId × Entry)) (block : BlockId) (entry : Entry) → IsIndex rows → IsIndex (merged rows block entry)
unfolding merged
IsIndex-merged rows block entry i =
    elim (is_newer entry (entry_of rows block)) as
    (λ t. is_newer entry (entry_of rows block) ≡ t → IsIndex (cond t (insert_entry block_cmp rows block entry) rows)) [
      | true ↦ λ p. record {
        in_order = subst (λ r. T (is_sorted block_cmp r)) (sym (insert_entry-put block_cmp block entry rows))
            (is_sorted-put block_cmp block_cmp_total block entry rows i.in_order);
        held = AllHeld-insert rows block entry i.held p;
      }
      | false ↦ λ p. i
    ] refl

IsIndex-merged_all : (rows ms : List (BlockId × Entry)) → IsIndex rows → IsIndex (merged_all rows ms)
IsIndex-merged_all rows [] i = i
IsIndex-merged_all rows (m ∷ ms) i = IsIndex-merged_all (merged rows m.0 m.1) ms (IsIndex-merged rows m.0 m.1 i)

-- what two look-ups gave, where what is held is above version 0 and hop 0
same_found : (o p : Option Entry) → IfSome o (λ e. IsTrue (is_newer e no_entry)) → IfSome p (λ e. IsTrue (is_newer e no_entry))
    → unwrap_or o no_entry ≡ unwrap_or p no_entry → o ≡ p
same_found None None h k e = refl
same_found None (Some y) h k e = absurd (false≢true (sym (none_newer no_entry) ∙ ap (λ x. is_newer x no_entry) e ∙ k))
same_found (Some x) None h k e = absurd (false≢true (sym (none_newer no_entry) ∙ ap (λ x. is_newer x no_entry) (sym e) ∙ h))
same_found (Some x) (Some y) h k e = ap Some e

found_held : (rows : List (BlockId × Entry)) (q : BlockId) → AllHeld rows → IfSome (lookup (is_at (block_cmp q)) rows) (λ e. IsTrue (is_newer e no_entry))
found_held rows q held = IfSome-lookup_from_All (λ e. IsTrue (is_newer e no_entry)) (is_at (block_cmp q)) rows held

same_rows : (rows others : List (BlockId × Entry)) → IsIndex rows → IsIndex others → ((q : BlockId) → entry_of rows q ≡ entry_of others q) → rows ≡ others
same_rows rows others i j same =
    same_entries block_cmp block_cmp_total block_cmp_exact rows others i.in_order j.in_order
    (λ q. sym (lookup-find block_cmp q rows)
    ∙ same_found (lookup (is_at (block_cmp q)) rows) (lookup (is_at (block_cmp q)) others) (found_held rows q i.held) (found_held others q j.held) (same q)
    ∙ lookup-find block_cmp q others)

nothing : IsIndex []
nothing = record { in_order = tt; held = All-nil (λ e. IsTrue (is_newer e no_entry)) }

pub index_of_join : (merges others : List (BlockId × Entry)) → ((block : BlockId) → join merges block ≡ join others block)
    → merged_all [] merges ≡ merged_all [] others
index_of_join merges others same =
    same_rows (merged_all [] merges) (merged_all [] others) (IsIndex-merged_all [] merges nothing) (IsIndex-merged_all [] others nothing)
    (λ q. index_join merges q ∙ same q ∙ sym (index_join others q))
