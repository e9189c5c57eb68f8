-- What is told stays so where more is told; and what filed segments said they say later too.
use Rattle.std.proofs.Common.{◌≡◌, ◌⊎◌, inl, inr, List}
use Rattle.delta_index.specs.Entries.{no_entry}
use Rattle.xfs_base.specs.declared.block.BlockId.{BlockId}
use Rattle.xfs_base.specs.declared.entry.Entry.{Entry}
use Rattle.xfs_base.proofs.Alls.{all_weaker}
use Rattle.node_tellings.specs.entry_tie.Told.{Told, RowTold, RowsTold, FiledRows, IsFiled, told_by_rows, AreMore}

module _ (rows later : FiledRows) (more : AreMore rows later) where
  by_case : (block : BlockId) (entry : Entry) → IsFiled rows block entry ⊎ (entry ≡ no_entry) → IsFiled later block entry ⊎ (entry ≡ no_entry)
  by_case block entry (inl fact) = inl (more block entry fact)
  by_case block entry (inr nothing) = inr nothing

  pub told_more : (block : BlockId) (entry : Entry) → told_by_rows rows block entry → told_by_rows later block entry
  told_more block entry fact = by_case block entry fact

module _ (told later : Told) (more : (block : BlockId) (entry : Entry) → told block entry → later block entry) where
  pub rows_rise : (rows : List (BlockId × Entry)) → RowsTold told rows → RowsTold later rows
  rows_rise rows h = all_weaker (RowTold told) (RowTold later) (λ row. more row.0 row.1) rows h
