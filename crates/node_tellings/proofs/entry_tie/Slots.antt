-- A slot that is managed: its index holds what is told, and each grant that it gives tells what its index holds, whatever it takes.
use Rattle.std.proofs.Common.{ℕ, List}
use Rattle.slot_beliefs.specs.Index.{block_index_new}
use Rattle.token_manager.specs.declared.input.In.{In as Input}
use Rattle.token_manager.specs.SlotState.{SlotState}
use Rattle.token_manager.specs.Transition.{slot_start, transition}
use Rattle.xfs_base.specs.declared.block.BlockId.{BlockId}
use Rattle.xfs_base.specs.declared.entry.Entry.{Entry}
use Rattle.xfs_base.specs.declared.token.Mode.{Mode}
use Rattle.xfs_base.proofs.Leaving.{Leaves}
use Rattle.node_moves.proofs.manager_walk.Grants.{GrantLaw, InputSo, OutSo, StateSo, slot_so}
use Rattle.node_tellings.specs.entry_tie.Told.{Told, RowsTold}
use Rattle.node_tellings.proofs.entry_tie.Told.{AllowsNothing}
use Rattle.node_tellings.proofs.entry_tie.Rows.{entry_told, indexed_told}

module _ (told : Told) (nothing : AllowsNothing told) where
  -- a grant tells what the index holds of the block, or that it holds nothing
  abbrev law : GrantLaw
  law = record {
    RowsSo = RowsTold told;
    Told = RowsTold told;
    Granted = told;
    indexes = indexed_told told;
    tells = λ s block h. entry_told told nothing s.index.rows block h;
  }

  pub slot_goes : (s : SlotState) (i : Input) → InputSo law i → StateSo law s → Leaves (StateSo law) (OutSo law) (transition s i)
  slot_goes s i new h = slot_so law s i new h

  -- one that starts with an index
  pub started_holds : (epoch : ℕ) (index : List (BlockId × Entry)) (beliefs : List (BlockId × ℕ × Mode)) (applied : List ℕ) → RowsTold told index
      → StateSo law (slot_start epoch index beliefs applied)
  started_holds epoch index beliefs applied all = indexed_told told block_index_new index tt all
