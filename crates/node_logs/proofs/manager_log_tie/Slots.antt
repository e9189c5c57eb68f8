-- The rows of the index of a slot fit, whatever its manager is told of it, and what each grant tells is in range.
use Rattle.slot_beliefs.specs.Index.{block_index_new, merge_all}
use Rattle.token_manager.specs.declared.input.In.{In as Input}
use Rattle.token_manager.specs.declared.output.Out.{Out}
use Rattle.token_manager.specs.SlotState.{SlotState}
use Rattle.token_manager.specs.Transition.{transition}
use Rattle.checkpoint.specs.WriterState.{Rows}
use Rattle.xfs_base.proofs.Leaving.{Leaves}
use Rattle.node_moves.proofs.manager_walk.Grants.{GrantLaw, InputSo, OutSo, StateSo, slot_so}
use Rattle.node_logs.specs.manager_log_tie.Fitting.{IsRowInRange, RowsFit, RowsInRange}
use Rattle.node_logs.proofs.manager_log_tie.Rows.{all_indexed_fit, entry_in_range, rows_in_range}

abbrev law : GrantLaw
law = record {
  RowsSo = RowsFit;
  Told = RowsInRange;
  Granted = λ block entry. IsRowInRange (block, entry);
  indexes = all_indexed_fit;
  tells = λ s block fits. entry_in_range s.index.rows block fits;
}

abbrev pub IndexFits : SlotState → Type 0
IndexFits s = StateSo law s

-- what a grant tells of its block
abbrev pub GrantFits : Out → Type 0
GrantFits o = OutSo law o

-- the rows that are told are in range
abbrev pub SlotInFits : Input → Type 0
SlotInFits i = InputSo law i

pub slot_goes : (s : SlotState) (told : Input) → SlotInFits told → IndexFits s → Leaves IndexFits GrantFits (transition s told)
slot_goes s told fit h = slot_so law s told fit h

-- so do those of a slot that starts with rows that fit
pub slot_starts : (rows : Rows) → RowsFit rows → RowsFit (merge_all block_index_new rows).rows
slot_starts rows fit = all_indexed_fit block_index_new rows tt (rows_in_range rows fit)
