-- That what a manager writes to its log can be spelled: the numbers of the rows of its checkpoints are in the ranges of their types, and all else is looked at
-- when a segment is begun.
use Rattle.std.specs.Prelude.{◌≡◌, ◌⊎◌, List, IfSome}
use Rattle.std.specs.List.{AllByRecursion}
use Rattle.xfs_base.specs.declared.block.BlockId.{BlockId}
use Rattle.xfs_base.specs.declared.entry.Entry.{Entry}
use Rattle.delta_index.specs.Entries.{no_entry}
use Rattle.segment_format.specs.declared.segment.Item.{Item}
use Rattle.segment_format.specs.declared.segment.Item.TheVariants.{Block, Delta, Part}
use Rattle.segment_format.specs.Ranges.{FitsRow}
use Rattle.segment_reading.specs.Reading.{ReadingState}
use Rattle.checkpoint.specs.WriterState.{Rows, WriterState}
use Rattle.client_log.specs.declared.input.In.{In as Input}
use Rattle.client_log.specs.declared.input.In.TheVariants.{Put, Parts, Maps}
use Rattle.client_log.specs.History.{state_after}
use Rattle.client_log.specs.LogState.{LogState}
use Rattle.manager_slots.specs.declared.slot_phase.SlotPhase.{SlotPhase}
use Rattle.manager_slots.specs.declared.slot_phase.SlotPhase.TheVariants as phase
use Rattle.manager_slots.specs.SlotTable.{Table}
use Rattle.takeover.specs.declared.source.Present.{Present}
use Rattle.takeover.specs.TakeState.{TakeState}
use Rattle.wire_msg.specs.declared.body.Body.{Body}
use Rattle.wire_msg.specs.declared.body.Body.TheVariants as body
use Rattle.log_law.specs.Events.{IsWritten}
use Rattle.node_logs.specs.client_log_tie.Texts.{MapFits}
use Rattle.node_logs.specs.cleaner_log_tie.Fitting.{RoundFits}
use Rattle.node_logs.specs.cleaner_log_tie.Fitting as for_cleaner

-- ---- rows

-- the numbers of each row are in the ranges of their types
abbrev pub RowsFit : Rows → Type 0
RowsFit rows = AllByRecursion FitsRow rows

-- the numbers of a row are in the ranges of their types, or it tells that nothing is known of the block
abbrev pub IsRowInRange : BlockId × Entry → Type 0
IsRowInRange row = FitsRow row ⊎ (row.1 ≡ no_entry)

abbrev pub RowsInRange : Rows → Type 0
RowsInRange rows = AllByRecursion IsRowInRange rows

-- the numbers of each row are so on each of these pages
abbrev pub PagesFit : List Rows → Type 0
PagesFit pages = AllByRecursion RowsFit pages

-- ---- the log

-- a checkpoint has Parts alone
abbrev pub PartFits : Item → Type 0
PartFits (Block block value) = ⊥
PartFits (Delta block ver hop item) = ⊥
PartFits (Part slot rows) = RowsFit rows

-- what a log of checkpoints takes: no version of a block is put
abbrev pub InputFits : Input → Type 0
InputFits (Put block entry value) = ⊥
InputFits (Parts items) = AllByRecursion PartFits items
InputFits (Maps m) = MapFits m
InputFits _ = Unit {0}

-- Whatever fits and a log of checkpoints takes from now on, oldest first: what is in flight then has a text.
abbrev pub StaysWritten : LogState → Type 0
StaysWritten s = (later : List Input) → AllByRecursion InputFits later → IfSome (state_after s later).flight (λ f. IsWritten f.segment)

-- ---- what a manager has

-- the pages that a writer has still to give out fit
abbrev pub WriterFits : WriterState → Type 0
WriterFits writer = IfSome writer.work (λ work. PagesFit work.left)

abbrev pub PresentFits : Present → Type 0
PresentFits p = IfSome p.reading (λ (r : ReadingState). RoundFits r.round)

-- what a takeover has read fits: the rows of whole sources and of the present one, and the fragments that came of a segment
pub record TakeFits (s : TakeState) : Type 0 where
  pub index : RowsFit s.index
  pub chain : PagesFit s.chain
  pub present : IfSome s.present PresentFits

-- the rows of the index of a slot that is managed fit, and what is read of one that is taken over
abbrev pub SlotFits : SlotPhase → Type 0
SlotFits (phase.Active a) = RowsFit a.slot.index.rows
SlotFits (phase.Away epoch) = Unit {0}
SlotFits (phase.Taking taking) = TakeFits taking.take
SlotFits (phase.Broken epoch seg) = Unit {0}

-- so they do in each of its slots
abbrev pub TableFits : Table → Type 0
TableFits table = AllByRecursion SlotFits table

-- ---- packets

-- The numbers of a packet are in the ranges of their types, as those of each packet that a program holds: besides those of what comes to the cleaner (the row
-- that a Live tells, the bytes of a fragment, the ids of the groups of a map), those of the rows of Deltas, and of what a Grant tells of its block.
abbrev pub InRange : Body → Type 0
InRange (body.Deltas m) = RowsInRange m.rows
InRange (body.Grant m) = IsRowInRange (m.block, m.entry)
InRange b = for_cleaner.InRange b
