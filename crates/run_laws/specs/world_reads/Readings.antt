-- What nodes tell of where blocks lie, and what they read.
use Rattle.node_tellings.specs.entry_tie.CleanerTells.{CleanerHoldsRise, CleanerStartsTold, CleanerTellsTold}
use Rattle.node_tellings.specs.entry_tie.ClientTells.{ClientHoldsRise, ClientStartsTold, ClientsTellTold}
use Rattle.node_tellings.specs.entry_tie.ManagerTells.{ManagerHoldsRise, ManagerStartsTold, ManagersTellTold}
use Rattle.node_tellings.specs.entry_tie.OtherTells.{RegistryTellsNone, ServersTellNone}
use Rattle.node_tellings.specs.reading_tie.TakeoverReads.{TakeoversReadWhatCame}
use Rattle.run_laws.specs.Kinds.{OfKind}
use Rattle.run_laws.specs.place_law.PlaceLaws.{PlaceLaws}
use Rattle.run_laws.specs.reading_law.Readings.{RunsReadWhatCame}

-- what each kind of node tells of where blocks lie
pub record EntryKinds : Type 0 where
  pub client : OfKind ClientStartsTold ClientHoldsRise ClientsTellTold
  pub manager : OfKind ManagerStartsTold ManagerHoldsRise ManagersTellTold
  pub cleaner : OfKind CleanerStartsTold CleanerHoldsRise CleanerTellsTold
  pub server : ServersTellNone
  pub registry : RegistryTellsNone

-- what nodes tell of where blocks lie, and what they read
pub record ReadsBelow : Type 0 where
  pub kinds : EntryKinds
  pub places : PlaceLaws
  pub takeovers_read_what_came : TakeoversReadWhatCame
  pub runs_read_what_came : RunsReadWhatCame
