-- The laws of what the owners of logs write, taken together.
use Rattle.run_laws.specs.segment_law.Flown.{ClientsFlewOriginals}
use Rattle.run_laws.specs.segment_tie.ItemLaws.{ItemLaws}
use Rattle.run_laws.specs.segment_tie.Runs.{RunsWriteCopies, RunsWriteOriginals}
use Rattle.run_laws.specs.world_lines.Flights.{CleanerWritesTexts, ClientsWriteTexts, ManagersWriteTexts}

pub record WritingLaws : Type 0 where
  pub items : ItemLaws
  pub clients_write_texts : ClientsWriteTexts
  pub cleaner_writes_texts : CleanerWritesTexts
  pub managers_write_texts : ManagersWriteTexts
  pub runs_write_originals : RunsWriteOriginals
  pub runs_write_copies : RunsWriteCopies
  pub clients_flew_originals : ClientsFlewOriginals
