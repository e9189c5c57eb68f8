use Rattle.node_tellings.proofs.entry_tie.Registries.{registry_tells}
use Rattle.node_tellings.proofs.entry_tie.registry_tells_no_entries.Goals as goal

pub returns : goal.returns
returns c = record { events = registry_tells }
