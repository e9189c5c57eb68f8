use Rattle.node_tellings.proofs.reference_tie.Managers.{managers_keep, managers_start}
use Rattle.node_tellings.proofs.reference_tie.managers_keep_references.Goals as goal
use Rattle.node_tellings.specs.reference_tie.References.{listed}

pub returns : goal.returns
returns c = record {
  start = λ parts ends number setup works. managers_start (listed parts ends) number setup works;
  events = λ parts ends m what h flies told. managers_keep (listed parts ends) m what h flies told;
}
