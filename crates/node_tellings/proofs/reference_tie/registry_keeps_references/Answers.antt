use Rattle.node_tellings.proofs.reference_tie.Registries.{registry_keeps, registry_starts}
use Rattle.node_tellings.proofs.reference_tie.registry_keeps_references.Goals as goal
use Rattle.node_tellings.specs.reference_tie.References.{listed}

pub returns : goal.returns
returns c = record {
  start = λ parts ends setup works. registry_starts (listed parts ends) setup works;
  events = λ parts ends node what h told. registry_keeps (listed parts ends) node what h told;
}
