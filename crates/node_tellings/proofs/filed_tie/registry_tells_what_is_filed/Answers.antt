use Rattle.node_tellings.proofs.filed_tie.Filing.{registry_starts, registry_rises, registry_tells, registry_tells_alone}
use Rattle.node_tellings.proofs.filed_tie.registry_tells_what_is_filed.Goals as goal

pub returns : goal.returns
returns c = record {
  start = registry_starts;
  rises = registry_rises;
  events = registry_tells;
  alone = registry_tells_alone;
}
