use Rattle.node_tellings.proofs.filed_tie.Filing.{managers_start, managers_rise, managers_tell, managers_tell_alone}
use Rattle.node_tellings.proofs.filed_tie.managers_tell_what_is_filed.Goals as goal

pub returns : goal.returns
returns c = record {
  start = managers_start;
  rises = managers_rise;
  events = managers_tell;
  alone = managers_tell_alone;
}
