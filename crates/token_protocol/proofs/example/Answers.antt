use Rattle.token_protocol.proofs.ExampleRun.{run, tells_acts, takes_kinds}
use Rattle.token_protocol.proofs.OtherExampleRun.{other_run, other_tells_acts, other_takes_kinds}
use Rattle.token_protocol.proofs.EveryKind.{every_kind}
use Rattle.token_protocol.proofs.example.Goals as goal

pub returns : goal.returns
returns c = record { fault_run = (run, (tells_acts, takes_kinds)); calm_run = (other_run, (other_tells_acts, other_takes_kinds)); every_kind = every_kind }
