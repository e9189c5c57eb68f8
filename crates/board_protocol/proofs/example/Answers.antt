use Rattle.board_protocol.proofs.ExampleRun.{run, takes_each}
use Rattle.board_protocol.proofs.example.Goals as goal

pub returns : goal.returns
returns c = record { run = (run, takes_each) }
