use Rattle.token_law.proofs.ExampleRun.{shared}
use Rattle.token_law.proofs.example.Goals as goal

pub returns : goal.returns
returns c = record { shared = shared }
