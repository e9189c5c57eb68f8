use Rattle.client_log.proofs.Keeping.{put_kept}
use Rattle.client_log.proofs.laws.puts_are_kept.Goals as goal

pub returns : goal.returns
returns c = λ s block change. put_kept block change s
