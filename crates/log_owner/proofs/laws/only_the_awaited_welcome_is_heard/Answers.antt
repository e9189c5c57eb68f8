use Rattle.log_owner.proofs.Keeping.{unasked_so}
use Rattle.log_owner.proofs.laws.only_the_awaited_welcome_is_heard.Goals as goal

pub returns : goal.returns
returns c = unasked_so
