use Rattle.log_protocol.proofs.StateLaws.{original_unhurt_always}
use Rattle.log_protocol.proofs.StepLaws.{hurt_earned_always}
use Rattle.log_protocol.proofs.hurt_is_earned.Goals as goal

pub returns : goal.returns
returns c = record { original = original_unhurt_always; earned = hurt_earned_always }
