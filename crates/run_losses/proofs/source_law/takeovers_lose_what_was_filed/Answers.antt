use Rattle.run_losses.proofs.source_law.Every.{takeovers_lose_what_was_filed}
use Rattle.run_losses.proofs.source_law.takeovers_lose_what_was_filed.Goals as goal

pub returns : goal.returns
returns c = record {
  losses = takeovers_lose_what_was_filed c.takeovers_read_what_was_filed.ensures.filed c.takeovers_read_what_was_filed.ensures.stored
      c.takeovers_lose_what_is_torn.ensures.torn;
}
