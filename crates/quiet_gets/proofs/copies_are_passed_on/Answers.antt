use Rattle.quiet_gets.proofs.FromCopies.{from_copies}
use Rattle.quiet_gets.proofs.copies_are_passed_on.Goals as goal

pub returns : goal.returns
returns c = record { passed = from_copies }
