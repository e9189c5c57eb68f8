use Rattle.log_flight.proofs.ItemTexts.{BuildsItems}
use Rattle.log_flight.proofs.items.items_of.Given as goal

abbrev pub invariant-loop-block : goal.invariant-loop-block
invariant-loop-block l = BuildsItems l.items l.block-iterator l.initial.block-iterator
