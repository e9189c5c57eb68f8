-- The moves of the items of a node: which have begun, which is open and how it is answered, one thing at a time; and what an event makes of them.
use Rattle.version_model.specs.declared.answer.Answer.{Answer}
use Rattle.version_model.specs.declared.answer.Answer.TheVariants as answer

abbrev pub IsBusy : Answer → Type 0
IsBusy answer.Busy = Unit {0}
IsBusy _ = ⊥
