use Rattle.script_text.proofs.Loops.{nothing_zero, nothing_empty}
use Rattle.script_text.proofs.text.is_nothing.Goals as goal

pub returns-then-parts-eq0 : goal.returns-then-parts-eq0
returns-then-parts-eq0 c = nothing_zero _ _ c.if-parts-eq0.true

pub returns : goal.returns
returns c = nothing_empty _ _ c.is_empty.result c.if-parts-eq0.false c.is_empty.ensures.0 c.is_empty.ensures.1
