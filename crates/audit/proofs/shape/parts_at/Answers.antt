use Rattle.script_text.proofs.Texts.{cut_missing, cut_there}
use Rattle.audit.proofs.shape.parts_at.Goals as goal

pub returns-in-None : goal.returns-in-None
returns-in-None c = cut_missing _ _ c.in-None.ensures

pub returns-in-Some : goal.returns-in-Some
returns-in-Some c = rw c.in-Some.ensures.0 (cut_there _ c.in-Some.front.now c.in-Some.back.now c.in-Some.ensures.1)
