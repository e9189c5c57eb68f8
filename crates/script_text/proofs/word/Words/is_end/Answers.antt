use Rattle.script_text.proofs.Parts.{end_is}
use Rattle.script_text.proofs.word.Words.is_end.Goals as goal

pub returns : goal.returns
returns c = end_is _ _ _ c.self.view_is c.is_none.ensures
