use Rattle.script_text.proofs.Parts.{left_words, rest_is}
use Rattle.script_text.proofs.word.Words.rest.Goals as goal

pub returns-in-Some-clause-rest : goal.returns-in-Some-clause-rest
returns-in-Some-clause-rest c = (rest_is _ c.in-Some.bytes.now (left_words _ _ c.in-Some.bytes c.self.view_is c.in-Some.is)).0

pub returns-in-Some-clause-words : goal.returns-in-Some-clause-words
returns-in-Some-clause-words c = (rest_is _ c.in-Some.bytes.now (left_words _ _ c.in-Some.bytes c.self.view_is c.in-Some.is)).1
