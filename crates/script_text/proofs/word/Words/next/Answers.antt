use Rattle.script_text.proofs.Parts.{left_words, last_word, next_word}
use Rattle.script_text.proofs.word.Words.next.Goals as goal

pub returns-in-None-cut_at-clause-word : goal.returns-in-None-cut_at-clause-word
returns-in-None-cut_at-clause-word c =
    (last_word _ c.in-Some.bytes.now (left_words _ _ c.in-Some.bytes c.self.view_is c.in-Some.is) c.in-None-cut_at.ensures).0

pub returns-in-None-cut_at-clause-left : goal.returns-in-None-cut_at-clause-left
returns-in-None-cut_at-clause-left c =
    (last_word _ c.in-Some.bytes.now (left_words _ _ c.in-Some.bytes c.self.view_is c.in-Some.is) c.in-None-cut_at.ensures).1

pub returns-in-Some-cut_at-clause-word : goal.returns-in-Some-cut_at-clause-word
returns-in-Some-cut_at-clause-word c =
    (next_word _ c.in-Some.bytes.now c.in-Some-cut_at.word.now c.in-Some-cut_at.rest.now
    (left_words _ _ c.in-Some.bytes c.self.view_is c.in-Some.is) c.in-Some-cut_at.ensures.0 c.in-Some-cut_at.ensures.1).0

pub returns-in-Some-cut_at-clause-left : goal.returns-in-Some-cut_at-clause-left
returns-in-Some-cut_at-clause-left c =
    (next_word _ c.in-Some.bytes.now c.in-Some-cut_at.word.now c.in-Some-cut_at.rest.now
    (left_words _ _ c.in-Some.bytes c.self.view_is c.in-Some.is) c.in-Some-cut_at.ensures.0 c.in-Some-cut_at.ensures.1).1
