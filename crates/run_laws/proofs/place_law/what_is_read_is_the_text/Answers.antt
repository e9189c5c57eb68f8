use Rattle.run_laws.proofs.place_law.Handling.{hands_read_texts}
use Rattle.run_laws.proofs.place_law.Texts.{takeovers_read_texts, what_is_read_is_the_text}
use Rattle.run_laws.proofs.place_law.what_is_read_is_the_text.Goals as goal

pub returns-clause-own : goal.returns-clause-own
returns-clause-own c = what_is_read_is_the_text c.laws_of_logs.ensures.one_text c.laws_of_logs.ensures.content

pub returns-clause-takeovers : goal.returns-clause-takeovers
returns-clause-takeovers c =
    takeovers_read_texts c.laws_of_logs.ensures.one_text c.laws_of_logs.ensures.content c.what_is_told_is_in_range.ensures
    c.managers_read_what_came.ensures.reads

pub returns-clause-hands : goal.returns-clause-hands
returns-clause-hands c =
    hands_read_texts c.laws_of_logs.ensures.one_text c.laws_of_logs.ensures.content c.cleaner_reads_what_came.ensures.reads
