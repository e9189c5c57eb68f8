use Rattle.segment_format.proofs.Attempts.{one_content, one_length}
use Rattle.segment_format.proofs.laws.attempts_have_one_content.Goals as goal

pub returns-clause-length : goal.returns-clause-length
returns-clause-length c = λ a b s t p q e. one_length a b s t p q e

pub returns-clause-content : goal.returns-clause-content
returns-clause-content c = λ a b s t p q e. one_content a b s t p q e
