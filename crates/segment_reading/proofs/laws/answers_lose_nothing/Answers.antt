use Rattle.segment_reading.proofs.Answers.{lose_nothing, change_nothing}
use Rattle.segment_reading.proofs.laws.answers_lose_nothing.Goals as goal

pub returns : goal.returns
returns c = record { nothing_lost = lose_nothing; nothing_changed = change_nothing }
