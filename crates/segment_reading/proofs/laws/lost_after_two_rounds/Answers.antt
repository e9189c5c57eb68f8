use Rattle.segment_reading.proofs.Courses.{lost_exactly}
use Rattle.segment_reading.proofs.laws.lost_after_two_rounds.Goals as goal

pub returns : goal.returns
returns c = lost_exactly
