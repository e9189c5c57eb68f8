use Rattle.log_law.proofs.Places.{a_place_names_one_content}
use Rattle.log_law.proofs.a_place_names_one_content.Goals as goal

pub returns : goal.returns
returns c = record { content = a_place_names_one_content c.below.ensures }
