use Rattle.log_law.proofs.Held as held
use Rattle.log_law.proofs.what_is_held_flew.Goals as goal

pub returns : goal.returns
returns c = record {
  held = held.what_is_held_flew c.below.ensures;
  own = held.what_flew_is_of_the_log c.below.ensures;
  listed = held.what_is_listed_flew c.below.ensures;
}
