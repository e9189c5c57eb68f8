use Rattle.log_law.proofs.Adopting.{a_reopening_adopts}
use Rattle.log_law.proofs.BeingRead.{what_is_read_is_whole}
use Rattle.log_law.proofs.Boots.{a_restart_files_one}
use Rattle.log_law.proofs.Ends.{ends_are_last, files_its_flight}
use Rattle.log_law.proofs.Flying.{flies_next}
use Rattle.log_law.proofs.GoingOn.{openings_go_on}
use Rattle.log_law.proofs.Groups.{ends_name_groups, priors_name_groups}
use Rattle.log_law.proofs.Held as held
use Rattle.log_law.proofs.InLine.{logs_stay_in_line, the_feed_is_whole}
use Rattle.log_law.proofs.Places.{a_place_names_one_content}
use Rattle.log_law.proofs.ReadingDown.{openings_read_down, reopens_behind}
use Rattle.log_law.proofs.Restarted.{a_restart_files_the_tail}
use Rattle.log_law.proofs.Tails.{a_tail_is_filed_or_never}
use Rattle.log_law.proofs.Unfiled.{nothing_filed_opening}
use Rattle.log_law.proofs.Wholeness.{logs_stay_whole, one_name_one_text}
use Rattle.log_law.proofs.Written as written
use Rattle.log_law.proofs.laws_of_logs.Goals as goal

pub returns : goal.returns
returns c = record {
  whole = logs_stay_whole c.below.ensures;
  one_text = one_name_one_text c.below.ensures;
  content = a_place_names_one_content c.below.ensures;
  read = what_is_read_is_whole c.below.ensures c.what_is_read_back_is_whole.ensures.whole;
  held = held.what_is_held_flew c.below.ensures;
  own = held.what_flew_is_of_the_log c.below.ensures;
  listed = held.what_is_listed_flew c.below.ensures;
  written = written.what_flew_is_written c.below.ensures;
  next = written.what_flies_is_next c.below.ensures;
  linked = written.what_is_read_back_is_linked c.below.ensures;
  priors = priors_name_groups c.below.ensures;
  ends = ends_name_groups c.below.ensures;
  line = logs_stay_in_line c.below.ensures;
  last = ends_are_last c.below.ensures;
  flown = files_its_flight c.below.ensures;
  feed = the_feed_is_whole c.below.ensures;
  adopts = a_reopening_adopts c.below.ensures;
  tail = a_tail_is_filed_or_never c.below.ensures;
  only = a_restart_files_the_tail c.below.ensures;
  down = openings_read_down c.below.ensures;
  behind = reopens_behind c.below.ensures;
  on = openings_go_on c.below.ensures;
  flies = flies_next c.below.ensures;
  unfiled = nothing_filed_opening c.below.ensures;
  one = a_restart_files_one c.below.ensures;
}
