use Rattle.std.proofs.Common.{◌≡◌, ◌≤◌, take}
use Rattle.std.specs.List.{count_by}
use Rattle.disk_play.specs.Courses.{is_begin_of}
use Rattle.disk_play.proofs.counting.begins_of.Given as goal

-- the begins among the events so far
abbrev pub invariant-loop-event : goal.invariant-loop-event
invariant-loop-event l = (l.count ≡ count_by (is_begin_of l.node) (take l.event-index l.events)) × (l.count ≤ l.event-index)
