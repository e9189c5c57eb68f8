use Rattle.std.proofs.Common.{◌≡◌, ◌≤◌}
use Rattle.world_base.specs.Schedule.{left}
use Rattle.play.specs.Manner.{goes_on}
use Rattle.disk_play.specs.Courses.{deck_of, manner_on}
use Rattle.disk_play.specs.Standing.{Stands}
use Rattle.disk_play.proofs.disk_player.DiskPlayer.go.Given as goal

-- what has happened and what is to happen are all
abbrev pub invariant-loop-alloc : goal.invariant-loop-alloc
invariant-loop-alloc g l = record {
  all : goes_on (manner_on g.N.Actor.transition g.N.Shelved.shelf_of) (left l.self.course.player.schedule)
      (deck_of l.self.course l.self.shelves.items) ≡ goes_on (manner_on g.N.Actor.transition g.N.Shelved.shelf_of) (left l.initial.self.course.player.schedule)
      (deck_of l.initial.self.course l.initial.self.shelves.items);
  stands : Stands g.N.Actor.transition g.N.Member.first g.N.Shelved.shelf_of l.script l.self.course l.self.shelves.items;
  no_more : l.self.course.player.unanswered ≤ l.initial.self.course.player.unanswered;
}

-- each time there is less left
abbrev pub decreases-loop-alloc : goal.decreases-loop-alloc
decreases-loop-alloc g l = left l.self.course.player.schedule
