use Rattle.std.proofs.Common.{◌≡◌, ◌≤◌, fold, drop}
use Rattle.play.specs.Manner.{play_line}
use Rattle.disk_play.specs.Courses.{deck_of, manner_on, played_on}
use Rattle.disk_play.specs.Standing.{Stands}
use Rattle.disk_play.proofs.disk_player.DiskPlayer.lines.Given as goal

-- the lines so far and those to come are all
abbrev pub invariant-loop-line : goal.invariant-loop-line
invariant-loop-line g l = record {
  all : fold (play_line (manner_on g.N.Actor.transition g.N.Shelved.shelf_of)) (deck_of l.player.course l.player.shelves.items) (drop l.line-index l.script.lines) ≡ played_on g.N.Actor.transition
      g.N.Shelved.shelf_of g.N.Member.first l.script;
  stands : Stands g.N.Actor.transition g.N.Member.first g.N.Shelved.shelf_of l.script l.player.course l.player.shelves.items;
  few : l.player.course.player.unanswered ≤ l.line-index;
}
