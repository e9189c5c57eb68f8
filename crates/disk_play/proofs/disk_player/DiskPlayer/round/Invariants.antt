use Rattle.std.proofs.Common.{◌≡◌, ◌≤◌, ◌-◌, fold, map}
use Rattle.std.specs.List.{range_with_len}
use Rattle.world_base.specs.Cluster.{node_at, nodes_of}
use Rattle.disk_play.specs.Courses.{deck_of, ticks_on}
use Rattle.disk_play.specs.Standing.{Stands}
use Rattle.disk_play.proofs.disk_player.DiskPlayer.round.Given as goal

-- the nodes so far and those to come are all
abbrev pub invariant-loop-place : goal.invariant-loop-place
invariant-loop-place g l = record {
  all : fold (ticks_on g.N.Actor.transition g.N.Shelved.shelf_of) (deck_of l.self.course l.self.shelves.items) (map (node_at l.cluster) (range_with_len l.place (l.place-end - l.place))) ≡ fold
      (ticks_on g.N.Actor.transition g.N.Shelved.shelf_of) (deck_of l.initial.self.course l.initial.self.shelves.items) (nodes_of l.cluster);
  stands : Stands g.N.Actor.transition g.N.Member.first g.N.Shelved.shelf_of l.script l.self.course l.self.shelves.items;
  no_more : l.self.course.player.unanswered ≤ l.initial.self.course.player.unanswered;
}
