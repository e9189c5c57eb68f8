use Rattle.std.proofs.Common.{◌≡◌, sym, subst}
use Rattle.play.specs.Plays.{actors_of}
use Rattle.world_base.specs.Runs.{BeginsAll, begun_in}
use Rattle.disk_play.specs.Courses.{Deck}
use Rattle.disk_play.proofs.Begun.{play_begins, play_begins_all}
use Rattle.disk_play.proofs.disk_player.DiskPlayer.play.Goals as goal

pub returns-clause-in_order : goal.returns-clause-in_order
returns-clause-in_order g c =
    let script = c.args.script.now in
    subst (λ (d : Deck g.row.N.Denot). begun_in d.course.player.events ≡ actors_of script.lines) (sym c.in_ok-player.ensures.exact)
    (play_begins g.N.Actor.transition g.N.Shelved.shelf_of g.N.Member.first script)

pub returns-clause-complete : goal.returns-clause-complete
returns-clause-complete g c =
    let script = c.args.script.now in
    subst (λ (d : Deck g.row.N.Denot). BeginsAll script.lines d.course.player.events) (sym c.in_ok-player.ensures.exact)
    (play_begins_all g.N.Actor.transition g.N.Shelved.shelf_of g.N.Member.first script)
