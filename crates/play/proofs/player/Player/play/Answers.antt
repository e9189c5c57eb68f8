use Rattle.std.proofs.Common.{◌≡◌, sym, subst}
use Rattle.world_base.specs.Runs.{BeginsAll, IsRun, begun_in}
use Rattle.play.specs.Plays.{actors_of}
use Rattle.play.proofs.EachBegun.{play_begins, play_begins_all}
use Rattle.play.proofs.RunOf.{play_runs}
use Rattle.play.proofs.player.Player.play.Goals as goal

pub returns-clause-one_run : goal.returns-clause-one_run
returns-clause-one_run g c =
    let step = g.N.Actor.transition in
    let first = g.N.Member.first in
    let script = c.args.script.now in
    subst (λ player. IsRun step first script player.events player.world) (sym c.in_ok-player.ensures) (play_runs step first script)

pub returns-clause-in_order : goal.returns-clause-in_order
returns-clause-in_order g c =
    let script = c.args.script.now in
    subst (λ player. begun_in player.events ≡ actors_of script.lines) (sym c.in_ok-player.ensures) (play_begins g.N.Actor.transition g.N.Member.first script)

pub returns-clause-complete : goal.returns-clause-complete
returns-clause-complete g c =
    let script = c.args.script.now in
    subst (λ player. BeginsAll script.lines player.events) (sym c.in_ok-player.ensures) (play_begins_all g.N.Actor.transition g.N.Member.first script)
