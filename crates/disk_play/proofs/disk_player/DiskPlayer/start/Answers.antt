use Rattle.std.proofs.Common.{List, ap, replicate, subst, sym, ◌∙◌}
use Rattle.std.proofs.lemmas.List.Elements.{recursion_from_All}
use Rattle.play.specs.declared.player.Player.{Player}
use Rattle.play.specs.Plays.{player_start}
use Rattle.disk_play.specs.declared.stop.Stop.{Stop}
use Rattle.disk_play.specs.Disks.{new_disk}
use Rattle.disk_play.specs.Standing.{IsNew, Stands}
use Rattle.disk_play.proofs.Starting.{all_new, starts_stand}
use Rattle.disk_play.proofs.disk_player.DiskPlayer.start.Goals as goal

pub returns-clause-stands : goal.returns-clause-stands
returns-clause-stands g c =
    let step = g.N.Actor.transition in
    let first = g.N.Member.first in
    let shelf_of = g.N.Shelved.shelf_of in
    let script = c.args.script.now in
    let shelves = c.in_ok-shelves.shelves.items in
    subst (λ (p : Player g.row.N.Denot). Stands step first shelf_of script (record { player = p; stops = c.in_ok-all_running.field-0 }) shelves)
    (sym c.in_ok-start.ensures)
    (subst (λ (s : List Stop). Stands step first shelf_of script (record { player = player_start first script; stops = s }) shelves)
    (sym c.in_ok-all_running.ensures)
    (starts_stand step first shelf_of g.met.N.Shelved.begins_empty script shelves c.in_ok-shelves.ensures.count c.in_ok-shelves.ensures.each))

pub returns-clause-exact : goal.returns-clause-exact
returns-clause-exact g c =
    let shelves = c.in_ok-shelves.shelves.items in
    let disks = all_new shelves (recursion_from_All IsNew shelves c.in_ok-shelves.ensures.each) ∙ ap (λ n. replicate n new_disk) c.in_ok-shelves.ensures.count in
    λ i. record { course = record { player = c.in_ok-start.ensures i; stops = c.in_ok-all_running.ensures i }; disks = disks i }
