use Rattle.std.proofs.Common.{◌∙◌, List, sym, ap, subst}
use Rattle.disk_shelf.specs.Kept.{Kept}
use Rattle.disk_shelf.specs.MemDisk.{MemState}
use Rattle.play.specs.declared.player.Player.{Player}
use Rattle.script_text.specs.declared.script.Script.{Script}
use Rattle.world_base.specs.declared.event.Event.{Event}
use Rattle.world_base.specs.declared.world.World.{World}
use Rattle.world_base.specs.NextWorld.{start_world}
use Rattle.world_base.specs.Runs.{BeginsAll}
use Rattle.disk_play.specs.declared.course.Course.{Course}
use Rattle.disk_play.specs.Courses.{Deck, disks_of}
use Rattle.disk_play.specs.Standing.{AreTheirs, Follow}
use Rattle.disk_play.proofs.Closing.{disks_stand}
use Rattle.disk_play.proofs.Starting.{start_cluster}
use Rattle.disk_play.proofs.Turning.{leads_cluster}
use Rattle.disk_play.proofs.playing.disk_play.Goals as goal

pub returns-clause-exact : goal.returns-clause-exact
returns-clause-exact g c =
    let course = ap (λ (d : Deck g.row.N.Denot). d.course) c.in_ok-player.ensures.exact in
    let events =
    ap (λ p. p.1) c.into_parts-world.ensures ∙ ap (λ (p : Player g.row.N.Denot). p.events) c.into_player.ensures
    ∙ ap (λ p. p.0.player.events) c.into_parts-course.ensures ∙ ap (λ (x : Course g.row.N.Denot). x.player.events) course
    in
    let world =
    ap (λ p. p.0) c.into_parts-world.ensures ∙ ap (λ (p : Player g.row.N.Denot). p.world) c.into_player.ensures
    ∙ ap (λ p. p.0.player.world) c.into_parts-course.ensures ∙ ap (λ (x : Course g.row.N.Denot). x.player.world) course
    in
    λ i. record { script = c.in_ok-script.ensures i; events = events i; world = world i }

pub returns-clause-complete : goal.returns-clause-complete
returns-clause-complete g c =
    let script = c.args.script.now in
    let events =
    ap (λ p. p.1) c.into_parts-world.ensures ∙ ap (λ (p : Player g.row.N.Denot). p.events) c.into_player.ensures
    ∙ ap (λ p. p.0.player.events) c.into_parts-course.ensures
    in
    subst (λ (es : List Event). BeginsAll script.lines es) (sym events) c.in_ok-player.ensures.complete

pub returns-clause-disks : goal.returns-clause-disks
returns-clause-disks g c =
    let step = g.N.Actor.transition in
    let first = g.N.Member.first in
    let shelf_of = g.N.Shelved.shelf_of in
    let script = c.args.script.now in
    let player = c.in_ok-player.player in
    let stands = c.in_ok-player.ensures.stands in
    let world =
    ap (λ p. p.0) c.into_parts-world.ensures ∙ ap (λ (p : Player g.row.N.Denot). p.world) c.into_player.ensures
    ∙ ap (λ p. p.0.player.world) c.into_parts-course.ensures
    in
    let servers =
    ap (λ (w : World g.row.N.Denot). w.cluster.servers) world
    ∙ ap (λ k. k.servers)
    (leads_cluster step (start_world first script) player.course.player.events player.course.player.world stands.run ∙ start_cluster first script)
    ∙ ap (λ (s : Script). s.setup.servers) (sym c.in_ok-script.ensures)
    in
    disks_stand shelf_of
    (record { script = c.in_ok-script.script; events = c.into_parts-world.result.1; world = c.into_parts-world.result.0 })
    (disks_of step shelf_of first script) player.shelves.items c.in_ok-disks.disks servers
    (subst (λ (w : World g.row.N.Denot). Follow shelf_of w player.shelves.items) (sym world) stands.follow)
    (ap (λ (d : Deck g.row.N.Denot). d.disks) c.in_ok-player.ensures.exact)
    (subst (λ (l : List (Kept MemState)). AreTheirs l c.in_ok-disks.disks) (ap (λ p. p.1.items) c.into_parts-course.ensures) c.in_ok-disks.ensures)
