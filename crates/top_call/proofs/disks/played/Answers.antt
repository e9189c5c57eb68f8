use Rattle.std.proofs.Common.{◌≡◌, ap, subst, sym}
use Rattle.disk_play.specs.Courses.{disk_estate_of, disks_of}
use Rattle.disk_play.specs.Standing.{DisksStand}
use Rattle.world_base.specs.declared.estate.Estate.{Estate}
use Rattle.top_call.proofs.Claims.{disks_give, is_played_with_disks}
use Rattle.top_call.proofs.Setups.{script_setup}
use Rattle.top_call.proofs.disks.played.Goals as goal

pub disk_play-requires : goal.disk_play-requires
disk_play-requires g c = script_setup c.args.script.now c.requires

pub returns-clause-script : goal.returns-clause-script
returns-clause-script g c = ap (λ (x : Estate g.row.N.Denot). x.script) c.in_ok-played.ensures.exact

pub returns-clause-run : goal.returns-clause-run
returns-clause-run g c =
    let e = c.in_ok-played.ensures in
    let script = c.args.script.now in
    is_played_with_disks g.N.Actor.transition g.N.Member.first script c.in_ok-played.played.estate c.requires
    (script_setup script c.requires) (ap (λ (x : Estate g.row.N.Denot). x.script) e.exact) e.one_run e.in_order e.complete

pub returns-clause-determined : goal.returns-clause-determined
returns-clause-determined g c =
    let exact = c.in_ok-played.ensures.exact in
    let estate = c.in_ok-played.played.estate in
    subst (λ script. estate ≡ disk_estate_of g.N.Actor.transition g.N.Shelved.shelf_of g.N.Member.first script)
    (sym (ap (λ (x : Estate g.row.N.Denot). x.script) exact)) exact

pub returns-clause-gives : goal.returns-clause-gives
returns-clause-gives g c =
    let e = c.in_ok-played.ensures in
    let estate = c.in_ok-played.played.estate in
    let disks = c.in_ok-played.played.disks in
    disks_give c.an_image_stands_for_one_state.ensures.one g.N.Shelved.shelf_of estate
    (disks_of g.N.Actor.transition g.N.Shelved.shelf_of g.N.Member.first estate.script) disks
    (subst (λ script. DisksStand g.N.Shelved.shelf_of estate (disks_of g.N.Actor.transition g.N.Shelved.shelf_of g.N.Member.first script) disks)
    (sym (ap (λ (x : Estate g.row.N.Denot). x.script) e.exact)) e.disks)
