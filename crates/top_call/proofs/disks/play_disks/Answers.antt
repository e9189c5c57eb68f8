use Rattle.std.proofs.Common.{inr}
use Rattle.top_call.specs.Claim.{writing}
use Rattle.top_call.proofs.Claims.{disks_told, gives_up, some_disks, some_stopped}
use Rattle.top_call.proofs.disks.play_disks.Goals as goal

pub returns-in-Ok-clause-told : goal.returns-in-Ok-clause-told
returns-in-Ok-clause-told g c =
    let s = writing g.K.Sink.written g.K.Sink.faults c.args.sink.now c.write_disks.new.sink in
    let e = c.in-Ok.ensures in
    disks_told g.N.Actor.transition g.N.Member.first c.args.script.now s c.write_disks.result c.in-Ok.played.estate e.script e.run c.write_disks.ensures.told

pub returns-in-Ok-clause-one_run : goal.returns-in-Ok-clause-one_run
returns-in-Ok-clause-one_run g c =
    some_stopped g.N.Actor.transition g.N.Member.first c.write_disks.result.estate c.in-Ok.played.estate c.write_disks.ensures.estate c.in-Ok.ensures.run

pub returns-in-Ok-clause-disks : goal.returns-in-Ok-clause-disks
returns-in-Ok-clause-disks g c =
    let played = c.in-Ok.played in
    let o = c.write_disks.result in
    some_disks g.N.Actor.transition g.N.Member.first g.N.Shelved.shelf_of o.estate played.estate played.disks o.disks c.write_disks.ensures.estate
    c.write_disks.ensures.disks c.in-Ok.ensures.determined c.in-Ok.ensures.gives

pub returns-in-Err-clause-told : goal.returns-in-Err-clause-told
returns-in-Err-clause-told g c = inr (gives_up g.K.Sink.written g.K.Sink.faults c.args.sink.now c.ended.result c.ended.ensures)
