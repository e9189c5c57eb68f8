use Rattle.std.proofs.Common.{ap, inr}
use Rattle.top_call.specs.Claim.{writing}
use Rattle.top_call.proofs.Claims.{gives_up, live_told, none_mounted, some_lived, some_mounted}
use Rattle.top_call.proofs.mounting.run_script.Goals as goal

pub returns-in-Ok-clause-told : goal.returns-in-Ok-clause-told
returns-in-Ok-clause-told g c =
    let s = writing g.K.Sink.written g.K.Sink.faults c.args.sink.now c.write_mounted.new.sink in
    let e = c.in-Ok.ensures in
    live_told g.N.Actor.transition g.N.Member.first c.args.script.now s c.write_mounted.result c.in-Ok.made.estate e.script e.run c.write_mounted.ensures.told

pub returns-in-Ok-clause-one_run : goal.returns-in-Ok-clause-one_run
returns-in-Ok-clause-one_run g c =
    some_lived g.N.Actor.transition g.N.Member.first c.write_mounted.result.estate c.in-Ok.made.estate c.write_mounted.ensures.estate c.in-Ok.ensures.run

pub returns-in-Ok-clause-mounts : goal.returns-in-Ok-clause-mounts
returns-in-Ok-clause-mounts g c =
    let o = c.write_mounted.result in
    let run = c.in-Ok.made in
    let w = c.write_mounted.ensures in
    some_mounted g.N.Actor.transition g.N.Member.first o.estate run.estate run.calls run.replies o.calls o.replies w.estate w.calls w.replies c.in-Ok.ensures.mounted

pub returns-in-Err-clause-told : goal.returns-in-Err-clause-told
returns-in-Err-clause-told g c = inr (gives_up g.K.Sink.written g.K.Sink.faults c.args.sink.now c.ended.result c.ended.ensures)

pub returns-in-Err-clause-mounts : goal.returns-in-Err-clause-mounts
returns-in-Err-clause-mounts g c =
    let o = c.ended.result in
    none_mounted g.N.Actor.transition g.N.Member.first o.estate o.calls o.replies (ap (λ x. x.estate) c.ended.ensures) (ap (λ x. x.calls) c.ended.ensures)
    (ap (λ x. x.replies) c.ended.ensures)
