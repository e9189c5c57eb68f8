use Rattle.std.proofs.Common.{inr}
use Rattle.top_call.specs.Claim.{writing}
use Rattle.top_call.proofs.Claims.{gives_up, live_told, some_lived}
use Rattle.top_call.proofs.many_threads.run_script.Goals as goal

pub returns-in-Ok-clause-told : goal.returns-in-Ok-clause-told
returns-in-Ok-clause-told g c =
    let s = writing g.K.Sink.written g.K.Sink.faults c.args.sink.now c.write_run.new.sink in
    let e = c.in-Ok.ensures in
    live_told g.N.Actor.transition g.N.Member.first c.args.script.now s c.write_run.result c.in-Ok.estate e.script e.run c.write_run.ensures.told

pub returns-in-Ok-clause-one_run : goal.returns-in-Ok-clause-one_run
returns-in-Ok-clause-one_run g c =
    some_lived g.N.Actor.transition g.N.Member.first c.write_run.result.estate c.in-Ok.estate c.write_run.ensures.estate c.in-Ok.ensures.run

pub returns-in-Err-clause-told : goal.returns-in-Err-clause-told
returns-in-Err-clause-told g c = inr (gives_up g.K.Sink.written g.K.Sink.faults c.args.sink.now c.ended.result c.ended.ensures)
