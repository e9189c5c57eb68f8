use Rattle.std.proofs.Common.{inl, inr}
use Rattle.top_call.specs.Claim.{writing}
use Rattle.top_call.proofs.Claims.{gives_up, run_told}
use Rattle.top_call.proofs.one_thread.write_run.Goals as goal

pub returns-in-Ok-clause-told : goal.returns-in-Ok-clause-told
returns-in-Ok-clause-told g c =
    let s = writing g.K.Sink.written g.K.Sink.faults c.args.sink.now c.hand_out.new.sink in
    inl (run_told s c.hand_out.result _ _ c.args.estate c.in-Ok.ensures c.hand_out.ensures.told)

pub returns-in-Err-clause-told : goal.returns-in-Err-clause-told
returns-in-Err-clause-told g c = inr (gives_up g.K.Sink.written g.K.Sink.faults c.args.sink.now c.ended.result c.ended.ensures)
