use Rattle.std.proofs.Common.{◌∙◌, inl, inr}
use Rattle.top_call.specs.Claim.{writing}
use Rattle.top_call.proofs.Claims.{gives_up, line_told}
use Rattle.top_call.proofs.one_thread.write_script.Goals as goal

pub returns-in-Ok-clause-told : goal.returns-in-Ok-clause-told
returns-in-Ok-clause-told g c =
    let s = writing g.K.Sink.written g.K.Sink.faults c.args.sink.now c.tell.new.sink in
    inl (line_told s c.tell.result _ _ 0 (c.as_bytes.ensures ∙ c.in-Ok.ensures.exact) c.tell.ensures.told)

pub returns-in-Err-clause-told : goal.returns-in-Err-clause-told
returns-in-Err-clause-told g c = inr (gives_up g.K.Sink.written g.K.Sink.faults c.args.sink.now c.ended.result c.ended.ensures)
