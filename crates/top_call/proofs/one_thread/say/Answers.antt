use Rattle.std.proofs.Common.{◌∙◌, inl, inr, subst}
use Rattle.top_call.specs.Claim.{Tells, line, writing}
use Rattle.top_call.specs.Spoken.{verdict_text}
use Rattle.top_call.proofs.Claims.{gives_up, line_told}
use Rattle.top_call.proofs.one_thread.say.Goals as goal

pub returns-in-Ok-clause-told : goal.returns-in-Ok-clause-told
returns-in-Ok-clause-told g c =
    let s = writing g.K.Sink.written g.K.Sink.faults c.args.sink.now c.tell.new.sink in
    let told = line_told s c.tell.result _ _ _ (c.as_bytes.ensures ∙ c.in-Ok.ensures) c.tell.ensures.told in
    inl (subst (λ n. Tells s c.tell.result (line (verdict_text c.args.verdict) n)) c.status_of_verdict.ensures told)

pub returns-in-Err-clause-told : goal.returns-in-Err-clause-told
returns-in-Err-clause-told g c = inr (gives_up g.K.Sink.written g.K.Sink.faults c.args.sink.now c.ended.result c.ended.ensures)
