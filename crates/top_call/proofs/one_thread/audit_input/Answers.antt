use Rattle.std.proofs.Common.{Some, inl, inr, refl}
use Rattle.top_call.specs.declared.command.Command.TheVariants.{Audit}
use Rattle.top_call.specs.Claim.{line, refusal, verdict_status, writing}
use Rattle.top_call.specs.Spoken.{verdict_text}
use Rattle.top_call.proofs.Claims.{answers, gives_up, none_played}
use Rattle.top_call.proofs.one_thread.audit_input.Goals as goal

pub returns-in-Ok-clause-told : goal.returns-in-Ok-clause-told
returns-in-Ok-clause-told g c =
    let verdict = c.in-Ok.verdict in
    let s = writing g.K.Sink.written g.K.Sink.faults c.args.sink.now c.say.new.sink in
    answers g.N.Actor.transition g.N.Member.first (Some Audit) c.args.input.now s c.say.result (line (verdict_text verdict) (verdict_status verdict))
    (inl (verdict, c.in-Ok.ensures.judged, refl)) c.say.ensures.told

pub returns-in-Ok-clause-one_run : goal.returns-in-Ok-clause-one_run
returns-in-Ok-clause-one_run g c = none_played g.N.Actor.transition g.N.Member.first c.say.result.estate c.say.ensures.no_run

pub returns-in-Err-Bad-clause-told : goal.returns-in-Err-Bad-clause-told
returns-in-Err-Bad-clause-told g c =
    let number = c.in-Err-Bad.number in
    let kind = c.in-Err-Bad.kind in
    let fault = rw c.in-Err-Bad.field-0-is at c.in-Err-Bad.ensures.refused in
    let s = writing g.K.Sink.written g.K.Sink.faults c.args.sink.now c.refuse.new.sink in
    answers g.N.Actor.transition g.N.Member.first (Some Audit) c.args.input.now s c.refuse.result (refusal number kind)
    (inr (number, kind, fault, refl)) c.refuse.ensures.told

pub returns-in-Err-Bad-clause-one_run : goal.returns-in-Err-Bad-clause-one_run
returns-in-Err-Bad-clause-one_run g c = none_played g.N.Actor.transition g.N.Member.first c.refuse.result.estate c.refuse.ensures.no_run

pub returns-in-Err-Memory-clause-told : goal.returns-in-Err-Memory-clause-told
returns-in-Err-Memory-clause-told g c = inr (gives_up g.K.Sink.written g.K.Sink.faults c.args.sink.now c.ended.result c.ended.ensures)
