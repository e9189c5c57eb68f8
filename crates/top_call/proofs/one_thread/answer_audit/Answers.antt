use Rattle.std.proofs.Common.{Err, Some, ap, arith, inl, inr, refl, subst}
use Rattle.top_call.specs.declared.command.Command.TheVariants.{Audit}
use Rattle.top_call.specs.Claim.{AnswersOrGivesUp, IsPlayed, IsRunBy, reading, writing}
use Rattle.top_call.proofs.Claims.{cannot_read, claims_read, claims_without_run, each_left, gives_up}
use Rattle.top_call.proofs.one_thread.answer_audit.Goals as goal

pub returns-in-Ok-clause-claim : goal.returns-in-Ok-clause-claim
returns-in-Ok-clause-claim g c =
    let step = g.N.Actor.transition in
    let first = g.N.Member.first in
    let e = c.audit_input.ensures in
    let o = c.audit_input.result in
    let r = reading g.S.Source.left g.S.Source.faults c.args.source.now c.read_input.new.source in
    let s = writing g.K.Sink.written g.K.Sink.faults c.args.sink.now c.audit_input.new.sink in
    claims_read step first Audit r s o c.in-Ok.input (c.in-Ok.ensures.whole, c.in-Ok.ensures.consumes)
    (subst (λ input. AnswersOrGivesUp step first (Some Audit) input s o) c.as_bytes.ensures e.told)
    (each_left (λ x. IsPlayed step first x) (IsRunBy step first (Some Audit)) (λ x h. h) o.estate e.one_run) e.plain.0 c.read_input.ensures.taken
    c.read_input.ensures.later e.later

pub returns-in-Err-Failed-clause-claim : goal.returns-in-Err-Failed-clause-claim
returns-in-Err-Failed-clause-claim g c =
    let r = reading g.S.Source.left g.S.Source.faults c.args.source.now c.read_input.new.source in
    let s = writing g.K.Sink.written g.K.Sink.faults c.args.sink.now c.args.sink.now in
    let e = c.ended.ensures in
    let t = cannot_read g.K.Sink.written g.K.Sink.faults c.args.sink.now c.ended.result e in
    claims_without_run g.N.Actor.transition g.N.Member.first Audit refl r s c.ended.result
    (inr (inr (refl, (t.0, t.1, t.2, c.in-Err-Failed.ensures.failed (ap Err c.in-Err-Failed.field-0-is))))) (ap (λ x. x.estate) e) (ap (λ x. x.boards) e)
    c.read_input.ensures.taken c.read_input.ensures.later (omega arith)

pub returns-in-Err-Memory-clause-claim : goal.returns-in-Err-Memory-clause-claim
returns-in-Err-Memory-clause-claim g c =
    let r = reading g.S.Source.left g.S.Source.faults c.args.source.now c.read_input.new.source in
    let s = writing g.K.Sink.written g.K.Sink.faults c.args.sink.now c.args.sink.now in
    let o = c.ended-in-Err-Memory.result in
    let e = c.ended-in-Err-Memory.ensures in
    claims_without_run g.N.Actor.transition g.N.Member.first Audit refl r s o
    (inr (inl (gives_up g.K.Sink.written g.K.Sink.faults c.args.sink.now o e))) (ap (λ x. x.estate) e) (ap (λ x. x.boards) e)
    c.read_input.ensures.taken c.read_input.ensures.later (omega arith)
