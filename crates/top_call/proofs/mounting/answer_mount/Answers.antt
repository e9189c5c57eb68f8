use Rattle.std.proofs.Common.{refl}
use Rattle.top_call.specs.declared.command.Command.TheVariants.{Mount}
use Rattle.top_call.specs.Claim.{reading, writing}
use Rattle.top_call.proofs.Claims.{claims_lived, claims_not_lived, none_mounted}
use Rattle.top_call.proofs.mounting.answer_mount.Goals as goal

pub returns-in-Ok-clause-claim : goal.returns-in-Ok-clause-claim
returns-in-Ok-clause-claim g c =
    let r = reading g.S.Source.left g.S.Source.faults c.args.source.now c.read_script.new.source in
    let s = writing g.K.Sink.written g.K.Sink.faults c.args.sink.now c.run_script.new.sink in
    let e = c.run_script.ensures in
    claims_lived g.N.Actor.transition g.N.Member.first (Mount c.args.workers) refl refl (λ input w h. h) (λ e h. h) r s c.run_script.result
    c.in-Ok.script c.in-Ok.ensures.found e.told e.one_run e.no_boards c.read_script.ensures.bounded c.read_script.ensures.read_later e.later

pub returns-in-Err-clause-claim : goal.returns-in-Err-clause-claim
returns-in-Err-clause-claim g c =
    let r = reading g.S.Source.left g.S.Source.faults c.args.source.now c.read_script.new.source in
    let s = writing g.K.Sink.written g.K.Sink.faults c.args.sink.now c.end_unread.new.sink in
    let e = c.end_unread.ensures in
    claims_not_lived g.N.Actor.transition g.N.Member.first (Mount c.args.workers) refl refl (λ input w h. h) (λ e h. h) r s c.end_unread.result
    c.in-Err.why c.in-Err.ensures.cause e.told e.no_run e.plain.0 c.read_script.ensures.bounded c.read_script.ensures.read_later e.later

pub returns-in-Err-clause-mounts : goal.returns-in-Err-clause-mounts
returns-in-Err-clause-mounts g c =
    let o = c.end_unread.result in
    let e = c.end_unread.ensures in
    none_mounted g.N.Actor.transition g.N.Member.first o.estate o.calls o.replies e.no_run e.plain.2.0 e.plain.2.1
