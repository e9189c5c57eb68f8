use Rattle.std.proofs.Common.{inl, inr, refl, subst}
use Rattle.top_call.specs.Claim.{reading, writing}
use Rattle.picture_call.proofs.Showing.{keeps_same}
use Rattle.picture_call.specs.Shown.{Shows}
use Rattle.picture_call.proofs.call.picture.Goals as goal

pub returns-in-Ok : goal.returns-in-Ok
returns-in-Ok g c =
    let r = reading g.S.Source.left g.S.Source.faults c.args.source.now c.show.new.source in
    let s = writing g.K.Sink.written g.K.Sink.faults c.args.sink.now c.show.new.sink in
    subst (λ asked. Shows asked r s c.show.result) c.in-Some.ensures c.show.ensures

pub returns-in-Err : goal.returns-in-Err
returns-in-Err g c =
    let r = reading g.S.Source.left g.S.Source.faults c.args.source.now c.args.source.now in
    let s = writing g.K.Sink.written g.K.Sink.faults c.args.sink.now c.args.sink.now in
    subst (λ asked. Shows asked r s 7) c.in-Some.ensures (inr (inl (refl, keeps_same (g.K.Sink.written c.args.sink.now))))
