use Rattle.std.proofs.Common.{◌++◌, ap, ◌∙◌}
use Rattle.log_owner.specs.declared.ended.Sent.{Sent}
use Rattle.log_owner.specs.declared.opening.Stage.TheVariants.{Scanning}
use Rattle.log_owner.proofs.Starting.{said_first}
use Rattle.log_owner.proofs.opening.Opening.start.Goals as goal
use Rattle.log_scan.specs.declared.input.In.TheVariants.{Tick}
use Rattle.log_scan.specs.Transition.{transition}

pub returns-clause-opening : goal.returns-clause-opening
returns-clause-opening c =
    let sent = said_first c.args.owner c.low.result c.args.questions.now c.new.result c.in_ok-scan.scan c.in_ok-outs.outs c.new.ensures c.in_ok-scan.ensures
    c.in_ok-outs.ensures.outs in
    let asked = ap (λ (s : Sent). s.asked) c.in_ok-sent.ensures.sent ∙ ap (λ r. r.state.asked) sent in
    let scan = c.in_ok-outs.ensures.state ∙ ap (λ s. (transition s Tick).state) c.in_ok-scan.ensures in
    λ i. record {
      known = record { owner = c.args.owner; maps = c.forgotten.ensures i; promised = c.start-2.ensures i };
      stage = Scanning (record { scan = scan i; asked = asked i });
    }

pub returns-clause-questions : goal.returns-clause-questions
returns-clause-questions c =
    ap (λ (s : Sent). s.questions) c.in_ok-sent.ensures.sent
    ∙ ap (λ r. r.state.questions)
    (said_first c.args.owner c.low.result c.args.questions.now c.new.result c.in_ok-scan.scan c.in_ok-outs.outs c.new.ensures c.in_ok-scan.ensures
    c.in_ok-outs.ensures.outs)

pub returns-clause-effects : goal.returns-clause-effects
returns-clause-effects c =
    c.in_ok-sent.ensures.effects
    ∙ ap (λ r. c.args.effects.now ++ r.outs)
    (said_first c.args.owner c.low.result c.args.questions.now c.new.result c.in_ok-scan.scan c.in_ok-outs.outs c.new.ensures c.in_ok-scan.ensures
    c.in_ok-outs.ensures.outs)
