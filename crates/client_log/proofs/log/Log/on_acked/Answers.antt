use Rattle.std.proofs.Common.{◌≡◌, ◌++◌, OnOk, sym, ap, subst, ◌∙◌, append-nil}
use Rattle.client_log.specs.LogState.{LogState}
use Rattle.client_log.specs.Looks.{flight_can_follow, log_follow}
use Rattle.client_log.specs.Transition.{Done}
use Rattle.client_log.proofs.Looks.{acked_stays, acked_goes}
use Rattle.client_log.proofs.log.Log.on_acked.Goals as goal

pub returns-in-None-clause-state : goal.returns-in-None-clause-state
returns-in-None-clause-state c =
    ap (λ (d : Done). d.state) (sym (acked_stays c.args.self.now c.args.name c.args.index c.args.generation (sym c.hear.ensures ∙ c.in-None.is)))

pub returns-in-None-clause-outs : goal.returns-in-None-clause-outs
returns-in-None-clause-outs c =
    sym (append-nil c.args.outs.now)
    ∙ ap (λ (d : Done). c.args.outs.now ++ d.outs)
    (sym (acked_stays c.args.self.now c.args.name c.args.index c.args.generation (sym c.hear.ensures ∙ c.in-None.is)))

pub follow-requires : goal.follow-requires
follow-requires c =
    let comes = acked_goes c.args.self.now c.args.name c.args.index c.args.generation c.in-Some.fate (sym c.hear.ensures ∙ c.in-Some.is) in
    ap (λ s. flight_can_follow s c.in-Some.fate) c.note.ensures ∙ comes.can

pub returns-in-Some-clause-state : goal.returns-in-Some-clause-state
returns-in-Some-clause-state c =
    let comes = acked_goes c.args.self.now c.args.name c.args.index c.args.generation c.in-Some.fate (sym c.hear.ensures ∙ c.in-Some.is) in
    subst (λ (s : LogState). OnOk c.follow.result (c.follow.new.self ≡ s))
    (ap (λ s. (log_follow s c.in-Some.fate).state) c.note.ensures ∙ ap (λ (d : Done). d.state) (sym comes.goes)) c.follow.ensures.state

pub returns-in-Some-clause-outs : goal.returns-in-Some-clause-outs
returns-in-Some-clause-outs c =
    let comes = acked_goes c.args.self.now c.args.name c.args.index c.args.generation c.in-Some.fate (sym c.hear.ensures ∙ c.in-Some.is) in
    subst (λ outs. OnOk c.follow.result (c.follow.new.outs ≡ c.args.outs.now ++ outs))
    (ap (λ s. (log_follow s c.in-Some.fate).outs) c.note.ensures ∙ ap (λ (d : Done). d.outs) (sym comes.goes)) c.follow.ensures.outs
