use Rattle.std.proofs.Common.{true, ◌∙◌, sym, ap, subst}
use Rattle.live_links.specs.Facts.{dues_at}
use Rattle.mounts.specs.Turns.{GoesOn}
use Rattle.mounts.proofs.Going.{took_alone, took_and_called}
use Rattle.mounts.proofs.application.Application.go_on.Goals as goal

pub returns-then-not-may_call-clause-goes_on : goal.returns-then-not-may_call-clause-goes_on
returns-then-not-may_call-clause-goes_on g c =
    let s = c.args.self in
    let mid = c.in_ok-listener.listener in
    let dues = dues_at g.R.RunName.script s.place in
    took_alone dues mid.dues (mid.dues_are ∙ ap (dues_at g.R.RunName.script) c.in_ok-listener.ensures.place) c.in_ok-listener.taken s.calls mid.calls s.replies mid.replies
    c.in_ok-listener.ensures.taken c.in_ok-listener.ensures.calls (sym c.may_call.ensures ∙ c.if-not-may_call.true)

pub returns-clause-goes_on : goal.returns-clause-goes_on
returns-clause-goes_on g c =
    let s = c.args.self in
    let mid = c.in_ok-listener.listener in
    let new = c.in_ok-caller.caller in
    let dues = dues_at g.R.RunName.script s.place in
    subst (λ rs. GoesOn dues true s.calls new.calls s.replies rs) (sym c.in_ok-caller.ensures.replies)
    (took_and_called dues mid.dues (mid.dues_are ∙ ap (dues_at g.R.RunName.script) c.in_ok-listener.ensures.place) c.in_ok-listener.taken s.calls mid.calls s.replies mid.replies
    c.in_ok-listener.ensures.taken c.in_ok-listener.ensures.calls new.calls (sym c.may_call.ensures ∙ c.if-not-may_call.false) c.in_ok-caller.ensures.called)
