use Rattle.std.proofs.Common.{◌≡◌, ◌∙◌, ◌+◌, ◌≤◌, ℕ, cond, nat_lt, sym, ap, subst, length, take}
use Rattle.std.specs.Prelude.{List as Seq}
use Rattle.rtrb.specs.Ring.{SameConsumer, received}
use Rattle.version_model.specs.declared.act.Act.{Act}
use Rattle.journals.specs.Journals.{begins, whats}
use Rattle.live_links.specs.Answered.{answered_at}
use Rattle.mounts.specs.Ports.{IsPortAt, SamePort, items_to}
use Rattle.mounts.specs.Replies.{replies_of}
use Rattle.mounts.proofs.Handing.{begun_within, take_before, within_more}
use Rattle.mounts.proofs.Joined.{port_still, same_consumer}
use Rattle.mounts.proofs.mounted_cell.MountedCell.go_on.Goals as goal

pub give_rest-requires-clause-within : goal.give_rest-requires-clause-within
give_rest-requires-clause-within g c =
    let step = g.N.Actor.transition in
    let first = g.N.Member.first in
    let script = g.R.RunName.script in
    let old = c.args.self.cell.journal in
    let new = c.in_ok-cell.cell.journal in
    let more = c.in_ok-cell.ensures.answered in
    let is : c.answered.result.now ≡ answered_at step first script old.place new.moments = c.answered.ensures ∙ ap (λ (p : ℕ). answered_at step first script p new.moments) c.in_ok-cell.ensures.place in
    within_more (answered_at step first script old.place old.moments) c.answered.result.now more.0 (length c.answered-given.result.now) (is ∙ more.1) (ap (λ (xs : Seq Act). length xs) c.answered-given.ensures)

pub give_rest-requires-clause-before : goal.give_rest-requires-clause-before
give_rest-requires-clause-before g c =
    let step = g.N.Actor.transition in
    let first = g.N.Member.first in
    let script = g.R.RunName.script in
    let old = c.args.self.cell.journal in
    let new = c.in_ok-cell.cell.journal in
    let more = c.in_ok-cell.ensures.answered in
    let is : c.answered.result.now ≡ answered_at step first script old.place new.moments = c.answered.ensures ∙ ap (λ (p : ℕ). answered_at step first script p new.moments) c.in_ok-cell.ensures.place in
    let front : take (length c.answered-given.result.now) c.answered.result.now ≡ answered_at step first script old.place old.moments =
    take_before (answered_at step first script old.place old.moments) c.answered.result.now more.0 (length c.answered-given.result.now) (is ∙ more.1) (ap (λ (xs : Seq Act). length xs) c.answered-given.ensures)
    in
    c.args.self.given_are ∙ sym (ap replies_of front)

pub invariant_of-mounted : goal.invariant_of-mounted
invariant_of-mounted g c =
    let s = c.args.self in
    let old = s.cell.journal in
    let new = c.in_ok-cell.cell.journal in
    let port = c.give_rest.new.port in
    let same : port.calls ≡ s.port.calls = c.give_rest.ensures.calls in
    let still : SamePort s.port port = (subst (λ d. SameConsumer s.port.calls d) (sym same) (same_consumer s.port.calls), c.give_rest.ensures.ring) in
    let heard = ap (λ d. received d) same in
    let most : begins (whats new.moments) ≤ begins (whats old.moments) + cond (nat_lt (begins (whats old.moments)) s.called) 1 0 =
    subst (λ (n : ℕ). begins (whats new.moments) ≤ begins (whats old.moments) + cond (nat_lt n s.called) 1 0) c.begun-begun.ensures c.in_ok-cell.ensures.begun
    in
    record {
      named =
          subst (λ (p : ℕ). ∥ IsPortAt g.R.MountName.ports p port ∥₁) (sym c.in_ok-cell.ensures.place) (port_still g.R.MountName.ports old.place s.port port still s.named);
      called_are = s.called_are ∙ ap (λ (xs : Seq ℕ). length xs) (sym heard);
      calls_are = subst (λ (xs : Seq ℕ). xs ≡ items_to (length xs)) (sym heard) s.calls_are;
      begun_are =
          subst (λ (xs : Seq ℕ). begins (whats new.moments) ≤ length xs) (sym heard)
          (subst (λ (n : ℕ). begins (whats new.moments) ≤ n) s.called_are
          (begun_within (begins (whats old.moments)) s.called (begins (whats new.moments)) (subst (λ (n : ℕ). begins (whats old.moments) ≤ n) (sym s.called_are) s.begun_are) most));
      given_are = c.in_ok-give_rest.ensures.given ∙ ap replies_of c.answered.ensures;
    }
