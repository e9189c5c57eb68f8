use Rattle.std.proofs.Common.{◌≡◌, ◌∙◌, ◌+◌, ◌++◌, ◌∷◌, [], ◌≤◌, ℕ, sym, ap, subst, length, length-append, arith}
use Rattle.std.specs.Prelude.{List as Seq}
use Rattle.rtrb.specs.Ring.{SameProducer, received, sent}
use Rattle.journals.specs.Journals.{begins, whats}
use Rattle.mounts.specs.Ports.{SamePort, items_to}
use Rattle.mounts.proofs.Handing.{items_more}
use Rattle.mounts.proofs.Joined.{port_still, same_producer}
use Rattle.mounts.proofs.mounted_cell.MountedCell.hear.Goals as goal

pub invariant_of-silent : goal.invariant_of-silent
invariant_of-silent g c =
    let s = c.args.self in
    let new = c.next.new.self in
    let e : received new.calls ≡ received s.port.calls = c.in-None.ensures.taken.0 in
    let still : SamePort s.port new = (c.next.ensures.ring, subst (λ r. SameProducer s.port.replies r) (sym c.next.ensures.replies) (same_producer s.port.replies)) in
    record {
      named = port_still g.R.MountName.ports s.cell.journal.place s.port new still s.named;
      called_are = s.called_are ∙ ap (λ (xs : Seq ℕ). length xs) (sym e);
      calls_are = subst (λ (xs : Seq ℕ). xs ≡ items_to (length xs)) (sym e) s.calls_are;
      begun_are = subst (λ (xs : Seq ℕ). begins (whats s.cell.journal.moments) ≤ length xs) (sym e) s.begun_are;
      given_are = ap sent c.next.ensures.replies ∙ s.given_are;
    }

pub invariant_of-heard : goal.invariant_of-heard
invariant_of-heard g c =
    let s = c.args.self in
    let new = c.next.new.self in
    let old = received s.port.calls in
    let item = c.in-Some.item in
    let e : received new.calls ≡ old ++ item ∷ [] = c.in-Some.ensures.taken in
    let count : length (received new.calls) ≡ length old + 1 = ap (λ (xs : Seq ℕ). length xs) e ∙ length-append old (item ∷ []) in
    let still : SamePort s.port new = (c.next.ensures.ring, subst (λ r. SameProducer s.port.replies r) (sym c.next.ensures.replies) (same_producer s.port.replies)) in
    let was = s.called_are in
    let begun = s.begun_are in
    let called : c.in_ok-called-in-Some.called ≡ s.called + 1 = c.in_ok-called-in-Some.ensures in
    let number : item ≡ c.in_ok-called-in-Some.called = c.is_number.ensures c.if-not-is_number.false in
    record {
      named = port_still g.R.MountName.ports s.cell.journal.place s.port new still s.named;
      called_are = omega arith;
      calls_are = items_more old (received new.calls) item e (omega arith) s.calls_are;
      begun_are = omega arith;
      given_are = ap sent c.next.ensures.replies ∙ s.given_are;
    }
