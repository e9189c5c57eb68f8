use Rattle.std.proofs.Common.{◌≡◌, ◌∙◌, ◌+◌, ◌++◌, ◌∷◌, [], ℕ, sym, ap, subst, length, arith}
use Rattle.std.specs.Prelude.{List as Seq}
use Rattle.rtrb.specs.Ring.{SameConsumer, received}
use Rattle.mounts.proofs.Handing.{items_more}
use Rattle.mounts.proofs.Joined.{mount_still, same_consumer}
use Rattle.mounts.proofs.application.Application.call.Goals as goal

pub call-requires : goal.call-requires
call-requires g c =
    let s = c.args.self in
    let made = ap (λ (xs : Seq ℕ). length xs) s.calls_are in
    let slots = s.slots_are in
    let more = c.has_more.ensures.0 c.if-not-has_more.false in
    omega arith

pub invariant_of-caller : goal.invariant_of-caller
invariant_of-caller g c =
    let s = c.args.self in
    let new = c.call.new.self in
    let same : new.replies ≡ s.mount.replies = c.call.ensures.replies in
    let item = c.in_ok-item.item in
    let more : c.push.new.self ≡ s.calls ++ item ∷ [] = c.in_ok-push.ensures.ok in
    record {
      named =
          mount_still g.R.MountName.ports s.place s.mount new c.call.ensures.ring (subst (λ d. SameConsumer s.mount.replies d) (sym same) (same_consumer s.mount.replies)) s.named;
      dues_are = s.dues_are;
      slots_are = c.call.ensures.ring.1 ∙ s.slots_are;
      calls_are = more ∙ ap (λ (xs : Seq ℕ). xs ++ item ∷ []) s.calls_are ∙ sym c.call.ensures.sent;
      items_are = items_more s.calls c.push.new.self item more (c.in_ok-item.ensures ∙ ap (λ (n : ℕ). n + 1) c.len.ensures) s.items_are;
      replies_are = s.replies_are ∙ ap received (sym same);
    }
