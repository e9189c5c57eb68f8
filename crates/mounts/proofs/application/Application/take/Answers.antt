use Rattle.std.proofs.Common.{◌≡◌, ◌∙◌, sym, ap, subst}
use Rattle.rtrb.specs.Ring.{SameProducer, producer_capacity, sent}
use Rattle.mounts.proofs.Joined.{mount_still, same_producer}
use Rattle.mounts.proofs.application.Application.take.Goals as goal

pub invariant_of-application : goal.invariant_of-application
invariant_of-application g c =
    let s = c.args.self in
    let new = c.take_one.new.mount in
    let same : new.calls ≡ s.mount.calls = c.take_one.ensures.calls in
    record {
      named =
          mount_still g.R.MountName.ports s.place s.mount new (subst (λ o. SameProducer s.mount.calls o) (sym same) (same_producer s.mount.calls)) c.take_one.ensures.ring s.named;
      dues_are = s.dues_are;
      slots_are = ap producer_capacity same ∙ s.slots_are;
      calls_are = s.calls_are ∙ ap sent (sym same);
      items_are = s.items_are;
      replies_are = c.in_ok-taken.ensures.taken;
    }
