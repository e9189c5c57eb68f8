-- A packet that was sent by a moment of a run, and not by an earlier one, is sent in an event between the two.
use Rattle.std.proofs.Common.{◌≡◌, ⊎_elim, ℕ, zero, suc, ◌+◌, ◌-◌, ◌<◌, ◌≤◌, Bool, true, false, nat_le, Option, None, Some, map, slice_get, refl, sym, subst, arith}
use Rattle.std.proofs.lemmas.Bool.Decides.{nat_tests}
use Rattle.core_world.specs.AnyNode.{any_step}
use Rattle.core_world.specs.declared.any_node.AnyNode.{AnyNode}
use Rattle.token_protocol.specs.Basics.{In}
use Rattle.wire_msg.specs.declared.packet.Packet.{Packet}
use Rattle.world_base.specs.declared.estate.Estate.{Estate}
use Rattle.world_base.specs.declared.event.Event.{Event}
use Rattle.world_base.specs.declared.world.World.{World}
use Rattle.world_base.specs.Events.{what_of}
use Rattle.world_base.specs.NextWorld.{sent_at}
use Rattle.run_laws.proofs.world_law.Sent.{in_append}
use Rattle.headline.specs.Moments.{moment}
use Rattle.run_laws.proofs.world_logs.Lists.{in_after, in_before}
use Rattle.run_losses.proofs.torn_law.Counts.{TurnAt, became, moment_ended}

-- a number up to the next one is up to this, or is the next
by_last : {A : Type 0} (before count : ℕ) → before ≤ suc count → (before ≤ count → A) → (suc count ≡ before → A) → A
by_last {A = A} before count low earlier last = by (nat_le before count) refl
  where
    by : (t : Bool) → nat_le before count ≡ t → A
    by true fact = earlier (grind (arith, nat_tests, fact))
    by false fact = last (grind (arith, nat_tests, fact, low))

module _ (e : Estate AnyNode) (p : Packet) where
  -- in this event it is sent
  pub record SentIn (before count : ℕ) : Type 0 where
    pub when : ℕ
    pub since : before ≤ when
    pub until : when < count
    pub event : Event
    pub happens : slice_get e.events when ≡ Some event
    pub turn : TurnAt (moment e when) event (moment e (suc when)).nodes (moment e (suc when)).sent (moment e (suc when)).acts
    pub fresh : In p (map (sent_at turn.clock) (any_step turn.node (what_of event)).packets)

  further : (before count : ℕ) → SentIn before count → SentIn before (suc count)
  further before count s = record {
    when = s.when;
    since = s.since;
    until = (let less = s.until in omega arith);
    event = s.event;
    happens = s.happens;
    turn = s.turn;
    fresh = s.fresh;
  }

  -- where it was sent by the next count, and it is known in which event if it was sent by this one
  module _ (before count : ℕ) (known : before ≤ count → In p (moment e count).sent → SentIn before count) where
    earlier : before ≤ count → In p (moment e count).sent → SentIn before (suc count)
    earlier since was = further before count (known since was)

    turned : before ≤ count → In p (moment e (suc count)).sent → (event : Event) → slice_get e.events count ≡ Some event
        → TurnAt (moment e count) event (moment e (suc count)).nodes (moment e (suc count)).sent (moment e (suc count)).acts → SentIn before (suc count)
    turned since sent event fact t =
        ⊎_elim (earlier since) (λ fresh. record {
          when = count;
          since = since;
          until = omega arith;
          event = event;
          happens = fact;
          turn = t;
          fresh = fresh;
        }) (in_append (moment e count).sent _ p (subst (In p) t.sent_are sent))

    next_in : before ≤ count → In p (moment e (suc count)).sent → SentIn before (suc count)
    next_in since sent = by (slice_get e.events count) refl
      where
        by : (o : Option Event) → slice_get e.events count ≡ o → SentIn before (suc count)
        by None fact = earlier since (subst (λ (w : World AnyNode). In p w.sent) (moment_ended e count fact) sent)
        by (Some event) fact =
            ⊎_elim (λ still. earlier since (subst (In p) still.sent_are sent)) (turned since sent event fact) (became e count event fact)

  pub sent_in : (before count : ℕ) → before ≤ count → (In p (moment e before).sent → ⊥) → In p (moment e count).sent → SentIn before count
  sent_in before zero low not_yet sent =
      let same : zero ≡ before = omega arith in
      absurd (not_yet (subst (λ n. In p (moment e n).sent) same sent))
  sent_in before (suc count) low not_yet sent =
      by_last before count low (λ since. next_in before count (λ since was. sent_in before count since not_yet was) since sent)
      (λ same. absurd (not_yet (subst (λ n. In p (moment e n).sent) same sent)))

  -- ---- what was sent stays so

  sent_next : (count : ℕ) → In p (moment e count).sent → In p (moment e (suc count)).sent
  sent_next count sent = by (slice_get e.events count) refl
    where
      by : (o : Option Event) → slice_get e.events count ≡ o → In p (moment e (suc count)).sent
      by None fact = subst (λ (w : World AnyNode). In p w.sent) (sym (moment_ended e count fact)) sent
      by (Some event) fact =
          ⊎_elim (λ still. subst (In p) (sym still.sent_are) sent)
          (λ t. subst (In p) (sym t.sent_are) (in_before (moment e count).sent _ p sent)) (became e count event fact)

  sent_more : (more count : ℕ) → In p (moment e count).sent → In p (moment e (more + count)).sent
  sent_more zero count sent =
      let same : count ≡ zero + count = omega arith in
      subst (λ n. In p (moment e n).sent) same sent
  sent_more (suc more) count sent =
      let same : suc (more + count) ≡ suc more + count = omega arith in
      subst (λ n. In p (moment e n).sent) same (sent_next (more + count) (sent_more more count sent))

  pub sent_later : (count later : ℕ) → count ≤ later → In p (moment e count).sent → In p (moment e later).sent
  sent_later count later low sent =
      let same : (later - count) + count ≡ later = omega arith in
      subst (λ n. In p (moment e n).sent) same (sent_more (later - count) count sent)

  -- what is sent in the event was sent then
  pub sent_then : (before count : ℕ) (s : SentIn before count) → In p (moment e (suc s.when)).sent
  sent_then before count s = subst (In p) (sym s.turn.sent_are) (in_after (moment e s.when).sent _ p s.fresh)
