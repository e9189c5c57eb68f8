-- At a tick a log sends each fragment in flight again that isn't noted, and nothing else; and a feed tells each slot the rest.
use Rattle.std.proofs.Common.{◌≡◌, ◌<◌, ◌+◌, ◌&&◌, ℕ, zero, suc, nat_lt, Bool, false, cond, List, [], ◌∷◌, Option, Some, None, slice_get, inl, refl, sym, subst, arith}
use Rattle.std.proofs.lemmas.Bool.{lt-ltb}
use Rattle.std.specs.List.{AllByRecursion}
use Rattle.client_log.specs.declared.output.Out.{Out}
use Rattle.client_log.specs.declared.output.Out.TheVariants.{Send, Settled}
use Rattle.client_log.specs.LogState.{LogState}
use Rattle.client_log.specs.Transition.{on_tick, send_at, sending_send, sends}
use Rattle.delta_feed.specs.declared.output.Out.TheVariants.{Range}
use Rattle.delta_feed.specs.FeedState.{FeedState, acked_of}
use Rattle.delta_feed.specs.Transition.{feed_push, feed_tick, rows_after}
use Rattle.group_map.specs.declared.group.Member.{Member}
use Rattle.log_flight.specs.Flights.{FlightState, is_noted}
use Rattle.log_flight.specs.Fragments.{flight_fragment}
use Rattle.log_owner.specs.declared.promised.Managers.{Managers}
use Rattle.log_owner.specs.Promised.{manager_of}
use Rattle.log_owner.specs.Sending.{push_all, range}
use Rattle.node_base.specs.declared.effects.Effect.TheVariants as effect
use Rattle.token_protocol.specs.Basics.{In}
use Rattle.wire_msg.specs.declared.body.Body.TheVariants as body
use Rattle.xfs_base.proofs.Alls.{all_append}
use Rattle.xfs_base.proofs.Booleans.{by_test}
use Rattle.xfs_base.specs.Limits.{all_slots, slot_count}
use Rattle.headline.specs.Servers.{piece}
use Rattle.run_answers.proofs.repeat_law.Among.{in_flat_map, in_map, in_slots}
use Rattle.run_answers.proofs.wait_law.Again.{in_behind, in_front}
use Rattle.delta_feed.specs.declared.output.Out.{Out as Told}

-- ---- fragments

abbrev pub IsSend : Out → Type 0
IsSend (Send fragment member) = Unit {0}
IsSend (Settled end rows) = ⊥

module _ (f : FlightState) where
  one_sends : (m : Member) (place : ℕ) → AllByRecursion IsSend (send_at f m place)
  one_sends m place =
      by_test (AllByRecursion IsSend) (is_noted f.noted place) [] (Send (flight_fragment f.segment f.group place) m ∷ []) (λ _. tt) (λ _. (tt, tt))

  all_send : (ms : List Member) (from : ℕ) → AllByRecursion IsSend (sends f ms from)
  all_send [] from = tt
  all_send (m ∷ ms) from = all_append IsSend (send_at f m from) (sends f ms (from + 1)) (one_sends m from) (all_send ms (from + 1))

  module _ (member : Member) where
    abbrev pub fragment_to : ℕ → Out
    fragment_to place = Send (piece f.segment f.group place) member

    sends_it : (place : ℕ) → is_noted f.noted place ≡ false → In (fragment_to place) (send_at f member place)
    unfolding flight_fragment
    sends_it place noted =
        subst (λ (t : Bool). In (fragment_to place) (cond t [] (Send (flight_fragment f.segment f.group place) member ∷ []))) (sym noted) (inl refl)

    among_sends : (ms : List Member) (from place : ℕ) → slice_get ms place ≡ Some member → is_noted f.noted (from + place) ≡ false
        → In (fragment_to (from + place)) (sends f ms from)
    among_sends [] from place at noted = absurd (nothing place at)
      where
        nothing : (place : ℕ) → slice_get [] place ≡ Some member → ⊥
        nothing zero at = cc
        nothing (suc place) at = cc
    among_sends (m ∷ ms) from zero at noted = (let same : m ≡ member = one at in
        in_front (fragment_to (from + 0)) (send_at f m from) (sends f ms (from + 1))
        (subst (λ (k : ℕ). In (fragment_to k) (send_at f m from)) (nothing_more from)
        (subst (λ (y : Member). In (fragment_to from) (send_at f y from)) (sym same) (sends_it from (subst (λ (k : ℕ). is_noted f.noted k ≡ false) (sym (nothing_more from)) noted)))))
      where
        one : Some m ≡ Some member → m ≡ member
        one fact = cc

        nothing_more : (n : ℕ) → n ≡ n + 0
        nothing_more n = omega arith
    among_sends (m ∷ ms) from (suc place) at noted =
        in_behind (fragment_to (from + suc place)) (send_at f m from) (sends f ms (from + 1))
        (subst (λ (k : ℕ). In (fragment_to k) (sends f ms (from + 1))) (sym (further from place))
        (among_sends ms (from + 1) place at (subst (λ (k : ℕ). is_noted f.noted k ≡ false) (further from place) noted)))
      where
        further : (n k : ℕ) → n + suc k ≡ (n + 1) + k
        further n k = omega arith

-- ---- a log at a tick

module _ (s : LogState) where
  -- it says nothing but that fragments are stored
  pub tick_sends : AllByRecursion IsSend (on_tick s).outs
  unfolding on_tick sending_send
  tick_sends = by s.flight
    where
      by : (flight : Option FlightState) → AllByRecursion IsSend (on_tick (record s { flight = flight })).outs
      by None = tt
      by (Some f) = all_send f f.group.members 0

  -- and stays as it is
  pub tick_stays : (on_tick s).state ≡ s
  unfolding on_tick
  tick_stays = by s.flight
    where
      by : (flight : Option FlightState) → (on_tick (record s { flight = flight })).state ≡ record s { flight = flight }
      by None = refl
      by (Some f) = refl

  pub tick_stores : (f : FlightState) → s.flight ≡ Some f → (place : ℕ) (member : Member) → slice_get f.group.members place ≡ Some member
      → is_noted f.noted place ≡ false → In (fragment_to f member place) (on_tick s).outs
  unfolding on_tick sending_send
  tick_stores f flies place member at noted =
      subst (λ (o : Option FlightState). In (fragment_to f member place) (on_tick (record s { flight = o })).outs) (sym flies)
      (subst (λ (k : ℕ). In (fragment_to f member k) (sends f f.group.members 0)) (sym (from_none place))
      (among_sends f member f.group.members 0 place at (subst (λ (k : ℕ). is_noted f.noted k ≡ false) (from_none place) noted)))
    where
      from_none : (n : ℕ) → n ≡ 0 + n
      from_none n = omega arith

-- ---- the deltas of a log

-- the manager of a slot is told what it hasn't acknowledged
pub tells_rest : (managers : Managers) (feed : FeedState) (slot : ℕ) → slot < slot_count → acked_of feed slot < feed.end
    → In (effect.Send (manager_of managers slot)
    (body.Deltas (record { slot = slot; first = acked_of feed slot + 1; upto = feed.end; rows = rows_after slot (acked_of feed slot) feed.filed })))
    (push_all managers feed)
unfolding feed_push
tells_rest managers feed slot below behind =
    in_map (range managers) rest (feed_tick feed)
    (in_flat_map (feed_push feed) rest slot all_slots (in_slots slot below)
    (subst (λ (t : Bool). In rest (cond (t && nat_lt (acked_of feed slot) feed.end) (rest ∷ []) [])) (sym (lt-ltb slot slot_count below))
    (subst (λ (t : Bool). In rest (cond t (rest ∷ []) [])) (sym (lt-ltb (acked_of feed slot) feed.end behind)) (inl refl))))
  where
    rest : Told
    rest = Range slot (acked_of feed slot + 1) feed.end (rows_after slot (acked_of feed slot) feed.filed)
