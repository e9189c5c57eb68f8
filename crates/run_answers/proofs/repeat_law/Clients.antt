-- At a tick a client that serves sends the fragments in flight again that aren't noted, and tells each slot the rest of its log.
use Rattle.std.proofs.Common.{◌≡◌, ℕ, Bool, true, false, cond, List, [], ◌∷◌, ◌++◌, Some, slice_get, inl, refl, sym, ap, subst, ◌∙◌}
use Rattle.std.specs.List.{AllByRecursion, list_any}
use Rattle.client_log.specs.declared.input.In.TheVariants as log_in
use Rattle.client_log.specs.declared.output.Out.TheVariants.{Send, Settled}
use Rattle.client_log.specs.LogState.{LogState}
use Rattle.client_log.specs.Transition as log
use Rattle.client_node.specs.declared.client.Client.{Client}
use Rattle.client_node.specs.declared.phase.Phase.{Phase}
use Rattle.client_node.specs.Phases.{client_has_room, client_step, client_tick, lasting_of}
use Rattle.client_call.specs.Reads.{fetch_again, reading_in}
use Rattle.client_running.specs.Running.{run}
use Rattle.client_serving.specs.declared.serving.Serving.{Serving}
use Rattle.client_serving.specs.Flights.{seals_again, serving_write, write_one}
use Rattle.client_serving.specs.Follow.{follow_one, hand, serving_follow}
use Rattle.client_serving.specs.Packets.{on_tick}
use Rattle.client_serving.specs.Reads.{ends_reading}
use Rattle.client_serving.specs.Sends.{Done}
use Rattle.delta_feed.specs.FeedState.{FeedState}
use Rattle.group_map.specs.declared.group.Member.{Member}
use Rattle.log_flight.specs.Flights.{FlightState, is_noted}
use Rattle.log_owner.specs.declared.promised.Managers.{Managers}
use Rattle.log_owner.specs.Sealing.{is_settling}
use Rattle.log_owner.specs.Sending.{push_all, store}
use Rattle.node_base.specs.declared.effects.Effect.{Effect}
use Rattle.node_base.specs.declared.effects.Effect.TheVariants as effect
use Rattle.node_base.specs.Effects.{packets_of}
use Rattle.token_client.specs.declared.input.In.TheVariants as inputs
use Rattle.token_client.specs.declared.output.Out.{Out}
use Rattle.token_client.specs.declared.output.Out.TheVariants.{Want}
use Rattle.token_client.specs.Transition as tokens
use Rattle.token_protocol.specs.Basics.{In}
use Rattle.wire_msg.specs.declared.body.Body.{Body}
use Rattle.wire_msg.specs.declared.packet.Do.TheVariants.{Tick}
use Rattle.xfs_base.specs.declared.node.NodeId.{NodeId}
use Rattle.xfs_base.specs.declared.node.NodeId.TheVariants as nodes
use Rattle.xfs_base.specs.Steps.{steps, still}
use Rattle.headline.specs.Repeats.{ClientRepeats}
use Rattle.headline.specs.Servers.{piece}
use Rattle.run_answers.proofs.repeat_law.Among.{steps_say}
use Rattle.run_answers.proofs.repeat_law.Logs.{IsSend, fragment_to, tells_rest, tick_sends, tick_stays, tick_stores}
use Rattle.run_answers.proofs.wait_law.Again.{Wants, in_behind, in_front, sent, tick_wants}
use Rattle.client_log.specs.declared.output.Out.{Out as LogOut}
use Rattle.client_node.specs.declared.phase.Phase.TheVariants.{Serving as Serves}

-- ---- its tokens ask, and nothing else changes

follows_stays : (s : Serving) (outs : List Out) → Wants outs → (steps follow_one s outs).state ≡ s
unfolding follow_one
follows_stays s [] all = refl
follows_stays s (Want block req again mode ∷ outs) all = follows_stays s outs all.1
follows_stays s (_ ∷ outs) all = absurd all.0

-- what of a client its log and its feed are told by
record Same (s t : Serving) : Type 0 where
  pub log : t.log ≡ s.log
  pub managers : t.managers ≡ s.managers
  pub feed : t.feed ≡ s.feed

hands_stay : (s : Serving) → Same s (hand s inputs.Tick).state
unfolding hand serving_follow
hands_stay s =
    let t : Serving = ends_reading (record s { tokens = (tokens.on_tick s.tokens).state }) in
    let stays = follows_stays t (tokens.on_tick s.tokens).outs (tick_wants s.tokens) in
    record {
      log = ap (λ (u : Serving). u.log) stays;
      managers = ap (λ (u : Serving). u.managers) stays;
      feed = ap (λ (u : Serving). u.feed) stays;
    }

-- ---- its log

write_stays : (s : Serving) (outs : List LogOut) → AllByRecursion IsSend outs → (steps write_one s outs).state ≡ s
unfolding write_one
write_stays s [] all = refl
write_stays s (Send fragment member ∷ outs) all = write_stays s outs all.1
write_stays s (Settled end rows ∷ outs) all = absurd all.0

none_settles : (outs : List LogOut) → AllByRecursion IsSend outs → list_any is_settling outs ≡ false
none_settles [] all = refl
none_settles (Send fragment member ∷ outs) all = none_settles outs all.1
none_settles (Settled end rows ∷ outs) all = absurd all.0

writes_stay : (s : Serving) → Same s (serving_write s log_in.Tick).state
unfolding serving_write
writes_stay s =
    subst (λ (t : Bool). Same s (seals_again wrote t).state) (sym (none_settles (log.on_tick s.log).outs (tick_sends s.log)))
    (record {
      log = ap (λ (u : Serving). u.log) stays ∙ tick_stays s.log;
      managers = ap (λ (u : Serving). u.managers) stays;
      feed = ap (λ (u : Serving). u.feed) stays;
    })
  where
    after : Serving
    after = record s { log = (log.on_tick s.log).state }

    wrote : Serving
    wrote = (steps write_one after (log.on_tick s.log).outs).state

    stays : wrote ≡ after
    stays = write_stays after (log.on_tick s.log).outs (tick_sends s.log)

writes_store : (s : Serving) (f : FlightState) → s.log.flight ≡ Some f → (place : ℕ) (member : Member) → slice_get f.group.members place ≡ Some member
    → is_noted f.noted place ≡ false → In (store (piece f.segment f.group place) member) (serving_write s log_in.Tick).outs
unfolding serving_write write_one
writes_store s f flies place member at noted =
    in_front (store (piece f.segment f.group place) member)
    (steps write_one (record s { log = (log.on_tick s.log).state }) (log.on_tick s.log).outs).outs _
    (steps_say write_one (store (piece f.segment f.group place) member) (fragment_to f member place) (λ t. inl refl)
    (record s { log = (log.on_tick s.log).state }) (log.on_tick s.log).outs (tick_stores s.log f flies place member at noted))

-- ---- the tick

module _ (s : Serving) where
  abbrev asks : Done
  asks = hand s inputs.Tick

  abbrev writes : Done
  writes = serving_write asks.state log_in.Tick

  abbrev reads : List Effect
  reads = fetch_again (reading_in asks.state.call)

  abbrev pushes : List Effect
  pushes = push_all writes.state.managers writes.state.feed

  from_log : (x : Effect) → In x writes.outs → In x (on_tick s).outs
  unfolding on_tick
  from_log x among =
      in_behind x asks.outs (reads ++ (writes.outs ++ pushes)) (in_behind x reads (writes.outs ++ pushes) (in_front x writes.outs pushes among))

  from_feed : (x : Effect) → In x pushes → In x (on_tick s).outs
  unfolding on_tick
  from_feed x among =
      in_behind x asks.outs (reads ++ (writes.outs ++ pushes)) (in_behind x reads (writes.outs ++ pushes) (in_behind x writes.outs pushes among))

  ticks : (capacity : ℕ) (x : Effect) → In x (on_tick s).outs → In x (client_tick capacity (Serves s)).outs
  unfolding client_tick
  ticks capacity x among = in_front x (on_tick s).outs (run (on_tick s).state).outs among

  managers_stay : writes.state.managers ≡ s.managers
  managers_stay = (writes_stay asks.state).managers ∙ (hands_stay s).managers

  feed_stays : writes.state.feed ≡ s.feed
  feed_stays = (writes_stay asks.state).feed ∙ (hands_stay s).feed

  in_feed : (x : Effect) → In x (push_all s.managers s.feed) → In x (on_tick s).outs
  in_feed x among =
      from_feed x
      (subst (λ (outs : List Effect). In x outs)
      (sym (ap (λ (m : Managers). push_all m writes.state.feed) managers_stay ∙ ap (λ (f : FeedState). push_all s.managers f) feed_stays)) among)

  in_log : (f : FlightState) → s.log.flight ≡ Some f → (place : ℕ) (member : Member) → slice_get f.group.members place ≡ Some member
      → is_noted f.noted place ≡ false → In (store (piece f.segment f.group place) member) (on_tick s).outs
  in_log f flies place member at noted =
      from_log (store (piece f.segment f.group place) member)
      (writes_store asks.state f (ap (λ (l : LogState). l.flight) (hands_stay s).log ∙ flies) place member at noted)

pub client_repeats : (c : Client) (s : Serving) → c.phase ≡ Serves s → client_has_room c ≡ true
    → ClientRepeats (nodes.Client (lasting_of c.phase).number) (client_step c Tick).packets s
client_repeats c s serves room = record {
  stores = λ f flies place member at noted. said _ _ (in_log s f flies place member at noted);
  tells = λ slot below behind. said _ _ (in_feed s _ (tells_rest s.managers s.feed slot below behind));
}
  where
    said : (to : NodeId) (b : Body) → In (effect.Send to b) (on_tick s).outs
        → In (record { from = nodes.Client (lasting_of c.phase).number; to = to; clock = 0; body = b }) (client_step c Tick).packets
    said to b among =
        subst
        (λ (p : Phase). In (record { from = nodes.Client (lasting_of p).number; to = to; clock = 0; body = b })
        (packets_of (nodes.Client (lasting_of p).number) (cond (client_has_room c) (client_tick c.cache p) (still p)).outs)) (sym serves)
        (subst
        (λ (t : Bool). In (record { from = nodes.Client s.lasting.number; to = to; clock = 0; body = b })
        (packets_of (nodes.Client s.lasting.number) (cond t (client_tick c.cache (Serves s)) (still (Serves s))).outs)) (sym room)
        (sent (nodes.Client s.lasting.number) to b (client_tick c.cache (Serves s)).outs (ticks s c.cache (effect.Send to b) among)))
