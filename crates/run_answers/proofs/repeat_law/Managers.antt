-- At a tick a manager that serves says again all that isn't answered, and one that awaits the maps asks for them.
use Rattle.std.proofs.Common.{◌≡◌, ◌<◌, ℕ, Bool, true, false, cond, List, [], ◌∷◌, Option, Some, None, slice_get, inl, refl, sym, ap, subst, ◌∙◌}
use Rattle.std.specs.List.{AllByRecursion}
use Rattle.client_log.specs.declared.input.In.TheVariants as log_in
use Rattle.client_log.specs.declared.output.Out.TheVariants as log_out
use Rattle.client_log.specs.LogState.{LogState}
use Rattle.client_log.specs.Transition as log
use Rattle.group_map.specs.declared.group.Member.{Member}
use Rattle.log_flight.specs.Flights.{FlightState, is_noted}
use Rattle.log_owner.specs.Sending.{store}
use Rattle.manager_node.specs.declared.manager.Manager.{Manager}
use Rattle.manager_node.specs.declared.phase.Phase.{Phase}
use Rattle.manager_node.specs.declared.phase.Phase.TheVariants.{Down, Serving as Serves, Waiting}
use Rattle.manager_node.specs.Events.{happens, manager_step, on_time}
use Rattle.manager_node.specs.Phases.{lasting_of, phase_has_room}
use Rattle.manager_serving.specs.Checkpoints.{Done, checkpointing_tell_again, log_says, log_says_each, send_done, serving_tell_again, serving_write}
use Rattle.manager_serving.specs.declared.checkpointing.Checkpointing.{Checkpointing}
use Rattle.manager_serving.specs.declared.serving.Serving.{Serving}
use Rattle.manager_serving.specs.Serving.{and_then, asker_of, on_tick, recalls_again, serving_ask_again}
use Rattle.manager_slots.specs.declared.slot_phase.SlotPhase.TheVariants as phase
use Rattle.manager_slots.specs.declared.slot_phase.Taking.{Taking}
use Rattle.manager_slots.specs.SlotTable.{recall_again}
use Rattle.node_base.specs.declared.effects.Effect.{Effect}
use Rattle.node_base.specs.declared.effects.Effect.TheVariants as effect
use Rattle.node_base.specs.Effects.{packets_of}
use Rattle.takeover.specs.Transition.{awaited}
use Rattle.token_protocol.specs.Basics.{In}
use Rattle.wire_msg.specs.declared.body.Body.{Body}
use Rattle.wire_msg.specs.declared.body.Body.TheVariants as body
use Rattle.wire_msg.specs.declared.packet.Do.TheVariants.{Tick}
use Rattle.wire_msg.specs.declared.registry.CkptDone.{CkptDone}
use Rattle.xfs_base.specs.declared.node.NodeId.{NodeId}
use Rattle.xfs_base.specs.declared.node.NodeId.TheVariants as nodes
use Rattle.xfs_base.specs.Limits.{slot_count}
use Rattle.xfs_base.specs.Steps.{steps, still}
use Rattle.headline.specs.Checkpoints.{done_of}
use Rattle.headline.specs.Repeats.{PhaseRepeats}
use Rattle.headline.specs.Servers.{piece}
use Rattle.run_answers.proofs.repeat_law.Among.{steps_say}
use Rattle.run_answers.proofs.repeat_law.Logs.{IsSend, fragment_to, tick_sends, tick_stores}
use Rattle.run_answers.proofs.repeat_law.Slots.{poll_of, recalls_stand, table_polls, table_recalls}
use Rattle.run_answers.proofs.wait_law.Again.{in_behind, in_front, sent}
use Rattle.client_log.specs.declared.output.Out.{Out as LogOut}
use Rattle.manager_slots.specs.declared.lasting.Lasting.{Lasting as Kept}

-- ---- its log

says_stay : (s : Serving) (outs : List LogOut) → AllByRecursion IsSend outs → (steps log_says s outs).state ≡ s
unfolding log_says
says_stay s [] all = refl
says_stay s (log_out.Send fragment member ∷ outs) all = says_stay s outs all.1
says_stay s (log_out.Settled end rows ∷ outs) all = absurd all.0

writes_stay : (s : Serving) → (serving_write s log_in.Tick).state.checkpoint ≡ s.checkpoint
unfolding serving_write log_says_each
writes_stay s = ap (λ (t : Serving). t.checkpoint) (says_stay (record s { log = (log.on_tick s.log).state }) (log.on_tick s.log).outs (tick_sends s.log))

writes_store : (s : Serving) (f : FlightState) → s.log.flight ≡ Some f → (place : ℕ) (member : Member) → slice_get f.group.members place ≡ Some member
    → is_noted f.noted place ≡ false → In (store (piece f.segment f.group place) member) (serving_write s log_in.Tick).outs
unfolding serving_write log_says_each log_says
writes_store s f flies place member at noted =
    steps_say log_says (store (piece f.segment f.group place) member) (fragment_to f member place) (λ t. inl refl)
    (record s { log = (log.on_tick s.log).state }) (log.on_tick s.log).outs (tick_stores s.log f flies place member at noted)

-- ---- the tick, part by part

module _ (s : Serving) where
  abbrev recalls : Done
  recalls = recalls_again s

  abbrev polls : Done
  polls = and_then recalls (λ t. serving_ask_again t true)

  abbrev reads : Done
  reads = and_then polls (λ t. serving_ask_again t false)

  abbrev writes : Done
  writes = and_then reads (λ t. serving_write t log_in.Tick)

  -- what is said in each part is said
  from_writes : (x : Effect) → In x writes.outs → In x (on_tick s).outs
  unfolding on_tick
  from_writes x among = in_front x writes.outs (serving_tell_again writes.state).outs among

  from_polls : (x : Effect) → In x polls.outs → In x (on_tick s).outs
  from_polls x among =
      from_writes x
      (in_front x reads.outs (serving_write reads.state log_in.Tick).outs (in_front x polls.outs (serving_ask_again polls.state false).outs among))

  from_recalls : (x : Effect) → In x recalls.outs → In x (on_tick s).outs
  from_recalls x among = from_polls x (in_front x recalls.outs (serving_ask_again recalls.state true).outs among)

  reads_stay : (reads.state.log ≡ s.log) × (reads.state.checkpoint ≡ s.checkpoint)
  unfolding recalls_again serving_ask_again
  reads_stay = (refl, refl)

  in_log : (f : FlightState) → s.log.flight ≡ Some f → (place : ℕ) (member : Member) → slice_get f.group.members place ≡ Some member
      → is_noted f.noted place ≡ false → In (store (piece f.segment f.group place) member) (on_tick s).outs
  in_log f flies place member at noted =
      from_writes (store (piece f.segment f.group place) member)
      (in_behind (store (piece f.segment f.group place) member) reads.outs (serving_write reads.state log_in.Tick).outs
      (writes_store reads.state f (ap (λ (l : LogState). l.flight) reads_stay.0 ∙ flies) place member at noted))

  recalled : (x : Effect) → In x (recall_again s.slots).outs → In x recalls.outs
  unfolding recalls_again
  recalled x among = among

  polled : (slot : ℕ) (taking : Taking) → slot < slot_count → slice_get s.slots slot ≡ Some (phase.Taking taking) → (node : NodeId) → In node (awaited taking.take)
      → In (poll_of slot node taking.epoch) polls.outs
  unfolding recalls_again serving_ask_again
  polled slot taking below at node lacks =
      in_behind (poll_of slot node taking.epoch) recalls.outs (serving_ask_again recalls.state true).outs
      (table_polls (asker_of recalls.state) slot taking below (recalls_stand slot (phase.Taking taking) s.slots at) node lacks)

  registered : (done : CkptDone) → done_of s.checkpoint ≡ Some done → In (effect.Send nodes.Registry (body.CkptDone done)) (on_tick s).outs
  unfolding on_tick serving_tell_again
  registered done is =
      in_behind (effect.Send nodes.Registry (body.CkptDone done)) writes.outs (checkpointing_tell_again writes.state.checkpoint)
      (subst (λ (o : Option Checkpointing). In (effect.Send nodes.Registry (body.CkptDone done)) (checkpointing_tell_again o))
      (sym (writes_stay reads.state ∙ reads_stay.1)) (by s.checkpoint is))
    where
      by_done : (o : Option CkptDone) → o ≡ Some done → In (effect.Send nodes.Registry (body.CkptDone done)) (send_done o)
      by_done o same =
          subst (λ (d : Option CkptDone). In (effect.Send nodes.Registry (body.CkptDone done)) (send_done d)) (sym same) (inl refl)

      by : (o : Option Checkpointing) → done_of o ≡ Some done → In (effect.Send nodes.Registry (body.CkptDone done)) (checkpointing_tell_again o)
      by None same = absurd cc
      by (Some job) same = by_done job.done same

-- ---- all phases

module _ (m : Manager) (room : phase_has_room m.phase ≡ true) where
  abbrev me : NodeId
  me = nodes.Manager (lasting_of m.phase).number

  -- what is said of its phase is sent
  said_so : (p : Phase) → m.phase ≡ p → (to : NodeId) (b : Body) → In (effect.Send to b) (on_time p).outs
      → In (record { from = me; to = to; clock = 0; body = b }) (manager_step m Tick).packets
  unfolding happens
  said_so p is to b among =
      subst (λ (t : Bool). In (record { from = me; to = to; clock = 0; body = b }) (packets_of me (cond t (on_time m.phase) (still m.phase)).outs)) (sym room)
      (sent me to b (on_time m.phase).outs (subst (λ (q : Phase). In (effect.Send to b) (on_time q).outs) (sym is) among))

  serves_so : (s : Serving) → m.phase ≡ Serves s → (to : NodeId) (b : Body) → In (effect.Send to b) (on_tick s).outs
      → In (record { from = me; to = to; clock = 0; body = b }) (manager_step m Tick).packets
  unfolding on_time
  serves_so s is to b among = said_so (Serves s) is to b among

  waits_so : (kept : Kept) (hello : ℕ) → m.phase ≡ Waiting kept hello
      → In (record { from = me; to = nodes.Registry; clock = 0; body = body.Hello (record { inc = kept.inc; ask = hello }) }) (manager_step m Tick).packets
  unfolding on_time
  waits_so kept hello is = said_so (Waiting kept hello) is nodes.Registry (body.Hello (record { inc = kept.inc; ask = hello })) (inl refl)

  repeats_as : (p : Phase) → m.phase ≡ p → PhaseRepeats me (manager_step m Tick).packets p
  repeats_as (Down kept) is = tt
  repeats_as (Waiting kept hello) is = waits_so kept hello is
  repeats_as (Serves s) is = record {
    stores = λ f flies place member at noted. serves_so s is _ _ (in_log s f flies place member at noted);
    recalls = λ slot active below at block job works a waits unanswered.
        serves_so s is _ _ (from_recalls s _ (recalled s _ (table_recalls s.slots slot active below at block job works a waits unanswered)));
    polls = λ slot taking below at node lacks. serves_so s is _ _ (from_polls s _ (polled s slot taking below at node lacks));
    registers = λ done awaited_. serves_so s is _ _ (registered s done awaited_);
  }

pub manager_repeats : (m : Manager) → phase_has_room m.phase ≡ true
    → PhaseRepeats (nodes.Manager (lasting_of m.phase).number) (manager_step m Tick).packets m.phase
manager_repeats m room = repeats_as m room m.phase refl
