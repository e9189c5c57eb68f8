-- At a tick a cleaner that serves sends the fragments in flight again that aren't noted, and tells each slot the rest of its log.
use Rattle.std.proofs.Common.{◌≡◌, ℕ, Bool, true, false, cond, List, [], ◌∷◌, Option, Some, None, slice_get, inl, refl, sym, ap, subst, ◌∙◌}
use Rattle.std.specs.List.{AllByRecursion, cons_option}
use Rattle.cleaner_job.specs.declared.job.Job.{Job}
use Rattle.cleaner_node.specs.CleanerEvents.{cleaner_step, on_time, phase_has_room}
use Rattle.cleaner_node.specs.declared.cleaner.Cleaner.{Cleaner}
use Rattle.cleaner_node.specs.declared.cleaner.Phase.{Phase}
use Rattle.cleaner_serving.specs.declared.emptying.Emptying.{Emptying}
use Rattle.cleaner_serving.specs.EmptyingEvents.{emptying_write, on_tick, write_one}
use Rattle.cleaner_serving.specs.Jobs.{Done, ask_check, ask_list, ask_maps, ask_usage, Checked, check_sent, checked_in, emptying_check, emptying_clean, emptying_delete, emptying_hold, emptying_read, emptying_take, holds_in, says, takes_in}
use Rattle.client_log.specs.declared.input.In.TheVariants as log_in
use Rattle.client_log.specs.declared.output.Out.TheVariants.{Send, Settled}
use Rattle.client_log.specs.LogState.{LogState}
use Rattle.client_log.specs.Transition as log
use Rattle.delta_feed.specs.FeedState.{FeedState}
use Rattle.group_map.specs.declared.group.Member.{Member}
use Rattle.log_flight.specs.Flights.{FlightState, is_noted}
use Rattle.log_owner.specs.declared.promised.Promised.{Promised}
use Rattle.log_owner.specs.Sending.{push_all, store}
use Rattle.node_base.specs.declared.effects.Effect.{Effect}
use Rattle.node_base.specs.declared.effects.Effect.TheVariants as effect
use Rattle.node_base.specs.Effects.{packets_of}
use Rattle.stripe_cleaner.specs.Checks.{is_awaited, place_in, questions}
use Rattle.stripe_cleaner.specs.declared.checks.Check.{Check}
use Rattle.stripe_cleaner.specs.declared.input.In.TheVariants as input
use Rattle.stripe_cleaner.specs.declared.output.Out.{Out}
use Rattle.stripe_cleaner.specs.declared.output.Out.TheVariants as out
use Rattle.stripe_cleaner.specs.declared.phase.Phase.TheVariants.{Checking, Counting, Deleting, Greeting, Listing, Over, Reading}
use Rattle.stripe_cleaner.specs.Counting.{awaited_slots}
use Rattle.stripe_cleaner.specs.Transition as cleaning
use Rattle.token_protocol.specs.Basics.{In}
use Rattle.wire_msg.specs.declared.body.Body.{Body}
use Rattle.wire_msg.specs.declared.packet.Do.TheVariants.{Tick}
use Rattle.xfs_base.proofs.Alls.{all_map}
use Rattle.xfs_base.proofs.Booleans.{by_test}
use Rattle.xfs_base.specs.declared.node.NodeId.{NodeId}
use Rattle.xfs_base.specs.declared.node.NodeId.TheVariants as nodes
use Rattle.xfs_base.specs.declared.segment.SegRef.{SegRef}
use Rattle.xfs_base.specs.Steps.{steps, still}
use Rattle.headline.specs.Repeats.{CleanerRepeats}
use Rattle.headline.specs.Servers.{piece}
use Rattle.run_answers.proofs.repeat_law.Among.{steps_say}
use Rattle.run_answers.proofs.repeat_law.Logs.{IsSend, fragment_to, tells_rest, tick_sends, tick_stays, tick_stores}
use Rattle.run_answers.proofs.wait_law.Again.{in_behind, in_front, sent}
use Rattle.cleaner_node.specs.declared.cleaner.Phase.TheVariants.{Serving as Serves}
use Rattle.client_log.specs.declared.output.Out.{Out as LogOut}
use Rattle.stripe_cleaner.specs.declared.phase.Phase.{Phase as JobPhase}

-- what of a cleaner its log is, and is told by
record Same (e f : Emptying) : Type 0 where
  pub log : f.log ≡ e.log
  pub feed : f.feed ≡ e.feed
  pub promised : f.promised ≡ e.promised

alike : (e : Emptying) → Same e e
alike e = record { log = refl; feed = refl; promised = refl }

after : (e f g : Emptying) → Same e f → Same f g → Same e g
after e f g one more = record { log = more.log ∙ one.log; feed = more.feed ∙ one.feed; promised = more.promised ∙ one.promised }

-- ---- its job asks, and moves no block

abbrev MovesNone : Out → Type 0
MovesNone (out.Move blocks) = ⊥
MovesNone _ = Unit {0}

asks_of : (segment : SegRef) (checks : List Check) → AllByRecursion MovesNone (questions segment checks)
asks_of segment [] = tt
asks_of segment (c ∷ checks) =
    by_test (λ (o : Option Out). AllByRecursion MovesNone (cons_option o (questions segment checks))) (is_awaited c.fate)
    (Some (out.Check c.block (place_in segment c.item))) None (λ _. (tt, asks_of segment checks)) (λ _. asks_of segment checks)

asking_moves_none : (p : JobPhase) → AllByRecursion MovesNone (cleaning.phase_asking p)
asking_moves_none Greeting = (tt, tt)
asking_moves_none (Listing l) = all_map MovesNone (λ (server : ℕ). out.List server) (λ server. tt) l.awaited
asking_moves_none (Counting c) = all_map MovesNone (λ (slot : ℕ). out.UsageAsk slot) (λ slot. tt) (awaited_slots c.usages)
asking_moves_none (Reading j segment) = (tt, tt)
asking_moves_none (Checking j segment checks) = asks_of segment checks
asking_moves_none (Deleting j segment servers) = all_map MovesNone (λ (server : ℕ). out.Delete server segment.name) (λ server. tt) servers
asking_moves_none Over = tt

one_stays : (e : Emptying) (o : Out) → MovesNone o → Same e (says e o).state
unfolding says ask_check emptying_check emptying_read emptying_hold
one_stays e out.Hello none = by e.job
  where
    by : (o : Option Job) → Same e (ask_maps e o).state
    by None = alike e
    by (Some job) = record { log = refl; feed = refl; promised = refl }
one_stays e (out.List server) none = by e.job
  where
    by : (o : Option Job) → Same e (ask_list e o server).state
    by None = alike e
    by (Some job) = record { log = refl; feed = refl; promised = refl }
one_stays e (out.UsageAsk slot) none = by e.job
  where
    by : (o : Option Job) → Same e (ask_usage e o slot).state
    by None = alike e
    by (Some job) = record { log = refl; feed = refl; promised = refl }
one_stays e (out.Fetch seg) none = by e.job
  where
    by : (o : Option Job) → Same e (holds_in e o seg)
    by None = alike e
    by (Some job) = record { log = refl; feed = refl; promised = refl }
one_stays e (out.Check block place) none = by e.job
  where
    sent_so : (c : Checked) → Same e c.state → Same e (check_sent c.state block place c.ask).state
    sent_so c same = by c.ask
      where
        by : (ask : Option ℕ) → Same e (check_sent c.state block place ask).state
        by None = same
        by (Some n) = same

    by : (o : Option Job) → Same e (check_sent (checked_in e o block).state block place (checked_in e o block).ask).state
    by None = sent_so (checked_in e None block) (alike e)
    by (Some job) = sent_so (checked_in e (Some job) block) (record { log = refl; feed = refl; promised = refl })
one_stays e (out.Move blocks) none = absurd none
one_stays e (out.Delete server name) none = by e.job
  where
    by : (o : Option Job) → Same e (emptying_delete e o server name).state
    by None = alike e
    by (Some job) = record { log = refl; feed = refl; promised = refl }
one_stays e (out.Finished count) none = record { log = refl; feed = refl; promised = refl }

all_stay : (e : Emptying) (outs : List Out) → AllByRecursion MovesNone outs → Same e (steps says e outs).state
all_stay e [] all = alike e
all_stay e (o ∷ outs) all = after e (says e o).state (steps says (says e o).state outs).state (one_stays e o all.0) (all_stay (says e o).state outs all.1)

asks_stay : (e : Emptying) → Same e (emptying_clean e input.Tick).state
unfolding emptying_clean emptying_take
asks_stay e = by e.job
  where
    by : (o : Option Job) → Same e (steps says (takes_in e o input.Tick).state (takes_in e o input.Tick).outs).state
    by None = alike e
    by (Some job) =
        let t : Emptying = (takes_in e (Some job) input.Tick).state in
        after e t (steps says t (cleaning.phase_asking job.cleaning.phase)).state (record { log = refl; feed = refl; promised = refl })
        (all_stay t (cleaning.phase_asking job.cleaning.phase) (asking_moves_none job.cleaning.phase))

-- ---- its log

write_stays : (e : Emptying) (outs : List LogOut) → AllByRecursion IsSend outs → (steps write_one e outs).state ≡ e
unfolding write_one
write_stays e [] all = refl
write_stays e (Send fragment member ∷ outs) all = write_stays e outs all.1
write_stays e (Settled end rows ∷ outs) all = absurd all.0

writes_stay : (e : Emptying) → Same e (emptying_write e log_in.Tick).state
unfolding emptying_write
writes_stay e =
    let written : Emptying = record e { log = (log.on_tick e.log).state } in
    let stays = write_stays written (log.on_tick e.log).outs (tick_sends e.log) in
    record {
      log = ap (λ (f : Emptying). f.log) stays ∙ tick_stays e.log;
      feed = ap (λ (f : Emptying). f.feed) stays;
      promised = ap (λ (f : Emptying). f.promised) stays;
    }

writes_store : (e : Emptying) (f : FlightState) → e.log.flight ≡ Some f → (place : ℕ) (member : Member) → slice_get f.group.members place ≡ Some member
    → is_noted f.noted place ≡ false → In (store (piece f.segment f.group place) member) (emptying_write e log_in.Tick).outs
unfolding emptying_write write_one
writes_store e f flies place member at noted =
    steps_say write_one (store (piece f.segment f.group place) member) (fragment_to f member place) (λ t. inl refl)
    (record e { log = (log.on_tick e.log).state }) (log.on_tick e.log).outs (tick_stores e.log f flies place member at noted)

-- ---- the tick

module _ (e : Emptying) where
  abbrev asks : Done
  asks = emptying_clean e input.Tick

  abbrev writes : Done
  writes = emptying_write asks.state log_in.Tick

  in_log : (f : FlightState) → e.log.flight ≡ Some f → (place : ℕ) (member : Member) → slice_get f.group.members place ≡ Some member
      → is_noted f.noted place ≡ false → In (store (piece f.segment f.group place) member) (on_tick e).outs
  unfolding on_tick
  in_log f flies place member at noted =
      in_behind (store (piece f.segment f.group place) member) asks.outs _
      (in_front (store (piece f.segment f.group place) member) writes.outs _
      (writes_store asks.state f (ap (λ (l : LogState). l.flight) (asks_stay e).log ∙ flies) place member at noted))

  in_feed : (x : Effect) → In x (push_all e.promised.managers e.feed) → In x (on_tick e).outs
  unfolding on_tick
  in_feed x among =
      in_behind x asks.outs _
      (in_behind x writes.outs _
      (subst (λ (outs : List Effect). In x outs)
      (sym (ap (λ (p : Promised). push_all p.managers writes.state.feed) stay.promised ∙ ap (λ (f : FeedState). push_all e.promised.managers f) stay.feed)) among))
    where
      stay : Same e writes.state
      stay = after e asks.state writes.state (asks_stay e) (writes_stay asks.state)

  times : (x : Effect) → In x (on_tick e).outs → In x (on_time (Serves e)).outs
  unfolding on_time
  times x among = among

pub cleaner_repeats : (c : Cleaner) (e : Emptying) → c.phase ≡ Serves e → phase_has_room c.phase ≡ true
    → CleanerRepeats nodes.Cleaner (cleaner_step c Tick).packets e
cleaner_repeats c e serves room = record {
  stores = λ f flies place member at noted. said _ _ (in_log e f flies place member at noted);
  tells = λ slot below behind. said _ _ (in_feed e _ (tells_rest e.promised.managers e.feed slot below behind));
}
  where
    said : (to : NodeId) (b : Body) → In (effect.Send to b) (on_tick e).outs
        → In (record { from = nodes.Cleaner; to = to; clock = 0; body = b }) (cleaner_step c Tick).packets
    said to b among =
        subst (λ (t : Bool). In (record { from = nodes.Cleaner; to = to; clock = 0; body = b }) (packets_of nodes.Cleaner (cond t (on_time c.phase) (still c.phase)).outs))
        (sym room)
        (subst (λ (p : Phase). In (record { from = nodes.Cleaner; to = to; clock = 0; body = b }) (packets_of nodes.Cleaner (on_time p).outs)) (sym serves)
        (sent nodes.Cleaner to b (on_time (Serves e)).outs (times e (effect.Send to b) among)))
