-- A cleaner that serves tells a manager that asks it where its log ends, in the event in which that asks, and else reports to nobody.
use Rattle.std.proofs.Common.{◌≡◌, ⊎_elim, ◌<◌, ◌≤◌, ℕ, Bool, true, false, cond, List, [], ◌∷◌, nat_lt, arith, refl, sym, ap, subst, ◌∙◌}
use Rattle.std.proofs.lemmas.Bool.Decides.{nat_tests}
use Rattle.cleaner_node.specs.CleanerEvents.{Went_to, cleaner_hear, happens, on_deliver, phase_has_room, serves_on, takes}
use Rattle.cleaner_node.specs.declared.cleaner.Cleaner.{Cleaner}
use Rattle.cleaner_node.specs.declared.cleaner.Phase.{Phase}
use Rattle.cleaner_node.specs.declared.cleaner.Phase.TheVariants.{Serving}
use Rattle.cleaner_serving.specs.declared.emptying.Emptying.{Emptying}
use Rattle.cleaner_serving.specs.EmptyingEvents.{ask_for_maps, emptying_promise, emptying_report, on_body, on_packet, on_poll}
use Rattle.cleaner_serving.specs.Jobs.{Done, emptying_clean}
use Rattle.client_log.specs.LogState.{LogState}
use Rattle.core_world.specs.AnyNode.{any_step}
use Rattle.core_world.specs.declared.any_node.AnyNode.TheVariants as any
use Rattle.delta_feed.specs.Transition.{new_epoch}
use Rattle.log_owner.specs.Promised.{epoch_of, promise_to}
use Rattle.node_base.specs.declared.effects.Effect.{Effect}
use Rattle.node_base.specs.declared.effects.Effect.TheVariants.{Send}
use Rattle.node_base.specs.Effects.{packets_of}
use Rattle.node_base.specs.Known.{names_known_groups}
use Rattle.node_base.specs.Shape.{is_well_formed}
use Rattle.stripe_cleaner.specs.declared.input.In.TheVariants as input
use Rattle.wire_msg.specs.declared.body.Body.{Body}
use Rattle.wire_msg.specs.declared.body.Body.TheVariants as body
use Rattle.wire_msg.specs.declared.deltas.Poll.{Poll}
use Rattle.wire_msg.specs.declared.packet.Do.TheVariants.{Deliver}
use Rattle.wire_msg.specs.declared.packet.Packet.{Packet}
use Rattle.xfs_base.proofs.Booleans.{by_test, contrary}
use Rattle.xfs_base.specs.declared.node.NodeId.{NodeId}
use Rattle.xfs_base.specs.declared.node.NodeId.TheVariants as nodes
use Rattle.xfs_base.specs.Steps.{still}
use Rattle.run_answers.proofs.reply_law.Jobs.{AsksNothing, body_silent, cleans, is_poll}
use Rattle.run_answers.proofs.reply_law.Sent.{replies, replies_first, silent_none}
use Rattle.headline.specs.CleanerReplies.{CleanerReplies, ReportsJust, TakesBody, ended_at}

is_below : (a b : ℕ) → a < b → nat_lt a b ≡ true
is_below a b below = grind (arith, nat_tests)

is_above : (a b : ℕ) → b ≤ a → nat_lt a b ≡ false
is_above a b above = grind (arith, nat_tests)

module _ (e : Emptying) where
  -- where this was done for what came, the event answers it so
  abbrev Answered : NodeId → Body → Done → Type 0
  Answered from b d = TakesBody e d.state (packets_of nodes.Cleaner d.outs) from b

  module _ (manager : ℕ) (poll : Poll) where
    abbrev kept : Emptying
    kept = emptying_promise e poll.slot poll.epoch manager

    abbrev said : List Effect
    said = Send (nodes.Manager manager) (body.Report (record { slot = poll.slot; epoch = poll.epoch; held = []; end = kept.log.end })) ∷ []

    -- the slot is promised then, and the log is as it was
    kept_so : (kept.promised ≡ promise_to e.promised poll.slot poll.epoch manager) × (kept.log ≡ e.log)
    unfolding emptying_promise
    kept_so =
        by_test (λ (r : Emptying). (promise_to r.promised poll.slot poll.epoch manager ≡ promise_to e.promised poll.slot poll.epoch manager) × (r.log ≡ e.log))
        (nat_lt (epoch_of e.promised poll.slot) poll.epoch) (record e { feed = new_epoch e.feed poll.slot }) e (λ _. (refl, refl)) (λ _. (refl, refl))

    reported : ReportsJust e (emptying_report e manager poll).state (packets_of nodes.Cleaner (emptying_report e manager poll).outs)
        (ended_at e (emptying_report e manager poll).state (packets_of nodes.Cleaner (emptying_report e manager poll).outs) manager poll ∷ [])
    reported =
        replies_first nodes.Cleaner said (emptying_clean kept (input.Promise poll.slot poll.epoch)).outs (cleans kept (input.Promise poll.slot poll.epoch)).silent
        ∙ ap
        (λ (l : LogState).
        record {
          from = nodes.Cleaner;
          to = nodes.Manager manager;
          clock = 0;
          body = body.Report (record { slot = poll.slot; epoch = poll.epoch; held = []; end = l.end });
        }
        ∷ []) kept_so.1

    takes_poll : Answered (nodes.Manager manager) (body.Poll poll) (on_poll e (nodes.Manager manager) poll)
    unfolding on_poll
    takes_poll =
        by_test (Answered (nodes.Manager manager) (body.Poll poll)) (nat_lt poll.epoch (epoch_of e.promised poll.slot)) (still e) (emptying_report e manager poll)
        (λ below. record {
          older = λ _. (refl, refl);
          newer = λ above. contrary (sym (is_above poll.epoch (epoch_of e.promised poll.slot) above) ∙ below);
        })
        (λ fails. record {
          older = λ below. contrary (sym fails ∙ is_below poll.epoch (epoch_of e.promised poll.slot) below);
          newer = λ _. record { replies = reported; promised = (cleans kept (input.Promise poll.slot poll.epoch)).promised ∙ kept_so.0 };
        })

  poll_answered : (from : NodeId) (poll : Poll) → Answered from (body.Poll poll) (on_poll e from poll)
  unfolding on_poll
  poll_answered (nodes.Manager manager) poll = takes_poll manager poll
  poll_answered _ poll = (refl, refl)

  -- what asks nothing is answered by nothing
  none_answered : (from : NodeId) (b : Body) (d : Done) → AsksNothing b → replies nodes.Cleaner d.outs ≡ [] → Answered from b d
  none_answered from (body.Poll poll) d asks none = absurd asks
  none_answered from _ d asks none = none

  answered : (from : NodeId) (b : Body) → Answered from b (on_body e from b)
  answered from b =
      ⊎_elim (λ (asks : AsksNothing b). none_answered from b (on_body e from b) asks (silent_none nodes.Cleaner (on_body e from b).outs (body_silent e from b asks)))
      (λ (is : (poll : Poll) × (b ≡ body.Poll poll)). subst (λ (c : Body). Answered from c (on_body e from c)) (sym is.1) (poll_answered from is.0)) (is_poll b)

  -- a Poll names no group
  dropped : (from : NodeId) (b : Body) → names_known_groups e.maps b ≡ false → Answered from b (ask_for_maps e)
  dropped from (body.Poll poll) fails = contrary (sym fails)
  dropped from _ fails = refl

  taken : (packet : Packet) → Answered packet.from packet.body (on_packet e packet)
  unfolding on_packet
  taken packet =
      by_test (Answered packet.from packet.body) (names_known_groups e.maps packet.body) (on_body e packet.from packet.body) (ask_for_maps e)
      (λ _. answered packet.from packet.body) (dropped packet.from packet.body)

pub cleaner_answers : (c : Cleaner) (packet : Packet) → phase_has_room c.phase ≡ true → is_well_formed c.peers packet ≡ true
    → CleanerReplies c packet (any_step (any.Cleaner c) (Deliver packet))
unfolding on_deliver cleaner_hear
cleaner_answers c packet room well e serves = subst P (sym event) ((on_packet e packet).state, (refl, taken e packet))
  where
    P : Went_to → Type 0
    P w = (now : Emptying) × ((w.state ≡ Serving now) × TakesBody e now (packets_of nodes.Cleaner w.outs) packet.from packet.body)

    event : takes c.peers c.phase (Deliver packet) ≡ serves_on (on_packet e packet)
    event =
        ap (λ (b : Bool). cond b (happens c.peers c.phase (Deliver packet)) (still c.phase)) room
        ∙ (ap (λ (b : Bool). cond b (cleaner_hear c.phase packet) (still c.phase)) well ∙ ap (λ (p : Phase). cleaner_hear p packet) serves)
