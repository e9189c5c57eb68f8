-- A client that serves answers who asks it in the event in which it comes.
use Rattle.std.proofs.Common.{◌≡◌, ◌++◌, ◌&&◌, ℕ, Bool, true, false, cond, [], nat_lt, arith, refl, sym, ap, subst, ◌∙◌}
use Rattle.std.proofs.lemmas.Bool.Decides.{nat_tests}
use Rattle.client_node.specs.declared.client.Client.{Client}
use Rattle.client_node.specs.declared.phase.Phase.{Phase}
use Rattle.client_node.specs.declared.phase.Phase.TheVariants.{Serving as Serves}
use Rattle.client_node.specs.Phases.{Went_to, client_has_room, happens, lasting_of, on_deliver, phase_has_room, takes, then_runs}
use Rattle.client_node.specs.Room.{serving_has_room, tokens_room}
use Rattle.client_running.specs.Running.{run}
use Rattle.client_serving.specs.declared.serving.Serving.{Serving}
use Rattle.client_serving.specs.Packets.{asks_for_maps, serving_take, take_body}
use Rattle.client_serving.specs.Sends.{Done}
use Rattle.core_world.specs.AnyNode.{any_step}
use Rattle.core_world.specs.declared.any_node.AnyNode.TheVariants as any
use Rattle.log_owner.specs.Opening.{attempt_of, log_has_room}
use Rattle.node_base.specs.Effects.{packets_of}
use Rattle.node_base.specs.Known.{names_known_groups}
use Rattle.node_base.specs.Nodes.{has_node}
use Rattle.node_base.specs.Room.{has_room}
use Rattle.node_base.specs.Shape.{has_logs, has_slot, has_versions, is_well_formed}
use Rattle.wire_msg.specs.declared.body.Body.{Body}
use Rattle.wire_msg.specs.declared.body.Body.TheVariants as body
use Rattle.wire_msg.specs.declared.deltas.Poll.{Poll}
use Rattle.wire_msg.specs.declared.packet.Do.TheVariants.{Deliver}
use Rattle.wire_msg.specs.declared.packet.Packet.{Packet}
use Rattle.xfs_base.proofs.Booleans.{and_first, and_second, by_test, contrary}
use Rattle.xfs_base.specs.declared.node.NodeId.{NodeId}
use Rattle.xfs_base.specs.declared.node.NodeId.TheVariants as nodes
use Rattle.xfs_base.specs.Limits.{u32_end}
use Rattle.xfs_base.specs.Steps.{still}
use Rattle.headline.specs.ClientReplies.{AnswersBody, ClientReplies}
use Rattle.run_answers.proofs.reply_law.Polls.{event_replies, takes_forward, takes_poll}
use Rattle.run_answers.proofs.reply_law.Recalls.{takes_recall}

below_end : (k : ℕ) → has_room k ≡ true → nat_lt k u32_end ≡ true
below_end k room = grind (arith, nat_tests)

module _ (s : Serving) (room : serving_has_room s ≡ true) where
  -- where this was done for what came, the event answers it so
  abbrev Answered : NodeId → Body → Done → Type 0
  Answered from b d = AnswersBody s (run d.state).state (packets_of (nodes.Client s.lasting.number) (d.outs ++ (run d.state).outs)) from b

  parts : (has_room s.tokens.req && (log_has_room s.log && tokens_room s)) ≡ true
  parts = and_second (has_room s.maps.version) (has_room s.tokens.req && (log_has_room s.log && tokens_room s)) room

  wants_room : nat_lt s.tokens.req u32_end ≡ true
  wants_room = below_end s.tokens.req (and_first (has_room s.tokens.req) (log_has_room s.log && tokens_room s) parts)

  log_room : nat_lt s.log.end.seq u32_end ≡ true
  log_room =
      below_end s.log.end.seq
      (and_first (has_room s.log.end.seq) (has_room (attempt_of s.log.flight))
      (and_first (log_has_room s.log) (tokens_room s) (and_second (has_room s.tokens.req) (log_has_room s.log && tokens_room s) parts)))

  poll_answered : (from : NodeId) (poll : Poll) → has_slot (body.Poll poll) ≡ true → Answered from (body.Poll poll) (take_body s from (body.Poll poll))
  poll_answered (nodes.Manager manager) poll its = takes_poll s manager poll its
  poll_answered _ poll its = event_replies s (still s) [] refl

  answered : (from : NodeId) (b : Body) → has_slot b ≡ true → Answered from b (take_body s from b)
  answered from (body.Recall recall) its = takes_recall s recall wants_room log_room
  answered from (body.Forward forward) its = takes_forward s forward
  answered from (body.Poll poll) its = poll_answered from poll its
  answered from _ its = tt

  -- none of these names a group
  dropped : (from : NodeId) (b : Body) → names_known_groups s.maps b ≡ false → Answered from b (asks_for_maps s)
  dropped from (body.Recall recall) fails = contrary (sym fails)
  dropped from (body.Forward forward) fails = contrary (sym fails)
  dropped from (body.Poll poll) fails = contrary (sym fails)
  dropped from _ fails = tt

  taken : (packet : Packet) → has_slot packet.body ≡ true → Answered packet.from packet.body (serving_take s packet)
  unfolding serving_take
  taken packet its =
      by_test (Answered packet.from packet.body) (names_known_groups s.maps packet.body) (take_body s packet.from packet.body) (asks_for_maps s)
      (λ _. answered packet.from packet.body its) (dropped packet.from packet.body)

pub client_answers : (c : Client) (packet : Packet) → client_has_room c ≡ true → is_well_formed c.peers packet ≡ true
    → ClientReplies c packet (any_step (any.Client c) (Deliver packet))
unfolding on_deliver
client_answers c packet room well s serves =
    subst (P c.phase) (sym event)
    (subst (λ (p : Phase). P p (then_runs (serving_take s packet))) (sym serves) ((run (serving_take s packet).state).state, (refl, taken s has packet its)))
  where
    P : Phase → Went_to → Type 0
    P p w = (now : Serving) × ((w.state ≡ Serves now) × AnswersBody s now (packets_of (nodes.Client (lasting_of p).number) w.outs) packet.from packet.body)

    event : takes c (Deliver packet) ≡ then_runs (serving_take s packet)
    event =
        ap (λ (b : Bool). cond b (happens c (Deliver packet)) (still c.phase)) room
        ∙ (ap (λ (b : Bool). cond b (on_deliver c.cache c.phase packet) (still c.phase)) well ∙ ap (λ (p : Phase). on_deliver c.cache p packet) serves)

    has : serving_has_room s ≡ true
    has =
        subst (λ (p : Phase). phase_has_room p ≡ true) serves
        (and_second (has_room (lasting_of c.phase).questions.last) (phase_has_room c.phase)
        (and_second (has_room (lasting_of c.phase).inc) (has_room (lasting_of c.phase).questions.last && phase_has_room c.phase) room))

    its : has_slot packet.body ≡ true
    its =
        and_first (has_slot packet.body) (has_versions packet.body)
        (and_second (has_logs packet.body) (has_slot packet.body && has_versions packet.body)
        (and_second (has_node c.peers packet.from) (has_logs packet.body && (has_slot packet.body && has_versions packet.body)) well))
