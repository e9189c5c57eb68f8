-- What each event makes of a manager, and what it says.
use Rattle.std.proofs.Common.{refl, ℕ, List}
use Rattle.std.specs.List.{AllByRecursion}
use Rattle.manager_node.specs.declared.manager.Manager.{Manager}
use Rattle.manager_node.specs.declared.phase.Phase.{Phase}
use Rattle.manager_node.specs.declared.phase.Phase.TheVariants.{Down, Waiting, Serving as Serves}
use Rattle.manager_node.specs.Events.{takes_welcome, on_welcome, on_waiting, on_packet, manager_deliver, on_time, on_event, happens}
use Rattle.manager_node.specs.Phases.{Went_to, phase_has_room, serves, restart, with_begun, begin_serving, on_begin}
use Rattle.manager_slots.specs.declared.lasting.Lasting.{Lasting as Life}
use Rattle.manager_serving.specs.declared.serving.Serving.{Serving}
use Rattle.manager_serving.specs.Serving.{again, on_news}
use Rattle.node_base.specs.declared.peers.Peers.{Peers}
use Rattle.node_base.specs.Maps.{forgotten}
use Rattle.node_base.specs.Shape.{is_well_formed}
use Rattle.wire_msg.specs.declared.body.Body.{Body}
use Rattle.wire_msg.specs.declared.body.Body.TheVariants as body
use Rattle.wire_msg.specs.declared.packet.Do.{Do}
use Rattle.wire_msg.specs.declared.packet.Do.TheVariants.{Begin, Deliver, Tick}
use Rattle.wire_msg.specs.declared.packet.Packet.{Packet}
use Rattle.wire_msg.specs.declared.registry.Welcome.{Welcome}
use Rattle.xfs_base.proofs.Booleans.{by_test}
use Rattle.xfs_base.specs.declared.node.NodeId.{NodeId}
use Rattle.xfs_base.specs.Steps.{still}
use Rattle.xfs_base.proofs.Leaving.{Leaves}
use Rattle.node_base.specs.declared.effects.Effect.{Effect}
use Rattle.node_base.specs.Effects.{packets_of}
use Rattle.wire_msg.specs.declared.packet.Packet.{Packet}
use Rattle.xfs_base.specs.declared.node.NodeId.{NodeId}
use Rattle.node_moves.proofs.Effects as effects
use Rattle.node_moves.proofs.manager_walk.Items as items
use Rattle.node_moves.proofs.manager_walk.Laws.{AllSay, Says, ServingSo, Walk}
use Rattle.node_moves.proofs.manager_walk.Serving.{Hears, Ready, news_on, packet_on, tick_on}
use Rattle.node_moves.proofs.manager_walk.Writing.{checkpoint_on}

module _ (w : Walk) where
  abbrev pub PhaseSo : Phase → Type 0
  PhaseSo (Down life) = Unit {0}
  PhaseSo (Waiting life hello) = Unit {0}
  PhaseSo (Serves s) = ServingSo w s

  -- what its log has in flight
  abbrev pub PhaseFlies : Phase → Type 0
  PhaseFlies (Down life) = Unit {0}
  PhaseFlies (Waiting life hello) = Unit {0}
  PhaseFlies (Serves s) = w.Flies s.writer.log s.log.flight

  -- while it waits, of the news that welcome it
  abbrev pub AwaitedSo : Body → Type 0
  AwaitedSo (body.Welcome m) = AllByRecursion w.News m.news.slots
  AwaitedSo _ = Unit {0}

  -- what is known of a packet, and of an event
  abbrev pub PacketSo : Phase → Packet → Type 0
  PacketSo (Down life) packet = Unit {0}
  PacketSo (Waiting life hello) packet = AwaitedSo packet.body
  PacketSo (Serves s) packet = Hears w s packet.from packet.body

  abbrev pub DoSo : Phase → Do → Type 0
  DoSo p Begin = Unit {0}
  DoSo p (Deliver packet) = PacketSo p packet
  DoSo p Tick = Unit {0}

  abbrev Goes : Went_to → Type 0
  Goes d = Leaves PhaseSo (Says w) d

  unmoved : (p : Phase) → PhaseSo p → Goes (still p)
  unmoved p h = record { state = h; outs = tt }

  -- ---- the next item

  greets : (life : Life) (number : ℕ) → AllByRecursion (Says w) (restart life number).outs
  unfolding restart
  greets life number = (tt, (w.plain _ tt, tt))

  serving_on : (s : Serving) → ServingSo w s → Goes (begin_serving s)
  serving_on s h =
      items.serving_on PhaseSo (Says w) (λ life. tt) (λ life hello. tt) (λ number a. tt) greets s kept
      (λ number. (let d = checkpoint_on w (record s { lasting = with_begun s.lasting }) number kept in record { state = d.state; outs = d.outs }))
    where
      kept : ServingSo w (record s { lasting = with_begun s.lasting })
      kept = record { slots = h.slots; work = h.work; job = h.job; log = h.log }

  begins_on : (p : Phase) → PhaseSo p → Goes (on_begin p)
  begins_on (Down life) h = items.down_on PhaseSo (Says w) (λ life. tt) (λ life hello. tt) (λ number a. tt) greets life
  begins_on (Waiting life hello) h = items.waiting_on PhaseSo (Says w) (λ life. tt) (λ life hello. tt) (λ number a. tt) greets life hello
  begins_on (Serves s) h = serving_on s h

  -- ---- packets

  -- after a restart it knows of no slot
  again_so : (life : Life) (peers : Peers) (welcome : Welcome) → Ready w (again life (forgotten peers.servers) welcome.news.groups)
  again_so life peers welcome = record {
    so = record { slots = (tt, (tt, (tt, (tt, (tt, (tt, (tt, (tt, tt)))))))); work = tt; job = tt; log = w.fresh _ refl refl };
    flies = w.idle _;
  }

  welcome_on : (peers : Peers) (life : Life) (hello : ℕ) (welcome : Welcome) → AllByRecursion w.News welcome.news.slots
      → Goes (on_welcome peers life hello welcome)
  unfolding on_welcome
  welcome_on peers life hello welcome told =
      by_test Goes (takes_welcome peers life hello welcome)
      (serves (on_news (again life (forgotten peers.servers) welcome.news.groups) peers.clients welcome.news))
      (still (Waiting life hello))
      (λ _.
      let before = again_so life peers welcome in
      let d = news_on w (again life (forgotten peers.servers) welcome.news.groups) peers.clients welcome.news before told in
      record { state = d.state; outs = d.outs })
      (λ _. record { state = tt; outs = tt })

  awaited_on : (peers : Peers) (life : Life) (hello : ℕ) (from : NodeId) (said : Body) → AwaitedSo said → Goes (on_waiting peers life hello said)
  awaited_on peers life hello from (body.Welcome welcome) told = welcome_on peers life hello welcome told
  awaited_on peers life hello from _ told = record { state = tt; outs = tt }

  packet_goes : (peers : Peers) (p : Phase) (packet : Packet) → PhaseSo p → PhaseFlies p → PacketSo p packet
      → Goes (on_packet peers p packet)
  packet_goes peers (Down life) packet h flies told = record { state = tt; outs = tt }
  packet_goes peers (Waiting life hello) packet h flies told = awaited_on peers life hello packet.from packet.body told
  packet_goes peers (Serves s) packet h flies told =
      let d = packet_on w s peers.clients packet (record { so = h; flies = flies }) told in record { state = d.state; outs = d.outs }

  deliver_goes : (peers : Peers) (p : Phase) (packet : Packet) → PhaseSo p → PhaseFlies p → PacketSo p packet
      → Goes (manager_deliver peers p packet)
  unfolding manager_deliver
  deliver_goes peers p packet h flies told =
      by_test Goes (is_well_formed peers packet) (on_packet peers p packet) (still p) (λ _. packet_goes peers p packet h flies told) (λ _. unmoved p h)

  time_goes : (p : Phase) → PhaseSo p → PhaseFlies p → Goes (on_time p)
  unfolding on_time
  time_goes (Down life) h flies = record { state = tt; outs = tt }
  time_goes (Waiting life hello) h flies = record { state = tt; outs = (w.plain _ tt, tt) }
  time_goes (Serves s) h flies = let d = tick_on w s (record { so = h; flies = flies }) in record { state = d.state; outs = d.outs }

  -- ---- all events

  event_goes : (peers : Peers) (p : Phase) (what : Do) → PhaseSo p → PhaseFlies p → DoSo p what → Goes (on_event peers p what)
  event_goes peers p Begin h flies told = begins_on p h
  event_goes peers p (Deliver packet) h flies told = deliver_goes peers p packet h flies told
  event_goes peers p Tick h flies told = time_goes p h flies

  pub manager_goes : (m : Manager) (what : Do) → PhaseSo m.phase → PhaseFlies m.phase → DoSo m.phase what → Leaves PhaseSo (Says w) (happens m what)
  unfolding happens
  manager_goes m what h flies told =
      by_test Goes (phase_has_room m.phase) (on_event m.peers m.phase what) (still m.phase) (λ _. event_goes m.peers m.phase what h flies told)
      (λ _. unmoved m.phase h)

  -- the packets of the node tell what is said
  pub packets_so : (P : Packet → Type 0) (node : NodeId) → ((to : NodeId) (b : Body) → w.Tells b → P (record { from = node; to = to; clock = 0; body = b })) → (outs : List Effect)
      → AllSay w outs → AllByRecursion P (packets_of node outs)
  packets_so P node one outs all = effects.packets_so w.Tells P node one outs all
