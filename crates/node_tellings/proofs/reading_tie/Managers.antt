-- What each event makes of a manager: what its takeovers hold came, and its maps are as said; and what they complete is joined of what came.
use Rattle.std.proofs.Common.{ℕ, ◌==◌}
use Rattle.std.specs.Prelude.{Option, Some, None}
use Rattle.manager_map.specs.Slots.{manager_map_start, entry_at}
use Rattle.manager_node.specs.declared.manager.Manager.{Manager}
use Rattle.manager_node.specs.declared.phase.Phase.{Phase}
use Rattle.manager_node.specs.declared.phase.Phase.TheVariants.{Down, Waiting, Serving as Serves}
use Rattle.manager_node.specs.Events.{manager_step, takes_welcome, on_welcome, on_waiting, on_packet, manager_deliver, on_time, on_event, happens}
use Rattle.manager_node.specs.Phases.{Went_to, phase_has_room, serves, crash, restart, wish_at, down_wish, waiting_wish, serving_wish, with_begun, down_item, waiting_item, serving_item, begin_down, begin_waiting, begin_serving, on_begin}
use Rattle.manager_slots.specs.declared.lasting.Lasting.{Lasting as Life}
use Rattle.manager_slots.specs.declared.slot_phase.SlotPhase.{SlotPhase}
use Rattle.manager_slots.specs.declared.slot_phase.SlotPhase.TheVariants as phase
use Rattle.manager_slots.specs.Slots.{first_active}
use Rattle.manager_slots.specs.SlotTable.{first_phase}
use Rattle.manager_serving.specs.declared.serving.Serving.{Serving}
use Rattle.manager_serving.specs.Serving.{again, on_news}
use Rattle.node_base.specs.Beginning.{next_item, work_at}
use Rattle.node_base.specs.declared.peers.Peers.{Peers}
use Rattle.node_base.specs.Maps.{forgotten}
use Rattle.node_base.specs.Shape.{is_well_formed}
use Rattle.version_model.specs.declared.work.Work.{Work}
use Rattle.version_model.specs.declared.work.Work.TheVariants as work
use Rattle.wire_msg.specs.declared.body.Body.{Body}
use Rattle.wire_msg.specs.declared.body.Body.TheVariants as body
use Rattle.wire_msg.specs.declared.packet.Do.{Do}
use Rattle.wire_msg.specs.declared.packet.Do.TheVariants.{Begin, Deliver, Tick}
use Rattle.wire_msg.specs.declared.packet.Packet.{Packet}
use Rattle.wire_msg.specs.declared.registry.Welcome.{Welcome}
use Rattle.xfs_base.proofs.Booleans.{by_test}
use Rattle.xfs_base.specs.Blocks.{slot_of}
use Rattle.xfs_base.specs.declared.node.NodeId.{NodeId}
use Rattle.xfs_base.specs.Steps.{still}
use Rattle.xfs_base.proofs.Alls.{all_weaker}
use Rattle.node_tellings.specs.reading_tie.Arrivals.{answered_in, cut_by}
use Rattle.node_tellings.proofs.reading_tie.Arrivals.{BodyBrought, DoBrought}
use Rattle.node_tellings.specs.reading_tie.Came.{Came, Striped, MapStriped}
use Rattle.node_tellings.proofs.reading_tie.Came.{CameMore, StripedMore}
use Rattle.node_tellings.specs.reading_tie.ManagerReads.{SlotHolds, ServesSo, PhaseHolds, ManagerHolds, ManagerStarts, ManagerHoldsRise, ManagerEventsKeep}
use Rattle.node_tellings.specs.reading_tie.TakeoverReads.{TakeoversReadWhatCame}
use Rattle.node_tellings.proofs.reading_tie.Arriving.{do_brought, answered_more}
use Rattle.node_tellings.proofs.reading_tie.ManagerServing.{checkpoint_on, news_on, packet_on, tick_on}
use Rattle.node_tellings.proofs.reading_tie.Readings.{maps_rise}
use Rattle.node_tellings.proofs.reading_tie.Taking.{take_reads, take_rises}

module _ (came : Came) (striped : Striped) where
  abbrev PhaseSo : Phase → Type 0
  PhaseSo p = PhaseHolds came striped p

  abbrev Goes : Went_to → Type 0
  Goes w = PhaseSo w.state

  crashes_on : (life : Life) (number : ℕ) → Goes (crash life number)
  unfolding crash
  crashes_on life number = tt

  restarts_on : (life : Life) (number : ℕ) → Goes (restart life number)
  unfolding restart
  restarts_on life number = tt

  -- ---- the next item

  down_on : (life : Life) → Goes (begin_down life)
  unfolding begin_down
  down_on life = by (next_item life.items)
    where
      by_wish : (number : ℕ) (asked : Option Work) → Goes (down_wish (with_begun life) number (wish_at asked))
      by_wish number None = tt
      by_wish number (Some (work.Restart node)) = restarts_on (with_begun life) number
      by_wish number (Some _) = tt

      by : (item : Option ℕ) → Goes (down_item (with_begun life) item)
      by None = tt
      by (Some number) = by_wish number (work_at (with_begun life).items number)

  waiting_on : (life : Life) (hello : ℕ) → Goes (begin_waiting life hello)
  unfolding begin_waiting
  waiting_on life hello = by (next_item life.items)
    where
      by_wish : (number : ℕ) (asked : Option Work) → Goes (waiting_wish (with_begun life) hello number (wish_at asked))
      by_wish number None = tt
      by_wish number (Some (work.Crash node)) = crashes_on (with_begun life) number
      by_wish number (Some _) = tt

      by : (item : Option ℕ) → Goes (waiting_item (with_begun life) hello item)
      by None = tt
      by (Some number) = by_wish number (work_at (with_begun life).items number)

  serving_on : (s : Serving) → ServesSo came striped s → Goes (begin_serving s)
  unfolding begin_serving
  serving_on s h = by (next_item s.lasting.items)
    where
      by_wish : (number : ℕ) (asked : Option Work) → Goes (serving_wish (record s { lasting = with_begun s.lasting }) number (wish_at asked))
      by_wish number None = checkpoint_on came striped (record s { lasting = with_begun s.lasting }) number h
      by_wish number (Some (work.Crash node)) = crashes_on (with_begun s.lasting) number
      by_wish number (Some (work.Restart node)) = h
      by_wish number (Some _) = checkpoint_on came striped (record s { lasting = with_begun s.lasting }) number h

      by : (item : Option ℕ) → Goes (serving_item (record s { lasting = with_begun s.lasting }) item)
      by None = h
      by (Some number) = by_wish number (work_at (with_begun s.lasting).items number)

  begins_on : (p : Phase) → PhaseSo p → Goes (on_begin p)
  begins_on (Down life) h = down_on life
  begins_on (Waiting life hello) h = waiting_on life hello
  begins_on (Serves s) h = serving_on s h

  -- ---- packets

  -- after a restart it knows of no slot, and of no groups
  welcome_on : (peers : Peers) (life : Life) (hello : ℕ) (welcome : Welcome) → MapStriped striped welcome.news.groups
      → Goes (on_welcome peers life hello welcome)
  unfolding on_welcome
  welcome_on peers life hello welcome fact =
      let fresh : ServesSo came striped (again life (forgotten peers.servers) welcome.news.groups) =
      record { maps = tt; slots = (tt, (tt, (tt, (tt, (tt, (tt, (tt, (tt, tt)))))))) }
      in
      by_test Goes (takes_welcome peers life hello welcome)
      (serves (on_news (again life (forgotten peers.servers) welcome.news.groups) peers.clients welcome.news))
      (still (Waiting life hello))
      (λ _. news_on came striped (again life (forgotten peers.servers) welcome.news.groups) peers.clients welcome.news fact fresh)
      (λ _. tt)

  awaited_on : (peers : Peers) (life : Life) (hello : ℕ) (from : NodeId) (said : Body) → BodyBrought came striped from said
      → Goes (on_waiting peers life hello said)
  awaited_on peers life hello from (body.Welcome welcome) fact = welcome_on peers life hello welcome fact
  awaited_on peers life hello from _ fact = tt

  packet_goes : (peers : Peers) (p : Phase) (packet : Packet) → BodyBrought came striped packet.from packet.body → PhaseSo p → Goes (on_packet peers p packet)
  packet_goes peers (Down life) packet fact h = tt
  packet_goes peers (Waiting life hello) packet fact h = awaited_on peers life hello packet.from packet.body fact
  packet_goes peers (Serves s) packet fact h = packet_on came striped s peers.clients packet fact h

  deliver_goes : (peers : Peers) (p : Phase) (packet : Packet) → BodyBrought came striped packet.from packet.body → PhaseSo p → Goes (manager_deliver peers p packet)
  unfolding manager_deliver
  deliver_goes peers p packet fact h =
      by_test Goes (is_well_formed peers packet) (on_packet peers p packet) (still p) (λ _. packet_goes peers p packet fact h) (λ _. h)

  time_goes : (p : Phase) → PhaseSo p → Goes (on_time p)
  unfolding on_time
  time_goes (Down life) h = tt
  time_goes (Waiting life hello) h = tt
  time_goes (Serves s) h = tick_on came striped s h

  event_goes : (peers : Peers) (p : Phase) (what : Do) → DoBrought came striped what → PhaseSo p → Goes (on_event peers p what)
  event_goes peers p Begin fact h = begins_on p h
  event_goes peers p (Deliver packet) fact h = deliver_goes peers p packet fact h
  event_goes peers p Tick fact h = time_goes p h

  -- ---- of whatever came

  pub any_manager_keeps : (m : Manager) (what : Do) → ManagerHolds came striped m → DoBrought came striped what
      → ManagerHolds came striped (manager_step m what).node
  unfolding happens
  any_manager_keeps m what h fact =
      by_test Goes (phase_has_room m.phase) (on_event m.peers m.phase what) (still m.phase) (λ _. event_goes m.peers m.phase what fact h) (λ _. h)

module _ (came later : Came) (striped more : Striped) (grows : CameMore came later) (widens : StripedMore striped more) where
  slot_rises : (p : SlotPhase) → SlotHolds came striped p → SlotHolds later more p
  slot_rises (phase.Taking t) h = take_rises came later striped more grows widens t.take h
  slot_rises _ h = tt

  pub phase_rises : (p : Phase) → PhaseHolds came striped p → PhaseHolds later more p
  phase_rises (Down kept) h = tt
  phase_rises (Waiting kept hello) h = tt
  phase_rises (Serves s) h = record {
    maps = maps_rise came later striped more grows widens s.maps.groups h.maps;
    slots = all_weaker (SlotHolds came striped) (SlotHolds later more) slot_rises s.slots h.slots;
  }

-- ---- the laws

pub manager_starts : ManagerStarts
manager_starts packets to cuts number setup works known =
    record { maps = known; slots = (one 0, (one 1, (one 2, (one 3, (one 4, (one 5, (one 6, (one 7, tt)))))))) }
  where
    one : (slot : ℕ) → SlotHolds (answered_in packets to) (cut_by cuts) (first_phase number (manager_map_start setup.managers) slot)
    one slot =
        by_test (SlotHolds (answered_in packets to) (cut_by cuts)) ((entry_at (manager_map_start setup.managers) (slot_of slot)).manager == number) first_active
        (phase.Away 1) (λ _. tt) (λ _. tt)

pub manager_rises : ManagerHoldsRise
manager_rises packets more to cuts manager grows h =
    phase_rises (answered_in packets to) (answered_in more to) (cut_by cuts) (cut_by cuts) (answered_more packets more to grows)
    (λ id members parity fact. fact) manager.phase h

pub manager_keeps : ManagerEventsKeep
manager_keeps packets to cuts manager what h fact =
    any_manager_keeps (answered_in packets to) (cut_by cuts) manager what h (do_brought packets to cuts what fact)

pub takeovers_read : TakeoversReadWhatCame
takeovers_read packets to cuts s p r ask own server told segment h at reads fact e =
    take_reads (answered_in packets to) (cut_by cuts) s p r ask own server told segment h at reads fact e
