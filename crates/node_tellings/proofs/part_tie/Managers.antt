-- Whatever happens to a manager, what it names of checkpoints is known, and so is what it sends.
use Rattle.std.proofs.Common.{◌≡◌, ℕ, ◌==◌, List, refl}
use Rattle.std.specs.Prelude.{Option, Some, None, IfSome}
use Rattle.std.specs.List.{AllByRecursion}
use Rattle.checkpoint.specs.WriterState.{WorkState}
use Rattle.manager_map.specs.Slots.{manager_map_start, entry_at}
use Rattle.manager_node.specs.declared.manager.Manager.{Manager}
use Rattle.manager_node.specs.declared.phase.Phase.{Phase}
use Rattle.manager_node.specs.declared.phase.Phase.TheVariants.{Down, Waiting, Serving as Serves}
use Rattle.manager_node.specs.Events.{manager_start, manager_step, takes_welcome, on_welcome, on_waiting, on_packet, manager_deliver, on_time, on_event, happens}
use Rattle.manager_node.specs.Phases.{Went_to, lasting_of, phase_has_room, serves, restart, with_begun, begin_serving, on_begin}
use Rattle.manager_slots.specs.declared.lasting.Lasting.{Lasting as Life}
use Rattle.manager_slots.specs.declared.slot_phase.SlotPhase.{SlotPhase}
use Rattle.manager_slots.specs.declared.slot_phase.SlotPhase.TheVariants as phase
use Rattle.manager_slots.specs.Slots.{first_active}
use Rattle.manager_slots.specs.SlotTable.{first_phase}
use Rattle.manager_serving.specs.Checkpoints.{Done, on_checkpoint}
use Rattle.manager_serving.specs.declared.serving.Serving.{Serving}
use Rattle.manager_serving.specs.Serving.{again, serving_hear, on_news, on_tick}
use Rattle.node_base.specs.declared.peers.Peers.{Peers}
use Rattle.node_base.specs.Maps.{forgotten}
use Rattle.node_base.specs.Shape.{is_well_formed}
use Rattle.version_model.specs.declared.act.Act.{Act}
use Rattle.version_model.specs.declared.work.Work.{Work}
use Rattle.wire_msg.specs.declared.body.Body.{Body}
use Rattle.wire_msg.specs.declared.body.Body.TheVariants as body
use Rattle.wire_msg.specs.declared.packet.Do.{Do}
use Rattle.wire_msg.specs.declared.packet.Do.TheVariants.{Begin, Deliver, Tick}
use Rattle.wire_msg.specs.declared.packet.Packet.{Packet}
use Rattle.wire_msg.specs.declared.registry.Welcome.{Welcome}
use Rattle.xfs_base.proofs.Booleans.{by_test}
use Rattle.xfs_base.specs.Blocks.{slot_of}
use Rattle.xfs_base.specs.declared.node.NodeId.{NodeId}
use Rattle.xfs_base.specs.declared.node.NodeId.TheVariants.{Manager as AManager}
use Rattle.xfs_base.specs.declared.setup.Setup.{Setup}
use Rattle.xfs_base.specs.Steps.{still}
use Rattle.node_moves.proofs.manager_walk.Items as items
use Rattle.node_tellings.proofs.entry_tie.Frames.{contains_all}
use Rattle.node_tellings.proofs.part_tie.Leaving.{LeavesIf}
use Rattle.manager_slots.specs.Lasting.{log_of}
use Rattle.manager_serving.specs.declared.checkpointing.Checkpointing.{Checkpointing}
use Rattle.wire_msg.specs.declared.registry.CkptDone.{CkptDone}
use Rattle.xfs_base.specs.declared.segment.LogId.{LogId}
use Rattle.xfs_base.specs.declared.segment.SegRef.{SegRef}
use Rattle.xfs_base.proofs.Alls.{all_weaker}
use Rattle.xfs_base.proofs.Leaving.{Leaves}
use Rattle.node_tellings.specs.part_tie.ManagerNames.{DoneNames, JobNames, ManagerNames, ManagerNamesRise, ManagersNameKnown, ManagersStartNaming, PhaseFlies, PhaseNames, ServingNames, SlotNames, WorkNames}
use Rattle.node_tellings.specs.part_tie.Names.{AllKnown, BodyNames, DoNames, Known, NamesKnown, PacketNames, named_by}
use Rattle.node_tellings.proofs.part_tie.Checkpoints.{Flies, Plain, Tells as ServingTells, checkpoint_on}
use Rattle.node_tellings.proofs.part_tie.Saying.{Acted, Says, acts_acted, packets_name}
use Rattle.node_tellings.proofs.part_tie.Serving.{news_on, packet_on, tick_on}

-- ---- the start

pub first_names : (known : Known) (number : ℕ) (setup : Setup) (works : List Work) → ManagerNames known (manager_start number setup works)
first_names known number setup works = record {
  slots = (one 0, (one 1, (one 2, (one 3, (one 4, (one 5, (one 6, (one 7, tt))))))));
  work = tt;
  done = tt;
}
  where
    one : (slot : ℕ) → SlotNames known (first_phase number (manager_map_start setup.managers) slot)
    one slot =
        by_test (SlotNames known) ((entry_at (manager_map_start setup.managers) (slot_of slot)).manager == number) first_active (phase.Away 1)
        (λ _. tt) (λ _. tt)

-- ---- the events

module _ (known : Known) (acts : List Act) where
  abbrev Goes : Went_to → Type 0
  Goes w = Leaves (PhaseNames known) (Says known) w

  -- so it is where all that it acts is among the acts
  abbrev Tells : Went_to → Type 0
  Tells w = LeavesIf (Acted acts) (PhaseNames known) (Says known) w

  -- a manager that serves, with what its log has in flight
  held : (s : Serving) → ServingNames known s → PhaseFlies known acts (Serves s) → Flies known acts s.lasting.number s.writer.log s
  held s h flies = record { slots = h.slots; work = h.work; own = refl; its = refl; done = h.done; more = flies }

  serving : (d : Done) (number : ℕ) (l : LogId) → Leaves (Plain known acts number l) (Says known) d → Goes (serves d)
  serving d number l one =
      let h = one.state in record { state = record { slots = h.slots; work = h.work; done = h.done }; outs = one.outs }

  serving-if : (d : Done) (number : ℕ) (l : LogId) → ServingTells known acts number l d → Tells (serves d)
  serving-if d number l one acted = serving d number l (one acted)

  unmoved : (p : Phase) → PhaseNames known p → Goes (still p)
  unmoved p h = record { state = h; outs = tt }

  -- ---- the next item

  greets : (life : Life) (number : ℕ) → AllByRecursion (Says known) (restart life number).outs
  unfolding restart
  greets life number = (tt, (tt, tt))

  serving_on : (s : Serving) → ServingNames known s → Goes (begin_serving s)
  serving_on s h =
      items.serving_on (PhaseNames known) (Says known) (λ life. tt) (λ life hello. tt) (λ number a. tt) greets s
      (record { slots = h.slots; work = h.work; done = h.done })
      (λ number. serving (on_checkpoint (record s { lasting = with_begun s.lasting }) number) s.lasting.number s.writer.log
      (checkpoint_on known acts s.lasting.number s.writer.log (record s { lasting = with_begun s.lasting }) number
      (record { slots = h.slots; work = h.work; own = refl; its = refl; done = h.done; more = tt })))

  begins_on : (p : Phase) → PhaseNames known p → Goes (on_begin p)
  begins_on (Down life) h = items.down_on (PhaseNames known) (Says known) (λ life. tt) (λ life hello. tt) (λ number a. tt) greets life
  begins_on (Waiting life hello) h =
      items.waiting_on (PhaseNames known) (Says known) (λ life. tt) (λ life hello. tt) (λ number a. tt) greets life hello
  begins_on (Serves s) h = serving_on s h

  -- ---- packets

  -- after a restart it knows of no slot, and nothing is in flight
  again_names : (life : Life) (peers : Peers) (welcome : Welcome)
      → Flies known acts life.number (log_of life.number) (again life (forgotten peers.servers) welcome.news.groups)
  again_names life peers welcome = record {
    slots = (tt, (tt, (tt, (tt, (tt, (tt, (tt, (tt, tt))))))));
    work = tt;
    own = refl;
    its = refl;
    done = tt;
    more = λ f flies filed. absurd (let clash : None ≡ Some f = flies in cc);
  }

  welcome_on : (peers : Peers) (life : Life) (hello : ℕ) (welcome : Welcome) → BodyNames known (body.Welcome welcome)
      → Tells (on_welcome peers life hello welcome)
  unfolding on_welcome
  welcome_on peers life hello welcome fact =
      by_test Tells (takes_welcome peers life hello welcome)
      (serves (on_news (again life (forgotten peers.servers) welcome.news.groups) peers.clients welcome.news))
      (still (Waiting life hello))
      (λ _. serving-if (on_news (again life (forgotten peers.servers) welcome.news.groups) peers.clients welcome.news) life.number (log_of life.number)
      (news_on known acts life.number (log_of life.number) (again life (forgotten peers.servers) welcome.news.groups) peers.clients welcome.news fact
      (again_names life peers welcome)))
      (λ _ acted. record { state = tt; outs = tt })

  awaited_on : (peers : Peers) (life : Life) (hello : ℕ) (said : Body) → BodyNames known said → Tells (on_waiting peers life hello said)
  awaited_on peers life hello (body.Welcome welcome) fact = welcome_on peers life hello welcome fact
  awaited_on peers life hello _ fact = λ acted. record { state = tt; outs = tt }

  packet_goes : (peers : Peers) (p : Phase) (packet : Packet) → PhaseNames known p → PacketNames known packet → PhaseFlies known acts p
      → Tells (on_packet peers p packet)
  packet_goes peers (Down life) packet h fact flies = λ acted. record { state = tt; outs = tt }
  packet_goes peers (Waiting life hello) packet h fact flies = awaited_on peers life hello packet.body fact
  packet_goes peers (Serves s) packet h fact flies =
      serving-if (serving_hear s peers.clients packet) s.lasting.number s.writer.log
      (packet_on known acts s.lasting.number s.writer.log s peers.clients packet (held s h flies) fact)

  deliver_goes : (peers : Peers) (p : Phase) (packet : Packet) → PhaseNames known p → PacketNames known packet → PhaseFlies known acts p
      → Tells (manager_deliver peers p packet)
  unfolding manager_deliver
  deliver_goes peers p packet h fact flies =
      by_test Tells (is_well_formed peers packet) (on_packet peers p packet) (still p) (λ _. packet_goes peers p packet h fact flies) (λ _ acted. unmoved p h)

  time_goes : (p : Phase) → PhaseNames known p → PhaseFlies known acts p → Tells (on_time p)
  unfolding on_time
  time_goes (Down life) h flies = λ acted. record { state = tt; outs = tt }
  time_goes (Waiting life hello) h flies = λ acted. record { state = tt; outs = (tt, tt) }
  time_goes (Serves s) h flies =
      serving-if (on_tick s) s.lasting.number s.writer.log (tick_on known acts s.lasting.number s.writer.log s (held s h flies))

  -- ---- all events

  event_goes : (peers : Peers) (p : Phase) (what : Do) → PhaseNames known p → DoNames known what → PhaseFlies known acts p → Tells (on_event peers p what)
  event_goes peers p Begin h fact flies = λ acted. begins_on p h
  event_goes peers p (Deliver packet) h fact flies = deliver_goes peers p packet h fact flies
  event_goes peers p Tick h fact flies = time_goes p h flies

  manager_goes : (m : Manager) (what : Do) → ManagerNames known m → DoNames known what → PhaseFlies known acts m.phase → Tells (happens m what)
  unfolding happens
  manager_goes m what h fact flies =
      by_test Tells (phase_has_room m.phase) (on_event m.peers m.phase what) (still m.phase) (λ _. event_goes m.peers m.phase what h fact flies)
      (λ _ acted. unmoved m.phase h)

-- ---- the laws

-- of any segments that are known
pub any_manager_names : (known : Known) (m : Manager) (what : Do) → ManagerNames known m → DoNames known what
    → PhaseFlies known (manager_step m what).acts m.phase → NamesKnown (ManagerNames known) known (manager_step m what)
any_manager_names known m what h fact flies =
    let name : NodeId = AManager (lasting_of m.phase).number in
    let acts : List Act = (manager_step m what).acts in
    let d = manager_goes known acts m what h fact flies (acts_acted acts name (happens m what).outs (contains_all acts)) in
    record { node = d.state; packets = packets_name known name (happens m what).outs d.outs }

module _ (known later : Known) (more : (ref : SegRef) → known ref → later ref) where
  pub all_rise : (parts : List SegRef) → AllKnown known parts → AllKnown later parts
  all_rise parts h = all_weaker known later more parts h

  slot_rises : (p : SlotPhase) → SlotNames known p → SlotNames later p
  slot_rises (phase.Active a) h = all_rise a.parts h
  slot_rises (phase.Taking t) h = all_rise t.take.news.parts h
  slot_rises (phase.Away epoch) h = tt
  slot_rises (phase.Broken epoch seg) h = tt

  work_rises : (o : Option WorkState) → IfSome o (WorkNames known) → IfSome o (WorkNames later)
  work_rises None h = tt
  work_rises (Some w) h = all_rise w.parts h

  done_rises : (o : Option CkptDone) → IfSome o (DoneNames known) → IfSome o (DoneNames later)
  done_rises None h = tt
  done_rises (Some m) h = all_rise m.parts h

  job_rises : (o : Option Checkpointing) → IfSome o (JobNames known) → IfSome o (JobNames later)
  job_rises None h = tt
  job_rises (Some job) h = done_rises job.done h

  pub phase_rises : (p : Phase) → PhaseNames known p → PhaseNames later p
  phase_rises (Down life) h = tt
  phase_rises (Waiting life hello) h = tt
  phase_rises (Serves s) h = record {
    slots = all_weaker (SlotNames known) (SlotNames later) slot_rises s.slots h.slots;
    work = work_rises s.writer.work h.work;
    done = job_rises s.checkpoint h.done;
  }

-- so it is of those of a list
pub managers_start : ManagersStartNaming
managers_start refs number setup works = first_names (named_by refs) number setup works

pub manager_names_rise : ManagerNamesRise
manager_names_rise refs later m more h = phase_rises (named_by refs) (named_by later) more m.phase h

pub managers_name : ManagersNameKnown
managers_name refs m what h fact flies = any_manager_names (named_by refs) m what h fact flies
