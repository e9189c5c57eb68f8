-- What is named as a part of a checkpoint is a segment that was in flight in a manager's log, and was acted to be filed, over every event.
use Rattle.std.proofs.Common.{◌≡◌, ⊎_elim, ℕ, zero, suc, List, [], ◌∷◌, ◌++◌, Some, map, slice_get, slice_set, inl, inr, refl, sym, ap, subst}
use Rattle.std.specs.List.{AllByRecursion}
use Rattle.cleaner_node.specs.CleanerEvents.{takes as cleaner_takes}
use Rattle.client_node.specs.Phases.{lasting_of, takes as client_takes}
use Rattle.core_world.specs.AnyNode.{any_start, any_step}
use Rattle.core_world.specs.declared.any_node.AnyNode.{AnyNode}
use Rattle.core_world.specs.declared.any_node.AnyNode.TheVariants as any
use Rattle.manager_node.specs.declared.manager.Manager.{Manager as ManagerNode}
use Rattle.manager_node.specs.declared.phase.Phase.{Phase}
use Rattle.manager_node.specs.declared.phase.Phase.TheVariants as managing
use Rattle.manager_slots.specs.declared.slot_phase.SlotPhase.{SlotPhase}
use Rattle.manager_slots.specs.declared.slot_phase.SlotPhase.TheVariants as phase
use Rattle.node_base.specs.declared.effects.Effect.{Effect}
use Rattle.node_base.specs.declared.effects.Effect.TheVariants.{Send, Answer, Lose, Does}
use Rattle.node_base.specs.Effects.{packet_of, packets_of}
use Rattle.headline.specs.Managers.{phase_at, slot_in}
use Rattle.node_tellings.proofs.part_tie.Managers as managers
use Rattle.node_tellings.proofs.part_tie.Registries as registries
use Rattle.node_tellings.specs.part_tie.ManagerNames.{ManagerNames, PhaseFlies, PhaseNames, SlotNames}
use Rattle.node_tellings.specs.part_tie.Names.{AllKnown, BodyNames, DoNames, Known, NewsNames, PacketNames}
use Rattle.script_text.specs.declared.script.Script.{Script}
use Rattle.store_nodes.specs.ServerEvents.{takes as server_takes}
use Rattle.token_protocol.specs.Basics.{In}
use Rattle.version_model.specs.declared.act.Act.{Act}
use Rattle.version_model.specs.declared.work.Work.{Work}
use Rattle.wire_msg.specs.declared.body.Body.{Body}
use Rattle.wire_msg.specs.declared.body.Body.TheVariants as body
use Rattle.wire_msg.specs.declared.packet.Do.{Do}
use Rattle.wire_msg.specs.declared.packet.Do.TheVariants.{Begin, Deliver, Tick}
use Rattle.wire_msg.specs.declared.packet.Packet.{Packet}
use Rattle.world_base.specs.Cluster.{cluster_of, nodes_of, place_of}
use Rattle.world_base.specs.declared.estate.Estate.{Estate}
use Rattle.world_base.specs.declared.event.Event.{Event}
use Rattle.world_base.specs.declared.world.World.{World}
use Rattle.world_base.specs.Events.{node_of, what_of}
use Rattle.world_base.specs.Items.{items_of}
use Rattle.world_base.specs.NextWorld.{first_node, next_world, sent_at, start_world}
use Rattle.run_laws.proofs.world_index.Senders.{IsKind, IsSentBy}
use Rattle.run_laws.proofs.world_law.Turning.{next_keeps}
use Rattle.headline.specs.Moments.{moment}
use Rattle.run_laws.proofs.world_reads.EntriesStay.{at_place, in_set}
use Rattle.run_laws.proofs.world_law.Sent.{in_append}
use Rattle.run_laws.proofs.world_reads.Taking.{Took}
use Rattle.run_laws.specs.world_reads.Entries.{AnyNames, PartsNamed}
use Rattle.xfs_base.specs.declared.news.SlotNews.{SlotNews}
use Rattle.xfs_base.specs.declared.node.NodeId.{NodeId}
use Rattle.xfs_base.specs.declared.node.NodeId.TheVariants as nodes
use Rattle.xfs_base.specs.declared.segment.SegRef.{SegRef}
use Rattle.xfs_base.specs.declared.setup.Setup.{Setup}
use Rattle.xfs_base.proofs.Alls.{all_append}

-- ---- who sends

one_from : (node : NodeId) (e : Effect) → AllByRecursion (λ (p : Packet). p.from ≡ node) (packet_of node e)
one_from node (Send to said) = (refl, tt)
one_from node (Answer item answer) = tt
one_from node (Lose seg) = tt
one_from node (Does act) = tt

-- each packet that a node sends is from it
all_from : (node : NodeId) (es : List Effect) → AllByRecursion (λ (p : Packet). p.from ≡ node) (packets_of node es)
all_from node [] = tt
all_from node (e ∷ es) = all_append (λ (p : Packet). p.from ≡ node) (packet_of node e) (packets_of node es) (one_from node e) (all_from node es)

-- those that name no parts: clients, servers and the cleaner
abbrev NamesNone : NodeId → Type 0
NamesNone (nodes.Client n) = Unit {0}
NamesNone (nodes.Manager n) = ⊥
NamesNone (nodes.Server n) = Unit {0}
NamesNone nodes.Cleaner = Unit {0}
NamesNone nodes.Registry = ⊥

module _ (known : Known) where
  quiet_body : (node : NodeId) → NamesNone node → (m : Body) → IsSentBy node m → BodyNames known m
  quiet_body (nodes.Client n) none (body.CkptDone m) fact = absurd fact
  quiet_body (nodes.Client n) none (body.MapNews m) fact = absurd fact
  quiet_body (nodes.Client n) none (body.Welcome m) fact = absurd fact
  quiet_body (nodes.Client n) none _ fact = tt
  quiet_body (nodes.Server n) none (body.CkptDone m) fact = absurd fact
  quiet_body (nodes.Server n) none (body.MapNews m) fact = absurd fact
  quiet_body (nodes.Server n) none (body.Welcome m) fact = absurd fact
  quiet_body (nodes.Server n) none _ fact = tt
  quiet_body nodes.Cleaner none (body.CkptDone m) fact = absurd fact
  quiet_body nodes.Cleaner none (body.MapNews m) fact = absurd fact
  quiet_body nodes.Cleaner none (body.Welcome m) fact = absurd fact
  quiet_body nodes.Cleaner none _ fact = tt
  quiet_body (nodes.Manager n) none m fact = absurd none
  quiet_body nodes.Registry none m fact = absurd none

  -- what such a node sends names none, where it may send it
  quiet : (node : NodeId) → NamesNone node → (packets : List Packet) → AllByRecursion (λ (p : Packet). p.from ≡ node) packets
      → ((p : Packet) → In p packets → IsKind p) → AllByRecursion (PacketNames known) packets
  quiet node none [] all kinds = tt
  quiet node none (p ∷ packets) all kinds = (
    quiet_body node none p.body (subst (λ from. IsSentBy from p.body) all.0 (kinds p (inl refl))),
    quiet node none packets all.1 (λ q later. kinds q (inr later)),
  )

  -- ---- one node

  -- what a manager has in flight is known, where it acts that to be filed
  abbrev pub AnyFlies : AnyNode → Do → Type 0
  AnyFlies (any.Manager node) what = PhaseFlies known (any_step (any.Manager node) what).acts node.phase
  AnyFlies _ what = Unit {0}

  pub record NamesThen (x : AnyNode) (what : Do) : Type 0 where
    pub node : AnyNames known (any_step x what).node
    pub packets : AllByRecursion (PacketNames known) (any_step x what).packets

  names_then : (x : AnyNode) (what : Do) → AnyNames known x → DoNames known what → AnyFlies x what
      → ((p : Packet) → In p (any_step x what).packets → IsKind p) → NamesThen x what
  names_then (any.Client node) what names comes flies kinds = record {
    node = tt;
    packets = quiet (nodes.Client (lasting_of node.phase).number) tt (any_step (any.Client node) what).packets
        (all_from (nodes.Client (lasting_of node.phase).number) (client_takes node what).outs) kinds;
  }
  names_then (any.Manager node) what names comes flies kinds =
      (let t = managers.any_manager_names known node what names comes flies in record { node = t.node; packets = t.packets })
  names_then (any.Server node) what names comes flies kinds = record {
    node = tt;
    packets = quiet (nodes.Server node.number) tt (any_step (any.Server node) what).packets
        (all_from (nodes.Server node.number) (server_takes node what).outs) kinds;
  }
  names_then (any.Cleaner node) what names comes flies kinds = record {
    node = tt;
    packets = quiet nodes.Cleaner tt (any_step (any.Cleaner node) what).packets
        (all_from nodes.Cleaner (cleaner_takes node.peers node.phase what).outs) kinds;
  }
  names_then (any.Registry node) what names comes flies kinds =
      (let t = registries.any_registry_names known node what names comes in record { node = t.node; packets = t.packets })

  -- ---- an event

  sent_names : (clock : ℕ) (packets : List Packet) → AllByRecursion (PacketNames known) packets → (p : Packet) → In p (map (sent_at clock) packets)
      → PacketNames known p
  sent_names clock [] all p among = absurd among
  sent_names clock (x ∷ packets) all p (inl fact) = subst (PacketNames known) (sym fact) all.0
  sent_names clock (x ∷ packets) all p (inr later) = sent_names clock packets all.1 p later

  in_sent : (clock : ℕ) (packets : List Packet) (p : Packet) → In p packets → In (sent_at clock p) (map (sent_at clock) packets)
  in_sent clock [] p among = absurd among
  in_sent clock (x ∷ packets) p (inl fact) = inl (ap (sent_at clock) fact)
  in_sent clock (x ∷ packets) p (inr later) = inr (in_sent clock packets p later)

  in_behind : {X : Type 0} (xs ys : List X) (x : X) → In x ys → In x (xs ++ ys)
  in_behind [] ys x among = among
  in_behind (z ∷ xs) ys x among = inr (in_behind xs ys x among)

  module _ (w : World AnyNode) (event : Event) (stand : PartsNamed known w.nodes w.sent) (came : (p : Packet) → what_of event ≡ Deliver p → In p w.sent)
      (flies : (node : AnyNode) → Took w event node → AnyFlies node (what_of event))
      (kinds : (p : Packet) → In p (next_world any_step w event).sent → IsKind p) where
    abbrev next : World AnyNode
    next = next_world any_step w event

    comes : DoNames known (what_of event)
    comes = by (what_of event) refl
      where
        by : (what : Do) → what_of event ≡ what → DoNames known what
        by Begin fact = tt
        by (Deliver p) fact = stand.packets p (came p fact)
        by Tick fact = tt

    abbrev Named : List AnyNode → List Packet → List Act → Type 0
    Named nodes sent acts = next.nodes ≡ nodes → next.sent ≡ sent → next.acts ≡ acts → PartsNamed known nodes sent

    pub names_stay : PartsNamed known next.nodes next.sent
    names_stay = next_keeps any_step Named w event (λ nodes sent acts. stand) turned refl refl refl
      where
        turned : (place : ℕ) (node : AnyNode) (clock : ℕ) → place_of w.cluster (node_of event) ≡ Some place → slice_get w.nodes place ≡ Some node
            → Named (slice_set w.nodes place (any_step node (what_of event)).node) (w.sent ++ map (sent_at clock) (any_step node (what_of event)).packets)
            (w.acts ++ (any_step node (what_of event)).acts)
        turned place node clock at fact nodes sent acts =
            let packets = (any_step node (what_of event)).packets in
            let here = at_place w.nodes place node fact in
            let t : NamesThen node (what_of event) =
            names_then node (what_of event) (stand.holds node here) comes
            (flies node (record { place = place; placed = at; stands = fact; nodes = nodes; acts = acts }))
            (λ p among. kinds (sent_at clock p)
            (subst (In (sent_at clock p)) (sym sent) (in_behind w.sent (map (sent_at clock) packets) (sent_at clock p) (in_sent clock packets p among))))
            in
            record {
              holds = λ x among. ⊎_elim (λ same. subst (AnyNames known) (sym same) t.node) (λ before. stand.holds x before)
                  (in_set w.nodes place (any_step node (what_of event)).node x among);
              packets = λ p among. ⊎_elim (λ before. stand.packets p before) (λ new. sent_names clock packets t.packets p new)
                  (in_append w.sent (map (sent_at clock) packets) p among);
            }

-- ---- more is known

module _ (known later : Known) (more : (ref : SegRef) → known ref → later ref) where
  news_rise : (slots : List SlotNews) → AllByRecursion (NewsNames known) slots → AllByRecursion (NewsNames later) slots
  news_rise [] all = tt
  news_rise (x ∷ slots) all = (managers.all_rise known later more x.parts all.0, news_rise slots all.1)

  body_rises : (m : Body) → BodyNames known m → BodyNames later m
  body_rises (body.CkptDone m) fact = managers.all_rise known later more m.parts fact
  body_rises (body.MapNews m) fact = news_rise m.slots fact
  body_rises (body.Welcome m) fact = news_rise m.news.slots fact
  body_rises _ fact = tt

  any_rises : (node : AnyNode) → AnyNames known node → AnyNames later node
  any_rises (any.Client node) fact = tt
  any_rises (any.Manager node) fact = managers.phase_rises known later more node.phase fact
  any_rises (any.Server node) fact = tt
  any_rises (any.Cleaner node) fact = tt
  any_rises (any.Registry node) fact = registries.any_names_rise known later node more fact

  pub names_rise : (nodes : List AnyNode) (sent : List Packet) → PartsNamed known nodes sent → PartsNamed later nodes sent
  names_rise nodes sent fact =
      record { holds = λ node among. any_rises node (fact.holds node among); packets = λ p among. body_rises p.body (fact.packets p among) }

-- ---- what is named is known

module _ (known : Known) where
  each_known : (parts : List SegRef) → AllKnown known parts → (ref : SegRef) → In ref parts → known ref
  each_known [] all ref among = absurd among
  each_known (x ∷ parts) all ref (inl fact) = subst known (sym fact) all.0
  each_known (x ∷ parts) all ref (inr later) = each_known parts all.1 ref later

  -- what news named of a slot that is taken over
  abbrev pub TakenKnown : SlotPhase → Type 0
  TakenKnown (phase.Taking t) = (ref : SegRef) → In ref t.take.news.parts → known ref
  TakenKnown (phase.Active active) = Unit {0}
  TakenKnown (phase.Away epoch) = Unit {0}
  TakenKnown (phase.Broken epoch seg) = Unit {0}

  one_known : (p : SlotPhase) → SlotNames known p → TakenKnown p
  one_known (phase.Taking t) fact = λ ref among. each_known t.take.news.parts fact ref among
  one_known (phase.Active active) fact = tt
  one_known (phase.Away epoch) fact = tt
  one_known (phase.Broken epoch seg) fact = tt

  at_slot : (slots : List SlotPhase) (slot : ℕ) → AllByRecursion (SlotNames known) slots → SlotNames known (phase_at slots slot)
  at_slot [] slot all = tt
  at_slot (p ∷ slots) zero all = all.0
  at_slot (p ∷ slots) (suc slot) all = at_slot slots slot all.1

  pub taken_known : (p : Phase) (slot : ℕ) → (node : ManagerNode) → node.phase ≡ p → ManagerNames known node → TakenKnown (slot_in slot p)
  taken_known (managing.Serving s) slot node fact names =
      one_known (phase_at s.slots slot) (at_slot s.slots slot (subst (PhaseNames known) fact names).slots)
  taken_known (managing.Down kept) slot node fact names = tt
  taken_known (managing.Waiting kept hello) slot node fact names = tt

-- ---- the start

module _ (known : Known) where
  any_begins : (name : NodeId) (setup : Setup) (items : List Work) → AnyNames known (any_start name setup items)
  any_begins (nodes.Client number) setup items = tt
  any_begins (nodes.Manager number) setup items = managers.first_names known number setup items
  any_begins (nodes.Server number) setup items = tt
  any_begins nodes.Cleaner setup items = tt
  any_begins nodes.Registry setup items = registries.first_names known setup items

  first_ones : (script : Script) (names : List NodeId) (node : AnyNode) → In node (map (first_node any_start script) names) → AnyNames known node
  first_ones script [] node among = absurd among
  first_ones script (name ∷ names) node (inl fact) = subst (AnyNames known) (sym fact) (any_begins name script.setup (items_of script.lines name))
  first_ones script (name ∷ names) node (inr later) = first_ones script names node later

  -- before the first event nothing is named
  pub names_begin : (e : Estate AnyNode) → PartsNamed known (moment e 0).nodes (moment e 0).sent
  unfolding start_world
  names_begin e = record { holds = first_ones e.script (nodes_of (cluster_of e.script.setup)); packets = λ p among. absurd among }
