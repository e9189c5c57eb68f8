-- Each event keeps it that nothing is held or told of logs but what was filed; so it is of each run, and so are the horizons that the registry keeps.
use Rattle.std.proofs.Common.{◌≡◌, ℕ, zero, suc, ◌≤◌, List, [], ◌∷◌, ◌++◌, Some, None, map, slice_get, slice_set, unwrap_or, sym, ap, subst, inl, inr, arith}
use Rattle.std.specs.List.{AllByRecursion}
use Rattle.core_world.specs.AnyNode.{any_start, any_step}
use Rattle.core_world.specs.declared.any_node.AnyNode.{AnyNode}
use Rattle.core_world.specs.declared.any_node.AnyNode.TheVariants as any
use Rattle.log_protocol.specs.Tables.{In}
use Rattle.log_scan.specs.Transition.{least_horizon}
use Rattle.registry.specs.Board.{slot_news, board_slots}
use Rattle.script_text.specs.declared.script.Script.{Script}
use Rattle.registry_node.specs.declared.node.RegistryNode.{RegistryNode}
use Rattle.version_model.specs.declared.act.Act.{Act}
use Rattle.version_model.specs.declared.work.Work.{Work}
use Rattle.wire_msg.specs.declared.packet.Do.{Do}
use Rattle.wire_msg.specs.declared.packet.Packet.{Packet}
use Rattle.world_base.specs.Cluster.{cluster_of, nodes_of}
use Rattle.world_base.specs.declared.event.Event.{Event}
use Rattle.world_base.specs.declared.event.Event.TheVariants.{Begin, Deliver, Tick}
use Rattle.world_base.specs.declared.world.World.{World}
use Rattle.world_base.specs.Events.{what_of}
use Rattle.world_base.specs.NextWorld.{first_node, next_world, sent_at, start_world}
use Rattle.world_base.specs.Runs.{Leads, MayHappen}
use Rattle.run_laws.proofs.world_law.Turning.{next_keeps}
use Rattle.xfs_base.specs.declared.node.NodeId.{NodeId}
use Rattle.xfs_base.specs.declared.node.NodeId.TheVariants as nodes
use Rattle.xfs_base.specs.declared.setup.Setup.{Setup}
use Rattle.xfs_base.proofs.Alls.{all_append}
use Rattle.node_tellings.specs.filed_tie.Reach.{Reach, Rises, ActsReach, SlotsReach, DoTells, PacketTells, TellsFiled}
use Rattle.node_tellings.specs.filed_tie.RegistryReach.{RegistryReaches}
use Rattle.node_tellings.proofs.filed_tie.Rising.{body_rises, least_low}
use Rattle.run_laws.specs.filed_law.FiledUpto.{filed_upto}
use Rattle.run_laws.proofs.filed_law.FiledUpto.{IsFiledUpto}
pub use Rattle.run_laws.specs.filed_law.NodeLaws.{NodeLaws}
use Rattle.run_laws.specs.filed_law.Told.{AnyReaches, ToldWasFiled, HorizonWasFiled, RunsStartTold, EventsKeepTold, EveryRunToldWasFiled, ToldHorizonsWereFiled}
use Rattle.run_laws.proofs.filed_law.Reaching.{filed_rises, filed_reached, is_filed}

-- ---- lists

module _ {X : Type 0} (P : X → Type 0) where
  pub all_got : (xs : List X) (place : ℕ) (x : X) → AllByRecursion P xs → slice_get xs place ≡ Some x → P x
  all_got [] place x all fact = (let clash : None ≡ Some x = fact in absurd (cc))
  all_got (y ∷ xs) zero x all fact = subst P (ap (λ o. unwrap_or o y) fact) all.0
  all_got (y ∷ xs) (suc place) x all fact = all_got xs place x all.1 fact

  pub all_set : (xs : List X) (place : ℕ) (x : X) → AllByRecursion P xs → P x → AllByRecursion P (slice_set xs place x)
  all_set [] place x all h = tt
  all_set (y ∷ xs) zero x all h = (h, all.1)
  all_set (y ∷ xs) (suc place) x all h = (all.0, all_set xs place x all.1 h)

  all_among : (xs : List X) (x : X) → AllByRecursion P xs → In x xs → P x
  all_among [] x all fact = absurd fact
  all_among (y ∷ xs) x all (inl fact) = subst P (sym fact) all.0
  all_among (y ∷ xs) x all (inr later) = all_among xs x all.1 later

-- ---- nodes of any kind

module _ (laws : NodeLaws) where
  any_starts : (reach : Reach) (node : NodeId) (setup : Setup) (items : List Work) → AnyReaches reach (any_start node setup items)
  any_starts reach (nodes.Client number) setup items = laws.client.starts reach number setup items
  any_starts reach (nodes.Manager number) setup items = laws.manager.starts reach number setup items
  any_starts reach (nodes.Server number) setup items = tt
  any_starts reach nodes.Cleaner setup items = laws.cleaner.starts reach setup items
  any_starts reach nodes.Registry setup items = laws.registry.starts reach setup items

  module _ (reach later : Reach) (rises : Rises reach later) where
    any_rises : (node : AnyNode) → AnyReaches reach node → AnyReaches later node
    any_rises (any.Client node) h = laws.client.stays reach later node rises h
    any_rises (any.Manager node) h = laws.manager.stays reach later node rises h
    any_rises (any.Server node) h = tt
    any_rises (any.Cleaner node) h = laws.cleaner.stays reach later node rises h
    any_rises (any.Registry node) h = laws.registry.stays reach later node rises h

    pub nodes_rise : (xs : List AnyNode) → AllByRecursion (AnyReaches reach) xs → AllByRecursion (AnyReaches later) xs
    nodes_rise [] all = tt
    nodes_rise (x ∷ xs) all = (any_rises x all.0, nodes_rise xs all.1)

    pub packets_rise : (ps : List Packet) → AllByRecursion (PacketTells reach) ps → AllByRecursion (PacketTells later) ps
    packets_rise [] all = tt
    packets_rise (p ∷ ps) all = (body_rises reach later rises p.from p.body all.0, packets_rise ps all.1)

    any_tells : (node : AnyNode) (what : Do) → AnyReaches reach node → DoTells reach what → ActsReach later (any_step node what).acts
        → TellsFiled AnyReaches later (any_step node what)
    any_tells (any.Client node) what h tells acts =
        (let t = laws.client.events reach later node what rises h tells acts in record { node = t.node; packets = t.packets })
    any_tells (any.Manager node) what h tells acts =
        (let t = laws.manager.events reach later node what rises h tells acts in record { node = t.node; packets = t.packets })
    any_tells (any.Server node) what h tells acts =
        (let t = laws.server reach later node what rises h tells acts in record { node = t.node; packets = t.packets })
    any_tells (any.Cleaner node) what h tells acts =
        (let t = laws.cleaner.events reach later node what rises h tells acts in record { node = t.node; packets = t.packets })
    any_tells (any.Registry node) what h tells acts =
        (let t = laws.registry.events reach later node what rises h tells acts in record { node = t.node; packets = t.packets })

  -- ---- an event

  abbrev Told : List AnyNode → List Packet → List Act → Type 0
  Told all sent acts = AllByRecursion (AnyReaches (filed_upto acts)) all × AllByRecursion (PacketTells (filed_upto acts)) sent

  clocked : (reach : Reach) (clock : ℕ) (ps : List Packet) → AllByRecursion (PacketTells reach) ps → AllByRecursion (PacketTells reach) (map (sent_at clock) ps)
  clocked reach clock [] all = tt
  clocked reach clock (p ∷ ps) all = (all.0, clocked reach clock ps all.1)

  delivered : (w : World AnyNode) (event : Event) → MayHappen w event → AllByRecursion (PacketTells (filed_upto w.acts)) w.sent
      → DoTells (filed_upto w.acts) (what_of event)
  delivered w (Begin node) may all = tt
  delivered w (Deliver packet) may all = all_got (PacketTells (filed_upto w.acts)) w.sent may.0 packet all may.1
  delivered w (Tick node) may all = tt

  module _ (w : World AnyNode) (told : ToldWasFiled w) (what : Do) (tells : DoTells (filed_upto w.acts) what) where
    turned : (place : ℕ) (node : AnyNode) (clock : ℕ) → slice_get w.nodes place ≡ Some node
        → Told (slice_set w.nodes place (any_step node what).node) (w.sent ++ map (sent_at clock) (any_step node what).packets)
        (w.acts ++ (any_step node what).acts)
    turned place node clock fact =
        let reach : Reach = filed_upto w.acts in
        let later : Reach = filed_upto (w.acts ++ (any_step node what).acts) in
        let rises : Rises reach later = filed_rises w.acts (any_step node what).acts in
        let t : TellsFiled AnyReaches later (any_step node what) =
        any_tells reach later rises node what (all_got (AnyReaches reach) w.nodes place node told.nodes fact) tells
        (filed_reached w.acts (any_step node what).acts)
        in (
          all_set (AnyReaches later) w.nodes place (any_step node what).node (nodes_rise reach later rises w.nodes told.nodes) t.node,
          all_append (PacketTells later) w.sent (map (sent_at clock) (any_step node what).packets) (packets_rise reach later rises w.sent told.packets)
              (clocked later clock (any_step node what).packets t.packets),
        )

  pub event_keeps : EventsKeepTold
  event_keeps w event may told =
      let k : Told (next_world any_step w event).nodes (next_world any_step w event).sent (next_world any_step w event).acts =
      next_keeps any_step Told w event (told.nodes, told.packets)
      (λ place node clock at fact. turned w told (what_of event) (delivered w event may told.packets) place node clock fact)
      in
      record { nodes = k.0; packets = k.1 }

  -- ---- runs

  first_ones : (script : Script) (ids : List NodeId) → AllByRecursion (AnyReaches (filed_upto [])) (map (first_node any_start script) ids)
  first_ones script [] = tt
  first_ones script (id ∷ ids) = (any_starts (filed_upto []) id script.setup _, first_ones script ids)

  pub start_told : RunsStartTold
  unfolding start_world
  start_told script = record { nodes = first_ones script (nodes_of (cluster_of script.setup)); packets = tt }

  leads_on : (events : List Event) (w end : World AnyNode) → Leads any_step w events end → ToldWasFiled w → ToldWasFiled end
  leads_on [] w end leads told = subst ToldWasFiled leads told
  leads_on (event ∷ events) w end leads told = leads_on events (next_world any_step w event) end leads.1 (event_keeps w event leads.0 told)

  pub run_told : EveryRunToldWasFiled
  run_told script events w run = leads_on events (start_world any_start script) w run (start_told script)

-- ---- horizons

module _ (reach : Reach) (registry : RegistryNode) (h : RegistryReaches reach registry) where
  news_reach : SlotsReach reach (board_slots registry.board)
  news_reach =
      let upper : SlotsReach reach (map (slot_news registry.board) (4 ∷ 5 ∷ 6 ∷ 7 ∷ [])) =
      (h 4 (omega arith), (h 5 (omega arith), (h 6 (omega arith), (h 7 (omega arith), tt))))
      in
      (h 0 (omega arith), (h 1 (omega arith), (h 2 (omega arith), (h 3 (omega arith), upper))))

  pub low_reached : (log : ℕ) → 1 ≤ log → least_horizon log (board_slots registry.board) ≤ suc (reach log)
  low_reached log some = least_low reach log (board_slots registry.board) some (omega arith) news_reach

pub was_filed : (acts : List Act) (log low : ℕ) → low ≤ suc (filed_upto acts log) → IsFiledUpto acts log → HorizonWasFiled acts log low
was_filed acts log low upto (inl none) = inl (omega (arith, upto, none))
was_filed acts log low upto (inr f) = inr (record { name = f.name; among = f.among; own = f.own; near = (let at = f.numbered in omega (arith, upto, at)) })

pub horizons_filed : ToldHorizonsWereFiled
horizons_filed w told registry log among some =
    was_filed w.acts log (least_horizon log (board_slots registry.board))
    (low_reached (filed_upto w.acts) registry (all_among (AnyReaches (filed_upto w.acts)) w.nodes (any.Registry registry) told.nodes among) log some)
    (is_filed w.acts log)
