-- In every run no horizon that the registry keeps of a client's or the cleaner's log is beyond what that owner told to be filed: whatever others act to be
-- filed, what any node holds and tells of the log is no further than that.
use Rattle.std.proofs.Common.{◌≡◌, ⊎_elim, ℕ, zero, suc, ◌≤◌, List, [], ◌∷◌, ◌++◌, Option, None, Some, drop, length, map, take, slice_get, slice_set, if◌then◌else◌, append-nil, inl, inr, refl, sym, ap, subst, ◌∙◌, arith}
use Rattle.std.proofs.lemmas.List.{append_assoc}
use Rattle.std.proofs.Math.Seq.{drop-append_seam, drop-length}
use Rattle.std.specs.List.{AllByRecursion, fold}
use Rattle.core_world.specs.AnyNode.{any_start, any_step}
use Rattle.core_world.specs.declared.any_node.AnyNode.{AnyNode}
use Rattle.core_world.specs.declared.any_node.AnyNode.TheVariants as any
use Rattle.run_laws.proofs.filed_law.Reaching.{is_filed}
use Rattle.run_laws.proofs.filed_law.Telling as telling
use Rattle.run_laws.specs.filed_law.FiledUpto.{filed_upto}
use Rattle.run_laws.specs.filed_law.Told.{AnyReaches, HorizonWasFiled}
use Rattle.node_tellings.specs.filed_tie.Reach.{DoTells, PacketTells, Reach}
use Rattle.log_protocol.specs.Tables as tables
use Rattle.log_scan.specs.Transition.{least_horizon}
use Rattle.node_base.specs.Setups.{IsSetup}
use Rattle.registry.specs.Board.{board_slots}
use Rattle.registry.specs.BoardState.{BoardState}
use Rattle.script_text.specs.declared.script.Script.{Script}
use Rattle.registry_node.specs.declared.node.RegistryNode.{RegistryNode}
use Rattle.token_protocol.specs.Basics.{In}
use Rattle.version_model.specs.declared.act.Act.{Act}
use Rattle.version_model.specs.declared.work.Work.{Work}
use Rattle.wire_msg.specs.declared.packet.Packet.{Packet}
use Rattle.world_base.specs.Cluster.{cluster_of, nodes_of, place_of}
use Rattle.world_base.specs.declared.cluster.Cluster.{Cluster}
use Rattle.world_base.specs.declared.estate.Estate.{Estate}
use Rattle.world_base.specs.declared.event.Event.{Event}
use Rattle.world_base.specs.declared.event.Event.TheVariants as events
use Rattle.world_base.specs.declared.world.World.{World}
use Rattle.world_base.specs.Events.{node_of, what_of}
use Rattle.world_base.specs.NextWorld.{first_node, next_world, sent_at, start_world}
use Rattle.world_base.specs.Runs.{IsRun, Leads, MayHappen}
use Rattle.run_laws.proofs.world_law.Laws as tokens
use Rattle.run_laws.proofs.world_law.Turning.{next_cluster, next_keeps}
use Rattle.headline.specs.Moments.{moment, node_in}
use Rattle.run_laws.proofs.world_logs.OwnFiling.{owned, owned_itself}
use Rattle.headline.specs.Logs.{acts_by, acts_of, owns}
use Rattle.headline.specs.Horizons.{HorizonsReached, Reached, board_of}
use Rattle.run_laws.proofs.world_logs.HorizonTurns as turns
use Rattle.run_laws.proofs.world_logs.HorizonTurns.{no_acts}
use Rattle.run_laws.specs.filed_law.NodeLaws as filed
use Rattle.xfs_base.specs.declared.node.NodeId.{NodeId}
use Rattle.xfs_base.specs.declared.node.NodeId.TheVariants.{Client, Manager, Server, Cleaner, Registry}
use Rattle.xfs_base.specs.declared.setup.Setup.{Setup}

module _ (laws : tokens.NodeLaws) (below : filed.NodeLaws) (k : Cluster) (c : ℕ) where
  abbrev Tokens : List AnyNode → List Packet → List Act → Type 0
  Tokens nodes sent acts = turns.Tokens laws below k c nodes sent acts

  abbrev Told : List Act → List Act → List AnyNode → List Packet → Type 0
  Told told acts nodes sent = turns.Told laws below k c told acts nodes sent

  -- ---- an event

  module _ (w : World AnyNode) (cluster : w.cluster ≡ k) (told : List Act) (event : Event) (may : MayHappen w event) (tok : Tokens w.nodes w.sent w.acts)
      (now : Told told w.acts w.nodes w.sent) where
    -- what the owner did after it, by all acts
    abbrev told_with : List Act → List Act
    told_with acts = told ++ (if owns c (node_of event) then drop (length w.acts) acts else [])

    unchanged : told ≡ told_with w.acts
    unchanged = sym (ap (λ more. told ++ more) (no_acts (owns c (node_of event)) (drop (length w.acts) w.acts) (drop-length w.acts)) ∙ append-nil told)

    added : (more : List Act) → told_with (w.acts ++ more) ≡ told ++ (if owns c (node_of event) then more else [])
    added more = ap (λ x. told ++ (if owns c (node_of event) then x else [])) (drop-append_seam w.acts more)

    heard_by : (x : Event) → MayHappen w x → DoTells (owned c told w.acts) (what_of x)
    heard_by (events.Begin node) h = tt
    heard_by (events.Deliver packet) h = telling.all_got (PacketTells (owned c told w.acts)) w.sent h.0 packet now.1 h.1
    heard_by (events.Tick node) h = tt

    abbrev Kept : List AnyNode → List Packet → List Act → Type 0
    Kept nodes sent acts = Tokens nodes sent acts → Told (told_with acts) acts nodes sent

    all_turns : (place : ℕ) (x : AnyNode) (clock : ℕ) → place_of w.cluster (node_of event) ≡ Some place → slice_get w.nodes place ≡ Some x
        → Kept (slice_set w.nodes place (any_step x (what_of event)).node) (w.sent ++ map (sent_at clock) (any_step x (what_of event)).packets)
        (w.acts ++ (any_step x (what_of event)).acts)
    all_turns place x clock at fact good =
        let step = any_step x (what_of event) in
        subst (λ own. Told own (w.acts ++ step.acts) (slice_set w.nodes place step.node) (w.sent ++ map (sent_at clock) step.packets)) (sym (added step.acts))
        (turns.turn laws below k c w.nodes w.sent w.acts told now tok place clock (what_of event) (node_of event)
        (subst (λ cl. place_of cl (node_of event) ≡ Some place) cluster at)
        (heard_by event may) x fact good)

    event_keeps : Tokens (next_world any_step w event).nodes (next_world any_step w event).sent (next_world any_step w event).acts
        → Told (told ++ acts_of c w event) (next_world any_step w event).acts (next_world any_step w event).nodes (next_world any_step w event).sent
    event_keeps good = next_keeps any_step Kept w event (λ t. subst (λ own. Told own w.acts w.nodes w.sent) unchanged now) all_turns good

  -- ---- each front

  abbrev Stands : World AnyNode → List Act → Type 0
  Stands w told = Told told w.acts w.nodes w.sent

  front : (those : List Event) (count : ℕ) (w end : World AnyNode) (told : List Act) → w.cluster ≡ k → Leads any_step w those end → Tokens w.nodes w.sent w.acts
      → Stands w told → Stands (fold (next_world any_step) w (take count those)) (told ++ acts_by c w (take count those))
  front those zero w end told cluster leads tok now = subst (Stands w) (sym (append-nil told)) now
  front [] (suc count) w end told cluster leads tok now = subst (Stands w) (sym (append-nil told)) now
  front (event ∷ more) (suc count) w end told cluster leads tok now =
      let next : World AnyNode = next_world any_step w event in
      let tok_next = tokens.event_keeps laws k 0 (omega arith) w cluster event leads.0 tok in
      subst (Stands (fold (next_world any_step) next (take count more))) (append_assoc told (acts_of c w event) (acts_by c next (take count more)))
      (front more count next end (told ++ acts_of c w event) (next_cluster any_step w event ∙ cluster) leads.1 tok_next
      (event_keeps w cluster told event leads.0 tok now tok_next))

  -- ---- the start

  starts : (id : NodeId) (setup : Setup) (items : List Work) → AnyReaches (owned c [] []) (any_start id setup items)
  starts (Client number) setup items = below.client.starts (owned c [] []) number setup items
  starts (Manager number) setup items = below.manager.starts (owned c [] []) number setup items
  starts (Server number) setup items = tt
  starts Cleaner setup items = below.cleaner.starts (owned c [] []) setup items
  starts Registry setup items = below.registry.starts (owned c [] []) setup items

  first_ones : (script : Script) (ids : List NodeId) → AllByRecursion (AnyReaches (owned c [] [])) (map (first_node any_start script) ids)
  first_ones script [] = tt
  first_ones script (id ∷ ids) = (starts id script.setup _, first_ones script ids)

  start : (script : Script) → Stands (start_world any_start script) []
  unfolding start_world
  start script = (first_ones script (nodes_of (cluster_of script.setup)), tt)

-- ---- the registry's horizons

in_so : (acts : List Act) (x : Act) → tables.In x acts → In x acts
in_so [] x fact = absurd fact
in_so (act ∷ acts) x (inl fact) = inl fact
in_so (act ∷ acts) x (inr fact) = inr (in_so acts x fact)

reached : (acts : List Act) (c low : ℕ) → HorizonWasFiled acts c low → Reached acts low
reached acts c low (inl first) = inl first
reached acts c low (inr f) = inr (f.name, in_so acts _ f.among, f.near)

module _ (reach : Reach) (nodes : List AnyNode) (all : AllByRecursion (AnyReaches reach) nodes) where
  at_place : (o : Option ℕ) (x : AnyNode) → node_in nodes o ≡ Some x → AnyReaches reach x
  at_place None x fact = absurd cc
  at_place (Some place) x fact = telling.all_got (AnyReaches reach) nodes place x all fact

pub horizons_reached : tokens.NodeLaws → filed.NodeLaws → (e : Estate AnyNode) → IsSetup e.script.setup → IsRun any_step any_start e.script e.events e.world
    → HorizonsReached e
unfolding start_world
horizons_reached laws below e ok run count c opened b fact =
    reached own c (least_horizon c (board_slots b)) (telling.was_filed own c (least_horizon c (board_slots b)) upto (is_filed own c))
  where
    k : Cluster
    k = cluster_of e.script.setup

    w : World AnyNode
    w = moment e count

    own : List Act
    own = acts_by c (start_world any_start e.script) (take count e.events)

    some : 1 ≤ c
    some = ⊎_elim (λ client. client.0) (λ its. (let n = its in omega arith)) opened

    tok : (w.cluster ≡ k) × tokens.GoodWorld laws k 0 (omega arith) w
    tok = tokens.front laws e ok run count 0 (omega arith)

    stands : Stands laws below k c w own
    stands = front laws below k c e.events count (start_world any_start e.script) e.world [] refl run
        (tokens.front laws e ok run 0 0 (omega arith)).1 (start laws below k c e.script)

    registry : RegistryNode
    registry = tok.1.0.registry

    there : node_in w.nodes (place_of w.cluster Registry) ≡ Some (any.Registry registry)
    there = subst (λ cl. node_in w.nodes (place_of cl Registry) ≡ Some (any.Registry registry)) (sym tok.0) tok.1.1.placed.registry

    same : registry.board ≡ b
    same = tokens.one_node registry.board b (sym (ap board_of there) ∙ fact)

    low : least_horizon c (board_slots registry.board) ≤ suc (owned c own w.acts c)
    low = telling.low_reached (owned c own w.acts) registry
        (at_place (owned c own w.acts) w.nodes stands.0 (place_of w.cluster Registry) (any.Registry registry) there) c some

    upto : least_horizon c (board_slots b) ≤ suc (filed_upto own c)
    upto = subst (λ (x : BoardState). least_horizon c (board_slots x) ≤ suc (filed_upto own c)) same
        (subst (λ n. least_horizon c (board_slots registry.board) ≤ suc n) (owned_itself c own w.acts) low)
