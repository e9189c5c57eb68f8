-- What a client does keeps its log standing to its small world, and what it tells and stores is in range.
use Rattle.std.proofs.Common.{◌≡◌, ◌^◌, ℕ, ◌<◌, ◌≤◌, Bool, List, [], ◌++◌, Some, get_or, map, slice_get, slice_set, if◌then◌else◌, refl, ap, ◌∙◌}
use Rattle.std.specs.Prelude.{All}
use Rattle.node_logs.specs.client_log_tie.ClientEvents.{ClientGoes, ClientOwed, PhaseOwed}
use Rattle.node_logs.specs.client_log_tie.Owner.{Scene}
use Rattle.client_node.specs.declared.client.Client.{Client as ClientNode}
use Rattle.client_node.specs.Phases.{client_step, lasting_of}
use Rattle.core_world.specs.declared.any_node.AnyNode.{AnyNode}
use Rattle.core_world.specs.declared.any_node.AnyNode.TheVariants as any
use Rattle.node_tellings.proofs.entry_tie.ClientPhases.{any_client_tells}
use Rattle.node_tellings.specs.entry_tie.ClientTells.{ClientHolds}
use Rattle.node_tellings.specs.entry_tie.Told.{TellsTold}
use Rattle.group_map.specs.declared.group.Group.{Group}
use Rattle.log_tie.specs.Setting.{Setting}
use Rattle.token_protocol.specs.Basics.{In}
use Rattle.version_model.specs.declared.act.Act.{Act}
use Rattle.wire_msg.specs.declared.packet.Do.{Do}
use Rattle.wire_msg.specs.declared.packet.Do.TheVariants.{Begin, Deliver, Tick}
use Rattle.wire_msg.specs.declared.packet.Packet.{Packet}
use Rattle.world_base.specs.Cluster.{cluster_of, place_of}
use Rattle.world_base.specs.declared.cluster.Cluster.{Cluster}
use Rattle.world_base.specs.declared.world.World.{World}
use Rattle.world_base.specs.NextWorld.{sent_at}
use Rattle.headline.specs.Moments.{node_in}
use Rattle.run_laws.proofs.world_logs.Fits.{DoFits, PacketFits, StoresBytes, do_tells, for_client, in_range, own_stores, stores_bytes}
use Rattle.run_laws.specs.world_logs.NodeLaws.{NodeLaws}
use Rattle.run_laws.proofs.world_logs.Holding.{client_owed}
use Rattle.run_laws.specs.world_logs.Lines.{moment_then}
use Rattle.run_laws.proofs.world_logs.Owed.{in_those, number_is, of_log, phase_owed}
use Rattle.run_laws.proofs.world_logs.OwnerTurns.{owner_turn}
use Rattle.run_laws.specs.world_logs.Roles.{asker_by}
use Rattle.headline.specs.Logs.Role.{OfClient}
use Rattle.run_laws.proofs.world_logs.Room.{client_leaves_room}
use Rattle.run_laws.proofs.world_logs.Says.{OfLog}
use Rattle.run_laws.proofs.world_logs.Settings.{names_fit}
use Rattle.run_laws.specs.world_logs.Settings.{setting_of}
use Rattle.run_laws.specs.world_logs.Standing.{IsRoomy, OwnerSeen, Stands}
use Rattle.run_laws.proofs.world_logs.Start.{log_small}
use Rattle.run_laws.proofs.world_logs.Turns.{Next, turned}
use Rattle.headline.specs.Servers.{group_at}
use Rattle.xfs_base.specs.declared.node.NodeId.TheVariants.{Client}
use Rattle.xfs_base.specs.declared.setup.Setup.{Setup}

module _ (laws : NodeLaws) (base : Setting) (end : World AnyNode) (setup : Setup)
    (few : (id : ℕ) (group : Group) → group_at end id ≡ Some group → id < 2 ^ 32) (c : ℕ) (some : 0 < c) (eight : c ≤ 8) where
  abbrev k : Cluster
  k = cluster_of setup

  abbrev g : Setting
  g = setting_of base end setup.servers (OfClient c)

  module _ (nodes : List AnyNode) (sent : List Packet) (told : List Act) (place clock : ℕ) (what : Do)
      (fits : (q : Packet) → In q sent → PacketFits q.to q.body)
      (gets : (q : Packet) → what ≡ Deliver q → In q sent × (q.to ≡ Client c)) (at : place_of k (Client c) ≡ Some place) (node : ClientNode)
      (fact : slice_get nodes place ≡ Some (any.Client node)) (l : (v : Scene) × Stands g (OfClient c) v k nodes sent told) where
    abbrev packets : List Packet
    packets = (client_step node what).packets

    abbrev acts : List Act
    acts = (client_step node what).acts

    seen : OwnerSeen g l.0 c node.phase
    seen = l.1.seen (Client c) (any.Client node) (ap (node_in nodes) at ∙ fact) refl

    pub number : (lasting_of node.phase).number ≡ c
    number = number_is g c l.0 node.phase seen.agrees

    scans : PhaseOwed g l.0.net node.phase
    scans = phase_owed g c l.0 l.1.moment
        (λ m sent_so. names_fit base end setup.servers (OfClient c) few m
        (laws.events.maps g l.0.net l.1.moment m sent_so)) laws.logs.on laws.logs.down node.phase seen

    owed : (x : Do) → what ≡ x → ClientOwed g c l.0 node.phase x
    owed Begin same = tt
    owed Tick same = scans
    owed (Deliver q) same =
        (let h = gets q same in record { own = h.1; seen = l.1.facts q h.0; fits = for_client q.to q.body (fits q h.0); scans = scans })

    goes : ClientGoes g c l.0 (client_step node what)
    goes = laws.events.client.events g c refl (log_small c some eight) l.0 node what seen.agrees seen.written (owed what refl)

    room : IsRoomy goes.next.net
    room = client_leaves_room laws.logs.flies g c l.0 l.1.moment node what seen.agrees goes seen.room

    pub client_mine : (t : Bool) → Next g (OfClient c) l.0 l.1.moment (Client c) k (slice_set nodes place (any.Client (client_step node what).node))
        (sent ++ map (sent_at clock) packets) (told ++ (if t then acts else []))
    client_mine t =
        turned g (OfClient c) l.0 goes.next k nodes sent told l.1 (Client c) place clock at (any.Client node)
        (any.Client (client_step node what).node) fact packets (if t then acts else [])
        (owner_turn g c l.0 (client_step node what) goes room (if t then acts else []) (in_those t acts))

    -- what it holds then, and tells
    pub client_told : ClientHolds in_range node → DoFits (Client c) what → TellsTold (ClientHolds in_range) in_range (client_step node what)
    client_told holds comes =
        any_client_tells in_range node what holds (do_tells (Client c) what comes)
        (client_owed g c l.0 (laws.logs.held g l.0.net l.1.moment) (laws.told g l.0.net l.1.moment) acts node.phase seen.agrees)

    -- what it stores is bytes
    pub all_stored : All (λ (p : Packet). StoresBytes p.to p.body) packets
    all_stored i d less =
        let p : Packet = get_or packets i d in
        stores_bytes g (asker_by (OfClient c) goes.next) goes.next.net
        (laws.told g goes.next.net (moment_then l.1.moment goes.grown.runs)) p.from p.to p.body (goes.sends i d less) (own_stores g p.body (goes.own i d less))

    -- it stores to its own log alone
    pub all_own : All (λ (p : Packet). OfLog c p.body) packets
    all_own i d less = of_log g c refl (get_or packets i d).body (goes.own i d less)
