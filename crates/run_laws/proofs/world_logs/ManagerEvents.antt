-- What a manager does keeps its log standing to its small world, and what it sends is in range.
use Rattle.std.proofs.Common.{◌≡◌, ◌^◌, ℕ, ◌<◌, Bool, List, [], ◌++◌, Some, get_or, map, slice_get, slice_set, if◌then◌else◌, refl, ap, ◌∙◌}
use Rattle.std.specs.Prelude.{All}
use Rattle.node_logs.specs.client_log_tie.Owner.{Scene}
use Rattle.core_world.specs.declared.any_node.AnyNode.{AnyNode}
use Rattle.core_world.specs.declared.any_node.AnyNode.TheVariants as any
use Rattle.group_map.specs.declared.group.Group.{Group}
use Rattle.log_tie.specs.Setting.{Setting}
use Rattle.node_logs.specs.manager_log_tie.Owner.{ManagerAgrees, its_asker}
use Rattle.node_logs.specs.manager_log_tie.OwnerEvents.{ManagerGoes, ManagerOwed}
use Rattle.manager_node.specs.declared.manager.Manager.{Manager as ManagerNode}
use Rattle.manager_node.specs.declared.phase.Phase.{Phase}
use Rattle.manager_node.specs.declared.phase.Phase.TheVariants.{Down, Waiting, Serving as Serves}
use Rattle.manager_node.specs.Events.{manager_step}
use Rattle.manager_node.specs.Phases.{lasting_of}
use Rattle.token_protocol.specs.Basics.{In}
use Rattle.version_model.specs.declared.act.Act.{Act}
use Rattle.wire_msg.specs.declared.packet.Do.{Do}
use Rattle.wire_msg.specs.declared.packet.Do.TheVariants.{Begin, Deliver, Tick}
use Rattle.wire_msg.specs.declared.packet.Packet.{Packet}
use Rattle.world_base.specs.Cluster.{cluster_of, place_of}
use Rattle.world_base.specs.declared.cluster.Cluster.{Cluster}
use Rattle.world_base.specs.declared.world.World.{World}
use Rattle.world_base.specs.NextWorld.{sent_at}
use Rattle.headline.specs.Moments.{node_in}
use Rattle.run_laws.proofs.world_logs.Fits.{PacketFits, for_manager, manager_sends, own_stores, stores_bytes}
use Rattle.run_laws.specs.world_logs.NodeLaws.{NodeLaws}
use Rattle.run_laws.specs.world_logs.Lines.{moment_then}
use Rattle.run_laws.proofs.world_logs.Managing.{asks_for_maps}
use Rattle.run_laws.proofs.world_logs.Owed.{in_those, of_log}
use Rattle.run_laws.proofs.world_logs.OwnerTurns.{manager_owner_turn}
use Rattle.headline.specs.Logs.{log_by}
use Rattle.headline.specs.Logs.Role.{OfManager}
use Rattle.run_laws.proofs.world_logs.Says.{OfLog}
use Rattle.run_laws.specs.world_logs.Settings.{setting_of}
use Rattle.run_laws.specs.world_logs.Standing.{Stands}
use Rattle.run_laws.proofs.world_logs.Turns.{Next, turned}
use Rattle.headline.specs.Servers.{group_at}
use Rattle.xfs_base.specs.declared.node.NodeId.TheVariants.{Manager}
use Rattle.xfs_base.specs.declared.setup.Setup.{Setup}

its_number : (g : Setting) (j : ℕ) (w : Scene) (p : Phase) → ManagerAgrees g j w p → (lasting_of p).number ≡ j
its_number g j w (Down kept) h = h.lasts.number
its_number g j w (Waiting kept hello) h = h.lasts.number
its_number g j w (Serves s) h = h.lasts.number

module _ (laws : NodeLaws) (base : Setting) (end : World AnyNode) (setup : Setup)
    (few : (id : ℕ) (group : Group) → group_at end id ≡ Some group → id < 2 ^ 32) (j : ℕ) (some : 0 < j) where
  abbrev k : Cluster
  k = cluster_of setup

  abbrev g : Setting
  g = setting_of base end setup.servers (OfManager j)

  module _ (nodes : List AnyNode) (sent : List Packet) (told : List Act) (place clock : ℕ) (what : Do)
      (fits : (q : Packet) → In q sent → PacketFits q.to q.body)
      (gets : (q : Packet) → what ≡ Deliver q → In q sent × (q.to ≡ Manager j)) (at : place_of k (Manager j) ≡ Some place) (node : ManagerNode)
      (fact : slice_get nodes place ≡ Some (any.Manager node)) (l : (v : Scene) × Stands g (OfManager j) v k nodes sent told) where
    abbrev packets : List Packet
    packets = (manager_step node what).packets

    abbrev acts : List Act
    acts = (manager_step node what).acts

    seen : ManagerAgrees g j l.0 node.phase
    seen = l.1.seen (Manager j) (any.Manager node) (ap (node_in nodes) at ∙ fact) refl

    pub number : (lasting_of node.phase).number ≡ j
    number = its_number g j l.0 node.phase seen

    owed : (x : Do) → what ≡ x → ManagerOwed g j l.0 x
    owed Begin same = tt
    owed Tick same = tt
    owed (Deliver q) same = (let h = gets q same in record { own = h.1; seen = l.1.facts q h.0; fits = for_manager q.to q.body (fits q h.0) })

    goes : ManagerGoes g j l.0 (manager_step node what)
    goes = laws.events.manager.events g j refl some refl l.0 node what seen (owed what refl)

    pub manager_mine : (t : Bool) → Next g (OfManager j) l.0 l.1.moment (Manager j) k (slice_set nodes place (any.Manager (manager_step node what).node))
        (sent ++ map (sent_at clock) packets) (told ++ (if t then acts else []))
    manager_mine t =
        turned g (OfManager j) l.0 goes.next k nodes sent told l.1 (Manager j) place clock at (any.Manager node)
        (any.Manager (manager_step node what).node) fact packets (if t then acts else [])
        (manager_owner_turn g j l.0 (asks_for_maps g j l.0 node.phase seen) (manager_step node what) goes (if t then acts else []) (in_those t acts))

    pub all_fit : All (λ (p : Packet). PacketFits p.to p.body) packets
    all_fit i d less =
        let p : Packet = get_or packets i d in
        manager_sends p.to p.body (goes.fits i d less)
        (stores_bytes g (its_asker j goes.next) goes.next.net (laws.told g goes.next.net (moment_then l.1.moment goes.grown.runs)) p.from p.to p.body
        (goes.sends i d less) (own_stores g p.body (goes.own i d less)))

    -- it stores to its own log alone
    pub all_own : All (λ (p : Packet). OfLog (log_by (OfManager j)) p.body) packets
    all_own i d less = of_log g (log_by (OfManager j)) refl (get_or packets i d).body (goes.own i d less)
