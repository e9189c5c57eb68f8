-- What the registry does keeps each log standing to its small world, whose horizons tell of what was filed.
use Rattle.std.proofs.Common.{◌≡◌, ⊎_elim, ◌^◌, ℕ, ◌≤◌, ◌<◌, false, List, [], ◌++◌, Some, if◌then◌else◌, inl, inr, refl, arith}
use Rattle.node_logs.specs.client_log_tie.Owner.{Scene}
use Rattle.core_world.specs.declared.any_node.AnyNode.{AnyNode}
use Rattle.core_world.specs.declared.any_node.AnyNode.TheVariants as any
use Rattle.group_map.specs.declared.group.Group.{Group}
use Rattle.log_law.specs.Net.{opening}
use Rattle.log_tie.specs.Setting.{Setting}
use Rattle.node_base.specs.Setups.{IsSetup}
use Rattle.node_logs.proofs.node_log_tie.Going.{run_later}
use Rattle.node_logs.specs.node_log_tie.RegistryEvents.{Hears, IsFiled, NamesGroups, RegistryGoes, low_of}
use Rattle.registry_node.specs.declared.node.RegistryNode.{RegistryNode}
use Rattle.registry_node.specs.Events.{registry_step}
use Rattle.token_protocol.specs.Basics.{In}
use Rattle.version_model.specs.declared.act.Act.{Act}
use Rattle.version_model.specs.declared.act.Act.TheVariants as act
use Rattle.wire_msg.specs.declared.packet.Do.{Do}
use Rattle.wire_msg.specs.declared.packet.Do.TheVariants.{Begin, Deliver, Tick}
use Rattle.wire_msg.specs.declared.packet.Packet.{Packet}
use Rattle.world_base.specs.Cluster.{place_of}
use Rattle.world_base.specs.declared.cluster.Cluster.{Cluster}
use Rattle.world_base.specs.declared.world.World.{World}
use Rattle.run_laws.proofs.world_law.Sent.{in_append}
use Rattle.headline.specs.Moments.{node_in}
use Rattle.run_laws.proofs.world_logs.Goods as goods
use Rattle.run_laws.specs.world_logs.NodeLaws.{NodeLaws}
use Rattle.run_laws.proofs.world_logs.Roles.{high_log}
use Rattle.headline.specs.Logs.{Role, log_by, owns, renews}
use Rattle.headline.specs.Horizons.{Reached}
use Rattle.run_laws.specs.world_logs.Roles.{asker_by}
use Rattle.headline.specs.Logs.Role.{OfClient, OfCleaner, OfManager}
use Rattle.headline.specs.Servers.{group_at}
use Rattle.run_laws.specs.world_logs.Standing.{Stands}
use Rattle.xfs_base.specs.declared.node.NodeId.TheVariants.{Registry}
use Rattle.xfs_base.specs.declared.setup.Setup.{Setup}

module _ (laws : NodeLaws) (base : Setting) (end : World AnyNode) (setup : Setup) (ok : IsSetup setup)
    (few : (id : ℕ) (group : Group) → group_at end id ≡ Some group → id < 2 ^ 32) where
  abbrev k : Cluster
  k = goods.k laws base end setup ok few

  abbrev g : Role → Setting
  g r = goods.g laws base end setup ok few r

  abbrev There : Role → Type 0
  There r = goods.There laws base end setup ok few r

  module _ (nodes : List AnyNode) (sent : List Packet) (told : ℕ → List Act) (good : goods.Good laws base end setup ok few nodes sent told) (what : Do)
      (gets : (q : Packet) → what ≡ Deliver q → In q sent) (node : RegistryNode) (here : node_in nodes (place_of k Registry) ≡ Some (any.Registry node))
      (named : (r : Role) → NamesGroups (g r) (registry_step node what).node.board.groups)
      (reached : (r : Role) → There r → renews r ≡ false
      → Reached (told (log_by r) ++ (if owns (log_by r) Registry then (registry_step node what).acts else []))
      (low_of (g r) (registry_step node what).node.board)) where
    owed : (r : Role) (l : (v : Scene) × Stands (g r) r v k nodes sent (told (log_by r))) (x : Do) → what ≡ x → Hears (g r) (asker_by r l.0) l.0.net x
    owed r l Begin same = tt
    owed r l Tick same = tt
    owed r l (Deliver q) same = l.1.facts q (gets q same)

    -- of a log of which horizons tell
    low_goes : (r : Role) (h : There r) → renews r ≡ false → log_by r ≤ 9
        → RegistryGoes (g r) (asker_by r (good.logs r h).0) (good.logs r h).0.net node what
    low_goes r h keeps low_log =
        laws.events.registry.events (g r) (asker_by r l.0) l.0.net node what low_log (l.1.seen Registry (any.Registry node) here) (owed r l what refl)
        (record { named = named r; filed = filed (reached r h keeps) })
      where
        l : (v : Scene) × Stands (g r) r v k nodes sent (told (log_by r))
        l = good.logs r h

        low : 1 ≤ l.0.net.low
        low = (run_later (g r) (opening (g r) l.1.moment.map) l.0.net l.1.moment.run).low

        filed : Reached (told (log_by r) ++ (if owns (log_by r) Registry then (registry_step node what).acts else []))
            (low_of (g r) (registry_step node what).node.board)
            → IsFiled l.0.net (low_of (g r) (registry_step node what).node.board)
        filed (inl lowest) = inl (let m = low in omega arith)
        filed (inr f) = inr (f.0, ⊎_elim (λ h_. l.1.filed f.0 h_) (λ h_. absurd h_) (in_append (told (log_by r)) [] (act.Filed f.0) f.1), f.2)

    pub registry_goes : (r : Role) (h : There r) → RegistryGoes (g r) (asker_by r (good.logs r h).0) (good.logs r h).0.net node what
    registry_goes (OfClient c) h = low_goes (OfClient c) h refl (let m = goods.eight laws base end setup ok few c h.1 in omega arith)
    registry_goes OfCleaner h = low_goes OfCleaner h refl (omega arith)
    registry_goes (OfManager j) h =
        (let l = good.logs (OfManager j) h in
        laws.events.registry_above (g (OfManager j)) (asker_by (OfManager j) l.0) l.0.net node what (high_log j h.0)
        (l.1.seen Registry (any.Registry node) here) (owed (OfManager j) l what refl) (named (OfManager j)))
