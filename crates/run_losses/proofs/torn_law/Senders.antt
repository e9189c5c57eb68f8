-- Each node sends under its own name, at each moment of a run; and a Missing that it sends, a server sends, of what it lacks then, in answer to a fetch.
use Rattle.std.proofs.Common.{◌≡◌, ℕ, Some, All, refl, ap, subst}
use Rattle.xfs_base.specs.declared.node.NodeId.{NodeId}
use Rattle.xfs_base.specs.declared.node.NodeId.TheVariants as names
use Rattle.node_logs.specs.client_log_tie.Owner.{Scene, ClientAgrees}
use Rattle.client_node.specs.declared.phase.Phase as client_phases
use Rattle.client_node.specs.declared.phase.Phase.TheVariants as phase
use Rattle.client_node.specs.Phases as clients
use Rattle.cleaner_node.specs.CleanerEvents as cleaners
use Rattle.core_world.specs.AnyNode.{any_step}
use Rattle.core_world.specs.declared.any_node.AnyNode.{AnyNode}
use Rattle.core_world.specs.declared.any_node.AnyNode.TheVariants as any
use Rattle.log_tie.specs.Setting.{Setting}
use Rattle.node_logs.specs.manager_log_tie.Owner.{ManagerAgrees}
use Rattle.manager_node.specs.declared.phase.Phase as manager_phases
use Rattle.manager_node.specs.declared.phase.Phase.TheVariants as managing
use Rattle.manager_node.specs.Events as managers
use Rattle.manager_node.specs.Phases.{lasting_of as manager_lasting}
use Rattle.node_slots.proofs.node_tie.StoreFrames.{packets_from}
use Rattle.node_slots.proofs.node_tie.StoreServer.{server_from}
use Rattle.registry_node.specs.Events as registry
use Rattle.wire_msg.specs.declared.packet.Do.{Do}
use Rattle.wire_msg.specs.declared.packet.Packet.{Packet}
use Rattle.world_base.specs.Cluster.{cluster_of, place_of}
use Rattle.world_base.specs.declared.estate.Estate.{Estate}
use Rattle.run_laws.proofs.world_law.Places.{behind}
use Rattle.headline.specs.Moments.{moment, node_in}
use Rattle.run_laws.specs.world_logs.Lines.{HasLines, setting}
use Rattle.headline.specs.Logs.{Role}
use Rattle.headline.specs.Logs.Role.{OfClient, OfCleaner, OfManager}
use Rattle.run_laws.specs.world_logs.Standing.{CleanerThere, ClientThere, ManagerThere, RegistryThere, ServerThere}

abbrev pub IsFrom : NodeId → Packet → Type 0
IsFrom name p = p.from ≡ name

module _ (g : Setting) (w : Scene) where
  client_number : (c : ℕ) (p : client_phases.Phase) → ClientAgrees g c w p → (clients.lasting_of p).number ≡ c
  client_number c (phase.Down l) agrees = agrees.0.number
  client_number c (phase.Opening l o) agrees = agrees.0.number
  client_number c (phase.Serving s) agrees = agrees.0.number

  manager_number : (j : ℕ) (p : manager_phases.Phase) → ManagerAgrees g j w p → (manager_lasting p).number ≡ j
  manager_number j (managing.Down kept) agrees = agrees.lasts.number
  manager_number j (managing.Waiting kept hello) agrees = agrees.lasts.number
  manager_number j (managing.Serving s) agrees = agrees.lasts.number

  client_from : (c : ℕ) (x : AnyNode) (what : Do) → ClientThere g (OfClient c) w c x → All (IsFrom (names.Client c)) (any_step x what).packets
  client_from c (any.Client node) what h =
      subst (λ n. All (IsFrom n) (any_step (any.Client node) what).packets) (ap names.Client (client_number c node.phase (h refl).agrees))
      (packets_from (names.Client (clients.lasting_of node.phase).number) (clients.takes node what).outs)
  client_from c (any.Manager node) what h = absurd h
  client_from c (any.Server node) what h = absurd h
  client_from c (any.Cleaner node) what h = absurd h
  client_from c (any.Registry node) what h = absurd h

  manager_from : (j : ℕ) (x : AnyNode) (what : Do) → ManagerThere g (OfManager j) w j x → All (IsFrom (names.Manager j)) (any_step x what).packets
  manager_from j (any.Client node) what h = absurd h
  manager_from j (any.Manager node) what h =
      subst (λ n. All (IsFrom n) (any_step (any.Manager node) what).packets) (ap names.Manager (manager_number j node.phase (h refl)))
      (packets_from (names.Manager (manager_lasting node.phase).number) (managers.happens node what).outs)
  manager_from j (any.Server node) what h = absurd h
  manager_from j (any.Cleaner node) what h = absurd h
  manager_from j (any.Registry node) what h = absurd h

  server_sends : (r : Role) (v : ℕ) (x : AnyNode) (what : Do) → ServerThere g r w v x → All (IsFrom (names.Server v)) (any_step x what).packets
  server_sends r v (any.Client node) what h = absurd h
  server_sends r v (any.Manager node) what h = absurd h
  server_sends r v (any.Server node) what h =
      subst (λ n. All (IsFrom n) (any_step (any.Server node) what).packets) (ap names.Server h.number) (server_from node what)
  server_sends r v (any.Cleaner node) what h = absurd h
  server_sends r v (any.Registry node) what h = absurd h

  cleaner_from : (r : Role) (x : AnyNode) (what : Do) → CleanerThere g r w x → All (IsFrom names.Cleaner) (any_step x what).packets
  cleaner_from r (any.Client node) what h = absurd h
  cleaner_from r (any.Manager node) what h = absurd h
  cleaner_from r (any.Server node) what h = absurd h
  cleaner_from r (any.Cleaner node) what h = packets_from names.Cleaner (cleaners.takes node.peers node.phase what).outs
  cleaner_from r (any.Registry node) what h = absurd h

  registry_from : (r : Role) (x : AnyNode) (what : Do) → RegistryThere g r w x → All (IsFrom names.Registry) (any_step x what).packets
  registry_from r (any.Client node) what h = absurd h
  registry_from r (any.Manager node) what h = absurd h
  registry_from r (any.Server node) what h = absurd h
  registry_from r (any.Cleaner node) what h = absurd h
  registry_from r (any.Registry node) what h = packets_from names.Registry (registry.takes node what).outs

module _ (base : Setting) (e : Estate AnyNode) (lines : HasLines base e) (count : ℕ) where
  -- a node of a name at a moment
  pub sends_as : (name : NodeId) (place : ℕ) (x : AnyNode) (what : Do) → place_of (cluster_of e.script.setup) name ≡ Some place
      → node_in (moment e count).nodes (place_of (cluster_of e.script.setup) name) ≡ Some x → All (IsFrom name) (any_step x what).packets
  sends_as (names.Client c) place x what at fact =
      let b = behind 0 e.script.setup.clients c place at in
      let l = lines (OfClient c) (b.some, b.within) in
      client_from (setting base e (OfClient c)) (l.scene count) c x what ((l.stands count).seen (names.Client c) x fact)
  sends_as (names.Manager j) place x what at fact =
      let b = behind e.script.setup.clients e.script.setup.managers j place at in
      let l = lines (OfManager j) (b.some, b.within) in
      manager_from (setting base e (OfManager j)) (l.scene count) j x what ((l.stands count).seen (names.Manager j) x fact)
  sends_as (names.Server v) place x what at fact =
      let l = lines OfCleaner tt in
      server_sends (setting base e OfCleaner) (l.scene count) OfCleaner v x what ((l.stands count).seen (names.Server v) x fact)
  sends_as names.Cleaner place x what at fact =
      let l = lines OfCleaner tt in
      cleaner_from (setting base e OfCleaner) (l.scene count) OfCleaner x what ((l.stands count).seen names.Cleaner x fact)
  sends_as names.Registry place x what at fact =
      let l = lines OfCleaner tt in
      registry_from (setting base e OfCleaner) (l.scene count) OfCleaner x what ((l.stands count).seen names.Registry x fact)
