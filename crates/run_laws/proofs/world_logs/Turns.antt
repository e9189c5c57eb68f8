-- A node that has its turn: the moment after it stands to a small world to which the one before leads on.
use Rattle.std.proofs.Common.{◌≡◌, ◌⊎◌, ⊎_elim, ℕ, List, ◌++◌, Some, map, slice_get, slice_set, refl, sym, subst, ◌∙◌}
use Rattle.std.specs.Prelude.{All}
use Rattle.cleaner_node.specs.declared.cleaner.Phase.{Phase as CleanerPhase}
use Rattle.node_logs.specs.client_log_tie.Owner.{Scene}
use Rattle.client_node.specs.declared.phase.Phase.{Phase}
use Rattle.core_world.specs.declared.any_node.AnyNode.{AnyNode}
use Rattle.core_world.specs.declared.any_node.AnyNode.TheVariants as any
use Rattle.log_law.specs.Events.{Runs}
use Rattle.log_law.specs.Laws.{Moment}
use Rattle.log_protocol.specs.Tables as tables
use Rattle.log_tie.specs.Setting.{Setting}
use Rattle.manager_node.specs.declared.phase.Phase.{Phase as ManagerPhase}
use Rattle.node_logs.proofs.node_log_tie.Others.{same_or_other}
use Rattle.node_logs.specs.node_log_tie.RegistryEvents.{RegistrySeen}
use Rattle.node_logs.specs.node_log_tie.ServerEvents.{ServerSeen}
use Rattle.node_logs.specs.node_log_tie.Sight.{PacketSeen}
use Rattle.registry.specs.BoardState.{BoardState}
use Rattle.store_nodes.specs.declared.server.Server.{Server as ServerNode}
use Rattle.token_protocol.specs.Basics.{In}
use Rattle.version_model.specs.declared.act.Act.{Act}
use Rattle.version_model.specs.declared.act.Act.TheVariants as act
use Rattle.wire_msg.specs.declared.packet.Packet.{Packet}
use Rattle.world_base.specs.Cluster.{place_of}
use Rattle.world_base.specs.declared.cluster.Cluster.{Cluster}
use Rattle.world_base.specs.NextWorld.{sent_at}
use Rattle.run_laws.proofs.world_law.Laws.{one_node}
use Rattle.run_laws.proofs.world_law.Nodes as places
use Rattle.run_laws.proofs.world_law.Sent.{at_clock, in_append}
use Rattle.headline.specs.Moments.{node_in}
use Rattle.run_laws.proofs.world_logs.Lists.{in_after, in_before, in_map}
use Rattle.run_laws.proofs.world_logs.Leading.{LeadsOn}
use Rattle.run_laws.specs.world_logs.Lines.{GrowsBy, IsLeft, moment_then, PutsBy, StraightBy}
use Rattle.run_laws.specs.world_logs.Roles.{asker_by}
use Rattle.headline.specs.Logs.{Role, owner_by}
use Rattle.run_laws.proofs.world_logs.Standing.{stands_so}
use Rattle.run_laws.specs.world_logs.Standing.{CleanerAs, ClientAs, ManagerAs, Seen, Stands}
use Rattle.headline.specs.Deletions.{Deletes}
use Rattle.xfs_base.specs.declared.node.NodeId.{NodeId}
use Rattle.xfs_base.specs.declared.node.NodeId.TheVariants.{Client, Manager, Server, Cleaner, Registry}
use Rattle.xfs_base.specs.declared.segment.SegName.{SegName}

-- ---- the other nodes

module _ (g : Setting) (r : Role) (w v : Scene) (name : NodeId) where
  -- all nodes but the one of this name are seen as they were
  pub record Keeps : Type 0 where
    pub client : (d : ℕ) → (Client d ≡ name → ⊥) → (p : Phase) → ClientAs g w r d p → ClientAs g v r d p
    pub server : (u : ℕ) → (Server u ≡ name → ⊥) → (node : ServerNode) → ServerSeen g w.net u node → ServerSeen g v.net u node
    pub cleaner : (Cleaner ≡ name → ⊥) → (p : CleanerPhase) → CleanerAs g w r p → CleanerAs g v r p
    pub manager : (j : ℕ) → (Manager j ≡ name → ⊥) → (p : ManagerPhase) → ManagerAs g w r j p → ManagerAs g v r j p
    pub registry : (Registry ≡ name → ⊥) → (b : BoardState) → RegistrySeen g w.net b → RegistrySeen g v.net b

  pub all_keep : Keeps → (other : NodeId) (z : AnyNode) → (other ≡ name → ⊥) → Seen g r w other z → Seen g r v other z
  all_keep k (Client d) (any.Client node) differs h = k.client d differs node.phase h
  all_keep k (Client d) (any.Manager node) differs h = absurd h
  all_keep k (Client d) (any.Server node) differs h = absurd h
  all_keep k (Client d) (any.Cleaner node) differs h = absurd h
  all_keep k (Client d) (any.Registry node) differs h = absurd h
  all_keep k (Manager j) (any.Client node) differs h = absurd h
  all_keep k (Manager j) (any.Manager node) differs h = k.manager j differs node.phase h
  all_keep k (Manager j) (any.Server node) differs h = absurd h
  all_keep k (Manager j) (any.Cleaner node) differs h = absurd h
  all_keep k (Manager j) (any.Registry node) differs h = absurd h
  all_keep k (Server u) (any.Client node) differs h = absurd h
  all_keep k (Server u) (any.Manager node) differs h = absurd h
  all_keep k (Server u) (any.Server node) differs h = k.server u differs node h
  all_keep k (Server u) (any.Cleaner node) differs h = absurd h
  all_keep k (Server u) (any.Registry node) differs h = absurd h
  all_keep k Cleaner (any.Client node) differs h = absurd h
  all_keep k Cleaner (any.Manager node) differs h = absurd h
  all_keep k Cleaner (any.Server node) differs h = absurd h
  all_keep k Cleaner (any.Cleaner node) differs h = k.cleaner differs node.phase h
  all_keep k Cleaner (any.Registry node) differs h = absurd h
  all_keep k Registry (any.Client node) differs h = absurd h
  all_keep k Registry (any.Manager node) differs h = absurd h
  all_keep k Registry (any.Server node) differs h = absurd h
  all_keep k Registry (any.Cleaner node) differs h = absurd h
  all_keep k Registry (any.Registry node) differs h = k.registry differs node.board h

-- ---- what a turn owes

-- The node of a name is another after its turn, sends these packets, and did these acts, where it is the log's owner.
pub record Turn (g : Setting) (r : Role) (w v : Scene) (name : NodeId) (after : AnyNode) (packets : List Packet) (acts : List Act) : Type 0 where
  pub runs : Runs g w.net v.net
  pub own : owner_by r ≡ name → GrowsBy g r w v
  pub straight : owner_by r ≡ name → StraightBy r runs
  pub puts : owner_by r ≡ name → PutsBy r w.net v.net
  pub left : (owner_by r ≡ name → ⊥) → IsLeft w.net v.net
  pub there : Seen g r v name after
  pub others : Keeps g r w v name
  pub facts : (p : Packet) → PacketSeen g (asker_by r w) w.net p → PacketSeen g (asker_by r v) v.net p
  pub sends : All (PacketSeen g (asker_by r v) v.net) packets
  pub filed : (n : SegName) → tables.In n w.net.filed → tables.In n v.net.filed
  pub files : (n : SegName) → In (act.Filed n) acts → tables.In n v.net.filed
  pub only : (n : SegName) → tables.In n v.net.dropped → tables.In n w.net.dropped ⊎ Deletes n packets

-- ---- what becomes of the log

-- After an event of the node of this name the log stands to a scene to which the one before leads on.
pub record Next (g : Setting) (r : Role) (w : Scene) (at : Moment g w.net) (name : NodeId) (k : Cluster) (nodes : List AnyNode) (sent : List Packet)
    (told : List Act) : Type 0 where
  pub scene : Scene
  pub stands : Stands g r scene k nodes sent told
  pub leads : LeadsOn g r name w at scene stands.moment

-- what the owner did may be said otherwise
abbrev pub next_so : (g : Setting) (r : Role) (w : Scene) (at : Moment g w.net) (name : NodeId) (k : Cluster) (nodes : List AnyNode) (sent : List Packet)
    (a b : List Act) → a ≡ b → Next g r w at name k nodes sent a → Next g r w at name k nodes sent b
next_so g r w at name k nodes sent a b same n =
    record { scene = n.scene; stands = stands_so g r n.scene k nodes sent a b same n.stands; leads = n.leads }

module _ (g : Setting) (r : Role) (w v : Scene) (k : Cluster) (nodes : List AnyNode) (sent : List Packet) (told : List Act)
    (st : Stands g r w k nodes sent told)
    (name : NodeId) (place clock : ℕ) (at : place_of k name ≡ Some place) (x y : AnyNode) (fact : slice_get nodes place ≡ Some x) (packets : List Packet)
    (acts : List Act)
    (t : Turn g r w v name y packets acts) where
  abbrev nodes_now : List AnyNode
  nodes_now = slice_set nodes place y

  abbrev sent_now : List Packet
  sent_now = sent ++ map (sent_at clock) packets

  seen : (other : NodeId) (z : AnyNode) → node_in nodes_now (place_of k other) ≡ Some z → Seen g r v other z
  seen other z here = ⊎_elim
      (λ same. subst (λ n. Seen g r v n z) (sym same)
      (subst (λ q. Seen g r v name q)
      (one_node y z (sym (places.here k nodes name place at y x fact) ∙ subst (λ n. node_in nodes_now (place_of k n) ≡ Some z) same here)) t.there))
      (λ differs. all_keep g r w v name t.others other z differs (st.seen other z (sym (places.there k nodes name place at y other differs) ∙ here)))
      (same_or_other other name)

  deleted : (n : SegName) → Deletes n packets → Deletes n sent_now
  deleted n d = (sent_at clock d.0, in_after sent (map (sent_at clock) packets) (sent_at clock d.0) (in_map (sent_at clock) packets d.0 d.1), d.2)

  abbrev stood : Stands g r v k nodes_now sent_now (told ++ acts)
  stood = record {
    moment = moment_then st.moment t.runs;
    seen = seen;
    facts = λ q h. ⊎_elim (λ old. t.facts q (st.facts q old))
        (λ new. at_clock clock (PacketSeen g (asker_by r v) v.net) (PacketSeen g (asker_by r v) v.net) (λ p s. s) packets t.sends q new)
        (in_append sent (map (sent_at clock) packets) q h);
    filed = λ n h. ⊎_elim (λ old. t.filed n (st.filed n old)) (λ new. t.files n new) (in_append told acts (act.Filed n) h);
    deleted = λ n h. ⊎_elim (λ old. (let d = st.deleted n old in (d.0, in_before sent (map (sent_at clock) packets) d.0 d.1, d.2))) (λ new. deleted n new)
        (t.only n h);
  }

  pub turned : Next g r w st.moment name k nodes_now sent_now (told ++ acts)
  turned = record {
    scene = v;
    stands = stood;
    leads = record { runs = t.runs; joined = refl; own = t.own; straight = t.straight; puts = t.puts; left = t.left };
  }
