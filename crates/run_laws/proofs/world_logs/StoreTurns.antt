-- A server, the registry or the cleaner has its turn: the small world of a log runs on with it.
use Rattle.std.proofs.Common.{◌≡◌, ◌⊎◌, ⊎_elim, ℕ, [], inl, inr, refl, sym, ap, subst}
use Rattle.cleaner_node.specs.declared.cleaner.Phase.{Phase as CleanerPhase}
use Rattle.cleaner_node.specs.CleanerEvents.{cleaner_step}
use Rattle.cleaner_node.specs.declared.cleaner.Cleaner.{Cleaner as CleanerNode}
use Rattle.node_logs.specs.client_log_tie.Owner.{Scene}
use Rattle.client_node.specs.declared.phase.Phase.{Phase}
use Rattle.core_world.specs.declared.any_node.AnyNode.TheVariants as any
use Rattle.log_law.specs.Events.{Runs}
use Rattle.log_law.specs.Net.{Net}
use Rattle.log_protocol.specs.Tables as tables
use Rattle.log_tie.specs.Setting.{Setting}
use Rattle.manager_node.specs.declared.phase.Phase.{Phase as ManagerPhase}
use Rattle.node_logs.proofs.node_log_tie.Going.{run_later}
use Rattle.node_logs.proofs.node_log_tie.Sights.{seen_later}
use Rattle.node_logs.specs.node_log_tie.CleanerEvents.{CleanerGoes, CleanerSeen}
use Rattle.node_logs.specs.node_log_tie.RegistryEvents.{RegistryGoes}
use Rattle.node_logs.specs.node_log_tie.ServerEvents.{ServerGoes}
use Rattle.node_logs.specs.node_log_tie.Sight.{PacketSeen}
use Rattle.node_logs.proofs.node_log_tie.Sight.{Later}
use Rattle.registry_node.specs.declared.node.RegistryNode.{RegistryNode}
use Rattle.store_nodes.specs.declared.server.Server.{Server as ServerNode}
use Rattle.registry_node.specs.Events.{registry_step}
use Rattle.store_nodes.specs.ServerEvents.{server_step}
use Rattle.wire_msg.specs.declared.packet.Do.{Do}
use Rattle.wire_msg.specs.declared.packet.Packet.{Packet}
use Rattle.run_laws.proofs.world_logs.Frames.{cleaner_owner_still, cleaner_still, client_still, manager_still, registry_still, room_still, server_still}
use Rattle.run_laws.proofs.world_logs.Leading.{its_of, left_by}
use Rattle.run_laws.proofs.world_logs.Lists.{in_listed}
use Rattle.run_laws.proofs.world_logs.Roles.{no_registry, no_server}
use Rattle.run_laws.specs.world_logs.Roles.{asker_by}
use Rattle.run_laws.proofs.world_logs.OwnLogs.{IsOf}
use Rattle.headline.specs.Logs.{Role, owner_by}
use Rattle.headline.specs.Logs.Role.{OfClient, OfCleaner, OfManager}
use Rattle.run_laws.specs.world_logs.Standing.{CleanerAs, ClientAs, ManagerAs}
use Rattle.headline.specs.Deletions.{Deletes}
use Rattle.run_laws.proofs.world_logs.Turns.{Keeps, Turn}
use Rattle.xfs_base.specs.declared.node.NodeId.{NodeId}
use Rattle.xfs_base.specs.declared.node.NodeId.TheVariants.{Server, Cleaner, Registry}
use Rattle.xfs_base.specs.declared.segment.SegName.{SegName}

module _ (g : Setting) (r : Role) (fact : IsOf g r) (w : Scene) (next : Net) (run : Runs g w.net next) where
  abbrev pub after : Scene
  after = record w { net = next }

  later : Later w.net next
  later = run_later g w.net next run

  facts : (p : Packet) → PacketSeen g (asker_by r w) w.net p → PacketSeen g (asker_by r w) next p
  facts p h = seen_later g (asker_by r w) w.net next later p.from p.to p.body h

  client_as : (q : Role) (d : ℕ) (p : Phase) → next.inc ≡ w.net.inc → next.owner ≡ w.net.owner → next.flown ≡ w.net.flown → ClientAs g w q d p
      → ClientAs g after q d p
  client_as (OfClient c) d p inc owner flown h = λ e. (let o = h e in
      record { agrees = client_still g c w.net next w.asked later inc owner p o.agrees; written = o.written; room = room_still w.net next owner flown o.room })
  client_as OfCleaner d p inc owner flown h = tt
  client_as (OfManager i) d p inc owner flown h = tt

  cleaner_as : (q : Role) → IsOf g q → (p : CleanerPhase) → next.inc ≡ w.net.inc → next.owner ≡ w.net.owner → next.flown ≡ w.net.flown → CleanerAs g w q p
      → CleanerAs g after q p
  cleaner_as (OfClient c) of p inc owner flown h = cleaner_still g w.net next later p h
  cleaner_as OfCleaner of p inc owner flown h =
      record { agrees = cleaner_owner_still g of.0 w.net next w.asked later inc owner p h.agrees; room = room_still w.net next owner flown h.room }
  cleaner_as (OfManager i) of p inc owner flown h = cleaner_still g w.net next later p h

  manager_as : (q : Role) (j : ℕ) (p : ManagerPhase) → next.inc ≡ w.net.inc → next.owner ≡ w.net.owner → ManagerAs g w q j p → ManagerAs g after q j p
  manager_as (OfClient c) j p inc owner h = tt
  manager_as OfCleaner j p inc owner h = tt
  manager_as (OfManager i) j p inc owner h = λ e. manager_still g i w.net next w.asked inc owner p (h e)

  -- all but one node are seen as they were
  keeps : (name : NodeId) → next.inc ≡ w.net.inc → next.owner ≡ w.net.owner → next.flown ≡ w.net.flown
      → ((u : ℕ) → (Server u ≡ name → ⊥) → next.shelves u ≡ w.net.shelves u)
      → ((Registry ≡ name → ⊥) → (next.registry ≡ w.net.registry) × (next.low ≡ w.net.low)) → Keeps g r w after name
  keeps name inc owner flown shelves known = record {
    client = λ d differs p h. client_as r d p inc owner flown h;
    server = λ u differs node h. server_still g w.net next later u node (shelves u differs) h;
    cleaner = λ differs p h. cleaner_as r fact p inc owner flown h;
    manager = λ j differs p h. manager_as r j p inc owner h;
    registry = λ differs b h. registry_still g w.net next later b (known differs).0 (known differs).1 h;
  }

module _ (g : Setting) (r : Role) (fact : IsOf g r) (w : Scene) where
  pub server_turn : (v : ℕ) (node : ServerNode) (what : Do) (go : ServerGoes g (asker_by r w) w.net v node what)
      → Turn g r w (record w { net = go.next }) (Server v) (any.Server (server_step node what).node) (server_step node what).packets []
  server_turn v node what go = record {
    runs = go.runs;
    own = λ e. absurd (no_server r v e);
    straight = λ e. absurd (no_server r v e);
    puts = λ e. absurd (no_server r v e);
    left = λ away. left_by w.net go.next (ap its_of go.rest);
    there = go.seen;
    others = keeps g r fact w go.next go.runs (Server v) (ap (λ (n : Net). n.inc) go.rest) (ap (λ (n : Net). n.owner) go.rest)
        (ap (λ (n : Net). n.flown) go.rest) (λ u differs. go.shelves u (λ e. differs (ap Server e)))
        (λ differs. (ap (λ (n : Net). n.registry) go.rest, ap (λ (n : Net). n.low) go.rest));
    facts = facts g r fact w go.next go.runs;
    sends = go.sends;
    filed = λ n h. subst (tables.In n) (ap (λ (x : Net). x.filed) (sym go.rest)) h;
    files = λ n h. absurd h;
    only = λ n h. inl (subst (tables.In n) (ap (λ (x : Net). x.dropped) go.rest) h);
  }

  pub registry_turn : (node : RegistryNode) (what : Do) (go : RegistryGoes g (asker_by r w) w.net node what)
      → Turn g r w (record w { net = go.next }) Registry (any.Registry (registry_step node what).node) (registry_step node what).packets []
  registry_turn node what go = record {
    runs = go.runs;
    own = λ e. absurd (no_registry r e);
    straight = λ e. absurd (no_registry r e);
    puts = λ e. absurd (no_registry r e);
    left = λ away. left_by w.net go.next (ap its_of go.rest);
    there = go.seen;
    others = keeps g r fact w go.next go.runs Registry (ap (λ (n : Net). n.inc) go.rest) (ap (λ (n : Net). n.owner) go.rest)
        (ap (λ (n : Net). n.flown) go.rest)
        (λ u differs. ap (λ (n : Net). n.shelves u) go.rest) (λ differs. absurd (differs refl));
    facts = facts g r fact w go.next go.runs;
    sends = go.sends;
    filed = λ n h. subst (tables.In n) (ap (λ (x : Net). x.filed) (sym go.rest)) h;
    files = λ n h. absurd h;
    only = λ n h. inl (subst (tables.In n) (ap (λ (x : Net). x.dropped) go.rest) h);
  }

  -- the cleaner, whose own log is another
  pub cleaner_turn : (away : owner_by r ≡ Cleaner → ⊥) (seen : (v : Scene) (p : CleanerPhase) → CleanerSeen g v.net p → CleanerAs g v r p)
      (node : CleanerNode) (what : Do) (go : CleanerGoes g (asker_by r w) w.net node what)
      → Turn g r w (record w { net = go.next }) Cleaner (any.Cleaner (cleaner_step node what).node) (cleaner_step node what).packets []
  cleaner_turn away seen node what go = record {
    runs = go.runs;
    own = λ e. absurd (away e);
    straight = λ e. absurd (away e);
    puts = λ e. absurd (away e);
    left = λ no. left_by w.net go.next (ap its_of go.rest);
    there = seen (record w { net = go.next }) (cleaner_step node what).node.phase go.seen;
    others = keeps g r fact w go.next go.runs Cleaner (ap (λ (n : Net). n.inc) go.rest) (ap (λ (n : Net). n.owner) go.rest)
        (ap (λ (n : Net). n.flown) go.rest)
        (λ u differs. ap (λ (n : Net). n.shelves u) go.rest) (λ differs. (ap (λ (n : Net). n.registry) go.rest, ap (λ (n : Net). n.low) go.rest));
    facts = facts g r fact w go.next go.runs;
    sends = go.sends;
    filed = λ n h. subst (tables.In n) (ap (λ (x : Net). x.filed) (sym go.rest)) h;
    files = λ n h. absurd h;
    only = only;
  }
    where
      only : (n : SegName) → tables.In n go.next.dropped → tables.In n w.net.dropped ⊎ Deletes n (cleaner_step node what).packets
      only n h = ⊎_elim (λ old. inl old) (λ d. inr (d.0, in_listed (cleaner_step node what).packets d.0 d.1, d.2)) (go.only n h)
