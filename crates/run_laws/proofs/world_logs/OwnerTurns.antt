-- The owner of a log has its turn, a client, the cleaner or a manager; or another of them, which has no part in it.
use Rattle.std.proofs.Common.{◌≡◌, ℕ, ⊎_elim, List, [], inl, inr, refl, ap, subst}
use Rattle.std.specs.Prelude.{All}
use Rattle.node_logs.proofs.cleaner_log_tie.Sights.{body_more as cleaner_body_more}
use Rattle.node_logs.specs.cleaner_log_tie.OwnerEvents as cleaner_events
use Rattle.node_logs.specs.cleaner_log_tie.OwnerEvents.{OwnerGoes}
use Rattle.cleaner_node.specs.declared.cleaner.Cleaner.{Cleaner as CleanerNode}
use Rattle.node_logs.proofs.client_log_tie.Frames.{body_more}
use Rattle.node_logs.specs.client_log_tie.ClientEvents.{ActSeen, ClientGoes}
use Rattle.node_logs.specs.client_log_tie.Owner.{Scene}
use Rattle.client_node.specs.declared.client.Client.{Client as ClientNode}
use Rattle.core_world.specs.declared.any_node.AnyNode.{AnyNode}
use Rattle.core_world.specs.declared.any_node.AnyNode.TheVariants as any
use Rattle.log_law.specs.Events.Runs.{Begun}
use Rattle.log_protocol.specs.Tables as tables
use Rattle.log_tie.specs.Setting.{Setting}
use Rattle.node_logs.specs.manager_log_tie.OwnerEvents.{ManagerGoes}
use Rattle.manager_node.specs.declared.manager.Manager.{Manager as ManagerNode}
use Rattle.node_logs.proofs.node_log_tie.Going.{run_later}
use Rattle.node_logs.specs.node_log_tie.Sight.{PacketSeen}
use Rattle.node_logs.proofs.node_log_tie.Sight.{Later}
use Rattle.node_logs.specs.node_log_tie.Sight.Question.{OfMaps}
use Rattle.token_protocol.specs.Basics.{In}
use Rattle.version_model.specs.declared.act.Act.{Act}
use Rattle.version_model.specs.declared.act.Act.TheVariants as act
use Rattle.wire_msg.specs.declared.packet.Packet.{Packet}
use Rattle.wire_msg.specs.NodeStep.{NodeStep}
use Rattle.run_laws.proofs.world_law.Sent.{in_all}
use Rattle.run_laws.proofs.world_logs.Frames.{cleaner_still, registry_still, server_still}
use Rattle.run_laws.proofs.world_logs.Leading.{left_by}
use Rattle.run_laws.proofs.world_logs.Lists.{in_listed}
use Rattle.run_laws.proofs.world_logs.Managing.{manager_body_more}
use Rattle.run_laws.specs.world_logs.Roles.{asker_by}
use Rattle.headline.specs.Logs.{Role, owner_by}
use Rattle.headline.specs.Logs.Role.{OfClient, OfCleaner, OfManager}
use Rattle.run_laws.specs.world_logs.Standing.{IsRoomy, Seen}
use Rattle.run_laws.proofs.world_logs.Turns.{Keeps, Turn}
use Rattle.xfs_base.specs.declared.node.NodeId.{NodeId}
use Rattle.xfs_base.specs.declared.node.NodeId.TheVariants.{Client, Manager, Cleaner}

-- ---- a client that owns it

module _ (g : Setting) (c : ℕ) (w : Scene) (d : NodeStep ClientNode) (go : ClientGoes g c w d) (room : IsRoomy go.next.net) (acts : List Act)
    (those : (a : Act) → In a acts → In a d.acts) where
  later : Later w.net go.next.net
  later = run_later g w.net go.next.net go.grown.runs

  others : Keeps g (OfClient c) w go.next (Client c)
  others = record {
    client = λ d differs p h. λ e. absurd (differs (ap Client e));
    server = λ u differs node h. server_still g w.net go.next.net later u node (ap (λ f. f u) go.grown.shelves) h;
    cleaner = λ differs p h. cleaner_still g w.net go.next.net later p h;
    manager = λ j differs p h. tt;
    registry = λ differs b h. registry_still g w.net go.next.net later b go.grown.registry go.grown.low h;
  }

  pub owner_turn : Turn g (OfClient c) w go.next (Client c) (any.Client d.node) d.packets acts
  owner_turn = record {
    runs = go.grown.runs;
    own = λ e. go.grown;
    straight = λ e. go.straight;
    puts = λ e. go.puts;
    left = λ away. absurd (away refl);
    there = λ e. record { agrees = go.agrees; written = go.written; room = room };
    others = others;
    facts = λ p h. body_more g c w go.next go.grown p.from p.to p.body h;
    sends = go.sends;
    filed = go.grown.filed;
    files = λ n h. in_all (ActSeen go.next) d.acts go.acts (act.Filed n) (those (act.Filed n) h);
    only = λ n h. inl (subst (tables.In n) go.grown.dropped h);
  }

-- ---- a manager that owns it

module _ (g : Setting) (j : ℕ) (w : Scene) (asks : (k : ℕ) → w.asked k ≡ OfMaps) (d : NodeStep ManagerNode) (go : ManagerGoes g j w d) (acts : List Act)
    (those : (a : Act) → In a acts → In a d.acts) where
  manager_later : Later w.net go.next.net
  manager_later = run_later g w.net go.next.net go.grown.runs

  manager_others : Keeps g (OfManager j) w go.next (Manager j)
  manager_others = record {
    client = λ d differs p h. tt;
    server = λ u differs node h. server_still g w.net go.next.net manager_later u node (ap (λ f. f u) go.grown.shelves) h;
    cleaner = λ differs p h. cleaner_still g w.net go.next.net manager_later p h;
    manager = λ i differs p h. λ e. absurd (differs (ap Manager e));
    registry = λ differs b h. registry_still g w.net go.next.net manager_later b go.grown.registry go.grown.low h;
  }

  pub manager_owner_turn : Turn g (OfManager j) w go.next (Manager j) (any.Manager d.node) d.packets acts
  manager_owner_turn = record {
    runs = go.grown.runs;
    own = λ e. go.grown;
    straight = λ e. tt;
    puts = λ e. tt;
    left = λ away. absurd (away refl);
    there = λ e. go.agrees;
    others = manager_others;
    facts = λ p h. manager_body_more g j w go.next go.grown asks p.from p.to p.body h;
    sends = go.sends;
    filed = go.grown.filed;
    files = λ n h. in_all (ActSeen go.next) d.acts go.acts (act.Filed n) (those (act.Filed n) h);
    only = λ n h. inl (subst (tables.In n) go.grown.dropped h);
  }

-- ---- the cleaner that owns it

module _ (g : Setting) (w : Scene) (d : NodeStep CleanerNode) (go : OwnerGoes g w d) (room : IsRoomy go.next.net) (acts : List Act)
    (those : (a : Act) → In a acts → In a d.acts) where
  grows_later : Later w.net go.next.net
  grows_later = run_later g w.net go.next.net go.grown.runs

  cleaner_others : Keeps g OfCleaner w go.next Cleaner
  cleaner_others = record {
    client = λ d differs p h. tt;
    server = λ u differs node h. server_still g w.net go.next.net grows_later u node (ap (λ f. f u) go.grown.shelves) h;
    cleaner = λ differs p h. absurd (differs refl);
    manager = λ j differs p h. tt;
    registry = λ differs b h. registry_still g w.net go.next.net grows_later b go.grown.registry go.grown.low h;
  }

  pub cleaner_owner_turn : Turn g OfCleaner w go.next Cleaner (any.Cleaner d.node) d.packets acts
  cleaner_owner_turn = record {
    runs = go.grown.runs;
    own = λ e. go.grown;
    straight = λ e. go.straight;
    puts = λ e. tt;
    left = λ away. absurd (away refl);
    there = record { agrees = go.agrees; room = room };
    others = cleaner_others;
    facts = λ p h. cleaner_body_more g w go.next go.grown p.from p.to p.body h;
    sends = go.sends;
    filed = go.grown.filed;
    files = λ n h. in_all (cleaner_events.ActSeen g go.next) d.acts go.acts (act.Filed n) (those (act.Filed n) h);
    only = λ n h. ⊎_elim (λ old. inl old) (λ d_. inr (d_.0, in_listed d.packets d_.0 d_.1, d_.2)) (go.only n h);
  }

-- ---- a node that has no part in the log

module _ (g : Setting) (r : Role) (w : Scene) where
  pub idle_turn : (name : NodeId) (after : AnyNode) (packets : List Packet) → (owner_by r ≡ name → ⊥) → Seen g r w name after
      → All (PacketSeen g (asker_by r w) w.net) packets
      → Turn g r w w name after packets []
  idle_turn name after packets away there sends = record {
    runs = Begun;
    own = λ e. absurd (away e);
    straight = λ e. absurd (away e);
    puts = λ e. absurd (away e);
    left = λ no. left_by w.net w.net refl;
    there = there;
    others = record {
      client = λ d differs p h. h;
      server = λ u differs node h. h;
      cleaner = λ differs p h. h;
      manager = λ j differs p h. h;
      registry = λ differs b h. h;
    };
    facts = λ p h. h;
    sends = sends;
    filed = λ n h. h;
    files = λ n h. absurd h;
    only = λ n h. inl h;
  }
