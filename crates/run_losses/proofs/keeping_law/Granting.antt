-- In the event in which a Grant is sent, a manager sends it, and the index of that tells then what the Grant tells.
use Rattle.std.proofs.Common.{◌≡◌, inl, inr, ℕ, suc, ◌==◌, ◌<◌, ◌≤◌, Bool, true, false, List, [], ◌∷◌, Some, map, slice_set, refl, sym, ap, subst, ◌∙◌, arith}
use Rattle.std.proofs.lemmas.Bool.Decides.{nat_tests}
use Rattle.std.specs.List.{AllByRecursion}
use Rattle.core_world.specs.AnyNode.{any_start, any_step}
use Rattle.core_world.specs.declared.any_node.AnyNode.{AnyNode}
use Rattle.core_world.specs.declared.any_node.AnyNode.TheVariants as any
use Rattle.log_tie.specs.Setting.{Setting}
use Rattle.manager_node.specs.declared.manager.Manager.{Manager as ManagerNode}
use Rattle.manager_node.specs.declared.phase.Phase.{Phase}
use Rattle.manager_node.specs.declared.phase.Phase.TheVariants.{Down, Waiting, Serving as Serves}
use Rattle.manager_node.specs.Events.{manager_step}
use Rattle.node_base.specs.Setups.{IsSetup}
use Rattle.node_slots.specs.node_tie.ManagerEvents.{ManagerAgrees, OtherAgrees}
use Rattle.headline.specs.Managers.{slot_in}
use Rattle.node_slots.specs.node_tie.RegistryEvents.{RegistrySound}
use Rattle.token_law.specs.Net.{Net}
use Rattle.token_protocol.specs.Basics.{In}
use Rattle.run_losses.proofs.torn_law.Counts.{TurnAt, cluster_at}
use Rattle.run_losses.proofs.torn_law.Senders.{IsFrom, sends_as}
use Rattle.wire_msg.specs.declared.body.Body.TheVariants as body
use Rattle.wire_msg.specs.declared.packet.Packet.{Packet}
use Rattle.wire_msg.specs.declared.tokens.Grant.{Grant}
use Rattle.world_base.specs.Cluster.{cluster_of, place_of}
use Rattle.world_base.specs.declared.cluster.Cluster.{Cluster}
use Rattle.world_base.specs.declared.estate.Estate.{Estate}
use Rattle.world_base.specs.declared.world.World.{World}
use Rattle.world_base.specs.Events.{node_of, what_of}
use Rattle.world_base.specs.NextWorld.{sent_at}
use Rattle.world_base.specs.Runs.{IsRun}
use Rattle.run_laws.proofs.world_law.Laws.{NodeLaws, front, one_node}
use Rattle.run_laws.proofs.world_law.Nodes.{here}
use Rattle.run_laws.proofs.world_law.Sent.{at_clock}
use Rattle.run_laws.specs.world_law.Standing.{Scene, SentBy, Stands, members}
use Rattle.headline.specs.Moments.{moment, node_in}
use Rattle.run_laws.specs.world_logs.Lines.{HasLines}
use Rattle.xfs_base.specs.declared.node.NodeId.{NodeId}
use Rattle.xfs_base.specs.declared.node.NodeId.TheVariants.{Client, Manager, Server, Cleaner, Registry}
use Rattle.xfs_base.specs.Limits.{slot_count}
use Rattle.run_losses.proofs.keeping_law.Sending.{SentIn}
use Rattle.run_losses.specs.keeping_law.Grants.{GrantTells, IfGrant, ManagersGrantWhatTheyHold, WaitsInPlace}

-- ---- who sends Grants

-- one of the managers
pub record ByManager (k : Cluster) (from : NodeId) : Type 0 where
  pub number : ℕ
  pub some : 0 < number
  pub limit : number ≤ k.managers
  pub named : from ≡ Manager number

module _ (k : Cluster) (part : ℕ) (s : Scene) (m : Grant) where
  grants_by : (from to : NodeId) → SentBy k part s from to (body.Grant m) → ByManager k from
  grants_by (Client c) to h = absurd h.2
  grants_by (Manager j) to h = record { number = j; some = h.0; limit = h.1; named = refl }
  grants_by (Server v) to h = absurd h
  grants_by Cleaner to h = absurd h
  grants_by Registry to h = absurd h

-- what is known of packets is known of them with the clock
clocked : (A : Grant → Type 0) (clock : ℕ) (ps : List Packet) → AllByRecursion (λ (p : Packet). IfGrant A p.body) ps → (q : Packet)
    → In q (map (sent_at clock) ps) → IfGrant A q.body
clocked A clock [] all q fact = absurd fact
clocked A clock (p ∷ ps) all q (inl fact) = subst (λ (x : Packet). IfGrant A x.body) (sym fact) all.0
clocked A clock (p ∷ ps) all q (inr later) = clocked A clock ps all.1 q later

-- ---- its slots

-- what two slots know of the others is known of all
waits_in : (size other j : ℕ) (n o : Net) (p : Phase) → ManagerAgrees size 0 n j p → ManagerAgrees other 1 o j p → WaitsInPlace p
waits_in size other j n o (Serves s) first second k = by (k == 0) refl
  where
    by : (t : Bool) → (k == 0) ≡ t → OtherAgrees k (slot_in k (Serves s))
    by true fact = second.table.there k (λ one. grind (arith, nat_tests, fact, one))
    by false fact = first.table.there k (λ zero. grind (arith, nat_tests, fact, zero))
waits_in size other j n o (Down kept) first second k = tt
waits_in size other j n o (Waiting kept hello) first second k = tt

module _ (laws : NodeLaws) (grants : ManagersGrantWhatTheyHold) (base : Setting) (e : Estate AnyNode) (setup : IsSetup e.script.setup)
    (run : IsRun any_step any_start e.script e.events e.world) (lines : HasLines base e) where
  abbrev k : Cluster
  k = cluster_of e.script.setup

  -- a manager at a moment whose index tells what the Grant tells
  pub record GrantedAt (count : ℕ) (m : Grant) : Type 0 where
    pub number : ℕ
    pub some : 0 < number
    pub limit : number ≤ k.managers
    pub manager : ManagerNode
    pub there : node_in (moment e count).nodes (place_of k (Manager number)) ≡ Some (any.Manager manager)
    pub tells : GrantTells manager.phase m

  same_manager : (a b : ManagerNode) → any.Manager a ≡ any.Manager b → a ≡ b
  same_manager a b same = cc

  module _ (count part : ℕ) (of_eight : part < slot_count) where
    abbrev scene : Scene
    scene = (front laws e setup run count part of_eight).1.0

    stands : Stands false k part (moment e count).nodes (moment e count).sent (moment e count).acts RegistrySound scene
    stands = (front laws e setup run count part of_eight).1.1

  -- a node that is a manager, in whose slots wants wait in place
  record IsWaiting (node : AnyNode) : Type 0 where
    manager : ManagerNode
    kind : node ≡ any.Manager manager
    waits : WaitsInPlace manager.phase

  module _ (count j : ℕ) (some : 0 < j) (limit : j ≤ k.managers) (node : AnyNode)
      (there : node_in (moment e count).nodes (place_of k (Manager j)) ≡ Some node) (of_0 : 0 < slot_count) (of_1 : 1 < slot_count) where
    node_is : (part : ℕ) (of_eight : part < slot_count) → node ≡ any.Manager ((scene count part of_eight).manager j)
    node_is part of_eight =
        one_node node (any.Manager ((scene count part of_eight).manager j)) (sym there ∙ (stands count part of_eight).placed.managers j some limit)

    waiting : IsWaiting node
    waiting =
        let x : ManagerNode = (scene count 0 of_0).manager j in
        let y : ManagerNode = (scene count 1 of_1).manager j in
        let same : y ≡ x = same_manager y x (sym (node_is 1 of_1) ∙ node_is 0 of_0) in
        record {
          manager = x;
          kind = node_is 0 of_0;
          waits = waits_in (members k 0) (members k 1) j (scene count 0 of_0).net (scene count 1 of_1).net x.phase
              ((stands count 0 of_0).managers j some limit).agrees
              (subst (λ (z : ManagerNode). ManagerAgrees (members k 1) 1 (scene count 1 of_1).net j z.phase) same
              ((stands count 1 of_1).managers j some limit).agrees);
        }

  module _ (p : Packet) (m : Grant) (is_grant : p.body ≡ body.Grant m) (before count : ℕ) (s : SentIn e p before count) where
    abbrev w : World AnyNode
    w = moment e s.when

    abbrev t : TurnAt w s.event (moment e (suc s.when)).nodes (moment e (suc s.when)).sent (moment e (suc s.when)).acts
    t = s.turn

    placed : place_of k (node_of s.event) ≡ Some t.place
    placed = subst (λ c. place_of c (node_of s.event) ≡ Some t.place) (cluster_at e s.when) t.placed

    stood : node_in w.nodes (place_of k (node_of s.event)) ≡ Some t.node
    stood = ap (node_in w.nodes) placed ∙ t.stands

    from_it : p.from ≡ node_of s.event
    from_it =
        at_clock t.clock (IsFrom (node_of s.event)) (IsFrom (node_of s.event)) (λ q h. h) (any_step t.node (what_of s.event)).packets
        (sends_as base e lines s.when (node_of s.event) t.place t.node (what_of s.event) placed stood) p s.fresh

    by_one : 0 < slot_count → In p (moment e (suc s.when)).sent → ByManager k p.from
    by_one of_0 among =
        grants_by k 0 (scene (suc s.when) 0 of_0) m p.from p.to
        (subst (SentBy k 0 (scene (suc s.when) 0 of_0) p.from p.to) is_grant ((stands (suc s.when) 0 of_0).facts p among))

    its_grant : (x : IsWaiting t.node) → GrantTells (manager_step x.manager (what_of s.event)).node.phase m
    its_grant x =
        let after : Phase = (manager_step x.manager (what_of s.event)).node.phase in
        subst (IfGrant (GrantTells after)) is_grant
        (clocked (GrantTells after) t.clock (manager_step x.manager (what_of s.event)).packets (grants x.manager (what_of s.event) x.waits) p
        (subst (λ n. In p (map (sent_at t.clock) (any_step n (what_of s.event)).packets)) x.kind s.fresh))

    granted_by : ByManager k p.from → GrantedAt (suc s.when) m
    granted_by b =
        let name : node_of s.event ≡ Manager b.number = sym from_it ∙ b.named in
        let x : IsWaiting t.node =
        waiting s.when b.number b.some b.limit t.node (subst (λ n. node_in w.nodes (place_of k n) ≡ Some t.node) name stood) (omega arith) (omega arith) in
        let then : AnyNode = (any_step t.node (what_of s.event)).node in
        record {
          number = b.number;
          some = b.some;
          limit = b.limit;
          manager = (manager_step x.manager (what_of s.event)).node;
          there = ap (λ ns. node_in ns (place_of k (Manager b.number))) t.nodes_are
              ∙ (subst (λ n. node_in (slice_set w.nodes t.place then) (place_of k n) ≡ Some then) name
              (here k w.nodes (node_of s.event) t.place placed then t.node t.stands)
              ∙ ap (λ n. Some (any_step n (what_of s.event)).node) x.kind);
          tells = its_grant x;
        }

    pub granted_then : In p (moment e (suc s.when)).sent → GrantedAt (suc s.when) m
    granted_then among = granted_by (by_one (omega arith) among)
