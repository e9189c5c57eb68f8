-- The counts of a run: what was sent stays sent; and what a server holds stays, unless its disk is lost or it is told to delete it.
use Rattle.std.proofs.Common.{◌≡◌, ◌⊎◌, ⊎_elim, ℕ, zero, suc, ◌<◌, ◌≤◌, true, List, [], ◌++◌, Option, Some, None, map, is_none, is_some, slice_get, slice_set, refl, sym, ap, subst, ◌∙◌, inl, inr, append-nil, arith}
use Rattle.core_world.specs.AnyNode.{any_start, any_step}
use Rattle.core_world.specs.declared.any_node.AnyNode.{AnyNode}
use Rattle.core_world.specs.declared.any_node.AnyNode.TheVariants as any
use Rattle.fragment_store.specs.ShelfState.{ShelfState, held_at, is_held}
use Rattle.node_logs.proofs.node_log_tie.Others.{same_or_other}
use Rattle.store_nodes.specs.ServerEvents.{server_step}
use Rattle.token_protocol.specs.Basics.{In}
use Rattle.wire_msg.specs.declared.body.Body.TheVariants as body
use Rattle.wire_msg.specs.declared.packet.Do.{Do}
use Rattle.wire_msg.specs.declared.packet.Do.TheVariants as done
use Rattle.wire_msg.specs.declared.packet.Packet.{Packet}
use Rattle.wire_msg.specs.declared.storage.Delete.{Delete}
use Rattle.world_base.specs.Cluster.{cluster_of, place_of}
use Rattle.world_base.specs.declared.cluster.Cluster.{Cluster}
use Rattle.world_base.specs.declared.estate.Estate.{Estate}
use Rattle.world_base.specs.declared.event.Event.{Event}
use Rattle.world_base.specs.declared.world.World.{World}
use Rattle.world_base.specs.Events.{node_of, what_of}
use Rattle.world_base.specs.NextWorld.{sent_at}
use Rattle.world_base.specs.Runs.{IsRun}
use Rattle.run_laws.proofs.world_law.Nodes.{here, there}
use Rattle.run_laws.proofs.world_law.Sent.{was_sent}
use Rattle.headline.specs.Moments.{moment, node_in}
use Rattle.run_laws.proofs.world_logs.Line.{last_or_before}
use Rattle.run_laws.proofs.world_logs.Lists.{in_before, in_was}
use Rattle.headline.specs.Segments.{NotDeleted}
use Rattle.headline.specs.Servers.{shelf_at, shelf_of}
use Rattle.xfs_base.proofs.Booleans.{contrary}
use Rattle.xfs_base.specs.declared.fragment.Fragment.{Fragment}
use Rattle.xfs_base.specs.declared.node.NodeId.TheVariants as names
use Rattle.xfs_base.specs.declared.segment.SegName.{SegName}
use Rattle.run_losses.proofs.torn_law.Counts.{TurnAt, became, cluster_at, may_happen, moment_ended}
use Rattle.run_losses.proofs.torn_law.Turns.{brought}
use Rattle.headline.specs.Torn.{lacks}
use Rattle.run_losses.proofs.missing_law.ShelfSteps.{ShelfOn, server_on, shelf_same, shelf_then}
use Rattle.run_losses.specs.missing_law.Missed.{MissedIn}

same_shelf : (s t : ShelfState) → Some s ≡ Some t → s ≡ t
same_shelf s t e = cc

nothing_below : (m : ℕ) → m ≤ 0 → m ≡ 0
nothing_below m none = omega arith

none_left : (o : Option Fragment) → (is_some o ≡ true → ⊥) → is_none o ≡ true
none_left None never = refl
none_left (Some f) never = absurd (never refl)

not_held : (o : Option Fragment) → o ≡ None → is_some o ≡ true → ⊥
not_held None e fact = contrary fact
not_held (Some f) e fact = absurd cc

shelf_weaker : (T U : SegName → Type 0) → ((name : SegName) → T name → U name) → (s t : ShelfState) → ShelfOn T s t → ShelfOn U s t
shelf_weaker T U up s t on = record { up = on.up; holds = λ name fact. by name (on.holds name fact) }
  where
    by : (name : SegName) → (is_held t name ≡ true) ⊎ ((s.generation < t.generation) ⊎ T name)
        → (is_held t name ≡ true) ⊎ ((s.generation < t.generation) ⊎ U name)
    by name (inl fact) = inl fact
    by name (inr (inl less)) = inr (inl less)
    by name (inr (inr told)) = inr (inr (up name told))

-- what an event makes of the node that stands at a server's place
record Turned (Told : SegName → Type 0) (x : AnyNode) (what : Do) (s : ShelfState) : Type 0 where
  shelf : ShelfState
  has_shelf : shelf_of (Some (any_step x what).node) ≡ Some shelf
  on : ShelfOn Told s shelf

turned : (Told : SegName → Type 0) (x : AnyNode) (what : Do) (s : ShelfState) → shelf_of (Some x) ≡ Some s
    → ((packet : Packet) (m : Delete) → what ≡ done.Deliver packet → packet.body ≡ body.Delete m → Told m.name) → Turned Told x what s
turned Told (any.Client node) what s fact tells = absurd cc
turned Told (any.Manager node) what s fact tells = absurd cc
turned Told (any.Server node) what s fact tells = record {
  shelf = (server_step node what).node.shelf;
  has_shelf = refl;
  on = subst (λ z. ShelfOn Told z (server_step node what).node.shelf) (same_shelf node.shelf s fact) (server_on Told node what tells);
}
turned Told (any.Cleaner node) what s fact tells = absurd cc
turned Told (any.Registry node) what s fact tells = absurd cc

module _ (e : Estate AnyNode) where
  abbrev pub k_of : Cluster
  k_of = cluster_of e.script.setup

  -- ---- from one count to the next

  -- what is sent between two counts is added to what was sent
  pub record Grown (count : ℕ) : Type 0 where
    pub new : List Packet
    pub sent_are : (moment e (suc count)).sent ≡ (moment e count).sent ++ new

  pub grown : (count : ℕ) → Grown count
  grown count = by (slice_get e.events count) refl
    where
      same : (moment e (suc count)).sent ≡ (moment e count).sent → Grown count
      same fact = record { new = []; sent_are = fact ∙ sym (append-nil (moment e count).sent) }

      by : (o : Option Event) → slice_get e.events count ≡ o → Grown count
      by None fact = same (ap (λ (v : World AnyNode). v.sent) (moment_ended e count fact))
      by (Some event) fact =
          ⊎_elim (λ still. same still.sent_are)
          (λ t. record { new = map (sent_at t.clock) (any_step t.node (what_of event)).packets; sent_are = t.sent_are }) (became e count event fact)

  pub sent_next : (count : ℕ) (p : Packet) → In p (moment e count).sent → In p (moment e (suc count)).sent
  sent_next count p fact = (let g = grown count in subst (In p) (sym g.sent_are) (in_before (moment e count).sent g.new p fact))

  pub sent_on : (from to : ℕ) → from ≤ to → (p : Packet) → In p (moment e from).sent → In p (moment e to).sent
  sent_on from zero limit p fact = subst (λ k. In p (moment e k).sent) (nothing_below from limit) fact
  sent_on from (suc to) limit p fact =
      ⊎_elim (λ same. subst (λ k. In p (moment e k).sent) same fact) (λ below. sent_next to p (sent_on from to below p fact)) (last_or_before from to limit)

  -- ---- what was deleted

  -- a server was told by then to delete it
  pub record Deleted (count : ℕ) (name : SegName) : Type 0 where
    pub packet : Packet
    pub among : In packet (moment e count).sent
    pub delete : Delete
    pub tells : packet.body ≡ body.Delete delete
    pub named : delete.name ≡ name

  pub deleted_on : (from to : ℕ) → from ≤ to → (name : SegName) → Deleted from name → Deleted to name
  deleted_on from to limit name d = record {
    packet = d.packet;
    among = sent_on from to limit d.packet d.among;
    delete = d.delete;
    tells = d.tells;
    named = d.named;
  }

  pub none_deleted : (count : ℕ) (name : SegName) → NotDeleted (moment e count) name → Deleted count name → ⊥
  none_deleted count name kept d = kept d.packet d.delete (in_was (moment e count).sent d.packet d.among) d.tells d.named

  pub kept_before : (from to : ℕ) → from ≤ to → (name : SegName) → NotDeleted (moment e to) name → NotDeleted (moment e from) name
  kept_before from to limit name kept packet m sent tells named =
      none_deleted to name kept (record {
        packet = packet;
        among = sent_on from to limit packet (was_sent (moment e from).sent packet sent);
        delete = m;
        tells = tells;
        named = named;
      })

  -- ---- shelves

  -- a server's shelf at a count that follows one at which it had this one
  pub record ShelfAt (count v : ℕ) (s : ShelfState) : Type 0 where
    pub shelf : ShelfState
    pub has_shelf : shelf_at (moment e count) v ≡ Some shelf
    pub on : ShelfOn (Deleted count) s shelf

  abbrev pub Here : ℕ → ℕ → Option AnyNode
  Here count v = node_in (moment e count).nodes (place_of k_of (names.Server v))

  pub here_is : (count v : ℕ) → shelf_at (moment e count) v ≡ shelf_of (Here count v)
  here_is count v = ap (λ k. shelf_of (node_in (moment e count).nodes (place_of k (names.Server v)))) (cluster_at e count)

  module _ (run : IsRun any_step any_start e.script e.events e.world) where
    rests : (count v : ℕ) (s : ShelfState) → shelf_at (moment e count) v ≡ Some s → Here (suc count) v ≡ Here count v → ShelfAt (suc count) v s
    rests count v s fact same = record {
      shelf = s;
      has_shelf = here_is (suc count) v ∙ (ap shelf_of same ∙ (sym (here_is count v) ∙ fact));
      on = shelf_same (Deleted (suc count)) s;
    }

    module _ (count v : ℕ) (s : ShelfState) (fact : shelf_at (moment e count) v ≡ Some s) (event : Event) (at : slice_get e.events count ≡ Some event)
        (t : TurnAt (moment e count) event (moment e (suc count)).nodes (moment e (suc count)).sent (moment e (suc count)).acts) where
      placed : place_of k_of (node_of event) ≡ Some t.place
      placed = subst (λ k. place_of k (node_of event) ≡ Some t.place) (cluster_at e count) t.placed

      other_turn : (names.Server v ≡ node_of event → ⊥) → ShelfAt (suc count) v s
      other_turn differs =
          rests count v s fact
          (ap (λ ns. node_in ns (place_of k_of (names.Server v))) t.nodes_are
          ∙ there k_of (moment e count).nodes (node_of event) t.place placed (any_step t.node (what_of event)).node (names.Server v) differs)

      told : (packet : Packet) (m : Delete) → what_of event ≡ done.Deliver packet → packet.body ≡ body.Delete m → Deleted (suc count) m.name
      told packet m brings tells = record {
        packet = packet;
        among = sent_next count packet (brought (moment e count) event (may_happen e run count event at) packet brings).0;
        delete = m;
        tells = tells;
        named = refl;
      }

      own_turn : names.Server v ≡ node_of event → ShelfAt (suc count) v s
      own_turn same = record { shelf = d.shelf; has_shelf = here_is (suc count) v ∙ (ap shelf_of now ∙ d.has_shelf); on = d.on }
        where
          was : Here count v ≡ Some t.node
          was =
              subst (λ n. node_in (moment e count).nodes (place_of k_of n) ≡ Some t.node) (sym same)
              (ap (node_in (moment e count).nodes) placed ∙ t.stands)

          now : Here (suc count) v ≡ Some (any_step t.node (what_of event)).node
          now =
              ap (λ ns. node_in ns (place_of k_of (names.Server v))) t.nodes_are
              ∙ subst (λ n. node_in (slice_set (moment e count).nodes t.place (any_step t.node (what_of event)).node) (place_of k_of n)
              ≡ Some (any_step t.node (what_of event)).node) (sym same)
              (here k_of (moment e count).nodes (node_of event) t.place placed (any_step t.node (what_of event)).node t.node t.stands)

          d : Turned (Deleted (suc count)) t.node (what_of event) s
          d = turned (Deleted (suc count)) t.node (what_of event) s (sym (ap shelf_of was) ∙ (sym (here_is count v) ∙ fact)) told

    shelf_next : (count v : ℕ) (s : ShelfState) → shelf_at (moment e count) v ≡ Some s → ShelfAt (suc count) v s
    shelf_next count v s fact = by (slice_get e.events count) refl
      where
        still : (moment e (suc count)).nodes ≡ (moment e count).nodes → ShelfAt (suc count) v s
        still nodes = rests count v s fact (ap (λ ns. node_in ns (place_of k_of (names.Server v))) nodes)

        by : (o : Option Event) → slice_get e.events count ≡ o → ShelfAt (suc count) v s
        by None at = still (ap (λ (w : World AnyNode). w.nodes) (moment_ended e count at))
        by (Some event) at =
            ⊎_elim (λ rest. still rest.nodes_are)
            (λ t. ⊎_elim (own_turn count v s fact event at t) (other_turn count v s fact event at t) (same_or_other (names.Server v) (node_of event)))
            (became e count event at)

    shelf_same_at : (from to v : ℕ) (s : ShelfState) → shelf_at (moment e from) v ≡ Some s → from ≡ to → ShelfAt to v s
    shelf_same_at from to v s fact now = record {
      shelf = s;
      has_shelf = subst (λ k. shelf_at (moment e k) v ≡ Some s) now fact;
      on = shelf_same (Deleted to) s;
    }

    shelf_further : (to v : ℕ) (s : ShelfState) → ShelfAt to v s → ShelfAt (suc to) v s
    shelf_further to v s a =
        let b = shelf_next to v a.shelf a.has_shelf in
        record {
          shelf = b.shelf;
          has_shelf = b.has_shelf;
          on = shelf_then (Deleted (suc to)) s a.shelf b.shelf
              (shelf_weaker (Deleted to) (Deleted (suc to)) (deleted_on to (suc to) (omega arith)) s a.shelf a.on) b.on;
        }

    pub shelf_on : (from to v : ℕ) → from ≤ to → (s : ShelfState) → shelf_at (moment e from) v ≡ Some s → ShelfAt to v s
    shelf_on from zero v limit s fact = shelf_same_at from 0 v s fact (nothing_below from limit)
    shelf_on from (suc to) v limit s fact =
        ⊎_elim (shelf_same_at from (suc to) v s fact) (λ below. shelf_further to v s (shelf_on from to v below s fact)) (last_or_before from to limit)

    -- a server that missed a segment at two moments, in one generation, lacks it at each between, where no server was told to delete it
    pub lacks_between : (since middle drawn count v generation : ℕ) (name : SegName) → MissedIn e since middle v generation name
        → MissedIn e drawn count v generation name → NotDeleted (moment e count) name → (at : ℕ) → middle ≤ at → at ≤ drawn
        → lacks (shelf_at (moment e at) v) name ≡ true
    lacks_between since middle drawn count v generation name one two kept at after before =
        subst (λ o. lacks o name ≡ true) (sym a.has_shelf) (none_left _ unheld)
      where
        a : ShelfAt at v one.shelf
        a = shelf_on one.when at v (let x = one.until in omega arith) one.shelf one.has_shelf

        b : ShelfAt two.when v a.shelf
        b = shelf_on at two.when v (let x = two.since in omega arith) a.shelf a.has_shelf

        same : b.shelf ≡ two.shelf
        same = same_shelf b.shelf two.shelf (sym b.has_shelf ∙ two.has_shelf)

        unheld : is_held a.shelf name ≡ true → ⊥
        unheld held = by (b.on.holds name held)
          where
            by : (is_held b.shelf name ≡ true) ⊎ ((a.shelf.generation < b.shelf.generation) ⊎ Deleted two.when name) → ⊥
            by (inl fact) = not_held (held_at two.shelf.held name) two.nothing (subst (λ (s : ShelfState). is_held s name ≡ true) same fact)
            by (inr (inl less)) =
                let x = a.on.up in
                let y = one.in_generation in
                let z = two.in_generation in
                let w : b.shelf.generation ≡ two.shelf.generation = ap (λ (s : ShelfState). s.generation) same in
                omega arith
            by (inr (inr deleted)) = none_deleted two.when name (kept_before two.when count two.until name kept) deleted
