-- One node over the counts of a run: from one count to the next it stands as it did, and what is sent then isn't its own; or it has its turn. So what holds at
-- each count is shown of these two.
use Rattle.std.proofs.Common.{◌≡◌, ⊎_elim, ℕ, zero, suc, ◌+◌, List, [], ◌++◌, append-nil, Option, Some, None, map, slice_get, slice_set, refl, sym, ap, subst, ◌∙◌}
use Rattle.core_world.specs.AnyNode.{any_start, any_step}
use Rattle.core_world.specs.declared.any_node.AnyNode.{AnyNode}
use Rattle.log_tie.specs.Setting.{Setting}
use Rattle.node_logs.proofs.node_log_tie.Others.{same_or_other}
use Rattle.run_laws.proofs.world_law.Nodes.{here, there}
use Rattle.run_laws.proofs.world_law.Sent.{at_clock}
use Rattle.run_laws.proofs.world_law.Start.{first_stands}
use Rattle.headline.specs.Moments.{moment, node_in, node_named}
use Rattle.run_laws.specs.world_logs.Lines.{HasLines}
use Rattle.token_protocol.specs.Basics.{In}
use Rattle.wire_msg.specs.declared.packet.Packet.{Packet}
use Rattle.world_base.specs.Cluster.{cluster_of, place_of}
use Rattle.world_base.specs.declared.cluster.Cluster.{Cluster}
use Rattle.world_base.specs.declared.estate.Estate.{Estate}
use Rattle.world_base.specs.declared.event.Event.{Event}
use Rattle.world_base.specs.declared.world.World.{World}
use Rattle.world_base.specs.Events.{node_of, what_of}
use Rattle.world_base.specs.Items.{items_of}
use Rattle.world_base.specs.NextWorld.{first_nodes, sent_at, start_world}
use Rattle.xfs_base.specs.declared.node.NodeId.{NodeId}
use Rattle.xfs_base.specs.declared.node.NodeId.TheVariants.{Registry}
use Rattle.run_losses.proofs.torn_law.Counts.{TurnAt, became, cluster_at, moment_ended}
use Rattle.run_losses.proofs.torn_law.Senders.{IsFrom, sends_as}

module _ (e : Estate AnyNode) (name : NodeId) where
  abbrev pub k_of : Cluster
  k_of = cluster_of e.script.setup

  abbrev pub Here : ℕ → Option AnyNode
  Here count = node_in (moment e count).nodes (place_of k_of name)

  abbrev pub Sent : ℕ → List Packet
  Sent count = (moment e count).sent

  -- a node has its turn between this count and the next
  abbrev pub Turn : ℕ → Event → Type 0
  Turn count event = TurnAt (moment e count) event (moment e (suc count)).nodes (moment e (suc count)).sent (moment e (suc count)).acts

  pub named : (count : ℕ) → node_named (moment e count) name ≡ Here count
  named count = ap (λ k. node_in (moment e count).nodes (place_of k name)) (cluster_at e count)

  -- ---- at first

  first_are : (moment e 0).nodes ≡ first_nodes any_start e.script k_of
  unfolding start_world
  first_are = refl

  pub none_sent : Sent 0 ≡ []
  unfolding start_world
  none_sent = refl

  pub first_here : (P : Option AnyNode → Type 0) → P None → P (Some (any_start name e.script.setup (items_of e.script.lines name))) → P (Here 0)
  first_here P none some =
      subst (λ ns. P (node_in ns (place_of k_of name))) (sym first_are) (by (place_of k_of name) refl)
    where
      by : (o : Option ℕ) → place_of k_of name ≡ o → P (node_in (first_nodes any_start e.script k_of) (place_of k_of name))
      by None at = subst (λ o. P (node_in (first_nodes any_start e.script k_of) o)) (sym at) none
      by (Some place) at = subst P (sym (first_stands e.script name place at)) some

  -- ---- a turn

  module _ (count : ℕ) (event : Event) (t : Turn count event) where
    placed : place_of k_of (node_of event) ≡ Some t.place
    placed = subst (λ k. place_of k (node_of event) ≡ Some t.place) (cluster_at e count) t.placed

    stood : node_in (moment e count).nodes (place_of k_of (node_of event)) ≡ Some t.node
    stood = ap (node_in (moment e count).nodes) placed ∙ t.stands

    abbrev pub new : List Packet
    new = map (sent_at t.clock) (any_step t.node (what_of event)).packets

    -- of another
    pub stands_by : (name ≡ node_of event → ⊥) → Here (suc count) ≡ Here count
    stands_by differs =
        ap (λ ns. node_in ns (place_of k_of name)) t.nodes_are
        ∙ there k_of (moment e count).nodes (node_of event) t.place placed (any_step t.node (what_of event)).node name differs

    -- its own
    module _ (own : name ≡ node_of event) where
      pub was : Here count ≡ Some t.node
      was = subst (λ n. node_in (moment e count).nodes (place_of k_of n) ≡ Some t.node) (sym own) stood

      pub now : Here (suc count) ≡ Some (any_step t.node (what_of event)).node
      now =
          ap (λ ns. node_in ns (place_of k_of name)) t.nodes_are
          ∙ subst (λ n. node_in (slice_set (moment e count).nodes t.place (any_step t.node (what_of event)).node) (place_of k_of n)
          ≡ Some (any_step t.node (what_of event)).node) (sym own)
          (here k_of (moment e count).nodes (node_of event) t.place placed (any_step t.node (what_of event)).node t.node t.stands)

  -- ---- from one count to the next

  module _ (base : Setting) (lines : HasLines base e) (Good : ℕ → Type 0)
      (aside : (count : ℕ) → Good count → (new : List Packet) → Sent (suc count) ≡ Sent count ++ new → Here (suc count) ≡ Here count
      → ((p : Packet) → In p new → p.from ≡ name → ⊥) → Good (suc count))
      (own_turn : (count : ℕ) → Good count → (event : Event) → slice_get e.events count ≡ Some event → (t : Turn count event) → name ≡ node_of event
      → Good (suc count)) where
    rests : (count : ℕ) → Good count → (moment e (suc count)).nodes ≡ (moment e count).nodes → Sent (suc count) ≡ Sent count → Good (suc count)
    rests count good nodes sent =
        aside count good [] (sent ∙ sym (append-nil (Sent count))) (ap (λ ns. node_in ns (place_of k_of name)) nodes) (λ p late from. absurd late)

    module _ (count : ℕ) (good : Good count) (event : Event) (t : Turn count event) where
      its_own : (p : Packet) → In p (map (sent_at t.clock) (any_step t.node (what_of event)).packets) → p.from ≡ node_of event
      its_own p late =
          at_clock t.clock (IsFrom (node_of event)) (IsFrom (node_of event)) (λ q h. h) (any_step t.node (what_of event)).packets
          (sends_as base e lines count (node_of event) t.place t.node (what_of event) (placed count event t) (stood count event t)) p late

      other_turn : (name ≡ node_of event → ⊥) → Good (suc count)
      other_turn differs =
          aside count good (map (sent_at t.clock) (any_step t.node (what_of event)).packets) t.sent_are (stands_by count event t differs)
          (λ p late from. differs (sym from ∙ its_own p late))

    next_good : (count : ℕ) → Good count → Good (suc count)
    next_good count good = by (slice_get e.events count) refl
      where
        by : (o : Option Event) → slice_get e.events count ≡ o → Good (suc count)
        by None fact =
            rests count good (ap (λ (v : World AnyNode). v.nodes) (moment_ended e count fact)) (ap (λ (v : World AnyNode). v.sent) (moment_ended e count fact))
        by (Some event) fact =
            ⊎_elim (λ still. rests count good still.nodes_are still.sent_are)
            (λ t. ⊎_elim (own_turn count good event fact t) (other_turn count good event t) (same_or_other name (node_of event))) (became e count event fact)

    pub each_good : Good 0 → (count : ℕ) → Good count
    each_good first zero = first
    each_good first (suc count) = next_good count (each_good first count)

-- the registry stands at its place at first
pub registry_first : (e : Estate AnyNode) → Here e Registry 0 ≡ Some (any_start Registry e.script.setup (items_of e.script.lines Registry))
registry_first e =
    ap (λ ns. node_in ns (place_of (k_of e Registry) Registry)) (first_are e Registry)
    ∙ first_stands e.script Registry (e.script.setup.clients + e.script.setup.managers + e.script.setup.servers + 1) refl
