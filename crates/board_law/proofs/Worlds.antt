-- The registry in the world of all nodes: what happens to it, and what happens beside it.
use Rattle.std.proofs.Common.{◌≡◌, ℕ, ◌+◌, ◌≢◌, true, ◌++◌, length, map, nat_lt, refl, sym, ap, ◌∙◌, subst, append-nil, arith}
use Rattle.std.specs.Prelude.{None, Option, Some, slice_get, slice_index, slice_set}
use Rattle.std.proofs.lemmas.Bool.Decides.{nat_tests}
use Rattle.std.proofs.lemmas.Option.{get_or_from_slice_get, slice_get_within}
use Rattle.registry_node.specs.declared.node.RegistryNode.{RegistryNode}
use Rattle.registry_node.specs.Events.{registry_step}
use Rattle.wire_msg.specs.declared.packet.Do.{Do}
use Rattle.wire_msg.specs.declared.packet.Do.TheVariants.{Begin, Deliver, Tick}
use Rattle.wire_msg.specs.declared.packet.Packet.{Packet}
use Rattle.wire_msg.specs.NodeStep.{NodeStep}
use Rattle.xfs_base.specs.declared.node.NodeId.{NodeId}
use Rattle.xfs_base.specs.declared.node.NodeId.TheVariants.{Registry}
use Rattle.xfs_base.specs.Steps.{Stepped}
use Rattle.world_base.specs.declared.world.World.{World}
use Rattle.world_base.specs.Cluster.{cleaner_place, node_at, place_of}
use Rattle.world_base.specs.Events.{event_of}
use Rattle.world_base.specs.NextWorld.{Turn, after_turn, at_place, clock_after, clock_at, world_happen, happen_at, next_world, sent_at, turn_by, turn_of, turned}
use Rattle.world_base.specs.Runs.{MayHappen, WasSent}
use Rattle.world_base.proofs.Places.{node_there}
use Rattle.board_world.specs.declared.replica.Replica.{Replica}
use Rattle.board_world.specs.BoardRuns.{MayOffer}
use Rattle.board_world.specs.Replicas.{at_clock, replica_happen as takes}
use Rattle.board_law.specs.OneRun.{as_node}
use Rattle.board_law.proofs.Places.{set_elsewhere, set_there, stands_left}

-- the place of the registry
abbrev pub registry_place : {N : Type 0} → World N → ℕ
registry_place w = cleaner_place w.cluster + 1

module _ {N : Type 0} (step : N → Do → NodeStep N) (of : RegistryNode → N) where
  -- it stands in the world
  pub record InWorld (w : World N) (r : Replica) : Type 0 where
    pub node : slice_get w.nodes (registry_place w) ≡ Some (of r.node)
    pub clock : slice_get w.clocks (registry_place w) ≡ Some r.clock

  -- ---- what happens to it

  pub record Taken (w v : World N) (made : Stepped Replica Packet) : Type 0 where
    pub stands : InWorld v made.state
    pub sent : v.sent ≡ w.sent ++ made.outs

  module _ (steps : (node : RegistryNode) (what : Do) → step (of node) what ≡ as_node of (registry_step node what)) (w : World N) (r : Replica) (what : Do)
      (stands : InWorld w r) where
    clock_is : clock_at w (registry_place w) what ≡ clock_after r.clock what
    clock_is =
        let in_nodes : nat_lt (registry_place w) (length w.nodes) ≡ true =
        (let h = slice_get_within w.nodes (registry_place w) (of r.node) stands.node in grind (arith, nat_tests)) in
        let in_clocks : nat_lt (registry_place w) (length w.clocks) ≡ true =
        (let h = slice_get_within w.clocks (registry_place w) r.clock stands.clock in grind (arith, nat_tests)) in
        let index : slice_index w.clocks (registry_place w) ≡ r.clock = get_or_from_slice_get w.clocks (registry_place w) r.clock 0 stands.clock in
        rw (in_nodes, in_clocks, index) refl

    -- the turn of a node at its place
    abbrev as_turn : NodeStep N → Turn N
    as_turn s = record { nodes = slice_set w.nodes (registry_place w) s.node; packets = s.packets; acts = s.acts }

    -- the turn of the node that it is
    abbrev its_turn : Turn N
    its_turn = record {
      nodes = slice_set w.nodes (registry_place w) (of (registry_step r.node what).node);
      packets = (registry_step r.node what).packets;
      acts = (registry_step r.node what).acts;
    }

    turn_is : turn_of step w.nodes (registry_place w) what ≡ its_turn
    unfolding turn_of
    turn_is =
        ap (turn_by step w.nodes (registry_place w) what) stands.node
        ∙ ap as_turn (steps r.node what)

    by_clock : (o : Option ℕ) → Taken w (turned step w (registry_place w) what o) (at_clock r what o)
    by_clock None = record { stands = stands; sent = sym (append-nil w.sent) }
    by_clock (Some clock) =
        subst (λ turn. Taken w (after_turn step w (registry_place w) clock turn) (at_clock r what (Some clock))) (sym turn_is)
        (record {
          stands = record {
            node = set_there w.nodes (registry_place w) (of r.node) (of (registry_step r.node what).node) stands.node;
            clock = set_there w.clocks (registry_place w) r.clock clock stands.clock;
          };
          sent = refl;
        })

    pub registry_takes : Taken w (happen_at step w (registry_place w) what) (takes r what)
    unfolding happen_at takes
    registry_takes = subst (λ o. Taken w (turned step w (registry_place w) what o) (at_clock r what (clock_after r.clock what))) (sym clock_is) (by_clock (clock_after r.clock what))

  happens_there : (w : World N) (what : Do) → world_happen step w Registry what ≡ happen_at step w (registry_place w) what
  unfolding world_happen
  happens_there w what = refl

  -- As an event it may happen, to the registry.
  pub event_happens : (w : World N) (what : Do) → MayOffer w what → next_world step w (event_of Registry what) ≡ happen_at step w (registry_place w) what
  event_happens w Begin may = happens_there w Begin
  event_happens w (Deliver packet) may = ap (λ node. world_happen step w node (Deliver packet)) may.1 ∙ happens_there w (Deliver packet)
  event_happens w Tick may = happens_there w Tick

  pub may_happen : (w : World N) (what : Do) → MayOffer w what → MayHappen w (event_of Registry what)
  may_happen w Begin may = tt
  may_happen w (Deliver packet) may = may.0
  may_happen w Tick may = tt

  -- ---- what happens beside it

  pub record Beside (w v : World N) (r : Replica) : Type 0 where
    pub stands : InWorld v r
    pub later : (packet : Packet) → WasSent w.sent packet → WasSent v.sent packet

  module _ (w : World N) (r : Replica) (what : Do) (stands : InWorld w r) where
    nothing : Beside w w r
    nothing = record { stands = stands; later = λ packet at. at }

    module _ (place : ℕ) (apart : place ≢ registry_place w) where
      turn_stands : (found : Option N) → slice_get (turn_by step w.nodes place what found).nodes (registry_place w) ≡ Some (of r.node)
      turn_stands None = stands.node
      turn_stands (Some node) = set_elsewhere w.nodes place (registry_place w) (of r.node) (step node what).node apart stands.node

      turn_beside : (clock : ℕ) → Beside w (after_turn step w place clock (turn_of step w.nodes place what)) r
      unfolding turn_of
      turn_beside clock = record {
        stands = record {
          node = turn_stands (slice_get w.nodes place);
          clock = set_elsewhere w.clocks place (registry_place w) r.clock clock apart stands.clock;
        };
        later = λ packet at. stands_left w.sent (map (sent_at clock) (turn_by step w.nodes place what (slice_get w.nodes place)).packets) packet at;
      }

      clock_beside : (o : Option ℕ) → Beside w (turned step w place what o) r
      clock_beside None = nothing
      clock_beside (Some clock) = turn_beside clock

      place_beside : Beside w (happen_at step w place what) r
      unfolding happen_at
      place_beside = clock_beside (clock_at w place what)

    -- another node stands at another place
    apart_from : (node : NodeId) → (node ≡ Registry → ⊥) → (place : ℕ) → place_of w.cluster node ≡ Some place → place ≢ registry_place w
    apart_from node other place at same =
        other (node_there w.cluster node place at ∙ ap (node_at w.cluster) same ∙ sym (node_there w.cluster Registry (registry_place w) refl))

    by_place : (node : NodeId) → (node ≡ Registry → ⊥) → (o : Option ℕ) → place_of w.cluster node ≡ o → Beside w (at_place step w what o) r
    by_place node other None e = nothing
    by_place node other (Some place) e = place_beside place (apart_from node other place e)

    pub happens_beside : (node : NodeId) → (node ≡ Registry → ⊥) → Beside w (world_happen step w node what) r
    unfolding world_happen
    happens_beside node other = by_place node other (place_of w.cluster node) refl
