-- What one event makes of the nodes of a world, of what was sent and of what was done: nothing, or one node takes its step.
use Rattle.std.proofs.Common.{◌≡◌, ℕ, List, [], ◌++◌, Option, Some, None, map, slice_get, slice_set, refl, sym, subst, append-nil}
use Rattle.version_model.specs.declared.act.Act.{Act}
use Rattle.world_base.specs.Cluster.{place_of}
use Rattle.world_base.specs.declared.event.Event.{Event}
use Rattle.world_base.specs.declared.world.World.{World}
use Rattle.world_base.specs.Events.{node_of, what_of}
use Rattle.world_base.specs.NextWorld.{after_turn, at_place, clock_at, world_happen, happen_at, next_world, sent_at, turn_by, turn_of, turned}
use Rattle.wire_msg.specs.declared.packet.Do.{Do}
use Rattle.wire_msg.specs.declared.packet.Packet.{Packet}
use Rattle.wire_msg.specs.NodeStep.{NodeStep}

module _ {N : Type 0} (step : N → Do → NodeStep N) (P : List N → List Packet → List Act → Type 0) (w : World N) (what : Do)
    (still : P w.nodes w.sent w.acts) where
  abbrev Holds : World N → Type 0
  Holds v = P v.nodes v.sent v.acts

  module _ (place : ℕ)
      (turns : (node : N) (clock : ℕ) → slice_get w.nodes place ≡ Some node
      → P (slice_set w.nodes place (step node what).node) (w.sent ++ map (sent_at clock) (step node what).packets) (w.acts ++ (step node what).acts)) where
    by_turn : (clock : ℕ) (o : Option N) → slice_get w.nodes place ≡ o → Holds (after_turn step w place clock (turn_by step w.nodes place what o))
    by_turn clock None fact =
        subst (λ acts. P w.nodes (w.sent ++ []) acts) (sym (append-nil w.acts)) (subst (λ sent. P w.nodes sent w.acts) (sym (append-nil w.sent)) still)
    by_turn clock (Some node) fact = turns node clock fact

    by_clock : (o : Option ℕ) → Holds (turned step w place what o)
    unfolding turn_of
    by_clock None = still
    by_clock (Some clock) = by_turn clock (slice_get w.nodes place) refl

  by_place : (o : Option ℕ)
      → ((place : ℕ) (node : N) (clock : ℕ) → o ≡ Some place → slice_get w.nodes place ≡ Some node
      → P (slice_set w.nodes place (step node what).node) (w.sent ++ map (sent_at clock) (step node what).packets) (w.acts ++ (step node what).acts))
      → Holds (at_place step w what o)
  unfolding happen_at
  by_place None turns = still
  by_place (Some place) turns = by_clock place (λ node clock fact. turns place node clock refl fact) (clock_at w place what)

-- what holds of nodes, packets and acts still holds, where the node that has its turn keeps it
pub next_keeps : {N : Type 0} (step : N → Do → NodeStep N) (P : List N → List Packet → List Act → Type 0) (w : World N) (event : Event)
    → P w.nodes w.sent w.acts
    → ((place : ℕ) (node : N) (clock : ℕ) → place_of w.cluster (node_of event) ≡ Some place → slice_get w.nodes place ≡ Some node
    → P (slice_set w.nodes place (step node (what_of event)).node) (w.sent ++ map (sent_at clock) (step node (what_of event)).packets)
    (w.acts ++ (step node (what_of event)).acts))
    → P (next_world step w event).nodes (next_world step w event).sent (next_world step w event).acts
unfolding world_happen
next_keeps step P w event still turns = by_place step P w (what_of event) still (place_of w.cluster (node_of event)) turns

-- the cluster stays
cluster_turned : {N : Type 0} (step : N → Do → NodeStep N) (w : World N) (place : ℕ) (what : Do) (o : Option ℕ)
    → (turned step w place what o).cluster ≡ w.cluster
cluster_turned step w place what None = refl
cluster_turned step w place what (Some clock) = refl

cluster_placed : {N : Type 0} (step : N → Do → NodeStep N) (w : World N) (what : Do) (o : Option ℕ) → (at_place step w what o).cluster ≡ w.cluster
unfolding happen_at
cluster_placed step w what None = refl
cluster_placed step w what (Some place) = cluster_turned step w place what (clock_at w place what)

pub next_cluster : {N : Type 0} (step : N → Do → NodeStep N) (w : World N) (event : Event) → (next_world step w event).cluster ≡ w.cluster
unfolding world_happen
next_cluster step w event = cluster_placed step w (what_of event) (place_of w.cluster (node_of event))
