-- What an event makes of the shelves of a world: one changes by one call at most, and all others stay.
use Rattle.std.proofs.Common.{◌≡◌, ◌≢◌, ℕ, List, [], ◌∷◌, Option, Some, None, slice_get, slice_set, refl, sym, ap, subst, ◌∙◌}
use Rattle.fragment_store.specs.ShelfState.{ShelfState}
use Rattle.shelf_changes.specs.Changes.ChangesByOne.{Rests}
use Rattle.shelved_nodes.specs.Shelves.{ShelvesChange}
use Rattle.wire_msg.specs.declared.packet.Do.{Do}
use Rattle.wire_msg.specs.NodeStep.{NodeStep}
use Rattle.world_base.proofs.Places.{node_there}
use Rattle.world_base.specs.Cluster.{node_at, place_of}
use Rattle.world_base.specs.declared.event.Event.{Event}
use Rattle.world_base.specs.declared.world.World.{World}
use Rattle.world_base.specs.Events.{node_of, what_of}
use Rattle.world_base.specs.NextWorld.{after_turn, at_place, clock_at, world_happen, happen_at, next_world, turn_by, turn_of, turned}
use Rattle.world_base.specs.Runs.{Leads}
use Rattle.xfs_base.specs.declared.node.NodeId.{NodeId}
use Rattle.disk_play.specs.Courses.{kept_at, kept_by, shelf_at}
use Rattle.disk_play.proofs.Places.{get_set_other, get_set_same}

module _ {N : Type 0} (step : N → Do → NodeStep N) (w : World N) (what : Do) where
  -- the nodes are the same, or the one at a place had its turn
  pub data Turned (place : Option ℕ) (nodes : List N) : Type 0 where
    Same : nodes ≡ w.nodes → Turned place nodes
    Set : (p : ℕ) (node : N) → place ≡ Some p → slice_get w.nodes p ≡ Some node → nodes ≡ slice_set w.nodes p (step node what).node → Turned place nodes

  by_turn : (p clock : ℕ) (o : Option N) → slice_get w.nodes p ≡ o → Turned (Some p) (after_turn step w p clock (turn_by step w.nodes p what o)).nodes
  by_turn p clock None fact = Same refl
  by_turn p clock (Some node) fact = Set p node refl fact refl

  by_clock : (p : ℕ) (o : Option ℕ) → Turned (Some p) (turned step w p what o).nodes
  unfolding turn_of
  by_clock p None = Same refl
  by_clock p (Some clock) = by_turn p clock (slice_get w.nodes p) refl

  by_place : (o : Option ℕ) → Turned o (at_place step w what o).nodes
  unfolding happen_at
  by_place None = Same refl
  by_place (Some p) = by_clock p (clock_at w p what)

  cluster_turned : (p : ℕ) (o : Option ℕ) → (turned step w p what o).cluster ≡ w.cluster
  cluster_turned p None = refl
  cluster_turned p (Some clock) = refl

  cluster_placed : (o : Option ℕ) → (at_place step w what o).cluster ≡ w.cluster
  unfolding happen_at
  cluster_placed None = refl
  cluster_placed (Some p) = cluster_turned p (clock_at w p what)

module _ {N : Type 0} (step : N → Do → NodeStep N) (w : World N) (event : Event) where
  pub next_cluster : (next_world step w event).cluster ≡ w.cluster
  unfolding world_happen
  next_cluster = cluster_placed step w (what_of event) (place_of w.cluster (node_of event))

  next_turned : Turned step w (what_of event) (place_of w.cluster (node_of event)) (next_world step w event).nodes
  unfolding world_happen
  next_turned = by_place step w (what_of event) (place_of w.cluster (node_of event))

  module _ (shelf_of : N → Option ShelfState) where
    -- the shelf of another node stays
    pub others_stay : (name : NodeId) → (name ≡ node_of event → ⊥) → shelf_at shelf_of (next_world step w event) name ≡ shelf_at shelf_of w name
    others_stay name other = ap (λ c. kept_at shelf_of (next_world step w event).nodes (place_of c name)) next_cluster ∙ by next_turned
      where
        at : (nodes : List N) (p : ℕ) (node : N) → place_of w.cluster (node_of event) ≡ Some p → nodes ≡ slice_set w.nodes p (step node (what_of event)).node
            → (o : Option ℕ) → place_of w.cluster name ≡ o → kept_at shelf_of nodes o ≡ kept_at shelf_of w.nodes o
        at nodes p node there is None fact = refl
        at nodes p node there is (Some q) fact =
            let apart : q ≢ p = λ same.
            other (node_there w.cluster name q fact ∙ ap (node_at w.cluster) same ∙ sym (node_there w.cluster (node_of event) p there)) in
            ap (λ ns. kept_at shelf_of ns (Some q)) is
            ∙ ap (λ (o : Option N). kept_by shelf_of o) (get_set_other w.nodes p (step node (what_of event)).node q apart)

        by : Turned step w (what_of event) (place_of w.cluster (node_of event)) (next_world step w event).nodes
            → kept_at shelf_of (next_world step w event).nodes (place_of w.cluster name) ≡ kept_at shelf_of w.nodes (place_of w.cluster name)
        by (Same is) = ap (λ ns. kept_at shelf_of ns (place_of w.cluster name)) is
        by (Set p node there fact is) = at (next_world step w event).nodes p node there is (place_of w.cluster name) refl

    module _ (changes : (node : N) (what : Do) → ShelvesChange what (shelf_of node) (shelf_of (step node what).node)) where
      stays : (what : Do) (o : Option ShelfState) → ShelvesChange what o o
      stays what None = tt
      stays what (Some s) = Rests refl

      -- and that of the node changes by one call at most
      pub own_changes : ShelvesChange (what_of event) (shelf_at shelf_of w (node_of event)) (shelf_at shelf_of (next_world step w event) (node_of event))
      own_changes =
          subst (λ c. ShelvesChange (what_of event) (shelf_at shelf_of w (node_of event)) (kept_at shelf_of (next_world step w event).nodes (place_of c (node_of event))))
          (sym next_cluster) (by next_turned)
        where
          by : Turned step w (what_of event) (place_of w.cluster (node_of event)) (next_world step w event).nodes
              → ShelvesChange (what_of event) (kept_at shelf_of w.nodes (place_of w.cluster (node_of event))) (kept_at shelf_of (next_world step w event).nodes (place_of w.cluster (node_of event)))
          by (Same is) =
              subst (λ ns. ShelvesChange (what_of event) (kept_at shelf_of w.nodes (place_of w.cluster (node_of event))) (kept_at shelf_of ns (place_of w.cluster (node_of event)))) (sym is) (stays (what_of event) (kept_at shelf_of w.nodes (place_of w.cluster (node_of event))))
          by (Set p node there fact is) =
              let was : (kept_at shelf_of w.nodes (place_of w.cluster (node_of event))) ≡ shelf_of node =
              ap (kept_at shelf_of w.nodes) there ∙ ap (kept_by shelf_of) fact in
              let now : kept_at shelf_of (next_world step w event).nodes (place_of w.cluster (node_of event)) ≡ shelf_of (step node (what_of event)).node =
              ap (kept_at shelf_of (next_world step w event).nodes) there ∙ ap (λ ns. kept_at shelf_of ns (Some p)) is
              ∙ ap (kept_by shelf_of) (get_set_same w.nodes p (step node (what_of event)).node node fact) in
              subst (λ o. ShelvesChange (what_of event) o (kept_at shelf_of (next_world step w event).nodes (place_of w.cluster (node_of event)))) (sym was)
              (subst (λ o. ShelvesChange (what_of event) (shelf_of node) o) (sym now) (changes node (what_of event)))

pub leads_cluster : {N : Type 0} (step : N → Do → NodeStep N) (w : World N) (events : List Event) (end : World N) → Leads step w events end
    → end.cluster ≡ w.cluster
leads_cluster step w [] end led = ap (λ v. v.cluster) (sym led)
leads_cluster step w (event ∷ events) end led = leads_cluster step (next_world step w event) events end led.1 ∙ next_cluster step w event
