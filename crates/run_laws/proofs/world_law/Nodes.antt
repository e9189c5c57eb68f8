-- A node that is put at its own place stands there, and all others stand where they stood.
use Rattle.std.proofs.Common.{◌≡◌, ℕ, List, Option, None, Some, slice_get, slice_set, refl, sym, ap, ◌∙◌}
use Rattle.core_world.specs.declared.any_node.AnyNode.{AnyNode}
pub use Rattle.world_base.proofs.Lists.{get_set_other, get_set_same}
use Rattle.world_base.specs.Cluster.{place_of}
use Rattle.world_base.specs.declared.cluster.Cluster.{Cluster}
use Rattle.run_laws.proofs.world_law.Places.{one_name}
use Rattle.headline.specs.Moments.{node_in}
use Rattle.xfs_base.specs.declared.node.NodeId.{NodeId}

module _ (k : Cluster) (nodes : List AnyNode) (name : NodeId) (p : ℕ) (at : place_of k name ≡ Some p) (x : AnyNode) where
  pub here : (y : AnyNode) → slice_get nodes p ≡ Some y → node_in (slice_set nodes p x) (place_of k name) ≡ Some x
  here y fact = ap (node_in (slice_set nodes p x)) at ∙ get_set_same nodes p x y fact

  pub there : (other : NodeId) → (other ≡ name → ⊥) → node_in (slice_set nodes p x) (place_of k other) ≡ node_in nodes (place_of k other)
  there other differs = by_place (place_of k other) refl
    where
      by_place : (o : Option ℕ) → place_of k other ≡ o → node_in (slice_set nodes p x) o ≡ node_in nodes o
      by_place None fact = refl
      by_place (Some q) fact = get_set_other nodes p x q (λ same. differs (one_name k other name q fact (at ∙ ap Some (sym same))))
