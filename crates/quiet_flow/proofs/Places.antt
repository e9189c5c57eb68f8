-- Where nodes stand: what is written at the place of one name is read there, and is not seen at the place of any other.
use Rattle.std.proofs.Common.{◌≡◌, ℕ, ◌+◌, ◌-◌, ◌≤◌, ◌&&◌, true, false, cond, nat_lt, nat_le, List, Option, Some, None, slice_get, slice_set, refl, sym, ap, subst, ◌∙◌, arith}
use Rattle.std.proofs.lemmas.Bool.Decides.{nat_tests}
use Rattle.node_base.specs.Nodes.{has_node, peers_of}
use Rattle.world_base.proofs.Lists.{get_set_other, get_set_same}
use Rattle.world_base.proofs.Places.{node_there}
use Rattle.world_base.specs.Cluster.{HasNode, cluster_of, place_behind, place_of}
use Rattle.world_base.specs.declared.cluster.Cluster.{Cluster}
use Rattle.xfs_base.proofs.NodeOrder.{same_node_itself}
use Rattle.xfs_base.specs.declared.node.NodeId.{NodeId}
use Rattle.xfs_base.specs.declared.node.NodeId.TheVariants.{Client, Manager, Server, Cleaner, Registry}
use Rattle.xfs_base.specs.declared.setup.Setup.{Setup}
use Rattle.xfs_base.specs.Nodes.{same_node}
use Rattle.quiet_flow.specs.Follow.{node_in}

-- two names have no place in common
one_name : (c : Cluster) (a b : NodeId) (p : ℕ) → place_of c a ≡ Some p → place_of c b ≡ Some p → a ≡ b
one_name c a b p at at_ = node_there c a p at ∙ sym (node_there c b p at_)

module _ {N : Type 0} (k : Cluster) (nodes : List N) (name : NodeId) (p : ℕ) (at : place_of k name ≡ Some p) (x : N) where
  pub here : (y : N) → slice_get nodes p ≡ Some y → node_in (slice_set nodes p x) (place_of k name) ≡ Some x
  here y fact = ap (node_in (slice_set nodes p x)) at ∙ get_set_same nodes p x y fact

  pub there : (other : NodeId) → (other ≡ name → ⊥) → node_in (slice_set nodes p x) (place_of k other) ≡ node_in nodes (place_of k other)
  there other differs = by_place (place_of k other) refl
    where
      by_place : (o : Option ℕ) → place_of k other ≡ o → node_in (slice_set nodes p x) o ≡ node_in nodes o
      by_place None fact = refl
      by_place (Some q) fact = get_set_other nodes p x q (λ same. differs (one_name k other name q fact (at ∙ ap Some (sym same))))

-- ---- names

pub not_same : (a b : NodeId) → same_node a b ≡ false → a ≡ b → ⊥
not_same a b h same =
    let yes : same_node a a ≡ true = same_node_itself a in
    let no : same_node a a ≡ false = subst (λ n. same_node a n ≡ false) (sym same) h in
    absurd (cc)

one_of : (count number : ℕ) → (nat_le 1 number && nat_le number count) ≡ true → (1 ≤ number) × (number ≤ count)
one_of count number h = (grind (arith, nat_tests), grind (arith, nat_tests))

-- where the test says so, a setup has a node
pub has_fact : (setup : Setup) (name : NodeId) → has_node (peers_of setup) name ≡ true → HasNode setup name
has_fact setup (Client k) h = one_of setup.clients k h
has_fact setup (Manager k) h = one_of setup.managers k h
has_fact setup (Server k) h = one_of setup.servers k h
has_fact setup Cleaner h = tt
has_fact setup Registry h = tt

none_behind : (first count number : ℕ) → (nat_le 1 number && nat_le number count) ≡ false → place_behind first count number ≡ None
none_behind first count number h = ap (λ t. cond t (Some (first + number - 1)) None) (outside number count h)
  where
    outside : (a c : ℕ) → (nat_le 1 a && nat_le a c) ≡ false → (nat_lt 0 a && nat_le a c) ≡ false
    outside a c h = grind (arith, nat_tests)

-- and else it has no place
pub no_place : (setup : Setup) (name : NodeId) → has_node (peers_of setup) name ≡ false → place_of (cluster_of setup) name ≡ None
no_place setup (Client k) h = none_behind 0 setup.clients k h
no_place setup (Manager k) h = none_behind setup.clients setup.managers k h
no_place setup (Server k) h = none_behind (setup.clients + setup.managers) setup.servers k h
no_place setup Cleaner h = let yes : true ≡ false = h in absurd (cc)
no_place setup Registry h = let yes : true ≡ false = h in absurd (cc)
