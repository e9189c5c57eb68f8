-- What is so of the node that has its turn, after it, and stays so of all others is so of each node.
use Rattle.std.proofs.Common.{◌≡◌, ℕ, ◌==◌, Bool, true, false, List, Option, None, Some, slice_get, slice_set, unwrap_or, refl, sym, ap, subst, ◌∙◌, arith}
use Rattle.std.proofs.lemmas.Bool.Decides.{nat_tests}
use Rattle.std.proofs.lemmas.Bool.{eqb-true}
use Rattle.core_world.specs.declared.any_node.AnyNode.{AnyNode}
use Rattle.run_laws.proofs.world_law.Nodes.{get_set_other, get_set_same}
use Rattle.run_laws.proofs.world_law.Places.{one_name}
use Rattle.headline.specs.Moments.{node_in}
use Rattle.world_base.specs.Cluster.{place_of}
use Rattle.world_base.specs.declared.cluster.Cluster.{Cluster}
use Rattle.xfs_base.specs.declared.node.NodeId.{NodeId}

apart : (q place : ℕ) → (q == place) ≡ false → q ≡ place → ⊥
apart q place e = grind (arith, nat_tests)

some_place : (a b : ℕ) → Some a ≡ Some b → a ≡ b
some_place a b e = cc

module _ (k : Cluster) (nodes : List AnyNode) (name : NodeId) (place : ℕ) (at : place_of k name ≡ Some place) (x after : AnyNode)
    (fact : slice_get nodes place ≡ Some x) (P : NodeId → AnyNode → Type 0) (its : P name after)
    (others : (other : NodeId) (y : AnyNode) → (other ≡ name → ⊥) → node_in nodes (place_of k other) ≡ Some y → P other y) where
  pub everyone_so : (other : NodeId) (y : AnyNode) → node_in (slice_set nodes place after) (place_of k other) ≡ Some y → P other y
  everyone_so other y = by (place_of k other) refl
    where
      at_place : (q : ℕ) → place_of k other ≡ Some q → (t : Bool) → (q == place) ≡ t → slice_get (slice_set nodes place after) q ≡ Some y → P other y
      at_place q named true e now_is =
          let same : q ≡ place = eqb-true q place e in
          let own : other ≡ name = one_name k other name place (named ∙ ap Some same) at in
          let is_new : after ≡ y =
          ap (λ o. unwrap_or o after) (sym (get_set_same nodes place after x fact) ∙ (ap (slice_get (slice_set nodes place after)) (sym same) ∙ now_is)) in
          subst (λ n. P n y) (sym own) (subst (P name) is_new its)
      at_place q named false e now_is =
          others other y (λ own. apart q place e (some_place q place (sym named ∙ (ap (place_of k) own ∙ at))))
          (ap (node_in nodes) named ∙ (sym (get_set_other nodes place after q (apart q place e)) ∙ now_is))

      by : (o : Option ℕ) → place_of k other ≡ o → node_in (slice_set nodes place after) o ≡ Some y → P other y
      by None named now_is = absurd cc
      by (Some q) named now_is = at_place q named (q == place) refl now_is
