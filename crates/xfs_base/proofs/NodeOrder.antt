-- The order of nodes is total and exact: nodes that are the same by it are one.
use Rattle.std.proofs.Common.{◌≡◌, ℕ, suc, zero, true, false, refl, sym, ap, ◌∙◌, arith}
use Rattle.std.specs.Cmp.{IsTotalOrder}
use Rattle.std.specs.declared.cmp.Ordering.{Ordering}
use Rattle.std.specs.declared.cmp.Ordering.TheVariants.{Less, Equal, Greater}
use Rattle.std.specs.Ordering.{is_eq, nat_cmp, ordering_reverse}
use Rattle.std.proofs.lemmas.Bool.Decides.{nat_tests}
use Rattle.std.proofs.lemmas.Cmp.{on_total, then_total, nat_cmp_total}
use Rattle.std.proofs.lemmas.Map.Lookups.{CmpEqualImpliesEq, exact_unsigned, exact_pairs}
use Rattle.xfs_base.specs.declared.node.NodeId.{NodeId}
use Rattle.xfs_base.specs.declared.node.NodeId.TheVariants.{Client, Manager, Server, Cleaner, Registry}
use Rattle.xfs_base.specs.Nodes.{kind_rank, node_cmp, number_of, same_node}

pub node_total : IsTotalOrder node_cmp
node_total = then_total (on_total kind_rank nat_cmp_total) (on_total number_of nat_cmp_total)

-- the node of this kind and number
node_of : ℕ × ℕ → NodeId
node_of (zero, n) = Client n
node_of (suc zero, n) = Manager n
node_of (suc (suc zero), n) = Server n
node_of (suc (suc (suc zero)), n) = Cleaner
node_of (suc (suc (suc (suc kind))), n) = Registry

back : (a : NodeId) → node_of (kind_rank a, number_of a) ≡ a
unfolding node_of
back (Client n) = refl
back (Manager n) = refl
back (Server n) = refl
back Cleaner = refl
back Registry = refl

pub node_exact : CmpEqualImpliesEq node_cmp
node_exact a b h =
    sym (back a)
    ∙ ap node_of (exact_pairs nat_cmp nat_cmp exact_unsigned exact_unsigned (kind_rank a, number_of a) (kind_rank b, number_of b) h)
    ∙ back b

is_tie : (o : Ordering) → is_eq o ≡ true → o ≡ Equal
is_tie Less e = let f : false ≡ true = e in cc
is_tie Equal e = refl
is_tie Greater e = let f : false ≡ true = e in cc

pub same_node_is : (a b : NodeId) → same_node a b ≡ true → a ≡ b
same_node_is a b e = node_exact a b (is_tie (node_cmp a b) e)

same_number : (n : ℕ) → is_eq (nat_cmp n n) ≡ true
same_number n = grind (arith, nat_tests)

pub same_node_itself : (a : NodeId) → same_node a a ≡ true
same_node_itself (Client n) = same_number n
same_node_itself (Manager n) = same_number n
same_node_itself (Server n) = same_number n
same_node_itself Cleaner = refl
same_node_itself Registry = refl

is_eq_reverse : (o : Ordering) → is_eq (ordering_reverse o) ≡ is_eq o
is_eq_reverse Less = refl
is_eq_reverse Equal = refl
is_eq_reverse Greater = refl

-- whether two nodes are one does not hang on their order
pub same_node_swap : (a b : NodeId) → same_node a b ≡ same_node b a
same_node_swap a b = ap is_eq (node_total.antisymm a b) ∙ is_eq_reverse (node_cmp b a)
