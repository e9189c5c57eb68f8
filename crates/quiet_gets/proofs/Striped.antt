-- A group that a segment lies over can be asked for it: its servers exist and differ, and there are as many as its parity wants.
use Rattle.std.proofs.Common.{◌≡◌, ℕ, ◌+◌, ◌≤◌, ◌==◌, ◌&&◌, Bool, true, false, nat_le, List, [], ◌∷◌, ◌++◌, map, length, Option, Some, All, ap, subst, ◌∙◌, arith}
use Rattle.std.specs.Prelude.{find, nat_eq}
use Rattle.std.specs.List.{AllByRecursion, IsDistinct}
use Rattle.std.proofs.lemmas.Bool.Decides.{nat_tests}
use Rattle.std.proofs.lemmas.List.Elements.{All-head, All-tail}
use Rattle.group_map.proofs.WellFormedMaps.{IsGroupMap-group_map_start}
use Rattle.group_map.specs.declared.group.Group.{Group}
use Rattle.group_map.specs.declared.group.Member.{Member}
use Rattle.group_map.specs.GroupMapState.{GroupMapState}
use Rattle.group_map.specs.Groups.{group_of}
use Rattle.group_map.specs.WellFormed.{IsGroupMap, IsServer, IsStripe}
use Rattle.node_base.specs.Nodes.{has_node, peers_of}
use Rattle.node_base.specs.Setups.{IsSetup}
use Rattle.stripe_code.specs.Stripe.{IsCut}
use Rattle.version_model.specs.declared.work.Work.{Work}
use Rattle.xfs_base.proofs.Booleans.{by_test}
use Rattle.xfs_base.specs.declared.node.NodeId.{NodeId}
use Rattle.xfs_base.specs.declared.node.NodeId.TheVariants.{Server}
use Rattle.xfs_base.specs.declared.setup.Setup.{Setup}
use Rattle.quiet_nodes.proofs.Tests.{le_test}
use Rattle.quiet_nodes.specs.Scene.{its_groups}

-- what is found is one of those that there are
found_is : (P : Group → Type 0) (test : Group → Bool) (gs : List Group) (g : Group) → All P gs → find test gs ≡ Some g → P g
found_is P test [] g all fact = absurd cc
found_is P test (x ∷ gs) g all fact =
    by_test (λ (o : Option Group). o ≡ Some g → P g) (test x) (Some x) (find test gs)
    (λ passes e. let same : x ≡ g = cc in subst P same (All-head P x gs all))
    (λ fails e. found_is P test gs g (All-tail P x gs all) e) fact

module _ (setup : Setup) (works : NodeId → List Work) (ok : IsSetup setup) (id : ℕ) (group : Group) (is : group_of (its_groups setup works) id ≡ Some group) where
  abbrev groups : GroupMapState
  groups = its_groups setup works

  well_formed : IsGroupMap groups
  well_formed = IsGroupMap-group_map_start setup.servers setup.groups ok.count.0 (let few = ok.count.1 in omega arith) ok.sizes ok.exist ok.differ ok.parity

  stripe : IsStripe setup.servers group.parity group.members
  stripe = found_is (λ (g : Group). IsStripe setup.servers g.parity g.members) (λ (g : Group). g.id == id) groups.groups group well_formed.stripes is

  pub is_cut : IsCut (length group.members) group.parity
  is_cut = record {
    some = stripe.one_or_two.0;
    few = stripe.one_or_two.1;
    least = at_least group.parity (length group.members) stripe.size;
    limit = at_most group.parity (length group.members) stripe.size;
  }
    where
      at_least : (p n : ℕ) → (nat_le (p + 2) n && nat_le n 8) ≡ true → p + 2 ≤ n
      at_least p n h = grind (arith, nat_tests)

      at_most : (p n : ℕ) → (nat_le (p + 2) n && nat_le n 8) ≡ true → n ≤ 8
      at_most p n h = grind (arith, nat_tests)

  each_there : (ms : List Member) → All (λ (m : Member). IsServer setup.servers m.server) ms
      → AllByRecursion (λ (m : Member). has_node (peers_of setup) (Server m.server) ≡ true) ms
  each_there [] all = tt
  each_there (m ∷ ms) all =
      let there = All-head (λ (x : Member). IsServer setup.servers x.server) m ms all in (
        ap (λ t. t && nat_le m.server setup.servers) (le_test 1 m.server there.0) ∙ le_test m.server setup.servers there.1,
        each_there ms (All-tail (λ (x : Member). IsServer setup.servers x.server) m ms all),
      )

  pub servers_there : AllByRecursion (λ (m : Member). has_node (peers_of setup) (Server m.server) ≡ true) group.members
  servers_there = each_there group.members stripe.exist

  pub differ : IsDistinct nat_eq (map (λ (m : Member). m.server) group.members)
  differ = stripe.differ

  at_behind : (P : ℕ → Type 0) (before rest : List Member) (m : Member) → AllByRecursion P (map (λ (x : Member). x.server) (before ++ m ∷ rest)) → P m.server
  at_behind P [] rest m all = all.0
  at_behind P (x ∷ before) rest m all = at_behind P before rest m all.1

  apart_from : (before rest : List Member) (m : Member) → IsDistinct nat_eq (map (λ (x : Member). x.server) (before ++ m ∷ rest))
      → AllByRecursion (λ (x : Member). (x.server == m.server) ≡ false) before
  unfolding IsDistinct
  apart_from [] rest m distinct = tt
  apart_from (x ∷ before) rest m distinct =
      (at_behind (λ v. nat_eq x.server v ≡ false) before rest m distinct.0, apart_from before rest m distinct.1)

  -- whoever comes later is another server
  pub all_apart : (before rest : List Member) (m : Member) → group.members ≡ before ++ m ∷ rest → AllByRecursion (λ (x : Member). (x.server == m.server) ≡ false) before
  all_apart before rest m split = apart_from before rest m (subst (λ ms. IsDistinct nat_eq (map (λ (x : Member). x.server) ms)) split differ)
