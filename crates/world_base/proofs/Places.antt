-- A node stands at the one place that has its name.
use Rattle.std.proofs.Common.{◌≡◌, refl, sym, ap, subst, ◌∙◌, ℕ, ◌+◌, ◌-◌, ◌<◌, ◌≤◌, Bool, true, false, cond, ◌&&◌, ◌==◌, nat_lt, Option, Some, None, arith}
use Rattle.std.specs.Prelude.{nat_le}
use Rattle.std.proofs.lemmas.Bool.Decides.{nat_tests}
use Rattle.std.proofs.lemmas.Option.{cond_some, same_Some}
use Rattle.xfs_base.specs.declared.node.NodeId.{NodeId}
use Rattle.xfs_base.specs.declared.node.NodeId.TheVariants as nodes
use Rattle.xfs_base.specs.declared.setup.Setup.{Setup}
use Rattle.world_base.specs.declared.cluster.Cluster.{Cluster}
use Rattle.world_base.specs.Cluster.{HasNode, cleaner_place, cluster_of, first_manager, first_server, node_at, node_count, place_behind, place_of}

-- the place of the node of a number
behind : (first count n p : ℕ) → 0 < n → n ≤ count → first + n ≡ p + 1 → place_behind first count n ≡ Some p
behind first count n p some most is =
    let within : (nat_lt 0 n && nat_le n count) ≡ true = grind (arith, nat_tests) in
    let at : first + n - 1 ≡ p = omega arith in
    rw within (ap Some at)

record Behind (first count n p : ℕ) : Type 0 where
  pub some : 0 < n
  pub most : n ≤ count
  pub at : first + n ≡ p + 1

behind_is : (first count n p : ℕ) → place_behind first count n ≡ Some p → Behind first count n p
behind_is first count n p e =
    let h = cond_some (nat_lt 0 n && nat_le n count) (first + n - 1) p e in
    let test = h.0 in
    let at = h.1 in
    let some : 0 < n = grind (arith, nat_tests) in
    let most : n ≤ count = grind (arith, nat_tests) in
    record { some = some; most = most; at = omega arith }

module _ (c : Cluster) (p : ℕ) (within : p < node_count c) where
  last_there : nat_lt p (cleaner_place c) ≡ false → (is_cleaner : Bool) → (p == cleaner_place c) ≡ is_cleaner
      → place_of c (cond is_cleaner nodes.Cleaner nodes.Registry) ≡ Some p
  last_there past true e = let at : cleaner_place c ≡ p = grind (arith, nat_tests) in ap Some at
  last_there past false e = let at : cleaner_place c + 1 ≡ p = grind (arith, nat_tests) in ap Some at

  server_there : nat_lt p (first_server c) ≡ false → (is_server : Bool) → nat_lt p (cleaner_place c) ≡ is_server
      → place_of c (cond is_server (nodes.Server (p - first_server c + 1)) (cond (p == cleaner_place c) nodes.Cleaner nodes.Registry)) ≡ Some p
  server_there past true e =
      let from : first_server c ≤ p = grind (arith, nat_tests) in
      let below : p < cleaner_place c = grind (arith, nat_tests) in
      behind (first_server c) c.servers (p - first_server c + 1) p (omega arith) (omega arith) (omega arith)
  server_there past false e = last_there e (p == cleaner_place c) refl

  manager_there : nat_lt p (first_manager c) ≡ false → (is_manager : Bool) → nat_lt p (first_server c) ≡ is_manager
      → place_of c
      (cond is_manager (nodes.Manager (p - first_manager c + 1))
      (cond (nat_lt p (cleaner_place c)) (nodes.Server (p - first_server c + 1)) (cond (p == cleaner_place c) nodes.Cleaner nodes.Registry))) ≡ Some p
  manager_there past true e =
      let from : first_manager c ≤ p = grind (arith, nat_tests) in
      let below : p < first_server c = grind (arith, nat_tests) in
      behind (first_manager c) c.managers (p - first_manager c + 1) p (omega arith) (omega arith) (omega arith)
  manager_there past false e = server_there e (nat_lt p (cleaner_place c)) refl

  client_there : (is_client : Bool) → nat_lt p (first_manager c) ≡ is_client
      → place_of c
      (cond is_client (nodes.Client (p + 1))
      (cond (nat_lt p (first_server c)) (nodes.Manager (p - first_manager c + 1))
      (cond (nat_lt p (cleaner_place c)) (nodes.Server (p - first_server c + 1)) (cond (p == cleaner_place c) nodes.Cleaner nodes.Registry)))) ≡ Some p
  client_there true e =
      let below : p < first_manager c = grind (arith, nat_tests) in
      behind 0 c.clients (p + 1) p (omega arith) (omega arith) (omega arith)
  client_there false e = manager_there e (nat_lt p (first_server c)) refl

  -- the node at a place stands there
  pub node_stands : place_of c (node_at c p) ≡ Some p
  node_stands = client_there (nat_lt p (first_manager c)) refl

-- and no other node does
pub node_there : (c : Cluster) (node : NodeId) (p : ℕ) → place_of c node ≡ Some p → node ≡ node_at c p
node_there c (nodes.Client k) p e =
    let b = behind_is 0 c.clients k p e in
    let some = b.some in
    let most = b.most in
    let at = b.at in
    let here : nat_lt p (first_manager c) ≡ true = grind (arith, nat_tests) in
    let same : k ≡ p + 1 = omega arith in
    rw here (ap nodes.Client same)
node_there c (nodes.Manager k) p e =
    let b = behind_is (first_manager c) c.managers k p e in
    let some = b.some in
    let most = b.most in
    let at = b.at in
    let past : nat_lt p (first_manager c) ≡ false = grind (arith, nat_tests) in
    let here : nat_lt p (first_server c) ≡ true = grind (arith, nat_tests) in
    let same : k ≡ p - first_manager c + 1 = omega arith in
    rw (past, here) (ap nodes.Manager same)
node_there c (nodes.Server k) p e =
    let b = behind_is (first_server c) c.servers k p e in
    let some = b.some in
    let most = b.most in
    let at = b.at in
    let past : nat_lt p (first_manager c) ≡ false = grind (arith, nat_tests) in
    let later : nat_lt p (first_server c) ≡ false = grind (arith, nat_tests) in
    let here : nat_lt p (cleaner_place c) ≡ true = grind (arith, nat_tests) in
    let same : k ≡ p - first_server c + 1 = omega arith in
    rw (past, later, here) (ap nodes.Server same)
node_there c nodes.Cleaner p e =
    let at : cleaner_place c ≡ p = same_Some (cleaner_place c) p e in
    let past : nat_lt p (first_manager c) ≡ false = grind (arith, nat_tests) in
    let later : nat_lt p (first_server c) ≡ false = grind (arith, nat_tests) in
    let last : nat_lt p (cleaner_place c) ≡ false = grind (arith, nat_tests) in
    let here : (p == cleaner_place c) ≡ true = grind (arith, nat_tests) in
    rw (past, later, last, here) refl
node_there c nodes.Registry p e =
    let at : cleaner_place c + 1 ≡ p = same_Some (cleaner_place c + 1) p e in
    let past : nat_lt p (first_manager c) ≡ false = grind (arith, nat_tests) in
    let later : nat_lt p (first_server c) ≡ false = grind (arith, nat_tests) in
    let last : nat_lt p (cleaner_place c) ≡ false = grind (arith, nat_tests) in
    let here : (p == cleaner_place c) ≡ false = grind (arith, nat_tests) in
    rw (past, later, last, here) refl

-- a place of a node is one of the places
pub place_within : (c : Cluster) (node : NodeId) (p : ℕ) → place_of c node ≡ Some p → p < node_count c
place_within c (nodes.Client k) p e = let b = behind_is 0 c.clients k p e in let most = b.most in let at = b.at in omega arith
place_within c (nodes.Manager k) p e = let b = behind_is (first_manager c) c.managers k p e in let most = b.most in let at = b.at in omega arith
place_within c (nodes.Server k) p e = let b = behind_is (first_server c) c.servers k p e in let most = b.most in let at = b.at in omega arith
place_within c nodes.Cleaner p e = let at : cleaner_place c ≡ p = same_Some (cleaner_place c) p e in omega arith
place_within c nodes.Registry p e = let at : cleaner_place c + 1 ≡ p = same_Some (cleaner_place c + 1) p e in omega arith

-- each node that a setup has stands at a place
pub place_had : (setup : Setup) (node : NodeId) → HasNode setup node → (p : ℕ) × (place_of (cluster_of setup) node ≡ Some p)
place_had setup (nodes.Client k) had =
    let least = had.0 in
    let most = had.1 in
    (k - 1, behind 0 setup.clients k (k - 1) (omega arith) (omega arith) (omega arith))
place_had setup (nodes.Manager k) had =
    let least = had.0 in
    let most = had.1 in
    let first = first_manager (cluster_of setup) in
    (first + k - 1, behind first setup.managers k (first + k - 1) (omega arith) (omega arith) (omega arith))
place_had setup (nodes.Server k) had =
    let least = had.0 in
    let most = had.1 in
    let first = first_server (cluster_of setup) in
    (first + k - 1, behind first setup.servers k (first + k - 1) (omega arith) (omega arith) (omega arith))
place_had setup nodes.Cleaner had = (cleaner_place (cluster_of setup), refl)
place_had setup nodes.Registry had = (cleaner_place (cluster_of setup) + 1, refl)
