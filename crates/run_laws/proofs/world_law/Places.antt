-- Where nodes stand: two names have no place in common.
use Rattle.std.proofs.Common.{◌≡◌, ℕ, ◌+◌, ◌-◌, ◌≤◌, ◌<◌, ◌==◌, ◌&&◌, true, false, cond, nat_lt, nat_le, Some, None, unwrap_or, refl, sym, ap, ◌∙◌, arith}
use Rattle.std.proofs.lemmas.Bool.Decides.{nat_tests}
use Rattle.std.proofs.lemmas.Bool.{le-ltb, lt-ltb}
use Rattle.world_base.specs.Cluster.{place_of, place_behind, node_at, first_manager, first_server, cleaner_place}
use Rattle.world_base.specs.declared.cluster.Cluster.{Cluster}
use Rattle.xfs_base.specs.declared.node.NodeId.{NodeId}
use Rattle.xfs_base.specs.declared.node.NodeId.TheVariants.{Client, Manager, Server, Cleaner, Registry}
use Rattle.xfs_base.proofs.Booleans.{equal_itself}

-- a node that has a place behind others
pub record Behind (first count number p : ℕ) : Type 0 where
  pub some : 0 < number
  pub within : number ≤ count
  pub place : p ≡ first + number - 1

pub some_place : (a p : ℕ) → Some a ≡ Some p → p ≡ a
some_place a p fact = sym (ap (λ o. unwrap_or o 0) fact)

pub behind : (first count number p : ℕ) → place_behind first count number ≡ Some p → Behind first count number p
behind first count number p =
    elim (nat_lt 0 number && nat_le number count) as
    (λ t. (nat_lt 0 number && nat_le number count) ≡ t → cond t (Some (first + number - 1)) None ≡ Some p → Behind first count number p) [
      | true ↦ λ h fact. record { some = positive number count h; within = limit number count h; place = some_place (first + number - 1) p fact }
      | false ↦ λ h fact. absurd (cc)
    ] refl
  where
    positive : (a c : ℕ) → (nat_lt 0 a && nat_le a c) ≡ true → 0 < a
    positive a c h = grind (arith, nat_tests)

    limit : (a c : ℕ) → (nat_lt 0 a && nat_le a c) ≡ true → a ≤ c
    limit a c h = grind (arith, nat_tests)

unequal : (a c : ℕ) → c < a → (a == c) ≡ false
unequal a c h = grind (arith, nat_tests)

-- the last two, then servers, then managers
abbrev last_two : Cluster → ℕ → NodeId
last_two c p = cond (p == cleaner_place c) Cleaner Registry

abbrev from_servers : Cluster → ℕ → NodeId
from_servers c p = cond (nat_lt p (cleaner_place c)) (Server (p - first_server c + 1)) (last_two c p)

abbrev from_managers : Cluster → ℕ → NodeId
from_managers c p = cond (nat_lt p (first_server c)) (Manager (p - first_manager c + 1)) (from_servers c p)

behind_clients : (c : Cluster) (p : ℕ) → c.clients ≤ p → node_at c p ≡ from_managers c p
behind_clients c p h = ap (λ t. cond t (Client (p + 1)) (from_managers c p)) (le-ltb p c.clients h)

behind_managers : (c : Cluster) (p : ℕ) → first_server c ≤ p → from_managers c p ≡ from_servers c p
behind_managers c p h = ap (λ t. cond t (Manager (p - first_manager c + 1)) (from_servers c p)) (le-ltb p (first_server c) h)

behind_servers : (c : Cluster) (p : ℕ) → cleaner_place c ≤ p → from_servers c p ≡ last_two c p
behind_servers c p h = ap (λ t. cond t (Server (p - first_server c + 1)) (last_two c p)) (le-ltb p (cleaner_place c) h)

-- the node at the place of a name has that name
pub node_at_place : (c : Cluster) (node : NodeId) (p : ℕ) → place_of c node ≡ Some p → node_at c p ≡ node
node_at_place c (Client k) p fact =
    let b = behind 0 c.clients k p fact in let place = b.place in let some = b.some in let within = b.within in
    ap (λ t. cond t (Client (p + 1)) (from_managers c p)) (lt-ltb p c.clients (omega arith)) ∙ ap Client (omega arith)
node_at_place c (Manager k) p fact =
    let b = behind (first_manager c) c.managers k p fact in let place = b.place in let some = b.some in let within = b.within in
    behind_clients c p (omega arith)
    ∙ (ap (λ t. cond t (Manager (p - first_manager c + 1)) (from_servers c p)) (lt-ltb p (first_server c) (omega arith)) ∙ ap Manager (omega arith))
node_at_place c (Server k) p fact =
    let b = behind (first_server c) c.servers k p fact in let place = b.place in let some = b.some in let within = b.within in
    behind_clients c p (omega arith)
    ∙ (behind_managers c p (omega arith)
    ∙ (ap (λ t. cond t (Server (p - first_server c + 1)) (last_two c p)) (lt-ltb p (cleaner_place c) (omega arith)) ∙ ap Server (omega arith)))
node_at_place c Cleaner p fact =
    let place : p ≡ cleaner_place c = some_place (cleaner_place c) p fact in
    behind_clients c p (omega arith)
    ∙ (behind_managers c p (omega arith) ∙ (behind_servers c p (omega arith)
    ∙ ap (λ t. cond t Cleaner Registry) (ap (λ k. p == k) (sym place) ∙ equal_itself p)))
node_at_place c Registry p fact =
    let place : p ≡ cleaner_place c + 1 = some_place (cleaner_place c + 1) p fact in
    behind_clients c p (omega arith)
    ∙ (behind_managers c p (omega arith) ∙ (behind_servers c p (omega arith) ∙ ap (λ t. cond t Cleaner Registry) (unequal p (cleaner_place c) (omega arith))))

-- two names have no place in common
pub one_name : (c : Cluster) (a d : NodeId) (p : ℕ) → place_of c a ≡ Some p → place_of c d ≡ Some p → a ≡ d
one_name c a d p at at_ = sym (node_at_place c a p at) ∙ node_at_place c d p at_
