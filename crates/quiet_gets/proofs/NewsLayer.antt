-- The maps of the setup come to all nodes but the registry, which know them: nothing changes.
use Rattle.wire_msg.specs.declared.packet.Do.TheVariants.{Deliver}
use Rattle.core_world.specs.declared.any_node.AnyNode.TheVariants as any
use Rattle.node_base.specs.Nodes as nodes
use Rattle.node_base.specs.Nodes.{has_node, is_other, others, peers_of}
use Rattle.std.specs.List.{AllByRecursion, range_with_len}
use Rattle.std.specs.Prelude.{filter}
use Rattle.std.proofs.lemmas.List.FromFn.{length-map-range_with_len}
use Rattle.quiet_nodes.specs.Scene.{node_at, Scene, serving_at}
use Rattle.client_running.specs.Running.{run}
use Rattle.core_world.specs.AnyNode.{any_step, as_any}
use Rattle.quiet_flow.proofs.Places.{has_fact}
use Rattle.quiet_gets.proofs.ClientNews.{news_come}
use Rattle.quiet_gets.proofs.ManagerTicks.{manager_news}
use Rattle.quiet_gets.proofs.OtherTicks.{cleaner_news, registry_news, server_news}
use Rattle.quiet_gets.specs.Laws.{told_nodes}
use Rattle.quiet_gets.specs.Passing.{news_to}
use Rattle.quiet_nodes.proofs.Begins.{HasRoom}
use Rattle.quiet_nodes.proofs.Moving.{moves_next, moves_none}
use Rattle.quiet_nodes.proofs.Rooms.{HaveTurns}
use Rattle.quiet_nodes.specs.Moves.{Moves}
use Rattle.std.proofs.Common.{Bool, List, [], ap, arith, cond, false, length, map, nat_le, refl, suc, true, zero, ℕ, ◌&&◌, ◌++◌, ◌+◌, ◌∷◌, ◌≡◌, ◌≤◌}
use Rattle.std.proofs.lemmas.Bool.Decides.{nat_tests}
use Rattle.version_model.specs.declared.work.Work.{Work}
use Rattle.world_base.specs.Cluster.{HasNode}
use Rattle.xfs_base.specs.declared.node.NodeId.TheVariants.{Cleaner, Client, Manager, Registry, Server}
use Rattle.xfs_base.specs.declared.node.NodeId.{NodeId}
use Rattle.xfs_base.specs.declared.setup.Setup.{Setup}

module _ (setup : Setup) (works : NodeId → List Work) (u : Scene) (turns : HaveTurns u.slot)
    (rooms : (e : ℕ) → 1 ≤ e → e ≤ setup.clients → HasRoom setup works e (u.client e))
    (waits : (e : ℕ) → 1 ≤ e → e ≤ setup.clients → run (serving_at setup works e (u.client e)) ≡ record { state = serving_at setup works e (u.client e); outs = [] }) where
  comes : (name : NodeId) → HasNode setup name
      → any_step (node_at setup works u name) (Deliver (news_to setup works name)) ≡ record { node = node_at setup works u name; packets = []; acts = [] }
  comes (Client e) has = ap (as_any any.Client) (news_come setup works e (u.client e) (rooms e has.0 has.1) (waits e has.0 has.1))
  comes (Manager j) has = ap (as_any any.Manager) (manager_news setup works j u.slot turns)
  comes (Server v) has = ap (as_any any.Server) (server_news setup works v (u.held v))
  comes Cleaner has = ap (as_any any.Cleaner) (cleaner_news setup works)
  comes Registry has = ap (as_any any.Registry) (registry_news setup works)

  abbrev IsThere : NodeId → Type 0
  IsThere name = has_node (peers_of setup) name ≡ true

  pub news_move : (names : List NodeId) → AllByRecursion IsThere names → Moves setup works u (map (news_to setup works) names) [] [] u
  news_move [] all = moves_none setup works u
  news_move (name ∷ names) all =
      moves_next setup works u u u (news_to setup works name) [] (map (news_to setup works) names) [] [] [] all.0 (comes name (has_fact setup name all.0))
      (λ other differs. refl) (news_move names all.1)

-- ---- who they come to

module _ (setup : Setup) where
  abbrev is_there : NodeId → Type 0
  is_there name = has_node (peers_of setup) name ≡ true

  both_there : (xs ys : List NodeId) → AllByRecursion is_there xs → AllByRecursion is_there ys → AllByRecursion is_there (xs ++ ys)
  both_there [] ys first second = second
  both_there (x ∷ xs) ys first second = (first.0, both_there xs ys first.1 second)

  some_there : (test : NodeId → Bool) (xs : List NodeId) → AllByRecursion is_there xs → AllByRecursion is_there (filter test xs)
  some_there test [] all = tt
  some_there test (x ∷ xs) all =
      elim (test x) as (λ t. AllByRecursion is_there (cond t (x ∷ filter test xs) (filter test xs)))
      [ true ↦ (all.0, some_there test xs all.1) | false ↦ some_there test xs all.1 ]

  in_range : (count from : ℕ) → from + 1 ≤ count → (nat_le 1 (from + 1) && nat_le (from + 1) count) ≡ true
  in_range count from less = grind (arith, nat_tests)

  numbered : (kind : ℕ → NodeId) (count : ℕ) → ((from : ℕ) → from + 1 ≤ count → is_there (kind from)) → (from n : ℕ) → from + n ≤ count
      → AllByRecursion is_there (map kind (range_with_len from n))
  numbered kind count each from zero few = tt
  numbered kind count each from (suc n) few = (each from (omega arith), numbered kind count each (from + 1) n (omega arith))

  pub others_there : AllByRecursion is_there (others (peers_of setup) Registry)
  others_there =
      some_there (is_other Registry) (nodes.peers_all (peers_of setup))
      (both_there (nodes.clients setup.clients) (nodes.managers setup.managers ++ (nodes.servers setup.servers ++ Cleaner ∷ Registry ∷ []))
      (numbered nodes.nth_client setup.clients (in_range setup.clients) 0 setup.clients (omega arith))
      (both_there (nodes.managers setup.managers) (nodes.servers setup.servers ++ Cleaner ∷ Registry ∷ [])
      (numbered nodes.nth_manager setup.managers (in_range setup.managers) 0 setup.managers (omega arith))
      (both_there (nodes.servers setup.servers) (Cleaner ∷ Registry ∷ [])
      (numbered nodes.nth_server setup.servers (in_range setup.servers) 0 setup.servers (omega arith)) (refl, (refl, tt)))))

  -- ---- how many they are

  few_others : (xs ys : List NodeId) → length (filter (is_other Registry) (xs ++ ys)) ≤ length xs + length (filter (is_other Registry) ys)
  few_others [] ys = omega arith
  few_others (x ∷ xs) ys =
      elim (is_other Registry x) as
      (λ t. length (cond t (x ∷ filter (is_other Registry) (xs ++ ys)) (filter (is_other Registry) (xs ++ ys))) ≤ length (x ∷ xs) + length (filter (is_other Registry) ys)) [
        | true ↦ let rest = few_others xs ys in omega arith
        | false ↦ let rest = few_others xs ys in omega arith
      ]

  pub how_many_told : length (others (peers_of setup) Registry) ≤ told_nodes setup
  how_many_told =
      let one = few_others (nodes.clients setup.clients) (nodes.managers setup.managers ++ (nodes.servers setup.servers ++ Cleaner ∷ Registry ∷ [])) in
      let two = few_others (nodes.managers setup.managers) (nodes.servers setup.servers ++ Cleaner ∷ Registry ∷ []) in
      let three = few_others (nodes.servers setup.servers) (Cleaner ∷ Registry ∷ []) in
      let clients = length-map-range_with_len nodes.nth_client 0 setup.clients in
      let managers = length-map-range_with_len nodes.nth_manager 0 setup.managers in
      let servers = length-map-range_with_len nodes.nth_server 0 setup.servers in
      let last : length (filter (is_other Registry) (Cleaner ∷ Registry ∷ [])) ≡ 1 = refl in
      omega arith
