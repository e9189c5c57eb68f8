-- A round in which one client alone has something to say again: it sends its want once more, and the registry tells the maps.
use Rattle.wire_msg.specs.declared.packet.Do.TheVariants.{Tick}
use Rattle.core_world.specs.declared.any_node.AnyNode.TheVariants as any
use Rattle.std.proofs.lemmas.Option.{same_Some}
use Rattle.world_base.specs.Cluster as cluster
use Rattle.world_base.specs.Cluster.{HasNode, cleaner_place, cluster_of, node_count, nodes_of, place_of}
use Rattle.world_base.specs.declared.cluster.Cluster.{Cluster}
use Rattle.world_base.proofs.Places.{node_stands, node_there}
use Rattle.world_base.proofs.Standing.{stands}
use Rattle.std.specs.List.{range_with_len}
use Rattle.quiet_nodes.specs.Scene.{client_at, node_at, ClientPart, Scene, manager_at, with_client}
use Rattle.node_base.specs.Nodes.{others, peers_of}
use Rattle.core_world.specs.AnyNode.{any_step, as_any}
use Rattle.manager_node.specs.Events.{manager_step}
use Rattle.quiet_flow.specs.Flow.{unclocked}
use Rattle.quiet_gets.proofs.ClientTicks.{asking_ticks, silent_ticks}
use Rattle.quiet_gets.proofs.ManagerTicks.{manager_ticks}
use Rattle.quiet_gets.proofs.OtherTicks.{cleaner_ticks, registry_ticks, server_ticks}
use Rattle.quiet_gets.proofs.Passing.{passes_next, passes_none, passes_silent}
use Rattle.quiet_gets.specs.Passing.{AsksAlone, IsSilent, Passes, all_news, asked_more, news_to, want_again}
use Rattle.quiet_nodes.proofs.Staging.{client_frame, client_put}
use Rattle.quiet_nodes.proofs.Tests.{other_test}
use Rattle.std.proofs.Common.{List, Some, [], ap, arith, cond, false, map, nat_le, nat_lt, refl, subst, suc, sym, true, zero, ℕ, ◌&&◌, ◌++◌, ◌+◌, ◌-◌, ◌<◌, ◌==◌, ◌∙◌, ◌∷◌, ◌≡◌, ◌≤◌}
use Rattle.std.proofs.lemmas.Bool.Decides.{nat_tests}
use Rattle.version_model.specs.declared.work.Work.{Work}
use Rattle.xfs_base.specs.declared.block.BlockId.{BlockId}
use Rattle.xfs_base.specs.declared.node.NodeId.TheVariants.{Cleaner, Client, Manager, Registry, Server}
use Rattle.xfs_base.specs.declared.node.NodeId.{NodeId}
use Rattle.xfs_base.specs.declared.setup.Setup.{Setup}

module _ (setup : Setup) (works : NodeId → List Work) (s : Scene) (c : ℕ) (p : ClientPart) (b : BlockId) (req : ℕ) (h : AsksAlone setup works s c p b req) where
  abbrev places : Cluster
  places = cluster_of setup

  abbrev at_place : ℕ → NodeId
  at_place = cluster.node_at places

  -- the scene once the want is sent again
  abbrev pub asked_scene : Scene
  asked_scene = with_client s c (asked_more setup works p b req)

  abbrev u : Scene
  u = asked_scene

  -- ---- where the two nodes stand that have something to say

  its_place : place_of places (Client c) ≡ Some (c - 1)
  its_place =
      let within : (nat_lt 0 c && nat_le c setup.clients) ≡ true = within_test c setup.clients h.client.0 h.client.1 in
      rw within (ap Some (one_less c))
    where
      within_test : (n m : ℕ) → 1 ≤ n → n ≤ m → (nat_lt 0 n && nat_le n m) ≡ true
      within_test n m least most = grind (arith, nat_tests)

      one_less : (n : ℕ) → 0 + n - 1 ≡ n - 1
      one_less n = omega arith

  -- a node stands at one place
  place_is : (name : NodeId) (at n : ℕ) → n < node_count places → place_of places name ≡ Some at → at_place n ≡ name → n ≡ at
  place_is name at n within its same = same_Some n at (sym (node_stands places n within) ∙ ap (place_of places) same ∙ its)

  client_there : at_place (c - 1) ≡ Client c
  client_there = sym (node_there places (Client c) (c - 1) its_place)

  registry_there : at_place (cleaner_place places + 1) ≡ Registry
  registry_there = sym (node_there places Registry (cleaner_place places + 1) refl)

  -- ---- the others say nothing

  module _ (m : Scene) (same_slots : m.slot ≡ s.slot) (clients : (e : ℕ) → (e ≡ c → ⊥) → m.client e ≡ s.client e) where
    silent_at : (name : NodeId) → HasNode setup name → (name ≡ Client c → ⊥) → (name ≡ Registry → ⊥)
        → any_step (node_at setup works m name) Tick ≡ record { node = node_at setup works m name; packets = []; acts = [] }
    silent_at (Client e) has apart other =
        let differs : e ≡ c → ⊥ = λ same. apart (ap Client same) in
        ap (as_any any.Client) (silent_ticks setup works e (m.client e) (subst (IsSilent setup works e) (sym (clients e differs)) (h.silent e differs has.0 has.1)))
    silent_at (Manager j) has apart other =
        ap (as_any any.Manager) (subst (λ slots. manager_step (manager_at setup works j slots) Tick ≡ record { node = manager_at setup works j slots; packets = []; acts = [] })
        (sym same_slots) (manager_ticks setup works j s.slot h.turns h.jobs))
    silent_at (Server v) has apart other = ap (as_any any.Server) (server_ticks setup works v (m.held v))
    silent_at Cleaner has apart other = ap (as_any any.Cleaner) (cleaner_ticks setup works)
    silent_at Registry has apart other = absurd (other refl)

  -- ---- place by place

  abbrev from_on : ℕ → ℕ → List NodeId
  from_on from n = map at_place (range_with_len from n)

  -- behind the client
  pass_behind : (from n : ℕ) → from + suc n ≡ node_count places → c ≤ from → Passes setup works u (from_on from (suc n)) (all_news setup works) u
  pass_behind from zero end behind = subst (λ name. Passes setup works u (name ∷ []) (all_news setup works) u) (sym (ap at_place last ∙ registry_there)) last_passes
    where
      last : from ≡ cleaner_place places + 1
      last = omega (arith, end)

      unclocked_news : (names : List NodeId) → map unclocked (map (news_to setup works) names) ++ [] ≡ map (news_to setup works) names
      unclocked_news [] = refl
      unclocked_news (name ∷ names) = ap (λ ps. news_to setup works name ∷ ps) (unclocked_news names)

      last_passes : Passes setup works u (Registry ∷ []) (all_news setup works) u
      last_passes =
          subst (λ outs. Passes setup works u (Registry ∷ []) outs u) (unclocked_news (others (peers_of setup) Registry))
          (passes_next setup works u u u Registry [] (all_news setup works) [] tt (ap (as_any any.Registry) (registry_ticks setup works)) (λ other differs. refl)
          (passes_none setup works u))
  pass_behind from (suc n) end behind =
      passes_silent setup works u u (at_place from) (from_on (from + 1) (suc n)) (all_news setup works) (stands setup from)
      (silent_at u refl (λ e differs. ap (λ t. cond t (asked_more setup works p b req) (s.client e)) (other_test e c differs)) (at_place from) (stands setup from)
      (λ same. apart_client (place_is (Client c) (c - 1) from within its_place same)) (λ same. apart_registry (place_is Registry (cleaner_place places + 1) from within refl same)))
      (pass_behind (from + 1) n (omega (arith, end)) (omega (arith, behind)))
    where
      within : from < node_count places
      within = omega (arith, end)

      apart_client : from ≡ c - 1 → ⊥
      apart_client same = let least = h.client.0 in omega (arith, behind, same)

      apart_registry : from ≡ cleaner_place places + 1 → ⊥
      apart_registry same = omega (arith, end, same)

  -- the client itself, and all behind it
  pass_client : (n : ℕ) → (c - 1) + suc (suc n) ≡ node_count places
      → Passes setup works s (from_on (c - 1) (suc (suc n))) (want_again setup works p c b req ∷ all_news setup works) u
  pass_client n end =
      subst (λ name. Passes setup works s (name ∷ from_on (c - 1 + 1) (suc n)) (want_again setup works p c b req ∷ all_news setup works) u) (sym client_there)
      (passes_next setup works s u u (Client c) (from_on (c - 1 + 1) (suc n)) (want_again setup works p c b req ∷ []) (all_news setup works) h.client
      its_tick (client_frame setup works c (asked_more setup works p b req) s)
      (pass_behind (c - 1 + 1) n (omega (arith, end)) (omega arith)))
    where
      its_tick : any_step (node_at setup works s (Client c)) Tick
          ≡ record { node = node_at setup works u (Client c); packets = want_again setup works p c b req ∷ []; acts = [] }
      its_tick =
          ap (λ part. any_step (any.Client (client_at setup works c part)) Tick) h.part
          ∙ ap (as_any any.Client) (asking_ticks setup works c p b req h.asks)
          ∙ ap (λ node. record { node = node; packets = want_again setup works p c b req ∷ []; acts = [] })
          (sym (client_put setup works c (asked_more setup works p b req) s))

  -- a place before it, where the rest is known
  pass_one : (from n : ℕ) → from + suc (suc (suc n)) ≡ node_count places → from ≤ c - 1 → (from ≡ c - 1 → ⊥)
      → Passes setup works s (from_on (from + 1) (suc (suc n))) (want_again setup works p c b req ∷ all_news setup works) u
      → Passes setup works s (from_on from (suc (suc (suc n)))) (want_again setup works p c b req ∷ all_news setup works) u
  pass_one from n end before differs rest =
      passes_silent setup works s u (at_place from) (from_on (from + 1) (suc (suc n))) (want_again setup works p c b req ∷ all_news setup works) (stands setup from)
      (silent_at s refl (λ e other. refl) (at_place from) (stands setup from)
      (λ same. differs (place_is (Client c) (c - 1) from (omega (arith, end)) its_place same))
      (λ same. registry_apart (place_is Registry (cleaner_place places + 1) from (omega (arith, end)) refl same)))
      rest
    where
      registry_apart : from ≡ cleaner_place places + 1 → ⊥
      registry_apart same = omega (arith, end, same)

  equal : (a d : ℕ) → (a == d) ≡ true → a ≡ d
  equal a d same = grind (arith, nat_tests)

  apart : (a d : ℕ) → (a == d) ≡ false → a ≡ d → ⊥
  apart a d differs same = grind (arith, nat_tests)

  less_next : (a d : ℕ) → a ≤ d → (a == d) ≡ false → a + 1 ≤ d
  less_next a d most differs = grind (arith, nat_tests)

  -- the client's own place
  pass_there : (from n : ℕ) → from + suc (suc n) ≡ node_count places → (from == c - 1) ≡ true
      → Passes setup works s (from_on from (suc (suc n))) (want_again setup works p c b req ∷ all_news setup works) u
  pass_there from n end same =
      subst (λ at. Passes setup works s (from_on at (suc (suc n))) (want_again setup works p c b req ∷ all_news setup works) u) (sym (equal from (c - 1) same))
      (pass_client n (subst (λ at. at + suc (suc n) ≡ node_count places) (equal from (c - 1) same) end))

  -- all from a place before it on
  pass_before : (from n : ℕ) → from + suc (suc n) ≡ node_count places → from ≤ c - 1
      → Passes setup works s (from_on from (suc (suc n))) (want_again setup works p c b req ∷ all_news setup works) u
  pass_before from zero end before =
      elim (from == c - 1) as (λ t. (from == c - 1) ≡ t
      → Passes setup works s (from_on from (suc (suc zero))) (want_again setup works p c b req ∷ all_news setup works) u) [
        | true ↦ λ same. pass_there from zero end same
        | false ↦ λ differs. absurd (too_far (less_next from (c - 1) before differs))
      ] refl
    where
      too_far : from + 1 ≤ c - 1 → ⊥
      too_far less = let most = h.client.1 in omega (arith, end, less, most)
  pass_before from (suc n) end before =
      elim (from == c - 1) as (λ t. (from == c - 1) ≡ t
      → Passes setup works s (from_on from (suc (suc (suc n)))) (want_again setup works p c b req ∷ all_news setup works) u) [
        | true ↦ λ same. pass_there from (suc n) end same
        | false ↦ λ differs.
            pass_one from n end before (apart from (c - 1) differs) (pass_before (from + 1) n (omega (arith, end)) (less_next from (c - 1) before differs))
      ] refl

  -- the whole round
  pub round_passes : Passes setup works s (nodes_of places) (want_again setup works p c b req ∷ all_news setup works) u
  round_passes = subst (λ n. Passes setup works s (from_on 0 n) (want_again setup works p c b req ∷ all_news setup works) u) two_more
      (pass_before 0 (cleaner_place places) (omega arith) (omega arith))
    where
      two_more : suc (suc (cleaner_place places)) ≡ node_count places
      two_more = omega arith
