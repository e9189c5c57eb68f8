-- How many events of a kind there are among deliveries, and in a round, in which time passes once at each node.
use Rattle.std.proofs.Common.{◌≡◌, ℕ, zero, suc, ◌+◌, ◌<◌, ◌≤◌, Bool, true, false, cond, List, [], ◌∷◌, ◌++◌, length, map, Some, refl, sym, ap, ◌∙◌, arith}
use Rattle.std.specs.List.{AllByRecursion, count_by, range_with_len}
use Rattle.std.proofs.lemmas.List.Sums.{sum_by-append, sum_by-cons}
use Rattle.std.proofs.lemmas.Option.{same_Some}
use Rattle.wire_msg.specs.declared.packet.Packet.{Packet}
use Rattle.world_base.proofs.Places.{node_stands}
use Rattle.world_base.specs.Cluster.{node_at, node_count, nodes_of, place_of}
use Rattle.world_base.specs.declared.cluster.Cluster.{Cluster}
use Rattle.world_base.specs.declared.event.Event.{Event}
use Rattle.world_base.specs.declared.event.Event.TheVariants.{Deliver, Tick}
use Rattle.world_base.specs.Runs.{begun_in}
use Rattle.xfs_base.proofs.NodeOrder.{same_node_is}
use Rattle.xfs_base.specs.declared.node.NodeId.{NodeId}
use Rattle.xfs_base.specs.Nodes.{same_node}
use Rattle.headline.specs.Bounds.{is_delivery, is_tick_of}

module _ {X : Type 0} (test : X → Bool) where
  pub count_both : (xs ys : List X) → count_by test (xs ++ ys) ≡ count_by test xs + count_by test ys
  count_both xs ys = sum_by-append (λ x. cond (test x) 1 0) xs ys

  pub count_next : (x : X) (xs : List X) → count_by test (x ∷ xs) ≡ cond (test x) 1 0 + count_by test xs
  count_next x xs = sum_by-cons (λ x. cond (test x) 1 0) x xs

  pub count_hit : (x : X) (xs : List X) → test x ≡ true → count_by test (x ∷ xs) ≡ 1 + count_by test xs
  count_hit x xs hit = count_next x xs ∙ ap (λ t. cond t 1 0 + count_by test xs) hit

  pub count_miss : (x : X) (xs : List X) → test x ≡ false → count_by test (x ∷ xs) ≡ count_by test xs
  count_miss x xs miss = count_next x xs ∙ ap (λ t. cond t 1 0 + count_by test xs) miss ∙ none_plus (count_by test xs)
    where
      none_plus : (n : ℕ) → 0 + n ≡ n
      none_plus n = omega arith

  pub count_none : (xs : List X) → AllByRecursion (λ x. test x ≡ false) xs → count_by test xs ≡ 0
  count_none [] none = refl
  count_none (x ∷ xs) none = count_miss x xs none.0 ∙ count_none xs none.1

  -- a part of a list has no more than the whole
  pub count_part : (before between after : List X) → count_by test between ≤ count_by test (before ++ (between ++ after))
  count_part before between after =
      let whole = count_both before (between ++ after) in
      let rest = count_both between after in
      omega arith

-- ---- deliveries

pub all_deliveries : (packets : List Packet) → count_by is_delivery (map Deliver packets) ≡ length packets
all_deliveries [] = refl
all_deliveries (p ∷ packets) =
    let next = count_hit is_delivery (Deliver p) (map Deliver packets) refl in
    let rest = all_deliveries packets in
    omega arith

no_tick : (node : NodeId) (packets : List Packet) → AllByRecursion (λ event. is_tick_of node event ≡ false) (map Deliver packets)
no_tick node [] = tt
no_tick node (p ∷ packets) = (refl, no_tick node packets)

pub no_ticks : (node : NodeId) (packets : List Packet) → count_by (is_tick_of node) (map Deliver packets) ≡ 0
no_ticks node packets = count_none (is_tick_of node) (map Deliver packets) (no_tick node packets)

pub none_begun : (packets : List Packet) → begun_in (map Deliver packets) ≡ []
none_begun [] = refl
none_begun (p ∷ packets) = none_begun packets

-- ---- a round

no_delivery : (names : List NodeId) → AllByRecursion (λ event. is_delivery event ≡ false) (map Tick names)
no_delivery [] = tt
no_delivery (n ∷ names) = (refl, no_delivery names)

pub no_deliveries : (names : List NodeId) → count_by is_delivery (map Tick names) ≡ 0
no_deliveries names = count_none is_delivery (map Tick names) (no_delivery names)

pub none_begun_in_round : (names : List NodeId) → begun_in (map Tick names) ≡ []
none_begun_in_round [] = refl
none_begun_in_round (n ∷ names) = none_begun_in_round names

module _ (c : Cluster) (node : NodeId) where
  abbrev ticks_from : ℕ → ℕ → List Event
  ticks_from from n = map Tick (map (node_at c) (range_with_len from n))

  -- a node has one place
  one_place : (from : ℕ) → from < node_count c → same_node (node_at c from) node ≡ true → place_of c node ≡ Some from
  one_place from within same = ap (place_of c) (sym (same_node_is (node_at c from) node same)) ∙ node_stands c from within

  not_again : (from n place : ℕ) → from + n ≤ node_count c → place_of c node ≡ Some place → place < from → count_by (is_tick_of node) (ticks_from from n) ≡ 0
  not_again from zero place within at before = refl
  not_again from (suc n) place within at before =
      elim (same_node (node_at c from) node) as (λ t. same_node (node_at c from) node ≡ t → count_by (is_tick_of node) (ticks_from from (suc n)) ≡ 0) [
        | true ↦ λ same. let is : place ≡ from = same_Some place from (sym at ∙ one_place from (omega arith) same) in absurd (below place from before is)
        | false ↦ λ other.
            count_miss (is_tick_of node) (Tick (node_at c from)) (ticks_from (from + 1) n) other ∙ not_again (from + 1) n place (omega arith) at (omega arith)
      ] refl
    where
      below : (a b : ℕ) → a < b → a ≡ b → ⊥
      below a b less is = omega arith

  once_from : (from n : ℕ) → from + n ≤ node_count c → count_by (is_tick_of node) (ticks_from from n) ≤ 1
  once_from from zero within = omega arith
  once_from from (suc n) within =
      elim (same_node (node_at c from) node) as (λ t. same_node (node_at c from) node ≡ t → count_by (is_tick_of node) (ticks_from from (suc n)) ≤ 1) [
        | true ↦ λ same.
            let next = count_hit (is_tick_of node) (Tick (node_at c from)) (ticks_from (from + 1) n) same in
            let rest = not_again (from + 1) n from (omega arith) (one_place from (omega arith) same) (omega arith) in
            omega arith
        | false ↦ λ other.
            let next = count_miss (is_tick_of node) (Tick (node_at c from)) (ticks_from (from + 1) n) other in
            let rest = once_from (from + 1) n (omega arith) in
            omega arith
      ] refl

  -- time passes once at a node
  pub ticks_once : count_by (is_tick_of node) (map Tick (nodes_of c)) ≤ 1
  ticks_once = once_from 0 (node_count c) (omega arith)
