-- What stands at each place of the world before the first event.
use Rattle.std.proofs.Common.{◌≡◌, refl, sym, ap, ◌∙◌, ℕ, zero, suc, ◌+◌, ◌<◌, List, [], ◌∷◌, length, map, Some}
use Rattle.std.specs.Prelude.{slice_get, replicate}
use Rattle.std.specs.List.{range_with_len}
use Rattle.std.proofs.lemmas.Option.{same_Some}
use Rattle.script_text.specs.declared.script.Script.{Script}
use Rattle.version_model.specs.declared.work.Work.{Work}
use Rattle.xfs_base.specs.declared.node.NodeId.{NodeId}
use Rattle.xfs_base.specs.declared.setup.Setup.{Setup}
pub use Rattle.world_base.proofs.Starting.{first_at_place}
use Rattle.world_base.specs.Cluster.{cluster_of, node_at, node_count, nodes_of}
use Rattle.world_base.specs.NextWorld.{first_node, start_world}

pub map_count : {X Y : Type 0} (f : X → Y) (xs : List X) → length (map f xs) ≡ length xs
map_count f [] = refl
map_count f (x ∷ xs) = ap suc (map_count f xs)

range_count : (i n : ℕ) → length (range_with_len i n) ≡ n
range_count i zero = refl
range_count i (suc n) = ap suc (range_count (i + 1) n)

zeros_count : (n : ℕ) → length {A = ℕ} (replicate n 0) ≡ n
zeros_count zero = refl
zeros_count (suc n) = ap suc (zeros_count n)

zeros_at : (n k c : ℕ) → slice_get (replicate n 0) k ≡ Some c → c ≡ 0
zeros_at zero k c at = absurd (cc)
zeros_at (suc n) zero c at = sym (same_Some 0 c at)
zeros_at (suc n) (suc k) c at = zeros_at n k c at

module _ {N : Type 0} (first : NodeId → Setup → List Work → N) (script : Script) where
  pub start_cluster : (start_world first script).cluster ≡ cluster_of script.setup
  unfolding start_world
  start_cluster = refl

  pub start_nodes : length (start_world first script).nodes ≡ node_count (cluster_of script.setup)
  unfolding start_world
  start_nodes =
      let c = cluster_of script.setup in
      map_count (first_node first script) (nodes_of c) ∙ map_count (node_at c) (range_with_len 0 (node_count c)) ∙ range_count 0 (node_count c)

  pub start_clocks : length (start_world first script).clocks ≡ node_count (cluster_of script.setup)
  unfolding start_world
  start_clocks = zeros_count (node_count (cluster_of script.setup))

  pub start_node : (p : ℕ) → p < node_count (cluster_of script.setup) → slice_get (start_world first script).nodes p ≡ Some (first_node first script (node_at (cluster_of script.setup) p))
  unfolding start_world
  start_node p below = first_at_place first script p below

  pub start_clock : (p c : ℕ) → slice_get (start_world first script).clocks p ≡ Some c → c ≡ 0
  unfolding start_world
  start_clock p c at = zeros_at (node_count (cluster_of script.setup)) p c at
