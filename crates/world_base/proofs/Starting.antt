-- What stands at each place before the first event.
use Rattle.std.proofs.Common.{◌≡◌, ap, ◌∙◌, ℕ, zero, suc, ◌+◌, ◌<◌, List, [], ◌∷◌, map, Some, arith}
use Rattle.std.specs.Prelude.{slice_get}
use Rattle.std.specs.List.{range_with_len}
use Rattle.std.proofs.lemmas.Option.{same_Some}
use Rattle.script_text.specs.declared.script.Script.{Script}
use Rattle.version_model.specs.declared.work.Work.{Work}
use Rattle.xfs_base.specs.declared.node.NodeId.{NodeId}
use Rattle.xfs_base.specs.declared.setup.Setup.{Setup}
use Rattle.world_base.specs.Cluster.{cluster_of, node_at, node_count, nodes_of}
use Rattle.world_base.specs.NextWorld.{first_node, first_nodes}

range_at : (i n k : ℕ) → k < n → slice_get (range_with_len i n) k ≡ Some (i + k)
range_at i zero k lt = absurd (omega arith)
range_at i (suc n) zero lt = ap Some (omega arith)
range_at i (suc n) (suc k) lt = range_at (i + 1) n k (omega arith) ∙ ap Some (omega arith)

map_at : {X Y : Type 0} (f : X → Y) (xs : List X) (k : ℕ) (x : X) → slice_get xs k ≡ Some x → slice_get (map f xs) k ≡ Some (f x)
map_at f [] k x at = absurd (cc)
map_at f (y ∷ xs) zero x at = ap (λ z. Some (f z)) (same_Some y x at)
map_at f (y ∷ xs) (suc k) x at = map_at f xs k x at

module _ {N : Type 0} (first : NodeId → Setup → List Work → N) (script : Script) where
  pub first_at_place : (p : ℕ) → p < node_count (cluster_of script.setup)
      → slice_get (first_nodes first script (cluster_of script.setup)) p ≡ Some (first_node first script (node_at (cluster_of script.setup) p))
  first_at_place p below =
      let c = cluster_of script.setup in
      let at : slice_get (range_with_len 0 (node_count c)) p ≡ Some p = range_at 0 (node_count c) p below ∙ ap Some (omega arith) in
      map_at (first_node first script) (nodes_of c) p (node_at c p) (map_at (node_at c) (range_with_len 0 (node_count c)) p p at)
