-- Before the first event each server has an empty shelf.
use Rattle.std.proofs.Common.{◌≡◌, ℕ, ◌+◌, ◌≤◌, ◌<◌, List, [], ◌∷◌, Option, Some, All, replicate, length, slice_get, refl, sym, ap, subst, ◌∙◌, arith}
use Rattle.std.specs.List.{AllByRecursion, range_with_len}
use Rattle.std.specs.Prelude.{IfSome, option_map}
use Rattle.std.proofs.lemmas.List.Elements.{recursion_from_All}
use Rattle.std.proofs.lemmas.List.{length-replicate}
use Rattle.std.proofs.lemmas.List.FromFn.{get_or-range_with_len, length-range_with_len}
use Rattle.std.proofs.lemmas.Option.{slice_get-get_or, slice_get-map, slice_get_within}
use Rattle.disk_shelf.specs.Kept.{Kept}
use Rattle.disk_shelf.specs.MemDisk.{MemState}
use Rattle.fragment_store.specs.ShelfState.{ShelfState, new_shelf}
use Rattle.script_text.specs.declared.script.Script.{Script}
use Rattle.shelved_nodes.specs.Shelves.{first_shelf}
use Rattle.version_model.specs.declared.work.Work.{Work}
use Rattle.wire_msg.specs.declared.packet.Do.{Do}
use Rattle.wire_msg.specs.NodeStep.{NodeStep}
use Rattle.world_base.proofs.Places.{node_there, place_had, place_within}
use Rattle.world_base.specs.Cluster.{cluster_of, node_at, node_count, nodes_of, place_of}
use Rattle.world_base.specs.Items.{items_of}
use Rattle.world_base.specs.NextWorld.{first_node, first_nodes, start_world}
use Rattle.xfs_base.proofs.Alls.{all_read}
use Rattle.xfs_base.specs.declared.node.NodeId.{NodeId}
use Rattle.xfs_base.specs.declared.node.NodeId.TheVariants.{Server}
use Rattle.xfs_base.specs.declared.setup.Setup.{Setup}
use Rattle.disk_play.specs.declared.stop.Stop.{Stop}
use Rattle.disk_play.specs.Courses.{course_on, kept_at, kept_by, running, shelf_at}
use Rattle.disk_play.specs.Disks.{OnDisk, new_disk, on_disks}
use Rattle.disk_play.specs.Standing.{Follow, IsNew, Stands}

nothing_more : (n : ℕ) → 0 + n ≡ n
nothing_more n = omega arith

module _ {N : Type 0} (first : NodeId → Setup → List Work → N) (shelf_of : N → Option ShelfState)
    (empty : (node : NodeId) (setup : Setup) (items : List Work) → shelf_of (first node setup items) ≡ first_shelf node) (script : Script) where
  -- the node of a name is its first state
  first_stands : (node : NodeId) (p : ℕ) → place_of (cluster_of script.setup) node ≡ Some p
      → slice_get (first_nodes first script (cluster_of script.setup)) p ≡ Some (first_node first script node)
  first_stands node p at =
      let k = cluster_of script.setup in
      let within = place_within k node p at in
      let numbered : slice_get (range_with_len 0 (node_count k)) p ≡ Some p =
      slice_get-get_or (range_with_len 0 (node_count k)) p 0 (subst (λ n. p < n) (sym (length-range_with_len 0 (node_count k))) within)
      ∙ ap Some (get_or-range_with_len 0 (node_count k) p 0 within ∙ nothing_more p) in
      slice_get-map (first_node first script) (nodes_of k) p
      ∙ ap (option_map (first_node first script)) (slice_get-map (node_at k) (range_with_len 0 (node_count k)) p ∙ ap (option_map (node_at k)) numbered)
      ∙ ap (λ n. Some (first_node first script n)) (sym (node_there k node p at))

  server_empty : (number : ℕ) → 1 ≤ number → number ≤ script.setup.servers → shelf_at shelf_of (start_world first script) (Server number) ≡ Some new_shelf
  unfolding start_world
  server_empty number least most =
      let had = place_had script.setup (Server number) (least, most) in
      ap (kept_at shelf_of (first_nodes first script (cluster_of script.setup))) had.1
      ∙ ap (kept_by shelf_of) (first_stands (Server number) had.0 had.1)
      ∙ empty (Server number) script.setup (items_of script.lines (Server number))

  -- so new shelves follow
  pub new_follow : (shelves : List (Kept MemState)) → length shelves ≡ script.setup.servers → All IsNew shelves → Follow shelf_of (start_world first script) shelves
  unfolding start_world
  new_follow shelves count all = record {
    count = count;
    each = λ place shelf fact.
        let new : IsNew shelf = subst (λ (o : Option (Kept MemState)). IfSome o IsNew) fact (all_read IsNew shelves place (recursion_from_All IsNew shelves all)) in
        let within = slice_get_within shelves place shelf fact in
        record {
          runs = new.runs;
          same = server_empty (place + 1) (omega arith) (omega (arith, within, count)) ∙ ap (λ (k : OnDisk). Some k.state.shelf) (sym new.new);
        };
  }

pub start_cluster : {N : Type 0} (first : NodeId → Setup → List Work → N) (script : Script)
    → (start_world first script).cluster ≡ cluster_of script.setup
unfolding start_world
start_cluster first script = refl

-- each of the disks is new
pub all_new : (shelves : List (Kept MemState)) → AllByRecursion IsNew shelves → on_disks shelves ≡ replicate (length shelves) new_disk
all_new [] new = refl
all_new (s ∷ shelves) new = λ i. new.0.new i ∷ all_new shelves new.1 i

-- and all stands before the first line
pub starts_stand : {N : Type 0} (step : N → Do → NodeStep N) (first : NodeId → Setup → List Work → N) (shelf_of : N → Option ShelfState)
    → ((node : NodeId) (setup : Setup) (items : List Work) → shelf_of (first node setup items) ≡ first_shelf node) → (script : Script)
    → (shelves : List (Kept MemState)) → length shelves ≡ script.setup.servers → All IsNew shelves
    → Stands step first shelf_of script (course_on first script) shelves
starts_stand step first shelf_of empty script shelves count all = record {
  run = refl;
  stops = length-replicate {A = Stop} script.setup.servers running ∙ sym count;
  follow = new_follow first shelf_of empty script shelves count all;
}
