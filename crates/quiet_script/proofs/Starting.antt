-- Before the first line: the play shows the stage in which each node is as it starts.
use Rattle.std.proofs.Common.{◌≡◌, ℕ, zero, suc, ◌+◌, ◌<◌, ◌≤◌, List, [], length, map, slice_get, Some, refl, sym, ap, ◌∙◌, arith}
use Rattle.std.specs.List.{range_with_len}
use Rattle.std.proofs.lemmas.List.{length-map, length-replicate}
use Rattle.std.proofs.lemmas.List.Elements.{All-nil, All-replicate}
use Rattle.play.specs.Plays.{player_start}
use Rattle.script_text.specs.declared.script.Script.{Script}
use Rattle.version_model.specs.declared.work.Work.{Work}
use Rattle.wire_msg.specs.declared.packet.Packet.{Packet}
use Rattle.world_base.proofs.Places.{node_there, place_had, place_within}
use Rattle.world_base.specs.Cluster.{HasNode, cluster_of, node_at, node_count, place_of}
use Rattle.world_base.specs.NextWorld.{first_node, first_nodes, start_world}
use Rattle.xfs_base.specs.declared.node.NodeId.{NodeId}
use Rattle.xfs_base.specs.declared.setup.Setup.{Setup}
use Rattle.quiet_flow.specs.Follow.{Shows, node_in}
use Rattle.quiet_script.specs.Lines.{start_stage}

module _ {N : Type 0} (first : NodeId → Setup → List Work → N) (script : Script) where
  module _ {X : Type 0} (f : NodeId → X) (g : ℕ → NodeId) where
    get_from : (from n p : ℕ) → p < n → slice_get (map f (map g (range_with_len from n))) p ≡ Some (f (g (from + p)))
    get_from from zero p less = let no : p < 0 = less in absurd (omega arith)
    get_from from (suc n) zero less = ap (λ k. Some (f (g k))) (plus_none from)
      where
        plus_none : (k : ℕ) → k ≡ k + 0
        plus_none k = omega arith
    get_from from (suc n) (suc p) less = get_from (from + 1) n p (omega arith) ∙ ap (λ k. Some (f (g k))) (one_later from p)
      where
        one_later : (a b : ℕ) → a + 1 + b ≡ a + suc b
        one_later a b = omega arith

  from_none : (p : ℕ) → 0 + p ≡ p
  from_none p = omega arith

  stands_there : (name : NodeId) → HasNode script.setup name
      → node_in (first_nodes first script (cluster_of script.setup)) (place_of (cluster_of script.setup) name) ≡ Some (first_node first script name)
  stands_there name has =
      let c = cluster_of script.setup in
      let (p, at) = place_had script.setup name has in
      ap (node_in (first_nodes first script c)) at
      ∙ get_from (first_node first script) (node_at c) 0 (node_count c) p (place_within c name p at)
      ∙ ap (λ k. Some (first_node first script (node_at c k))) (from_none p)
      ∙ ap (λ n. Some (first_node first script n)) (sym (node_there c name p at))

  many : length (first_nodes first script (cluster_of script.setup)) ≡ node_count (cluster_of script.setup)
  many =
      let c = cluster_of script.setup in
      length-map (map (node_at c) (range_with_len 0 (node_count c))) (first_node first script)
      ∙ counted 0 (node_count c)
    where
      counted : (from n : ℕ) → length (map (node_at (cluster_of script.setup)) (range_with_len from n)) ≡ n
      counted from zero = refl
      counted from (suc n) = ap suc (counted (from + 1) n)

  pub starts_shown : Shows script.setup (player_start first script) (start_stage first script) []
  unfolding start_world
  starts_shown = record {
    cluster = refl;
    placed = stands_there;
    acts = refl;
    unanswered = refl;
    clocks = length-replicate {A = ℕ} (node_count (cluster_of script.setup)) 0 ∙ sym many;
    low = All-replicate (λ clock. clock ≤ 0) (node_count (cluster_of script.setup)) 0 (omega arith);
    sent_low = All-nil (λ (q : Packet). q.clock ≤ 0);
    plain = record { lose = refl; again = refl; mixer = refl; holding = refl };
    waits = tt;
  }
