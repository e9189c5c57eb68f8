use Rattle.std.proofs.Common.{◌+◌, ◌-◌, [], ◌∷◌, ◌++◌, map, subst, sym, ap, ◌∙◌, append_assoc}
use Rattle.std.specs.List.{range_with_len}
use Rattle.world_base.specs.Cluster.{HasNode, node_at}
use Rattle.world_base.specs.NextWorld.{first_node}
use Rattle.world_base.proofs.Ranges.{range_step}
use Rattle.world_base.proofs.Standing.{stands}
use Rattle.world_base.proofs.world.first_nodes.Goals as goal

pub loop-place-preserved : goal.loop-place-preserved
loop-place-preserved g c =
    let first = first_node g.N.Member.first c.args.script.now in
    let i = c.loop-place.place in
    let end = c.count-place-end.result in
    let rest = map first (map (node_at c.args.cluster) (range_with_len (i + 1) (end - (i + 1)))) in
    ap (λ front. front ++ rest) c.in_ok-push.ensures.ok
    ∙ append_assoc c.loop-place.nodes (c.in_ok-node.node ∷ []) rest
    ∙ ap (λ node. c.loop-place.nodes ++ node ∷ rest) (c.in_ok-node.ensures ∙ ap first c.node_at.ensures)
    ∙ ap (λ places. c.loop-place.nodes ++ map first (map (node_at c.args.cluster) places)) (sym (range_step i end c.loop-place-test.true))
    ∙ c.loop-place.invariant

pub first_node-requires-clause-node : goal.first_node-requires-clause-node
first_node-requires-clause-node g c =
    let setup = c.args.script.now.setup in
    subst (λ node. HasNode setup node) (sym (c.node_at.ensures ∙ ap (λ cluster. node_at cluster c.loop-place.place) c.requires.cluster))
    (stands setup c.loop-place.place)
