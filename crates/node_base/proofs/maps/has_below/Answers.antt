use Rattle.std.proofs.Common.{◌≡◌, ◌∙◌, true, rules}
use Rattle.group_map.specs.Groups.{group_of}
use Rattle.node_base.specs.Maps.{has_it}
use Rattle.node_base.proofs.GroupWalks.{named_step}
use Rattle.node_base.proofs.maps.has_below.Goals as goal

pub loop-id-preserved : goal.loop-id-preserved
loop-id-preserved c =
    let kept : has_it c.in-Ok.group.now (group_of c.args.others.now c.in-Ok.group.now.id) ≡ true = search rules in
    named_step c.args.groups.now c.args.others.now c.loop-id.id c.args.end c.in-Ok.group.now c.loop-id-test.true c.in-Ok.ensures.exact kept
    ∙ c.loop-id.invariant
