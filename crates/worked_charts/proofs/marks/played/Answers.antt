use Rattle.std.proofs.Common.{ap, subst, sym}
use Rattle.core_world.specs.declared.any_node.AnyNode.{AnyNode}
use Rattle.node_base.specs.Setups.{IsSetup}
use Rattle.script_text.specs.declared.script.Script.{Script}
use Rattle.worked_charts.proofs.marks.played.Goals as goal
use Rattle.world_base.specs.declared.estate.Estate.{Estate}

pub returns : goal.returns
returns c = subst (λ (x : Script). IsSetup x.setup) (sym (ap (λ (x : Estate AnyNode). x.script) c.in_ok-estate.ensures.exact)) c.requires
