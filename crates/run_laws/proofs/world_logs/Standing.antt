-- A moment stands to the small world of a log however what its owner did is said.
use Rattle.std.proofs.Common.{◌≡◌, List, sym, subst}
use Rattle.node_logs.specs.client_log_tie.Owner.{Scene}
use Rattle.core_world.specs.declared.any_node.AnyNode.{AnyNode}
use Rattle.log_tie.specs.Setting.{Setting}
use Rattle.token_protocol.specs.Basics.{In}
use Rattle.version_model.specs.declared.act.Act.{Act}
use Rattle.version_model.specs.declared.act.Act.TheVariants as act
use Rattle.wire_msg.specs.declared.packet.Packet.{Packet}
use Rattle.world_base.specs.declared.cluster.Cluster.{Cluster}
use Rattle.headline.specs.Logs.{Role}
use Rattle.run_laws.specs.world_logs.Standing.{Stands}

-- what the owner did may be said otherwise
abbrev pub stands_so : (g : Setting) (r : Role) (w : Scene) (k : Cluster) (nodes : List AnyNode) (sent : List Packet) (a b : List Act) → a ≡ b
    → Stands g r w k nodes sent a → Stands g r w k nodes sent b
stands_so g r w k nodes sent a b same st = record {
  moment = st.moment;
  seen = st.seen;
  facts = st.facts;
  filed = λ name h. st.filed name (subst (λ (told : List Act). In (act.Filed name) told) (sym same) h);
  deleted = st.deleted;
}
