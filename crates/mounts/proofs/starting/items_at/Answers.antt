use Rattle.std.proofs.Common.{◌<◌, subst, sym}
use Rattle.world_base.specs.declared.cluster.Cluster.{Cluster}
use Rattle.world_base.specs.Cluster.{node_count}
use Rattle.mounts.proofs.starting.items_at.Goals as goal

pub node_at-node-requires : goal.node_at-node-requires
node_at-node-requires c = subst (λ (k : Cluster). c.args.place < node_count k) (sym c.of.ensures) c.requires
