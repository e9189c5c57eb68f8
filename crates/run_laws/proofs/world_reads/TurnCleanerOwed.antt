-- What an event of the cleaner is owed, of both small worlds of a slot, at a moment that stands to all of them.
use Rattle.std.proofs.Common.{◌≡◌, ℕ, suc, ◌<◌, Some, slice_get}
use Rattle.cleaner_node.specs.declared.cleaner.Cleaner.{Cleaner as CleanerNode}
use Rattle.core_world.specs.AnyNode.{any_start, any_step}
use Rattle.core_world.specs.declared.any_node.AnyNode.TheVariants as any
use Rattle.node_base.specs.Setups.{IsSetup}
use Rattle.run_laws.specs.reopening_law.Reopens.{TellsApart}
use Rattle.world_base.specs.declared.cluster.Cluster.{Cluster}
use Rattle.world_base.specs.declared.event.Event.{Event}
use Rattle.world_base.specs.Events.{node_of, what_of}
use Rattle.world_base.specs.Runs.{IsRun}
use Rattle.run_laws.specs.world_law.Standing.{epoch_now, members}
use Rattle.headline.specs.Moments.{moment}
use Rattle.run_laws.proofs.world_reads.CleanerBeside.{CleanerEvent, beside}
use Rattle.run_laws.proofs.world_reads.CleanerOwed as owed
use Rattle.run_laws.proofs.world_reads.CleanerOwed.{Beside}
use Rattle.run_laws.proofs.world_reads.CleanerTold as told
use Rattle.run_laws.proofs.world_reads.CleanerTold.{adopted, adopts_flight}
use Rattle.run_laws.proofs.world_reads.Taking.{Took}
use Rattle.run_laws.proofs.world_reads.TurnBoth.{both_of}
use Rattle.run_laws.proofs.world_reads.TurnOwed.{CleanerOwed, IndexOwed}
use Rattle.run_laws.specs.world_reads.Joint.{Joint, k}
use Rattle.run_laws.proofs.world_reads.Joint.{IsSureUpto}
use Rattle.xfs_base.specs.declared.node.NodeId.TheVariants.{Cleaner}
use Rattle.xfs_base.specs.Limits.{slot_count}
use Rattle.run_laws.proofs.world_reads.Below.{Below}
use Rattle.run_laws.specs.world_reads.LoggedRuns.{LoggedRun}

module _ (law : Below) (logged : LoggedRun) (part : ℕ) (of_eight : part < slot_count) (apart : TellsApart logged.base)
    (setup : IsSetup logged.estate.script.setup) (run : IsRun any_step any_start logged.estate.script logged.estate.events logged.estate.world) (count : ℕ)
    (joint : Joint logged part count) (sure : IsSureUpto logged part (suc count)) (event : Event) (at : slice_get logged.estate.events count ≡ Some event)
    (node : CleanerNode) (own : node_of event ≡ Cleaner) (took : Took (moment logged.estate count) event (any.Cleaner node)) where
  abbrev cl : Cluster
  cl = k logged part

  abbrev x : CleanerEvent law logged setup run part count joint event node
  x = record {
    few = of_eight;
    apart = apart;
    happens = at;
    own = own;
    took = took;
    sure = sure;
    moved = joint.moved;
    promised = joint.promised;
  }

  it : Beside law logged part count joint node (what_of event)
  it = beside law logged setup run part count joint event node x

  -- what the small world of the index is owed
  pub cleaner_owed : IndexOwed logged part count event (both_of logged part count joint) Cleaner (any.Cleaner node)
  cleaner_owed = owed.cleaner_owed law logged part count joint node (what_of event) it

  -- and what that of tokens is
  pub cleaner_told : CleanerOwed logged part count event (both_of logged part count joint) node
  cleaner_told = record {
    adopted = adopted law logged setup run part count joint node (what_of event) it;
    adopts = λ l o v opens serves.
        adopts_flight law logged setup run part count joint node (what_of event) it l o v opens serves;
    told = told.cleaner_told law logged setup run part count joint node (what_of event) it (members cl part) (epoch_now cl part joint.tok);
  }
