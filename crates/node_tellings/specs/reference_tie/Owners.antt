-- What owners of logs report: the ends of their logs.
use Rattle.std.specs.Prelude.{◌≡◌}
use Rattle.std.specs.List.{AllByRecursion}
use Rattle.cleaner_serving.specs.declared.emptying.Emptying.{Emptying}
use Rattle.cleaner_node.specs.CleanerEvents.{cleaner_step}
use Rattle.cleaner_node.specs.declared.cleaner.Cleaner.{Cleaner}
use Rattle.cleaner_node.specs.declared.cleaner.Phase.TheVariants as cleaning
use Rattle.client_node.specs.declared.client.Client.{Client}
use Rattle.client_node.specs.declared.phase.Phase.TheVariants as clients
use Rattle.client_node.specs.Phases.{client_step, lasting_of}
use Rattle.client_serving.specs.declared.serving.Serving.{Serving}
use Rattle.wire_msg.specs.declared.body.Body.{Body}
use Rattle.wire_msg.specs.declared.body.Body.TheVariants as body
use Rattle.wire_msg.specs.declared.packet.Do.{Do}
use Rattle.wire_msg.specs.declared.packet.Packet.{Packet}
use Rattle.xfs_base.specs.declared.node.NodeId.{NodeId}
use Rattle.xfs_base.specs.declared.node.NodeId.TheVariants.{Client as AClient, Cleaner as TheCleaner}
use Rattle.xfs_base.specs.declared.segment.End.{End}

-- a Report bears this end, and no checkpoint and no news are told
abbrev pub ReportsEnd : End → Body → Type 0
ReportsEnd end (body.Report m) = m.end ≡ end
ReportsEnd end (body.CkptDone m) = ⊥
ReportsEnd end (body.MapNews m) = ⊥
ReportsEnd end (body.Welcome m) = ⊥
ReportsEnd end _ = Unit {0}

-- so it is of a packet of this node
abbrev pub ReportsOf : NodeId → End → Packet → Type 0
ReportsOf node end p = (p.from ≡ node) × ReportsEnd end p.body

-- ---- the laws

-- Whatever happens to a client, each Report that it sends bears the end that its log had before, where it served; where it didn't, it sends none, so that any
-- end will do. Of checkpoints and news it tells nothing.
abbrev pub ClientsReportTheirEnd : Type 0
ClientsReportTheirEnd =
    (end : End) (client : Client) (what : Do) → ((s : Serving) → client.phase ≡ clients.Serving s → s.log.end ≡ end)
    → AllByRecursion (ReportsOf (AClient (lasting_of client.phase).number) end) (client_step client what).packets

-- So it is of the cleaner.
abbrev pub CleanerReportsItsEnd : Type 0
CleanerReportsItsEnd =
    (end : End) (cleaner : Cleaner) (what : Do) → ((e : Emptying) → cleaner.phase ≡ cleaning.Serving e → e.log.end ≡ end)
    → AllByRecursion (ReportsOf TheCleaner end) (cleaner_step cleaner what).packets
