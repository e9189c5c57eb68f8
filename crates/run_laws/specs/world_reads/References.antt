-- What nodes refer to at a moment of a run: the parts of checkpoints flew in logs of the run, and so did the ends that were reported, over the groups with
-- which they are referred to.
use Rattle.std.specs.Prelude.{◌≡◌, ◌⊎◌, ℕ, List}
use Rattle.core_world.specs.declared.any_node.AnyNode.{AnyNode}
use Rattle.core_world.specs.declared.any_node.AnyNode.TheVariants as any
use Rattle.log_protocol.specs.Tables as tables
use Rattle.node_tellings.specs.reference_tie.Managers.{ManagerRefers}
use Rattle.node_tellings.specs.reference_tie.References.{PacketRefers, References}
use Rattle.node_tellings.specs.reference_tie.Registries.{RegistryRefers}
use Rattle.segment_format.specs.declared.segment.Segment.{Segment}
use Rattle.token_protocol.specs.Basics.{In}
use Rattle.wire_msg.specs.declared.packet.Packet.{Packet}
use Rattle.headline.specs.Moments.{moment}
use Rattle.headline.specs.Logs.{Role, log_by}
use Rattle.run_laws.specs.world_reads.Joint.{There, log_at}
use Rattle.run_laws.specs.world_reads.LoggedRuns.{LoggedRun}
use Rattle.xfs_base.specs.declared.node.NodeId.{NodeId}
use Rattle.xfs_base.specs.declared.node.NodeId.TheVariants.{Client, Manager, Server, Cleaner, Registry}
use Rattle.xfs_base.specs.declared.segment.End.{End}
use Rattle.xfs_base.specs.declared.segment.SegName.{SegName}
use Rattle.xfs_base.specs.declared.segment.SegRef.{SegRef}
use Rattle.xfs_base.specs.Logs.{cleaners_number}

-- to what a node refers; clients, servers and the cleaner hold no such references
abbrev pub AnyRefers : References → AnyNode → Type 0
AnyRefers r (any.Client node) = Unit {0}
AnyRefers r (any.Manager node) = ManagerRefers r node
AnyRefers r (any.Server node) = Unit {0}
AnyRefers r (any.Cleaner node) = Unit {0}
AnyRefers r (any.Registry node) = RegistryRefers r node

-- so it is of each node, and of each packet that was sent
pub record AllRefer (r : References) (nodes : List AnyNode) (sent : List Packet) : Type 0 where
  pub each_node : (node : AnyNode) → In node nodes → AnyRefers r node
  pub each_packet : (p : Packet) → In p sent → PacketRefers r p

module _ (logged : LoggedRun) (part : ℕ) where
  open logged use {estate as e}

  module _ (count : ℕ) where
    -- the segment of this name is of a log of the run
    pub record OfSomeLog (name : SegName) : Type 0 where
      pub role : Role
      pub there : There logged part role
      pub own : name.log ≡ record { 0 = log_by role }

    -- What is referred to flew in its log, with its group.
    pub record Flew (seg : SegRef) : Type 0 where
      pub of : OfSomeLog seg.name
      pub segment : Segment
      pub among : tables.In segment (log_at logged part of.role of.there count).flown
      pub named : seg.name ≡ segment.name
      pub grouped : seg.group ≡ segment.group

  -- the end of log l is none, or flew in it
  abbrev pub EndFlew : ℕ → ℕ → End → Type 0
  EndFlew count l end =
      (end.seq ≡ 0)
      ⊎ Flew count (record { name = record { log = record { 0 = l }; seq = end.seq; pass = end.pass }; group = end.group })

  -- what a node reports; of others than the owners of logs nothing is asked
  abbrev pub ReportFlew : ℕ → NodeId → End → Type 0
  ReportFlew count (Client c) end = EndFlew count c end
  ReportFlew count (Manager j) end = Unit {0}
  ReportFlew count (Server v) end = Unit {0}
  ReportFlew count Cleaner end = EndFlew count cleaners_number end
  ReportFlew count Registry end = Unit {0}

  abbrev pub its : ℕ → References
  its count = record { part = Flew count; end = ReportFlew count }

  -- So it is of all that is referred to at a moment.
  abbrev pub ReferencesStand : ℕ → Type 0
  ReferencesStand count = AllRefer (its count) (moment e count).nodes (moment e count).sent
