-- What servers list in a run: fragments of segments of the logs of clients, of the cleaner and of managers of the run alone.
use Rattle.std.specs.Prelude.{◌≡◌, ℕ}
use Rattle.core_world.specs.AnyNode.{any_start, any_step}
use Rattle.core_world.specs.declared.any_node.AnyNode.{AnyNode}
use Rattle.log_protocol.specs.Tables.{In}
use Rattle.node_base.specs.Setups.{IsSetup}
use Rattle.wire_msg.specs.declared.body.Body.TheVariants as body
use Rattle.wire_msg.specs.declared.packet.Packet.{Packet}
use Rattle.wire_msg.specs.declared.storage.Listed.{Listed}
use Rattle.world_base.specs.declared.estate.Estate.{Estate}
use Rattle.world_base.specs.Runs.{IsRun}
use Rattle.headline.specs.Moments.{moment}
use Rattle.headline.specs.Logs.{IsThere, Role, log_by}
use Rattle.xfs_base.specs.declared.fragment.FragMeta.{FragMeta}
use Rattle.xfs_base.specs.declared.segment.LogId.{LogId}

-- the log has an owner in a run with so many clients and managers
pub record HasOwner (clients managers : ℕ) (log : LogId) : Type 0 where
  pub role : Role
  pub there : IsThere clients managers role
  pub own : log ≡ record { 0 = log_by role }

-- at each moment of every run of a script of whose setup a run can be started
abbrev pub RunsListTheirLogs : Type 0
RunsListTheirLogs =
    (e : Estate AnyNode) → IsSetup e.script.setup → IsRun any_step any_start e.script e.events e.world → (count : ℕ)
    → (p : Packet) (m : Listed) → In p (moment e count).sent → p.body ≡ body.Listed m → (meta : FragMeta) → In meta m.held
    → HasOwner e.script.setup.clients e.script.setup.managers meta.name.log
