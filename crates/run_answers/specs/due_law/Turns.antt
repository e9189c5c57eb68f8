-- How a node stands behind an event, by how it stood before.
use Rattle.std.specs.Prelude.{◌≡◌, List}
use Rattle.core_world.specs.AnyNode.{any_start, any_step}
use Rattle.core_world.specs.declared.any_node.AnyNode.{AnyNode}
use Rattle.version_model.specs.declared.work.Work.{Work}
use Rattle.wire_msg.specs.declared.packet.Do.{Do}
use Rattle.xfs_base.specs.declared.node.NodeId.{NodeId}
use Rattle.xfs_base.specs.declared.setup.Setup.{Setup}
use Rattle.headline.specs.Standings.{standing}
use Rattle.headline.specs.Standings.Standing.{Serves}
use Rattle.headline.specs.Dues.{KeepsStanding}

-- ---- the start

-- Each node of a setup serves before its first event.
abbrev pub EachStartServes : Type 0
EachStartServes = (name : NodeId) (setup : Setup) (works : List Work) → standing (any_start name setup works) ≡ Serves

-- ---- one event

-- So it is in each event of a node of any kind.
abbrev pub EachEventKeepsStanding : Type 0
EachEventKeepsStanding = (node : AnyNode) (what : Do) → KeepsStanding node what (any_step node what)
