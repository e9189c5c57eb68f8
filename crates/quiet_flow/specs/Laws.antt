-- The laws of the flow, of nodes of any kind that don't look at the clocks of packets.
use Rattle.std.specs.Prelude.{◌≡◌, ◌≤◌, ◌<◌, ◌+◌, ◌^◌, ℕ, List, [], length, Some}
use Rattle.play.specs.declared.player.Player.{Player}
use Rattle.script_text.specs.declared.script.Line.{Line}
use Rattle.wire_msg.specs.declared.packet.Do.{Do}
use Rattle.wire_msg.specs.declared.packet.Packet.{Packet}
use Rattle.wire_msg.specs.NodeStep.{NodeStep}
use Rattle.world_base.specs.Cluster.{HasNode, cluster_of, node_count}
use Rattle.world_base.specs.Items.{actor_of}
use Rattle.xfs_base.specs.declared.node.NodeId.{NodeId}
use Rattle.xfs_base.specs.declared.setup.Setup.{Setup}
use Rattle.xfs_base.specs.Limits.{max_deliveries}
use Rattle.quiet_flow.specs.Flow.{Drains, Stage, begins, rounds}
use Rattle.quiet_flow.specs.Follow.{Follows, IsBlind, LineEnds, Shows}

-- where the flow drains with so many deliveries, so does the play
abbrev pub PlaysFollow : Type 0 → Type 0
PlaysFollow N =
    (step : N → Do → NodeStep N) → IsBlind step
    → (setup : Setup) (n : ℕ) (p : Player N) (t : Stage N) (waiting : List Packet) (end : Stage N) → Shows setup p t waiting
    → Drains step setup n t waiting end → n ≤ p.schedule.deliveries → length p.events + n < 2 ^ 64 → Follows step setup p waiting n end

-- a line that begins an item of a node, and whose flow drains with all answered, ends there
abbrev pub LinesFollow : Type 0 → Type 0
LinesFollow N =
    (step : N → Do → NodeStep N) → IsBlind step
    → (setup : Setup) (p : Player N) (t : Stage N) (node : NodeId) (line : Line) (n : ℕ) (end : Stage N) → Shows setup p t []
    → HasNode setup node → actor_of line.work ≡ Some node → n ≤ max_deliveries → length p.events + 1 + n < 2 ^ 64
    → Drains step setup n (begins step t node).state (begins step t node).outs end → end.unanswered ≡ 0
    → LineEnds step setup p node line n end

-- a line whose flow drains with an item unanswered, and drains again with all answered once time passed at each node, ends there
abbrev pub LinesFollowRounds : Type 0 → Type 0
LinesFollowRounds N =
    (step : N → Do → NodeStep N) → IsBlind step
    → (setup : Setup) (p : Player N) (t : Stage N) (node : NodeId) (line : Line) (m n : ℕ) (mid end : Stage N) → Shows setup p t []
    → HasNode setup node → actor_of line.work ≡ Some node → m + n ≤ max_deliveries → length p.events + 1 + m + node_count (cluster_of setup) + n < 2 ^ 64
    → Drains step setup m (begins step t node).state (begins step t node).outs mid → 1 ≤ mid.unanswered
    → Drains step setup n (rounds step setup mid).state (rounds step setup mid).outs end → end.unanswered ≡ 0
    → LineEnds step setup p node line (m + n) end
