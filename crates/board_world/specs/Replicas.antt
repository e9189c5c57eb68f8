-- The registry that a board keeps: it takes the commands that the board applies.
use Rattle.std.specs.Prelude.{ℕ, List, map, Option, Some, None, if◌then◌else◌}
use Rattle.registry_node.specs.Events.{registry_start, registry_step}
use Rattle.script_text.specs.declared.script.Script.{Script}
use Rattle.wire_msg.specs.declared.packet.Do.{Do}
use Rattle.wire_msg.specs.declared.packet.Packet.{Packet}
use Rattle.xfs_base.specs.declared.node.NodeId.TheVariants.{Registry}
use Rattle.xfs_base.specs.Steps.{Stepped, still, steps}
use Rattle.world_base.specs.Items.{items_of}
use Rattle.world_base.specs.NextWorld.{clock_after, sent_at}
use Rattle.board.specs.declared.command.Command.{Command}
use Rattle.board_world.specs.declared.replica.Replica.{Replica}
use Rattle.board_world.specs.Projection.{is_due, begun_by}

-- before the first event of a script, with the items that are the registry's
abbrev pub replica_start : Script → Replica
replica_start script = record { node = registry_start script.setup (items_of script.lines Registry); clock = 0; begun = 0 }

-- what it sends bears the clock of the event; nothing happens where that would pass the end of all clocks
abbrev pub at_clock : Replica → Do → Option ℕ → Stepped Replica Packet
at_clock r what None = still r
at_clock r what (Some clock) = record {
  state = record { node = (registry_step r.node what).node; clock = clock; begun = r.begun };
  outs = map (sent_at clock) (registry_step r.node what).packets;
}

-- this happens to it
unfoldable pub replica_happen : Replica → Do → Stepped Replica Packet
replica_happen r what = at_clock r what (clock_after r.clock what)

abbrev pub with_begun : Replica → ℕ → Replica
with_begun r begun = record { node = r.node; clock = r.clock; begun = begun }

-- A command is applied: it happens to the registry, where it does to one of so many items of which so many are begun.
unfoldable pub replica_apply : ℕ → Replica → Command → Stepped Replica Packet
replica_apply items r command =
    if is_due items r.begun command then replica_happen (with_begun r (begun_by r.begun command)) command.what else still r

-- all of these commands, in their order
abbrev pub applied_all : ℕ → Replica → List Command → Stepped Replica Packet
applied_all items r commands = steps (replica_apply items) r commands
