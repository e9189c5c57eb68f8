-- Which commands happen to a registry that takes them in their order, and as which events.
use Rattle.std.specs.Prelude.{ℕ, ◌+◌, ◌==◌, Bool, not, ◌&&◌, ◌||◌, nat_le, List, [], ◌∷◌, if◌then◌else◌}
use Rattle.xfs_base.specs.Steps.{Stepped, still, steps}
use Rattle.xfs_base.specs.declared.node.NodeId.TheVariants.{Registry}
use Rattle.wire_msg.specs.Kinds.{is_begin}
use Rattle.board.specs.declared.command.Command.{Command}
use Rattle.world_base.specs.Events.{event_of}
use Rattle.world_base.specs.declared.event.Event.{Event}

-- of so many items of which so many are begun the item of this number is the next
abbrev pub is_next : ℕ → ℕ → ℕ → Bool
is_next items begun item = (item == begun + 1) && nat_le item items

-- whether a command happens to the registry: a Begin of another item than the next is nothing
abbrev pub is_due : ℕ → ℕ → Command → Bool
is_due items begun command = not (is_begin command.what) || is_next items begun command.item

-- how many items are begun after it
abbrev pub begun_by : ℕ → Command → ℕ
begun_by begun command = if is_begin command.what then command.item else begun

abbrev pub event_by : ℕ → Command → Stepped ℕ Event
event_by begun command = record { state = begun_by begun command; outs = event_of Registry command.what ∷ [] }

-- a command as an event of the registry, after so many of its items were begun
unfoldable pub project : ℕ → ℕ → Command → Stepped ℕ Event
project items begun command = if is_due items begun command then event_by begun command else still begun

-- all of these commands, in their order
abbrev pub project_all : ℕ → ℕ → List Command → Stepped ℕ Event
project_all items begun commands = steps (project items) begun commands
