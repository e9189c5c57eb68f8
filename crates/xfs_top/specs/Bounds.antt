-- What is claimed of the answers of a run that a call of the program played by one thread, and when they come.
use Rattle.core_world.specs.AnyNode.{any_start, any_step}
use Rattle.core_world.specs.declared.any_node.AnyNode.{AnyNode}
use Rattle.headline.specs.Bounds.{QuietIsAnswered}
use Rattle.std.specs.Prelude.{Option, Some}
use Rattle.top_call.specs.declared.command.Command.{Command}
use Rattle.top_call.specs.declared.command.Command.TheVariants.{Boards, Live, Mount}
use Rattle.world_base.specs.declared.estate.Estate.{Estate}

-- What is claimed of the run of a command: where each line of its script after the setup is a bput, a bget or a sync, each item is answered, once, between its own
-- Begin and the next one, or the end, as a call that is done; between the Begins of two items, one after the other, there are at most 128 deliveries and one tick of
-- each node; and as many packets are delivered as were sent. Nothing of a run with boards, nor of one by workers.
abbrev pub BoundsOf : Option Command → Estate AnyNode → Type 0
BoundsOf (Some (Live workers)) e = Unit {0}
BoundsOf (Some (Mount workers)) e = Unit {0}
BoundsOf (Some Boards) e = Unit {0}
BoundsOf command e = QuietIsAnswered any_step any_start e
