-- What is claimed of the text of a run that a call of the program played by one thread: it is that of one machine with one table of blocks.
use Rattle.core_world.specs.declared.any_node.AnyNode.{AnyNode}
use Rattle.headline.specs.OneMachine.{AreCalls, AreDone, BeginsAlone, QuietAsOneMachine}
use Rattle.one_machine.specs.Machine.{IsAsOneMachine}
use Rattle.play.specs.Plays.{actors_of}
use Rattle.std.specs.List.{AllByRecursion}
use Rattle.std.specs.Prelude.{◌≡◌, ℕ, Option, Some}
use Rattle.top_call.specs.declared.command.Command.{Command}
use Rattle.top_call.specs.declared.command.Command.TheVariants.{Boards, Live, Mount}
use Rattle.transcript.specs.Replies.{open_items}
use Rattle.world_base.specs.declared.estate.Estate.{Estate}
use Rattle.xfs_base.specs.declared.node.NodeId.TheVariants as nodes

-- Each item of its script is a call of a client, on blocks or on files, whatever else its lines ask of the network, of boards and of servers that stop:
pub record CallsAsOne (e : Estate AnyNode) : Type 0 where
  -- where none was open as another began, nor at the end, and no answer is `busy`, `down`, `up`, `cut` or `lost`, the text is the one machine's
  pub alone : AreCalls e.script.lines → BeginsAlone e → AreDone e.world.acts → open_items e ≡ 0 → IsAsOneMachine e
  -- and where all are of one client, its answers and the end line tell all that is asked: none is open at the end, and no answer is one of these
  pub of_one : (client : ℕ) → AllByRecursion (λ node. node ≡ nodes.Client client) (actors_of e.script.lines) → AreCalls e.script.lines → AreDone e.world.acts → open_items e ≡ 0
      → IsAsOneMachine e

-- What is claimed of the run of a command: where each line of its script after the setup is a bput, a bget or a sync, the text is the one machine's, with no premise
-- more; but of no run with boards. And so it is where the items are calls that begin alone, whatever the network does and whichever boards and servers stop. Of runs
-- by workers nothing is claimed here; what is claimed of each run (`as_one_machine`, `with_files`) is claimed of them, too.
abbrev pub OneMachineOf : Option Command → Estate AnyNode → Type 0
OneMachineOf (Some (Live workers)) e = Unit {0}
OneMachineOf (Some (Mount workers)) e = Unit {0}
OneMachineOf (Some Boards) e = CallsAsOne e
OneMachineOf command e = QuietAsOneMachine e × CallsAsOne e
