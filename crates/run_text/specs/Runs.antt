-- Each run of a script of whose setup a run can be started, of calls on blocks, is as one machine with one table; and so it is with calls on files among them, where
-- items that begin alone are answered in the order of their lines.
use Rattle.std.specs.List.{AllByRecursion}
use Rattle.std.specs.Prelude.{◌≡◌, ◌≤◌, ℕ, List, length}
use Rattle.core_world.specs.AnyNode.{any_start, any_step}
use Rattle.core_world.specs.declared.any_node.AnyNode.{AnyNode}
use Rattle.headline.specs.InLine.{AnswersInLine}
use Rattle.headline.specs.OneMachine.{AreCalls, AreDone, BeginsAlone, CallsAsOneMachine, FilesAsOneMachine}
use Rattle.node_base.specs.Setups.{IsSetup}
use Rattle.one_machine.specs.Trees.{AreFit}
use Rattle.play.specs.Plays.{actors_of}
use Rattle.script_text.specs.declared.script.Line.{Line}
use Rattle.transcript.specs.Replies.{open_items}
use Rattle.world_base.specs.declared.estate.Estate.{Estate}
use Rattle.world_base.specs.Runs.{IsRun, begun_in}
use Rattle.xfs_base.specs.declared.node.NodeId.TheVariants.{Client}
use Rattle.xfs_base.specs.Limits.{max_lines}

abbrev pub EachRunIsAsOneMachine : Type 0
EachRunIsAsOneMachine =
    (e : Estate AnyNode) → IsSetup e.script.setup → IsRun any_step any_start e.script e.events e.world → CallsAsOneMachine e

abbrev pub EachRunWithFilesIsAsOneMachine : Type 0
EachRunWithFilesIsAsOneMachine =
    (e : Estate AnyNode) → IsSetup e.script.setup → IsRun any_step any_start e.script e.events e.world → FilesAsOneMachine e

-- Where items begin in the order of their lines, each while none is open, none is open at the end, and each is answered as a call is that is done, they are answered
-- in the order of the lines.
abbrev pub AloneIsInLine : Estate AnyNode → Type 0
AloneIsInLine e =
    length e.script.lines ≤ max_lines → begun_in e.events ≡ actors_of e.script.lines → BeginsAlone e → AreDone e.world.acts → open_items e ≡ 0 → AnswersInLine e

abbrev pub EachRunAloneIsInLine : Type 0
EachRunAloneIsInLine = (e : Estate AnyNode) → IsRun any_step any_start e.script e.events e.world → AloneIsInLine e

-- each item is one of this client
abbrev pub IsOfClient : ℕ → List Line → Type 0
IsOfClient client lines = AllByRecursion (λ node. node ≡ Client client) (actors_of lines)

-- Where all items are calls of one client, begin in the order of their lines, and each is answered as a call is that is done, and none is open at the end, none is open
-- as another begins.
abbrev pub OneClientIsAlone : Estate AnyNode → Type 0
OneClientIsAlone e =
    (client : ℕ) → IsOfClient client e.script.lines → AreFit e.script.lines → AreCalls e.script.lines → begun_in e.events ≡ actors_of e.script.lines
    → AreDone e.world.acts → open_items e ≡ 0 → BeginsAlone e

abbrev pub EachRunOfOneClientIsAlone : Type 0
EachRunOfOneClientIsAlone = (e : Estate AnyNode) → IsRun any_step any_start e.script e.events e.world → OneClientIsAlone e
