-- The answers of a run of calls on blocks are those of one machine with one table, which makes the calls in the order in which they are answered; and where that
-- is the order of the lines, the text is the one machine's. With calls on files among them the text is, where none is open as another begins.
use Rattle.std.specs.List.{AllByRecursion, list_all}
use Rattle.std.specs.Prelude.{◌≡◌, ◌≤◌, ℕ, Bool, true, ◌||◌, not, List, [], ◌∷◌, Some, None, length, slice_get}
use Rattle.core_world.specs.declared.any_node.AnyNode.{AnyNode}
use Rattle.file_plan.specs.Driving.{World, nothing_written}
use Rattle.one_machine.specs.Machine.{IsAsOneMachine, call_on}
use Rattle.one_machine.specs.Trees.{AreFit}
use Rattle.script_text.specs.declared.script.Line.{Line}
use Rattle.transcript.specs.Replies.{is_item}
use Rattle.version_model.specs.declared.act.Act.{Act}
use Rattle.version_model.specs.declared.act.Act.TheVariants as act
use Rattle.version_model.specs.declared.work.Work.{Work}
use Rattle.version_model.specs.declared.work.Work.TheVariants as work
use Rattle.world_base.specs.declared.estate.Estate.{Estate}
use Rattle.world_base.specs.declared.event.Event.TheVariants.{Begin}
use Rattle.world_base.specs.declared.world.World.{World as Run}
use Rattle.world_base.specs.Items.{items_of}
use Rattle.xfs_base.specs.declared.node.NodeId.{NodeId}
use Rattle.xfs_base.specs.Limits.{max_lines}
use Rattle.headline.specs.Bounds.{IsQuiet, is_quiet}
use Rattle.headline.specs.InLine.{AnswersInLine, answers_in}
use Rattle.headline.specs.ItemActs.{IsOfCall}
use Rattle.headline.specs.Items.{asked_at, items_in}
use Rattle.headline.specs.Moments.{moment, node_named}

-- each line that is an item is a bput, a bget or a sync; the others are what the network, boards and servers that stop are asked
abbrev pub is_on_blocks : Line → Bool
is_on_blocks line = is_quiet line.work || not (is_item line)

abbrev pub AreOnBlocks : List Line → Type 0
AreOnBlocks lines = list_all is_on_blocks lines ≡ true

-- where the act answers an item, it is as a call is answered that is done
abbrev pub IsDone : Act → Type 0
IsDone (act.Answered node item a) = IsOfCall a
IsDone _ = Unit {0}

abbrev pub AreDone : List Act → Type 0
AreDone acts = AllByRecursion IsDone acts

-- one machine, which makes the calls of these items of a script in this order, answers each so, and its table goes from one to the other
abbrev pub Serves : List Line → World → List Act → World → Type 0
Serves lines from [] to = from ≡ to
Serves lines from (act.Answered node item a ∷ answers) to =
    (wanted : Work) × (asked_at (items_of lines node) item ≡ Some wanted) × ((call_on from item wanted).reply ≡ Some a)
    × Serves lines (call_on from item wanted).world answers to
Serves lines from (_ ∷ answers) to = ⊥

abbrev pub AnswersAreServed : {N : Type 0} → Estate N → Type 0
AnswersAreServed e = (table : World) × Serves e.script.lines nothing_written (answers_in e.world.acts) table

-- Of a run whose items are calls on blocks, in whatever order they begin, whatever the network does, and whichever boards and servers stop:
pub record CallsAsOneMachine {N : Type 0} (e : Estate N) : Type 0 where
  -- where each item that is answered is answered as a call is that is done, one machine gives the same answers, if it makes the calls in the order in which they
  -- are answered
  pub served : AreOnBlocks e.script.lines → AreDone e.world.acts → AnswersAreServed e
  -- and where each item is answered so, in the order of the lines, the text is the one machine's
  pub in_line : length e.script.lines ≤ max_lines → AreOnBlocks e.script.lines → AnswersInLine e → IsAsOneMachine e

-- a client's call: a bput, a bget, a sync, or a call on files
abbrev pub is_call : Work → Bool
is_call (work.File client call) = true
is_call wanted = is_quiet wanted

-- each line that is an item is a call; the others are what the network, boards and servers that stop are asked
abbrev pub is_call_or_none : Line → Bool
is_call_or_none line = is_call line.work || not (is_item line)

abbrev pub AreCalls : List Line → Type 0
AreCalls lines = list_all is_call_or_none lines ≡ true

-- no node has an open item
abbrev pub NoneIsOpen : Run AnyNode → Type 0
NoneIsOpen w = (name : NodeId) (x : AnyNode) → node_named w name ≡ Some x → (items_in x).unanswered ≡ None

-- whenever an item begins, none is open
abbrev pub BeginsAlone : Estate AnyNode → Type 0
BeginsAlone e = (count : ℕ) (node : NodeId) → slice_get e.events count ≡ Some (Begin node) → NoneIsOpen (moment e count)

-- Of a run whose items are calls of clients, files among them, whatever the network does, and whichever boards and servers stop:
pub record FilesAsOneMachine (e : Estate AnyNode) : Type 0 where
  -- where none is open as another begins, and each is answered, as a call is that is done, in the order of the lines, the text is the one machine's; the lines are
  -- as scripts have them: what is written block by block is no file of the tree, and there are eight clients at most
  pub in_line : length e.script.lines ≤ max_lines → AreFit e.script.lines → AreCalls e.script.lines → BeginsAlone e → AnswersInLine e → IsAsOneMachine e

-- What a call of the program may ensure of the run that it played: where its script is quiet, the text is the one machine's.
abbrev pub QuietAsOneMachine : {N : Type 0} → Estate N → Type 0
QuietAsOneMachine e = IsQuiet e.script → IsAsOneMachine e
