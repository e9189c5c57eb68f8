-- Answers within bounds: where each line of a script is a bput, a bget or a sync, each item is answered, once, between its own Begin and the next one, within few
-- deliveries and one round at most.
use Rattle.std.specs.List.{count_by, list_all}
use Rattle.std.specs.Prelude.{◌≡◌, ◌≤◌, ℕ, Bool, true, false, ◌&&◌, ◌==◌, List, [], ◌∷◌, ◌++◌, fold, length}
use Rattle.play.specs.Plays.{answers}
use Rattle.script_text.specs.declared.script.Line.{Line}
use Rattle.script_text.specs.declared.script.Script.{Script}
use Rattle.transcript.specs.Replies.{open_items}
use Rattle.version_model.specs.declared.act.Act.{Act}
use Rattle.version_model.specs.declared.act.Act.TheVariants as acts
use Rattle.version_model.specs.declared.work.Work.{Work}
use Rattle.version_model.specs.declared.work.Work.TheVariants as works
use Rattle.wire_msg.specs.declared.packet.Do.{Do}
use Rattle.wire_msg.specs.NodeStep.{NodeStep}
use Rattle.world_base.specs.declared.estate.Estate.{Estate}
use Rattle.world_base.specs.declared.event.Event.{Event}
use Rattle.world_base.specs.declared.event.Event.TheVariants.{Begin, Deliver, Tick}
use Rattle.world_base.specs.declared.world.World.{World}
use Rattle.world_base.specs.Items.{items_of}
use Rattle.world_base.specs.NextWorld.{next_world, start_world}
use Rattle.world_base.specs.Runs.{begun_in}
use Rattle.xfs_base.specs.declared.node.NodeId.{NodeId}
use Rattle.xfs_base.specs.declared.setup.Setup.{Setup}
use Rattle.xfs_base.specs.Nodes.{same_node}
use Rattle.headline.specs.InLine.{AnswersInLine}

abbrev pub is_delivery : Event → Bool
is_delivery (Begin node) = false
is_delivery (Deliver packet) = true
is_delivery (Tick node) = false

abbrev pub is_tick_of : NodeId → Event → Bool
is_tick_of name (Begin node) = false
is_tick_of name (Deliver packet) = false
is_tick_of name (Tick node) = same_node node name

-- a client's bput, bget or sync
abbrev pub is_quiet : Work → Bool
is_quiet (works.Bput client block value) = true
is_quiet (works.Bget client block) = true
is_quiet (works.Sync client) = true
is_quiet work = false

-- all lines after the setup are such
abbrev pub IsQuiet : Script → Type 0
IsQuiet script = list_all (λ (line : Line). is_quiet line.work) script.lines ≡ true

-- the most deliveries that a line takes
abbrev pub most_deliveries : ℕ
most_deliveries = 128

-- an act answers this item of this node
abbrev pub is_answer_of : NodeId → ℕ → Act → Bool
is_answer_of node item (acts.Answered other number answer) = same_node other node && (number == item)
is_answer_of node item act = false

-- between the begins of two items, one after the other, there are few deliveries, and time passes once at each node at most
abbrev pub IsWithin : List Event → Type 0
IsWithin events =
    (before between after : List Event) → events ≡ before ++ (between ++ after) → begun_in between ≡ []
    → (count_by is_delivery between ≤ most_deliveries) × ((node : NodeId) → count_by (is_tick_of node) between ≤ 1)

-- a Begin comes next, or nothing
abbrev pub BeginsNext : List Event → Type 0
BeginsNext [] = Unit {0}
BeginsNext (Begin node ∷ events) = Unit {0}
BeginsNext (_ ∷ events) = ⊥

module _ {N : Type 0} (step : N → Do → NodeStep N) (first : NodeId → Setup → List Work → N) where
  -- the world after these events of a run
  abbrev pub world_after : Script → List Event → World N
  world_after script events = fold (next_world step) (start_world first script) events

  -- whenever an item begins, and at the end, as many items are answered as had begun: each between its own Begin and the next one, or the end
  abbrev pub EachInItsTurn : Script → List Event → Type 0
  EachInItsTurn script events =
      (before after : List Event) → events ≡ before ++ after → BeginsNext after → answers (world_after script before).acts ≡ length (begun_in before)

pub record AnswersWithinBounds {N : Type 0} (step : N → Do → NodeStep N) (first : NodeId → Setup → List Work → N) (e : Estate N) : Type 0 where
  -- no item is open
  pub none_open : open_items e ≡ 0
  -- each item of each node is answered, once
  pub answered : (node : NodeId) (item : ℕ) → 1 ≤ item → item ≤ length (items_of e.script.lines node) → count_by (is_answer_of node item) e.world.acts ≡ 1
  pub within : IsWithin e.events
  -- each between its own Begin and the next one, or the end
  pub in_turn : EachInItsTurn step first e.script e.events
  -- the answers are those of items that are done, in the order of their lines
  pub in_line : AnswersInLine e
  -- and there are as many deliveries as packets that were sent
  pub all_delivered : count_by is_delivery e.events ≡ length e.world.sent

-- What a call of the program may ensure of the run that it played: where its script is quiet, its items are answered within the bounds.
abbrev pub QuietIsAnswered : {N : Type 0} → (N → Do → NodeStep N) → (NodeId → Setup → List Work → N) → Estate N → Type 0
QuietIsAnswered step first e = IsQuiet e.script → AnswersWithinBounds step first e
