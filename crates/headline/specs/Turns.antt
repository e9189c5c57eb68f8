-- Items that begin in turn, as by workers: each but a crash or the loss of a disk begins only where all earlier ones of its node are answered. None finds its node
-- busy; and in any run a restart right behind a crash never finds its node up.
use Rattle.std.specs.Prelude.{◌≡◌, ◌⊎◌, ◌<◌, ◌≤◌, ℕ, suc, true, List, Option, Some, slice_get}
use Rattle.core_world.specs.declared.any_node.AnyNode.{AnyNode}
use Rattle.node_base.specs.Beginning.{next_item}
use Rattle.token_protocol.specs.Basics.{In}
use Rattle.version_model.specs.declared.act.Act.{Act}
use Rattle.version_model.specs.declared.act.Act.TheVariants as act
use Rattle.version_model.specs.declared.answer.Answer.{Answer}
use Rattle.version_model.specs.declared.answer.Answer.TheVariants as answer
use Rattle.version_model.specs.declared.work.Work.{Work}
use Rattle.version_model.specs.declared.work.Work.TheVariants as work
use Rattle.world_base.specs.declared.estate.Estate.{Estate}
use Rattle.world_base.specs.declared.event.Event.{Event}
use Rattle.world_base.specs.declared.event.Event.TheVariants.{Begin}
use Rattle.world_base.specs.Items.{items_of}
use Rattle.xfs_base.specs.declared.node.NodeId.{NodeId}
use Rattle.xfs_base.specs.declared.node.NodeId.TheVariants as nodes
use Rattle.xfs_base.specs.declared.segment.SegName.{SegName}
use Rattle.headline.specs.Calls.{IsCrash}
use Rattle.headline.specs.Dues.{has_counters}
use Rattle.headline.specs.Items.{Falls, asked_at, items_in}
use Rattle.headline.specs.Moments.{acts_in, moment, node_named}
use Rattle.headline.specs.Standings.{IsRestart}

-- neither a crash nor a restart
abbrev pub LetsStand : Option Work → Type 0
LetsStand (Some (work.Crash node)) = ⊥
LetsStand (Some (work.Restart node)) = ⊥
LetsStand _ = Unit {0}

-- clients, managers and the cleaner crash and start again
abbrev pub MayFall : NodeId → Type 0
MayFall (nodes.Server k) = ⊥
MayFall nodes.Registry = ⊥
MayFall _ = Unit {0}

-- among these acts is an answer of the node to the item
abbrev pub IsAnswered : List Act → NodeId → ℕ → Type 0
IsAnswered acts node item = (a : Answer) × In (act.Answered node item a) acts

module _ (e : Estate AnyNode) where
  -- what the item of this number of a node asks for
  abbrev pub asks : NodeId → ℕ → Option Work
  asks node item = asked_at (items_of e.script.lines node) item

  -- Where an item begins of a node whose counters are far from their ends, which is neither a crash nor the loss of a disk, each item of the node before it is
  -- answered by then.
  abbrev pub BeginsInTurn : Type 0
  BeginsInTurn =
      (count : ℕ) (node : NodeId) → slice_get e.events count ≡ Some (Begin node) → (x : AnyNode) → node_named (moment e count) node ≡ Some x
      → has_counters x ≡ true → (number : ℕ) → next_item (items_in x) ≡ Some number → (Falls (asks node number) → ⊥)
      → (item : ℕ) → 1 ≤ item → item < number → IsAnswered (moment e count).acts node item

  -- a node answers this to its item in an event
  abbrev pub AnswersThen : ℕ → Event → NodeId → ℕ → Answer → Type 0
  AnswersThen count event node item a = In (act.Answered node item a) (acts_in (moment e count) event)

  -- the item was answered by then that a segment is lost
  abbrev pub WasLost : ℕ → NodeId → ℕ → Type 0
  WasLost count node item = (name : SegName) × In (act.Answered node item (answer.Lost name)) (moment e count).acts

  -- the last crash or restart among the items of the node before this one is a crash, or a restart that was answered that a segment is lost
  pub record FellBefore (count : ℕ) (node : NodeId) (item : ℕ) : Type 0 where
    pub last : ℕ
    pub before : last < item
    pub fell : IsCrash (asks node last) ⊎ (IsRestart (asks node last) × WasLost count node last)
    pub none : (between : ℕ) → last < between → between < item → LetsStand (asks node between)

  pub record AnswersInTurn : Type 0 where
    -- no item is answered that its node is busy
    pub never_busy : (count : ℕ) (event : Event) → slice_get e.events count ≡ Some event → (node : NodeId) (item : ℕ)
        → AnswersThen count event node item answer.Busy → ⊥
    -- and that it is down only behind a crash, or behind a restart by which it lost a segment of its log
    pub down_behind : (count : ℕ) (event : Event) → slice_get e.events count ≡ Some event → (node : NodeId) (item : ℕ)
        → AnswersThen count event node item answer.Down → FellBefore count node item

  -- In any run: a restart right behind a crash of its node is never answered that the node is up.
  abbrev pub CrashesAreFelt : Type 0
  CrashesAreFelt =
      (count : ℕ) (event : Event) → slice_get e.events count ≡ Some event → (node : NodeId) → MayFall node → (item : ℕ) → IsCrash (asks node item)
      → AnswersThen count event node (suc item) answer.Up → ⊥
