-- The items of a script: what each asks for, and that each is answered at most once, by its own node, after its Begin, as the text shows.
use Rattle.std.specs.List.{count_by, list_any}
use Rattle.std.specs.Prelude.{◌≡◌, ◌≤◌, ◌+◌, ◌-◌, ℕ, suc, Bool, false, ◌&&◌, ◌==◌, not, nat_lt, if◌then◌else◌, List, [], ◌∷◌, ◌++◌, Option, Some, None, length, slice_get, take}
use Rattle.cleaner_node.specs.CleanerEvents as cleaner
use Rattle.client_node.specs.Phases as client
use Rattle.core_world.specs.declared.any_node.AnyNode.{AnyNode}
use Rattle.core_world.specs.declared.any_node.AnyNode.TheVariants as any
use Rattle.manager_node.specs.Phases as manager
use Rattle.node_base.specs.declared.items.Items.{Items}
use Rattle.script_text.specs.declared.script.Line.{Line}
use Rattle.token_protocol.specs.Basics.{In}
use Rattle.transcript.specs.declared.replies.ItemName.{ItemName}
use Rattle.transcript.specs.declared.replies.Reply.{Reply}
use Rattle.transcript.specs.Replies.{answer_at, open_items, replies_of, reply_of}
use Rattle.version_model.specs.declared.act.Act.{Act}
use Rattle.version_model.specs.declared.act.Act.TheVariants as act
use Rattle.version_model.specs.declared.answer.Answer.{Answer}
use Rattle.version_model.specs.declared.work.Work.{Work}
use Rattle.version_model.specs.declared.work.Work.TheVariants as work
use Rattle.world_base.specs.declared.estate.Estate.{Estate}
use Rattle.world_base.specs.declared.event.Event.{Event}
use Rattle.world_base.specs.Events.{node_of}
use Rattle.world_base.specs.Items.{actor_of, is_for, items_of, works_of}
use Rattle.world_base.specs.Runs.{begins_of}
use Rattle.xfs_base.specs.declared.node.NodeId.{NodeId}
use Rattle.xfs_base.specs.declared.node.NodeId.TheVariants as nodes
use Rattle.xfs_base.specs.Nodes.{same_node}
use Rattle.headline.specs.Moments.{acts_in, moment}

-- the work of this number, from 1 on
abbrev pub asked_at : List Work → ℕ → Option Work
asked_at works item = if nat_lt 0 item then slice_get works (item - 1) else None

-- an item by which a node crashes, or a server loses its disk
abbrev pub Falls : Option Work → Type 0
Falls (Some (work.Crash node)) = Unit {0}
Falls (Some (work.Lose server)) = Unit {0}
Falls _ = ⊥

-- a call on files is asked for
abbrev pub IsFileCall : Option Work → Type 0
IsFileCall (Some (work.File c call)) = Unit {0}
IsFileCall _ = ⊥

-- the items of a node: how many have begun, and which of them is open
abbrev pub items_in : AnyNode → Items
items_in (any.Client c) = (client.lasting_of c.phase).items
items_in (any.Manager m) = (manager.lasting_of m.phase).items
items_in (any.Server s) = s.items
items_in (any.Cleaner c) = (cleaner.lasting_of c.phase).items
items_in (any.Registry r) = r.items

-- the name under which a node acts
abbrev pub name_in : AnyNode → NodeId
name_in (any.Client c) = nodes.Client (client.lasting_of c.phase).number
name_in (any.Manager m) = nodes.Manager (manager.lasting_of m.phase).number
name_in (any.Server s) = nodes.Server s.number
name_in (any.Cleaner c) = nodes.Cleaner
name_in (any.Registry r) = nodes.Registry

-- the open item: it waits for its answer
abbrev pub IsOpen : Items → ℕ → Type 0
IsOpen items item = items.unanswered ≡ Some item

-- the item of this number of a node
abbrev pub item_name : NodeId → ℕ → ItemName
item_name node item = record { node = node; number = item }

-- the item of a node behind these lines: it is counted among the node's own, from 1 on
abbrev pub item_behind : List Line → Option NodeId → List ItemName
item_behind before None = []
item_behind before (Some node) = item_name node (count_by (is_for node) (works_of before) + 1) ∷ []

-- the items of lines behind others
abbrev pub items_behind : List Line → List Line → List ItemName
items_behind before [] = []
items_behind before (line ∷ lines) = item_behind before (actor_of line.work) ++ items_behind (before ++ line ∷ []) lines

-- the items of a script, in the order of its lines
abbrev pub items_named : List Line → List ItemName
items_named lines = items_behind [] lines

-- no act of these answers this item
abbrev pub IsUnanswered : List Act → NodeId → ℕ → Type 0
IsUnanswered acts node item = (a : Answer) → In (act.Answered node item a) acts → ⊥

-- no item is answered twice: none is by an act and by a later one
abbrev pub AnswersOnce : List Act → Type 0
AnswersOnce [] = Unit {0}
AnswersOnce (act.Answered node item a ∷ acts) = IsUnanswered acts node item × AnswersOnce acts
AnswersOnce (_ ∷ acts) = AnswersOnce acts

-- whether an act answers an item, and whether some act does
abbrev pub answers : ItemName → Act → Bool
answers name (act.Answered node item a) = same_node node name.node && (item == name.number)
answers name _ = false

abbrev pub is_answered : List Act → ItemName → Bool
is_answered acts name = list_any (answers name) acts

-- how many items of a script no act answers
abbrev pub unanswered_in : List Line → List Act → ℕ
unanswered_in lines acts = count_by (λ name. not (is_answered acts name)) (items_named lines)

-- the answer that the text shows for this item is this one
abbrev pub IsShown : List Act → NodeId → ℕ → Answer → Type 0
IsShown acts node item a =
    (reply : Reply) × ((reply_of (replies_of acts) (item_name node item) ≡ Some reply) × (answer_at acts reply.place ≡ Some a))

-- it shows none
abbrev pub IsShownOpen : List Act → NodeId → ℕ → Type 0
IsShownOpen acts node item = reply_of (replies_of acts) (item_name node item) ≡ None

-- an item that an event answers
pub record IsOwnItem (e : Estate AnyNode) (count : ℕ) (event : Event) (node : NodeId) (item : ℕ) : Type 0 where
  -- it is one of the node to which the event happens
  pub own : node ≡ node_of event
  -- the script has it
  pub above : 1 ≤ item
  pub there : item ≤ length (items_of e.script.lines node)
  -- and by this event, or before, the node has begun it
  pub begun : item ≤ begins_of node (take (suc count) e.events)

pub record ItemsAnsweredOnce (e : Estate AnyNode) : Type 0 where
  -- what an event answers is an item of its node, which has begun
  pub own : (count : ℕ) (event : Event) → slice_get e.events count ≡ Some event → (node : NodeId) (item : ℕ) (a : Answer)
      → In (act.Answered node item a) (acts_in (moment e count) event) → IsOwnItem e count event node item
  -- no item is answered twice in the run
  pub once : AnswersOnce e.world.acts
  -- so the text shows for each item its one answer, or that it is open
  pub shown : (place : ℕ) (node : NodeId) (item : ℕ) (a : Answer) → slice_get e.world.acts place ≡ Some (act.Answered node item a)
      → IsShown e.world.acts node item a
  pub shown_open : (node : NodeId) (item : ℕ) → IsUnanswered e.world.acts node item → IsShownOpen e.world.acts node item
  -- and the items that are counted as open are those that no act answers
  pub left : open_items e ≡ unanswered_in e.script.lines e.world.acts
