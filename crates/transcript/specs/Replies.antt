-- Which act answers which item.
use Rattle.std.specs.Prelude.{ℕ, ◌+◌, ◌-◌, Bool, true, false, is_some, List, [], ◌∷◌, slice_get, Option, Some, None}
use Rattle.std.specs.List.{count_by}
use Rattle.std.specs.Map.{lookup}
use Rattle.std.specs.BTreeMap.{is_at, insert_entry}
use Rattle.std.specs.Ordering.{nat_cmp, ordering_then}
use Rattle.std.specs.declared.cmp.Ordering.{Ordering}
use Rattle.script_text.specs.declared.script.Line.{Line}
use Rattle.version_model.specs.declared.act.Act.{Act}
use Rattle.version_model.specs.declared.act.Act.TheVariants as acts
use Rattle.version_model.specs.declared.answer.Answer.{Answer}
use Rattle.world_base.specs.declared.estate.Estate.{Estate}
use Rattle.world_base.specs.Items.{actor_of}
use Rattle.xfs_base.specs.declared.node.NodeId.{NodeId}
use Rattle.xfs_base.specs.declared.node.NodeId.TheVariants as nodes
use Rattle.xfs_base.specs.Nodes.{node_cmp}
use Rattle.transcript.specs.declared.falls.Fallen.{Fallen}
use Rattle.transcript.specs.declared.replies.ItemName.{ItemName}
use Rattle.transcript.specs.declared.replies.Reply.{Reply}
use Rattle.transcript.specs.Falls.{FallsState, falls_start, of_client, without, falls_take}

-- the order of items: by node, then by number
abbrev pub item_cmp : ItemName → ItemName → Ordering
item_cmp a b = ordering_then (node_cmp a.node b.node) (nat_cmp a.number b.number)

-- the answers of items, in order of items
abbrev pub Table : Type 0
Table = List (ItemName × Reply)

-- what a node has lost that now answers
abbrev pub handed_out : FallsState → NodeId → List Fallen
handed_out s (nodes.Client client) = of_client s.fallen client
handed_out s node = []

-- once it has answered nothing of it is left
abbrev pub handing_out : FallsState → NodeId → FallsState
handing_out s (nodes.Client client) = record s { fallen = without s.fallen client }
handing_out s node = s

-- the answers, and what clients that are back have lost, behind some acts
pub record RepliesState : Type 0 where
  pub table : Table
  pub falls : FallsState

-- the act at a place answers an item
abbrev pub gathering_answer : RepliesState → ItemName → ℕ → RepliesState
gathering_answer r name place = record {
  table = insert_entry item_cmp r.table name (record { place = place; fallen = handed_out r.falls name.node });
  falls = handing_out r.falls name.node;
}

-- the act at a place answers an item, or tells of falls
abbrev pub gathering_take : RepliesState → ℕ → Act → RepliesState
gathering_take r place (acts.Answered node item answer) = gathering_answer r (record { node = node; number = item }) place
gathering_take r place act = record { table = r.table; falls = falls_take r.falls act }

abbrev pub with_acts : RepliesState → ℕ → List Act → RepliesState
with_acts r place [] = r
with_acts r place (a ∷ rest) = with_acts (gathering_take r place a) (place + 1) rest

-- the answers among some acts
abbrev pub replies_of : List Act → Table
replies_of acts = (with_acts (record { table = []; falls = falls_start }) 0 acts).table

abbrev pub reply_of : Table → ItemName → Option Reply
reply_of table name = lookup (is_at (item_cmp name)) table

-- what the act at a place answers
abbrev pub answer_by : Option Act → Option Answer
answer_by None = None
answer_by (Some (acts.Answered node item answer)) = Some answer
answer_by (Some act) = None

abbrev pub answer_at : List Act → ℕ → Option Answer
answer_at acts place = answer_by (slice_get acts place)

-- ---- counts

abbrev pub is_item : Line → Bool
is_item line = is_some (actor_of line.work)

abbrev pub is_answer : Act → Bool
is_answer (acts.Answered node item answer) = true
is_answer act = false

module _ {N : Type 0} where
  -- how many lines of the script are items, and how many of these have no answer
  abbrev pub items_in : Estate N → ℕ
  items_in e = count_by is_item e.script.lines

  abbrev pub open_items : Estate N → ℕ
  open_items e = items_in e - count_by is_answer e.world.acts
