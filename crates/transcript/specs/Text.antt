-- The text of an estate: a line for each item, with its answer; then the acts, where the script asks for them; then the end line.
use Rattle.std.specs.Prelude.{ℕ, ◌+◌, min, Bool, List, [], ◌∷◌, ◌++◌, codes, Option, Some, None, if◌then◌else◌}
use Rattle.std.specs.List.{count_by}
use Rattle.std.specs.Fmt.{decimal}
use Rattle.act_text.specs.Acts.{acts_text}
use Rattle.act_text.specs.Answers.{answer_text}
use Rattle.act_text.specs.Pieces.{block_text}
use Rattle.script_text.specs.declared.script.Line.{Line}
use Rattle.version_model.specs.declared.act.Act.{Act}
use Rattle.version_model.specs.declared.answer.Answer.{Answer}
use Rattle.world_base.specs.declared.estate.Estate.{Estate}
use Rattle.world_base.specs.Items.{actor_of, is_for, works_of}
use Rattle.xfs_base.specs.declared.node.NodeId.{NodeId}
use Rattle.xfs_base.specs.Limits.{u32_end}
use Rattle.transcript.specs.declared.falls.Fallen.{Fallen}
use Rattle.transcript.specs.declared.replies.Reply.{Reply}
use Rattle.transcript.specs.Replies.{Table, answer_at, items_in, open_items, replies_of, reply_of}

-- the number of an item of a node, where so many lines of the node stand before it
abbrev pub number_behind : ℕ → ℕ
number_behind count = min (count + 1) u32_end

-- the number of the item that a line of a node behind these lines is: it counts the node's lines up to it
abbrev pub number_of : List Line → NodeId → ℕ
number_of before node = number_behind (count_by (is_for node) (works_of before))

-- a block that fell
abbrev pub fall_text : Fallen → List ℕ
fall_text f = codes " fell " ++ (block_text f.block ++ (codes " v" ++ decimal f.ver))

-- what a client that is back has lost
abbrev pub fell_text : List Fallen → List ℕ
fell_text [] = []
fell_text (f ∷ fs) = fall_text f ++ fell_text fs

abbrev pub answered_text : Option Answer → List Fallen → List ℕ
answered_text None fallen = []
answered_text (Some answer) fallen = answer_text answer ++ fell_text fallen

-- the answer of an item, or that it has none
abbrev pub reply_text : List Act → Option Reply → List ℕ
reply_text acts None = codes "open"
reply_text acts (Some reply) = answered_text (answer_at acts reply.place) reply.fallen

-- an item's line: the number of its line in the script, and its answer
abbrev pub item_text : List Act → Table → (NodeId → ℕ) → Line → Option NodeId → List ℕ
item_text acts table number line None = []
item_text acts table number line (Some node) =
    decimal line.number ++ 32 ∷ (reply_text acts (reply_of table (record { node = node; number = number node })) ++ 10 ∷ [])

abbrev pub line_text : List Act → Table → (NodeId → ℕ) → Line → List ℕ
line_text acts table number line = item_text acts table number line (actor_of line.work)

-- the lines of all items, behind those of other lines
abbrev pub lines_text : List Act → Table → List Line → List Line → List ℕ
lines_text acts table before [] = []
lines_text acts table before (line ∷ lines) =
    line_text acts table (number_of before) line ++ lines_text acts table (before ++ line ∷ []) lines

-- how many items there are, and how many of them have no answer
abbrev pub end_text : ℕ → ℕ → List ℕ
end_text items unanswered = codes "end " ++ (decimal items ++ 32 ∷ (decimal unanswered ++ 10 ∷ []))

-- the acts, where they are asked for
abbrev pub asked_text : Bool → List Act → List ℕ
asked_text asked acts = if asked then acts_text acts else []

module _ {N : Type 0} where
  abbrev pub items_text : Estate N → List ℕ
  items_text e = lines_text e.world.acts (replies_of e.world.acts) [] e.script.lines

  unfoldable pub text_of : Estate N → List ℕ
  text_of e = items_text e ++ (asked_text e.script.setup.acts e.world.acts ++ end_text (items_in e) (open_items e))
