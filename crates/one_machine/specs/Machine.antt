-- One machine with one table of blocks, and what it answers to a script: it makes the call of each line on its table before it looks at the next one.
use Rattle.std.specs.Prelude.{◌≡◌, ℕ, ◌+◌, List, [], ◌∷◌, ◌++◌, codes, Option, Some, None}
use Rattle.std.specs.List.{count_by}
use Rattle.std.specs.Fmt.{decimal}
use Rattle.act_text.specs.Answers.{answer_text}
use Rattle.client_call.specs.Calls.{answer_of}
use Rattle.file_plan.specs.declared.block_call.BlockCall.{BlockCall}
use Rattle.file_plan.specs.declared.block_call.BlockCall.TheVariants.{Get, Put, Sync}
use Rattle.file_plan.specs.Driving.{World, most_steps, nothing_written, serve}
use Rattle.file_plan.specs.Example.{Ended, driven}
use Rattle.file_plan.specs.Plan.{plan}
use Rattle.script_text.specs.declared.script.Line.{Line}
use Rattle.script_text.specs.declared.script.Script.{Script}
use Rattle.transcript.specs.Replies.{is_item}
use Rattle.transcript.specs.Text.{asked_text, end_text, number_of, text_of}
use Rattle.version_model.specs.declared.act.Act.{Act}
use Rattle.version_model.specs.declared.answer.Answer.{Answer}
use Rattle.version_model.specs.declared.work.Work.{Work}
use Rattle.version_model.specs.declared.work.Work.TheVariants as work
use Rattle.world_base.specs.declared.estate.Estate.{Estate}
use Rattle.world_base.specs.Items.{actor_of}
use Rattle.xfs_base.specs.declared.node.NodeId.{NodeId}

-- the reply of one call on blocks, and the table then: a get answers the newest version with its value, a put makes one version more
abbrev pub by_one : World → BlockCall → Ended
by_one w call = record { reply = Some (answer_of (serve w call).answer); world = (serve w call).world }

-- the reply of what a line asks for, and the table then; a call on files is driven to its end; `number` is that of the item among those of its client
abbrev pub call_on : World → ℕ → Work → Ended
call_on w number (work.Bput client block value) = by_one w (Put block value)
call_on w number (work.Bget client block) = by_one w (Get block)
call_on w number (work.Sync client) = by_one w Sync
call_on w number (work.File client call) = driven (plan call number client) (most_steps call + 1) [] w
call_on w number other = record { reply = None; world = w }

abbrev pub replied : Option Answer → List ℕ
replied None = codes "open"
replied (Some answer) = answer_text answer

-- the text of a line that is an item: the number of the line, and the reply
abbrev pub reply_line : Line → Option NodeId → Option Answer → List ℕ
reply_line line None reply = []
reply_line line (Some node) reply = decimal line.number ++ 32 ∷ (replied reply ++ 10 ∷ [])

-- the reply to a line behind others, which asks for this of a node, and the table then; one that is no item changes nothing
abbrev pub after_line : World → List Line → Work → Option NodeId → Ended
after_line w before wanted None = record { reply = None; world = w }
after_line w before wanted (Some node) = call_on w (number_of before node) wanted

-- the replies to all lines behind these, one after another
abbrev pub replies_by : World → List Line → List Line → List ℕ
replies_by w before [] = []
replies_by w before (line ∷ lines) =
    let e = after_line w before line.work (actor_of line.work) in
    reply_line line (actor_of line.work) e.reply ++ replies_by e.world (before ++ line ∷ []) lines

-- What it answers to a script, from a table on which nothing was written: a line for each item; then these acts, where the script asks for acts; and the end line, by
-- which no item is open.
abbrev pub one_machine_text : Script → List Act → List ℕ
one_machine_text script acts =
    replies_by nothing_written [] script.lines ++ (asked_text script.setup.acts acts ++ end_text (count_by is_item script.lines) 0)

-- the text of a run is the one machine's
abbrev pub IsAsOneMachine : {N : Type 0} → Estate N → Type 0
IsAsOneMachine e = text_of e ≡ one_machine_text e.script e.world.acts
