-- How a manager that serves writes checkpoints of its slots, one after the other.
use Rattle.std.specs.Prelude.{ℕ, Bool, false, ◌==◌, if◌then◌else◌, List, [], ◌∷◌, Option, Some, None, is_some, length, fold}
use Rattle.std.specs.List.{flat_map}
use Rattle.checkpoint.specs.declared.input.In.{In}
use Rattle.checkpoint.specs.declared.input.In.TheVariants as input
use Rattle.checkpoint.specs.declared.output.Out.{Out}
use Rattle.checkpoint.specs.declared.output.Out.TheVariants as out
use Rattle.checkpoint.specs.Transition as writer
use Rattle.checkpoint.specs.WriterState.{WriterState}
use Rattle.client_log.specs.declared.input.In.{In as LogIn}
use Rattle.client_log.specs.declared.input.In.TheVariants as log_input
use Rattle.client_log.specs.declared.output.Out.{Out as LogOut}
use Rattle.client_log.specs.declared.output.Out.TheVariants as log_out
use Rattle.client_log.specs.LogState.{LogState}
use Rattle.client_log.specs.Transition as log
use Rattle.log_owner.specs.Sending.{store, name_of}
use Rattle.manager_slots.specs.Lasting.{log_of, lasting_answer}
use Rattle.manager_slots.specs.Numbers.{risen, slot_after}
use Rattle.manager_slots.specs.SlotTable.{next_active, begin_at, slot_table_clean, slot_table_name}
use Rattle.node_base.specs.Asking.{next_ask, draw}
use Rattle.node_base.specs.Beginning.{items_wait, answers_unanswered}
use Rattle.node_base.specs.declared.effects.Effect.{Effect}
use Rattle.node_base.specs.declared.effects.Effect.TheVariants.{Send, Answer as Answers, Does}
use Rattle.segment_format.specs.declared.segment.Item.{Item}
use Rattle.version_model.specs.declared.act.Act.TheVariants.{Filed}
use Rattle.version_model.specs.declared.answer.Answer.TheVariants as answer
use Rattle.wire_msg.specs.declared.body.Body.TheVariants as body
use Rattle.wire_msg.specs.declared.registry.CkptAck.{CkptAck}
use Rattle.wire_msg.specs.declared.registry.CkptDone.{CkptDone}
use Rattle.wire_msg.specs.declared.storage.Stored.{Stored}
use Rattle.xfs_base.specs.declared.node.NodeId.TheVariants.{Registry}
use Rattle.xfs_base.specs.declared.segment.End.{End}
use Rattle.xfs_base.specs.Steps.{Stepped, still, saying, steps}
use Rattle.manager_serving.specs.declared.checkpointing.Checkpointing.{Checkpointing}
use Rattle.manager_serving.specs.declared.serving.Serving.{Serving}

-- a manager that serves, and what an event has it do
abbrev pub Done : Type 0
Done = Stepped Serving Effect

abbrev pub gives : Serving → List Effect → Done
gives s effects = record { state = s; outs = effects }

-- ---- what the writer says

-- a fragment of the segment in flight is sent
unfoldable pub checkpointing_store : LogOut → List Effect
checkpointing_store (log_out.Send fragment member) = store fragment member ∷ []
checkpointing_store (log_out.Settled end rows) = []

abbrev pub sends_parts : Serving → Stepped LogState LogOut → Done
sends_parts s r = record { state = record s { log = r.state }; outs = flat_map checkpointing_store r.outs }

-- Parts go to the log as its next segment. Nothing is in flight, so that nothing is settled by it.
unfoldable pub give_parts : Serving → List Item → Done
give_parts s items = sends_parts s (log.transition s.log (log_input.Parts items))

abbrev pub await_answer : CkptDone → Option Checkpointing → Option Checkpointing
await_answer done None = None
await_answer done (Some job) = Some (record job { done = Some done })

-- the registry is told of a slot's checkpoint, and its answer is awaited
unfoldable pub register : Serving → CkptDone → Done
register s done = record {
  state = record s { slots = slot_table_name s.slots done.slot done.epoch done.parts; dones = risen s.dones; checkpoint = await_answer done s.checkpoint };
  outs = Send Registry (body.CkptDone done) ∷ [];
}

abbrev pub asked : Serving → Serving
asked s = record s { lasting = record s.lasting { questions = draw s.lasting.questions } }

unfoldable pub writer_says : Serving → Out → Done
writer_says s (out.Parts items) = give_parts s items
writer_says s (out.Done slot epoch parts horizon) =
    register (asked s) (record { slot = slot; epoch = epoch; ask = next_ask s.lasting.questions; parts = parts; horizon = horizon })
writer_says s out.Kept = still s
writer_says s (out.Stale epoch) = still s

unfoldable pub writer_says_each : Serving → List Out → Done
writer_says_each s outs = steps writer_says s outs

abbrev pub said_by : Serving → Stepped WriterState Out → Done
said_by s r = writer_says_each (record s { writer = r.state }) r.outs

-- the writer takes an input, and what it says is done
unfoldable pub writer_takes : Serving → In → Done
writer_takes s given = said_by s (writer.transition s.writer given)

-- ---- the log of checkpoints

abbrev pub filed : Serving → End → List Effect
filed s end = Does (Filed (name_of (log_of s.lasting.number) end)) ∷ []

-- a segment of a checkpoint is settled
unfoldable pub on_settled : Serving → End → Done
on_settled s end = saying (filed s end) (writer_takes s (input.Settled end))

unfoldable pub log_says : Serving → LogOut → Done
log_says s (log_out.Send fragment member) = gives s (store fragment member ∷ [])
log_says s (log_out.Settled end rows) = on_settled s end

unfoldable pub log_says_each : Serving → List LogOut → Done
log_says_each s outs = steps log_says s outs

abbrev pub wrote : Serving → Stepped LogState LogOut → Done
wrote s r = log_says_each (record s { log = r.state }) r.outs

-- the log takes an input, and what it says is done
unfoldable pub serving_write : Serving → LogIn → Done
serving_write s given = wrote s (log.transition s.log given)

-- a server holds a fragment of the segment in flight
abbrev pub on_stored : Serving → Stored → Done
on_stored s stored = serving_write s (log_input.Acked stored.name stored.index stored.generation)

-- ---- one slot after the other

abbrev pub no_more : Serving → Checkpointing → Done
no_more s job = record {
  state = record s { checkpoint = None; lasting = lasting_answer s.lasting };
  outs = answers_unanswered s.lasting.items.unanswered (answer.Count job.count);
}

abbrev pub writes_slot : Serving → Option In → Done
writes_slot s None = still s
writes_slot s (Some given) = writer_takes s given

-- the checkpoint of a slot is begun, by its rows and its horizon of this moment
unfoldable pub begin_slot : Serving → ℕ → Done
begin_slot s slot = writes_slot (record s { slots = slot_table_clean s.slots slot }) (begin_at s.slots slot)

abbrev pub next_from : Serving → Checkpointing → Option ℕ → Done
next_from s job None = no_more s job
next_from s job (Some slot) = begin_slot (record s { checkpoint = Some (record job { next = slot_after slot }) }) slot

abbrev pub next_for : Serving → Option Checkpointing → Done
next_for s None = still s
next_for s (Some job) = next_from s job (next_active s.slots job.next)

-- the next slot that is managed is begun; where there is none the item is answered
unfoldable pub next_slot : Serving → Done
next_slot s = next_for s s.checkpoint

-- ---- the events

abbrev pub waits : Serving → ℕ → Serving
waits s number = record s {
  lasting = record s.lasting { items = items_wait s.lasting.items number };
  checkpoint = Some (record { next = 0; count = 0; done = None });
}

-- a checkpoint of all slots that are managed begins; while another item is open it is refused
unfoldable pub on_checkpoint : Serving → ℕ → Done
on_checkpoint s number =
    if is_some s.lasting.items.unanswered then gives s (Answers number answer.Busy ∷ []) else next_slot (waits s number)

abbrev pub awaits_done : Option CkptDone → ℕ → Bool
awaits_done None ask = false
awaits_done (Some done) ask = done.ask == ask

abbrev pub awaits : Option Checkpointing → ℕ → Bool
awaits None ask = false
awaits (Some job) ask = awaits_done job.done ask

-- one more slot is kept, and no answer is awaited
abbrev pub count_kept : Option Checkpointing → Option Checkpointing
count_kept None = None
count_kept (Some job) = Some (record job { count = risen job.count; done = None })

-- the slot has a later epoch: it is not counted
abbrev pub end_waiting : Option Checkpointing → Option Checkpointing
end_waiting None = None
end_waiting (Some job) = Some (record job { done = None })

-- what the registry's answer says of a slot
unfoldable pub checkpointing_count : Option Checkpointing → Out → Option Checkpointing
checkpointing_count checkpoint out.Kept = count_kept checkpoint
checkpointing_count checkpoint (out.Stale epoch) = end_waiting checkpoint
checkpointing_count checkpoint (out.Parts items) = checkpoint
checkpointing_count checkpoint (out.Done slot epoch parts horizon) = checkpoint

-- where the answer is taken, the next slot is looked for
abbrev pub answered_by : Serving → Stepped WriterState Out → Done
answered_by s r =
    if length r.outs == 0 then still (record s { writer = r.state })
    else next_slot (record s { writer = r.state; checkpoint = fold checkpointing_count s.checkpoint r.outs })

-- the registry answers a checkpoint of a slot
unfoldable pub on_ckpt_ack : Serving → CkptAck → Done
on_ckpt_ack s ack =
    if awaits s.checkpoint ack.ask then answered_by s (writer.transition s.writer (input.Ack ack.epoch s.dones)) else still s

abbrev pub send_done : Option CkptDone → List Effect
send_done None = []
send_done (Some done) = Send Registry (body.CkptDone done) ∷ []

abbrev pub checkpointing_tell_again : Option Checkpointing → List Effect
checkpointing_tell_again None = []
checkpointing_tell_again (Some job) = send_done job.done

-- time passes: what awaits the registry's answer is said again
unfoldable pub serving_tell_again : Serving → Done
serving_tell_again s = gives s (checkpointing_tell_again s.checkpoint)
