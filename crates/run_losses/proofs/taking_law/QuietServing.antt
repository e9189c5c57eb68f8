-- How a manager's checkpoints, its log and what it does for clients and the cleaner leave its takeovers alone.
use Rattle.std.proofs.Common.{◌≡◌, ℕ, ◌+◌, ◌==◌, ◌≤◌, cond, List, [], ◌∷◌, length, is_some, nat_lt, Option, Some, None, refl, ◌∙◌, arith}
use Rattle.std.specs.Prelude.{fold}
use Rattle.std.proofs.lemmas.Bool.Decides.{nat_tests}
use Rattle.checkpoint.specs.declared.input.In.{In as WriterIn}
use Rattle.checkpoint.specs.declared.input.In.TheVariants as writer_in
use Rattle.checkpoint.specs.declared.output.Out.{Out as WriterOut}
use Rattle.checkpoint.specs.declared.output.Out.TheVariants as writer_out
use Rattle.checkpoint.specs.Transition as writer
use Rattle.checkpoint.specs.WriterState.{WriterState}
use Rattle.client_log.specs.declared.input.In.{In as LogIn}
use Rattle.client_log.specs.declared.input.In.TheVariants as log_in
use Rattle.client_log.specs.declared.output.Out.{Out as LogOut}
use Rattle.client_log.specs.declared.output.Out.TheVariants as log_out
use Rattle.client_log.specs.Transition as log
use Rattle.manager_slots.specs.Numbers.{slot_after}
use Rattle.manager_serving.specs.Checkpoints.{Done, gives, give_parts, register, asked, writer_says, writer_says_each, writer_takes, filed, on_settled, log_says, log_says_each, serving_write, writes_slot, begin_slot, next_from, next_for, next_slot, waits, on_checkpoint, awaits, checkpointing_count, answered_by, on_ckpt_ack, send_done, checkpointing_store, checkpointing_tell_again, serving_tell_again}
use Rattle.manager_serving.specs.declared.checkpointing.Checkpointing.{Checkpointing}
use Rattle.manager_serving.specs.declared.serving.Serving.{Serving}
use Rattle.version_model.specs.declared.answer.Answer.TheVariants as answer
use Rattle.wire_msg.specs.declared.cleaning.Check.{Check}
use Rattle.wire_msg.specs.declared.cleaning.UsageAsk.{UsageAsk}
use Rattle.wire_msg.specs.declared.deltas.Deltas.{Deltas}
use Rattle.wire_msg.specs.declared.registry.CkptAck.{CkptAck}
use Rattle.wire_msg.specs.declared.registry.CkptDone.{CkptDone}
use Rattle.wire_msg.specs.declared.tokens.Gave.{Gave}
use Rattle.wire_msg.specs.declared.tokens.Want.{Want}
use Rattle.segment_format.specs.declared.segment.Item.{Item}
use Rattle.xfs_base.proofs.Booleans.{by_test}
use Rattle.xfs_base.specs.declared.segment.End.{End}
use Rattle.xfs_base.specs.declared.segment.LogId.{LogId}
use Rattle.xfs_base.specs.Limits.{u32_end}
use Rattle.manager_slots.specs.SlotTable as table
use Rattle.manager_slots.specs.SlotTable.{Table, begin_at, slot_table_clean, next_active}
use Rattle.manager_serving.specs.Serving.{ask_for_maps, on_check, on_deltas, on_gave, on_usage_ask, on_want, recalls_again, with_slots}
use Rattle.node_base.specs.declared.effects.Effect.TheVariants.{Answer as Answers}
use Rattle.xfs_base.specs.Steps.{Stepped, saying, steps, still}
use Rattle.xfs_base.proofs.Alls.{all_append, all_flat_map}
use Rattle.run_losses.proofs.taking_law.Quiet.{Alike, AllQuiet, IsQuiet, TableRests, answers_quiet, checks_alone, cleaned_alike, deltas_alone, gaves_alone, named_alike, recalls_alone, usage_alone, wants_alone}

-- a part of an event leaves the takeovers and the maps alone, asks for no fragment, and says of nothing that it is lost
pub record Rests (s : Serving) (d : Done) : Type 0 where
  pub alike : Alike s.slots d.state.slots
  pub up : s.lasting.questions.last ≤ d.state.lasting.questions.last
  pub maps : d.state.maps ≡ s.maps
  pub number : d.state.lasting.number ≡ s.lasting.number
  pub does : AllQuiet d.outs

pub rests_still : (s : Serving) → Rests s (still s)
rests_still s = record { alike = λ k x fact. fact; up = omega arith; maps = refl; number = refl; does = tt }

pub rests_then : (s : Serving) (d e : Done) → Rests s d → Rests d.state e → Rests s (saying d.outs e)
rests_then s d e a b = record {
  alike = λ k x fact. a.alike k x (b.alike k x fact);
  up = (let x = a.up in let y = b.up in omega arith);
  maps = b.maps ∙ a.maps;
  number = b.number ∙ a.number;
  does = all_append IsQuiet d.outs e.outs a.does b.does;
}

-- from a state that has the same slots, maps and questions
rests_from : (s t : Serving) (d : Done) → Alike s.slots t.slots → s.lasting.questions.last ≤ t.lasting.questions.last → t.maps ≡ s.maps
    → t.lasting.number ≡ s.lasting.number → Rests t d → Rests s d
rests_from s t d alike up maps number r = record {
  alike = λ k x fact. alike k x (r.alike k x fact);
  up = (let a = r.up in omega arith);
  maps = r.maps ∙ maps;
  number = r.number ∙ number;
  does = r.does;
}

rests_steps : {X : Type 0} (step : Serving → X → Done) → ((s : Serving) (x : X) → Rests s (step s x)) → (s : Serving) (xs : List X) → Rests s (steps step s xs)
rests_steps step each s [] = rests_still s
rests_steps step each s (x ∷ xs) = rests_then s (step s x) (steps step (step s x).state xs) (each s x) (rests_steps step each (step s x).state xs)

same : (t : Table) → Alike t t
same t k x fact = fact

last_up : (k : ℕ) → k ≤ cond (nat_lt k u32_end) (k + 1) k
last_up k = grind (arith, nat_tests)

-- ---- checkpoints

stored_quiet : (o : LogOut) → AllQuiet (checkpointing_store o)
unfolding checkpointing_store
stored_quiet (log_out.Send fragment member) = (tt, tt)
stored_quiet (log_out.Settled end rows) = tt

parts_rest : (s : Serving) (items : List Item) → Rests s (give_parts s items)
unfolding give_parts
parts_rest s items = record {
  alike = same s.slots;
  up = omega arith;
  maps = refl;
  number = refl;
  does = all_flat_map IsQuiet checkpointing_store stored_quiet (log.transition s.log (log_in.Parts items)).outs;
}

registers_rest : (s : Serving) (done : CkptDone) → Rests s (register s done)
unfolding register
registers_rest s done =
    record { alike = named_alike s.slots done.slot done.epoch done.parts; up = omega arith; maps = refl; number = refl; does = (tt, tt) }

says_rest : (s : Serving) (o : WriterOut) → Rests s (writer_says s o)
unfolding writer_says
says_rest s (writer_out.Parts items) = parts_rest s items
says_rest s (writer_out.Done slot epoch parts horizon) =
    rests_from s (asked s) _ (same s.slots) (last_up s.lasting.questions.last) refl refl (registers_rest (asked s) _)
says_rest s writer_out.Kept = rests_still s
says_rest s (writer_out.Stale epoch) = rests_still s

writer_rests : (s : Serving) (given : WriterIn) → Rests s (writer_takes s given)
unfolding writer_takes writer_says_each
writer_rests s given =
    let t : Serving = record s { writer = (writer.transition s.writer given).state } in
    rests_from s t _ (same s.slots) (omega arith) refl refl (rests_steps writer_says says_rest t (writer.transition s.writer given).outs)

settled_rests : (s : Serving) (end : End) → Rests s (on_settled s end)
unfolding on_settled
settled_rests s end =
    rests_then s (gives s (filed s end)) (writer_takes s (writer_in.Settled end))
    (record { alike = same s.slots; up = omega arith; maps = refl; number = refl; does = (tt, tt) }) (writer_rests s (writer_in.Settled end))

log_says_rest : (s : Serving) (o : LogOut) → Rests s (log_says s o)
unfolding log_says
log_says_rest s (log_out.Send fragment member) = record { alike = same s.slots; up = omega arith; maps = refl; number = refl; does = (tt, tt) }
log_says_rest s (log_out.Settled end rows) = settled_rests s end

pub writes_rest : (s : Serving) (given : LogIn) → Rests s (serving_write s given)
unfolding serving_write log_says_each
writes_rest s given =
    let t : Serving = record s { log = (log.transition s.log given).state } in
    rests_from s t _ (same s.slots) (omega arith) refl refl (rests_steps log_says log_says_rest t (log.transition s.log given).outs)

writes_slot-rests : (s : Serving) (o : Option WriterIn) → Rests s (writes_slot s o)
writes_slot-rests s None = rests_still s
writes_slot-rests s (Some given) = writer_rests s given

begins_rest : (s : Serving) (slot : ℕ) → Rests s (begin_slot s slot)
unfolding begin_slot
begins_rest s slot =
    let t : Serving = record s { slots = slot_table_clean s.slots slot } in
    rests_from s t _ (cleaned_alike s.slots slot) (omega arith) refl refl (writes_slot-rests t (begin_at s.slots slot))

next_rests : (s : Serving) → Rests s (next_slot s)
unfolding next_slot
next_rests s = by s.checkpoint
  where
    by_slot : (job : Checkpointing) (o : Option ℕ) → Rests s (next_from s job o)
    by_slot job None = record {
      alike = same s.slots;
      up = omega arith;
      maps = refl;
      number = refl;
      does = answers_quiet s.lasting.items.unanswered (answer.Count job.count);
    }
    by_slot job (Some slot) =
        let t : Serving = record s { checkpoint = Some (record job { next = slot_after slot }) } in
        rests_from s t _ (same s.slots) (omega arith) refl refl (begins_rest t slot)

    by : (checkpoint : Option Checkpointing) → Rests s (next_for s checkpoint)
    by None = rests_still s
    by (Some job) = by_slot job (next_active s.slots job.next)

pub checkpoint_rests : (s : Serving) (number : ℕ) → Rests s (on_checkpoint s number)
unfolding on_checkpoint
checkpoint_rests s number =
    by_test (Rests s) (is_some s.lasting.items.unanswered) (gives s (Answers number answer.Busy ∷ [])) (next_slot (waits s number))
    (λ _. record { alike = same s.slots; up = omega arith; maps = refl; number = refl; does = (tt, tt) })
    (λ _. rests_from s (waits s number) _ (same s.slots) (omega arith) refl refl (next_rests (waits s number)))

acked_rests : (s : Serving) (r : Stepped WriterState WriterOut) → Rests s (answered_by s r)
acked_rests s r =
    let t : Serving = record s { writer = r.state } in
    let u : Serving = record s { writer = r.state; checkpoint = fold checkpointing_count s.checkpoint r.outs } in
    by_test (Rests s) (length r.outs == 0) (still t) (next_slot u) (λ _. rests_from s t _ (same s.slots) (omega arith) refl refl (rests_still t))
    (λ _. rests_from s u _ (same s.slots) (omega arith) refl refl (next_rests u))

pub ack_rests : (s : Serving) (ack : CkptAck) → Rests s (on_ckpt_ack s ack)
unfolding on_ckpt_ack
ack_rests s ack =
    by_test (Rests s) (awaits s.checkpoint ack.ask) (answered_by s (writer.transition s.writer (writer_in.Ack ack.epoch s.dones))) (still s)
    (λ _. acked_rests s (writer.transition s.writer (writer_in.Ack ack.epoch s.dones))) (λ _. rests_still s)

pub tells_rest : (s : Serving) → Rests s (serving_tell_again s)
unfolding serving_tell_again
tells_rest s = record { alike = same s.slots; up = omega arith; maps = refl; number = refl; does = told_quiet s.checkpoint }
  where
    done_quiet : (o : Option CkptDone) → AllQuiet (send_done o)
    done_quiet None = tt
    done_quiet (Some done) = (tt, tt)

    told_quiet : (o : Option Checkpointing) → AllQuiet (checkpointing_tell_again o)
    told_quiet None = tt
    told_quiet (Some job) = done_quiet job.done

-- ---- clients and the cleaner

slots_rest : (s : Serving) (d : table.Done) → TableRests s.slots d → Rests s (with_slots s d)
slots_rest s d r = record { alike = r.alike; up = omega arith; maps = refl; number = refl; does = r.does }

pub want_rests : (s : Serving) (client : Option ℕ) (want : Want) → Rests s (on_want s client want)
unfolding on_want
want_rests s None want = rests_still s
want_rests s (Some client) want = slots_rest s (table.on_want s.slots client want) (wants_alone s.slots client want)

pub gave_rests : (s : Serving) (client : Option ℕ) (gave : Gave) → Rests s (on_gave s client gave)
unfolding on_gave
gave_rests s None gave = rests_still s
gave_rests s (Some client) gave = slots_rest s (table.on_gave s.slots client gave) (gaves_alone s.slots client gave)

pub deltas_rest : (s : Serving) (log : Option LogId) (deltas : Deltas) → Rests s (on_deltas s log deltas)
unfolding on_deltas
deltas_rest s None deltas = rests_still s
deltas_rest s (Some log) deltas = slots_rest s (table.on_deltas s.slots log deltas) (deltas_alone s.slots log deltas)

pub check_rests : (s : Serving) (check : Check) → Rests s (on_check s check)
unfolding on_check
check_rests s check = slots_rest s (table.on_check s.slots check) (checks_alone s.slots check)

pub usage_rests : (s : Serving) (asking : UsageAsk) → Rests s (on_usage_ask s asking)
unfolding on_usage_ask
usage_rests s asking = record { alike = same s.slots; up = omega arith; maps = refl; number = refl; does = usage_alone s.slots asking }

pub recalls_rest : (s : Serving) → Rests s (recalls_again s)
unfolding recalls_again
recalls_rest s = slots_rest s (table.recall_again s.slots) (recalls_alone s.slots)

pub asks_maps-rests : (s : Serving) → Rests s (ask_for_maps s)
unfolding ask_for_maps
asks_maps-rests s = record { alike = same s.slots; up = last_up s.lasting.questions.last; maps = refl; number = refl; does = (tt, tt) }
