-- Checkpoints, and the log that they are written to, change nothing in the small world.
use Rattle.std.proofs.Common.{◌≡◌, ℕ, Bool, ◌==◌, ◌<◌, List, [], ◌∷◌, length, Option, Some, None, is_some, refl, ◌∙◌}
use Rattle.std.specs.Prelude.{fold}
use Rattle.std.specs.List.{flat_map}
use Rattle.xfs_base.proofs.Booleans.{by_test}
use Rattle.xfs_base.specs.Steps.{Stepped, still, saying, steps}
use Rattle.xfs_base.specs.declared.segment.End.{End}
use Rattle.xfs_base.specs.Limits.{slot_count}
use Rattle.checkpoint.specs.declared.input.In.{In as WriterIn}
use Rattle.checkpoint.specs.declared.input.In.TheVariants as writer_in
use Rattle.checkpoint.specs.declared.output.Out.{Out}
use Rattle.checkpoint.specs.declared.output.Out.TheVariants as out
use Rattle.checkpoint.specs.Transition as writer
use Rattle.checkpoint.specs.WriterState.{WriterState}
use Rattle.client_log.specs.declared.input.In.{In as LogIn}
use Rattle.client_log.specs.declared.input.In.TheVariants as log_input
use Rattle.client_log.specs.declared.output.Out.{Out as LogOut}
use Rattle.client_log.specs.declared.output.Out.TheVariants as log_out
use Rattle.client_log.specs.Transition as log
use Rattle.node_base.specs.Beginning.{answers_unanswered}
use Rattle.node_base.specs.declared.effects.Effect.{Effect}
use Rattle.node_base.specs.declared.effects.Effect.TheVariants.{Answer as Answers}
use Rattle.segment_format.specs.declared.segment.Item.{Item}
use Rattle.token_law.specs.Net.{Net}
use Rattle.version_model.specs.declared.answer.Answer.{Answer}
use Rattle.version_model.specs.declared.answer.Answer.TheVariants as answer
use Rattle.wire_msg.specs.declared.registry.CkptAck.{CkptAck}
use Rattle.wire_msg.specs.declared.registry.CkptDone.{CkptDone}
use Rattle.wire_msg.specs.declared.storage.Stored.{Stored}
use Rattle.manager_slots.specs.Numbers.{slot_after}
use Rattle.manager_slots.specs.SlotTable.{Table, next_active, begin_at, slot_table_clean}
use Rattle.manager_serving.specs.Checkpoints.{Done, gives, checkpointing_store, give_parts, register, asked, writer_says, writer_says_each, writer_takes, filed, on_settled, log_says, log_says_each, serving_write, on_stored, no_more, writes_slot, begin_slot, next_from, next_for, next_slot, waits, on_checkpoint, awaits, checkpointing_count, answered_by, on_ckpt_ack, send_done, checkpointing_tell_again, serving_tell_again}
use Rattle.manager_serving.specs.declared.checkpointing.Checkpointing.{Checkpointing}
use Rattle.manager_serving.specs.declared.serving.Serving.{Serving}
use Rattle.node_slots.specs.node_tie.ManagerEvents.{TableAgrees}
use Rattle.headline.specs.Managers.{phase_at}
use Rattle.node_slots.proofs.node_tie.ManagerMoves.{AllDone, Stays, stays_same, stays_then}
use Rattle.node_slots.proofs.node_tie.ManagerTables.{TableStays, table_cleans, table_names}

module _ (logs : Bool) (members part limit life : ℕ) (exists : part < slot_count) (n : Net) where
  abbrev Agrees : Table → Type 0
  Agrees t = TableAgrees members part n t

  -- a step of a manager that has this number, incarnation and table, of which the small world sees nothing
  pub record Quiet (j inc : ℕ) (t : Table) (d : Done) : Type 0 where
    pub number : d.state.lasting.number ≡ j
    pub lives : d.state.lasting.inc ≡ inc
    pub stays : Stays logs members part limit life n (phase_at t part) (phase_at d.state.slots part) d.outs
    pub agrees : TableAgrees members part n d.state.slots

  abbrev pub Of : Serving → Done → Type 0
  Of s d = Quiet s.lasting.number s.lasting.inc s.slots d

  quiet_saying : (j inc : ℕ) (s : Serving) (outs : List Effect) → s.lasting.number ≡ j → s.lasting.inc ≡ inc → Agrees s.slots
      → AllDone logs members part limit life n outs → Quiet j inc s.slots (record { state = s; outs = outs })
  quiet_saying j inc s outs number life_ agrees done = record {
    number = number;
    lives = life_;
    stays = stays_same logs members part limit life n
        (phase_at s.slots part) outs done;
    agrees = agrees;
  }

  pub quiet_then : (j inc : ℕ) (t : Table) (d e : Done) → Quiet j inc t d → Of d.state e → Quiet j inc t (saying d.outs e)
  quiet_then j inc t d e h k = record {
    number = k.number ∙ h.number;
    lives = k.lives ∙ h.lives;
    stays = stays_then logs members part limit life n (phase_at t part) (phase_at d.state.slots part)
        (phase_at e.state.slots part) d.outs e.outs h.stays k.stays;
    agrees = k.agrees;
  }

  -- the table has changed otherwise than the small world sees
  quiet_changed : (s r : Serving) (outs : List Effect) → r.lasting.number ≡ s.lasting.number → r.lasting.inc ≡ s.lasting.inc
      → TableStays logs members part limit life exists n s.slots r.slots → AllDone logs members part limit life n outs
      → Of s (record { state = r; outs = outs })
  quiet_changed s r outs number life_ h done = record {
    number = number;
    lives = life_;
    stays = stays_then logs members part limit life n (phase_at s.slots part) (phase_at r.slots part) (phase_at r.slots part) [] outs h.stays
        (stays_same logs members part limit life n (phase_at r.slots part) outs done);
    agrees = h.agrees;
  }

  module _ {X : Type 0} (f : Serving → X → Done) (each : (s : Serving) (x : X) → Agrees s.slots → Of s (f s x)) where
    quiet_each : (s : Serving) (xs : List X) → Agrees s.slots → Of s (steps f s xs)
    quiet_each s [] agrees = quiet_saying s.lasting.number s.lasting.inc s [] refl refl agrees tt
    quiet_each s (x ∷ xs) agrees = let one = each s x agrees in quiet_then s.lasting.number s.lasting.inc s.slots (f s x) (steps f (f s x).state xs) one
        (quiet_each (f s x).state xs one.agrees)

  -- ---- what the writer says

  stored_done : (outs : List LogOut) → AllDone logs members part limit life n (flat_map checkpointing_store outs)
  unfolding checkpointing_store
  stored_done [] = tt
  stored_done (log_out.Send fragment member ∷ os) = (tt, stored_done os)
  stored_done (log_out.Settled end rows ∷ os) = stored_done os

  quiet_gives_parts : (s : Serving) (items : List Item) → Agrees s.slots → Of s (give_parts s items)
  unfolding give_parts
  quiet_gives_parts s items agrees =
      let r = log.transition s.log (log_input.Parts items) in
      quiet_saying s.lasting.number s.lasting.inc (record s { log = r.state }) (flat_map checkpointing_store r.outs) refl refl agrees (stored_done r.outs)

  quiet_registers : (s : Serving) (done : CkptDone) → Agrees s.slots → Of s (register s done)
  unfolding register
  quiet_registers s done agrees = quiet_changed s (register s done).state (register s done).outs refl refl
      (table_names logs members part limit life exists n s.slots done.slot done.epoch done.parts agrees) (tt, tt)

  quiet_says : (s : Serving) (o : Out) → Agrees s.slots → Of s (writer_says s o)
  unfolding writer_says
  quiet_says s (out.Parts items) agrees = quiet_gives_parts s items agrees
  quiet_says s (out.Done slot epoch parts horizon) agrees = quiet_registers (asked s) _ agrees
  quiet_says s out.Kept agrees = quiet_saying s.lasting.number s.lasting.inc s [] refl refl agrees tt
  quiet_says s (out.Stale epoch) agrees = quiet_saying s.lasting.number s.lasting.inc s [] refl refl agrees tt

  quiet_writer : (s : Serving) (given : WriterIn) → Agrees s.slots → Of s (writer_takes s given)
  unfolding writer_takes writer_says_each
  quiet_writer s given agrees = quiet_each writer_says quiet_says (record s { writer = (writer.transition s.writer given).state })
      (writer.transition s.writer given).outs agrees

  -- ---- the log of checkpoints

  quiet_settled : (s : Serving) (end : End) → Agrees s.slots → Of s (on_settled s end)
  unfolding on_settled
  quiet_settled s end agrees =
      quiet_then s.lasting.number s.lasting.inc s.slots (gives s (filed s end)) (writer_takes s (writer_in.Settled end))
      (quiet_saying s.lasting.number s.lasting.inc s (filed s end) refl refl agrees (tt, tt)) (quiet_writer s (writer_in.Settled end) agrees)

  quiet_log_says : (s : Serving) (o : LogOut) → Agrees s.slots → Of s (log_says s o)
  unfolding log_says
  quiet_log_says s (log_out.Send fragment member) agrees = quiet_saying s.lasting.number s.lasting.inc s _ refl refl agrees (tt, tt)
  quiet_log_says s (log_out.Settled end rows) agrees = quiet_settled s end agrees

  pub quiet_writes : (s : Serving) (given : LogIn) → Agrees s.slots → Of s (serving_write s given)
  unfolding serving_write log_says_each
  quiet_writes s given agrees = quiet_each log_says quiet_log_says (record s { log = (log.transition s.log given).state })
      (log.transition s.log given).outs agrees

  pub quiet_stored : (s : Serving) (stored_ : Stored) → Agrees s.slots → Of s (on_stored s stored_)
  quiet_stored s stored_ agrees = quiet_writes s (log_input.Acked stored_.name stored_.index stored_.generation) agrees

  -- ---- one slot after the other

  pub answers_done : (o : Option ℕ) (a : Answer) → AllDone logs members part limit life n (answers_unanswered o a)
  answers_done None a = tt
  answers_done (Some number) a = (tt, tt)

  quiet_no_more : (s : Serving) (job : Checkpointing) → Agrees s.slots → Of s (no_more s job)
  quiet_no_more s job agrees = quiet_saying s.lasting.number s.lasting.inc (no_more s job).state (no_more s job).outs refl refl agrees
      (answers_done s.lasting.items.unanswered (answer.Count job.count))

  quiet_writes_slot : (s : Serving) (o : Option WriterIn) → Agrees s.slots → Of s (writes_slot s o)
  quiet_writes_slot s None agrees = quiet_saying s.lasting.number s.lasting.inc s [] refl refl agrees tt
  quiet_writes_slot s (Some given) agrees = quiet_writer s given agrees

  quiet_begins : (s : Serving) (slot : ℕ) → Agrees s.slots → Of s (begin_slot s slot)
  unfolding begin_slot
  quiet_begins s slot agrees =
      let h = table_cleans logs members part limit life exists n s.slots slot agrees in
      let r : Serving = record s { slots = slot_table_clean s.slots slot } in
      quiet_then s.lasting.number s.lasting.inc s.slots (still r) (writes_slot r (begin_at s.slots slot)) (quiet_changed s r [] refl refl h tt)
      (quiet_writes_slot r (begin_at s.slots slot) h.agrees)

  quiet_next_from : (s : Serving) (job : Checkpointing) (o : Option ℕ) → Agrees s.slots → Of s (next_from s job o)
  quiet_next_from s job None agrees = quiet_no_more s job agrees
  quiet_next_from s job (Some slot) agrees = quiet_begins (record s { checkpoint = Some (record job { next = slot_after slot }) }) slot agrees

  quiet_next_for : (s : Serving) (o : Option Checkpointing) → Agrees s.slots → Of s (next_for s o)
  quiet_next_for s None agrees = quiet_saying s.lasting.number s.lasting.inc s [] refl refl agrees tt
  quiet_next_for s (Some job) agrees = quiet_next_from s job (next_active s.slots job.next) agrees

  quiet_next : (s : Serving) → Agrees s.slots → Of s (next_slot s)
  unfolding next_slot
  quiet_next s agrees = quiet_next_for s s.checkpoint agrees

  -- ---- the events

  pub quiet_checkpoint : (s : Serving) (number : ℕ) → Agrees s.slots → Of s (on_checkpoint s number)
  unfolding on_checkpoint
  quiet_checkpoint s number agrees =
      by_test (Of s) (is_some s.lasting.items.unanswered) (gives s (Answers number answer.Busy ∷ [])) (next_slot (waits s number))
      (λ _. quiet_saying s.lasting.number s.lasting.inc s _ refl refl agrees (tt, tt)) (λ _. quiet_next (waits s number) agrees)

  quiet_answered : (s : Serving) (r : Stepped WriterState Out) → Agrees s.slots → Of s (answered_by s r)
  quiet_answered s r agrees =
      by_test (Of s) (length r.outs == 0) (still (record s { writer = r.state }))
      (next_slot (record s { writer = r.state; checkpoint = fold checkpointing_count s.checkpoint r.outs }))
      (λ _. quiet_saying s.lasting.number s.lasting.inc (record s { writer = r.state }) [] refl refl agrees tt)
      (λ _. quiet_next (record s { writer = r.state; checkpoint = fold checkpointing_count s.checkpoint r.outs }) agrees)

  pub quiet_ckpt_ack : (s : Serving) (ack : CkptAck) → Agrees s.slots → Of s (on_ckpt_ack s ack)
  unfolding on_ckpt_ack
  quiet_ckpt_ack s ack agrees =
      by_test (Of s) (awaits s.checkpoint ack.ask) (answered_by s (writer.transition s.writer (writer_in.Ack ack.epoch s.dones))) (still s)
      (λ _. quiet_answered s (writer.transition s.writer (writer_in.Ack ack.epoch s.dones)) agrees)
      (λ _. quiet_saying s.lasting.number s.lasting.inc s [] refl refl agrees tt)

  pub quiet_tells : (s : Serving) → Agrees s.slots → Of s (serving_tell_again s)
  unfolding serving_tell_again
  quiet_tells s agrees = quiet_saying s.lasting.number s.lasting.inc s (checkpointing_tell_again s.checkpoint) refl refl agrees (by s.checkpoint)
    where
      by_done : (o : Option CkptDone) → AllDone logs members part limit life n (send_done o)
      by_done None = tt
      by_done (Some done) = (tt, tt)

      by : (o : Option Checkpointing) → AllDone logs members part limit life n (checkpointing_tell_again o)
      by None = tt
      by (Some job) = by_done job.done
