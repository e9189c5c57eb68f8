-- What each event makes of the checkpoints that a manager writes, and of its log, and what the manager says of them.
use Rattle.std.proofs.Common.{◌≡◌, ℕ, ◌==◌, List, [], ◌∷◌, length, is_some, refl, sym, subst}
use Rattle.std.specs.Prelude.{Option, Some, None, IfSome, fold}
use Rattle.std.specs.List.{AllByRecursion}
use Rattle.checkpoint.specs.declared.input.In.{In as WriterIn}
use Rattle.checkpoint.specs.declared.input.In.TheVariants as writer_in
use Rattle.checkpoint.specs.declared.output.Out.{Out}
use Rattle.checkpoint.specs.declared.output.Out.TheVariants as out
use Rattle.checkpoint.specs.Transition as writer
use Rattle.checkpoint.specs.WriterState.{WriterState}
use Rattle.client_log.proofs.Settlings.{tells_due}
use Rattle.client_log.specs.declared.input.In.{In as LogIn}
use Rattle.client_log.specs.declared.input.In.TheVariants as log_input
use Rattle.client_log.specs.declared.output.Out.{Out as LogOut}
use Rattle.client_log.specs.declared.output.Out.TheVariants as log_out
use Rattle.client_log.specs.History.{TellsWhatIsDue}
use Rattle.client_log.specs.Transition as log
use Rattle.manager_slots.specs.Numbers.{slot_after}
use Rattle.manager_slots.specs.SlotTable.{next_active, begin_at, slot_table_clean}
use Rattle.manager_serving.specs.Checkpoints.{Done, gives, checkpointing_store, give_parts, register, await_answer, asked, writer_says, writer_says_each, writer_takes, filed, on_settled, log_says, log_says_each, serving_write, on_stored, no_more, writes_slot, begin_slot, next_from, next_for, next_slot, waits, on_checkpoint, awaits, checkpointing_count, answered_by, on_ckpt_ack, send_done, checkpointing_tell_again, serving_tell_again}
use Rattle.manager_serving.specs.declared.checkpointing.Checkpointing.{Checkpointing}
use Rattle.manager_serving.specs.declared.serving.Serving.{Serving}
use Rattle.node_base.specs.declared.effects.Effect.TheVariants.{Answer as Answers}
use Rattle.segment_format.specs.declared.segment.Item.{Item}
use Rattle.version_model.specs.declared.answer.Answer.TheVariants as answer
use Rattle.wire_msg.specs.declared.registry.CkptAck.{CkptAck}
use Rattle.wire_msg.specs.declared.registry.CkptDone.{CkptDone}
use Rattle.wire_msg.specs.declared.storage.Stored.{Stored}
use Rattle.xfs_base.proofs.Booleans.{by_test}
use Rattle.xfs_base.specs.declared.segment.End.{End}
use Rattle.xfs_base.specs.declared.segment.LogId.{LogId}
use Rattle.xfs_base.specs.Steps.{Stepped, still}
use Rattle.xfs_base.proofs.Alls.{all_flat_map}
use Rattle.xfs_base.proofs.Leaving.{Leaves, goes_after, leaves_each}
use Rattle.node_base.specs.Beginning.{answers_unanswered}
use Rattle.version_model.specs.declared.answer.Answer.{Answer}
use Rattle.node_moves.proofs.Effects as effects
use Rattle.node_moves.proofs.LogWalk.{IsHeard}
use Rattle.node_moves.proofs.manager_walk.Laws.{AllSay, Begins, DoneSo, JobSo, Says, ServingSo, Walk}
use Rattle.node_moves.proofs.manager_walk.Writers.{WriterLaw, GivenSo, OutSo, acked_on, writer_goes}
use Rattle.node_moves.proofs.manager_walk.Tables.{begin_so, table_cleaned, table_named}

module _ (w : Walk) where
  -- ---- the writer of checkpoints

  abbrev law : WriterLaw
  law = record {
    Work = w.Work;
    Items = w.Items;
    Done = w.Done;
    Settles = w.Settles;
    gives = w.gives;
    left = w.left;
    done = w.done;
    parted = w.parted;
  }

module _ (w : Walk) (l : LogId) where
  -- ---- what the writer says

  -- a manager that serves, whose writer is of this log
  pub record AtDesk (s : Serving) : Type 0 where
    pub so : ServingSo w s
    pub writer_log : s.writer.log ≡ l

  abbrev Works : Done → Type 0
  Works d = Leaves AtDesk (Says w) d

  one_stored : (o : LogOut) → AllSay w (checkpointing_store o)
  unfolding checkpointing_store
  one_stored (log_out.Send fragment member) = (w.plain _ tt, tt)
  one_stored (log_out.Settled end rows) = tt

  parts_on : (s : Serving) (items : List Item) → w.Items items → AtDesk s → Works (give_parts s items)
  unfolding give_parts
  parts_on s items told h = record {
    state = record {
      so = record { slots = h.so.slots; work = h.so.work; job = h.so.job; log = w.writes s.log items told h.so.log };
      writer_log = h.writer_log;
    };
    outs = all_flat_map (Says w) checkpointing_store one_stored (log.transition s.log (log_input.Parts items)).outs;
  }

  registers_on : (s : Serving) (done : CkptDone) → AtDesk s → DoneSo w done → Works (register s done)
  unfolding register
  registers_on s done h told = record {
    state = record {
      so = record {
        slots = table_named w s.slots done.slot done.epoch done.parts done.horizon told h.so.slots;
        work = h.so.work;
        job = by s.checkpoint;
        log = h.so.log;
      };
      writer_log = h.writer_log;
    };
    outs = (w.tells_done done told, tt);
  }
    where
      by : (checkpoint : Option Checkpointing) → JobSo w (await_answer done checkpoint)
      by None = tt
      by (Some job) = told

  says_on : (s : Serving) (o : Out) → AtDesk s → OutSo (law w) o → Works (writer_says s o)
  unfolding writer_says
  says_on s (out.Parts items) h told = parts_on s items told h
  says_on s (out.Done slot epoch parts horizon) h told =
      registers_on (asked s) _
      (record { so = record { slots = h.so.slots; work = h.so.work; job = h.so.job; log = h.so.log }; writer_log = h.writer_log }) told
  says_on s out.Kept h told = record { state = h; outs = tt }
  says_on s (out.Stale epoch) h told = record { state = h; outs = tt }

  pub writer_on : (s : Serving) (given : WriterIn) → AtDesk s → GivenSo (law w) l given → Works (writer_takes s given)
  unfolding writer_takes writer_says_each
  writer_on s given h told =
      let d = writer_goes (law w) l s.writer given (h.so.work, h.writer_log) told in
      leaves_each AtDesk (Says w) (OutSo (law w)) writer_says says_on (record s { writer = (writer.transition s.writer given).state })
      (writer.transition s.writer given).outs
      (record { so = record { slots = h.so.slots; work = d.state.0; job = h.so.job; log = h.so.log }; writer_log = d.state.1 }) d.outs

  pub acks_so : (s : WriterState) (epoch number : ℕ) → IfSome s.work w.Work → s.log ≡ l
      → IfSome (writer.on_ack s epoch number).state.work w.Work
  acks_so s epoch number before at = (acked_on (law w) l s epoch number (before, at)).state.0

  -- ---- the log of checkpoints

  settles_on : (s : Serving) (end : End) → AtDesk s → w.Settles l end → Works (on_settled s end)
  unfolding on_settled
  settles_on s end h new =
      goes_after AtDesk (Says w) (filed s end) (writer_takes s (writer_in.Settled end)) (tt, tt)
      (writer_on s (writer_in.Settled end) h new)

  -- what is settled is known
  abbrev LogSays : LogOut → Type 0
  LogSays (log_out.Send fragment member) = Unit {0}
  LogSays (log_out.Settled end rows) = w.Settles l end

  log_says_on : (s : Serving) (o : LogOut) → AtDesk s → LogSays o → Works (log_says s o)
  unfolding log_says
  log_says_on s (log_out.Send fragment member) h new = record { state = h; outs = (w.plain _ tt, tt) }
  log_says_on s (log_out.Settled end rows) h new = settles_on s end h new

  pub log_on : (s : Serving) (outs : List LogOut) → AtDesk s → AllByRecursion LogSays outs → Works (log_says_each s outs)
  unfolding log_says_each
  log_on s outs h all = leaves_each AtDesk (Says w) LogSays log_says log_says_on s outs h all

module _ (w : Walk) where
  abbrev pub Goes : Done → Type 0
  Goes d = Leaves (ServingSo w) (Says w) d

  pub answers_say : (item : Option ℕ) (a : Answer) → AllSay w (answers_unanswered item a)
  answers_say item a = effects.answers_say w.Tells item a

  at_desk : (s : Serving) → ServingSo w s → AtDesk w s.writer.log s
  at_desk s h = record { so = h; writer_log = refl }

  from_desk : (l : LogId) (d : Done) → Leaves (AtDesk w l) (Says w) d → Goes d
  from_desk l d h = record { state = h.state.so; outs = h.outs }

  writer_so : (s : Serving) (given : WriterIn) → ServingSo w s → GivenSo (law w) s.writer.log given → Goes (writer_takes s given)
  writer_so s given h told = from_desk s.writer.log (writer_takes s given) (writer_on w s.writer.log s given (at_desk s h) told)

  -- what is settled was in flight
  due_said : (s : Serving) (given : LogIn) → w.Flies s.writer.log s.log.flight → (outs : List LogOut) → AllByRecursion (TellsWhatIsDue s.log given) outs
      → AllByRecursion (LogSays w s.writer.log) outs
  due_said s given flies [] all = tt
  due_said s given flies (log_out.Send fragment member ∷ outs) all = (tt, due_said s given flies outs all.1)
  due_said s given flies (log_out.Settled end rows ∷ outs) all =
      let flew = w.settles s.writer.log _ (subst (λ o. w.Flies s.writer.log o) all.0.was flies) in
      (subst (λ x. w.Settles s.writer.log x) (sym all.0.is_end) flew, due_said s given flies outs all.1)

  pub writes_on : (s : Serving) (given : LogIn) → IsHeard given → ServingSo w s → w.Flies s.writer.log s.log.flight → Goes (serving_write s given)
  unfolding serving_write
  writes_on s given is h flies =
      from_desk s.writer.log (serving_write s given)
      (log_on w s.writer.log (record s { log = (log.transition s.log given).state }) (log.transition s.log given).outs
      (record { so = record { slots = h.slots; work = h.work; job = h.job; log = w.hears s.log given is h.log }; writer_log = refl })
      (due_said s given flies (log.transition s.log given).outs (tells_due s.log given)))

  pub stored_on : (s : Serving) (stored_ : Stored) → ServingSo w s → w.Flies s.writer.log s.log.flight → Goes (on_stored s stored_)
  stored_on s stored_ h flies = writes_on s (log_input.Acked stored_.name stored_.index stored_.generation) tt h flies

  -- ---- one slot after the other

  no_more-on : (s : Serving) (job : Checkpointing) → ServingSo w s → Goes (no_more s job)
  no_more-on s job h = record {
    state = record { slots = h.slots; work = h.work; job = tt; log = h.log };
    outs = answers_say s.lasting.items.unanswered (answer.Count job.count);
  }

  -- a checkpoint that begins
  given_so : (l : LogId) (o : Option WriterIn) → IfSome o (Begins w.Work) → IfSome o (GivenSo (law w) l)
  given_so l None told = tt
  given_so l (Some (writer_in.Begin slot epoch pages parts horizon)) told = told
  given_so l (Some (writer_in.Settled end)) told = absurd told
  given_so l (Some (writer_in.Ack epoch number)) told = tt

  writes_slot-on : (s : Serving) (o : Option WriterIn) → ServingSo w s → IfSome o (GivenSo (law w) s.writer.log) → Goes (writes_slot s o)
  writes_slot-on s None h told = record { state = h; outs = tt }
  writes_slot-on s (Some given) h told = writer_so s given h told

  begins_on : (s : Serving) (slot : ℕ) → ServingSo w s → Goes (begin_slot s slot)
  unfolding begin_slot
  begins_on s slot h =
      writes_slot-on (record s { slots = slot_table_clean s.slots slot }) (begin_at s.slots slot)
      (record { slots = table_cleaned w s.slots slot h.slots; work = h.work; job = h.job; log = h.log })
      (given_so s.writer.log (begin_at s.slots slot) (begin_so w s.slots slot h.slots))

  next_on : (s : Serving) → ServingSo w s → Goes (next_slot s)
  unfolding next_slot
  next_on s h = by s.checkpoint h.job
    where
      by_slot : (job : Checkpointing) → IfSome job.done (DoneSo w) → (o : Option ℕ) → Goes (next_from s job o)
      by_slot job told None = no_more-on s job h
      by_slot job told (Some slot) =
          begins_on (record s { checkpoint = Some (record job { next = slot_after slot }) }) slot
          (record { slots = h.slots; work = h.work; job = told; log = h.log })

      by : (checkpoint : Option Checkpointing) → JobSo w checkpoint → Goes (next_for s checkpoint)
      by None told = record { state = h; outs = tt }
      by (Some job) told = by_slot job told (next_active s.slots job.next)

  -- ---- the events

  pub checkpoint_on : (s : Serving) (number : ℕ) → ServingSo w s → Goes (on_checkpoint s number)
  unfolding on_checkpoint
  checkpoint_on s number h =
      by_test Goes (is_some s.lasting.items.unanswered) (gives s (Answers number answer.Busy ∷ [])) (next_slot (waits s number))
      (λ _. record { state = h; outs = (tt, tt) })
      (λ _. next_on (waits s number) (record { slots = h.slots; work = h.work; job = tt; log = h.log }))

  checkpointing_count_so : (checkpoint : Option Checkpointing) (o : Out) → JobSo w checkpoint → JobSo w (checkpointing_count checkpoint o)
  unfolding checkpointing_count
  checkpointing_count_so None (out.Parts items) h = tt
  checkpointing_count_so None (out.Done slot epoch parts horizon) h = tt
  checkpointing_count_so None out.Kept h = tt
  checkpointing_count_so None (out.Stale epoch) h = tt
  checkpointing_count_so (Some job) (out.Parts items) h = h
  checkpointing_count_so (Some job) (out.Done slot epoch parts horizon) h = h
  checkpointing_count_so (Some job) out.Kept h = tt
  checkpointing_count_so (Some job) (out.Stale epoch) h = tt

  all_counted : (checkpoint : Option Checkpointing) (outs : List Out) → JobSo w checkpoint → JobSo w (fold checkpointing_count checkpoint outs)
  all_counted checkpoint [] h = h
  all_counted checkpoint (o ∷ outs) h = all_counted (checkpointing_count checkpoint o) outs (checkpointing_count_so checkpoint o h)

  answered_on : (s : Serving) (r : Stepped WriterState Out) → ServingSo w s → IfSome r.state.work w.Work → Goes (answered_by s r)
  answered_on s r h left =
      by_test Goes (length r.outs == 0) (still (record s { writer = r.state }))
      (next_slot (record s { writer = r.state; checkpoint = fold checkpointing_count s.checkpoint r.outs }))
      (λ _. record { state = record { slots = h.slots; work = left; job = h.job; log = h.log }; outs = tt })
      (λ _. next_on (record s { writer = r.state; checkpoint = fold checkpointing_count s.checkpoint r.outs })
      (record { slots = h.slots; work = left; job = all_counted s.checkpoint r.outs h.job; log = h.log }))

  pub acks_on : (s : Serving) (ack : CkptAck) → ServingSo w s → Goes (on_ckpt_ack s ack)
  unfolding on_ckpt_ack
  acks_on s ack h =
      by_test Goes (awaits s.checkpoint ack.ask) (answered_by s (writer.transition s.writer (writer_in.Ack ack.epoch s.dones))) (still s)
      (λ _. answered_on s (writer.transition s.writer (writer_in.Ack ack.epoch s.dones)) h
      (acks_so w s.writer.log s.writer ack.epoch s.dones h.work refl))
      (λ _. record { state = h; outs = tt })

  pub tells_on : (s : Serving) → ServingSo w s → Goes (serving_tell_again s)
  unfolding serving_tell_again
  tells_on s h = record { state = h; outs = by s.checkpoint h.job }
    where
      by_done : (done : Option CkptDone) → IfSome done (DoneSo w) → AllSay w (send_done done)
      by_done None told = tt
      by_done (Some done) told = (w.tells_done done told, tt)

      by : (checkpoint : Option Checkpointing) → JobSo w checkpoint → AllSay w (checkpointing_tell_again checkpoint)
      by None told = tt
      by (Some job) told = by_done job.done told
