-- What a manager names in the checkpoints that it writes is known: the segments that it had in flight, and acted to be filed.
use Rattle.std.proofs.Common.{◌≡◌, ℕ, ◌==◌, List, [], ◌∷◌, length, is_some, subst}
use Rattle.std.specs.Prelude.{Option, Some, None, IfSome, Contains, fold}
use Rattle.std.specs.List.{AllByRecursion}
use Rattle.checkpoint.specs.declared.input.In.{In as WriterIn}
use Rattle.checkpoint.specs.declared.input.In.TheVariants as writer_in
use Rattle.checkpoint.specs.declared.output.Out.{Out}
use Rattle.checkpoint.specs.declared.output.Out.TheVariants as out
use Rattle.checkpoint.specs.Transition as writer
use Rattle.checkpoint.specs.WriterState.{WriterState}
use Rattle.client_log.specs.declared.input.In.{In as LogIn}
use Rattle.client_log.specs.declared.input.In.TheVariants as log_input
use Rattle.client_log.specs.declared.output.Out.{Out as LogOut}
use Rattle.client_log.specs.declared.output.Out.TheVariants as log_out
use Rattle.client_log.specs.Transition as log
use Rattle.group_map.specs.GroupMapState.{GroupMapState}
use Rattle.log_owner.specs.Sending.{name_of}
use Rattle.manager_slots.specs.Lasting.{log_of}
use Rattle.manager_slots.specs.Numbers.{slot_after}
use Rattle.manager_slots.specs.SlotTable.{next_active, begin_at, slot_table_clean}
use Rattle.manager_serving.specs.Checkpoints.{Done, gives, checkpointing_store, await_answer, give_parts, register, asked, writer_says, writer_says_each, writer_takes, filed, on_settled, log_says, log_says_each, serving_write, on_stored, no_more, writes_slot, begin_slot, next_from, next_for, next_slot, waits, on_checkpoint, awaits, checkpointing_count, answered_by, on_ckpt_ack, send_done, checkpointing_tell_again, serving_tell_again}
use Rattle.manager_serving.specs.declared.checkpointing.Checkpointing.{Checkpointing}
use Rattle.manager_serving.specs.declared.serving.Serving.{Serving}
use Rattle.node_base.specs.declared.effects.Effect.TheVariants.{Answer as Answers}
use Rattle.version_model.specs.declared.act.Act.{Act}
use Rattle.version_model.specs.declared.act.Act.TheVariants.{Filed}
use Rattle.version_model.specs.declared.answer.Answer.TheVariants as answer
use Rattle.wire_msg.specs.declared.registry.CkptAck.{CkptAck}
use Rattle.wire_msg.specs.declared.registry.CkptDone.{CkptDone}
use Rattle.wire_msg.specs.declared.storage.Stored.{Stored}
use Rattle.xfs_base.proofs.Booleans.{by_test}
use Rattle.xfs_base.specs.declared.segment.End.{End}
use Rattle.xfs_base.specs.Steps.{Stepped, still}
use Rattle.client_log.specs.LogState.{LogState}
use Rattle.node_moves.proofs.manager_walk.Writers.{WriterLaw, GivenSo, OutSo, WriterStands, writer_goes}
use Rattle.node_tellings.proofs.part_tie.Leaving.{LeavesIf, leaves_each-if}
use Rattle.segment_format.specs.declared.segment.Item.{Item}
use Rattle.xfs_base.specs.declared.segment.LogId.{LogId}
use Rattle.xfs_base.proofs.Alls.{all_append, all_flat_map}
use Rattle.xfs_base.proofs.Leaving.{Leaves, goes_after, leaves_each}
use Rattle.node_tellings.specs.part_tie.ManagerNames.{DoneNames, FlightNames, JobNames, SlotNames, WorkNames}
use Rattle.node_tellings.specs.part_tie.Names.{AllKnown, Known}
use Rattle.node_tellings.proofs.part_tie.Flights.{FiledKnown, OutNames as LogOutNames, acked_names, maps_names, tick_names}
use Rattle.node_tellings.proofs.part_tie.Saying.{Acted, AllSay, Says, answers_say}
use Rattle.node_tellings.proofs.part_tie.Tables.{BeginNames, begin_names, table_cleaned, table_named}

module _ (known : Known) (acts : List Act) (its_number : ℕ) (log_id : LogId) where
  -- ---- the writer of checkpoints

  -- what it is given are the parts that are named again, and a segment that is settled; what it gives out are the parts of a checkpoint that is done
  abbrev law : WriterLaw
  law = record {
    Work = WorkNames known;
    Items = λ items. Unit {0};
    Done = λ slot epoch parts horizon. AllKnown known parts;
    Settles = λ l end. known (writer.part_at l end);
    gives = λ it h. tt;
    left = λ it h. h;
    done = λ it h. h;
    parted = λ l it end fact h. all_append known it.parts (writer.part_at l end ∷ []) h (fact, tt);
  }

  -- ---- what the writer says

  -- what a manager that serves names is known, and its writer is of this log
  pub record Holds (More : LogState → Type 0) (s : Serving) : Type 0 where
    pub slots : AllByRecursion (SlotNames known) s.slots
    pub work : IfSome s.writer.work (WorkNames known)
    pub own : s.writer.log ≡ log_id
    pub its : s.lasting.number ≡ its_number
    pub done : IfSome s.checkpoint (JobNames known)
    pub more : More s.log

  abbrev pub AnyLog : LogState → Type 0
  AnyLog l = Unit {0}

  abbrev pub Plain : Serving → Type 0
  Plain s = Holds AnyLog s

  -- what it has in flight is known, too
  abbrev pub Flies : Serving → Type 0
  Flies s = Holds (FlightNames known acts its_number log_id) s

  pub plainly : (s : Serving) → Flies s → Plain s
  plainly s h = record { slots = h.slots; work = h.work; own = h.own; its = h.its; done = h.done; more = tt }

  abbrev pub Goes : Done → Type 0
  Goes d = Leaves Plain (Says known) d

  -- so it is where all that it acts is among the acts
  abbrev pub Tells : Done → Type 0
  Tells d = LeavesIf (Acted acts) Plain (Says known) d

  one_stored : (o : LogOut) → AllSay known (checkpointing_store o)
  unfolding checkpointing_store
  one_stored (log_out.Send fragment member) = (tt, tt)
  one_stored (log_out.Settled end rows) = tt

  parts_on : (s : Serving) (items : List Item) → Plain s → Goes (give_parts s items)
  unfolding give_parts
  parts_on s items h = record {
    state = record { slots = h.slots; work = h.work; own = h.own; its = h.its; done = h.done; more = tt };
    outs = all_flat_map (Says known) checkpointing_store one_stored (log.transition s.log (log_input.Parts items)).outs;
  }

  awaits_done : (m : CkptDone) → DoneNames known m → (job : Option Checkpointing) → IfSome (await_answer m job) (JobNames known)
  awaits_done m fact None = tt
  awaits_done m fact (Some job) = fact

  registers_on : (s : Serving) (m : CkptDone) → DoneNames known m → Plain s → Goes (register s m)
  unfolding register
  registers_on s m fact h = record {
    state = record {
      slots = table_named known s.slots m.slot m.epoch m.parts fact h.slots;
      work = h.work;
      own = h.own;
      its = h.its;
      done = awaits_done m fact s.checkpoint;
      more = tt;
    };
    outs = (fact, tt);
  }

  says_on : (s : Serving) (o : Out) → Plain s → OutSo law o → Goes (writer_says s o)
  unfolding writer_says
  says_on s (out.Parts items) h fact = parts_on s items h
  says_on s (out.Done slot epoch parts horizon) h fact =
      registers_on (asked s) _ fact (record { slots = h.slots; work = h.work; own = h.own; its = h.its; done = h.done; more = tt })
  says_on s out.Kept h fact = record { state = h; outs = tt }
  says_on s (out.Stale epoch) h fact = record { state = h; outs = tt }

  writer_on : (s : Serving) (given : WriterIn) → Plain s → GivenSo law log_id given → Goes (writer_takes s given)
  unfolding writer_takes writer_says_each
  writer_on s given h fact =
      let d = writer_goes law log_id s.writer given (h.work, h.own) fact in
      let after = d.state in
      leaves_each Plain (Says known) (OutSo law) writer_says says_on (record s { writer = (writer.transition s.writer given).state })
      (writer.transition s.writer given).outs (record { slots = h.slots; work = after.0; own = after.1; its = h.its; done = h.done; more = tt }) d.outs

  -- ---- the log of checkpoints

  settles_on : (s : Serving) (end : End) → Plain s → FiledKnown known acts its_number log_id end → Tells (on_settled s end)
  unfolding on_settled
  settles_on s end h fact acted =
      let filed_so : Contains acts (Filed (name_of (log_of its_number) end)) =
      subst (λ n. Contains acts (Filed (name_of (log_of n) end))) h.its acted.0 in
      goes_after Plain (Says known) (filed s end) (writer_takes s (writer_in.Settled end)) (tt, tt)
      (writer_on s (writer_in.Settled end) h (fact filed_so))

  log_says_on : (s : Serving) (o : LogOut) → Plain s → LogOutNames known acts its_number log_id o → Tells (log_says s o)
  unfolding log_says
  log_says_on s (log_out.Send fragment member) h fact acted = record { state = h; outs = (tt, tt) }
  log_says_on s (log_out.Settled end rows) h fact acted = settles_on s end h fact acted

  writes_on : (s : Serving) (given : LogIn) → Plain s → AllByRecursion (LogOutNames known acts its_number log_id) (log.transition s.log given).outs
      → Tells (serving_write s given)
  unfolding serving_write log_says_each
  writes_on s given h names acted =
      leaves_each-if (Acted acts) Plain (Says known) (LogOutNames known acts its_number log_id) log_says log_says_on
      (record s { log = (log.transition s.log given).state })
      (log.transition s.log given).outs (record { slots = h.slots; work = h.work; own = h.own; its = h.its; done = h.done; more = tt }) names acted

  pub maps_on : (s : Serving) (groups : GroupMapState) → Flies s → Tells (serving_write s (log_input.Maps groups))
  maps_on s groups h = writes_on s (log_input.Maps groups) (plainly s h) (maps_names known acts its_number log_id s.log groups h.more)

  pub ticks_on : (s : Serving) → Flies s → Tells (serving_write s log_input.Tick)
  ticks_on s h = writes_on s log_input.Tick (plainly s h) (tick_names known acts its_number log_id s.log)

  pub stored_on : (s : Serving) (m : Stored) → Flies s → Tells (on_stored s m)
  stored_on s m h =
      writes_on s (log_input.Acked m.name m.index m.generation) (plainly s h)
      (acked_names known acts its_number log_id s.log m.name m.index m.generation h.more)

  -- ---- one slot after the other

  no_more-on : (s : Serving) (job : Checkpointing) → Plain s → Goes (no_more s job)
  no_more-on s job h = record {
    state = record { slots = h.slots; work = h.work; own = h.own; its = h.its; done = tt; more = tt };
    outs = answers_say known s.lasting.items.unanswered (answer.Count job.count);
  }

  writes_slot-on : (s : Serving) (o : Option WriterIn) → Plain s → IfSome o (BeginNames known) → Goes (writes_slot s o)
  writes_slot-on s None h fact = record { state = h; outs = tt }
  writes_slot-on s (Some (writer_in.Begin slot epoch pages parts horizon)) h fact = writer_on s (writer_in.Begin slot epoch pages parts horizon) h fact
  writes_slot-on s (Some (writer_in.Settled end)) h fact = absurd fact
  writes_slot-on s (Some (writer_in.Ack epoch number)) h fact = absurd fact

  begins_on : (s : Serving) (slot : ℕ) → Plain s → Goes (begin_slot s slot)
  unfolding begin_slot
  begins_on s slot h =
      writes_slot-on (record s { slots = slot_table_clean s.slots slot }) (begin_at s.slots slot)
      (record { slots = table_cleaned known s.slots slot h.slots; work = h.work; own = h.own; its = h.its; done = h.done; more = tt })
      (begin_names known s.slots slot h.slots)

  next_on : (s : Serving) → Plain s → Goes (next_slot s)
  unfolding next_slot
  next_on s h = by s.checkpoint h.done
    where
      by_slot : (job : Checkpointing) → JobNames known job → (o : Option ℕ) → Goes (next_from s job o)
      by_slot job fact None = no_more-on s job h
      by_slot job fact (Some slot) =
          begins_on (record s { checkpoint = Some (record job { next = slot_after slot }) }) slot
          (record { slots = h.slots; work = h.work; own = h.own; its = h.its; done = fact; more = tt })

      by : (checkpoint : Option Checkpointing) → IfSome checkpoint (JobNames known) → Goes (next_for s checkpoint)
      by None fact = record { state = h; outs = tt }
      by (Some job) fact = by_slot job fact (next_active s.slots job.next)

  -- ---- the events

  pub checkpoint_on : (s : Serving) (number : ℕ) → Plain s → Goes (on_checkpoint s number)
  unfolding on_checkpoint
  checkpoint_on s number h =
      by_test Goes (is_some s.lasting.items.unanswered) (gives s (Answers number answer.Busy ∷ [])) (next_slot (waits s number))
      (λ _. record { state = h; outs = (tt, tt) })
      (λ _. next_on (waits s number) (record { slots = h.slots; work = h.work; own = h.own; its = h.its; done = tt; more = tt }))

  one_counted : (job : Option Checkpointing) (o : Out) → IfSome job (JobNames known) → IfSome (checkpointing_count job o) (JobNames known)
  unfolding checkpointing_count
  one_counted None out.Kept fact = tt
  one_counted (Some job) out.Kept fact = tt
  one_counted None (out.Stale epoch) fact = tt
  one_counted (Some job) (out.Stale epoch) fact = tt
  one_counted job (out.Parts items) fact = fact
  one_counted job (out.Done slot epoch parts horizon) fact = fact

  all_counted : (job : Option Checkpointing) (outs : List Out) → IfSome job (JobNames known) → IfSome (fold checkpointing_count job outs) (JobNames known)
  all_counted job [] fact = fact
  all_counted job (o ∷ outs) fact = all_counted (checkpointing_count job o) outs (one_counted job o fact)

  answered_on : (s : Serving) (r : Stepped WriterState Out) → Plain s → WriterStands law log_id r.state → Goes (answered_by s r)
  answered_on s r h left =
      by_test Goes (length r.outs == 0) (still (record s { writer = r.state }))
      (next_slot (record s { writer = r.state; checkpoint = fold checkpointing_count s.checkpoint r.outs }))
      (λ _. record { state = record { slots = h.slots; work = left.0; own = left.1; its = h.its; done = h.done; more = tt }; outs = tt })
      (λ _. next_on (record s { writer = r.state; checkpoint = fold checkpointing_count s.checkpoint r.outs })
      (record { slots = h.slots; work = left.0; own = left.1; its = h.its; done = all_counted s.checkpoint r.outs h.done; more = tt }))

  pub acks_on : (s : Serving) (ack : CkptAck) → Plain s → Goes (on_ckpt_ack s ack)
  unfolding on_ckpt_ack
  acks_on s ack h =
      by_test Goes (awaits s.checkpoint ack.ask) (answered_by s (writer.transition s.writer (writer_in.Ack ack.epoch s.dones))) (still s)
      (λ _. answered_on s (writer.transition s.writer (writer_in.Ack ack.epoch s.dones)) h
      (let d = writer_goes law log_id s.writer (writer_in.Ack ack.epoch s.dones) (h.work, h.own) tt in d.state))
      (λ _. record { state = h; outs = tt })

  pub tells_on : (s : Serving) → Plain s → Goes (serving_tell_again s)
  unfolding serving_tell_again
  tells_on s h = record { state = h; outs = by s.checkpoint h.done }
    where
      by_done : (done : Option CkptDone) → IfSome done (DoneNames known) → AllSay known (send_done done)
      by_done None fact = tt
      by_done (Some done) fact = (fact, tt)

      by : (checkpoint : Option Checkpointing) → IfSome checkpoint (JobNames known) → AllSay known (checkpointing_tell_again checkpoint)
      by None fact = tt
      by (Some job) fact = by_done job.done fact
