-- What a manager does as it writes checkpoints is seen in the small world of its log.
use Rattle.std.proofs.Common.{◌≡◌, ℕ, zero, suc, ◌==◌, List, [], ◌∷◌, length, is_some, take, drop, Option, Some, None, true, refl, sym, ap, subst, ◌∙◌, inl, inr}
use Rattle.std.specs.Prelude.{IfSome, fold}
use Rattle.std.specs.List.{AllByRecursion, flat_map}
use Rattle.checkpoint.specs.declared.input.In.{In as WriterIn}
use Rattle.checkpoint.specs.declared.input.In.TheVariants as writer_in
use Rattle.checkpoint.specs.declared.output.Out.{Out}
use Rattle.checkpoint.specs.declared.output.Out.TheVariants as out
use Rattle.checkpoint.specs.Transition as writer
use Rattle.checkpoint.specs.WriterState.{Rows, WriterState, items_of}
use Rattle.client_log.specs.declared.input.In.{In as LogIn}
use Rattle.client_log.specs.declared.input.In.TheVariants as log_in
use Rattle.client_log.specs.declared.output.Out.{Out as LogOut}
use Rattle.client_log.specs.declared.output.Out.TheVariants as log_out
use Rattle.client_log.specs.Transition as log
use Rattle.group_map.specs.GroupMapState.{GroupMapState}
use Rattle.log_owner.specs.Sending.{name_of}
use Rattle.manager_slots.specs.Lasting.{log_of}
use Rattle.manager_slots.specs.Numbers.{slot_after}
use Rattle.manager_slots.specs.SlotTable.{next_active, begin_at, slot_table_clean}
use Rattle.manager_serving.specs.Checkpoints.{Done, gives, checkpointing_store, give_parts, register, asked, writer_says, writer_says_each, writer_takes, filed, on_settled, log_says, log_says_each, serving_write, writes_slot, begin_slot, next_from, next_for, next_slot, waits, on_checkpoint, awaits, checkpointing_count, answered_by, on_ckpt_ack, send_done, checkpointing_tell_again, serving_tell_again}
use Rattle.manager_serving.specs.declared.checkpointing.Checkpointing.{Checkpointing}
use Rattle.manager_serving.specs.declared.serving.Serving.{Serving}
use Rattle.segment_format.specs.declared.segment.Item.{Item}
use Rattle.version_model.specs.declared.answer.Answer.TheVariants as answer
use Rattle.wire_msg.specs.declared.registry.CkptAck.{CkptAck}
use Rattle.wire_msg.specs.declared.registry.CkptDone.{CkptDone}
use Rattle.wire_msg.specs.declared.storage.Stored.{Stored}
use Rattle.xfs_base.proofs.Booleans.{by_test}
use Rattle.xfs_base.specs.declared.segment.End.{End}
use Rattle.xfs_base.specs.declared.segment.LogId.{LogId}
use Rattle.xfs_base.specs.declared.segment.SegName.{SegName}
use Rattle.xfs_base.specs.Steps.{Stepped, still, steps}
use Rattle.log_protocol.specs.Tables.{In}
use Rattle.log_tie.specs.Seen.{log_filed}
use Rattle.log_tie.specs.Setting.{Setting}
use Rattle.log_tie.specs.Shelves.{is_of_log}
use Rattle.log_law.specs.Net.{Packet, log_packets}
use Rattle.log_law.specs.Net.Packet.{StoredSent, MapSent}
use Rattle.node_moves.proofs.manager_walk.Writers.{WriterLaw, GivenSo, OutSo, writer_goes}
use Rattle.node_logs.proofs.node_log_tie.OwnLogs.{SendsOwn}
use Rattle.node_logs.specs.client_log_tie.Owner.{Scene}
use Rattle.node_logs.specs.client_log_tie.Texts.{MapFits}
use Rattle.node_logs.specs.manager_log_tie.Fitting.{PartFits, PagesFit, WriterFits}
use Rattle.node_logs.specs.manager_log_tie.Owner.{Stands}
use Rattle.node_logs.proofs.manager_log_tie.Frames.{AllDone, Goes, all_aside, at_once, stays, goes_on, goes_after, goes_from, goes_each}
use Rattle.node_logs.proofs.manager_log_tie.Logs as logs
use Rattle.node_logs.proofs.manager_log_tie.SlotPhases.{answers_aside}
use Rattle.node_logs.proofs.manager_log_tie.Tables.{WriterInFits, begin_fits, table_cleaned, table_named}

-- ---- the writer of checkpoints

first_fit : (count : ℕ) (pages : List Rows) → PagesFit pages → PagesFit (take count pages)
first_fit zero pages all = tt
first_fit (suc count) [] all = tt
first_fit (suc count) (p ∷ pages) all = (all.0, first_fit count pages all.1)

rest_fit : (count : ℕ) (pages : List Rows) → PagesFit pages → PagesFit (drop count pages)
rest_fit zero pages all = all
rest_fit (suc count) [] all = tt
rest_fit (suc count) (p ∷ pages) all = rest_fit count pages all.1

items_fit : (slot : ℕ) (pages : List Rows) → PagesFit pages → AllByRecursion PartFits (items_of slot pages)
items_fit slot [] all = tt
items_fit slot (p ∷ pages) all = (all.0, items_fit slot pages all.1)

-- the parts that it gives out fit, since the pages do that it is given
abbrev law : WriterLaw
law = record {
  Work = λ it. PagesFit it.left;
  Items = λ items. AllByRecursion PartFits items;
  Done = λ slot epoch parts horizon. Unit {0};
  Settles = λ l end. Unit {0};
  gives = λ it h. items_fit it.slot (take 24 it.left) (first_fit 24 it.left h);
  left = λ it h. rest_fit 24 it.left h;
  done = λ it h. tt;
  parted = λ l it end fact h. h;
}

-- what is made of the writer, and what it gives out
record WriterGoes (r : Stepped WriterState Out) : Type 0 where
  state : WriterFits r.state
  outs : AllByRecursion (OutSo law) r.outs

writer_fits : (s : WriterState) (given : WriterIn) → WriterFits s → WriterInFits given → WriterGoes (writer.transition s given)
writer_fits s given before fits = let d = writer_goes law s.log s given (before, refl) (by given fits) in record { state = d.state.0; outs = d.outs }
  where
    by : (given : WriterIn) → WriterInFits given → GivenSo law s.log given
    by (writer_in.Begin slot epoch pages parts horizon) fits = fits
    by (writer_in.Settled end) fits = tt
    by (writer_in.Ack epoch number) fits = tt

module _ (g : Setting) (j : ℕ) (fact : g.log ≡ log_of j) where
  -- ---- the log

  -- what the log sends was sent
  log_sends : (w : Scene) (outs : List LogOut) → ((p : Packet) → In p (log_packets outs) → In p w.net.sent) → AllByRecursion (SendsOwn g.log) outs
      → AllDone g j w (flat_map checkpointing_store outs)
  unfolding checkpointing_store
  log_sends w [] sent mine = tt
  log_sends w (log_out.Send f m ∷ outs) sent mine = ((λ own. sent _ (inl refl), mine.0), log_sends w outs (λ p among. sent p (inr among)) mine.1)
  log_sends w (log_out.Settled end rows ∷ outs) sent mine = log_sends w outs sent mine.1

  parts_so : (w : Scene) (s : Serving) (items : List Item) → Stands g j w s → AllByRecursion PartFits items → Goes g j w (give_parts s items)
  unfolding give_parts
  parts_so w s items h fits =
      let t : logs.Took g j w s (log.transition s.log (log_in.Parts items)) = logs.takes g j w s (log_in.Parts items) h tt fits in
      record { next = t.next; grown = t.grown; stands = t.stands; does = log_sends t.next (log.transition s.log (log_in.Parts items)).outs t.sent t.mine }

  -- ---- what the writer says

  register_so : (w : Scene) (s : Serving) (done : CkptDone) → Stands g j w s → Goes g j w (register s done)
  unfolding register
  register_so w s done h =
      at_once g j w _ _ (record {
        lasts = h.lasts;
        inc = h.inc;
        log = h.log;
        written = h.written;
        writer = h.writer;
        index = table_named s.slots done.slot done.epoch done.parts h.index;
      }) (tt, tt)

  asked_so : (w : Scene) (s : Serving) → Stands g j w s → Stands g j w (asked s)
  asked_so w s h = record {
    lasts = record { number = h.lasts.number; small = h.lasts.small; asks = h.lasts.asks };
    inc = h.inc;
    log = h.log;
    written = h.written;
    writer = h.writer;
    index = h.index;
  }

  writer_says_so : (w : Scene) (s : Serving) (o : Out) → Stands g j w s → OutSo law o → Goes g j w (writer_says s o)
  unfolding writer_says
  writer_says_so w s (out.Parts items) h fits = parts_so w s items h fits
  writer_says_so w s (out.Done slot epoch parts horizon) h fits = register_so w (asked s) _ (asked_so w s h)
  writer_says_so w s out.Kept h fits = stays g j w s h
  writer_says_so w s (out.Stale epoch) h fits = stays g j w s h

  with_writer : (w : Scene) (s : Serving) (t : WriterState) → Stands g j w s → WriterFits t → Stands g j w (record s { writer = t })
  with_writer w s t h fits = record { lasts = h.lasts; inc = h.inc; log = h.log; written = h.written; writer = fits; index = h.index }

  writer_so : (w : Scene) (s : Serving) (given : WriterIn) → Stands g j w s → WriterInFits given → Goes g j w (writer_takes s given)
  unfolding writer_takes writer_says_each
  writer_so w s given h fits =
      let d = writer_fits s.writer given h.writer fits in
      goes_each g j (OutSo law) writer_says writer_says_so w (record s { writer = (writer.transition s.writer given).state }) (writer.transition s.writer given).outs
      (with_writer w s (writer.transition s.writer given).state h d.state) d.outs

  -- ---- the log took an input

  -- the name by which a segment is filed
  filed_name : (number : ℕ) (end : End) → number ≡ j → name_of g.log end ≡ name_of (log_of number) end
  filed_name number end e = ap (λ (l : LogId). name_of l end) (fact ∙ ap log_of (sym e))

  settled_so : (w : Scene) (s : Serving) (end : End) → Stands g j w s → In (name_of g.log end) w.net.filed → Goes g j w (on_settled s end)
  unfolding on_settled
  settled_so w s end h told =
      goes_after g j w (filed s end) (writer_takes s (writer_in.Settled end))
      (subst (λ (name : SegName). In name w.net.filed) (filed_name s.lasting.number end h.lasts.number) told, tt) (writer_so w s (writer_in.Settled end) h tt)

  -- what it said is done, where that is seen
  all_written : (w : Scene) (s : Serving) (outs : List LogOut) → Stands g j w s → ((p : Packet) → In p (log_packets outs) → In p w.net.sent)
      → ((name : SegName) → In name (log_filed g.log outs) → In name w.net.filed) → AllByRecursion (SendsOwn g.log) outs
      → Goes g j w (steps log_says s outs)
  unfolding log_says
  all_written w s [] h sent told mine = stays g j w s h
  all_written w s (log_out.Send f m ∷ outs) h sent told mine =
      goes_after g j w (log_says s (log_out.Send f m)).outs (steps log_says s outs) ((λ own. sent _ (inl refl), mine.0), tt)
      (all_written w s outs h (λ p among. sent p (inr among)) told mine.1)
  all_written w s (log_out.Settled end rows ∷ outs) h sent told mine =
      let p : Goes g j w (on_settled s end) = settled_so w s end h (told _ (inl refl)) in
      goes_on g j w (on_settled s end) (steps log_says (on_settled s end).state outs) p
      (all_written p.next (on_settled s end).state outs p.stands (λ q among. p.grown.sent q (sent q among))
      (λ name among. p.grown.filed name (told name (inr among))) mine.1)

  writes_from : (w : Scene) (s : Serving) (i : LogIn) → logs.Took g j w s (log.transition s.log i) → Goes g j w (serving_write s i)
  unfolding serving_write log_says_each
  writes_from w s i t =
      goes_from g j w t.next (serving_write s i) t.grown
      (all_written t.next (record s { log = (log.transition s.log i).state }) (log.transition s.log i).outs t.stands t.sent t.filed t.mine)

  pub maps_so : (w : Scene) (s : Serving) (m : GroupMapState) → Stands g j w s → In (MapSent m) w.net.sent → MapFits m → Goes g j w (serving_write s (log_in.Maps m))
  maps_so w s m h came fits = writes_from w s (log_in.Maps m) (logs.takes g j w s (log_in.Maps m) h came fits)

  pub ticks_so : (w : Scene) (s : Serving) → Stands g j w s → Goes g j w (serving_write s log_in.Tick)
  ticks_so w s h = writes_from w s log_in.Tick (logs.takes g j w s log_in.Tick h tt tt)

  pub stored_so : (w : Scene) (s : Serving) (m : Stored) → Stands g j w s → (is_of_log g m.name ≡ true → In (StoredSent m.name m.index m.generation) w.net.sent)
      → Goes g j w (serving_write s (log_in.Acked m.name m.index m.generation))
  stored_so w s m h seen = writes_from w s (log_in.Acked m.name m.index m.generation) (logs.takes_stored g j w s m.name m.index m.generation h seen)

  -- ---- one slot after the other

  slot_so : (w : Scene) (s : Serving) (given : Option WriterIn) → Stands g j w s → IfSome given WriterInFits → Goes g j w (writes_slot s given)
  slot_so w s None h fits = stays g j w s h
  slot_so w s (Some given) h fits = writer_so w s given h fits

  begins_so : (w : Scene) (s : Serving) (slot : ℕ) → Stands g j w s → Goes g j w (begin_slot s slot)
  unfolding begin_slot
  begins_so w s slot h =
      slot_so w (record s { slots = slot_table_clean s.slots slot }) (begin_at s.slots slot)
      (record { lasts = h.lasts; inc = h.inc; log = h.log; written = h.written; writer = h.writer; index = table_cleaned s.slots slot h.index })
      (begin_fits s.slots slot h.index)

  with_job : (w : Scene) (s : Serving) (job : Option Checkpointing) → Stands g j w s → Stands g j w (record s { checkpoint = job })
  with_job w s job h = record { lasts = h.lasts; inc = h.inc; log = h.log; written = h.written; writer = h.writer; index = h.index }

  next_so : (w : Scene) (s : Serving) → Stands g j w s → Goes g j w (next_slot s)
  unfolding next_slot
  next_so w s h = by s.checkpoint
    where
      by_slot : (job : Checkpointing) (o : Option ℕ) → Goes g j w (next_from s job o)
      by_slot job None =
          at_once g j w _ _ (record {
            lasts = record { number = h.lasts.number; small = h.lasts.small; asks = h.lasts.asks };
            inc = h.inc;
            log = h.log;
            written = h.written;
            writer = h.writer;
            index = h.index;
          }) (all_aside g j w _ (answers_aside s.lasting.items.unanswered (answer.Count job.count)))
      by_slot job (Some slot) = begins_so w (record s { checkpoint = Some (record job { next = slot_after slot }) }) slot (with_job w s _ h)

      by : (job : Option Checkpointing) → Goes g j w (next_for s job)
      by None = stays g j w s h
      by (Some job) = by_slot job (next_active s.slots job.next)

  -- ---- its events

  pub checkpoint_so : (w : Scene) (s : Serving) (number : ℕ) → Stands g j w s → Goes g j w (on_checkpoint s number)
  unfolding on_checkpoint
  checkpoint_so w s number h =
      by_test (λ (d : Done). Goes g j w d) (is_some s.lasting.items.unanswered) (gives s _) (next_slot (waits s number)) (λ t. at_once g j w s _ h (tt, tt))
      (λ t. next_so w (waits s number) (record {
        lasts = record { number = h.lasts.number; small = h.lasts.small; asks = h.lasts.asks };
        inc = h.inc;
        log = h.log;
        written = h.written;
        writer = h.writer;
        index = h.index;
      }))

  pub acked_so : (w : Scene) (s : Serving) (ack : CkptAck) → Stands g j w s → Goes g j w (on_ckpt_ack s ack)
  unfolding on_ckpt_ack
  acked_so w s ack h =
      let r : Stepped WriterState Out = writer.transition s.writer (writer_in.Ack ack.epoch s.dones) in
      let d = writer_fits s.writer (writer_in.Ack ack.epoch s.dones) h.writer tt in
      by_test (λ (d : Done). Goes g j w d) (awaits s.checkpoint ack.ask) (answered_by s r) (still s)
      (λ t. by_test (λ (d : Done). Goes g j w d) (length r.outs == 0) (still (record s { writer = r.state }))
      (next_slot (record s { writer = r.state; checkpoint = fold checkpointing_count s.checkpoint r.outs }))
      (λ u. stays g j w (record s { writer = r.state }) (with_writer w s r.state h d.state))
      (λ u. next_so w (record s { writer = r.state; checkpoint = fold checkpointing_count s.checkpoint r.outs })
      (with_job w (record s { writer = r.state }) (fold checkpointing_count s.checkpoint r.outs) (with_writer w s r.state h d.state))))
      (λ t. stays g j w s h)

  pub tells_so : (w : Scene) (s : Serving) → Stands g j w s → Goes g j w (serving_tell_again s)
  unfolding serving_tell_again
  tells_so w s h = at_once g j w s _ h (by s.checkpoint)
    where
      by_done : (done : Option CkptDone) → AllDone g j w (send_done done)
      by_done None = tt
      by_done (Some done) = (tt, tt)

      by : (job : Option Checkpointing) → AllDone g j w (checkpointing_tell_again job)
      by None = tt
      by (Some job) = by_done job.done
