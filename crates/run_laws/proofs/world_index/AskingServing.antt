-- What the log of a cleaner that serves, and what it hears of the segment in hand, make of what it awaits of that.
use Rattle.std.proofs.Common.{◌≡◌, ℕ, nat_lt, true, List, [], ◌∷◌, Option, None, Some, refl, sym, subst}
use Rattle.cleaner_serving.specs.declared.emptying.Emptying.{Emptying}
use Rattle.cleaner_serving.specs.EmptyingEvents.{fed, emptying_promise, emptying_settle, emptying_write, write_one}
use Rattle.cleaner_serving.specs.Jobs.{emptying_clean, confirmed, confirmed_in, emptying_hear, told_in}
use Rattle.cleaner_job.specs.declared.hand.Hand.{Hand}
use Rattle.cleaner_job.specs.declared.job.Job.{Job}
use Rattle.cleaner_job.specs.Hands.{confirmed_by, hand_confirmed, hand_hear, hears_by}
use Rattle.cleaner_job.specs.Jobs.{note_greeted, hand_moved, note_moved, hand_confirmed_in, hand_hears_in, job_confirmed, job_hear, note_read, read_over}
use Rattle.cleaner_job.specs.Starting.{cleaner_log}
use Rattle.client_log.specs.declared.input.In.{In as LogIn}
use Rattle.client_log.specs.declared.output.Out.{Out as LogOut}
use Rattle.client_log.specs.declared.output.Out.TheVariants as log_out
use Rattle.client_log.specs.Transition as log
use Rattle.delta_feed.specs.declared.output.Out as feed_outs
use Rattle.delta_feed.specs.declared.output.Out.TheVariants.{Range}
use Rattle.delta_feed.specs.FeedState.{FeedState}
use Rattle.delta_feed.specs.Transition.{new_epoch, feed_tick}
use Rattle.group_map.specs.GroupMapState.{GroupMapState}
use Rattle.log_owner.specs.declared.promised.Managers.{Managers}
use Rattle.log_owner.specs.Promised.{epoch_of}
use Rattle.log_owner.specs.Sending.{name_of, push_all, range, store}
use Rattle.node_base.specs.declared.effects.Effect.TheVariants.{Does}
use Rattle.node_base.specs.declared.questions.Questions.{Questions}
use Rattle.segment_reading.specs.Reading.{ReadingState}
use Rattle.stripe_cleaner.specs.declared.input.In.TheVariants as input
use Rattle.stripe_cleaner.specs.declared.phase.Phase.{Phase as CleaningPhase}
use Rattle.stripe_code.specs.declared.round.Told.{Told}
use Rattle.version_model.specs.declared.act.Act.TheVariants.{Filed}
use Rattle.run_laws.specs.world_index.Asking.{AsksSo, Book, HandIn, HandSeen, JobAsks}
use Rattle.run_laws.proofs.world_index.AskingCleans.{emptying_clean_so, rehand}
use Rattle.run_laws.proofs.world_index.AskingSays.{AllSilent, At, IsSilent, Kept, all_steps, quiet, went_behind}
use Rattle.xfs_base.proofs.Booleans.{by_test}
use Rattle.xfs_base.specs.declared.block.BlockId.{BlockId}
use Rattle.xfs_base.specs.declared.entry.Entry.{Entry}
use Rattle.xfs_base.specs.declared.segment.End.{End}
use Rattle.xfs_base.proofs.Alls.{all_map}

-- ---- what it tells of its log

range_silent : (managers : Managers) (o : feed_outs.Out) → IsSilent (range managers o)
range_silent managers (Range slot first upto rows) = tt

pub pushes_silent : (managers : Managers) (its : FeedState) → AllSilent (push_all managers its)
pushes_silent managers its = all_map IsSilent (range managers) (range_silent managers) (feed_tick its)

-- ---- the segment in hand stays, whatever else becomes of it

module _ (book : Book) (q : Questions) where
  moved_so : (o : Option Job) → JobAsks book q o → JobAsks book q (note_moved o)
  moved_so None h = tt
  moved_so (Some job) h = by job.hand h
    where
      by : (o : Option Hand) → HandIn book q job.cleaning.phase o → HandIn book q job.cleaning.phase (hand_moved o)
      by None k = tt
      by (Some hand) k = rehand book q job.cleaning.phase hand (record hand { moved = true }) refl refl k

  pub read_so : (o : Option Job) → JobAsks book q o → JobAsks book q (note_read o)
  read_so None h = tt
  read_so (Some job) h = by job.hand h
    where
      by : (o : Option Hand) → HandIn book q job.cleaning.phase o → HandIn book q job.cleaning.phase (read_over o)
      by None k = tt
      by (Some hand) k = rehand book q job.cleaning.phase hand (record hand { reading = None }) refl refl k

  pub note_greeted_so : (o : Option Job) → JobAsks book q o → JobAsks book q (note_greeted o)
  note_greeted_so None h = tt
  note_greeted_so (Some job) h = h

  hand_hear_so : (phase : CleaningPhase) (hand : Hand) (groups : GroupMapState) (ask server : ℕ) (t : Told) → HandSeen book q phase hand
      → HandSeen book q phase (hand_hear hand groups ask server t).state
  unfolding hand_hear
  hand_hear_so phase hand groups ask server t h = by hand.reading
    where
      by : (o : Option ReadingState) → HandSeen book q phase (hears_by hand o groups ask server t).state
      by None = h
      by (Some r) = rehand book q phase hand (hears_by hand (Some r) groups ask server t).state refl refl h

  hand_confirmed_so : (phase : CleaningPhase) (hand : Hand) (ask : ℕ) → HandSeen book q phase hand → HandSeen book q phase (hand_confirmed hand ask).state
  unfolding hand_confirmed
  hand_confirmed_so phase hand ask h = by hand.reading
    where
      by : (o : Option ReadingState) → HandSeen book q phase (confirmed_by hand o ask).state
      by None = h
      by (Some r) = rehand book q phase hand (confirmed_by hand (Some r) ask).state refl refl h

  job_hears_so : (job : Job) (o : Option Hand) → job.hand ≡ o → (groups : GroupMapState) (ask server : ℕ) (t : Told) → HandIn book q job.cleaning.phase o
      → JobAsks book q (Some (hand_hears_in job o groups ask server t).state)
  job_hears_so job None fact groups ask server t h = subst (HandIn book q job.cleaning.phase) (sym fact) tt
  job_hears_so job (Some hand) fact groups ask server t h = hand_hear_so job.cleaning.phase hand groups ask server t h

  job_confirmed_so : (job : Job) (o : Option Hand) → job.hand ≡ o → (ask : ℕ) → HandIn book q job.cleaning.phase o
      → JobAsks book q (Some (hand_confirmed_in job o ask).state)
  job_confirmed_so job None fact ask h = subst (HandIn book q job.cleaning.phase) (sym fact) tt
  job_confirmed_so job (Some hand) fact ask h = hand_confirmed_so job.cleaning.phase hand ask h

-- ---- its log

emptying_settle_so : (book : Book) (e : Emptying) (end : End) (rows : List (BlockId × Entry)) → At book e → Kept book (emptying_settle e end rows)
unfolding emptying_settle
emptying_settle_so book e end rows h =
    let f = fed e end rows in
    went_behind book (Does (Filed (name_of cleaner_log end)) ∷ push_all f.promised.managers f.feed) (emptying_clean f input.Moved)
    (tt, pushes_silent f.promised.managers f.feed)
    (emptying_clean_so book f input.Moved (record { drawn = h.drawn; job = moved_so book e.lasting.questions e.job h.job }))

write_so : (book : Book) (e : Emptying) (o : LogOut) → At book e → Kept book (write_one e o)
unfolding write_one
write_so book e (log_out.Send fragment member) h = quiet book e (store fragment member ∷ []) (tt, tt) h
write_so book e (log_out.Settled end rows) h = emptying_settle_so book e end rows h

pub emptying_write_so : (book : Book) (e : Emptying) (i : LogIn) → At book e → Kept book (emptying_write e i)
unfolding emptying_write
emptying_write_so book e i h = let r = log.transition e.log i in all_steps write_one write_so book (record e { log = r.state }) r.outs h

-- ---- a promise, and its reading

pub promised_at : (book : Book) (e : Emptying) (slot epoch manager : ℕ) → At book e → At book (emptying_promise e slot epoch manager)
unfolding emptying_promise
promised_at book e slot epoch manager h =
    by_test (At book) (nat_lt (epoch_of e.promised slot) epoch) (record e { feed = new_epoch e.feed slot }) e (λ _. h) (λ _. h)

confirmed_at : (book : Book) (e : Emptying) (o : Option Job) (ask : ℕ) → e.job ≡ o → At book e → At book (confirmed_in e o ask).state
unfolding job_confirmed
confirmed_at book e None ask same h = h
confirmed_at book e (Some job) ask same h = record {
  drawn = h.drawn;
  job = job_confirmed_so book e.lasting.questions job job.hand refl ask (subst (AsksSo book e.lasting.questions) same h).job;
}

pub confirms_at : (book : Book) (e : Emptying) (ask : ℕ) → At book e → At book (confirmed e ask).state
unfolding confirmed
confirms_at book e ask h = confirmed_at book e e.job ask refl h

told_at : (book : Book) (e : Emptying) (o : Option Job) (groups : Option GroupMapState) (ask server : ℕ) (t : Told) → e.job ≡ o → At book e
    → At book (told_in e o groups ask server t).state
unfolding job_hear
told_at book e None groups ask server t same h = h
told_at book e (Some job) None ask server t same h = h
told_at book e (Some job) (Some groups) ask server t same h = record {
  drawn = h.drawn;
  job = job_hears_so book e.lasting.questions job job.hand refl groups ask server t (subst (AsksSo book e.lasting.questions) same h).job;
}

pub hears_at : (book : Book) (e : Emptying) (ask server : ℕ) (t : Told) → At book e → At book (emptying_hear e ask server t).state
unfolding emptying_hear
hears_at book e ask server t h = told_at book e e.job e.maps.groups ask server t refl h
