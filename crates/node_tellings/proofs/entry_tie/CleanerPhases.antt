-- What each event makes of the cleaner: it holds what is told, and tells nothing else; where the segment that was in flight is settled it is acted to be filed,
-- so the feed keeps what it says.
use Rattle.std.proofs.Common.{◌≡◌, ⊎_elim, ℕ, List, [], ◌∷◌, Option, Some, None, refl, sym, subst}
use Rattle.std.specs.List.{AllByRecursion}
use Rattle.std.specs.Prelude.{Contains, IfSome}
use Rattle.cleaner_job.specs.declared.job.Job.{Job}
use Rattle.cleaner_job.specs.declared.lasting.Lasting.{Lasting}
use Rattle.cleaner_job.specs.Jobs.{note_moved}
use Rattle.cleaner_job.specs.Starting.{cleaner_log}
use Rattle.cleaner_node.specs.CleanerEvents.{Went_to, cleaner_step, lasting_of, restart, serves_on, takes}
use Rattle.cleaner_node.specs.declared.cleaner.Cleaner.{Cleaner}
use Rattle.cleaner_node.specs.declared.cleaner.Phase.{Phase}
use Rattle.cleaner_node.specs.declared.cleaner.Phase.TheVariants.{Down, Opening, Serving}
use Rattle.cleaner_serving.specs.declared.emptying.Emptying.{Emptying}
use Rattle.cleaner_serving.specs.EmptyingEvents.{fed, emptying_settle, emptying_write, write_one}
use Rattle.cleaner_serving.specs.Jobs.{Done, emptying_clean, emptying_put}
use Rattle.client_log.specs.declared.input.In.{In as LogIn}
use Rattle.client_log.specs.declared.input.In.TheVariants as log_in
use Rattle.client_log.specs.declared.output.Out.{Out as LogOut}
use Rattle.client_log.specs.declared.output.Out.TheVariants as log_out
use Rattle.client_log.specs.LogState.{LogState}
use Rattle.client_log.specs.Transition as log
use Rattle.client_log.specs.Transition.{end_of}
use Rattle.delta_feed.specs.FeedState.{FeedState}
use Rattle.log_flight.specs.declared.dirty.Change.{Change}
use Rattle.log_flight.specs.Flights.{FlightState}
use Rattle.log_owner.specs.declared.opened.Progress.{Progress}
use Rattle.log_owner.specs.declared.opened.Progress.TheVariants as progress
use Rattle.log_owner.specs.declared.opening.Opening as openings
use Rattle.log_owner.specs.declared.opening.Stage.{Stage}
use Rattle.log_owner.specs.declared.opening.Stage.TheVariants as stage
use Rattle.log_owner.specs.Opening.{Went, stored}
use Rattle.log_owner.specs.Sending.{name_of, push_all, store}
use Rattle.node_base.specs.declared.effects.Effect.{Effect}
use Rattle.node_base.specs.declared.effects.Effect.TheVariants.{Does}
use Rattle.node_base.specs.declared.items.Items.{Items}
use Rattle.segment_format.specs.declared.segment.Item.{Item}
use Rattle.segment_format.specs.declared.segment.Item.TheVariants as item
use Rattle.segment_format.specs.Rows.{rows_of}
use Rattle.stripe_cleaner.specs.declared.checks.Fate.{Fate}
use Rattle.stripe_cleaner.specs.declared.checks.Fate.TheVariants.{Live}
use Rattle.stripe_cleaner.specs.declared.input.In.{In}
use Rattle.stripe_cleaner.specs.declared.input.In.TheVariants as input
use Rattle.stripe_cleaner.specs.declared.output.Out.{Out}
use Rattle.stripe_cleaner.specs.declared.phase.Phase as job_phases
use Rattle.stripe_cleaner.specs.declared.phase.Phase.TheVariants.{Checking}
use Rattle.version_model.specs.declared.act.Act.{Act}
use Rattle.version_model.specs.declared.act.Act.TheVariants.{Filed}
use Rattle.wire_msg.specs.declared.packet.Do.{Do}
use Rattle.xfs_base.proofs.Alls.{all_flat_map, all_weaker}
use Rattle.xfs_base.specs.declared.block.BlockId.{BlockId}
use Rattle.xfs_base.specs.declared.entry.Entry.{Entry}
use Rattle.xfs_base.specs.declared.node.NodeId.TheVariants.{Cleaner as TheCleaner}
use Rattle.xfs_base.specs.declared.segment.End.{End}
use Rattle.xfs_base.specs.Steps.{steps}
use Rattle.node_moves.proofs.cleaner_moves.Keeping.{Changes, Follows, Gives, JobKeeps, Keeps, Put, cleaned, event_goes}
use Rattle.node_moves.proofs.cleaner_moves.Keeping.Changes.{AckTaken, FeedRenewed, JobBegun, JobEnded}
use Rattle.node_moves.proofs.cleaner_moves.Keeping.Gives.{EndReported}
use Rattle.node_moves.proofs.cleaner_moves.Keeping.Put.{AllPut, BlockPut}
use Rattle.node_moves.specs.cleaner_moves.Moves.{Given, OpenedBy, Written, came_to, noted}
use Rattle.node_moves.specs.cleaner_moves.Moves.Given.{LiveCame, MovesSettled}
use Rattle.node_moves.specs.cleaner_moves.Moves.OpenedBy.{PacketCame, TimeWent}
use Rattle.node_moves.specs.cleaner_moves.Moves.Written.{AckCame, GroupsCame, LogTicks}
use Rattle.node_tellings.specs.entry_tie.CleanerTells.{MovesOn, MovedTold, WaitTold, ItemTold, FlightMoves, LogMoves, StageHolds, FateTold, CheckTold, CheckingTold, JobTold, PhaseHolds, CleanerHolds, PhaseOwed, CleanerOwed, CleanerStartsTold, CleanerHoldsRise, CleanerTellsTold}
use Rattle.node_tellings.specs.entry_tie.ClientTells.{DeltasTold, FeedTold, FlightOwed}
use Rattle.node_tellings.specs.entry_tie.Told.{BodyTold, DoTold, RowsTold, TellsTold, Told, told_by_rows}
use Rattle.node_tellings.proofs.entry_tie.Feeds.{acknowledged_told, push_all_say, renewed_told, settled_told}
use Rattle.node_tellings.proofs.entry_tie.Frames as frames
use Rattle.node_tellings.proofs.entry_tie.Frames.{contains_all}
use Rattle.node_tellings.proofs.entry_tie.LogMoves.{log_moves, moves_heard}
use Rattle.node_tellings.proofs.entry_tie.Openings as events
use Rattle.node_tellings.proofs.entry_tie.Rising.{told_more, rows_rise}
use Rattle.node_tellings.proofs.entry_tie.CleanerChecks.{InputTold, cleaning_so}
use Rattle.node_tellings.proofs.entry_tie.CleanerMoves.{OutMoved, cleaning_gives}
use Rattle.node_moves.proofs.client_walk.LogTurns.{IsSend, Lands, Rests, Turns, log_turns, tick_rests}

module _ (told : Told) (done : List Act) where
  -- one with its job, its feed and its log
  record Stands (its_job : Option Job) (its_feed : FeedState) (waits : List (BlockId × Change)) (flies : Option FlightState) : Type 0 where
    job : JobTold told its_job
    feed : FeedTold told its_feed
    log : MovesOn told waits flies

  abbrev At : Emptying → Type 0
  At e = Stands e.job e.feed e.log.dirty e.log.flight

  abbrev PhaseSo : Phase → Type 0
  PhaseSo (Down l) = Unit {0}
  PhaseSo (Opening l o) = StageHolds told o.stage
  PhaseSo (Serving e) = At e

  -- ---- how it goes on: there is no world

  abbrev World : Type 0
  World = Unit {0}

  abbrev Later : World → World → Type 0
  Later u v = Unit {0}

  abbrev So : World → Phase → Type 0
  So w p = PhaseSo p

  abbrev Says : World → Effect → Type 0
  Says w effect = frames.Says told done effect

  abbrev Goes : World → Went_to → Type 0
  Goes w d = frames.Goes told done PhaseSo d

  abbrev Serves : Done → Type 0
  Serves d = frames.Goes told done PhaseSo (serves_on d)

  abbrev Due : World → Out → Type 0
  Due w o = OutMoved told o

  follows : Follows World Later So Says Goes
  follows = record {
    now = λ w. tt;
    on = λ u v w a b. tt;
    says = λ w p outs h all. frames.goes_plain told done PhaseSo p outs h all;
    goes_on = λ w d e h next. frames.goes_on told done PhaseSo d e h (next tt tt);
  }

  -- ---- the opening of the log

  opening_log : events.KeepsLog (LogMoves told)
  opening_log = record {
    first = λ log inc end groups. record { waits = tt; flight = tt };
    begins = λ s h. log_moves told s (log_in.Parts []) tt h;
    hears = moves_heard told;
  }

  kept : (at : Stage) → StageHolds told at → events.StageKeeps told done (LogMoves told) opening_log at
  kept (stage.Scanning s) h = tt
  kept (stage.Settling s) h = h

  held : (at : Stage) → events.StageKeeps told done (LogMoves told) opening_log at → StageHolds told at
  held (stage.Scanning s) h = tt
  held (stage.Settling s) h = h

  module _ (first : Cleaner) (what : Do) (fact : DoTold told what) (owed : PhaseOwed told done first.phase) where
    -- ---- its job

    changed : (e f : Emptying) → Changes first what (OutMoved told) e f → At e → At f
    changed e f (FeedRenewed {e = x} slot) h = record { job = h.job; feed = renewed_told told x.feed slot h.feed; log = h.log }
    changed e f (AckTaken {e = x} slot applied) h = record { job = h.job; feed = acknowledged_told told x.feed slot applied h.feed; log = h.log }
    changed e f (JobBegun count) h = record { job = tt; feed = h.feed; log = h.log }
    changed e f JobEnded h = record { job = tt; feed = h.feed; log = h.log }
    changed e f _ h = record { job = h.job; feed = h.feed; log = h.log }

    gives_so : (e : Emptying) (effect : Effect) → Gives first what (OutMoved told) e effect → frames.Says told done effect
    gives_so e effect (EndReported packet manager m same came from low) = tt
    gives_so e effect _ = tt

    -- that a block is live was told
    given_so : (e : Emptying) (given : In) → Given first what e given → InputTold told given
    given_so e given (LiveCame packet m same came asked) = subst (BodyTold told) came.says (subst (DoTold told) came.event fact)
    given_so e given _ = tt

    one_stored : (o : LogOut) → frames.AllSay told done (stored o)
    one_stored (log_out.Send f m) = (tt, tt)
    one_stored (log_out.Settled end rows) = tt

    put_so : (s : LogState) (i : LogIn) → Put (OutMoved told) i → LogMoves told s → LogMoves told (log.transition s i).state
    put_so s i (BlockPut block entry value moved) h = log_moves told s (log_in.Put block entry value) moved.0 h
    put_so s i AllPut h = log_moves told s log_in.Seal tt h

    emptying_put_so : (e : Emptying) (i : LogIn) → Put (OutMoved told) i → At e → Serves (emptying_put e i)
    unfolding emptying_put
    emptying_put_so e i put h =
        frames.goes_plain told done PhaseSo (Serving (record e { log = (log.transition e.log i).state })) _
        (record { job = h.job; feed = h.feed; log = put_so e.log i put h.log })
        (all_flat_map (frames.Says told done) stored one_stored (log.transition e.log i).outs)

    job_keeps : JobKeeps first what World Later So Says Goes tt Due
    job_keeps = record {
      due = λ u v later o due. due;
      apart = λ w one blocks all. ((all.0, tt), all.1);
      changes = λ w e f change h. frames.goes_still told done PhaseSo (Serving f) (changed e f change h);
      gives = λ w e effect given h. gives_so e effect given;
      takes = λ w e job given later came h d next. (let its = given_so _ given came in
          next tt tt (record { job = cleaning_so told job.cleaning given its h.job; feed = h.feed; log = h.log })
          (cleaning_gives told job.cleaning given its h.job));
      puts = λ w e i put h. emptying_put_so e i put h;
    }

    -- ---- the log

    job_kept : (job : Option Job) → JobTold told job → JobTold told (note_moved job)
    job_kept None held = tt
    job_kept (Some job) held = held

    -- of a segment that was filed
    emptying_settle_so : (e : Emptying) (end : End) (rows : List (BlockId × Entry)) → At e → RowsTold told rows → Serves (emptying_settle e end rows)
    unfolding emptying_settle
    emptying_settle_so e end rows h filed =
        let f : Emptying = fed e end rows in
        let k : At f = record { job = job_kept e.job h.job; feed = settled_told told e.feed end.seq rows h.feed filed; log = h.log } in
        frames.goes_after told done PhaseSo (Does (Filed (name_of cleaner_log end)) ∷ push_all f.promised.managers f.feed) (serves_on (emptying_clean f input.Moved))
        (tt, push_all_say told done f.promised.managers f.feed k.feed)
        (cleaned first what World Later So Says Goes tt Due follows job_keeps tt f input.Moved tt MovesSettled k)

    sends_so : (e : Emptying) (outs : List LogOut) → At e → AllByRecursion IsSend outs → Serves (steps write_one e outs)
    unfolding write_one
    sends_so e [] h all = frames.goes_still told done PhaseSo (Serving e) h
    sends_so e (log_out.Send f m ∷ outs) h all =
        frames.goes_after told done PhaseSo (store f m ∷ []) (serves_on (steps write_one e outs)) (tt, tt) (sends_so e outs h all.1)
    sends_so e (log_out.Settled end rows ∷ outs) h all = absurd all.0

    -- the segment is told first: it is acted to be filed
    lands_so : (e : Emptying) (f : FlightState) (rest : List LogOut) → At e
        → (Contains done (Filed (name_of cleaner_log (end_of f.segment))) → RowsTold told (rows_of f.segment)) → AllByRecursion IsSend rest
        → Serves (steps write_one e (log_out.Settled (end_of f.segment) (rows_of f.segment) ∷ rest))
    unfolding write_one emptying_settle
    lands_so e f rest h files all acts =
        let s : Done = emptying_settle e (end_of f.segment) (rows_of f.segment) in
        frames.goes_on told done PhaseSo (serves_on s) (serves_on (steps write_one s.state rest))
        (emptying_settle_so e (end_of f.segment) (rows_of f.segment) h (files acts.0)) (λ k. sends_so s.state rest k all) acts

    writes_from : (e : Emptying) (d : log.Done) → At (record e { log = d.state }) → FlightOwed told done cleaner_log e.log → Turns e.log d
        → Serves (steps write_one (record e { log = d.state }) d.outs)
    writes_from e d h flies turns =
        let t : Emptying = record e { log = d.state } in
        ⊎_elim (λ (rests : Rests e.log.end d). sends_so t d.outs h rests.sends)
        (λ (lands : Lands e.log.flight d). subst (λ outs. Serves (steps write_one t outs)) (sym lands.outs)
        (lands_so t lands.flight lands.rest h (flies lands.flight lands.flew) lands.sends)) turns

    -- what its log had in flight says what is told, where it is acted to be filed
    flies_so : (e before : Emptying) → first.phase ≡ Serving before → e.log ≡ before.log → FlightOwed told done cleaner_log e.log
    flies_so e before same as_was = subst (FlightOwed told done cleaner_log) (sym as_was) (subst (PhaseOwed told done) same owed)

    emptying_write_so : (e : Emptying) (i : LogIn) → Written first what e i → At e → Serves (emptying_write e i)
    unfolding emptying_write
    emptying_write_so e i (AckCame packet m same came) h =
        writes_from e (log.transition e.log i)
        (record { job = h.job; feed = h.feed; log = moves_heard told e.log i tt h.log }) (flies_so e e same refl) (log_turns e.log i)
    emptying_write_so e i (GroupsCame before packet news same as_was brought) h =
        writes_from e (log.transition e.log i) (record { job = h.job; feed = h.feed; log = moves_heard told e.log i tt h.log })
        (flies_so e before same as_was) (log_turns e.log i)
    emptying_write_so e i LogTicks h =
        sends_so (record e { log = (log.on_tick e.log).state }) (log.on_tick e.log).outs
        (record { job = h.job; feed = h.feed; log = moves_heard told e.log i tt h.log }) (tick_rests e.log).sends

    -- ---- any event

    items_so : (p : Phase) (items : Items) → PhaseSo p → PhaseSo (noted p items)
    items_so (Down l) items h = tt
    items_so (Opening l o) items h = h
    items_so (Serving e) items h = h

    restarted : (servers : ℕ) (l : Lasting) (number : ℕ) → Goes tt (restart servers l number)
    unfolding restart
    restarted servers l number =
        frames.goes_plain told done PhaseSo (restart servers l number).state (restart servers l number).outs tt (tt, tt)

    comes_so : (l : Lasting) (p : Progress) → events.ProgressHolds told done (LogMoves told) opening_log p → PhaseSo (came_to l p)
    comes_so l (progress.Opening o) h = held o.stage h
    comes_so l (progress.Opened o) h = record { job = tt; feed = h.fed; log = h.keeps }
    comes_so l (progress.Lost seg) h = tt

    went_so : (l : Lasting) (o : openings.Opening) (x : Went) → first.phase ≡ Opening l o → OpenedBy what l o x → StageHolds told o.stage
        → events.WentSo told done (LogMoves told) opening_log x
    went_so l o x same (PacketCame packet event) h =
        events.packet_goes told done (LogMoves told) opening_log o l.questions packet (subst (PhaseOwed told done) same owed) (kept o.stage h)
    went_so l o x same (TimeWent event) h =
        events.tick_goes told done (LogMoves told) opening_log o l.questions (subst (PhaseOwed told done) same owed) (kept o.stage h)

    keeps : Keeps first what World Later So Says Goes tt
    keeps = record {
      items = λ w p items for h. items_so p items h;
      answers = λ w number a due. tt;
      falls = λ w p h. frames.goes_still told done PhaseSo (Down (lasting_of p)) tt;
      restarts = λ w l number its event following h. restarted first.peers.servers l number;
      opens = λ w l o x later its same by h acts. (let k = went_so l o x same by h acts in (comes_so (record l { questions = x.questions }) x.progress k.0, k.1));
      writes = λ w e i later came h. emptying_write_so e i came h;
      pushes = λ w e h. push_all_say told done e.promised.managers e.feed h.feed;
    }

    taken_so : PhaseSo first.phase → Goes tt (takes first.peers first.phase what)
    taken_so h = event_goes first what World Later So Says Goes tt Due follows job_keeps keeps h

  stands : (p : Phase) → PhaseHolds told p → PhaseSo p
  stands (Down l) h = tt
  stands (Opening l o) h = h
  stands (Serving e) h = record { job = h.job; feed = h.feed; log = h.log }

  holds : (p : Phase) → PhaseSo p → PhaseHolds told p
  holds (Down l) h = tt
  holds (Opening l o) h = h
  holds (Serving e) h = record { job = h.job; feed = h.feed; log = h.log }

-- ---- the law

-- of any entries that are told
pub any_cleaner_tells : (told : Told) (cleaner : Cleaner) (what : Do) → CleanerHolds told cleaner → DoTold told what
    → CleanerOwed told cleaner what (cleaner_step cleaner what).acts → TellsTold (CleanerHolds told) told (cleaner_step cleaner what)
any_cleaner_tells told cleaner what h fact owed =
    let w : Went_to = takes cleaner.peers cleaner.phase what in
    let done : List Act = (cleaner_step cleaner what).acts in
    let went = taken_so told done cleaner what fact owed (stands told done cleaner.phase h)
    (frames.acts_acted told done TheCleaner w.outs (contains_all done)) in
    record { node = holds told done w.state went.0; packets = frames.packets_tell told done TheCleaner w.outs went.1 }

pub cleaner_tells : CleanerTellsTold
cleaner_tells rows cleaner what h fact owed = any_cleaner_tells (told_by_rows rows) cleaner what h fact owed

pub cleaner_starts : CleanerStartsTold
cleaner_starts rows setup works = record { job = tt; feed = tt; log = record { waits = tt; flight = tt } }

module _ (told later : Told) (more : (block : BlockId) (entry : Entry) → told block entry → later block entry) where
  fate_rises : (block : BlockId) (fate : Fate) → FateTold told block fate → FateTold later block fate
  fate_rises block (Live entry value) h = record { before = h.before; before_told = more block h.before h.before_told; moved = h.moved }
  fate_rises block _ h = tt

  checking_rises : (p : job_phases.Phase) → CheckingTold told p → CheckingTold later p
  checking_rises (Checking job segment checks) h = all_weaker (CheckTold told) (CheckTold later) (λ c. fate_rises c.block c.fate) checks h
  checking_rises _ h = tt

  job_rises : (job : Option Job) → JobTold told job → JobTold later job
  job_rises None h = tt
  job_rises (Some job) h = checking_rises job.cleaning.phase h

  moved_rises : (block : BlockId) (entry : Entry) → MovedTold told block entry → MovedTold later block entry
  moved_rises block entry h = record { before = h.before; before_told = more block h.before h.before_told; moved = h.moved }

  item_rises : (i : Item) → ItemTold told i → ItemTold later i
  item_rises (item.Block block value) h = tt
  item_rises (item.Delta block ver hop at) h = record { before = h.before; before_told = more block h.before h.before_told; ver = h.ver; hop = h.hop }
  item_rises (item.Part slot rows) h = tt

  flight_rises : (o : Option FlightState) → IfSome o (FlightMoves told) → IfSome o (FlightMoves later)
  flight_rises None h = tt
  flight_rises (Some f) h = all_weaker (ItemTold told) (ItemTold later) item_rises f.segment.items h

  log_rises : (log : LogState) → LogMoves told log → LogMoves later log
  log_rises log h = record {
    waits = all_weaker (WaitTold told) (WaitTold later) (λ w. moved_rises w.0 w.1.entry) log.dirty h.waits;
    flight = flight_rises log.flight h.flight;
  }

  stage_rises : (at : Stage) → StageHolds told at → StageHolds later at
  stage_rises (stage.Scanning s) h = tt
  stage_rises (stage.Settling s) h = log_rises s.log h

  pub phase_rises : (p : Phase) → PhaseHolds told p → PhaseHolds later p
  phase_rises (Down l) h = tt
  phase_rises (Opening l o) h = stage_rises o.stage h
  phase_rises (Serving e) h = record {
    job = job_rises e.job h.job;
    log = log_rises e.log h.log;
    feed = all_weaker (DeltasTold told) (DeltasTold later) (λ deltas. rows_rise told later more deltas.rows) e.feed.filed h.feed;
  }

pub cleaner_rises : CleanerHoldsRise
cleaner_rises rows later cleaner more h = phase_rises (told_by_rows rows) (told_by_rows later) (told_more rows later more) cleaner.phase h
