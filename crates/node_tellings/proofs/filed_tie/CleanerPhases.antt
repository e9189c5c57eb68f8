-- What each event makes of the cleaner, and what it sends, where all that it acts to be filed is reached: where a segment is settled it is acted to be filed,
-- so the end of the log and of the feed are filed then.
use Rattle.std.proofs.Common.{◌≤◌, ⊎_elim, ℕ, List, [], ◌∷◌, refl, sym, subst, arith}
use Rattle.std.specs.List.{AllByRecursion}
use Rattle.cleaner_job.specs.declared.lasting.Lasting.{Lasting}
use Rattle.cleaner_job.specs.Starting.{cleaner_log}
use Rattle.cleaner_node.specs.CleanerEvents.{Went_to, lasting_of, next_life, owner_of, restart, serves_on, takes}
use Rattle.cleaner_node.specs.declared.cleaner.Cleaner.{Cleaner}
use Rattle.cleaner_node.specs.declared.cleaner.Phase.{Phase}
use Rattle.cleaner_node.specs.declared.cleaner.Phase.TheVariants.{Down, Opening, Serving}
use Rattle.cleaner_serving.specs.declared.emptying.Emptying.{Emptying}
use Rattle.cleaner_serving.specs.EmptyingEvents.{fed, emptying_settle, emptying_write, write_one}
use Rattle.cleaner_serving.specs.Jobs.{Done, emptying_clean, emptying_put}
use Rattle.client_log.specs.declared.input.In.{In as LogIn}
use Rattle.client_log.specs.declared.output.Out.{Out as LogOut}
use Rattle.client_log.specs.declared.output.Out.TheVariants as log_out
use Rattle.client_log.specs.LogState.{LogState}
use Rattle.client_log.specs.Transition as log
use Rattle.log_owner.specs.declared.opened.Progress.{Progress}
use Rattle.log_owner.specs.declared.opened.Progress.TheVariants as progress
use Rattle.log_owner.specs.declared.opening.Opening as openings
use Rattle.log_owner.specs.Opening.{Went, stored}
use Rattle.log_owner.specs.Sending.{name_of, push_all, store}
use Rattle.node_base.specs.declared.effects.Effect.{Effect}
use Rattle.node_base.specs.declared.effects.Effect.TheVariants.{Does}
use Rattle.node_base.specs.declared.items.Items.{Items}
use Rattle.node_base.specs.Nodes.{has_node}
use Rattle.node_base.specs.Shape.{has_logs}
use Rattle.stripe_cleaner.specs.declared.input.In.TheVariants as input
use Rattle.stripe_cleaner.specs.declared.output.Out.{Out}
use Rattle.stripe_cleaner.specs.Transition.{transition}
use Rattle.version_model.specs.declared.act.Act.TheVariants.{Filed}
use Rattle.wire_msg.specs.declared.packet.Do.{Do}
use Rattle.xfs_base.proofs.Alls.{all_each, all_flat_map}
use Rattle.xfs_base.proofs.Booleans.{and_first, and_second}
use Rattle.xfs_base.specs.declared.block.BlockId.{BlockId}
use Rattle.xfs_base.specs.declared.entry.Entry.{Entry}
use Rattle.xfs_base.specs.declared.node.NodeId.TheVariants.{Cleaner as TheCleaner}
use Rattle.xfs_base.specs.declared.segment.End.{End}
use Rattle.xfs_base.specs.Steps.{steps}
use Rattle.node_moves.proofs.cleaner_moves.Keeping.{Changes, Follows, Gives, JobKeeps, Keeps, Put, cleaned, event_goes}
use Rattle.node_moves.proofs.cleaner_moves.Keeping.Changes.{AckTaken, FeedRenewed}
use Rattle.node_moves.proofs.cleaner_moves.Keeping.Gives.{EndReported}
use Rattle.node_moves.proofs.cleaner_moves.Keeping.Put.{AllPut, BlockPut}
use Rattle.node_moves.specs.cleaner_moves.Moves.{IsTaken, OpenedBy, came_to, noted}
use Rattle.node_moves.specs.cleaner_moves.Moves.Given.{MovesSettled}
use Rattle.node_moves.specs.cleaner_moves.Moves.OpenedBy.{PacketCame, TimeWent}
use Rattle.segment_format.specs.Rows.{rows_of}
use Rattle.node_tellings.specs.filed_tie.CleanerReach.{CleanerReachRises, CleanerStartsReaching, CleanerTellsFiled, PhaseReaches}
use Rattle.node_tellings.specs.filed_tie.OpeningReach.{OpeningReaches}
use Rattle.node_tellings.specs.filed_tie.Reach.{DoTells, Reach, Rises}
use Rattle.node_tellings.proofs.filed_tie.Feeds.{acknowledged_end, push_all_say, renewed_end, settled_end}
use Rattle.node_tellings.proofs.filed_tie.Frames as frames
use Rattle.node_moves.proofs.client_walk.LogTurns.{IsSend, Lands, Rests, as_end, log_turns, put_rests, seal_rests}
use Rattle.node_tellings.proofs.filed_tie.OpeningRises.{opening_rises}
use Rattle.node_tellings.proofs.filed_tie.Openings as events
use Rattle.node_tellings.proofs.filed_tie.Rising.{do_rises}

module _ (reach : Reach) where
  -- one with its log's and its feed's end
  record Stands (highest lowest : ℕ) : Type 0 where
    end : highest ≤ reach cleaner_log.0
    feed : lowest ≤ reach cleaner_log.0

  abbrev At : Emptying → Type 0
  At e = Stands e.log.end.seq e.feed.end

  abbrev PhaseSo : Phase → Type 0
  PhaseSo (Down l) = Unit {0}
  PhaseSo (Opening l o) = OpeningReaches reach cleaner_log.0 o
  PhaseSo (Serving e) = At e

  -- ---- how it goes on: there is no world

  abbrev World : Type 0
  World = Unit {0}

  abbrev Later : World → World → Type 0
  Later u v = Unit {0}

  abbrev So : World → Phase → Type 0
  So w p = PhaseSo p

  abbrev Says : World → Effect → Type 0
  Says w effect = frames.Says reach TheCleaner effect

  abbrev Goes : World → Went_to → Type 0
  Goes w d = frames.Goes reach TheCleaner PhaseSo d

  abbrev Serves : Done → Type 0
  Serves d = frames.Goes reach TheCleaner PhaseSo (serves_on d)

  abbrev Any : World → Out → Type 0
  Any w o = Unit {0}

  follows : Follows World Later So Says Goes
  follows = record {
    now = λ w. tt;
    on = λ u v w a b. tt;
    says = λ w p outs h all. frames.goes_plain reach TheCleaner PhaseSo p outs h all;
    goes_on = λ w d e h next. frames.goes_on reach TheCleaner PhaseSo d e h (next tt tt);
  }

  module _ (first : Cleaner) (what : Do) (tells : DoTells reach what) where
    -- ---- its job

    changed : (e f : Emptying) → Changes first what (λ o. Unit {0}) e f → At e → At f
    changed e f (FeedRenewed {e = x} slot) h = record { end = h.end; feed = renewed_end (reach cleaner_log.0) x.feed slot h.feed }
    changed e f (AckTaken {e = x} slot applied) h = record { end = h.end; feed = acknowledged_end (reach cleaner_log.0) x.feed slot applied h.feed }
    changed e f _ h = record { end = h.end; feed = h.feed }

    gives_so : (e : Emptying) (effect : Effect) → Gives first what (λ o. Unit {0}) e effect → At e → frames.Says reach TheCleaner effect
    gives_so e effect (EndReported packet manager m same came from low) h = h.end
    gives_so e effect _ h = tt

    one_stored : (o : LogOut) → frames.AllSay reach TheCleaner (stored o)
    one_stored (log_out.Send f m) = (tt, tt)
    one_stored (log_out.Settled end rows) = tt

    rests_so : (e : Emptying) (d : log.Done) → Rests e.log.end d → At e → At (record e { log = d.state })
    rests_so e d rests h = record { end = subst (λ (end : End). end.seq ≤ reach cleaner_log.0) (sym rests.same) h.end; feed = h.feed }

    put_so : (e : Emptying) (i : LogIn) → Put (λ o. Unit {0}) i → Rests e.log.end (log.transition e.log i)
    put_so e i (BlockPut block entry value due) = put_rests e.log block (record { entry = entry; value = value })
    put_so e i AllPut = seal_rests e.log

    emptying_put_so : (e : Emptying) (i : LogIn) → Put (λ o. Unit {0}) i → At e → Serves (emptying_put e i)
    unfolding emptying_put
    emptying_put_so e i put h =
        frames.goes_plain reach TheCleaner PhaseSo (Serving (record e { log = (log.transition e.log i).state })) _
        (rests_so e (log.transition e.log i) (put_so e i put) h)
        (all_flat_map (frames.Says reach TheCleaner) stored one_stored (log.transition e.log i).outs)

    job_keeps : JobKeeps first what World Later So Says Goes tt Any
    job_keeps = record {
      due = λ u v later o due. tt;
      apart = λ w one blocks due. (tt, tt);
      changes = λ w e f change h. frames.goes_still reach TheCleaner PhaseSo (Serving f) (changed e f change h);
      gives = λ w e effect given h. gives_so e effect given h;
      takes = λ w e job given later came h d next. next tt tt h (all_each (λ o. Unit {0}) (λ o. tt) (transition job.cleaning given).outs);
      puts = λ w e i put h. emptying_put_so e i put h;
    }

    -- ---- the log

    -- a segment that was filed is settled
    emptying_settle_so : (e : Emptying) (end : End) (rows : List (BlockId × Entry)) → At e → end.seq ≤ reach cleaner_log.0 → Serves (emptying_settle e end rows)
    unfolding emptying_settle
    emptying_settle_so e end rows h filed =
        let f : Emptying = fed e end rows in
        let k : At f = record { end = h.end; feed = settled_end (reach cleaner_log.0) e.feed end.seq rows h.feed filed } in
        frames.goes_after reach TheCleaner PhaseSo (Does (Filed (name_of cleaner_log end)) ∷ push_all f.promised.managers f.feed)
        (serves_on (emptying_clean f input.Moved)) (tt, push_all_say reach TheCleaner f.promised.managers f.feed k.feed)
        (cleaned first what World Later So Says Goes tt Any follows job_keeps tt f input.Moved tt MovesSettled k)

    sends_so : (e : Emptying) (outs : List LogOut) → At e → AllByRecursion IsSend outs → Serves (steps write_one e outs)
    unfolding write_one
    sends_so e [] h all = frames.goes_still reach TheCleaner PhaseSo (Serving e) h
    sends_so e (log_out.Send f m ∷ outs) h all =
        frames.goes_after reach TheCleaner PhaseSo (store f m ∷ []) (serves_on (steps write_one e outs)) (tt, tt) (sends_so e outs h all.1)
    sends_so e (log_out.Settled end rows ∷ outs) h all = absurd all.0

    -- the end is told first: it is acted to be filed
    lands_so : (e : Emptying) (l : LogState) (rows : List (BlockId × Entry)) (rest : List LogOut) → At e → AllByRecursion IsSend rest
        → Serves (steps write_one (record e { log = l }) (log_out.Settled l.end rows ∷ rest))
    unfolding write_one emptying_settle
    lands_so e l rows rest h all acts =
        let t : Emptying = record e { log = l } in
        let filed : l.end.seq ≤ reach cleaner_log.0 = acts.0 in
        let s : Done = emptying_settle t l.end rows in
        frames.goes_on reach TheCleaner PhaseSo (serves_on s) (serves_on (steps write_one s.state rest))
        (emptying_settle_so t l.end rows (record { end = filed; feed = h.feed }) filed) (λ k. sends_so s.state rest k all) acts

    emptying_write_so : (e : Emptying) (i : LogIn) → At e → Serves (emptying_write e i)
    unfolding emptying_write
    emptying_write_so e i h =
        let d : log.Done = log.transition e.log i in
        let t : Emptying = record e { log = d.state } in
        ⊎_elim (λ (rests : Rests e.log.end d). sends_so t d.outs (rests_so e d rests h) rests.sends)
        (λ (lands : Lands e.log.flight d). subst (λ outs. Serves (steps write_one t outs)) (sym (as_end e.log.flight d lands))
        (lands_so e d.state (rows_of lands.flight.segment) lands.rest h lands.sends))
        (log_turns e.log i)

    -- ---- any event

    items_so : (p : Phase) (items : Items) → PhaseSo p → PhaseSo (noted p items)
    items_so (Down l) items h = tt
    items_so (Opening l o) items h = h
    items_so (Serving e) items h = h

    restarted : (servers : ℕ) (l : Lasting) (number : ℕ) → Goes tt (restart servers l number)
    unfolding restart
    restarted servers l number =
        frames.goes_plain reach TheCleaner PhaseSo (restart servers l number).state (restart servers l number).outs
        (events.first_so reach TheCleaner cleaner_log.0 (owner_of (next_life l number)) servers (next_life l number).questions refl) (tt, tt)

    comes_so : (l : Lasting) (p : Progress) → events.ProgressReaches reach TheCleaner cleaner_log.0 p → PhaseSo (came_to l p)
    comes_so l (progress.Opening o) h = h
    comes_so l (progress.Opened o) h = record { end = h.end_reached; feed = h.feed_reached }
    comes_so l (progress.Lost seg) h = tt

    went_so : (l : Lasting) (o : openings.Opening) (x : Went) → IsTaken first what → OpenedBy what l o x → OpeningReaches reach cleaner_log.0 o
        → events.WentSo reach TheCleaner cleaner_log.0 x
    went_so l o x its (PacketCame packet event) h =
        events.packet_goes reach TheCleaner cleaner_log.0 o l.questions packet h
        (and_first (has_logs packet.body) _ (and_second (has_node first.peers packet.from) _ (its.formed packet event))) (subst (DoTells reach) event tells)
    went_so l o x its (TimeWent event) h = events.tick_goes reach TheCleaner cleaner_log.0 o l.questions h

    keeps : Keeps first what World Later So Says Goes tt
    keeps = record {
      items = λ w p items for h. items_so p items h;
      answers = λ w number a due. tt;
      falls = λ w p h. frames.goes_still reach TheCleaner PhaseSo (Down (lasting_of p)) tt;
      restarts = λ w l number its event following h. restarted first.peers.servers l number;
      opens = λ w l o x later its same by h acts. (let k = went_so l o x its by h acts in (comes_so (record l { questions = x.questions }) x.progress k.0, k.1));
      writes = λ w e i later came h. emptying_write_so e i h;
      pushes = λ w e h. push_all_say reach TheCleaner e.promised.managers e.feed h.feed;
    }

    taken_so : PhaseSo first.phase → Goes tt (takes first.peers first.phase what)
    taken_so h = event_goes first what World Later So Says Goes tt Any follows job_keeps keeps h

-- ---- the law

stands : (reach later : Reach) → Rises reach later → (p : Phase) → PhaseReaches reach p → PhaseSo later p
stands reach later rises (Down l) h = tt
stands reach later rises (Opening l o) h = opening_rises reach later rises cleaner_log.0 o h
stands reach later rises (Serving e) h =
    let r = rises cleaner_log.0 in
    let end = h.end in
    let feed = h.feed in
    record { end = omega (arith, r, end); feed = omega (arith, r, feed) }

reaches : (reach : Reach) (p : Phase) → PhaseSo reach p → PhaseReaches reach p
reaches reach (Down l) h = tt
reaches reach (Opening l o) h = h
reaches reach (Serving e) h = record { end = h.end; feed = h.feed }

pub cleaner_rises : CleanerReachRises
cleaner_rises reach later cleaner rises holds = reaches later cleaner.phase (stands reach later rises cleaner.phase holds)

pub cleaner_tells : CleanerTellsFiled
cleaner_tells reach later cleaner what rises holds tells acts =
    let w : Went_to = takes cleaner.peers cleaner.phase what in
    let went = taken_so later cleaner what (do_rises reach later rises what tells) (stands reach later rises cleaner.phase holds)
    (frames.acts_reached later TheCleaner w.outs acts) in
    record { node = reaches later w.state went.0; packets = frames.packets_tell later TheCleaner w.outs went.1 }

pub cleaner_starts : CleanerStartsReaching
cleaner_starts reach setup works = record { end = omega arith; feed = omega arith }
