-- What the cleaner does once its log takes an input: where a segment is settled it is filed, and the job goes on.
use Rattle.headline.specs.Filed.{Filed, Texts}
use Rattle.std.proofs.Common.{⊎_elim, ◌≡◌, ◌≤◌, ℕ, suc, List, [], ◌∷◌, map, Option, Some, None, refl, sym, ap, subst, ◌∙◌, arith}
use Rattle.std.specs.List.{AllByRecursion}
use Rattle.std.proofs.lemmas.List.Elements.{recursion_from_All}
use Rattle.cleaner_serving.specs.declared.emptying.Emptying.{Emptying}
use Rattle.cleaner_serving.specs.EmptyingEvents.{fed, emptying_settle, write_one, emptying_write}
use Rattle.cleaner_serving.specs.Jobs.{Done, emptying_clean}
use Rattle.cleaner_job.specs.declared.job.Job.{Job}
use Rattle.cleaner_job.specs.Jobs.{note_moved}
use Rattle.cleaner_job.specs.Starting.{cleaner_log}
use Rattle.client_log.specs.declared.input.In.{In as LogIn}
use Rattle.client_log.specs.declared.input.In.TheVariants.{Tick}
use Rattle.client_log.specs.declared.output.Out.{Out}
use Rattle.client_log.specs.declared.output.Out.TheVariants.{Send, Settled}
use Rattle.client_log.specs.Transition as log
use Rattle.client_log.specs.Transition.{end_of}
use Rattle.delta_feed.specs.declared.output.Out as feed_outs
use Rattle.delta_feed.specs.declared.output.Out.TheVariants.{Range}
use Rattle.delta_feed.specs.FeedState.{FeedState}
use Rattle.delta_feed.specs.Transition.{settled, feed_tick}
use Rattle.index_tie.specs.Growth.{with_segment}
use Rattle.index_tie.specs.Net.{Net, Packet}
use Rattle.log_owner.specs.declared.promised.Managers.{Managers}
use Rattle.log_owner.specs.Promised.{epoch_of}
use Rattle.log_owner.specs.Sending.{name_of, range, store, push_all}
use Rattle.node_slots.specs.node_index_tie.OwnerEvents as owners
use Rattle.node_slots.specs.node_index_tie.Sight.{Questions, RowsFit}
use Rattle.node_moves.proofs.client_walk.LogTurns.{IsSend}
use Rattle.node_slots.proofs.node_index_tie.Owners.{owners_tell}
use Rattle.segment_format.specs.Rows.{rows_of}
use Rattle.segment_format.specs.declared.segment.Segment.{Segment}
use Rattle.stripe_cleaner.specs.declared.input.In.TheVariants as input
use Rattle.xfs_base.specs.declared.segment.LogId.{LogId}
use Rattle.xfs_base.specs.declared.segment.SegName.{SegName}
use Rattle.xfs_base.specs.Steps.{saying, steps}
use Rattle.node_slots.specs.owner_index_tie.CleanerEvents.{IsMoved, JobAgrees}
use Rattle.node_slots.specs.owner_index_tie.Filing.{filing, FilesNext}
use Rattle.node_slots.specs.owner_index_tie.Owners.{LogNext, OwnerSeen}
use Rattle.node_slots.proofs.owner_index_tie.CleanerFrames as frames
use Rattle.node_slots.proofs.owner_index_tie.CleanerFrames.{Stands}
use Rattle.node_slots.proofs.owner_index_tie.CleanerJobs as jobs
use Rattle.node_slots.proofs.owner_index_tie.CleanerSays.{relogged}
use Rattle.node_slots.proofs.owner_index_tie.Growing.{grown}
use Rattle.node_slots.proofs.owner_index_tie.MovesLog.{FlightKnown, segment_moves}
use Rattle.node_slots.proofs.owner_index_tie.Turns.{Rests, Lands, Turns, tick_stays, log_turns}

module _ (New : Filed → Segment → Type 0) (part : ℕ) (texts : Texts) (since : ℕ) (answered : List Packet) where
  abbrev At : Net → Emptying → Type 0
  At n e = Stands New part texts since answered n e.log e.feed e.promised e.job

  abbrev Goes : Questions → Net → Done → Type 0
  Goes asked n d = frames.Goes New part texts since answered asked n d

  -- ---- what it tells of its log

  ranges_plain : (asked : Questions) (n : Net) (managers : Managers) (outs : List feed_outs.Out)
      → AllByRecursion (owners.OwnerDoes part n 9) (map (range managers) outs)
      → frames.AllPlain New part texts since answered asked n (map (range managers) outs)
  ranges_plain asked n managers [] all = tt
  ranges_plain asked n managers (Range slot first upto rows ∷ outs) all = (all.0, ranges_plain asked n managers outs all.1)

  pub pushes_plain : (asked : Questions) (n : Net) (managers : Managers) (f : FeedState) → owners.FeedSeen part n 9 f
      → frames.AllPlain New part texts since answered asked n (push_all managers f)
  pushes_plain asked n managers f k = ranges_plain asked n managers (feed_tick f)
      (recursion_from_All (owners.OwnerDoes part n 9) (push_all managers f) (owners_tell part n 9 f managers (omega arith) (omega arith) k).each)

  -- ---- what settles nothing

  sends_so : (asked : Questions) (n : Net) (e : Emptying) (outs : List Out) → AllByRecursion IsSend outs → At n e → Goes asked n (steps write_one e outs)
  unfolding write_one
  sends_so asked n e [] all h = frames.quiet New part texts since answered asked n e [] h tt
  sends_so asked n e (Send fragment member ∷ outs) all h =
      frames.went_on New part texts since answered asked n (record { state = e; outs = store fragment member ∷ [] }) (steps write_one e outs)
      (frames.quiet New part texts since answered asked n e (store fragment member ∷ []) h (tt, tt)) (λ w. sends_so w.questions w.next e outs all.1 w.stands)
  sends_so asked n e (Settled end rows ∷ outs) all h = absurd all.0

  rests_so : (asked : Questions) (n : Net) (e : Emptying) (r : log.Done) → LogNext 9 r.state → Rests e.log r → At n e
      → Goes asked n (steps write_one (record e { log = r.state }) r.outs)
  rests_so asked n e r next k h =
      sends_so asked n (record e { log = r.state }) r.outs k.sends
      (relogged New part texts since answered n e.log r.state e.feed e.promised e.job next k.same h)

  pub ticks_so : (asked : Questions) (n : Net) (e : Emptying) → At n e → Goes asked n (emptying_write e Tick)
  unfolding emptying_write
  ticks_so asked n e h =
      let k = tick_stays 9 e.log h.seen.owner.log in
      rests_so asked n e (log.on_tick e.log) k.next k.rests h

  -- ---- what is settled

  moved_job : (n : Net) (epoch : ℕ) (o : Option Job) → JobAgrees part n epoch o → JobAgrees part n epoch (note_moved o)
  moved_job n epoch None k = k
  moved_job n epoch (Some job) k = k

  module _ (asked : Questions) (n : Net) (e : Emptying) (h : At n e) (text : FlightKnown part texts answered e.log) (r : log.Done) (next : LogNext 9 r.state)
      (k : Lands e.log r) where
    abbrev old : Segment
    old = k.old.segment

    abbrev its_name : SegName
    its_name = name_of cleaner_log (end_of old)

    name_is : its_name ≡ old.name
    name_is = ap (λ (x : LogId). record { log = x; seq = old.name.seq; pass = old.name.pass })
        (sym h.seen.owner.log.own ∙ sym (h.seen.owner.log.of k.old k.was))

    at_next : old.name.seq ≡ suc (n.filed.head 9)
    at_next = h.seen.owner.log.next k.old k.was ∙ ap suc h.seen.owner.end.seq

    text_is : texts its_name ≡ old
    text_is = ap texts name_is ∙ text.0 k.old k.was

    moved : IsMoved part n.sent n.filed (texts its_name)
    moved = subst (IsMoved part n.sent n.filed) (sym text_is)
        (λ b inside some. let move = segment_moves part answered old (text.1 k.old k.was) b inside some in record {
          entry = move.entry;
          answered = h.heard _ move.answered;
          version = move.version;
          hop = move.hop;
        })

    abbrev m : Net
    m = frames.files_one New part texts since answered n its_name

    abbrev then_fed : Emptying
    then_fed = fed (record e { log = r.state }) (end_of old) (rows_of old)

    fed_at : FilesNext New texts 9 n.filed its_name → At m then_fed
    fed_at it =
        let g = grown part texts n 9 since n.filed 9 r.state e.feed old h.late refl h.seen.owner.feed
        (subst (λ (x : Segment). RowsFit (rows_of x)) text_is it.fits) it.short next k.end at_next in
        let s = subst (λ (x : Segment). OwnerSeen part (filing n (with_segment n.filed 9 x)) 9 9 r.state (settled e.feed old.name.seq (rows_of old)))
        (sym text_is) g.seen in
        record {
          late = subst (λ (x : Segment). since ≤ (with_segment n.filed 9 x).head 9) (sym text_is) g.late;
          heard = h.heard;
          seen = record {
            owner = s;
            eight = h.seen.eight;
            promised = h.seen.promised;
            job = frames.same_job part n m (epoch_of e.promised part) (note_moved e.job) refl (moved_job n (epoch_of e.promised part) e.job h.seen.job);
          };
        }

    abbrev gone : Done
    gone = saying (push_all then_fed.promised.managers then_fed.feed) (emptying_clean then_fed input.Moved)

    abbrev behind : Done
    behind = saying gone.outs (steps write_one gone.state k.rest)

    behind_so : FilesNext New texts 9 n.filed its_name → Goes asked m behind
    behind_so it =
        let at = fed_at it in
        frames.went_on New part texts since answered asked m gone (steps write_one gone.state k.rest)
        (frames.went_behind New part texts since answered asked m (push_all then_fed.promised.managers then_fed.feed) (emptying_clean then_fed input.Moved)
        (pushes_plain asked m then_fed.promised.managers then_fed.feed at.seen.owner.feed)
        (jobs.emptying_clean_so New part texts since answered asked m then_fed input.Moved at
        (jobs.may_other New part texts since answered m then_fed input.Moved at tt tt)))
        (λ w. sends_so w.questions w.next gone.state k.rest k.sends w.stands)

    lands_so : Goes asked n (steps write_one (record e { log = r.state }) (Settled (end_of old) (rows_of old) ∷ k.rest))
    unfolding write_one emptying_settle
    lands_so = frames.went_filing New part texts since answered asked n its_name behind (ap (λ (x : Segment). x.name) text_is ∙ sym name_is) at_next moved
        behind_so

  turns_so : (asked : Questions) (n : Net) (e : Emptying) (r : log.Done) → At n e → FlightKnown part texts answered e.log → Turns 9 e.log r
      → Goes asked n (steps write_one (record e { log = r.state }) r.outs)
  turns_so asked n e r h text turns =
      ⊎_elim
      (λ (rests : Rests e.log r). rests_so asked n e r turns.next rests h)
      (λ (lands : Lands e.log r). subst (λ outs. Goes asked n (steps write_one (record e { log = r.state }) outs)) (sym lands.outs)
      (lands_so asked n e h text r turns.next lands))
      turns.went

  -- any input
  pub emptying_write_so : (asked : Questions) (n : Net) (e : Emptying) (i : LogIn) → At n e → FlightKnown part texts answered e.log → Goes asked n (emptying_write e i)
  unfolding emptying_write
  emptying_write_so asked n e i h text = turns_so asked n e (log.transition e.log i) h text (log_turns 9 e.log h.seen.owner.log i)
