-- What an event makes of the cleaner, in the small world of a client's log: each of its moves is seen there.
use Rattle.std.proofs.Common.{◌≡◌, ℕ, List, [], ◌∷◌, Some, refl, subst}
use Rattle.std.specs.Prelude.{All}
use Rattle.xfs_base.specs.declared.node.NodeId.TheVariants.{Cleaner as TheCleaner}
use Rattle.xfs_base.specs.declared.setup.Setup.{Setup}
use Rattle.log_owner.specs.declared.opened.Progress.{Progress}
use Rattle.log_owner.specs.declared.opened.Progress.TheVariants as progress
use Rattle.log_owner.specs.declared.opening.Opening as openings
use Rattle.log_owner.specs.Opening as opening
use Rattle.log_owner.specs.Opening.{Went}
use Rattle.log_owner.specs.Sending.{push_all}
use Rattle.node_base.specs.Asking.{draw, next_ask}
use Rattle.node_base.specs.declared.effects.Effect.TheVariants.{Answer as Answers}
use Rattle.node_base.specs.declared.items.Items.{Items}
use Rattle.node_base.specs.Maps.{maps_take}
use Rattle.stripe_cleaner.specs.declared.input.In.{In}
use Rattle.version_model.specs.declared.work.Work.{Work}
use Rattle.wire_msg.specs.declared.body.Body.{Body}
use Rattle.wire_msg.specs.declared.body.Body.TheVariants as body
use Rattle.wire_msg.specs.declared.packet.Do.{Do}
use Rattle.wire_msg.specs.declared.packet.Do.TheVariants.{Deliver}
use Rattle.wire_msg.specs.declared.packet.Packet.{Packet}
use Rattle.delta_feed.specs.Transition as feed
use Rattle.cleaner_serving.specs.declared.emptying.Emptying.{Emptying}
use Rattle.cleaner_serving.specs.EmptyingEvents.{ask_for_maps, emptying_promise}
use Rattle.cleaner_serving.specs.Jobs.{confirmed, emptying_hear, with_questions}
use Rattle.cleaner_node.specs.CleanerEvents.{Went_to, cleaner_start, cleaner_step, lasting_of, next_life, owner_of, restart, takes}
use Rattle.cleaner_node.specs.declared.cleaner.Cleaner as cleaners
use Rattle.cleaner_node.specs.declared.cleaner.Phase.{Phase}
use Rattle.cleaner_node.specs.declared.cleaner.Phase.TheVariants.{Down, Opening, Serving}
use Rattle.cleaner_job.specs.declared.lasting.Lasting.{Lasting}
use Rattle.cleaner_job.specs.Hands.{fetches}
use Rattle.cleaner_job.specs.Jobs.{hand_of, note_greeted, note_read}
use Rattle.cleaner_job.specs.Starting.{cleaner_log}
use Rattle.log_tie.specs.Setting.{Setting}
use Rattle.log_law.specs.Net.{Net}
use Rattle.node_moves.proofs.cleaner_moves.Events.{cleaner_events_are_moves}
use Rattle.node_moves.specs.cleaner_moves.Moves.{Given, Move, Moves, OpenedBy, begun_job, came_to, left_reading, noted}
use Rattle.node_moves.specs.cleaner_moves.Moves.Given.{ListCame, WelcomeCame}
use Rattle.node_moves.specs.cleaner_moves.Moves.Move.{Acknowledges, AnswersItem, AsksForMaps, BeginsJob, Cleans, Falls, Fetches, HearsServer, IsGreeted, LeavesReading, LogTakes, NotesItems, Opens, Promises, ReadsOn, Reports, Restarts, TakesMaps, TellsDeltas}
use Rattle.node_moves.specs.cleaner_moves.Moves.Moves.{Last, Rests, Then}
use Rattle.node_moves.specs.cleaner_moves.Moves.OpenedBy.{PacketCame, TimeWent}
use Rattle.node_moves.specs.server_moves.Moves.{Came}
use Rattle.node_logs.specs.node_log_tie.Sight.{Asker, BodySeen, PacketSeen}
use Rattle.node_logs.proofs.node_log_tie.Sight.{EffectSeen, Later}
use Rattle.node_logs.proofs.node_log_tie.Sights as sights
use Rattle.node_logs.specs.node_log_tie.CleanerEvents.{OpeningSeen, CleanerSeen, CleanerOwed, CleanerGoes}
use Rattle.node_logs.proofs.node_log_tie.Cleaning.{CleaningSent}
use Rattle.node_logs.proofs.node_log_tie.CleanerJobs as jobs
use Rattle.node_logs.proofs.node_log_tie.CleanerOpening.{ProgressSeen, WentOn, hello_does, tick_heard, packet_heard, begins as opening_begun}
use Rattle.node_logs.proofs.node_log_tie.Emptied.{Goes, says_once, goes_then, at_once, stays, only_deleted, all_own, as_seen, all_acts}
use Rattle.node_logs.proofs.node_log_tie.Going.{run_later}
use Rattle.node_logs.specs.node_log_tie.CleanerStores.{StoresItsOwn}
use Rattle.node_logs.proofs.node_log_tie.Lists.{packets_all}
use Rattle.node_logs.proofs.node_log_tie.RebuildEvents.{all_listed}

module _ (g : Setting) (owner : Asker) (other : g.log ≡ cleaner_log → ⊥) (away : owner.node ≡ TheCleaner → ⊥) (start : Net) (first : cleaners.Cleaner) (what : Do)
    (owed : CleanerOwed g owner start what) where
  abbrev GoesTo : Net → Went_to → Type 0
  GoesTo n d = Goes g owner n d.state d.outs

  -- what came is seen, however far the small world went on
  came_so : (n : Net) → Later start n → (packet : Packet) (said : Body) → Came what packet said → BodySeen g owner n packet.from TheCleaner said
  came_so n later packet said came =
      let owes : CleanerOwed g owner start (Deliver packet) = subst (CleanerOwed g owner start) came.event owed in
      sights.seen_later g owner start n later packet.from TheCleaner said
      (subst (BodySeen g owner start packet.from TheCleaner) came.says (subst (λ to. BodySeen g owner start packet.from to packet.body) owes.0 owes.1))

  given_so : (n : Net) → Later start n → (e : Emptying) (given : In) → Given first what e given → CleaningSent g n given
  given_so n later e given (WelcomeCame packet m groups came known) = (came_so n later packet (body.Welcome m) came).low
  given_so n later e given (ListCame packet server m same came from) = all_listed g n m.held (came_so n later packet (body.Listed m) came)
  given_so n later e given _ = tt

  items_so : (n : Net) (p : Phase) (items : Items) → CleanerSeen g n p → CleanerSeen g n (noted p items)
  items_so n (Down l) items seen = tt
  items_so n (Opening l o) items seen = seen
  items_so n (Serving e) items seen = record { log = seen.log; job = seen.job }

  -- ---- an opening

  comes_so : (n : Net) (l : Lasting) (p : Progress) → ProgressSeen p → CleanerSeen g n (came_to l p)
  comes_so n l (progress.Opening o) seen = seen
  comes_so n l (progress.Opened o) seen = record { log = seen; job = tt }
  comes_so n l (progress.Lost seg) seen = tt

  goes_on : (n : Net) (l : Lasting) (x : Went) → WentOn g owner other away n x
      → Goes g owner n (came_to (record l { questions = x.questions }) x.progress) x.effects
  goes_on n l x on =
      says_once g owner n (came_to (record l { questions = x.questions }) x.progress) x.effects
      (comes_so n (record l { questions = x.questions }) x.progress on.seen) on.does

  opens_so : (n : Net) (l : Lasting) (o : openings.Opening) (x : Went) → OpenedBy what l o x → OpeningSeen o
      → Goes g owner n (came_to (record l { questions = x.questions }) x.progress) x.effects
  opens_so n l o x (PacketCame packet event) seen = goes_on n l x (packet_heard g owner other away n o l.questions packet seen)
  opens_so n l o x (TimeWent event) seen = goes_on n l x (tick_heard g owner other away n o l.questions seen)

  restarts_so : (n : Net) (servers : ℕ) (l : Lasting) (number : ℕ) → GoesTo n (restart servers l number)
  unfolding restart
  restarts_so n servers l number =
      let life : Lasting = next_life l number in
      let w : WentOn g owner other away n (opening.on_start (owner_of life) servers life.questions) =
      opening_begun g owner other away n (owner_of life) servers life.questions refl in
      says_once g owner n (restart servers l number).state (restart servers l number).outs w.seen w.does

  -- ---- the moves

  move_so : (n : Net) → Later start n → (p : Phase) (d : Went_to) → Move first what p d → CleanerSeen g n p → GoesTo n d
  move_so n later p d (NotesItems items for) seen = says_once g owner n (noted p items) [] (items_so n p items seen) tt
  move_so n later p d (AnswersItem number a due) seen = says_once g owner n p (Answers number a ∷ []) seen (tt, tt)
  move_so n later p d Falls seen = says_once g owner n (Down (lasting_of p)) [] tt tt
  move_so n later p d (Restarts {l = l} number taken event following) seen = restarts_so n first.peers.servers l number
  move_so n later p d (Opens {l = l} {o = o} x taken same by) seen = opens_so n l o x by seen
  move_so n later p d (BeginsJob {e = e} count event) seen =
      stays g owner n (record e { job = Some (begun_job e.promised count) }) (record { log = seen.log; job = tt })
  move_so n later p d (Cleans {e = e} given came) seen = jobs.job_goes_on g owner other away n e given seen (given_so n later e given came)
  move_so n later p d (LogTakes {e = e} i came) seen = jobs.log_takes g owner other away n e i seen
  move_so n later p d (TakesMaps {e = e} packet news brought) seen =
      stays g owner n (record e { maps = maps_take e.maps news }) (record { log = seen.log; job = seen.job })
  move_so n later p d (Promises {e = e} slot epoch manager by low) seen =
      stays g owner n (emptying_promise e slot epoch manager) (jobs.promised g owner other away n e slot epoch manager seen)
  move_so n later p d (Reports {before = e} packet manager m same came from low) seen =
      at_once g owner n (emptying_promise e m.slot m.epoch manager) _ seen (tt, tt)
  move_so n later p d (Acknowledges {e = e} packet m came) seen =
      stays g owner n (record e { feed = feed.acknowledged e.feed m.slot m.applied }) (record { log = seen.log; job = seen.job })
  move_so n later p d (IsGreeted {e = e}) seen =
      stays g owner n (record e { job = note_greeted e.job })
      (record { log = seen.log; job = jobs.job_kept g owner other away n note_greeted tt (λ job its. its) e.job seen.job })
  move_so n later p d (AsksForMaps {e = e} taken same) seen =
      at_once g owner n (with_questions e (draw e.lasting.questions)) (ask_for_maps e).outs (record { log = seen.log; job = seen.job })
      (hello_does g owner other away n e.lasting.inc (next_ask e.lasting.questions), tt)
  move_so n later p d (TellsDeltas {e = e}) seen =
      at_once g owner n e (push_all e.promised.managers e.feed) seen (jobs.deltas_pushed g owner other away n e.promised.managers e.feed)
  move_so n later p d (HearsServer {e = e} ask server t tells) seen =
      stays g owner n (emptying_hear e ask server t).state (jobs.hears g owner other away n e ask server t seen)
  move_so n later p d (LeavesReading {e = e}) seen =
      stays g owner n (left_reading e) (record { log = seen.log; job = jobs.job_kept g owner other away n note_read tt (λ job its. its) e.job seen.job })
  move_so n later p d (ReadsOn {e = e}) seen =
      let f : Emptying = with_questions e (draw e.lasting.questions) in
      stays g owner n (confirmed f (next_ask e.lasting.questions)).state
      (jobs.reads_on g owner other away n f (next_ask e.lasting.questions) (record { log = seen.log; job = seen.job }))
  move_so n later p d (Fetches {e = e}) seen =
      at_once g owner n e (fetches (hand_of e.job)) seen (jobs.fetched g owner other away n (hand_of e.job))

  moves_so : (n : Net) → Later start n → (p : Phase) (d : Went_to) → Moves first what p d → CleanerSeen g n p → GoesTo n d
  moves_so n later p d Rests seen = says_once g owner n p [] seen tt
  moves_so n later p d (Last move) seen = move_so n later p d move seen
  moves_so n later p d (Then now e move rest) seen =
      let w : GoesTo n now = move_so n later p now move seen in
      goes_then g owner n now.state e.state now.outs e.outs w
      (moves_so w.next (sights.then_later start n w.next later (run_later g n w.next w.drop.runs)) now.state e rest w.seen)

  -- ---- the event

  all_so : CleanerSeen g start first.phase → GoesTo start (takes first.peers first.phase what)
  all_so seen = moves_so start (sights.at_once start) first.phase (takes first.peers first.phase what) (cleaner_events_are_moves first what) seen

  pub cleaner_goes : CleanerSeen g start first.phase → CleanerGoes g owner start first what
  cleaner_goes seen =
      let w : GoesTo start (takes first.peers first.phase what) = all_so seen in
      let outs = (takes first.peers first.phase what).outs in
      record {
        next = w.next;
        runs = w.drop.runs;
        seen = w.seen;
        sends = packets_all (PacketSeen g owner w.next) (EffectSeen g owner w.next TheCleaner) TheCleaner (λ to said does. does) outs
            (as_seen g owner w.next outs w.does);
        drops = all_acts g owner w.next outs w.does;
        only = only_deleted g owner start w.next outs w.only;
        rest = w.drop.rest;
        none = w.drop.none;
      }

  pub cleaner_stores : CleanerSeen g start first.phase → All (λ (p : Packet). StoresItsOwn p.body) (cleaner_step first what).packets
  cleaner_stores seen =
      (let w : GoesTo start (takes first.peers first.phase what) = all_so seen in all_own g owner w.next (takes first.peers first.phase what).outs w.does)

-- at the start
pub cleaner_begins : (g : Setting) (n : Net) (setup : Setup) (works : List Work) → CleanerSeen g n (cleaner_start setup works).phase
cleaner_begins g n setup works = record { log = record { log = refl; flight = tt }; job = tt }
