-- What each event makes of the cleaner, in each of its phases.
use Rattle.headline.specs.Filed.{Filed, Texts}
use Rattle.segment_format.specs.declared.segment.Segment.{Segment}
use Rattle.std.proofs.Common.{◌≡◌, ◌≤◌, ◌<◌, ℕ, List, [], ◌∷◌, ◌++◌, Option, Some, None, length, refl, sym, ap, subst, ◌∙◌, arith}
use Rattle.std.specs.List.{AllByRecursion}
use Rattle.cleaner_serving.specs.declared.emptying.Emptying.{Emptying}
use Rattle.cleaner_serving.specs.EmptyingEvents.{on_clean, on_packet, on_tick}
use Rattle.cleaner_serving.specs.Jobs.{Done}
use Rattle.cleaner_node.specs.declared.cleaner.Phase.{Phase}
use Rattle.cleaner_node.specs.declared.cleaner.Phase.TheVariants.{Down, Opening, Serving}
use Rattle.cleaner_node.specs.declared.cleaner.Wish.{Wish}
use Rattle.cleaner_node.specs.declared.cleaner.Wish.TheVariants.{Crash, Restart, Clean}
use Rattle.cleaner_node.specs.CleanerEvents.{Went_to, serves_on, crash, next_life, owner_of, back, after_opening, opened_on, restart, cleaner_answer, down_wishes, opening_wishes, serving_wishes, wish_at, begun_life, down_at, opening_at, serving_at, on_begin, cleaner_hear, on_deliver, on_time, happens, phase_has_room, takes}
use Rattle.cleaner_job.specs.declared.lasting.Lasting.{Lasting}
use Rattle.index_tie.specs.Net.{Net}
use Rattle.index_tie.specs.Net.Happens.{CleanerFiles, JobBegins, Promises}
use Rattle.index_tie.specs.Net.Runs.{Begun, On}
use Rattle.log_owner.specs.Behaves.{MayAct, MaySay, MayDo}
use Rattle.log_owner.specs.declared.ended.Owner.{Owner}
use Rattle.log_owner.specs.declared.opened.Opened.{Opened}
use Rattle.log_owner.specs.declared.opened.Progress.{Progress}
use Rattle.log_owner.specs.declared.opened.Progress.TheVariants as progress
use Rattle.log_owner.specs.declared.opening.Opening as openings
use Rattle.log_owner.specs.declared.opening.Stage.{Stage}
use Rattle.log_owner.specs.declared.opening.Stage.TheVariants as stage
use Rattle.log_owner.specs.Opening as opening
use Rattle.log_owner.specs.Opening.{Went}
use Rattle.log_owner.specs.Promised.{epoch_of}
use Rattle.log_owner.specs.Sending.{push_all}
use Rattle.log_owner.proofs.Behaving as behaving
use Rattle.node_base.specs.Beginning.{next_item, items_answer, answers_unanswered}
use Rattle.node_base.specs.declared.effects.Effect.{Effect}
use Rattle.node_base.specs.declared.effects.Effect.TheVariants.{Send, Answer as Answers, Lose, Does}
use Rattle.node_base.specs.declared.peers.Peers.{Peers}
use Rattle.node_base.specs.Shape.{is_well_formed}
use Rattle.node_slots.specs.node_index_tie.Sight.{Questions, held_in}
use Rattle.log_protocol.specs.Tables.{In}
use Rattle.stripe_cleaner.specs.CleaningState.{CleaningState}
use Rattle.stripe_cleaner.specs.Promises.{promised_at}
use Rattle.version_model.specs.declared.act.Act.{Act}
use Rattle.version_model.specs.declared.act.Act.TheVariants as act
use Rattle.version_model.specs.declared.answer.Answer.{Answer}
use Rattle.version_model.specs.declared.answer.Answer.TheVariants as answer
use Rattle.wire_msg.specs.declared.body.Body.{Body}
use Rattle.wire_msg.specs.declared.body.Body.TheVariants as body
use Rattle.wire_msg.specs.declared.packet.Do.{Do}
use Rattle.wire_msg.specs.declared.packet.Do.TheVariants.{Begin, Deliver, Tick}
use Rattle.wire_msg.specs.declared.packet.Packet.{Packet as Sent}
use Rattle.xfs_base.proofs.Booleans.{by_test}
use Rattle.xfs_base.specs.declared.node.NodeId.{NodeId}
use Rattle.xfs_base.specs.Steps.{still}
use Rattle.xfs_base.proofs.Alls.{all_append, all_weaker}
use Rattle.node_slots.specs.owner_index_tie.CleanerEvents.{CleanerRests, IsAway, PhaseAgrees, IsMoved, CleanerSays, CleanerActs, CleanerDoes, EventGets, PacketGets, ReopensOn, WritesTexts}
use Rattle.node_slots.specs.owner_index_tie.CleanerMoves.{CleanerMoves}
use Rattle.node_slots.specs.owner_index_tie.Filing.{filing, filed_after}
use Rattle.node_slots.specs.owner_index_tie.Owners.{LogFits, OpeningSeen, StageWrites}
use Rattle.node_slots.proofs.owner_index_tie.CleanerBegins.{clean_so}
use Rattle.node_slots.proofs.owner_index_tie.CleanerFrames as frames
use Rattle.node_slots.proofs.owner_index_tie.CleanerFrames.{Grows, Stands}
use Rattle.node_slots.proofs.owner_index_tie.CleanerLog.{pushes_plain}
use Rattle.node_slots.proofs.owner_index_tie.CleanerSays.{told_nothing, jobless, grows_jobless, answers_plain}
use Rattle.node_slots.proofs.owner_index_tie.CleanerServing as serving
use Rattle.node_slots.proofs.owner_index_tie.Feeds.{same_owner, same_fits}
use Rattle.node_slots.proofs.owner_index_tie.Frames as effects
use Rattle.node_slots.proofs.owner_index_tie.OpeningLog as log
use Rattle.node_slots.proofs.owner_index_tie.Openings as events
use Rattle.node_slots.proofs.owner_index_tie.Running.{runs_after}

-- ---- what an opening does

module _ (part : ℕ) (asked : Questions) (n : Net) (since : ℕ) (owner : Owner) where
  opener_says : (to : NodeId) (b : Body) → MaySay owner to b → CleanerSays part asked n since b
  opener_says to (body.Hello m) may = tt
  opener_says to (body.Fence m) may = tt
  opener_says to (body.Fetch m) may = tt
  opener_says to (body.Store m) may = tt
  opener_says to _ may = absurd may

  opener_acts : (a : Act) → MayAct a → CleanerActs part asked n since a
  opener_acts (act.Filed name) may = tt
  opener_acts _ may = absurd may

  opener_does : (e : Effect) → MayDo owner e → CleanerDoes part asked n since e
  opener_does (Send to b) may = opener_says to b may
  opener_does (Answers item a) may = tt
  opener_does (Lose seg) may = tt
  opener_does (Does a) may = opener_acts a may

  opener_all : (es : List Effect) → AllByRecursion (MayDo owner) es → AllByRecursion (CleanerDoes part asked n since) es
  opener_all es all = all_weaker (MayDo owner) (CleanerDoes part asked n since) opener_does es all

module _ (New : Filed → Segment → Type 0) (part : ℕ) (texts : Texts) (n : Net) (small : part < 8) where
  abbrev since : ℕ
  since = n.filed.head 9

  abbrev At : Net → Emptying → Type 0
  At v e = Stands New part texts since n.sent v e.log e.feed e.promised e.job

  -- it doesn't serve, and has promised nothing more
  abbrev Rests : Net → Type 0
  Rests v = CleanerRests part v × (v.promised ≡ n.promised)

  -- the cleaner, as it is seen then; that what is in flight is the text of its name is apart
  abbrev pub PhaseSo : Net → Phase → Type 0
  PhaseSo v (Down l) = Rests v
  PhaseSo v (Opening l o) = Rests v × OpeningSeen 9 o
  PhaseSo v (Serving e) = At v e

  abbrev Goes : Questions → Net → Went_to → Type 0
  Goes asked v w = frames.Goes_to New part texts since n.sent PhaseSo asked v w

  quiet : (asked : Questions) (v : Net) (p : Phase) (outs : List Effect) → PhaseSo v p → frames.AllPlain New part texts since n.sent asked v outs
      → Goes asked v (record { state = p; outs = outs })
  quiet asked v p outs h all = frames.went_quiet New part texts since n.sent asked v PhaseSo p outs h all

  cleaner_answer_so : (asked : Questions) (v : Net) (p : Phase) (number : ℕ) (a : Answer) → PhaseSo v p → Goes asked v (cleaner_answer p number a)
  cleaner_answer_so asked v p number a h = quiet asked v p (Answers number a ∷ []) h (tt, tt)

  serves_so : (asked : Questions) (v : Net) (d : Done) → frames.Goes New part texts since n.sent asked v d → Goes asked v (serves_on d)
  serves_so asked v d goes = (
    λ owed. (let w = goes.0 owed in record {
      next = w.next;
      runs = w.runs;
      grows = w.grows;
      filed = w.filed;
      questions = w.questions;
      kept = w.kept;
      stands = w.stands;
      says = w.says;
    }),
    goes.1,
  )

  -- ---- falls and restarts

  crash_plain : (asked : Questions) (v : Net) (l : Lasting) (number : ℕ)
      → frames.AllPlain New part texts since n.sent asked v (answers_unanswered l.items.unanswered answer.Cut ++ Answers number answer.Done ∷ [])
  crash_plain asked v l number =
      all_append (frames.Plain New part texts since n.sent asked v) (answers_unanswered l.items.unanswered answer.Cut) (Answers number answer.Done ∷ [])
      (answers_plain New part texts since n.sent asked v l.items.unanswered answer.Cut) (tt, tt)

  crash_so : (asked : Questions) (v : Net) (l : Lasting) (number : ℕ) → Rests v → Goes asked v (crash l number)
  unfolding crash
  crash_so asked v l number h = quiet asked v (Down (record l { items = items_answer l.items })) (crash l number).outs h (crash_plain asked v l number)

  serving_crashes : (asked : Questions) (v : Net) (e : Emptying) (number : ℕ) → At v e → v.promised ≡ n.promised → Goes asked v (crash e.lasting number)
  serving_crashes asked v e number h same =
      frames.went_after New part texts since n.sent PhaseSo asked asked v (jobless New part texts since n.sent v) (crash e.lasting number)
      (On Begun (JobBegins 0))
      (grows_jobless New part texts since n.sent v) refl
      (λ x fact. fact)
      (crash_so asked (jobless New part texts since n.sent v) e.lasting number
      (record { fits = record { fit = h.seen.owner.feed.fit; short = h.seen.owner.feed.short }; job = told_nothing 0 part }, same))

  restart_so : (asked : Questions) (v : Net) (servers : ℕ) (l : Lasting) (number : ℕ) → Rests v → Goes asked v (restart servers l number)
  unfolding restart
  restart_so asked v servers l number h =
      let r = next_life l number in
      quiet asked v (restart servers l number).state (restart servers l number).outs (h, events.first_so 9 (owner_of r) servers r.questions refl) (tt, tt)

  -- ---- the end of an opening

  -- what is filed is another, and nothing else
  pub record Files (v : Net) (p : Progress) : Type 0 where
    pub only_files : v ≡ filing n v.filed
    pub seen : log.ProgressSeen part n 9 since v.filed p

  -- where the log is open then, its maps are no older than what was promised
  abbrev Newer : Phase → Type 0
  Newer (Down l) = Unit {0}
  Newer (Opening l o) = Unit {0}
  Newer (Serving e) = (length e.promised.epochs ≡ 8) × (n.promised ≤ epoch_of e.promised part)

  fits_in : (v : Net) → v ≡ filing n v.filed → LogFits part (filing n v.filed) 9 → LogFits part v 9
  fits_in v fact k = same_fits part (filing n v.filed) v 9 (record { head = refl; segment = λ q some limit. refl }) k

  job_in : (v : Net) → v ≡ filing n v.filed → v.job ≡ n.job
  job_in v fact = ap (λ (x : Net). x.job) fact

  promised_in : (v : Net) → v ≡ filing n v.filed → v.promised ≡ n.promised
  promised_in v fact = ap (λ (x : Net). x.promised) fact

  sent_in : (v : Net) → v ≡ filing n v.filed → v.sent ≡ n.sent
  sent_in v fact = ap (λ (x : Net). x.sent) fact

  -- what is filed there is moved
  abbrev pub IsMovedThere : Type 0
  IsMovedThere = (f : Filed) (s : Segment) → New f s → IsMoved part n.sent f s

  opening_went : (moved : IsMovedThere) (asked : Questions) (owner : Owner) (w : Went)
      → effects.Goes New part texts n 9 since (log.ProgressSeen part n 9 since) n.filed (record { state = w.progress; outs = w.effects })
      → AllByRecursion (MayDo owner) w.effects → frames.Goes_to New part texts since n.sent Files asked n (record { state = w.progress; outs = w.effects })
  opening_went moved asked owner w goes may = (λ owed. went owed, λ asks all. goes.1 all)
    where
      went : frames.Owed New part texts since n.sent n w.effects → frames.Went New part texts since n.sent asked n Files w.progress w.effects
      went owed =
          let m = filing n (filed_after texts 9 n.filed w.effects) in
          let k = goes.0 owed.files in
          record {
            next = m;
            runs = runs_after New part texts (held_in part texts) n 9
                (λ g name it. CleanerFiles (texts name) it.segment (moved g (texts name) it.new)) n.filed w.effects owed.files;
            grows = record {
              slots = refl;
              epoch = refl;
              horizon = refl;
              parts = refl;
              promised = let p = n.promised in omega arith;
              filed = effects.more_after texts 9 n.filed w.effects;
              sent = λ x fact. fact;
              deleted = λ name fact. fact;
            };
            filed = refl;
            questions = asked;
            kept = λ x fact. fact;
            stands = record { only_files = refl; seen = k.stands };
            says = opener_all part asked m since owner w.effects may;
          }

  module _ (none : promised_at n.job.promised part ≡ 0) where
    none_in : (v : Net) → v ≡ filing n v.filed → promised_at v.job.promised part ≡ 0
    none_in v fact = ap (λ (x : CleaningState). promised_at x.promised part) (job_in v fact) ∙ none

    rests_in : (v : Net) → v ≡ filing n v.filed → LogFits part (filing n v.filed) 9 → Rests v
    rests_in v fact fits = (record { fits = fits_in v fact fits; job = none_in v fact }, promised_in v fact)

    back_so : (asked : Questions) (v : Net) (l : Lasting) (o : Opened) → Files v (progress.Opened o) → length o.promised.epochs ≡ 8
        → n.promised ≤ epoch_of o.promised part
        → Goes asked v (back l o)
    back_so asked v l o k eight newer =
        let epoch = epoch_of o.promised part in
        let m = record v { promised = epoch } in
        let low : v.promised ≤ epoch = (let a = promised_in v k.only_files in omega arith) in
        let grows : Grows v m = record {
          slots = refl;
          epoch = refl;
          horizon = refl;
          parts = refl;
          promised = low;
          filed = effects.more_itself v.filed;
          sent = λ x fact. fact;
          deleted = λ name fact. fact;
        } in
        let owner = same_owner part (filing n v.filed) m 9 9 o.log o.feed (record { head = refl; segment = λ q some limit. refl }) k.seen.seen in
        let at : PhaseSo m (back l o).state = record {
          late = k.seen.late;
          heard = λ x fact. subst (λ xs. In x xs) (sym (sent_in v k.only_files)) fact;
          seen = record { owner = owner; eight = eight; promised = refl; job = none_in v k.only_files };
        } in
        frames.went_after New part texts since n.sent PhaseSo asked asked v m (back l o) (On Begun (Promises epoch low (none_in v k.only_files))) grows refl
        (λ x fact. fact)
        (quiet asked m (back l o).state (back l o).outs at
        (all_append (frames.Plain New part texts since n.sent asked m) (push_all o.promised.managers o.feed) _
        (pushes_plain New part texts since n.sent asked m o.promised.managers o.feed owner.feed)
        (answers_plain New part texts since n.sent asked m l.items.unanswered answer.Done)))

    after_opening_so : (asked : Questions) (v : Net) (l : Lasting) (p : Progress) → Files v p → Newer (after_opening l p).state
        → Goes asked v (after_opening l p)
    unfolding after_opening
    after_opening_so asked v l (progress.Opening o) k newer = quiet asked v (Opening l o) [] (rests_in v k.only_files k.seen.0, k.seen.1) tt
    after_opening_so asked v l (progress.Opened o) k newer = back_so asked v l o k newer.0 newer.1
    after_opening_so asked v l (progress.Lost seg) k newer =
        quiet asked v (Down (record l { items = items_answer l.items })) (answers_unanswered l.items.unanswered (answer.Lost seg)) (rests_in v k.only_files k.seen)
        (answers_plain New part texts since n.sent asked v l.items.unanswered (answer.Lost seg))

    opened_on_so : (moved : IsMovedThere) (asked : Questions) (owner : Owner) (l : Lasting) (w : Went)
        → effects.Goes New part texts n 9 since (log.ProgressSeen part n 9 since) n.filed (record { state = w.progress; outs = w.effects })
        → AllByRecursion (MayDo owner) w.effects → Newer (opened_on l w).state → Goes asked n (opened_on l w)
    opened_on_so moved asked owner l w goes may newer =
        let m = record l { questions = w.questions } in
        frames.went_through New part texts since n.sent Files PhaseSo asked n (record { state = w.progress; outs = w.effects }) (after_opening m w.progress)
        (opening_went moved asked owner w goes may) (λ x. after_opening_so x.questions x.next m w.progress x.stands newer)

  -- ---- the next item begins

  down_wish : (asked : Questions) (servers : ℕ) (l : Lasting) (number : ℕ) (wish : Wish) → Rests n
      → Goes asked n (down_wishes servers l number wish)
  down_wish asked servers l number Restart h = restart_so asked n servers l number h
  down_wish asked servers l number Crash h = cleaner_answer_so asked n (Down l) number answer.Down h
  down_wish asked servers l number (Clean count) h = cleaner_answer_so asked n (Down l) number answer.Down h

  opening_wish : (asked : Questions) (l : Lasting) (o : openings.Opening) (number : ℕ) (wish : Wish) → PhaseSo n (Opening l o)
      → Goes asked n (opening_wishes l o number wish)
  opening_wish asked l o number Crash h = crash_so asked n l number h.0
  opening_wish asked l o number Restart h = cleaner_answer_so asked n (Opening l o) number answer.Up h
  opening_wish asked l o number (Clean count) h = cleaner_answer_so asked n (Opening l o) number answer.Down h

  serving_wish : (asked : Questions) (e : Emptying) (number : ℕ) (wish : Wish) → At n e → Goes asked n (serving_wishes e number wish)
  serving_wish asked e number Crash h = serving_crashes asked n e number h refl
  serving_wish asked e number Restart h = cleaner_answer_so asked n (Serving e) number answer.Up h
  serving_wish asked e number (Clean count) h = serves_so asked n (on_clean e number count)
      (clean_so New part texts since n.sent small asked n e number count h)

  down_item : (asked : Questions) (servers : ℕ) (l : Lasting) (item : Option ℕ) → Rests n → Goes asked n (down_at servers l item)
  down_item asked servers l None h = quiet asked n (Down l) [] h tt
  down_item asked servers l (Some number) h = down_wish asked servers l number (wish_at l.items number) h

  opening_item : (asked : Questions) (l : Lasting) (o : openings.Opening) (item : Option ℕ) → PhaseSo n (Opening l o) → Goes asked n (opening_at l o item)
  opening_item asked l o None h = quiet asked n (Opening l o) [] h tt
  opening_item asked l o (Some number) h = opening_wish asked l o number (wish_at l.items number) h

  serving_item : (asked : Questions) (e : Emptying) (item : Option ℕ) → At n e → Goes asked n (serving_at e item)
  serving_item asked e None h = quiet asked n (Serving e) [] h tt
  serving_item asked e (Some number) h = serving_wish asked e number (wish_at e.lasting.items number) h

  begin_so : (asked : Questions) (servers : ℕ) (p : Phase) → PhaseSo n p → Goes asked n (on_begin servers p)
  unfolding on_begin
  begin_so asked servers (Down l) h = down_item asked servers (begun_life l) (next_item l.items) h
  begin_so asked servers (Opening l o) h = opening_item asked (begun_life l) o (next_item l.items) h
  begin_so asked servers (Serving e) h = serving_item asked (record e { lasting = begun_life e.lasting }) (next_item e.lasting.items) h

  -- ---- packets and time

  -- with what is in flight
  abbrev pub PhaseText : Phase → Type 0
  PhaseText p = PhaseSo n p × (WritesTexts part texts n p × CleanerMoves part n.sent p)

  -- in an opening what is filed is moved
  abbrev pub OpensMoved : Phase → Type 0
  OpensMoved (Opening l o) = IsMovedThere
  OpensMoved (Down l) = Unit {0}
  OpensMoved (Serving e) = Unit {0}

  abbrev pub Goes_on : Questions → Phase → Went_to → Type 0
  Goes_on asked p w = ReopensOn part texts n p w.state → Goes asked n w

  is_stage : (x : Stage) → StageWrites texts x → log.IsStage texts 9 n.filed x x
  is_stage (stage.Scanning s) text = tt
  is_stage (stage.Settling s) text = (text, λ back. back)

  gets_end : (l : Lasting) (o : openings.Opening) (m : Lasting) (p : Progress) → ReopensOn part texts n (Opening l o) (after_opening m p).state
      → log.EndGets texts 9 n.filed o.stage p
  unfolding after_opening
  gets_end l o m (progress.Opening x) gets = tt
  gets_end l o m (progress.Opened r) gets = gets.0
  gets_end l o m (progress.Lost seg) gets = tt

  gets_newer : (l : Lasting) (o : openings.Opening) (q : Phase) → ReopensOn part texts n (Opening l o) q → Newer q
  gets_newer l o (Down m) gets = tt
  gets_newer l o (Opening m x) gets = tt
  gets_newer l o (Serving e) gets = gets.1

  opens_to : (moved : IsMovedThere) (asked : Questions) (owner : Owner) (l : Lasting) (o : openings.Opening) (w : Went) → PhaseSo n (Opening l o)
      → log.WentSo New part texts n 9 since n.filed o.stage w → AllByRecursion (MayDo owner) w.effects
      → Goes_on asked (Opening l o) (opened_on l w)
  opens_to moved asked owner l o w h goes may gets =
      opened_on_so h.0.0.job moved asked owner l w (goes (gets_end l o (record l { questions = w.questions }) w.progress gets)) may
      (gets_newer l o (opened_on l w).state gets)

  cleaner_hear_so : (asked : Questions) (p : Phase) (packet : Sent) → OpensMoved p → PhaseText p → PacketGets part n p packet → Goes_on asked p (cleaner_hear p packet)
  unfolding cleaner_hear
  cleaner_hear_so asked (Down l) packet moved h gets = λ reopens. quiet asked n (Down l) [] h.0 tt
  cleaner_hear_so asked (Opening l o) packet moved h gets =
      opens_to moved asked o.known.owner l o (opening.opening_take o l.questions packet) h.0
      (events.packet_goes New part texts n 9 since n.filed (omega arith) h.0.0.0.fits o.stage o l.questions packet h.0.1 (is_stage o.stage h.1.0))
      (behaving.packet_so o l.questions packet).does
  cleaner_hear_so asked (Serving e) packet moved h gets = λ reopens. serves_so asked n (on_packet e packet)
      (serving.packet_so New part texts since n.sent small asked n e h.0 (h.1.0, h.1.1.0.flight) packet gets)

  delivers_so : (asked : Questions) (peers : Peers) (p : Phase) (packet : Sent) → OpensMoved p → PhaseText p → PacketGets part n p packet
      → Goes_on asked p (on_deliver peers p packet)
  unfolding on_deliver
  delivers_so asked peers p packet moved h gets =
      by_test (Goes_on asked p) (is_well_formed peers packet) (cleaner_hear p packet) (still p) (λ _. cleaner_hear_so asked p packet moved h gets)
      (λ _ reopens. quiet asked n p [] h.0 tt)

  time_so : (asked : Questions) (p : Phase) → OpensMoved p → PhaseText p → Goes_on asked p (on_time p)
  unfolding on_time
  time_so asked (Down l) moved h = λ reopens. quiet asked n (Down l) [] h.0 tt
  time_so asked (Opening l o) moved h =
      opens_to moved asked o.known.owner l o (opening.on_tick o l.questions) h.0
      (events.tick_goes New part texts n 9 since n.filed (omega arith) h.0.0.0.fits o.stage o l.questions h.0.1 (is_stage o.stage h.1.0))
      (behaving.tick_so o l.questions).does
  time_so asked (Serving e) moved h = λ reopens. serves_so asked n (on_tick e)
      (serving.time_so New part texts since n.sent small asked n e h.0 (h.1.0, h.1.1.0.flight))

  happens_so : (asked : Questions) (peers : Peers) (p : Phase) (what : Do) → OpensMoved p → PhaseText p → EventGets part n p what
      → Goes_on asked p (happens peers p what)
  happens_so asked peers p Begin moved h gets = λ reopens. begin_so asked peers.servers p h.0
  happens_so asked peers p (Deliver packet) moved h gets = delivers_so asked peers p packet moved h gets.0
  happens_so asked peers p Tick moved h gets = time_so asked p moved h

  pub takes_so : (asked : Questions) (peers : Peers) (p : Phase) (what : Do) → OpensMoved p → PhaseText p → EventGets part n p what
      → Goes_on asked p (takes peers p what)
  takes_so asked peers p what moved h gets =
      by_test (Goes_on asked p) (phase_has_room p) (happens peers p what) (still p) (λ _. happens_so asked peers p what moved h gets)
      (λ _ reopens. quiet asked n p [] h.0 tt)

  -- ---- what it is there

  pub stands : (p : Phase) → PhaseAgrees part n texts p → CleanerMoves part n.sent p → PhaseText p
  stands (Down l) h moves = ((h, refl), (tt, moves))
  stands (Opening l o) h moves = (((h.0, refl), h.1.0), (h.1.1, moves))
  stands (Serving e) h moves = (record { late = omega arith; heard = λ x fact. fact; seen = h.0 }, (h.1, moves))

  pub agrees : (v : Net) (p : Phase) → PhaseSo v p → WritesTexts part texts n p → PhaseAgrees part v texts p
  agrees v (Down l) h text = h.0
  agrees v (Opening l o) h text = (h.0.0, (h.1, text))
  agrees v (Serving e) h text = (h.seen, text)

  pub away : (v : Net) (p : Phase) → PhaseSo v p → IsAway p → v.promised ≡ n.promised
  away v (Down l) h none = h.1
  away v (Opening l o) h none = h.0.1
  away v (Serving e) h none = absurd none
