-- What a cleaner that serves does for its job, in the small world of its own log: what it asks, puts into its log and deletes.
use Rattle.std.proofs.Common.{◌≡◌, ⊎_elim, ◌⊎◌, ◌≤◌, ℕ, Bool, true, false, List, [], ◌∷◌, Option, Some, None, refl, sym, ap, ◌∙◌, subst, inl, inr, arith}
use Rattle.std.specs.Prelude.{IfSome}
use Rattle.std.specs.List.{AllByRecursion, flat_map}
use Rattle.xfs_base.proofs.Booleans.{by_test, contrary}
use Rattle.xfs_base.specs.declared.block.BlockId.{BlockId}
use Rattle.xfs_base.specs.declared.entry.Entry.{Entry}
use Rattle.xfs_base.specs.declared.entry.Place.{Place}
use Rattle.xfs_base.specs.declared.node.NodeId.TheVariants as node
use Rattle.xfs_base.specs.declared.segment.SegName.{SegName}
use Rattle.xfs_base.specs.declared.segment.SegRef.{SegRef}
use Rattle.xfs_base.specs.Steps.{still, steps}
use Rattle.xfs_base.proofs.Alls.{all_append, all_map}
use Rattle.segment_format.specs.declared.segment.Segment.{Segment}
use Rattle.segment_format.specs.Ranges.{FitsRow}
use Rattle.group_map.specs.declared.group.Group.{Group}
use Rattle.group_map.specs.GroupMapState.{GroupMapState}
use Rattle.client_log.specs.declared.input.In.{In as LogIn}
use Rattle.client_log.specs.declared.input.In.TheVariants as log_in
use Rattle.client_log.specs.declared.output.Out.{Out as LogOut}
use Rattle.client_log.specs.declared.output.Out.TheVariants as log_out
use Rattle.client_log.specs.Transition as log
use Rattle.log_owner.specs.Opening.{stored}
use Rattle.log_owner.specs.Sending.{hello, fetch}
use Rattle.node_base.specs.Asking.{draw, next_ask}
use Rattle.node_base.specs.declared.effects.Effect.TheVariants.{Send}
use Rattle.node_base.specs.declared.questions.Questions.{Questions}
use Rattle.node_base.specs.Room.{has_room}
use Rattle.segment_reading.specs.declared.reading.Next.{Next}
use Rattle.segment_reading.specs.declared.reading.Next.TheVariants as next
use Rattle.segment_reading.specs.Reading.{ReadingState, reading_unanswered}
use Rattle.stripe_cleaner.specs.declared.input.In.{In as Input}
use Rattle.stripe_cleaner.specs.declared.input.In.TheVariants as input
use Rattle.stripe_cleaner.specs.declared.output.Out.{Out}
use Rattle.stripe_cleaner.specs.declared.output.Out.TheVariants as out
use Rattle.stripe_cleaner.specs.declared.phase.Phase.{Phase}
use Rattle.stripe_cleaner.specs.declared.phase.Phase.TheVariants.{Greeting, Listing, Counting, Reading, Checking, Deleting, Over}
use Rattle.stripe_cleaner.specs.Transition.{phase_asking, transition}
use Rattle.stripe_code.specs.declared.round.Told.{Told}
use Rattle.version_model.specs.declared.answer.Answer.TheVariants.{Count}
use Rattle.wire_msg.specs.declared.body.Body.TheVariants as body
use Rattle.wire_msg.specs.declared.cleaning.Dead.{Dead}
use Rattle.wire_msg.specs.declared.cleaning.Live.{Live}
use Rattle.wire_msg.specs.declared.cleaning.Usage.{Usage}
use Rattle.wire_msg.specs.declared.storage.Deleted.{Deleted}
use Rattle.wire_msg.specs.declared.storage.Listed.{Listed}
use Rattle.cleaner_serving.specs.declared.emptying.Emptying.{Emptying}
use Rattle.cleaner_serving.specs.Jobs.{Done, with_questions, with_job, ask_maps, ask_list, ask_usage, checked_in, emptying_check, check_sent, ask_check, holds_in, emptying_hold, emptying_read, emptying_put, put_block, move_all, emptying_delete, emptying_finish, says, takes_in, emptying_take, emptying_clean, on_listed, on_usage, on_live, on_dead, on_deleted, end_reading, told_in, emptying_hear, confirmed_in, confirmed, after_confirmed, emptying_read_again, after_told, on_told}
use Rattle.cleaner_job.specs.declared.hand.Hand.{Hand}
use Rattle.cleaner_job.specs.declared.job.Job.{Job}
use Rattle.cleaner_job.specs.Hands.{Heard, Taken, take_over, take_in_hand, is_in_hand, known_group, hand_fetch, fetches, kept_ask, checks_under, hand_check, hand_hear, hand_confirmed}
use Rattle.cleaner_job.specs.Jobs.{ask_of, drawn_unless, job_check, hand_checks_in, hand_of, is_whole, act_dropped, lists_of, usages_of, check_of, is_out, note_read, hand_hears_in, job_hear, hand_confirmed_in, job_confirmed}
use Rattle.cleaner_job.specs.Starting.{cleaner_log}
use Rattle.log_protocol.specs.Tables.{In, put}
use Rattle.log_tie.specs.Setting.{Setting}
use Rattle.log_tie.specs.Shelves.{is_of_log}
use Rattle.log_law.specs.Net.{Net, Packet, log_packets}
use Rattle.log_law.specs.Net.Packet.{DeleteSent}
use Rattle.log_law.specs.Events.{CameToLog}
use Rattle.log_law.specs.Events.Happens.{Drops}
use Rattle.log_law.specs.Events.Runs.{Begun, On}
use Rattle.node_logs.specs.node_log_tie.CleanerEvents.{DropOfLog}
use Rattle.node_logs.specs.node_log_tie.Sight.{AskedBy, ListedSeen}
use Rattle.node_logs.specs.node_log_tie.Sight.Question.{OfMaps}
use Rattle.node_logs.proofs.node_log_tie.Cleaning.{OutDrops, CleaningSent, CleanOn, cleaning_takes}
use Rattle.node_logs.proofs.node_log_tie.Emptied.{out_later}
use Rattle.node_logs.proofs.node_log_tie.Going.{in_after}
use Rattle.node_logs.proofs.node_log_tie.Lists.{answers_send}
use Rattle.node_logs.proofs.node_log_tie.RebuildEvents.{all_listed}
use Rattle.node_logs.specs.client_log_tie.Owner.{Scene, Lasts}
use Rattle.node_logs.specs.client_log_tie.Texts as texts
use Rattle.node_logs.proofs.client_log_tie.Questions.{ask_no_lower, ask_rises, put_here, put_fresh}
use Rattle.node_logs.specs.cleaner_log_tie.Fitting.{ToldFits}
use Rattle.node_logs.specs.cleaner_log_tie.Owner.{its_asker, its_number, JobStands, Stands}
use Rattle.node_logs.specs.cleaner_log_tie.OwnerEvents.{Grows}
use Rattle.node_logs.proofs.cleaner_log_tie.Bytes.{NextFits}
use Rattle.node_logs.proofs.cleaner_log_tie.Fits.{MoveFits, OutFits, InputFits, DoneFits, cleaning_fits, awaits_fit}
use Rattle.node_logs.proofs.cleaner_log_tie.Hands.{InHand, HeardFits, checked_fits, confirms_fits, dropped_fits, hears_fits, over_read_fits, taken_fits}
use Rattle.node_logs.proofs.cleaner_log_tie.Frames.{CleanerDoes, AllDone, Gone, LogTook, still_grows, is_later, job_more, asks_grows, log_takes, at_once, stays, and_then, all_steps}

module _ (g : Setting) (fact : g.log ≡ cleaner_log) where
  abbrev Goes : Scene → Done → Type 0
  Goes w d = Gone g w d

  -- ---- questions

  -- more are drawn
  asks_on : (w : Scene) (inc : ℕ) (q r : Questions) → q.last ≤ r.last → Lasts g its_number w its_number inc q.last → Lasts g its_number w its_number inc r.last
  asks_on w inc q r more h = record { number = refl; inc = h.inc; fresh = λ k later. h.fresh k (omega arith) }

  unless_more : (o : Option ℕ) (q : Questions) → q.last ≤ (drawn_unless o q).last
  unless_more None q = ask_no_lower q
  unless_more (Some ask) q = omega arith

  -- a job with other things in hand, and with more questions drawn
  with_job_stands : (w : Scene) (e : Emptying) (q : Questions) (job : Job) → e.lasting.questions.last ≤ q.last → Stands g w e → JobStands g w job
      → Stands g w (with_job e q job)
  with_job_stands w e q job more h its =
      record { lasts = asks_on w e.lasting.inc e.lasting.questions q more h.lasts; log = h.log; written = h.written; job = its }

  -- ---- what the job asks

  -- the registry, by a number that is out, or by a new one
  maps_asked_by : (w : Scene) (e : Emptying) (job : Job) (hello_is : Option ℕ) → has_room e.lasting.questions.last ≡ true → Stands g w e → JobStands g w job
      → IfSome hello_is (λ ask. w.asked ask ≡ OfMaps)
      → Goes w (record {
        state = with_job e (drawn_unless hello_is e.lasting.questions) (record job { hello = Some (ask_of hello_is e.lasting.questions) });
        outs = hello e.lasting.inc (ask_of hello_is e.lasting.questions) ∷ [];
      })
  maps_asked_by w e job (Some ask) room h its asked =
      at_once g w _ _
      (with_job_stands w e e.lasting.questions (record job { hello = Some ask }) (omega arith) h
      (record { seen = its.seen; hello = asked; phase = its.phase; hand = its.hand }))
      (record { own = λ own. subst (AskedBy g (its_asker w) w.net e.lasting.inc) (sym asked) tt; reached = tt }, tt)
  maps_asked_by w e job None room h its asked =
      let q : Questions = e.lasting.questions in
      let number : ℕ = next_ask q in
      let rises = ask_rises q room in
      let v : Scene = record { net = w.net; asked = put w.asked number OfMaps } in
      record {
        next = v;
        grown = asks_grows g w number OfMaps (h.lasts.fresh number rises);
        stands = record {
          lasts = record { number = refl; inc = h.lasts.inc; fresh = put_fresh w.asked number OfMaps q.last rises h.lasts.fresh };
          log = record { owner = h.log.owner; own = h.log.own };
          written = h.written;
          job = record { seen = its.seen; hello = put_here w.asked number OfMaps; phase = its.phase; hand = its.hand };
        };
        does = (record { own = λ own. subst (AskedBy g (its_asker v) v.net e.lasting.inc) (sym (put_here w.asked number OfMaps)) tt; reached = tt }, tt);
        boot = refl;
        only = λ name fact. inl fact;
      }

  maps_asked : (w : Scene) (e : Emptying) (job : Option Job) → has_room e.lasting.questions.last ≡ true → Stands g w e → IfSome job (JobStands g w)
      → Goes w (ask_maps e job)
  maps_asked w e None room h its = stays g w e h
  maps_asked w e (Some job) room h its = maps_asked_by w e job job.hello room h its its.hello

  list_asked : (w : Scene) (e : Emptying) (job : Option Job) (server : ℕ) → Stands g w e → IfSome job (JobStands g w) → Goes w (ask_list e job server)
  list_asked w e None server h its = stays g w e h
  list_asked w e (Some job) server h its =
      at_once g w _ _
      (with_job_stands w e (drawn_unless job.lists e.lasting.questions) _ (unless_more job.lists e.lasting.questions) h
      (record { seen = its.seen; hello = its.hello; phase = its.phase; hand = its.hand })) (tt, tt)

  usage_asked : (w : Scene) (e : Emptying) (job : Option Job) (slot : ℕ) → Stands g w e → IfSome job (JobStands g w) → Goes w (ask_usage e job slot)
  usage_asked w e None slot h its = stays g w e h
  usage_asked w e (Some job) slot h its =
      at_once g w _ _
      (with_job_stands w e (drawn_unless job.usages e.lasting.questions) _ (unless_more job.usages e.lasting.questions) h
      (record { seen = its.seen; hello = its.hello; phase = its.phase; hand = its.hand }))
      (tt, tt)

  check_asked : (w : Scene) (e : Emptying) (block : BlockId) (place : Place) → Stands g w e → Goes w (ask_check e block place)
  unfolding ask_check emptying_check hand_check job_check
  check_asked w e block place h = check_said (emptying_check e block).state (emptying_check e block).ask (checked_kept e.job h.job)
    where
      under_more : (hand : Hand) (q : Questions) (ask : Option ℕ) → q.last ≤ (checks_under hand q block ask).questions.last
      under_more hand q None = ask_no_lower q
      under_more hand q (Some ask) = omega arith

      checks_kept : (job : Job) (hand : Option Hand) → JobStands g w job → InHand hand
          → Stands g w (with_job e (hand_checks_in job e.lasting.questions hand block).questions (hand_checks_in job e.lasting.questions hand block).job)
      checks_kept job None its own = with_job_stands w e e.lasting.questions job (omega arith) h its
      checks_kept job (Some hand) its own =
          with_job_stands w e (hand_check hand e.lasting.questions block).questions _ (under_more hand e.lasting.questions (kept_ask hand block)) h
          (record { seen = its.seen; hello = its.hello; phase = its.phase; hand = checked_fits hand e.lasting.questions block (kept_ask hand block) own })

      checked_kept : (job : Option Job) → IfSome job (JobStands g w) → Stands g w (checked_in e job block).state
      checked_kept None its = h
      checked_kept (Some job) its = checks_kept job job.hand its its.hand

      check_said : (f : Emptying) (ask : Option ℕ) → Stands g w f → Goes w (check_sent f block place ask)
      check_said f None k = stays g w f k
      check_said f (Some ask) k = at_once g w f _ k (tt, tt)

  -- ---- a segment is read

  asked_for : (w : Scene) (name : SegName) (reading : Option ReadingState) → AllDone g w (hand_fetch name reading)
  asked_for w name None = tt
  asked_for w name (Some r) = all_map (CleanerDoes g w) (fetch name r.ask) (λ server. tt) (reading_unanswered r)

  fetched : (w : Scene) (hand : Option Hand) → AllDone g w (fetches hand)
  fetched w None = tt
  fetched w (Some hand) = asked_for w hand.seg.name hand.reading

  over_more : (q : Questions) (seg : SegRef) (group : Option Group) → q.last ≤ (take_over q seg group).questions.last
  over_more q seg None = omega arith
  over_more q seg (Some group) = ask_no_lower q

  takes_more : (groups : Option GroupMapState) (q : Questions) (hand : Option Hand) (seg : SegRef) → q.last ≤ (take_in_hand groups q hand seg).questions.last
  unfolding take_in_hand
  takes_more groups q hand seg =
      by_test (λ (t : Taken). q.last ≤ t.questions.last) (is_in_hand hand seg) (record { hand = hand; questions = q })
      (take_over q seg (known_group groups seg.group))
      (λ t. omega arith) (λ t. over_more q seg (known_group groups seg.group))

  held : (w : Scene) (e : Emptying) (job : Option Job) (seg : SegRef) → Stands g w e → IfSome job (JobStands g w) → Stands g w (holds_in e job seg)
  held w e None seg h its = h
  held w e (Some job) seg h its =
      with_job_stands w e (take_in_hand e.maps.groups e.lasting.questions job.hand seg).questions _
      (takes_more e.maps.groups e.lasting.questions job.hand seg) h
      (record { seen = its.seen; hello = its.hello; phase = its.phase; hand = taken_fits e.maps.groups e.lasting.questions job.hand seg its.hand })

  read_begun : (w : Scene) (e : Emptying) (seg : SegRef) → Stands g w e → Goes w (emptying_read e seg)
  unfolding emptying_read emptying_hold
  read_begun w e seg h = at_once g w (emptying_hold e seg) _ (held w e e.job seg h h.job) (fetched w (hand_of (emptying_hold e seg).job))

  -- ---- what the node does for it

  all_stored : (w : Scene) (outs : List LogOut) → ((p : Packet) → In p (log_packets outs) → In p w.net.sent) → AllDone g w (flat_map stored outs)
  all_stored w [] sent = tt
  all_stored w (log_out.Send fragment member ∷ outs) sent = (λ own. sent _ (inl refl), all_stored w outs (λ p among. sent p (inr among)))
  all_stored w (log_out.Settled end rows ∷ outs) sent = all_stored w outs sent

  put_so : (w : Scene) (e : Emptying) (i : LogIn) → Stands g w e → CameToLog w.net i → texts.InputFits i → Goes w (emptying_put e i)
  unfolding emptying_put
  put_so w e i h came fits =
      let t : LogTook g fact w e (log.transition e.log i) = log_takes g fact w e i h came fits in
      record {
        next = t.next;
        grown = t.grown;
        stands = t.stands;
        does = all_stored t.next (log.transition e.log i).outs t.sent;
        boot = t.boot;
        only = λ name fact. inl (subst (In name) t.kept fact);
      }

  block_put : (w : Scene) (e : Emptying) (one : BlockId × Entry × Option (List ℕ)) → Stands g w e → MoveFits one → Goes w (put_block e one)
  unfolding put_block
  block_put w e one h fits = put_so w e (log_in.Put one.0 one.1 one.2) h tt fits

  blocks_moved : (w : Scene) (e : Emptying) (blocks : List (BlockId × Entry × Option (List ℕ))) → Stands g w e → AllByRecursion MoveFits blocks
      → Goes w (move_all e blocks)
  unfolding move_all
  blocks_moved w e blocks h fits =
      let d : Done = steps put_block e blocks in
      let p : Goes w d = all_steps g put_block (λ v x. MoveFits x) (λ v k grown x f. f) block_put w e blocks h fits in
      and_then g w d (emptying_put d.state log_in.Seal) p (put_so p.next d.state log_in.Seal p.stands tt tt)

  -- ---- a segment is dropped

  -- the small world drops a segment that may be dropped, where it is of the log; the owner stands as it was
  record LetGo (w : Scene) (name : SegName) : Type 0 where
    next : Scene
    grown : Grows g w next
    inc : next.net.inc ≡ w.net.inc
    owner : next.net.owner ≡ w.net.owner
    asked : next.asked ≡ w.asked
    said : is_of_log g name ≡ true → In (DeleteSent name) next.net.sent
    acted : is_of_log g name ≡ true → In name next.net.dropped
    only : (x : SegName) → In x next.net.dropped → In x w.net.dropped ⊎ (x ≡ name)

  let_go : (w : Scene) (name : SegName) → DropOfLog g w.net name → LetGo w name
  let_go w name may = by_log (is_of_log g name) refl
    where
      by_log : (t : Bool) → is_of_log g name ≡ t → LetGo w name
      by_log true own =
          let m = may own in
          record {
            next = record w { net = record w.net { sent = DeleteSent m.meta.name ∷ w.net.sent; dropped = m.meta.name ∷ w.net.dropped } };
            grown = record {
              runs = On Begun (Drops m.lists m.meta m.sent m.among (let e = ap (λ (s : SegName). s.seq) m.named in let b = m.below in omega arith));
              sent = λ p among. inr among;
              filed = λ seg among. among;
              dropped = λ seg among. inr among;
              shelves = refl;
              registry = refl;
              low = refl;
              asked = λ k some. refl;
            };
            inc = refl;
            owner = refl;
            asked = refl;
            said = λ its. inl (ap DeleteSent (sym m.named));
            acted = λ its. inl (sym m.named);
            only = λ x fact. ⊎_elim (λ same. inr (same ∙ m.named)) (λ was. inl was) fact;
          }
      by_log false foreign = record {
        next = w;
        grown = still_grows g w;
        inc = refl;
        owner = refl;
        asked = refl;
        said = λ its. contrary (sym foreign ∙ its);
        acted = λ its. contrary (sym foreign ∙ its);
        only = λ x fact. inl fact;
      }

  -- one whose owner stands as it was stands so too
  stands_on : (w v : Scene) (e : Emptying) → Grows g w v → v.net.inc ≡ w.net.inc → v.net.owner ≡ w.net.owner → v.asked ≡ w.asked → Stands g w e → Stands g v e
  stands_on w v e grown inc owner asked h = record {
    lasts = record { number = refl; inc = inc ∙ h.lasts.inc; fresh = λ k later. ap (λ (f : ℕ → _). f k) asked ∙ h.lasts.fresh k later };
    log = record { owner = owner ∙ h.log.owner; own = h.log.own };
    written = h.written;
    job = job_more g fact w v grown e h;
  }

  drop_acted : (w : Scene) (is_first : Bool) (name : SegName) → (is_of_log g name ≡ true → In name w.net.dropped) → AllDone g w (act_dropped is_first name)
  drop_acted w true name acted = (acted, tt)
  drop_acted w false name acted = tt

  segment_deleted : (w : Scene) (e : Emptying) (job : Option Job) (server : ℕ) (name : SegName) → Stands g w e → IfSome job (JobStands g w)
      → DropOfLog g w.net name
      → Goes w (emptying_delete e job server name)
  segment_deleted w e None server name h its may = stays g w e h
  segment_deleted w e (Some job) server name h its may =
      let l : LetGo w name = let_go w name may in
      record {
        next = l.next;
        grown = l.grown;
        stands = stands_on w l.next (record e { job = Some (record job { hand = _ }) }) l.grown l.inc l.owner l.asked
            (record {
              lasts = h.lasts;
              log = h.log;
              written = h.written;
              job = record { seen = its.seen; hello = its.hello; phase = its.phase; hand = dropped_fits job.hand its.hand };
            });
        does = all_append (CleanerDoes g l.next) (act_dropped (is_whole job.hand) name) _ (drop_acted l.next (is_whole job.hand) name l.acted) (l.said, tt);
        boot = l.inc;
        only = λ x fact. ⊎_elim (λ was. inl was)
            (λ same. inr (
              node.Server server,
              in_after (act_dropped (is_whole job.hand) name) _ _ (inl (ap (λ (z : SegName). Send (node.Server server) (body.Delete (record { name = z }))) same)),
            )) (l.only x fact);
      }

  job_over : (w : Scene) (e : Emptying) (count : ℕ) → Stands g w e → Goes w (emptying_finish e count)
  job_over w e count h =
      at_once g w _ _ (record { lasts = h.lasts; log = h.log; written = h.written; job = tt })
      (answers_send (CleanerDoes g w) (λ item answer. tt) e.lasting.items.unanswered (Count count))

  -- what it says: what it deletes may be dropped, and what it moves fits
  abbrev OutOwed : Scene → Out → Type 0
  OutOwed w o = OutDrops g w.net o × OutFits o

  job_says : (w : Scene) (e : Emptying) (o : Out) → Stands g w e → OutOwed w o → Goes w (says e o)
  unfolding says
  job_says w e out.Hello h owed = absurd owed.1
  job_says w e (out.List server) h owed = list_asked w e e.job server h h.job
  job_says w e (out.UsageAsk slot) h owed = usage_asked w e e.job slot h h.job
  job_says w e (out.Fetch seg) h owed = read_begun w e seg h
  job_says w e (out.Check block place) h owed = check_asked w e block place h
  job_says w e (out.Move blocks) h owed = blocks_moved w e blocks h owed.1
  job_says w e (out.Delete server name) h owed = segment_deleted w e e.job server name h h.job owed.0
  job_says w e (out.Finished count) h owed = job_over w e count h

  both : (n : Net) (outs : List Out) → AllByRecursion (OutDrops g n) outs → AllByRecursion OutFits outs → AllByRecursion (λ o. OutDrops g n o × OutFits o) outs
  both n [] drop fit = tt
  both n (o ∷ outs) drop fit = ((drop.0, fit.0), both n outs drop.1 fit.1)

  all_said : (w : Scene) (e : Emptying) (outs : List Out) → Stands g w e → AllByRecursion (OutDrops g w.net) outs → AllByRecursion OutFits outs
      → Goes w (steps says e outs)
  all_said w e outs h drop fit =
      all_steps g says OutOwed (λ v k grown o owed. (out_later g v.net k.net (is_later g v k grown) o owed.0, owed.1)) job_says w e outs h
      (both w.net outs drop fit)

  -- ---- the job takes an input

  record Took (w : Scene) (e : Emptying) (outs : List Out) : Type 0 where
    stands : Stands g w e
    drops : AllByRecursion (OutDrops g w.net) outs
    fits : AllByRecursion OutFits outs

  took : (w : Scene) (e : Emptying) (job : Option Job) (given : Input) → Stands g w e → IfSome job (JobStands g w) → CleaningSent g w.net given
      → InputFits given
      → Took w (takes_in e job given).state (takes_in e job given).outs
  took w e None given h its sent fits = record { stands = h; drops = tt; fits = tt }
  took w e (Some job) given h its sent fits =
      let on : CleanOn g w.net (transition job.cleaning given) = cleaning_takes g w.net job.cleaning given its.seen sent in
      let f : DoneFits (transition job.cleaning given) = cleaning_fits job.cleaning given its.phase fits in
      record {
        stands = record {
          lasts = h.lasts;
          log = h.log;
          written = h.written;
          job = record { seen = on.phase; hello = its.hello; phase = f.phase; hand = its.hand };
        };
        drops = on.outs;
        fits = f.outs;
      }

  pub job_goes_on : (w : Scene) (e : Emptying) (given : Input) → Stands g w e → CleaningSent g w.net given → InputFits given → Goes w (emptying_clean e given)
  unfolding emptying_clean emptying_take
  job_goes_on w e given h sent fits =
      let t : Took w (takes_in e e.job given).state (takes_in e e.job given).outs = took w e e.job given h h.job sent fits in
      all_said w (takes_in e e.job given).state (takes_in e e.job given).outs t.stands t.drops t.fits

  -- in time
  awaited_said : (w : Scene) (e : Emptying) (p : Phase) → has_room e.lasting.questions.last ≡ true → Stands g w e
      → AllByRecursion (OutDrops g w.net) (phase_asking p) → Goes w (steps says e (phase_asking p))
  unfolding says
  awaited_said w e Greeting room h drop =
      and_then g w (ask_maps e e.job) (still (ask_maps e e.job).state) (maps_asked w e e.job room h h.job)
      (stays g _ _ (maps_asked w e e.job room h h.job).stands)
  awaited_said w e (Listing l) room h drop = all_said w e (phase_asking (Listing l)) h drop (awaits_fit (Listing l) (λ x. absurd cc))
  awaited_said w e (Counting c) room h drop = all_said w e (phase_asking (Counting c)) h drop (awaits_fit (Counting c) (λ x. absurd cc))
  awaited_said w e (Reading j seg) room h drop = all_said w e (phase_asking (Reading j seg)) h drop (awaits_fit (Reading j seg) (λ x. absurd cc))
  awaited_said w e (Checking j seg cs) room h drop = all_said w e (phase_asking (Checking j seg cs)) h drop (awaits_fit (Checking j seg cs) (λ x. absurd cc))
  awaited_said w e (Deleting j seg servers) room h drop =
      all_said w e (phase_asking (Deleting j seg servers)) h drop (awaits_fit (Deleting j seg servers) (λ x. absurd cc))
  awaited_said w e Over room h drop = all_said w e (phase_asking Over) h drop (awaits_fit Over (λ x. absurd cc))

  pub job_in_time : (w : Scene) (e : Emptying) → has_room e.lasting.questions.last ≡ true → Stands g w e → Goes w (emptying_clean e input.Tick)
  unfolding emptying_clean emptying_take
  job_in_time w e room h = by_job e.job h.job
    where
      by_job : (job : Option Job) → IfSome job (JobStands g w) → Goes w (steps says (takes_in e job input.Tick).state (takes_in e job input.Tick).outs)
      by_job None its = stays g w e h
      by_job (Some job) its =
          let on : CleanOn g w.net (transition job.cleaning input.Tick) = cleaning_takes g w.net job.cleaning input.Tick its.seen tt in
          awaited_said w (takes_in e (Some job) input.Tick).state job.cleaning.phase room
          (record {
            lasts = h.lasts;
            log = h.log;
            written = h.written;
            job = record { seen = its.seen; hello = its.hello; phase = its.phase; hand = its.hand };
          }) on.outs

  -- ---- what comes for it

  pub list_came : (w : Scene) (e : Emptying) (server : Option ℕ) (m : Listed) → Stands g w e → ListedSeen g (its_asker w) w.net m
      → Goes w (on_listed e server m)
  unfolding on_listed
  list_came w e None m h sent = stays g w e h
  list_came w e (Some server) m h sent =
      by_test (Goes w) (is_out (lists_of e.job) m.ask) (emptying_clean e (input.Listed server m.held)) (still e)
      (λ t. job_goes_on w e (input.Listed server m.held) h (all_listed g w.net m.held sent) tt) (λ t. stays g w e h)

  pub usage_came : (w : Scene) (e : Emptying) (m : Usage) → Stands g w e → Goes w (on_usage e m)
  unfolding on_usage
  usage_came w e m h =
      by_test (Goes w) (is_out (usages_of e.job) m.ask) (emptying_clean e (input.Usage m.slot m.epoch m.counts)) (still e)
      (λ t. job_goes_on w e (input.Usage m.slot m.epoch m.counts) h tt tt)
      (λ t. stays g w e h)

  pub live_came : (w : Scene) (e : Emptying) (m : Live) → Stands g w e → FitsRow (m.block, m.entry) → Goes w (on_live e m)
  unfolding on_live
  live_came w e m h fits =
      by_test (Goes w) (is_out (check_of (hand_of e.job) m.block) m.ask) (emptying_clean e (input.Live m.block m.epoch m.entry)) (still e)
      (λ t. job_goes_on w e (input.Live m.block m.epoch m.entry) h tt fits) (λ t. stays g w e h)

  pub dead_came : (w : Scene) (e : Emptying) (m : Dead) → Stands g w e → Goes w (on_dead e m)
  unfolding on_dead
  dead_came w e m h =
      by_test (Goes w) (is_out (check_of (hand_of e.job) m.block) m.ask) (emptying_clean e (input.Dead m.block m.epoch)) (still e)
      (λ t. job_goes_on w e (input.Dead m.block m.epoch) h tt tt) (λ t. stays g w e h)

  pub deleted_came : (w : Scene) (e : Emptying) (server : Option ℕ) (m : Deleted) → Stands g w e → Goes w (on_deleted e server m)
  unfolding on_deleted
  deleted_came w e None m h = stays g w e h
  deleted_came w e (Some server) m h = job_goes_on w e (input.Deleted server m.name) h tt tt

  -- ---- the reading of the segment in hand

  reading_ended : (w : Scene) (e : Emptying) (read : Option Segment) → Stands g w e → InputFits (input.Read read) → Goes w (end_reading e read)
  unfolding end_reading
  reading_ended w e read h fits =
      job_goes_on w (record e { job = note_read e.job }) (input.Read read)
      (record { lasts = h.lasts; log = h.log; written = h.written; job = read_kept e.job h.job }) tt fits
    where
      read_kept : (job : Option Job) → IfSome job (JobStands g w) → IfSome (note_read job) (JobStands g w)
      read_kept None its = tt
      read_kept (Some job) its = record { seen = its.seen; hello = its.hello; phase = its.phase; hand = over_read_fits job.hand }

  -- what is left of the cleaner after an answer stands, and the segment that is read then fits
  record HeardSo (w : Scene) (h : Heard Emptying) : Type 0 where
    stands : Stands g w h.state
    next : NextFits h.next

  confirms : (w : Scene) (e : Emptying) (job : Option Job) (ask : ℕ) → Stands g w e → IfSome job (JobStands g w) → HeardSo w (confirmed_in e job ask)
  unfolding job_confirmed
  confirms w e None ask h its = record { stands = h; next = tt }
  confirms w e (Some job) ask h its = by_hand job.hand its.hand
    where
      by_hand : (hand : Option Hand) → InHand hand
          → HeardSo w (record { state = record e { job = Some (hand_confirmed_in job hand ask).state }; next = (hand_confirmed_in job hand ask).next })
      by_hand None own = record { stands = record { lasts = h.lasts; log = h.log; written = h.written; job = its }; next = tt }
      by_hand (Some hand) own =
          let f : HeardFits (hand_confirmed hand ask) = confirms_fits hand ask own in
          record {
            stands =
                record {
                  lasts = h.lasts;
                  log = h.log;
                  written = h.written;
                  job = record { seen = its.seen; hello = its.hello; phase = its.phase; hand = f.hand };
                };
            next = f.next;
          }

  confirmed_so : (w : Scene) (e : Emptying) (x : Next) → Stands g w e → Goes w (after_confirmed e x)
  confirmed_so w e next.Ask h = at_once g w e _ h (fetched w (hand_of e.job))
  confirmed_so w e next.Lost h = reading_ended w e None h tt
  confirmed_so w e _ h = stays g w e h

  read_again : (w : Scene) (e : Emptying) → Stands g w e → Goes w (emptying_read_again e)
  unfolding emptying_read_again confirmed
  read_again w e h =
      let f : Emptying = with_questions e (draw e.lasting.questions) in
      let c : Heard Emptying = confirmed f (next_ask e.lasting.questions) in
      confirmed_so w c.state c.next
      (confirms w f e.job (next_ask e.lasting.questions)
      (record {
        lasts = asks_on w e.lasting.inc e.lasting.questions (draw e.lasting.questions) (ask_no_lower e.lasting.questions) h.lasts;
        log = h.log;
        written = h.written;
        job = h.job;
      }) h.job).stands

  told_so : (w : Scene) (e : Emptying) (x : Next) → Stands g w e → NextFits x → Goes w (after_told e x)
  told_so w e next.Wait h fits = stays g w e h
  told_so w e next.Ask h fits = stays g w e h
  told_so w e next.Again h fits = read_again w e h
  told_so w e (next.Read segment) h fits = reading_ended w e (Some segment) h fits.0
  told_so w e next.Lost h fits = reading_ended w e None h tt

  hears_told : (w : Scene) (e : Emptying) (job : Option Job) (groups : Option GroupMapState) (ask server : ℕ) (t : Told) → Stands g w e
      → IfSome job (JobStands g w) → ToldFits t
      → HeardSo w (told_in e job groups ask server t)
  unfolding job_hear
  hears_told w e None groups ask server t h its told = record { stands = h; next = tt }
  hears_told w e (Some job) None ask server t h its told = record { stands = h; next = tt }
  hears_told w e (Some job) (Some groups) ask server t h its told = by_hand job.hand its.hand
    where
      by_hand : (hand : Option Hand) → InHand hand
          → HeardSo w (record {
            state = record e { job = Some (hand_hears_in job hand groups ask server t).state };
            next = (hand_hears_in job hand groups ask server t).next;
          })
      by_hand None own = record { stands = record { lasts = h.lasts; log = h.log; written = h.written; job = its }; next = tt }
      by_hand (Some hand) own =
          let f : HeardFits (hand_hear hand groups ask server t) = hears_fits hand groups ask server t own told in
          record {
            stands =
                record {
                  lasts = h.lasts;
                  log = h.log;
                  written = h.written;
                  job = record { seen = its.seen; hello = its.hello; phase = its.phase; hand = f.hand };
                };
            next = f.next;
          }

  pub told_came : (w : Scene) (e : Emptying) (server : Option ℕ) (ask : ℕ) (t : Told) → Stands g w e → ToldFits t → Goes w (on_told e server ask t)
  unfolding on_told emptying_hear
  told_came w e None ask t h told = stays g w e h
  told_came w e (Some server) ask t h told =
      let x : HeardSo w (emptying_hear e ask server t) = hears_told w e e.job e.maps.groups ask server t h h.job told in
      told_so w (emptying_hear e ask server t).state (emptying_hear e ask server t).next x.stands x.next
