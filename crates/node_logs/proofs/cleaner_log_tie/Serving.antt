-- What a cleaner that serves does at each packet, in time, and when a job begins, in the small world of its own log.
use Rattle.std.proofs.Common.{◌≡◌, ⊎_elim, ◌≤◌, ℕ, ◌==◌, ◌&&◌, Bool, true, false, List, [], ◌∷◌, Option, Some, None, is_some, nat_lt, refl, sym, subst, ◌∙◌, inl, inr, arith}
use Rattle.std.specs.Prelude.{IfSome}
use Rattle.std.specs.List.{AllByRecursion, range_with_len}
use Rattle.xfs_base.proofs.Booleans.{by_test}
use Rattle.xfs_base.specs.declared.block.BlockId.{BlockId}
use Rattle.xfs_base.specs.declared.entry.Entry.{Entry}
use Rattle.xfs_base.specs.declared.news.SlotNews.{SlotNews}
use Rattle.xfs_base.specs.declared.node.NodeId.{NodeId}
use Rattle.xfs_base.specs.declared.node.NodeId.TheVariants as node
use Rattle.xfs_base.specs.declared.segment.End.{End}
use Rattle.xfs_base.specs.declared.segment.LogId.{LogId}
use Rattle.xfs_base.specs.declared.segment.SegName.{SegName}
use Rattle.xfs_base.specs.Steps.{still, saying, steps}
use Rattle.xfs_base.proofs.Alls.{all_map}
use Rattle.xfs_base.specs.Limits.{slot_count}
use Rattle.group_map.specs.GroupMapState.{GroupMapState}
use Rattle.client_log.specs.declared.input.In.TheVariants as log_in
use Rattle.client_log.specs.declared.output.Out.{Out as LogOut}
use Rattle.client_log.specs.declared.output.Out.TheVariants as log_out
use Rattle.client_log.specs.Transition as log
use Rattle.delta_feed.specs.declared.output.Out.{Out as FeedOut}
use Rattle.delta_feed.specs.declared.output.Out.TheVariants.{Range}
use Rattle.delta_feed.specs.FeedState.{FeedState}
use Rattle.delta_feed.specs.Transition.{feed_tick}
use Rattle.log_owner.specs.declared.promised.Managers.{Managers}
use Rattle.log_owner.specs.Promised.{epoch_of}
use Rattle.log_owner.specs.Sending.{name_of, push_all, range, server_in}
use Rattle.node_base.specs.Asking.{next_ask}
use Rattle.node_base.specs.declared.questions.Questions.{Questions}
use Rattle.node_base.specs.Known.{names_known_groups}
use Rattle.node_base.specs.Maps.{fits, is_older, maps_take}
use Rattle.node_base.specs.Room.{has_room}
use Rattle.stripe_cleaner.specs.declared.input.In.TheVariants as input
use Rattle.stripe_cleaner.specs.declared.phase.Phase.{Phase}
use Rattle.stripe_cleaner.specs.declared.phase.Phase.TheVariants.{Greeting}
use Rattle.stripe_cleaner.specs.CleaningState.{CleaningState}
use Rattle.stripe_cleaner.specs.Promises.{is_above, promised_with}
use Rattle.stripe_cleaner.specs.Transition as cleaning
use Rattle.stripe_code.specs.declared.round.Told.TheVariants as told
use Rattle.wire_msg.specs.declared.body.Body.{Body}
use Rattle.wire_msg.specs.declared.body.Body.TheVariants as body
use Rattle.wire_msg.specs.declared.deltas.DeltaAck.{DeltaAck}
use Rattle.wire_msg.specs.declared.deltas.Poll.{Poll}
use Rattle.wire_msg.specs.declared.packet.Packet as packets
use Rattle.wire_msg.specs.declared.registry.News.{News}
use Rattle.wire_msg.specs.declared.registry.Welcome.{Welcome}
use Rattle.wire_msg.specs.declared.storage.Stored.{Stored}
use Rattle.cleaner_serving.specs.declared.emptying.Emptying.{Emptying}
use Rattle.cleaner_serving.specs.EmptyingEvents.{promise_slot, promise_all, with_new_job, begin_job, on_clean, fed, emptying_settle, write_one, emptying_write, on_stored, on_ack, emptying_renew, emptying_promise, emptying_report, on_poll, hear_slot, hear_slots, regroup_job, regroup_log, take_news, on_news, welcome_over, emptying_welcome, on_welcome, on_body, ask_for_maps, on_packet, on_tick}
use Rattle.cleaner_serving.specs.Jobs.{Done, says, takes_in, emptying_take, emptying_clean}
use Rattle.cleaner_job.specs.declared.job.Job.{Job}
use Rattle.cleaner_job.specs.Jobs.{note_moved, hello_of, note_greeted, is_out}
use Rattle.cleaner_job.specs.Starting.{cleaner_log}
use Rattle.log_scan.specs.Transition.{least_horizon}
use Rattle.log_protocol.specs.Tables.{In, put}
use Rattle.log_tie.specs.Seen.{log_filed}
use Rattle.log_tie.specs.Setting.{Setting}
use Rattle.log_law.specs.Net.{Packet, log_packets}
use Rattle.log_law.specs.Net.Packet.{StoreSent, MapSent}
use Rattle.node_logs.specs.node_log_tie.Sight.{AskedBy, BodySeen, WelcomeSeen}
use Rattle.node_logs.specs.node_log_tie.Sight.Question.{OfMaps}
use Rattle.node_logs.specs.client_log_tie.Owner.{Scene}
use Rattle.node_logs.specs.client_log_tie.Texts.{MapFits}
use Rattle.node_logs.proofs.client_log_tie.Questions.{ask_rises, put_here, put_fresh}
use Rattle.node_logs.specs.cleaner_log_tie.Fitting.{InRange}
use Rattle.node_logs.specs.cleaner_log_tie.Owner.{its_asker, JobStands, Stands}
use Rattle.node_logs.specs.cleaner_log_tie.OwnerEvents.{Grows}
use Rattle.node_logs.proofs.cleaner_log_tie.Frames.{CleanerDoes, AllDone, Gone, LogTook, job_more, asks_grows, log_takes, log_takes_stored, at_once, stays, and_then, after_these, all_steps, grows_on}
use Rattle.node_logs.proofs.cleaner_log_tie.Hands.{moved_fits}
use Rattle.node_logs.proofs.cleaner_log_tie.Jobs.{job_goes_on, job_in_time, list_came, usage_came, live_came, dead_came, deleted_came, told_came}

-- ---- a job that has just begun asks nothing when slots are promised

-- it has just begun, and these are the questions of the node
pub record IsNew (q : Questions) (e : Emptying) : Type 0 where
  pub questions : e.lasting.questions ≡ q
  pub job : Job
  pub begun : e.job ≡ Some job
  pub greeting : job.cleaning.phase ≡ Greeting

-- nothing is said, and it greets still
pub record Quiet (d : cleaning.Done) : Type 0 where
  pub phase : d.state.phase ≡ Greeting
  pub outs : d.outs ≡ []

promise_is_quiet : (s : CleaningState) (slot epoch : ℕ) → s.phase ≡ Greeting → Quiet (cleaning.on_promise s slot epoch)
unfolding cleaning.on_promise
promise_is_quiet s slot epoch at =
    subst (λ (p : Phase). Quiet (cleaning.on_promise (record s { phase = p }) slot epoch)) (sym at)
    (by_test Quiet (is_above s.promised slot epoch)
    (cleaning.turned (record s { promised = promised_with s.promised slot epoch; phase = Greeting }) (cleaning.forgetting slot Greeting))
    (still (record s { phase = Greeting })) (λ t. record { phase = refl; outs = refl }) (λ t. record { phase = refl; outs = refl }))

promised_new : (q : Questions) (e : Emptying) (slot : ℕ) → IsNew q e → IsNew q (promise_slot e slot).state
unfolding promise_slot emptying_clean emptying_take
promised_new q e slot n =
    let epoch : ℕ = epoch_of e.promised slot in
    let i = input.Promise slot epoch in
    let k : Quiet (cleaning.transition n.job.cleaning i) = promise_is_quiet n.job.cleaning slot epoch n.greeting in
    subst (λ (job : Option Job). IsNew q (steps says (takes_in e job i).state (takes_in e job i).outs).state) (sym n.begun)
    (subst (λ outs. IsNew q (steps says (takes_in e (Some n.job) i).state outs).state) (sym k.outs)
    (record { questions = n.questions; job = record n.job { cleaning = (cleaning.transition n.job.cleaning i).state }; begun = refl; greeting = k.phase }))

all_new : (q : Questions) (e : Emptying) (slots : List ℕ) → IsNew q e → IsNew q (steps promise_slot e slots).state
all_new q e [] n = n
all_new q e (slot ∷ slots) n = all_new q (promise_slot e slot).state slots (promised_new q e slot n)

room_left : (e : Emptying) (number count : ℕ) → has_room e.lasting.questions.last ≡ true
    → has_room (promise_all (with_new_job e number count)).state.lasting.questions.last ≡ true
unfolding promise_all
room_left e number count room =
    let f : Emptying = with_new_job e number count in
    let n : IsNew e.lasting.questions f = record { questions = refl; job = _; begun = refl; greeting = refl } in
    subst (λ (q : Questions). has_room q.last ≡ true) (sym (all_new e.lasting.questions f (range_with_len 0 slot_count) n).questions) room

module _ (g : Setting) (fact : g.log ≡ cleaner_log) where
  abbrev Goes : Scene → Done → Type 0
  Goes w d = Gone g w d

  nothing_more : {X : Type 0} (xs : List X) → AllByRecursion (λ (x : X). Unit {0}) xs
  nothing_more [] = tt
  nothing_more (x ∷ xs) = (tt, nothing_more xs)

  -- ---- deltas

  range_said : (w : Scene) (managers : Managers) (o : FeedOut) → CleanerDoes g w (range managers o)
  range_said w managers (Range slot first upto rows) = tt

  pub deltas_pushed : (w : Scene) (managers : Managers) (f : FeedState) → AllDone g w (push_all managers f)
  deltas_pushed w managers f = all_map (CleanerDoes g w) (range managers) (range_said w managers) (feed_tick f)

  -- ---- a job begins

  slot_promised : (w : Scene) (e : Emptying) (slot : ℕ) → Stands g w e → Unit {0} → Goes w (promise_slot e slot)
  unfolding promise_slot
  slot_promised w e slot h no_more = job_goes_on g fact w e (input.Promise slot (epoch_of e.promised slot)) h tt tt

  all_promised : (w : Scene) (e : Emptying) → Stands g w e → Goes w (promise_all e)
  unfolding promise_all
  all_promised w e h =
      all_steps g promise_slot (λ v x. Unit {0}) (λ v k grown x o. tt) slot_promised w e (range_with_len 0 slot_count) h (nothing_more (range_with_len 0 slot_count))

  job_begun : (w : Scene) (e : Emptying) (number count : ℕ) → has_room e.lasting.questions.last ≡ true → Stands g w e → Goes w (begin_job e number count)
  unfolding begin_job
  job_begun w e number count room h =
      let f : Emptying = with_new_job e number count in
      let d : Done = promise_all f in
      let p : Goes w d =
      all_promised w f (record { lasts = h.lasts; log = h.log; written = h.written; job = record { seen = tt; hello = tt; phase = tt; hand = tt } }) in
      and_then g w d (emptying_clean d.state input.Tick) p (job_in_time g fact p.next d.state (room_left e number count room) p.stands)

  pub cleaning_wished : (w : Scene) (e : Emptying) (number count : ℕ) → has_room e.lasting.questions.last ≡ true → Stands g w e
      → Goes w (on_clean e number count)
  unfolding on_clean
  cleaning_wished w e number count room h =
      by_test (Goes w) (is_some e.lasting.items.unanswered) (record { state = e; outs = _ ∷ [] }) (begin_job e number count) (λ t. at_once g w e _ h (tt, tt))
      (λ t. job_begun w e number count room h)

  -- ---- the log

  -- what it says: a fragment was sent, and what is settled is filed
  abbrev LogSaid : Scene → LogOut → Type 0
  LogSaid w (log_out.Send f member) = In (StoreSent member.server f member.generation) w.net.sent
  LogSaid w (log_out.Settled end rows) = In (name_of cleaner_log end) w.net.filed

  said_more : (w v : Scene) → Grows g w v → (o : LogOut) → LogSaid w o → LogSaid v o
  said_more w v grown (log_out.Send f member) h = grown.sent _ h
  said_more w v grown (log_out.Settled end rows) h = grown.filed _ h

  all_said : (w : Scene) (outs : List LogOut) → ((p : Packet) → In p (log_packets outs) → In p w.net.sent)
      → ((name : SegName) → In name (log_filed g.log outs) → In name w.net.filed)
      → AllByRecursion (LogSaid w) outs
  all_said w [] sent filed = tt
  all_said w (log_out.Send f member ∷ outs) sent filed = (sent _ (inl refl), all_said w outs (λ p among. sent p (inr among)) filed)
  all_said w (log_out.Settled end rows ∷ outs) sent filed = (
    subst (λ (l : LogId). In (name_of l end) w.net.filed) fact (filed (name_of g.log end) (inl refl)),
    all_said w outs sent (λ name among. filed name (inr among)),
  )

  moved_kept : (w : Scene) (job : Option Job) → IfSome job (JobStands g w) → IfSome (note_moved job) (JobStands g w)
  moved_kept w None its = tt
  moved_kept w (Some job) its = record { seen = its.seen; hello = its.hello; phase = its.phase; hand = moved_fits job.hand its.hand }

  segment_settled : (w : Scene) (e : Emptying) (end : End) (rows : List (BlockId × Entry)) → Stands g w e → In (name_of cleaner_log end) w.net.filed
      → Goes w (emptying_settle e end rows)
  unfolding emptying_settle
  segment_settled w e end rows h filed =
      let f : Emptying = fed e end rows in
      after_these g w (_ ∷ push_all f.promised.managers f.feed) (emptying_clean f input.Moved) (filed, deltas_pushed w f.promised.managers f.feed)
      (job_goes_on g fact w f input.Moved (record { lasts = h.lasts; log = h.log; written = h.written; job = moved_kept w e.job h.job }) tt tt)

  one_written : (w : Scene) (e : Emptying) (o : LogOut) → Stands g w e → LogSaid w o → Goes w (write_one e o)
  unfolding write_one
  one_written w e (log_out.Send f member) h said = at_once g w e _ h (λ own. said, tt)
  one_written w e (log_out.Settled end rows) h said = segment_settled w e end rows h said

  all_written : (w : Scene) (e : Emptying) (r : log.Done) → LogTook g fact w e r → Goes w (steps write_one (record e { log = r.state }) r.outs)
  all_written w e r t =
      let f : Emptying = record e { log = r.state } in
      let p : Goes t.next (steps write_one f r.outs) =
      all_steps g write_one LogSaid said_more one_written t.next f r.outs t.stands (all_said t.next r.outs t.sent t.filed) in
      record {
        next = p.next;
        grown = grows_on g w t.next p.next t.grown p.grown;
        stands = p.stands;
        does = p.does;
        boot = p.boot ∙ t.boot;
        only = λ name fact. ⊎_elim (λ was. inl (subst (In name) t.kept was)) inr (p.only name fact);
      }

  stored_came : (w : Scene) (e : Emptying) (m : Stored) → Stands g w e → BodySeen g (its_asker w) w.net node.Cleaner node.Cleaner (body.Stored m)
      → Goes w (on_stored e m)
  unfolding emptying_write
  stored_came w e m h seen = all_written w e (log.on_acked e.log m.name m.index m.generation) (log_takes_stored g fact w e m.name m.index m.generation h seen)

  maps_written : (w : Scene) (e : Emptying) (m : GroupMapState) → Stands g w e → In (MapSent m) w.net.sent → MapFits m → Goes w (emptying_write e (log_in.Maps m))
  unfolding emptying_write
  maps_written w e m h came fit = all_written w e (log.transition e.log (log_in.Maps m)) (log_takes g fact w e (log_in.Maps m) h came fit)

  time_written : (w : Scene) (e : Emptying) → Stands g w e → Goes w (emptying_write e log_in.Tick)
  unfolding emptying_write
  time_written w e h = all_written w e (log.transition e.log log_in.Tick) (log_takes g fact w e log_in.Tick h tt tt)

  acknowledged : (w : Scene) (e : Emptying) (m : DeltaAck) → Stands g w e → Goes w (on_ack e m)
  unfolding on_ack
  acknowledged w e m h =
      by_test (Goes w) (epoch_of e.promised m.slot == m.epoch) _ (still e)
      (λ t. stays g w _ (record { lasts = h.lasts; log = h.log; written = h.written; job = h.job })) (λ t. stays g w e h)

  -- ---- promises

  renewed : (w : Scene) (e : Emptying) (slot epoch : ℕ) → Stands g w e → Stands g w (emptying_renew e slot epoch)
  renewed w e slot epoch h =
      by_test (Stands g w) (nat_lt (epoch_of e.promised slot) epoch) _ e (λ t. record { lasts = h.lasts; log = h.log; written = h.written; job = h.job })
      (λ t. h)

  promised : (w : Scene) (e : Emptying) (slot epoch manager : ℕ) → Stands g w e → Stands g w (emptying_promise e slot epoch manager)
  unfolding emptying_promise
  promised w e slot epoch manager h = (let r = renewed w e slot epoch h in record { lasts = r.lasts; log = r.log; written = r.written; job = r.job })

  reported : (w : Scene) (e : Emptying) (manager : ℕ) (m : Poll) → Stands g w e → Goes w (emptying_report e manager m)
  reported w e manager m h =
      let kept : Emptying = emptying_promise e m.slot m.epoch manager in
      after_these g w (_ ∷ []) (emptying_clean kept (input.Promise m.slot m.epoch)) (tt, tt)
      (job_goes_on g fact w kept (input.Promise m.slot m.epoch) (promised w e m.slot m.epoch manager h) tt tt)

  poll_heard : (w : Scene) (e : Emptying) (from : NodeId) (m : Poll) → Stands g w e → Goes w (on_poll e from m)
  unfolding on_poll
  poll_heard w e (node.Manager manager) m h =
      by_test (Goes w) (nat_lt m.epoch (epoch_of e.promised m.slot)) (still e) (emptying_report e manager m) (λ t. stays g w e h) (λ t. reported w e manager m h)
  poll_heard w e (node.Client c) m h = stays g w e h
  poll_heard w e (node.Server v) m h = stays g w e h
  poll_heard w e node.Cleaner m h = stays g w e h
  poll_heard w e node.Registry m h = stays g w e h

  -- ---- the maps

  slot_heard : (w : Scene) (e : Emptying) (news : SlotNews) → Stands g w e → Unit {0} → Goes w (hear_slot e news)
  unfolding hear_slot
  slot_heard w e news h no_more =
      by_test (Goes w) (nat_lt (epoch_of e.promised news.slot) news.epoch)
      (emptying_clean (emptying_promise e news.slot news.epoch news.manager) (input.Promise news.slot news.epoch)) (still e)
      (λ t. job_goes_on g fact w (emptying_promise e news.slot news.epoch news.manager) (input.Promise news.slot news.epoch)
      (promised w e news.slot news.epoch news.manager h) tt tt)
      (λ t. stays g w e h)

  slots_heard : (w : Scene) (e : Emptying) (slots : List SlotNews) → Stands g w e → Goes w (hear_slots e slots)
  unfolding hear_slots
  slots_heard w e slots h = all_steps g hear_slot (λ v x. Unit {0}) (λ v k grown x o. tt) slot_heard w e slots h (nothing_more slots)

  job_hears_groups : (w : Scene) (e : Emptying) (newer : Bool) (m : GroupMapState) → Stands g w e → Goes w (regroup_job e newer m)
  job_hears_groups w e true m h = job_goes_on g fact w e (input.Maps m) h tt tt
  job_hears_groups w e false m h = stays g w e h

  log_hears_groups : (w : Scene) (e : Emptying) (newer : Bool) (m : GroupMapState) → Stands g w e → In (MapSent m) w.net.sent → MapFits m
      → Goes w (regroup_log e newer m)
  log_hears_groups w e true m h came fit = maps_written w e m h came fit
  log_hears_groups w e false m h came fit = stays g w e h

  news_taken : (w : Scene) (e : Emptying) (news : News) → Stands g w e → In (MapSent news.groups) w.net.sent → MapFits news.groups → Goes w (take_news e news)
  unfolding take_news
  news_taken w e news h came fit =
      let newer : Bool = is_older e.maps news in
      let with_maps : Emptying = record e { maps = maps_take e.maps news } in
      let a : Done = regroup_job with_maps newer news.groups in
      let b : Done = hear_slots a.state news.slots in
      let c : Done = regroup_log b.state newer news.groups in
      let pa : Goes w a = job_hears_groups w with_maps newer news.groups (record { lasts = h.lasts; log = h.log; written = h.written; job = h.job }) in
      let pb : Goes pa.next b = slots_heard pa.next a.state news.slots pa.stands in
      let pc : Goes pb.next c = log_hears_groups pb.next b.state newer news.groups pb.stands (pb.grown.sent _ (pa.grown.sent _ came)) fit in
      and_then g w a (saying b.outs c) pa (and_then g pa.next b c pb pc)

  news_heard : (w : Scene) (e : Emptying) (news : News) → Stands g w e → In (MapSent news.groups) w.net.sent → MapFits news.groups → Goes w (on_news e news)
  news_heard w e news h came fit = by_test (Goes w) (fits e.maps news) (take_news e news) (still e) (λ t. news_taken w e news h came fit) (λ t. stays g w e h)

  greeted_kept : (w : Scene) (job : Option Job) → IfSome job (JobStands g w) → IfSome (note_greeted job) (JobStands g w)
  greeted_kept w None its = tt
  greeted_kept w (Some job) its = record { seen = its.seen; hello = tt; phase = its.phase; hand = its.hand }

  welcomed_over : (w : Scene) (e : Emptying) (slots : List SlotNews) (m : Option GroupMapState) → Stands g w e → least_horizon g.log.0 slots ≤ w.net.low
      → Goes w (welcome_over e slots m)
  welcomed_over w e slots None h low = stays g w e h
  welcomed_over w e slots (Some m) h low = job_goes_on g fact w e (input.Welcome slots m) h low tt

  job_welcomed : (w : Scene) (e : Emptying) (m : Welcome) → Stands g w e → least_horizon g.log.0 m.news.slots ≤ w.net.low → Goes w (emptying_welcome e m)
  unfolding emptying_welcome
  job_welcomed w e m h low =
      by_test (Goes w) (is_out (hello_of e.job) m.ask) (welcome_over (record e { job = note_greeted e.job }) m.news.slots e.maps.groups) (still e)
      (λ t. welcomed_over w (record e { job = note_greeted e.job }) m.news.slots e.maps.groups
      (record { lasts = h.lasts; log = h.log; written = h.written; job = greeted_kept w e.job h.job }) low)
      (λ t. stays g w e h)

  welcome_heard : (w : Scene) (e : Emptying) (m : Welcome) → Stands g w e → WelcomeSeen g (its_asker w) w.net node.Cleaner m → MapFits m.news.groups
      → Goes w (on_welcome e m)
  unfolding on_welcome
  welcome_heard w e m h seen fit =
      let d : Done = take_news e m.news in
      by_test (Goes w) ((m.inc == e.lasting.inc) && fits e.maps m.news) (saying d.outs (emptying_welcome d.state m)) (still e)
      (λ t. let p : Goes w d = news_taken w e m.news h seen.map fit in
      and_then g w d (emptying_welcome d.state m) p (job_welcomed p.next d.state m p.stands (let a = seen.low in let b = p.grown.low in omega arith)))
      (λ t. stays g w e h)

  -- the maps are asked for, by a number of their own
  maps_wanted : (w : Scene) (e : Emptying) → has_room e.lasting.questions.last ≡ true → Stands g w e → Goes w (ask_for_maps e)
  maps_wanted w e room h =
      let q : Questions = e.lasting.questions in
      let number : ℕ = next_ask q in
      let rises = ask_rises q room in
      let v : Scene = record { net = w.net; asked = put w.asked number OfMaps } in
      let grown : Grows g w v = asks_grows g w number OfMaps (h.lasts.fresh number rises) in
      record {
        next = v;
        grown = grown;
        stands = record {
          lasts = record { number = refl; inc = h.lasts.inc; fresh = put_fresh w.asked number OfMaps q.last rises h.lasts.fresh };
          log = record { owner = h.log.owner; own = h.log.own };
          written = h.written;
          job = job_more g fact w v grown e h;
        };
        does = (record { own = λ own. subst (AskedBy g (its_asker v) v.net e.lasting.inc) (sym (put_here w.asked number OfMaps)) tt; reached = tt }, tt);
        boot = refl;
        only = λ name fact. inl fact;
      }

  -- ---- packets and time

  body_heard : (w : Scene) (e : Emptying) (from : NodeId) (said : Body) → Stands g w e → BodySeen g (its_asker w) w.net from node.Cleaner said → InRange said
      → Goes w (on_body e from said)
  body_heard w e from (body.MapNews m) h seen fit = news_heard w e m h seen fit
  body_heard w e from (body.Welcome m) h seen fit = welcome_heard w e m h seen fit
  body_heard w e from (body.Poll m) h seen fit = poll_heard w e from m h
  body_heard w e from (body.DeltaAck m) h seen fit = acknowledged w e m h
  body_heard w e from (body.Stored m) h seen fit = stored_came w e m h seen
  body_heard w e from (body.Listed m) h seen fit = list_came g fact w e (server_in from) m h seen
  body_heard w e from (body.Usage m) h seen fit = usage_came g fact w e m h
  body_heard w e from (body.Fragment m) h seen fit = told_came g fact w e (server_in from) m.ask (told.Held m.fragment) h fit
  body_heard w e from (body.Missing m) h seen fit = told_came g fact w e (server_in from) m.ask (told.Missing m.generation) h tt
  body_heard w e from (body.Live m) h seen fit = live_came g fact w e m h fit
  body_heard w e from (body.Dead m) h seen fit = dead_came g fact w e m h
  body_heard w e from (body.Deleted m) h seen fit = deleted_came g fact w e (server_in from) m h
  body_heard w e from _ h seen fit = stays g w e h

  pub packet_heard : (w : Scene) (e : Emptying) (p : packets.Packet) → has_room e.lasting.questions.last ≡ true → Stands g w e
      → BodySeen g (its_asker w) w.net p.from node.Cleaner p.body
      → InRange p.body → Goes w (on_packet e p)
  unfolding on_packet
  packet_heard w e p room h seen fit =
      by_test (Goes w) (names_known_groups e.maps p.body) (on_body e p.from p.body) (ask_for_maps e) (λ t. body_heard w e p.from p.body h seen fit)
      (λ t. maps_wanted w e room h)

  pub time_passes : (w : Scene) (e : Emptying) → has_room e.lasting.questions.last ≡ true → Stands g w e → Goes w (on_tick e)
  unfolding on_tick
  time_passes w e room h =
      let j : Done = emptying_clean e input.Tick in
      let l : Done = emptying_write j.state log_in.Tick in
      let r : Done = record { state = l.state; outs = push_all l.state.promised.managers l.state.feed } in
      let pj : Goes w j = job_in_time g fact w e room h in
      let pl : Goes pj.next l = time_written pj.next j.state pj.stands in
      and_then g w j (saying l.outs r) pj
      (and_then g pj.next l r pl (at_once g pl.next l.state r.outs pl.stands (deltas_pushed pl.next l.state.promised.managers l.state.feed)))
