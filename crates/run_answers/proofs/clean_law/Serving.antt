-- What a cleaner that serves does for its job and with its log, whatever comes to it: what it takes is what is due.
use Rattle.std.proofs.Common.{◌≡◌, ◌<◌, ◌==◌, ◌&&◌, ℕ, Bool, true, List, [], ◌∷◌, Option, None, Some, nat_lt, refl, ap, subst, ◌∙◌}
use Rattle.std.proofs.lemmas.Bool.{eqb-true}
use Rattle.std.specs.List.{range_with_len}
use Rattle.std.specs.Prelude.{IfSome}
use Rattle.cleaner_job.specs.declared.hand.Hand.{Hand}
use Rattle.cleaner_job.specs.declared.job.Job.{Job}
use Rattle.cleaner_job.specs.Jobs.{check_of, hand_moved, hand_of, hello_of, is_out, lists_of, note_greeted, note_moved, usages_of}
use Rattle.cleaner_job.specs.Starting.{cleaner_log}
use Rattle.cleaner_serving.specs.declared.emptying.Emptying.{Emptying}
use Rattle.cleaner_serving.specs.EmptyingEvents as emptying
use Rattle.cleaner_serving.specs.Jobs as jobs
use Rattle.cleaner_serving.specs.Jobs.{Done}
use Rattle.client_log.specs.declared.input.In.{In as LogIn}
use Rattle.client_log.specs.declared.input.In.TheVariants as log_in
use Rattle.client_log.specs.declared.output.Out.{Out as LogOut}
use Rattle.client_log.specs.declared.output.Out.TheVariants as log_out
use Rattle.client_log.specs.Transition as log
use Rattle.delta_feed.specs.Transition as feed
use Rattle.group_map.specs.GroupMapState.{GroupMapState}
use Rattle.log_owner.specs.Promised.{epoch_of}
use Rattle.log_owner.specs.Sending.{name_of, push_all, server_in}
use Rattle.node_base.specs.Asking.{draw}
use Rattle.node_base.specs.declared.effects.Effect.{Effect}
use Rattle.node_base.specs.declared.effects.Effect.TheVariants.{Send, Does}
use Rattle.node_base.specs.declared.questions.Questions.{Questions}
use Rattle.node_base.specs.Known.{names_known_groups}
use Rattle.node_base.specs.Maps.{fits, is_older, maps_take}
use Rattle.stripe_cleaner.specs.declared.input.In.{In as Input}
use Rattle.stripe_cleaner.specs.declared.input.In.TheVariants as input
use Rattle.stripe_code.specs.declared.round.Told.TheVariants as answered
use Rattle.version_model.specs.declared.act.Act.TheVariants.{Filed}
use Rattle.wire_msg.specs.declared.body.Body.{Body}
use Rattle.wire_msg.specs.declared.body.Body.TheVariants as body
use Rattle.wire_msg.specs.declared.cleaning.Dead.{Dead}
use Rattle.wire_msg.specs.declared.cleaning.Live.{Live}
use Rattle.wire_msg.specs.declared.cleaning.Usage.{Usage}
use Rattle.wire_msg.specs.declared.deltas.DeltaAck.{DeltaAck}
use Rattle.wire_msg.specs.declared.deltas.Poll.{Poll}
use Rattle.wire_msg.specs.declared.packet.Packet.{Packet}
use Rattle.wire_msg.specs.declared.registry.News.{News}
use Rattle.wire_msg.specs.declared.registry.Welcome.{Welcome}
use Rattle.wire_msg.specs.declared.storage.Deleted.{Deleted}
use Rattle.wire_msg.specs.declared.storage.Found.{Found}
use Rattle.wire_msg.specs.declared.storage.Listed.{Listed}
use Rattle.wire_msg.specs.declared.storage.Missing.{Missing}
use Rattle.xfs_base.proofs.Booleans.{by_test, contrary}
use Rattle.xfs_base.specs.declared.block.BlockId.{BlockId}
use Rattle.xfs_base.specs.declared.entry.Entry.{Entry}
use Rattle.xfs_base.specs.declared.news.SlotNews.{SlotNews}
use Rattle.xfs_base.specs.declared.node.NodeId.{NodeId}
use Rattle.xfs_base.specs.declared.node.NodeId.TheVariants as node
use Rattle.xfs_base.specs.declared.segment.End.{End}
use Rattle.xfs_base.specs.declared.segment.SegRef.{SegRef}
use Rattle.xfs_base.specs.Limits.{u32_end}
use Rattle.xfs_base.specs.Steps.{saying, steps, still}
use Rattle.run_answers.proofs.clean_law.Frames.{At, Frame, Goes, HandSo, JobSo, Knows, first_goes, from_goes, if_goes, plainly, rests, steps_go, then_goes, until}
use Rattle.run_answers.proofs.clean_law.Readings.{next_least}
use Rattle.run_answers.proofs.clean_law.Standing.{HandOf, InHand}
use Rattle.run_answers.proofs.clean_law.Telling.{tells_go}
use Rattle.run_answers.proofs.clean_law.Working.{cleans_go, questions_later, with_hand}
use Rattle.run_answers.proofs.number_law.Emptying.{pushes_quiet}
use Rattle.headline.specs.Cleanings.KnowsGroups.{ByNews, ByWelcome}
use Rattle.headline.specs.Tellings.{HasCome}

server_is : (name : NodeId) (server : ℕ) → server_in name ≡ Some server → name ≡ node.Server server
server_is (node.Server n) server fact = cc
server_is (node.Client n) server fact = absurd cc
server_is (node.Manager n) server fact = absurd cc
server_is node.Cleaner server fact = absurd cc
server_is node.Registry server fact = absurd cc

out_is : (o : Option ℕ) (ask : ℕ) → is_out o ask ≡ true → o ≡ Some ask
out_is None ask fact = contrary fact
out_is (Some awaited) ask fact = ap Some (eqb-true awaited ask fact)

module _ (f : Frame) where
  abbrev Came : NodeId → Body → Type 0
  Came from said = HasCome f.e node.Cleaner f.begun f.end from said

  -- ---- what comes for it

  listed_goes : (s : Emptying) (server : Option ℕ) (m : Listed) → ((n : ℕ) → server ≡ Some n → Came (node.Server n) (body.Listed m))
      → Goes f s (jobs.on_listed s server m)
  unfolding jobs.on_listed
  listed_goes s None m come = rests f s
  listed_goes s (Some server) m come =
      if_goes f (is_out (lists_of s.job) m.ask) s (jobs.emptying_clean s (input.Listed server m.held))
      (λ fact. cleans_go f s (input.Listed server m.held)
      (λ job same k.
      let under : job.lists ≡ Some m.ask = out_is job.lists m.ask (subst (λ (o : Option Job). is_out (lists_of o) m.ask ≡ true) same fact) in
      record {
        list = m;
        come = come server refl;
        held_is = refl;
        under = under;
        newer = subst (λ (o : Option ℕ). IfSome o (λ (ask : ℕ). f.last < ask)) under k.lists;
      }))

  usages_go : (s : Emptying) (usage : Usage) → Goes f s (jobs.on_usage s usage)
  unfolding jobs.on_usage
  usages_go s usage =
      let given : Input = input.Usage usage.slot usage.epoch usage.counts in
      if_goes f (is_out (usages_of s.job) usage.ask) s (jobs.emptying_clean s given) (λ _. cleans_go f s given (λ job same k. tt))

  live_goes : (s : Emptying) (live : Live) → Goes f s (jobs.on_live s live)
  unfolding jobs.on_live
  live_goes s live =
      let given : Input = input.Live live.block live.epoch live.entry in
      if_goes f (is_out (check_of (hand_of s.job) live.block) live.ask) s (jobs.emptying_clean s given) (λ _. cleans_go f s given (λ job same k. tt))

  dead_goes : (s : Emptying) (dead : Dead) → Goes f s (jobs.on_dead s dead)
  unfolding jobs.on_dead
  dead_goes s dead =
      let given : Input = input.Dead dead.block dead.epoch in
      if_goes f (is_out (check_of (hand_of s.job) dead.block) dead.ask) s (jobs.emptying_clean s given) (λ _. cleans_go f s given (λ job same k. tt))

  deleted_goes : (s : Emptying) (server : Option ℕ) (deleted : Deleted) → Goes f s (jobs.on_deleted s server deleted)
  unfolding jobs.on_deleted
  deleted_goes s None deleted = rests f s
  deleted_goes s (Some server) deleted = cleans_go f s (input.Deleted server deleted.name) (λ job same k. tt)

  ticks_go : (s : Emptying) → Goes f s (jobs.emptying_clean s input.Tick)
  ticks_go s = cleans_go f s input.Tick (λ job same k. tt)

  promise_goes : (s : Emptying) (slot : ℕ) → Goes f s (emptying.promise_slot s slot)
  unfolding emptying.promise_slot
  promise_goes s slot = cleans_go f s (input.Promise slot (epoch_of s.promised slot)) (λ job same k. tt)

  -- a job begins
  pub begins_go : (s : Emptying) (number count : ℕ) → Goes f (emptying.with_new_job s number count) (emptying.begin_job s number count)
  unfolding emptying.begin_job emptying.promise_all
  begins_go s number count =
      let t : Emptying = emptying.with_new_job s number count in
      let d : Done = steps emptying.promise_slot t (range_with_len 0 8) in
      then_goes f t d (jobs.emptying_clean d.state input.Tick) (steps_go f emptying.promise_slot promise_goes t (range_with_len 0 8)) (ticks_go d.state)

  -- ---- the log

  moved_hand : (q : Questions) (o : Option Hand) → IfSome o (HandSo f q) → IfSome (hand_moved o) (HandSo f q)
  moved_hand q None h = tt
  moved_hand q (Some hand) h = record { reading = h.reading; dropped = h.dropped }

  moved_any : (o : Option Hand) (x : SegRef) → HandOf o x → HandOf (hand_moved o) x
  moved_any None x h = tt
  moved_any (Some hand) x h = h

  moved_is : (o : Option Hand) (x : SegRef) → InHand o x → InHand (hand_moved o) x
  moved_is None x h = h
  moved_is (Some hand) x h = h

  moved_so : (u : Option ℕ) (q : Questions) (groups : Option GroupMapState) (o : Option Job) → JobSo f u q groups o → JobSo f u q groups (note_moved o)
  moved_so u q groups None h = tt
  moved_so u q groups (Some job) h = with_hand f u q groups job (hand_moved job.hand) (moved_hand q job.hand h.hand) (moved_any job.hand) (moved_is job.hand) h

  settles_go : (s : Emptying) (end : End) (rows : List (BlockId × Entry)) → Goes f s (emptying.emptying_settle s end rows)
  unfolding emptying.emptying_settle
  settles_go s end rows =
      let t : Emptying = emptying.fed s end rows in
      first_goes f s (Does (Filed (name_of cleaner_log end)) ∷ push_all t.promised.managers t.feed) (jobs.emptying_clean t input.Moved)
      (tt, pushes_quiet t.promised.managers t.feed)
      (from_goes f s t (jobs.emptying_clean t input.Moved) (λ h. moved_so s.lasting.items.unanswered s.lasting.questions s.maps.groups s.job h)
      (cleans_go f t input.Moved (λ job same k. tt)))

  one_goes : (s : Emptying) (o : LogOut) → Goes f s (emptying.write_one s o)
  unfolding emptying.write_one
  one_goes s (log_out.Send fragment member) = plainly f s _ (λ h. h) (tt, tt)
  one_goes s (log_out.Settled end rows) = settles_go s end rows

  writes_go : (s : Emptying) (i : LogIn) → Goes f s (emptying.emptying_write s i)
  unfolding emptying.emptying_write
  writes_go s i =
      let t : Emptying = record s { log = (log.transition s.log i).state } in
      from_goes f s t (steps emptying.write_one t (log.transition s.log i).outs) (λ h. h)
      (steps_go f emptying.write_one one_goes t (log.transition s.log i).outs)

  ack_goes : (s : Emptying) (a : DeltaAck) → Goes f s (emptying.on_ack s a)
  unfolding emptying.on_ack
  ack_goes s a =
      let t : Emptying = record s { feed = feed.acknowledged s.feed a.slot a.applied } in
      by_test (Goes f s) (epoch_of s.promised a.slot == a.epoch) (still t) (still s) (λ _. plainly f s (still t) (λ h. h) tt) (λ _. rests f s)

  -- ---- promises

  renewed_so : (s : Emptying) (slot epoch : ℕ) → At f s → At f (emptying.emptying_renew s slot epoch)
  renewed_so s slot epoch h =
      by_test (At f) (nat_lt (epoch_of s.promised slot) epoch) (record s { feed = feed.new_epoch s.feed slot }) s (λ _. h) (λ _. h)

  promised_goes : (s : Emptying) (slot epoch manager : ℕ) → Goes f s (jobs.emptying_clean (emptying.emptying_promise s slot epoch manager) (input.Promise slot epoch))
  unfolding emptying.emptying_promise
  promised_goes s slot epoch manager =
      let t : Emptying = emptying.emptying_promise s slot epoch manager in
      from_goes f s t (jobs.emptying_clean t (input.Promise slot epoch)) (λ h. renewed_so s slot epoch h)
      (cleans_go f t (input.Promise slot epoch) (λ job same k. tt))

  polled_goes : (s : Emptying) (manager : ℕ) (p : Poll) → Goes f s (emptying.on_polled s manager p)
  polled_goes s manager p =
      let kept : Emptying = emptying.emptying_promise s p.slot p.epoch manager in
      let said : List Effect = Send (node.Manager manager) (body.Report (record { slot = p.slot; epoch = p.epoch; held = []; end = kept.log.end })) ∷ [] in
      by_test (Goes f s) (nat_lt p.epoch (epoch_of s.promised p.slot)) (still s) (emptying.emptying_report s manager p) (λ _. rests f s)
      (λ _. first_goes f s said (jobs.emptying_clean kept (input.Promise p.slot p.epoch)) (tt, tt) (promised_goes s p.slot p.epoch manager))

  poll_goes : (s : Emptying) (from : NodeId) (p : Poll) → Goes f s (emptying.on_poll s from p)
  unfolding emptying.on_poll
  poll_goes s (node.Manager manager) p = polled_goes s manager p
  poll_goes s _ p = rests f s

  -- ---- the maps

  slot_goes : (s : Emptying) (news : SlotNews) → Goes f s (emptying.hear_slot s news)
  unfolding emptying.hear_slot
  slot_goes s news =
      if_goes f (nat_lt (epoch_of s.promised news.slot) news.epoch) s
      (jobs.emptying_clean (emptying.emptying_promise s news.slot news.epoch news.manager) (input.Promise news.slot news.epoch))
      (λ _. promised_goes s news.slot news.epoch news.manager)

  slots_go : (s : Emptying) (slots : List SlotNews) → Goes f s (emptying.hear_slots s slots)
  unfolding emptying.hear_slots
  slots_go s slots = steps_go f emptying.hear_slot slot_goes s slots

  mapped_so : (u : Option ℕ) (q : Questions) (groups other : Option GroupMapState) → IfSome other (Knows f) → (o : Option Job) → JobSo f u q groups o
      → JobSo f u q other o
  mapped_so u q groups other known None h = tt
  mapped_so u q groups other known (Some job) h = record {
    waits = h.waits;
    low = h.low;
    known = known;
    hello = h.hello;
    lists = h.lists;
    count = h.count;
    hand = h.hand;
    phase = h.phase;
  }

  taken_maps : (s : Emptying) (news : News) → Knows f news.groups → At f s → At f (record s { maps = maps_take s.maps news })
  taken_maps s news known h =
      by_test (λ maps. JobSo f s.lasting.items.unanswered s.lasting.questions maps.groups s.job) (is_older s.maps news)
      (record s.maps { version = news.version; groups = Some news.groups }) s.maps
      (λ _. mapped_so s.lasting.items.unanswered s.lasting.questions s.maps.groups (Some news.groups) known s.job h) (λ _. h)

  take_news_goes : (s : Emptying) (news : News) → Knows f news.groups → Goes f s (emptying.take_news s news)
  unfolding emptying.take_news
  take_news_goes s news known =
      let newer : Bool = is_older s.maps news in
      let t : Emptying = record s { maps = maps_take s.maps news } in
      let a : Done = emptying.regroup_job t newer news.groups in
      let b : Done = emptying.hear_slots a.state news.slots in
      let c : Done = emptying.regroup_log b.state newer news.groups in
      from_goes f s t (saying a.outs (saying b.outs c)) (taken_maps s news known)
      (then_goes f t a (saying b.outs c)
      (if_goes f newer t (jobs.emptying_clean t (input.Maps news.groups)) (λ _. cleans_go f t (input.Maps news.groups) (λ job same k. tt)))
      (then_goes f a.state b c (slots_go a.state news.slots)
      (if_goes f newer b.state (emptying.emptying_write b.state (log_in.Maps news.groups)) (λ _. writes_go b.state (log_in.Maps news.groups)))))

  -- ---- the Welcome

  module _ (from : NodeId) (w : Welcome) (come : Came from (body.Welcome w)) where
    over_goes : (s : Emptying) (groups : Option GroupMapState) → s.maps.groups ≡ groups → f.last < w.ask
        → Goes f s (emptying.welcome_over s w.news.slots groups)
    over_goes s None same newer = rests f s
    over_goes s (Some groups) same newer =
        cleans_go f s (input.Welcome w.news.slots groups)
        (λ job its k. record {
          welcomed = record {
            from = from;
            welcome = w;
            welcomed = come;
            answers = newer;
            groups = groups;
            known = subst (λ (o : Option GroupMapState). IfSome o (Knows f)) same k.known;
          };
          slots_are = refl;
          groups_are = refl;
        })

    greeted_so : (u : Option ℕ) (q : Questions) (groups : Option GroupMapState) (o : Option Job) → JobSo f u q groups o → JobSo f u q groups (note_greeted o)
    greeted_so u q groups None h = tt
    greeted_so u q groups (Some job) h = record {
      waits = h.waits;
      low = h.low;
      known = h.known;
      hello = tt;
      lists = h.lists;
      count = h.count;
      hand = h.hand;
      phase = h.phase;
    }

    answers_newer : (u : Option ℕ) (q : Questions) (groups : Option GroupMapState) (o : Option Job) → JobSo f u q groups o
        → is_out (hello_of o) w.ask ≡ true → f.last < w.ask
    answers_newer u q groups None h fact = contrary fact
    answers_newer u q groups (Some job) h fact = subst (λ (o : Option ℕ). IfSome o (λ (ask : ℕ). f.last < ask)) (out_is job.hello w.ask fact) h.hello

    welcomes_go : (s : Emptying) → Goes f s (emptying.emptying_welcome s w)
    unfolding emptying.emptying_welcome
    welcomes_go s =
        let t : Emptying = record s { job = note_greeted s.job } in
        if_goes f (is_out (hello_of s.job) w.ask) s (emptying.welcome_over t w.news.slots s.maps.groups)
        (λ fact h acted.
        over_goes t s.maps.groups refl (answers_newer s.lasting.items.unanswered s.lasting.questions s.maps.groups s.job h fact)
        (greeted_so s.lasting.items.unanswered s.lasting.questions s.maps.groups s.job h) acted)

    welcome_goes : (s : Emptying) → Goes f s (emptying.on_welcome s w)
    unfolding emptying.on_welcome
    welcome_goes s =
        let d : Done = emptying.take_news s w.news in
        if_goes f ((w.inc == s.lasting.inc) && fits s.maps w.news) s (saying d.outs (emptying.emptying_welcome d.state w))
        (λ _. then_goes f s d (emptying.emptying_welcome d.state w) (take_news_goes s w.news (ByWelcome from w come refl)) (welcomes_go d.state))

  -- ---- packets and time

  abbrev from_server : (from : NodeId) (said : Body) → Came from said → (n : ℕ) → server_in from ≡ Some n → Came (node.Server n) said
  from_server from said come n same = record {
    place = come.place;
    since = come.since;
    before = come.before;
    packet = come.packet;
    happens = come.happens;
    to_it = come.to_it;
    from_it = come.from_it ∙ server_is from n same;
    says = come.says;
  }

  found_goes : (s : Emptying) → s.lasting.questions.last < u32_end → (from : NodeId) (server : Option ℕ) → server_in from ≡ server → (m : Found)
      → (come : Came from (body.Fragment m)) → At (until f come.place) s → Goes f s (jobs.on_told s server m.ask (answered.Held m.fragment))
  unfolding jobs.on_told
  found_goes s room from None sender m come was = rests f s
  found_goes s room from (Some n) sender m come was =
      tells_go f m.ask n (answered.Held m.fragment) come.place
      (λ name asked. (m, from_server from (body.Fragment m) come n sender, asked, refl, refl)) s room was

  missing_goes : (s : Emptying) → s.lasting.questions.last < u32_end → (from : NodeId) (server : Option ℕ) → server_in from ≡ server → (m : Missing)
      → (come : Came from (body.Missing m)) → At (until f come.place) s → Goes f s (jobs.on_told s server m.ask (answered.Missing m.generation))
  unfolding jobs.on_told
  missing_goes s room from None sender m come was = rests f s
  missing_goes s room from (Some n) sender m come was =
      tells_go f m.ask n (answered.Missing m.generation) come.place
      (λ name asked. (m, from_server from (body.Missing m) come n sender, asked, refl, refl)) s room was

  body_goes : (s : Emptying) → s.lasting.questions.last < u32_end → (from : NodeId) (b : Body) → (come : Came from b) → At (until f come.place) s
      → Goes f s (emptying.on_body s from b)
  body_goes s room from (body.MapNews m) come was =
      if_goes f (fits s.maps m) s (emptying.take_news s m) (λ _. take_news_goes s m (ByNews from m come refl))
  body_goes s room from (body.Welcome m) come was = welcome_goes from m come s
  body_goes s room from (body.Poll m) come was = poll_goes s from m
  body_goes s room from (body.DeltaAck m) come was = ack_goes s m
  body_goes s room from (body.Stored m) come was = writes_go s (log_in.Acked m.name m.index m.generation)
  body_goes s room from (body.Listed m) come was = listed_goes s (server_in from) m (from_server from (body.Listed m) come)
  body_goes s room from (body.Usage m) come was = usages_go s m
  body_goes s room from (body.Fragment m) come was = found_goes s room from (server_in from) refl m come was
  body_goes s room from (body.Missing m) come was = missing_goes s room from (server_in from) refl m come was
  body_goes s room from (body.Live m) come was = live_goes s m
  body_goes s room from (body.Dead m) come was = dead_goes s m
  body_goes s room from (body.Deleted m) come was = deleted_goes s (server_in from) m
  body_goes s room from _ come was = rests f s

  drawn_so : (u : Option ℕ) (q : Questions) (groups : Option GroupMapState) (o : Option Job) → JobSo f u q groups o → JobSo f u (draw q) groups o
  drawn_so u q groups None h = tt
  drawn_so u q groups (Some job) h = questions_later f u q (draw q) groups job (next_least q) h

  pub packet_goes : (s : Emptying) → s.lasting.questions.last < u32_end → (packet : Packet) → (come : Came packet.from packet.body)
      → At (until f come.place) s → Goes f s (emptying.on_packet s packet)
  unfolding emptying.on_packet
  packet_goes s room packet come was =
      by_test (Goes f s) (names_known_groups s.maps packet.body) (emptying.on_body s packet.from packet.body) (emptying.ask_for_maps s)
      (λ _. body_goes s room packet.from packet.body come was)
      (λ _. plainly f s (emptying.ask_for_maps s) (λ h. drawn_so s.lasting.items.unanswered s.lasting.questions s.maps.groups s.job h) (tt, tt))

  pub tick_goes : (s : Emptying) → Goes f s (emptying.on_tick s)
  unfolding emptying.on_tick
  tick_goes s =
      let j : Done = jobs.emptying_clean s input.Tick in
      let l : Done = emptying.emptying_write j.state log_in.Tick in
      let pushed : List Effect = push_all l.state.promised.managers l.state.feed in
      then_goes f s j (saying l.outs (record { state = l.state; outs = pushed })) (ticks_go s)
      (then_goes f j.state l (record { state = l.state; outs = pushed }) (writes_go j.state log_in.Tick)
      (plainly f l.state (record { state = l.state; outs = pushed }) (λ h. h) (pushes_quiet l.state.promised.managers l.state.feed)))
