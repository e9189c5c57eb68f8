-- What a cleaner that serves does for its job and with its log, whatever comes to it: each count that it answers is the number of segments that it has dropped
-- since the item began.
use Rattle.std.proofs.Common.{◌==◌, ◌&&◌, ℕ, Bool, List, [], ◌∷◌, Option, None, Some, nat_lt}
use Rattle.std.specs.List.{AllByRecursion, range_with_len}
use Rattle.cleaner_job.specs.declared.job.Job.{Job}
use Rattle.cleaner_job.specs.Jobs.{check_of, hand_moved, hand_of, hello_of, is_out, lists_of, note_greeted, note_moved, usages_of}
use Rattle.cleaner_job.specs.Starting.{cleaner_log}
use Rattle.cleaner_serving.specs.declared.emptying.Emptying.{Emptying}
use Rattle.cleaner_serving.specs.EmptyingEvents as emptying
use Rattle.cleaner_serving.specs.Jobs as jobs
use Rattle.cleaner_serving.specs.Jobs.{Done}
use Rattle.client_log.specs.declared.input.In.{In as LogIn}
use Rattle.client_log.specs.declared.input.In.TheVariants as log_in
use Rattle.client_log.specs.declared.output.Out.{Out as LogOut}
use Rattle.client_log.specs.declared.output.Out.TheVariants as log_out
use Rattle.client_log.specs.Transition as log
use Rattle.delta_feed.specs.declared.output.Out.{Out as FeedOut}
use Rattle.delta_feed.specs.declared.output.Out.TheVariants.{Range}
use Rattle.delta_feed.specs.FeedState.{FeedState}
use Rattle.delta_feed.specs.Transition as feed
use Rattle.group_map.specs.GroupMapState.{GroupMapState}
use Rattle.log_owner.specs.declared.promised.Managers.{Managers}
use Rattle.log_owner.specs.Promised.{epoch_of}
use Rattle.log_owner.specs.Sending.{name_of, push_all, range, server_in}
use Rattle.node_base.specs.declared.effects.Effect.{Effect}
use Rattle.node_base.specs.declared.effects.Effect.TheVariants.{Send, Does}
use Rattle.node_base.specs.Known.{names_known_groups}
use Rattle.node_base.specs.Maps.{fits, is_older, maps_take}
use Rattle.stripe_cleaner.specs.declared.input.In.{In}
use Rattle.stripe_cleaner.specs.declared.input.In.TheVariants as input
use Rattle.stripe_code.specs.declared.round.Told.TheVariants as answered
use Rattle.version_model.specs.declared.act.Act.TheVariants.{Filed}
use Rattle.wire_msg.specs.declared.body.Body.{Body}
use Rattle.wire_msg.specs.declared.body.Body.TheVariants as body
use Rattle.wire_msg.specs.declared.cleaning.Dead.{Dead}
use Rattle.wire_msg.specs.declared.cleaning.Live.{Live}
use Rattle.wire_msg.specs.declared.cleaning.Usage.{Usage}
use Rattle.wire_msg.specs.declared.deltas.DeltaAck.{DeltaAck}
use Rattle.wire_msg.specs.declared.deltas.Poll.{Poll}
use Rattle.wire_msg.specs.declared.packet.Packet.{Packet}
use Rattle.wire_msg.specs.declared.registry.News.{News}
use Rattle.wire_msg.specs.declared.registry.Welcome.{Welcome}
use Rattle.wire_msg.specs.declared.storage.Deleted.{Deleted}
use Rattle.wire_msg.specs.declared.storage.Listed.{Listed}
use Rattle.xfs_base.proofs.Alls.{all_map}
use Rattle.xfs_base.proofs.Booleans.{by_test}
use Rattle.xfs_base.specs.declared.block.BlockId.{BlockId}
use Rattle.xfs_base.specs.declared.entry.Entry.{Entry}
use Rattle.xfs_base.specs.declared.news.SlotNews.{SlotNews}
use Rattle.xfs_base.specs.declared.node.NodeId.{NodeId}
use Rattle.xfs_base.specs.declared.node.NodeId.TheVariants as node
use Rattle.xfs_base.specs.declared.segment.End.{End}
use Rattle.xfs_base.specs.Steps.{saying, steps, still}
use Rattle.run_answers.proofs.number_law.Tallies.{At, Goes, JobSo, Quiet, first_goes, from_goes, if_goes, plainly, rests, steps_go, then_goes}
use Rattle.run_answers.proofs.number_law.Jobs.{any_job, cleans_go, moved_same, other_hand, told_goes}

-- what is pushed of the log is quiet
range_quiet : (managers : Managers) (o : FeedOut) → Quiet (range managers o)
range_quiet managers (Range slot past upto rows) = tt

pub pushes_quiet : (managers : Managers) (f : FeedState) → AllByRecursion Quiet (push_all managers f)
pushes_quiet managers f = all_map Quiet (range managers) (range_quiet managers) (feed.feed_tick f)

module _ (item : ℕ) where
  -- ---- what comes for it

  listed_goes : (e : Emptying) (server : Option ℕ) (listed : Listed) → Goes item e (jobs.on_listed e server listed)
  unfolding jobs.on_listed
  listed_goes e None listed = rests item e
  listed_goes e (Some server) listed =
      if_goes item (is_out (lists_of e.job) listed.ask) e (jobs.emptying_clean e (input.Listed server listed.held))
      (cleans_go item e (input.Listed server listed.held) (any_job item e.job (input.Listed server listed.held) (λ seen. tt)))

  usages_go : (e : Emptying) (usage : Usage) → Goes item e (jobs.on_usage e usage)
  unfolding jobs.on_usage
  usages_go e usage =
      let given : In = input.Usage usage.slot usage.epoch usage.counts in
      if_goes item (is_out (usages_of e.job) usage.ask) e (jobs.emptying_clean e given) (cleans_go item e given (any_job item e.job given (λ seen. tt)))

  live_goes : (e : Emptying) (live : Live) → Goes item e (jobs.on_live e live)
  unfolding jobs.on_live
  live_goes e live =
      let given : In = input.Live live.block live.epoch live.entry in
      if_goes item (is_out (check_of (hand_of e.job) live.block) live.ask) e (jobs.emptying_clean e given) (cleans_go item e given (any_job item e.job given (λ seen. tt)))

  dead_goes : (e : Emptying) (dead : Dead) → Goes item e (jobs.on_dead e dead)
  unfolding jobs.on_dead
  dead_goes e dead =
      let given : In = input.Dead dead.block dead.epoch in
      if_goes item (is_out (check_of (hand_of e.job) dead.block) dead.ask) e (jobs.emptying_clean e given) (cleans_go item e given (any_job item e.job given (λ seen. tt)))

  deleted_goes : (e : Emptying) (server : Option ℕ) (deleted : Deleted) → Goes item e (jobs.on_deleted e server deleted)
  unfolding jobs.on_deleted
  deleted_goes e None deleted = rests item e
  deleted_goes e (Some server) deleted =
      cleans_go item e (input.Deleted server deleted.name) (any_job item e.job (input.Deleted server deleted.name) (λ seen. tt))

  ticks_go : (e : Emptying) → Goes item e (jobs.emptying_clean e input.Tick)
  ticks_go e = cleans_go item e input.Tick (any_job item e.job input.Tick (λ seen. tt))

  promise_goes : (e : Emptying) (slot : ℕ) → Goes item e (emptying.promise_slot e slot)
  unfolding emptying.promise_slot
  promise_goes e slot =
      cleans_go item e (input.Promise slot (epoch_of e.promised slot)) (any_job item e.job (input.Promise slot (epoch_of e.promised slot)) (λ seen. tt))

  -- a job begins
  pub begins_go : (e : Emptying) (number count : ℕ) → Goes item (emptying.with_new_job e number count) (emptying.begin_job e number count)
  unfolding emptying.begin_job emptying.promise_all
  begins_go e number count =
      let f : Emptying = emptying.with_new_job e number count in
      let d : Done = steps emptying.promise_slot f (range_with_len 0 8) in
      then_goes item f d (jobs.emptying_clean d.state input.Tick) (steps_go item emptying.promise_slot promise_goes f (range_with_len 0 8)) (ticks_go d.state)

  -- ---- the log

  moved_so : (n : ℕ) (u : Option ℕ) (o : Option Job) → JobSo item n u o → JobSo item n u (note_moved o)
  moved_so n u None h = h
  moved_so n u (Some job) h = other_hand item n u job (hand_moved job.hand) (moved_same job.hand) h

  settles_go : (e : Emptying) (end : End) (rows : List (BlockId × Entry)) → Goes item e (emptying.emptying_settle e end rows)
  unfolding emptying.emptying_settle
  settles_go e end rows =
      let f : Emptying = emptying.fed e end rows in
      first_goes item e (Does (Filed (name_of cleaner_log end)) ∷ push_all f.promised.managers f.feed) (jobs.emptying_clean f input.Moved)
      (tt, pushes_quiet f.promised.managers f.feed)
      (from_goes item e f (jobs.emptying_clean f input.Moved) (λ n h. moved_so n e.lasting.items.unanswered e.job h)
      (cleans_go item f input.Moved (any_job item f.job input.Moved (λ seen. tt))))

  one_goes : (e : Emptying) (o : LogOut) → Goes item e (emptying.write_one e o)
  unfolding emptying.write_one
  one_goes e (log_out.Send fragment member) = plainly item e _ (λ n h. h) (tt, tt)
  one_goes e (log_out.Settled end rows) = settles_go e end rows

  writes_go : (e : Emptying) (i : LogIn) → Goes item e (emptying.emptying_write e i)
  unfolding emptying.emptying_write
  writes_go e i =
      let f : Emptying = record e { log = (log.transition e.log i).state } in
      from_goes item e f (steps emptying.write_one f (log.transition e.log i).outs) (λ n h. h)
      (steps_go item emptying.write_one one_goes f (log.transition e.log i).outs)

  ack_goes : (e : Emptying) (a : DeltaAck) → Goes item e (emptying.on_ack e a)
  unfolding emptying.on_ack
  ack_goes e a =
      let f : Emptying = record e { feed = feed.acknowledged e.feed a.slot a.applied } in
      if_goes item (epoch_of e.promised a.slot == a.epoch) e (still f) (plainly item e (still f) (λ n h. h) tt)

  -- ---- promises

  renewed_so : (n : ℕ) (e : Emptying) (slot epoch : ℕ) → At item n e → At item n (emptying.emptying_renew e slot epoch)
  renewed_so n e slot epoch h =
      by_test (At item n) (nat_lt (epoch_of e.promised slot) epoch) (record e { feed = feed.new_epoch e.feed slot }) e (λ _. h) (λ _. h)

  promised_goes : (e : Emptying) (slot epoch manager : ℕ) → Goes item e (jobs.emptying_clean (emptying.emptying_promise e slot epoch manager) (input.Promise slot epoch))
  unfolding emptying.emptying_promise
  promised_goes e slot epoch manager =
      let f : Emptying = emptying.emptying_promise e slot epoch manager in
      from_goes item e f (jobs.emptying_clean f (input.Promise slot epoch)) (λ n h. renewed_so n e slot epoch h)
      (cleans_go item f (input.Promise slot epoch) (any_job item f.job (input.Promise slot epoch) (λ seen. tt)))

  polled_goes : (e : Emptying) (manager : ℕ) (p : Poll) → Goes item e (emptying.on_polled e manager p)
  polled_goes e manager p =
      let kept : Emptying = emptying.emptying_promise e p.slot p.epoch manager in
      let said : List Effect = Send (node.Manager manager) (body.Report (record { slot = p.slot; epoch = p.epoch; held = []; end = kept.log.end })) ∷ [] in
      by_test (Goes item e) (nat_lt p.epoch (epoch_of e.promised p.slot)) (still e) (emptying.emptying_report e manager p) (λ _. rests item e)
      (λ _. first_goes item e said (jobs.emptying_clean kept (input.Promise p.slot p.epoch)) (tt, tt) (promised_goes e p.slot p.epoch manager))

  poll_goes : (e : Emptying) (from : NodeId) (p : Poll) → Goes item e (emptying.on_poll e from p)
  unfolding emptying.on_poll
  poll_goes e (node.Manager manager) p = polled_goes e manager p
  poll_goes e _ p = rests item e

  -- ---- the maps

  slot_goes : (e : Emptying) (news : SlotNews) → Goes item e (emptying.hear_slot e news)
  unfolding emptying.hear_slot
  slot_goes e news =
      if_goes item (nat_lt (epoch_of e.promised news.slot) news.epoch) e
      (jobs.emptying_clean (emptying.emptying_promise e news.slot news.epoch news.manager) (input.Promise news.slot news.epoch))
      (promised_goes e news.slot news.epoch news.manager)

  slots_go : (e : Emptying) (slots : List SlotNews) → Goes item e (emptying.hear_slots e slots)
  unfolding emptying.hear_slots
  slots_go e slots = steps_go item emptying.hear_slot slot_goes e slots

  take_news_goes : (e : Emptying) (news : News) → Goes item e (emptying.take_news e news)
  unfolding emptying.take_news
  take_news_goes e news =
      let newer : Bool = is_older e.maps news in
      let f : Emptying = record e { maps = maps_take e.maps news } in
      let a : Done = emptying.regroup_job f newer news.groups in
      let b : Done = emptying.hear_slots a.state news.slots in
      let c : Done = emptying.regroup_log b.state newer news.groups in
      from_goes item e f (saying a.outs (saying b.outs c)) (λ n h. h)
      (then_goes item f a (saying b.outs c)
      (if_goes item newer f (jobs.emptying_clean f (input.Maps news.groups))
      (cleans_go item f (input.Maps news.groups) (any_job item f.job (input.Maps news.groups) (λ seen. tt))))
      (then_goes item a.state b c (slots_go a.state news.slots)
      (if_goes item newer b.state (emptying.emptying_write b.state (log_in.Maps news.groups)) (writes_go b.state (log_in.Maps news.groups)))))

  over_goes : (e : Emptying) (slots : List SlotNews) (groups : Option GroupMapState) → Goes item e (emptying.welcome_over e slots groups)
  over_goes e slots None = rests item e
  over_goes e slots (Some groups) = cleans_go item e (input.Welcome slots groups) (any_job item e.job (input.Welcome slots groups) (λ seen. tt))

  greeted_so : (n : ℕ) (u : Option ℕ) (o : Option Job) → JobSo item n u o → JobSo item n u (note_greeted o)
  greeted_so n u None h = h
  greeted_so n u (Some job) h = h

  welcomes_go : (e : Emptying) (w : Welcome) → Goes item e (emptying.emptying_welcome e w)
  unfolding emptying.emptying_welcome
  welcomes_go e w =
      let f : Emptying = record e { job = note_greeted e.job } in
      if_goes item (is_out (hello_of e.job) w.ask) e (emptying.welcome_over f w.news.slots e.maps.groups)
      (from_goes item e f (emptying.welcome_over f w.news.slots e.maps.groups) (λ n h. greeted_so n e.lasting.items.unanswered e.job h)
      (over_goes f w.news.slots e.maps.groups))

  welcome_goes : (e : Emptying) (w : Welcome) → Goes item e (emptying.on_welcome e w)
  unfolding emptying.on_welcome
  welcome_goes e w =
      let d : Done = emptying.take_news e w.news in
      if_goes item ((w.inc == e.lasting.inc) && fits e.maps w.news) e (saying d.outs (emptying.emptying_welcome d.state w))
      (then_goes item e d (emptying.emptying_welcome d.state w) (take_news_goes e w.news) (welcomes_go d.state w))

  -- ---- packets and time

  body_goes : (e : Emptying) (from : NodeId) (b : Body) → Goes item e (emptying.on_body e from b)
  body_goes e from (body.MapNews m) = if_goes item (fits e.maps m) e (emptying.take_news e m) (take_news_goes e m)
  body_goes e from (body.Welcome m) = welcome_goes e m
  body_goes e from (body.Poll m) = poll_goes e from m
  body_goes e from (body.DeltaAck m) = ack_goes e m
  body_goes e from (body.Stored m) = writes_go e (log_in.Acked m.name m.index m.generation)
  body_goes e from (body.Listed m) = listed_goes e (server_in from) m
  body_goes e from (body.Usage m) = usages_go e m
  body_goes e from (body.Fragment m) = told_goes item e (server_in from) m.ask (answered.Held m.fragment)
  body_goes e from (body.Missing m) = told_goes item e (server_in from) m.ask (answered.Missing m.generation)
  body_goes e from (body.Live m) = live_goes e m
  body_goes e from (body.Dead m) = dead_goes e m
  body_goes e from (body.Deleted m) = deleted_goes e (server_in from) m
  body_goes e from _ = rests item e

  pub packet_goes : (e : Emptying) (packet : Packet) → Goes item e (emptying.on_packet e packet)
  unfolding emptying.on_packet
  packet_goes e packet =
      by_test (Goes item e) (names_known_groups e.maps packet.body) (emptying.on_body e packet.from packet.body) (emptying.ask_for_maps e)
      (λ _. body_goes e packet.from packet.body) (λ _. plainly item e (emptying.ask_for_maps e) (λ n h. h) (tt, tt))

  pub tick_goes : (e : Emptying) → Goes item e (emptying.on_tick e)
  unfolding emptying.on_tick
  tick_goes e =
      let j : Done = jobs.emptying_clean e input.Tick in
      let l : Done = emptying.emptying_write j.state log_in.Tick in
      let pushed : List Effect = push_all l.state.promised.managers l.state.feed in
      then_goes item e j (saying l.outs (record { state = l.state; outs = pushed })) (ticks_go e)
      (then_goes item j.state l (record { state = l.state; outs = pushed }) (writes_go j.state log_in.Tick)
      (plainly item l.state (record { state = l.state; outs = pushed }) (λ n h. h) (pushes_quiet l.state.promised.managers l.state.feed)))
