-- What packets and time make of a client that serves.
use Rattle.std.proofs.Common.{refl, ℕ, ◌==◌, Bool, List, [], ◌∷◌, ◌++◌, Option, Some, None, nat_lt, ◌&&◌, not}
use Rattle.std.specs.Prelude.{IfSome}
use Rattle.std.specs.List.{AllByRecursion, flat_map}
use Rattle.client_log.specs.declared.input.In.TheVariants as log_in
use Rattle.client_call.specs.Reads.{block_read, Heard, hear_reading, fetch_again, reading_in, value_at}
use Rattle.client_serving.specs.declared.serving.Serving.{Serving}
use Rattle.client_serving.specs.Flights.{held_at, serving_write}
use Rattle.client_serving.specs.Follow.{hand, take_back, serving_follow}
use Rattle.client_serving.specs.Grants.{send_supply, is_stamp}
use Rattle.client_serving.specs.Packets.{on_grant, on_supply, on_forward, again, says_again, on_recall, is_gone, on_gone, is_acked, on_ack, end_fetch, told_at, told_by, on_told, asks_for_maps, serving_renew, serving_promise, reports, may_report, polled, on_poll, promised_in, is_news, serving_hear, regroups, takes_news, on_news, on_welcome, take_body, serving_take, on_tick}
use Rattle.client_serving.specs.Reads.{loses, with_reading}
use Rattle.client_running.specs.Running.{run}
use Rattle.client_serving.specs.Sends.{Done, gives, report}
use Rattle.delta_feed.specs.Transition.{acknowledged, new_epoch}
use Rattle.group_map.specs.GroupMapState.{GroupMapState}
use Rattle.log_owner.specs.Promised.{managers_set}
use Rattle.log_owner.specs.Sending.{push_all}
use Rattle.node_base.specs.declared.effects.Effect.{Effect}
use Rattle.node_base.specs.Known.{names_known_groups}
use Rattle.node_base.specs.Maps.{fits, is_older, maps_take}
use Rattle.node_base.specs.Room.{has_long_room}
use Rattle.segment_reading.specs.declared.reading.Next.{Next}
use Rattle.segment_reading.specs.declared.reading.Next.TheVariants as next
use Rattle.segment_reading.specs.declared.target.BlockAt.{BlockAt}
use Rattle.segment_reading.specs.Reading.{ReadingState}
use Rattle.stripe_code.specs.declared.round.Told.{Told as Answered}
use Rattle.stripe_code.specs.declared.round.Told.TheVariants as answered
use Rattle.token_client.specs.declared.input.In.TheVariants as input
use Rattle.token_client.specs.declared.output.Out as outputs
use Rattle.token_client.specs.declared.output.Out.TheVariants as output
use Rattle.token_client.specs.Transition as client
use Rattle.wire_msg.specs.declared.body.Body.{Body}
use Rattle.wire_msg.specs.declared.body.Body.TheVariants as body
use Rattle.wire_msg.specs.declared.deltas.DeltaAck.{DeltaAck}
use Rattle.wire_msg.specs.declared.deltas.Poll.{Poll}
use Rattle.wire_msg.specs.declared.packet.Packet.{Packet}
use Rattle.wire_msg.specs.declared.registry.News.{News}
use Rattle.wire_msg.specs.declared.registry.Welcome.{Welcome}
use Rattle.wire_msg.specs.declared.tokens.Forward.{Forward}
use Rattle.wire_msg.specs.declared.tokens.Gone.{Gone}
use Rattle.wire_msg.specs.declared.tokens.Grant.{Grant}
use Rattle.wire_msg.specs.declared.tokens.Recall.{Recall}
use Rattle.wire_msg.specs.declared.tokens.Supply.{Supply}
use Rattle.node_base.specs.Asking.{next_ask}
use Rattle.xfs_base.proofs.Alls.{all_append}
use Rattle.xfs_base.proofs.Booleans.{by_test}
use Rattle.xfs_base.specs.declared.news.SlotNews.{SlotNews}
use Rattle.xfs_base.specs.declared.node.NodeId.{NodeId}
use Rattle.xfs_base.specs.declared.node.NodeId.TheVariants as node
use Rattle.xfs_base.specs.Modes.{is_own}
use Rattle.xfs_base.specs.Steps.{Stepped, still, saying, steps}
use Rattle.node_moves.proofs.client_walk.Frames as frames
use Rattle.node_moves.proofs.client_walk.LogTurns.{tick_rests}
use Rattle.node_moves.proofs.client_walk.Laws.{Walk, Hears, OfServer, Tells}
use Rattle.node_moves.proofs.client_walk.Readings as readings
use Rattle.node_moves.proofs.client_walk.Promises.{all_hear_left, leaves_so, promises_left}
use Rattle.node_moves.proofs.client_walk.Flights as flights
use Rattle.node_moves.proofs.client_walk.Calls as calls
use Rattle.node_moves.proofs.client_walk.Tokens as serving

module _ (w : Walk) where
  abbrev At : Serving → Type 0
  At s = w.Stands s

  abbrev Goes : Done → Type 0
  Goes d = serving.Goes w d

  still_so : (s : Serving) → At s → Goes (still s)
  still_so s h = serving.still_so w s h

  -- ---- tokens

  pub on_grant_so : (s : Serving) (m : Grant) → w.Granted m.block m.entry → At s → Goes (on_grant s m)
  unfolding on_grant
  on_grant_so s m fact h =
      by_test (λ (d : Done). Goes d) (is_own m.mode && not (has_long_room m.entry.ver)) (still s)
      (hand s (input.Granted m.block m.stamp m.inc m.req m.mode m.entry))
      (λ t. still_so s h) (λ t. serving.hand_so w s (input.Granted m.block m.stamp m.inc m.req m.mode m.entry) fact h)

  pub on_supply_so : (s : Serving) (m : Supply) → At s → Goes (on_supply s m)
  unfolding on_supply
  on_supply_so s m h = serving.hand_so w s (input.Supplied m.block m.stamp m.inc m.req m.ver m.value) tt h

  supplies_say : (f : Forward) (outs : List outputs.Out) → AllByRecursion w.Says (flat_map (send_supply f) outs)
  supplies_say f [] = tt
  supplies_say f (output.Supply block ver value ∷ outs) =
      all_append w.Says (send_supply f (output.Supply block ver value)) (flat_map (send_supply f) outs) (w.supplied f block ver value) (supplies_say f outs)
  supplies_say f (output.Want block req again mode ∷ outs) = supplies_say f outs
  supplies_say f (output.Gave block stamp ∷ outs) = supplies_say f outs
  supplies_say f (output.Flush block ∷ outs) = supplies_say f outs
  supplies_say f (output.Read block place ∷ outs) = supplies_say f outs
  supplies_say f (output.Ready block ∷ outs) = supplies_say f outs

  pub on_forward_so : (s : Serving) (f : Forward) → At s → Goes (on_forward s f)
  unfolding on_forward
  on_forward_so s f h =
      let taken : client.Done = client.on_forwarded s.tokens f.block f.stamp f.ver in
      serving.plain_so w (record s { tokens = taken.state }) (flat_map (send_supply f) taken.outs)
      (w.tokens s (input.Forwarded f.block f.stamp f.ver) tt h) (supplies_say f taken.outs)

  again_says : (s : Serving) (r : Recall) (outs : List outputs.Out) → At s → AllByRecursion w.Says (again s r outs)
  again_says s r [] h = tt
  again_says s r (o ∷ outs) h = (w.gaves s r.block r.stamp h, tt)

  pub on_recall_so : (s : Serving) (r : Recall) → At s → Goes (on_recall s r)
  unfolding on_recall
  on_recall_so s r h =
      let d : client.Done = client.on_recalled s.tokens r.block r.stamp r.keep in
      let t : Serving = record s { tokens = d.state } in
      by_test (λ (x : Done). Goes x) (is_stamp (held_at s r.block).stamp r.stamp) (says_again s r d) (take_back s r.block r.stamp r.keep)
      (λ e. serving.plain_so w t (again t r d.outs)
      (w.tokens s (input.Recalled r.block r.stamp r.keep) tt h)
      (again_says t r d.outs (w.tokens s (input.Recalled r.block r.stamp r.keep) tt h)))
      (λ e. serving.take_back_so w s r.block r.stamp r.keep h)

  pub on_gone_so : (s : Serving) (m : Gone) → At s → Goes (on_gone s m)
  unfolding on_gone
  on_gone_so s m h =
      by_test (λ (d : Done). Goes d) (is_gone s m) (loses s m.block m.seg) (still s) (λ t. serving.loses_so w s m.block m.seg h) (λ t. still_so s h)

  pub on_ack_so : (s : Serving) (a : DeltaAck) → At s → Goes (still (on_ack s a))
  unfolding on_ack
  on_ack_so s a h =
      still_so (on_ack s a)
      (by_test (λ (t : Serving). At t) (is_acked s a) (record s { feed = acknowledged s.feed a.slot a.applied }) s
      (λ t. w.acked s a.slot a.applied h) (λ t. h))

  -- ---- fragments

  end_fetch_so : (s : Serving) (at : BlockAt) (x : Next) → At s → Goes (end_fetch s at x)
  end_fetch_so s at next.Again h = serving.hand_so w s (input.Reask at.block) tt h
  end_fetch_so s at (next.Read segment) h = serving.hand_so w s (input.Fetched at.block (value_at segment at.item)) tt h
  end_fetch_so s at _ h = still_so s h

  told_at_so : (s : Serving) (at : Option BlockAt) (x : Heard) → IfSome x.reading w.Reading → At s → Goes (told_at s at x)
  told_at_so s None x fact h = still_so s h
  told_at_so s (Some at) x fact h = end_fetch_so (with_reading s x.reading) at x.next (serving.read_so w s x.reading fact h)

  told_by_so : (s : Serving) (server ask : ℕ) (t : Answered) → w.Came ask server t → At s → Goes (told_by s server ask t)
  unfolding told_by
  told_by_so s server ask t fact h =
      told_at_so s (block_read (reading_in s.call)) (hear_reading (reading_in s.call) s.maps.groups ask server t)
      (readings.hear_reading_so w.Reading (reading_in s.call) s.maps.groups ask server t (λ r groups known. w.answered r groups ask server t fact known)
      (w.reads s h)) h

  pub on_told_so : (s : Serving) (from : NodeId) (ask : ℕ) (t : Answered) → OfServer (λ server. w.Came ask server t) from → At s → Goes (on_told s from ask t)
  on_told_so s (node.Server server) ask t fact h = told_by_so s server ask t fact h
  on_told_so s _ ask t fact h = still_so s h

  -- ---- promises

  -- what is known of its log before the event
  abbrev Owed : Serving → Type 0
  Owed s = w.Owed s.lasting s.log

  serving_renew_so : (s : Serving) (slot epoch : ℕ) → At s → At (serving_renew s slot epoch)
  unfolding serving_renew
  serving_renew_so s slot epoch h =
      by_test (λ (t : Serving). At t) (nat_lt _ epoch) (record s { feed = new_epoch s.feed slot }) s
      (λ t. w.renewed s slot h) (λ t. h)

  pub serving_promise_so : (s : Serving) (slot epoch manager : ℕ) → At s → At (serving_promise s slot epoch manager).state
  unfolding serving_promise
  serving_promise_so s slot epoch manager h =
      let t : Serving = serving_renew s slot epoch in
      let k : At t = serving_renew_so s slot epoch h in
      let u : Serving = record t { managers = managers_set t.managers slot manager; tokens = (client.on_promise t.tokens slot epoch).state } in
      serving.ends_so w u
      (w.tokens (record t { managers = managers_set t.managers slot manager }) (input.Promise slot epoch) tt (w.managed t (managers_set t.managers slot manager) k))

  pub promises_told : (s : Serving) (slot epoch manager : ℕ) → AllByRecursion (Tells w.Lies) (serving_promise s slot epoch manager).outs
  unfolding serving_promise
  promises_told s slot epoch manager =
      w.tells (serving_renew s slot epoch).tokens (input.Promise slot epoch) tt

  promised_in_so : (s : Serving) (news : SlotNews) → At s → Goes (promised_in s news)
  promised_in_so s news h =
      let p : Stepped Serving outputs.Out = serving_promise s news.slot news.epoch news.manager in
      serving.serving_follow_so w p.state p.outs (promises_told s news.slot news.epoch news.manager) (serving_promise_so s news.slot news.epoch news.manager h)

  reports_so : (slot epoch : ℕ) (p : Stepped Serving outputs.Out) → AllByRecursion (Tells w.Lies) p.outs → Owed p.state → At p.state
      → Goes (reports slot epoch p)
  reports_so slot epoch p all owed h =
      frames.goes_after w.Says w.Acted w.Stands (report p.state slot epoch ∷ []) (serving_follow p.state p.outs)
      (w.reports p.state slot epoch owed h, tt) (serving.serving_follow_so w p.state p.outs all h)

  polled_so : (s : Serving) (manager : ℕ) (p : Poll) → Owed s → At s → Goes (polled s manager p)
  unfolding polled
  polled_so s manager p owed h =
      by_test (λ (d : Done). Goes d) (may_report s p) (reports p.slot p.epoch (serving_promise s p.slot p.epoch manager)) (still s)
      (λ t. reports_so p.slot p.epoch (serving_promise s p.slot p.epoch manager) (promises_told s p.slot p.epoch manager)
      (leaves_so w.Owed s (serving_promise s p.slot p.epoch manager).state (promises_left s p.slot p.epoch manager) owed) (serving_promise_so s p.slot p.epoch manager h)) (λ t. still_so s h)

  on_poll_so : (s : Serving) (from : NodeId) (p : Poll) → Owed s → At s → Goes (on_poll s from p)
  on_poll_so s (node.Manager manager) p owed h = polled_so s manager p owed h
  on_poll_so s _ p owed h = still_so s h

  -- ---- maps

  pub serving_hear_so : (s : Serving) (news : SlotNews) → At s → Goes (serving_hear s news)
  unfolding serving_hear
  serving_hear_so s news h = by_test (λ (d : Done). Goes d) (is_news s news) (promised_in s news) (still s) (λ t. promised_in_so s news h) (λ t. still_so s h)

  pub all_hear_so : (s : Serving) (slots : List SlotNews) → At s → Goes (steps serving_hear s slots)
  all_hear_so s slots h = frames.goes_steps w.Says w.Acted w.Stands serving_hear serving_hear_so s slots h

  regroups_so : (s : Serving) (newer : Bool) (m : GroupMapState) → At s → Owed s → Goes (regroups s newer m)
  regroups_so s newer m h owed =
      by_test (λ (d : Done). Goes d) newer (serving_write s (log_in.Maps m)) (still s) (λ t. flights.serving_write_so w s (log_in.Maps m) h owed) (λ t. still_so s h)

  takes_news_so : (s : Serving) (news : News) → w.Mapped news.groups → At s → Owed s → Goes (takes_news s news)
  unfolding takes_news
  takes_news_so s news fact h owed =
      let t : Serving = record s { maps = maps_take s.maps news } in
      let d : Done = steps serving_hear t news.slots in
      frames.goes_on w.Says w.Acted w.Stands d (regroups d.state (is_older s.maps news) news.groups) (all_hear_so t news.slots (w.maps s news fact h))
      (λ k. regroups_so d.state (is_older s.maps news) news.groups k (leaves_so w.Owed t d.state (all_hear_left t news.slots) owed))

  on_news_so : (s : Serving) (news : News) → w.Mapped news.groups → At s → Owed s → Goes (on_news s news)
  on_news_so s news fact h owed =
      by_test (λ (d : Done). Goes d) (fits s.maps news) (takes_news s news) (still s) (λ t. takes_news_so s news fact h owed) (λ t. still_so s h)

  on_welcome_so : (s : Serving) (m : Welcome) → w.Mapped m.news.groups → At s → Owed s → Goes (on_welcome s m)
  unfolding on_welcome
  on_welcome_so s m fact h owed =
      by_test (λ (d : Done). Goes d) (m.inc == s.lasting.inc) (on_news s m.news) (still s) (λ t. on_news_so s m.news fact h owed) (λ t. still_so s h)

  pub asks_for_maps_so : (s : Serving) → At s → Goes (asks_for_maps s)
  unfolding asks_for_maps
  asks_for_maps_so s h = frames.goes_plain w.Says w.Acted w.Stands (asks_for_maps s).state (asks_for_maps s).outs
      (w.lasts s (asks_for_maps s).state.lasting refl h) (w.asks s.lasting.inc (next_ask s.lasting.questions), tt)

  -- ---- a packet

  body_so : (s : Serving) (from : NodeId) (b : Body) → Hears w from b → At s → Owed s → Goes (take_body s from b)
  body_so s from (body.Grant m) fact h owed = on_grant_so s m fact h
  body_so s from (body.Supply m) fact h owed = on_supply_so s m h
  body_so s from (body.Forward m) fact h owed = on_forward_so s m h
  body_so s from (body.Recall m) fact h owed = on_recall_so s m h
  body_so s from (body.Gone m) fact h owed = on_gone_so s m h
  body_so s from (body.DeltaAck m) fact h owed = on_ack_so s m h
  body_so s from (body.Poll m) fact h owed = on_poll_so s from m owed h
  body_so s from (body.Stored m) fact h owed = flights.serving_write_so w s (log_in.Acked m.name m.index m.generation) h owed
  body_so s from (body.Fragment m) fact h owed = on_told_so s from m.ask (answered.Held m.fragment) fact h
  body_so s from (body.Missing m) fact h owed = on_told_so s from m.ask (answered.Missing m.generation) fact h
  body_so s from (body.MapNews m) fact h owed = on_news_so s m fact h owed
  body_so s from (body.Welcome m) fact h owed = on_welcome_so s m fact h owed
  body_so s from _ fact h owed = still_so s h

  packet_goes : (s : Serving) (p : Packet) → Hears w p.from p.body → At s → Owed s → Goes (serving_take s p)
  unfolding serving_take
  packet_goes s p fact h owed =
      by_test (λ (d : Done). Goes d) (names_known_groups s.maps p.body) (take_body s p.from p.body) (asks_for_maps s) (λ t. body_so s p.from p.body fact h owed)
      (λ t. asks_for_maps_so s h)

  -- what is done, and then the open call runs
  abbrev pub and_runs : Done → Done
  and_runs d = saying d.outs (run d.state)

  pub runs_after : (d : Done) → Goes d → Goes (and_runs d)
  runs_after d p = frames.goes_on w.Says w.Acted w.Stands d (run d.state) p (λ h. calls.run_so w d.state h)

  pub packet_so : (s : Serving) (p : Packet) → Hears w p.from p.body → At s → Owed s → Goes (and_runs (serving_take s p))
  packet_so s p fact h owed = runs_after (serving_take s p) (packet_goes s p fact h owed)

  -- ---- time

  fetched_says : (r : Option ReadingState) → AllByRecursion w.Says (fetch_again r)
  fetched_says None = tt
  fetched_says (Some r) = serving.fetches_say w r

  pub tick_goes : (s : Serving) → At s → Goes (on_tick s)
  unfolding on_tick
  tick_goes s h =
      let a : Done = hand s input.Tick in
      let l : Done = serving_write a.state log_in.Tick in
      let fetched : List Effect = fetch_again (reading_in a.state.call) in
      let pushed : List Effect = push_all l.state.managers l.state.feed in
      frames.goes_on w.Says w.Acted w.Stands a (gives l.state (fetched ++ (l.outs ++ pushed))) (serving.hand_so w s input.Tick tt h)
      (λ k. frames.goes_after w.Says w.Acted w.Stands fetched (gives l.state (l.outs ++ pushed)) (fetched_says (reading_in a.state.call))
      (frames.goes_and_gives w.Says w.Acted w.Stands l l.state pushed (flights.rests_so w a.state log_in.Tick k (tick_rests a.state.log)) (λ i. i)
      (λ i. w.all_pushed l.state i)))

  pub time_so : (s : Serving) → At s → Goes (and_runs (on_tick s))
  time_so s h = runs_after (on_tick s) (tick_goes s h)
