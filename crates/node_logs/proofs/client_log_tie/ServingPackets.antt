-- What packets, time and the beginning of an item make of a client that serves.
use Rattle.std.proofs.Common.{◌≡◌, ◌<◌, ℕ, ◌==◌, Bool, true, List, [], ◌∷◌, ◌++◌, Option, Some, None, refl, sym, subst, nat_lt, ◌&&◌, not}
use Rattle.std.specs.List.{flat_map}
use Rattle.std.proofs.lemmas.List.Elements.{All-nil, All-cons}
use Rattle.client_log.specs.declared.input.In.TheVariants as log_in
use Rattle.client_call.specs.Reads.{block_read, Heard, hear_reading, fetch_again, reading_in, value_at}
use Rattle.client_serving.specs.declared.serving.Serving.{Serving}
use Rattle.client_serving.specs.Flights.{held_at, serving_write}
use Rattle.client_serving.specs.Follow.{hand, take_back, serving_follow}
use Rattle.client_serving.specs.Grants.{send_supply, is_stamp}
use Rattle.client_serving.specs.Packets.{on_grant, on_supply, on_forward, again, says_again, on_recall, is_gone, on_gone, is_acked, on_ack, end_fetch, told_at, told_by, on_told, asks_for_maps, serving_renew, serving_promise, reports, may_report, polled, on_poll, promised_in, is_news, serving_hear, regroups, takes_news, on_news, on_welcome, take_body, serving_take, on_tick}
use Rattle.client_serving.specs.Reads.{loses, with_reading}
use Rattle.client_running.specs.Running.{run}
use Rattle.client_serving.specs.Sends.{Done, gives, report}
use Rattle.delta_feed.specs.Transition.{acknowledged, new_epoch}
use Rattle.group_map.specs.GroupMapState.{GroupMapState}
use Rattle.log_owner.specs.Sending.{hello, push_all}
use Rattle.node_base.specs.Asking.{next_ask}
use Rattle.node_base.specs.declared.effects.Effect.{Effect}
use Rattle.node_base.specs.Known.{names_known_groups}
use Rattle.node_base.specs.Maps.{fits, is_older, maps_take}
use Rattle.node_base.specs.Room.{has_room, has_long_room}
use Rattle.segment_reading.specs.declared.reading.Next.{Next}
use Rattle.segment_reading.specs.declared.reading.Next.TheVariants as next
use Rattle.segment_reading.specs.declared.target.BlockAt.{BlockAt}
use Rattle.segment_reading.specs.Reading.{ReadingState}
use Rattle.stripe_code.specs.declared.round.Told.{Told}
use Rattle.stripe_code.specs.declared.round.Told.TheVariants as told
use Rattle.token_client.specs.declared.input.In.TheVariants as input
use Rattle.token_client.specs.declared.output.Out as outputs
use Rattle.token_client.specs.declared.output.Out.TheVariants as output
use Rattle.token_client.specs.Transition as client
use Rattle.wire_msg.specs.declared.body.Body.{Body}
use Rattle.wire_msg.specs.declared.body.Body.TheVariants as body
use Rattle.wire_msg.specs.declared.deltas.DeltaAck.{DeltaAck}
use Rattle.wire_msg.specs.declared.deltas.Poll.{Poll}
use Rattle.wire_msg.specs.declared.packet.Packet.{Packet}
use Rattle.wire_msg.specs.declared.registry.News.{News}
use Rattle.wire_msg.specs.declared.registry.Welcome.{Welcome}
use Rattle.wire_msg.specs.declared.tokens.Forward.{Forward}
use Rattle.wire_msg.specs.declared.tokens.Gone.{Gone}
use Rattle.wire_msg.specs.declared.tokens.Grant.{Grant}
use Rattle.wire_msg.specs.declared.tokens.Recall.{Recall}
use Rattle.wire_msg.specs.declared.tokens.Supply.{Supply}
use Rattle.xfs_base.proofs.Booleans.{by_test}
use Rattle.xfs_base.specs.declared.news.SlotNews.{SlotNews}
use Rattle.xfs_base.specs.declared.node.NodeId.{NodeId}
use Rattle.xfs_base.specs.declared.node.NodeId.TheVariants as node
use Rattle.xfs_base.specs.Modes.{is_own}
use Rattle.xfs_base.specs.Steps.{Stepped, still, saying, steps}
use Rattle.log_protocol.specs.Tables.{In, put}
use Rattle.log_tie.specs.Setting.{Setting}
use Rattle.log_law.specs.Net.Packet.{MapSent}
use Rattle.node_logs.specs.node_log_tie.Sight.{BodySeen, AskedBy}
use Rattle.node_logs.specs.node_log_tie.Sight.Question.{OfMaps}
use Rattle.node_logs.specs.client_log_tie.Puts.{PutsOwn}
use Rattle.node_logs.proofs.client_log_tie.Puts.{took_nothing}
use Rattle.node_logs.specs.client_log_tie.Owner.{Scene, asker}
use Rattle.node_logs.specs.client_log_tie.Texts.{MapFits}
use Rattle.node_logs.specs.client_log_tie.ClientEvents.{BodyFits}
use Rattle.node_logs.proofs.client_log_tie.Frames.{ClientDoes}
use Rattle.node_logs.proofs.client_log_tie.Frames as frames
use Rattle.node_logs.proofs.client_log_tie.Questions.{ask_rises, asks_grown, put_here, put_fresh}
use Rattle.node_logs.proofs.client_log_tie.ServingCalls as calls
use Rattle.node_logs.proofs.client_log_tie.ServingLog as flights
use Rattle.node_logs.proofs.client_log_tie.ServingTokens as tokens

module _ (g : Setting) (c : ℕ) (fact : g.log ≡ record { 0 = c }) where
  abbrev At : Scene → Serving → Type 0
  At w s = frames.At g c w s

  abbrev Goes : Scene → Done → Type 0
  Goes w d = frames.Goes g c w d

  still_so : (w : Scene) (s : Serving) → At w s → Goes w (still s)
  still_so w s h = tokens.still_so g c w s h

  -- ---- tokens

  on_grant_so : (w : Scene) (s : Serving) (m : Grant) → At w s → Goes w (on_grant s m)
  unfolding on_grant
  on_grant_so w s m h =
      by_test (λ (d : Done). Goes w d) (is_own m.mode && not (has_long_room m.entry.ver)) (still s)
      (hand s (input.Granted m.block m.stamp m.inc m.req m.mode m.entry))
      (λ t. still_so w s h) (λ t. tokens.hand_so g c w s (input.Granted m.block m.stamp m.inc m.req m.mode m.entry) h)

  on_supply_so : (w : Scene) (s : Serving) (m : Supply) → At w s → Goes w (on_supply s m)
  unfolding on_supply
  on_supply_so w s m h = tokens.hand_so g c w s (input.Supplied m.block m.stamp m.inc m.req m.ver m.value) h

  plain_supplies : (f : Forward) (outs : List outputs.Out) → frames.Plain g c (flat_map (send_supply f) outs)
  plain_supplies f [] = tokens.plain_nothing g c
  plain_supplies f (output.Supply block ver value ∷ outs) = λ w. All-cons (ClientDoes g c w) _ (flat_map (send_supply f) outs) tt (plain_supplies f outs w)
  plain_supplies f (output.Want block req again mode ∷ outs) = plain_supplies f outs
  plain_supplies f (output.Gave block stamp ∷ outs) = plain_supplies f outs
  plain_supplies f (output.Flush block ∷ outs) = plain_supplies f outs
  plain_supplies f (output.Read block place ∷ outs) = plain_supplies f outs
  plain_supplies f (output.Ready block ∷ outs) = plain_supplies f outs

  on_forward_so : (w : Scene) (s : Serving) (f : Forward) → At w s → Goes w (on_forward s f)
  unfolding on_forward
  on_forward_so w s f h =
      let taken : client.Done = client.on_forwarded s.tokens f.block f.stamp f.ver in
      frames.goes_plain g c w (record s { tokens = taken.state }) (flat_map (send_supply f) taken.outs) h (plain_supplies f taken.outs)

  plain_again : (s : Serving) (r : Recall) (outs : List outputs.Out) → frames.Plain g c (again s r outs)
  plain_again s r [] = tokens.plain_nothing g c
  plain_again s r (o ∷ outs) = tokens.plain_one g c _ (λ w. tt)

  on_recall_so : (w : Scene) (s : Serving) (r : Recall) → At w s → Goes w (on_recall s r)
  unfolding on_recall
  on_recall_so w s r h =
      let d : client.Done = client.on_recalled s.tokens r.block r.stamp r.keep in
      let t : Serving = record s { tokens = d.state } in
      by_test (λ (x : Done). Goes w x) (is_stamp (held_at s r.block).stamp r.stamp) (says_again s r d) (take_back s r.block r.stamp r.keep)
      (λ e. frames.goes_plain g c w t (again t r d.outs) h (plain_again t r d.outs)) (λ e. tokens.take_back_so g c w s r.block r.stamp r.keep h)

  on_gone_so : (w : Scene) (s : Serving) (m : Gone) → At w s → Goes w (on_gone s m)
  unfolding on_gone
  on_gone_so w s m h =
      by_test (λ (d : Done). Goes w d) (is_gone s m) (loses s m.block m.seg) (still s) (λ t. tokens.loses_so g c w s m.block m.seg h) (λ t. still_so w s h)

  on_ack_so : (w : Scene) (s : Serving) (a : DeltaAck) → At w s → Goes w (still (on_ack s a))
  unfolding on_ack
  on_ack_so w s a h =
      still_so w (on_ack s a) (by_test (λ (t : Serving). At w t) (is_acked s a) (record s { feed = acknowledged s.feed a.slot a.applied }) s (λ t. h) (λ t. h))

  -- ---- fragments

  end_fetch_so : (w : Scene) (s : Serving) (at : BlockAt) (x : Next) → At w s → Goes w (end_fetch s at x)
  end_fetch_so w s at next.Again h = tokens.hand_so g c w s (input.Reask at.block) h
  end_fetch_so w s at (next.Read segment) h = tokens.hand_so g c w s (input.Fetched at.block (value_at segment at.item)) h
  end_fetch_so w s at _ h = still_so w s h

  told_at_so : (w : Scene) (s : Serving) (at : Option BlockAt) (x : Heard) → At w s → Goes w (told_at s at x)
  told_at_so w s None x h = still_so w s h
  told_at_so w s (Some at) x h = end_fetch_so w (with_reading s x.reading) at x.next h

  told_by_so : (w : Scene) (s : Serving) (server ask : ℕ) (t : Told) → At w s → Goes w (told_by s server ask t)
  unfolding told_by
  told_by_so w s server ask t h = told_at_so w s (block_read (reading_in s.call)) (hear_reading (reading_in s.call) s.maps.groups ask server t) h

  on_told_so : (w : Scene) (s : Serving) (from : NodeId) (ask : ℕ) (t : Told) → At w s → Goes w (on_told s from ask t)
  on_told_so w s (node.Server server) ask t h = told_by_so w s server ask t h
  on_told_so w s _ ask t h = still_so w s h

  -- ---- promises

  serving_renew_so : (w : Scene) (s : Serving) (slot epoch : ℕ) → At w s → At w (serving_renew s slot epoch)
  unfolding serving_renew
  serving_renew_so w s slot epoch h = by_test (λ (t : Serving). At w t) (nat_lt _ epoch) (record s { feed = new_epoch s.feed slot }) s (λ t. h) (λ t. h)

  serving_promise_so : (w : Scene) (s : Serving) (slot epoch manager : ℕ) → At w s → At w (serving_promise s slot epoch manager).state
  unfolding serving_promise
  serving_promise_so w s slot epoch manager h = serving_renew_so w s slot epoch h

  promised_in_so : (w : Scene) (s : Serving) (news : SlotNews) → At w s → Goes w (promised_in s news)
  promised_in_so w s news h =
      let p : Stepped Serving outputs.Out = serving_promise s news.slot news.epoch news.manager in
      tokens.serving_follow_so g c w p.state p.outs (serving_promise_so w s news.slot news.epoch news.manager h)

  reports_so : (w : Scene) (slot epoch : ℕ) (p : Stepped Serving outputs.Out) → At w p.state → Goes w (reports slot epoch p)
  reports_so w slot epoch p h =
      frames.goes_after g c w (report p.state slot epoch ∷ []) (serving_follow p.state p.outs) (tokens.plain_one g c _ (λ v. tt))
      (tokens.serving_follow_so g c w p.state p.outs h)

  polled_so : (w : Scene) (s : Serving) (manager : ℕ) (p : Poll) → At w s → Goes w (polled s manager p)
  unfolding polled
  polled_so w s manager p h =
      by_test (λ (d : Done). Goes w d) (may_report s p) (reports p.slot p.epoch (serving_promise s p.slot p.epoch manager)) (still s)
      (λ t. reports_so w p.slot p.epoch (serving_promise s p.slot p.epoch manager) (serving_promise_so w s p.slot p.epoch manager h)) (λ t. still_so w s h)

  on_poll_so : (w : Scene) (s : Serving) (from : NodeId) (p : Poll) → At w s → Goes w (on_poll s from p)
  on_poll_so w s (node.Manager manager) p h = polled_so w s manager p h
  on_poll_so w s _ p h = still_so w s h

  -- ---- maps

  serving_hear_so : (w : Scene) (s : Serving) (news : SlotNews) → At w s → Goes w (serving_hear s news)
  unfolding serving_hear
  serving_hear_so w s news h = by_test (λ (d : Done). Goes w d) (is_news s news) (promised_in s news) (still s) (λ t. promised_in_so w s news h) (λ t. still_so w s h)

  regroups_so : (w : Scene) (s : Serving) (newer : Bool) (m : GroupMapState) → At w s → In (MapSent m) w.net.sent → MapFits m → Goes w (regroups s newer m)
  regroups_so w s newer m h came small =
      by_test (λ (d : Done). Goes w d) newer (serving_write s (log_in.Maps m)) (still s) (λ t. flights.maps_so g c fact w s m h came small) (λ t. still_so w s h)

  takes_news_so : (w : Scene) (s : Serving) (news : News) → At w s → In (MapSent news.groups) w.net.sent → MapFits news.groups → Goes w (takes_news s news)
  unfolding takes_news
  takes_news_so w s news h came small =
      let t : Serving = record s { maps = maps_take s.maps news } in
      let d : Done = steps serving_hear t news.slots in
      frames.goes_on_in g c w d (regroups d.state (is_older s.maps news) news.groups) (frames.goes_steps g c serving_hear serving_hear_so w t news.slots h)
      (λ v grown k. regroups_so v d.state (is_older s.maps news) news.groups k (grown.sent _ came) small)

  on_news_so : (w : Scene) (s : Serving) (news : News) → At w s → In (MapSent news.groups) w.net.sent → MapFits news.groups → Goes w (on_news s news)
  on_news_so w s news h came small =
      by_test (λ (d : Done). Goes w d) (fits s.maps news) (takes_news s news) (still s) (λ t. takes_news_so w s news h came small) (λ t. still_so w s h)

  on_welcome_so : (w : Scene) (s : Serving) (m : Welcome) → At w s → In (MapSent m.news.groups) w.net.sent → MapFits m.news.groups → Goes w (on_welcome s m)
  unfolding on_welcome
  on_welcome_so w s m h came small =
      by_test (λ (d : Done). Goes w d) (m.inc == s.lasting.inc) (on_news s m.news) (still s) (λ t. on_news_so w s m.news h came small) (λ t. still_so w s h)

  -- the maps are asked for, by a number of their own
  asks_for_maps_so : (w : Scene) (s : Serving) → At w s → has_room s.lasting.questions.last ≡ true → Goes w (asks_for_maps s)
  unfolding asks_for_maps
  asks_for_maps_so w s h room =
      let number : ℕ = next_ask s.lasting.questions in
      let rises : s.lasting.questions.last < number = ask_rises s.lasting.questions room in
      let v : Scene = record { net = w.net; asked = put w.asked number OfMaps } in
      record {
        next = v;
        grown = asks_grown g w number OfMaps (h.lasts.fresh number rises);
        stands = record {
          lasts = record {
            number = h.lasts.number;
            inc = h.lasts.inc;
            fresh = put_fresh w.asked number OfMaps s.lasting.questions.last rises h.lasts.fresh;
          };
          sees = record { owner = h.sees.owner; own = h.sees.own };
          written = h.written;
        };
        does = All-cons (ClientDoes g c v) (hello s.lasting.inc number) []
            (record { own = λ e. subst (AskedBy g (asker c v) v.net s.lasting.inc) (sym (put_here w.asked number OfMaps)) tt; reached = tt })
            (All-nil (ClientDoes g c v));
        boot = refl;
        puts = took_nothing PutsOwn w.net;
      }

  -- ---- a packet

  body_so : (w : Scene) (s : Serving) (from to : NodeId) (b : Body) → BodySeen g (asker c w) w.net from to b → BodyFits b → At w s → Goes w (take_body s from b)
  body_so w s from to (body.Grant m) seen small h = on_grant_so w s m h
  body_so w s from to (body.Supply m) seen small h = on_supply_so w s m h
  body_so w s from to (body.Forward m) seen small h = on_forward_so w s m h
  body_so w s from to (body.Recall m) seen small h = on_recall_so w s m h
  body_so w s from to (body.Gone m) seen small h = on_gone_so w s m h
  body_so w s from to (body.DeltaAck m) seen small h = on_ack_so w s m h
  body_so w s from to (body.Poll m) seen small h = on_poll_so w s from m h
  body_so w s from to (body.Stored m) seen small h = flights.stored_so g c fact w s m.name m.index m.generation h seen
  body_so w s from to (body.Fragment m) seen small h = on_told_so w s from m.ask (told.Held m.fragment) h
  body_so w s from to (body.Missing m) seen small h = on_told_so w s from m.ask (told.Missing m.generation) h
  body_so w s from to (body.MapNews m) seen small h = on_news_so w s m h seen small
  body_so w s from to (body.Welcome m) seen small h = on_welcome_so w s m h seen.map small
  body_so w s from to _ seen small h = still_so w s h

  packet_goes : (w : Scene) (s : Serving) (p : Packet) → BodySeen g (asker c w) w.net p.from p.to p.body → BodyFits p.body
      → has_room s.lasting.questions.last ≡ true → At w s
      → Goes w (serving_take s p)
  unfolding serving_take
  packet_goes w s p seen small room h =
      by_test (λ (d : Done). Goes w d) (names_known_groups s.maps p.body) (take_body s p.from p.body) (asks_for_maps s)
      (λ t. body_so w s p.from p.to p.body seen small h) (λ t. asks_for_maps_so w s h room)

  -- what is done, and then the open call runs
  abbrev pub and_runs : Done → Done
  and_runs d = saying d.outs (run d.state)

  pub runs_after : (w : Scene) (d : Done) → Goes w d → Goes w (and_runs d)
  runs_after w d p = frames.goes_on g c w d (run d.state) p (λ v h. calls.run_so g c fact v d.state h)

  pub packet_so : (w : Scene) (s : Serving) (p : Packet) → BodySeen g (asker c w) w.net p.from p.to p.body → BodyFits p.body
      → has_room s.lasting.questions.last ≡ true → At w s → Goes w (and_runs (serving_take s p))
  packet_so w s p seen small room h = runs_after w (serving_take s p) (packet_goes w s p seen small room h)

  -- ---- time

  plain_fetched : (r : Option ReadingState) → frames.Plain g c (fetch_again r)
  plain_fetched None = tokens.plain_nothing g c
  plain_fetched (Some r) = tokens.plain_fetches g c r

  tick_goes : (w : Scene) (s : Serving) → At w s → Goes w (on_tick s)
  unfolding on_tick
  tick_goes w s h =
      let a : Done = hand s input.Tick in
      let l : Done = serving_write a.state log_in.Tick in
      let fetched : List Effect = fetch_again (reading_in a.state.call) in
      frames.goes_on g c w a (gives l.state (fetched ++ (l.outs ++ push_all l.state.managers l.state.feed))) (tokens.hand_so g c w s input.Tick h)
      (λ v k. frames.goes_after g c v fetched (gives l.state (l.outs ++ push_all l.state.managers l.state.feed)) (plain_fetched (reading_in a.state.call))
      (frames.goes_and_gives g c v l l.state (push_all l.state.managers l.state.feed) (flights.ticks_so g c fact v a.state k) (λ u i. i)
      (tokens.plain_pushes_all g c l.state.managers l.state.feed)))

  pub time_so : (w : Scene) (s : Serving) → At w s → Goes w (and_runs (on_tick s))
  time_so w s h = runs_after w (on_tick s) (tick_goes w s h)
