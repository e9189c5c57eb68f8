-- A client that serves asks for its call still, whatever a packet says, and as time passes.
use Rattle.std.proofs.Common.{◌≡◌, ℕ, Bool, true, ◌&&◌, ◌==◌, not, nat_lt, List, Option, Some, None, option_map, refl}
use Rattle.client_log.specs.declared.input.In.TheVariants as log_in
use Rattle.client_call.specs.Reads.{block_read, hear_reading, Heard, reading_in, value_at}
use Rattle.client_serving.specs.declared.serving.Serving.{Serving}
use Rattle.client_serving.specs.Flights.{held_at, on_stored, serving_write}
use Rattle.client_serving.specs.Follow.{serving_follow, hand, take_back}
use Rattle.client_serving.specs.Grants.{is_stamp, is_want}
use Rattle.client_serving.specs.Packets.{asks_for_maps, end_fetch, serving_hear, is_acked, is_gone, is_news, may_report, on_ack, take_body, on_forward, on_found, on_gone, on_grant, on_missing, on_news, serving_take, on_poll, on_recall, on_supply, on_tick, on_told, on_welcome, polled, promised_by, promised_in, serving_promise, regroups, serving_renew, reports, says_again, takes_news, told_at, told_by}
use Rattle.client_serving.specs.Reads.{ends_reading, loses, with_reading}
use Rattle.client_serving.specs.Sends.{Done}
use Rattle.delta_feed.specs.Transition.{acknowledged, new_epoch}
use Rattle.group_map.specs.GroupMapState.{GroupMapState}
use Rattle.log_owner.specs.Promised.{managers_set}
use Rattle.node_base.specs.Known.{names_known_groups}
use Rattle.node_base.specs.Maps.{fits, is_older, maps_take}
use Rattle.node_base.specs.Room.{has_long_room}
use Rattle.segment_reading.specs.declared.reading.Next.{Next}
use Rattle.segment_reading.specs.declared.reading.Next.TheVariants as next
use Rattle.segment_reading.specs.declared.target.BlockAt.{BlockAt}
use Rattle.stripe_code.specs.declared.round.Told.{Told}
use Rattle.stripe_code.specs.declared.round.Told.TheVariants as told
use Rattle.token_client.specs.declared.held.Wanted.{Wanted}
use Rattle.token_client.specs.declared.input.In.TheVariants as tokens
use Rattle.token_client.specs.declared.output.Out.{Out}
use Rattle.token_client.specs.State.{epoch_of}
use Rattle.token_client.specs.Transition.{on_promise, on_recalled}
use Rattle.wire_msg.specs.declared.body.Body.{Body}
use Rattle.wire_msg.specs.declared.body.Body.TheVariants as body
use Rattle.wire_msg.specs.declared.deltas.DeltaAck.{DeltaAck}
use Rattle.wire_msg.specs.declared.deltas.Poll.{Poll}
use Rattle.wire_msg.specs.declared.packet.Packet.{Packet}
use Rattle.wire_msg.specs.declared.registry.News.{News}
use Rattle.wire_msg.specs.declared.registry.Welcome.{Welcome}
use Rattle.wire_msg.specs.declared.storage.Found.{Found}
use Rattle.wire_msg.specs.declared.storage.Missing.{Missing}
use Rattle.wire_msg.specs.declared.tokens.Forward.{Forward}
use Rattle.wire_msg.specs.declared.tokens.Gone.{Gone}
use Rattle.wire_msg.specs.declared.tokens.Grant.{Grant}
use Rattle.wire_msg.specs.declared.tokens.Recall.{Recall}
use Rattle.wire_msg.specs.declared.tokens.Supply.{Supply}
use Rattle.xfs_base.specs.Blocks.{slot_of}
use Rattle.xfs_base.specs.declared.news.SlotNews.{SlotNews}
use Rattle.xfs_base.specs.declared.node.NodeId.{NodeId}
use Rattle.xfs_base.specs.declared.node.NodeId.TheVariants as node
use Rattle.xfs_base.specs.Modes.{is_own}
use Rattle.xfs_base.specs.Steps.{still, steps}
use Rattle.xfs_base.proofs.Booleans.{by_test, and_second, contrary}
use Rattle.node_slots.specs.node_tie.Asks.{AsksForCall, needed}
use Rattle.node_slots.proofs.node_tie.AsksBlock.{Need}
use Rattle.node_slots.proofs.node_tie.AsksInputs.{transition-asks, transition-quiet}
use Rattle.node_slots.proofs.node_tie.AsksFrames.{Keeps, kept, keeps_same, keeps_through, steps_keep, takes-keeps}
use Rattle.node_slots.proofs.node_tie.AsksFollow.{ends_reading-keeps, serving_follow-keeps, hand-keeps, take_back-keeps, with_reading-keeps}
use Rattle.node_slots.proofs.node_tie.AsksFlights.{serving_write-keeps}
use Rattle.node_slots.proofs.node_tie.AsksReads.{grant-asks, loses-asks}

module _ (n : Need) where
  abbrev KeepsAll : Serving → Done → Type 0
  KeepsAll s d = Keeps n s d.state

  -- ---- tokens

  on_supply-keeps : (s : Serving) (p : Supply) → KeepsAll s (on_supply s p)
  unfolding on_supply
  on_supply-keeps s p = hand-keeps n s (tokens.Supplied p.block p.stamp p.inc p.req p.ver p.value) tt

  on_forward-keeps : (s : Serving) (f : Forward) → KeepsAll s (on_forward s f)
  unfolding on_forward
  on_forward-keeps s f = takes-keeps n s (tokens.Forwarded f.block f.stamp f.ver) tt

  on_recall-keeps : (s : Serving) (r : Recall) → KeepsAll s (on_recall s r)
  unfolding on_recall
  on_recall-keeps s r =
      by_test (KeepsAll s) (is_stamp (held_at s r.block).stamp r.stamp) (says_again s r (on_recalled s.tokens r.block r.stamp r.keep))
      (take_back s r.block r.stamp r.keep)
      (λ t. takes-keeps n s (tokens.Recalled r.block r.stamp r.keep) tt) (λ t. take_back-keeps n s r.block r.stamp r.keep)

  on_ack-keeps : (s : Serving) (m : DeltaAck) → Keeps n s (on_ack s m)
  unfolding on_ack
  on_ack-keeps s m =
      by_test (Keeps n s) (is_acked s m) (record s { feed = acknowledged s.feed m.slot m.applied }) s (λ t a. record { asks = a; call = refl; item = refl })
      (λ t. keeps_same n s)

  -- ---- fragments

  end_fetch-keeps : (s : Serving) (at : BlockAt) (does : Next) → KeepsAll s (end_fetch s at does)
  end_fetch-keeps s at next.Again = hand-keeps n s (tokens.Reask at.block) tt
  end_fetch-keeps s at (next.Read segment) = hand-keeps n s (tokens.Fetched at.block (value_at segment at.item)) tt
  end_fetch-keeps s at _ = keeps_same n s

  told_at-keeps : (s : Serving) (at : Option BlockAt) (h : Heard) → KeepsAll s (told_at s at h)
  told_at-keeps s None h = keeps_same n s
  told_at-keeps s (Some at) h =
      let t : Serving = with_reading s h.reading in
      keeps_through n s t (end_fetch t at h.next).state (with_reading-keeps n s h.reading) (end_fetch-keeps t at h.next)

  told_by-keeps : (s : Serving) (server ask : ℕ) (t : Told) → KeepsAll s (told_by s server ask t)
  unfolding told_by
  told_by-keeps s server ask t = told_at-keeps s (block_read (reading_in s.call)) (hear_reading (reading_in s.call) s.maps.groups ask server t)

  on_told-keeps : (s : Serving) (from : NodeId) (ask : ℕ) (t : Told) → KeepsAll s (on_told s from ask t)
  on_told-keeps s (node.Server server) ask t = told_by-keeps s server ask t
  on_told-keeps s _ ask t = keeps_same n s

  on_found-keeps : (s : Serving) (from : NodeId) (f : Found) → KeepsAll s (on_found s from f)
  on_found-keeps s from f = on_told-keeps s from f.ask (told.Held f.fragment)

  on_missing-keeps : (s : Serving) (from : NodeId) (m : Missing) → KeepsAll s (on_missing s from m)
  on_missing-keeps s from m = on_told-keeps s from m.ask (told.Missing m.generation)

  -- ---- promises

  serving_renew-keeps : (s : Serving) (slot epoch : ℕ) → Keeps n s (serving_renew s slot epoch)
  unfolding serving_renew
  serving_renew-keeps s slot epoch =
      by_test (Keeps n s) (nat_lt (epoch_of s.tokens.epochs slot) epoch) (record s { feed = new_epoch s.feed slot }) s
      (λ t a. record { asks = a; call = refl; item = refl }) (λ t. keeps_same n s)

  -- a slot is promised, and what the tokens say is done
  promised_by-keeps : (s : Serving) (slot epoch manager : ℕ)
      → KeepsAll s (serving_follow (promised_by s slot epoch manager).state (promised_by s slot epoch manager).outs)
  promised_by-keeps s slot epoch manager a =
      let t : Serving = record s { managers = managers_set s.managers slot manager; tokens = (on_promise s.tokens slot epoch).state } in
      let u : Serving = ends_reading t in
      let outs : List Out = (on_promise s.tokens slot epoch).outs in
      let followed : Keeps n u (serving_follow u outs).state = serving_follow-keeps n u outs (transition-quiet n s.tokens a (tokens.Promise slot epoch) tt) in
      keeps_through n s t (serving_follow u outs).state (λ b. record { asks = transition-asks n s.tokens b (tokens.Promise slot epoch) tt; call = refl; item = refl })
      (keeps_through n t u (serving_follow u outs).state (ends_reading-keeps n t) followed) a

  serving_promise-keeps : (s : Serving) (slot epoch manager : ℕ) → KeepsAll s (serving_follow (serving_promise s slot epoch manager).state (serving_promise s slot epoch manager).outs)
  unfolding serving_promise
  serving_promise-keeps s slot epoch manager =
      let t : Serving = serving_renew s slot epoch in
      keeps_through n s t (serving_follow (promised_by t slot epoch manager).state (promised_by t slot epoch manager).outs).state (serving_renew-keeps s slot epoch)
      (promised_by-keeps t slot epoch manager)

  polled-keeps : (s : Serving) (manager : ℕ) (p : Poll) → KeepsAll s (polled s manager p)
  unfolding polled
  polled-keeps s manager p =
      by_test (KeepsAll s) (may_report s p) (reports p.slot p.epoch (serving_promise s p.slot p.epoch manager)) (still s)
      (λ t. serving_promise-keeps s p.slot p.epoch manager) (λ t. keeps_same n s)

  on_poll-keeps : (s : Serving) (from : NodeId) (p : Poll) → KeepsAll s (on_poll s from p)
  on_poll-keeps s (node.Manager manager) p = polled-keeps s manager p
  on_poll-keeps s _ p = keeps_same n s

  serving_hear-keeps : (s : Serving) (news : SlotNews) → KeepsAll s (serving_hear s news)
  unfolding serving_hear
  serving_hear-keeps s news =
      by_test (KeepsAll s) (is_news s news) (promised_in s news) (still s) (λ t. serving_promise-keeps s news.slot news.epoch news.manager) (λ t. keeps_same n s)

  regroups-keeps : (s : Serving) (newer : Bool) (groups : GroupMapState) → KeepsAll s (regroups s newer groups)
  regroups-keeps s newer groups =
      by_test (KeepsAll s) newer (serving_write s (log_in.Maps groups)) (still s) (λ t. serving_write-keeps n s (log_in.Maps groups)) (λ t. keeps_same n s)

  takes_news-keeps : (s : Serving) (news : News) → KeepsAll s (takes_news s news)
  unfolding takes_news
  takes_news-keeps s news =
      let t : Serving = record s { maps = maps_take s.maps news } in
      let u : Serving = (steps serving_hear t news.slots).state in
      keeps_through n s u (regroups u (is_older s.maps news) news.groups).state
      (keeps_through n s t u (λ a. record { asks = a; call = refl; item = refl }) (steps_keep n serving_hear serving_hear-keeps t news.slots))
      (regroups-keeps u (is_older s.maps news) news.groups)

  on_news-keeps : (s : Serving) (news : News) → KeepsAll s (on_news s news)
  on_news-keeps s news = by_test (KeepsAll s) (fits s.maps news) (takes_news s news) (still s) (λ t. takes_news-keeps s news) (λ t. keeps_same n s)

  on_welcome-keeps : (s : Serving) (w : Welcome) → KeepsAll s (on_welcome s w)
  unfolding on_welcome
  on_welcome-keeps s w = by_test (KeepsAll s) (w.inc == s.lasting.inc) (on_news s w.news) (still s) (λ t. on_news-keeps s w.news) (λ t. keeps_same n s)

  -- ---- time, and the maps

  on_tick-keeps : (s : Serving) → KeepsAll s (on_tick s)
  unfolding on_tick
  on_tick-keeps s =
      let t : Serving = (hand s tokens.Tick).state in
      keeps_through n s t (serving_write t log_in.Tick).state (hand-keeps n s tokens.Tick tt) (serving_write-keeps n t log_in.Tick)

  asks_for_maps-keeps : (s : Serving) → KeepsAll s (asks_for_maps s)
  unfolding asks_for_maps
  asks_for_maps-keeps s a = record { asks = a; call = refl; item = refl }

-- ---- a client that asks for its call

module _ (s : Serving) (p : AsksForCall s) where
  abbrev StillAsks : Done → Type 0
  StillAsks d = AsksForCall d.state

  on_grant-asks : (g : Grant) → StillAsks (on_grant s g)
  unfolding on_grant
  on_grant-asks g =
      by_test StillAsks (is_own g.mode && not (has_long_room g.entry.ver)) (still s) (hand s (tokens.Granted g.block g.stamp g.inc g.req g.mode g.entry))
      (λ t. p)
      (λ t. grant-asks s g.block g.stamp g.inc g.req g.mode g.entry p)

  -- the open want that can't be served is of the call
  gone_needed : (g : Gone) (w : Option Wanted) → (held_at s g.block).want ≡ w → is_want (option_map (λ want. want.req) w) g.req ≡ true
      → AsksForCall (loses s g.block g.seg).state
  gone_needed g None fact asked = contrary asked
  gone_needed g (Some w) fact asked = loses-asks s g.block w.mode g.seg p (p.wanted g.block w fact)

  on_gone-asks : (g : Gone) → StillAsks (on_gone s g)
  unfolding on_gone
  on_gone-asks g =
      let w : Option Wanted = (held_at s g.block).want in
      let asked : Bool = is_want (option_map (λ want. want.req) w) g.req in
      let lives : Bool = g.inc == s.lasting.inc in
      by_test StillAsks (is_gone s g) (loses s g.block g.seg) (still s)
      (λ t. gone_needed g w refl (and_second lives asked (and_second (epoch_of s.tokens.epochs (slot_of g.block.ino.0) == g.epoch) (lives && asked) t)))
      (λ t. p)

  keeps_asks : (d : Done) → Keeps (needed s.call) s d.state → StillAsks d
  keeps_asks d f = kept s d.state f p

  take_body-asks : (from : NodeId) (m : Body) → StillAsks (take_body s from m)
  take_body-asks from (body.Grant m) = on_grant-asks m
  take_body-asks from (body.Supply m) = keeps_asks (on_supply s m) (on_supply-keeps (needed s.call) s m)
  take_body-asks from (body.Forward m) = keeps_asks (on_forward s m) (on_forward-keeps (needed s.call) s m)
  take_body-asks from (body.Recall m) = keeps_asks (on_recall s m) (on_recall-keeps (needed s.call) s m)
  take_body-asks from (body.Gone m) = on_gone-asks m
  take_body-asks from (body.DeltaAck m) = keeps_asks (still (on_ack s m)) (on_ack-keeps (needed s.call) s m)
  take_body-asks from (body.Poll m) = keeps_asks (on_poll s from m) (on_poll-keeps (needed s.call) s from m)
  take_body-asks from (body.Stored m) = keeps_asks (on_stored s m) (serving_write-keeps (needed s.call) s (log_in.Acked m.name m.index m.generation))
  take_body-asks from (body.Fragment m) = keeps_asks (on_found s from m) (on_found-keeps (needed s.call) s from m)
  take_body-asks from (body.Missing m) = keeps_asks (on_missing s from m) (on_missing-keeps (needed s.call) s from m)
  take_body-asks from (body.MapNews m) = keeps_asks (on_news s m) (on_news-keeps (needed s.call) s m)
  take_body-asks from (body.Welcome m) = keeps_asks (on_welcome s m) (on_welcome-keeps (needed s.call) s m)
  take_body-asks from _ = p

  pub serving_take-asks : (packet : Packet) → StillAsks (serving_take s packet)
  unfolding serving_take
  serving_take-asks packet =
      by_test StillAsks (names_known_groups s.maps packet.body) (take_body s packet.from packet.body) (asks_for_maps s) (λ t. take_body-asks packet.from packet.body)
      (λ t. keeps_asks (asks_for_maps s) (asks_for_maps-keeps (needed s.call) s))

  pub on_tick-asks : StillAsks (on_tick s)
  on_tick-asks = keeps_asks (on_tick s) (on_tick-keeps (needed s.call) s)
