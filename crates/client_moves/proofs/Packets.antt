-- What a client that serves does for a packet, and for time, is made of moves.
use Rattle.std.proofs.Common.{◌≡◌, ℕ, ◌==◌, ◌&&◌, not, Bool, true, List, [], ◌∷◌, ◌++◌, append-nil, append_assoc, Option, Some, None, is_none, nat_lt, refl, sym, ap, subst, ◌∙◌}
use Rattle.std.specs.List.{AllByRecursion}
use Rattle.std.specs.Prelude.{flat_map}
use Rattle.client_call.specs.Reads.{block_read, fetch_again, hear_reading, reading_in, same_target, target_of, value_at}
use Rattle.client_log.specs.declared.input.In.TheVariants as log_in
use Rattle.client_running.specs.Running.{run}
use Rattle.client_serving.specs.declared.serving.Serving.{Serving}
use Rattle.client_serving.specs.Flights.{held_at, serving_write}
use Rattle.client_serving.specs.Follow.{follow_one, hand, serving_follow, take_back}
use Rattle.client_serving.specs.Grants.{is_stamp, send_supply}
use Rattle.client_serving.specs.Packets.{again, asks_for_maps, end_fetch, is_acked, is_gone, is_news, may_report, on_ack, on_forward, on_gone, on_grant, on_news, on_poll, on_recall, on_supply, on_tick, on_told, on_welcome, polled, promised_in, regroups, reports, says_again, serving_hear, serving_promise, serving_renew, serving_take, take_body, takes_news, told_at, told_by}
use Rattle.client_serving.specs.Reads.{begin_reading, begins_over, ends_reading, group_in, loses, reads_over, serving_confirm, serving_read, with_reading}
use Rattle.client_serving.specs.Sends.{Done, report}
use Rattle.delta_feed.specs.declared.input.In.TheVariants as feed_in
use Rattle.delta_feed.specs.Transition.{acknowledged, new_epoch}
use Rattle.group_map.specs.declared.group.Group.{Group}
use Rattle.group_map.specs.GroupMapState.{GroupMapState}
use Rattle.log_owner.specs.Promised.{managers_set}
use Rattle.log_owner.specs.Sending.{push_all}
use Rattle.node_base.specs.declared.effects.Effect.{Effect}
use Rattle.node_base.specs.Known.{names_known_groups}
use Rattle.node_base.specs.Maps.{fits, is_older, maps_take}
use Rattle.node_base.specs.Room.{has_long_room}
use Rattle.segment_reading.specs.declared.reading.Next.{Next}
use Rattle.segment_reading.specs.declared.reading.Next.TheVariants as next
use Rattle.segment_reading.specs.declared.target.BlockAt.{BlockAt}
use Rattle.segment_reading.specs.declared.target.Target.{Target}
use Rattle.segment_reading.specs.Reading.{ReadingState}
use Rattle.stripe_code.specs.declared.round.Told.{Told}
use Rattle.token_client.specs.declared.input.In.TheVariants as input
use Rattle.token_client.specs.declared.output.Out.{Out}
use Rattle.token_client.specs.declared.output.Out.TheVariants as output
use Rattle.token_client.specs.Transition as client
use Rattle.token_client.specs.Transition.{accepts, copy_next, grant_next}
use Rattle.wire_msg.specs.declared.body.Body.{Body}
use Rattle.wire_msg.specs.declared.body.Body.TheVariants as body
use Rattle.wire_msg.specs.declared.deltas.DeltaAck.{DeltaAck}
use Rattle.wire_msg.specs.declared.deltas.Poll.{Poll}
use Rattle.wire_msg.specs.declared.packet.Do.{Do}
use Rattle.wire_msg.specs.declared.packet.Do.TheVariants.{Deliver}
use Rattle.wire_msg.specs.declared.packet.Packet.{Packet}
use Rattle.wire_msg.specs.declared.registry.News.{News}
use Rattle.wire_msg.specs.declared.tokens.Forward.{Forward}
use Rattle.wire_msg.specs.declared.tokens.Gone.{Gone}
use Rattle.wire_msg.specs.declared.tokens.Grant.{Grant}
use Rattle.wire_msg.specs.declared.tokens.Recall.{Recall}
use Rattle.wire_msg.specs.declared.tokens.Supply.{Supply}
use Rattle.xfs_base.proofs.Alls.{all_flat_map}
use Rattle.xfs_base.proofs.Booleans.{by_test}
use Rattle.xfs_base.specs.declared.entry.Place.{Place}
use Rattle.xfs_base.specs.declared.news.SlotNews.{SlotNews}
use Rattle.xfs_base.specs.declared.node.NodeId.{NodeId}
use Rattle.xfs_base.specs.declared.node.NodeId.TheVariants as node
use Rattle.xfs_base.specs.Modes.{is_own}
use Rattle.xfs_base.specs.Steps.{steps, still}
use Rattle.client_moves.proofs.Calls.{run_moves}
use Rattle.client_moves.proofs.Following.{MovesStill, MovesTo, SaidSo, all_pushed_said, each_moves, follows_move, hands_move, says_all, take_back_moves, writes_move}
use Rattle.client_moves.proofs.Tokens.{reads_none}
use Rattle.client_moves.proofs.Uncalled.{Uncalled, all_moves}
use Rattle.client_moves.proofs.Uncalled.Uncalled.{EndsReading, FeedTakes, Promises, Rests, Says, Then, TokensTake}
use Rattle.client_moves.specs.Moves.{Accepts, Heard, Reads, Tells, Turn, grant_taken, granted, heard, heard_step}
use Rattle.client_moves.specs.Moves.Reads.{Begins, Confirms, NoCall, Unknown}
use Rattle.client_moves.specs.Moves.Said.{GivesUp, Reports, Supplies}
use Rattle.client_moves.specs.Moves.Tells.{AbsenceCame, FragmentCame}
use Rattle.client_moves.specs.Moves.Turn.{AsksForMaps, FetchesAgain, Goes, Grants, Hears, HearsShort, ReadsOn, Refused, Shows, Stays, TakesMaps}
use Rattle.node_moves.specs.server_moves.Moves.{Came, news_in}

-- ---- promises

renews_move : (s : Serving) (slot epoch : ℕ) → MovesStill s (serving_renew s slot epoch)
unfolding serving_renew
renews_move s slot epoch =
    by_test (MovesStill s) (nat_lt _ epoch) (record s { feed = new_epoch s.feed slot }) s (λ _. FeedTakes s (feed_in.NewEpoch slot)) (λ _. Rests s)

promises_move : (s : Serving) (slot epoch manager : ℕ) → MovesStill s (serving_promise s slot epoch manager).state
unfolding serving_promise
promises_move s slot epoch manager =
    let t : Serving = serving_renew s slot epoch in
    let u : Serving = record t { managers = managers_set t.managers slot manager } in
    Then (renews_move s slot epoch)
    (Then (Promises t slot manager)
    (Then (TokensTake u (input.Promise slot epoch) tt) (EndsReading (record u { tokens = (client.on_promise t.tokens slot epoch).state }))))

followed_moves : (s : Serving) (slot epoch manager : ℕ)
    → MovesTo (serving_promise s slot epoch manager).state
    (serving_follow (serving_promise s slot epoch manager).state (serving_promise s slot epoch manager).outs)
unfolding serving_promise
followed_moves s slot epoch manager =
    let p = serving_promise s slot epoch manager in
    follows_move p.state p.outs (reads_none (serving_renew s slot epoch).tokens (input.Promise slot epoch) tt)

polled_moves : (s : Serving) (manager : ℕ) (p : Poll) → MovesTo s (polled s manager p)
unfolding polled
polled_moves s manager p =
    let kept = serving_promise s p.slot p.epoch manager in
    by_test (MovesTo s) (may_report s p) (reports p.slot p.epoch kept) (still s)
    (λ _. Then (promises_move s p.slot p.epoch manager)
    (Then (Says kept.state (report kept.state p.slot p.epoch) (Reports p.slot p.epoch) tt) (followed_moves s p.slot p.epoch manager)))
    (λ _. Rests s)

poll_moves : (s : Serving) (from : NodeId) (p : Poll) → MovesTo s (on_poll s from p)
poll_moves s (node.Manager manager) p = polled_moves s manager p
poll_moves s _ p = Rests s

pub hears_move : (s : Serving) (news : SlotNews) → MovesTo s (serving_hear s news)
unfolding serving_hear
hears_move s news =
    by_test (MovesTo s) (is_news s news) (promised_in s news) (still s)
    (λ _. Then (promises_move s news.slot news.epoch news.manager) (followed_moves s news.slot news.epoch news.manager)) (λ _. Rests s)

regroups_move : (s : Serving) (newer : Bool) (m : GroupMapState) → MovesTo s (regroups s newer m)
regroups_move s newer m =
    by_test (MovesTo s) newer (serving_write s (log_in.Maps m)) (still s) (λ _. writes_move s (log_in.Maps m)) (λ _. Rests s)

-- ---- tokens

supplies_said : (s : Serving) (f : Forward) (o : Out) → AllByRecursion (SaidSo s) (send_supply f o)
supplies_said s f (output.Supply block ver value) = ((Supplies f.to _, tt), tt)
supplies_said s f (output.Want block req again mode) = tt
supplies_said s f (output.Gave block stamp) = tt
supplies_said s f (output.Flush block) = tt
supplies_said s f (output.Read block place) = tt
supplies_said s f (output.Ready block) = tt

forward_moves : (s : Serving) (f : Forward) → MovesTo s (on_forward s f)
unfolding on_forward
forward_moves s f =
    let taken : client.Done = client.on_forwarded s.tokens f.block f.stamp f.ver in
    let t : Serving = record s { tokens = taken.state } in
    Then (TokensTake s (input.Forwarded f.block f.stamp f.ver) tt)
    (says_all t (flat_map (send_supply f) taken.outs) (all_flat_map (SaidSo t) (send_supply f) (supplies_said t f) taken.outs))

again_said : (s : Serving) (r : Recall) (outs : List Out) → AllByRecursion (SaidSo s) (again s r outs)
again_said s r [] = tt
again_said s r (o ∷ outs) = ((GivesUp r.block r.stamp, tt), tt)

recall_moves : (s : Serving) (r : Recall) → MovesTo s (on_recall s r)
unfolding on_recall
recall_moves s r =
    let taken : client.Done = client.on_recalled s.tokens r.block r.stamp r.keep in
    let t : Serving = record s { tokens = taken.state } in
    by_test (MovesTo s) (is_stamp (held_at s r.block).stamp r.stamp) (says_again s r taken) (take_back s r.block r.stamp r.keep)
    (λ _. Then (TokensTake s (input.Recalled r.block r.stamp r.keep) tt) (says_all t (again t r taken.outs) (again_said t r taken.outs)))
    (λ _. take_back_moves s r.block r.stamp r.keep)

supply_moves : (s : Serving) (m : Supply) → MovesTo s (on_supply s m)
unfolding on_supply
supply_moves s m = hands_move s (input.Supplied m.block m.stamp m.inc m.req m.ver m.value) tt

ack_moves : (s : Serving) (a : DeltaAck) → MovesStill s (on_ack s a)
unfolding on_ack
ack_moves s a =
    by_test (MovesStill s) (is_acked s a) (record s { feed = acknowledged s.feed a.slot a.applied }) s (λ _. FeedTakes s (feed_in.Ack a.slot a.applied))
    (λ _. Rests s)

-- ---- a place that is to be read

module _ (t : Serving) (target : Target) where
  abbrev ReadsTo : Done → Type 0
  ReadsTo d = Reads t target d.state d.outs

  begins_reads : ReadsTo (begin_reading (with_reading t None) target)
  unfolding begin_reading
  begins_reads = by (group_in t.maps.groups target.seg.group) refl
    where
      by : (group : Option Group) → group_in t.maps.groups target.seg.group ≡ group → ReadsTo (begins_over (with_reading t None) target group)
      by None known = Unknown
      by (Some group) known = Begins group known

  over_reads : (o : Option ReadingState) → reading_in t.call ≡ o → ReadsTo (reads_over (with_reading t None) target o)
  over_reads None read = begins_reads
  over_reads (Some r) read =
      by_test ReadsTo (same_target r.target target) (serving_confirm (with_reading t None) r) (begin_reading (with_reading t None) target)
      (λ same. Confirms r read same) (λ _. begins_reads)

place_reads : (t : Serving) (m : Grant) (place : Place)
    → Reads t (target_of m.block place) (serving_read t m.block place).state (serving_read t m.block place).outs
unfolding serving_read
place_reads t m place =
    by_test (ReadsTo t (target_of m.block place)) (is_none t.call) (still t)
    (reads_over (with_reading t None) (target_of m.block place) (reading_in t.call)) NoCall
    (λ _. over_reads t (target_of m.block place) (reading_in t.call) refl)

-- ---- a packet

-- it comes before all else, and more may come
abbrev pub IsFirst : {what : Do} {s t : Serving} {o : List Effect} → Turn what s t o → Type 0
IsFirst (Goes turn moves) = ⊥
IsFirst (FetchesAgain turn) = ⊥
IsFirst (Refused packet m came meant) = ⊥
IsFirst _ = Unit {0}

-- what is done for a packet, before the open call runs: a manager refuses its open want, or such a thing comes first
pub data Taken (what : Do) (s : Serving) : Serving → List Effect → Type 0 where
  Refuses : (packet : Packet) (m : Gone) → Came what packet (body.Gone m) → is_gone s m ≡ true
      → Taken what s (loses s m.block m.seg).state (loses s m.block m.seg).outs
  Once : {t : Serving} {o : List Effect} (turn : Turn what s t o) → IsFirst turn → Taken what s t o
  Follows : {t u : Serving} {o m : List Effect} (turn : Turn what s t o) → IsFirst turn → Uncalled t u m → Taken what s u (o ++ m)

turn_of : (what : Do) (s t : Serving) (o : List Effect) → Taken what s t o → Turn what s t o
turn_of what s t o (Refuses packet m came meant) = Refused packet m came meant
turn_of what s t o (Once turn first) = turn
turn_of what s t o (Follows turn first moves) = Goes turn (all_moves moves)

module _ (what : Do) (s : Serving) where
  abbrev TurnsTo : Done → Type 0
  TurnsTo d = Taken what s d.state d.outs

  stays : TurnsTo (still s)
  stays = Once Stays tt

  moved : (d : Done) → MovesTo s d → TurnsTo d
  moved d moves = Follows Stays tt moves

  module _ (packet : Packet) (event : what ≡ Deliver packet) where
    came : (said : Body) → packet.body ≡ said → Came what packet said
    came said says = record { event = event; says = says }

    -- ---- a grant

    module _ (m : Grant) (says : packet.body ≡ body.Grant m) (accepted : Accepts s m) where
      ready_turn : TurnsTo (serving_follow (granted s m) (output.Ready m.block ∷ []))
      ready_turn = Follows (Grants packet m (came (body.Grant m) says) accepted) tt (follows_move (granted s m) (output.Ready m.block ∷ []) (tt, tt))

      copied_turn : (place : Option Place) → m.entry.place ≡ place → TurnsTo (serving_follow (granted s m) (copy_next m.block place ∷ []))
      unfolding serving_follow follow_one
      copied_turn None lies = ready_turn
      copied_turn (Some place) lies =
          subst (λ (outs : List Effect). Taken what s (serving_read (granted s m) m.block place).state outs)
          (sym (append-nil (serving_read (granted s m) m.block place).outs))
          (Once (Shows packet m place (came (body.Grant m) says) accepted lies (place_reads (granted s m) m place)) tt)

      granted_turn : TurnsTo (serving_follow (granted s m) (grant_next m.block m.mode m.entry.place ∷ []))
      granted_turn =
          by_test (λ (o : Out). TurnsTo (serving_follow (granted s m) (o ∷ []))) (is_own m.mode) (output.Ready m.block) (copy_next m.block m.entry.place)
          (λ _. ready_turn) (λ _. copied_turn m.entry.place refl)

    grant_turn : (m : Grant) → packet.body ≡ body.Grant m → TurnsTo (on_grant s m)
    unfolding on_grant hand client.on_granted serving_follow
    grant_turn m says =
        by_test TurnsTo (is_own m.mode && not (has_long_room m.entry.ver)) (still s) (hand s (input.Granted m.block m.stamp m.inc m.req m.mode m.entry))
        (λ _. stays)
        (λ _. by_test (λ (d : client.Done). TurnsTo (serving_follow (ends_reading (record s { tokens = d.state })) d.outs))
        (accepts s.tokens m.block m.stamp m.inc m.req m.mode)
        (record { state = grant_taken s m; outs = grant_next m.block m.mode m.entry.place ∷ [] }) (still s.tokens) (λ accepted. granted_turn m says accepted)
        (λ _. Follows Stays tt (EndsReading s)))

    gone_turn : (m : Gone) → packet.body ≡ body.Gone m → TurnsTo (on_gone s m)
    unfolding on_gone
    gone_turn m says =
        by_test TurnsTo (is_gone s m) (loses s m.block m.seg) (still s) (λ meant. Refuses packet m (came (body.Gone m) says) meant) (λ _. stays)

    -- ---- a server answers

    module _ (ask : ℕ) (told : Told) (tells : Tells packet.body ask told) where
      module _ (h : Heard what s) where
        ends_turn : (x : Next) → (heard_step what s h).next ≡ x → TurnsTo (end_fetch (heard what s h) h.at x)
        unfolding hand
        ends_turn next.Again fact =
            let u : Serving = heard what s h in
            let r : client.Done = client.transition u.tokens (input.Reask h.at.block) in
            Follows (HearsShort h fact) tt
            (follows_move (ends_reading (record u { tokens = r.state })) r.outs (reads_none u.tokens (input.Reask h.at.block) tt))
        ends_turn (next.Read segment) fact =
            Follows (Hears h (λ again. absurd (let clash : next.Read segment ≡ next.Again = sym fact ∙ again in cc))) tt
            (hands_move (heard what s h) (input.Fetched h.at.block (value_at segment h.at.item)) tt)
        ends_turn next.Wait fact = Once (Hears h (λ again. absurd (let clash : next.Wait ≡ next.Again = sym fact ∙ again in cc))) tt
        ends_turn next.Ask fact = Once (Hears h (λ again. absurd (let clash : next.Ask ≡ next.Again = sym fact ∙ again in cc))) tt
        ends_turn next.Lost fact = Once (Hears h (λ again. absurd (let clash : next.Lost ≡ next.Again = sym fact ∙ again in cc))) tt

      told_by_turn : (server : ℕ) → packet.from ≡ node.Server server → TurnsTo (told_by s server ask told)
      unfolding told_by
      told_by_turn server from = by (reading_in s.call) refl
        where
          known : (was : ReadingState) → reading_in s.call ≡ Some was → (at : BlockAt) → was.target.block ≡ Some at → (groups : Option GroupMapState)
              → TurnsTo (told_at s (Some at) (hear_reading (Some was) groups ask server told))
          known was read at block None = Once (ReadsOn was read) tt
          known was read at block (Some groups) =
              let h : Heard what s = record {
                was = was;
                reads = read;
                at = at;
                block = block;
                groups = groups;
                packet = packet;
                event = event;
                server = server;
                from = from;
                ask = ask;
                told = told;
                tells = tells;
              } in
              ends_turn h (heard_step what s h).next refl

          at_block : (was : ReadingState) → reading_in s.call ≡ Some was → (at : Option BlockAt) → was.target.block ≡ at
              → TurnsTo (told_at s at (hear_reading (Some was) s.maps.groups ask server told))
          at_block was read None block = stays
          at_block was read (Some at) block = known was read at block s.maps.groups

          by : (o : Option ReadingState) → reading_in s.call ≡ o → TurnsTo (told_at s (block_read o) (hear_reading o s.maps.groups ask server told))
          by None read = stays
          by (Some was) read = at_block was read was.target.block refl

      told_turn : (from : NodeId) → packet.from ≡ from → TurnsTo (on_told s from ask told)
      told_turn (node.Server server) from = told_by_turn server from
      told_turn _ from = stays

    -- ---- maps

    news_turn : (news : News) → news_in packet.body ≡ Some news → TurnsTo (on_news s news)
    unfolding takes_news
    news_turn news brings =
        let t : Serving = record s { maps = maps_take s.maps news } in
        let d : Done = steps serving_hear t news.slots in
        by_test TurnsTo (fits s.maps news) (takes_news s news) (still s)
        (λ _. Follows (TakesMaps packet news (record { event = event; brings = brings })) tt
        (Then (each_moves serving_hear hears_move t news.slots) (regroups_move d.state (is_older s.maps news) news.groups))) (λ _. stays)

    -- ---- all packets

    body_turn : (b : Body) → packet.body ≡ b → TurnsTo (take_body s packet.from b)
    unfolding on_welcome
    body_turn (body.Grant m) says = grant_turn m says
    body_turn (body.Supply m) says = moved (on_supply s m) (supply_moves s m)
    body_turn (body.Forward m) says = moved (on_forward s m) (forward_moves s m)
    body_turn (body.Recall m) says = moved (on_recall s m) (recall_moves s m)
    body_turn (body.Gone m) says = gone_turn m says
    body_turn (body.DeltaAck m) says = moved (still (on_ack s m)) (ack_moves s m)
    body_turn (body.Poll m) says = moved (on_poll s packet.from m) (poll_moves s packet.from m)
    body_turn (body.Stored m) says =
        moved (serving_write s (log_in.Acked m.name m.index m.generation)) (writes_move s (log_in.Acked m.name m.index m.generation))
    body_turn (body.Fragment m) says = told_turn m.ask _ (FragmentCame m says) packet.from refl
    body_turn (body.Missing m) says = told_turn m.ask _ (AbsenceCame m says) packet.from refl
    body_turn (body.MapNews m) says = news_turn m (ap news_in says)
    body_turn (body.Welcome m) says =
        by_test TurnsTo (m.inc == s.lasting.inc) (on_news s m.news) (still s) (λ _. news_turn m.news (ap news_in says)) (λ _. stays)
    body_turn _ says = stays

    pub taken_turn : TurnsTo (serving_take s packet)
    unfolding serving_take
    taken_turn =
        by_test TurnsTo (names_known_groups s.maps packet.body) (take_body s packet.from packet.body) (asks_for_maps s) (λ _. body_turn packet.body refl)
        (λ _. Once (AsksForMaps packet event) tt)

    pub packet_turn : Turn what s (run (serving_take s packet).state).state ((serving_take s packet).outs ++ (run (serving_take s packet).state).outs)
    packet_turn = Goes (turn_of what s (serving_take s packet).state (serving_take s packet).outs taken_turn) (run_moves (serving_take s packet).state)

  -- ---- time

  time_turn : Turn what s (on_tick s).state (on_tick s).outs
  unfolding on_tick
  time_turn =
      let w : Done = hand s input.Tick in
      let l : Done = serving_write w.state log_in.Tick in
      let fetched : List Effect = fetch_again (reading_in w.state.call) in
      let pushed : List Effect = push_all l.state.managers l.state.feed in
      subst (λ (outs : List Effect). Turn what s l.state outs) (append_assoc w.outs fetched (l.outs ++ pushed))
      (Goes (FetchesAgain (Goes Stays (all_moves (hands_move s input.Tick tt))))
      (all_moves (Then (writes_move w.state log_in.Tick) (says_all l.state pushed (all_pushed_said l.state)))))

  pub tick_turn : Turn what s (run (on_tick s).state).state ((on_tick s).outs ++ (run (on_tick s).state).outs)
  tick_turn = Goes time_turn (run_moves (on_tick s).state)
