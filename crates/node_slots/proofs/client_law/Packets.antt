-- A packet and time keep a fact of a client that serves and asks for its call; only a grant may leave a block that is to be written at once.
use Rattle.std.proofs.Common.{◌≡◌, inl, ℕ, Bool, true, ◌&&◌, ◌==◌, not, nat_lt, List, [], ◌∷◌, Option, Some, None, refl, sym, ap, subst, ◌∙◌, arith}
use Rattle.std.proofs.lemmas.Bool.Decides.{nat_tests}
use Rattle.client_log.specs.declared.input.In.TheVariants as log_in
use Rattle.client_moves.proofs.Following.{hands_move}
use Rattle.client_moves.proofs.Packets.{hears_move}
use Rattle.client_call.specs.Reads.{block_read, hear_reading, Heard, reading_in, value_at}
use Rattle.client_serving.specs.declared.serving.Serving.{Serving}
use Rattle.client_serving.specs.Flights.{held_at, serving_write}
use Rattle.client_serving.specs.Follow.{hand, take_back}
use Rattle.client_serving.specs.Grants.{is_stamp}
use Rattle.client_serving.specs.Packets.{asks_for_maps, end_fetch, serving_hear, is_acked, is_gone, is_news, may_report, on_ack, take_body, on_forward, on_found, on_gone, on_grant, on_missing, on_news, serving_take, on_poll, on_recall, on_supply, on_tick, on_told, on_welcome, polled, promised_in, serving_promise, regroups, serving_renew, reports, says_again, takes_news, told_at, told_by}
use Rattle.client_serving.specs.Reads.{loses, with_reading}
use Rattle.client_serving.specs.Sends as client
use Rattle.delta_feed.specs.Transition.{acknowledged, new_epoch}
use Rattle.group_map.specs.GroupMapState.{GroupMapState}
use Rattle.log_owner.specs.Promised.{managers_set}
use Rattle.node_base.specs.Known.{names_known_groups}
use Rattle.node_base.specs.Maps.{fits, is_older, maps_take}
use Rattle.node_base.specs.Room.{has_long_room}
use Rattle.segment_reading.specs.declared.reading.Next.{Next}
use Rattle.segment_reading.specs.declared.reading.Next.TheVariants as next
use Rattle.segment_reading.specs.declared.target.BlockAt.{BlockAt}
use Rattle.stripe_code.specs.declared.round.Told.{Told}
use Rattle.stripe_code.specs.declared.round.Told.TheVariants as tells
use Rattle.token_client.specs.declared.input.In.TheVariants as tokens
use Rattle.token_client.specs.Held.{may_end_fetch}
use Rattle.token_client.specs.State.{TokensState, epoch_of, held_of}
use Rattle.token_client.specs.Transition.{Done, is_promised, on_promise, on_recalled, recalled, recalled_above, recalled_again, was_answered, on_tick as tokens_tick, on_reask, on_forwarded}
use Rattle.wire_msg.specs.declared.body.Body.{Body}
use Rattle.wire_msg.specs.declared.body.Body.TheVariants as body
use Rattle.wire_msg.specs.declared.deltas.DeltaAck.{DeltaAck}
use Rattle.wire_msg.specs.declared.deltas.Poll.{Poll}
use Rattle.wire_msg.specs.declared.packet.Packet.{Packet}
use Rattle.wire_msg.specs.declared.registry.News.{News}
use Rattle.wire_msg.specs.declared.registry.Welcome.{Welcome}
use Rattle.wire_msg.specs.declared.tokens.Forward.{Forward}
use Rattle.wire_msg.specs.declared.tokens.Gone.{Gone}
use Rattle.wire_msg.specs.declared.tokens.Grant.{Grant}
use Rattle.wire_msg.specs.declared.tokens.Recall.{Recall}
use Rattle.wire_msg.specs.declared.tokens.Supply.{Supply}
use Rattle.xfs_base.specs.declared.block.BlockId.{BlockId}
use Rattle.xfs_base.specs.declared.news.SlotNews.{SlotNews}
use Rattle.xfs_base.specs.declared.node.NodeId.{NodeId}
use Rattle.xfs_base.specs.declared.node.NodeId.TheVariants as node
use Rattle.xfs_base.specs.declared.token.Stamp.{Stamp}
use Rattle.xfs_base.specs.Modes.{is_own}
use Rattle.xfs_base.specs.Stamps.{is_later}
use Rattle.xfs_base.specs.Steps.{still, steps}
use Rattle.xfs_base.proofs.Booleans.{by_test, contrary}
use Rattle.xfs_base.proofs.Orders.{not_later_itself}
use Rattle.node_slots.specs.node_tie.Asks.{AsksForCall}
use Rattle.node_slots.proofs.node_tie.AsksFrames.{kept}
use Rattle.node_slots.proofs.node_tie.AsksFollow.{with_reading-keeps}
use Rattle.node_slots.specs.node_tie.Asks.{needed}
use Rattle.node_slots.specs.client_law.Maps.{BringsMaps}
use Rattle.node_slots.proofs.client_law.Arriving.{KeptOrFresh, fetched-keeps, granted-keeps, lessens, loses-keeps, supplied-keeps}
use Rattle.node_slots.proofs.client_law.Keeping.{At, Fact, Keeps, Sound, quiet-keeps, take_back-keeps, told}
use Rattle.node_slots.proofs.client_law.Quiet.{GoesQuietly, on_forwarded-quiet, on_promise-quiet, on_reask-quiet, on_tick-quiet}
use Rattle.node_slots.proofs.client_law.Sounding.{sound_still}

-- ---- a recall that stands at the block's stamp

stamp_is : (a b : Stamp) → is_stamp a b ≡ true → a ≡ b
stamp_is a b h =
    let e : a.epoch ≡ b.epoch = grind (arith, nat_tests) in
    let f : a.turn ≡ b.turn = grind (arith, nat_tests) in
    λ i. record { epoch = e i; turn = f i }

again-same : (t : TokensState) (block : BlockId) (stamp : Stamp) → (recalled_again t block stamp).state ≡ t
unfolding recalled_again
again-same t block stamp = by_test (λ (d : Done). d.state ≡ t) (was_answered (held_of t.blocks block) stamp) _ (still t) (λ x. refl) (λ x. refl)

-- it changes nothing of the tokens
recalled-same : (t : TokensState) (block : BlockId) (stamp : Stamp) (keep : Bool) → is_stamp (held_of t.blocks block).stamp stamp ≡ true
    → (on_recalled t block stamp keep).state ≡ t
unfolding on_recalled recalled
recalled-same t block stamp keep same =
    let held : Stamp = (held_of t.blocks block).stamp in
    by_test (λ (d : Done). d.state ≡ t) (is_promised t block stamp) (recalled t block stamp keep) (still t)
    (λ x. by_test (λ (d : Done). d.state ≡ t) (is_later stamp held) (recalled_above t block stamp keep) (recalled_again t block stamp)
    (λ later. contrary (sym (not_later_itself stamp) ∙ ap (is_later stamp) (sym (stamp_is held stamp same)) ∙ later)) (λ y. again-same t block stamp))
    (λ x. refl)

-- what a packet brings: blocks that may arrive, and maps that may come
abbrev pub Arrives : (BlockId → Type 0) → Serving → Body → Type 0
Arrives A s (body.Grant m) = A m.block
Arrives A s (body.Supply m) = A m.block
Arrives A s (body.Fragment m) = (block : BlockId) → may_end_fetch (held_at s block) ≡ true → A block
Arrives A s (body.Missing m) = (block : BlockId) → may_end_fetch (held_at s block) ≡ true → A block
Arrives A s _ = Unit {0}

module _ (A : BlockId → Type 0) (M : GroupMapState → Type 0) (B : Fact) (P : ℕ → Fact) (Q : BlockId → Fact) (k : Keeps A M B P Q) where
  -- sound tokens, and the fact
  record Both (n : ℕ) (s : Serving) : Type 0 where
    sound : Sound s
    fact : At (P n) s

  abbrev hushed : (s : Serving) (d : Done) → GoesQuietly s.tokens d → At (P 1) s → At (P 1) (told s d).state
  hushed s d q p = quiet-keeps (P 1) (k.takes 1) s d q p

  -- ---- promises

  promises-keeps : (s : Serving) (slot epoch manager : ℕ) → At (P 1) s
      → At (P 1) (told (record (serving_renew s slot epoch) { managers = managers_set (serving_renew s slot epoch).managers slot manager })
      (on_promise (serving_renew s slot epoch).tokens slot epoch)).state
  unfolding serving_renew
  promises-keeps s slot epoch manager p =
      by_test (λ (t : Serving). At (P 1) (told (record t { managers = managers_set t.managers slot manager }) (on_promise t.tokens slot epoch)).state)
      (nat_lt (epoch_of s.tokens.epochs slot) epoch) (record s { feed = new_epoch s.feed slot }) s
      (λ x. hushed (record s { feed = new_epoch s.feed slot; managers = managers_set s.managers slot manager })
      (on_promise s.tokens slot epoch) (on_promise-quiet s.tokens slot epoch) p)
      (λ x. hushed (record s { managers = managers_set s.managers slot manager }) (on_promise s.tokens slot epoch) (on_promise-quiet s.tokens slot epoch) p)

  polled-keeps : (s : Serving) (manager : ℕ) (m : Poll) → At (P 1) s → At (P 1) (polled s manager m).state
  unfolding polled serving_promise
  polled-keeps s manager m p =
      by_test (λ (d : client.Done). At (P 1) d.state) (may_report s m) (reports m.slot m.epoch (serving_promise s m.slot m.epoch manager)) (still s)
      (λ x. promises-keeps s m.slot m.epoch manager p) (λ x. p)

  on_poll-keeps : (s : Serving) (from : NodeId) (m : Poll) → At (P 1) s → At (P 1) (on_poll s from m).state
  on_poll-keeps s (node.Manager manager) m p = polled-keeps s manager m p
  on_poll-keeps s _ m p = p

  serving_hear-keeps : (s : Serving) (news : SlotNews) → Both 1 s → Both 1 (serving_hear s news).state
  unfolding serving_hear serving_promise
  serving_hear-keeps s news p = record {
    sound = sound_still (hears_move s news) p.sound;
    fact =
        by_test (λ (d : client.Done). At (P 1) d.state) (is_news s news) (promised_in s news) (still s)
        (λ x. promises-keeps s news.slot news.epoch news.manager p.fact) (λ x. p.fact);
  }

  all_heard : (s : Serving) (news : List SlotNews) → Both 1 s → Both 1 (steps serving_hear s news).state
  all_heard s [] p = p
  all_heard s (x ∷ xs) p = all_heard (serving_hear s x).state xs (serving_hear-keeps s x p)

  regroups-keeps : (s : Serving) (newer : Bool) (groups : GroupMapState) → M groups → Both 1 s → At (P 0) (regroups s newer groups).state
  regroups-keeps s newer groups may p =
      by_test (λ (d : client.Done). At (P 0) d.state) newer (serving_write s (log_in.Maps groups)) (still s) (λ x. k.logs s (log_in.Maps groups) may p.sound p.fact)
      (λ x. lessens A M B P Q k s p.fact)

  takes_news-keeps : (s : Serving) (news : News) → M news.groups → Both 1 s → At (P 0) (takes_news s news).state
  unfolding takes_news
  takes_news-keeps s news may p =
      let t : Serving = record s { maps = maps_take s.maps news } in
      regroups-keeps (steps serving_hear t news.slots).state (is_older s.maps news) news.groups may
      (all_heard t news.slots (record { sound = p.sound; fact = p.fact }))

  on_news-keeps : (s : Serving) (news : News) → M news.groups → Both 1 s → At (P 0) (on_news s news).state
  on_news-keeps s news may p =
      by_test (λ (d : client.Done). At (P 0) d.state) (fits s.maps news) (takes_news s news) (still s) (λ x. takes_news-keeps s news may p)
      (λ x. lessens A M B P Q k s p.fact)

  on_welcome-keeps : (s : Serving) (w : Welcome) → M w.news.groups → Both 1 s → At (P 0) (on_welcome s w).state
  unfolding on_welcome
  on_welcome-keeps s w may p =
      by_test (λ (d : client.Done). At (P 0) d.state) (w.inc == s.lasting.inc) (on_news s w.news) (still s) (λ x. on_news-keeps s w.news may p)
      (λ x. lessens A M B P Q k s p.fact)

  -- ---- time

  pub on_tick-keeps : (s : Serving) → AsksForCall s → At (P 1) s → At (P 0) (on_tick s).state
  unfolding on_tick hand
  on_tick-keeps s asks p =
      let t : Serving = (hand s tokens.Tick).state in
      k.logs t log_in.Tick tt (sound_still (hands_move s tokens.Tick tt) asks.sound) (hushed s (tokens_tick s.tokens) (on_tick-quiet s.tokens) p)

  -- ---- packets

  module _ (s : Serving) (asks : AsksForCall s) (p : At (P 1) s) where
    abbrev Kept : client.Done → Type 0
    Kept d = At (P 1) d.state

    both : Both 1 s
    both = record { sound = asks.sound; fact = p }

    on_grant-keeps : (g : Grant) → A g.block → KeptOrFresh A M B P Q k (on_grant s g).state
    unfolding on_grant hand
    on_grant-keeps g may =
        by_test (λ (d : client.Done). KeptOrFresh A M B P Q k d.state) (is_own g.mode && not (has_long_room g.entry.ver)) (still s)
        (hand s (tokens.Granted g.block g.stamp g.inc g.req g.mode g.entry))
        (λ x. inl (lessens A M B P Q k s p)) (λ x. granted-keeps A M B P Q k s asks p g.block g.stamp g.inc g.req may g.mode g.entry x)

    on_supply-keeps : (m : Supply) → A m.block → Kept (on_supply s m)
    unfolding on_supply hand
    on_supply-keeps m may = supplied-keeps A M B P Q k s asks p m.block m.stamp m.inc m.req may m.ver m.value

    on_forward-keeps : (m : Forward) → Kept (on_forward s m)
    unfolding on_forward
    on_forward-keeps m =
        (k.takes 1).quiet s.tokens (on_forwarded s.tokens m.block m.stamp m.ver).state s.log s.cache (on_forwarded-quiet s.tokens m.block m.stamp m.ver).quiet p

    on_recall-keeps : (r : Recall) → Kept (on_recall s r)
    unfolding on_recall
    on_recall-keeps r =
        by_test Kept (is_stamp (held_at s r.block).stamp r.stamp) (says_again s r (on_recalled s.tokens r.block r.stamp r.keep))
        (take_back s r.block r.stamp r.keep)
        (λ x. subst (λ (t : TokensState). P 1 t s.log s.cache) (sym (recalled-same s.tokens r.block r.stamp r.keep x)) p)
        (λ x. take_back-keeps (P 1) (k.takes 1) s p r.block r.stamp r.keep)

    on_gone-keeps : (g : Gone) → Kept (on_gone s g)
    unfolding on_gone
    on_gone-keeps g = by_test Kept (is_gone s g) (loses s g.block g.seg) (still s) (λ x. loses-keeps A M B P Q k 1 s g.block g.seg p) (λ x. p)

    on_ack-keeps : (m : DeltaAck) → At (P 1) (on_ack s m)
    unfolding on_ack
    on_ack-keeps m = by_test (At (P 1)) (is_acked s m) (record s { feed = acknowledged s.feed m.slot m.applied }) s (λ x. p) (λ x. p)

    -- ---- fragments

    -- what was read ends a fetch of what may arrive
    module _ (may : (block : BlockId) → may_end_fetch (held_at s block) ≡ true → A block) where
      end_fetch-keeps : (r : _) (at : BlockAt) (n : Next) → Kept (end_fetch (with_reading s r) at n)
      unfolding hand
      end_fetch-keeps r at next.Again = hushed (with_reading s r) (on_reask s.tokens at.block) (on_reask-quiet s.tokens at.block) p
      end_fetch-keeps r at (next.Read segment) =
          fetched-keeps A M B P Q k (with_reading s r) (kept s (with_reading s r) (with_reading-keeps (needed s.call) s r) asks) p
          at.block (may at.block) (value_at segment at.item)
      end_fetch-keeps r at _ = p

      told_at-keeps : (at : Option BlockAt) (h : Heard) → Kept (told_at s at h)
      told_at-keeps None h = p
      told_at-keeps (Some at) h = end_fetch-keeps h.reading at h.next

      on_told-keeps : (from : NodeId) (ask : ℕ) (t : Told) → Kept (on_told s from ask t)
      unfolding told_by
      on_told-keeps (node.Server server) ask t = told_at-keeps (block_read (reading_in s.call)) (hear_reading (reading_in s.call) s.maps.groups ask server t)
      on_told-keeps _ ask t = p

    -- ---- a packet

    less : (d : client.Done) → Kept d → KeptOrFresh A M B P Q k d.state
    less d q = inl (lessens A M B P Q k d.state q)

    unmoved : KeptOrFresh A M B P Q k s
    unmoved = less (still s) p

    take_body-keeps : (from : NodeId) (m : Body) → Arrives A s m → BringsMaps M m → KeptOrFresh A M B P Q k (take_body s from m).state
    take_body-keeps from (body.Grant m) arrives brings = on_grant-keeps m arrives
    take_body-keeps from (body.Supply m) arrives brings = less (on_supply s m) (on_supply-keeps m arrives)
    take_body-keeps from (body.Forward m) arrives brings = less (on_forward s m) (on_forward-keeps m)
    take_body-keeps from (body.Recall m) arrives brings = less (on_recall s m) (on_recall-keeps m)
    take_body-keeps from (body.Gone m) arrives brings = less (on_gone s m) (on_gone-keeps m)
    take_body-keeps from (body.DeltaAck m) arrives brings = less (still (on_ack s m)) (on_ack-keeps m)
    take_body-keeps from (body.Poll m) arrives brings = less (on_poll s from m) (on_poll-keeps s from m p)
    take_body-keeps from (body.Stored m) arrives brings = inl (k.logs s (log_in.Acked m.name m.index m.generation) tt asks.sound p)
    take_body-keeps from (body.Fragment m) arrives brings = less (on_found s from m) (on_told-keeps arrives from m.ask (tells.Held m.fragment))
    take_body-keeps from (body.Missing m) arrives brings = less (on_missing s from m) (on_told-keeps arrives from m.ask (tells.Missing m.generation))
    take_body-keeps from (body.MapNews m) arrives brings = inl (on_news-keeps s m brings both)
    take_body-keeps from (body.Welcome m) arrives brings = inl (on_welcome-keeps s m brings both)
    take_body-keeps from _ arrives brings = unmoved

    pub serving_take-keeps : (packet : Packet) → Arrives A s packet.body → BringsMaps M packet.body → KeptOrFresh A M B P Q k (serving_take s packet).state
    unfolding serving_take asks_for_maps
    serving_take-keeps packet arrives brings =
        by_test (λ (d : client.Done). KeptOrFresh A M B P Q k d.state) (names_known_groups s.maps packet.body) (take_body s packet.from packet.body) (asks_for_maps s)
        (λ x. take_body-keeps packet.from packet.body arrives brings) (λ x. inl (lessens A M B P Q k s p))
