-- What comes to a client that serves, and time, leave it with a value of each block that it holds, but of one that it is granted to own.
use Rattle.std.proofs.Common.{◌≡◌, ◌<◌, ◌&&◌, not, ℕ, Bool, true, false, cond, nat_lt, List, [], ◌∷◌, ◌++◌, Option, Some, None, is_none, is_some, refl, sym, ap, subst, ◌∙◌, arith}
use Rattle.std.proofs.lemmas.Bool.Decides.{nat_tests}
use Rattle.std.proofs.lemmas.List.Elements.{All-nil}
use Rattle.client_call.specs.Reads.{fetch_again, reading_in}
use Rattle.client_log.specs.declared.input.In.TheVariants as log_in
use Rattle.client_node.specs.declared.phase.Phase.TheVariants.{Serving as Serves}
use Rattle.client_node.specs.Room.{serving_has_room, tokens_room}
use Rattle.client_serving.specs.declared.serving.Serving.{Serving}
use Rattle.client_serving.specs.Flights.{held_at, on_stored, serving_write}
use Rattle.client_serving.specs.Follow.{follow_one, hand, note_clean, note_copy, serving_follow}
use Rattle.client_serving.specs.Packets.{asks_for_maps, on_ack, on_forward, on_found, on_gone, on_grant, on_missing, on_news, on_poll, on_recall, on_supply, on_tick, on_welcome, serving_take, take_body}
use Rattle.client_serving.specs.Reads.{ends_reading}
use Rattle.client_serving.specs.Sends.{Done, gives}
use Rattle.log_owner.specs.Opening.{attempt_of}
use Rattle.log_owner.specs.Opening.{log_has_room}
use Rattle.log_owner.specs.Sending.{push_all}
use Rattle.node_base.specs.declared.effects.Effect.{Effect}
use Rattle.node_base.specs.Known.{names_known_groups}
use Rattle.node_base.specs.Room.{has_long_room, has_room}
use Rattle.segment_reading.specs.Reading.{ReadingState}
use Rattle.token_client.specs.declared.held.Held.{Held}
use Rattle.token_client.specs.declared.input.In.TheVariants as input
use Rattle.token_client.specs.Held.{may_write}
use Rattle.token_client.specs.State.{held_of, is_in_slot, with_held}
use Rattle.token_client.specs.Held.{take_grant}
use Rattle.token_client.specs.Transition as client
use Rattle.token_law.specs.Net.{Net, Happens, IsServing, after_client}
use Rattle.token_law.specs.Net.Happens.{Elsewhere, GetsCopy}
use Rattle.token_law.specs.Net.Packet.{GrantSent}
use Rattle.wire_msg.specs.declared.body.Body.{Body}
use Rattle.wire_msg.specs.declared.body.Body.TheVariants as body
use Rattle.wire_msg.specs.declared.packet.Packet.{Packet}
use Rattle.wire_msg.specs.declared.tokens.Grant.{Grant}
use Rattle.xfs_base.proofs.Booleans.{and_first, and_second, by_test, contrary}
use Rattle.xfs_base.specs.declared.block.BlockId.{BlockId}
use Rattle.xfs_base.specs.declared.entry.Entry.{Entry}
use Rattle.xfs_base.specs.declared.token.Mode.{Mode}
use Rattle.xfs_base.specs.declared.token.Mode.TheVariants.{Nothing, Copy, Own}
use Rattle.xfs_base.specs.declared.token.Stamp.{Stamp}
use Rattle.xfs_base.specs.Limits.{slot_count, u64_end}
use Rattle.xfs_base.specs.Modes.{is_held, is_own, same_mode}
use Rattle.xfs_base.specs.Steps.{steps, still}
use Rattle.node_slots.specs.node_tie.Asks.{needed}
use Rattle.node_slots.specs.node_tie.ClientEvents.{SeesServing, ClientStands, GetsBody}
use Rattle.node_slots.specs.node_tie.Sight.{SentOf}
use Rattle.node_slots.proofs.node_tie.ClientFrames as frames
use Rattle.node_slots.proofs.node_tie.ClientHears as hearing
use Rattle.node_slots.proofs.node_tie.ClientOwned as owning
use Rattle.node_slots.proofs.node_tie.ClientOwned.{call_needs, no_call_needs, owned_so, refused}
use Rattle.node_slots.proofs.node_tie.ClientPromises as promising
use Rattle.node_slots.proofs.node_tie.ClientServing as serving
use Rattle.node_slots.proofs.node_tie.ClientTokens as tokens
use Rattle.node_slots.proofs.node_tie.ClientUnsettled.{put_cases}
use Rattle.node_slots.proofs.node_tie.ClientWrites as writing
use Rattle.run_answers.proofs.change_law.Fresh.{AllValued, Fresh, IsNew, all_fresh}

-- where no counter of a client that serves is near its end, neither is one of its log, nor of its wants
log_room : (s : Serving) → serving_has_room s ≡ true → has_room s.log.end.seq ≡ true
log_room s room =
    and_first (has_room s.log.end.seq) (has_room (attempt_of s.log.flight)) (and_first (log_has_room s.log) (tokens_room s)
    (and_second (has_room s.tokens.req) (log_has_room s.log && tokens_room s)
    (and_second (has_room s.maps.version) (has_room s.tokens.req && (log_has_room s.log && tokens_room s)) room)))

want_room : (s : Serving) → serving_has_room s ≡ true → has_room s.tokens.req ≡ true
want_room s room =
    and_first (has_room s.tokens.req) (log_has_room s.log && tokens_room s)
    (and_second (has_room s.maps.version) (has_room s.tokens.req && (log_has_room s.log && tokens_room s)) room)

no_value : (o : Option (Option (List ℕ))) → is_none o ≡ true → is_some o ≡ true → ⊥
no_value None none some = contrary some
no_value (Some v) none some = contrary none

-- nothing is below itself
below_itself : (n : ℕ) → nat_lt n n ≡ false
below_itself n = grind (arith, nat_tests)

module _ (members part limit c : ℕ) (small : part < slot_count) (pos : 0 < c) (less : c < members) (n : Net) (s : Serving) (sees : SeesServing false part c n s)
    (h : ClientStands part limit c n (Serves s)) (room : serving_has_room s ≡ true) (versions : BlockId → ℕ) where
  abbrev life : ℕ
  life = s.lasting.inc

  abbrev highest : ℕ
  highest = serving.highest false members part limit c n s

  abbrev Goes : Done → Type 0
  Goes d = frames.Goes false members part limit c life 0 highest n d

  abbrev At : Net → Serving → Type 0
  At m t = frames.At false members part limit c life 0 highest m t

  begins : serving.MayBegin false members part limit c life highest n s
  begins = serving.stands false members part limit c n s sees h (log_room s room)

  here : At n s
  here = begins.here

  abbrev pub IsFresh : Serving → Type 0
  IsFresh t = Fresh versions (needed s.call) t

  -- what is seen so has a value of all that it holds
  whole : (d : Done) → Goes d → AllValued d.state
  whole d g b held none = no_value (held_at d.state b).value none ((g.stands.bears.held b).0 held)

  valued : (d : Done) → Goes d → IsFresh d.state
  valued d g = all_fresh versions (needed s.call) d.state (whole d g)

  pub now_whole : AllValued s
  now_whole b held none = no_value (held_at s b).value none (sees.valued b held)

  now_fresh : IsFresh s
  now_fresh = all_fresh versions (needed s.call) s now_whole

  still_so : Goes (still s)
  still_so = frames.goes_still false members part limit c life 0 highest n s here

  -- ---- time

  again_plain : (r : Option ReadingState) → frames.Plain part c life (fetch_again r)
  again_plain None = All-nil (frames.May part c life)
  again_plain (Some r) = tokens.plain_fetches part c life r

  ticks : Goes (on_tick s)
  unfolding on_tick
  ticks =
      let w : Done = hand s input.Tick in
      let l : Done = serving_write w.state log_in.Tick in
      let fetched : List Effect = fetch_again (reading_in w.state.call) in
      let pushed : List Effect = push_all l.state.managers l.state.feed in
      frames.goes_on false members part limit c life 0 highest n w (gives l.state (fetched ++ (l.outs ++ pushed)))
      (tokens.hands_own false members part limit c life 0 highest pos less n s input.Tick tt (λ u. refl) tt here)
      (λ m k. frames.goes_after false members part limit c life 0 highest m w.state fetched (gives l.state (l.outs ++ pushed))
      (again_plain (reading_in w.state.call)) k
      (λ o i. frames.goes_and_gives false members part limit c life 0 highest o l l.state pushed
      (writing.ticks_so false members part limit c life 0 highest pos less o w.state i)
      (λ x y. y) (tokens.plain_pushes_all part c life l.state.managers l.state.feed)))

  pub tick_whole : AllValued (on_tick s).state
  tick_whole = whole (on_tick s) ticks

  -- ---- a grant

  module _ (block : BlockId) (stamp : Stamp) (inc req : ℕ) (entry : Entry) where
    -- one that isn't accepted changes nothing
    refused_so : (mode : Mode) → client.accepts s.tokens block stamp inc req mode ≡ false → Goes (hand s (input.Granted block stamp inc req mode entry))
    unfolding hand
    refused_so mode fact =
        subst (λ (d : client.Done). Goes (serving_follow (ends_reading (record s { tokens = d.state })) d.outs))
        (sym (refused s.tokens block stamp inc req mode entry fact))
        (tokens.serving_follow_so false members part limit c life 0 highest pos less n (ends_reading s) [] here tt)

    copy_so : SentOf part n.sent block (GrantSent c block stamp inc req Copy entry) → Goes (hand s (input.Granted block stamp inc req Copy entry))
    copy_so sent =
        tokens.hand_so false members part limit c life 0 highest pos less n s (input.Granted block stamp inc req Copy entry)
        (record { happens = λ end serves. by_slot end serves (is_in_slot part block) refl; allowed = λ own g q. contrary own }) here
      where
        by_slot : (end : ℕ) → IsServing false members n c end → (t : Bool) → is_in_slot part block ≡ t
            → Happens false members part n (after_client n c end (client.transition (n.tokens c) (input.Granted block stamp inc req Copy entry)))
        by_slot end serves true fact = GetsCopy c end block stamp inc req entry serves (sent fact)
        by_slot end serves false fact = Elsewhere c end (input.Granted block stamp inc req Copy entry) serves fact

    -- one to own that is accepted
    module _ (taken : client.accepts s.tokens block stamp inc req Own ≡ true) (newest : entry.ver ≡ versions block) where
      abbrev granted : client.Done
      granted = client.on_granted s.tokens block stamp inc req Own entry

      abbrev owner : Serving
      owner = ends_reading (record s { tokens = granted.state })

      owner_fresh : IsFresh owner
      unfolding client.on_granted
      owner_fresh =
          by_test (λ (d : client.Done). (b : BlockId) → is_held (held_of d.state.blocks b).mode ≡ true → is_none (held_of d.state.blocks b).value ≡ true
          → IsNew versions (needed s.call) b (held_of d.state.blocks b)) (client.accepts s.tokens block stamp inc req Own)
          (record { state = with_held s.tokens block (take_grant (held_of s.tokens.blocks block) stamp Own entry); outs = client.grant_next block Own entry.place ∷ [] })
          (still s.tokens)
          (λ _. put_cases (λ b g. is_held g.mode ≡ true → is_none g.value ≡ true → IsNew versions (needed s.call) b g) block
          (take_grant (held_of s.tokens.blocks block) stamp Own entry) s.tokens.blocks (λ held none. record { ver = newest; clean = below_itself entry.ver; needed = call_needs s h.asks block stamp inc req Own taken })
          (λ b other. now_fresh b))
          (λ none. contrary (sym none ∙ taken))

      -- it stays out of the cache
      uncached : note_copy owner block ≡ owner
      unfolding note_copy
      uncached = ap (λ t. cond t (note_clean owner block) owner) (ap (λ (g : Held). same_mode g.mode Copy) (owned_so s.tokens block stamp inc req entry taken).known)

      owns_so : IsFresh (hand s (input.Granted block stamp inc req Own entry)).state
      unfolding hand serving_follow follow_one
      owns_so =
          subst (λ outs. IsFresh (steps follow_one owner outs).state) (sym (owned_so s.tokens block stamp inc req entry taken).outs_are)
          (subst (λ t. IsFresh t) (sym uncached) owner_fresh)

    -- what is known of an accepted grant to own
    abbrev pub KnowsGrant : Type 0
    KnowsGrant = nat_lt entry.ver u64_end ≡ true → client.accepts s.tokens block stamp inc req Own ≡ true
        → may_write (held_of (client.on_granted s.tokens block stamp inc req Own entry).state.blocks block) ≡ true → entry.ver ≡ versions block

    granted_so : (mode : Mode) → SentOf part n.sent block (GrantSent c block stamp inc req mode entry) → (mode ≡ Own → KnowsGrant)
        → (is_own mode && not (has_long_room entry.ver)) ≡ false → IsFresh (hand s (input.Granted block stamp inc req mode entry)).state
    granted_so Copy sent knows low = valued (hand s (input.Granted block stamp inc req Copy entry)) (copy_so sent)
    granted_so Own sent knows low = by_accepts (client.accepts s.tokens block stamp inc req Own) refl
      where
        is_below : (ver : ℕ) → not (has_long_room ver) ≡ false → nat_lt ver u64_end ≡ true
        is_below ver r = grind (arith, nat_tests)

        by_accepts : (t : Bool) → client.accepts s.tokens block stamp inc req Own ≡ t → IsFresh (hand s (input.Granted block stamp inc req Own entry)).state
        by_accepts true fact =
            owns_so fact
            (knows refl (is_below entry.ver low) fact
            (owning.may false members part limit c life 0 highest pos less n s here h.asks block stamp inc req entry sent (is_below entry.ver low) fact))
        by_accepts false fact = valued (hand s (input.Granted block stamp inc req Own entry)) (refused_so Own fact)
    granted_so Nothing sent knows low = by_accepts (client.accepts s.tokens block stamp inc req Nothing) refl
      where
        by_accepts : (t : Bool) → client.accepts s.tokens block stamp inc req Nothing ≡ t
            → IsFresh (hand s (input.Granted block stamp inc req Nothing entry)).state
        by_accepts true fact = absurd (no_call_needs s.call block (call_needs s h.asks block stamp inc req Nothing fact))
        by_accepts false fact = valued (hand s (input.Granted block stamp inc req Nothing entry)) (refused_so Nothing fact)

  -- what is known of a body, where it is such a grant
  abbrev pub KnowsBody : Body → Type 0
  KnowsBody (body.Grant g) = g.mode ≡ Own → KnowsGrant g.block g.stamp g.inc g.req g.entry
  KnowsBody _ = Unit {0}

  grant_fresh : (g : Grant) → SentOf part n.sent g.block (GrantSent c g.block g.stamp g.inc g.req g.mode g.entry)
      → (g.mode ≡ Own → KnowsGrant g.block g.stamp g.inc g.req g.entry) → IsFresh (on_grant s g).state
  unfolding on_grant
  grant_fresh g sent knows =
      by_test (λ (d : Done). IsFresh d.state) (is_own g.mode && not (has_long_room g.entry.ver)) (still s)
      (hand s (input.Granted g.block g.stamp g.inc g.req g.mode g.entry)) (λ _. now_fresh)
      (λ low. granted_so g.block g.stamp g.inc g.req g.entry g.mode sent knows low)

  -- ---- any packet

  body_fresh : (p : Packet) (m : Body) → GetsBody part limit c n (Serves s) m → KnowsBody m → IsFresh (take_body s p.from m).state
  body_fresh p (body.Grant m) gets knows = grant_fresh m gets knows
  body_fresh p (body.Supply m) gets knows = valued (on_supply s m) (hearing.on_supply_so false members part limit c life 0 highest pos less n s m here gets)
  body_fresh p (body.Forward m) gets knows = valued (on_forward s m) (hearing.on_forward_so false members part limit c life 0 highest pos less n s m here gets)
  body_fresh p (body.Recall m) gets knows = valued (on_recall s m) (hearing.on_recall_so false members part limit c life 0 highest pos less n s m here gets)
  body_fresh p (body.Gone m) gets knows = valued (on_gone s m) (hearing.on_gone_so false members part limit c life 0 highest pos less n s m here)
  body_fresh p (body.DeltaAck m) gets knows = valued (still (on_ack s m)) (hearing.on_ack_so false members part limit c life 0 highest pos less n s m here)
  body_fresh p (body.Poll m) gets knows =
      valued (on_poll s p.from m) (promising.on_poll_so false members part limit c life 0 highest small pos less n s p.from m gets h.asks (want_room s room) here)
  body_fresh p (body.Stored m) gets knows = valued (on_stored s m) (hearing.on_stored_so false members part limit c life 0 highest pos less n s m here begins.more)
  body_fresh p (body.Fragment m) gets knows = valued (on_found s p.from m) (hearing.on_found_so false members part limit c life 0 highest pos less n s p.from m tt here)
  body_fresh p (body.Missing m) gets knows = valued (on_missing s p.from m) (hearing.on_missing_so false members part limit c life 0 highest pos less n s p.from m tt here)
  body_fresh p (body.MapNews m) gets knows = valued (on_news s m) (promising.on_news_so false members part limit c life 0 highest small pos less n s m gets here begins.more)
  body_fresh p (body.Welcome m) gets knows =
      valued (on_welcome s m) (promising.on_welcome_so false members part limit c life 0 highest small pos less n s m gets.0 here begins.more)
  body_fresh p _ gets knows = now_fresh

  pub packet_fresh : (p : Packet) → GetsBody part limit c n (Serves s) p.body → KnowsBody p.body → IsFresh (serving_take s p).state
  unfolding serving_take
  packet_fresh p gets knows =
      by_test (λ (d : Done). IsFresh d.state) (names_known_groups s.maps p.body) (take_body s p.from p.body) (asks_for_maps s)
      (λ _. body_fresh p p.body gets knows)
      (λ _. valued (asks_for_maps s) (hearing.asks_for_maps_so false members part limit c life 0 highest pos less n s here))
