-- Each event of a client is seen in the small world.
use Rattle.std.proofs.Common.{◌≡◌, ◌≤◌, ◌<◌, ℕ, ◌&&◌, Bool, true, false, List, [], ◌∷◌, ◌++◌, Option, Some, None, refl, sym, ap, subst, ◌∙◌, arith, map}
use Rattle.std.proofs.lemmas.List.Elements.{All-nil, All-cons, All-append}
use Rattle.client_node.specs.declared.client.Client.{Client}
use Rattle.client_node.specs.declared.phase.Phase.TheVariants.{Down, Opening, Serving as Serves}
use Rattle.client_node.specs.declared.phase.Phase.{Phase}
use Rattle.client_node.specs.Phases.{Went_to, cut, answers, serves_on, wish_of, wish_at, serving_begins, lasting_of, with_begun, item_begins, begins_item, on_begin, then_runs, on_deliver, client_tick, client_deliver, happens, phase_has_room, client_has_room}
use Rattle.client_node.specs.Crash.{fall_of, falls, flight_of}
use Rattle.client_serving.specs.declared.serving.Serving.{Serving}
use Rattle.client_running.specs.Opens.{opens}
use Rattle.client_serving.specs.Packets as packets
use Rattle.client_node.specs.Room.{serving_has_room, tokens_room}
use Rattle.client_serving.specs.Sends.{gives}
use Rattle.log_owner.specs.Opening.{attempt_of, log_has_room}
use Rattle.node_base.specs.Beginning.{next_item, work_at, items_begin, answers_unanswered}
use Rattle.node_base.specs.declared.effects.Effect.{Effect}
use Rattle.node_base.specs.declared.effects.Effect.TheVariants.{Answer as Answers}
use Rattle.node_base.specs.declared.peers.Peers.{Peers}
use Rattle.node_base.specs.Effects.{acts_of}
use Rattle.node_base.specs.Nodes.{has_node}
use Rattle.node_base.specs.Room.{has_room}
use Rattle.node_base.specs.Shape.{is_well_formed, has_logs}
use Rattle.token_client.specs.Held.{is_dirty}
use Rattle.token_client.specs.State.{TokensState, dirty_in, held_of}
use Rattle.token_law.specs.Net.{Net, acted}
use Rattle.token_law.specs.Net.Happens.{Crashes}
use Rattle.token_law.specs.Net.Runs.{Begun, On}
use Rattle.token_law.specs.Owed.{FallsSo}
use Rattle.token_protocol.specs.Basics.{put, In}
use Rattle.token_protocol.specs.Premises.{Premise}
use Rattle.version_model.specs.declared.act.Act.TheVariants.{Fell}
use Rattle.version_model.specs.declared.act.Fall.{Fall}
use Rattle.version_model.specs.declared.answer.Answer.{Answer}
use Rattle.version_model.specs.declared.answer.Answer.TheVariants as answer
use Rattle.version_model.specs.declared.work.Work.{Work}
use Rattle.version_model.specs.declared.work.Work.TheVariants as work
use Rattle.wire_msg.specs.declared.packet.Do.{Do}
use Rattle.wire_msg.specs.declared.packet.Do.TheVariants.{Begin, Deliver, Tick}
use Rattle.wire_msg.specs.declared.packet.Packet as wire
use Rattle.xfs_base.proofs.Booleans.{by_test, and_first, and_second}
use Rattle.xfs_base.specs.declared.node.NodeId.TheVariants.{Client as AClient}
use Rattle.xfs_base.specs.Steps.{still, saying}
use Rattle.xfs_base.specs.Limits.{slot_count}
use Rattle.node_slots.specs.node_tie.ClientEvents.{SeesServing, ClientAgrees, ClientStands, ClientGets, EndsInTime, ClientDid, ClientGoes, ClientOwed, ClientTakes, IsTaken}
use Rattle.node_slots.specs.node_tie.ClientLogs.{LogAgrees}
use Rattle.node_slots.proofs.node_tie.ClientBooks.{onward_still, put_here, put_there, same_log}
use Rattle.node_slots.proofs.node_tie.ClientCrash.{falls_so, once}
use Rattle.node_slots.proofs.node_tie.ClientFalls.{all_did, falls_dirty}
use Rattle.node_slots.proofs.node_tie.ClientFrames as frames
use Rattle.node_slots.proofs.node_tie.ClientOpens as opening
use Rattle.node_slots.proofs.node_tie.ClientServing as serving
use Rattle.node_slots.proofs.node_tie.ClientStays as staying
use Rattle.node_slots.proofs.node_tie.ClientTokens as tokens
use Rattle.node_slots.proofs.node_tie.SmallWorld.{premise, premise_by}

-- where no counter of a client that serves is near its end, neither is one of its log, nor of its wants
its_log_has_room : (s : Serving) → serving_has_room s ≡ true → has_room s.log.end.seq ≡ true
its_log_has_room s room =
    and_first (has_room s.log.end.seq) (has_room (attempt_of s.log.flight)) (and_first (log_has_room s.log) (tokens_room s)
    (and_second (has_room s.tokens.req) (log_has_room s.log && tokens_room s)
    (and_second (has_room s.maps.version) (has_room s.tokens.req && (log_has_room s.log && tokens_room s)) room)))

wants_have_room : (s : Serving) → serving_has_room s ≡ true → has_room s.tokens.req ≡ true
wants_have_room s room =
    and_first (has_room s.tokens.req) (log_has_room s.log && tokens_room s)
    (and_second (has_room s.maps.version) (has_room s.tokens.req && (log_has_room s.log && tokens_room s)) room)

module _ (logs : Bool) (members part limit c : ℕ) (small : part < slot_count) (pos : 0 < c) (less : c < members) (n : Net) where
  abbrev Goes : Phase → Went_to → Type 0
  Goes p w = ClientGoes logs members part limit c n p w.state w.outs

  -- ---- one that serves

  module _ (s : Serving) (sees : SeesServing logs part c n s) (h : ClientStands part limit c n (Serves s)) where
    -- its next item is begun
    abbrev begun_serving : Serving
    begun_serving = record s { lasting = record s.lasting { items = items_begin s.lasting.items } }

    -- it falls
    module _ (number : ℕ) where
      abbrev flight : Option (ℕ × ℕ)
      flight = flight_of s.log.flight

      abbrev falling : List Fall
      falling = map (fall_of begun_serving) (dirty_in s.tokens.blocks)

      abbrev after_falls : List Effect
      after_falls = answers_unanswered begun_serving.lasting.items.unanswered answer.Cut ++ Answers number answer.Done ∷ []

      plain_after : frames.Plain part c s.lasting.inc after_falls
      plain_after =
          All-append (frames.May part c s.lasting.inc) (answers_unanswered begun_serving.lasting.items.unanswered answer.Cut) (Answers number answer.Done ∷ [])
          (tokens.plain_answers part c s.lasting.inc begun_serving.lasting.items.unanswered answer.Cut)
          (All-cons (frames.May part c s.lasting.inc) (Answers number answer.Done) [] tt (All-nil (frames.May part c s.lasting.inc)))

      abbrev fallen : Net
      fallen = acted (record n { up = put n.up c false }) (Fell c flight falling ∷ [])

      fallen_grown : frames.Grown logs members part c n fallen (Fell c flight falling ∷ [])
      fallen_grown = record {
        runs = On Begun (Crashes c flight falling pos less sees.up (once begun_serving s.tokens.blocks h.asks.sound.sorted) (premise_by logs
            (λ (g : LogAgrees n.books c s.tokens s.log).
            subst (λ (t : TokensState). FallsSo n.books c t flight falling) (sym sees.tokens) (falls_so begun_serving n.books c h.asks.sound g)) sees.logged));
        others = λ d other. (refl, put_there n.up c false d other);
        slots = λ e. refl;
        grows = λ x k. k;
        books = λ l other. same_log n.books l;
        acts = refl;
        own = premise logs (onward_still n.books c);
      }

      abbrev next : Net
      next = acted fallen (acts_of (AClient c) after_falls)

      grown : frames.Grown logs members part c n next (Fell c flight falling ∷ acts_of (AClient c) after_falls)
      grown =
          frames.grown_on logs members part c n fallen next (Fell c flight falling ∷ []) (acts_of (AClient c) after_falls) fallen_grown
          (frames.grown_saying logs members part c fallen (acts_of (AClient c) after_falls) (frames.plain_acts part c s.lasting.inc after_falls plain_after))

      dirty_ones : (f : Fall) → In f falling → is_dirty (held_of (n.tokens c).blocks f.block) ≡ true
      dirty_ones f fact =
          subst (λ (t : TokensState). is_dirty (held_of t.blocks f.block) ≡ true) (sym sees.tokens) (falls_dirty begun_serving h.asks.sound.sorted f fact)

      low : (n.tokens c).inc ≤ s.lasting.inc
      low = (let e : (n.tokens c).inc ≡ s.lasting.inc = ap (λ (t : TokensState). t.inc) sees.tokens ∙ sees.inc in omega arith)

      cut_so : Goes (Serves s) (saying (falls begun_serving ∷ []) (cut begun_serving.lasting number))
      cut_so = record {
        next = next;
        runs = grown.runs;
        agrees = record {
          up = put_here n.up c false;
          number = sees.number;
          inc = low;
          beyond = premise_by logs (λ (g : LogAgrees n.books c s.tokens s.log). g.beyond) sees.logged;
        };
        others = grown.others;
        slots = grown.slots;
        grows = grown.grows;
        acts = grown.acts ∙ ap (λ x. n.acts ++ (Fell x flight falling ∷ acts_of (AClient c) after_falls)) (sym sees.number);
        books = grown.books;
        log = premise logs refl;
        does = All-cons (ClientDid part c n n.sent s.lasting.inc (cut begun_serving.lasting number).state) _ _ (sees.number, tt, dirty_ones)
            (all_did part c n n.sent s.lasting.inc (cut begun_serving.lasting number).state after_falls
            (frames.plain_does part c s.lasting.inc n.sent after_falls plain_after));
        within = h.within;
        promises = tt;
        later = omega arith;
        begins = tt;
        stands = λ away. refl;
        back = tt;
      }

    -- where the numbers of its log are not near their end, it stands as it is seen
    module _ (room : has_room s.log.end.seq ≡ true) where
      stands : serving.MayBegin logs members part limit c s.lasting.inc (serving.highest logs members part limit c n s) n s
      stands = serving.stands logs members part limit c n s sees h room

      begun_stands : serving.MayBegin logs members part limit c s.lasting.inc (serving.highest logs members part limit c n s) n begun_serving
      begun_stands = record { here = stands.here; more = stands.more }

      serving_answers : (number : ℕ) (a : Answer) → Goes (Serves s) (answers (Serves begun_serving) number a)
      serving_answers number a =
          serving.serves_on_so logs members part limit c n s sees (gives begun_serving (Answers number a ∷ []))
          (serving.says_so logs members part limit c s.lasting.inc
          (serving.highest logs members part limit c n s) small pos less n begun_serving number a begun_stands)

      serving_calls : (number : ℕ) → Goes (Serves s) (serves_on (opens begun_serving number))
      serving_calls number = serving.serves_on_so logs members part limit c n s sees (opens begun_serving number)
          (serving.opens_so logs members part limit c s.lasting.inc
          (serving.highest logs members part limit c n s) small pos less n begun_serving number begun_stands)

      serving_begins_so : (number : ℕ) (w : Option Work) → Goes (Serves s) (serving_begins begun_serving number (wish_of w))
      serving_begins_so number (Some (work.Crash node)) = cut_so number
      serving_begins_so number (Some (work.Restart node)) = serving_answers number answer.Up
      serving_begins_so number (Some _) = serving_calls number
      serving_begins_so number None = serving_calls number

      serving_packet : (packet : wire.Packet) → ClientGets logs part limit c n (Serves s) packet → has_room s.tokens.req ≡ true
          → Goes (Serves s) (then_runs (packets.serving_take s packet))
      serving_packet packet gets wants =
          serving.serves_on_so logs members part limit c n s sees
          (serving.and_runs logs members part limit c s.lasting.inc (serving.highest logs members part limit c n s) small pos less (packets.serving_take s packet))
          (serving.packet_so logs members part limit c s.lasting.inc
          (serving.highest logs members part limit c n s) small pos less n s packet gets h.asks wants stands)

      serving_time : Goes (Serves s) (then_runs (packets.on_tick s))
      serving_time =
          serving.serves_on_so logs members part limit c n s sees
          (serving.and_runs logs members part limit c s.lasting.inc (serving.highest logs members part limit c n s) small pos less (packets.on_tick s))
          (serving.time_so logs members part limit c s.lasting.inc (serving.highest logs members part limit c n s) small pos less n s stands)

  -- ---- the events

  still_so : (p : Phase) → ClientAgrees logs part c n p → ClientStands part limit c n p → Goes p (still p)
  still_so p sees h = staying.still_so logs members part limit c small pos less n p sees h

  begin_so : (servers number : ℕ) (p : Phase) → ClientAgrees logs part c n p → ClientStands part limit c n p → has_room (lasting_of p).inc ≡ true
      → phase_has_room p ≡ true
      → Goes p (item_begins servers (with_begun p) number (wish_at (lasting_of (with_begun p)) number))
  begin_so servers number (Down l) sees h later room =
      staying.down_begins_so logs members part limit c small pos less n l sees h servers number (work_at (items_begin l.items) number) later
  begin_so servers number (Opening l o) sees h later room =
      opening.opening_begins_so logs members part limit c small pos less n l o sees h number (work_at (items_begin l.items) number)
  begin_so servers number (Serves s) sees h later room = serving_begins_so s sees h (its_log_has_room s room) number (work_at (items_begin s.lasting.items) number)

  item_so : (servers : ℕ) (p : Phase) (next : Option ℕ) → ClientAgrees logs part c n p → ClientStands part limit c n p → has_room (lasting_of p).inc ≡ true
      → phase_has_room p ≡ true → Goes p (begins_item servers p next)
  item_so servers p None sees h later room = still_so p sees h
  item_so servers p (Some number) sees h later room = begin_so servers number p sees h later room

  on_begin_so : (servers : ℕ) (p : Phase) → ClientAgrees logs part c n p → ClientStands part limit c n p → has_room (lasting_of p).inc ≡ true
      → phase_has_room p ≡ true
      → Goes p (on_begin servers p)
  unfolding on_begin
  on_begin_so servers p sees h later room = item_so servers p (next_item (lasting_of p).items) sees h later room

  on_deliver_so : (capacity : ℕ) (p : Phase) (packet : wire.Packet) → ClientAgrees logs part c n p → ClientStands part limit c n p
      → ClientGets logs part limit c n p packet → has_logs packet.body ≡ true → phase_has_room p ≡ true
      → Goes p (on_deliver capacity p packet)
  unfolding on_deliver
  on_deliver_so capacity (Down l) packet sees h gets known room = still_so (Down l) sees h
  on_deliver_so capacity (Opening l o) packet sees h gets known room =
      opening.opening_packet logs members part limit c small pos less n l o sees h capacity packet gets known
  on_deliver_so capacity (Serves s) packet sees h gets known room = serving_packet s sees h (its_log_has_room s room) packet gets (wants_have_room s room)

  client_deliver_so : (peers : Peers) (capacity : ℕ) (p : Phase) (packet : wire.Packet) → ClientAgrees logs part c n p → ClientStands part limit c n p
      → (is_well_formed peers packet ≡ true → ClientGets logs part limit c n p packet) → phase_has_room p ≡ true → Goes p (client_deliver peers capacity p packet)
  client_deliver_so peers capacity p packet sees h gets room =
      by_test (λ (w : Went_to). Goes p w) (is_well_formed peers packet) (on_deliver capacity p packet) (still p)
      (λ t. on_deliver_so capacity p packet sees h (gets t)
      (and_first (has_logs packet.body) _ (and_second (has_node peers packet.from) _ t))
      room)
      (λ t. still_so p sees h)

  client_tick_so : (capacity : ℕ) (p : Phase) → ClientAgrees logs part c n p → ClientStands part limit c n p → Premise logs (EndsInTime part limit c n p)
      → phase_has_room p ≡ true → Goes p (client_tick capacity p)
  unfolding client_tick
  client_tick_so capacity (Down l) sees h ends room = still_so (Down l) sees h
  client_tick_so capacity (Opening l o) sees h ends room = opening.opening_time logs members part limit c small pos less n l o sees h capacity ends
  client_tick_so capacity (Serves s) sees h ends room = serving_time s sees h (its_log_has_room s room)

  one_packet : (a b : wire.Packet) → Deliver a ≡ Deliver b → a ≡ b
  one_packet a b same = cc

  happens_so : (client : Client) (what : Do) → ClientAgrees logs part c n client.phase → ClientStands part limit c n client.phase
      → (IsTaken client what → ClientOwed logs part limit c n client.phase what) → client_has_room client ≡ true → Goes client.phase (happens client what)
  happens_so client what sees h owed room = by_event what refl (λ formed. owed (record { room = room; formed = formed }))
    where
      later : has_room (lasting_of client.phase).inc ≡ true
      later = and_first (has_room (lasting_of client.phase).inc) (has_room (lasting_of client.phase).questions.last && phase_has_room client.phase) room

      inside : phase_has_room client.phase ≡ true
      inside =
          and_second (has_room (lasting_of client.phase).questions.last) (phase_has_room client.phase)
          (and_second (has_room (lasting_of client.phase).inc) (has_room (lasting_of client.phase).questions.last && phase_has_room client.phase) room)

      Formed : Do → Type 0
      Formed x = (q : wire.Packet) → x ≡ Deliver q → is_well_formed client.peers q ≡ true

      by_event : (x : Do) → what ≡ x → (Formed x → ClientOwed logs part limit c n client.phase x) → Goes client.phase (happens client x)
      by_event Begin fact owed = on_begin_so client.peers.servers client.phase sees h later inside
      by_event (Deliver packet) fact owed =
          client_deliver_so client.peers client.cache client.phase packet sees h
          (λ formed. owed (λ q same. subst (λ (x : wire.Packet). is_well_formed client.peers x ≡ true) (one_packet packet q same) formed)) inside
      by_event Tick fact owed = client_tick_so client.cache client.phase sees h (owed (λ q clash. absurd cc)) inside

-- an event is taken where no counter is near its end, and changes nothing else
pub client_takes : ClientTakes
client_takes logs members part limit c small pos less n client what sees h owed =
    by_test (λ (w : Went_to). ClientGoes logs members part limit c n client.phase w.state w.outs) (client_has_room client) (happens client what)
    (still client.phase)
    (λ room. happens_so logs members part limit c small pos less n client what sees h owed room)
    (λ room. still_so logs members part limit c small pos less n client.phase sees h)
