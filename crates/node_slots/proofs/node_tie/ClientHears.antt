-- A client that serves hears of blocks and of segments, by packets other than grants.
use Rattle.std.proofs.Common.{◌≡◌, ◌<◌, ℕ, ◌+◌, Bool, true, false, List, [], ◌∷◌, Option, Some, None, refl, sym, subst, ◌∙◌, arith, inl, inr}
use Rattle.std.proofs.lemmas.Bool.Decides.{nat_tests}
use Rattle.std.proofs.lemmas.List.Elements.{All-nil, All-cons}
use Rattle.client_call.specs.Reads.{block_read, Heard, hear_reading, reading_in, value_at}
use Rattle.client_serving.specs.declared.serving.Serving.{Serving}
use Rattle.client_serving.specs.Flights.{held_at, on_stored}
use Rattle.client_serving.specs.Follow.{hand, take_back}
use Rattle.client_serving.specs.Grants.{is_stamp}
use Rattle.client_serving.specs.Packets.{on_supply, supplied_by, on_forward, again, says_again, on_recall, is_gone, on_gone, is_acked, on_ack, end_fetch, told_at, told_by, on_told, on_found, on_missing, asks_for_maps}
use Rattle.client_serving.specs.Reads.{loses, with_reading}
use Rattle.client_serving.specs.Sends.{Done, gives, gave}
use Rattle.delta_feed.specs.Transition.{acknowledged}
use Rattle.log_flight.specs.Flights.{FlightState}
use Rattle.log_owner.specs.Sending.{hello}
use Rattle.node_base.specs.Asking.{next_ask, draw}
use Rattle.segment_reading.specs.declared.reading.Next.{Next}
use Rattle.segment_reading.specs.declared.reading.Next.TheVariants as next
use Rattle.segment_reading.specs.declared.target.BlockAt.{BlockAt}
use Rattle.stripe_code.specs.declared.round.Told.{Told}
use Rattle.stripe_code.specs.declared.round.Told.TheVariants as told
use Rattle.token_client.specs.declared.input.In.TheVariants as input
use Rattle.token_client.specs.declared.output.Out as outputs
use Rattle.token_client.specs.declared.output.Out.TheVariants as output
use Rattle.token_client.specs.State.{TokensState, held_of, is_in_slot}
use Rattle.token_client.specs.Transition as client
use Rattle.token_law.specs.Net.{Net, Happens, IsServing, after_client, client_packets}
use Rattle.token_law.specs.Net.Happens.{Elsewhere, Fetches, GetsForward, GetsSupply}
use Rattle.token_law.specs.Net.Packet.{GaveSent, ForwardSent, RecallSent, SupplySent}
use Rattle.token_law.specs.Net.Runs.{Begun, On}
use Rattle.token_law.specs.Owed.{ReadsThere}
use Rattle.token_protocol.specs.Premises.{Premise}
use Rattle.wire_msg.specs.declared.deltas.DeltaAck.{DeltaAck}
use Rattle.wire_msg.specs.declared.storage.Found.{Found}
use Rattle.wire_msg.specs.declared.storage.Missing.{Missing}
use Rattle.wire_msg.specs.declared.storage.Stored.{Stored}
use Rattle.wire_msg.specs.declared.tokens.Forward.{Forward}
use Rattle.wire_msg.specs.declared.tokens.Gone.{Gone}
use Rattle.wire_msg.specs.declared.tokens.Recall.{Recall}
use Rattle.wire_msg.specs.declared.tokens.Supply.{Supply}
use Rattle.xfs_base.proofs.Booleans.{by_test, contrary}
use Rattle.xfs_base.specs.declared.block.BlockId.{BlockId}
use Rattle.xfs_base.specs.declared.node.NodeId.{NodeId}
use Rattle.xfs_base.specs.declared.node.NodeId.TheVariants as node
use Rattle.xfs_base.specs.declared.token.Stamp.{Stamp}
use Rattle.xfs_base.specs.Stamps.{is_later}
use Rattle.xfs_base.specs.Steps.{still}
use Rattle.node_slots.specs.node_tie.ClientLogs.{BringsRead, Tells}
use Rattle.node_slots.specs.node_tie.Sight.{SentOf}
use Rattle.node_slots.proofs.node_tie.Sight.{ClientDoes}
use Rattle.node_slots.proofs.node_tie.ClientBooks.{same_log}
use Rattle.node_slots.proofs.node_tie.ClientFlights as flights
use Rattle.node_slots.proofs.node_tie.ClientFrames as frames
use Rattle.node_slots.proofs.node_tie.ClientTaking as taking
use Rattle.node_slots.proofs.node_tie.ClientTokens as tokens
use Rattle.node_slots.proofs.node_tie.ClientWrites as writing
use Rattle.node_slots.proofs.node_tie.SmallWorld.{premise_by}

-- a recall at the block's stamp has it said again at most that it was given up
pub data SaysAgain (block : BlockId) (stamp : Stamp) : List outputs.Out → Type 0 where
  Silent : SaysAgain block stamp []
  Again : SaysAgain block stamp (output.Gave block stamp ∷ [])

said_again : (s : TokensState) (block : BlockId) (stamp : Stamp) (keep : Bool) → is_stamp (held_of s.blocks block).stamp stamp ≡ true
    → SaysAgain block stamp (client.on_recalled s block stamp keep).outs
unfolding client.on_recalled client.recalled client.recalled_again
said_again s block stamp keep same =
    by_test (λ (d : client.Done). SaysAgain block stamp d.outs) (client.is_promised s block stamp) (client.recalled s block stamp keep) (still s)
    (λ t. by_test (λ (d : client.Done). SaysAgain block stamp d.outs) (is_later stamp (held_of s.blocks block).stamp)
    (client.recalled_above s block stamp keep) (client.recalled_again s block stamp)
    (λ u. contrary (sym (not_later (held_of s.blocks block).stamp stamp same) ∙ u))
    (λ u. by_test (λ (d : client.Done). SaysAgain block stamp d.outs) (client.was_answered (held_of s.blocks block) stamp)
    (record { state = s; outs = output.Gave block stamp ∷ [] }) (still s) (λ v. Again) (λ v. Silent)))
    (λ t. Silent)
  where
    not_later : (a b : Stamp) → is_stamp a b ≡ true → is_later b a ≡ false
    not_later a b h = grind (arith, nat_tests)

module _ (logs : Bool) (members part limit c life room highest : ℕ) (pos : 0 < c) (less : c < members) where
  abbrev At : Net → Serving → Type 0
  At n s = frames.At logs members part limit c life room highest n s

  abbrev Goes : Net → Done → Type 0
  Goes n d = frames.Goes logs members part limit c life room highest n d

  still_so : (n : Net) (s : Serving) → At n s → Goes n (still s)
  still_so n s h = frames.goes_still logs members part limit c life room highest n s h

  -- ---- tokens

  pub on_supply_so : (n : Net) (s : Serving) (p : Supply) → At n s → SentOf part n.sent p.block (SupplySent c p.block p.stamp p.inc p.req p.ver p.value)
      → Goes n (on_supply s p)
  unfolding on_supply
  on_supply_so n s p h sent =
      tokens.hand_so logs members part limit c life room highest pos less n s (input.Supplied p.block p.stamp p.inc p.req p.ver p.value)
      (record { happens = λ end serves. by_slot end serves (is_in_slot part p.block) refl; allowed = tt }) h
    where
      by_slot : (end : ℕ) → IsServing logs members n c end → (t : Bool) → is_in_slot part p.block ≡ t
          → Happens logs members part n (after_client n c end (client.transition (n.tokens c) (input.Supplied p.block p.stamp p.inc p.req p.ver p.value)))
      by_slot end serves true fact = GetsSupply c end p.block p.stamp p.inc p.req p.ver p.value serves (sent fact)
      by_slot end serves false fact = Elsewhere c end (input.Supplied p.block p.stamp p.inc p.req p.ver p.value) serves fact

  -- the value that is held is supplied
  supplied_so : (n : Net) (s : Serving) (f : Forward) (value : Option (Option (List ℕ))) → At n s
      → SentOf part n.sent f.block (ForwardSent c f.to f.block f.stamp f.inc f.req f.ver) → client.serves s.tokens f.block f.stamp f.ver ≡ true
      → (held_of s.tokens.blocks f.block).value ≡ value → Goes n (supplied_by s f (record { state = s.tokens; outs = client.supplies f.block f.ver value }))
  supplied_so n s f None h sent serves fact = frames.goes_still logs members part limit c life room highest n s h
  supplied_so n s f (Some value) h sent serves fact = by_slot (is_in_slot part f.block) refl
    where
      by_slot : (t : Bool) → is_in_slot part f.block ≡ t
          → Goes n (supplied_by s f (record { state = s.tokens; outs = output.Supply f.block f.ver value ∷ [] }))
      by_slot true is_in =
          let next : Net = record n { sent = SupplySent f.to f.block f.stamp f.inc f.req f.ver value ∷ n.sent } in
          record {
            next = next;
            grown = record {
              runs = On Begun (GetsForward c f.to f.block f.stamp f.inc f.req f.ver value pos less (sent is_in) h.up
                  (subst (λ (t : TokensState). client.serves t f.block f.stamp f.ver ≡ true) (sym h.tokens) serves)
                  (subst (λ (t : TokensState). (held_of t.blocks f.block).value ≡ Some value) (sym h.tokens) fact));
              others = λ d other. (refl, refl);
              slots = λ e. refl;
              grows = λ x k. inr k;
              books = λ l other. same_log n.books l;
              acts = (frames.grown_still logs members part c n).acts;
              own = (frames.grown_still logs members part c n).own;
            };
            stands = taking.stands_more logs members part limit c life room highest n next.sent s.tokens s.log s.lasting.number s.lasting.inc (λ x k. inr k) h;
            does = All-cons (ClientDoes part next.sent c life) _ [] (λ inside. inl refl) (All-nil (ClientDoes part next.sent c life));
          }
      by_slot false is_in = record {
        next = n;
        grown = frames.grown_still logs members part c n;
        stands = h;
        does = All-cons (ClientDoes part n.sent c life) _ [] (λ inside. contrary (sym is_in ∙ inside)) (All-nil (ClientDoes part n.sent c life));
      }

  pub on_forward_so : (n : Net) (s : Serving) (f : Forward) → At n s → SentOf part n.sent f.block (ForwardSent c f.to f.block f.stamp f.inc f.req f.ver)
      → Goes n (on_forward s f)
  unfolding on_forward client.on_forwarded
  on_forward_so n s f h sent =
      by_test (λ (d : client.Done). Goes n (supplied_by s f d)) (client.serves s.tokens f.block f.stamp f.ver)
      (record { state = s.tokens; outs = client.supplies f.block f.ver (held_of s.tokens.blocks f.block).value }) (still s.tokens)
      (λ t. supplied_so n s f (held_of s.tokens.blocks f.block).value h sent t refl)
      (λ t. frames.goes_still logs members part limit c life room highest n s h)

  again_so : (n : Net) (s : Serving) (r : Recall) (outs : List outputs.Out) → SaysAgain r.block r.stamp outs
      → frames.Within (client_packets c life s.log.end.seq outs) n.sent → At n s → Goes n (gives s (again s r outs))
  again_so n s r _ Silent seen h = frames.goes_still logs members part limit c life room highest n s h
  again_so n s r _ Again seen h =
      frames.goes_said logs members part limit c life room highest n s (gave s r.block r.stamp) refl h
      (λ inside. seen (GaveSent c r.block r.stamp s.log.end.seq) (inl refl))

  pub on_recall_so : (n : Net) (s : Serving) (r : Recall) → At n s → SentOf part n.sent r.block (RecallSent c r.block r.stamp r.keep) → Goes n (on_recall s r)
  unfolding on_recall
  on_recall_so n s r h sent =
      let may : taking.MayTake logs members part limit c life room highest n s.log (input.Recalled r.block r.stamp r.keep) =
      flights.recall_may logs members part limit c life room highest pos less n s.log r.block r.stamp r.keep sent in
      let d : client.Done = client.on_recalled s.tokens r.block r.stamp r.keep in
      let t : Serving = record s { tokens = d.state } in
      by_test (λ (x : Done). Goes n x) (is_stamp (held_at s r.block).stamp r.stamp) (says_again s r d) (take_back s r.block r.stamp r.keep)
      (λ fact.
      let k : taking.Taken logs members part limit c life room highest n s.log s.log.end.seq s.lasting.number s.lasting.inc d [] =
      taking.takes logs members part limit c life room highest n s.tokens s.log s.lasting.number s.lasting.inc
      (input.Recalled r.block r.stamp r.keep) pos less h may in
      frames.goes_from logs members part limit c life room highest n k.next (says_again s r d) k.grown
      (again_so k.next t r d.outs (said_again s.tokens r.block r.stamp r.keep fact) k.seen k.stands))
      (λ fact. tokens.take_back_so logs members part limit c life room highest pos less n s r.block r.stamp r.keep may h)

  pub on_gone_so : (n : Net) (s : Serving) (g : Gone) → At n s → Goes n (on_gone s g)
  unfolding on_gone
  on_gone_so n s g h =
      by_test (λ (d : Done). Goes n d) (is_gone s g) (loses s g.block g.seg) (still s)
      (λ t. (tokens.loses_so logs members part limit c life room highest pos less n s s.log.end.seq g.block g.seg refl h).goes) (λ t. still_so n s h)

  pub on_ack_so : (n : Net) (s : Serving) (a : DeltaAck) → At n s → Goes n (still (on_ack s a))
  unfolding on_ack
  on_ack_so n s a h =
      by_test (λ (t : Serving). Goes n (still t)) (is_acked s a) (record s { feed = acknowledged s.feed a.slot a.applied }) s
      (λ t. still_so n (record s { feed = acknowledged s.feed a.slot a.applied }) h) (λ t. still_so n s h)

  -- ---- fragments

  pub on_stored_so : (n : Net) (s : Serving) (m : Stored) → At n s
      → ((f : FlightState) → s.log.flight ≡ Some f → frames.At logs members part limit c life (room + 1) highest n s) → Goes n (on_stored s m)
  on_stored_so n s m h more = writing.acks_so logs members part limit c life room highest pos less n s h more m.name m.index m.generation

  -- what is read ends the fetch, where the world brings what the segment there says
  read_so : (n : Net) (s : Serving) (block : BlockId) (value : Option (List ℕ)) → Premise logs (ReadsThere n.books s.tokens block value) → At n s
      → Goes n (hand s (input.Fetched block value))
  read_so n s block value brings h =
      tokens.hand_so logs members part limit c life room highest pos less n s (input.Fetched block value) (record {
        happens = λ end serves. Fetches c end block value serves (premise_by logs
            (λ (r : ReadsThere n.books s.tokens block value). subst (λ (t : TokensState). ReadsThere n.books t block value) (sym h.tokens) r) brings);
        allowed = tt;
      }) h

  end_fetch_so : (n : Net) (s : Serving) (at : BlockAt) (x : Next) → Premise logs (BringsRead n.books s (Some at) x) → At n s → Goes n (end_fetch s at x)
  end_fetch_so n s at next.Again brings h =
      tokens.hands_own logs members part limit c life room highest pos less n s (input.Reask at.block) tt (λ u. refl) tt h
  end_fetch_so n s at (next.Read segment) brings h = read_so n s at.block (value_at segment at.item) brings h
  end_fetch_so n s at _ brings h = still_so n s h

  told_at_so : (n : Net) (s : Serving) (at : Option BlockAt) (x : Heard) → Premise logs (BringsRead n.books s at x.next) → At n s → Goes n (told_at s at x)
  told_at_so n s None x brings h = still_so n s h
  told_at_so n s (Some at) x brings h = end_fetch_so n (with_reading s x.reading) at x.next (as_read x.next brings) h
    where
      as_read : (x' : Next) → Premise logs (BringsRead n.books s (Some at) x') → Premise logs (BringsRead n.books (with_reading s x.reading) (Some at) x')
      as_read next.Again brings = brings
      as_read (next.Read segment) brings = brings
      as_read next.Wait brings = brings
      as_read next.Ask brings = brings
      as_read next.Lost brings = brings

  told_by_so : (n : Net) (s : Serving) (server ask : ℕ) (t : Told) → Premise logs (Tells n.books s (node.Server server) ask t) → At n s
      → Goes n (told_by s server ask t)
  unfolding told_by
  told_by_so n s server ask t brings h = told_at_so n s (block_read (reading_in s.call)) (hear_reading (reading_in s.call) s.maps.groups ask server t) brings h

  on_told_so : (n : Net) (s : Serving) (from : NodeId) (ask : ℕ) (t : Told) → Premise logs (Tells n.books s from ask t) → At n s → Goes n (on_told s from ask t)
  on_told_so n s (node.Server server) ask t brings h = told_by_so n s server ask t brings h
  on_told_so n s _ ask t brings h = still_so n s h

  pub on_found_so : (n : Net) (s : Serving) (from : NodeId) (f : Found) → Premise logs (Tells n.books s from f.ask (told.Held f.fragment)) → At n s
      → Goes n (on_found s from f)
  on_found_so n s from f brings h = on_told_so n s from f.ask (told.Held f.fragment) brings h

  pub on_missing_so : (n : Net) (s : Serving) (from : NodeId) (m : Missing) → Premise logs (Tells n.books s from m.ask (told.Missing m.generation)) → At n s
      → Goes n (on_missing s from m)
  on_missing_so n s from m brings h = on_told_so n s from m.ask (told.Missing m.generation) brings h

  -- ---- the maps are asked for

  pub asks_for_maps_so : (n : Net) (s : Serving) → At n s → Goes n (asks_for_maps s)
  unfolding asks_for_maps
  asks_for_maps_so n s h =
      frames.goes_plain logs members part limit c life room highest n (record s { lasting = record s.lasting { questions = draw s.lasting.questions } })
      (hello s.lasting.inc (next_ask s.lasting.questions) ∷ []) h
      (All-cons (frames.May part c life) (hello s.lasting.inc (next_ask s.lasting.questions)) [] (let e : s.lasting.inc ≡ life = h.inc_is in omega arith)
      (All-nil (frames.May part c life)))
