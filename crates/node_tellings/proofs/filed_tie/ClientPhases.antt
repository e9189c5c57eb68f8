-- What each event makes of a client, and what it sends, where all that it acts to be filed is reached.
use Rattle.std.proofs.Common.{◌≡◌, ◌≤◌, ℕ, true, [], ◌∷◌, Option, Some, None, is_some, refl, sym, subst, arith}
use Rattle.client_node.specs.declared.client.Client.{Client}
use Rattle.client_node.specs.declared.phase.Phase.TheVariants.{Down, Opening, Serving as Serves}
use Rattle.client_node.specs.declared.phase.Phase.{Phase}
use Rattle.client_node.specs.Phases.{Went_to, cut, owner_of, restart, back, phase_after, opened_on, answers, serves_on, wish_of, down_begins, opening_begins, serving_begins, lasting_of, begins_item, on_begin, on_deliver, client_tick, client_deliver, happens, client_has_room, takes}
use Rattle.client_call.specs.declared.call.Going.{Going}
use Rattle.client_node.specs.Crash.{falls}
use Rattle.client_serving.specs.declared.lasting.Lasting.{Lasting}
use Rattle.client_serving.specs.declared.serving.Serving.{Serving}
use Rattle.client_running.specs.Opens.{begin_call, call_at, opens}
use Rattle.client_serving.specs.Lasting.{live_on}
use Rattle.client_serving.specs.Packets as packets
use Rattle.client_running.specs.Running.{running_go_on}
use Rattle.client_serving.specs.Sends.{Done, gives}
use Rattle.log_owner.specs.declared.opened.Opened.{Opened}
use Rattle.log_owner.specs.declared.opened.Progress.{Progress}
use Rattle.log_owner.specs.declared.opened.Progress.TheVariants as progress
use Rattle.log_owner.specs.declared.opening.Opening as openings
use Rattle.log_owner.specs.Opening as opening
use Rattle.log_owner.specs.Opening.{Went}
use Rattle.log_owner.specs.Sending.{push_all}
use Rattle.node_base.specs.Beginning.{next_item, items_begin, work_at, items_wait, items_answer, answers_unanswered}
use Rattle.node_base.specs.declared.effects.Effect.TheVariants.{Answer as Answers}
use Rattle.node_base.specs.declared.peers.Peers.{Peers}
use Rattle.node_base.specs.Nodes.{has_node}
use Rattle.node_base.specs.Shape.{is_well_formed, has_logs}
use Rattle.version_model.specs.declared.answer.Answer.{Answer}
use Rattle.version_model.specs.declared.answer.Answer.TheVariants as answer
use Rattle.version_model.specs.declared.work.Work.{Work}
use Rattle.version_model.specs.declared.work.Work.TheVariants as work
use Rattle.wire_msg.specs.declared.packet.Do.{Do}
use Rattle.wire_msg.specs.declared.packet.Do.TheVariants.{Begin, Deliver, Tick}
use Rattle.wire_msg.specs.declared.packet.Packet.{Packet}
use Rattle.xfs_base.proofs.Booleans.{by_test, and_first, and_second}
use Rattle.xfs_base.specs.declared.node.NodeId.TheVariants.{Client as AClient}
use Rattle.xfs_base.specs.Steps.{still}
use Rattle.xfs_base.proofs.Alls.{all_append}
use Rattle.node_tellings.specs.filed_tie.ClientReach.{PhaseReaches, ClientReachRises, ClientStartsReaching, ClientsTellFiled}
use Rattle.node_tellings.specs.filed_tie.OpeningReach.{OpeningReaches}
use Rattle.node_tellings.specs.filed_tie.Reach.{Reach, Rises, BodyTells, DoTells}
use Rattle.node_tellings.proofs.filed_tie.Feeds.{push_all_say}
use Rattle.node_tellings.proofs.filed_tie.Frames as frames
use Rattle.node_tellings.proofs.filed_tie.OpeningRises.{opening_rises}
use Rattle.node_tellings.proofs.filed_tie.Openings as events
use Rattle.node_tellings.proofs.filed_tie.Rising.{do_rises}
use Rattle.node_tellings.proofs.filed_tie.ServingWalk as serving
use Rattle.node_moves.proofs.client_walk.Calls as calls
use Rattle.node_moves.proofs.client_walk.Laws.{hears_so}
use Rattle.node_moves.proofs.client_walk.Packets as packets_go
use Rattle.node_moves.proofs.client_walk.Readings as readings

module _ (reach : Reach) (c : ℕ) where
  -- a client of this number, with nothing beyond what was filed
  abbrev PhaseSo : Phase → Type 0
  PhaseSo (Down l) = l.number ≡ c
  PhaseSo (Opening l o) = (l.number ≡ c) × OpeningReaches reach c o
  PhaseSo (Serves s) = serving.At reach c s

  abbrev Goes : Went_to → Type 0
  Goes w = frames.Goes reach (AClient c) PhaseSo w

  still_so : (p : Phase) → PhaseSo p → Goes (still p)
  still_so p h = frames.goes_still reach (AClient c) PhaseSo p h

  answers_so : (p : Phase) (number : ℕ) (a : Answer) → PhaseSo p → Goes (answers p number a)
  answers_so p number a h = frames.goes_plain reach (AClient c) PhaseSo p (Answers number a ∷ []) h (tt, tt)

  -- ---- falls and restarts

  crashes_so : (l : Lasting) (number : ℕ) → l.number ≡ c → Goes (cut l number)
  crashes_so l number own =
      frames.goes_plain reach (AClient c) PhaseSo (Down (record l { items = items_answer l.items })) (cut l number).outs own
      (frames.both_say reach (AClient c) l.items.unanswered answer.Cut number answer.Done)

  restarts_so : (servers : ℕ) (l : Lasting) → l.number ≡ c → Goes (restart servers l)
  restarts_so servers l own =
      frames.goes_plain reach (AClient c) PhaseSo (restart servers l).state (restart servers l).outs
      (own, events.first_so reach (AClient c) c (owner_of l) servers l.questions own) (tt, tt)

  -- ---- the end of an opening

  back_so : (l : Lasting) (capacity : ℕ) (o : Opened) → l.number ≡ c → events.OpensReaching reach (AClient c) c o.log.end.seq o.feed.end
      → Goes (back l capacity o)
  back_so l capacity o own h =
      frames.goes_plain reach (AClient c) PhaseSo (back l capacity o).state (back l capacity o).outs
      (record { own = own; end = h.end_reached; feed = h.feed_reached }) (
        tt,
        all_append (frames.Says reach (AClient c)) (push_all o.promised.managers o.feed) _
            (push_all_say reach (AClient c) o.promised.managers o.feed h.feed_reached) (frames.answers_say reach (AClient c) l.items.unanswered answer.Done),
      )

  phase_after_so : (l : Lasting) (capacity : ℕ) (p : Progress) → l.number ≡ c → events.ProgressReaches reach (AClient c) c p
      → Goes (phase_after l capacity p)
  phase_after_so l capacity (progress.Opening o) own h = still_so (Opening l o) (own, h)
  phase_after_so l capacity (progress.Opened o) own h = back_so l capacity o own h
  phase_after_so l capacity (progress.Lost seg) own h =
      frames.goes_plain reach (AClient c) PhaseSo (Down (record l { items = items_answer l.items })) (answers_unanswered l.items.unanswered (answer.Lost seg)) own
      (frames.answers_say reach (AClient c) l.items.unanswered (answer.Lost seg))

  opened_on_so : (l : Lasting) (capacity : ℕ) (w : Went) → l.number ≡ c → events.WentSo reach (AClient c) c w → Goes (opened_on l capacity w)
  opened_on_so l capacity w own p acts =
      let m : Lasting = record l { questions = w.questions } in
      let e : Went_to = phase_after m capacity w.progress in
      let first = p (frames.all_before (frames.Reached reach (AClient c)) w.effects e.outs acts) in
      let second = phase_after_so m capacity w.progress own first.0 (frames.all_behind (frames.Reached reach (AClient c)) w.effects e.outs acts) in
      (second.0, all_append (frames.Says reach (AClient c)) w.effects e.outs first.1 second.1)

  -- ---- the next item begins

  serves_so : (d : Done) → serving.Goes reach c d → Goes (serves_on d)
  serves_so d p acts = p acts

  begins_so : (s : Serving) (number : ℕ) (going : Option Going) → serving.At reach c s → serving.Goes reach c (begin_call s number going)
  begins_so s number None h = frames.goes_plain reach (AClient c) (serving.At reach c) s (Answers number answer.Done ∷ []) h (tt, tt)
  begins_so s number (Some x) h =
      let t : Serving = record s { lasting = record s.lasting { items = items_wait s.lasting.items number } } in
      packets_go.runs_after (serving.walk reach c) (running_go_on t x)
      (calls.running_go_on_so (serving.walk reach c) t x (readings.going_any (λ r. Unit {0}) (λ r. tt) x) h)

  opens_so : (s : Serving) (number : ℕ) → serving.At reach c s → serving.Goes reach c (opens s number)
  unfolding opens
  opens_so s number h =
      by_test (λ (d : Done). serving.Goes reach c d) (is_some s.lasting.items.unanswered) (gives s (Answers number answer.Busy ∷ []))
      (begin_call s number (call_at s number (work_at s.lasting.items number)))
      (λ t. frames.goes_plain reach (AClient c) (serving.At reach c) s (Answers number answer.Busy ∷ []) h (tt, tt))
      (λ t. begins_so s number (call_at s number (work_at s.lasting.items number)) h)

  down_so : (servers number : ℕ) (l : Lasting) (wanted : Option Work) → l.number ≡ c → Goes (down_begins servers l number (wish_of wanted))
  down_so servers number l (Some (work.Restart node)) own = restarts_so servers (live_on l number) own
  down_so servers number l (Some _) own = answers_so (Down l) number answer.Down own
  down_so servers number l None own = answers_so (Down l) number answer.Down own

  opening_so : (l : Lasting) (o : openings.Opening) (number : ℕ) (wanted : Option Work) → PhaseSo (Opening l o)
      → Goes (opening_begins l o number (wish_of wanted))
  opening_so l o number (Some (work.Crash node)) h = crashes_so l number h.0
  opening_so l o number (Some (work.Restart node)) h = answers_so (Opening l o) number answer.Up h
  opening_so l o number (Some _) h = answers_so (Opening l o) number answer.Down h
  opening_so l o number None h = answers_so (Opening l o) number answer.Down h

  serving_so : (s : Serving) (number : ℕ) (wanted : Option Work) → serving.At reach c s → Goes (serving_begins s number (wish_of wanted))
  serving_so s number (Some (work.Crash node)) h =
      frames.goes_after reach (AClient c) PhaseSo (falls s ∷ []) (cut s.lasting number) (tt, tt) (crashes_so s.lasting number h.own)
  serving_so s number (Some (work.Restart node)) h = answers_so (Serves s) number answer.Up h
  serving_so s number (Some _) h = serves_so (opens s number) (opens_so s number h)
  serving_so s number None h = serves_so (opens s number) (opens_so s number h)

  item_so : (servers : ℕ) (p : Phase) (item : Option ℕ) → PhaseSo p → Goes (begins_item servers p item)
  item_so servers p None h = still_so p h
  item_so servers (Down l) (Some number) h = down_so servers number (record l { items = items_begin l.items }) (work_at (items_begin l.items) number) h
  item_so servers (Opening l o) (Some number) h = opening_so (record l { items = items_begin l.items }) o number (work_at (items_begin l.items) number) h
  item_so servers (Serves s) (Some number) h =
      serving_so (record s { lasting = record s.lasting { items = items_begin s.lasting.items } }) number (work_at (items_begin s.lasting.items) number) h

  -- ---- the events

  on_begin_so : (servers : ℕ) (p : Phase) → PhaseSo p → Goes (on_begin servers p)
  unfolding on_begin
  on_begin_so servers p h = item_so servers p (next_item (lasting_of p).items) h

  on_deliver_so : (capacity : ℕ) (p : Phase) (packet : Packet) → has_logs packet.body ≡ true → BodyTells reach packet.from packet.body → PhaseSo p
      → Goes (on_deliver capacity p packet)
  unfolding on_deliver
  on_deliver_so capacity (Down l) packet shape tells h = still_so (Down l) h
  on_deliver_so capacity (Opening l o) packet shape tells h =
      opened_on_so l capacity (opening.opening_take o l.questions packet) h.0 (events.packet_goes reach (AClient c) c o l.questions packet h.1 shape tells)
  on_deliver_so capacity (Serves s) packet shape tells h =
      serves_so (packets_go.and_runs (serving.walk reach c) (packets.serving_take s packet)) (packets_go.packet_so (serving.walk reach c) s packet (hears_so (serving.walk reach c) (λ ask server t. tt) (λ groups. tt) packet.from packet.body (λ m is. tt)) h tt)

  client_deliver_so : (peers : Peers) (capacity : ℕ) (p : Phase) (packet : Packet) → BodyTells reach packet.from packet.body → PhaseSo p
      → Goes (client_deliver peers capacity p packet)
  client_deliver_so peers capacity p packet tells h =
      by_test (λ (x : Went_to). Goes x) (is_well_formed peers packet) (on_deliver capacity p packet) (still p)
      (λ t. on_deliver_so capacity p packet (and_first (has_logs packet.body) _ (and_second (has_node peers packet.from) _ t)) tells h)
      (λ t. still_so p h)

  client_tick_so : (capacity : ℕ) (p : Phase) → PhaseSo p → Goes (client_tick capacity p)
  unfolding client_tick
  client_tick_so capacity (Down l) h = still_so (Down l) h
  client_tick_so capacity (Opening l o) h = opened_on_so l capacity (opening.on_tick o l.questions) h.0 (events.tick_goes reach (AClient c) c o l.questions h.1)
  client_tick_so capacity (Serves s) h = serves_so (packets_go.and_runs (serving.walk reach c) (packets.on_tick s)) (packets_go.time_so (serving.walk reach c) s h)

  happens_so : (client : Client) (what : Do) → DoTells reach what → PhaseSo client.phase → Goes (happens client what)
  happens_so client Begin tells h = on_begin_so client.peers.servers client.phase h
  happens_so client (Deliver packet) tells h = client_deliver_so client.peers client.cache client.phase packet tells h
  happens_so client Tick tells h = client_tick_so client.cache client.phase h

  takes_so : (client : Client) (what : Do) → DoTells reach what → PhaseSo client.phase → Goes (takes client what)
  takes_so client what tells h =
      by_test (λ (x : Went_to). Goes x) (client_has_room client) (happens client what) (still client.phase) (λ t. happens_so client what tells h)
      (λ t. still_so client.phase h)

-- ---- the law

module _ (reach later : Reach) (rises : Rises reach later) where
  stands : (p : Phase) → PhaseReaches reach p → PhaseSo later (lasting_of p).number p
  stands (Down l) h = refl
  stands (Opening l o) h = (refl, opening_rises reach later rises l.number o h)
  stands (Serves s) h =
      let r = rises s.lasting.number in
      let end = h.end in
      let feed = h.feed in
      record { own = refl; end = omega (arith, r, end); feed = omega (arith, r, feed) }

reaches : (reach : Reach) (c : ℕ) (p : Phase) → PhaseSo reach c p → PhaseReaches reach p
reaches reach c (Down l) h = tt
reaches reach c (Opening l o) h = subst (λ k. OpeningReaches reach k o) (sym h.0) h.1
reaches reach c (Serves s) h =
    record { end = subst (λ k. s.log.end.seq ≤ reach k) (sym h.own) h.end; feed = subst (λ k. s.feed.end ≤ reach k) (sym h.own) h.feed }

pub client_rises : ClientReachRises
client_rises reach later client rises holds = reaches later (lasting_of client.phase).number client.phase (stands reach later rises client.phase holds)

pub clients_tell : ClientsTellFiled
clients_tell reach later client what rises holds tells acts =
    let c : ℕ = (lasting_of client.phase).number in
    let w : Went_to = takes client what in
    let went = takes_so later c client what (do_rises reach later rises what tells) (stands reach later rises client.phase holds)
    (frames.acts_reached later (AClient c) w.outs acts) in
    record { node = reaches later c w.state went.0; packets = frames.packets_tell later (AClient c) w.outs went.1 }

pub client_starts : ClientStartsReaching
client_starts reach number setup works = record { end = omega arith; feed = omega arith }
