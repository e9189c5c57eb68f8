-- What each event makes of a client: it stands so with what it files, and what it tells of its log is so.
use Rattle.std.proofs.Common.{◌≡◌, ◌≤◌, ◌<◌, ℕ, List, [], ◌∷◌, ◌++◌, Option, Some, None, is_some, refl, ap, arith}
use Rattle.std.proofs.lemmas.List.Elements.{All-from_recursion}
use Rattle.client_node.specs.declared.client.Client.{Client}
use Rattle.client_node.specs.declared.phase.Phase.TheVariants.{Down, Opening, Serving as Serves}
use Rattle.client_node.specs.declared.phase.Phase.{Phase}
use Rattle.client_node.specs.Phases.{Went_to, cut, owner_of, restart, back, phase_after, opened_on, answers, serves_on, wish_of, down_begins, opening_begins, serving_begins, lasting_of, begins_item, on_begin, on_deliver, client_tick, client_deliver, happens, client_has_room, takes}
use Rattle.client_call.specs.declared.call.Going.{Going}
use Rattle.client_node.specs.Crash.{falls}
use Rattle.client_serving.specs.declared.lasting.Lasting.{Lasting}
use Rattle.client_serving.specs.declared.serving.Serving.{Serving}
use Rattle.client_running.specs.Opens.{begin_call, call_at, opens}
use Rattle.client_serving.specs.Lasting.{live_on}
use Rattle.client_serving.specs.Packets as packets
use Rattle.client_running.specs.Running.{running_go_on, run}
use Rattle.client_serving.specs.Sends.{Done, gives}
use Rattle.headline.specs.Filed.{Filed, Texts}
use Rattle.index_tie.specs.Net.{Net}
use Rattle.index_tie.specs.Net.Happens.{ClientFiles}
use Rattle.log_owner.specs.declared.opened.Opened.{Opened}
use Rattle.log_owner.specs.declared.opened.Progress.{Progress}
use Rattle.log_owner.specs.declared.opened.Progress.TheVariants as progress
use Rattle.log_owner.specs.declared.opening.Opening as openings
use Rattle.log_owner.specs.declared.opening.Stage.{Stage}
use Rattle.log_owner.specs.declared.opening.Stage.TheVariants as stage
use Rattle.log_owner.specs.Opening as opening
use Rattle.log_owner.specs.Opening.{Went}
use Rattle.log_owner.specs.Sending.{push_all}
use Rattle.node_base.specs.Beginning.{next_item, items_begin, work_at, items_wait, items_answer, answers_unanswered}
use Rattle.node_base.specs.declared.effects.Effect.{Effect}
use Rattle.node_base.specs.declared.effects.Effect.TheVariants.{Answer as Answers}
use Rattle.node_base.specs.declared.peers.Peers.{Peers}
use Rattle.node_base.specs.Shape.{is_well_formed}
use Rattle.node_slots.specs.node_index_tie.Sight.{held_in}
use Rattle.version_model.specs.declared.answer.Answer.{Answer}
use Rattle.version_model.specs.declared.answer.Answer.TheVariants as answer
use Rattle.version_model.specs.declared.work.Work.{Work}
use Rattle.version_model.specs.declared.work.Work.TheVariants as work
use Rattle.wire_msg.specs.declared.body.Body.{Body}
use Rattle.wire_msg.specs.declared.body.Body.TheVariants as body
use Rattle.wire_msg.specs.declared.packet.Do.{Do}
use Rattle.wire_msg.specs.declared.packet.Do.TheVariants.{Begin, Deliver, Tick}
use Rattle.wire_msg.specs.declared.packet.Packet.{Packet}
use Rattle.xfs_base.proofs.Booleans.{by_test}
use Rattle.xfs_base.specs.Steps.{still, saying}
use Rattle.xfs_base.proofs.Alls.{all_append}
use Rattle.xfs_base.specs.Limits.{block_logs}
use Rattle.segment_format.specs.declared.segment.Segment.{Segment}
use Rattle.node_slots.specs.owner_index_tie.ClientEvents.{RestingSeen, ClientAgrees, IsNewerAtSlot, BodyGets, PacketGets, EventGets, ReopensOn, WritesTexts, ClientEventGoes}
use Rattle.node_slots.specs.owner_index_tie.Filing.{filing, filed_after}
use Rattle.node_slots.specs.owner_index_tie.Owners.{OpeningSeen, StageWrites, OwnerDoes}
use Rattle.node_slots.proofs.owner_index_tie.Frames as frames
use Rattle.node_slots.proofs.owner_index_tie.OpeningLog as log
use Rattle.node_slots.proofs.owner_index_tie.Openings as events
use Rattle.node_slots.proofs.owner_index_tie.Running.{texts_after, others_after, runs_after}
use Rattle.node_slots.proofs.owner_index_tie.ServingWalk as owned
use Rattle.node_moves.proofs.client_walk.Calls as calls
use Rattle.node_moves.proofs.client_walk.Readings as readings
use Rattle.node_slots.proofs.owner_index_tie.ServingPackets as serving
use Rattle.node_slots.proofs.owner_index_tie.Standing.{Stands, push_all_plain}

module _ (New : Filed → Segment → Type 0) (part : ℕ) (texts : Texts) (n : Net) (c : ℕ) (some : 0 < c) (limit : c ≤ block_logs) where
  abbrev since : ℕ
  since = n.filed.head c

  abbrev Stood : Filed → Serving → Type 0
  Stood f s = Stands part n c since f s.lasting.number s.log s.feed

  -- a client of this number, as what is filed then sees it; that what is in flight is the text of its name is apart
  abbrev PhaseSo : Filed → Phase → Type 0
  PhaseSo f (Down l) = RestingSeen part texts (filing n f) c l.number
  PhaseSo f (Opening l o) = RestingSeen part texts (filing n f) c l.number × OpeningSeen c o
  PhaseSo f (Serves s) = Stood f s

  abbrev Goes : Filed → Went_to → Type 0
  Goes f w = frames.Goes New part texts n c since PhaseSo f w

  quiet : (f : Filed) (p : Phase) (outs : List Effect) → PhaseSo f p → frames.AllPlain part n c since f outs → Goes f (record { state = p; outs = outs })
  quiet f p outs h all = frames.goes_quiet New part texts n c since PhaseSo f (record { state = p; outs = outs })
      (frames.quiet_plain part n c since f (PhaseSo f) p outs h all)

  still_so : (f : Filed) (p : Phase) → PhaseSo f p → Goes f (still p)
  still_so f p h = quiet f p [] h tt

  answers_so : (f : Filed) (p : Phase) (number : ℕ) (a : Answer) → PhaseSo f p → Goes f (answers p number a)
  answers_so f p number a h = quiet f p (Answers number a ∷ []) h (tt, tt)

  -- ---- falls and restarts

  -- one that serves rests then
  rests_from : (f : Filed) (s : Serving) → Stood f s → RestingSeen part texts (filing n f) c s.lasting.number
  rests_from f s h = record { number_is = h.seen.number_is; fits = record { fit = h.seen.feed.fit; short = h.seen.feed.short } }

  crashes_so : (f : Filed) (l : Lasting) (number : ℕ) → RestingSeen part texts (filing n f) c l.number → Goes f (cut l number)
  crashes_so f l number h =
      quiet f (Down (record l { items = items_answer l.items })) (cut l number).outs h
      (frames.both_plain part n c since f l.items.unanswered answer.Cut number answer.Done)

  restarts_so : (f : Filed) (servers : ℕ) (l : Lasting) → RestingSeen part texts (filing n f) c l.number → Goes f (restart servers l)
  restarts_so f servers l h =
      quiet f (restart servers l).state (restart servers l).outs
      (h, events.first_so c (owner_of l) servers l.questions (ap (λ m. record { 0 = m }) h.number_is)) (tt, tt)

  -- ---- the end of an opening

  back_so : (f : Filed) (l : Lasting) (capacity : ℕ) (o : Opened) → l.number ≡ c → Stands part n c since f c o.log o.feed → Goes f (back l capacity o)
  back_so f l capacity o own h =
      quiet f (back l capacity o).state (back l capacity o).outs
      (record { late = h.late; seen = record { number_is = own; log = h.seen.log; end = h.seen.end; feed = h.seen.feed } }) (
        tt,
        all_append (frames.Plain part n c since f) (push_all o.promised.managers o.feed) _
            (push_all_plain part n c since f some limit o.promised.managers o.feed h.seen.feed)
            (frames.answers_plain part n c since f l.items.unanswered answer.Done),
      )

  abbrev ProgressSeen : Filed → Progress → Type 0
  ProgressSeen f p = log.ProgressSeen part n c since f p

  phase_after_so : (f : Filed) (l : Lasting) (capacity : ℕ) (p : Progress) → l.number ≡ c → ProgressSeen f p → Goes f (phase_after l capacity p)
  phase_after_so f l capacity (progress.Opening o) own h = still_so f (Opening l o) (record { number_is = own; fits = h.0 }, h.1)
  phase_after_so f l capacity (progress.Opened o) own h = back_so f l capacity o own h
  phase_after_so f l capacity (progress.Lost seg) own h =
      quiet f (Down (record l { items = items_answer l.items })) (answers_unanswered l.items.unanswered (answer.Lost seg)) (record { number_is = own; fits = h })
      (frames.answers_plain part n c since f l.items.unanswered (answer.Lost seg))

  opened_on_so : (l : Lasting) (capacity : ℕ) (w : Went) → l.number ≡ c
      → frames.Goes New part texts n c since ProgressSeen n.filed (record { state = w.progress; outs = w.effects })
      → Goes n.filed (opened_on l capacity w)
  opened_on_so l capacity w own p =
      let m : Lasting = record l { questions = w.questions } in
      let e : Went_to = phase_after m capacity w.progress in
      frames.goes_through New part texts n c since ProgressSeen PhaseSo n.filed (record { state = w.progress; outs = w.effects }) e p
      (λ h. phase_after_so (filed_after texts c n.filed w.effects) m capacity w.progress own h)

  -- ---- the next item begins

  begins_so : (f : Filed) (s : Serving) (number : ℕ) (going : Option Going) → Stood f s → Goes f (serves_on (begin_call s number going))
  begins_so f s number None h = answers_so f (Serves s) number answer.Done h
  begins_so f s number (Some x) h =
      let t : Serving = record s { lasting = record s.lasting { items = items_wait s.lasting.items number } } in
      let d : Done = running_go_on t x in
      let its = owned.walk part n c since some limit f in
      let p = owned.quiet part n c since some limit f d (calls.running_go_on_so its t x (readings.going_any (λ r. Unit {0}) (λ r. tt) x) h) in
      let q = owned.quiet part n c since some limit f (run d.state) (calls.run_so its d.state p.stands) in
      quiet f (Serves (run d.state).state) (d.outs ++ (run d.state).outs) q.stands
      (all_append (frames.Plain part n c since f) d.outs (run d.state).outs p.plain q.plain)

  opens_so : (f : Filed) (s : Serving) (number : ℕ) → Stood f s → Goes f (serves_on (opens s number))
  unfolding opens
  opens_so f s number h =
      by_test (λ (d : Done). Goes f (serves_on d)) (is_some s.lasting.items.unanswered) (gives s (Answers number answer.Busy ∷ []))
      (begin_call s number (call_at s number (work_at s.lasting.items number)))
      (λ _. answers_so f (Serves s) number answer.Busy h)
      (λ _. begins_so f s number (call_at s number (work_at s.lasting.items number)) h)

  down_so : (f : Filed) (servers number : ℕ) (l : Lasting) (wanted : Option Work) → RestingSeen part texts (filing n f) c l.number
      → Goes f (down_begins servers l number (wish_of wanted))
  down_so f servers number l (Some (work.Restart node)) h = restarts_so f servers (live_on l number) h
  down_so f servers number l (Some _) h = answers_so f (Down l) number answer.Down h
  down_so f servers number l None h = answers_so f (Down l) number answer.Down h

  opening_so : (f : Filed) (l : Lasting) (o : openings.Opening) (number : ℕ) (wanted : Option Work) → PhaseSo f (Opening l o)
      → Goes f (opening_begins l o number (wish_of wanted))
  opening_so f l o number (Some (work.Crash node)) h = crashes_so f l number h.0
  opening_so f l o number (Some (work.Restart node)) h = answers_so f (Opening l o) number answer.Up h
  opening_so f l o number (Some _) h = answers_so f (Opening l o) number answer.Down h
  opening_so f l o number None h = answers_so f (Opening l o) number answer.Down h

  serving_so : (f : Filed) (s : Serving) (number : ℕ) (wanted : Option Work) → Stood f s → Goes f (serving_begins s number (wish_of wanted))
  serving_so f s number (Some (work.Crash node)) h =
      frames.goes_behind New part texts n c since PhaseSo f (falls s ∷ []) (cut s.lasting number) (tt, tt)
      (crashes_so f s.lasting number (rests_from f s h))
  serving_so f s number (Some (work.Restart node)) h = answers_so f (Serves s) number answer.Up h
  serving_so f s number (Some _) h = opens_so f s number h
  serving_so f s number None h = opens_so f s number h

  item_so : (f : Filed) (servers : ℕ) (p : Phase) (item : Option ℕ) → PhaseSo f p → Goes f (begins_item servers p item)
  item_so f servers p None h = still_so f p h
  item_so f servers (Down l) (Some number) h = down_so f servers number (record l { items = items_begin l.items }) (work_at (items_begin l.items) number) h
  item_so f servers (Opening l o) (Some number) h = opening_so f (record l { items = items_begin l.items }) o number (work_at (items_begin l.items) number) h
  item_so f servers (Serves s) (Some number) h =
      serving_so f (record s { lasting = record s.lasting { items = items_begin s.lasting.items } }) number (work_at (items_begin s.lasting.items) number) h

  -- ---- the events

  -- with what is in flight
  abbrev PhaseText : Phase → Type 0
  PhaseText p = PhaseSo n.filed p × WritesTexts part texts n c p

  -- where the log is open then, what was read back is owed
  abbrev Goes_to : Phase → Went_to → Type 0
  Goes_to p w = ReopensOn part texts n c p w.state → Goes n.filed w

  on_begin_so : (servers : ℕ) (p : Phase) → PhaseSo n.filed p → Goes n.filed (on_begin servers p)
  unfolding on_begin
  on_begin_so servers p h = item_so n.filed servers p (next_item (lasting_of p).items) h

  is_stage : (x : Stage) → StageWrites texts x → log.IsStage texts c n.filed x x
  is_stage (stage.Scanning s) text = tt
  is_stage (stage.Settling s) text = (text, λ back. back)

  gets_end : (l : Lasting) (o : openings.Opening) (m : Lasting) (capacity : ℕ) (p : Progress)
      → ReopensOn part texts n c (Opening l o) (phase_after m capacity p).state
      → log.EndGets texts c n.filed o.stage p
  gets_end l o m capacity (progress.Opening x) gets = tt
  gets_end l o m capacity (progress.Opened r) gets = gets
  gets_end l o m capacity (progress.Lost seg) gets = tt

  opens_to : (l : Lasting) (o : openings.Opening) (capacity : ℕ) (w : Went) → PhaseSo n.filed (Opening l o)
      → log.WentSo New part texts n c since n.filed o.stage w → Goes_to (Opening l o) (opened_on l capacity w)
  opens_to l o capacity w h p gets =
      opened_on_so l capacity w h.0.number_is (p (gets_end l o (record l { questions = w.questions }) capacity w.progress gets))

  serves_so : (s : Serving) (d : Done) → serving.Files New part texts n c since some limit n.filed d → Goes_to (Serves s) (serves_on d)
  serves_so s d p gets = (λ owed. (let k = p.0 owed in record { stands = k.stands; says = k.says }), p.1)

  on_deliver_so : (capacity : ℕ) (p : Phase) (packet : Packet) → PhaseText p → PacketGets part texts n c p packet → Goes_to p (on_deliver capacity p packet)
  unfolding on_deliver
  on_deliver_so capacity (Down l) packet h owed = λ gets. still_so n.filed (Down l) h.0
  on_deliver_so capacity (Opening l o) packet h owed =
      opens_to l o capacity (opening.opening_take o l.questions packet) h.0
      (events.packet_goes New part texts n c since n.filed (omega arith) h.0.0.fits o.stage o l.questions packet h.0.1 (is_stage o.stage h.1))
  on_deliver_so capacity (Serves s) packet h owed =
      serves_so s (saying (packets.serving_take s packet).outs (run (packets.serving_take s packet).state))
      (serving.packet_so New part texts n c since some limit n.filed s h.0 h.1 packet (polled packet.body owed))
    where
      polled : (b : Body) → BodyGets part texts n c s.tokens b → serving.Polled part n c n.filed s b
      polled (body.Poll m) owed = owed
      polled _ owed = tt

  client_deliver_so : (peers : Peers) (capacity : ℕ) (p : Phase) (packet : Packet) → PhaseText p → PacketGets part texts n c p packet
      → Goes_to p (client_deliver peers capacity p packet)
  client_deliver_so peers capacity p packet h owed =
      by_test (λ (w : Went_to). Goes_to p w) (is_well_formed peers packet) (on_deliver capacity p packet) (still p)
      (λ _. on_deliver_so capacity p packet h owed) (λ _ gets. still_so n.filed p h.0)

  client_tick_so : (capacity : ℕ) (p : Phase) → PhaseText p → Goes_to p (client_tick capacity p)
  unfolding client_tick
  client_tick_so capacity (Down l) h = λ gets. still_so n.filed (Down l) h.0
  client_tick_so capacity (Opening l o) h =
      opens_to l o capacity (opening.on_tick o l.questions) h.0
      (events.tick_goes New part texts n c since n.filed (omega arith) h.0.0.fits o.stage o l.questions h.0.1 (is_stage o.stage h.1))
  client_tick_so capacity (Serves s) h =
      serves_so s (saying (packets.on_tick s).outs (run (packets.on_tick s).state))
      (serving.time_so New part texts n c since some limit n.filed s h.0 h.1)

  happens_so : (client : Client) (what : Do) → PhaseText client.phase → EventGets part texts n c client.phase what → Goes_to client.phase (happens client what)
  happens_so client Begin h owed = λ gets. on_begin_so client.peers.servers client.phase h.0
  happens_so client (Deliver packet) h owed = client_deliver_so client.peers client.cache client.phase packet h owed
  happens_so client Tick h owed = client_tick_so client.cache client.phase h

  pub takes_so : (client : Client) (what : Do) → PhaseText client.phase → EventGets part texts n c client.phase what → Goes_to client.phase (takes client what)
  takes_so client what h owed =
      by_test (λ (w : Went_to). Goes_to client.phase w) (client_has_room client) (happens client what) (still client.phase) (λ _. happens_so client what h owed)
      (λ _ gets. still_so n.filed client.phase h.0)

  -- ---- what it is there

  pub stands : (p : Phase) → ClientAgrees part texts n c p → PhaseText p
  stands (Down l) h = (h, tt)
  stands (Opening l o) h = ((h.0, h.1.0), h.1.1)
  stands (Serves s) h = (record { late = omega arith; seen = h.0 }, h.1)

  agrees : (f : Filed) (p : Phase) → PhaseSo f p → WritesTexts part texts n c p → ClientAgrees part texts (filing n f) c p
  agrees f (Down l) h text = h
  agrees f (Opening l o) h text = (h.0, (h.1, text))
  agrees f (Serves s) h text = (h.seen, text)

pub client_event_goes : ClientEventGoes
client_event_goes part texts n c client what some below agreed owed =
    let w = takes client what in
    let limit : c ≤ block_logs = omega arith in
    let f = filed_after texts c n.filed w.outs in
    let k = (takes_so (IsNewerAtSlot part) part texts n c some limit client what
    (stands (IsNewerAtSlot part) part texts n c some limit client.phase agreed) owed.gets
    owed.reopens).0 owed.files in
    record {
      next = filing n f;
      only_files = refl;
      more = frames.more_after texts c n.filed w.outs;
      others = λ l other. others_after texts c l other n.filed w.outs;
      runs = runs_after (IsNewerAtSlot part) part texts (held_in part texts) n c
          (λ g name it. ClientFiles c (texts name) some below it.segment it.new) n.filed w.outs owed.files;
      agrees = agrees (IsNewerAtSlot part) part texts n c some limit f w.state k.stands owed.writes;
      named = λ are. texts_after (IsNewerAtSlot part) texts c n.filed w.outs owed.files are;
      does = All-from_recursion (OwnerDoes part (filing n f) c (n.filed.head c)) w.outs k.says;
    }
