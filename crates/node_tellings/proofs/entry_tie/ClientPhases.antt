-- What each event makes of a client: it holds what is told, and tells nothing else.
use Rattle.std.proofs.Common.{ℕ, List, [], ◌∷◌, Option, Some, None, is_some}
use Rattle.client_log.specs.LogState.{LogState}
use Rattle.client_node.specs.declared.client.Client.{Client}
use Rattle.client_node.specs.declared.phase.Phase.TheVariants.{Down, Opening, Serving as Serves}
use Rattle.client_node.specs.declared.phase.Phase.{Phase}
use Rattle.client_node.specs.Phases.{client_step, Went_to, cut, restart, back, phase_after, opened_on, answers, serves_on, wish_of, down_begins, opening_begins, serving_begins, lasting_of, begins_item, on_begin, on_deliver, client_tick, client_deliver, happens, client_has_room, takes}
use Rattle.client_call.specs.declared.call.Going.{Going}
use Rattle.client_call.specs.Reads.{reading_in}
use Rattle.client_node.specs.Crash.{falls}
use Rattle.client_serving.specs.declared.lasting.Lasting.{Lasting}
use Rattle.client_serving.specs.declared.serving.Serving.{Serving}
use Rattle.client_serving.specs.Flights.{held_at}
use Rattle.client_running.specs.Opens.{begin_call, call_at, opens}
use Rattle.client_serving.specs.Lasting.{live_on}
use Rattle.client_serving.specs.Packets as packets
use Rattle.client_running.specs.Running.{running_go_on}
use Rattle.client_serving.specs.Sends.{Done, gives}
use Rattle.log_owner.specs.declared.opened.Opened.{Opened}
use Rattle.log_owner.specs.declared.opened.Progress.{Progress}
use Rattle.log_owner.specs.declared.opened.Progress.TheVariants as progress
use Rattle.log_owner.specs.declared.opening.Opening as openings
use Rattle.log_owner.specs.declared.opening.Stage.{Stage}
use Rattle.log_owner.specs.declared.opening.Stage.TheVariants as stage
use Rattle.log_owner.specs.Opening as opening
use Rattle.log_owner.specs.Opening.{Went}
use Rattle.log_owner.specs.Sending.{push_all}
use Rattle.node_base.specs.Beginning.{next_item, items_begin, work_at, items_wait, items_answer, answers_unanswered}
use Rattle.node_base.specs.declared.effects.Effect.TheVariants.{Answer as Answers}
use Rattle.node_base.specs.declared.peers.Peers.{Peers}
use Rattle.node_base.specs.Shape.{is_well_formed}
use Rattle.segment_reading.specs.declared.target.BlockAt.{BlockAt}
use Rattle.segment_reading.specs.Reading.{ReadingState}
use Rattle.token_client.specs.declared.held.Fetch.{Fetch}
use Rattle.version_model.specs.declared.act.Act.{Act}
use Rattle.version_model.specs.declared.answer.Answer.{Answer}
use Rattle.version_model.specs.declared.answer.Answer.TheVariants as answer
use Rattle.version_model.specs.declared.work.Work.{Work}
use Rattle.version_model.specs.declared.work.Work.TheVariants as work
use Rattle.wire_msg.specs.declared.packet.Do.{Do}
use Rattle.wire_msg.specs.declared.packet.Do.TheVariants.{Begin, Deliver, Tick}
use Rattle.wire_msg.specs.declared.packet.Packet.{Packet}
use Rattle.xfs_base.proofs.Booleans.{by_test}
use Rattle.xfs_base.specs.declared.block.BlockId.{BlockId}
use Rattle.xfs_base.specs.declared.entry.Entry.{Entry}
use Rattle.xfs_base.specs.declared.segment.SegRef.{SegRef}
use Rattle.xfs_base.specs.declared.node.NodeId.TheVariants.{Client as AClient}
use Rattle.xfs_base.specs.Steps.{still}
use Rattle.xfs_base.proofs.Alls.{all_append, all_weaker}
use Rattle.node_tellings.proofs.filed_tie.Frames.{all_before, all_behind}
use Rattle.node_tellings.specs.entry_tie.ClientTells.{FetchTold, BlockTold, ReadingTold, DeltasTold, FeedTold, PhaseHolds, ClientHolds, PhaseOwed, ClientOwed, ClientStartsTold, ClientHoldsRise, ClientsTellTold}
use Rattle.node_tellings.specs.entry_tie.Told.{Told, BodyTold, DoTold, told_by_rows, TellsTold}
use Rattle.node_tellings.proofs.entry_tie.Feeds.{push_all_say}
use Rattle.node_tellings.proofs.entry_tie.Frames as frames
use Rattle.node_tellings.proofs.entry_tie.Frames.{contains_all}
use Rattle.node_tellings.proofs.entry_tie.Openings as events
use Rattle.node_tellings.proofs.entry_tie.Rising.{told_more, rows_rise}
use Rattle.node_tellings.proofs.entry_tie.ServingWalk as serving
use Rattle.node_moves.proofs.client_walk.Calls as calls
use Rattle.node_moves.proofs.client_walk.Packets as packets_go
use Rattle.node_moves.proofs.client_walk.Readings as readings

module _ (told : Told) (done : List Act) where
  -- a client that holds what is told
  abbrev PhaseSo : Phase → Type 0
  PhaseSo p = PhaseHolds told p

  abbrev Goes : Went_to → Type 0
  Goes w = frames.Goes told done PhaseSo w

  still_so : (p : Phase) → PhaseSo p → Goes (still p)
  still_so p h = frames.goes_still told done PhaseSo p h

  answers_so : (p : Phase) (number : ℕ) (a : Answer) → PhaseSo p → Goes (answers p number a)
  answers_so p number a h = frames.goes_plain told done PhaseSo p (Answers number a ∷ []) h (tt, tt)

  -- ---- falls and restarts

  crashes_so : (l : Lasting) (number : ℕ) → Goes (cut l number)
  crashes_so l number =
      frames.goes_plain told done PhaseSo (Down (record l { items = items_answer l.items })) (cut l number).outs tt
      (frames.both_say told done l.items.unanswered answer.Cut number answer.Done)

  restarts_so : (servers : ℕ) (l : Lasting) → Goes (restart servers l)
  restarts_so servers l = frames.goes_plain told done PhaseSo (restart servers l).state (restart servers l).outs tt (tt, tt)

  -- ---- the end of an opening

  -- of the log that is opened nothing is claimed
  abbrev AnyLog : LogState → Type 0
  AnyLog log = Unit {0}

  any_log : events.KeepsLog AnyLog
  any_log = record {
    first = λ log inc end groups. tt;
    begins = λ s h. tt;
    hears = λ s i heard h. tt;
  }

  any_stage : (at : Stage) → events.StageKeeps told done AnyLog any_log at
  any_stage (stage.Scanning s) = tt
  any_stage (stage.Settling s) = tt

  back_so : (l : Lasting) (capacity : ℕ) (o : Opened) → FeedTold told o.feed → Goes (back l capacity o)
  back_so l capacity o h =
      frames.goes_plain told done PhaseSo (back l capacity o).state (back l capacity o).outs (record { fetches = λ block. tt; feed = h; reading = tt }) (
        tt,
        all_append (frames.Says told done) (push_all o.promised.managers o.feed) _ (push_all_say told done o.promised.managers o.feed h)
            (frames.answers_say told done l.items.unanswered answer.Done),
      )

  phase_after_so : (l : Lasting) (capacity : ℕ) (p : Progress) → events.ProgressHolds told done AnyLog any_log p → Goes (phase_after l capacity p)
  phase_after_so l capacity (progress.Opening o) h = still_so (Opening l o) tt
  phase_after_so l capacity (progress.Opened o) h = back_so l capacity o h.fed
  phase_after_so l capacity (progress.Lost seg) h =
      frames.goes_plain told done PhaseSo (Down (record l { items = items_answer l.items })) (answers_unanswered l.items.unanswered (answer.Lost seg)) tt
      (frames.answers_say told done l.items.unanswered (answer.Lost seg))

  opened_on_so : (l : Lasting) (capacity : ℕ) (w : Went) → events.WentSo told done AnyLog any_log w → Goes (opened_on l capacity w)
  opened_on_so l capacity w p acts =
      let m : Lasting = record l { questions = w.questions } in
      let e : Went_to = phase_after m capacity w.progress in
      let first = p (all_before (frames.Acted told done) w.effects e.outs acts) in
      let second = phase_after_so m capacity w.progress first.0 (all_behind (frames.Acted told done) w.effects e.outs acts) in
      (second.0, all_append (frames.Says told done) w.effects e.outs first.1 second.1)

  -- ---- the next item begins

  serves_so : (d : Done) → serving.Goes told done d → Goes (serves_on d)
  serves_so d p acts = p acts

  begins_so : (s : Serving) (number : ℕ) (going : Option Going) → readings.CallSo (serving.ReadingSo told done) going → serving.At told done s
      → serving.Goes told done (begin_call s number going)
  begins_so s number None fact h = frames.goes_plain told done (serving.At told done) s (Answers number answer.Done ∷ []) h (tt, tt)
  begins_so s number (Some x) fact h =
      let t : Serving = record s { lasting = record s.lasting { items = items_wait s.lasting.items number } } in
      packets_go.runs_after (serving.walk told done) (running_go_on t x) (calls.running_go_on_so (serving.walk told done) t x fact h)

  call_begun : (s : Serving) (number : ℕ) (wanted : Option Work) → readings.CallSo (serving.ReadingSo told done) (call_at s number wanted)
  call_begun s number None = tt
  call_begun s number (Some w) = readings.begun_so (serving.ReadingSo told done) w number s.lasting.number

  opens_so : (s : Serving) (number : ℕ) → serving.At told done s → serving.Goes told done (opens s number)
  unfolding opens
  opens_so s number h =
      by_test (λ (d : Done). serving.Goes told done d) (is_some s.lasting.items.unanswered) (gives s (Answers number answer.Busy ∷ []))
      (begin_call s number (call_at s number (work_at s.lasting.items number)))
      (λ t. frames.goes_plain told done (serving.At told done) s (Answers number answer.Busy ∷ []) h (tt, tt))
      (λ t. begins_so s number (call_at s number (work_at s.lasting.items number)) (call_begun s number (work_at s.lasting.items number)) h)

  down_so : (servers number : ℕ) (l : Lasting) (wanted : Option Work) → Goes (down_begins servers l number (wish_of wanted))
  down_so servers number l (Some (work.Restart node)) = restarts_so servers (live_on l number)
  down_so servers number l (Some _) = answers_so (Down l) number answer.Down tt
  down_so servers number l None = answers_so (Down l) number answer.Down tt

  opening_so : (l : Lasting) (o : openings.Opening) (number : ℕ) (wanted : Option Work)
      → Goes (opening_begins l o number (wish_of wanted))
  opening_so l o number (Some (work.Crash node)) = crashes_so l number
  opening_so l o number (Some (work.Restart node)) = answers_so (Opening l o) number answer.Up tt
  opening_so l o number (Some _) = answers_so (Opening l o) number answer.Down tt
  opening_so l o number None = answers_so (Opening l o) number answer.Down tt

  serving_so : (s : Serving) (number : ℕ) (wanted : Option Work) → serving.At told done s → Goes (serving_begins s number (wish_of wanted))
  serving_so s number (Some (work.Crash node)) h =
      frames.goes_after told done PhaseSo (falls s ∷ []) (cut s.lasting number) (tt, tt) (crashes_so s.lasting number)
  serving_so s number (Some (work.Restart node)) h = answers_so (Serves s) number answer.Up h
  serving_so s number (Some _) h = serves_so (opens s number) (opens_so s number h)
  serving_so s number None h = serves_so (opens s number) (opens_so s number h)

  item_so : (servers : ℕ) (p : Phase) (item : Option ℕ) → PhaseSo p → Goes (begins_item servers p item)
  item_so servers p None h = still_so p h
  item_so servers (Down l) (Some number) h = down_so servers number (record l { items = items_begin l.items }) (work_at (items_begin l.items) number)
  item_so servers (Opening l o) (Some number) h = opening_so (record l { items = items_begin l.items }) o number (work_at (items_begin l.items) number)
  item_so servers (Serves s) (Some number) h =
      serving_so (record s { lasting = record s.lasting { items = items_begin s.lasting.items } }) number (work_at (items_begin s.lasting.items) number) h

  -- ---- the events

  on_begin_so : (servers : ℕ) (p : Phase) → PhaseSo p → Goes (on_begin servers p)
  unfolding on_begin
  on_begin_so servers p h = item_so servers p (next_item (lasting_of p).items) h

  on_deliver_so : (capacity : ℕ) (p : Phase) (packet : Packet) → BodyTold told packet.body → PhaseSo p → PhaseOwed told done p
      → Goes (on_deliver capacity p packet)
  unfolding on_deliver
  on_deliver_so capacity (Down l) packet fact h owed = still_so (Down l) h
  on_deliver_so capacity (Opening l o) packet fact h owed =
      opened_on_so l capacity (opening.opening_take o l.questions packet)
      (events.packet_goes told done AnyLog any_log o l.questions packet owed (any_stage o.stage))
  on_deliver_so capacity (Serves s) packet fact h owed =
      serves_so (packets_go.and_runs (serving.walk told done) (packets.serving_take s packet)) (packets_go.packet_so (serving.walk told done) s packet (serving.hears told done packet.from packet.body fact) h owed)

  client_deliver_so : (peers : Peers) (capacity : ℕ) (p : Phase) (packet : Packet) → BodyTold told packet.body → PhaseSo p → PhaseOwed told done p
      → Goes (client_deliver peers capacity p packet)
  client_deliver_so peers capacity p packet fact h owed =
      by_test (λ (x : Went_to). Goes x) (is_well_formed peers packet) (on_deliver capacity p packet) (still p)
      (λ t. on_deliver_so capacity p packet fact h owed) (λ t. still_so p h)

  client_tick_so : (capacity : ℕ) (p : Phase) → PhaseSo p → PhaseOwed told done p → Goes (client_tick capacity p)
  unfolding client_tick
  client_tick_so capacity (Down l) h owed = still_so (Down l) h
  client_tick_so capacity (Opening l o) h owed =
      opened_on_so l capacity (opening.on_tick o l.questions) (events.tick_goes told done AnyLog any_log o l.questions owed (any_stage o.stage))
  client_tick_so capacity (Serves s) h owed = serves_so (packets_go.and_runs (serving.walk told done) (packets.on_tick s)) (packets_go.time_so (serving.walk told done) s h)

  happens_so : (client : Client) (what : Do) → DoTold told what → PhaseSo client.phase → PhaseOwed told done client.phase → Goes (happens client what)
  happens_so client Begin fact h owed = on_begin_so client.peers.servers client.phase h
  happens_so client (Deliver packet) fact h owed = client_deliver_so client.peers client.cache client.phase packet fact h owed
  happens_so client Tick fact h owed = client_tick_so client.cache client.phase h owed

  takes_so : (client : Client) (what : Do) → DoTold told what → PhaseSo client.phase → PhaseOwed told done client.phase → Goes (takes client what)
  takes_so client what fact h owed =
      by_test (λ (x : Went_to). Goes x) (client_has_room client) (happens client what) (still client.phase) (λ t. happens_so client what fact h owed)
      (λ t. still_so client.phase h)

-- ---- the law

-- of any entries that are told
pub any_client_tells : (told : Told) (client : Client) (what : Do) → ClientHolds told client → DoTold told what
    → ClientOwed told client what (client_step client what).acts → TellsTold (ClientHolds told) told (client_step client what)
any_client_tells told client what h fact owed =
    let w : Went_to = takes client what in
    let done : List Act = (client_step client what).acts in
    let went = takes_so told done client what fact h owed
    (frames.acts_acted told done (AClient (lasting_of client.phase).number) w.outs (contains_all done)) in
    record { node = went.0; packets = frames.packets_tell told done (AClient (lasting_of client.phase).number) w.outs went.1 }

pub clients_tell : ClientsTellTold
clients_tell rows client what h fact owed = any_client_tells (told_by_rows rows) client what h fact owed

pub client_starts : ClientStartsTold
client_starts rows number setup works = record { fetches = λ block. tt; feed = tt; reading = tt }

module _ (told later : Told) (more : (block : BlockId) (entry : Entry) → told block entry → later block entry) where
  fetch_rises : (block : BlockId) (fetch : Option Fetch) → FetchTold told block fetch → FetchTold later block fetch
  fetch_rises block None h = tt
  fetch_rises block (Some fetch) h = record {
    hop = h.hop;
    place_told = more block (record { ver = fetch.ver; hop = h.hop; place = Some fetch.place }) h.place_told;
  }

  block_rises : (seg : SegRef) (at : Option BlockAt) → BlockTold told seg at → BlockTold later seg at
  block_rises seg None h = tt
  block_rises seg (Some at) h =
      let there = h.there in
      record { ver = h.ver; there = record { hop = there.hop; place_told = more at.block _ there.place_told } }

  reading_rises : (r : Option ReadingState) → ReadingTold told r → ReadingTold later r
  reading_rises None h = tt
  reading_rises (Some r) h = block_rises r.target.seg r.target.block h

  pub phase_rises : (p : Phase) → PhaseHolds told p → PhaseHolds later p
  phase_rises (Down l) h = tt
  phase_rises (Opening l o) h = tt
  phase_rises (Serves s) h = record {
    fetches = λ block. fetch_rises block (held_at s block).fetch (h.fetches block);
    feed = all_weaker (DeltasTold told) (DeltasTold later) (λ deltas. rows_rise told later more deltas.rows) s.feed.filed h.feed;
    reading = reading_rises (reading_in s.call) h.reading;
  }

pub client_rises : ClientHoldsRise
client_rises rows later client more h = phase_rises (told_by_rows rows) (told_by_rows later) (told_more rows later more) client.phase h
