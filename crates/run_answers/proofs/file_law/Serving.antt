-- What a client that serves files: nothing, but where a segment is settled that one.
use Rattle.std.proofs.Common.{◌≡◌, ⊎_elim, ◌==◌, ℕ, ◌+◌, suc, Bool, List, [], ◌∷◌, Option, Some, None, is_some, sym, ap, subst, ◌∙◌, arith}
use Rattle.std.specs.List.{AllByRecursion, list_any}
use Rattle.client_call.specs.declared.call.Going.{Going}
use Rattle.client_call.specs.Reads.{reading_in}
use Rattle.client_log.specs.declared.input.In.{In as Input}
use Rattle.client_log.specs.declared.input.In.TheVariants as log_in
use Rattle.client_log.specs.declared.output.Out.{Out}
use Rattle.client_log.specs.declared.output.Out.TheVariants.{Settled}
use Rattle.client_log.specs.LogState.{LogState}
use Rattle.client_log.specs.Transition.{end_of}
use Rattle.client_log.specs.Transition as log
use Rattle.client_running.specs.Opens.{begin_call, call_at, opens}
use Rattle.client_running.specs.Running.{running_go_on, run}
use Rattle.client_serving.specs.declared.serving.Serving.{Serving}
use Rattle.client_serving.specs.Flights.{feeds, give_if_clean, seals_again, settle_rows, serving_settle, serving_write, write_one}
use Rattle.client_serving.specs.Follow.{serving_follow}
use Rattle.client_serving.specs.Lasting.{log_of}
use Rattle.client_serving.specs.Packets.{asks_for_maps, may_report, on_news, on_poll, on_tick, on_welcome, polled, regroups, reports, serving_hear, serving_promise, serving_take, take_body, takes_news}
use Rattle.client_serving.specs.Sends.{Done, gives, report}
use Rattle.delta_feed.specs.declared.output.Out.{Out as RangeOut}
use Rattle.delta_feed.specs.declared.output.Out.TheVariants.{Range}
use Rattle.delta_feed.specs.FeedState.{FeedState}
use Rattle.delta_feed.specs.Transition.{feed_push, feed_tick}
use Rattle.group_map.specs.GroupMapState.{GroupMapState}
use Rattle.log_flight.specs.Flights.{FlightState}
use Rattle.log_owner.specs.declared.promised.Managers.{Managers}
use Rattle.log_owner.specs.Sealing.{is_settling}
use Rattle.log_owner.specs.Sending.{name_of, push_all, range, sending_push}
use Rattle.node_base.specs.Beginning.{items_wait, work_at}
use Rattle.node_base.specs.declared.effects.Effect.TheVariants.{Answer as Answers, Does}
use Rattle.node_base.specs.Effects.{acts_of}
use Rattle.node_base.specs.Known.{names_known_groups}
use Rattle.node_base.specs.Maps.{fits, is_older, maps_take}
use Rattle.node_moves.proofs.client_walk.Calls as calls
use Rattle.node_moves.proofs.client_walk.Flights as flights
use Rattle.node_moves.proofs.client_walk.Frames as frames
use Rattle.node_moves.proofs.client_walk.Laws.{Tells, Walk, all_read, all_tell, of_any}
use Rattle.node_moves.proofs.client_walk.LogTurns.{IsSend, Lands, Rests, log_turns}
use Rattle.node_moves.proofs.client_walk.Packets as packets
use Rattle.node_moves.proofs.client_walk.Readings as readings
use Rattle.node_moves.proofs.client_walk.Tokens as tokens
use Rattle.segment_format.specs.Rows.{rows_of}
use Rattle.stripe_code.specs.declared.round.Told.TheVariants as told
use Rattle.token_client.specs.declared.output.Out.{Out as TokenOut}
use Rattle.token_client.specs.State.{dirty_in}
use Rattle.token_client.specs.Transition as client
use Rattle.version_model.specs.declared.act.Act.TheVariants as act
use Rattle.version_model.specs.declared.answer.Answer.TheVariants as answer
use Rattle.wire_msg.specs.declared.body.Body.{Body}
use Rattle.wire_msg.specs.declared.body.Body.TheVariants as body
use Rattle.wire_msg.specs.declared.deltas.Poll.{Poll}
use Rattle.wire_msg.specs.declared.packet.Packet.{Packet}
use Rattle.wire_msg.specs.declared.registry.News.{News}
use Rattle.wire_msg.specs.declared.registry.Welcome.{Welcome}
use Rattle.xfs_base.proofs.Alls.{all_map}
use Rattle.xfs_base.proofs.Booleans.{by_test}
use Rattle.xfs_base.specs.declared.entry.Entry.{Entry}
use Rattle.xfs_base.specs.declared.block.BlockId.{BlockId}
use Rattle.xfs_base.specs.declared.node.NodeId.{NodeId}
use Rattle.xfs_base.specs.declared.node.NodeId.TheVariants as nodes
use Rattle.xfs_base.specs.declared.segment.End.{End}
use Rattle.xfs_base.specs.Steps.{Stepped, saying, steps, still}
use Rattle.run_answers.proofs.file_law.Acts.{AllFileNone, FilesNone, Files, none_files, then_files}
use Rattle.run_answers.proofs.file_law.Lines.{Flies, IsBehind, IsInLine, takes_keep}

range_none : (managers : Managers) (x : RangeOut) → FilesNone (range managers x)
range_none managers (Range slot first upto rows) = tt

pub pushed_none : (managers : Managers) (feed : FeedState) (slot : ℕ) → AllFileNone (sending_push managers feed slot)
pushed_none managers feed slot = all_map FilesNone (range managers) (range_none managers) (feed_push feed slot)

pub all_pushed_none : (managers : Managers) (feed : FeedState) → AllFileNone (push_all managers feed)
all_pushed_none managers feed = all_map FilesNone (range managers) (range_none managers) (feed_tick feed)

module _ (c inc : ℕ) where
  abbrev pub me : NodeId
  me = nodes.Client c

  -- the client of this number, whose log is in line, and ends so
  pub record Stands (number : ℕ) (s : LogState) (end : End) : Type 0 where
    pub own : number ≡ c
    pub line : IsInLine (record { 0 = c }) inc s
    pub ends : s.end ≡ end

  abbrev pub At : End → Serving → Type 0
  At end s = Stands s.lasting.number s.log end

  pub rests_at : (end : End) (number : ℕ) (s : LogState) (i : Input) → (log.transition s i).state.end ≡ s.end → Stands number s end
      → Stands number (log.transition s i).state end
  rests_at end number s i same h = record { own = h.own; line = takes_keep (record { 0 = c }) inc s i h.line; ends = same ∙ h.ends }

  -- where no segment is settled nothing is filed
  abbrev pub walk : End → Walk
  walk end = record {
    Stands = At end;
    Says = FilesNone;
    Acted = frames.Any;
    Granted = λ block entry. Unit {0};
    Came = λ ask server t. Unit {0};
    Mapped = λ groups. Unit {0};
    Lies = λ target. Unit {0};
    Reading = λ r. Unit {0};
    Landed = λ end rows. ⊥;
    Owed = λ l log. ⊥;
    tokens = λ s i fact h. h;
    tells = λ its i fact. all_tell (λ target. Unit {0}) (λ target. tt) (client.transition its i).outs;
    caches = λ s cache h. h;
    maps = λ s news fact h. h;
    managed = λ s managers h. h;
    lasts = λ s l same h. record { own = same ∙ h.own; line = h.line; ends = h.ends };
    calls = λ s call fact h. h;
    reads = λ s h. all_read (λ r. Unit {0}) (λ r. tt) (reading_in s.call);
    begun = λ s target group found fact h. tt;
    confirmed = λ r ask known. tt;
    answered = λ r groups ask server t came known. tt;
    acked = λ s slot applied h. h;
    renewed = λ s slot h. h;
    rests = λ s i same h. rests_at end s.lasting.number s.log i same h;
    landed = λ s f flew owed acted h. owed;
    lands = λ s l rows filed h. absurd filed;
    fed = λ s end rows filed h. absurd filed;
    stores = λ fragment member. tt;
    fetched = λ name ask server. tt;
    wants = λ s block req again mode h. tt;
    gaves = λ s block stamp h. tt;
    supplied = λ f block ver value. (tt, tt);
    asks = λ inc ask. tt;
    reports = λ s slot epoch owed h. tt;
    pushed = λ s slot h. pushed_none s.managers s.feed slot;
    all_pushed = λ s h. all_pushed_none s.managers s.feed;
    answers = λ item a. tt;
    loses = λ name. tt;
    has_read = λ node block ver value. tt;
    wrote = λ node block value. tt;
    synced = λ node. tt;
    files = λ name end rows filed. absurd filed;
  }

  -- nothing is filed
  abbrev Rests_at : End → Done → Type 0
  Rests_at end d = tokens.Goes (walk end) d

  -- what is filed leads from one end to another
  pub record Went (from to : End) (d : Done) : Type 0 where
    pub state : At to d.state
    pub files : Files (record { 0 = c }) inc from.seq (acts_of me d.outs) to.seq

  abbrev pub Goes : End → Done → Type 0
  Goes from d = (to : End) × Went from to d

  pub quiet : (end : End) (d : Done) → Rests_at end d → Went end end d
  quiet end d g =
      let h = frames.gone FilesNone (At end) d g in
      record { state = h.0; files = none_files (record { 0 = c }) inc me end.seq d.outs h.1 }

  rests : (end : End) (d : Done) → Rests_at end d → Goes end d
  rests end d g = (end, quiet end d g)

  went_then : (a b t : End) (d e : Done) → Went a b d → Went b t e → Went a t (saying d.outs e)
  went_then a b t d e x y = record { state = y.state; files = then_files (record { 0 = c }) inc me a.seq b.seq t.seq d.outs e.outs x.files y.files }

  then_goes : (a : End) (d e : Done) → Goes a d → ((b : End) → At b d.state → Goes b e) → Goes a (saying d.outs e)
  then_goes a d e x f = (let y = f x.0 x.1.state in (y.0, went_then a x.0 y.0 d e x.1 y.1))

  -- ---- the log takes an input

  abbrev Sends : List Out → Type 0
  Sends outs = AllByRecursion IsSend outs

  -- the segment that was in flight is settled: it is filed, and then nothing more
  settles_go : (end : End) (s : Serving) (to : End) (rows : List (BlockId × Entry)) → At to s → IsBehind (record { 0 = c }) inc end.seq (name_of (log_of s.lasting) to)
      → Went end to (serving_settle s to rows)
  unfolding serving_settle
  settles_go end s to rows h named =
      let t : Serving = settle_rows s rows in
      let k : At to t = flights.settle_rows_so (walk to) s rows h in
      let fed : Serving = feeds t to rows in
      let g : Went to to (steps give_if_clean fed (dirty_in s.tokens.blocks)) =
      quiet to (steps give_if_clean fed (dirty_in s.tokens.blocks))
      (frames.goes_steps FilesNone frames.Any (At to) give_if_clean (flights.give_if_clean_so (walk to)) fed (dirty_in s.tokens.blocks) k) in
      let pushed : Files (record { 0 = c }) inc to.seq (acts_of me (push_all fed.managers fed.feed)) to.seq =
      none_files (record { 0 = c }) inc me to.seq (push_all fed.managers fed.feed) (all_pushed_none fed.managers fed.feed) in
      let next : to.seq ≡ suc end.seq = (let q = named.next in omega (arith, q)) in
      let first : Files (record { 0 = c }) inc end.seq (acts_of me (Does (act.Filed (name_of (log_of s.lasting) to)) ∷ push_all fed.managers fed.feed)) to.seq =
      record { each = (record { log = named.own; inc = named.boot; number = next }, pushed.each); last = pushed.last } in
      record {
        state = g.state;
        files = then_files (record { 0 = c }) inc me end.seq to.seq to.seq (Does (act.Filed (name_of (log_of s.lasting) to)) ∷ push_all fed.managers fed.feed)
            (steps give_if_clean fed (dirty_in s.tokens.blocks)).outs first g.files;
      }

  again_goes : (end : End) (d : Done) (outs : List Out) → Goes end d → Goes end (saying d.outs (seals_again d.state (list_any is_settling outs)))
  again_goes end d outs g =
      then_goes end d (seals_again d.state (list_any is_settling outs)) g
      (λ b k. rests b (seals_again d.state (list_any is_settling outs)) (flights.seals_again_so (walk b) d.state (list_any is_settling outs) k))

  lands_go : (end : End) (s : Serving) (l : LogState) (f : FlightState) (rest : List Out) → At end s → IsInLine (record { 0 = c }) inc l
      → l.end ≡ end_of f.segment → s.log.flight ≡ Some f → Sends rest
      → Goes end (steps write_one (record s { log = l }) (Settled (end_of f.segment) (rows_of f.segment) ∷ rest))
  unfolding write_one
  lands_go end s l f rest h line ends flew all =
      let t : Serving = record s { log = l } in
      let to : End = end_of f.segment in
      let b : IsBehind (record { 0 = c }) inc s.log.end.seq f.segment.name =
      subst (λ (o : Option FlightState). Flies (record { 0 = c }) inc s.log.end.seq o) flew h.line.flies in
      let number : f.segment.name.seq ≡ end.seq + 1 = b.next ∙ ap (λ (x : End). x.seq + 1) h.ends in
      let log_is : log_of s.lasting ≡ record { 0 = c } = ap (λ (n : ℕ). record { 0 = n }) h.own in
      let w : Went end to (serving_settle t to (rows_of f.segment)) =
      settles_go end t to (rows_of f.segment) (record { own = h.own; line = line; ends = ends }) (record { own = log_is; boot = b.boot; next = number }) in
      then_goes end (serving_settle t to (rows_of f.segment)) (steps write_one (serving_settle t to (rows_of f.segment)).state rest) (to, w)
      (λ e k. rests e (steps write_one (serving_settle t to (rows_of f.segment)).state rest)
      (flights.sends_so (walk e) (serving_settle t to (rows_of f.segment)).state rest k all))

  pub writes_go : (end : End) (s : Serving) (i : Input) → At end s → Goes end (serving_write s i)
  unfolding serving_write
  writes_go end s i h =
      let r : log.Done = log.transition s.log i in
      let t : Serving = record s { log = r.state } in
      let line : IsInLine (record { 0 = c }) inc r.state = takes_keep (record { 0 = c }) inc s.log i h.line in
      ⊎_elim
      (λ (q : Rests s.log.end r). again_goes end (steps write_one t r.outs) r.outs
      (rests end (steps write_one t r.outs)
      (flights.sends_so (walk end) t r.outs (record { own = h.own; line = line; ends = q.same ∙ h.ends }) q.sends)))
      (λ (q : Lands s.log.flight r). again_goes end (steps write_one t r.outs) r.outs
      (subst (λ (outs : List Out). Goes end (steps write_one t outs)) (sym q.outs)
      (lands_go end s r.state q.flight q.rest h line q.ends q.flew q.sends)))
      (log_turns s.log i)

  -- ---- packets

  reports_go : (end : End) (slot epoch : ℕ) (p : Stepped Serving TokenOut) → AllByRecursion (Tells (λ target. Unit {0})) p.outs → At end p.state
      → Rests_at end (reports slot epoch p)
  reports_go end slot epoch p all h =
      frames.goes_after FilesNone frames.Any (At end) (report p.state slot epoch ∷ []) (serving_follow p.state p.outs) (tt, tt)
      (tokens.serving_follow_so (walk end) p.state p.outs all h)

  polled_goes : (end : End) (s : Serving) (manager : ℕ) (p : Poll) → At end s → Rests_at end (polled s manager p)
  unfolding polled
  polled_goes end s manager p h =
      by_test (λ (d : Done). Rests_at end d) (may_report s p) (reports p.slot p.epoch (serving_promise s p.slot p.epoch manager)) (still s)
      (λ _. reports_go end p.slot p.epoch (serving_promise s p.slot p.epoch manager) (packets.promises_told (walk end) s p.slot p.epoch manager)
      (packets.serving_promise_so (walk end) s p.slot p.epoch manager h)) (λ _. tokens.still_so (walk end) s h)

  poll_goes : (end : End) (s : Serving) (from : NodeId) (p : Poll) → At end s → Rests_at end (on_poll s from p)
  poll_goes end s (nodes.Manager manager) p h = polled_goes end s manager p h
  poll_goes end s _ p h = tokens.still_so (walk end) s h

  still_goes : (end : End) (s : Serving) → At end s → Goes end (still s)
  still_goes end s h = rests end (still s) (tokens.still_so (walk end) s h)

  regroups_go : (end : End) (s : Serving) (newer : Bool) (m : GroupMapState) → At end s → Goes end (regroups s newer m)
  regroups_go end s newer m h =
      by_test (λ (d : Done). Goes end d) newer (serving_write s (log_in.Maps m)) (still s) (λ _. writes_go end s (log_in.Maps m) h) (λ _. still_goes end s h)

  takes_news_go : (end : End) (s : Serving) (news : News) → At end s → Goes end (takes_news s news)
  unfolding takes_news
  takes_news_go end s news h =
      let t : Serving = record s { maps = maps_take s.maps news } in
      let d : Done = steps serving_hear t news.slots in
      then_goes end d (regroups d.state (is_older s.maps news) news.groups) (rests end d (packets.all_hear_so (walk end) t news.slots h))
      (λ b k. regroups_go b d.state (is_older s.maps news) news.groups k)

  news_go : (end : End) (s : Serving) (news : News) → At end s → Goes end (on_news s news)
  news_go end s news h =
      by_test (λ (d : Done). Goes end d) (fits s.maps news) (takes_news s news) (still s) (λ _. takes_news_go end s news h) (λ _. still_goes end s h)

  welcome_goes : (end : End) (s : Serving) (m : Welcome) → At end s → Goes end (on_welcome s m)
  unfolding on_welcome
  welcome_goes end s m h =
      by_test (λ (d : Done). Goes end d) (m.inc == s.lasting.inc) (on_news s m.news) (still s) (λ _. news_go end s m.news h) (λ _. still_goes end s h)

  body_goes : (end : End) (s : Serving) (from : NodeId) (b : Body) → At end s → Goes end (take_body s from b)
  body_goes end s from (body.Grant m) h = rests end (take_body s from (body.Grant m)) (packets.on_grant_so (walk end) s m tt h)
  body_goes end s from (body.Supply m) h = rests end (take_body s from (body.Supply m)) (packets.on_supply_so (walk end) s m h)
  body_goes end s from (body.Forward m) h = rests end (take_body s from (body.Forward m)) (packets.on_forward_so (walk end) s m h)
  body_goes end s from (body.Recall m) h = rests end (take_body s from (body.Recall m)) (packets.on_recall_so (walk end) s m h)
  body_goes end s from (body.Gone m) h = rests end (take_body s from (body.Gone m)) (packets.on_gone_so (walk end) s m h)
  body_goes end s from (body.DeltaAck m) h = rests end (take_body s from (body.DeltaAck m)) (packets.on_ack_so (walk end) s m h)
  body_goes end s from (body.Poll m) h = rests end (take_body s from (body.Poll m)) (poll_goes end s from m h)
  body_goes end s from (body.Stored m) h = writes_go end s (log_in.Acked m.name m.index m.generation) h
  body_goes end s from (body.Fragment m) h =
      rests end (take_body s from (body.Fragment m)) (packets.on_told_so (walk end) s from m.ask (told.Held m.fragment) (of_any (λ server. Unit {0}) (λ server. tt) from) h)
  body_goes end s from (body.Missing m) h =
      rests end (take_body s from (body.Missing m)) (packets.on_told_so (walk end) s from m.ask (told.Missing m.generation) (of_any (λ server. Unit {0}) (λ server. tt) from) h)
  body_goes end s from (body.MapNews m) h = news_go end s m h
  body_goes end s from (body.Welcome m) h = welcome_goes end s m h
  body_goes end s from _ h = still_goes end s h

  packet_goes : (end : End) (s : Serving) (p : Packet) → At end s → Goes end (serving_take s p)
  unfolding serving_take
  packet_goes end s p h =
      by_test (λ (d : Done). Goes end d) (names_known_groups s.maps p.body) (take_body s p.from p.body) (asks_for_maps s) (λ _. body_goes end s p.from p.body h)
      (λ _. rests end (asks_for_maps s) (packets.asks_for_maps_so (walk end) s h))

  -- ---- what comes, and then the open call runs

  pub packet_runs : (end : End) (s : Serving) (p : Packet) → At end s → Goes end (saying (serving_take s p).outs (run (serving_take s p).state))
  packet_runs end s p h =
      then_goes end (serving_take s p) (run (serving_take s p).state) (packet_goes end s p h)
      (λ b k. rests b (run (serving_take s p).state) (calls.run_so (walk b) (serving_take s p).state k))

  pub time_runs : (end : End) (s : Serving) → At end s → Goes end (saying (on_tick s).outs (run (on_tick s).state))
  time_runs end s h = rests end (packets.and_runs (walk end) (on_tick s)) (packets.time_so (walk end) s h)

  begins_go : (end : End) (s : Serving) (number : ℕ) (going : Option Going) → At end s → Rests_at end (begin_call s number going)
  begins_go end s number None h = frames.goes_plain FilesNone frames.Any (At end) s (Answers number answer.Done ∷ []) h (tt, tt)
  begins_go end s number (Some x) h =
      let t : Serving = record s { lasting = record s.lasting { items = items_wait s.lasting.items number } } in
      packets.runs_after (walk end) (running_go_on t x) (calls.running_go_on_so (walk end) t x (readings.going_any (λ r. Unit {0}) (λ r. tt) x) h)

  pub opens_go : (end : End) (s : Serving) (number : ℕ) → At end s → Goes end (opens s number)
  unfolding opens
  opens_go end s number h =
      rests end (opens s number)
      (by_test (λ (d : Done). Rests_at end d) (is_some s.lasting.items.unanswered) (gives s (Answers number answer.Busy ∷ []))
      (begin_call s number (call_at s number (work_at s.lasting.items number)))
      (λ _. frames.goes_plain FilesNone frames.Any (At end) s (Answers number answer.Busy ∷ []) h (tt, tt))
      (λ _. begins_go end s number (call_at s number (work_at s.lasting.items number)) h))
