-- What a manager that serves does at each packet, and in time, is seen in the small world of its log.
use Rattle.std.proofs.Common.{◌≡◌, ℕ, ◌==◌, Bool, true, false, List, Option, Some, None}
use Rattle.client_log.specs.declared.input.In.TheVariants as log_in
use Rattle.group_map.specs.GroupMapState.{GroupMapState}
use Rattle.log_owner.specs.Sending.{server_in}
use Rattle.manager_slots.specs.Lasting.{log_of}
use Rattle.manager_slots.specs.SlotTable as table
use Rattle.manager_serving.specs.Checkpoints.{Done, serving_write, serving_tell_again}
use Rattle.manager_serving.specs.declared.serving.Serving.{Serving}
use Rattle.manager_serving.specs.Serving.{asker_of, with_slots, with_asker, client_in, fed_log, on_want, on_gave, on_deltas, on_check, on_usage_ask, serving_take, on_report, answered_by, fetch_of, on_found, on_missing, regroups, hearer_of, hears_with, hear_slots, on_newer, on_news, on_fitting_news, ask_for_maps, on_body, serving_hear, recalls_again, serving_ask_again, on_tick, and_then}
use Rattle.node_base.specs.Known.{names_known_groups}
use Rattle.node_base.specs.Maps.{fits, is_older, maps_take}
use Rattle.takeover.specs.declared.input.In.{In as TakeIn}
use Rattle.takeover.specs.declared.input.In.TheVariants as take_in
use Rattle.wire_msg.specs.declared.body.Body.{Body}
use Rattle.wire_msg.specs.declared.body.Body.TheVariants as body
use Rattle.wire_msg.specs.declared.cleaning.Check.{Check}
use Rattle.wire_msg.specs.declared.cleaning.UsageAsk.{UsageAsk}
use Rattle.wire_msg.specs.declared.deltas.Deltas.{Deltas}
use Rattle.wire_msg.specs.declared.deltas.Report.{Report}
use Rattle.wire_msg.specs.declared.packet.Packet.{Packet}
use Rattle.wire_msg.specs.declared.registry.News.{News}
use Rattle.wire_msg.specs.declared.storage.Found.{Found}
use Rattle.wire_msg.specs.declared.storage.Missing.{Missing}
use Rattle.wire_msg.specs.declared.tokens.Gave.{Gave}
use Rattle.wire_msg.specs.declared.tokens.Want.{Want}
use Rattle.xfs_base.proofs.Booleans.{by_test}
use Rattle.xfs_base.specs.declared.news.SlotNews.{SlotNews}
use Rattle.xfs_base.specs.declared.node.NodeId.{NodeId}
use Rattle.xfs_base.specs.declared.node.NodeId.TheVariants as nodes
use Rattle.xfs_base.specs.declared.segment.LogId.{LogId}
use Rattle.xfs_base.specs.Steps.{still}
use Rattle.log_protocol.specs.Tables.{In}
use Rattle.log_tie.specs.Setting.{Setting}
use Rattle.log_law.specs.Net.Packet.{MapSent}
use Rattle.node_logs.specs.node_log_tie.Sight.{BodySeen}
use Rattle.node_logs.specs.client_log_tie.Owner.{Scene}
use Rattle.node_logs.specs.client_log_tie.Texts.{MapFits}
use Rattle.stripe_code.specs.Stripe.{IsBytes}
use Rattle.node_logs.specs.manager_log_tie.Fitting.{InRange, RowsInRange}
use Rattle.node_logs.specs.manager_log_tie.Owner.{its_asker, Stands}
use Rattle.node_logs.proofs.manager_log_tie.Checkpointing.{maps_so, ticks_so, stored_so, acked_so, tells_so}
use Rattle.node_logs.proofs.manager_log_tie.Frames as frames
use Rattle.node_logs.proofs.manager_log_tie.Frames.{all_aside, at_once, stays, goes_on}
use Rattle.node_logs.proofs.manager_log_tie.Tables.{TableGoes, TableAsks, table_wants, table_gaves, table_deltas, table_checks, table_tells_usage, table_recalls, table_takes, table_reports, table_asks, table_regroups, table_hears}
use Rattle.node_logs.proofs.manager_log_tie.Taking.{TakeInFits}

module _ (g : Setting) (j : ℕ) (fact : g.log ≡ log_of j) where
  abbrev Goes : Scene → Done → Type 0
  Goes w d = frames.Goes g j w d

  -- a step, and then another
  then_goes : (w : Scene) (d : Done) (f : Serving → Done) (p : Goes w d) → Goes p.next (f d.state) → Goes w (and_then d f)
  then_goes w d f p q = goes_on g j w d (f d.state) p q

  -- ---- the slots

  by_table : (w : Scene) (s : Serving) (d : table.Done) → Stands g j w s → TableGoes d → Goes w (with_slots s d)
  by_table w s d h one =
      at_once g j w _ d.outs (record { lasts = h.lasts; inc = h.inc; log = h.log; written = h.written; writer = h.writer; index = one.state })
      (all_aside g j w d.outs one.outs)

  by_asker : (w : Scene) (s : Serving) (d : table.Asks) → Stands g j w s → TableAsks d → Goes w (with_asker s d)
  by_asker w s d h one =
      at_once g j w _ d.outs (record {
        lasts = record { number = h.lasts.number; small = h.lasts.small; asks = h.lasts.asks };
        inc = h.inc;
        log = h.log;
        written = h.written;
        writer = h.writer;
        index = one.state;
      }) (all_aside g j w d.outs one.outs)

  want_so : (w : Scene) (s : Serving) (client : Option ℕ) (want : Want) → Stands g j w s → Goes w (on_want s client want)
  unfolding on_want
  want_so w s None want h = stays g j w s h
  want_so w s (Some client) want h = by_table w s (table.on_want s.slots client want) h (table_wants s.slots client want h.index)

  gave_so : (w : Scene) (s : Serving) (client : Option ℕ) (gave : Gave) → Stands g j w s → Goes w (on_gave s client gave)
  unfolding on_gave
  gave_so w s None gave h = stays g j w s h
  gave_so w s (Some client) gave h = by_table w s (table.on_gave s.slots client gave) h (table_gaves s.slots client gave h.index)

  deltas_so : (w : Scene) (s : Serving) (log : Option LogId) (deltas : Deltas) → Stands g j w s → RowsInRange deltas.rows → Goes w (on_deltas s log deltas)
  unfolding on_deltas
  deltas_so w s None deltas h fit = stays g j w s h
  deltas_so w s (Some log) deltas h fit = by_table w s (table.on_deltas s.slots log deltas) h (table_deltas s.slots log deltas fit h.index)

  check_so : (w : Scene) (s : Serving) (check : Check) → Stands g j w s → Goes w (on_check s check)
  unfolding on_check
  check_so w s check h = by_table w s (table.on_check s.slots check) h (table_checks s.slots check h.index)

  usage_so : (w : Scene) (s : Serving) (asked : UsageAsk) → Stands g j w s → Goes w (on_usage_ask s asked)
  unfolding on_usage_ask
  usage_so w s asked h = at_once g j w s _ h (all_aside g j w _ (table_tells_usage s.slots asked))

  -- ---- takeovers

  take_so : (w : Scene) (s : Serving) (k : ℕ) (given : TakeIn) → Stands g j w s → TakeInFits given → Goes w (serving_take s k given)
  unfolding serving_take
  take_so w s k given h fit = by_asker w s (table.slot_table_take (asker_of s) k given) h (table_takes (asker_of s) k given h.index fit)

  report_so : (w : Scene) (s : Serving) (from : NodeId) (report : Report) → Stands g j w s → Goes w (on_report s from report)
  unfolding on_report
  report_so w s from report h = by_asker w s (table.on_report (asker_of s) from report) h (table_reports (asker_of s) from report h.index)

  answer_so : (w : Scene) (s : Serving) (which : Option (ℕ × ℕ)) (given : ℕ → TakeIn) → Stands g j w s → ((own : ℕ) → TakeInFits (given own))
      → Goes w (answered_by s which given)
  answer_so w s None given h fit = stays g j w s h
  answer_so w s (Some which) given h fit = take_so w s which.0 (given which.1) h (fit which.1)

  found_so : (w : Scene) (s : Serving) (server : Option ℕ) (found : Found) → Stands g j w s → IsBytes found.fragment.bytes → Goes w (on_found s server found)
  unfolding on_found
  found_so w s None found h fit = stays g j w s h
  found_so w s (Some server) found h fit =
      answer_so w s (fetch_of s found.ask) (λ own. take_in.Got own server found.generation found.fragment) h (λ own. fit)

  missing_so : (w : Scene) (s : Serving) (server : Option ℕ) (missing : Missing) → Stands g j w s → Goes w (on_missing s server missing)
  unfolding on_missing
  missing_so w s None missing h = stays g j w s h
  missing_so w s (Some server) missing h = answer_so w s (fetch_of s missing.ask) (λ own. take_in.Missing own server missing.generation) h (λ own. tt)

  -- ---- the maps

  regroups_so : (w : Scene) (s : Serving) (groups : GroupMapState) → Stands g j w s → Goes w (regroups s groups)
  unfolding regroups
  regroups_so w s groups h = by_asker w s (table.slot_table_regroup groups (asker_of s)) h (table_regroups groups (asker_of s) h.index)

  slots_so : (w : Scene) (s : Serving) (clients : ℕ) (slots : List SlotNews) → Stands g j w s → Goes w (hear_slots s clients slots)
  unfolding hear_slots
  slots_so w s clients slots h = by s.maps.groups
    where
      by : (groups : Option GroupMapState) → Goes w (hears_with s clients slots groups)
      by None = stays g j w s h
      by (Some groups) =
          by_asker w s (table.hear_each (hearer_of s clients groups) (asker_of s) slots) h (table_hears (hearer_of s clients groups) (asker_of s) slots h.index)

  newer_so : (w : Scene) (s : Serving) (clients : ℕ) (news : News) → Stands g j w s → In (MapSent news.groups) w.net.sent → MapFits news.groups
      → Goes w (on_newer s clients news)
  unfolding on_newer
  newer_so w s clients news h came fit =
      let a : Done = regroups s news.groups in
      let b : Done = and_then a (λ t. hear_slots t clients news.slots) in
      let pa : Goes w a = regroups_so w s news.groups h in
      let pb : Goes w b = then_goes w a (λ t. hear_slots t clients news.slots) pa (slots_so pa.next a.state clients news.slots pa.stands) in
      then_goes w b (λ t. serving_write t (log_in.Maps news.groups)) pb (maps_so g j fact pb.next b.state news.groups pb.stands (pb.grown.sent _ came) fit)

  pub news_so : (w : Scene) (s : Serving) (clients : ℕ) (news : News) → Stands g j w s → In (MapSent news.groups) w.net.sent → MapFits news.groups
      → frames.Goes g j w (on_news s clients news)
  unfolding on_news
  news_so w s clients news h came fit =
      by_test (Goes w) (is_older s.maps news) (on_newer (record s { maps = maps_take s.maps news }) clients news) (hear_slots s clients news.slots)
      (λ t. newer_so w (record s { maps = maps_take s.maps news }) clients news
      (record { lasts = h.lasts; inc = h.inc; log = h.log; written = h.written; writer = h.writer; index = h.index }) came fit)
      (λ t. slots_so w s clients news.slots h)

  fitting_so : (w : Scene) (s : Serving) (clients : ℕ) (news : News) → Stands g j w s → In (MapSent news.groups) w.net.sent → MapFits news.groups
      → Goes w (on_fitting_news s clients news)
  fitting_so w s clients news h came fit =
      by_test (Goes w) (fits s.maps news) (on_news s clients news) (still s) (λ t. news_so w s clients news h came fit) (λ t. stays g j w s h)

  -- ---- all packets

  body_so : (w : Scene) (s : Serving) (clients : ℕ) (from : NodeId) (said : Body) → Stands g j w s
      → BodySeen g (its_asker j w) w.net from (nodes.Manager j) said → InRange said
      → Goes w (on_body s clients from said)
  body_so w s clients from (body.MapNews news) h seen fit = fitting_so w s clients news h seen fit
  body_so w s clients from (body.Welcome m) h seen fit =
      by_test (Goes w) (m.inc == s.lasting.inc) (on_fitting_news s clients m.news) (still s) (λ t. fitting_so w s clients m.news h seen.map fit)
      (λ t. stays g j w s h)
  body_so w s clients from (body.Want want) h seen fit = want_so w s (client_in from) want h
  body_so w s clients from (body.Gave gave) h seen fit = gave_so w s (client_in from) gave h
  body_so w s clients from (body.Deltas deltas) h seen fit = deltas_so w s (fed_log from) deltas h fit
  body_so w s clients from (body.Check check) h seen fit = check_so w s check h
  body_so w s clients from (body.UsageAsk asked) h seen fit = usage_so w s asked h
  body_so w s clients from (body.Report report) h seen fit = report_so w s from report h
  body_so w s clients from (body.Fragment found) h seen fit = found_so w s (server_in from) found h fit
  body_so w s clients from (body.Missing missing) h seen fit = missing_so w s (server_in from) missing h
  body_so w s clients from (body.Stored m) h seen fit = stored_so g j fact w s m h seen
  body_so w s clients from (body.CkptAck ack) h seen fit = acked_so g j fact w s ack h
  body_so w s clients from _ h seen fit = stays g j w s h

  pub packet_so : (w : Scene) (s : Serving) (clients : ℕ) (packet : Packet) → Stands g j w s
      → BodySeen g (its_asker j w) w.net packet.from (nodes.Manager j) packet.body → InRange packet.body
      → frames.Goes g j w (serving_hear s clients packet)
  unfolding serving_hear ask_for_maps
  packet_so w s clients packet h seen fit =
      by_test (Goes w) (names_known_groups s.maps packet.body) (on_body s clients packet.from packet.body) (ask_for_maps s)
      (λ t. body_so w s clients packet.from packet.body h seen fit)
      (λ t. at_once g j w _ _ (record {
        lasts = record { number = h.lasts.number; small = h.lasts.small; asks = h.lasts.asks };
        inc = h.inc;
        log = h.log;
        written = h.written;
        writer = h.writer;
        index = h.index;
      }) (tt, tt))

  -- ---- time

  recalls_so : (w : Scene) (s : Serving) → Stands g j w s → Goes w (recalls_again s)
  unfolding recalls_again
  recalls_so w s h = by_table w s (table.recall_again s.slots) h (table_recalls s.slots h.index)

  asks_so : (w : Scene) (s : Serving) (polls : Bool) → Stands g j w s → Goes w (serving_ask_again s polls)
  unfolding serving_ask_again
  asks_so w s polls h = by_asker w s (table.slot_table_ask_again polls (asker_of s)) h (table_asks polls (asker_of s) h.index)

  pub time_so : (w : Scene) (s : Serving) → Stands g j w s → frames.Goes g j w (on_tick s)
  unfolding on_tick
  time_so w s h =
      let a : Done = recalls_again s in
      let b : Done = and_then a (λ t. serving_ask_again t true) in
      let c : Done = and_then b (λ t. serving_ask_again t false) in
      let d : Done = and_then c (λ t. serving_write t log_in.Tick) in
      let pa : Goes w a = recalls_so w s h in
      let pb : Goes w b = then_goes w a (λ t. serving_ask_again t true) pa (asks_so pa.next a.state true pa.stands) in
      let pc : Goes w c = then_goes w b (λ t. serving_ask_again t false) pb (asks_so pb.next b.state false pb.stands) in
      let pd : Goes w d = then_goes w c (λ t. serving_write t log_in.Tick) pc (ticks_so g j fact pc.next c.state pc.stands) in
      then_goes w d serving_tell_again pd (tells_so g j fact pd.next d.state pd.stands)
