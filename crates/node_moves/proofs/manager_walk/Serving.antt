-- What packets and time make of a manager that serves, and what it says.
use Rattle.std.proofs.Common.{ℕ, ◌==◌, Bool, true, false, List}
use Rattle.std.specs.Prelude.{Option, Some, None}
use Rattle.std.specs.List.{AllByRecursion}
use Rattle.client_log.specs.declared.input.In.TheVariants as log_input
use Rattle.group_map.specs.GroupMapState.{GroupMapState}
use Rattle.log_owner.specs.Sending.{server_in}
use Rattle.manager_slots.specs.SlotTable as table
use Rattle.manager_serving.specs.Checkpoints.{Done, serving_write, serving_tell_again}
use Rattle.manager_serving.specs.declared.serving.Serving.{Serving}
use Rattle.manager_serving.specs.Serving.{and_then, asker_of, with_slots, with_asker, client_in, fed_log, on_want, on_gave, on_deltas, on_check, on_usage_ask, serving_take, on_report, answered_by, on_found, on_missing, regroups, hearer_of, hears_with, hear_slots, on_newer, on_news, on_fitting_news, ask_for_maps, on_body, serving_hear, recalls_again, serving_ask_again, on_tick}
use Rattle.node_base.specs.Known.{names_known_groups}
use Rattle.node_base.specs.Maps.{fits, is_older, maps_take}
use Rattle.takeover.specs.declared.input.In.{In as TakeIn}
use Rattle.takeover.specs.declared.input.In.TheVariants as take_in
use Rattle.wire_msg.specs.declared.body.Body.{Body}
use Rattle.wire_msg.specs.declared.body.Body.TheVariants as body
use Rattle.wire_msg.specs.declared.cleaning.Check.{Check}
use Rattle.wire_msg.specs.declared.cleaning.UsageAsk.{UsageAsk}
use Rattle.wire_msg.specs.declared.deltas.Deltas.{Deltas}
use Rattle.wire_msg.specs.declared.deltas.Report.{Report}
use Rattle.wire_msg.specs.declared.packet.Packet.{Packet}
use Rattle.wire_msg.specs.declared.registry.News.{News}
use Rattle.wire_msg.specs.declared.storage.Found.{Found}
use Rattle.wire_msg.specs.declared.storage.Missing.{Missing}
use Rattle.wire_msg.specs.declared.tokens.Gave.{Gave}
use Rattle.wire_msg.specs.declared.tokens.Want.{Want}
use Rattle.xfs_base.proofs.Booleans.{by_test}
use Rattle.xfs_base.specs.declared.news.SlotNews.{SlotNews}
use Rattle.xfs_base.specs.declared.node.NodeId.{NodeId}
use Rattle.xfs_base.specs.declared.segment.LogId.{LogId}
use Rattle.xfs_base.specs.Steps.{still}
use Rattle.xfs_base.proofs.Leaving.{Leaves, goes_after}
use Rattle.std.proofs.Common.{◌≡◌, ℕ, zero, suc, ◌==◌, Bool, true, false, List, [], ◌∷◌, refl, subst}
use Rattle.std.specs.Prelude.{Option, Some, None, IfSome, slice_get}
use Rattle.manager_slots.specs.declared.slot_phase.SlotPhase.{SlotPhase}
use Rattle.manager_slots.specs.Slots.{fetch_of as fetch_in}
use Rattle.manager_serving.specs.Serving.{and_then, asker_of, with_slots, with_asker, client_in, fed_log, on_want, on_gave, on_deltas, on_check, on_usage_ask, serving_take, on_report, answered_by, on_found, on_missing, regroups, hearer_of, hears_with, hear_slots, on_newer, on_news, on_fitting_news, ask_for_maps, on_body, serving_hear, recalls_again, serving_ask_again, on_tick}
use Rattle.stripe_code.specs.declared.round.Told.TheVariants as answered
use Rattle.xfs_base.proofs.Leaving.{goes_after}
use Rattle.manager_slots.specs.declared.slot_phase.SlotPhase.TheVariants as phase
use Rattle.stripe_code.specs.declared.round.Told.{Told as Answered}
use Rattle.xfs_base.specs.declared.fragment.Fragment.{Fragment}
use Rattle.takeover.specs.TakeState.{TakeState}
use Rattle.xfs_base.proofs.Alls.{all_each, all_weaker}
use Rattle.node_moves.proofs.manager_walk.Laws.{Says, ServingSo, Walk}
use Rattle.node_moves.proofs.manager_walk.Slots.{HeardSo}
use Rattle.node_moves.proofs.manager_walk.Tables.{TableAsks, TableGoes, table_asks, table_checks, table_deltas, table_gaves, table_hears, table_recalls, table_regroups, table_reports, table_takes, table_tells_usage, table_wants}
use Rattle.node_moves.proofs.manager_walk.Writing.{Goes, acks_on, stored_on, tells_on, writes_on}

module _ (w : Walk) where
  -- it stands so, and what it has in flight is known, which no step but one of the log changes
  pub record Ready (s : Serving) : Type 0 where
    pub so : ServingSo w s
    pub flies : w.Flies s.writer.log s.log.flight

  abbrev pub Does : Done → Type 0
  Does d = Leaves Ready (Says w) d

  unmoved : (s : Serving) → Ready s → Does (still s)
  unmoved s h = record { state = h; outs = tt }

  pub ends_so : (d : Done) → Does d → Goes w d
  ends_so d h = record { state = h.state.so; outs = h.outs }

  -- a step, and then another
  then_goes : (d : Done) (f : Serving → Done) → Does d → ((s : Serving) → Ready s → Does (f s)) → Does (and_then d f)
  then_goes d f one next = goes_after Ready (Says w) d.outs (f d.state) one.outs (next d.state one.state)

  -- or one of the log
  then_ends : (d : Done) (f : Serving → Done) → Does d → ((s : Serving) → Ready s → Goes w (f s)) → Goes w (and_then d f)
  then_ends d f one next = goes_after (ServingSo w) (Says w) d.outs (f d.state) one.outs (next d.state one.state)

  by_table : (s : Serving) (d : table.Done) → Ready s → TableGoes w d → Does (with_slots s d)
  by_table s d h one = record {
    state = record { so = record { slots = one.state; work = h.so.work; job = h.so.job; log = h.so.log }; flies = h.flies };
    outs = one.outs;
  }

  by_asker : (s : Serving) (d : table.Asks) → Ready s → TableAsks w d → Does (with_asker s d)
  by_asker s d h one = record {
    state = record { so = record { slots = one.state; work = h.so.work; job = h.so.job; log = h.so.log }; flies = h.flies };
    outs = one.outs;
  }

  -- ---- clients and the cleaner

  want_on : (s : Serving) (client : Option ℕ) (want : Want) → Ready s → Does (on_want s client want)
  unfolding on_want
  want_on s None want h = unmoved s h
  want_on s (Some client) want h = by_table s (table.on_want s.slots client want) h (table_wants w s.slots client want h.so.slots)

  gave_on : (s : Serving) (client : Option ℕ) (gave : Gave) → Ready s → Does (on_gave s client gave)
  unfolding on_gave
  gave_on s None gave h = unmoved s h
  gave_on s (Some client) gave h = by_table s (table.on_gave s.slots client gave) h (table_gaves w s.slots client gave h.so.slots)

  deltas_on : (s : Serving) (log : Option LogId) (deltas : Deltas) → w.Ranges log deltas.upto deltas.rows → Ready s → Does (on_deltas s log deltas)
  unfolding on_deltas
  deltas_on s None deltas told h = unmoved s h
  deltas_on s (Some log) deltas told h = by_table s (table.on_deltas s.slots log deltas) h (table_deltas w s.slots log deltas told h.so.slots)

  check_on : (s : Serving) (check : Check) → Ready s → Does (on_check s check)
  unfolding on_check
  check_on s check h = by_table s (table.on_check s.slots check) h (table_checks w s.slots check h.so.slots)

  usage_on : (s : Serving) (asked : UsageAsk) → Ready s → Does (on_usage_ask s asked)
  unfolding on_usage_ask
  usage_on s asked h = record { state = h; outs = table_tells_usage w s.slots asked }

  -- ---- takeovers

  take_on : (s : Serving) (k : ℕ) (given : TakeIn) → Ready s → ((p : SlotPhase) → slice_get s.slots k ≡ Some p → HeardSo w k p given) → Does (serving_take s k given)
  unfolding serving_take
  take_on s k given h told = by_asker s (table.slot_table_take (asker_of s) k given) h (table_takes w (asker_of s) k given h.so.slots told)

  report_on : (s : Serving) (from : NodeId) (report : Report) → Ready s → w.Reported from report.end → Does (on_report s from report)
  unfolding on_report
  report_on s from report h told =
      by_asker s (table.on_report (asker_of s) from report) h (table_reports w (asker_of s) from report told h.so.slots)

  -- the slot at a place is among the slots
  at_place : (P : SlotPhase → Type 0) (t : List SlotPhase) (place : ℕ) (p : SlotPhase) → AllByRecursion P t → slice_get t place ≡ Some p → P p
  at_place P [] place p all fact = cc
  at_place P (q ∷ t) zero p all fact = subst (λ (o : Option SlotPhase). IfSome o P) fact all.0
  at_place P (q ∷ t) (suc place) p all fact = at_place P t place p all.1 fact

  asked_in : (ask own : ℕ) (o : Option SlotPhase) (p : SlotPhase) → table.fetch_one ask o ≡ Some own → o ≡ Some p → fetch_in p ask ≡ Some own
  asked_in ask own o p asked fact = subst (λ (x : Option SlotPhase). table.fetch_one ask x ≡ Some own) fact asked

  module _ (s : Serving) (h : Ready s) (ask : ℕ) (given : ℕ → TakeIn) where
    -- what the answer completes for who asked it is known
    abbrev Owed : SlotPhase → Type 0
    Owed p = (k own : ℕ) → fetch_in p ask ≡ Some own → HeardSo w k p (given own)

    one_answers : (slot : ℕ) (o : Option ℕ) (later : Option (ℕ × ℕ)) → table.fetch_at s.slots ask slot ≡ o → AllByRecursion Owed s.slots
        → Does (answered_by s later given) → Does (answered_by s (table.first_fetch slot o later) given)
    one_answers slot None later asked owed rest = rest
    one_answers slot (Some own) later asked owed rest =
        take_on s slot (given own) h (λ p at. at_place Owed s.slots slot p owed at slot own (asked_in ask own (slice_get s.slots slot) p asked at))

    -- the answer goes to the takeover that asked
    answer_on : (slots : List ℕ) → AllByRecursion Owed s.slots → Does (answered_by s (table.fetch_among s.slots ask slots) given)
    answer_on [] owed = unmoved s h
    answer_on (slot ∷ slots) owed =
        one_answers slot (table.fetch_at s.slots ask slot) (table.fetch_among s.slots ask slots) refl owed (answer_on slots owed)

  -- what an answer of a server completes in a slot that asked for it
  abbrev pub Asked : ℕ → ℕ → Answered → SlotPhase → Type 0
  Asked ask server t (phase.Taking taking) = (own : ℕ) → fetch_in (phase.Taking taking) ask ≡ Some own → w.Completes taking.take own server t
  Asked ask server t _ = Unit {0}

  -- what a server answers to a question
  abbrev pub AnswerSo : Serving → Option ℕ → ℕ → Answered → Type 0
  AnswerSo s None ask t = Unit {0}
  AnswerSo s (Some server) ask t = AllByRecursion (Asked ask server t) s.slots

  -- where any answer completes what may be read, that is known of all
  pub any_answer : ((s : TakeState) (ask server : ℕ) (t : Answered) → w.Completes s ask server t) → (s : Serving) (server : Option ℕ) (ask : ℕ) (t : Answered)
      → AnswerSo s server ask t
  any_answer each s None ask t = tt
  any_answer each s (Some server) ask t = all_each (Asked ask server t) one s.slots
    where
      one : (p : SlotPhase) → Asked ask server t p
      one (phase.Taking taking) = λ own at. each taking.take own server t
      one (phase.Away epoch) = tt
      one (phase.Active a) = tt
      one (phase.Broken epoch seg) = tt

  got_so : (ask server generation : ℕ) (fragment : Fragment) (p : SlotPhase) → Asked ask server (answered.Held fragment) p → (k own : ℕ)
      → fetch_in p ask ≡ Some own → HeardSo w k p (take_in.Got own server generation fragment)
  got_so ask server generation fragment (phase.Taking taking) fact k own at = fact own at
  got_so ask server generation fragment _ fact k own at = tt

  missing_so : (ask server generation : ℕ) (p : SlotPhase) → Asked ask server (answered.Missing generation) p → (k own : ℕ)
      → fetch_in p ask ≡ Some own → HeardSo w k p (take_in.Missing own server generation)
  missing_so ask server generation (phase.Taking taking) fact k own at = fact own at
  missing_so ask server generation _ fact k own at = tt

  found_on : (s : Serving) (server : Option ℕ) (found : Found) → AnswerSo s server found.ask (answered.Held found.fragment) → Ready s
      → Does (on_found s server found)
  unfolding on_found
  found_on s None found owed h = unmoved s h
  found_on s (Some server) found owed h =
      answer_on s h found.ask (λ own. take_in.Got own server found.generation found.fragment) table.all_slots
      (all_weaker (Asked found.ask server (answered.Held found.fragment))
      (λ p. (k own : ℕ) → fetch_in p found.ask ≡ Some own → HeardSo w k p (take_in.Got own server found.generation found.fragment))
      (got_so found.ask server found.generation found.fragment) s.slots owed)

  missing_on : (s : Serving) (server : Option ℕ) (missing : Missing) → AnswerSo s server missing.ask (answered.Missing missing.generation) → Ready s
      → Does (on_missing s server missing)
  unfolding on_missing
  missing_on s None missing owed h = unmoved s h
  missing_on s (Some server) missing owed h =
      answer_on s h missing.ask (λ own. take_in.Missing own server missing.generation) table.all_slots
      (all_weaker (Asked missing.ask server (answered.Missing missing.generation))
      (λ p. (k own : ℕ) → fetch_in p missing.ask ≡ Some own → HeardSo w k p (take_in.Missing own server missing.generation))
      (missing_so missing.ask server missing.generation) s.slots owed)

  -- ---- the maps

  regroups_on : (s : Serving) (groups : GroupMapState) → Ready s → Does (regroups s groups)
  unfolding regroups
  regroups_on s groups h = by_asker s (table.slot_table_regroup groups (asker_of s)) h (table_regroups w groups (asker_of s) h.so.slots)

  slots_on : (s : Serving) (clients : ℕ) (slots : List SlotNews) → Ready s → AllByRecursion w.News slots
      → Does (hear_slots s clients slots)
  unfolding hear_slots
  slots_on s clients slots h told = by s.maps.groups
    where
      by : (groups : Option GroupMapState) → Does (hears_with s clients slots groups)
      by None = unmoved s h
      by (Some groups) =
          by_asker s (table.hear_each (hearer_of s clients groups) (asker_of s) slots) h
          (table_hears w (hearer_of s clients groups) (asker_of s) slots told h.so.slots)

  newer_on : (s : Serving) (clients : ℕ) (news : News) → Ready s → AllByRecursion w.News news.slots → Goes w (on_newer s clients news)
  unfolding on_newer
  newer_on s clients news h told =
      then_ends (and_then (regroups s news.groups) (λ t. hear_slots t clients news.slots)) (λ t. serving_write t (log_input.Maps news.groups))
      (then_goes (regroups s news.groups) (λ t. hear_slots t clients news.slots) (regroups_on s news.groups h) (λ t k. slots_on t clients news.slots k told))
      (λ t k. writes_on w t (log_input.Maps news.groups) tt k.so k.flies)

  pub news_on : (s : Serving) (clients : ℕ) (news : News) → Ready s → AllByRecursion w.News news.slots → Goes w (on_news s clients news)
  unfolding on_news
  news_on s clients news h told =
      by_test (Goes w) (is_older s.maps news) (on_newer (record s { maps = maps_take s.maps news }) clients news) (hear_slots s clients news.slots)
      (λ _. newer_on (record s { maps = maps_take s.maps news }) clients news
      (record { so = record { slots = h.so.slots; work = h.so.work; job = h.so.job; log = h.so.log }; flies = h.flies }) told)
      (λ _. ends_so (hear_slots s clients news.slots) (slots_on s clients news.slots h told))

  fitting_on : (s : Serving) (clients : ℕ) (news : News) → Ready s → AllByRecursion w.News news.slots
      → Goes w (on_fitting_news s clients news)
  fitting_on s clients news h told =
      by_test (Goes w) (fits s.maps news) (on_news s clients news) (still s) (λ _. news_on s clients news h told) (λ _. ends_so (still s) (unmoved s h))

  -- ---- all packets

  -- what is known of a packet
  abbrev pub Hears : Serving → NodeId → Body → Type 0
  Hears s from (body.Deltas m) = w.Ranges (fed_log from) m.upto m.rows
  Hears s from (body.Report m) = w.Reported from m.end
  Hears s from (body.Fragment m) = AnswerSo s (server_in from) m.ask (answered.Held m.fragment)
  Hears s from (body.Missing m) = AnswerSo s (server_in from) m.ask (answered.Missing m.generation)
  Hears s from (body.MapNews m) = AllByRecursion w.News m.slots
  Hears s from (body.Welcome m) = AllByRecursion w.News m.news.slots
  Hears s from _ = Unit {0}

  body_on : (s : Serving) (clients : ℕ) (from : NodeId) (said : Body) → Ready s → Hears s from said → Goes w (on_body s clients from said)
  body_on s clients from (body.MapNews news) h told = fitting_on s clients news h told
  body_on s clients from (body.Welcome welcome) h told =
      by_test (Goes w) (welcome.inc == s.lasting.inc) (on_fitting_news s clients welcome.news) (still s)
      (λ _. fitting_on s clients welcome.news h told) (λ _. ends_so (still s) (unmoved s h))
  body_on s clients from (body.Want want) h told = ends_so (on_want s (client_in from) want) (want_on s (client_in from) want h)
  body_on s clients from (body.Gave gave) h told = ends_so (on_gave s (client_in from) gave) (gave_on s (client_in from) gave h)
  body_on s clients from (body.Deltas deltas) h told = ends_so (on_deltas s (fed_log from) deltas) (deltas_on s (fed_log from) deltas told h)
  body_on s clients from (body.Check check) h told = ends_so (on_check s check) (check_on s check h)
  body_on s clients from (body.UsageAsk asked) h told = ends_so (on_usage_ask s asked) (usage_on s asked h)
  body_on s clients from (body.Report report) h told = ends_so (on_report s from report) (report_on s from report h told)
  body_on s clients from (body.Fragment found) h told = ends_so (on_found s (server_in from) found) (found_on s (server_in from) found told h)
  body_on s clients from (body.Missing missing) h told = ends_so (on_missing s (server_in from) missing) (missing_on s (server_in from) missing told h)
  body_on s clients from (body.Stored stored) h told = stored_on w s stored h.so h.flies
  body_on s clients from (body.CkptAck ack) h told = acks_on w s ack h.so
  body_on s clients from _ h told = ends_so (still s) (unmoved s h)

  pub packet_on : (s : Serving) (clients : ℕ) (packet : Packet) → Ready s → Hears s packet.from packet.body → Goes w (serving_hear s clients packet)
  unfolding serving_hear ask_for_maps
  packet_on s clients packet h told =
      by_test (Goes w) (names_known_groups s.maps packet.body) (on_body s clients packet.from packet.body) (ask_for_maps s)
      (λ _. body_on s clients packet.from packet.body h told)
      (λ _. record { state = record { slots = h.so.slots; work = h.so.work; job = h.so.job; log = h.so.log }; outs = (w.plain _ tt, tt) })

  -- ---- time

  recalls_on : (s : Serving) → Ready s → Does (recalls_again s)
  unfolding recalls_again
  recalls_on s h = by_table s (table.recall_again s.slots) h (table_recalls w s.slots h.so.slots)

  asks_on : (s : Serving) (polls : Bool) → Ready s → Does (serving_ask_again s polls)
  unfolding serving_ask_again
  asks_on s polls h = by_asker s (table.slot_table_ask_again polls (asker_of s)) h (table_asks w polls (asker_of s) h.so.slots)

  pub tick_on : (s : Serving) → Ready s → Goes w (on_tick s)
  unfolding on_tick
  tick_on s h =
      let wrote : Done = and_then (and_then (and_then (recalls_again s) (λ t. serving_ask_again t true)) (λ t. serving_ask_again t false)) (λ t. serving_write t log_input.Tick) in
      goes_after (ServingSo w) (Says w) wrote.outs (serving_tell_again wrote.state) written.outs (tells_on w wrote.state written.state)
    where
      asked_so : Does (and_then (and_then (recalls_again s) (λ t. serving_ask_again t true)) (λ t. serving_ask_again t false))
      asked_so =
          then_goes (and_then (recalls_again s) (λ t. serving_ask_again t true)) (λ t. serving_ask_again t false)
          (then_goes (recalls_again s) (λ t. serving_ask_again t true) (recalls_on s h) (λ t k. asks_on t true k)) (λ t k. asks_on t false k)

      written : Goes w
          (and_then (and_then (and_then (recalls_again s) (λ t. serving_ask_again t true)) (λ t. serving_ask_again t false)) (λ t. serving_write t log_input.Tick))
      written = then_ends (and_then (and_then (recalls_again s) (λ t. serving_ask_again t true)) (λ t. serving_ask_again t false)) (λ t. serving_write t log_input.Tick) asked_so
          (λ t k. writes_on w t log_input.Tick tt k.so k.flies)
