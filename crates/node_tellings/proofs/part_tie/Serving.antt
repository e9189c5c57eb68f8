-- What a manager that serves names of checkpoints is known, whatever packet comes and however time passes.
use Rattle.std.proofs.Common.{ℕ, ◌==◌, Bool, true, false, List}
use Rattle.std.specs.Prelude.{Option, Some, None}
use Rattle.std.specs.List.{AllByRecursion}
use Rattle.client_log.specs.declared.input.In.TheVariants as log_input
use Rattle.group_map.specs.GroupMapState.{GroupMapState}
use Rattle.log_owner.specs.Sending.{server_in}
use Rattle.manager_slots.specs.SlotTable as table
use Rattle.manager_serving.specs.Checkpoints.{Done, serving_write, serving_tell_again}
use Rattle.manager_serving.specs.declared.serving.Serving.{Serving}
use Rattle.manager_serving.specs.Serving.{and_then, asker_of, fetch_of, with_slots, with_asker, client_in, fed_log, on_want, on_gave, on_deltas, on_check, on_usage_ask, serving_take, on_report, answered_by, on_found, on_missing, regroups, hearer_of, hears_with, hear_slots, on_newer, on_news, on_fitting_news, ask_for_maps, on_body, serving_hear, recalls_again, serving_ask_again, on_tick}
use Rattle.node_base.specs.Known.{names_known_groups}
use Rattle.node_base.specs.Maps.{fits, is_older, maps_take}
use Rattle.takeover.specs.declared.input.In.{In as TakeIn}
use Rattle.takeover.specs.declared.input.In.TheVariants as take_in
use Rattle.version_model.specs.declared.act.Act.{Act}
use Rattle.wire_msg.specs.declared.body.Body.{Body}
use Rattle.wire_msg.specs.declared.body.Body.TheVariants as body
use Rattle.wire_msg.specs.declared.cleaning.Check.{Check}
use Rattle.wire_msg.specs.declared.cleaning.UsageAsk.{UsageAsk}
use Rattle.wire_msg.specs.declared.deltas.Deltas.{Deltas}
use Rattle.wire_msg.specs.declared.deltas.Report.{Report}
use Rattle.wire_msg.specs.declared.packet.Packet.{Packet}
use Rattle.wire_msg.specs.declared.registry.News.{News}
use Rattle.wire_msg.specs.declared.storage.Found.{Found}
use Rattle.wire_msg.specs.declared.storage.Missing.{Missing}
use Rattle.wire_msg.specs.declared.tokens.Gave.{Gave}
use Rattle.wire_msg.specs.declared.tokens.Want.{Want}
use Rattle.xfs_base.proofs.Booleans.{by_test}
use Rattle.xfs_base.specs.declared.news.SlotNews.{SlotNews}
use Rattle.xfs_base.specs.declared.node.NodeId.{NodeId}
use Rattle.xfs_base.specs.declared.segment.LogId.{LogId}
use Rattle.xfs_base.specs.Steps.{still}
use Rattle.xfs_base.proofs.Leaving.{Leaves, goes_after}
use Rattle.client_log.specs.LogState.{LogState}
use Rattle.node_tellings.proofs.filed_tie.Frames.{all_before, all_behind}
use Rattle.node_tellings.proofs.part_tie.Leaving.{LeavesIf}
use Rattle.node_tellings.specs.part_tie.ManagerNames.{FlightNames}
use Rattle.node_tellings.specs.part_tie.Names.{BodyNames, Known, NewsNames}
use Rattle.node_tellings.proofs.part_tie.Checkpoints.{Flies, Holds, Plain, Tells, acks_on, maps_on, plainly, stored_on, tells_on, ticks_on}
use Rattle.node_tellings.proofs.part_tie.Saying.{Acted, Says}
use Rattle.node_tellings.proofs.part_tie.Tables.{TableAsks, TableGoes, table_asks, table_checks, table_deltas, table_gaves, table_hears, table_recalls, table_regroups, table_reports, table_takes, table_tells_usage, table_wants}

module _ (known : Known) (acts : List Act) (its_number : ℕ) (log_id : LogId) where
  -- ---- what leaves the log as it is

  module _ (More : LogState → Type 0) where
    abbrev At : Serving → Type 0
    At s = Holds known acts its_number log_id More s

    abbrev Does : Done → Type 0
    Does d = Leaves At (Says known) d

    unmoved : (s : Serving) → At s → Does (still s)
    unmoved s h = record { state = h; outs = tt }

    by_table : (s : Serving) (d : table.Done) → At s → TableGoes known d → Does (with_slots s d)
    by_table s d h one = record { state = record { slots = one.state; work = h.work; own = h.own; its = h.its; done = h.done; more = h.more }; outs = one.outs }

    by_asker : (s : Serving) (d : table.Asks) → At s → TableAsks known d → Does (with_asker s d)
    by_asker s d h one = record { state = record { slots = one.state; work = h.work; own = h.own; its = h.its; done = h.done; more = h.more }; outs = one.outs }

    -- ---- clients and the cleaner

    want_on : (s : Serving) (client : Option ℕ) (want : Want) → At s → Does (on_want s client want)
    unfolding on_want
    want_on s None want h = unmoved s h
    want_on s (Some client) want h = by_table s (table.on_want s.slots client want) h (table_wants known s.slots client want h.slots)

    gave_on : (s : Serving) (client : Option ℕ) (gave : Gave) → At s → Does (on_gave s client gave)
    unfolding on_gave
    gave_on s None gave h = unmoved s h
    gave_on s (Some client) gave h = by_table s (table.on_gave s.slots client gave) h (table_gaves known s.slots client gave h.slots)

    deltas_on : (s : Serving) (log : Option LogId) (deltas : Deltas) → At s → Does (on_deltas s log deltas)
    unfolding on_deltas
    deltas_on s None deltas h = unmoved s h
    deltas_on s (Some log) deltas h = by_table s (table.on_deltas s.slots log deltas) h (table_deltas known s.slots log deltas h.slots)

    check_on : (s : Serving) (check : Check) → At s → Does (on_check s check)
    unfolding on_check
    check_on s check h = by_table s (table.on_check s.slots check) h (table_checks known s.slots check h.slots)

    usage_on : (s : Serving) (asked : UsageAsk) → At s → Does (on_usage_ask s asked)
    unfolding on_usage_ask
    usage_on s asked h = record { state = h; outs = table_tells_usage known s.slots asked }

    -- ---- takeovers

    take_on : (s : Serving) (k : ℕ) (given : TakeIn) → At s → Does (serving_take s k given)
    unfolding serving_take
    take_on s k given h = by_asker s (table.slot_table_take (asker_of s) k given) h (table_takes known (asker_of s) k given h.slots)

    report_on : (s : Serving) (from : NodeId) (report : Report) → At s → Does (on_report s from report)
    unfolding on_report
    report_on s from report h = by_asker s (table.on_report (asker_of s) from report) h (table_reports known (asker_of s) from report h.slots)

    answer_on : (s : Serving) (which : Option (ℕ × ℕ)) (given : ℕ → TakeIn) → At s → Does (answered_by s which given)
    answer_on s None given h = unmoved s h
    answer_on s (Some which) given h = take_on s which.0 (given which.1) h

    found_on : (s : Serving) (server : Option ℕ) (found : Found) → At s → Does (on_found s server found)
    unfolding on_found
    found_on s None found h = unmoved s h
    found_on s (Some server) found h = answer_on s (fetch_of s found.ask) (λ own. take_in.Got own server found.generation found.fragment) h

    missing_on : (s : Serving) (server : Option ℕ) (missing : Missing) → At s → Does (on_missing s server missing)
    unfolding on_missing
    missing_on s None missing h = unmoved s h
    missing_on s (Some server) missing h = answer_on s (fetch_of s missing.ask) (λ own. take_in.Missing own server missing.generation) h

    -- ---- the maps

    regroups_on : (s : Serving) (groups : GroupMapState) → At s → Does (regroups s groups)
    unfolding regroups
    regroups_on s groups h = by_asker s (table.slot_table_regroup groups (asker_of s)) h (table_regroups known groups (asker_of s) h.slots)

    slots_on : (s : Serving) (clients : ℕ) (slots : List SlotNews) → AllByRecursion (NewsNames known) slots → At s → Does (hear_slots s clients slots)
    unfolding hear_slots
    slots_on s clients slots names h = by s.maps.groups
      where
        by : (groups : Option GroupMapState) → Does (hears_with s clients slots groups)
        by None = unmoved s h
        by (Some groups) =
            by_asker s (table.hear_each (hearer_of s clients groups) (asker_of s) slots) h
            (table_hears known (hearer_of s clients groups) (asker_of s) slots names h.slots)

    -- ---- time

    recalls_on : (s : Serving) → At s → Does (recalls_again s)
    unfolding recalls_again
    recalls_on s h = by_table s (table.recall_again s.slots) h (table_recalls known s.slots h.slots)

    asks_on : (s : Serving) (polls : Bool) → At s → Does (serving_ask_again s polls)
    unfolding serving_ask_again
    asks_on s polls h = by_asker s (table.slot_table_ask_again polls (asker_of s)) h (table_asks known polls (asker_of s) h.slots)

  -- ---- one after the other

  -- a step, and then another
  then_goes : (From To : Serving → Type 0) (d : Done) (f : Serving → Done) → Leaves From (Says known) d
      → ((s : Serving) → From s → Leaves To (Says known) (f s))
      → Leaves To (Says known) (and_then d f)
  then_goes From To d f one next = goes_after To (Says known) d.outs (f d.state) one.outs (next d.state one.state)

  -- where all that both act is among the acts
  then_goes-if : (From To : Serving → Type 0) (d : Done) (f : Serving → Done) → LeavesIf (Acted acts) From (Says known) d
      → ((s : Serving) → From s → LeavesIf (Acted acts) To (Says known) (f s)) → LeavesIf (Acted acts) To (Says known) (and_then d f)
  then_goes-if From To d f one next acted =
      let first : Leaves From (Says known) d = one (all_before (Acted acts) d.outs (f d.state).outs acted) in
      goes_after To (Says known) d.outs (f d.state) first.outs
      (next d.state first.state (all_behind (Acted acts) d.outs (f d.state).outs acted))

  abbrev Before : Serving → Type 0
  Before s = Flies known acts its_number log_id s

  abbrev Then : Serving → Type 0
  Then s = Plain known acts its_number log_id s

  abbrev Flown : LogState → Type 0
  Flown l = FlightNames known acts its_number log_id l

  abbrev After : Done → Type 0
  After d = Tells known acts its_number log_id d

  calmly : (d : Done) → Leaves Before (Says known) d → After d
  calmly d one acted = record { state = plainly known acts its_number log_id d.state one.state; outs = one.outs }

  newer_on : (s : Serving) (clients : ℕ) (news : News) → AllByRecursion (NewsNames known) news.slots → Before s → After (on_newer s clients news)
  unfolding on_newer
  newer_on s clients news names h =
      then_goes-if Before Then (and_then (regroups s news.groups) (λ t. hear_slots t clients news.slots)) (λ t. serving_write t (log_input.Maps news.groups))
      (λ acted. then_goes Before Before (regroups s news.groups) (λ t. hear_slots t clients news.slots) (regroups_on Flown s news.groups h)
      (λ t k. slots_on Flown t clients news.slots names k))
      (λ t k. maps_on known acts its_number log_id t news.groups k)

  pub news_on : (s : Serving) (clients : ℕ) (news : News) → AllByRecursion (NewsNames known) news.slots → Before s → After (on_news s clients news)
  unfolding on_news
  news_on s clients news names h =
      by_test After (is_older s.maps news) (on_newer (record s { maps = maps_take s.maps news }) clients news) (hear_slots s clients news.slots)
      (λ _. newer_on (record s { maps = maps_take s.maps news }) clients news names
      (record { slots = h.slots; work = h.work; own = h.own; its = h.its; done = h.done; more = h.more }))
      (λ _. calmly (hear_slots s clients news.slots) (slots_on Flown s clients news.slots names h))

  still_on : (s : Serving) → Before s → After (still s)
  still_on s h = calmly (still s) (unmoved Flown s h)

  fitting_on : (s : Serving) (clients : ℕ) (news : News) → AllByRecursion (NewsNames known) news.slots → Before s
      → After (on_fitting_news s clients news)
  fitting_on s clients news names h =
      by_test After (fits s.maps news) (on_news s clients news) (still s) (λ _. news_on s clients news names h) (λ _. still_on s h)

  -- ---- all packets

  body_on : (s : Serving) (clients : ℕ) (from : NodeId) (said : Body) → Before s → BodyNames known said → After (on_body s clients from said)
  body_on s clients from (body.MapNews news) h fact = fitting_on s clients news fact h
  body_on s clients from (body.Welcome welcome) h fact =
      by_test After (welcome.inc == s.lasting.inc) (on_fitting_news s clients welcome.news) (still s)
      (λ _. fitting_on s clients welcome.news fact h) (λ _. still_on s h)
  body_on s clients from (body.Want want) h fact = calmly (on_want s (client_in from) want) (want_on Flown s (client_in from) want h)
  body_on s clients from (body.Gave gave) h fact = calmly (on_gave s (client_in from) gave) (gave_on Flown s (client_in from) gave h)
  body_on s clients from (body.Deltas deltas) h fact = calmly (on_deltas s (fed_log from) deltas) (deltas_on Flown s (fed_log from) deltas h)
  body_on s clients from (body.Check check) h fact = calmly (on_check s check) (check_on Flown s check h)
  body_on s clients from (body.UsageAsk asked) h fact = calmly (on_usage_ask s asked) (usage_on Flown s asked h)
  body_on s clients from (body.Report report) h fact = calmly (on_report s from report) (report_on Flown s from report h)
  body_on s clients from (body.Fragment found) h fact = calmly (on_found s (server_in from) found) (found_on Flown s (server_in from) found h)
  body_on s clients from (body.Missing missing) h fact = calmly (on_missing s (server_in from) missing) (missing_on Flown s (server_in from) missing h)
  body_on s clients from (body.Stored stored) h fact = stored_on known acts its_number log_id s stored h
  body_on s clients from (body.CkptAck ack) h fact = λ acted. acks_on known acts its_number log_id s ack (plainly known acts its_number log_id s h)
  body_on s clients from _ h fact = still_on s h

  pub packet_on : (s : Serving) (clients : ℕ) (packet : Packet) → Before s → BodyNames known packet.body → After (serving_hear s clients packet)
  unfolding serving_hear ask_for_maps
  packet_on s clients packet h fact =
      by_test After (names_known_groups s.maps packet.body) (on_body s clients packet.from packet.body) (ask_for_maps s)
      (λ _. body_on s clients packet.from packet.body h fact)
      (λ _ acted. record { state = record { slots = h.slots; work = h.work; own = h.own; its = h.its; done = h.done; more = tt }; outs = (tt, tt) })

  -- ---- time

  pub tick_on : (s : Serving) → Before s → After (on_tick s)
  unfolding on_tick
  tick_on s h =
      then_goes-if Then Then
      (and_then (and_then (and_then (recalls_again s) (λ t. serving_ask_again t true)) (λ t. serving_ask_again t false)) (λ t. serving_write t log_input.Tick))
      serving_tell_again
      (then_goes-if Before Then (and_then (and_then (recalls_again s) (λ t. serving_ask_again t true)) (λ t. serving_ask_again t false)) (λ t. serving_write t log_input.Tick)
      (λ acted. then_goes Before Before (and_then (recalls_again s) (λ t. serving_ask_again t true)) (λ t. serving_ask_again t false)
      (then_goes Before Before (recalls_again s) (λ t. serving_ask_again t true) (recalls_on Flown s h) (λ t k. asks_on Flown t true k))
      (λ t k. asks_on Flown t false k))
      (λ t k. ticks_on known acts its_number log_id t k))
      (λ t k acted. tells_on known acts its_number log_id t k)
