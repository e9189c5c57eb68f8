-- What each packet, and time, makes of a manager that serves, in the small world: what comes for its slots, news of the maps, and what is said again.
use Rattle.std.proofs.Common.{◌≡◌, ◌↔◌, ℕ, ◌==◌, ◌<◌, ◌≤◌, inl, Bool, true, false, List, Option, Some, None, refl, sym, subst, ◌∙◌, arith}
use Rattle.std.proofs.lemmas.Bool.{eqb-true}
use Rattle.xfs_base.proofs.Booleans.{by_test}
use Rattle.xfs_base.specs.Steps.{still, saying}
use Rattle.xfs_base.specs.declared.news.SlotNews.{SlotNews}
use Rattle.xfs_base.specs.declared.node.NodeId.{NodeId}
use Rattle.xfs_base.specs.declared.node.NodeId.TheVariants.{Client, Manager, Server, Cleaner, Registry}
use Rattle.client_log.specs.declared.input.In.TheVariants as log_input
use Rattle.group_map.specs.GroupMapState.{GroupMapState}
use Rattle.index_tie.specs.Net.{Net}
use Rattle.log_owner.specs.Sending.{server_in}
use Rattle.manager_slots.specs.SlotTable as table
use Rattle.manager_slots.specs.SlotTable.{Table, Asks}
use Rattle.manager_slots.specs.Slots.{epoch_of, fetch_of as fetch_in}
use Rattle.manager_slots.specs.declared.slot_phase.SlotPhase.{SlotPhase}
use Rattle.manager_slots.specs.declared.slot_phase.SlotPhase.TheVariants as phase
use Rattle.manager_serving.specs.Checkpoints as node
use Rattle.manager_serving.specs.Checkpoints.{Done}
use Rattle.manager_serving.specs.Serving as serving
use Rattle.manager_serving.specs.Serving.{and_then, asker_of, with_slots, with_asker}
use Rattle.manager_serving.specs.declared.serving.Serving.{Serving}
use Rattle.node_base.specs.Known.{names_known_groups}
use Rattle.node_base.specs.Maps.{fits, is_older, maps_take}
use Rattle.node_slots.specs.node_tie.ManagerEvents.{NamedBy}
use Rattle.headline.specs.Managers.{phase_at}
use Rattle.takeover.specs.declared.input.In.{In as TakeoverIn}
use Rattle.takeover.specs.declared.input.In.TheVariants.{Got, Missing}
use Rattle.takeover.specs.declared.report.Report.{Report as Heard}
use Rattle.node_slots.proofs.node_tie.ManagerFetches.{fetch_is}
use Rattle.node_slots.proofs.node_tie.ManagerTakes.{Brings}
use Rattle.token_protocol.specs.Basics.{In as Among}
use Rattle.wire_msg.specs.declared.body.Body.{Body}
use Rattle.wire_msg.specs.declared.body.Body.TheVariants as body
use Rattle.wire_msg.specs.declared.cleaning.Check.{Check}
use Rattle.wire_msg.specs.declared.cleaning.UsageAsk.{UsageAsk}
use Rattle.wire_msg.specs.declared.deltas.Deltas.{Deltas}
use Rattle.wire_msg.specs.declared.deltas.Report.{Report}
use Rattle.wire_msg.specs.declared.packet.Packet.{Packet as Sent}
use Rattle.wire_msg.specs.declared.registry.News.{News}
use Rattle.wire_msg.specs.declared.storage.Found.{Found}
use Rattle.wire_msg.specs.declared.storage.Missing.{Missing as Absent}
use Rattle.wire_msg.specs.declared.tokens.Gave.{Gave}
use Rattle.wire_msg.specs.declared.tokens.Want.{Want}
use Rattle.node_slots.specs.node_index_tie.ManagerEvents.{ServingAgrees, DeltasGets, AllNewsGets, AnswerGets, FoundGets, AbsentGets, ServingGets}
use Rattle.node_slots.specs.node_index_tie.Pages.{desk_of, FlightIsText}
use Rattle.node_slots.specs.node_index_tie.Sight.{Questions, CheckKnown, ReportKnown}
use Rattle.headline.specs.Filed.{AreTexts, Texts}
use Rattle.xfs_base.specs.Blocks.{slot_of}
use Rattle.xfs_base.specs.Limits.{slot_count}
use Rattle.xfs_base.specs.Logs.{cleaner_log}
use Rattle.node_slots.proofs.node_index_tie.Agreeing.{writer_on, done_seen}
use Rattle.node_slots.proofs.node_index_tie.Handing.{OwesAt}
use Rattle.node_slots.proofs.node_index_tie.Moves.{Brought, nothing, Grows, Sees, held_is, news_on, sees_quiet, sees_so, sees_as, sees_then, sees_named}
use Rattle.node_slots.proofs.node_index_tie.Serving.{Of, still_of, ack_serves, tells_serves}
use Rattle.node_slots.proofs.node_index_tie.Settling.{writes_serves}
use Rattle.node_slots.proofs.node_index_tie.Tables.{TableAgrees, TableEvent, table_wants, table_gaves, table_deltas, table_checks, table_usage, table_takes, table_reports, table_recalls_all, table_asks_all, table_regroups, table_hears_all}
use Rattle.node_slots.proofs.node_index_tie.Writing.{serves_same, serves_then}

-- the body may end a takeover: it is no news of the maps
abbrev pub MayEnd : Body → Type 0
MayEnd (body.MapNews news) = ⊥
MayEnd (body.Welcome welcome) = ⊥
MayEnd _ = Unit {0}

module _ (part : ℕ) (texts : Texts) (questions : Questions) (exists : part < slot_count) where
  filed_on : (n m : Net) → Grows n m → AreTexts texts n.filed → AreTexts texts m.filed
  filed_on n m g filed = subst (λ (x : Net). AreTexts texts x.filed) (sym g.rest) filed

  module _ (brought : Brought) where
    abbrev Table_of : (s : Serving) (n : Net) → ServingAgrees part texts n s → Net → Table → Type 0
    Table_of s n agrees = TableAgrees part texts questions exists brought (desk_of s agrees.given)

    table_of : (n : Net) (s : Serving) (agrees : ServingAgrees part texts n s) → AreTexts texts n.filed → Table_of s n agrees n s.slots
    table_of n s agrees filed = record {
      eight = agrees.eight;
      here = agrees.here;
      busy = λ w there of none. (agrees.writer.work w there of).as_planned.begun none;
      filed = filed;
    }

    -- the table has changed alone
    by_table : (n : Net) (s : Serving) (agrees : ServingAgrees part texts n s) (d : table.Done)
        → TableEvent part texts questions exists brought (desk_of s agrees.given) n s.slots d.state d.outs
        → Of part texts questions exists brought n s (with_slots s d)
    by_table n s agrees d h =
        sees_as part texts questions brought n (phase_at s.slots part) (phase_at d.state part) d.outs (λ m. Table_of s n agrees m d.state)
        (λ m. ServingAgrees part texts m (with_slots s d).state)
        (λ m g t. record {
          eight = t.eight;
          given = agrees.given;
          here = t.here;
          writer = writer_on part texts n m g (desk_of s agrees.given) agrees.writer;
          closed = agrees.closed;
          done = done_seen part texts n m g s.checkpoint agrees.done;
        }) h

    -- or the table, and the questions of the node
    by_asker : (n : Net) (s : Serving) (agrees : ServingAgrees part texts n s) (d : Asks)
        → TableEvent part texts questions exists brought (desk_of s agrees.given) n s.slots d.state.table d.outs
        → Of part texts questions exists brought n s (with_asker s d)
    by_asker n s agrees d h =
        sees_as part texts questions brought n (phase_at s.slots part) (phase_at d.state.table part) d.outs (λ m. Table_of s n agrees m d.state.table)
        (λ m. ServingAgrees part texts m (with_asker s d).state)
        (λ m g t. record {
          eight = t.eight;
          given = agrees.given;
          here = t.here;
          writer = writer_on part texts n m g (desk_of s agrees.given) agrees.writer;
          closed = agrees.closed;
          done = done_seen part texts n m g s.checkpoint agrees.done;
        }) h

    -- ---- clients and the cleaner

    serves_want : (n : Net) (s : Serving) (from : NodeId) (want : Want) → ServingAgrees part texts n s → AreTexts texts n.filed
        → Of part texts questions exists brought n s (serving.on_want s (serving.client_in from) want)
    unfolding serving.on_want
    serves_want n s (Client c) want agrees filed = by_table n s agrees (table.on_want s.slots c want)
        (table_wants part texts questions exists brought (desk_of s agrees.given) n s.slots c want (table_of n s agrees filed))
    serves_want n s _ want agrees filed = still_of part texts questions exists brought n s agrees

    serves_gave : (n : Net) (s : Serving) (from : NodeId) (gave : Gave) → ServingAgrees part texts n s → AreTexts texts n.filed
        → Of part texts questions exists brought n s (serving.on_gave s (serving.client_in from) gave)
    unfolding serving.on_gave
    serves_gave n s (Client c) gave agrees filed = by_table n s agrees (table.on_gave s.slots c gave)
        (table_gaves part texts questions exists brought (desk_of s agrees.given) n s.slots c gave (table_of n s agrees filed))
    serves_gave n s _ gave agrees filed = still_of part texts questions exists brought n s agrees

    serves_deltas : (j : ℕ) (n : Net) (s : Serving) (from : NodeId) (m : Deltas) → ServingAgrees part texts n s → AreTexts texts n.filed
        → DeltasGets part texts questions j n from m → Of part texts questions exists brought n s (serving.on_deltas s (serving.fed_log from) m)
    unfolding serving.on_deltas
    serves_deltas j n s (Client c) m agrees filed gets = by_table n s agrees (table.on_deltas s.slots (record { 0 = c }) m)
        (table_deltas part texts questions exists brought (desk_of s agrees.given) n s.slots (record { 0 = c }) m (table_of n s agrees filed) gets)
    serves_deltas j n s Cleaner m agrees filed gets = by_table n s agrees (table.on_deltas s.slots cleaner_log m)
        (table_deltas part texts questions exists brought (desk_of s agrees.given) n s.slots cleaner_log m (table_of n s agrees filed) gets)
    serves_deltas j n s _ m agrees filed gets = still_of part texts questions exists brought n s agrees

    serves_check : (n : Net) (s : Serving) (check : Check) → ServingAgrees part texts n s → AreTexts texts n.filed
        → (slot_of check.block.ino.0 ≡ part → CheckKnown part questions n check) → Of part texts questions exists brought n s (serving.on_check s check)
    unfolding serving.on_check
    serves_check n s check agrees filed gets = by_table n s agrees (table.on_check s.slots check)
        (table_checks part texts questions exists brought (desk_of s agrees.given) n s.slots check (table_of n s agrees filed) gets)

    serves_usage : (n : Net) (s : Serving) (ask : UsageAsk) → ServingAgrees part texts n s → AreTexts texts n.filed
        → Of part texts questions exists brought n s (serving.on_usage_ask s ask)
    unfolding serving.on_usage_ask
    serves_usage n s ask agrees filed = serves_same part texts questions exists brought n s (table.on_usage_ask s.slots ask) agrees
        (table_usage part texts questions exists brought (desk_of s agrees.given) n s.slots ask)

    -- ---- takeovers

    serves_report : brought.ends → (n : Net) (s : Serving) (from : NodeId) (report : Report) → ServingAgrees part texts n s → AreTexts texts n.filed
        → (report.slot ≡ part → ReportKnown part n report.epoch from report.end) → Of part texts questions exists brought n s (serving.on_report s from report)
    unfolding serving.on_report
    serves_report ends n s from report agrees filed gets =
        by_asker n s agrees (table.on_report (asker_of s) from report)
        (table_reports part texts questions exists brought (desk_of s agrees.given) ends n (asker_of s) from report (table_of n s agrees filed) gets)

    owes_answer : (j : ℕ) (n : Net) (p : SlotPhase) (ask own : ℕ) (given : ℕ → TakeoverIn) → ((own : ℕ) (r : Heard) → Brings (given own) r → ⊥)
        → AnswerGets part texts questions j n p ask given → fetch_in p ask ≡ Some own → OwesAt part texts n p (given own)
    owes_answer j n (phase.Taking t) ask own given none gets fact = record
        { brings = λ r b. absurd (none own r b); reads = λ s done. gets t own s refl fact done }
    owes_answer j n _ ask own given none gets fact = tt

    serves_answer : brought.ends → (j : ℕ) (n : Net) (s : Serving) (ask : ℕ) (given : ℕ → TakeoverIn) → ServingAgrees part texts n s → AreTexts texts n.filed
        → ((own : ℕ) (r : Heard) → Brings (given own) r → ⊥) → AnswerGets part texts questions j n (phase_at s.slots part) ask given
        → Of part texts questions exists brought n s (serving.answered_by s (serving.fetch_of s ask) given)
    unfolding serving.serving_take
    serves_answer ends j n s ask given agrees filed none gets = by (serving.fetch_of s ask) refl
      where
        by : (o : Option (ℕ × ℕ)) → serving.fetch_of s ask ≡ o → Of part texts questions exists brought n s (serving.answered_by s o given)
        by None fact = still_of part texts questions exists brought n s agrees
        by (Some which) fact =
            by_asker n s agrees (table.slot_table_take (asker_of s) which.0 (given which.1))
            (table_takes part texts questions exists brought (desk_of s agrees.given) ends n (asker_of s) which.0 (given which.1) (table_of n s agrees filed)
            (λ same. owes_answer j n (phase_at s.slots part) ask which.1 given none gets
            (subst (λ k. fetch_in (phase_at s.slots k) ask ≡ Some which.1) same (fetch_is s.slots ask table.all_slots which fact))))

    serves_found : brought.ends → (j : ℕ) (n : Net) (s : Serving) (from : NodeId) (m : Found) → ServingAgrees part texts n s → AreTexts texts n.filed
        → FoundGets part texts questions j n (phase_at s.slots part) from m → Of part texts questions exists brought n s (serving.on_found s (server_in from) m)
    unfolding serving.on_found
    serves_found ends j n s (Server v) m agrees filed gets =
        serves_answer ends j n s m.ask (λ own. Got own v m.generation m.fragment) agrees filed (λ own r b. b) gets
    serves_found ends j n s (Client c) m agrees filed gets = still_of part texts questions exists brought n s agrees
    serves_found ends j n s (Manager c) m agrees filed gets = still_of part texts questions exists brought n s agrees
    serves_found ends j n s Cleaner m agrees filed gets = still_of part texts questions exists brought n s agrees
    serves_found ends j n s Registry m agrees filed gets = still_of part texts questions exists brought n s agrees

    serves_missing : brought.ends → (j : ℕ) (n : Net) (s : Serving) (from : NodeId) (m : Absent) → ServingAgrees part texts n s → AreTexts texts n.filed
        → AbsentGets part texts questions j n (phase_at s.slots part) from m
        → Of part texts questions exists brought n s (serving.on_missing s (server_in from) m)
    unfolding serving.on_missing
    serves_missing ends j n s (Server v) m agrees filed gets =
        serves_answer ends j n s m.ask (λ own. Missing own v m.generation) agrees filed (λ own r b. b) gets
    serves_missing ends j n s (Client c) m agrees filed gets = still_of part texts questions exists brought n s agrees
    serves_missing ends j n s (Manager c) m agrees filed gets = still_of part texts questions exists brought n s agrees
    serves_missing ends j n s Cleaner m agrees filed gets = still_of part texts questions exists brought n s agrees
    serves_missing ends j n s Registry m agrees filed gets = still_of part texts questions exists brought n s agrees

    -- ---- time

    recalls : (n : Net) (s : Serving) → ServingAgrees part texts n s → AreTexts texts n.filed
        → Of part texts questions exists brought n s (serving.recalls_again s)
    unfolding serving.recalls_again
    recalls n s agrees filed = by_table n s agrees (table.recall_again s.slots)
        (table_recalls_all part texts questions exists brought (desk_of s agrees.given) n s.slots (table_of n s agrees filed))

    asks : (n : Net) (s : Serving) (polls : Bool) → ServingAgrees part texts n s → AreTexts texts n.filed
        → Of part texts questions exists brought n s (serving.serving_ask_again s polls)
    unfolding serving.serving_ask_again
    asks n s polls agrees filed = by_asker n s agrees (table.slot_table_ask_again polls (asker_of s))
        (table_asks_all part texts questions exists brought (desk_of s agrees.given) n polls (asker_of s) (table_of n s agrees filed))

    same_log : (s : Serving) → (serving.serving_ask_again (serving.serving_ask_again (serving.recalls_again s).state true).state false).state.log ≡ s.log
    unfolding serving.recalls_again serving.serving_ask_again
    same_log s = refl

    pub tick_serves : (n : Net) (s : Serving) → ServingAgrees part texts n s → AreTexts texts n.filed → FlightIsText texts s.log
        → Of part texts questions exists brought n s (serving.on_tick s)
    unfolding serving.on_tick
    tick_serves n s agrees filed text =
        let a = serving.recalls_again s in
        let b = and_then a (λ t. serving.serving_ask_again t true) in
        let c = and_then b (λ t. serving.serving_ask_again t false) in
        let e = and_then c (λ t. node.serving_write t log_input.Tick) in
        serves_then part texts questions exists brought n s e (node.serving_tell_again e.state)
        (serves_then part texts questions exists brought n s c (node.serving_write c.state log_input.Tick)
        (serves_then part texts questions exists brought n s b (serving.serving_ask_again b.state false)
        (serves_then part texts questions exists brought n s a (serving.serving_ask_again a.state true) (recalls n s agrees filed)
        (λ m g k. asks m a.state true k (filed_on n m g filed)))
        (λ m g k. asks m b.state false k (filed_on n m g filed)))
        (λ m g k. writes_serves part texts questions exists brought m c.state log_input.Tick tt k (subst (FlightIsText texts) (sym (same_log s)) text)))
        (λ m g k. tells_serves part texts questions exists brought m e.state k)

  -- ---- news

  module _ (brought : Brought) (j : ℕ) where
    -- news end no takeover
    abbrev Calm : Type 0
    Calm = brought.ends → ⊥

    -- the news name what is named
    abbrev AreNamed : List SlotNews → Type 0
    AreNamed slots = (news : SlotNews) → Among news slots → news.slot ≡ part → news.manager ≡ j → brought.names news.epoch

    rose : Calm → (n : Net) (s : Serving) (clients known : ℕ) (slots : List SlotNews) → s.lasting.number ≡ j → ServingAgrees part texts n s
        → AreTexts texts n.filed
        → AllNewsGets part texts questions j n known slots
        → known ≤ epoch_of (phase_at s.slots part) → AreNamed slots → Of part texts questions exists brought n s (serving.hear_slots s clients slots)
    unfolding serving.hear_slots
    rose calm n s clients known slots number agrees filed gets low names = by s.maps.groups
      where
        by : (o : Option GroupMapState) → Of part texts questions exists brought n s (serving.hears_with s clients slots o)
        by None = still_of part texts questions exists brought n s agrees
        by (Some groups) =
            let d = table.hear_each (serving.hearer_of s clients groups) (asker_of s) slots in
            let h = table_hears_all part texts questions exists brought (desk_of s agrees.given) j n (serving.hearer_of s clients groups) (asker_of s) slots
            number (table_of brought n s agrees filed)
            (λ news there of ours above. gets news there of ours (omega arith)) names in
            sees_quiet part texts questions brought n (phase_at s.slots part) (phase_at d.state.table part) d.outs
            (λ m. ServingAgrees part texts m (with_asker s d).state) h.held (λ ends. absurd (calm ends)) h.rises h.does
            (record {
              eight = h.agrees.eight;
              given = agrees.given;
              here = h.agrees.here;
              writer = agrees.writer;
              closed = agrees.closed;
              done = agrees.done;
            })

    -- what is owed still is once groups were told
    record Owed (n : Net) (s : Serving) (known : ℕ) (slots : List SlotNews) : Type 0 where
      agrees : ServingAgrees part texts n s
      gets : AllNewsGets part texts questions j n known slots
      low : known ≤ epoch_of (phase_at s.slots part)

    told_groups : (n : Net) (s : Serving) (groups : GroupMapState) (slots : List SlotNews) → ServingAgrees part texts n s → AreTexts texts n.filed
        → AllNewsGets part texts questions j n (epoch_of (phase_at s.slots part)) slots
        → Sees part texts questions brought n (phase_at s.slots part) (phase_at (serving.regroups s groups).state.slots part) (serving.regroups s groups).outs
        (λ m. Owed m (serving.regroups s groups).state (epoch_of (phase_at s.slots part)) slots)
    unfolding serving.regroups
    told_groups n s groups slots agrees filed gets =
        let d = serving.regroups s groups in
        let p = phase_at s.slots part in
        let h = by_asker (nothing brought.ends) n s agrees (table.slot_table_regroup groups (asker_of s))
        (table_regroups part texts questions exists (nothing brought.ends) (desk_of s agrees.given) n groups (asker_of s)
        (table_of (nothing brought.ends) n s agrees filed)) in
        sees_named part texts questions brought n p (phase_at d.state.slots part) d.outs (λ m. Owed m d.state (epoch_of p) slots)
        (sees_so part texts questions (nothing brought.ends) n p (phase_at d.state.slots part) d.outs (λ m. ServingAgrees part texts m d.state)
        (λ m. Owed m d.state (epoch_of p) slots) h (record {
          agrees = h.agrees;
          gets = λ news there of ours above. news_on part n h.next h.grows news
              (h.slots news.epoch (λ at. let e = held_is p news.epoch at in absurd (omega arith)) (λ none. none)) (gets news there of ours above);
          low = h.rises;
        }))

    same_number : (s : Serving) (groups : GroupMapState) → (serving.regroups s groups).state.lasting.number ≡ s.lasting.number
    unfolding serving.regroups
    same_number s groups = refl

    log_stays : (s : Serving) (groups : GroupMapState) (clients : ℕ) (slots : List SlotNews)
        → (serving.hear_slots (serving.regroups s groups).state clients slots).state.log ≡ s.log
    unfolding serving.regroups serving.hear_slots
    log_stays s groups clients slots = by s.maps.groups
      where
        by : (o : Option GroupMapState) → (serving.hears_with (serving.regroups s groups).state clients slots o).state.log ≡ s.log
        by None = refl
        by (Some g) = refl

    newer_serves : Calm → (n : Net) (s : Serving) (clients : ℕ) (news : News) → s.lasting.number ≡ j → ServingAgrees part texts n s → AreTexts texts n.filed
        → FlightIsText texts s.log → AllNewsGets part texts questions j n (epoch_of (phase_at s.slots part)) news.slots
        → AreNamed news.slots → Of part texts questions exists brought n s (serving.on_newer s clients news)
    unfolding serving.on_newer
    newer_serves calm n s clients news number agrees filed text gets names =
        let a = serving.regroups s news.groups in
        let b = serving.hear_slots a.state clients news.slots in
        let c = saying a.outs b in
        serves_then part texts questions exists brought n s c (node.serving_write b.state (log_input.Maps news.groups))
        (sees_then part texts questions brought n (phase_at s.slots part) (phase_at a.state.slots part) (phase_at b.state.slots part) a.outs b.outs
        (λ m. Owed m a.state (epoch_of (phase_at s.slots part)) news.slots) (λ m. ServingAgrees part texts m b.state)
        (told_groups n s news.groups news.slots agrees filed gets)
        (λ m g k. rose calm m a.state clients (epoch_of (phase_at s.slots part)) news.slots (same_number s news.groups ∙ number) k.agrees (filed_on n m g filed)
        k.gets k.low names))
        (λ m g k. writes_serves part texts questions exists brought m b.state (log_input.Maps news.groups) tt k
        (subst (FlightIsText texts) (sym (log_stays s news.groups clients news.slots)) text))

    pub news_serves : Calm → (n : Net) (s : Serving) (clients : ℕ) (news : News) → s.lasting.number ≡ j → ServingAgrees part texts n s → AreTexts texts n.filed
        → FlightIsText texts s.log → AllNewsGets part texts questions j n (epoch_of (phase_at s.slots part)) news.slots
        → AreNamed news.slots → Of part texts questions exists brought n s (serving.on_news s clients news)
    unfolding serving.on_news
    news_serves calm n s clients news number agrees filed text gets names =
        let newer : Serving = record s { maps = maps_take s.maps news } in
        by_test (Of part texts questions exists brought n s) (is_older s.maps news) (serving.on_newer newer clients news)
        (serving.hear_slots s clients news.slots)
        (λ _. newer_serves calm n newer clients news number
        (record { eight = agrees.eight; given = agrees.given; here = agrees.here; writer = agrees.writer; closed = agrees.closed; done = agrees.done })
        filed text gets names)
        (λ _. rose calm n s clients (epoch_of (phase_at s.slots part)) news.slots number agrees filed gets (omega arith) names)

    fitting_serves : Calm → (n : Net) (s : Serving) (clients : ℕ) (news : News) → s.lasting.number ≡ j → ServingAgrees part texts n s → AreTexts texts n.filed
        → FlightIsText texts s.log → AllNewsGets part texts questions j n (epoch_of (phase_at s.slots part)) news.slots
        → AreNamed news.slots → Of part texts questions exists brought n s (serving.on_fitting_news s clients news)
    fitting_serves calm n s clients news number agrees filed text gets names =
        by_test (Of part texts questions exists brought n s) (fits s.maps news) (serving.on_news s clients news) (still s)
        (λ _. news_serves calm n s clients news number agrees filed text gets names) (λ _. still_of part texts questions exists brought n s agrees)

    -- ---- all packets

    body_serves : (n : Net) (s : Serving) (clients : ℕ) (from : NodeId) (b : Body) → s.lasting.number ≡ j → ServingAgrees part texts n s
        → AreTexts texts n.filed → FlightIsText texts s.log
        → ServingGets part texts questions j n s.lasting.inc (epoch_of (phase_at s.slots part)) (phase_at s.slots part) from b
        → ((e : ℕ) → NamedBy part j e b → brought.names e) → brought.ends ↔ MayEnd b
        → Of part texts questions exists brought n s (serving.on_body s clients from b)
    body_serves n s clients from (body.MapNews news) number agrees filed text gets names ends =
        fitting_serves ends.0 n s clients news number agrees filed text gets
        (λ x fact of ours. names x.epoch (x, fact, of, refl, ours))
    body_serves n s clients from (body.Welcome welcome) number agrees filed text gets names ends =
        by_test (Of part texts questions exists brought n s) (welcome.inc == s.lasting.inc) (serving.on_fitting_news s clients welcome.news) (still s)
        (λ same. fitting_serves ends.0 n s clients welcome.news number agrees filed text (gets (eqb-true welcome.inc s.lasting.inc same))
        (λ x fact of ours. names x.epoch (x, fact, of, refl, ours)))
        (λ _. still_of part texts questions exists brought n s agrees)
    body_serves n s clients from (body.Want want) number agrees filed text gets names ends = serves_want brought n s from want agrees filed
    body_serves n s clients from (body.Gave gave) number agrees filed text gets names ends = serves_gave brought n s from gave agrees filed
    body_serves n s clients from (body.Deltas m) number agrees filed text gets names ends = serves_deltas brought j n s from m agrees filed gets
    body_serves n s clients from (body.Check check) number agrees filed text gets names ends = serves_check brought n s check agrees filed gets
    body_serves n s clients from (body.UsageAsk ask) number agrees filed text gets names ends = serves_usage brought n s ask agrees filed
    body_serves n s clients from (body.Report report) number agrees filed text gets names ends =
        serves_report brought (ends.1 tt) n s from report agrees filed gets
    body_serves n s clients from (body.Fragment found) number agrees filed text gets names ends =
        serves_found brought (ends.1 tt) j n s from found agrees filed gets
    body_serves n s clients from (body.Missing missing) number agrees filed text gets names ends =
        serves_missing brought (ends.1 tt) j n s from missing agrees filed gets
    body_serves n s clients from (body.Stored stored) number agrees filed text gets names ends =
        writes_serves part texts questions exists brought n s (log_input.Acked stored.name stored.index stored.generation) tt agrees text
    body_serves n s clients from (body.CkptAck ack) number agrees filed text gets names ends = ack_serves part texts questions exists brought n s ack agrees
    body_serves n s clients from _ number agrees filed text gets names ends = still_of part texts questions exists brought n s agrees

    pub hears_serves : (n : Net) (s : Serving) (clients : ℕ) (packet : Sent) → s.lasting.number ≡ j → ServingAgrees part texts n s → AreTexts texts n.filed
        → FlightIsText texts s.log
        → ServingGets part texts questions j n s.lasting.inc (epoch_of (phase_at s.slots part)) (phase_at s.slots part) packet.from packet.body
        → ((e : ℕ) → NamedBy part j e packet.body → brought.names e) → brought.ends ↔ MayEnd packet.body
        → Of part texts questions exists brought n s (serving.serving_hear s clients packet)
    unfolding serving.serving_hear serving.ask_for_maps
    hears_serves n s clients packet number agrees filed text gets names ends =
        by_test (Of part texts questions exists brought n s) (names_known_groups s.maps packet.body) (serving.on_body s clients packet.from packet.body)
        (serving.ask_for_maps s)
        (λ _. body_serves n s clients packet.from packet.body number agrees filed text gets names ends)
        (λ _. sees_quiet part texts questions brought n (phase_at s.slots part) (phase_at s.slots part) (serving.ask_for_maps s).outs
        (λ m. ServingAgrees part texts m (serving.ask_for_maps s).state) (λ e h. inl h) (λ _ e h. h) (omega arith) (tt, tt)
        (record { eight = agrees.eight; given = agrees.given; here = agrees.here; writer = agrees.writer; closed = agrees.closed; done = agrees.done }))
