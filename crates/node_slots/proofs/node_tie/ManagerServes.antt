-- What each packet, and time, makes of a manager that serves, in the small world.
use Rattle.std.proofs.Common.{◌≡◌, ℕ, ◌≤◌, ◌<◌, Bool, true, false, List, [], Option, Some, None, refl, subst, ◌∙◌, arith}
use Rattle.xfs_base.specs.Steps.{still, saying}
use Rattle.xfs_base.specs.declared.node.NodeId.{NodeId}
use Rattle.xfs_base.specs.declared.node.NodeId.TheVariants.{Client, Server, Cleaner}
use Rattle.xfs_base.specs.Limits.{slot_count}
use Rattle.xfs_base.specs.Logs.{cleaner_log}
use Rattle.client_log.specs.declared.input.In.TheVariants as log_input
use Rattle.log_owner.specs.Sending.{server_in}
use Rattle.node_base.specs.declared.effects.Effect.{Effect}
use Rattle.takeover.specs.declared.input.In.{In as Input}
use Rattle.takeover.specs.declared.input.In.TheVariants as input
use Rattle.takeover.specs.declared.report.Report.{Report as Heard}
use Rattle.token_law.specs.Net.{Net}
use Rattle.wire_msg.specs.declared.cleaning.Check.{Check}
use Rattle.wire_msg.specs.declared.cleaning.UsageAsk.{UsageAsk}
use Rattle.wire_msg.specs.declared.deltas.Deltas.{Deltas}
use Rattle.wire_msg.specs.declared.deltas.Report.{Report}
use Rattle.wire_msg.specs.declared.storage.Found.{Found}
use Rattle.wire_msg.specs.declared.storage.Missing.{Missing}
use Rattle.wire_msg.specs.declared.tokens.Gave.{Gave}
use Rattle.wire_msg.specs.declared.tokens.Want.{Want}
use Rattle.manager_slots.specs.SlotTable as table
use Rattle.manager_slots.specs.SlotTable.{Table, Asks}
use Rattle.manager_slots.specs.Slots.{epoch_of, fetch_of as fetch_in}
use Rattle.manager_serving.specs.Checkpoints.{Done, gives, serving_write, serving_tell_again}
use Rattle.manager_serving.specs.declared.serving.Serving.{Serving}
use Rattle.manager_serving.specs.Serving.{and_then, asker_of, with_slots, with_asker, client_in, fed_log, on_want, on_gave, on_deltas, on_check, on_usage_ask, serving_take, on_report, answered_by, fetch_of, on_found, on_missing, recalls_again, serving_ask_again, on_tick}
use Rattle.node_slots.specs.node_tie.ManagerEvents.{TableAgrees, WantGets, GaveGets, ReportGets, DeltasGets, TakeoverGets, LastReportGets, AnswerGets, FoundGets, AbsentGets}
use Rattle.headline.specs.Managers.{phase_at}
use Rattle.node_slots.proofs.node_tie.ManagerFetches.{fetch_is}
use Rattle.node_slots.proofs.node_tie.ManagerCheckpoints.{Quiet, quiet_writes, quiet_tells}
use Rattle.node_slots.proofs.node_tie.ManagerMoves.{AllDone, moves_of}
use Rattle.node_slots.proofs.node_tie.ManagerTables.{TableEvent, table_same, table_then, table_wants, table_gaves, table_deltas, table_checks, table_usage, table_takes, table_reports, table_recalls_all, table_asks_all}
use Rattle.node_slots.proofs.node_tie.ManagerTakes.{Brings}

module _ (logs : Bool) (members part limit life : ℕ) (exists : part < slot_count) where
  abbrev pub Low : Table → Type 0
  Low t = epoch_of (phase_at t part) ≤ limit

  -- an event of a manager that has this number, incarnation and table, in which its slot keeps its epoch
  pub record Serves (n : Net) (j inc : ℕ) (t : Table) (d : Done) : Type 0 where
    pub number : d.state.lasting.number ≡ j
    pub lives : d.state.lasting.inc ≡ inc
    pub event : TableEvent logs members part limit life exists n t d.state.slots d.outs

  abbrev pub Of : Net → Serving → Done → Type 0
  Of n s d = Serves n s.lasting.number s.lasting.inc s.slots d

  pub serves_quiet : (n : Net) (j inc : ℕ) (t : Table) (d : Done) → Quiet logs members part limit life exists n j inc t d → Serves n j inc t d
  serves_quiet n j inc t d h =
      record {
        number = h.number;
        lives = h.lives;
        event = record { next = n; moves = moves_of logs members part limit life n _ _ d.outs h.stays; agrees = h.agrees };
      }

  serves_then : (n : Net) (j inc : ℕ) (t : Table) (d e : Done) (h : Serves n j inc t d) → Of h.event.next d.state e → Serves n j inc t (saying d.outs e)
  serves_then n j inc t d e h k = record {
    number = k.number ∙ h.number;
    lives = k.lives
        ∙ h.lives;
    event = table_then logs members part limit life exists n t d.state.slots e.state.slots d.outs e.outs h.event k.event;
  }

  pub low_on : (n : Net) (j inc : ℕ) (t : Table) (d : Done) → Serves n j inc t d → Low t → Low d.state.slots
  low_on n j inc t d h low = let e = h.event.moves.epoch in omega arith

  pub still_serves : (n : Net) (s : Serving) → TableAgrees members part n s.slots → Of n s (still s)
  still_serves n s agrees = record { number = refl; lives = refl; event = table_same logs members part limit life exists n s.slots [] agrees tt }

  outs_alone : (n : Net) (s : Serving) (outs : List Effect) → TableAgrees members part n s.slots → AllDone logs members part limit life n outs
      → Of n s (gives s outs)
  outs_alone n s outs agrees done = record { number = refl; lives = refl; event = table_same logs members part limit life exists n s.slots outs agrees done }

  by_table : (n : Net) (s : Serving) (d : table.Done) → TableEvent logs members part limit life exists n s.slots d.state d.outs → Of n s (with_slots s d)
  by_table n s d h = record { number = refl; lives = refl; event = h }

  by_asker : (n : Net) (s : Serving) (d : Asks) → TableEvent logs members part limit life exists n s.slots d.state.table d.outs → Of n s (with_asker s d)
  by_asker n s d h = record { number = refl; lives = refl; event = h }

  -- ---- clients and the cleaner

  pub serves_want : (n : Net) (s : Serving) (from : NodeId) (want : Want) → TableAgrees members part n s.slots → WantGets part n from want
      → Of n s (on_want s (client_in from) want)
  unfolding on_want
  serves_want n s (Client c) want agrees gets = by_table n s (table.on_want s.slots c want)
      (table_wants logs members part limit life exists n s.slots c want agrees gets)
  serves_want n s _ want agrees gets = still_serves n s agrees

  pub serves_gave : (n : Net) (s : Serving) (from : NodeId) (gave : Gave) → TableAgrees members part n s.slots → GaveGets part n from gave
      → Of n s (on_gave s (client_in from) gave)
  unfolding on_gave
  serves_gave n s (Client c) gave agrees gets = by_table n s (table.on_gave s.slots c gave)
      (table_gaves logs members part limit life exists n s.slots c gave agrees gets)
  serves_gave n s _ gave agrees gets = still_serves n s agrees

  pub serves_deltas : (n : Net) (s : Serving) (from : NodeId) (deltas : Deltas) → TableAgrees members part n s.slots
      → DeltasGets logs members part n (phase_at s.slots part) from deltas
      → Of n s (on_deltas s (fed_log from) deltas)
  unfolding on_deltas
  serves_deltas n s (Client c) deltas agrees owed = by_table n s (table.on_deltas s.slots (record { 0 = c }) deltas)
      (table_deltas logs members part limit life exists n s.slots (record { 0 = c }) deltas agrees owed)
  serves_deltas n s Cleaner deltas agrees owed = by_table n s (table.on_deltas s.slots cleaner_log deltas)
      (table_deltas logs members part limit life exists n s.slots cleaner_log deltas agrees owed)
  serves_deltas n s _ deltas agrees owed = still_serves n s agrees

  pub serves_check : (n : Net) (s : Serving) (check : Check) → TableAgrees members part n s.slots → Of n s (on_check s check)
  unfolding on_check
  serves_check n s check agrees = by_table n s (table.on_check s.slots check) (table_checks logs members part limit life exists n s.slots check agrees)

  pub serves_usage : (n : Net) (s : Serving) (asked : UsageAsk) → TableAgrees members part n s.slots → Of n s (on_usage_ask s asked)
  unfolding on_usage_ask
  serves_usage n s asked agrees = outs_alone n s (table.on_usage_ask s.slots asked) agrees (table_usage logs members part limit life exists n s.slots asked)

  -- ---- takeovers

  serves_takes : (n : Net) (s : Serving) (k : ℕ) (given : Input) → TableAgrees members part n s.slots → Low s.slots → ((r : Heard) → Brings given r → ⊥)
      → (k ≡ part → TakeoverGets logs members part n (phase_at s.slots part) given) → Of n s (serving_take s k given)
  unfolding serving_take
  serves_takes n s k given agrees low none owed = by_asker n s (table.slot_table_take (asker_of s) k given)
      (table_takes logs members part limit life exists n (asker_of s) k given agrees low none owed)

  pub serves_report : (n : Net) (s : Serving) (from : NodeId) (report : Report) → TableAgrees members part n s.slots → Low s.slots
      → ReportGets part n members from report → LastReportGets logs members part n (phase_at s.slots part) from report → Of n s (on_report s from report)
  unfolding on_report
  serves_report n s from report agrees low gets owed = by_asker n s (table.on_report (asker_of s) from report)
      (table_reports logs members part limit life exists n (asker_of s) from report agrees low gets owed)

  serves_answer : (n : Net) (s : Serving) (ask : ℕ) (given : ℕ → Input) → TableAgrees members part n s.slots → Low s.slots
      → ((own : ℕ) (r : Heard) → Brings (given own) r → ⊥) → AnswerGets logs members part n (phase_at s.slots part) ask given
      → Of n s (answered_by s (fetch_of s ask) given)
  serves_answer n s ask given agrees low none owed = by (fetch_of s ask) refl
    where
      by : (o : Option (ℕ × ℕ)) → fetch_of s ask ≡ o → Of n s (answered_by s o given)
      by None fact = still_serves n s agrees
      by (Some which) fact = serves_takes n s which.0 (given which.1) agrees low (none which.1)
          (λ same. owed which.1 (subst (λ k. fetch_in (phase_at s.slots k) ask ≡ Some which.1) same (fetch_is s.slots ask table.all_slots which fact)))

  pub serves_found : (n : Net) (s : Serving) (from : NodeId) (found : Found) → TableAgrees members part n s.slots → Low s.slots
      → FoundGets logs members part n (phase_at s.slots part) from found → Of n s (on_found s (server_in from) found)
  unfolding on_found
  serves_found n s (Server v) found agrees low owed = serves_answer n s found.ask
      (λ own. input.Got own v found.generation found.fragment) agrees low (λ own r fact. fact) owed
  serves_found n s _ found agrees low owed = still_serves n s agrees

  pub serves_missing : (n : Net) (s : Serving) (from : NodeId) (missing : Missing) → TableAgrees members part n s.slots → Low s.slots
      → AbsentGets logs members part n (phase_at s.slots part) from missing → Of n s (on_missing s (server_in from) missing)
  unfolding on_missing
  serves_missing n s (Server v) missing agrees low owed = serves_answer n s missing.ask
      (λ own. input.Missing own v missing.generation) agrees low (λ own r fact. fact) owed
  serves_missing n s _ missing agrees low owed = still_serves n s agrees

  -- ---- time

  serves_recalls : (n : Net) (s : Serving) → TableAgrees members part n s.slots → Low s.slots → Of n s (recalls_again s)
  unfolding recalls_again
  serves_recalls n s agrees low = by_table n s (table.recall_again s.slots) (table_recalls_all logs members part limit life exists n s.slots agrees low)

  serves_asks : (n : Net) (s : Serving) (polls : Bool) → TableAgrees members part n s.slots → Low s.slots → Of n s (serving_ask_again s polls)
  unfolding serving_ask_again
  serves_asks n s polls agrees low = by_asker n s (table.slot_table_ask_again polls (asker_of s))
      (table_asks_all logs members part limit life exists n polls (asker_of s) agrees low)

  -- a step, and another that is taken in the table it leaves
  and_serves : (n : Net) (s : Serving) (d : Done) (f : Serving → Done) → Of n s d → Low s.slots
      → ((m : Net) (r : Serving) → TableAgrees members part m r.slots → Low r.slots → Of m r (f r)) → Of n s (and_then d f)
  and_serves n s d f h low next = serves_then n s.lasting.number s.lasting.inc s.slots d (f d.state) h
      (next h.event.next d.state h.event.agrees (low_on n s.lasting.number s.lasting.inc s.slots d h low))

  pub serves_tick : (n : Net) (s : Serving) → TableAgrees members part n s.slots → Low s.slots → Of n s (on_tick s)
  unfolding on_tick
  serves_tick n s agrees low =
      and_serves n s (and_then (and_then (and_then (recalls_again s) (λ t. serving_ask_again t true)) (λ t. serving_ask_again t false))
      (λ t. serving_write t log_input.Tick)) serving_tell_again
      (and_serves n s (and_then (and_then (recalls_again s) (λ t. serving_ask_again t true)) (λ t. serving_ask_again t false)) (λ t. serving_write t log_input.Tick)
      (and_serves n s (and_then (recalls_again s) (λ t. serving_ask_again t true)) (λ t. serving_ask_again t false)
      (and_serves n s (recalls_again s) (λ t. serving_ask_again t true) (serves_recalls n s agrees low) low (λ m r h l. serves_asks m r true h l))
      low (λ m r h l. serves_asks m r false h l))
      low (λ m r h _. serves_quiet m r.lasting.number r.lasting.inc r.slots (serving_write r log_input.Tick)
      (quiet_writes logs members part limit life exists m r log_input.Tick h)))
      low (λ m r h _. serves_quiet m r.lasting.number r.lasting.inc r.slots (serving_tell_again r) (quiet_tells logs members part limit life exists m r h))
