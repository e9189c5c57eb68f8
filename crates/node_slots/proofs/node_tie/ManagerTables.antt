-- What an event of one slot of a manager's table, or of each, makes of the table and of the small world.
use Rattle.std.proofs.Common.{◌≡◌, ℕ, ◌==◌, ◌≤◌, ◌<◌, Bool, true, false, List, [], ◌∷◌, ◌++◌, length, length-set, Option, Some, None, refl, sym, ap, subst, ◌∙◌, arith}
use Rattle.std.specs.List.{slice_get, slice_set}
use Rattle.std.specs.Prelude.{unwrap_or}
use Rattle.std.proofs.lemmas.Bool.{eqb-true}
use Rattle.std.proofs.lemmas.Bool.Decides.{nat_tests}
use Rattle.std.proofs.lemmas.Option.{slice_get_within}
use Rattle.xfs_base.proofs.Booleans.{by_test}
use Rattle.xfs_base.specs.Blocks.{slot_of}
use Rattle.xfs_base.specs.declared.node.NodeId.{NodeId}
use Rattle.xfs_base.specs.declared.segment.LogId.{LogId}
use Rattle.xfs_base.specs.declared.segment.SegRef.{SegRef}
use Rattle.xfs_base.specs.Steps.{Stepped, steps}
use Rattle.xfs_base.specs.Limits.{slot_count}
use Rattle.group_map.specs.GroupMapState.{GroupMapState}
use Rattle.node_base.specs.declared.effects.Effect.{Effect}
use Rattle.takeover.specs.declared.input.In.{In as Input}
use Rattle.takeover.specs.declared.input.In.TheVariants as input
use Rattle.takeover.specs.declared.report.Report.{Report as Heard}
use Rattle.token_law.specs.Net.{Net}
use Rattle.token_protocol.specs.Premises.{Premise}
use Rattle.wire_msg.specs.declared.cleaning.Check.{Check}
use Rattle.wire_msg.specs.declared.cleaning.UsageAsk.{UsageAsk}
use Rattle.wire_msg.specs.declared.deltas.Deltas.{Deltas}
use Rattle.wire_msg.specs.declared.deltas.Report.{Report}
use Rattle.wire_msg.specs.declared.tokens.Gave.{Gave}
use Rattle.wire_msg.specs.declared.tokens.Want.{Want}
use Rattle.manager_slots.specs.declared.slot_phase.SlotPhase.{SlotPhase}
use Rattle.manager_slots.specs.declared.slot_phase.SlotPhase.TheVariants as phase
use Rattle.manager_slots.specs.Slots.{epoch_of}
use Rattle.manager_slots.specs.SlotTable as table
use Rattle.manager_slots.specs.SlotTable.{Table, TableAsker, Asks, all_slots}
use Rattle.manager_slots.specs.Takeovers as takeovers
use Rattle.manager_slots.specs.Takeovers.{Asker, asker}
use Rattle.manager_slots.specs.Tokens as tokens
use Rattle.node_slots.specs.node_tie.Sight.{WantSeen, GaveSeen}
use Rattle.node_slots.specs.node_tie.ManagerEvents.{PhaseAgrees, OtherAgrees, TableAgrees, ReportGets, DeltasJoin, TakeoverGets, LastReportGets}
use Rattle.headline.specs.Managers.{phase_at}
pub use Rattle.node_slots.proofs.node_tie.SlotTables.{set_here, set_there, by_slot, as_slot, by_taken}
use Rattle.node_slots.proofs.node_tie.ManagerActive.{Event, event_same, event_staying, Other, slot_wants, slot_gaves, slot_deltas, slot_ticks, check_same, check_done, usage_done, other_takes, other_wants}
use Rattle.node_slots.proofs.node_tie.ManagerMoves.{AllDone, Moves, Stays, moves_of, moves_then, stays_same, stays_then}
use Rattle.node_slots.proofs.node_tie.ManagerPages.{cleaned_alike}
use Rattle.node_slots.proofs.node_tie.ManagerTakes.{Brings}
use Rattle.node_slots.proofs.node_tie.ManagerTaking.{Quiet, phases_last, quiet_asks, quiet_maps, AskEvent, slot_hears, slot_reports, OtherAsks, other_hears, other_asks, other_reports}
use Rattle.token_manager.specs.declared.input.In.TheVariants as told

module _ (logs : Bool) (members part limit life : ℕ) (exists : part < slot_count) where
  -- what an event of the table makes of the small world
  pub record TableEvent (n : Net) (t u : Table) (outs : List Effect) : Type 0 where
    pub next : Net
    pub moves : Moves logs members part limit life n next (phase_at t part) (phase_at u part) outs
    pub agrees : TableAgrees members part next u

  abbrev pub IsLow : Table → Type 0
  IsLow t = epoch_of (phase_at t part) ≤ limit

  pub table_same : (n : Net) (t : Table) (outs : List Effect) → TableAgrees members part n t → AllDone logs members part limit life n outs
      → TableEvent n t t outs
  table_same n t outs agrees done = record {
    next = n;
    moves = moves_of logs members part limit life n _ _ outs
        (stays_same logs members part limit life n (phase_at t part) outs done);
    agrees = agrees;
  }

  pub table_then : (n : Net) (t u v : Table) (outs more : List Effect) (h : TableEvent n t u outs) → TableEvent h.next u v more
      → TableEvent n t v (outs ++ more)
  table_then n t u v outs more h k = record {
    next = k.next;
    moves = moves_then logs members part limit life n h.next k.next (phase_at t part) (phase_at u part) (phase_at v part) outs more h.moves k.moves;
    agrees = k.agrees;
  }

  -- the slot itself has changed
  pub at_part : (n : Net) (t : Table) (k : ℕ) (q : SlotPhase) → TableAgrees members part n t → k ≡ part → phase_at (slice_set t k q) part ≡ q
  at_part n t k q agrees same = ap (phase_at (slice_set t k q)) (sym same) ∙ set_here t k q (let e = agrees.eight in omega arith)

  pub set_slot : (n m : Net) (t : Table) (k : ℕ) (q : SlotPhase) → TableAgrees members part n t → k ≡ part → PhaseAgrees members part m q
      → TableAgrees members part m (slice_set t k q)
  set_slot n m t k q agrees same new = record {
    eight = length-set t k q ∙ agrees.eight;
    here = subst (PhaseAgrees members part m) (sym (at_part n t k q agrees same)) new;
    there = λ x other. subst (OtherAgrees x) (sym (set_there t k x q (λ e. other (e ∙ same)))) (agrees.there x other);
  }

  -- another slot has changed
  pub set_other : (n : Net) (t : Table) (k : ℕ) (q : SlotPhase) → TableAgrees members part n t → (k ≡ part → ⊥) → k < length t → OtherAgrees k q
      → TableAgrees members part n (slice_set t k q)
  set_other n t k q agrees other within new = record {
    eight = length-set t k q ∙ agrees.eight;
    here = subst (PhaseAgrees members part n) (sym (set_there t k part q (λ e. other (sym e)))) agrees.here;
    there = λ x x_other. by x x_other (x == k) refl;
  }
    where
      apart : (x : ℕ) → (x == k) ≡ false → x ≡ k → ⊥
      apart x fact = grind (arith, nat_tests)

      by : (x : ℕ) → (x ≡ part → ⊥) → (b : Bool) → (x == k) ≡ b → OtherAgrees x (phase_at (slice_set t k q) x)
      by x x_other true fact = let same : x ≡ k = eqb-true x k fact in subst (λ y. OtherAgrees y (phase_at (slice_set t k q) y)) (sym same)
          (subst (OtherAgrees k) (sym (set_here t k q within)) new)
      by x x_other false fact = subst (OtherAgrees x) (sym (set_there t k x q (apart x fact))) (agrees.there x x_other)

  -- ---- an event of one slot

  pub slot_or_other : (k : ℕ) (P : Type 0) → (k ≡ part → P) → ((k ≡ part → ⊥) → P) → P
  slot_or_other k P f g = by (k == part) refl
    where
      apart : (k == part) ≡ false → k ≡ part → ⊥
      apart fact = grind (arith, nat_tests)

      by : (b : Bool) → (k == part) ≡ b → P
      by true fact = f (eqb-true k part fact)
      by false fact = g (apart fact)

  set_goes : (n : Net) (t : Table) (k : ℕ) (q : SlotPhase) (outs : List Effect) → TableAgrees members part n t → k ≡ part
      → Event logs members part limit life n (phase_at t part) q outs → TableEvent n t (slice_set t k q) outs
  set_goes n t k q outs agrees same h = record {
    next = h.next;
    moves = subst (λ x. Moves logs members part limit life n h.next (phase_at t part) x outs) (sym (at_part n t k q agrees same)) h.moves;
    agrees = set_slot n h.next t k q agrees same h.agrees;
  }

  other_goes : (n : Net) (t : Table) (k : ℕ) (q : SlotPhase) (outs : List Effect) → TableAgrees members part n t → (k ≡ part → ⊥) → k < length t
      → Other logs members part limit life n k q outs → TableEvent n t (slice_set t k q) outs
  other_goes n t k q outs agrees other within h = record {
    next = n;
    moves = moves_of logs members part limit life n _ _ outs (subst (λ x. Stays logs members part limit life n (phase_at t part) x outs)
        (sym (set_there t k part q (λ e. other (sym e)))) (stays_same logs members part limit life n (phase_at t part) outs h.does));
    agrees = set_other n t k q agrees other within h.agrees;
  }

  pub at_slot-goes : (n : Net) (t : Table) (k : ℕ) (event : SlotPhase → Stepped SlotPhase Effect) → TableAgrees members part n t
      → (k ≡ part → Event logs members part limit life n (phase_at t part) (event (phase_at t part)).state (event (phase_at t part)).outs)
      → ((k ≡ part → ⊥) → Other logs members part limit life n k (event (phase_at t k)).state (event (phase_at t k)).outs)
      → TableEvent n t (table.at_slot t k event).state (table.at_slot t k event).outs
  at_slot-goes n t k event agrees here there =
      by_slot (TableEvent n t) t k event (λ _. table_same n t [] agrees tt)
      (λ within. slot_or_other k (TableEvent n t (slice_set t k (event (phase_at t k)).state) (event (phase_at t k)).outs)
      (λ same. subst (λ x. TableEvent n t (slice_set t k (event (phase_at t x)).state) (event (phase_at t x)).outs) (sym same)
      (set_goes n t k (event (phase_at t part)).state (event (phase_at t part)).outs agrees same (here same)))
      (λ other. other_goes n t k (event (phase_at t k)).state (event (phase_at t k)).outs agrees other within (there other)))

  -- the same for an event that may ask
  abbrev pub AskTable : Net → Table → Asks → Type 0
  AskTable n t d = TableEvent n t d.state.table d.outs

  pub at_taken-goes : (n : Net) (a : TableAsker) (k : ℕ) (event : Asker → Stepped Asker Effect) → TableAgrees members part n a.table
      → (k ≡ part → AskEvent logs members part limit life n (phase_at a.table part) (event (asker (phase_at a.table part) a.questions)))
      → ((k ≡ part → ⊥) → OtherAsks logs members part limit life n k (event (asker (phase_at a.table k) a.questions)))
      → AskTable n a.table (table.at_taken a k event)
  at_taken-goes n a k event agrees here there =
      by_taken (TableEvent n a.table) a k event
      (at_slot-goes n a.table k (as_slot a.questions event) agrees here there)

  -- ---- clients and the cleaner

  pub table_wants : (n : Net) (t : Table) (c : ℕ) (want : Want) → TableAgrees members part n t → WantSeen part n.sent c want
      → TableEvent n t (table.on_want t c want).state (table.on_want t c want).outs
  unfolding table.on_want
  table_wants n t c want agrees seen =
      let k = slot_of want.block.ino.0 in
      at_slot-goes n t k (λ p. tokens.on_want p c want) agrees
      (λ same. slot_wants logs members part limit life n (phase_at t part) c want agrees.here same seen)
      (λ other. other_wants logs members part limit life n (phase_at t k) c want other (agrees.there k other))

  pub table_gaves : (n : Net) (t : Table) (c : ℕ) (gave : Gave) → TableAgrees members part n t → GaveSeen part n.sent c gave
      → TableEvent n t (table.on_gave t c gave).state (table.on_gave t c gave).outs
  unfolding table.on_gave
  table_gaves n t c gave agrees seen =
      let k = slot_of gave.block.ino.0 in
      at_slot-goes n t k (λ p. tokens.on_gave p c gave) agrees
      (λ same. slot_gaves logs members part limit life n (phase_at t part) c gave agrees.here same seen)
      (λ other. other_takes logs members part limit life n k (phase_at t k) (tokens.gave_input c gave) other refl (agrees.there k other))

  pub table_deltas : (n : Net) (t : Table) (log : LogId) (deltas : Deltas) → TableAgrees members part n t
      → (deltas.slot ≡ part → Premise logs (DeltasJoin members part n (phase_at t part) log deltas))
      → TableEvent n t (table.on_deltas t log deltas).state (table.on_deltas t log deltas).outs
  unfolding table.on_deltas
  table_deltas n t log deltas agrees owed =
      at_slot-goes n t deltas.slot (λ p. tokens.on_deltas p log deltas) agrees
      (λ same. slot_deltas logs members part limit life n (phase_at t part) log deltas agrees.here (owed same))
      (λ other. other_takes logs members part limit life n deltas.slot (phase_at t deltas.slot) (tokens.deltas_input log deltas) other tt
      (agrees.there deltas.slot other))

  pub table_checks : (n : Net) (t : Table) (check : Check) → TableAgrees members part n t
      → TableEvent n t (table.on_check t check).state (table.on_check t check).outs
  unfolding table.on_check
  table_checks n t check agrees =
      let k = slot_of check.block.ino.0 in
      at_slot-goes n t k (λ p. tokens.on_check p check) agrees
      (λ same. subst (λ q. Event logs members part limit life n (phase_at t part) q (tokens.on_check (phase_at t part) check).outs)
      (sym (check_same logs members part limit life (phase_at t part) check))
      (event_same logs members part limit life n (phase_at t part) _ agrees.here (check_done logs members part limit life n (phase_at t part) check)))
      (λ other. record {
        agrees = subst (OtherAgrees k) (sym (check_same logs members part limit life (phase_at t k) check))
            (agrees.there k other);
        does = check_done logs members part limit life n (phase_at t k) check;
      })

  pub table_usage : (n : Net) (t : Table) (asked : UsageAsk) → AllDone logs members part limit life n (table.on_usage_ask t asked)
  unfolding table.on_usage_ask
  table_usage n t asked = by (slice_get t asked.slot)
    where
      by : (o : Option SlotPhase) → AllDone logs members part limit life n (table.usage_in asked o)
      by None = tt
      by (Some p) = usage_done logs members part limit life n p asked

  pub table_recalls : (n : Net) (t : Table) (k : ℕ) → TableAgrees members part n t → TableEvent n t (table.slot_table_recall t k).state (table.slot_table_recall t k).outs
  unfolding table.slot_table_recall
  table_recalls n t k agrees =
      at_slot-goes n t k (λ p. tokens.on_tick p k) agrees (λ same. slot_ticks logs members part limit life n k (phase_at t part) agrees.here)
      (λ other. other_takes logs members part limit life n k (phase_at t k) told.Tick other tt (agrees.there k other))

  -- ---- takeovers

  pub table_takes : (n : Net) (a : TableAsker) (k : ℕ) (given : Input) → TableAgrees members part n a.table → IsLow a.table
      → ((r : Heard) → Brings given r → ⊥) → (k ≡ part → TakeoverGets logs members part n (phase_at a.table part) given)
      → AskTable n a.table (table.slot_table_take a k given)
  unfolding table.slot_table_take
  table_takes n a k given agrees low none owed =
      at_taken-goes n a k (λ one. takeovers.takeovers_take one k given) agrees
      (λ same. slot_hears logs members part limit life n k (phase_at a.table part) a.questions given agrees.here (λ _. low) (λ r fact. absurd (none r fact))
      (owed same))
      (λ other. other_hears logs members part limit life n k (asker (phase_at a.table k) a.questions) given other (agrees.there k other))

  pub table_reports : (n : Net) (a : TableAsker) (from : NodeId) (report : Report) → TableAgrees members part n a.table → IsLow a.table
      → ReportGets part n members from report → LastReportGets logs members part n (phase_at a.table part) from report
      → AskTable n a.table (table.on_report a from report)
  unfolding table.on_report
  table_reports n a from report agrees low gets owed =
      at_taken-goes n a report.slot (λ one. takeovers.on_report one from report) agrees
      (λ same. slot_reports logs members part limit life n (phase_at a.table part) a.questions from report agrees.here low same gets owed)
      (λ other. other_reports logs members part limit life n (asker (phase_at a.table report.slot) a.questions) from report other
      (agrees.there report.slot other))

  pub table_asks : (n : Net) (polls : Bool) (a : TableAsker) (k : ℕ) → TableAgrees members part n a.table → IsLow a.table
      → AskTable n a.table (table.slot_table_ask polls a k)
  unfolding table.slot_table_ask
  table_asks n polls a k agrees low =
      at_taken-goes n a k (λ one. takeovers.takeovers_ask_again one k polls) agrees
      (λ same. let d = quiet_asks logs members part limit life (PhaseAgrees members part n) (phases_last logs members part limit life n) n k
      (phase_at a.table part) a.questions polls agrees.here (λ _. low) in
      event_staying logs members part limit life n (phase_at a.table part) _ _ d.stays d.agrees)
      (λ other. other_asks logs members part limit life n k (asker (phase_at a.table k) a.questions) polls other (agrees.there k other))

  -- ---- all slots, one after another

  module _ {S X : Type 0} (tab : S → Table) (f : S → X → Stepped S Effect)
      (each : (n : Net) (s : S) (x : X) → TableAgrees members part n (tab s) → IsLow (tab s) → TableEvent n (tab s) (tab (f s x).state) (f s x).outs) where
    pub each_goes : (n : Net) (s : S) (xs : List X) → TableAgrees members part n (tab s) → IsLow (tab s)
        → TableEvent n (tab s) (tab (steps f s xs).state) (steps f s xs).outs
    each_goes n s [] agrees low = table_same n (tab s) [] agrees tt
    each_goes n s (x ∷ xs) agrees low =
        let one = each n s x agrees low in
        let still_low : IsLow (tab (f s x).state) = let e = one.moves.epoch in omega arith in
        table_then n (tab s) (tab (f s x).state) (tab (steps f (f s x).state xs).state) (f s x).outs (steps f (f s x).state xs).outs one
        (each_goes one.next (f s x).state xs one.agrees still_low)

  pub table_recalls_all : (n : Net) (t : Table) → TableAgrees members part n t → IsLow t → TableEvent n t (table.recall_again t).state (table.recall_again t).outs
  table_recalls_all n t agrees low = each_goes (λ u. u) table.slot_table_recall (λ n u k h _. table_recalls n u k h) n t all_slots agrees low

  pub table_asks_all : (n : Net) (polls : Bool) (a : TableAsker) → TableAgrees members part n a.table → IsLow a.table
      → AskTable n a.table (table.slot_table_ask_again polls a)
  table_asks_all n polls a agrees low = each_goes (λ (b : TableAsker). b.table) (table.slot_table_ask polls)
      (λ n b k h l. table_asks n polls b k h l) n a all_slots agrees low

  -- ---- newer groups: the small world sees nothing of them

  pub record TableQuiet (n : Net) (t u : Table) (outs : List Effect) : Type 0 where
    pub stays : Stays logs members part limit life n (phase_at t part) (phase_at u part) outs
    pub agrees : TableAgrees members part n u

  table_quiet : (n : Net) (t : Table) → TableAgrees members part n t → TableQuiet n t t []
  table_quiet n t agrees = record { stays = stays_same logs members part limit life n (phase_at t part) [] tt; agrees = agrees }

  module _ (n : Net) (a : TableAsker) (k : ℕ) (event : Asker → Stepped Asker Effect) (agrees : TableAgrees members part n a.table) where
    -- the event of slot k, taken with what slot j has
    abbrev done_at : ℕ → Stepped Asker Effect
    done_at j = event (asker (phase_at a.table j) a.questions)

    abbrev QuietAt : ℕ → Type 0
    QuietAt j = TableQuiet n a.table (slice_set a.table k (done_at j).state.phase) (done_at j).outs

    quiet_here : k ≡ part → Quiet logs members part limit life (PhaseAgrees members part n) n (phase_at a.table part) (done_at part) → QuietAt part
    quiet_here same h = record {
      stays = subst (λ q. Stays logs members part limit life n (phase_at a.table part) q (done_at part).outs)
          (sym (at_part n a.table k (done_at part).state.phase agrees same)) h.stays;
      agrees = set_slot n n a.table k (done_at part).state.phase agrees same h.agrees;
    }

    quiet_there : (k ≡ part → ⊥) → k < length a.table → OtherAsks logs members part limit life n k (done_at k) → QuietAt k
    quiet_there other within h = record {
      stays = subst (λ q. Stays logs members part limit life n (phase_at a.table part) q (done_at k).outs)
          (sym (set_there a.table k part (done_at k).state.phase (λ e. other (sym e))))
          (stays_same logs members part limit life n (phase_at a.table part) (done_at k).outs h.does);
      agrees = set_other n a.table k (done_at k).state.phase agrees other within h.agrees;
    }

    at_taken-quiet : (k ≡ part → Quiet logs members part limit life (PhaseAgrees members part n) n (phase_at a.table part) (done_at part))
        → ((k ≡ part → ⊥) → OtherAsks logs members part limit life n k (done_at k))
        → TableQuiet n a.table (table.at_taken a k event).state.table (table.at_taken a k event).outs
    at_taken-quiet here there =
        by_taken (TableQuiet n a.table) a k event
        (by_slot (TableQuiet n a.table) a.table k (as_slot a.questions event) (λ _. table_quiet n a.table agrees)
        (λ within. slot_or_other k (QuietAt k) (λ same. subst QuietAt (sym same) (quiet_here same (here same)))
        (λ other. quiet_there other within (there other))))

  regroup_one-quiet : (n : Net) (groups : GroupMapState) (a : TableAsker) (k : ℕ) → TableAgrees members part n a.table → IsLow a.table
      → TableQuiet n a.table (table.regroup_one groups a k).state.table (table.regroup_one groups a k).outs
  unfolding table.slot_table_take
  regroup_one-quiet n groups a k agrees low =
      at_taken-quiet n a k (λ one. takeovers.takeovers_take one k (input.Maps groups)) agrees
      (λ same. quiet_maps logs members part limit life n k (phase_at a.table part) a.questions groups agrees.here (λ _. low))
      (λ other. other_hears logs members part limit life n k (asker (phase_at a.table k) a.questions) (input.Maps groups) other (agrees.there k other))

  regroups_each : (n : Net) (groups : GroupMapState) (a : TableAsker) (slots : List ℕ) → TableAgrees members part n a.table → IsLow a.table
      → TableQuiet n a.table (steps (table.regroup_one groups) a slots).state.table (steps (table.regroup_one groups) a slots).outs
  regroups_each n groups a [] agrees low = table_quiet n a.table agrees
  regroups_each n groups a (k ∷ slots) agrees low =
      let d = table.regroup_one groups a k in
      let one = regroup_one-quiet n groups a k agrees low in
      let rest = regroups_each n groups d.state slots one.agrees (let e = one.stays.epoch in omega arith) in
      record {
        stays = stays_then logs members part limit life n (phase_at a.table part) (phase_at d.state.table part)
            (phase_at (steps (table.regroup_one groups) d.state slots).state.table part) d.outs (steps (table.regroup_one groups) d.state slots).outs one.stays
            rest.stays;
        agrees = rest.agrees;
      }

  pub table_regroups : (n : Net) (groups : GroupMapState) (a : TableAsker) → TableAgrees members part n a.table → IsLow a.table
      → TableQuiet n a.table (table.slot_table_regroup groups a).state.table (table.slot_table_regroup groups a).outs
  table_regroups n groups a agrees low = regroups_each n groups a all_slots agrees low

  -- ---- checkpoints

  abbrev pub TableStays : Net → Table → Table → Type 0
  TableStays n t u = TableQuiet n t u []

  changes : (n : Net) (t : Table) (k : ℕ) (change : SlotPhase → SlotPhase) → TableAgrees members part n t
      → ((p : SlotPhase) → PhaseAgrees members part n p → PhaseAgrees members part n (change p))
      → ((p : SlotPhase) → Stays logs members part limit life n p (change p) [])
      → ((p : SlotPhase) → OtherAgrees k p → OtherAgrees k (change p)) → TableStays n t (table.changed_in t k change (slice_get t k))
  changes n t k change agrees phases stay others = by (slice_get t k) refl
    where
      at : k < length t → TableStays n t (slice_set t k (change (phase_at t k)))
      at within =
          slot_or_other k (TableStays n t (slice_set t k (change (phase_at t k))))
          (λ same. subst (λ x. TableStays n t (slice_set t k (change (phase_at t x)))) (sym same) (record {
            stays = subst (λ q. Stays logs members part limit life n (phase_at t part) q []) (sym (at_part n t k (change (phase_at t part)) agrees same))
                (stay (phase_at t part));
            agrees = set_slot n n t k (change (phase_at t part)) agrees same (phases (phase_at t part) agrees.here);
          }))
          (λ other. record {
            stays = subst (λ q. Stays logs members part limit life n (phase_at t part) q [])
                (sym (set_there t k part (change (phase_at t k)) (λ e. other (sym e)))) (stays_same logs members part limit life n (phase_at t part) [] tt);
            agrees = set_other n t k (change (phase_at t k)) agrees other within (others (phase_at t k) (agrees.there k other));
          })

      by : (o : Option SlotPhase) → slice_get t k ≡ o → TableStays n t (table.changed_in t k change o)
      by None fact = table_quiet n t agrees
      by (Some p) fact = let same : phase_at t k ≡ p = ap (λ o. unwrap_or o (phase.Away 0)) fact in subst (λ x. TableStays n t (slice_set t k (change x))) same
          (at (slice_get_within t k p fact))

  clean_stays : (n : Net) (p : SlotPhase) → Stays logs members part limit life n p (table.phase_clean p) []
  unfolding table.phase_clean
  clean_stays n (phase.Active a) = record { epoch = refl; taking = λ e h. h; held = λ e h. h; managed = λ e h. h; does = tt }
  clean_stays n (phase.Away epoch) = stays_same logs members part limit life n (phase.Away epoch) [] tt
  clean_stays n (phase.Taking t) = stays_same logs members part limit life n (phase.Taking t) [] tt
  clean_stays n (phase.Broken epoch seg) = stays_same logs members part limit life n (phase.Broken epoch seg) [] tt

  clean_agrees : (n : Net) (p : SlotPhase) → PhaseAgrees members part n p → PhaseAgrees members part n (table.phase_clean p)
  unfolding table.phase_clean
  clean_agrees n (phase.Active a) h = record { slot = h.slot; there = h.there; same = h.same ∙ cleaned_alike a.slot; nine = h.nine }
  clean_agrees n _ h = h

  clean_other : (k : ℕ) (p : SlotPhase) → OtherAgrees k p → OtherAgrees k (table.phase_clean p)
  unfolding table.phase_clean
  clean_other k (phase.Active a) h = h
  clean_other k (phase.Away epoch) h = h
  clean_other k (phase.Taking t) h = h
  clean_other k (phase.Broken epoch seg) h = h

  pub table_cleans : (n : Net) (t : Table) (k : ℕ) → TableAgrees members part n t → TableStays n t (table.slot_table_clean t k)
  unfolding table.slot_table_clean
  table_cleans n t k agrees = changes n t k table.phase_clean agrees (clean_agrees n) (clean_stays n) (clean_other k)

  name_stays : (n : Net) (epoch : ℕ) (parts : List SegRef) (p : SlotPhase) → Stays logs members part limit life n p (table.phase_name epoch parts p) []
  unfolding table.phase_name
  name_stays n epoch parts (phase.Active a) =
      by_test (λ q. Stays logs members part limit life n (phase.Active a) q []) (a.slot.epoch == epoch) (phase.Active (record a { parts = parts }))
      (phase.Active a)
      (λ _. record { epoch = refl; taking = λ e h. h; held = λ e h. h; managed = λ e h. h; does = tt }) (λ _. stays_same logs members part limit life n (phase.Active a) [] tt)
  name_stays n epoch parts (phase.Away e) = stays_same logs members part limit life n (phase.Away e) [] tt
  name_stays n epoch parts (phase.Taking t) = stays_same logs members part limit life n (phase.Taking t) [] tt
  name_stays n epoch parts (phase.Broken e seg) = stays_same logs members part limit life n (phase.Broken e seg) [] tt

  name_agrees : (n : Net) (epoch : ℕ) (parts : List SegRef) (p : SlotPhase) → PhaseAgrees members part n p
      → PhaseAgrees members part n (table.phase_name epoch parts p)
  unfolding table.phase_name
  name_agrees n epoch parts (phase.Active a) h =
      by_test (PhaseAgrees members part n) (a.slot.epoch == epoch) (phase.Active (record a { parts = parts })) (phase.Active a)
      (λ _. record { slot = h.slot; there = h.there; same = h.same; nine = h.nine }) (λ _. h)
  name_agrees n epoch parts (phase.Away e) h = h
  name_agrees n epoch parts (phase.Taking t) h = h
  name_agrees n epoch parts (phase.Broken e seg) h = h

  name_other : (k epoch : ℕ) (parts : List SegRef) (p : SlotPhase) → OtherAgrees k p → OtherAgrees k (table.phase_name epoch parts p)
  unfolding table.phase_name
  name_other k epoch parts (phase.Active a) h = by_test (OtherAgrees k) (a.slot.epoch == epoch) (phase.Active (record a { parts = parts })) (phase.Active a)
      (λ _. h) (λ _. h)
  name_other k epoch parts _ h = h

  pub table_names : (n : Net) (t : Table) (k epoch : ℕ) (parts : List SegRef) → TableAgrees members part n t → TableStays n t (table.slot_table_name t k epoch parts)
  unfolding table.slot_table_name
  table_names n t k epoch parts agrees = changes n t k (table.phase_name epoch parts) agrees (name_agrees n epoch parts) (name_stays n epoch parts)
      (name_other k epoch parts)
