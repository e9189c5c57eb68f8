-- The slots of a manager fit, whatever happens to one of them, or to each in order, and what is said then is no matter of a log.
use Rattle.std.proofs.Common.{ℕ, Bool, List}
use Rattle.std.specs.Prelude.{Option, Some, None, IfSome, slice_get}
use Rattle.std.specs.List.{AllByRecursion}
use Rattle.checkpoint.specs.declared.input.In.{In as WriterIn}
use Rattle.checkpoint.specs.declared.input.In.TheVariants as writer_in
use Rattle.group_map.specs.GroupMapState.{GroupMapState}
use Rattle.manager_slots.specs.declared.slot_phase.SlotPhase.{SlotPhase}
use Rattle.manager_slots.specs.declared.slot_phase.SlotPhase.TheVariants as phase
use Rattle.manager_slots.specs.SlotTable.{Table, Done, TableAsker, Asks, Hearer, all_slots, in_slot, at_slot, on_want, on_gave, on_deltas, on_check, usage_in, on_usage_ask, slot_table_recall, recall_again, in_taken, at_taken, slot_table_take, on_report, slot_table_ask, slot_table_ask_again, regroup_one, slot_table_regroup, hear_of, slot_table_hear, hear_each, begin_one, begin_at, phase_clean, phase_name, changed_in, slot_table_clean, slot_table_name}
use Rattle.manager_slots.specs.Takeovers as takeovers
use Rattle.manager_slots.specs.Takeovers.{Asker, asker}
use Rattle.manager_slots.specs.Tokens as tokens
use Rattle.node_base.specs.declared.effects.Effect.{Effect}
use Rattle.slot_beliefs.specs.Index.{pages_of}
use Rattle.takeover.specs.declared.input.In.{In as TakeIn}
use Rattle.takeover.specs.declared.input.In.TheVariants as take_in
use Rattle.token_manager.specs.declared.input.In.TheVariants as slot_in
use Rattle.wire_msg.specs.declared.cleaning.Check.{Check}
use Rattle.wire_msg.specs.declared.cleaning.UsageAsk.{UsageAsk}
use Rattle.wire_msg.specs.declared.deltas.Deltas.{Deltas}
use Rattle.wire_msg.specs.declared.deltas.Report.{Report}
use Rattle.wire_msg.specs.declared.tokens.Gave.{Gave}
use Rattle.wire_msg.specs.declared.tokens.Want.{Want}
use Rattle.xfs_base.specs.Blocks.{slot_of}
use Rattle.xfs_base.specs.declared.news.SlotNews.{SlotNews}
use Rattle.xfs_base.specs.declared.node.NodeId.{NodeId}
use Rattle.xfs_base.specs.declared.segment.LogId.{LogId}
use Rattle.xfs_base.specs.declared.segment.SegRef.{SegRef}
use Rattle.xfs_base.specs.Steps.{Stepped}
use Rattle.xfs_base.proofs.Alls.{all_each, all_read, all_put}
use Rattle.xfs_base.proofs.Leaving.{Leaves, leaves_each}
use Rattle.node_logs.specs.manager_log_tie.Fitting.{PagesFit, RowsInRange, SlotFits, TableFits}
use Rattle.node_logs.proofs.manager_log_tie.Rows.{planned_fit}
use Rattle.node_logs.proofs.manager_log_tie.SlotPhases.{IsAside, AllAside, PhaseGoes, AskerFits, AskerGoes, phase_takes, phase_wants, phase_checks, phase_tells_usage, asker_takes, asker_asks, asker_reports, asker_hears, cleaned_fits, named_fits}
use Rattle.node_logs.proofs.manager_log_tie.Taking.{TakeInFits}

abbrev pub TableGoes : Done → Type 0
TableGoes d = Leaves TableFits IsAside d

-- an event of one slot
at_slot-goes : (t : Table) (k : ℕ) (event : SlotPhase → Stepped SlotPhase Effect) → ((p : SlotPhase) → SlotFits p → PhaseGoes (event p)) → TableFits t
    → TableGoes (at_slot t k event)
at_slot-goes t k event one h = by (slice_get t k) (all_read SlotFits t k h)
  where
    by : (o : Option SlotPhase) → IfSome o SlotFits → TableGoes (in_slot t k event o)
    by None here = record { state = h; outs = tt }
    by (Some p) here = let d = one p here in record { state = all_put SlotFits t k (event p).state d.state h; outs = d.outs }

pub table_wants : (t : Table) (client : ℕ) (want : Want) → TableFits t → TableGoes (on_want t client want)
unfolding on_want
table_wants t client want h = at_slot-goes t (slot_of want.block.ino.0) (λ p. tokens.on_want p client want) (λ p here. phase_wants p client want here) h

pub table_gaves : (t : Table) (client : ℕ) (gave : Gave) → TableFits t → TableGoes (on_gave t client gave)
unfolding on_gave
table_gaves t client gave h =
    at_slot-goes t (slot_of gave.block.ino.0) (λ p. tokens.on_gave p client gave)
    (λ p here. phase_takes p (slot_of gave.block.ino.0) (tokens.gave_input client gave) tt here) h

pub table_deltas : (t : Table) (log : LogId) (deltas : Deltas) → RowsInRange deltas.rows → TableFits t → TableGoes (on_deltas t log deltas)
unfolding on_deltas
table_deltas t log deltas told h =
    at_slot-goes t deltas.slot (λ p. tokens.on_deltas p log deltas) (λ p here. phase_takes p deltas.slot (tokens.deltas_input log deltas) told here) h

pub table_checks : (t : Table) (check : Check) → TableFits t → TableGoes (on_check t check)
unfolding on_check
table_checks t check h = at_slot-goes t (slot_of check.block.ino.0) (λ p. tokens.on_check p check) (λ p here. phase_checks p check here) h

pub table_tells_usage : (t : Table) (asked : UsageAsk) → AllAside (on_usage_ask t asked)
unfolding on_usage_ask
table_tells_usage t asked = by (slice_get t asked.slot)
  where
    by : (o : Option SlotPhase) → AllAside (usage_in asked o)
    by None = tt
    by (Some p) = phase_tells_usage p asked

one_recalls : (t : Table) (k : ℕ) → TableFits t → Unit {0} → TableGoes (slot_table_recall t k)
unfolding slot_table_recall
one_recalls t k h any = at_slot-goes t k (λ p. tokens.on_tick p k) (λ p here. phase_takes p k slot_in.Tick tt here) h

abbrev Any : {X : Type 0} → X → Type 0
Any x = Unit {0}

any_slots : AllByRecursion Any all_slots
any_slots = all_each Any (λ k. tt) all_slots

pub table_recalls : (t : Table) → TableFits t → TableGoes (recall_again t)
table_recalls t h = leaves_each TableFits IsAside Any slot_table_recall one_recalls t all_slots h any_slots

-- ---- takeovers

abbrev pub TableAskerFits : TableAsker → Type 0
TableAskerFits a = TableFits a.table

abbrev pub TableAsks : Asks → Type 0
TableAsks d = Leaves TableAskerFits IsAside d

at_taken-goes : (a : TableAsker) (k : ℕ) (event : Asker → Stepped Asker Effect) → ((one : Asker) → AskerFits one → AskerGoes (event one)) → TableAskerFits a
    → TableAsks (at_taken a k event)
at_taken-goes a k event one h = by (slice_get a.table k) (all_read SlotFits a.table k h)
  where
    by : (o : Option SlotPhase) → IfSome o SlotFits → TableAsks (in_taken a k event o)
    by None here = record { state = h; outs = tt }
    by (Some p) here =
        let d = one (asker p a.questions) here in
        record { state = all_put SlotFits a.table k (event (asker p a.questions)).state.phase d.state h; outs = d.outs }

pub table_takes : (a : TableAsker) (k : ℕ) (given : TakeIn) → TableAskerFits a → TakeInFits given → TableAsks (slot_table_take a k given)
unfolding slot_table_take
table_takes a k given h told = at_taken-goes a k (λ one. takeovers.takeovers_take one k given) (λ one here. asker_takes one k given here told) h

pub table_reports : (a : TableAsker) (from : NodeId) (report : Report) → TableAskerFits a → TableAsks (on_report a from report)
unfolding on_report
table_reports a from report h =
    at_taken-goes a report.slot (λ one. takeovers.on_report one from report) (λ one here. asker_reports one from report here) h

one_asks : (polls : Bool) (a : TableAsker) (k : ℕ) → TableAskerFits a → Any k → TableAsks (slot_table_ask polls a k)
unfolding slot_table_ask
one_asks polls a k h any = at_taken-goes a k (λ one. takeovers.takeovers_ask_again one k polls) (λ one here. asker_asks one k polls here) h

pub table_asks : (polls : Bool) (a : TableAsker) → TableAskerFits a → TableAsks (slot_table_ask_again polls a)
table_asks polls a h = leaves_each TableAskerFits IsAside Any (slot_table_ask polls) (one_asks polls) a all_slots h any_slots

one_regroups : (groups : GroupMapState) (a : TableAsker) (k : ℕ) → TableAskerFits a → Any k → TableAsks (regroup_one groups a k)
one_regroups groups a k h any = table_takes a k (take_in.Maps groups) h tt

pub table_regroups : (groups : GroupMapState) (a : TableAsker) → TableAskerFits a → TableAsks (slot_table_regroup groups a)
table_regroups groups a h = leaves_each TableAskerFits IsAside Any (regroup_one groups) (one_regroups groups) a all_slots h any_slots

one_hears : (h : Hearer) (a : TableAsker) (news : SlotNews) → TableAskerFits a → Any news → TableAsks (slot_table_hear h a news)
unfolding slot_table_hear
one_hears h a news before any = at_taken-goes a news.slot (hear_of h news) (λ one here. asker_hears h news one here) before

pub table_hears : (h : Hearer) (a : TableAsker) (slots : List SlotNews) → TableAskerFits a → TableAsks (hear_each h a slots)
table_hears h a slots before = leaves_each TableAskerFits IsAside Any (slot_table_hear h) (one_hears h) a slots before (all_each Any (λ news. tt) slots)

-- ---- checkpoints

changes : (t : Table) (k : ℕ) (change : SlotPhase → SlotPhase) → ((p : SlotPhase) → SlotFits p → SlotFits (change p)) → TableFits t
    → TableFits (changed_in t k change (slice_get t k))
changes t k change one h = by (slice_get t k) (all_read SlotFits t k h)
  where
    by : (o : Option SlotPhase) → IfSome o SlotFits → TableFits (changed_in t k change o)
    by None here = h
    by (Some p) here = all_put SlotFits t k (change p) (one p here) h

pub table_cleaned : (t : Table) (k : ℕ) → TableFits t → TableFits (slot_table_clean t k)
unfolding slot_table_clean
table_cleaned t k h = changes t k phase_clean cleaned_fits h

pub table_named : (t : Table) (k epoch : ℕ) (parts : List SegRef) → TableFits t → TableFits (slot_table_name t k epoch parts)
unfolding slot_table_name
table_named t k epoch parts h = changes t k (phase_name epoch parts) (named_fits epoch parts) h

abbrev pub WriterInFits : WriterIn → Type 0
WriterInFits (writer_in.Begin slot epoch pages parts horizon) = PagesFit pages
WriterInFits (writer_in.Settled end) = Unit {0}
WriterInFits (writer_in.Ack epoch number) = Unit {0}

-- the pages of a checkpoint that is begun fit
pub begin_fits : (t : Table) (k : ℕ) → TableFits t → IfSome (begin_at t k) WriterInFits
begin_fits t k h = by (slice_get t k) (all_read SlotFits t k h)
  where
    by : (o : Option SlotPhase) → IfSome o SlotFits → IfSome (begin_one k o) WriterInFits
    by None here = tt
    by (Some (phase.Active a)) here = planned_fit (pages_of a.slot.index) a.parts here
    by (Some (phase.Away epoch)) here = tt
    by (Some (phase.Taking t)) here = tt
    by (Some (phase.Broken epoch seg)) here = tt
