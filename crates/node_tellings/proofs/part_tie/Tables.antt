-- What a manager names of its slots is known, whatever happens to one of them, or to each in order.
use Rattle.std.proofs.Common.{◌≡◌, ℕ, zero, suc, Bool, List, [], ◌∷◌, length, refl}
use Rattle.std.specs.Prelude.{Option, Some, None, IfSome, slice_get, slice_set}
use Rattle.std.specs.List.{AllByRecursion}
use Rattle.checkpoint.specs.declared.input.In.{In as WriterIn}
use Rattle.checkpoint.specs.declared.input.In.TheVariants as writer_in
use Rattle.checkpoint.specs.declared.plan.Plan.{Plan}
use Rattle.checkpoint.specs.Plan.{writes_all, plan_of}
use Rattle.group_map.specs.GroupMapState.{GroupMapState}
use Rattle.index_pages.specs.Pages.{PagesState, all_rows, changed_rows}
use Rattle.manager_slots.specs.declared.slot_phase.SlotPhase.{SlotPhase}
use Rattle.manager_slots.specs.declared.slot_phase.SlotPhase.TheVariants as phase
use Rattle.manager_slots.specs.SlotTable.{Table, Done, TableAsker, Asks, Hearer, all_slots, in_slot, at_slot, on_want, on_gave, on_deltas, on_check, usage_in, on_usage_ask, slot_table_recall, recall_again, in_taken, at_taken, slot_table_take, on_report, slot_table_ask, slot_table_ask_again, regroup_one, slot_table_regroup, hear_of, slot_table_hear, hear_each, begin_one, begin_at, phase_clean, phase_name, changed_in, slot_table_clean, slot_table_name}
use Rattle.manager_slots.specs.Takeovers as takeovers
use Rattle.manager_slots.specs.Takeovers.{Asker, asker}
use Rattle.manager_slots.specs.Tokens as tokens
use Rattle.node_base.specs.declared.effects.Effect.{Effect}
use Rattle.slot_beliefs.specs.Index.{pages_of}
use Rattle.takeover.specs.declared.input.In.{In as TakeIn}
use Rattle.takeover.specs.declared.input.In.TheVariants as take_in
use Rattle.token_manager.specs.declared.input.In.TheVariants as slot_in
use Rattle.wire_msg.specs.declared.cleaning.Check.{Check}
use Rattle.wire_msg.specs.declared.cleaning.UsageAsk.{UsageAsk}
use Rattle.wire_msg.specs.declared.deltas.Deltas.{Deltas}
use Rattle.wire_msg.specs.declared.deltas.Report.{Report}
use Rattle.wire_msg.specs.declared.tokens.Gave.{Gave}
use Rattle.wire_msg.specs.declared.tokens.Want.{Want}
use Rattle.xfs_base.proofs.Booleans.{by_test}
use Rattle.xfs_base.specs.Blocks.{slot_of}
use Rattle.xfs_base.specs.declared.news.SlotNews.{SlotNews}
use Rattle.xfs_base.specs.declared.node.NodeId.{NodeId}
use Rattle.xfs_base.specs.declared.segment.LogId.{LogId}
use Rattle.xfs_base.specs.declared.segment.SegRef.{SegRef}
use Rattle.xfs_base.specs.Steps.{Stepped}
use Rattle.xfs_base.proofs.Alls.{all_each}
use Rattle.xfs_base.proofs.Leaving.{Leaves, leaves_each}
use Rattle.node_tellings.specs.part_tie.ManagerNames.{SlotNames}
use Rattle.node_tellings.specs.part_tie.Names.{AllKnown, Known, NewsNames}
use Rattle.node_tellings.proofs.part_tie.Saying.{AllSay, Says}
use Rattle.node_tellings.proofs.part_tie.Slots.{Asks as PhaseAsks, Goes as PhaseGoes, asker_asks, asker_hears, asker_reports, asker_takes, cleaned_names, named_names, phase_checks, phase_takes, phase_tells_usage, phase_wants}

module _ (known : Known) where
  -- the slot at a place
  slot_read : (t : Table) (place : ℕ) → AllByRecursion (SlotNames known) t → IfSome (slice_get t place) (SlotNames known)
  slot_read [] place all = tt
  slot_read (p ∷ t) zero all = all.0
  slot_read (p ∷ t) (suc place) all = slot_read t place all.1

  -- it is another
  slot_put : (t : Table) (place : ℕ) (q : SlotPhase) → SlotNames known q → AllByRecursion (SlotNames known) t
      → AllByRecursion (SlotNames known) (slice_set t place q)
  slot_put [] place q new all = tt
  slot_put (p ∷ t) zero q new all = (new, all.1)
  slot_put (p ∷ t) (suc place) q new all = (all.0, slot_put t place q new all.1)

  abbrev pub TableNames : Table → Type 0
  TableNames t = AllByRecursion (SlotNames known) t

  abbrev GivesSo : Effect → Type 0
  GivesSo e = Says known e

  abbrev pub TableGoes : Done → Type 0
  TableGoes d = Leaves TableNames GivesSo d

  -- an event of one slot
  at_slot-goes : (t : Table) (k : ℕ) (event : SlotPhase → Stepped SlotPhase Effect) → ((p : SlotPhase) → SlotNames known p → PhaseGoes known (event p))
      → TableNames t → TableGoes (at_slot t k event)
  at_slot-goes t k event one h = by (slice_get t k) (slot_read t k h)
    where
      by : (o : Option SlotPhase) → IfSome o (SlotNames known) → TableGoes (in_slot t k event o)
      by None here = record { state = h; outs = tt }
      by (Some p) here = let d = one p here in record { state = slot_put t k (event p).state d.state h; outs = d.outs }

  pub table_wants : (t : Table) (client : ℕ) (want : Want) → TableNames t → TableGoes (on_want t client want)
  unfolding on_want
  table_wants t client want h =
      at_slot-goes t (slot_of want.block.ino.0) (λ p. tokens.on_want p client want)
      (λ p here. phase_wants known p client want here) h

  pub table_gaves : (t : Table) (client : ℕ) (gave : Gave) → TableNames t → TableGoes (on_gave t client gave)
  unfolding on_gave
  table_gaves t client gave h =
      at_slot-goes t (slot_of gave.block.ino.0) (λ p. tokens.on_gave p client gave)
      (λ p here. phase_takes known p (slot_of gave.block.ino.0) (tokens.gave_input client gave) here) h

  pub table_deltas : (t : Table) (log : LogId) (deltas : Deltas) → TableNames t → TableGoes (on_deltas t log deltas)
  unfolding on_deltas
  table_deltas t log deltas h =
      at_slot-goes t deltas.slot (λ p. tokens.on_deltas p log deltas)
      (λ p here. phase_takes known p deltas.slot (tokens.deltas_input log deltas) here) h

  pub table_checks : (t : Table) (check : Check) → TableNames t → TableGoes (on_check t check)
  unfolding on_check
  table_checks t check h =
      at_slot-goes t (slot_of check.block.ino.0) (λ p. tokens.on_check p check) (λ p here. phase_checks known p check here) h

  pub table_tells_usage : (t : Table) (asked : UsageAsk) → AllSay known (on_usage_ask t asked)
  unfolding on_usage_ask
  table_tells_usage t asked = by (slice_get t asked.slot)
    where
      by : (o : Option SlotPhase) → AllSay known (usage_in asked o)
      by None = tt
      by (Some p) = phase_tells_usage known p asked

  one_recalls : (t : Table) (k : ℕ) → TableNames t → Unit {0} → TableGoes (slot_table_recall t k)
  unfolding slot_table_recall
  one_recalls t k h any = at_slot-goes t k (λ p. tokens.on_tick p k) (λ p here. phase_takes known p k slot_in.Tick here) h

  abbrev Any : ℕ → Type 0
  Any k = Unit {0}

  any_slots : AllByRecursion Any all_slots
  any_slots = all_each Any (λ k. tt) all_slots

  pub table_recalls : (t : Table) → TableNames t → TableGoes (recall_again t)
  table_recalls t h = leaves_each TableNames GivesSo Any slot_table_recall one_recalls t all_slots h any_slots

  -- ---- takeovers

  abbrev pub TableAskerNames : TableAsker → Type 0
  TableAskerNames a = TableNames a.table

  abbrev pub TableAsks : Asks → Type 0
  TableAsks d = Leaves TableAskerNames GivesSo d

  at_taken-goes : (a : TableAsker) (k : ℕ) (event : Asker → Stepped Asker Effect)
      → ((p : SlotPhase) → slice_get a.table k ≡ Some p → SlotNames known p → PhaseAsks known (event (asker p a.questions)))
      → TableAskerNames a → TableAsks (at_taken a k event)
  at_taken-goes a k event one h = by (slice_get a.table k) refl (slot_read a.table k h)
    where
      by : (o : Option SlotPhase) → slice_get a.table k ≡ o → IfSome o (SlotNames known) → TableAsks (in_taken a k event o)
      by None at here = record { state = h; outs = tt }
      by (Some p) at here =
          let d = one p at here in
          record { state = slot_put a.table k (event (asker p a.questions)).state.phase d.state h; outs = d.outs }

  pub table_takes : (a : TableAsker) (k : ℕ) (given : TakeIn) → TableAskerNames a → TableAsks (slot_table_take a k given)
  unfolding slot_table_take
  table_takes a k given h =
      at_taken-goes a k (λ one. takeovers.takeovers_take one k given) (λ p at here. asker_takes known (asker p a.questions) k given here) h

  pub table_reports : (a : TableAsker) (from : NodeId) (report : Report) → TableAskerNames a → TableAsks (on_report a from report)
  unfolding on_report
  table_reports a from report h =
      at_taken-goes a report.slot (λ one. takeovers.on_report one from report)
      (λ p at here. asker_reports known (asker p a.questions) from report here) h

  one_asks : (polls : Bool) (a : TableAsker) (k : ℕ) → TableAskerNames a → Any k → TableAsks (slot_table_ask polls a k)
  unfolding slot_table_ask
  one_asks polls a k h any =
      at_taken-goes a k (λ one. takeovers.takeovers_ask_again one k polls) (λ p at here. asker_asks known (asker p a.questions) k polls here) h

  pub table_asks : (polls : Bool) (a : TableAsker) → TableAskerNames a → TableAsks (slot_table_ask_again polls a)
  table_asks polls a h = leaves_each TableAskerNames GivesSo Any (slot_table_ask polls) (one_asks polls) a all_slots h any_slots

  one_regroups : (groups : GroupMapState) (a : TableAsker) (k : ℕ) → TableAskerNames a → Any k → TableAsks (regroup_one groups a k)
  one_regroups groups a k h any = table_takes a k (take_in.Maps groups) h

  pub table_regroups : (groups : GroupMapState) (a : TableAsker) → TableAskerNames a → TableAsks (slot_table_regroup groups a)
  table_regroups groups a h = leaves_each TableAskerNames GivesSo Any (regroup_one groups) (one_regroups groups) a all_slots h any_slots

  one_hears : (h : Hearer) (a : TableAsker) (news : SlotNews) → TableAskerNames a → NewsNames known news → TableAsks (slot_table_hear h a news)
  unfolding slot_table_hear
  one_hears h a news before names =
      at_taken-goes a news.slot (hear_of h news) (λ p at here. asker_hears known h news (asker p a.questions) names here) before

  pub table_hears : (h : Hearer) (a : TableAsker) (slots : List SlotNews) → AllByRecursion (NewsNames known) slots → TableAskerNames a
      → TableAsks (hear_each h a slots)
  table_hears h a slots names before = leaves_each TableAskerNames GivesSo (NewsNames known) (slot_table_hear h) (one_hears h) a slots before names

  -- ---- checkpoints

  changes : (t : Table) (k : ℕ) (change : SlotPhase → SlotPhase) → ((p : SlotPhase) → SlotNames known p → SlotNames known (change p))
      → TableNames t → TableNames (changed_in t k change (slice_get t k))
  changes t k change one h = by (slice_get t k) (slot_read t k h)
    where
      by : (o : Option SlotPhase) → IfSome o (SlotNames known) → TableNames (changed_in t k change o)
      by None here = h
      by (Some p) here = slot_put t k (change p) (one p here) h

  pub table_cleaned : (t : Table) (k : ℕ) → TableNames t → TableNames (slot_table_clean t k)
  unfolding slot_table_clean
  table_cleaned t k h = changes t k phase_clean (cleaned_names known) h

  pub table_named : (t : Table) (k epoch : ℕ) (parts : List SegRef) → AllKnown known parts → TableNames t → TableNames (slot_table_name t k epoch parts)
  unfolding slot_table_name
  table_named t k epoch parts all h = changes t k (phase_name epoch parts) (named_names known epoch parts all) h

  -- the parts that a checkpoint that is begun names again
  abbrev pub BeginNames : WriterIn → Type 0
  BeginNames (writer_in.Begin slot epoch pages parts horizon) = AllKnown known parts
  BeginNames (writer_in.Settled end) = ⊥
  BeginNames (writer_in.Ack epoch number) = ⊥

  plan_names : (s : PagesState) (parts : List SegRef) → AllKnown known parts → AllKnown known (plan_of s parts).parts
  plan_names s parts all =
      by_test (λ (plan : Plan). AllKnown known plan.parts) (writes_all (length parts)) (record { pages = all_rows s; parts = [] })
      (record { pages = changed_rows s; parts = parts }) (λ _. tt) (λ _. all)

  pub begin_names : (t : Table) (k : ℕ) → TableNames t → IfSome (begin_at t k) BeginNames
  begin_names t k h = by (slice_get t k) (slot_read t k h)
    where
      by : (o : Option SlotPhase) → IfSome o (SlotNames known) → IfSome (begin_one k o) BeginNames
      by None here = tt
      by (Some (phase.Active a)) here = plan_names (pages_of a.slot.index) a.parts here
      by (Some (phase.Away epoch)) here = tt
      by (Some (phase.Taking t)) here = tt
      by (Some (phase.Broken epoch seg)) here = tt
