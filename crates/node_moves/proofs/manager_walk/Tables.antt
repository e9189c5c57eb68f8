-- What each event makes of the slots of a manager, and what the manager says of them.
use Rattle.std.proofs.Common.{◌+◌, subst, ℕ, Bool, List, arith}
use Rattle.std.specs.Prelude.{Option, Some, None, IfSome, slice_get}
use Rattle.std.specs.List.{AllByRecursion}
use Rattle.group_map.specs.GroupMapState.{GroupMapState}
use Rattle.manager_slots.specs.declared.slot_phase.SlotPhase.{SlotPhase}
use Rattle.manager_slots.specs.declared.slot_phase.SlotPhase.TheVariants as phase
use Rattle.manager_slots.specs.SlotTable.{Table, Done, TableAsker, Asks, Hearer, all_slots, in_slot, at_slot, on_want, on_gave, on_deltas, on_check, usage_in, on_usage_ask, slot_table_recall, recall_again, in_taken, at_taken, slot_table_take, on_report, slot_table_ask, slot_table_ask_again, regroup_one, slot_table_regroup, hear_of, slot_table_hear, hear_each, begin_one, begin_at, phase_clean, phase_name, changed_in, slot_table_clean, slot_table_name}
use Rattle.manager_slots.specs.Takeovers as takeovers
use Rattle.manager_slots.specs.Takeovers.{Asker, asker}
use Rattle.manager_slots.specs.Tokens as tokens
use Rattle.node_base.specs.declared.effects.Effect.{Effect}
use Rattle.takeover.specs.declared.input.In.{In as TakeIn}
use Rattle.takeover.specs.declared.input.In.TheVariants as take_in
use Rattle.token_manager.specs.declared.input.In.TheVariants as slot_in
use Rattle.wire_msg.specs.declared.cleaning.Check.{Check}
use Rattle.wire_msg.specs.declared.cleaning.UsageAsk.{UsageAsk}
use Rattle.wire_msg.specs.declared.deltas.Deltas.{Deltas}
use Rattle.wire_msg.specs.declared.deltas.Report.{Report}
use Rattle.wire_msg.specs.declared.tokens.Gave.{Gave}
use Rattle.wire_msg.specs.declared.tokens.Want.{Want}
use Rattle.xfs_base.specs.Blocks.{slot_of}
use Rattle.xfs_base.specs.declared.news.SlotNews.{SlotNews}
use Rattle.xfs_base.specs.declared.node.NodeId.{NodeId}
use Rattle.xfs_base.specs.declared.segment.LogId.{LogId}
use Rattle.xfs_base.specs.declared.segment.SegRef.{SegRef}
use Rattle.xfs_base.specs.Steps.{Stepped}
use Rattle.xfs_base.proofs.Alls.{all_each}
use Rattle.xfs_base.proofs.Leaving.{Leaves, leaves_each}
use Rattle.std.proofs.Common.{◌≡◌, ℕ, zero, suc, Bool, List, [], ◌∷◌, refl}
use Rattle.std.specs.Prelude.{Option, Some, None, IfSome, slice_get, slice_set}
use Rattle.node_moves.proofs.manager_walk.Laws.{AllSay, Begins, Says, SlotSo, SlotsSo, Walk}
use Rattle.node_moves.proofs.manager_walk.Slots.{HeardSo, Goes as PhaseGoes, Asks as PhaseAsks, phase_takes, phase_wants, phase_checks, phase_tells_usage, asker_takes, asker_asks, asker_reports, asker_hears, heard_any, cleaned_so, named_so}

module _ (w : Walk) where
  -- the slot at a place
  slot_read : (from : ℕ) (t : List SlotPhase) (place at : ℕ) → from + place ≡ at → SlotsSo w from t → IfSome (slice_get t place) (SlotSo w at)
  slot_read from [] place at fact all = tt
  slot_read from (p ∷ t) zero at fact all = subst (λ k. SlotSo w k p) (let e : from ≡ at = omega arith in e) all.0
  slot_read from (p ∷ t) (suc place) at fact all = slot_read (suc from) t place at (omega arith) all.1

  -- it is another
  slot_put : (from : ℕ) (t : List SlotPhase) (place at : ℕ) (q : SlotPhase) → from + place ≡ at → SlotSo w at q → SlotsSo w from t
      → SlotsSo w from (slice_set t place q)
  slot_put from [] place at q fact new all = tt
  slot_put from (p ∷ t) zero at q fact new all = (subst (λ k. SlotSo w k q) (let e : at ≡ from = omega arith in e) new, all.1)
  slot_put from (p ∷ t) (suc place) at q fact new all = (all.0, slot_put (suc from) t place at q (omega arith) new all.1)

module _ (w : Walk) where
  abbrev pub TableSo : Table → Type 0
  TableSo t = SlotsSo w 0 t

  abbrev pub TableGoes : Done → Type 0
  TableGoes d = Leaves TableSo (Says w) d

  -- an event of one slot
  at_slot-goes : (t : Table) (k : ℕ) (event : SlotPhase → Stepped SlotPhase Effect) → ((p : SlotPhase) → SlotSo w k p → PhaseGoes w k (event p))
      → TableSo t → TableGoes (at_slot t k event)
  at_slot-goes t k event one h = by (slice_get t k) (slot_read w 0 t k k (omega arith) h)
    where
      by : (o : Option SlotPhase) → IfSome o (SlotSo w k) → TableGoes (in_slot t k event o)
      by None here = record { state = h; outs = tt }
      by (Some p) here = let d = one p here in record { state = slot_put w 0 t k k (event p).state (omega arith) d.state h; outs = d.outs }

  pub table_wants : (t : Table) (client : ℕ) (want : Want) → TableSo t → TableGoes (on_want t client want)
  unfolding on_want
  table_wants t client want h =
      at_slot-goes t (slot_of want.block.ino.0) (λ p. tokens.on_want p client want)
      (λ p here. phase_wants w (slot_of want.block.ino.0) p client want here) h

  pub table_gaves : (t : Table) (client : ℕ) (gave : Gave) → TableSo t → TableGoes (on_gave t client gave)
  unfolding on_gave
  table_gaves t client gave h =
      at_slot-goes t (slot_of gave.block.ino.0) (λ p. tokens.on_gave p client gave)
      (λ p here. phase_takes w (slot_of gave.block.ino.0) p (slot_of gave.block.ino.0) (tokens.gave_input client gave) tt here) h

  pub table_deltas : (t : Table) (log : LogId) (deltas : Deltas) → w.Ranges (Some log) deltas.upto deltas.rows → TableSo t → TableGoes (on_deltas t log deltas)
  unfolding on_deltas
  table_deltas t log deltas told h =
      at_slot-goes t deltas.slot (λ p. tokens.on_deltas p log deltas)
      (λ p here. phase_takes w deltas.slot p deltas.slot (tokens.deltas_input log deltas) told here) h

  pub table_checks : (t : Table) (check : Check) → TableSo t → TableGoes (on_check t check)
  unfolding on_check
  table_checks t check h =
      at_slot-goes t (slot_of check.block.ino.0) (λ p. tokens.on_check p check) (λ p here. phase_checks w (slot_of check.block.ino.0) p check here) h

  pub table_tells_usage : (t : Table) (asked : UsageAsk) → AllSay w (on_usage_ask t asked)
  unfolding on_usage_ask
  table_tells_usage t asked = by (slice_get t asked.slot)
    where
      by : (o : Option SlotPhase) → AllSay w (usage_in asked o)
      by None = tt
      by (Some p) = phase_tells_usage w asked.slot p asked

  one_recalls : (t : Table) (k : ℕ) → TableSo t → Unit {0} → TableGoes (slot_table_recall t k)
  unfolding slot_table_recall
  one_recalls t k h any = at_slot-goes t k (λ p. tokens.on_tick p k) (λ p here. phase_takes w k p k slot_in.Tick tt here) h

  abbrev Any : ℕ → Type 0
  Any k = Unit {0}

  any_slots : AllByRecursion Any all_slots
  any_slots = all_each Any (λ k. tt) all_slots

  pub table_recalls : (t : Table) → TableSo t → TableGoes (recall_again t)
  table_recalls t h = leaves_each TableSo (Says w) Any slot_table_recall one_recalls t all_slots h any_slots

  -- ---- takeovers

  abbrev pub TableAskerSo : TableAsker → Type 0
  TableAskerSo a = TableSo a.table

  abbrev pub TableAsks : Asks → Type 0
  TableAsks d = Leaves TableAskerSo (Says w) d

  at_taken-goes : (a : TableAsker) (k : ℕ) (event : Asker → Stepped Asker Effect)
      → ((p : SlotPhase) → slice_get a.table k ≡ Some p → SlotSo w k p → PhaseAsks w k (event (asker p a.questions)))
      → TableAskerSo a → TableAsks (at_taken a k event)
  at_taken-goes a k event one h = by (slice_get a.table k) refl (slot_read w 0 a.table k k (omega arith) h)
    where
      by : (o : Option SlotPhase) → slice_get a.table k ≡ o → IfSome o (SlotSo w k) → TableAsks (in_taken a k event o)
      by None at here = record { state = h; outs = tt }
      by (Some p) at here =
          let d = one p at here in
          record { state = slot_put w 0 a.table k k (event (asker p a.questions)).state.phase (omega arith) d.state h; outs = d.outs }

  pub table_takes : (a : TableAsker) (k : ℕ) (given : TakeIn) → TableAskerSo a
      → ((p : SlotPhase) → slice_get a.table k ≡ Some p → HeardSo w k p given) → TableAsks (slot_table_take a k given)
  unfolding slot_table_take
  table_takes a k given h told = at_taken-goes a k (λ one. takeovers.takeovers_take one k given)
      (λ p at here. asker_takes w k (asker p a.questions) k given here (told p at)) h

  pub table_reports : (a : TableAsker) (from : NodeId) (report : Report) → w.Reported from report.end → TableAskerSo a
      → TableAsks (on_report a from report)
  unfolding on_report
  table_reports a from report told h =
      at_taken-goes a report.slot (λ one. takeovers.on_report one from report)
      (λ p at here. asker_reports w report.slot (asker p a.questions) from report here told) h

  one_asks : (polls : Bool) (a : TableAsker) (k : ℕ) → TableAskerSo a → Any k → TableAsks (slot_table_ask polls a k)
  unfolding slot_table_ask
  one_asks polls a k h any = at_taken-goes a k (λ one. takeovers.takeovers_ask_again one k polls) (λ p at here. asker_asks w k (asker p a.questions) k polls here) h

  pub table_asks : (polls : Bool) (a : TableAsker) → TableAskerSo a → TableAsks (slot_table_ask_again polls a)
  table_asks polls a h = leaves_each TableAskerSo (Says w) Any (slot_table_ask polls) (one_asks polls) a all_slots h any_slots

  one_regroups : (groups : GroupMapState) (a : TableAsker) (k : ℕ) → TableAskerSo a → Any k → TableAsks (regroup_one groups a k)
  one_regroups groups a k h any = table_takes a k (take_in.Maps groups) h (λ p at. heard_any w k p (take_in.Maps groups) (λ s. tt))

  pub table_regroups : (groups : GroupMapState) (a : TableAsker) → TableAskerSo a → TableAsks (slot_table_regroup groups a)
  table_regroups groups a h = leaves_each TableAskerSo (Says w) Any (regroup_one groups) (one_regroups groups) a all_slots h any_slots

  one_hears : (h : Hearer) (a : TableAsker) (news : SlotNews) → TableAskerSo a → w.News news → TableAsks (slot_table_hear h a news)
  unfolding slot_table_hear
  one_hears h a news before told = at_taken-goes a news.slot (hear_of h news)
      (λ p at here. asker_hears w news.slot h news (asker p a.questions) refl here told) before

  pub table_hears : (h : Hearer) (a : TableAsker) (slots : List SlotNews) → AllByRecursion w.News slots → TableAskerSo a
      → TableAsks (hear_each h a slots)
  table_hears h a slots told before = leaves_each TableAskerSo (Says w) w.News (slot_table_hear h) (one_hears h) a slots before told

  -- ---- checkpoints

  changes : (t : Table) (k : ℕ) (change : SlotPhase → SlotPhase) → ((p : SlotPhase) → SlotSo w k p → SlotSo w k (change p))
      → TableSo t → TableSo (changed_in t k change (slice_get t k))
  changes t k change one h = by (slice_get t k) (slot_read w 0 t k k (omega arith) h)
    where
      by : (o : Option SlotPhase) → IfSome o (SlotSo w k) → TableSo (changed_in t k change o)
      by None here = h
      by (Some p) here = slot_put w 0 t k k (change p) (omega arith) (one p here) h

  pub table_cleaned : (t : Table) (k : ℕ) → TableSo t → TableSo (slot_table_clean t k)
  unfolding slot_table_clean
  table_cleaned t k h = changes t k phase_clean (cleaned_so w k) h

  pub table_named : (t : Table) (k epoch : ℕ) (parts : List SegRef) (horizon : List ℕ) → w.Done k epoch parts horizon → TableSo t → TableSo (slot_table_name t k epoch parts)
  unfolding slot_table_name
  table_named t k epoch parts horizon told h = changes t k (phase_name epoch parts) (named_so w k epoch parts horizon told) h

  -- a checkpoint that is begun is as it should be
  pub begin_so : (t : Table) (k : ℕ) → TableSo t → IfSome (begin_at t k) (Begins w.Work)
  begin_so t k h = by (slice_get t k) (slot_read w 0 t k k (omega arith) h)
    where
      by : (o : Option SlotPhase) → IfSome o (SlotSo w k) → IfSome (begin_one k o) (Begins w.Work)
      by None here = tt
      by (Some (phase.Active a)) here = w.begins k a here
      by (Some (phase.Away epoch)) here = tt
      by (Some (phase.Taking t)) here = tt
      by (Some (phase.Broken epoch seg)) here = tt
