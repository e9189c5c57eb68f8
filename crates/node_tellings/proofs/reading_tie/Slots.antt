-- What the takeovers of a manager's slots hold came, whatever happens to one of the slots, or to each in order.
use Rattle.std.proofs.Common.{ℕ, zero, suc, ◌==◌, Bool, List, [], ◌∷◌, filter}
use Rattle.std.specs.Prelude.{nat_lt, Option, Some, None, IfSome, slice_get, slice_set}
use Rattle.std.specs.List.{AllByRecursion}
use Rattle.group_map.specs.GroupMapState.{GroupMapState}
use Rattle.manager_slots.specs.declared.slot_phase.SlotPhase.{SlotPhase}
use Rattle.manager_slots.specs.declared.slot_phase.SlotPhase.TheVariants as phase
use Rattle.manager_slots.specs.Slots.{epoch_of}
use Rattle.manager_slots.specs.SlotTable.{Table, TableAsker, Hearer, all_slots, in_slot, at_slot, on_want, on_gave, on_deltas, on_check, slot_table_recall, recall_again, in_taken, at_taken, slot_table_take, on_report, slot_table_ask, slot_table_ask_again, regroup_one, slot_table_regroup, hear_of, slot_table_hear, hear_each, phase_clean, phase_name, changed_in, slot_table_clean, slot_table_name}
use Rattle.manager_slots.specs.Takeovers as takeovers
use Rattle.manager_slots.specs.Takeovers.{Asker, asker, takeovers_fetch, takeovers_say, say_each, outs_of, is_wanted, takeovers_ask_again, report_input, phase_of}
use Rattle.manager_slots.specs.Tokens as tokens
use Rattle.node_base.specs.declared.effects.Effect.{Effect}
use Rattle.node_base.specs.declared.questions.Questions.{Questions}
use Rattle.takeover.specs.declared.input.In.{In as TakeIn}
use Rattle.takeover.specs.declared.input.In.TheVariants as take_in
use Rattle.takeover.specs.declared.output.Out.{Out as TakeOut}
use Rattle.takeover.specs.declared.output.Out.TheVariants as take_out
use Rattle.takeover.specs.TakeState.{take_start}
use Rattle.token_manager.specs.declared.input.In.{In as SlotIn}
use Rattle.token_manager.specs.declared.input.In.TheVariants as slot_in
use Rattle.wire_msg.specs.declared.cleaning.Check.{Check}
use Rattle.wire_msg.specs.declared.deltas.Deltas.{Deltas}
use Rattle.wire_msg.specs.declared.deltas.Report.{Report}
use Rattle.wire_msg.specs.declared.tokens.Gave.{Gave}
use Rattle.wire_msg.specs.declared.tokens.Want.{Want}
use Rattle.xfs_base.proofs.Booleans.{by_test}
use Rattle.xfs_base.proofs.StepLoops.{steps_keep}
use Rattle.xfs_base.specs.Blocks.{slot_of}
use Rattle.xfs_base.specs.declared.news.SlotNews.{SlotNews}
use Rattle.xfs_base.specs.declared.node.NodeId.{NodeId}
use Rattle.xfs_base.specs.declared.segment.LogId.{LogId}
use Rattle.xfs_base.specs.declared.segment.SegName.{SegName}
use Rattle.xfs_base.specs.declared.segment.SegRef.{SegRef}
use Rattle.xfs_base.specs.Steps.{Stepped, still}
use Rattle.node_tellings.specs.reading_tie.Came.{Came, Striped, MapStriped}
use Rattle.node_tellings.specs.reading_tie.ManagerReads.{SlotHolds}
use Rattle.node_tellings.proofs.reading_tie.Taking.{InputBrought, take_goes, take_starts}

module _ (came : Came) (striped : Striped) where
  abbrev Holds : SlotPhase → Type 0
  Holds p = SlotHolds came striped p

  abbrev Goes : Stepped SlotPhase Effect → Type 0
  Goes d = Holds d.state

  -- ---- a slot that is managed takes an input

  phase_takes : (p : SlotPhase) (number : ℕ) (given : SlotIn) → Holds p → Goes (tokens.tokens_take p number given)
  unfolding tokens.tokens_take
  phase_takes (phase.Taking t) number given h = h
  phase_takes _ number given h = tt

  phase_wants : (p : SlotPhase) (client : ℕ) (want : Want) → Holds p → Goes (tokens.on_want p client want)
  unfolding tokens.on_want
  phase_wants (phase.Broken epoch seg) client want h = tt
  phase_wants (phase.Active a) client want h = phase_takes (phase.Active a) (slot_of want.block.ino.0) (tokens.want_input client want) h
  phase_wants (phase.Away epoch) client want h = phase_takes (phase.Away epoch) (slot_of want.block.ino.0) (tokens.want_input client want) h
  phase_wants (phase.Taking t) client want h = phase_takes (phase.Taking t) (slot_of want.block.ino.0) (tokens.want_input client want) h

  phase_checks : (p : SlotPhase) (check : Check) → Holds p → Goes (tokens.on_check p check)
  unfolding tokens.on_check
  phase_checks (phase.Taking t) check h = h
  phase_checks _ check h = tt

  -- ---- a slot that is taken over, which may ask

  abbrev AskerHolds : Asker → Type 0
  AskerHolds a = Holds a.phase

  fetches_on : (p : SlotPhase) (q : Questions) (server : ℕ) (name : SegName) (own : ℕ) → Holds p → AskerHolds (takeovers_fetch p q server name own).state
  fetches_on (phase.Taking t) q server name own h = h
  fetches_on _ q server name own h = tt

  says_on : (number : ℕ) (a : Asker) (o : TakeOut) → AskerHolds a → AskerHolds (takeovers_say number a o).state
  unfolding takeovers_say
  says_on number a (take_out.Poll to) h = h
  says_on number a (take_out.Fetch server name own) h = fetches_on a.phase a.questions server name own h
  says_on number a (take_out.Active epoch index beliefs applied) h = tt
  says_on number a (take_out.Lost seg) h = tt

  each_said : (number : ℕ) (a : Asker) (outs : List TakeOut) → AskerHolds a → AskerHolds (say_each number a outs).state
  unfolding say_each
  each_said number a outs h = steps_keep (takeovers_say number) AskerHolds (says_on number) a outs h

  heard_on : (p : SlotPhase) (given : TakeIn) → InputBrought came striped given → Holds p → Holds (outs_of p given).state
  unfolding outs_of
  heard_on (phase.Taking t) given fact h = take_goes came striped t.take given fact h
  heard_on _ given fact h = tt

  asker_takes : (a : Asker) (number : ℕ) (given : TakeIn) → InputBrought came striped given → AskerHolds a → AskerHolds (takeovers.takeovers_take a number given).state
  unfolding takeovers.takeovers_take
  asker_takes a number given fact h =
      each_said number (record a { phase = (outs_of a.phase given).state }) (outs_of a.phase given).outs (heard_on a.phase given fact h)

  asker_asks : (a : Asker) (number : ℕ) (polls : Bool) → AskerHolds a → AskerHolds (takeovers_ask_again a number polls).state
  unfolding takeovers_ask_again
  asker_asks a number polls h =
      each_said number (record a { phase = (outs_of a.phase take_in.Tick).state }) (filter (is_wanted polls) (outs_of a.phase take_in.Tick).outs)
      (heard_on a.phase take_in.Tick tt h)

  asker_reports : (a : Asker) (from : NodeId) (report : Report) → AskerHolds a → AskerHolds (takeovers.on_report a from report).state
  asker_reports a from report h =
      by_test (λ (d : Stepped Asker Effect). AskerHolds d.state) (report.epoch == epoch_of a.phase)
      (takeovers.takeovers_take a report.slot (report_input from report)) (still a) (λ _. asker_takes a report.slot (report_input from report) tt h) (λ _. h)

  -- it starts with the groups that are known
  asker_hears : (h : Hearer) (news : SlotNews) (one : Asker) → MapStriped striped h.groups → AskerHolds one → AskerHolds (hear_of h news one).state
  unfolding hear_of
  asker_hears h news one known before =
      by_test (λ (d : Stepped Asker Effect). AskerHolds d.state) (nat_lt (epoch_of one.phase) news.epoch)
      (takeovers.takeovers_take (record one { phase = phase_of h.ears.number news h.groups h.ears.clients }) news.slot take_in.Tick)
      (still one) (λ _. asker_takes (record one { phase = phase_of h.ears.number news h.groups h.ears.clients }) news.slot take_in.Tick tt new) (λ _. before)
    where
      new : Holds (phase_of h.ears.number news h.groups h.ears.clients)
      new =
          by_test Holds (news.manager == h.ears.number)
          (phase.Taking (record { epoch = news.epoch; take = take_start news h.groups h.ears.clients; fetches = record { own = 0; ask = 0 } }))
          (phase.Away news.epoch) (λ _. take_starts came striped news h.groups h.ears.clients known) (λ _. tt)

  -- ---- the table

  abbrev pub TableHolds : Table → Type 0
  TableHolds t = AllByRecursion (SlotHolds came striped) t

  -- the slot at a place
  slot_read : (t : Table) (place : ℕ) → TableHolds t → IfSome (slice_get t place) Holds
  slot_read [] place all = tt
  slot_read (p ∷ t) zero all = all.0
  slot_read (p ∷ t) (suc place) all = slot_read t place all.1

  -- it is another
  slot_put : (t : Table) (place : ℕ) (q : SlotPhase) → Holds q → TableHolds t → TableHolds (slice_set t place q)
  slot_put [] place q new all = tt
  slot_put (p ∷ t) zero q new all = (new, all.1)
  slot_put (p ∷ t) (suc place) q new all = (all.0, slot_put t place q new all.1)

  -- an event of one slot
  at_slot-goes : (t : Table) (k : ℕ) (event : SlotPhase → Stepped SlotPhase Effect) → ((p : SlotPhase) → Holds p → Goes (event p)) → TableHolds t
      → TableHolds (at_slot t k event).state
  at_slot-goes t k event one h = by (slice_get t k) (slot_read t k h)
    where
      by : (o : Option SlotPhase) → IfSome o Holds → TableHolds (in_slot t k event o).state
      by None here = h
      by (Some p) here = slot_put t k (event p).state (one p here) h

  pub table_wants : (t : Table) (client : ℕ) (want : Want) → TableHolds t → TableHolds (on_want t client want).state
  unfolding on_want
  table_wants t client want h =
      at_slot-goes t (slot_of want.block.ino.0) (λ p. tokens.on_want p client want) (λ p here. phase_wants p client want here) h

  pub table_gaves : (t : Table) (client : ℕ) (gave : Gave) → TableHolds t → TableHolds (on_gave t client gave).state
  unfolding on_gave
  table_gaves t client gave h =
      at_slot-goes t (slot_of gave.block.ino.0) (λ p. tokens.on_gave p client gave)
      (λ p here. phase_takes p (slot_of gave.block.ino.0) (tokens.gave_input client gave) here) h

  pub table_deltas : (t : Table) (log : LogId) (deltas : Deltas) → TableHolds t → TableHolds (on_deltas t log deltas).state
  unfolding on_deltas
  table_deltas t log deltas h =
      at_slot-goes t deltas.slot (λ p. tokens.on_deltas p log deltas) (λ p here. phase_takes p deltas.slot (tokens.deltas_input log deltas) here) h

  pub table_checks : (t : Table) (check : Check) → TableHolds t → TableHolds (on_check t check).state
  unfolding on_check
  table_checks t check h = at_slot-goes t (slot_of check.block.ino.0) (λ p. tokens.on_check p check) (λ p here. phase_checks p check here) h

  one_recalls : (t : Table) (k : ℕ) → TableHolds t → TableHolds (slot_table_recall t k).state
  unfolding slot_table_recall
  one_recalls t k h = at_slot-goes t k (λ p. tokens.on_tick p k) (λ p here. phase_takes p k slot_in.Tick here) h

  pub table_recalls : (t : Table) → TableHolds t → TableHolds (recall_again t).state
  table_recalls t h = steps_keep slot_table_recall TableHolds one_recalls t all_slots h

  -- ---- takeovers

  abbrev pub TableAskerHolds : TableAsker → Type 0
  TableAskerHolds a = TableHolds a.table

  at_taken-goes : (a : TableAsker) (k : ℕ) (event : Asker → Stepped Asker Effect) → ((one : Asker) → AskerHolds one → AskerHolds (event one).state)
      → TableAskerHolds a → TableAskerHolds (at_taken a k event).state
  at_taken-goes a k event one h = by (slice_get a.table k) (slot_read a.table k h)
    where
      by : (o : Option SlotPhase) → IfSome o Holds → TableAskerHolds (in_taken a k event o).state
      by None here = h
      by (Some p) here = slot_put a.table k (event (asker p a.questions)).state.phase (one (asker p a.questions) here) h

  pub table_takes : (a : TableAsker) (k : ℕ) (given : TakeIn) → InputBrought came striped given → TableAskerHolds a → TableAskerHolds (slot_table_take a k given).state
  unfolding slot_table_take
  table_takes a k given fact h = at_taken-goes a k (λ one. takeovers.takeovers_take one k given) (λ one here. asker_takes one k given fact here) h

  pub table_reports : (a : TableAsker) (from : NodeId) (report : Report) → TableAskerHolds a → TableAskerHolds (on_report a from report).state
  unfolding on_report
  table_reports a from report h =
      at_taken-goes a report.slot (λ one. takeovers.on_report one from report) (λ one here. asker_reports one from report here) h

  one_asks : (polls : Bool) (a : TableAsker) (k : ℕ) → TableAskerHolds a → TableAskerHolds (slot_table_ask polls a k).state
  unfolding slot_table_ask
  one_asks polls a k h = at_taken-goes a k (λ one. takeovers.takeovers_ask_again one k polls) (λ one here. asker_asks one k polls here) h

  pub table_asks : (polls : Bool) (a : TableAsker) → TableAskerHolds a → TableAskerHolds (slot_table_ask_again polls a).state
  table_asks polls a h = steps_keep (slot_table_ask polls) TableAskerHolds (one_asks polls) a all_slots h

  pub table_regroups : (groups : GroupMapState) (a : TableAsker) → MapStriped striped groups → TableAskerHolds a
      → TableAskerHolds (slot_table_regroup groups a).state
  table_regroups groups a known h =
      steps_keep (regroup_one groups) TableAskerHolds (λ b k here. table_takes b k (take_in.Maps groups) known here) a all_slots h

  one_hears : (h : Hearer) → MapStriped striped h.groups → (a : TableAsker) (news : SlotNews) → TableAskerHolds a → TableAskerHolds (slot_table_hear h a news).state
  unfolding slot_table_hear
  one_hears h known a news before = at_taken-goes a news.slot (hear_of h news) (λ one here. asker_hears h news one known here) before

  pub table_hears : (h : Hearer) (a : TableAsker) (slots : List SlotNews) → MapStriped striped h.groups → TableAskerHolds a
      → TableAskerHolds (hear_each h a slots).state
  table_hears h a slots known before = steps_keep (slot_table_hear h) TableAskerHolds (one_hears h known) a slots before

  -- ---- checkpoints

  cleaned_holds : (p : SlotPhase) → Holds p → Holds (phase_clean p)
  unfolding phase_clean
  cleaned_holds (phase.Taking t) h = h
  cleaned_holds _ h = tt

  named_holds : (epoch : ℕ) (parts : List SegRef) (p : SlotPhase) → Holds p → Holds (phase_name epoch parts p)
  unfolding phase_name
  named_holds epoch parts (phase.Active a) h =
      by_test Holds (a.slot.epoch == epoch) (phase.Active (record a { parts = parts })) (phase.Active a) (λ _. tt) (λ _. tt)
  named_holds epoch parts (phase.Away e) h = tt
  named_holds epoch parts (phase.Taking t) h = h
  named_holds epoch parts (phase.Broken e seg) h = tt

  changes : (t : Table) (k : ℕ) (change : SlotPhase → SlotPhase) → ((p : SlotPhase) → Holds p → Holds (change p)) → TableHolds t
      → TableHolds (changed_in t k change (slice_get t k))
  changes t k change one h = by (slice_get t k) (slot_read t k h)
    where
      by : (o : Option SlotPhase) → IfSome o Holds → TableHolds (changed_in t k change o)
      by None here = h
      by (Some p) here = slot_put t k (change p) (one p here) h

  pub table_cleaned : (t : Table) (k : ℕ) → TableHolds t → TableHolds (slot_table_clean t k)
  unfolding slot_table_clean
  table_cleaned t k h = changes t k phase_clean cleaned_holds h

  pub table_named : (t : Table) (k epoch : ℕ) (parts : List SegRef) → TableHolds t → TableHolds (slot_table_name t k epoch parts)
  unfolding slot_table_name
  table_named t k epoch parts h = changes t k (phase_name epoch parts) (named_holds epoch parts) h
