-- What a manager does in its slots answers no item.
use Rattle.std.proofs.Common.{ℕ, ◌==◌, Bool, List, Option, Some, None, nat_lt, slice_get}
use Rattle.group_map.specs.GroupMapState.{GroupMapState}
use Rattle.manager_slots.specs.declared.slot_phase.SlotPhase.{SlotPhase}
use Rattle.manager_slots.specs.declared.slot_phase.SlotPhase.TheVariants as phase
use Rattle.manager_slots.specs.Slots.{epoch_of}
use Rattle.manager_slots.specs.SlotTable as table
use Rattle.manager_slots.specs.SlotTable.{Hearer, Table, TableAsker, all_slots}
use Rattle.manager_slots.specs.Takeovers as takeovers
use Rattle.manager_slots.specs.Takeovers.{Asker, asker}
use Rattle.manager_slots.specs.Tokens as tokens
use Rattle.node_base.specs.declared.effects.Effect.{Effect}
use Rattle.node_base.specs.declared.questions.Questions.{Questions}
use Rattle.takeover.specs.declared.input.In.{In as TakeIn}
use Rattle.takeover.specs.declared.input.In.TheVariants as take_in
use Rattle.takeover.specs.declared.output.Out.{Out as TakeOut}
use Rattle.takeover.specs.declared.output.Out.TheVariants as take_out
use Rattle.token_manager.specs.declared.input.In.{In as SlotIn}
use Rattle.token_manager.specs.declared.input.In.TheVariants as slot_in
use Rattle.token_manager.specs.declared.output.Out.{Out as SlotOut}
use Rattle.token_manager.specs.declared.output.Out.TheVariants as slot_out
use Rattle.token_manager.specs.Transition.{transition}
use Rattle.wire_msg.specs.declared.cleaning.Check.{Check}
use Rattle.wire_msg.specs.declared.cleaning.UsageAsk.{UsageAsk}
use Rattle.wire_msg.specs.declared.deltas.Deltas.{Deltas}
use Rattle.wire_msg.specs.declared.deltas.Report.{Report}
use Rattle.wire_msg.specs.declared.tokens.Gave.{Gave}
use Rattle.wire_msg.specs.declared.tokens.Want.{Want}
use Rattle.xfs_base.proofs.Booleans.{by_test}
use Rattle.xfs_base.specs.Blocks.{slot_of}
use Rattle.xfs_base.specs.declared.news.SlotNews.{SlotNews}
use Rattle.xfs_base.specs.declared.node.NodeId.{NodeId}
use Rattle.xfs_base.specs.declared.segment.LogId.{LogId}
use Rattle.xfs_base.specs.declared.segment.SegName.{SegName}
use Rattle.xfs_base.specs.Steps.{Stepped, still}
use Rattle.xfs_base.proofs.Alls.{all_flat_map}
use Rattle.serving_moves.proofs.item_moves.Keeping.{all_steps}
use Rattle.serving_moves.specs.item_moves.Moves.{AllPlain, IsPlain}
use Rattle.serving_moves.specs.item_moves.Moves.Losses.{Telling}

-- ---- one slot

said_plain : (slot epoch : ℕ) (o : SlotOut) → AllPlain Telling (tokens.tokens_say slot epoch o)
unfolding tokens.tokens_say
said_plain slot epoch (slot_out.Live entry) = tt
said_plain slot epoch slot_out.Dead = tt
said_plain slot epoch _ = (tt, tt)

takes_plain : (p : SlotPhase) (slot : ℕ) (given : SlotIn) → AllPlain Telling (tokens.tokens_take p slot given).outs
unfolding tokens.tokens_take
takes_plain (phase.Active a) slot given =
    all_flat_map (IsPlain Telling) (tokens.tokens_say slot a.slot.epoch) (said_plain slot a.slot.epoch) (transition a.slot given).outs
takes_plain (phase.Away epoch) slot given = tt
takes_plain (phase.Taking t) slot given = tt
takes_plain (phase.Broken epoch seg) slot given = tt

want_plain : (p : SlotPhase) (client : ℕ) (want : Want) → AllPlain Telling (tokens.on_want p client want).outs
unfolding tokens.on_want
want_plain (phase.Broken epoch seg) client want = (tt, tt)
want_plain (phase.Active a) client want = takes_plain (phase.Active a) (slot_of want.block.ino.0) (tokens.want_input client want)
want_plain (phase.Away epoch) client want = takes_plain (phase.Away epoch) (slot_of want.block.ino.0) (tokens.want_input client want)
want_plain (phase.Taking t) client want = takes_plain (phase.Taking t) (slot_of want.block.ino.0) (tokens.want_input client want)

checked_plain : (check : Check) (epoch : ℕ) (o : SlotOut) → AllPlain Telling (tokens.tokens_answer check epoch o)
unfolding tokens.tokens_answer
checked_plain check epoch o = (tt, tt)

check_plain : (p : SlotPhase) (check : Check) → AllPlain Telling (tokens.on_check p check).outs
unfolding tokens.on_check
check_plain (phase.Active a) check =
    all_flat_map (IsPlain Telling) (tokens.tokens_answer check a.slot.epoch) (checked_plain check a.slot.epoch) (transition a.slot (tokens.check_input check)).outs
check_plain (phase.Away epoch) check = tt
check_plain (phase.Taking t) check = tt
check_plain (phase.Broken epoch seg) check = tt

usage_plain : (p : SlotPhase) (asked : UsageAsk) → AllPlain Telling (tokens.on_usage_ask p asked)
unfolding tokens.on_usage_ask
usage_plain (phase.Active a) asked = (tt, tt)
usage_plain _ asked = tt

-- ---- the table

at_slot_plain : (t : Table) (k : ℕ) (event : SlotPhase → Stepped SlotPhase Effect) → ((p : SlotPhase) → AllPlain Telling (event p).outs)
    → AllPlain Telling (table.at_slot t k event).outs
at_slot_plain t k event each = by (slice_get t k)
  where
    by : (o : Option SlotPhase) → AllPlain Telling (table.in_slot t k event o).outs
    by None = tt
    by (Some p) = each p

pub table_want : (t : Table) (client : ℕ) (want : Want) → AllPlain Telling (table.on_want t client want).outs
unfolding table.on_want
table_want t client want = at_slot_plain t (slot_of want.block.ino.0) (λ p. tokens.on_want p client want) (λ p. want_plain p client want)

pub table_gave : (t : Table) (client : ℕ) (gave : Gave) → AllPlain Telling (table.on_gave t client gave).outs
unfolding table.on_gave
table_gave t client gave =
    at_slot_plain t (slot_of gave.block.ino.0) (λ p. tokens.on_gave p client gave)
    (λ p. takes_plain p (slot_of gave.block.ino.0) (tokens.gave_input client gave))

pub table_deltas : (t : Table) (log : LogId) (deltas : Deltas) → AllPlain Telling (table.on_deltas t log deltas).outs
unfolding table.on_deltas
table_deltas t log deltas =
    at_slot_plain t deltas.slot (λ p. tokens.on_deltas p log deltas) (λ p. takes_plain p deltas.slot (tokens.deltas_input log deltas))

pub table_check : (t : Table) (check : Check) → AllPlain Telling (table.on_check t check).outs
unfolding table.on_check
table_check t check = at_slot_plain t (slot_of check.block.ino.0) (λ p. tokens.on_check p check) (λ p. check_plain p check)

pub table_usage : (t : Table) (asked : UsageAsk) → AllPlain Telling (table.on_usage_ask t asked)
unfolding table.on_usage_ask
table_usage t asked = by (slice_get t asked.slot)
  where
    by : (o : Option SlotPhase) → AllPlain Telling (table.usage_in asked o)
    by None = tt
    by (Some p) = usage_plain p asked

recalls_plain : (t : Table) (k : ℕ) → AllPlain Telling (table.slot_table_recall t k).outs
unfolding table.slot_table_recall
recalls_plain t k = at_slot_plain t k (λ p. tokens.on_tick p k) (λ p. takes_plain p k slot_in.Tick)

pub table_recalls : (t : Table) → AllPlain Telling (table.recall_again t).outs
table_recalls t = all_steps table.slot_table_recall (IsPlain Telling) recalls_plain t all_slots

-- ---- takeovers

fetches_plain : (p : SlotPhase) (q : Questions) (server : ℕ) (name : SegName) (own : ℕ) → AllPlain Telling (takeovers.takeovers_fetch p q server name own).outs
fetches_plain (phase.Taking t) q server name own = (tt, tt)
fetches_plain _ q server name own = tt

says_plain : (slot : ℕ) (a : Asker) (o : TakeOut) → AllPlain Telling (takeovers.takeovers_say slot a o).outs
unfolding takeovers.takeovers_say
says_plain slot a (take_out.Poll to) = (tt, tt)
says_plain slot a (take_out.Fetch server name own) = fetches_plain a.phase a.questions server name own
says_plain slot a (take_out.Active epoch index beliefs applied) = tt
says_plain slot a (take_out.Lost seg) = (tt, tt)

each_plain : (slot : ℕ) (a : Asker) (outs : List TakeOut) → AllPlain Telling (takeovers.say_each slot a outs).outs
unfolding takeovers.say_each
each_plain slot a outs = all_steps (takeovers.takeovers_say slot) (IsPlain Telling) (says_plain slot) a outs

taken_plain : (a : Asker) (slot : ℕ) (given : TakeIn) → AllPlain Telling (takeovers.takeovers_take a slot given).outs
unfolding takeovers.takeovers_take
taken_plain a slot given =
    each_plain slot (record a { phase = (takeovers.outs_of a.phase given).state }) (takeovers.outs_of a.phase given).outs

asked_plain : (a : Asker) (slot : ℕ) (polls : Bool) → AllPlain Telling (takeovers.takeovers_ask_again a slot polls).outs
unfolding takeovers.takeovers_ask_again
asked_plain a slot polls = each_plain slot _ _

report_plain : (a : Asker) (from : NodeId) (report : Report) → AllPlain Telling (takeovers.on_report a from report).outs
report_plain a from report =
    by_test (λ (d : Stepped Asker Effect). AllPlain Telling d.outs) (report.epoch == epoch_of a.phase)
    (takeovers.takeovers_take a report.slot (takeovers.report_input from report)) (still a)
    (λ _. taken_plain a report.slot (takeovers.report_input from report)) (λ _. tt)

at_taken_plain : (a : TableAsker) (slot : ℕ) (event : Asker → Stepped Asker Effect) → ((one : Asker) → AllPlain Telling (event one).outs)
    → AllPlain Telling (table.at_taken a slot event).outs
at_taken_plain a slot event each = by (slice_get a.table slot)
  where
    by : (o : Option SlotPhase) → AllPlain Telling (table.in_taken a slot event o).outs
    by None = tt
    by (Some p) = each (asker p a.questions)

pub table_takes : (a : TableAsker) (slot : ℕ) (given : TakeIn) → AllPlain Telling (table.slot_table_take a slot given).outs
unfolding table.slot_table_take
table_takes a slot given = at_taken_plain a slot (λ one. takeovers.takeovers_take one slot given) (λ one. taken_plain one slot given)

pub table_report : (a : TableAsker) (from : NodeId) (report : Report) → AllPlain Telling (table.on_report a from report).outs
unfolding table.on_report
table_report a from report = at_taken_plain a report.slot (λ one. takeovers.on_report one from report) (λ one. report_plain one from report)

asks_plain : (polls : Bool) (a : TableAsker) (slot : ℕ) → AllPlain Telling (table.slot_table_ask polls a slot).outs
unfolding table.slot_table_ask
asks_plain polls a slot = at_taken_plain a slot (λ one. takeovers.takeovers_ask_again one slot polls) (λ one. asked_plain one slot polls)

pub table_asks : (polls : Bool) (a : TableAsker) → AllPlain Telling (table.slot_table_ask_again polls a).outs
table_asks polls a = all_steps (table.slot_table_ask polls) (IsPlain Telling) (asks_plain polls) a all_slots

regroups_plain : (groups : GroupMapState) (a : TableAsker) (slot : ℕ) → AllPlain Telling (table.regroup_one groups a slot).outs
regroups_plain groups a slot = table_takes a slot (take_in.Maps groups)

pub table_regroups : (groups : GroupMapState) (a : TableAsker) → AllPlain Telling (table.slot_table_regroup groups a).outs
table_regroups groups a = all_steps (table.regroup_one groups) (IsPlain Telling) (regroups_plain groups) a all_slots

hear_of_plain : (h : Hearer) (news : SlotNews) (one : Asker) → AllPlain Telling (table.hear_of h news one).outs
unfolding table.hear_of
hear_of_plain h news one =
    by_test (λ (d : Stepped Asker Effect). AllPlain Telling d.outs) (nat_lt (epoch_of one.phase) news.epoch) _ (still one) (λ _. taken_plain _ news.slot take_in.Tick)
    (λ _. tt)

hears_plain : (h : Hearer) (a : TableAsker) (news : SlotNews) → AllPlain Telling (table.slot_table_hear h a news).outs
unfolding table.slot_table_hear
hears_plain h a news = at_taken_plain a news.slot (table.hear_of h news) (hear_of_plain h news)

pub table_hears : (h : Hearer) (a : TableAsker) (slots : List SlotNews) → AllPlain Telling (table.hear_each h a slots).outs
table_hears h a slots = all_steps (table.slot_table_hear h) (IsPlain Telling) (hears_plain h) a slots
