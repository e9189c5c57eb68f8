-- The slots of a manager, 0 to 7: what an event makes of one of them, or of each in order.
use Rattle.std.specs.Prelude.{ℕ, Bool, false, ◌==◌, ◌&&◌, nat_lt, nat_le, if◌then◌else◌, List, [], ◌∷◌, Option, Some, None, map, find, slice_get, slice_set}
use Rattle.std.specs.List.{list_all}
use Rattle.checkpoint.specs.declared.input.In.{In as WriterIn}
use Rattle.checkpoint.specs.declared.input.In.TheVariants.{Begin}
use Rattle.checkpoint.specs.Plan.{plan_of}
use Rattle.group_map.specs.GroupMapState.{GroupMapState}
use Rattle.manager_map.specs.declared.entry.SlotEntry.{SlotEntry}
use Rattle.manager_map.specs.Slots.{manager_map_start, entry_at}
use Rattle.node_base.specs.declared.effects.Effect.{Effect}
use Rattle.node_base.specs.declared.questions.Questions.{Questions}
use Rattle.slot_beliefs.specs.Index.{pages_of}
use Rattle.slot_beliefs.specs.Recalls.{applied_of}
use Rattle.takeover.specs.declared.input.In.{In}
use Rattle.takeover.specs.declared.input.In.TheVariants as input
use Rattle.token_manager.specs.SlotState.{SlotState}
use Rattle.token_manager.specs.Transition.{slot_clean}
use Rattle.wire_msg.specs.declared.cleaning.Check.{Check}
use Rattle.wire_msg.specs.declared.cleaning.UsageAsk.{UsageAsk}
use Rattle.wire_msg.specs.declared.deltas.Deltas.{Deltas}
use Rattle.wire_msg.specs.declared.deltas.Report.{Report}
use Rattle.wire_msg.specs.declared.tokens.Gave.{Gave}
use Rattle.wire_msg.specs.declared.tokens.Want.{Want}
use Rattle.xfs_base.specs.Blocks.{slot_of}
use Rattle.xfs_base.specs.declared.news.SlotNews.{SlotNews}
use Rattle.xfs_base.specs.declared.node.NodeId.{NodeId}
use Rattle.xfs_base.specs.declared.segment.LogId.{LogId}
use Rattle.xfs_base.specs.declared.segment.SegRef.{SegRef}
use Rattle.xfs_base.specs.Steps.{Stepped, still, steps}
use Rattle.manager_slots.specs.declared.slot_phase.Active.{Active}
use Rattle.manager_slots.specs.declared.slot_phase.SlotPhase.{SlotPhase}
use Rattle.manager_slots.specs.declared.slot_takeovers.Ears.{Ears}
use Rattle.manager_slots.specs.declared.slot_phase.SlotPhase.TheVariants as phase
use Rattle.manager_slots.specs.Numbers.{risen}
use Rattle.manager_slots.specs.Slots.{epoch_of, is_active, slot_phase_has_room, fetch_of, first_active}
use Rattle.manager_slots.specs.Takeovers as takeovers
use Rattle.manager_slots.specs.Takeovers.{Asker, asker}
use Rattle.manager_slots.specs.Tokens as tokens
pub use Rattle.xfs_base.specs.Limits.{all_slots}

abbrev pub Table : Type 0
Table = List SlotPhase

-- the slots, and what an event has the manager do
abbrev pub Done : Type 0
Done = Stepped Table Effect

-- the slots, and the number of the manager's last question
pub record TableAsker : Type 0 where
  pub table : Table
  pub questions : Questions

abbrev pub table_asker : Table → Questions → TableAsker
table_asker table questions = record { table = table; questions = questions }

-- these, and what an event has the manager do
abbrev pub Asks : Type 0
Asks = Stepped TableAsker Effect

-- ---- the table

-- at the start of a run each manager manages its slots
abbrev pub first_phase : ℕ → List SlotEntry → ℕ → SlotPhase
first_phase number entries slot = if (entry_at entries (slot_of slot)).manager == number then first_active else phase.Away 1

abbrev pub slot_table_first : ℕ → ℕ → Table
slot_table_first number managers = map (first_phase number (manager_map_start managers)) all_slots

-- nothing is known of any slot
abbrev pub unknown_phase : ℕ → SlotPhase
unknown_phase slot = phase.Away 0

abbrev pub slot_table_unknown : Table
slot_table_unknown = map unknown_phase all_slots

-- each counter is at least 65,536 below its end
abbrev pub slot_table_has_room : Table → Bool
slot_table_has_room table = list_all slot_phase_has_room table

abbrev pub is_active_one : Option SlotPhase → Bool
is_active_one None = false
is_active_one (Some p) = is_active p

-- whether the manager manages a slot
abbrev pub is_active_at : Table → ℕ → Bool
is_active_at table slot = is_active_one (slice_get table slot)

abbrev pub is_next : Table → ℕ → ℕ → Bool
is_next table from slot = nat_le from slot && is_active_at table slot

-- the next slot from a number on that is managed
abbrev pub next_active : Table → ℕ → Option ℕ
next_active table from = find (is_next table from) all_slots

-- ---- one slot

abbrev pub put_at : Table → ℕ → Stepped SlotPhase Effect → Done
put_at table slot d = record { state = slice_set table slot d.state; outs = d.outs }

abbrev pub in_slot : Table → ℕ → (SlotPhase → Stepped SlotPhase Effect) → Option SlotPhase → Done
in_slot table slot event None = still table
in_slot table slot event (Some p) = put_at table slot (event p)

-- an event of one slot
abbrev pub at_slot : Table → ℕ → (SlotPhase → Stepped SlotPhase Effect) → Done
at_slot table slot event = in_slot table slot event (slice_get table slot)

unfoldable pub on_want : Table → ℕ → Want → Done
on_want table client want = at_slot table (slot_of want.block.ino.0) (λ p. tokens.on_want p client want)

unfoldable pub on_gave : Table → ℕ → Gave → Done
on_gave table client gave = at_slot table (slot_of gave.block.ino.0) (λ p. tokens.on_gave p client gave)

unfoldable pub on_deltas : Table → LogId → Deltas → Done
on_deltas table log deltas = at_slot table deltas.slot (λ p. tokens.on_deltas p log deltas)

unfoldable pub on_check : Table → Check → Done
on_check table check = at_slot table (slot_of check.block.ino.0) (λ p. tokens.on_check p check)

abbrev pub usage_in : UsageAsk → Option SlotPhase → List Effect
usage_in asked None = []
usage_in asked (Some p) = tokens.on_usage_ask p asked

unfoldable pub on_usage_ask : Table → UsageAsk → List Effect
on_usage_ask table asked = usage_in asked (slice_get table asked.slot)

-- the recalls of a slot that aren't answered are sent again
unfoldable pub slot_table_recall : Table → ℕ → Done
slot_table_recall table slot = at_slot table slot (λ p. tokens.on_tick p slot)

-- those of all slots
abbrev pub recall_again : Table → Done
recall_again table = steps slot_table_recall table all_slots

-- ---- the takeover of one slot, which may ask

abbrev pub put_asker : TableAsker → ℕ → Stepped Asker Effect → Asks
put_asker a slot d = record { state = record { table = slice_set a.table slot d.state.phase; questions = d.state.questions }; outs = d.outs }

abbrev pub in_taken : TableAsker → ℕ → (Asker → Stepped Asker Effect) → Option SlotPhase → Asks
in_taken a slot event None = still a
in_taken a slot event (Some p) = put_asker a slot (event (asker p a.questions))

abbrev pub at_taken : TableAsker → ℕ → (Asker → Stepped Asker Effect) → Asks
at_taken a slot event = in_taken a slot event (slice_get a.table slot)

-- a takeover takes an input
unfoldable pub slot_table_take : TableAsker → ℕ → In → Asks
slot_table_take a slot given = at_taken a slot (λ one. takeovers.takeovers_take one slot given)

unfoldable pub on_report : TableAsker → NodeId → Report → Asks
on_report a from report = at_taken a report.slot (λ one. takeovers.on_report one from report)

-- what the takeover of a slot asks is asked again: its polls, or all else
unfoldable pub slot_table_ask : Bool → TableAsker → ℕ → Asks
slot_table_ask polls a slot = at_taken a slot (λ one. takeovers.takeovers_ask_again one slot polls)

abbrev pub slot_table_ask_again : Bool → TableAsker → Asks
slot_table_ask_again polls a = steps (slot_table_ask polls) a all_slots

-- newer groups
abbrev pub regroup_one : GroupMapState → TableAsker → ℕ → Asks
regroup_one groups a slot = slot_table_take a slot (input.Maps groups)

abbrev pub slot_table_regroup : GroupMapState → TableAsker → Asks
slot_table_regroup groups a = steps (regroup_one groups) a all_slots

-- who hears of slots, and the groups that it knows
pub record Hearer : Type 0 where
  pub ears : Ears
  pub groups : GroupMapState

abbrev pub hearer : Ears → GroupMapState → Hearer
hearer ears groups = record { ears = ears; groups = groups }

-- a slot has another manager, or has its manager anew: where the epoch is greater, the manager takes it over or leaves it
unfoldable pub hear_of : Hearer → SlotNews → Asker → Stepped Asker Effect
hear_of h news one =
    if nat_lt (epoch_of one.phase) news.epoch
    then takeovers.takeovers_take (record one { phase = takeovers.phase_of h.ears.number news h.groups h.ears.clients }) news.slot input.Tick
    else still one

unfoldable pub slot_table_hear : Hearer → TableAsker → SlotNews → Asks
slot_table_hear h a news = at_taken a news.slot (hear_of h news)

abbrev pub hear_each : Hearer → TableAsker → List SlotNews → Asks
hear_each h a slots = steps (slot_table_hear h) a slots

-- ---- the takeover that is answered

abbrev pub fetch_one : ℕ → Option SlotPhase → Option ℕ
fetch_one ask None = None
fetch_one ask (Some p) = fetch_of p ask

abbrev pub first_fetch : ℕ → Option ℕ → Option (ℕ × ℕ) → Option (ℕ × ℕ)
first_fetch slot None later = later
first_fetch slot (Some own) later = Some (slot, own)

abbrev pub fetch_at : Table → ℕ → ℕ → Option ℕ
fetch_at table ask slot = fetch_one ask (slice_get table slot)

-- the first of these slots whose takeover awaits the answer to a question of the manager's
abbrev pub fetch_among : Table → ℕ → List ℕ → Option (ℕ × ℕ)
fetch_among table ask [] = None
fetch_among table ask (slot ∷ slots) = first_fetch slot (fetch_at table ask slot) (fetch_among table ask slots)

-- ---- checkpoints

-- of each log the first segment that the index of a slot does not cover
abbrev pub next_of : SlotState → ℕ → ℕ
next_of s log = risen (applied_of s.applied log)

-- the logs of the clients and the cleaner
abbrev pub all_logs : List ℕ
all_logs = 1 ∷ 2 ∷ 3 ∷ 4 ∷ 5 ∷ 6 ∷ 7 ∷ 8 ∷ 9 ∷ []

abbrev pub horizon_of : SlotState → List ℕ
horizon_of s = map (next_of s) all_logs

-- what the writer is to write of a slot, by the pages and the horizon of this moment
abbrev pub begin_with : ℕ → Active → WriterIn
begin_with slot a =
    Begin slot a.slot.epoch (plan_of (pages_of a.slot.index) a.parts).pages (plan_of (pages_of a.slot.index) a.parts).parts (horizon_of a.slot)

abbrev pub begin_in : ℕ → SlotPhase → Option WriterIn
begin_in slot (phase.Active a) = Some (begin_with slot a)
begin_in slot (phase.Away epoch) = None
begin_in slot (phase.Taking taking) = None
begin_in slot (phase.Broken epoch seg) = None

abbrev pub begin_one : ℕ → Option SlotPhase → Option WriterIn
begin_one slot None = None
begin_one slot (Some p) = begin_in slot p

abbrev pub begin_at : Table → ℕ → Option WriterIn
begin_at table slot = begin_one slot (slice_get table slot)

-- from there on no page of it has changed
unfoldable pub phase_clean : SlotPhase → SlotPhase
phase_clean (phase.Active a) = phase.Active (record a { slot = slot_clean a.slot })
phase_clean (phase.Away epoch) = phase.Away epoch
phase_clean (phase.Taking taking) = phase.Taking taking
phase_clean (phase.Broken epoch seg) = phase.Broken epoch seg

-- the segments of the checkpoint that was sent last, where it was sent in the epoch of the slot
unfoldable pub phase_name : ℕ → List SegRef → SlotPhase → SlotPhase
phase_name epoch parts (phase.Active a) = if a.slot.epoch == epoch then phase.Active (record a { parts = parts }) else phase.Active a
phase_name epoch parts (phase.Away e) = phase.Away e
phase_name epoch parts (phase.Taking taking) = phase.Taking taking
phase_name epoch parts (phase.Broken e seg) = phase.Broken e seg

abbrev pub changed_in : Table → ℕ → (SlotPhase → SlotPhase) → Option SlotPhase → Table
changed_in table slot change None = table
changed_in table slot change (Some p) = slice_set table slot (change p)

unfoldable pub slot_table_clean : Table → ℕ → Table
slot_table_clean table slot = changed_in table slot phase_clean (slice_get table slot)

unfoldable pub slot_table_name : Table → ℕ → ℕ → List SegRef → Table
slot_table_name table slot epoch parts = changed_in table slot (phase_name epoch parts) (slice_get table slot)
