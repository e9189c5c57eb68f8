-- What a slot does on each input: one definition for each kind of input, and transition, which is all of them.
use Rattle.std.specs.Prelude.{ℕ, ◌+◌, ◌^◌, Bool, false, not, ◌&&◌, ◌||◌, ◌==◌, nat_lt, nat_le, List, [], ◌∷◌, length, Option, Some, None, if◌then◌else◌, is_some}
use Rattle.std.specs.List.{list_any}
use Rattle.std.specs.BTreeMap.{insert_entry}
use Rattle.xfs_base.specs.Blocks.{block_cmp}
use Rattle.xfs_base.specs.Segments.{same_segment}
use Rattle.xfs_base.specs.Steps.{Stepped, still, saying, steps}
use Rattle.xfs_base.specs.declared.block.BlockId.{BlockId}
use Rattle.xfs_base.specs.declared.entry.Entry.{Entry}
use Rattle.xfs_base.specs.declared.entry.Place.{Place}
use Rattle.xfs_base.specs.declared.segment.LogId.{LogId}
use Rattle.xfs_base.specs.declared.token.Mode.{Mode}
use Rattle.xfs_base.specs.declared.token.Stamp.{Stamp}
use Rattle.delta_index.specs.Index.{entry_of}
use Rattle.xfs_base.specs.Modes.{is_own, is_nothing}
use Rattle.slot_beliefs.specs.declared.job.Wanted.{Wanted}
use Rattle.slot_beliefs.specs.declared.job.Awaited.{Awaited}
use Rattle.slot_beliefs.specs.declared.job.Job.{Job}
use Rattle.slot_beliefs.specs.Beliefs.{holder, others, meet_want, give_way, all_believed}
use Rattle.slot_beliefs.specs.Index.{block_index_new, block_index_clean, merge_all, has_room}
use Rattle.slot_beliefs.specs.Recalls.{stamp, recalls, answers, noted, applied_of, is_ready, ready_blocks, job_at, without_job, is_followed, applied_upto}
use Rattle.token_manager.specs.declared.output.Out.{Out}
use Rattle.token_manager.specs.declared.output.Out.TheVariants.{Grant, Forward, Applied, Live, Dead}
use Rattle.token_manager.specs.declared.input.In.{In}
use Rattle.token_manager.specs.declared.input.In.TheVariants.{Want, Gave, Deltas, Check, Tick}
use Rattle.token_manager.specs.Recalls.{send_recalls, send_all}
use Rattle.token_manager.specs.SlotState.{SlotState}

-- a state of a slot, and what was sent on the way to it
abbrev pub Done : Type 0
Done = Stepped SlotState Out

-- a slot that starts with this index, these beliefs and this much of each log
abbrev pub slot_start : ℕ → List (BlockId × Entry) → List (BlockId × ℕ × Mode) → List ℕ → SlotState
slot_start epoch index beliefs applied = record {
  epoch = epoch;
  index = merge_all block_index_new index;
  beliefs = all_believed [] beliefs;
  jobs = [];
  turn = 0;
  applied = applied;
}

-- from here on no page of the index has changed
abbrev pub slot_clean : SlotState → SlotState
slot_clean s = record s { index = block_index_clean s.index }

-- whether so many more turns can be given out
abbrev pub has_turns : ℕ → ℕ → Bool
has_turns turn n = nat_lt (turn + n) (2 ^ 64)

abbrev pub entry_at : SlotState → BlockId → Entry
entry_at s block = entry_of s.index.rows block

-- the next turn, as a stamp
abbrev pub next_stamp : SlotState → Stamp
next_stamp s = stamp s.epoch (s.turn + 1)

-- ---- a want that waits no longer

-- the clients that could pass a copy on: none to one that wants to write, or that asks again
abbrev pub passers : SlotState → Wanted → List ℕ
passers s want = if is_own want.mode || not (want.again == 0) then [] else others s.beliefs want.block want.client false

-- a word to the lowest client that can pass its copy on, else a grant of what the index holds now
abbrev pub answer : SlotState → Wanted → List ℕ → Out
answer s want [] = Grant want.client want.block (next_stamp s) want.inc want.req want.mode (entry_at s want.block)
answer s want (c ∷ cs) = Forward c want.block (next_stamp s) want.client want.inc want.req (entry_at s want.block).ver

-- the want is answered under a new turn, and the asker is believed to have what it wants
abbrev pub slot_finish : SlotState → Wanted → Done
slot_finish s want = record {
  state = record s { beliefs = meet_want s.beliefs want; turn = s.turn + 1 };
  outs = answer s want (passers s want) ∷ [];
}

-- where no turn is left, nothing
abbrev pub finish : SlotState → Wanted → Done
finish s want = if has_turns s.turn 1 then slot_finish s want else still s

-- ---- want

-- the want waits; each of these clients gets a recall under a turn of its own
abbrev pub recalled : SlotState → Wanted → List ℕ → Done
recalled s want clients = record {
  state = record s {
    jobs = insert_entry block_cmp s.jobs want.block
        (record { want = want; awaited = recalls s.epoch s.turn (not (is_own want.mode)) clients });
    turn = s.turn + length clients;
  };
  outs = send_recalls want.block (recalls s.epoch s.turn (not (is_own want.mode)) clients);
}

-- where too few turns are left, nothing
abbrev pub recall : SlotState → Wanted → List ℕ → Done
recall s want clients = if has_turns s.turn (length clients) then recalled s want clients else still s

-- the block is recalled from these clients; where there are none, the want need not wait
abbrev pub recall_or_finish : SlotState → Wanted → List ℕ → Done
recall_or_finish s want clients = if length clients == 0 then finish s want else recall s want clients

-- whether a want is dropped: it wants nothing, another one waits for the block, or the asker's own log
-- isn't applied up to the end that it names
abbrev pub is_dropped : SlotState → Wanted → ℕ → Bool
is_dropped s want end = is_nothing want.mode || is_some (job_at s.jobs want.block) || nat_lt (applied_of s.applied want.client) end

-- a client wants a block (the 1996 paper, "Cache Consistency"): to read it, the other owner gives way and keeps
-- a copy; to write it, all other holders give it up
abbrev pub on_want : SlotState → Wanted → ℕ → Done
on_want s want end = if is_dropped s want end then still s else recall_or_finish s want (others s.beliefs want.block want.client (not (is_own want.mode)))

-- ---- gave

-- a client has given a block up
abbrev pub given : SlotState → Wanted → ℕ → BlockId → SlotState
given s want client block = record s { beliefs = give_way s.beliefs (holder block client) (not (is_own want.mode)) }

-- the want need wait no longer; where no turn is left, nothing, and the answer isn't noted either
abbrev pub gave_last : SlotState → ℕ → BlockId → Wanted → Done
gave_last s client block want = if has_turns s.turn 1 then slot_finish (record (given s want client block) { jobs = without_job s.jobs block }) want else still s

-- the recalls, with the answer noted; the want goes on waiting
abbrev pub gave_one : SlotState → ℕ → BlockId → Wanted → List Awaited → SlotState
gave_one s client block want awaited =
    record (given s want client block) { jobs = insert_entry block_cmp s.jobs block (record { want = want; awaited = awaited }) }

unfoldable pub gave_noted : SlotState → ℕ → BlockId → Wanted → List Awaited → Done
gave_noted s client block want awaited = if is_ready s.applied awaited then gave_last s client block want else still (gave_one s client block want awaited)

-- only the answer to an unanswered recall of the want counts
abbrev pub gave_job : SlotState → ℕ → BlockId → Stamp → ℕ → Option Job → Done
gave_job s client block stamp end None = still s
gave_job s client block stamp end (Some job) =
    if list_any (answers client stamp) job.awaited then gave_noted s client block job.want (noted job.awaited client stamp end) else still s

-- a client gave a block up, as it was asked to
abbrev pub on_gave : SlotState → ℕ → BlockId → Stamp → ℕ → Done
on_gave s client block stamp end = gave_job s client block stamp end (job_at s.jobs block)

-- ---- deltas

abbrev pub finished_job : SlotState → BlockId → Option Job → Done
finished_job s block None = still s
finished_job s block (Some job) = slot_finish (record s { jobs = without_job s.jobs block }) job.want

-- the want that waits for this block is answered
unfoldable pub finish_job : SlotState → BlockId → Done
finish_job s block = finished_job s block (job_at s.jobs block)

-- the rows are merged in their order, the counts follow, and so much of the log is applied
abbrev pub with_deltas : SlotState → LogId → ℕ → List (BlockId × Entry) → SlotState
with_deltas s log upto rows = record s { index = merge_all s.index rows; applied = applied_upto s.applied log upto }

-- the log learns how much is applied, and then the wants that need wait no longer are answered, in order
-- of blocks
abbrev pub apply : SlotState → LogId → ℕ → List (BlockId × Entry) → Done
apply s log upto rows = saying (Applied log upto ∷ []) (steps finish_job (with_deltas s log upto rows) (ready_blocks s.jobs (applied_upto s.applied log upto)))

-- whether turns are left for the wants that would be answered, and counts can rise by the rows
abbrev pub can_apply : SlotState → LogId → ℕ → List (BlockId × Entry) → Bool
can_apply s log upto rows =
    has_turns s.turn (length (ready_blocks s.jobs (applied_upto s.applied log upto))) && has_room (length rows) s.index.usage rows

-- where one could not rise, nothing
abbrev pub slot_apply : SlotState → LogId → ℕ → List (BlockId × Entry) → Done
slot_apply s log upto rows = if can_apply s log upto rows then apply s log upto rows else still s

-- whether deltas join on to what is applied of their log, and lead beyond it
abbrev pub joins_on : ℕ → ℕ → ℕ → Bool
joins_on applied first upto = nat_le first (applied + 1) && nat_lt applied upto

-- how much of a log is applied, and nothing else
abbrev pub told_applied : SlotState → LogId → Done
told_applied s log = record { state = s; outs = Applied log (applied_of s.applied log.0) ∷ [] }

-- deltas of a log that the slot follows
abbrev pub deltas_of : SlotState → LogId → ℕ → ℕ → List (BlockId × Entry) → Done
deltas_of s log first upto rows = if joins_on (applied_of s.applied log.0) first upto then slot_apply s log upto rows else told_applied s log

-- a log tells where blocks lie
abbrev pub on_deltas : SlotState → LogId → ℕ → ℕ → List (BlockId × Entry) → Done
on_deltas s log first upto rows = if is_followed log then deltas_of s log first upto rows else still s

-- ---- check and tick

-- whether a place is this one
abbrev pub is_place : Option Place → Place → Bool
is_place None place = false
is_place (Some known) place = same_segment known.seg place.seg && (known.item == place.item)

-- whether an entry lies at a place
abbrev pub found : Entry → Place → Out
found entry place = if is_place entry.place place then Live entry else Dead

-- the cleaner asks whether a block lives at a place (the 1996 paper, "Cleaning")
abbrev pub on_check : SlotState → BlockId → Place → Done
on_check s block place = record { state = s; outs = found (entry_at s block) place ∷ [] }

-- each recall that isn't answered is sent again, under its stamp
abbrev pub on_tick : SlotState → Done
on_tick s = record { state = s; outs = send_all s.jobs }

-- ---- all

-- a want by its parts
abbrev pub want_of : ℕ → BlockId → ℕ → ℕ → ℕ → Mode → Wanted
want_of client block inc req again mode = record { client = client; block = block; inc = inc; req = req; again = again; mode = mode }

-- what a slot does on an input
abbrev pub transition : SlotState → In → Done
transition s (Want want end) = on_want s want end
transition s (Gave client block stamp end) = on_gave s client block stamp end
transition s (Deltas log first upto rows) = on_deltas s log first upto rows
transition s (Check block place) = on_check s block place
transition s Tick = on_tick s
