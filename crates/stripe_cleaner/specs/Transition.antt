-- What a job of the cleaner does at each input: one definition for each, named for it (the 1996 paper, "The Log Cleaner").
use Rattle.std.specs.Prelude.{ℕ, Bool, true, false, List, [], ◌∷◌, Option, ◌==◌, ◌&&◌, nat_lt, map, length, if◌then◌else◌}
use Rattle.std.specs.Ordering.{nat_cmp}
use Rattle.std.specs.Map.{remove_entry}
use Rattle.std.specs.BTreeMap.{is_at, insert_entry}
use Rattle.group_map.specs.GroupMapState.{GroupMapState}
use Rattle.segment_format.specs.declared.segment.Segment.{Segment}
use Rattle.xfs_base.specs.declared.block.BlockId.{BlockId}
use Rattle.xfs_base.specs.declared.entry.Entry.{Entry}
use Rattle.xfs_base.specs.declared.fragment.FragMeta.{FragMeta}
use Rattle.xfs_base.specs.declared.news.SlotNews.{SlotNews}
use Rattle.xfs_base.specs.declared.segment.SegName.{SegName}
use Rattle.xfs_base.specs.Blocks.{slot_of}
use Rattle.xfs_base.specs.Limits.{u32_end, slot_count}
use Rattle.xfs_base.specs.Steps.{Stepped, still}
use Rattle.stripe_cleaner.specs.declared.checks.Check.{Check}
use Rattle.stripe_cleaner.specs.declared.input.In.{In}
use Rattle.stripe_cleaner.specs.declared.input.In.TheVariants as input
use Rattle.stripe_cleaner.specs.declared.output.Out.{Out}
use Rattle.stripe_cleaner.specs.declared.output.Out.TheVariants as out
use Rattle.stripe_cleaner.specs.declared.phase.Phase.{Phase}
use Rattle.stripe_cleaner.specs.declared.phase.Phase.TheVariants.{Greeting, Listing, Counting, Reading, Checking, Deleting, Over}
use Rattle.stripe_cleaner.specs.Candidates.{candidates_with}
use Rattle.stripe_cleaner.specs.Checks.{live_at, dead_at, questions}
use Rattle.stripe_cleaner.specs.CleaningState.{CleaningState}
use Rattle.stripe_cleaner.specs.Counting.{CountingState, all_slots, has_usage, is_counted, awaited_slots, chosen}
use Rattle.stripe_cleaner.specs.Job as job
use Rattle.stripe_cleaner.specs.Job.{Turn, next, deletes}
use Rattle.stripe_cleaner.specs.JobState.{JobState}
use Rattle.stripe_cleaner.specs.Listing.{ListingState, listing_begin, is_among, without}
use Rattle.stripe_cleaner.specs.Promises.{is_promised, is_above, promised_with, promised_of}

abbrev pub Done : Type 0
Done = Stepped CleaningState Out

-- the phase is changed, and nothing else
abbrev pub turned : CleaningState → Turn → Done
turned s turn = record { state = record s { phase = turn.state }; outs = turn.outs }

-- ---- the maps

abbrev pub lists : List ℕ → List Out
lists servers = map (λ server. out.List server) servers

abbrev pub usage_asks : List ℕ → List Out
usage_asks slots = map (λ slot. out.UsageAsk slot) slots

abbrev pub is_greeting : Phase → Bool
is_greeting Greeting = true
is_greeting phase = false

abbrev pub welcomed : CleaningState → List SlotNews → GroupMapState → Done
welcomed s slots groups = record {
  state = record s { promised = promised_of slots s.promised; phase = Listing (listing_begin slots groups) };
  outs = lists (listing_begin slots groups).awaited;
}

-- Welcome: all servers are asked for what they hold.
unfoldable pub on_welcome : CleaningState → List SlotNews → GroupMapState → Done
on_welcome s slots groups = if is_greeting s.phase && (length slots == slot_count) then welcomed s slots groups else still s

abbrev pub forgotten : ℕ → CountingState → CountingState
forgotten slot c = record c { usages = remove_entry (is_at (nat_cmp slot)) c.usages }

-- counts of a slot that are in are forgotten, and asked for again
abbrev pub forgetting : ℕ → Phase → Turn
forgetting slot (Counting c) =
    if has_usage c.usages slot then record { state = Counting (forgotten slot c); outs = out.UsageAsk slot ∷ [] } else still (Counting c)
forgetting slot phase = still phase

-- Promise: a greater epoch of a slot is promised.
unfoldable pub on_promise : CleaningState → ℕ → ℕ → Done
on_promise s slot epoch =
    if is_above s.promised slot epoch then turned (record s { promised = promised_with s.promised slot epoch }) (forgetting slot s.phase) else still s

abbrev pub job_with : GroupMapState → JobState → JobState
job_with groups j = record j { groups = groups }

abbrev pub mapped : GroupMapState → Phase → Phase
mapped groups (Listing l) = Listing (record l { groups = groups })
mapped groups (Counting c) = Counting (record c { groups = groups })
mapped groups (Reading j segment) = Reading (job_with groups j) segment
mapped groups (Checking j segment checks) = Checking (job_with groups j) segment checks
mapped groups (Deleting j segment servers) = Deleting (job_with groups j) segment servers
mapped groups phase = phase

-- ---- the choice

-- once all lists are in, all slots are asked for their counts
abbrev pub listing_go_on : ListingState → Turn
listing_go_on l =
    if length l.awaited == 0 then record {
      state = Counting (record { groups = l.groups; candidates = l.candidates; usages = [] });
      outs = usage_asks all_slots;
    }
    else still (Listing l)

abbrev pub listing_hear : ListingState → ℕ → List FragMeta → ListingState
listing_hear l server held = record l { awaited = without l.awaited server; candidates = candidates_with l.slots held l.candidates }

abbrev pub on_list : ℕ → List FragMeta → ListingState → Turn
on_list server held l = if is_among l.awaited server then listing_go_on (listing_hear l server held) else still (Listing l)

-- once all counts are in, the least full candidates are emptied, in order
abbrev pub counting_go_on : ℕ → CountingState → Turn
counting_go_on count c = if is_counted c.usages then next (record { groups = c.groups; left = chosen count c; deleted = 0 }) else still (Counting c)

abbrev pub counting_hear : ℕ → List (SegName × ℕ) → CountingState → CountingState
counting_hear slot counts c = record c { usages = insert_entry nat_cmp c.usages slot counts }

abbrev pub on_counts : ℕ → ℕ → List (SegName × ℕ) → CountingState → Turn
on_counts count slot counts c = if has_usage c.usages slot then still (Counting c) else counting_go_on count (counting_hear slot counts c)

-- ---- each input in the phase that awaits it; in the others it changes nothing

abbrev pub listed_in : ℕ → List FragMeta → Phase → Turn
listed_in server held (Listing l) = on_list server held l
listed_in server held phase = still phase

abbrev pub counted_in : ℕ → ℕ → List (SegName × ℕ) → Phase → Turn
counted_in count slot counts (Counting c) = on_counts count slot counts c
counted_in count slot counts phase = still phase

abbrev pub read_in : Option Segment → Phase → Turn
read_in read (Reading j segment) = job.on_read read j segment
read_in read phase = still phase

abbrev pub answered_in : (Check → Check) → Phase → Turn
answered_in answer (Checking j segment checks) = job.on_answer answer j segment checks
answered_in answer phase = still phase

abbrev pub moved_in : Phase → Turn
moved_in (Checking j segment checks) = job.on_moved j segment checks
moved_in phase = still phase

abbrev pub deleted_in : ℕ → SegName → Phase → Turn
deleted_in server name (Deleting j segment servers) = job.on_deleted server name j segment servers
deleted_in server name phase = still phase

-- Tick: what is awaited is asked for again; a move is repeated by the log.
abbrev pub phase_asking : Phase → List Out
phase_asking Greeting = out.Hello ∷ []
phase_asking (Listing l) = lists l.awaited
phase_asking (Counting c) = usage_asks (awaited_slots c.usages)
phase_asking (Reading j segment) = out.Fetch segment ∷ []
phase_asking (Checking j segment checks) = questions segment checks
phase_asking (Deleting j segment servers) = deletes segment.name servers
phase_asking Over = []

-- ---- all inputs

abbrev pub on_listed : CleaningState → ℕ → List FragMeta → Done
on_listed s server held = turned s (listed_in server held s.phase)

-- Usage: counts of the promised epoch are kept, the first of a slot.
unfoldable pub on_usage : CleaningState → ℕ → ℕ → List (SegName × ℕ) → Done
on_usage s slot epoch counts = if is_promised s.promised slot epoch then turned s (counted_in s.count slot counts s.phase) else still s

abbrev pub on_read : CleaningState → Option Segment → Done
on_read s read = turned s (read_in read s.phase)

-- whether an answer of a block in an epoch counts
abbrev pub cleaning_hears : List ℕ → BlockId → ℕ → Bool
cleaning_hears promised block epoch = is_promised promised (slot_of block.ino.0) epoch

-- whether an entry's count of moves has one after it
abbrev pub may_move : Entry → Bool
may_move entry = nat_lt entry.hop u32_end

-- Live, in the promised epoch.
unfoldable pub on_live : CleaningState → BlockId → ℕ → Entry → Done
on_live s block epoch entry = if cleaning_hears s.promised block epoch && may_move entry then turned s (answered_in (live_at block entry) s.phase) else still s

-- Dead, in the promised epoch.
unfoldable pub on_dead : CleaningState → BlockId → ℕ → Done
on_dead s block epoch = if cleaning_hears s.promised block epoch then turned s (answered_in (dead_at block) s.phase) else still s

-- what each input makes of a job
abbrev pub transition : CleaningState → In → Done
transition s (input.Welcome slots groups) = on_welcome s slots groups
transition s (input.Promise slot epoch) = on_promise s slot epoch
transition s (input.Maps groups) = still (record s { phase = mapped groups s.phase })
transition s (input.Listed server held) = on_listed s server held
transition s (input.Usage slot epoch counts) = on_usage s slot epoch counts
transition s (input.Read read) = on_read s read
transition s (input.Live block epoch entry) = on_live s block epoch entry
transition s (input.Dead block epoch) = on_dead s block epoch
transition s input.Moved = turned s (moved_in s.phase)
transition s (input.Deleted server name) = turned s (deleted_in server name s.phase)
transition s input.Tick = record { state = s; outs = phase_asking s.phase }
