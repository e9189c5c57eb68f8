-- What a job of the cleaner has the node do, at each input: what it has moved is moved from where it was told to lie.
use Rattle.std.proofs.Common.{ℕ, ◌==◌, ◌&&◌, Bool, not, List, [], ◌∷◌, map, Option, Some, None, length}
use Rattle.std.specs.Prelude.{IfSome}
use Rattle.std.specs.List.{AllByRecursion}
use Rattle.segment_format.specs.declared.segment.Segment.{Segment}
use Rattle.stripe_cleaner.specs.Checks.{checks_of, live_at, dead_at, moved_at, all_dead, any_asked, is_awaited, question, questions, move_of, moves}
use Rattle.stripe_cleaner.specs.CleaningState.{CleaningState}
use Rattle.stripe_cleaner.specs.Counting.{has_usage, is_counted, all_slots, awaited_slots}
use Rattle.stripe_cleaner.specs.declared.checks.Check.{Check}
use Rattle.stripe_cleaner.specs.declared.checks.Fate.{Fate}
use Rattle.stripe_cleaner.specs.declared.checks.Fate.TheVariants.{Live}
use Rattle.stripe_cleaner.specs.declared.input.In.{In}
use Rattle.stripe_cleaner.specs.declared.input.In.TheVariants as input
use Rattle.stripe_cleaner.specs.declared.output.Out.{Out}
use Rattle.stripe_cleaner.specs.declared.output.Out.TheVariants as out
use Rattle.stripe_cleaner.specs.declared.phase.Phase.{Phase}
use Rattle.stripe_cleaner.specs.declared.phase.Phase.TheVariants.{Greeting, Listing, Counting, Reading, Checking, Deleting, Over}
use Rattle.stripe_cleaner.specs.Job as job
use Rattle.stripe_cleaner.specs.Job.{Turn, next, next_of, counted, job_go_on, same_name, job_delete, job_check, job_look, is_moving}
use Rattle.stripe_cleaner.specs.JobState.{JobState}
use Rattle.stripe_cleaner.specs.Listing.{listing_begin, is_among, without}
use Rattle.stripe_cleaner.specs.Transition as steps
use Rattle.stripe_cleaner.specs.Transition.{Done, on_welcome, on_promise, forgetting, listing_go_on, listed_in, counted_in, counting_hear, read_in, answered_in, moved_in, deleted_in, on_usage, on_live, on_dead, cleaning_hears, may_move, welcomed, is_greeting, listing_hear, transition}
use Rattle.stripe_cleaner.specs.Promises.{is_above, is_promised}
use Rattle.xfs_base.proofs.Booleans.{by_test}
use Rattle.xfs_base.specs.declared.block.BlockId.{BlockId}
use Rattle.xfs_base.specs.declared.entry.Entry.{Entry}
use Rattle.xfs_base.specs.declared.fragment.FragMeta.{FragMeta}
use Rattle.xfs_base.specs.declared.segment.SegName.{SegName}
use Rattle.xfs_base.specs.declared.segment.SegRef.{SegRef}
use Rattle.xfs_base.specs.Steps.{still}
use Rattle.xfs_base.proofs.Alls.{all_each, all_map}
use Rattle.node_tellings.specs.entry_tie.CleanerTells.{MovedTold, FateTold, CheckTold, CheckingTold}
use Rattle.node_tellings.specs.entry_tie.Told.{Told}
use Rattle.node_tellings.proofs.entry_tie.Frames.{all_filter_map}
use Rattle.node_tellings.proofs.entry_tie.CleanerChecks.{InputTold, Checks, live_told, dead_told, all_mapped}

-- ---- what it has the node do

-- a block that is to be moved is moved from where it is told
abbrev pub BlockMoved : Told → BlockId × Entry × Option (List ℕ) → Type 0
BlockMoved told one = MovedTold told one.0 one.1

abbrev pub OutMoved : Told → Out → Type 0
OutMoved told (out.Move blocks) = AllByRecursion (BlockMoved told) blocks
OutMoved told _ = Unit {0}

module _ (told : Told) where
  abbrev Outs : List Out → Type 0
  Outs outs = AllByRecursion (OutMoved told) outs

  abbrev GivesSo : Turn → Type 0
  GivesSo t = Outs t.outs

  -- ---- lists of words

  lists_out : (servers : List ℕ) → Outs (steps.lists servers)
  lists_out servers = all_map (OutMoved told) (λ server. out.List server) (λ server. tt) servers

  usages_out : (slots : List ℕ) → Outs (steps.usage_asks slots)
  usages_out slots = all_map (OutMoved told) (λ slot. out.UsageAsk slot) (λ slot. tt) slots

  deletes_out : (name : SegName) (servers : List ℕ) → Outs (job.deletes name servers)
  deletes_out name servers = all_map (OutMoved told) (λ server. out.Delete server name) (λ server. tt) servers

  one_question : (segment : SegRef) (c : Check) → Unit {0} → IfSome (question segment c) (OutMoved told)
  one_question segment c any = by_test (λ (o : Option Out). IfSome o (OutMoved told)) (is_awaited c.fate) _ None (λ t. tt) (λ t. tt)

  questions_out : (segment : SegRef) (checks : List Check) → Outs (questions segment checks)
  questions_out segment checks =
      all_filter_map (OutMoved told) (λ c. Unit {0}) (question segment) (one_question segment) checks (all_each (λ c. Unit {0}) (λ c. tt) checks)

  one_move : (block : BlockId) (fate : Fate) → FateTold told block fate → IfSome (move_of block fate) (BlockMoved told)
  one_move block (Live e value) h = h
  one_move block _ h = tt

  moves_told : (checks : List Check) → Checks told checks → AllByRecursion (BlockMoved told) (moves checks)
  moves_told checks all = all_filter_map (BlockMoved told) (CheckTold told) (λ c. move_of c.block c.fate) (λ c. one_move c.block c.fate) checks all

  -- ---- the segment in hand

  next_gives : (j : JobState) → GivesSo (next j)
  next_gives j = by j.left
    where
      by : (left : List SegRef) → GivesSo (next_of left j)
      by [] = (tt, tt)
      by (segment ∷ left) = (tt, tt)

  deleting_gives : (j : JobState) (segment : SegRef) → GivesSo (job_delete j segment)
  deleting_gives j segment = deletes_out segment.name (job.servers_of j.groups segment)

  checking_gives : (j : JobState) (segment : SegRef) (checks : List Check) → GivesSo (job_check j segment checks)
  unfolding job_check
  checking_gives j segment checks = by_test GivesSo (all_dead checks) (job_delete j segment) _ (λ t. deleting_gives j segment) (λ t. questions_out segment checks)

  looked_gives : (j : JobState) (segment : SegRef) (was_asked : Bool) (checks : List Check) → Checks told checks
      → GivesSo (job_look j segment was_asked checks)
  unfolding job_look
  looked_gives j segment was_asked checks all =
      by_test GivesSo (all_dead checks) (job_delete j segment) _ (λ t. deleting_gives j segment)
      (λ t. by_test GivesSo (was_asked && not (any_asked checks)) _ _ (λ u. (moves_told checks all, tt)) (λ u. tt))

  -- ---- each phase

  forgetting_gives : (slot : ℕ) (p : Phase) → GivesSo (forgetting slot p)
  forgetting_gives slot (Counting c) = by_test GivesSo (has_usage c.usages slot) _ (still (Counting c)) (λ t. (tt, tt)) (λ t. tt)
  forgetting_gives slot _ = tt

  listed_gives : (server : ℕ) (held : List FragMeta) (p : Phase) → GivesSo (listed_in server held p)
  listed_gives server held (Listing l) =
      by_test GivesSo (is_among l.awaited server) (listing_go_on (listing_hear l server held)) (still (Listing l))
      (λ t. by_test GivesSo (length (listing_hear l server held).awaited == 0) _ _ (λ u. usages_out all_slots) (λ u. tt)) (λ t. tt)
  listed_gives server held (Counting c) = tt
  listed_gives server held Greeting = tt
  listed_gives server held (Reading j segment) = tt
  listed_gives server held (Checking j segment checks) = tt
  listed_gives server held (Deleting j segment servers) = tt
  listed_gives server held Over = tt

  counted_gives : (count slot : ℕ) (counts : List (SegName × ℕ)) (p : Phase) → GivesSo (counted_in count slot counts p)
  counted_gives count slot counts (Counting c) =
      by_test GivesSo (has_usage c.usages slot) (still (Counting c)) (steps.counting_go_on count (counting_hear slot counts c)) (λ t. tt)
      (λ t. by_test GivesSo (is_counted (counting_hear slot counts c).usages) _ _ (λ u. next_gives _) (λ u. tt))
  counted_gives count slot counts (Listing l) = tt
  counted_gives count slot counts Greeting = tt
  counted_gives count slot counts (Reading j segment) = tt
  counted_gives count slot counts (Checking j segment checks) = tt
  counted_gives count slot counts (Deleting j segment servers) = tt
  counted_gives count slot counts Over = tt

  read_gives : (read : Option Segment) (p : Phase) → GivesSo (read_in read p)
  read_gives None (Reading j segment) = next_gives j
  read_gives (Some read) (Reading j segment) =
      by_test GivesSo (same_name read.name segment.name) (job_check j segment (checks_of 0 read.items)) (still (Reading j segment))
      (λ t. checking_gives j segment (checks_of 0 read.items)) (λ t. tt)
  read_gives read (Counting c) = tt
  read_gives read (Listing l) = tt
  read_gives read Greeting = tt
  read_gives read (Checking j segment checks) = tt
  read_gives read (Deleting j segment servers) = tt
  read_gives read Over = tt

  answered_gives : (f : Check → Check) → ((c : Check) → CheckTold told c → CheckTold told (f c)) → (p : Phase) → CheckingTold told p → GivesSo (answered_in f p)
  answered_gives f each (Checking j segment checks) h = looked_gives j segment (any_asked checks) (map f checks) (all_mapped told f each checks h)
  answered_gives f each _ h = tt

  moved_gives : (p : Phase) → GivesSo (moved_in p)
  moved_gives (Checking j segment checks) =
      by_test GivesSo (is_moving checks) _ (still (Checking j segment checks)) (λ t. questions_out segment (map moved_at checks)) (λ t. tt)
  moved_gives (Counting c) = tt
  moved_gives (Listing l) = tt
  moved_gives Greeting = tt
  moved_gives (Reading j segment) = tt
  moved_gives (Deleting j segment servers) = tt
  moved_gives Over = tt

  deleted_gives : (server : ℕ) (name : SegName) (p : Phase) → GivesSo (deleted_in server name p)
  deleted_gives server name (Deleting j segment servers) =
      by_test GivesSo (same_name name segment.name && is_among servers server) (job_go_on j segment (without servers server))
      (still (Deleting j segment servers))
      (λ t. by_test GivesSo (length (without servers server) == 0) (next (counted j)) _ (λ u. next_gives (counted j)) (λ u. tt)) (λ t. tt)
  deleted_gives server name (Checking j segment checks) = tt
  deleted_gives server name (Counting c) = tt
  deleted_gives server name (Listing l) = tt
  deleted_gives server name Greeting = tt
  deleted_gives server name (Reading j segment) = tt
  deleted_gives server name Over = tt

  awaits_out : (p : Phase) → Outs (steps.phase_asking p)
  awaits_out Greeting = (tt, tt)
  awaits_out (Listing l) = lists_out l.awaited
  awaits_out (Counting c) = usages_out (awaited_slots c.usages)
  awaits_out (Reading j segment) = (tt, tt)
  awaits_out (Checking j segment checks) = questions_out segment checks
  awaits_out (Deleting j segment servers) = deletes_out segment.name servers
  awaits_out Over = tt

  -- ---- any input

  abbrev GivesOn : Done → Type 0
  GivesOn d = Outs d.outs

  pub cleaning_gives : (s : CleaningState) (i : In) → InputTold told i → CheckingTold told s.phase → AllByRecursion (OutMoved told) (transition s i).outs
  unfolding on_welcome on_promise on_usage on_live on_dead
  cleaning_gives s (input.Welcome slots groups) fact h =
      by_test GivesOn (is_greeting s.phase && (length slots == 8)) (welcomed s slots groups) (still s) (λ t. lists_out (listing_begin slots groups).awaited) (λ t. tt)
  cleaning_gives s (input.Promise slot epoch) fact h =
      by_test GivesOn (is_above s.promised slot epoch) _ (still s) (λ t. forgetting_gives slot s.phase) (λ t. tt)
  cleaning_gives s (input.Maps groups) fact h = tt
  cleaning_gives s (input.Listed server held) fact h = listed_gives server held s.phase
  cleaning_gives s (input.Usage slot epoch counts) fact h =
      by_test GivesOn (is_promised s.promised slot epoch) _ (still s) (λ t. counted_gives s.count slot counts s.phase) (λ t. tt)
  cleaning_gives s (input.Read read) fact h = read_gives read s.phase
  cleaning_gives s (input.Live block epoch entry) fact h =
      by_test GivesOn (cleaning_hears s.promised block epoch && may_move entry) _ (still s)
      (λ t. answered_gives (live_at block entry) (λ c here. live_told told block entry c fact here) s.phase h) (λ t. tt)
  cleaning_gives s (input.Dead block epoch) fact h =
      by_test GivesOn (cleaning_hears s.promised block epoch) _ (still s) (λ t. answered_gives (dead_at block) (λ c here. dead_told told block c here) s.phase h)
      (λ t. tt)
  cleaning_gives s input.Moved fact h = moved_gives s.phase
  cleaning_gives s (input.Deleted server name) fact h = deleted_gives server name s.phase
  cleaning_gives s input.Tick fact h = awaits_out s.phase
