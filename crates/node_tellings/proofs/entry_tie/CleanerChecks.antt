-- What a job of the cleaner knows of blocks, at each input: each that is live was told to lie where it did.
use Rattle.std.proofs.Common.{ℕ, ◌+◌, ◌==◌, ◌&&◌, Bool, not, List, [], ◌∷◌, map, Option, Some, None, length, refl, subst}
use Rattle.std.specs.List.{AllByRecursion}
use Rattle.group_map.specs.GroupMapState.{GroupMapState}
use Rattle.segment_format.specs.declared.segment.Item.{Item}
use Rattle.segment_format.specs.declared.segment.Item.TheVariants as item
use Rattle.segment_format.specs.declared.segment.Segment.{Segment}
use Rattle.stripe_cleaner.specs.Checks.{check_of, checks_of, after_live, after_dead, after_moved, live_at, dead_at, moved_at, all_dead, any_asked}
use Rattle.stripe_cleaner.specs.CleaningState.{CleaningState}
use Rattle.stripe_cleaner.specs.Counting.{has_usage, is_counted}
use Rattle.stripe_cleaner.specs.declared.checks.Check.{Check}
use Rattle.stripe_cleaner.specs.declared.checks.Fate.{Fate}
use Rattle.stripe_cleaner.specs.declared.checks.Fate.TheVariants.{Asked, Live, Moved, Dead}
use Rattle.stripe_cleaner.specs.declared.input.In.{In}
use Rattle.stripe_cleaner.specs.declared.input.In.TheVariants as input
use Rattle.stripe_cleaner.specs.declared.phase.Phase.{Phase}
use Rattle.stripe_cleaner.specs.declared.phase.Phase.TheVariants.{Greeting, Listing, Counting, Reading, Checking, Deleting, Over}
use Rattle.stripe_cleaner.specs.Job.{Turn, next, next_of, counted, job_go_on, same_name, job_delete, job_check, job_look, is_moving}
use Rattle.stripe_cleaner.specs.JobState.{JobState}
use Rattle.stripe_cleaner.specs.Listing.{is_among, without}
use Rattle.stripe_cleaner.specs.Transition as steps
use Rattle.stripe_cleaner.specs.Transition.{Done, on_welcome, on_promise, forgetting, mapped, listing_go_on, listed_in, counted_in, counting_hear, read_in, answered_in, moved_in, deleted_in, on_usage, on_live, on_dead, cleaning_hears, may_move, welcomed, is_greeting, listing_hear, transition}
use Rattle.stripe_cleaner.specs.Promises.{is_above, is_promised}
use Rattle.xfs_base.proofs.BlockOrder.{same_block_exact}
use Rattle.xfs_base.proofs.Booleans.{by_test}
use Rattle.xfs_base.specs.Blocks.{same_block}
use Rattle.xfs_base.specs.declared.block.BlockId.{BlockId}
use Rattle.xfs_base.specs.declared.entry.Entry.{Entry}
use Rattle.xfs_base.specs.declared.fragment.FragMeta.{FragMeta}
use Rattle.xfs_base.specs.declared.segment.SegName.{SegName}
use Rattle.xfs_base.specs.declared.segment.SegRef.{SegRef}
use Rattle.xfs_base.specs.Steps.{still}
use Rattle.xfs_base.proofs.Alls.{all_append}
use Rattle.node_tellings.specs.entry_tie.CleanerTells.{FateTold, CheckTold, CheckingTold}
use Rattle.node_tellings.specs.entry_tie.Told.{Told}

module _ (told : Told) where
  abbrev pub Checks : List Check → Type 0
  Checks checks = AllByRecursion (CheckTold told) checks

  abbrev Keeps : Turn → Type 0
  Keeps t = CheckingTold told t.state

  -- ---- one block

  fate_live : (block : BlockId) (entry : Entry) (fate : Fate) → told block entry → FateTold told block fate → FateTold told block (after_live entry fate)
  fate_live block entry (Asked value) fact h = record { before = entry; before_told = fact; moved = refl }
  fate_live block entry (Live e value) fact h = h
  fate_live block entry Moved fact h = tt
  fate_live block entry Dead fact h = tt

  fate_dead : (block : BlockId) (fate : Fate) → FateTold told block fate → FateTold told block (after_dead fate)
  fate_dead block (Live e value) h = h
  fate_dead block _ h = tt

  fate_moved : (block : BlockId) (fate : Fate) → FateTold told block (after_moved fate)
  fate_moved block (Asked value) = tt
  fate_moved block (Live e value) = tt
  fate_moved block Moved = tt
  fate_moved block Dead = tt

  pub live_told : (block : BlockId) (entry : Entry) (c : Check) → told block entry → CheckTold told c → CheckTold told (live_at block entry c)
  live_told block entry c fact h =
      by_test (CheckTold told) (same_block c.block block) (record c { fate = after_live entry c.fate }) c
      (λ t. fate_live c.block entry c.fate (subst (λ b. told b entry) (same_block_exact c.block block t) fact) h) (λ t. h)

  pub dead_told : (block : BlockId) (c : Check) → CheckTold told c → CheckTold told (dead_at block c)
  dead_told block c h =
      by_test (CheckTold told) (same_block c.block block) (record c { fate = after_dead c.fate }) c (λ t. fate_dead c.block c.fate h) (λ t. h)

  pub all_mapped : (f : Check → Check) → ((c : Check) → CheckTold told c → CheckTold told (f c)) → (checks : List Check) → Checks checks → Checks (map f checks)
  all_mapped f each [] all = tt
  all_mapped f each (c ∷ cs) all = (each c all.0, all_mapped f each cs all.1)

  all_moved : (checks : List Check) → Checks (map moved_at checks)
  all_moved [] = tt
  all_moved (c ∷ cs) = (fate_moved c.block c.fate, all_moved cs)

  one_begun : (number : ℕ) (i : Item) → Checks (check_of number i)
  one_begun number (item.Block block value) = (tt, tt)
  one_begun number (item.Delta block ver hop at) = tt
  one_begun number (item.Part slot rows) = tt

  all_begun : (number : ℕ) (items : List Item) → Checks (checks_of number items)
  all_begun number [] = tt
  all_begun number (i ∷ rest) =
      all_append (CheckTold told) (check_of number i) (checks_of (number + 1) rest) (one_begun number i) (all_begun (number + 1) rest)

  -- ---- the segment in hand

  next_keeps : (j : JobState) → Keeps (next j)
  next_keeps j = by j.left
    where
      by : (left : List SegRef) → Keeps (next_of left j)
      by [] = tt
      by (segment ∷ left) = tt

  checking_keeps : (j : JobState) (segment : SegRef) (checks : List Check) → Checks checks → Keeps (job_check j segment checks)
  unfolding job_check
  checking_keeps j segment checks all = by_test Keeps (all_dead checks) (job_delete j segment) _ (λ t. tt) (λ t. all)

  looked_keeps : (j : JobState) (segment : SegRef) (was_asked : Bool) (checks : List Check) → Checks checks → Keeps (job_look j segment was_asked checks)
  unfolding job_look
  looked_keeps j segment was_asked checks all =
      by_test Keeps (all_dead checks) (job_delete j segment) _ (λ t. tt) (λ t. by_test Keeps (was_asked && not (any_asked checks)) _ _ (λ u. all) (λ u. all))

  -- ---- each phase

  forgetting_keeps : (slot : ℕ) (p : Phase) → CheckingTold told p → Keeps (forgetting slot p)
  forgetting_keeps slot (Counting c) h = by_test Keeps (has_usage c.usages slot) _ (still (Counting c)) (λ t. tt) (λ t. tt)
  forgetting_keeps slot (Checking j segment checks) h = h
  forgetting_keeps slot _ h = tt

  mapped_keeps : (groups : GroupMapState) (p : Phase) → CheckingTold told p → CheckingTold told (mapped groups p)
  mapped_keeps groups (Checking j segment checks) h = h
  mapped_keeps groups _ h = tt

  listed_keeps : (server : ℕ) (held : List FragMeta) (p : Phase) → CheckingTold told p → Keeps (listed_in server held p)
  listed_keeps server held (Listing l) h =
      by_test Keeps (is_among l.awaited server) (listing_go_on (listing_hear l server held)) (still (Listing l))
      (λ t. by_test Keeps (length (listing_hear l server held).awaited == 0) _ _ (λ u. tt) (λ u. tt)) (λ t. tt)
  listed_keeps server held (Checking j segment checks) h = h
  listed_keeps server held _ h = tt

  counted_keeps : (count slot : ℕ) (counts : List (SegName × ℕ)) (p : Phase) → CheckingTold told p → Keeps (counted_in count slot counts p)
  counted_keeps count slot counts (Counting c) h =
      by_test Keeps (has_usage c.usages slot) (still (Counting c)) (steps.counting_go_on count (counting_hear slot counts c)) (λ t. tt)
      (λ t. by_test Keeps (is_counted (counting_hear slot counts c).usages) _ _ (λ u. next_keeps _) (λ u. tt))
  counted_keeps count slot counts (Checking j segment checks) h = h
  counted_keeps count slot counts _ h = tt

  read_keeps : (read : Option Segment) (p : Phase) → CheckingTold told p → Keeps (read_in read p)
  read_keeps None (Reading j segment) h = next_keeps j
  read_keeps (Some read) (Reading j segment) h =
      by_test Keeps (same_name read.name segment.name) (job_check j segment (checks_of 0 read.items)) (still (Reading j segment))
      (λ t. checking_keeps j segment (checks_of 0 read.items) (all_begun 0 read.items)) (λ t. tt)
  read_keeps read (Counting c) h = tt
  read_keeps read (Listing l) h = tt
  read_keeps read Greeting h = tt
  read_keeps read (Checking j segment checks) h = h
  read_keeps read (Deleting j segment servers) h = tt
  read_keeps read Over h = tt

  answered_keeps : (f : Check → Check) → ((c : Check) → CheckTold told c → CheckTold told (f c)) → (p : Phase) → CheckingTold told p → Keeps (answered_in f p)
  answered_keeps f each (Checking j segment checks) h = looked_keeps j segment (any_asked checks) (map f checks) (all_mapped f each checks h)
  answered_keeps f each _ h = tt

  moved_keeps : (p : Phase) → CheckingTold told p → Keeps (moved_in p)
  moved_keeps (Checking j segment checks) h = by_test Keeps (is_moving checks) _ (still (Checking j segment checks)) (λ t. all_moved checks) (λ t. h)
  moved_keeps _ h = tt

  deleted_keeps : (server : ℕ) (name : SegName) (p : Phase) → CheckingTold told p → Keeps (deleted_in server name p)
  deleted_keeps server name (Deleting j segment servers) h =
      by_test Keeps (same_name name segment.name && is_among servers server) (job_go_on j segment (without servers server))
      (still (Deleting j segment servers))
      (λ t. by_test Keeps (length (without servers server) == 0) (next (counted j)) _ (λ u. next_keeps (counted j)) (λ u. tt)) (λ t. tt)
  deleted_keeps server name (Checking j segment checks) h = h
  deleted_keeps server name _ h = tt

  -- ---- any input

  -- that a block is live tells where it lies
  abbrev pub InputTold : In → Type 0
  InputTold (input.Live block epoch entry) = told block entry
  InputTold _ = Unit {0}

  abbrev KeepsOn : Done → Type 0
  KeepsOn d = CheckingTold told d.state.phase

  pub cleaning_so : (s : CleaningState) (i : In) → InputTold i → CheckingTold told s.phase → CheckingTold told (transition s i).state.phase
  unfolding on_welcome on_promise on_usage on_live on_dead
  cleaning_so s (input.Welcome slots groups) fact h =
      by_test KeepsOn (is_greeting s.phase && (length slots == 8)) (welcomed s slots groups) (still s) (λ t. tt) (λ t. h)
  cleaning_so s (input.Promise slot epoch) fact h =
      by_test KeepsOn (is_above s.promised slot epoch) _ (still s) (λ t. forgetting_keeps slot s.phase h) (λ t. h)
  cleaning_so s (input.Maps groups) fact h = mapped_keeps groups s.phase h
  cleaning_so s (input.Listed server held) fact h = listed_keeps server held s.phase h
  cleaning_so s (input.Usage slot epoch counts) fact h =
      by_test KeepsOn (is_promised s.promised slot epoch) _ (still s) (λ t. counted_keeps s.count slot counts s.phase h) (λ t. h)
  cleaning_so s (input.Read read) fact h = read_keeps read s.phase h
  cleaning_so s (input.Live block epoch entry) fact h =
      by_test KeepsOn (cleaning_hears s.promised block epoch && may_move entry) _ (still s)
      (λ t. answered_keeps (live_at block entry) (λ c here. live_told block entry c fact here) s.phase h) (λ t. h)
  cleaning_so s (input.Dead block epoch) fact h =
      by_test KeepsOn (cleaning_hears s.promised block epoch) _ (still s) (λ t. answered_keeps (dead_at block) (λ c here. dead_told block c here) s.phase h) (λ t. h)
  cleaning_so s input.Moved fact h = moved_keeps s.phase h
  cleaning_so s (input.Deleted server name) fact h = deleted_keeps server name s.phase h
  cleaning_so s input.Tick fact h = h
