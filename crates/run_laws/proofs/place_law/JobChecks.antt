-- What a job of the cleaner asks for are Blocks of the filed segment that it has in hand: in the small world of a slot's index, whatever happens there.
use Rattle.std.proofs.Common.{◌≡◌, ℕ, ◌+◌, ◌==◌, Bool, true, ◌&&◌, not, inl, inr, List, [], ◌∷◌, length, map, Option, None, Some, refl, sym, subst, arith, slice_get, ap, suc, ◌<◌, ◌≤◌, ◌∙◌}
use Rattle.std.specs.Prelude.{min}
use Rattle.std.specs.List.{AllByRecursion}
use Rattle.std.proofs.lemmas.Map.Views.{tells_apart}
use Rattle.std.proofs.lemmas.Option.{slice_get_within}
use Rattle.segment_format.specs.Rule.{no_item}
use Rattle.checkpoint.specs.WriterState.{Rows}
use Rattle.group_map.specs.GroupMapState.{GroupMapState}
use Rattle.index_tie.proofs.Growth.{more_is_filed}
use Rattle.index_tie.specs.Cleaning.{ReadFor}
use Rattle.headline.specs.Filed.{Filed}
use Rattle.index_tie.specs.Growth.{IsMore, with_segment}
use Rattle.index_tie.specs.Net.{Net, Happens, IsOther, Runs, opening}
use Rattle.index_tie.specs.Net.Happens.{ClientFiles, CleanerFiles, GetsDeltas, GetsOther, Answers, Plans, Cleans, Checkpoints, Keeps as RegistryKeeps, Moves, Activates, Promises, JobPromises, JobWelcomed, Reports, JobBegins, JobReads, Asks, JobHearsDead, JobTakes}
use Rattle.index_tie.specs.Net.Runs.{Begun, On}
use Rattle.log_protocol.specs.Tables.{In}
use Rattle.segment_format.specs.declared.segment.Item.{Item}
use Rattle.segment_format.specs.declared.segment.Item.TheVariants as item
use Rattle.segment_format.specs.declared.segment.Segment.{Segment}
use Rattle.stripe_cleaner.specs.Checks.{all_dead, any_asked, after_dead, after_live, after_moved, check_of, checks_of, dead_at, live_at, moved_at}
use Rattle.stripe_cleaner.specs.CleaningState.{CleaningState}
use Rattle.stripe_cleaner.specs.Counting.{has_usage, is_counted}
use Rattle.stripe_cleaner.specs.declared.checks.Check.{Check}
use Rattle.stripe_cleaner.specs.declared.checks.Fate.{Fate}
use Rattle.stripe_cleaner.specs.declared.checks.Fate.TheVariants.{Asked, Live, Moved, Dead}
use Rattle.stripe_cleaner.specs.declared.input.In as inputs
use Rattle.stripe_cleaner.specs.declared.input.In.TheVariants as input
use Rattle.stripe_cleaner.specs.declared.phase.Phase.{Phase}
use Rattle.stripe_cleaner.specs.declared.phase.Phase.TheVariants.{Greeting, Listing, Counting, Reading, Checking, Deleting, Over}
use Rattle.stripe_cleaner.specs.Job.{Turn, job_check, counted, job_delete, is_moving, job_go_on, job_look, next, next_of, same_name}
use Rattle.stripe_cleaner.specs.JobState.{JobState}
use Rattle.stripe_cleaner.specs.Listing.{is_among, without}
use Rattle.stripe_cleaner.specs.Promises.{is_above, is_promised}
use Rattle.stripe_cleaner.specs.Transition as steps
use Rattle.stripe_cleaner.specs.Transition.{Done, answered_in, counted_in, deleted_in, forgetting, listing_hear, is_greeting, cleaning_hears, listing_go_on, listed_in, mapped, may_move, moved_in, on_dead, on_live, on_promise, on_usage, on_welcome, read_in, transition, counting_hear, welcomed}
use Rattle.xfs_base.proofs.Booleans.{by_test}
use Rattle.xfs_base.proofs.Orders.{seg_cmp_exact}
use Rattle.xfs_base.specs.Blocks.{same_block}
use Rattle.xfs_base.specs.declared.block.BlockId.{BlockId}
use Rattle.xfs_base.specs.declared.entry.Entry.{Entry}
use Rattle.xfs_base.specs.declared.fragment.FragMeta.{FragMeta}
use Rattle.xfs_base.specs.declared.segment.SegName.{SegName}
use Rattle.xfs_base.specs.declared.segment.SegRef.{SegRef}
use Rattle.xfs_base.specs.Steps.{still}
use Rattle.xfs_base.proofs.Alls.{all_append}
use Rattle.xfs_base.specs.Limits.{slot_count}
use Rattle.xfs_base.specs.Logs.{cleaners_number}
use Rattle.run_laws.specs.place_law.Copies.{CheckLies, ChecksLie, FateLies, JobsChecksLie, PhaseLies}

-- ---- one check

module _ (s : Segment) where
  fate_live : (block : BlockId) (entry : Entry) (fate : Fate) → FateLies s block fate → FateLies s block (after_live entry fate)
  fate_live block entry (Asked value) h = tt
  fate_live block entry (Live e value) h = tt
  fate_live block entry Moved h = tt
  fate_live block entry Dead h = tt

  fate_dead : (block : BlockId) (fate : Fate) → FateLies s block fate → FateLies s block (after_dead fate)
  fate_dead block (Asked value) h = tt
  fate_dead block (Live e value) h = tt
  fate_dead block Moved h = tt
  fate_dead block Dead h = tt

  fate_moved : (block : BlockId) (fate : Fate) → FateLies s block fate → FateLies s block (after_moved fate)
  fate_moved block (Asked value) h = h
  fate_moved block (Live e value) h = tt
  fate_moved block Moved h = tt
  fate_moved block Dead h = tt

  -- another fate leaves it of the same Block
  refated : (c : Check) (fate : Fate) → FateLies s c.block fate → CheckLies s c → CheckLies s (record c { fate = fate })
  refated c fate fact h = record { asked = fact; sits = h.sits }

  live_lies : (block : BlockId) (entry : Entry) (c : Check) → CheckLies s c → CheckLies s (live_at block entry c)
  live_lies block entry c h =
      by_test (CheckLies s) (same_block c.block block) (record c { fate = after_live entry c.fate }) c
      (λ t. refated c (after_live entry c.fate) (fate_live c.block entry c.fate h.asked) h) (λ t. h)

  dead_lies : (block : BlockId) (c : Check) → CheckLies s c → CheckLies s (dead_at block c)
  dead_lies block c h =
      by_test (CheckLies s) (same_block c.block block) (record c { fate = after_dead c.fate }) c
      (λ t. refated c (after_dead c.fate) (fate_dead c.block c.fate h.asked) h) (λ t. h)

  moved_lies : (c : Check) → CheckLies s c → CheckLies s (moved_at c)
  moved_lies c h = refated c (after_moved c.fate) (fate_moved c.block c.fate h.asked) h

  all_mapped : (g : Check → Check) → ((c : Check) → CheckLies s c → CheckLies s (g c)) → (checks : List Check) → AllByRecursion (CheckLies s) checks
      → AllByRecursion (CheckLies s) (map g checks)
  all_mapped g each [] all = tt
  all_mapped g each (c ∷ cs) all = (each c all.0, all_mapped g each cs all.1)

  -- each Block among some of its items is asked for
  one_begun : (number : ℕ) (i : Item) → In i s.items → slice_get s.items number ≡ Some i → AllByRecursion (CheckLies s) (check_of number i)
  one_begun number (item.Block block value) fact at = (
    record {
      asked = fact;
      sits = λ few. record {
        value = value;
        there = ap (slice_get s.items) (least number (length s.items) (slice_get_within s.items number (item.Block block value) at) few) ∙ at;
      };
    },
    tt,
  )
    where
      least : (k n : ℕ) → k < n → n ≤ no_item → min k no_item ≡ k
      least k n less few = omega arith
  one_begun number (item.Delta block ver hop place) fact at = tt
  one_begun number (item.Part slot rows) fact at = tt

  -- these are the items from this number on
  abbrev AreFrom : ℕ → List Item → Type 0
  AreFrom number items = (k : ℕ) (i : Item) → slice_get items k ≡ Some i → slice_get s.items (number + k) ≡ Some i

  all_begun : (number : ℕ) (items : List Item) → ((i : Item) → In i items → In i s.items) → AreFrom number items
      → AllByRecursion (CheckLies s) (checks_of number items)
  all_begun number [] sub from = tt
  all_begun number (i ∷ rest) sub from =
      all_append (CheckLies s) (check_of number i) (checks_of (number + 1) rest)
      (one_begun number i (sub i (inl refl)) (ap (slice_get s.items) (none_more number) ∙ from 0 i refl))
      (all_begun (number + 1) rest (λ j h. sub j (inr h)) (λ k j at. ap (slice_get s.items) (one_more number k) ∙ from (suc k) j at))
    where
      none_more : (n : ℕ) → n ≡ n + 0
      none_more n = omega arith

      one_more : (n k : ℕ) → (n + 1) + k ≡ n + suc k
      one_more n k = omega arith

  -- so it is of all
  whole_begun : AllByRecursion (CheckLies s) (checks_of 0 s.items)
  whole_begun = all_begun 0 s.items (λ i h. h) (λ k i at. ap (slice_get s.items) (from_none k) ∙ at)
    where
      from_none : (k : ℕ) → 0 + k ≡ k
      from_none k = omega arith

-- ---- one turn of a job

module _ (f : Filed) where
  abbrev Keeps : Turn → Type 0
  Keeps t = PhaseLies f t.state

  lie_mapped : (g : Check → Check) → ((s : Segment) (c : Check) → CheckLies s c → CheckLies s (g c)) → (name : SegName) (checks : List Check)
      → ChecksLie f name checks → ChecksLie f name (map g checks)
  lie_mapped g each name checks h =
      record { within = h.within; lie = λ fact. (let s : Segment = f.segment name.log.0 name.seq in all_mapped s g (each s) checks (h.lie fact)) }

  next_keeps : (j : JobState) → Keeps (next j)
  next_keeps j = by j.left
    where
      by : (left : List SegRef) → Keeps (next_of left j)
      by [] = tt
      by (segment ∷ left) = tt

  checking_keeps : (j : JobState) (segment : SegRef) (checks : List Check) → ChecksLie f segment.name checks → Keeps (job_check j segment checks)
  unfolding job_check
  checking_keeps j segment checks all = by_test Keeps (all_dead checks) (job_delete j segment) _ (λ t. tt) (λ t. all)

  looked_keeps : (j : JobState) (segment : SegRef) (was_asked : Bool) (checks : List Check) → ChecksLie f segment.name checks
      → Keeps (job_look j segment was_asked checks)
  unfolding job_look
  looked_keeps j segment was_asked checks all =
      by_test Keeps (all_dead checks) (job_delete j segment) _ (λ t. tt) (λ t. by_test Keeps (was_asked && not (any_asked checks)) _ _ (λ u. all) (λ u. all))

  forgetting_keeps : (slot : ℕ) (p : Phase) → PhaseLies f p → Keeps (forgetting slot p)
  forgetting_keeps slot (Counting c) h = by_test Keeps (has_usage c.usages slot) _ (still (Counting c)) (λ t. tt) (λ t. tt)
  forgetting_keeps slot p h = h

  mapped_keeps : (groups : GroupMapState) (p : Phase) → PhaseLies f p → PhaseLies f (mapped groups p)
  mapped_keeps groups (Listing l) h = tt
  mapped_keeps groups (Counting c) h = tt
  mapped_keeps groups (Checking j segment checks) h = h
  mapped_keeps groups (Reading j segment) h = tt
  mapped_keeps groups (Deleting j segment servers) h = tt
  mapped_keeps groups Greeting h = tt
  mapped_keeps groups Over h = tt

  listed_keeps : (server : ℕ) (held : List FragMeta) (p : Phase) → PhaseLies f p → Keeps (listed_in server held p)
  listed_keeps server held (Listing l) h =
      by_test Keeps (is_among l.awaited server) (listing_go_on (listing_hear l server held)) (still (Listing l))
      (λ t. by_test Keeps (length (listing_hear l server held).awaited == 0) _ _ (λ u. tt) (λ u. tt)) (λ t. tt)
  listed_keeps server held p h = h

  counted_keeps : (count slot : ℕ) (counts : List (SegName × ℕ)) (p : Phase) → PhaseLies f p → Keeps (counted_in count slot counts p)
  counted_keeps count slot counts (Counting c) h =
      by_test Keeps (has_usage c.usages slot) (still (Counting c)) (steps.counting_go_on count (counting_hear slot counts c)) (λ t. tt)
      (λ t. by_test Keeps (is_counted (counting_hear slot counts c).usages) _ _ (λ u. next_keeps _) (λ u. tt))
  counted_keeps count slot counts p h = h

  answered_keeps : (g : Check → Check) → ((s : Segment) (c : Check) → CheckLies s c → CheckLies s (g c)) → (p : Phase) → PhaseLies f p → Keeps (answered_in g p)
  answered_keeps g each (Checking j segment checks) h = looked_keeps j segment (any_asked checks) (map g checks) (lie_mapped g each segment.name checks h)
  answered_keeps g each p h = h

  moved_keeps : (p : Phase) → PhaseLies f p → Keeps (moved_in p)
  moved_keeps (Checking j segment checks) h =
      by_test Keeps (is_moving checks) _ (still (Checking j segment checks)) (λ t. lie_mapped moved_at moved_lies segment.name checks h) (λ t. h)
  moved_keeps p h = h

  deleted_keeps : (server : ℕ) (name : SegName) (p : Phase) → PhaseLies f p → Keeps (deleted_in server name p)
  deleted_keeps server name (Deleting j segment servers) h =
      by_test Keeps (same_name name segment.name && is_among servers server) (job_go_on j segment (without servers server))
      (still (Deleting j segment servers))
      (λ t. by_test Keeps (length (without servers server) == 0) (next (counted j)) _ (λ u. next_keeps (counted j)) (λ u. tt)) (λ t. tt)
  deleted_keeps server name p h = h

  read_keeps : (read : Option Segment) (p : Phase) → ReadFor f read p → PhaseLies f p → Keeps (read_in read p)
  read_keeps None (Reading j segment) owed h = next_keeps j
  read_keeps (Some read) (Reading j segment) owed h =
      by_test Keeps (same_name read.name segment.name) (job_check j segment (checks_of 0 read.items)) (still (Reading j segment))
      (λ t. checking_keeps j segment (checks_of 0 read.items) (begun (tells_apart seg_cmp_exact read.name segment.name t))) (λ t. tt)
    where
      begun : read.name ≡ segment.name → ChecksLie f segment.name (checks_of 0 read.items)
      begun named = record {
        within = owed.0;
        lie = λ fact.
            subst (λ s. AllByRecursion (CheckLies s) (checks_of 0 read.items)) (owed.1 fact named) (whole_begun read);
      }
  read_keeps read (Counting c) owed h = tt
  read_keeps read (Listing l) owed h = tt
  read_keeps read Greeting owed h = tt
  read_keeps read (Checking j segment checks) owed h = h
  read_keeps read (Deleting j segment servers) owed h = tt
  read_keeps read Over owed h = tt

  -- any input, where what is read is the filed segment
  abbrev Given : Phase → inputs.In → Type 0
  Given p (input.Read read) = ReadFor f read p
  Given p _ = Unit {0}

  abbrev KeepsOn : Done → Type 0
  KeepsOn d = PhaseLies f d.state.phase

  pub taken : (s : CleaningState) (i : inputs.In) → Given s.phase i → PhaseLies f s.phase → KeepsOn (transition s i)
  unfolding on_welcome on_promise on_usage on_live on_dead
  taken s (input.Welcome slots groups) fact h =
      by_test KeepsOn (is_greeting s.phase && (length slots == slot_count)) (welcomed s slots groups) (still s) (λ t. tt) (λ t. h)
  taken s (input.Promise slot epoch) fact h =
      by_test KeepsOn (is_above s.promised slot epoch) _ (still s) (λ t. forgetting_keeps slot s.phase h) (λ t. h)
  taken s (input.Maps groups) fact h = mapped_keeps groups s.phase h
  taken s (input.Listed server held) fact h = listed_keeps server held s.phase h
  taken s (input.Usage slot epoch counts) fact h =
      by_test KeepsOn (is_promised s.promised slot epoch) _ (still s) (λ t. counted_keeps s.count slot counts s.phase h) (λ t. h)
  taken s (input.Read read) fact h = read_keeps read s.phase fact h
  taken s (input.Live block epoch entry) fact h =
      by_test KeepsOn (cleaning_hears s.promised block epoch && may_move entry) _ (still s)
      (λ t. answered_keeps (live_at block entry) (λ z c here. live_lies z block entry c here) s.phase h) (λ t. h)
  taken s (input.Dead block epoch) fact h =
      by_test KeepsOn (cleaning_hears s.promised block epoch) _ (still s)
      (λ t. answered_keeps (dead_at block) (λ z c here. dead_lies z block c here) s.phase h) (λ t. h)
  taken s input.Moved fact h = moved_keeps s.phase h
  taken s (input.Deleted server name) fact h = deleted_keeps server name s.phase h
  taken s input.Tick fact h = h

-- ---- more is filed

more_lies : (f g : Filed) (p : Phase) → IsMore f g → PhaseLies f p → PhaseLies g p
more_lies f g (Checking j segment checks) more h =
    let name : SegName = segment.name in
    let same : g.segment name.log.0 name.seq ≡ f.segment name.log.0 name.seq = more.segment name.log.0 name.seq h.within.some h.within.filed in
    record {
      within = record { some = h.within.some; filed = (let a = h.within.filed in let b = more.head name.log.0 in omega arith) };
      lie = λ fact.
          subst (λ s. AllByRecursion (CheckLies s) checks) (sym same)
          (h.lie (subst (λ (s : Segment). same_name name s.name ≡ true) same fact));
    }
more_lies f g p more h = tt

-- ---- the small world

module _ (part : ℕ) (holds : SegRef → Rows) where
  given : (f : Filed) (p : Phase) (i : inputs.In) → IsOther part i → Given f p i
  given f p (input.Welcome slots groups) other = tt
  given f p (input.Promise slot epoch) other = tt
  given f p (input.Maps groups) other = tt
  given f p (input.Listed server held) other = tt
  given f p (input.Usage slot epoch counts) other = tt
  given f p (input.Read read) other = absurd other
  given f p (input.Live block epoch entry) other = tt
  given f p (input.Dead block epoch) other = tt
  given f p input.Moved other = tt
  given f p (input.Deleted server name) other = tt
  given f p input.Tick other = tt

  happens_lie : (n m : Net) → Happens part holds n m → PhaseLies n.filed n.job.phase → PhaseLies m.filed m.job.phase
  happens_lie n m (ClientFiles l s some less fact newer) h = more_lies n.filed (with_segment n.filed l s) n.job.phase (more_is_filed n.filed l s) h
  happens_lie n m (CleanerFiles s fact copies) h = more_lies n.filed (with_segment n.filed cleaners_number s) n.job.phase (more_is_filed n.filed cleaners_number s) h
  happens_lie n m (GetsDeltas e s log first upto rows at known tell) h = h
  happens_lie n m (GetsOther e s i at of) h = h
  happens_lie n m (Answers e s number b place d at asked) h = h
  happens_lie n m (Plans e s events horizon at pages all planned) h = h
  happens_lie n m (Cleans e s at) h = h
  happens_lie n m (Checkpoints e events horizon segments planned laid) h = h
  happens_lie n m (RegistryKeeps horizon parts done rises) h = h
  happens_lie n m Moves h = h
  happens_lie n m (Activates e news groups clients inputs input rows beliefs applied none some begun hands has) h = h
  happens_lie n m (Promises e rises none) h = h
  happens_lie n m (JobPromises e rises) h = taken n.filed n.job (input.Promise part e) tt h
  happens_lie n m (JobWelcomed slots groups rises) h = taken n.filed n.job (input.Welcome slots groups) tt h
  happens_lie n m Reports h = h
  happens_lie n m (JobBegins count) h = tt
  happens_lie n m (JobReads read owed) h = taken n.filed n.job (input.Read read) owed h
  happens_lie n m (Asks b place d promised within below lies) h = h
  happens_lie n m (JobHearsDead number b epoch name d answered hand) h = taken n.filed n.job (input.Dead b epoch) tt h
  happens_lie n m (JobTakes i other) h = taken n.filed n.job i (given n.filed n.job.phase i other) h

  runs_lie : (n m : Net) → Runs part holds n m → PhaseLies n.filed n.job.phase → PhaseLies m.filed m.job.phase
  runs_lie n m Begun h = h
  runs_lie n m (On {m = x} run last) h = happens_lie x m last (runs_lie n x run h)

pub jobs_checks_lie : JobsChecksLie
jobs_checks_lie part holds any n run = runs_lie part holds (opening any) n run tt
