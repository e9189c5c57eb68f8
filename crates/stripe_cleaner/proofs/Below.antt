-- What is read and deleted is below the least horizon of its log.
use Rattle.std.proofs.Common.{◌≡◌, ℕ, zero, suc, ◌<◌, Bool, true, cond, List, [], ◌∷◌, ◌++◌, Option, Some, None, map, take, length, refl, arith}
use Rattle.std.specs.Prelude.{fold, ◌==◌, ◌&&◌, not, nat_lt}
use Rattle.std.specs.List.{AllByRecursion}
use Rattle.std.specs.declared.cmp.Ordering.{Ordering}
use Rattle.std.specs.declared.cmp.Ordering.TheVariants.{Less, Equal, Greater}
use Rattle.std.specs.Ordering.{match_ordering}
use Rattle.std.specs.Map.{keys_of}
use Rattle.std.specs.BTreeMap.{insert_entry}
use Rattle.std.proofs.lemmas.Bool.Decides.{nat_tests}
use Rattle.group_map.specs.GroupMapState.{GroupMapState}
use Rattle.segment_format.specs.declared.segment.Segment.{Segment}
use Rattle.xfs_base.specs.declared.block.BlockId.{BlockId}
use Rattle.xfs_base.specs.declared.entry.Entry.{Entry}
use Rattle.xfs_base.specs.declared.fragment.FragMeta.{FragMeta}
use Rattle.xfs_base.specs.declared.news.SlotNews.{SlotNews}
use Rattle.xfs_base.specs.declared.segment.SegName.{SegName}
use Rattle.xfs_base.specs.declared.segment.SegRef.{SegRef}
use Rattle.xfs_base.specs.Steps.{still}
use Rattle.xfs_base.proofs.Booleans.{by_test, and_first, and_second}
use Rattle.xfs_base.specs.Limits.{slot_count}
use Rattle.stripe_cleaner.specs.declared.checks.Check.{Check}
use Rattle.stripe_cleaner.specs.declared.counting.Fullness.{Fullness}
use Rattle.stripe_cleaner.specs.declared.input.In.{In}
use Rattle.stripe_cleaner.specs.declared.input.In.TheVariants as input
use Rattle.stripe_cleaner.specs.declared.output.Out.{Out}
use Rattle.stripe_cleaner.specs.declared.output.Out.TheVariants as out
use Rattle.stripe_cleaner.specs.declared.phase.Phase.{Phase}
use Rattle.stripe_cleaner.specs.declared.phase.Phase.TheVariants.{Greeting, Listing, Counting, Reading, Checking, Deleting, Over}
use Rattle.stripe_cleaner.specs.Candidates.{is_cleaned, is_candidate, least_horizon, candidates_with_one, candidates_with}
use Rattle.stripe_cleaner.specs.Checks.{all_dead, any_asked, live_at, dead_at, moved_at, moves, questions, checks_of}
use Rattle.stripe_cleaner.specs.CleaningState.{CleaningState, cleaning_start}
use Rattle.stripe_cleaner.specs.Counting.{CountingState, fullness_cmp, fullness_of, by_fullness_with_one, by_fullness, segment_at, chosen, has_usage, is_counted, awaited_slots, all_slots}
use Rattle.stripe_cleaner.specs.Histories.{state_after, IsWelcomed, IsBelow, EmptiesBelow}
use Rattle.stripe_cleaner.specs.Job.{Turn, next_of, next, servers_of, job_delete, counted, job_go_on, same_name, on_deleted, job_check, on_read, job_look, is_moving, on_moved}
use Rattle.stripe_cleaner.specs.JobState.{JobState}
use Rattle.stripe_cleaner.specs.Listing.{ListingState, listing_begin, is_among, without}
use Rattle.stripe_cleaner.specs.Promises.{promised_with, is_above, is_promised}
use Rattle.stripe_cleaner.specs.Transition as step
use Rattle.stripe_cleaner.specs.Transition.{Done, turned, is_greeting, usage_asks, welcomed, on_welcome, forgotten, forgetting, on_promise, mapped, listing_go_on, listing_hear, on_list, counting_hear, on_counts, listed_in, counted_in, read_in, answered_in, moved_in, deleted_in, phase_asking, on_usage, cleaning_hears, may_move, on_live, on_dead, transition}
use Rattle.stripe_cleaner.proofs.Histories.{split_with, always}
use Rattle.stripe_cleaner.proofs.Turns.{says_deletes, says_lists, says_usage_asks, says_questions}

-- ---- keys of a table

module _ {K V : Type 0} (P : K → Type 0) (R : K → K → Ordering) where
  -- what holds of each key holds of each once one is put for which it holds
  all_put : (es : List (K × V)) (k : K) (v : V) → AllByRecursion P (keys_of es) → P k → AllByRecursion P (keys_of (insert_entry R es k v))
  all_put [] k v all p = (p, tt)
  all_put (e ∷ es) k v all p =
      elim (R k e.0) as (λ o. AllByRecursion P (keys_of (match_ordering o ((k, v) ∷ e ∷ es) ((e.0, v) ∷ es) (e ∷ insert_entry R es k v)))) [
        | Less ↦ (p, all)
        | Equal ↦ all
        | Greater ↦ (all.0, all_put es k v all.1 p)
      ]

all_moved_to : {A : Type 0} (P Q : A → Type 0) (xs : List A) → ((x : A) → P x → Q x) → AllByRecursion P xs → AllByRecursion Q xs
all_moved_to P Q [] f all = tt
all_moved_to P Q (x ∷ xs) f all = (f x all.0, all_moved_to P Q xs f all.1)

-- ---- the candidates

module _ (slots : List SlotNews) where
  abbrev IsCandidate : SegName → Type 0
  IsCandidate name = is_candidate slots name ≡ true

  candidates_stay : (held : List FragMeta) (es : List (SegName × ℕ)) → AllByRecursion IsCandidate (keys_of es)
      → AllByRecursion IsCandidate (keys_of (candidates_with slots held es))
  candidates_stay [] es all = all
  candidates_stay (m ∷ held) es all =
      candidates_stay held (candidates_with_one slots es m)
      (by_test (λ (es' : List (SegName × ℕ)). AllByRecursion IsCandidate (keys_of es')) (is_candidate slots m.name) (insert_entry _ es m.name m.group) es
      (λ t. all_put IsCandidate _ es m.name m.group all t)
      (λ t. all))

-- a candidate is below
candidate_is_below : (slots : List SlotNews) (name : SegName) → is_candidate slots name ≡ true → name.seq < least_horizon slots name.log.0
candidate_is_below slots name h =
    let below : nat_lt name.seq (least_horizon slots name.log.0) ≡ true =
    and_second (is_cleaned name.log.0) (nat_lt name.seq (least_horizon slots name.log.0)) h in
    grind (arith, nat_tests, below)

-- ---- the order of emptying

module _ (P : SegName → Type 0) where
  by_fullness_from : (usages : _) (candidates : List (SegName × ℕ)) (es : List (Fullness × ℕ)) → AllByRecursion P (keys_of candidates)
      → AllByRecursion (λ (r : Fullness). P r.name) (keys_of es)
      → AllByRecursion (λ (r : Fullness). P r.name) (keys_of (fold (by_fullness_with_one usages) es candidates))
  by_fullness_from usages [] es all sofar = sofar
  by_fullness_from usages (c ∷ cs) es all sofar =
      by_fullness_from usages cs (by_fullness_with_one usages es c) all.1
      (all_put (λ (r : Fullness). P r.name) fullness_cmp es (fullness_of usages c.0) c.1 sofar all.0)

  first_from : (n : ℕ) (es : List (Fullness × ℕ)) → AllByRecursion (λ (r : Fullness). P r.name) (keys_of es)
      → AllByRecursion (λ (s : SegRef). P s.name) (map segment_at (take n es))
  first_from zero es all = tt
  first_from (suc n) [] all = tt
  first_from (suc n) (e ∷ es) all = (all.0, first_from n es all.1)

  chosen_from : (count : ℕ) (c : CountingState) → AllByRecursion P (keys_of c.candidates) → AllByRecursion (λ (s : SegRef). P s.name) (chosen count c)
  chosen_from count c all = first_from count (by_fullness c) (by_fullness_from c.usages c.candidates [] all tt)

-- ---- in each phase

module _ (start : CleaningState) where
  welcomed_later : (history : List In) (i : In) (slots : List SlotNews) → IsWelcomed start history slots → IsWelcomed start (history ++ i ∷ []) slots
  welcomed_later history i slots w = record {
    groups = w.groups;
    before = w.before;
    later = w.later ++ i ∷ [];
    split = split_with history w.before w.later (input.Welcome slots w.groups) i w.split;
    awaited = w.awaited;
  }

  below_later : (history : List In) (i : In) (name : SegName) → IsBelow start history name → IsBelow start (history ++ i ∷ []) name
  below_later history i name b = record { slots = b.slots; welcomed = welcomed_later history i b.slots b.welcomed; below = b.below }

  module _ (history : List In) where
    abbrev Below : SegName → Type 0
    Below name = IsBelow start history name

    abbrev AllBelow : JobState → SegRef → Type 0
    AllBelow j segment = Below segment.name × AllByRecursion (λ (s : SegRef). Below s.name) j.left

    -- all that a phase may yet empty is below
    abbrev BelowIn : Phase → Type 0
    BelowIn Greeting = Unit {0}
    BelowIn (Listing l) = IsWelcomed start history l.slots × AllByRecursion (λ name. is_candidate l.slots name ≡ true) (keys_of l.candidates)
    BelowIn (Counting c) = AllByRecursion Below (keys_of c.candidates)
    BelowIn (Reading j segment) = AllBelow j segment
    BelowIn (Checking j segment checks) = AllBelow j segment
    BelowIn (Deleting j segment servers) = AllBelow j segment
    BelowIn Over = Unit {0}

    abbrev Says : List Out → Type 0
    Says outs = AllByRecursion (EmptiesBelow start history) outs

    abbrev Fine : Turn → Type 0
    Fine turn = BelowIn turn.state × Says turn.outs

    next_is_below : (left : List SegRef) (j : JobState) → AllByRecursion (λ (s : SegRef). Below s.name) left → Fine (next_of left j)
    next_is_below [] j all = (tt, (tt, tt))
    next_is_below (s ∷ left) j all = ((all.0, all.1), (all.0, tt))

    deleting_is_below : (j : JobState) (segment : SegRef) → AllBelow j segment → Fine (job_delete j segment)
    deleting_is_below j segment b = (b, says_deletes (EmptiesBelow start history) segment.name (λ server. b.0) (servers_of j.groups segment))

    deleted_is_below : (server : ℕ) (name : SegName) (j : JobState) (segment : SegRef) (servers : List ℕ) → AllBelow j segment
        → Fine (on_deleted server name j segment servers)
    deleted_is_below server name j segment servers b =
        by_test Fine (same_name name segment.name && is_among servers server) (job_go_on j segment (without servers server))
        (still (Deleting j segment servers))
        (λ t. by_test Fine (length (without servers server) == 0) (next (counted j)) (still (Deleting j segment (without servers server)))
        (λ u. next_is_below j.left (counted j) b.1) (λ u. (b, tt)))
        (λ t. (b, tt))

    checking_is_below : (j : JobState) (segment : SegRef) (checks : List Check) → AllBelow j segment → Fine (job_check j segment checks)
    unfolding job_check
    checking_is_below j segment checks b =
        by_test Fine (all_dead checks) (job_delete j segment) (record { state = Checking j segment checks; outs = questions segment checks })
        (λ t. deleting_is_below j segment b)
        (λ t. (b, says_questions (EmptiesBelow start history) (λ block place. tt) segment checks))

    looked_is_below : (j : JobState) (segment : SegRef) (was_asked : Bool) (checks : List Check) → AllBelow j segment
        → Fine (job_look j segment was_asked checks)
    unfolding job_look
    looked_is_below j segment was_asked checks b =
        by_test Fine (all_dead checks) (job_delete j segment)
        (cond (was_asked && not (any_asked checks)) (record { state = Checking j segment checks; outs = out.Move (moves checks) ∷ [] })
        (still (Checking j segment checks)))
        (λ t. deleting_is_below j segment b)
        (λ t. by_test Fine (was_asked && not (any_asked checks)) (record { state = Checking j segment checks; outs = out.Move (moves checks) ∷ [] })
        (still (Checking j segment checks)) (λ u. (b, (tt, tt))) (λ u. (b, tt)))

    moved_is_below : (j : JobState) (segment : SegRef) (checks : List Check) → AllBelow j segment → Fine (on_moved j segment checks)
    moved_is_below j segment checks b =
        by_test Fine (is_moving checks) (record { state = Checking j segment (map moved_at checks); outs = questions segment (map moved_at checks) })
        (still (Checking j segment checks))
        (λ t. (b, says_questions (EmptiesBelow start history) (λ block place. tt) segment (map moved_at checks)))
        (λ t. (b, tt))

    read_is_below : (read : Option Segment) (j : JobState) (segment : SegRef) → AllBelow j segment → Fine (on_read read j segment)
    read_is_below None j segment b = next_is_below j.left j b.1
    read_is_below (Some read) j segment b =
        by_test Fine (same_name read.name segment.name) (job_check j segment (checks_of 0 read.items)) (still (Reading j segment))
        (λ t. checking_is_below j segment (checks_of 0 read.items) b)
        (λ t. (b, tt))

    -- once all lists are in, each candidate is below
    listed_is_below : (l : ListingState) → BelowIn (Listing l) → Fine (listing_go_on l)
    listed_is_below l b =
        by_test Fine (length l.awaited == 0)
        (record { state = Counting (record { groups = l.groups; candidates = l.candidates; usages = [] }); outs = usage_asks all_slots }) (still (Listing l))
        (λ t. (
          all_moved_to (λ name. is_candidate l.slots name ≡ true) Below (keys_of l.candidates)
              (λ name c. record { slots = l.slots; welcomed = b.0; below = candidate_is_below l.slots name c }) b.1,
          says_usage_asks (EmptiesBelow start history) (λ slot. tt) all_slots,
        ))
        (λ t. (b, tt))

    list_is_below : (server : ℕ) (held : List FragMeta) (l : ListingState) → BelowIn (Listing l) → Fine (on_list server held l)
    list_is_below server held l b =
        by_test Fine (is_among l.awaited server) (listing_go_on (listing_hear l server held)) (still (Listing l))
        (λ t. listed_is_below (listing_hear l server held) (b.0, candidates_stay l.slots held l.candidates b.1))
        (λ t. (b, tt))

    counted_is_below : (count : ℕ) (c : CountingState) → BelowIn (Counting c) → Fine (step.counting_go_on count c)
    counted_is_below count c b =
        by_test Fine (is_counted c.usages) (next (record { groups = c.groups; left = chosen count c; deleted = 0 })) (still (Counting c))
        (λ t. next_is_below (chosen count c) (record { groups = c.groups; left = chosen count c; deleted = 0 }) (chosen_from Below count c b))
        (λ t. (b, tt))

    counts_are_below : (count slot : ℕ) (counts : _) (c : CountingState) → BelowIn (Counting c) → Fine (on_counts count slot counts c)
    counts_are_below count slot counts c b =
        by_test Fine (has_usage c.usages slot) (still (Counting c)) (step.counting_go_on count (counting_hear slot counts c))
        (λ t. (b, tt))
        (λ t. counted_is_below count (counting_hear slot counts c) b)

    -- ---- each input in each phase

    forgetting_is_below : (slot : ℕ) (p : Phase) → BelowIn p → Fine (forgetting slot p)
    forgetting_is_below slot (Counting c) b =
        by_test Fine (has_usage c.usages slot) (record { state = Counting (forgotten slot c); outs = out.UsageAsk slot ∷ [] }) (still (Counting c))
        (λ t. (b, (tt, tt))) (λ t. (b, tt))
    forgetting_is_below slot p b = (b, tt)

    mapped_is_below : (groups : GroupMapState) (p : Phase) → BelowIn p → BelowIn (mapped groups p)
    mapped_is_below groups (Listing l) b = b
    mapped_is_below groups p b = b

    listed_in_below : (server : ℕ) (held : List FragMeta) (p : Phase) → BelowIn p → Fine (listed_in server held p)
    listed_in_below server held (Listing l) b = list_is_below server held l b
    listed_in_below server held p b = (b, tt)

    counted_in_below : (count slot : ℕ) (counts : _) (p : Phase) → BelowIn p → Fine (counted_in count slot counts p)
    counted_in_below count slot counts (Counting c) b = counts_are_below count slot counts c b
    counted_in_below count slot counts p b = (b, tt)

    read_in_below : (read : Option Segment) (p : Phase) → BelowIn p → Fine (read_in read p)
    read_in_below read (Reading j segment) b = read_is_below read j segment b
    read_in_below read p b = (b, tt)

    answered_in_below : (answer : Check → Check) (p : Phase) → BelowIn p → Fine (answered_in answer p)
    answered_in_below answer (Checking j segment checks) b = looked_is_below j segment (any_asked checks) (map answer checks) b
    answered_in_below answer p b = (b, tt)

    moved_in_below : (p : Phase) → BelowIn p → Fine (moved_in p)
    moved_in_below (Checking j segment checks) b = moved_is_below j segment checks b
    moved_in_below p b = (b, tt)

    deleted_in_below : (server : ℕ) (name : SegName) (p : Phase) → BelowIn p → Fine (deleted_in server name p)
    deleted_in_below server name (Deleting j segment servers) b = deleted_is_below server name j segment servers b
    deleted_in_below server name p b = (b, tt)

    awaits_below : (p : Phase) → BelowIn p → Says (phase_asking p)
    awaits_below Greeting b = (tt, tt)
    awaits_below (Listing l) b = says_lists (EmptiesBelow start history) (λ server. tt) l.awaited
    awaits_below (Counting c) b = says_usage_asks (EmptiesBelow start history) (λ slot. tt) (awaited_slots c.usages)
    awaits_below (Reading j segment) b = (b.0, tt)
    awaits_below (Checking j segment checks) b = says_questions (EmptiesBelow start history) (λ block place. tt) segment checks
    awaits_below (Deleting j segment servers) b = says_deletes (EmptiesBelow start history) segment.name (λ server. b.0) servers
    awaits_below Over b = tt

  abbrev FineDone : List In → Done → Type 0
  FineDone history d = BelowIn history d.state.phase × Says history d.outs

  in_later : (history : List In) (i : In) (p : Phase) → BelowIn history p → BelowIn (history ++ i ∷ []) p
  in_later history i Greeting b = tt
  in_later history i (Listing l) b = (welcomed_later history i l.slots b.0, b.1)
  in_later history i (Counting c) b = all_moved_to (IsBelow start history) (IsBelow start (history ++ i ∷ [])) (keys_of c.candidates) (below_later history i) b
  in_later history i (Reading j segment) b = (
    below_later history i segment.name b.0,
    all_moved_to (λ (s : SegRef). IsBelow start history s.name) (λ (s : SegRef). IsBelow start (history ++ i ∷ []) s.name) j.left
        (λ s. below_later history i s.name) b.1,
  )
  in_later history i (Checking j segment checks) b = (
    below_later history i segment.name b.0,
    all_moved_to (λ (s : SegRef). IsBelow start history s.name) (λ (s : SegRef). IsBelow start (history ++ i ∷ []) s.name) j.left
        (λ s. below_later history i s.name) b.1,
  )
  in_later history i (Deleting j segment servers) b = (
    below_later history i segment.name b.0,
    all_moved_to (λ (s : SegRef). IsBelow start history s.name) (λ (s : SegRef). IsBelow start (history ++ i ∷ []) s.name) j.left
        (λ s. below_later history i s.name) b.1,
  )
  in_later history i Over b = tt

  welcome_is_below : (history : List In) (slots : List SlotNews) (groups : GroupMapState)
      → BelowIn (history ++ input.Welcome slots groups ∷ []) (state_after start history).phase
      → FineDone (history ++ input.Welcome slots groups ∷ []) (on_welcome (state_after start history) slots groups)
  unfolding on_welcome
  welcome_is_below history slots groups b =
      let s : CleaningState = state_after start history in
      by_test (FineDone (history ++ input.Welcome slots groups ∷ [])) (is_greeting s.phase && (length slots == slot_count)) (welcomed s slots groups) (still s)
      (λ t. (
        (record { groups = groups; before = history; later = []; split = refl; awaited = and_first (is_greeting s.phase) (length slots == slot_count) t }, tt),
        says_lists (EmptiesBelow start (history ++ input.Welcome slots groups ∷ [])) (λ server. tt) (listing_begin slots groups).awaited,
      ))
      (λ t. (b, tt))

  promise_is_below : (h : List In) (s : CleaningState) (slot epoch : ℕ) → BelowIn h s.phase → FineDone h (on_promise s slot epoch)
  unfolding on_promise
  promise_is_below h s slot epoch b =
      by_test (FineDone h) (is_above s.promised slot epoch) (turned (record s { promised = promised_with s.promised slot epoch }) (forgetting slot s.phase))
      (still s)
      (λ t. forgetting_is_below h slot s.phase b)
      (λ t. (b, tt))

  usage_is_below : (h : List In) (s : CleaningState) (slot epoch : ℕ) (counts : _) → BelowIn h s.phase → FineDone h (on_usage s slot epoch counts)
  unfolding on_usage
  usage_is_below h s slot epoch counts b =
      by_test (FineDone h) (is_promised s.promised slot epoch) (turned s (counted_in s.count slot counts s.phase)) (still s)
      (λ t. counted_in_below h s.count slot counts s.phase b)
      (λ t. (b, tt))

  live_is_below : (h : List In) (s : CleaningState) (block : BlockId) (epoch : ℕ) (entry : Entry) → BelowIn h s.phase → FineDone h (on_live s block epoch entry)
  unfolding on_live
  live_is_below h s block epoch entry b =
      by_test (FineDone h) (cleaning_hears s.promised block epoch && may_move entry) (turned s (answered_in (live_at block entry) s.phase)) (still s)
      (λ t. answered_in_below h (live_at block entry) s.phase b)
      (λ t. (b, tt))

  dead_is_below : (h : List In) (s : CleaningState) (block : BlockId) (epoch : ℕ) → BelowIn h s.phase → FineDone h (on_dead s block epoch)
  unfolding on_dead
  dead_is_below h s block epoch b =
      by_test (FineDone h) (cleaning_hears s.promised block epoch) (turned s (answered_in (dead_at block) s.phase)) (still s)
      (λ t. answered_in_below h (dead_at block) s.phase b)
      (λ t. (b, tt))

  turn_is_below : (history : List In) (i : In) → BelowIn (history ++ i ∷ []) (state_after start history).phase
      → FineDone (history ++ i ∷ []) (transition (state_after start history) i)
  turn_is_below history (input.Welcome slots groups) b = welcome_is_below history slots groups b
  turn_is_below history (input.Promise slot epoch) b = promise_is_below (history ++ input.Promise slot epoch ∷ []) (state_after start history) slot epoch b
  turn_is_below history (input.Maps groups) b = (mapped_is_below (history ++ input.Maps groups ∷ []) groups (state_after start history).phase b, tt)
  turn_is_below history (input.Listed server held) b =
      listed_in_below (history ++ input.Listed server held ∷ []) server held (state_after start history).phase b
  turn_is_below history (input.Usage slot epoch counts) b =
      usage_is_below (history ++ input.Usage slot epoch counts ∷ []) (state_after start history) slot epoch counts b
  turn_is_below history (input.Read read) b = read_in_below (history ++ input.Read read ∷ []) read (state_after start history).phase b
  turn_is_below history (input.Live block epoch entry) b =
      live_is_below (history ++ input.Live block epoch entry ∷ []) (state_after start history) block epoch entry b
  turn_is_below history (input.Dead block epoch) b = dead_is_below (history ++ input.Dead block epoch ∷ []) (state_after start history) block epoch b
  turn_is_below history input.Moved b = moved_in_below (history ++ input.Moved ∷ []) (state_after start history).phase b
  turn_is_below history (input.Deleted server name) b =
      deleted_in_below (history ++ input.Deleted server name ∷ []) server name (state_after start history).phase b
  turn_is_below history input.Tick b = (b, awaits_below (history ++ input.Tick ∷ []) (state_after start history).phase b)

  below_always : BelowIn [] start.phase → (history : List In) → BelowIn history (state_after start history).phase
  below_always b =
      always start (λ history s. BelowIn history s.phase) b
      (λ history i k. (turn_is_below history i (in_later history i (state_after start history).phase k)).0)

pub all_empties_below : (count : ℕ) (history : List In) (i : In)
    → AllByRecursion (EmptiesBelow (cleaning_start count) (history ++ i ∷ [])) (transition (state_after (cleaning_start count) history) i).outs
all_empties_below count history i =
    (turn_is_below (cleaning_start count) history i
    (in_later (cleaning_start count) history i (state_after (cleaning_start count) history).phase (below_always (cleaning_start count) tt history))).1
