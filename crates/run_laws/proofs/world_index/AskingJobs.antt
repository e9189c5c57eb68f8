-- What each input makes of a job of the cleaner, as far as it asks: it reads a segment, checks blocks of the segment that it has, or asks about none.
use Rattle.std.proofs.Common.{◌≡◌, ◌⊎◌, ◌==◌, ◌&&◌, not, ℕ, Bool, List, [], ◌∷◌, Option, None, Some, length, map, inl, inr, refl}
use Rattle.std.specs.List.{AllByRecursion, cons_option}
use Rattle.group_map.specs.GroupMapState.{GroupMapState}
use Rattle.segment_format.specs.declared.segment.Segment.{Segment}
use Rattle.stripe_cleaner.specs.Checks.{all_dead, any_asked, checks_of, dead_at, is_awaited, live_at, place_in, questions}
use Rattle.stripe_cleaner.specs.CleaningState.{CleaningState}
use Rattle.stripe_cleaner.specs.Counting.{CountingState, all_slots, awaited_slots, chosen, has_usage, is_counted}
use Rattle.stripe_cleaner.specs.declared.checks.Check.{Check}
use Rattle.stripe_cleaner.specs.declared.input.In.{In}
use Rattle.stripe_cleaner.specs.declared.input.In.TheVariants as input
use Rattle.stripe_cleaner.specs.declared.output.Out.{Out}
use Rattle.stripe_cleaner.specs.declared.output.Out.TheVariants as out
use Rattle.stripe_cleaner.specs.declared.phase.Phase.{Phase}
use Rattle.stripe_cleaner.specs.declared.phase.Phase.TheVariants.{Greeting, Listing, Counting, Reading, Checking, Deleting, Over}
use Rattle.stripe_cleaner.specs.Job as job
use Rattle.stripe_cleaner.specs.Job.{Turn, is_moving, same_name}
use Rattle.stripe_cleaner.specs.JobState.{JobState}
use Rattle.stripe_cleaner.specs.Listing.{ListingState, is_among}
use Rattle.stripe_cleaner.specs.Promises.{is_above, is_promised}
use Rattle.stripe_cleaner.specs.Transition as transitions
use Rattle.xfs_base.proofs.Booleans.{by_test}
use Rattle.xfs_base.specs.declared.fragment.FragMeta.{FragMeta}
use Rattle.xfs_base.specs.declared.segment.SegName.{SegName}
use Rattle.xfs_base.specs.declared.segment.SegRef.{SegRef}
use Rattle.xfs_base.specs.Steps.{still}
use Rattle.xfs_base.proofs.Alls.{all_map}
use Rattle.xfs_base.specs.Limits.{slot_count}
use Rattle.run_laws.specs.world_index.Asking.{IsOfJob}

-- ---- what is said

-- it neither reads nor checks
abbrev pub IsCalm : Out → Type 0
IsCalm (out.Fetch segment) = ⊥
IsCalm (out.Check block place) = ⊥
IsCalm _ = Unit {0}

-- it checks a block of this segment
abbrev pub IsCheckOf : SegRef → Out → Type 0
IsCheckOf segment (out.Check block place) = place.seg ≡ segment
IsCheckOf segment _ = ⊥

-- the segment in hand is of this phase, if it was of that
abbrev pub Follows : Phase → Phase → Type 0
Follows old new = (name : SegName) → IsOfJob old name → IsOfJob new name

pub record CalmSo (old new : Phase) (outs : List Out) : Type 0 where
  pub follows : Follows old new
  pub calm : AllByRecursion IsCalm outs

pub record ReadsSo (new : Phase) (outs : List Out) : Type 0 where
  pub job : JobState
  pub segment : SegRef
  pub becomes : new ≡ Reading job segment
  pub says : outs ≡ out.Fetch segment ∷ []

pub record ChecksSo (old new : Phase) (outs : List Out) : Type 0 where
  pub job : JobState
  pub segment : SegRef
  pub checks : List Check
  pub becomes : new ≡ Checking job segment checks
  pub follows : Follows old (Checking job segment checks)
  pub of : AllByRecursion (IsCheckOf segment) outs

abbrev pub TurnSo : Phase → Turn → Type 0
TurnSo old t = CalmSo old t.state t.outs ⊎ (ReadsSo t.state t.outs ⊎ ChecksSo old t.state t.outs)

abbrev calm : (old new : Phase) (outs : List Out) → Follows old new → AllByRecursion IsCalm outs → TurnSo old (record { state = new; outs = outs })
calm old new outs follows all = inl (record { follows = follows; calm = all })

stays : (old : Phase) → TurnSo old (still old)
stays old = calm old old [] (λ name h. h) tt

-- ---- the emptying of segments

next_so : (old : Phase) (left : List SegRef) (j : JobState) → TurnSo old (job.next_of left j)
next_so old [] j = calm old Over _ (λ name h. tt) (tt, tt)
next_so old (segment ∷ left) j = inr (inl (record { job = record j { left = left }; segment = segment; becomes = refl; says = refl }))

job_delete_so : (old : Phase) (j : JobState) (segment : SegRef) → TurnSo old (job.job_delete j segment)
job_delete_so old j segment = calm old _ _ (λ name h. tt)
    (all_map IsCalm (λ server. out.Delete server segment.name) (λ server. tt) (job.servers_of j.groups segment))

asks_of : (segment : SegRef) (checks : List Check) → AllByRecursion (IsCheckOf segment) (questions segment checks)
asks_of segment [] = tt
asks_of segment (c ∷ checks) =
    by_test (λ (o : Option Out). AllByRecursion (IsCheckOf segment) (cons_option o (questions segment checks))) (is_awaited c.fate)
    (Some (out.Check c.block (place_in segment c.item))) None (λ _. (refl, asks_of segment checks)) (λ _. asks_of segment checks)

deleted_so : (server : ℕ) (name : _) (j : JobState) (segment : SegRef) (servers : List ℕ)
    → TurnSo (Deleting j segment servers) (job.on_deleted server name j segment servers)
deleted_so server name j segment servers =
    by_test (TurnSo (Deleting j segment servers)) (same_name name segment.name && is_among servers server) _ (still (Deleting j segment servers))
    (λ _. by_test (TurnSo (Deleting j segment servers)) _ (job.next (job.counted j)) _ (λ _. next_so (Deleting j segment servers) j.left (job.counted j))
    (λ _. calm (Deleting j segment servers) _ [] (λ name h. tt) tt))
    (λ _. stays (Deleting j segment servers))

job_check_so : (j : JobState) (segment : SegRef) (checks : List Check) → TurnSo (Reading j segment) (job.job_check j segment checks)
unfolding job.job_check
job_check_so j segment checks =
    by_test (TurnSo (Reading j segment)) (all_dead checks) (job.job_delete j segment)
    (record { state = Checking j segment checks; outs = questions segment checks })
    (λ _. job_delete_so (Reading j segment) j segment)
    (λ _. inr (inr (record {
      job = j;
      segment = segment;
      checks = checks;
      becomes = refl;
      follows = λ name h. h;
      of = asks_of segment checks;
    })))

read_so : (read : Option Segment) (j : JobState) (segment : SegRef) → TurnSo (Reading j segment) (job.on_read read j segment)
read_so None j segment = next_so (Reading j segment) j.left j
read_so (Some read) j segment =
    by_test (TurnSo (Reading j segment)) (same_name read.name segment.name) (job.job_check j segment (checks_of 0 read.items)) (still (Reading j segment))
    (λ _. job_check_so j segment (checks_of 0 read.items)) (λ _. stays (Reading j segment))

looked_so : (j : JobState) (segment : SegRef) (was : List Check) (was_asked : Bool) (checks : List Check)
    → TurnSo (Checking j segment was) (job.job_look j segment was_asked checks)
unfolding job.job_look
looked_so j segment was was_asked checks =
    by_test (TurnSo (Checking j segment was)) (all_dead checks) (job.job_delete j segment) _ (λ _. job_delete_so (Checking j segment was) j segment)
    (λ _. by_test (TurnSo (Checking j segment was)) (was_asked && not (any_asked checks)) _ (still (Checking j segment checks))
    (λ _. calm (Checking j segment was) _ _ (λ name h. h) (tt, tt)) (λ _. calm (Checking j segment was) _ [] (λ name h. h) tt))

moved_so : (j : JobState) (segment : SegRef) (checks : List Check) → TurnSo (Checking j segment checks) (job.on_moved j segment checks)
moved_so j segment checks =
    by_test (TurnSo (Checking j segment checks)) (is_moving checks) _ (still (Checking j segment checks))
    (λ _. inr (inr (record {
      job = j;
      segment = segment;
      checks = map _ checks;
      becomes = refl;
      follows = λ name h. h;
      of = asks_of segment (map _ checks);
    })))
    (λ _. stays (Checking j segment checks))

-- ---- each input in the phase that awaits it

forgetting_so : (slot : ℕ) (p : Phase) → TurnSo p (transitions.forgetting slot p)
forgetting_so slot (Counting c) = by_test (TurnSo (Counting c)) (has_usage c.usages slot) _ (still (Counting c))
    (λ _. calm (Counting c) _ _ (λ name h. tt) (tt, tt)) (λ _. stays (Counting c))
forgetting_so slot Greeting = stays Greeting
forgetting_so slot (Listing l) = stays (Listing l)
forgetting_so slot (Reading j segment) = stays (Reading j segment)
forgetting_so slot (Checking j segment checks) = stays (Checking j segment checks)
forgetting_so slot (Deleting j segment servers) = stays (Deleting j segment servers)
forgetting_so slot Over = stays Over

mapped_so : (groups : GroupMapState) (p : Phase) → TurnSo p (still (transitions.mapped groups p))
mapped_so groups Greeting = stays Greeting
mapped_so groups (Listing l) = calm (Listing l) _ [] (λ name h. tt) tt
mapped_so groups (Counting c) = calm (Counting c) _ [] (λ name h. tt) tt
mapped_so groups (Reading j segment) = calm (Reading j segment) _ [] (λ name h. h) tt
mapped_so groups (Checking j segment checks) = calm (Checking j segment checks) _ [] (λ name h. h) tt
mapped_so groups (Deleting j segment servers) = calm (Deleting j segment servers) _ [] (λ name h. tt) tt
mapped_so groups Over = stays Over

heard_so : (old : Phase) (l : ListingState) → TurnSo old (transitions.listing_go_on l)
heard_so old l =
    by_test (TurnSo old) (length l.awaited == 0)
    (record {
      state = Counting (record { groups = l.groups; candidates = l.candidates; usages = [] });
      outs = transitions.usage_asks all_slots;
    })
    (still (Listing l))
    (λ _. calm old (Counting (record { groups = l.groups; candidates = l.candidates; usages = [] })) (transitions.usage_asks all_slots) (λ name h. tt)
    (all_map IsCalm (λ slot. out.UsageAsk slot) (λ slot. tt) all_slots))
    (λ _. calm old (Listing l) [] (λ name h. tt) tt)

listed_in_so : (server : ℕ) (held : List FragMeta) (p : Phase) → TurnSo p (transitions.listed_in server held p)
listed_in_so server held (Listing l) =
    by_test (TurnSo (Listing l)) (is_among l.awaited server) (transitions.listing_go_on (transitions.listing_hear l server held)) (still (Listing l))
    (λ _. heard_so (Listing l) (transitions.listing_hear l server held)) (λ _. stays (Listing l))
listed_in_so server held Greeting = stays Greeting
listed_in_so server held (Counting c) = stays (Counting c)
listed_in_so server held (Reading j segment) = stays (Reading j segment)
listed_in_so server held (Checking j segment checks) = stays (Checking j segment checks)
listed_in_so server held (Deleting j segment servers) = stays (Deleting j segment servers)
listed_in_so server held Over = stays Over

counting_go_on_so : (old : Phase) (count : ℕ) (c : CountingState) → TurnSo old (transitions.counting_go_on count c)
counting_go_on_so old count c =
    by_test (TurnSo old) (is_counted c.usages) (job.next (record { groups = c.groups; left = chosen count c; deleted = 0 })) (still (Counting c))
    (λ _. next_so old (chosen count c) (record { groups = c.groups; left = chosen count c; deleted = 0 })) (λ _. calm old (Counting c) [] (λ name h. tt) tt)

counted_in_so : (count slot : ℕ) (counts : List (SegName × ℕ)) (p : Phase) → TurnSo p (transitions.counted_in count slot counts p)
counted_in_so count slot counts (Counting c) =
    by_test (TurnSo (Counting c)) (has_usage c.usages slot) (still (Counting c)) (transitions.counting_go_on count (transitions.counting_hear slot counts c))
    (λ _. stays (Counting c)) (λ _. counting_go_on_so (Counting c) count (transitions.counting_hear slot counts c))
counted_in_so count slot counts Greeting = stays Greeting
counted_in_so count slot counts (Listing l) = stays (Listing l)
counted_in_so count slot counts (Reading j segment) = stays (Reading j segment)
counted_in_so count slot counts (Checking j segment checks) = stays (Checking j segment checks)
counted_in_so count slot counts (Deleting j segment servers) = stays (Deleting j segment servers)
counted_in_so count slot counts Over = stays Over

read_in_so : (read : Option Segment) (p : Phase) → TurnSo p (transitions.read_in read p)
read_in_so read (Reading j segment) = read_so read j segment
read_in_so read Greeting = stays Greeting
read_in_so read (Listing l) = stays (Listing l)
read_in_so read (Counting c) = stays (Counting c)
read_in_so read (Checking j segment checks) = stays (Checking j segment checks)
read_in_so read (Deleting j segment servers) = stays (Deleting j segment servers)
read_in_so read Over = stays Over

answered_so : (answer : Check → Check) (p : Phase) → TurnSo p (transitions.answered_in answer p)
answered_so answer (Checking j segment checks) = looked_so j segment checks (any_asked checks) (map answer checks)
answered_so answer Greeting = stays Greeting
answered_so answer (Listing l) = stays (Listing l)
answered_so answer (Counting c) = stays (Counting c)
answered_so answer (Reading j segment) = stays (Reading j segment)
answered_so answer (Deleting j segment servers) = stays (Deleting j segment servers)
answered_so answer Over = stays Over

moved_in_so : (p : Phase) → TurnSo p (transitions.moved_in p)
moved_in_so (Checking j segment checks) = moved_so j segment checks
moved_in_so Greeting = stays Greeting
moved_in_so (Listing l) = stays (Listing l)
moved_in_so (Counting c) = stays (Counting c)
moved_in_so (Reading j segment) = stays (Reading j segment)
moved_in_so (Deleting j segment servers) = stays (Deleting j segment servers)
moved_in_so Over = stays Over

deleted_in_so : (server : ℕ) (name : SegName) (p : Phase) → TurnSo p (transitions.deleted_in server name p)
deleted_in_so server name (Deleting j segment servers) = deleted_so server name j segment servers
deleted_in_so server name Greeting = stays Greeting
deleted_in_so server name (Listing l) = stays (Listing l)
deleted_in_so server name (Counting c) = stays (Counting c)
deleted_in_so server name (Reading j segment) = stays (Reading j segment)
deleted_in_so server name (Checking j segment checks) = stays (Checking j segment checks)
deleted_in_so server name Over = stays Over

phase_asking_so : (p : Phase) → TurnSo p (record { state = p; outs = transitions.phase_asking p })
phase_asking_so Greeting = calm Greeting Greeting _ (λ name h. h) (tt, tt)
phase_asking_so (Listing l) = calm (Listing l) (Listing l) _ (λ name h. h) (all_map IsCalm (λ server. out.List server) (λ server. tt) l.awaited)
phase_asking_so (Counting c) = calm (Counting c) (Counting c) _ (λ name h. h) (all_map IsCalm (λ slot. out.UsageAsk slot) (λ slot. tt) (awaited_slots c.usages))
phase_asking_so (Reading j segment) = inr (inl (record { job = j; segment = segment; becomes = refl; says = refl }))
phase_asking_so (Checking j segment checks) =
    inr (inr (record { job = j; segment = segment; checks = checks; becomes = refl; follows = λ name h. h; of = asks_of segment checks }))
phase_asking_so (Deleting j segment servers) = calm (Deleting j segment servers) (Deleting j segment servers) _ (λ name h. h)
    (all_map IsCalm (λ server. out.Delete server segment.name) (λ server. tt) servers)
phase_asking_so Over = stays Over

-- ---- all inputs

abbrev pub DoneSo : CleaningState → transitions.Done → Type 0
DoneSo s d = TurnSo s.phase (record { state = d.state.phase; outs = d.outs })

pub transition_so : (s : CleaningState) (i : In) → DoneSo s (transitions.transition s i)
unfolding transitions.on_welcome transitions.on_promise transitions.on_usage transitions.on_live transitions.on_dead
transition_so s (input.Welcome slots groups) =
    by_test (DoneSo s) (transitions.is_greeting s.phase && (length slots == slot_count)) (transitions.welcomed s slots groups) (still s)
    (λ _. calm s.phase _ _ (λ name h. tt) (all_map IsCalm (λ server. out.List server) (λ server. tt) _)) (λ _. stays s.phase)
transition_so s (input.Promise slot epoch) =
    by_test (DoneSo s) (is_above s.promised slot epoch) _ (still s) (λ _. forgetting_so slot s.phase) (λ _. stays s.phase)
transition_so s (input.Maps groups) = mapped_so groups s.phase
transition_so s (input.Listed server held) = listed_in_so server held s.phase
transition_so s (input.Usage slot epoch counts) =
    by_test (DoneSo s) (is_promised s.promised slot epoch) _ (still s) (λ _. counted_in_so s.count slot counts s.phase) (λ _. stays s.phase)
transition_so s (input.Read read) = read_in_so read s.phase
transition_so s (input.Live block epoch entry) =
    by_test (DoneSo s) (transitions.cleaning_hears s.promised block epoch && transitions.may_move entry) _ (still s) (λ _. answered_so (live_at block entry) s.phase)
    (λ _. stays s.phase)
transition_so s (input.Dead block epoch) =
    by_test (DoneSo s) (transitions.cleaning_hears s.promised block epoch) _ (still s) (λ _. answered_so (dead_at block) s.phase) (λ _. stays s.phase)
transition_so s input.Moved = moved_in_so s.phase
transition_so s (input.Deleted server name) = deleted_in_so server name s.phase
transition_so s input.Tick = phase_asking_so s.phase
