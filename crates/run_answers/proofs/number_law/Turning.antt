-- What a job of the cleaner makes of an input: it asks, it reads the next segment, it has one deleted, or it is over.
use Rattle.std.proofs.Common.{◌≡◌, ◌⊎◌, ◌==◌, ◌&&◌, min, not, ℕ, Bool, true, false, List, [], ◌∷◌, Option, None, Some, inl, inr, length, map, refl, sym, ap, subst, ◌∙◌, arith}
use Rattle.std.specs.List.{AllByRecursion, cons_option}
use Rattle.group_map.specs.GroupMapState.{GroupMapState}
use Rattle.segment_format.specs.declared.segment.Segment.{Segment}
use Rattle.stripe_cleaner.specs.Checks.{all_dead, any_asked, checks_of, dead_at, is_awaited, live_at, moved_at, place_in, questions}
use Rattle.stripe_cleaner.specs.CleaningState.{CleaningState}
use Rattle.stripe_cleaner.specs.Counting.{CountingState, all_slots, awaited_slots, chosen, has_usage, is_counted}
use Rattle.stripe_cleaner.specs.declared.checks.Check.{Check}
use Rattle.stripe_cleaner.specs.declared.input.In.{In}
use Rattle.stripe_cleaner.specs.declared.input.In.TheVariants as input
use Rattle.stripe_cleaner.specs.declared.output.Out.{Out}
use Rattle.stripe_cleaner.specs.declared.output.Out.TheVariants as out
use Rattle.stripe_cleaner.specs.declared.phase.Phase.{Phase}
use Rattle.stripe_cleaner.specs.declared.phase.Phase.TheVariants.{Checking, Counting, Deleting, Greeting, Listing, Over, Reading}
use Rattle.stripe_cleaner.specs.Job as job
use Rattle.stripe_cleaner.specs.Job.{Turn, is_moving, same_name}
use Rattle.stripe_cleaner.specs.JobState.{JobState}
use Rattle.stripe_cleaner.specs.Listing.{ListingState, is_among, listing_begin, without}
use Rattle.stripe_cleaner.specs.Promises.{is_above, is_promised, promised_with}
use Rattle.stripe_cleaner.specs.Transition as transitions
use Rattle.xfs_base.proofs.Alls.{all_map}
use Rattle.xfs_base.proofs.Booleans.{and_first, and_second, by_test, contrary}
use Rattle.xfs_base.specs.declared.fragment.FragMeta.{FragMeta}
use Rattle.xfs_base.specs.declared.segment.SegName.{SegName}
use Rattle.xfs_base.specs.declared.segment.SegRef.{SegRef}
use Rattle.xfs_base.specs.Limits.{u32_end}
use Rattle.xfs_base.specs.Steps.{still}
use Rattle.run_answers.proofs.number_law.Choosing.{Apart, NoneNamed, chosen_apart}
use Rattle.run_answers.proofs.number_law.Tallies.{AtSegment, IsDeleted, IsWhole, PhaseSo}
use Rattle.run_answers.proofs.number_law.Tallies.IsDeleted.{Told, Untold}

-- ---- what is said

-- it neither reads, deletes nor ends
abbrev pub IsCalm : Out → Type 0
IsCalm (out.Fetch segment) = ⊥
IsCalm (out.Delete server name) = ⊥
IsCalm (out.Finished count) = ⊥
IsCalm _ = Unit {0}

-- what is in hand isn't a dropped segment of this name
abbrev pub IsFree : Option (SegName × Bool) → SegName → Type 0
IsFree None name = Unit {0}
IsFree (Some seen) name = seen.0 ≡ name → seen.1 ≡ false

pub data TurnSo (n : ℕ) (seen : Option (SegName × Bool)) : Turn → Type 0 where
  Calm : {t : Turn} → PhaseSo n seen t.state → AllByRecursion IsCalm t.outs → TurnSo n seen t
  Begins : (j : JobState) (segment : SegRef) → AtSegment n j segment → IsFree seen segment.name
      → TurnSo n seen (record { state = Reading j segment; outs = out.Fetch segment ∷ [] })
  Deletes : (j : JobState) (segment : SegRef) (servers : List ℕ) → Apart (segment ∷ j.left)
      → ((seen ≡ Some (segment.name, false)) × (j.deleted ≡ min n u32_end)) ⊎ IsDeleted n seen j segment servers
      → TurnSo n seen (record { state = Deleting j segment servers; outs = job.deletes segment.name servers })
  Ends : (j : JobState) → j.deleted ≡ min n u32_end → TurnSo n seen (record { state = Over; outs = out.Finished j.deleted ∷ [] })

-- a segment is in hand
abbrev pub HasSeen : Option (SegName × Bool) → Type 0
HasSeen None = ⊥
HasSeen (Some seen) = Unit {0}

-- a segment that is read is the one in hand
abbrev pub InputSo : Option (SegName × Bool) → In → Type 0
InputSo seen (input.Read None) = Unit {0}
InputSo seen (input.Read (Some read)) = HasSeen seen
InputSo seen _ = Unit {0}

whole_is : (seen : Option (SegName × Bool)) (name : SegName) → HasSeen seen → IsWhole seen name → seen ≡ Some (name, false)
whole_is None name has whole = absurd has
whole_is (Some s) name has whole = ap (λ (m : SegName). Some (m, s.1)) whole.0 ∙ ap (λ (d : Bool). Some (name, d)) whole.1

whole_free : (seen : Option (SegName × Bool)) (name : SegName) → IsWhole seen name → IsFree seen name
whole_free None name whole = tt
whole_free (Some s) name whole = λ same. whole.1

-- the one in hand has another name
other_free : (seen : Option (SegName × Bool)) (name other : SegName) → (other ≡ name → ⊥) → ((s : SegName × Bool) → seen ≡ Some s → s.0 ≡ name)
    → IsFree seen other
other_free None name other apart its = tt
other_free (Some s) name other apart its = λ same. absurd (apart (sym same ∙ its s refl))

none_counted : (n end : ℕ) → n ≡ 0 → 0 ≡ min n end
none_counted n end none = omega arith

module _ (n : ℕ) (seen : Option (SegName × Bool)) where
  abbrev Goes : Turn → Type 0
  Goes t = TurnSo n seen t

  stays : (p : Phase) → PhaseSo n seen p → Goes (still p)
  stays p h = Calm h tt

  -- ---- the emptying of segments

  next_so : (j : JobState) → j.deleted ≡ min n u32_end → Apart j.left
      → ((s : SegRef) (left : List SegRef) → j.left ≡ s ∷ left → IsFree seen s.name) → Goes (job.next j)
  next_so j counted apart free = by j.left refl
    where
      by : (left : List SegRef) → j.left ≡ left → Goes (job.next_of left j)
      by [] same = Ends j counted
      by (s ∷ left) same =
          Begins (record j { left = left }) s (record { counted = counted; apart = subst Apart same apart }) (free s left same)

  -- behind a segment of this name
  behind : (segment : SegRef) (j : JobState) → Apart (segment ∷ j.left) → ((s : SegName × Bool) → seen ≡ Some s → s.0 ≡ segment.name)
      → (s : SegRef) (left : List SegRef) → j.left ≡ s ∷ left → IsFree seen s.name
  behind segment j apart its s left same =
      other_free seen segment.name s.name (subst (NoneNamed segment.name) same apart.0).0 its

  whole_its : (o : Option (SegName × Bool)) (name : SegName) → IsWhole o name → (s : SegName × Bool) → o ≡ Some s → s.0 ≡ name
  whole_its None name whole s same = absurd cc
  whole_its (Some x) name whole s same = (let one : x ≡ s = cc in ap (λ (y : SegName × Bool). y.0) (sym one) ∙ whole.0)

  named_its : (o : Option (SegName × Bool)) (name : SegName) (d : Bool) → o ≡ Some (name, d) → (s : SegName × Bool) → o ≡ Some s → s.0 ≡ name
  named_its o name d is s same = (let one : s ≡ (name, d) = same_pair s (name, d) (sym same ∙ is) in ap (λ (y : SegName × Bool). y.0) one)
    where
      same_pair : (x y : SegName × Bool) → Some x ≡ Some y → x ≡ y
      same_pair x y fact = cc

  asks_of : (segment : SegRef) (checks : List Check) → AllByRecursion IsCalm (questions segment checks)
  asks_of segment [] = tt
  asks_of segment (c ∷ checks) =
      by_test (λ (o : Option Out). AllByRecursion IsCalm (cons_option o (questions segment checks))) (is_awaited c.fate)
      (Some (out.Check c.block (place_in segment c.item))) None (λ _. (tt, asks_of segment checks)) (λ _. asks_of segment checks)

  job_delete_so : (j : JobState) (segment : SegRef) → AtSegment n j segment → seen ≡ Some (segment.name, false) → Goes (job.job_delete j segment)
  job_delete_so j segment at is = Deletes j segment (job.servers_of j.groups segment) at.apart (inl (is, at.counted))

  job_check_so : (j : JobState) (segment : SegRef) (checks : List Check) → AtSegment n j segment → seen ≡ Some (segment.name, false)
      → Goes (job.job_check j segment checks)
  unfolding job.job_check
  job_check_so j segment checks at is =
      by_test Goes (all_dead checks) (job.job_delete j segment) (record { state = Checking j segment checks; outs = questions segment checks })
      (λ _. job_delete_so j segment at is) (λ _. Calm (at, is) (asks_of segment checks))

  read_so : (read : Option Segment) (j : JobState) (segment : SegRef) → InputSo seen (input.Read read) → AtSegment n j segment → IsWhole seen segment.name
      → Goes (job.on_read read j segment)
  read_so None j segment has at whole = next_so j at.counted at.apart.1 (behind segment j at.apart (whole_its seen segment.name whole))
  read_so (Some read) j segment has at whole =
      by_test Goes (same_name read.name segment.name) (job.job_check j segment (checks_of 0 read.items)) (still (Reading j segment))
      (λ _. job_check_so j segment (checks_of 0 read.items) at (whole_is seen segment.name has whole)) (λ _. stays (Reading j segment) (at, whole))

  looked_so : (j : JobState) (segment : SegRef) (was_asked : Bool) (checks : List Check) → AtSegment n j segment → seen ≡ Some (segment.name, false)
      → Goes (job.job_look j segment was_asked checks)
  unfolding job.job_look
  looked_so j segment was_asked checks at is =
      by_test Goes (all_dead checks) (job.job_delete j segment) _ (λ _. job_delete_so j segment at is)
      (λ _. by_test Goes (was_asked && not (any_asked checks)) _ (still (Checking j segment checks)) (λ _. Calm (at, is) (tt, tt))
      (λ _. stays (Checking j segment checks) (at, is)))

  moved_so : (j : JobState) (segment : SegRef) (checks : List Check) → AtSegment n j segment → seen ≡ Some (segment.name, false)
      → Goes (job.on_moved j segment checks)
  moved_so j segment checks at is =
      by_test Goes (is_moving checks) (record { state = Checking j segment (map moved_at checks); outs = questions segment (map moved_at checks) })
      (still (Checking j segment checks)) (λ _. Calm (at, is) (asks_of segment (map moved_at checks))) (λ _. stays (Checking j segment checks) (at, is))

  deleted_so : (server : ℕ) (name : SegName) (j : JobState) (segment : SegRef) (servers : List ℕ) → Apart (segment ∷ j.left)
      → IsDeleted n seen j segment servers → Goes (job.on_deleted server name j segment servers)
  deleted_so server name j segment servers apart (Told is counted) =
      by_test Goes (same_name name segment.name && is_among servers server) (job.job_go_on j segment (without servers server))
      (still (Deleting j segment servers))
      (λ _. by_test Goes (length (without servers server) == 0) (job.next (job.counted j)) (still (Deleting j segment (without servers server)))
      (λ _. next_so (job.counted j) counted apart.1 (behind segment j apart (named_its seen segment.name true is)))
      (λ _. stays (Deleting j segment (without servers server)) (apart, Told is counted)))
      (λ _. stays (Deleting j segment servers) (apart, Told is counted))
  deleted_so server name j segment servers apart Untold =
      by_test Goes (same_name name segment.name && is_among [] server) (job.job_go_on j segment (without [] server)) (still (Deleting j segment []))
      (λ among. contrary (and_second (same_name name segment.name) (is_among [] server) among))
      (λ _. stays (Deleting j segment []) (apart, Untold))

  -- ---- each input in the phase that awaits it

  forgetting_so : (slot : ℕ) (p : Phase) → PhaseSo n seen p → Goes (transitions.forgetting slot p)
  forgetting_so slot (Counting c) h =
      by_test Goes (has_usage c.usages slot) _ (still (Counting c)) (λ _. Calm h (tt, tt)) (λ _. stays (Counting c) h)
  forgetting_so slot p h = stays p h

  mapped_phase : (groups : GroupMapState) (p : Phase) → PhaseSo n seen p → PhaseSo n seen (transitions.mapped groups p)
  mapped_phase groups Greeting h = h
  mapped_phase groups (Listing l) h = h
  mapped_phase groups (Counting c) h = h
  mapped_phase groups (Reading j segment) h = (record { counted = h.0.counted; apart = h.0.apart }, h.1)
  mapped_phase groups (Checking j segment checks) h = (record { counted = h.0.counted; apart = h.0.apart }, h.1)
  mapped_phase groups (Deleting j segment servers) h = (h.0, by servers h.1)
    where
      by : (servers : List ℕ) → IsDeleted n seen j segment servers → IsDeleted n seen (transitions.job_with groups j) segment servers
      by servers (Told is counted) = Told is counted
      by servers Untold = Untold
  mapped_phase groups Over h = h

  heard_so : (l : ListingState) → PhaseSo n seen (Listing l) → Goes (transitions.listing_go_on l)
  heard_so l h =
      by_test Goes (length l.awaited == 0)
      (record {
        state = Counting (record { groups = l.groups; candidates = l.candidates; usages = [] });
        outs = transitions.usage_asks all_slots;
      })
      (still (Listing l)) (λ _. Calm h (all_map IsCalm (λ (slot : ℕ). out.UsageAsk slot) (λ slot. tt) all_slots)) (λ _. stays (Listing l) h)

  list_so : (server : ℕ) (held : List FragMeta) (p : Phase) → PhaseSo n seen p → Goes (transitions.listed_in server held p)
  list_so server held (Listing l) h =
      by_test Goes (is_among l.awaited server) (transitions.listing_go_on (transitions.listing_hear l server held)) (still (Listing l))
      (λ _. heard_so (transitions.listing_hear l server held) h) (λ _. stays (Listing l) h)
  list_so server held p h = stays p h

  -- none was dropped before the choice
  chooses : (count : ℕ) (c : CountingState) → PhaseSo n seen (Counting c) → Goes (transitions.counting_go_on count c)
  chooses count c h =
      by_test Goes (is_counted c.usages) (job.next (record { groups = c.groups; left = chosen count c; deleted = 0 })) (still (Counting c))
      (λ _. next_so (record { groups = c.groups; left = chosen count c; deleted = 0 }) (none_counted n u32_end h.0) (chosen_apart count c)
      (λ s left same. subst (λ o. IsFree o s.name) (sym h.1) tt))
      (λ _. stays (Counting c) h)

  counts_so : (count slot : ℕ) (counts : List (SegName × ℕ)) (p : Phase) → PhaseSo n seen p → Goes (transitions.counted_in count slot counts p)
  counts_so count slot counts (Counting c) h =
      by_test Goes (has_usage c.usages slot) (still (Counting c)) (transitions.counting_go_on count (transitions.counting_hear slot counts c))
      (λ _. stays (Counting c) h) (λ _. chooses count (transitions.counting_hear slot counts c) h)
  counts_so count slot counts p h = stays p h

  reads_so : (read : Option Segment) (p : Phase) → InputSo seen (input.Read read) → PhaseSo n seen p → Goes (transitions.read_in read p)
  reads_so read (Reading j segment) has h = read_so read j segment has h.0 h.1
  reads_so read p has h = stays p h

  answered_so : (g : Check → Check) (p : Phase) → PhaseSo n seen p → Goes (transitions.answered_in g p)
  answered_so g (Checking j segment checks) h = looked_so j segment (any_asked checks) (map g checks) h.0 h.1
  answered_so g p h = stays p h

  settled_so : (p : Phase) → PhaseSo n seen p → Goes (transitions.moved_in p)
  settled_so (Checking j segment checks) h = moved_so j segment checks h.0 h.1
  settled_so p h = stays p h

  deletes_so : (server : ℕ) (name : SegName) (p : Phase) → PhaseSo n seen p → Goes (transitions.deleted_in server name p)
  deletes_so server name (Deleting j segment servers) h = deleted_so server name j segment servers h.0 h.1
  deletes_so server name p h = stays p h

  asking_so : (p : Phase) → PhaseSo n seen p → Goes (record { state = p; outs = transitions.phase_asking p })
  asking_so Greeting h = Calm h (tt, tt)
  asking_so (Listing l) h = Calm h (all_map IsCalm (λ (server : ℕ). out.List server) (λ server. tt) l.awaited)
  asking_so (Counting c) h = Calm h (all_map IsCalm (λ (slot : ℕ). out.UsageAsk slot) (λ slot. tt) (awaited_slots c.usages))
  asking_so (Reading j segment) h = Begins j segment h.0 (whole_free seen segment.name h.1)
  asking_so (Checking j segment checks) h = Calm h (asks_of segment checks)
  asking_so (Deleting j segment servers) h = Deletes j segment servers h.0 (inr h.1)
  asking_so Over h = Calm tt tt

  -- ---- all inputs

  abbrev pub DoneSo : transitions.Done → Type 0
  DoneSo d = Goes (record { state = d.state.phase; outs = d.outs })

  pub taken_so : (s : CleaningState) (i : In) → InputSo seen i → PhaseSo n seen s.phase → DoneSo (transitions.transition s i)
  unfolding transitions.on_welcome transitions.on_promise transitions.on_usage transitions.on_live transitions.on_dead
  taken_so s (input.Welcome slots groups) has h =
      by_test DoneSo (transitions.is_greeting s.phase && (length slots == 8)) (transitions.welcomed s slots groups) (still s)
      (λ greets. by s.phase h (and_first (transitions.is_greeting s.phase) (length slots == 8) greets)) (λ _. stays s.phase h)
    where
      by : (p : Phase) → PhaseSo n seen p → transitions.is_greeting p ≡ true → DoneSo (transitions.welcomed s slots groups)
      by Greeting h greets = Calm h (all_map IsCalm (λ (server : ℕ). out.List server) (λ server. tt) (listing_begin slots groups).awaited)
      by (Listing l) h greets = contrary greets
      by (Counting c) h greets = contrary greets
      by (Reading j segment) h greets = contrary greets
      by (Checking j segment checks) h greets = contrary greets
      by (Deleting j segment servers) h greets = contrary greets
      by Over h greets = contrary greets
  taken_so s (input.Promise slot epoch) has h =
      by_test DoneSo (is_above s.promised slot epoch)
      (transitions.turned (record s { promised = promised_with s.promised slot epoch }) (transitions.forgetting slot s.phase)) (still s)
      (λ _. forgetting_so slot s.phase h) (λ _. stays s.phase h)
  taken_so s (input.Maps groups) has h = Calm (mapped_phase groups s.phase h) tt
  taken_so s (input.Listed server held) has h = list_so server held s.phase h
  taken_so s (input.Usage slot epoch counts) has h =
      by_test DoneSo (is_promised s.promised slot epoch) (transitions.turned s (transitions.counted_in s.count slot counts s.phase)) (still s)
      (λ _. counts_so s.count slot counts s.phase h) (λ _. stays s.phase h)
  taken_so s (input.Read read) has h = reads_so read s.phase has h
  taken_so s (input.Live block epoch entry) has h =
      by_test DoneSo (transitions.cleaning_hears s.promised block epoch && transitions.may_move entry)
      (transitions.turned s (transitions.answered_in (live_at block entry) s.phase)) (still s) (λ _. answered_so (live_at block entry) s.phase h)
      (λ _. stays s.phase h)
  taken_so s (input.Dead block epoch) has h =
      by_test DoneSo (transitions.cleaning_hears s.promised block epoch) (transitions.turned s (transitions.answered_in (dead_at block) s.phase)) (still s)
      (λ _. answered_so (dead_at block) s.phase h) (λ _. stays s.phase h)
  taken_so s input.Moved has h = settled_so s.phase h
  taken_so s (input.Deleted server name) has h = deletes_so server name s.phase h
  taken_so s input.Tick has h = asking_so s.phase h
