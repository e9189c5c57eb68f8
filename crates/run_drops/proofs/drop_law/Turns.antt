-- What each input of a job of the cleaner leaves of it, beside the segment that the cleaner has in hand: what is checked, or deleted, is in hand, nothing but it
-- is deleted, and a further segment is fetched before it is read.
use Rattle.std.proofs.Common.{◌≡◌, ◌⊎◌, ◌==◌, ◌&&◌, not, ℕ, Bool, List, [], ◌∷◌, Option, None, Some, inl, inr, length, map, refl}
use Rattle.std.specs.List.{AllByRecursion, cons_option}
use Rattle.cleaner_job.specs.declared.hand.Hand.{Hand}
use Rattle.group_map.specs.GroupMapState.{GroupMapState}
use Rattle.segment_format.specs.declared.segment.Segment.{Segment}
use Rattle.stripe_cleaner.specs.Checks.{all_dead, any_asked, checks_of, dead_at, is_awaited, live_at, moved_at, place_in, questions}
use Rattle.stripe_cleaner.specs.CleaningState.{CleaningState}
use Rattle.stripe_cleaner.specs.Counting.{CountingState, all_slots, awaited_slots, chosen, has_usage, is_counted}
use Rattle.stripe_cleaner.specs.declared.checks.Check.{Check}
use Rattle.stripe_cleaner.specs.declared.input.In.{In}
use Rattle.stripe_cleaner.specs.declared.input.In.TheVariants as input
use Rattle.stripe_cleaner.specs.declared.output.Out.{Out}
use Rattle.stripe_cleaner.specs.declared.output.Out.TheVariants as out
use Rattle.stripe_cleaner.specs.declared.phase.Phase.{Phase}
use Rattle.stripe_cleaner.specs.declared.phase.Phase.TheVariants.{Greeting, Listing, Counting, Reading, Checking, Deleting, Over}
use Rattle.stripe_cleaner.specs.Job as job
use Rattle.stripe_cleaner.specs.Job.{Turn, is_moving, same_name}
use Rattle.stripe_cleaner.specs.JobState.{JobState}
use Rattle.stripe_cleaner.specs.Listing.{ListingState, listing_begin, is_among, without}
use Rattle.stripe_cleaner.specs.Promises.{is_above, is_promised}
use Rattle.stripe_cleaner.specs.Transition as transitions
use Rattle.xfs_base.proofs.Alls.{all_map}
use Rattle.xfs_base.proofs.Booleans.{by_test}
use Rattle.xfs_base.specs.declared.fragment.FragMeta.{FragMeta}
use Rattle.xfs_base.specs.declared.segment.SegName.{SegName}
use Rattle.xfs_base.specs.declared.segment.SegRef.{SegRef}
use Rattle.xfs_base.specs.Steps.{still}

-- ---- what is in hand

-- the segment of this name is
abbrev pub IsInHand : Option Hand → SegName → Type 0
IsInHand None name = ⊥
IsInHand (Some hand) name = hand.seg.name ≡ name

-- no other one is
abbrev pub NoOtherInHand : Option Hand → SegName → Type 0
NoOtherInHand None name = Unit {0}
NoOtherInHand (Some hand) name = hand.seg.name ≡ name

-- one is
abbrev pub HasOne : Option Hand → Type 0
HasOne None = ⊥
HasOne (Some hand) = Unit {0}

pub that_one : (hand : Option Hand) (name : SegName) → HasOne hand → NoOtherInHand hand name → IsInHand hand name
that_one None name one h = absurd one
that_one (Some hand) name one h = h

-- what a job reads is in hand, or will be once it can be read; what it checks or deletes is
abbrev pub PhaseSo : Option Hand → Phase → Type 0
PhaseSo hand (Reading j segment) = NoOtherInHand hand segment.name
PhaseSo hand (Checking j segment checks) = IsInHand hand segment.name
PhaseSo hand (Deleting j segment servers) = IsInHand hand segment.name
PhaseSo hand _ = Unit {0}

-- ---- what is said

abbrev pub Reads : Phase → SegRef → Type 0
Reads (Reading j segment) seg = segment ≡ seg
Reads _ seg = ⊥

abbrev pub Deletes : Phase → SegName → Type 0
Deletes (Deleting j segment servers) name = segment.name ≡ name
Deletes _ name = ⊥

-- a segment is fetched while it is read, and deleted while it is to be
abbrev pub OutSo : Phase → Out → Type 0
OutSo p (out.Fetch seg) = Reads p seg
OutSo p (out.Delete server name) = Deletes p name
OutSo p _ = Unit {0}

-- a further segment begins to be read: all that is said is that it be fetched
pub record BeginsReading (t : Turn) : Type 0 where
  pub seg : SegRef
  pub said : t.outs ≡ out.Fetch seg ∷ []

module _ (hand : Option Hand) where
  pub record TurnSo (t : Turn) : Type 0 where
    pub phase : PhaseSo hand t.state ⊎ BeginsReading t
    pub outs : AllByRecursion (OutSo t.state) t.outs

  -- what is read, is of the segment in hand
  abbrev pub ReadSo : Option Segment → Type 0
  ReadSo None = Unit {0}
  ReadSo (Some read) = HasOne hand

  abbrev pub InputSo : In → Type 0
  InputSo (input.Read read) = ReadSo read
  InputSo _ = Unit {0}

  stays : (p : Phase) → PhaseSo hand p → TurnSo (still p)
  stays p h = record { phase = inl h; outs = tt }

  -- ---- the emptying of segments

  next_so : (left : List SegRef) (j : JobState) → TurnSo (job.next_of left j)
  next_so [] j = record { phase = inl tt; outs = (tt, tt) }
  next_so (segment ∷ left) j = record { phase = inr (record { seg = segment; said = refl }); outs = (refl, tt) }

  job_delete_so : (j : JobState) (segment : SegRef) → IsInHand hand segment.name → TurnSo (job.job_delete j segment)
  job_delete_so j segment h = record {
    phase = inl h;
    outs = all_map (OutSo (job.job_delete j segment).state) (λ server. out.Delete server segment.name) (λ server. refl) (job.servers_of j.groups segment);
  }

  asks_of : (p : Phase) (segment : SegRef) (checks : List Check) → AllByRecursion (OutSo p) (questions segment checks)
  asks_of p segment [] = tt
  asks_of p segment (c ∷ checks) =
      by_test (λ (o : Option Out). AllByRecursion (OutSo p) (cons_option o (questions segment checks))) (is_awaited c.fate)
      (Some (out.Check c.block (place_in segment c.item))) None (λ _. (tt, asks_of p segment checks)) (λ _. asks_of p segment checks)

  deleted_so : (server : ℕ) (name : SegName) (j : JobState) (segment : SegRef) (servers : List ℕ) → IsInHand hand segment.name
      → TurnSo (job.on_deleted server name j segment servers)
  deleted_so server name j segment servers h =
      by_test TurnSo (same_name name segment.name && is_among servers server) (job.job_go_on j segment (without servers server))
      (still (Deleting j segment servers))
      (λ _. by_test TurnSo (length (without servers server) == 0) (job.next (job.counted j)) (still (Deleting j segment (without servers server)))
      (λ _. next_so j.left (job.counted j)) (λ _. stays (Deleting j segment (without servers server)) h))
      (λ _. stays (Deleting j segment servers) h)

  job_check_so : (j : JobState) (segment : SegRef) (checks : List Check) → IsInHand hand segment.name → TurnSo (job.job_check j segment checks)
  unfolding job.job_check
  job_check_so j segment checks h =
      by_test TurnSo (all_dead checks) (job.job_delete j segment) (record { state = Checking j segment checks; outs = questions segment checks })
      (λ _. job_delete_so j segment h) (λ _. record { phase = inl h; outs = asks_of (Checking j segment checks) segment checks })

  read_so : (read : Option Segment) (j : JobState) (segment : SegRef) → ReadSo read → NoOtherInHand hand segment.name → TurnSo (job.on_read read j segment)
  read_so None j segment one h = next_so j.left j
  read_so (Some read) j segment one h =
      by_test TurnSo (same_name read.name segment.name) (job.job_check j segment (checks_of 0 read.items)) (still (Reading j segment))
      (λ _. job_check_so j segment (checks_of 0 read.items) (that_one hand segment.name one h)) (λ _. stays (Reading j segment) h)

  looked_so : (j : JobState) (segment : SegRef) (was_asked : Bool) (checks : List Check) → IsInHand hand segment.name
      → TurnSo (job.job_look j segment was_asked checks)
  unfolding job.job_look
  looked_so j segment was_asked checks h =
      by_test TurnSo (all_dead checks) (job.job_delete j segment) _ (λ _. job_delete_so j segment h)
      (λ _. by_test TurnSo (was_asked && not (any_asked checks)) _ (still (Checking j segment checks)) (λ _. record { phase = inl h; outs = (tt, tt) })
      (λ _. stays (Checking j segment checks) h))

  moved_so : (j : JobState) (segment : SegRef) (checks : List Check) → IsInHand hand segment.name → TurnSo (job.on_moved j segment checks)
  moved_so j segment checks h =
      by_test TurnSo (is_moving checks) (record { state = Checking j segment (map moved_at checks); outs = questions segment (map moved_at checks) })
      (still (Checking j segment checks))
      (λ _. record { phase = inl h; outs = asks_of (Checking j segment (map moved_at checks)) segment (map moved_at checks) })
      (λ _. stays (Checking j segment checks) h)

  -- ---- each input in the phase that awaits it

  forgetting_so : (slot : ℕ) (p : Phase) → PhaseSo hand p → TurnSo (transitions.forgetting slot p)
  forgetting_so slot (Counting c) h =
      by_test TurnSo (has_usage c.usages slot) _ (still (Counting c)) (λ _. record { phase = inl tt; outs = (tt, tt) }) (λ _. stays (Counting c) tt)
  forgetting_so slot p h = stays p h

  mapped_so : (groups : GroupMapState) (p : Phase) → PhaseSo hand p → TurnSo (still (transitions.mapped groups p))
  mapped_so groups Greeting h = stays Greeting tt
  mapped_so groups (Listing l) h = record { phase = inl tt; outs = tt }
  mapped_so groups (Counting c) h = record { phase = inl tt; outs = tt }
  mapped_so groups (Reading j segment) h = record { phase = inl h; outs = tt }
  mapped_so groups (Checking j segment checks) h = record { phase = inl h; outs = tt }
  mapped_so groups (Deleting j segment servers) h = record { phase = inl h; outs = tt }
  mapped_so groups Over h = stays Over tt

  heard_so : (l : ListingState) → TurnSo (transitions.listing_go_on l)
  heard_so l =
      by_test TurnSo (length l.awaited == 0)
      (record {
        state = Counting (record { groups = l.groups; candidates = l.candidates; usages = [] });
        outs = transitions.usage_asks all_slots;
      })
      (still (Listing l))
      (λ _. record {
        phase = inl tt;
        outs = all_map (OutSo (Counting (record { groups = l.groups; candidates = l.candidates; usages = [] }))) (λ slot. out.UsageAsk slot) (λ slot. tt)
            all_slots;
      }) (λ _. stays (Listing l) tt)

  listing_go_on_so : (server : ℕ) (held : List FragMeta) (p : Phase) → PhaseSo hand p → TurnSo (transitions.listed_in server held p)
  listing_go_on_so server held (Listing l) h =
      by_test TurnSo (is_among l.awaited server) (transitions.listing_go_on (transitions.listing_hear l server held)) (still (Listing l))
      (λ _. heard_so (transitions.listing_hear l server held)) (λ _. stays (Listing l) tt)
  listing_go_on_so server held p h = stays p h

  counting_go_on_so : (count : ℕ) (c : CountingState) → TurnSo (transitions.counting_go_on count c)
  counting_go_on_so count c =
      by_test TurnSo (is_counted c.usages) (job.next (record { groups = c.groups; left = chosen count c; deleted = 0 })) (still (Counting c))
      (λ _. next_so (chosen count c) (record { groups = c.groups; left = chosen count c; deleted = 0 })) (λ _. stays (Counting c) tt)

  counted_in_so : (count slot : ℕ) (counts : List (SegName × ℕ)) (p : Phase) → PhaseSo hand p → TurnSo (transitions.counted_in count slot counts p)
  counted_in_so count slot counts (Counting c) h =
      by_test TurnSo (has_usage c.usages slot) (still (Counting c)) (transitions.counting_go_on count (transitions.counting_hear slot counts c))
      (λ _. stays (Counting c) tt) (λ _. counting_go_on_so count (transitions.counting_hear slot counts c))
  counted_in_so count slot counts p h = stays p h

  read_in_so : (read : Option Segment) (p : Phase) → ReadSo read → PhaseSo hand p → TurnSo (transitions.read_in read p)
  read_in_so read (Reading j segment) one h = read_so read j segment one h
  read_in_so read Greeting one h = stays Greeting tt
  read_in_so read (Listing l) one h = stays (Listing l) tt
  read_in_so read (Counting c) one h = stays (Counting c) tt
  read_in_so read (Checking j segment checks) one h = stays (Checking j segment checks) h
  read_in_so read (Deleting j segment servers) one h = stays (Deleting j segment servers) h
  read_in_so read Over one h = stays Over tt

  answered_so : (g : Check → Check) (p : Phase) → PhaseSo hand p → TurnSo (transitions.answered_in g p)
  answered_so g (Checking j segment checks) h = looked_so j segment (any_asked checks) (map g checks) h
  answered_so g p h = stays p h

  moved_in_so : (p : Phase) → PhaseSo hand p → TurnSo (transitions.moved_in p)
  moved_in_so (Checking j segment checks) h = moved_so j segment checks h
  moved_in_so p h = stays p h

  deleted_in_so : (server : ℕ) (name : SegName) (p : Phase) → PhaseSo hand p → TurnSo (transitions.deleted_in server name p)
  deleted_in_so server name (Deleting j segment servers) h = deleted_so server name j segment servers h
  deleted_in_so server name p h = stays p h

  phase_asking_so : (p : Phase) → AllByRecursion (OutSo p) (transitions.phase_asking p)
  phase_asking_so Greeting = (tt, tt)
  phase_asking_so (Listing l) = all_map (OutSo (Listing l)) (λ server. out.List server) (λ server. tt) l.awaited
  phase_asking_so (Counting c) = all_map (OutSo (Counting c)) (λ slot. out.UsageAsk slot) (λ slot. tt) (awaited_slots c.usages)
  phase_asking_so (Reading j segment) = (refl, tt)
  phase_asking_so (Checking j segment checks) = asks_of (Checking j segment checks) segment checks
  phase_asking_so (Deleting j segment servers) = all_map (OutSo (Deleting j segment servers)) (λ server. out.Delete server segment.name) (λ server. refl) servers
  phase_asking_so Over = tt

  -- ---- all inputs

  abbrev pub DoneSo : transitions.Done → Type 0
  DoneSo d = TurnSo (record { state = d.state.phase; outs = d.outs })

  pub taken_so : (s : CleaningState) (i : In) → InputSo i → PhaseSo hand s.phase → DoneSo (transitions.transition s i)
  unfolding transitions.on_welcome transitions.on_promise transitions.on_usage transitions.on_live transitions.on_dead
  taken_so s (input.Welcome slots groups) one h =
      by_test DoneSo (transitions.is_greeting s.phase && (length slots == 8)) (transitions.welcomed s slots groups) (still s)
      (λ _. record { phase = inl tt; outs = all_map (OutSo (Listing (listing_begin slots groups))) (λ server. out.List server) (λ server. tt) (listing_begin slots groups).awaited }) (λ _. stays s.phase h)
  taken_so s (input.Promise slot epoch) one h =
      by_test DoneSo (is_above s.promised slot epoch) _ (still s) (λ _. forgetting_so slot s.phase h) (λ _. stays s.phase h)
  taken_so s (input.Maps groups) one h = mapped_so groups s.phase h
  taken_so s (input.Listed server held) one h = listing_go_on_so server held s.phase h
  taken_so s (input.Usage slot epoch counts) one h =
      by_test DoneSo (is_promised s.promised slot epoch) _ (still s) (λ _. counted_in_so s.count slot counts s.phase h) (λ _. stays s.phase h)
  taken_so s (input.Read read) one h = read_in_so read s.phase one h
  taken_so s (input.Live block epoch entry) one h =
      by_test DoneSo (transitions.cleaning_hears s.promised block epoch && transitions.may_move entry) _ (still s)
      (λ _. answered_so (live_at block entry) s.phase h) (λ _. stays s.phase h)
  taken_so s (input.Dead block epoch) one h =
      by_test DoneSo (transitions.cleaning_hears s.promised block epoch) _ (still s) (λ _. answered_so (dead_at block) s.phase h) (λ _. stays s.phase h)
  taken_so s input.Moved one h = moved_in_so s.phase h
  taken_so s (input.Deleted server name) one h = deleted_in_so server name s.phase h
  taken_so s input.Tick one h = record { phase = inl h; outs = phase_asking_so s.phase }
