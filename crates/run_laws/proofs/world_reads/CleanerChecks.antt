-- What each input of a job of the cleaner has it check: Blocks of the segment that it checks already, or that it reads with the input, at their places.
use Rattle.std.proofs.Common.{◌≡◌, ◌==◌, ◌&&◌, not, ℕ, Bool, List, [], ◌∷◌, Option, None, Some, length, map}
use Rattle.std.proofs.lemmas.Map.Views.{tells_apart}
use Rattle.std.specs.List.{AllByRecursion, cons_option}
use Rattle.group_map.specs.GroupMapState.{GroupMapState}
use Rattle.segment_format.specs.declared.segment.Segment.{Segment}
use Rattle.stripe_cleaner.specs.Checks.{after_dead, after_live, all_dead, any_asked, checks_of, dead_at, is_awaited, live_at, moved_at, place_in, questions}
use Rattle.stripe_cleaner.specs.CleaningState.{CleaningState}
use Rattle.stripe_cleaner.specs.Counting.{CountingState, all_slots, awaited_slots, chosen, has_usage, is_counted}
use Rattle.stripe_cleaner.specs.declared.checks.Check.{Check}
use Rattle.stripe_cleaner.specs.declared.input.In.{In}
use Rattle.stripe_cleaner.specs.declared.input.In.TheVariants as input
use Rattle.stripe_cleaner.specs.declared.output.Out.{Out}
use Rattle.stripe_cleaner.specs.declared.output.Out.TheVariants as out
use Rattle.stripe_cleaner.specs.declared.phase.Phase.{Phase}
use Rattle.stripe_cleaner.specs.declared.phase.Phase.TheVariants.{Greeting, Listing, Counting, Reading, Checking, Deleting, Over}
use Rattle.stripe_cleaner.specs.Job as job
use Rattle.stripe_cleaner.specs.Job.{Turn, is_moving, same_name}
use Rattle.stripe_cleaner.specs.JobState.{JobState}
use Rattle.stripe_cleaner.specs.Listing.{ListingState, is_among, without}
use Rattle.stripe_cleaner.specs.Promises.{is_above, is_promised}
use Rattle.stripe_cleaner.specs.Transition as transitions
use Rattle.xfs_base.proofs.Booleans.{by_test}
use Rattle.xfs_base.proofs.Orders.{seg_cmp_exact}
use Rattle.xfs_base.specs.Blocks.{same_block}
use Rattle.xfs_base.specs.declared.block.BlockId.{BlockId}
use Rattle.xfs_base.specs.declared.entry.Entry.{Entry}
use Rattle.xfs_base.specs.declared.entry.Place.{Place}
use Rattle.xfs_base.specs.declared.fragment.FragMeta.{FragMeta}
use Rattle.xfs_base.specs.declared.segment.SegName.{SegName}
use Rattle.xfs_base.specs.declared.segment.SegRef.{SegRef}
use Rattle.xfs_base.specs.Steps.{still}
use Rattle.xfs_base.proofs.Alls.{all_map}

-- of which blocks, at which places, a Check may be asked
abbrev pub May : Type 1
May = BlockId → Place → Type 0

module _ (may : May) where
  abbrev pub CheckMay : SegRef → Check → Type 0
  CheckMay segment c = may c.block (place_in segment c.item)

  -- so it is of each check of the job
  abbrev pub PhaseMay : Phase → Type 0
  PhaseMay (Checking j segment checks) = AllByRecursion (CheckMay segment) checks
  PhaseMay _ = Unit {0}

  abbrev pub OutMay : Out → Type 0
  OutMay (out.Check block place) = may block place
  OutMay _ = Unit {0}

  -- and of each Block of the segment that is read
  abbrev pub FoundMay : Segment → Phase → Type 0
  FoundMay read (Reading j segment) = read.name ≡ segment.name → AllByRecursion (CheckMay segment) (checks_of 0 read.items)
  FoundMay read _ = Unit {0}

  abbrev pub ReadMay : Option Segment → Phase → Type 0
  ReadMay None p = Unit {0}
  ReadMay (Some read) p = FoundMay read p

  abbrev pub InputMay : Phase → In → Type 0
  InputMay p (input.Read read) = ReadMay read p
  InputMay p _ = Unit {0}

  -- what the job checks then, and what it has the cleaner check
  pub record TurnMay (t : Turn) : Type 0 where
    pub phase : PhaseMay t.state
    pub outs : AllByRecursion OutMay t.outs

  stays : (p : Phase) → PhaseMay p → TurnMay (still p)
  stays p h = record { phase = h; outs = tt }

  -- ---- other fates leave the places

  all_checks : (segment : SegRef) (g : Check → Check) → ((c : Check) → CheckMay segment c → CheckMay segment (g c)) → (checks : List Check)
      → AllByRecursion (CheckMay segment) checks → AllByRecursion (CheckMay segment) (map g checks)
  all_checks segment g each [] all = tt
  all_checks segment g each (c ∷ checks) all = (each c all.0, all_checks segment g each checks all.1)

  live_so : (segment : SegRef) (block : BlockId) (entry : Entry) (c : Check) → CheckMay segment c → CheckMay segment (live_at block entry c)
  live_so segment block entry c h =
      by_test (CheckMay segment) (same_block c.block block) (record c { fate = after_live entry c.fate }) c (λ _. h) (λ _. h)

  dead_so : (segment : SegRef) (block : BlockId) (c : Check) → CheckMay segment c → CheckMay segment (dead_at block c)
  dead_so segment block c h = by_test (CheckMay segment) (same_block c.block block) (record c { fate = after_dead c.fate }) c (λ _. h) (λ _. h)

  -- ---- the emptying of segments

  next_so : (left : List SegRef) (j : JobState) → TurnMay (job.next_of left j)
  next_so [] j = record { phase = tt; outs = (tt, tt) }
  next_so (segment ∷ left) j = record { phase = tt; outs = (tt, tt) }

  job_delete_so : (j : JobState) (segment : SegRef) → TurnMay (job.job_delete j segment)
  job_delete_so j segment = record {
    phase = tt;
    outs = all_map OutMay (λ server. out.Delete server segment.name) (λ server. tt) (job.servers_of j.groups segment);
  }

  asks_of : (segment : SegRef) (checks : List Check) → AllByRecursion (CheckMay segment) checks → AllByRecursion OutMay (questions segment checks)
  asks_of segment [] all = tt
  asks_of segment (c ∷ checks) all =
      by_test (λ (o : Option Out). AllByRecursion OutMay (cons_option o (questions segment checks))) (is_awaited c.fate)
      (Some (out.Check c.block (place_in segment c.item))) None (λ _. (all.0, asks_of segment checks all.1)) (λ _. asks_of segment checks all.1)

  deleted_so : (server : ℕ) (name : SegName) (j : JobState) (segment : SegRef) (servers : List ℕ) → TurnMay (job.on_deleted server name j segment servers)
  deleted_so server name j segment servers =
      by_test TurnMay (same_name name segment.name && is_among servers server) (job.job_go_on j segment (without servers server))
      (still (Deleting j segment servers))
      (λ _. by_test TurnMay (length (without servers server) == 0) (job.next (job.counted j)) (still (Deleting j segment (without servers server)))
      (λ _. next_so j.left (job.counted j)) (λ _. stays (Deleting j segment (without servers server)) tt))
      (λ _. stays (Deleting j segment servers) tt)

  job_check_so : (j : JobState) (segment : SegRef) (checks : List Check) → AllByRecursion (CheckMay segment) checks → TurnMay (job.job_check j segment checks)
  unfolding job.job_check
  job_check_so j segment checks all =
      by_test TurnMay (all_dead checks) (job.job_delete j segment) (record { state = Checking j segment checks; outs = questions segment checks })
      (λ _. job_delete_so j segment) (λ _. record { phase = all; outs = asks_of segment checks all })

  read_so : (read : Option Segment) (j : JobState) (segment : SegRef) → ReadMay read (Reading j segment) → TurnMay (job.on_read read j segment)
  read_so None j segment owed = next_so j.left j
  read_so (Some read) j segment owed =
      by_test TurnMay (same_name read.name segment.name) (job.job_check j segment (checks_of 0 read.items)) (still (Reading j segment))
      (λ t. job_check_so j segment (checks_of 0 read.items) (owed (tells_apart seg_cmp_exact read.name segment.name t)))
      (λ _. stays (Reading j segment) tt)

  looked_so : (j : JobState) (segment : SegRef) (was_asked : Bool) (checks : List Check) → AllByRecursion (CheckMay segment) checks
      → TurnMay (job.job_look j segment was_asked checks)
  unfolding job.job_look
  looked_so j segment was_asked checks all =
      by_test TurnMay (all_dead checks) (job.job_delete j segment) _ (λ _. job_delete_so j segment)
      (λ _. by_test TurnMay (was_asked && not (any_asked checks)) _ (still (Checking j segment checks)) (λ _. record { phase = all; outs = (tt, tt) })
      (λ _. stays (Checking j segment checks) all))

  moved_so : (j : JobState) (segment : SegRef) (checks : List Check) → AllByRecursion (CheckMay segment) checks → TurnMay (job.on_moved j segment checks)
  moved_so j segment checks all =
      let then_all : AllByRecursion (CheckMay segment) (map moved_at checks) = all_checks segment moved_at (λ c h. h) checks all in
      by_test TurnMay (is_moving checks) (record { state = Checking j segment (map moved_at checks); outs = questions segment (map moved_at checks) })
      (still (Checking j segment checks)) (λ _. record { phase = then_all; outs = asks_of segment (map moved_at checks) then_all })
      (λ _. stays (Checking j segment checks) all)

  -- ---- each input in the phase that awaits it

  forgetting_so : (slot : ℕ) (p : Phase) → PhaseMay p → TurnMay (transitions.forgetting slot p)
  forgetting_so slot (Counting c) h =
      by_test TurnMay (has_usage c.usages slot) _ (still (Counting c)) (λ _. record { phase = tt; outs = (tt, tt) }) (λ _. stays (Counting c) tt)
  forgetting_so slot p h = stays p h

  mapped_so : (groups : GroupMapState) (p : Phase) → PhaseMay p → TurnMay (still (transitions.mapped groups p))
  mapped_so groups Greeting h = stays Greeting tt
  mapped_so groups (Listing l) h = record { phase = tt; outs = tt }
  mapped_so groups (Counting c) h = record { phase = tt; outs = tt }
  mapped_so groups (Reading j segment) h = record { phase = tt; outs = tt }
  mapped_so groups (Checking j segment checks) h = record { phase = h; outs = tt }
  mapped_so groups (Deleting j segment servers) h = record { phase = tt; outs = tt }
  mapped_so groups Over h = stays Over tt

  heard_so : (l : ListingState) → TurnMay (transitions.listing_go_on l)
  heard_so l =
      by_test TurnMay (length l.awaited == 0)
      (record {
        state = Counting (record { groups = l.groups; candidates = l.candidates; usages = [] });
        outs = transitions.usage_asks all_slots;
      })
      (still (Listing l)) (λ _. record { phase = tt; outs = all_map OutMay (λ slot. out.UsageAsk slot) (λ slot. tt) all_slots }) (λ _. stays (Listing l) tt)

  listing_go_on_so : (server : ℕ) (held : List FragMeta) (p : Phase) → PhaseMay p → TurnMay (transitions.listed_in server held p)
  listing_go_on_so server held (Listing l) h =
      by_test TurnMay (is_among l.awaited server) (transitions.listing_go_on (transitions.listing_hear l server held)) (still (Listing l))
      (λ _. heard_so (transitions.listing_hear l server held)) (λ _. stays (Listing l) tt)
  listing_go_on_so server held p h = stays p h

  counting_go_on_so : (count : ℕ) (c : CountingState) → TurnMay (transitions.counting_go_on count c)
  counting_go_on_so count c =
      by_test TurnMay (is_counted c.usages) (job.next (record { groups = c.groups; left = chosen count c; deleted = 0 })) (still (Counting c))
      (λ _. next_so (chosen count c) (record { groups = c.groups; left = chosen count c; deleted = 0 })) (λ _. stays (Counting c) tt)

  counted_in_so : (count slot : ℕ) (counts : List (SegName × ℕ)) (p : Phase) → PhaseMay p → TurnMay (transitions.counted_in count slot counts p)
  counted_in_so count slot counts (Counting c) h =
      by_test TurnMay (has_usage c.usages slot) (still (Counting c)) (transitions.counting_go_on count (transitions.counting_hear slot counts c))
      (λ _. stays (Counting c) tt) (λ _. counting_go_on_so count (transitions.counting_hear slot counts c))
  counted_in_so count slot counts p h = stays p h

  read_in_so : (read : Option Segment) (p : Phase) → ReadMay read p → PhaseMay p → TurnMay (transitions.read_in read p)
  read_in_so read (Reading j segment) owed h = read_so read j segment owed
  read_in_so read Greeting owed h = stays Greeting tt
  read_in_so read (Listing l) owed h = stays (Listing l) tt
  read_in_so read (Counting c) owed h = stays (Counting c) tt
  read_in_so read (Checking j segment checks) owed h = stays (Checking j segment checks) h
  read_in_so read (Deleting j segment servers) owed h = stays (Deleting j segment servers) tt
  read_in_so read Over owed h = stays Over tt

  answered_so : (g : Check → Check) → ((segment : SegRef) (c : Check) → CheckMay segment c → CheckMay segment (g c)) → (p : Phase) → PhaseMay p
      → TurnMay (transitions.answered_in g p)
  answered_so g each (Checking j segment checks) h =
      looked_so j segment (any_asked checks) (map g checks) (all_checks segment g (each segment) checks h)
  answered_so g each p h = stays p h

  moved_in_so : (p : Phase) → PhaseMay p → TurnMay (transitions.moved_in p)
  moved_in_so (Checking j segment checks) h = moved_so j segment checks h
  moved_in_so p h = stays p h

  deleted_in_so : (server : ℕ) (name : SegName) (p : Phase) → PhaseMay p → TurnMay (transitions.deleted_in server name p)
  deleted_in_so server name (Deleting j segment servers) h = deleted_so server name j segment servers
  deleted_in_so server name p h = stays p h

  phase_asking_so : (p : Phase) → PhaseMay p → AllByRecursion OutMay (transitions.phase_asking p)
  phase_asking_so Greeting h = (tt, tt)
  phase_asking_so (Listing l) h = all_map OutMay (λ server. out.List server) (λ server. tt) l.awaited
  phase_asking_so (Counting c) h = all_map OutMay (λ slot. out.UsageAsk slot) (λ slot. tt) (awaited_slots c.usages)
  phase_asking_so (Reading j segment) h = (tt, tt)
  phase_asking_so (Checking j segment checks) h = asks_of segment checks h
  phase_asking_so (Deleting j segment servers) h = all_map OutMay (λ server. out.Delete server segment.name) (λ server. tt) servers
  phase_asking_so Over h = tt

  -- ---- all inputs

  abbrev pub DoneMay : transitions.Done → Type 0
  DoneMay d = TurnMay (record { state = d.state.phase; outs = d.outs })

  pub taken_so : (s : CleaningState) (i : In) → InputMay s.phase i → PhaseMay s.phase → DoneMay (transitions.transition s i)
  unfolding transitions.on_welcome transitions.on_promise transitions.on_usage transitions.on_live transitions.on_dead
  taken_so s (input.Welcome slots groups) owed h =
      by_test DoneMay (transitions.is_greeting s.phase && (length slots == 8)) (transitions.welcomed s slots groups) (still s)
      (λ _. record { phase = tt; outs = all_map OutMay (λ server. out.List server) (λ server. tt) _ }) (λ _. stays s.phase h)
  taken_so s (input.Promise slot epoch) owed h =
      by_test DoneMay (is_above s.promised slot epoch) _ (still s) (λ _. forgetting_so slot s.phase h) (λ _. stays s.phase h)
  taken_so s (input.Maps groups) owed h = mapped_so groups s.phase h
  taken_so s (input.Listed server held) owed h = listing_go_on_so server held s.phase h
  taken_so s (input.Usage slot epoch counts) owed h =
      by_test DoneMay (is_promised s.promised slot epoch) _ (still s) (λ _. counted_in_so s.count slot counts s.phase h) (λ _. stays s.phase h)
  taken_so s (input.Read read) owed h = read_in_so read s.phase owed h
  taken_so s (input.Live block epoch entry) owed h =
      by_test DoneMay (transitions.cleaning_hears s.promised block epoch && transitions.may_move entry) _ (still s)
      (λ _. answered_so (live_at block entry) (λ segment c k. live_so segment block entry c k) s.phase h) (λ _. stays s.phase h)
  taken_so s (input.Dead block epoch) owed h =
      by_test DoneMay (transitions.cleaning_hears s.promised block epoch) _ (still s)
      (λ _. answered_so (dead_at block) (λ segment c k. dead_so segment block c k) s.phase h) (λ _. stays s.phase h)
  taken_so s input.Moved owed h = moved_in_so s.phase h
  taken_so s (input.Deleted server name) owed h = deleted_in_so server name s.phase h
  taken_so s input.Tick owed h = record { phase = h; outs = phase_asking_so s.phase h }
