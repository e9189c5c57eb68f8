-- One walk through whatever a job of the cleaner takes in. What a law has to show of the few things that become of a block while a segment is emptied, and of
-- a segment that is chosen: what it knows of these then stands, and so is known of what the job is to do with them.
use Rattle.std.proofs.Common.{◌≡◌, ℕ, ◌&&◌, ◌==◌, Bool, true, List, [], ◌∷◌, map, not, length, take, Option, Some, None, refl, sym, ap, subst}
use Rattle.std.specs.Prelude.{fold}
use Rattle.std.specs.BTreeMap.{insert_entry}
use Rattle.std.specs.declared.cmp.Ordering.{Ordering}
use Rattle.std.specs.declared.cmp.Ordering.TheVariants.{Less, Equal, Greater}
use Rattle.std.specs.List.{AllByRecursion, cons_option}
use Rattle.std.specs.Ordering.{match_ordering, nat_cmp}
use Rattle.std.proofs.lemmas.Map.Lookups.{exact_pairs, exact_unsigned}
use Rattle.xfs_base.proofs.Alls.{all_each, all_map, all_take}
use Rattle.xfs_base.proofs.Booleans.{by_test, and_second}
use Rattle.xfs_base.proofs.Orders.{seg_cmp_exact}
use Rattle.xfs_base.specs.Blocks.{same_block}
use Rattle.xfs_base.specs.declared.block.BlockId.{BlockId}
use Rattle.xfs_base.specs.declared.entry.Entry.{Entry}
use Rattle.xfs_base.specs.declared.fragment.FragMeta.{FragMeta}
use Rattle.xfs_base.specs.declared.news.SlotNews.{SlotNews}
use Rattle.xfs_base.specs.declared.segment.SegName.{SegName}
use Rattle.xfs_base.specs.declared.segment.SegRef.{SegRef}
use Rattle.xfs_base.specs.Limits.{slot_count}
use Rattle.xfs_base.specs.Segments.{seg_cmp}
use Rattle.xfs_base.specs.Steps.{still}
use Rattle.segment_format.specs.declared.segment.Segment.{Segment}
use Rattle.group_map.specs.GroupMapState.{GroupMapState}
use Rattle.stripe_cleaner.specs.Candidates.{is_candidate, candidates_with_one, candidates_with}
use Rattle.stripe_cleaner.specs.Checks.{moved_once, all_dead, any_asked, checks_of, after_live, after_dead, after_moved, is_awaited, live_at, dead_at, moved_at, move_of, moves, place_in, questions}
use Rattle.stripe_cleaner.specs.CleaningState.{CleaningState}
use Rattle.stripe_cleaner.specs.Counting.{CountingState, all_slots, has_usage, is_counted, awaited_slots, fullness_cmp, fullness_of, by_fullness_with_one, by_fullness, segment_at, chosen}
use Rattle.stripe_cleaner.specs.declared.checks.Check.{Check}
use Rattle.stripe_cleaner.specs.declared.checks.Fate.{Fate}
use Rattle.stripe_cleaner.specs.declared.checks.Fate.TheVariants.{Asked, Live, Moved, Dead}
use Rattle.stripe_cleaner.specs.declared.counting.Fullness.{Fullness}
use Rattle.stripe_cleaner.specs.declared.input.In.{In as Input}
use Rattle.stripe_cleaner.specs.declared.input.In.TheVariants as input
use Rattle.stripe_cleaner.specs.declared.output.Out.{Out}
use Rattle.stripe_cleaner.specs.declared.output.Out.TheVariants as out
use Rattle.stripe_cleaner.specs.declared.phase.Phase.{Phase}
use Rattle.stripe_cleaner.specs.declared.phase.Phase.TheVariants.{Greeting, Listing, Counting, Reading, Checking, Deleting, Over}
use Rattle.stripe_cleaner.specs.Job.{Turn, next_of, next, servers_of, deletes, job_delete, counted, job_go_on, same_name, on_deleted, job_check, on_read, job_look, is_moving, on_moved}
use Rattle.stripe_cleaner.specs.JobState.{JobState}
use Rattle.stripe_cleaner.specs.Listing.{ListingState, listing_begin, is_among, without}
use Rattle.stripe_cleaner.specs.Promises.{is_promised, is_above, promised_with}
use Rattle.stripe_cleaner.specs.Transition as cleaning
use Rattle.stripe_cleaner.specs.Transition.{Done, turned, lists, usage_asks, is_greeting, welcomed, on_welcome, forgotten, forgetting, on_promise, mapped, listing_go_on, listing_hear, on_list, counting_hear, listed_in, counted_in, read_in, answered_in, moved_in, deleted_in, phase_asking, on_usage, cleaning_hears, may_move, on_live, on_dead, transition}

pub record WalkLaw : Type 1 where
  -- what is known of a block by its fate, what a Live tells of a block of this fate, what is known of a segment that is read, and where the maps are asked for
  pub FateSo : BlockId → Fate → Type 0
  pub LiveSo : BlockId → Entry → Fate → Type 0
  pub ReadSo : Segment → Type 0
  pub Greets : Type 0
  -- what is known of the slots by which it chooses, of a fragment that a server lists, and of a segment that it may choose, with its group
  pub SlotsSo : List SlotNews → Type 0
  pub HeldSo : FragMeta → Type 0
  pub SegmentSo : SegName → ℕ → Type 0
  -- nothing of a block that was moved, or is dead
  pub moved : (block : BlockId) → FateSo block Moved
  pub dead : (block : BlockId) → FateSo block Dead
  pub reads : (s : Segment) → ReadSo s → AllByRecursion (λ (c : Check). FateSo c.block c.fate) (checks_of 0 s.items)
  -- what is live is to be moved once
  pub lives : (block told : BlockId) (entry : Entry) (value : Option (List ℕ)) → same_block block told ≡ true → LiveSo told entry (Asked value)
      → may_move entry ≡ true → FateSo block (Asked value) → FateSo block (Live (moved_once entry) value)
  pub chooses : (slots : List SlotNews) (meta : FragMeta) → SlotsSo slots → HeldSo meta → is_candidate slots meta.name ≡ true → SegmentSo meta.name meta.group

-- ---- tables

module _ {K V : Type 0} (P : K × V → Type 0) where
  -- what holds of the new entry, also at an old key that is as it, holds after it is put in
  all_inserted : (cmp : K → K → Ordering) (es : List (K × V)) (k : K) (v : V) → P (k, v) → ((q : K) → cmp k q ≡ Equal → P (q, v)) → AllByRecursion P es
      → AllByRecursion P (insert_entry cmp es k v)
  all_inserted cmp [] k v here same all = (here, tt)
  all_inserted cmp (e ∷ es) k v here same all = by (cmp k e.0) refl (all_inserted cmp es k v here same all.1)
    where
      by : (o : Ordering) → cmp k e.0 ≡ o → AllByRecursion P (insert_entry cmp es k v)
          → AllByRecursion P (match_ordering o ((k, v) ∷ e ∷ es) ((e.0, v) ∷ es) (e ∷ insert_entry cmp es k v))
      by Less fact rest = (here, all)
      by Equal fact rest = (same e.0 fact, all.1)
      by Greater fact rest = (all.0, rest)

-- of two that stand alike in it the names are one
fullness_exact : (a b : Fullness) → fullness_cmp a b ≡ Equal → b.name ≡ a.name
fullness_exact a b h = sym (ap (λ (p : ℕ × SegName). p.1) (exact_pairs nat_cmp seg_cmp exact_unsigned seg_cmp_exact (a.live, a.name) (b.live, b.name) h))

module _ (w : WalkLaw) where
  -- ---- what is known

  abbrev pub CheckSo : Check → Type 0
  CheckSo c = w.FateSo c.block c.fate

  abbrev pub RefSo : SegRef → Type 0
  RefSo seg = w.SegmentSo seg.name seg.group

  abbrev pub CandidateSo : SegName × ℕ → Type 0
  CandidateSo e = w.SegmentSo e.0 e.1

  -- of the segment that is emptied, and of those that are to be emptied behind it
  pub record ChosenSo (left : List SegRef) (seg : SegRef) : Type 0 where
    pub here : RefSo seg
    pub behind : AllByRecursion RefSo left

  abbrev pub SegmentsSo : Phase → Type 0
  SegmentsSo Greeting = Unit {0}
  SegmentsSo (Listing l) = w.SlotsSo l.slots × AllByRecursion CandidateSo l.candidates
  SegmentsSo (Counting c) = AllByRecursion CandidateSo c.candidates
  SegmentsSo (Reading j seg) = ChosenSo j.left seg
  SegmentsSo (Checking j seg checks) = ChosenSo j.left seg
  SegmentsSo (Deleting j seg servers) = ChosenSo j.left seg
  SegmentsSo Over = Unit {0}

  abbrev pub ChecksSo : Phase → Type 0
  ChecksSo (Checking j seg checks) = AllByRecursion CheckSo checks
  ChecksSo _ = Unit {0}

  -- where nothing has to be known of blocks
  pub any_checks : ((block : BlockId) (fate : Fate) → w.FateSo block fate) → (p : Phase) → ChecksSo p
  any_checks any (Checking j seg checks) = all_each CheckSo (λ c. any c.block c.fate) checks
  any_checks any _ = tt

  pub record PhaseSo (p : Phase) : Type 0 where
    pub segments : SegmentsSo p
    pub checks : ChecksSo p

  -- where nothing has to be known of segments
  pub any_segments : ((slots : List SlotNews) → w.SlotsSo slots) → ((name : SegName) (group : ℕ) → w.SegmentSo name group) → (p : Phase) → SegmentsSo p
  any_segments slots any Greeting = tt
  any_segments slots any (Listing l) = (slots l.slots, all_each CandidateSo (λ e. any e.0 e.1) l.candidates)
  any_segments slots any (Counting c) = all_each CandidateSo (λ e. any e.0 e.1) c.candidates
  any_segments slots any (Reading j seg) = record { here = any seg.name seg.group; behind = all_each RefSo (λ s. any s.name s.group) j.left }
  any_segments slots any (Checking j seg checks) = record { here = any seg.name seg.group; behind = all_each RefSo (λ s. any s.name s.group) j.left }
  any_segments slots any (Deleting j seg servers) = record { here = any seg.name seg.group; behind = all_each RefSo (λ s. any s.name s.group) j.left }
  any_segments slots any Over = tt

  -- of a block that is to be moved, so much is known where it is moved; of a segment, where it is read and where it is deleted
  abbrev pub MoveSo : BlockId × Entry × Option (List ℕ) → Type 0
  MoveSo one = w.FateSo one.0 (Live one.1 one.2)

  abbrev pub OutSo : Out → Type 0
  OutSo out.Hello = w.Greets
  OutSo (out.Fetch seg) = RefSo seg
  OutSo (out.Move blocks) = AllByRecursion MoveSo blocks
  OutSo (out.Delete server name) = (group : ℕ) × w.SegmentSo name group
  OutSo _ = Unit {0}

  abbrev pub LiveIn : BlockId → Entry → Phase → Type 0
  LiveIn block entry (Checking j seg checks) = AllByRecursion (λ (c : Check). same_block c.block block ≡ true → w.LiveSo block entry c.fate) checks
  LiveIn block entry _ = Unit {0}

  -- where a Live tells so whatever the fate
  pub any_live : (block : BlockId) (entry : Entry) → ((fate : Fate) → w.LiveSo block entry fate) → (p : Phase) → LiveIn block entry p
  any_live block entry any (Checking j seg checks) =
      all_each (λ (c : Check). same_block c.block block ≡ true → w.LiveSo block entry c.fate) (λ c _. any c.fate) checks
  any_live block entry any _ = tt

  -- what is owed an input, in this phase
  abbrev pub InputSo : Phase → Input → Type 0
  InputSo p (input.Welcome slots groups) = w.SlotsSo slots
  InputSo p (input.Listed server held) = AllByRecursion w.HeldSo held
  InputSo p (input.Read (Some segment)) = w.ReadSo segment
  InputSo p (input.Read None) = Unit {0}
  InputSo p (input.Live block epoch entry) = LiveIn block entry p
  InputSo p input.Tick = w.Greets
  InputSo p _ = Unit {0}

  record TurnSo (t : Turn) : Type 0 where
    phase : PhaseSo t.state
    outs : AllByRecursion OutSo t.outs

  stands : (p : Phase) → PhaseSo p → TurnSo (still p)
  stands p h = record { phase = h; outs = tt }

  -- ---- the blocks of a segment

  live_so : (block told : BlockId) (entry : Entry) (fate : Fate) → same_block block told ≡ true → w.LiveSo told entry fate → may_move entry ≡ true
      → w.FateSo block fate → w.FateSo block (after_live entry fate)
  live_so block told entry (Asked value) same live may h = w.lives block told entry value same live may h
  live_so block told entry _ same live may h = h

  dead_so : (block : BlockId) (fate : Fate) → w.FateSo block fate → w.FateSo block (after_dead fate)
  dead_so block (Asked value) h = w.dead block
  dead_so block (Live e value) h = h
  dead_so block Moved h = w.dead block
  dead_so block Dead h = h

  moved_so : (block : BlockId) (fate : Fate) → w.FateSo block fate → w.FateSo block (after_moved fate)
  moved_so block (Live e value) h = w.moved block
  moved_so block _ h = h

  live_check : (block : BlockId) (entry : Entry) → may_move entry ≡ true → (c : Check) → (same_block c.block block ≡ true → w.LiveSo block entry c.fate)
      → CheckSo c → CheckSo (live_at block entry c)
  live_check block entry may c live h =
      by_test CheckSo (same_block c.block block) (record c { fate = after_live entry c.fate }) c
      (λ same. live_so c.block block entry c.fate same (live same) may h) (λ _. h)

  live_checks : (block : BlockId) (entry : Entry) → may_move entry ≡ true → (checks : List Check)
      → AllByRecursion (λ (c : Check). same_block c.block block ≡ true → w.LiveSo block entry c.fate) checks → AllByRecursion CheckSo checks
      → AllByRecursion CheckSo (map (live_at block entry) checks)
  live_checks block entry may [] live all = tt
  live_checks block entry may (c ∷ checks) live all = (live_check block entry may c live.0 all.0, live_checks block entry may checks live.1 all.1)

  dead_check : (block : BlockId) (c : Check) → CheckSo c → CheckSo (dead_at block c)
  dead_check block c h = by_test CheckSo (same_block c.block block) (record c { fate = after_dead c.fate }) c (λ _. dead_so c.block c.fate h) (λ _. h)

  answers_so : (answer : Check → Check) → ((c : Check) → CheckSo c → CheckSo (answer c)) → (checks : List Check) → AllByRecursion CheckSo checks
      → AllByRecursion CheckSo (map answer checks)
  answers_so answer each [] all = tt
  answers_so answer each (c ∷ checks) all = (each c all.0, answers_so answer each checks all.1)

  one_move : (block : BlockId) (fate : Fate) (others : List (BlockId × Entry × Option (List ℕ))) → w.FateSo block fate → AllByRecursion MoveSo others
      → AllByRecursion MoveSo (cons_option (move_of block fate) others)
  one_move block (Live e value) others h rest = (h, rest)
  one_move block _ others h rest = rest

  moves_so : (checks : List Check) → AllByRecursion CheckSo checks → AllByRecursion MoveSo (moves checks)
  moves_so [] all = tt
  moves_so (c ∷ checks) all = one_move c.block c.fate (moves checks) all.0 (moves_so checks all.1)

  asks_so : (seg : SegRef) (checks : List Check) → AllByRecursion OutSo (questions seg checks)
  asks_so seg [] = tt
  asks_so seg (c ∷ checks) =
      by_test (λ (o : Option Out). AllByRecursion OutSo (cons_option o (questions seg checks))) (is_awaited c.fate)
      (Some (out.Check c.block (place_in seg c.item))) None (λ _. (tt, asks_so seg checks)) (λ _. asks_so seg checks)

  -- ---- the emptying of the chosen

  next_so : (left : List SegRef) (j : JobState) → AllByRecursion RefSo left → TurnSo (next_of left j)
  next_so [] j all = record { phase = record { segments = tt; checks = tt }; outs = (tt, tt) }
  next_so (seg ∷ left) j all = record { phase = record { segments = record { here = all.0; behind = all.1 }; checks = tt }; outs = (all.0, tt) }

  deletes_so : (seg : SegRef) (servers : List ℕ) → RefSo seg → AllByRecursion OutSo (deletes seg.name servers)
  deletes_so seg servers h = all_map OutSo (λ (server : ℕ). out.Delete server seg.name) (λ server. (seg.group, h)) servers

  job_delete_so : (j : JobState) (seg : SegRef) → ChosenSo j.left seg → TurnSo (job_delete j seg)
  job_delete_so j seg h = record { phase = record { segments = h; checks = tt }; outs = deletes_so seg (servers_of j.groups seg) h.here }

  job_check_so : (j : JobState) (seg : SegRef) (checks : List Check) → ChosenSo j.left seg → AllByRecursion CheckSo checks → TurnSo (job_check j seg checks)
  unfolding job_check
  job_check_so j seg checks h all =
      by_test TurnSo (all_dead checks) (job_delete j seg) (record { state = Checking j seg checks; outs = questions seg checks })
      (λ _. job_delete_so j seg h) (λ _. record { phase = record { segments = h; checks = all }; outs = asks_so seg checks })

  read_so : (read : Option Segment) (j : JobState) (seg : SegRef) → ChosenSo j.left seg → InputSo (Reading j seg) (input.Read read)
      → TurnSo (on_read read j seg)
  read_so None j seg h fits = next_so j.left j h.behind
  read_so (Some read) j seg h fits =
      by_test TurnSo (same_name read.name seg.name) (job_check j seg (checks_of 0 read.items)) (still (Reading j seg))
      (λ _. job_check_so j seg (checks_of 0 read.items) h (w.reads read fits)) (λ _. stands (Reading j seg) (record { segments = h; checks = tt }))

  looked_so : (j : JobState) (seg : SegRef) (was_asked : Bool) (checks : List Check) → ChosenSo j.left seg → AllByRecursion CheckSo checks
      → TurnSo (job_look j seg was_asked checks)
  unfolding job_look
  looked_so j seg was_asked checks h all =
      let on : PhaseSo (Checking j seg checks) = record { segments = h; checks = all } in
      by_test TurnSo (all_dead checks) (job_delete j seg) _ (λ _. job_delete_so j seg h)
      (λ _. by_test TurnSo (was_asked && not (any_asked checks)) (record { state = Checking j seg checks; outs = out.Move (moves checks) ∷ [] })
      (still (Checking j seg checks)) (λ _. record { phase = on; outs = (moves_so checks all, tt) }) (λ _. stands (Checking j seg checks) on))

  moved_on : (j : JobState) (seg : SegRef) (checks : List Check) → ChosenSo j.left seg → AllByRecursion CheckSo checks → TurnSo (on_moved j seg checks)
  moved_on j seg checks h all =
      by_test TurnSo (is_moving checks) (record { state = Checking j seg (map moved_at checks); outs = questions seg (map moved_at checks) })
      (still (Checking j seg checks))
      (λ _. record {
        phase = record { segments = h; checks = answers_so moved_at (λ c so. moved_so c.block c.fate so) checks all };
        outs = asks_so seg (map moved_at checks);
      })
      (λ _. stands (Checking j seg checks) (record { segments = h; checks = all }))

  deleted_so : (server : ℕ) (name : SegName) (j : JobState) (seg : SegRef) (servers : List ℕ) → ChosenSo j.left seg
      → TurnSo (on_deleted server name j seg servers)
  deleted_so server name j seg servers h =
      by_test TurnSo (same_name name seg.name && is_among servers server) (job_go_on j seg (without servers server)) (still (Deleting j seg servers))
      (λ _. by_test TurnSo (length (without servers server) == 0) (next (counted j)) (still (Deleting j seg (without servers server)))
      (λ _. next_so j.left (counted j) h.behind) (λ _. stands (Deleting j seg (without servers server)) (record { segments = h; checks = tt })))
      (λ _. stands (Deleting j seg servers) (record { segments = h; checks = tt }))

  -- ---- the choice

  one_candidate : (slots : List SlotNews) → w.SlotsSo slots → (entries : List (SegName × ℕ)) (meta : FragMeta) → w.HeldSo meta
      → AllByRecursion CandidateSo entries → AllByRecursion CandidateSo (candidates_with_one slots entries meta)
  one_candidate slots judges entries meta held all =
      by_test (AllByRecursion CandidateSo) (is_candidate slots meta.name) (insert_entry seg_cmp entries meta.name meta.group) entries
      (λ fact. let new : w.SegmentSo meta.name meta.group = w.chooses slots meta judges held fact in
      all_inserted CandidateSo seg_cmp entries meta.name meta.group new
      (λ q same. subst (λ (name : SegName). w.SegmentSo name meta.group) (seg_cmp_exact meta.name q same) new) all)
      (λ _. all)

  with_candidates : (slots : List SlotNews) → w.SlotsSo slots → (held : List FragMeta) (entries : List (SegName × ℕ)) → AllByRecursion w.HeldSo held
      → AllByRecursion CandidateSo entries → AllByRecursion CandidateSo (candidates_with slots held entries)
  with_candidates slots judges [] entries so all = all
  with_candidates slots judges (m ∷ ms) entries so all =
      with_candidates slots judges ms (candidates_with_one slots entries m) so.1 (one_candidate slots judges entries m so.0 all)

  abbrev FullnessSo : Fullness × ℕ → Type 0
  FullnessSo e = w.SegmentSo e.0.name e.1

  all_by_fullness : (usages : List (ℕ × List (SegName × ℕ))) (entries : List (SegName × ℕ)) (before : List (Fullness × ℕ))
      → AllByRecursion CandidateSo entries → AllByRecursion FullnessSo before
      → AllByRecursion FullnessSo (fold (by_fullness_with_one usages) before entries)
  all_by_fullness usages [] before all have = have
  all_by_fullness usages (e ∷ entries) before all have =
      all_by_fullness usages entries (by_fullness_with_one usages before e) all.1
      (all_inserted FullnessSo fullness_cmp before (fullness_of usages e.0) e.1 all.0
      (λ q same. subst (λ (name : SegName). w.SegmentSo name e.1) (sym (fullness_exact (fullness_of usages e.0) q same)) all.0) have)

  all_segments : (ordered : List (Fullness × ℕ)) → AllByRecursion FullnessSo ordered → AllByRecursion RefSo (map segment_at ordered)
  all_segments [] all = tt
  all_segments (r ∷ ordered) all = (all.0, all_segments ordered all.1)

  all_chosen : (count : ℕ) (c : CountingState) → AllByRecursion CandidateSo c.candidates → AllByRecursion RefSo (chosen count c)
  all_chosen count c all =
      all_segments (take count (by_fullness c)) (all_take FullnessSo count (by_fullness c) (all_by_fullness c.usages c.candidates [] all tt))

  counts_so : (count : ℕ) (c : CountingState) → AllByRecursion CandidateSo c.candidates → TurnSo (cleaning.counting_go_on count c)
  counts_so count c all =
      by_test TurnSo (is_counted c.usages) (next (record { groups = c.groups; left = chosen count c; deleted = 0 })) (still (Counting c))
      (λ _. next_so (chosen count c) (record { groups = c.groups; left = chosen count c; deleted = 0 }) (all_chosen count c all))
      (λ _. stands (Counting c) (record { segments = all; checks = tt }))

  asked_usages : (slots : List ℕ) → AllByRecursion OutSo (usage_asks slots)
  asked_usages slots = all_map OutSo (λ (slot : ℕ). out.UsageAsk slot) (λ slot. tt) slots

  asked_lists : (servers : List ℕ) → AllByRecursion OutSo (lists servers)
  asked_lists servers = all_map OutSo (λ (server : ℕ). out.List server) (λ server. tt) servers

  listing_go_on_so : (l : ListingState) → SegmentsSo (Listing l) → TurnSo (listing_go_on l)
  listing_go_on_so l h =
      by_test TurnSo (length l.awaited == 0)
      (record { state = Counting (record { groups = l.groups; candidates = l.candidates; usages = [] }); outs = usage_asks all_slots }) (still (Listing l))
      (λ _. record { phase = record { segments = h.1; checks = tt }; outs = asked_usages all_slots })
      (λ _. stands (Listing l) (record { segments = h; checks = tt }))

  list_so : (server : ℕ) (held : List FragMeta) (l : ListingState) → AllByRecursion w.HeldSo held → SegmentsSo (Listing l) → TurnSo (on_list server held l)
  list_so server held l so h =
      by_test TurnSo (is_among l.awaited server) (listing_go_on (listing_hear l server held)) (still (Listing l))
      (λ _. listing_go_on_so (listing_hear l server held) (h.0, with_candidates l.slots h.0 held l.candidates so h.1))
      (λ _. stands (Listing l) (record { segments = h; checks = tt }))

  -- ---- each input, by the phase

  listed_phase : (server : ℕ) (held : List FragMeta) (p : Phase) → AllByRecursion w.HeldSo held → PhaseSo p → TurnSo (listed_in server held p)
  listed_phase server held (Listing l) so h = list_so server held l so h.segments
  listed_phase server held p so h = stands p h

  counted_phase : (count slot : ℕ) (counts : List (SegName × ℕ)) (p : Phase) → PhaseSo p → TurnSo (counted_in count slot counts p)
  counted_phase count slot counts (Counting c) h =
      by_test TurnSo (has_usage c.usages slot) (still (Counting c)) (cleaning.counting_go_on count (counting_hear slot counts c)) (λ _. stands (Counting c) h)
      (λ _. counts_so count (counting_hear slot counts c) h.segments)
  counted_phase count slot counts p h = stands p h

  read_phase : (read : Option Segment) (p : Phase) → InputSo p (input.Read read) → PhaseSo p → TurnSo (read_in read p)
  read_phase read (Reading j seg) fits h = read_so read j seg h.segments fits
  read_phase read p fits h = stands p h

  live_phase : (block : BlockId) (entry : Entry) (p : Phase) → may_move entry ≡ true → LiveIn block entry p → PhaseSo p
      → TurnSo (answered_in (live_at block entry) p)
  live_phase block entry (Checking j seg checks) may live h =
      looked_so j seg (any_asked checks) (map (live_at block entry) checks) h.segments (live_checks block entry may checks live h.checks)
  live_phase block entry p may live h = stands p h

  dead_phase : (block : BlockId) (p : Phase) → PhaseSo p → TurnSo (answered_in (dead_at block) p)
  dead_phase block (Checking j seg checks) h =
      looked_so j seg (any_asked checks) (map (dead_at block) checks) h.segments (answers_so (dead_at block) (dead_check block) checks h.checks)
  dead_phase block p h = stands p h

  moved_phase : (p : Phase) → PhaseSo p → TurnSo (moved_in p)
  moved_phase (Checking j seg checks) h = moved_on j seg checks h.segments h.checks
  moved_phase p h = stands p h

  deleted_phase : (server : ℕ) (name : SegName) (p : Phase) → PhaseSo p → TurnSo (deleted_in server name p)
  deleted_phase server name (Deleting j seg servers) h = deleted_so server name j seg servers h.segments
  deleted_phase server name p h = stands p h

  forgotten_phase : (slot : ℕ) (p : Phase) → PhaseSo p → TurnSo (forgetting slot p)
  forgotten_phase slot (Counting c) h =
      by_test TurnSo (has_usage c.usages slot) (record { state = Counting (forgotten slot c); outs = out.UsageAsk slot ∷ [] }) (still (Counting c))
      (λ _. record { phase = record { segments = h.segments; checks = tt }; outs = (tt, tt) }) (λ _. stands (Counting c) h)
  forgotten_phase slot p h = stands p h

  mapped_phase : (groups : GroupMapState) (p : Phase) → PhaseSo p → PhaseSo (mapped groups p)
  mapped_phase groups p h = record { segments = chosen_on p h.segments; checks = checked_on p h.checks }
    where
      chosen_on : (p : Phase) → SegmentsSo p → SegmentsSo (mapped groups p)
      chosen_on Greeting h = h
      chosen_on (Listing l) h = h
      chosen_on (Counting c) h = h
      chosen_on (Reading j seg) h = record { here = h.here; behind = h.behind }
      chosen_on (Checking j seg checks) h = record { here = h.here; behind = h.behind }
      chosen_on (Deleting j seg servers) h = record { here = h.here; behind = h.behind }
      chosen_on Over h = h

      checked_on : (p : Phase) → ChecksSo p → ChecksSo (mapped groups p)
      checked_on (Checking j seg checks) h = h
      checked_on _ h = tt

  -- ---- time: the maps are asked for by a job that has just begun, and by it alone

  pub phase_asking_so : (p : Phase) → SegmentsSo p → (p ≡ Greeting → w.Greets) → AllByRecursion OutSo (phase_asking p)
  phase_asking_so Greeting h first = (first refl, tt)
  phase_asking_so (Listing l) h first = asked_lists l.awaited
  phase_asking_so (Counting c) h first = asked_usages (awaited_slots c.usages)
  phase_asking_so (Reading j seg) h first = (h.here, tt)
  phase_asking_so (Checking j seg checks) h first = asks_so seg checks
  phase_asking_so (Deleting j seg servers) h first = deletes_so seg servers h.here
  phase_asking_so Over h first = tt

  -- ---- all inputs

  pub record DoneSo (d : Done) : Type 0 where
    pub phase : PhaseSo d.state.phase
    pub outs : AllByRecursion OutSo d.outs

  on_turn : (s : CleaningState) (t : Turn) → TurnSo t → DoneSo (turned s t)
  on_turn s t so = record { phase = so.phase; outs = so.outs }

  as_was : (s : CleaningState) → PhaseSo s.phase → DoneSo (still s)
  as_was s h = record { phase = h; outs = tt }

  welcome_so : (s : CleaningState) (slots : List SlotNews) (groups : GroupMapState) → w.SlotsSo slots → PhaseSo s.phase → DoneSo (on_welcome s slots groups)
  unfolding on_welcome
  welcome_so s slots groups judges h =
      by_test DoneSo (is_greeting s.phase && (length slots == slot_count)) (welcomed s slots groups) (still s)
      (λ _. record { phase = record { segments = (judges, tt); checks = tt }; outs = asked_lists (listing_begin slots groups).awaited }) (λ _. as_was s h)

  pub walk_so : (s : CleaningState) (i : Input) → PhaseSo s.phase → InputSo s.phase i → DoneSo (transition s i)
  unfolding on_promise on_usage on_live on_dead
  walk_so s (input.Welcome slots groups) h so = welcome_so s slots groups so h
  walk_so s (input.Promise slot epoch) h so =
      by_test DoneSo (is_above s.promised slot epoch) (turned (record s { promised = promised_with s.promised slot epoch }) (forgetting slot s.phase)) (still s)
      (λ _. on_turn (record s { promised = promised_with s.promised slot epoch }) (forgetting slot s.phase) (forgotten_phase slot s.phase h)) (λ _. as_was s h)
  walk_so s (input.Maps groups) h so = record { phase = mapped_phase groups s.phase h; outs = tt }
  walk_so s (input.Listed server held) h so = on_turn s (listed_in server held s.phase) (listed_phase server held s.phase so h)
  walk_so s (input.Usage slot epoch counts) h so =
      by_test DoneSo (is_promised s.promised slot epoch) (turned s (counted_in s.count slot counts s.phase)) (still s)
      (λ _. on_turn s (counted_in s.count slot counts s.phase) (counted_phase s.count slot counts s.phase h)) (λ _. as_was s h)
  walk_so s (input.Read read) h so = on_turn s (read_in read s.phase) (read_phase read s.phase so h)
  walk_so s (input.Live block epoch entry) h so =
      by_test DoneSo (cleaning_hears s.promised block epoch && may_move entry) (turned s (answered_in (live_at block entry) s.phase)) (still s)
      (λ fact. on_turn s (answered_in (live_at block entry) s.phase)
      (live_phase block entry s.phase (and_second (cleaning_hears s.promised block epoch) (may_move entry) fact) so h))
      (λ _. as_was s h)
  walk_so s (input.Dead block epoch) h so =
      by_test DoneSo (cleaning_hears s.promised block epoch) (turned s (answered_in (dead_at block) s.phase)) (still s)
      (λ _. on_turn s (answered_in (dead_at block) s.phase) (dead_phase block s.phase h)) (λ _. as_was s h)
  walk_so s input.Moved h so = on_turn s (moved_in s.phase) (moved_phase s.phase h)
  walk_so s (input.Deleted server name) h so = on_turn s (deleted_in server name s.phase) (deleted_phase server name s.phase h)
  walk_so s input.Tick h so = record { phase = h; outs = phase_asking_so s.phase h.segments (λ _. so) }
