-- What a job of the cleaner makes of an input, of which it is known what came: it asks, reads the next segment, has one deleted, or is over, with all that is due.
use Rattle.std.proofs.Common.{◌≡◌, ◌⊎◌, ◌<◌, ◌++◌, ◌==◌, ◌&&◌, min, not, ℕ, suc, Bool, true, false, List, [], ◌∷◌, append-nil, Option, None, Some, inl, inr, length, map, refl, sym, ap, subst, ◌∙◌, arith}
use Rattle.std.proofs.lemmas.Bool.{eqb-true}
use Rattle.std.proofs.lemmas.List.{map-append}
use Rattle.std.proofs.lemmas.List.Sums.{fold-append}
use Rattle.std.specs.List.{AllByRecursion, cons_option}
use Rattle.cleaner_job.specs.declared.hand.Hand.{Hand}
use Rattle.core_world.specs.declared.any_node.AnyNode.{AnyNode}
use Rattle.group_map.specs.GroupMapState.{GroupMapState}
use Rattle.segment_format.specs.declared.segment.Segment.{Segment}
use Rattle.stripe_cleaner.specs.Candidates.{candidates_with}
use Rattle.stripe_cleaner.specs.Checks.{all_dead, any_asked, checks_of, dead_at, is_awaited, live_at, moved_at, place_in, questions}
use Rattle.stripe_cleaner.specs.CleaningState.{CleaningState}
use Rattle.stripe_cleaner.specs.Counting.{CountingState, all_slots, awaited_slots, chosen, has_usage, is_counted}
use Rattle.stripe_cleaner.specs.declared.checks.Check.{Check}
use Rattle.stripe_cleaner.specs.declared.input.In.{In as Input}
use Rattle.stripe_cleaner.specs.declared.input.In.TheVariants as input
use Rattle.stripe_cleaner.specs.declared.output.Out.{Out}
use Rattle.stripe_cleaner.specs.declared.output.Out.TheVariants as out
use Rattle.stripe_cleaner.specs.declared.phase.Phase.{Phase}
use Rattle.stripe_cleaner.specs.declared.phase.Phase.TheVariants.{Checking, Counting, Deleting, Greeting, Listing, Over, Reading}
use Rattle.stripe_cleaner.specs.Job as job
use Rattle.stripe_cleaner.specs.Job.{Turn, is_moving, same_name}
use Rattle.stripe_cleaner.specs.JobState.{JobState}
use Rattle.stripe_cleaner.specs.Listing.{ListingState, all_servers, is_among, listing_begin, without}
use Rattle.stripe_cleaner.specs.Promises.{is_above, is_promised, promised_with}
use Rattle.stripe_cleaner.specs.Transition as transitions
use Rattle.token_protocol.specs.Basics.{In}
use Rattle.wire_msg.specs.declared.storage.Listed.{Listed}
use Rattle.world_base.specs.declared.estate.Estate.{Estate}
use Rattle.xfs_base.proofs.Alls.{all_append, all_map}
use Rattle.xfs_base.proofs.Booleans.{and_second, by_test, contrary}
use Rattle.xfs_base.specs.declared.fragment.FragMeta.{FragMeta}
use Rattle.xfs_base.specs.declared.news.SlotNews.{SlotNews}
use Rattle.xfs_base.specs.declared.node.NodeId.TheVariants as nodes
use Rattle.xfs_base.specs.declared.segment.SegName.{SegName}
use Rattle.xfs_base.specs.declared.segment.SegRef.{SegRef}
use Rattle.xfs_base.specs.Limits.{u32_end}
use Rattle.xfs_base.specs.Steps.{still}
use Rattle.run_answers.proofs.clean_law.Choice.{chosen_taken}
use Rattle.run_answers.proofs.number_law.Tellings.{ListCame}
use Rattle.run_answers.proofs.clean_law.Standing.{DueSo, EmptyingSo, HandOf, InHand, ListingSo, PhaseSo, Welcomed, dropped_one, lost_one}
use Rattle.run_answers.proofs.number_law.Turning.{IsCalm}
use Rattle.headline.specs.Cleanings.{AreCandidates, AreEmptied, IsDropped, IsLost, candidates_by}
use Rattle.headline.specs.Cleanings.AreEmptied.{NoneYet}

in_without : (x n : ℕ) (xs : List ℕ) → In x xs → (x ≡ n) ⊎ In x (without xs n)
in_without x n [] among = absurd among
in_without x n (y ∷ xs) (inl same) =
    by_test (λ (zs : List ℕ). (x ≡ n) ⊎ In x zs) (not (y == n)) (y ∷ without xs n) (without xs n) (λ _. inr (inl same))
    (λ fact. inl (same ∙ eqb-true y n (not_false (y == n) fact)))
  where
    not_false : (t : Bool) → not t ≡ false → t ≡ true
    not_false true fact = refl
    not_false false fact = absurd cc
in_without x n (y ∷ xs) (inr among) =
    by_test (λ (zs : List ℕ). (x ≡ n) ⊎ In x zs) (not (y == n)) (y ∷ without xs n) (without xs n) (λ _. more (in_without x n xs among))
    (λ _. in_without x n xs among)
  where
    more : (x ≡ n) ⊎ In x (without xs n) → (x ≡ n) ⊎ In x (y ∷ without xs n)
    more (inl same) = inl same
    more (inr there) = inr (inr there)

in_front : (x : ℕ) (xs ys : List ℕ) → In x xs → In x (xs ++ ys)
in_front x [] ys among = absurd among
in_front x (y ∷ xs) ys (inl same) = inl same
in_front x (y ∷ xs) ys (inr among) = inr (in_front x xs ys among)

in_end : (x : ℕ) (xs : List ℕ) → In x (xs ++ x ∷ [])
in_end x [] = inl refl
in_end x (y ∷ xs) = inr (in_end x xs)

candidates_more : (slots : List SlotNews) (lists : List (ℕ × Listed)) (list : ℕ × Listed)
    → candidates_by slots (lists ++ list ∷ []) ≡ candidates_with slots list.1.held (candidates_by slots lists)
candidates_more slots lists list =
    fold-append (λ (candidates : List (SegName × ℕ)) (l : ℕ × Listed). candidates_with slots l.1.held candidates) [] lists (list ∷ [])

one_ask : (asked : Option ℕ) (a b : ℕ) → asked ≡ Some a → asked ≡ Some b → a ≡ b
one_ask asked a b first second = by (sym first ∙ second)
  where
    by : Some a ≡ Some b → a ≡ b
    by fact = cc

nothing : (xs : List ℕ) → (length xs == 0) ≡ true → xs ≡ []
nothing [] fact = refl
nothing (x ∷ xs) fact = (let long : suc (length xs) ≡ 0 = eqb-true (suc (length xs)) 0 fact in absurd (omega arith))

zero_least : (n : ℕ) → 0 ≡ min 0 n
zero_least n = omega arith

-- a segment is in hand
abbrev pub HasHand : Option Hand → Type 0
HasHand None = ⊥
HasHand (Some h) = Unit {0}

in_hand : (hand : Option Hand) (segment : SegRef) → HasHand hand → HandOf hand segment → InHand hand segment
in_hand None segment has its = absurd has
in_hand (Some h) segment has its = its

module _ (e : Estate AnyNode) (begun end last : ℕ) (at_first : Option GroupMapState) (many item : ℕ) (asked : Option ℕ) (hand : Option Hand) where
  abbrev So : Phase → Type 0
  So p = PhaseSo e begun end last at_first many asked hand p

  abbrev Empties : List SegRef → ℕ → Type 0
  Empties left deleted = EmptyingSo e begun end last at_first many left deleted

  pub data TurnSo : Turn → Type 0 where
    Calm : {t : Turn} → So t.state → AllByRecursion IsCalm t.outs → TurnSo t
    Begins : (j : JobState) (segment : SegRef) → Empties (segment ∷ j.left) j.deleted
        → TurnSo (record { state = Reading j segment; outs = out.Fetch segment ∷ [] })
    Deletes : (j : JobState) (segment : SegRef) (servers : List ℕ) → Empties (segment ∷ j.left) j.deleted → InHand hand segment
        → TurnSo (record { state = Deleting j segment servers; outs = job.deletes segment.name servers })
    Ends : (j : JobState) → DueSo e begun end last at_first many item j.deleted
        → TurnSo (record { state = Over; outs = out.Finished j.deleted ∷ [] })

  -- the segment in hand is lost
  abbrev pub LostHand : Option Hand → Type 0
  LostHand None = ⊥
  LostHand (Some h) = IsLost e begun end last at_first h.seg

  -- such a list came, under the question that is out
  pub record ListSo (server : ℕ) (held : List FragMeta) : Type 0 where
    pub list : Listed
    pub come : ListCame e nodes.Cleaner begun end (server, list)
    pub held_is : held ≡ list.held
    pub under : asked ≡ Some list.ask
    pub newer : last < list.ask

  pub record WelcomeSo (slots : List SlotNews) (groups : GroupMapState) : Type 0 where
    pub welcomed : Welcomed e begun end last at_first
    pub slots_are : slots ≡ welcomed.welcome.news.slots
    pub groups_are : groups ≡ welcomed.groups

  abbrev pub InputSo : Input → Type 0
  InputSo (input.Welcome slots groups) = WelcomeSo slots groups
  InputSo (input.Listed server held) = ListSo server held
  InputSo (input.Read None) = LostHand hand
  InputSo (input.Read (Some read)) = HasHand hand
  InputSo _ = Unit {0}

  stays : (p : Phase) → So p → TurnSo (still p)
  stays p h = Calm h tt

  -- ---- the emptying of segments

  next_so : (j : JobState) → Empties j.left j.deleted → TurnSo (job.next j)
  next_so j h = by j.left refl
    where
      by : (left : List SegRef) → j.left ≡ left → TurnSo (job.next_of left j)
      by [] same =
          Ends j (record {
            taken = h.taken;
            are = h.are;
            dropped = h.dropped;
            emptied = subst (λ (ss : List SegRef). AreEmptied e begun end last at_first ss h.dropped)
                (sym (append-nil h.over) ∙ (ap (λ (ss : List SegRef). h.over ++ ss) (sym same) ∙ h.whole)) h.emptied;
            counts = h.counts;
          })
      by (s ∷ left) same = Begins (record j { left = left }) s (subst (λ (ss : List SegRef). Empties ss j.deleted) same h)

  asks_of : (segment : SegRef) (checks : List Check) → AllByRecursion IsCalm (questions segment checks)
  asks_of segment [] = tt
  asks_of segment (c ∷ checks) =
      by_test (λ (o : Option Out). AllByRecursion IsCalm (cons_option o (questions segment checks))) (is_awaited c.fate)
      (Some (out.Check c.block (place_in segment c.item))) None (λ _. (tt, asks_of segment checks)) (λ _. asks_of segment checks)

  job_delete_so : (j : JobState) (segment : SegRef) → Empties (segment ∷ j.left) j.deleted → InHand hand segment → TurnSo (job.job_delete j segment)
  job_delete_so j segment h is = Deletes j segment (job.servers_of j.groups segment) h is

  job_check_so : (j : JobState) (segment : SegRef) (checks : List Check) → Empties (segment ∷ j.left) j.deleted → InHand hand segment
      → TurnSo (job.job_check j segment checks)
  unfolding job.job_check
  job_check_so j segment checks h is =
      by_test TurnSo (all_dead checks) (job.job_delete j segment) (record { state = Checking j segment checks; outs = questions segment checks })
      (λ _. job_delete_so j segment h is) (λ _. Calm (h, is) (asks_of segment checks))

  lost_its : (o : Option Hand) (segment : SegRef) → LostHand o → HandOf o segment → IsLost e begun end last at_first segment
  lost_its None segment lost its = absurd lost
  lost_its (Some h) segment lost its = subst (IsLost e begun end last at_first) its lost

  read_so : (read : Option Segment) (j : JobState) (segment : SegRef) → InputSo (input.Read read) → Empties (segment ∷ j.left) j.deleted
      → HandOf hand segment → TurnSo (job.on_read read j segment)
  read_so None j segment lost h its = next_so j (lost_one e begun end last at_first many segment j.left j.deleted h (lost_its hand segment lost its))
  read_so (Some read) j segment has h its =
      by_test TurnSo (same_name read.name segment.name) (job.job_check j segment (checks_of 0 read.items)) (still (Reading j segment))
      (λ _. job_check_so j segment (checks_of 0 read.items) h (in_hand hand segment has its)) (λ _. stays (Reading j segment) (h, its))

  looked_so : (j : JobState) (segment : SegRef) (was_asked : Bool) (checks : List Check) → Empties (segment ∷ j.left) j.deleted → InHand hand segment
      → TurnSo (job.job_look j segment was_asked checks)
  unfolding job.job_look
  looked_so j segment was_asked checks h is =
      by_test TurnSo (all_dead checks) (job.job_delete j segment) _ (λ _. job_delete_so j segment h is)
      (λ _. by_test TurnSo (was_asked && not (any_asked checks)) _ (still (Checking j segment checks)) (λ _. Calm (h, is) (tt, tt))
      (λ _. stays (Checking j segment checks) (h, is)))

  moved_so : (j : JobState) (segment : SegRef) (checks : List Check) → Empties (segment ∷ j.left) j.deleted → InHand hand segment
      → TurnSo (job.on_moved j segment checks)
  moved_so j segment checks h is =
      by_test TurnSo (is_moving checks) (record { state = Checking j segment (map moved_at checks); outs = questions segment (map moved_at checks) })
      (still (Checking j segment checks)) (λ _. Calm (h, is) (asks_of segment (map moved_at checks))) (λ _. stays (Checking j segment checks) (h, is))

  deleted_so : (server : ℕ) (name : SegName) (j : JobState) (segment : SegRef) (servers : List ℕ) → Empties (segment ∷ j.left) j.deleted
      → InHand hand segment → IsDropped e begun end segment.name ⊎ (servers ≡ []) → TurnSo (job.on_deleted server name j segment servers)
  deleted_so server name j segment servers h is (inl dropped) =
      by_test TurnSo (same_name name segment.name && is_among servers server) (job.job_go_on j segment (without servers server))
      (still (Deleting j segment servers))
      (λ _. by_test TurnSo (length (without servers server) == 0) (job.next (job.counted j)) (still (Deleting j segment (without servers server)))
      (λ _. next_so (job.counted j) (dropped_one e begun end last at_first many segment j.left j.deleted h dropped))
      (λ _. stays (Deleting j segment (without servers server)) (h, is, inl dropped)))
      (λ _. stays (Deleting j segment servers) (h, is, inl dropped))
  deleted_so server name j segment servers h is (inr none) =
      by_test TurnSo (same_name name segment.name && is_among servers server) (job.job_go_on j segment (without servers server))
      (still (Deleting j segment servers))
      (λ fact. contrary (sym (ap (λ (xs : List ℕ). is_among xs server) none) ∙ and_second (same_name name segment.name) (is_among servers server) fact))
      (λ _. stays (Deleting j segment servers) (h, is, inr none))

  -- ---- each input in the phase that awaits it

  forgetting_so : (slot : ℕ) (p : Phase) → So p → TurnSo (transitions.forgetting slot p)
  forgetting_so slot (Counting c) h =
      by_test TurnSo (has_usage c.usages slot) _ (still (Counting c)) (λ _. Calm h (tt, tt)) (λ _. stays (Counting c) h)
  forgetting_so slot p h = stays p h

  mapped_phase : (groups : GroupMapState) (p : Phase) → So p → So (transitions.mapped groups p)
  mapped_phase groups Greeting h = h
  mapped_phase groups (Listing l) h = record {
    welcomed = h.welcomed;
    slots = h.slots;
    lists = h.lists;
    come = h.come;
    under = h.under;
    all = h.all;
    are = h.are;
  }
  mapped_phase groups (Counting c) h = h
  mapped_phase groups (Reading j segment) h = h
  mapped_phase groups (Checking j segment checks) h = h
  mapped_phase groups (Deleting j segment servers) h = h
  mapped_phase groups Over h = h

  -- ---- a list

  module _ (server : ℕ) (held : List FragMeta) (l : ListingState) (m : ListSo server held) (h : ListingSo e begun end last at_first asked l) where
    abbrev lists : List (ℕ × Listed)
    lists = h.lists ++ (server, m.list) ∷ []

    abbrev names : List (ℕ × Listed) → List ℕ
    names xs = map (λ (list : ℕ × Listed). list.0) xs

    named : names lists ≡ names h.lists ++ server ∷ []
    named = map-append (λ (list : ℕ × Listed). list.0) h.lists ((server, m.list) ∷ [])

    all_of : (x : ℕ) → In x l.awaited ⊎ In x (names h.lists) → In x (without l.awaited server) ⊎ In x (names lists)
    all_of x (inl awaited) = by (in_without x server l.awaited awaited)
      where
        by : (x ≡ server) ⊎ In x (without l.awaited server) → In x (without l.awaited server) ⊎ In x (names lists)
        by (inl same) = inr (subst (λ (xs : List ℕ). In x xs) (sym named) (subst (λ (y : ℕ). In x (names h.lists ++ y ∷ [])) same (in_end x (names h.lists))))
        by (inr still) = inl still
    all_of x (inr heard) = inr (subst (λ (xs : List ℕ). In x xs) (sym named) (in_front x (names h.lists) (server ∷ []) heard))

    with_list : ListingSo e begun end last at_first asked (transitions.listing_hear l server held)
    with_list = record {
      welcomed = h.welcomed;
      slots = h.slots;
      lists = lists;
      come = all_append (ListCame e nodes.Cleaner begun end) h.lists ((server, m.list) ∷ []) h.come (m.come, tt);
      under = all_append (λ (list : ℕ × Listed). asked ≡ Some list.1.ask) h.lists ((server, m.list) ∷ []) h.under (m.under, tt);
      all = λ x there. all_of x (h.all x there);
      are = ap (λ (slots : List SlotNews). candidates_with slots held l.candidates) h.slots
          ∙ (ap (λ (xs : List FragMeta). candidates_with h.welcomed.welcome.news.slots xs l.candidates) m.held_is
          ∙ (ap (candidates_with h.welcomed.welcome.news.slots m.list.held) h.are
          ∙ sym (candidates_more h.welcomed.welcome.news.slots h.lists (server, m.list))));
    }

    asked_all : (xs : List (ℕ × Listed)) → AllByRecursion (λ (list : ℕ × Listed). asked ≡ Some list.1.ask) xs
        → AllByRecursion (λ (list : ℕ × Listed). list.1.ask ≡ m.list.ask) xs
    asked_all [] all = tt
    asked_all (list ∷ xs) all = (one_ask asked list.1.ask m.list.ask all.0 m.under, asked_all xs all.1)

    counted_all : without l.awaited server ≡ [] → AreCandidates e begun end last at_first (transitions.listing_hear l server held).candidates
    unfolding with_list
    counted_all none = record {
      from = h.welcomed.from;
      welcome = h.welcomed.welcome;
      welcomed = h.welcomed.welcomed;
      answers = h.welcomed.answers;
      groups = h.welcomed.groups;
      known = h.welcomed.known;
      ask = m.list.ask;
      newer = m.newer;
      lists = lists;
      come = with_list.come;
      asked = asked_all lists with_list.under;
      all = λ x there. by x (with_list.all x there);
      are = with_list.are;
    }
      where
        by : (x : ℕ) → In x (without l.awaited server) ⊎ In x (names lists) → In x (names lists)
        by x (inl awaited) = absurd (subst (λ (xs : List ℕ). In x xs) none awaited)
        by x (inr heard) = heard

    heard_so : TurnSo (transitions.listing_go_on (transitions.listing_hear l server held))
    heard_so =
        by_test TurnSo (length (without l.awaited server) == 0)
        (record {
          state = Counting (record { groups = l.groups; candidates = (transitions.listing_hear l server held).candidates; usages = [] });
          outs = transitions.usage_asks all_slots;
        })
        (still (Listing (transitions.listing_hear l server held)))
        (λ fact. Calm (counted_all (nothing (without l.awaited server) fact)) (all_map IsCalm (λ (slot : ℕ). out.UsageAsk slot) (λ slot. tt) all_slots))
        (λ _. stays (Listing (transitions.listing_hear l server held)) with_list)

  list_so : (server : ℕ) (held : List FragMeta) → ListSo server held → (p : Phase) → So p → TurnSo (transitions.listed_in server held p)
  list_so server held m (Listing l) h =
      by_test TurnSo (is_among l.awaited server) (transitions.listing_go_on (transitions.listing_hear l server held)) (still (Listing l))
      (λ _. heard_so server held l m h) (λ _. stays (Listing l) h)
  list_so server held m p h = stays p h

  -- ---- the choice

  chooses : (count : ℕ) → count ≡ many → (c : CountingState) → So (Counting c) → TurnSo (transitions.counting_go_on count c)
  chooses count same c h =
      by_test TurnSo (is_counted c.usages) (job.next (record { groups = c.groups; left = chosen count c; deleted = 0 })) (still (Counting c))
      (λ _. next_so (record { groups = c.groups; left = chosen count c; deleted = 0 })
      (subst (λ (n : ℕ). Empties (chosen n c) 0) (sym same)
      (record {
        taken = chosen many c;
        are = chosen_taken e begun end last at_first many c h;
        over = [];
        dropped = 0;
        emptied = NoneYet;
        whole = refl;
        counts = zero_least u32_end;
      })))
      (λ _. stays (Counting c) h)

  counts_so : (count : ℕ) → count ≡ many → (slot : ℕ) (counts : List (SegName × ℕ)) (p : Phase) → So p
      → TurnSo (transitions.counted_in count slot counts p)
  counts_so count same slot counts (Counting c) h =
      by_test TurnSo (has_usage c.usages slot) (still (Counting c)) (transitions.counting_go_on count (transitions.counting_hear slot counts c))
      (λ _. stays (Counting c) h) (λ _. chooses count same (transitions.counting_hear slot counts c) h)
  counts_so count same slot counts p h = stays p h

  reads_so : (read : Option Segment) (p : Phase) → InputSo (input.Read read) → So p → TurnSo (transitions.read_in read p)
  reads_so read (Reading j segment) has h = read_so read j segment has h.0 h.1
  reads_so read p has h = stays p h

  answered_so : (g : Check → Check) (p : Phase) → So p → TurnSo (transitions.answered_in g p)
  answered_so g (Checking j segment checks) h = looked_so j segment (any_asked checks) (map g checks) h.0 h.1
  answered_so g p h = stays p h

  settled_so : (p : Phase) → So p → TurnSo (transitions.moved_in p)
  settled_so (Checking j segment checks) h = moved_so j segment checks h.0 h.1
  settled_so p h = stays p h

  deletes_so : (server : ℕ) (name : SegName) (p : Phase) → So p → TurnSo (transitions.deleted_in server name p)
  deletes_so server name (Deleting j segment servers) h = deleted_so server name j segment servers h.0 h.1 h.2
  deletes_so server name p h = stays p h

  asking_so : (p : Phase) → So p → TurnSo (record { state = p; outs = transitions.phase_asking p })
  asking_so Greeting h = Calm h (tt, tt)
  asking_so (Listing l) h = Calm h (all_map IsCalm (λ (server : ℕ). out.List server) (λ server. tt) l.awaited)
  asking_so (Counting c) h = Calm h (all_map IsCalm (λ (slot : ℕ). out.UsageAsk slot) (λ slot. tt) (awaited_slots c.usages))
  asking_so (Reading j segment) h = Begins j segment h.0
  asking_so (Checking j segment checks) h = Calm h (asks_of segment checks)
  asking_so (Deleting j segment servers) h = Deletes j segment servers h.0 h.1
  asking_so Over h = Calm tt tt

  greets_so : (slots : List SlotNews) (groups : GroupMapState) → WelcomeSo slots groups → ListingSo e begun end last at_first asked (listing_begin slots groups)
  greets_so slots groups w = record {
    welcomed = w.welcomed;
    slots = w.slots_are;
    lists = [];
    come = tt;
    under = tt;
    all = λ x there. inl (subst (λ (g : GroupMapState). In x (all_servers g.servers)) (sym w.groups_are) there);
    are = refl;
  }

  -- ---- all inputs

  abbrev pub GoneSo : transitions.Done → Type 0
  GoneSo d = TurnSo (record { state = d.state.phase; outs = d.outs })

  pub taken_so : (s : CleaningState) (i : Input) → s.count ≡ many → InputSo i → So s.phase → GoneSo (transitions.transition s i)
  unfolding transitions.on_welcome transitions.on_promise transitions.on_usage transitions.on_live transitions.on_dead
  taken_so s (input.Welcome slots groups) same has h =
      by_test GoneSo (transitions.is_greeting s.phase && (length slots == 8)) (transitions.welcomed s slots groups) (still s)
      (λ _. Calm (greets_so slots groups has) (all_map IsCalm (λ (server : ℕ). out.List server) (λ server. tt) (listing_begin slots groups).awaited))
      (λ _. stays s.phase h)
  taken_so s (input.Promise slot epoch) same has h =
      by_test GoneSo (is_above s.promised slot epoch)
      (transitions.turned (record s { promised = promised_with s.promised slot epoch }) (transitions.forgetting slot s.phase)) (still s)
      (λ _. forgetting_so slot s.phase h) (λ _. stays s.phase h)
  taken_so s (input.Maps groups) same has h = Calm (mapped_phase groups s.phase h) tt
  taken_so s (input.Listed server held) same has h = list_so server held has s.phase h
  taken_so s (input.Usage slot epoch counts) same has h =
      by_test GoneSo (is_promised s.promised slot epoch) (transitions.turned s (transitions.counted_in s.count slot counts s.phase)) (still s)
      (λ _. counts_so s.count same slot counts s.phase h) (λ _. stays s.phase h)
  taken_so s (input.Read read) same has h = reads_so read s.phase has h
  taken_so s (input.Live block epoch entry) same has h =
      by_test GoneSo (transitions.cleaning_hears s.promised block epoch && transitions.may_move entry)
      (transitions.turned s (transitions.answered_in (live_at block entry) s.phase)) (still s) (λ _. answered_so (live_at block entry) s.phase h)
      (λ _. stays s.phase h)
  taken_so s (input.Dead block epoch) same has h =
      by_test GoneSo (transitions.cleaning_hears s.promised block epoch) (transitions.turned s (transitions.answered_in (dead_at block) s.phase)) (still s)
      (λ _. answered_so (dead_at block) s.phase h) (λ _. stays s.phase h)
  taken_so s input.Moved same has h = settled_so s.phase h
  taken_so s (input.Deleted server name) same has h = deletes_so server name s.phase h
  taken_so s input.Tick same has h = asking_so s.phase h

  -- how many it was asked for stays
  pub count_stays : (s : CleaningState) (i : Input) → (transitions.transition s i).state.count ≡ s.count
  unfolding transitions.on_welcome transitions.on_promise transitions.on_usage transitions.on_live transitions.on_dead
  count_stays s (input.Welcome slots groups) =
      by_test (λ (d : transitions.Done). d.state.count ≡ s.count) (transitions.is_greeting s.phase && (length slots == 8)) (transitions.welcomed s slots groups)
      (still s) (λ _. refl) (λ _. refl)
  count_stays s (input.Promise slot epoch) =
      by_test (λ (d : transitions.Done). d.state.count ≡ s.count) (is_above s.promised slot epoch)
      (transitions.turned (record s { promised = promised_with s.promised slot epoch }) (transitions.forgetting slot s.phase)) (still s) (λ _. refl) (λ _. refl)
  count_stays s (input.Maps groups) = refl
  count_stays s (input.Listed server held) = refl
  count_stays s (input.Usage slot epoch counts) =
      by_test (λ (d : transitions.Done). d.state.count ≡ s.count) (is_promised s.promised slot epoch)
      (transitions.turned s (transitions.counted_in s.count slot counts s.phase)) (still s) (λ _. refl) (λ _. refl)
  count_stays s (input.Read read) = refl
  count_stays s (input.Live block epoch entry) =
      by_test (λ (d : transitions.Done). d.state.count ≡ s.count) (transitions.cleaning_hears s.promised block epoch && transitions.may_move entry)
      (transitions.turned s (transitions.answered_in (live_at block entry) s.phase)) (still s) (λ _. refl) (λ _. refl)
  count_stays s (input.Dead block epoch) =
      by_test (λ (d : transitions.Done). d.state.count ≡ s.count) (transitions.cleaning_hears s.promised block epoch)
      (transitions.turned s (transitions.answered_in (dead_at block) s.phase)) (still s) (λ _. refl) (λ _. refl)
  count_stays s input.Moved = refl
  count_stays s (input.Deleted server name) = refl
  count_stays s input.Tick = refl
