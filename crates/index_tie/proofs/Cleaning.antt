-- A job's inputs as steps of the cleaner: promises, counts of what is answered Dead, and drops of what is deleted.
use Rattle.std.proofs.Common.{◌≡◌, ℕ, ◌<◌, ◌≤◌, ◌⊎◌, inl, inr, Bool, true, false, cond, List, [], ◌∷◌, Option, Some, None, map, length, refl, sym, ap, subst, ◌∙◌, arith}
use Rattle.std.specs.Prelude.{◌==◌, ◌&&◌, nat_lt}
use Rattle.std.specs.List.{AllByRecursion, list_any}
use Rattle.std.proofs.lemmas.Bool.{false≢true, ltb-true}
use Rattle.std.proofs.lemmas.Bool.Decides.{nat_tests}
use Rattle.std.proofs.lemmas.Map.Views.{tells_apart}
use Rattle.group_map.specs.GroupMapState.{GroupMapState}
use Rattle.segment_format.specs.declared.segment.Segment.{Segment}
use Rattle.xfs_base.specs.declared.block.BlockId.{BlockId}
use Rattle.xfs_base.specs.declared.entry.Entry.{Entry}
use Rattle.xfs_base.specs.declared.fragment.FragMeta.{FragMeta}
use Rattle.xfs_base.specs.declared.news.SlotNews.{SlotNews}
use Rattle.xfs_base.specs.declared.segment.SegName.{SegName}
use Rattle.xfs_base.specs.declared.segment.SegRef.{SegRef}
use Rattle.xfs_base.specs.Blocks.{slot_of, same_block}
use Rattle.xfs_base.specs.Steps.{still}
use Rattle.xfs_base.proofs.BlockOrder.{same_block_exact, same_block_itself}
use Rattle.xfs_base.proofs.Booleans.{by_test}
use Rattle.xfs_base.proofs.Orders.{seg_cmp_exact}
use Rattle.stripe_cleaner.specs.declared.checks.Check.{Check}
use Rattle.stripe_cleaner.specs.declared.input.In.{In}
use Rattle.stripe_cleaner.specs.declared.input.In.TheVariants as input
use Rattle.stripe_cleaner.specs.declared.output.Out.{Out}
use Rattle.stripe_cleaner.specs.declared.phase.Phase.{Phase}
use Rattle.stripe_cleaner.specs.declared.phase.Phase.TheVariants.{Reading, Checking}
use Rattle.stripe_cleaner.specs.Checks.{checks_of, after_live, after_dead, live_at, dead_at, moved_at, is_dead, any_asked, all_dead, questions}
use Rattle.stripe_cleaner.specs.CleaningState.{CleaningState}
use Rattle.stripe_cleaner.specs.Histories.{blocks_of}
use Rattle.stripe_cleaner.specs.Job.{Turn, next, same_name, job_check, job_look, is_moving}
use Rattle.stripe_cleaner.specs.JobState.{JobState}
use Rattle.stripe_cleaner.specs.Listing.{listing_begin}
use Rattle.stripe_cleaner.specs.Promises.{promised_at, promised_with, is_above, is_promised}
use Rattle.stripe_cleaner.specs.Transition.{Done, turned, is_greeting, welcomed, on_welcome, forgetting, on_promise, listed_in, counted_in, read_in, answered_in, moved_in, deleted_in, on_usage, cleaning_hears, may_move, on_live, on_dead, transition}
use Rattle.stripe_cleaner.proofs.Turns.{says_lists, says_questions, next_fine, checking_fine, looked_fine, listed_in_fine, counted_in_fine, forgetting_fine, mapped_fine, deleted_in_fine, awaits_fine}
use Rattle.log_protocol.specs.IndexState.{IndexState}
use Rattle.log_protocol.specs.IndexSteps.{IndexSteps, promises, counts, drops_row}
use Rattle.log_protocol.specs.IndexSteps.IndexSteps.{Done as Ended, More}
use Rattle.log_protocol.specs.IndexSteps.IndexStep.{Promises, Counts, Drops_row}
use Rattle.log_protocol.proofs.IndexRunsGoOn.{index_steps_on}
use Rattle.headline.specs.Filed.{Filed, has_block, is_filed_name}
use Rattle.index_tie.specs.Cleaning.{IsWithin, IsChecked, IsDropped, Known, promise_of, Cleans, NoLower, ReadFor, ToldFor, Owes, DeletesDropped, uncleaned, Cleaned, MovesAndDrops}
use Rattle.index_tie.proofs.CheckLists.{blocks-checks, blocks-map, all-map, all-each, of_dead, live_stays, moved_stays, live_block, dead_block, none_dead}
use Rattle.index_tie.proofs.Tables.{at_same}

-- when an epoch is promised, the end of the cleaner's log is noted for those that were not
pub polled_at : (w : IndexState) (p e : ℕ) → ((promises w p).polled e ≡ w.polled e) ⊎ ((w.promised < e) × ((promises w p).polled e ≡ w.head w.cleaner))
polled_at w p e = by (nat_lt w.promised e) (nat_lt p e) refl
  where
    by : (t u : Bool) → nat_lt w.promised e ≡ t
        → (cond t (cond u (w.polled e) (w.head w.cleaner)) (w.polled e) ≡ w.polled e)
        ⊎ ((w.promised < e) × (cond t (cond u (w.polled e) (w.head w.cleaner)) (w.polled e) ≡ w.head w.cleaner))
    by true true fact = inl refl
    by true false fact = inr (ltb-true w.promised e fact, refl)
    by false u fact = inl refl

module _ (b : BlockId) (f : Filed) where
  -- ---- what is given, where what is deleted was dropped

  module _ (dead_table dropped : ℕ → ℕ → ℕ) where
    abbrev KnownIn : Phase → Type 0
    KnownIn p = Known b f dead_table dropped p

    abbrev Says : List Out → Type 0
    Says outs = AllByRecursion (DeletesDropped b f dropped) outs

    abbrev Fine : Turn → Type 0
    Fine turn = KnownIn turn.state × Says turn.outs

    -- checks that a change leaves as dead as they were
    checked_map : (name : SegName) (checks : List Check) (g : Check → Check) → ((c : Check) → (g c).block ≡ c.block)
        → ((c : Check) → is_dead (g c).fate ≡ true → is_dead c.fate ≡ true) → IsChecked b f dead_table name checks
        → IsChecked b f dead_table name (map g checks)
    checked_map name checks g same dead k = record {
      within = k.within;
      blocks = λ fact. blocks-map g same checks ∙ k.blocks fact;
      counted = λ fact has. all-map (λ c. c.block ≡ b → is_dead c.fate ≡ true → 0 < dead_table name.log.0 name.seq)
          (λ c. c.block ≡ b → is_dead c.fate ≡ true → 0 < dead_table name.log.0 name.seq) g
          (λ c so at now. so (sym (same c) ∙ at) (dead c now)) checks (k.counted fact has);
    }

    moved_fine : (p : Phase) → KnownIn p → Fine (moved_in p)
    moved_fine (Checking j segment checks) k =
        by_test Fine (is_moving checks) (record { state = Checking j segment (map moved_at checks); outs = questions segment (map moved_at checks) })
        (still (Checking j segment checks))
        (λ t. (checked_map segment.name checks moved_at (λ c. refl) (λ c. moved_stays c.fate) k, says_questions (DeletesDropped b f dropped) (λ block place. tt) segment (map moved_at checks)))
        (λ t. (k, tt))
    moved_fine p k = (k, tt)

  -- ---- steps

  -- by counts and drops the index becomes one in which the turn is fine
  record Turned (w : IndexState) (turn : Turn) : Type 0 where
    state : IndexState
    steps : IndexSteps w state
    frame : uncleaned state ≡ uncleaned w
    promised : state.promised ≡ w.promised
    polled : (e : ℕ) → state.polled e ≡ w.polled e
    fine : Fine state.dead_at state.dropped turn

  by_nothing : (w : IndexState) (turn : Turn) → Fine w.dead_at w.dropped turn → Turned w turn
  by_nothing w turn fine = record { state = w; steps = Ended; frame = refl; promised = refl; polled = λ e. refl; fine = fine }

  -- the row of a segment of which each check is dead is dropped
  record Ends (w : IndexState) (name : SegName) (checks : List Check) : Type 0 where
    state : IndexState
    steps : IndexSteps w state
    frame : uncleaned state ≡ uncleaned w
    promised : state.promised ≡ w.promised
    polled : (e : ℕ) → state.polled e ≡ w.polled e
    checked : IsChecked b f state.dead_at name checks
    drops : all_dead checks ≡ true → IsDropped b f state.dropped name

  ends : (w : IndexState) (name : SegName) (checks : List Check) → IsChecked b f w.dead_at name checks → Ends w name checks
  ends w name checks k = by (is_filed_name f name) (has_block b f name) (all_dead checks) refl refl refl
    where
      l : ℕ
      l = name.log.0

      q : ℕ
      q = name.seq

      same : (((is_filed_name f name ≡ true) → (has_block b f name ≡ true) → all_dead checks ≡ true → ⊥)) → Ends w name checks
      same never = record {
        state = w;
        steps = Ended;
        frame = refl;
        promised = refl;
        polled = λ e. refl;
        checked = k;
        drops = λ dead. record { within = k.within; row_dropped = λ fact has. absurd (never fact has dead) };
      }

      by : (t u v : Bool) → is_filed_name f name ≡ t → has_block b f name ≡ u → all_dead checks ≡ v → Ends w name checks
      by true true true fact has dead =
          let some : 0 < w.dead_at name.log.0 name.seq =
          of_dead b (0 < w.dead_at name.log.0 name.seq) checks dead (ap (list_any (same_block b)) (k.blocks fact) ∙ has) (k.counted fact has) in
          record {
            state = drops_row w name.log.0 name.seq;
            steps = More Ended (Drops_row name.log.0 name.seq (record { counted = some }));
            frame = refl;
            promised = refl;
            polled = λ e. refl;
            checked = k;
            drops = λ _. record {
              within = k.within;
              row_dropped = λ _ _. at_same name.log.0 (cond (name.seq == name.seq) 1 (w.dropped name.log.0 name.seq)) (w.dropped name.log.0 name.seq)
                  ∙ at_same name.seq 1 (w.dropped name.log.0 name.seq);
            };
          }
      by true true false fact has alive = same (λ _ _ dead. false≢true (sym alive ∙ dead))
      by true false v fact none alive = same (λ _ has _. false≢true (sym none ∙ has))
      by false u v twin has alive = same (λ fact _ _. false≢true (sym twin ∙ fact))

  looked : (w : IndexState) (j : JobState) (segment : SegRef) (was_asked : Bool) (checks : List Check) → IsChecked b f w.dead_at segment.name checks
      → Turned w (job_look j segment was_asked checks)
  looked w j segment was_asked checks k = let e =
      ends w segment.name checks k in
      record {
        state = e.state;
        steps = e.steps;
        frame = e.frame;
        promised = e.promised;
        polled = e.polled;
        fine = looked_fine (IsChecked b f e.state.dead_at) (IsDropped b f e.state.dropped) j segment was_asked checks e.checked (λ dead servers. e.drops dead);
      }

  checked_first : (w : IndexState) (j : JobState) (segment : SegRef) (read : Segment) → IsWithin f segment.name
      → (is_filed_name f segment.name ≡ true → read ≡ f.segment segment.name.log.0 segment.name.seq) → Turned w (job_check j segment (checks_of 0 read.items))
  checked_first w j segment read within text =
      let checks = checks_of 0 read.items in
      let k : IsChecked b f w.dead_at segment.name checks = record {
        within = within;
        blocks = λ fact. blocks-checks 0 read.items ∙ ap (λ (s : Segment). blocks_of s.items) (text fact);
        counted = λ fact has. weaker checks (none_dead 0 read.items);
      } in
      let e = ends w segment.name checks k in
      record {
        state = e.state;
        steps = e.steps;
        frame = e.frame;
        promised = e.promised;
        polled = e.polled;
        fine = checking_fine (IsChecked b f e.state.dead_at) (IsDropped b f e.state.dropped) j segment checks e.checked (λ dead servers. e.drops dead);
      }
    where
      weaker : (cs : List Check) → AllByRecursion (λ (c : Check). is_dead c.fate ≡ false) cs
          → AllByRecursion (λ (c : Check). c.block ≡ b → is_dead c.fate ≡ true → 0 < w.dead_at segment.name.log.0 segment.name.seq) cs
      weaker [] all = tt
      weaker (c ∷ cs) all = ((λ _ dead. absurd (false≢true (sym all.0 ∙ dead))), weaker cs all.1)

  read_turned : (w : IndexState) (read : Option Segment) (p : Phase) → Known b f w.dead_at w.dropped p → ReadFor f read p → Turned w (read_in read p)
  read_turned w None (Reading j segment) k owes = by_nothing w (next j) (next_fine (IsChecked b f w.dead_at) (IsDropped b f w.dropped) j.left j)
  read_turned w (Some read) (Reading j segment) k owes =
      by_test (Turned w) (same_name read.name segment.name) (job_check j segment (checks_of 0 read.items)) (still (Reading j segment))
      (λ t. checked_first w j segment read owes.0 (λ fact. owes.1 fact (tells_apart seg_cmp_exact read.name segment.name t)))
      (λ t. by_nothing w (still (Reading j segment)) (tt, tt))
  read_turned w read p k owes = by_nothing w (still p) (k, tt)

  live_turned : (w : IndexState) (block : BlockId) (entry : Entry) (p : Phase) → Known b f w.dead_at w.dropped p
      → Turned w (answered_in (live_at block entry) p)
  live_turned w block entry (Checking j segment checks) k =
      looked w j segment (any_asked checks) (map (live_at block entry) checks)
      (checked_map w.dead_at w.dropped segment.name checks (live_at block entry) (live_block block entry)
      (λ c. by_test (λ (d : Check). is_dead d.fate ≡ true → is_dead c.fate ≡ true) (same_block c.block block) (record c { fate = after_live entry c.fate }) c
      (λ _. live_stays entry c.fate) (λ _ h. h))
      k)
  live_turned w block entry p k = by_nothing w (still p) (k, tt)

  -- what is answered Dead of the block is counted
  dead_turned : (w : IndexState) (block : BlockId) (epoch : ℕ) (p : Phase) → Known b f w.dead_at w.dropped p → (block ≡ b → ToldFor b f w epoch p)
      → (block ≡ b → 0 < epoch → epoch ≡ w.promised) → Turned w (answered_in (dead_at block) p)
  dead_turned w block epoch (Checking j segment checks) k told latest =
      by (is_filed_name f segment.name) (has_block b f segment.name) (same_block b block) refl refl refl
    where
      -- checks whose counts are as they have to be
      dead_checks : (table : ℕ → ℕ → ℕ)
          → (is_filed_name f segment.name ≡ true → has_block b f segment.name ≡ true
          → AllByRecursion (λ (c : Check). c.block ≡ b → is_dead c.fate ≡ true → 0 < table segment.name.log.0 segment.name.seq) (map (dead_at block) checks))
          → IsChecked b f table segment.name (map (dead_at block) checks)
      dead_checks table all = record { within = k.within; blocks = λ fact. blocks-map (dead_at block) (dead_block block) checks ∙ k.blocks fact; counted = all }

      -- a check of another block is as dead as it was
      elsewhere : same_block b block ≡ false → (c : Check) → (c.block ≡ b → is_dead c.fate ≡ true → 0 < w.dead_at segment.name.log.0 segment.name.seq)
          → (dead_at block c).block ≡ b → is_dead (dead_at block c).fate ≡ true
          → 0 < w.dead_at segment.name.log.0 segment.name.seq
      elsewhere other c =
          by_test (λ (d : Check). (c.block ≡ b → is_dead c.fate ≡ true → 0 < w.dead_at segment.name.log.0 segment.name.seq) → d.block ≡ b
          → is_dead d.fate ≡ true → 0 < w.dead_at segment.name.log.0 segment.name.seq)
          (same_block c.block block) (record c { fate = after_dead c.fate }) c
          (λ t so at dead. let fact : block ≡ b = same_block_exact c.block block t ∙ at in
          absurd (false≢true (sym other ∙ ap (same_block b) fact ∙ same_block_itself b)))
          (λ t so. so)

      by : (t u v : Bool) → is_filed_name f segment.name ≡ t → has_block b f segment.name ≡ u → same_block b block ≡ v
          → Turned w (job_look j segment (any_asked checks) (map (dead_at block) checks))
      by true true true fact has same =
          let l = segment.name.log.0 in
          let q = segment.name.seq in
          let at : block ≡ b = same_block_exact b block same in
          let was = told at fact has in
          let v = counts w epoch l q in
          let now : v.dead_at l q ≡ epoch = at_same l (cond (q == q) epoch (w.dead_at l q)) (w.dead_at l q) ∙ at_same q epoch (w.dead_at l q) in
          let some : 0 < v.dead_at l q = subst (λ n. 0 < n) (sym now) was.0 in
          let t = looked v j segment (any_asked checks) (map (dead_at block) checks)
          (dead_checks v.dead_at (λ _ _. all-each (λ c. c.block ≡ b → is_dead c.fate ≡ true → 0 < v.dead_at l q) (λ c _ _. some) (map (dead_at block) checks)))
          in
          record {
            state = t.state;
            steps = index_steps_on w v t.state (More Ended (Counts epoch l q (record { told = was.1; latest = latest at was.0 }))) t.steps;
            frame = t.frame;
            promised = t.promised;
            polled = t.polled;
            fine = t.fine;
          }
      by true true false fact has other =
          looked w j segment (any_asked checks) (map (dead_at block) checks)
          (dead_checks w.dead_at (λ is_ has_. all-map (λ c. c.block ≡ b → is_dead c.fate ≡ true → 0 < w.dead_at segment.name.log.0 segment.name.seq)
          (λ c. c.block ≡ b → is_dead c.fate ≡ true → 0 < w.dead_at segment.name.log.0 segment.name.seq) (dead_at block) (elsewhere other) checks
          (k.counted fact has)))
      by true false v fact none same =
          looked w j segment (any_asked checks) (map (dead_at block) checks) (dead_checks w.dead_at (λ _ has. absurd (false≢true (sym none ∙ has))))
      by false u v twin has same =
          looked w j segment (any_asked checks) (map (dead_at block) checks) (dead_checks w.dead_at (λ fact _. absurd (false≢true (sym twin ∙ fact))))
  dead_turned w block epoch p k told latest = by_nothing w (still p) (k, tt)

  -- ---- all inputs

  -- what is no promise leaves the promise as it was
  pub record StaysOn (w : IndexState) (d : Done) : Type 0 where
    pub cleaned : Cleaned b f w d
    pub promised : cleaned.state.promised ≡ w.promised
    pub polled : (e : ℕ) → cleaned.state.polled e ≡ w.polled e

  turns : (w : IndexState) (s : CleaningState) (turn : Turn) → Cleans b f w s → Turned w turn → StaysOn w (turned s turn)
  turns w s turn c t = record {
    cleaned = record {
      state = t.state;
      steps = t.steps;
      frame = t.frame;
      shows = record { promised = still_promised c.promised; known = t.fine.0 };
      deletes = t.fine.1;
    };
    promised = t.promised;
    polled = t.polled;
  }
    where
      still_promised : (promise_of b s ≡ 0) ⊎ (w.promised ≡ promise_of b s) → (promise_of b s ≡ 0) ⊎ (t.state.promised ≡ promise_of b s)
      still_promised (inl none) = inl none
      still_promised (inr fact) = inr (t.promised ∙ fact)

  stays_same : (w : IndexState) (s : CleaningState) (d : Done) → Cleans b f w s → promise_of b d.state ≡ promise_of b s
      → Known b f w.dead_at w.dropped d.state.phase → AllByRecursion (DeletesDropped b f w.dropped) d.outs → StaysOn w d
  stays_same w s d c same known says = record {
    cleaned = record { state = w; steps = Ended; frame = refl; shows = record { promised = as_before c.promised; known = known }; deletes = says };
    promised = refl;
    polled = λ e. refl;
  }
    where
      as_before : (promise_of b s ≡ 0) ⊎ (w.promised ≡ promise_of b s) → (promise_of b d.state ≡ 0) ⊎ (w.promised ≡ promise_of b d.state)
      as_before (inl none) = inl (same ∙ none)
      as_before (inr fact) = inr (fact ∙ sym same)

  quiet : (w : IndexState) (s : CleaningState) → Cleans b f w s → StaysOn w (still s)
  quiet w s c = stays_same w s (still s) c refl c.known tt

  -- a promise that isn't lower
  pub record RisesOn (w : IndexState) (d : Done) : Type 0 where
    pub cleaned : Cleaned b f w d
    pub promised : cleaned.state.promised ≡ promise_of b d.state
    pub polled : (e : ℕ) → (cleaned.state.polled e ≡ w.polled e) ⊎ ((w.promised < e) × (cleaned.state.polled e ≡ w.head w.cleaner))

  rises_to : (w : IndexState) (d : Done) → w.promised ≤ promise_of b d.state → Known b f w.dead_at w.dropped d.state.phase
      → AllByRecursion (DeletesDropped b f w.dropped) d.outs → RisesOn w d
  rises_to w d rises known says = record {
    cleaned = record {
      state = promises w (promise_of b d.state);
      steps = More Ended (Promises (promise_of b d.state) (record { rises = rises }));
      frame = refl;
      shows = record { promised = inr refl; known = known };
      deletes = says;
    };
    promised = refl;
    polled = polled_at w (promise_of b d.state);
  }

  -- the phase after a promise or a Welcome
  welcome_known : (w : IndexState) (s : CleaningState) (slots : List SlotNews) (groups : GroupMapState) → Cleans b f w s
      → Known b f w.dead_at w.dropped (on_welcome s slots groups).state.phase × AllByRecursion (DeletesDropped b f w.dropped) (on_welcome s slots groups).outs
  unfolding on_welcome
  welcome_known w s slots groups c =
      by_test (λ (d : Done). Known b f w.dead_at w.dropped d.state.phase × AllByRecursion (DeletesDropped b f w.dropped) d.outs)
      (is_greeting s.phase && (length slots == 8)) (welcomed s slots groups) (still s)
      (λ _. (tt, says_lists (DeletesDropped b f w.dropped) (λ server. tt) (listing_begin slots groups).awaited))
      (λ _. (c.known, tt))

  promise_known : (w : IndexState) (s : CleaningState) (slot epoch : ℕ) → Cleans b f w s
      → Known b f w.dead_at w.dropped (on_promise s slot epoch).state.phase × AllByRecursion (DeletesDropped b f w.dropped) (on_promise s slot epoch).outs
  unfolding on_promise
  promise_known w s slot epoch c =
      by_test (λ (d : Done). Known b f w.dead_at w.dropped d.state.phase × AllByRecursion (DeletesDropped b f w.dropped) d.outs)
      (is_above s.promised slot epoch)
      (turned (record s { promised = promised_with s.promised slot epoch }) (forgetting slot s.phase)) (still s)
      (λ _. forgetting_fine (IsChecked b f w.dead_at) (IsDropped b f w.dropped) slot s.phase c.known)
      (λ _. (c.known, tt))

  pub welcome_rises : (w : IndexState) (s : CleaningState) (slots : List SlotNews) (groups : GroupMapState) → Cleans b f w s
      → w.promised ≤ promise_of b (on_welcome s slots groups).state → RisesOn w (on_welcome s slots groups)
  welcome_rises w s slots groups c rises = let k = welcome_known w s slots groups c in rises_to w (on_welcome s slots groups) rises k.0 k.1

  pub promise_rises : (w : IndexState) (s : CleaningState) (slot epoch : ℕ) → Cleans b f w s → w.promised ≤ promise_of b (on_promise s slot epoch).state
      → RisesOn w (on_promise s slot epoch)
  promise_rises w s slot epoch c rises = let k = promise_known w s slot epoch c in rises_to w (on_promise s slot epoch) rises k.0 k.1

  pub promise_stays : (w : IndexState) (s : CleaningState) (slot epoch : ℕ) → Cleans b f w s → promise_of b (on_promise s slot epoch).state ≡ promise_of b s
      → StaysOn w (on_promise s slot epoch)
  promise_stays w s slot epoch c same = let k = promise_known w s slot epoch c in stays_same w s (on_promise s slot epoch) c same k.0 k.1

  pub usage_stays : (w : IndexState) (s : CleaningState) (slot epoch : ℕ) (counts : _) → Cleans b f w s → StaysOn w (on_usage s slot epoch counts)
  unfolding on_usage
  usage_stays w s slot epoch counts c =
      by_test (StaysOn w) (is_promised s.promised slot epoch) (turned s (counted_in s.count slot counts s.phase)) (still s)
      (λ _. turns w s (counted_in s.count slot counts s.phase) c
      (by_nothing w (counted_in s.count slot counts s.phase) (counted_in_fine (IsChecked b f w.dead_at) (IsDropped b f w.dropped) s.count slot counts s.phase c.known)))
      (λ _. quiet w s c)

  pub live_answered : (w : IndexState) (s : CleaningState) (block : BlockId) (epoch : ℕ) (entry : Entry) → Cleans b f w s
      → StaysOn w (on_live s block epoch entry)
  unfolding on_live
  live_answered w s block epoch entry c =
      by_test (StaysOn w) (cleaning_hears s.promised block epoch && may_move entry) (turned s (answered_in (live_at block entry) s.phase)) (still s)
      (λ _. turns w s (answered_in (live_at block entry) s.phase) c (live_turned w block entry s.phase c.known))
      (λ _. quiet w s c)

  same_number : (x : ℕ) (t : Bool) (y : ℕ) → (t && (x == y)) ≡ true → x ≡ y
  same_number x t y h = grind (arith, nat_tests)

  -- a Dead that is heard is of the promised epoch
  pub heard_at : (s : CleaningState) (block : BlockId) (epoch : ℕ) → block ≡ b → cleaning_hears s.promised block epoch ≡ true → epoch ≡ promise_of b s
  heard_at s block epoch at heard =
      same_number epoch (nat_lt (slot_of block.ino.0) 8) (promised_at s.promised (slot_of block.ino.0)) heard
      ∙ ap (λ (k : BlockId). promised_at s.promised (slot_of k.ino.0)) at

  pub dead_answered : (w : IndexState) (s : CleaningState) (block : BlockId) (epoch : ℕ) → Cleans b f w s
      → (block ≡ b → cleaning_hears s.promised block epoch ≡ true → ToldFor b f w epoch s.phase) → StaysOn w (on_dead s block epoch)
  unfolding on_dead
  dead_answered w s block epoch c told =
      by_test (StaysOn w) (cleaning_hears s.promised block epoch) (turned s (answered_in (dead_at block) s.phase)) (still s)
      (λ heard. turns w s (answered_in (dead_at block) s.phase) c
      (dead_turned w block epoch s.phase c.known (λ at. told at heard) (λ at some. latest c.promised (heard_at s block epoch at heard) some)))
      (λ _. quiet w s c)
    where
      latest : (promise_of b s ≡ 0) ⊎ (w.promised ≡ promise_of b s) → epoch ≡ promise_of b s → 0 < epoch → epoch ≡ w.promised
      latest (inl none) fact some = absurd (omega arith)
      latest (inr same) fact some = fact ∙ sym same

  pub read_stays : (w : IndexState) (s : CleaningState) (read : Option Segment) → Cleans b f w s → ReadFor f read s.phase
      → StaysOn w (transition s (input.Read read))
  read_stays w s read c owes = turns w s (read_in read s.phase) c (read_turned w read s.phase c.known owes)

  pub maps_stay : (w : IndexState) (s : CleaningState) (groups : GroupMapState) → Cleans b f w s → StaysOn w (transition s (input.Maps groups))
  maps_stay w s groups c = stays_same w s (transition s (input.Maps groups)) c refl (mapped_fine (IsChecked b f w.dead_at) (IsDropped b f w.dropped) groups s.phase c.known) tt

  pub listed_stays : (w : IndexState) (s : CleaningState) (server : ℕ) (held : List FragMeta) → Cleans b f w s
      → StaysOn w (transition s (input.Listed server held))
  listed_stays w s server held c =
      turns w s (listed_in server held s.phase) c
      (by_nothing w (listed_in server held s.phase) (listed_in_fine (IsChecked b f w.dead_at) (IsDropped b f w.dropped) server held s.phase c.known))

  pub moved_stays_on : (w : IndexState) (s : CleaningState) → Cleans b f w s → StaysOn w (transition s input.Moved)
  moved_stays_on w s c = turns w s (moved_in s.phase) c (by_nothing w (moved_in s.phase) (moved_fine w.dead_at w.dropped s.phase c.known))

  pub deleted_stays : (w : IndexState) (s : CleaningState) (server : ℕ) (name : SegName) → Cleans b f w s → StaysOn w (transition s (input.Deleted server name))
  deleted_stays w s server name c =
      turns w s (deleted_in server name s.phase) c
      (by_nothing w (deleted_in server name s.phase) (deleted_in_fine (IsChecked b f w.dead_at) (IsDropped b f w.dropped) server name s.phase c.known))

  pub tick_stays : (w : IndexState) (s : CleaningState) → Cleans b f w s → StaysOn w (transition s input.Tick)
  tick_stays w s c = stays_same w s (transition s input.Tick) c refl c.known (awaits_fine (IsChecked b f w.dead_at) (IsDropped b f w.dropped) s.phase c.known)

  welcome_cleans : (w : IndexState) (s : CleaningState) (slots : List SlotNews) (groups : GroupMapState) → Cleans b f w s
      → NoLower b w s (on_welcome s slots groups).state → Cleaned b f w (on_welcome s slots groups)
  welcome_cleans w s slots groups c (inl same) = let k = welcome_known w s slots groups c in (stays_same w s (on_welcome s slots groups) c same k.0 k.1).cleaned
  welcome_cleans w s slots groups c (inr rises) = (welcome_rises w s slots groups c rises).cleaned

  promise_cleans : (w : IndexState) (s : CleaningState) (slot epoch : ℕ) → Cleans b f w s → NoLower b w s (on_promise s slot epoch).state
      → Cleaned b f w (on_promise s slot epoch)
  promise_cleans w s slot epoch c (inl same) = (promise_stays w s slot epoch c same).cleaned
  promise_cleans w s slot epoch c (inr rises) = (promise_rises w s slot epoch c rises).cleaned

  pub cleans_all : (w : IndexState) (s : CleaningState) (i : In) → Cleans b f w s → Owes b f w s i → Cleaned b f w (transition s i)
  cleans_all w s (input.Welcome slots groups) c owes = welcome_cleans w s slots groups c owes
  cleans_all w s (input.Promise slot epoch) c owes = promise_cleans w s slot epoch c owes
  cleans_all w s (input.Maps groups) c owes = (maps_stay w s groups c).cleaned
  cleans_all w s (input.Listed server held) c owes = (listed_stays w s server held c).cleaned
  cleans_all w s (input.Usage slot epoch counts) c owes = (usage_stays w s slot epoch counts c).cleaned
  cleans_all w s (input.Read read) c owes = (read_stays w s read c owes).cleaned
  cleans_all w s (input.Live block epoch entry) c owes = (live_answered w s block epoch entry c).cleaned
  cleans_all w s (input.Dead block epoch) c owes = (dead_answered w s block epoch c owes).cleaned
  cleans_all w s input.Moved c owes = (moved_stays_on w s c).cleaned
  cleans_all w s (input.Deleted server name) c owes = (deleted_stays w s server name c).cleaned
  cleans_all w s input.Tick c owes = (tick_stays w s c).cleaned

pub moves_and_drops : MovesAndDrops
moves_and_drops b f w s i c owes = cleans_all b f w s i c owes
