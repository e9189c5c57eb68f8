-- What is deleted is emptied.
use Rattle.std.proofs.Common.{◌≡◌, ℕ, ◌+◌, Bool, true, false, cond, List, [], ◌∷◌, ◌++◌, Option, Some, None, map, length, refl, sym, ap, subst, ◌∙◌}
use Rattle.std.specs.Prelude.{◌==◌, ◌&&◌}
use Rattle.std.specs.List.{AllByRecursion}
use Rattle.std.proofs.lemmas.Map.Views.{tells_apart}
use Rattle.group_map.specs.GroupMapState.{GroupMapState}
use Rattle.segment_format.specs.declared.segment.Item.{Item}
use Rattle.segment_format.specs.declared.segment.Item.TheVariants.{Block, Delta, Part}
use Rattle.segment_format.specs.declared.segment.Segment.{Segment}
use Rattle.xfs_base.specs.declared.block.BlockId.{BlockId}
use Rattle.xfs_base.specs.declared.entry.Entry.{Entry}
use Rattle.xfs_base.specs.declared.news.SlotNews.{SlotNews}
use Rattle.xfs_base.specs.declared.segment.SegName.{SegName}
use Rattle.xfs_base.specs.Blocks.{same_block}
use Rattle.xfs_base.specs.Steps.{still}
use Rattle.xfs_base.proofs.Booleans.{by_test, and_first, and_second}
use Rattle.xfs_base.proofs.Orders.{seg_cmp_exact}
use Rattle.xfs_base.proofs.StepLoops.{steps_both}
use Rattle.xfs_base.specs.Limits.{slot_count}
use Rattle.stripe_cleaner.specs.declared.checks.Check.{Check}
use Rattle.stripe_cleaner.specs.declared.checks.Fate.{Fate}
use Rattle.stripe_cleaner.specs.declared.checks.Fate.TheVariants as fate
use Rattle.stripe_cleaner.specs.declared.input.In.{In}
use Rattle.stripe_cleaner.specs.declared.input.In.TheVariants as input
use Rattle.stripe_cleaner.specs.declared.output.Out.{Out}
use Rattle.stripe_cleaner.specs.declared.phase.Phase.{Phase}
use Rattle.stripe_cleaner.specs.declared.phase.Phase.TheVariants.{Reading, Checking, Deleting}
use Rattle.stripe_cleaner.specs.Checks.{checks_of, after_live, after_dead, after_moved, live_at, dead_at, moved_at, is_dead, any_asked, all_dead, questions}
use Rattle.stripe_cleaner.specs.CleaningState.{CleaningState, cleaning_start}
use Rattle.stripe_cleaner.specs.Histories.{state_after, Stage, stage_at_live, stage_at_dead, stage_at_moved, awaits_moved, stage_with, stage_from, stage_after, blocks_of, reads, IsEmptied, KnownOf, DeletesEmptied}
use Rattle.stripe_cleaner.specs.Histories.Stage.{Asked, Live, Moved, Dead}
use Rattle.stripe_cleaner.specs.Job.{Turn, same_name, job_check, is_moving}
use Rattle.stripe_cleaner.specs.Listing.{listing_begin}
use Rattle.stripe_cleaner.specs.Promises.{promised_with, is_above, is_promised}
use Rattle.stripe_cleaner.specs.Transition.{Done, turned, is_greeting, welcomed, on_welcome, forgetting, on_promise, counted_in, read_in, answered_in, moved_in, on_usage, cleaning_hears, may_move, on_live, on_dead, transition}
use Rattle.stripe_cleaner.proofs.Histories.{split_with, always}
use Rattle.stripe_cleaner.proofs.Turns.{says_lists, says_questions, next_fine, checking_fine, looked_fine, listed_in_fine, counted_in_fine, forgetting_fine, mapped_fine, deleted_in_fine, awaits_fine}

-- ---- stages

-- how far the fate of a check is
abbrev stage_of : Fate → Stage
stage_of (fate.Asked value) = Asked
stage_of (fate.Live entry value) = Live
stage_of fate.Moved = Moved
stage_of fate.Dead = Dead

stage-after_live : (entry : Entry) (f : Fate) → stage_of (after_live entry f) ≡ stage_at_live (stage_of f)
stage-after_live entry (fate.Asked value) = refl
stage-after_live entry (fate.Live e value) = refl
stage-after_live entry fate.Moved = refl
stage-after_live entry fate.Dead = refl

stage-after_dead : (f : Fate) → stage_of (after_dead f) ≡ stage_at_dead (stage_of f)
stage-after_dead (fate.Asked value) = refl
stage-after_dead (fate.Live e value) = refl
stage-after_dead fate.Moved = refl
stage-after_dead fate.Dead = refl

stage-after_moved : (f : Fate) → stage_of (after_moved f) ≡ stage_at_moved (stage_of f)
stage-after_moved (fate.Asked value) = refl
stage-after_moved (fate.Live e value) = refl
stage-after_moved fate.Moved = refl
stage-after_moved fate.Dead = refl

dead-stage : (f : Fate) → is_dead f ≡ true → stage_of f ≡ Dead
dead-stage (fate.Asked value) h = cc
dead-stage (fate.Live e value) h = cc
dead-stage fate.Moved h = cc
dead-stage fate.Dead h = refl

-- what is dead stays so
dead_stays : (s : CleaningState) (i : In) (b : BlockId) → stage_with s i b Dead ≡ Dead
dead_stays s (input.Live block epoch entry) b =
    by_test (λ (x : Stage). x ≡ Dead) (cleaning_hears s.promised block epoch && may_move entry) (cond (same_block b block) Dead Dead) Dead
    (λ t. by_test (λ (x : Stage). x ≡ Dead) (same_block b block) Dead Dead (λ u. refl) (λ u. refl))
    (λ t. refl)
dead_stays s (input.Dead block epoch) b =
    by_test (λ (x : Stage). x ≡ Dead) (cleaning_hears s.promised block epoch) (cond (same_block b block) Dead Dead) Dead
    (λ t. by_test (λ (x : Stage). x ≡ Dead) (same_block b block) Dead Dead (λ u. refl) (λ u. refl))
    (λ t. refl)
dead_stays s input.Moved b = by_test (λ (x : Stage). x ≡ Dead) (awaits_moved s.phase) Dead Dead (λ t. refl) (λ t. refl)
dead_stays s i b = refl

-- ---- blocks

blocks-checks : (n : ℕ) (items : List Item) → map (λ (c : Check). c.block) (checks_of n items) ≡ blocks_of items
blocks-checks n [] = refl
blocks-checks n (Block block value ∷ items) = ap (λ bs. block ∷ bs) (blocks-checks (n + 1) items)
blocks-checks n (Delta block ver hop item ∷ items) = blocks-checks (n + 1) items
blocks-checks n (Part slot rows ∷ items) = blocks-checks (n + 1) items

blocks-map : (f : Check → Check) → ((c : Check) → (f c).block ≡ c.block) → (checks : List Check)
    → map (λ (c : Check). c.block) (map f checks) ≡ map (λ (c : Check). c.block) checks
blocks-map f same [] = refl
blocks-map f same (c ∷ cs) = λ k. same c k ∷ blocks-map f same cs k

-- how far a block is after one more input
stage_more : (s : CleaningState) (stage : Stage) (inputs : List In) (i : In) (b : BlockId)
    → stage_from s stage (inputs ++ i ∷ []) b ≡ stage_with (state_after s inputs) i b (stage_from s stage inputs b)
stage_more s stage [] i b = refl
stage_more s stage (taken ∷ inputs) i b = stage_more (transition s taken).state (stage_with s taken b stage) inputs i b

module _ (start : CleaningState) where
  -- the segment was read, and each of these checks is as far as its block is
  record IsChecked (history : List In) (name : SegName) (checks : List Check) : Type 0 where
    pub segment : Segment
    pub before : List In
    pub later : List In
    pub split : history ≡ before ++ input.Read (Some segment) ∷ later
    pub awaited : reads name (state_after start before).phase
    pub named : segment.name ≡ name
    pub blocks : map (λ (c : Check). c.block) checks ≡ blocks_of segment.items
    pub stages : AllByRecursion
        (λ (c : Check). stage_of c.fate ≡ stage_after (transition (state_after start before) (input.Read (Some segment))).state later c.block) checks

  emptied_later : (history : List In) (i : In) (name : SegName) → IsEmptied start history name → IsEmptied start (history ++ i ∷ []) name
  emptied_later history i name e = record {
    segment = e.segment;
    before = e.before;
    later = e.later ++ i ∷ [];
    split = split_with history e.before e.later (input.Read (Some e.segment)) i e.split;
    awaited = e.awaited;
    named = e.named;
    dead = go (blocks_of e.segment.items) e.dead;
  }
    where
      from : CleaningState
      from = (transition (state_after start e.before) (input.Read (Some e.segment))).state

      go : (bs : List BlockId) → AllByRecursion (λ b. stage_after from e.later b ≡ Dead) bs
          → AllByRecursion (λ b. stage_after from (e.later ++ i ∷ []) b ≡ Dead) bs
      go [] all = tt
      go (b ∷ bs) all = (
        stage_more from Asked e.later i b ∙ ap (stage_with (state_after from e.later) i b) all.0 ∙ dead_stays (state_after from e.later) i b,
        go bs all.1,
      )

  -- an input that changes the checks as it changes the stages
  checked_with : (history : List In) (i : In) (name : SegName) (checks : List Check) (f : Check → Check) → ((c : Check) → (f c).block ≡ c.block)
      → ((c : Check) → stage_of (f c).fate ≡ stage_with (state_after start history) i c.block (stage_of c.fate)) → IsChecked history name checks
      → IsChecked (history ++ i ∷ []) name (map f checks)
  checked_with history i name checks f same moves k = record {
    segment = k.segment;
    before = k.before;
    later = k.later ++ i ∷ [];
    split = split_with history k.before k.later (input.Read (Some k.segment)) i k.split;
    awaited = k.awaited;
    named = k.named;
    blocks = blocks-map f same checks ∙ k.blocks;
    stages = go checks k.stages;
  }
    where
      from : CleaningState
      from = (transition (state_after start k.before) (input.Read (Some k.segment))).state

      here : state_after start history ≡ state_after from k.later
      here = ap (state_after start) k.split ∙ steps_both transition start k.before (input.Read (Some k.segment) ∷ k.later)

      go : (cs : List Check) → AllByRecursion (λ (c : Check). stage_of c.fate ≡ stage_after from k.later c.block) cs
          → AllByRecursion (λ (c : Check). stage_of c.fate ≡ stage_after from (k.later ++ i ∷ []) c.block) (map f cs)
      go [] all = tt
      go (c ∷ cs) all = (
        moves c ∙ ap (λ (s : CleaningState). stage_with s i c.block (stage_of c.fate)) here ∙ ap (stage_with (state_after from k.later) i c.block) all.0
            ∙ sym (stage_more from Asked k.later i c.block) ∙ ap (λ b. stage_after from (k.later ++ i ∷ []) b) (sym (same c)),
        go cs all.1,
      )

  -- an input that changes neither
  checked_later : (history : List In) (i : In) (name : SegName) (checks : List Check)
      → ((b : BlockId) (x : Stage) → stage_with (state_after start history) i b x ≡ x) → IsChecked history name checks
      → IsChecked (history ++ i ∷ []) name checks
  checked_later history i name checks stays k = record {
    segment = k.segment;
    before = k.before;
    later = k.later ++ i ∷ [];
    split = split_with history k.before k.later (input.Read (Some k.segment)) i k.split;
    awaited = k.awaited;
    named = k.named;
    blocks = k.blocks;
    stages = go checks k.stages;
  }
    where
      from : CleaningState
      from = (transition (state_after start k.before) (input.Read (Some k.segment))).state

      here : state_after start history ≡ state_after from k.later
      here = ap (state_after start) k.split ∙ steps_both transition start k.before (input.Read (Some k.segment) ∷ k.later)

      go : (cs : List Check) → AllByRecursion (λ (c : Check). stage_of c.fate ≡ stage_after from k.later c.block) cs
          → AllByRecursion (λ (c : Check). stage_of c.fate ≡ stage_after from (k.later ++ i ∷ []) c.block) cs
      go [] all = tt
      go (c ∷ cs) all = (
        sym (stays c.block (stage_of c.fate)) ∙ ap (λ (s : CleaningState). stage_with s i c.block (stage_of c.fate)) here
            ∙ ap (stage_with (state_after from k.later) i c.block) all.0 ∙ sym (stage_more from Asked k.later i c.block),
        go cs all.1,
      )

  -- a segment of which each check is dead is emptied
  emptied_from : (history : List In) (name : SegName) (checks : List Check) → all_dead checks ≡ true → IsChecked history name checks
      → IsEmptied start history name
  emptied_from history name checks dead k = record {
    segment = k.segment;
    before = k.before;
    later = k.later;
    split = k.split;
    awaited = k.awaited;
    named = k.named;
    dead = subst (AllByRecursion (λ b. stage_after from k.later b ≡ Dead)) k.blocks (go checks dead k.stages);
  }
    where
      from : CleaningState
      from = (transition (state_after start k.before) (input.Read (Some k.segment))).state

      go : (cs : List Check) → all_dead cs ≡ true → AllByRecursion (λ (c : Check). stage_of c.fate ≡ stage_after from k.later c.block) cs
          → AllByRecursion (λ b. stage_after from k.later b ≡ Dead) (map (λ (c : Check). c.block) cs)
      go [] d all = tt
      go (c ∷ cs) d all =
          (sym all.0 ∙ dead-stage c.fate (and_first (is_dead c.fate) (all_dead cs) d), go cs (and_second (is_dead c.fate) (all_dead cs) d) all.1)

  -- a segment that is read is checked
  checked_first : (history : List In) (segment : Segment) (name : SegName) → reads name (state_after start history).phase → segment.name ≡ name
      → IsChecked (history ++ input.Read (Some segment) ∷ []) name (checks_of 0 segment.items)
  checked_first history segment name awaited named = record {
    segment = segment;
    before = history;
    later = [];
    split = refl;
    awaited = awaited;
    named = named;
    blocks = blocks-checks 0 segment.items;
    stages = go 0 segment.items;
  }
    where
      go : (n : ℕ) (items : List Item) → AllByRecursion (λ (c : Check). stage_of c.fate ≡ Asked) (checks_of n items)
      go n [] = tt
      go n (Block block value ∷ items) = (refl, go (n + 1) items)
      go n (Delta block ver hop item ∷ items) = go (n + 1) items
      go n (Part slot rows ∷ items) = go (n + 1) items

  module _ (history : List In) where
    -- how far the present segment is, in each phase
    abbrev KnownIn : Phase → Type 0
    KnownIn p = KnownOf (IsChecked history) (IsEmptied start history) p

    abbrev Says : List Out → Type 0
    Says outs = AllByRecursion (DeletesEmptied start history) outs

    abbrev Fine : Turn → Type 0
    Fine turn = KnownIn turn.state × Says turn.outs

  abbrev FineDone : List In → Done → Type 0
  FineDone history d = KnownIn history d.state.phase × Says history d.outs

  -- where an input changes no stage, the segment is as far as before
  stays_known : (history : List In) (i : In) (p : Phase) → ((b : BlockId) (x : Stage) → stage_with (state_after start history) i b x ≡ x) → KnownIn history p
      → KnownIn (history ++ i ∷ []) p
  stays_known history i (Checking j segment checks) stays k = checked_later history i segment.name checks stays k
  stays_known history i (Deleting j segment servers) stays k = emptied_later history i segment.name k
  stays_known history i p stays k = tt

  -- ---- answers

  -- a read of the segment that is awaited
  read_fine : (history : List In) (read : Option Segment) (p : Phase) → (state_after start history).phase ≡ p → KnownIn history p
      → Fine (history ++ input.Read read ∷ []) (read_in read p)
  read_fine history None (Reading j segment) e k = next_fine (IsChecked (history ++ input.Read None ∷ [])) (IsEmptied start (history ++ input.Read None ∷ [])) j.left j
  read_fine history (Some read) (Reading j segment) e k =
      by_test (Fine (history ++ input.Read (Some read) ∷ [])) (same_name read.name segment.name) (job_check j segment (checks_of 0 read.items))
      (still (Reading j segment))
      (λ t. let k = checked_first history read segment.name (subst (reads segment.name) (sym e) refl) (tells_apart seg_cmp_exact read.name segment.name t) in
      checking_fine (IsChecked (history ++ input.Read (Some read) ∷ [])) (IsEmptied start (history ++ input.Read (Some read) ∷ [])) j segment (checks_of 0 read.items) k
      (λ dead servers. emptied_from (history ++ input.Read (Some read) ∷ []) segment.name (checks_of 0 read.items) dead k))
      (λ t. (tt, tt))
  read_fine history read (Checking j segment checks) e k = (checked_later history (input.Read read) segment.name checks (λ b x. refl) k, tt)
  read_fine history read (Deleting j segment servers) e k = (emptied_later history (input.Read read) segment.name k, tt)
  read_fine history read p e k = (tt, tt)

  -- an answer that changes the checks as it changes the stages
  answered_fine : (history : List In) (i : In) (answer : Check → Check) (p : Phase) → ((c : Check) → (answer c).block ≡ c.block)
      → ((c : Check) → stage_of (answer c).fate ≡ stage_with (state_after start history) i c.block (stage_of c.fate)) → KnownIn history p
      → Fine (history ++ i ∷ []) (answered_in answer p)
  answered_fine history i answer (Checking j segment checks) same moves k =
      let later = checked_with history i segment.name checks answer same moves k in
      looked_fine (IsChecked (history ++ i ∷ [])) (IsEmptied start (history ++ i ∷ [])) j segment (any_asked checks) (map answer checks) later
      (λ dead servers. emptied_from (history ++ i ∷ []) segment.name (map answer checks) dead later)
  answered_fine history i answer (Deleting j segment servers) same moves k = (emptied_later history i segment.name k, tt)
  answered_fine history i answer p same moves k = (tt, tt)

  live_block : (block : BlockId) (entry : Entry) (c : Check) → (live_at block entry c).block ≡ c.block
  live_block block entry c =
      by_test (λ (d : Check). d.block ≡ c.block) (same_block c.block block) (record c { fate = after_live entry c.fate }) c (λ t. refl) (λ t. refl)

  dead_block : (block : BlockId) (c : Check) → (dead_at block c).block ≡ c.block
  dead_block block c = by_test (λ (d : Check). d.block ≡ c.block) (same_block c.block block) (record c { fate = after_dead c.fate }) c (λ t. refl) (λ t. refl)

  live_stage : (block : BlockId) (entry : Entry) (c : Check) (x : Bool) → same_block c.block block ≡ x
      → stage_of (cond x (record c { fate = after_live entry c.fate }) c).fate ≡ cond x (stage_at_live (stage_of c.fate)) (stage_of c.fate)
  live_stage block entry c true e = stage-after_live entry c.fate
  live_stage block entry c false e = refl

  dead_stage : (block : BlockId) (c : Check) (x : Bool) → same_block c.block block ≡ x
      → stage_of (cond x (record c { fate = after_dead c.fate }) c).fate ≡ cond x (stage_at_dead (stage_of c.fate)) (stage_of c.fate)
  dead_stage block c true e = stage-after_dead c.fate
  dead_stage block c false e = refl

  live_fine : (history : List In) (block : BlockId) (epoch : ℕ) (entry : Entry) → KnownIn history (state_after start history).phase
      → FineDone (history ++ input.Live block epoch entry ∷ []) (on_live (state_after start history) block epoch entry)
  unfolding on_live
  live_fine history block epoch entry k =
      let s : CleaningState = state_after start history in
      by_test (FineDone (history ++ input.Live block epoch entry ∷ [])) (cleaning_hears s.promised block epoch && may_move entry)
      (turned s (answered_in (live_at block entry) s.phase)) (still s)
      (λ t. answered_fine history (input.Live block epoch entry) (live_at block entry) s.phase (live_block block entry)
      (λ c. live_stage block entry c (same_block c.block block) refl
      ∙ ap (λ y. cond y (cond (same_block c.block block) (stage_at_live (stage_of c.fate)) (stage_of c.fate)) (stage_of c.fate)) (sym t))
      k)
      (λ t. (stays_known history (input.Live block epoch entry) s.phase (λ b x. ap (λ y. cond y (cond (same_block b block) (stage_at_live x) x) x) t) k, tt))

  dead_fine : (history : List In) (block : BlockId) (epoch : ℕ) → KnownIn history (state_after start history).phase
      → FineDone (history ++ input.Dead block epoch ∷ []) (on_dead (state_after start history) block epoch)
  unfolding on_dead
  dead_fine history block epoch k =
      let s : CleaningState = state_after start history in
      by_test (FineDone (history ++ input.Dead block epoch ∷ [])) (cleaning_hears s.promised block epoch) (turned s (answered_in (dead_at block) s.phase)) (still s)
      (λ t. answered_fine history (input.Dead block epoch) (dead_at block) s.phase (dead_block block)
      (λ c. dead_stage block c (same_block c.block block) refl
      ∙ ap (λ y. cond y (cond (same_block c.block block) (stage_at_dead (stage_of c.fate)) (stage_of c.fate)) (stage_of c.fate)) (sym t))
      k)
      (λ t. (stays_known history (input.Dead block epoch) s.phase (λ b x. ap (λ y. cond y (cond (same_block b block) (stage_at_dead x) x) x) t) k, tt))

  moved_fine : (history : List In) (p : Phase) → (state_after start history).phase ≡ p → KnownIn history p → Fine (history ++ input.Moved ∷ []) (moved_in p)
  moved_fine history (Checking j segment checks) e k =
      by_test (Fine (history ++ input.Moved ∷ [])) (is_moving checks)
      (record { state = Checking j segment (map moved_at checks); outs = questions segment (map moved_at checks) }) (still (Checking j segment checks))
      (λ t. (
        checked_with history input.Moved segment.name checks moved_at (λ c. refl)
            (λ c. stage-after_moved c.fate ∙ ap (λ y. cond y (stage_at_moved (stage_of c.fate)) (stage_of c.fate)) (sym (ap awaits_moved e ∙ t))) k,
        says_questions (DeletesEmptied start (history ++ input.Moved ∷ [])) (λ block place. tt) segment (map moved_at checks),
      ))
      (λ t. (checked_later history input.Moved segment.name checks (λ b x. ap (λ y. cond y (stage_at_moved x) x) (ap awaits_moved e ∙ t)) k, tt))
  moved_fine history (Deleting j segment servers) e k = (emptied_later history input.Moved segment.name k, tt)
  moved_fine history p e k = (tt, tt)

  -- ---- all inputs

  welcome_fine : (h : List In) (s : CleaningState) (slots : List SlotNews) (groups : GroupMapState) → KnownIn h s.phase → FineDone h (on_welcome s slots groups)
  unfolding on_welcome
  welcome_fine h s slots groups k =
      by_test (FineDone h) (is_greeting s.phase && (length slots == slot_count)) (welcomed s slots groups) (still s)
      (λ t. (tt, says_lists (DeletesEmptied start h) (λ server. tt) (listing_begin slots groups).awaited)) (λ t. (k, tt))

  promise_fine : (h : List In) (s : CleaningState) (slot epoch : ℕ) → KnownIn h s.phase → FineDone h (on_promise s slot epoch)
  unfolding on_promise
  promise_fine h s slot epoch k =
      by_test (FineDone h) (is_above s.promised slot epoch) (turned (record s { promised = promised_with s.promised slot epoch }) (forgetting slot s.phase))
      (still s) (λ t. forgetting_fine (IsChecked h) (IsEmptied start h) slot s.phase k) (λ t. (k, tt))

  usage_fine : (h : List In) (s : CleaningState) (slot epoch : ℕ) (counts : _) → KnownIn h s.phase → FineDone h (on_usage s slot epoch counts)
  unfolding on_usage
  usage_fine h s slot epoch counts k =
      by_test (FineDone h) (is_promised s.promised slot epoch) (turned s (counted_in s.count slot counts s.phase)) (still s)
      (λ t. counted_in_fine (IsChecked h) (IsEmptied start h) s.count slot counts s.phase k) (λ t. (k, tt))

  abbrev now : List In → CleaningState
  now history = state_after start history

  turn_fine : (history : List In) (i : In) → KnownIn history (now history).phase → FineDone (history ++ i ∷ []) (transition (now history) i)
  turn_fine history (input.Welcome slots groups) k =
      welcome_fine (history ++ input.Welcome slots groups ∷ []) (now history) slots groups
      (stays_known history (input.Welcome slots groups) (now history).phase (λ b x. refl) k)
  turn_fine history (input.Promise slot epoch) k =
      promise_fine (history ++ input.Promise slot epoch ∷ []) (now history) slot epoch
      (stays_known history (input.Promise slot epoch) (now history).phase (λ b x. refl) k)
  turn_fine history (input.Maps groups) k = (
    mapped_fine (IsChecked (history ++ input.Maps groups ∷ [])) (IsEmptied start (history ++ input.Maps groups ∷ [])) groups (now history).phase
        (stays_known history (input.Maps groups) (now history).phase (λ b x. refl) k),
    tt,
  )
  turn_fine history (input.Listed server held) k =
      listed_in_fine (IsChecked (history ++ input.Listed server held ∷ [])) (IsEmptied start (history ++ input.Listed server held ∷ [])) server held (now history).phase
      (stays_known history (input.Listed server held) (now history).phase (λ b x. refl) k)
  turn_fine history (input.Usage slot epoch counts) k =
      usage_fine (history ++ input.Usage slot epoch counts ∷ []) (now history) slot epoch counts
      (stays_known history (input.Usage slot epoch counts) (now history).phase (λ b x. refl) k)
  turn_fine history (input.Read read) k = read_fine history read (now history).phase refl k
  turn_fine history (input.Live block epoch entry) k = live_fine history block epoch entry k
  turn_fine history (input.Dead block epoch) k = dead_fine history block epoch k
  turn_fine history input.Moved k = moved_fine history (now history).phase refl k
  turn_fine history (input.Deleted server name) k =
      deleted_in_fine (IsChecked (history ++ input.Deleted server name ∷ [])) (IsEmptied start (history ++ input.Deleted server name ∷ [])) server name (now history).phase
      (stays_known history (input.Deleted server name) (now history).phase (λ b x. refl) k)
  turn_fine history input.Tick k = (
    stays_known history input.Tick (now history).phase (λ b x. refl) k,
    awaits_fine (IsChecked (history ++ input.Tick ∷ [])) (IsEmptied start (history ++ input.Tick ∷ [])) (now history).phase (stays_known history input.Tick (now history).phase (λ b x. refl) k),
  )

  known_always : KnownIn [] start.phase → (history : List In) → KnownIn history (now history).phase
  known_always k = always start (λ history s. KnownIn history s.phase) k (λ history i known. (turn_fine history i known).0)

pub all_deletes_emptied : (count : ℕ) (history : List In) (i : In)
    → AllByRecursion (DeletesEmptied (cleaning_start count) (history ++ i ∷ [])) (transition (state_after (cleaning_start count) history) i).outs
all_deletes_emptied count history i = (turn_fine (cleaning_start count) history i (known_always (cleaning_start count) tt history)).1
