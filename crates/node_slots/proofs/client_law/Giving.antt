-- Between events a recall is put off of dirty blocks alone. While a segment is settled it may be of a block that just became clean: of one
-- that was dirty before; those are given up one after the other.
use Rattle.std.proofs.Common.{◌≡◌, ◌⊎◌, inl, inr, ℕ, Bool, true, false, cond, ◌&&◌, ◌==◌, not, nat_lt, List, [], ◌∷◌, Option, Some, None, is_some, is_none, refl, sym, ap, subst, ◌∙◌, arith}
use Rattle.std.specs.Prelude.{Contains, fold, unwrap_or}
use Rattle.std.specs.Map.{keys_of, lookup}
use Rattle.std.specs.BTreeMap.{is_at}
use Rattle.std.specs.List.{filter}
use Rattle.std.specs.Ordering.{eq_by_cmp}
use Rattle.std.proofs.lemmas.Map.Views.{tells_apart}
use Rattle.std.proofs.lemmas.Bool.Decides.{nat_tests}
use Rattle.client_log.specs.declared.input.In as log_in
use Rattle.client_log.specs.declared.input.In.TheVariants as log_ins
use Rattle.client_log.specs.LogState.{LogState}
use Rattle.client_running.specs.Blocks.{changes, wrote}
use Rattle.client_serving.specs.declared.serving.Serving.{Serving}
use Rattle.client_serving.specs.Flights.{feeds, give_if_clean, gives_up, held_at, keep_row, notes_settled, settle_rows, serving_settle, serving_write}
use Rattle.client_serving.specs.Follow.{serving_follow, follow_one, hand, note_clean, take_back}
use Rattle.client_serving.specs.Sends as client
use Rattle.log_owner.specs.declared.opening.Opening as openings
use Rattle.log_owner.specs.declared.opened.Progress.{Progress}
use Rattle.log_owner.specs.declared.opened.Progress.TheVariants as progress
use Rattle.log_owner.specs.Opening as opening
use Rattle.token_client.specs.declared.held.Giving.{Giving}
use Rattle.token_client.specs.declared.held.Held.{Held}
use Rattle.token_client.specs.declared.input.In.TheVariants as input
use Rattle.token_client.specs.declared.output.Out.TheVariants.{Gave, Flush}
use Rattle.token_client.specs.Held.{give_up, is_dirty, is_settled_by, let_go, may_evict, may_write, put_off, held_new, version_settled, held_write}
use Rattle.token_client.specs.Laws.{IsGivingAbove, IsSound}
use Rattle.token_client.specs.State.{TokensState, dirty_in, epoch_of, held_of, with_held}
use Rattle.token_client.specs.Transition.{Done, can_refetch, give, is_promised, on_evict, on_recalled, on_settled, on_wrote, recalled, recalled_above, recalled_again, refetch}
use Rattle.token_client.proofs.SoundBlocks.{asks_by_fetch}
use Rattle.token_client.proofs.Tables.{held_of-put_itself, put_each}
use Rattle.xfs_base.specs.Blocks.{block_cmp, slot_of}
use Rattle.xfs_base.specs.declared.block.BlockId.{BlockId}
use Rattle.xfs_base.specs.declared.entry.Entry.{Entry}
use Rattle.xfs_base.specs.declared.segment.End.{End}
use Rattle.xfs_base.specs.Modes.{is_held, is_own}
use Rattle.xfs_base.specs.Stamps.{is_later}
use Rattle.xfs_base.specs.Steps.{saying, steps, still}
use Rattle.xfs_base.proofs.BlockOrder.{block_cmp_exact}
use Rattle.xfs_base.proofs.Booleans.{and_first, and_second, by_test, contrary, or_first}
use Rattle.xfs_base.proofs.Members.{contains_cases, contains_first, contains_nothing, contains_rest}
use Rattle.client_moves.proofs.Following.{give_if_clean_moves, rows_settle, settles_move}
use Rattle.node_slots.proofs.node_tie.AsksInputs.{transition-sound}
use Rattle.node_slots.specs.client_law.Giving.{GivesOnlyDirty, PutsOffWhatIsDirty}
use Rattle.node_slots.proofs.client_law.Happening.{AnyBlock, AnyMap, OpensSo, Reopens, after_weaker, always, Starts}
use Rattle.node_slots.proofs.client_law.Keeping.{At, Fact, IsCopied, Keeps, Sound, TakesKeep, serving_follow-silent, take_back-keeps, told}
use Rattle.node_slots.proofs.client_law.Quiet.{IsQuiet, refetch-quiet}
use Rattle.node_slots.proofs.client_law.Sounding.{sound_still}
use Rattle.node_slots.proofs.client_law.Writing.{note_clean-tokens, note_gone-tokens, serving_write-tokens}

-- a put-off recall is of a dirty block, or of one of these
abbrev pub GivesBut : (BlockId → Type 0) → TokensState → Type 0
GivesBut X t = (b : BlockId) → is_some (held_of t.blocks b).giving ≡ true → (is_dirty (held_of t.blocks b) ≡ true) ⊎ X b

-- a block at the same versions is as dirty
pub dirty_same : (h g : Held) → g.ver ≡ h.ver → g.settled ≡ h.settled → is_dirty g ≡ is_dirty h
dirty_same h g ver settled = ap (λ n. nat_lt g.settled n) ver ∙ ap (λ n. nat_lt n h.ver) settled

-- what was dirty is, and what was excepted is
still_dirty : (X : Type 0) (h g : Held) → is_dirty g ≡ is_dirty h → (is_dirty h ≡ true) ⊎ X → (is_dirty g ≡ true) ⊎ X
still_dirty X h g same (inl d) = inl (same ∙ d)
still_dirty X h g same (inr x) = inr x

module _ (X : BlockId → Type 0) where
  abbrev pub G : Fact
  G t l c = GivesBut X t

  -- one block is put of which it holds
  gives_put : (t : TokensState) → GivesBut X t → (block : BlockId) (g : Held) → (is_some g.giving ≡ true → (is_dirty g ≡ true) ⊎ X block)
      → GivesBut X (with_held t block g)
  gives_put t p block g here = put_each (λ b h. is_some h.giving ≡ true → (is_dirty h ≡ true) ⊎ X b) block g t.blocks here p

  -- one at the same versions, of which no recall is put off that was not
  gives_same : (t : TokensState) → GivesBut X t → (block : BlockId) (g : Held) → g.ver ≡ (held_of t.blocks block).ver
      → g.settled ≡ (held_of t.blocks block).settled
      → (is_some g.giving ≡ true → is_some (held_of t.blocks block).giving ≡ true) → GivesBut X (with_held t block g)
  gives_same t p block g ver settled giving =
      gives_put t p block g
      (λ some. still_dirty (X block) (held_of t.blocks block) g (dirty_same (held_of t.blocks block) g ver settled) (p block (giving some)))

  quiet-gives : (t u : TokensState) → IsQuiet t u → GivesBut X t → GivesBut X u
  quiet-gives t u q p b some =
      still_dirty (X b) (held_of t.blocks b) (held_of u.blocks b) (dirty_same (held_of t.blocks b) (held_of u.blocks b) (q b).ver (q b).settled)
      (p b ((q b).giving some))

  evict-gives : (t : TokensState) (block : BlockId) → GivesBut X t → GivesBut X (on_evict t block).state
  unfolding on_evict
  evict-gives t block p =
      let h : Held = held_of t.blocks block in
      by_test (λ (d : Done). GivesBut X d.state) (may_evict h) (still (with_held t block (let_go h))) (still t)
      (λ x. gives_same t p block (let_go h) refl refl (λ g. g)) (λ x. p)

  takes-give : TakesKeep G
  takes-give = record {
    quiet = λ t u l c q p. quiet-gives t u q p;
    puts_off = λ t l c block g dirty fact p. gives_put t p block g (λ some. inl (dirty_same (held_of t.blocks block) g fact.ver fact.settled ∙ dirty));
    lets = λ t l c block g clean fact p. gives_same t p block g fact.ver fact.settled fact.giving;
    lowers = λ t l c block g clean fact p. gives_same t p block g fact.ver fact.settled fact.giving;
    leaves = λ t l c block nothing p. p;
    seals = λ t l c p. p;
  }

-- ---- a segment is settled

module _ (e : BlockId × Held) (es : List (BlockId × Held)) (b : BlockId) where
  abbrev is_dirty_entry : BlockId × Held → Bool
  is_dirty_entry x = is_dirty x.1

  dirty-here : b ≡ e.0 → is_dirty e.1 ≡ true → Contains (dirty_in (e ∷ es)) b
  dirty-here same d =
      by_test (λ (rows : List (BlockId × Held)). Contains (keys_of rows) b) (is_dirty e.1) (e ∷ filter is_dirty_entry es) (filter is_dirty_entry es)
      (λ t. subst (Contains (e.0 ∷ dirty_in es)) (sym same) (contains_first e.0 (dirty_in es))) (λ t. contrary (sym t ∙ d))

  dirty-there : Contains (dirty_in es) b → Contains (dirty_in (e ∷ es)) b
  dirty-there inside =
      by_test (λ (rows : List (BlockId × Held)). Contains (keys_of rows) b) (is_dirty e.1) (e ∷ filter is_dirty_entry es) (filter is_dirty_entry es)
      (λ t. contains_rest e.0 b (dirty_in es) inside) (λ t. inside)

  dirty-by : (t : Bool) → eq_by_cmp block_cmp b e.0 ≡ t → (is_dirty (held_of es b) ≡ true → Contains (dirty_in es) b)
      → is_dirty (unwrap_or (cond t (Some e.1) (lookup (is_at (block_cmp b)) es)) held_new) ≡ true → Contains (dirty_in (e ∷ es)) b
  dirty-by true same rest d = dirty-here (tells_apart block_cmp_exact b e.0 same) d
  dirty-by false other rest d = dirty-there (rest d)

-- what is dirty is among the dirty blocks
dirty-among : (blocks : List (BlockId × Held)) (b : BlockId) → is_dirty (held_of blocks b) ≡ true → Contains (dirty_in blocks) b
dirty-among [] b d = contrary d
dirty-among (e ∷ es) b d = dirty-by e es b (eq_by_cmp block_cmp b e.0) refl (dirty-among es b) d

-- a recall is put off of one of these blocks alone
abbrev GivesAmong : List BlockId → TokensState → Type 0
GivesAmong blocks t = (b : BlockId) → is_some (held_of t.blocks b).giving ≡ true → Contains blocks b

module _ (among : List BlockId) where
  among_put : (t : TokensState) → GivesAmong among t → (block : BlockId) (g : Held) → g.giving ≡ (held_of t.blocks block).giving
      → GivesAmong among (with_held t block g)
  among_put t p block g same =
      put_each (λ b h. is_some h.giving ≡ true → Contains among b) block g t.blocks (λ some. p block (ap is_some (sym same) ∙ some)) p

  settled-among : (t : TokensState) (block : BlockId) (ver : ℕ) → GivesAmong among t → GivesAmong among (on_settled t block ver).state
  unfolding on_settled
  settled-among t block ver p =
      let h : Held = held_of t.blocks block in
      by_test (λ (d : Done). GivesAmong among d.state) (is_settled_by h ver) (still (with_held t block (version_settled h ver))) (still t)
      (λ x. among_put t p block (version_settled h ver) refl) (λ x. p)

  evict-among : (t : TokensState) (block : BlockId) → GivesAmong among t → GivesAmong among (on_evict t block).state
  unfolding on_evict
  evict-among t block p =
      let h : Held = held_of t.blocks block in
      by_test (λ (d : Done). GivesAmong among d.state) (may_evict h) (still (with_held t block (let_go h))) (still t) (λ x. among_put t p block (let_go h) refl)
      (λ x. p)

  rows-among : (s : Serving) (rows : List (BlockId × Entry)) → GivesAmong among s.tokens → GivesAmong among (fold notes_settled s rows).tokens
  unfolding notes_settled
  rows-among s [] p = p
  rows-among s (row ∷ rows) p = rows-among (notes_settled s row) rows (settled-among s.tokens row.0 row.1.ver p)

  clean-among : (s : Serving) (rows : List (BlockId × Entry)) → GivesAmong among s.tokens → GivesAmong among (fold keep_row s rows).tokens
  unfolding keep_row
  clean-among s [] p = p
  clean-among s (row ∷ rows) p = clean-among (keep_row s row) rows (one s row p)
    where
      one : (s : Serving) (row : BlockId × Entry) → GivesAmong among s.tokens → GivesAmong among (keep_row s row).tokens
      one s row p =
          by_test (λ (t : Serving). GivesAmong among t.tokens) (not (is_dirty (held_at s row.0)) && is_held (held_at s row.0).mode) (note_clean s row.0) s
          (λ x. note_clean-tokens (GivesAmong among) evict-among s row.0 p) (λ x. p)

-- ---- a clean block is given up

module _ (s : Serving) (sound : Sound s) (block : BlockId) (g : Giving) (fact : (held_at s block).giving ≡ Some g)
    (clean : is_dirty (held_at s block) ≡ false) where
  abbrev h : Held
  h = held_at s block

  abbrev IsUngiven : Done → Type 0
  IsUngiven d = is_none (held_at (told s d).state block).giving ≡ true

  above : IsGivingAbove (epoch_of s.tokens.epochs (slot_of block.ino.0)) h.stamp (Some g)
  above = subst (IsGivingAbove (epoch_of s.tokens.epochs (slot_of block.ino.0)) h.stamp) fact (sound.each block).giving_above

  promised : is_promised s.tokens block g.stamp ≡ true
  promised = equal (epoch_of s.tokens.epochs (slot_of block.ino.0)) g.stamp.epoch above.0
    where
      equal : (n m : ℕ) → m ≡ n → (n == m) ≡ true
      equal n m e = grind (arith, nat_tests)

  -- nothing is asked for of it
  unfetched : is_none h.fetch ≡ true
  unfetched = none_fetched h.fetch (λ some. contrary (ap is_none (sym fact) ∙ (sound.each block).asks_ungiven (asks_by_fetch h some)))
    where
      none_fetched : {A : Type 0} (o : Option A) → (is_some o ≡ true → false ≡ true) → is_none o ≡ true
      none_fetched None f = refl
      none_fetched (Some x) f = f refl

  abbrev asked_for : Done
  asked_for = refetch s.tokens block

  abbrev now : Held
  now = held_of asked_for.state.blocks block

  now_clean : is_dirty now ≡ false
  now_clean = dirty_same h now ((refetch-quiet s.tokens block).quiet block).ver ((refetch-quiet s.tokens block).quiet block).settled ∙ clean

  given-ungiven : is_none (give_up now g.stamp g.keep).giving ≡ true
  given-ungiven = by_test (λ (f : Held). is_none f.giving ≡ true) (g.keep && is_held now.mode) _ _ (λ x. refl) (λ x. refl)

  gave-ungiven : IsUngiven
      (saying asked_for.outs (record { state = with_held asked_for.state block (give_up now g.stamp g.keep); outs = Gave block g.stamp ∷ [] }))
  unfolding serving_follow follow_one
  gave-ungiven =
      subst (λ (v : Serving). is_none (held_at v block).giving ≡ true)
      (sym (serving_follow-silent _ asked_for.outs (Gave block g.stamp ∷ []) (refetch-quiet s.tokens block).silent))
      (ap (λ (f : Held). is_none f.giving) (held_of-put_itself block (give_up now g.stamp g.keep) asked_for.state.blocks) ∙ given-ungiven)

  recalled-ungiven : IsUngiven (on_recalled s.tokens block g.stamp g.keep)
  unfolding on_recalled recalled recalled_above give
  recalled-ungiven =
      by_test IsUngiven (is_promised s.tokens block g.stamp) (recalled s.tokens block g.stamp g.keep) (still s.tokens)
      (λ x. by_test IsUngiven (is_later g.stamp h.stamp) (recalled_above s.tokens block g.stamp g.keep) (recalled_again s.tokens block g.stamp)
      (λ y. by_test IsUngiven (can_refetch s.tokens block) (saying asked_for.outs (give asked_for.state block g.stamp g.keep)) (still s.tokens)
      (λ z. by_test (λ (d : Done). IsUngiven (saying asked_for.outs d)) (is_dirty now)
      (record { state = with_held asked_for.state block (put_off now g.stamp g.keep); outs = Flush block ∷ [] })
      (record { state = with_held asked_for.state block (give_up now g.stamp g.keep); outs = Gave block g.stamp ∷ [] })
      (λ w. contrary (sym now_clean ∙ w)) (λ w. gave-ungiven))
      (λ z. contrary (sym z ∙ or_first (is_none h.fetch) _ unfetched)))
      (λ y. contrary (sym y ∙ above.1))) (λ x. contrary (sym x ∙ promised))

  taken_back-ungiven : is_none (held_at (take_back s block g.stamp g.keep).state block).giving ≡ true
  unfolding take_back hand
  taken_back-ungiven =
      note_gone-tokens (λ (t : TokensState). is_none (held_of t.blocks block).giving ≡ true)
      (told s (on_recalled s.tokens block g.stamp g.keep)).state block recalled-ungiven

none_is : {A : Type 0} (o : Option A) → is_none o ≡ true → is_some o ≡ true → false ≡ true
none_is None n s = s
none_is (Some x) n s = n

-- ---- one after the other

module _ (x : BlockId) (xs : List BlockId) where
  -- the first is dirty, or no recall of it is put off: it need not be excepted any more
  first-done : (t : TokensState) → (is_some (held_of t.blocks x).giving ≡ true → is_dirty (held_of t.blocks x) ≡ true) → GivesBut (Contains (x ∷ xs)) t
      → GivesBut (Contains xs) t
  first-done t done p b some = by_case (p b some)
    where
      in_list : (x ≡ b) ⊎ Contains xs b → (is_dirty (held_of t.blocks b) ≡ true) ⊎ Contains xs b
      in_list (inl same) =
          inl (subst (λ c. is_some (held_of t.blocks c).giving ≡ true → is_dirty (held_of t.blocks c) ≡ true) same done some)
      in_list (inr rest) = inr rest

      by_case : (is_dirty (held_of t.blocks b) ≡ true) ⊎ Contains (x ∷ xs) b → (is_dirty (held_of t.blocks b) ≡ true) ⊎ Contains xs b
      by_case (inl d) = inl d
      by_case (inr c) = in_list (contains_cases x b xs c)

  gives_up-done : (s : Serving) → Sound s → is_dirty (held_at s x) ≡ false → GivesBut (Contains (x ∷ xs)) s.tokens → (o : Option Giving)
      → (held_at s x).giving ≡ o → GivesBut (Contains xs) (gives_up s x o).state.tokens
  gives_up-done s sound clean p None fact = first-done s.tokens (λ some. contrary (ap is_some (sym fact) ∙ some)) p
  gives_up-done s sound clean p (Some g) fact =
      let t : Serving = (take_back s x g.stamp g.keep).state in
      first-done t.tokens (λ some. contrary (none_is (held_at t x).giving (taken_back-ungiven s sound x g fact clean) some))
      (take_back-keeps (G (Contains (x ∷ xs))) (takes-give (Contains (x ∷ xs))) s p x g.stamp g.keep)

  give_if_clean-done : (s : Serving) → Sound s → GivesBut (Contains (x ∷ xs)) s.tokens → GivesBut (Contains xs) (give_if_clean s x).state.tokens
  unfolding give_if_clean
  give_if_clean-done s sound p =
      by_test (λ (d : client.Done). GivesBut (Contains xs) d.state.tokens) (is_dirty (held_at s x)) (still s) (gives_up s x (held_at s x).giving)
      (λ d. first-done s.tokens (λ some. d) p) (λ c. gives_up-done s sound c p (held_at s x).giving refl)

nothing-left : (t : TokensState) → GivesBut (Contains []) t → GivesBut (λ b. ⊥) t
nothing-left t p b some = none_left (p b some)
  where
    none_left : (is_dirty (held_of t.blocks b) ≡ true) ⊎ Contains [] b → (is_dirty (held_of t.blocks b) ≡ true) ⊎ ⊥
    none_left (inl d) = inl d
    none_left (inr c) = inr (contains_nothing b c)

all-done : (s : Serving) (xs : List BlockId) → Sound s → GivesBut (Contains xs) s.tokens → GivesBut (λ b. ⊥) (steps give_if_clean s xs).state.tokens
all-done s [] sound p = nothing-left s.tokens p
all-done s (x ∷ xs) sound p = all-done (give_if_clean s x).state xs (sound_still (give_if_clean_moves s x) sound) (give_if_clean-done x xs s sound p)

abbrev OnlyDirty : TokensState → Type 0
OnlyDirty t = GivesBut (λ b. ⊥) t

dirty_only : (X : Type 0) → X ⊎ ⊥ → X
dirty_only X (inl x) = x
dirty_only X (inr x) = absurd x

serving_settle-gives : (s : Serving) (end : End) (rows : List (BlockId × Entry)) → Sound s → OnlyDirty s.tokens → OnlyDirty (serving_settle s end rows).state.tokens
unfolding serving_settle
serving_settle-gives s end rows sound p =
    let dirty : List BlockId = dirty_in s.tokens.blocks in
    let before : GivesAmong dirty s.tokens = λ b some. dirty-among s.tokens.blocks b (dirty_only _ (p b some)) in
    let among : GivesAmong dirty (settle_rows s rows).tokens = clean-among dirty (fold notes_settled s rows) rows (rows-among dirty s rows before) in
    all-done (feeds (settle_rows s rows) end rows) dirty (sound_still (rows_settle s rows) sound) (λ b some. inr (among b some))

-- ---- all that a client does

abbrev pub none : BlockId → Type 0
none b = ⊥

-- sound tokens, and the fact
record SoundGiving (t : TokensState) : Type 0 where
  sound : IsSound t
  only : OnlyDirty t

logs-give : (s : Serving) (i : log_in.In) → Sound s → OnlyDirty s.tokens → OnlyDirty (serving_write s i).state.tokens
logs-give s i sound p =
    (serving_write-tokens SoundGiving (λ u end rows q. record { sound = sound_still (settles_move u end rows) q.sound; only = serving_settle-gives u end rows q.sound q.only }) s i
    (record { sound = sound; only = p })).only

-- a block of which none is put off
ungiven-put : (t : TokensState) → OnlyDirty t → (block : BlockId) (g : Held) → is_none g.giving ≡ true → OnlyDirty (with_held t block g)
ungiven-put t p block g ungiven = gives_put none t p block g (λ some. contrary (none_is g.giving ungiven some))

copies-give : (s : Serving) (block : BlockId) (g : Held) → Sound s → IsCopied (held_at s block) g → OnlyDirty s.tokens
    → OnlyDirty (note_clean (record s { tokens = with_held s.tokens block g }) block).tokens
copies-give s block g sound fact p =
    note_clean-tokens OnlyDirty (evict-gives none) (record s { tokens = with_held s.tokens block g }) block
    (ungiven-put s.tokens p block g (ap is_none fact.giving ∙ (sound.each block).asks_ungiven fact.asks))

wrote-gives : (t : TokensState) (block : BlockId) (value : Option (List ℕ)) → OnlyDirty t → OnlyDirty (on_wrote t block value).state
unfolding on_wrote
wrote-gives t block value p =
    let h : Held = held_of t.blocks block in
    by_test (λ (d : Done). OnlyDirty d.state) (may_write h) (still (with_held t block (held_write h value))) (still t)
    (λ x. ungiven-put t p block (held_write h value) (and_second (is_own h.mode) (is_none h.giving) (and_first (is_own h.mode && is_none h.giving) _ x))) (λ x. p)

changes-give : (s : Serving) (block : BlockId) (value : Option (List ℕ)) → Sound s → OnlyDirty s.tokens → OnlyDirty (changes s block value).done.state.tokens
unfolding changes
changes-give s block value sound p =
    let w : Serving = wrote s block value in
    logs-give w (log_ins.Put block (record { ver = (held_at w block).ver; hop = 0; place = None }) value)
    (transition-sound s.tokens (input.Wrote block value) sound)
    (wrote-gives s.tokens block value p)

pub keeps-giving : Keeps AnyBlock AnyMap (G none) (λ n. G none) (λ b. G none)
keeps-giving = record {
  begins = λ t l c p room. p;
  less = λ t l c p. p;
  ends = λ t l c p. p;
  takes = λ n. takes-give none;
  touches = λ t l c block p. p;
  copies = λ s block g may sound fact p. copies-give s block g sound fact p;
  owns = λ t l c block g may sound fact p. ungiven-put t p block g (ap is_none fact.giving ∙ (sound.each block).asks_ungiven fact.asks);
  logs = λ s i outer sound p. logs-give s i sound p;
  puts = λ s block value sound may p. changes-give s block value sound p;
  puts_owned = λ s block value sound may p. changes-give s block value sound p;
  lets_owned = λ s block sound p. note_gone-tokens OnlyDirty (record s { tokens = (on_evict s.tokens block).state }) block (evict-gives none s.tokens block p);
}

-- ---- openings

abbrev pub AnyOpening : openings.Opening → Type 0
AnyOpening o = Unit {0}

abbrev pub AnyLog : LogState → Type 0
AnyLog l = Unit {0}

any_opens : (p : Progress) → OpensSo AnyOpening AnyLog p
any_opens (progress.Opening o) = tt
any_opens (progress.Opened d) = tt
any_opens (progress.Lost seg) = tt

pub any_reopens : Reopens AnyMap AnyOpening AnyLog
any_reopens = record {
  first = λ owner servers q. tt;
  packet = λ o q p brings h. any_opens (opening.opening_take o q p).progress;
  tick = λ o q h. any_opens (opening.on_tick o q).progress;
}

pub only_dirty : (s : Serving) → At (G none) s → GivesOnlyDirty s
only_dirty s p b some = dirty_only _ (p b some)

pub starts-giving : Starts (G none) AnyLog
starts-giving inc epochs l capacity h b some = contrary some

pub puts_off_what_is_dirty : PutsOffWhatIsDirty
puts_off_what_is_dirty =
    after_weaker (At (G none)) GivesOnlyDirty only_dirty
    (always (G none) (λ n. G none) (λ b. G none) keeps-giving AnyOpening AnyLog any_reopens starts-giving (λ l map. tt))
