-- Each thing that a client does keeps that its cache has just the blocks that are held and clean.
use Rattle.std.proofs.Common.{◌≡◌, ◌⊎◌, inl, inr, ℕ, ◌+◌, ◌≤◌, Bool, true, false, ◌&&◌, not, nat_lt, List, [], ◌∷◌, ◌++◌, take, Option, Some, None, refl, sym, ap, ◌∙◌, arith}
use Rattle.std.specs.Prelude.{Contains, fold}
use Rattle.std.specs.Map.{keys_of}
use Rattle.std.specs.List.{AllByRecursion, list_any}
use Rattle.std.proofs.lemmas.Bool.Decides.{nat_tests}
use Rattle.client_log.specs.declared.input.In as log_in
use Rattle.client_log.specs.declared.input.In.TheVariants as log_ins
use Rattle.client_log.specs.declared.output.Out as log_out
use Rattle.client_log.specs.declared.output.Out.TheVariants.{Send, Settled}
use Rattle.client_log.specs.Transition as log
use Rattle.client_running.specs.Blocks.{changes, wrote}
use Rattle.client_serving.specs.declared.serving.Serving.{Serving}
use Rattle.client_serving.specs.Flights.{feeds, give_if_clean, gives_up, held_at, keep_row, notes_settled, settle_rows, serving_settle, serving_write, write_one}
use Rattle.client_serving.specs.Follow.{note_clean, note_gone, serving_seal}
use Rattle.client_serving.specs.Sends as client
use Rattle.coop_cache.specs.CacheState.{CacheState}
use Rattle.coop_cache.specs.Transition.{excess, is_clean, cache_leave, touch, used_last}
use Rattle.log_owner.specs.Sealing.{is_settling}
use Rattle.token_client.specs.declared.held.Giving.{Giving}
use Rattle.token_client.specs.declared.held.Held.{Held}
use Rattle.token_client.specs.Held.{is_dirty, is_settled_by, let_go, may_evict, may_write, version_settled, held_write}
use Rattle.token_client.specs.Laws.{IsSound}
use Rattle.token_client.specs.Settling.{is_giving}
use Rattle.token_client.specs.State.{TokensState, dirty_in, held_of, with_held}
use Rattle.token_client.specs.Transition.{Done, on_evict, on_settled, on_wrote}
use Rattle.token_client.proofs.Tables.{held_of-put_itself, put_each}
use Rattle.xfs_base.specs.declared.block.BlockId.{BlockId}
use Rattle.xfs_base.specs.declared.entry.Entry.{Entry}
use Rattle.xfs_base.specs.declared.segment.End.{End}
use Rattle.xfs_base.specs.Modes.{is_held, is_nothing}
use Rattle.xfs_base.specs.Steps.{steps, still}
use Rattle.xfs_base.proofs.Booleans.{by_test, contrary}
use Rattle.xfs_base.proofs.Members.{contains_cases, contains_first, contains_nothing, contains_rest}
use Rattle.xfs_base.proofs.Alls.{all_weaker}
use Rattle.node_slots.specs.client_law.Caching.{CachesJustWhatIsClean, CachesOnlyClean, CachesWhatIsClean, CopiesOnlyClean, EvictsOnlyClean, SettlesOnlyClean}
use Rattle.node_slots.proofs.client_law.Giving.{any_reopens, AnyLog, AnyOpening}
use Rattle.node_slots.proofs.client_law.Happening.{AnyBlock, AnyMap, after_weaker, always, Starts}
use Rattle.node_slots.proofs.client_law.Caching.{C, CachesBut, clean-caches, clean_evicts, clean_victims, dirty_stays, gone-caches, settled_clean, takes-cache}
use Rattle.node_slots.proofs.client_law.Keeping.{At, IsCopied, Keeps, Sound, note_gone-keeps, take_back-keeps}
use Rattle.node_slots.proofs.client_law.Orders.{has, in_take, in_used, once_used, to_used}

-- ---- a segment is settled

abbrev pub none : BlockId → Type 0
none b = ⊥

abbrev InRows : List (BlockId × Entry) → BlockId → Type 0
InRows rows b = Contains (keys_of rows) b

rows_in : (rows : List (BlockId × Entry)) → AllByRecursion (λ row. InRows rows row.0) rows
rows_in [] = tt
rows_in (row ∷ rows) = (
  contains_first row.0 (keys_of rows),
  all_weaker (λ (r : BlockId × Entry). InRows rows r.0) (λ (r : BlockId × Entry). InRows (row ∷ rows) r.0)
      (λ r inside. contains_rest row.0 r.0 (keys_of rows) inside) rows (rows_in rows),
)

module _ (X : BlockId → Type 0) where
  -- a version is settled of a block that is excepted
  settled-caches : (t : TokensState) (c : CacheState) (block : BlockId) (ver : ℕ) → X block → CachesBut X t c → CachesBut X (on_settled t block ver).state c
  unfolding on_settled
  settled-caches t c block ver x p =
      let h : Held = held_of t.blocks block in
      let g : Held = version_settled h ver in
      by_test (λ (d : Done). CachesBut X d.state c) (is_settled_by h ver) (still (with_held t block g)) (still t)
      (λ news. record {
        once = p.once;
        cached =
            put_each (λ b f. is_clean c b ≡ true → may_evict f ≡ true) block g t.blocks
            (λ inside. contrary (sym (dirty_stays h (was_dirty h ver news)) ∙ p.cached block inside)) p.cached;
        caches = put_each (λ b f. may_evict f ≡ true → (is_clean c b ≡ true) ⊎ X b) block g t.blocks (λ clean. inr x) p.caches;
      }) (λ old. p)
    where
      was_dirty : (h : Held) (ver : ℕ) → is_settled_by h ver ≡ true → is_dirty h ≡ true
      was_dirty h ver news = grind (arith, nat_tests)

  rows_settled : (s : Serving) (rows : List (BlockId × Entry)) → AllByRecursion (λ row. X row.0) rows → At (C X) s → At (C X) (fold notes_settled s rows)
  unfolding notes_settled
  rows_settled s [] each p = p
  rows_settled s (row ∷ rows) each p = rows_settled (notes_settled s row) rows each.1 (settled-caches s.tokens s.cache row.0 row.1.ver each.0 p)

-- one row after the other goes into the cache
module _ (row : BlockId × Entry) (rows : List (BlockId × Entry)) (s : Serving) (p : At (C (InRows (row ∷ rows))) s) where
  but_row : (b : BlockId) → InRows (row ∷ rows) b → (b ≡ row.0) ⊎ InRows rows b
  but_row b inside = turned (contains_cases row.0 b (keys_of rows) inside)
    where
      turned : (row.0 ≡ b) ⊎ InRows rows b → (b ≡ row.0) ⊎ InRows rows b
      turned (inl same) = inl (sym same)
      turned (inr rest) = inr rest

  unkept : may_evict (held_at s row.0) ≡ false → At (C (InRows rows)) s
  unkept gone = record { once = p.once; cached = p.cached; caches = λ b clean. less b clean (p.caches b clean) }
    where
      by_row : (b : BlockId) → may_evict (held_at s b) ≡ true → (b ≡ row.0) ⊎ InRows rows b → (is_clean s.cache b ≡ true) ⊎ InRows rows b
      by_row b clean (inl same) = contrary (sym gone ∙ ap (λ a. may_evict (held_at s a)) (sym same) ∙ clean)
      by_row b clean (inr rest) = inr rest

      less : (b : BlockId) → may_evict (held_at s b) ≡ true → (is_clean s.cache b ≡ true) ⊎ InRows (row ∷ rows) b → (is_clean s.cache b ≡ true) ⊎ InRows rows b
      less b clean (inl inside) = inl inside
      less b clean (inr x) = by_row b clean (but_row b x)

  keep_row-caches : At (C (InRows rows)) (keep_row s row)
  unfolding keep_row
  keep_row-caches =
      let h : Held = held_at s row.0 in
      by_test (At (C (InRows rows))) (not (is_dirty h) && is_held h.mode) (note_clean s row.0) s
      (λ x. clean-caches (InRows rows) (InRows (row ∷ rows)) s row.0 (turned (not (is_dirty h)) (is_held h.mode) true x) p but_row)
      (λ x. unkept (turned (not (is_dirty h)) (is_held h.mode) false x))
    where
      turned : (a b r : Bool) → (a && b) ≡ r → (b && a) ≡ r
      turned true true r h = h
      turned true false r h = h
      turned false true r h = h
      turned false false r h = h

rows_clean : (s : Serving) (rows : List (BlockId × Entry)) → At (C (InRows rows)) s → At (C none) (fold keep_row s rows)
rows_clean s [] p = record { once = p.once; cached = p.cached; caches = λ b clean. less b (p.caches b clean) }
  where
    less : (b : BlockId) → (is_clean s.cache b ≡ true) ⊎ InRows [] b → (is_clean s.cache b ≡ true) ⊎ ⊥
    less b (inl inside) = inl inside
    less b (inr x) = inr (contains_nothing b x)
rows_clean s (row ∷ rows) p = rows_clean (keep_row s row) rows (keep_row-caches row rows s p)

-- what is excepted by none is by any
more : (X : BlockId → Type 0) (s : Serving) → At (C none) s → At (C X) s
more X s p = record { once = p.once; cached = p.cached; caches = λ b clean. wider (p.caches b clean) }
  where
    wider : {A B : Type 0} → A ⊎ ⊥ → A ⊎ B
    wider (inl a) = inl a
    wider (inr x) = absurd x

settle_rows-caches : (s : Serving) (rows : List (BlockId × Entry)) → At (C none) s → At (C none) (settle_rows s rows)
settle_rows-caches s rows p = rows_clean (fold notes_settled s rows) rows (rows_settled (InRows rows) s rows (rows_in rows) (more (InRows rows) s p))

gives_up-caches : (s : Serving) (block : BlockId) (g : Option Giving) → At (C none) s → At (C none) (gives_up s block g).state
gives_up-caches s block None p = p
gives_up-caches s block (Some g) p = take_back-keeps (C none) (takes-cache none) s p block g.stamp g.keep

give_if_clean-caches : (s : Serving) (block : BlockId) → At (C none) s → At (C none) (give_if_clean s block).state
unfolding give_if_clean
give_if_clean-caches s block p =
    by_test (λ (d : client.Done). At (C none) d.state) (is_dirty (held_at s block)) (still s) (gives_up s block (held_at s block).giving) (λ x. p)
    (λ x. gives_up-caches s block (held_at s block).giving p)

all_given : (s : Serving) (xs : List BlockId) → At (C none) s → At (C none) (steps give_if_clean s xs).state
all_given s [] p = p
all_given s (x ∷ xs) p = all_given (give_if_clean s x).state xs (give_if_clean-caches s x p)

serving_settle-caches : (s : Serving) (end : End) (rows : List (BlockId × Entry)) → At (C none) s → At (C none) (serving_settle s end rows).state
unfolding serving_settle
serving_settle-caches s end rows p = all_given (feeds (settle_rows s rows) end rows) (dirty_in s.tokens.blocks) (settle_rows-caches s rows p)

-- ---- the log

pub all_written : (s : Serving) (outs : List log_out.Out) → At (C none) s → At (C none) (steps write_one s outs).state
unfolding write_one
all_written s [] p = p
all_written s (Send fragment member ∷ outs) p = all_written s outs p
all_written s (Settled end rows ∷ outs) p = all_written (serving_settle s end rows).state outs (serving_settle-caches s end rows p)

logs-caches : (s : Serving) (i : log_in.In) → At (C none) s → At (C none) (serving_write s i).state
unfolding serving_write serving_seal
logs-caches s i p =
    let t : Serving = record s { log = (log.transition s.log i).state } in
    let outs : List log_out.Out = (log.transition s.log i).outs in
    let u : Serving = (steps write_one t outs).state in
    let q : At (C none) u = all_written t outs p in
    by_test (λ (d : client.Done). At (C none) d.state) (list_any is_settling outs && is_giving u.tokens) (serving_seal u) (still u) (λ x. q) (λ x. q)

-- ---- what arrives, and what is written

arrived : (t : TokensState) (c : CacheState) (block : BlockId) (g : Held) → may_evict g ≡ true → CachesBut none t c
    → CachesBut (λ b. b ≡ block) (with_held t block g) c
arrived t c block g clean p = record {
  once = p.once;
  cached = put_each (λ b h. is_clean c b ≡ true → may_evict h ≡ true) block g t.blocks (λ inside. clean) p.cached;
  caches = put_each (λ b h. may_evict h ≡ true → (is_clean c b ≡ true) ⊎ (b ≡ block)) block g t.blocks (λ _. inr refl) (λ b h. wider (p.caches b h));
}
  where
    wider : {A B : Type 0} → A ⊎ ⊥ → A ⊎ B
    wider (inl a) = inl a
    wider (inr x) = absurd x

copies-caches : (s : Serving) (block : BlockId) (g : Held) → IsCopied (held_at s block) g → At (C none) s
    → At (C none) (note_clean (record s { tokens = with_held s.tokens block g }) block)
copies-caches s block g fact p =
    let t : TokensState = with_held s.tokens block g in
    let clean : may_evict g ≡ true = clean_evicts g (ap is_held fact.mode) (settled_clean g fact.clean) in
    clean-caches none (λ b. b ≡ block) (record s { tokens = t }) block (ap may_evict (held_of-put_itself block g s.tokens.blocks) ∙ clean)
    (arrived s.tokens s.cache block g clean p) (λ b same. inl same)

-- what was excepted isn't held and clean any more
unexcepted : (t : TokensState) (c : CacheState) (block : BlockId) → may_evict (held_of t.blocks block) ≡ false → CachesBut (λ b. b ≡ block) t c
    → CachesBut none t c
unexcepted t c block gone p = record { once = p.once; cached = p.cached; caches = λ b clean. less b clean (p.caches b clean) }
  where
    less : (b : BlockId) → may_evict (held_of t.blocks b) ≡ true → (is_clean c b ≡ true) ⊎ (b ≡ block) → (is_clean c b ≡ true) ⊎ ⊥
    less b clean (inl inside) = inl inside
    less b clean (inr same) = contrary (sym gone ∙ ap (λ a. may_evict (held_of t.blocks a)) (sym same) ∙ clean)

written_dirty : (settled ver : ℕ) → settled ≤ ver → nat_lt settled (ver + 1) ≡ true
written_dirty settled ver below = grind (arith, nat_tests)

wrote-caches : (t : TokensState) (c : CacheState) (block : BlockId) (value : Option (List ℕ)) → IsSound t → may_write (held_of t.blocks block) ≡ true
    → CachesBut (λ b. b ≡ block) t c → CachesBut none (on_wrote t block value).state (cache_leave c block)
unfolding on_wrote
wrote-caches t c block value sound may p =
    let h : Held = held_of t.blocks block in
    let g : Held = held_write h value in
    let gone : may_evict g ≡ false = dirty_stays g (written_dirty h.settled h.ver (sound.each block).settled_below) in
    by_test (λ (d : Done). CachesBut none d.state (cache_leave c block)) (may_write h) (still (with_held t block g)) (still t)
    (λ x. unexcepted (with_held t block g) (cache_leave c block) block (ap may_evict (held_of-put_itself block g t.blocks) ∙ gone)
    (gone-caches (λ b. b ≡ block) t c p block g gone)) (λ x. contrary (sym x ∙ may))

changes-caches : (s : Serving) (block : BlockId) (value : Option (List ℕ)) → Sound s → may_write (held_at s block) ≡ true → At (C (λ b. b ≡ block)) s
    → At (C none) (changes s block value).done.state
unfolding changes
changes-caches s block value sound may p =
    let w : Serving = wrote s block value in
    logs-caches w (log_ins.Put block (record { ver = (held_at w block).ver; hop = 0; place = None }) value)
    (wrote-caches s.tokens s.cache block value sound may p)

lets_owned-caches : (s : Serving) (block : BlockId) → At (C (λ b. b ≡ block)) s
    → At (C none) (note_gone (record s { tokens = (on_evict s.tokens block).state }) block)
unfolding on_evict note_gone
lets_owned-caches s block p =
    let h : Held = held_at s block in
    let g : Held = let_go h in
    let t : TokensState = with_held s.tokens block g in
    let now : held_of t.blocks block ≡ g = held_of-put_itself block g s.tokens.blocks in
    by_test (λ (d : Done). At (C none) (note_gone (record s { tokens = d.state }) block)) (may_evict h) (still t) (still s.tokens)
    (λ x. by_test (At (C none)) (is_nothing (held_of t.blocks block).mode) (record s { tokens = t; cache = cache_leave s.cache block }) (record s { tokens = t })
    (λ y. unexcepted t (cache_leave s.cache block) block (ap may_evict now) (gone-caches (λ b. b ≡ block) s.tokens s.cache p block g refl))
    (λ y. contrary (sym y ∙ ap (λ (f : Held). is_nothing f.mode) now)))
    (λ x. note_gone-keeps (C none) (takes-cache none) s block (unexcepted s.tokens s.cache block x p))

-- a block that is used keeps its place among what is cached
touch-caches : (t : TokensState) (c : CacheState) (block : BlockId) → CachesBut none t c → CachesBut none t (touch c block)
touch-caches t c block p =
    by_test (CachesBut none t) (is_clean c block) (record { blocks = used_last block c.blocks; capacity = c.capacity }) c (λ x. used x) (λ x. p)
  where
    there : (b : BlockId) → is_clean c block ≡ true → (b ≡ block) ⊎ (has b c.blocks ≡ true) → is_clean c b ≡ true
    there b x (inl same) = ap (λ a. is_clean c a) same ∙ x
    there b x (inr inside) = inside

    still_there : (b : BlockId) → (is_clean c b ≡ true) ⊎ ⊥ → (has b (used_last block c.blocks) ≡ true) ⊎ ⊥
    still_there b (inl inside) = inl (to_used block b c.blocks (inr inside))
    still_there b (inr x) = inr x

    used : is_clean c block ≡ true → CachesBut none t (record { blocks = used_last block c.blocks; capacity = c.capacity })
    used x = record {
      once = once_used block c.blocks p.once;
      cached = λ b inside. p.cached b (there b x (in_used block b c.blocks inside));
      caches = λ b clean. still_there b (p.caches b clean);
    }

pub keeps-caching : Keeps AnyBlock AnyMap (C none) (λ n. C none) (λ block. C (λ b. b ≡ block))
keeps-caching = record {
  begins = λ t l c p room. p;
  less = λ t l c p. p;
  ends = λ t l c p. p;
  takes = λ n. takes-cache none;
  touches = λ t l c block p. touch-caches t c block p;
  copies = λ s block g may sound fact p. copies-caches s block g fact p;
  owns = λ t l c block g may sound fact p. arrived t c block g (clean_evicts g (ap is_held fact.mode) (settled_clean g fact.clean)) p;
  logs = λ s i outer sound p. logs-caches s i p;
  puts = λ s block value sound may p. changes-caches s block value sound may (more (λ b. b ≡ block) s p);
  puts_owned = changes-caches;
  lets_owned = λ s block sound p. lets_owned-caches s block p;
}

-- ---- what that says

both_ways : (a b : Bool) → (a ≡ true → b ≡ true) → (b ≡ true → a ≡ true) → a ≡ b
both_ways true b f g = sym (f refl)
both_ways false true f g = g refl
both_ways false false f g = refl

pub what_is_clean : (s : Serving) → At (C none) s → CachesWhatIsClean s
what_is_clean s p = record {
  once = p.once;
  exact = λ b. both_ways (is_clean s.cache b) (may_evict (held_at s b)) (p.cached b) (λ clean. surely (p.caches b clean));
  victims = λ block clean.
      (let order : List BlockId = used_last block s.cache.blocks in
      let n : ℕ = excess s.cache.capacity order in
      clean_victims none none s block clean p (λ b x. absurd x) (take n order) (λ b inside. in_take n b order inside));
}
  where
    surely : {A : Type 0} → A ⊎ ⊥ → A
    surely (inl a) = a
    surely (inr x) = absurd x

pub starts-caching : Starts (C none) AnyLog
starts-caching inc epochs l capacity h = record { once = tt; cached = λ b inside. contrary inside; caches = λ b clean. contrary clean }

pub caches_just_what_is_clean : CachesJustWhatIsClean
caches_just_what_is_clean =
    after_weaker (At (C none)) CachesWhatIsClean what_is_clean
    (always (C none) (λ n. C none) (λ block. C (λ b. b ≡ block)) keeps-caching AnyOpening AnyLog any_reopens starts-caching (λ l map. tt))

-- ---- within an event

-- whatever is held and clean may be out of the cache
abbrev anything : BlockId → Type 0
anything b = Unit {0}

any_part : (s : Serving) → CachesOnlyClean s → At (C anything) s
any_part s p = record { once = p.once; cached = p.cached; caches = λ b clean. inr tt }

pub only_clean : (X : BlockId → Type 0) (s : Serving) → At (C X) s → CachesOnlyClean s
only_clean X s p = record { once = p.once; cached = p.cached }

pub is_exact : (s : Serving) → CachesWhatIsClean s → At (C none) s
is_exact s p = record {
  once = p.once;
  cached = λ b inside. sym (p.exact b) ∙ inside;
  caches = λ b clean. inl (p.exact b ∙ clean);
}

pub evicts_only_clean : EvictsOnlyClean
evicts_only_clean s block p clean =
    let q : At (C anything) s = any_part s p in
    let order : List BlockId = used_last block s.cache.blocks in
    let n : ℕ = excess s.cache.capacity order in (
      clean_victims anything anything s block clean q (λ b x. inr x) (take n order) (λ b inside. in_take n b order inside),
      only_clean anything (note_clean s block) (clean-caches anything anything s block clean q (λ b x. inr x)),
    )

pub copies_only_clean : CopiesOnlyClean
copies_only_clean s block copy p clean =
    only_clean (λ b. b ≡ block) (record s { tokens = with_held s.tokens block copy }) (arrived s.tokens s.cache block copy clean (is_exact s p))

noted_clean : (s : Serving) (noted rest : List (BlockId × Entry)) → At (C (InRows (noted ++ rest))) s → CachesOnlyClean (fold keep_row s noted)
noted_clean s [] rest p = only_clean (InRows rest) s p
noted_clean s (row ∷ noted) rest p = noted_clean (keep_row s row) noted rest (keep_row-caches row (noted ++ rest) s p)

pub settles_only_clean : SettlesOnlyClean
settles_only_clean s noted rest p =
    let rows : List (BlockId × Entry) = noted ++ rest in
    noted_clean (fold notes_settled s rows) noted rest (rows_settled (InRows rows) s rows (rows_in rows) (more (InRows rows) s (is_exact s p)))
