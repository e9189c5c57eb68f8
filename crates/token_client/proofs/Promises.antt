-- Transitions of several steps lead to a state that follows: recalls, promises and ticks.
use Rattle.std.proofs.Common.{◌≡◌, ◌≢◌, ℕ, ◌+◌, Bool, true, false, cond, ◌&&◌, ◌==◌, List, [], ◌∷◌, Some, is_some, is_none, refl, sym, ap, subst, ◌∙◌, arith, nat_lt}
use Rattle.std.proofs.Common.{inl, inr, slice_set, unwrap_or}
use Rattle.std.specs.List.{filter, list_any, AllByRecursion}
use Rattle.std.specs.List.Sorted.{IsStrictlySortedBy}
use Rattle.std.specs.Map.{keys_of, values_of, lookup}
use Rattle.std.specs.BTreeMap.{is_at}
use Rattle.std.specs.Ordering.{eq_by_cmp, is_eq, ordering_reverse}
use Rattle.std.specs.declared.cmp.Ordering.TheVariants.{Less}
use Rattle.std.proofs.lemmas.Bool.Decides.{nat_tests}
use Rattle.std.proofs.lemmas.List.{get_or-set_other}
use Rattle.std.proofs.lemmas.Cmp.{tied_itself}
use Rattle.xfs_base.specs.declared.block.BlockId.{BlockId}
use Rattle.xfs_base.specs.declared.token.Mode.{Mode}
use Rattle.xfs_base.specs.declared.token.Mode.TheVariants.{Copy}
use Rattle.xfs_base.specs.declared.token.Stamp.{Stamp}
use Rattle.xfs_base.specs.Blocks.{block_cmp, slot_of}
use Rattle.xfs_base.specs.Steps.{still, steps, saying}
use Rattle.xfs_base.proofs.BlockOrder.{block_cmp_total}
use Rattle.xfs_base.specs.Modes.{is_own}
use Rattle.xfs_base.specs.Stamps.{is_later}
use Rattle.xfs_base.proofs.Booleans.{by_test, and_first, and_second}
use Rattle.xfs_base.proofs.Orders.{not_later_itself}
use Rattle.xfs_base.specs.Limits.{u32_end}
use Rattle.token_client.specs.declared.held.Held.{Held}
use Rattle.token_client.specs.declared.output.Out.TheVariants.{Want}
use Rattle.token_client.specs.Held.{held_new, is_asking, held_ask, unfetched, drop_promised}
use Rattle.token_client.specs.Laws.{IsSound, IsSoundBlock}
use Rattle.token_client.specs.State.{TokensState, held_of, with_held, epoch_of, is_in_slot}
use Rattle.token_client.specs.Transition.{Done, tokens_ask, is_promised, refetch, give, can_refetch, recalled_above, recalled_again, recalled, on_recalled, fetched_blocks, drop_in, drop_all_in, raised, ask_copy, may_promise, on_promise, is_spent, ask_again, wanted_blocks, on_tick}
use Rattle.token_client.proofs.Tables.{InOrder, held_of-put_itself, put_same, in_order-changed, held_of-changed}
use Rattle.token_client.proofs.Follows.{Follows, follows_still, follows_through, follows_steps, follows_less}
use Rattle.token_client.proofs.SoundBlocks.{asks_by_fetch, asks_less, unheld_is_unowned, unfetched-sound, drop_promised-sound}
use Rattle.token_client.proofs.Transitions.{epoch_at, ask-follows, same-follows, give-follows, recalled_again-follows, ask_again-follows}

-- asking changes no epoch, and no stamp of the block
ask-same : (s : TokensState) (block : BlockId) (mode : Mode)
    → ((tokens_ask s block mode).state.epochs ≡ s.epochs) × ((held_of (tokens_ask s block mode).state.blocks block).stamp ≡ (held_of s.blocks block).stamp)
unfolding tokens_ask
ask-same s block mode =
    let h : Held = held_of s.blocks block in
    by_test (λ (d : Done). (d.state.epochs ≡ s.epochs) × ((held_of d.state.blocks block).stamp ≡ h.stamp)) (nat_lt s.req u32_end)
    (record { state = record (with_held s block (held_ask h (s.req + 1) mode)) { req = s.req + 1 }; outs = Want block (s.req + 1) 0 mode ∷ [] }) (still s)
    (λ t. (refl, ap (λ (g : Held). g.stamp) (held_of-put_itself block (held_ask h (s.req + 1) mode) s.blocks)))
    (λ t. (refl, refl))

refetch-same : (s : TokensState) (block : BlockId)
    → ((refetch s block).state.epochs ≡ s.epochs) × ((held_of (refetch s block).state.blocks block).stamp ≡ (held_of s.blocks block).stamp)
unfolding refetch
refetch-same s block =
    let h : Held = held_of s.blocks block in
    let dropped : TokensState = with_held s block (unfetched h) in
    by_test (λ (d : Done). (d.state.epochs ≡ s.epochs) × ((held_of d.state.blocks block).stamp ≡ h.stamp)) (is_some h.fetch) (tokens_ask dropped block Copy)
    (still s)
    (λ t. ((ask-same dropped block Copy).0, (ask-same dropped block Copy).1 ∙ ap (λ (g : Held). g.stamp) (held_of-put_itself block (unfetched h) s.blocks)))
    (λ t. (refl, refl))

-- what asked in a state
abbrev Asked : TokensState → BlockId → Type 0
Asked s b = is_asking (held_of s.blocks b) ≡ true

pub refetch-follows : (opens : BlockId → Type 0) (s : TokensState) → IsSound s → (block : BlockId) → Follows opens s (refetch s block).state
unfolding refetch
refetch-follows opens s p block =
    let h : Held = held_of s.blocks block in
    let dropped : TokensState = with_held s block (unfetched h) in
    let sound : IsSoundBlock (epoch_at s block) h = p.each block in
    let now : held_of dropped.blocks block ≡ unfetched h = held_of-put_itself block (unfetched h) s.blocks in
    by_test (λ (d : Done). Follows opens s d.state) (is_some h.fetch) (tokens_ask dropped block Copy) (still s)
    (λ t.
    let asks : is_asking h ≡ true = asks_by_fetch h t in
    let one : Follows (Asked s) s dropped = same-follows (Asked s) s p block (unfetched h) refl (asks_less h) (unfetched-sound (epoch_at s block) h sound) in
    let two : Follows (Asked s) dropped (tokens_ask dropped block Copy).state = ask-follows (Asked s) dropped one.sound block Copy
    (ap (λ (g : Held). is_own g.mode) now ∙ unheld_is_unowned h.mode (sound.fetch_unheld t))
    (ap (λ (g : Held). is_none g.giving) now ∙ sound.asks_ungiven asks) (inr asks) in
    follows_less opens s (tokens_ask dropped block Copy).state (follows_through (Asked s) s dropped (tokens_ask dropped block Copy).state one two))
    (λ t. follows_still opens s p)

-- what is known of each block once a promise has dropped what it ends
pub dropped-known : (s : TokensState) (slot : ℕ) (b : BlockId) → held_of (drop_all_in slot s.blocks) b ≡ drop_in slot b (held_of s.blocks b)
dropped-known s slot b =
    held_of-changed (drop_in slot) b s.blocks
    (by_test (λ (g : Held). g ≡ held_new) (is_in_slot slot b) (drop_promised held_new) held_new (λ t. refl) (λ t. refl))

module _ (opens : BlockId → Type 0) (s : TokensState) (p : IsSound s) where
  recalled_above-follows : (block : BlockId) (stamp : Stamp) (keep : Bool) → stamp.epoch ≡ epoch_at s block
      → is_later stamp (held_of s.blocks block).stamp ≡ true → Follows opens s (recalled_above s block stamp keep).state
  unfolding recalled_above
  recalled_above-follows block stamp keep promised above =
      let asked_for : Done = refetch s block in
      let given : Done = give asked_for.state block stamp keep in
      let one : Follows opens s asked_for.state = refetch-follows opens s p block in
      let same : (asked_for.state.epochs ≡ s.epochs) × ((held_of asked_for.state.blocks block).stamp ≡ (held_of s.blocks block).stamp) = refetch-same s block in
      let two : Follows opens asked_for.state given.state = give-follows opens asked_for.state one.sound block stamp keep
      (promised ∙ sym (ap (λ es. epoch_of es (slot_of block.ino.0)) same.0)) (ap (is_later stamp) same.1 ∙ above) in
      by_test (λ (d : Done). Follows opens s d.state) (can_refetch s block) (saying asked_for.outs given) (still s)
      (λ t. follows_through opens s asked_for.state given.state one two)
      (λ t. follows_still opens s p)

  recalled-follows : (block : BlockId) (stamp : Stamp) (keep : Bool) → stamp.epoch ≡ epoch_at s block → Follows opens s (recalled s block stamp keep).state
  unfolding recalled
  recalled-follows block stamp keep promised =
      by_test (λ (d : Done). Follows opens s d.state) (is_later stamp (held_of s.blocks block).stamp) (recalled_above s block stamp keep)
      (recalled_again s block stamp)
      (λ t. recalled_above-follows block stamp keep promised t)
      (λ t. recalled_again-follows opens s p block stamp)

  epoch_from_test : (n m : ℕ) → (n == m) ≡ true → m ≡ n
  epoch_from_test n m h = grind (arith, nat_tests)

  pub on_recalled-follows : (block : BlockId) (stamp : Stamp) (keep : Bool) → Follows opens s (on_recalled s block stamp keep).state
  unfolding on_recalled
  on_recalled-follows block stamp keep =
      by_test (λ (d : Done). Follows opens s d.state) (is_promised s block stamp) (recalled s block stamp keep) (still s)
      (λ t. recalled-follows block stamp keep (epoch_from_test (epoch_at s block) stamp.epoch t))
      (λ t. follows_still opens s p)

  pub on_tick-follows : Follows opens s (on_tick s).state
  unfolding on_tick
  on_tick-follows =
      by_test (λ (d : Done). Follows opens s d.state) (list_any (λ h. is_spent h.want) (values_of s.blocks)) (still s) (steps ask_again s (wanted_blocks s.blocks))
      (λ t. follows_still opens s p)
      (λ t. follows_steps opens ask_again (λ u block q. ask_again-follows opens u q block) s (wanted_blocks s.blocks) p)

  -- a promise drops what it ends
  dropped-sound : (slot epoch : ℕ) (b : BlockId)
      → IsSoundBlock (epoch_of (slice_set s.epochs slot epoch) (slot_of b.ino.0)) (drop_in slot b (held_of s.blocks b))
  dropped-sound slot epoch b =
      let h : Held = held_of s.blocks b in
      let other : is_in_slot slot b ≡ false → slot_of b.ino.0 ≢ slot = λ f. apart (slot_of b.ino.0) slot f in
      by_test (IsSoundBlock (epoch_of (slice_set s.epochs slot epoch) (slot_of b.ino.0))) (is_in_slot slot b) (drop_promised h) h
      (λ t. drop_promised-sound (epoch_at s b) h (p.each b) (epoch_of (slice_set s.epochs slot epoch) (slot_of b.ino.0)))
      (λ t. subst (λ n. IsSoundBlock n h) (sym (get_or-set_other s.epochs slot (slot_of b.ino.0) epoch 0 (other t))) (p.each b))
    where
      apart : (n m : ℕ) → (n == m) ≡ false → n ≢ m
      apart n m f = grind (arith, nat_tests)

  dropped-at : (slot : ℕ) (b : BlockId) (h : Held) → (drop_in slot b h).stamp ≡ h.stamp
  dropped-at slot b h = by_test (λ (g : Held). g.stamp ≡ h.stamp) (is_in_slot slot b) (drop_promised h) h (λ t. refl) (λ t. refl)

  dropped-asks : (slot : ℕ) (b : BlockId) (h : Held) → is_asking (drop_in slot b h) ≡ true → is_asking h ≡ true
  dropped-asks slot b h =
      by_test (λ (g : Held). is_asking g ≡ true → is_asking h ≡ true) (is_in_slot slot b) (drop_promised h) h (λ t a. asks_less h a) (λ t a. a)

  raised-follows : (slot epoch : ℕ) → Follows opens s (raised s slot epoch)
  raised-follows slot epoch = record {
    sound = record {
      sorted = in_order-changed (drop_in slot) s.blocks p.sorted;
      each = λ b. subst (IsSoundBlock (epoch_of (slice_set s.epochs slot epoch) (slot_of b.ino.0))) (sym (dropped-known s slot b)) (dropped-sound slot epoch b);
    };
    stamps = λ b. ap (λ (g : Held). is_later (held_of s.blocks b).stamp g.stamp) (dropped-known s slot b)
        ∙ ap (is_later (held_of s.blocks b).stamp) (dropped-at slot b (held_of s.blocks b)) ∙ not_later_itself (held_of s.blocks b).stamp;
    counted = omega arith;
    opened = λ b a. inl (dropped-asks slot b (held_of s.blocks b) (sym (ap is_asking (dropped-known s slot b)) ∙ a));
  }

-- each of a list
abbrev pub Each : {A : Type 0} → (A → Type 0) → List A → Type 0
Each P [] = Unit {0}
Each P (x ∷ xs) = P x × Each P xs

pub Each-weaker : {A : Type 0} (P Q : A → Type 0) → ((x : A) → P x → Q x) → (xs : List A) → Each P xs → Each Q xs
Each-weaker P Q f [] h = tt
Each-weaker P Q f (x ∷ xs) h = (f x h.0, Each-weaker P Q f xs h.1)

-- the table answers at each block of these entries with the entry's value
abbrev pub Agrees : List (BlockId × Held) → List (BlockId × Held) → Type 0
Agrees table es = Each (λ e. held_of table e.0 ≡ e.1) es

agrees-more : (d : BlockId × Held) (table es : List (BlockId × Held)) → AllByRecursion (λ b. block_cmp d.0 b ≡ Less) (keys_of es) → Agrees table es
    → Agrees (d ∷ table) es
agrees-more d table [] below h = tt
agrees-more d table (e ∷ es) below h =
    let apart : eq_by_cmp block_cmp e.0 d.0 ≡ false = ap is_eq (block_cmp_total.antisymm e.0 d.0) ∙ ap (λ o. is_eq (ordering_reverse o)) below.0 in
    (ap (λ t. unwrap_or (cond t (Some d.1) (lookup (is_at (block_cmp e.0)) table)) held_new) apart ∙ h.0, agrees-more d table es below.1 h.1)

-- a table in order answers with its own entries
pub agrees-itself : (es : List (BlockId × Held)) → InOrder es → Agrees es es
unfolding IsStrictlySortedBy
agrees-itself [] s = tt
agrees-itself (e ∷ es) s = (
  ap (λ o. unwrap_or (cond (is_eq o) (Some e.1) (lookup (is_at (block_cmp e.0)) es)) held_new) (tied_itself block_cmp_total e.0),
  agrees-more e es es s.0 (agrees-itself es s.1),
)

-- what is found to be fetched is being fetched
abbrev pub IsFetched : List (BlockId × Held) → ℕ → BlockId → Type 0
IsFetched table slot b = (is_in_slot slot b ≡ true) × (is_some (held_of table b).fetch ≡ true)

pub fetched-facts : (table : List (BlockId × Held)) (slot : ℕ) (es : List (BlockId × Held)) → Agrees table es → Each (IsFetched table slot) (fetched_blocks slot es)
fetched-facts table slot [] h = tt
fetched-facts table slot (e ∷ es) h =
    by_test (λ (rows : List (BlockId × Held)). Each (IsFetched table slot) (keys_of rows)) (is_in_slot slot e.0 && is_some e.1.fetch)
    (e ∷ filter (λ e. is_in_slot slot e.0 && is_some e.1.fetch) es) (filter (λ e. is_in_slot slot e.0 && is_some e.1.fetch) es)
    (λ t. (
      (
        and_first (is_in_slot slot e.0) (is_some e.1.fetch) t,
        ap (λ (g : Held). is_some g.fetch) h.0
            ∙ and_second (is_in_slot slot e.0) (is_some e.1.fetch) t,
      ),
      fetched-facts table slot es h.1,
    ))
    (λ t. fetched-facts table slot es h.1)

-- a copy of the block may be asked for
abbrev IsFree : TokensState → BlockId → Type 0
IsFree s b = (is_own (held_of s.blocks b).mode ≡ false) × (is_none (held_of s.blocks b).giving ≡ true)

-- asking leaves others free
ask-free : (s : TokensState) (block : BlockId) (mode : Mode) (b : BlockId) → IsFree s b → IsFree (tokens_ask s block mode).state b
unfolding tokens_ask
ask-free s block mode b free =
    let g : Held = held_ask (held_of s.blocks block) (s.req + 1) mode in
    by_test (λ (d : Done). IsFree d.state b) (nat_lt s.req u32_end)
    (record { state = record (with_held s block g) { req = s.req + 1 }; outs = Want block (s.req + 1) 0 mode ∷ [] }) (still s)
    (λ t. (put_same (λ (h : Held). is_own h.mode) b block g s.blocks refl ∙ free.0, put_same (λ (h : Held). is_none h.giving) b block g s.blocks refl ∙ free.1))
    (λ t. free)

asks-follow : (opens : BlockId → Type 0) (s : TokensState) → IsSound s → (blocks : List BlockId) → Each (IsFree s) blocks → Each opens blocks
    → Follows opens s (steps ask_copy s blocks).state
asks-follow opens s p [] free why = follows_still opens s p
asks-follow opens s p (b ∷ bs) free why =
    let t : TokensState = (tokens_ask s b Copy).state in
    let one : Follows opens s t = ask-follows opens s p b Copy free.0.0 free.0.1 (inr why.0) in
    follows_through opens s t (steps ask_copy t bs).state one
    (asks-follow opens t one.sound bs (Each-weaker (IsFree s) (IsFree t) (λ c. ask-free s b Copy c) bs free.1) why.1)

pub on_promise-follows : (opens : BlockId → Type 0) (s : TokensState) → IsSound s → (slot epoch : ℕ) → Follows opens s (on_promise s slot epoch).state
unfolding on_promise
on_promise-follows opens s p slot epoch =
    let risen : TokensState = raised s slot epoch in
    let blocks : List BlockId = fetched_blocks slot s.blocks in
    let facts : Each (IsFetched s.blocks slot) blocks = fetched-facts s.blocks slot s.blocks (agrees-itself s.blocks p.sorted) in
    let one : Follows (Asked s) s risen = raised-follows (Asked s) s p slot epoch in
    let free : Each (IsFree risen) blocks = Each-weaker (IsFetched s.blocks slot) (IsFree risen) (λ b f. freed b f) blocks facts in
    let why : Each (Asked s) blocks = Each-weaker (IsFetched s.blocks slot) (Asked s) (λ b f. asks_by_fetch (held_of s.blocks b) f.1) blocks facts in
    let two : Follows (Asked s) risen (steps ask_copy risen blocks).state = asks-follow (Asked s) risen one.sound blocks free why in
    by_test (λ (d : Done). Follows opens s d.state) (may_promise s slot epoch) (steps ask_copy risen blocks) (still s)
    (λ t. follows_less opens s (steps ask_copy risen blocks).state (follows_through (Asked s) s risen (steps ask_copy risen blocks).state one two))
    (λ t. follows_still opens s p)
  where
    freed : (b : BlockId) → IsFetched s.blocks slot b → IsFree (raised s slot epoch) b
    freed b f =
        let h : Held = held_of s.blocks b in
        let now : held_of (raised s slot epoch).blocks b ≡ drop_promised h = dropped-known s slot b ∙ ap (λ t. cond t (drop_promised h) h) f.0 in
        (ap (λ (g : Held). is_own g.mode) now ∙ unheld_is_unowned h.mode ((p.each b).fetch_unheld f.1), ap (λ (g : Held). is_none g.giving) now)
