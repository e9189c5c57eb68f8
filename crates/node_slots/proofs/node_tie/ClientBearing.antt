-- What a client's tokens bear through each input: their incarnation, what is promised, what is known of each recall that is put off, and a fact of each
-- block that stays while its version and its value do, and from clean to clean.
use Rattle.std.proofs.Common.{◌≡◌, ℕ, ◌+◌, ◌==◌, Bool, true, false, not, List, [], ◌∷◌, Option, Some, None, is_some, is_none, nat_lt, refl, sym, subst, slice_set, ◌&&◌, arith}
use Rattle.std.proofs.lemmas.Bool.Decides.{nat_tests}
use Rattle.std.specs.List.{list_any}
use Rattle.std.specs.Map.{values_of}
use Rattle.xfs_base.proofs.Booleans.{by_test, and_first, and_second, or_second, not_true, contrary}
use Rattle.xfs_base.specs.declared.block.BlockId.{BlockId}
use Rattle.xfs_base.specs.declared.entry.Entry.{Entry}
use Rattle.xfs_base.specs.declared.entry.Place.{Place}
use Rattle.xfs_base.specs.declared.token.Mode.{Mode}
use Rattle.xfs_base.specs.declared.token.Mode.TheVariants.{Nothing, Copy}
use Rattle.xfs_base.specs.declared.token.Stamp.{Stamp}
use Rattle.xfs_base.specs.Modes.{is_own, is_held}
use Rattle.xfs_base.specs.Stamps.{is_later}
use Rattle.xfs_base.specs.Steps.{still, steps, saying}
use Rattle.xfs_base.specs.Limits.{u32_end}
use Rattle.token_client.specs.declared.held.Fetch.{Fetch}
use Rattle.token_client.specs.declared.held.Giving.{Giving}
use Rattle.token_client.specs.declared.held.Held.{Held}
use Rattle.token_client.specs.declared.held.Wanted.{Wanted}
use Rattle.token_client.specs.declared.input.In.{In}
use Rattle.token_client.specs.declared.input.In.TheVariants.{Need, Granted, Supplied, Forwarded, Recalled, Wrote, Settled, Fetched, Evict, Reask, Quit, Promise, Tick}
use Rattle.token_client.specs.declared.output.Out.TheVariants as output
use Rattle.token_client.specs.Laws.{IsSound}
use Rattle.token_client.specs.Held.{is_answer, is_wanted, is_dirty, is_asking, must_ask, may_write, is_settled_by, may_end_fetch, may_evict, held_ask, asked_again, held_own, copy_of, fetch_from, take_copy, take_grant, end_fetch, held_write, version_settled, let_go, quit, unfetched, drop_promised, gives_after, put_off, give_up}
use Rattle.token_client.specs.State.{TokensState, held_of, with_held, is_in_slot}
use Rattle.token_client.specs.Transition.{Done, accepts, is_promised, tokens_ask, on_need, grant_next, on_granted, on_supplied, serves, supplies, on_forwarded, refetch, give, can_refetch, recalled_above, was_answered, recalled_again, recalled, on_recalled, on_wrote, on_settled, on_fetched, on_evict, on_reask, on_quit, fetched_blocks, drop_in, raised, ask_copy, may_promise, on_promise, is_spent, repeated, ask_again, wanted_blocks, on_tick, transition}
use Rattle.token_client.proofs.Promises.{dropped-known}
use Rattle.token_client.proofs.SoundBlocks.{asks_by_want}
use Rattle.token_client.proofs.Tables.{put_each}
use Rattle.token_client.proofs.Transitions.{answered_want}

-- what is held has a value
abbrev pub IsValued : Held → Type 0
IsValued h = is_held h.mode ≡ true → is_some h.value ≡ true

-- The fact of a block stays where its mode, versions and value do; where a clean block becomes another clean one, that has a value if it is held; and where a
-- clean block that is held is held less.
pub record Stays (Q : BlockId → Held → Type 0) : Type 0 where
  pub same : (b : BlockId) (h g : Held) → g.mode ≡ h.mode → g.ver ≡ h.ver → g.settled ≡ h.settled → g.value ≡ h.value → Q b h → Q b g
  pub clean : (b : BlockId) (h g : Held) → is_dirty h ≡ false → is_dirty g ≡ false → IsValued g → Q b h → Q b g
  pub lowers : (b : BlockId) (h g : Held) → is_held h.mode ≡ true → is_dirty h ≡ false → g.ver ≡ h.ver → g.settled ≡ h.settled → g.value ≡ h.value → Q b h
      → Q b g

-- no fact stays
pub no_fact : Stays (λ b h. Unit {0})
no_fact = record {
  same = λ b h g mode ver settled value q. tt;
  clean = λ b h g was now valued q. tt;
  lowers = λ b h g held was ver settled value q. tt;
}

-- what holds of the incarnation, of what is promised, of what is put off of each block, and of what is known of it
pub record Bearing (P : BlockId → Option Giving → Type 0) (E : List ℕ → Type 0) (Q : BlockId → Held → Type 0) (life inc : ℕ) (epochs : List ℕ)
    (blocks : List (BlockId × Held)) : Type 0
  where
    pub life_is : inc ≡ life
    pub promised : E epochs
    pub giving : (b : BlockId) → P b (held_of blocks b).giving
    pub held : (b : BlockId) → Q b (held_of blocks b)

-- ---- a clean block

pub itself_clean : (k : ℕ) → nat_lt k k ≡ false
itself_clean k = grind (arith, nat_tests)

-- what is asked for is clean
pub asked_clean : (s : TokensState) → IsSound s → (block : BlockId) (stamp : Stamp) (inc req : ℕ) (mode : Mode) → accepts s block stamp inc req mode ≡ true
    → is_dirty (held_of s.blocks block) ≡ false
asked_clean s sound block stamp inc req mode taken =
    let h : Held = held_of s.blocks block in
    let answer : is_answer h stamp req mode ≡ true = and_second (is_promised s block stamp && (inc == s.inc)) (is_answer h stamp req mode) taken in
    (sound.each block).asks_clean (asks_by_want h (answered_want h.want req mode (and_first (is_wanted h.want req mode) (is_later stamp h.stamp) answer)))

fetched_clean : (s : TokensState) → IsSound s → (block : BlockId) → may_end_fetch (held_of s.blocks block) ≡ true → is_dirty (held_of s.blocks block) ≡ false
fetched_clean s sound block may =
    let h : Held = held_of s.blocks block in
    (sound.each block).asks_clean (or_second (is_some h.want) (is_some h.fetch) (and_first (is_some h.fetch) (is_none h.want) may))

module _ (P : BlockId → Option Giving → Type 0) (E : List ℕ → Type 0) (Q : BlockId → Held → Type 0) (life : ℕ) where
  abbrev pub Bears : TokensState → Type 0
  Bears s = Bearing P E Q life s.inc s.epochs s.blocks

  -- what an input has to bring: of a recall that it was sent, of a promise that it may be made; of what isn't clean then, or has no value, that the fact holds
  abbrev pub Allowed : In → Type 0
  Allowed (Granted block stamp inc req mode entry) = is_own mode ≡ true → (h : Held) → Q block h → Q block (held_own h stamp entry.ver)
  Allowed (Recalled block stamp keep) = P block (Some (record { stamp = stamp; keep = keep }))
  Allowed (Wrote block value) = (h : Held) → Q block h → Q block (held_write h value)
  Allowed (Settled block ver) = (h : Held) → Q block h → Q block (version_settled h ver)
  Allowed (Promise slot epoch) = (epochs : List ℕ) → E epochs → E (slice_set epochs slot epoch)
  Allowed _ = Unit {0}

  -- one block changes
  bears_with : (s : TokensState) → Bears s → (block : BlockId) (g : Held) → P block g.giving → Q block g → Bears (with_held s block g)
  bears_with s h block g here fact = record {
    life_is = h.life_is;
    promised = h.promised;
    giving = put_each (λ b k. P b k.giving) block g s.blocks here h.giving;
    held = put_each Q block g s.blocks fact h.held;
  }

  -- what holds after one of a kind of steps holds after all
  pub bears_steps : {A : Type 0} (step : TokensState → A → Done) → ((s : TokensState) (x : A) → Bears s → Bears (step s x).state)
      → (s : TokensState) (xs : List A) → Bears s → Bears (steps step s xs).state
  bears_steps step one s [] h = h
  bears_steps step one s (x ∷ xs) h = bears_steps step one (step s x).state xs (one s x h)

  module _ (stays : Stays Q) where
    -- the same version and value
    same_held : (s : TokensState) → Bears s → (block : BlockId) (g : Held) → P block g.giving → g.mode ≡ (held_of s.blocks block).mode
        → g.ver ≡ (held_of s.blocks block).ver
        → g.settled ≡ (held_of s.blocks block).settled → g.value ≡ (held_of s.blocks block).value → Bears (with_held s block g)
    same_held s h block g here mode ver settled value =
        bears_with s h block g here (stays.same block (held_of s.blocks block) g mode ver settled value (h.held block))

    pub ask-bears : (s : TokensState) (block : BlockId) (mode : Mode) → Bears s → Bears (tokens_ask s block mode).state
    unfolding tokens_ask
    ask-bears s block mode h =
        let g : Held = held_ask (held_of s.blocks block) (s.req + 1) mode in
        by_test (λ (d : Done). Bears d.state) (nat_lt s.req u32_end)
        (record { state = record (with_held s block g) { req = s.req + 1 }; outs = output.Want block (s.req + 1) 0 mode ∷ [] }) (still s)
        (λ t. asks (same_held s h block g (h.giving block) refl refl refl refl)) (λ t. h)
      where
        asks : Bears (with_held s block (held_ask (held_of s.blocks block) (s.req + 1) mode))
            → Bears (record (with_held s block (held_ask (held_of s.blocks block) (s.req + 1) mode)) { req = s.req + 1 })
        asks k = record { life_is = k.life_is; promised = k.promised; giving = k.giving; held = k.held }

    on_need-bears : (s : TokensState) (block : BlockId) (mode : Mode) → Bears s → Bears (on_need s block mode).state
    unfolding on_need
    on_need-bears s block mode h = by_test (λ (d : Done). Bears d.state) (must_ask (held_of s.blocks block) mode) (tokens_ask s block mode) (still s)
        (λ t. ask-bears s block mode h) (λ t. h)

    granted-bears : (block : BlockId) (h : Held) (stamp : Stamp) (mode : Mode) (entry : Entry) → P block h.giving
        → P block (take_grant h stamp mode entry).giving
    granted-bears block h stamp mode entry p =
        by_test (λ (g : Held). P block g.giving) (is_own mode) (held_own h stamp entry.ver) (take_copy h stamp entry.ver entry.place) (λ t. p)
        (λ t. by_place entry.place)
      where
        by_place : (place : Option Place) → P block (take_copy h stamp entry.ver place).giving
        by_place None = p
        by_place (Some place) = p

    granted-fact : (block : BlockId) (h : Held) (stamp : Stamp) (mode : Mode) (entry : Entry)
        → (is_own mode ≡ true → (h : Held) → Q block h → Q block (held_own h stamp entry.ver))
        → is_dirty h ≡ false → Q block h → Q block (take_grant h stamp mode entry)
    granted-fact block h stamp mode entry may clean q =
        by_test (Q block) (is_own mode) (held_own h stamp entry.ver) (take_copy h stamp entry.ver entry.place) (λ t. may t h q) (λ t. by_place entry.place)
      where
        by_place : (place : Option Place) → Q block (take_copy h stamp entry.ver place)
        by_place None = stays.clean block h (copy_of h stamp entry.ver None) clean (itself_clean entry.ver) (λ held. refl) q
        by_place (Some place) = stays.clean block h (fetch_from h stamp entry.ver place) clean clean (λ held. contrary held) q

    on_granted-bears : (s : TokensState) → IsSound s → (block : BlockId) (stamp : Stamp) (inc req : ℕ) (mode : Mode) (entry : Entry)
        → Allowed (Granted block stamp inc req mode entry) → Bears s → Bears (on_granted s block stamp inc req mode entry).state
    unfolding on_granted
    on_granted-bears s sound block stamp inc req mode entry may h =
        let g : Held = take_grant (held_of s.blocks block) stamp mode entry in
        by_test (λ (d : Done). Bears d.state) (accepts s block stamp inc req mode)
        (record { state = with_held s block g; outs = grant_next block mode entry.place ∷ [] }) (still s)
        (λ t. bears_with s h block g (granted-bears block (held_of s.blocks block) stamp mode entry (h.giving block))
        (granted-fact block (held_of s.blocks block) stamp mode entry may (asked_clean s sound block stamp inc req mode t) (h.held block))) (λ t. h)

    on_supplied-bears : (s : TokensState) → IsSound s → (block : BlockId) (stamp : Stamp) (inc req ver : ℕ) (value : Option (List ℕ)) → Bears s
        → Bears (on_supplied s block stamp inc req ver value).state
    unfolding on_supplied
    on_supplied-bears s sound block stamp inc req ver value h =
        let g : Held = copy_of (held_of s.blocks block) stamp ver value in
        by_test (λ (d : Done). Bears d.state) (accepts s block stamp inc req Copy) (record { state = with_held s block g; outs = output.Ready block ∷ [] })
        (still s)
        (λ t. bears_with s h block g (h.giving block)
        (stays.clean block (held_of s.blocks block) g (asked_clean s sound block stamp inc req Copy t) (itself_clean ver) (λ held. refl) (h.held block)))
        (λ t. h)

    on_forwarded-bears : (s : TokensState) (block : BlockId) (stamp : Stamp) (ver : ℕ) → Bears s → Bears (on_forwarded s block stamp ver).state
    unfolding on_forwarded
    on_forwarded-bears s block stamp ver h =
        by_test (λ (d : Done). Bears d.state) (serves s block stamp ver) (record { state = s; outs = supplies block ver (held_of s.blocks block).value })
        (still s) (λ t. h) (λ t. h)

    refetch-bears : (s : TokensState) (block : BlockId) → Bears s → Bears (refetch s block).state
    unfolding refetch
    refetch-bears s block h =
        let dropped : TokensState = with_held s block (unfetched (held_of s.blocks block)) in
        by_test (λ (d : Done). Bears d.state) (is_some (held_of s.blocks block).fetch) (tokens_ask dropped block Copy) (still s)
        (λ t. ask-bears dropped block Copy (same_held s h block (unfetched (held_of s.blocks block)) (h.giving block) refl refl refl refl)) (λ t. h)

    module _ (none : (b : BlockId) → P b None) where
      give-bears : (s : TokensState) (block : BlockId) (stamp : Stamp) (keep : Bool) → P block (Some (record { stamp = stamp; keep = keep })) → Bears s
          → Bears (give s block stamp keep).state
      unfolding give
      give-bears s block stamp keep sent h =
          let k : Held = held_of s.blocks block in
          by_test (λ (d : Done). Bears d.state) (is_dirty k)
          (record { state = with_held s block (put_off k stamp keep); outs = output.Flush block ∷ [] })
          (record { state = with_held s block (give_up k stamp keep); outs = output.Gave block stamp ∷ [] })
          (λ t. bears_with s h block (put_off k stamp keep)
          (by_test (λ (g : Held). P block g.giving) (gives_after k.giving stamp) k (record k { giving = Some (record { stamp = stamp; keep = keep }) })
          (λ u. h.giving block) (λ u. sent))
          (by_test (Q block) (gives_after k.giving stamp) k (record k { giving = Some (record { stamp = stamp; keep = keep }) }) (λ u. h.held block)
          (λ u. stays.same block k (record k { giving = Some (record { stamp = stamp; keep = keep }) }) refl refl refl refl (h.held block))))
          (λ t. bears_with s h block (give_up k stamp keep)
          (by_test (λ (g : Held). P block g.giving) (keep && is_held k.mode) (record k { mode = Copy; stamp = stamp; giving = None })
          (record k { mode = Nothing; value = None; stamp = stamp; giving = None }) (λ u. none block) (λ u. none block))
          (by_test (Q block) (keep && is_held k.mode) (record k { mode = Copy; stamp = stamp; giving = None })
          (record k { mode = Nothing; value = None; stamp = stamp; giving = None })
          (λ u. stays.lowers block k (record k { mode = Copy; stamp = stamp; giving = None }) (and_second keep (is_held k.mode) u) t refl refl refl
          (h.held block))
          (λ u. stays.clean block k (record k { mode = Nothing; value = None; stamp = stamp; giving = None }) t t (λ held. contrary held) (h.held block))))

      recalled_above-bears : (s : TokensState) (block : BlockId) (stamp : Stamp) (keep : Bool) → P block (Some (record { stamp = stamp; keep = keep }))
          → Bears s → Bears (recalled_above s block stamp keep).state
      unfolding recalled_above
      recalled_above-bears s block stamp keep sent h =
          by_test (λ (d : Done). Bears d.state) (can_refetch s block) (saying (refetch s block).outs (give (refetch s block).state block stamp keep)) (still s)
          (λ t. give-bears (refetch s block).state block stamp keep sent (refetch-bears s block h)) (λ t. h)

      recalled_again-bears : (s : TokensState) (block : BlockId) (stamp : Stamp) → Bears s → Bears (recalled_again s block stamp).state
      unfolding recalled_again
      recalled_again-bears s block stamp h =
          by_test (λ (d : Done). Bears d.state) (was_answered (held_of s.blocks block) stamp) (record { state = s; outs = output.Gave block stamp ∷ [] })
          (still s) (λ t. h) (λ t. h)

      recalled-bears : (s : TokensState) (block : BlockId) (stamp : Stamp) (keep : Bool) → P block (Some (record { stamp = stamp; keep = keep })) → Bears s
          → Bears (recalled s block stamp keep).state
      unfolding recalled
      recalled-bears s block stamp keep sent h =
          by_test (λ (d : Done). Bears d.state) (is_later stamp (held_of s.blocks block).stamp) (recalled_above s block stamp keep)
          (recalled_again s block stamp)
          (λ t. recalled_above-bears s block stamp keep sent h) (λ t. recalled_again-bears s block stamp h)

      on_recalled-bears : (s : TokensState) (block : BlockId) (stamp : Stamp) (keep : Bool) → P block (Some (record { stamp = stamp; keep = keep })) → Bears s
          → Bears (on_recalled s block stamp keep).state
      unfolding on_recalled
      on_recalled-bears s block stamp keep sent h =
          by_test (λ (d : Done). Bears d.state) (is_promised s block stamp) (recalled s block stamp keep) (still s)
          (λ t. recalled-bears s block stamp keep sent h) (λ t. h)

      raised-bears : (s : TokensState) (slot epoch : ℕ) → ((epochs : List ℕ) → E epochs → E (slice_set epochs slot epoch)) → Bears s
          → Bears (raised s slot epoch)
      raised-bears s slot epoch may h = record {
        life_is = h.life_is;
        promised = may s.epochs h.promised;
        giving = λ b. subst (λ (g : Held). P b g.giving) (sym (dropped-known s slot b)) (dropped b (held_of s.blocks b) (h.giving b));
        held = λ b. subst (Q b) (sym (dropped-known s slot b)) (fact b (held_of s.blocks b) (h.held b));
      }
        where
          dropped : (b : BlockId) (k : Held) → P b k.giving → P b (drop_in slot b k).giving
          dropped b k p = by_test (λ (g : Held). P b g.giving) (is_in_slot slot b) (drop_promised k) k (λ t. none b) (λ t. p)

          fact : (b : BlockId) (k : Held) → Q b k → Q b (drop_in slot b k)
          fact b k q = by_test (Q b) (is_in_slot slot b) (drop_promised k) k (λ t. stays.same b k (drop_promised k) refl refl refl refl q) (λ t. q)

      on_promise-bears : (s : TokensState) (slot epoch : ℕ) → ((epochs : List ℕ) → E epochs → E (slice_set epochs slot epoch)) → Bears s
          → Bears (on_promise s slot epoch).state
      unfolding on_promise
      on_promise-bears s slot epoch may h =
          by_test (λ (d : Done). Bears d.state) (may_promise s slot epoch) (steps ask_copy (raised s slot epoch) (fetched_blocks slot s.blocks)) (still s)
          (λ t. bears_steps ask_copy (λ u b. ask-bears u b Copy) (raised s slot epoch) (fetched_blocks slot s.blocks) (raised-bears s slot epoch may h)) (λ t. h)

    on_wrote-bears : (s : TokensState) (block : BlockId) (value : Option (List ℕ)) → Allowed (Wrote block value) → Bears s
        → Bears (on_wrote s block value).state
    unfolding on_wrote
    on_wrote-bears s block value may h =
        let g : Held = held_write (held_of s.blocks block) value in
        by_test (λ (d : Done). Bears d.state) (may_write (held_of s.blocks block)) (still (with_held s block g)) (still s)
        (λ t. bears_with s h block g (h.giving block) (may (held_of s.blocks block) (h.held block))) (λ t. h)

    pub on_settled-bears : (s : TokensState) (block : BlockId) (ver : ℕ) → Allowed (Settled block ver) → Bears s → Bears (on_settled s block ver).state
    unfolding on_settled
    on_settled-bears s block ver may h =
        let g : Held = version_settled (held_of s.blocks block) ver in
        by_test (λ (d : Done). Bears d.state) (is_settled_by (held_of s.blocks block) ver) (still (with_held s block g)) (still s)
        (λ t. bears_with s h block g (h.giving block) (may (held_of s.blocks block) (h.held block))) (λ t. h)

    on_fetched-bears : (s : TokensState) → IsSound s → (block : BlockId) (value : Option (List ℕ)) → Bears s → Bears (on_fetched s block value).state
    unfolding on_fetched
    on_fetched-bears s sound block value h =
        let k : Held = held_of s.blocks block in
        by_test (λ (d : Done). Bears d.state) (may_end_fetch k)
        (record { state = with_held s block (end_fetch k k.fetch value); outs = output.Ready block ∷ [] }) (still s)
        (λ t. bears_with s h block (end_fetch k k.fetch value) (by_fetch k (h.giving block) k.fetch)
        (fact k (fetched_clean s sound block t) (h.held block) k.fetch)) (λ t. h)
      where
        fact : (k : Held) → is_dirty k ≡ false → Q block k → (fetch : Option Fetch) → Q block (end_fetch k fetch value)
        fact k clean q None = q
        fact k clean q (Some fetch) = stays.clean block k (end_fetch k (Some fetch) value) clean (itself_clean fetch.ver) (λ held. refl) q

        by_fetch : (k : Held) → P block k.giving → (fetch : Option Fetch) → P block (end_fetch k fetch value).giving
        by_fetch k p None = p
        by_fetch k p (Some fetch) = p

    on_evict-bears : (s : TokensState) (block : BlockId) → Bears s → Bears (on_evict s block).state
    unfolding on_evict
    on_evict-bears s block h =
        let g : Held = let_go (held_of s.blocks block) in
        by_test (λ (d : Done). Bears d.state) (may_evict (held_of s.blocks block)) (still (with_held s block g)) (still s)
        (λ t. bears_with s h block g (h.giving block)
        (stays.clean block (held_of s.blocks block) g (is_clean (held_of s.blocks block) t) (is_clean (held_of s.blocks block) t) (λ held. contrary held)
        (h.held block))) (λ t. h)
      where
        is_clean : (k : Held) → may_evict k ≡ true → is_dirty k ≡ false
        is_clean k t = not_true (is_dirty k) (and_second (is_held k.mode) (not (is_dirty k)) t)

    on_reask-bears : (s : TokensState) (block : BlockId) → Bears s → Bears (on_reask s block).state
    unfolding on_reask
    on_reask-bears s block h = by_test (λ (d : Done). Bears d.state) (is_some (held_of s.blocks block).fetch) (tokens_ask s block Copy) (still s)
        (λ t. ask-bears s block Copy h) (λ t. h)

    on_quit-bears : (s : TokensState) (block : BlockId) → Bears s → Bears (on_quit s block).state
    unfolding on_quit
    on_quit-bears s block h =
        let g : Held = quit (held_of s.blocks block) in
        by_test (λ (d : Done). Bears d.state) (is_asking (held_of s.blocks block)) (still (with_held s block g)) (still s)
        (λ t. same_held s h block g (h.giving block) refl refl refl refl) (λ t. h)

    ask_again-bears : (s : TokensState) (block : BlockId) → Bears s → Bears (ask_again s block).state
    unfolding ask_again
    ask_again-bears s block h =
        by_test (λ (d : Done). Bears d.state) (is_spent (held_of s.blocks block).want) (still s) (repeated s block (held_of s.blocks block).want) (λ t. h)
        (λ t. by_want (held_of s.blocks block).want)
      where
        by_want : (want : Option Wanted) → Bears (repeated s block want).state
        by_want None = h
        by_want (Some w) = same_held s h block (asked_again (held_of s.blocks block) w) (h.giving block) refl refl refl refl

    on_tick-bears : (s : TokensState) → Bears s → Bears (on_tick s).state
    unfolding on_tick
    on_tick-bears s h =
        by_test (λ (d : Done). Bears d.state) (list_any (λ k. is_spent k.want) (values_of s.blocks)) (still s) (steps ask_again s (wanted_blocks s.blocks))
        (λ t. h) (λ t. bears_steps ask_again (λ u b. ask_again-bears u b) s (wanted_blocks s.blocks) h)

    -- each input leaves what is borne
    pub transition-bears : ((b : BlockId) → P b None) → (s : TokensState) → IsSound s → (i : In) → Allowed i → Bears s → Bears (transition s i).state
    transition-bears none s sound (Need block mode) may h = on_need-bears s block mode h
    transition-bears none s sound (Granted block stamp inc req mode entry) may h = on_granted-bears s sound block stamp inc req mode entry may h
    transition-bears none s sound (Supplied block stamp inc req ver value) may h = on_supplied-bears s sound block stamp inc req ver value h
    transition-bears none s sound (Forwarded block stamp ver) may h = on_forwarded-bears s block stamp ver h
    transition-bears none s sound (Recalled block stamp keep) may h = on_recalled-bears none s block stamp keep may h
    transition-bears none s sound (Wrote block value) may h = on_wrote-bears s block value may h
    transition-bears none s sound (Settled block ver) may h = on_settled-bears s block ver may h
    transition-bears none s sound (Fetched block value) may h = on_fetched-bears s sound block value h
    transition-bears none s sound (Evict block) may h = on_evict-bears s block h
    transition-bears none s sound (Reask block) may h = on_reask-bears s block h
    transition-bears none s sound (Quit block) may h = on_quit-bears s block h
    transition-bears none s sound (Promise slot epoch) may h = on_promise-bears none s slot epoch may h
    transition-bears none s sound Tick may h = on_tick-bears s h
