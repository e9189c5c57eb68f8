-- What a client asks for stays as it is needed, on each input of its tokens; and only a grant has a block read.
use Rattle.std.proofs.Common.{◌≡◌, ℕ, ◌+◌, Bool, true, false, ◌&&◌, ◌==◌, not, List, [], ◌∷◌, ◌++◌, Option, Some, None, is_some, is_none, refl, sym, ap, subst, ◌∙◌, nat_lt}
use Rattle.std.specs.List.{list_any}
use Rattle.std.specs.Map.{values_of}
use Rattle.xfs_base.specs.declared.block.BlockId.{BlockId}
use Rattle.xfs_base.specs.declared.token.Mode.{Mode}
use Rattle.xfs_base.specs.declared.token.Mode.TheVariants.{Copy}
use Rattle.xfs_base.specs.declared.token.Stamp.{Stamp}
use Rattle.xfs_base.specs.Modes.{allows, is_held}
use Rattle.xfs_base.specs.Stamps.{is_later}
use Rattle.xfs_base.specs.Steps.{still, saying, steps}
use Rattle.xfs_base.proofs.Booleans.{by_test, and_first, and_second, not_true}
use Rattle.xfs_base.specs.Limits.{u32_end}
use Rattle.token_client.specs.declared.held.Held.{Held}
use Rattle.token_client.specs.declared.held.Wanted.{Wanted}
use Rattle.token_client.specs.declared.output.Out.{Out}
use Rattle.token_client.specs.declared.output.Out.TheVariants.{Want, Gave, Flush, Read, Ready}
use Rattle.token_client.specs.Held.{is_dirty, is_asking, must_ask, is_wanted, is_answer, may_write, is_settled_by, may_end_fetch, may_evict, held_ask, asked_again, copy_of, end_fetch, held_write, version_settled, let_go, quit, unfetched, drop_promised, put_off, give_up}
use Rattle.token_client.specs.Laws.{IsSound}
use Rattle.token_client.specs.State.{TokensState, held_of, with_held, is_in_slot}
use Rattle.token_client.specs.Transition.{Done, tokens_ask, on_need, accepts, is_promised, on_supplied, serves, supplies, on_forwarded, refetch, give, can_refetch, recalled_above, was_answered, recalled_again, recalled, on_recalled, on_wrote, on_settled, on_fetched, on_evict, on_reask, on_quit, fetched_blocks, raised, ask_copy, may_promise, on_promise, is_spent, repeated, ask_again, wanted_blocks, on_tick}
use Rattle.token_client.proofs.Promises.{Each, Each-weaker, IsFetched, agrees-itself, dropped-known, fetched-facts}
use Rattle.token_client.proofs.Tables.{held_of-put_itself, put_each, put_same}
use Rattle.node_slots.proofs.node_tie.AsksBlock.{Need, Suits, WantSuits, held_ask-suits, asked_again-suits, copy_of-suits, end_fetch-suits, fetch_needed, give_up-suits, let_go-suits, drop_promised-suits, put_off-suits, quit-suits, unfetched-suits, version_settled-suits, held_write-suits}

-- what all blocks ask for is as needed
abbrev pub AllSuit : Need → TokensState → Type 0
AllSuit n t = (b : BlockId) → Suits n b (held_of t.blocks b)

-- has no block read
abbrev pub IsQuiet : Out → Type 0
IsQuiet (Read block place) = ⊥
IsQuiet _ = Unit {0}

-- a step leaves what is asked for as needed, and has no block read
pub record GoesOn (n : Need) (d : Done) : Type 0 where
  pub suits : AllSuit n d.state
  pub quiet : Each IsQuiet d.outs

each_append : {A : Type 0} (P : A → Type 0) (xs ys : List A) → Each P xs → Each P ys → Each P (xs ++ ys)
each_append P [] ys p q = q
each_append P (x ∷ xs) ys p q = (p.0, each_append P xs ys p.1 q)

quiet_steps : {A : Type 0} (step : TokensState → A → Done) → ((s : TokensState) (x : A) → Each IsQuiet (step s x).outs) → (s : TokensState) (xs : List A)
    → Each IsQuiet (steps step s xs).outs
quiet_steps step one s [] = tt
quiet_steps step one s (x ∷ xs) = each_append IsQuiet (step s x).outs (steps step (step s x).state xs).outs (one s x) (quiet_steps step one (step s x).state xs)

module _ (n : Need) where
  -- one block is put that suits
  pub put-suits : (s : TokensState) → AllSuit n s → (block : BlockId) (g : Held) → Suits n block g → AllSuit n (with_held s block g)
  put-suits s p block g here = put_each (Suits n) block g s.blocks here p

  ask-quiet : (s : TokensState) (block : BlockId) (mode : Mode) → Each IsQuiet (tokens_ask s block mode).outs
  unfolding tokens_ask
  ask-quiet s block mode =
      let h : Held = held_of s.blocks block in
      by_test (λ (d : Done). Each IsQuiet d.outs) (nat_lt s.req u32_end)
      (record { state = record (with_held s block (held_ask h (s.req + 1) mode)) { req = s.req + 1 }; outs = Want block (s.req + 1) 0 mode ∷ [] })
      (still s) (λ t. (tt, tt)) (λ t. tt)

  -- a want of what is needed may be opened, where the mode that is held is below
  ask-suits : (s : TokensState) → AllSuit n s → (block : BlockId) (mode : Mode) → n ≡ Some (block, mode) → allows (held_of s.blocks block).mode mode ≡ false
      → AllSuit n (tokens_ask s block mode).state
  unfolding tokens_ask
  ask-suits s p block mode fact above =
      let h : Held = held_of s.blocks block in
      by_test (λ (d : Done). AllSuit n d.state) (nat_lt s.req u32_end)
      (record { state = record (with_held s block (held_ask h (s.req + 1) mode)) { req = s.req + 1 }; outs = Want block (s.req + 1) 0 mode ∷ [] })
      (still s) (λ t. put-suits s p block (held_ask h (s.req + 1) mode) (held_ask-suits n block h (p block) (s.req + 1) mode fact above)) (λ t. p)

  ask_copy-quiet : (s : TokensState) (block : BlockId) → Each IsQuiet (ask_copy s block).outs
  ask_copy-quiet s block = ask-quiet s block Copy

  ask-goes_on : (s : TokensState) → AllSuit n s → (block : BlockId) (mode : Mode) → n ≡ Some (block, mode) → allows (held_of s.blocks block).mode mode ≡ false
      → GoesOn n (tokens_ask s block mode)
  ask-goes_on s p block mode fact above = record { suits = ask-suits s p block mode fact above; quiet = ask-quiet s block mode }

  module _ (s : TokensState) (sound : IsSound s) (p : AllSuit n s) where
    stays : GoesOn n (still s)
    stays = record { suits = p; quiet = tt }

    puts : (block : BlockId) (g : Held) → Suits n block g → GoesOn n (still (with_held s block g))
    puts block g here = record { suits = put-suits s p block g here; quiet = tt }

    pub on_need-goes_on : (block : BlockId) (mode : Mode) → n ≡ Some (block, mode) → GoesOn n (on_need s block mode)
    unfolding on_need
    on_need-goes_on block mode fact =
        let h : Held = held_of s.blocks block in
        by_test (GoesOn n) (must_ask h mode) (tokens_ask s block mode) (still s)
        (λ t. ask-goes_on s p block mode fact (not_true (allows h.mode mode) (and_second (not (is_asking h) && is_none h.giving) (not (allows h.mode mode)) t)))
        (λ t. stays)

    pub answers_want : (block : BlockId) (stamp : Stamp) (inc req : ℕ) (mode : Mode) → accepts s block stamp inc req mode ≡ true
        → is_wanted (held_of s.blocks block).want req mode ≡ true
    answers_want block stamp inc req mode t =
        let h : Held = held_of s.blocks block in
        and_first (is_wanted h.want req mode) (is_later stamp h.stamp) (and_second (is_promised s block stamp && (inc == s.inc)) (is_answer h stamp req mode) t)

    pub on_supplied-goes_on : (block : BlockId) (stamp : Stamp) (inc req ver : ℕ) (value : Option (List ℕ))
        → GoesOn n (on_supplied s block stamp inc req ver value)
    unfolding on_supplied
    on_supplied-goes_on block stamp inc req ver value =
        let h : Held = held_of s.blocks block in
        by_test (GoesOn n) (accepts s block stamp inc req Copy) (record { state = with_held s block (copy_of h stamp ver value); outs = Ready block ∷ [] })
        (still s)
        (λ t. record { suits = put-suits s p block (copy_of h stamp ver value) (copy_of-suits n block h (p block) stamp ver value); quiet = (tt, tt) })
        (λ t. stays)

    supplies-quiet : (block : BlockId) (ver : ℕ) (value : Option (Option (List ℕ))) → Each IsQuiet (supplies block ver value)
    supplies-quiet block ver None = tt
    supplies-quiet block ver (Some value) = (tt, tt)

    pub on_forwarded-goes_on : (block : BlockId) (stamp : Stamp) (ver : ℕ) → GoesOn n (on_forwarded s block stamp ver)
    unfolding on_forwarded
    on_forwarded-goes_on block stamp ver =
        let value : Option (Option (List ℕ)) = (held_of s.blocks block).value in
        by_test (GoesOn n) (serves s block stamp ver) (record { state = s; outs = supplies block ver value }) (still s)
        (λ t. record { suits = p; quiet = supplies-quiet block ver value }) (λ t. stays)

    -- what is fetched isn't held
    fetched_below : (block : BlockId) → is_some (held_of s.blocks block).fetch ≡ true → is_held (held_of s.blocks block).mode ≡ false
    fetched_below block t = (sound.each block).fetch_unheld t

    refetch-goes_on : (block : BlockId) → GoesOn n (refetch s block)
    unfolding refetch
    refetch-goes_on block =
        let h : Held = held_of s.blocks block in
        let dropped : TokensState = with_held s block (unfetched h) in
        by_test (GoesOn n) (is_some h.fetch) (tokens_ask dropped block Copy) (still s)
        (λ t.
        ask-goes_on dropped (put-suits s p block (unfetched h) (unfetched-suits n block h (p block))) block Copy
        (fetch_needed n block h.fetch (p block).fetch t)
        (ap (λ (g : Held). is_held g.mode) (held_of-put_itself block (unfetched h) s.blocks) ∙ fetched_below block t)) (λ t. stays)

    recalled_again-goes_on : (block : BlockId) (stamp : Stamp) → GoesOn n (recalled_again s block stamp)
    unfolding recalled_again
    recalled_again-goes_on block stamp =
        by_test (GoesOn n) (was_answered (held_of s.blocks block) stamp) (record { state = s; outs = Gave block stamp ∷ [] }) (still s)
        (λ t. record { suits = p; quiet = (tt, tt) }) (λ t. stays)

    pub on_wrote-goes_on : (block : BlockId) (value : Option (List ℕ)) → GoesOn n (on_wrote s block value)
    unfolding on_wrote
    on_wrote-goes_on block value =
        let h : Held = held_of s.blocks block in
        by_test (GoesOn n) (may_write h) (still (with_held s block (held_write h value))) (still s)
        (λ t. puts block (held_write h value) (held_write-suits n block h (p block) value)) (λ t. stays)

    pub on_settled-goes_on : (block : BlockId) (ver : ℕ) → GoesOn n (on_settled s block ver)
    unfolding on_settled
    on_settled-goes_on block ver =
        let h : Held = held_of s.blocks block in
        by_test (GoesOn n) (is_settled_by h ver) (still (with_held s block (version_settled h ver))) (still s)
        (λ t. puts block (version_settled h ver) (version_settled-suits n block h (p block) ver)) (λ t. stays)

    pub on_fetched-goes_on : (block : BlockId) (value : Option (List ℕ)) → GoesOn n (on_fetched s block value)
    unfolding on_fetched
    on_fetched-goes_on block value =
        let h : Held = held_of s.blocks block in
        by_test (GoesOn n) (may_end_fetch h) (record { state = with_held s block (end_fetch h h.fetch value); outs = Ready block ∷ [] }) (still s)
        (λ t. record {
          suits =
              put-suits s p block (end_fetch h h.fetch value)
              (end_fetch-suits n block h (p block) h.fetch value (and_second (is_some h.fetch) (is_none h.want) t));
          quiet = (tt, tt);
        }) (λ t. stays)

    pub on_evict-goes_on : (block : BlockId) → GoesOn n (on_evict s block)
    unfolding on_evict
    on_evict-goes_on block =
        let h : Held = held_of s.blocks block in
        by_test (GoesOn n) (may_evict h) (still (with_held s block (let_go h))) (still s) (λ t. puts block (let_go h) (let_go-suits n block h (p block)))
        (λ t. stays)

    pub on_reask-goes_on : (block : BlockId) → GoesOn n (on_reask s block)
    unfolding on_reask
    on_reask-goes_on block =
        let h : Held = held_of s.blocks block in
        by_test (GoesOn n) (is_some h.fetch) (tokens_ask s block Copy) (still s)
        (λ t. ask-goes_on s p block Copy (fetch_needed n block h.fetch (p block).fetch t) (fetched_below block t)) (λ t. stays)

    pub on_quit-goes_on : (block : BlockId) → GoesOn n (on_quit s block)
    unfolding on_quit
    on_quit-goes_on block =
        let h : Held = held_of s.blocks block in
        by_test (GoesOn n) (is_asking h) (still (with_held s block (quit h))) (still s) (λ t. puts block (quit h) (quit-suits n block h (p block)))
        (λ t. stays)

  -- ---- recalls

  give-goes_on : (s : TokensState) → AllSuit n s → (block : BlockId) (stamp : Stamp) (keep : Bool) → GoesOn n (give s block stamp keep)
  unfolding give
  give-goes_on s p block stamp keep =
      let h : Held = held_of s.blocks block in
      by_test (GoesOn n) (is_dirty h)
      (record { state = with_held s block (put_off h stamp keep); outs = Flush block ∷ [] })
      (record { state = with_held s block (give_up h stamp keep); outs = Gave block stamp ∷ [] })
      (λ t. record { suits = put-suits s p block (put_off h stamp keep) (put_off-suits n block h (p block) stamp keep); quiet = (tt, tt) })
      (λ t. record { suits = put-suits s p block (give_up h stamp keep) (give_up-suits n block h (p block) stamp keep); quiet = (tt, tt) })

  module _ (s : TokensState) (sound : IsSound s) (p : AllSuit n s) where
    recalled_above-goes_on : (block : BlockId) (stamp : Stamp) (keep : Bool) → GoesOn n (recalled_above s block stamp keep)
    unfolding recalled_above
    recalled_above-goes_on block stamp keep =
        let one : Done = refetch s block in
        let two : Done = give one.state block stamp keep in
        let first : GoesOn n one = refetch-goes_on s sound p block in
        let second : GoesOn n two = give-goes_on one.state first.suits block stamp keep in
        by_test (GoesOn n) (can_refetch s block) (saying one.outs two) (still s)
        (λ t. record { suits = second.suits; quiet = each_append IsQuiet one.outs two.outs first.quiet second.quiet }) (λ t. stays s sound p)

    pub on_recalled-goes_on : (block : BlockId) (stamp : Stamp) (keep : Bool) → GoesOn n (on_recalled s block stamp keep)
    unfolding on_recalled recalled
    on_recalled-goes_on block stamp keep =
        by_test (GoesOn n) (is_promised s block stamp) (recalled s block stamp keep) (still s)
        (λ t. by_test (GoesOn n) (is_later stamp (held_of s.blocks block).stamp) (recalled_above s block stamp keep) (recalled_again s block stamp)
        (λ above. recalled_above-goes_on block stamp keep) (λ below. recalled_again-goes_on s sound p block stamp)) (λ t. stays s sound p)

  -- ---- ticks

  repeated-suits : (s : TokensState) → AllSuit n s → (block : BlockId) (w : Option Wanted) → WantSuits n block (held_of s.blocks block).mode w
      → AllSuit n (repeated s block w).state
  repeated-suits s p block None q = p
  repeated-suits s p block (Some w) q =
      put-suits s p block (asked_again (held_of s.blocks block) w) (asked_again-suits n block (held_of s.blocks block) (p block) w q)

  repeated-quiet : (s : TokensState) (block : BlockId) (w : Option Wanted) → Each IsQuiet (repeated s block w).outs
  repeated-quiet s block None = tt
  repeated-quiet s block (Some w) = (tt, tt)

  ask_again-suits : (s : TokensState) (block : BlockId) → AllSuit n s → AllSuit n (ask_again s block).state
  unfolding ask_again
  ask_again-suits s block p =
      let want : Option Wanted = (held_of s.blocks block).want in
      by_test (λ (d : Done). AllSuit n d.state) (is_spent want) (still s) (repeated s block want) (λ t. p) (λ t. repeated-suits s p block want (p block).want)

  ask_again-quiet : (s : TokensState) (block : BlockId) → Each IsQuiet (ask_again s block).outs
  unfolding ask_again
  ask_again-quiet s block =
      let want : Option Wanted = (held_of s.blocks block).want in
      by_test (λ (d : Done). Each IsQuiet d.outs) (is_spent want) (still s) (repeated s block want) (λ t. tt) (λ t. repeated-quiet s block want)

  asks_again-suits : (s : TokensState) (blocks : List BlockId) → AllSuit n s → AllSuit n (steps ask_again s blocks).state
  asks_again-suits s [] p = p
  asks_again-suits s (b ∷ bs) p = asks_again-suits (ask_again s b).state bs (ask_again-suits s b p)

  pub on_tick-goes_on : (s : TokensState) → AllSuit n s → GoesOn n (on_tick s)
  unfolding on_tick
  on_tick-goes_on s p =
      by_test (GoesOn n) (list_any (λ h. is_spent h.want) (values_of s.blocks)) (still s) (steps ask_again s (wanted_blocks s.blocks))
      (λ t. record { suits = p; quiet = tt })
      (λ t. record { suits = asks_again-suits s (wanted_blocks s.blocks) p; quiet = quiet_steps ask_again ask_again-quiet s (wanted_blocks s.blocks) })

  -- ---- promises

  -- a copy of the block is needed, and none is held
  abbrev IsFree : TokensState → BlockId → Type 0
  IsFree s b = (n ≡ Some (b, Copy)) × (is_held (held_of s.blocks b).mode ≡ false)

  ask-free : (s : TokensState) (block b : BlockId) → IsFree s b → IsFree (tokens_ask s block Copy).state b
  unfolding tokens_ask
  ask-free s block b free =
      let g : Held = held_ask (held_of s.blocks block) (s.req + 1) Copy in
      by_test (λ (d : Done). IsFree d.state b) (nat_lt s.req u32_end)
      (record { state = record (with_held s block g) { req = s.req + 1 }; outs = Want block (s.req + 1) 0 Copy ∷ [] }) (still s)
      (λ t. (free.0, put_same (λ (h : Held). is_held h.mode) b block g s.blocks refl ∙ free.1)) (λ t. free)

  asks-suit : (s : TokensState) → AllSuit n s → (blocks : List BlockId) → Each (IsFree s) blocks → AllSuit n (steps ask_copy s blocks).state
  asks-suit s p [] free = p
  asks-suit s p (b ∷ bs) free =
      let t : TokensState = (tokens_ask s b Copy).state in
      asks-suit t (ask-suits s p b Copy free.0.0 free.0.1) bs (Each-weaker (IsFree s) (IsFree t) (λ c. ask-free s b c) bs free.1)

  module _ (s : TokensState) (sound : IsSound s) (p : AllSuit n s) (slot epoch : ℕ) where
    dropped-suits : (b : BlockId) → Suits n b (held_of (raised s slot epoch).blocks b)
    dropped-suits b =
        let h : Held = held_of s.blocks b in
        subst (Suits n b) (sym (dropped-known s slot b))
        (by_test (Suits n b) (is_in_slot slot b) (drop_promised h) h (λ t. drop_promised-suits n b h (p b)) (λ t. p b))

    dropped-mode : (b : BlockId) → (held_of (raised s slot epoch).blocks b).mode ≡ (held_of s.blocks b).mode
    dropped-mode b =
        let h : Held = held_of s.blocks b in
        ap (λ (g : Held). g.mode) (dropped-known s slot b) ∙ by_test (λ (g : Held). g.mode ≡ h.mode) (is_in_slot slot b) (drop_promised h) h (λ t. refl)
        (λ t. refl)

    fetched-free : (b : BlockId) → IsFetched s.blocks slot b → IsFree (raised s slot epoch) b
    fetched-free b f = (fetch_needed n b (held_of s.blocks b).fetch (p b).fetch f.1, ap is_held (dropped-mode b) ∙ fetched_below s sound p b f.1)

    pub on_promise-goes_on : GoesOn n (on_promise s slot epoch)
    unfolding on_promise
    on_promise-goes_on =
        let risen : TokensState = raised s slot epoch in
        let blocks : List BlockId = fetched_blocks slot s.blocks in
        let facts : Each (IsFetched s.blocks slot) blocks = fetched-facts s.blocks slot s.blocks (agrees-itself s.blocks sound.sorted) in
        by_test (GoesOn n) (may_promise s slot epoch) (steps ask_copy risen blocks) (still s)
        (λ t. record {
          suits = asks-suit risen dropped-suits blocks (Each-weaker (IsFetched s.blocks slot) (IsFree risen) fetched-free blocks facts);
          quiet = quiet_steps ask_copy ask_copy-quiet risen blocks;
        }) (λ t. stays s sound p)
