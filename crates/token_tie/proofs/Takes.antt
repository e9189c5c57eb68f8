-- Inputs of this block: each is taken by steps of the client.
use Rattle.std.proofs.Common.{◌≡◌, ℕ, ◌+◌, ◌==◌, ◌<◌, Bool, true, false, ◌&&◌, not, List, [], ◌∷◌, Option, Some, None, is_some, is_none, refl, sym, ap, subst, ◌∙◌, arith, nat_lt}
use Rattle.std.specs.Ordering.{eq_by_cmp}
use Rattle.std.specs.Prelude.{if◌then◌else◌}
use Rattle.std.proofs.lemmas.Bool.Decides.{nat_tests}
use Rattle.xfs_base.specs.declared.block.BlockId.{BlockId}
use Rattle.xfs_base.specs.declared.entry.Entry.{Entry}
use Rattle.xfs_base.specs.declared.entry.Place.{Place}
use Rattle.xfs_base.specs.declared.token.Mode.{Mode}
use Rattle.xfs_base.specs.declared.token.Mode.TheVariants.{Nothing, Copy, Own}
use Rattle.xfs_base.specs.declared.token.Stamp.{Stamp}
use Rattle.std.proofs.lemmas.Map.Views.{tells_apart}
use Rattle.xfs_base.specs.Blocks.{block_cmp}
use Rattle.xfs_base.proofs.BlockOrder.{block_cmp_exact}
use Rattle.xfs_base.specs.Steps.{still, saying}
use Rattle.token_client.specs.declared.held.Fetch.{Fetch}
use Rattle.token_client.specs.declared.held.Held.{Held}
use Rattle.token_client.specs.declared.held.Wanted.{Wanted}
use Rattle.token_client.specs.declared.output.Out.{Out}
use Rattle.token_client.specs.declared.output.Out.TheVariants.{Want, Read, Ready}
use Rattle.token_client.specs.Held.{is_asking, must_ask, is_answer, is_wanted, is_dirty, may_write, is_settled_by, may_end_fetch, may_evict, held_ask, asked_again, held_own, take_copy, take_grant, copy_of, end_fetch, held_write, version_settled, let_go, quit}
use Rattle.token_client.specs.State.{TokensState, held_of, with_held}
use Rattle.token_client.specs.Transition.{Done, is_promised, tokens_ask, on_need, accepts, copy_next, grant_next, on_granted, on_supplied, serves, supplies, on_forwarded, on_wrote, on_settled, on_fetched, on_evict, on_reask, on_quit, is_spent, repeated, ask_again}
use Rattle.token_client.proofs.SoundBlocks.{asks_by_want}
use Rattle.token_client.proofs.Tables.{held_of-put_itself}
use Rattle.token_protocol.specs.Acts.{Act}
use Rattle.token_protocol.specs.Acts.Act.{Wrote as WroteBlock}
use Rattle.token_protocol.specs.Premises.{Premise, SettledEnd, PlaceRead}
use Rattle.token_protocol.specs.World.{World}
use Rattle.token_tie.specs.Seen.{Setting, Local, Shows, SentOffer, local_of, located, entry_seen}
use Rattle.xfs_base.specs.Modes.{allows, is_held, is_own, mode_number}
use Rattle.token_tie.specs.Taken.{AllSaid, Acts, Acted, Took}
use Rattle.token_tie.proofs.Taken.{Goes}
use Rattle.token_tie.specs.Inputs as laws
use Rattle.token_tie.proofs.Frames.{goes_nowhere, goes_saying, goes_through, shown_on}
use Rattle.token_tie.proofs.Leaves.{meets, taking, drops_want-goes, drops_fetch-goes, asks-goes, asks_again-goes, absent-goes, place-goes, supplied-goes, first-goes, declines-goes, fetches-goes, writes-goes, evicts-goes}
use Rattle.xfs_base.specs.Stamps.{is_later}
use Rattle.xfs_base.proofs.Booleans.{and_first, and_second, by_test, contrary, not_true}
use Rattle.xfs_base.specs.Limits.{u32_end, u64_end}

one_block : (b k : BlockId) → eq_by_cmp block_cmp b k ≡ true → b ≡ k
one_block b k same = tells_apart block_cmp_exact b k same

-- by which block an input is of
pub at_block : (g : Setting) (P : BlockId → Type 0) → P g.block → ((block : BlockId) → (block ≡ g.block → ⊥) → P block) → (block : BlockId) → P block
at_block g P here there block =
    elim (eq_by_cmp block_cmp g.block block) as (λ t. eq_by_cmp block_cmp g.block block ≡ t → P block) [
      | true ↦ λ same. subst P (one_block g.block block same) here
      | false ↦ λ differs. there block (λ fact. contrary (sym differs ∙ subst (λ k. eq_by_cmp block_cmp g.block k ≡ true) (sym fact) (itself g.block)))
    ] refl
  where
    itself : (b : BlockId) → eq_by_cmp block_cmp b b ≡ true
    itself b = grind (arith, nat_tests)

some_is : {A : Type 0} (o : Option A) → is_some o ≡ true → (x : A) × (o ≡ Some x)
some_is None h = contrary h
some_is (Some x) h = (x, refl)

none_by : {A : Type 0} (o : Option A) → is_some o ≡ false → is_none o ≡ true
none_by None h = refl
none_by (Some x) h = contrary (sym h)

pub unheld_rank : (mode : Mode) → is_held mode ≡ false → mode_number mode ≡ 0
unheld_rank Nothing h = refl
unheld_rank Copy h = contrary (sym h)
unheld_rank Own h = contrary (sym h)

-- a mode that doesn't serve a need is less, and the need is something
needed : (held mode : Mode) → allows held mode ≡ false → (is_held mode ≡ true) × (mode_number held < mode_number mode)
needed held Nothing h = contrary (sym h)
needed Nothing Copy h = (refl, omega arith)
needed Copy Copy h = contrary (sym h)
needed Own Copy h = contrary (sym h)
needed Nothing Own h = (refl, omega arith)
needed Copy Own h = (refl, omega arith)
needed Own Own h = contrary (sym h)

module _ (logs : Bool) (g : Setting) (end : ℕ) where
  -- what is put is what is shown
  pub acts_lifted : (w : World) (acts : List Act) (s : TokensState) (h : Held) (n : ℕ) (outs : List Out)
      → Acts logs g end w acts (record (local_of s g.block) { req = n; held = h }) outs
      → Acted logs g end w acts (record { state = record (with_held s g.block h) { req = n }; outs = outs })
  acts_lifted w acts s h n outs t =
      subst (λ k. Acts logs g end w acts (record (local_of s g.block) { req = n; held = k }) outs) (sym (held_of-put_itself g.block h s.blocks)) t

  pub lifted : (w : World) (s : TokensState) (h : Held) (n : ℕ) (outs : List Out) → Goes logs g end w (record (local_of s g.block) { req = n; held = h }) outs
      → Took logs g end w (record { state = record (with_held s g.block h) { req = n }; outs = outs })
  lifted w s h n outs t = acts_lifted w [] s h n outs t

  -- a want is asked, in any state that is shown
  pub ask-there : (v : World) (u : TokensState) (mode : Mode) → Shows g v.epoch (local_of u g.block) (v.client g.client)
      → Premise logs (SettledEnd v g.client end) → is_held mode ≡ true → mode_number (held_of u.blocks g.block).mode < mode_number mode
      → Took logs g end v (tokens_ask u g.block mode)
  unfolding tokens_ask
  ask-there v u mode shows settled_ some less =
      let m = local_of u g.block in
      by_test (Took logs g end v) (nat_lt u.req u32_end)
      (record { state = record (with_held u g.block (held_ask m.held (u.req + 1) mode)) { req = u.req + 1 }; outs = Want g.block (u.req + 1) 0 mode ∷ [] })
      (still u)
      (λ t. lifted v u (held_ask m.held (u.req + 1) mode) (u.req + 1) _ (asks-goes logs g end v m mode shows some less settled_))
      (λ t. goes_nowhere logs g end v m shows)

  -- and so is one that is sent again
  repeated-there : (v : World) (u : TokensState) (o : Option Wanted) → Shows g v.epoch (local_of u g.block) (v.client g.client)
      → Premise logs (SettledEnd v g.client end) → (held_of u.blocks g.block).want ≡ o → Took logs g end v (repeated u g.block o)
  repeated-there v u None shows settled_ fact = goes_nowhere logs g end v (local_of u g.block) shows
  repeated-there v u (Some x) shows settled_ fact =
      lifted v u (asked_again (held_of u.blocks g.block) x) u.req _ (asks_again-goes logs g end v (local_of u g.block) x shows fact settled_)

  pub ask_again-there : (v : World) (u : TokensState) → Shows g v.epoch (local_of u g.block) (v.client g.client) → Premise logs (SettledEnd v g.client end)
      → Took logs g end v (ask_again u g.block)
  unfolding ask_again
  ask_again-there v u shows settled_ =
      let o = (held_of u.blocks g.block).want in
      by_test (Took logs g end v) (is_spent o) (still u) (repeated u g.block o) (λ t. goes_nowhere logs g end v (local_of u g.block) shows)
      (λ t. repeated-there v u o shows settled_ refl)

  module _ (w : World) (s : TokensState) (r : laws.Ready logs g end w s) where
    abbrev h : Held
    h = held_of s.blocks g.block

    abbrev l : Local
    l = local_of s g.block

    abbrev At : Done → Type 0
    At d = Took logs g end w d

    stays : At (still s)
    stays = goes_nowhere logs g end w l r.shows

    asks-here : (mode : Mode) → is_held mode ≡ true → mode_number h.mode < mode_number mode → At (tokens_ask s g.block mode)
    asks-here mode some less = ask-there w s mode r.shows r.settled some less

    pub on_need-here : (mode : Mode) → At (on_need s g.block mode)
    unfolding on_need
    on_need-here mode =
        by_test At (must_ask h mode) (tokens_ask s g.block mode) (still s)
        (λ t. let n = needed h.mode mode (not_true (allows h.mode mode) (and_second (not (is_asking h) && is_none h.giving) (not (allows h.mode mode)) t)) in
        asks-here mode n.0 n.1)
        (λ t. stays)

    -- ---- grants and supplies

    copied-here : (stamp : Stamp) (inc req ver hop : ℕ) (place : Option Place) → SentOffer g.client w stamp inc req Copy (located ver hop place)
        → meets logs g end w l stamp inc req Copy ≡ true
        → Goes logs g end w (record l { held = take_copy h stamp ver place }) (copy_next g.block place ∷ [])
    copied-here stamp inc req ver hop None sent t =
        let may = taking logs g end w l stamp inc req Copy (located ver hop None) r.shows r.promised sent t in
        absent-goes logs g end w l stamp inc req (Ready g.block ∷ []) r.shows (λ v. (tt, tt)) may.0 ver hop may.1
    copied-here stamp inc req ver hop (Some place) sent t =
        let may = taking logs g end w l stamp inc req Copy (located ver hop (Some place)) r.shows r.promised sent t in
        place-goes logs g end w l stamp inc req (Read g.block place ∷ []) r.shows (λ v. (tt, tt)) may.0 ver hop place may.1

    pub on_granted-here : (stamp : Stamp) (inc req : ℕ) (mode : Mode) (entry : Entry) → laws.GrantBrings g w stamp inc req g.block mode entry
        → At (on_granted s g.block stamp inc req mode entry)
    unfolding on_granted
    on_granted-here stamp inc req Nothing entry sent = absurd (sent refl)
    on_granted-here stamp inc req Own entry sent = absurd (sent refl)
    on_granted-here stamp inc req Copy entry sent =
        by_test At (accepts s g.block stamp inc req Copy)
        (record { state = with_held s g.block (take_grant h stamp Copy entry); outs = grant_next g.block Copy entry.place ∷ [] }) (still s)
        (λ t. lifted w s (take_copy h stamp entry.ver entry.place) s.req _ (copied-here stamp inc req entry.ver entry.hop entry.place (sent refl) t))
        (λ t. stays)

    pub on_supplied-here : (stamp : Stamp) (inc req ver : ℕ) (value : Option (List ℕ)) → laws.SentSupply logs g w stamp inc req ver value
        → At (on_supplied s g.block stamp inc req ver value)
    unfolding on_supplied
    on_supplied-here stamp inc req ver value sent =
        by_test At (accepts s g.block stamp inc req Copy) (record { state = with_held s g.block (copy_of h stamp ver value); outs = Ready g.block ∷ [] })
        (still s)
        (λ t. let may = taking logs g end w l stamp inc req Copy (located ver sent.hop sent.place) r.shows r.promised sent.offer t in
        lifted w s (copy_of h stamp ver value) s.req _
        (supplied-goes logs g end w l stamp inc req (Ready g.block ∷ []) r.shows (λ v. (tt, tt)) may.0 ver sent.hop sent.place value may.1
        (sent.content may.0)))
        (λ t. stays)

    -- an answer to the open want finds nothing being given
    ungiven : (stamp : Stamp) (inc req : ℕ) (mode : Mode) → accepts s g.block stamp inc req mode ≡ true → is_none h.giving ≡ true
    ungiven stamp inc req mode t =
        let answer = and_second (is_promised s g.block stamp && (inc == s.inc)) (is_answer h stamp req mode) t in
        (r.sound.each g.block).asks_ungiven (asks_by_want h (open_want h.want (and_first (is_wanted h.want req mode) (is_later stamp h.stamp) answer)))
      where
        open_want : (o : Option Wanted) → is_wanted o req mode ≡ true → is_some o ≡ true
        open_want None named = named
        open_want (Some v) named = refl

    all_three : (a b c : Bool) → a ≡ true → b ≡ true → c ≡ true → (a && b && c) ≡ true
    all_three a b c p q t = ap (λ x. x && b && c) p ∙ ap (λ x. x && c) q ∙ t

    pub owns_and_writes : (stamp : Stamp) (inc req : ℕ) (entry : Entry) (value : Option (List ℕ)) → SentOffer g.client w stamp inc req Own (entry_seen entry)
        → accepts s g.block stamp inc req Own ≡ true → nat_lt entry.ver u64_end ≡ true
        → Acted logs g end w (WroteBlock g.client (g.number value) ∷ []) (laws.granted_and_wrote s stamp inc req g.block entry value)
    unfolding on_granted on_wrote
    owns_and_writes stamp inc req entry value sent t room =
        let may = taking logs g end w l stamp inc req Own (entry_seen entry) r.shows r.promised sent t in
        let mine = held_own h stamp entry.ver in
        let u = with_held s g.block mine in
        let now : held_of u.blocks g.block ≡ mine = held_of-put_itself g.block mine s.blocks in
        let free : may_write (held_of u.blocks g.block) ≡ true =
        ap may_write now ∙ all_three true (is_none h.giving) (nat_lt entry.ver u64_end) refl (ungiven stamp inc req Own t) room in
        let acts = WroteBlock g.client (g.number value) ∷ [] in
        by_test (λ (d : Done). Acted logs g end w acts (saying d.outs (on_wrote d.state g.block value))) (accepts s g.block stamp inc req Own)
        (record { state = u; outs = Ready g.block ∷ [] }) (still s)
        (λ _. by_test (λ (d : Done). Acted logs g end w acts (saying (Ready g.block ∷ []) d)) (may_write (held_of u.blocks g.block))
        (still (with_held u g.block (held_write (held_of u.blocks g.block) value))) (still u)
        (λ _. acts_lifted w acts u (held_write (held_of u.blocks g.block) value) s.req _
        (subst (λ k. Acts logs g end w acts (record l { held = held_write k value }) (Ready g.block ∷ [])) (sym now)
        (first-goes logs g end w l stamp inc req (Ready g.block ∷ []) r.shows (λ v. (tt, tt)) may.0 entry.ver entry.hop entry.place value may.1)))
        (λ f. contrary (sym f ∙ free)))
        (λ f. contrary (sym f ∙ t))

    clean_itself : (n : ℕ) → nat_lt n n ≡ false
    clean_itself n = grind (arith, nat_tests)

    pub owns_and_declines : (stamp : Stamp) (inc req : ℕ) (entry : Entry) → SentOffer g.client w stamp inc req Own (entry_seen entry)
        → accepts s g.block stamp inc req Own ≡ true
        → At (laws.granted_and_evicted s stamp inc req g.block entry)
    unfolding on_granted on_evict
    owns_and_declines stamp inc req entry sent t =
        let may = taking logs g end w l stamp inc req Own (entry_seen entry) r.shows r.promised sent t in
        let mine = held_own h stamp entry.ver in
        let u = with_held s g.block mine in
        let now : held_of u.blocks g.block ≡ mine = held_of-put_itself g.block mine s.blocks in
        let free : may_evict (held_of u.blocks g.block) ≡ true = ap may_evict now ∙ ap not (clean_itself entry.ver) in
        by_test (λ (d : Done). At (saying d.outs (on_evict d.state g.block))) (accepts s g.block stamp inc req Own)
        (record { state = u; outs = Ready g.block ∷ [] }) (still s)
        (λ _. by_test (λ (d : Done). At (saying (Ready g.block ∷ []) d)) (may_evict (held_of u.blocks g.block))
        (still (with_held u g.block (let_go (held_of u.blocks g.block)))) (still u)
        (λ _. lifted w u (let_go (held_of u.blocks g.block)) s.req _
        (subst (λ k. Goes logs g end w (record l { held = let_go k }) (Ready g.block ∷ [])) (sym now)
        (declines-goes logs g end w l stamp inc req (Ready g.block ∷ []) r.shows (λ v. (tt, tt)) may.0 entry.ver entry.hop entry.place may.1)))
        (λ f. contrary (sym f ∙ free)))
        (λ f. contrary (sym f ∙ t))

    -- ---- what is held

    supplies_quiet : (block : BlockId) (ver : ℕ) (o : Option (Option (List ℕ))) (v : World) → AllSaid g end v (supplies block ver o)
    supplies_quiet block ver None v = tt
    supplies_quiet block ver (Some value) v = (tt, tt)

    pub on_forwarded-took : (stamp : Stamp) (block : BlockId) (ver : ℕ) → At (on_forwarded s block stamp ver)
    unfolding on_forwarded
    on_forwarded-took stamp block ver =
        by_test At (serves s block stamp ver) (record { state = s; outs = supplies block ver (held_of s.blocks block).value }) (still s)
        (λ t. goes_saying logs g end w l _ r.shows (supplies_quiet block ver (held_of s.blocks block).value w)) (λ t. stays)

    own_named : (mode : Mode) → is_own mode ≡ true → mode ≡ Own
    own_named Nothing t = contrary t
    own_named Copy t = contrary t
    own_named Own t = refl

    -- a write is told where it may be
    pub on_wrote-here : (value : Option (List ℕ))
        → Acted logs g end w (if may_write h then WroteBlock g.client (g.number value) ∷ [] else []) (on_wrote s g.block value)
    unfolding on_wrote
    on_wrote-here value =
        elim (may_write h) as
        (λ t. may_write h ≡ t
        → Acted logs g end w (if t then WroteBlock g.client (g.number value) ∷ [] else [])
        (if t then still (with_held s g.block (held_write h value)) else still s)) [
          | true ↦ λ t.
              acts_lifted w (WroteBlock g.client (g.number value) ∷ []) s (held_write h value) s.req []
              (writes-goes logs g end w l value r.shows
              (and_first (is_own h.mode) (is_none h.giving) (and_first (is_own h.mode && is_none h.giving) (nat_lt h.ver u64_end) t)))
          | false ↦ λ t. stays
        ] refl

    pub on_fetched-here : (value : Option (List ℕ)) → ((f : Fetch) → h.fetch ≡ Some f → Premise logs (PlaceRead w g.client (g.number value)))
        → At (on_fetched s g.block value)
    unfolding on_fetched
    on_fetched-here value read =
        by_test At (may_end_fetch h) (record { state = with_held s g.block (end_fetch h h.fetch value); outs = Ready g.block ∷ [] }) (still s)
        (λ t. let f = some_is h.fetch (and_first (is_some h.fetch) (is_none h.want) t) in
        lifted w s (end_fetch h h.fetch value) s.req _
        (subst (λ o. Goes logs g end w (record l { held = end_fetch h o value }) (Ready g.block ∷ [])) (sym f.1)
        (fetches-goes logs g end w l f.0 value (Ready g.block ∷ []) r.shows f.1 (λ v. (tt, tt)) (read f.0 f.1))))
        (λ t. stays)

    pub on_evict-here : At (on_evict s g.block)
    unfolding on_evict
    on_evict-here =
        by_test At (may_evict h) (still (with_held s g.block (let_go h))) (still s)
        (λ t. lifted w s (let_go h) s.req [] (evicts-goes logs g end w l r.shows (not_true (is_dirty h) (and_second (is_held h.mode) (not (is_dirty h)) t))))
        (λ t. stays)

    pub on_reask-here : At (on_reask s g.block)
    unfolding on_reask
    on_reask-here =
        by_test At (is_some h.fetch) (tokens_ask s g.block Copy) (still s)
        (λ t. asks-here Copy refl (let z = unheld_rank h.mode ((r.sound.each g.block).fetch_unheld t) in omega arith)) (λ t. stays)

    pub on_quit-here : At (on_quit s g.block)
    unfolding on_quit
    on_quit-here =
        let m = record l { held = record h { want = None } } in
        let t = drops_want-goes logs g end w l r.shows in
        by_test At (is_asking h) (still (with_held s g.block (quit h))) (still s)
        (λ _. lifted w s (quit h) s.req [] (goes_through logs g end w m _ [] [] t (drops_fetch-goes logs g end t.world m (shown_on logs g end w [] m [] t))))
        (λ _. stays)

    -- a version that is settled is no news
    pub on_settled-still : (ver : ℕ) → is_settled_by h ver ≡ false → At (on_settled s g.block ver)
    unfolding on_settled
    on_settled-still ver f =
        by_test At (is_settled_by h ver) (still (with_held s g.block (version_settled h ver))) (still s) (λ t. contrary (sym f ∙ t)) (λ t. stays)
