-- Promises and ticks: inputs that go through many blocks.
use Rattle.std.proofs.Common.{◌≡◌, ℕ, ◌+◌, ◌-◌, ◌≤◌, Bool, true, false, cond, ◌&&◌, List, [], ◌∷◌, length, is_some, refl, sym, ap, subst, ◌∙◌, arith, nat_lt, nat_le}
use Rattle.std.proofs.Common.{slice_set, set, zero, suc}
use Rattle.std.specs.List.{list_any}
use Rattle.std.specs.Map.{values_of}
use Rattle.std.proofs.lemmas.Bool.Decides.{nat_tests}
use Rattle.std.proofs.lemmas.List.{get_or-set_other, get_or-set_same}
use Rattle.std.proofs.lemmas.Bool.{eqb-false, ltb-false, ltb-true, eqb-true}
use Rattle.xfs_base.specs.declared.block.BlockId.{BlockId}
use Rattle.xfs_base.specs.declared.token.Mode.TheVariants.{Copy}
use Rattle.xfs_base.specs.Blocks.{slot_of}
use Rattle.xfs_base.specs.Steps.{still, steps}
use Rattle.token_client.specs.declared.held.Held.{Held}
use Rattle.token_client.specs.declared.output.Out.TheVariants.{Want}
use Rattle.token_client.specs.Held.{held_ask, drop_promised}
use Rattle.token_client.specs.State.{TokensState, held_of, with_held, epoch_of, is_in_slot}
use Rattle.token_client.specs.Transition.{Done, tokens_ask, fetched_blocks, drop_all_in, raised, ask_copy, may_promise, on_promise, is_spent, ask_again, wanted_blocks, on_tick}
use Rattle.token_client.proofs.Tables.{put_same}
use Rattle.token_client.proofs.Promises.{dropped-known, Each, Each-weaker, IsFetched, fetched-facts, agrees-itself}
use Rattle.token_protocol.specs.Premises.{Premise, SettledEnd}
use Rattle.token_protocol.specs.World.{World}
use Rattle.token_tie.specs.Seen.{Setting, Local, Shows, local_of}
use Rattle.token_tie.specs.Taken.{Took}
use Rattle.token_tie.proofs.Taken.{Goes}
use Rattle.token_tie.specs.Inputs as laws
use Rattle.token_tie.proofs.Frames.{goes_nowhere, goes_through, shown_on, end_on}
use Rattle.token_tie.proofs.Leaves.{promises-goes, drops_promised-goes}
use Rattle.token_tie.proofs.Elsewhere.{apart_took, ask-apart, ask_again-apart}
use Rattle.token_tie.proofs.Takes.{at_block, unheld_rank, ask-there, ask_again-there}
use Rattle.xfs_base.specs.Modes.{is_held}
use Rattle.xfs_base.proofs.Booleans.{and_first, and_second, by_test}
use Rattle.xfs_base.specs.Limits.{u32_end, slot_count}

-- asking for another block, or for this one, leaves this one's mode
ask-mode : (g : Setting) (u : TokensState) (block : BlockId) → (held_of (ask_copy u block).state.blocks g.block).mode ≡ (held_of u.blocks g.block).mode
unfolding tokens_ask
ask-mode g u block =
    by_test (λ (d : Done). (held_of d.state.blocks g.block).mode ≡ (held_of u.blocks g.block).mode) (nat_lt u.req u32_end)
    (record {
      state = record (with_held u block (held_ask (held_of u.blocks block) (u.req + 1) Copy)) { req = u.req + 1 };
      outs = Want block (u.req + 1) 0 Copy ∷ [];
    }) (still u)
    (λ t. put_same (λ (h : Held). h.mode) g.block block (held_ask (held_of u.blocks block) (u.req + 1) Copy) u.blocks refl) (λ t. refl)

-- past the end nothing is set
set_past : (xs : List ℕ) (i v : ℕ) → length xs ≤ i → set xs i v ≡ xs
set_past [] i v past = refl
set_past (x ∷ xs) zero v past = absurd (omega arith)
set_past (x ∷ xs) (suc i) v past = ap (λ ys. x ∷ ys) (set_past xs i v (omega arith))

-- where this block is one of these, nothing of it is held
abbrev Unheld : Setting → TokensState → BlockId → Type 0
Unheld g u k = k ≡ g.block → is_held (held_of u.blocks g.block).mode ≡ false

module _ (logs : Bool) (g : Setting) (end : ℕ) where
  one-asks : (v : World) (u : TokensState) (block : BlockId) → Shows g v.epoch (local_of u g.block) (v.client g.client)
      → Premise logs (SettledEnd v g.client end) → Unheld g u block → Took logs g end v (ask_copy u block)
  one-asks v u block shows settled_ unheld =
      at_block g (λ k. Unheld g u k → Took logs g end v (ask_copy u k))
      (λ free. let none = unheld_rank (held_of u.blocks g.block).mode (free refl) in ask-there logs g end v u Copy shows settled_ refl (omega arith))
      (λ k other free. apart_took g logs end v u (ask_copy u k) (ask-apart g k other u Copy) shows) block unheld

  asks-took : (v : World) (u : TokensState) (blocks : List BlockId) → Shows g v.epoch (local_of u g.block) (v.client g.client)
      → Premise logs (SettledEnd v g.client end) → Each (Unheld g u) blocks → Took logs g end v (steps ask_copy u blocks)
  asks-took v u [] shows settled_ free = goes_nowhere logs g end v (local_of u g.block) shows
  asks-took v u (b ∷ bs) shows settled_ free =
      let d = ask_copy u b in
      let t = one-asks v u b shows settled_ free.0 in
      let rest_ = Each-weaker (Unheld g u) (Unheld g d.state) (λ k f fact. ap is_held (ask-mode g u b) ∙ f fact) bs free.1 in
      goes_through logs g end v (local_of d.state g.block) _ d.outs _ t
      (asks-took t.world d.state bs (shown_on logs g end v [] (local_of d.state g.block) d.outs t) (end_on logs v t.world g.client end t.frame settled_) rest_)

  one-again : (v : World) (u : TokensState) (block : BlockId) → Shows g v.epoch (local_of u g.block) (v.client g.client)
      → Premise logs (SettledEnd v g.client end) → Took logs g end v (ask_again u block)
  one-again v u block shows settled_ =
      at_block g (λ k. Took logs g end v (ask_again u k)) (ask_again-there logs g end v u shows settled_)
      (λ k other. apart_took g logs end v u (ask_again u k) (ask_again-apart g k other u) shows) block

  agains-took : (v : World) (u : TokensState) (blocks : List BlockId) → Shows g v.epoch (local_of u g.block) (v.client g.client)
      → Premise logs (SettledEnd v g.client end) → Took logs g end v (steps ask_again u blocks)
  agains-took v u [] shows settled_ = goes_nowhere logs g end v (local_of u g.block) shows
  agains-took v u (b ∷ bs) shows settled_ =
      let d = ask_again u b in
      let t = one-again v u b shows settled_ in
      goes_through logs g end v (local_of d.state g.block) _ d.outs _ t
      (agains-took t.world d.state bs (shown_on logs g end v [] (local_of d.state g.block) d.outs t) (end_on logs v t.world g.client end t.frame settled_))

  module _ (w : World) (s : TokensState) (r : laws.Ready logs g end w s) where
    abbrev h : Held
    h = held_of s.blocks g.block

    abbrev l : Local
    l = local_of s g.block

    abbrev At : Done → Type 0
    At d = Took logs g end w d

    stays : At (still s)
    stays = goes_nowhere logs g end w l r.shows

    pub on_tick-took : At (on_tick s)
    unfolding on_tick
    on_tick-took =
        by_test At (list_any (λ h. is_spent h.want) (values_of s.blocks)) (still s) (steps ask_again s (wanted_blocks s.blocks)) (λ t. stays)
        (λ t. agains-took w s (wanted_blocks s.blocks) r.shows r.settled)

    -- what is known of the block once its slot, or another, is promised
    promised-known : (slot epoch : ℕ) → nat_le (epoch_of s.epochs slot) epoch ≡ true → At (still (raised s slot epoch))
    promised-known slot epoch rises =
        elim (is_in_slot slot g.block) as (λ t. is_in_slot slot g.block ≡ t → At (still (raised s slot epoch))) [
          | true ↦ λ fact. inside (nat_lt slot (length s.epochs)) refl fact
          | false ↦ λ fact.
              let now : epoch_of (slice_set s.epochs slot epoch) (slot_of g.block.ino.0) ≡ l.promised =
              get_or-set_other s.epochs slot (slot_of g.block.ino.0) epoch 0 (eqb-false (slot_of g.block.ino.0) slot fact) in
              let kept_ : held_of (drop_all_in slot s.blocks) g.block ≡ h = dropped-known s slot g.block ∙ ap (λ t. cond t (drop_promised h) h) fact in
              subst (λ (m : Local). Goes logs g end w m []) (λ i. record l { promised = sym now i; held = sym kept_ i }) stays
        ] refl
      where
        lower : (a b e : ℕ) → a ≡ b → nat_le b e ≡ true → a ≤ e
        lower a b e same le = grind (arith, nat_tests)

        inside : (t : Bool) → nat_lt slot (length s.epochs) ≡ t → is_in_slot slot g.block ≡ true → At (still (raised s slot epoch))
        inside true known fact =
            let same : slot_of g.block.ino.0 ≡ slot = eqb-true (slot_of g.block.ino.0) slot fact in
            let now : epoch_of (slice_set s.epochs slot epoch) (slot_of g.block.ino.0) ≡ epoch =
            ap (λ n. epoch_of (slice_set s.epochs slot epoch) n) same ∙ get_or-set_same s.epochs slot epoch 0 (ltb-true slot (length s.epochs) known) in
            let dropped : held_of (drop_all_in slot s.blocks) g.block ≡ drop_promised h =
            dropped-known s slot g.block ∙ ap (λ t. cond t (drop_promised h) h) fact in
            let before : l.promised ≡ epoch_of s.epochs slot = ap (epoch_of s.epochs) same in
            subst (λ (m : Local). Goes logs g end w m []) (λ i. record l { promised = sym now i; held = sym dropped i })
            (promises-goes logs g end w l epoch r.shows (lower l.promised (epoch_of s.epochs slot) epoch before rises))
        inside false unknown_ fact =
            let now : epoch_of (slice_set s.epochs slot epoch) (slot_of g.block.ino.0) ≡ l.promised =
            ap (λ xs. epoch_of xs (slot_of g.block.ino.0)) (set_past s.epochs slot epoch (ltb-false slot (length s.epochs) unknown_)) in
            let dropped : held_of (drop_all_in slot s.blocks) g.block ≡ drop_promised h =
            dropped-known s slot g.block ∙ ap (λ t. cond t (drop_promised h) h) fact in
            subst (λ (m : Local). Goes logs g end w m []) (λ i. record l { promised = sym now i; held = sym dropped i })
            (drops_promised-goes logs g end w l r.shows)

    pub on_promise-took : (slot epoch : ℕ) → At (on_promise s slot epoch)
    unfolding on_promise
    on_promise-took slot epoch =
        let u = raised s slot epoch in
        let blocks = fetched_blocks slot s.blocks in
        let facts : Each (IsFetched s.blocks slot) blocks = fetched-facts s.blocks slot s.blocks (agrees-itself s.blocks r.sound.sorted) in
        let mode : (held_of u.blocks g.block).mode ≡ h.mode =
        ap (λ (k : Held). k.mode) (dropped-known s slot g.block)
        ∙ by_test (λ (k : Held). k.mode ≡ h.mode) (is_in_slot slot g.block) (drop_promised h) h (λ t. refl) (λ t. refl) in
        let free : Each (Unheld g u) blocks =
        Each-weaker (IsFetched s.blocks slot) (Unheld g u)
        (λ k f fact. ap is_held mode ∙ (r.sound.each g.block).fetch_unheld (subst (λ b. is_some (held_of s.blocks b).fetch ≡ true) fact f.1)) blocks facts in
        by_test At (may_promise s slot epoch) (steps ask_copy u blocks) (still s)
        (λ may.
        let rises = and_second (nat_lt slot slot_count) (nat_le (epoch_of s.epochs slot) epoch)
        (and_first (nat_lt slot slot_count && nat_le (epoch_of s.epochs slot) epoch) (nat_le (length (fetched_blocks slot s.blocks)) (u32_end - s.req)) may) in
        let t = promised-known slot epoch rises in
        goes_through logs g end w (local_of u g.block) _ [] _ t
        (asks-took t.world u blocks (shown_on logs g end w [] (local_of u g.block) [] t) (end_on logs w t.world g.client end t.frame r.settled) free))
        (λ _. stays)
