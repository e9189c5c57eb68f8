-- Inputs of another block: what is known of this block stays, and nothing is said of it.
use Rattle.std.proofs.lemmas.Map.Views.{tells_apart}
use Rattle.xfs_base.proofs.BlockOrder.{block_cmp_exact}
use Rattle.std.proofs.Common.{◌≡◌, ℕ, ◌+◌, ◌≤◌, Bool, true, List, [], ◌∷◌, Option, Some, None, is_some, refl, sym, ap, subst, ◌∙◌, arith, nat_lt}
use Rattle.std.specs.Ordering.{eq_by_cmp}
use Rattle.xfs_base.specs.declared.block.BlockId.{BlockId}
use Rattle.xfs_base.specs.declared.entry.Entry.{Entry}
use Rattle.xfs_base.specs.declared.entry.Place.{Place}
use Rattle.xfs_base.specs.declared.token.Mode.{Mode}
use Rattle.xfs_base.specs.declared.token.Mode.TheVariants.{Copy}
use Rattle.xfs_base.specs.declared.token.Stamp.{Stamp}
use Rattle.xfs_base.specs.Blocks.{block_cmp}
use Rattle.xfs_base.specs.Steps.{still, saying}
use Rattle.token_client.specs.declared.held.Held.{Held}
use Rattle.token_client.specs.declared.held.Wanted.{Wanted}
use Rattle.token_client.specs.declared.output.Out.{Out}
use Rattle.token_client.specs.declared.output.Out.TheVariants.{Want, Gave, Flush, Ready}
use Rattle.token_client.specs.Held.{is_asking, must_ask, is_dirty, may_write, is_settled_by, may_end_fetch, may_evict, held_ask, take_grant, copy_of, end_fetch, held_write, version_settled, let_go, quit, unfetched, put_off, give_up}
use Rattle.token_client.specs.State.{TokensState, held_of, put_held, with_held}
use Rattle.token_client.specs.Transition.{Done, is_promised, tokens_ask, on_need, accepts, copy_next, grant_next, on_granted, on_supplied, refetch, give, can_refetch, recalled_above, was_answered, recalled_again, recalled, on_recalled, on_wrote, on_settled, on_fetched, on_evict, on_reask, on_quit, is_spent, repeated, ask_again}
use Rattle.token_client.proofs.Tables.{held_of-put}
use Rattle.token_protocol.specs.Client.{Client}
use Rattle.token_protocol.specs.World.{World}
use Rattle.token_tie.specs.Seen.{Setting, Local, Shows, local_of}
use Rattle.token_tie.specs.Taken.{AllSaid, Took}
use Rattle.token_tie.proofs.Frames.{goes_saying, said_both}
use Rattle.xfs_base.specs.Modes.{is_own}
use Rattle.xfs_base.specs.Stamps.{is_later}
use Rattle.xfs_base.proofs.Booleans.{by_test}
use Rattle.xfs_base.specs.Limits.{u32_end}

module _ (g : Setting) where
  pub record Apart (s : TokensState) (d : Done) : Type 0 where
    pub rises : s.req ≤ d.state.req
    pub same : local_of d.state g.block ≡ record (local_of s g.block) { req = d.state.req }
    pub quiet : (end : ℕ) (w : World) → AllSaid g end w d.outs

  -- the number of another block's want is no matter
  pub shows_counted : (e : ℕ) (l : Local) (x : Client) (n : ℕ) → l.req ≤ n → Shows g e l x → Shows g e (record l { req = n }) x
  shows_counted e l x n rises s = record {
    client = s.client;
    serving = s.serving;
    boot = s.boot;
    incarnation = s.incarnation;
    stamps = s.stamps;
    mode = s.mode;
    counted = let c = s.counted in omega arith;
    want = s.want;
    version = s.version;
    settled = s.settled;
    value = s.value;
    fetch = s.fetch;
  }

  pub apart_took : (logs : Bool) (end : ℕ) (w : World) (s : TokensState) (d : Done) → Apart s d → Shows g w.epoch (local_of s g.block) (w.client g.client)
      → Took logs g end w d
  apart_took logs end w s d a shows =
      goes_saying logs g end w (local_of d.state g.block) d.outs
      (subst (λ l. Shows g w.epoch l (w.client g.client)) (sym a.same)
      (shows_counted w.epoch (local_of s g.block) (w.client g.client) d.state.req a.rises shows)) (a.quiet end w)

  pub apart_still : (s : TokensState) → Apart s (still s)
  apart_still s = record { rises = omega arith; same = refl; quiet = λ end w. tt }

  pub apart_through : (s : TokensState) (d e : Done) → Apart s d → Apart d.state e → Apart s (saying d.outs e)
  apart_through s d e p q = record {
    rises = let a = p.rises in let b = q.rises in omega arith;
    same = q.same ∙ ap (λ (l : Local). record l { req = e.state.req }) p.same;
    quiet = λ end w. said_both true g end w d.outs e.outs (p.quiet end w) (q.quiet end w);
  }

  module _ (block : BlockId) (other : block ≡ g.block → ⊥) where
    -- what is known of this block, once another is put
    pub other_put : (h : Held) (es : List (BlockId × Held)) → held_of (put_held es block h) g.block ≡ held_of es g.block
    other_put h es =
        held_of-put g.block block h es
        ∙ by_test (λ (k : Held). k ≡ held_of es g.block) (eq_by_cmp block_cmp g.block block) h (held_of es g.block)
        (λ t. absurd (other (sym (tells_apart block_cmp_exact g.block block t)))) (λ t. refl)

    apart_put : (s : TokensState) (h : Held) (n : ℕ) (outs : List Out) → s.req ≤ n → ((end : ℕ) (w : World) → AllSaid g end w outs)
        → Apart s (record { state = record (with_held s block h) { req = n }; outs = outs })
    apart_put s h n outs rises quiet =
        record { rises = rises; same = ap (λ (k : Held). record (local_of s g.block) { req = n; held = k }) (other_put h s.blocks); quiet = quiet }

    apart_with : (s : TokensState) (h : Held) (outs : List Out) → ((end : ℕ) (w : World) → AllSaid g end w outs)
        → Apart s (record { state = with_held s block h; outs = outs })
    apart_with s h outs quiet = apart_put s h s.req outs (omega arith) quiet

    pub ask-apart : (s : TokensState) (mode : Mode) → Apart s (tokens_ask s block mode)
    unfolding tokens_ask
    ask-apart s mode =
        by_test (Apart s) (nat_lt s.req u32_end)
        (record {
          state = record (with_held s block (held_ask (held_of s.blocks block) (s.req + 1) mode)) { req = s.req + 1 };
          outs = Want block (s.req + 1) 0 mode ∷ [];
        }) (still s)
        (λ t. apart_put s _ (s.req + 1) _ (omega arith) (λ end w. (λ fact. absurd (other fact), tt))) (λ t. apart_still s)

    pub on_need-apart : (s : TokensState) (mode : Mode) → Apart s (on_need s block mode)
    unfolding on_need
    on_need-apart s mode =
        by_test (Apart s) (must_ask (held_of s.blocks block) mode) (tokens_ask s block mode) (still s) (λ t. ask-apart s mode) (λ t. apart_still s)

    copy_quiet : (place : Option Place) (end : ℕ) (w : World) → AllSaid g end w (copy_next block place ∷ [])
    copy_quiet None end w = (tt, tt)
    copy_quiet (Some p) end w = (tt, tt)

    grant_quiet : (mode : Mode) (place : Option Place) (end : ℕ) (w : World) → AllSaid g end w (grant_next block mode place ∷ [])
    grant_quiet mode place end w =
        by_test (λ (o : Out). AllSaid g end w (o ∷ [])) (is_own mode) (Ready block) (copy_next block place) (λ t. (tt, tt)) (λ t. copy_quiet place end w)

    pub on_granted-apart : (s : TokensState) (stamp : Stamp) (inc req : ℕ) (mode : Mode) (entry : Entry) → Apart s (on_granted s block stamp inc req mode entry)
    unfolding on_granted
    on_granted-apart s stamp inc req mode entry =
        by_test (Apart s) (accepts s block stamp inc req mode)
        (record { state = with_held s block (take_grant (held_of s.blocks block) stamp mode entry); outs = grant_next block mode entry.place ∷ [] }) (still s)
        (λ t. apart_with s _ _ (grant_quiet mode entry.place)) (λ t. apart_still s)

    pub on_supplied-apart : (s : TokensState) (stamp : Stamp) (inc req ver : ℕ) (value : Option (List ℕ))
        → Apart s (on_supplied s block stamp inc req ver value)
    unfolding on_supplied
    on_supplied-apart s stamp inc req ver value =
        by_test (Apart s) (accepts s block stamp inc req Copy)
        (record { state = with_held s block (copy_of (held_of s.blocks block) stamp ver value); outs = Ready block ∷ [] }) (still s)
        (λ t. apart_with s _ _ (λ end w. (tt, tt))) (λ t. apart_still s)

    refetch-apart : (s : TokensState) → Apart s (refetch s block)
    unfolding refetch
    refetch-apart s =
        let dropped = with_held s block (unfetched (held_of s.blocks block)) in
        by_test (Apart s) (is_some (held_of s.blocks block).fetch) (tokens_ask dropped block Copy) (still s)
        (λ t. apart_through s (still dropped) (tokens_ask dropped block Copy) (apart_with s _ [] (λ end w. tt)) (ask-apart dropped Copy)) (λ t. apart_still s)

    give-apart : (s : TokensState) (stamp : Stamp) (keep : Bool) → Apart s (give s block stamp keep)
    unfolding give
    give-apart s stamp keep =
        let h = held_of s.blocks block in
        by_test (Apart s) (is_dirty h) (record { state = with_held s block (put_off h stamp keep); outs = Flush block ∷ [] })
        (record { state = with_held s block (give_up h stamp keep); outs = Gave block stamp ∷ [] })
        (λ t. apart_with s _ _ (λ end w. (tt, tt))) (λ t. apart_with s _ _ (λ end w. (λ fact. absurd (other fact), tt)))

    pub on_recalled-apart : (s : TokensState) (stamp : Stamp) (keep : Bool) → Apart s (on_recalled s block stamp keep)
    unfolding on_recalled recalled recalled_above recalled_again
    on_recalled-apart s stamp keep =
        by_test (Apart s) (is_promised s block stamp) (recalled s block stamp keep) (still s)
        (λ t. by_test (Apart s) (is_later stamp (held_of s.blocks block).stamp) (recalled_above s block stamp keep) (recalled_again s block stamp)
        (λ t. by_test (Apart s) (can_refetch s block) (saying (refetch s block).outs (give (refetch s block).state block stamp keep)) (still s)
        (λ t. apart_through s (refetch s block) _ (refetch-apart s) (give-apart (refetch s block).state stamp keep)) (λ t. apart_still s))
        (λ t. by_test (Apart s) (was_answered (held_of s.blocks block) stamp) (record { state = s; outs = Gave block stamp ∷ [] }) (still s)
        (λ t. record { rises = omega arith; same = refl; quiet = λ end w. (λ fact. absurd (other fact), tt) }) (λ t. apart_still s)))
        (λ t. apart_still s)

    pub on_wrote-apart : (s : TokensState) (value : Option (List ℕ)) → Apart s (on_wrote s block value)
    unfolding on_wrote
    on_wrote-apart s value =
        by_test (Apart s) (may_write (held_of s.blocks block)) (still (with_held s block (held_write (held_of s.blocks block) value))) (still s)
        (λ t. apart_with s _ [] (λ end w. tt)) (λ t. apart_still s)

    pub on_settled-apart : (s : TokensState) (ver : ℕ) → Apart s (on_settled s block ver)
    unfolding on_settled
    on_settled-apart s ver =
        by_test (Apart s) (is_settled_by (held_of s.blocks block) ver) (still (with_held s block (version_settled (held_of s.blocks block) ver))) (still s)
        (λ t. apart_with s _ [] (λ end w. tt)) (λ t. apart_still s)

    pub on_fetched-apart : (s : TokensState) (value : Option (List ℕ)) → Apart s (on_fetched s block value)
    unfolding on_fetched
    on_fetched-apart s value =
        let h = held_of s.blocks block in
        by_test (Apart s) (may_end_fetch h) (record { state = with_held s block (end_fetch h h.fetch value); outs = Ready block ∷ [] }) (still s)
        (λ t. apart_with s _ _ (λ end w. (tt, tt))) (λ t. apart_still s)

    pub on_evict-apart : (s : TokensState) → Apart s (on_evict s block)
    unfolding on_evict
    on_evict-apart s =
        by_test (Apart s) (may_evict (held_of s.blocks block)) (still (with_held s block (let_go (held_of s.blocks block)))) (still s)
        (λ t. apart_with s _ [] (λ end w. tt)) (λ t. apart_still s)

    pub on_reask-apart : (s : TokensState) → Apart s (on_reask s block)
    unfolding on_reask
    on_reask-apart s = by_test (Apart s) (is_some (held_of s.blocks block).fetch) (tokens_ask s block Copy) (still s) (λ t. ask-apart s Copy) (λ t. apart_still s)

    pub on_quit-apart : (s : TokensState) → Apart s (on_quit s block)
    unfolding on_quit
    on_quit-apart s =
        by_test (Apart s) (is_asking (held_of s.blocks block)) (still (with_held s block (quit (held_of s.blocks block)))) (still s)
        (λ t. apart_with s _ [] (λ end w. tt)) (λ t. apart_still s)

    repeated-apart : (s : TokensState) (v : Option Wanted) → Apart s (repeated s block v)
    repeated-apart s None = apart_still s
    repeated-apart s (Some v) = apart_with s _ _ (λ end w. (λ fact. absurd (other fact), tt))

    pub ask_again-apart : (s : TokensState) → Apart s (ask_again s block)
    unfolding ask_again
    ask_again-apart s =
        by_test (Apart s) (is_spent (held_of s.blocks block).want) (still s) (repeated s block (held_of s.blocks block).want) (λ t. apart_still s)
        (λ t. repeated-apart s (held_of s.blocks block).want)
