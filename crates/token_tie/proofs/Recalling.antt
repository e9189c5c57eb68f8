-- A Recall of this block.
use Rattle.std.proofs.Common.{◌≡◌, ℕ, ◌+◌, ◌==◌, ◌≤◌, Bool, true, false, ◌&&◌, ◌||◌, [], ◌∷◌, Option, Some, None, is_some, is_none, refl, sym, ap, subst, ◌∙◌, arith, nat_lt}
use Rattle.std.proofs.lemmas.Bool.{eqb-true}
use Rattle.xfs_base.specs.declared.token.Mode.TheVariants.{Copy}
use Rattle.xfs_base.specs.declared.token.Stamp.{Stamp}
use Rattle.xfs_base.specs.Steps.{still, saying}
use Rattle.token_client.specs.declared.held.Held.{Held}
use Rattle.token_client.specs.declared.output.Out.TheVariants.{Want, Gave, Flush}
use Rattle.token_client.specs.Held.{is_dirty, held_ask, unfetched, put_off, give_up}
use Rattle.token_client.specs.State.{TokensState, held_of, with_held}
use Rattle.token_client.specs.Transition.{Done, is_promised, tokens_ask, refetch, give, can_refetch, recalled_above, was_answered, recalled_again, recalled, on_recalled}
use Rattle.token_client.proofs.Tables.{held_of-put_itself}
use Rattle.token_protocol.specs.Basics.{In}
use Rattle.token_protocol.specs.Premises.{Premise, SettledEnd}
use Rattle.token_protocol.specs.World.{World}
use Rattle.token_tie.specs.Seen.{Setting, Local, Shows, SentRecall, recall_seen, local_of, stamp_seen}
use Rattle.token_tie.specs.Taken.{ByClient, Took}
use Rattle.token_tie.proofs.Taken.{Goes}
use Rattle.token_tie.specs.Inputs as laws
use Rattle.token_tie.proofs.Frames.{goes_nowhere, goes_through, shown_on, epoch_on, end_on}
use Rattle.token_tie.proofs.Leaves.{drops_fetch-goes, put_off-goes, gives-goes, gives_again-goes, asks-goes}
use Rattle.token_tie.proofs.Takes.{unheld_rank, lifted}
use Rattle.xfs_base.specs.Stamps.{is_later}
use Rattle.xfs_base.proofs.Booleans.{and_first, and_second, by_test, contrary}
use Rattle.xfs_base.specs.Limits.{u32_end}

-- a Recall stays sent where only clients step
sent_on : (g : Setting) (w v : World) (stamp : Stamp) (keep : Bool) → ByClient g.client w v → SentRecall g.client w stamp keep
    → SentRecall g.client v stamp keep
sent_on g w v stamp keep by sent =
    let epoch : v.epoch ≡ w.epoch = ap (λ (u : World). u.epoch) by.others in
    let low = sent.low in
    record {
      low = omega arith;
      some = sent.some;
      recalled = λ fact. subst (In (recall_seen g.client stamp keep)) (sym (ap (λ (u : World). u.recalls) by.others)) (sent.recalled (fact ∙ epoch));
    }

none_or : {A : Type 0} (o : Option A) (b : Bool) → is_some o ≡ true → (is_none o || b) ≡ true → b ≡ true
none_or None b some h = contrary some
none_or (Some x) b some h = h

none_by : {A : Type 0} (o : Option A) → is_some o ≡ false → is_none o ≡ true
none_by None h = refl
none_by (Some x) h = contrary (sym h)

one_stamp : (s t : Stamp) → ((s.epoch == t.epoch) && (s.turn == t.turn)) ≡ true → stamp_seen s ≡ stamp_seen t
one_stamp s t h =
    let e = eqb-true s.epoch t.epoch (and_first (s.epoch == t.epoch) (s.turn == t.turn) h) in
    let q = eqb-true s.turn t.turn (and_second (s.epoch == t.epoch) (s.turn == t.turn) h) in
    λ i. record { epoch = e i; turn = q i }

module _ (logs : Bool) (g : Setting) (end : ℕ) where
  -- a Recall above the stamp of a block without a fetch: given up where it is clean, put off where it is dirty
  give-there : (v : World) (u : TokensState) (stamp : Stamp) (keep : Bool) → Shows g v.epoch (local_of u g.block) (v.client g.client)
      → v.epoch ≤ (local_of u g.block).promised → SentRecall g.client v stamp keep
      → stamp.epoch ≡ (local_of u g.block).promised → is_later stamp (held_of u.blocks g.block).stamp ≡ true → is_none (held_of u.blocks g.block).fetch ≡ true
      → Premise logs (SettledEnd v g.client end)
      → Took logs g end v (give u g.block stamp keep)
  unfolding give
  give-there v u stamp keep shows high sent same later unfetched_ settled_ =
      let h = held_of u.blocks g.block in
      let m = local_of u g.block in
      let p = shows.stamps.promised in
      by_test (Took logs g end v) (is_dirty h) (record { state = with_held u g.block (put_off h stamp keep); outs = Flush g.block ∷ [] })
      (record { state = with_held u g.block (give_up h stamp keep); outs = Gave g.block stamp ∷ [] })
      (λ t. lifted logs g end v u (put_off h stamp keep) u.req _ (put_off-goes logs g end v m stamp keep (Flush g.block ∷ []) shows (λ x. (tt, tt))))
      (λ t. lifted logs g end v u (give_up h stamp keep) u.req _
      (gives-goes logs g end v m stamp keep shows (omega arith) sent same later t unfetched_ settled_))

  module _ (w : World) (s : TokensState) (r : laws.Ready logs g end w s) where
    abbrev h : Held
    h = held_of s.blocks g.block

    abbrev l : Local
    l = local_of s g.block

    abbrev At : Done → Type 0
    At d = Took logs g end w d

    stays : At (still s)
    stays = goes_nowhere logs g end w l r.shows

    -- a Recall above the stamp: a fetch is dropped and asked for again, and then the block is given
    recalled_above-here : (stamp : Stamp) (keep : Bool) → SentRecall g.client w stamp keep → stamp.epoch ≡ l.promised → is_later stamp h.stamp ≡ true
        → At (recalled_above s g.block stamp keep)
    unfolding recalled_above refetch tokens_ask
    recalled_above-here stamp keep sent same later =
        let p = r.shows.stamps.promised in
        let high = r.promised in
        let dropped = with_held s g.block (unfetched h) in
        let gone : held_of dropped.blocks g.block ≡ unfetched h = held_of-put_itself g.block (unfetched h) s.blocks in
        let mine = held_ask (held_of dropped.blocks g.block) (s.req + 1) Copy in
        let u : TokensState = record (with_held dropped g.block mine) { req = s.req + 1 } in
        let now : held_of u.blocks g.block ≡ held_ask (unfetched h) (s.req + 1) Copy =
        held_of-put_itself g.block mine dropped.blocks ∙ ap (λ (k : Held). held_ask k (s.req + 1) Copy) gone in
        let outs = Want g.block (s.req + 1) 0 Copy ∷ [] in
        let Given : Done → Type 0 = λ (d : Done). At (saying d.outs (give d.state g.block stamp keep)) in
        by_test At (can_refetch s g.block) (saying (refetch s g.block).outs (give (refetch s g.block).state g.block stamp keep)) (still s)
        (λ room. by_test Given (is_some h.fetch) (tokens_ask dropped g.block Copy) (still s)
        (λ some. by_test Given (nat_lt s.req u32_end) (record { state = u; outs = outs }) (still dropped)
        (λ _.
        let m = record l { held = unfetched h } in
        let one = drops_fetch-goes logs g end w l r.shows in
        let zero_ = unheld_rank h.mode ((r.sound.each g.block).fetch_unheld some) in
        let two = asks-goes logs g end one.world m Copy (shown_on logs g end w [] m [] one) refl (omega arith)
        (end_on logs w one.world g.client end one.frame r.settled) in
        let both = goes_through logs g end w m (record m { req = s.req + 1; held = held_ask (unfetched h) (s.req + 1) Copy }) [] outs one two in
        let t : Goes logs g end w (local_of u g.block) outs = subst (λ k. Goes logs g end w (record l { req = s.req + 1; held = k }) outs) (sym now) both in
        let epoch = epoch_on logs g end w t.world t.frame in
        goes_through logs g end w (local_of u g.block) _ outs _ t
        (give-there t.world u stamp keep (shown_on logs g end w [] (local_of u g.block) outs t) (omega arith) (sent_on g w t.world stamp keep t.frame sent) same
        (ap (λ (k : Held). is_later stamp k.stamp) now ∙ later) (ap (λ (k : Held). is_none k.fetch) now)
        (end_on logs w t.world g.client end t.frame r.settled)))
        (λ full. contrary (sym full ∙ none_or h.fetch (nat_lt s.req u32_end) some room)))
        (λ none. give-there w s stamp keep r.shows (omega arith) sent same later (none_by h.fetch none) r.settled))
        (λ _. stays)

    pub on_recalled-here : (stamp : Stamp) (keep : Bool) → SentRecall g.client w stamp keep → At (on_recalled s g.block stamp keep)
    unfolding on_recalled recalled recalled_again
    on_recalled-here stamp keep sent =
        by_test At (is_promised s g.block stamp) (recalled s g.block stamp keep) (still s)
        (λ same. let epoch : stamp.epoch ≡ l.promised = sym (eqb-true l.promised stamp.epoch same) in
        by_test At (is_later stamp h.stamp) (recalled_above s g.block stamp keep) (recalled_again s g.block stamp)
        (λ later. recalled_above-here stamp keep sent epoch later)
        (λ _. by_test At (was_answered h stamp) (record { state = s; outs = Gave g.block stamp ∷ [] }) (still s)
        (λ t. gives_again-goes logs g end w l stamp keep r.shows r.promised sent epoch
        (one_stamp h.stamp stamp (and_first ((h.stamp.epoch == stamp.epoch) && (h.stamp.turn == stamp.turn)) (is_none h.giving) t)) r.settled)
        (λ _. stays)))
        (λ _. stays)
