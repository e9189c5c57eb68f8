-- Each transition leads to a state that follows: one lemma for each of them.
use Rattle.std.proofs.Common.{◌≡◌, ◌⊎◌, ℕ, ◌+◌, Bool, true, false, ◌&&◌, ◌==◌, not, List, [], ◌∷◌, Option, Some, None, is_some, is_none, refl, sym, ap, ◌∙◌, arith, nat_lt, nat_le}
use Rattle.std.proofs.Common.{inl, inr}
use Rattle.xfs_base.specs.declared.block.BlockId.{BlockId}
use Rattle.xfs_base.specs.declared.entry.Entry.{Entry}
use Rattle.xfs_base.specs.declared.entry.Place.{Place}
use Rattle.xfs_base.specs.declared.token.Mode.{Mode}
use Rattle.xfs_base.specs.declared.token.Mode.TheVariants.{Nothing, Copy, Own}
use Rattle.xfs_base.specs.declared.token.Stamp.{Stamp}
use Rattle.xfs_base.specs.Blocks.{slot_of}
use Rattle.xfs_base.specs.Steps.{still}
use Rattle.xfs_base.specs.Modes.{is_held, allows, is_own}
use Rattle.xfs_base.specs.Stamps.{is_later}
use Rattle.xfs_base.proofs.Booleans.{contrary, by_test, and_first, and_second, not_true}
use Rattle.xfs_base.proofs.Orders.{not_later_itself, not_later_back}
use Rattle.xfs_base.specs.Limits.{u32_end, u64_end}
use Rattle.token_client.specs.declared.held.Fetch.{Fetch}
use Rattle.token_client.specs.declared.held.Held.{Held}
use Rattle.token_client.specs.declared.held.Wanted.{Wanted}
use Rattle.token_client.specs.declared.output.Out.{Out}
use Rattle.token_client.specs.declared.output.Out.TheVariants.{Want, Gave, Flush, Ready}
use Rattle.token_client.specs.Held.{is_dirty, is_asking, must_ask, is_wanted, is_answer, may_write, is_settled_by, may_end_fetch, may_evict, held_ask, asked_again, take_grant, copy_of, end_fetch, held_write, version_settled, let_go, quit, put_off, give_up, gives_after, held_own, take_copy}
use Rattle.token_client.specs.Laws.{IsSound, IsSoundBlock}
use Rattle.token_client.specs.State.{TokensState, held_of, with_held, epoch_of}
use Rattle.token_client.specs.Transition.{Done, tokens_ask, on_need, accepts, is_promised, grant_next, on_granted, on_supplied, serves, supplies, on_forwarded, give, was_answered, recalled_again, on_wrote, on_settled, on_fetched, on_evict, on_reask, on_quit, is_spent, repeated, ask_again}
use Rattle.token_client.proofs.Follows.{Follows, follows_still, follows_put, follows_with}
use Rattle.token_client.proofs.SoundBlocks.{asks_by_want, asks_by_fetch, unheld_is_unowned, held_ask-sound, asked_again-sound, copy_of-sound, take_grant-sound, end_fetch-sound, held_write-sound, version_settled-sound, let_go-sound, quit-sound, put_off-sound, give_up-sound}

-- the epoch that a block's slot is promised to
abbrev pub epoch_at : TokensState → BlockId → ℕ
epoch_at s block = epoch_of s.epochs (slot_of block.ino.0)

-- what doesn't let a call do what it needs isn't Own
unowned_where_needed : (held needed : Mode) → allows held needed ≡ false → is_own held ≡ false
unowned_where_needed held Nothing h = contrary (sym h)
unowned_where_needed held Copy h = unheld_is_unowned held h
unowned_where_needed held Own h = h

-- a want that is answered is there, and the stamp is above the block's
pub answered_want : (w : Option Wanted) (req : ℕ) (mode : Mode) → is_wanted w req mode ≡ true → is_some w ≡ true
answered_want None req mode h = h
answered_want (Some w) req mode h = refl

granted_at : (h : Held) (stamp : Stamp) (mode : Mode) (entry : Entry) → (take_grant h stamp mode entry).stamp ≡ stamp
granted_at h stamp mode entry =
    by_test (λ (g : Held). g.stamp ≡ stamp) (is_own mode) (held_own h stamp entry.ver) (take_copy h stamp entry.ver entry.place) (λ t. refl)
    (λ t. copy_at entry.place)
  where
    copy_at : (place : Option Place) → (take_copy h stamp entry.ver place).stamp ≡ stamp
    copy_at None = refl
    copy_at (Some place) = refl

put_off-at : (h : Held) (stamp : Stamp) (keep : Bool) → (put_off h stamp keep).stamp ≡ h.stamp
put_off-at h stamp keep =
    by_test (λ (g : Held). g.stamp ≡ h.stamp) (gives_after h.giving stamp) h (record h { giving = Some (record { stamp = stamp; keep = keep }) }) (λ t. refl)
    (λ t. refl)

put_off-asks : (h : Held) (stamp : Stamp) (keep : Bool) → is_asking (put_off h stamp keep) ≡ true → is_asking h ≡ true
put_off-asks h stamp keep =
    by_test (λ (g : Held). is_asking g ≡ true → is_asking h ≡ true) (gives_after h.giving stamp) h
    (record h { giving = Some (record { stamp = stamp; keep = keep }) }) (λ t a. a) (λ t a. a)

give_up-at : (h : Held) (stamp : Stamp) (keep : Bool) → (give_up h stamp keep).stamp ≡ stamp
give_up-at h stamp keep =
    by_test (λ (g : Held). g.stamp ≡ stamp) (keep && is_held h.mode) (record h { mode = Copy; stamp = stamp; giving = None })
    (record h { mode = Nothing; value = None; stamp = stamp; giving = None }) (λ t. refl) (λ t. refl)

give_up-asks : (h : Held) (stamp : Stamp) (keep : Bool) → is_asking (give_up h stamp keep) ≡ true → is_asking h ≡ true
give_up-asks h stamp keep =
    by_test (λ (g : Held). is_asking g ≡ true → is_asking h ≡ true) (keep && is_held h.mode) (record h { mode = Copy; stamp = stamp; giving = None })
    (record h { mode = Nothing; value = None; stamp = stamp; giving = None }) (λ t a. a) (λ t a. a)

end_fetch-at : (h : Held) (fetch : Option Fetch) (value : Option (List ℕ)) → (end_fetch h fetch value).stamp ≡ h.stamp
end_fetch-at h None value = refl
end_fetch-at h (Some fetch) value = refl

module _ (opens : BlockId → Type 0) (s : TokensState) (p : IsSound s) where
  abbrev At : Done → Type 0
  At d = Follows opens s d.state

  stays : At (still s)
  stays = follows_still opens s p

  -- a want may be opened for a block that isn't owned and isn't being given up
  pub ask-follows : (block : BlockId) (mode : Mode) → is_own (held_of s.blocks block).mode ≡ false → is_none (held_of s.blocks block).giving ≡ true
      → (is_asking (held_of s.blocks block) ≡ true) ⊎ opens block → At (tokens_ask s block mode)
  unfolding tokens_ask
  ask-follows block mode unowned ungiven why =
      let h : Held = held_of s.blocks block in
      by_test At (nat_lt s.req u32_end)
      (record { state = record (with_held s block (held_ask h (s.req + 1) mode)) { req = s.req + 1 }; outs = Want block (s.req + 1) 0 mode ∷ [] }) (still s)
      (λ t. follows_put opens s block (held_ask h (s.req + 1) mode) (s.req + 1) p (omega arith)
      (record {
        sound = held_ask-sound (epoch_at s block) h (p.each block) (s.req + 1) mode unowned ungiven;
        stamp = not_later_itself h.stamp;
        opened = λ a. why;
      }))
      (λ t. stays)

  pub on_need-follows : (block : BlockId) (mode : Mode) → opens block → At (on_need s block mode)
  unfolding on_need
  on_need-follows block mode why =
      let h : Held = held_of s.blocks block in
      let free : Bool = not (is_asking h) && is_none h.giving in
      by_test At (must_ask h mode) (tokens_ask s block mode) (still s)
      (λ t. ask-follows block mode (unowned_where_needed h.mode mode (not_true (allows h.mode mode) (and_second free (not (allows h.mode mode)) t)))
      (and_second (not (is_asking h)) (is_none h.giving) (and_first free (not (allows h.mode mode)) t)) (inr why))
      (λ t. stays)

  -- what is put for an answer to the open want follows, where no want and no fetch is opened by it
  pub answer-follows : (block : BlockId) (stamp : Stamp) (inc req : ℕ) (mode : Mode) (g : Held) (outs : List Out) → accepts s block stamp inc req mode ≡ true
      → g.stamp ≡ stamp
      → (is_asking (held_of s.blocks block) ≡ true → IsSoundBlock (epoch_at s block) g) → At (record { state = with_held s block g; outs = outs })
  answer-follows block stamp inc req mode g outs t at sound =
      let h : Held = held_of s.blocks block in
      let answer : is_answer h stamp req mode ≡ true = and_second (is_promised s block stamp && (inc == s.inc)) (is_answer h stamp req mode) t in
      let asks : is_asking h ≡ true = asks_by_want h (answered_want h.want req mode (and_first (is_wanted h.want req mode) (is_later stamp h.stamp) answer)) in
      let above : is_later stamp h.stamp ≡ true = and_second (is_wanted h.want req mode) (is_later stamp h.stamp) answer in
      follows_with opens s block g p
      (record { sound = sound asks; stamp = ap (is_later h.stamp) at ∙ not_later_back h.stamp stamp above; opened = λ a. inl asks })

  pub on_granted-follows : (block : BlockId) (stamp : Stamp) (inc req : ℕ) (mode : Mode) (entry : Entry) → At (on_granted s block stamp inc req mode entry)
  unfolding on_granted
  on_granted-follows block stamp inc req mode entry =
      let h : Held = held_of s.blocks block in
      let outs : List Out = grant_next block mode entry.place ∷ [] in
      by_test At (accepts s block stamp inc req mode) (record { state = with_held s block (take_grant h stamp mode entry); outs = outs }) (still s)
      (λ t. answer-follows block stamp inc req mode (take_grant h stamp mode entry) outs t (granted_at h stamp mode entry)
      (take_grant-sound (epoch_at s block) h (p.each block) stamp mode entry))
      (λ t. stays)

  pub on_supplied-follows : (block : BlockId) (stamp : Stamp) (inc req : ℕ) (ver : ℕ) (value : Option (List ℕ))
      → At (on_supplied s block stamp inc req ver value)
  unfolding on_supplied
  on_supplied-follows block stamp inc req ver value =
      let h : Held = held_of s.blocks block in
      by_test At (accepts s block stamp inc req Copy) (record { state = with_held s block (copy_of h stamp ver value); outs = Ready block ∷ [] }) (still s)
      (λ t. answer-follows block stamp inc req Copy (copy_of h stamp ver value) (Ready block ∷ []) t refl
      (λ a. copy_of-sound (epoch_at s block) h (p.each block) stamp ver value ((p.each block).asks_ungiven a)))
      (λ t. stays)

  pub on_forwarded-follows : (block : BlockId) (stamp : Stamp) (ver : ℕ) → At (on_forwarded s block stamp ver)
  unfolding on_forwarded
  on_forwarded-follows block stamp ver =
      by_test At (serves s block stamp ver) (record { state = s; outs = supplies block ver (held_of s.blocks block).value }) (still s) (λ t. stays) (λ t. stays)

  -- what leaves the stamp, and opens no want and no fetch, follows where it is sound
  pub same-follows : (block : BlockId) (g : Held) → g.stamp ≡ (held_of s.blocks block).stamp → (is_asking g ≡ true → is_asking (held_of s.blocks block) ≡ true)
      → IsSoundBlock (epoch_at s block) g → Follows opens s (with_held s block g)
  same-follows block g at asks sound =
      let h : Held = held_of s.blocks block in
      follows_with opens s block g p (record { sound = sound; stamp = ap (is_later h.stamp) at ∙ not_later_itself h.stamp; opened = λ a. inl (asks a) })

  pub give-follows : (block : BlockId) (stamp : Stamp) (keep : Bool) → stamp.epoch ≡ epoch_at s block → is_later stamp (held_of s.blocks block).stamp ≡ true
      → At (give s block stamp keep)
  unfolding give
  give-follows block stamp keep promised above =
      let h : Held = held_of s.blocks block in
      by_test At (is_dirty h) (record { state = with_held s block (put_off h stamp keep); outs = Flush block ∷ [] })
      (record { state = with_held s block (give_up h stamp keep); outs = Gave block stamp ∷ [] })
      (λ t. same-follows block (put_off h stamp keep) (put_off-at h stamp keep) (put_off-asks h stamp keep)
      (put_off-sound (epoch_at s block) h (p.each block) stamp keep t promised above))
      (λ t. follows_with opens s block (give_up h stamp keep) p
      (record {
        sound = give_up-sound (epoch_at s block) h (p.each block) stamp keep t;
        stamp = ap (is_later h.stamp) (give_up-at h stamp keep) ∙ not_later_back h.stamp stamp above;
        opened = λ a. inl (give_up-asks h stamp keep a);
      }))

  pub recalled_again-follows : (block : BlockId) (stamp : Stamp) → At (recalled_again s block stamp)
  unfolding recalled_again
  recalled_again-follows block stamp =
      by_test At (was_answered (held_of s.blocks block) stamp) (record { state = s; outs = Gave block stamp ∷ [] }) (still s) (λ t. stays) (λ t. stays)

  pub on_wrote-follows : (block : BlockId) (value : Option (List ℕ)) → At (on_wrote s block value)
  unfolding on_wrote
  on_wrote-follows block value =
      let h : Held = held_of s.blocks block in
      let free : Bool = is_own h.mode && is_none h.giving in
      by_test At (may_write h) (still (with_held s block (held_write h value))) (still s)
      (λ t. same-follows block (held_write h value) refl (λ a. a)
      (held_write-sound (epoch_at s block) h (p.each block) value (and_first (is_own h.mode) (is_none h.giving) (and_first free (nat_lt h.ver u64_end) t))))
      (λ t. stays)

  pub on_settled-follows : (block : BlockId) (ver : ℕ) → At (on_settled s block ver)
  unfolding on_settled
  on_settled-follows block ver =
      let h : Held = held_of s.blocks block in
      by_test At (is_settled_by h ver) (still (with_held s block (version_settled h ver))) (still s)
      (λ t. same-follows block (version_settled h ver) refl (λ a. a)
      (version_settled-sound (epoch_at s block) h (p.each block) ver (and_first (nat_lt h.settled ver) (nat_le ver h.ver) t)
      (and_second (nat_lt h.settled ver) (nat_le ver h.ver) t)))
      (λ t. stays)

  pub on_fetched-follows : (block : BlockId) (value : Option (List ℕ)) → At (on_fetched s block value)
  unfolding on_fetched
  on_fetched-follows block value =
      let h : Held = held_of s.blocks block in
      by_test At (may_end_fetch h) (record { state = with_held s block (end_fetch h h.fetch value); outs = Ready block ∷ [] }) (still s)
      (λ t. let asks : is_asking h ≡ true = asks_by_fetch h (and_first (is_some h.fetch) (is_none h.want) t) in
      same-follows block (end_fetch h h.fetch value) (end_fetch-at h h.fetch value) (λ a. asks)
      (end_fetch-sound (epoch_at s block) h (p.each block) h.fetch value ((p.each block).asks_ungiven asks)))
      (λ t. stays)

  pub on_evict-follows : (block : BlockId) → At (on_evict s block)
  unfolding on_evict
  on_evict-follows block =
      let h : Held = held_of s.blocks block in
      by_test At (may_evict h) (still (with_held s block (let_go h))) (still s)
      (λ t. same-follows block (let_go h) refl (λ a. a)
      (let_go-sound (epoch_at s block) h (p.each block) (not_true (is_dirty h) (and_second (is_held h.mode) (not (is_dirty h)) t))))
      (λ t. stays)

  -- a copy may be asked for of a block that has a fetch
  pub ask_fetched-follows : (block : BlockId) → is_some (held_of s.blocks block).fetch ≡ true → At (tokens_ask s block Copy)
  ask_fetched-follows block t =
      let h : Held = held_of s.blocks block in
      let sound : IsSoundBlock (epoch_at s block) h = p.each block in
      let asks : is_asking h ≡ true = asks_by_fetch h t in
      ask-follows block Copy (unheld_is_unowned h.mode (sound.fetch_unheld t)) (sound.asks_ungiven asks) (inl asks)

  pub on_reask-follows : (block : BlockId) → At (on_reask s block)
  unfolding on_reask
  on_reask-follows block = by_test At (is_some (held_of s.blocks block).fetch) (tokens_ask s block Copy) (still s) (λ t. ask_fetched-follows block t) (λ t. stays)

  pub on_quit-follows : (block : BlockId) → At (on_quit s block)
  unfolding on_quit
  on_quit-follows block =
      let h : Held = held_of s.blocks block in
      by_test At (is_asking h) (still (with_held s block (quit h))) (still s)
      (λ t. same-follows block (quit h) refl (λ a. t) (quit-sound (epoch_at s block) h (p.each block))) (λ t. stays)

  repeated-follows : (block : BlockId) (w : Option Wanted) → (is_some w ≡ true → is_asking (held_of s.blocks block) ≡ true) → At (repeated s block w)
  repeated-follows block None asks = stays
  repeated-follows block (Some w) asks =
      let h : Held = held_of s.blocks block in
      same-follows block (asked_again h w) refl (λ a. asks refl) (asked_again-sound (epoch_at s block) h (p.each block) w (asks refl))

  pub ask_again-follows : (block : BlockId) → At (ask_again s block)
  unfolding ask_again
  ask_again-follows block =
      let h : Held = held_of s.blocks block in
      by_test At (is_spent h.want) (still s) (repeated s block h.want) (λ t. stays) (λ t. repeated-follows block h.want (asks_by_want h))
