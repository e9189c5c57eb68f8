-- No input lowers the version of a dirty block. Asking, giving, promises and ticks leave every version; what
-- a block takes for a want or a fetch it takes while it is clean.
use Rattle.std.proofs.Common.{◌≡◌, ◌≤◌, ℕ, ◌+◌, Bool, true, ◌&&◌, ◌==◌, List, [], ◌∷◌, Option, Some, None, is_some, is_none, refl, sym, ap, ◌∙◌, arith, nat_lt}
use Rattle.std.specs.List.{list_any}
use Rattle.std.specs.Map.{values_of}
use Rattle.xfs_base.specs.declared.block.BlockId.{BlockId}
use Rattle.xfs_base.specs.declared.token.Mode.{Mode}
use Rattle.xfs_base.specs.declared.token.Mode.TheVariants.{Nothing, Copy}
use Rattle.xfs_base.specs.declared.token.Stamp.{Stamp}
use Rattle.xfs_base.specs.Modes.{is_held}
use Rattle.xfs_base.specs.Stamps.{is_later}
use Rattle.xfs_base.specs.Steps.{still, saying, steps}
use Rattle.xfs_base.proofs.Booleans.{contrary, by_test, and_first, and_second}
use Rattle.xfs_base.proofs.StepLoops.{steps_keep}
use Rattle.xfs_base.specs.Limits.{u32_end}
use Rattle.token_client.specs.declared.held.Held.{Held}
use Rattle.token_client.specs.declared.held.Wanted.{Wanted}
use Rattle.token_client.specs.declared.input.In.{In}
use Rattle.token_client.specs.declared.input.In.TheVariants.{Need, Granted, Supplied, Forwarded, Recalled, Wrote, Settled, Fetched, Evict, Reask, Quit, Promise, Tick}
use Rattle.token_client.specs.declared.output.Out.{Out}
use Rattle.token_client.specs.declared.output.Out.TheVariants.{Want, Gave, Flush, Ready}
use Rattle.token_client.specs.Held.{is_dirty, is_asking, must_ask, is_wanted, is_answer, may_write, is_settled_by, may_end_fetch, may_evict, held_ask, asked_again, take_grant, copy_of, end_fetch, held_write, version_settled, let_go, quit, unfetched, drop_promised, gives_after, put_off, give_up}
use Rattle.token_client.specs.Laws.{IsSound, DirtyVersionsNeverFall}
use Rattle.token_client.specs.State.{TokensState, held_of, with_held, is_in_slot}
use Rattle.token_client.specs.Transition.{Done, tokens_ask, on_need, accepts, is_promised, grant_next, on_granted, on_supplied, serves, supplies, on_forwarded, refetch, give, can_refetch, recalled_above, was_answered, recalled_again, recalled, on_recalled, on_wrote, on_settled, on_fetched, on_evict, on_reask, on_quit, fetched_blocks, raised, ask_copy, may_promise, on_promise, is_spent, repeated, ask_again, wanted_blocks, on_tick, transition}
use Rattle.token_client.proofs.Promises.{dropped-known}
use Rattle.token_client.proofs.SoundBlocks.{asks_by_want, asks_by_fetch}
use Rattle.token_client.proofs.Tables.{put_each, put_same}
use Rattle.token_client.proofs.Transitions.{answered_want}

abbrev ver_in : TokensState → BlockId → ℕ
ver_in s b = (held_of s.blocks b).ver

-- ---- what leaves every version

abbrev Keeps : TokensState → TokensState → Type 0
Keeps s t = (b : BlockId) → ver_in t b ≡ ver_in s b

keeps_put : (s : TokensState) (block : BlockId) (g : Held) → g.ver ≡ ver_in s block → Keeps s (with_held s block g)
keeps_put s block g same b = put_same (λ (h : Held). h.ver) b block g s.blocks same

ask-keeps : (s : TokensState) (block : BlockId) (mode : Mode) → Keeps s (tokens_ask s block mode).state
unfolding tokens_ask
ask-keeps s block mode =
    let g : Held = held_ask (held_of s.blocks block) (s.req + 1) mode in
    by_test (λ (d : Done). Keeps s d.state) (nat_lt s.req u32_end)
    (record { state = record (with_held s block g) { req = s.req + 1 }; outs = Want block (s.req + 1) 0 mode ∷ [] }) (still s) (λ _. keeps_put s block g refl)
    (λ _ b. refl)

refetch-keeps : (s : TokensState) (block : BlockId) → Keeps s (refetch s block).state
unfolding refetch
refetch-keeps s block =
    let g : Held = unfetched (held_of s.blocks block) in
    by_test (λ (d : Done). Keeps s d.state) (is_some (held_of s.blocks block).fetch) (tokens_ask (with_held s block g) block Copy) (still s)
    (λ _ b. ask-keeps (with_held s block g) block Copy b ∙ keeps_put s block g refl b) (λ _ b. refl)

put_off-ver : (h : Held) (stamp : Stamp) (keep : Bool) → (put_off h stamp keep).ver ≡ h.ver
put_off-ver h stamp keep =
    by_test (λ (g : Held). g.ver ≡ h.ver) (gives_after h.giving stamp) h (record h { giving = Some (record { stamp = stamp; keep = keep }) }) (λ _. refl)
    (λ _. refl)

give_up-ver : (h : Held) (stamp : Stamp) (keep : Bool) → (give_up h stamp keep).ver ≡ h.ver
give_up-ver h stamp keep =
    by_test (λ (g : Held). g.ver ≡ h.ver) (keep && is_held h.mode) (record h { mode = Copy; stamp = stamp; giving = None })
    (record h { mode = Nothing; value = None; stamp = stamp; giving = None }) (λ _. refl) (λ _. refl)

give-keeps : (s : TokensState) (block : BlockId) (stamp : Stamp) (keep : Bool) → Keeps s (give s block stamp keep).state
unfolding give
give-keeps s block stamp keep =
    let h : Held = held_of s.blocks block in
    by_test (λ (d : Done). Keeps s d.state) (is_dirty h) (record { state = with_held s block (put_off h stamp keep); outs = Flush block ∷ [] })
    (record { state = with_held s block (give_up h stamp keep); outs = Gave block stamp ∷ [] })
    (λ _. keeps_put s block (put_off h stamp keep) (put_off-ver h stamp keep)) (λ _. keeps_put s block (give_up h stamp keep) (give_up-ver h stamp keep))

recalled-keeps : (s : TokensState) (block : BlockId) (stamp : Stamp) (keep : Bool) → Keeps s (on_recalled s block stamp keep).state
unfolding on_recalled recalled recalled_above recalled_again
recalled-keeps s block stamp keep =
    let K : Done → Type 0 = λ d. Keeps s d.state in
    let given : Done = give (refetch s block).state block stamp keep in
    by_test K (is_promised s block stamp) (recalled s block stamp keep) (still s)
    (λ _. by_test K (is_later stamp (held_of s.blocks block).stamp) (recalled_above s block stamp keep) (recalled_again s block stamp)
    (λ _. by_test K (can_refetch s block) (saying (refetch s block).outs given) (still s)
    (λ _ b. give-keeps (refetch s block).state block stamp keep b ∙ refetch-keeps s block b) (λ _ b. refl))
    (λ _. by_test K (was_answered (held_of s.blocks block) stamp) (record { state = s; outs = Gave block stamp ∷ [] }) (still s) (λ _ b. refl) (λ _ b. refl)))
    (λ _ b. refl)

raised-keeps : (s : TokensState) (slot epoch : ℕ) → Keeps s (raised s slot epoch)
raised-keeps s slot epoch b =
    let h : Held = held_of s.blocks b in
    ap (λ (g : Held). g.ver) (dropped-known s slot b) ∙ by_test (λ (g : Held). g.ver ≡ h.ver) (is_in_slot slot b) (drop_promised h) h (λ _. refl) (λ _. refl)

promise-keeps : (s : TokensState) (slot epoch : ℕ) → Keeps s (on_promise s slot epoch).state
unfolding on_promise
promise-keeps s slot epoch =
    by_test (λ (d : Done). Keeps s d.state) (may_promise s slot epoch) (steps ask_copy (raised s slot epoch) (fetched_blocks slot s.blocks)) (still s)
    (λ _. steps_keep ask_copy (Keeps s) (λ t block so_far b. ask-keeps t block Copy b ∙ so_far b) (raised s slot epoch) (fetched_blocks slot s.blocks)
    (raised-keeps s slot epoch))
    (λ _ b. refl)

repeated-keeps : (s : TokensState) (block : BlockId) (w : Option Wanted) → Keeps s (repeated s block w).state
repeated-keeps s block None b = refl
repeated-keeps s block (Some w) b = keeps_put s block (asked_again (held_of s.blocks block) w) refl b

again-keeps : (s : TokensState) (block : BlockId) → Keeps s (ask_again s block).state
unfolding ask_again
again-keeps s block =
    by_test (λ (d : Done). Keeps s d.state) (is_spent (held_of s.blocks block).want) (still s) (repeated s block (held_of s.blocks block).want) (λ _ b. refl)
    (λ _. repeated-keeps s block (held_of s.blocks block).want)

tick-keeps : (s : TokensState) → Keeps s (on_tick s).state
unfolding on_tick
tick-keeps s =
    by_test (λ (d : Done). Keeps s d.state) (list_any (λ h. is_spent h.want) (values_of s.blocks)) (still s) (steps ask_again s (wanted_blocks s.blocks))
    (λ _ b. refl) (λ _. steps_keep ask_again (Keeps s) (λ t block so_far b. again-keeps t block b ∙ so_far b) s (wanted_blocks s.blocks) (λ b. refl))

-- ---- what lowers the version of no dirty block

abbrev Rises : TokensState → Done → Type 0
Rises s d = (b : BlockId) → is_dirty (held_of s.blocks b) ≡ true → ver_in s b ≤ ver_in d.state b

rises_kept : (s : TokensState) (d : Done) → Keeps s d.state → Rises s d
rises_kept s d keeps b _ = let same : ver_in d.state b ≡ ver_in s b = keeps b in omega arith

rises_still : (s : TokensState) → Rises s (still s)
rises_still s b _ = omega arith

rises_put : (s : TokensState) (block : BlockId) (g : Held) (outs : List Out) → (is_dirty (held_of s.blocks block) ≡ true → ver_in s block ≤ g.ver)
    → Rises s (record { state = with_held s block g; outs = outs })
rises_put s block g outs here = put_each (λ b h. is_dirty (held_of s.blocks b) ≡ true → ver_in s b ≤ h.ver) block g s.blocks here (λ b _. omega arith)

module _ (s : TokensState) (p : IsSound s) where
  -- what asks is clean
  asks_clean : (block : BlockId) → is_asking (held_of s.blocks block) ≡ true → is_dirty (held_of s.blocks block) ≡ true → {A : Type 0} → A
  asks_clean block asks dirty = contrary (sym ((p.each block).asks_clean asks) ∙ dirty)

  answer-rises : (block : BlockId) (stamp : Stamp) (inc req : ℕ) (mode : Mode) (g : Held) (outs : List Out) → accepts s block stamp inc req mode ≡ true
      → Rises s (record { state = with_held s block g; outs = outs })
  answer-rises block stamp inc req mode g outs t =
      let h : Held = held_of s.blocks block in
      let answer : is_answer h stamp req mode ≡ true = and_second (is_promised s block stamp && (inc == s.inc)) (is_answer h stamp req mode) t in
      let asks : is_asking h ≡ true = asks_by_want h (answered_want h.want req mode (and_first (is_wanted h.want req mode) (is_later stamp h.stamp) answer)) in
      rises_put s block g outs (λ dirty. asks_clean block asks dirty)

  fetched-rises : (block : BlockId) (value : Option (List ℕ)) → Rises s (on_fetched s block value)
  unfolding on_fetched
  fetched-rises block value =
      let h : Held = held_of s.blocks block in
      by_test (Rises s) (may_end_fetch h) (record { state = with_held s block (end_fetch h h.fetch value); outs = Ready block ∷ [] }) (still s)
      (λ t. rises_put s block (end_fetch h h.fetch value) (Ready block ∷ [])
      (λ dirty. asks_clean block (asks_by_fetch h (and_first (is_some h.fetch) (is_none h.want) t)) dirty)) (λ _. rises_still s)

  rises : (input : In) → Rises s (transition s input)
  unfolding on_need on_granted on_supplied on_forwarded on_wrote on_settled on_evict on_reask on_quit
  rises (Need block mode) =
      by_test (Rises s) (must_ask (held_of s.blocks block) mode) (tokens_ask s block mode) (still s)
      (λ _. rises_kept s (tokens_ask s block mode) (ask-keeps s block mode)) (λ _. rises_still s)
  rises (Granted block stamp inc req mode entry) =
      let g : Held = take_grant (held_of s.blocks block) stamp mode entry in
      let outs : List Out = grant_next block mode entry.place ∷ [] in
      by_test (Rises s) (accepts s block stamp inc req mode) (record { state = with_held s block g; outs = outs }) (still s)
      (λ t. answer-rises block stamp inc req mode g outs t) (λ _. rises_still s)
  rises (Supplied block stamp inc req ver value) =
      let g : Held = copy_of (held_of s.blocks block) stamp ver value in
      by_test (Rises s) (accepts s block stamp inc req Copy) (record { state = with_held s block g; outs = Ready block ∷ [] }) (still s)
      (λ t. answer-rises block stamp inc req Copy g (Ready block ∷ []) t) (λ _. rises_still s)
  rises (Forwarded block stamp ver) =
      by_test (Rises s) (serves s block stamp ver) (record { state = s; outs = supplies block ver (held_of s.blocks block).value }) (still s)
      (λ _ b _. omega arith) (λ _. rises_still s)
  rises (Recalled block stamp keep) = rises_kept s (on_recalled s block stamp keep) (recalled-keeps s block stamp keep)
  rises (Wrote block value) =
      let g : Held = held_write (held_of s.blocks block) value in
      by_test (Rises s) (may_write (held_of s.blocks block)) (still (with_held s block g)) (still s) (λ _. rises_put s block g [] (λ _. omega arith))
      (λ _. rises_still s)
  rises (Settled block ver) =
      let g : Held = version_settled (held_of s.blocks block) ver in
      by_test (Rises s) (is_settled_by (held_of s.blocks block) ver) (still (with_held s block g)) (still s) (λ _. rises_put s block g [] (λ _. omega arith))
      (λ _. rises_still s)
  rises (Fetched block value) = fetched-rises block value
  rises (Evict block) =
      let g : Held = let_go (held_of s.blocks block) in
      by_test (Rises s) (may_evict (held_of s.blocks block)) (still (with_held s block g)) (still s) (λ _. rises_put s block g [] (λ _. omega arith))
      (λ _. rises_still s)
  rises (Reask block) =
      by_test (Rises s) (is_some (held_of s.blocks block).fetch) (tokens_ask s block Copy) (still s)
      (λ _. rises_kept s (tokens_ask s block Copy) (ask-keeps s block Copy)) (λ _. rises_still s)
  rises (Quit block) =
      let g : Held = quit (held_of s.blocks block) in
      by_test (Rises s) (is_asking (held_of s.blocks block)) (still (with_held s block g)) (still s) (λ _. rises_put s block g [] (λ _. omega arith))
      (λ _. rises_still s)
  rises (Promise slot epoch) = rises_kept s (on_promise s slot epoch) (promise-keeps s slot epoch)
  rises Tick = rises_kept s (on_tick s) (tick-keeps s)

pub dirty_versions_never_fall : DirtyVersionsNeverFall
dirty_versions_never_fall s input block p dirty = rises s p input block dirty
