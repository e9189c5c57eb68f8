-- What is asked of a fact of a client's tokens, log and cache, so that all that a client does keeps it; and the first of it: what the
-- tokens say is done, and a block is taken back.
use Rattle.std.proofs.Common.{◌≡◌, ℕ, Bool, true, false, ◌&&◌, List, [], ◌∷◌, ◌++◌, Option, None, is_some, refl, sym, ap, subst, ◌∙◌}
use Rattle.std.specs.List.{AllByRecursion}
use Rattle.client_log.specs.declared.input.In as log_in
use Rattle.client_log.specs.declared.input.In.TheVariants as log_ins
use Rattle.client_log.specs.LogState.{LogState}
use Rattle.client_log.specs.Transition.{on_seal}
use Rattle.client_running.specs.Blocks.{changes}
use Rattle.client_serving.specs.declared.serving.Serving.{Serving}
use Rattle.client_serving.specs.Flights.{held_at, serving_write}
use Rattle.client_serving.specs.Follow.{serving_follow, follow_one, hand, note_clean, note_gone, serving_seal, take_back}
use Rattle.client_serving.specs.Reads.{ends_reading}
use Rattle.client_serving.specs.Sends as client
use Rattle.coop_cache.specs.CacheState.{CacheState}
use Rattle.coop_cache.specs.Transition.{cache_leave, touch}
use Rattle.group_map.specs.GroupMapState.{GroupMapState}
use Rattle.token_client.specs.declared.held.Held.{Held}
use Rattle.token_client.specs.declared.output.Out.{Out}
use Rattle.token_client.specs.declared.output.Out.TheVariants.{Want, Gave, Supply, Flush, Read, Ready}
use Rattle.token_client.specs.Held.{give_up, is_asking, is_dirty, may_write, put_off}
use Rattle.token_client.specs.Laws.{IsSound}
use Rattle.node_base.specs.Room.{has_room}
use Rattle.token_client.specs.State.{TokensState, held_of, with_held}
use Rattle.token_client.specs.Transition.{Done, can_refetch, give, is_promised, on_evict, on_recalled, recalled, recalled_above, recalled_again, refetch, was_answered}
use Rattle.token_client.proofs.Tables.{held_of-put_itself}
use Rattle.xfs_base.specs.declared.block.BlockId.{BlockId}
use Rattle.xfs_base.specs.declared.token.Mode.TheVariants.{Nothing, Copy, Own}
use Rattle.xfs_base.specs.declared.token.Stamp.{Stamp}
use Rattle.xfs_base.specs.Modes.{is_held, is_nothing}
use Rattle.xfs_base.specs.Stamps.{is_later}
use Rattle.xfs_base.specs.Steps.{saying, still}
use Rattle.xfs_base.proofs.Booleans.{and_second, by_test, contrary}
use Rattle.xfs_base.proofs.Orders.{not_later_back, not_later_itself}
use Rattle.node_slots.proofs.client_law.Quiet.{GoesQuietly, IsQuiet, IsSilent, quiet_itself, quiet_still, refetch-quiet, refetch-stamp}

-- a fact of a client that serves: of its tokens, its log and its cache
abbrev pub Fact : Type 1
Fact = TokensState → LogState → CacheState → Type 0

abbrev pub At : Fact → Serving → Type 0
At P s = P s.tokens s.log s.cache

-- ---- how what is known of a block changes; its stamp doesn't fall

-- but for the recall that is put off, it is the same
pub record IsPutOff (h g : Held) : Type 0 where
  pub mode : g.mode ≡ h.mode
  pub ver : g.ver ≡ h.ver
  pub settled : g.settled ≡ h.settled
  pub stamp : is_later h.stamp g.stamp ≡ false

-- it isn't held any more
pub record IsLetGo (h g : Held) : Type 0 where
  pub mode : g.mode ≡ Nothing
  pub ver : g.ver ≡ h.ver
  pub settled : g.settled ≡ h.settled
  pub stamp : is_later h.stamp g.stamp ≡ false
  pub giving : is_some g.giving ≡ true → is_some h.giving ≡ true

-- it was held, and is a copy now
pub record IsLowered (h g : Held) : Type 0 where
  pub held : is_held h.mode ≡ true
  pub mode : g.mode ≡ Copy
  pub ver : g.ver ≡ h.ver
  pub settled : g.settled ≡ h.settled
  pub stamp : is_later h.stamp g.stamp ≡ false
  pub giving : is_some g.giving ≡ true → is_some h.giving ≡ true

-- it was asked for, and is a clean copy now
pub record IsCopied (h g : Held) : Type 0 where
  pub asks : is_asking h ≡ true
  pub unheld : h.mode ≡ Nothing
  pub mode : g.mode ≡ Copy
  pub clean : g.settled ≡ g.ver
  pub stamp : is_later h.stamp g.stamp ≡ false
  pub giving : g.giving ≡ h.giving

-- it was asked for, and is owned now, at a settled version
pub record IsOwned (h g : Held) : Type 0 where
  pub asks : is_asking h ≡ true
  pub mode : g.mode ≡ Own
  pub clean : g.settled ≡ g.ver
  pub stamp : is_later h.stamp g.stamp ≡ false
  pub giving : g.giving ≡ h.giving

-- ---- what keeps a fact

-- what tokens, log and cache do that gives nothing new to the client keeps the fact
pub record TakesKeep (P : Fact) : Type 0 where
  pub quiet : (t u : TokensState) (l : LogState) (c : CacheState) → IsQuiet t u → P t l c → P u l c
  pub puts_off : (t : TokensState) (l : LogState) (c : CacheState) (block : BlockId) (g : Held) → is_dirty (held_of t.blocks block) ≡ true
      → IsPutOff (held_of t.blocks block) g → P t l c → P (with_held t block g) l c
  pub lets : (t : TokensState) (l : LogState) (c : CacheState) (block : BlockId) (g : Held) → is_dirty (held_of t.blocks block) ≡ false
      → IsLetGo (held_of t.blocks block) g → P t l c → P (with_held t block g) l (cache_leave c block)
  pub lowers : (t : TokensState) (l : LogState) (c : CacheState) (block : BlockId) (g : Held) → is_dirty (held_of t.blocks block) ≡ false
      → IsLowered (held_of t.blocks block) g → P t l c → P (with_held t block g) l c
  pub leaves : (t : TokensState) (l : LogState) (c : CacheState) (block : BlockId) → is_nothing (held_of t.blocks block).mode ≡ true
      → P t l c → P t l (cache_leave c block)
  pub seals : (t : TokensState) (l : LogState) (c : CacheState) → P t l c → P t (on_seal l).state c

-- a log's input but for one of the client's own calls; maps that come are so
abbrev pub IsOuter : (GroupMapState → Type 0) → log_in.In → Type 0
IsOuter M (log_ins.Put block entry value) = ⊥
IsOuter M (log_ins.Parts items) = ⊥
IsOuter M log_ins.Seal = ⊥
IsOuter M (log_ins.Acked name index generation) = Unit {0}
IsOuter M (log_ins.Maps groups) = M groups
IsOuter M log_ins.Tick = Unit {0}

abbrev pub Sound : Serving → Type 0
Sound s = IsSound s.tokens

-- All that a client does keeps the fact. Between events it is `B`; within one it is `P` of how many segments may still be settled; and where
-- a block was just granted to be written, and nothing was written yet, it is `Q` of the block. Blocks that arrive are `A`, maps that come `M`.
pub record Keeps (A : BlockId → Type 0) (M : GroupMapState → Type 0) (B : Fact) (P : ℕ → Fact) (Q : BlockId → Fact) : Type 0 where
  pub begins : (t : TokensState) (l : LogState) (c : CacheState) → B t l c → has_room l.end.seq ≡ true → P 1 t l c
  pub less : (t : TokensState) (l : LogState) (c : CacheState) → P 1 t l c → P 0 t l c
  pub ends : (t : TokensState) (l : LogState) (c : CacheState) → P 0 t l c → B t l c
  pub takes : (n : ℕ) → TakesKeep (P n)
  pub touches : (t : TokensState) (l : LogState) (c : CacheState) (block : BlockId) → P 0 t l c → P 0 t l (touch c block)
  pub copies : (s : Serving) (block : BlockId) (g : Held) → A block → Sound s → IsCopied (held_at s block) g → At (P 1) s
      → At (P 1) (note_clean (record s { tokens = with_held s.tokens block g }) block)
  pub owns : (t : TokensState) (l : LogState) (c : CacheState) (block : BlockId) (g : Held) → A block → IsSound t → IsOwned (held_of t.blocks block) g
      → P 1 t l c
      → Q block (with_held t block g) l c
  pub logs : (s : Serving) (i : log_in.In) → IsOuter M i → Sound s → At (P 1) s → At (P 0) (serving_write s i).state
  pub puts : (s : Serving) (block : BlockId) (value : Option (List ℕ)) → Sound s → may_write (held_at s block) ≡ true → At (P 0) s
      → At (P 0) (changes s block value).done.state
  pub puts_owned : (s : Serving) (block : BlockId) (value : Option (List ℕ)) → Sound s → may_write (held_at s block) ≡ true → At (Q block) s
      → At (P 0) (changes s block value).done.state
  pub lets_owned : (s : Serving) (block : BlockId) → Sound s → At (Q block) s
      → At (P 0) (note_gone (record s { tokens = (on_evict s.tokens block).state }) block)

-- ---- what the tokens say

-- the tokens did this, and what they say is done
abbrev pub told : Serving → Done → client.Done
told s d = serving_follow (ends_reading (record s { tokens = d.state })) d.outs

-- what is silent leaves the client
pub serving_follow-silent : (s : Serving) (silent outs : List Out) → AllByRecursion IsSilent silent → (serving_follow s (silent ++ outs)).state ≡ (serving_follow s outs).state
unfolding serving_follow follow_one
serving_follow-silent s [] outs q = refl
serving_follow-silent s (Want block req again mode ∷ silent) outs q = serving_follow-silent s silent outs q.1
serving_follow-silent s (Gave block stamp ∷ silent) outs q = serving_follow-silent s silent outs q.1
serving_follow-silent s (Supply block ver value ∷ silent) outs q = serving_follow-silent s silent outs q.1
serving_follow-silent s (Flush block ∷ silent) outs q = absurd q.0
serving_follow-silent s (Read block place ∷ silent) outs q = absurd q.0
serving_follow-silent s (Ready block ∷ silent) outs q = absurd q.0

serving_follow-nothing : (s : Serving) (outs : List Out) → AllByRecursion IsSilent outs → (serving_follow s outs).state ≡ s
unfolding serving_follow follow_one
serving_follow-nothing s [] q = refl
serving_follow-nothing s (Want block req again mode ∷ outs) q = serving_follow-nothing s outs q.1
serving_follow-nothing s (Gave block stamp ∷ outs) q = serving_follow-nothing s outs q.1
serving_follow-nothing s (Supply block ver value ∷ outs) q = serving_follow-nothing s outs q.1
serving_follow-nothing s (Flush block ∷ outs) q = absurd q.0
serving_follow-nothing s (Read block place ∷ outs) q = absurd q.0
serving_follow-nothing s (Ready block ∷ outs) q = absurd q.0

module _ (P : Fact) (k : TakesKeep P) where
  -- what the tokens do quietly keeps the fact
  pub quiet-keeps : (s : Serving) (d : Done) → GoesQuietly s.tokens d → At P s → At P (told s d).state
  quiet-keeps s d q p =
      let u : Serving = ends_reading (record s { tokens = d.state }) in
      subst (At P) (sym (serving_follow-nothing u d.outs q.silent)) (k.quiet s.tokens d.state s.log s.cache q.quiet p)

  pub note_gone-keeps : (s : Serving) (block : BlockId) → At P s → At P (note_gone s block)
  unfolding note_gone
  note_gone-keeps s block p =
      by_test (At P) (is_nothing (held_of s.tokens.blocks block).mode) (record s { cache = cache_leave s.cache block }) s
      (λ t. k.leaves s.tokens s.log s.cache block t p) (λ t. p)

  pub serving_seal-keeps : (s : Serving) → At P s → At P (serving_seal s).state
  unfolding serving_seal
  serving_seal-keeps s p = k.seals s.tokens s.log s.cache p

  module _ (s : Serving) (p : At P s) (block : BlockId) where
    abbrev Back : Done → Type 0
    Back d = At P (note_gone (told s d).state block)

    back-quiet : (d : Done) → GoesQuietly s.tokens d → Back d
    back-quiet d q = note_gone-keeps (told s d).state block (quiet-keeps s d q p)

    module _ (stamp : Stamp) (keep : Bool) where
      abbrev asked_for : Done
      asked_for = refetch s.tokens block

      abbrev now : Held
      now = held_of asked_for.state.blocks block

      quietly : GoesQuietly s.tokens asked_for
      quietly = refetch-quiet s.tokens block

      still_so : P asked_for.state s.log s.cache
      still_so = k.quiet s.tokens asked_for.state s.log s.cache quietly.quiet p

      -- the client, with this known of the block
      abbrev with_block : Held → Serving
      with_block g = ends_reading (record s { tokens = with_held asked_for.state block g })

      put_off-same : IsPutOff now (put_off now stamp keep)
      put_off-same =
          by_test (IsPutOff now) _ now _ (λ t. record { mode = refl; ver = refl; settled = refl; stamp = not_later_itself now.stamp })
          (λ t. record { mode = refl; ver = refl; settled = refl; stamp = not_later_itself now.stamp })

      back-put_off : is_dirty now ≡ true
          → Back (saying asked_for.outs (record { state = with_held asked_for.state block (put_off now stamp keep); outs = Flush block ∷ [] }))
      unfolding serving_follow follow_one
      back-put_off dirty =
          let g : Held = put_off now stamp keep in
          let u : Serving = with_block g in
          subst (λ (v : Serving). At P (note_gone v block)) (sym (serving_follow-silent u asked_for.outs (Flush block ∷ []) quietly.silent))
          (note_gone-keeps (serving_seal u).state block (serving_seal-keeps u (k.puts_off asked_for.state s.log s.cache block g dirty put_off-same still_so)))

      gone : (g : Held) → is_dirty now ≡ false → IsLetGo now g → At P (note_gone (with_block g) block)
      unfolding note_gone
      gone g clean lets =
          let t : TokensState = with_held asked_for.state block g in
          by_test (At P) (is_nothing (held_of t.blocks block).mode) (record (with_block g) { cache = cache_leave s.cache block }) (with_block g)
          (λ x. k.lets asked_for.state s.log s.cache block g clean lets still_so)
          (λ x. contrary (sym x ∙ ap (λ (h : Held). is_nothing h.mode) (held_of-put_itself block g asked_for.state.blocks) ∙ ap is_nothing lets.mode))

      given : is_later now.stamp stamp ≡ false → is_dirty now ≡ false → At P (note_gone (with_block (give_up now stamp keep)) block)
      given rises clean =
          let low : Held = record now { mode = Copy; stamp = stamp; giving = None } in
          let none : Held = record now { mode = Nothing; value = None; stamp = stamp; giving = None } in
          by_test (λ (g : Held). At P (note_gone (with_block g) block)) (keep && is_held now.mode) low none
          (λ t. note_gone-keeps (with_block low) block
          (k.lowers asked_for.state s.log s.cache block low clean
          (record { held = and_second keep (is_held now.mode) t; mode = refl; ver = refl; settled = refl; stamp = rises; giving = λ x. contrary x }) still_so))
          (λ t. gone none clean (record { mode = refl; ver = refl; settled = refl; stamp = rises; giving = λ x. contrary x }))

      back-given : is_later now.stamp stamp ≡ false → is_dirty now ≡ false
          → Back (saying asked_for.outs (record { state = with_held asked_for.state block (give_up now stamp keep); outs = Gave block stamp ∷ [] }))
      unfolding serving_follow follow_one
      back-given rises clean =
          let u : Serving = with_block (give_up now stamp keep) in
          subst (λ (v : Serving). At P (note_gone v block)) (sym (serving_follow-silent u asked_for.outs (Gave block stamp ∷ []) quietly.silent)) (given rises clean)

      back-above : is_later stamp (held_of s.tokens.blocks block).stamp ≡ true → Back (recalled_above s.tokens block stamp keep)
      unfolding recalled_above give
      back-above later =
          let rises : is_later now.stamp stamp ≡ false =
          ap (λ a. is_later a stamp) (refetch-stamp s.tokens block) ∙ not_later_back (held_of s.tokens.blocks block).stamp stamp later in
          by_test Back (can_refetch s.tokens block) (saying asked_for.outs (give asked_for.state block stamp keep)) (still s.tokens)
          (λ t. by_test (λ (d : Done). Back (saying asked_for.outs d)) (is_dirty now)
          (record { state = with_held asked_for.state block (put_off now stamp keep); outs = Flush block ∷ [] })
          (record { state = with_held asked_for.state block (give_up now stamp keep); outs = Gave block stamp ∷ [] }) back-put_off (back-given rises))
          (λ t. back-quiet (still s.tokens) (quiet_still s.tokens))

      back-again : Back (recalled_again s.tokens block stamp)
      unfolding recalled_again
      back-again =
          by_test Back (was_answered (held_of s.tokens.blocks block) stamp) (record { state = s.tokens; outs = Gave block stamp ∷ [] }) (still s.tokens)
          (λ t. back-quiet (record { state = s.tokens; outs = Gave block stamp ∷ [] }) (record { quiet = quiet_itself s.tokens; silent = (tt, tt) }))
          (λ t. back-quiet (still s.tokens) (quiet_still s.tokens))

      back-recalled : Back (on_recalled s.tokens block stamp keep)
      unfolding on_recalled recalled
      back-recalled =
          by_test Back (is_promised s.tokens block stamp) (recalled s.tokens block stamp keep) (still s.tokens)
          (λ t. by_test Back (is_later stamp (held_of s.tokens.blocks block).stamp) (recalled_above s.tokens block stamp keep)
          (recalled_again s.tokens block stamp)
          (λ x. back-above x) (λ x. back-again))
          (λ t. back-quiet (still s.tokens) (quiet_still s.tokens))

      -- a block is taken back
      pub take_back-keeps : At P (take_back s block stamp keep).state
      unfolding take_back hand
      take_back-keeps = back-recalled
