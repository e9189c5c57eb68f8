-- A call on blocks that isn't answered awaits what it lacks, as far as the call itself shows.
use Rattle.std.proofs.Common.{◌≡◌, ◌⊎◌, ◌<◌, ◌≤◌, ℕ, suc, ◌+◌, ◌==◌, ◌&&◌, nat_eq, nat_lt, Bool, true, false, cond, List, [], ◌∷◌, length, Option, Some, None, is_some, is_none, inl, inr, refl, sym, ap, subst, ◌∙◌, arith}
use Rattle.std.proofs.lemmas.Bool.{eqb-true, lt-ltb, ltb-false}
use Rattle.client_call.specs.declared.call.Call.{Call}
use Rattle.client_call.specs.Fitting.{put_fits}
use Rattle.client_log.specs.LogState.{LogState}
use Rattle.client_log.specs.Transition as log
use Rattle.client_log.specs.Transition.{has_next, log_seal, on_seal}
use Rattle.client_running.specs.Blocks.{Made, blocks_let_go, changed, changes, blocks_change, got, blocks_get, held_back, is_settled, blocks_make, blocks_need, blocks_put, puts_again, blocks_put_at, blocks_sync}
use Rattle.client_serving.specs.declared.serving.Serving.{Serving}
use Rattle.client_serving.specs.Flights.{held_at}
use Rattle.client_serving.specs.Follow.{note_gone, serving_seal}
use Rattle.file_plan.specs.declared.block_call.BlockAnswer.{BlockAnswer}
use Rattle.file_plan.specs.declared.block_call.BlockAnswer.TheVariants.{Synced}
use Rattle.file_plan.specs.declared.block_call.BlockCall.{BlockCall}
use Rattle.file_plan.specs.declared.block_call.BlockCall.TheVariants.{Get, Put, PutAt, Sync}
use Rattle.log_flight.specs.declared.dirty.Change.{Change}
use Rattle.log_flight.specs.Flights.{FlightState}
use Rattle.token_client.proofs.Tables.{held_of-put_itself}
use Rattle.token_client.specs.declared.held.Held.{Held}
use Rattle.token_client.specs.Held.{let_go, may_evict, may_write, must_ask}
use Rattle.token_client.specs.State.{TokensState, held_of, with_held}
use Rattle.token_client.specs.Transition as tokens
use Rattle.token_client.specs.Transition.{on_evict}
use Rattle.xfs_base.proofs.Booleans.{by_test, contrary}
use Rattle.xfs_base.specs.declared.block.BlockId.{BlockId}
use Rattle.xfs_base.specs.declared.token.Mode.{Mode}
use Rattle.xfs_base.specs.declared.token.Mode.TheVariants.{Copy, Own}
use Rattle.xfs_base.specs.Limits.{u32_end, u64_end}
use Rattle.xfs_base.specs.Modes.{is_nothing, is_own}
use Rattle.xfs_base.specs.Steps.{still}
use Rattle.run_answers.proofs.wait_law.Needs.{has_asked}
use Rattle.headline.specs.Waits.{AwaitsSettled, FitsNone}

-- it need not ask for the block in this mode, or the numbers of wants have come to their end
abbrev pub NeedsNone : Serving → BlockId → Mode → Type 0
NeedsNone s block mode = (must_ask (held_at s block) mode ≡ false) ⊎ (u32_end ≤ s.tokens.req)

abbrev pub BarredFrom : Serving → BlockId → Type 0
BarredFrom s block = (may_write (held_at s block) ≡ false) × NeedsNone s block Own

-- so it awaits what it lacks
abbrev pub AwaitsSo : Serving → BlockCall → Type 0
AwaitsSo s (Get block) = (is_nothing (held_at s block).mode ≡ true) × NeedsNone s block Copy
AwaitsSo s (Put block value) = BarredFrom s block ⊎ FitsNone s block value
AwaitsSo s (PutAt block ver value) = BarredFrom s block ⊎ (((held_at s block).ver ≡ ver) × FitsNone s block value)
AwaitsSo s Sync = AwaitsSettled s

-- ---- a block that is let go keeps its version

module _ (block : BlockId) where
  evict_ver : (t : TokensState) → (held_of (on_evict t block).state.blocks block).ver ≡ (held_of t.blocks block).ver
  unfolding on_evict
  evict_ver t =
      by_test (λ (d : tokens.Done). (held_of d.state.blocks block).ver ≡ (held_of t.blocks block).ver) (may_evict (held_of t.blocks block))
      (still (with_held t block (let_go (held_of t.blocks block)))) (still t)
      (λ _. ap (λ (k : Held). k.ver) (held_of-put_itself block (let_go (held_of t.blocks block)) t.blocks)) (λ _. refl)

  gone_ver : (s : Serving) → (held_at (note_gone s block) block).ver ≡ (held_at s block).ver
  unfolding note_gone
  gone_ver s =
      by_test (λ (t : Serving). (held_at t block).ver ≡ (held_at s block).ver) (is_nothing (held_of s.tokens.blocks block).mode)
      _ s (λ _. refl) (λ _. refl)

  let_go_ver : (s : Serving) → (held_at (blocks_let_go s block) block).ver ≡ (held_at s block).ver
  let_go_ver s =
      by_test (λ (t : Serving). (held_at t block).ver ≡ (held_at s block).ver) (is_none (held_at s block).value)
      (note_gone (record s { tokens = (on_evict s.tokens block).state }) block) s
      (λ _. gone_ver (record s { tokens = (on_evict s.tokens block).state }) ∙ evict_ver s.tokens) (λ _. refl)

-- ---- a log that was sealed

none_left : (a b c : Bool) → (a && b && c) ≡ false → a ≡ true → b ≡ true → c ≡ false
none_left true true c barred one two = barred
none_left true false c barred one two = contrary two
none_left false b c barred one two = contrary one

positive : (n : ℕ) → 0 < suc n
positive n = omega arith

some_wait : (dirty : List (BlockId × Change)) → (length dirty == 0) ≡ false → nat_lt 0 (length dirty) ≡ true
some_wait [] waits = absurd (let clash : true ≡ false = waits in cc)
some_wait (c ∷ dirty) waits = lt-ltb 0 (length (c ∷ dirty)) (positive (length dirty))

module _ (l : LogState) where
  abbrev FliesSo : LogState → Type 0
  FliesSo x = (is_none x.flight && (length x.dirty == 0)) ≡ false → (is_some x.flight ≡ true) ⊎ (u32_end ≤ x.end.seq)

  stays_so : (o : Option FlightState) → (is_none o && nat_lt 0 (length l.dirty) && has_next l.end.seq) ≡ false → (is_none o && (length l.dirty == 0)) ≡ false
      → (is_some o ≡ true) ⊎ (u32_end ≤ l.end.seq)
  stays_so (Some f) barred waits = inl refl
  stays_so None barred waits =
      inr (ltb-false l.end.seq u32_end (none_left true (nat_lt 0 (length l.dirty)) (has_next l.end.seq) barred refl (some_wait l.dirty waits)))

  seals_so : FliesSo (log_seal l).state
  unfolding log_seal log.log_launch
  seals_so waits = inl refl

  seal_flies : FliesSo (on_seal l).state
  unfolding on_seal
  seal_flies =
      by_test (λ (d : log.Done). FliesSo d.state) (is_none l.flight && nat_lt 0 (length l.dirty) && has_next l.end.seq) (log_seal l) (still l) (λ _. seals_so)
      (λ barred waits. stays_so l.flight barred waits)

-- ---- a call on blocks that isn't answered

module _ (u : Serving) (call : Call) where
  -- with the call open again
  abbrev with_call : Made → Serving
  with_call m = record m.done.state { call = Some call }

  -- where it isn't answered, it awaits this
  abbrev MadeWaits : BlockCall → Made → Type 0
  MadeWaits step m = m.answer ≡ None → AwaitsSo (with_call m) step

  -- an answer is one
  answered_so : (step : BlockCall) (m : Made) (a : BlockAnswer) → m.answer ≡ Some a → MadeWaits step m
  answered_so step m a is none = absurd (let clash : Some a ≡ None = sym is ∙ none in cc)

  get_waits : (block : BlockId) → MadeWaits (Get block) (blocks_get u block)
  unfolding blocks_get
  get_waits block =
      by_test (MadeWaits (Get block)) (is_nothing (held_at u block).mode) (blocks_need u block Copy) (got u block (held_at u block))
      (λ nothing none. (let i = has_asked u block Copy in (ap is_nothing i.mode ∙ nothing, i.asked_for))) (λ _ none. absurd cc)

  -- it needs to own the block
  own_waits : (block : BlockId) → may_write (held_at u block) ≡ false → BarredFrom (with_call (blocks_need u block Own)) block
  own_waits block barred =
      let i = has_asked u block Own in (
        ap (λ m. (is_own m && is_none (held_at (with_call (blocks_need u block Own)) block).giving) && nat_lt (held_at (with_call (blocks_need u block Own)) block).ver u64_end) i.mode
            ∙ (ap (λ g. (is_own (held_at u block).mode && is_none g) && nat_lt (held_at (with_call (blocks_need u block Own)) block).ver u64_end) i.giving
            ∙ (ap (λ v. (is_own (held_at u block).mode && is_none (held_at u block).giving) && nat_lt v u64_end) i.ver ∙ barred)),
        i.asked_for,
      )

  -- what no segment can hold isn't written
  fit_waits : (step : BlockCall) (block : BlockId) (value : Option (List ℕ))
      → ((t : Serving) → (held_at t block).ver ≡ (held_at u block).ver → FitsNone t block value → AwaitsSo t step) → MadeWaits step (blocks_change u block value)
  unfolding blocks_change changes
  fit_waits step block value so =
      by_test (MadeWaits step) (put_fits block ((held_at u block).ver + 1) value) (changes u block value) (held_back u block) (λ _ none. absurd cc)
      (λ fails none. so (with_call (held_back u block)) (let_go_ver block u)
      (subst (λ (v : ℕ). put_fits block (v + 1) value ≡ false) (sym (let_go_ver block u)) fails))

  put_waits : (block : BlockId) (value : Option (List ℕ)) → MadeWaits (Put block value) (blocks_put u block value)
  unfolding blocks_put
  put_waits block value =
      by_test (MadeWaits (Put block value)) (may_write (held_at u block)) (blocks_change u block value) (blocks_need u block Own)
      (λ _. fit_waits (Put block value) block value (λ t same fails. inr fails)) (λ fails none. inl (own_waits block fails))

  put_at_waits : (block : BlockId) (ver : ℕ) (value : Option (List ℕ)) → MadeWaits (PutAt block ver value) (blocks_put_at u block ver value)
  unfolding blocks_put_at
  put_at_waits block ver value =
      by_test (MadeWaits (PutAt block ver value)) (may_write (held_at u block)) (puts_again u block ver value) (blocks_need u block Own)
      (λ _.
      by_test (MadeWaits (PutAt block ver value)) (nat_eq (held_at u block).ver ver) (blocks_change u block value) (changed u block)
      (λ at. fit_waits (PutAt block ver value) block value (λ t same fails. inr (same ∙ eqb-true (held_at u block).ver ver at, fails))) (λ _ none. absurd cc))
      (λ fails none. inl (own_waits block fails))

  sync_flies : is_settled (serving_seal u).state ≡ false → (is_some (serving_seal u).state.log.flight ≡ true) ⊎ (u32_end ≤ (serving_seal u).state.log.end.seq)
  unfolding serving_seal
  sync_flies = seal_flies u.log

  sync_waits : MadeWaits Sync (blocks_sync u)
  unfolding blocks_sync
  sync_waits = by (is_settled (serving_seal u).state) refl
    where
      ends : is_settled (serving_seal u).state ≡ false → (is_some (serving_seal u).state.log.flight ≡ true) ⊎ (u32_end ≤ (serving_seal u).state.log.end.seq)
          → AwaitsSettled (serving_seal u).state
      ends is (inl flight) = inl flight
      ends is (inr end) = inr (is, end)

      by : (t : Bool) → is_settled (serving_seal u).state ≡ t → cond t (Some Synced) None ≡ None → AwaitsSettled (serving_seal u).state
      by true is none = absurd cc
      by false is none = ends is (sync_flies is)

  pub step_waits : (step : BlockCall) → MadeWaits step (blocks_make u step)
  unfolding blocks_make
  step_waits (Get block) = get_waits block
  step_waits (Put block value) = put_waits block value
  step_waits (PutAt block ver value) = put_at_waits block ver value
  step_waits Sync = sync_waits
