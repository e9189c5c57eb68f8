-- The open call runs: that keeps a fact of a client that serves; and it writes at once, or lets go, what was just granted to be written.
use Rattle.std.proofs.Common.{◌≡◌, inl, inr, ℕ, zero, suc, ◌+◌, ◌<◌, Bool, true, false, ◌==◌, List, Option, Some, None, is_some, is_none, refl, sym, ap, subst, ◌∙◌, arith}
use Rattle.client_call.specs.Calls.{plan_answered}
use Rattle.client_call.specs.declared.call.Call.{Call}
use Rattle.client_call.specs.declared.call.Going.TheVariants.{On, Ends}
use Rattle.client_call.specs.declared.call.Going.{Going}
use Rattle.client_call.specs.Fitting.{put_fits}
use Rattle.client_moves.proofs.Calls.{make_moves}
use Rattle.client_running.specs.Blocks.{Made, changed, changes, blocks_change, got, blocks_get, held_back, blocks_let_go, blocks_make, blocks_need, blocks_put, puts_again, blocks_put_at, blocks_sync}
use Rattle.client_serving.specs.declared.serving.Serving.{Serving}
use Rattle.client_serving.specs.Flights.{held_at}
use Rattle.client_serving.specs.Follow.{hand, note_gone}
use Rattle.client_running.specs.Running.{Ran, take_answer, running_go_on, most_steps, run, runs_call, run_once, run_upto}
use Rattle.client_serving.specs.Sends as client
use Rattle.file_plan.specs.declared.block_call.BlockAnswer.{BlockAnswer}
use Rattle.file_plan.specs.declared.block_call.BlockCall.{BlockCall}
use Rattle.file_plan.specs.declared.block_call.BlockCall.TheVariants.{Get, Put, PutAt, Sync}
use Rattle.group_map.specs.GroupMapState.{GroupMapState}
use Rattle.token_client.specs.declared.held.Held.{Held}
use Rattle.token_client.specs.Held.{is_dirty, let_go, may_evict, may_write}
use Rattle.token_client.specs.State.{held_of, with_held}
use Rattle.token_client.specs.Transition.{Done, on_evict, on_need}
use Rattle.token_client.proofs.Tables.{held_of-put_itself}
use Rattle.xfs_base.specs.declared.block.BlockId.{BlockId}
use Rattle.xfs_base.specs.declared.token.Mode.{Mode}
use Rattle.xfs_base.specs.declared.token.Mode.TheVariants.{Nothing, Copy, Own}
use Rattle.xfs_base.specs.Modes.{is_held, is_nothing}
use Rattle.xfs_base.specs.Steps.{saying, still}
use Rattle.xfs_base.proofs.Booleans.{and_second, by_test, contrary, not_true}
use Rattle.xfs_base.proofs.Orders.{not_later_itself}
use Rattle.node_slots.specs.node_tie.Asks.{needed, needed_by}
use Rattle.node_slots.proofs.client_law.Arriving.{IsFresh, KeptOrFresh}
use Rattle.node_slots.proofs.client_law.Keeping.{At, Fact, Keeps, Sound, TakesKeep, note_gone-keeps, quiet-keeps, serving_seal-keeps}
use Rattle.node_slots.proofs.client_law.Quiet.{on_need-quiet}
use Rattle.node_slots.proofs.client_law.Sounding.{running_go_on-sound, sound_by}

-- ---- a block without a value is let go

module _ (P : Fact) (k : TakesKeep P) (s : Serving) (block : BlockId) (p : At P s) where
  abbrev now : Held
  now = held_at s block

  abbrev without : Serving
  without = record s { tokens = with_held s.tokens block (let_go now) }

  let_go-keeps : is_dirty now ≡ false → At P (note_gone without block)
  unfolding note_gone
  let_go-keeps clean =
      by_test (At P) (is_nothing (held_of without.tokens.blocks block).mode) _ without
      (λ x. k.lets s.tokens s.log s.cache block (let_go now) clean
      (record { mode = refl; ver = refl; settled = refl; stamp = not_later_itself now.stamp; giving = λ g. g }) p)
      (λ x. contrary (sym x ∙ ap (λ (h : Held). is_nothing h.mode) (held_of-put_itself block (let_go now) s.tokens.blocks)))

  evicted-keeps : At P (note_gone (record s { tokens = (on_evict s.tokens block).state }) block)
  unfolding on_evict
  evicted-keeps =
      by_test (λ (d : Done). At P (note_gone (record s { tokens = d.state }) block)) (may_evict now) (still (with_held s.tokens block (let_go now)))
      (still s.tokens)
      (λ x. let_go-keeps (not_true (is_dirty now) (and_second (is_held now.mode) _ x))) (λ x. note_gone-keeps P k s block p)

  blocks_let_go-keeps : At P (blocks_let_go s block)
  blocks_let_go-keeps = by_test (At P) (is_none now.value) (note_gone (record s { tokens = (on_evict s.tokens block).state }) block) s (λ x. evicted-keeps) (λ x. p)

-- ---- the fact

module _ (A : BlockId → Type 0) (M : GroupMapState → Type 0) (B : Fact) (P : ℕ → Fact) (Q : BlockId → Fact) (k : Keeps A M B P Q) where
  abbrev T : TakesKeep (P 0)
  T = k.takes 0

  abbrev MadeSo : Made → Type 0
  MadeSo m = At (P 0) m.done.state

  module _ (s : Serving) (sound : Sound s) (p : At (P 0) s) (block : BlockId) where
    blocks_need-keeps : (mode : Mode) → MadeSo (blocks_need s block mode)
    unfolding hand
    blocks_need-keeps mode = quiet-keeps (P 0) T s (on_need s.tokens block mode) (on_need-quiet s.tokens block mode) p

    blocks_get-keeps : MadeSo (blocks_get s block)
    unfolding blocks_get
    blocks_get-keeps =
        by_test MadeSo (is_nothing (held_at s block).mode) (blocks_need s block Copy) (got s block (held_at s block)) (λ x. blocks_need-keeps Copy)
        (λ x. k.touches s.tokens s.log s.cache block p)

    blocks_change-keeps : (value : Option (List ℕ)) → may_write (held_at s block) ≡ true → MadeSo (blocks_change s block value)
    unfolding blocks_change
    blocks_change-keeps value may =
        by_test MadeSo (put_fits block ((held_at s block).ver + 1) value) (changes s block value) (held_back s block)
        (λ x. k.puts s block value sound may p) (λ x. blocks_let_go-keeps (P 0) T s block p)

    blocks_put-keeps : (value : Option (List ℕ)) → MadeSo (blocks_put s block value)
    unfolding blocks_put
    blocks_put-keeps value =
        by_test MadeSo (may_write (held_at s block)) (blocks_change s block value) (blocks_need s block Own) (λ x. blocks_change-keeps value x)
        (λ x. blocks_need-keeps Own)

    blocks_put_at-keeps : (ver : ℕ) (value : Option (List ℕ)) → MadeSo (blocks_put_at s block ver value)
    unfolding blocks_put_at
    blocks_put_at-keeps ver value =
        by_test MadeSo (may_write (held_at s block)) (puts_again s block ver value) (blocks_need s block Own)
        (λ x. by_test MadeSo ((held_at s block).ver == ver) (blocks_change s block value) (changed s block) (λ y. blocks_change-keeps value x)
        (λ y. blocks_let_go-keeps (P 0) T s block p)) (λ x. blocks_need-keeps Own)

  blocks_make-keeps : (s : Serving) (b : BlockCall) → Sound s → At (P 0) s → MadeSo (blocks_make s b)
  unfolding blocks_make blocks_sync
  blocks_make-keeps s (Get block) sound p = blocks_get-keeps s sound p block
  blocks_make-keeps s (Put block value) sound p = blocks_put-keeps s sound p block value
  blocks_make-keeps s (PutAt block ver value) sound p = blocks_put_at-keeps s sound p block ver value
  blocks_make-keeps s Sync sound p = serving_seal-keeps (P 0) T s p

  -- what was just granted is written, or let go
  module _ (s : Serving) (block : BlockId) (sound : Sound s) (may : may_write (held_at s block) ≡ true) (empty : is_none (held_at s block).value ≡ true)
      (q : At (Q block) s) where
    lets-fresh : At (P 0) (blocks_let_go s block)
    lets-fresh =
        by_test (At (P 0)) (is_none (held_at s block).value) (note_gone (record s { tokens = (on_evict s.tokens block).state }) block) s
        (λ z. k.lets_owned s block sound q) (λ z. contrary (sym z ∙ empty))

    fresh-change : (value : Option (List ℕ)) → MadeSo (blocks_change s block value)
    unfolding blocks_change
    fresh-change value =
        by_test MadeSo (put_fits block ((held_at s block).ver + 1) value) (changes s block value) (held_back s block)
        (λ x. k.puts_owned s block value sound may q) (λ x. lets-fresh)

    fresh-put : (value : Option (List ℕ)) → MadeSo (blocks_put s block value)
    unfolding blocks_put
    fresh-put value =
        by_test MadeSo (may_write (held_at s block)) (blocks_change s block value) (blocks_need s block Own) (λ x. fresh-change value)
        (λ x. contrary (sym x ∙ may))

    fresh-put_at : (ver : ℕ) (value : Option (List ℕ)) → MadeSo (blocks_put_at s block ver value)
    unfolding blocks_put_at
    fresh-put_at ver value =
        by_test MadeSo (may_write (held_at s block)) (puts_again s block ver value) (blocks_need s block Own)
        (λ x. by_test MadeSo ((held_at s block).ver == ver) (blocks_change s block value) (changed s block) (λ y. fresh-change value) (λ y. lets-fresh))
        (λ x. contrary (sym x ∙ may))

  abbrev block_in : BlockId → Option (BlockId × Mode) → BlockId
  block_in other None = other
  block_in other (Some e) = e.0

  abbrev is_to_write : Option (BlockId × Mode) → Bool
  is_to_write None = false
  is_to_write (Some (b, Nothing)) = false
  is_to_write (Some (b, Copy)) = false
  is_to_write (Some (b, Own)) = true

  -- a call that needs to write the block is a Put or a PutAt of it
  fresh-blocks_make : (s : Serving) (block : BlockId) (b : BlockCall) → needed_by b ≡ Some (block, Own) → Sound s → may_write (held_at s block) ≡ true
      → is_none (held_at s block).value ≡ true → At (Q block) s → MadeSo (blocks_make s b)
  unfolding blocks_make
  fresh-blocks_make s block (Get other) premise sound may empty q = contrary (ap is_to_write premise)
  fresh-blocks_make s block (Put other value) premise sound may empty q =
      let same : block ≡ other = sym (ap (block_in block) premise) in
      fresh-put s other sound (subst (λ c. may_write (held_at s c) ≡ true) same may) (subst (λ c. is_none (held_at s c).value ≡ true) same empty)
      (subst (λ c. At (Q c) s) same q) value
  fresh-blocks_make s block (PutAt other ver value) premise sound may empty q =
      let same : block ≡ other = sym (ap (block_in block) premise) in
      fresh-put_at s other sound (subst (λ c. may_write (held_at s c) ≡ true) same may) (subst (λ c. is_none (held_at s c).value ≡ true) same empty)
      (subst (λ c. At (Q c) s) same q) ver value
  fresh-blocks_make s block Sync premise sound may empty q = contrary (ap is_to_write premise)

  -- ---- the open call

  pub record Both (s : Serving) : Type 0 where
    pub sound : Sound s
    pub fact : At (P 0) s

  pub running_go_on-same : (s : Serving) (g : Going) → At (P 0) s → At (P 0) (running_go_on s g).state
  unfolding running_go_on
  running_go_on-same s (On call) p = p
  running_go_on-same s (Ends answer) p = p

  take_answer-both : (s : Serving) (call : Call) (a : Option BlockAnswer) → Both s → Both (take_answer s call a).done.state
  take_answer-both s call None p = record { sound = p.sound; fact = p.fact }
  take_answer-both s call (Some answer) p =
      record { sound = running_go_on-sound s (plan_answered call.plan answer) p.sound; fact = running_go_on-same s (plan_answered call.plan answer) p.fact }

  runs_call-both : (s : Serving) (c : Option Call) → Both s → Both (runs_call s c).done.state
  runs_call-both s None p = p
  runs_call-both s (Some call) p =
      let u : Serving = record s { call = None } in
      let m : Made = blocks_make u call.step in
      take_answer-both m.done.state call m.answer (record { sound = sound_by (make_moves u call.step) p.sound; fact = blocks_make-keeps u call.step p.sound p.fact })

  run_once-both : (s : Serving) → Both s → Both (run_once s).done.state
  unfolding run_once
  run_once-both s p = runs_call-both s s.call p

  -- the first call that is made uses what was just granted
  runs_call-fresh : (s : Serving) (c : Option Call) → needed c ≡ needed s.call → Sound s → IsFresh Q s → Both (runs_call s c).done.state
  runs_call-fresh s None premise sound f = contrary (ap is_some (premise ∙ f.needs))
  runs_call-fresh s (Some call) premise sound f =
      let u : Serving = record s { call = None } in
      let m : Made = blocks_make u call.step in
      take_answer-both m.done.state call m.answer
      (record { sound = sound_by (make_moves u call.step) sound; fact = fresh-blocks_make u f.block call.step (premise ∙ f.needs) sound f.may f.empty f.fact })

  run_once-fresh : (s : Serving) → Sound s → IsFresh Q s → Both (run_once s).done.state
  unfolding run_once
  run_once-fresh s sound f = runs_call-fresh s s.call refl sound f

  pub run_upto-both : (n : ℕ) (s : Serving) → Both s → Both (run_upto n s).state
  unfolding run_upto
  run_upto-both zero s p = p
  run_upto-both (suc n) s p =
      let r : Ran = run_once s in
      let q : Both r.done.state = run_once-both s p in
      by_test (λ (d : client.Done). Both d.state) r.goes (saying r.done.outs (run_upto n r.done.state)) r.done (λ t. run_upto-both n r.done.state q) (λ t. q)

  pub run_upto-fresh : (n : ℕ) (s : Serving) → 0 < n → Sound s → IsFresh Q s → Both (run_upto n s).state
  unfolding run_upto
  run_upto-fresh zero s some sound f = absurd (omega (arith, some))
  run_upto-fresh (suc n) s some sound f =
      let r : Ran = run_once s in
      let q : Both r.done.state = run_once-fresh s sound f in
      by_test (λ (d : client.Done). Both d.state) r.goes (saying r.done.outs (run_upto n r.done.state)) r.done (λ t. run_upto-both n r.done.state q) (λ t. q)

  -- the open call runs
  pub run-keeps : (s : Serving) → Sound s → KeptOrFresh A M B P Q k s → At (P 0) (run s).state
  unfolding run
  run-keeps s sound (inl p) = (run_upto-both most_steps s (record { sound = sound; fact = p })).fact
  run-keeps s sound (inr f) = (run_upto-fresh most_steps s (omega arith) sound f).fact
