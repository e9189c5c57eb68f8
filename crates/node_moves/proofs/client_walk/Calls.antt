-- What a client that serves does for the open call.
use Rattle.std.proofs.Common.{refl, ℕ, zero, suc, ◌+◌, ◌==◌, List, [], ◌∷◌, Option, Some, None, is_none}
use Rattle.std.specs.Prelude.{IfSome}
use Rattle.std.specs.List.{AllByRecursion}
use Rattle.client_call.specs.Blocks.{value_of}
use Rattle.coop_cache.specs.Transition.{cache_leave, touch}
use Rattle.client_log.specs.declared.input.In.TheVariants as log_in
use Rattle.client_call.specs.Calls.{plan_answered}
use Rattle.client_call.specs.declared.call.Call.{Call}
use Rattle.client_call.specs.declared.call.Going.TheVariants.{On, Ends}
use Rattle.client_call.specs.declared.call.Going.{Going}
use Rattle.client_call.specs.Fitting.{put_fits}
use Rattle.client_call.specs.Reads.{reading_in}
use Rattle.client_running.specs.Blocks.{Made, blocks_need, got, blocks_get, wrote, put_of, changes, held_back, blocks_change, blocks_put, blocks_let_go, changed, puts_again, blocks_put_at, is_settled, synced_acts, blocks_sync, blocks_make}
use Rattle.client_serving.specs.declared.serving.Serving.{Serving}
use Rattle.client_serving.specs.Flights.{held_at}
use Rattle.client_serving.specs.Follow.{note_gone, serving_seal}
use Rattle.client_running.specs.Running.{running_go_on, Ran, take_answer, ran, runs_call, run_once, run_upto, run, most_steps}
use Rattle.client_serving.specs.Sends.{Done}
use Rattle.file_plan.specs.declared.block_call.BlockAnswer.{BlockAnswer}
use Rattle.file_plan.specs.declared.block_call.BlockCall.{BlockCall}
use Rattle.file_plan.specs.declared.block_call.BlockCall.TheVariants.{Get, Put, PutAt, Sync}
use Rattle.node_base.specs.Beginning.{items_answer, answers_unanswered}
use Rattle.node_base.specs.declared.effects.Effect.{Effect}
use Rattle.node_base.specs.declared.effects.Effect.TheVariants.{Does}
use Rattle.token_client.specs.declared.input.In.TheVariants as input
use Rattle.token_client.specs.Held.{may_write}
use Rattle.token_client.specs.Transition as client
use Rattle.version_model.specs.declared.act.Act.TheVariants.{Wrote, Synced}
use Rattle.xfs_base.proofs.Booleans.{by_test}
use Rattle.xfs_base.specs.declared.block.BlockId.{BlockId}
use Rattle.xfs_base.specs.declared.token.Mode.{Mode}
use Rattle.xfs_base.specs.declared.token.Mode.TheVariants.{Copy, Own}
use Rattle.xfs_base.specs.Modes.{is_nothing}
use Rattle.xfs_base.specs.Steps.{saying}
use Rattle.node_moves.proofs.client_walk.Frames as frames
use Rattle.node_moves.proofs.client_walk.LogTurns.{put_rests}
use Rattle.node_moves.proofs.client_walk.Laws.{Walk}
use Rattle.node_moves.proofs.client_walk.Readings as readings
use Rattle.node_moves.proofs.client_walk.Flights as flights
use Rattle.node_moves.proofs.client_walk.Tokens as serving

module _ (w : Walk) where
  abbrev At : Serving → Type 0
  At s = w.Stands s

  abbrev Goes : Done → Type 0
  Goes d = serving.Goes w d

  -- ---- calls on blocks

  blocks_need_so : (s : Serving) (block : BlockId) (mode : Mode) → At s → Goes (blocks_need s block mode).done
  blocks_need_so s block mode h = serving.hand_so w s (input.Need block mode) tt h

  blocks_get_so : (s : Serving) (block : BlockId) → At s → Goes (blocks_get s block).done
  unfolding blocks_get
  blocks_get_so s block h =
      by_test (λ (m : Made). Goes m.done) (is_nothing (held_at s block).mode) (blocks_need s block Copy) (got s block (held_at s block))
      (λ t. blocks_need_so s block Copy h)
      (λ t. serving.plain_so w (got s block (held_at s block)).done.state (got s block (held_at s block)).done.outs
      (w.caches s (touch s.cache block) h) (w.has_read s.lasting.number block (held_at s block).ver (value_of (held_at s block)), tt))

  -- once the tokens have the write, the log takes it
  changes_so : (s : Serving) (block : BlockId) (value : Option (List ℕ)) → At s → Goes (changes s block value).done
  unfolding changes
  changes_so s block value h =
      let t : Serving = wrote s block value in
      frames.goes_after w.Says w.Acted w.Stands (Does (Wrote s.lasting.number block value) ∷ []) (put_of t block value) (w.wrote s.lasting.number block value, tt)
      (flights.rests_so w t (log_in.Put block (record { ver = (held_at t block).ver; hop = 0; place = None }) value)
      (w.caches (record s { tokens = (client.on_wrote s.tokens block value).state }) (cache_leave s.cache block) (w.tokens s (input.Wrote block value) tt h))
      (put_rests t.log block (record { entry = record { ver = (held_at t block).ver; hop = 0; place = None }; value = value })))

  blocks_let_go_so : (s : Serving) (block : BlockId) → At s → At (blocks_let_go s block)
  blocks_let_go_so s block h =
      let t : Serving = record s { tokens = (client.on_evict s.tokens block).state } in
      by_test (λ (u : Serving). At u) (is_none (held_at s block).value) (note_gone t block) s
      (λ e. serving.note_gone_so w t block (w.tokens s (input.Evict block) tt h)) (λ e. h)

  held_back_so : (s : Serving) (block : BlockId) → At s → Goes (held_back s block).done
  held_back_so s block h = serving.still_so w (blocks_let_go s block) (blocks_let_go_so s block h)

  blocks_change_so : (s : Serving) (block : BlockId) (value : Option (List ℕ)) → At s → Goes (blocks_change s block value).done
  unfolding blocks_change
  blocks_change_so s block value h =
      by_test (λ (m : Made). Goes m.done) (put_fits block ((held_at s block).ver + 1) value) (changes s block value) (held_back s block)
      (λ t. changes_so s block value h) (λ t. held_back_so s block h)

  blocks_put_so : (s : Serving) (block : BlockId) (value : Option (List ℕ)) → At s → Goes (blocks_put s block value).done
  unfolding blocks_put
  blocks_put_so s block value h =
      by_test (λ (m : Made). Goes m.done) (may_write (held_at s block)) (blocks_change s block value) (blocks_need s block Own)
      (λ t. blocks_change_so s block value h)
      (λ t. blocks_need_so s block Own h)

  puts_again_so : (s : Serving) (block : BlockId) (ver : ℕ) (value : Option (List ℕ)) → At s
      → Goes (puts_again s block ver value).done
  puts_again_so s block ver value h =
      by_test (λ (m : Made). Goes m.done) ((held_at s block).ver == ver) (blocks_change s block value) (changed s block)
      (λ t. blocks_change_so s block value h)
      (λ t. serving.still_so w (blocks_let_go s block) (blocks_let_go_so s block h))

  blocks_put_at_so : (s : Serving) (block : BlockId) (ver : ℕ) (value : Option (List ℕ)) → At s
      → Goes (blocks_put_at s block ver value).done
  unfolding blocks_put_at
  blocks_put_at_so s block ver value h =
      by_test (λ (m : Made). Goes m.done) (may_write (held_at s block)) (puts_again s block ver value) (blocks_need s block Own)
      (λ t. puts_again_so s block ver value h) (λ t. blocks_need_so s block Own h)

  blocks_sync_so : (s : Serving) → At s → Goes (blocks_sync s).done
  unfolding blocks_sync
  blocks_sync_so s h =
      let d : Done = serving_seal s in
      frames.goes_and_gives w.Says w.Acted w.Stands d d.state (synced_acts d.state) (serving.serving_seal_so w s h) (λ k. k)
      (λ k. by_test (λ (es : List Effect). AllByRecursion w.Says es) (is_settled d.state) (Does (Synced d.state.lasting.number) ∷ []) []
      (λ t. (w.synced d.state.lasting.number, tt)) (λ t. tt))

  blocks_make_so : (s : Serving) (call : BlockCall) → At s → Goes (blocks_make s call).done
  unfolding blocks_make
  blocks_make_so s (Get block) h = blocks_get_so s block h
  blocks_make_so s (Put block value) h = blocks_put_so s block value h
  blocks_make_so s (PutAt block ver value) h = blocks_put_at_so s block ver value h
  blocks_make_so s Sync h = blocks_sync_so s h

  -- ---- the open call

  pub running_go_on_so : (s : Serving) (going : Going) → readings.GoingSo w.Reading going → At s → Goes (running_go_on s going)
  unfolding running_go_on
  running_go_on_so s (On call) fact h = serving.still_so w (record s { call = Some call }) (w.calls s (Some call) fact h)
  running_go_on_so s (Ends answer) fact h =
      serving.plain_so w (record s { lasting = record s.lasting { items = items_answer s.lasting.items } })
      (answers_unanswered s.lasting.items.unanswered answer) (w.lasts s (record s.lasting { items = items_answer s.lasting.items }) refl h)
      (serving.answers_say w s.lasting.items.unanswered answer)

  take_answer_so : (s : Serving) (call : Call) (answer : Option BlockAnswer) → IfSome call.reading w.Reading → At s → Goes (take_answer s call answer).done
  take_answer_so s call None fact h =
      serving.still_so w (record s { call = Some call }) (w.calls s (Some call) fact h)
  take_answer_so s call (Some a) fact h = running_go_on_so s (plan_answered call.plan a) (readings.next_so w.Reading call.plan a) h

  -- what was made is told to the call
  ran_so : (call : Call) (made : Made) → IfSome call.reading w.Reading → Goes made.done → Goes (ran call made).done
  ran_so call made fact p =
      frames.goes_on w.Says w.Acted w.Stands made.done (take_answer made.done.state call made.answer).done p
      (λ k. take_answer_so made.done.state call made.answer fact k)

  runs_call_so : (s : Serving) (call : Option Call) → IfSome (reading_in call) w.Reading → At s → Goes (runs_call s call).done
  runs_call_so s None fact h = serving.still_so w s h
  runs_call_so s (Some call) fact h =
      ran_so call (blocks_make (record s { call = None }) call.step) fact
      (blocks_make_so (record s { call = None }) call.step (w.calls s None tt h))

  run_once_so : (s : Serving) → At s → Goes (run_once s).done
  unfolding run_once
  run_once_so s h = runs_call_so s s.call (w.reads s h) h

  -- after the first turn come the others
  turns_from : (k : ℕ) (s : Serving) → ((t : Serving) → At t → Goes (run_upto k t)) → Goes (run_once s).done → Goes (run_upto (suc k) s)
  unfolding run_upto
  turns_from k s rest p =
      let r : Ran = run_once s in
      by_test (λ (d : Done). Goes d) r.goes (saying r.done.outs (run_upto k r.done.state)) r.done
      (λ t. frames.goes_on w.Says w.Acted w.Stands r.done (run_upto k r.done.state) p (rest r.done.state)) (λ t. p)

  run_upto_so : (k : ℕ) (s : Serving) → At s → Goes (run_upto k s)
  unfolding run_upto
  run_upto_so zero s h = serving.still_so w s h
  run_upto_so (suc k) s h = turns_from k s (run_upto_so k) (run_once_so s h)

  pub run_so : (s : Serving) → At s → Goes (run s)
  unfolding run
  run_so s h = run_upto_so most_steps s h
