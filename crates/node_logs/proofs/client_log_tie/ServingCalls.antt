-- What a client that serves does for the open call: its puts and seals. What it puts fits the format of a segment.
use Rattle.std.proofs.Common.{◌≡◌, ℕ, zero, suc, ◌+◌, ◌==◌, true, List, [], ◌∷◌, Option, Some, None, is_none}
use Rattle.client_call.specs.Calls.{plan_answered}
use Rattle.client_call.specs.declared.call.Call.{Call}
use Rattle.client_call.specs.declared.call.Going.TheVariants.{On, Ends}
use Rattle.client_call.specs.declared.call.Going.{Going}
use Rattle.client_call.specs.Fitting.{put_fits}
use Rattle.client_running.specs.Blocks.{Made, blocks_need, got, blocks_get, wrote, put_of, changes, blocks_change, blocks_put, blocks_let_go, held_back, changed, puts_again, blocks_put_at, is_settled, synced_acts, blocks_sync, blocks_make}
use Rattle.client_serving.specs.declared.serving.Serving.{Serving}
use Rattle.client_serving.specs.Flights.{held_at}
use Rattle.client_serving.specs.Follow.{note_gone, serving_seal}
use Rattle.client_running.specs.Running.{running_go_on, Ran, take_answer, ran, runs_call, run_once, run_upto, run}
use Rattle.client_serving.specs.Sends.{Done}
use Rattle.coop_cache.specs.Transition.{touch}
use Rattle.file_plan.specs.declared.block_call.BlockAnswer.{BlockAnswer}
use Rattle.file_plan.specs.declared.block_call.BlockCall.{BlockCall}
use Rattle.file_plan.specs.declared.block_call.BlockCall.TheVariants.{Get, Put, PutAt, Sync}
use Rattle.node_base.specs.Beginning.{items_answer, answers_unanswered}
use Rattle.node_base.specs.declared.effects.Effect.{Effect}
use Rattle.node_base.specs.declared.effects.Effect.TheVariants.{Does}
use Rattle.token_client.specs.declared.input.In.TheVariants as input
use Rattle.token_client.specs.Held.{may_write}
use Rattle.token_client.specs.Transition as client
use Rattle.version_model.specs.declared.act.Act.TheVariants.{Wrote, Synced}
use Rattle.xfs_base.proofs.Booleans.{by_test}
use Rattle.xfs_base.specs.declared.block.BlockId.{BlockId}
use Rattle.xfs_base.specs.declared.token.Mode.{Mode}
use Rattle.xfs_base.specs.declared.token.Mode.TheVariants.{Copy, Own}
use Rattle.xfs_base.specs.Modes.{is_nothing}
use Rattle.xfs_base.specs.Steps.{saying}
use Rattle.log_tie.specs.Setting.{Setting}
use Rattle.node_logs.specs.client_log_tie.Owner.{Scene}
use Rattle.node_logs.proofs.client_log_tie.Fitting.{written_as, put_is_fit, put_is_own}
use Rattle.node_logs.proofs.client_log_tie.Frames as frames
use Rattle.node_logs.proofs.client_log_tie.ServingLog as flights
use Rattle.node_logs.proofs.client_log_tie.ServingTokens as tokens

module _ (g : Setting) (c : ℕ) (fact : g.log ≡ record { 0 = c }) where
  abbrev At : Scene → Serving → Type 0
  At w s = frames.At g c w s

  abbrev Goes : Scene → Done → Type 0
  Goes w d = frames.Goes g c w d

  -- ---- calls on blocks

  blocks_need_so : (w : Scene) (s : Serving) (block : BlockId) (mode : Mode) → At w s → Goes w (blocks_need s block mode).done
  blocks_need_so w s block mode h = tokens.hand_so g c w s (input.Need block mode) h

  blocks_get_so : (w : Scene) (s : Serving) (block : BlockId) → At w s → Goes w (blocks_get s block).done
  unfolding blocks_get
  blocks_get_so w s block h =
      by_test (λ (m : Made). Goes w m.done) (is_nothing (held_at s block).mode) (blocks_need s block Copy) (got s block (held_at s block))
      (λ t. blocks_need_so w s block Copy h)
      (λ t. frames.goes_plain g c w (record s { cache = touch s.cache block }) _ h (tokens.plain_one g c _ (λ v. tt)))

  blocks_let_go_so : (w : Scene) (s : Serving) (block : BlockId) → At w s → At w (blocks_let_go s block)
  blocks_let_go_so w s block h =
      let t : Serving = record s { tokens = (client.on_evict s.tokens block).state } in
      by_test (λ (u : Serving). At w u) (is_none (held_at s block).value) (note_gone t block) s (λ e. tokens.note_gone_so g c w t block h) (λ e. h)

  -- once the tokens have the write, the log takes it, as it fits
  changes_so : (w : Scene) (s : Serving) (block : BlockId) (value : Option (List ℕ)) → may_write (held_at s block) ≡ true
      → put_fits block ((held_at s block).ver + 1) value ≡ true → At w s → Goes w (changes s block value).done
  unfolding changes
  changes_so w s block value may fits h =
      let t : Serving = wrote s block value in
      frames.goes_after g c w (Does (Wrote s.lasting.number block value) ∷ []) (put_of t block value) (tokens.plain_one g c _ (λ v. tt))
      (flights.puts_so g c fact w t block (written_as s block value) value h (put_is_own s block value may) (put_is_fit s block value may fits))

  blocks_change_so : (w : Scene) (s : Serving) (block : BlockId) (value : Option (List ℕ)) → may_write (held_at s block) ≡ true → At w s
      → Goes w (blocks_change s block value).done
  unfolding blocks_change
  blocks_change_so w s block value may h =
      by_test (λ (m : Made). Goes w m.done) (put_fits block ((held_at s block).ver + 1) value) (changes s block value) (held_back s block)
      (λ fits. changes_so w s block value may fits h) (λ t. tokens.still_so g c w (blocks_let_go s block) (blocks_let_go_so w s block h))

  blocks_put_so : (w : Scene) (s : Serving) (block : BlockId) (value : Option (List ℕ)) → At w s → Goes w (blocks_put s block value).done
  unfolding blocks_put
  blocks_put_so w s block value h =
      by_test (λ (m : Made). Goes w m.done) (may_write (held_at s block)) (blocks_change s block value) (blocks_need s block Own)
      (λ may. blocks_change_so w s block value may h) (λ t. blocks_need_so w s block Own h)

  puts_again_so : (w : Scene) (s : Serving) (block : BlockId) (ver : ℕ) (value : Option (List ℕ)) → may_write (held_at s block) ≡ true → At w s
      → Goes w (puts_again s block ver value).done
  puts_again_so w s block ver value may h =
      by_test (λ (m : Made). Goes w m.done) ((held_at s block).ver == ver) (blocks_change s block value) (changed s block)
      (λ t. blocks_change_so w s block value may h) (λ t. tokens.still_so g c w (blocks_let_go s block) (blocks_let_go_so w s block h))

  blocks_put_at_so : (w : Scene) (s : Serving) (block : BlockId) (ver : ℕ) (value : Option (List ℕ)) → At w s → Goes w (blocks_put_at s block ver value).done
  unfolding blocks_put_at
  blocks_put_at_so w s block ver value h =
      by_test (λ (m : Made). Goes w m.done) (may_write (held_at s block)) (puts_again s block ver value) (blocks_need s block Own)
      (λ may. puts_again_so w s block ver value may h) (λ t. blocks_need_so w s block Own h)

  blocks_sync_so : (w : Scene) (s : Serving) → At w s → Goes w (blocks_sync s).done
  unfolding blocks_sync
  blocks_sync_so w s h =
      let d : Done = serving_seal s in
      frames.goes_and_gives g c w d d.state (synced_acts d.state) (tokens.serving_seal_so g c w s h) (λ v k. k)
      (by_test (λ (es : List Effect). frames.Plain g c es) (is_settled d.state) (Does (Synced d.state.lasting.number) ∷ []) []
      (λ t. tokens.plain_one g c _ (λ v. tt))
      (λ t. tokens.plain_nothing g c))

  blocks_make_so : (w : Scene) (s : Serving) (call : BlockCall) → At w s → Goes w (blocks_make s call).done
  unfolding blocks_make
  blocks_make_so w s (Get block) h = blocks_get_so w s block h
  blocks_make_so w s (Put block value) h = blocks_put_so w s block value h
  blocks_make_so w s (PutAt block ver value) h = blocks_put_at_so w s block ver value h
  blocks_make_so w s Sync h = blocks_sync_so w s h

  -- ---- the open call

  pub running_go_on_so : (w : Scene) (s : Serving) (going : Going) → At w s → Goes w (running_go_on s going)
  unfolding running_go_on
  running_go_on_so w s (On call) h = tokens.still_so g c w (record s { call = Some call }) h
  running_go_on_so w s (Ends answer) h =
      frames.goes_plain g c w (record s { lasting = record s.lasting { items = items_answer s.lasting.items } })
      (answers_unanswered s.lasting.items.unanswered answer) h
      (tokens.plain_answers g c s.lasting.items.unanswered answer)

  take_answer_so : (w : Scene) (s : Serving) (call : Call) (answer : Option BlockAnswer) → At w s → Goes w (take_answer s call answer).done
  take_answer_so w s call None h = tokens.still_so g c w (record s { call = Some call }) h
  take_answer_so w s call (Some a) h = running_go_on_so w s (plan_answered call.plan a) h

  -- what was made is told to the call
  ran_so : (w : Scene) (call : Call) (made : Made) → Goes w made.done → Goes w (ran call made).done
  ran_so w call made p =
      frames.goes_on g c w made.done (take_answer made.done.state call made.answer).done p
      (λ v k. take_answer_so v made.done.state call made.answer k)

  runs_call_so : (w : Scene) (s : Serving) (call : Option Call) → At w s → Goes w (runs_call s call).done
  runs_call_so w s None h = tokens.still_so g c w s h
  runs_call_so w s (Some call) h = ran_so w call (blocks_make (record s { call = None }) call.step) (blocks_make_so w (record s { call = None }) call.step h)

  run_once_so : (w : Scene) (s : Serving) → At w s → Goes w (run_once s).done
  unfolding run_once
  run_once_so w s h = runs_call_so w s s.call h

  -- after the first turn come the others
  turns_from : (w : Scene) (k : ℕ) (s : Serving) → ((v : Scene) → At v (run_once s).done.state → Goes v (run_upto k (run_once s).done.state))
      → Goes w (run_once s).done → Goes w (run_upto (suc k) s)
  unfolding run_upto
  turns_from w k s rest p =
      let r : Ran = run_once s in
      by_test (λ (d : Done). Goes w d) r.goes (saying r.done.outs (run_upto k r.done.state)) r.done
      (λ t. frames.goes_on g c w r.done (run_upto k r.done.state) p rest) (λ t. p)

  run_upto_so : (k : ℕ) (w : Scene) (s : Serving) → At w s → Goes w (run_upto k s)
  unfolding run_upto
  run_upto_so zero w s h = tokens.still_so g c w s h
  run_upto_so (suc k) w s h = turns_from w k s (λ v. run_upto_so k v (run_once s).done.state) (run_once_so w s h)

  pub run_so : (w : Scene) (s : Serving) → At w s → Goes w (run s)
  unfolding run
  run_so w s h = run_upto_so _ w s h
