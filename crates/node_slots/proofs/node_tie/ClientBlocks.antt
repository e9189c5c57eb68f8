-- What a client that serves does for the open call.
use Rattle.std.proofs.Common.{◌≡◌, ◌<◌, ℕ, zero, suc, ◌+◌, ◌==◌, Bool, true, false, List, [], ◌∷◌, map, length, Option, Some, None, is_some, is_none, unwrap_or, refl, sym, ap, subst, ◌∙◌, arith}
use Rattle.std.proofs.lemmas.Bool.Decides.{nat_tests}
use Rattle.client_log.specs.Transition as log
use Rattle.client_call.specs.Blocks.{value_of}
use Rattle.client_call.specs.Calls.{plan_answered}
use Rattle.client_call.specs.declared.call.Call.{Call}
use Rattle.client_call.specs.declared.call.Going.TheVariants.{On, Ends}
use Rattle.client_call.specs.declared.call.Going.{Going}
use Rattle.client_call.specs.Fitting.{put_fits}
use Rattle.client_running.specs.Blocks.{Made, blocks_need, got, blocks_get, wrote, put_of, changes, blocks_change, blocks_put, blocks_let_go, held_back, changed, puts_again, blocks_put_at, is_settled, synced_acts, blocks_sync, blocks_make}
use Rattle.client_serving.specs.declared.serving.Serving.{Serving}
use Rattle.client_serving.specs.Flights.{held_at}
use Rattle.client_serving.specs.Follow.{note_gone, serving_seal}
use Rattle.client_running.specs.Running.{running_go_on, Ran, take_answer, ran, runs_call, run_once, run_upto, run}
use Rattle.client_serving.specs.Sends.{Done, gives}
use Rattle.coop_cache.specs.Transition.{touch}
use Rattle.file_plan.specs.declared.block_call.BlockAnswer.{BlockAnswer}
use Rattle.file_plan.specs.declared.block_call.BlockCall.{BlockCall}
use Rattle.file_plan.specs.declared.block_call.BlockCall.TheVariants.{Get, Put, PutAt, Sync}
use Rattle.log_flight.specs.declared.dirty.Change.{Change}
use Rattle.log_flight.specs.Flights.{FlightState}
use Rattle.node_base.specs.Beginning.{items_answer, answers_unanswered}
use Rattle.node_base.specs.declared.effects.Effect.{Effect}
use Rattle.node_base.specs.declared.effects.Effect.TheVariants.{Does}
use Rattle.token_client.specs.declared.input.In.TheVariants as input
use Rattle.token_client.specs.Held.{may_write}
use Rattle.token_client.specs.State.{TokensState, held_of}
use Rattle.token_client.specs.Transition as client
use Rattle.token_law.specs.Books.{nothing_said, row_in}
use Rattle.token_law.specs.Net as nets
use Rattle.token_law.specs.Net.{Net, Happens}
use Rattle.token_law.specs.Net.Happens.{Reads, Syncs}
use Rattle.token_law.specs.Owed.{AllClean}
use Rattle.token_protocol.specs.Premises.{Premise}
use Rattle.version_model.specs.declared.act.Act.{Act}
use Rattle.version_model.specs.declared.act.Act.TheVariants.{Wrote, Read, Synced}
use Rattle.xfs_base.proofs.Booleans.{and_first, and_second, by_test, contrary}
use Rattle.xfs_base.specs.declared.block.BlockId.{BlockId}
use Rattle.xfs_base.specs.declared.token.Mode.{Mode}
use Rattle.xfs_base.specs.declared.token.Mode.TheVariants.{Nothing, Copy, Own}
use Rattle.xfs_base.specs.Modes.{is_held, is_nothing}
use Rattle.xfs_base.specs.Steps.{still, saying}
use Rattle.node_slots.specs.node_tie.ClientLogs.{IsUnsettled}
use Rattle.node_slots.specs.node_tie.LogRows.{told, rows_flown, rows_waiting}
use Rattle.node_slots.proofs.node_tie.ClientFrames as frames
use Rattle.node_slots.proofs.node_tie.ClientPuts as putting
use Rattle.node_slots.proofs.node_tie.ClientSeals.{all_known}
use Rattle.node_slots.proofs.node_tie.ClientTokens as tokens
use Rattle.node_slots.proofs.node_tie.ClientUnsettled.{AllUnsettled, nothing_dirty}
use Rattle.node_slots.proofs.node_tie.ClientWrites as writing
use Rattle.node_slots.proofs.node_tie.SmallWorld.{premise_by}

module _ (logs : Bool) (members part limit c life room highest : ℕ) (pos : 0 < c) (less : c < members) where
  abbrev At : Net → Serving → Type 0
  At n s = frames.At logs members part limit c life room highest n s

  abbrev Goes : Net → Done → Type 0
  Goes n d = frames.Goes logs members part limit c life room highest n d

  -- ---- calls on blocks

  blocks_need_so : (n : Net) (s : Serving) (block : BlockId) (mode : Mode) → At n s → Goes n (blocks_need s block mode).done
  blocks_need_so n s block mode h = tokens.hands_own logs members part limit c life room highest pos less n s (input.Need block mode) tt (λ u. refl) tt h

  -- what is held is read
  got_so : (n : Net) (s : Serving) (block : BlockId) → is_nothing (held_at s block).mode ≡ false → At n s → Goes n (got s block (held_at s block)).done
  got_so n s block something h = by_value (held_at s block).value refl ((h.bears.held block).0 (is_held_so (held_at s block).mode something))
    where
      is_held_so : (mode : Mode) → is_nothing mode ≡ false → is_held mode ≡ true
      is_held_so Nothing fact = contrary (sym fact)
      is_held_so Copy fact = refl
      is_held_so Own fact = refl

      happens : (value : Option (List ℕ)) → (held_at s block).value ≡ Some value
          → Happens logs members part n (nets.acted n (Read c block (held_at s block).ver value ∷ []))
      happens value fact =
          subst (λ (t : TokensState). Happens logs members part n (nets.acted n (Read c block (held_of t.blocks block).ver value ∷ []))) h.tokens
          (Reads c block value pos less h.up
          (subst (λ (t : TokensState). is_held (held_of t.blocks block).mode ≡ true) (sym h.tokens) (is_held_so (held_at s block).mode something))
          (subst (λ (t : TokensState). (held_of t.blocks block).value ≡ Some value) (sym h.tokens) fact))

      grown : (value : Option (List ℕ)) → (held_at s block).value ≡ Some value
          → frames.Grown logs members part c n (nets.acted n (Read c block (held_at s block).ver value ∷ [])) (Read c block (held_at s block).ver value ∷ [])
      grown value fact = frames.grown_acting logs members part c n (Read c block (held_at s block).ver value ∷ []) (happens value fact)

      act_is : (value : Option (List ℕ)) → (held_at s block).value ≡ Some value
          → Read c block (held_at s block).ver value ≡ Read s.lasting.number block (held_at s block).ver (value_of (held_at s block))
      act_is value fact =
          ap (λ k. Read k block (held_at s block).ver value) (sym h.number_is)
          ∙ ap (λ (o : Option (Option (List ℕ))). Read s.lasting.number block (held_at s block).ver (unwrap_or o None)) (sym fact)

      by_value : (o : Option (Option (List ℕ))) → (held_at s block).value ≡ o → is_some o ≡ true → Goes n (got s block (held_at s block)).done
      by_value None fact some = contrary some
      by_value (Some value) fact some =
          let t : Serving = record s { cache = touch s.cache block } in
          let a : Act = Read s.lasting.number block (held_at s block).ver (value_of (held_at s block)) in
          frames.goes_acting logs members part limit c life room highest n (nets.acted n (a ∷ [])) a (still t) tt
          (subst (λ (x : Act). frames.Grown logs members part c n (nets.acted n (x ∷ [])) (x ∷ [])) (act_is value fact) (grown value fact))
          (frames.goes_still logs members part limit c life room highest (nets.acted n (a ∷ [])) t
          (frames.stands_acted logs members part limit c life room highest n (a ∷ []) s.tokens s.log s.lasting.number s.lasting.inc h))

  blocks_get_so : (n : Net) (s : Serving) (block : BlockId) → At n s → Goes n (blocks_get s block).done
  unfolding blocks_get
  blocks_get_so n s block h =
      by_test (λ (m : Made). Goes n m.done) (is_nothing (held_at s block).mode) (blocks_need s block Copy) (got s block (held_at s block))
      (λ t. blocks_need_so n s block Copy h) (λ t. got_so n s block t h)

  -- once the tokens have the write, and it waits, the log may be sealed
  abbrev pub Written : Net → Serving → BlockId → Option (List ℕ) → Type 0
  Written n s block value = putting.Written logs members part limit c life room highest pos less n s.tokens s.log s.lasting.number s.lasting.inc block value

  pub changes_after : (n : Net) (s : Serving) (block : BlockId) (value : Option (List ℕ)) → (m : Net)
      → frames.Grown logs members part c n m (Wrote c block value ∷ []) → s.lasting.number ≡ c
      → At m (record (wrote s block value) { log = log.waits s.log block (putting.change_of (wrote s block value).tokens block value) })
      → Goes n (changes s block value).done
  unfolding changes
  changes_after n s block value m grown number h =
      let w : Serving = wrote s block value in
      frames.goes_acting logs members part limit c life room highest n m (Wrote s.lasting.number block value) (put_of w block value) tt
      (subst (λ k. frames.Grown logs members part c n m (Wrote k block value ∷ [])) (sym number) grown)
      (writing.puts_from logs members part limit c life room highest pos less m w block (record { ver = (held_at w block).ver; hop = 0; place = None }) value h)

  changes_so : (n : Net) (s : Serving) (block : BlockId) (value : Option (List ℕ)) → may_write (held_at s block) ≡ true → At n s
      → Goes n (changes s block value).done
  changes_so n s block value may h =
      let k : Written n s block value =
      putting.written_so logs members part limit c life room highest pos less n s.tokens s.log s.lasting.number s.lasting.inc block value may h in
      changes_after n s block value k.next k.grown h.number_is k.stands

  -- once the tokens have let it go
  pub gone_from : (n : Net) (s : Serving) (block : BlockId) → At n (record s { tokens = (client.on_evict s.tokens block).state })
      → Goes n (still (note_gone (record s { tokens = (client.on_evict s.tokens block).state }) block))
  gone_from n s block h =
      let t : Serving = record s { tokens = (client.on_evict s.tokens block).state } in
      frames.goes_still logs members part limit c life room highest n (note_gone t block)
      (tokens.note_gone_so logs members part limit c life room highest pos less n t block h)

  blocks_let_go_so : (n : Net) (s : Serving) (block : BlockId) → At n s → Goes n (still (blocks_let_go s block))
  blocks_let_go_so n s block h =
      let t : Serving = record s { tokens = (client.on_evict s.tokens block).state } in
      by_test (λ (u : Serving). Goes n (still u)) (is_none (held_at s block).value) (note_gone t block) s
      (λ fact. frames.goes_on logs members part limit c life room highest n (still t) (still (note_gone t block))
      (tokens.acts_so logs members part limit c life room highest pos less n s (input.Evict block) tt (λ u. refl) tt h) (λ m k. gone_from m s block k))
      (λ fact. frames.goes_still logs members part limit c life room highest n s h)

  blocks_change_so : (n : Net) (s : Serving) (block : BlockId) (value : Option (List ℕ)) → may_write (held_at s block) ≡ true → At n s
      → Goes n (blocks_change s block value).done
  unfolding blocks_change
  blocks_change_so n s block value may h =
      by_test (λ (m : Made). Goes n m.done) (put_fits block ((held_at s block).ver + 1) value) (changes s block value) (held_back s block)
      (λ t. changes_so n s block value may h) (λ t. blocks_let_go_so n s block h)

  blocks_put_so : (n : Net) (s : Serving) (block : BlockId) (value : Option (List ℕ)) → At n s → Goes n (blocks_put s block value).done
  unfolding blocks_put
  blocks_put_so n s block value h =
      by_test (λ (m : Made). Goes n m.done) (may_write (held_at s block)) (blocks_change s block value) (blocks_need s block Own)
      (λ t. blocks_change_so n s block value t h) (λ t. blocks_need_so n s block Own h)

  puts_again_so : (n : Net) (s : Serving) (block : BlockId) (ver : ℕ) (value : Option (List ℕ)) → may_write (held_at s block) ≡ true → At n s
      → Goes n (puts_again s block ver value).done
  puts_again_so n s block ver value may h =
      by_test (λ (m : Made). Goes n m.done) ((held_at s block).ver == ver) (blocks_change s block value) (changed s block)
      (λ t. blocks_change_so n s block value may h) (λ t. blocks_let_go_so n s block h)

  blocks_put_at_so : (n : Net) (s : Serving) (block : BlockId) (ver : ℕ) (value : Option (List ℕ)) → At n s → Goes n (blocks_put_at s block ver value).done
  unfolding blocks_put_at
  blocks_put_at_so n s block ver value h =
      by_test (λ (m : Made). Goes n m.done) (may_write (held_at s block)) (puts_again s block ver value) (blocks_need s block Own)
      (λ t. puts_again_so n s block ver value t h) (λ t. blocks_need_so n s block Own h)

  -- where nothing waits or flies, all is clean
  all_clean : (n : Net) (s : Serving) → is_settled s ≡ true → At n s → Premise logs (AllClean (n.tokens c))
  all_clean n s settled h = premise_by logs
      (λ (p : AllUnsettled s.tokens (row_in (rows_waiting s.log)) (row_in (rows_flown s.log.flight))).
      subst AllClean (sym h.tokens)
      (clean_then s.log.dirty s.log.flight (none_waits s.log.dirty (and_second (is_none s.log.flight) (length s.log.dirty == 0) settled))
      (none_flies s.log.flight (and_first (is_none s.log.flight) (length s.log.dirty == 0) settled)) p))
      (all_known logs members part limit c life room highest s.log s.tokens h.bears.held)
    where
      none_waits : (dirty : List (BlockId × Change)) → (length dirty == 0) ≡ true → dirty ≡ []
      none_waits [] fact = refl
      none_waits (x ∷ dirty) fact = contrary (not_none (length dirty) fact)
        where
          not_none : (k : ℕ) → (suc k == 0) ≡ true → false ≡ true
          not_none k fact = grind (arith, nat_tests)

      none_flies : (o : Option FlightState) → is_none o ≡ true → o ≡ None
      none_flies None fact = refl
      none_flies (Some f) fact = contrary fact

      clean_then : (dirty : List (BlockId × Change)) (o : Option FlightState) → dirty ≡ [] → o ≡ None
          → AllUnsettled s.tokens (row_in (map told dirty)) (row_in (rows_flown o)) → AllClean s.tokens
      clean_then dirty o waits flies p b =
          nothing_dirty (held_at s b)
          (subst (λ (x : List (BlockId × Change)). IsUnsettled (held_at s b) (row_in (map told x) b) nothing_said) waits
          (subst (λ (x : Option FlightState). IsUnsettled (held_at s b) (row_in (map told dirty) b) (row_in (rows_flown x) b)) flies (p b)))

  synced_so : (n : Net) (s : Serving) → At n s → Goes n (gives s (synced_acts s))
  synced_so n s h =
      by_test (λ (es : List Effect). Goes n (gives s es)) (is_settled s) (Does (Synced s.lasting.number) ∷ []) []
      (λ t.
      let a : Act = Synced s.lasting.number in
      frames.goes_acting logs members part limit c life room highest n (nets.acted n (a ∷ [])) a (still s) tt
      (frames.grown_acting logs members part c n (a ∷ [])
      (subst (λ k. Happens logs members part n (nets.acted n (Synced k ∷ []))) (sym h.number_is) (Syncs c pos less h.up (all_clean n s t h))))
      (frames.goes_still logs members part limit c life room highest (nets.acted n (a ∷ [])) s
      (frames.stands_acted logs members part limit c life room highest n (a ∷ []) s.tokens s.log s.lasting.number s.lasting.inc h)))
      (λ t. frames.goes_still logs members part limit c life room highest n s h)

  blocks_sync_so : (n : Net) (s : Serving) → At n s → Goes n (blocks_sync s).done
  unfolding blocks_sync
  blocks_sync_so n s h =
      let d : Done = serving_seal s in
      frames.goes_on logs members part limit c life room highest n d (gives d.state (synced_acts d.state))
      (tokens.serving_seal_so logs members part limit c life room highest pos less n s s.log.end.seq refl h).goes (λ m k. synced_so m d.state k)

  blocks_make_so : (n : Net) (s : Serving) (call : BlockCall) → At n s → Goes n (blocks_make s call).done
  unfolding blocks_make
  blocks_make_so n s (Get block) h = blocks_get_so n s block h
  blocks_make_so n s (Put block value) h = blocks_put_so n s block value h
  blocks_make_so n s (PutAt block ver value) h = blocks_put_at_so n s block ver value h
  blocks_make_so n s Sync h = blocks_sync_so n s h

  -- ---- the open call

  pub running_go_on_so : (n : Net) (s : Serving) (going : Going) → At n s → Goes n (running_go_on s going)
  unfolding running_go_on
  running_go_on_so n s (On call) h = frames.goes_still logs members part limit c life room highest n (record s { call = Some call }) h
  running_go_on_so n s (Ends answer) h =
      frames.goes_plain logs members part limit c life room highest n (record s { lasting = record s.lasting { items = items_answer s.lasting.items } })
      (answers_unanswered s.lasting.items.unanswered answer) h
      (tokens.plain_answers part c life s.lasting.items.unanswered answer)

  take_answer_so : (n : Net) (s : Serving) (call : Call) (answer : Option BlockAnswer) → At n s → Goes n (take_answer s call answer).done
  take_answer_so n s call None h = frames.goes_still logs members part limit c life room highest n (record s { call = Some call }) h
  take_answer_so n s call (Some a) h = running_go_on_so n s (plan_answered call.plan a) h

  -- what was made is told to the call
  pub ran_so : (n : Net) (call : Call) (made : Made) → Goes n made.done → Goes n (ran call made).done
  ran_so n call made p =
      frames.goes_on logs members part limit c life room highest n made.done (take_answer made.done.state call made.answer).done p
      (λ m k. take_answer_so m made.done.state call made.answer k)

  runs_call_so : (n : Net) (s : Serving) (call : Option Call) → At n s → Goes n (runs_call s call).done
  runs_call_so n s None h = frames.goes_still logs members part limit c life room highest n s h
  runs_call_so n s (Some call) h = ran_so n call (blocks_make (record s { call = None }) call.step) (blocks_make_so n (record s { call = None }) call.step h)

  run_once_so : (n : Net) (s : Serving) → At n s → Goes n (run_once s).done
  unfolding run_once
  run_once_so n s h = runs_call_so n s s.call h

  -- after the first turn come the others
  turns_from : (n : Net) (k : ℕ) (s : Serving) → ((m : Net) (t : Serving) → At m t → Goes m (run_upto k t)) → Goes n (run_once s).done
      → Goes n (run_upto (suc k) s)
  unfolding run_upto
  turns_from n k s rest p =
      let r : Ran = run_once s in
      by_test (λ (d : Done). Goes n d) r.goes (saying r.done.outs (run_upto k r.done.state)) r.done
      (λ t. frames.goes_on logs members part limit c life room highest n r.done (run_upto k r.done.state) p (λ m h. rest m r.done.state h)) (λ t. p)

  run_upto_so : (k : ℕ) (n : Net) (s : Serving) → At n s → Goes n (run_upto k s)
  unfolding run_upto
  run_upto_so zero n s h = frames.goes_still logs members part limit c life room highest n s h
  run_upto_so (suc k) n s h = turns_from n k s (λ m t. run_upto_so k m t) (run_once_so n s h)

  -- the open call runs, from its first turn on
  pub runs_from : (n : Net) (s : Serving) → Goes n (run_once s).done → Goes n (run s)
  unfolding run
  runs_from n s p = turns_from n 4095 s (λ m t. run_upto_so 4095 m t) p

  pub run_so : (n : Net) (s : Serving) → At n s → Goes n (run s)
  run_so n s h = runs_from n s (run_once_so n s h)
