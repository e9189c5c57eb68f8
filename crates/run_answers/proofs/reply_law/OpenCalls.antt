-- What a client that serves does for its open call answers nobody who asks it, and leaves of each block under which stamp it is held and what waits to be given up, and
-- holds no block more than before.
use Rattle.std.proofs.Common.{◌≡◌, ℕ, zero, suc, ◌+◌, ◌==◌, ◌&&◌, Bool, true, false, List, [], ◌∷◌, Option, Some, None, is_none, is_some, map, nat_lt, refl, sym, ap, subst, ◌∙◌}
use Rattle.std.specs.List.{AllByRecursion, list_any}
use Rattle.std.specs.Prelude.{length, flat_map}
use Rattle.client_call.specs.Calls.{plan_answered}
use Rattle.client_call.specs.declared.call.Call.{Call}
use Rattle.client_call.specs.declared.call.Going.{Going}
use Rattle.client_call.specs.declared.call.Going.TheVariants.{On, Ends}
use Rattle.client_call.specs.Fitting.{put_fits}
use Rattle.client_log.specs.declared.input.In.TheVariants as log_in
use Rattle.client_log.specs.declared.output.Out.{Out as LogOut}
use Rattle.client_log.specs.declared.output.Out.TheVariants as log_out
use Rattle.client_log.specs.LogState.{LogState}
use Rattle.client_log.specs.Transition as log
use Rattle.client_log.specs.Transition.{can_go_on, has_next, is_full, is_idle, log_go_on, log_launch, log_seal, on_put, on_seal, waits}
use Rattle.client_running.specs.Blocks.{Made, blocks_change, blocks_get, blocks_let_go, blocks_make, blocks_need, blocks_put, blocks_put_at, blocks_sync, changed, changes, got, held_back, is_settled, puts_again, wrote}
use Rattle.client_running.specs.Running.{Ran, most_steps, run, run_once, run_upto, running_go_on, runs_call, take_answer}
use Rattle.client_serving.specs.declared.serving.Serving.{Serving}
use Rattle.client_serving.specs.Flights.{held_at, seals_again, serving_write, write_one}
use Rattle.client_serving.specs.Follow.{follow_one, hand, note_gone, serving_follow, serving_seal}
use Rattle.client_serving.specs.Reads.{ends_reading}
use Rattle.client_serving.specs.Sends.{Done, before_want, deltas, want, wants}
use Rattle.delta_feed.specs.declared.output.Out.{Out as RangeOut}
use Rattle.delta_feed.specs.declared.output.Out.TheVariants.{Range}
use Rattle.delta_feed.specs.Transition.{feed_push}
use Rattle.file_plan.specs.declared.block_call.BlockAnswer.{BlockAnswer}
use Rattle.file_plan.specs.declared.block_call.BlockCall.{BlockCall}
use Rattle.file_plan.specs.declared.block_call.BlockCall.TheVariants.{Get, Put, PutAt, Sync}
use Rattle.log_flight.specs.declared.dirty.Change.{Change}
use Rattle.log_owner.specs.declared.promised.Managers.{Managers}
use Rattle.log_owner.specs.Opening.{stored}
use Rattle.log_owner.specs.Sealing.{is_settling}
use Rattle.log_owner.specs.Sending.{range}
use Rattle.node_base.specs.Beginning.{answers_unanswered}
use Rattle.node_base.specs.declared.effects.Effect.{Effect}
use Rattle.node_base.specs.declared.effects.Effect.TheVariants.{Does, Lose, Send}
use Rattle.token_client.proofs.Tables.{put_each, put_same}
use Rattle.token_client.specs.declared.held.Held.{Held}
use Rattle.token_client.specs.declared.input.In.TheVariants as input
use Rattle.token_client.specs.Held.{held_ask, held_write, let_go, may_evict, may_write, must_ask}
use Rattle.token_client.specs.State.{TokensState, held_of, with_held}
use Rattle.token_client.specs.Transition as tokens
use Rattle.token_client.specs.Transition.{on_evict, on_need, on_wrote, tokens_ask}
use Rattle.version_model.specs.declared.act.Act.TheVariants.{Lost, Synced}
use Rattle.version_model.specs.declared.answer.Answer.{Answer}
use Rattle.xfs_base.proofs.Alls.{all_append}
use Rattle.xfs_base.proofs.Booleans.{by_test}
use Rattle.xfs_base.specs.Blocks.{slot_of}
use Rattle.xfs_base.specs.declared.block.BlockId.{BlockId}
use Rattle.xfs_base.specs.declared.token.Mode.{Mode}
use Rattle.xfs_base.specs.declared.token.Mode.TheVariants.{Copy, Own}
use Rattle.xfs_base.specs.Modes.{is_held, is_nothing}
use Rattle.xfs_base.specs.Steps.{saying, steps, still}
use Rattle.node_moves.proofs.client_walk.LogTurns.{IsSend, put_rests}
use Rattle.headline.specs.ClientReplies.{is_reply}

-- ---- what is kept, and what answers nobody

-- of each block the stamp and what waits to be given up, and its mode, where it is held still
pub record KeepsBlocks (t u : TokensState) : Type 0 where
  pub stamp : (b : BlockId) → (held_of u.blocks b).stamp ≡ (held_of t.blocks b).stamp
  pub giving : (b : BlockId) → (held_of u.blocks b).giving ≡ (held_of t.blocks b).giving
  pub mode : (b : BlockId) → is_held (held_of u.blocks b).mode ≡ true → (held_of u.blocks b).mode ≡ (held_of t.blocks b).mode

-- and what is in flight is so on
pub record Keeps (s t : Serving) : Type 0 where
  pub blocks : KeepsBlocks s.tokens t.tokens
  pub flight : is_some s.log.flight ≡ true → is_some t.log.flight ≡ true

-- it answers nobody, and says of no segment that it is lost
abbrev pub IsSilent : Effect → Type 0
IsSilent (Send to said) = is_reply said ≡ false
IsSilent (Lose seg) = ⊥
IsSilent (Does (Lost node seg)) = ⊥
IsSilent _ = Unit {0}

abbrev pub AllSilent : List Effect → Type 0
AllSilent outs = AllByRecursion IsSilent outs

pub record Goes (s : Serving) (d : Done) : Type 0 where
  pub kept : Keeps s d.state
  pub silent : AllSilent d.outs

keeps_all : (t : TokensState) → KeepsBlocks t t
keeps_all t = record { stamp = λ b. refl; giving = λ b. refl; mode = λ b held. refl }

keeps_on : (t u v : TokensState) → KeepsBlocks t u → KeepsBlocks u v → KeepsBlocks t v
keeps_on t u v p q = record {
  stamp = λ b. q.stamp b ∙ p.stamp b;
  giving = λ b. q.giving b ∙ p.giving b;
  mode = λ b held. q.mode b held ∙ p.mode b (subst (λ (m : Mode). is_held m ≡ true) (q.mode b held) held);
}

pub stays : (s : Serving) → Keeps s s
stays s = record { blocks = keeps_all s.tokens; flight = λ flies. flies }

keeps_then : (s t u : Serving) → Keeps s t → Keeps t u → Keeps s u
keeps_then s t u p q = record { blocks = keeps_on s.tokens t.tokens u.tokens p.blocks q.blocks; flight = λ flies. q.flight (p.flight flies) }

goes_still : (s : Serving) → Goes s (still s)
goes_still s = record { kept = stays s; silent = tt }

goes_then : (s : Serving) (d e : Done) → Goes s d → Goes d.state e → Goes s (saying d.outs e)
goes_then s d e p q = record { kept = keeps_then s d.state e.state p.kept q.kept; silent = all_append IsSilent d.outs e.outs p.silent q.silent }

-- ---- tokens

module _ (t : TokensState) (block : BlockId) where
  abbrev h : Held
  h = held_of t.blocks block

  -- a block is put anew that has its stamp, what waits to be given up, and its mode, or isn't held
  puts_keep : (g : Held) → g.stamp ≡ h.stamp → g.giving ≡ h.giving → (is_held g.mode ≡ true → g.mode ≡ h.mode) → KeepsBlocks t (with_held t block g)
  puts_keep g stamp giving mode = record {
    stamp = λ b. put_same (λ (k : Held). k.stamp) b block g t.blocks stamp;
    giving = λ b. put_same (λ (k : Held). k.giving) b block g t.blocks giving;
    mode = put_each (λ b k. is_held k.mode ≡ true → k.mode ≡ (held_of t.blocks b).mode) block g t.blocks mode (λ b held. refl);
  }

  asks_keep : (mode : Mode) → KeepsBlocks t (record (with_held t block (held_ask h (t.req + 1) mode)) { req = t.req + 1 })
  asks_keep mode = (let k = puts_keep (held_ask h (t.req + 1) mode) refl refl (λ held. refl) in record { stamp = k.stamp; giving = k.giving; mode = k.mode })

  writes_keep : (value : Option (List ℕ)) → KeepsBlocks t (on_wrote t block value).state
  unfolding on_wrote
  writes_keep value =
      by_test (λ (d : tokens.Done). KeepsBlocks t d.state) (may_write h) (still (with_held t block (held_write h value))) (still t)
      (λ _. puts_keep (held_write h value) refl refl (λ held. refl)) (λ _. keeps_all t)

  lets_keep : KeepsBlocks t (on_evict t block).state
  unfolding on_evict
  lets_keep =
      by_test (λ (d : tokens.Done). KeepsBlocks t d.state) (may_evict h) (still (with_held t block (let_go h))) (still t)
      (λ _. puts_keep (let_go h) refl refl (λ held. absurd (let clash : false ≡ true = held in cc))) (λ _. keeps_all t)

-- ---- what is said

pub deltas_silent : (managers : Managers) (outs : List RangeOut) → AllSilent (map (range managers) outs)
deltas_silent managers [] = tt
deltas_silent managers (Range slot first upto rows ∷ outs) = (refl, deltas_silent managers outs)

before_silent : (s : Serving) (block : BlockId) (again : ℕ) → AllSilent (before_want s block again)
before_silent s block again =
    by_test AllSilent (again == 0) (deltas s block) [] (λ _. deltas_silent s.managers (feed_push s.feed (slot_of block.ino.0))) (λ _. tt)

pub wants_silent : (s : Serving) (block : BlockId) (req again : ℕ) (mode : Mode) → AllSilent (wants s block req again mode)
wants_silent s block req again mode =
    all_append IsSilent (before_want s block again) (want s block req again mode ∷ []) (before_silent s block again) (refl, tt)

pub stored_silent : (outs : List LogOut) → AllSilent (flat_map stored outs)
stored_silent [] = tt
stored_silent (log_out.Send fragment member ∷ outs) = (refl, stored_silent outs)
stored_silent (log_out.Settled end rows ∷ outs) = stored_silent outs

pub answers_silent : (item : Option ℕ) (a : Answer) → AllSilent (answers_unanswered item a)
answers_silent None a = tt
answers_silent (Some number) a = (tt, tt)

-- ---- a need

module _ (s : Serving) (block : BlockId) (mode : Mode) where
  abbrev Handed : tokens.Done → Type 0
  Handed r = Goes s (serving_follow (ends_reading (record s { tokens = r.state })) r.outs)

  asked : Handed (tokens_ask s.tokens block mode)
  unfolding tokens_ask serving_follow follow_one
  asked =
      let u : TokensState = record (with_held s.tokens block (held_ask (held_of s.tokens.blocks block) (s.tokens.req + 1) mode)) { req = s.tokens.req + 1 } in
      let t : Serving = ends_reading (record s { tokens = u }) in
      by_test Handed (nat_lt s.tokens.req _) _ (still s.tokens)
      (λ _. record {
        kept = record { blocks = asks_keep s.tokens block mode; flight = λ flies. flies };
        silent = all_append IsSilent (wants t block (s.tokens.req + 1) 0 mode) [] (wants_silent t block (s.tokens.req + 1) 0 mode) tt;
      })
      (λ _. record { kept = record { blocks = keeps_all s.tokens; flight = λ flies. flies }; silent = tt })

  pub needs_go : Goes s (hand s (input.Need block mode))
  unfolding hand on_need serving_follow
  needs_go =
      by_test Handed (must_ask (held_at s block) mode) (tokens_ask s.tokens block mode) (still s.tokens) (λ _. asked)
      (λ _. record { kept = record { blocks = keeps_all s.tokens; flight = λ flies. flies }; silent = tt })

-- ---- the log

module _ (l : LogState) where
  abbrev FliesOn : log.Done → Type 0
  FliesOn d = is_some l.flight ≡ true → is_some d.state.flight ≡ true

  sealed_on : (m : LogState) → FliesOn (log_seal m)
  unfolding log_seal log_launch
  sealed_on m flies = refl

  full_on : (m : LogState) → m.flight ≡ l.flight → FliesOn (log_go_on m)
  unfolding log_go_on
  full_on m same =
      by_test FliesOn (is_full m) (log_seal m) (still m) (λ _. sealed_on m) (λ _ flies. ap is_some same ∙ flies)

  put_on : (block : BlockId) (change : Change) → FliesOn (on_put l block change)
  unfolding on_put
  put_on block change =
      by_test FliesOn (can_go_on (waits l block change)) (log_go_on (waits l block change)) (still l) (λ _. full_on (waits l block change) refl) (λ _ flies. flies)

  seal_on : FliesOn (on_seal l)
  unfolding on_seal
  seal_on =
      by_test FliesOn (is_idle l && nat_lt 0 (length l.dirty) && has_next l.end.seq) (log_seal l) (still l) (λ _. sealed_on l) (λ _ flies. flies)

-- fragments are sent, and no more
sends_go : (s : Serving) (outs : List LogOut) → AllByRecursion IsSend outs → Goes s (steps write_one s outs)
unfolding write_one
sends_go s [] all = goes_still s
sends_go s (log_out.Send fragment member ∷ outs) all =
    let rest : Goes s (steps write_one s outs) = sends_go s outs all.1 in record { kept = rest.kept; silent = (refl, rest.silent) }
sends_go s (log_out.Settled end rows ∷ outs) all = absurd all.0

none_settles : (outs : List LogOut) → AllByRecursion IsSend outs → list_any is_settling outs ≡ false
none_settles [] all = refl
none_settles (log_out.Send fragment member ∷ outs) all = none_settles outs all.1
none_settles (log_out.Settled end rows ∷ outs) all = absurd all.0

module _ (s : Serving) where
  puts_go : (block : BlockId) (change : Change) → Goes s (serving_write s (log_in.Put block change.entry change.value))
  unfolding serving_write
  puts_go block change =
      let r : log.Done = on_put s.log block change in
      let t : Serving = record s { log = r.state } in
      let d : Done = steps write_one t r.outs in
      let sends : AllByRecursion IsSend r.outs = (put_rests s.log block change).sends in
      subst (λ (b : Bool). Goes s (saying d.outs (seals_again d.state b))) (sym (none_settles r.outs sends))
      (let went : Goes t d = sends_go t r.outs sends in
      goes_then s d (still d.state)
      (record {
        kept = keeps_then s t d.state (record { blocks = keeps_all s.tokens; flight = put_on s.log block change }) went.kept;
        silent = went.silent;
      })
      (goes_still d.state))

  pub seals_go : Goes s (serving_seal s)
  unfolding serving_seal
  seals_go = record {
    kept = record { blocks = keeps_all s.tokens; flight = seal_on s.log };
    silent = stored_silent (on_seal s.log).outs;
  }

  -- ---- calls on blocks

  MakesSo : Made → Type 0
  MakesSo m = Goes s m.done

  gone_keeps : (t : Serving) (block : BlockId) → Keeps s t → Keeps s (note_gone t block)
  unfolding note_gone
  gone_keeps t block k =
      by_test (λ (u : Serving). Keeps s u) (is_nothing (held_of t.tokens.blocks block).mode) _ t (λ _. record { blocks = k.blocks; flight = k.flight }) (λ _. k)

  let_go_keeps : (block : BlockId) → Keeps s (blocks_let_go s block)
  let_go_keeps block =
      let t : Serving = record s { tokens = (on_evict s.tokens block).state } in
      by_test (λ (u : Serving). Keeps s u) (is_none (held_at s block).value) (note_gone t block) s
      (λ _. gone_keeps t block (record { blocks = lets_keep s.tokens block; flight = λ flies. flies })) (λ _. stays s)

  let_go_so : (block : BlockId) → Goes s (record { state = blocks_let_go s block; outs = [] })
  let_go_so block = record { kept = let_go_keeps block; silent = tt }

  get_so : (block : BlockId) → MakesSo (blocks_get s block)
  unfolding blocks_get MakesSo
  get_so block =
      by_test MakesSo (is_nothing (held_at s block).mode) (blocks_need s block Copy) (got s block (held_at s block)) (λ _. needs_go s block Copy)
      (λ _. record { kept = record { blocks = keeps_all s.tokens; flight = λ flies. flies }; silent = (tt, tt) })

module _ (s : Serving) (block : BlockId) (value : Option (List ℕ)) where
  changes_so : MakesSo s (changes s block value)
  unfolding changes MakesSo
  changes_so =
      let w : Serving = wrote s block value in
      let went : Goes w (serving_write w (log_in.Put block (record { ver = (held_at w block).ver; hop = 0; place = None }) value)) =
      puts_go w block (record { entry = record { ver = (held_at w block).ver; hop = 0; place = None }; value = value }) in record {
        kept = keeps_then s w _ (record { blocks = writes_keep s.tokens block value; flight = λ flies. flies }) went.kept;
        silent = (tt, went.silent);
      }

  change_so : MakesSo s (blocks_change s block value)
  unfolding blocks_change MakesSo
  change_so =
      by_test (MakesSo s) (put_fits block ((held_at s block).ver + 1) value) (changes s block value) (held_back s block) (λ _. changes_so) (λ _. let_go_so s block)

  put_so : MakesSo s (blocks_put s block value)
  unfolding blocks_put MakesSo
  put_so =
      by_test (MakesSo s) (may_write (held_at s block)) (blocks_change s block value) (blocks_need s block Own) (λ _. change_so) (λ _. needs_go s block Own)

  put_at_so : (ver : ℕ) → MakesSo s (blocks_put_at s block ver value)
  unfolding blocks_put_at MakesSo
  put_at_so ver =
      by_test (MakesSo s) (may_write (held_at s block)) (puts_again s block ver value) (blocks_need s block Own)
      (λ _.
      by_test (MakesSo s) ((held_at s block).ver == ver) (blocks_change s block value) (changed s block) (λ _. change_so) (λ _. let_go_so s block))
      (λ _. needs_go s block Own)

sync_so : (s : Serving) → MakesSo s (blocks_sync s)
unfolding blocks_sync MakesSo
sync_so s =
    let d : Done = serving_seal s in
    goes_then s d (record { state = d.state; outs = _ }) (seals_go s)
    (record {
      kept = stays d.state;
      silent = by_test AllSilent (is_settled d.state) (Does (Synced d.state.lasting.number) ∷ []) [] (λ _. (tt, tt)) (λ _. tt);
    })

make_so : (s : Serving) (call : BlockCall) → MakesSo s (blocks_make s call)
unfolding blocks_make
make_so s (Get block) = get_so s block
make_so s (Put block value) = put_so s block value
make_so s (PutAt block ver value) = put_at_so s block value ver
make_so s Sync = sync_so s

-- ---- the open call

module _ (s : Serving) where
  goes_on_so : (going : Going) → Goes s (running_go_on s going)
  unfolding running_go_on
  goes_on_so (On call) = record { kept = record { blocks = keeps_all s.tokens; flight = λ flies. flies }; silent = tt }
  goes_on_so (Ends answer) = record {
    kept = record { blocks = keeps_all s.tokens; flight = λ flies. flies };
    silent = answers_silent s.lasting.items.unanswered answer;
  }

  answer_so : (call : Call) (a : Option BlockAnswer) → Goes s (take_answer s call a).done
  answer_so call None = record { kept = record { blocks = keeps_all s.tokens; flight = λ flies. flies }; silent = tt }
  answer_so call (Some a) = goes_on_so (plan_answered call.plan a)

module _ (s : Serving) where
  call_so : (call : Option Call) → Goes s (runs_call s call).done
  unfolding MakesSo
  call_so None = goes_still s
  call_so (Some call) =
      let u : Serving = record s { call = None } in
      let made : Made = blocks_make u call.step in
      let went : Goes u made.done = make_so u call.step in
      goes_then s made.done (take_answer made.done.state call made.answer).done
      (record {
        kept = keeps_then s u made.done.state (record { blocks = keeps_all s.tokens; flight = λ flies. flies }) went.kept;
        silent = went.silent;
      })
      (answer_so made.done.state call made.answer)

  once_so : Goes s (run_once s).done
  unfolding run_once
  once_so = call_so s.call

more_so : (k : ℕ) (s : Serving) → ((t : Serving) → Goes t (run_upto k t)) → Goes s (run_once s).done → Goes s (run_upto (suc k) s)
unfolding run_upto
more_so k s rest first =
    let r : Ran = run_once s in
    by_test (Goes s) r.goes (saying r.done.outs (run_upto k r.done.state)) r.done (λ _. goes_then s r.done (run_upto k r.done.state) first (rest r.done.state))
    (λ _. first)

upto_so : (k : ℕ) (s : Serving) → Goes s (run_upto k s)
unfolding run_upto
upto_so zero s = goes_still s
upto_so (suc k) s = more_so k s (upto_so k) (once_so s)

-- as the open call runs
pub runs_go : (s : Serving) → Goes s (run s)
unfolding run
runs_go s = upto_so most_steps s
