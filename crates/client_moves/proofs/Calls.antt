-- What a client that serves does for its open call is made of moves.
use Rattle.std.proofs.Common.{◌≡◌, ℕ, zero, suc, ◌+◌, ◌==◌, List, [], ◌∷◌, append-nil, Option, Some, None, refl, sym, subst}
use Rattle.client_call.specs.declared.call.Call.{Call}
use Rattle.client_call.specs.Fitting.{put_fits}
use Rattle.client_running.specs.Blocks.{Made, blocks_change, blocks_get, blocks_make, blocks_need, blocks_put, blocks_put_at, blocks_sync, changed, changes, got, held_back, is_settled, puts_again}
use Rattle.client_running.specs.Running.{Ran, most_steps, ran, run, run_once, run_upto, runs_call}
use Rattle.client_serving.specs.declared.serving.Serving.{Serving}
use Rattle.client_serving.specs.Flights.{held_at}
use Rattle.client_serving.specs.Follow.{serving_seal}
use Rattle.client_serving.specs.Sends.{Done}
use Rattle.coop_cache.specs.declared.input.In.TheVariants as cache_in
use Rattle.coop_cache.specs.Transition.{touch}
use Rattle.file_plan.specs.declared.block_call.BlockAnswer.{BlockAnswer}
use Rattle.file_plan.specs.declared.block_call.BlockCall.{BlockCall}
use Rattle.file_plan.specs.declared.block_call.BlockCall.TheVariants.{Get, Put, PutAt, Sync}
use Rattle.node_base.specs.declared.effects.Effect.{Effect}
use Rattle.node_base.specs.declared.effects.Effect.TheVariants.{Does}
use Rattle.token_client.specs.declared.input.In.TheVariants as input
use Rattle.token_client.specs.Held.{may_write}
use Rattle.version_model.specs.declared.act.Act.TheVariants.{Synced}
use Rattle.xfs_base.proofs.Booleans.{by_test}
use Rattle.xfs_base.specs.declared.block.BlockId.{BlockId}
use Rattle.xfs_base.specs.declared.token.Mode.{Mode}
use Rattle.xfs_base.specs.declared.token.Mode.TheVariants.{Copy, Own}
use Rattle.xfs_base.specs.Modes.{is_nothing}
use Rattle.xfs_base.specs.Steps.{saying}
use Rattle.client_moves.proofs.Following.{hands_move, let_go_moves, seals_move, wrote_moves}
use Rattle.client_moves.proofs.Uncalled.{all_moves}
use Rattle.client_moves.specs.Moves.{Moves}
use Rattle.client_moves.specs.Moves.Moves.{Answered, CacheTakes, Rests, Says, Then, Waits}
use Rattle.client_moves.specs.Moves.Said.{HasRead, HasSynced, HasWritten}

abbrev MovesTo : Serving → Done → Type 0
MovesTo s d = Moves s d.state d.outs

abbrev MakesSo : Serving → Made → Type 0
MakesSo s m = MovesTo s m.done

-- ---- calls on blocks

need_moves : (s : Serving) (block : BlockId) (mode : Mode) → MakesSo s (blocks_need s block mode)
need_moves s block mode = all_moves (hands_move s (input.Need block mode) tt)

get_moves : (s : Serving) (block : BlockId) → MakesSo s (blocks_get s block)
unfolding blocks_get
get_moves s block =
    by_test (MakesSo s) (is_nothing (held_at s block).mode) (blocks_need s block Copy) (got s block (held_at s block)) (λ _. need_moves s block Copy)
    (λ _. Then (CacheTakes s (cache_in.Touch block)) (Says (record s { cache = touch s.cache block }) _ (HasRead block (held_at s block).ver _)))

changes_move : (s : Serving) (block : BlockId) (value : Option (List ℕ)) → MakesSo s (changes s block value)
unfolding changes
changes_move s block value = Then (Says s _ (HasWritten block value)) (all_moves (wrote_moves s block value))

change_moves : (s : Serving) (block : BlockId) (value : Option (List ℕ)) → MakesSo s (blocks_change s block value)
unfolding blocks_change
change_moves s block value =
    by_test (MakesSo s) (put_fits block ((held_at s block).ver + 1) value) (changes s block value) (held_back s block) (λ _. changes_move s block value)
    (λ _. all_moves (let_go_moves s block))

put_moves : (s : Serving) (block : BlockId) (value : Option (List ℕ)) → MakesSo s (blocks_put s block value)
unfolding blocks_put
put_moves s block value =
    by_test (MakesSo s) (may_write (held_at s block)) (blocks_change s block value) (blocks_need s block Own) (λ _. change_moves s block value)
    (λ _. need_moves s block Own)

puts_again_move : (s : Serving) (block : BlockId) (ver : ℕ) (value : Option (List ℕ)) → MakesSo s (puts_again s block ver value)
puts_again_move s block ver value =
    by_test (MakesSo s) ((held_at s block).ver == ver) (blocks_change s block value) (changed s block) (λ _. change_moves s block value)
    (λ _. all_moves (let_go_moves s block))

put_at_moves : (s : Serving) (block : BlockId) (ver : ℕ) (value : Option (List ℕ)) → MakesSo s (blocks_put_at s block ver value)
unfolding blocks_put_at
put_at_moves s block ver value =
    by_test (MakesSo s) (may_write (held_at s block)) (puts_again s block ver value) (blocks_need s block Own) (λ _. puts_again_move s block ver value)
    (λ _. need_moves s block Own)

sync_moves : (s : Serving) → MakesSo s (blocks_sync s)
unfolding blocks_sync
sync_moves s =
    let t : Serving = (serving_seal s).state in
    Then (all_moves (seals_move s))
    (by_test (λ (outs : List Effect). Moves t t outs) (is_settled t) (Does (Synced t.lasting.number) ∷ []) [] (λ _. Says t _ HasSynced) (λ _. Rests t))

pub make_moves : (s : Serving) (call : BlockCall) → MakesSo s (blocks_make s call)
unfolding blocks_make
make_moves s (Get block) = get_moves s block
make_moves s (Put block value) = put_moves s block value
make_moves s (PutAt block ver value) = put_at_moves s block ver value
make_moves s Sync = sync_moves s

-- ---- the open call

RanSo : Serving → Ran → Type 0
RanSo s r = MovesTo s r.done

ran_moves : (s : Serving) (call : Call) → s.call ≡ Some call → (d : Done) → MovesTo (record s { call = None }) d → (a : Option BlockAnswer)
    → MovesTo s (ran call (record { done = d; answer = a })).done
ran_moves s call at d moves None =
    subst (λ (outs : List Effect). Moves s (record d.state { call = Some call }) outs) (sym (append-nil d.outs)) (Waits s call at moves)
ran_moves s call at d moves (Some a) = Answered s call a at moves

call_moves : (s : Serving) (call : Option Call) → s.call ≡ call → RanSo s (runs_call s call)
unfolding RanSo
call_moves s None at = Rests s
call_moves s (Some call) at =
    let made : Made = blocks_make (record s { call = None }) call.step in
    ran_moves s call at made.done (make_moves (record s { call = None }) call.step) made.answer

once_moves : (s : Serving) → RanSo s (run_once s)
unfolding run_once
once_moves s = call_moves s s.call refl

more_moves : (k : ℕ) (s : Serving) → ((t : Serving) → MovesTo t (run_upto k t)) → MovesTo s (run_once s).done → MovesTo s (run_upto (suc k) s)
unfolding run_upto
more_moves k s rest first =
    let r : Ran = run_once s in
    by_test (MovesTo s) r.goes (saying r.done.outs (run_upto k r.done.state)) r.done (λ _. Then first (rest r.done.state)) (λ _. first)

upto_moves : (k : ℕ) (s : Serving) → MovesTo s (run_upto k s)
unfolding run_upto RanSo
upto_moves zero s = Rests s
upto_moves (suc k) s = more_moves k s (upto_moves k) (once_moves s)

pub run_moves : (s : Serving) → MovesTo s (run s)
unfolding run
run_moves s = upto_moves most_steps s
