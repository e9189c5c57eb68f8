-- What a call on blocks makes of a client that serves is a list of moves.
use Rattle.std.proofs.Common.{◌≡◌, ℕ, ◌+◌, ◌==◌, cond, Bool, true, false, List, [], ◌∷◌, ◌++◌, Option, Some, None, refl, sym, ap, ◌∙◌}
use Rattle.std.proofs.lemmas.Bool.{eqb-true}
use Rattle.client_call.specs.Blocks.{value_of}
use Rattle.coop_cache.specs.Transition.{touch}
use Rattle.file_plan.specs.declared.block_call.BlockAnswer.{BlockAnswer}
use Rattle.file_plan.specs.declared.block_call.BlockAnswer.TheVariants as answer
use Rattle.node_base.specs.declared.effects.Effect.{Effect}
use Rattle.xfs_base.specs.declared.token.Mode.{Mode}
use Rattle.xfs_base.specs.Steps.{saying, still}
use Rattle.client_call.specs.Fitting.{put_fits}
use Rattle.client_running.specs.Blocks.{changed, changes, blocks_change, got, blocks_get, held_back, is_settled, blocks_let_go, blocks_make, blocks_need, put_of, blocks_put, puts_again, blocks_put_at, blocks_sync, wrote}
use Rattle.client_serving.specs.declared.serving.Serving.{Serving}
use Rattle.client_serving.specs.Flights.{held_at}
use Rattle.client_serving.specs.Follow.{hand, serving_seal}
use Rattle.client_serving.specs.Sends.{Done, gives}
use Rattle.file_plan.specs.declared.block_call.BlockCall.{BlockCall}
use Rattle.file_plan.specs.declared.block_call.BlockCall.TheVariants.{Get, Put, PutAt, Sync}
use Rattle.node_base.specs.declared.effects.Effect.TheVariants.{Does}
use Rattle.token_client.specs.declared.input.In.TheVariants as input
use Rattle.token_client.proofs.Tables.{held_of-put_itself}
use Rattle.token_client.specs.declared.held.Held.{Held}
use Rattle.token_client.specs.Held.{may_write, held_write}
use Rattle.token_client.specs.State.{held_of, with_held}
use Rattle.token_client.specs.Transition.{on_wrote}
use Rattle.version_model.specs.declared.act.Act.TheVariants.{Synced}
use Rattle.xfs_base.proofs.Booleans.{by_test, contrary}
use Rattle.xfs_base.specs.declared.block.BlockId.{BlockId}
use Rattle.xfs_base.specs.declared.token.Mode.TheVariants.{Copy, Own}
use Rattle.xfs_base.specs.Modes.{is_nothing}
use Rattle.client_moves.proofs.Following.{hands_move, let_go_moves, wrote_moves}
use Rattle.client_moves.proofs.Uncalled.Uncalled.{CacheTakes}
use Rattle.coop_cache.specs.declared.input.In.TheVariants as cache_in
use Rattle.serving_moves.proofs.call_moves.Following.{moved, seals_go}
use Rattle.serving_moves.proofs.call_moves.Keeping.{itself, stays}
use Rattle.serving_moves.specs.call_moves.Moves.{Fits, MakesSo, Moves, tells}
use Rattle.headline.specs.Calls.{IsAnswerTo}

-- nothing is answered, or nothing is told by the answer
mute : (s : Serving) (call : BlockCall) (d : Done) (a : Option BlockAnswer) → tells s.lasting.number call a ≡ [] → Fits call a → Moves s d
    → MakesSo s call (record { done = d; answer = a })
mute s call d a none fits moves = record {
  first = still s;
  firstly = stays s s (itself s);
  last = d;
  lastly = moves;
  all = ap (λ (outs : List Effect). saying outs d) (sym none);
  fits = fits;
}

-- that is acted first, and then there are moves
told_first : (s : Serving) (call : BlockCall) (d : Done) (a : BlockAnswer) → IsAnswerTo call a → Moves s d
    → MakesSo s call (record { done = saying (tells s.lasting.number call (Some a)) d; answer = Some a })
told_first s call d a fits moves =
    record { first = still s; firstly = stays s s (itself s); last = d; lastly = moves; all = refl; fits = fits }

needs_go : (s : Serving) (call : BlockCall) (block : BlockId) (mode : Mode) → MakesSo s call (blocks_need s block mode)
needs_go s call block mode = mute s call (hand s (input.Need block mode)) None refl tt (moved (hands_move s (input.Need block mode) tt))

gets_go : (s : Serving) (block : BlockId) → MakesSo s (Get block) (blocks_get s block)
unfolding blocks_get
gets_go s block =
    by_test (MakesSo s (Get block)) (is_nothing (held_at s block).mode) (blocks_need s block Copy) (got s block (held_at s block))
    (λ _. needs_go s (Get block) block Copy)
    (λ _. told_first s (Get block) (still (record s { cache = touch s.cache block })) (answer.Got (held_at s block).ver (value_of (held_at s block))) tt
    (moved (CacheTakes s (cache_in.Touch block))))

put_go : (s : Serving) (block : BlockId) (value : Option (List ℕ)) → MakesSo s (Put block value) (blocks_change s block value)
unfolding blocks_change changes
put_go s block value =
    by_test (MakesSo s (Put block value)) (put_fits block ((held_at s block).ver + 1) value) (changes s block value) (held_back s block)
    (λ _. told_first s (Put block value) (put_of (wrote s block value) block value) (answer.Put (held_at (wrote s block value) block).ver) tt
    (moved (wrote_moves s block value))) (λ _. mute s (Put block value) (gives (blocks_let_go s block) []) None refl tt (moved (let_go_moves s block)))

-- what may be written has its next version then
wrote_next : (s : Serving) (block : BlockId) (value : Option (List ℕ)) → may_write (held_at s block) ≡ true
    → (held_at (wrote s block value) block).ver ≡ (held_at s block).ver + 1
unfolding on_wrote
wrote_next s block value may =
    by_test (λ d. (held_of d.state.blocks block).ver ≡ (held_at s block).ver + 1) (may_write (held_at s block))
    (still (with_held s.tokens block (held_write (held_at s block) value))) (still s.tokens)
    (λ _. ap (λ (h : Held). h.ver) (held_of-put_itself block (held_write (held_at s block) value) s.tokens.blocks)) (λ none. contrary (sym none ∙ may))

put_at_go : (s : Serving) (block : BlockId) (ver : ℕ) (value : Option (List ℕ)) → may_write (held_at s block) ≡ true → (held_at s block).ver ≡ ver
    → MakesSo s (PutAt block ver value) (blocks_change s block value)
unfolding blocks_change changes
put_at_go s block ver value may same =
    by_test (MakesSo s (PutAt block ver value)) (put_fits block ((held_at s block).ver + 1) value) (changes s block value) (held_back s block)
    (λ _. told_first s (PutAt block ver value) (put_of (wrote s block value) block value) (answer.Put (held_at (wrote s block value) block).ver)
    (wrote_next s block value may ∙ ap (λ n. n + 1) same)
    (moved (wrote_moves s block value))) (λ _. mute s (PutAt block ver value) (gives (blocks_let_go s block) []) None refl tt (moved (let_go_moves s block)))

puts_go : (s : Serving) (block : BlockId) (value : Option (List ℕ)) → MakesSo s (Put block value) (blocks_put s block value)
unfolding blocks_put
puts_go s block value =
    by_test (MakesSo s (Put block value)) (may_write (held_at s block)) (blocks_change s block value) (blocks_need s block Own)
    (λ _. put_go s block value) (λ _. needs_go s (Put block value) block Own)

puts_again_go : (s : Serving) (block : BlockId) (ver : ℕ) (value : Option (List ℕ)) → may_write (held_at s block) ≡ true
    → MakesSo s (PutAt block ver value) (puts_again s block ver value)
puts_again_go s block ver value may =
    by_test (MakesSo s (PutAt block ver value)) ((held_at s block).ver == ver) (blocks_change s block value) (changed s block)
    (λ same. put_at_go s block ver value may (eqb-true (held_at s block).ver ver same))
    (λ _. mute s (PutAt block ver value) (gives (blocks_let_go s block) []) (Some answer.Changed) refl tt (moved (let_go_moves s block)))

blocks_put_at_go : (s : Serving) (block : BlockId) (ver : ℕ) (value : Option (List ℕ)) → MakesSo s (PutAt block ver value) (blocks_put_at s block ver value)
unfolding blocks_put_at
blocks_put_at_go s block ver value =
    by_test (MakesSo s (PutAt block ver value)) (may_write (held_at s block)) (puts_again s block ver value) (blocks_need s block Own)
    (λ may. puts_again_go s block ver value may) (λ _. needs_go s (PutAt block ver value) block Own)

seals_number : (s : Serving) → (serving_seal s).state.lasting.number ≡ s.lasting.number
unfolding serving_seal
seals_number s = refl

syncs_go : (s : Serving) → MakesSo s Sync (blocks_sync s)
unfolding blocks_sync
syncs_go s = record {
  first = d;
  firstly = seals_go s;
  last = still d.state;
  lastly = stays d.state d.state (itself d.state);
  all = ap (λ (outs : List Effect). record { state = d.state; outs = d.outs ++ outs }) (by (is_settled d.state));
  fits = fits (is_settled d.state);
}
  where
    d : Done
    d = serving_seal s

    by : (t : Bool) → cond t (Does (Synced d.state.lasting.number) ∷ []) [] ≡ tells s.lasting.number Sync (cond t (Some answer.Synced) None) ++ []
    by true = ap (λ (n : ℕ). Does (Synced n) ∷ []) (seals_number s)
    by false = refl

    fits : (t : Bool) → Fits Sync (cond t (Some answer.Synced) None)
    fits true = tt
    fits false = tt

pub makes_go : (s : Serving) (call : BlockCall) → MakesSo s call (blocks_make s call)
unfolding blocks_make
makes_go s (Get block) = gets_go s block
makes_go s (Put block value) = puts_go s block value
makes_go s (PutAt block ver value) = blocks_put_at_go s block ver value
makes_go s Sync = syncs_go s
