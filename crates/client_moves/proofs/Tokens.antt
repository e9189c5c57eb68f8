-- What each input that is no grant makes of the tokens of a client is made of moves.
use Rattle.std.proofs.Common.{◌≡◌, ℕ, ◌-◌, ◌&&◌, Bool, List, [], ◌∷◌, length, is_some, Option, Some, None, nat_le, nat_lt, refl}
use Rattle.std.specs.List.{AllByRecursion, list_any}
use Rattle.std.specs.Map.{values_of}
use Rattle.token_client.specs.declared.held.Wanted.{Wanted}
use Rattle.token_client.specs.declared.input.In.{In}
use Rattle.token_client.specs.declared.input.In.TheVariants as input
use Rattle.token_client.specs.declared.output.Out.{Out}
use Rattle.token_client.specs.declared.output.Out.TheVariants as output
use Rattle.token_client.specs.Held.{is_asking, is_dirty, is_settled_by, may_end_fetch, may_evict, may_write, must_ask, unfetched}
use Rattle.token_client.specs.State.{TokensState, epoch_of, held_of, with_held}
use Rattle.token_client.specs.Transition.{Done, accepts, ask_again, ask_copy, can_refetch, fetched_blocks, give, is_promised, is_spent, may_promise, on_evict, on_fetched, on_forwarded, on_need, on_promise, on_quit, on_reask, on_recalled, on_settled, on_supplied, on_tick, on_wrote, raised, recalled, recalled_above, recalled_again, refetch, repeated, serves, supplies, tokens_ask, transition, wanted_blocks, was_answered}
use Rattle.xfs_base.proofs.Alls.{all_append}
use Rattle.xfs_base.proofs.Booleans.{and_first, and_second, by_test}
use Rattle.xfs_base.specs.declared.block.BlockId.{BlockId}
use Rattle.xfs_base.specs.declared.token.Mode.{Mode}
use Rattle.xfs_base.specs.declared.token.Mode.TheVariants.{Copy}
use Rattle.xfs_base.specs.declared.token.Stamp.{Stamp}
use Rattle.xfs_base.specs.Limits.{slot_count, u32_end}
use Rattle.xfs_base.specs.Stamps.{is_later}
use Rattle.xfs_base.specs.Steps.{saying, steps, still}
use Rattle.client_moves.specs.Tokens.{InputsAreMoves, NoRead, NotGranted, TokenMoves}
use Rattle.client_moves.specs.Tokens.Changed.{AskedAgain, Fetched, GivenUp, LetGo, PutOff, Quit, Settled, Supplied, Unfetched, Written}
use Rattle.client_moves.specs.Tokens.TokenMoves.{Asks, Follows, Keeps, Puts, Raises, Tells}

abbrev TakesTo : TokensState → Done → Type 0
TakesTo s d = TokenMoves s d.state d.outs

each_takes : (f : TokensState → BlockId → Done) → ((s : TokensState) (block : BlockId) → TakesTo s (f s block)) → (s : TokensState) (blocks : List BlockId)
    → TakesTo s (steps f s blocks)
each_takes f one s [] = Keeps s
each_takes f one s (block ∷ blocks) = Follows (one s block) (each_takes f one (f s block).state blocks)

module _ (s : TokensState) (block : BlockId) where
  -- where a test is met it is put so, and said so
  asks : (mode : Mode) → TakesTo s (tokens_ask s block mode)
  unfolding tokens_ask
  asks mode = by_test (TakesTo s) (nat_lt s.req u32_end) _ (still s) (λ room. Asks s block mode room) (λ _. Keeps s)

  needs : (mode : Mode) → TakesTo s (on_need s block mode)
  unfolding on_need
  needs mode = by_test (TakesTo s) (must_ask (held_of s.blocks block) mode) (tokens_ask s block mode) (still s) (λ _. asks mode) (λ _. Keeps s)

  supplied : (stamp : Stamp) (inc req ver : ℕ) (value : Option (List ℕ)) → TakesTo s (on_supplied s block stamp inc req ver value)
  unfolding on_supplied
  supplied stamp inc req ver value =
      by_test (TakesTo s) (accepts s block stamp inc req Copy) _ (still s)
      (λ _. Follows (Puts s block _ (Supplied stamp ver value)) (Tells _ (output.Ready block) tt)) (λ _. Keeps s)

  forwarded : (stamp : Stamp) (ver : ℕ) → TakesTo s (on_forwarded s block stamp ver)
  unfolding on_forwarded
  forwarded stamp ver =
      by_test (TakesTo s) (serves s block stamp ver) (record { state = s; outs = supplies block ver (held_of s.blocks block).value }) (still s)
      (λ _. by (held_of s.blocks block).value) (λ _. Keeps s)
    where
      by : (value : Option (Option (List ℕ))) → TokenMoves s s (supplies block ver value)
      by None = Keeps s
      by (Some value) = Tells s (output.Supply block ver value) tt

  gives : (stamp : Stamp) (keep : Bool) → TakesTo s (give s block stamp keep)
  unfolding give
  gives stamp keep =
      by_test (TakesTo s) (is_dirty (held_of s.blocks block)) _ _ (λ _. Follows (Puts s block _ (PutOff stamp keep)) (Tells _ (output.Flush block) tt))
      (λ _. Follows (Puts s block _ (GivenUp stamp keep)) (Tells _ (output.Gave block stamp) tt))

  wrote : (value : Option (List ℕ)) → TakesTo s (on_wrote s block value)
  unfolding on_wrote
  wrote value = by_test (TakesTo s) (may_write (held_of s.blocks block)) _ (still s) (λ _. Puts s block _ (Written value)) (λ _. Keeps s)

  settled : (ver : ℕ) → TakesTo s (on_settled s block ver)
  unfolding on_settled
  settled ver = by_test (TakesTo s) (is_settled_by (held_of s.blocks block) ver) _ (still s) (λ _. Puts s block _ (Settled ver)) (λ _. Keeps s)

  fetched : (value : Option (List ℕ)) → TakesTo s (on_fetched s block value)
  unfolding on_fetched
  fetched value =
      by_test (TakesTo s) (may_end_fetch (held_of s.blocks block)) _ (still s)
      (λ _. Follows (Puts s block _ (Fetched value)) (Tells _ (output.Ready block) tt)) (λ _. Keeps s)

  evicted : TakesTo s (on_evict s block)
  unfolding on_evict
  evicted = by_test (TakesTo s) (may_evict (held_of s.blocks block)) _ (still s) (λ _. Puts s block _ LetGo) (λ _. Keeps s)

  asks_anew : TakesTo s (on_reask s block)
  unfolding on_reask
  asks_anew = by_test (TakesTo s) (is_some (held_of s.blocks block).fetch) (tokens_ask s block Copy) (still s) (λ _. asks Copy) (λ _. Keeps s)

  quits : TakesTo s (on_quit s block)
  unfolding on_quit
  quits = by_test (TakesTo s) (is_asking (held_of s.blocks block)) _ (still s) (λ _. Puts s block _ Quit) (λ _. Keeps s)

  asks_again : TakesTo s (ask_again s block)
  unfolding ask_again
  asks_again =
      by_test (TakesTo s) (is_spent (held_of s.blocks block).want) (still s) (repeated s block (held_of s.blocks block).want) (λ _. Keeps s)
      (λ _. by (held_of s.blocks block).want refl)
    where
      by : (want : Option Wanted) → (held_of s.blocks block).want ≡ want → TakesTo s (repeated s block want)
      by None fact = Keeps s
      by (Some w) fact = Follows (Puts s block _ (AskedAgain w fact)) (Tells _ (output.Want block w.req _ w.mode) tt)

-- ---- recalls

refetches : (s : TokensState) (block : BlockId) → TakesTo s (refetch s block)
unfolding refetch
refetches s block =
    let t : TokensState = with_held s block (unfetched (held_of s.blocks block)) in
    by_test (TakesTo s) (is_some (held_of s.blocks block).fetch) (tokens_ask t block Copy) (still s)
    (λ _. Follows (Puts s block _ Unfetched) (asks t block Copy)) (λ _. Keeps s)

above : (s : TokensState) (block : BlockId) (stamp : Stamp) (keep : Bool) → TakesTo s (recalled_above s block stamp keep)
unfolding recalled_above
above s block stamp keep =
    by_test (TakesTo s) (can_refetch s block) (saying (refetch s block).outs (give (refetch s block).state block stamp keep)) (still s)
    (λ _. Follows (refetches s block) (gives (refetch s block).state block stamp keep)) (λ _. Keeps s)

recalls_again : (s : TokensState) (block : BlockId) (stamp : Stamp) → TakesTo s (recalled_again s block stamp)
unfolding recalled_again
recalls_again s block stamp =
    by_test (TakesTo s) (was_answered (held_of s.blocks block) stamp) _ (still s) (λ _. Tells s (output.Gave block stamp) tt) (λ _. Keeps s)

recalls : (s : TokensState) (block : BlockId) (stamp : Stamp) (keep : Bool) → TakesTo s (on_recalled s block stamp keep)
unfolding on_recalled recalled
recalls s block stamp keep =
    by_test (TakesTo s) (is_promised s block stamp) (recalled s block stamp keep) (still s)
    (λ _. by_test (TakesTo s) (is_later stamp (held_of s.blocks block).stamp) (recalled_above s block stamp keep) (recalled_again s block stamp)
    (λ _. above s block stamp keep) (λ _. recalls_again s block stamp)) (λ _. Keeps s)

-- ---- promises, and time

promises : (s : TokensState) (slot epoch : ℕ) → TakesTo s (on_promise s slot epoch)
unfolding on_promise
promises s slot epoch =
    by_test (TakesTo s) (may_promise s slot epoch) (steps ask_copy (raised s slot epoch) (fetched_blocks slot s.blocks)) (still s)
    (λ may. Follows (Raises s slot epoch (and_second (nat_lt slot slot_count) (nat_le (epoch_of s.epochs slot) epoch)
    (and_first (nat_lt slot slot_count && nat_le (epoch_of s.epochs slot) epoch) (nat_le (length (fetched_blocks slot s.blocks)) (u32_end - s.req)) may)))
    (each_takes ask_copy (λ t block. asks t block Copy) (raised s slot epoch) (fetched_blocks slot s.blocks))) (λ _. Keeps s)

ticks : (s : TokensState) → TakesTo s (on_tick s)
unfolding on_tick
ticks s =
    by_test (TakesTo s) (list_any (λ h. is_spent h.want) (values_of s.blocks)) (still s) (steps ask_again s (wanted_blocks s.blocks)) (λ _. Keeps s)
    (λ _. each_takes ask_again asks_again s (wanted_blocks s.blocks))

pub inputs_are_moves : InputsAreMoves
inputs_are_moves s (input.Need block mode) none = needs s block mode
inputs_are_moves s (input.Granted block stamp inc req mode entry) none = absurd none
inputs_are_moves s (input.Supplied block stamp inc req ver value) none = supplied s block stamp inc req ver value
inputs_are_moves s (input.Forwarded block stamp ver) none = forwarded s block stamp ver
inputs_are_moves s (input.Recalled block stamp keep) none = recalls s block stamp keep
inputs_are_moves s (input.Wrote block value) none = wrote s block value
inputs_are_moves s (input.Settled block ver) none = settled s block ver
inputs_are_moves s (input.Fetched block value) none = fetched s block value
inputs_are_moves s (input.Evict block) none = evicted s block
inputs_are_moves s (input.Reask block) none = asks_anew s block
inputs_are_moves s (input.Quit block) none = quits s block
inputs_are_moves s (input.Promise slot epoch) none = promises s slot epoch
inputs_are_moves s input.Tick none = ticks s

-- ---- of nothing it is said that it is to be read

moves_read_none : (s t : TokensState) (o : List Out) → TokenMoves s t o → AllByRecursion NoRead o
moves_read_none s t o (Keeps u) = tt
moves_read_none s t o (Follows {t = v} {o = first} {m = more} a b) =
    all_append NoRead first more (moves_read_none s v first a) (moves_read_none v t more b)
moves_read_none s t o (Puts u block h changed) = tt
moves_read_none s t o (Asks u block mode room) = (tt, tt)
moves_read_none s t o (Raises u slot epoch rises) = tt
moves_read_none s t o (Tells u out none) = (none, tt)

pub reads_none : (s : TokensState) (i : In) → NotGranted i → AllByRecursion NoRead (transition s i).outs
reads_none s i none = moves_read_none s (transition s i).state (transition s i).outs (inputs_are_moves s i none)
