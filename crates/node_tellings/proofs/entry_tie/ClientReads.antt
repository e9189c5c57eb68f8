-- What the tokens of a client have it read from logs, at each input: a block is read where a grant tells it to lie; and a reading that is begun is of one
-- place.
use Rattle.std.proofs.Common.{ℕ, Bool, List, [], ◌∷◌, Option, Some, None, is_some}
use Rattle.std.specs.List.{AllByRecursion, list_any}
use Rattle.std.specs.Map.{values_of}
use Rattle.token_client.specs.declared.held.Wanted.{Wanted}
use Rattle.token_client.specs.declared.input.In.{In}
use Rattle.token_client.specs.declared.input.In.TheVariants as input
use Rattle.token_client.specs.declared.output.Out.{Out}
use Rattle.token_client.specs.declared.output.Out.TheVariants as output
use Rattle.token_client.specs.Held.{is_dirty, is_asking, must_ask, may_write, is_settled_by, may_end_fetch, may_evict}
use Rattle.token_client.specs.State.{TokensState, held_of}
use Rattle.token_client.specs.Transition.{Done, tokens_ask, on_need, accepts, copy_next, on_granted, on_supplied, serves, supplies, on_forwarded, refetch, give, can_refetch, recalled_above, was_answered, recalled_again, recalled, is_promised, on_recalled, on_wrote, on_settled, on_fetched, on_evict, on_reask, on_quit, wanted_blocks, is_spent, repeated, ask_again, on_tick, transition}
use Rattle.xfs_base.proofs.Booleans.{by_test}
use Rattle.xfs_base.specs.declared.block.BlockId.{BlockId}
use Rattle.xfs_base.specs.declared.entry.Entry.{Entry}
use Rattle.xfs_base.specs.declared.entry.Place.{Place}
use Rattle.xfs_base.specs.declared.token.Mode.{Mode}
use Rattle.xfs_base.specs.declared.token.Mode.TheVariants.{Copy}
use Rattle.xfs_base.specs.declared.token.Stamp.{Stamp}
use Rattle.xfs_base.specs.Modes.{is_own}
use Rattle.xfs_base.specs.Stamps.{is_later}
use Rattle.xfs_base.specs.Steps.{still, saying, steps}
use Rattle.xfs_base.proofs.Alls.{all_append, all_weaker}
use Rattle.node_tellings.specs.entry_tie.ClientTells.{BlockTold}
use Rattle.node_tellings.specs.entry_tie.Told.{Told}
use Rattle.node_tellings.proofs.entry_tie.ClientTokens.{InputTold}
use Rattle.node_moves.proofs.client_walk.Laws.{Tells}
use Rattle.node_moves.proofs.client_walk.Promises.{IsWant, asked_for, promise_wants}

module _ (told : Told) where
  -- ---- what the tokens say

  -- a block is to be read where it is told to lie
  abbrev pub OutTold : Out → Type 0
  OutTold o = Tells (λ target. BlockTold told target.seg target.block) o

  abbrev AllOut : Done → Type 0
  AllOut d = AllByRecursion OutTold d.outs

  a_want : (o : Out) → IsWant o → OutTold o
  a_want (output.Read block place) fact = absurd fact
  a_want _ fact = tt

  pub wants_told : (outs : List Out) → AllByRecursion IsWant outs → AllByRecursion OutTold outs
  wants_told outs all = all_weaker IsWant OutTold a_want outs all

  tokens_ask_out : (s : TokensState) (block : BlockId) (mode : Mode) → AllOut (tokens_ask s block mode)
  tokens_ask_out s block mode = wants_told (tokens_ask s block mode).outs (asked_for s block mode)

  need_out : (s : TokensState) (block : BlockId) (mode : Mode) → AllOut (on_need s block mode)
  unfolding on_need
  need_out s block mode =
      by_test AllOut (must_ask (held_of s.blocks block) mode) (tokens_ask s block mode) (still s) (λ _. tokens_ask_out s block mode) (λ _. tt)

  copy_out : (block : BlockId) (ver hop : ℕ) (place : Option Place) → told block (record {
    ver =
        ver;
    hop = hop;
    place = place;
  }) → OutTold (copy_next block place)
  copy_out block ver hop None fact = tt
  copy_out block ver hop (Some place) fact = record { ver = ver; there = record { hop = hop; place_told = fact } }

  granted_out : (s : TokensState) (block : BlockId) (stamp : Stamp) (inc req : ℕ) (mode : Mode) (entry : Entry) → told block entry
      → AllOut (on_granted s block stamp inc req mode entry)
  unfolding on_granted
  granted_out s block stamp inc req mode entry fact =
      by_test AllOut (accepts s block stamp inc req mode) _ (still s)
      (λ _. (
        by_test OutTold (is_own mode) (output.Ready block) (copy_next block entry.place) (λ _. tt)
            (λ _. copy_out block entry.ver entry.hop entry.place fact),
        tt,
      ))
      (λ _. tt)

  supplied_out : (s : TokensState) (block : BlockId) (stamp : Stamp) (inc req ver : ℕ) (value : Option (List ℕ))
      → AllOut (on_supplied s block stamp inc req ver value)
  unfolding on_supplied
  supplied_out s block stamp inc req ver value = by_test AllOut (accepts s block stamp inc req Copy) _ (still s) (λ _. (tt, tt)) (λ _. tt)

  supplies_out : (block : BlockId) (ver : ℕ) (value : Option (Option (List ℕ))) → AllByRecursion OutTold (supplies block ver value)
  supplies_out block ver None = tt
  supplies_out block ver (Some value) = (tt, tt)

  forwarded_out : (s : TokensState) (block : BlockId) (stamp : Stamp) (ver : ℕ) → AllOut (on_forwarded s block stamp ver)
  unfolding on_forwarded
  forwarded_out s block stamp ver =
      by_test AllOut (serves s block stamp ver) (record { state = s; outs = supplies block ver (held_of s.blocks block).value }) (still s)
      (λ _. supplies_out block ver (held_of s.blocks block).value) (λ _. tt)

  refetch_out : (s : TokensState) (block : BlockId) → AllOut (refetch s block)
  unfolding refetch
  refetch_out s block = by_test AllOut (is_some (held_of s.blocks block).fetch) (tokens_ask _ block Copy) (still s) (λ _. tokens_ask_out _ block Copy) (λ _. tt)

  give_out : (s : TokensState) (block : BlockId) (stamp : Stamp) (keep : Bool) → AllOut (give s block stamp keep)
  unfolding give
  give_out s block stamp keep = by_test AllOut (is_dirty (held_of s.blocks block)) _ _ (λ _. (tt, tt)) (λ _. (tt, tt))

  above_out : (s : TokensState) (block : BlockId) (stamp : Stamp) (keep : Bool) → AllOut (recalled_above s block stamp keep)
  unfolding recalled_above
  above_out s block stamp keep =
      by_test AllOut (can_refetch s block) (saying (refetch s block).outs (give (refetch s block).state block stamp keep)) (still s)
      (λ _. all_append OutTold (refetch s block).outs (give (refetch s block).state block stamp keep).outs (refetch_out s block)
      (give_out (refetch s block).state block stamp keep))
      (λ _. tt)

  again_out : (s : TokensState) (block : BlockId) (stamp : Stamp) → AllOut (recalled_again s block stamp)
  unfolding recalled_again
  again_out s block stamp = by_test AllOut (was_answered (held_of s.blocks block) stamp) _ (still s) (λ _. (tt, tt)) (λ _. tt)

  recalled_out : (s : TokensState) (block : BlockId) (stamp : Stamp) (keep : Bool) → AllOut (recalled s block stamp keep)
  unfolding recalled
  recalled_out s block stamp keep =
      by_test AllOut (is_later stamp (held_of s.blocks block).stamp) (recalled_above s block stamp keep) (recalled_again s block stamp)
      (λ _. above_out s block stamp keep) (λ _. again_out s block stamp)

  on_recalled_out : (s : TokensState) (block : BlockId) (stamp : Stamp) (keep : Bool) → AllOut (on_recalled s block stamp keep)
  unfolding on_recalled
  on_recalled_out s block stamp keep =
      by_test AllOut (is_promised s block stamp) (recalled s block stamp keep) (still s) (λ _. recalled_out s block stamp keep) (λ _. tt)

  repeated_out : (s : TokensState) (block : BlockId) (want : Option Wanted) → AllOut (repeated s block want)
  repeated_out s block None = tt
  repeated_out s block (Some w) = (tt, tt)

  ask_again_out : (s : TokensState) (block : BlockId) → AllOut (ask_again s block)
  unfolding ask_again
  ask_again_out s block =
      by_test AllOut (is_spent (held_of s.blocks block).want) (still s) (repeated s block (held_of s.blocks block).want) (λ _. tt)
      (λ _. repeated_out s block (held_of s.blocks block).want)

  all_asked_again : (s : TokensState) (blocks : List BlockId) → AllOut (steps ask_again s blocks)
  all_asked_again s [] = tt
  all_asked_again s (b ∷ bs) =
      all_append OutTold (ask_again s b).outs (steps ask_again (ask_again s b).state bs).outs (ask_again_out s b) (all_asked_again (ask_again s b).state bs)

  pub tokens_say : (s : TokensState) (i : In) → InputTold told i → AllByRecursion OutTold (transition s i).outs
  unfolding on_wrote on_settled on_fetched on_evict on_reask on_quit on_tick
  tokens_say s (input.Need block mode) fact = need_out s block mode
  tokens_say s (input.Granted block stamp inc req mode entry) fact = granted_out s block stamp inc req mode entry fact
  tokens_say s (input.Supplied block stamp inc req ver value) fact = supplied_out s block stamp inc req ver value
  tokens_say s (input.Forwarded block stamp ver) fact = forwarded_out s block stamp ver
  tokens_say s (input.Recalled block stamp keep) fact = on_recalled_out s block stamp keep
  tokens_say s (input.Wrote block value) fact = by_test AllOut (may_write (held_of s.blocks block)) _ (still s) (λ _. tt) (λ _. tt)
  tokens_say s (input.Settled block ver) fact = by_test AllOut (is_settled_by (held_of s.blocks block) ver) _ (still s) (λ _. tt) (λ _. tt)
  tokens_say s (input.Fetched block value) fact = by_test AllOut (may_end_fetch (held_of s.blocks block)) _ (still s) (λ _. (tt, tt)) (λ _. tt)
  tokens_say s (input.Evict block) fact = by_test AllOut (may_evict (held_of s.blocks block)) _ (still s) (λ _. tt) (λ _. tt)
  tokens_say s (input.Reask block) fact =
      by_test AllOut (is_some (held_of s.blocks block).fetch) (tokens_ask s block Copy) (still s) (λ _. tokens_ask_out s block Copy) (λ _. tt)
  tokens_say s (input.Quit block) fact = by_test AllOut (is_asking (held_of s.blocks block)) _ (still s) (λ _. tt) (λ _. tt)
  tokens_say s (input.Promise slot epoch) fact = wants_told (transition s (input.Promise slot epoch)).outs (promise_wants s slot epoch)
  tokens_say s input.Tick fact =
      by_test AllOut (list_any (λ h. is_spent h.want) (values_of s.blocks)) (still s) (steps ask_again s (wanted_blocks s.blocks)) (λ _. tt)
      (λ _. all_asked_again s (wanted_blocks s.blocks))
