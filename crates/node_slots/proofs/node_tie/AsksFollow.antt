-- What the tokens have a client do keeps what it asks for as it is needed.
use Rattle.std.proofs.Common.{◌≡◌, Bool, List, [], ◌∷◌, Option, Some, None, refl}
use Rattle.std.specs.List.{fold}
use Rattle.xfs_base.specs.declared.block.BlockId.{BlockId}
use Rattle.xfs_base.specs.declared.token.Mode.TheVariants.{Copy}
use Rattle.xfs_base.specs.declared.token.Stamp.{Stamp}
use Rattle.xfs_base.specs.Modes.{same_mode, is_nothing}
use Rattle.xfs_base.proofs.Booleans.{by_test}
use Rattle.coop_cache.specs.declared.output.Out as cache_out
use Rattle.coop_cache.specs.declared.output.Out.TheVariants.{Victim}
use Rattle.coop_cache.specs.Transition.{cache_clean, cache_leave}
use Rattle.token_client.specs.declared.input.In.{In}
use Rattle.token_client.specs.declared.input.In.TheVariants as input
use Rattle.token_client.specs.declared.output.Out.{Out}
use Rattle.token_client.specs.declared.output.Out.TheVariants.{Flush, Read, Ready}
use Rattle.token_client.specs.State.{held_of}
use Rattle.token_client.specs.Transition.{transition}
use Rattle.token_client.proofs.Promises.{Each}
use Rattle.client_call.specs.declared.call.Call.{Call}
use Rattle.client_call.specs.Reads.{set_reading, kept_while, reading_in}
use Rattle.client_serving.specs.declared.serving.Serving.{Serving}
use Rattle.client_serving.specs.Follow.{evicts, note_clean, note_gone, note_copy, serving_seal, follow_one, serving_follow, hand, take_back}
use Rattle.client_serving.specs.Reads.{ends_reading, with_reading}
use Rattle.segment_reading.specs.Reading.{ReadingState}
use Rattle.node_slots.proofs.node_tie.AsksBlock.{Need}
use Rattle.node_slots.proofs.node_tie.AsksTokens.{IsQuiet}
use Rattle.node_slots.proofs.node_tie.AsksInputs.{InputSuits, transition-quiet}
use Rattle.node_slots.proofs.node_tie.AsksFrames.{Keeps, step_of, keeps_same, keeps_through, fold_keeps, takes-keeps}

pub set_reading-step : (c : Option Call) (r : Option ReadingState) → step_of (set_reading c r) ≡ step_of c
set_reading-step None r = refl
set_reading-step (Some call) r = refl

module _ (n : Need) where
  pub with_reading-keeps : (s : Serving) (r : Option ReadingState) → Keeps n s (with_reading s r)
  with_reading-keeps s r a = record { asks = a; call = set_reading-step s.call r; item = refl }

  pub ends_reading-keeps : (s : Serving) → Keeps n s (ends_reading s)
  ends_reading-keeps s = with_reading-keeps s (kept_while s.tokens (reading_in s.call))

  -- ---- the cache

  evicts-keeps : (s : Serving) (o : cache_out.Out) → Keeps n s (evicts s o)
  unfolding evicts
  evicts-keeps s (Victim block) = takes-keeps n s (input.Evict block) tt

  pub note_clean-keeps : (s : Serving) (block : BlockId) → Keeps n s (note_clean s block)
  unfolding note_clean
  note_clean-keeps s block =
      let t : Serving = record s { cache = (cache_clean s.cache block).state } in
      let outs : List cache_out.Out = (cache_clean s.cache block).outs in
      keeps_through n s t (fold evicts t outs) (λ a. record { asks = a; call = refl; item = refl }) (fold_keeps n evicts evicts-keeps t outs)

  pub note_gone-keeps : (s : Serving) (block : BlockId) → Keeps n s (note_gone s block)
  unfolding note_gone
  note_gone-keeps s block =
      by_test (Keeps n s) (is_nothing (held_of s.tokens.blocks block).mode) (record s { cache = cache_leave s.cache block }) s
      (λ t a. record { asks = a; call = refl; item = refl }) (λ t. keeps_same n s)

  note_copy-keeps : (s : Serving) (block : BlockId) → Keeps n s (note_copy s block)
  unfolding note_copy
  note_copy-keeps s block =
      by_test (Keeps n s) (same_mode (held_of s.tokens.blocks block).mode Copy) (note_clean s block) s (λ t. note_clean-keeps s block) (λ t. keeps_same n s)

  -- ---- the log

  pub serving_seal-keeps : (s : Serving) → Keeps n s (serving_seal s).state
  unfolding serving_seal
  serving_seal-keeps s a = record { asks = a; call = refl; item = refl }

  -- ---- what the tokens say

  pub follow_one-keeps : (s : Serving) (o : Out) → IsQuiet o → Keeps n s (follow_one s o).state
  unfolding follow_one
  follow_one-keeps s (Flush block) q = serving_seal-keeps s
  follow_one-keeps s (Read block place) q = absurd q
  follow_one-keeps s (Ready block) q = note_copy-keeps s block
  follow_one-keeps s _ q = keeps_same n s

  pub serving_follow-keeps : (s : Serving) (outs : List Out) → Each IsQuiet outs → Keeps n s (serving_follow s outs).state
  unfolding serving_follow
  serving_follow-keeps s [] q = keeps_same n s
  serving_follow-keeps s (o ∷ outs) q =
      keeps_through n s (follow_one s o).state (serving_follow (follow_one s o).state outs).state (follow_one-keeps s o q.0)
      (serving_follow-keeps (follow_one s o).state outs q.1)

  -- the tokens take an input, and what they say is done
  pub hand-keeps : (s : Serving) (i : In) → InputSuits n i → Keeps n s (hand s i).state
  unfolding hand
  hand-keeps s i fact a =
      let t : Serving = record s { tokens = (transition s.tokens i).state } in
      let outs : List Out = (transition s.tokens i).outs in
      let u : Serving = ends_reading t in
      let followed : Keeps n u (serving_follow u outs).state = serving_follow-keeps u outs (transition-quiet n s.tokens a i fact) in
      keeps_through n s t (serving_follow u outs).state (takes-keeps n s i fact) (keeps_through n t u (serving_follow u outs).state (ends_reading-keeps t) followed) a

  pub take_back-keeps : (s : Serving) (block : BlockId) (stamp : Stamp) (keep : Bool) → Keeps n s (take_back s block stamp keep).state
  unfolding take_back
  take_back-keeps s block stamp keep =
      let t : Serving = (hand s (input.Recalled block stamp keep)).state in
      keeps_through n s t (note_gone t block) (hand-keeps s (input.Recalled block stamp keep) tt) (note_gone-keeps t block)
