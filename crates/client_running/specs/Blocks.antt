-- Calls on blocks.
use Rattle.std.specs.Prelude.{ℕ, ◌+◌, Bool, ◌==◌, ◌&&◌, is_none, if◌then◌else◌, List, [], ◌∷◌, ◌++◌, Option, Some, None, length}
use Rattle.client_log.specs.declared.input.In.TheVariants as log_in
use Rattle.client_call.specs.Blocks.{value_of}
use Rattle.client_call.specs.Fitting.{put_fits}
use Rattle.client_serving.specs.declared.serving.Serving.{Serving}
use Rattle.client_serving.specs.Flights.{held_at, serving_write}
use Rattle.client_serving.specs.Follow.{hand, serving_seal, note_gone}
use Rattle.client_serving.specs.Sends.{Done, gives}
use Rattle.coop_cache.specs.Transition.{touch, cache_leave}
use Rattle.file_plan.specs.declared.block_call.BlockAnswer.{BlockAnswer}
use Rattle.file_plan.specs.declared.block_call.BlockAnswer.TheVariants as answer
use Rattle.file_plan.specs.declared.block_call.BlockCall.{BlockCall}
use Rattle.file_plan.specs.declared.block_call.BlockCall.TheVariants.{Get, Put, PutAt, Sync}
use Rattle.node_base.specs.declared.effects.Effect.{Effect}
use Rattle.node_base.specs.declared.effects.Effect.TheVariants.{Does}
use Rattle.token_client.specs.declared.held.Held.{Held}
use Rattle.token_client.specs.declared.input.In.TheVariants.{Need}
use Rattle.token_client.specs.Held.{may_write}
use Rattle.token_client.specs.Transition.{on_wrote, on_evict}
use Rattle.version_model.specs.declared.act.Act.TheVariants.{Wrote, Read, Synced}
use Rattle.xfs_base.specs.declared.block.BlockId.{BlockId}
use Rattle.xfs_base.specs.declared.token.Mode.{Mode}
use Rattle.xfs_base.specs.declared.token.Mode.TheVariants.{Copy, Own}
use Rattle.xfs_base.specs.Modes.{is_nothing}

-- what a call on blocks does, and its answer; none where it must wait
pub record Made : Type 0 where
  pub done : Done
  pub answer : Option BlockAnswer

abbrev pub waits : Done → Made
waits d = record { done = d; answer = None }

abbrev pub answers : Done → BlockAnswer → Made
answers d a = record { done = d; answer = Some a }

-- the block is asked for, unless it is asked for already
abbrev pub blocks_need : Serving → BlockId → Mode → Made
blocks_need s block mode = waits (hand s (Need block mode))

abbrev pub got : Serving → BlockId → Held → Made
got s block h =
    answers
    (gives (record s { cache = touch s.cache block }) (Does (Read s.lasting.number block h.ver (value_of h)) ∷ []))
    (answer.Got h.ver (value_of h))

-- Get: a block that is held is read.
unfoldable pub blocks_get : Serving → BlockId → Made
blocks_get s block = if is_nothing (held_at s block).mode then blocks_need s block Copy else got s block (held_at s block)

-- a block has a new version, and is clean no more
abbrev pub wrote : Serving → BlockId → Option (List ℕ) → Serving
wrote s block value = record s { tokens = (on_wrote s.tokens block value).state; cache = cache_leave s.cache block }

abbrev pub put_of : Serving → BlockId → Option (List ℕ) → Done
put_of s block value = serving_write s (log_in.Put block (record { ver = (held_at s block).ver; hop = 0; place = None }) value)

-- the block is written: that is acted, it is clean no more, and waits to be written to the log
unfoldable pub changes : Serving → BlockId → Option (List ℕ) → Made
changes s block value =
    let w = wrote s block value in
    let d = put_of w block value in
    answers (gives d.state (Does (Wrote s.lasting.number block value) ∷ d.outs)) (answer.Put (held_at w block).ver)

-- a block that was granted to be written, and isn't, is let go: it has no value yet
abbrev pub blocks_let_go : Serving → BlockId → Serving
blocks_let_go s block =
    if is_none (held_at s block).value
    then note_gone (record s { tokens = (on_evict s.tokens block).state }) block
    else s

-- What no segment can hold is never written: the call waits. No call of a program is such a one: the types of its numbers leave none.
abbrev pub held_back : Serving → BlockId → Made
held_back s block = waits (gives (blocks_let_go s block) [])

unfoldable pub blocks_change : Serving → BlockId → Option (List ℕ) → Made
blocks_change s block value =
    if put_fits block ((held_at s block).ver + 1) value then changes s block value else held_back s block

-- Put: a block that may be written is: it is owned and isn't to be given up.
unfoldable pub blocks_put : Serving → BlockId → Option (List ℕ) → Made
blocks_put s block value = if may_write (held_at s block) then blocks_change s block value else blocks_need s block Own

abbrev pub changed : Serving → BlockId → Made
changed s block = answers (gives (blocks_let_go s block) []) answer.Changed

abbrev pub puts_again : Serving → BlockId → ℕ → Option (List ℕ) → Made
puts_again s block ver value = if (held_at s block).ver == ver then blocks_change s block value else changed s block

-- PutAt: the same, where the version is still the named one.
unfoldable pub blocks_put_at : Serving → BlockId → ℕ → Option (List ℕ) → Made
blocks_put_at s block ver value =
    if may_write (held_at s block) then puts_again s block ver value else blocks_need s block Own

-- nothing waits to be written, and nothing is in flight
abbrev pub is_settled : Serving → Bool
is_settled s = is_none s.log.flight && (length s.log.dirty == 0)

abbrev pub synced_acts : Serving → List Effect
synced_acts s = if is_settled s then Does (Synced s.lasting.number) ∷ [] else []

abbrev pub synced_answer : Serving → Option BlockAnswer
synced_answer s = if is_settled s then Some answer.Synced else None

-- Sync: the log is sealed; it is answered once all is settled.
unfoldable pub blocks_sync : Serving → Made
blocks_sync s = (let d = serving_seal s in record { done = gives d.state (d.outs ++ synced_acts d.state); answer = synced_answer d.state })

-- what a call on blocks does
unfoldable pub blocks_make : Serving → BlockCall → Made
blocks_make s (Get block) = blocks_get s block
blocks_make s (Put block value) = blocks_put s block value
blocks_make s (PutAt block ver value) = blocks_put_at s block ver value
blocks_make s Sync = blocks_sync s
