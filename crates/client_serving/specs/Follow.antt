-- What the tokens have a client do.
use Rattle.std.specs.Prelude.{Bool, List, fold, if◌then◌else◌}
use Rattle.std.specs.List.{flat_map}
use Rattle.client_log.specs.Transition as log
use Rattle.client_serving.specs.declared.serving.Serving.{Serving}
use Rattle.client_serving.specs.Reads.{ends_reading, serving_read}
use Rattle.client_serving.specs.Sends.{Done, gives, wants, gaves}
use Rattle.coop_cache.specs.declared.output.Out as cache_out
use Rattle.coop_cache.specs.declared.output.Out.TheVariants.{Victim}
use Rattle.coop_cache.specs.Transition.{cache_clean, cache_leave}
use Rattle.log_owner.specs.Opening.{stored}
use Rattle.token_client.specs.declared.input.In.{In}
use Rattle.token_client.specs.declared.input.In.TheVariants.{Recalled}
use Rattle.token_client.specs.declared.output.Out.{Out}
use Rattle.token_client.specs.declared.output.Out.TheVariants.{Want, Gave, Supply, Flush, Read, Ready}
use Rattle.token_client.specs.State.{TokensState, held_of}
use Rattle.token_client.specs.Transition.{transition, on_evict}
use Rattle.xfs_base.specs.declared.block.BlockId.{BlockId}
use Rattle.xfs_base.specs.declared.token.Mode.TheVariants.{Copy}
use Rattle.xfs_base.specs.declared.token.Stamp.{Stamp}
use Rattle.xfs_base.specs.Modes.{same_mode, is_nothing}
use Rattle.xfs_base.specs.Steps.{still, steps}

-- ---- the cache

-- the tokens let go of what leaves the cache
unfoldable pub evict : TokensState → cache_out.Out → TokensState
evict tokens (Victim block) = (on_evict tokens block).state

unfoldable pub evicts : Serving → cache_out.Out → Serving
evicts s (Victim block) = record s { tokens = (on_evict s.tokens block).state }

-- a block is held and clean: it goes into the cache, and what leaves for it is let go
unfoldable pub note_clean : Serving → BlockId → Serving
note_clean s block = (let r = cache_clean s.cache block in fold evicts (record s { cache = r.state }) r.outs)

-- a block that isn't held leaves the cache
unfoldable pub note_gone : Serving → BlockId → Serving
note_gone s block = if is_nothing (held_of s.tokens.blocks block).mode then record s { cache = cache_leave s.cache block } else s

-- a block may be read or written from now on: a copy is clean
unfoldable pub note_copy : Serving → BlockId → Serving
note_copy s block = if same_mode (held_of s.tokens.blocks block).mode Copy then note_clean s block else s

-- ---- the log

-- what waits first is written, where nothing is in flight
unfoldable pub serving_seal : Serving → Done
serving_seal s = (let r = log.on_seal s.log in gives (record s { log = r.state }) (flat_map stored r.outs))

-- ---- what the tokens say

unfoldable pub follow_one : Serving → Out → Done
follow_one s (Want block req again mode) = gives s (wants s block req again mode)
follow_one s (Gave block stamp) = gives s (gaves s block stamp)
follow_one s (Flush block) = serving_seal s
follow_one s (Read block place) = serving_read s block place
follow_one s (Ready block) = still (note_copy s block)
follow_one s (Supply block ver value) = still s

-- what the tokens say is done, in order
unfoldable pub serving_follow : Serving → List Out → Done
serving_follow s outs = steps follow_one s outs

-- the tokens take an input, and what they say is done
unfoldable pub hand : Serving → In → Done
hand s i = (let r = transition s.tokens i in serving_follow (ends_reading (record s { tokens = r.state })) r.outs)

-- a block is taken back: the tokens take the recall, and where it isn't held then it leaves the cache
unfoldable pub take_back : Serving → BlockId → Stamp → Bool → Done
take_back s block stamp keep = (let d = hand s (Recalled block stamp keep) in gives (note_gone d.state block) d.outs)
