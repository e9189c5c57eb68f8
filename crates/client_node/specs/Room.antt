-- The ends of counters: whether each of a client that serves is at least 65,536 below its end.
use Rattle.std.specs.Prelude.{ℕ, Bool, ◌&&◌, Option, Some, None}
use Rattle.std.specs.List.{list_all, range_with_len}
use Rattle.client_call.specs.Calls.{block_of}
use Rattle.client_call.specs.declared.call.Call.{Call}
use Rattle.client_serving.specs.declared.serving.Serving.{Serving}
use Rattle.log_owner.specs.Opening.{log_has_room}
use Rattle.node_base.specs.Room.{has_room}
use Rattle.token_client.specs.Repetitions.{repetition}
use Rattle.token_client.specs.State.{TokensState, epoch_of, held_of}
use Rattle.xfs_base.specs.declared.block.BlockId.{BlockId}
use Rattle.xfs_base.specs.Limits.{slot_count}

-- each promised epoch is at least 65,536 below its end
unfoldable pub epochs_have_room : TokensState → Bool
epochs_have_room t = list_all (λ slot. has_room (epoch_of t.epochs slot)) (range_with_len 0 slot_count)

-- the block that the open call is on
abbrev pub open_block : Option Call → Option BlockId
open_block None = None
open_block (Some call) = block_of call.step

-- how often the want of a block was sent again; 0 where nothing is wanted
abbrev pub asked_again : TokensState → Option BlockId → ℕ
asked_again t None = 0
asked_again t (Some block) = repetition (held_of t.blocks block).want

-- each promised epoch, and how often the open call asked again for its block, is at least 65,536 below its end
abbrev pub tokens_room : Serving → Bool
tokens_room s = epochs_have_room s.tokens && has_room (asked_again s.tokens (open_block s.call))

-- and so are the version of the maps, the number of the last want, and the numbers of the log
abbrev pub serving_has_room : Serving → Bool
serving_has_room s =
    has_room s.maps.version && (has_room s.tokens.req && (log_has_room s.log && tokens_room s))
