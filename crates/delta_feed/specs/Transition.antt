-- What a feed does at each input.
use Rattle.std.specs.Prelude.{ℕ, ◌+◌, ◌==◌, ◌&&◌, nat_lt, List, [], ◌∷◌, ◌++◌, slice_set, if◌then◌else◌}
use Rattle.std.specs.List.{filter, flat_map, range_with_len}
use Rattle.xfs_base.specs.declared.block.BlockId.{BlockId}
use Rattle.xfs_base.specs.declared.entry.Entry.{Entry}
use Rattle.xfs_base.specs.Blocks.{slot_of}
use Rattle.xfs_base.specs.Steps.{Stepped, still}
use Rattle.xfs_base.specs.Limits.{slot_count}
use Rattle.delta_feed.specs.declared.feed.FiledDeltas.{FiledDeltas}
use Rattle.delta_feed.specs.declared.input.In.{In}
use Rattle.delta_feed.specs.declared.input.In.TheVariants.{Settled, Ack, NewEpoch, Push, Tick}
use Rattle.delta_feed.specs.declared.output.Out.{Out}
use Rattle.delta_feed.specs.declared.output.Out.TheVariants.{Range}
use Rattle.delta_feed.specs.FeedState.{FeedState, acked_of}

-- the rows of a slot's blocks
abbrev pub slot_rows : ℕ → List (BlockId × Entry) → List (BlockId × Entry)
slot_rows slot rows = filter (λ row. slot_of row.0.ino.0 == slot) rows

-- the rows of a slot in these segments
abbrev pub all_rows : ℕ → List FiledDeltas → List (BlockId × Entry)
all_rows slot filed = flat_map (λ f. slot_rows slot f.rows) filed

-- the rows of a slot in the segments above a number
abbrev pub rows_after : ℕ → ℕ → List FiledDeltas → List (BlockId × Entry)
rows_after slot number filed = flat_map (λ f. if nat_lt number f.seq then slot_rows slot f.rows else []) filed

-- a settled segment is kept where its number is above the base and above all that are kept
abbrev pub settled : FeedState → ℕ → List (BlockId × Entry) → FeedState
settled s seq rows =
    if nat_lt s.end seq
    then record s { filed = s.filed ++ record { seq = seq; rows = rows } ∷ []; end = seq }
    else s

-- an acknowledgement never falls
abbrev pub acknowledged : FeedState → ℕ → ℕ → FeedState
acknowledged s slot upto =
    if nat_lt slot slot_count && nat_lt (acked_of s slot) upto
    then record s { acked = slice_set s.acked slot upto }
    else s

-- of a new manager it is not known that it has applied more than the base
abbrev pub new_epoch : FeedState → ℕ → FeedState
new_epoch s slot = if nat_lt slot slot_count then record s { acked = slice_set s.acked slot s.base } else s

-- what the slot has not acknowledged, if there is anything, from there to the end
unfoldable pub feed_push : FeedState → ℕ → List Out
feed_push s slot =
    if nat_lt slot slot_count && nat_lt (acked_of s slot) s.end
    then Range slot (acked_of s slot + 1) s.end (rows_after slot (acked_of s slot) s.filed) ∷ []
    else []

-- the same for each slot in order
abbrev pub feed_tick : FeedState → List Out
feed_tick s = flat_map (feed_push s) (range_with_len 0 slot_count)

-- what each input makes of a feed
abbrev pub transition : FeedState → In → Stepped FeedState Out
transition s (Settled seq rows) = still (settled s seq rows)
transition s (Ack slot applied) = still (acknowledged s slot applied)
transition s (NewEpoch slot) = still (new_epoch s slot)
transition s (Push slot) = record { state = s; outs = feed_push s slot }
transition s Tick = record { state = s; outs = feed_tick s }
