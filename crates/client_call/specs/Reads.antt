-- Reading a block from a log.
use Rattle.std.specs.Prelude.{ℕ, Bool, true, false, ◌==◌, ◌&&◌, if◌then◌else◌, List, [], Option, Some, None, is_some, map, slice_get}
use Rattle.client_call.specs.declared.call.Call.{Call}
use Rattle.group_map.specs.GroupMapState.{GroupMapState}
use Rattle.log_owner.specs.Sending.{fetch}
use Rattle.node_base.specs.declared.effects.Effect.{Effect}
use Rattle.segment_format.specs.declared.segment.Item.{Item}
use Rattle.segment_format.specs.declared.segment.Item.TheVariants.{Block, Delta, Part}
use Rattle.segment_format.specs.declared.segment.Segment.{Segment}
use Rattle.segment_reading.specs.declared.reading.Next.{Next}
use Rattle.segment_reading.specs.declared.reading.Next.TheVariants as next
use Rattle.segment_reading.specs.declared.target.BlockAt.{BlockAt}
use Rattle.segment_reading.specs.declared.target.Target.{Target}
use Rattle.segment_reading.specs.Reading.{ReadingState, Step, reading_unanswered, reading_take}
use Rattle.stripe_code.specs.declared.round.Told.{Told}
use Rattle.stripe_code.specs.Fragments.{same_name}
use Rattle.token_client.specs.State.{TokensState, held_of}
use Rattle.xfs_base.specs.Blocks.{same_block}
use Rattle.xfs_base.specs.declared.block.BlockId.{BlockId}
use Rattle.xfs_base.specs.declared.entry.Place.{Place}

-- the block is still being fetched
abbrev pub is_fetched : TokensState → Option BlockAt → Bool
is_fetched tokens None = false
is_fetched tokens (Some wanted) = is_some (held_of tokens.blocks wanted.block).fetch

abbrev pub kept_while : TokensState → Option ReadingState → Option ReadingState
kept_while tokens None = None
kept_while tokens (Some r) = if is_fetched tokens r.target.block then Some r else None

abbrev pub fetches : ReadingState → List Effect
fetches r = map (fetch r.target.seg.name r.ask) (reading_unanswered r)

abbrev pub target_of : BlockId → Place → Target
target_of block place = record { seg = place.seg; block = Some (record { item = place.item; block = block }) }

abbrev pub same_at : Option BlockAt → Option BlockAt → Bool
same_at None None = true
same_at None (Some b) = false
same_at (Some a) None = false
same_at (Some a) (Some b) = (a.item == b.item) && same_block a.block b.block

abbrev pub same_target : Target → Target → Bool
same_target a b = (same_name a.seg.name b.seg.name && (a.seg.group == b.seg.group)) && same_at a.block b.block

-- the value of the Block at this place of a segment
abbrev pub value_in : Option Item → Option (List ℕ)
value_in None = None
value_in (Some (Block b value)) = value
value_in (Some (Delta b ver hop item)) = None
value_in (Some (Part slot rows)) = None

abbrev pub value_at : Segment → ℕ → Option (List ℕ)
value_at segment item = value_in (slice_get segment.items item)

-- a reading after what a server told it, and what its reader does next
pub record Heard : Type 0 where
  pub reading : Option ReadingState
  pub next : Next

abbrev pub heard_as : Step → Heard
heard_as step = record { reading = Some step.state; next = step.next }

abbrev pub hear_reading : Option ReadingState → Option GroupMapState → ℕ → ℕ → Told → Heard
hear_reading None groups ask server t = record { reading = None; next = next.Wait }
hear_reading (Some r) None ask server t = record { reading = Some r; next = next.Wait }
hear_reading (Some r) (Some groups) ask server t = heard_as (reading_take r groups ask server t)

abbrev pub reading_in : Option Call → Option ReadingState
reading_in None = None
reading_in (Some call) = call.reading

abbrev pub set_reading : Option Call → Option ReadingState → Option Call
set_reading None r = None
set_reading (Some call) r = Some (record call { reading = r })

-- the block of the reading of the open call
abbrev pub block_read : Option ReadingState → Option BlockAt
block_read None = None
block_read (Some r) = r.target.block

abbrev pub fetch_again : Option ReadingState → List Effect
fetch_again None = []
fetch_again (Some r) = fetches r
