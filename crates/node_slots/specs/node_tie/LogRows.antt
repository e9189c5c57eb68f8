-- What the log of a client, or of the cleaner, says to the small world of tokens: of blocks that wait, of those in flight, and how far it is filed.
use Rattle.std.specs.Prelude.{◌≡◌, ℕ, suc, List, [], Option, Some, None, is_some, map, IfSome}
use Rattle.std.specs.List.{filter_map, slice_get}
use Rattle.client_log.specs.LogState.{LogState}
use Rattle.client_call.specs.Reads.{value_in}
use Rattle.log_flight.specs.declared.dirty.Change.{Change}
use Rattle.log_flight.specs.Flights.{FlightState}
use Rattle.segment_format.specs.declared.segment.Item.{Item}
use Rattle.segment_format.specs.declared.segment.Item.TheVariants.{Block, Delta, Part}
use Rattle.token_law.specs.Books.{Books, Row}
use Rattle.xfs_base.specs.declared.block.BlockId.{BlockId}

-- what a change says of its block
abbrev pub row_of : Change → Row
row_of change = record { version = change.entry.ver; value = change.value }

abbrev pub told : BlockId × Change → BlockId × Row
told c = (c.0, row_of c.1)

-- what waits to be written says of blocks
abbrev pub rows_waiting : LogState → List (BlockId × Row)
rows_waiting s = map told s.dirty

-- what an item among these says of a block: a Delta its version, and the value of the Block that it names
abbrev pub row_told : List Item → Item → Option (BlockId × Row)
row_told items (Block block value) = None
row_told items (Delta block ver hop item) = Some (block, record { version = ver; value = value_in (slice_get items item) })
row_told items (Part slot rows) = None

-- what these items say of blocks
abbrev pub rows_told : List Item → List (BlockId × Row)
rows_told items = filter_map (row_told items) items

abbrev pub rows_flown : Option FlightState → List (BlockId × Row)
rows_flown None = []
rows_flown (Some f) = rows_told f.segment.items

-- the books have the log as it is: its end, and what is in flight as the segment behind it
pub record LogSeen (k : Books) (l : ℕ) (s : LogState) : Type 0 where
  pub end : k.end l ≡ s.end.seq
  pub flying : k.flying l ≡ is_some s.flight
  pub flight : IfSome s.flight (λ f. (f.segment.name.seq ≡ suc s.end.seq) × (k.rows l (suc (k.end l)) ≡ rows_told f.segment.items))
