-- What a log keeps.
use Rattle.std.specs.Prelude.{ℕ, List, [], Option, None}
use Rattle.xfs_base.specs.declared.block.BlockId.{BlockId}
use Rattle.xfs_base.specs.declared.segment.End.{End}
use Rattle.xfs_base.specs.declared.segment.LogId.{LogId}
use Rattle.group_map.specs.GroupMapState.{GroupMapState}
use Rattle.log_flight.specs.declared.dirty.Change.{Change}
use Rattle.log_flight.specs.Flights.{FlightState}

pub record LogState : Type 0 where
  pub log : LogId
  -- the incarnation of its owner
  pub inc : ℕ
  -- the newest settled segment
  pub end : End
  -- what waits to be written, in the order of the first change
  pub dirty : List (BlockId × Change)
  -- the segment that is written now, one at most
  pub flight : Option FlightState
  pub groups : GroupMapState

abbrev pub log_start : LogId → ℕ → End → GroupMapState → LogState
log_start log inc end groups = record { log = log; inc = inc; end = end; dirty = []; flight = None; groups = groups }
