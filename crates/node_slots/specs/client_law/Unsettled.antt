-- What of a client's blocks isn't settled: what waits to be written to its log, and what is in flight.
use Rattle.std.specs.Prelude.{◌≡◌, ◌<◌, ◌≤◌, ◌⊎◌, ℕ, true, List, [], Option, Some, None, is_some, map}
use Rattle.std.specs.Map.{keys_of, lookup}
use Rattle.client_log.specs.LogState.{LogState}
use Rattle.client_serving.specs.declared.serving.Serving.{Serving}
use Rattle.client_serving.specs.Flights.{held_at}
use Rattle.log_flight.specs.Flights.{FlightState}
use Rattle.segment_format.specs.Rows.{rows_of}
use Rattle.token_client.specs.Held.{is_dirty}
use Rattle.xfs_base.specs.Blocks.{same_block}
use Rattle.xfs_base.specs.declared.block.BlockId.{BlockId}
use Rattle.node_slots.specs.client_law.Blocks.{Once}
use Rattle.node_slots.specs.client_law.Events.{HoldsAfterAnyEvents}

-- the version of each block that waits, in the order of the first change
abbrev pub versions_waiting : LogState → List (BlockId × ℕ)
versions_waiting l = map (λ c. (c.0, c.1.entry.ver)) l.dirty

-- the version of each block that is in flight
abbrev pub versions_flown : Option FlightState → List (BlockId × ℕ)
versions_flown None = []
versions_flown (Some f) = map (λ row. (row.0, row.1.ver)) (rows_of f.segment)

-- the version of a block among these
abbrev pub version_at : List (BlockId × ℕ) → BlockId → Option ℕ
version_at versions block = lookup (same_block block) versions

abbrev pub waiting_of : Serving → BlockId → Option ℕ
waiting_of s block = version_at (versions_waiting s.log) block

abbrev pub flown_of : Serving → BlockId → Option ℕ
flown_of s block = version_at (versions_flown s.log.flight) block

pub record WritesWhatIsDirty (s : Serving) : Type 0 where
  -- no block waits twice, and none is twice in flight
  pub waits_once : Once (keys_of (versions_waiting s.log))
  pub flies_once : Once (keys_of (versions_flown s.log.flight))
  -- what waits of a block is its newest version; that isn't settled, and isn't in flight
  pub newest : (block : BlockId) (ver : ℕ) → waiting_of s block ≡ Some ver → ver ≡ (held_at s block).ver
  pub unsettled : (block : BlockId) (ver : ℕ) → waiting_of s block ≡ Some ver → is_dirty (held_at s block) ≡ true
  pub unflown : (block : BlockId) (ver flown : ℕ) → waiting_of s block ≡ Some ver → flown_of s block ≡ Some flown → flown < ver
  -- each dirty block waits, or its newest version is in flight
  pub all : (block : BlockId) → is_dirty (held_at s block) ≡ true
      → (is_some (waiting_of s block) ≡ true) ⊎ (flown_of s block ≡ Some (held_at s block).ver)
  -- a version in flight is above the settled one, and at most the newest
  pub flown_above : (block : BlockId) (flown : ℕ) → flown_of s block ≡ Some flown → (held_at s block).settled < flown
  pub flown_upto : (block : BlockId) (flown : ℕ) → flown_of s block ≡ Some flown → flown ≤ (held_at s block).ver

-- Between events just the dirty blocks wait whose newest version isn't in flight, each once; and what is in flight of a block is above its
-- settled version and at most its newest.
abbrev pub WritesJustWhatIsDirty : Type 0
WritesJustWhatIsDirty = HoldsAfterAnyEvents WritesWhatIsDirty
