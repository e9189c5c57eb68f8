-- What a crash may make of the blocks whose newest version isn't settled.
use Rattle.std.specs.Prelude.{ℕ, if◌then◌else◌, List, [], ◌∷◌, Option, Some, None, map, unwrap_or}
use Rattle.client_serving.specs.declared.serving.Serving.{Serving}
use Rattle.log_flight.specs.Flights.{FlightState}
use Rattle.node_base.specs.declared.effects.Effect.{Effect}
use Rattle.node_base.specs.declared.effects.Effect.TheVariants.{Does}
use Rattle.segment_format.specs.declared.segment.Item.{Item}
use Rattle.segment_format.specs.declared.segment.Item.TheVariants.{Block, Delta, Part}
use Rattle.token_client.specs.State.{TokensState, held_of, dirty_in}
use Rattle.version_model.specs.declared.act.Act.TheVariants.{Fell}
use Rattle.version_model.specs.declared.act.Fall.{Fall}
use Rattle.xfs_base.specs.Blocks.{same_block}
use Rattle.xfs_base.specs.declared.block.BlockId.{BlockId}

abbrev pub version_of : BlockId → Item → Option ℕ
version_of block (Block b value) = None
version_of block (Delta b ver hop item) = if same_block b block then Some ver else None
version_of block (Part slot rows) = None

-- the version of a block among items, or else this one
abbrev pub version_in : BlockId → ℕ → List Item → ℕ
version_in block low [] = low
version_in block low (item ∷ items) = unwrap_or (version_of block item) (version_in block low items)

abbrev pub flown_version : Option FlightState → BlockId → ℕ → ℕ
flown_version None block low = low
flown_version (Some f) block low = version_in block low f.segment.items

-- the segment in flight: its number, and the incarnation that writes it
abbrev pub flight_of : Option FlightState → Option (ℕ × ℕ)
flight_of None = None
flight_of (Some f) = Some (f.segment.name.seq, f.segment.name.pass.inc)

-- the versions to which a block may fall: the settled one, and the one that is in flight
abbrev pub fall_by : TokensState → Option FlightState → BlockId → Fall
fall_by tokens flight block =
    let low = (held_of tokens.blocks block).settled in
    record { block = block; low = low; high = flown_version flight block low }

-- those of a block of a client that serves
unfoldable pub fall_of : Serving → BlockId → Fall
fall_of s block = fall_by s.tokens s.log.flight block

-- what a crash may make of the blocks whose newest version isn't settled
abbrev pub falls : Serving → Effect
falls s = Does (Fell s.lasting.number (flight_of s.log.flight) (map (fall_of s) (dirty_in s.tokens.blocks)))
