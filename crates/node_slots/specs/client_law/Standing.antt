-- The facts of a client as one invariant: it holds at the start, and each event keeps it.
use Rattle.std.specs.Prelude.{◌≡◌, ◌+◌, ℕ, List, Option, Some, None}
use Rattle.client_node.specs.declared.client.Client.{Client}
use Rattle.client_node.specs.declared.phase.Phase.TheVariants.{Down, Opening, Serving as Serves}
use Rattle.client_node.specs.declared.phase.Phase.{Phase}
use Rattle.client_node.specs.Phases.{takes}
use Rattle.client_node.specs.Starting.{client_start}
use Rattle.client_serving.specs.declared.serving.Serving.{Serving}
use Rattle.group_map.specs.Groups.{group_map_start}
use Rattle.group_map.specs.WellFormed.{IsGroupMap}
use Rattle.log_flight.specs.Flights.{FlightState}
use Rattle.log_owner.specs.declared.opening.Opening as openings
use Rattle.node_slots.specs.client_law.Empty.{WaitsForNothing}
use Rattle.node_slots.specs.client_law.Grouped.{HasSuchMaps}
use Rattle.node_slots.specs.node_tie.Asks.{AsksForCall}
use Rattle.version_model.specs.declared.work.Work.{Work}
use Rattle.wire_msg.specs.declared.packet.Do.{Do}
use Rattle.xfs_base.specs.declared.setup.Setup.{Setup}
use Rattle.node_slots.specs.client_law.Caching.{CachesWhatIsClean}
use Rattle.node_slots.specs.client_law.Giving.{GivesOnlyDirty}
use Rattle.node_slots.specs.client_law.Maps.{DoBrings}
use Rattle.node_slots.specs.client_law.Unsettled.{WritesWhatIsDirty}

-- a segment in flight has the number after the end
abbrev pub FliesNext : Option FlightState → ℕ → Type 0
FliesNext None end = Unit {0}
FliesNext (Some f) end = f.segment.name.seq ≡ end + 1

pub record ServesWell (s : Serving) : Type 0 where
  -- its tokens are sound, and it asks for its call alone
  pub asks : AsksForCall s
  pub gives : GivesOnlyDirty s
  pub caches : CachesWhatIsClean s
  pub writes : WritesWhatIsDirty s
  pub next : FliesNext s.log.flight s.log.end.seq
  pub stripes : IsGroupMap s.log.groups

pub record OpensWell (o : openings.Opening) : Type 0 where
  pub waits : WaitsForNothing o.stage
  pub maps : HasSuchMaps IsGroupMap o

abbrev pub StandsWell : Phase → Type 0
StandsWell (Down l) = Unit {0}
StandsWell (Opening l o) = OpensWell o
StandsWell (Serves s) = ServesWell s

abbrev pub StartsWell : Type 0
StartsWell =
    (number : ℕ) (setup : Setup) (works : List Work) → IsGroupMap (group_map_start setup.servers setup.groups) → StandsWell (client_start number setup works).phase

-- each event keeps it, whatever a packet says, where a map of groups that it brings is one
abbrev pub EventsKeepWell : Type 0
EventsKeepWell = (client : Client) (what : Do) → DoBrings IsGroupMap what → StandsWell client.phase → StandsWell (takes client what).state
