-- What the acts tell of a client's fall: with which flight it fell, until its log is open again.
use Rattle.std.specs.Prelude.{◌≡◌, ℕ, List, [], ◌∷◌, ◌++◌, Option}
use Rattle.std.specs.List.{AllByRecursion}
use Rattle.client_node.specs.Crash.{flight_of}
use Rattle.client_node.specs.declared.client.Client.{Client as AClient}
use Rattle.client_node.specs.declared.phase.Phase.TheVariants.{Down, Opening, Serving as Serves}
use Rattle.client_node.specs.declared.phase.Phase.{Phase}
use Rattle.client_node.specs.Phases.{lasting_of, takes}
use Rattle.log_flight.specs.Flights.{FlightState}
use Rattle.node_base.specs.Effects.{acts_of}
use Rattle.version_model.specs.declared.act.Act.{Act}
use Rattle.version_model.specs.declared.act.Act.TheVariants as act
use Rattle.version_model.specs.declared.history.FallTold.{FallTold}
use Rattle.version_model.specs.Effects.{history_after}
use Rattle.version_model.specs.History.{nothing_yet}
use Rattle.wire_msg.specs.declared.packet.Do.{Do}
use Rattle.xfs_base.specs.declared.node.NodeId.TheVariants.{Client}

-- One fall of the client waits, and was told with the flight.
pub record FellWith (acts : List Act) (c : ℕ) (flight : Option FlightState) : Type 0 where
  pub fall : FallTold
  pub waits : (history_after acts nothing_yet).told c ≡ fall ∷ []
  pub with_flight : fall.flight ≡ flight_of flight

-- no fall of the client is told by the act, or settled
abbrev pub IsAside : ℕ → Act → Type 0
IsAside c (act.Fell client flight falls) = client ≡ c → ⊥
IsAside c (act.Back client chain) = client ≡ c → ⊥
IsAside c _ = Unit {0}

-- Such acts leave the fall as it was told.
abbrev pub FallsStay : Type 0
FallsStay = (acts more : List Act) (c : ℕ) (flight : Option FlightState) → AllByRecursion (IsAside c) more → FellWith acts c flight
    → FellWith (acts ++ more) c flight

-- what is known of the last flight of a client before an event: of one that serves no fall waits, and else its fall was told with it
abbrev pub FallKnown : List Act → ℕ → Option FlightState → Phase → Type 0
FallKnown acts c flight (Down l) = FellWith acts c flight
FallKnown acts c flight (Opening l o) = FellWith acts c flight
FallKnown acts c flight (Serves s) = ((history_after acts nothing_yet).told c ≡ []) × (flight ≡ s.log.flight)

-- and after it: where it doesn't serve then, its fall was told with it
abbrev pub FallTells : List Act → ℕ → Option FlightState → Phase → Type 0
FallTells acts c flight (Down l) = FellWith acts c flight
FallTells acts c flight (Opening l o) = FellWith acts c flight
FallTells acts c flight (Serves s) = Unit {0}

-- So it goes on over each event of the client.
abbrev pub FallsGoOn : Type 0
FallsGoOn =
    (acts : List Act) (c : ℕ) (flight : Option FlightState) (client : AClient) (what : Do) → (lasting_of client.phase).number ≡ c
    → FallKnown acts c flight client.phase
    → FallTells (acts ++ acts_of (Client c) (takes client what).outs) c flight (takes client what).state
