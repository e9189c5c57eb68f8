-- A client that serves asks for its call, between any two events.
use Rattle.client_node.specs.declared.client.Client.{Client}
use Rattle.client_node.specs.declared.phase.Phase.{Phase}
use Rattle.client_node.specs.declared.phase.Phase.TheVariants.{Down, Opening, Serving as Serves}
use Rattle.client_node.specs.Phases.{takes}
use Rattle.client_node.specs.Starting.{client_start}
use Rattle.std.specs.Prelude.{ℕ, List}
use Rattle.version_model.specs.declared.work.Work.{Work}
use Rattle.wire_msg.specs.declared.packet.Do.{Do}
use Rattle.xfs_base.specs.declared.setup.Setup.{Setup}
use Rattle.node_slots.specs.node_tie.Asks.{AsksForCall}

-- where the client serves, it asks for its call
abbrev pub PhaseAsks : Phase → Type 0
PhaseAsks (Down l) = Unit {0}
PhaseAsks (Opening l o) = Unit {0}
PhaseAsks (Serves s) = AsksForCall s

-- it does at the start
abbrev pub StartsAsking : Type 0
StartsAsking = (number : ℕ) (setup : Setup) (works : List Work) → PhaseAsks (client_start number setup works).phase

-- and each event keeps that, whatever a packet says
abbrev pub EventsKeepAsking : Type 0
EventsKeepAsking = (client : Client) (what : Do) → PhaseAsks client.phase → PhaseAsks (takes client what).state
