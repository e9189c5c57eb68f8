-- A client after any events.
use Rattle.std.specs.Prelude.{ℕ, List, [], ◌∷◌}
use Rattle.client_node.specs.declared.client.Client.{Client}
use Rattle.client_node.specs.declared.phase.Phase.TheVariants.{Down, Opening, Serving as Serves}
use Rattle.client_node.specs.declared.phase.Phase.{Phase}
use Rattle.client_node.specs.Phases.{client_step}
use Rattle.client_node.specs.Starting.{client_start}
use Rattle.client_serving.specs.declared.serving.Serving.{Serving}
use Rattle.version_model.specs.declared.work.Work.{Work}
use Rattle.wire_msg.specs.declared.packet.Do.{Do}
use Rattle.xfs_base.specs.declared.setup.Setup.{Setup}

-- the client once these events happened, from first to last
abbrev pub after_events : Client → List Do → Client
after_events client [] = client
after_events client (what ∷ rest) = after_events (client_step client what).node rest

-- where it serves, this holds
abbrev pub WhereItServes : (Serving → Type 0) → Phase → Type 0
WhereItServes Holds (Down l) = Unit {0}
WhereItServes Holds (Opening l o) = Unit {0}
WhereItServes Holds (Serves s) = Holds s

-- Of a client that began in any setup, with any items, this holds after any events, where it serves then: whatever packets came, in whatever
-- order, however often time passed, and whichever items began.
abbrev pub HoldsAfterAnyEvents : (Serving → Type 0) → Type 0
HoldsAfterAnyEvents Holds =
    (number : ℕ) (setup : Setup) (works : List Work) (events : List Do) → WhereItServes Holds (after_events (client_start number setup works) events).phase
