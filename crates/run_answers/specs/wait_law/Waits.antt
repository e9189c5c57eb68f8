-- What an event leaves of a client's open call, whatever events were before.
use Rattle.std.specs.Prelude.{◌≡◌, ℕ, List, None}
use Rattle.client_node.specs.Starting.{client_start}
use Rattle.node_slots.specs.client_law.Events.{after_events}
use Rattle.version_model.specs.declared.work.Work.{Work}
use Rattle.wire_msg.specs.declared.packet.Do.{Do}
use Rattle.xfs_base.specs.declared.setup.Setup.{Setup}
use Rattle.headline.specs.Calls.{call_in}
use Rattle.headline.specs.Waits.{EventWaits}

-- at the start of a client no call is open
abbrev pub EachStartWaits : Type 0
EachStartWaits = (number : ℕ) (setup : Setup) (works : List Work) → call_in (client_start number setup works).phase ≡ None

-- and so each event leaves it, after any events
abbrev pub EachEventWaits : Type 0
EachEventWaits =
    (number : ℕ) (setup : Setup) (works : List Work) (events : List Do) (what : Do) → EventWaits (after_events (client_start number setup works) events) what
