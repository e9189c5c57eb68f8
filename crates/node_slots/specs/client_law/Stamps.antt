-- The stamps of a client's blocks.
use Rattle.std.specs.Prelude.{◌≡◌, ℕ, false, List}
use Rattle.client_node.specs.declared.client.Client.{Client}
use Rattle.client_node.specs.declared.phase.Phase.TheVariants.{Serving as Serves}
use Rattle.client_node.specs.Phases.{client_step}
use Rattle.client_node.specs.Starting.{client_start}
use Rattle.client_serving.specs.declared.serving.Serving.{Serving}
use Rattle.client_serving.specs.Flights.{held_at}
use Rattle.version_model.specs.declared.work.Work.{Work}
use Rattle.wire_msg.specs.declared.packet.Do.{Do}
use Rattle.xfs_base.specs.declared.block.BlockId.{BlockId}
use Rattle.xfs_base.specs.declared.setup.Setup.{Setup}
use Rattle.xfs_base.specs.Stamps.{is_later}
use Rattle.node_slots.specs.client_law.Events.{after_events}

-- Where this client serves before and after this event, the stamp of each block before it is no later than the one after it.
abbrev pub NoStampFalls : Client → Do → Type 0
NoStampFalls client what =
    (before after : Serving) (block : BlockId) → client.phase ≡ Serves before → (client_step client what).node.phase ≡ Serves after
    → is_later (held_at before block).stamp (held_at after block).stamp ≡ false

-- After any events, in any further one.
abbrev pub StampsNeverFallAlways : Type 0
StampsNeverFallAlways =
    (number : ℕ) (setup : Setup) (works : List Work) (events : List Do) (what : Do)
    → NoStampFalls (after_events (client_start number setup works) events) what
