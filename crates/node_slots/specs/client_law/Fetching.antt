-- What has a block held of which a want is open: an answer to the want.
use Rattle.std.specs.Prelude.{◌≡◌, ℕ, true, false, List, is_some}
use Rattle.client_node.specs.declared.client.Client.{Client}
use Rattle.client_node.specs.declared.phase.Phase.TheVariants.{Serving as Serves}
use Rattle.client_node.specs.Phases.{client_step}
use Rattle.client_node.specs.Starting.{client_start}
use Rattle.client_serving.specs.declared.serving.Serving.{Serving}
use Rattle.client_serving.specs.Flights.{held_at}
use Rattle.version_model.specs.declared.work.Work.{Work}
use Rattle.wire_msg.specs.declared.body.Body.{Body}
use Rattle.wire_msg.specs.declared.body.Body.TheVariants as body
use Rattle.wire_msg.specs.declared.packet.Do.{Do}
use Rattle.wire_msg.specs.declared.packet.Do.TheVariants.{Begin, Deliver, Tick}
use Rattle.xfs_base.specs.declared.block.BlockId.{BlockId}
use Rattle.xfs_base.specs.declared.setup.Setup.{Setup}
use Rattle.xfs_base.specs.Modes.{is_held}
use Rattle.node_slots.specs.client_law.Events.{after_events}

-- a Grant or a Supply of the block
abbrev pub IsAnswer : BlockId → Body → Type 0
IsAnswer block (body.Grant m) = m.block ≡ block
IsAnswer block (body.Supply m) = m.block ≡ block
IsAnswer block _ = ⊥

abbrev pub BringsAnswer : BlockId → Do → Type 0
BringsAnswer block Begin = ⊥
BringsAnswer block (Deliver packet) = IsAnswer block packet.body
BringsAnswer block Tick = ⊥

-- From this client, in this event: where a want is open of a block that isn't held, and after the event it is held, then by a Grant or a
-- Supply of the block. So what was read of it is not taken.
abbrev pub ByAnAnswerAlone : Client → Do → Type 0
ByAnAnswerAlone client what =
    (before after : Serving) (block : BlockId) → client.phase ≡ Serves before → (client_step client what).node.phase ≡ Serves after
    → is_some (held_at before block).want ≡ true → is_held (held_at before block).mode ≡ false → is_held (held_at after block).mode ≡ true
    → BringsAnswer block what

-- After any events, in any further one.
abbrev pub WantsEndByAnAnswer : Type 0
WantsEndByAnAnswer =
    (number : ℕ) (setup : Setup) (works : List Work) (events : List Do) (what : Do)
    → ByAnAnswerAlone (after_events (client_start number setup works) events) what
