-- What a client that serves does in the event in which what it wants is refused, as a segment is lost: it ends its call.
use Rattle.std.specs.Prelude.{◌≡◌, [], ◌∷◌, None, Some}
use Rattle.client_node.specs.declared.client.Client.{Client}
use Rattle.client_node.specs.declared.phase.Phase.TheVariants.{Serving as Serves}
use Rattle.client_serving.specs.declared.serving.Serving.{Serving}
use Rattle.client_serving.specs.Flights.{held_at}
use Rattle.core_world.specs.declared.any_node.AnyNode.{AnyNode}
use Rattle.token_client.specs.declared.held.Wanted.{Wanted}
use Rattle.token_client.specs.State.{epoch_of}
use Rattle.token_protocol.specs.Basics.{In}
use Rattle.version_model.specs.declared.act.Act.TheVariants as act
use Rattle.version_model.specs.declared.answer.Answer.TheVariants.{Lost}
use Rattle.wire_msg.specs.declared.body.Body.{Body}
use Rattle.wire_msg.specs.declared.body.Body.TheVariants as body
use Rattle.wire_msg.specs.declared.packet.Packet.{Packet}
use Rattle.wire_msg.specs.declared.tokens.Gone.{Gone}
use Rattle.wire_msg.specs.NodeStep.{NodeStep}
use Rattle.xfs_base.specs.Blocks.{slot_of}
use Rattle.xfs_base.specs.declared.node.NodeId.{NodeId}
use Rattle.xfs_base.specs.declared.node.NodeId.TheVariants as nodes
use Rattle.xfs_base.specs.declared.segment.SegName.{SegName}
use Rattle.headline.specs.Calls.{answered_so}
use Rattle.headline.specs.ClientReplies.{ServesSo}

module _ (s : Serving) (gone : Gone) where
  -- It refuses a want that stands: of the block, under its number, of this incarnation, in the epoch to which the block's slot is promised.
  pub record Refuses (w : Wanted) : Type 0 where
    pub wants : (held_at s gone.block).want ≡ Some w
    pub number : gone.req ≡ w.req
    pub inc : gone.inc ≡ s.lasting.inc
    pub epoch : gone.epoch ≡ epoch_of s.tokens.epochs (slot_of gone.block.ino.0)

  -- It says that the segment is lost that is named, and answers the open item so, if one is open. No call and no item is open then, the block is wanted no more, and
  -- nothing is sent.
  pub record EndsLost (now : Serving) (step : NodeStep AnyNode) : Type 0 where
    pub acts : step.acts
        ≡ act.Lost (nodes.Client s.lasting.number) gone.seg ∷ answered_so (nodes.Client s.lasting.number) s.lasting.items.unanswered (Lost gone.seg)
    pub call : now.call ≡ None
    pub item : now.lasting.items.unanswered ≡ None
    pub want : (held_at now gone.block).want ≡ None
    pub packets : step.packets ≡ []

  -- So it serves on; and where no such want stands it says of no segment that it is lost.
  pub record IsRefused (step : NodeStep AnyNode) : Type 0 where
    pub ends : (w : Wanted) → Refuses w → (now : Serving) × (ServesSo step.node now × EndsLost now step)
    pub other : ((w : Wanted) → Refuses w → ⊥) → (node : NodeId) (name : SegName) → In (act.Lost node name) step.acts → ⊥

abbrev pub TakesRefusal : Serving → Body → NodeStep AnyNode → Type 0
TakesRefusal s (body.Gone gone) step = IsRefused s gone step
TakesRefusal s _ step = Unit {0}

-- So it is where it serves.
abbrev pub ClientRefusals : Client → Packet → NodeStep AnyNode → Type 0
ClientRefusals c packet step = (s : Serving) → c.phase ≡ Serves s → TakesRefusal s packet.body step
