-- What a node that answers an item that a segment is lost has said just before, in the words of the acts of one event.
use Rattle.std.specs.Prelude.{◌≡◌, ◌⊎◌, ℕ, List, Some}
use Rattle.node_base.specs.Beginning.{next_item}
use Rattle.node_base.specs.declared.items.Items.{Items}
use Rattle.token_protocol.specs.Basics.{In}
use Rattle.version_model.specs.declared.act.Act.{Act}
use Rattle.wire_msg.specs.declared.packet.Do.{Do}
use Rattle.wire_msg.specs.declared.packet.Do.TheVariants.{Begin}
use Rattle.xfs_base.specs.declared.node.NodeId.{NodeId}
use Rattle.xfs_base.specs.declared.segment.SegName.{SegName}
use Rattle.headline.specs.Losses.{LossesAreSaid, answers_lost}

-- the item was open before the event, or it begins by it
abbrev pub IsBegunBy : Items → Do → ℕ → Type 0
IsBegunBy items what item = (items.unanswered ≡ Some item) ⊎ ((what ≡ Begin) × (next_item items ≡ Some item))

-- what a node does in an event, before which it knew of these items: it says that a segment is lost just before it answers an item so, and that item had begun
pub record SaysLosses (items : Items) (what : Do) (acts : List Act) : Type 0 where
  pub said : LossesAreSaid acts
  pub begun : (node : NodeId) (item : ℕ) (name : SegName) → In (answers_lost node item name) acts → IsBegunBy items what item
