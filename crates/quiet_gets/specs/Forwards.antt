-- A copy goes from one client to another: the packets, and what they make of a scene.
use Rattle.std.specs.Prelude.{◌&&◌, ◌==◌, ℕ, List, [], ◌∷◌, Option, Some, None, if◌then◌else◌}
use Rattle.token_client.specs.declared.held.Held.{Held}
use Rattle.version_model.specs.declared.work.Work.{Work}
use Rattle.wire_msg.specs.declared.body.Body.{Body}
use Rattle.wire_msg.specs.declared.body.Body.TheVariants as body
use Rattle.wire_msg.specs.declared.packet.Packet.{Packet}
use Rattle.xfs_base.specs.Blocks.{slot_of}
use Rattle.xfs_base.specs.declared.block.BlockId.{BlockId}
use Rattle.xfs_base.specs.declared.node.NodeId.{NodeId}
use Rattle.xfs_base.specs.declared.node.NodeId.TheVariants.{Client, Manager}
use Rattle.xfs_base.specs.declared.setup.Setup.{Setup}
use Rattle.xfs_base.specs.declared.token.Mode.TheVariants.{Copy}
use Rattle.xfs_base.specs.declared.token.Stamp.{Stamp}
use Rattle.xfs_base.specs.Modes.{same_mode}
use Rattle.quiet_nodes.specs.Scene.{manager_of_slot}

-- what a client has to pass on of a block: the value of a copy of this very version
abbrev pub passed_on : Held → ℕ → Option (Option (List ℕ))
passed_on h ver = if same_mode h.mode Copy && (h.ver == ver) then h.value else None

-- a client is told to pass its copy on to another, and does
abbrev pub forward_body : BlockId → Stamp → ℕ → ℕ → ℕ → Body
forward_body b stamp to req ver = body.Forward (record { block = b; stamp = stamp; to = to; inc = 1; req = req; ver = ver })

abbrev pub supply_body : BlockId → Stamp → ℕ → ℕ → Option (List ℕ) → Body
supply_body b stamp req ver value = body.Supply (record { block = b; stamp = stamp; inc = 1; req = req; ver = ver; value = value })

module _ (setup : Setup) (works : NodeId → List Work) where
  -- the manager of a block
  abbrev pub manager_for : BlockId → NodeId
  manager_for b = Manager (manager_of_slot setup works (slot_of b.ino.0))

  -- client d is told to pass block b on to client c, whose want has this number
  abbrev pub forward_to : (d : ℕ) → BlockId → Stamp → (c req ver : ℕ) → Packet
  forward_to d b stamp c req ver = record { from = manager_for b; to = Client d; clock = 0; body = forward_body b stamp c req ver }

  abbrev pub supply_from : (d : ℕ) → BlockId → Stamp → (c req ver : ℕ) → Option (List ℕ) → Packet
  supply_from d b stamp c req ver value = record { from = Client d; to = Client c; clock = 0; body = supply_body b stamp req ver value }

  -- what client d sends then, by what it has to pass on
  abbrev pub supplied_from : (d : ℕ) → BlockId → Stamp → (c req ver : ℕ) → Option (Option (List ℕ)) → List Packet
  supplied_from d b stamp c req ver None = []
  supplied_from d b stamp c req ver (Some value) = supply_from d b stamp c req ver value ∷ []
