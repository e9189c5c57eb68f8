-- What the registry does in the event in which a node asks it for the maps, or tells it of a checkpoint.
use Rattle.std.specs.Prelude.{◌≡◌, ◌⊎◌, ◌≤◌, Bool, true, false, List, [], ◌∷◌, ◌++◌, map}
use Rattle.core_world.specs.declared.any_node.AnyNode.{AnyNode}
use Rattle.core_world.specs.declared.any_node.AnyNode.TheVariants as any
use Rattle.node_base.specs.Nodes.{others}
use Rattle.registry.specs.Board.{checkpointed, is_kept}
use Rattle.registry.specs.BoardState.{BoardState}
use Rattle.registry.specs.Slots.{entry_of}
use Rattle.registry_node.specs.declared.node.RegistryNode.{RegistryNode}
use Rattle.registry_node.specs.Events.{news_of}
use Rattle.wire_msg.specs.declared.body.Body.{Body}
use Rattle.wire_msg.specs.declared.body.Body.TheVariants as body
use Rattle.wire_msg.specs.declared.packet.Packet.{Packet}
use Rattle.wire_msg.specs.declared.registry.CkptDone.{CkptDone}
use Rattle.wire_msg.specs.declared.registry.Hello.{Hello}
use Rattle.wire_msg.specs.NodeStep.{NodeStep}
use Rattle.xfs_base.specs.declared.node.NodeId.{NodeId}
use Rattle.xfs_base.specs.declared.node.NodeId.TheVariants as nodes
use Rattle.headline.specs.Dues.{told_maps}

-- the node is the registry, which keeps these maps
abbrev pub HasMaps : AnyNode → BoardState → Type 0
HasMaps (any.Registry now) maps = now.board ≡ maps
HasMaps _ maps = ⊥

-- what the registry keeps then of a checkpoint, where it is to be kept: where it is of the slot's epoch, and no number of its horizon is below the kept one
abbrev pub kept_by : RegistryNode → CkptDone → Bool → BoardState
kept_by r done true = checkpointed r.board done.slot done.parts done.horizon
kept_by r done false = r.board

module _ (r : RegistryNode) (asker : NodeId) (s : NodeStep AnyNode) where
  abbrev pub said_to_it : Body → Packet
  said_to_it said = record { from = nodes.Registry; to = asker; clock = 0; body = said }

  -- Asked for the maps: it welcomes the asker with those that it keeps then; all other nodes are told these first, but where they are as before.
  pub record Welcomes (hello : Hello) : Type 0 where
    pub maps : BoardState
    pub keeps : HasMaps s.node maps
    pub told : List Packet
    pub all : ((maps ≡ r.board) × (told ≡ [])) ⊎ (told ≡ map (told_maps (news_of maps)) (others r.peers nodes.Registry))
    pub packets : s.packets ≡ told ++ said_to_it (body.Welcome (record { inc = hello.inc; ask = hello.ask; news = news_of maps })) ∷ []

  -- Told that a checkpoint of a slot is written: it answers the slot's epoch.
  pub record Acknowledges (done : CkptDone) : Type 0 where
    pub keeps : HasMaps s.node (kept_by r done (is_kept r.board done.slot done.epoch done.horizon))
    pub packets : s.packets
        ≡ said_to_it (body.CkptAck (record { slot = done.slot; epoch = (entry_of r.board.entries done.slot).epoch; ask = done.ask })) ∷ []

  abbrev pub RegistryReplies : Body → Type 0
  RegistryReplies (body.Hello hello) = Welcomes hello
  RegistryReplies (body.CkptDone done) = done.slot ≤ 7 → Acknowledges done
  RegistryReplies _ = Unit {0}
