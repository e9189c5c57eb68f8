-- A client whose get waits is supplied with a copy of the block by another: it has the copy, reads it, and answers, in one event.
use Rattle.version_model.specs.declared.act.Act.TheVariants as acts
use Rattle.xfs_base.specs.declared.token.Mode.TheVariants.{Copy}
use Rattle.token_client.specs.declared.input.In.TheVariants.{Supplied}
use Rattle.token_client.specs.Transition.{accepts, on_supplied}
use Rattle.client_serving.specs.Packets.{serving_take, on_supply}
use Rattle.client_node.specs.Phases.{client_step, on_deliver}
use Rattle.file_plan.specs.declared.block_call.BlockCall.TheVariants.{Get}
use Rattle.std.proofs.Common.{Option, List, Some, [], refl, true, ℕ, ◌++◌, ◌∷◌, ◌≡◌}
use Rattle.client_call.specs.Blocks.{value_of}
use Rattle.client_call.specs.Calls.{call_new}
use Rattle.client_call.specs.declared.call.Plan.TheVariants.{One}
use Rattle.client_serving.specs.Follow.{serving_follow, hand}
use Rattle.node_base.specs.Nodes.{has_node, peers_of}
use Rattle.quiet_gets.specs.Forwards.{supply_body, supply_from}
use Rattle.quiet_nodes.proofs.Begins.{HasRoom, room}
use Rattle.quiet_nodes.proofs.Moving.{moves_none}
use Rattle.quiet_nodes.proofs.Turns.{client_takes}
use Rattle.quiet_nodes.specs.Moves.{Moves}
use Rattle.quiet_nodes.specs.Scene.{ClientPart, Scene, client_at, serving_at, tokens_at, with_client}
use Rattle.quiet_reads.proofs.CopyReads.{cached_part, copying, read_part, ready_is, runs_is}
use Rattle.token_client.specs.Held.{copy_of}
use Rattle.token_client.specs.State.{held_of}
use Rattle.token_client.specs.declared.held.Held.{Held}
use Rattle.token_client.specs.declared.output.Out.TheVariants.{Ready}
use Rattle.version_model.specs.declared.act.Act.{Act}
use Rattle.version_model.specs.declared.answer.Answer.TheVariants.{Got}
use Rattle.version_model.specs.declared.work.Work.{Work}
use Rattle.wire_msg.specs.declared.packet.Do.TheVariants.{Deliver}
use Rattle.xfs_base.specs.declared.block.BlockId.{BlockId}
use Rattle.xfs_base.specs.declared.node.NodeId.TheVariants.{Client}
use Rattle.xfs_base.specs.declared.node.NodeId.{NodeId}
use Rattle.xfs_base.specs.declared.setup.Setup.{Setup}
use Rattle.xfs_base.specs.declared.token.Stamp.{Stamp}

module _ (setup : Setup) (works : NodeId → List Work) (c : ℕ) (p : ClientPart) (b : BlockId) (item : ℕ) (its_call : p.call ≡ Some (call_new One (Get b)))
    (its_item : p.item ≡ Some item) (stamp : Stamp) (req ver : ℕ) (value : Option (List ℕ)) where
  -- the copy, and the client then
  abbrev pub supplied_copy : Held
  supplied_copy = copy_of (held_of p.blocks b) stamp ver value

  abbrev pub supply_read : ClientPart
  supply_read = read_part setup works c p b item supplied_copy

  abbrev pub supply_acts : List Act
  supply_acts = acts.Read c b ver (value_of supplied_copy) ∷ acts.Answered (Client c) item (Got ver (value_of supplied_copy)) ∷ []

  module _ (accepted : accepts (tokens_at setup works p) b stamp 1 req Copy ≡ true) where
    copies_is : on_supplied (tokens_at setup works p) b stamp 1 req ver value
        ≡ record { state = tokens_at setup works (copying setup works c p b item supplied_copy); outs = Ready b ∷ [] }
    unfolding on_supplied
    copies_is = rw accepted refl

    supply_hands : hand (serving_at setup works c p) (Supplied b stamp 1 req ver value)
        ≡ record { state = serving_at setup works c (cached_part setup works c p b item supplied_copy); outs = [] }
    unfolding hand serving_follow
    supply_hands = rw (its_call, its_item, copies_is, ready_is setup works c p b item supplied_copy refl) refl

    module _ (d : ℕ) (h : HasRoom setup works c p) (there : has_node (peers_of setup) (Client d) ≡ true) where
      packet_is : serving_take (serving_at setup works c p) (supply_from setup works d b stamp c req ver value)
          ≡ record { state = serving_at setup works c (cached_part setup works c p b item supplied_copy); outs = [] }
      unfolding serving_take on_supply
      packet_is = rw supply_hands refl

      pub supply_comes : client_step (client_at setup works c p) (Deliver (supply_from setup works d b stamp c req ver value)) ≡ record {
        node = client_at setup works c supply_read;
        packets = [];
        acts = supply_acts;
      }
      unfolding on_deliver
      supply_comes = rw (room setup works c p h, there, packet_is, runs_is setup works c p b item supplied_copy refl) refl

      -- as a layer
      pub supply_moves : (s : Scene) → has_node (peers_of setup) (Client c) ≡ true
          → Moves setup works (with_client s c p) (supply_from setup works d b stamp c req ver value ∷ []) [] (supply_acts ++ []) (with_client s c supply_read)
      supply_moves s its =
          client_takes setup works s c p supply_read (with_client s c supply_read) (Client d) (supply_body b stamp req ver value) [] [] [] supply_acts [] its supply_comes
          (moves_none setup works (with_client s c supply_read))
