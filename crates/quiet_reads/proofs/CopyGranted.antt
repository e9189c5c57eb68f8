-- A client whose get waits is granted a copy of a block that was never settled: it has the copy, reads it, and answers, in one event.
use Rattle.std.proofs.Common.{◌≡◌, ℕ, true, List, [], ◌∷◌, Some, None, refl}
use Rattle.client_call.specs.Blocks.{value_of}
use Rattle.client_call.specs.Calls.{call_new}
use Rattle.client_call.specs.declared.call.Plan.TheVariants.{One}
use Rattle.client_node.specs.Phases.{client_step, on_deliver}
use Rattle.client_serving.specs.Follow.{serving_follow, hand}
use Rattle.client_serving.specs.Packets.{on_grant, serving_take}
use Rattle.file_plan.specs.declared.block_call.BlockCall.TheVariants.{Get}
use Rattle.node_base.specs.Nodes.{has_node, peers_of}
use Rattle.token_client.specs.declared.held.Held.{Held}
use Rattle.token_client.specs.declared.input.In.TheVariants.{Granted}
use Rattle.token_client.specs.declared.output.Out.TheVariants.{Ready}
use Rattle.token_client.specs.Held.{copy_of}
use Rattle.token_client.specs.State.{held_of}
use Rattle.token_client.specs.Transition.{accepts, on_granted}
use Rattle.version_model.specs.declared.act.Act.TheVariants as acts
use Rattle.version_model.specs.declared.answer.Answer.TheVariants.{Got}
use Rattle.version_model.specs.declared.work.Work.{Work}
use Rattle.wire_msg.specs.declared.body.Body.TheVariants as body
use Rattle.wire_msg.specs.declared.packet.Do.TheVariants.{Deliver}
use Rattle.wire_msg.specs.declared.packet.Packet.{Packet}
use Rattle.xfs_base.specs.declared.block.BlockId.{BlockId}
use Rattle.xfs_base.specs.declared.entry.Entry.{Entry}
use Rattle.xfs_base.specs.declared.node.NodeId.{NodeId}
use Rattle.xfs_base.specs.declared.node.NodeId.TheVariants.{Client, Manager}
use Rattle.xfs_base.specs.declared.setup.Setup.{Setup}
use Rattle.xfs_base.specs.declared.token.Mode.TheVariants.{Copy}
use Rattle.xfs_base.specs.declared.token.Stamp.{Stamp}
use Rattle.quiet_nodes.specs.Scene.{ClientPart, client_at, serving_at, tokens_at}
use Rattle.quiet_nodes.proofs.Begins.{HasRoom, room}
use Rattle.quiet_reads.proofs.CopyReads.{cached_part, copying, read_part, ready_is, runs_is}

module _ (setup : Setup) (works : NodeId → List Work) (c : ℕ) (p : ClientPart) (b : BlockId) (item : ℕ) (its_call : p.call ≡ Some (call_new One (Get b)))
    (its_item : p.item ≡ Some item) (stamp : Stamp) (req ver hop : ℕ) where
  -- a copy of the absent version
  abbrev pub copy : Held
  copy = copy_of (held_of p.blocks b) stamp ver None

  -- the entry of a block that lies in no log
  abbrev pub entry : Entry
  entry = record { ver = ver; hop = hop; place = None }

  -- the client then
  abbrev pub copy_read : ClientPart
  copy_read = read_part setup works c p b item copy

  module _ (accepted : accepts (tokens_at setup works p) b stamp 1 req Copy ≡ true) where
    copies_is : on_granted (tokens_at setup works p) b stamp 1 req Copy entry
        ≡ record { state = tokens_at setup works (copying setup works c p b item copy); outs = Ready b ∷ [] }
    unfolding on_granted
    copies_is = rw accepted refl

    grant_hands : hand (serving_at setup works c p) (Granted b stamp 1 req Copy entry)
        ≡ record { state = serving_at setup works c (cached_part setup works c p b item copy); outs = [] }
    unfolding hand serving_follow
    grant_hands = rw (its_call, its_item, copies_is, ready_is setup works c p b item copy refl) refl

    module _ (j clock : ℕ) (h : HasRoom setup works c p) (there : has_node (peers_of setup) (Manager j) ≡ true) where
      abbrev pub copy_packet : Packet
      copy_packet = record {
        from = Manager j;
        to = Client c;
        clock = clock;
        body = body.Grant (record { block = b; stamp = stamp; inc = 1; req = req; mode = Copy; entry = entry });
      }

      packet_is : serving_take (serving_at setup works c p) copy_packet
          ≡ record { state = serving_at setup works c (cached_part setup works c p b item copy); outs = [] }
      unfolding serving_take on_grant
      packet_is = rw grant_hands refl

      pub copy_comes : client_step (client_at setup works c p) (Deliver copy_packet) ≡ record {
        node = client_at setup works c copy_read;
        packets = [];
        acts = acts.Read c b ver (value_of copy) ∷ acts.Answered (Client c) item (Got ver (value_of copy)) ∷ [];
      }
      unfolding on_deliver
      copy_comes = rw (room setup works c p h, there, packet_is, runs_is setup works c p b item copy refl) refl
