-- A client whose put waits is granted the block: it owns it, writes, and answers, in one event.
use Rattle.std.proofs.Common.{◌≡◌, ℕ, ◌+◌, true, false, nat_le, List, [], ◌∷◌, length, Option, Some, None, is_none, refl, ap, ◌∙◌}
use Rattle.client_running.specs.Running.{run}
use Rattle.client_node.specs.Phases.{client_step, on_deliver}
use Rattle.client_call.specs.Calls.{call_new}
use Rattle.client_call.specs.declared.call.Plan.TheVariants.{One}
use Rattle.client_call.specs.Fitting.{put_fits}
use Rattle.client_serving.specs.Follow.{serving_follow, follow_one, hand, note_copy}
use Rattle.client_serving.specs.Packets.{on_grant, serving_take}
use Rattle.file_plan.specs.declared.block_call.BlockAnswer.TheVariants as block
use Rattle.file_plan.specs.declared.block_call.BlockCall.TheVariants.{Put}
use Rattle.node_base.specs.declared.effects.Effect.TheVariants.{Answer, Does}
use Rattle.node_base.specs.Known.{knows_entry}
use Rattle.node_base.specs.Maps.{maps_start}
use Rattle.node_base.specs.Nodes.{has_node, peers_of}
use Rattle.node_base.specs.Room.{has_long_room}
use Rattle.node_base.specs.Shape.{is_entry}
use Rattle.token_client.proofs.Tables.{held_of-put_itself}
use Rattle.token_client.specs.declared.held.Held.{Held}
use Rattle.token_client.specs.declared.input.In.TheVariants.{Granted}
use Rattle.token_client.specs.declared.output.Out.TheVariants.{Ready}
use Rattle.token_client.specs.Held.{may_write, held_own}
use Rattle.token_client.specs.State.{held_of, put_held}
use Rattle.token_client.specs.Transition.{accepts, on_granted}
use Rattle.version_model.specs.declared.act.Act.TheVariants as acts
use Rattle.version_model.specs.declared.answer.Answer.TheVariants.{Version}
use Rattle.version_model.specs.declared.work.Work.{Work}
use Rattle.wire_msg.specs.declared.body.Body.TheVariants as body
use Rattle.wire_msg.specs.declared.packet.Do.TheVariants.{Deliver}
use Rattle.wire_msg.specs.declared.packet.Packet.{Packet}
use Rattle.xfs_base.specs.declared.block.BlockId.{BlockId}
use Rattle.xfs_base.specs.declared.entry.Entry.{Entry}
use Rattle.xfs_base.specs.declared.node.NodeId.{NodeId}
use Rattle.xfs_base.specs.declared.node.NodeId.TheVariants.{Client, Manager}
use Rattle.xfs_base.specs.declared.setup.Setup.{Setup}
use Rattle.xfs_base.specs.declared.token.Mode.TheVariants.{Own}
use Rattle.xfs_base.specs.declared.token.Stamp.{Stamp}
use Rattle.quiet_nodes.specs.Scene.{ClientPart, client_at, its_groups, serving_at, tokens_at}
use Rattle.quiet_nodes.proofs.Begins.{HasRoom, room}
use Rattle.quiet_nodes.proofs.Puts.{put_makes, put_part, waiting_then, writes}
use Rattle.quiet_nodes.proofs.Running.{runs_answered}

module _ (setup : Setup) (works : NodeId → List Work) (c : ℕ) (p : ClientPart) (b : BlockId) (value : Option (List ℕ)) (item : ℕ)
    (its_call : p.call ≡ Some (call_new One (Put b value))) (its_item : p.item ≡ Some item) (stamp : Stamp) (req : ℕ) (entry : Entry) where
  abbrev its_held : Held
  its_held = held_of p.blocks b

  -- the block is owned, and the call is still open
  abbrev pub owning : ClientPart
  owning = record p { blocks = put_held p.blocks b (held_own its_held stamp entry.ver); call = Some (call_new One (Put b value)); item = Some item }

  module _ (accepted : accepts (tokens_at setup works p) b stamp 1 req Own ≡ true) where
    owns_is : on_granted (tokens_at setup works p) b stamp 1 req Own entry ≡ record { state = tokens_at setup works owning; outs = Ready b ∷ [] }
    unfolding on_granted
    owns_is = rw accepted refl

    itself : held_of (put_held p.blocks b (held_own its_held stamp entry.ver)) b ≡ held_own its_held stamp entry.ver
    itself = held_of-put_itself b (held_own its_held stamp entry.ver) p.blocks

    ready_is : follow_one (serving_at setup works c owning) (Ready b) ≡ record { state = serving_at setup works c owning; outs = [] }
    unfolding follow_one note_copy
    ready_is = rw itself refl

    pub grant_hands : hand (serving_at setup works c p) (Granted b stamp 1 req Own entry) ≡ record { state = serving_at setup works c owning; outs = [] }
    unfolding hand serving_follow
    grant_hands = rw (its_call, its_item, owns_is, ready_is) refl

    -- ---- and is written

    module _ (j clock : ℕ) (h : HasRoom setup works c p) (there : has_node (peers_of setup) (Manager j) ≡ true) (long : has_long_room entry.ver ≡ true)
        (of_log : is_entry entry.place ≡ true) (known : knows_entry (maps_start (its_groups setup works)) entry.place ≡ true)
        (none : is_none its_held.giving ≡ true) (more : may_write (held_own its_held stamp entry.ver) ≡ true) (fits : put_fits b (entry.ver + 1) value ≡ true)
        (not_full : nat_le 24 (length (waiting_then owning b value)) ≡ false) where
      abbrev packet : Packet
      packet = record {
        from = Manager j;
        to = Client c;
        clock = clock;
        body = body.Grant (record { block = b; stamp = stamp; inc = 1; req = req; mode = Own; entry = entry });
      }

      -- the client then
      abbrev pub put_granted : ClientPart
      put_granted = record (put_part owning b value) { item = None }

      packet_is : serving_take (serving_at setup works c p) packet ≡ record { state = serving_at setup works c owning; outs = [] }
      unfolding serving_take on_grant
      packet_is = rw (known, long, grant_hands) refl

      may_now : may_write (held_of owning.blocks b) ≡ true
      may_now = ap may_write itself ∙ more

      fits_now : put_fits b ((held_of owning.blocks b).ver + 1) value ≡ true
      fits_now = ap (λ (h : Held). put_fits b (h.ver + 1) value) itself ∙ fits

      runs_is : run (serving_at setup works c owning) ≡ record {
        state = serving_at setup works c put_granted;
        outs = Does (acts.Wrote c b value) ∷ Answer item (Version ((held_of owning.blocks b).ver + 1)) ∷ [];
      }
      runs_is =
          runs_answered (serving_at setup works c owning) (Put b value) refl (serving_at setup works c (put_part owning b value)) (writes c b value)
          (block.Put ((held_of owning.blocks b).ver + 1)) (put_makes setup works c owning b value may_now fits_now not_full) refl

      pub grant_comes : client_step (client_at setup works c p) (Deliver packet) ≡ record {
        node = client_at setup works c put_granted;
        packets = [];
        acts = acts.Wrote c b value ∷ acts.Answered (Client c) item (Version ((held_of owning.blocks b).ver + 1)) ∷ [];
      }
      unfolding on_deliver
      grant_comes = rw (room setup works c p h, there, of_log, packet_is, runs_is) refl
