-- A client is told to pass its copy of a block on to another: where it has a value of the version it supplies it, and else it sends nothing.
use Rattle.token_client.specs.Transition.{on_forwarded, supplies as says_supply}
use Rattle.client_serving.specs.Grants.{send_supply}
use Rattle.client_node.specs.Phases.{client_step, on_deliver}
use Rattle.wire_msg.specs.declared.tokens.Forward.{Forward}
use Rattle.xfs_base.specs.declared.token.Mode.TheVariants.{Copy}
use Rattle.token_client.specs.declared.output.Out.{Out}
use Rattle.client_node.specs.declared.client.Client.{Client as ClientNode}
use Rattle.client_serving.specs.Packets.{on_forward, serving_take, supplied_by}
use Rattle.core_world.specs.AnyNode.{as_any}
use Rattle.core_world.specs.declared.any_node.AnyNode.TheVariants as any
use Rattle.node_base.specs.Effects.{acts_of, packets_of}
use Rattle.node_base.specs.Nodes.{has_node, peers_of}
use Rattle.quiet_flow.specs.Flow.{unclocked}
use Rattle.quiet_gets.specs.Forwards.{forward_to, manager_for, passed_on, supplied_from}
use Rattle.quiet_nodes.proofs.Begins.{HasRoom, room}
use Rattle.quiet_nodes.proofs.Moving.{moves_next, moves_none}
use Rattle.quiet_nodes.proofs.Rooms.{promised, slot_within}
use Rattle.quiet_nodes.proofs.Running.{runs_none}
use Rattle.quiet_nodes.specs.Moves.{Moves}
use Rattle.quiet_nodes.specs.Scene.{ClientPart, Scene, client_at, serving_at, tokens_at}
use Rattle.slot_beliefs.specs.Recalls.{stamp}
use Rattle.std.proofs.Common.{Bool, List, None, Option, Some, [], ap, cond, false, flat_map, map, refl, replicate, slice_index, subst, true, ℕ, ◌&&◌, ◌++◌, ◌==◌, ◌∙◌, ◌∷◌, ◌≡◌}
use Rattle.token_client.specs.State.{TokensState, held_of}
use Rattle.token_client.specs.declared.held.Held.{Held}
use Rattle.version_model.specs.declared.work.Work.{Work}
use Rattle.wire_msg.specs.NodeStep.{NodeStep}
use Rattle.wire_msg.specs.declared.packet.Do.TheVariants.{Deliver}
use Rattle.xfs_base.specs.Blocks.{slot_of}
use Rattle.xfs_base.specs.Modes.{same_mode}
use Rattle.xfs_base.specs.Steps.{Stepped, still}
use Rattle.xfs_base.specs.declared.block.BlockId.{BlockId}
use Rattle.xfs_base.specs.declared.node.NodeId.TheVariants.{Client}
use Rattle.xfs_base.specs.declared.node.NodeId.{NodeId}
use Rattle.xfs_base.specs.declared.setup.Setup.{Setup}
use Rattle.xfs_base.specs.declared.token.Stamp.{Stamp}

module _ (setup : Setup) (works : NodeId → List Work) (d : ℕ) (p : ClientPart) (h : HasRoom setup works d p) (idle : p.call ≡ None) (b : BlockId)
    (c req ver turn : ℕ) (there : has_node (peers_of setup) (manager_for setup works b) ≡ true) where
  abbrev its_held : Held
  its_held = held_of p.blocks b

  abbrev its_stamp : Stamp
  its_stamp = stamp 1 turn

  abbrev its_epoch : slice_index (replicate 8 1) (slot_of b.ino.0) ≡ 1
  its_epoch = promised (slot_of b.ino.0) (slot_within b.ino.0)

  taken_is : on_forwarded (tokens_at setup works p) b its_stamp ver ≡ record { state = tokens_at setup works p; outs = says_supply b ver (passed_on its_held ver) }
  unfolding on_forwarded
  taken_is =
      ap (λ n. cond (((n == 1) && same_mode its_held.mode Copy) && (its_held.ver == ver))
      (record { state = tokens_at setup works p; outs = says_supply b ver its_held.value }) (still (tokens_at setup works p))) its_epoch
      ∙ by_test (same_mode its_held.mode Copy && (its_held.ver == ver))
    where
      by_test : (t : Bool)
          → ◌≡◌ {A = Stepped TokensState Out} (cond t (record { state = tokens_at setup works p; outs = says_supply b ver its_held.value }) (still (tokens_at setup works p)))
          (record { state = tokens_at setup works p; outs = says_supply b ver (cond t its_held.value None) })
      by_test true = refl
      by_test false = refl

  abbrev forward : Forward
  forward = record { block = b; stamp = its_stamp; to = c; inc = 1; req = req; ver = ver }

  packet_is : serving_take (serving_at setup works d p) (forward_to setup works d b its_stamp c req ver)
      ≡ record { state = serving_at setup works d p; outs = flat_map (send_supply forward) (says_supply b ver (passed_on its_held ver)) }
  unfolding serving_take on_forward
  packet_is = ap (supplied_by (serving_at setup works d p) forward) taken_is

  by_value : (o : Option (Option (List ℕ)))
      → ◌≡◌ {A = NodeStep ClientNode} (record {
        node = client_at setup works d p;
        packets = packets_of (Client d) (flat_map (send_supply forward) (says_supply b ver o) ++ []);
        acts = acts_of (Client d) (flat_map (send_supply forward) (says_supply b ver o) ++ []);
      }) (record { node = client_at setup works d p; packets = supplied_from setup works d b its_stamp c req ver o; acts = [] })
  by_value None = refl
  by_value (Some value) = refl

  pub forward_comes : client_step (client_at setup works d p) (Deliver (forward_to setup works d b its_stamp c req ver)) ≡ record {
    node = client_at setup works d p;
    packets = supplied_from setup works d b its_stamp c req ver (passed_on its_held ver);
    acts = [];
  }
  unfolding on_deliver
  forward_comes = rw (room setup works d p h, there, packet_is, runs_none (serving_at setup works d p) idle) (by_value (passed_on its_held ver))

-- ---- as a layer

module _ (setup : Setup) (works : NodeId → List Work) (s : Scene) (d : ℕ) (h : HasRoom setup works d (s.client d)) (idle : (s.client d).call ≡ None) (b : BlockId)
    (c req ver turn : ℕ) (there : has_node (peers_of setup) (manager_for setup works b) ≡ true) (its : has_node (peers_of setup) (Client d) ≡ true) where
  abbrev value : Option (Option (List ℕ))
  value = passed_on (held_of (s.client d).blocks b) ver

  outs_are : (o : Option (Option (List ℕ))) → map unclocked (supplied_from setup works d b (stamp 1 turn) c req ver o) ++ [] ≡ supplied_from setup works d b (stamp 1 turn) c req ver o
  outs_are None = refl
  outs_are (Some v) = refl

  -- nothing changes
  pub forward_moves : Moves setup works s (forward_to setup works d b (stamp 1 turn) c req ver ∷ []) (supplied_from setup works d b (stamp 1 turn) c req ver value) [] s
  forward_moves =
      subst (λ outs. Moves setup works s (forward_to setup works d b (stamp 1 turn) c req ver ∷ []) outs [] s) (outs_are value)
      (moves_next setup works s s s (forward_to setup works d b (stamp 1 turn) c req ver) (supplied_from setup works d b (stamp 1 turn) c req ver value) [] [] [] [] its
      (ap (as_any any.Client) (forward_comes setup works d (s.client d) h idle b c req ver turn there)) (λ other differs. refl) (moves_none setup works s))
