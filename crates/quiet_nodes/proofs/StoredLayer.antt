-- The answers of all members come to the client whose segment is in flight: each but the last is noted, and the last one settles the segment.
use Rattle.std.proofs.Common.{◌≡◌, ℕ, ◌+◌, ◌≤◌, ◌<◌, Bool, true, List, [], ◌∷◌, ◌++◌, length, map, slice_set, arith}
use Rattle.std.specs.List.{AllByRecursion}
use Rattle.client_node.specs.Phases.{client_step}
use Rattle.group_map.specs.declared.group.Member.{Member}
use Rattle.node_base.specs.Nodes.{has_node, peers_of}
use Rattle.quiet_flow.specs.Flow.{unclocked}
use Rattle.version_model.specs.declared.act.Act.{Act}
use Rattle.version_model.specs.declared.work.Work.{Work}
use Rattle.wire_msg.specs.declared.body.Body.TheVariants as body
use Rattle.wire_msg.specs.declared.packet.Do.TheVariants.{Deliver}
use Rattle.wire_msg.specs.declared.packet.Packet.{Packet}
use Rattle.wire_msg.specs.NodeStep.{NodeStep}
use Rattle.client_node.specs.declared.client.Client.{Client as ClientNode}
use Rattle.xfs_base.specs.declared.node.NodeId.{NodeId}
use Rattle.xfs_base.specs.declared.node.NodeId.TheVariants.{Client, Server}
use Rattle.xfs_base.specs.declared.segment.SegName.{SegName}
use Rattle.xfs_base.specs.declared.setup.Setup.{Setup}
use Rattle.quiet_nodes.specs.Layers.{IsFirst, stored_by, storeds_by}
use Rattle.quiet_nodes.specs.Moves.{Moves}
use Rattle.quiet_nodes.specs.Scene.{ClientPart, Scene, client_at, with_client}
use Rattle.quiet_nodes.proofs.Moving.{moves_none}
use Rattle.quiet_nodes.proofs.Notes.{AreNoted, one_noted}
use Rattle.quiet_nodes.proofs.Turns.{client_takes}

module _ (setup : Setup) (works : NodeId → List Work) (c : ℕ) (s : Scene) (there : has_node (peers_of setup) (Client c) ≡ true) (name : SegName) (n : ℕ) (few : n ≤ 8)
    (flies : List Bool → ClientPart) (r : ClientPart) (packets : List Packet) (acts : List Act) where
  abbrev comes : List Bool → Member → ℕ → NodeStep ClientNode
  comes noted m place = client_step (client_at setup works c (flies noted)) (Deliver (stored_by c name m place))

  -- each but the last is noted
  abbrev pub IsNoted : Type 0
  IsNoted = (m : Member) (place : ℕ) (noted : List Bool) → IsFirst setup m → AreNoted noted place → place + 1 < n
      → comes noted m place ≡ record { node = client_at setup works c (flies (slice_set noted place true)); packets = []; acts = [] }

  -- the last one settles the segment
  abbrev pub IsLast : Type 0
  IsLast = (m : Member) (place : ℕ) (noted : List Bool) → IsFirst setup m → AreNoted noted place → place + 1 ≡ n
      → comes noted m place ≡ record { node = client_at setup works c r; packets = packets; acts = acts }

  module _ (waits : IsNoted) (last : IsLast) where
    pub storeds_move : (ms : List Member) (m : Member) (place : ℕ) (noted : List Bool) → AllByRecursion (IsFirst setup) (m ∷ ms) → AreNoted noted place
        → place + length (m ∷ ms) ≡ n
        → Moves setup works (with_client s c (flies noted)) (storeds_by c name (m ∷ ms) place) (map unclocked packets ++ []) (acts ++ []) (with_client s c r)
    storeds_move [] m place noted each are all =
        client_takes setup works s c (flies noted) r (with_client s c r) (Server m.server) (body.Stored (record { name = name; index = place; generation = 1 })) packets [] []
        acts [] there (last m place noted each.0 are (omega (arith, all))) (moves_none setup works (with_client s c r))
    storeds_move (next ∷ ms) m place noted each are all =
        client_takes setup works s c (flies noted) (flies (slice_set noted place true)) (with_client s c r) (Server m.server)
        (body.Stored (record { name = name; index = place; generation = 1 })) [] (storeds_by c name (next ∷ ms) (place + 1)) (map unclocked packets ++ []) [] (acts ++ [])
        there (waits m place noted each.0 are (omega (arith, all)))
        (storeds_move ms next (place + 1) (slice_set noted place true) each.1 (one_noted noted place (omega (arith, all)) are) (omega (arith, all)))
