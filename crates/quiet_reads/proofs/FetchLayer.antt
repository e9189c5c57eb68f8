-- Each member of a group is asked for its fragment of a segment, and tells it; nothing else changes.
use Rattle.std.proofs.Common.{◌≡◌, ℕ, ◌+◌, true, List, [], ◌∷◌, map, Some, refl, ap}
use Rattle.core_world.specs.AnyNode.{as_any}
use Rattle.core_world.specs.declared.any_node.AnyNode.TheVariants as any
use Rattle.fragment_store.specs.ShelfState.{held_at}
use Rattle.group_map.specs.declared.group.Group.{Group}
use Rattle.group_map.specs.declared.group.Member.{Member}
use Rattle.log_flight.specs.Fragments.{flight_fragment}
use Rattle.log_owner.specs.Sending.{fetch}
use Rattle.node_base.specs.Effects.{packets_of}
use Rattle.node_base.specs.Nodes.{has_node, peers_of}
use Rattle.node_base.specs.Shape.{is_name}
use Rattle.segment_format.specs.declared.segment.Segment.{Segment}
use Rattle.version_model.specs.declared.work.Work.{Work}
use Rattle.wire_msg.specs.declared.body.Body.TheVariants as body
use Rattle.wire_msg.specs.declared.packet.Packet.{Packet}
use Rattle.xfs_base.specs.declared.node.NodeId.{NodeId}
use Rattle.xfs_base.specs.declared.node.NodeId.TheVariants.{Client, Server}
use Rattle.xfs_base.specs.declared.segment.SegName.{SegName}
use Rattle.xfs_base.specs.declared.setup.Setup.{Setup}
use Rattle.quiet_nodes.proofs.Moving.{moves_next, moves_none}
use Rattle.quiet_nodes.specs.Moves.{Moves}
use Rattle.quiet_nodes.specs.Scene.{Scene}
use Rattle.quiet_reads.proofs.Fetching.{fetch_comes, found_packet}

module _ (setup : Setup) (works : NodeId → List Work) (c ask : ℕ) (name : SegName) (segment : Segment) (group : Group) where
  abbrev pub fetch_to : Member → Packet
  fetch_to m = record { from = Client c; to = Server m.server; clock = 0; body = body.Fetch (record { name = name; ask = ask }) }

  -- these members are asked, and tell their fragments, the first of them that at a place
  abbrev pub fetches_to : List Member → List Packet
  fetches_to [] = []
  fetches_to (m ∷ ms) = fetch_to m ∷ fetches_to ms

  abbrev pub founds_by : List Member → ℕ → List Packet
  founds_by [] place = []
  founds_by (m ∷ ms) place = found_packet setup works m.server c 0 ask name [] (flight_fragment segment group place) ∷ founds_by ms (place + 1)

  -- a member holds its fragment
  pub record HoldsPiece (s : Scene) (m : Member) (place : ℕ) : Type 0 where
    pub there : has_node (peers_of setup) (Server m.server) ≡ true
    pub held : held_at (s.held m.server) name ≡ Some (flight_fragment segment group place)

  abbrev pub EachHolds : Scene → List Member → ℕ → Type 0
  EachHolds s [] place = Unit {0}
  EachHolds s (m ∷ ms) place = HoldsPiece s m place × EachHolds s ms (place + 1)

  pub fetches_move : (s : Scene) → has_node (peers_of setup) (Client c) ≡ true → is_name name ≡ true → (ms : List Member) (place : ℕ) → EachHolds s ms place
      → Moves setup works s (fetches_to ms) (founds_by ms place) [] s
  fetches_move s there named [] place each = moves_none setup works s
  fetches_move s there named (m ∷ ms) place each =
      moves_next setup works s s s (fetch_to m)
      (found_packet setup works m.server c 0 ask name [] (flight_fragment segment group place) ∷ []) (fetches_to ms) (founds_by ms (place + 1)) [] [] each.0.there
      (ap (as_any any.Server) (fetch_comes setup works m.server c 0 ask name (s.held m.server) (flight_fragment segment group place) there named each.0.held))
      (λ other differs. refl) (fetches_move s there named ms (place + 1) each.1)

  -- what a client sends that asks them all
  pub fetches_sent : (ms : List Member) → packets_of (Client c) (map (fetch name ask) (map (λ (m : Member). m.server) ms)) ≡ fetches_to ms
  fetches_sent [] = refl
  fetches_sent (m ∷ ms) =
      ap (λ ps. fetch_to m ∷ ps)
      (fetches_sent ms)
