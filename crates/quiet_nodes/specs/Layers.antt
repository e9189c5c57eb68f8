-- The packets of a segment on its way: its fragment to each member of its group, and the member's answer; and what it tells to the manager of each slot, and
-- that manager's answer. And the scene once they are delivered.
use Rattle.std.specs.Prelude.{◌≡◌, ◌+◌, ℕ, true, List, [], ◌∷◌}
use Rattle.fragment_store.specs.Calls.{shelf_store}
use Rattle.group_map.specs.declared.group.Member.{Member}
use Rattle.log_flight.specs.Flights.{FlightState}
use Rattle.log_flight.specs.Fragments.{flight_fragment}
use Rattle.node_base.specs.Nodes.{has_node, peers_of}
use Rattle.version_model.specs.declared.work.Work.{Work}
use Rattle.wire_msg.specs.declared.body.Body.TheVariants as body
use Rattle.wire_msg.specs.declared.packet.Packet.{Packet}
use Rattle.xfs_base.specs.declared.block.BlockId.{BlockId}
use Rattle.xfs_base.specs.declared.entry.Entry.{Entry}
use Rattle.xfs_base.specs.declared.fragment.Fragment.{Fragment}
use Rattle.xfs_base.specs.declared.node.NodeId.{NodeId}
use Rattle.xfs_base.specs.declared.node.NodeId.TheVariants.{Client, Manager, Server}
use Rattle.xfs_base.specs.declared.segment.SegName.{SegName}
use Rattle.xfs_base.specs.declared.setup.Setup.{Setup}
use Rattle.quiet_nodes.specs.Scene.{manager_of_slot, put_number, shelf_at}

-- ---- members

-- a member is a server of the setup that never lost what it kept
abbrev pub IsFirst : Setup → Member → Type 0
IsFirst setup m = (m.generation ≡ 1) × (has_node (peers_of setup) (Server m.server) ≡ true)

-- the fragment of a flight at a place goes to its member
abbrev pub store_to : ℕ → FlightState → Member → ℕ → Packet
store_to c f m place = record {
  from = Client c;
  to = Server m.server;
  clock = 0;
  body = body.Store (record { fragment = flight_fragment f.segment f.group place; generation = m.generation });
}

-- to each of these members, from a place on
abbrev pub stores_to : ℕ → FlightState → List Member → ℕ → List Packet
stores_to c f [] place = []
stores_to c f (m ∷ ms) place = store_to c f m place ∷ stores_to c f ms (place + 1)

-- a member has the fragment
abbrev pub stored_by : ℕ → SegName → Member → ℕ → Packet
stored_by c name m place = record {
  from = Server m.server;
  to = Client c;
  clock = 0;
  body = body.Stored (record { name = name; index = place; generation = 1 });
}

abbrev pub storeds_by : ℕ → SegName → List Member → ℕ → List Packet
storeds_by c name [] place = []
storeds_by c name (m ∷ ms) place = stored_by c name m place ∷ storeds_by c name ms (place + 1)

module _ (setup : Setup) (works : NodeId → List Work) where
  -- what a member keeps then
  abbrev pub kept_by : (ℕ → List Fragment) → FlightState → Member → ℕ → List Fragment
  kept_by held f m place = (shelf_store (shelf_at setup works (held m.server)) (flight_fragment f.segment f.group place)).held

  -- the shelves once a member keeps its fragment
  abbrev pub with_piece : (ℕ → List Fragment) → FlightState → Member → ℕ → ℕ → List Fragment
  with_piece held f m place = put_number held m.server (kept_by held f m place)

  -- once each of these does, from a place on
  abbrev pub with_pieces : (ℕ → List Fragment) → FlightState → List Member → ℕ → ℕ → List Fragment
  with_pieces held f [] place = held
  with_pieces held f (m ∷ ms) place = with_pieces (with_piece held f m place) f ms (place + 1)

  -- ---- slots

  -- what the newest segment of a client's log says of the blocks of a slot, to the slot's manager
  abbrev pub deltas_to : ℕ → ℕ → ℕ → List (BlockId × Entry) → Packet
  deltas_to c seq i rows = record {
    from = Client c;
    to = Manager (manager_of_slot setup works i);
    clock = 0;
    body = body.Deltas (record { slot = i; first = seq; upto = seq; rows = rows });
  }

  -- it is applied there
  abbrev pub ack_by : ℕ → ℕ → ℕ → Packet
  ack_by c seq i = record {
    from = Manager (manager_of_slot setup works i);
    to = Client c;
    clock = 0;
    body = body.DeltaAck (record { slot = i; epoch = 1; applied = seq });
  }
