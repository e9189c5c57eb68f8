-- A get of a block that isn't held, and that nobody else is believed to hold, wherever the block lies: the manager grants a copy, and the client reads it.
use Rattle.std.proofs.Common.{◌≡◌, ℕ, ◌+◌, ◌<◌, true, List, [], ◌∷◌, refl, ap, subst, ◌∙◌, arith}
use Rattle.core_world.specs.declared.any_node.AnyNode.{AnyNode}
use Rattle.manager_slots.specs.Tokens.{tokens_say}
use Rattle.node_base.specs.Nodes.{has_node, peers_of}
use Rattle.node_base.specs.Setups.{IsSetup}
use Rattle.quiet_flow.specs.Flow.{Stage}
use Rattle.quiet_gets.proofs.Answered as answered
use Rattle.quiet_gets.proofs.CopyReading.{ReadsCopy}
use Rattle.quiet_gets.proofs.GetAsking as asking
use Rattle.quiet_gets.proofs.PlaceReading.{grant_of, granted_reads}
use Rattle.quiet_gets.specs.Laws.{LonelyGetsAreAnswered}
use Rattle.quiet_law.proofs.Counters.{below_short, low_room_next}
use Rattle.quiet_law.proofs.Keeping.{room_of}
use Rattle.quiet_law.specs.Drained.{Drained, IsCalm, IsIdle, most_steps}
use Rattle.quiet_law.specs.Lines.{Ends, IsNext, Stands, fetching, holders}
use Rattle.quiet_nodes.proofs.Managing.{want_comes}
use Rattle.quiet_nodes.proofs.Moving.{empties_layer, moves_none}
use Rattle.quiet_nodes.proofs.Rooms.{manager_room, slot_within}
use Rattle.quiet_nodes.proofs.Tests.{lt_test, same_test}
use Rattle.quiet_nodes.proofs.Turns.{slot_takes}
use Rattle.quiet_nodes.proofs.Wanting.{want_body}
use Rattle.quiet_nodes.specs.Moves.{Empties, Moves}
use Rattle.quiet_nodes.specs.Scene.{ClientPart, Scene, manager_of_slot}
use Rattle.quiet_reads.proofs.CopyWanted.{none_owns, want_copies}
use Rattle.slot_beliefs.specs.Recalls.{stamp}
use Rattle.token_client.specs.declared.held.Held.{Held}
use Rattle.token_client.specs.State.{held_of}
use Rattle.token_manager.specs.SlotState.{SlotState}
use Rattle.version_model.specs.declared.work.Work.{Work}
use Rattle.version_model.specs.declared.work.Work.TheVariants as work
use Rattle.wire_msg.specs.declared.packet.Packet.{Packet}
use Rattle.xfs_base.specs.Blocks.{slot_of}
use Rattle.xfs_base.specs.declared.block.BlockId.{BlockId}
use Rattle.xfs_base.specs.declared.entry.Entry.{Entry}
use Rattle.xfs_base.specs.declared.node.NodeId.{NodeId}
use Rattle.xfs_base.specs.declared.node.NodeId.TheVariants.{Client, Manager}
use Rattle.xfs_base.specs.declared.setup.Setup.{Setup}
use Rattle.xfs_base.specs.declared.token.Mode.TheVariants.{Copy}
use Rattle.xfs_base.specs.Limits.{u32_end}
use Rattle.xfs_base.specs.Modes.{is_nothing}

module _ (setup : Setup) (works : NodeId → List Work) (ok : IsSetup setup) (k : ℕ) (s : Scene) (t : Stage AnyNode) (c : ℕ) (b : BlockId) (few : k < most_steps)
    (d : Drained setup works k s) (stands : Stands setup works s t) (next : IsNext setup works s c (work.Bget c b))
    (asks : is_nothing (held_of (s.client c).blocks b).mode ≡ true) (nobody : holders setup works s c b ≡ []) where
  abbrev p : ClientPart
  p = s.client c

  abbrev i : ℕ
  i = slot_of b.ino.0

  abbrev j : ℕ
  j = manager_of_slot setup works i

  abbrev z : SlotState
  z = s.slot i

  abbrev z_first : SlotState
  z_first = asking.z_first setup works k s c d few b next asks

  abbrev entry : Entry
  entry = asking.entry setup works k s c d few b next asks

  abbrev s1 : Scene
  s1 = asking.s1 setup works k s c d few b next asks

  abbrev s2 : Scene
  s2 = asking.s2 setup works k s c d few b next asks

  abbrev asked : ClientPart
  asked = asking.asked setup works k s c d few b next asks

  abbrev want_packet : Packet
  want_packet = asking.want_packet setup works k s c d few b next asks

  abbrev grant_packet : Packet
  grant_packet = grant_of setup works c b (stamp 1 (z.turn + 1)) (p.req + 1) j entry

  idle : IsIdle k p
  idle = d.clients c next.client.0 next.client.1

  calm : IsCalm setup k z
  calm = d.slots i (slot_within b.ino.0)

  has_test : has_node (peers_of setup) (Client c) ≡ true
  has_test = asking.has_test setup works k s c d few b next asks

  there_test : has_node (peers_of setup) (Manager j) ≡ true
  there_test = asking.there_test setup works k s c d few b next asks ok

  grants : Moves setup works s1 (want_packet ∷ []) (grant_packet ∷ []) [] s2
  unfolding tokens_say
  grants =
      subst (λ epoch. Moves setup works s1 (want_packet ∷ []) (grant_of setup works c b (stamp epoch (z.turn + 1)) (p.req + 1) j entry ∷ []) [] s2) calm.epoch
      (slot_takes setup works s1 i z_first s2 (Client c) (want_body setup works c p b Copy) (grant_of setup works c b (stamp z.epoch (z.turn + 1)) (p.req + 1) j entry ∷ []) [] [] [] []
      there_test
      (want_comes setup works j c 0 s.slot (record { block = b; inc = 1; req = p.req + 1; again = 0; mode = Copy; end = p.end.seq }) (slot_within b.ino.0)
      (same_test j) (manager_room setup works j s.slot (asking.all_turns setup works k s c d few b next asks)) has_test z_first _
      (want_copies z c 1 (p.req + 1) p.end.seq b (asking.taken setup works k s c d few b next asks) nobody (asking.turns setup works k s c d few b next asks)))
      (moves_none setup works s2))

  abbrev base : Scene
  base = answered.base setup works k s c d few b next asks

  abbrev first_held : Held
  first_held = asking.first_held setup works k s c d few b next asks

  first_is : held_of asked.blocks b ≡ first_held
  first_is = asking.first_is setup works k s c d few b next asks

  r : ReadsCopy setup works base c asked b (p.begun + 1) entry.ver (stamp 1 (z.turn + 1)) grant_packet (1 + fetching setup works s b)
  r =
      granted_reads setup works ok s base (λ v. refl) c asked b (p.begun + 1) entry.ver (stamp 1 (z.turn + 1)) refl refl idle.flight
      (ap (λ (g : Held). g.giving) first_is ∙ (idle.blocks b).giving) (p.req + 1)
      (asking.accepted_with setup works k s c d few b next asks asked (record { req = p.req + 1; again = 0; mode = Copy }) z.turn (omega arith) first_is refl refl)
      (asking.asked_room setup works k s c d few b next asks) (lt_test p.asked u32_end (let low = below_short k p.asked few idle.asked_low in omega (arith, low)))
      (room_of (p.asked + 1) (low_room_next k p.asked few idle.asked_low)) has_test j entry.hop there_test entry.place (d.legible i (slot_within b.ino.0) b refl)

  empties : Empties setup works (1 + r.deliveries) s1 (want_packet ∷ [])
      (answered.acts_read setup works k s c d few b next asks grant_packet (1 + fetching setup works s b) r)
      (answered.scene_read setup works k s c d few b next asks grant_packet (1 + fetching setup works s b) r)
  empties =
      empties_layer setup works r.deliveries s1 s2 (answered.scene_read setup works k s c d few b next asks grant_packet (1 + fetching setup works s b) r)
      (want_packet ∷ []) (grant_packet ∷ []) [] (answered.acts_read setup works k s c d few b next asks grant_packet (1 + fetching setup works s b) r) grants r.reads

  pub lonely_ends : Ends setup works k (2 + fetching setup works s b) s t c (p.begun + 1)
  lonely_ends =
      answered.ends_read setup works k s c d few b next asks grant_packet (1 + fetching setup works s b) r t stands (none_owns z.beliefs b c nobody) (1 + r.deliveries)
      (2 + fetching setup works s b) (let few_more = r.few in omega arith) empties

pub lonely_gets : LonelyGetsAreAnswered
lonely_gets setup works ok k s t c b few d stands next nothing nobody = lonely_ends setup works ok k s t c b few d stands next nothing nobody
