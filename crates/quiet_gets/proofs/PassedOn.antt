-- A get of a block that isn't held, of which others have copies and which nobody owns: the manager has one of the others pass its own on, and where that one has it
-- still the state is drained again.
use Rattle.std.proofs.Common.{◌≡◌, ℕ, ◌+◌, ◌<◌, ◌≤◌, ◌&&◌, true, false, cond, nat_le, List, [], ◌∷◌, Option, Some, None, refl, sym, ap, subst, ◌∙◌, arith}
use Rattle.core_world.specs.declared.any_node.AnyNode.{AnyNode}
use Rattle.manager_slots.specs.Tokens.{tokens_say}
use Rattle.node_base.specs.Nodes.{has_node, peers_of}
use Rattle.node_base.specs.Setups.{IsSetup}
use Rattle.quiet_flow.specs.Flow.{Stage}
use Rattle.quiet_gets.proofs.Answered as answered
use Rattle.quiet_gets.proofs.CopyReading.{ReadsCopy, supply_reads}
use Rattle.quiet_gets.proofs.Forwarding.{forward_moves}
use Rattle.quiet_gets.proofs.GetAsking as asking
use Rattle.quiet_gets.proofs.Others.{first_other}
use Rattle.quiet_gets.proofs.WantPassed.{want_passes}
use Rattle.quiet_gets.specs.Forwards.{forward_to, passed_on, supplied_from, supply_from}
use Rattle.quiet_gets.specs.Laws.{owners}
use Rattle.quiet_law.proofs.Keeping.{idle_room}
use Rattle.quiet_law.specs.Drained.{Drained, IsCalm, IsIdle, most_steps}
use Rattle.quiet_law.specs.Lines.{Ends, IsNext, Stands, holders}
use Rattle.quiet_nodes.proofs.Begins.{HasRoom}
use Rattle.quiet_nodes.proofs.Managing.{want_comes}
use Rattle.quiet_nodes.proofs.Moving.{empties_layer, moves_none}
use Rattle.quiet_nodes.proofs.Rooms.{manager_room, slot_within}
use Rattle.quiet_nodes.proofs.Tests.{le_test, other_test, same_test}
use Rattle.quiet_nodes.proofs.Turns.{slot_takes}
use Rattle.quiet_nodes.proofs.Wanting.{want_body}
use Rattle.quiet_nodes.specs.Moves.{Empties, Moves}
use Rattle.quiet_nodes.specs.Scene.{ClientPart, Scene, manager_of_slot}
use Rattle.slot_beliefs.specs.Recalls.{stamp}
use Rattle.token_client.specs.declared.held.Held.{Held}
use Rattle.token_client.specs.State.{held_of}
use Rattle.token_manager.specs.SlotState.{SlotState}
use Rattle.version_model.specs.declared.work.Work.{Work}
use Rattle.version_model.specs.declared.work.Work.TheVariants as work
use Rattle.wire_msg.specs.declared.packet.Packet.{Packet}
use Rattle.xfs_base.specs.Blocks.{slot_of}
use Rattle.xfs_base.specs.declared.block.BlockId.{BlockId}
use Rattle.xfs_base.specs.declared.entry.Entry.{Entry}
use Rattle.xfs_base.specs.declared.node.NodeId.{NodeId}
use Rattle.xfs_base.specs.declared.node.NodeId.TheVariants.{Client, Manager}
use Rattle.xfs_base.specs.declared.setup.Setup.{Setup}
use Rattle.xfs_base.specs.declared.token.Mode.TheVariants.{Copy}
use Rattle.xfs_base.specs.Modes.{is_nothing}

module _ (setup : Setup) (works : NodeId → List Work) (k : ℕ) (s : Scene) (c : ℕ) (b : BlockId) (e : ℕ) (es : List ℕ) (ok : IsSetup setup)
    (few : k < most_steps) (d : Drained setup works k s) (next : IsNext setup works s c (work.Bget c b))
    (asks : is_nothing (held_of (s.client c).blocks b).mode ≡ true) (held : holders setup works s c b ≡ e ∷ es) (unowned : owners setup works s c b ≡ []) where
  abbrev p : ClientPart
  p = s.client c

  abbrev i : ℕ
  i = slot_of b.ino.0

  abbrev j : ℕ
  j = manager_of_slot setup works i

  abbrev z : SlotState
  z = s.slot i

  abbrev req : ℕ
  req = p.req + 1

  abbrev first_turn : ℕ
  first_turn = z.turn + 1

  abbrev entry : Entry
  entry = asking.entry setup works k s c d few b next asks

  abbrev z_first : SlotState
  z_first = asking.z_first setup works k s c d few b next asks

  abbrev asked : ClientPart
  asked = asking.asked setup works k s c d few b next asks

  abbrev s1 : Scene
  s1 = asking.s1 setup works k s c d few b next asks

  abbrev s2 : Scene
  s2 = asking.s2 setup works k s c d few b next asks

  abbrev want_packet : Packet
  want_packet = asking.want_packet setup works k s c d few b next asks

  abbrev pub forward_packet : Packet
  forward_packet = forward_to setup works e b (stamp 1 first_turn) c req entry.ver

  calm : IsCalm setup k z
  calm = d.slots i (slot_within b.ino.0)

  idle : IsIdle k p
  idle = d.clients c next.client.0 next.client.1

  has_test : has_node (peers_of setup) (Client c) ≡ true
  has_test = asking.has_test setup works k s c d few b next asks

  there_test : has_node (peers_of setup) (Manager j) ≡ true
  there_test = asking.there_test setup works k s c d few b next asks ok

  pub forwards : Moves setup works s1 (want_packet ∷ []) (forward_packet ∷ []) [] s2
  unfolding tokens_say
  forwards =
      subst (λ epoch. Moves setup works s1 (want_packet ∷ []) (forward_to setup works e b (stamp epoch first_turn) c req entry.ver ∷ []) [] s2) calm.epoch
      (slot_takes setup works s1 i z_first s2 (Client c) (want_body setup works c p b Copy) (forward_to setup works e b (stamp z.epoch first_turn) c req entry.ver ∷ []) [] [] [] []
      there_test
      (want_comes setup works j c 0 s.slot (record { block = b; inc = 1; req = req; again = 0; mode = Copy; end = p.end.seq }) (slot_within b.ino.0)
      (same_test j) (manager_room setup works j s.slot (asking.all_turns setup works k s c d few b next asks)) has_test z_first _
      (want_passes z c 1 req p.end.seq b e es (asking.taken setup works k s c d few b next asks) unowned held (asking.turns setup works k s c d few b next asks)))
      (moves_none setup works s2))

  -- ---- the other client

  other : ((1 ≤ e) × (e ≤ setup.clients)) × (e ≡ c → ⊥)
  other = first_other z.beliefs b c setup.clients e es false calm.believed held

  its_part : s2.client e ≡ s.client e
  its_part = ap (λ test. cond test asked (s.client e)) (other_test e c other.1)

  its_test : has_node (peers_of setup) (Client e) ≡ true
  its_test = ap (λ x. x && nat_le e setup.clients) (le_test 1 e other.0.0) ∙ le_test e setup.clients other.0.1

  its_room : HasRoom setup works e (s2.client e)
  its_room = subst (HasRoom setup works e) (sym its_part) (idle_room setup works e k (s.client e) few (d.clients e other.0.0 other.0.1))

  its_call : (s2.client e).call ≡ None
  its_call = ap (λ (x : ClientPart). x.call) its_part ∙ (d.clients e other.0.0 other.0.1).call

  abbrev pub passed : Option (Option (List ℕ))
  passed = passed_on (held_of (s2.client e).blocks b) entry.ver

  pub passes_on : Moves setup works s2 (forward_packet ∷ []) (supplied_from setup works e b (stamp 1 first_turn) c req entry.ver passed) [] s2
  passes_on = forward_moves setup works s2 e its_room its_call b c req entry.ver first_turn there_test its_test

  -- ---- where the other client has its copy still

  module _ (t : Stage AnyNode) (stands : Stands setup works s t) (value : Option (List ℕ)) (is_passed : passed ≡ Some value) where
    abbrev base : Scene
    base = answered.base setup works k s c d few b next asks

    abbrev supply_packet : Packet
    supply_packet = supply_from setup works e b (stamp 1 first_turn) c req entry.ver value

    abbrev first_held : Held
    first_held = asking.first_held setup works k s c d few b next asks

    first_is : held_of asked.blocks b ≡ first_held
    first_is = asking.first_is setup works k s c d few b next asks

    supplies_it : Moves setup works s2 (forward_packet ∷ []) (supply_packet ∷ []) [] s2
    supplies_it =
        subst (λ o. Moves setup works s2 (forward_packet ∷ []) (supplied_from setup works e b (stamp 1 first_turn) c req entry.ver o) [] s2) is_passed passes_on

    r : ReadsCopy setup works base c asked b (p.begun + 1) entry.ver (stamp 1 first_turn) supply_packet 1
    r =
        supply_reads setup works base c asked b (p.begun + 1) entry.ver (stamp 1 first_turn) refl refl (ap (λ (g : Held). g.giving) first_is ∙ (idle.blocks b).giving) req
        (asking.accepted_with setup works k s c d few b next asks asked (record { req = req; again = 0; mode = Copy }) z.turn (omega arith) first_is refl refl)
        (asking.asked_room setup works k s c d few b next asks) has_test e value its_test

    empties : Empties setup works (1 + (1 + r.deliveries)) s1 (want_packet ∷ []) (answered.acts_read setup works k s c d few b next asks supply_packet 1 r)
        (answered.scene_read setup works k s c d few b next asks supply_packet 1 r)
    empties =
        empties_layer setup works (1 + r.deliveries) s1 s2 (answered.scene_read setup works k s c d few b next asks supply_packet 1 r) (want_packet ∷ []) (forward_packet ∷ []) []
        (answered.acts_read setup works k s c d few b next asks supply_packet 1 r) forwards
        (empties_layer setup works r.deliveries s2 s2 (answered.scene_read setup works k s c d few b next asks supply_packet 1 r) (forward_packet ∷ []) (supply_packet ∷ []) []
        (answered.acts_read setup works k s c d few b next asks supply_packet 1 r) supplies_it r.reads)

    pub ends_soon : Ends setup works k 3 s t c (p.begun + 1)
    ends_soon =
        answered.ends_read setup works k s c d few b next asks supply_packet 1 r t stands unowned (1 + (1 + r.deliveries)) 3 (let few_more = r.few in omega arith) empties
