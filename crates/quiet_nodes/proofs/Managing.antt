-- A manager of a quiet run: an event of one of its slots.
use Rattle.std.proofs.Common.{◌≡◌, ℕ, ◌+◌, ◌<◌, ◌==◌, ◌&&◌, true, false, cond, List, [], ◌∷◌, map, ap, ◌∙◌}
use Rattle.std.specs.Prelude.{flat_map}
use Rattle.manager_node.specs.Events.{happens, manager_step, manager_deliver, seen}
use Rattle.manager_node.specs.declared.phase.Phase.TheVariants as managing
use Rattle.manager_node.specs.Phases.{phase_has_room, serves}
use Rattle.node_base.specs.Shape.{is_well_formed}
use Rattle.manager_slots.specs.declared.slot_phase.SlotPhase.{SlotPhase}
use Rattle.manager_slots.specs.Slots.{managed}
use Rattle.manager_slots.specs.SlotTable as table
use Rattle.manager_slots.specs.SlotTable.{Table, at_slot}
use Rattle.manager_slots.specs.Tokens as tokens
use Rattle.manager_slots.specs.Tokens.{tokens_say}
use Rattle.manager_serving.specs.declared.serving.Serving.{Serving}
use Rattle.manager_serving.specs.Serving as serving
use Rattle.manager_serving.specs.Serving.{with_slots}
use Rattle.node_base.specs.declared.effects.Effect.{Effect}
use Rattle.node_base.specs.Nodes.{has_node, peers_of}
use Rattle.node_base.specs.Effects.{packets_of, acts_of}
use Rattle.slot_beliefs.specs.Beliefs.{holder, others, beliefs_own}
use Rattle.slot_beliefs.specs.Recalls.{stamp}
use Rattle.token_manager.specs.declared.input.In.TheVariants as input
use Rattle.token_manager.specs.declared.output.Out.{Out}
use Rattle.token_manager.specs.declared.output.Out.TheVariants as out
use Rattle.token_manager.specs.SlotState.{SlotState}
use Rattle.token_manager.specs.Transition.{entry_at, has_turns, is_dropped, transition, want_of}
use Rattle.version_model.specs.declared.work.Work.{Work}
use Rattle.wire_msg.specs.declared.body.Body.TheVariants as body
use Rattle.wire_msg.specs.declared.packet.Do.TheVariants.{Deliver}
use Rattle.wire_msg.specs.declared.packet.Packet.{Packet}
use Rattle.wire_msg.specs.declared.tokens.Want.{Want}
use Rattle.xfs_base.specs.Blocks.{slot_of}
use Rattle.xfs_base.specs.declared.block.BlockId.{BlockId}
use Rattle.xfs_base.specs.declared.node.NodeId.{NodeId}
use Rattle.xfs_base.specs.declared.node.NodeId.TheVariants.{Client, Manager}
use Rattle.xfs_base.specs.declared.setup.Setup.{Setup}
use Rattle.xfs_base.specs.declared.token.Mode.TheVariants.{Own}
use Rattle.xfs_base.specs.Limits.{all_slots}
use Rattle.xfs_base.specs.Steps.{Stepped, still}
use Rattle.quiet_nodes.specs.Scene.{manager_at, manager_of_slot, managing_at, phase_at, put_number}
use Rattle.quiet_nodes.proofs.Slots.{managed_phase, set_phase}

-- the want of a block that nobody else is believed to hold is granted
pub want_owns : (z : SlotState) (c inc req end : ℕ) (b : BlockId) → is_dropped z (want_of c b inc req 0 Own) end ≡ false → others z.beliefs b c false ≡ []
    → has_turns z.turn 1 ≡ true
    → transition z (input.Want (want_of c b inc req 0 Own) end) ≡ record {
      state = record z { beliefs = beliefs_own z.beliefs (holder b c); turn = z.turn + 1 };
      outs = out.Grant c b (stamp z.epoch (z.turn + 1)) inc req Own (entry_at z b) ∷ [];
    }
want_owns z c inc req end b taken alone room = simp (taken, alone, room)

module _ (setup : Setup) (works : NodeId → List Work) (j i : ℕ) (slots : ℕ → SlotState) (within : i < 8) (own : (manager_of_slot setup works i == j) ≡ true) where
  abbrev its_table : Table
  its_table = map (phase_at setup works slots j) all_slots

  -- what a slot makes of an input, its manager does
  slot_turns : (event : SlotPhase → Stepped SlotPhase Effect) (z : SlotState) (outs : List Effect)
      → event (managed (slots i)) ≡ record { state = managed z; outs = outs }
      → with_slots (managing_at setup works j slots) (at_slot its_table i event)
      ≡ record { state = managing_at setup works j (put_number slots i z); outs = outs }
  slot_turns event z outs is =
      ap (λ o. with_slots (managing_at setup works j slots) (table.in_slot its_table i event o)) (managed_phase setup works j slots i within own)
      ∙ ap (λ d. with_slots (managing_at setup works j slots) (table.put_at its_table i d)) is
      ∙ ap (λ t. with_slots (managing_at setup works j slots) (record { state = t; outs = outs })) (set_phase setup works j slots z i within own)

  -- a packet that it takes for the slot
  pub slot_comes : (packet : Packet) (event : SlotPhase → Stepped SlotPhase Effect) (z : SlotState) (outs : List Effect)
      → phase_has_room (manager_at setup works j slots).phase ≡ true
      → manager_deliver (peers_of setup) (managing.Serving (managing_at setup works j slots)) packet
      ≡ serves (with_slots (managing_at setup works j slots) (at_slot its_table i event))
      → event (managed (slots i)) ≡ record { state = managed z; outs = outs }
      → manager_step (manager_at setup works j slots) (Deliver packet)
      ≡ record { node = manager_at setup works j (put_number slots i z); packets = packets_of (Manager j) outs; acts = acts_of (Manager j) outs }
  unfolding happens
  slot_comes packet event z outs room delivers is =
      let serves_now : Serving = managing_at setup works j slots in
      ap (seen (manager_at setup works j slots))
      (ap (λ t. cond t (manager_deliver (peers_of setup) (managing.Serving serves_now) packet) (still (managing.Serving serves_now))) room
      ∙ delivers
      ∙ ap serves (slot_turns event z outs is))

module _ (setup : Setup) (works : NodeId → List Work) (j c clock : ℕ) (slots : ℕ → SlotState) (want : Want) (within : slot_of want.block.ino.0 < 8)
    (own : (manager_of_slot setup works (slot_of want.block.ino.0) == j) ≡ true) (room : phase_has_room (manager_at setup works j slots).phase ≡ true)
    (there : has_node (peers_of setup) (Client c) ≡ true) where
  abbrev i : ℕ
  i = slot_of want.block.ino.0

  abbrev packet : Packet
  packet = record { from = Client c; to = Manager j; clock = clock; body = body.Want want }

  abbrev serves_now : Serving
  serves_now = managing_at setup works j slots

  well_formed : is_well_formed (peers_of setup) packet ≡ true
  well_formed = ap (λ t. t && true) there

  deliver_is : manager_deliver (peers_of setup) (managing.Serving serves_now) packet
      ≡ serves (with_slots serves_now (at_slot serves_now.slots i (λ p. tokens.on_want p c want)))
  unfolding manager_deliver serving.serving_hear serving.on_want table.on_want
  deliver_is =
      ap (λ t. cond t (serves (serving.serving_hear serves_now setup.clients packet)) (still (managing.Serving serves_now))) well_formed

  -- a Want that comes
  module _ (z : SlotState) (outs : List Out)
      (is : transition (slots i) (input.Want (want_of c want.block want.inc want.req want.again want.mode) want.end) ≡ record { state = z; outs = outs }) where
    slot_is : tokens.on_want (managed (slots i)) c want ≡ record { state = managed z; outs = flat_map (tokens_say i (slots i).epoch) outs }
    unfolding tokens.on_want tokens.tokens_take
    slot_is = ap (λ (d : Stepped SlotState Out). record { state = managed d.state; outs = flat_map (tokens_say i (slots i).epoch) d.outs }) is

    pub want_comes : manager_step (manager_at setup works j slots) (Deliver packet) ≡ record {
      node = manager_at setup works j (put_number slots i z);
      packets = packets_of (Manager j) (flat_map (tokens_say i (slots i).epoch) outs);
      acts = acts_of (Manager j) (flat_map (tokens_say i (slots i).epoch) outs);
    }
    want_comes =
        slot_comes setup works j i slots within own packet (λ p. tokens.on_want p c want) z (flat_map (tokens_say i (slots i).epoch) outs) room deliver_is slot_is
