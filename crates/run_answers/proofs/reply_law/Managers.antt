-- A manager that serves answers the cleaner in the event in which it asks, and refuses what is gone.
use Rattle.std.proofs.Common.{◌≡◌, ℕ, Bool, true, false, cond, List, [], ◌∷◌, Option, Some, None, slice_get, refl, sym, subst, ◌∙◌}
use Rattle.core_world.specs.AnyNode.{any_step}
use Rattle.core_world.specs.declared.any_node.AnyNode.TheVariants as any
use Rattle.manager_node.specs.declared.manager.Manager.{Manager}
use Rattle.manager_node.specs.declared.phase.Phase.{Phase}
use Rattle.manager_node.specs.declared.phase.Phase.TheVariants.{Serving as Serves}
use Rattle.manager_node.specs.Events.{happens, manager_deliver, on_packet}
use Rattle.manager_node.specs.Phases.{Went_to, lasting_of, phase_has_room}
use Rattle.manager_serving.specs.Checkpoints.{Done}
use Rattle.manager_serving.specs.declared.serving.Serving.{Serving}
use Rattle.manager_serving.specs.Serving.{ask_for_maps, client_in, serving_hear, on_body, on_check, on_usage_ask, on_want, with_slots}
use Rattle.manager_slots.specs.declared.slot_phase.SlotPhase.{SlotPhase}
use Rattle.manager_slots.specs.declared.slot_phase.SlotPhase.TheVariants as phase
use Rattle.manager_slots.specs.SlotTable as table
use Rattle.manager_slots.specs.SlotTable.{in_slot, usage_in}
use Rattle.manager_slots.specs.Tokens as tokens
use Rattle.node_base.specs.declared.effects.Effect.{Effect}
use Rattle.node_base.specs.declared.effects.Effect.TheVariants.{Send}
use Rattle.node_base.specs.Effects.{packets_of}
use Rattle.node_base.specs.Known.{names_known_groups}
use Rattle.node_base.specs.Shape.{is_well_formed}
use Rattle.token_manager.specs.declared.output.Out.TheVariants as out
use Rattle.token_manager.specs.Transition.{entry_at, is_place}
use Rattle.wire_msg.specs.declared.body.Body.{Body}
use Rattle.wire_msg.specs.declared.body.Body.TheVariants as body
use Rattle.wire_msg.specs.declared.cleaning.Check.{Check}
use Rattle.wire_msg.specs.declared.cleaning.UsageAsk.{UsageAsk}
use Rattle.wire_msg.specs.declared.packet.Do.TheVariants.{Deliver}
use Rattle.wire_msg.specs.declared.packet.Packet.{Packet}
use Rattle.wire_msg.specs.declared.tokens.Want.{Want}
use Rattle.xfs_base.proofs.Booleans.{by_test, contrary}
use Rattle.xfs_base.specs.Blocks.{slot_of}
use Rattle.xfs_base.specs.declared.node.NodeId.{NodeId}
use Rattle.xfs_base.specs.declared.node.NodeId.TheVariants as nodes
use Rattle.xfs_base.specs.Steps.{still}
use Rattle.headline.specs.ManagerReplies.{IsChecked, IsCounted, IsFound, IsRefused, ManagerReplies, TellsAsker}

module _ (s : Serving) where
  abbrev sent : List Effect → List Packet
  sent outs = packets_of (nodes.Manager s.lasting.number) outs

  -- ---- each question, by how the slot stands

  check_so : (check : Check) (slot : ℕ) (p : Option SlotPhase)
      → IsChecked s (sent (with_slots s (in_slot s.slots slot (λ q. tokens.on_check q check) p)).outs) check p
  unfolding tokens.on_check tokens.tokens_answer
  check_so check slot None = refl
  check_so check slot (Some (phase.Active active)) = by (is_place (entry_at active.slot check.block).place check.place)
    where
      by : (here : Bool)
          → IsFound s
          (sent (Send nodes.Cleaner (tokens.checked check active.slot.epoch (cond here (out.Live (entry_at active.slot check.block)) out.Dead)) ∷ [])) check active here
      by true = refl
      by false = refl
  check_so check slot (Some (phase.Away epoch)) = refl
  check_so check slot (Some (phase.Taking taking)) = refl
  check_so check slot (Some (phase.Broken epoch seg)) = refl

  usage_so : (asked : UsageAsk) (p : Option SlotPhase) → IsCounted s (sent (usage_in asked p)) asked p
  unfolding tokens.on_usage_ask
  usage_so asked None = refl
  usage_so asked (Some (phase.Active active)) = refl
  usage_so asked (Some (phase.Away epoch)) = refl
  usage_so asked (Some (phase.Taking taking)) = refl
  usage_so asked (Some (phase.Broken epoch seg)) = refl

  want_so : (want : Want) (client slot : ℕ) (p : Option SlotPhase)
      → IsRefused s (sent (with_slots s (in_slot s.slots slot (λ q. tokens.on_want q client want) p)).outs) want (Some client) p
  unfolding tokens.on_want
  want_so want client slot None = tt
  want_so want client slot (Some (phase.Active active)) = tt
  want_so want client slot (Some (phase.Away epoch)) = tt
  want_so want client slot (Some (phase.Taking taking)) = tt
  want_so want client slot (Some (phase.Broken epoch seg)) = refl

  wants_so : (want : Want) (asker : Option ℕ) → IsRefused s (sent (on_want s asker want).outs) want asker (slice_get s.slots (slot_of want.block.ino.0))
  unfolding on_want table.on_want
  wants_so want None = tt
  wants_so want (Some client) = want_so want client (slot_of want.block.ino.0) (slice_get s.slots (slot_of want.block.ino.0))

  -- ---- all packets

  answered : (clients : ℕ) (asker : NodeId) (b : Body) → TellsAsker s (sent (on_body s clients asker b).outs) asker b
  unfolding on_check table.on_check on_usage_ask table.on_usage_ask
  answered clients asker (body.Check check) = check_so check (slot_of check.block.ino.0) (slice_get s.slots (slot_of check.block.ino.0))
  answered clients asker (body.UsageAsk asked) = usage_so asked (slice_get s.slots asked.slot)
  answered clients asker (body.Want want) = wants_so want (client_in asker)
  answered clients asker _ = tt

  serving_hear_so : (clients : ℕ) (packet : Packet) → names_known_groups s.maps packet.body ≡ true
      → TellsAsker s (sent (serving_hear s clients packet).outs) packet.from packet.body
  unfolding serving_hear
  serving_hear_so clients packet known =
      by_test (λ (d : Done). TellsAsker s (sent d.outs) packet.from packet.body) (names_known_groups s.maps packet.body)
      (on_body s clients packet.from packet.body) (ask_for_maps s) (λ _. answered clients packet.from packet.body) (λ fails. contrary (sym fails ∙ known))

pub manager_answers : (m : Manager) (packet : Packet) → phase_has_room m.phase ≡ true → is_well_formed m.peers packet ≡ true
    → ManagerReplies m packet (any_step (any.Manager m) (Deliver packet)).packets
unfolding happens manager_deliver
manager_answers m packet room well s serves known =
    subst P (sym serves)
    (by_test Q (phase_has_room (Serves s)) (manager_deliver m.peers (Serves s) packet) (still (Serves s))
    (λ _.
    by_test Q (is_well_formed m.peers packet) (on_packet m.peers (Serves s) packet) (still (Serves s)) (λ _. serving_hear_so s m.peers.clients packet known)
    (λ fails. contrary (sym fails ∙ well)))
    (λ fails. contrary (sym fails ∙ subst (λ (p : Phase). phase_has_room p ≡ true) serves room)))
  where
    Q : Went_to → Type 0
    Q w = TellsAsker s (packets_of (nodes.Manager s.lasting.number) w.outs) packet.from packet.body

    P : Phase → Type 0
    P p =
        TellsAsker s
        (packets_of (nodes.Manager (lasting_of p).number) (cond (phase_has_room p) (manager_deliver m.peers p packet) (still p)).outs) packet.from packet.body
