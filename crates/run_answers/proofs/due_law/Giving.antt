-- The registry can give each slot anew while the version of its maps is far from its end: no epoch is above the version.
use Rattle.std.proofs.Common.{◌≡◌, ◌≤◌, ◌<◌, ◌-◌, ℕ, nat_lt, ◌&&◌, true, Some, sym, ap, subst, ◌∙◌, arith}
use Rattle.std.proofs.lemmas.Bool.{leb-true, lt-ltb}
use Rattle.std.proofs.Math.Nat.{mod-eq_of_lt}
use Rattle.core_world.specs.AnyNode.{any_start, any_step}
use Rattle.core_world.specs.declared.any_node.AnyNode.{AnyNode}
use Rattle.core_world.specs.declared.any_node.AnyNode.TheVariants as any
use Rattle.manager_map.specs.Slots.{entry_at}
use Rattle.node_base.specs.Room.{has_room}
use Rattle.node_slots.specs.node_tie.RegistryEvents.{RegistryEventGoes, RegistrySound, RegistryStarts}
use Rattle.registry.specs.Board.{can_move}
use Rattle.registry.specs.Slots.{entry_of}
use Rattle.registry_node.specs.declared.node.RegistryNode.{RegistryNode}
use Rattle.headline.specs.Moments.{moment, node_named}
use Rattle.wire_msg.specs.declared.packet.Do.{Do}
use Rattle.world_base.specs.declared.estate.Estate.{Estate}
use Rattle.world_base.specs.Events.{what_of}
use Rattle.world_base.specs.Items.{items_of}
use Rattle.xfs_base.specs.Blocks.{slot_of}
use Rattle.xfs_base.specs.declared.node.NodeId.{NodeId}
use Rattle.xfs_base.specs.declared.node.NodeId.TheVariants as nodes
use Rattle.xfs_base.specs.Limits.{counter_room, slot_count, u32_end}
use Rattle.run_answers.proofs.standing_law.Moments.{each_stands}

-- no epoch of the registry's slots is above the version of its maps
abbrev pub IsSound : AnyNode → Type 0
IsSound (any.Registry r) = RegistrySound r
IsSound _ = Unit {0}

module _ (starts : RegistryStarts) (goes : RegistryEventGoes) where
  first_sound : (e : Estate AnyNode) (name : NodeId) → IsSound (any_start name e.script.setup (items_of e.script.lines name))
  first_sound e (nodes.Client k) = tt
  first_sound e (nodes.Manager k) = tt
  first_sound e (nodes.Server k) = tt
  first_sound e nodes.Cleaner = tt
  first_sound e nodes.Registry = (starts 0 (omega arith) e.script.setup (items_of e.script.lines nodes.Registry)).sound

  turn_sound : (x : AnyNode) (what : Do) → IsSound x → IsSound (any_step x what).node
  turn_sound (any.Client c) what sound = tt
  turn_sound (any.Manager m) what sound = tt
  turn_sound (any.Server v) what sound = tt
  turn_sound (any.Cleaner c) what sound = tt
  turn_sound (any.Registry r) what sound = (goes 0 (omega arith) r sound what).board.sound

  pub sound_at : (e : Estate AnyNode) (count : ℕ) (name : NodeId) (x : AnyNode) → node_named (moment e count) name ≡ Some x → IsSound x
  sound_at e = each_stands (λ name x. IsSound x) e (first_sound e) (λ count event happens x was sound. turn_sound x (what_of event) sound)

  pub can_give : (e : Estate AnyNode) (count slot : ℕ) (r : RegistryNode) → node_named (moment e count) nodes.Registry ≡ Some (any.Registry r)
      → has_room r.board.version ≡ true → slot < slot_count → can_move r.board slot ≡ true
  can_give e count slot r was room within =
      let sound : RegistrySound r = sound_at e count nodes.Registry (any.Registry r) was in
      let far : r.board.version ≤ u32_end - counter_room = leb-true r.board.version (u32_end - counter_room) room in
      let its : slot_of slot ≡ slot = mod-eq_of_lt within in
      let low : (entry_of r.board.entries slot).epoch ≤ r.board.version =
      subst (λ k. (entry_at r.board.entries k).epoch ≤ r.board.version) (sym its) (sound.epochs slot within) in
      ap (λ t. t && (nat_lt r.board.version u32_end && nat_lt (entry_of r.board.entries slot).epoch u32_end)) (lt-ltb slot slot_count within)
      ∙ (ap (λ t. t && nat_lt (entry_of r.board.entries slot).epoch u32_end) (lt-ltb r.board.version u32_end (omega (arith, far)))
      ∙ lt-ltb (entry_of r.board.entries slot).epoch u32_end (omega (arith, far, low)))
