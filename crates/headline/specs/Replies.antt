-- A question is answered in the event in which it comes.
use Rattle.std.specs.Prelude.{◌≡◌, ℕ, true, Some, slice_get}
use Rattle.core_world.specs.AnyNode.{any_step}
use Rattle.core_world.specs.declared.any_node.AnyNode.{AnyNode}
use Rattle.core_world.specs.declared.any_node.AnyNode.TheVariants as any
use Rattle.node_base.specs.Known.{names_known_groups}
use Rattle.node_base.specs.Shape.{is_well_formed}
use Rattle.wire_msg.specs.declared.packet.Do.{Do}
use Rattle.wire_msg.specs.declared.packet.Do.TheVariants.{Deliver}
use Rattle.wire_msg.specs.NodeStep.{NodeStep}
use Rattle.world_base.specs.declared.estate.Estate.{Estate}
use Rattle.world_base.specs.declared.event.Event.{Event}
use Rattle.world_base.specs.Events.{node_of, what_of}
use Rattle.headline.specs.CleanerReplies.{CleanerReplies}
use Rattle.headline.specs.ClientRefusals.{ClientRefusals}
use Rattle.headline.specs.ClientReplies.{ClientReplies}
use Rattle.headline.specs.Dues.{has_counters}
use Rattle.headline.specs.ManagerReplies.{ManagerReplies}
use Rattle.headline.specs.ManagerTakes.{ManagerTakes}
use Rattle.headline.specs.Moments.{moment, node_named}
use Rattle.headline.specs.RegistryReplies.{RegistryReplies}
use Rattle.headline.specs.ServerReplies.{ServerReplies}
use Rattle.headline.specs.Shelves.{ShelfChanges}

-- the packet that comes is answered: one that is well formed, and names no group that a server doesn't know
abbrev pub IsReplied : AnyNode → Do → NodeStep AnyNode → Type 0
IsReplied (any.Client c) (Deliver packet) s = is_well_formed c.peers packet ≡ true → ClientReplies c packet s × ClientRefusals c packet s
IsReplied (any.Server v) (Deliver packet) s =
    is_well_formed v.peers packet ≡ true → names_known_groups v.maps packet.body ≡ true → ServerReplies v packet.from s packet.body
IsReplied (any.Manager m) (Deliver packet) s = is_well_formed m.peers packet ≡ true → ManagerReplies m packet s.packets × ManagerTakes m packet s
IsReplied (any.Registry r) (Deliver packet) s = is_well_formed r.peers packet ≡ true → RegistryReplies r packet.from s packet.body
IsReplied (any.Cleaner c) (Deliver packet) s = is_well_formed c.peers packet ≡ true → CleanerReplies c packet s
IsReplied _ what s = Unit {0}

-- a server's shelf stays, or changes as it is asked to
abbrev pub KeepsShelf : AnyNode → Do → AnyNode → Type 0
KeepsShelf (any.Server v) what (any.Server u) = ShelfChanges v what u.shelf
KeepsShelf (any.Server v) what _ = ⊥
KeepsShelf _ what after = Unit {0}

-- So it is in each event of a node of any kind.
pub record RepliesAt (node : AnyNode) (what : Do) : Type 0 where
  -- where its counters are far from their ends
  pub replied : has_counters node ≡ true → IsReplied node what (any_step node what)
  pub shelf : KeepsShelf node what (any_step node what).node

-- and so in each event of a run
abbrev pub AnswersQuestions : Estate AnyNode → Type 0
AnswersQuestions e =
    (count : ℕ) (event : Event) → slice_get e.events count ≡ Some event → (before : AnyNode) → node_named (moment e count) (node_of event) ≡ Some before
    → RepliesAt before (what_of event)
