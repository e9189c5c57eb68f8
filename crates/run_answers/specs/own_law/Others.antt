-- Nodes that are no clients act nothing of blocks, and neither fall nor come back.
use Rattle.std.specs.List.{AllByRecursion}
use Rattle.core_world.specs.AnyNode.{any_step}
use Rattle.core_world.specs.declared.any_node.AnyNode.{AnyNode}
use Rattle.core_world.specs.declared.any_node.AnyNode.TheVariants as any
use Rattle.wire_msg.specs.declared.packet.Do.{Do}
use Rattle.headline.specs.Calls.{IsClients}

abbrev pub IsNoClient : AnyNode → Type 0
IsNoClient (any.Client c) = ⊥
IsNoClient _ = Unit {0}

-- So it is in each event.
abbrev pub OthersActNone : Type 0
OthersActNone = (x : AnyNode) (what : Do) → IsNoClient x → AllByRecursion (λ a. IsClients a → ⊥) (any_step x what).acts
