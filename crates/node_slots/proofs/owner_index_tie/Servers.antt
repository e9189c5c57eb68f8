-- A storage server has no part in the small world of one slot's index.
use Rattle.std.proofs.lemmas.List.Elements.{All-from_recursion}
use Rattle.fragment_store.specs.ShelfState.{ShelfState}
use Rattle.node_base.specs.declared.effects.Effect.{Effect}
use Rattle.node_base.specs.declared.effects.Effect.TheVariants.{Answer, Does, Lose, Send}
use Rattle.store_nodes.specs.declared.server.Server.{Server}
use Rattle.store_nodes.specs.ServerEvents.{takes}
use Rattle.wire_msg.specs.declared.body.Body.{Body}
use Rattle.wire_msg.specs.declared.packet.Do.{Do}
use Rattle.xfs_base.proofs.Alls.{all_weaker}
use Rattle.xfs_base.specs.declared.node.NodeId.{NodeId}
use Rattle.node_moves.proofs.server_moves.Keeping.{Says, event_says}
use Rattle.node_moves.proofs.server_moves.Moves.{Sent}
use Rattle.node_moves.proofs.server_moves.Moves.Sent.{Greeted}
use Rattle.node_slots.specs.owner_index_tie.ServerEvents.{DoesNothing, SaysNothing, ServerEventGoes}

abbrev SendsNothing : NodeId → Body → Type 0
SendsNothing to said = SaysNothing said

says_nothing : (server : Server) (what : Do) (s : ShelfState) (to : NodeId) (said : Body) → Sent server.shelf what s to said → SaysNothing said
says_nothing server what s to said (Greeted ask) = tt
says_nothing server what s to said _ = tt

does_nothing : (e : Effect) → Says SendsNothing e → DoesNothing e
does_nothing (Send to said) nothing = nothing
does_nothing (Answer item answer) nothing = tt
does_nothing (Lose seg) nothing = absurd nothing
does_nothing (Does act) nothing = absurd nothing

pub server_event_goes : ServerEventGoes
server_event_goes server what =
    All-from_recursion DoesNothing (takes server what).outs
    (all_weaker (Says SendsNothing) DoesNothing does_nothing (takes server what).outs (event_says server what SendsNothing (says_nothing server what)))
