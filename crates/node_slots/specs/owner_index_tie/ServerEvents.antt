-- A storage server has no part in the small world of one slot's index: it files and drops nothing, and tells nothing of where blocks lie.
use Rattle.std.specs.List.{All}
use Rattle.node_base.specs.declared.effects.Effect.{Effect}
use Rattle.node_base.specs.declared.effects.Effect.TheVariants.{Send, Answer, Lose, Does}
use Rattle.store_nodes.specs.ServerEvents.{takes}
use Rattle.store_nodes.specs.declared.server.Server.{Server}
use Rattle.version_model.specs.declared.act.Act.{Act}
use Rattle.version_model.specs.declared.act.Act.TheVariants.{Filed, Dropped}
use Rattle.wire_msg.specs.declared.body.Body.{Body}
use Rattle.wire_msg.specs.declared.body.Body.TheVariants as body
use Rattle.wire_msg.specs.declared.packet.Do.{Do}

-- it tells nothing of what logs filed, of what managers know of it, of checkpoints, nor of the maps
abbrev pub SaysNothing : Body → Type 0
SaysNothing (body.Deltas m) = ⊥
SaysNothing (body.Report m) = ⊥
SaysNothing (body.Want m) = ⊥
SaysNothing (body.Gave m) = ⊥
SaysNothing (body.Check m) = ⊥
SaysNothing (body.Live m) = ⊥
SaysNothing (body.Dead m) = ⊥
SaysNothing (body.CkptDone m) = ⊥
SaysNothing (body.MapNews m) = ⊥
SaysNothing (body.Welcome m) = ⊥
SaysNothing _ = Unit {0}

-- it files and drops nothing
abbrev pub LeavesLogs : Act → Type 0
LeavesLogs (Filed name) = ⊥
LeavesLogs (Dropped name) = ⊥
LeavesLogs _ = Unit {0}

abbrev pub DoesNothing : Effect → Type 0
DoesNothing (Send to m) = SaysNothing m
DoesNothing (Answer item answer) = Unit {0}
DoesNothing (Lose seg) = Unit {0}
DoesNothing (Does a) = LeavesLogs a

-- Each event of a server is nothing in the small world.
abbrev pub ServerEventGoes : Type 0
ServerEventGoes = (server : Server) (what : Do) → All DoesNothing (takes server what).outs
