-- Commands are compared whole.
use Rattle.std.specs.Prelude.{Bool, true, false, ◌==◌, ◌&&◌, nat_eq, List, [], ◌∷◌}
use Rattle.wire_msg.specs.declared.body.Body.{Body}
use Rattle.wire_msg.specs.declared.body.Body.TheVariants as body
use Rattle.wire_msg.specs.declared.packet.Do.{Do}
use Rattle.wire_msg.specs.declared.packet.Do.TheVariants.{Begin, Deliver, Tick}
use Rattle.wire_msg.specs.declared.packet.Packet.{Packet}
use Rattle.wire_msg.specs.declared.registry.CkptDone.{CkptDone}
use Rattle.wire_msg.specs.declared.registry.Hello.{Hello}
use Rattle.wire_msg.specs.Kinds.{is_begin, is_tick}
use Rattle.xfs_base.specs.Nodes.{same_node}
use Rattle.xfs_base.specs.declared.segment.SegRef.{SegRef}
use Rattle.board.specs.declared.command.Command.{Command}

-- whether two lists have the same items, by a test of items
abbrev pub same_lists : {X : Type 0} → (X → X → Bool) → List X → List X → Bool
same_lists same [] [] = true
same_lists same [] (y ∷ ys) = false
same_lists same (x ∷ xs) [] = false
same_lists same (x ∷ xs) (y ∷ ys) = same x y && same_lists same xs ys

abbrev pub same_segment : SegRef → SegRef → Bool
same_segment a b =
    ((a.name.log.0 == b.name.log.0) && (a.name.seq == b.name.seq))
    && (((a.name.pass.inc == b.name.pass.inc) && (a.name.pass.att == b.name.pass.att)) && (a.group == b.group))

abbrev pub same_hello : Hello → Hello → Bool
same_hello a b = (a.inc == b.inc) && (a.ask == b.ask)

abbrev pub same_done : CkptDone → CkptDone → Bool
same_done a b =
    ((a.slot == b.slot) && (a.epoch == b.epoch))
    && ((a.ask == b.ask) && (same_lists same_segment a.parts b.parts && same_lists nat_eq a.horizon b.horizon))

-- two bodies that the registry takes notice of are the same
abbrev pub is_hello : Hello → Body → Bool
is_hello a (body.Hello b) = same_hello a b
is_hello a _ = false

abbrev pub is_done : CkptDone → Body → Bool
is_done a (body.CkptDone b) = same_done a b
is_done a _ = false

abbrev pub same_body : Body → Body → Bool
same_body (body.Hello a) b = is_hello a b
same_body (body.CkptDone a) b = is_done a b
same_body _ b = false

abbrev pub same_packet : Packet → Packet → Bool
same_packet a b = same_node a.from b.from && (same_node a.to b.to && ((a.clock == b.clock) && same_body a.body b.body))

abbrev pub is_delivery : Packet → Do → Bool
is_delivery a Begin = false
is_delivery a (Deliver b) = same_packet a b
is_delivery a Tick = false

abbrev pub same_do : Do → Do → Bool
same_do Begin b = is_begin b
same_do (Deliver a) b = is_delivery a b
same_do Tick b = is_tick b

abbrev pub same_command : Command → Command → Bool
same_command a b = same_do a.what b.what && (a.item == b.item)
