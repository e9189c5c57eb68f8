use Rattle.std.proofs.Common.{◌≡◌, subst}
use Rattle.wire_msg.specs.declared.packet.Do.TheVariants.{Deliver}
use Rattle.wire_msg.specs.declared.packet.Packet.{Packet}
use Rattle.live_links.specs.Ends.{Received}
use Rattle.live_links.proofs.cell.Cell.take.Goals as goal

same_packet : (x y : Packet) → Deliver x ≡ Deliver y → x ≡ y
same_packet x y e = cc

pub turn-requires-clause-received : goal.turn-requires-clause-received
turn-requires-clause-received g c x e =
    let l = c.args.letter in
    subst (λ (y : Packet). Received c.args.self.ins (record { from = l.from; number = l.number; packet = y })) (same_packet l.packet x e) c.requires
