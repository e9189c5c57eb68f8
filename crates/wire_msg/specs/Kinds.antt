-- Of which kind something is that happens to a node.
use Rattle.std.specs.Prelude.{Bool, true, false}
use Rattle.wire_msg.specs.declared.packet.Do.{Do}
use Rattle.wire_msg.specs.declared.packet.Do.TheVariants.{Begin, Deliver, Tick}

-- whether the node begins an item
abbrev pub is_begin : Do → Bool
is_begin Begin = true
is_begin (Deliver packet) = false
is_begin Tick = false

-- whether time passes
abbrev pub is_tick : Do → Bool
is_tick Begin = false
is_tick (Deliver packet) = false
is_tick Tick = true
