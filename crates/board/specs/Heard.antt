-- What the registry takes notice of.
use Rattle.std.specs.Prelude.{Bool, true, false}
use Rattle.wire_msg.specs.declared.body.Body.{Body}
use Rattle.wire_msg.specs.declared.body.Body.TheVariants.{Hello, CkptDone}
use Rattle.wire_msg.specs.declared.packet.Do.{Do}
use Rattle.wire_msg.specs.declared.packet.Do.TheVariants.{Begin, Deliver, Tick}

-- the registry takes notice of such a packet
abbrev pub is_told : Body → Bool
is_told (Hello hello) = true
is_told (CkptDone done) = true
is_told _ = false

-- such an event changes the registry, or has it send
abbrev pub is_heard : Do → Bool
is_heard Begin = true
is_heard (Deliver packet) = is_told packet.body
is_heard Tick = true
