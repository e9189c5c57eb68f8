use Rattle.std.proofs.Common.{◌≡◌, take}
use Rattle.std.specs.List.{list_any}
use Rattle.wire_msg.specs.declared.packet.Packet.{Packet}
use Rattle.run_chart.specs.Marks.{is_coming}
use Rattle.run_chart.specs.Moments.{is_there}
use Rattle.run_chart.proofs.moment.Comings.of.Given as goal

-- it has what came by the events so far
abbrev pub invariant-loop-event : goal.invariant-loop-event
invariant-loop-event l = (packet : Packet) → is_there l.table packet ≡ list_any (is_coming packet) (take l.event-index l.events)
