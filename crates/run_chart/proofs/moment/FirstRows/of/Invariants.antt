use Rattle.std.proofs.Common.{◌≡◌, take}
use Rattle.wire_msg.specs.declared.packet.Packet.{Packet}
use Rattle.run_chart.specs.Marks.{row_sent}
use Rattle.run_chart.specs.Moments.{row_found}
use Rattle.run_chart.proofs.moment.FirstRows.of.Given as goal

-- of the rows so far it gives the first
abbrev pub invariant-loop-place : goal.invariant-loop-place
invariant-loop-place l = (packet : Packet) → row_found l.table packet ≡ row_sent (take l.place l.rows) packet
