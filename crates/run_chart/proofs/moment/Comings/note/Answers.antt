use Rattle.std.proofs.Common.{◌∷◌, ◌++◌, [], ap, ◌∙◌}
use Rattle.run_chart.specs.Moments.{sent_when}
use Rattle.run_chart.proofs.Moments.{packet_added}
use Rattle.run_chart.proofs.moment.Comings.note.Goals as goal

pub returns : goal.returns
returns c =
    let one = c.args.packet.now in
    packet_added c.args.self.now c.take-packets.new.self (record { packets = c.insert.new.self }) one c.moment_of-moment.result _
    (c.moment_of-moment.ensures ∙ ap sent_when c.as_packet-said.ensures)
    (c.in_ok-push.ensures.ok ∙ ap (λ x. c.take-packets.result ++ x ∷ []) c.in_ok-copy.ensures ∙ ap (λ ps. ps ++ one ∷ []) c.take-packets.ensures.packets)
    c.take-packets.ensures.rest c.in_ok-insert.ensures.updates
