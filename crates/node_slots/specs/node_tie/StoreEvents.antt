-- What all packets of an event say, and that its acts change no history.
use Rattle.std.specs.Prelude.{List, All}
use Rattle.node_slots.specs.node_tie.Sight.{ServerSends}
use Rattle.store_nodes.specs.declared.server.Server.{Server}
use Rattle.store_nodes.specs.ServerEvents.{server_step}
use Rattle.token_law.specs.Owed.{IsNeutral}
use Rattle.version_model.specs.declared.act.Act.{Act}
use Rattle.wire_msg.specs.declared.body.Body.{Body}
use Rattle.wire_msg.specs.declared.packet.Do.{Do}
use Rattle.wire_msg.specs.declared.packet.Packet.{Packet}

-- all these packets have such bodies
abbrev pub PacketsSay : (Body → Type 0) → List Packet → Type 0
PacketsSay P packets = All (λ (p : Packet). P p.body) packets

-- none of these acts changes a history
abbrev pub AllNeutral : List Act → Type 0
AllNeutral acts = All IsNeutral acts

-- Servers send what their kind sends, whatever happens to them, and no act of theirs changes a history.
abbrev pub ServersSay : Type 0
ServersSay = (node : Server) (what : Do) → PacketsSay ServerSends (server_step node what).packets × AllNeutral (server_step node what).acts
