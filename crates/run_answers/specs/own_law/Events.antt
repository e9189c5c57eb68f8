-- What a client acts in one event: for which items, and nothing else.
use Rattle.client_node.specs.declared.client.Client.{Client}
use Rattle.wire_msg.specs.declared.packet.Do.{Do}
use Rattle.headline.specs.Calls.{CallHasItem, EventActs}

-- ---- one event

-- So it is in each event.
abbrev pub EachClientActsForItems : Type 0
EachClientActsForItems = (c : Client) (what : Do) → CallHasItem c.phase → EventActs c what
