-- What a packet makes of a client that serves, by what its body is about.
use Rattle.client_serving.specs.declared.serving.Serving.{Serving}
use Rattle.client_serving.specs.Flights.{on_stored}
use Rattle.client_serving.specs.Packets.{on_ack, on_found, on_missing, on_news, on_poll, on_welcome}
use Rattle.client_serving.specs.Sends.{Done}
use Rattle.wire_msg.specs.declared.body.Body.{Body}
use Rattle.wire_msg.specs.declared.body.Body.TheVariants as body
use Rattle.xfs_base.specs.declared.node.NodeId.{NodeId}
use Rattle.xfs_base.specs.Steps.{still}

-- a body about the maps or the promises; any other changes nothing
abbrev pub on_map_body : Serving → NodeId → Body → Done
on_map_body s from (body.Poll m) = on_poll s from m
on_map_body s from (body.MapNews m) = on_news s m
on_map_body s from (body.Welcome m) = on_welcome s m
on_map_body s from _ = still s

-- a body about the log, its own or one that is read, or about the maps; any other changes nothing
abbrev pub take_log_body : Serving → NodeId → Body → Done
take_log_body s from (body.DeltaAck m) = still (on_ack s m)
take_log_body s from (body.Stored m) = on_stored s m
take_log_body s from (body.Fragment m) = on_found s from m
take_log_body s from (body.Missing m) = on_missing s from m
take_log_body s from other = on_map_body s from other
