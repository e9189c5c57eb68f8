-- What each packet, and time, make of a client that serves: one definition for each, named for it.
use Rattle.std.specs.Prelude.{ℕ, Bool, option_map, ◌==◌, ◌&&◌, not, nat_lt, nat_le, if◌then◌else◌, List, [], ◌∷◌, ◌++◌, Option, Some, None}
use Rattle.std.specs.List.{flat_map}
use Rattle.client_log.specs.declared.input.In.TheVariants as log_in
use Rattle.client_call.specs.Reads.{Heard, block_read, hear_reading, fetch_again, reading_in, value_at}
use Rattle.client_serving.specs.declared.serving.Serving.{Serving}
use Rattle.client_serving.specs.Flights.{held_at, serving_write, on_stored}
use Rattle.client_serving.specs.Follow.{serving_follow, hand, take_back}
use Rattle.client_serving.specs.Grants.{send_supply, is_stamp, is_want}
use Rattle.client_serving.specs.Reads.{ends_reading, with_reading, loses}
use Rattle.client_serving.specs.Sends.{Done, gives, gave, report}
use Rattle.delta_feed.specs.Transition.{acknowledged, new_epoch}
use Rattle.log_owner.specs.Promised.{managers_set}
use Rattle.log_owner.specs.Sending.{hello, push_all}
use Rattle.node_base.specs.Asking.{next_ask, draw}
use Rattle.node_base.specs.declared.effects.Effect.{Effect}
use Rattle.node_base.specs.Known.{names_known_groups}
use Rattle.node_base.specs.Maps.{fits, is_older, maps_take}
use Rattle.node_base.specs.Room.{has_long_room}
use Rattle.segment_reading.specs.declared.reading.Next.{Next}
use Rattle.segment_reading.specs.declared.reading.Next.TheVariants as next
use Rattle.segment_reading.specs.declared.target.BlockAt.{BlockAt}
use Rattle.stripe_code.specs.declared.round.Told.{Told}
use Rattle.stripe_code.specs.declared.round.Told.TheVariants as told
use Rattle.group_map.specs.GroupMapState.{GroupMapState}
use Rattle.token_client.specs.declared.input.In.TheVariants as tokens
use Rattle.token_client.specs.declared.output.Out.{Out}
use Rattle.token_client.specs.State.{TokensState, epoch_of}
use Rattle.token_client.specs.Transition.{on_forwarded, on_recalled, on_promise}
use Rattle.wire_msg.specs.declared.body.Body.{Body}
use Rattle.wire_msg.specs.declared.body.Body.TheVariants as body
use Rattle.wire_msg.specs.declared.deltas.DeltaAck.{DeltaAck}
use Rattle.wire_msg.specs.declared.deltas.Poll.{Poll}
use Rattle.wire_msg.specs.declared.packet.Packet.{Packet}
use Rattle.wire_msg.specs.declared.registry.News.{News}
use Rattle.wire_msg.specs.declared.registry.Welcome.{Welcome}
use Rattle.wire_msg.specs.declared.storage.Found.{Found}
use Rattle.wire_msg.specs.declared.storage.Missing.{Missing}
use Rattle.wire_msg.specs.declared.tokens.Forward.{Forward}
use Rattle.wire_msg.specs.declared.tokens.Gone.{Gone}
use Rattle.wire_msg.specs.declared.tokens.Grant.{Grant}
use Rattle.wire_msg.specs.declared.tokens.Recall.{Recall}
use Rattle.wire_msg.specs.declared.tokens.Supply.{Supply}
use Rattle.xfs_base.specs.Blocks.{slot_of}
use Rattle.xfs_base.specs.declared.news.SlotNews.{SlotNews}
use Rattle.xfs_base.specs.declared.node.NodeId.{NodeId}
use Rattle.xfs_base.specs.declared.node.NodeId.TheVariants as node
use Rattle.xfs_base.specs.Modes.{is_own}
use Rattle.xfs_base.specs.Steps.{Stepped, still, saying, steps}
use Rattle.xfs_base.specs.Limits.{slot_count}

-- ---- tokens

-- Grant: a manager grants a block. One whose version has no room for a write is not taken.
unfoldable pub on_grant : Serving → Grant → Done
on_grant s g =
    if is_own g.mode && not (has_long_room g.entry.ver) then still s
    else hand s (tokens.Granted g.block g.stamp g.inc g.req g.mode g.entry)

-- Supply: another client supplies a block.
unfoldable pub on_supply : Serving → Supply → Done
on_supply s p = hand s (tokens.Supplied p.block p.stamp p.inc p.req p.ver p.value)

abbrev pub supplied_by : Serving → Forward → Stepped TokensState Out → Done
supplied_by s f taken = gives (record s { tokens = taken.state }) (flat_map (send_supply f) taken.outs)

-- Forward: the block is supplied to the client that wants it.
unfoldable pub on_forward : Serving → Forward → Done
on_forward s f = supplied_by s f (on_forwarded s.tokens f.block f.stamp f.ver)

-- where the tokens answer again, it is said again that the block was given up
abbrev pub again : Serving → Recall → List Out → List Effect
again s r [] = []
again s r (o ∷ outs) = gave s r.block r.stamp ∷ []

abbrev pub says_again : Serving → Recall → Stepped TokensState Out → Done
says_again s r taken = (let t = record s { tokens = taken.state } in gives t (again t r taken.outs))

-- Recall: a manager takes a block back. One that was given up before is said to be so again.
unfoldable pub on_recall : Serving → Recall → Done
on_recall s r =
    if is_stamp (held_at s r.block).stamp r.stamp
    then says_again s r (on_recalled s.tokens r.block r.stamp r.keep)
    else take_back s r.block r.stamp r.keep

-- whether it is the open want that can't be served, in the promised epoch
abbrev pub is_gone : Serving → Gone → Bool
is_gone s g =
    (epoch_of s.tokens.epochs (slot_of g.block.ino.0) == g.epoch) &&
    ((g.inc == s.lasting.inc) && is_want (option_map (λ want. want.req) (held_at s g.block).want) g.req)

-- Gone: a manager can't serve the block, and the call is answered so.
unfoldable pub on_gone : Serving → Gone → Done
on_gone s g = if is_gone s g then loses s g.block g.seg else still s

abbrev pub is_acked : Serving → DeltaAck → Bool
is_acked s a = nat_lt a.slot slot_count && (epoch_of s.tokens.epochs a.slot == a.epoch)

-- DeltaAck: a manager has applied the log.
unfoldable pub on_ack : Serving → DeltaAck → Serving
on_ack s a = if is_acked s a then record s { feed = acknowledged s.feed a.slot a.applied } else s

-- ---- fragments

abbrev pub end_fetch : Serving → BlockAt → Next → Done
end_fetch s wanted next.Again = hand s (tokens.Reask wanted.block)
end_fetch s wanted (next.Read segment) = hand s (tokens.Fetched wanted.block (value_at segment wanted.item))
end_fetch s wanted next.Wait = still s
end_fetch s wanted next.Ask = still s
end_fetch s wanted next.Lost = still s

abbrev pub told_at : Serving → Option BlockAt → Heard → Done
told_at s None h = still s
told_at s (Some wanted) h = end_fetch (with_reading s h.reading) wanted h.next

unfoldable pub told_by : Serving → ℕ → ℕ → Told → Done
told_by s server ask t = told_at s (block_read (reading_in s.call)) (hear_reading (reading_in s.call) s.maps.groups ask server t)

-- what a server tells in answer to a fetch
abbrev pub on_told : Serving → NodeId → ℕ → Told → Done
on_told s (node.Server server) ask t = told_by s server ask t
on_told s (node.Client n) ask t = still s
on_told s (node.Manager n) ask t = still s
on_told s node.Cleaner ask t = still s
on_told s node.Registry ask t = still s

-- Fragment, Missing: in answer to a fetch.
abbrev pub on_found : Serving → NodeId → Found → Done
on_found s from f = on_told s from f.ask (told.Held f.fragment)

abbrev pub on_missing : Serving → NodeId → Missing → Done
on_missing s from m = on_told s from m.ask (told.Missing m.generation)

-- ---- promises

-- the feed tells a new manager all from the base on
unfoldable pub serving_renew : Serving → ℕ → ℕ → Serving
serving_renew s slot epoch = if nat_lt (epoch_of s.tokens.epochs slot) epoch then record s { feed = new_epoch s.feed slot } else s

abbrev pub promised_by : Serving → ℕ → ℕ → ℕ → Stepped Serving Out
promised_by s slot epoch manager =
    (let r = on_promise s.tokens slot epoch in
    record { state = ends_reading (record s { managers = managers_set s.managers slot manager; tokens = r.state }); outs = r.outs })

-- the slot is promised to this epoch of this manager; what the tokens say
unfoldable pub serving_promise : Serving → ℕ → ℕ → ℕ → Stepped Serving Out
serving_promise s slot epoch manager = promised_by (serving_renew s slot epoch) slot epoch manager

abbrev pub reports : ℕ → ℕ → Stepped Serving Out → Done
reports slot epoch p = saying (report p.state slot epoch ∷ []) (serving_follow p.state p.outs)

abbrev pub may_report : Serving → Poll → Bool
may_report s p = nat_lt p.slot slot_count && nat_le (epoch_of s.tokens.epochs p.slot) p.epoch

unfoldable pub polled : Serving → ℕ → Poll → Done
polled s manager p = if may_report s p then reports p.slot p.epoch (serving_promise s p.slot p.epoch manager) else still s

-- Poll: a slot's new manager asks what is held. It is told, and then calls whose fetch was dropped want again.
abbrev pub on_poll : Serving → NodeId → Poll → Done
on_poll s (node.Manager manager) p = polled s manager p
on_poll s (node.Client n) p = still s
on_poll s (node.Server n) p = still s
on_poll s node.Cleaner p = still s
on_poll s node.Registry p = still s

-- a slot of a greater epoch is promised to it
abbrev pub promised_in : Serving → SlotNews → Done
promised_in s news = (let p = serving_promise s news.slot news.epoch news.manager in serving_follow p.state p.outs)

abbrev pub is_news : Serving → SlotNews → Bool
is_news s news = nat_lt news.slot slot_count && nat_lt (epoch_of s.tokens.epochs news.slot) news.epoch

unfoldable pub serving_hear : Serving → SlotNews → Done
serving_hear s news = if is_news s news then promised_in s news else still s

abbrev pub regroups : Serving → Bool → GroupMapState → Done
regroups s newer groups = if newer then serving_write s (log_in.Maps groups) else still s

unfoldable pub takes_news : Serving → News → Done
takes_news s news =
    let d = steps serving_hear (record s { maps = maps_take s.maps news }) news.slots in
    saying d.outs (regroups d.state (is_older s.maps news) news.groups)

-- MapNews: newer groups are taken, then slots of greater epochs in order, and then it is looked whether the segment in flight is settled.
abbrev pub on_news : Serving → News → Done
on_news s news = if fits s.maps news then takes_news s news else still s

-- Welcome: the maps in answer to a question of this incarnation.
unfoldable pub on_welcome : Serving → Welcome → Done
on_welcome s w = if w.inc == s.lasting.inc then on_news s w.news else still s

-- ---- time

-- Tick: wants, fetches, fragments that are not stored, and deltas are sent again.
unfoldable pub on_tick : Serving → Done
on_tick s =
    let w = hand s tokens.Tick in
    let l = serving_write w.state log_in.Tick in
    gives l.state (w.outs ++ (fetch_again (reading_in w.state.call) ++ (l.outs ++ push_all l.state.managers l.state.feed)))

-- ---- a packet

abbrev pub take_body : Serving → NodeId → Body → Done
take_body s from (body.Grant m) = on_grant s m
take_body s from (body.Supply m) = on_supply s m
take_body s from (body.Forward m) = on_forward s m
take_body s from (body.Recall m) = on_recall s m
take_body s from (body.Gone m) = on_gone s m
take_body s from (body.DeltaAck m) = still (on_ack s m)
take_body s from (body.Poll m) = on_poll s from m
take_body s from (body.Stored m) = on_stored s m
take_body s from (body.Fragment m) = on_found s from m
take_body s from (body.Missing m) = on_missing s from m
take_body s from (body.MapNews m) = on_news s m
take_body s from (body.Welcome m) = on_welcome s m
take_body s from (body.Want m) = still s
take_body s from (body.Gave m) = still s
take_body s from (body.Deltas m) = still s
take_body s from (body.Report m) = still s
take_body s from (body.Store m) = still s
take_body s from (body.Fetch m) = still s
take_body s from (body.Fence m) = still s
take_body s from (body.Fenced m) = still s
take_body s from (body.List m) = still s
take_body s from (body.Listed m) = still s
take_body s from (body.Delete m) = still s
take_body s from (body.Deleted m) = still s
take_body s from (body.Check m) = still s
take_body s from (body.Live m) = still s
take_body s from (body.Dead m) = still s
take_body s from (body.UsageAsk m) = still s
take_body s from (body.Usage m) = still s
take_body s from (body.Hello m) = still s
take_body s from (body.CkptDone m) = still s
take_body s from (body.CkptAck m) = still s

-- the maps are asked for, by a new question
unfoldable pub asks_for_maps : Serving → Done
asks_for_maps s =
    gives (record s { lasting = record s.lasting { questions = draw s.lasting.questions } }) (hello s.lasting.inc (next_ask s.lasting.questions) ∷ [])

-- A packet: where it names a group that isn't known it is dropped, and the maps are asked for.
unfoldable pub serving_take : Serving → Packet → Done
serving_take s packet = if names_known_groups s.maps packet.body then take_body s packet.from packet.body else asks_for_maps s
