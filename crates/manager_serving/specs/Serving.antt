-- What each packet, and the time, make of a manager that serves.
use Rattle.std.specs.Prelude.{ℕ, Bool, true, false, ◌==◌, ◌&&◌, if◌then◌else◌, List, [], ◌∷◌, Option, Some, None}
use Rattle.checkpoint.specs.Transition.{writer_start as writer_started}
use Rattle.client_log.specs.declared.input.In.TheVariants as log_input
use Rattle.client_log.specs.LogState.{log_start as log_started}
use Rattle.group_map.specs.GroupMapState.{GroupMapState}
use Rattle.log_owner.specs.Opening.{log_has_room}
use Rattle.log_owner.specs.Sending.{hello, server_in}
use Rattle.manager_slots.specs.declared.lasting.Lasting.{Lasting as Kept}
use Rattle.manager_slots.specs.Lasting.{log_of, lasting_has_room}
use Rattle.manager_slots.specs.SlotTable as table
use Rattle.manager_slots.specs.SlotTable.{Table, TableAsker, Asks, Hearer}
use Rattle.node_base.specs.Asking.{next_ask, draw}
use Rattle.node_base.specs.declared.maps.Maps.{Maps}
use Rattle.node_base.specs.Known.{names_known_groups}
use Rattle.node_base.specs.Maps.{maps_start, fits, is_older, maps_take}
use Rattle.node_base.specs.Room.{has_room}
use Rattle.takeover.specs.declared.input.In.{In}
use Rattle.takeover.specs.declared.input.In.TheVariants as input
use Rattle.wire_msg.specs.declared.body.Body.{Body}
use Rattle.wire_msg.specs.declared.body.Body.TheVariants as body
use Rattle.wire_msg.specs.declared.cleaning.Check.{Check}
use Rattle.wire_msg.specs.declared.cleaning.UsageAsk.{UsageAsk}
use Rattle.wire_msg.specs.declared.deltas.Deltas.{Deltas}
use Rattle.wire_msg.specs.declared.deltas.Report.{Report}
use Rattle.wire_msg.specs.declared.packet.Packet.{Packet}
use Rattle.wire_msg.specs.declared.registry.News.{News}
use Rattle.wire_msg.specs.declared.registry.Welcome.{Welcome}
use Rattle.wire_msg.specs.declared.storage.Found.{Found}
use Rattle.wire_msg.specs.declared.storage.Missing.{Missing}
use Rattle.wire_msg.specs.declared.tokens.Gave.{Gave}
use Rattle.wire_msg.specs.declared.tokens.Want.{Want}
use Rattle.xfs_base.specs.declared.news.SlotNews.{SlotNews}
use Rattle.xfs_base.specs.declared.node.NodeId.{NodeId}
use Rattle.xfs_base.specs.declared.node.NodeId.TheVariants.{Client, Manager, Server, Cleaner, Registry}
use Rattle.xfs_base.specs.declared.segment.LogId.{LogId}
use Rattle.xfs_base.specs.Logs as logs
use Rattle.xfs_base.specs.Steps.{still, saying}
use Rattle.manager_serving.specs.Checkpoints.{Done, gives, serving_write, on_stored, on_ckpt_ack, serving_tell_again}
use Rattle.manager_serving.specs.declared.serving.Serving.{Serving}
pub use Rattle.xfs_base.specs.Segments.{no_end}

-- ---- the beginning

-- a manager that has these maps and slots, and whose log and checkpoints begin
abbrev pub serving_begin : Kept → Maps → Table → GroupMapState → Serving
serving_begin kept maps slots groups = record {
  lasting = kept;
  maps = maps;
  slots = slots;
  log = log_started (log_of kept.number) kept.inc no_end groups;
  writer = writer_started (log_of kept.number);
  dones = 0;
  checkpoint = None;
}

-- at the start of a run it manages its slots
abbrev pub serving_start : Kept → ℕ → GroupMapState → Serving
serving_start kept managers groups = serving_begin kept (maps_start groups) (table.slot_table_first kept.number managers) groups

-- after a restart it knows of no slot
abbrev pub again : Kept → Maps → GroupMapState → Serving
again kept maps groups = serving_begin kept maps table.slot_table_unknown groups

-- each counter is at least 65,536 below its end
abbrev pub serving_has_room : Serving → Bool
serving_has_room s =
    lasting_has_room s.lasting && (has_room s.maps.version && (has_room s.dones && (log_has_room s.log && table.slot_table_has_room s.slots)))

-- ---- one event after another

-- what is done after this
abbrev pub and_then : Done → (Serving → Done) → Done
and_then d f = saying d.outs (f d.state)

abbrev pub with_slots : Serving → table.Done → Done
with_slots s d = record { state = record s { slots = d.state }; outs = d.outs }

abbrev pub asker_of : Serving → TableAsker
asker_of s = record { table = s.slots; questions = s.lasting.questions }

abbrev pub with_asker : Serving → Asks → Done
with_asker s d = record { state = record s { slots = d.state.table; lasting = record s.lasting { questions = d.state.questions } }; outs = d.outs }

-- ---- clients and the cleaner

abbrev pub client_in : NodeId → Option ℕ
client_in (Client n) = Some n
client_in (Manager n) = None
client_in (Server n) = None
client_in Cleaner = None
client_in Registry = None

-- the log that a client or the cleaner feeds to managers
abbrev pub fed_log : NodeId → Option LogId
fed_log (Client n) = Some (logs.log_of (Client n))
fed_log (Manager n) = None
fed_log (Server n) = None
fed_log Cleaner = Some (logs.log_of Cleaner)
fed_log Registry = None

unfoldable pub on_want : Serving → Option ℕ → Want → Done
on_want s None want = still s
on_want s (Some client) want = with_slots s (table.on_want s.slots client want)

unfoldable pub on_gave : Serving → Option ℕ → Gave → Done
on_gave s None gave = still s
on_gave s (Some client) gave = with_slots s (table.on_gave s.slots client gave)

unfoldable pub on_deltas : Serving → Option LogId → Deltas → Done
on_deltas s None deltas = still s
on_deltas s (Some log) deltas = with_slots s (table.on_deltas s.slots log deltas)

unfoldable pub on_check : Serving → Check → Done
on_check s check = with_slots s (table.on_check s.slots check)

unfoldable pub on_usage_ask : Serving → UsageAsk → Done
on_usage_ask s asked = gives s (table.on_usage_ask s.slots asked)

-- ---- takeovers

-- the takeover of a slot takes an input
unfoldable pub serving_take : Serving → ℕ → In → Done
serving_take s slot given = with_asker s (table.slot_table_take (asker_of s) slot given)

unfoldable pub on_report : Serving → NodeId → Report → Done
on_report s from report = with_asker s (table.on_report (asker_of s) from report)

abbrev pub answered_by : Serving → Option (ℕ × ℕ) → (ℕ → In) → Done
answered_by s None given = still s
answered_by s (Some which) given = serving_take s which.0 (given which.1)

-- the takeover that asked this
abbrev pub fetch_of : Serving → ℕ → Option (ℕ × ℕ)
fetch_of s ask = table.fetch_among s.slots ask table.all_slots

unfoldable pub on_found : Serving → Option ℕ → Found → Done
on_found s None found = still s
on_found s (Some server) found = answered_by s (fetch_of s found.ask) (λ own. input.Got own server found.generation found.fragment)

unfoldable pub on_missing : Serving → Option ℕ → Missing → Done
on_missing s None missing = still s
on_missing s (Some server) missing = answered_by s (fetch_of s missing.ask) (λ own. input.Missing own server missing.generation)

-- ---- the maps

-- newer groups are told to each takeover
unfoldable pub regroups : Serving → GroupMapState → Done
regroups s groups = with_asker s (table.slot_table_regroup groups (asker_of s))

abbrev pub hearer_of : Serving → ℕ → GroupMapState → Hearer
hearer_of s clients groups = table.hearer (record { number = s.lasting.number; clients = clients }) groups

abbrev pub hears_with : Serving → ℕ → List SlotNews → Option GroupMapState → Done
hears_with s clients slots None = still s
hears_with s clients slots (Some groups) = with_asker s (table.hear_each (hearer_of s clients groups) (asker_of s) slots)

-- slots with a greater epoch, in order
unfoldable pub hear_slots : Serving → ℕ → List SlotNews → Done
hear_slots s clients slots = hears_with s clients slots s.maps.groups

-- newer maps: the groups first, then the slots, and then settling is looked at
unfoldable pub on_newer : Serving → ℕ → News → Done
on_newer s clients news =
    and_then (and_then (regroups s news.groups) (λ t. hear_slots t clients news.slots)) (λ t. serving_write t (log_input.Maps news.groups))

-- the maps come, and fit
unfoldable pub on_news : Serving → ℕ → News → Done
on_news s clients news =
    if is_older s.maps news then on_newer (record s { maps = maps_take s.maps news }) clients news else hear_slots s clients news.slots

abbrev pub on_fitting_news : Serving → ℕ → News → Done
on_fitting_news s clients news = if fits s.maps news then on_news s clients news else still s

-- the registry answers a Hello of this incarnation
abbrev pub on_welcome : Serving → ℕ → Welcome → Done
on_welcome s clients welcome = if welcome.inc == s.lasting.inc then on_fitting_news s clients welcome.news else still s

-- ---- all packets

-- a packet names a group that isn't known: it is dropped, and the maps are asked for
unfoldable pub ask_for_maps : Serving → Done
ask_for_maps s = record {
  state = record s { lasting = record s.lasting { questions = draw s.lasting.questions } };
  outs = hello s.lasting.inc (next_ask s.lasting.questions) ∷ [];
}

abbrev pub on_body : Serving → ℕ → NodeId → Body → Done
on_body s clients from (body.MapNews news) = on_fitting_news s clients news
on_body s clients from (body.Welcome welcome) = on_welcome s clients welcome
on_body s clients from (body.Want want) = on_want s (client_in from) want
on_body s clients from (body.Gave gave) = on_gave s (client_in from) gave
on_body s clients from (body.Deltas deltas) = on_deltas s (fed_log from) deltas
on_body s clients from (body.Check check) = on_check s check
on_body s clients from (body.UsageAsk asked) = on_usage_ask s asked
on_body s clients from (body.Report report) = on_report s from report
on_body s clients from (body.Fragment found) = on_found s (server_in from) found
on_body s clients from (body.Missing missing) = on_missing s (server_in from) missing
on_body s clients from (body.Stored stored) = on_stored s stored
on_body s clients from (body.CkptAck ack) = on_ckpt_ack s ack
on_body s clients from _ = still s

unfoldable pub serving_hear : Serving → ℕ → Packet → Done
serving_hear s clients packet = if names_known_groups s.maps packet.body then on_body s clients packet.from packet.body else ask_for_maps s

-- ---- time

unfoldable pub recalls_again : Serving → Done
recalls_again s = with_slots s (table.recall_again s.slots)

unfoldable pub serving_ask_again : Serving → Bool → Done
serving_ask_again s polls = with_asker s (table.slot_table_ask_again polls (asker_of s))

-- what is unanswered is said again: recalls, polls, what else takeovers ask, fragments, and a checkpoint
unfoldable pub on_tick : Serving → Done
on_tick s =
    and_then (and_then (and_then (and_then (recalls_again s) (λ t. serving_ask_again t true)) (λ t. serving_ask_again t false)) (λ t. serving_write t log_input.Tick)) serving_tell_again
