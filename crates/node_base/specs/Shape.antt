-- Packets that a node looks at.
use Rattle.std.specs.Prelude.{ℕ, ◌+◌, Bool, true, ◌==◌, ◌&&◌, nat_le, nat_lt, List, [], ◌∷◌, Option, Some, None, length}
use Rattle.std.specs.List.{list_all}
use Rattle.wire_msg.specs.declared.body.Body.{Body}
use Rattle.wire_msg.specs.declared.body.Body.TheVariants as body
use Rattle.wire_msg.specs.declared.packet.Packet.{Packet}
use Rattle.wire_msg.specs.declared.registry.News.{News}
use Rattle.xfs_base.specs.declared.entry.Place.{Place}
use Rattle.xfs_base.specs.declared.fragment.FragMeta.{FragMeta}
use Rattle.xfs_base.specs.declared.news.SlotNews.{SlotNews}
use Rattle.xfs_base.specs.declared.segment.SegName.{SegName}
use Rattle.xfs_base.specs.declared.segment.SegRef.{SegRef}
use Rattle.xfs_base.specs.Limits.{slot_count, block_logs, log_count}
use Rattle.node_base.specs.declared.peers.Peers.{Peers}
use Rattle.node_base.specs.Nodes.{has_node}
use Rattle.node_base.specs.Room.{has_long_room}

abbrev pub is_log : ℕ → Bool
is_log log = nat_le 1 log && nat_le log log_count

abbrev pub is_slot : ℕ → Bool
is_slot slot = nat_lt slot slot_count

abbrev pub is_name : SegName → Bool
is_name name = is_log name.log.0

abbrev pub is_entry : Option Place → Bool
is_entry None = true
is_entry (Some place) = is_name place.seg.name

abbrev pub is_meta : FragMeta → Bool
is_meta meta = is_name meta.name

abbrev pub is_part : SegRef → Bool
is_part part = is_name part.name

abbrev pub is_from_one : ℕ → Bool
is_from_one seq = nat_le 1 seq

-- a number from 1 on for each log that says where blocks lie
abbrev pub is_horizon : List ℕ → Bool
is_horizon horizon = (length horizon == block_logs) && list_all is_from_one horizon

abbrev pub is_slot_news : SlotNews → Bool
is_slot_news news = list_all is_part news.parts && is_horizon news.horizon

-- these slots are numbered from a number on
abbrev pub are_in_order : ℕ → List SlotNews → Bool
are_in_order number [] = true
are_in_order number (slot ∷ slots) = (slot.slot == number) && are_in_order (number + 1) slots

-- the slots are 0 to 7, in order
abbrev pub is_news : News → Bool
is_news news = (length news.slots == slot_count) && (are_in_order 0 news.slots && list_all is_slot_news news.slots)

-- the logs that a body names are 1 to 13, and its horizons have nine numbers from 1 on
abbrev pub has_logs : Body → Bool
has_logs (body.Grant grant) = is_entry grant.entry.place
has_logs (body.Gone gone) = is_name gone.seg
has_logs (body.Deltas deltas) = list_all (λ row. is_entry row.1.place) deltas.rows
has_logs (body.Store store) = is_meta store.fragment.meta
has_logs (body.Stored stored) = is_name stored.name
has_logs (body.Fetch fetch) = is_name fetch.name
has_logs (body.Fragment found) = is_meta found.fragment.meta
has_logs (body.Missing missing) = is_name missing.name
has_logs (body.Fence fence) = is_log fence.log.0
has_logs (body.Fenced fenced) = is_log fenced.log.0 && list_all is_meta fenced.held
has_logs (body.Listed listed) = list_all is_meta listed.held
has_logs (body.Delete delete) = is_name delete.name
has_logs (body.Deleted deleted) = is_name deleted.name
has_logs (body.Check check) = is_name check.place.seg.name
has_logs (body.Live live) = is_entry live.entry.place
has_logs (body.Usage usage) = list_all (λ count. is_name count.0) usage.counts
has_logs (body.Welcome welcome) = is_news welcome.news
has_logs (body.MapNews news) = is_news news
has_logs (body.CkptDone done) = list_all is_part done.parts && is_horizon done.horizon
has_logs _ = true

-- the slot that a body names is 0 to 7
abbrev pub has_slot : Body → Bool
has_slot (body.Deltas deltas) = is_slot deltas.slot
has_slot (body.DeltaAck ack) = is_slot ack.slot
has_slot (body.Poll poll) = is_slot poll.slot
has_slot (body.Report report) = is_slot report.slot
has_slot (body.UsageAsk ask) = is_slot ask.slot
has_slot (body.Usage usage) = is_slot usage.slot
has_slot (body.CkptDone done) = is_slot done.slot
has_slot (body.CkptAck ack) = is_slot ack.slot
has_slot _ = true

-- each version that rows of a log tell is at least 65,536 below its end
abbrev pub has_versions : Body → Bool
has_versions (body.Deltas deltas) = list_all (λ row. has_long_room row.1.ver) deltas.rows
has_versions _ = true

-- whether a node looks at a packet: its sender is a node, and its numbers are in range
abbrev pub is_well_formed : Peers → Packet → Bool
is_well_formed peers packet = has_node peers packet.from && (has_logs packet.body && (has_slot packet.body && has_versions packet.body))
