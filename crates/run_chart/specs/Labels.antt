-- What a packet is called in a picture: the name of its body, what it is about, and which part of xFS it belongs to.
use Rattle.std.specs.Prelude.{ℕ, Bool, true, false, ◌==◌, ◌&&◌, List, [], ◌∷◌, ◌++◌, codes}
use Rattle.std.specs.Fmt.{decimal}
use Rattle.std.specs.Str.{bytes_eq}
use Rattle.act_text.specs.Pieces.{block_text, node_text, segment_text}
use Rattle.wire_msg.specs.declared.body.Body.{Body}
use Rattle.wire_msg.specs.declared.body.Body.TheVariants as body
use Rattle.wire_msg.specs.declared.packet.Packet.{Packet}
use Rattle.xfs_base.specs.Blocks.{same_block}
use Rattle.xfs_base.specs.Nodes.{same_node}
use Rattle.xfs_base.specs.Segments.{same_name}
use Rattle.run_chart.specs.declared.label.Part.{Part}
use Rattle.run_chart.specs.declared.label.Part.TheVariants.{Tokens, Logs, Reading, Maps}
use Rattle.run_chart.specs.declared.label.Subject.{Subject}
use Rattle.run_chart.specs.declared.label.Subject.TheVariants.{Nothing, Block, Segment, Slot}

-- the name of a body
abbrev pub name_of : Body → List ℕ
name_of (body.Want m) = codes "Want"
name_of (body.Grant m) = codes "Grant"
name_of (body.Forward m) = codes "Forward"
name_of (body.Supply m) = codes "Supply"
name_of (body.Recall m) = codes "Recall"
name_of (body.Gave m) = codes "Gave"
name_of (body.Gone m) = codes "Gone"
name_of (body.Deltas m) = codes "Deltas"
name_of (body.DeltaAck m) = codes "DeltaAck"
name_of (body.Poll m) = codes "Poll"
name_of (body.Report m) = codes "Report"
name_of (body.Store m) = codes "Store"
name_of (body.Stored m) = codes "Stored"
name_of (body.Fetch m) = codes "Fetch"
name_of (body.Fragment m) = codes "Fragment"
name_of (body.Missing m) = codes "Missing"
name_of (body.Fence m) = codes "Fence"
name_of (body.Fenced m) = codes "Fenced"
name_of (body.List m) = codes "List"
name_of (body.Listed m) = codes "Listed"
name_of (body.Delete m) = codes "Delete"
name_of (body.Deleted m) = codes "Deleted"
name_of (body.Check m) = codes "Check"
name_of (body.Live m) = codes "Live"
name_of (body.Dead m) = codes "Dead"
name_of (body.UsageAsk m) = codes "UsageAsk"
name_of (body.Usage m) = codes "Usage"
name_of (body.Hello m) = codes "Hello"
name_of (body.Welcome m) = codes "Welcome"
name_of (body.MapNews m) = codes "MapNews"
name_of (body.CkptDone m) = codes "CkptDone"
name_of (body.CkptAck m) = codes "CkptAck"

-- what it is about, where that is one thing
abbrev pub subject_of : Body → Subject
subject_of (body.Want m) = Block m.block
subject_of (body.Grant m) = Block m.block
subject_of (body.Forward m) = Block m.block
subject_of (body.Supply m) = Block m.block
subject_of (body.Recall m) = Block m.block
subject_of (body.Gave m) = Block m.block
subject_of (body.Gone m) = Block m.block
subject_of (body.Deltas m) = Slot m.slot
subject_of (body.DeltaAck m) = Slot m.slot
subject_of (body.Poll m) = Slot m.slot
subject_of (body.Report m) = Slot m.slot
subject_of (body.Store m) = Segment m.fragment.meta.name
subject_of (body.Stored m) = Segment m.name
subject_of (body.Fetch m) = Segment m.name
subject_of (body.Fragment m) = Segment m.fragment.meta.name
subject_of (body.Missing m) = Segment m.name
subject_of (body.Delete m) = Segment m.name
subject_of (body.Deleted m) = Segment m.name
subject_of (body.Check m) = Block m.block
subject_of (body.Live m) = Block m.block
subject_of (body.Dead m) = Block m.block
subject_of (body.UsageAsk m) = Slot m.slot
subject_of (body.Usage m) = Slot m.slot
subject_of (body.CkptDone m) = Slot m.slot
subject_of (body.CkptAck m) = Slot m.slot
subject_of _ = Nothing

-- which part of xFS it belongs to: who may read and write, the logs, the reading of what is stored, or the maps
abbrev pub part_of : Body → Part
part_of (body.Want m) = Tokens
part_of (body.Grant m) = Tokens
part_of (body.Forward m) = Tokens
part_of (body.Supply m) = Tokens
part_of (body.Recall m) = Tokens
part_of (body.Gave m) = Tokens
part_of (body.Gone m) = Tokens
part_of (body.Deltas m) = Tokens
part_of (body.DeltaAck m) = Tokens
part_of (body.Poll m) = Tokens
part_of (body.Report m) = Tokens
part_of (body.Store m) = Logs
part_of (body.Stored m) = Logs
part_of (body.Fetch m) = Reading
part_of (body.Fragment m) = Reading
part_of (body.Missing m) = Reading
part_of (body.Fence m) = Logs
part_of (body.Fenced m) = Logs
part_of (body.List m) = Logs
part_of (body.Listed m) = Logs
part_of (body.Delete m) = Logs
part_of (body.Deleted m) = Logs
part_of (body.Check m) = Logs
part_of (body.Live m) = Logs
part_of (body.Dead m) = Logs
part_of (body.UsageAsk m) = Logs
part_of (body.Usage m) = Logs
part_of (body.Hello m) = Maps
part_of (body.Welcome m) = Maps
part_of (body.MapNews m) = Maps
part_of (body.CkptDone m) = Maps
part_of (body.CkptAck m) = Maps

unfoldable pub subject_text : Subject → List ℕ
subject_text Nothing = []
subject_text (Block block) = 32 ∷ block_text block
subject_text (Segment seg) = 32 ∷ segment_text seg
subject_text (Slot slot) = codes " slot " ++ decimal slot

-- what a packet is called, as `Want 1/0`
unfoldable pub label_of : Body → List ℕ
label_of b = name_of b ++ subject_text (subject_of b)

-- who says it to whom
unfoldable pub ways_text : Packet → List ℕ
ways_text p = codes " from " ++ (node_text p.from ++ (codes " to " ++ node_text p.to))

abbrev pub same_subject : Subject → Subject → Bool
same_subject Nothing Nothing = true
same_subject (Block a) (Block b) = same_block a b
same_subject (Segment a) (Segment b) = same_name a b
same_subject (Slot a) (Slot b) = a == b
same_subject _ _ = false

-- whether two bodies are called the same
unfoldable pub same_label : Body → Body → Bool
same_label a b = bytes_eq (name_of a) (name_of b) && same_subject (subject_of a) (subject_of b)

-- whether two packets are drawn as one: sent in one event, by one node to one node, and called the same
abbrev pub same_packet : Packet → Packet → Bool
same_packet a b = (a.clock == b.clock) && (same_node a.from b.from && (same_node a.to b.to && same_label a.body b.body))
