-- What a manager writes: pages of checkpoints alone, whatever is told of where blocks lie.
use Rattle.std.proofs.Common.{ℕ, List, Option, Some, None, refl}
use Rattle.std.specs.Prelude.{IfSome}
use Rattle.std.specs.List.{AllByRecursion}
use Rattle.checkpoint.specs.WriterState.{WorkState}
use Rattle.node_tellings.specs.entry_tie.ManagerTells.{AnswerOwed, BodyOwed, DoOwed, FlightHolds, PacketOwed, PartTold, PhaseHolds, SlotHolds, SlotOwed, WorkHolds}
use Rattle.node_tellings.specs.entry_tie.Told.{Told, BodyTold, DoTold, RowsTold}
use Rattle.node_tellings.proofs.entry_tie.Managers.{any_manager_tells}
use Rattle.log_flight.specs.Flights.{FlightState}
use Rattle.log_owner.specs.Sending.{server_in}
use Rattle.manager_node.specs.declared.phase.Phase.{Phase}
use Rattle.manager_node.specs.declared.phase.Phase.TheVariants.{Down, Waiting, Serving as Serves}
use Rattle.manager_node.specs.Events.{manager_step}
use Rattle.manager_slots.specs.declared.slot_phase.SlotPhase.{SlotPhase}
use Rattle.manager_slots.specs.declared.slot_phase.SlotPhase.TheVariants as phase
use Rattle.manager_serving.specs.declared.serving.Serving.{Serving}
use Rattle.segment_format.specs.declared.segment.Item.{Item}
use Rattle.segment_format.specs.declared.segment.Item.TheVariants.{Block, Delta, Part}
use Rattle.stripe_code.specs.declared.round.Told.{Told as Answered}
use Rattle.stripe_code.specs.declared.round.Told.TheVariants as answered
use Rattle.takeover.specs.Rows.{told_of}
use Rattle.wire_msg.specs.declared.body.Body.{Body}
use Rattle.wire_msg.specs.declared.body.Body.TheVariants as body
use Rattle.wire_msg.specs.declared.packet.Do.{Do}
use Rattle.wire_msg.specs.declared.packet.Do.TheVariants.{Begin, Deliver, Tick}
use Rattle.wire_msg.specs.declared.packet.Packet.{Packet}
use Rattle.xfs_base.specs.declared.block.BlockId.{BlockId}
use Rattle.xfs_base.specs.declared.entry.Entry.{Entry}
use Rattle.xfs_base.specs.declared.node.NodeId.{NodeId}
use Rattle.xfs_base.proofs.Alls.{all_each, all_weaker}
use Rattle.run_laws.specs.segment_tie.Managers.{ManagerWrites, ManagersStartWriting, ManagersWritePages}
use Rattle.run_laws.specs.segment_tie.Segments.{IsPages, IsPart}

-- anything may be told
abbrev any : Told
any block entry = Unit {0}

any_rows : (rows : List (BlockId × Entry)) → RowsTold any rows
any_rows rows = all_each (λ row. Unit {0}) (λ row. tt) rows

any_lists : (lists : List (List (BlockId × Entry))) → AllByRecursion (RowsTold any) lists
any_lists lists = all_each (RowsTold any) any_rows lists

-- ---- what a manager holds

any_slot : (p : SlotPhase) → SlotHolds any p
any_slot (phase.Active a) = any_rows a.slot.index.rows
any_slot (phase.Taking t) = record { index = any_rows t.take.index; chain = any_lists t.take.chain }
any_slot (phase.Away epoch) = tt
any_slot (phase.Broken epoch seg) = tt

any_work : (o : Option WorkState) → IfSome o (WorkHolds any)
any_work None = tt
any_work (Some w) = any_lists w.left

part_told : (i : Item) → IsPart i → PartTold any i
part_told (Block block value) fact = absurd fact
part_told (Delta block ver hop item) fact = absurd fact
part_told (Part slot rows) fact = any_rows rows

part_is : (i : Item) → PartTold any i → IsPart i
part_is (Block block value) fact = absurd fact
part_is (Delta block ver hop item) fact = absurd fact
part_is (Part slot rows) fact = tt

flight_held : (o : Option FlightState) → IfSome o (λ f. IsPages f.segment) → IfSome o (FlightHolds any)
flight_held None h = tt
flight_held (Some f) h = all_weaker IsPart (PartTold any) part_told f.segment.items h

flight_is : (o : Option FlightState) → IfSome o (FlightHolds any) → IfSome o (λ f. IsPages f.segment)
flight_is None h = tt
flight_is (Some f) h = all_weaker (PartTold any) IsPart part_is f.segment.items h

held : (p : Phase) → ManagerWrites p → PhaseHolds any p
held (Down kept) h = tt
held (Waiting kept hello) h = tt
held (Serves s) h = record {
  slots = all_each (SlotHolds any) any_slot s.slots;
  pages = any_work s.writer.work;
  log = record { clear = h.clear; flight = flight_held s.log.flight h.flies };
}

writes : (p : Phase) → PhaseHolds any p → ManagerWrites p
writes (Down kept) h = tt
writes (Waiting kept hello) h = tt
writes (Serves s) h = (let log = h.log in record { clear = log.clear; flies = flight_is s.log.flight log.flight })

-- ---- what comes to it

body_told : (said : Body) → BodyTold any said
body_told (body.Grant m) = tt
body_told (body.Deltas m) = any_rows m.rows
body_told (body.Live m) = tt
body_told _ = tt

do_told : (what : Do) → DoTold any what
do_told Begin = tt
do_told (Deliver packet) = body_told packet.body
do_told Tick = tt

slot_owed : (ask server : ℕ) (answer : Answered) (p : SlotPhase) → SlotOwed any ask server answer p
slot_owed ask server answer (phase.Taking taking) own asked =
    λ present reading segment here reads completes. any_rows (told_of taking.take.news.slot segment)
slot_owed ask server answer (phase.Active active) own asked = tt
slot_owed ask server answer (phase.Away epoch) own asked = tt
slot_owed ask server answer (phase.Broken epoch seg) own asked = tt

answer_owed : (s : Serving) (server : Option ℕ) (ask : ℕ) (answer : Answered) → AnswerOwed any s server ask answer
answer_owed s None ask answer = tt
answer_owed s (Some server) ask answer = all_each (SlotOwed any ask server answer) (slot_owed ask server answer) s.slots

body_owed : (s : Serving) (from : NodeId) (said : Body) → BodyOwed any s from said
body_owed s from (body.Fragment m) = answer_owed s (server_in from) m.ask (answered.Held m.fragment)
body_owed s from (body.Missing m) = answer_owed s (server_in from) m.ask (answered.Missing m.generation)
body_owed s from _ = tt

packet_owed : (p : Phase) (packet : Packet) → PacketOwed any p packet
packet_owed (Serves s) packet = body_owed s packet.from packet.body
packet_owed (Down kept) packet = tt
packet_owed (Waiting kept hello) packet = tt

do_owed : (p : Phase) (what : Do) → DoOwed any p what
do_owed p Begin = tt
do_owed p (Deliver packet) = packet_owed p packet
do_owed p Tick = tt

-- ---- the law

pub managers_write : ManagersWritePages
managers_write m what h =
    writes (manager_step m what).node.phase
    (any_manager_tells any (λ block. tt) m what (held m.phase h) (do_told what) (do_owed m.phase what)).node

pub manager_starts : ManagersStartWriting
manager_starts number setup works = record { clear = refl; flies = tt }
