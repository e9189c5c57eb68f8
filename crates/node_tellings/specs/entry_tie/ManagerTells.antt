-- What a manager holds of where blocks lie.
use Rattle.std.specs.Prelude.{◌≡◌, ℕ, List, [], Option, Some, None, IfSome}
use Rattle.std.specs.List.{AllByRecursion}
use Rattle.checkpoint.specs.WriterState.{WorkState}
use Rattle.client_log.specs.LogState.{LogState}
use Rattle.log_flight.specs.declared.dirty.Change.{Change}
use Rattle.log_flight.specs.Flights.{FlightState}
use Rattle.log_owner.specs.Sending.{server_in}
use Rattle.manager_node.specs.declared.manager.Manager.{Manager}
use Rattle.manager_node.specs.declared.phase.Phase.{Phase}
use Rattle.manager_node.specs.declared.phase.Phase.TheVariants.{Down, Waiting, Serving as Serves}
use Rattle.manager_node.specs.Events.{manager_start, manager_step}
use Rattle.manager_slots.specs.declared.slot_phase.SlotPhase.{SlotPhase}
use Rattle.manager_slots.specs.declared.slot_phase.SlotPhase.TheVariants as phase
use Rattle.manager_slots.specs.Slots.{fetch_of}
use Rattle.manager_serving.specs.declared.serving.Serving.{Serving}
use Rattle.segment_format.specs.declared.segment.Item.{Item}
use Rattle.segment_format.specs.declared.segment.Item.TheVariants.{Block, Delta, Part}
use Rattle.segment_format.specs.declared.segment.Segment.{Segment}
use Rattle.segment_reading.specs.Reading.{ReadingState, reading_take}
use Rattle.stripe_code.specs.declared.round.Told.{Told as Answered}
use Rattle.stripe_code.specs.declared.round.Told.TheVariants as answered
use Rattle.takeover.specs.Course.{segment_of}
use Rattle.takeover.specs.declared.source.Present.{Present}
use Rattle.takeover.specs.Rows.{told_of}
use Rattle.takeover.specs.TakeState.{TakeState}
use Rattle.version_model.specs.declared.act.Act.{Act}
use Rattle.version_model.specs.declared.work.Work.{Work}
use Rattle.wire_msg.specs.declared.body.Body.{Body}
use Rattle.wire_msg.specs.declared.body.Body.TheVariants as body
use Rattle.wire_msg.specs.declared.packet.Do.{Do}
use Rattle.wire_msg.specs.declared.packet.Do.TheVariants.{Begin, Deliver, Tick}
use Rattle.wire_msg.specs.declared.packet.Packet.{Packet}
use Rattle.xfs_base.specs.declared.block.BlockId.{BlockId}
use Rattle.xfs_base.specs.declared.entry.Entry.{Entry}
use Rattle.xfs_base.specs.declared.node.NodeId.{NodeId}
use Rattle.xfs_base.specs.declared.setup.Setup.{Setup}
use Rattle.node_moves.specs.SlotPhases.{SlotIs}
use Rattle.node_tellings.specs.entry_tie.Told.{Told, RowsTold, FiledRows, told_by_rows, HoldsRise, EventsTellTold}

-- ---- what it holds

-- what a takeover has read, of the sources before the present one and of that
pub record ReadTold (told : Told) (before : List (BlockId × Entry)) (present : List (List (BlockId × Entry))) : Type 0 where
  pub index : RowsTold told before
  pub chain : AllByRecursion (RowsTold told) present

abbrev pub TakeHolds : Told → TakeState → Type 0
TakeHolds told take = ReadTold told take.index take.chain

-- the index of a slot that is managed, and what was read of one that is taken over
abbrev pub SlotHolds : Told → SlotPhase → Type 0
SlotHolds told = SlotIs (λ active. RowsTold told active.slot.index.rows) (λ taking. TakeHolds told taking.take)

-- the pages of a checkpoint that no segment has yet
abbrev pub WorkHolds : Told → WorkState → Type 0
WorkHolds told work = AllByRecursion (RowsTold told) work.left

-- a Part of a checkpoint, and nothing else
abbrev pub PartTold : Told → Item → Type 0
PartTold told (Block block value) = ⊥
PartTold told (Delta block ver hop item) = ⊥
PartTold told (Part slot rows) = RowsTold told rows

-- the segment in flight has Parts alone, whose rows are told
abbrev pub FlightHolds : Told → FlightState → Type 0
FlightHolds told flight = AllByRecursion (PartTold told) flight.segment.items

-- no block waits in its log, and what is in flight is so
pub record WritesParts (told : Told) (waits : List (BlockId × Change)) (flies : Option FlightState) : Type 0 where
  pub clear : waits ≡ []
  pub flight : IfSome flies (FlightHolds told)

abbrev pub LogHolds : Told → LogState → Type 0
LogHolds told log = WritesParts told log.dirty log.flight

pub record ServingHolds (told : Told) (s : Serving) : Type 0 where
  pub slots : AllByRecursion (SlotHolds told) s.slots
  pub pages : IfSome s.writer.work (WorkHolds told)
  pub log : LogHolds told s.log

abbrev pub PhaseHolds : Told → Phase → Type 0
PhaseHolds told (Down kept) = Unit {0}
PhaseHolds told (Waiting kept hello) = Unit {0}
PhaseHolds told (Serves s) = ServingHolds told s

abbrev pub ManagerHolds : Told → Manager → Type 0
ManagerHolds told manager = PhaseHolds told manager.phase

-- ---- what it is owed

-- the segment that a takeover reads at present, where this answer completes it, says of the slot what is told
abbrev pub TakeOwed : Told → TakeState → ℕ → ℕ → Answered → Type 0
TakeOwed told take ask server answer =
    (present : Present) (reading : ReadingState) (segment : Segment) → take.present ≡ Some present → present.reading ≡ Some reading
    → segment_of (reading_take reading take.groups ask server answer).next ≡ Some segment → RowsTold told (told_of take.news.slot segment)

abbrev pub PhaseOwed : Told → ℕ → ℕ → Answered → SlotPhase → Type 0
PhaseOwed told ask server answer (phase.Taking taking) = TakeOwed told taking.take ask server answer
PhaseOwed told ask server answer _ = Unit {0}

-- where the takeover of the slot asked the question of the manager's that is answered
abbrev pub SlotOwed : Told → ℕ → ℕ → Answered → SlotPhase → Type 0
SlotOwed told ask server answer p = (own : ℕ) → fetch_of p ask ≡ Some own → PhaseOwed told own server answer p

-- what a server answers to a question
abbrev pub AnswerOwed : Told → Serving → Option ℕ → ℕ → Answered → Type 0
AnswerOwed told s None ask answer = Unit {0}
AnswerOwed told s (Some server) ask answer = AllByRecursion (SlotOwed told ask server answer) s.slots

abbrev pub BodyOwed : Told → Serving → NodeId → Body → Type 0
BodyOwed told s from (body.Fragment found) = AnswerOwed told s (server_in from) found.ask (answered.Held found.fragment)
BodyOwed told s from (body.Missing missing) = AnswerOwed told s (server_in from) missing.ask (answered.Missing missing.generation)
BodyOwed told s from _ = Unit {0}

abbrev pub PacketOwed : Told → Phase → Packet → Type 0
PacketOwed told (Serves s) packet = BodyOwed told s packet.from packet.body
PacketOwed told (Down kept) packet = Unit {0}
PacketOwed told (Waiting kept hello) packet = Unit {0}

abbrev pub DoOwed : Told → Phase → Do → Type 0
DoOwed told p Begin = Unit {0}
DoOwed told p (Deliver packet) = PacketOwed told p packet
DoOwed told p Tick = Unit {0}

abbrev pub ManagerOwed : Told → Manager → Do → List Act → Type 0
ManagerOwed told manager what acts = DoOwed told manager.phase what

-- ---- the law

-- a manager at its start holds nothing
abbrev pub ManagerStartsTold : Type 0
ManagerStartsTold = (rows : FiledRows) (number : ℕ) (setup : Setup) (works : List Work) → ManagerHolds (told_by_rows rows) (manager_start number setup works)

-- what filed segments said they say later too
abbrev pub ManagerHoldsRise : Type 0
ManagerHoldsRise = HoldsRise Manager ManagerHolds

-- whatever happens to a manager
abbrev pub ManagersTellTold : Type 0
ManagersTellTold = EventsTellTold Manager ManagerHolds ManagerOwed manager_step
