-- The parts of checkpoints, as nodes hear and tell of them: each names a segment of a manager's log, and its group.
use Rattle.std.specs.Prelude.{List, Contains}
use Rattle.std.specs.List.{AllByRecursion}
use Rattle.wire_msg.specs.declared.body.Body.{Body}
use Rattle.wire_msg.specs.declared.body.Body.TheVariants as body
use Rattle.wire_msg.specs.declared.packet.Do.{Do}
use Rattle.wire_msg.specs.declared.packet.Do.TheVariants.{Begin, Deliver, Tick}
use Rattle.wire_msg.specs.declared.packet.Packet.{Packet}
use Rattle.wire_msg.specs.NodeStep.{NodeStep}
use Rattle.xfs_base.specs.declared.news.SlotNews.{SlotNews}
use Rattle.xfs_base.specs.declared.segment.SegRef.{SegRef}

-- which segments may be named
abbrev pub Known : Type 1
Known = SegRef → Type 0

-- those of a list
abbrev pub named_by : List SegRef → Known
named_by refs ref = Contains refs ref

-- each of these parts may be
abbrev pub AllKnown : Known → List SegRef → Type 0
AllKnown known parts = AllByRecursion known parts

-- so may those that news of a slot name
abbrev pub NewsNames : Known → SlotNews → Type 0
NewsNames known news = AllKnown known news.parts

-- the parts of a checkpoint that is done, and those of news
abbrev pub BodyNames : Known → Body → Type 0
BodyNames known (body.CkptDone m) = AllKnown known m.parts
BodyNames known (body.MapNews m) = AllByRecursion (NewsNames known) m.slots
BodyNames known (body.Welcome m) = AllByRecursion (NewsNames known) m.news.slots
BodyNames known _ = Unit {0}

abbrev pub PacketNames : Known → Packet → Type 0
PacketNames known packet = BodyNames known packet.body

abbrev pub DoNames : Known → Do → Type 0
DoNames known Begin = Unit {0}
DoNames known (Deliver packet) = PacketNames known packet
DoNames known Tick = Unit {0}

-- a node that names none but these, and sends nothing that names another
pub record NamesKnown {N : Type 0} (Holds : N → Type 0) (known : Known) (step : NodeStep N) : Type 0 where
  pub node : Holds step.node
  pub packets : AllByRecursion (PacketNames known) step.packets
