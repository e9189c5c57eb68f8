-- Where nodes refer to segments, and what is to hold of it: of the parts of checkpoints, and of the ends that owners of logs report.
use Rattle.std.specs.Prelude.{List}
use Rattle.std.specs.List.{AllByRecursion}
use Rattle.token_protocol.specs.Basics.{In}
use Rattle.wire_msg.specs.declared.body.Body.{Body}
use Rattle.wire_msg.specs.declared.body.Body.TheVariants as body
use Rattle.wire_msg.specs.declared.packet.Do.{Do}
use Rattle.wire_msg.specs.declared.packet.Do.TheVariants.{Begin, Deliver, Tick}
use Rattle.wire_msg.specs.declared.packet.Packet.{Packet}
use Rattle.wire_msg.specs.declared.registry.CkptDone.{CkptDone}
use Rattle.xfs_base.specs.declared.news.SlotNews.{SlotNews}
use Rattle.xfs_base.specs.declared.node.NodeId.{NodeId}
use Rattle.xfs_base.specs.declared.segment.End.{End}
use Rattle.xfs_base.specs.declared.segment.SegRef.{SegRef}

-- what is to hold of a part of a checkpoint, and of an end that a node reports
pub record References : Type 1 where
  pub part : SegRef → Type 0
  pub end : NodeId → End → Type 0

abbrev pub PartsRefer : References → List SegRef → Type 0
PartsRefer r parts = AllByRecursion r.part parts

-- ---- packets

abbrev pub DoneRefers : References → CkptDone → Type 0
DoneRefers r done = PartsRefer r done.parts

abbrev pub NewsRefer : References → SlotNews → Type 0
NewsRefer r news = PartsRefer r news.parts

abbrev pub AllNewsRefer : References → List SlotNews → Type 0
AllNewsRefer r slots = AllByRecursion (NewsRefer r) slots

-- what a packet of this node refers to
abbrev pub BodyRefers : References → NodeId → Body → Type 0
BodyRefers r from (body.Report m) = r.end from m.end
BodyRefers r from (body.CkptDone m) = DoneRefers r m
BodyRefers r from (body.MapNews m) = AllNewsRefer r m.slots
BodyRefers r from (body.Welcome m) = AllNewsRefer r m.news.slots
BodyRefers r from _ = Unit {0}

abbrev pub PacketRefers : References → Packet → Type 0
PacketRefers r packet = BodyRefers r packet.from packet.body

abbrev pub DoRefers : References → Do → Type 0
DoRefers r Begin = Unit {0}
DoRefers r (Deliver packet) = PacketRefers r packet
DoRefers r Tick = Unit {0}

-- ---- references that are listed

-- a part is one of these, and an end that a node reports one of those
abbrev pub listed : List SegRef → List (NodeId × End) → References
listed parts ends = record { part = λ seg. In seg parts; end = λ from e. In (from, e) ends }
