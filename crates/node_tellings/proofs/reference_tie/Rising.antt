-- What holds of each reference by some references holds by those that hold of more.
use Rattle.std.proofs.Common.{List, Option, Some, None}
use Rattle.std.specs.Prelude.{IfSome}
use Rattle.checkpoint.specs.WriterState.{WorkState}
use Rattle.manager_node.specs.declared.manager.Manager.{Manager}
use Rattle.manager_node.specs.declared.phase.Phase.{Phase}
use Rattle.manager_node.specs.declared.phase.Phase.TheVariants.{Down, Waiting, Serving as Serves}
use Rattle.manager_slots.specs.declared.slot_phase.SlotPhase.{SlotPhase}
use Rattle.manager_slots.specs.declared.slot_phase.SlotPhase.TheVariants as phase
use Rattle.manager_serving.specs.declared.checkpointing.Checkpointing.{Checkpointing}
use Rattle.manager_serving.specs.declared.serving.Serving.{Serving}
use Rattle.registry.specs.Checkpoints.{parts_at}
use Rattle.registry_node.specs.declared.node.RegistryNode.{RegistryNode}
use Rattle.takeover.specs.declared.report.Report.{Report}
use Rattle.wire_msg.specs.declared.body.Body.{Body}
use Rattle.wire_msg.specs.declared.body.Body.TheVariants as body
use Rattle.wire_msg.specs.declared.packet.Packet.{Packet}
use Rattle.wire_msg.specs.declared.registry.CkptDone.{CkptDone}
use Rattle.xfs_base.specs.declared.news.SlotNews.{SlotNews}
use Rattle.xfs_base.specs.declared.node.NodeId.{NodeId}
use Rattle.xfs_base.specs.declared.segment.SegRef.{SegRef}
use Rattle.xfs_base.proofs.Alls.{all_weaker}
use Rattle.node_tellings.specs.reference_tie.Managers.{JobRefers, ManagerRefers, PhaseRefers, ReportRefers, ServingRefers, SlotRefers, WorkRefers}
use Rattle.node_tellings.specs.reference_tie.References.{AllNewsRefer, BodyRefers, DoneRefers, NewsRefer, PacketRefers, PartsRefer, References}
use Rattle.node_tellings.proofs.reference_tie.References.{Weaker}
use Rattle.node_tellings.specs.reference_tie.Registries.{RegistryRefers}

some_weaker : {X : Type 0} (P Q : X → Type 0) → ((x : X) → P x → Q x) → (o : Option X) → IfSome o P → IfSome o Q
some_weaker P Q weaker None h = tt
some_weaker P Q weaker (Some x) h = weaker x h

module _ (r later : References) (w : Weaker r later) where
  parts_rise : (parts : List SegRef) → PartsRefer r parts → PartsRefer later parts
  parts_rise parts all = all_weaker r.part later.part w.part parts all

  slot_rises : (p : SlotPhase) → SlotRefers r p → SlotRefers later p
  slot_rises (phase.Active active) h = parts_rise active.parts h
  slot_rises (phase.Taking t) h = record {
    parts_refer = parts_rise t.take.news.parts h.parts_refer;
    reported = all_weaker (ReportRefers r) (ReportRefers later) (λ (x : Report) k. w.end x.from x.end k) t.take.reports h.reported;
  }
  slot_rises (phase.Away epoch) h = tt
  slot_rises (phase.Broken epoch seg) h = tt

  done_rises : (done : CkptDone) → DoneRefers r done → DoneRefers later done
  done_rises done h = parts_rise done.parts h

  job_rises : (o : Option Checkpointing) → JobRefers r o → JobRefers later o
  job_rises None h = tt
  job_rises (Some job) h = some_weaker (DoneRefers r) (DoneRefers later) done_rises job.done h

  serving_rises : (s : Serving) → ServingRefers r s → ServingRefers later s
  serving_rises s h = record {
    slots = all_weaker (SlotRefers r) (SlotRefers later) slot_rises s.slots h.slots;
    writer = some_weaker (WorkRefers r) (WorkRefers later) (λ (x : WorkState) k. parts_rise x.parts k) s.writer.work h.writer;
    checkpoint = job_rises s.checkpoint h.checkpoint;
  }

  phase_rises : (p : Phase) → PhaseRefers r p → PhaseRefers later p
  phase_rises (Down kept) h = tt
  phase_rises (Waiting kept hello) h = tt
  phase_rises (Serves s) h = serving_rises s h

  news_rise : (slots : List SlotNews) → AllNewsRefer r slots → AllNewsRefer later slots
  news_rise slots all = all_weaker (NewsRefer r) (NewsRefer later) (λ (x : SlotNews) k. parts_rise x.parts k) slots all

  body_rises : (from : NodeId) (b : Body) → BodyRefers r from b → BodyRefers later from b
  body_rises from (body.Report m) h = w.end from m.end h
  body_rises from (body.CkptDone m) h = done_rises m h
  body_rises from (body.MapNews m) h = news_rise m.slots h
  body_rises from (body.Welcome m) h = news_rise m.news.slots h
  body_rises from _ h = tt

-- ---- of all to which nodes and packets refer

pub managers_rise : (r later : References) (m : Manager) → Weaker r later → ManagerRefers r m → ManagerRefers later m
managers_rise r later m w h = phase_rises r later w m.phase h

pub registry_rises : (r later : References) (node : RegistryNode) → Weaker r later → RegistryRefers r node → RegistryRefers later node
registry_rises r later node w h slot = parts_rise r later w (parts_at node.board.checkpoints slot) (h slot)

pub packets_rise : (r later : References) (p : Packet) → Weaker r later → PacketRefers r p → PacketRefers later p
packets_rise r later p w h = body_rises r later w p.from p.body h
