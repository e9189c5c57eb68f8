-- What keeps to bounds keeps to weaker ones.
use Rattle.std.proofs.Common.{ℕ, suc, List, [], ◌∷◌}
use Rattle.std.specs.Prelude.{Option, Some, None, IfSome}
use Rattle.manager_node.specs.declared.phase.Phase.{Phase}
use Rattle.manager_node.specs.declared.phase.Phase.TheVariants.{Down, Waiting, Serving as Serves}
use Rattle.manager_slots.specs.declared.slot_phase.SlotPhase.{SlotPhase}
use Rattle.manager_slots.specs.declared.slot_phase.SlotPhase.TheVariants as phase
use Rattle.manager_serving.specs.declared.checkpointing.Checkpointing.{Checkpointing}
use Rattle.manager_serving.specs.Serving.{fed_log}
use Rattle.xfs_base.specs.declared.segment.LogId.{LogId}
use Rattle.xfs_base.proofs.Alls.{all_weaker}
use Rattle.node_tellings.specs.filed_tie.Bounds.{Bounds, ReportBounded, SlotBounded, SlotsBounded, WorkBounded, DoneBounded, JobBounded, PhaseBounded}

-- what the first bounds allow the others do
pub record Weaker (b c : Bounds) : Type 0 where
  pub applied : (slot epoch : ℕ) (applied : List ℕ) → b.applied slot epoch applied → c.applied slot epoch applied
  pub horizon : (slot epoch : ℕ) (horizon : List ℕ) → b.horizon slot epoch horizon → c.horizon slot epoch horizon
  pub told : (log : Option LogId) (number : ℕ) → b.told log number → c.told log number

if_some : {X : Type 0} (P Q : X → Type 0) → ((x : X) → P x → Q x) → (o : Option X) → IfSome o P → IfSome o Q
if_some P Q weaker None h = tt
if_some P Q weaker (Some x) h = weaker x h

module _ (b c : Bounds) (weaker : Weaker b c) where
  slot_weaker : (k : ℕ) (p : SlotPhase) → SlotBounded b k p → SlotBounded c k p
  slot_weaker k (phase.Active a) h = weaker.applied k a.slot.epoch a.slot.applied h
  slot_weaker k (phase.Taking t) h = record {
    covered = weaker.horizon k t.take.news.epoch t.take.news.horizon h.covered;
    reported = all_weaker (ReportBounded b) (ReportBounded c) (λ r told. weaker.told (fed_log r.from) r.end.seq told) t.take.reports h.reported;
  }
  slot_weaker k (phase.Away epoch) h = tt
  slot_weaker k (phase.Broken epoch seg) h = tt

  slots_weaker : (from : ℕ) (slots : List SlotPhase) → SlotsBounded b from slots → SlotsBounded c from slots
  slots_weaker from [] all = tt
  slots_weaker from (p ∷ slots) all = (slot_weaker from p all.0, slots_weaker (suc from) slots all.1)

  job_weaker : (checkpoint : Option Checkpointing) → JobBounded b checkpoint → JobBounded c checkpoint
  job_weaker None h = tt
  job_weaker (Some job) h = if_some (DoneBounded b) (DoneBounded c) (λ done told. weaker.horizon done.slot done.epoch done.horizon told) job.done h

  pub phase_weaker : (p : Phase) → PhaseBounded b p → PhaseBounded c p
  phase_weaker (Down life) h = tt
  phase_weaker (Waiting life hello) h = tt
  phase_weaker (Serves s) h = record {
    slots = slots_weaker 0 s.slots h.slots;
    writer = if_some (WorkBounded b) (WorkBounded c) (λ w told. weaker.horizon w.slot w.epoch w.horizon told) s.writer.work h.writer;
    checkpoint = job_weaker s.checkpoint h.checkpoint;
  }
