-- Each event of a manager that both small worlds see is owed what the small world of tokens asks of it.
use Rattle.std.proofs.Common.{◌≡◌, ℕ, true, Some, None, refl, sym, subst}
use Rattle.index_tie.specs.Net as index
use Rattle.manager_node.specs.declared.phase.Phase.{Phase}
use Rattle.manager_node.specs.declared.phase.Phase.TheVariants.{Down, Waiting, Serving as Serves}
use Rattle.manager_slots.specs.Slots.{epoch_of, fetch_of}
use Rattle.manager_slots.specs.Takeovers.{report_input}
use Rattle.manager_slots.specs.declared.slot_phase.SlotPhase.{SlotPhase}
use Rattle.manager_slots.specs.declared.slot_phase.SlotPhase.TheVariants as phase
use Rattle.node_slots.specs.node_index_tie.ManagerEvents as places
use Rattle.node_slots.specs.node_index_tie.Pages.{desk_of}
use Rattle.node_slots.specs.node_index_tie.Sight.{Questions, ReportKnown, held_in}
use Rattle.headline.specs.Filed.{AreTexts, Texts}
use Rattle.node_slots.proofs.node_index_tie.Handing.{OwesAt}
use Rattle.node_slots.specs.node_tie.ManagerEvents as owners
use Rattle.headline.specs.Managers.{phase_at}
use Rattle.node_slots.proofs.node_tie.ManagerTakes.{Brings}
use Rattle.segment_format.specs.declared.segment.Segment.{Segment}
use Rattle.takeover.specs.declared.input.In.{In as Input}
use Rattle.takeover.specs.declared.input.In.TheVariants.{Got, Missing as Lacks}
use Rattle.takeover.specs.declared.report.Report.{Report as Heard}
use Rattle.token_law.specs.Net as tokens
use Rattle.wire_msg.specs.declared.body.Body.{Body}
use Rattle.wire_msg.specs.declared.body.Body.TheVariants as body
use Rattle.wire_msg.specs.declared.deltas.Report.{Report}
use Rattle.wire_msg.specs.declared.packet.Do.TheVariants.{Begin, Deliver, Tick}
use Rattle.wire_msg.specs.declared.packet.Packet.{Packet}
use Rattle.run_laws.specs.world_law.Owes.{SlotTold, ServingTold}
use Rattle.xfs_base.specs.declared.node.NodeId.{NodeId}
use Rattle.xfs_base.specs.declared.node.NodeId.TheVariants.{Client, Manager, Server, Cleaner, Registry}
use Rattle.run_laws.specs.index_reads.Managers.{SlotSeen, ReportsGather, FoundGather, MissingGather, ManagersAreTold}
use Rattle.run_laws.specs.index_reads.Ties.{Tied}
use Rattle.run_laws.proofs.index_reads.Covered.{deltas_are_covered}
use Rattle.run_laws.proofs.index_reads.Gathers.{completes}

-- ---- what comes to a takeover

-- what is owed an input that comes to a slot
takeover_told : (members part : ℕ) (texts : Texts) (asked : Questions) (t : tokens.Net) (i : index.Net) (p : SlotPhase) (given : Input)
    → SlotSeen members part texts t i p → OwesAt part texts i p given → owners.TakeoverGets true members part t p given
takeover_told members part texts asked t i (phase.Taking u) given seen owes =
    completes members part texts t i seen.tied asked seen.desk u given seen.index_sees owes seen.filed
takeover_told members part texts asked t i (phase.Active a) given seen owes = tt
takeover_told members part texts asked t i (phase.Away epoch) given seen owes = tt
takeover_told members part texts asked t i (phase.Broken epoch seg) given seen owes = tt

none_is : (s : Segment) → None ≡ Some s → ⊥
none_is s h = absurd (cc)

module _ (part : ℕ) (texts : Texts) (i : index.Net) where
  report_owes : (p : SlotPhase) (from : NodeId) (m : Report) → ReportKnown part i m.epoch from m.end → m.epoch ≡ epoch_of p
      → OwesAt part texts i p (report_input from m)
  report_owes (phase.Taking u) from m known same = record {
    brings = λ r fact. subst (λ (x : Heard). ReportKnown part i u.epoch x.from x.end) (sym fact) (subst (λ e. ReportKnown part i e from m.end) same known);
    reads = λ s fact. absurd (none_is s fact);
  }
  report_owes (phase.Active a) from m known same = tt
  report_owes (phase.Away epoch) from m known same = tt
  report_owes (phase.Broken epoch seg) from m known same = tt

  answer_owes : (asked : Questions) (j : ℕ) (p : SlotPhase) (ask own : ℕ) (given : ℕ → Input) → ((own : ℕ) (r : Heard) → Brings (given own) r → ⊥)
      → places.AnswerGets part texts asked j i p ask given → fetch_of p ask ≡ Some own → OwesAt part texts i p (given own)
  answer_owes asked j (phase.Taking u) ask own given none gets fact =
      record { brings = λ r b. absurd (none own r b); reads = λ s done. gets u own s refl fact done }
  answer_owes asked j (phase.Active a) ask own given none gets fact = tt
  answer_owes asked j (phase.Away epoch) ask own given none gets fact = tt
  answer_owes asked j (phase.Broken epoch seg) ask own given none gets fact = tt

pub reports_gather : ReportsGather
reports_gather members part j texts asked t i p from m seen gets =
    λ of same. takeover_told members part texts asked t i p (report_input from m) seen (report_owes part texts i p from m (gets of) same)

pub found_gather : FoundGather
found_gather members part j texts asked t i p (Server v) m seen gets =
    λ own fact. takeover_told members part texts asked t i p (Got own v m.generation m.fragment) seen
    (answer_owes part texts i asked j p m.ask own (λ own. Got own v m.generation m.fragment) (λ own r b. b) gets fact)
found_gather members part j texts asked t i p (Client c) m seen gets = tt
found_gather members part j texts asked t i p (Manager c) m seen gets = tt
found_gather members part j texts asked t i p Cleaner m seen gets = tt
found_gather members part j texts asked t i p Registry m seen gets = tt

pub missing_gather : MissingGather
missing_gather members part j texts asked t i p (Server v) m seen gets =
    λ own fact. takeover_told members part texts asked t i p (Lacks own v m.generation) seen
    (answer_owes part texts i asked j p m.ask own (λ own. Lacks own v m.generation) (λ own r b. b) gets fact)
missing_gather members part j texts asked t i p (Client c) m seen gets = tt
missing_gather members part j texts asked t i p (Manager c) m seen gets = tt
missing_gather members part j texts asked t i p Cleaner m seen gets = tt
missing_gather members part j texts asked t i p Registry m seen gets = tt

-- ---- any event

slot_told : (members part j life known : ℕ) (texts : Texts) (asked : Questions) (t : tokens.Net) (i : index.Net) (p : SlotPhase) (from : NodeId) (m : Body)
    → SlotSeen members part texts t i p → places.ServingGets part texts asked j i life known p from m → SlotTold members part t p from m
slot_told members part j life known texts asked t i p from (body.Deltas m) seen gets = deltas_are_covered members part j texts asked t i p from m seen gets
slot_told members part j life known texts asked t i p from (body.Report m) seen gets = reports_gather members part j texts asked t i p from m seen gets
slot_told members part j life known texts asked t i p from (body.Fragment m) seen gets = found_gather members part j texts asked t i p from m seen gets
slot_told members part j life known texts asked t i p from (body.Missing m) seen gets = missing_gather members part j texts asked t i p from m seen gets
slot_told members part j life known texts asked t i p from _ seen gets = tt

module _ (members part j : ℕ) (texts : Texts) (asked : Questions) (t : tokens.Net) (i : index.Net) (tied : Tied members part (held_in part texts) t i)
    (filed : AreTexts texts i.filed) where
  packet_told : (p : Phase) (packet : Packet) → owners.ManagerAgrees members part t j p → places.ManagerAgrees part texts i p
      → places.PacketGets part texts asked j i p packet → ServingTold members part t p packet
  packet_told (Serves s) packet owned placed gets =
      slot_told members part j s.lasting.inc (owners.epoch_in part (Serves s)) texts asked t i (phase_at s.slots part) packet.from packet.body
      (record {
        tied = tied;
        filed = filed;
        tokens_see = owned.table.here;
        desk = desk_of s placed.0.given;
        index_sees = placed.0.here;
      })
      gets
  packet_told (Down kept) packet owned placed gets = tt
  packet_told (Waiting kept hello) packet owned placed gets = tt

pub managers_are_told : ManagersAreTold
managers_are_told members part j texts asked t i p (Deliver packet) tied filed owned placed gets =
    packet_told members part j texts asked t i tied filed p packet owned placed gets
managers_are_told members part j texts asked t i p Begin tied filed owned placed gets = tt
managers_are_told members part j texts asked t i p Tick tied filed owned placed gets = tt
