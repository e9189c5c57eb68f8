-- What others do in the small world leaves a manager seen there.
use Rattle.std.proofs.Common.{◌≡◌, ℕ, suc, ◌<◌, ◌≤◌, List, Option, Some, None, refl, sym, ap, subst, ◌∙◌, arith}
use Rattle.xfs_base.specs.declared.node.NodeId.{NodeId}
use Rattle.xfs_base.specs.declared.node.NodeId.TheVariants.{Client, Cleaner}
use Rattle.xfs_base.specs.declared.segment.End.{End}
use Rattle.checkpoint.specs.Laws.{Event}
use Rattle.checkpoint.specs.WriterState.{WorkState}
use Rattle.index_pages.specs.Pages.{PagesState}
use Rattle.index_tie.specs.Net.{Net}
use Rattle.index_tie.specs.Takeovers.{IsEnd}
use Rattle.headline.specs.Indexes.{of_log}
use Rattle.manager_node.specs.declared.phase.Phase.TheVariants.{Down, Waiting, Serving as Serves}
use Rattle.manager_slots.specs.declared.slot_phase.SlotPhase.{SlotPhase}
use Rattle.manager_slots.specs.declared.slot_phase.SlotPhase.TheVariants as phase
use Rattle.manager_serving.specs.declared.checkpointing.Checkpointing.{Checkpointing}
use Rattle.node_slots.specs.node_tie.ManagerEvents.{HeldAt}
use Rattle.headline.specs.Managers.{phase_at}
use Rattle.segment_format.specs.declared.segment.Segment.{Segment}
use Rattle.slot_beliefs.specs.Index.{pages_of}
use Rattle.takeover.specs.TakeState.{TakeState}
use Rattle.wire_msg.specs.declared.registry.CkptDone.{CkptDone}
use Rattle.xfs_base.specs.declared.segment.SegRef.{SegRef}
use Rattle.xfs_base.specs.Logs.{cleaners_number}
use Rattle.node_slots.specs.node_index_tie.ManagerEvents.{TakingAgrees, PhaseAgrees, Passes, ManagersStay}
use Rattle.node_slots.specs.node_index_tie.Pages.{Desk, desk_of, IsWork, Paged, WriterAgrees, DoneIn, DoneSeen}
use Rattle.node_slots.specs.node_index_tie.Pages.Paged.{Covered, Written, Ended}
use Rattle.node_slots.specs.node_index_tie.Sight.{EndKnown, ReportKnown}
use Rattle.headline.specs.Filed.{Texts}

module _ (part : ℕ) (texts : Texts) (n m : Net) (held : SlotPhase) (t : Passes n m held) where
  -- ---- reports

  module _ (epoch : ℕ) (here : HeldAt held epoch) (free : n.slots epoch ≡ None) where
    same : m.horizon epoch ≡ n.horizon epoch
    same = t.horizon epoch here free

    end_stays : (log : ℕ) (end : End) → EndKnown part n epoch log end → EndKnown part m epoch log end
    end_stays log end k = record {
      filed = λ some low. end_is (old some) (old_low low);
      linked = λ some q low high.
          let first : of_log (n.horizon epoch) log ≤ q = subst (λ (h : List ℕ). of_log h log ≤ q) same low in
          let above : 0 < of_log (n.horizon epoch) log = old some in
          let end_filed = k.filed above (omega arith) in
          let limit = end_filed.filed in
          ap (λ (s : Segment). s.prior.pass) (t.filed.segment log (suc q) (omega arith) (omega arith)) ∙ k.linked above q first high ∙ sym
          (ap (λ (s : Segment). s.name.pass) (t.filed.segment log q (omega arith) (omega arith)));
      short = k.short;
    }
      where
        old : 0 < of_log (m.horizon epoch) log → 0 < of_log (n.horizon epoch) log
        old some = subst (λ (h : List ℕ). 0 < of_log h log) same some

        old_low : of_log (m.horizon epoch) log ≤ end.seq → of_log (n.horizon epoch) log ≤ end.seq
        old_low low = subst (λ (h : List ℕ). of_log h log ≤ end.seq) same low

        end_is : 0 < of_log (n.horizon epoch) log → of_log (n.horizon epoch) log ≤ end.seq → IsEnd m.filed log end
        end_is some low =
            let e = k.filed some low in
            let limit = e.filed in
            record {
              filed = let up = t.filed.head log in omega arith;
              named = e.named ∙ sym
                  (ap (λ (s : Segment). s.name.pass) (t.filed.segment log end.seq (omega arith) (omega arith)));
            }

    report_stays : (from : NodeId) (end : End) → ReportKnown part n epoch from end → ReportKnown part m epoch from end
    report_stays (Client c) end k = end_stays c end k
    report_stays Cleaner end k = (end_stays cleaners_number end k.0, t.sent _ k.1)
    report_stays _ end k = tt

  -- ---- the slot

  taking_stays : (epoch : ℕ) (take : TakeState) → HeldAt held epoch → TakingAgrees part texts n epoch take → TakingAgrees part texts m epoch take
  taking_stays epoch take here k =
      let free : n.slots epoch ≡ None = subst (λ e. n.slots e ≡ None) k.of_epoch k.known.free in
      record {
        news = k.news;
        groups = k.groups;
        clients = k.clients;
        inputs = k.inputs;
        take_is = k.take_is;
        slot = k.slot;
        of_epoch = k.of_epoch;
        known = record {
          free = ap m.slots k.of_epoch ∙ t.slots epoch here ∙ free;
          some = k.known.some;
          begun = let b = k.known.begun in let up = t.epoch in omega arith;
          horizon = k.known.horizon ∙ ap n.horizon k.of_epoch ∙ sym (t.horizon epoch here free) ∙ sym (ap m.horizon k.of_epoch);
          parts = k.known.parts ∙ ap n.parts k.of_epoch ∙ sym (t.parts epoch here free) ∙ sym (ap m.parts k.of_epoch);
          from_one = k.known.from_one;
          short = k.known.short;
        };
        whole = k.whole;
        present = k.present;
        reports = λ r fact. report_stays epoch here free r.from r.end (k.reports r fact);
        once = k.once;
        ready = k.ready;
      }

  work_stays : (desk : Desk) (events : List Event) (w : WorkState) → IsWork part texts n desk events w → IsWork part texts m desk events w
  work_stays desk events w k = record {
    planned = t.sent _ k.planned;
    begun = λ none. k.begun (t.stay w.epoch none);
    may = k.may;
    segments = k.segments;
    parts = k.parts;
    rows = k.rows;
    flies = k.flies;
  }

  pages_stay : (desk : Desk) (epoch : ℕ) (pages : PagesState) (parts : List SegRef) → Paged part texts n desk epoch pages parts
      → Paged part texts m desk epoch pages parts
  pages_stay desk epoch pages parts (Covered events may fact none) = Covered events may fact none
  pages_stay desk epoch pages parts (Written events w rows there of at work fits fact) = Written events w rows there of at (work_stays desk events w work) fits
      fact
  pages_stay desk epoch pages parts (Ended number none) = Ended number none

  phase_stays : (desk : Desk) (p : SlotPhase) → ((e : ℕ) → HeldAt p e → HeldAt held e) → PhaseAgrees part texts n desk p → PhaseAgrees part texts m desk p
  phase_stays desk (phase.Taking x) here k = taking_stays x.epoch x.take (here x.epoch refl) k
  phase_stays desk (phase.Active a) here k = record {
    there = t.slots a.slot.epoch (here a.slot.epoch refl) ∙ k.there;
    nine = k.nine;
    short = k.short;
    pages = pages_stay desk a.slot.epoch (pages_of a.slot.index) a.parts k.pages;
  }
  phase_stays desk (phase.Away epoch) here k = tt
  phase_stays desk (phase.Broken epoch seg) here k = tt

  writer_stays : (desk : Desk) → WriterAgrees part texts n desk → WriterAgrees part texts m desk
  writer_stays desk k = record {
    same_log = k.same_log;
    named = k.named;
    nothing_waits = k.nothing_waits;
    idle = k.idle;
    answered = k.answered;
    work = λ w there of. let s = k.work w there of in record { events = s.events; as_planned = work_stays desk s.events w s.as_planned };
  }

  done_in : (o : Option CkptDone) → DoneIn part n o → DoneIn part m o
  done_in None h = tt
  done_in (Some done) h = λ inside. t.sent _ (h inside)

  done_stays : (o : Option Checkpointing) → DoneSeen part n o → DoneSeen part m o
  done_stays None h = tt
  done_stays (Some job) h = done_in job.done h

pub managers_stay : ManagersStay
managers_stay part texts n m (Down kept) t k = tt
managers_stay part texts n m (Waiting kept hello) t k = tt
managers_stay part texts n m (Serves s) t k = (
  record {
    eight = k.0.eight;
    given = k.0.given;
    here = phase_stays part texts n m (phase_at s.slots part) t (desk_of s k.0.given) (phase_at s.slots part) (λ e h. h) k.0.here;
    writer = writer_stays part texts n m (phase_at s.slots part) t (desk_of s k.0.given) k.0.writer;
    closed = k.0.closed;
    done = done_stays part texts n m (phase_at s.slots part) t s.checkpoint k.0.done;
  },
  k.1,
)
