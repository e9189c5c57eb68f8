-- How a manager is seen depends on the slots that it holds, on what was sent and on what the registry keeps of its epochs alone: it stays while the small
-- world goes on.
use Rattle.std.proofs.Common.{◌≡◌, ℕ, Option, Some, None, refl, sym, subst, ◌∙◌}
use Rattle.node_slots.specs.node_index_tie.Pages.{Desk, desk_of}
use Rattle.index_tie.specs.Net.{Net}
use Rattle.manager_slots.specs.declared.slot_phase.Active.{Active}
use Rattle.manager_slots.specs.declared.slot_phase.SlotPhase.{SlotPhase}
use Rattle.manager_slots.specs.declared.slot_phase.SlotPhase.TheVariants as phase
use Rattle.manager_serving.specs.declared.checkpointing.Checkpointing.{Checkpointing}
use Rattle.manager_serving.specs.declared.serving.Serving.{Serving}
use Rattle.node_slots.specs.node_tie.ManagerEvents.{HeldAt}
use Rattle.headline.specs.Managers.{phase_at}
use Rattle.slot_beliefs.specs.Index.{pages_of}
use Rattle.takeover.specs.TakeState.{TakeState}
use Rattle.wire_msg.specs.declared.registry.CkptDone.{CkptDone}
use Rattle.node_slots.specs.node_index_tie.ManagerEvents.{TakingAgrees, ActiveAgrees, PhaseAgrees, ServingAgrees}
use Rattle.node_slots.specs.node_index_tie.Pages.{WriterAgrees, DoneIn, DoneSeen}
use Rattle.headline.specs.Filed.{Texts}
use Rattle.node_slots.proofs.node_index_tie.Moves.{Grows, report_on, news_on}
use Rattle.node_slots.proofs.node_index_tie.Puts.{paged_on, seen_on}

module _ (part : ℕ) (texts : Texts) (n m : Net) (g : Grows n m) where
  taking_on : (epoch : ℕ) (take : TakeState) → m.slots epoch ≡ n.slots epoch → TakingAgrees part texts n epoch take → TakingAgrees part texts m epoch take
  taking_on epoch take same k = record {
    news = k.news;
    groups = k.groups;
    clients = k.clients;
    inputs = k.inputs;
    take_is = k.take_is;
    slot = k.slot;
    of_epoch = k.of_epoch;
    known = news_on part n m g k.news (subst (λ e. m.slots e ≡ n.slots e) (sym k.of_epoch) same) k.known;
    whole = k.whole;
    present = k.present;
    reports = λ r fact. report_on part n m g epoch r.from r.end (k.reports r fact);
    once = k.once;
    ready = k.ready;
  }

  active_on : (desk : Desk) (a : Active) → m.slots a.slot.epoch ≡ n.slots a.slot.epoch → ActiveAgrees part texts n desk a → ActiveAgrees part texts m desk a
  active_on desk a same k = record {
    there = same ∙ k.there;
    nine = k.nine;
    short = k.short;
    pages = paged_on part texts n m g desk a.slot.epoch (pages_of a.slot.index) a.parts k.pages;
  }

  pub phase_on : (desk : Desk) (p : SlotPhase) → ((e : ℕ) → HeldAt p e → m.slots e ≡ n.slots e) → PhaseAgrees part texts n desk p
      → PhaseAgrees part texts m desk p
  phase_on desk (phase.Taking t) same k = taking_on t.epoch t.take (same t.epoch refl) k
  phase_on desk (phase.Active a) same k = active_on desk a (same a.slot.epoch refl) k
  phase_on desk (phase.Away epoch) same k = tt
  phase_on desk (phase.Broken epoch seg) same k = tt

  pub writer_on : (desk : Desk) → WriterAgrees part texts n desk → WriterAgrees part texts m desk
  writer_on desk k = record {
    same_log = k.same_log;
    named = k.named;
    nothing_waits = k.nothing_waits;
    idle = k.idle;
    answered = k.answered;
    work = λ w there of. seen_on part texts n m g desk w (k.work w there of);
  }

  done_in : (o : Option CkptDone) → DoneIn part n o → DoneIn part m o
  done_in None h = tt
  done_in (Some done) h = λ inside. g.sent _ (h inside)

  pub done_seen : (o : Option Checkpointing) → DoneSeen part n o → DoneSeen part m o
  done_seen None h = tt
  done_seen (Some job) h = done_in job.done h

  -- what others do: the slots that this manager holds stay, and so does what is known of their epochs
  pub serving_on : (s : Serving) → ((e : ℕ) → HeldAt (phase_at s.slots part) e → m.slots e ≡ n.slots e) → ServingAgrees part texts n s
      → ServingAgrees part texts m s
  serving_on s same k = record {
    eight = k.eight;
    given = k.given;
    here = phase_on (desk_of s k.given) (phase_at s.slots part) same k.here;
    writer = writer_on (desk_of s k.given) k.writer;
    closed = k.closed;
    done = done_seen s.checkpoint k.done;
  }
