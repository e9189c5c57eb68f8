-- A manager's indexes, what its takeovers have read, and the pages of its checkpoints, say what is told, and so does what it grants, and answers the cleaner.
use Rattle.std.proofs.Common.{ℕ, zero, suc, List, [], ◌∷◌, Option, Some, None, filter, length, subst, sym}
use Rattle.std.specs.Prelude.{IfSome, drop, take}
use Rattle.std.specs.List.{AllByRecursion}
use Rattle.checkpoint.specs.declared.plan.Plan.{Plan}
use Rattle.checkpoint.specs.Plan.{writes_all, plan_of}
use Rattle.checkpoint.specs.WriterState.{Rows, items_of}
use Rattle.client_log.specs.declared.input.In.TheVariants as log_in
use Rattle.index_pages.specs.Pages.{PagesState, all_rows, changed_rows}
use Rattle.log_owner.specs.Sending.{server_in}
use Rattle.manager_node.specs.declared.phase.Phase.{Phase}
use Rattle.manager_node.specs.declared.phase.Phase.TheVariants.{Down, Waiting, Serving as Serves}
use Rattle.manager_serving.specs.declared.checkpointing.Checkpointing.{Checkpointing}
use Rattle.manager_serving.specs.declared.serving.Serving.{Serving}
use Rattle.manager_slots.specs.declared.slot_phase.SlotPhase.{SlotPhase}
use Rattle.manager_slots.specs.declared.slot_phase.SlotPhase.TheVariants as phase
use Rattle.node_moves.proofs.manager_walk.Events.{AwaitedSo, DoSo, PacketSo, PhaseFlies, PhaseSo}
use Rattle.node_moves.proofs.manager_walk.Laws.{IsPlain, JobSo, Walk}
use Rattle.node_moves.proofs.manager_walk.Serving.{AnswerSo, Asked, Hears}
use Rattle.node_moves.proofs.SlotPhases.{numbered, unnumbered}
use Rattle.slot_beliefs.specs.Index.{pages_of}
use Rattle.stripe_code.specs.declared.round.Told.{Told as Answered}
use Rattle.wire_msg.specs.declared.body.Body.{Body}
use Rattle.wire_msg.specs.declared.body.Body.TheVariants as body
use Rattle.wire_msg.specs.declared.packet.Do.{Do}
use Rattle.wire_msg.specs.declared.packet.Do.TheVariants.{Begin, Deliver, Tick}
use Rattle.wire_msg.specs.declared.packet.Packet.{Packet}
use Rattle.wire_msg.specs.declared.registry.CkptDone.{CkptDone}
use Rattle.xfs_base.proofs.Alls.{all_each, all_weaker}
use Rattle.xfs_base.proofs.Booleans.{by_test}
use Rattle.xfs_base.specs.declared.news.SlotNews.{SlotNews}
use Rattle.xfs_base.specs.declared.node.NodeId.{NodeId}
use Rattle.xfs_base.specs.declared.segment.SegRef.{SegRef}
use Rattle.node_tellings.specs.entry_tie.ManagerTells.{AnswerOwed, BodyOwed, DoOwed, FlightHolds, LogHolds, PacketOwed, PartTold, PhaseHolds, ReadTold, SlotHolds, SlotOwed, TakeOwed, WorkHolds}
use Rattle.node_tellings.specs.entry_tie.Told.{BodyTold, DoTold, PacketTold, RowsTold, Told}
use Rattle.node_tellings.proofs.entry_tie.Told.{AllowsNothing}
use Rattle.node_tellings.proofs.entry_tie.LogParts.{holds_heard, log_holds}
use Rattle.node_tellings.proofs.entry_tie.Rows.{entry_told, joined_told, pages_told}
use Rattle.node_tellings.proofs.entry_tie.Slots.{slot_goes, started_holds}

module _ (told : Told) (nothing : AllowsNothing told) where
  -- ---- checkpoints

  pub items_told : (slot number : ℕ) (pages : List Rows) → AllByRecursion (RowsTold told) pages → AllByRecursion (PartTold told) (items_of slot (take number pages))
  items_told slot number [] all = by_take number
    where
      by_take : (n : ℕ) → AllByRecursion (PartTold told) (items_of slot (take n []))
      by_take zero = tt
      by_take (suc n) = tt
  items_told slot zero (rows ∷ pages) all = tt
  items_told slot (suc number) (rows ∷ pages) all = (all.0, items_told slot number pages all.1)

  pub left_told : (number : ℕ) (pages : List Rows) → AllByRecursion (RowsTold told) pages → AllByRecursion (RowsTold told) (drop number pages)
  left_told zero pages all = all
  left_told (suc number) [] all = tt
  left_told (suc number) (rows ∷ pages) all = left_told number pages all.1

  pub plan_told : (s : PagesState) (parts : List SegRef) → RowsTold told s.rows → AllByRecursion (RowsTold told) (plan_of s parts).pages
  plan_told s parts all =
      by_test (λ (plan : Plan). AllByRecursion (RowsTold told) plan.pages) (writes_all (length parts)) (record { pages = all_rows s; parts = [] })
      (record { pages = changed_rows s; parts = parts }) (λ _. pages_told told s.rows s.pages all)
      (λ _. pages_told told s.rows (filter (λ page. page.changed) s.pages) all)

  pub plain_told : (b : Body) → IsPlain b → BodyTold told b
  plain_told (body.Grant m) is = absurd is
  plain_told (body.Live m) is = absurd is
  plain_told (body.Deltas m) is = absurd is
  plain_told _ is = tt

  -- ---- the walk

  abbrev pub walk : Walk
  walk = record {
    Ranges = λ log upto rows. RowsTold told rows;
    Reported = λ from end. Unit {0};
    News = λ news. Unit {0};
    Completes = λ s ask server t. TakeOwed told s ask server t;
    Managed = λ k a. RowsTold told a.slot.index.rows;
    Taken = λ k news index chain reports. ReadTold told index chain;
    Read = λ rows. RowsTold told rows;
    Handed = λ k epoch index applied. RowsTold told index;
    Granted = told;
    Work = λ it. WorkHolds told it;
    Items = λ items. AllByRecursion (PartTold told) items;
    Done = λ k epoch parts horizon. Unit {0};
    Log = λ s. LogHolds told s;
    Flies = λ l flight. Unit {0};
    Settles = λ l end. Unit {0};
    Tells = λ b. BodyTold told b;
    takes = λ k a given fact h. let d = slot_goes told nothing a.slot given fact h in d.state;
    says = λ k a given fact h. let d = slot_goes told nothing a.slot given fact h in d.outs;
    finds = λ k a block h. entry_told told nothing a.slot.index.rows block h;
    named = λ k a epoch parts horizon done h. h;
    clears = λ k a h. h;
    begins = λ k a h. plan_told (pages_of a.slot.index) a.parts h;
    starts = λ news fact. record { index = tt; chain = tt };
    heard = λ k news index chain reports report fact h. h;
    reads = λ s ask server t p r segment owed here fact completes. owed p r segment here fact completes;
    chained = λ k news index chain reports rows new h. record { index = h.index; chain = (new, h.chain) };
    joins = λ k news index chain reports h. record { index = joined_told told index chain h.index h.chain; chain = tt };
    hands = λ k s h. h.index;
    managed = λ k epoch index beliefs applied h. started_holds told nothing epoch index beliefs applied h;
    gives = λ it h. items_told it.slot 24 it.left h;
    left = λ it h. left_told 24 it.left h;
    done = λ it h. tt;
    parted = λ l it end fact h. h;
    settles = λ l f fact. tt;
    writes = λ s items fact h. log_holds told s (log_in.Parts items) fact h;
    hears = λ s given is h. holds_heard told s given is h;
    fresh = λ s clear flight. record { clear = clear; flight = subst (λ o. IfSome o (FlightHolds told)) (sym flight) tt };
    idle = λ l. tt;
    grants = λ m fact. fact;
    lives = λ m fact. fact;
    tells_done = λ m fact. tt;
    plain = λ b is. plain_told b is;
  }

  -- ---- what stands is what it is said to hold

  job_so : (checkpoint : Option Checkpointing) → JobSo walk checkpoint
  job_so None = tt
  job_so (Some job) = by job.done
    where
      by : (done : Option CkptDone) → IfSome done (λ m. Unit {0})
      by None = tt
      by (Some m) = tt

  pub stands : (p : Phase) → PhaseHolds told p → PhaseSo walk p
  stands (Down life) h = tt
  stands (Waiting life hello) h = tt
  stands (Serves s) h = record { slots = numbered (SlotHolds told) 0 s.slots h.slots; work = h.pages; job = job_so s.checkpoint; log = h.log }

  pub holds : (p : Phase) → PhaseSo walk p → PhaseHolds told p
  holds (Down life) h = tt
  holds (Waiting life hello) h = tt
  holds (Serves s) h = record { slots = unnumbered (SlotHolds told) 0 s.slots h.slots; pages = h.work; log = h.log }

  pub flies : (p : Phase) → PhaseFlies walk p
  flies (Down life) = tt
  flies (Waiting life hello) = tt
  flies (Serves s) = tt

  -- ---- what it is owed

  asked : (ask server : ℕ) (t : Answered) (p : SlotPhase) → SlotOwed told ask server t p → Asked walk ask server t p
  asked ask server t (phase.Taking taking) owed = owed
  asked ask server t _ owed = tt

  answered : (s : Serving) (server : Option ℕ) (ask : ℕ) (t : Answered) → AnswerOwed told s server ask t → AnswerSo walk s server ask t
  answered s None ask t owed = tt
  answered s (Some server) ask t owed = all_weaker (SlotOwed told ask server t) (Asked walk ask server t) (asked ask server t) s.slots owed

  any_news : (slots : List SlotNews) → AllByRecursion walk.News slots
  any_news slots = all_each (λ news. Unit {0}) (λ news. tt) slots

  hears : (s : Serving) (from : NodeId) (b : Body) → BodyTold told b → BodyOwed told s from b → Hears walk s from b
  hears s from (body.Deltas m) fact owed = fact
  hears s from (body.Report m) fact owed = tt
  hears s from (body.Fragment m) fact owed = answered s (server_in from) m.ask _ owed
  hears s from (body.Missing m) fact owed = answered s (server_in from) m.ask _ owed
  hears s from (body.MapNews m) fact owed = any_news m.slots
  hears s from (body.Welcome m) fact owed = any_news m.news.slots
  hears s from _ fact owed = tt

  awaited : (b : Body) → AwaitedSo walk b
  awaited (body.Welcome m) = any_news m.news.slots
  awaited _ = tt

  packet_so : (p : Phase) (packet : Packet) → PacketTold told packet → PacketOwed told p packet → PacketSo walk p packet
  packet_so (Down life) packet fact owed = tt
  packet_so (Waiting life hello) packet fact owed = awaited packet.body
  packet_so (Serves s) packet fact owed = hears s packet.from packet.body fact owed

  pub known : (p : Phase) (what : Do) → DoTold told what → DoOwed told p what → DoSo walk p what
  known p Begin fact owed = tt
  known p (Deliver packet) fact owed = packet_so p packet fact owed
  known p Tick fact owed = tt
