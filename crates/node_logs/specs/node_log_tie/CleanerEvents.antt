-- What an event makes of the cleaner, as the small world of a client's log sees it: it drops segments of that log, and has no other part in it.
use Rattle.std.specs.Prelude.{◌≡◌, ◌<◌, ◌≤◌, ◌⊎◌, ℕ, true, List, [], IfSome, All}
use Rattle.std.specs.List.{AllByRecursion}
use Rattle.xfs_base.specs.declared.fragment.FragMeta.{FragMeta}
use Rattle.xfs_base.specs.declared.node.NodeId.TheVariants.{Cleaner}
use Rattle.xfs_base.specs.declared.segment.LogId.{LogId}
use Rattle.xfs_base.specs.declared.segment.SegName.{SegName}
use Rattle.xfs_base.specs.declared.segment.SegRef.{SegRef}
use Rattle.xfs_base.specs.declared.setup.Setup.{Setup}
use Rattle.xfs_base.specs.Limits.{block_logs}
use Rattle.log_flight.specs.Flights.{FlightState}
use Rattle.client_log.specs.LogState.{LogState}
use Rattle.log_owner.specs.declared.opening.Opening as openings
use Rattle.log_owner.specs.declared.opening.Stage.{Stage}
use Rattle.log_owner.specs.declared.opening.Stage.TheVariants as stage
use Rattle.stripe_cleaner.specs.Candidates.{least_horizon}
use Rattle.stripe_cleaner.specs.declared.phase.Phase as phases
use Rattle.stripe_cleaner.specs.declared.phase.Phase.TheVariants.{Greeting, Listing, Counting, Reading, Checking, Deleting, Over}
use Rattle.version_model.specs.declared.act.Act.{Act}
use Rattle.version_model.specs.declared.act.Act.TheVariants.{Dropped}
use Rattle.version_model.specs.declared.work.Work.{Work}
use Rattle.wire_msg.specs.declared.body.Body.TheVariants as body
use Rattle.wire_msg.specs.declared.packet.Do.{Do}
use Rattle.wire_msg.specs.declared.packet.Do.TheVariants.{Begin, Deliver, Tick}
use Rattle.wire_msg.specs.declared.packet.Packet.{Packet}
use Rattle.cleaner_serving.specs.declared.emptying.Emptying.{Emptying}
use Rattle.cleaner_node.specs.CleanerEvents.{cleaner_start, cleaner_step}
use Rattle.cleaner_node.specs.declared.cleaner.Cleaner as cleaners
use Rattle.cleaner_node.specs.declared.cleaner.Phase.{Phase}
use Rattle.cleaner_node.specs.declared.cleaner.Phase.TheVariants.{Down, Opening, Serving}
use Rattle.cleaner_job.specs.declared.job.Job.{Job}
use Rattle.cleaner_job.specs.Starting.{cleaner_log}
use Rattle.log_protocol.specs.Tables.{In}
use Rattle.log_tie.specs.Setting.{Setting}
use Rattle.log_tie.specs.Shelves.{is_of_log}
use Rattle.log_law.specs.Net.{Net}
use Rattle.log_law.specs.Net.Packet.{ListedSent}
use Rattle.log_law.specs.Events.{Runs}
use Rattle.node_logs.specs.node_log_tie.Sight.{Asker, PacketSeen, AllSeen}

-- a log is the one of this id, and so is what it has in flight
pub record IsOfLog (id : LogId) (s : LogState) : Type 0 where
  pub log : s.log ≡ id
  pub flight : IfSome s.flight (λ (f : FlightState). f.segment.name.log ≡ id)

-- an opening of the cleaner's own log
abbrev pub StageSeen : Stage → Type 0
StageSeen (stage.Scanning s) = Unit {0}
StageSeen (stage.Settling s) = IsOfLog cleaner_log s.log

pub record OpeningSeen (o : openings.Opening) : Type 0 where
  pub log : o.known.owner.log ≡ cleaner_log
  pub stage : StageSeen o.stage

-- ---- how a job is seen

module _ (g : Setting) (n : Net) where
  -- a segment of the log may be dropped: some server listed it, it is below the least horizon, and it is of a log that is cleaned
  pub record MayDrop (name : SegName) : Type 0 where
    pub lists : List FragMeta
    pub sent : In (ListedSent lists) n.sent
    pub meta : FragMeta
    pub among : In meta lists
    pub named : meta.name ≡ name
    pub below : name.seq < n.low
    pub cleaned : name.log.0 ≤ block_logs

  abbrev pub DropOfLog : SegName → Type 0
  DropOfLog name = is_of_log g name ≡ true → MayDrop name

  abbrev pub AllDrop : List SegRef → Type 0
  AllDrop segs = AllByRecursion (λ (seg : SegRef). DropOfLog seg.name) segs

  abbrev pub Candidates : List (SegName × ℕ) → Type 0
  Candidates entries = AllByRecursion (λ (e : SegName × ℕ). DropOfLog e.0) entries

  -- what the job has chosen may be dropped; the horizon by which it judges is one that the least one has reached
  abbrev pub JobPhaseSeen : phases.Phase → Type 0
  JobPhaseSeen Greeting = Unit {0}
  JobPhaseSeen (Listing l) = (least_horizon l.slots g.log.0 ≤ n.low) × Candidates l.candidates
  JobPhaseSeen (Counting c) = Candidates c.candidates
  JobPhaseSeen (Reading j seg) = AllDrop j.left × DropOfLog seg.name
  JobPhaseSeen (Checking j seg checks) = AllDrop j.left × DropOfLog seg.name
  JobPhaseSeen (Deleting j seg servers) = AllDrop j.left × DropOfLog seg.name
  JobPhaseSeen Over = Unit {0}

  abbrev pub JobSeen : Job → Type 0
  JobSeen job = JobPhaseSeen job.cleaning.phase

  -- ---- how the cleaner is seen: its own log is another one

  pub record EmptyingSeen (e : Emptying) : Type 0 where
    pub log : IsOfLog cleaner_log e.log
    pub job : IfSome e.job JobSeen

  abbrev pub CleanerSeen : Phase → Type 0
  CleanerSeen (Down l) = Unit {0}
  CleanerSeen (Opening l o) = OpeningSeen o
  CleanerSeen (Serving e) = EmptyingSeen e

  -- a segment of the log that is acted to be dropped is dropped there
  abbrev pub DropActed : Act → Type 0
  DropActed (Dropped seg) = is_of_log g seg ≡ true → In seg n.dropped
  DropActed _ = Unit {0}

-- ---- what an event makes of it

abbrev pub CleanerOwed : Setting → Asker → Net → Do → Type 0
CleanerOwed g owner n Begin = Unit {0}
CleanerOwed g owner n (Deliver packet) = (packet.to ≡ Cleaner) × PacketSeen g owner n packet
CleanerOwed g owner n Tick = Unit {0}

-- the small world but for what was sent and dropped
abbrev pub all_but_drops : Net → Net
all_but_drops n = record n { sent = []; dropped = [] }

-- what is dropped was so before, or a Delete of it is sent
abbrev pub OnlyDeleted : Net → Net → List Packet → Type 0
OnlyDeleted n next sent =
    (name : SegName) → In name next.dropped → In name n.dropped ⊎ ((p : Packet) × In p sent × (p.body ≡ body.Delete (record { name = name })))

-- The small world runs on, by drops alone, to a net in which the cleaner is seen as it is then; all that it sends was sent, and what it acts to be dropped is,
-- and nothing else of the log but what it has servers delete. Of a manager's log it drops nothing: that small world stands still.
pub record CleanerGoes (g : Setting) (owner : Asker) (n : Net) (cleaner : cleaners.Cleaner) (what : Do) : Type 0 where
  pub next : Net
  pub runs : Runs g n next
  pub seen : CleanerSeen g next (cleaner_step cleaner what).node.phase
  pub sends : AllSeen g owner next (cleaner_step cleaner what).packets
  pub drops : All (DropActed g next) (cleaner_step cleaner what).acts
  pub only : OnlyDeleted n next (cleaner_step cleaner what).packets
  pub rest : all_but_drops next ≡ all_but_drops n
  pub none : block_logs < g.log.0 → next ≡ n

-- Each event of the cleaner, where the log is not its own.
abbrev pub CleanerEventGoes : Type 0
CleanerEventGoes =
    (g : Setting) (owner : Asker) (n : Net) (cleaner : cleaners.Cleaner) (what : Do) → (g.log ≡ cleaner_log → ⊥) → (owner.node ≡ Cleaner → ⊥)
    → CleanerSeen g n cleaner.phase
    → CleanerOwed g owner n what → CleanerGoes g owner n cleaner what

abbrev pub CleanerStarts : Type 0
CleanerStarts = (g : Setting) (n : Net) (setup : Setup) (works : List Work) → CleanerSeen g n (cleaner_start setup works).phase
