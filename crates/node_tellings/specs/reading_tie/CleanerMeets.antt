-- Which segments a job of the cleaner is about: each, with its group, is one of which a server listed a fragment.
use Rattle.std.specs.Prelude.{◌≡◌, ℕ, List, Option, Some, None}
use Rattle.std.specs.List.{AllByRecursion}
use Rattle.cleaner_node.specs.CleanerEvents.{cleaner_start, cleaner_step}
use Rattle.cleaner_node.specs.declared.cleaner.Cleaner.{Cleaner}
use Rattle.cleaner_node.specs.declared.cleaner.Phase as nodes
use Rattle.cleaner_node.specs.declared.cleaner.Phase.TheVariants.{Down, Opening, Serving}
use Rattle.cleaner_job.specs.declared.hand.Hand.{Hand}
use Rattle.cleaner_job.specs.declared.job.Job.{Job}
use Rattle.log_owner.specs.Sending.{server_in}
use Rattle.stripe_cleaner.specs.declared.phase.Phase.{Phase}
use Rattle.stripe_cleaner.specs.declared.phase.Phase.TheVariants.{Greeting, Listing, Counting, Reading, Checking, Deleting, Over}
use Rattle.token_protocol.specs.Basics.{In}
use Rattle.version_model.specs.declared.work.Work.{Work}
use Rattle.wire_msg.specs.declared.body.Body.TheVariants as body
use Rattle.wire_msg.specs.declared.packet.Do.{Do}
use Rattle.wire_msg.specs.declared.packet.Do.TheVariants.{Begin, Deliver, Tick}
use Rattle.wire_msg.specs.declared.packet.Packet.{Packet}
use Rattle.wire_msg.specs.declared.storage.Listed.{Listed}
use Rattle.xfs_base.specs.declared.fragment.FragMeta.{FragMeta}
use Rattle.xfs_base.specs.declared.node.NodeId.{NodeId}
use Rattle.xfs_base.specs.declared.segment.SegName.{SegName}
use Rattle.xfs_base.specs.declared.segment.SegRef.{SegRef}
use Rattle.xfs_base.specs.declared.setup.Setup.{Setup}

-- ---- what a job is about

-- which names were met, each with which group
abbrev pub Met : Type 1
Met = SegName → ℕ → Type 0

abbrev pub RefMet : Met → SegRef → Type 0
RefMet met seg = met seg.name seg.group

-- a candidate, with its group
abbrev pub CandidateMet : Met → SegName × ℕ → Type 0
CandidateMet met e = met e.0 e.1

-- the segment that is emptied, and those that are to be emptied behind it
pub record TurnMet (met : Met) (left : List SegRef) (seg : SegRef) : Type 0 where
  pub here : RefMet met seg
  pub behind : AllByRecursion (RefMet met) left

abbrev pub PhaseMet : Met → Phase → Type 0
PhaseMet met Greeting = Unit {0}
PhaseMet met (Listing l) = AllByRecursion (CandidateMet met) l.candidates
PhaseMet met (Counting c) = AllByRecursion (CandidateMet met) c.candidates
PhaseMet met (Reading j seg) = TurnMet met j.left seg
PhaseMet met (Checking j seg checks) = TurnMet met j.left seg
PhaseMet met (Deleting j seg servers) = TurnMet met j.left seg
PhaseMet met Over = Unit {0}

abbrev pub HandMet : Met → Option Hand → Type 0
HandMet met None = Unit {0}
HandMet met (Some hand) = RefMet met hand.seg

-- the segments of a job, and the one in its hand
pub record JobMet (met : Met) (phase : Phase) (its : Option Hand) : Type 0 where
  pub about : PhaseMet met phase
  pub hand : HandMet met its

abbrev pub AnyJobMet : Met → Option Job → Type 0
AnyJobMet met None = Unit {0}
AnyJobMet met (Some job) = JobMet met job.cleaning.phase job.hand

abbrev pub NodeMet : Met → nodes.Phase → Type 0
NodeMet met (Down l) = Unit {0}
NodeMet met (Opening l o) = Unit {0}
NodeMet met (Serving e) = AnyJobMet met e.job

abbrev pub CleanerMeets : Met → Cleaner → Type 0
CleanerMeets met cleaner = NodeMet met cleaner.phase

-- ---- what servers listed

-- a fragment of this name, of a segment over this group, is listed in one of these packets, to this node and from a server
pub record ListedIn (packets : List Packet) (to : NodeId) (name : SegName) (group : ℕ) : Type 0 where
  pub packet : Packet
  pub among : In packet packets
  pub reader : packet.to ≡ to
  pub server : ℕ
  pub from : server_in packet.from ≡ Some server
  pub said : Listed
  pub bears : packet.body ≡ body.Listed said
  pub meta : FragMeta
  pub held : In meta said.held
  pub named : name ≡ meta.name
  pub grouped : group ≡ meta.group

abbrev pub listed_in : List Packet → NodeId → Met
listed_in packets to name group = ListedIn packets to name group

-- the packet that is delivered is one of these, to this node
abbrev pub IsSent : List Packet → NodeId → Do → Type 0
IsSent packets to Begin = Unit {0}
IsSent packets to (Deliver packet) = In packet packets × (packet.to ≡ to)
IsSent packets to Tick = Unit {0}

-- ---- the laws

abbrev pub CleanerStartsMet : Type 0
CleanerStartsMet = (packets : List Packet) (to : NodeId) (setup : Setup) (works : List Work) → CleanerMeets (listed_in packets to) (cleaner_start setup works)

-- what was listed in these packets was listed in more of them too
abbrev pub CleanerMeetsRise : Type 0
CleanerMeetsRise =
    (packets more : List Packet) (to : NodeId) (cleaner : Cleaner) → ((p : Packet) → In p packets → In p more) → CleanerMeets (listed_in packets to) cleaner
    → CleanerMeets (listed_in more to) cleaner

-- whatever happens to the cleaner
abbrev pub CleanerEventsMeet : Type 0
CleanerEventsMeet =
    (packets : List Packet) (to : NodeId) (cleaner : Cleaner) (what : Do) → CleanerMeets (listed_in packets to) cleaner → IsSent packets to what
    → CleanerMeets (listed_in packets to) (cleaner_step cleaner what).node
