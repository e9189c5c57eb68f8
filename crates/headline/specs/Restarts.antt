-- When a restart of the owner of a log, a client or the cleaner, is doubtful (the 1996 paper, on recovery): some of what is claimed of a run ends with the first.
use Rattle.std.specs.Prelude.{◌≡◌, ◌⊎◌, ◌<◌, ◌≤◌, ◌+◌, ◌-◌, ℕ, suc, Bool, true, false, List, Option, Some, None, IfSome, is_some, length}
use Rattle.cleaner_node.specs.CleanerEvents.{lasting_of as cleaners_lasting}
use Rattle.cleaner_node.specs.declared.cleaner.Phase as cleaners
use Rattle.cleaner_node.specs.declared.cleaner.Phase.TheVariants as cleaning
use Rattle.client_log.specs.LogState.{LogState}
use Rattle.client_node.specs.declared.phase.Phase as clients
use Rattle.client_node.specs.declared.phase.Phase.TheVariants as phase
use Rattle.client_node.specs.Phases.{lasting_of as clients_lasting}
use Rattle.core_world.specs.declared.any_node.AnyNode.{AnyNode}
use Rattle.core_world.specs.declared.any_node.AnyNode.TheVariants as any
use Rattle.fragment_store.specs.ShelfState.{ShelfState, held_at}
use Rattle.group_map.specs.declared.group.Group.{Group}
use Rattle.log_flight.specs.Flights.{server_of}
use Rattle.log_owner.specs.declared.opening.Stage as opening
use Rattle.log_owner.specs.declared.opening.Stage.TheVariants as stage
use Rattle.log_scan.specs.declared.stage.Stage as scanning
use Rattle.log_scan.specs.declared.stage.Stage.TheVariants.{Asks, Gathers, Hails, Over, Reads}
use Rattle.segment_format.specs.declared.segment.Segment.{Segment}
use Rattle.token_protocol.specs.Basics.{In}
use Rattle.version_model.specs.declared.work.Work.{Work}
use Rattle.version_model.specs.declared.work.Work.TheVariants as work
use Rattle.world_base.specs.declared.estate.Estate.{Estate}
use Rattle.xfs_base.specs.declared.segment.SegName.{SegName}
use Rattle.headline.specs.Logs.{Role, owner_by}
use Rattle.headline.specs.Moments.{moment, node_named}
use Rattle.headline.specs.Segments.{IsText, NotDeleted}
use Rattle.headline.specs.Servers.{group_at, shelf_at}

-- the log of an owner that serves
abbrev pub clients_log : clients.Phase → Option LogState
clients_log (phase.Down l) = None
clients_log (phase.Opening l o) = None
clients_log (phase.Serving s) = Some s.log

abbrev pub cleaners_log : cleaners.Phase → Option LogState
cleaners_log (cleaning.Down l) = None
cleaners_log (cleaning.Opening l o) = None
cleaners_log (cleaning.Serving e) = Some e.log

abbrev pub log_in : Option AnyNode → Option LogState
log_in None = None
log_in (Some (any.Client node)) = clients_log node.phase
log_in (Some (any.Manager node)) = None
log_in (Some (any.Server node)) = None
log_in (Some (any.Cleaner node)) = cleaners_log node.phase
log_in (Some (any.Registry node)) = None

-- its boot, which outlives a crash
abbrev pub boot_in : Option AnyNode → ℕ
boot_in None = 0
boot_in (Some (any.Client node)) = (clients_lasting node.phase).inc
boot_in (Some (any.Manager node)) = 0
boot_in (Some (any.Server node)) = 0
boot_in (Some (any.Cleaner node)) = (cleaners_lasting node.phase).inc
boot_in (Some (any.Registry node)) = 0

-- one that opens its log writes its opening segment: it sent it to each member of a group, and waits for their answers
abbrev pub is_settling : opening.Stage → Bool
is_settling (stage.Scanning s) = false
is_settling (stage.Settling s) = true

abbrev pub client_writes : clients.Phase → Bool
client_writes (phase.Down l) = false
client_writes (phase.Opening l o) = is_settling o.stage
client_writes (phase.Serving s) = false

abbrev pub cleaner_writes : cleaners.Phase → Bool
cleaner_writes (cleaning.Down l) = false
cleaner_writes (cleaning.Opening l o) = is_settling o.stage
cleaner_writes (cleaning.Serving e) = false

abbrev pub writes_in : Option AnyNode → Bool
writes_in None = false
writes_in (Some (any.Client node)) = client_writes node.phase
writes_in (Some (any.Manager node)) = false
writes_in (Some (any.Server node)) = false
writes_in (Some (any.Cleaner node)) = cleaner_writes node.phase
writes_in (Some (any.Registry node)) = false

-- Down to which number a log is read back, once it is picked where that goes on: a scan reads down to the horizon that it took last; where the opening segment
-- is in flight, the chain before it is read.
abbrev pub scans_to : scanning.Stage → ℕ → Option ℕ
scans_to Hails low = None
scans_to (Gathers lists) low = None
scans_to (Asks lists) low = None
scans_to (Reads b r) low = Some low
scans_to Over low = None

abbrev pub reads_to : opening.Stage → Option ℕ
reads_to (stage.Scanning s) = scans_to s.scan.stage s.scan.opening.low
reads_to (stage.Settling s) = Some (s.log.end.seq + 1 - length s.chain)

abbrev pub client_reads_to : clients.Phase → Option ℕ
client_reads_to (phase.Down l) = None
client_reads_to (phase.Opening l o) = reads_to o.stage
client_reads_to (phase.Serving s) = None

abbrev pub cleaner_reads_to : cleaners.Phase → Option ℕ
cleaner_reads_to (cleaning.Down l) = None
cleaner_reads_to (cleaning.Opening l o) = reads_to o.stage
cleaner_reads_to (cleaning.Serving e) = None

abbrev pub low_in : Option AnyNode → Option ℕ
low_in None = None
low_in (Some (any.Client node)) = client_reads_to node.phase
low_in (Some (any.Manager node)) = None
low_in (Some (any.Server node)) = None
low_in (Some (any.Cleaner node)) = cleaner_reads_to node.phase
low_in (Some (any.Registry node)) = None

-- the newest segment that is settled in a log, by its end
abbrev pub newest : LogState → SegName
newest s = record { log = s.log; seq = s.end.seq; pass = s.end.pass }

-- a server holds no fragment of a segment
abbrev pub Lacks : Option ShelfState → SegName → Type 0
Lacks shelf name = IfSome shelf (λ s. held_at s.held name ≡ None)

-- it lost its disk from one moment to another
abbrev pub LostDisk : Option ShelfState → Option ShelfState → Type 0
LostDisk before after = IfSome before (λ s. IfSome after (λ t. s.generation < t.generation))

module _ (e : Estate AnyNode) where
  -- the log of an owner at a moment of the run, where it serves then
  abbrev pub log_at : Role → ℕ → Option LogState
  log_at r count = log_in (node_named (moment e count) (owner_by r))

  -- the boot of an owner at a moment of the run: the next one begins where it begins to open its log
  abbrev pub boot_at : Role → ℕ → ℕ
  boot_at r count = boot_in (node_named (moment e count) (owner_by r))

  -- whether an owner writes its opening segment at a moment of the run
  abbrev pub writes_at : Role → ℕ → Bool
  writes_at r count = writes_in (node_named (moment e count) (owner_by r))

  -- down to which number an owner reads its log back at a moment of the run, where it has picked where that goes on
  abbrev pub low_at : Role → ℕ → Option ℕ
  low_at r count = low_in (node_named (moment e count) (owner_by r))

  -- In the boot that an owner is in at a moment, the low by which its opening picked where the log goes on isn't above this number: at a moment of the boot, up
  -- to that one, it had picked, and read back to no more than the number.
  pub record ReadsBackTo (r : Role) (count seq : ℕ) : Type 0 where
    pub when : ℕ
    pub within : when ≤ count
    pub boot : boot_at r when ≡ boot_at r count
    pub low : ℕ
    pub reads : low_at r when ≡ Some low
    pub covers : low ≤ seq

  -- At a moment from one on and before another, while no server was told to delete the segment, a server lacked its fragment, or it lost its disk in the event
  -- there; and by the end of this event the owner had begun a boot in which, since the first of the two moments and up to the second, it wrote its opening
  -- segment, or a later boot.
  pub record LackedBetween (r : Role) (from to : ℕ) (name : SegName) (v : ℕ) : Type 0 where
    pub when : ℕ
    pub since : from ≤ when
    pub before : when < to
    pub wrote : ℕ
    pub after : from ≤ wrote
    pub within : wrote ≤ to
    pub writes : writes_at r wrote ≡ true
    pub begun : boot_at r wrote ≤ boot_at r (suc when)
    pub kept : NotDeleted (moment e when) name
    pub lacked : Lacks (shelf_at (moment e when) v) name ⊎ LostDisk (shelf_at (moment e when) v) (shelf_at (moment e (suc when)) v)

  -- A doubtful restart, which ends in the event at this count: each member of the newest segment of the log, unless that is below the low by which the opening
  -- picked its chain, lacked its fragment at some moment of its span. That is from where it began on; where attempts since the owner served last were cut short
  -- by a fall once they had written their opening segments, it is from where the first of these began.
  pub record DoubtfulRestart (r : Role) (count : ℕ) : Type 0 where
    -- the owner served last at this moment, and serves again after the event
    pub last : ℕ
    pub before : last < count
    pub log : LogState
    pub served : log_at r last ≡ Some log
    pub away : (k : ℕ) → last < k → k ≤ count → log_at r k ≡ None
    pub serves : is_some (log_at r (suc count)) ≡ true
    -- the newest segment of its log when it served last, over a group of the registry's: from then on whatever is held or was sent under the name is a fragment
    -- of it
    pub some : 0 < log.end.seq
    pub segment : Segment
    pub named : segment.name ≡ newest log
    -- what is below the low of the pick was given up: its loss is no doubt
    pub above : ReadsBackTo r count segment.name.seq
    pub group : Group
    pub striped : group_at e.world segment.group ≡ Some group
    pub text : (k : ℕ) → last ≤ k → k ≤ count → IsText (moment e k) segment.name segment group
    -- each of its members lacked its fragment
    pub lost : (place : ℕ) → place < length group.members → LackedBetween r last count segment.name (server_of group.members place)

  -- no restart that ended up to this count was doubtful
  abbrev pub NoDoubtfulRestart : ℕ → Type 0
  NoDoubtfulRestart count = (r : Role) (n : ℕ) → n < count → DoubtfulRestart r n → ⊥

-- no work of these has a server lose its disk
abbrev pub LosesNone : List Work → Type 0
LosesNone works = (server : ℕ) → In (work.Lose server) works → ⊥
