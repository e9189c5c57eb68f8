-- What the nodes that own a log file while they serve, clients, the cleaner and managers: segments of it, of the incarnation that opened it, each of the number
-- behind the one that they filed last; and that no other node, nor one of these while it is down, files any.
use Rattle.std.specs.Prelude.{◌≡◌, ℕ, zero, suc, Bool, true, false, if◌then◌else◌, List, [], ◌∷◌, Option, Some, None, slice_get}
use Rattle.cleaner_node.specs.CleanerEvents as cleaners
use Rattle.cleaner_node.specs.declared.cleaner.Phase as cleaner
use Rattle.cleaner_node.specs.declared.cleaner.Phase.TheVariants as cleaner_phase
use Rattle.client_log.specs.LogState.{LogState}
use Rattle.client_node.specs.declared.phase.Phase as client
use Rattle.client_node.specs.declared.phase.Phase.TheVariants as client_phase
use Rattle.client_node.specs.Phases as clients
use Rattle.core_world.specs.declared.any_node.AnyNode.{AnyNode}
use Rattle.core_world.specs.declared.any_node.AnyNode.TheVariants as any
use Rattle.manager_node.specs.declared.phase.Phase.{Phase}
use Rattle.manager_node.specs.declared.phase.Phase.TheVariants.{Down, Waiting, Serving as Serves}
use Rattle.manager_node.specs.Phases as managers
use Rattle.version_model.specs.declared.act.Act.{Act}
use Rattle.version_model.specs.declared.act.Act.TheVariants as act
use Rattle.world_base.specs.declared.estate.Estate.{Estate}
use Rattle.world_base.specs.declared.event.Event.{Event}
use Rattle.world_base.specs.Events.{node_of}
use Rattle.xfs_base.specs.declared.node.NodeId.{NodeId}
use Rattle.xfs_base.specs.declared.segment.LogId.{LogId}
use Rattle.xfs_base.specs.declared.segment.SegName.{SegName}
use Rattle.xfs_base.specs.Logs.{log_of}
use Rattle.xfs_base.specs.Nodes.{same_node}
use Rattle.headline.specs.Moments.{acts_in, moment, node_named}
use Rattle.headline.specs.Restarts.{cleaners_log, clients_log}

-- the number of the segment that these acts file last; where they file none, the number before
abbrev pub filed_last : ℕ → List Act → ℕ
filed_last before [] = before
filed_last before (act.Filed name ∷ acts) = filed_last name.seq acts
filed_last before (_ ∷ acts) = filed_last before acts

-- a segment of this log, of this incarnation, and of the next number
pub record IsNext (own : LogId) (boot before : ℕ) (name : SegName) : Type 0 where
  pub log : name.log ≡ own
  pub inc : name.pass.inc ≡ boot
  pub number : name.seq ≡ suc before

-- each segment that these acts file is the next
abbrev pub FilesOn : (log : LogId) (boot before : ℕ) → List Act → Type 0
FilesOn log boot before [] = Unit {0}
FilesOn log boot before (act.Filed name ∷ acts) = IsNext log boot before name × FilesOn log boot name.seq acts
FilesOn log boot before (_ ∷ acts) = FilesOn log boot before acts

-- no segment is filed by these acts
abbrev pub FilesNothing : List Act → Type 0
FilesNothing [] = Unit {0}
FilesNothing (act.Filed name ∷ acts) = ⊥
FilesNothing (_ ∷ acts) = FilesNothing acts

-- the log of a manager that serves
abbrev pub managers_log : Phase → Option LogState
managers_log (Down kept) = None
managers_log (Waiting kept hello) = None
managers_log (Serves s) = Some s.log

-- the log of a node that owns one, while it serves
abbrev pub own_log : Option AnyNode → Option LogState
own_log None = None
own_log (Some (any.Client node)) = clients_log node.phase
own_log (Some (any.Manager node)) = managers_log node.phase
own_log (Some (any.Server node)) = None
own_log (Some (any.Cleaner node)) = cleaners_log node.phase
own_log (Some (any.Registry node)) = None

-- its incarnation
abbrev pub own_boot : Option AnyNode → ℕ
own_boot None = 0
own_boot (Some (any.Client node)) = (clients.lasting_of node.phase).inc
own_boot (Some (any.Manager node)) = (managers.lasting_of node.phase).inc
own_boot (Some (any.Server node)) = 0
own_boot (Some (any.Cleaner node)) = (cleaners.lasting_of node.phase).inc
own_boot (Some (any.Registry node)) = 0

-- the number behind which a node files on: that of the segment that it filed last; a manager that doesn't serve begins a new log, whose first segment is 1
abbrev pub files_from : Option AnyNode → ℕ → ℕ
files_from (Some (any.Manager node)) last = if managers.is_serving node.phase then last else 0
files_from _ last = last

-- whether a node opens its log, a client or the cleaner: it reads what there is of it, and files that again once it is open
abbrev pub client_opens : client.Phase → Bool
client_opens (client_phase.Down l) = false
client_opens (client_phase.Opening l o) = true
client_opens (client_phase.Serving s) = false

abbrev pub cleaner_opens : cleaner.Phase → Bool
cleaner_opens (cleaner_phase.Down l) = false
cleaner_opens (cleaner_phase.Opening l o) = true
cleaner_opens (cleaner_phase.Serving e) = false

abbrev pub opens_log : Option AnyNode → Bool
opens_log None = false
opens_log (Some (any.Client node)) = client_opens node.phase
opens_log (Some (any.Manager node)) = false
opens_log (Some (any.Server node)) = false
opens_log (Some (any.Cleaner node)) = cleaner_opens node.phase
opens_log (Some (any.Registry node)) = false

module _ (e : Estate AnyNode) (name : NodeId) where
  abbrev pub at : ℕ → Option AnyNode
  at place = node_named (moment e place) name

  -- the acts of the event at a place, where it is one of the node
  abbrev pub own_acts : ℕ → Option Event → List Act
  own_acts place None = []
  own_acts place (Some event) = if same_node (node_of event) name then acts_in (moment e place) event else []

  -- the number of the segment that it filed last by the events before a place; 0 where it filed none
  abbrev pub own_last : ℕ → ℕ
  own_last zero = 0
  own_last (suc place) = filed_last (files_from (at place) (own_last place)) (own_acts place (slice_get e.events place))

  pub record FilesItsLog : Type 0 where
    -- in each event before which it serves each segment that it files is the next, of the incarnation of its log
    pub numbers : (count : ℕ) (event : Event) → slice_get e.events count ≡ Some event → node_of event ≡ name → (log : LogState) → own_log (at count) ≡ Some log
        → FilesOn (log_of name) log.inc (own_last count) (acts_in (moment e count) event)
    -- in each other event it files nothing, but by the one in which the log that it opens is open
    pub nothing : (count : ℕ) (event : Event) → slice_get e.events count ≡ Some event → node_of event ≡ name → own_log (at count) ≡ None
        → (opens_log (at count) ≡ true → own_log (at (suc count)) ≡ None) → FilesNothing (acts_in (moment e count) event)
    -- the segment that it filed last is the end of its log, at each moment at which it serves
    pub ends : (count : ℕ) (log : LogState) → own_log (at count) ≡ Some log → log.end.seq ≡ own_last count
    -- the incarnation of its log is its own where it comes to serve, and stays as it is while it serves
    pub opens : (count : ℕ) (before after : AnyNode) (log : LogState) → at count ≡ Some before → at (suc count) ≡ Some after → own_log (Some before) ≡ None
        → own_log (Some after) ≡ Some log → log.inc ≡ own_boot (Some after)
    pub stays : (count : ℕ) (before after : AnyNode) (was log : LogState) → at count ≡ Some before → at (suc count) ≡ Some after
        → own_log (Some before) ≡ Some was → own_log (Some after) ≡ Some log → log.inc ≡ was.inc
