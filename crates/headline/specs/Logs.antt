-- Whose log it is, a client's, the cleaner's or a manager's, and what its owner did: the acts of its events.
use Rattle.std.specs.Prelude.{◌<◌, ◌≤◌, ℕ, Bool, true, false, ◌==◌, if◌then◌else◌, List, [], ◌∷◌, ◌++◌, take}
use Rattle.core_world.specs.AnyNode.{any_start, any_step}
use Rattle.core_world.specs.declared.any_node.AnyNode.{AnyNode}
use Rattle.version_model.specs.declared.act.Act.{Act}
use Rattle.world_base.specs.declared.estate.Estate.{Estate}
use Rattle.world_base.specs.declared.event.Event.{Event}
use Rattle.world_base.specs.declared.world.World.{World}
use Rattle.world_base.specs.Events.{node_of}
use Rattle.world_base.specs.NextWorld.{next_world, start_world}
use Rattle.xfs_base.specs.declared.node.NodeId.{NodeId}
use Rattle.xfs_base.specs.declared.node.NodeId.TheVariants as nodes
use Rattle.xfs_base.specs.declared.node.NodeId.TheVariants.{Cleaner, Client, Manager}
use Rattle.xfs_base.specs.Logs.{log_of}
use Rattle.headline.specs.Moments.{acts_in}

pub data Role : Type 0 where
  OfClient : ℕ → Role
  OfCleaner : Role
  OfManager : ℕ → Role

-- the number of its log, and its name
abbrev pub log_by : Role → ℕ
log_by (Role.OfClient c) = (log_of (Client c)).0
log_by Role.OfCleaner = (log_of Cleaner).0
log_by (Role.OfManager j) = (log_of (Manager j)).0

abbrev pub owner_by : Role → NodeId
owner_by (Role.OfClient c) = Client c
owner_by Role.OfCleaner = Cleaner
owner_by (Role.OfManager j) = Manager j

-- a manager's log begins anew where it restarts: of its line nothing is claimed
abbrev pub renews : Role → Bool
renews (Role.OfClient c) = false
renews Role.OfCleaner = false
renews (Role.OfManager j) = true

-- which owners of logs a run has
abbrev pub IsThere : (clients managers : ℕ) → Role → Type 0
IsThere clients managers (Role.OfClient c) = (0 < c) × (c ≤ clients)
IsThere clients managers Role.OfCleaner = Unit {0}
IsThere clients managers (Role.OfManager j) = (0 < j) × (j ≤ managers)

-- whether it owns the log of this number: the client of the number, the cleaner, or the manager whose log that is
abbrev pub owns : ℕ → NodeId → Bool
owns c (nodes.Client d) = (log_of (nodes.Client d)).0 == c
owns c (nodes.Manager j) = (log_of (nodes.Manager j)).0 == c
owns c (nodes.Server v) = false
owns c nodes.Cleaner = (log_of nodes.Cleaner).0 == c
owns c nodes.Registry = false

-- those of the owner of this log, where it is the one to which this happens
abbrev pub acts_of : ℕ → World AnyNode → Event → List Act
acts_of c w event = if owns c (node_of event) then acts_in w event else []

-- what the owner of this log does in these events
abbrev pub acts_by : ℕ → World AnyNode → List Event → List Act
acts_by c w [] = []
acts_by c w (event ∷ events) = acts_of c w event ++ acts_by c (next_world any_step w event) events

-- what it did in the first so many events of a run
abbrev pub did : Estate AnyNode → ℕ → ℕ → List Act
did e c count = acts_by c (start_world any_start e.script) (take count e.events)
