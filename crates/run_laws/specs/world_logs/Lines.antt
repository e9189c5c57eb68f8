-- The line of a log over a run: its small world at each count of the events, each of which runs on to the next.
use Rattle.std.specs.Prelude.{◌≡◌, ℕ, suc, Some, None, slice_get}
use Rattle.node_logs.specs.cleaner_log_tie.OwnerEvents.{Grows}
use Rattle.node_logs.specs.client_log_tie.ClientEvents.{Grown, ServesStraight}
use Rattle.node_logs.specs.client_log_tie.Owner.{Scene}
use Rattle.node_logs.specs.client_log_tie.Puts.{PutsOwn, ServesBy}
use Rattle.core_world.specs.AnyNode.{any_start, any_step}
use Rattle.core_world.specs.declared.any_node.AnyNode.{AnyNode}
use Rattle.log_law.specs.Events.{Runs}
use Rattle.log_law.specs.Events.Runs.{Begun, On}
use Rattle.log_law.specs.Laws.{Moment}
use Rattle.log_law.specs.Net.{Net}
use Rattle.log_law.specs.Tails.{then_on}
use Rattle.log_protocol.specs.Tables.{In}
use Rattle.log_tie.specs.Setting.{Setting}
use Rattle.node_base.specs.Setups.{IsSetup}
use Rattle.segment_format.specs.declared.segment.Segment.{Segment}
use Rattle.world_base.specs.Cluster.{cluster_of}
use Rattle.world_base.specs.declared.cluster.Cluster.{Cluster}
use Rattle.world_base.specs.declared.estate.Estate.{Estate}
use Rattle.world_base.specs.declared.event.Event.{Event}
use Rattle.world_base.specs.Events.{node_of}
use Rattle.world_base.specs.Runs.{IsRun}
use Rattle.headline.specs.Moments.{moment}
use Rattle.headline.specs.Logs.{IsThere, Role, did, log_by, owner_by}
use Rattle.headline.specs.Logs.Role.{OfClient, OfCleaner, OfManager}
use Rattle.run_laws.specs.world_logs.Settings.{setting_of}
use Rattle.run_laws.specs.world_logs.Standing.{Stands}
use Rattle.xfs_base.specs.declared.segment.SegName.{SegName}

-- a moment of a run that goes on
abbrev pub moment_then : {g : Setting} {n next : Net} → Moment g n → Runs g n next → Moment g next
moment_then m run = record { map = m.map; whole = m.whole; run = then_on m.run run }

-- nothing has happened yet
abbrev pub IsBegun : {g : Setting} {n m : Net} → Runs g n m → Type 0
IsBegun Begun = Unit {0}
IsBegun (On run happens) = ⊥

-- what only the owner of a log changes, and the segments that are filed, in flight or in its feed, stay as they were
pub record IsLeft (n next : Net) : Type 0 where
  pub inc : next.inc ≡ n.inc
  pub owner : next.owner ≡ n.owner
  pub filed : next.filed ≡ n.filed
  pub feed : next.feed ≡ n.feed
  pub flown : next.flown ≡ n.flown
  pub picked : next.picked ≡ n.picked

-- what an event of the owner makes of its small world
abbrev pub GrowsBy : Setting → Role → Scene → Scene → Type 0
GrowsBy g (OfClient c) w v = Grown g w v
GrowsBy g OfCleaner w v = Grows g w v
GrowsBy g (OfManager j) w v = Grown g w v

-- A client that owns the log, or the cleaner, comes to serve by one thing that happens; and where it doesn't serve then, it served nowhere on the way.
abbrev pub StraightBy : {g : Setting} {n next : Net} → Role → Runs g n next → Type 0
StraightBy (OfClient c) runs = ServesStraight runs
StraightBy OfCleaner runs = ServesStraight runs
StraightBy (OfManager j) runs = Unit {0}

-- What a client that owns the log puts into it while it serves are versions of its own, and nothing flies but what is in flight once it took one of these.
abbrev pub PutsBy : Role → Net → Net → Type 0
PutsBy (OfClient c) n next = ServesBy PutsOwn n next
PutsBy OfCleaner n next = Unit {0}
PutsBy (OfManager j) n next = Unit {0}

-- The small world of the log at each count of the events of a run stands to the moment there, and runs on to the next: at an event of its owner by the owner
-- alone, and at one of another node with the log left as it was; beyond the last event nothing happens.
module _ (base : Setting) (e : Estate AnyNode) where
  abbrev pub cluster : Cluster
  cluster = cluster_of e.script.setup

  abbrev pub setting : Role → Setting
  setting r = setting_of base e.world e.script.setup.servers r

  pub record Line (r : Role) : Type 0 where
    pub scene : ℕ → Scene
    pub stands : (count : ℕ) → Stands (setting r) r (scene count) cluster (moment e count).nodes (moment e count).sent (did e (log_by r) count)
    pub goes : (count : ℕ) → Runs (setting r) (scene count).net (scene (suc count)).net
    pub begins : IsBegun (stands 0).moment.run
    pub joined : (count : ℕ) → (stands (suc count)).moment ≡ moment_then (stands count).moment (goes count)
    pub own : (count : ℕ) (event : Event) → slice_get e.events count ≡ Some event → owner_by r ≡ node_of event
        → GrowsBy (setting r) r (scene count) (scene (suc count))
    pub straight : (count : ℕ) (event : Event) → slice_get e.events count ≡ Some event → owner_by r ≡ node_of event → StraightBy r (goes count)
    pub puts : (count : ℕ) (event : Event) → slice_get e.events count ≡ Some event → owner_by r ≡ node_of event
        → PutsBy r (scene count).net (scene (suc count)).net
    pub others : (count : ℕ) (event : Event) → slice_get e.events count ≡ Some event → (owner_by r ≡ node_of event → ⊥)
        → IsLeft (scene count).net (scene (suc count)).net
    pub ended : (count : ℕ) → slice_get e.events count ≡ None → scene (suc count) ≡ scene count

-- each log of a run has its line: each client's, the cleaner's and each manager's
abbrev pub HasLines : Setting → Estate AnyNode → Type 0
HasLines base e = (r : Role) → IsThere e.script.setup.clients e.script.setup.managers r → Line base e r

abbrev pub RunsHaveLines : Type 0
RunsHaveLines = (base : Setting) (e : Estate AnyNode) → IsSetup e.script.setup → IsRun any_step any_start e.script e.events e.world → HasLines base e

-- ---- texts

-- One text of each name for the whole run: each segment that was in flight in any log, at any count, is the text of its name.
pub record Texts (base : Setting) (e : Estate AnyNode) (lines : HasLines base e) : Type 0 where
  pub text : SegName → Segment
  pub flown : (r : Role) (there : IsThere e.script.setup.clients e.script.setup.managers r) (count : ℕ) (s : Segment)
      → In s ((lines r there).scene count).net.flown
      → text s.name ≡ s

-- the lines of a run have one text of each name
abbrev pub LinesHaveTexts : Type 0
LinesHaveTexts = (base : Setting) (e : Estate AnyNode) → IsSetup e.script.setup → (lines : HasLines base e) → Texts base e lines
