-- What stands behind an answer of a client, or of the cleaner: the act that it tells of, before it in the same event; or, of an item that is cut, the crash. A write
-- answers its block's newest version.
use Rattle.std.specs.Prelude.{◌≡◌, ℕ, suc, List, ◌∷◌, ◌++◌, Option, Some, slice_get}
use Rattle.cleaner_node.specs.CleanerEvents.{lasting_of}
use Rattle.cleaner_node.specs.declared.cleaner.Cleaner.{Cleaner as Sweeper}
use Rattle.core_world.specs.declared.any_node.AnyNode.{AnyNode}
use Rattle.core_world.specs.declared.any_node.AnyNode.TheVariants as any
use Rattle.log_owner.specs.Sending.{name_of}
use Rattle.token_protocol.specs.Basics.{In}
use Rattle.version_model.specs.declared.act.Act.{Act}
use Rattle.version_model.specs.declared.act.Act.TheVariants as act
use Rattle.version_model.specs.declared.answer.Answer.{Answer}
use Rattle.version_model.specs.declared.answer.Answer.TheVariants as answer
use Rattle.version_model.specs.declared.work.Work.{Work}
use Rattle.version_model.specs.declared.work.Work.TheVariants as work
use Rattle.world_base.specs.declared.estate.Estate.{Estate}
use Rattle.world_base.specs.declared.event.Event.{Event}
use Rattle.world_base.specs.declared.world.World.{World}
use Rattle.world_base.specs.Items.{items_of}
use Rattle.xfs_base.specs.declared.node.NodeId.{NodeId}
use Rattle.xfs_base.specs.declared.node.NodeId.TheVariants.{Cleaner, Client}
use Rattle.xfs_base.specs.declared.segment.End.{End}
use Rattle.xfs_base.specs.declared.segment.SegName.{SegName}
use Rattle.xfs_base.specs.Logs.{cleaner_log}
use Rattle.headline.specs.Items.{Falls, IsFileCall, asked_at}
use Rattle.headline.specs.Moments.{acts_in, moment, node_named}
use Rattle.headline.specs.Restarts.{NoDoubtfulRestart}
use Rattle.headline.specs.Versions.{IsNewest, history_at}

-- it falls: the item by which it does is answered behind
abbrev pub IsCut : List Work → (ℕ → Type 0) → Type 0
IsCut works done = (item : ℕ) × (Falls (asked_at works item) × done item)

module _ (client : ℕ) where
  -- it read this version of the block that it was asked for, and this value
  abbrev pub IsRead : Option Work → List Act → ℕ → Option (List ℕ) → Type 0
  IsRead (Some (work.Bget c block)) before ver value = In (act.Read client block ver value) before
  IsRead _ before ver value = ⊥

  -- it wrote the block that it was asked to, with this value
  abbrev pub IsWritten : Option Work → List Act → Type 0
  IsWritten (Some (work.Bput c block value)) before = In (act.Wrote client block value) before
  IsWritten _ before = ⊥

  -- all that it changed is settled; or it is back; a block that is read or written is never answered so
  abbrev pub IsDone : Option Work → List Act → Type 0
  IsDone (Some (work.Sync c)) before = In (act.Synced client) before
  IsDone (Some (work.Restart node)) before = (chain : List SegName) × In (act.Back client chain) before
  IsDone (Some (work.Bget c block)) before = ⊥
  IsDone (Some (work.Bput c block value)) before = ⊥
  IsDone _ before = Unit {0}

  -- So an answer of this client, which has these works, is founded, to an item that asks for this, behind these acts of the same event and before it is done
  -- with these items. That it is busy, down or up, or that a segment is lost, may be the answer to any item.
  abbrev pub IsFounded : List Work → Option Work → List Act → (ℕ → Type 0) → Answer → Type 0
  IsFounded works w before done (answer.Got ver value) = IsRead w before ver value
  IsFounded works w before done (answer.Version ver) = IsWritten w before
  IsFounded works w before done answer.Done = IsDone w before
  IsFounded works w before done answer.Cut = IsCut works done
  IsFounded works w before done (answer.Made ino) = IsFileCall w
  IsFounded works w before done (answer.Bytes bytes) = IsFileCall w
  IsFounded works w before done (answer.Size size) = IsFileCall w
  IsFounded works w before done (answer.Names names) = IsFileCall w
  IsFounded works w before done (answer.File fault) = IsFileCall w
  IsFounded works w before done (answer.Epoch epoch) = ⊥
  IsFounded works w before done (answer.Count count) = ⊥
  IsFounded works w before done (answer.Rebuilt filled gone) = ⊥
  IsFounded works w before done answer.Busy = Unit {0}
  IsFounded works w before done answer.Down = Unit {0}
  IsFounded works w before done answer.Up = Unit {0}
  IsFounded works w before done (answer.Lost seg) = Unit {0}

-- a restart of the cleaner is done: it has acted that a segment of its log is filed, of such an incarnation
abbrev pub IsReopened : (ℕ → Type 0) → Option Work → List Act → Type 0
IsReopened Is (Some (work.Restart node)) before = (end : End) × (Is end.pass.inc × In (act.Filed (name_of cleaner_log end)) before)
IsReopened Is _ before = Unit {0}

-- So an answer of the cleaner, which is in such an incarnation, is founded, in the same way.
abbrev pub IsCleaners : (ℕ → Type 0) → List Work → Option Work → List Act → (ℕ → Type 0) → Answer → Type 0
IsCleaners Is works w before done answer.Done = IsReopened Is w before
IsCleaners Is works w before done answer.Cut = IsCut works done
IsCleaners Is works w before done _ = Unit {0}

-- a node answers that an item is done, by one of these acts
abbrev pub IsDoneBy : NodeId → List Act → ℕ → Type 0
IsDoneBy node acts item = In (act.Answered node item answer.Done) acts

-- the incarnation of the cleaner in this world is this one
abbrev pub IsCleanersIncarnation : World AnyNode → ℕ → Type 0
IsCleanersIncarnation w inc = (c : Sweeper) × ((node_named w Cleaner ≡ Some (any.Cleaner c)) × ((lasting_of c.phase).inc ≡ inc))

pub record AnswersAreActs (e : Estate AnyNode) : Type 0 where
  -- in each event, wherever among its acts a client answers an item, that is founded, of what the script asks for by the item, on the acts before, and, where it
  -- is cut, on those behind
  pub clients : (count : ℕ) (event : Event) → slice_get e.events count ≡ Some event → (client item : ℕ) (a : Answer) (before behind : List Act)
      → acts_in (moment e count) event ≡ before ++ act.Answered (Client client) item a ∷ behind
      → IsFounded client (items_of e.script.lines (Client client)) (asked_at (items_of e.script.lines (Client client)) item) before
      (IsDoneBy (Client client) behind) a
  -- and so it is of the cleaner: where its restart is done, the segment that is filed is of the incarnation in which it opened its log
  pub cleaner : (count : ℕ) (event : Event) → slice_get e.events count ≡ Some event → (item : ℕ) (a : Answer) (before behind : List Act)
      → acts_in (moment e count) event ≡ before ++ act.Answered Cleaner item a ∷ behind
      → IsCleaners (IsCleanersIncarnation (moment e count)) (items_of e.script.lines Cleaner) (asked_at (items_of e.script.lines Cleaner) item) before
      (IsDoneBy Cleaner behind) a
  -- and, of what is cut, of each node
  pub cuts : (count : ℕ) (event : Event) → slice_get e.events count ≡ Some event → (node : NodeId) (item : ℕ) (before behind : List Act)
      → acts_in (moment e count) event ≡ before ++ act.Answered node item answer.Cut ∷ behind
      → IsCut (items_of e.script.lines node) (IsDoneBy node behind)

-- the block that is asked to be written has this version as its newest, with the value that is asked for
abbrev pub IsNewestOf : Option Work → World AnyNode → ℕ → Type 0
IsNewestOf (Some (work.Bput client block value)) w ver = IsNewest (history_at w block) ver value
IsNewestOf _ w ver = ⊥

-- wherever among the acts of an event a client answers a version, it is so at the end of the event
abbrev pub VersionsAreNewest : Estate AnyNode → Type 0
VersionsAreNewest e =
    (count : ℕ) (event : Event) → slice_get e.events count ≡ Some event → NoDoubtfulRestart e (suc count) → (client item ver : ℕ) (before behind : List Act)
    → acts_in (moment e count) event ≡ before ++ act.Answered (Client client) item (answer.Version ver) ∷ behind
    → IsNewestOf (asked_at (items_of e.script.lines (Client client)) item) (moment e (suc count)) ver
