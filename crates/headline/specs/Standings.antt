-- Where a node stands, whether it takes calls and what of it falls; and what it may answer to an item, by where it stands before the event and behind it.
use Rattle.std.specs.Prelude.{◌≡◌, ℕ, suc, Option, Some, slice_get}
use Rattle.cleaner_node.specs.declared.cleaner.Phase.{Phase as CleanerPhase}
use Rattle.cleaner_node.specs.declared.cleaner.Phase.TheVariants as cleaning
use Rattle.client_node.specs.declared.phase.Phase.{Phase as ClientPhase}
use Rattle.client_node.specs.declared.phase.Phase.TheVariants as client
use Rattle.core_world.specs.declared.any_node.AnyNode.{AnyNode}
use Rattle.core_world.specs.declared.any_node.AnyNode.TheVariants as any
use Rattle.fragment_store.specs.Calls.{on_lose}
use Rattle.manager_map.specs.Slots.{manager_map_advance, entry_at}
use Rattle.manager_node.specs.declared.phase.Phase.{Phase as ManagerPhase}
use Rattle.manager_node.specs.declared.phase.Phase.TheVariants as manager
use Rattle.node_base.specs.Beginning.{next_item}
use Rattle.token_protocol.specs.Basics.{In}
use Rattle.version_model.specs.declared.act.Act.TheVariants as act
use Rattle.version_model.specs.declared.answer.Answer.{Answer}
use Rattle.version_model.specs.declared.answer.Answer.TheVariants as answer
use Rattle.version_model.specs.declared.work.Work.{Work}
use Rattle.version_model.specs.declared.work.Work.TheVariants as work
use Rattle.world_base.specs.declared.estate.Estate.{Estate}
use Rattle.world_base.specs.declared.event.Event.{Event}
use Rattle.world_base.specs.Items.{items_of}
use Rattle.xfs_base.specs.declared.node.NodeId.{NodeId}
use Rattle.headline.specs.Items.{IsOpen, asked_at, items_in}
use Rattle.headline.specs.Moments.{acts_in, moment, node_named}

pub data Standing : Type 0 where
  -- It has fallen.
  Fallen : Standing
  -- It opens its log.
  Opens : Standing
  -- It takes calls.
  Serves : Standing

abbrev pub client_stands : ClientPhase → Standing
client_stands (client.Down l) = Fallen
client_stands (client.Opening l o) = Opens
client_stands (client.Serving s) = Serves

abbrev pub cleaner_stands : CleanerPhase → Standing
cleaner_stands (cleaning.Down l) = Fallen
cleaner_stands (cleaning.Opening l o) = Opens
cleaner_stands (cleaning.Serving e) = Serves

-- one that awaits the maps takes calls too: it manages no slot yet
abbrev pub manager_stands : ManagerPhase → Standing
manager_stands (manager.Down kept) = Fallen
manager_stands (manager.Waiting kept hello) = Serves
manager_stands (manager.Serving s) = Serves

-- servers and the registry always take calls
abbrev pub standing : AnyNode → Standing
standing (any.Client c) = client_stands c.phase
standing (any.Manager m) = manager_stands m.phase
standing (any.Server v) = Serves
standing (any.Cleaner c) = cleaner_stands c.phase
standing (any.Registry r) = Serves

-- what the node was has fallen: it is down; or, of a server, all that it held is lost with its disk, and its next generation begins
abbrev pub Falls : AnyNode → AnyNode → Type 0
Falls (any.Server v) (any.Server u) = u.shelf ≡ on_lose v.shelf
Falls before after = standing after ≡ Fallen

-- a call: neither that a node falls or starts again, nor that a slot is given to a manager
abbrev pub IsCall : Option Work → Type 0
IsCall (Some (work.Crash node)) = ⊥
IsCall (Some (work.Restart node)) = ⊥
IsCall (Some (work.Lose server)) = ⊥
IsCall (Some (work.Move slot manager)) = ⊥
IsCall _ = Unit {0}

abbrev pub IsRestart : Option Work → Type 0
IsRestart (Some (work.Restart node)) = Unit {0}
IsRestart _ = ⊥

-- what is answered by a count: a checkpoint, of slots, and a cleaning, of segments
abbrev pub IsCounted : Option Work → Type 0
IsCounted (Some (work.Checkpoint manager)) = Unit {0}
IsCounted (Some (work.Clean count)) = Unit {0}
IsCounted _ = ⊥

abbrev pub IsRebuild : Option Work → Type 0
IsRebuild (Some (work.Rebuild server)) = Unit {0}
IsRebuild _ = ⊥

-- the registry gives the slot to the manager, and this is its next epoch
abbrev pub GivesSlot : AnyNode → AnyNode → ℕ → ℕ → ℕ → Type 0
GivesSlot (any.Registry r) (any.Registry now) slot manager epoch =
    (now.board.entries ≡ manager_map_advance r.board.entries slot manager) × (epoch ≡ (entry_at now.board.entries slot).epoch)
GivesSlot _ _ slot manager epoch = ⊥

-- of a node that was one before the event and is one behind it
module _ (before after : AnyNode) (item : ℕ) where
  -- the item begins by the event
  abbrev pub Begins : Type 0
  Begins = next_item (items_in before) ≡ Some item

  -- it was open
  abbrev pub Waited : Type 0
  Waited = IsOpen (items_in before) item

  -- an item is open, and stays so
  abbrev pub AnotherWaits : Type 0
  AnotherWaits = (other : ℕ) × (IsOpen (items_in before) other × IsOpen (items_in after) other)

  abbrev pub StandsOn : Type 0
  StandsOn = standing after ≡ standing before

  -- one that has fallen can't fall; a call is not taken but by one that serves; a restart is never refused so
  abbrev pub IsRefused : Option Work → Type 0
  IsRefused (Some (work.Crash node)) = standing before ≡ Fallen
  IsRefused (Some (work.Restart node)) = ⊥
  IsRefused _ = standing before ≡ Serves → ⊥

  -- by a crash, which begins, it falls, and it had not fallen; behind a restart it serves, and had not; by a loss, which begins, a server loses its disk; and a
  -- call is done by one that serves
  abbrev pub IsDone : Option Work → Type 0
  IsDone (Some (work.Crash node)) = Begins × ((standing before ≡ Fallen → ⊥) × Falls before after)
  IsDone (Some (work.Restart node)) = (standing before ≡ Serves → ⊥) × (standing after ≡ Serves)
  IsDone (Some (work.Lose server)) = Begins × Falls before after
  IsDone (Some (work.Move slot manager)) = ⊥
  IsDone _ = standing before ≡ Serves

  abbrev pub IsMoved : Option Work → ℕ → Type 0
  IsMoved (Some (work.Move slot manager)) epoch = Begins × GivesSlot before after slot manager epoch
  IsMoved _ epoch = ⊥

  -- a call, by one that serves
  abbrev pub IsServed : Option Work → Type 0
  IsServed w = IsCall w × (standing before ≡ Serves)

  -- So it may answer this to the item, which asks for that.
  abbrev pub MayAnswer : Option Work → Answer → Type 0
  -- the item begins while another is open
  MayAnswer w answer.Busy = Begins × (IsServed w × AnotherWaits)
  MayAnswer w answer.Down = Begins × (IsRefused w × StandsOn)
  -- one that has not fallen can't start again
  MayAnswer w answer.Up = Begins × (IsRestart w × ((standing before ≡ Fallen → ⊥) × StandsOn))
  -- the item waited, and the node falls
  MayAnswer w answer.Cut = Waited × Falls before after
  MayAnswer w answer.Done = IsDone w
  MayAnswer w (answer.Epoch epoch) = IsMoved w epoch
  -- by one that has not fallen
  MayAnswer w (answer.Lost name) = standing before ≡ Fallen → ⊥
  MayAnswer w (answer.Count count) = IsCounted w × (standing before ≡ Serves)
  MayAnswer w (answer.Rebuilt filled gone) = IsRebuild w
  MayAnswer w (answer.Got ver value) = IsServed w
  MayAnswer w (answer.Version ver) = IsServed w
  MayAnswer w (answer.Made ino) = IsServed w
  MayAnswer w (answer.Bytes bytes) = IsServed w
  MayAnswer w (answer.Size size) = IsServed w
  MayAnswer w (answer.Names names) = IsServed w
  MayAnswer w (answer.File fault) = IsServed w

module _ (e : Estate AnyNode) where
  -- the node of this name is one before the event and one behind it, by which it may answer this to its item
  pub record FitsAt (count : ℕ) (node : NodeId) (item : ℕ) (a : Answer) : Type 0 where
    pub before : AnyNode
    pub after : AnyNode
    pub was : node_named (moment e count) node ≡ Some before
    pub is : node_named (moment e (suc count)) node ≡ Some after
    pub fits : MayAnswer before after item (asked_at (items_of e.script.lines node) item) a

  -- whatever is answered in an event
  abbrev pub AnswersFit : Type 0
  AnswersFit =
      (count : ℕ) (event : Event) → slice_get e.events count ≡ Some event → (node : NodeId) (item : ℕ) (a : Answer)
      → In (act.Answered node item a) (acts_in (moment e count) event) → FitsAt count node item a
