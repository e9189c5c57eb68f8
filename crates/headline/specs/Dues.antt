-- What is due: each node serves until a crash of it begins, and what is due as an item begins is answered in that event.
use Rattle.std.specs.Prelude.{◌≡◌, ◌⊎◌, ◌<◌, ◌+◌, ℕ, suc, Bool, true, List, [], ◌∷◌, ◌++◌, Option, Some, None, map, slice_get}
use Rattle.cleaner_node.specs.CleanerEvents as cleaners
use Rattle.cleaner_node.specs.declared.cleaner.Phase.{Phase as CleanerPhase}
use Rattle.cleaner_node.specs.declared.cleaner.Phase.TheVariants as cleaning
use Rattle.client_node.specs.Crash.{fall_of, flight_of}
use Rattle.client_node.specs.declared.phase.Phase.{Phase as ClientPhase}
use Rattle.client_node.specs.declared.phase.Phase.TheVariants as client
use Rattle.client_node.specs.Phases as clients
use Rattle.core_world.specs.AnyNode.{any_step}
use Rattle.core_world.specs.declared.any_node.AnyNode.{AnyNode}
use Rattle.core_world.specs.declared.any_node.AnyNode.TheVariants as any
use Rattle.fragment_store.specs.ShelfState.{ShelfState}
use Rattle.manager_node.specs.declared.phase.Phase.{Phase as ManagerPhase}
use Rattle.manager_node.specs.declared.phase.Phase.TheVariants as manager
use Rattle.manager_node.specs.Phases as managers
use Rattle.node_base.specs.Beginning.{next_item}
use Rattle.node_base.specs.declared.items.Items.{Items}
use Rattle.node_base.specs.Nodes.{others}
use Rattle.node_base.specs.Room.{has_room}
use Rattle.registry.specs.Board.{can_move}
use Rattle.registry_node.specs.declared.node.RegistryNode.{RegistryNode}
use Rattle.registry_node.specs.Events.{news_of}
use Rattle.store_nodes.specs.ServerEvents as storing
use Rattle.token_client.specs.State.{dirty_in}
use Rattle.token_protocol.specs.Basics.{In}
use Rattle.version_model.specs.declared.act.Act.{Act}
use Rattle.version_model.specs.declared.act.Act.TheVariants as act
use Rattle.version_model.specs.declared.answer.Answer.{Answer}
use Rattle.version_model.specs.declared.answer.Answer.TheVariants as answer
use Rattle.version_model.specs.declared.work.Work.{Work}
use Rattle.version_model.specs.declared.work.Work.TheVariants as work
use Rattle.wire_msg.specs.declared.body.Body.TheVariants as body
use Rattle.wire_msg.specs.declared.packet.Do.{Do}
use Rattle.wire_msg.specs.declared.packet.Do.TheVariants.{Begin}
use Rattle.wire_msg.specs.declared.packet.Packet.{Packet}
use Rattle.wire_msg.specs.declared.registry.News.{News}
use Rattle.wire_msg.specs.NodeStep.{NodeStep}
use Rattle.world_base.specs.Cluster.{place_of}
use Rattle.world_base.specs.declared.estate.Estate.{Estate}
use Rattle.world_base.specs.declared.event.Event.{Event}
use Rattle.world_base.specs.declared.world.World.{World}
use Rattle.world_base.specs.Events.{node_of, what_of}
use Rattle.world_base.specs.Items.{items_of}
use Rattle.world_base.specs.NextWorld.{clock_at, sent_at}
use Rattle.xfs_base.specs.declared.node.NodeId.{NodeId}
use Rattle.xfs_base.specs.declared.node.NodeId.TheVariants.{Registry}
use Rattle.xfs_base.specs.declared.segment.SegName.{SegName}
use Rattle.xfs_base.specs.Limits.{slot_count}
use Rattle.headline.specs.Items.{IsOpen, asked_at, items_in, name_in}
use Rattle.headline.specs.Moments.{acts_in, moment, node_named}
use Rattle.headline.specs.Standings.{GivesSlot, IsCall, IsRestart, Standing, standing}
use Rattle.headline.specs.Standings.Standing.{Fallen, Opens, Serves}

-- an item is open
abbrev pub HasOpen : Items → Type 0
HasOpen items = (item : ℕ) × IsOpen items item

abbrev pub client_items_fit : ClientPhase → Type 0
client_items_fit (client.Down l) = l.items.unanswered ≡ None
client_items_fit (client.Opening l o) = HasOpen l.items
client_items_fit (client.Serving s) = Unit {0}

abbrev pub cleaner_items_fit : CleanerPhase → Type 0
cleaner_items_fit (cleaning.Down l) = l.items.unanswered ≡ None
cleaner_items_fit (cleaning.Opening l o) = HasOpen l.items
cleaner_items_fit (cleaning.Serving e) = Unit {0}

abbrev pub manager_items_fit : ManagerPhase → Type 0
manager_items_fit (manager.Down l) = l.items.unanswered ≡ None
manager_items_fit (manager.Waiting l hello) = l.items.unanswered ≡ None
manager_items_fit _ = Unit {0}

-- no item is open of a node that has fallen, nor of a manager that awaits the maps, nor of the registry; and one is of a node that opens its log
abbrev pub ItemsFit : AnyNode → Type 0
ItemsFit (any.Client c) = client_items_fit c.phase
ItemsFit (any.Manager m) = manager_items_fit m.phase
ItemsFit (any.Server v) = Unit {0}
ItemsFit (any.Cleaner c) = cleaner_items_fit c.phase
ItemsFit (any.Registry r) = r.items.unanswered ≡ None

-- the event begins the item of this number, which asks for this
pub record BeginsWork (node : AnyNode) (what : Do) (number : ℕ) (wanted : Option Work) : Type 0 where
  pub begin : what ≡ Begin
  pub next : next_item (items_in node) ≡ Some number
  pub asked : asked_at (items_in node).works number ≡ wanted

-- it begins none
abbrev pub BeginsNone : AnyNode → Do → Type 0
BeginsNone node what = (number : ℕ) → what ≡ Begin → next_item (items_in node) ≡ Some number → ⊥

-- of a node that takes an event so
module _ (node : AnyNode) (what : Do) (s : NodeStep AnyNode) where
  -- a crash of it begins and is done, and it has fallen
  pub record Fells : Type 0 where
    pub number : ℕ
    pub named : NodeId
    pub begins : BeginsWork node what number (Some (work.Crash named))
    pub done : In (act.Answered (name_in node) number answer.Done) s.acts
    pub falls : standing s.node ≡ Fallen

  -- a restart of it begins
  pub record Restarts : Type 0 where
    pub number : ℕ
    pub named : NodeId
    pub begins : BeginsWork node what number (Some (work.Restart named))

  -- the open item is answered so
  abbrev pub AnswersOpen : Answer → Type 0
  AnswersOpen a = (item : ℕ) → IsOpen (items_in node) item → In (act.Answered (name_in node) item a) s.acts

  -- its log is open again, and the open item done; or what it needs of the log is lost, which is answered, and it has fallen
  abbrev pub EndsOpening : Type 0
  EndsOpening =
      ((standing s.node ≡ Serves) × AnswersOpen answer.Done) ⊎ ((standing s.node ≡ Fallen) × ((name : SegName) × AnswersOpen (answer.Lost name)))

  pub record KeepsStanding : Type 0 where
    -- one that serves does so on, but for a crash
    pub serving : standing node ≡ Serves → (standing s.node ≡ Serves) ⊎ Fells
    -- one that opens its log does so on, until that ends, but for a crash
    pub opening : standing node ≡ Opens → (standing s.node ≡ Opens) ⊎ (EndsOpening ⊎ Fells)
    -- one that has fallen stays so, but for a restart
    pub fallen : standing node ≡ Fallen → (standing s.node ≡ Fallen) ⊎ Restarts
    -- it neither acts nor sends where no item begins
    pub silent : standing node ≡ Fallen → BeginsNone node what → (s.acts ≡ []) × (s.packets ≡ [])
    -- and what is open fits then
    pub items_fit : ItemsFit node → ItemsFit s.node

-- each counter of a node is at least 65,536 below its end: where one isn't, an event changes nothing
abbrev pub has_counters : AnyNode → Bool
has_counters (any.Client c) = clients.client_has_room c
has_counters (any.Manager m) = managers.phase_has_room m.phase
has_counters (any.Server v) = storing.is_far_from_ends v
has_counters (any.Cleaner c) = cleaners.phase_has_room c.phase
has_counters (any.Registry r) = has_room r.board.version

-- clients, managers and the cleaner crash and start again; a server loses its disk
abbrev pub Crashes : AnyNode → Type 0
Crashes (any.Server v) = ⊥
Crashes (any.Registry r) = ⊥
Crashes _ = Unit {0}

-- the registry has a next epoch for the slot
abbrev pub CanGive : AnyNode → ℕ → Type 0
CanGive (any.Registry r) slot = can_move r.board slot ≡ true
CanGive _ slot = ⊥

-- what is cut: the open item, if there is one
abbrev pub cut_open : NodeId → Option ℕ → List Act
cut_open me None = []
cut_open me (Some item) = act.Answered me item answer.Cut ∷ []

-- what a client that serves acts of its blocks as it falls
abbrev pub client_fell : ClientPhase → List Act
client_fell (client.Serving s) = act.Fell s.lasting.number (flight_of s.log.flight) (map (fall_of s) (dirty_in s.tokens.blocks)) ∷ []
client_fell _ = []

abbrev pub fell_in : AnyNode → List Act
fell_in (any.Client c) = client_fell c.phase
fell_in _ = []

-- all that a server held is lost with its disk: its next generation begins, with an empty shelf
pub record IsEmptied (before after : ShelfState) : Type 0 where
  pub generation : after.generation ≡ before.generation + 1
  pub held : after.held ≡ []
  pub fences : after.fences ≡ []
  pub marks : after.marks ≡ []

abbrev pub LosesDisk : AnyNode → AnyNode → Type 0
LosesDisk (any.Server v) (any.Server u) = IsEmptied v.shelf u.shelf
LosesDisk _ _ = ⊥

-- a packet by which the registry tells a node these maps
abbrev pub told_maps : News → NodeId → Packet
told_maps news to = record { from = Registry; to = to; clock = 0; body = body.MapNews news }

-- the maps are newer by one, and each other node is told them
abbrev pub TellsMaps : AnyNode → AnyNode → List Packet → Type 0
TellsMaps (any.Registry r) (any.Registry now) packets =
    (now.board.version ≡ r.board.version + 1) × (packets ≡ map (told_maps (news_of now.board)) (others r.peers Registry))
TellsMaps _ _ packets = ⊥

-- of a node of which the item of this number begins by this step
module _ (node : AnyNode) (number : ℕ) (s : NodeStep AnyNode) where
  -- the item is answered so at once: the node does nothing else, and stands as before
  pub record Refuses (a : Answer) : Type 0 where
    pub acts : s.acts ≡ act.Answered (name_in node) number a ∷ []
    pub packets : s.packets ≡ []
    pub stands : standing s.node ≡ standing node

  -- what is open is cut, then the item is done, and the node has fallen
  pub record CrashIsDone : Type 0 where
    pub acts : s.acts ≡ fell_in node ++ cut_open (name_in node) (items_in node).unanswered ++ act.Answered (name_in node) number answer.Done ∷ []
    pub packets : s.packets ≡ []
    pub falls : standing s.node ≡ Fallen

  -- what is open is cut, then the item is done, and the disk is lost
  pub record LossIsDone : Type 0 where
    pub acts : s.acts ≡ cut_open (name_in node) (items_in node).unanswered ++ act.Answered (name_in node) number answer.Done ∷ []
    pub loses : LosesDisk node s.node

  -- the slot is given to the manager, its next epoch is the answer, and the maps are told
  pub record MoveIsDone (slot manager : ℕ) : Type 0 where
    pub epoch : ℕ
    pub acts : s.acts ≡ act.Answered (name_in node) number (answer.Epoch epoch) ∷ []
    pub gives : GivesSlot node s.node slot manager epoch
    pub tells : TellsMaps node s.node s.packets

  -- a client and the cleaner open their logs again, and the item is open from then on; a manager's next incarnation begins, and the item is done
  abbrev pub RestartBegins : AnyNode → Type 0
  RestartBegins (any.Manager m) = (s.acts ≡ act.Answered (name_in node) number answer.Done ∷ []) × (standing s.node ≡ Serves)
  RestartBegins _ = (s.acts ≡ []) × ((standing s.node ≡ Opens) × IsOpen (items_in s.node) number)

  -- So it is of an item that asks for this.
  abbrev pub IsDue : Work → Type 0
  IsDue (work.Crash named) = Crashes node → (standing node ≡ Fallen → Refuses answer.Down) × ((standing node ≡ Fallen → ⊥) → CrashIsDone)
  IsDue (work.Restart named) = Crashes node → (standing node ≡ Fallen → RestartBegins node) × ((standing node ≡ Fallen → ⊥) → Refuses answer.Up)
  IsDue (work.Lose server) = LossIsDone
  IsDue (work.Move slot manager) = CanGive node slot → MoveIsDone slot manager
  IsDue _ = ((standing node ≡ Serves → ⊥) → Refuses answer.Down) × ((item : ℕ) → standing node ≡ Serves → IsOpen (items_in node) item → Refuses answer.Busy)

-- Of a node that stands so, whose items ask for this: where it has fallen no item is open, where it opens its log one is, a restart, and where it serves one may
-- be, a call.
abbrev pub WaitsSo : Standing → Items → (ℕ → Option Work) → Type 0
WaitsSo Fallen items asked = items.unanswered ≡ None
WaitsSo Opens items asked = (item : ℕ) × (IsOpen items item × IsRestart (asked item))
WaitsSo Serves items asked = (item : ℕ) → IsOpen items item → IsCall (asked item)

-- the clock of the event would pass the end of all clocks
abbrev pub PassesClocks : World AnyNode → Event → Type 0
PassesClocks w event = (place : ℕ) × ((place_of w.cluster (node_of event) ≡ Some place) × (clock_at w place (what_of event) ≡ None))

module _ (e : Estate AnyNode) where
  -- then nothing happens
  pub record NothingComes (count : ℕ) (event : Event) : Type 0 where
    pub ends : PassesClocks (moment e count) event
    pub stays : moment e (suc count) ≡ moment e count

  -- the node takes its step in this event, and what it acts and sends is all that the event adds
  pub record TakesTurn (count : ℕ) (event : Event) (before : AnyNode) : Type 0 where
    pub clock : ℕ
    pub is : node_named (moment e (suc count)) (node_of event) ≡ Some (any_step before (what_of event)).node
    pub acts : acts_in (moment e count) event ≡ (any_step before (what_of event)).acts
    pub sent : (moment e (suc count)).sent ≡ (moment e count).sent ++ map (sent_at clock) (any_step before (what_of event)).packets
    -- no other node changes
    pub others : (name : NodeId) (y : AnyNode) → (name ≡ node_of event → ⊥) → node_named (moment e (suc count)) name ≡ Some y
        → node_named (moment e count) name ≡ Some y

  pub record DueAt (count : ℕ) (event : Event) (before : AnyNode) : Type 0 where
    pub turn : NothingComes count event ⊎ TakesTurn count event before
    -- by this step a node that serves does so on but for a crash, and one that has fallen stays so but for a restart
    pub stands : KeepsStanding before (what_of event) (any_step before (what_of event))
    pub items_fit : ItemsFit before
    -- and what is due to the item that begins, which asks for this, is answered
    pub due : (number : ℕ) (wanted : Work) → what_of event ≡ Begin → next_item (items_in before) ≡ Some number
        → asked_at (items_of e.script.lines (node_of event)) number ≡ Some wanted → has_counters before ≡ true
        → IsDue before number (any_step before (what_of event)) wanted

  pub record AnswersDue : Type 0 where
    -- at the start each node serves
    pub starts : (name : NodeId) (x : AnyNode) → node_named (moment e 0) name ≡ Some x → standing x ≡ Serves
    -- at each moment what is open fits where the node stands
    pub waits : (count : ℕ) (name : NodeId) (x : AnyNode) → node_named (moment e count) name ≡ Some x
        → WaitsSo (standing x) (items_in x) (λ item. asked_at (items_of e.script.lines name) item)
    -- and the registry can give each slot anew, while the version of its maps is far from its end
    pub gives : (count slot : ℕ) (r : RegistryNode) → node_named (moment e count) Registry ≡ Some (any.Registry r) → has_counters (any.Registry r) ≡ true
        → slot < slot_count → CanGive (any.Registry r) slot
    -- so it is in each event
    pub events : (count : ℕ) (event : Event) → slice_get e.events count ≡ Some event → (before : AnyNode)
        → node_named (moment e count) (node_of event) ≡ Some before → DueAt count event before
