-- Each run is linearizable, block by block: the calls on blocks that are answered are, in the order of their acts, one legal history of versions of each block,
-- and each acts between its Begin and its answer. What was written and neither synced nor read elsewhere, a crash of its writer may take back, and nothing else
-- may. The field calls this buffered durable linearizability of each block, with `sync` for the flush.
use Rattle.std.specs.Prelude.{◌≡◌, ◌<◌, ℕ, suc, List, [], ◌∷◌, ◌++◌, Option, Some, slice_get}
use Rattle.client_node.specs.declared.client.Client.{Client}
use Rattle.core_world.specs.declared.any_node.AnyNode.{AnyNode}
use Rattle.core_world.specs.declared.any_node.AnyNode.TheVariants as any
use Rattle.node_base.specs.Beginning.{next_item}
use Rattle.token_protocol.specs.Basics.{In}
use Rattle.version_model.specs.declared.act.Act.{Act}
use Rattle.version_model.specs.declared.act.Act.TheVariants as act
use Rattle.version_model.specs.declared.act.Fall.{Fall}
use Rattle.version_model.specs.declared.answer.Answer.{Answer}
use Rattle.version_model.specs.declared.answer.Answer.TheVariants as answer
use Rattle.version_model.specs.declared.work.Work.{Work}
use Rattle.version_model.specs.declared.work.Work.TheVariants as work
use Rattle.world_base.specs.declared.estate.Estate.{Estate}
use Rattle.world_base.specs.declared.event.Event.{Event}
use Rattle.world_base.specs.declared.event.Event.TheVariants.{Begin}
use Rattle.world_base.specs.Events.{node_of}
use Rattle.world_base.specs.Items.{items_of}
use Rattle.xfs_base.specs.declared.node.NodeId.TheVariants as nodes
use Rattle.xfs_base.specs.declared.segment.SegName.{SegName}
use Rattle.headline.specs.Answers.{VersionsAreNewest}
use Rattle.headline.specs.Calls.{IsCrash, IsDrained}
use Rattle.headline.specs.Courses.{Course, Doing, doing_of}
use Rattle.headline.specs.ItemActs.{IsBy, IsOfBlocks, IsOfCall, blocks_by}
use Rattle.headline.specs.Items.{IsUnanswered, asked_at, items_in}
use Rattle.headline.specs.Moments.{acts_in, moment, node_named}
use Rattle.headline.specs.Standings.{IsRestart}
use Rattle.headline.specs.Versions.{LegalActs}

-- a sync is asked for
abbrev pub IsSync : Option Work → Type 0
IsSync (Some (work.Sync c)) = Unit {0}
IsSync _ = ⊥

module _ (e : Estate AnyNode) where
  -- what the script asks for by an item of a client
  abbrev pub asked : ℕ → ℕ → Option Work
  asked client item = asked_at (items_of e.script.lines (nodes.Client client)) item

  -- by the event at this place the client begins this item, its next one
  pub record BeginsIn (client item place : ℕ) : Type 0 where
    pub happens : slice_get e.events place ≡ Some (Begin (nodes.Client client))
    pub node : AnyNode
    pub its : node_named (moment e place) (nodes.Client client) ≡ Some node
    pub next : next_item (items_in node) ≡ Some item

  -- the item is a call, which does so
  pub record DoesCall (client item : ℕ) (does : Doing) : Type 0 where
    pub wanted : Work
    pub asks : asked client item ≡ Some wanted
    pub call : doing_of wanted item client ≡ Some does

  -- In the first so many events a client has done its part of a call, which is answered so by then, or not yet: since the event that begins its item, all that
  -- it acted of blocks is what the course of the call tells of.
  pub record HasDone (client item count : ℕ) (answer : Option Answer) : Type 0 where
    pub does : Doing
    pub call : DoesCall client item does
    pub place : ℕ
    pub before : place < count
    pub begins : BeginsIn client item place
    pub since : List Act
    pub all : (moment e count).acts ≡ (moment e place).acts ++ since
    pub course : Course client does [] (blocks_by client since) answer

  -- An act of blocks in the event at this count, behind these acts of the run: it is of a call of the client to which the event happens, by an item that none of
  -- those answers.
  pub record IsOfOpenCall (count : ℕ) (event : Event) (before : List Act) (a : Act) : Type 0 where
    pub client : ℕ
    pub own : nodes.Client client ≡ node_of event
    pub by : IsBy client a
    pub item : ℕ
    pub waits : IsUnanswered before (nodes.Client client) item
    pub answer : Option Answer
    pub done : HasDone client item (suc count) answer

  abbrev pub ActsAreOfCalls : Type 0
  ActsAreOfCalls =
      (count : ℕ) (event : Event) → slice_get e.events count ≡ Some event → (before behind : List Act) (a : Act) → IsOfBlocks a
      → acts_in (moment e count) event ≡ before ++ a ∷ behind → IsOfOpenCall count event ((moment e count).acts ++ before) a

  -- Where a call is answered, and not as busy, down, up, cut or lost, that is the end of its course.
  abbrev pub AnswersEndCourses : Type 0
  AnswersEndCourses =
      (count : ℕ) (event : Event) → slice_get e.events count ≡ Some event → (client item : ℕ) (a : Answer) → IsOfCall a
      → In (act.Answered (nodes.Client client) item a) (acts_in (moment e count) event) → (does : Doing) → DoesCall client item does
      → HasDone client item (suc count) (Some a)

  -- a crash of the client begins in this event
  pub record CrashBegins (client count : ℕ) : Type 0 where
    pub item : ℕ
    pub begins : BeginsIn client item count
    pub asks : IsCrash (asked client item)

  abbrev pub FallsAreCrashes : Type 0
  FallsAreCrashes =
      (count : ℕ) (event : Event) → slice_get e.events count ≡ Some event → (client : ℕ) (flight : Option (ℕ × ℕ)) (falls : List Fall)
      → In (act.Fell client flight falls) (acts_in (moment e count) event) → CrashBegins client count

  -- a restart of the client is done in this event
  pub record RestartEnds (client count : ℕ) (event : Event) : Type 0 where
    pub item : ℕ
    pub asks : IsRestart (asked client item)
    pub done : In (act.Answered (nodes.Client client) item answer.Done) (acts_in (moment e count) event)

  abbrev pub ReturnsAreRestarts : Type 0
  ReturnsAreRestarts =
      (count : ℕ) (event : Event) → slice_get e.events count ≡ Some event → (client : ℕ) (chain : List SegName)
      → In (act.Back client chain) (acts_in (moment e count) event) → RestartEnds client count event

  -- the client serves then, and nothing waits to be written to its log, or is in flight
  pub record HasDrained (client count : ℕ) : Type 0 where
    pub node : Client
    pub there : node_named (moment e count) (nodes.Client client) ≡ Some (any.Client node)
    pub drained : IsDrained node.phase

  abbrev pub SyncsDrain : Type 0
  SyncsDrain =
      (count : ℕ) (event : Event) → slice_get e.events count ≡ Some event → (client item : ℕ)
      → In (act.Answered (nodes.Client client) item answer.Done) (acts_in (moment e count) event) → IsSync (asked client item) → HasDrained client (suc count)

  pub record IsLinearizable : Type 0 where
    -- each act of blocks is one of a call, which has begun and isn't answered before: what that does next, by what it was answered; so the order of acts keeps
    -- the order of real time
    pub acts : ActsAreOfCalls
    -- and the answer of a call is what it replies to all that it acted since its Begin
    pub answers : AnswersEndCourses
    -- a client falls only where a crash of it begins, and is back only where a restart of it is done; no other acts change what is kept of a block
    pub falls : FallsAreCrashes
    pub returns : ReturnsAreRestarts
    -- where a sync is done, all that its client had changed is written to its log, and settled
    pub syncs : SyncsDrain
    -- these acts are a legal history of each block: each read is of the newest version, with its value, and a fall takes back no version that was synced or read
    -- elsewhere; up to the first doubtful restart
    pub legal : LegalActs e
    -- and a write answers the newest version, up to there
    pub newest : VersionsAreNewest e
