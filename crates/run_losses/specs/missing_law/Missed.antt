-- What servers tell a reader that they miss, over the counts of a run, and what follows of it: what was missing twice was torn, unless it was deleted.
use Rattle.std.specs.Prelude.{◌≡◌, ◌<◌, ◌≤◌, ◌==◌, ℕ, suc, true, false, List, [], ◌∷◌, Option, Some, None, length}
use Rattle.std.specs.List.{list_any}
use Rattle.cleaner_node.specs.CleanerEvents.{lasting_of as cleaners_lasting}
use Rattle.client_node.specs.Phases.{lasting_of as clients_lasting}
use Rattle.core_world.specs.AnyNode.{any_start, any_step}
use Rattle.core_world.specs.declared.any_node.AnyNode.{AnyNode}
use Rattle.core_world.specs.declared.any_node.AnyNode.TheVariants as any
use Rattle.fragment_store.specs.ShelfState.{ShelfState, held_at}
use Rattle.group_map.specs.declared.group.Group.{Group}
use Rattle.manager_node.specs.Phases.{lasting_of as managers_lasting}
use Rattle.node_base.specs.Setups.{IsSetup}
use Rattle.segment_reading.specs.Lost.{missing_twice}
use Rattle.segment_reading.specs.Reading.{servers_of}
use Rattle.token_protocol.specs.Basics.{In}
use Rattle.headline.specs.Torn.{IsTornAt}
use Rattle.wire_msg.specs.declared.body.Body.TheVariants as body
use Rattle.wire_msg.specs.declared.packet.Packet.{Packet}
use Rattle.wire_msg.specs.declared.storage.Fetch.{Fetch}
use Rattle.wire_msg.specs.declared.storage.Missing.{Missing}
use Rattle.world_base.specs.declared.estate.Estate.{Estate}
use Rattle.world_base.specs.Runs.{IsRun}
use Rattle.headline.specs.Moments.{moment, node_named}
use Rattle.headline.specs.Segments.{NotDeleted}
use Rattle.headline.specs.Servers.{group_at, shelf_at}
use Rattle.xfs_base.specs.declared.node.NodeId.{NodeId}
use Rattle.xfs_base.specs.declared.node.NodeId.TheVariants as names
use Rattle.xfs_base.specs.declared.segment.SegName.{SegName}
use Rattle.xfs_base.specs.declared.segment.SegRef.{SegRef}

-- ---- questions

-- the number of the last question of a client, a manager or the cleaner
abbrev pub last_in : Option AnyNode → ℕ
last_in None = 0
last_in (Some (any.Client node)) = (clients_lasting node.phase).questions.last
last_in (Some (any.Manager node)) = (managers_lasting node.phase).questions.last
last_in (Some (any.Server node)) = 0
last_in (Some (any.Cleaner node)) = (cleaners_lasting node.phase).questions.last
last_in (Some (any.Registry node)) = 0

abbrev pub last_at : Estate AnyNode → NodeId → ℕ → ℕ
last_at e reader count = last_in (node_named (moment e count) reader)

-- all fetches that a reader has sent by then are by numbers that it drew
abbrev pub FetchesDrawn : Estate AnyNode → NodeId → ℕ → Type 0
FetchesDrawn e reader count =
    (packet : Packet) (m : Fetch) → In packet (moment e count).sent → packet.from ≡ reader → packet.body ≡ body.Fetch m → m.ask ≤ last_at e reader count

-- ---- answers

module _ (e : Estate AnyNode) where
  -- at a moment from one to another a server was of this generation and held no fragment of the name
  pub record MissedIn (from to v generation : ℕ) (name : SegName) : Type 0 where
    pub when : ℕ
    pub since : from ≤ when
    pub until : when ≤ to
    pub shelf : ShelfState
    pub has_shelf : shelf_at (moment e when) v ≡ Some shelf
    pub in_generation : shelf.generation ≡ generation
    pub nothing : held_at shelf.held name ≡ None

  -- A Missing answers a fetch of the reader, by its number, and tells of a moment at which that number was drawn: it is after each at which it was not yet.
  pub record Answers (reader : NodeId) (count v : ℕ) (m : Missing) : Type 0 where
    pub packet : Packet
    pub among : In packet (moment e count).sent
    pub asker : packet.from ≡ reader
    pub fetch : Fetch
    pub asks : packet.body ≡ body.Fetch fetch
    pub name : m.name ≡ fetch.name
    pub ask : m.ask ≡ fetch.ask
    pub told : (k : ℕ) → k ≤ count → last_at e reader k < m.ask → MissedIn k count v m.generation fetch.name

-- So it is of each Missing that a server sent to a reader all of whose fetches are by numbers that it drew, and whose numbers never fall.
abbrev pub AnswersTellOfMisses : Type 0
AnswersTellOfMisses =
    (e : Estate AnyNode) → IsSetup e.script.setup → IsRun any_step any_start e.script e.events e.world → (reader : NodeId)
    → ((count : ℕ) → FetchesDrawn e reader count) → ((count : ℕ) → last_at e reader count ≤ last_at e reader (suc count))
    → (count v : ℕ) (packet : Packet) (m : Missing) → In packet (moment e count).sent → packet.from ≡ names.Server v → packet.to ≡ reader
    → packet.body ≡ body.Missing m → Answers e reader count v m

-- ---- what is missing twice

-- each server of these pairs missed the segment in its generation, at a moment from one to another
abbrev pub PairsMissed : Estate AnyNode → (from to : ℕ) → SegName → List (ℕ × ℕ) → Type 0
PairsMissed e from to name [] = Unit {0}
PairsMissed e from to name (p ∷ ps) = MissedIn e from to p.0 p.1 name × PairsMissed e from to name ps

-- their servers differ, and each is that of a member
abbrev pub AreOfMembers : Group → List (ℕ × ℕ) → Type 0
AreOfMembers group [] = Unit {0}
AreOfMembers group (p ∷ ps) =
    (list_any (λ q. q.0 == p.0) ps ≡ false) × ((list_any (λ s. s == p.0) (servers_of group) ≡ true) × AreOfMembers group ps)

-- More of the same pairs were missing in two times, one after the other, than the parity of the segment's group makes good: then it was torn at each moment
-- between, where no server had been told to delete it by the end of the second.
abbrev pub WhatIsMissingTwiceWasTorn : Type 0
WhatIsMissingTwiceWasTorn =
    (e : Estate AnyNode) → IsSetup e.script.setup → IsRun any_step any_start e.script e.events e.world → (segment : SegRef) (group : Group)
    → group_at e.world segment.group ≡ Some group → (since middle drawn count : ℕ) (before now : List (ℕ × ℕ))
    → PairsMissed e since middle segment.name before → PairsMissed e drawn count segment.name now → AreOfMembers group now
    → group.parity < length (missing_twice before now) → NotDeleted (moment e count) segment.name
    → (between : ℕ) → middle ≤ between → between ≤ drawn → IsTornAt e between segment
