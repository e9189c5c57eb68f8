-- Numbers that are true: what a rebuild answers was filled in and is gone is so, of all that there was to fill in, since it began; and a cleaning answers how many
-- segments were dropped since it began. Neither is over as it begins.
use Rattle.std.specs.List.{AllByRecursion, fold}
use Rattle.std.specs.Map.{values_of}
use Rattle.std.specs.Prelude.{◌≡◌, ◌<◌, ◌≤◌, ◌+◌, ℕ, zero, suc, Bool, true, false, ◌||◌, if◌then◌else◌, min, List, [], ◌∷◌, ◌++◌, Option, Some, None, map, slice_get}
use Rattle.core_world.specs.declared.any_node.AnyNode.{AnyNode}
use Rattle.core_world.specs.declared.any_node.AnyNode.TheVariants as any
use Rattle.fragment_store.specs.Calls.{barred}
use Rattle.fragment_store.specs.ShelfState.{ShelfState, is_held, is_marked}
use Rattle.group_map.specs.GroupMapState.{GroupMapState}
use Rattle.group_rebuild.specs.declared.wanted.Wanted.{Wanted}
use Rattle.group_rebuild.specs.Transition.{listed_with, remove_names}
use Rattle.group_rebuild.specs.Wanted.{wanted_in}
use Rattle.node_base.specs.Beginning.{next_item}
use Rattle.store_nodes.specs.declared.server.Rebuilding.{Rebuilding}
use Rattle.store_nodes.specs.declared.server.Server.{Server as Node}
use Rattle.stripe_code.specs.declared.round.Answer.{Answer as Reply}
use Rattle.stripe_code.specs.declared.round.RoundState.{RoundState}
use Rattle.stripe_code.specs.declared.round.RoundState.TheVariants.{Read, Short}
use Rattle.stripe_code.specs.Round.{state_of}
use Rattle.token_protocol.specs.Basics.{In}
use Rattle.version_model.specs.declared.act.Act.{Act}
use Rattle.version_model.specs.declared.act.Act.TheVariants as act
use Rattle.version_model.specs.declared.answer.Answer.TheVariants as answer
use Rattle.wire_msg.specs.declared.body.Body.TheVariants as body
use Rattle.wire_msg.specs.declared.storage.Listed.{Listed}
use Rattle.world_base.specs.declared.estate.Estate.{Estate}
use Rattle.world_base.specs.declared.event.Event.{Event}
use Rattle.world_base.specs.declared.event.Event.TheVariants.{Begin}
use Rattle.world_base.specs.Events.{node_of}
use Rattle.xfs_base.specs.declared.fragment.FragMeta.{FragMeta}
use Rattle.xfs_base.specs.declared.node.NodeId.{NodeId}
use Rattle.xfs_base.specs.declared.node.NodeId.TheVariants as nodes
use Rattle.xfs_base.specs.declared.segment.SegName.{SegName}
use Rattle.xfs_base.specs.Limits.{u32_end}
use Rattle.headline.specs.Items.{items_in}
use Rattle.headline.specs.Moments.{acts_in, moment, node_named}
use Rattle.headline.specs.Servers.{shelf_at}
use Rattle.headline.specs.Tellings.{HasCome, HasTold, IsOfSegment}

-- by name, what servers that told such lists say of their fragments
abbrev pub listed_by : List (ℕ × Listed) → List (SegName × FragMeta)
listed_by lists = fold (λ entries list. listed_with list.1.held entries) [] lists

-- the event at this place begins the item of a node
pub record BeganAt (e : Estate AnyNode) (name : NodeId) (item place : ℕ) : Type 0 where
  pub happens : slice_get e.events place ≡ Some (Begin name)
  pub node : AnyNode
  pub its : node_named (moment e place) name ≡ Some node
  pub next : next_item (items_in node) ≡ Some item

-- another member of the segment's group replied, and a fragment that it told is one of the segment
abbrev pub IsReplyOf : Wanted → Reply → Type 0
IsReplyOf w r = In r.server w.others × IsOfSegment w.meta.name r.told

-- of a server, by the events behind the one at a place and before the one at another
module _ (e : Estate AnyNode) (server begun end : ℕ) where
  -- So a round over the other members of a segment's group stands, under one question, by what these told when they were asked for just this segment: each
  -- fragment in it is one of the segment.
  pub record RoundStands (w : Wanted) (stands : RoundState) : Type 0 where
    pub ask : ℕ
    pub replies : List Reply
    pub come : AllByRecursion (λ (r : Reply). HasTold e (nodes.Server server) begun end w.meta.name ask r.server r.told) replies
    pub fit : AllByRecursion (IsReplyOf w) replies
    pub is : state_of (record { n = w.n; parity = w.parity; servers = w.others; answers = replies }) ≡ stands

  -- the segment is read, and behind an event the server's shelf holds its fragment, or bars the name, which it was told to delete
  pub record IsFilled (w : Wanted) : Type 0 where
    pub text : List ℕ
    pub read : RoundStands w (Read text)
    pub place : ℕ
    pub since : begun < place
    pub before : place < end
    pub shelf : ShelfState
    pub its : shelf_at (moment e (suc place)) server ≡ Some shelf
    pub stands : (is_held shelf w.meta.name || is_marked shelf.marks w.meta.name) ≡ true

  -- all other members have answered, and too few have a fragment
  pub record IsGone (w : Wanted) : Type 0 where
    pub pairs : List (ℕ × ℕ)
    pub short : RoundStands w (Short pairs)

-- All that there is to fill in, by name, at the event since its Begin by which the last of the other servers' lists comes to a server: what they list of groups of
-- which the server is a member, as it knows them, and what its shelf neither holds nor bars.
pub record IsLacking (e : Estate AnyNode) (server begun end : ℕ) (wanted : List Wanted) : Type 0 where
  pub place : ℕ
  pub since : begun < place
  pub before : place < end
  pub node : Node
  pub its : node_named (moment e place) (nodes.Server server) ≡ Some (any.Server node)
  -- it awaits lists still, and so has read nothing
  pub rebuilding : Rebuilding
  pub under_way : node.rebuilding ≡ Some rebuilding
  pub awaits : rebuilding.rebuild.reads ≡ None
  pub groups : GroupMapState
  pub known : node.maps.groups ≡ Some groups
  -- the lists in answer to its question that have come since the Begin, with the one that this event brings: of all other servers
  pub lists : List (ℕ × Listed)
  pub come : AllByRecursion (λ (list : ℕ × Listed). HasCome e (nodes.Server server) begun (suc place) (nodes.Server list.0) (body.Listed list.1)) lists
  pub asked : AllByRecursion (λ (list : ℕ × Listed). list.1.ask ≡ rebuilding.lists) lists
  pub all : (from : ℕ) → 1 ≤ from → from ≤ groups.servers → (from ≡ server → ⊥) → In from (map (λ (list : ℕ × Listed). list.0) lists)
  pub lacks : wanted ≡ wanted_in server groups (values_of (remove_names (barred node.shelf) (listed_by lists)))

-- of these segments so many fragments were filled in, and so many are gone
pub data AreCounted (e : Estate AnyNode) (server begun end : ℕ) : List Wanted → ℕ → ℕ → Type 0 where
  NoneYet : AreCounted e server begun end [] 0 0
  OneFilled : {ws : List Wanted} {filled gone : ℕ} (w : Wanted) → AreCounted e server begun end ws filled gone → IsFilled e server begun end w
      → AreCounted e server begun end (ws ++ w ∷ []) (suc filled) gone
  OneGone : {ws : List Wanted} {filled gone : ℕ} (w : Wanted) → AreCounted e server begun end ws filled gone → IsGone e server begun end w
      → AreCounted e server begun end (ws ++ w ∷ []) filled (suc gone)

module _ (e : Estate AnyNode) where
  -- so many were filled in, and so many are gone, of all that there was to fill in since the item began, by the event at a place
  pub record IsRebuilt (count server item filled gone : ℕ) : Type 0 where
    pub begun : ℕ
    pub began : BeganAt e (nodes.Server server) item begun
    pub since : begun < count
    pub wanted : List Wanted
    pub lacking : IsLacking e server begun (suc count) wanted
    pub many : ℕ
    pub lost : ℕ
    pub counted : AreCounted e server begun (suc count) wanted many lost
    -- a count does not pass its type's end
    pub fills : filled ≡ min many u32_end
    pub losses : gone ≡ min lost u32_end

  -- so it is whenever a server answers that it is rebuilt
  abbrev pub RebuildsAreTrue : Type 0
  RebuildsAreTrue =
      (count : ℕ) (event : Event) → slice_get e.events count ≡ Some event → (server item filled gone : ℕ)
      → In (act.Answered (nodes.Server server) item (answer.Rebuilt filled gone)) (acts_in (moment e count) event) → IsRebuilt count server item filled gone

-- how many segments these acts drop
abbrev pub drops_in : List Act → ℕ
drops_in [] = 0
drops_in (act.Dropped name ∷ acts) = suc (drops_in acts)
drops_in (_ ∷ acts) = drops_in acts

abbrev pub is_cleaner : NodeId → Bool
is_cleaner nodes.Cleaner = true
is_cleaner _ = false

module _ (e : Estate AnyNode) where
  -- how many the cleaner drops by the event at a place
  abbrev pub drops_by : ℕ → Option Event → ℕ
  drops_by place None = 0
  drops_by place (Some event) = if is_cleaner (node_of event) then drops_in (acts_in (moment e place) event) else 0

  -- and by all events before it
  abbrev pub drops_before : ℕ → ℕ
  drops_before zero = 0
  drops_before (suc place) = drops_before place + drops_by place (slice_get e.events place)

  -- so many it dropped since the item began, by the events before a place and these acts of the event there
  pub record IsCleaned (count item cleaned : ℕ) (acts : List Act) : Type 0 where
    pub begun : ℕ
    pub began : BeganAt e nodes.Cleaner item begun
    pub since : begun < count
    pub many : ℕ
    pub dropped : drops_before count + drops_in acts ≡ drops_before begun + many
    -- a count does not pass its type's end
    pub counts : cleaned ≡ min many u32_end

  -- so it is wherever among the acts of an event the cleaner answers an item by a count
  abbrev pub CleaningsAreTrue : Type 0
  CleaningsAreTrue =
      (count : ℕ) (event : Event) → slice_get e.events count ≡ Some event → (item cleaned : ℕ) (before behind : List Act)
      → acts_in (moment e count) event ≡ before ++ act.Answered nodes.Cleaner item (answer.Count cleaned) ∷ behind → IsCleaned count item cleaned before

  pub record NumbersAreTrue : Type 0 where
    -- a rebuild answers how much of what its server lacked was filled in, and how much is gone
    pub rebuilds : RebuildsAreTrue e
    -- a cleaning answers how many segments were dropped
    pub cleanings : CleaningsAreTrue
