-- What a cleaning takes: of all segments that there were to empty since it began as many as it was asked for, and each of these was dropped or is lost.
use Rattle.std.specs.List.{AllByRecursion, fold}
use Rattle.std.specs.Prelude.{◌≡◌, ◌<◌, ℕ, suc, min, List, [], ◌∷◌, ◌++◌, Option, Some, map, length, slice_get}
use Rattle.cleaner_node.specs.CleanerEvents.{wish_at}
use Rattle.cleaner_node.specs.declared.cleaner.Cleaner.{Cleaner}
use Rattle.cleaner_node.specs.declared.cleaner.Phase.TheVariants.{Serving}
use Rattle.cleaner_node.specs.declared.cleaner.Wish.TheVariants.{Clean}
use Rattle.cleaner_serving.specs.declared.emptying.Emptying.{Emptying}
use Rattle.core_world.specs.declared.any_node.AnyNode.{AnyNode}
use Rattle.core_world.specs.declared.any_node.AnyNode.TheVariants as any
use Rattle.group_map.specs.declared.group.Group.{Group}
use Rattle.group_map.specs.GroupMapState.{GroupMapState}
use Rattle.group_map.specs.Groups.{group_of}
use Rattle.node_base.specs.Beginning.{next_item}
use Rattle.segment_reading.specs.Lost.{missing_twice}
use Rattle.segment_reading.specs.Reading.{servers_of}
use Rattle.stripe_cleaner.specs.Candidates.{candidates_with}
use Rattle.stripe_cleaner.specs.Listing.{all_servers}
use Rattle.stripe_code.specs.declared.round.Answer.{Answer as Reply}
use Rattle.stripe_code.specs.declared.round.RoundState.TheVariants.{Short}
use Rattle.stripe_code.specs.Round.{RoundSoFar, round_start, round_take, state_of}
use Rattle.token_protocol.specs.Basics.{In}
use Rattle.version_model.specs.declared.act.Act.TheVariants as act
use Rattle.version_model.specs.declared.answer.Answer.TheVariants as answer
use Rattle.wire_msg.specs.declared.body.Body.TheVariants as body
use Rattle.wire_msg.specs.declared.registry.News.{News}
use Rattle.wire_msg.specs.declared.registry.Welcome.{Welcome}
use Rattle.wire_msg.specs.declared.storage.Listed.{Listed}
use Rattle.world_base.specs.declared.estate.Estate.{Estate}
use Rattle.world_base.specs.declared.event.Event.{Event}
use Rattle.world_base.specs.declared.event.Event.TheVariants.{Begin}
use Rattle.world_base.specs.Events.{node_of}
use Rattle.xfs_base.specs.declared.news.SlotNews.{SlotNews}
use Rattle.xfs_base.specs.declared.node.NodeId.{NodeId}
use Rattle.xfs_base.specs.declared.node.NodeId.TheVariants as nodes
use Rattle.xfs_base.specs.declared.segment.SegName.{SegName}
use Rattle.xfs_base.specs.declared.segment.SegRef.{SegRef}
use Rattle.xfs_base.specs.Limits.{u32_end}
use Rattle.headline.specs.Moments.{acts_in, moment, node_named}
use Rattle.headline.specs.Tellings.{HasCome, HasTold, IsOfSegment}

-- none of these has this name
abbrev pub NoneNamed : SegName → List SegRef → Type 0
NoneNamed name segments = AllByRecursion (λ (s : SegRef). s.name ≡ name → ⊥) segments

-- no two of these have one name
abbrev pub Apart : List SegRef → Type 0
Apart [] = Unit {0}
Apart (s ∷ segments) = NoneNamed s.name segments × Apart segments

-- what may be emptied among what these servers list: what is below the least horizon of its log, of logs that are cleaned; by name, each with its group
abbrev pub candidates_by : List SlotNews → List (ℕ × Listed) → List (SegName × ℕ)
candidates_by slots lists = fold (λ candidates list. candidates_with slots list.1.held candidates) [] lists

-- a round over a group in which these replies came, of each server the first
abbrev pub round_with : Group → List Reply → RoundSoFar
round_with group replies =
    fold (λ (round : RoundSoFar) (r : Reply). round_take round r.server r.told) (round_start (length group.members) group.parity (servers_of group)) replies

-- The item begins at the event at this place: the cleaner serves, and is to empty so many segments; its last question was this, and it knew these groups.
pub record BeginsCleaning (e : Estate AnyNode) (item begun many last : ℕ) (groups : Option GroupMapState) : Type 0 where
  pub happens : slice_get e.events begun ≡ Some (Begin nodes.Cleaner)
  pub cleaner : Cleaner
  pub its : node_named (moment e begun) nodes.Cleaner ≡ Some (any.Cleaner cleaner)
  pub serving : Emptying
  pub serves : cleaner.phase ≡ Serving serving
  pub next : next_item serving.lasting.items ≡ Some item
  pub asks : wish_at serving.lasting.items item ≡ Clean many
  pub questions : serving.lasting.questions.last ≡ last
  pub known : serving.maps.groups ≡ groups

-- of the cleaner, by the events behind the one at a place and before the one at another
module _ (e : Estate AnyNode) (begun end : ℕ) where
  -- these groups it knew as the item began, or they came to it since
  pub data KnowsGroups (at_first : Option GroupMapState) (groups : GroupMapState) : Type 0 where
    AtFirst : at_first ≡ Some groups → KnowsGroups at_first groups
    ByNews : (from : NodeId) (news : News) → HasCome e nodes.Cleaner begun end from (body.MapNews news) → news.groups ≡ groups → KnowsGroups at_first groups
    ByWelcome : (from : NodeId) (welcome : Welcome) → HasCome e nodes.Cleaner begun end from (body.Welcome welcome) → welcome.news.groups ≡ groups
        → KnowsGroups at_first groups

  -- All that there is to empty, since the item began, as which the last question was this: by a Welcome that answers a newer one, whichever that was, and by
  -- the lists of all servers under one newer question.
  pub record AreCandidates (last : ℕ) (at_first : Option GroupMapState) (candidates : List (SegName × ℕ)) : Type 0 where
    pub from : NodeId
    pub welcome : Welcome
    pub welcomed : HasCome e nodes.Cleaner begun end from (body.Welcome welcome)
    pub answers : last < welcome.ask
    pub groups : GroupMapState
    pub known : KnowsGroups at_first groups
    pub ask : ℕ
    pub newer : last < ask
    pub lists : List (ℕ × Listed)
    pub come : AllByRecursion (λ (list : ℕ × Listed). HasCome e nodes.Cleaner begun end (nodes.Server list.0) (body.Listed list.1)) lists
    pub asked : AllByRecursion (λ (list : ℕ × Listed). list.1.ask ≡ ask) lists
    pub all : (server : ℕ) → In server (all_servers groups.servers) → In server (map (λ (list : ℕ × Listed). list.0) lists)
    pub are : candidates ≡ candidates_by welcome.news.slots lists

  -- it acts that it drops the segment
  pub record IsDropped (name : SegName) : Type 0 where
    pub place : ℕ
    pub since : begun < place
    pub before : place < end
    pub event : Event
    pub happens : slice_get e.events place ≡ Some event
    pub own : node_of event ≡ nodes.Cleaner
    pub acted : In (act.Dropped name) (acts_in (moment e place) event)

  -- A round over a group, under a question, ended without the segment: all servers replied, each of which had been asked for this segment under it, too few
  -- with a fragment of it, and these pairs of a server and its generation had none.
  pub record MissesUnder (name : SegName) (group : Group) (ask : ℕ) (pairs : List (ℕ × ℕ)) : Type 0 where
    pub replies : List Reply
    pub come : AllByRecursion (λ (r : Reply). HasTold e nodes.Cleaner begun end name ask r.server r.told) replies
    pub fit : AllByRecursion (λ (r : Reply). IsOfSegment name r.told) replies
    pub among : AllByRecursion (λ (r : Reply). In r.server (servers_of group)) replies
    pub is : state_of (round_with group replies) ≡ Short pairs

  -- The segment is lost: under two questions, one newer than the other, more of the same pairs had no fragment than the parity makes good.
  pub record IsLost (last : ℕ) (at_first : Option GroupMapState) (segment : SegRef) : Type 0 where
    pub groups : GroupMapState
    pub known : KnowsGroups at_first groups
    pub group : Group
    pub its : group_of groups segment.group ≡ Some group
    pub ask : ℕ
    pub again : ℕ
    pub newer : last < ask
    pub later : ask < again
    pub before : List (ℕ × ℕ)
    pub now : List (ℕ × ℕ)
    pub once : MissesUnder segment.name group ask before
    pub twice : MissesUnder segment.name group again now
    pub missed : group.parity < length (missing_twice before now)

  -- of these segments so many were dropped, and the others are lost
  pub data AreEmptied (last : ℕ) (at_first : Option GroupMapState) : List SegRef → ℕ → Type 0 where
    NoneYet : AreEmptied last at_first [] 0
    OneDropped : {segments : List SegRef} {dropped : ℕ} (segment : SegRef) → AreEmptied last at_first segments dropped → IsDropped segment.name
        → AreEmptied last at_first (segments ++ segment ∷ []) (suc dropped)
    OneLost : {segments : List SegRef} {dropped : ℕ} (segment : SegRef) → AreEmptied last at_first segments dropped → IsLost last at_first segment
        → AreEmptied last at_first (segments ++ segment ∷ []) dropped

  -- these are taken: of all that there is to empty as many as are asked for, or all
  pub record AreTaken (many last : ℕ) (at_first : Option GroupMapState) (taken : List SegRef) : Type 0 where
    pub candidates : List (SegName × ℕ)
    pub are : AreCandidates last at_first candidates
    pub apart : Apart taken
    pub each : AllByRecursion (λ (s : SegRef). In (s.name, s.group) candidates) taken
    pub length_is : length taken ≡ min many (length candidates)

module _ (e : Estate AnyNode) where
  -- so many were dropped of what the item was to take, and the others are lost, by the event at a place
  pub record TakesWhatIsDue (count item cleaned : ℕ) : Type 0 where
    pub begun : ℕ
    pub many : ℕ
    pub last : ℕ
    pub at_first : Option GroupMapState
    pub began : BeginsCleaning e item begun many last at_first
    pub since : begun < count
    pub taken : List SegRef
    pub are : AreTaken e begun (suc count) many last at_first taken
    pub dropped : ℕ
    pub emptied : AreEmptied e begun (suc count) last at_first taken dropped
    -- a count does not pass its type's end
    pub counts : cleaned ≡ min dropped u32_end

  -- so it is whenever the cleaner answers a count
  abbrev pub CleaningsTakeWhatIsDue : Type 0
  CleaningsTakeWhatIsDue =
      (count : ℕ) (event : Event) → slice_get e.events count ≡ Some event → (item cleaned : ℕ)
      → In (act.Answered nodes.Cleaner item (answer.Count cleaned)) (acts_in (moment e count) event) → TakesWhatIsDue count item cleaned
