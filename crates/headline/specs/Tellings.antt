-- What came to a node since its item began, and what it had asked: to the node `me`, by the events behind the one at the place `begun` and before the one at `end`.
use Rattle.std.specs.Prelude.{◌≡◌, ◌<◌, ℕ, Some, slice_get}
use Rattle.core_world.specs.declared.any_node.AnyNode.{AnyNode}
use Rattle.stripe_code.specs.declared.round.Told.{Told}
use Rattle.stripe_code.specs.declared.round.Told.TheVariants as told
use Rattle.token_protocol.specs.Basics.{In}
use Rattle.wire_msg.specs.declared.body.Body.{Body}
use Rattle.wire_msg.specs.declared.body.Body.TheVariants as body
use Rattle.wire_msg.specs.declared.packet.Packet.{Packet}
use Rattle.wire_msg.specs.declared.storage.Found.{Found}
use Rattle.wire_msg.specs.declared.storage.Missing.{Missing}
use Rattle.world_base.specs.declared.estate.Estate.{Estate}
use Rattle.world_base.specs.declared.event.Event.{Event}
use Rattle.world_base.specs.declared.event.Event.TheVariants.{Deliver}
use Rattle.xfs_base.specs.declared.node.NodeId.{NodeId}
use Rattle.xfs_base.specs.declared.node.NodeId.TheVariants as nodes
use Rattle.xfs_base.specs.declared.segment.SegName.{SegName}
use Rattle.headline.specs.Moments.{moment, sent_in}

-- of a segment, where a fragment was told
abbrev pub IsOfSegment : SegName → Told → Type 0
IsOfSegment name (told.Held fragment) = fragment.meta.name ≡ name
IsOfSegment name (told.Missing generation) = Unit {0}

module _ (e : Estate AnyNode) (me : NodeId) (begun end : ℕ) where
  -- this came to it from a node
  pub record HasCome (from : NodeId) (said : Body) : Type 0 where
    pub place : ℕ
    pub since : begun < place
    pub before : place < end
    pub packet : Packet
    pub happens : slice_get e.events place ≡ Some (Deliver packet)
    pub to_it : packet.to ≡ me
    pub from_it : packet.from ≡ from
    pub says : packet.body ≡ said

  -- it asked a server for its fragment of a segment, under a question
  pub record HasFetched (name : SegName) (ask server : ℕ) : Type 0 where
    pub place : ℕ
    pub since : begun < place
    pub before : place < end
    pub event : Event
    pub happens : slice_get e.events place ≡ Some event
    pub packet : Packet
    pub sent : In packet (sent_in (moment e place) event)
    pub from_it : packet.from ≡ me
    pub to_server : packet.to ≡ nodes.Server server
    pub says : packet.body ≡ body.Fetch (record { name = name; ask = ask })

module _ (e : Estate AnyNode) (me : NodeId) (begun end : ℕ) where
  -- A server had been asked for its fragment of a segment, under a question, and then told under that question: the fragment, or that it has none, and its
  -- generation.
  abbrev pub HasTold : SegName → ℕ → ℕ → Told → Type 0
  HasTold name ask from (told.Held fragment) =
      (found : Found) × (come : HasCome e me begun end (nodes.Server from) (body.Fragment found)) × HasFetched e me begun come.place name ask from
      × (found.ask ≡ ask) × (found.fragment ≡ fragment)
  HasTold name ask from (told.Missing generation) =
      (missing : Missing) × (come : HasCome e me begun end (nodes.Server from) (body.Missing missing)) × HasFetched e me begun come.place name ask from
      × (missing.ask ≡ ask) × (missing.generation ≡ generation)
