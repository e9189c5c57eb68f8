-- What a client says is lost while it reads a block for its open call was torn, in the words of a run of the nodes.
use Rattle.std.specs.Prelude.{◌≡◌, ◌<◌, ◌≤◌, ◌⊎◌, ℕ, true, Some, slice_get}
use Rattle.client_call.specs.Reads.{target_of}
use Rattle.client_serving.specs.declared.serving.Serving.{Serving}
use Rattle.core_world.specs.AnyNode.{any_start, any_step}
use Rattle.core_world.specs.declared.any_node.AnyNode.{AnyNode}
use Rattle.node_base.specs.Setups.{IsSetup}
use Rattle.segment_reading.specs.declared.target.BlockAt.{BlockAt}
use Rattle.segment_reading.specs.Reading.{ReadingState}
use Rattle.token_client.specs.Transition.{accepts}
use Rattle.token_protocol.specs.Basics.{In}
use Rattle.headline.specs.Torn.{IsTornAt}
use Rattle.version_model.specs.declared.act.Act.TheVariants as act
use Rattle.wire_msg.specs.declared.body.Body.TheVariants as body
use Rattle.wire_msg.specs.declared.packet.Do.{Do}
use Rattle.wire_msg.specs.declared.packet.Do.TheVariants.{Deliver}
use Rattle.wire_msg.specs.declared.packet.Packet.{Packet}
use Rattle.wire_msg.specs.declared.tokens.Grant.{Grant}
use Rattle.world_base.specs.declared.estate.Estate.{Estate}
use Rattle.world_base.specs.declared.event.Event.{Event}
use Rattle.world_base.specs.Events.{node_of, what_of}
use Rattle.world_base.specs.Runs.{IsRun}
use Rattle.headline.specs.Moments.{acts_in, moment}
use Rattle.headline.specs.Segments.{NotDeleted}
use Rattle.xfs_base.specs.declared.entry.Place.{Place}
use Rattle.xfs_base.specs.declared.node.NodeId.TheVariants as nodes
use Rattle.xfs_base.specs.declared.segment.SegName.{SegName}
use Rattle.headline.specs.Reads.{BringsGone, ReadsAt, serving_at, what_is_read}

-- ---- what an event brings

-- a grant of the block that is read, at the place where it is read
pub record Confirms (what : Do) (r : ReadingState) : Type 0 where
  pub packet : Packet
  pub delivers : what ≡ Deliver packet
  pub grant : Grant
  pub bears : packet.body ≡ body.Grant grant
  pub place : Place
  pub lies : grant.entry.place ≡ Some place
  pub reads : r.target ≡ target_of grant.block place

-- ---- the law

module _ (e : Estate AnyNode) where
  -- The client's open call reads the segment of this name, and the block is granted at the place where it is read. Since the first of two moments the
  -- call of the same item has read this segment; where no server had been told to delete it at the second moment, it was torn at the first; and the grant was
  -- sent after the second.
  pub record WasTornInFetch (c : ℕ) (s : Serving) (count : ℕ) (what : Do) (name : SegName) : Type 0 where
    pub reading : ReadingState
    pub is_read : what_is_read (serving_at e c count) ≡ Some reading
    pub named : name ≡ reading.target.seg.name
    pub confirms : Confirms what reading
    -- which the client's tokens accept
    pub accepted : accepts s.tokens confirms.grant.block confirms.grant.stamp confirms.grant.inc confirms.grant.req confirms.grant.mode ≡ true
    pub item : ℕ
    pub first : ℕ
    pub second : ℕ
    pub in_order : first ≤ second
    pub before : second ≤ count
    pub reads : (k : ℕ) → first ≤ k → k ≤ count → ReadsAt e c k item reading.target.seg
    pub torn : NotDeleted (moment e second) name → IsTornAt e first reading.target.seg
    pub asked_after : In confirms.packet (moment e second).sent → ⊥

  -- what a client says is lost while it serves
  abbrev pub FetchesLoseWhatIsTorn : ℕ → Type 0
  FetchesLoseWhatIsTorn c =
      (count : ℕ) (event : Event) → slice_get e.events count ≡ Some event → nodes.Client c ≡ node_of event
      → (s : Serving) → serving_at e c count ≡ Some s
      → (name : SegName) → In (act.Lost (nodes.Client c) name) (acts_in (moment e count) event)
      → BringsGone s (what_of event) name ⊎ WasTornInFetch c s count (what_of event) name

-- so it is of each client of a run, whose setup a run can be started from
abbrev pub FetchesLossesEarned : Type 0
FetchesLossesEarned =
    (e : Estate AnyNode) → IsSetup e.script.setup → IsRun any_step any_start e.script e.events e.world
    → (c : ℕ) → 0 < c → c ≤ e.script.setup.clients → FetchesLoseWhatIsTorn e c

-- What the open call of a client reads it reads for a block, at each moment of each such run.
abbrev pub CallsReadBlocks : Type 0
CallsReadBlocks =
    (e : Estate AnyNode) → IsSetup e.script.setup → IsRun any_step any_start e.script e.events e.world → (c : ℕ) → 0 < c → c ≤ e.script.setup.clients
    → (count : ℕ) (r : ReadingState) → what_is_read (serving_at e c count) ≡ Some r → (wanted : BlockAt) × (r.target.block ≡ Some wanted)
