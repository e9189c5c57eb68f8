-- A Grant that a client would still accept leads to what stands: when it was sent, no server had been told to delete the segment that it tells of (the 1996
-- paper, on cleaning and on cache consistency).
use Rattle.std.specs.Prelude.{◌≡◌, ◌≤◌, ℕ, true, Some}
use Rattle.core_world.specs.AnyNode.{any_start, any_step}
use Rattle.core_world.specs.declared.any_node.AnyNode.{AnyNode}
use Rattle.node_base.specs.Setups.{IsSetup}
use Rattle.headline.specs.Restarts.{NoDoubtfulRestart}
use Rattle.token_client.specs.State.{TokensState}
use Rattle.token_client.specs.Transition.{accepts}
use Rattle.token_protocol.specs.Basics.{In}
use Rattle.wire_msg.specs.declared.body.Body.TheVariants as body
use Rattle.wire_msg.specs.declared.packet.Packet.{Packet}
use Rattle.wire_msg.specs.declared.tokens.Grant.{Grant}
use Rattle.world_base.specs.declared.estate.Estate.{Estate}
use Rattle.world_base.specs.declared.world.World.{World}
use Rattle.world_base.specs.Runs.{IsRun}
use Rattle.headline.specs.Moments.{moment}
use Rattle.headline.specs.Owners.{tokens_at}
use Rattle.headline.specs.Segments.{NotDeleted}
use Rattle.xfs_base.specs.declared.entry.Place.{Place}
use Rattle.xfs_base.specs.declared.node.NodeId.TheVariants as nodes

-- At a moment a client that serves would accept this Grant, which was sent to it, and tells that the block lies at this place.
pub record WouldAccept (w : World AnyNode) (c : ℕ) (packet : Packet) (place : Place) : Type 0 where
  pub tokens : TokensState
  pub serves : tokens_at w c ≡ Some tokens
  pub sent : In packet w.sent
  pub to : packet.to ≡ nodes.Client c
  pub grant : Grant
  pub bears : packet.body ≡ body.Grant grant
  pub accepted : accepts tokens grant.block grant.stamp grant.inc grant.req grant.mode ≡ true
  pub leads : grant.entry.place ≡ Some place

-- Then the segment there had not been deleted at any moment by which the Grant was not sent yet.
abbrev pub StoodBefore : Estate AnyNode → ℕ → Packet → Place → Type 0
StoodBefore e count packet place =
    (before : ℕ) → before ≤ count → (In packet (moment e before).sent → ⊥) → NotDeleted (moment e before) place.seg.name

-- So it is in each run of a script of whose setup a run can be started, at each moment up to which no restart that ended was doubtful.
abbrev pub GrantsLeadToWhatStands : Type 0
GrantsLeadToWhatStands =
    (e : Estate AnyNode) → IsSetup e.script.setup → IsRun any_step any_start e.script e.events e.world → (count : ℕ) → NoDoubtfulRestart e count
    → (c : ℕ) (packet : Packet) (place : Place) → WouldAccept (moment e count) c packet place → StoodBefore e count packet place
