-- Clients that fell: nobody holds what such a client fell with until it is back, it doesn't fall again before, and no fall names a block twice.
use Rattle.std.specs.Prelude.{◌≡◌, ℕ, false, List, Some}
use Rattle.core_world.specs.declared.any_node.AnyNode.{AnyNode}
use Rattle.token_client.specs.State.{TokensState, held_of}
use Rattle.token_protocol.specs.Basics.{In}
use Rattle.version_model.specs.declared.act.Fall.{Fall}
use Rattle.version_model.specs.declared.history.FallTold.{FallTold}
use Rattle.version_model.specs.Effects.{history_after}
use Rattle.version_model.specs.Falls.{FallsApart}
use Rattle.version_model.specs.History.{nothing_yet}
use Rattle.world_base.specs.declared.estate.Estate.{Estate}
use Rattle.world_base.specs.declared.world.World.{World}
use Rattle.xfs_base.specs.declared.block.BlockId.{BlockId}
use Rattle.xfs_base.specs.Modes.{is_held}
use Rattle.headline.specs.Moments.{moment}
use Rattle.headline.specs.Owners.{tokens_at}

-- one of these falls names the block
pub record Names (b : BlockId) (told : List FallTold) : Type 0 where
  pub told_so : FallTold
  pub among : In told_so told
  pub fall : Fall
  pub named : In fall told_so.falls
  pub block : fall.block ≡ b

-- the client fell with the block, and isn't back: its act Fell named the block, and no act Back of it came since
abbrev pub HasFallen : World AnyNode → BlockId → ℕ → Type 0
HasFallen w b c = Names b ((history_after w.acts nothing_yet).told c)

-- while a client that fell with a block isn't back, no client holds the block
abbrev pub NobodyHolds : World AnyNode → Type 0
NobodyHolds w = (b : BlockId) (c d : ℕ) (t : TokensState) → HasFallen w b c → tokens_at w d ≡ Some t → is_held (held_of t.blocks b).mode ≡ false

-- so it is at each moment of a run
abbrev pub NobodyHoldsThroughout : Estate AnyNode → Type 0
NobodyHoldsThroughout e = (count : ℕ) → NobodyHolds (moment e count)

-- no client falls again before it is back, and no fall names a block twice: so it is of the acts up to each moment of a run
abbrev pub FallsApartThroughout : Estate AnyNode → Type 0
FallsApartThroughout e = (count : ℕ) → FallsApart (moment e count).acts
