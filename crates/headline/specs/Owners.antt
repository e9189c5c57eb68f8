-- One owner: at no moment of a run has a block two owners among the clients that serve, nor another holder beside an owner.
use Rattle.std.specs.Prelude.{◌≡◌, ℕ, true, Option, Some, None}
use Rattle.client_node.specs.declared.phase.Phase.{Phase}
use Rattle.client_node.specs.declared.phase.Phase.TheVariants.{Down, Opening, Serving as Serves}
use Rattle.core_world.specs.declared.any_node.AnyNode.{AnyNode}
use Rattle.core_world.specs.declared.any_node.AnyNode.TheVariants as any
use Rattle.token_client.specs.State.{TokensState, held_of}
use Rattle.world_base.specs.declared.estate.Estate.{Estate}
use Rattle.world_base.specs.declared.world.World.{World}
use Rattle.xfs_base.specs.declared.block.BlockId.{BlockId}
use Rattle.xfs_base.specs.declared.node.NodeId.TheVariants as nodes
use Rattle.xfs_base.specs.Modes.{is_held, is_own}
use Rattle.headline.specs.Moments.{moment, node_named}

-- the tokens of a client that serves
abbrev pub tokens_in : Phase → Option TokensState
tokens_in (Down l) = None
tokens_in (Opening l o) = None
tokens_in (Serves s) = Some s.tokens

abbrev pub tokens_of : Option AnyNode → Option TokensState
tokens_of None = None
tokens_of (Some (any.Client node)) = tokens_in node.phase
tokens_of (Some (any.Manager node)) = None
tokens_of (Some (any.Server node)) = None
tokens_of (Some (any.Cleaner node)) = None
tokens_of (Some (any.Registry node)) = None

-- the tokens of a client, where it serves
abbrev pub tokens_at : World AnyNode → ℕ → Option TokensState
tokens_at w c = tokens_of (node_named w (nodes.Client c))

-- where one client owns a block, no other client holds it
abbrev pub HasOneOwner : World AnyNode → Type 0
HasOneOwner w =
    (b : BlockId) (c d : ℕ) (s t : TokensState) → tokens_at w c ≡ Some s → tokens_at w d ≡ Some t
    → is_own (held_of s.blocks b).mode ≡ true → is_held (held_of t.blocks b).mode ≡ true → c ≡ d

-- at each moment of a run each block has one owner at most, and then no other holder
abbrev pub OneOwnerThroughout : Estate AnyNode → Type 0
OneOwnerThroughout e = (count : ℕ) → HasOneOwner (moment e count)
