-- Up to the first doubtful restart, who holds a block has its newest version, with its value, and the acts of a run are legal: each read answers the newest version
-- of its block, and no client loses what was read elsewhere or synced (the 1996 paper, on cache consistency).
use Rattle.std.specs.Prelude.{◌≡◌, ◌≤◌, ℕ, true, Some, length, slice_get}
use Rattle.core_world.specs.declared.any_node.AnyNode.{AnyNode}
use Rattle.token_client.specs.State.{TokensState, held_of}
use Rattle.version_model.specs.declared.history.BlockHistory.{BlockHistory}
use Rattle.version_model.specs.declared.history.Version.{Version}
use Rattle.version_model.specs.Effects.{history_after}
use Rattle.version_model.specs.History.{Content, content_at, nothing_yet}
use Rattle.version_model.specs.Legal.{AreLegal}
use Rattle.world_base.specs.declared.estate.Estate.{Estate}
use Rattle.world_base.specs.declared.world.World.{World}
use Rattle.world_base.specs.Items.{works_of}
use Rattle.xfs_base.specs.declared.block.BlockId.{BlockId}
use Rattle.xfs_base.specs.Modes.{is_held}
use Rattle.headline.specs.Moments.{moment}
use Rattle.headline.specs.Owners.{tokens_at}
use Rattle.headline.specs.Restarts.{LosesNone, NoDoubtfulRestart}

-- the history of a block that the acts up to a moment made
abbrev pub history_at : World AnyNode → BlockId → BlockHistory
history_at w b = (history_after w.acts nothing_yet).of_block b

-- the version is the newest, and this is its value
pub record IsNewest (h : BlockHistory) (version : ℕ) (value : Content) : Type 0 where
  pub newest : version ≡ length h.versions
  pub content : content_at version h.versions ≡ Some value

-- each client that serves has the newest version, with its value, of each block of which it keeps a value
abbrev pub HoldersAreNewest : World AnyNode → Type 0
HoldersAreNewest w =
    (b : BlockId) (c : ℕ) (t : TokensState) (value : Content) → tokens_at w c ≡ Some t → is_held (held_of t.blocks b).mode ≡ true
    → (held_of t.blocks b).value ≡ Some value → IsNewest (history_at w b) (held_of t.blocks b).ver value

abbrev pub HoldersAreNewestThroughout : Estate AnyNode → Type 0
HoldersAreNewestThroughout e = (count : ℕ) → NoDoubtfulRestart e count → HoldersAreNewest (moment e count)

-- the last version is this one, and all above the settled one are by the client
pub record OwnsFrom (h : BlockHistory) (client settled version : ℕ) : Type 0 where
  pub newest : version ≡ length h.versions
  pub own : (place : ℕ) (v : Version) → slice_get h.versions place ≡ Some v → settled ≤ place → v.writer ≡ client

-- the acts of a run up to a moment up to which no restart that ended was doubtful are legal
abbrev pub LegalActs : Estate AnyNode → Type 0
LegalActs e = (count : ℕ) → NoDoubtfulRestart e count → AreLegal (moment e count).acts

-- The acts of a run of a script without a line by which a server loses its disk are legal, up to each moment.
abbrev pub LegalWithoutLosses : Estate AnyNode → Type 0
LegalWithoutLosses e = LosesNone (works_of e.script.lines) → (count : ℕ) → AreLegal (moment e count).acts
