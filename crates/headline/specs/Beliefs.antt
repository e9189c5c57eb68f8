-- What a manager believes of clients: at whatever epoch it manages a slot, the registry's or an earlier one, it believes of each client that serves and has
-- promised that epoch what that holds or reads, and what it would still accept. Until a manager manages the slot at a greater epoch it believes so of each client
-- that serves, whatever that has promised. And once it no longer manages the slot at that epoch, be it deposed or down, the same is so of what it believed at
-- the last moment at which it did. Of a client that has promised a later epoch nothing more is said once one manages the slot at such an epoch: what that client
-- holds it may have of the later manager (the 1996 paper, on cache consistency and on managers).
use Rattle.std.specs.Prelude.{◌≡◌, ◌⊎◌, ◌<◌, ◌≤◌, ℕ, true, Some, is_some}
use Rattle.core_world.specs.declared.any_node.AnyNode.{AnyNode}
use Rattle.slot_beliefs.specs.Beliefs.{share_of}
use Rattle.token_client.specs.State.{TokensState, epoch_of, held_of, is_in_slot}
use Rattle.token_client.specs.Transition.{accepts}
use Rattle.token_manager.specs.SlotState.{SlotState}
use Rattle.wire_msg.specs.declared.body.Body.TheVariants as body
use Rattle.wire_msg.specs.declared.packet.Packet.{Packet}
use Rattle.wire_msg.specs.declared.tokens.Forward.{Forward}
use Rattle.wire_msg.specs.declared.tokens.Grant.{Grant}
use Rattle.wire_msg.specs.declared.tokens.Supply.{Supply}
use Rattle.world_base.specs.declared.estate.Estate.{Estate}
use Rattle.world_base.specs.declared.world.World.{World}
use Rattle.world_base.specs.Runs.{WasSent}
use Rattle.xfs_base.specs.declared.block.BlockId.{BlockId}
use Rattle.xfs_base.specs.declared.node.NodeId.TheVariants as nodes
use Rattle.xfs_base.specs.declared.token.Mode.TheVariants.{Copy}
use Rattle.xfs_base.specs.Limits.{slot_count}
use Rattle.xfs_base.specs.Modes.{mode_number}
use Rattle.headline.specs.Managers.{active_at}
use Rattle.headline.specs.Moments.{moment}
use Rattle.headline.specs.Owners.{tokens_at}

module _ (w : World AnyNode) (part : ℕ) where
  -- Of each block of the slot this state of its manager believes of the client:
  pub record Believes (c : ℕ) (s : SlotState) (t : TokensState) : Type 0 where
    -- at least what it holds
    pub held : (b : BlockId) → is_in_slot part b ≡ true → mode_number (held_of t.blocks b).mode ≤ share_of s.beliefs b c
    -- a copy at least, where it reads the block
    pub fetched : (b : BlockId) → is_in_slot part b ≡ true → is_some (held_of t.blocks b).fetch ≡ true → 1 ≤ share_of s.beliefs b c
    -- what a Grant that was sent to it would give, where it would still accept that
    pub granted : (packet : Packet) (m : Grant) → WasSent w.sent packet → packet.to ≡ nodes.Client c → packet.body ≡ body.Grant m
        → is_in_slot part m.block ≡ true → accepts t m.block m.stamp m.inc m.req m.mode ≡ true → mode_number m.mode ≤ share_of s.beliefs m.block c
    -- a copy at least, where it would still accept a Supply that was sent to it
    pub supplied : (packet : Packet) (m : Supply) → WasSent w.sent packet → packet.to ≡ nodes.Client c → packet.body ≡ body.Supply m
        → is_in_slot part m.block ≡ true → accepts t m.block m.stamp m.inc m.req Copy ≡ true → 1 ≤ share_of s.beliefs m.block c
    -- or would still accept what a Forward to another client asks to be supplied to it
    pub forwarded : (d : ℕ) (packet : Packet) (m : Forward) → WasSent w.sent packet → packet.to ≡ nodes.Client d → packet.body ≡ body.Forward m → m.to ≡ c
        → is_in_slot part m.block ≡ true → accepts t m.block m.stamp m.inc m.req Copy ≡ true → 1 ≤ share_of s.beliefs m.block c

-- At a moment of a run, of a slot:
module _ (e : Estate AnyNode) (count part : ℕ) where
  -- a manager managed it with this state at the last moment at which it managed it at that epoch; this moment is that one where it manages it still
  pub record WasLast (j : ℕ) (s : SlotState) : Type 0 where
    pub last : ℕ
    pub within : last ≤ count
    pub managed : active_at (moment e last) part j ≡ Some s
    pub since : (at : ℕ) (z : SlotState) → last < at → at ≤ count → active_at (moment e at) part j ≡ Some z → z.epoch ≡ s.epoch → ⊥

  -- no manager has managed it at a greater epoch yet
  abbrev pub NoneLater : ℕ → Type 0
  NoneLater epoch = (at j : ℕ) (z : SlotState) → at ≤ count → active_at (moment e at) part j ≡ Some z → z.epoch ≤ epoch

  -- what it believes, or believed then, covers each client that serves now and has promised that very epoch, and all that serve where none managed it later
  abbrev pub BelievesItsClients : Type 0
  BelievesItsClients =
      (j c : ℕ) (s : SlotState) (t : TokensState) → WasLast j s → tokens_at (moment e count) c ≡ Some t
      → (s.epoch ≡ epoch_of t.epochs part) ⊎ NoneLater s.epoch → Believes (moment e count) part c s t

-- so it is at each moment of a run, of each slot
abbrev pub BelievedThroughout : Estate AnyNode → Type 0
BelievedThroughout e = (count part : ℕ) → part < slot_count → BelievesItsClients e count part
