-- One manager: at no moment of a run does a slot have two managers at one epoch, nor one at an epoch above the registry's; and whoever serves has promised each
-- epoch that is managed.
use Rattle.std.specs.Prelude.{◌≡◌, ◌<◌, ◌≤◌, ℕ, true, Option, Some, None, slice_get, unwrap_or}
use Rattle.cleaner_node.specs.declared.cleaner.Phase.{Phase as CleanerPhase}
use Rattle.cleaner_node.specs.declared.cleaner.Phase.TheVariants as cleaners
use Rattle.core_world.specs.declared.any_node.AnyNode.{AnyNode}
use Rattle.core_world.specs.declared.any_node.AnyNode.TheVariants as any
use Rattle.log_owner.specs.declared.promised.Promised.{Promised}
use Rattle.manager_node.specs.declared.phase.Phase.{Phase}
use Rattle.manager_node.specs.declared.phase.Phase.TheVariants.{Down, Serving as Serves, Waiting}
use Rattle.manager_slots.specs.declared.slot_phase.SlotPhase.{SlotPhase}
use Rattle.manager_slots.specs.declared.slot_phase.SlotPhase.TheVariants as phase
use Rattle.manager_slots.specs.SlotTable.{Table}
use Rattle.registry.specs.Slots.{entry_of}
use Rattle.slot_beliefs.specs.Beliefs.{share_of}
use Rattle.token_client.specs.State.{TokensState, epoch_of, held_of, is_in_slot}
use Rattle.token_client.specs.Transition.{accepts}
use Rattle.token_manager.specs.SlotState.{SlotState}
use Rattle.wire_msg.specs.declared.body.Body.TheVariants as body
use Rattle.wire_msg.specs.declared.packet.Packet.{Packet}
use Rattle.wire_msg.specs.declared.tokens.Grant.{Grant}
use Rattle.world_base.specs.declared.estate.Estate.{Estate}
use Rattle.world_base.specs.declared.world.World.{World}
use Rattle.world_base.specs.Runs.{WasSent}
use Rattle.xfs_base.specs.declared.block.BlockId.{BlockId}
use Rattle.xfs_base.specs.declared.node.NodeId.TheVariants as nodes
use Rattle.xfs_base.specs.Limits.{slot_count}
use Rattle.xfs_base.specs.Modes.{mode_number}
use Rattle.headline.specs.Moments.{moment, node_named}
use Rattle.headline.specs.Owners.{tokens_at}

-- the table's slot of this number
abbrev pub phase_at : Table → ℕ → SlotPhase
phase_at table slot = unwrap_or (slice_get table slot) (phase.Away 0)

-- what a manager has of the slot; one that doesn't serve knows nothing of it
abbrev pub slot_in : ℕ → Phase → SlotPhase
slot_in part (Serves s) = phase_at s.slots part
slot_in part (Down kept) = phase.Away 0
slot_in part (Waiting kept hello) = phase.Away 0

abbrev pub active_in : SlotPhase → Option SlotState
active_in (phase.Active a) = Some a.slot
active_in (phase.Taking t) = None
active_in (phase.Away epoch) = None
active_in (phase.Broken epoch seg) = None

abbrev pub active_of : ℕ → Option AnyNode → Option SlotState
active_of part None = None
active_of part (Some (any.Client node)) = None
active_of part (Some (any.Manager node)) = active_in (slot_in part node.phase)
active_of part (Some (any.Server node)) = None
active_of part (Some (any.Cleaner node)) = None
active_of part (Some (any.Registry node)) = None

-- a slot of the map, where a manager manages it
abbrev pub active_at : World AnyNode → ℕ → ℕ → Option SlotState
active_at w part j = active_of part (node_named w (nodes.Manager j))

abbrev pub epoch_by : ℕ → Option AnyNode → ℕ
epoch_by part None = 0
epoch_by part (Some (any.Client node)) = 0
epoch_by part (Some (any.Manager node)) = 0
epoch_by part (Some (any.Server node)) = 0
epoch_by part (Some (any.Cleaner node)) = 0
epoch_by part (Some (any.Registry node)) = (entry_of node.board.entries part).epoch

-- the epoch of a slot that the registry has
abbrev pub epoch_at : World AnyNode → ℕ → ℕ
epoch_at w part = epoch_by part (node_named w nodes.Registry)

abbrev pub promised_in : CleanerPhase → Option Promised
promised_in (cleaners.Down l) = None
promised_in (cleaners.Opening l o) = None
promised_in (cleaners.Serving e) = Some e.promised

abbrev pub promised_of : Option AnyNode → Option Promised
promised_of None = None
promised_of (Some (any.Client node)) = None
promised_of (Some (any.Manager node)) = None
promised_of (Some (any.Server node)) = None
promised_of (Some (any.Cleaner node)) = promised_in node.phase
promised_of (Some (any.Registry node)) = None

-- what the cleaner has promised, where it serves
abbrev pub promised_at : World AnyNode → Option Promised
promised_at w = promised_of (node_named w nodes.Cleaner)

-- At a moment of a run, of a slot of the map:
pub record HasOneManager (w : World AnyNode) (part : ℕ) : Type 0 where
  -- at an epoch one manager manages it at most
  pub one : (j k : ℕ) (s t : SlotState) → active_at w part j ≡ Some s → active_at w part k ≡ Some t → s.epoch ≡ t.epoch → j ≡ k
  -- no manager manages it at an epoch above the registry's
  pub below : (j : ℕ) (s : SlotState) → active_at w part j ≡ Some s → s.epoch ≤ epoch_at w part
  -- each client that serves has promised each epoch at which a manager manages it
  pub promised : (j c : ℕ) (s : SlotState) (t : TokensState) → active_at w part j ≡ Some s → tokens_at w c ≡ Some t → s.epoch ≤ epoch_of t.epochs part
  -- and so has the cleaner, where it serves
  pub cleaner_promised : (j : ℕ) (s : SlotState) (p : Promised) → active_at w part j ≡ Some s → promised_at w ≡ Some p → s.epoch ≤ epoch_of p.epochs part
  -- who manages it at the registry's epoch believes of each client that serves at least what that holds
  pub believed : (j c : ℕ) (s : SlotState) (t : TokensState) (b : BlockId) → active_at w part j ≡ Some s → s.epoch ≡ epoch_at w part → tokens_at w c ≡ Some t
      → is_in_slot part b ≡ true → mode_number (held_of t.blocks b).mode ≤ share_of s.beliefs b c
  -- and what a Grant that was sent to it would give, where it would still accept that
  pub acceptable : (j c : ℕ) (s : SlotState) (t : TokensState) (packet : Packet) (m : Grant) → active_at w part j ≡ Some s → s.epoch ≡ epoch_at w part
      → tokens_at w c ≡ Some t
      → WasSent w.sent packet → packet.to ≡ nodes.Client c → packet.body ≡ body.Grant m → is_in_slot part m.block ≡ true
      → accepts t m.block m.stamp m.inc m.req m.mode ≡ true → mode_number m.mode ≤ share_of s.beliefs m.block c

-- at each moment of a run each slot has one manager at an epoch at most
abbrev pub OneManagerThroughout : Estate AnyNode → Type 0
OneManagerThroughout e = (count part : ℕ) → part < slot_count → HasOneManager (moment e count) part
