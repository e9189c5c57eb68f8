-- What a slot needs of the world when it takes an input, and the laws.
use Rattle.std.specs.Prelude.{◌≡◌, ℕ, ◌-◌, ◌<◌, Bool, List, length}
use Rattle.xfs_base.specs.declared.block.BlockId.{BlockId}
use Rattle.xfs_base.specs.declared.entry.Entry.{Entry}
use Rattle.xfs_base.specs.declared.token.Mode.{Mode}
use Rattle.slot_beliefs.specs.Index.{merge_all}
use Rattle.token_manager.specs.declared.input.In as inputs
use Rattle.token_manager.specs.Laws.{OwnsAlone, state_after}
use Rattle.token_manager.specs.SlotState.{SlotState}
use Rattle.token_manager.specs.declared.input.In.TheVariants.{Want, Gave, Deltas, Check, Tick}
use Rattle.token_manager.specs.Transition.{slot_start, transition}
use Rattle.delta_index.specs.Index.{entry_of}
use Rattle.token_protocol.specs.Premises.{Premise, IndexCovers}
use Rattle.token_protocol.specs.Basics.{In}
use Rattle.token_protocol.specs.World.{World}
use Rattle.token_tie.specs.Seen.{entry_seen}
use Rattle.token_tie.specs.Managed.{Manages, Runs, want_seen}

-- a state that some list of inputs leads to, from a start in which owners are alone
pub record Reached (s : SlotState) : Type 0 where
  pub epoch : ℕ
  pub index : List (BlockId × Entry)
  pub beliefs : List (BlockId × ℕ × Mode)
  pub applied : List ℕ
  pub taken : List inputs.In
  pub alone : OwnsAlone (slot_start epoch index beliefs applied).beliefs
  pub reached : s ≡ state_after (slot_start epoch index beliefs applied) taken

-- what the world owes each input: that a Want or Gave was sent, and that Deltas tell what their log filed
abbrev pub Brings : Bool → BlockId → World → SlotState → inputs.In → Type 0
Brings logs b w s (Want want end) = (0 < want.client) × (want.block ≡ b → In (want_seen want end) w.wants)
Brings logs b w s (Gave client block stamp end) =
    (0 < client) × (block ≡ b → stamp.epoch ≡ w.epoch → In (record { client = client; stamp = stamp.turn; end = end }) w.gaves)
Brings logs b w s (Deltas log first upto rows) =
    (log.0 - 1 < length s.applied) × Premise logs (IndexCovers w log.0 upto (entry_seen (entry_of (merge_all s.index rows).rows b)))
Brings logs b w s (Check block place) = Unit {0}
Brings logs b w s Tick = Unit {0}

-- Each input of a slot is taken by steps of the manager.
abbrev pub SlotTakes : Type 0
SlotTakes =
    (logs : Bool) (b : BlockId) (w : World) (s : SlotState) (input : inputs.In) → Reached s → Manages b s w → Brings logs b w s input
    → Runs logs b w (transition s input)
