-- What holds of a client's tokens whatever they take.
use Rattle.std.specs.Prelude.{◌≡◌, ◌≤◌, ◌⊎◌, ℕ, Bool, true, false, List, Option, Some, None, is_some, is_none}
use Rattle.std.specs.List.Sorted.{IsStrictlySortedBy}
use Rattle.std.specs.Map.{keys_of}
use Rattle.std.specs.List.{list_any}
use Rattle.xfs_base.specs.declared.block.BlockId.{BlockId}
use Rattle.xfs_base.specs.declared.token.Stamp.{Stamp}
use Rattle.xfs_base.specs.Blocks.{block_cmp, slot_of, same_block}
use Rattle.xfs_base.specs.Steps.{steps}
use Rattle.xfs_base.specs.Modes.{is_held, is_own}
use Rattle.xfs_base.specs.Stamps.{is_later}
use Rattle.token_client.specs.declared.held.Giving.{Giving}
use Rattle.token_client.specs.declared.held.Held.{Held}
use Rattle.token_client.specs.declared.input.In.{In}
use Rattle.token_client.specs.declared.input.In.TheVariants.{Need, Granted, Supplied, Forwarded, Recalled, Wrote, Settled, Fetched, Evict, Reask, Quit, Promise, Tick}
use Rattle.token_client.specs.Held.{is_dirty, is_asking}
use Rattle.token_client.specs.State.{TokensState, tokens_start, held_of, epoch_of}
use Rattle.token_client.specs.Transition.{transition}

-- a put-off recall is of this epoch, and later than the stamp
abbrev pub IsGivingAbove : ℕ → Stamp → Option Giving → Type 0
IsGivingAbove epoch stamp None = Unit {0}
IsGivingAbove epoch stamp (Some giving) = (giving.stamp.epoch ≡ epoch) × (is_later giving.stamp stamp ≡ true)

-- What holds of each block, whose slot is promised to this epoch.
pub record IsSoundBlock (epoch : ℕ) (h : Held) : Type 0 where
  -- while a want or a fetch is open, the block isn't owned, is clean, and isn't being given up
  pub asks_unowned : is_asking h ≡ true → is_own h.mode ≡ false
  pub asks_clean : is_asking h ≡ true → is_dirty h ≡ false
  pub asks_ungiven : is_asking h ≡ true → is_none h.giving ≡ true
  -- what is being fetched isn't held
  pub fetch_unheld : is_some h.fetch ≡ true → is_held h.mode ≡ false
  -- the settled version is at most the block's, and where it is below that, the block is owned
  pub settled_below : h.settled ≤ h.ver
  pub dirty_owned : is_dirty h ≡ true → is_own h.mode ≡ true
  -- a recall that is put off is of the promised epoch and has a stamp above the block's
  pub giving_above : IsGivingAbove epoch h.stamp h.giving
  -- of what isn't held no value is kept
  pub unheld_valueless : is_held h.mode ≡ false → is_none h.value ≡ true

-- The blocks stand in their order, and what holds of each block holds.
pub record IsSound (s : TokensState) : Type 0 where
  pub sorted : IsStrictlySortedBy block_cmp (keys_of s.blocks)
  pub each : (block : BlockId) → IsSoundBlock (epoch_of s.epochs (slot_of block.ino.0)) (held_of s.blocks block)

-- whether an input is a call's need of this block
abbrev pub needs : BlockId → In → Bool
needs block (Need needed mode) = same_block needed block
needs block (Granted granted stamp inc req mode entry) = false
needs block (Supplied supplied stamp inc req ver value) = false
needs block (Forwarded asked stamp ver) = false
needs block (Recalled recalled stamp keep) = false
needs block (Wrote written value) = false
needs block (Settled done ver) = false
needs block (Fetched fetched value) = false
needs block (Evict evicted) = false
needs block (Reask asked) = false
needs block (Quit ended) = false
needs block (Promise slot epoch) = false
needs block Tick = false

-- the state once these inputs were taken
abbrev pub state_after : TokensState → List In → TokensState
state_after s inputs = (steps transition s inputs).state

-- Whatever a client's tokens take from their start, what holds of each block holds.
abbrev pub StaysSound : Type 0
StaysSound = (inc : ℕ) (epochs : List ℕ) (inputs : List In) → IsSound (state_after (tokens_start inc epochs) inputs)

-- The stamp of a block never falls, whatever is taken.
abbrev pub StampsNeverFall : Type 0
StampsNeverFall =
    (s : TokensState) (inputs : List In) (block : BlockId) → IsSound s
    → is_later (held_of s.blocks block).stamp (held_of (state_after s inputs).blocks block).stamp ≡ false

-- The number of the last want never falls.
abbrev pub NumbersRise : Type 0
NumbersRise = (s : TokensState) (inputs : List In) → IsSound s → s.req ≤ (state_after s inputs).req

-- A want or a fetch is open only where one was open before or a call needed the block since.
abbrev pub OpensByNeed : Type 0
OpensByNeed = (s : TokensState) (inputs : List In) (block : BlockId) → IsSound s → is_asking (held_of (state_after s inputs).blocks block) ≡ true
    → (is_asking (held_of s.blocks block) ≡ true) ⊎ (list_any (needs block) inputs ≡ true)

-- The version of a dirty block doesn't fall: what of the block is in flight stays at most its version.
abbrev pub DirtyVersionsNeverFall : Type 0
DirtyVersionsNeverFall = (s : TokensState) (input : In) (block : BlockId) → IsSound s → is_dirty (held_of s.blocks block) ≡ true
    → (held_of s.blocks block).ver ≤ (held_of (transition s input).state.blocks block).ver
