-- What is asked of logs where they keep their word, of each thing that happens in the small world.
use Rattle.std.specs.Prelude.{◌≡◌, ◌⊎◌, ℕ, suc, ◌<◌, ◌≤◌, max, Bool, true, false, List, Option, Some, None, is_some, if◌then◌else◌}
use Rattle.xfs_base.specs.declared.block.BlockId.{BlockId}
use Rattle.xfs_base.specs.declared.entry.Entry.{Entry}
use Rattle.xfs_base.specs.declared.segment.LogId.{LogId}
use Rattle.xfs_base.specs.declared.segment.SegName.{SegName}
use Rattle.act_tie.specs.BlockActs.{fall_of, is_adopted}
use Rattle.delta_index.specs.Index.{entry_of}
use Rattle.slot_beliefs.specs.Index.{block_index_new, merge_all}
use Rattle.slot_beliefs.specs.Recalls.{applied_of}
use Rattle.token_client.specs.declared.held.Fetch.{Fetch}
use Rattle.token_client.specs.declared.held.Held.{Held}
use Rattle.token_client.specs.Held.{is_dirty}
use Rattle.token_client.specs.State.{TokensState, held_of, is_in_slot}
use Rattle.token_manager.specs.SlotState.{SlotState}
use Rattle.token_manager.specs.Transition.{entry_at}
use Rattle.version_model.specs.declared.act.Act.{Act}
use Rattle.version_model.specs.declared.act.Act.TheVariants as act
use Rattle.version_model.specs.declared.act.Fall.{Fall}
use Rattle.version_model.specs.Effects.{history_after}
use Rattle.version_model.specs.History.{nothing_yet}
use Rattle.token_law.specs.Books.{Row, Books, AreOnce, row_in, nothing_said, said, IsFiled}

-- ---- segments

-- a row is the newest version of a dirty block, with its value; or nothing is said of the block
abbrev pub IsNewest : Held → Row → Type 0
IsNewest h row = (row ≡ nothing_said) ⊎ ((is_dirty h ≡ true) × (row.version ≡ h.ver) × (h.value ≡ Some row.value))

-- what a client seals: newest versions of its dirty blocks
pub record SealsNewest (s : TokensState) (rows : List (BlockId × Row)) : Type 0 where
  pub once : AreOnce rows
  pub newest : (b : BlockId) → IsNewest (held_of s.blocks b) (row_in rows b)

-- what the cleaner seals: copies of what filed segments say
pub record SealsOriginals (k : Books) (rows : List (BlockId × Row)) : Type 0 where
  pub copies : (b : BlockId) → (row_in rows b ≡ nothing_said) ⊎ ((l : ℕ) × (q : ℕ) × (q ≤ k.end l) × (row_in rows b ≡ said k l q b))

-- what is read of the place of a fetch is what the segment there says
abbrev pub ReadsThere : Books → TokensState → BlockId → Option (List ℕ) → Type 0
ReadsThere k s b value = (f : Fetch) → (held_of s.blocks b).fetch ≡ Some f → value ≡ (said k f.place.seg.name.log.0 f.place.seg.name.seq b).value

-- ---- indexes

-- an entry that Deltas of a log up to this segment make of another: no older, nor older than what they tell, and the other one or a filed one
pub record Covers (k : Books) (b : BlockId) (l upto : ℕ) (old new : Entry) : Type 0 where
  pub later : old.ver ≤ new.ver
  pub rows : (q : ℕ) → q ≤ upto → (said k l q b).version ≤ new.ver
  pub source : (new ≡ old) ⊎ IsFiled k b new

-- Deltas tell no more than was filed, and each block's entry covers it then
pub record DeltasCover (part : ℕ) (k : Books) (s : SlotState) (log : LogId) (upto : ℕ) (rows : List (BlockId × Entry)) : Type 0 where
  pub filed : upto ≤ k.end log.0
  pub each : (b : BlockId) → is_in_slot part b ≡ true → Covers k b log.0 upto (entry_at s b) (entry_of (merge_all s.index rows).rows b)

-- what a new manager gathered: each log at least up to its reported end, no further than it is filed, and of each block the greatest entry of that
pub record Gathered (members part : ℕ) (k : Books) (index : List (BlockId × Entry)) (applied : List ℕ) (ends : ℕ → ℕ) : Type 0 where
  pub reported : (c : ℕ) → 0 < c → c < members → ends c ≤ applied_of applied c
  pub filed : (l : ℕ) → 0 < l → applied_of applied l ≤ k.end l
  pub source : (b : BlockId) → is_in_slot part b ≡ true → IsFiled k b (entry_of (merge_all block_index_new index).rows b)
  pub rows : (b : BlockId) → is_in_slot part b ≡ true → (l q : ℕ) → 0 < l → q ≤ applied_of applied l
      → (said k l q b).version ≤ (entry_of (merge_all block_index_new index).rows b).ver

-- ---- falls and returns

-- a dirty block falls to its settled version, or to the one in flight; a clean one stays
abbrev pub fall_from : BlockId → Held → Row → Option Fall
fall_from b h row = if is_dirty h then Some (record { block = b; low = h.settled; high = max h.settled row.version }) else None

-- what a client that falls tells: whether a segment is in flight, and of each dirty block to which versions it may fall
pub record FallsSo (k : Books) (c : ℕ) (s : TokensState) (flight : Option (ℕ × ℕ)) (falls : List Fall) : Type 0 where
  pub flies : is_some flight ≡ k.flying c
  pub each : (b : BlockId) → fall_of b falls ≡ fall_from b (held_of s.blocks b) (said k c (suc (k.end c)) b)

-- whether the chain that a client found has what was in flight when it fell
abbrev pub adopts : List Act → ℕ → List SegName → Bool
adopts acts c chain = is_adopted chain ((history_after acts nothing_yet).told c)

-- every block of the client is clean
abbrev pub AllClean : TokensState → Type 0
AllClean s = (b : BlockId) → is_dirty (held_of s.blocks b) ≡ false

-- an act that changes no history
abbrev pub IsNeutral : Act → Type 0
IsNeutral (act.Wrote client block value) = ⊥
IsNeutral (act.Read client block ver value) = ⊥
IsNeutral (act.Synced client) = ⊥
IsNeutral (act.Fell client flight falls) = ⊥
IsNeutral (act.Back client chain) = ⊥
IsNeutral (act.Lost node seg) = Unit {0}
IsNeutral (act.Filed seg) = Unit {0}
IsNeutral (act.Dropped seg) = Unit {0}
IsNeutral (act.Answered node item answer) = Unit {0}
