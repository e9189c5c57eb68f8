-- The drained state: how the nodes of a quiet run stand between two lines, when nothing is on its way.
use Rattle.std.specs.Prelude.{◌≡◌, ◌≤◌, ◌<◌, ◌*◌, ℕ, Bool, true, false, All, List, [], ◌∷◌, length, slice_get, slice_index_or, Option, Some, None, IfSome, Ok}
use Rattle.std.specs.List.{AllByRecursion, list_any}
use Rattle.std.specs.List.Sorted.{IsStrictlySortedBy}
use Rattle.std.specs.Map.{keys_of}
use Rattle.client_log.specs.Transition.{prior_from}
use Rattle.delta_feed.specs.declared.feed.FiledDeltas.{FiledDeltas}
use Rattle.delta_feed.specs.FeedState.{acked_of}
use Rattle.delta_index.specs.Index.{entry_of}
use Rattle.fragment_store.specs.ShelfState.{held_at}
use Rattle.group_map.specs.Groups.{group_of}
use Rattle.group_map.specs.declared.group.Group.{Group}
use Rattle.log_flight.specs.declared.dirty.Change.{Change}
use Rattle.log_flight.specs.Flights.{no_member}
use Rattle.log_flight.specs.Fragments.{flight_fragment}
use Rattle.node_base.specs.Known.{knows_meta}
use Rattle.node_base.specs.Maps.{maps_start}
use Rattle.node_base.specs.Shape.{is_meta, is_name}
use Rattle.segment_format.specs.declared.segment.Segment.{Segment}
use Rattle.segment_format.specs.Format.{IsLength, second_version}
use Rattle.segment_format.specs.Ranges.{FitsPrior, FitsRow}
use Rattle.segment_format.specs.ReadingItems.{answer_of}
use Rattle.segment_format.specs.Text.{text_of}
use Rattle.segment_reading.specs.Reading.{is_block, is_known}
use Rattle.slot_beliefs.specs.Beliefs.{holder_cmp, share_of}
use Rattle.slot_beliefs.specs.declared.job.Holder.{Holder}
use Rattle.slot_beliefs.specs.Index.{IsCounted}
use Rattle.slot_beliefs.specs.Recalls.{applied_of}
use Rattle.stripe_code.specs.Stripe.{IsBytes}
use Rattle.token_client.specs.declared.held.Held.{Held}
use Rattle.token_client.specs.Held.{is_dirty}
use Rattle.token_client.specs.State.{held_of}
use Rattle.token_manager.specs.Laws.{OwnsAlone}
use Rattle.token_manager.specs.SlotState.{SlotState}
use Rattle.version_model.specs.declared.work.Work.{Work}
use Rattle.xfs_base.specs.Blocks.{same_block, slot_of}
use Rattle.xfs_base.specs.declared.block.BlockId.{BlockId}
use Rattle.xfs_base.specs.declared.entry.Place.{Place}
use Rattle.xfs_base.specs.declared.fragment.Fragment.{Fragment}
use Rattle.xfs_base.specs.declared.node.NodeId.{NodeId}
use Rattle.xfs_base.specs.declared.setup.Setup.{Setup}
use Rattle.xfs_base.specs.declared.token.Mode.{Mode}
use Rattle.xfs_base.specs.declared.token.Mode.TheVariants.{Nothing, Copy, Own}
use Rattle.xfs_base.specs.Modes.{is_own}
use Rattle.quiet_nodes.specs.Scene.{ClientPart, Scene, its_groups}

-- how high any counter may stand after so many steps: a step seals once at most, 24 blocks, which may all be new rows of one slot
abbrev pub IsLow : ℕ → ℕ → Type 0
IsLow k n = n ≤ 64 * k

-- a line is two steps at most: what others have to do first, and what the client does then; and a script has no more than 20,000 lines
abbrev pub most_steps : ℕ
most_steps = 40000

-- ---- a client by itself

-- what a client knows of a block between lines: it asks for nothing, has nothing to give up, and owns what isn't settled
pub record IsQuietBlock (k : ℕ) (h : Held) : Type 0 where
  pub want : h.want ≡ None
  pub fetch : h.fetch ≡ None
  pub giving : h.giving ≡ None
  pub owned : is_dirty h ≡ true → is_own h.mode ≡ true
  pub low : IsLow k h.ver
  pub settled_low : h.settled ≤ h.ver

-- what waits for a block is its newest version, which isn't settled
abbrev pub IsNewest : List (BlockId × Held) → BlockId × Change → Type 0
IsNewest blocks e = (e.1.entry.ver ≡ (held_of blocks e.0).ver) × (is_dirty (held_of blocks e.0) ≡ true)

-- each block waits once
abbrev pub EachOnce : List (BlockId × Change) → Type 0
EachOnce [] = Unit {0}
EachOnce (e ∷ es) = AllByRecursion (λ (x : BlockId × Change). same_block e.0 x.0 ≡ false) es × EachOnce es

-- what waits to be written is the newest version of each block that isn't settled, and there is no other such block
pub record WaitsForDirty (blocks : List (BlockId × Held)) (dirty : List (BlockId × Change)) : Type 0 where
  pub newest : AllByRecursion (IsNewest blocks) dirty
  pub once : EachOnce dirty
  pub all : (b : BlockId) → is_dirty (held_of blocks b) ≡ true → list_any (λ (e : BlockId × Change). same_block b e.0) dirty ≡ true

-- a change that a segment can hold: its numbers and bytes are in the ranges of the format
pub record IsWritable (e : BlockId × Change) : Type 0 where
  pub row : FitsRow (e.0, e.1.entry)
  pub length : IfSome e.1.value (λ bytes. IsLength second_version (length bytes))
  pub bytes : IfSome e.1.value IsBytes

pub record IsIdle (k : ℕ) (p : ClientPart) : Type 0 where
  pub call : p.call ≡ None
  pub item : p.item ≡ None
  pub flight : p.flight ≡ None
  pub blocks : (b : BlockId) → IsQuietBlock k (held_of p.blocks b)
  -- fewer wait than fill a segment
  pub few : length p.dirty ≤ 23
  pub waits : WaitsForDirty p.blocks p.dirty
  pub fits : AllByRecursion IsWritable p.dirty
  -- what it filed is not beyond its end, and of each slot it knows what that acknowledged
  pub filed : AllByRecursion (λ (f : FiledDeltas). f.seq ≤ p.end.seq) p.filed
  pub acked : length p.acked ≡ 8
  -- counters
  pub asked_low : IsLow k p.asked
  pub req_low : IsLow k p.req
  pub end_low : IsLow k p.end.seq

-- ---- a slot by itself

pub record IsCalm (setup : Setup) (k : ℕ) (z : SlotState) : Type 0 where
  pub epoch : z.epoch ≡ 1
  -- no want waits
  pub jobs : z.jobs ≡ []
  -- an owner is believed to be alone, and who is believed to hold anything is a client
  pub alone : OwnsAlone z.beliefs
  pub believed : All (λ (e : Holder × Bool). (1 ≤ e.0.client) × (e.0.client ≤ setup.clients)) z.beliefs
  -- and that of each of them is believed once
  pub ordered : IsStrictlySortedBy holder_cmp (keys_of z.beliefs)
  pub applied : length z.applied ≡ 9
  -- counters; a count of live blocks is no more than there are rows
  pub counted : IsCounted z.index
  pub rows_low : IsLow k (length z.index.rows)
  pub turn_low : IsLow k z.turn
  -- each place that the index names is of a log and a group that there is
  pub versions_low : (b : BlockId) → IsLow k (entry_of z.index.rows b).ver

abbrev pub mode_number : Mode → ℕ
mode_number Nothing = 0
mode_number Copy = 1
mode_number Own = 2

module _ (setup : Setup) (works : NodeId → List Work) where
  -- ---- a client and a slot

  pub record AreSquare (c i : ℕ) (p : ClientPart) (z : SlotState) : Type 0 where
    -- all that the client's log filed is applied there, and the client knows that
    pub acked : acked_of (record { base = 0; filed = p.filed; end = p.fed; acked = p.acked }) i ≡ p.end.seq
    pub applied : applied_of z.applied c ≡ p.end.seq
    -- no stamp of a block of the slot is beyond the slot's turn
    pub below : (b : BlockId) → slot_of b.ino.0 ≡ i
        → ((held_of p.blocks b).stamp.epoch ≤ 1) × ((held_of p.blocks b).stamp.turn ≤ z.turn)
    -- what it holds it is believed to hold
    pub covered : (b : BlockId) → slot_of b.ino.0 ≡ i → mode_number (held_of p.blocks b).mode ≤ share_of z.beliefs b c

  -- ---- what lies in logs

  -- A version of a block can be read at a place: each member of the segment's group holds its fragment of one segment, in which that item is the block's.
  pub record IsReadable (s : Scene) (b : BlockId) (place : Place) : Type 0 where
    pub segment : Segment
    pub name : segment.name ≡ place.seg.name
    pub of_log : is_name place.seg.name ≡ true
    pub group_id : segment.group ≡ place.seg.group
    pub group : Group
    pub known : group_of (its_groups setup works) segment.group ≡ Some group
    pub prior : is_known (its_groups setup works) segment.prior ≡ true
    pub item : is_block b (slice_get segment.items place.item) ≡ true
    -- its text says it
    pub text : answer_of (text_of segment) ≡ Ok segment
    pub bytes : IsBytes (text_of segment)
    pub held : (at : ℕ) → at < length group.members
        → held_at (s.held (slice_index_or group.members at no_member).server) place.seg.name ≡ Some (flight_fragment segment group at)

  abbrev pub IsPlaceReadable : Scene → BlockId → Option Place → Type 0
  IsPlaceReadable s b None = Unit {0}
  IsPlaceReadable s b (Some place) = IsReadable s b place

  -- what a server holds is of a log, and of groups that there are; of a client's log it is not beyond the end
  pub record IsShelved (s : Scene) (f : Fragment) : Type 0 where
    pub of_log : is_meta f.meta ≡ true
    pub known : knows_meta (maps_start (its_groups setup works)) f.meta ≡ true
    pub filed : f.meta.name.seq ≤ (s.client f.meta.name.log.0).end.seq

  -- ---- all

  pub record Drained (k : ℕ) (s : Scene) : Type 0 where
    pub clients : (c : ℕ) → 1 ≤ c → c ≤ setup.clients → IsIdle k (s.client c)
    pub fed : (c : ℕ) → 1 ≤ c → c ≤ setup.clients → (s.client c).fed ≡ (s.client c).end.seq
    -- the end of a log is of a group that there is
    pub linked : (c : ℕ) → 1 ≤ c → c ≤ setup.clients → is_known (its_groups setup works) (prior_from (s.client c).end) ≡ true
    pub passes : (c : ℕ) → 1 ≤ c → c ≤ setup.clients → FitsPrior (prior_from (s.client c).end)
    pub slots : (i : ℕ) → i < 8 → IsCalm setup k (s.slot i)
    pub square : (c i : ℕ) → 1 ≤ c → c ≤ setup.clients → i < 8 → AreSquare c i (s.client c) (s.slot i)
    pub legible : (i : ℕ) → i < 8 → (b : BlockId) → slot_of b.ino.0 ≡ i → IsPlaceReadable s b (entry_of (s.slot i).index.rows b).place
    pub shelved : (v : ℕ) → 1 ≤ v → v ≤ setup.servers → All (IsShelved s) (s.held v)
