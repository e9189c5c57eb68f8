-- What each act does to the histories of blocks.
use Rattle.std.specs.Prelude.{ℕ, max, Bool, false, ◌&&◌, ◌==◌, List, [], ◌∷◌, ◌++◌, take, Option, Some, None, if◌then◌else◌}
use Rattle.std.specs.List.{list_any}
use Rattle.xfs_base.specs.Blocks.{same_block}
use Rattle.xfs_base.specs.declared.block.BlockId.{BlockId}
use Rattle.xfs_base.specs.declared.segment.SegName.{SegName}
use Rattle.version_model.specs.declared.act.Act.{Act}
use Rattle.version_model.specs.declared.act.Act.TheVariants.{Wrote, Read, Synced, Fell, Back, Lost, Filed, Dropped, Answered}
use Rattle.version_model.specs.declared.act.Fall.{Fall}
use Rattle.version_model.specs.History.{Version, BlockHistory, FallTold, History, is_by_other, greatest_by}

-- one block's history changes, and no other
abbrev pub change : BlockId → (BlockHistory → BlockHistory) → History → History
change block f h = record h { of_block = λ b. if same_block block b then f (h.of_block b) else h.of_block b }

-- one version more
abbrev pub append : Version → BlockHistory → BlockHistory
append v block = record block { versions = block.versions ++ v ∷ [] }

-- version n is pinned, where no later one is
abbrev pub pin : ℕ → BlockHistory → BlockHistory
pin n block = record block { pinned = max n block.pinned }

-- the greatest version by a client is pinned
abbrev pub pin_all : ℕ → BlockHistory → BlockHistory
pin_all client block = pin (greatest_by client 1 block.versions) block

-- a fall of a client waits until it is back
abbrev pub tell : ℕ → FallTold → History → History
tell client fall h = record h { told = λ c. if c == client then h.told c ++ fall ∷ [] else h.told c }

-- no fall of a client waits any more
abbrev pub clear : ℕ → History → History
clear client h = record h { told = λ c. if c == client then [] else h.told c }

-- the versions above n are gone
abbrev pub cut_to : ℕ → BlockHistory → BlockHistory
cut_to n block = record { versions = take n block.versions; pinned = n }

-- whether a chain holds a segment of the flight's number and incarnation
abbrev pub holds_flight : List SegName → Option (ℕ × ℕ) → Bool
holds_flight chain None = false
holds_flight chain (Some flight) = list_any (λ s. (s.seq == flight.0) && (s.pass.inc == flight.1)) chain

-- each block falls: to its high version where the flight was adopted, to its low one where not
abbrev pub settle_falls : Bool → List Fall → History → History
settle_falls adopted [] h = h
settle_falls adopted (f ∷ fs) h = settle_falls adopted fs (change f.block (cut_to (if adopted then f.high else f.low)) h)

-- each fall that waits is settled by the chain that was found
abbrev pub settle : List SegName → List FallTold → History → History
settle chain [] h = h
settle chain (t ∷ ts) h = settle chain ts (settle_falls (holds_flight chain t.flight) t.falls h)

-- a write adds a version; a read of another's version and a sync pin; a fall waits until its client is back; no other act
-- changes a history (the 1996 paper, "Cache Consistency": consistency is per block, and a revoked owner flushes its changes)
abbrev pub after_act : Act → History → History
after_act (Wrote client block value) h = change block (append (record { content = value; writer = client })) h
after_act (Read client block ver value) h =
    if is_by_other client ver (h.of_block block).versions then change block (pin ver) h else h
after_act (Synced client) h =
    record h { of_block = λ b. pin_all client (h.of_block b) }
after_act (Fell client flight falls) h = tell client (record { flight = flight; falls = falls }) h
after_act (Back client chain) h = clear client (settle chain (h.told client) h)
after_act (Lost node seg) h = h
after_act (Filed seg) h = h
after_act (Dropped seg) h = h
after_act (Answered node item answer) h = h

-- the histories that a list of acts leaves
abbrev pub history_after : List Act → History → History
history_after [] h = h
history_after (a ∷ rest) h = history_after rest (after_act a h)
