-- What a feed took, oldest first, and what follows from that whatever the feed keeps.
use Rattle.std.specs.Prelude.{ℕ, max, Bool, false, not, ◌==◌, ◌&&◌, nat_lt, nat_le, List, [], ◌∷◌, if◌then◌else◌}
use Rattle.std.specs.List.{filter, flat_map, list_any}
use Rattle.xfs_base.specs.declared.block.BlockId.{BlockId}
use Rattle.xfs_base.specs.declared.entry.Entry.{Entry}
use Rattle.xfs_base.specs.Steps.{steps}
use Rattle.delta_feed.specs.declared.feed.FiledDeltas.{FiledDeltas}
use Rattle.delta_feed.specs.declared.input.In.{In}
use Rattle.delta_feed.specs.declared.input.In.TheVariants.{Settled, Ack, NewEpoch, Push, Tick}
use Rattle.delta_feed.specs.FeedState.{FeedState, feed_start}
use Rattle.delta_feed.specs.Transition.{transition}

-- a feed that began at a base, once it took these inputs
abbrev pub state_after : ℕ → List In → FeedState
state_after base inputs = (steps transition (feed_start base) inputs).state

-- the greatest of some numbers and a least one
abbrev pub greatest : ℕ → List ℕ → ℕ
greatest least [] = least
greatest least (n ∷ ns) = max n (greatest least ns)

-- the numbers of all segments that were settled
abbrev pub settled_numbers : List In → List ℕ
settled_numbers [] = []
settled_numbers (Settled seq rows ∷ later) = seq ∷ settled_numbers later
settled_numbers (Ack slot applied ∷ later) = settled_numbers later
settled_numbers (NewEpoch slot ∷ later) = settled_numbers later
settled_numbers (Push slot ∷ later) = settled_numbers later
settled_numbers (Tick ∷ later) = settled_numbers later

-- the greatest number that was settled, or the base where none is above it
abbrev pub end_of : ℕ → List In → ℕ
end_of base inputs = greatest base (settled_numbers inputs)

-- the segments that count: each is above the base and above all that were settled before
abbrev pub filed_by : ℕ → List In → List FiledDeltas
filed_by base [] = []
filed_by base (Settled seq rows ∷ later) = if nat_lt base seq then record { seq = seq; rows = rows } ∷ filed_by seq later else filed_by base later
filed_by base (Ack slot applied ∷ later) = filed_by base later
filed_by base (NewEpoch slot ∷ later) = filed_by base later
filed_by base (Push slot ∷ later) = filed_by base later
filed_by base (Tick ∷ later) = filed_by base later

-- whether an input is a new epoch of a slot
abbrev pub renews : ℕ → In → Bool
renews slot (Settled seq rows) = false
renews slot (Ack acker applied) = false
renews slot (NewEpoch renewed) = renewed == slot
renews slot (Push asked) = false
renews slot Tick = false

-- what a slot acknowledged since its last new epoch
abbrev pub acks_since : ℕ → List In → List ℕ
acks_since slot [] = []
acks_since slot (Settled seq rows ∷ later) = acks_since slot later
acks_since slot (Ack acker applied ∷ later) =
    if (acker == slot) && not (list_any (renews slot) later) then applied ∷ acks_since slot later else acks_since slot later
acks_since slot (NewEpoch renewed ∷ later) = acks_since slot later
acks_since slot (Push asked ∷ later) = acks_since slot later
acks_since slot (Tick ∷ later) = acks_since slot later

-- the greatest acknowledgement of a slot since its last new epoch, or the base where none is above it
abbrev pub acknowledged_by : ℕ → ℕ → List In → ℕ
acknowledged_by base slot inputs = greatest base (acks_since slot inputs)

-- what the segments from a first number up to a last say of blocks, in the order of the segments
abbrev pub deltas_between : ℕ → ℕ → List FiledDeltas → List (BlockId × Entry)
deltas_between first upto filed = flat_map (λ f. f.rows) (filter (λ f. nat_le first f.seq && nat_le f.seq upto) filed)
