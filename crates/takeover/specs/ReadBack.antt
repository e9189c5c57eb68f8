-- What a takeover read of its sources.
use Rattle.std.specs.Prelude.{◌≡◌, ℕ, List, [], ◌∷◌, ◌++◌, Option, Some, None, if◌then◌else◌}
use Rattle.std.specs.List.{flat_map}
use Rattle.xfs_base.specs.declared.block.BlockId.{BlockId}
use Rattle.xfs_base.specs.declared.entry.Entry.{Entry}
use Rattle.segment_format.specs.declared.segment.Segment.{Segment}
use Rattle.takeover.specs.declared.source.Source.{Source}
use Rattle.takeover.specs.Rows.{told_of}
use Rattle.takeover.specs.Sources.{goes_back, back_from}

-- These segments were read from a source, the lowest first, and this is left of it: each is the one that was looked for, and is
-- the prior of the one above it.
abbrev pub IsReadBack : Source → List Segment → Option Source → Type 0
IsReadBack source [] left = left ≡ Some source
IsReadBack source (s ∷ above) left = (reached : Source) × IsReadBack source above (Some reached) × (s.name ≡ reached.seg.name) × (left ≡ back_from reached s)

-- each of these sources was read whole, and these are its segments, the lowest first
abbrev pub AreReadBack : List Source → List (List Segment) → Type 0
AreReadBack [] [] = Unit {0}
AreReadBack [] (chain ∷ chains) = ⊥
AreReadBack (source ∷ sources) [] = ⊥
AreReadBack (source ∷ sources) (chain ∷ chains) = IsReadBack source chain None × AreReadBack sources chains

-- the segments of the sources that were read whole, in order of the sources, and those of the present source so far
pub record Read : Type 0 where
  pub whole : List (List Segment)
  pub present : List Segment

abbrev pub nothing_read : Read
nothing_read = record { whole = []; present = [] }

-- a segment of a source was read
abbrev pub and_read : Read → Source → Segment → Read
and_read r source s =
    if goes_back source s then record { whole = r.whole; present = s ∷ r.present } else record { whole = r.whole ++ (s ∷ r.present) ∷ []; present = [] }

-- what segments tell of a slot's blocks, in their order
abbrev pub told_along : ℕ → List Segment → List (BlockId × Entry)
told_along slot segments = flat_map (told_of slot) segments

-- what the sources that were read whole tell: source by source, the lowest segment first
abbrev pub told_by_all : ℕ → List (List Segment) → List (BlockId × Entry)
told_by_all slot chains = flat_map (told_along slot) chains
