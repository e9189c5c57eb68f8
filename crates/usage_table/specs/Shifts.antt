-- Any list of shifts, and how many live blocks they leave to each segment.
use Rattle.std.specs.Prelude.{ℕ, ◌<◌, List, [], ◌∷◌, Option, sum_by}
use Rattle.std.specs.Option.{ForSome}
use Rattle.xfs_base.specs.declared.segment.SegName.{SegName}
use Rattle.usage_table.specs.Counts.{count_of, blocks_at, usage_shift}

-- one live block leaves a segment, if any, and comes to another, if any
pub record Shift : Type 0 where
  pub from : Option SegName
  pub to : Option SegName

-- the counts once all of these are made, in order
abbrev pub after_shifts : List (SegName × ℕ) → List Shift → List (SegName × ℕ)
after_shifts counts [] = counts
after_shifts counts (shift ∷ shifts) = after_shifts (usage_shift counts shift.from shift.to) shifts

-- each shift finds a live block in the segment from which it takes one
abbrev pub AreSound : List (SegName × ℕ) → List Shift → Type 0
AreSound counts [] = Unit {0}
AreSound counts (shift ∷ shifts) =
    ForSome shift.from (λ seg. 0 < count_of counts seg) × AreSound (usage_shift counts shift.from shift.to) shifts

-- how many live blocks came to a segment, from scratch
abbrev pub arrivals : SegName → List Shift → ℕ
arrivals seg shifts = sum_by (λ shift. blocks_at shift.to seg) shifts

-- how many left it
abbrev pub departures : SegName → List Shift → ℕ
departures seg shifts = sum_by (λ shift. blocks_at shift.from seg) shifts
