-- Over any list of shifts the count of a segment is what came to it, less what went.
use Rattle.std.proofs.Common.{◌≡◌, ℕ, ◌+◌, List, [], ◌∷◌, arith}
use Rattle.std.specs.List.Sorted.{IsStrictlySortedBy}
use Rattle.std.proofs.lemmas.List.Sums.{sum_by-cons}
use Rattle.xfs_base.specs.declared.segment.SegName.{SegName}
use Rattle.usage_table.specs.Counts.{IsTable, count_of, blocks_at, usage_shift}
use Rattle.usage_table.specs.Shifts.{Shift, after_shifts, AreSound, arrivals, departures}
use Rattle.usage_table.proofs.Table.{table_after_shift, count_of-usage_shift}

empty_table : IsTable []
unfolding IsStrictlySortedBy
empty_table = record { sorted = tt; above_0 = λ k d within. absurd (omega arith) }

-- from any table
counted : (counts : List (SegName × ℕ)) (shifts : List Shift) (seg : SegName) → IsTable counts → AreSound counts shifts
    → count_of (after_shifts counts shifts) seg + departures seg shifts ≡ count_of counts seg + arrivals seg shifts
counted counts [] seg table sound = omega arith
counted counts (shift ∷ shifts) seg table sound =
    let next = usage_shift counts shift.from shift.to in
    let now : count_of next seg + blocks_at shift.from seg ≡ count_of counts seg + blocks_at shift.to seg =
    count_of-usage_shift counts shift.from shift.to seg table sound.0 in
    let rest : count_of (after_shifts next shifts) seg + departures seg shifts ≡ count_of next seg + arrivals seg shifts =
    counted next shifts seg (table_after_shift counts shift.from shift.to table) sound.1 in
    let gone : departures seg (shift ∷ shifts) ≡ blocks_at shift.from seg + departures seg shifts =
    sum_by-cons (λ (s : Shift). blocks_at s.from seg) shift shifts in
    let here : arrivals seg (shift ∷ shifts) ≡ blocks_at shift.to seg + arrivals seg shifts = sum_by-cons (λ (s : Shift). blocks_at s.to seg) shift shifts in
    sums (count_of counts seg) (count_of next seg) (count_of (after_shifts next shifts) seg) (blocks_at shift.from seg) (blocks_at shift.to seg)
    (departures seg shifts) (arrivals seg shifts) _ _ now rest gone here
  where
    sums : (before next after out in_ outs ins all_out all_in : ℕ) → next + out ≡ before + in_ → after + outs ≡ next + ins → all_out ≡ out + outs
        → all_in ≡ in_ + ins → after + all_out ≡ before + all_in
    sums before next after out in_ outs ins all_out all_in now rest gone here = omega arith

pub counted_from_nothing : (shifts : List Shift) (seg : SegName) → AreSound [] shifts
    → count_of (after_shifts [] shifts) seg + departures seg shifts ≡ arrivals seg shifts
counted_from_nothing shifts seg sound = omega (arith, counted [] shifts seg empty_table sound)
