-- Stretches of lists.
use Rattle.std.specs.Prelude.{◌-◌, List, drop, take}
use Rattle.run_chart.specs.declared.stretch.Stretch.{Stretch}

-- the items of a stretch, as far as the list has them
abbrev pub within : {X : Type 0} → Stretch → List X → List X
within s xs = take (s.upto - s.from) (drop s.from xs)
