-- The order of stamps.
use Rattle.std.specs.Prelude.{Bool, true, false}
use Rattle.std.specs.Ordering.{nat_cmp, ordering_then}
use Rattle.std.specs.declared.cmp.Ordering.{Ordering}
use Rattle.std.specs.declared.cmp.Ordering.TheVariants.{Less, Equal, Greater}
use Rattle.xfs_base.specs.declared.token.Stamp.{Stamp}

-- by epoch, then by turn
abbrev pub stamp_cmp : Stamp → Stamp → Ordering
stamp_cmp a b = ordering_then (nat_cmp a.epoch b.epoch) (nat_cmp a.turn b.turn)

-- whether a comparison says that the first is the greater
abbrev pub is_greater : Ordering → Bool
is_greater Less = false
is_greater Equal = false
is_greater Greater = true

-- whether one stamp is later than another
abbrev pub is_later : Stamp → Stamp → Bool
is_later a b = is_greater (stamp_cmp a b)
