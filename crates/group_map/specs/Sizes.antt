-- How many servers a group may have. This is the one home of the rule.
use Rattle.std.specs.Prelude.{ℕ, ◌+◌, ◌≤◌, Bool, List, Option, nat_le, not, ◌&&◌, length, find}
use Rattle.std.specs.Option.{option_map}
use Rattle.xfs_base.specs.declared.setup.GroupSetup.{GroupSetup}

-- of the fragments of a stripe one or two are parity
abbrev pub IsParity : ℕ → Type 0
IsParity parity = (1 ≤ parity) × (parity ≤ 2)

-- a group has at least two servers more than its parity, and at most 8
abbrev pub is_group_size : ℕ → ℕ → Bool
is_group_size parity n = nat_le (parity + 2) n && nat_le n 8

-- the first size of these groups that no group of its parity may have
abbrev pub bad_size : List GroupSetup → Option ℕ
bad_size groups = option_map (λ g. length g.servers) (find (λ g. not (is_group_size g.parity (length g.servers))) groups)
