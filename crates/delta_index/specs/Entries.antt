-- The order of entries, by version and then by hop.
use Rattle.std.specs.Prelude.{◌≡◌, Bool, nat_lt, ◌==◌, ◌&&◌, ◌||◌, None, if◌then◌else◌}
use Rattle.xfs_base.specs.declared.entry.Entry.{Entry}

-- what stands for a block of which nothing is known: version 0, hop 0, no place
abbrev pub no_entry : Entry
no_entry = record { ver = 0; hop = 0; place = None }

-- whether the first is above the second: by the greater version, then by the greater hop
abbrev pub is_newer : Entry → Entry → Bool
is_newer a b = nat_lt b.ver a.ver || ((a.ver == b.ver) && nat_lt b.hop a.hop)

-- of two entries the greater, and of two of one version and hop the first
abbrev pub first_greatest : Entry → Entry → Entry
first_greatest a b = if is_newer b a then b else a

-- both have one version and one hop
abbrev pub HasSameRank : Entry → Entry → Type 0
HasSameRank a b = (a.ver ≡ b.ver) × (a.hop ≡ b.hop)

-- they differ in version or in hop
abbrev pub DiffersInRank : Entry → Entry → Type 0
DiffersInRank a b = ¬ (HasSameRank a b)
