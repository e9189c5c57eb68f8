-- The epochs that the cleaner has promised.
use Rattle.std.specs.Prelude.{ℕ, Bool, List, ◌==◌, ◌&&◌, nat_lt, fold, replicate, slice_index_or, slice_set, if◌then◌else◌}
use Rattle.xfs_base.specs.declared.news.SlotNews.{SlotNews}
use Rattle.xfs_base.specs.Limits.{slot_count}

-- no epoch of the eight slots
abbrev pub none_promised : List ℕ
none_promised = replicate slot_count 0

-- the epoch of a slot, 0 where none is
abbrev pub promised_at : List ℕ → ℕ → ℕ
promised_at promised slot = slice_index_or promised slot 0

-- whether an epoch of a slot is the promised one: what was said in another counts for nothing
abbrev pub is_promised : List ℕ → ℕ → ℕ → Bool
is_promised promised slot epoch = nat_lt slot slot_count && (epoch == promised_at promised slot)

-- whether an epoch of a slot is above the promised one
abbrev pub is_above : List ℕ → ℕ → ℕ → Bool
is_above promised slot epoch = nat_lt slot slot_count && nat_lt (promised_at promised slot) epoch

-- with this epoch of a slot, where it is above
abbrev pub promised_with : List ℕ → ℕ → ℕ → List ℕ
promised_with promised slot epoch = if is_above promised slot epoch then slice_set promised slot epoch else promised

-- with the epochs of these slots
abbrev pub promised_of : List SlotNews → List ℕ → List ℕ
promised_of slots promised = fold (λ p news. promised_with p news.slot news.epoch) promised slots
