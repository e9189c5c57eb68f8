-- Which segments may be emptied.
use Rattle.std.specs.Prelude.{ℕ, ◌-◌, Bool, List, ◌&&◌, nat_lt, nat_le, min, fold, slice_index, if◌then◌else◌}
use Rattle.std.specs.BTreeMap.{insert_entry}
use Rattle.xfs_base.specs.declared.fragment.FragMeta.{FragMeta}
use Rattle.xfs_base.specs.declared.news.SlotNews.{SlotNews}
use Rattle.xfs_base.specs.declared.segment.SegName.{SegName}
use Rattle.xfs_base.specs.Limits.{u32_end, block_logs}
use Rattle.xfs_base.specs.Segments.{seg_cmp}

-- the first number of a log that the slot's checkpoint does not cover; 0 where the horizon has none
abbrev pub horizon_at : SlotNews → ℕ → ℕ
horizon_at news log = slice_index news.horizon (log - 1)

-- the least horizon of a log: each slot's checkpoint covers what is below it
abbrev pub least_horizon : List SlotNews → ℕ → ℕ
least_horizon slots log = fold (λ least news. min least (horizon_at news log)) u32_end slots

-- the logs of clients and of the cleaner; a manager's checkpoints are not cleaned
abbrev pub is_cleaned : ℕ → Bool
is_cleaned log = nat_le 1 log && nat_le log block_logs

-- whether a segment may be emptied: it is below the least horizon of its log
abbrev pub is_candidate : List SlotNews → SegName → Bool
is_candidate slots name = is_cleaned name.log.0 && nat_lt name.seq (least_horizon slots name.log.0)

abbrev pub candidates_with_one : List SlotNews → List (SegName × ℕ) → FragMeta → List (SegName × ℕ)
candidates_with_one slots candidates meta = if is_candidate slots meta.name then insert_entry seg_cmp candidates meta.name meta.group else candidates

-- the candidates, each with its group, by name, with those among what a server holds
abbrev pub candidates_with : List SlotNews → List FragMeta → List (SegName × ℕ) → List (SegName × ℕ)
candidates_with slots held candidates = fold (candidates_with_one slots) candidates held
