-- The gathering of what the servers hold.
use Rattle.std.specs.Prelude.{ℕ, ◌+◌, Bool, List, [], ◌==◌, not, map, filter}
use Rattle.std.specs.List.{list_any, range_with_len}
use Rattle.group_map.specs.GroupMapState.{GroupMapState}
use Rattle.xfs_base.specs.declared.news.SlotNews.{SlotNews}
use Rattle.xfs_base.specs.declared.segment.SegName.{SegName}

pub record ListingState : Type 0 where
  pub groups : GroupMapState
  -- what the Welcome told, by whose horizons the job judges
  pub slots : List SlotNews
  -- the servers whose lists are not in, in order
  pub awaited : List ℕ
  -- the candidates so far, each with its group, by name
  pub candidates : List (SegName × ℕ)

-- all servers, in order
abbrev pub all_servers : ℕ → List ℕ
all_servers servers = map (λ before. before + 1) (range_with_len 0 servers)

-- no list is in
abbrev pub listing_begin : List SlotNews → GroupMapState → ListingState
listing_begin slots groups = record { groups = groups; slots = slots; awaited = all_servers groups.servers; candidates = [] }

abbrev pub is_among : List ℕ → ℕ → Bool
is_among numbers number = list_any (λ n. n == number) numbers

abbrev pub without : List ℕ → ℕ → List ℕ
without numbers number = filter (λ n. not (n == number)) numbers
