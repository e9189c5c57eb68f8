-- What a feed keeps.
use Rattle.std.specs.Prelude.{ℕ, ◌≤◌, List, [], All, replicate, nat_lt, slice_index, if◌then◌else◌}
use Rattle.std.specs.List.Sorted.{IsNonDecreasingBy}
use Rattle.xfs_base.specs.Limits.{slot_count}
use Rattle.delta_feed.specs.declared.feed.FiledDeltas.{FiledDeltas}

pub record FeedState : Type 0 where
  -- the number up to which the slots know of the log from elsewhere
  pub base : ℕ
  -- the settled segments above the base, in rising order
  pub filed : List FiledDeltas
  -- the number of the last of them, or the base where there is none
  pub end : ℕ
  -- for each slot the number up to which its manager has acknowledged the log
  pub acked : List ℕ

-- the numbers of the segments do not fall, and none is above the end
pub record IsInOrder (filed : List FiledDeltas) (end : ℕ) : Type 0 where
  pub rising : IsNonDecreasingBy (λ f. f.seq) filed
  pub upto : All (λ f. f.seq ≤ end) filed

-- nothing above the base, and each slot knows the log up to it
abbrev pub feed_start : ℕ → FeedState
feed_start base = record { base = base; filed = []; end = base; acked = replicate slot_count base }

-- up to which segment a slot has acknowledged the log; the base at a slot that there isn't
abbrev pub acked_of : FeedState → ℕ → ℕ
acked_of s slot = if nat_lt slot slot_count then slice_index s.acked slot else s.base
