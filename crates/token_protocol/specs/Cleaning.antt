-- A cleaner's log: copies of filed rows.
use Rattle.std.specs.Prelude.{◌≡◌, ℕ, suc, ◌≤◌}
use Rattle.token_protocol.specs.Basics.{put}
use Rattle.token_protocol.specs.Entry.{no_row}
use Rattle.token_protocol.specs.World.{World}

-- A cleaner seals a segment while none of its own is in flight. Shown by the cleaner's transition that seals.
pub record MaySealCopy (w : World) (c : ℕ) : Type 0 where
  pub outsider : w.members ≤ c
  pub none : w.flight c ≡ 0

-- The segment has a copy of this block's row in another log's segment.
abbrev pub seals_copy : World → ℕ → ℕ → ℕ → World
seals_copy w c log segment = record w { flight = put w.flight c 1; rows = put w.rows c (put (w.rows c) (suc (w.end c)) (w.rows log segment)) }

-- The segment has nothing of this block.
abbrev pub seals_other : World → ℕ → World
seals_other w c = record w { flight = put w.flight c 1 }

-- A cleaner's segment is filed. Shown by the cleaner's transition for the last Stored, and by its reopening where it adopts the tail.
pub record MaySettleCopy (w : World) (c : ℕ) : Type 0 where
  pub outsider : w.members ≤ c
  pub flying : w.flight c ≡ 1

abbrev pub settles_copy : World → ℕ → World
settles_copy w c = record w { flight = put w.flight c 0; end = put w.end c (suc (w.end c)) }

-- A cleaner reopens its log without the tail. Shown by the cleaner's reopening where it discards the tail.
pub record MayDiscardCopy (w : World) (c : ℕ) : Type 0 where
  pub outsider : w.members ≤ c

abbrev pub discards_copy : World → ℕ → World
discards_copy w c = record w { flight = put w.flight c 0; rows = put w.rows c (put (w.rows c) (suc (w.end c)) no_row) }
