-- What logs and indexes say of one block.
use Rattle.std.specs.Prelude.{ℕ}

-- A row of a sealed segment for this block: its version (0 where the segment lacks the block) and its value (0 where the block is absent).
pub record Row : Type 0 where
  pub version : ℕ
  pub value : ℕ

-- The row of a segment that lacks the block.
abbrev pub no_row : Row
no_row = record { version = 0; value = 0 }

-- What an index knows of this block: its version, how often the cleaner has moved it, and its place, the row of segment `segment` of log `log`.
-- `placed` is 1 where there is a place, and 0 where that version is absent.
pub record Entry : Type 0 where
  pub version : ℕ
  pub hop : ℕ
  pub placed : ℕ
  pub log : ℕ
  pub segment : ℕ

-- The entry of a block that nobody has filed.
abbrev pub no_entry : Entry
no_entry = record { version = 0; hop = 0; placed = 0; log = 0; segment = 0 }
