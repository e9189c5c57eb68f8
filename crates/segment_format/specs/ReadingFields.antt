-- The header's fields, and those within an item, from the left.
use Rattle.std.specs.Prelude.{ℕ, zero, suc, ◌+◌, List, [], ◌∷◌, Option, Some, None, nat_lt, nat_le}
use Rattle.std.specs.Int.{w8, w16, w32, w64}
use Rattle.xfs_base.specs.declared.block.BlockId.{BlockId}
use Rattle.xfs_base.specs.declared.entry.Entry.{Entry}
use Rattle.xfs_base.specs.declared.entry.Place.{Place}
use Rattle.xfs_base.specs.declared.segment.LogId.{LogId}
use Rattle.xfs_base.specs.declared.segment.Pass.{Pass}
use Rattle.xfs_base.specs.declared.segment.Prior.{Prior}
use Rattle.xfs_base.specs.declared.segment.SegName.{SegName}
use Rattle.segment_format.specs.declared.head.Head.{Head}
use Rattle.segment_format.specs.declared.seg_error.SegError.TheVariants.{BadMark, BadVersion, BadLength}
use Rattle.segment_format.specs.Format.{most_items, is_mark, is_log, is_version, is_length}
use Rattle.segment_format.specs.Reading.{Reader, ◌>>=◌, gives, raw, number, checked}

unfoldable pub block_at : Reader BlockId
block_at = do
  ino ← number w32
  blk ← number w32
  gives (record { ino = record { 0 = ino }; blk = blk })

unfoldable pub log_at : Reader LogId
log_at = do
  log ← checked (number w8) is_log BadLength
  gives (record { 0 = log })

unfoldable pub pass_at : Reader Pass
pass_at = do
  inc ← number w32
  att ← number w32
  gives (record { inc = inc; att = att })

unfoldable pub name_at : Reader SegName
name_at = do
  log ← log_at
  seq ← number w32
  pass ← pass_at
  gives (record { log = log; seq = seq; pass = pass })

unfoldable pub prior_at : Reader Prior
prior_at = do
  pass ← pass_at
  group ← number w32
  gives (record { pass = pass; group = group })

unfoldable pub mark_at : Reader (List ℕ)
mark_at = checked (raw 3) is_mark BadMark

-- the header behind the mark
unfoldable pub head_at : Reader Head
head_at = do
  version ← checked (number w8) is_version BadVersion
  name ← name_at
  prior ← prior_at
  group ← number w32
  count ← checked (number w16) (λ n. nat_le n (most_items + most_items)) BadLength
  gives (record { version = version; name = name; prior = prior; group = group; count = count })

-- a block's value, in a text of this version: its length, and so many bytes
unfoldable pub value_at : ℕ → Reader (Option (List ℕ))
value_at version = do
  n ← checked (number w16) (is_length version) BadLength
  bytes ← raw n
  gives (Some bytes)

unfoldable pub place_at : Reader Place
place_at = do
  name ← name_at
  group ← number w32
  item ← number w16
  gives (record { seg = record { name = name; group = group }; item = item })

-- behind a flag of 1 a place, behind one of 0 none
unfoldable pub flagged_at : ℕ → Reader (Option Place)
flagged_at zero = gives None
flagged_at (suc n) = do
  place ← place_at
  gives (Some place)

unfoldable pub row_at : Reader (BlockId × Entry)
row_at = do
  block ← block_at
  ver ← number w64
  hop ← number w32
  has ← checked (number w8) (λ n. nat_lt n 2) BadLength
  place ← flagged_at has
  gives (block, record { ver = ver; hop = hop; place = place })

unfoldable pub rows_at : ℕ → Reader (List (BlockId × Entry))
rows_at zero = gives []
rows_at (suc n) = do
  row ← row_at
  others ← rows_at n
  gives (row ∷ others)
