-- The blocks of a segment that is emptied, and what is known of each.
use Rattle.std.specs.Prelude.{ℕ, ◌+◌, Bool, true, false, List, [], ◌∷◌, ◌++◌, Option, Some, None, min, if◌then◌else◌}
use Rattle.std.specs.List.{list_all, list_any, filter_map}
use Rattle.segment_format.specs.declared.segment.Item.{Item}
use Rattle.segment_format.specs.declared.segment.Item.TheVariants.{Block}
use Rattle.segment_format.specs.Rule.{no_item}
use Rattle.xfs_base.specs.declared.block.BlockId.{BlockId}
use Rattle.xfs_base.specs.declared.entry.Entry.{Entry}
use Rattle.xfs_base.specs.declared.entry.Place.{Place}
use Rattle.xfs_base.specs.declared.segment.SegRef.{SegRef}
use Rattle.xfs_base.specs.Blocks.{same_block}
use Rattle.stripe_cleaner.specs.declared.checks.Check.{Check}
use Rattle.stripe_cleaner.specs.declared.checks.Fate.{Fate}
use Rattle.stripe_cleaner.specs.declared.checks.Fate.TheVariants.{Asked, Live, Moved, Dead}
use Rattle.stripe_cleaner.specs.declared.output.Out.{Out}
use Rattle.stripe_cleaner.specs.declared.output.Out.TheVariants as out

-- a Block is asked for at its number among the items; other items are not
abbrev pub check_of : ℕ → Item → List Check
check_of number (Block block value) = record { block = block; item = min number no_item; fate = Asked value } ∷ []
check_of number item = []

-- each Block among the items from a number on is asked for
abbrev pub checks_of : ℕ → List Item → List Check
checks_of number [] = []
checks_of number (i ∷ rest) = check_of number i ++ checks_of (number + 1) rest

-- ---- what an answer makes of a block

-- the entry of a block that is moved once more, at the version that it has
abbrev pub moved_once : Entry → Entry
moved_once entry = record entry { hop = entry.hop + 1 }

-- a block that is live is to be moved
abbrev pub after_live : Entry → Fate → Fate
after_live entry (Asked value) = Live (moved_once entry) value
after_live entry fate = fate

-- a block is dead where it was never live, or was moved
abbrev pub after_dead : Fate → Fate
after_dead (Asked value) = Dead
after_dead Moved = Dead
after_dead fate = fate

-- what was live is moved
abbrev pub after_moved : Fate → Fate
after_moved (Live e value) = Moved
after_moved fate = fate

abbrev pub live_at : BlockId → Entry → Check → Check
live_at block entry c = if same_block c.block block then record c { fate = after_live entry c.fate } else c

abbrev pub dead_at : BlockId → Check → Check
dead_at block c = if same_block c.block block then record c { fate = after_dead c.fate } else c

abbrev pub moved_at : Check → Check
moved_at c = record c { fate = after_moved c.fate }

-- ---- what is told of all

abbrev pub is_asked : Fate → Bool
is_asked (Asked value) = true
is_asked fate = false

abbrev pub is_live : Fate → Bool
is_live (Live e value) = true
is_live fate = false

abbrev pub is_dead : Fate → Bool
is_dead Dead = true
is_dead fate = false

-- an answer is awaited of each that is asked for and of each that was moved
abbrev pub is_awaited : Fate → Bool
is_awaited (Asked value) = true
is_awaited Moved = true
is_awaited fate = false

abbrev pub any_asked : List Check → Bool
any_asked checks = list_any (λ c. is_asked c.fate) checks

abbrev pub any_live : List Check → Bool
any_live checks = list_any (λ c. is_live c.fate) checks

abbrev pub all_dead : List Check → Bool
all_dead checks = list_all (λ c. is_dead c.fate) checks

-- the place in the segment, which is the old one also of what was moved
abbrev pub place_in : SegRef → ℕ → Place
place_in segment item = record { seg = segment; item = item }

abbrev pub question : SegRef → Check → Option Out
question segment c = if is_awaited c.fate then Some (out.Check c.block (place_in segment c.item)) else None

-- the Checks whose answers are awaited, in order
abbrev pub questions : SegRef → List Check → List Out
questions segment checks = filter_map (question segment) checks

abbrev pub move_of : BlockId → Fate → Option (BlockId × Entry × Option (List ℕ))
move_of block (Live e value) = Some (block, e, value)
move_of block fate = None

-- what is live, as it is to be written
abbrev pub moves : List Check → List (BlockId × Entry × Option (List ℕ))
moves checks = filter_map (λ c. move_of c.block c.fate) checks
