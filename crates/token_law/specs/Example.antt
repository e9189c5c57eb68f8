-- A run that shows that nothing above is said of no run: two clients, and logs that keep their word.
use Rattle.std.specs.Prelude.{◌≡◌, ℕ, true, List, [], ◌∷◌, Option, Some}
use Rattle.xfs_base.specs.declared.block.BlockId.{BlockId}
use Rattle.version_model.specs.declared.act.Act.TheVariants.{Wrote, Read}
use Rattle.token_law.specs.Net.{Net, Runs, opening}

-- a block of slot 1
abbrev pub example_block : BlockId
example_block = record { ino = record { 0 = 1 }; blk = 0 }

abbrev pub example_value : Option (List ℕ)
example_value = Some (7 ∷ [])

-- The first client wrote the block, and filed it in segment 1 of its log; then the second client, which had it from the first, read that version.
pub record WroteFiledRead (n : Net) : Type 0 where
  pub run : Runs true 3 1 opening n
  pub acts : n.acts ≡ Wrote 1 example_block example_value ∷ Read 2 example_block 1 example_value ∷ []
  pub filed : n.books.end 1 ≡ 1

abbrev pub IsShared : Type 0
IsShared = (n : Net) × WroteFiledRead n
