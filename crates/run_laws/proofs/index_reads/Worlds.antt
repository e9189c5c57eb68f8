-- What is known at a moment of both small worlds: that of the index is seen in the abstract index of each block, and both tell of the same logs.
use Rattle.std.proofs.Common.{◌≡◌, ℕ, true}
use Rattle.std.proofs.lemmas.Bool.{eqb-true}
use Rattle.std.proofs.Math.Nat.{mod-eq_of_lt}
use Rattle.checkpoint.specs.WriterState.{Rows}
use Rattle.index_tie.specs.Net as index
use Rattle.index_tie.proofs.Runs.{good_in}
use Rattle.index_tie.proofs.Views.{Good}
use Rattle.token_client.specs.State.{is_in_slot}
use Rattle.token_law.specs.Net as tokens
use Rattle.token_law.proofs.Start.{always}
use Rattle.xfs_base.specs.Blocks.{slot_of}
use Rattle.xfs_base.specs.declared.block.BlockId.{BlockId}
use Rattle.xfs_base.specs.declared.segment.SegRef.{SegRef}
use Rattle.run_laws.specs.index_reads.Ties.{Tied}
use Rattle.run_laws.proofs.index_reads.Sayings.{Same, BeginsAtOne}

-- the two tests of a block's slot are one
pub of_slot : (part : ℕ) (b : BlockId) → is_in_slot part b ≡ true → slot_of b.ino.0 ≡ part
of_slot part b inside = eqb-true (slot_of b.ino.0) part inside

-- a block of the slot
pub some_block : ℕ → BlockId
some_block part = record { ino = record { 0 = part }; blk = 0 }

module _ (members part : ℕ) (holds : SegRef → Rows) (t : tokens.Net) (i : index.Net) (tied : Tied members part holds t i) where
  pub good : Good part holds i
  good = good_in part holds tied.any i tied.index_run

  pub same : Same t.books i.filed
  same = record { books = tied.books; plain = tied.plain; filed = good.filed }

  pub begins : BeginsAtOne t.books
  begins = (always true members part t tied.some tied.tokens_run).sure.books.first

  pub its_block : slot_of (some_block part).ino.0 ≡ part
  unfolding some_block
  its_block = mod-eq_of_lt tied.of_map
