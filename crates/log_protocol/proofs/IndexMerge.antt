-- Merging the rows of a Deltas into an index gives the join: the first greatest of them is taken where it is above the entry, and of equals the entry stays.
use Rattle.std.proofs.Common.{ℕ, suc, ◌≤◌, arith}
use Rattle.std.proofs.lemmas.Bool.Decides.{nat_tests}
use Rattle.log_protocol.specs.Tables.{put}
use Rattle.log_protocol.specs.IndexState.{Entry, IndexState, Joins}
use Rattle.log_protocol.specs.IndexMerge.{FirstGreatest, merged}
use Rattle.log_protocol.specs.IndexLaws.{IndexReached}
use Rattle.log_protocol.proofs.IndexInduction.{index_always}
use Rattle.log_protocol.proofs.IndexRows.{IndexRows}

-- Deltas that begin no later than after what was applied, and end no earlier
pub merged_joins : (w : IndexState) (applied : ℕ → ℕ) (l first upto : ℕ) (old new : Entry) → IndexRows w → Joins w.version w.hop applied old
    → FirstGreatest w l first upto new → first ≤ suc (applied l) → applied l ≤ upto → Joins w.version w.hop (put applied l upto) (merged old new)
merged_joins w applied l first upto old new rows joins greatest no_gap rises = record {
  newest = λ m q b. grind (arith, nat_tests);
  furthest = λ m q b c. grind (arith, nat_tests);
  earliest = λ m q b c d some. grind (arith, nat_tests);
  within = λ some. grind (arith, nat_tests);
  its_version = λ some. grind (arith, nat_tests);
  its_hop = λ some. grind (arith, nat_tests);
}

pub merging_joins : (w : IndexState) (applied : ℕ → ℕ) (l first upto : ℕ) (old new : Entry) → IndexReached w → Joins w.version w.hop applied old
    → FirstGreatest w l first upto new → first ≤ suc (applied l) → applied l ≤ upto → Joins w.version w.hop (put applied l upto) (merged old new)
merging_joins w applied l first upto old new run = merged_joins w applied l first upto old new (index_always w run).rows
