-- Rows: where rows may stand, and that `top` is the join of all that is filed.
-- Stands on nothing. The two are one group: a new version is above all because `top` is the join, and `top` stays the join because versions are filed once.
use Rattle.std.proofs.Common.{◌≡◌, ℕ, ◌<◌, arith}
use Rattle.std.proofs.lemmas.Bool.Decides.{nat_tests}
use Rattle.log_protocol.specs.IndexState.{IndexState, new_block, Joins}
use Rattle.log_protocol.specs.IndexSteps.{CanCopy, IndexStep}
use Rattle.log_protocol.specs.IndexSteps.IndexStep.{Files, Files_none, Copies}

pub record IndexRows (w : IndexState) : Type 0 where
  -- a client's rows are no copies
  pub client_hop : (l q : ℕ) → l < w.cleaner → w.hop l q ≡ 0
  -- the cleaner's are
  pub copy_hop : (q : ℕ) → 0 < w.version w.cleaner q → 0 < w.hop w.cleaner q
  -- no other log has rows
  pub no_other : (l q : ℕ) → w.cleaner < l → w.version l q ≡ 0
  -- seqs begin at 1
  pub seq_some : (l : ℕ) → w.version l 0 ≡ 0
  -- number 0 is nobody's log
  pub nobody : w.head 0 ≡ 0
  -- beyond its head a log says nothing
  pub unfiled : (l q : ℕ) → w.head l < q → w.version l q ≡ 0
  -- a version stands in one client's log
  pub one_log : (l q : ℕ) → l < w.cleaner → 0 < w.version l q → w.version_log (w.version l q) ≡ l
  -- at one place
  pub one_seq : (l q : ℕ) → l < w.cleaner → 0 < w.version l q → w.version_seq (w.version l q) ≡ q
  -- the top is the join of all that is filed
  pub joined : Joins w.version w.hop w.head w.joined

-- who copies a row is somebody
copies_named : (w : IndexState) (l q : ℕ) → CanCopy w l q → IndexRows w → 0 < w.cleaner
copies_named w l q can rows =
    let a = can.filed in
    let b = can.some in
    let c = rows.seq_some l in
    let d = rows.unfiled l q in
    let e = rows.no_other l q in
    let f = rows.nobody in
    grind (arith)

pub step_keeps_index_rows : (w u : IndexState) → IndexStep w u → IndexRows w → IndexRows u
step_keeps_index_rows w u (Files l version can) rows = grind (arith, nat_tests)
step_keeps_index_rows w u (Files_none l can) rows = grind (arith, nat_tests)
step_keeps_index_rows w u (Copies l q can) rows = let some = copies_named w l q can rows in grind (arith, nat_tests)
step_keeps_index_rows w u step rows = grind (arith, nat_tests)

pub new_block_index_rows : (cleaner : ℕ) → IndexRows (new_block cleaner)
new_block_index_rows cleaner = grind (arith, nat_tests)
