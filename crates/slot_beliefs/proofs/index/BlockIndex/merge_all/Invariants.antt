use Rattle.std.proofs.Common.{◌≡◌, drop}
use Rattle.slot_beliefs.specs.Index.{merge_all, Fits}
use Rattle.slot_beliefs.proofs.index.BlockIndex.merge_all.Given as goal

-- counts can rise by the rows to come; the rows so far and those to come are all
abbrev pub invariant-loop-row : goal.invariant-loop-row
invariant-loop-row l =
    record {
      room : Fits l.self.usage (drop l.row-index l.rows);
      all : merge_all l.self (drop l.row-index l.rows) ≡ merge_all l.initial.self l.rows;
    }
