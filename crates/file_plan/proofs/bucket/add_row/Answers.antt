use Rattle.std.proofs.Common.{◌≤◌, length, subst, sym, arith}
use Rattle.std.specs.Prelude.{List, ℕ}
use Rattle.file_plan.proofs.Parsing.{good_short}
use Rattle.file_plan.proofs.bucket.add_row.Goals as goal

pub overflow_cast-text : goal.overflow_cast-text
overflow_cast-text c =
    let short = good_short c.args.name.now c.as_bytes-text.ensures.good in
    let same : length c.as_bytes-text.result.now ≤ 60 = subst (λ (n : List ℕ). length n ≤ 60) (sym c.as_bytes-text.ensures.bytes) short in
    omega (arith, same)
