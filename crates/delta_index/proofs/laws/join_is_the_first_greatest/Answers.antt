use Rattle.std.proofs.Common.{sym, subst}
use Rattle.delta_index.specs.Join.{entries_of, IsJoin}
use Rattle.delta_index.proofs.FirstGreatest.{IsJoin-fold, fold-IsJoin}
use Rattle.delta_index.proofs.laws.join_is_the_first_greatest.Goals as goal

pub returns : goal.returns
returns c = λ merges block entry.
    (λ e. subst (IsJoin (entries_of block merges)) (sym e) (IsJoin-fold (entries_of block merges)), fold-IsJoin (entries_of block merges) entry)
