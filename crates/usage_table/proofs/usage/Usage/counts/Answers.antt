use Rattle.std.proofs.Common.{◌≡◌, ◌<◌, ◌↔◌, ℕ, Contains, sym, subst, ◌∙◌}
use Rattle.std.proofs.lemmas.Result.{IfOk-weaker}
use Rattle.xfs_base.specs.declared.segment.SegName.{SegName}
use Rattle.usage_table.specs.Counts.{IsTable, count_of}
use Rattle.usage_table.proofs.Table.{table_lists}
use Rattle.usage_table.proofs.usage.Usage.counts.Goals as goal

pub returns-clause-listed : goal.returns-clause-listed
returns-clause-listed c =
    let now = c.args.self.now in
    let table : IsTable now = subst IsTable c.self.view_is c.self.invariant in
    IfOk-weaker c.listed.result _ _
    (λ counts fact. subst (λ counts. (seg : SegName) (count : ℕ) → Contains counts (seg, count) ↔ ((0 < count) × (count ≡ count_of now seg)))
    (sym (fact ∙ c.self.view_is)) (table_lists now table))
    c.listed.ensures
