use Rattle.std.proofs.Common.{sym, ◌∙◌}
use Rattle.run_chart.proofs.Moments.{row_added, row_kept}
use Rattle.run_chart.proofs.moment.FirstRows.note.Goals as goal

pub returns-then-contains_key : goal.returns-then-contains_key
returns-then-contains_key c =
    row_kept c.args.self.now c.args.row.now c.args.place c.moment_of-moment.result c.moment_of-moment.ensures (sym c.contains_key.ensures ∙ c.if-contains_key.true)

pub returns : goal.returns
returns c =
    row_added c.args.self.now (record { rows = c.insert.new.self }) c.args.row.now c.args.place c.moment_of-moment.result c.moment_of-moment.ensures
    (sym c.contains_key.ensures ∙ c.if-contains_key.false) c.in_ok-insert.ensures.updates
