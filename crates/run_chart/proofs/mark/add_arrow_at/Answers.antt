use Rattle.std.proofs.Common.{◌≡◌, ◌++◌, sym, subst, append-nil}
use Rattle.std.specs.Prelude.{OnOk}
use Rattle.run_chart.specs.Marks.{arrow_at}
use Rattle.run_chart.specs.Moments.{row_found}
use Rattle.run_chart.proofs.mark.add_arrow_at.Goals as goal

pub returns-in-None : goal.returns-in-None
returns-in-None c =
    subst (λ event. c.args.marks.now ≡ c.args.marks.now ++ arrow_at (row_found c.args.first.now) c.args.row event) (sym c.in-None.ensures)
    (sym (append-nil c.args.marks.now))

pub returns-in-Some : goal.returns-in-Some
returns-in-Some c =
    subst (λ event. OnOk c.add_arrow.result (c.add_arrow.new.marks ≡ c.args.marks.now ++ arrow_at (row_found c.args.first.now) c.args.row event))
    (sym c.in-Some.ensures) c.add_arrow.ensures
