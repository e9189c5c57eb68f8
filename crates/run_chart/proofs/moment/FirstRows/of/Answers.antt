use Rattle.std.proofs.Common.{◌∙◌, ap}
use Rattle.std.proofs.lemmas.List.{take_all}
use Rattle.run_chart.specs.Marks.{row_sent}
use Rattle.run_chart.proofs.Moments.{finds_more}
use Rattle.run_chart.proofs.moment.FirstRows.of.Goals as goal

pub loop-place-preserved : goal.loop-place-preserved
loop-place-preserved c packet =
    finds_more c.loop-place.table c.note.new.self c.args.rows.now c.loop-place.place c.index-rows-place.result c.loop-place-test.true c.index-rows-place.is
    c.loop-place.invariant c.in_ok-note.ensures packet

pub returns : goal.returns
returns c packet =
    c.loop-place.invariant packet ∙ ap (λ rows. row_sent rows packet) (take_all c.loop-place.place c.args.rows.now c.loop-place-test.false)
