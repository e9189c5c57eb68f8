use Rattle.std.proofs.lemmas.Result.{err_from_is_err_and}
use Rattle.segment_format.specs.ReadingFields.{rows_at}
use Rattle.segment_format.proofs.Loops.{rows_fail, rows_go_on, rows_end}
use Rattle.segment_format.proofs.decode_fields.rows_of.Goals as goal

pub returns-in_err-row : goal.returns-in_err-row
returns-in_err-row c =
    let p = err_from_is_err_and c.from_residual.result c.from_residual.ensures.1 in
    rw (p.1, p.2)
    (rows_fail c.in_err-row.field-0.0 c.loop.rows c.args.count c.loop.counter c.loop.reader
    (rows_at c.args.count c.args.reader.now) c.loop-test.true c.in_err-row.ensures c.loop.invariant)

pub loop-preserved : goal.loop-preserved
loop-preserved c =
    rw c.in_ok-push.ensures.ok
    (rows_go_on c.loop.rows c.args.count c.loop.counter c.loop.reader c.row_of.new.reader c.in_ok-row.row
    (rows_at c.args.count c.args.reader.now) c.loop-test.true c.in_ok-row.ensures c.loop.invariant)

pub returns : goal.returns
returns c = rows_end c.loop.rows c.args.count c.loop.counter c.loop.reader (rows_at c.args.count c.args.reader.now) c.loop-test.false c.loop.invariant
