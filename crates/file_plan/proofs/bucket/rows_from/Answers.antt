use Rattle.std.proofs.Common.{rules, ◌≡◌, ◌++◌, [], ◌∷◌, true, sym, ◌∙◌}
use Rattle.file_plan.specs.Format.{has_row}
use Rattle.file_plan.proofs.Parsing.{reads_step}
use Rattle.file_plan.proofs.bucket.rows_from.Goals as goal

pub loop-rest-preserved : goal.loop-rest-preserved
loop-rest-preserved c =
    let has : has_row c.loop-rest.rest.now ≡ true = sym c.has_row.ensures ∙ c.if-has_row.true in
    let more : c.push.new.self ≡ c.loop-rest.rows ++ c.in_ok-front_row.field-0 ∷ [] = search rules in
    reads_step c.loop-rest.rows c.loop-rest.rest.now c.args.bytes.now c.in_ok-front_row.field-0 c.push.new.self c.rest_of_rows-rest.result.now has
    c.in_ok-front_row.ensures more c.rest_of_rows-rest.ensures c.loop-rest.invariant
