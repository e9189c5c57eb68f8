use Rattle.std.proofs.Common.{rules, ◌≡◌, ◌+◌, ◌<◌, ◌≤◌, length, drop, Bool, true, ◌&&◌, ap, sym, ◌∙◌, arith, length-drop}
use Rattle.std.specs.FinMap.Entries.{is_sorted}
use Rattle.std.specs.Ordering.{is_lt}
use Rattle.file_plan.specs.Names.{name_cmp}
use Rattle.file_plan.proofs.RowPlaces.{rise_step, short_rises, not_ge}
use Rattle.file_plan.proofs.bucket.is_rising.Goals as goal

pub loop-i-preserved : goal.loop-i-preserved
loop-i-preserved c =
    let i = c.loop-i.i in
    let x = c.index-rows-i.result in
    let y = c.index-rows-i-in-loop-i.result in
    let here : i + 1 < length c.args.rows.now = omega arith in
    let less : is_lt (name_cmp x.0 y.0) ≡ true = not_ge (name_cmp x.0 y.0) (search rules) in
    c.loop-i.invariant ∙ rise_step c.args.rows.now i x y here c.index-rows-i.is c.index-rows-i-in-loop-i.is
    ∙ ap (λ (b : Bool). b && is_sorted name_cmp (drop (i + 1) c.args.rows.now)) less

pub returns : goal.returns
returns c =
    let e = length-drop c.loop-i.i c.args.rows.now in
    let short : length (drop c.loop-i.i c.args.rows.now) ≤ 1 = omega (arith, e) in
    sym (c.loop-i.invariant ∙ short_rises (drop c.loop-i.i c.args.rows.now) short)
