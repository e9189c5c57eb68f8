use Rattle.std.proofs.Common.{◌≡◌, ℕ, ◌+◌, ◌-◌, ◌∙◌, refl, sym, ap, ap₂, suc, arith}
use Rattle.parity_kernel.specs.Field.{product, times_squares, inverse_of}
use Rattle.parity_kernel.proofs.FieldLaws.{undone}
use Rattle.parity_kernel.proofs.field.inverse.Goals as goal

-- one square more
square_more : (n x so_far : ℕ) → times_squares (suc n) x so_far ≡ times_squares n (product x x) (product (product x x) so_far)
unfolding times_squares
square_more n x so_far = refl

pub loop-preserved : goal.loop-preserved
loop-preserved c =
    let left = 7 - (c.loop.counter + 1) in
    let more : suc left ≡ 7 - c.loop.counter = omega arith in
    let square = c.product-square.ensures in
    ap₂ (times_squares left) square (c.product-so_far.ensures ∙ ap (λ (x : ℕ). product x c.loop.so_far) square)
    ∙ sym (square_more left c.loop.square c.loop.so_far) ∙ ap (λ (n : ℕ). times_squares n c.loop.square c.loop.so_far) more ∙ c.loop.invariant

pub returns-clause-exact : goal.returns-clause-exact
unfolding inverse_of times_squares
returns-clause-exact c =
    let over : 0 ≡ 7 - c.loop.counter = omega arith in
    ap (λ (n : ℕ). times_squares n c.loop.square c.loop.so_far) over ∙ c.loop.invariant

pub returns-clause-undoes : goal.returns-clause-undoes
unfolding inverse_of times_squares
returns-clause-undoes c x fits =
    let over : 0 ≡ 7 - c.loop.counter = omega arith in
    let exact : c.loop.so_far ≡ inverse_of c.args.by = ap (λ (n : ℕ). times_squares n c.loop.square c.loop.so_far) over ∙ c.loop.invariant in
    ap (λ (y : ℕ). product y (product c.args.by x)) exact ∙ undone c.args.by x c.requires (c.ranges.by.fits) fits
