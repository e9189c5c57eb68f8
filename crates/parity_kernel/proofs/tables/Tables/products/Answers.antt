use Rattle.std.proofs.Common.{ℕ, map, ap, ◌∙◌}
use Rattle.parity_kernel.specs.Field.{product}
use Rattle.parity_kernel.proofs.Halves.{both_halves, high_ok, low_ok}
use Rattle.parity_kernel.proofs.tables.Tables.products.Goals as goal

pub swizzle-low : goal.swizzle-low
swizzle-low c = low_ok c.args.of c.fits-of

pub swizzle-high : goal.swizzle-high
swizzle-high c = high_ok c.args.of c.fits-of

pub returns : goal.returns
returns c =
    both_halves c.self.inside.by c.self.inside.low c.self.inside.high c.args.of c.fits-of c.self.invariant.0 c.self.invariant.1
    ∙ ap (λ (by : ℕ). map (product by) c.args.of) c.self.view_is
