use Rattle.std.proofs.Common.{◌≡◌, ℕ, map, subst}
use Rattle.parity_kernel.specs.Field.{doubled}
use Rattle.parity_kernel.proofs.Doubling.{by_lanes, lanes_doubled}
use Rattle.parity_kernel.proofs.lanes.doubled_lanes.Goals as goal

pub returns : goal.returns
returns c =
    let v = c.args.of in
    subst (λ (n : ℕ). by_lanes v n ≡ map doubled v) c.fits-of.0 (lanes_doubled v)
