-- A value has as many bytes as a segment can hold, or is absent.
use Rattle.std.proofs.Common.{◌≡◌, true, sym, ap, subst, Some}
use Rattle.xfs_base.specs.Value.{IsValue}
use Rattle.client_call.proofs.Fitted.{value_fits_so}
use Rattle.client_call.proofs.fitting.prove_value_fits.Goals as goal
use Rattle.client_call.specs.Fitting.{value_fits}

pub returns-in-Some : goal.returns-in-Some
returns-in-Some c =
    let fact : c.args.value.now ≡ Some c.in-Some.bytes.now = c.in-Some.ensures.some in
    subst (λ v. value_fits v ≡ true) (sym fact)
    (value_fits_so c.in-Some.bytes.now (subst IsValue fact c.in-Some.ensures.fits) c.prove_bytes_fit.ensures)

pub returns-in_default : goal.returns-in_default
returns-in_default c = ap value_fits (c.bytes.ensures.none.0 c.in_default.is)
