-- A value has as many bytes as it may have, or is absent.
use Rattle.std.proofs.Common.{◌≡◌, sym, subst, None, Some}
use Rattle.journal_law.specs.Told.{IsContent}
use Rattle.xfs_base.specs.Value.{IsValue}
use Rattle.run_audits.proofs.ranges.prove_value_fits.Goals as goal

pub returns-in-Some : goal.returns-in-Some
returns-in-Some c =
    let fact : c.args.value.now ≡ Some c.in-Some.bytes.now = c.in-Some.ensures.some in
    subst IsContent (sym fact) (record { fits = subst IsValue fact c.in-Some.ensures.fits; bytes = c.prove_bytes_fit.ensures })

pub returns-in_default : goal.returns-in_default
returns-in_default c =
    let fact : c.args.value.now ≡ None = c.bytes.ensures.none.0 c.in_default.is in subst IsContent (sym fact) (record { fits = tt; bytes = tt })
