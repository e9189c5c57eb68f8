-- What an exit says of its result.
use Rattle.std.proofs.Common.{◌≡◌, true, false, Result, Ok, Err, refl}
use Rattle.std.specs.Prelude.{is_ok, is_err}
use Rattle.xfs_base.proofs.Booleans.{contrary}

pub err_is_not_ok : {T E : Type 0} (r : Result T E) → is_err r ≡ true → is_ok r ≡ false
err_is_not_ok (Ok x) e = contrary e
err_is_not_ok (Err y) e = refl
