-- So many turns are left where the last of them is below the end.
use Rattle.std.proofs.Common.{◌≡◌, ℕ, ◌+◌, ◌-◌, ◌≤◌, Bool, true, false, nat_le, nat_lt, refl, sym, arith}
use Rattle.std.proofs.lemmas.Bool.Decides.{nat_tests}
use Rattle.xfs_base.specs.Limits.{u64_end}
use Rattle.token_manager.proofs.slot.has_turns.Goals as goal

left_upto : (turn n highest : ℕ) → turn ≤ highest → nat_le n (highest - turn) ≡ nat_lt (turn + n) (highest + 1)
left_upto turn n highest limit = by (nat_le n (highest - turn)) refl
  where
    by : (t : Bool) → nat_le n (highest - turn) ≡ t → t ≡ nat_lt (turn + n) (highest + 1)
    by true left = sym (grind (arith, nat_tests))
    by false left = sym (grind (arith, nat_tests))

pub returns : goal.returns
returns c = left_upto c.args.turn c.args.count u64_end (omega (arith, c.ranges.turn))
