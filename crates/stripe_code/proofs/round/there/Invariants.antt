use Rattle.std.proofs.Common.{◌≡◌, ◌+◌, ◌≤◌, drop}
use Rattle.std.specs.Prelude.{is_some, count_by}
use Rattle.stripe_code.proofs.round.there.Given as goal

-- the parts counted so far and those of the rest are all that are there
abbrev pub invariant-loop-part : goal.invariant-loop-part
invariant-loop-part l = (l.count + count_by is_some (drop l.part-index l.parts) ≡ count_by is_some l.parts) × (l.count ≤ l.part-index)
