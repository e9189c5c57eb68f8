-- The next ballot of a board is its own, above its promise, and the least that is.
use Rattle.std.proofs.Common.{◌≡◌, ℕ, ◌+◌, ◌<◌, ◌≤◌, arith}
use Rattle.std.proofs.lemmas.Bool.Decides.{nat_tests}
use Rattle.board.specs.Ballots.{owner_of, next_ballot}

pub next_is_above : (number promised : ℕ) → promised < next_ballot number promised
next_is_above number promised = grind (arith, nat_tests)

-- One of three ballots in a row belongs to a board.
third : (number promised : ℕ) → 1 ≤ number → number ≤ 3 → (owner_of (promised + 1) ≡ number → ⊥) → (owner_of (promised + 2) ≡ number → ⊥) → owner_of (promised + 3) ≡ number
third number promised least most first second = omega (arith, least, most, first, second)

pub next_is_own : (number promised : ℕ) → 1 ≤ number → number ≤ 3 → owner_of (next_ballot number promised) ≡ number
next_is_own number promised least most = grind (arith, nat_tests, least, most, third number promised)

pub next_is_least : (number promised ballot : ℕ) → promised < ballot → owner_of ballot ≡ number → next_ballot number promised ≤ ballot
next_is_least number promised ballot above own = grind (arith, nat_tests, above, own)
