-- What is in flight is part of what is dirty, or of what its client fell with. Depends on: bookkeeping, tokens, crash, rows.
use Rattle.std.proofs.Common.{◌≡◌, ◌<◌, ◌≤◌, ◌⊎◌, ℕ, true, arith}
use Rattle.std.proofs.lemmas.Bool.Decides.{nat_tests}
use Rattle.std.proofs.lemmas.Bool.{true≢false}
use Rattle.token_protocol.specs.World.{World, start, flying_row}
use Rattle.token_protocol.specs.Step.{Step}
use Rattle.token_protocol.specs.Step.Step.{WritesFirst, Declines, TakesAbsent, TakesSupply, Fetches, SealsWith, Settles, CrashesDirty, CrashesClean, SealsCopy, Loses}
use Rattle.token_protocol.proofs.layers.bookkeeping.{Bookkeeping}
use Rattle.token_protocol.proofs.layers.tokens.{Tokens}
use Rattle.token_protocol.proofs.layers.crash.{Crash}
use Rattle.token_protocol.proofs.layers.logs.Rows.{Rows}

pub record Flight (w : World) : Type 0 where
  -- No version is settled before it is written.
  pub settled_version : (c : ℕ) → (w.client c).settled ≤ (w.client c).version
  -- The row in flight is above the settled version and at most the present one, or its client fell with it and its return may still settle it.
  pub flight_row : (c : ℕ) → c < w.members → 0 < (flying_row w c).version
      → (((w.client c).settled < (flying_row w c).version) × ((flying_row w c).version ≤ (w.client c).version))
      ⊎ ((w.fallen c ≡ 1) × (w.cut_low c < (flying_row w c).version))

pub keeps : (w v : World) → Step true w v → Bookkeeping w → Tokens w → Crash w → Rows w → Flight w → Flight v
keeps w v (WritesFirst taken value h) book tokens crash rows flight = grind (arith, nat_tests)
keeps w v (Declines taken h) book tokens crash rows flight = grind (arith, nat_tests)
keeps w v (TakesAbsent taken h t) book tokens crash rows flight = grind (arith, nat_tests)
keeps w v (TakesSupply taken value h t) book tokens crash rows flight = grind (arith, nat_tests)
keeps w v (Fetches who value h k) book tokens crash rows flight = grind (arith, nat_tests)
keeps w v (SealsWith who h) book tokens crash rows flight = grind (arith, nat_tests)
keeps w v (Settles who h k) book tokens crash rows flight = grind (arith, nat_tests)
keeps w v (CrashesDirty who h) book tokens crash rows flight = grind (arith, nat_tests)
keeps w v (CrashesClean who h) book tokens crash rows flight = grind (arith, nat_tests)
keeps w v (SealsCopy who log segment h k) book tokens crash rows flight = grind (arith, nat_tests)
keeps w v (Loses x h) book tokens crash rows flight = absurd (true≢false h)
keeps w v step book tokens crash rows flight = grind (arith, nat_tests)

pub begins : (n : ℕ) → Flight (start n)
begins n = record {
  settled_version = λ c. grind (arith, nat_tests);
  flight_row = λ c k0 k1. grind (arith, nat_tests);
}
