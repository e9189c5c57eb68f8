-- Who wrote what is not yet settled; what is pinned is settled. Depends on: bookkeeping, tokens, crash, versions.
use Rattle.std.proofs.Common.{◌≡◌, ◌<◌, ◌≤◌, ℕ, true, arith}
use Rattle.std.proofs.lemmas.Bool.Decides.{nat_tests}
use Rattle.std.proofs.lemmas.Bool.{true≢false}
use Rattle.token_protocol.specs.Packets.{Recall}
use Rattle.token_protocol.specs.World.{World, start}
use Rattle.token_protocol.specs.Premises.{SettledEnd}
use Rattle.token_protocol.specs.Giving.{MayGive, gives}
use Rattle.token_protocol.specs.Step.{Step}
use Rattle.token_protocol.specs.Step.Step.{WritesFirst, Writes, Reads, Syncs, Gives, Loses}
use Rattle.token_protocol.proofs.layers.bookkeeping.{Bookkeeping}
use Rattle.token_protocol.proofs.layers.tokens.{Tokens}
use Rattle.token_protocol.proofs.layers.crash.{Crash}
use Rattle.token_protocol.proofs.layers.content.Versions.{Versions}

pub record Writers (w : World) : Type 0 where
  -- An owner wrote the newest version.
  pub own_writer : (c : ℕ) → (w.client c).mode ≡ 2 → w.writer w.newest ≡ c
  -- All versions above the join are by the last writer.
  pub above_writer : (v : ℕ) → w.join_version < v → v ≤ w.newest → w.writer v ≡ w.last_writer
  -- What someone else read, or what was synced, is filed.
  pub pinned_join : w.pinned ≤ w.join_version

give_keeps_writers : (w : World) (answered : Recall) (end : ℕ) → MayGive w answered → SettledEnd w answered.client end → Bookkeeping w → Tokens w → Crash w
    → Versions w
    → Writers w → Writers (gives w answered end)
give_keeps_writers w answered end h k book tokens crash versions writers = grind (arith, nat_tests)

pub keeps : (w v : World) → Step true w v → Bookkeeping w → Tokens w → Crash w → Versions w → Writers w → Writers v
keeps w v (WritesFirst taken value h) book tokens crash versions writers = grind (arith, nat_tests)
keeps w v (Writes who value h) book tokens crash versions writers = grind (arith, nat_tests)
keeps w v (Reads who h) book tokens crash versions writers = grind (arith, nat_tests)
keeps w v (Syncs who version h) book tokens crash versions writers = grind (arith, nat_tests)
keeps w v (Gives answered end h k) book tokens crash versions writers = give_keeps_writers w answered end h k book tokens crash versions writers
keeps w v (Loses x h) book tokens crash versions writers = absurd (true≢false h)
keeps w v step book tokens crash versions writers = grind (arith, nat_tests)

pub begins : (n : ℕ) → Writers (start n)
begins n = record {
  own_writer = λ c k0. grind (arith, nat_tests);
  above_writer = λ v k0 k1. grind (arith, nat_tests);
  pinned_join = grind (arith, nat_tests);
}
