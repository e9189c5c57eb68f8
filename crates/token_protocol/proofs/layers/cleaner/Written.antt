-- Each version was written by a client, and the cleaner is none. Depends on: the cleaner is idle, versions.
use Rattle.std.proofs.Common.{◌<◌, ◌≤◌, ℕ, true, arith}
use Rattle.std.proofs.lemmas.Bool.Decides.{nat_tests}
use Rattle.std.proofs.lemmas.Bool.{true≢false}
use Rattle.token_protocol.specs.World.{World, start}
use Rattle.token_protocol.specs.Step.{Step}
use Rattle.token_protocol.specs.Step.Step.{WritesFirst, Writes, RestartsAdopting, RestartsDiscarding, Loses}
use Rattle.token_protocol.proofs.layers.content.Versions.{Versions}
use Rattle.token_protocol.proofs.layers.cleaner.Idle.{Idle}

pub record Written (w : World) : Type 0 where
  -- Each version was written by a client.
  pub written : (v : ℕ) → 0 < v → v ≤ w.newest → 0 < w.writer v

pub keeps : (w v : World) → Step true w v → Versions w → Idle w → Written w → Written v
keeps w v (WritesFirst taken value h) versions idle written =
    record { written = λ v k0 k1. grind (arith, nat_tests, written.written v, idle.offer_client taken h.sent) }
keeps w v (Writes who value h) versions idle written = record { written = λ v k0 k1. grind (arith, nat_tests, written.written v, idle.nothing_held, h.owns) }
keeps w v (RestartsAdopting who incarnation promised h k) versions idle written =
    record { written = λ v k0 k1. grind (arith, nat_tests, written.written v, versions.fallen_low who, versions.fallen_high who, versions.join_newest) }
keeps w v (RestartsDiscarding who incarnation promised h) versions idle written =
    record { written = λ v k0 k1. grind (arith, nat_tests, written.written v, versions.fallen_low who, versions.fallen_high who, versions.join_newest) }
keeps w v (Loses x h) versions idle written = absurd (true≢false h)
keeps w v step versions idle written = record { written = written.written }

pub begins : (n : ℕ) → Written (start n)
begins n = record { written = λ v k0 k1. absurd (omega arith) }
