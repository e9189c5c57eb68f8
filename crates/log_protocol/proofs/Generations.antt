-- Generations: who knows a server's generation knows one that it has reached.
-- Stands on nothing.
use Rattle.std.proofs.Common.{◌≡◌, ℕ, ◌<◌, ◌≤◌, arith}
use Rattle.std.proofs.lemmas.Bool.Decides.{nat_tests}
use Rattle.log_protocol.specs.Tables.{In}
use Rattle.log_protocol.specs.Packets.{FencedPacket}
use Rattle.log_protocol.specs.State.{State, new_log}
use Rattle.log_protocol.specs.Step.{Step}
use Rattle.log_protocol.specs.Step.Step.{Loses, Hears, Learns}

pub record Generations (w : State) : Type 0 where
  -- the owner's map is no newer than the registry's
  pub owner_known : (v : ℕ) → w.owner_generation v ≤ w.registry_generation v
  -- the registry's is no newer than the server
  pub registry_known : (v : ℕ) → w.registry_generation v ≤ w.generation v
  -- a booked segment's group names generations that were reached
  pub member_known : (x j : ℕ) → w.booked x ≡ 1 → j < w.member_count x → w.member_generation x j ≤ w.generation (w.member_server x j)
  -- a Fenced carries a generation that its sender reached
  pub fenced_known : (p : FencedPacket) → In p w.fenceds → p.generation ≤ w.generation p.from

pub step_keeps_generations : (w u : State) → Step w u → Generations w → Generations u
step_keeps_generations w u (Loses v) generations = grind (arith, nat_tests)
step_keeps_generations w u (Hears v g can) generations = grind (arith, nat_tests)
step_keeps_generations w u (Learns map can) generations = grind (arith, nat_tests)
step_keeps_generations w u step generations = grind (arith, nat_tests)

pub new_log_generations : (servers : ℕ) (seq_of incarnation_of attempt_of : ℕ → ℕ) → Generations (new_log servers seq_of incarnation_of attempt_of)
new_log_generations servers seq_of incarnation_of attempt_of = grind (arith, nat_tests)
