-- Lists: what a Fenced says of its sender's shelf stays true, or the sender goes on in a later generation.
-- Stands on Generations and Texts.
use Rattle.std.proofs.Common.{◌≡◌, ℕ, ◌<◌, ◌≤◌, arith}
use Rattle.std.proofs.lemmas.Bool.Decides.{nat_tests}
use Rattle.log_protocol.specs.Tables.{In}
use Rattle.log_protocol.specs.Packets.{FencedPacket}
use Rattle.log_protocol.specs.State.{State, new_log}
use Rattle.log_protocol.specs.ServerSteps.{CanRaise, raises, CanFence, fences}
use Rattle.log_protocol.specs.OwnerSteps.{CanSeal, seals, CanRestripe, restripes, CanRestart, restarts}
use Rattle.log_protocol.specs.OpeningSteps.{CanBegin, begins, CanOpen, opens}
use Rattle.log_protocol.specs.Step.{Step}
use Rattle.log_protocol.specs.Step.Step.{Deletes, Raises, Fences, Seals, Restripes, Restarts, Begins, Opens}
use Rattle.log_protocol.proofs.Generations.{Generations}
use Rattle.log_protocol.proofs.Texts.{Texts}

pub record Lists (w : State) : Type 0 where
  -- being listed is a flag
  pub list_flag : (p : FencedPacket) (x : ℕ) → In p w.fenceds → p.listed x ≤ 1
  -- what a server listed it still holds, unless it was dropped or the server lost its disk
  pub listed_held : (p : FencedPacket) (x : ℕ) → In p w.fenceds → p.listed x ≡ 1 → w.dropped x ≡ 0 → w.holds p.from x ≡ 0 → p.generation < w.generation p.from
  -- a listed name is booked
  pub listed_booked : (p : FencedPacket) (x : ℕ) → In p w.fenceds → p.listed x ≡ 1 → w.booked x ≡ 1
  -- a group of an earlier boot than the Fenced's names no later generation of its sender
  pub older_known : (p : FencedPacket) (x j : ℕ) → In p w.fenceds → w.booked x ≡ 1 → w.incarnation_of x < p.incarnation → j < w.member_count x
      → w.member_server x j ≡ p.from → w.member_generation x j ≤ p.generation
  -- a Fenced is for a boot that has begun
  pub fenced_boot : (p : FencedPacket) → In p w.fenceds → p.incarnation ≤ w.incarnation
  -- and its horizon was the least one of its moment
  pub fenced_low : (p : FencedPacket) → In p w.fenceds → p.low ≤ w.low

raises_keeps_lists : (w : State) (low : ℕ) → CanRaise w low → Generations w → Texts w → Lists w → Lists (raises w low)
raises_keeps_lists w low can generations texts lists = record {
  list_flag = λ p x k0. grind (arith, nat_tests, lists.list_flag p x);
  listed_held = λ p x k0 k1 k2 k3. grind (arith, nat_tests, lists.listed_held p x);
  listed_booked = λ p x k0 k1. grind (arith, nat_tests, lists.listed_booked p x);
  older_known = λ p x j k0 k1 k2 k3 k4. grind (arith, nat_tests, lists.older_known p x j);
  fenced_boot = λ p k0. grind (arith, nat_tests, lists.fenced_boot p);
  fenced_low = λ p k0. grind (arith, nat_tests, lists.fenced_low p);
}

fences_keeps_lists : (w : State) (v c : ℕ) → CanFence w c → Generations w → Texts w → Lists w → Lists (fences w v c)
fences_keeps_lists w v c can generations texts lists = record {
  list_flag = λ p x k0. grind (arith, nat_tests, lists.list_flag p x);
  listed_held = λ p x k0 k1 k2 k3. grind (arith, nat_tests, lists.listed_held p x);
  listed_booked = λ p x k0 k1. grind (arith, nat_tests, lists.listed_booked p x);
  older_known = λ p x j k0 k1 k2 k3 k4. grind (arith, nat_tests, lists.older_known p x j);
  fenced_boot = λ p k0. grind (arith, nat_tests, lists.fenced_boot p);
  fenced_low = λ p k0. grind (arith, nat_tests, lists.fenced_low p);
}

seals_keeps_lists : (w : State) (x text count : ℕ) (server : ℕ → ℕ) (content : ℕ) → CanSeal w x count server → Generations w → Texts w → Lists w
    → Lists (seals w x text count server content)
seals_keeps_lists w x text count server content can generations texts lists = record {
  list_flag = λ p x k0. grind (arith, nat_tests, lists.list_flag p x);
  listed_held = λ p x k0 k1 k2 k3. grind (arith, nat_tests, lists.listed_held p x);
  listed_booked = λ p x k0 k1. grind (arith, nat_tests, lists.listed_booked p x);
  older_known = λ p y j k0 k1 k2 k3 k4. grind (arith, nat_tests, lists.older_known p y j, lists.fenced_boot p k0);
  fenced_boot = λ p k0. grind (arith, nat_tests, lists.fenced_boot p);
  fenced_low = λ p k0. grind (arith, nat_tests, lists.fenced_low p);
}

restripes_keeps_lists : (w : State) (x text count : ℕ) (server : ℕ → ℕ) → CanRestripe w x count server → Generations w → Texts w → Lists w
    → Lists (restripes w x text count server)
restripes_keeps_lists w x text count server can generations texts lists = record {
  list_flag = λ p x k0. grind (arith, nat_tests, lists.list_flag p x);
  listed_held = λ p x k0 k1 k2 k3. grind (arith, nat_tests, lists.listed_held p x);
  listed_booked = λ p x k0 k1. grind (arith, nat_tests, lists.listed_booked p x);
  older_known = λ p y j k0 k1 k2 k3 k4. grind (arith, nat_tests, lists.older_known p y j, lists.fenced_boot p k0);
  fenced_boot = λ p k0. grind (arith, nat_tests, lists.fenced_boot p);
  fenced_low = λ p k0. grind (arith, nat_tests, lists.fenced_low p);
}

restarts_keeps_lists : (w : State) → CanRestart w → Generations w → Texts w → Lists w → Lists (restarts w)
restarts_keeps_lists w can generations texts lists = record {
  list_flag = λ p x k0. grind (arith, nat_tests, lists.list_flag p x);
  listed_held = λ p x k0 k1 k2 k3. grind (arith, nat_tests, lists.listed_held p x);
  listed_booked = λ p x k0 k1. grind (arith, nat_tests, lists.listed_booked p x);
  older_known = λ p x j k0 k1 k2 k3 k4. grind (arith, nat_tests, lists.older_known p x j);
  fenced_boot = λ p k0. grind (arith, nat_tests, lists.fenced_boot p);
  fenced_low = λ p k0. grind (arith, nat_tests, lists.fenced_low p);
}

begins_keeps_lists : (w : State) → CanBegin w → Generations w → Texts w → Lists w → Lists (begins w)
begins_keeps_lists w can generations texts lists = record {
  list_flag = λ p x k0. grind (arith, nat_tests, lists.list_flag p x);
  listed_held = λ p x k0 k1 k2 k3. grind (arith, nat_tests, lists.listed_held p x);
  listed_booked = λ p x k0 k1. grind (arith, nat_tests, lists.listed_booked p x);
  older_known = λ p x j k0 k1 k2 k3 k4. grind (arith, nat_tests, lists.older_known p x j);
  fenced_boot = λ p k0. grind (arith, nat_tests, lists.fenced_boot p);
  fenced_low = λ p k0. grind (arith, nat_tests, lists.fenced_low p);
}

opens_keeps_lists : (w : State) (x text count : ℕ) (server : ℕ → ℕ) → CanOpen w x count server → Generations w → Texts w → Lists w
    → Lists (opens w x text count server)
opens_keeps_lists w x text count server can generations texts lists = record {
  list_flag = λ p x k0. grind (arith, nat_tests, lists.list_flag p x);
  listed_held = λ p x k0 k1 k2 k3. grind (arith, nat_tests, lists.listed_held p x);
  listed_booked = λ p x k0 k1. grind (arith, nat_tests, lists.listed_booked p x);
  older_known = λ p y j k0 k1 k2 k3 k4. grind (arith, nat_tests, lists.older_known p y j, lists.fenced_boot p k0);
  fenced_boot = λ p k0. grind (arith, nat_tests, lists.fenced_boot p);
  fenced_low = λ p k0. grind (arith, nat_tests, lists.fenced_low p);
}

pub step_keeps_lists : (w u : State) → Step w u → Generations w → Texts w → Lists w → Lists u
step_keeps_lists w u (Deletes v x can) generations texts lists = grind (arith, nat_tests)
step_keeps_lists w u (Raises low can) generations texts lists = raises_keeps_lists w low can generations texts lists
step_keeps_lists w u (Fences v c can) generations texts lists = fences_keeps_lists w v c can generations texts lists
step_keeps_lists w u (Seals x text count server content can) generations texts lists =
    seals_keeps_lists w x text count server content can generations texts lists
step_keeps_lists w u (Restripes x text count server can) generations texts lists = restripes_keeps_lists w x text count server can generations texts lists
step_keeps_lists w u (Restarts can) generations texts lists = restarts_keeps_lists w can generations texts lists
step_keeps_lists w u (Begins can) generations texts lists = begins_keeps_lists w can generations texts lists
step_keeps_lists w u (Opens x text count server can) generations texts lists = opens_keeps_lists w x text count server can generations texts lists
step_keeps_lists w u step generations texts lists = grind (arith, nat_tests)

pub new_log_lists : (servers : ℕ) (seq_of incarnation_of attempt_of : ℕ → ℕ) → Lists (new_log servers seq_of incarnation_of attempt_of)
new_log_lists servers seq_of incarnation_of attempt_of = grind (arith, nat_tests)
