-- What only grows, kept by each step, and so from one moment of a run to any later one.
use Rattle.std.proofs.Common.{ℕ, true, ◌∙◌, arith}
use Rattle.std.proofs.lemmas.Bool.{true≢false}
use Rattle.std.proofs.lemmas.Bool.Decides.{nat_tests}
use Rattle.token_protocol.specs.World.{World, start}
use Rattle.token_protocol.specs.Growth.{Grows}
use Rattle.token_protocol.specs.Step.{Step, Steps}
use Rattle.token_protocol.specs.Step.Step.{WritesFirst, Writes, Applies, RestartsAdopting, RestartsDiscarding, Promises, Activates, Loses}
use Rattle.token_protocol.specs.Step.Steps.{Done, More}
use Rattle.token_protocol.proofs.Invariant.{Invariant, keeps, always}

-- Each step.
grows_step : (w v : World) → Step true w v → Invariant w → Grows w v
grows_step w v (WritesFirst taken value h) i = grind (arith, nat_tests, i.content.versions.join_newest)
grows_step w v (Writes who value h) i = grind (arith, nat_tests, i.content.versions.join_newest)
grows_step w v (Applies who upto e h k) i = grind (arith, nat_tests)
grows_step w v (RestartsAdopting who incarnation promised h k) i = grind (
  arith,
  nat_tests,
  i.content.writers.pinned_join,
  i.content.versions.fallen_low who,
  i.content.versions.fallen_high who,
)
grows_step w v (RestartsDiscarding who incarnation promised h) i = grind (
  arith,
  nat_tests,
  i.content.writers.pinned_join,
  i.content.versions.fallen_low who,
  i.content.versions.fallen_high who,
)
grows_step w v (Promises who epoch h) i = grind (arith, nat_tests)
grows_step w v (Activates epoch report applied e h k) i = grind (arith, nat_tests)
grows_step w v (Loses x h) i = absurd (true≢false h)
grows_step w v step i = grind (arith, nat_tests)

same : (w : World) → Grows w w
same w = grind arith

onward : (w v u : World) → Grows w v → Grows v u → Grows w u
onward w v u g h = record {
  members = h.members ∙ g.members;
  epoch = grind (arith, g.epoch, h.epoch);
  promised = λ c. grind (arith, g.promised c, h.promised c);
  incarnation = λ c. grind (arith, g.incarnation c, h.incarnation c);
  end = λ c. grind (arith, g.end c, h.end c);
  rows = λ c q k. h.rows c q (grind (arith, g.end c)) ∙ g.rows c q k;
  join = grind (arith, g.join, h.join);
  value = λ n k. h.value n (grind (arith, g.join)) ∙ g.value n k;
  pinned = grind (arith, g.pinned, h.pinned);
  turn = λ k. grind (arith, g.epoch, h.epoch, g.turn, h.turn);
  applied = λ k c. grind (arith, g.epoch, h.epoch, g.applied (grind (arith, g.epoch, h.epoch)) c, h.applied (grind (arith, g.epoch, h.epoch)) c);
  index = λ k. grind (arith, g.epoch, h.epoch, g.index, h.index);
  wants = λ p k. h.wants p (g.wants p k);
  reports = λ y k. h.reports y (g.reports y k);
  offers = λ e p k. h.offers (grind (arith, g.epoch, h.epoch)) p (g.offers (grind (arith, g.epoch, h.epoch)) p k);
  recalls = λ e p k. h.recalls (grind (arith, g.epoch, h.epoch)) p (g.recalls (grind (arith, g.epoch, h.epoch)) p k);
  gaves = λ e p k. h.gaves (grind (arith, g.epoch, h.epoch)) p (g.gaves (grind (arith, g.epoch, h.epoch)) p k);
}

-- Any list of steps from a moment at which the invariant holds.
grows_steps : (w v : World) → Steps true w v → Invariant w → Grows w v × Invariant v
grows_steps w v Done i = (same w, i)
grows_steps w v (More {v = x} steps step) i =
    let before = grows_steps w x steps i in
    (onward w x v before.0 (grows_step x v step before.1), keeps x v step before.1)

pub grows : (n : ℕ) (w v : World) → Steps true (start n) w → Steps true w v → Grows w v
grows n w v reached steps = (grows_steps w v steps (always n w reached)).0
