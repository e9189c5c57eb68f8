-- What was reached is reached later; and what a horizon of slots comes to.
use Rattle.std.proofs.Common.{◌≡◌, ℕ, zero, suc, ◌+◌, ◌-◌, ◌≤◌, List, [], ◌∷◌, Option, Some, None, subst, arith}
use Rattle.std.specs.Prelude.{length, unwrap_or, slice_get}
use Rattle.log_scan.specs.Transition.{horizon_of, least_horizon}
use Rattle.manager_serving.specs.Serving.{fed_log}
use Rattle.wire_msg.specs.declared.body.Body.{Body}
use Rattle.wire_msg.specs.declared.body.Body.TheVariants as body
use Rattle.wire_msg.specs.declared.packet.Do.{Do}
use Rattle.wire_msg.specs.declared.packet.Do.TheVariants.{Begin, Deliver, Tick}
use Rattle.xfs_base.specs.declared.news.SlotNews.{SlotNews}
use Rattle.xfs_base.specs.declared.node.NodeId.{NodeId}
use Rattle.xfs_base.specs.declared.segment.LogId.{LogId}
use Rattle.node_tellings.specs.filed_tie.Reach.{Reach, Rises, NumbersUpto, AppliedReaches, HorizonReaches, SlotReaches, SlotsReach, LogReaches, BodyTells, DoTells}

-- ---- it rises

numbers_rise : (limit more : Reach) → Rises limit more → (log : ℕ) (numbers : List ℕ) → NumbersUpto limit log numbers → NumbersUpto more log numbers
numbers_rise limit more rises log [] all = tt
numbers_rise limit more rises log (number ∷ numbers) all =
    (let a = all.0 in let b = rises log in omega (arith, a, b), numbers_rise limit more rises (suc log) numbers all.1)

module _ (reach later : Reach) (rises : Rises reach later) where
  pub applied_rises : (applied : List ℕ) → AppliedReaches reach applied → AppliedReaches later applied
  applied_rises applied all = numbers_rise reach later rises 1 applied all

  pub horizon_rises : (horizon : List ℕ) → HorizonReaches reach horizon → HorizonReaches later horizon
  horizon_rises horizon all = numbers_rise (λ log. suc (reach log)) (λ log. suc (later log)) (λ log. (let a = rises log in omega (arith, a))) 1 horizon all

  pub slots_rise : (slots : List SlotNews) → SlotsReach reach slots → SlotsReach later slots
  slots_rise [] all = tt
  slots_rise (slot ∷ slots) all = (horizon_rises slot.horizon all.0, slots_rise slots all.1)

  pub log_rises : (log : Option LogId) (number : ℕ) → LogReaches reach log number → LogReaches later log number
  log_rises None number h = tt
  log_rises (Some log) number h = (let a = rises log.0 in omega (arith, a, h))

  pub body_rises : (from : NodeId) (b : Body) → BodyTells reach from b → BodyTells later from b
  body_rises from (body.Deltas m) h = log_rises (fed_log from) _ h
  body_rises from (body.Report m) h = log_rises (fed_log from) _ h
  body_rises from (body.CkptDone m) h = horizon_rises m.horizon h
  body_rises from (body.MapNews m) h = slots_rise m.slots h
  body_rises from (body.Welcome m) h = slots_rise m.news.slots h
  body_rises from _ h = tt

  pub do_rises : (what : Do) → DoTells reach what → DoTells later what
  do_rises Begin h = tt
  do_rises (Deliver packet) h = body_rises packet.from packet.body h
  do_rises Tick h = tt

-- ---- horizons

module _ (reach : Reach) where
  at_place : (first place log : ℕ) (horizon : List ℕ) → log ≡ first + place → NumbersUpto (λ l. suc (reach l)) first horizon
      → unwrap_or (slice_get horizon place) 1 ≤ suc (reach log)
  at_place first place log [] fact all = omega arith
  at_place first zero log (number ∷ numbers) fact all = subst (λ l. number ≤ suc (reach l)) (omega (arith, fact)) all.0
  at_place first (suc place) log (number ∷ numbers) fact all = at_place (suc first) place log numbers (omega (arith, fact)) all.1

  -- of a log, a slot's horizon is above nothing but what was filed
  pub horizon_low : (log : ℕ) (slot : SlotNews) → 1 ≤ log → SlotReaches reach slot → horizon_of log slot ≤ suc (reach log)
  horizon_low log slot some all = at_place 1 (log - 1) log slot.horizon (omega (arith, some)) all

  -- and so is the least one of some slots
  pub least_low : (log : ℕ) (slots : List SlotNews) → 1 ≤ log → 1 ≤ length slots → SlotsReach reach slots → least_horizon log slots ≤ suc (reach log)
  least_low log [] some more all = absurd (omega (arith, more))
  least_low log (slot ∷ slots) some more all = (let low = horizon_low log slot some all.0 in omega (arith, low))
