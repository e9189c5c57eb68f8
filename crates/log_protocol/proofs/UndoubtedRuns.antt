-- A run in which each opening that serves is undoubted leaves the log clean.
use Rattle.std.proofs.Common.{◌≡◌, ℕ, refl, arith}
use Rattle.std.proofs.lemmas.Bool.Decides.{nat_tests}
use Rattle.log_protocol.specs.State.{State}
use Rattle.log_protocol.specs.OpeningSteps.{serves}
use Rattle.log_protocol.specs.Step.{Step, Steps}
use Rattle.log_protocol.specs.Step.Step.{Restarts, Serves}
use Rattle.log_protocol.specs.Step.Steps.{Done, More}
use Rattle.log_protocol.specs.LogLaws.{Reached}
use Rattle.log_protocol.specs.UndoubtedRuns.{SureStep, SureRun}

serves_clean : (w : State) (path : ℕ → ℕ) (lowest sure : ℕ) → sure ≡ 1 → w.clean ≡ 1 → (serves w path lowest sure).clean ≡ 1
serves_clean w path lowest sure holds clean = grind (arith, nat_tests)

step_clean : (w u : State) (step : Step w u) → SureStep step → w.clean ≡ 1 → u.clean ≡ 1
step_clean w u (Restarts can) holds clean = absurd holds
step_clean w u (Serves path lowest sure can) holds clean = serves_clean w path lowest sure holds clean
step_clean w u step holds clean = clean

run_clean : (w u : State) (run : Steps w u) → SureRun run → w.clean ≡ 1 → u.clean ≡ 1
run_clean w u Done holds clean = clean
run_clean w u (More {v = v} run step) holds clean = step_clean v u step holds.1 (run_clean w v run holds.0 clean)

pub sure_run_clean : (w : State) (reached : Reached w) → SureRun reached.run → w.clean ≡ 1
sure_run_clean w reached holds = run_clean _ w reached.run holds refl
