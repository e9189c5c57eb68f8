-- A call that waits for what is being read goes on waiting, with its reading.
use Rattle.std.proofs.Common.{◌≡◌, ℕ, suc, false, List, [], ◌++◌, Option, Some, None, refl, ap, ◌∙◌, append-nil}
use Rattle.client_call.specs.declared.call.Call.{Call}
use Rattle.client_call.specs.declared.call.Plan.TheVariants.{One}
use Rattle.client_running.specs.Blocks.{blocks_make}
use Rattle.client_running.specs.Running.{run, run_once, run_upto}
use Rattle.client_serving.specs.declared.serving.Serving.{Serving}
use Rattle.file_plan.specs.declared.block_call.BlockCall.{BlockCall}
use Rattle.node_base.specs.declared.effects.Effect.{Effect}
use Rattle.segment_reading.specs.Reading.{ReadingState}

-- a call of one call on blocks, with its reading
abbrev pub reading_call : BlockCall → Option ReadingState → Call
reading_call step r = record { plan = One; step = step; reading = r }

module _ (s : Serving) (step : BlockCall) (r : Option ReadingState) (is_open : s.call ≡ Some (reading_call step r)) (after : Serving) (outs : List Effect)
    (is : blocks_make (record s { call = None }) step ≡ record { done = record { state = after; outs = outs }; answer = None }) where
  abbrev pub kept : Serving
  kept = record after { call = Some (reading_call step r) }

  once_waits : run_once s ≡ record { done = record { state = kept; outs = outs ++ [] }; goes = false }
  unfolding run_once
  once_waits = rw (is_open, is) refl

  waits_upto : (n : ℕ) → run_upto (suc n) s ≡ record { state = kept; outs = outs ++ [] }
  unfolding run_upto
  waits_upto n = rw once_waits refl

  pub reading_waits : run s ≡ record { state = kept; outs = outs }
  unfolding run
  reading_waits = waits_upto 4095 ∙ ap (λ outs. record { state = kept; outs = outs }) (append-nil outs)
