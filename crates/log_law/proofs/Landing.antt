-- A log that has a segment in flight has none only after it settled that one.
use Rattle.std.proofs.Common.{◌≡◌, cond, [], Some, None, refl}
use Rattle.xfs_base.specs.Steps.{still}
use Rattle.xfs_base.proofs.Booleans.{by_test}
use Rattle.log_flight.specs.declared.flight.Fate.{Fate}
use Rattle.log_flight.specs.declared.flight.Fate.TheVariants.{Restripe, Settle, Wait}
use Rattle.log_flight.specs.Fate.{fate_of}
use Rattle.log_flight.specs.Flights as flights
use Rattle.log_flight.specs.Flights.{FlightState}
use Rattle.client_log.specs.declared.input.In.{In as Input}
use Rattle.client_log.specs.declared.input.In.TheVariants as log_in
use Rattle.client_log.specs.History.{settled_ends}
use Rattle.client_log.specs.LogState.{LogState}
use Rattle.client_log.specs.Transition as log
use Rattle.log_law.specs.Net.{Net}
use Rattle.log_law.specs.Events.{CameToWriter}

-- nothing is in flight after it, and nothing was settled
abbrev Vanishes : log.Done → Type 0
Vanishes d = (d.state.flight ≡ None) × (settled_ends d.outs ≡ [])

module _ (s : LogState) (f : FlightState) (flies : s.flight ≡ Some f) where
  stays : Vanishes (still s) → ⊥
  stays v = let a = v.0 in cc

  follows : (t : LogState) (z : FlightState) (fate : Fate) → Vanishes (log.followed t z fate) → ⊥
  unfolding log.restriped log.log_launch log.settled
  follows t z Restripe v = let a = v.0 in cc
  follows t z Settle v = let a = v.1 in cc
  follows t z Wait v = let a = v.0 in cc

  looks : (t : LogState) (z : FlightState) → Vanishes (log.looked_at s t z) → ⊥
  unfolding log.looked_at
  looks t z = by_test (λ (d : log.Done). Vanishes d → ⊥) (log.can_follow t z (fate_of t.groups z)) (log.followed t z (fate_of t.groups z)) (still s)
      (λ can. follows t z (fate_of t.groups z)) (λ not. stays)

  pub stays_or_settles : (n : Net) (i : Input) → CameToWriter n i → Vanishes (log.transition s i) → ⊥
  unfolding log.on_acked log.on_maps log.on_tick
  stays_or_settles n (log_in.Put block entry value) came = absurd came
  stays_or_settles n (log_in.Parts items) came = absurd came
  stays_or_settles n log_in.Seal came = absurd came
  stays_or_settles n (log_in.Acked name index generation) came =
      elim s.flight as
      (λ o. s.flight ≡ o
      → Vanishes (elim o [ None ↦ still s | Some z ↦ cond (flights.is_of z name index generation) (log.looked_at s s (flights.flight_note z index)) (still s) ])
      → ⊥) [
        | None ↦ λ e. absurd cc
        | Some z ↦ λ e. by_test (λ (d : log.Done). Vanishes d → ⊥) (flights.is_of z name index generation) (log.looked_at s s (flights.flight_note z index))
            (still s)
            (λ own. looks s (flights.flight_note z index)) (λ other. stays)
      ] refl
  stays_or_settles n (log_in.Maps m) came =
      elim s.flight as
      (λ o. s.flight ≡ o → Vanishes (elim o [ None ↦ still (record s { groups = m }) | Some z ↦ log.looked_at s (record s { groups = m }) z ]) → ⊥) [
        | None ↦ λ e. absurd cc
        | Some z ↦ λ e. looks (record s { groups = m }) z
      ] refl
  stays_or_settles n log_in.Tick came =
      elim s.flight as (λ o. s.flight ≡ o → Vanishes (elim o [ None ↦ still s | Some z ↦ record { state = s; outs = log.sending_send z } ]) → ⊥) [
        | None ↦ λ e. absurd cc
        | Some z ↦ λ e v. let a = v.0 in cc
      ] refl
