-- A segment that is in flight anew: each member of its group is sent its fragment, and nothing else is done.
use Rattle.std.proofs.Common.{◌≡◌, ℕ, ◌+◌, false, cond, List, [], ◌∷◌, ◌++◌, map, refl, sym, ap, ◌∙◌, arith}
use Rattle.std.specs.Prelude.{flat_map}
use Rattle.std.specs.List.{list_any}
use Rattle.client_log.specs.declared.output.Out.{Out}
use Rattle.client_log.specs.declared.output.Out.TheVariants as log_out
use Rattle.client_log.specs.Transition as log
use Rattle.client_serving.specs.declared.serving.Serving.{Serving}
use Rattle.client_serving.specs.Flights as flights
use Rattle.client_serving.specs.Sends.{Done}
use Rattle.group_map.specs.declared.group.Member.{Member}
use Rattle.log_flight.specs.Flights.{FlightState, is_noted, none_noted}
use Rattle.log_flight.specs.Fragments.{flight_fragment}
use Rattle.log_owner.specs.Opening.{stored}
use Rattle.log_owner.specs.Sealing.{is_settling}
use Rattle.log_owner.specs.Sending.{store}
use Rattle.node_base.specs.declared.effects.Effect.{Effect}
use Rattle.node_base.specs.Effects.{acts_of, packets_of}
use Rattle.quiet_flow.specs.Flow.{unclocked}
use Rattle.xfs_base.specs.declared.node.NodeId.TheVariants.{Client}
use Rattle.xfs_base.specs.Steps.{saying, steps}
use Rattle.quiet_nodes.specs.Layers.{store_to, stores_to}
use Rattle.quiet_nodes.proofs.Notes.{none_are}
use Rattle.quiet_nodes.proofs.Tests.{not_lt_test}

module _ (f : FlightState) (anew : f.noted ≡ none_noted) where
  nobody_is : (place : ℕ) → is_noted f.noted place ≡ false
  nobody_is place = ap (λ noted. is_noted noted place) anew ∙ none_are.each place ∙ not_lt_test place 0 (omega arith)

  abbrev first : Member → ℕ → Out
  first m place = log_out.Send (flight_fragment f.segment f.group place) m

  -- each member is sent its fragment
  sends_next : (m : Member) (ms : List Member) (place : ℕ) → log.sends f (m ∷ ms) place ≡ first m place ∷ log.sends f ms (place + 1)
  sends_next m ms place = ap (λ t. cond t [] (first m place ∷ []) ++ log.sends f ms (place + 1)) (nobody_is place)

  module _ (c : ℕ) where
    pub packets_are : (ms : List Member) (place : ℕ) → packets_of (Client c) (flat_map stored (log.sends f ms place)) ≡ stores_to c f ms place
    packets_are [] place = refl
    packets_are (m ∷ ms) place =
        ap (λ outs. packets_of (Client c) (flat_map stored outs)) (sends_next m ms place) ∙ ap (λ ps. store_to c f m place ∷ ps) (packets_are ms (place + 1))

    pub acts_none : (ms : List Member) (place : ℕ) → acts_of (Client c) (flat_map stored (log.sends f ms place)) ≡ []
    acts_none [] place = refl
    acts_none (m ∷ ms) place = ap (λ outs. acts_of (Client c) (flat_map stored outs)) (sends_next m ms place) ∙ acts_none ms (place + 1)

    pub unclocked_are : (ms : List Member) (place : ℕ) → map unclocked (stores_to c f ms place) ≡ stores_to c f ms place
    unclocked_are [] place = refl
    unclocked_are (m ∷ ms) place = ap (λ ps. store_to c f m place ∷ ps) (unclocked_are ms (place + 1))

  -- ---- what is sent is written, and settles nothing

  pub none_settles : (ms : List Member) (place : ℕ) → list_any is_settling (log.sends f ms place) ≡ false
  none_settles [] place = refl
  none_settles (m ∷ ms) place = ap (list_any is_settling) (sends_next m ms place) ∙ none_settles ms (place + 1)

  pub sends_written : (s : Serving) (ms : List Member) (place : ℕ)
      → steps flights.write_one s (log.sends f ms place) ≡ record { state = s; outs = flat_map stored (log.sends f ms place) }
  unfolding flights.write_one
  sends_written s [] place = refl
  sends_written s (m ∷ ms) place =
      ap (steps flights.write_one s) (sends_next m ms place)
      ∙ ap (saying (store (flight_fragment f.segment f.group place) m ∷ [])) (sends_written s ms (place + 1))
      ∙ ap (λ outs. with_outs (flat_map stored outs)) (sym (sends_next m ms place))
    where
      with_outs : List Effect → Done
      with_outs outs = record { state = s; outs = outs }
