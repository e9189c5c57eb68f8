-- A block that may be written is written, and as many wait then as fill a segment: it is sealed in the same event.
use Rattle.std.proofs.Common.{◌≡◌, ℕ, ◌+◌, Bool, true, nat_le, List, [], ◌∷◌, ◌++◌, length, Option, Some, None, refl, ap, ◌∙◌}
use Rattle.std.specs.Prelude.{flat_map}
use Rattle.std.specs.List.{list_any}
use Rattle.client_call.specs.Fitting.{put_fits}
use Rattle.client_log.specs.declared.input.In.TheVariants as log_in
use Rattle.client_log.specs.LogState.{LogState}
use Rattle.client_log.specs.Transition as log
use Rattle.client_running.specs.Blocks.{Made, blocks_make, put_of}
use Rattle.client_serving.specs.declared.serving.Serving.{Serving}
use Rattle.client_serving.specs.Flights as flights
use Rattle.client_serving.specs.Flights.{held_at}
use Rattle.client_serving.specs.Sends.{Done}
use Rattle.file_plan.specs.declared.block_call.BlockAnswer.TheVariants as block
use Rattle.file_plan.specs.declared.block_call.BlockCall.TheVariants.{Put}
use Rattle.log_flight.specs.declared.dirty.Change.{Change}
use Rattle.log_flight.specs.Flights.{FlightState}
use Rattle.log_owner.specs.Opening.{stored}
use Rattle.log_owner.specs.Sealing.{is_settling}
use Rattle.node_base.specs.declared.effects.Effect.{Effect}
use Rattle.node_base.specs.declared.effects.Effect.TheVariants.{Does}
use Rattle.token_client.specs.declared.held.Held.{Held}
use Rattle.token_client.specs.Held.{may_write}
use Rattle.version_model.specs.declared.act.Act.TheVariants as acts
use Rattle.version_model.specs.declared.work.Work.{Work}
use Rattle.xfs_base.specs.declared.block.BlockId.{BlockId}
use Rattle.xfs_base.specs.declared.node.NodeId.{NodeId}
use Rattle.xfs_base.specs.declared.setup.Setup.{Setup}
use Rattle.xfs_base.specs.Steps.{saying, steps}
use Rattle.quiet_nodes.specs.Scene.{ClientPart, log_at, serving_at}
use Rattle.quiet_nodes.proofs.Puts as putting
use Rattle.quiet_nodes.proofs.Puts.{put_part, waiting_then}
use Rattle.quiet_nodes.proofs.Sealing.{its_flight, sealed_part, stores}
use Rattle.quiet_nodes.proofs.Sends.{none_settles, sends_written}

module _ (setup : Setup) (works : NodeId → List Work) (c : ℕ) (q : ClientPart) (b : BlockId) (value : Option (List ℕ)) where
  abbrev its_held : Held
  its_held = putting.its_held setup works c q b value

  abbrev before : Serving
  before = putting.before setup works c q b value

  -- the client once it is written and waits, and once that is sealed
  abbrev waiting : ClientPart
  waiting = put_part q b value

  abbrev pub filled_part : ClientPart
  filled_part = sealed_part setup works c waiting

  abbrev flight : FlightState
  flight = its_flight setup works c waiting

  abbrev pub fills : List Effect
  fills = Does (acts.Wrote c b value) ∷ stores setup works c waiting

  module _ (may : may_write its_held ≡ true) (fits : put_fits b (its_held.ver + 1) value ≡ true) (lands : q.flight ≡ None)
      (full : nat_le 24 (length (waiting_then q b value)) ≡ true) (next : log.has_next q.end.seq ≡ true) where
    abbrev change : Change
    change = record { entry = record { ver = its_held.ver + 1; hop = 0; place = None }; value = value }

    abbrev now : Serving
    now = putting.now setup works c q b value

    abbrev now_log : LogState
    now_log = log_at setup works c q

    log_fills : log.on_put now_log b change ≡ record { state = log_at setup works c filled_part; outs = log.sending_send flight }
    unfolding log.on_put log.log_go_on log.log_seal log.log_launch
    log_fills = rw (lands, full, next) refl

    abbrev following : log.Done → Done
    following r = (let d = steps flights.write_one (record now { log = r.state }) r.outs in saying d.outs (flights.seals_again d.state (list_any is_settling r.outs)))

    abbrev ending : Done → Bool → Done
    ending d settling = saying d.outs (flights.seals_again d.state settling)

    fills_writes : flights.serving_write now (log_in.Put b (record { ver = its_held.ver + 1; hop = 0; place = None }) value)
        ≡ record { state = serving_at setup works c filled_part; outs = stores setup works c waiting ++ [] }
    unfolding flights.serving_write log.sending_send
    fills_writes =
        ap following log_fills
        ∙ ap (λ d. ending d (list_any is_settling (log.sends flight flight.group.members 0)))
        (sends_written flight refl (serving_at setup works c filled_part) flight.group.members 0)
        ∙ ap (ending (record { state = serving_at setup works c filled_part; outs = flat_map stored (log.sends flight flight.group.members 0) }))
        (none_settles flight refl flight.group.members 0)

    fills_is : put_of now b value ≡ record { state = serving_at setup works c filled_part; outs = stores setup works c waiting ++ [] }
    fills_is =
        ap (λ v. flights.serving_write now (log_in.Put b (record { ver = v; hop = 0; place = None }) value)) (ap (λ (h : Held). h.ver) (putting.itself setup works c q b value))
        ∙ fills_writes

    abbrev made : Done → ℕ → Made
    made = putting.made setup works c q b value

    pub put_fills : blocks_make before (Put b value) ≡ record {
      done = record { state = serving_at setup works c filled_part; outs = fills ++ [] };
      answer = Some (block.Put (its_held.ver + 1));
    }
    put_fills =
        putting.puts_is setup works c q b value may fits
        ∙ putting.changes_are setup works c q b value
        ∙ ap (putting.changing setup works c q b value) (putting.wrote_is setup works c q b value may)
        ∙ ap (λ (d : Done). made (record { state = d.state; outs = Does (acts.Wrote c b value) ∷ d.outs }) (held_at now b).ver) fills_is
        ∙ ap (λ (h : Held). made (record { state = serving_at setup works c filled_part; outs = fills ++ [] }) h.ver) (putting.itself setup works c q b value)
