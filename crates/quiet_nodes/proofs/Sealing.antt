-- A sync where something waits: what waits first is sealed, and each member of the group is sent its fragment.
use Rattle.std.proofs.Common.{◌≡◌, ℕ, ◌+◌, ◌<◌, true, nat_lt, List, [], ◌++◌, drop, take, length, Some, None, refl, ap, ◌∙◌}
use Rattle.std.specs.Prelude.{flat_map, slice_get}
use Rattle.client_running.specs.Blocks.{blocks_make, blocks_sync}
use Rattle.client_log.specs.Transition as log
use Rattle.client_node.specs.Phases.{client_step, serves_on, stepped}
use Rattle.client_call.specs.Calls.{call_new}
use Rattle.client_call.specs.declared.call.Plan.TheVariants.{One}
use Rattle.log_owner.specs.Opening.{stored}
use Rattle.client_serving.specs.Follow.{serving_seal}
use Rattle.file_plan.specs.declared.block_call.BlockCall.TheVariants.{Sync}
use Rattle.log_flight.specs.Flights.{FlightState, flown, group_for}
use Rattle.log_flight.specs.Items.{items_of}
use Rattle.node_base.specs.declared.effects.Effect.{Effect}
use Rattle.node_base.specs.Effects.{acts_of, packets_of}
use Rattle.version_model.specs.declared.work.Work.{Work}
use Rattle.version_model.specs.declared.work.Work.TheVariants as work
use Rattle.wire_msg.specs.declared.packet.Do.TheVariants.{Begin}
use Rattle.xfs_base.specs.declared.node.NodeId.{NodeId}
use Rattle.xfs_base.specs.declared.node.NodeId.TheVariants.{Client}
use Rattle.xfs_base.specs.declared.setup.Setup.{Setup}
use Rattle.xfs_base.specs.Limits.{u32_end}
use Rattle.quiet_nodes.specs.Scene.{ClientPart, client_at, its_groups, log_at, serving_at}
use Rattle.quiet_nodes.proofs.Begins.{HasRoom, begin_steps, opened}
use Rattle.quiet_nodes.proofs.Running.{runs_waits}

module _ (setup : Setup) (works : NodeId → List Work) (c : ℕ) (q : ClientPart) where
  -- what is in flight once what waits is sealed
  abbrev pub its_flight : FlightState
  its_flight = flown (log.next_name (log_at setup works c q)) (log.prior_from q.end) (items_of 0 (take 24 q.dirty))
      (group_for (its_groups setup works) c (q.end.seq + 1))

  abbrev pub sealed_part : ClientPart
  sealed_part = record q { dirty = drop 24 q.dirty; flight = Some its_flight }

  -- a fragment to each member
  abbrev pub stores : List Effect
  stores = flat_map stored (log.sending_send its_flight)

  module _ (lands : q.flight ≡ None) (some : nat_lt 0 (length q.dirty) ≡ true) (next : log.has_next q.end.seq ≡ true) where
    log_seals : log.on_seal (log_at setup works c q) ≡ record { state = log_at setup works c sealed_part; outs = log.sending_send its_flight }
    unfolding log.on_seal log.log_seal log.log_launch
    log_seals = rw (lands, some, next) refl

    pub serving_seal_so : serving_seal (serving_at setup works c q) ≡ record { state = serving_at setup works c sealed_part; outs = stores }
    unfolding serving_seal
    serving_seal_so = rw log_seals refl

module _ (setup : Setup) (works : NodeId → List Work) (c : ℕ) (p : ClientPart) (h : HasRoom setup works c p) (left : p.begun < length (works (Client c)))
    (few : p.begun < u32_end) (next : slice_get (works (Client c)) p.begun ≡ Some (work.Sync c)) (idle : p.item ≡ None) (lands : p.flight ≡ None)
    (some : nat_lt 0 (length p.dirty) ≡ true) (more : log.has_next p.end.seq ≡ true) where
  abbrev mid : ClientPart
  mid = opened setup works c p (call_new One Sync)

  abbrev before : ClientPart
  before = record mid { call = None }

  sync_makes : blocks_make (serving_at setup works c before) Sync ≡ record {
    done = record { state = serving_at setup works c (sealed_part setup works c before); outs = stores setup works c before ++ [] };
    answer = None;
  }
  unfolding blocks_make blocks_sync
  sync_makes = rw (serving_seal_so setup works c before lands some more) refl

  -- the client then: the sync waits
  abbrev pub sync_sealed : ClientPart
  sync_sealed = sealed_part setup works c mid

  pub sync_begins : client_step (client_at setup works c p) Begin ≡ record {
    node = client_at setup works c sync_sealed;
    packets = packets_of (Client c) (stores setup works c p ++ []);
    acts = acts_of (Client c) (stores setup works c p ++ []);
  }
  sync_begins =
      begin_steps setup works c p (work.Sync c) (call_new One Sync) h left few next idle (λ s n. refl) refl
      ∙ ap (λ d. stepped (client_at setup works c p) (serves_on d))
      (runs_waits (serving_at setup works c mid) Sync refl (serving_at setup works c (sealed_part setup works c before)) (stores setup works c before ++ []) sync_makes)
