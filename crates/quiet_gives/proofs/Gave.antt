-- The word of a client that it gave a block up comes to the block's manager: where others are still awaited it is noted, and the last one's answers the want.
use Rattle.std.proofs.Common.{◌≡◌, ℕ, ◌<◌, ◌==◌, ◌&&◌, Bool, true, false, cond, not, List, [], ◌∷◌, Some, None, ap, ◌∙◌}
use Rattle.std.specs.Prelude.{flat_map}
use Rattle.std.specs.declared.cmp.Ordering.TheVariants.{Equal}
use Rattle.std.specs.List.{list_any}
use Rattle.std.specs.BTreeMap.{insert_entry}
use Rattle.std.specs.Ordering.{is_eq, match_ordering}
use Rattle.std.proofs.lemmas.Cmp.{tied_itself}
use Rattle.manager_node.specs.declared.phase.Phase.TheVariants as managing
use Rattle.manager_node.specs.Events.{manager_step, manager_deliver}
use Rattle.manager_node.specs.Phases.{phase_has_room, serves}
use Rattle.manager_slots.specs.Slots.{managed}
use Rattle.manager_slots.specs.SlotTable as table
use Rattle.manager_slots.specs.SlotTable.{at_slot}
use Rattle.manager_slots.specs.Tokens as tokens
use Rattle.manager_slots.specs.Tokens.{tokens_say}
use Rattle.manager_serving.specs.declared.serving.Serving.{Serving}
use Rattle.manager_serving.specs.Serving as serving
use Rattle.manager_serving.specs.Serving.{with_slots}
use Rattle.node_base.specs.Effects.{acts_of, packets_of}
use Rattle.node_base.specs.Nodes.{has_node, peers_of}
use Rattle.node_base.specs.Shape.{is_well_formed}
use Rattle.slot_beliefs.specs.Beliefs.{give_way, holder}
use Rattle.slot_beliefs.specs.declared.job.Awaited.{Awaited}
use Rattle.slot_beliefs.specs.declared.job.Holder.{Holder}
use Rattle.slot_beliefs.specs.declared.job.Wanted.{Wanted}
use Rattle.slot_beliefs.specs.declared.job.Job.{Job}
use Rattle.slot_beliefs.specs.Recalls.{answers, is_ready, job_at, noted, without_job}
use Rattle.token_manager.specs.declared.input.In.TheVariants as input
use Rattle.token_manager.specs.declared.output.Out.{Out}
use Rattle.token_manager.specs.SlotState.{SlotState}
use Rattle.token_manager.specs.Transition.{slot_finish, gave_job, gave_last, gave_noted, gave_one, given, has_turns, transition}
use Rattle.version_model.specs.declared.work.Work.{Work}
use Rattle.wire_msg.specs.declared.body.Body.TheVariants as body
use Rattle.wire_msg.specs.declared.packet.Do.TheVariants.{Deliver}
use Rattle.wire_msg.specs.declared.packet.Packet.{Packet}
use Rattle.wire_msg.specs.declared.tokens.Gave.{Gave}
use Rattle.xfs_base.proofs.BlockOrder.{block_cmp_total}
use Rattle.xfs_base.specs.Blocks.{block_cmp, slot_of}
use Rattle.xfs_base.specs.declared.node.NodeId.{NodeId}
use Rattle.xfs_base.specs.declared.node.NodeId.TheVariants.{Client, Manager}
use Rattle.xfs_base.specs.declared.setup.Setup.{Setup}
use Rattle.xfs_base.specs.declared.token.Stamp.{Stamp}
use Rattle.xfs_base.specs.Modes.{is_own}
use Rattle.xfs_base.specs.Steps.{Stepped, still}
use Rattle.quiet_gives.specs.Recalls.{waiting_slot}
use Rattle.quiet_nodes.specs.Scene.{manager_at, manager_of_slot, managing_at, put_number}
use Rattle.quiet_nodes.proofs.Managing.{slot_comes}

-- ---- the slot

module _ (z : SlotState) (want : Wanted) (awaited : List Awaited) (beliefs : List (Holder × Bool)) (d : ℕ) (st : Stamp) (end : ℕ)
    (its : list_any (answers d st) awaited ≡ true) where
  tied : block_cmp want.block want.block ≡ Equal
  tied = tied_itself block_cmp_total want.block

  abbrev now : SlotState
  now = waiting_slot z want awaited beliefs

  abbrev after : List Awaited
  after = noted awaited d st end

  -- what is believed then
  abbrev pub given_then : List (Holder × Bool)
  given_then = give_way beliefs (holder want.block d) (not (is_own want.mode))

  abbrev waits : List Awaited → Job
  waits xs = record { want = want; awaited = xs }

  there : job_at now.jobs want.block ≡ Some (waits awaited)
  there = ap (λ o. cond (is_eq o) (Some (waits awaited)) None) tied

  put_again : insert_entry block_cmp now.jobs want.block (waits after) ≡ (want.block, waits after) ∷ []
  put_again =
      ap (λ o. match_ordering o ((want.block, waits after) ∷ (want.block, waits awaited) ∷ []) ((want.block, waits after) ∷ [])
      ((want.block, waits awaited) ∷ (want.block, waits after) ∷ [])) tied

  gone : without_job now.jobs want.block ≡ []
  gone = ap (λ o. cond (is_eq o) [] ((want.block, waits awaited) ∷ [])) tied

  its_job : transition now (input.Gave d want.block st end) ≡ gave_noted now d want.block want after
  its_job = ap (gave_job now d want.block st end) there ∙ ap (λ t. cond t (gave_noted now d want.block want after) (still now)) its

  pub one_gave : is_ready z.applied after ≡ false → transition now (input.Gave d want.block st end) ≡ still (waiting_slot z want after given_then)
  unfolding gave_noted
  one_gave more =
      its_job
      ∙ ap (λ t. cond t (gave_last now d want.block want) (still (gave_one now d want.block want after))) more
      ∙ ap (λ js. still (record (given now want d want.block) { jobs = js })) put_again

  -- the want is answered
  abbrev pub answering : SlotState
  answering = record z { beliefs = given_then; jobs = [] }

  pub last_gave : is_ready z.applied after ≡ true → has_turns z.turn 1 ≡ true → transition now (input.Gave d want.block st end) ≡ slot_finish answering want
  unfolding gave_noted
  last_gave all room =
      its_job
      ∙ ap (λ t. cond t (gave_last now d want.block want) (still (gave_one now d want.block want after))) all
      ∙ ap (λ t. cond t (slot_finish (record (given now want d want.block) { jobs = without_job now.jobs want.block }) want) (still now)) room
      ∙ ap (λ js. slot_finish (record (given now want d want.block) { jobs = js }) want) gone

-- ---- its manager

module _ (setup : Setup) (works : NodeId → List Work) (j c clock : ℕ) (slots : ℕ → SlotState) (m : Gave) (within : slot_of m.block.ino.0 < 8)
    (own : (manager_of_slot setup works (slot_of m.block.ino.0) == j) ≡ true) (has_room : phase_has_room (manager_at setup works j slots).phase ≡ true)
    (there : has_node (peers_of setup) (Client c) ≡ true) where
  abbrev i : ℕ
  i = slot_of m.block.ino.0

  abbrev packet : Packet
  packet = record { from = Client c; to = Manager j; clock = clock; body = body.Gave m }

  abbrev serves_now : Serving
  serves_now = managing_at setup works j slots

  well_formed : is_well_formed (peers_of setup) packet ≡ true
  well_formed = ap (λ t. t && true) there

  deliver_is : manager_deliver (peers_of setup) (managing.Serving serves_now) packet
      ≡ serves (with_slots serves_now (at_slot serves_now.slots i (λ p. tokens.on_gave p c m)))
  unfolding manager_deliver serving.serving_hear serving.on_gave table.on_gave
  deliver_is = ap (λ t. cond t (serves (serving.serving_hear serves_now setup.clients packet)) (still (managing.Serving serves_now))) well_formed

  module _ (z : SlotState) (outs : List Out) (is : transition (slots i) (input.Gave c m.block m.stamp m.end) ≡ record { state = z; outs = outs }) where
    slot_is : tokens.on_gave (managed (slots i)) c m ≡ record { state = managed z; outs = flat_map (tokens_say i (slots i).epoch) outs }
    unfolding tokens.tokens_take
    slot_is = ap (λ (d : Stepped SlotState Out). record { state = managed d.state; outs = flat_map (tokens_say i (slots i).epoch) d.outs }) is

    pub gave_comes : manager_step (manager_at setup works j slots) (Deliver packet) ≡ record {
      node = manager_at setup works j (put_number slots i z);
      packets = packets_of (Manager j) (flat_map (tokens_say i (slots i).epoch) outs);
      acts = acts_of (Manager j) (flat_map (tokens_say i (slots i).epoch) outs);
    }
    gave_comes =
        slot_comes setup works j i slots within own packet (λ p. tokens.on_gave p c m) z (flat_map (tokens_say i (slots i).epoch) outs) has_room deliver_is slot_is
