-- What a settled segment tells comes to the manager of each slot, which merges it and acknowledges it, while a want may wait there for an answer that hasn't come.
use Rattle.std.proofs.Common.{◌≡◌, ℕ, zero, suc, ◌+◌, ◌^◌, ◌≤◌, ◌<◌, ◌&&◌, true, false, cond, nat_lt, nat_le, List, [], ◌∷◌, length, map, refl, ap, subst, ◌∙◌, arith}
use Rattle.std.specs.List.{list_all}
use Rattle.std.proofs.lemmas.Bool.Decides.{nat_tests}
use Rattle.manager_node.specs.declared.manager.Manager.{Manager as ManagerNode}
use Rattle.manager_node.specs.Events.{manager_step}
use Rattle.manager_slots.specs.Tokens.{tokens_say}
use Rattle.node_base.specs.Known.{knows_entry}
use Rattle.node_base.specs.Maps.{maps_start}
use Rattle.node_base.specs.Nodes.{has_node, peers_of}
use Rattle.node_base.specs.Room.{has_long_room}
use Rattle.node_base.specs.Shape.{is_entry, is_well_formed}
use Rattle.slot_beliefs.specs.declared.job.Job.{Job}
use Rattle.slot_beliefs.specs.Index.{has_room}
use Rattle.slot_beliefs.specs.Recalls.{applied_of, applied_upto, is_followed, ready_blocks}
use Rattle.token_manager.specs.declared.input.In.TheVariants as input
use Rattle.token_manager.specs.declared.output.Out.TheVariants as out
use Rattle.token_manager.specs.SlotState.{SlotState}
use Rattle.token_manager.specs.Transition.{can_apply, has_turns, joins_on, transition, with_deltas}
use Rattle.version_model.specs.declared.act.Act.{Act}
use Rattle.version_model.specs.declared.work.Work.{Work}
use Rattle.wire_msg.specs.declared.body.Body.TheVariants as body
use Rattle.wire_msg.specs.declared.deltas.Deltas.{Deltas}
use Rattle.wire_msg.specs.declared.packet.Do.TheVariants.{Deliver}
use Rattle.wire_msg.specs.declared.packet.Packet.{Packet}
use Rattle.wire_msg.specs.NodeStep.{NodeStep}
use Rattle.xfs_base.specs.declared.block.BlockId.{BlockId}
use Rattle.xfs_base.specs.declared.entry.Entry.{Entry}
use Rattle.xfs_base.specs.declared.node.NodeId.{NodeId}
use Rattle.xfs_base.specs.declared.node.NodeId.TheVariants.{Cleaner, Client, Manager}
use Rattle.xfs_base.specs.declared.setup.Setup.{Setup}
use Rattle.xfs_base.specs.Limits.{all_slots, block_logs}
use Rattle.xfs_base.specs.Logs.{block_writer}
use Rattle.quiet_nodes.specs.Layers.{ack_by, deltas_to}
use Rattle.quiet_nodes.specs.Moves.{Moves}
use Rattle.quiet_nodes.specs.Scene.{Scene, its_groups, manager_at, manager_of_slot, put_number, with_slot}
use Rattle.quiet_nodes.proofs.Moving.{moves_none}
use Rattle.quiet_nodes.proofs.Rooms.{HaveTurns, HasTurns, manager_room, turns_put}
use Rattle.quiet_nodes.proofs.Telling.{deltas_come, deltas_merge}
use Rattle.quiet_nodes.proofs.Tests.{and_none, le_test, lt_test, not_lt_test, other_test, same_test}
use Rattle.quiet_nodes.proofs.Turns.{slot_takes}

-- rows that managers take: each place is of a log and a group that there are, and no version is near its end
pub record AreTaken (setup : Setup) (works : NodeId → List Work) (rows : List (BlockId × Entry)) : Type 0 where
  pub of_logs : list_all (λ (row : BlockId × Entry). is_entry row.1.place) rows ≡ true
  pub known : list_all (λ (row : BlockId × Entry). knows_entry (maps_start (its_groups setup works)) row.1.place) rows ≡ true
  pub low : list_all (λ (row : BlockId × Entry). has_long_room row.1.ver) rows ≡ true

-- whatever is applied, no want that waits is answered
abbrev pub NoneReady : List (BlockId × Job) → Type 0
NoneReady jobs = (applied : List ℕ) → ready_blocks jobs applied ≡ []

-- a slot that takes the deltas of the next segment of a log: no want is answered by that, all before is applied, and counts can rise
pub record TakesNext (c seq : ℕ) (z : SlotState) (rows : List (BlockId × Entry)) : Type 0 where
  pub turns : HasTurns z
  pub waits : NoneReady z.jobs
  pub applied : applied_of z.applied c + 1 ≡ seq
  pub rises : has_room (length rows) z.index.usage rows ≡ true

module _ (setup : Setup) (works : NodeId → List Work) (c seq : ℕ) (least : 1 ≤ c) (most : c ≤ 8) (there : has_node (peers_of setup) (Client c) ≡ true)
    (managers : (i : ℕ) → i < 8 → has_node (peers_of setup) (Manager (manager_of_slot setup works i)) ≡ true) where
  abbrev pub told : SlotState → List (BlockId × Entry) → SlotState
  told z rows = with_deltas z (record { 0 = c }) seq rows

  pub followed : is_followed (record { 0 = c }) ≡ true
  followed = ap (λ t. t && nat_le c block_logs) (le_test 1 c least) ∙ le_test c block_logs (omega (arith, most))

  writer_is : block_writer c ≡ Client c
  writer_is = ap (λ t. cond t Cleaner (Client c)) (other_test c block_logs (λ same. omega (arith, most)))

  module _ (i : ℕ) (rows : List (BlockId × Entry)) (within : i < 8) where
    abbrev j : ℕ
    j = manager_of_slot setup works i

    abbrev its_deltas : Deltas
    its_deltas = record { slot = i; first = seq; upto = seq; rows = rows }

    abbrev answers_as : (ℕ → SlotState) → ℕ → NodeId → NodeStep ManagerNode
    answers_as slots epoch to = record {
      node = manager_at setup works j slots;
      packets = record { from = Manager j; to = to; clock = 0; body = body.DeltaAck (record { slot = i; epoch = epoch; applied = seq }) } ∷ [];
      acts = [];
    }

    fits : AreTaken setup works rows → is_well_formed (peers_of setup) (deltas_to setup works c seq i rows) ≡ true
    fits taken = rw (there, taken.of_logs, lt_test i 8 within, taken.low) refl

    -- deltas that a slot takes so, and of which it acknowledges all
    module _ (slots : ℕ → SlotState) (z : SlotState) (turns : HaveTurns slots) (epoch : (slots i).epoch ≡ 1) (taken : AreTaken setup works rows)
        (is : transition (slots i) (input.Deltas (record { 0 = c }) seq seq rows) ≡ record { state = z; outs = out.Applied (record { 0 = c }) seq ∷ [] }) where
      comes_so : manager_step (manager_at setup works j slots) (Deliver (deltas_to setup works c seq i rows))
          ≡ record { node = manager_at setup works j (put_number slots i z); packets = ack_by setup works c seq i ∷ []; acts = [] }
      unfolding tokens_say
      comes_so =
          deltas_come setup works j c 0 slots its_deltas within (same_test j) (manager_room setup works j slots turns) (fits taken) taken.known
          z (out.Applied (record { 0 = c }) seq ∷ []) is
          ∙ ap (λ e. answers_as (put_number slots i z) e (block_writer c)) epoch
          ∙ ap (answers_as (put_number slots i z) 1) writer_is

    pub one_slot : (s u : Scene) (z : SlotState) (layer outs : List Packet) (done : List Act) → HaveTurns s.slot → (s.slot i).epoch ≡ 1 → AreTaken setup works rows
        → transition (s.slot i) (input.Deltas (record { 0 = c }) seq seq rows) ≡ record { state = z; outs = out.Applied (record { 0 = c }) seq ∷ [] }
        → Moves setup works (with_slot s i z) layer outs done u
        → Moves setup works s (deltas_to setup works c seq i rows ∷ layer) (ack_by setup works c seq i ∷ outs) done u
    one_slot s u z layer outs done turns epoch taken is rest =
        slot_takes setup works s i z u (Client c) (body.Deltas its_deltas) (ack_by setup works c seq i ∷ []) layer outs [] done (managers i within)
        (comes_so s.slot z turns epoch taken is) rest

    -- the next segment's
    module _ (z : SlotState) (takes : TakesNext c seq z rows) where
      joins : joins_on (applied_of z.applied c) seq seq ≡ true
      joins =
          ap (λ t. t && nat_lt (applied_of z.applied c) seq) (le_test seq (applied_of z.applied c + 1) (let is = takes.applied in omega arith))
          ∙ lt_test (applied_of z.applied c) seq (let is = takes.applied in omega arith)

      none_ready : ready_blocks z.jobs (applied_upto z.applied (record { 0 = c }) seq) ≡ []
      none_ready = takes.waits (applied_upto z.applied (record { 0 = c }) seq)

      no_turn : (n : ℕ) → has_long_room n ≡ true → has_turns n 0 ≡ true
      no_turn n h = lt_test (n + 0) (2 ^ 64) (below n h)
        where
          below : (m : ℕ) → has_long_room m ≡ true → m + 0 < 2 ^ 64
          below m room = grind (arith, nat_tests)

      can : can_apply z (record { 0 = c }) seq rows ≡ true
      can =
          ap (λ bs. has_turns z.turn (length bs) && has_room (length rows) z.index.usage rows) none_ready
          ∙ ap (λ t. t && has_room (length rows) z.index.usage rows) (no_turn z.turn takes.turns.turn)
          ∙ takes.rises

      merges : transition z (input.Deltas (record { 0 = c }) seq seq rows) ≡ record { state = told z rows; outs = out.Applied (record { 0 = c }) seq ∷ [] }
      merges = deltas_merge z (record { 0 = c }) seq seq rows followed joins can none_ready

    -- the same once more: nothing is merged, and it is acknowledged again
    pub told_again : (z : SlotState) → applied_of z.applied c ≡ seq
        → transition z (input.Deltas (record { 0 = c }) seq seq rows) ≡ record { state = z; outs = out.Applied (record { 0 = c }) seq ∷ [] }
    told_again z is = rw (followed, beyond) (ap (λ n. record { state = z; outs = out.Applied (record { 0 = c }) n ∷ [] }) is)
      where
        beyond : joins_on (applied_of z.applied c) seq seq ≡ false
        beyond =
            ap (λ t. nat_le seq (applied_of z.applied c + 1) && t) (not_lt_test (applied_of z.applied c) seq (omega (arith, is)))
            ∙ and_none (nat_le seq (applied_of z.applied c + 1))

  -- ---- all eight

  module _ (s : Scene) (rows : ℕ → List (BlockId × Entry)) (turns : HaveTurns s.slot)
      (takes : (i : ℕ) → i < 8 → TakesNext c seq (s.slot i) (rows i)) (taken : (i : ℕ) → i < 8 → AreTaken setup works (rows i)) where
    abbrev z : ℕ → SlotState
    z i = told (s.slot i) (rows i)

    -- the scene once so many have taken theirs
    abbrev told_upto : ℕ → Scene
    told_upto zero = s
    told_upto (suc n) = with_slot (told_upto n) n (z n)

    abbrev pub all_told : Scene
    all_told = told_upto 8

    later_same : (n i : ℕ) → n ≤ i → (told_upto n).slot i ≡ s.slot i
    later_same zero i h = refl
    later_same (suc n) i h =
        ap (λ t. cond t (z n) ((told_upto n).slot i)) (other_test i n (λ same. omega (arith, same, h))) ∙ later_same n i (omega (arith, h))

    has_turns_then : (i : ℕ) → i < 8 → HasTurns (z i)
    has_turns_then i within = (let h = turns i within in record { epoch = h.epoch; turn = h.turn })

    turns_upto : (n : ℕ) → n ≤ 8 → HaveTurns (told_upto n).slot
    turns_upto zero h = turns
    turns_upto (suc n) h = turns_put (told_upto n).slot n (z n) (turns_upto n (omega (arith, h))) (has_turns_then n (omega (arith, h)))

    pub turns_8 : HaveTurns all_told.slot
    turns_8 = turns_upto 8 (omega arith)

    abbrev deltas : List ℕ → List Packet
    deltas is = map (λ i. deltas_to setup works c seq i (rows i)) is

    abbrev acks : List ℕ → List Packet
    acks is = map (ack_by setup works c seq) is

    -- this slot and so many after it
    abbrev slots_from : ℕ → ℕ → List ℕ
    slots_from n zero = []
    slots_from n (suc left) = n ∷ slots_from (suc n) left

    move_from : (left n : ℕ) → n + left ≡ 8 → Moves setup works (told_upto n) (deltas (slots_from n left)) (acks (slots_from n left)) [] all_told
    move_from zero n is =
        let all : 8 ≡ n = omega (arith, is) in
        subst (λ m. Moves setup works (told_upto m) [] [] [] all_told) all (moves_none setup works all_told)
    move_from (suc left) n is =
        one_slot n (rows n) within (told_upto n) all_told (z n) (deltas (slots_from (suc n) left)) (acks (slots_from (suc n) left)) [] have (have n within).epoch (taken n within)
        (ap (λ y. transition y (input.Deltas (record { 0 = c }) seq seq (rows n))) (later_same n n (omega arith)) ∙ merges n (rows n) within (s.slot n) (takes n within))
        (move_from left (suc n) (omega (arith, is)))
      where
        within : n < 8
        within = omega (arith, is)

        have : HaveTurns (told_upto n).slot
        have = turns_upto n (omega (arith, is))

    pub deltas_move : Moves setup works s (deltas all_slots) (acks all_slots) [] all_told
    deltas_move = move_from 8 0 refl

    -- each slot then
    pub all_told_at : (i : ℕ) → i < 8 → all_told.slot i ≡ z i
    all_told_at zero h = refl
    all_told_at (suc zero) h = refl
    all_told_at (suc (suc zero)) h = refl
    all_told_at (suc (suc (suc zero))) h = refl
    all_told_at (suc (suc (suc (suc zero)))) h = refl
    all_told_at (suc (suc (suc (suc (suc zero))))) h = refl
    all_told_at (suc (suc (suc (suc (suc (suc zero)))))) h = refl
    all_told_at (suc (suc (suc (suc (suc (suc (suc zero))))))) h = refl
    all_told_at (suc (suc (suc (suc (suc (suc (suc (suc i)))))))) h = absurd (omega arith)
