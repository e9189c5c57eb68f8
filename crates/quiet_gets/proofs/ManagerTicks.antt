-- Time passes at a manager of whose slots none has a want that waits, and the maps of the setup are told to it: nothing changes, and it says nothing.
use Rattle.std.specs.List.{AllByRecursion}
use Rattle.client_log.specs.declared.input.In.TheVariants as log_input
use Rattle.client_log.specs.Transition as log
use Rattle.manager_slots.specs.SlotTable as table
use Rattle.manager_slots.specs.SlotTable.{Hearer, TableAsker, at_slot, at_taken, in_slot, in_taken, put_asker, put_at, table_asker}
use Rattle.manager_slots.specs.Takeovers as takeovers
use Rattle.manager_slots.specs.Takeovers.{asker}
use Rattle.manager_slots.specs.Tokens as tokens
use Rattle.manager_serving.specs.Serving as serving
use Rattle.manager_serving.specs.Checkpoints as checkpoints
use Rattle.manager_node.specs.Events.{happens, manager_step, manager_deliver, on_time}
use Rattle.wire_msg.specs.declared.packet.Do.TheVariants.{Deliver, Tick}
use Rattle.manager_slots.specs.declared.slot_phase.SlotPhase.TheVariants as phase
use Rattle.manager_slots.specs.declared.slot_phase.SlotPhase.{SlotPhase}
use Rattle.node_base.specs.declared.effects.Effect.{Effect}
use Rattle.node_base.specs.declared.questions.Questions.{Questions}
use Rattle.manager_slots.specs.Slots.{managed, epoch_of}
use Rattle.xfs_base.specs.Steps.{Stepped, saying, steps, still}
use Rattle.xfs_base.specs.Limits.{all_slots}
use Rattle.quiet_nodes.proofs.Slots.{get_phase}
use Rattle.registry.specs.Board.{board_slots, slot_news, board_start as first_board}
use Rattle.quiet_gets.specs.Passing.{news_to}
use Rattle.quiet_nodes.proofs.Rooms.{HaveTurns, manager_room}
use Rattle.quiet_nodes.specs.Scene.{its_groups, manager_at, manager_of_slot, managing_at, phase_at}
use Rattle.std.proofs.Common.{Bool, List, [], ap, arith, cond, false, map, nat_lt, refl, slice_set, suc, true, zero, ℕ, ◌<◌, ◌==◌, ◌∙◌, ◌∷◌, ◌≡◌}
use Rattle.token_manager.specs.SlotState.{SlotState}
use Rattle.version_model.specs.declared.work.Work.{Work}
use Rattle.xfs_base.specs.declared.node.NodeId.TheVariants.{Manager}
use Rattle.xfs_base.specs.declared.node.NodeId.{NodeId}
use Rattle.xfs_base.specs.declared.setup.Setup.{Setup}

-- where no step changes anything, all of them don't
pub steps_still : {S O A : Type 0} (step : S → A → Stepped S O) (s : S) (xs : List A) → AllByRecursion (λ x. step s x ≡ still s) xs → steps step s xs ≡ still s
steps_still step s [] all = refl
steps_still step s (x ∷ xs) all = ap (λ r. saying r.outs (steps step r.state xs)) all.0 ∙ steps_still step s xs all.1

pub eight_all : (P : ℕ → Type 0) → ((i : ℕ) → i < 8 → P i) → AllByRecursion P all_slots
eight_all P each = (each 0 (omega arith), (each 1 (omega arith), (each 2 (omega arith), (each 3 (omega arith), (each 4 (omega arith), (each 5 (omega arith), (each 6 (omega arith), (each 7 (omega arith), tt))))))))

-- what is there is set
set_same : {X : Type 0} (f : ℕ → X) (i : ℕ) → i < 8 → slice_set (map f all_slots) i (f i) ≡ map f all_slots
set_same f zero h = refl
set_same f (suc zero) h = refl
set_same f (suc (suc zero)) h = refl
set_same f (suc (suc (suc zero))) h = refl
set_same f (suc (suc (suc (suc zero)))) h = refl
set_same f (suc (suc (suc (suc (suc zero))))) h = refl
set_same f (suc (suc (suc (suc (suc (suc zero)))))) h = refl
set_same f (suc (suc (suc (suc (suc (suc (suc zero))))))) h = refl
set_same f (suc (suc (suc (suc (suc (suc (suc (suc i)))))))) h = absurd (omega arith)

module _ (setup : Setup) (works : NodeId → List Work) (j : ℕ) (slots : ℕ → SlotState) (turns : HaveTurns slots) where
  abbrev its_phase : ℕ → SlotPhase
  its_phase = phase_at setup works slots j

  abbrev its_table : table.Table
  its_table = map its_phase all_slots

  -- a slot of which an event makes nothing
  slot_still : (event : SlotPhase → Stepped SlotPhase Effect) (i : ℕ) → i < 8 → event (its_phase i) ≡ still (its_phase i) → at_slot its_table i event ≡ still its_table
  slot_still event i within is =
      ap (in_slot its_table i event) (get_phase setup works j slots i within)
      ∙ ap (put_at its_table i) is
      ∙ ap still (set_same its_phase i within)

  abbrev with_questions : Questions → TableAsker
  with_questions q = table_asker its_table q

  taken_still : (q : Questions) (event : takeovers.Asker → Stepped takeovers.Asker Effect) (i : ℕ) → i < 8
      → event (asker (its_phase i) q) ≡ still (asker (its_phase i) q) → at_taken (with_questions q) i event ≡ still (with_questions q)
  taken_still q event i within is =
      ap (in_taken (with_questions q) i event) (get_phase setup works j slots i within)
      ∙ ap (put_asker (with_questions q) i) is
      ∙ ap (λ t. still (table_asker t q)) (set_same its_phase i within)

  abbrev its_questions : Questions
  its_questions = (managing_at setup works j slots).lasting.questions

  -- ---- time

  module _ (jobs : (i : ℕ) → i < 8 → (slots i).jobs ≡ []) where
    no_recalls : (i : ℕ) → i < 8 → tokens.on_tick (its_phase i) i ≡ still (its_phase i)
    unfolding tokens.tokens_take
    no_recalls i within =
        elim (manager_of_slot setup works i == j) as
        (λ t. tokens.on_tick (cond t (managed (slots i)) (phase.Away 1)) i ≡ still (cond t (managed (slots i)) (phase.Away 1))) [
          | true ↦ rw (jobs i within) refl
          | false ↦ refl
        ]

    recall_one : (i : ℕ) → i < 8 → table.slot_table_recall its_table i ≡ still its_table
    unfolding table.slot_table_recall
    recall_one i within = slot_still (λ p. tokens.on_tick p i) i within (no_recalls i within)

    recalls_none : serving.recalls_again (managing_at setup works j slots) ≡ still (managing_at setup works j slots)
    unfolding serving.recalls_again
    recalls_none =
        ap (serving.with_slots (managing_at setup works j slots))
        (steps_still table.slot_table_recall its_table all_slots (eight_all (λ i. table.slot_table_recall its_table i ≡ still its_table) recall_one))

    asks_nothing : (q : Questions) (polls : Bool) (i : ℕ) → takeovers.takeovers_ask_again (asker (its_phase i) q) i polls ≡ still (asker (its_phase i) q)
    unfolding takeovers.takeovers_ask_again takeovers.outs_of takeovers.say_each
    asks_nothing q polls i =
        elim (manager_of_slot setup works i == j) as
        (λ t. takeovers.takeovers_ask_again (asker (cond t (managed (slots i)) (phase.Away 1)) q) i polls ≡ still (asker (cond t (managed (slots i)) (phase.Away 1)) q))
        [ true ↦ refl | false ↦ refl ]

    ask_one : (q : Questions) (polls : Bool) (i : ℕ) → i < 8 → table.slot_table_ask polls (with_questions q) i ≡ still (with_questions q)
    unfolding table.slot_table_ask
    ask_one q polls i within = taken_still q (λ one. takeovers.takeovers_ask_again one i polls) i within (asks_nothing q polls i)

    asks_none : (polls : Bool) → serving.serving_ask_again (managing_at setup works j slots) polls ≡ still (managing_at setup works j slots)
    unfolding serving.serving_ask_again
    asks_none polls =
        ap (serving.with_asker (managing_at setup works j slots))
        (steps_still (table.slot_table_ask polls) (with_questions its_questions) all_slots
        (eight_all (λ i. table.slot_table_ask polls (with_questions its_questions) i ≡ still (with_questions its_questions)) (ask_one its_questions polls)))

    writes_none : checkpoints.serving_write (managing_at setup works j slots) log_input.Tick ≡ still (managing_at setup works j slots)
    unfolding checkpoints.serving_write checkpoints.log_says_each log.on_tick
    writes_none = refl

    tells_none : checkpoints.serving_tell_again (managing_at setup works j slots) ≡ still (managing_at setup works j slots)
    unfolding checkpoints.serving_tell_again
    tells_none = refl

    on_tick_still : serving.on_tick (managing_at setup works j slots) ≡ still (managing_at setup works j slots)
    unfolding serving.on_tick
    on_tick_still = rw (recalls_none, asks_none true, asks_none false, writes_none, tells_none) refl

    pub manager_ticks : manager_step (manager_at setup works j slots) Tick ≡ record { node = manager_at setup works j slots; packets = []; acts = [] }
    unfolding happens on_time
    manager_ticks = rw (manager_room setup works j slots turns, on_tick_still) refl

  -- ---- news

  abbrev its_hearer : Hearer
  its_hearer = serving.hearer_of (managing_at setup works j slots) setup.clients (its_groups setup works)

  first_epoch : (i : ℕ) → i < 8 → epoch_of (its_phase i) ≡ 1
  first_epoch i within =
      elim (manager_of_slot setup works i == j) as (λ t. epoch_of (cond t (managed (slots i)) (phase.Away 1)) ≡ 1) [ true ↦ (turns i within).epoch | false ↦ refl ]

  hears_nothing : (q : Questions) (i : ℕ) → i < 8 → (slot_news (first_board setup) i).epoch ≡ 1
      → table.hear_of its_hearer (slot_news (first_board setup) i) (asker (its_phase i) q) ≡ still (asker (its_phase i) q)
  unfolding table.hear_of
  hears_nothing q i within one =
      let not_later : nat_lt (epoch_of (its_phase i)) (slot_news (first_board setup) i).epoch ≡ false
      = ap (λ n. nat_lt n (slot_news (first_board setup) i).epoch) (first_epoch i within) ∙ ap (nat_lt 1) one in
      rw not_later refl

  hear_one : (i : ℕ) → i < 8 → (slot_news (first_board setup) i).epoch ≡ 1
      → table.slot_table_hear its_hearer (with_questions its_questions) (slot_news (first_board setup) i) ≡ still (with_questions its_questions)
  unfolding table.slot_table_hear
  hear_one i within first =
      taken_still its_questions (table.hear_of its_hearer (slot_news (first_board setup) i)) i within (hears_nothing its_questions i within first)

  hears_still : serving.serving_hear (managing_at setup works j slots) setup.clients (news_to setup works (Manager j)) ≡ still (managing_at setup works j slots)
  unfolding serving.serving_hear serving.on_news serving.hear_slots
  hears_still =
      ap (serving.with_asker (managing_at setup works j slots))
      (steps_still (table.slot_table_hear its_hearer) (with_questions its_questions) (board_slots (first_board setup)) (
        hear_one 0 (omega arith) refl,
        (
          hear_one 1 (omega arith) refl,
          (
            hear_one 2 (omega arith) refl,
            (
              hear_one 3 (omega arith) refl,
              (
                hear_one 4 (omega arith) refl,
                (hear_one 5 (omega arith) refl, (hear_one 6 (omega arith) refl, (hear_one 7 (omega arith) refl, tt))),
              ),
            ),
          ),
        ),
      ))

  pub manager_news : manager_step (manager_at setup works j slots) (Deliver (news_to setup works (Manager j)))
      ≡ record { node = manager_at setup works j slots; packets = []; acts = [] }
  unfolding happens manager_deliver
  manager_news = rw (manager_room setup works j slots turns, hears_still) refl
