-- The word of each client that it gave a block up comes to the block's manager, and the last one's answers the want that waits.
use Rattle.std.proofs.Common.{◌≡◌, ℕ, ◌+◌, ◌<◌, Bool, true, cond, not, nat_le, List, [], ◌∷◌, ◌++◌, map, refl, ap, subst, ◌∙◌, append-nil}
use Rattle.std.specs.Prelude.{flat_map}
use Rattle.std.specs.List.{AllByRecursion}
use Rattle.manager_node.specs.declared.manager.Manager.{Manager as ManagerNode}
use Rattle.manager_node.specs.Events.{manager_step}
use Rattle.manager_slots.specs.Tokens.{tokens_say}
use Rattle.node_base.specs.Effects.{acts_of, packets_of}
use Rattle.node_base.specs.Nodes.{has_node, peers_of}
use Rattle.quiet_flow.specs.Flow.{unclocked}
use Rattle.slot_beliefs.specs.Beliefs.{give_way, holder}
use Rattle.slot_beliefs.specs.declared.job.Awaited.{Awaited}
use Rattle.slot_beliefs.specs.declared.job.Holder.{Holder}
use Rattle.slot_beliefs.specs.declared.job.Wanted.{Wanted}
use Rattle.slot_beliefs.specs.Recalls.{applied_of, is_ready, noted, recalls, stamp}
use Rattle.token_manager.specs.declared.input.In.TheVariants as input
use Rattle.token_manager.specs.declared.output.Out.{Out}
use Rattle.token_manager.specs.SlotState.{SlotState}
use Rattle.token_manager.specs.Transition.{Done, answer, slot_finish, has_turns, passers, transition}
use Rattle.version_model.specs.declared.work.Work.{Work}
use Rattle.wire_msg.specs.declared.body.Body.TheVariants as body
use Rattle.wire_msg.specs.declared.packet.Do.TheVariants.{Deliver}
use Rattle.wire_msg.specs.declared.packet.Packet.{Packet}
use Rattle.wire_msg.specs.declared.tokens.Gave.{Gave}
use Rattle.wire_msg.specs.NodeStep.{NodeStep}
use Rattle.xfs_base.specs.Blocks.{slot_of}
use Rattle.xfs_base.specs.declared.block.BlockId.{BlockId}
use Rattle.xfs_base.specs.declared.node.NodeId.{NodeId}
use Rattle.xfs_base.specs.declared.node.NodeId.TheVariants.{Client, Manager}
use Rattle.xfs_base.specs.declared.setup.Setup.{Setup}
use Rattle.xfs_base.specs.Modes.{is_own}
use Rattle.xfs_base.specs.Steps.{still}
use Rattle.quiet_gives.specs.Recalls.{all_given_up, gave_by, gaves_by, its_manager, waiting_slot}
use Rattle.quiet_gives.proofs.Gave.{gave_comes, last_gave, one_gave}
use Rattle.quiet_gives.proofs.Noted.{answers_one, named, not_ready, noted_next, ready_next}
use Rattle.quiet_gives.proofs.SlotAgain.{slot_takes_again}
use Rattle.quiet_nodes.specs.Moves.{Moves}
use Rattle.quiet_nodes.specs.Scene.{Scene, manager_at, put_number, with_slot}
use Rattle.quiet_nodes.proofs.Moving.{moves_none}
use Rattle.quiet_nodes.proofs.Rooms.{HasTurns, HaveTurns, manager_room, turns_put}
use Rattle.quiet_nodes.proofs.Tests.{same_test}

-- a client of the setup, whose log is applied up to its end
pub record IsApplied (setup : Setup) (z : SlotState) (ends : ℕ → ℕ) (d : ℕ) : Type 0 where
  pub there : has_node (peers_of setup) (Client d) ≡ true
  pub upto : nat_le (ends d) (applied_of z.applied d) ≡ true

module _ (setup : Setup) (works : NodeId → List Work) (s : Scene) (z : SlotState) (want : Wanted) (ends : ℕ → ℕ) (within : slot_of want.block.ino.0 < 8)
    (turns : HaveTurns s.slot) (its_turns : HasTurns z) (room : has_turns z.turn 1 ≡ true)
    (managed : has_node (peers_of setup) (Manager (its_manager setup works want.block (not (is_own want.mode)))) ≡ true) where
  abbrev b : BlockId
  b = want.block

  abbrev i : ℕ
  i = slot_of want.block.ino.0

  abbrev keep : Bool
  keep = not (is_own want.mode)

  abbrev j : ℕ
  j = its_manager setup works b keep

  abbrev AreApplied : List ℕ → Type 0
  AreApplied ds = AllByRecursion (IsApplied setup z ends) ds

  -- the want waits for these clients; some have answered
  abbrev pub awaiting : List Awaited → ℕ → List ℕ → List (Holder × Bool) → SlotState
  awaiting done turn ds beliefs = waiting_slot z want (done ++ recalls 1 turn keep ds) beliefs

  -- all have, and the want is answered
  abbrev pub answering : List (Holder × Bool) → List ℕ → SlotState
  answering beliefs ds = record z { beliefs = all_given_up b keep beliefs ds; jobs = [] }

  abbrev pub answered : List (Holder × Bool) → List ℕ → SlotState
  answered beliefs ds = (slot_finish (answering beliefs ds) want).state

  -- what is sent then
  abbrev pub answers_sent : List (Holder × Bool) → List ℕ → List Packet
  answers_sent beliefs ds = map unclocked (packets_of (Manager j) (flat_map (tokens_say i z.epoch) (slot_finish (answering beliefs ds) want).outs))

  no_acts : (e : ℕ) (y : SlotState) (cs : List ℕ) → acts_of (Manager j) (flat_map (tokens_say i e) (answer y want cs ∷ [])) ≡ []
  unfolding tokens_say
  no_acts e y [] = refl
  no_acts e y (c ∷ cs) = refl

  -- ---- one

  abbrev its_gave : ℕ → ℕ → Gave
  its_gave turn d = record { block = b; stamp = stamp 1 (turn + 1); end = ends d }

  abbrev as_step : (ℕ → SlotState) → List Out → ℕ → NodeStep ManagerNode
  as_step slots outs epoch = record {
    node = manager_at setup works j slots;
    packets = packets_of (Manager j) (flat_map (tokens_say i epoch) outs);
    acts = acts_of (Manager j) (flat_map (tokens_say i epoch) outs);
  }

  one_comes : (x y : SlotState) (outs : List Out) (turn d : ℕ) → HasTurns x → has_node (peers_of setup) (Client d) ≡ true
      → transition x (input.Gave d b (stamp 1 (turn + 1)) (ends d)) ≡ record { state = y; outs = outs }
      → manager_step (manager_at setup works j (put_number s.slot i x)) (Deliver (gave_by setup works b keep (turn + 1) d (ends d)))
      ≡ as_step (put_number (put_number s.slot i x) i y) outs x.epoch
  one_comes x y outs turn d has there is =
      gave_comes setup works j d 0 (put_number s.slot i x) (its_gave turn d) within (same_test j)
      (manager_room setup works j (put_number s.slot i x) (turns_put s.slot i x turns has)) there y outs
      (ap (λ n. transition n (input.Gave d b (stamp 1 (turn + 1)) (ends d))) here ∙ is)
      ∙ ap (λ (n : SlotState). as_step (put_number (put_number s.slot i x) i y) outs n.epoch) here
    where
      here : put_number s.slot i x i ≡ x
      here = ap (λ t. cond t x (s.slot i)) (same_test i)

  -- ---- all

  pub gaves_move : (ds : List ℕ) (d turn : ℕ) (done : List Awaited) (beliefs : List (Holder × Bool)) → is_ready z.applied done ≡ true → AreApplied (d ∷ ds)
      → Moves setup works (with_slot s i (awaiting done turn (d ∷ ds) beliefs)) (gaves_by setup works b keep ends turn (d ∷ ds)) (answers_sent beliefs (d ∷ ds)) []
      (with_slot s i (answered beliefs (d ∷ ds)))
  gaves_move [] d turn done beliefs ready each =
      subst (λ outs. Moves setup works (with_slot s i now) (gave_by setup works b keep (turn + 1) d (ends d) ∷ []) outs [] (with_slot s i then_))
      (append-nil (answers_sent beliefs (d ∷ [])))
      (subst (λ acts. Moves setup works (with_slot s i now) (gave_by setup works b keep (turn + 1) d (ends d) ∷ []) (answers_sent beliefs (d ∷ []) ++ []) acts
      (with_slot s i then_))
      (append-nil _ ∙ no_acts z.epoch (answering beliefs (d ∷ [])) (passers (answering beliefs (d ∷ [])) want))
      (slot_takes_again setup works s i now then_ (with_slot s i then_) (Client d) (body.Gave (its_gave turn d)) _ [] [] _ [] managed
      (one_comes now then_ (slot_finish (answering beliefs (d ∷ [])) want).outs turn d (record { epoch = its_turns.epoch; turn = its_turns.turn }) each.0.there last) (moves_none setup works (with_slot s i then_))))
    where
      now : SlotState
      now = awaiting done turn (d ∷ []) beliefs

      then_ : SlotState
      then_ = answered beliefs (d ∷ [])

      all_ready : is_ready z.applied (noted (done ++ recalls 1 turn keep (d ∷ [])) d (stamp 1 (turn + 1)) (ends d)) ≡ true
      all_ready =
          ap (is_ready z.applied) (noted_next z.applied keep turn d (ends d) done [] ready ∙ append-nil (done ++ named z.applied keep turn d (ends d) ∷ []))
          ∙ ready_next z.applied keep turn d (ends d) done ready each.0.upto

      last : transition now (input.Gave d b (stamp 1 (turn + 1)) (ends d)) ≡ slot_finish (answering beliefs (d ∷ [])) want
      last =
          last_gave z want (done ++ recalls 1 turn keep (d ∷ [])) beliefs d (stamp 1 (turn + 1)) (ends d) (answers_one z.applied keep turn d (ends d) done []) all_ready room
  gaves_move (e ∷ es) d turn done beliefs ready each =
      slot_takes_again setup works s i now then_ (with_slot s i (answered beliefs (d ∷ e ∷ es))) (Client d) (body.Gave (its_gave turn d)) []
      (gaves_by setup works b keep ends (turn + 1) (e ∷ es)) (answers_sent beliefs (d ∷ e ∷ es)) [] [] managed
      (one_comes now then_ [] turn d (record { epoch = its_turns.epoch; turn = its_turns.turn }) each.0.there one)
      (gaves_move es e (turn + 1) (done ++ its_named ∷ []) (give_way beliefs (holder b d) keep) (ready_next z.applied keep turn d (ends d) done ready each.0.upto) each.1)
    where
      its_named : Awaited
      its_named = named z.applied keep turn d (ends d)

      now : SlotState
      now = awaiting done turn (d ∷ e ∷ es) beliefs

      then_ : SlotState
      then_ = awaiting (done ++ its_named ∷ []) (turn + 1) (e ∷ es) (give_way beliefs (holder b d) keep)

      still_as : List Awaited → Done
      still_as awaited = still (waiting_slot z want awaited (give_way beliefs (holder b d) keep))

      noted_is : noted (done ++ recalls 1 turn keep (d ∷ e ∷ es)) d (stamp 1 (turn + 1)) (ends d) ≡ (done ++ its_named ∷ []) ++ recalls 1 (turn + 1) keep (e ∷ es)
      noted_is = noted_next z.applied keep turn d (ends d) done (e ∷ es) ready

      one : transition now (input.Gave d b (stamp 1 (turn + 1)) (ends d)) ≡ record { state = then_; outs = [] }
      one =
          one_gave z want (done ++ recalls 1 turn keep (d ∷ e ∷ es)) beliefs d (stamp 1 (turn + 1)) (ends d) (answers_one z.applied keep turn d (ends d) done (e ∷ es))
          (ap (is_ready z.applied) noted_is ∙ not_ready z.applied keep (turn + 1) e es (done ++ its_named ∷ []))
          ∙ ap still_as noted_is
