-- A client wants a block that others are believed to hold: the want waits, and each of those who must give way is sent a recall.
use Rattle.std.proofs.Common.{◌≡◌, ℕ, ◌+◌, ◌<◌, ◌==◌, Bool, true, false, not, List, [], ◌∷◌, ◌++◌, length, map, refl, ap, subst, ◌∙◌, append-nil, arith}
use Rattle.std.specs.Prelude.{flat_map}
use Rattle.manager_node.specs.Events.{manager_step}
use Rattle.manager_slots.specs.Tokens.{tokens_say}
use Rattle.node_base.specs.Effects.{acts_of, packets_of}
use Rattle.node_base.specs.Nodes.{has_node, peers_of}
use Rattle.quiet_flow.specs.Flow.{unclocked}
use Rattle.slot_beliefs.specs.Beliefs.{others}
use Rattle.slot_beliefs.specs.declared.job.Wanted.{Wanted}
use Rattle.slot_beliefs.specs.Recalls.{recalls}
use Rattle.token_manager.specs.declared.input.In.TheVariants as input
use Rattle.token_manager.specs.Recalls.{send_recalls}
use Rattle.token_manager.specs.SlotState.{SlotState}
use Rattle.token_manager.specs.declared.output.Out.{Out}
use Rattle.token_manager.specs.Transition.{Done, has_turns, is_dropped, transition, want_of}
use Rattle.version_model.specs.declared.work.Work.{Work}
use Rattle.wire_msg.specs.declared.body.Body.TheVariants as body
use Rattle.wire_msg.specs.declared.packet.Do.TheVariants.{Deliver}
use Rattle.wire_msg.specs.declared.packet.Packet.{Packet}
use Rattle.wire_msg.specs.declared.tokens.Want.{Want}
use Rattle.xfs_base.specs.Blocks.{slot_of}
use Rattle.xfs_base.specs.declared.block.BlockId.{BlockId}
use Rattle.xfs_base.specs.declared.node.NodeId.{NodeId}
use Rattle.xfs_base.specs.declared.node.NodeId.TheVariants.{Client, Manager}
use Rattle.xfs_base.specs.declared.setup.Setup.{Setup}
use Rattle.xfs_base.specs.declared.token.Mode.{Mode}
use Rattle.xfs_base.specs.Modes.{is_own}
use Rattle.quiet_gives.specs.Recalls.{its_manager, recall_to, recalls_to, waiting_slot}
use Rattle.quiet_nodes.specs.Moves.{Moves}
use Rattle.quiet_nodes.specs.Scene.{Scene, manager_at, put_number, with_slot}
use Rattle.quiet_nodes.proofs.Managing.{want_comes}
use Rattle.quiet_nodes.proofs.Moving.{moves_none}
use Rattle.quiet_nodes.proofs.Rooms.{HaveTurns, manager_room}
use Rattle.quiet_nodes.proofs.Tests.{same_test, zero_test}
use Rattle.quiet_nodes.proofs.Turns.{slot_takes}

-- the slot in which a want waits with a recall to each of these clients, of an epoch
abbrev pub recalling_slot : ℕ → SlotState → Wanted → List ℕ → SlotState
recalling_slot epoch z want ds =
    waiting_slot (record z { turn = z.turn + length ds }) want (recalls epoch z.turn (not (is_own want.mode)) ds) z.beliefs

pub want_recalls : (z : SlotState) (c inc req end : ℕ) (b : BlockId) (mode : Mode) (d : ℕ) (ds : List ℕ) → z.jobs ≡ []
    → is_dropped z (want_of c b inc req 0 mode) end ≡ false → others z.beliefs b c (not (is_own mode)) ≡ d ∷ ds
    → has_turns z.turn (length (d ∷ ds)) ≡ true
    → transition z (input.Want (want_of c b inc req 0 mode) end) ≡ record {
      state = recalling_slot z.epoch z (want_of c b inc req 0 mode) (d ∷ ds);
      outs = send_recalls b (recalls z.epoch z.turn (not (is_own mode)) (d ∷ ds));
    }
want_recalls z c inc req end b mode d ds none taken theirs room = rw (taken, theirs, some, room, none) refl
  where
    some : (length (d ∷ ds) == 0) ≡ false
    some = zero_test (length (d ∷ ds)) (omega arith)

module _ (setup : Setup) (works : NodeId → List Work) (b : BlockId) (keep : Bool) where
  abbrev j : ℕ
  j = its_manager setup works b keep

  -- ---- what is sent

  pub packets_are : (i epoch turn : ℕ) (ds : List ℕ)
      → packets_of (Manager j) (flat_map (tokens_say i epoch) (send_recalls b (recalls 1 turn keep ds))) ≡ recalls_to setup works b keep turn ds
  unfolding tokens_say
  packets_are i epoch turn [] = refl
  packets_are i epoch turn (d ∷ ds) = ap (λ ps. recall_to setup works b keep (turn + 1) d ∷ ps) (packets_are i epoch (turn + 1) ds)

  pub acts_none : (i epoch turn : ℕ) (ds : List ℕ) → acts_of (Manager j) (flat_map (tokens_say i epoch) (send_recalls b (recalls 1 turn keep ds))) ≡ []
  unfolding tokens_say
  acts_none i epoch turn [] = refl
  acts_none i epoch turn (d ∷ ds) = acts_none i epoch (turn + 1) ds

  unclocked_are : (turn : ℕ) (ds : List ℕ) → map unclocked (recalls_to setup works b keep turn ds) ≡ recalls_to setup works b keep turn ds
  unclocked_are turn [] = refl
  unclocked_are turn (d ∷ ds) = ap (λ ps. recall_to setup works b keep (turn + 1) d ∷ ps) (unclocked_are (turn + 1) ds)

-- ---- the layer

module _ (setup : Setup) (works : NodeId → List Work) (b : BlockId) (mode : Mode) (s : Scene) (c req end : ℕ) (within : slot_of b.ino.0 < 8)
    (turns : HaveTurns s.slot) (there : has_node (peers_of setup) (Client c) ≡ true)
    (managed : has_node (peers_of setup) (Manager (its_manager setup works b (not (is_own mode)))) ≡ true) where
  abbrev i : ℕ
  i = slot_of b.ino.0

  abbrev z : SlotState
  z = s.slot i

  abbrev keeps : Bool
  keeps = not (is_own mode)

  abbrev manager : ℕ
  manager = its_manager setup works b keeps

  abbrev pub its_want : Wanted
  its_want = want_of c b 1 req 0 mode

  abbrev want : Want
  want = record { block = b; inc = 1; req = req; again = 0; mode = mode; end = end }

  abbrev pub want_packet : Packet
  want_packet = record { from = Client c; to = Manager manager; clock = 0; body = body.Want want }

  module _ (d : ℕ) (ds : List ℕ) (none : z.jobs ≡ []) (taken : is_dropped z its_want end ≡ false) (theirs : others z.beliefs b c keeps ≡ d ∷ ds)
      (room : has_turns z.turn (length (d ∷ ds)) ≡ true) where
    epoch_is : z.epoch ≡ 1
    epoch_is = (turns i within).epoch

    abbrev outs : List Out
    outs = send_recalls b (recalls 1 z.turn keeps (d ∷ ds))

    -- the slot then
    abbrev pub then_ : SlotState
    then_ = recalling_slot 1 z its_want (d ∷ ds)

    abbrev as_of : ℕ → Done
    as_of epoch = record { state = recalling_slot epoch z its_want (d ∷ ds); outs = send_recalls b (recalls epoch z.turn keeps (d ∷ ds)) }

    turns_so : transition z (input.Want (want_of c b 1 req 0 mode) end) ≡ record { state = then_; outs = outs }
    turns_so = want_recalls z c 1 req end b mode d ds none taken theirs room ∙ ap as_of epoch_is

    comes : manager_step (manager_at setup works manager s.slot) (Deliver want_packet) ≡ record {
      node = manager_at setup works manager (put_number s.slot i then_);
      packets = packets_of (Manager manager) (flat_map (tokens_say i z.epoch) outs);
      acts = acts_of (Manager manager) (flat_map (tokens_say i z.epoch) outs);
    }
    comes =
        want_comes setup works manager c 0 s.slot want within (same_test manager) (manager_room setup works manager s.slot turns) there then_ outs turns_so

    pub want_moves : Moves setup works s (want_packet ∷ []) (recalls_to setup works b keeps z.turn (d ∷ ds)) [] (with_slot s i then_)
    want_moves =
        subst (λ ps. Moves setup works s (want_packet ∷ []) ps [] (with_slot s i then_))
        (append-nil _ ∙ ap (map unclocked) (packets_are setup works b keeps i z.epoch z.turn (d ∷ ds)) ∙ unclocked_are setup works b keeps z.turn (d ∷ ds))
        (subst (λ acts. Moves setup works s (want_packet ∷ []) (map unclocked (packets_of (Manager manager) (flat_map (tokens_say i z.epoch) outs)) ++ []) acts (with_slot s i then_))
        (append-nil _ ∙ acts_none setup works b keeps i z.epoch z.turn (d ∷ ds))
        (slot_takes setup works s i then_ (with_slot s i then_) (Client c) (body.Want want) _ [] [] _ [] managed comes (moves_none setup works (with_slot s i then_))))
