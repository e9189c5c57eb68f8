-- Each slot's acknowledgement comes to the client, which has no open call: it knows then that each slot has applied its log.
use Rattle.std.proofs.Common.{◌≡◌, ℕ, ◌<◌, ◌==◌, true, nat_lt, List, [], ◌∷◌, length, map, replicate, slice_index, slice_set, None, refl, arith}
use Rattle.node_base.specs.Nodes.{has_node, peers_of}
use Rattle.token_client.specs.State.{epoch_of}
use Rattle.version_model.specs.declared.work.Work.{Work}
use Rattle.wire_msg.specs.declared.body.Body.TheVariants as body
use Rattle.wire_msg.specs.declared.packet.Packet.{Packet}
use Rattle.xfs_base.specs.declared.node.NodeId.{NodeId}
use Rattle.xfs_base.specs.declared.node.NodeId.TheVariants.{Client, Manager}
use Rattle.xfs_base.specs.declared.setup.Setup.{Setup}
use Rattle.xfs_base.specs.Limits.{all_slots}
use Rattle.quiet_nodes.specs.Layers.{ack_by}
use Rattle.quiet_nodes.specs.Moves.{Moves}
use Rattle.quiet_nodes.specs.Scene.{ClientPart, Scene, manager_of_slot, with_client}
use Rattle.quiet_nodes.proofs.Begins.{HasRoom}
use Rattle.quiet_nodes.proofs.Moving.{moves_none}
use Rattle.quiet_nodes.proofs.Telling.{ack_comes}
use Rattle.quiet_nodes.proofs.Turns.{client_takes}

-- the slot is promised to the first epoch
abbrev IsPromised : ℕ → Type 0
IsPromised i = (epoch_of (1 ∷ 1 ∷ 1 ∷ 1 ∷ 1 ∷ 1 ∷ 1 ∷ 1 ∷ []) i == 1) ≡ true

module _ (setup : Setup) (works : NodeId → List Work) (c seq : ℕ) (p : ClientPart) (s : Scene) (h : HasRoom setup works c p) (idle : p.call ≡ None)
    (there : has_node (peers_of setup) (Client c) ≡ true)
    (managers : (i : ℕ) → i < 8 → has_node (peers_of setup) (Manager (manager_of_slot setup works i)) ≡ true) where
  -- the client that knows so much of each slot
  abbrev pub knowing : List ℕ → ClientPart
  knowing xs = record p { acked = xs }

  has_room : (xs : List ℕ) → HasRoom setup works c (knowing xs)
  has_room xs = record { asked = h.asked; req = h.req; seq = h.seq; attempt = h.attempt; again = h.again }

  abbrev acks : List ℕ → List Packet
  acks is = map (ack_by setup works c seq) is

  abbrev at : List ℕ → Scene
  at xs = with_client s c (knowing xs)

  one : (xs : List ℕ) (u : Scene) (i : ℕ) (is : List ℕ) → (within : i < 8) → nat_lt i 8 ≡ true → IsPromised i → nat_lt (slice_index xs i) seq ≡ true
      → Moves setup works (at (slice_set xs i seq)) (acks is) [] [] u → Moves setup works (at xs) (acks (i ∷ is)) [] [] u
  one xs u i is within test promised news rest =
      client_takes setup works s c (knowing xs) (knowing (slice_set xs i seq)) u (Manager (manager_of_slot setup works i))
      (body.DeltaAck (record { slot = i; epoch = 1; applied = seq })) [] (acks is) [] [] [] there
      (ack_comes setup works c (manager_of_slot setup works i) 0 i seq (knowing xs) (has_room xs) idle (managers i within) test promised news) rest

  all : (a0 a1 a2 a3 a4 a5 a6 a7 : ℕ) → (u : Scene)
      → ((i : ℕ) → i < 8 → nat_lt (slice_index (a0 ∷ a1 ∷ a2 ∷ a3 ∷ a4 ∷ a5 ∷ a6 ∷ a7 ∷ []) i) seq ≡ true)
      → Moves setup works (at (replicate 8 seq)) [] [] [] u
      → Moves setup works (at (a0 ∷ a1 ∷ a2 ∷ a3 ∷ a4 ∷ a5 ∷ a6 ∷ a7 ∷ [])) (acks all_slots) [] [] u
  all a0 a1 a2 a3 a4 a5 a6 a7 u news end =
      one (a0 ∷ a1 ∷ a2 ∷ a3 ∷ a4 ∷ a5 ∷ a6 ∷ a7 ∷ []) u 0 (1 ∷ 2 ∷ 3 ∷ 4 ∷ 5 ∷ 6 ∷ 7 ∷ []) (omega arith) refl refl (news 0 (omega arith))
      (one (seq ∷ a1 ∷ a2 ∷ a3 ∷ a4 ∷ a5 ∷ a6 ∷ a7 ∷ []) u 1 (2 ∷ 3 ∷ 4 ∷ 5 ∷ 6 ∷ 7 ∷ []) (omega arith) refl refl (news 1 (omega arith))
      (one (seq ∷ seq ∷ a2 ∷ a3 ∷ a4 ∷ a5 ∷ a6 ∷ a7 ∷ []) u 2 (3 ∷ 4 ∷ 5 ∷ 6 ∷ 7 ∷ []) (omega arith) refl refl (news 2 (omega arith))
      (one (seq ∷ seq ∷ seq ∷ a3 ∷ a4 ∷ a5 ∷ a6 ∷ a7 ∷ []) u 3 (4 ∷ 5 ∷ 6 ∷ 7 ∷ []) (omega arith) refl refl (news 3 (omega arith))
      (one (seq ∷ seq ∷ seq ∷ seq ∷ a4 ∷ a5 ∷ a6 ∷ a7 ∷ []) u 4 (5 ∷ 6 ∷ 7 ∷ []) (omega arith) refl refl (news 4 (omega arith))
      (one (seq ∷ seq ∷ seq ∷ seq ∷ seq ∷ a5 ∷ a6 ∷ a7 ∷ []) u 5 (6 ∷ 7 ∷ []) (omega arith) refl refl (news 5 (omega arith))
      (one (seq ∷ seq ∷ seq ∷ seq ∷ seq ∷ seq ∷ a6 ∷ a7 ∷ []) u 6 (7 ∷ []) (omega arith) refl refl (news 6 (omega arith))
      (one (seq ∷ seq ∷ seq ∷ seq ∷ seq ∷ seq ∷ seq ∷ a7 ∷ []) u 7 [] (omega arith) refl refl (news 7 (omega arith)) end)))))))

  pub acks_move : (xs : List ℕ) → length xs ≡ 8 → ((i : ℕ) → i < 8 → nat_lt (slice_index xs i) seq ≡ true)
      → Moves setup works (at xs) (acks all_slots) [] [] (at (replicate 8 seq))
  acks_move (a0 ∷ a1 ∷ a2 ∷ a3 ∷ a4 ∷ a5 ∷ a6 ∷ a7 ∷ []) long news =
      all a0 a1 a2 a3 a4 a5 a6 a7 (at (replicate 8 seq)) news (moves_none setup works (at (replicate 8 seq)))
  acks_move [] long news = absurd (omega (arith, long))
  acks_move (a ∷ []) long news = absurd (omega (arith, long))
  acks_move (a ∷ b ∷ []) long news = absurd (omega (arith, long))
  acks_move (a ∷ b ∷ d ∷ []) long news = absurd (omega (arith, long))
  acks_move (a ∷ b ∷ d ∷ e ∷ []) long news = absurd (omega (arith, long))
  acks_move (a ∷ b ∷ d ∷ e ∷ f ∷ []) long news = absurd (omega (arith, long))
  acks_move (a ∷ b ∷ d ∷ e ∷ f ∷ g ∷ []) long news = absurd (omega (arith, long))
  acks_move (a ∷ b ∷ d ∷ e ∷ f ∷ g ∷ k ∷ []) long news = absurd (omega (arith, long))
  acks_move (a ∷ b ∷ d ∷ e ∷ f ∷ g ∷ k ∷ l ∷ m ∷ rest) long news = absurd (omega (arith, long))
