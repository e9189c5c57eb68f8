-- A client of a quiet run begins its next item, a call.
use Rattle.std.proofs.Common.{◌≡◌, ℕ, ◌+◌, ◌-◌, ◌<◌, ◌&&◌, true, cond, nat_lt, List, length, slice_get, Some, None, refl, ap, ◌∙◌, arith}
use Rattle.std.proofs.lemmas.Bool.Decides.{nat_tests}
use Rattle.std.proofs.lemmas.Bool.{lt-ltb}
use Rattle.client_running.specs.Opens.{opens}
use Rattle.client_running.specs.Running.{running_go_on, run}
use Rattle.client_node.specs.Phases.{client_has_room, client_step, on_begin, serves_on, serving_begins, stepped, wish_of}
use Rattle.client_node.specs.Room.{asked_again, open_block}
use Rattle.client_call.specs.Calls.{call_of}
use Rattle.client_call.specs.declared.call.Call.{Call}
use Rattle.client_call.specs.declared.call.Going.TheVariants.{On}
use Rattle.client_node.specs.Room.{epochs_have_room}
use Rattle.client_serving.specs.declared.serving.Serving.{Serving}
use Rattle.log_owner.specs.Opening.{attempt_of}
use Rattle.node_base.specs.Room.{has_room}
use Rattle.version_model.specs.declared.work.Work.{Work}
use Rattle.wire_msg.specs.declared.packet.Do.TheVariants.{Begin}
use Rattle.xfs_base.specs.declared.node.NodeId.{NodeId}
use Rattle.xfs_base.specs.declared.node.NodeId.TheVariants.{Client}
use Rattle.xfs_base.specs.declared.setup.Setup.{Setup}
use Rattle.xfs_base.specs.Limits.{u32_end}
use Rattle.xfs_base.specs.Steps.{still}
use Rattle.quiet_nodes.specs.Scene.{ClientPart, client_at, serving_at, tokens_at}

module _ (setup : Setup) (works : NodeId → List Work) (c : ℕ) (p : ClientPart) where
  -- no counter of the client is near its end
  pub record HasRoom : Type 0 where
    pub asked : has_room p.asked ≡ true
    pub req : has_room p.req ≡ true
    pub seq : has_room p.end.seq ≡ true
    pub attempt : has_room (attempt_of p.flight) ≡ true
    pub again : has_room (asked_again (tokens_at setup works p) (open_block p.call)) ≡ true

  starts_with_room : epochs_have_room (tokens_at setup works p) ≡ true
  unfolding epochs_have_room
  starts_with_room = refl

  pub room : HasRoom → client_has_room (client_at setup works c p) ≡ true
  room h = simp (h.asked, h.req, h.seq, h.attempt, h.again, starts_with_room)

  -- the call of the next item is open
  abbrev pub opened : Call → ClientPart
  opened call = record p { begun = p.begun + 1; item = Some (p.begun + 1); call = Some call }

  module _ (w : Work) (call : Call) (h : HasRoom) (left : p.begun < length (works (Client c))) (few : p.begun < u32_end)
      (next : slice_get (works (Client c)) p.begun ≡ Some w) (idle : p.item ≡ None) (is_call : (s : Serving) (n : ℕ) → serving_begins s n (wish_of (Some w)) ≡ serves_on (opens s n))
      (calls : call_of w (p.begun + 1) c ≡ Some (On call)) where
    is_left : (nat_lt p.begun (length (works (Client c))) && nat_lt p.begun u32_end) ≡ true
    is_left = ap (λ t. t && nat_lt p.begun u32_end) (lt-ltb p.begun (length (works (Client c))) left) ∙ lt-ltb p.begun u32_end few

    its_place : p.begun + 1 - 1 ≡ p.begun
    its_place = omega arith

    above : nat_lt 0 (p.begun + 1) ≡ true
    above = grind (arith, nat_tests)

    begin_is : on_begin setup.servers (client_at setup works c p).phase ≡ serves_on (run (serving_at setup works c (opened call)))
    unfolding on_begin opens running_go_on
    begin_is = simp (is_left, above, its_place, next, is_call, idle, calls)

    pub begin_steps : client_step (client_at setup works c p) Begin
        ≡ stepped (client_at setup works c p) (serves_on (run (serving_at setup works c (opened call))))
    begin_steps =
        ap (stepped (client_at setup works c p))
        (ap (λ t. cond t (on_begin setup.servers (client_at setup works c p).phase) (still (client_at setup works c p).phase)) (room h) ∙ begin_is)
