-- What a takeover says is lost as it has its answer, in the words of what its readings took.
use Rattle.std.proofs.Common.{◌≡◌, ℕ, [], ◌∷◌, Some, inr, subst, arith}
use Rattle.std.specs.List.{AllByRecursion}
use Rattle.group_map.specs.declared.group.Group.{Group}
use Rattle.headline.specs.Managers.{phase_at}
use Rattle.manager_moves.specs.Moves.{Answered, Tells}
use Rattle.manager_moves.specs.Moves.Tells.{AbsenceCame, FragmentCame}
use Rattle.manager_serving.specs.declared.serving.Serving.{Serving}
use Rattle.manager_slots.specs.declared.slot_phase.SlotPhase.TheVariants as phase
use Rattle.manager_slots.specs.declared.slot_phase.Taking.{Taking}
use Rattle.node_base.specs.Asking.{own_of}
use Rattle.stripe_code.specs.declared.round.Told.{Told}
use Rattle.stripe_code.specs.declared.round.Told.TheVariants as told
use Rattle.takeover.specs.declared.input.In.{In}
use Rattle.takeover.specs.declared.output.Out.TheVariants as out
use Rattle.takeover.specs.Transition.{transition}
use Rattle.wire_msg.specs.declared.body.Body.{Body}
use Rattle.wire_msg.specs.declared.body.Body.TheVariants as body
use Rattle.wire_msg.specs.declared.packet.Do.{Do}
use Rattle.wire_msg.specs.declared.packet.Packet.{Packet}
use Rattle.xfs_base.specs.declared.segment.SegName.{SegName}
use Rattle.node_moves.specs.server_moves.Moves.{Came as Comes}
use Rattle.run_losses.proofs.gone_law.Slots.{here_is}
use Rattle.run_losses.proofs.taking_law.ManagerTurns.{DoBrought}
use Rattle.run_losses.proofs.taking_law.ServingTurns.{AnswerBrought, BodyBrought, Fine, own_is}
use Rattle.run_losses.proofs.taking_law.SlotReads.{LostFrom, lost_of}
use Rattle.run_losses.proofs.taking_law.TakeTurns.{Heard, InputNamed, IsLost, Says, heard_in, take_turn}

same_heard : (a b : Heard) → Some a ≡ Some b → a ≡ b
same_heard a b e = cc

module _ (Named : ℕ → Group → Type 0) (Came : ℕ → ℕ → Told → Type 0) (what : Do) (brought : DoBrought Named Came what) where
  bears : (packet : Packet) (said : Body) → Comes what packet said → BodyBrought Named Came packet.from said
  bears packet said came = subst (BodyBrought Named Came packet.from) came.says (subst (DoBrought Named Came) came.event brought)

  plain : (ask own : ℕ) (i : In) → Tells what ask own i → InputNamed Named i
  plain ask own i (FragmentCame packet number server m came from) = tt
  plain ask own i (AbsenceCame packet number server m came from) = tt

  -- it takes what came to its question
  heard_so : (x : Taking) (ask own server : ℕ) (t : Told) → own_of x.fetches ask ≡ Some own → AnswerBrought Named Came (Some server) ask t → (h : Heard)
      → Some (record { own = own; server = server; told = t }) ≡ Some h → (h.own ≡ x.fetches.own) × Came x.fetches.ask h.server h.told
  heard_so x ask own server t asked came h gives =
      let o = own_is x.fetches ask own asked in
      subst (λ (g : Heard). (g.own ≡ x.fetches.own) × Came x.fetches.ask g.server g.told) (same_heard _ h gives)
      (o.0, subst (λ n. Came n server t) o.1 came)

  heard : (x : Taking) (ask own : ℕ) (i : In) → Tells what ask own i → own_of x.fetches ask ≡ Some own → (h : Heard) → heard_in i ≡ Some h
      → (h.own ≡ x.fetches.own) × Came x.fetches.ask h.server h.told
  heard x ask own i (FragmentCame packet number server m came from) asked h gives =
      heard_so x m.ask own server (told.Held m.fragment) asked
      (subst (λ v. AnswerBrought Named Came v m.ask (told.Held m.fragment)) from (bears packet (body.Fragment m) came)) h gives
  heard x ask own i (AbsenceCame packet number server m came from) asked h gives =
      heard_so x m.ask own server (told.Missing m.generation) asked
      (subst (λ v. AnswerBrought Named Came v m.ask (told.Missing m.generation)) from (bears packet (body.Missing m) came)) h gives

  module _ (s : Serving) (fine : Fine Named s) (k : ℕ) (x : Taking) (given : In) (a : Answered what s k x given) (name : SegName)
      (alone : (transition x.take given).outs ≡ out.Lost name ∷ []) where
    at : phase_at s.slots k ≡ phase.Taking x
    at = here_is s.slots k (phase.Taking x) a.here

    is_lost : IsLost Named x.take given name
    is_lost = (subst (AllByRecursion (Says Named x.take given (transition x.take given).state)) alone
        (take_turn Named x.take given (plain a.ask a.own given a.tells) (fine.slots.fine k x at).groups).says).0

    pub lost_from : LostFrom Named Came (phase_at s.slots k) name
    lost_from = lost_of Named Came s.lasting.questions.last (phase_at s.slots k) x s.lasting.questions given (omega arith)
        (λ h gives. heard x a.ask a.own given a.tells a.asked h gives) (inr at) name is_lost
