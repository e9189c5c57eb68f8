-- What an event makes of a manager's broken slots: a slot that is broken then was so before, or its takeover has said that the segment is lost, as a server
-- answered it; and each Gone is of a slot that was broken before.
use Rattle.std.proofs.Common.{◌≡◌, ◌⊎◌, ⊎_elim, ℕ, List, [], ◌∷◌, inl, inr, refl, sym, ap, subst, ◌∙◌}
use Rattle.std.specs.List.{AllByRecursion, slice_set}
use Rattle.headline.specs.Managers.{phase_at, slot_in}
use Rattle.manager_moves.specs.Moves.{Answered, ManagerEventsAreMoves, NotServing, Said, Turn, took}
use Rattle.manager_moves.specs.Moves.Turn.{Falls, Learns, ServesOn, Wakes}
use Rattle.manager_node.specs.declared.manager.Manager.{Manager}
use Rattle.manager_node.specs.declared.phase.Phase.{Phase}
use Rattle.manager_node.specs.declared.phase.Phase.TheVariants.{Down, Serving as Serves, Waiting}
use Rattle.manager_node.specs.Events.{happens}
use Rattle.manager_node.specs.Phases.{lasting_of}
use Rattle.manager_serving.specs.declared.serving.Serving.{Serving}
use Rattle.manager_slots.specs.declared.slot_phase.SlotPhase.{SlotPhase}
use Rattle.manager_slots.specs.declared.slot_phase.SlotPhase.TheVariants as phase
use Rattle.manager_slots.specs.declared.slot_phase.Taking.{Taking}
use Rattle.manager_slots.specs.SlotTable.{slot_table_unknown}
use Rattle.manager_slots.specs.Takeovers.{Done, asker, say_each, takeovers_say}
use Rattle.node_base.specs.declared.effects.Effect.{Effect}
use Rattle.node_base.specs.declared.effects.Effect.TheVariants.{Lose}
use Rattle.node_slots.proofs.node_tie.StoreFrames.{packets_do}
use Rattle.takeover.specs.declared.input.In.{In as TakeIn}
use Rattle.takeover.specs.declared.output.Out.{Out}
use Rattle.takeover.specs.declared.output.Out.TheVariants as out
use Rattle.takeover.specs.Transition.{transition}
use Rattle.token_protocol.specs.Basics.{In}
use Rattle.wire_msg.specs.declared.packet.Do.{Do}
use Rattle.wire_msg.specs.declared.packet.Packet.{Packet}
use Rattle.xfs_base.proofs.Alls.{all_weaker}
use Rattle.xfs_base.specs.Blocks.{slot_of}
use Rattle.xfs_base.specs.declared.node.NodeId.TheVariants as names
use Rattle.xfs_base.specs.declared.segment.SegName.{SegName}
use Rattle.run_losses.proofs.gone_law.Alone.{NoneLost, says_alone}
use Rattle.run_losses.proofs.gone_law.Slots.{EffectGone, IsWhole, TableRests, WasBroken, each_whole, gones_before, moves_rest, put_by, said_none, whole_at}
use Rattle.run_losses.specs.gone_law.Gones.{GonesAreOfBroken, IfGone, IsOfBroken}

same_epoch : (a b : ℕ) (x y : SegName) → phase.Broken a x ≡ phase.Broken b y → a ≡ b
same_epoch a b x y e = cc

same_name : (a b : ℕ) (x y : SegName) → phase.Broken a x ≡ phase.Broken b y → x ≡ y
same_name a b x y e = cc

-- after a restart no slot is broken
unknown_whole : (k : ℕ) → IsWhole (phase_at slot_table_unknown k)
unknown_whole k = whole_at slot_table_unknown (tt, (tt, (tt, (tt, (tt, (tt, (tt, (tt, tt)))))))) k

module _ (what : Do) where
  -- a slot that was taken over breaks, and that the segment is lost is said, and nothing else
  pub record Breaks (p : Phase) (k epoch : ℕ) (name : SegName) (outs : List Effect) : Type 0 where
    pub serving : Serving
    pub serves : p ≡ Serves serving
    pub taking : Taking
    pub given : TakeIn
    pub answered : Answered what serving k taking given
    pub alone : (transition taking.take given).outs ≡ out.Lost name ∷ []
    pub in_epoch : taking.epoch ≡ epoch
    pub says : In (Lose name) outs

  abbrev pub BrokenFrom : Phase → ℕ → SlotPhase → List Effect → Type 0
  BrokenFrom p k q outs = (epoch : ℕ) (name : SegName) → q ≡ phase.Broken epoch name → (slot_in k p ≡ phase.Broken epoch name) ⊎ Breaks p k epoch name outs

  pub record Turned (p q : Phase) (outs : List Effect) : Type 0 where
    pub broken : (k : ℕ) → BrokenFrom p k (slot_in k q) outs
    pub gones : AllByRecursion (EffectGone (IsOfBroken p)) outs

  -- ---- a takeover has its answer: it says that the segment is lost, and nothing else, or nothing of it

  module _ (s : Serving) (k : ℕ) (x : Taking) (given : TakeIn) (a : Answered what s k x given) where
    after : List Out → Done
    after outs = say_each k (asker (phase.Taking (record x { take = (transition x.take given).state })) s.lasting.questions) outs

    abbrev Ends : Done → Type 0
    Ends d = Turned (Serves s)
        (Serves (record s { slots = slice_set s.slots k d.state.phase; lasting = record s.lasting { questions = d.state.questions } })) d.outs

    put_so : (d : Done) → BrokenFrom (Serves s) k d.state.phase d.outs → AllByRecursion (EffectGone (WasBroken s.slots)) d.outs → Ends d
    put_so d own gones = record {
      broken = put_by s.slots k (phase.Taking x) d.state.phase a.here (λ m z. BrokenFrom (Serves s) m z d.outs) own (λ m epoch name fact. inl fact);
      gones = gones;
    }

    silent : NoneLost (transition x.take given).outs → Ends (after (transition x.take given).outs)
    unfolding after
    silent none =
        let e = each_whole (WasBroken s.slots) k (asker (phase.Taking (record x { take = (transition x.take given).state })) s.lasting.questions)
        (transition x.take given).outs none tt in
        put_so (after (transition x.take given).outs) (λ epoch name fact. absurd (subst IsWhole fact e.0)) e.1

    lost : (name : SegName) → (transition x.take given).outs ≡ out.Lost name ∷ [] → Ends (after (out.Lost name ∷ []))
    unfolding after say_each takeovers_say
    lost name alone = put_so (after (out.Lost name ∷ []))
        (λ epoch other fact. inr (record {
          serving = s;
          serves = refl;
          taking = x;
          given = given;
          answered = a;
          alone = alone ∙ ap (λ n. out.Lost n ∷ []) (same_name x.epoch epoch name other fact);
          in_epoch = same_epoch x.epoch epoch name other fact;
          says = inl (ap Lose (sym (same_name x.epoch epoch name other fact)));
        })) (tt, tt)

    learns : Ends (took k (asker (phase.Taking x) s.lasting.questions) x given)
    unfolding after
    learns = ⊎_elim silent (λ l. subst (λ outs. Ends (after outs)) (sym l.1) (lost l.0 l.1)) (says_alone x.take given)

  -- ---- all events

  whole_in : (k : ℕ) (q : Phase) → NotServing q → IsWhole (slot_in k q)
  whole_in k (Down life) down = tt
  whole_in k (Waiting life hello) down = tt
  whole_in k (Serves s) down = absurd down

  turned : (p q : Phase) (o : List Effect) → Turn what p q o → Turned p q o
  turned p q o (ServesOn {s = s} {t = t} m) =
      let r = moves_rest what s t o m in record { broken = λ k epoch name fact. inl (r.kept k epoch name fact); gones = r.gones }
  turned p q o (Learns s k x given a) = learns s k x given a
  turned p q o (Falls a b m down number said) = record {
    broken = λ k epoch name fact. absurd (subst IsWhole fact (whole_in k q down));
    gones = all_weaker Said (EffectGone (IsOfBroken p)) (said_none (IsOfBroken p)) o said;
  }
  turned p q o (Wakes life asking {s = s} {t = t} fresh none new m) =
      let r = subst (λ z. TableRests z t.slots o) fresh (moves_rest what s t o m) in
      record {
        broken = λ k epoch name fact. absurd (subst IsWhole (r.kept k epoch name fact) (unknown_whole k));
        gones = gones_before (WasBroken slot_table_unknown) (IsOfBroken p)
            (λ g fact. absurd (subst IsWhole fact (unknown_whole (slot_of g.block.ino.0)))) o r.gones;
      }

module _ (moves : ManagerEventsAreMoves) where
  pub manager_turned : (m : Manager) (what : Do) → Turned what m.phase (happens m what).state (happens m what).outs
  manager_turned m what = turned what m.phase _ _ (moves m what)

  pub gones_are_of_broken : GonesAreOfBroken
  gones_are_of_broken m what =
      packets_do (λ (p : Packet). IfGone (IsOfBroken m.phase) p.body) (EffectGone (IsOfBroken m.phase)) (names.Manager (lasting_of m.phase).number)
      (λ to said so. so) (happens m what).outs (manager_turned m what).gones
