-- What a manager says is lost while it takes a slot over was torn, at a moment since it took the slot over in its epoch, or servers have been told to delete
-- it.
use Rattle.std.proofs.Common.{◌≡◌, ⊎_elim, ℕ, suc, ◌≤◌, List, [], ◌∷◌, ◌++◌, Some, ◌+◌, map, drop, length, slice_get, inl, inr, refl, sym, ap, subst, ◌∙◌, arith}
use Rattle.std.specs.List.{AllByRecursion}
use Rattle.core_world.specs.AnyNode.{any_start, any_step}
use Rattle.core_world.specs.declared.any_node.AnyNode.{AnyNode}
use Rattle.log_tie.specs.Setting.{Setting}
use Rattle.manager_node.specs.declared.phase.Phase.{Phase}
use Rattle.manager_node.specs.Events.{happens}
use Rattle.manager_node.specs.Phases.{lasting_of}
use Rattle.manager_slots.specs.declared.slot_phase.SlotPhase.TheVariants as phase
use Rattle.node_base.specs.declared.effects.Effect.{Effect}
use Rattle.node_base.specs.declared.effects.Effect.TheVariants.{Send, Answer, Lose, Does}
use Rattle.node_base.specs.Effects.{acts_of}
use Rattle.headline.specs.Managers.{slot_in}
use Rattle.run_laws.specs.reading_law.Readings.{ReadingsCame, RunsReadWhatCame}
use Rattle.segment_reading.specs.declared.target.Target.{Target}
use Rattle.takeover.specs.Transition.{target_of}
use Rattle.token_protocol.specs.Basics.{In}
use Rattle.run_losses.proofs.torn_law.Counts.{Still, TurnAt, became, moment_next}
use Rattle.version_model.specs.declared.act.Act.{Act}
use Rattle.version_model.specs.declared.act.Act.TheVariants as act
use Rattle.wire_msg.specs.declared.body.Body.TheVariants as body
use Rattle.wire_msg.specs.declared.packet.Packet.{Packet}
use Rattle.world_base.specs.declared.estate.Estate.{Estate}
use Rattle.world_base.specs.declared.event.Event.{Event}
use Rattle.world_base.specs.declared.world.World.{World}
use Rattle.world_base.specs.Events.{node_of, what_of}
use Rattle.world_base.specs.NextWorld.{sent_at}
use Rattle.world_base.specs.Runs.{IsRun}
use Rattle.headline.specs.Moments.{acts_in, moment}
use Rattle.run_laws.specs.world_logs.Lines.{HasLines, RunsHaveLines}
use Rattle.headline.specs.Logs.{IsThere}
use Rattle.headline.specs.Logs.Role.{OfManager}
use Rattle.headline.specs.Deletions.{Deletes}
use Rattle.xfs_base.specs.declared.node.NodeId.{NodeId}
use Rattle.xfs_base.specs.declared.node.NodeId.TheVariants as names
use Rattle.xfs_base.specs.declared.segment.SegName.{SegName}
use Rattle.run_losses.proofs.missing_law.Deleting.{deleted_or_not}
use Rattle.run_losses.proofs.missing_law.Moments.{Deleted, sent_on}
use Rattle.run_losses.proofs.missing_law.Readings.{TornUnlessDeleted}
use Rattle.run_losses.proofs.taking_law.Always.{all_true, phase_fine, slot_is}
use Rattle.run_losses.proofs.taking_law.ManagerCounts.{CameBy, IsNamed, NodeFine, Turned, all_good, turned}
use Rattle.run_losses.proofs.taking_law.ManagerTurns.{EffectDone}
use Rattle.run_losses.proofs.taking_law.Quiet.{NotLost}
use Rattle.run_losses.proofs.taking_law.Reading.{reads_at}
use Rattle.run_losses.proofs.taking_law.SlotReads.{LostFrom}
use Rattle.run_losses.proofs.taking_law.SlotTurns.{PresentFine, TakingFine}
use Rattle.run_losses.proofs.taking_law.Truths.{WasLost, lost_true}
use Rattle.run_losses.specs.taking_law.Takings.{TakeoversLoseWhatIsTorn}
use Rattle.headline.specs.Takeovers.{WasTornOrDeleted, slot_at, slot_of}

-- ---- what is done in an event

pub done_after : {X : Type 0} (xs ys : List X) → drop (length xs) (xs ++ ys) ≡ ys
done_after [] ys = refl
done_after (x ∷ xs) ys = done_after xs ys

none_after : {X : Type 0} (xs : List X) → drop (length xs) xs ≡ []
none_after [] = refl
none_after (x ∷ xs) = none_after xs

module _ (e : Estate AnyNode) (j count : ℕ) (before : Phase) (last : ℕ) (after : Phase) (name : SegName) where
  abbrev Found : Type 0
  Found = (k : ℕ) × LostFrom (IsNamed e) (CameBy e j count) (slot_in k before) name

  same_loss : (owner node : NodeId) (seg : SegName) → act.Lost owner name ≡ act.Lost node seg → seg ≡ name
  same_loss owner node seg e = cc

  -- what says that a segment is lost is a takeover
  said_lost : (owner node : NodeId) (outs : List Effect) → AllByRecursion (EffectDone (IsNamed e) (CameBy e j count) before last after) outs
      → In (act.Lost owner name) (acts_of node outs) → Found
  said_lost owner node [] all fact = absurd fact
  said_lost owner node (Send to said ∷ outs) all fact = said_lost owner node outs all.1 fact
  said_lost owner node (Answer item a ∷ outs) all (inl e) = absurd cc
  said_lost owner node (Answer item a ∷ outs) all (inr fact) = said_lost owner node outs all.1 fact
  said_lost owner node (Lose seg ∷ outs) all (inl e_) =
      subst (λ n. (k : ℕ) × LostFrom (IsNamed e) (CameBy e j count) (slot_in k before) n) (same_loss owner node seg e_) all.0
  said_lost owner node (Lose seg ∷ outs) all (inr fact) = said_lost owner node outs all.1 fact
  said_lost owner node (Does a ∷ outs) all (inl e) = absurd (subst NotLost (sym e) all.0)
  said_lost owner node (Does a ∷ outs) all (inr fact) = said_lost owner node outs all.1 fact

module _ (base : Setting) (e : Estate AnyNode) (run : IsRun any_step any_start e.script e.events e.world) (lines : HasLines base e) (j : ℕ)
    (is_there : IsThere e.script.setup.clients e.script.setup.managers (OfManager j)) (came : (k : ℕ) → ReadingsCame e.world (moment e k)) (count : ℕ)
    (event : Event) where
  deletes_so : (at : ℕ) → at ≤ count → (name : SegName) → Deleted e at name → Deletes name (moment e count).sent
  deletes_so at limit name d =
      (d.packet, sent_on e at count limit d.packet d.among, d.tells ∙ ap (λ (n : SegName). body.Delete (record { name = n })) d.named)

  module _ (new : List Packet) (acts : List Act) (u : Turned base e run lines j is_there count event new acts) (name : SegName) (k : ℕ)
      (l : LostFrom (IsNamed e) (CameBy e j count) (slot_in k u.node.phase) name) where
    its_slot : slot_at e j k count ≡ phase.Taking l.taking
    its_slot = slot_is base e run lines j is_there k count ∙ (ap (slot_of k) u.was ∙ l.takes)

    -- what is read is the segment of its source
    looks : l.took.reading.target ≡ target_of l.source
    looks =
        let fine : TakingFine (IsNamed e) (lasting_of u.node.phase).questions.last l.taking =
        phase_fine (IsNamed e) u.node.phase (subst (NodeFine e) u.was (all_good base e run lines j is_there count).fine) k l.taking l.takes in
        (subst (PresentFine l.taking.take) l.took.was fine.reads).looks

    was_lost : WasLost e j base run lines is_there count k l.taking (all_true base e run lines j is_there count k l.taking its_slot) l.took.reading.target
    was_lost =
        lost_true e j base run lines is_there count k l.taking (all_true base e run lines j is_there count k l.taking its_slot) l.source l.took
        (l.taking.take.ask + 1) l.lost

    -- what is lost was torn, or was deleted; and it is read in this slot, in the epoch in which that is taken over
    pub earned : (was : WasTornOrDeleted e j count name) × (was.slot ≡ k) × (was.epoch ≡ l.taking.epoch)
    earned =
        let w = was_lost in
        let target : Target = l.took.reading.target in
        let t : TornUnlessDeleted e w.span.since count target.seg = w.torn in (
          record {
            slot = k;
            epoch = l.taking.epoch;
            segment = target.seg;
            named = l.named ∙ sym (ap (λ (x : Target). x.seg.name) looks);
            when = t.first;
            before = (let a = t.follows in let b = t.ends in omega arith);
            reads = λ i from to.
                reads_at base e run lines j is_there came i k l.taking.epoch target (w.span.reads i (let a = t.begins in omega arith) to);
            lost = ⊎_elim (λ d. inr (deletes_so t.second t.ends target.seg.name d)) (λ kept. inl (t.torn kept)) (deleted_or_not e t.second target.seg.name);
          },
          refl,
          refl,
        )

  module _ (fact : slice_get e.events count ≡ Some event) (own : names.Manager j ≡ node_of event) (name : SegName)
      (among : In (act.Lost (names.Manager j) name) (acts_in (moment e count) event)) where
    acts_now : acts_in (moment e count) event ≡ drop (length (moment e count).acts) (moment e (suc count)).acts
    acts_now = ap (λ (v : World AnyNode). drop (length (moment e count).acts) v.acts) (sym (moment_next e count event fact))

    still_lost : Still (moment e count) (moment e (suc count)).nodes (moment e (suc count)).sent (moment e (suc count)).acts → WasTornOrDeleted e j count name
    still_lost still =
        let none : acts_in (moment e count) event ≡ [] =
        acts_now ∙ (ap (drop (length (moment e count).acts)) still.acts_are ∙ none_after (moment e count).acts) in
        absurd (subst (In (act.Lost (names.Manager j) name)) none among)

    turn_lost : TurnAt (moment e count) event (moment e (suc count)).nodes (moment e (suc count)).sent (moment e (suc count)).acts
        → WasTornOrDeleted e j count name
    turn_lost t =
        let u = turned base e run lines j is_there count (all_good base e run lines j is_there count) event fact t own in
        let acts : acts_in (moment e count) event ≡ acts_of (names.Manager (lasting_of u.node.phase).number) (happens u.node (what_of event)).outs =
        acts_now ∙ (ap (drop (length (moment e count).acts)) t.acts_are ∙ (done_after (moment e count).acts (any_step t.node (what_of event)).acts ∙ u.acts)) in
        let found = said_lost e j count u.node.phase (lasting_of (happens u.node (what_of event)).state).questions.last
        (happens u.node (what_of event)).state name (names.Manager j)
        (names.Manager (lasting_of u.node.phase).number) (happens u.node (what_of event)).outs u.turns.does
        (subst (In (act.Lost (names.Manager j) name)) acts among) in
        (earned (map (sent_at t.clock) (any_step t.node (what_of event)).packets) (any_step t.node (what_of event)).acts u name found.0 found.1).0

    pub loses_torn : WasTornOrDeleted e j count name
    loses_torn = ⊎_elim still_lost turn_lost (became e count event fact)

-- ---- of every run

pub record Below : Type 0 where
  pub setting : Setting
  pub lines : RunsHaveLines
  pub came : RunsReadWhatCame

pub takeovers_lose : Below → TakeoversLoseWhatIsTorn
takeovers_lose below e ok run j is_there count event fact own name among =
    loses_torn below.setting e run (below.lines below.setting e ok run) j is_there (below.came e ok run) count event fact own name among
