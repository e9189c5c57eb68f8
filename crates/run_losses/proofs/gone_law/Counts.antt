-- At each count of every run: a slot that is broken was lost before, while it was taken over in its epoch, and so was what each Gone names.
use Rattle.std.proofs.Common.{◌≡◌, ⊎_elim, ℕ, suc, List, [], ◌∷◌, ◌++◌, Option, Some, map, drop, length, slice_get, ◌==◌, inl, inr, sym, ap, subst, ◌∙◌, arith}
use Rattle.std.specs.Prelude.{All}
use Rattle.core_world.specs.AnyNode.{any_start, any_step}
use Rattle.core_world.specs.declared.any_node.AnyNode.{AnyNode}
use Rattle.core_world.specs.declared.any_node.AnyNode.TheVariants as any
use Rattle.log_tie.specs.Setting.{Setting}
use Rattle.manager_moves.specs.Moves.{ManagerEventsAreMoves}
use Rattle.manager_map.specs.Slots.{entry_at, manager_map_start}
use Rattle.manager_node.specs.declared.manager.Manager.{Manager as ManagerNode}
use Rattle.manager_node.specs.Events.{manager_start, happens}
use Rattle.manager_node.specs.Phases.{Went_to, lasting_of}
use Rattle.manager_slots.specs.declared.slot_phase.SlotPhase.TheVariants as phase
use Rattle.manager_slots.specs.declared.slot_phase.Taking.{Taking}
use Rattle.manager_slots.specs.Slots.{first_active}
use Rattle.manager_slots.specs.SlotTable.{first_phase, slot_table_first}
use Rattle.node_base.specs.declared.effects.Effect.{Effect}
use Rattle.node_base.specs.declared.effects.Effect.TheVariants.{Send, Answer, Lose, Does}
use Rattle.node_base.specs.Effects.{acts_of}
use Rattle.headline.specs.Managers.{slot_in}
use Rattle.run_laws.specs.reading_law.Readings.{ReadingsCame}
use Rattle.token_protocol.specs.Basics.{In}
use Rattle.version_model.specs.declared.act.Act.TheVariants as act
use Rattle.version_model.specs.declared.work.Work.{Work}
use Rattle.wire_msg.specs.declared.body.Body.TheVariants as body
use Rattle.wire_msg.specs.declared.packet.Packet.{Packet}
use Rattle.wire_msg.specs.declared.tokens.Gone.{Gone}
use Rattle.world_base.specs.Cluster.{cluster_of, place_of}
use Rattle.world_base.specs.declared.cluster.Cluster.{Cluster}
use Rattle.world_base.specs.declared.estate.Estate.{Estate}
use Rattle.world_base.specs.declared.event.Event.{Event}
use Rattle.world_base.specs.declared.world.World.{World}
use Rattle.world_base.specs.Events.{node_of, what_of}
use Rattle.world_base.specs.Items.{items_of}
use Rattle.world_base.specs.NextWorld.{sent_at}
use Rattle.world_base.specs.Runs.{IsRun}
use Rattle.run_laws.proofs.world_law.Sent.{at_clock, in_append}
use Rattle.headline.specs.Moments.{acts_in, moment, node_in}
use Rattle.run_laws.specs.world_logs.Lines.{HasLines}
use Rattle.headline.specs.Logs.{IsThere}
use Rattle.headline.specs.Logs.Role.{OfManager}
use Rattle.xfs_base.proofs.Booleans.{by_test}
use Rattle.xfs_base.specs.Blocks.{slot_of as slot_of_ino}
use Rattle.xfs_base.specs.declared.node.NodeId.{NodeId}
use Rattle.xfs_base.specs.declared.node.NodeId.TheVariants as names
use Rattle.xfs_base.specs.declared.segment.SegName.{SegName}
use Rattle.xfs_base.specs.declared.setup.Setup.{Setup}
use Rattle.run_losses.proofs.torn_law.Counts.{TurnAt, moment_next}
use Rattle.run_losses.proofs.taking_law.Always.{slot_is}
use Rattle.run_losses.proofs.taking_law.Losing.{done_after, earned}
use Rattle.run_losses.proofs.taking_law.ManagerTurns.{PhaseFine}
use Rattle.run_losses.proofs.taking_law.ServingTurns.{Fine}
use Rattle.run_losses.proofs.taking_law.SlotReads.{LostFrom}
use Rattle.run_losses.proofs.taking_law.ManagerCounts.{CameBy, IsManager, IsNamed, NodeFine, Turned as NodeTurned, all_good, do_brought, is_manager, turned}
use Rattle.headline.specs.Takeovers.{slot_at, slot_of}
use Rattle.run_losses.proofs.gone_law.Losing.{lost_from}
use Rattle.run_losses.proofs.gone_law.Breaking.{Breaks, Turned, gones_are_of_broken, manager_turned}
use Rattle.run_losses.proofs.gone_law.Slots.{IsWhole, here_is, whole_at}
use Rattle.run_losses.specs.gone_law.Gones.{BrokenSlotsWereLost, GonesWereLost, IfGone, IsOfBroken}
use Rattle.headline.specs.Reads.{SaidLost}
use Rattle.run_losses.proofs.torn_law.Course.{each_good, first_here, none_sent, was}

same_taking : (x y : Taking) → phase.Taking x ≡ phase.Taking y → x ≡ y
same_taking x y e = cc

same_manager : (x y : ManagerNode) → any.Manager x ≡ any.Manager y → x ≡ y
same_manager x y e = cc

same_node : (x y : AnyNode) → Some x ≡ Some y → x ≡ y
same_node x y e = cc

-- what a node says is lost it acts
module _ (owner node : NodeId) (same : owner ≡ node) (name : SegName) where
  same_name : (seg : SegName) → Lose name ≡ Lose seg → name ≡ seg
  same_name seg e = cc

  lost_acts : (outs : List Effect) → In (Lose name) outs → In (act.Lost owner name) (acts_of node outs)
  lost_acts [] fact = absurd fact
  lost_acts (Send to said ∷ outs) (inl e) = absurd cc
  lost_acts (Send to said ∷ outs) (inr fact) = lost_acts outs fact
  lost_acts (Answer item a ∷ outs) (inl e) = absurd cc
  lost_acts (Answer item a ∷ outs) (inr fact) = inr (lost_acts outs fact)
  lost_acts (Lose seg ∷ outs) (inl e) =
      inl (subst (λ (n : NodeId). act.Lost owner name ≡ act.Lost n seg) same (ap (act.Lost owner) (same_name seg e)))
  lost_acts (Lose seg ∷ outs) (inr fact) = inr (lost_acts outs fact)
  lost_acts (Does a ∷ outs) (inl e) = absurd cc
  lost_acts (Does a ∷ outs) (inr fact) = inr (lost_acts outs fact)

-- ---- at the start of a run no slot is broken

first_whole : (number : ℕ) (setup : Setup) (works : List Work) (k : ℕ) → IsWhole (slot_in k (manager_start number setup works).phase)
first_whole number setup works k =
    whole_at (slot_table_first number setup.managers) (one 0, (one 1, (one 2, (one 3, (one 4, (one 5, (one 6, (one 7, tt)))))))) k
  where
    one : (slot : ℕ) → IsWhole (first_phase number (manager_map_start setup.managers) slot)
    one slot = by_test IsWhole ((entry_at (manager_map_start setup.managers) (slot_of_ino slot)).manager == number) first_active (phase.Away 1) (λ _. tt) (λ _. tt)

module _ (moves : ManagerEventsAreMoves) (base : Setting) (e : Estate AnyNode) (run : IsRun any_step any_start e.script e.events e.world)
    (lines : HasLines base e) (j : ℕ) (is_there : IsThere e.script.setup.clients e.script.setup.managers (OfManager j))
    (came : (k : ℕ) → ReadingsCame e.world (moment e k)) where
  abbrev k_of : Cluster
  k_of = cluster_of e.script.setup

  abbrev Here : ℕ → Option AnyNode
  Here count = node_in (moment e count).nodes (place_of k_of (names.Manager j))

  abbrev Sent : ℕ → List Packet
  Sent count = (moment e count).sent

  pub record Good (count : ℕ) : Type 0 where
    pub slots : (slot epoch : ℕ) (name : SegName) → slot_at e j slot count ≡ phase.Broken epoch name → SaidLost e j count slot epoch name
    pub gones : (p : Packet) (g : Gone) → In p (Sent count) → p.from ≡ names.Manager j → p.body ≡ body.Gone g
        → SaidLost e j count (slot_of_ino g.block.ino.0) g.epoch g.seg

  its_slot : (slot count : ℕ) → slot_at e j slot count ≡ slot_of slot (Here count)
  its_slot slot count = slot_is base e run lines j is_there slot count

  later : (count slot epoch : ℕ) (name : SegName) → SaidLost e j count slot epoch name → SaidLost e j (suc count) slot epoch name
  later count slot epoch name s = record {
    when = s.when;
    before = (let b = s.before in omega arith);
    event = s.event;
    happens = s.happens;
    own = s.own;
    says = s.says;
    was = s.was;
    of_slot = s.of_slot;
    in_epoch = s.in_epoch;
    broke = s.broke;
  }

  -- ---- nothing happens to the manager

  aside : (count : ℕ) → Good count → (new : List Packet) → Sent (suc count) ≡ Sent count ++ new → Here (suc count) ≡ Here count
      → ((p : Packet) → In p new → p.from ≡ names.Manager j → ⊥) → Good (suc count)
  aside count good new sent same others = record {
    slots = λ slot epoch name fact. later count slot epoch name
        (good.slots slot epoch name (its_slot slot count ∙ (ap (slot_of slot) (sym same) ∙ (sym (its_slot slot (suc count)) ∙ fact))));
    gones = λ p g among from tells. later count (slot_of_ino g.block.ino.0) g.epoch g.seg
        (⊎_elim (λ old. good.gones p g old from tells) (λ late. absurd (others p late from)) (in_append (Sent count) new p (subst (In p) sent among)));
  }

  -- ---- it has its turn

  module _ (count : ℕ) (good : Good count) (event : Event) (fact : slice_get e.events count ≡ Some event)
      (t : TurnAt (moment e count) event (moment e (suc count)).nodes (moment e (suc count)).sent (moment e (suc count)).acts) where
    module _ (own : names.Manager j ≡ node_of event) where
      u : NodeTurned base e run lines j is_there count event (map (sent_at t.clock) (any_step t.node (what_of event)).packets)
          (any_step t.node (what_of event)).acts
      u = turned base e run lines j is_there count (all_good base e run lines j is_there count) event fact t own

      abbrev went : Went_to
      went = happens u.node (what_of event)

      turn : Turned (what_of event) u.node.phase (happens u.node (what_of event)).state (happens u.node (what_of event)).outs
      turn = manager_turned moves u.node (what_of event)

      slot_before : (slot : ℕ) → slot_at e j slot count ≡ slot_in slot u.node.phase
      slot_before slot = its_slot slot count ∙ ap (slot_of slot) u.was

      slot_after : (slot : ℕ) → slot_at e j slot (suc count) ≡ slot_in slot (happens u.node (what_of event)).state
      slot_after slot = its_slot slot (suc count) ∙ ap (slot_of slot) u.now

      number : (lasting_of u.node.phase).number ≡ j
      number =
          let m : IsManager base e run lines j is_there (any.Manager u.node) = is_manager base e run lines j is_there count (any.Manager u.node) u.was in
          ap (λ (n : ManagerNode). (lasting_of n.phase).number) (same_manager u.node m.node m.kind) ∙ m.number

      acts_are : acts_in (moment e count) event ≡ acts_of (names.Manager (lasting_of u.node.phase).number) (happens u.node (what_of event)).outs
      acts_are =
          ap (λ (v : World AnyNode). drop (length (moment e count).acts) v.acts) (sym (moment_next e count event fact))
          ∙ (ap (drop (length (moment e count).acts)) t.acts_are ∙ (done_after (moment e count).acts (any_step t.node (what_of event)).acts ∙ u.acts))

      -- the slot breaks in this event
      module _ (slot epoch : ℕ) (name : SegName) (broke : slot_at e j slot (suc count) ≡ phase.Broken epoch name)
          (b : Breaks (what_of event) u.node.phase slot epoch name (happens u.node (what_of event)).outs) where
        fine : Fine (IsNamed e) b.serving
        fine = subst (PhaseFine (IsNamed e)) b.serves (subst (NodeFine e) u.was (all_good base e run lines j is_there count).fine)

        l : LostFrom (IsNamed e) (CameBy e j count) (slot_in slot u.node.phase) name
        l = subst (λ p. LostFrom (IsNamed e) (CameBy e j count) (slot_in slot p) name) (sym b.serves)
            (lost_from (IsNamed e) (CameBy e j count) (what_of event) (do_brought base e run lines j is_there count event fact own) b.serving fine slot
            b.taking b.given b.answered name b.alone)

        taken : slot_in slot u.node.phase ≡ phase.Taking b.taking
        taken = ap (slot_in slot) b.serves ∙ here_is b.serving.slots slot (phase.Taking b.taking) b.answered.here

        breaks : SaidLost e j (suc count) slot epoch name
        breaks =
            let w = earned base e run lines j is_there came count event (map (sent_at t.clock) (any_step t.node (what_of event)).packets)
            (any_step t.node (what_of event)).acts u name slot l in
            record {
              when = count;
              before = omega arith;
              event = event;
              happens = fact;
              own = own;
              says = subst (In (act.Lost (names.Manager j) name)) (sym acts_are)
                  (lost_acts (names.Manager j) (names.Manager (lasting_of u.node.phase).number) (ap names.Manager (sym number)) name
                  (happens u.node (what_of event)).outs b.says);
              was = w.0;
              of_slot = w.1;
              in_epoch = w.2 ∙ (ap (λ (x : Taking). x.epoch) (same_taking l.taking b.taking (sym l.takes ∙ taken)) ∙ b.in_epoch);
              broke = broke;
            }

      its_node : t.node ≡ any.Manager u.node
      its_node =
          same_node t.node (any.Manager u.node) (sym (was e (names.Manager j) count event t own) ∙ u.was)

      -- what it sends now is of slots that were broken before
      sends_of : (p : Packet) → In p (map (sent_at t.clock) (any_step t.node (what_of event)).packets) → IfGone (IsOfBroken u.node.phase) p.body
      sends_of p late =
          at_clock t.clock (λ (p : Packet). IfGone (IsOfBroken u.node.phase) p.body) (λ (p : Packet). IfGone (IsOfBroken u.node.phase) p.body) (λ q h. h)
          (any_step t.node (what_of event)).packets
          (subst (λ (x : AnyNode). All (λ (p : Packet). IfGone (IsOfBroken u.node.phase) p.body) (any_step x (what_of event)).packets) (sym its_node)
          (gones_are_of_broken moves u.node (what_of event))) p late

      own_turn : Good (suc count)
      own_turn = record {
        slots = λ slot epoch name at. ⊎_elim
            (λ was. later count slot epoch name (good.slots slot epoch name (slot_before slot ∙ was)))
            (breaks slot epoch name at)
            (turn.broken slot epoch name (sym (slot_after slot) ∙ at));
        gones = λ p g among from tells. later count (slot_of_ino g.block.ino.0) g.epoch g.seg
            (⊎_elim (λ old. good.gones p g old from tells)
            (λ late. good.slots (slot_of_ino g.block.ino.0) g.epoch g.seg
            (slot_before (slot_of_ino g.block.ino.0) ∙ subst (IfGone (IsOfBroken u.node.phase)) tells (sends_of p late)))
            (in_append (Sent count) (map (sent_at t.clock) (any_step t.node (what_of event)).packets) p (subst (In p) t.sent_are among)));
      }

  -- ---- each count

  whole_first : (slot : ℕ) → IsWhole (slot_at e j slot 0)
  whole_first slot =
      subst IsWhole (sym (its_slot slot 0))
      (first_here e (names.Manager j) (λ o. IsWhole (slot_of slot o)) tt
      (first_whole j e.script.setup (items_of e.script.lines (names.Manager j)) slot))

  pub always_good : (count : ℕ) → Good count
  always_good =
      each_good e (names.Manager j) base lines Good aside (λ count good event fact t own. own_turn count good event fact t own) (record {
        slots = λ slot epoch name fact. absurd (subst IsWhole fact (whole_first slot));
        gones = λ p g among. absurd (subst (In p) (none_sent e (names.Manager j)) among);
      })

  pub broken_were_lost : BrokenSlotsWereLost e j
  broken_were_lost count = (always_good count).slots

  pub gones_were_lost : GonesWereLost e j
  gones_were_lost count = (always_good count).gones
