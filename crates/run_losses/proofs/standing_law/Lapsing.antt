-- An epoch in which a manager broke a slot has lapsed: nobody manages the slot in it, then or later, and the horizons with which it began stay as they were.
use Rattle.std.proofs.Common.{◌≡◌, ◌⊎◌, ⊎_elim, ℕ, zero, suc, ◌<◌, ◌≤◌, ◌==◌, Bool, true, false, Option, None, Some, slice_get, inl, inr, refl, sym, ap, subst, ◌∙◌, arith}
use Rattle.std.proofs.lemmas.Bool.Decides.{nat_tests}
use Rattle.std.proofs.lemmas.Bool.{eqb-true}
use Rattle.core_world.specs.AnyNode.{any_start, any_step}
use Rattle.core_world.specs.declared.any_node.AnyNode.{AnyNode}
use Rattle.core_world.specs.declared.any_node.AnyNode.TheVariants as any
use Rattle.headline.specs.Indexes.{of_log}
use Rattle.manager_node.specs.declared.manager.Manager.{Manager as ManagerNode}
use Rattle.manager_node.specs.declared.phase.Phase.{Phase}
use Rattle.manager_node.specs.declared.phase.Phase.TheVariants.{Down, Waiting, Serving as Serves}
use Rattle.manager_node.specs.Events.{happens, manager_step}
use Rattle.manager_node.specs.Phases.{Went_to, lasting_of}
use Rattle.manager_slots.specs.declared.slot_phase.SlotPhase.{SlotPhase}
use Rattle.manager_slots.specs.declared.slot_phase.SlotPhase.TheVariants as phase
use Rattle.node_logs.proofs.node_log_tie.Others.{same_or_other}
use Rattle.node_slots.specs.node_tie.ManagerEvents.{EventGets, HeldAt, ManagedAt, ManagerEventGoes, ManagerGoes, epoch_in, is_serving, is_waiting}
use Rattle.headline.specs.Managers.{slot_in}
use Rattle.headline.specs.Takeovers.{slot_at, slot_of}
use Rattle.token_law.specs.Net.{Net}
use Rattle.token_manager.specs.SlotState.{SlotState}
use Rattle.run_losses.proofs.torn_law.Counts.{Still, TurnAt, became, cluster_at, may_happen, moment_ended}
use Rattle.run_losses.proofs.torn_law.Turns.{brought}
use Rattle.wire_msg.specs.declared.packet.Do.{Do}
use Rattle.wire_msg.specs.declared.packet.Do.TheVariants.{Begin, Deliver, Tick}
use Rattle.world_base.specs.Cluster.{place_of}
use Rattle.world_base.specs.declared.cluster.Cluster.{Cluster}
use Rattle.world_base.specs.declared.event.Event.{Event}
use Rattle.world_base.specs.declared.world.World.{World}
use Rattle.world_base.specs.Events.{node_of, what_of}
use Rattle.world_base.specs.Runs.{IsRun}
use Rattle.run_laws.proofs.world_law.Gets.{manager_gets}
use Rattle.run_laws.proofs.world_law.Nodes.{here, there}
use Rattle.run_laws.proofs.world_law.RegistryTurns.{held_known}
use Rattle.run_laws.specs.world_law.Standing.{Been, ManagerSees, PastAt, epoch_now, members}
use Rattle.headline.specs.Moments.{moment, node_in}
use Rattle.headline.specs.Logs.{IsThere}
use Rattle.headline.specs.Logs.Role.{OfManager}
use Rattle.run_laws.specs.world_reads.Chains.{Comes, Follows, IsManaged}
use Rattle.run_laws.specs.world_reads.Joint.{Joint, k}
use Rattle.run_laws.specs.world_reads.LoggedRuns.{LoggedRun}
use Rattle.xfs_base.specs.declared.node.NodeId.TheVariants.{Manager}
use Rattle.xfs_base.specs.declared.segment.SegName.{SegName}
use Rattle.xfs_base.specs.Limits.{slot_count}

same_node : (a b : AnyNode) → Some a ≡ Some b → a ≡ b
same_node a b fact = cc

same_manager : (a b : ManagerNode) → Some (any.Manager a) ≡ Some (any.Manager b) → a ≡ b
same_manager a b fact = cc

not_both : {X : Type 0} (o : Option X) (x : X) → o ≡ Some x → o ≡ None → ⊥
not_both o x some none = absurd (let clash : None ≡ Some x = sym none ∙ some in cc)

earlier_count : (a b : ℕ) → (a == b) ≡ false → a < suc b → a < b
earlier_count a b fact less = grind (arith, nat_tests, fact, less)

-- ---- one manager

managed_held : (p : SlotPhase) (e : ℕ) → ManagedAt p e → HeldAt p e
managed_held (phase.Active a) e h = h
managed_held (phase.Taking t) e h = absurd h
managed_held (phase.Away epoch) e h = absurd h
managed_held (phase.Broken epoch seg) e h = absurd h

held_serves : (part : ℕ) (p : Phase) (e : ℕ) → HeldAt (slot_in part p) e → is_serving p ≡ true
held_serves part (Down kept) e h = absurd h
held_serves part (Waiting kept hello) e h = absurd h
held_serves part (Serves s) e h = refl

known_low : (a b : ℕ) → a ≡ b → b ≤ a
known_low a b same = omega arith

-- what it holds it knows of
held_been : (c : Cluster) (part : ℕ) (p : Phase) (e : ℕ) → HeldAt (slot_in part p) e → Been c part p e
held_been c part (Down kept) e h = tt
held_been c part (Waiting kept hello) e h = absurd h
held_been c part (Serves s) e h = known_low (epoch_in part (Serves s)) e (held_known (slot_in part (Serves s)) e h)

away_holds_not : (p : SlotPhase) (epoch : ℕ) (name : SegName) (e : ℕ) → p ≡ phase.Broken epoch name → HeldAt p e → ⊥
away_holds_not (phase.Active a) epoch name e fact h = absurd cc
away_holds_not (phase.Taking t) epoch name e fact h = absurd cc
away_holds_not (phase.Away other) epoch name e fact h = h
away_holds_not (phase.Broken other seg) epoch name e fact h = h

-- in the life in which it was at an epoch, or in a later one, a manager takes no slot over in that epoch anew
none_anew : (c : Cluster) (part limit j : ℕ) (n : Net) (p : Phase) (what : Do) (w : Went_to) → ManagerGoes false (members c part) part limit j n p what w
    → (e life : ℕ) → PastAt c part p life e → (lasting_of w.state).inc ≡ life → (HeldAt (slot_in part p) e → ⊥) → HeldAt (slot_in part w.state) e → ⊥
none_anew c part limit j n p what w go e life past same apart held = ⊎_elim (λ was. apart was.0) (λ new. by p refl new.1 past) (go.taken e held)
  where
    serves : is_serving w.state ≡ true
    serves = held_serves part w.state e held

    waits_not : (q : Phase) → p ≡ q → is_serving q ≡ false → is_waiting q ≡ false → ⊥
    waits_not q fact not_serving not_waiting =
        let o = go.opens serves (ap is_serving fact ∙ not_serving) in
        let waits : is_waiting q ≡ true = ap is_waiting (sym fact ∙ o.was) in
        absurd (let clash : true ≡ false = sym waits ∙ not_waiting in cc)

    by : (q : Phase) → p ≡ q → epoch_in part p < e → PastAt c part p life e → ⊥
    by q fact less (inl before) = (let later = go.later in omega arith)
    by (Down kept) fact less (inr in_life) = waits_not (Down kept) fact refl refl
    by (Waiting kept hello) fact less (inr in_life) = subst (λ (x : Phase). Been c part x e) fact in_life.1
    by (Serves s) fact less (inr in_life) =
        let been : Been c part (Serves s) e = subst (λ (x : Phase). Been c part x e) fact in_life.1 in
        let low : epoch_in part (Serves s) < e = subst (λ (x : Phase). epoch_in part x < e) fact less in
        omega arith

module _ (law : ManagerEventGoes) (logged : LoggedRun) (run : IsRun any_step any_start logged.estate.script logged.estate.events logged.estate.world) (part : ℕ)
    (of_eight : part < slot_count) (j : ℕ) (is_there : IsThere logged.estate.script.setup.clients logged.estate.script.setup.managers (OfManager j)) where
  open logged use {estate as e}

  abbrev cl : Cluster
  cl = k logged part

  module _ (count : ℕ) (b : Joint logged part count) where
    pub node_there : node_in (moment e count).nodes (place_of cl (Manager j)) ≡ Some (any.Manager (b.tok.manager j))
    node_there = b.tokens_stand.placed.managers j is_there.0 is_there.1

    -- what it has of the slot
    pub slot_there : slot_at e j part count ≡ slot_in part (b.tok.manager j).phase
    slot_there =
        ap (slot_of part) (ap (λ c. node_in (moment e count).nodes (place_of c (Manager j))) (cluster_at e count) ∙ node_there)

    sees : ManagerSees cl part b.tok j (b.tok.manager j).phase
    sees = b.tokens_stand.managers j is_there.0 is_there.1

    -- ---- its event

    module _ (event : Event) (fact : slice_get e.events count ≡ Some event) (own : Manager j ≡ node_of event) where
      abbrev what : Do
      what = what_of event

      gets : (x : Do) → what_of event ≡ x
          → EventGets false part (epoch_now cl part b.tok) j b.tok.net (members cl part) (b.tok.manager j).phase x
      gets Begin same = tt
      gets Tick same = tt
      gets (Deliver q) same =
          let f = brought (moment e count) event (may_happen e run count event fact) q same in
          manager_gets cl part b.tok b.tokens_stand.entered j false (b.tok.manager j).phase refl sees q (b.tokens_stand.facts q f.0) (f.1 ∙ sym own) tt

      goes : ManagerGoes false (members cl part) part (epoch_now cl part b.tok) j b.tok.net (b.tok.manager j).phase (what_of event)
          (happens (b.tok.manager j) (what_of event))
      goes =
          law false (members cl part) part (epoch_now cl part b.tok) j b.tok.net (b.tok.manager j) (what_of event) of_eight
          (sym (b.tokens_stand.peers j is_there.0 is_there.1)) sees.agrees sees.within (gets (what_of event) refl)

  -- ---- from one moment to the next

  module _ (count : ℕ) (b : Joint logged part count) (d : Joint logged part (suc count)) where
    -- nothing happens to the manager, or it has its turn
    pub record ItsTurn : Type 0 where
      pub event : Event
      pub occurs : slice_get e.events count ≡ Some event
      pub own : Manager j ≡ node_of event
      pub state : (d.tok.manager j).phase ≡ (happens (b.tok.manager j) (what_of event)).state

    its_turn : (event : Event) → slice_get e.events count ≡ Some event
        → (t : TurnAt (moment e count) event (moment e (suc count)).nodes (moment e (suc count)).sent (moment e (suc count)).acts) → Manager j ≡ node_of event
        → ItsTurn
    its_turn event fact t own = record {
      event = event;
      occurs = fact;
      own = own;
      state = ap (λ (x : ManagerNode). x.phase) (same_manager (d.tok.manager j) (manager_step (b.tok.manager j) (what_of event)).node
          (sym (node_there (suc count) d) ∙ later));
    }
      where
        placed : place_of cl (Manager j) ≡ Some t.place
        placed = ap (place_of cl) own ∙ subst (λ c. place_of c (node_of event) ≡ Some t.place) (cluster_at e count) t.placed

        was : Some (any.Manager (b.tok.manager j)) ≡ Some t.node
        was = sym (node_there count b) ∙ (ap (node_in (moment e count).nodes) placed ∙ t.stands)

        same : any.Manager (b.tok.manager j) ≡ t.node
        same = same_node (any.Manager (b.tok.manager j)) t.node was

        later : node_in (moment e (suc count)).nodes (place_of cl (Manager j)) ≡ Some (any.Manager (manager_step (b.tok.manager j) (what_of event)).node)
        later =
            ap (λ ns. node_in ns (place_of cl (Manager j))) t.nodes_are
            ∙ (here cl (moment e count).nodes (Manager j) t.place placed (any_step t.node (what_of event)).node t.node t.stands
            ∙ ap (λ (x : AnyNode). Some (any_step x (what_of event)).node) (sym same))

    abbrev Stays : Type 0
    Stays = d.tok.manager j ≡ b.tok.manager j

    stays_by : node_in (moment e (suc count)).nodes (place_of cl (Manager j)) ≡ node_in (moment e count).nodes (place_of cl (Manager j)) → Stays
    stays_by same = same_manager (d.tok.manager j) (b.tok.manager j) (sym (node_there (suc count) d) ∙ (same ∙ node_there count b))

    pub stays_or_turns : Stays ⊎ ItsTurn
    stays_or_turns = by (slice_get e.events count) refl
      where
        by_event : (event : Event) → slice_get e.events count ≡ Some event
            → Still (moment e count) (moment e (suc count)).nodes (moment e (suc count)).sent (moment e (suc count)).acts
            ⊎ TurnAt (moment e count) event (moment e (suc count)).nodes (moment e (suc count)).sent (moment e (suc count)).acts
            → Stays ⊎ ItsTurn
        by_event event fact (inl still) = inl (stays_by (ap (λ ns. node_in ns (place_of cl (Manager j))) still.nodes_are))
        by_event event fact (inr t) =
            ⊎_elim (λ own. inr (its_turn event fact t own))
            (λ differs. inl (stays_by (ap (λ ns. node_in ns (place_of cl (Manager j))) t.nodes_are
            ∙ there cl (moment e count).nodes (node_of event) t.place
            (subst (λ c. place_of c (node_of event) ≡ Some t.place) (cluster_at e count) t.placed) (any_step t.node (what_of event)).node (Manager j) differs)))
            (same_or_other (Manager j) (node_of event))

        by : (o : Option Event) → slice_get e.events count ≡ o → Stays ⊎ ItsTurn
        by None fact =
            inl (stays_by (ap (λ (w : World AnyNode). node_in w.nodes (place_of cl (Manager j))) (moment_ended e count fact)))
        by (Some event) fact = by_event event fact (became e count event fact)

  -- ---- the epoch

  module _ (epoch l seq : ℕ) where
    -- It was given to the manager, which was at it in its present life or in an earlier one, and doesn't hold the slot in it; nobody manages the slot in it,
    -- and the horizon with which it began is no further than this number.
    pub record Lapsed (count : ℕ) (d : Joint logged part count) : Type 0 where
      pub free : d.idx.net.slots epoch ≡ None
      pub begun : epoch ≤ d.idx.net.epoch
      pub low : of_log (d.idx.net.horizon epoch) l ≤ seq
      pub lord : d.tok.lord epoch ≡ j
      pub within : epoch ≤ epoch_now cl part d.tok
      pub past : PastAt cl part (d.tok.manager j).phase (d.tok.since epoch) epoch
      pub apart : HeldAt (slot_in part (d.tok.manager j).phase) epoch → ⊥

    module _ (count : ℕ) (b : Joint logged part count) (d : Joint logged part (suc count))
        (f : Follows cl part b.tok b.idx.net d.tok d.idx.net) where
      -- it lapses, or had
      on : b.idx.net.slots epoch ≡ None → epoch ≤ b.idx.net.epoch → of_log (b.idx.net.horizon epoch) l ≤ seq → b.tok.lord epoch ≡ j
          → epoch ≤ epoch_now cl part b.tok → PastAt cl part (b.tok.manager j).phase (b.tok.since epoch) epoch
          → (HeldAt (slot_in part (d.tok.manager j).phase) epoch → ⊥) → Lapsed (suc count) d
      on free begun low lord within past apart =
          let kept = f.since.given epoch within in
          record {
            free = by (d.idx.net.slots epoch) refl;
            begun = (let rise = f.grown.epoch in omega arith);
            low = subst (λ h. of_log h l ≤ seq) (sym (f.grown.horizon epoch free begun)) low;
            lord = kept.0 ∙ lord;
            within = (let rise = f.since.epochs in omega arith);
            past = subst (λ x. PastAt cl part (d.tok.manager j).phase x epoch) (sym kept.1) (f.since.past j (b.tok.since epoch) epoch past);
            apart = apart;
          }
        where
          held_by : IsManaged cl part d.tok epoch → ⊥
          held_by m =
              let held = managed_held (slot_in part (d.tok.manager m.manager).phase) epoch m.managed in
              let its = ((d.tokens_stand.managers m.manager m.some m.limit).owns epoch held).0 in
              let same : m.manager ≡ j = sym its ∙ ((f.since.given epoch within).0 ∙ lord) in
              apart (subst (λ i. HeldAt (slot_in part (d.tok.manager i).phase) epoch) same held)

          by : (o : Option SlotState) → d.idx.net.slots epoch ≡ o → d.idx.net.slots epoch ≡ None
          by None fact = fact
          by (Some z) fact = absurd (held_by (f.came epoch z fact free))

      -- it stays so
      pub goes_on : Lapsed count b → Lapsed (suc count) d
      goes_on lapsed = on lapsed.free lapsed.begun lapsed.low lapsed.lord lapsed.within lapsed.past apart
        where
          apart : HeldAt (slot_in part (d.tok.manager j).phase) epoch → ⊥
          apart held =
              ⊎_elim (λ same. lapsed.apart (subst (λ (x : ManagerNode). HeldAt (slot_in part x.phase) epoch) same held)) turn (stays_or_turns count b d)
            where
              turn : ItsTurn count b d → ⊥
              turn t =
                  let life : (lasting_of (d.tok.manager j).phase).inc ≡ b.tok.since epoch =
                  sym ((d.tokens_stand.managers j is_there.0 is_there.1).owns epoch held).1 ∙ (f.since.given epoch lapsed.within).1 in
                  none_anew cl part (epoch_now cl part b.tok) j b.tok.net (b.tok.manager j).phase (what_of t.event)
                  (happens (b.tok.manager j) (what_of t.event)) (goes count b t.event t.occurs t.own) epoch (b.tok.since epoch) lapsed.past
                  (subst (λ (x : Phase). (lasting_of x).inc ≡ b.tok.since epoch) t.state life) lapsed.apart
                  (subst (λ (x : Phase). HeldAt (slot_in part x) epoch) t.state held)

      -- it lapses where the slot, which the manager took over in it, breaks
      pub lapses : b.idx.net.slots epoch ≡ None → epoch ≤ b.idx.net.epoch → of_log (b.idx.net.horizon epoch) l ≤ seq → (name : SegName)
          → HeldAt (slot_at e j part count) epoch → slot_at e j part (suc count) ≡ phase.Broken epoch name → Lapsed (suc count) d
      lapses free begun low name was broken =
          let held : HeldAt (slot_in part (b.tok.manager j).phase) epoch = subst (λ p. HeldAt p epoch) (slot_there count b) was in
          let s = sees count b in
          let own = s.owns epoch held in
          on free begun low own.0 (let known = held_known (slot_in part (b.tok.manager j).phase) epoch held in let highest = s.within in omega arith)
          (inr (own.1, held_been cl part (b.tok.manager j).phase epoch held))
          (away_holds_not (slot_in part (d.tok.manager j).phase) epoch name epoch (sym (slot_there (suc count) d) ∙ broken))

    -- ---- at each later moment

    module _ (at : ℕ) (name : SegName) (was : HeldAt (slot_at e j part at) epoch) (broken : slot_at e j part (suc at) ≡ phase.Broken epoch name)
        (free : (b : Joint logged part at) → b.idx.net.slots epoch ≡ None)
        (begun : (b : Joint logged part at) → epoch ≤ b.idx.net.epoch)
        (low : (b : Joint logged part at) → of_log (b.idx.net.horizon epoch) l ≤ seq) where
      -- at the moment after a count, which follows the one there
      next : (count : ℕ) → at < suc count → (b : Joint logged part count) (d : Joint logged part (suc count))
          → Follows cl part b.tok b.idx.net d.tok d.idx.net → (at < count → Lapsed count b) → Lapsed (suc count) d
      next count less b d f before = by (at == count) refl
        where
          first_so : (c : ℕ) → at ≡ c → (x : Joint logged part c) (y : Joint logged part (suc c))
              → Follows cl part x.tok x.idx.net y.tok y.idx.net → Lapsed (suc c) y
          first_so c same =
              subst (λ i. (x : Joint logged part i) (y : Joint logged part (suc i))
              → Follows cl part x.tok x.idx.net y.tok y.idx.net → Lapsed (suc i) y) same
              (λ x y g. lapses at x y g (free x) (begun x) (low x) name was broken)

          by : (t : Bool) → (at == count) ≡ t → Lapsed (suc count) d
          by true fact = first_so count (eqb-true at count fact) b d f
          by false fact = goes_on count b d f (before (earlier_count at count fact less))

      pub lapsed : (count : ℕ) → at < count → (d : Joint logged part count) → Comes logged part count d
          → Lapsed count d
      lapsed zero less d comes = absurd (omega arith)
      lapsed (suc count) less d comes = next count less comes.0 d comes.2 (λ earlier. lapsed count earlier comes.0 comes.1)
