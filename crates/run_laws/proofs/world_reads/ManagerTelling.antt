-- What an event of a manager is owed to the small world of tokens: Deltas that come cover the index of the slot that they join on to, and a takeover that ends
-- gathered what was filed.
use Rattle.std.proofs.Common.{◌≡◌, ℕ, true, Bool, None, Some, refl, sym, ap, subst, ◌∙◌, arith}
use Rattle.core_world.specs.declared.any_node.AnyNode.TheVariants as any
use Rattle.run_laws.proofs.index_reads.Gathers.{completes}
use Rattle.run_laws.specs.index_reads.Ties.{Tied}
use Rattle.manager_node.specs.declared.manager.Manager.{Manager as ManagerNode}
use Rattle.manager_node.specs.declared.phase.Phase.{Phase}
use Rattle.manager_node.specs.declared.phase.Phase.TheVariants.{Down, Waiting, Serving as Serves}
use Rattle.manager_slots.specs.declared.slot_phase.Active.{Active}
use Rattle.manager_slots.specs.declared.slot_phase.SlotPhase.{SlotPhase}
use Rattle.manager_slots.specs.declared.slot_phase.SlotPhase.TheVariants as phase
use Rattle.manager_slots.specs.declared.slot_phase.Taking.{Taking}
use Rattle.manager_slots.specs.Slots.{epoch_of, fetch_of}
use Rattle.manager_slots.specs.Takeovers.{report_input}
use Rattle.manager_serving.specs.declared.serving.Serving.{Serving}
use Rattle.node_slots.proofs.node_index_tie.Handing.{Owes}
use Rattle.node_slots.specs.node_index_tie.ManagerEvents as places
use Rattle.node_slots.specs.node_index_tie.Pages.{Desk, desk_of}
use Rattle.node_slots.specs.node_index_tie.Sight.{ReportKnown, held_in}
use Rattle.node_slots.proofs.node_tie.ManagerTakes.{Brings}
use Rattle.node_slots.proofs.node_tie.SmallWorld.{with_promise}
use Rattle.node_slots.specs.node_tie.ManagerEvents as owners
use Rattle.headline.specs.Managers.{phase_at, slot_in}
use Rattle.takeover.specs.declared.input.In.{In as Input}
use Rattle.takeover.specs.declared.input.In.TheVariants.{Got, Missing as Lacks}
use Rattle.takeover.specs.declared.report.Report.{Report as Heard}
use Rattle.token_law.specs.Net as tokens
use Rattle.token_manager.specs.SlotState.{SlotState}
use Rattle.wire_msg.specs.declared.body.Body.{Body}
use Rattle.wire_msg.specs.declared.body.Body.TheVariants as body
use Rattle.wire_msg.specs.declared.deltas.Deltas.{Deltas}
use Rattle.wire_msg.specs.declared.deltas.Report.{Report}
use Rattle.wire_msg.specs.declared.packet.Do.{Do}
use Rattle.wire_msg.specs.declared.packet.Do.TheVariants.{Begin, Deliver, Tick}
use Rattle.wire_msg.specs.declared.packet.Packet.{Packet}
use Rattle.wire_msg.specs.declared.storage.Found.{Found}
use Rattle.wire_msg.specs.declared.storage.Missing.{Missing as Absent}
use Rattle.world_base.specs.Cluster.{place_of}
use Rattle.world_base.specs.declared.event.Event.{Event}
use Rattle.world_base.specs.Events.{node_of, what_of}
use Rattle.run_laws.proofs.world_index.Gets.{manager_gets}
use Rattle.run_laws.proofs.world_index.Senders.{kinds_of_tokens}
use Rattle.run_laws.specs.world_index.Owes.{ManagerGiven, TokensGive}
use Rattle.run_laws.specs.world_index.Standing as index
use Rattle.run_laws.specs.world_law.Standing as standing
use Rattle.run_laws.specs.world_law.Owes.{ManagerTold, ServingTold, SlotTold}
use Rattle.run_laws.proofs.world_law.Owes.{TurnOwes}
use Rattle.headline.specs.Moments.{moment, node_in}
use Rattle.headline.specs.Logs.Role.{OfManager}
use Rattle.run_laws.proofs.world_reads.ManagerMoment as manager
use Rattle.run_laws.proofs.world_reads.ManagerMoment.{ManagerEvent}
use Rattle.run_laws.proofs.world_reads.ManagerReading as reading
use Rattle.run_laws.proofs.world_reads.ManagerReading.{SourcesFlew}
use Rattle.run_laws.specs.world_reads.Joint.{There}
use Rattle.xfs_base.specs.declared.node.NodeId.{NodeId}
use Rattle.xfs_base.specs.declared.node.NodeId.TheVariants.{Client, Manager, Server, Cleaner, Registry}
use Rattle.run_laws.proofs.world_reads.Below.{Below}
use Rattle.run_laws.specs.world_reads.LoggedRuns.{LoggedRun}

none_some : {X : Type 0} (x : X) → None ≡ Some x → ⊥
none_some x h = absurd cc

module _ (logged : LoggedRun) (part : ℕ) (count j : ℕ) (there : There logged part (OfManager j)) (laws : Below) (event : Event) (node : ManagerNode)
    (x : ManagerEvent logged part count j there event node) where
  open logged use {estate as e, texts, first}

  abbrev what : Do
  what = what_of event

  abbrev t : tokens.Net
  t = x.coming.joint.tok.net

  -- with the promise with which its small world runs
  abbrev run_to : tokens.Net
  run_to = with_promise 1 t

  abbrev i : index.Scene
  i = x.coming.joint.idx

  abbrev members : ℕ
  members = standing.members (manager.k logged part count) part

  pub tied : Tied members part (held_in part texts.text) run_to i.net
  tied = record {
    some = omega arith;
    few = x.coming.joint.tokens_stand.few;
    of_map = x.few;
    tokens_run = x.coming.joint.tokens_stand.runs;
    any = first;
    index_run = x.coming.joint.index_stands.runs;
    books = x.coming.joint.books;
    plain = λ l q low high some limit. (x.coming.joint.tells l q some limit).plain;
  }

  -- ---- one that serves

  module _ (s : Serving) (serves : node.phase ≡ Serves s) where
    abbrev p : SlotPhase
    p = phase_at s.slots part

    owned : owners.PhaseAgrees members part t p
    owned = (subst (owners.ManagerAgrees members part t j) serves
        (manager.tokens_see logged part count j there event node x).agrees).table.here

    placed : places.ServingAgrees part texts.text i.net s
    placed = (subst (places.ManagerAgrees part texts.text i.net) serves (manager.index_sees logged part count j there event node x)).0

    abbrev desk : Desk
    desk = desk_of s placed.given

    -- ---- Deltas

    -- a slot that is managed is seen without regard to promises
    active_sees : (a : Active) → owners.ActiveAgrees members part t a → owners.ActiveAgrees members part run_to a
    active_sees a own = record { slot = own.slot; there = own.there; same = own.same; nine = own.nine }

    deltas_by : (d : Desk) (y : SlotPhase) → owners.PhaseAgrees members part t y → places.PhaseAgrees part texts.text i.net d y → (from : NodeId) (m : Deltas)
        → places.DeltasGets part texts.text i.asked j i.net from m → owners.DeltasGets true members part t y from m
    deltas_by d (phase.Active a) own at from m gets = same from (laws.index.deltas_are_covered members part j texts.text i.asked run_to i.net (phase.Active
        a) from m (record {
          tied = tied;
          filed = x.coming.joint.index_stands.texts_of;
          tokens_see = active_sees a own;
          desk = d;
          index_sees = at;
        }) gets)
      where
        same : (from : NodeId) → owners.DeltasGets true members part run_to (phase.Active a) from m
            → owners.DeltasGets true members part t (phase.Active a) from m
        same (Client c) h = h
        same (Manager c) h = h
        same (Server c) h = h
        same Cleaner h = h
        same Registry h = h
    deltas_by d (phase.Taking u) own at from m gets = by from
      where
        none : (e : ℕ) (z : SlotState) → u.epoch ≡ e → t.slots e ≡ Some z → ⊥
        none e z held there = none_some z (sym own.free ∙ (ap t.slots held ∙ there))

        by : (from : NodeId) → owners.DeltasGets true members part t (phase.Taking u) from m
        by (Client c) = λ of e z held there latest joins. absurd (none e z held there)
        by (Manager c) = tt
        by (Server c) = tt
        by Cleaner = λ of e z held there latest joins. absurd (none e z held there)
        by Registry = tt
    deltas_by d (phase.Away epoch) own at from m gets = by from
      where
        by : (from : NodeId) → owners.DeltasGets true members part t (phase.Away epoch) from m
        by (Client c) = λ of e z held there latest joins. absurd held
        by (Manager c) = tt
        by (Server c) = tt
        by Cleaner = λ of e z held there latest joins. absurd held
        by Registry = tt
    deltas_by d (phase.Broken epoch seg) own at from m gets = by from
      where
        by : (from : NodeId) → owners.DeltasGets true members part t (phase.Broken epoch seg) from m
        by (Client c) = λ of e z held there latest joins. absurd held
        by (Manager c) = tt
        by (Server c) = tt
        by Cleaner = λ of e z held there latest joins. absurd held
        by Registry = tt

    -- ---- a takeover

    -- what is owed an input that comes to a takeover
    abbrev OwedAt : SlotPhase → Input → Type 0
    OwedAt y given = (u : Taking) → y ≡ phase.Taking u → Owes part texts.text i.net u.epoch u.take given

    takes_by : (d : Desk) (y : SlotPhase) → places.PhaseAgrees part texts.text i.net d y → (given : Input) → OwedAt y given
        → owners.TakeoverGets true members part t y given
    takes_by d (phase.Taking u) at given owes =
        completes members part texts.text run_to i.net tied i.asked d u given at (owes u refl) x.coming.joint.index_stands.texts_of
    takes_by d (phase.Active a) at given owes = tt
    takes_by d (phase.Away epoch) at given owes = tt
    takes_by d (phase.Broken epoch seg) at given owes = tt

    report_told : (from : NodeId) (m : Report) → places.ReportGets part texts.text i.asked j i.net from m
        → owners.LastReportGets true members part t p from m
    report_told from m gets of same = takes_by desk p placed.here (report_input from m) (λ u fact. record {
      brings = λ r told. subst (λ (h : Heard). ReportKnown part i.net u.epoch h.from h.end) (sym told)
          (subst (λ epoch. ReportKnown part i.net epoch from m.end) (same ∙ ap epoch_of fact) (gets of));
      reads = λ z done. absurd (none_some z done);
    })

    answer_told : (ask own : ℕ) (given : ℕ → Input) → ((own : ℕ) (r : Heard) → Brings (given own) r → ⊥)
        → places.AnswerGets part texts.text i.asked j i.net p ask given → fetch_of p ask ≡ Some own
        → owners.TakeoverGets true members part t p (given own)
    answer_told ask own given none gets fetched = takes_by desk p placed.here (given own) (λ u fact. record {
      brings = λ r b. absurd (none own r b);
      reads = λ z done. gets u own z fact fetched done;
    })

    found_told : (from : NodeId) (m : Found) → places.FoundGets part texts.text i.asked j i.net p from m → owners.FoundGets true members part t p from m
    found_told (Server v) m gets =
        λ own fetched. answer_told m.ask own (λ own. Got own v m.generation m.fragment) (λ own r b. b) gets fetched
    found_told (Client c) m gets = tt
    found_told (Manager c) m gets = tt
    found_told Cleaner m gets = tt
    found_told Registry m gets = tt

    absent_told : (from : NodeId) (m : Absent) → places.AbsentGets part texts.text i.asked j i.net p from m → owners.AbsentGets true members part t p from m
    absent_told (Server v) m gets = λ own fetched. answer_told m.ask own (λ own. Lacks own v m.generation) (λ own r b. b) gets fetched
    absent_told (Client c) m gets = tt
    absent_told (Manager c) m gets = tt
    absent_told Cleaner m gets = tt
    absent_told Registry m gets = tt

    body_told : (from : NodeId) (b : Body) → places.ServingGets part texts.text i.asked j i.net s.lasting.inc (owners.epoch_in part (Serves s)) p from b
        → SlotTold members part t p from b
    body_told from (body.Deltas m) gets = deltas_by desk p owned placed.here from m gets
    body_told from (body.Report m) gets = report_told from m gets
    body_told from (body.Fragment m) gets = found_told from m gets
    body_told from (body.Missing m) gets = absent_told from m gets
    body_told from _ gets = tt

  -- ---- an event

  serving_told : (y : Phase) → node.phase ≡ y → (q : Packet) → places.PacketGets part texts.text i.asked j i.net y q → ServingTold members part t y q
  serving_told (Serves s) serves q gets = body_told s serves q.from q.body gets
  serving_told (Waiting kept hello) serves q gets = tt
  serving_told (Down kept) serves q gets = tt

  -- where it is owed what it is owed to the small world of the index
  module _ (flew : SourcesFlew logged part count j there (slot_in part node.phase)) where
    given : ManagerGiven part j i.net (manager.k logged part count).managers (index.holder part i) node.phase what
    given = subst
        (λ name. TokensGive part (manager.k logged part count).managers (index.holder part i) i.net name (any.Manager node) what) x.own
        (manager.tokens_given logged part count event x.coming laws.tokens.epochs.tokens_are_given (any.Manager node)
        (subst (λ name. node_in (moment e count).nodes (place_of (manager.k logged part count) name) ≡ Some (any.Manager node)) (sym x.own)
        (manager.here logged part count j there event node x)))

    gets : places.EventGets part texts.text i.asked j i.net node.phase what
    gets = manager_gets part texts.text i.asked i.net j node.phase what
        (λ q fact. (let b = manager.brought logged part count j there event node x q fact in (
          x.coming.joint.index_stands.facts q b.0,
          kinds_of_tokens (manager.k logged part count) part x.coming.joint.tok q (x.coming.joint.tokens_stand.facts q b.0),
        )))
        (reading.reads logged part count j there laws event node x flew) given.free

    pub manager_told : ManagerTold members part t node.phase what
    manager_told = by what gets
      where
        by : (d : Do) → places.EventGets part texts.text i.asked j i.net node.phase d → ManagerTold members part t node.phase d
        by Begin g = tt
        by (Deliver q) g = serving_told node.phase refl q g
        by Tick g = tt

    pub turn_owed : (adopted : Bool) (limit : ℕ) → TurnOwes true adopted members part limit t (node_of event) (any.Manager node) what
    turn_owed adopted limit = subst (λ name. TurnOwes true adopted members part limit t name (any.Manager node) what) (sym x.own) manager_told
