-- What an event of a manager is owed to both small worlds of the slot, where what nodes refer to stands: the sources of its takeover flew in logs of the run.
use Rattle.std.proofs.Common.{◌≡◌, ◌<◌, ◌==◌, inl, inr, ⊎_elim, ℕ, true, false, Bool, cond, List, [], ◌∷◌, refl, sym, ap, subst, ◌∙◌, arith, Some, slice_get}
use Rattle.std.specs.Prelude.{Contains}
use Rattle.std.specs.List.{AllByRecursion}
use Rattle.std.proofs.lemmas.Bool.{eqb-true}
use Rattle.core_world.specs.declared.any_node.AnyNode.{AnyNode}
use Rattle.core_world.specs.declared.any_node.AnyNode.TheVariants as any
use Rattle.manager_node.specs.declared.manager.Manager.{Manager as ManagerNode}
use Rattle.manager_node.specs.declared.phase.Phase.{Phase}
use Rattle.manager_node.specs.declared.phase.Phase.TheVariants.{Down, Waiting, Serving as Serves}
use Rattle.manager_slots.specs.declared.slot_phase.SlotPhase.TheVariants as phase
use Rattle.manager_slots.specs.declared.slot_phase.Taking.{Taking}
use Rattle.node_slots.specs.node_index_tie.ManagerEvents as places
use Rattle.node_slots.specs.node_index_tie.Pages.{desk_of}
use Rattle.headline.specs.Managers.{slot_in}
use Rattle.run_laws.specs.reading_law.Readings.{ReadingsCame}
use Rattle.node_tellings.specs.reference_tie.Managers.{PhaseRefers, ReportRefers, SlotRefers, TakeRefers}
use Rattle.node_tellings.specs.reference_tie.References.{References}
use Rattle.segment_format.specs.declared.segment.Segment.{Segment}
use Rattle.takeover.specs.declared.report.Report.{Report as Heard}
use Rattle.token_protocol.specs.Basics.{In}
use Rattle.world_base.specs.Cluster.{place_of}
use Rattle.world_base.specs.declared.cluster.Cluster.{Cluster}
use Rattle.world_base.specs.declared.event.Event.{Event}
use Rattle.world_base.specs.Events.{node_of, what_of}
use Rattle.run_laws.specs.world_index.Owes.{IndexOwes, TokensGive}
use Rattle.run_laws.specs.world_index.Standing as places_of
use Rattle.run_laws.proofs.world_law.Places.{Behind, behind}
use Rattle.run_laws.proofs.world_law.Sent.{in_list}
use Rattle.run_laws.specs.world_law.Standing as tokens
use Rattle.run_laws.proofs.world_law.Owes.{TurnOwes}
use Rattle.headline.specs.Moments.{moment}
use Rattle.run_laws.specs.world_logs.Lines.{cluster}
use Rattle.headline.specs.Logs.Role.{OfManager}
use Rattle.run_laws.proofs.world_reads.ManagerMoment as manager
use Rattle.run_laws.proofs.world_reads.ManagerMoment.{Coming, ManagerEvent}
use Rattle.run_laws.proofs.world_reads.ManagerReading as reading
use Rattle.run_laws.proofs.world_reads.ManagerReading.{SourcesFlew, at_slot}
use Rattle.run_laws.proofs.world_reads.ManagerSources.{sources_flew}
use Rattle.run_laws.proofs.world_reads.ManagerTelling as telling
use Rattle.run_laws.proofs.world_reads.Taking.{Took, took_it}
use Rattle.run_laws.specs.world_reads.Joint.{There}
use Rattle.run_laws.specs.world_reads.References.{EndFlew, Flew, ReferencesStand, ReportFlew, its}
use Rattle.xfs_base.proofs.Members.{contains_cases, contains_nothing}
use Rattle.xfs_base.specs.declared.node.NodeId.TheVariants.{Client, Manager, Cleaner}
use Rattle.xfs_base.specs.declared.segment.End.{End}
use Rattle.xfs_base.specs.declared.segment.SegRef.{SegRef}
use Rattle.xfs_base.specs.Logs.{block_writer, cleaners_number}
use Rattle.xfs_base.specs.Limits.{slot_count}
use Rattle.run_laws.proofs.world_reads.Below.{Below}
use Rattle.run_laws.specs.world_reads.LoggedRuns.{LoggedRun}

pub one_contained : {X : Type 0} (P : X → Type 0) (xs : List X) (x : X) → AllByRecursion P xs → Contains xs x → P x
one_contained P [] x all fact = absurd (contains_nothing x fact)
one_contained P (y ∷ xs) x all fact = ⊎_elim (λ same. subst P same all.0) (λ later. one_contained P xs x all.1 later) (contains_cases y x xs fact)

pub one_among : {X : Type 0} (P : X → Type 0) (xs : List X) (x : X) → AllByRecursion P xs → In x xs → P x
one_among P [] x all fact = absurd fact
one_among P (y ∷ xs) x all (inl fact) = subst P (sym fact) all.0
one_among P (y ∷ xs) x all (inr later) = one_among P xs x all.1 later

module _ (logged : LoggedRun) (part count : ℕ) where
  open logged use {base, estate as e, texts}

  abbrev r : References
  r = its logged part count

  -- what the owner of log l reported
  of_writer : (l : ℕ) (end : End) → ReportFlew logged part count (block_writer l) end → EndFlew logged part count l end
  of_writer l end h = by (l == cleaners_number) refl h
    where
      by : (t : Bool) → (l == cleaners_number) ≡ t → ReportFlew logged part count (cond t Cleaner (Client l)) end
          → EndFlew logged part count l end
      by true fact k = subst (λ x. EndFlew logged part count x end) (sym (eqb-true l cleaners_number fact)) k
      by false fact k = k

  module _ (t : Taking) (refers : TakeRefers r t.take) where
    pub parts_flew : (ref : SegRef) → Contains t.take.news.parts ref → Flew logged part count ref
    parts_flew ref fact = one_contained (Flew logged part count) t.take.news.parts ref refers.parts_refer fact

    -- the text of the name of an end that flew is of the group that it bears
    its_group : (l : ℕ) (end : End) → 0 < end.seq → EndFlew logged part count l end
        → end.group ≡ (texts.text (record { log = record { 0 = l }; seq = end.seq; pass = end.pass })).group
    its_group l end some (inl none) = absurd (omega arith)
    its_group l end some (inr f) =
        f.grouped ∙ ap (λ (s : Segment). s.group) (sym (ap texts.text f.named ∙ texts.flown f.of.role f.of.there count f.segment f.among))

    pub ends_bear : (l : ℕ) (x : Heard) → In x t.take.reports → x.from ≡ block_writer l → 0 < x.end.seq
        → x.end.group ≡ (texts.text (record { log = record { 0 = l }; seq = x.end.seq; pass = x.end.pass })).group
    ends_bear l x among from some =
        its_group l x.end some (of_writer l x.end (subst (λ node. ReportFlew logged part count node x.end) from
        (one_among (ReportRefers r) t.take.reports x refers.reported among)))

  module _ (j : ℕ) (there : There logged part (OfManager j)) (event : Event) (node : ManagerNode)
      (x : ManagerEvent logged part count j there event node) (stands : ReferencesStand logged part count) where
    refers : PhaseRefers r node.phase
    refers = stands.each_node (any.Manager node) (in_list (moment e count).nodes x.took.place (any.Manager node) x.took.stands)

    -- the sources of the slot's takeover flew
    pub flew : SourcesFlew logged part count j there (slot_in part node.phase)
    flew = by node.phase refl
      where
        never : (epoch : ℕ) (t : Taking) → phase.Away epoch ≡ phase.Taking t → ⊥
        never epoch t h = absurd cc

        by : (p : Phase) → node.phase ≡ p → SourcesFlew logged part count j there (slot_in part p)
        by (Serves s) serves t fact =
            let placed = (subst (places.ManagerAgrees part texts.text x.coming.joint.idx.net) serves
            (manager.index_sees logged part count j there event node x)).0 in
            let agrees : places.PhaseAgrees part texts.text x.coming.joint.idx.net (desk_of s placed.given) (phase.Taking t) =
            subst (places.PhaseAgrees part texts.text x.coming.joint.idx.net (desk_of s placed.given)) fact placed.here in
            let held : TakeRefers r t.take =
            subst (SlotRefers r) fact (at_slot (SlotRefers r) s.slots part (subst (PhaseRefers r) serves refers).slots tt) in
            sources_flew logged part count x.coming.joint t agrees (parts_flew t held)
            (λ l some limit y among from more. ends_bear t held l y among from more)
        by (Waiting kept hello) serves t fact = absurd (never 0 t fact)
        by (Down kept) serves t fact = absurd (never 0 t fact)

    pub index_owed : Below → IndexOwes part texts.text x.coming.joint.idx.asked x.coming.joint.idx.net (node_of event) (any.Manager node) (what_of event)
    index_owed laws = reading.manager_owed logged part count j there laws event node x flew

    pub turn_owed : Below → (adopted : Bool) (limit : ℕ)
        → TurnOwes true adopted (tokens.members (cluster base e) part) part limit x.coming.joint.tok.net (node_of event) (any.Manager node) (what_of event)
    turn_owed laws adopted limit = telling.turn_owed logged part count j there laws event node x flew adopted limit

-- ---- all of it, of an event that a manager takes

module _ (logged : LoggedRun) (part count : ℕ) (laws : Below) (few : part < slot_count) (event : Event)
    (fact : slice_get logged.estate.events count ≡ Some event) (coming : Coming logged part count event)
    (came : ReadingsCame logged.estate.world (moment logged.estate count)) (stands : ReferencesStand logged part count) where
  open logged use {base, estate as e, texts}

  abbrev k : Cluster
  k = cluster base e

  -- the run has this manager
  is_there : (j : ℕ) (node : AnyNode) → node_of event ≡ Manager j → Took (moment e count) event node → There logged part (OfManager j)
  is_there j node own took =
      let at : place_of k (node_of event) ≡ Some took.place =
      subst (λ (c : Cluster). place_of c (node_of event) ≡ Some took.place) coming.cluster took.placed in
      let b : Behind k.clients k.managers j took.place =
      behind k.clients k.managers j took.place (subst (λ name. place_of k name ≡ Some took.place) own at) in
      (b.some, b.within)

  -- what it is owed in both small worlds, and what tokens give it
  pub record ManagerOwes (node : ManagerNode) : Type 0 where
    pub index : IndexOwes part texts.text coming.joint.idx.asked coming.joint.idx.net (node_of event) (any.Manager node) (what_of event)
    pub turn : (adopted : Bool) (limit : ℕ)
        → TurnOwes true adopted (tokens.members k part) part limit coming.joint.tok.net (node_of event) (any.Manager node) (what_of event)
    pub given : TokensGive part k.managers (places_of.holder part coming.joint.idx) coming.joint.idx.net (node_of event) (any.Manager node) (what_of event)

  pub manager_owes : (j : ℕ) (node : ManagerNode) → node_of event ≡ Manager j → Took (moment e count) event (any.Manager node) → ManagerOwes node
  manager_owes j node own took =
      let there : There logged part (OfManager j) = is_there j (any.Manager node) own took in
      let x : ManagerEvent logged part count j there event node =
      record { few = few; happens = fact; coming = coming; own = own; took = took; came = came } in
      record {
        index = index_owed logged part count j there event node x stands laws;
        turn = λ adopted limit. turn_owed logged part count j there event node x stands laws adopted limit;
        given = manager.tokens_given logged part count event coming laws.tokens.epochs.tokens_are_given (any.Manager node)
            (took_it k (moment e count) coming.cluster event (any.Manager node) took);
      }
