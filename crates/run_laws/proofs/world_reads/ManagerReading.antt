-- What an event of a manager is owed to the small world of the index: what an answer to a question of the slot's takeover completes is the text of its name,
-- and so is what the manager writes.
use Rattle.std.proofs.Common.{◌≡◌, ℕ, zero, suc, List, [], ◌∷◌, Option, None, Some, refl, sym, ap, subst}
use Rattle.std.specs.Prelude.{Contains}
use Rattle.std.specs.List.{AllByRecursion}
use Rattle.core_world.specs.declared.any_node.AnyNode.TheVariants as any
use Rattle.log_owner.specs.Sending.{server_in}
use Rattle.manager_node.specs.declared.manager.Manager.{Manager as ManagerNode}
use Rattle.manager_node.specs.declared.phase.Phase.{Phase}
use Rattle.manager_node.specs.declared.phase.Phase.TheVariants.{Down, Waiting, Serving as Serves}
use Rattle.manager_node.specs.Events.{happens}
use Rattle.manager_slots.specs.declared.slot_phase.SlotPhase.{SlotPhase}
use Rattle.manager_slots.specs.declared.slot_phase.SlotPhase.TheVariants as phase
use Rattle.manager_slots.specs.declared.slot_phase.Taking.{Taking}
use Rattle.manager_serving.specs.declared.serving.Serving.{Serving}
use Rattle.node_slots.specs.node_index_tie.ManagerEvents.{AbsentGets, FoundGets, completes_at, completes_in}
use Rattle.node_slots.specs.node_index_tie.Sight.{IsRead}
use Rattle.headline.specs.Managers.{phase_at, slot_in}
use Rattle.run_laws.specs.reading_law.Readings.{cuts_at}
use Rattle.node_tellings.specs.reading_tie.Arrivals.{AnsweredIn, Tells, answered_in, cut_by}
use Rattle.node_tellings.specs.reading_tie.Came.{ReadsJoined}
use Rattle.node_tellings.specs.reading_tie.ManagerReads.{PhaseHolds, SlotHolds}
use Rattle.node_tellings.specs.reading_tie.TakeoverReads.{PresentHolds, StandsBy, TakeHolds, to_any}
use Rattle.segment_format.specs.declared.segment.Segment.{Segment}
use Rattle.segment_reading.specs.Reading.{ReadingState}
use Rattle.stripe_code.specs.declared.round.Told.{Told}
use Rattle.stripe_code.specs.declared.round.Told.TheVariants.{Held, Missing}
use Rattle.takeover.specs.declared.source.Present.{Present}
use Rattle.takeover.specs.declared.source.Source.{Source}
use Rattle.takeover.specs.Sources.{sources_of}
use Rattle.token_protocol.specs.Basics.{In}
use Rattle.wire_msg.specs.declared.body.Body.{Body}
use Rattle.wire_msg.specs.declared.body.Body.TheVariants as body
use Rattle.wire_msg.specs.declared.packet.Do.{Do}
use Rattle.wire_msg.specs.declared.packet.Do.TheVariants.{Begin, Deliver, Tick}
use Rattle.wire_msg.specs.declared.packet.Packet.{Packet}
use Rattle.wire_msg.specs.declared.storage.Found.{Found}
use Rattle.wire_msg.specs.declared.storage.Missing.{Missing as Absent}
use Rattle.world_base.specs.declared.event.Event.{Event}
use Rattle.world_base.specs.Events.{node_of, what_of}
use Rattle.run_laws.specs.world_index.Owes.{BodyReads, DoReads, IndexOwes, ManagerTold, PacketReads}
use Rattle.headline.specs.Moments.{moment}
use Rattle.headline.specs.Logs.Role.{OfManager}
use Rattle.run_laws.proofs.world_reads.ManagerChains.{Refers, known, names_its_group, refers_down}
use Rattle.run_laws.proofs.world_reads.ManagerMoment as manager
use Rattle.run_laws.proofs.world_reads.ManagerMoment.{ManagerEvent}
use Rattle.run_laws.specs.world_reads.Joint.{There}
use Rattle.run_laws.specs.world_reads.References.{Flew}
use Rattle.xfs_base.specs.declared.node.NodeId.{NodeId}
use Rattle.xfs_base.specs.declared.node.NodeId.TheVariants.{Client, Manager, Server, Cleaner, Registry}
use Rattle.run_laws.proofs.world_reads.Below.{Below}
use Rattle.run_laws.specs.world_reads.LoggedRuns.{LoggedRun}

-- what holds of each phase of a table, and of one that is away, holds of the slot of this number
pub at_slot : (P : SlotPhase → Type 0) (table : List SlotPhase) (slot : ℕ) → AllByRecursion P table → P (phase.Away 0) → P (phase_at table slot)
at_slot P [] slot all away = away
at_slot P (p ∷ table) zero all away = all.0
at_slot P (p ∷ table) (suc slot) all away = at_slot P table slot all.1 away

module _ (logged : LoggedRun) (part : ℕ) (count j : ℕ) (there : There logged part (OfManager j)) where
  open logged use {estate as e, texts}

  abbrev sent : List Packet
  sent = (moment e count).sent

  -- Each source of a takeover, a part of a checkpoint or the reported end of a log, flew in a log of the run, over the group with which it is referred to.
  abbrev pub SourcesFlew : SlotPhase → Type 0
  SourcesFlew p = (t : Taking) → p ≡ phase.Taking t → (source : Source) → Contains (sources_of t.take.news t.take.reports) source
      → Flew logged part count source.seg

  module _ (laws : Below) where
    -- what an answer completes that came to the manager's takeover
    module _ (t : Taking) (holds : TakeHolds (answered_in sent (Manager j)) (cut_by (cuts_at e.world)) t.take)
        (flew : (source : Source) → Contains (sources_of t.take.news t.take.reports) source → Flew logged part count source.seg)
        (ask own server : ℕ) (answer : Told) (answered : AnsweredIn sent (Manager j) ask server answer) (s : Segment) where
      of_present : (p : Present) → t.take.present ≡ Some p → PresentHolds (answered_in sent (Manager j)) (cut_by (cuts_at e.world)) t.take p
          → completes_at t.take t.take.present own server answer ≡ Some s → IsRead part texts.text s
      of_present p at stands done = by p.reading refl (subst (λ o. completes_at t.take o own server answer ≡ Some s) at done)
        where
          refers : Refers logged part count (Manager j) p.source.seg
          refers = refers_down logged part count (Manager j) laws.logs.one_text laws.logs.content
              laws.logs.priors (sources_of t.take.news t.take.reports) flew
              p.source stands.leads

          by : (o : Option ReadingState) → p.reading ≡ o → completes_in t.take o own server answer ≡ Some s → IsRead part texts.text s
          by None fact h = absurd cc
          by (Some r) fact h =
              let reads : ReadsJoined (to_any (answered_in sent (Manager j))) (cut_by (cuts_at e.world)) p.source.seg s =
              laws.reads.takeovers_read_what_came sent (Manager j) (cuts_at e.world) t.take p r ask own server answer s holds at fact answered h in
              laws.reads.places.takeovers_read_texts part texts.text sent (Manager j) (cuts_at e.world) t.take p ask own server answer s holds at answered
              (known logged part count (Manager j) p.source.seg.name refers.of)
              (names_its_group logged part count (Manager j) laws.logs.one_text laws.logs.content p.source.seg
              refers s reads) done

      pub is_read : completes_at t.take t.take.present own server answer ≡ Some s → IsRead part texts.text s
      is_read done = by t.take.present refl holds.stands
        where
          by : (o : Option Present) → t.take.present ≡ o → StandsBy (answered_in sent (Manager j)) (cut_by (cuts_at e.world)) t.take o
              → IsRead part texts.text s
          by None at stands =
              (let none : completes_at t.take None own server answer ≡ Some s = subst (λ o. completes_at t.take o own server answer ≡ Some s) at done in
              absurd (no_segment s none))
            where
              no_segment : (x : Segment) → None ≡ Some x → ⊥
              no_segment x h = absurd cc
          by (Some p) at stands = of_present p at stands done

    -- ---- an event

    module _ (event : Event) (node : ManagerNode) (x : ManagerEvent logged part count j there event node) where
      abbrev what : Do
      what = what_of event

      module _ (s : Serving) (serves : node.phase ≡ Serves s) (flew : SourcesFlew (slot_in part node.phase)) (q : Packet) (among : In q sent)
          (mine : q.to ≡ Manager j) where
        abbrev p : SlotPhase
        p = phase_at s.slots part

        holds_so : PhaseHolds (answered_in sent (Manager j)) (cut_by (cuts_at e.world)) (Serves s)
        holds_so = subst (PhaseHolds (answered_in sent (Manager j)) (cut_by (cuts_at e.world))) serves
            (manager.holds logged part count j there event node x)

        slot_holds : SlotHolds (answered_in sent (Manager j)) (cut_by (cuts_at e.world)) p
        slot_holds = at_slot (SlotHolds (answered_in sent (Manager j)) (cut_by (cuts_at e.world))) s.slots part holds_so.slots tt

        flew_there : SourcesFlew p
        flew_there = subst (λ (y : Phase). SourcesFlew (slot_in part y)) serves flew

        one_read : (ask v : ℕ) (told : Told) → q.from ≡ Server v → Tells ask told q.body → (t : Taking) (own : ℕ) (z : Segment) → p ≡ phase.Taking t
            → completes_at t.take t.take.present own v told ≡ Some z
            → IsRead part texts.text z
        one_read ask v told from tells t own z fact done =
            is_read t (subst (SlotHolds (answered_in sent (Manager j)) (cut_by (cuts_at e.world))) fact slot_holds) (flew_there t fact) ask own v told
            (record { packet = q; among = among; reader = mine; from = ap server_in from; tells = tells }) z done

        found : (from : NodeId) (m : Found) → q.from ≡ from → q.body ≡ body.Fragment m
            → FoundGets part texts.text x.coming.joint.idx.asked j x.coming.joint.idx.net p from m
        found (Server v) m from fact =
            λ t own z at fetched done. one_read m.ask v (Held m.fragment) from (subst (Tells m.ask (Held m.fragment)) (sym fact) (refl, refl)) t own z at done
        found (Client c) m from fact = tt
        found (Manager c) m from fact = tt
        found Cleaner m from fact = tt
        found Registry m from fact = tt

        absent : (from : NodeId) (m : Absent) → q.from ≡ from → q.body ≡ body.Missing m
            → AbsentGets part texts.text x.coming.joint.idx.asked j x.coming.joint.idx.net p from m
        absent (Server v) m from fact =
            λ t own z at fetched done. one_read m.ask v (Missing m.generation) from
            (subst (Tells m.ask (Missing m.generation)) (sym fact) (refl, refl)) t own z at done
        absent (Client c) m from fact = tt
        absent (Manager c) m from fact = tt
        absent Cleaner m from fact = tt
        absent Registry m from fact = tt

        pub body_reads : (b : Body) → q.body ≡ b → BodyReads part texts.text x.coming.joint.idx.asked j x.coming.joint.idx.net p q.from b
        body_reads (body.Fragment m) fact = found q.from m refl fact
        body_reads (body.Missing m) fact = absent q.from m refl fact
        body_reads _ fact = tt

      packet_reads : SourcesFlew (slot_in part node.phase) → (q : Packet) → what ≡ Deliver q → (p : Phase) → node.phase ≡ p
          → PacketReads part texts.text x.coming.joint.idx.asked j x.coming.joint.idx.net p q
      packet_reads flew q fact (Serves s) serves =
          let b = manager.brought logged part count j there event node x q fact in
          body_reads s serves flew q b.0 b.1 q.body refl
      packet_reads flew q fact (Waiting kept hello) serves = tt
      packet_reads flew q fact (Down kept) serves = tt

      pub reads : SourcesFlew (slot_in part node.phase) → DoReads part texts.text x.coming.joint.idx.asked j x.coming.joint.idx.net node.phase what
      reads flew = by what refl
        where
          by : (d : Do) → what ≡ d → DoReads part texts.text x.coming.joint.idx.asked j x.coming.joint.idx.net node.phase d
          by Begin fact = tt
          by (Deliver q) fact = packet_reads flew q fact node.phase refl
          by Tick fact = tt

      -- ---- all of it

      pub manager_told : SourcesFlew (slot_in part node.phase)
          → ManagerTold part texts.text x.coming.joint.idx.asked j x.coming.joint.idx.net node.phase what (happens node what).state
      manager_told flew = record {
        reads = reads flew;
        writes = manager.writes logged part count j there event node x
            laws.writing.managers_write_texts;
      }

      pub manager_owed : SourcesFlew (slot_in part node.phase)
          → IndexOwes part texts.text x.coming.joint.idx.asked x.coming.joint.idx.net (node_of event) (any.Manager node) what
      manager_owed flew = subst (λ name. IndexOwes part texts.text x.coming.joint.idx.asked x.coming.joint.idx.net name (any.Manager node) what) (sym x.own)
          (manager_told flew)
