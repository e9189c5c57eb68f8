-- At each count of every run, what a manager reads while it takes a slot over is true.
use Rattle.std.proofs.Common.{◌≡◌, ⊎_elim, ℕ, suc, ◌≤◌, List, ◌++◌, Option, Some, None, map, inl, inr, refl, sym, ap, subst, ◌∙◌, arith}
use Rattle.core_world.specs.AnyNode.{any_start, any_step}
use Rattle.core_world.specs.declared.any_node.AnyNode.{AnyNode}
use Rattle.group_map.specs.declared.group.Group.{Group}
use Rattle.log_tie.specs.Setting.{Setting}
use Rattle.manager_node.specs.declared.phase.Phase.{Phase}
use Rattle.manager_node.specs.declared.phase.Phase.TheVariants.{Down, Waiting, Serving as Serves}
use Rattle.manager_node.specs.Events.{happens}
use Rattle.manager_node.specs.Phases.{lasting_of}
use Rattle.manager_slots.specs.declared.slot_phase.SlotPhase.{SlotPhase}
use Rattle.manager_slots.specs.declared.slot_phase.SlotPhase.TheVariants as phase
use Rattle.manager_slots.specs.declared.slot_phase.Taking.{Taking}
use Rattle.headline.specs.Managers.{slot_in}
use Rattle.segment_reading.specs.declared.target.Target.{Target}
use Rattle.segment_reading.specs.Reading.{ReadingState}
use Rattle.takeover.specs.declared.source.Present.{Present}
use Rattle.takeover.specs.declared.source.Source.{Source}
use Rattle.token_protocol.specs.Basics.{In}
use Rattle.version_model.specs.declared.act.Act.{Act}
use Rattle.wire_msg.specs.declared.packet.Packet.{Packet}
use Rattle.wire_msg.specs.declared.storage.Fetch.{Fetch}
use Rattle.world_base.specs.Cluster.{cluster_of, place_of}
use Rattle.world_base.specs.declared.cluster.Cluster.{Cluster}
use Rattle.world_base.specs.declared.estate.Estate.{Estate}
use Rattle.world_base.specs.declared.event.Event.{Event}
use Rattle.world_base.specs.Events.{what_of}
use Rattle.world_base.specs.Items.{items_of}
use Rattle.world_base.specs.NextWorld.{sent_at}
use Rattle.world_base.specs.Runs.{IsRun}
use Rattle.headline.specs.Moments.{moment, node_in}
use Rattle.run_laws.specs.world_logs.Lines.{HasLines}
use Rattle.headline.specs.Logs.{IsThere}
use Rattle.headline.specs.Logs.Role.{OfManager}
use Rattle.xfs_base.specs.declared.node.NodeId.TheVariants as names
use Rattle.run_losses.proofs.missing_law.Readings.{AsksOf, out_next, reading_later}
use Rattle.run_losses.specs.missing_law.Missed.{last_at, last_in}
use Rattle.run_losses.proofs.taking_law.ManagerCounts.{CameBy, IsNamed, Turned, all_good, named_is, numbers_rise, turned}
use Rattle.run_losses.proofs.taking_law.ManagerTurns.{FetchDone, PhaseFine, SaidSo, none_at_first}
use Rattle.run_losses.proofs.taking_law.SlotReads.{PresentFrom, ReadFrom, ReadingFrom, at_source}
use Rattle.run_losses.proofs.taking_law.SlotTurns.{FetchAs, FetchFor, FetchOf, PresentFine, PresentOut, ReadFine, ReadingFine, ReadingOut, TakingFine}
use Rattle.run_losses.proofs.taking_law.Truths.{IsPresent, PresentSo, ReadTrue, ReadingSo, ReadsIn, TakingTrue, read_on, span_next}
use Rattle.headline.specs.Takeovers.{slot_at, slot_of}
use Rattle.run_losses.proofs.torn_law.Course.{each_good, first_here}

-- what is known of a slot that a manager takes over
pub phase_fine : (Named : ℕ → Group → Type 0) (p : Phase) → PhaseFine Named p → (k : ℕ) (x : Taking) → slot_in k p ≡ phase.Taking x
    → TakingFine Named (lasting_of p).questions.last x
phase_fine Named (Serves s) fine k x fact = fine.slots.fine k x fact
phase_fine Named (Down life) fine k x fact = absurd cc
phase_fine Named (Waiting life hello) fine k x fact = absurd cc

module _ (base : Setting) (e : Estate AnyNode) (run : IsRun any_step any_start e.script e.events e.world) (lines : HasLines base e) (j : ℕ)
    (is_there : IsThere e.script.setup.clients e.script.setup.managers (OfManager j)) where
  abbrev k_of : Cluster
  k_of = cluster_of e.script.setup

  abbrev Here : ℕ → Option AnyNode
  Here count = node_in (moment e count).nodes (place_of k_of (names.Manager j))

  pub slot_is : (slot count : ℕ) → slot_at e j slot count ≡ slot_of slot (Here count)
  slot_is slot count = ap (slot_of slot) (named_is base e run lines j is_there count (names.Manager j))

  abbrev Good : ℕ → Type 0
  Good count = (slot : ℕ) (x : Taking) → slot_at e j slot count ≡ phase.Taking x → TakingTrue e j count slot x

  -- ---- nothing happens to the manager

  module _ (count : ℕ) (good : Good count) (new : List Packet) (sent : (moment e (suc count)).sent ≡ (moment e count).sent ++ new)
      (same : Here (suc count) ≡ Here count) (others : (p : Packet) → In p new → p.from ≡ names.Manager j → ⊥) where
    aside : Good (suc count)
    aside slot y fact = by y.take.present refl (good slot y was)
      where
        was : slot_at e j slot count ≡ phase.Taking y
        was = slot_is slot count ∙ (ap (slot_of slot) (sym same) ∙ (sym (slot_is slot (suc count)) ∙ fact))

        asks_of : (r : ReadingState) → AsksOf e (names.Manager j) new y.fetches.ask r.target.seg.name
        asks_of r p m among from fetches number = absurd (others p among from)

        read_so : (source : Source) (r : ReadingState) → y.take.present ≡ at_source source r → ReadTrue e j count slot y.epoch y.fetches.ask r
            → ReadTrue e j (suc count) slot y.epoch y.fetches.ask r
        read_so source r at t = record {
          span = span_next e j count slot y.epoch r.target t.span
              (subst (λ (p : SlotPhase). ReadsIn p y.epoch r.target) (sym fact) (refl, subst (λ o. IsPresent o r.target) (sym at) refl));
          so = reading_later e (names.Manager j) t.span.since count (suc count) y.fetches.ask r (omega arith) t.so;
          out = out_next e (names.Manager j) count y.fetches.ask r.target.seg.name new sent (numbers_rise base e run lines j is_there count) (asks_of r) t.out;
        }

        by_reading : (source : Source) (r : Option ReadingState) → y.take.present ≡ Some (record { source = source; reading = r })
            → ReadingSo e j count slot y r → ReadingSo e j (suc count) slot y r
        by_reading source None at so = tt
        by_reading source (Some r) at so = ⊎_elim (λ none. inl none) (λ t. inr (read_so source r at t)) so

        by : (o : Option Present) → y.take.present ≡ o → PresentSo e j count slot y o → PresentSo e j (suc count) slot y o
        by None at so = tt
        by (Some p) at so = by_reading p.source p.reading at so

  -- ---- it has its turn

  module _ (count : ℕ) (good : Good count) (event : Event) (new : List Packet) (acts : List Act)
      (u : Turned base e run lines j is_there count event new acts) where
    abbrev before : Phase
    before = u.node.phase

    abbrev after : Phase
    after = (happens u.node (what_of event)).state

    abbrev start : ℕ
    start = (lasting_of u.node.phase).questions.last

    start_is : (lasting_of u.node.phase).questions.last ≡ last_at e (names.Manager j) count
    start_is = sym (ap last_in (named_is base e run lines j is_there count (names.Manager j) ∙ u.was))

    last_is : (lasting_of (happens u.node (what_of event)).state).questions.last ≡ last_at e (names.Manager j) (suc count)
    last_is = sym (ap last_in (named_is base e run lines j is_there (suc count) (names.Manager j) ∙ u.now))

    slot_before : (slot : ℕ) → slot_at e j slot count ≡ slot_in slot u.node.phase
    slot_before slot = slot_is slot count ∙ ap (slot_of slot) u.was

    slot_after : (slot : ℕ) → slot_at e j slot (suc count) ≡ slot_in slot (happens u.node (what_of event)).state
    slot_after slot = slot_is slot (suc count) ∙ ap (slot_of slot) u.now

    module _ (slot : ℕ) (y : Taking) (fact : slot_at e j slot (suc count) ≡ phase.Taking y) where
      there_now : slot_in slot (happens u.node (what_of event)).state ≡ phase.Taking y
      there_now = sym (slot_after slot) ∙ fact

      fine : TakingFine (IsNamed e) (lasting_of (happens u.node (what_of event)).state).questions.last y
      fine = phase_fine (IsNamed e) after u.turns.fine slot y there_now

      low : y.fetches.ask ≤ last_at e (names.Manager j) (suc count)
      low = let a = fine.number in let b = last_is in omega arith

      -- each fetch that is sent by its number is of what it reads
      asks_of : (source : Source) (r : ReadingState) → ReadFine y.take source r → y.fetches.own ≡ r.ask
          → ((m : Fetch) → FetchFor y m → FetchAs y.fetches source (Some r) m) → AsksOf e (names.Manager j) new y.fetches.ask r.target.seg.name
      asks_of source r looks out reads p m among from fetches number =
          let d : FetchDone (IsNamed e) (CameBy e j count) (lasting_of after).questions.last after m =
          subst (SaidSo (IsNamed e) (CameBy e j count) (lasting_of after).questions.last after) fetches (u.says p among) in
          reads m (d.each slot y there_now) out number ∙ sym (ap (λ (t : Target). t.seg.name) looks.looks)

      module _ (x : Taking) (was : slot_in slot u.node.phase ≡ phase.Taking x) (epoch : y.epoch ≡ x.epoch) where
        by_reading : (source : Source) (o : Option ReadingState) → y.take.present ≡ Some (record { source = source; reading = o })
            → ReadingFine y.take source o → ReadingOut y.fetches o
            → ((m : Fetch) → FetchFor y m → FetchAs y.fetches source o m)
            → ReadingFrom (IsNamed e) (CameBy e j count) start x y source o → ReadingSo e j (suc count) slot y o
        by_reading source None at looks out reads from = tt
        by_reading source (Some r) at looks out reads from =
            ⊎_elim (λ none. inl none)
            (λ own. read_on e j base run lines is_there count slot x y (good slot x (slot_before slot ∙ was)) (slot_before slot ∙ was) fact epoch new u.sent low
            source r at (asks_of source r looks own reads)
            (subst (λ n. ReadFrom (IsNamed e) (CameBy e j count) n x y source r) start_is from)) out

      by_present : (o : Option Present) → y.take.present ≡ o → PresentFine y.take o → PresentOut y.fetches o → ((m : Fetch) → FetchFor y m
          → FetchOf y.fetches o m)
          → PresentFrom (IsNamed e) (CameBy e j count) start (slot_in slot u.node.phase) y o → PresentSo e j (suc count) slot y o
      by_present None at looks out reads from = tt
      by_present (Some p) at looks out reads from = by_reading from.0 from.1 from.2.epoch p.source p.reading at looks out reads from.2.reads

      now_true : TakingTrue e j (suc count) slot y
      now_true = by_present y.take.present refl fine.reads fine.is_out (λ m f. f) (u.turns.from slot y there_now)

    own_turn : Good (suc count)
    own_turn slot y fact = now_true slot y fact

  -- at first it takes nothing over
  none_first : (slot : ℕ) (x : Taking) → slot_at e j slot 0 ≡ phase.Taking x → ⊥
  none_first slot x fact =
      first_here e (names.Manager j) (λ o. slot_of slot o ≡ phase.Taking x → ⊥) away
      (none_at_first j e.script.setup (items_of e.script.lines (names.Manager j)) slot x) (sym (slot_is slot 0) ∙ fact)
    where
      away : phase.Away 0 ≡ phase.Taking x → ⊥
      away same = cc

  pub all_true : (count : ℕ) (slot : ℕ) (x : Taking) → slot_at e j slot count ≡ phase.Taking x → TakingTrue e j count slot x
  all_true =
      each_good e (names.Manager j) base lines Good (λ count good new sent same others. aside count good new sent same others)
      (λ count good event fact t own. own_turn count good event (map (sent_at t.clock) (any_step t.node (what_of event)).packets)
      (any_step t.node (what_of event)).acts
      (turned base e run lines j is_there count (all_good base e run lines j is_there count) event fact t own))
      (λ slot x fact. absurd (none_first slot x fact))
