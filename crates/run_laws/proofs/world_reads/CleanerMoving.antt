-- After an event what the cleaner had in flight when it served last is moved.
use Rattle.std.proofs.Common.{◌≡◌, ⊎_elim, ℕ, suc, false, List, Option, Some, None, slice_get, refl, sym, ap, subst, ◌∙◌}
use Rattle.std.specs.Prelude.{IfSome}
use Rattle.std.specs.List.{AllByRecursion}
use Rattle.node_logs.specs.cleaner_log_tie.Owner as cleaner_log
use Rattle.cleaner_node.specs.declared.cleaner.Cleaner.{Cleaner as CleanerNode}
use Rattle.cleaner_node.specs.declared.cleaner.Phase as cleaning
use Rattle.cleaner_node.specs.declared.cleaner.Phase.TheVariants.{Down, Opening, Serving}
use Rattle.client_log.specs.LogState.{LogState}
use Rattle.node_logs.specs.client_log_tie.Owner.{SeesStage}
use Rattle.index_tie.specs.Net.{Net, Packet}
use Rattle.log_flight.specs.Flights.{FlightState}
use Rattle.log_law.specs.Events.{Runs}
use Rattle.log_law.specs.Laws.{Moment}
use Rattle.log_law.specs.Restarts.{is_serving, last_flight}
use Rattle.log_law.specs.Tails.{then_on}
use Rattle.log_owner.specs.declared.opening.Opening as openings
use Rattle.log_owner.specs.declared.opening.Stage as stages
use Rattle.log_owner.specs.declared.opening.Stage.TheVariants as stage
use Rattle.log_protocol.specs.Tables.{In}
use Rattle.node_logs.proofs.node_log_tie.Others.{same_or_other}
use Rattle.node_slots.specs.owner_index_tie.CleanerEvents.{CleanerAgrees}
use Rattle.node_slots.specs.owner_index_tie.CleanerMoves.{CleanerMoves, ItemMoves}
use Rattle.run_laws.specs.reopening_law.Flights.{OthersLeaveFlights}
use Rattle.segment_format.specs.declared.segment.Item.{Item}
use Rattle.segment_format.specs.declared.segment.Item.TheVariants.{Block, Delta, Part}
use Rattle.world_base.specs.declared.event.Event.{Event}
use Rattle.world_base.specs.Events.{node_of}
use Rattle.headline.specs.Logs.Role.{OfCleaner}
use Rattle.run_laws.proofs.reopening_law.Flights.{last_stays, served_last}
use Rattle.run_laws.proofs.world_reads.AfterLogs.{flight_left}
use Rattle.run_laws.proofs.world_reads.CleanerMoment.{IsHere, its_line, its_moment, its_scene, its_setting, owns}
use Rattle.run_laws.specs.world_reads.Joint.{flew_at}
use Rattle.run_laws.specs.world_reads.LoggedRuns.{LoggedRun}
use Rattle.xfs_base.specs.declared.node.NodeId.TheVariants.{Cleaner}
use Rattle.xfs_base.proofs.Alls.{all_weaker}

-- ---- what is moved stays so

module _ (part : ℕ) (sent more : List Packet) (grows : (x : Packet) → In x sent → In x more) where
  item_later : (i : Item) → ItemMoves part sent i → ItemMoves part more i
  item_later (Block block value) h = tt
  item_later (Delta block ver hop item) h =
      record { entry = h.entry; answered = λ inside. grows _ (h.answered inside); version = h.version; hop = h.hop }
  item_later (Part slot rows) h = tt

  items_later : (items : List Item) → AllByRecursion (ItemMoves part sent) items → AllByRecursion (ItemMoves part more) items
  items_later items all = all_weaker (ItemMoves part sent) (ItemMoves part more) item_later items all

-- ---- beside one run

module _ (logged : LoggedRun) (part : ℕ) where
  open logged use {estate as e, texts}

  -- what the cleaner had in flight when it served last is moved
  abbrev pub Moved : ℕ → Net → Type 0
  Moved count n = IfSome (flew_at logged part OfCleaner tt count) (λ f. AllByRecursion (ItemMoves part n.sent) f.segment.items)

  module _ (count : ℕ) (n m : Net) (grows : (x : Packet) → In x n.sent → In x m.sent) where
    abbrev before_last : Option FlightState
    before_last = flew_at logged part OfCleaner tt count

    abbrev then_last : Option FlightState
    then_last = flew_at logged part OfCleaner tt (suc count)

    still_moved : then_last ≡ before_last → Moved count n → Moved (suc count) m
    still_moved same h = subst (λ o. IfSome o (λ f. AllByRecursion (ItemMoves part m.sent) f.segment.items)) (sym same) (by before_last h)
      where
        by : (o : Option FlightState) → IfSome o (λ f. AllByRecursion (ItemMoves part n.sent) f.segment.items)
            → IfSome o (λ f. AllByRecursion (ItemMoves part m.sent) f.segment.items)
        by None h = tt
        by (Some f) h = items_later part n.sent m.sent grows f.segment.items h

    -- it is what is in flight, where it serves
    serving_moved : (s : LogState) → then_last ≡ s.flight
        → ((f : FlightState) → s.flight ≡ Some f → AllByRecursion (ItemMoves part m.sent) f.segment.items)
        → Moved (suc count) m
    serving_moved s same flies =
        subst (λ o. IfSome o (λ f. AllByRecursion (ItemMoves part m.sent) f.segment.items)) (sym same) (by s.flight (λ f fact. flies f fact))
      where
        by : (o : Option FlightState) → ((f : FlightState) → o ≡ Some f → AllByRecursion (ItemMoves part m.sent) f.segment.items)
            → IfSome o (λ f. AllByRecursion (ItemMoves part m.sent) f.segment.items)
        by None h = tt
        by (Some f) h = h f refl

    module _ (leave : OthersLeaveFlights) (event : Event) (at : slice_get e.events count ≡ Some event) (node : CleanerNode)
        (here : IsHere logged part (suc count) node) (agrees : CleanerAgrees part m texts.text node.phase) where
      abbrev goes : Runs (its_setting logged part) (its_scene logged part count).net
          (its_scene logged part (suc count)).net
      goes = (its_line logged part).goes count

      sees : cleaner_log.CleanerAgrees (its_setting logged part) (its_scene logged part (suc count)) node.phase
      sees = (owns logged part (suc count) node here).agrees

      -- over the event
      joined : then_last ≡ last_flight (then_on (its_moment logged part count).run goes)
      joined = ap (λ (x : Moment (its_setting logged part) (its_scene logged part (suc count)).net). last_flight x.run)
          ((its_line logged part).joined count)

      -- one that doesn't serve then had it before
      away : is_serving (its_scene logged part (suc count)).net.owner ≡ false → then_last ≡ before_last
      away none = joined ∙ ⊎_elim (λ own. own_so own) (λ other. left_so other) (same_or_other Cleaner (node_of event))
        where
          own_so : Cleaner ≡ node_of event
              → last_flight (then_on (its_moment logged part count).run goes) ≡ before_last
          own_so own =
              last_stays (its_setting logged part) _ (its_scene logged part count).net
              (its_scene logged part (suc count)).net (its_moment logged part count).run goes
              (((its_line logged part).straight count event at own).never none)

          left_so : (Cleaner ≡ node_of event → ⊥)
              → last_flight (then_on (its_moment logged part count).run goes) ≡ before_last
          left_so other =
              flight_left leave (its_setting logged part) _ (its_scene logged part count).net
              (its_scene logged part (suc count)).net (its_moment logged part count).run goes
              ((its_line logged part).others count event at other)

      stage_away : (o : openings.Opening) (last : ℕ) (s : stages.Stage)
          → SeesStage (its_setting logged part) cleaner_log.its_number (its_scene logged part (suc count)) o.known last s
          → is_serving (its_scene logged part (suc count)).net.owner ≡ false
      stage_away o last (stage.Scanning s) sees = ap is_serving sees.owner
      stage_away o last (stage.Settling s) sees = ap is_serving sees.owner

      by_phase : (p : cleaning.Phase) → node.phase ≡ p → Moved count n → Moved (suc count) m
      by_phase (Down l) fact h =
          still_moved (away (ap is_serving
          (subst (cleaner_log.CleanerAgrees (its_setting logged part) (its_scene logged part (suc count))) fact sees).1)) h
      by_phase (Opening l o) fact h =
          still_moved (away (stage_away o l.questions.last o.stage
          (subst (cleaner_log.CleanerAgrees (its_setting logged part)
          (its_scene logged part (suc count))) fact sees).sees)) h
      by_phase (Serving v) fact h =
          let owner = (subst (cleaner_log.CleanerAgrees (its_setting logged part) (its_scene logged part (suc count))) fact
          sees).log.owner in
          let moves = subst (CleanerMoves part m.sent) fact agrees.moves in
          serving_moved v.log
          (served_last (its_setting logged part) _ (its_scene logged part (suc count)).net
          (its_moment logged part (suc count)).run v.log owner)
          moves.0.flight

      -- so it stays over each event of the run, whose ever it is
      pub moved_then : Moved count n → Moved (suc count) m
      moved_then h = by_phase node.phase refl h
