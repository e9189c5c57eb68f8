-- What owners act to be filed flew before the event.
use Rattle.std.proofs.Common.{◌≡◌, ⊎_elim, ◌++◌, ◌<◌, ℕ, true, List, [], ◌∷◌, Option, Some, None, inl, inr, refl, sym, ap, subst, ◌∙◌, arith}
use Rattle.std.specs.Prelude.{IfSome}
use Rattle.std.specs.List.{AllByRecursion}
use Rattle.std.proofs.lemmas.Bool.Decides.{nat_tests}
use Rattle.cleaner_node.specs.CleanerEvents as cleaners
use Rattle.cleaner_node.specs.declared.cleaner.Phase as cleaner_phases
use Rattle.cleaner_node.specs.declared.cleaner.Phase.TheVariants as cleaning
use Rattle.client_log.specs.History.{TellsWhatIsDue}
use Rattle.client_log.specs.LogState.{LogState}
use Rattle.client_log.specs.Transition as log
use Rattle.client_log.specs.Transition.{has_next}
use Rattle.client_log.specs.declared.input.In.{In as Input}
use Rattle.client_log.specs.declared.output.Out.{Out}
use Rattle.client_log.specs.declared.output.Out.TheVariants.{Send, Settled}
use Rattle.node_logs.specs.client_log_tie.Owner.{Scene, ClientAgrees}
use Rattle.client_node.specs.declared.phase.Phase.TheVariants as client
use Rattle.client_node.specs.declared.phase.Phase.{Phase}
use Rattle.client_node.specs.Phases as clients
use Rattle.client_serving.specs.declared.serving.Serving.{Serving as ServingClient}
use Rattle.log_flight.specs.Flights.{FlightState}
use Rattle.cleaner_serving.specs.declared.emptying.Emptying.{Emptying}
use Rattle.node_logs.specs.cleaner_log_tie.Owner as cleaner_log
use Rattle.node_base.specs.Room.{has_room}
use Rattle.log_law.specs.Events.Happens.{Acts, Bars, Crashes, Drops, Hears, Lists, Opens, Publishes, Raises, Renews, Restarts, Serves, Welcomes, Writes}
use Rattle.log_law.specs.Held.{OwnerFlew, WhatIsHeldFlew}
use Rattle.log_law.specs.Laws.{LogsStayWhole, Moment}
use Rattle.log_law.specs.Net.{Net, after_flight, names_of}
use Rattle.log_law.specs.Net.Owner.{Opening, Serving, Writing}
use Rattle.log_law.specs.Openings.{next_number}
use Rattle.log_law.specs.Written.{WhatFlewIsWritten, WhatFliesIsNext}
use Rattle.log_protocol.specs.Tables.{In}
use Rattle.log_tie.specs.Seen.{log_filed}
use Rattle.log_tie.specs.Setting.{Setting}
use Rattle.node_base.specs.declared.effects.Effect.{Effect}
use Rattle.headline.specs.Filed.{Texts}
use Rattle.node_slots.proofs.owner_index_tie.Acting.{all_then}
use Rattle.node_slots.specs.owner_index_tie.Acting.{CleanerFilesFlights, ClientsFileFlights, IsFlight, MayLand}
use Rattle.segment_format.specs.declared.segment.Segment.{Segment}
use Rattle.xfs_base.proofs.Booleans.{and_second, by_test}
use Rattle.xfs_base.specs.Limits.{u32_end}
use Rattle.xfs_base.specs.Steps.{still}
use Rattle.xfs_base.specs.declared.segment.End.{End}
use Rattle.xfs_base.specs.declared.segment.LogId.{LogId}
use Rattle.xfs_base.specs.declared.segment.SegName.{SegName}
use Rattle.xfs_base.specs.Logs.{cleaners_number}
use Rattle.run_laws.proofs.world_lines.Lines.{flown_fits, flown_segment}
use Rattle.run_laws.proofs.world_lines.Owners.{NextFits, cleaner_fits, client_fits, short_all}
use Rattle.run_laws.specs.world_lines.Filing.{CleanerFilesItsFlights, ClientsFileTheirFlights, FilesItsFlight, FlightSays, OpeningsFileWhatFlew, WhatIsFiledFlew}
use Rattle.run_laws.specs.world_lines.Lines.{IsSure, SaysBlocks}
use Rattle.run_laws.specs.world_lines.Owners.{HasFlown, IsRoomy}
use Rattle.run_laws.specs.world_lines.Turns.{AllSo}
use Rattle.log_tie.proofs.Listings.{in_either}

pub what_is_filed_flew : LogsStayWhole → WhatIsFiledFlew
what_is_filed_flew whole g n o m same name fact = (whole g n m).flown name (subst (In name) same fact)

-- ---- an owner whose opening segment is in flight

in_names : (chain : List Segment) (name : SegName) → In name (names_of chain) → (s : Segment) × In s chain × (s.name ≡ name)
in_names [] name fact = absurd fact
in_names (s ∷ chain) name (inl e) = (s, inl refl, sym e)
in_names (s ∷ chain) name (inr fact) = (let t = in_names chain name fact in (t.0, inr t.1, t.2))

-- what a log files by an input is of its flight
landed : (s : LogState) (i : Input) (l : LogId) (outs : List Out) → AllByRecursion (TellsWhatIsDue s i) outs → (name : SegName) → In name (log_filed l outs)
    → (f : FlightState) × (s.flight ≡ Some f) × (record { log = l; seq = f.segment.name.seq; pass = f.segment.name.pass } ≡ name)
landed s i l [] all name fact = absurd fact
landed s i l (Send f m ∷ os) all name fact = landed s i l os all.1 name fact
landed s i l (Settled end rows ∷ os) all name (inl e) =
    (all.0.flight, all.0.was, sym (e ∙ ap (λ (z : End). record { log = l; seq = z.seq; pass = z.pass }) all.0.is_end))
landed s i l (Settled end rows ∷ os) all name (inr fact) = landed s i l os all.1 name fact

module _ (whole : LogsStayWhole) (held : WhatIsHeldFlew) (written : WhatFlewIsWritten)
    (due : (s : LogState) (input : Input) → AllByRecursion (TellsWhatIsDue s input) (log.transition s input).outs) (g : Setting) (n : Net)
    (m : Moment g n) where
  was_filed : (name : SegName) → In name n.filed → HasFlown n name
  was_filed name fact = (whole g n m).flown name fact

  module _ (chain : List Segment) (s : LogState) (fact : n.owner ≡ Writing chain s) where
    flew : OwnerFlew n.flown (Writing chain s)
    flew = subst (OwnerFlew n.flown) fact (held g n m)

    flight_flew : (f : FlightState) → s.flight ≡ Some f → In f.segment n.flown
    flight_flew f flies = by s.flight flies flew.flight
      where
        by : (o : Option FlightState) → o ≡ Some f → IfSome o (λ (x : FlightState). In x.segment n.flown) → In f.segment n.flown
        by None e there = absurd cc
        by (Some x) e there = (let same : x ≡ f = cc in subst (λ (y : FlightState). In y.segment n.flown) same there)

    landed_flew : (i : Input) (name : SegName) → In name (log_filed g.log (log.transition s i).outs) → HasFlown n name
    landed_flew i name fact =
        let l = landed s i g.log (log.transition s i).outs (due s i) name fact in
        let there = flight_flew l.0 l.1 in
        (l.0.segment, there, ap (λ k. record { log = k; seq = l.0.segment.name.seq; pass = l.0.segment.name.pass }) (written g n m l.0.segment there).log ∙ l.2)

    writes_flew : (i : Input) (o : Option FlightState) (name : SegName) → In name (after_flight g n chain (log.transition s i) o).filed → HasFlown n name
    writes_flew i None name fact =
        ⊎_elim (landed_flew i name)
        (λ rest. ⊎_elim (λ read. let t = in_names chain name read in (t.0, flew.read t.0 t.1, t.2)) (was_filed name)
        (in_either name (names_of chain) n.filed rest))
        (in_either name (log_filed g.log (log.transition s i).outs) (names_of chain ++ n.filed) fact)
    writes_flew i (Some f) name fact = ⊎_elim (landed_flew i name) (was_filed name) (in_either name (log_filed g.log (log.transition s i).outs) n.filed fact)

pub openings_file_what_flew : LogsStayWhole → WhatIsHeldFlew → WhatFlewIsWritten
    → ((s : LogState) (input : Input) → AllByRecursion (TellsWhatIsDue s input) (log.transition s input).outs) → OpeningsFileWhatFlew
openings_file_what_flew whole held written due g n o m chain s fact (Acts t i e came texts) name filed =
    absurd (let a : Writing chain s ≡ Serving t = sym fact ∙ e in cc)
openings_file_what_flew whole held written due g n o m chain s fact (Writes c t i e came texts) name filed =
    writes_flew whole held written due g n m c t e i (log.transition t i).state.flight name filed
openings_file_what_flew whole held written due g n o m chain s fact (Opens t i e came can) name filed =
    absurd (let a : Writing chain s ≡ Opening t = sym fact ∙ e in cc)
openings_file_what_flew whole held written due g n o m chain s fact Crashes name filed = (whole g n m).flown name filed
openings_file_what_flew whole held written due g n o m chain s fact (Restarts e) name filed = (whole g n m).flown name filed
openings_file_what_flew whole held written due g n o m chain s fact (Renews map high doubts e came) name filed = (whole g n m).flown name filed
openings_file_what_flew whole held written due g n o m chain s fact (Serves v deed some came) name filed = (whole g n m).flown name filed
openings_file_what_flew whole held written due g n o m chain s fact (Bars v l pass) name filed = (whole g n m).flown name filed
openings_file_what_flew whole held written due g n o m chain s fact (Lists v) name filed = (whole g n m).flown name filed
openings_file_what_flew whole held written due g n o m chain s fact (Hears v generation up reached) name filed = (whole g n m).flown name filed
openings_file_what_flew whole held written due g n o m chain s fact (Raises low highest up within below) name filed = (whole g n m).flown name filed
openings_file_what_flew whole held written due g n o m chain s fact (Publishes map fine) name filed = (whole g n m).flown name filed
openings_file_what_flew whole held written due g n o m chain s fact (Welcomes inc ask news map hello low fine) name filed = (whole g n m).flown name filed
openings_file_what_flew whole held written due g n o m chain s fact (Drops lists meta listed within below) name filed = (whole g n m).flown name filed

-- ---- an owner that serves

module _ (held : WhatIsHeldFlew) (written : WhatFlewIsWritten) (next : WhatFliesIsNext) (texts : Texts) (l : ℕ) (g : Setting) (n : Net)
    (sure : IsSure texts l g n) (s : LogState) (fact : n.owner ≡ Serving s) (says : FlightSays s) where
  serving_flew : (f : FlightState) → s.flight ≡ Some f → In f.segment n.flown
  serving_flew f flies = by s.flight flies (subst (OwnerFlew n.flown) fact (held g n sure.moment))
    where
      by : (o : Option FlightState) → o ≡ Some f → IfSome o (λ (x : FlightState). In x.segment n.flown) → In f.segment n.flown
      by None e there = absurd cc
      by (Some x) e there = (let same : x ≡ f = cc in subst (λ (y : FlightState). In y.segment n.flown) same there)

  pub has_flown : (outs : List Effect) → AllSo (IsFlight s) outs → AllSo (HasFlown n) outs
  has_flown outs = all_then (IsFlight s) (HasFlown n) (λ name f. (f.0.segment, serving_flew f.0 f.1, f.2)) outs

  pub may_land : NextFits n.owner → MayLand l s
  may_land fits = record {
    segment = λ f flies. flown_segment written texts l g n sure f.segment f.segment.name.seq (serving_flew f flies) refl
        (subst (λ o. IfSome o (λ (x : FlightState). SaysBlocks x.segment)) flies says);
    fits = λ f flies. flown_fits written texts l g n sure f.segment (serving_flew f flies);
    short = λ f flies. let seq = (next g n sure.moment s fact f flies).seq in
        below f.segment.name.seq (fits f.segment.name.seq (let e = ap next_number fact in omega arith));
  }
    where
      below : (q : ℕ) → has_next q ≡ true → q < u32_end
      below q fact = grind (arith, nat_tests)

  -- where the owner has room
  pub files_its_flight : IsRoomy n → NextFits n.owner → (outs : List Effect) → (MayLand l s → AllSo (IsFlight s) outs) → FilesItsFlight n s outs
  files_its_flight room fits outs goes =
      let flights = goes (may_land fits) in
      let flown = has_flown outs flights in record { flights = flights; flown = flown; short = short_all n room fits outs flown }

nothing_filed : (n : Net) (s : LogState) → FilesItsFlight n s []
nothing_filed n s = record { flights = tt; flown = tt; short = tt }

serves_so : (g : Setting) (c : ℕ) (w : Scene) (p : Phase) (s : ServingClient) → p ≡ client.Serving s → ClientAgrees g c w p → w.net.owner ≡ Serving s.log
serves_so g c w p s fact sees = (subst (ClientAgrees g c w) fact sees).1.owner

pub clients_file_their_flights : WhatIsHeldFlew → WhatFlewIsWritten → WhatFliesIsNext → ClientsFileFlights → ClientsFileTheirFlights
clients_file_their_flights held written next flights part texts g c w n node what s some below sure room says sees fact agrees gets =
    by_test (λ (t : clients.Went_to). (MayLand c s.log → AllSo (IsFlight s.log) t.outs) → FilesItsFlight w.net s.log t.outs) (clients.client_has_room node)
    (clients.happens node what) (still node.phase)
    (λ has. files_its_flight held written next texts c g w.net sure s.log (serves_so g c w node.phase s fact sees) says room
    (client_fits g c w node.phase sees
    (and_second (has_room (clients.lasting_of node.phase).questions.last) (clients.phase_has_room node.phase)
    (and_second (has_room (clients.lasting_of node.phase).inc) _ has))) (clients.happens node what).outs)
    (λ _ goes. nothing_filed w.net s.log) (flights part texts n c node what s some below fact agrees gets)

emptying_so : (g : Setting) (w : Scene) (p : cleaner_phases.Phase) (e : Emptying) → p ≡ cleaning.Serving e → cleaner_log.CleanerAgrees g w p
    → w.net.owner ≡ Serving e.log
emptying_so g w p e fact sees = (subst (cleaner_log.CleanerAgrees g w) fact sees).log.owner

pub cleaner_files_its_flights : WhatIsHeldFlew → WhatFlewIsWritten → WhatFliesIsNext → CleanerFilesFlights → CleanerFilesItsFlights
cleaner_files_its_flights held written next flights part texts g w n node what e small sure room says sees fact agrees gets asks =
    by_test (λ (t : cleaners.Went_to). (MayLand cleaners_number e.log → AllSo (IsFlight e.log) t.outs) → FilesItsFlight w.net e.log t.outs) (cleaners.phase_has_room node.phase)
    (cleaners.happens node.peers node.phase what) (still node.phase)
    (λ has. files_its_flight held written next texts cleaners_number g w.net sure e.log (emptying_so g w node.phase e fact sees) says room
    (cleaner_fits g w node.phase sees has)
    (cleaners.happens node.peers node.phase what).outs)
    (λ _ goes. nothing_filed w.net e.log) (flights part texts n node what e small fact agrees gets asks)
