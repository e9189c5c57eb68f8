-- What the owner of a log acts to be filed is told once it is filed: a segment that was in flight, under a name that is filed after the event, says what the
-- filed segment of its number says.
use Rattle.std.proofs.Common.{◌≡◌, ◌≤◌, ◌<◌, ℕ, suc, true, List, [], ◌∷◌, Option, Some, slice_get, inl, inr, refl, sym, ap, subst, ◌∙◌, arith}
use Rattle.std.specs.Prelude.{Contains, IfSome}
use Rattle.std.specs.List.{AllByRecursion}
use Rattle.client_log.specs.LogState.{LogState}
use Rattle.client_log.specs.Transition.{end_of}
use Rattle.core_world.specs.AnyNode.{any_step}
use Rattle.core_world.specs.declared.any_node.AnyNode.{AnyNode}
use Rattle.node_tellings.proofs.entry_tie.Frames.{contains_all}
use Rattle.node_tellings.specs.entry_tie.ClientTells.{FlightOwed, SegmentOwed}
use Rattle.node_tellings.specs.entry_tie.Told.{RowTold, RowsTold, told_by_rows}
use Rattle.headline.specs.Filed.{Filed, rows_at}
use Rattle.log_flight.specs.Flights.{FlightState}
use Rattle.log_law.specs.Held.{OwnerFlew, WhatFlewIsOfTheLog, WhatIsHeldFlew}
use Rattle.log_law.specs.Net.{Net, Owner as owner}
use Rattle.log_owner.specs.Sending.{name_of}
use Rattle.log_protocol.specs.Tables as tables
use Rattle.log_tie.specs.Setting.{Setting}
use Rattle.segment_format.specs.declared.segment.Segment.{Segment}
use Rattle.segment_format.specs.Rows.{rows_of}
use Rattle.token_protocol.specs.Basics.{In}
use Rattle.version_model.specs.declared.act.Act.{Act}
use Rattle.version_model.specs.declared.act.Act.TheVariants.{Filed as ActsFiled}
use Rattle.world_base.specs.declared.event.Event.{Event}
use Rattle.world_base.specs.Events.{node_of, what_of}
use Rattle.headline.specs.Moments.{moment}
use Rattle.run_laws.specs.world_lines.Lines.{IsLine, IsSure, LineGives, LinesGive}
use Rattle.run_laws.proofs.world_logs.Line.{grows}
use Rattle.headline.specs.Logs.{Role, log_by, owns}
use Rattle.run_laws.specs.world_logs.Lines.{Line, setting}
use Rattle.run_laws.proofs.world_reads.EntriesRise.{rows_filed}
use Rattle.run_laws.proofs.world_reads.Taking.{Took, did_then}
use Rattle.run_laws.specs.world_reads.Joint.{There, log_at}
use Rattle.run_laws.specs.world_reads.LoggedRuns.{LoggedRun}
use Rattle.xfs_base.proofs.Members.{contains_cases}
use Rattle.xfs_base.specs.declared.block.BlockId.{BlockId}
use Rattle.xfs_base.specs.declared.entry.Entry.{Entry}
use Rattle.xfs_base.specs.declared.segment.LogId.{LogId}
use Rattle.xfs_base.specs.declared.segment.SegName.{SegName}
use Rattle.xfs_base.proofs.Alls.{all_weaker}

among_of : {X : Type 0} (xs : List X) (x : X) → Contains xs x → In x xs
among_of [] x fact = absurd (nothing x fact)
  where
    nothing : {X : Type 0} (x : X) → Contains [] x → ⊥
    nothing x (k, below, fact) = absurd (omega arith)
among_of (y ∷ xs) x fact = elim (contains_cases y x xs fact) [ inl same ↦ inl (sym same) | inr later ↦ inr (among_of xs x later) ]

-- what holds of each item that is among some holds of all of these
each_among : {X : Type 0} (P : X → Type 0) (xs : List X) → ((x : X) → In x xs → P x) → AllByRecursion P xs
each_among P [] each = tt
each_among P (x ∷ xs) each = (each x (inl refl), each_among P xs (λ y later. each y (inr later)))

-- a segment that was filed says what is told
pub segment_told : (h : Filed) (l q : ℕ) (s : Segment) → 0 < q → q ≤ h.head l → h.segment l q ≡ s → RowsTold (told_by_rows (rows_at h)) (rows_of s)
segment_told h l q s some limit fact =
    all_weaker (Contains (rows_of s)) (RowTold (told_by_rows (rows_at h)))
    (λ row says. inl (record {
      log = l;
      seq = q;
      says = subst (λ (rows : List (BlockId × Entry)). Contains rows row) (sym (rows_filed h l q some limit ∙ ap rows_of fact)) says;
    })) (rows_of s) (contains_all (rows_of s))

module _ (logged : LoggedRun) (part count : ℕ) (r : Role) (there : There logged part r) where
  open logged use {base, estate as e, lines, texts}

  abbrev line : Line base e r
  line = lines r there

  abbrev g : Setting
  g = setting base e r

  abbrev l : ℕ
  l = log_by r

  abbrev net : Net
  net = log_at logged part r there count

  abbrev later : Net
  later = log_at logged part r there (suc count)

  -- An event of the owner, after which its log is sure and has its line in what is filed.
  pub record OwnsEvent (event : Event) (node : AnyNode) (h : Filed) : Type 0 where
    pub happens : slice_get e.events count ≡ Some event
    pub own : owns l (node_of event) ≡ true
    pub took : Took (moment e count) event node
    pub sure : IsSure texts.text l g later
    pub lined : IsLine l later h

  module _ (give : LinesGive) (held : WhatIsHeldFlew) (of_log : WhatFlewIsOfTheLog) (event : Event) (node : AnyNode) (h : Filed)
      (x : OwnsEvent event node h) where
    abbrev acts : List Act
    acts = (any_step node (what_of event)).acts

    filed_then : (name : SegName) → Contains acts (ActsFiled name) → tables.In name later.filed
    filed_then name fact =
        (line.stands (suc count)).filed name
        (did_then e l count event node x.happens x.own x.took (ActsFiled name) (among_of acts (ActsFiled name) fact))

    gives : LineGives l later h
    gives = give texts.text l g later h x.sure x.lined

    -- what flew is the filed segment of its number, where its name is filed
    is_there : (s : Segment) → tables.In s net.flown → tables.In s.name later.filed → h.segment l s.name.seq ≡ s
    is_there s flew filed =
        let place = x.lined.all s.name filed in
        sym (x.sure.are_texts (h.segment l s.name.seq) (x.lined.lined.flown s.name.seq place.0 place.1))
        ∙ (ap texts.text (sym (gives.one s.name filed))
        ∙ x.sure.are_texts s ((grows base e r line count (suc count) (omega arith)).flown s flew))

    -- so it says what is told
    pub acted_told : (s : Segment) → tables.In s net.flown → SegmentOwed (told_by_rows (rows_at h)) acts s
    acted_told s flew acted =
        let filed = filed_then s.name acted in
        let place = x.lined.all s.name filed in
        segment_told h l s.name.seq s place.0 place.1 (is_there s flew filed)

    owner_flew : OwnerFlew net.flown net.owner
    owner_flew = held g net (line.stands count).moment

    -- the flight of one that serves
    pub flight_told : (log : LogId) → log ≡ record { 0 = l } → (s : LogState) → net.owner ≡ owner.Serving s → FlightOwed (told_by_rows (rows_at h)) acts log s
    flight_told log own s serves flight flies acted =
        acted_told flight.segment flew
        (subst (λ (name : SegName). Contains acts (ActsFiled name)) named acted)
      where
        flew : tables.In flight.segment net.flown
        flew = subst (λ (o : Option FlightState). IfSome o (λ (f : FlightState). tables.In f.segment net.flown)) flies
            (subst (OwnerFlew net.flown) serves owner_flew)

        named : name_of log (end_of flight.segment) ≡ flight.segment.name
        named = ap (λ (k : LogId). record { log = k; seq = flight.segment.name.seq; pass = flight.segment.name.pass })
            (own ∙ sym (x.sure.own) ∙ sym (of_log g net (line.stands count).moment flight.segment flew))

    -- what one that opens its log has read back
    pub chain_told : (chain : List Segment) (s : LogState) → net.owner ≡ owner.Writing chain s
        → AllByRecursion (SegmentOwed (told_by_rows (rows_at h)) acts) chain
    chain_told chain s writes =
        each_among (SegmentOwed (told_by_rows (rows_at h)) acts) chain
        (λ t among. acted_told t ((subst (OwnerFlew net.flown) writes owner_flew).read t among))
