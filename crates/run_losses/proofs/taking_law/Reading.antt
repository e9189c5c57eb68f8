-- What a manager reads at a count while it takes a slot over: a segment of a source, at or above the low of the source.
use Rattle.std.proofs.Common.{◌≡◌, ⊎_elim, ℕ, zero, suc, ◌-◌, ◌≤◌, Bool, true, false, cond, not, nat_le, nat_lt, List, [], ◌∷◌, Option, Some, None, map, refl, sym, ap, subst, ◌∙◌, arith}
use Rattle.std.specs.List.{AllByRecursion, flat_map, range_with_len}
use Rattle.std.specs.Prelude.{Contains}
use Rattle.std.proofs.lemmas.Bool.Decides.{nat_tests}
use Rattle.std.proofs.lemmas.Bool.{leb-true}
use Rattle.core_world.specs.AnyNode.{any_start, any_step}
use Rattle.core_world.specs.declared.any_node.AnyNode.{AnyNode}
use Rattle.core_world.specs.declared.any_node.AnyNode.TheVariants as any
use Rattle.log_tie.specs.Setting.{Setting}
use Rattle.manager_node.specs.declared.phase.Phase.{Phase}
use Rattle.manager_node.specs.declared.phase.Phase.TheVariants.{Down, Waiting, Serving as Serves}
use Rattle.manager_node.specs.Phases.{lasting_of}
use Rattle.manager_slots.specs.declared.slot_phase.SlotPhase.{SlotPhase}
use Rattle.manager_slots.specs.declared.slot_phase.SlotPhase.TheVariants as phase
use Rattle.manager_slots.specs.declared.slot_phase.Taking.{Taking}
use Rattle.manager_slots.specs.SlotTable.{Table}
use Rattle.headline.specs.Managers.{phase_at, slot_in}
use Rattle.run_laws.specs.reading_law.Readings.{AnyHolds, ReadingsCame, cuts_at}
use Rattle.node_tellings.specs.reading_tie.Arrivals.{answered_in, cut_by}
use Rattle.node_tellings.specs.reading_tie.Came.{Came, Striped}
use Rattle.node_tellings.specs.reading_tie.ManagerReads.{PhaseHolds, SlotHolds}
use Rattle.node_tellings.specs.reading_tie.TakeoverReads.{LeadsDown, PresentHolds, ReadsDown, StandsBy, TakeHolds}
use Rattle.segment_format.specs.declared.segment.Segment.{Segment}
use Rattle.segment_reading.specs.declared.target.Target.{Target}
use Rattle.segment_reading.specs.Reading.{ReadingState}
use Rattle.takeover.specs.declared.report.Report.{Report}
use Rattle.takeover.specs.declared.source.Present.{Present}
use Rattle.takeover.specs.declared.source.Source.{Source}
use Rattle.takeover.specs.Reports.{end_of, horizon_at}
use Rattle.takeover.specs.Sources.{back_from, from_end, goes_back, log_source, log_sources, part_source, prior_of, sources_of}
use Rattle.world_base.specs.declared.estate.Estate.{Estate}
use Rattle.world_base.specs.Runs.{IsRun}
use Rattle.headline.specs.Moments.{moment, node_named}
use Rattle.run_laws.specs.world_logs.Lines.{HasLines}
use Rattle.headline.specs.Logs.{IsThere}
use Rattle.headline.specs.Logs.Role.{OfManager}
use Rattle.xfs_base.proofs.Booleans.{and_first}
use Rattle.xfs_base.proofs.Members.{contains_cases, contains_nothing}
use Rattle.xfs_base.specs.declared.news.SlotNews.{SlotNews}
use Rattle.xfs_base.specs.declared.node.NodeId.TheVariants as names
use Rattle.xfs_base.specs.declared.segment.End.{End}
use Rattle.xfs_base.proofs.Alls.{all_append, all_flat_map, all_map}
use Rattle.xfs_base.specs.Segments.{names_none}
use Rattle.xfs_base.specs.Limits.{block_logs}
use Rattle.run_losses.proofs.taking_law.Always.{phase_fine}
use Rattle.run_losses.proofs.taking_law.ManagerCounts.{IsNamed, NodeFine, all_good, named_is}
use Rattle.run_losses.proofs.taking_law.SlotReads.{at_source}
use Rattle.run_losses.proofs.taking_law.SlotTurns.{PresentFine, ReadFine, TakingFine}
use Rattle.run_losses.proofs.taking_law.Truths.{IsLooked, IsPresent, ReadsIn}
use Rattle.headline.specs.Takeovers.{Reads, slot_at, slot_of}

-- what holds of each of a list holds of what it contains
all_contains : {X : Type 0} (P : X → Type 0) (xs : List X) (x : X) → AllByRecursion P xs → Contains xs x → P x
all_contains P [] x all among = absurd (contains_nothing x among)
all_contains P (y ∷ xs) x all among =
    ⊎_elim (λ same. subst P same all.0) (λ rest. all_contains P xs x all.1 rest) (contains_cases y x xs among)

-- ---- a source is read down to its low

abbrev IsAbove : Source → Type 0
IsAbove source = source.low ≤ source.seg.name.seq

below_prior : (a b : ℕ) → nat_lt a b ≡ true → a ≤ b - 1
below_prior a b fact = grind (arith, nat_tests)

end_above : (log low : ℕ) (end : End) → AllByRecursion IsAbove (from_end log low end)
end_above log low end = by (nat_le low end.seq) refl
  where
    by : (t : Bool) → nat_le low end.seq ≡ t → AllByRecursion IsAbove (cond t (log_source log low end ∷ []) [])
    by true fact = (leb-true low end.seq fact, tt)
    by false fact = tt

sources_above : (news : SlotNews) (reports : List Report) → AllByRecursion IsAbove (sources_of news reports)
sources_above news reports =
    all_append IsAbove (map part_source news.parts) (flat_map (log_sources news.horizon reports) (range_with_len 1 block_logs))
    (all_map IsAbove part_source (λ part. omega arith) news.parts)
    (all_flat_map IsAbove (log_sources news.horizon reports) (λ log. end_above log (horizon_at news.horizon log) (end_of reports log)) (range_with_len 1 block_logs))

same_source : (a b : Source) → Some a ≡ Some b → a ≡ b
same_source a b fact = cc

back_above : (at : Source) (s : Segment) (source : Source) → back_from at s ≡ Some source → IsAbove source
back_above at s source = by (goes_back at s) refl
  where
    by : (t : Bool) → goes_back at s ≡ t → cond t (Some (record { seg = prior_of s; low = at.low })) None ≡ Some source → IsAbove source
    by true fact e =
        subst IsAbove (same_source (record { seg = prior_of s; low = at.low }) source e)
        (below_prior at.low s.name.seq (and_first (nat_lt at.low s.name.seq) (not (names_none s.prior)) fact))
    by false fact e = absurd cc

module _ (came : Came) (striped : Striped) where
  down_above : (first : Source) (segments : List Segment) (source : Source) → IsAbove first → ReadsDown came striped first segments source → IsAbove source
  down_above first [] source above fact = subst IsAbove (sym fact) above
  down_above first (s ∷ segments) source above fact = back_above fact.0 s source fact.3

  leads_above : (news : SlotNews) (reports : List Report) (source : Source) → LeadsDown came striped (sources_of news reports) source → IsAbove source
  leads_above news reports source leads =
      down_above leads.first leads.segments source (all_contains IsAbove (sources_of news reports) leads.first (sources_above news reports) leads.among)
      leads.down

  -- ---- of a slot that is taken over

  at_slot : (P : SlotPhase → Type 0) (table : Table) (slot : ℕ) (x : Taking) → AllByRecursion P table → phase_at table slot ≡ phase.Taking x
      → P (phase.Taking x)
  at_slot P [] slot x all fact = absurd (never x fact)
    where
      never : (x : Taking) → phase.Away 0 ≡ phase.Taking x → ⊥
      never x e = cc
  at_slot P (p ∷ table) zero x all fact = subst P fact all.0
  at_slot P (p ∷ table) (suc slot) x all fact = at_slot P table slot x all.1 fact

  phase_holds : (p : Phase) → PhaseHolds came striped p → (slot : ℕ) (x : Taking) → slot_in slot p ≡ phase.Taking x → TakeHolds came striped x.take
  phase_holds (Serves s) h slot x fact = at_slot (SlotHolds came striped) s.slots slot x h.slots fact
  phase_holds (Down life) h slot x fact = absurd cc
  phase_holds (Waiting life hello) h slot x fact = absurd cc

  reads_above : (x : Taking) (source : Source) (r : ReadingState) → TakeHolds came striped x.take → x.take.present ≡ at_source source r → IsAbove source
  reads_above x source r h at =
      let stands : PresentHolds came striped x.take (record { source = source; reading = Some r }) = subst (StandsBy came striped x.take) at h.stands in
      leads_above x.take.news x.take.reports source stands.leads

-- ---- at a count

module _ (base : Setting) (e : Estate AnyNode) (run : IsRun any_step any_start e.script e.events e.world) (lines : HasLines base e) (j : ℕ)
    (is_there : IsThere e.script.setup.clients e.script.setup.managers (OfManager j)) (came : (k : ℕ)
    → ReadingsCame e.world (moment e k)) (count slot : ℕ) where
  -- what is known of a slot that is taken over
  record Known (x : Taking) : Type 0 where
    last : ℕ
    fine : TakingFine (IsNamed e) last x
    holds : TakeHolds (answered_in (moment e count).sent (names.Manager j)) (cut_by (cuts_at e.world)) x.take

  known_of : (o : Option AnyNode) → NodeFine e o
      → ((node : AnyNode) → o ≡ Some node → AnyHolds (moment e count).sent (names.Manager j) (cuts_at e.world) node)
      → (x : Taking) → slot_of slot o ≡ phase.Taking x → Known x
  known_of None fine holds x fact = absurd cc
  known_of (Some (any.Client node)) fine holds x fact = absurd cc
  known_of (Some (any.Manager node)) fine holds x fact = record {
    last = (lasting_of node.phase).questions.last;
    fine = phase_fine (IsNamed e) node.phase fine slot x fact;
    holds = phase_holds (answered_in (moment e count).sent (names.Manager j)) (cut_by (cuts_at e.world)) node.phase (holds (any.Manager node) refl) slot x fact;
  }
  known_of (Some (any.Server node)) fine holds x fact = absurd cc
  known_of (Some (any.Cleaner node)) fine holds x fact = absurd cc
  known_of (Some (any.Registry node)) fine holds x fact = absurd cc

  known : (x : Taking) → slot_at e j slot count ≡ phase.Taking x → Known x
  known x fact =
      known_of (node_named (moment e count) (names.Manager j))
      (subst (NodeFine e) (sym (named_is base e run lines j is_there count (names.Manager j))) (all_good base e run lines j is_there count).fine)
      (λ node at. (came count).nodes (names.Manager j) node at) x fact

  module _ (epoch : ℕ) (target : Target) where
    of_reading : (x : Taking) → slot_at e j slot count ≡ phase.Taking x → x.epoch ≡ epoch → (source : Source) (r : ReadingState)
        → x.take.present ≡ at_source source r
        → r.target ≡ target → Reads (slot_at e j slot count) epoch target.seg
    of_reading x fact of_epoch source r at same =
        let k = known x fact in
        let looks : ReadFine x.take source r = subst (PresentFine x.take) at k.fine.reads in
        let seg : source.seg ≡ target.seg = ap (λ (t : Target). t.seg) (sym looks.looks ∙ same) in
        let above : source.low ≤ source.seg.name.seq =
        reads_above (answered_in (moment e count).sent (names.Manager j)) (cut_by (cuts_at e.world)) x source r k.holds at in
        record {
          taking = x;
          takes = fact;
          of_epoch = of_epoch;
          source = source;
          reading = r;
          present = at;
          looks = looks.looks;
          of_segment = seg;
          above = subst (λ s. source.low ≤ s.name.seq) seg above;
        }

    pub reads_at : ReadsIn (slot_at e j slot count) epoch target → Reads (slot_at e j slot count) epoch target.seg
    reads_at reads = by (slot_at e j slot count) refl reads
      where
        by_reading : (x : Taking) → slot_at e j slot count ≡ phase.Taking x → x.epoch ≡ epoch → (source : Source) (o : Option ReadingState)
            → x.take.present ≡ Some (record { source = source; reading = o }) → IsLooked o target → Reads (slot_at e j slot count) epoch target.seg
        by_reading x fact of_epoch source None at same = absurd same
        by_reading x fact of_epoch source (Some r) at same = of_reading x fact of_epoch source r at same

        by_present : (x : Taking) → slot_at e j slot count ≡ phase.Taking x → x.epoch ≡ epoch → (o : Option Present) → x.take.present ≡ o → IsPresent o target
            → Reads (slot_at e j slot count) epoch target.seg
        by_present x fact of_epoch None at same = absurd same
        by_present x fact of_epoch (Some p) at same = by_reading x fact of_epoch p.source p.reading at same

        by : (p : SlotPhase) → slot_at e j slot count ≡ p → ReadsIn p epoch target → Reads (slot_at e j slot count) epoch target.seg
        by (phase.Taking x) fact h = by_present x fact h.0 x.take.present refl h.1
        by (phase.Away epoch_) fact h = absurd h
        by (phase.Active a) fact h = absurd h
        by (phase.Broken epoch_ seg) fact h = absurd h
