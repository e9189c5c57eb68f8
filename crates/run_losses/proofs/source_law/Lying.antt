-- What a takeover reads at a moment that stands to the small worlds had been filed, and is stored, unless it was deleted.
use Rattle.std.proofs.Common.{◌≡◌, ⊎_elim, ℕ, zero, suc, ◌+◌, ◌<◌, ◌≤◌, false, length, List, [], ◌∷◌, Option, Some, None, refl, sym, ap, subst, ◌∙◌, arith}
use Rattle.std.specs.List.{AllByRecursion}
use Rattle.std.specs.Prelude.{Contains}
use native.Mathlib.Bridge.{le_prop}
use Rattle.core_world.specs.AnyNode.{any_start, any_step}
use Rattle.core_world.specs.declared.any_node.AnyNode.{AnyNode}
use Rattle.core_world.specs.declared.any_node.AnyNode.TheVariants as any
use Rattle.headline.specs.Filed.{Filed, rows_at}
use Rattle.log_law.specs.Groups.{PriorsNameGroups}
use Rattle.log_law.specs.Laws.{OneNameOneText}
use Rattle.log_law.specs.Places.{APlaceNamesOneContent}
use Rattle.log_protocol.specs.Tables as tables
use Rattle.segment_format.specs.References.{ref_of}
use Rattle.manager_node.specs.declared.manager.Manager.{Manager as ManagerNode}
use Rattle.manager_node.specs.declared.phase.Phase.{Phase}
use Rattle.manager_node.specs.declared.phase.Phase.TheVariants.{Down, Waiting, Serving as Serves}
use Rattle.manager_slots.specs.declared.slot_phase.SlotPhase.{SlotPhase}
use Rattle.manager_slots.specs.declared.slot_phase.SlotPhase.TheVariants as phase
use Rattle.manager_slots.specs.declared.slot_phase.Taking.{Taking}
use Rattle.manager_serving.specs.declared.serving.Serving.{Serving}
use Rattle.run_losses.proofs.missing_law.Servers.{StoredLaws, flown_is_stored}
use Rattle.headline.specs.Torn.{IsStoredAs, WasFiled}
use Rattle.node_slots.specs.node_index_tie.ManagerEvents as places
use Rattle.node_slots.specs.node_index_tie.Pages.{desk_of}
use Rattle.headline.specs.Managers.{phase_at, slot_in}
use Rattle.node_tellings.specs.part_tie.ManagerNames.{PhaseNames, SlotNames}
use Rattle.node_tellings.specs.part_tie.Names.{AllKnown}
use Rattle.run_laws.specs.reading_law.Readings.{ReadingsCame, cuts_at}
use Rattle.node_tellings.specs.reading_tie.Arrivals.{answered_in, cut_by}
use Rattle.node_tellings.specs.reading_tie.Came.{Came, Striped}
use Rattle.node_tellings.specs.reading_tie.ManagerReads.{PhaseHolds, SlotHolds}
use Rattle.node_tellings.specs.reading_tie.TakeoverReads.{PresentHolds, StandsBy, TakeHolds}
use Rattle.node_tellings.specs.reference_tie.Managers.{PhaseRefers, SlotRefers, TakeRefers}
use Rattle.node_tellings.specs.reference_tie.References.{References}
use Rattle.segment_format.specs.declared.segment.Segment.{Segment}
use Rattle.takeover.specs.declared.source.Source.{Source}
use Rattle.takeover.specs.Sources.{sources_of}
use Rattle.headline.specs.Takeovers.{Reads, slot_at, slot_of}
use Rattle.token_protocol.specs.Basics.{In}
use Rattle.version_model.specs.declared.act.Act.TheVariants as act
use Rattle.world_base.specs.Cluster.{cluster_of, place_of}
use Rattle.world_base.specs.Runs.{IsRun}
use Rattle.run_laws.proofs.world_law.Laws.{one_node}
use Rattle.run_laws.proofs.world_law.Sent.{in_list}
use Rattle.headline.specs.Moments.{moment, node_in, node_named}
use Rattle.run_laws.proofs.world_logs.Roles.{high_log}
use Rattle.headline.specs.Logs.{IsThere, Role, did, log_by, renews}
use Rattle.headline.specs.Segments.{NotDeleted}
use Rattle.headline.specs.Logs.Role.{OfClient, OfCleaner, OfManager}
use Rattle.run_laws.proofs.world_reads.EntriesSources.{ReadsFiled, ReadsPart, ReadsThere, reads_there}
use Rattle.run_laws.proofs.world_reads.KnownLogs.{HasLog, filed_known, filed_log}
use Rattle.run_laws.proofs.world_reads.ManagerChains.{Refers, refers_down}
use Rattle.run_laws.proofs.world_reads.ManagerOwed.{ends_bear, one_among, parts_flew}
use Rattle.run_laws.proofs.world_reads.ManagerSources.{sources_flew}
use Rattle.run_laws.proofs.world_reads.TurnRun.{moment_cluster}
use Rattle.run_laws.specs.world_reads.Entries.{PartKnown, PartsNamed}
use Rattle.run_laws.specs.world_reads.Joint.{Joint}
use Rattle.run_laws.specs.world_reads.References.{Flew, ReferencesStand, its}
use Rattle.run_laws.specs.world_reads.LoggedRuns.{LoggedRun}
use Rattle.xfs_base.specs.declared.node.NodeId.TheVariants.{Manager}
use Rattle.xfs_base.specs.declared.segment.LogId.{LogId}
use Rattle.xfs_base.specs.declared.segment.SegName.{SegName}
use Rattle.xfs_base.specs.declared.segment.SegRef.{SegRef}
use Rattle.xfs_base.specs.Logs.{cleaners_number}
use Rattle.xfs_base.specs.Limits.{slot_count, block_logs}

-- ---- one log has one owner

below_nine : (c clients : ℕ) → c ≤ clients → clients + 1 ≤ block_logs → c ≡ cleaners_number → ⊥
below_nine c clients limit few fact = omega arith

below_managers : (c clients l : ℕ) → c ≤ clients → clients + 1 ≤ block_logs → block_logs < l → l ≡ c → ⊥
below_managers c clients l limit few high fact = omega arith

same_role : (clients managers : ℕ) → clients + 1 ≤ block_logs → (a b : Role) → IsThere clients managers a → IsThere clients managers b → renews b ≡ false
    → log_by a ≡ log_by b → a ≡ b
same_role clients managers few (OfClient c) (OfClient d) x y keeps fact = ap OfClient fact
same_role clients managers few (OfClient c) OfCleaner x y keeps fact = absurd (below_nine c clients x.1 few fact)
same_role clients managers few OfCleaner (OfClient d) x y keeps fact = absurd (below_nine d clients y.1 few (sym fact))
same_role clients managers few OfCleaner OfCleaner x y keeps fact = refl
same_role clients managers few (OfManager j) (OfClient d) x y keeps fact = absurd (below_managers d clients _ y.1 few (high_log j x.0) fact)
same_role clients managers few (OfManager j) OfCleaner x y keeps fact = absurd (let high = high_log j x.0 in omega arith)
same_role clients managers few a (OfManager k) x y keeps fact = absurd cc

one_there : (clients managers : ℕ) (a : Role) (x y : IsThere clients managers a) → x ≡ y
one_there clients managers (OfClient c) x y = λ i. (le_prop x.0 y.0 i, le_prop x.1 y.1 i)
one_there clients managers OfCleaner x y = refl
one_there clients managers (OfManager j) x y = λ i. (le_prop x.0 y.0 i, le_prop x.1 y.1 i)

-- what holds of a log holds of it whoever is said to own it
of_one : (clients managers : ℕ) (P : (a : Role) → IsThere clients managers a → Type 0) (a b : Role) → a ≡ b → (x : IsThere clients managers a)
    (y : IsThere clients managers b) → P a x → P b y
of_one clients managers P a b same x =
    subst (λ c. (y : IsThere clients managers c) → P a x → P c y) same (λ y h. subst (P a) (one_there clients managers a x y) h)

-- ---- the manager

pub record IsServing (slot : ℕ) (p : Phase) (t : Taking) : Type 0 where
  pub serving : Serving
  pub serves : p ≡ Serves serving
  pub takes : phase_at serving.slots slot ≡ phase.Taking t

is_serving : (slot : ℕ) (p : Phase) (t : Taking) → slot_in slot p ≡ phase.Taking t → IsServing slot p t
is_serving slot (Serves s) t fact = record { serving = s; serves = refl; takes = fact }
is_serving slot (Down life) t fact = absurd cc
is_serving slot (Waiting life hello) t fact = absurd cc

pub record IsTaking (slot : ℕ) (o : Option AnyNode) (t : Taking) : Type 0 where
  pub node : ManagerNode
  pub kind : o ≡ Some (any.Manager node)
  pub takes : slot_in slot node.phase ≡ phase.Taking t

is_taking : (slot : ℕ) (o : Option AnyNode) (t : Taking) → slot_of slot o ≡ phase.Taking t → IsTaking slot o t
is_taking slot None t fact = absurd cc
is_taking slot (Some (any.Client node)) t fact = absurd cc
is_taking slot (Some (any.Manager node)) t fact = record { node = node; kind = refl; takes = fact }
is_taking slot (Some (any.Server node)) t fact = absurd cc
is_taking slot (Some (any.Cleaner node)) t fact = absurd cc
is_taking slot (Some (any.Registry node)) t fact = absurd cc

same_manager : (a b : ManagerNode) → any.Manager a ≡ any.Manager b → a ≡ b
same_manager a b e = cc

at_slot : (P : SlotPhase → Type 0) (table : List SlotPhase) (slot : ℕ) (t : Taking) → AllByRecursion P table → phase_at table slot ≡ phase.Taking t
    → P (phase.Taking t)
at_slot P [] slot t all fact = absurd (never t fact)
  where
    never : (x : Taking) → phase.Away 0 ≡ phase.Taking x → ⊥
    never x e = cc
at_slot P (p ∷ table) zero t all fact = subst P fact all.0
at_slot P (p ∷ table) (suc slot) t all fact = at_slot P table slot t all.1 fact

-- what a manager holds of a slot that it takes over
take_holds : (came : Came) (striped : Striped) (p : Phase) → PhaseHolds came striped p → (slot : ℕ) (x : Taking) → slot_in slot p ≡ phase.Taking x
    → TakeHolds came striped x.take
take_holds came striped (Serves s) h slot x fact = at_slot (SlotHolds came striped) s.slots slot x h.slots fact
take_holds came striped (Down kept) h slot x fact = absurd cc
take_holds came striped (Waiting kept hello) h slot x fact = absurd cc

pub record Laws : Type 0 where
  pub one : OneNameOneText
  pub place : APlaceNamesOneContent
  pub priors : PriorsNameGroups
  pub stored : StoredLaws

module _ (laws : Laws) (logged : LoggedRun) (run : IsRun any_step any_start logged.estate.script logged.estate.events logged.estate.world) (slot : ℕ)
    (count : ℕ) (joint : Joint logged slot count) (stand : ReferencesStand logged slot count)
    (came : ReadingsCame logged.estate.world (moment logged.estate count))
    (named : PartsNamed (PartKnown logged.base logged.estate logged.lines count (rows_at joint.idx.net.filed)) (moment logged.estate count).nodes (moment logged.estate count).sent)
    (j : ℕ) (there : IsThere logged.estate.script.setup.clients logged.estate.script.setup.managers (OfManager j)) where
  open logged use {base, estate as e, lines, texts}

  abbrev r : References
  r = its logged slot count

  abbrev filed : Filed
  filed = joint.idx.net.filed

  -- ---- what it reads

  module _ (t : Taking) (fact : slot_at e j slot count ≡ phase.Taking t) (source : Source) (reading : _)
      (present : t.take.present ≡ Some (record { source = source; reading = Some reading })) where
    its_node : IsTaking slot (node_named (moment e count) (Manager j)) t
    its_node = is_taking slot (node_named (moment e count) (Manager j)) t fact

    abbrev node : ManagerNode
    node = its_node.node

    named_in : node_in (moment e count).nodes (place_of (cluster_of e.script.setup) (Manager j)) ≡ Some (any.Manager its_node.node)
    named_in = subst (λ k. node_in (moment e count).nodes (place_of k (Manager j)) ≡ Some (any.Manager its_node.node)) (moment_cluster e count) its_node.kind

    serving : IsServing slot its_node.node.phase t
    serving = is_serving slot its_node.node.phase t its_node.takes

    -- how the small world of the index sees it
    index_sees : places.ManagerAgrees slot texts.text joint.idx.net its_node.node.phase
    index_sees =
        subst (λ (m : ManagerNode). places.ManagerAgrees slot texts.text joint.idx.net m.phase)
        (same_manager _ its_node.node (one_node _ (any.Manager its_node.node) (sym (joint.index_stands.placed.managers j there.0 there.1) ∙ named_in)))
        (joint.index_stands.managers j there.0 there.1)

    agrees : places.TakingAgrees slot texts.text joint.idx.net t.epoch t.take
    agrees =
        let placed = (subst (places.ManagerAgrees slot texts.text joint.idx.net) serving.serves index_sees).0 in
        subst (places.PhaseAgrees slot texts.text joint.idx.net (desk_of serving.serving placed.given)) serving.takes placed.here

    lies : ReadsThere slot texts.text joint.idx.net (filed_known logged slot count joint).filed
        (filed_known logged slot count joint).texts_of t.epoch t.take agrees (record { source = source; reading = Some reading })
    lies =
        reads_there slot texts.text joint.idx.net (filed_known logged slot count joint).filed
        (filed_known logged slot count joint).texts_of t.epoch t.take agrees (record { source = source; reading = Some reading }) present

    -- ---- over which group

    in_nodes : In (any.Manager its_node.node) (moment e count).nodes
    in_nodes = by (place_of (cluster_of e.script.setup) (Manager j)) named_in
      where
        by : (o : Option ℕ) → node_in (moment e count).nodes o ≡ Some (any.Manager its_node.node) → In (any.Manager its_node.node) (moment e count).nodes
        by None at = absurd cc
        by (Some place) at = in_list (moment e count).nodes place (any.Manager its_node.node) at

    take_refers : TakeRefers r t.take
    take_refers =
        at_slot (SlotRefers r) serving.serving.slots slot t
        (subst (PhaseRefers r) serving.serves (stand.each_node (any.Manager its_node.node) in_nodes)).slots serving.takes

    flew : (x : Source) → Contains (sources_of t.take.news t.take.reports) x → Flew logged slot count x.seg
    flew = sources_flew logged slot count joint t agrees (parts_flew logged slot count t take_refers)
        (λ l low high x among from some. ends_bear logged slot count t take_refers l x among from some)

    holds : TakeHolds (answered_in (moment e count).sent (Manager j)) (cut_by (cuts_at e.world)) t.take
    holds =
        take_holds (answered_in (moment e count).sent (Manager j)) (cut_by (cuts_at e.world)) its_node.node.phase
        (came.nodes (Manager j) (any.Manager its_node.node) its_node.kind) slot t its_node.takes

    refers : Refers logged slot count (Manager j) source.seg
    refers =
        let stands : PresentHolds (answered_in (moment e count).sent (Manager j)) (cut_by (cuts_at e.world)) t.take
        (record { source = source; reading = Some reading }) =
        subst (StandsBy (answered_in (moment e count).sent (Manager j)) (cut_by (cuts_at e.world)) t.take) present holds.stands in
        refers_down logged slot count (Manager j) laws.one laws.place laws.priors (sources_of t.take.news t.take.reports) flew source
        stands.leads

    -- ---- what flew and was filed is stored

    module _ (role : Role) (its_there : IsThere e.script.setup.clients e.script.setup.managers role) (s : Segment)
        (flown : tables.In s ((lines role its_there).scene count).net.flown) (filed_so : tables.In s.name ((lines role its_there).scene count).net.filed)
        (same : ref_of s ≡ source.seg) (kept : NotDeleted (moment e count) source.seg.name) where
      stored_so : IsStoredAs e count source.seg
      stored_so =
          let kept_so : NotDeleted (moment e count) s.name = subst (λ (x : SegRef). NotDeleted (moment e count) x.name) (sym same) kept in
          subst (IsStoredAs e count) same (flown_is_stored e run base lines laws.stored role its_there count s flown filed_so kept_so)

    -- ---- a segment of a log

    module _ (f : ReadsFiled (joint.idx.net.filed) source) where
      h : HasLog logged slot f.log
      h = filed_log logged slot count joint f.log f.seq f.some f.limit

      abbrev s : Segment
      s = joint.idx.net.filed.segment f.log f.seq

      most_there : f.seq ≤ joint.idx.net.filed.head (log_by h.role)
      most_there = subst (λ x. f.seq ≤ joint.idx.net.filed.head x) (sym h.numbered) f.limit

      flown_there : tables.In (joint.idx.net.filed.segment f.log f.seq) ((lines h.role h.there).scene count).net.flown
      flown_there =
          subst (λ x. tables.In (joint.idx.net.filed.segment x f.seq) ((lines h.role h.there).scene count).net.flown) h.numbered
          ((joint.lined h.role h.there h.keeps).lined.flown f.seq f.some most_there)

      filed_there : tables.In (joint.idx.net.filed.segment f.log f.seq).name ((lines h.role h.there).scene count).net.filed
      filed_there =
          subst (λ x. tables.In (joint.idx.net.filed.segment x f.seq).name ((lines h.role h.there).scene count).net.filed) h.numbered
          ((joint.lined h.role h.there h.keeps).lined.filed f.seq f.some most_there)

      acted_there : In (act.Filed (joint.idx.net.filed.segment f.log f.seq).name) (did e (log_by h.role) count)
      acted_there =
          subst (λ x. In (act.Filed (joint.idx.net.filed.segment x f.seq).name) (did e (log_by h.role) count)) h.numbered
          (joint.acted h.role h.there h.keeps f.seq f.some most_there)

      its_log : (joint.idx.net.filed.segment f.log f.seq).name.log.0 ≡ f.log
      its_log = ((filed_known logged slot count joint).filed.each f.log f.seq f.some f.limit).log

      same_log : log_by h.role ≡ log_by refers.of.role
      same_log = h.numbered ∙ (sym its_log ∙ (ap (λ (n : SegName). n.log.0) (sym f.named) ∙ ap (λ (x : LogId). x.0) refers.of.own))

      one_owner : refers.of.role ≡ h.role
      one_owner =
          same_role e.script.setup.clients e.script.setup.managers joint.index_stands.few refers.of.role h.role refers.of.there h.there h.keeps (sym same_log)

      grouped : (joint.idx.net.filed.segment f.log f.seq).group ≡ source.seg.group
      grouped =
          refers.grouped (joint.idx.net.filed.segment f.log f.seq)
          (of_one e.script.setup.clients e.script.setup.managers
          (λ a x. tables.In (joint.idx.net.filed.segment f.log f.seq) ((lines a x).scene count).net.flown) h.role refers.of.role (sym one_owner) h.there
          refers.of.there flown_there) (sym f.named)

      log_filed : WasFiled e count source.seg.name
      log_filed = record {
        owner = h.role;
        there = h.there;
        acted = subst (λ n. In (act.Filed n) (did e (log_by h.role) count)) (sym f.named) acted_there;
      }

      log_stored : NotDeleted (moment e count) source.seg.name → IsStoredAs e count source.seg
      log_stored kept = stored_so h.role h.there s flown_there filed_there (λ i. record { name = sym f.named i; group = grouped i }) kept

    -- ---- a part of a checkpoint

    abbrev PartOf : SegRef → Type 0
    PartOf = PartKnown base e lines count (rows_at joint.idx.net.filed)

    -- what its news name
    parts_known : AllKnown PartOf t.take.news.parts
    parts_known =
        at_slot (SlotNames PartOf) serving.serving.slots slot t
        (subst (PhaseNames PartOf) serving.serves (named.holds (any.Manager its_node.node) in_nodes)).slots serving.takes

    module _ (p : ReadsPart t.take.news.parts source) where
      it : PartOf source.seg
      it = subst PartOf (ap (λ (x : Source). x.seg) (sym p.of_part)) (one_among PartOf t.take.news.parts p.ref parts_known p.among)

      part_filed : WasFiled e count source.seg.name
      part_filed = record { owner = OfManager it.manager; there = it.there; acted = it.acted }

      part_stored : NotDeleted (moment e count) source.seg.name → IsStoredAs e count source.seg
      part_stored kept =
          stored_so (OfManager it.manager) it.there it.segment it.flew
          (subst (λ n. tables.In n ((lines (OfManager it.manager) it.there).scene count).net.filed) (sym it.named)
          (((lines (OfManager it.manager) it.there).stands count).filed source.seg.name it.acted))
          (λ i. record { name = it.named i; group = it.group i }) kept

    -- ---- either

    pub was_filed : WasFiled e count source.seg.name
    was_filed = ⊎_elim part_filed log_filed lies.lies

    pub is_stored : NotDeleted (moment e count) source.seg.name → IsStoredAs e count source.seg
    is_stored kept = ⊎_elim (λ p. part_stored p kept) (λ f. log_stored f kept) lies.lies

  pub reads_filed : (epoch : ℕ) (ref : SegRef) → Reads (slot_at e j slot count) epoch ref → WasFiled e count ref.name
  reads_filed epoch ref x =
      subst (λ (z : SegRef). WasFiled e count z.name) x.of_segment (was_filed x.taking x.takes x.source x.reading x.present)

  pub reads_stored : (epoch : ℕ) (ref : SegRef) → Reads (slot_at e j slot count) epoch ref → NotDeleted (moment e count) ref.name → IsStoredAs e count ref
  reads_stored epoch ref x kept =
      subst (IsStoredAs e count) x.of_segment
      (is_stored x.taking x.takes x.source x.reading x.present (subst (λ (z : SegRef). NotDeleted (moment e count) z.name) (sym x.of_segment) kept))

-- ---- the slot is one of eight

within : (table : List SlotPhase) (slot : ℕ) (t : Taking) → phase_at table slot ≡ phase.Taking t → slot < length table
within [] slot t fact = absurd (never t fact)
  where
    never : (x : Taking) → phase.Away 0 ≡ phase.Taking x → ⊥
    never x e = cc
within (p ∷ table) zero t fact = omega arith
within (p ∷ table) (suc slot) t fact = (let less = within table slot t fact in omega arith)

module _ (logged : LoggedRun) (part count : ℕ) (joint : Joint logged part count) (j : ℕ)
    (there : IsThere logged.estate.script.setup.clients logged.estate.script.setup.managers (OfManager j)) (slot : ℕ) (t : Taking)
    (fact : slot_at logged.estate j slot count ≡ phase.Taking t) where
  open logged use {estate as e, texts}

  it_takes : IsTaking slot (node_named (moment e count) (Manager j)) t
  it_takes = is_taking slot (node_named (moment e count) (Manager j)) t fact

  it_serves : IsServing slot it_takes.node.phase t
  it_serves = is_serving slot it_takes.node.phase t it_takes.takes

  it_named : node_in (moment e count).nodes (place_of (cluster_of e.script.setup) (Manager j)) ≡ Some (any.Manager it_takes.node)
  it_named = subst (λ k. node_in (moment e count).nodes (place_of k (Manager j)) ≡ Some (any.Manager it_takes.node)) (moment_cluster e count) it_takes.kind

  it_agrees : places.ManagerAgrees part texts.text joint.idx.net it_takes.node.phase
  it_agrees =
      subst (λ (m : ManagerNode). places.ManagerAgrees part texts.text joint.idx.net m.phase)
      (same_manager _ it_takes.node (one_node _ (any.Manager it_takes.node) (sym (joint.index_stands.placed.managers j there.0 there.1) ∙ it_named)))
      (joint.index_stands.managers j there.0 there.1)

  pub slot_of_map : slot < slot_count
  slot_of_map =
      subst (λ n. slot < n) (subst (places.ManagerAgrees part texts.text joint.idx.net) it_serves.serves it_agrees).0.eight
      (within it_serves.serving.slots slot t it_serves.takes)
