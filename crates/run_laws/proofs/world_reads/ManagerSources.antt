-- The sources of a takeover flew in logs of the run, over the groups with which they are referred to: the ends of logs that were reported are filed, so of
-- these it is enough that each bears the group of its segment.
use Rattle.std.proofs.Common.{◌≡◌, ◌≤◌, ◌<◌, ◌+◌, ◌==◌, ⊎_elim, ℕ, zero, suc, nat_le, Bool, true, false, cond, List, [], ◌∷◌, map, refl, sym, ap, subst, ◌∙◌, arith}
use Rattle.std.specs.Prelude.{Contains}
use Rattle.std.specs.List.{flat_map, range_with_len}
use Rattle.std.proofs.lemmas.Bool.{eqb-true}
use Rattle.std.proofs.lemmas.Bool.Decides.{nat_tests}
use Rattle.std.proofs.lemmas.List.Elements.{Contains-append_cases}
use Rattle.index_tie.proofs.Takeovers.{of_log_in}
use Rattle.headline.specs.Filed.{Filed}
use Rattle.index_tie.specs.Net.{Net}
use Rattle.index_tie.specs.Takeovers.{IsEnd}
use Rattle.headline.specs.Indexes.{of_log}
use Rattle.manager_slots.specs.declared.slot_phase.Taking.{Taking}
use Rattle.node_slots.proofs.node_index_tie.Reading.{end_from_is}
use Rattle.node_slots.specs.node_index_tie.ManagerEvents.{TakingAgrees}
use Rattle.node_slots.specs.node_index_tie.Sight.{EndKnown, ReportKnown}
use Rattle.node_slots.proofs.node_tie.ManagerTakes.{IsOnce, IsReady, took}
use Rattle.segment_format.specs.declared.segment.Segment.{Segment}
use Rattle.takeover.specs.Course.{Course, after_input, after_inputs}
use Rattle.takeover.specs.declared.input.In.{In as Input}
use Rattle.takeover.specs.declared.report.Report.{Report as Heard}
use Rattle.takeover.specs.declared.source.Source.{Source}
use Rattle.takeover.specs.Reports.{end_of, horizon_at}
use Rattle.takeover.specs.Sources.{from_end, log_source, log_sources, part_source, sources_of}
use Rattle.token_protocol.specs.Basics.{In}
use Rattle.run_laws.proofs.world_reads.KnownLogs.{filed_known, filed_log}
use Rattle.run_laws.specs.world_reads.Joint.{Joint, log_at}
use Rattle.run_laws.specs.world_reads.References.{Flew}
use Rattle.run_laws.specs.world_reads.LoggedRuns.{LoggedRun}
use Rattle.xfs_base.proofs.Members.{contains_cases, contains_first, contains_nothing, contains_rest}
use Rattle.xfs_base.specs.declared.news.SlotNews.{SlotNews}
use Rattle.xfs_base.specs.declared.node.NodeId.TheVariants.{Client, Cleaner}
use Rattle.xfs_base.specs.declared.segment.End.{End}
use Rattle.xfs_base.specs.declared.segment.Pass.{Pass}
use Rattle.xfs_base.specs.declared.segment.SegName.{SegName}
use Rattle.xfs_base.specs.declared.segment.SegRef.{SegRef}
use Rattle.xfs_base.specs.Logs.{block_writer, cleaners_number}
use Rattle.xfs_base.specs.Limits.{block_logs}

-- ---- lists

in_map : {X Y : Type 0} (f : X → Y) (xs : List X) (y : Y) → Contains (map f xs) y → (x : X) × Contains xs x × (f x ≡ y)
in_map f [] y h = absurd (contains_nothing y h)
in_map f (x ∷ xs) y h = ⊎_elim (λ fact. (x, contains_first x xs, fact))
    (λ later. (let z = in_map f xs y later in (z.0, contains_rest x z.0 xs z.1, z.2))) (contains_cases (f x) y (map f xs) h)

in_flat_map : {X Y : Type 0} (f : X → List Y) (xs : List X) (y : Y) → Contains (flat_map f xs) y → (x : X) × Contains xs x × Contains (f x) y
in_flat_map f [] y h = absurd (contains_nothing y h)
in_flat_map f (x ∷ xs) y h = ⊎_elim (λ fact. (x, contains_first x xs, fact))
    (λ later. (let z = in_flat_map f xs y later in (z.0, contains_rest x z.0 xs z.1, z.2))) (Contains-append_cases (f x) (flat_map f xs) y h)

in_range : (from n l : ℕ) → Contains (range_with_len from n) l → (from ≤ l) × (l < from + n)
in_range from zero l h = absurd (contains_nothing l h)
in_range from (suc n) l h = ⊎_elim (λ fact. (omega arith, omega arith))
    (λ later. (let z = in_range (from + 1) n l later in (omega arith, omega arith))) (contains_cases from l (range_with_len (from + 1) n) h)

-- ---- the course of a takeover

-- its news stay
news_stay : (c : Course) (inputs : List Input) → IsReady c.state → IsOnce c.state.reports → (after_inputs c inputs).state.news ≡ c.state.news
news_stay c [] ready once = refl
news_stay c (i ∷ inputs) ready once =
    (let t = took c.state i ready once in news_stay (after_input c i) inputs t.ready t.once ∙ t.news)

its_news : (part : ℕ) (n : Net) (texts : SegName → Segment) (t : Taking) (k : TakingAgrees part texts n t.epoch t.take) → t.take.news ≡ k.news
its_news part n texts t k =
    ap (λ s. s.news) k.take_is ∙ news_stay _ k.inputs (λ p fact. absurd cc) (λ r q fact. absurd fact)

-- ---- ends

-- an end that a log's source reads from is not below what the checkpoint covers
record FromEnd (l low : ℕ) (end : End) (source : Source) : Type 0 where
  above : low ≤ end.seq
  from_log : log_source l low end ≡ source

from_end_is : (l low : ℕ) (end : End) (source : Source) → Contains (from_end l low end) source → FromEnd l low end source
from_end_is l low end source h = by (nat_le low end.seq) refl h
  where
    by : (t : Bool) → nat_le low end.seq ≡ t → Contains (cond t (log_source l low end ∷ []) []) source → FromEnd l low end source
    by true fact h = record {
      above = grind (arith, nat_tests, fact);
      from_log = ⊎_elim (λ same. same) (λ none. absurd (contains_nothing source none)) (contains_cases (log_source l low end) source [] h);
    }
    by false fact h = absurd (contains_nothing source h)

known_of : (part : ℕ) (n : Net) (epoch l : ℕ) (end : End) → ReportKnown part n epoch (block_writer l) end → EndKnown part n epoch l end
known_of part n epoch l end k = by (l == cleaners_number) refl k
  where
    by : (t : Bool) → (l == cleaners_number) ≡ t → ReportKnown part n epoch (cond t Cleaner (Client l)) end → EndKnown part n epoch l end
    by true fact k = subst (λ x. EndKnown part n epoch x end) (sym (eqb-true l cleaners_number fact)) k.0
    by false fact k = k

name_is : (n : SegName) (l q : ℕ) (p : Pass) → n.log.0 ≡ l → n.seq ≡ q → p ≡ n.pass → ◌≡◌ {A = SegName} (record { log = record { 0 = l }; seq = q; pass = p }) n
name_is n l q p log seq pass =
    ap (λ x. record { log = record { 0 = x }; seq = q; pass = p }) (sym log)
    ∙ (ap (λ x. record { log = n.log; seq = x; pass = p }) (sym seq) ∙ ap (λ x. record { log = n.log; seq = n.seq; pass = x }) pass)

module _ (logged : LoggedRun) (part count : ℕ) (joint : Joint logged part count) where
  open logged use {texts}

  abbrev filed : Filed
  filed = joint.idx.net.filed

  -- the name of the segment that an end of a log is
  abbrev pub named_by : ℕ → End → SegName
  named_by l end = record { log = record { 0 = l }; seq = end.seq; pass = end.pass }

  module _ (t : Taking) where
    -- each part of the checkpoint that it reads flew in a log of the run, over the group with which it is referred to
    abbrev pub PartsFlew : Type 0
    PartsFlew = (ref : SegRef) → Contains t.take.news.parts ref → Flew logged part count ref

    -- and each end that was reported to it bears the group of the text that it names
    abbrev pub EndsBearGroups : Type 0
    EndsBearGroups = (l : ℕ) → 0 < l → l ≤ block_logs → (r : Heard) → In r t.take.reports → r.from ≡ block_writer l → 0 < r.end.seq
        → r.end.group ≡ (texts.text (named_by l r.end)).group

    -- a filed end, over the group of its text, flew
    end_flew : (l : ℕ) (end : End) → 0 < end.seq → IsEnd filed l end → end.group ≡ (texts.text (named_by l end)).group
        → Flew logged part count (record { name = named_by l end; group = end.group })
    end_flew l end more fact group =
        let h = filed_log logged part count joint l end.seq more fact.filed in
        let s : Segment = filed.segment l end.seq in
        let each = (filed_known logged part count joint).filed.each l end.seq more fact.filed in
        let named : named_by l end ≡ s.name = name_is s.name l end.seq end.pass each.log each.seq fact.named in
        let among : In s (log_at logged part h.role h.there count).flown =
        subst (λ x. In (filed.segment x end.seq) (log_at logged part h.role h.there count).flown) h.numbered
        ((joint.lined h.role h.there h.keeps).lined.flown end.seq more (subst (λ x. end.seq ≤ filed.head x) (sym h.numbered) fact.filed)) in
        record {
          of = record { role = h.role; there = h.there; own = ap (λ x. record { 0 = x }) (sym h.numbered) };
          segment = s;
          among = among;
          named = named;
          grouped = group ∙ ap (λ (z : Segment). z.group) (ap texts.text named ∙ texts.flown h.role h.there count s among);
        }

    module _ (k : TakingAgrees part texts.text joint.idx.net t.epoch t.take) where
      horizon_is : (l : ℕ) → of_log t.take.news.horizon l ≡ of_log (joint.idx.net.horizon t.epoch) l
      horizon_is l =
          ap (λ (n : SlotNews). of_log n.horizon l) (its_news part joint.idx.net texts.text t k)
          ∙ (ap (λ h. of_log h l) k.known.horizon ∙ ap (λ epoch. of_log (joint.idx.net.horizon epoch) l) k.of_epoch)

      -- the checkpoint covers nothing of a log from number 0 on
      from_one : (l : ℕ) → 0 < l → l ≤ block_logs → 0 < of_log t.take.news.horizon l
      from_one l some limit = subst (λ (n : SlotNews). 0 < of_log n.horizon l) (sym (its_news part joint.idx.net texts.text t k))
          (k.known.from_one l some limit)

      -- the reported end of a log, where it is read from
      pub record IsGood (l : ℕ) (end : End) : Type 0 where
        pub filed : IsEnd filed l end
        pub group : end.group ≡ (texts.text (named_by l end)).group

      good_end : EndsBearGroups → (l : ℕ) → 0 < l → l ≤ block_logs → of_log t.take.news.horizon l ≤ (end_of t.take.reports l).seq → IsGood l (end_of t.take.reports l)
      good_end groups l some limit =
          end_from_is (λ end. of_log t.take.news.horizon l ≤ end.seq → IsGood l end) (block_writer l) t.take.reports
          (λ low. absurd (let one = from_one l some limit in omega arith))
          (λ r among from low. (let one = from_one l some limit in let h = horizon_is l in
          let known : EndKnown part joint.idx.net t.epoch l r.end =
          known_of part joint.idx.net t.epoch l r.end
          (subst (λ node. ReportKnown part joint.idx.net t.epoch node r.end) from (k.reports r among)) in
          record {
            filed = known.filed (omega arith) (omega arith);
            group = groups l some limit r among from (omega arith);
          }))

      log_flew : EndsBearGroups → (l : ℕ) → 0 < l → l ≤ block_logs → (source : Source) → Contains (log_sources t.take.news.horizon t.take.reports l) source
          → Flew logged part count source.seg
      log_flew groups l some limit source h =
          let f = from_end_is l (horizon_at t.take.news.horizon l) (end_of t.take.reports l) source h in
          let same : of_log t.take.news.horizon l ≡ horizon_at t.take.news.horizon l = of_log_in t.take.news.horizon l some limit in
          let one = from_one l some limit in
          let above = f.above in
          let good = good_end groups l some limit (omega arith) in
          subst (λ (x : Source). Flew logged part count x.seg) f.from_log
          (end_flew l (end_of t.take.reports l) (omega arith) good.filed good.group)

      pub sources_flew : PartsFlew → EndsBearGroups → (source : Source) → Contains (sources_of t.take.news t.take.reports) source
          → Flew logged part count source.seg
      sources_flew parts groups source h = ⊎_elim of_parts of_logs
          (Contains-append_cases (map part_source t.take.news.parts) (flat_map (log_sources t.take.news.horizon t.take.reports) (range_with_len 1 block_logs)) source h)
        where
          of_parts : Contains (map part_source t.take.news.parts) source → Flew logged part count source.seg
          of_parts fact = (let z = in_map part_source t.take.news.parts source fact in
              subst (λ (x : Source). Flew logged part count x.seg) z.2 (parts z.0 z.1))

          of_logs : Contains (flat_map (log_sources t.take.news.horizon t.take.reports) (range_with_len 1 block_logs)) source
              → Flew logged part count source.seg
          of_logs fact = (let z = in_flat_map (log_sources t.take.news.horizon t.take.reports) (range_with_len 1 block_logs) source fact in
              let r = in_range 1 block_logs z.0 z.1 in log_flew groups z.0 (omega arith) (omega arith) source z.2)
