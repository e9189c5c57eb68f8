-- What a takeover reads is a part that its news name, or was filed: the end that is reported of a log is, and from there down to the horizon the log is linked.
use Rattle.std.proofs.Common.{◌≡◌, ◌⊎◌, ⊎_elim, ℕ, zero, suc, ◌+◌, ◌-◌, ◌<◌, ◌≤◌, ◌&&◌, ◌==◌, not, Bool, true, false, cond, nat_lt, nat_le, List, [], ◌∷◌, map, Option, None, Some, inl, inr, refl, sym, ap, subst, ◌∙◌, arith}
use Rattle.std.proofs.lemmas.Bool.{eqb-true}
use Rattle.std.proofs.lemmas.Bool.Decides.{nat_tests}
use Rattle.std.specs.List.{AllByRecursion, flat_map, range_with_len}
use Rattle.index_tie.proofs.Takeovers.{of_log_in}
use Rattle.index_tie.specs.Filed.{IsFiled}
use Rattle.headline.specs.Filed.{AreTexts, Filed, Texts}
use Rattle.index_tie.specs.Net.{Net}
use Rattle.index_tie.specs.Takeovers.{IsEnd, Linked}
use Rattle.headline.specs.Indexes.{of_log}
use Rattle.node_slots.proofs.node_index_tie.Reading.{end_from_is}
use Rattle.node_slots.specs.node_index_tie.ManagerEvents.{TakingAgrees}
use Rattle.node_slots.specs.node_index_tie.Sight.{EndKnown, IsRead, NewsKnown, ReportKnown}
use Rattle.segment_format.specs.declared.segment.Segment.{Segment}
use Rattle.takeover.specs.Course.{Course, course_of}
use Rattle.takeover.specs.declared.report.Report.{Report}
use Rattle.takeover.specs.declared.source.Present.{Present}
use Rattle.takeover.specs.declared.source.Source.{Source}
use Rattle.takeover.specs.Reports.{end_of, horizon_at}
use Rattle.takeover.specs.Sources.{back_from, goes_back, log_source, log_sources, part_source, prior_of, sources_of}
use Rattle.takeover.specs.TakeState.{TakeState}
use Rattle.token_protocol.specs.Basics.{In}
use Rattle.run_laws.proofs.world_reads.EntriesCourse.{LooksFor, PresentSo, SourcesSo, its_sources}
use Rattle.xfs_base.proofs.Booleans.{by_test}
use Rattle.xfs_base.specs.declared.news.SlotNews.{SlotNews}
use Rattle.xfs_base.specs.declared.node.NodeId.TheVariants.{Client, Cleaner}
use Rattle.xfs_base.specs.declared.segment.End.{End}
use Rattle.xfs_base.specs.declared.segment.SegName.{SegName}
use Rattle.xfs_base.specs.declared.segment.SegRef.{SegRef}
use Rattle.xfs_base.proofs.Alls.{all_append, all_weaker}
use Rattle.xfs_base.specs.Segments.{names_none}
use Rattle.xfs_base.specs.Logs.{block_writer, cleaners_number}
use Rattle.xfs_base.specs.Limits.{block_logs}

same_name : (a b : SegName) → a.log.0 ≡ b.log.0 → a.seq ≡ b.seq → a.pass ≡ b.pass → a ≡ b
same_name a b log seq pass = λ k. record { log = record { 0 = log k }; seq = seq k; pass = pass k }

-- ---- sources

-- the source reads one of these parts
pub record ReadsPart (parts : List SegRef) (source : Source) : Type 0 where
  pub ref : SegRef
  pub among : In ref parts
  pub of_part : source ≡ part_source ref

-- The source reads a filed segment, and goes down from it no further than its log is linked.
pub record ReadsFiled (f : Filed) (source : Source) : Type 0 where
  pub log : ℕ
  pub seq : ℕ
  pub some : 0 < seq
  pub limit : seq ≤ f.head log
  pub named : source.seg.name ≡ (f.segment log seq).name
  pub low : 0 < source.low
  pub linked : Linked f log source.low seq

abbrev pub SourceLies : Filed → List SegRef → Source → Type 0
SourceLies f parts source = ReadsPart parts source ⊎ ReadsFiled f source

-- ---- going down

none_below : (low seq : ℕ) (t : Bool) → low ≡ seq → (nat_lt low seq && t) ≡ true → ⊥
none_below low seq t same back = grind (arith, nat_tests)

goes_down : (low seq : ℕ) (t : Bool) → (nat_lt low seq && t) ≡ true → low < seq
goes_down low seq t back = grind (arith, nat_tests)

-- what is left of a source goes back
left_goes : (source : Source) (s : Segment) (left : Source) → back_from source s ≡ Some left
    → (goes_back source s ≡ true) × (left ≡ record { seg = prior_of s; low = source.low })
left_goes source s left =
    by_test (λ (o : Option Source). o ≡ Some left → (goes_back source s ≡ true) × (left ≡ record { seg = prior_of s; low = source.low })) (goes_back source s)
    (Some (record { seg = prior_of s; low = source.low })) None
    (λ back fact. (back, cc)) (λ _ fact. absurd (let clash : None ≡ Some left = fact in cc))

module _ (f : Filed) (filed : IsFiled f) (texts : Texts) (are_texts : AreTexts texts f) (parts : List SegRef) where
  -- nothing is left of a part
  part_ends : (source : Source) (s : Segment) → ReadsPart parts source → s.name ≡ source.seg.name → goes_back source s ≡ true → ⊥
  part_ends source s part named back =
      none_below source.low s.name.seq (not (names_none s.prior))
      (ap (λ (x : Source). x.low) part.of_part ∙ (ap (λ (x : Source). x.seg.name.seq) (sym part.of_part) ∙ ap (λ (n : SegName). n.seq) (sym named))) back

  -- a filed segment leads to the one before it
  leads_down : (source : Source) (s : Segment) → ReadsFiled f source → s.name ≡ source.seg.name → s ≡ texts s.name → goes_back source s ≡ true
      → ReadsFiled f (record { seg = prior_of s; low = source.low })
  leads_down source s here named read back =
      let l = here.log in
      let q = here.seq in
      let some = here.some in
      let limit = here.limit in
      let low = here.low in
      let fact : s ≡ f.segment l q = read ∙ (ap texts (named ∙ here.named) ∙ sym (are_texts l q some limit)) in
      let its = filed.each l q some limit in
      let seq : s.name.seq ≡ q = ap (λ (x : Segment). x.name.seq) fact ∙ its.seq in
      let down : source.low < s.name.seq = goes_down source.low s.name.seq (not (names_none s.prior)) back in
      let below = filed.each l (q - 1) (omega arith) (omega arith) in
      let one : suc (q - 1) ≡ q = omega arith in
      record {
        log = l;
        seq = q - 1;
        some = omega arith;
        limit = omega arith;
        named = same_name (prior_of s).name (f.segment l (q - 1)).name (ap (λ (x : Segment). x.name.log.0) fact ∙ (its.log ∙ sym below.log))
            (ap (λ k. k - 1) seq ∙ sym below.seq)
            (ap (λ (x : Segment). x.prior.pass) fact
            ∙ (sym (ap (λ k. (f.segment l k).prior.pass) one) ∙ here.linked (q - 1) (omega arith) (omega arith)));
        low = low;
        linked = λ k from to. here.linked k from (omega arith);
      }

  lies_down : (source : Source) (s : Segment) (left : Source) → SourceLies f parts source → s.name ≡ source.seg.name → s ≡ texts s.name
      → back_from source s ≡ Some left → SourceLies f parts left
  lies_down source s left lies named read fact =
      let goes = left_goes source s left fact in
      ⊎_elim (λ part. absurd (part_ends source s part named goes.0))
      (λ here. inr (subst (ReadsFiled f) (sym goes.1) (leads_down source s here named read goes.0))) lies

-- ---- the sources of reports

all_each : {X : Type 0} (P : X → Type 0) (xs : List X) → ((x : X) → In x xs → P x) → AllByRecursion P xs
all_each P [] each = tt
all_each P (x ∷ xs) each = (each x (inl refl), all_each P xs (λ y later. each y (inr later)))

all_parts : (f : Filed) (all parts : List SegRef) → ((ref : SegRef) → In ref parts → In ref all) → AllByRecursion (SourceLies f all) (map part_source parts)
all_parts f all [] among = tt
all_parts f all (ref ∷ parts) among =
    (inl (record { ref = ref; among = among ref (inl refl); of_part = refl }), all_parts f all parts (λ x later. among x (inr later)))

all_logs : {X : Type 0} (P : X → Type 0) (f : ℕ → List X) (from n : ℕ) → ((l : ℕ) → from ≤ l → l < from + n → AllByRecursion P (f l))
    → AllByRecursion P (flat_map f (range_with_len from n))
all_logs P f from zero each = tt
all_logs P f from (suc n) each =
    all_append P (f from) (flat_map f (range_with_len (from + 1) n)) (each from (omega arith) (omega arith))
    (all_logs P f (from + 1) n (λ l low high. each l (omega arith) (omega arith)))

module _ (part : ℕ) (texts : Texts) (n : Net) (filed : IsFiled n.filed) (news : SlotNews) (known : NewsKnown part n news) where
  abbrev Good : Report → Type 0
  Good r = ReportKnown part n news.epoch r.from r.end

  abbrev low_of : ℕ → ℕ
  low_of l = horizon_at news.horizon l

  -- an end that isn't below the horizon is filed, and its log is linked from there
  abbrev EndLies : ℕ → End → Type 0
  EndLies l end = low_of l ≤ end.seq → IsEnd n.filed l end × Linked n.filed l (low_of l) end.seq

  module _ (l : ℕ) (some : 0 < l) (limit : l ≤ block_logs) where
    low_is : of_log (n.horizon news.epoch) l ≡ low_of l
    low_is = sym (ap (λ horizon. of_log horizon l) known.horizon) ∙ of_log_in news.horizon l some limit

    low_some : 0 < low_of l
    low_some = (let from = known.from_one l some limit in let same = of_log_in news.horizon l some limit in omega arith)

    known_lies : (end : End) → EndKnown part n news.epoch l end → EndLies l end
    known_lies end fact above =
        let low = low_is in
        let pos = low_some in
        (fact.filed (omega arith) (omega arith), subst (λ k. Linked n.filed l k end.seq) low (fact.linked (omega arith)))

    by_writer : (t : Bool) → (l == cleaners_number) ≡ t → (end : End) → ReportKnown part n news.epoch (cond t Cleaner (Client l)) end → EndKnown part n news.epoch l end
    by_writer true fact end report = subst (λ k. EndKnown part n news.epoch k end) (sym (eqb-true l cleaners_number fact)) report.0
    by_writer false fact end report = report

    end_lies : (reports : List Report) → ((r : Report) → In r reports → Good r) → EndLies l (end_of reports l)
    end_lies reports good =
        end_from_is (EndLies l) (block_writer l) reports (λ above. absurd (let pos = low_some in omega arith))
        (λ r among from. known_lies r.end (by_writer (l == cleaners_number) refl r.end (subst (λ node. ReportKnown part n news.epoch node r.end) from (good r among))))

    log_lies : (reports : List Report) → ((r : Report) → In r reports → Good r)
        → AllByRecursion (SourceLies n.filed news.parts) (log_sources news.horizon reports l)
    log_lies reports good =
        by_test (AllByRecursion (SourceLies n.filed news.parts)) (nat_le (low_of l) (end_of reports l).seq) (log_source l (low_of l) (end_of reports l) ∷ []) []
        (λ within. (inr (from_end_lies (grind (arith, nat_tests, within))), tt)) (λ _. tt)
      where
        from_end_lies : low_of l ≤ (end_of reports l).seq → ReadsFiled n.filed (log_source l (low_of l) (end_of reports l))
        from_end_lies above =
            let lies = end_lies reports good above in
            let pos = low_some in
            let head = lies.0.filed in
            let its = filed.each l (end_of reports l).seq (omega arith) head in
            record {
              log = l;
              seq = (end_of reports l).seq;
              some = omega arith;
              limit = head;
              named = same_name (log_source l (low_of l) (end_of reports l)).seg.name (n.filed.segment l (end_of reports l).seq).name (sym its.log)
                  (sym its.seq)
                  lies.0.named;
              low = pos;
              linked = lies.1;
            }

  sources_lie : (reports : List Report) → AllByRecursion Good reports → AllByRecursion (SourceLies n.filed news.parts) (sources_of news reports)
  sources_lie reports good =
      all_append (SourceLies n.filed news.parts) (map part_source news.parts) _ (all_parts n.filed news.parts news.parts (λ ref among. among))
      (all_logs (SourceLies n.filed news.parts) (log_sources news.horizon reports) 1 block_logs
      (λ l low high. log_lies l (omega arith) (omega arith) reports (λ r among. all_got reports r good among)))
    where
      all_got : (xs : List Report) (r : Report) → AllByRecursion Good xs → In r xs → Good r
      all_got [] r all among = absurd among
      all_got (x ∷ xs) r all (inl fact) = subst Good (sym fact) all.0
      all_got (x ∷ xs) r all (inr later) = all_got xs r all.1 later

-- ---- a takeover

module _ (part : ℕ) (texts : Texts) (n : Net) (filed : IsFiled n.filed) (are_texts : AreTexts texts n.filed) (epoch : ℕ) (take : TakeState)
    (taking : TakingAgrees part texts n epoch take) where
  abbrev IsText : Segment → Type 0
  IsText s = s ≡ texts s.name

  abbrev course : Course
  course = course_of taking.news taking.groups taking.clients taking.inputs

  texts_read : (xs : List Segment) → AllByRecursion (IsRead part texts) xs → AllByRecursion IsText xs
  texts_read xs all = all_weaker (IsRead part texts) IsText (λ s read. read.text) xs all

  heard : AllByRecursion (λ (r : Report). ReportKnown part n taking.news.epoch r.from r.end) course.state.reports
  heard = all_each _ course.state.reports
      (λ r among. subst (λ k. ReportKnown part n k r.from r.end) (sym taking.of_epoch)
      (taking.reports r (subst (λ (s : TakeState). In r s.reports) (sym taking.take_is) among)))

  so : SourcesSo (SourceLies n.filed taking.news.parts) IsText (λ (r : Report). ReportKnown part n taking.news.epoch r.from r.end) taking.news
      (λ source s left lies named read fact. lies_down n.filed filed texts are_texts taking.news.parts source s left lies named read fact)
      (sources_lie part texts n filed taking.news taking.known) take
  so = subst (SourcesSo (SourceLies n.filed taking.news.parts) IsText (λ (r : Report). ReportKnown part n taking.news.epoch r.from r.end) taking.news
      (λ source s left lies named read fact. lies_down n.filed filed texts are_texts taking.news.parts source s left lies named read fact)
      (sources_lie part texts n filed taking.news taking.known)) (sym taking.take_is)
      (its_sources (SourceLies n.filed taking.news.parts) IsText (λ (r : Report). ReportKnown part n taking.news.epoch r.from r.end) taking.news
      (λ source s left lies named read fact. lies_down n.filed filed texts are_texts taking.news.parts source s left lies named read fact)
      (sources_lie part texts n filed taking.news taking.known) taking.groups taking.clients taking.inputs
      (record {
        reports = heard;
        read = record {
          whole = all_weaker (AllByRecursion (IsRead part texts)) (AllByRecursion IsText) texts_read course.read.whole taking.whole;
          present = texts_read course.read.present taking.present;
        };
      }))

  -- it reads a part that its news name, or what was filed; and it looks for the segment of its source
  pub record ReadsThere (p : Present) : Type 0 where
    pub lies : SourceLies n.filed take.news.parts p.source
    pub looks : LooksFor p.source p.reading

  pub reads_there : (p : Present) → take.present ≡ Some p → ReadsThere p
  reads_there p fact =
      let there = subst (PresentSo (SourceLies n.filed taking.news.parts) IsText (λ (r : Report). ReportKnown part n taking.news.epoch r.from r.end) taking.news
      (λ source s left lies named read fact. lies_down n.filed filed texts are_texts taking.news.parts source s left lies named read fact)
      (sources_lie part texts n filed taking.news taking.known)) fact so.present in
      record {
        lies = subst (λ (x : SlotNews). SourceLies n.filed x.parts p.source) (sym so.of) there.0;
        looks = there.1;
      }
