-- How far down a takeover reads: a part that its news name, alone, or one of logs 1 to 9 as far down as the horizon that its news have of the log.
use Rattle.std.proofs.Common.{◌≡◌, ◌⊎◌, ⊎_elim, ℕ, zero, suc, ◌+◌, ◌<◌, ◌≤◌, ◌&&◌, not, Bool, true, nat_lt, nat_le, List, [], ◌∷◌, map, Option, None, Some, inl, inr, refl, sym, ap, subst, ◌∙◌, arith}
use Rattle.std.proofs.lemmas.Bool.Decides.{nat_tests}
use Rattle.std.specs.List.{AllByRecursion, flat_map, range_with_len}
use Rattle.index_tie.proofs.Takeovers.{of_log_in}
use Rattle.index_tie.specs.Net.{Net}
use Rattle.headline.specs.Indexes.{of_log}
use Rattle.node_slots.specs.node_index_tie.ManagerEvents.{TakingAgrees}
use Rattle.headline.specs.Filed.{Texts}
use Rattle.segment_format.specs.declared.segment.Segment.{Segment}
use Rattle.takeover.specs.Course.{course_of}
use Rattle.takeover.specs.declared.report.Report.{Report}
use Rattle.takeover.specs.declared.source.Present.{Present}
use Rattle.takeover.specs.declared.source.Source.{Source}
use Rattle.takeover.specs.Reports.{end_of, horizon_at}
use Rattle.takeover.specs.Sources.{back_from, goes_back, log_source, log_sources, part_source, prior_of, sources_of}
use Rattle.takeover.specs.TakeState.{TakeState}
use Rattle.token_protocol.specs.Basics.{In}
use Rattle.run_laws.proofs.world_reads.EntriesCourse.{PresentSo, SourcesSo, its_sources}
use Rattle.run_laws.proofs.world_reads.EntriesSources.{ReadsPart}
use Rattle.xfs_base.proofs.Booleans.{by_test}
use Rattle.xfs_base.specs.declared.news.SlotNews.{SlotNews}
use Rattle.xfs_base.specs.declared.segment.SegName.{SegName}
use Rattle.xfs_base.specs.declared.segment.SegRef.{SegRef}
use Rattle.xfs_base.proofs.Alls.{all_append}
use Rattle.xfs_base.specs.Segments.{names_none}
use Rattle.xfs_base.specs.Limits.{block_logs}

none_below : (low seq : ℕ) (t : Bool) → low ≡ seq → (nat_lt low seq && t) ≡ true → ⊥
none_below low seq t same back = grind (arith, nat_tests)

-- what is left of a source goes back
left_goes : (source : Source) (s : Segment) (left : Source) → back_from source s ≡ Some left
    → (goes_back source s ≡ true) × (left ≡ record { seg = prior_of s; low = source.low })
left_goes source s left =
    by_test (λ (o : Option Source). o ≡ Some left → (goes_back source s ≡ true) × (left ≡ record { seg = prior_of s; low = source.low })) (goes_back source s)
    (Some (record { seg = prior_of s; low = source.low })) None
    (λ back fact. (back, cc)) (λ _ fact. absurd (let clash : None ≡ Some left = fact in cc))

all_any : {X : Type 0} (xs : List X) → AllByRecursion (λ (x : X). Unit {0}) xs
all_any [] = tt
all_any (x ∷ xs) = (tt, all_any xs)

all_all_any : {X : Type 0} (xs : List (List X)) → AllByRecursion (AllByRecursion (λ (x : X). Unit {0})) xs
all_all_any [] = tt
all_all_any (x ∷ xs) = (all_any x, all_all_any xs)

all_logs : {X : Type 0} (P : X → Type 0) (f : ℕ → List X) (from n : ℕ) → ((l : ℕ) → from ≤ l → l < from + n → AllByRecursion P (f l))
    → AllByRecursion P (flat_map f (range_with_len from n))
all_logs P f from zero each = tt
all_logs P f from (suc n) each =
    all_append P (f from) (flat_map f (range_with_len (from + 1) n)) (each from (omega arith) (omega arith))
    (all_logs P f (from + 1) n (λ l low high. each l (omega arith) (omega arith)))

module _ (news : SlotNews) where
  -- the source is of one of logs 1 to 9, and goes down to its horizon
  pub record OfLog (source : Source) : Type 0 where
    pub log : ℕ
    pub some : 0 < log
    pub limit : log ≤ block_logs
    pub own : source.seg.name.log.0 ≡ log
    pub low : source.low ≡ horizon_at news.horizon log

  abbrev pub Lies : Source → Type 0
  Lies source = ReadsPart news.parts source ⊎ OfLog source

  -- ---- going down

  part_ends : (source : Source) (s : Segment) → ReadsPart news.parts source → s.name ≡ source.seg.name → goes_back source s ≡ true → ⊥
  part_ends source s part named back =
      none_below source.low s.name.seq (not (names_none s.prior))
      (ap (λ (x : Source). x.low) part.of_part ∙ (ap (λ (x : Source). x.seg.name.seq) (sym part.of_part) ∙ ap (λ (n : SegName). n.seq) (sym named))) back

  leads_down : (source : Source) (s : Segment) → OfLog source → s.name ≡ source.seg.name → OfLog (record { seg = prior_of s; low = source.low })
  leads_down source s o named = record {
    log = o.log;
    some = o.some;
    limit = o.limit;
    own = ap (λ (n : SegName). n.log.0) named ∙ o.own;
    low = o.low;
  }

  lies_down : (source : Source) (s : Segment) (left : Source) → Lies source → s.name ≡ source.seg.name → Unit {0} → back_from source s ≡ Some left → Lies left
  lies_down source s left lies named any fact =
      let goes = left_goes source s left fact in
      ⊎_elim (λ part. absurd (part_ends source s part named goes.0)) (λ o. inr (subst OfLog (sym goes.1) (leads_down source s o named))) lies

  -- ---- the sources of reports

  all_parts : (parts : List SegRef) → ((ref : SegRef) → In ref parts → In ref news.parts) → AllByRecursion Lies (map part_source parts)
  all_parts [] among = tt
  all_parts (ref ∷ parts) among =
      (inl (record { ref = ref; among = among ref (inl refl); of_part = refl }), all_parts parts (λ x later. among x (inr later)))

  log_lies : (reports : List Report) (l : ℕ) → 0 < l → l ≤ block_logs → AllByRecursion Lies (log_sources news.horizon reports l)
  log_lies reports l some limit =
      by_test (AllByRecursion Lies) (nat_le (horizon_at news.horizon l) (end_of reports l).seq)
      (log_source l (horizon_at news.horizon l) (end_of reports l) ∷ []) []
      (λ within. (inr (record { log = l; some = some; limit = limit; own = refl; low = refl }), tt)) (λ _. tt)

  sources_lie : (reports : List Report) → AllByRecursion (λ (r : Report). Unit {0}) reports → AllByRecursion Lies (sources_of news reports)
  sources_lie reports any =
      all_append Lies (map part_source news.parts) _ (all_parts news.parts (λ ref among. among))
      (all_logs Lies (log_sources news.horizon reports) 1 block_logs (λ l low high. log_lies reports l (omega arith) (omega arith)))

-- ---- a takeover

module _ (part : ℕ) (texts : Texts) (n : Net) (epoch : ℕ) (take : TakeState) (taking : TakingAgrees part texts n epoch take) where
  abbrev So : TakeState → Type 0
  So s = SourcesSo (Lies taking.news) (λ (s : Segment). Unit {0}) (λ (r : Report). Unit {0}) taking.news (lies_down taking.news) (sources_lie taking.news) s

  so : So take
  so = subst So (sym taking.take_is)
      (its_sources (Lies taking.news) (λ (s : Segment). Unit {0}) (λ (r : Report). Unit {0}) taking.news (lies_down taking.news) (sources_lie taking.news)
      taking.groups taking.clients taking.inputs
      (record {
        reports = all_any (course_of taking.news taking.groups taking.clients taking.inputs).state.reports;
        read = record {
          whole = all_all_any (course_of taking.news taking.groups taking.clients taking.inputs).read.whole;
          present = all_any (course_of taking.news taking.groups taking.clients taking.inputs).read.present;
        };
      }))

  -- what it reads is a part that its news name, or of a log that it reads as far down as the horizon of its epoch
  pub record IsLow (source : Source) : Type 0 where
    pub log : ℕ
    pub some : 0 < log
    pub limit : log ≤ block_logs
    pub own : source.seg.name.log.0 ≡ log
    pub low : of_log (n.horizon epoch) log ≡ source.low

  low_so : (source : Source) → OfLog taking.news source → IsLow source
  low_so source o = record {
    log = o.log;
    some = o.some;
    limit = o.limit;
    own = o.own;
    low = ap (λ x. of_log (n.horizon x) o.log) (sym taking.of_epoch)
        ∙ (sym (ap (λ (h : List ℕ). of_log h o.log) taking.known.horizon) ∙ (of_log_in taking.news.horizon o.log o.some o.limit ∙ sym o.low));
  }

  pub part_or_low : (p : Present) → take.present ≡ Some p → ReadsPart take.news.parts p.source ⊎ IsLow p.source
  part_or_low p fact =
      let there = subst (PresentSo (Lies taking.news) (λ (s : Segment). Unit {0}) (λ (r : Report). Unit {0}) taking.news (lies_down taking.news)
      (sources_lie taking.news)) fact so.present in
      ⊎_elim (λ part. inl (subst (λ (x : SlotNews). ReadsPart x.parts p.source) (sym so.of) part)) (λ o. inr (low_so p.source o)) there.0
