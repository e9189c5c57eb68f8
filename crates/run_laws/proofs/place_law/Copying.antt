-- A Live that answers the cleaner's question tells a copy of what a filed segment says.
use Rattle.std.proofs.Common.{◌≡◌, ℕ, true, List, [], ◌∷◌, Option, None, Some, refl, sym, ap, subst, ◌∙◌, arith}
use Rattle.std.specs.Prelude.{IfSome}
use Rattle.std.specs.List.{AllByRecursion}
use Rattle.std.proofs.lemmas.Bool.Decides.{nat_tests}
use Rattle.std.proofs.lemmas.Bool.{eqb-true}
use Rattle.cleaner_job.specs.declared.job.Job.{Job}
use Rattle.cleaner_job.specs.Jobs.{check_of, hand_of, is_out}
use Rattle.run_laws.proofs.index_reads.Worlds.{good}
use Rattle.headline.specs.Filed.{Filed, is_filed_name}
use Rattle.index_tie.specs.Net.{IsInHand}
use Rattle.log_protocol.specs.Tables.{In}
use Rattle.node_slots.specs.node_tie.CleanerLogs.{FateTold, PhaseTold}
use Rattle.segment_format.specs.declared.segment.Item.TheVariants.{Block}
use Rattle.segment_format.specs.declared.segment.Segment.{Segment}
use Rattle.stripe_cleaner.specs.declared.checks.Check.{Check}
use Rattle.stripe_cleaner.specs.declared.checks.Fate.{Fate}
use Rattle.stripe_cleaner.specs.declared.checks.Fate.TheVariants.{Asked, Live as IsLive, Moved, Dead}
use Rattle.stripe_cleaner.specs.declared.phase.Phase.{Phase}
use Rattle.stripe_cleaner.specs.declared.phase.Phase.TheVariants.{Greeting, Listing, Counting, Reading, Checking, Deleting, Over}
use Rattle.stripe_cleaner.specs.Job.{same_name}
use Rattle.token_law.specs.Books.{Books, said}
use Rattle.xfs_base.proofs.BlockOrder.{same_block_exact}
use Rattle.xfs_base.specs.Blocks.{same_block}
use Rattle.xfs_base.specs.declared.block.BlockId.{BlockId}
use Rattle.xfs_base.specs.declared.entry.Entry.{Entry}
use Rattle.xfs_base.specs.declared.entry.Place.{Place}
use Rattle.xfs_base.specs.declared.segment.SegName.{SegName}
use Rattle.run_laws.specs.place_law.Copies.{AreExact, CheckLies, FateLies, LiveAnswers, LivesTellCopies, PhaseLies}
use Rattle.run_laws.proofs.place_law.JobChecks.{jobs_checks_lie}
use Rattle.run_laws.proofs.place_law.Lying.{LiesAt, lies_there}

-- a name passes the test with itself
itself : (name : SegName) → same_name name name ≡ true
itself name = grind (arith, nat_tests)

-- what is out is what is awaited
awaited : (o : Option ℕ) (ask : ℕ) → is_out o ask ≡ true → o ≡ Some ask
awaited None ask h = absurd (cc)
awaited (Some x) ask h = ap Some (eqb-true x ask h)

module _ (k : Books) (f : Filed) (exact : AreExact f) (b : BlockId) (e : Entry) (place : Place) (at : e.place ≡ Some place)
    (lies : LiesAt f k b e place place.seg.name.log.0 place.seg.name.seq) where
  abbrev there : Segment
  there = f.segment place.seg.name.log.0 place.seg.name.seq

  -- a Block of the block in the segment has the value that the books have
  fate_told : (block : BlockId) (fate : Fate) → block ≡ b → FateLies there block fate → FateTold k b e fate
  fate_told block (Asked value) same fact = record {
    log = place.seg.name.log.0;
    segment = place.seg.name.seq;
    filed = lies.filed;
    row_said =
        let its : (said k place.seg.name.log.0 place.seg.name.seq b).value ≡ value =
        lies.value ∙ exact _ _ lies.some lies.limit b value e place (subst (λ x. In (Block x value) there.items) same fact) lies.says at
        in
        λ i. record { version = sym lies.version i; value = sym its i };
  }
  fate_told block (IsLive entry value) same fact = tt
  fate_told block Moved same fact = tt
  fate_told block Dead same fact = tt

  checks_told : (checks : List Check) → AllByRecursion (CheckLies there) checks
      → AllByRecursion (λ (c : Check). same_block c.block b ≡ true → FateTold k b e c.fate) checks
  checks_told [] all = tt
  checks_told (c ∷ cs) all = ((λ t. fate_told c.block c.fate (sym (same_block_exact c.block b t)) all.0.asked), checks_told cs all.1)

  phase_told : (p : Phase) → PhaseLies f p → IsInHand place.seg.name p → PhaseTold k b e p
  phase_told (Checking j segment checks) h named =
      let fact : is_filed_name f segment.name ≡ true =
      subst (λ (n : SegName). is_filed_name f n ≡ true) (sym named)
      (subst (λ (n : SegName). same_name place.seg.name n ≡ true) lies.name (itself place.seg.name))
      in
      checks_told checks (subst (λ (n : SegName). AllByRecursion (CheckLies (f.segment n.log.0 n.seq)) checks) named (h.lie fact))
  phase_told Greeting h named = tt
  phase_told (Listing l) h named = tt
  phase_told (Counting c) h named = tt
  phase_told (Reading j segment) h named = tt
  phase_told (Deleting j segment servers) h named = tt
  phase_told Over h named = tt

pub lives_tell_copies : LivesTellCopies
lives_tell_copies members part holds t i packets e p m tied exact has answers asks among fact told out = by e.job refl
  where
    by : (o : Option Job) → e.job ≡ o → IfSome o (λ job. PhaseTold t.books m.block m.entry job.cleaning.phase)
    by None at = tt
    by (Some job) at =
        let a : LiveAnswers packets m = answers p m among fact in
        let hand : IfSome e.job (λ job. IsInHand a.place.seg.name job.cleaning.phase) =
        asks m.block m.ask a.place (awaited (check_of (hand_of e.job) m.block) m.ask out) a.asked in
        let named : IsInHand a.place.seg.name job.cleaning.phase =
        subst (λ (o : Option Job). IfSome o (λ job. IsInHand a.place.seg.name job.cleaning.phase)) at hand in
        let lie : PhaseLies i.filed job.cleaning.phase =
        subst (λ c. PhaseLies i.filed c.phase) (has job at) (jobs_checks_lie part holds tied.any i tied.index_run) in
        phase_told t.books i.filed exact m.block m.entry a.place a.lies
        (lies_there i.filed t.books m.block m.entry a.place (good members part holds t i tied).filed tied.books tied.plain a.lies told)
        job.cleaning.phase lie named
