-- The places that the cleaner asks of are those of the blocks' rows.
use Rattle.std.proofs.Common.{◌≡◌, ◌<◌, ◌≤◌, ℕ, List, [], ◌∷◌, Some, sym, ap, subst, ◌∙◌}
use Rattle.std.specs.List.{AllByRecursion}
use Rattle.std.proofs.lemmas.Map.Views.{tells_apart}
use Rattle.delta_index.specs.Join.{join}
use Rattle.run_laws.proofs.index_reads.Rows.{deltas_are_said}
use Rattle.run_laws.specs.index_reads.Rows.{IsPlain}
use Rattle.run_laws.specs.index_reads.Ties.{ArePlain}
use Rattle.index_tie.proofs.Runs.{good_in}
use Rattle.index_tie.specs.Filed.{IsFiled}
use Rattle.headline.specs.Filed.{Filed, row_at}
use Rattle.segment_format.specs.declared.segment.Segment.{Segment}
use Rattle.stripe_cleaner.specs.Checks.{place_in}
use Rattle.stripe_cleaner.specs.declared.checks.Check.{Check}
use Rattle.xfs_base.proofs.Orders.{seg_cmp_exact}
use Rattle.xfs_base.specs.declared.entry.Entry.{Entry}
use Rattle.xfs_base.specs.declared.segment.SegRef.{SegRef}
use Rattle.run_laws.specs.place_law.Copies.{AreNamed, CheckLies, ChecksAreOfRows, ChecksLie, PhaseLies}
use Rattle.run_laws.proofs.place_law.JobChecks.{jobs_checks_lie}
use Rattle.run_laws.proofs.place_law.Lying.{one_of_nine, rows_there}

module _ (f : Filed) (filed : IsFiled f) (plain : ArePlain f) (named : AreNamed f) (segment : SegRef) where
  abbrev l : ℕ
  l = segment.name.log.0

  abbrev q : ℕ
  q = segment.name.seq

  abbrev there : Segment
  there = f.segment l q

  module _ (some : 0 < q) (limit : q ≤ f.head l) (name : segment.name ≡ there.name) (group : segment.group ≡ there.group) where
    its_plain : IsPlain there
    its_plain = (let nine = one_of_nine f filed l q some limit in plain l q nine.0 nine.1 some limit)

    of_row : (c : Check) → CheckLies there c → (row_at f c.block l q).place ≡ Some (place_in segment c.item)
    of_row c h =
        let e = named l q some limit c.block c.item (h.sits its_plain.few) in
        let fact : row_at f c.block l q ≡ e.0 =
        ap (λ rows. join rows c.block) (rows_there f l q some limit) ∙ deltas_are_said there c.block e.0 its_plain (filed.each l q some limit).versions e.1 in
        ap (λ (x : Entry). x.place) fact ∙ e.2 ∙ (λ i. Some (record { seg = record { name = sym name i; group = sym group i }; item = c.item }))

    all_of_rows : (checks : List Check) → AllByRecursion (CheckLies there) checks
        → AllByRecursion (λ (c : Check). (row_at f c.block l q).place ≡ Some (place_in segment c.item)) checks
    all_of_rows [] all = tt
    all_of_rows (c ∷ cs) all = (of_row c all.0, all_of_rows cs all.1)

pub checks_are_of_rows : ChecksAreOfRows
checks_are_of_rows part holds any n j segment checks run plain named phase fact group =
    let f : Filed = n.filed in
    let h : ChecksLie f segment.name checks = subst (PhaseLies f) phase (jobs_checks_lie part holds any n run) in
    all_of_rows f (good_in part holds any n run).filed plain named segment h.within.some h.within.filed
    (tells_apart seg_cmp_exact segment.name (f.segment segment.name.log.0 segment.name.seq).name fact) group checks (h.lie fact)
