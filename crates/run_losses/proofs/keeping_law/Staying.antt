-- What is filed at a moment of a run is filed at each later one, up to which no restart that ended was doubtful, under the same number and the same name.
use Rattle.std.proofs.Common.{◌≡◌, ℕ, zero, suc, ◌+◌, ◌-◌, ◌<◌, ◌≤◌, false, sym, ap, subst, ◌∙◌, arith}
use Rattle.headline.specs.Filed.{Filed}
use Rattle.log_law.proofs.Filing.{Grown, grown}
use Rattle.log_law.specs.Net.{Net}
use Rattle.run_laws.specs.world_lines.Lines.{LinesGive}
use Rattle.run_laws.specs.world_logs.Lines.{setting}
use Rattle.headline.specs.Logs.{Role, log_by, renews}
use Rattle.run_laws.proofs.world_reads.EntriesSame.{sure_log}
use Rattle.run_laws.specs.world_reads.Joint.{Joint, There, log_at}
use Rattle.run_laws.proofs.world_reads.Joint.{IsSureUpto}
use Rattle.run_laws.specs.world_reads.LoggedRuns.{LoggedRun}
use Rattle.run_laws.proofs.world_reads.KnownLogs.{HasLog, filed_log}
use Rattle.xfs_base.specs.declared.segment.SegName.{SegName}

module _ (logged : LoggedRun) (part : ℕ) where
  open logged use {base, estate as e, lines, texts}

  -- ---- one log

  module _ (r : Role) (there : There logged part r) where
    abbrev at_count : ℕ → Net
    at_count count = log_at logged part r there count

    more_grown : (more count : ℕ) → Grown (at_count count) (at_count (more + count))
    more_grown zero count =
        let same : count ≡ zero + count = omega arith in
        subst (λ n. Grown (at_count count) (at_count n)) same (record { filed = λ name fact. fact; flown = λ s fact. fact; dropped = λ name fact. fact })
    more_grown (suc more) count =
        let same : suc (more + count) ≡ suc more + count = omega arith in
        let a = more_grown more count in
        let b : Grown (at_count (more + count)) (at_count (suc (more + count))) =
        grown (setting base e r) (at_count (more + count)) (at_count (suc (more + count))) ((lines r there).goes (more + count)) in
        subst (λ n. Grown (at_count count) (at_count n)) same (record {
          filed = λ name fact. b.filed name (a.filed name fact);
          flown = λ s fact. b.flown s (a.flown s fact);
          dropped = λ name fact. b.dropped name (a.dropped name fact);
        })

    log_grown : (count later : ℕ) → count ≤ later → Grown (at_count count) (at_count later)
    log_grown count later low =
        let same : (later - count) + count ≡ later = omega arith in
        subst (λ n. Grown (at_count count) (at_count n)) same (more_grown (later - count) count)

  -- ---- all logs

  module _ (give : LinesGive) (count later : ℕ) (low : count ≤ later) (sure : IsSureUpto logged part later)
      (then : Joint logged part count) (now : Joint logged part later) where
    abbrev f : Filed
    f = then.idx.net.filed

    abbrev h : Filed
    h = now.idx.net.filed

    pub record IsStill (l q : ℕ) : Type 0 where
      pub limit : q ≤ h.head l
      pub same : h.segment l q ≡ f.segment l q

    of_log : (r : Role) (there : There logged part r) → renews r ≡ false → (q : ℕ) → 0 < q → q ≤ f.head (log_by r) → IsStill (log_by r) q
    of_log r there keeps q some limit =
        let l = log_by r in
        let its = then.lined r there keeps in
        let other = now.lined r there keeps in
        let on = log_grown r there count later low in
        let name : SegName = (f.segment l q).name in
        let filed = on.filed name (its.lined.filed q some limit) in
        let number : name.seq ≡ q = its.lined.seq q some limit in
        let within : q ≤ h.head l = (let place = (other.all name filed).1 in omega arith) in
        let one : name ≡ (h.segment l q).name =
        subst (λ x. name ≡ (h.segment l x).name) number
        ((give texts.text l (setting base e r) (at_count r there later) h (sure_log logged part give later sure r there keeps) other).one
        name filed)
        in
        record {
          limit = within;
          same = sym (texts.flown r there later (h.segment l q) (other.lined.flown q some within))
              ∙ (ap texts.text (sym one) ∙ texts.flown r there count (f.segment l q) (its.lined.flown q some limit));
        }

    pub filed_still : (l q : ℕ) → 0 < q → q ≤ f.head l → IsStill l q
    filed_still l q some limit =
        let has : HasLog logged part l = filed_log logged part count then l q some limit in
        subst (λ x. q ≤ f.head x → IsStill x q) has.numbered (λ within. of_log has.role has.there has.keeps q some within) limit
