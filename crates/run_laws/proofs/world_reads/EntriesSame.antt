-- Logs are sure where no restart was doubtful; and what is filed at a count is the same in the small world of each slot.
use Rattle.std.proofs.Common.{◌≡◌, ◌≤◌, ◌<◌, ℕ, false, refl, sym, ap, subst, ◌∙◌, arith}
use Rattle.std.specs.Prelude.{Contains}
use Rattle.node_tellings.specs.entry_tie.Told.{AreMore}
use Rattle.index_tie.proofs.Rows.{by_filed}
use Rattle.headline.specs.Filed.{Filed, rows_at}
use Rattle.log_law.specs.Net.{Net}
use Rattle.log_tie.specs.Setting.{Setting}
use Rattle.segment_format.specs.declared.segment.Segment.{Segment}
use Rattle.segment_format.specs.Rows.{rows_of}
use Rattle.run_laws.specs.world_lines.Lines.{IsLine, IsSure, LinesGive}
use Rattle.run_laws.specs.world_logs.Lines.{setting}
use Rattle.headline.specs.Logs.{Role, log_by, renews}
use Rattle.run_laws.proofs.world_reads.EntriesRise.{rows_filed}
use Rattle.run_laws.proofs.world_reads.KnownLogs.{HasLog, filed_log}
use Rattle.run_laws.specs.world_reads.Joint.{Joint, There, log_at}
use Rattle.run_laws.proofs.world_reads.Joint.{IsSureUpto}
use Rattle.run_laws.specs.world_reads.LoggedRuns.{LoggedRun}
use Rattle.xfs_base.proofs.Members.{contains_nothing}
use Rattle.xfs_base.specs.declared.block.BlockId.{BlockId}
use Rattle.xfs_base.specs.declared.entry.Entry.{Entry}
use Rattle.xfs_base.specs.declared.segment.SegName.{SegName}

-- ---- one log, in two tables of what is filed

module _ (give : LinesGive) (texts : SegName → Segment) (l : ℕ) (g : Setting) (n : Net) (f h : Filed) (sure : IsSure texts l g n) (its : IsLine l n f)
    (other : IsLine l n h) where
  -- what is filed in the one is filed in the other
  pub record IsThere (q : ℕ) : Type 0 where
    pub limit : q ≤ h.head l
    pub same : h.segment l q ≡ f.segment l q

  pub is_there : (q : ℕ) → 0 < q → q ≤ f.head l → IsThere q
  is_there q some limit =
      let named = its.lined.seq q some limit in
      let filed = its.lined.filed q some limit in
      let place = other.all (f.segment l q).name filed in
      let within : q ≤ h.head l = (let low = place.1 in omega arith) in
      let one : (f.segment l q).name ≡ (h.segment l q).name =
      subst (λ k. (f.segment l q).name ≡ (h.segment l k).name) named ((give texts l g n h sure other).one (f.segment l q).name filed)
      in
      record {
        limit = within;
        same = sym (sure.are_texts (h.segment l q) (other.lined.flown q some within))
            ∙ (ap texts (sym one) ∙ sure.are_texts (f.segment l q) (its.lined.flown q some limit));
      }

module _ (logged : LoggedRun) (part : ℕ) (give : LinesGive) (count : ℕ) (sure : IsSureUpto logged part count) where
  open logged use {base, estate as e, lines, texts}

  -- the log of a client, or of the cleaner, is sure
  pub sure_log : (r : Role) (there : There logged part r) → renews r ≡ false
      → IsSure texts.text (log_by r) (setting base e r) (log_at logged part r there count)
  sure_log r there keeps = record {
    own = refl;
    trusted = keeps;
    moment = ((lines r there).stands count).moment;
    sure = sure r there keeps;
    are_texts = texts.flown r there count;
  }

  -- so what is filed in the small world of another slot is filed in that of this one
  module _ (joint : Joint logged part count) (slot : ℕ) (its : Joint logged slot count) where
    abbrev f : Filed
    f = its.idx.net.filed

    abbrev h : Filed
    h = joint.idx.net.filed

    says_same : (row : BlockId × Entry) (l q : ℕ) → Contains (rows_at f l q) row → Contains (rows_at h l q) row
    says_same row l q =
        by_filed (λ rows. Contains rows row → Contains (rows_at h l q) row) f l q here (λ fact. absurd (contains_nothing row fact))
      where
        at_log : (k : ℕ) (r : Role) (there : There logged part r) → renews r ≡ false → log_by r ≡ k → 0 < q → q ≤ f.head k
            → Contains (rows_of (f.segment k q)) row → Contains (rows_at h k q) row
        at_log k r there keeps fact some limit says =
            subst (λ x. q ≤ f.head x → Contains (rows_of (f.segment x q)) row → Contains (rows_at h x q) row) fact
            (λ m c.
            let t = is_there give texts.text (log_by r) (setting base e r) (log_at logged part r there count) f h (sure_log r there keeps)
            (its.lined r there keeps) (joint.lined r there keeps) q some m
            in
            subst (λ rows. Contains rows row) (sym (rows_filed h (log_by r) q some t.limit))
            (subst (λ (s : Segment). Contains (rows_of s) row) (sym t.same) c)) limit says

        here : 0 < q → q ≤ f.head l → Contains (rows_of (f.segment l q)) row → Contains (rows_at h l q) row
        here some limit says =
            let has : HasLog logged slot l = filed_log logged slot count its l q some limit in
            at_log l has.role has.there has.keeps has.numbered some limit says

    pub same_rows : AreMore (rows_at f) (rows_at h)
    same_rows block entry fact = record { log = fact.log; seq = fact.seq; says = says_same (block, entry) fact.log fact.seq fact.says }
