-- Lines are filed as the index wants it: of what flew of a log each is written, and filed names stand in one line.
use Rattle.std.proofs.Common.{◌≡◌, ◌<◌, ◌≤◌, ◌⊎◌, ◌&&◌, ℕ, suc, nat_lt, nat_le, Bool, true, false, cond, [], inl, inr, refl, sym, ap, ◌∙◌, arith}
use Rattle.std.proofs.lemmas.Bool.Decides.{nat_tests}
use Rattle.headline.specs.Filed.{Filed, IsSegment, Texts, rows_at}
use Rattle.index_tie.specs.Takeovers.{IsEnd, Linked}
use Rattle.log_law.specs.Laws.{LogsStayInLine, OneLine}
use Rattle.log_law.specs.Net.{Net}
use Rattle.log_law.specs.Written.{IsOfLog, WhatFlewIsWritten}
use Rattle.log_protocol.specs.Tables.{In}
use Rattle.log_tie.specs.Setting.{Setting}
use Rattle.node_slots.specs.node_index_tie.Sight.{RowsFit}
use Rattle.segment_format.specs.declared.segment.Segment.{Segment}
use Rattle.segment_format.specs.Rows.{rows_of}
use Rattle.xfs_base.specs.declared.segment.End.{End}
use Rattle.xfs_base.specs.declared.segment.LogId.{LogId}
use Rattle.xfs_base.specs.declared.segment.SegName.{SegName}
use Rattle.xfs_base.specs.Limits.{block_logs}
use Rattle.run_laws.specs.world_lines.Lines.{AreLines, IsLined, IsSure, SaysBlocks, LinesAreFiled, LinesAreTexts, LinesGive}
use Rattle.run_laws.proofs.world_lines.Rows.{rows_fit}

-- ---- one log

module _ (written : WhatFlewIsWritten) (texts : Texts) (l : ℕ) (g : Setting) (n : Net) (k : IsSure texts l g n) where
  -- a segment that flew, of a number, and says of blocks
  pub flown_segment : (s : Segment) (q : ℕ) → In s n.flown → s.name.seq ≡ q → SaysBlocks s → IsSegment l q s
  flown_segment s q fact seq says =
      let w : IsOfLog g s = written g n k.moment s fact in record {
        log = ap (λ (x : LogId). x.0) (w.log ∙ k.own);
        seq = seq;
        boot = w.boot;
        versions = says.versions;
        no_parts = says.no_parts;
      }

  pub flown_fits : (s : Segment) → In s n.flown → RowsFit (rows_of s)
  flown_fits s fact = rows_fit s (written g n k.moment s fact).written.fits

  module _ (f : Filed) (h : IsLined l n f) where
    fit : (q : ℕ) → RowsFit (rows_at f l q)
    fit q = by (nat_lt 0 q && nat_le q (f.head l)) (λ fact. flown_fits (f.segment l q) (h.flown q (some fact) (limit fact)))
      where
        by : (t : Bool) → (t ≡ true → RowsFit (rows_of (f.segment l q))) → RowsFit (cond t (rows_of (f.segment l q)) [])
        by true fits = fits refl
        by false fits = tt

        some : nat_lt 0 q && nat_le q (f.head l) ≡ true → 0 < q
        some fact = grind (arith, nat_tests, fact)

        limit : nat_lt 0 q && nat_le q (f.head l) ≡ true → q ≤ f.head l
        limit fact = grind (arith, nat_tests, fact)

    module _ (line : OneLine g n) (all : (name : SegName) → In name n.filed → (0 < name.seq) × (name.seq ≤ f.head l)) where
      linked : (low high : ℕ) → 0 < low → n.low ≤ low → high ≤ f.head l → Linked f l low high
      linked low high some least upto q from to =
          let a : (f.segment l (suc q)).name.seq ≡ suc q = h.seq (suc q) (omega arith) (omega arith) in
          let b : (f.segment l q).name.seq ≡ q = h.seq q (omega arith) (omega arith) in
          line.linked (f.segment l (suc q)) (f.segment l q) (h.flown (suc q) (omega arith) (omega arith)) (h.flown q (omega arith) (omega arith))
          (h.filed (suc q) (omega arith) (omega arith)) (h.filed q (omega arith) (omega arith)) (omega arith) (omega arith)

      one : (name : SegName) → In name n.filed → name ≡ (f.segment l name.seq).name
      one name fact =
          let w = all name fact in
          line.no_two name (f.segment l name.seq).name fact (h.filed name.seq w.0 w.1) (sym (h.seq name.seq w.0 w.1))

      ends : (end : End) → In (record { log = record { 0 = l }; seq = end.seq; pass = end.pass }) n.filed → IsEnd f l end
      ends end fact = record { filed = (all _ fact).1; named = ap (λ (x : SegName). x.pass) (one _ fact) }

pub lines_give : WhatFlewIsWritten → LogsStayInLine → LinesGive
lines_give written in_line texts l g n f k h =
    let line : OneLine g n = in_line g n k.trusted k.moment k.sure in record {
      fit = fit written texts l g n k f h.lined;
      linked = linked written texts l g n k f h.lined line h.all;
      ends = ends written texts l g n k f h.lined line h.all;
      one = one written texts l g n k f h.lined line h.all;
    }

-- ---- all logs

module _ (written : WhatFlewIsWritten) (texts : Texts) (has : ℕ → Bool) (settings : ℕ → Setting) (nets : ℕ → Net) (f : Filed)
    (are : AreLines texts has settings nets f) where
  others : (l : ℕ) → (l ≡ 0) ⊎ (block_logs < l) → f.head l ≡ 0
  others l out = by out (are.none l)
    where
      by : (l ≡ 0) ⊎ (block_logs < l) → (has l ≡ true) ⊎ (f.head l ≡ 0) → f.head l ≡ 0
      by (inl zero) (inl had) = absurd (let w = (are.within l had).0 in omega arith)
      by (inr high) (inl had) = absurd (let w = (are.within l had).1 in omega arith)
      by out (inr none) = none

  -- a log that has filed something is had
  filed_has : (l q : ℕ) → 0 < q → q ≤ f.head l → has l ≡ true
  filed_has l q some limit = by (are.none l)
    where
      by : (has l ≡ true) ⊎ (f.head l ≡ 0) → has l ≡ true
      by (inl had) = had
      by (inr none) = absurd (omega arith)

  each : (l q : ℕ) → 0 < q → q ≤ f.head l → IsSegment l q (f.segment l q)
  each l q some limit =
      let had = filed_has l q some limit in
      let line = (are.each l had).lined in
      flown_segment written texts l (settings l) (nets l) (are.sure l had) (f.segment l q) q (line.flown q some limit) (line.seq q some limit)
      (are.says l q had some limit)

  text : (l q : ℕ) → 0 < q → q ≤ f.head l → f.segment l q ≡ texts (f.segment l q).name
  text l q some limit =
      let had = filed_has l q some limit in sym ((are.sure l had).are_texts (f.segment l q) ((are.each l had).lined.flown q some limit))

pub lines_are_filed : WhatFlewIsWritten → LinesAreFiled
lines_are_filed written texts has settings nets f are =
    record { others = others written texts has settings nets f are; each = each written texts has settings nets f are }

pub lines_are_texts : WhatFlewIsWritten → LinesAreTexts
lines_are_texts written texts has settings nets f are = text written texts has settings nets f are
