-- What stands on the lines of clean logs is filed, linked above the least horizon, told by feeds, and only grows.
use Rattle.std.proofs.Common.{◌≡◌, ℕ, zero, suc, ◌+◌, ◌-◌, ◌<◌, ◌≤◌, ◌&&◌, ◌⊎◌, inl, inr, nat_lt, nat_le, true, [], ◌∷◌, map, refl, sym, ap, ◌∙◌, arith}
use Rattle.std.specs.List.{range_with_len}
use Rattle.std.proofs.lemmas.Bool.Decides.{nat_tests}
use Rattle.xfs_base.specs.Limits.{block_logs}
use Rattle.segment_format.specs.declared.segment.Segment.{Segment}
use Rattle.segment_format.specs.Rows.{rows_of}
use Rattle.log_protocol.specs.Phase
use Rattle.log_protocol.specs.State.{State}
use Rattle.log_protocol.specs.StateLaws.{EndIsHead}
use Rattle.log_protocol.specs.GrowthLaws.{PastStays}
use Rattle.log_protocol.proofs.Interval.{past_stays_always}
use Rattle.log_protocol.proofs.LogTheorems.{one_line_always, feed_whole_always}
use Rattle.log_protocol.proofs.StateLaws.{end_is_head_always, book_always, horizons_always}
use Rattle.index_tie.specs.Feeds.{fed_at}
use Rattle.headline.specs.Filed.{IsSegment, rows_at}
use Rattle.index_tie.specs.Lines.{pass_of, IsLog, lines, LinesAreFiled, LinesAreLinked, FiledNamesAreEnds, feed_at, FeedsAreFed, LinesGrow}
use Rattle.index_tie.proofs.Takeovers.{by_log}
use Rattle.index_tie.proofs.Tables.{first_of, second_of}

-- a log that is none of 1 to 9 has no head here
head_in : (logs : ℕ → State) (books : ℕ → ℕ → Segment) (l : ℕ) → 0 < l → l ≤ block_logs → (lines logs books).head l ≡ (logs l).head
head_in logs books l some limit = first_of (nat_lt 0 l && nat_le l block_logs) (logs l).head 0 (grind (arith, nat_tests))

head_out : (logs : ℕ → State) (books : ℕ → ℕ → Segment) (l : ℕ) → (l ≡ 0) ⊎ (block_logs < l) → (lines logs books).head l ≡ 0
head_out logs books l (inl none) = second_of (nat_lt 0 l && nat_le l block_logs) (logs l).head 0 (grind (arith, nat_tests))
head_out logs books l (inr past) = second_of (nat_lt 0 l && nat_le l block_logs) (logs l).head 0 (grind (arith, nat_tests))

is_end : (l : ℕ) (w : State) (book : ℕ → Segment) → IsLog l w book → EndIsHead w
is_end l w book i = end_is_head_always w i.reached i.clean

-- what stands on the line is a segment
on_line : (l q : ℕ) (w : State) (book : ℕ → Segment) → IsLog l w book → 0 < q → q ≤ w.head → IsSegment l q (book (w.line q))
on_line l q w book i some limit =
    let e = is_end l w book i in
    let p = i.pages (w.line q) (e.line_filed q some limit) in
    record { log = p.log; seq = p.seq ∙ e.line_seq q some limit; boot = p.boot; versions = p.versions; no_parts = p.no_parts }

pub lines_are_filed : LinesAreFiled
lines_are_filed logs books are = record {
  others = head_out logs books;
  each = λ l q some limit. by_log (λ k. q ≤ (lines logs books).head k → IsSegment k q (books k ((logs k).line q)))
      (λ k more less within. on_line k q (logs k) (books k) (are k more less) some (let h = head_in logs books k more less in omega arith))
      (λ k out within. absurd (let h = head_out logs books k out in omega arith)) l limit;
}

pub lines_are_linked : LinesAreLinked
lines_are_linked logs books l low high are some limit least upto q from above =
    let w = logs l in
    let i = are l some limit in
    let e = is_end l w (books l) i in
    let horizon = (horizons_always w i.reached).low_some in
    let x = w.line (suc q) in
    let y = w.line q in
    let filed_x = e.line_filed (suc q) (omega arith) (omega arith) in
    let filed_y = e.line_filed q (omega arith) (omega arith) in
    let seq_x = e.line_seq (suc q) (omega arith) (omega arith) in
    let seq_y = e.line_seq q (omega arith) (omega arith) in
    let fact : w.prior_of x ≡ y = (one_line_always w i.reached i.clean).linked x y filed_x filed_y (omega arith) (omega arith) in
    let book = book_always w i.reached in
    let named = book.named y (book.filed_booked y filed_y) in
    (i.pages x filed_x).follows (omega arith) ∙ ap (pass_of w) fact ∙ sym (i.pages y filed_y).pass

pub filed_names_are_ends : FiledNamesAreEnds
filed_names_are_ends logs books l x end are some limit filed seq pass =
    let w = logs l in
    let i = are l some limit in
    let e = is_end l w (books l) i in
    let head = head_in logs books l some limit in
    let within = e.filed_head x filed in
    let fact : w.line end.seq ≡ x = ap w.line seq ∙ e.filed_line x filed in
    record { filed = omega arith; named = pass ∙ sym (i.pages x filed).pass ∙ sym (ap (λ k. (books l k).name.pass) fact) }

-- the feed has what stands on the line
same_feed : (l : ℕ) (w : State) (book : ℕ → Segment) → IsLog l w book → w.phase ≡ Phase.serving → (q : ℕ) → w.feed_base < q → q ≤ w.head → w.feed q ≡ w.line q
same_feed l w book i serves q above within =
    let f = (feed_whole_always w i.reached i.clean serves).filed q above within in
    sym (ap w.line (sym f.1) ∙ (is_end l w book i).filed_line (w.feed q) f.0)

same_feeds : (logs : ℕ → State) (books : ℕ → ℕ → Segment) (l : ℕ) → 0 < l → l ≤ block_logs → IsLog l (logs l) (books l) → (logs l).phase ≡ Phase.serving → (n q : ℕ)
    → (logs l).feed_base < q → q + n ≤ suc (logs l).head
    → map (feed_at (logs l) (books l)) (range_with_len q n) ≡ map (fed_at (lines logs books) l) (range_with_len q n)
same_feeds logs books l some limit i serves zero q above within = refl
same_feeds logs books l some limit i serves (suc n) q above within =
    let w = logs l in
    let f = lines logs books in
    let head = head_in logs books l some limit in
    let rows : rows_of (books l (w.feed q)) ≡ rows_at f l q =
    ap (λ k. rows_of (books l k)) (same_feed l w (books l) i serves q above (omega arith))
    ∙ sym (first_of (nat_lt 0 q && nat_le q (f.head l)) (rows_of (books l (w.line q))) [] (filed_test q (f.head l) (omega arith) (omega arith))) in
    let rest = same_feeds logs books l some limit i serves n (q + 1) (omega arith) (omega arith) in
    ap (λ r. record { seq = q; rows = r } ∷ map (feed_at w (books l)) (range_with_len (q + 1) n)) rows ∙ ap (λ fs. fed_at f l q ∷ fs) rest
  where
    filed_test : (q h : ℕ) → 0 < q → q ≤ h → (nat_lt 0 q && nat_le q h) ≡ true
    filed_test q h some_ most_ = grind (arith, nat_tests)

pub feeds_are_fed : FeedsAreFed
feeds_are_fed logs books l inputs are some limit serves ends told =
    let w = logs l in
    let i = are l some limit in
    let covered = (feed_whole_always w i.reached i.clean serves).covered in
    let low = (is_end l w (books l) i).low_head in
    let head = head_in logs books l some limit in
    record {
      known = omega arith;
      end = ends ∙ sym head;
      each = told ∙ same_feeds logs books l some limit i serves (w.head - w.feed_base) (suc w.feed_base) (omega arith) (omega arith)
          ∙ ap (λ h. map (fed_at (lines logs books) l) (range_with_len (suc w.feed_base) (h - w.feed_base))) (sym head);
    }

pub lines_grow : LinesGrow
lines_grow logs later books more old new steps same = record {
  head = by_log (λ l. (lines logs books).head l ≤ (lines later more).head l)
      (λ l some limit. let a = head_in logs books l some limit in let c = head_in later more l some limit in
      let p = (past l some limit).head (new l some limit).clean in omega arith)
      (λ l out. let a = head_out logs books l out in omega arith);
  segment = λ l q some limit. by_log (λ k. q ≤ (lines logs books).head k → more k ((later k).line q) ≡ books k ((logs k).line q))
      (λ k above less within.
      let h = head_in logs books k above less in
      let line : (later k).line q ≡ (logs k).line q = (past k above less).line q (new k above less).clean (omega arith) in
      ap (more k) line ∙ same k ((logs k).line q) ((is_end k (logs k) (books k) (old k above less)).line_filed q some (omega arith)))
      (λ k out within. absurd (let h = head_out logs books k out in omega arith)) l limit;
}
  where
    past : (l : ℕ) → 0 < l → l ≤ block_logs → PastStays (logs l) (later l)
    past l some limit = past_stays_always (logs l) (later l) (old l some limit).reached (steps l some limit)
