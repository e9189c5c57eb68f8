-- What is filed says the same to both small worlds: the row of the books and that of the index are of one version, and what an entry names the books have.
use Rattle.std.proofs.Common.{◌≡◌, ℕ, zero, suc, ◌<◌, ◌≤◌, ◌&&◌, inl, inr, nat_lt, nat_le, [], refl, sym, ap, subst, ◌∙◌, arith}
use Rattle.std.specs.Prelude.{Contains}
use Rattle.std.proofs.lemmas.Bool.Decides.{nat_tests}
use Rattle.client_call.specs.Reads.{value_at}
use Rattle.xfs_base.specs.declared.block.BlockId.{BlockId}
use Rattle.xfs_base.specs.declared.entry.Entry.{Entry}
use Rattle.xfs_base.specs.declared.segment.SegName.{SegName}
use Rattle.xfs_base.proofs.Members.{contains_nothing}
use Rattle.xfs_base.specs.Limits.{block_logs}
use Rattle.delta_index.specs.Join.{join}
use Rattle.index_tie.specs.Filed.{Names}
use Rattle.headline.specs.Filed.{Filed, row_at, rows_at}
use Rattle.index_tie.specs.Filed as index
use Rattle.index_tie.proofs.Growth.{is_filed}
use Rattle.index_tie.proofs.Rows.{row_versioned, by_filed}
use Rattle.index_tie.proofs.Tables.{first_of}
use Rattle.index_tie.proofs.Takeovers.{by_log}
use Rattle.log_protocol.specs.IndexState as abstract
use Rattle.node_slots.specs.node_tie.LogRows.{rows_told}
use Rattle.segment_format.specs.Rows.{rows_of}
use Rattle.segment_format.specs.declared.segment.Segment.{Segment}
use Rattle.token_law.specs.Books.{Books, Row, row_in, said, IsMadeOf, IsFiled}
use Rattle.run_laws.specs.index_reads.Rows.{SaysSame}
use Rattle.run_laws.specs.index_reads.Ties.{BooksAre, ArePlain}
use Rattle.run_laws.specs.index_reads.Places.{IsKept, PlacesAreKept}
use Rattle.run_laws.proofs.index_reads.Rows.{rows_are_entries, deltas_are_said}

-- both tell of the same logs, and what is filed is plain
pub record Same (k : Books) (f : Filed) : Type 0 where
  pub books : BooksAre k f
  pub plain : ArePlain f
  pub filed : index.IsFiled f

-- no segment has number 0
abbrev pub BeginsAtOne : Books → Type 0
BeginsAtOne k = (l : ℕ) → k.rows l 0 ≡ []

-- what is filed under a number above 0 is there
rows_there : (f : Filed) (l q : ℕ) → 0 < q → q ≤ f.head l → rows_at f l q ≡ rows_of (f.segment l q)
rows_there f l q from to = first_of (nat_lt 0 q && nat_le q (f.head l)) (rows_of (f.segment l q)) [] (grind (arith, nat_tests))

module _ (k : Books) (f : Filed) (same : Same k f) (b : BlockId) where
  -- a filed segment says the same of the block
  says_same : (l q : ℕ) → 0 < l → l ≤ block_logs → 0 < q → q ≤ f.head l → SaysSame (f.segment l q) (said k l q b) (row_at f b l q)
  says_same l q some limit from to =
      let s = f.segment l q in
      subst (λ xs. SaysSame s (row_in xs b) (row_at f b l q)) (sym (same.books.rows l q some limit from to))
      (subst (λ rows. SaysSame s (row_in (rows_told s.items) b) (join rows b)) (sym (rows_there f l q from to))
      (rows_are_entries s b (same.plain l q some limit from to) (same.filed.each l q from to).versions))

  pub same_version : BeginsAtOne k → (l q : ℕ) → 0 < l → l ≤ block_logs → q ≤ f.head l → (said k l q b).version ≡ (row_at f b l q).ver
  same_version first l zero some limit to = ap (λ rows. (row_in rows b).version) (first l)
  same_version first l (suc q) some limit to = (says_same l (suc q) some limit (omega arith) to).version

  -- where a row is, a log has filed it
  pub record IsOfLog (l q : ℕ) : Type 0 where
    pub some : 0 < l
    pub limit : l ≤ block_logs
    pub from : 0 < q
    pub to : q ≤ f.head l

  pub of_log : (l q : ℕ) → 0 < (row_at f b l q).ver → IsOfLog l q
  of_log l q some =
      let within = is_filed b f l q some in
      by_log (λ l. q ≤ f.head l → IsOfLog l q) (λ l more limit to. record { some = more; limit = limit; from = within.0; to = to })
      (λ l out to. absurd (let none = same.filed.others l out in let from = within.0 in omega arith)) l within.1

  row_made : (l q : ℕ) → 0 < (row_at f b l q).ver → IsMadeOf k b (row_at f b l q) l q
  row_made l q some =
      let at = of_log l q some in
      let s = says_same l q at.some at.limit at.from at.to in
      let its = same.filed.each l q at.from at.to in
      record {
        filed = let end = same.books.end l at.some at.limit in let to = at.to in omega arith;
        some = some;
        row = s.version;
        absent = s.absent;
        place = λ place lies.
            let name = (s.place place lies).name in (ap (λ (n : SegName). n.log.0) name ∙ its.log, ap (λ (n : SegName). n.seq) name ∙ its.seq);
      }

  row_filed : (l q : ℕ) → IsFiled k b (row_at f b l q)
  row_filed l q = by (row_at f b l q).ver refl
    where
      by : (v : ℕ) → (row_at f b l q).ver ≡ v → IsFiled k b (row_at f b l q)
      by zero none = inl (none, ap (λ (e : Entry). e.place) (row_versioned b f l q same.filed none))
      by (suc v) fact = inr (l, q, row_made l q (omega arith))

  -- an entry that names a row is filed
  pub names_filed : (e : Entry) (named : abstract.Entry) → Names b f e named → IsFiled k b e
  names_filed e named n = by e.ver refl
    where
      by : (v : ℕ) → e.ver ≡ v → IsFiled k b e
      by zero none = inl (none, ap (λ (x : Entry). x.place) (n.none none))
      by (suc v) fact = subst (IsFiled k b) (sym (n.row (omega arith))) (row_filed named.log named.seq)

-- ---- places

-- where a row is, its log and number are
rows_filed : (f : Filed) (l q : ℕ) (row : BlockId × Entry) → Contains (rows_at f l q) row → (0 < q) × (q ≤ f.head l)
rows_filed f l q row =
    by_filed (λ rows. Contains rows row → (0 < q) × (q ≤ f.head l)) f l q (λ from to _. (from, to)) (λ has. absurd (contains_nothing row has))

pub places_are_kept : PlacesAreKept
places_are_kept k f b e l q place filed books plain has lies =
    let same : Same k f = record { books = books; plain = plain; filed = filed } in
    let within = rows_filed f l q (b, e) has in
    by_log (λ l. Contains (rows_at f l q) (b, e) → (0 < q) × (q ≤ f.head l) → IsKept k f b e.ver place)
    (λ l some limit has within. here same l some limit has within)
    (λ l out has within. absurd (let none = filed.others l out in let from = within.0 in let to = within.1 in omega arith)) l has within
  where
    here : Same k f → (l : ℕ) → 0 < l → l ≤ block_logs → Contains (rows_at f l q) (b, e) → (0 < q) × (q ≤ f.head l) → IsKept k f b e.ver place
    here same l some limit has within =
        let s = f.segment l q in
        let its = filed.each l q within.0 within.1 in
        let there = rows_there f l q within.0 within.1 in
        let fact : row_at f b l q ≡ e =
        ap (λ rows. join rows b) there
        ∙ deltas_are_said s b e (plain l q some limit within.0 within.1) its.versions (subst (λ rows. Contains rows (b, e)) there has) in
        let says = says_same k f same b l q some limit within.0 within.1 in
        let at = says.place place (ap (λ (x : Entry). x.place) fact ∙ lies) in
        let log : place.seg.name.log.0 ≡ l = ap (λ (n : SegName). n.log.0) at.name ∙ its.log in
        let seq : place.seg.name.seq ≡ q = ap (λ (n : SegName). n.seq) at.name ∙ its.seq in
        let m = place.seg.name.seq in
        let row = ap (λ x. said k x m b) log ∙ ap (λ x. said k l x b) seq in
        let segment : f.segment place.seg.name.log.0 m ≡ s = ap (λ x. f.segment x m) log ∙ ap (f.segment l) seq in
        record {
          filed = let last = ap k.end log ∙ books.end l some limit in let to = within.1 in omega arith;
          name = ap (λ (x : Segment). x.name) segment ∙ sym at.name;
          version = ap (λ (r : Row). r.version) row ∙ says.version ∙ ap (λ (x : Entry). x.ver) fact;
          value = ap (λ (r : Row). r.value) row ∙ at.item ∙ sym (ap (λ (x : Segment). value_at x place.item) segment);
        }
