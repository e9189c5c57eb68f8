-- The join of all that is filed, by the books of the small world of tokens, which tell of the same logs as the table: how new it is, and what lies there.
use Rattle.std.proofs.Common.{◌≡◌, ℕ, zero, suc, ◌<◌, ◌≤◌, ◌&&◌, nat_le, nat_lt, [], Option, None, Some, refl, sym, ap, subst, ◌∙◌, arith}
use Rattle.std.proofs.lemmas.Bool.Decides.{nat_tests}
use Rattle.client_call.specs.Reads.{value_at}
use Rattle.delta_index.specs.Join.{join}
use Rattle.index_tie.proofs.Rows.{row_versioned}
use Rattle.index_tie.proofs.Tables.{first_of}
use Rattle.headline.specs.Filed.{Filed, row_at, rows_at}
use Rattle.node_slots.specs.node_tie.LogRows.{rows_told}
use Rattle.run_laws.proofs.index_reads.Rows.{rows_are_entries}
use Rattle.run_laws.proofs.index_reads.Sayings.{BeginsAtOne, Same}
use Rattle.run_laws.specs.index_reads.Rows.{SaysSame}
use Rattle.run_holdings.proofs.settled_law.Joins.{settled_each, settled_later}
use Rattle.headline.specs.Settled.{lies_at, settled_entry}
use Rattle.segment_format.specs.declared.segment.Segment.{Segment}
use Rattle.segment_format.specs.Rows.{rows_of}
use Rattle.token_law.specs.Books.{Books, row_in, said}
use Rattle.version_model.specs.History.{Content}
use Rattle.xfs_base.specs.declared.block.BlockId.{BlockId}
use Rattle.xfs_base.specs.declared.entry.Entry.{Entry}
use Rattle.xfs_base.specs.declared.entry.Place.{Place}
use Rattle.xfs_base.specs.declared.segment.SegName.{SegName}
use Rattle.xfs_base.specs.Limits.{block_logs}

module _ (k : Books) (f : Filed) (same : Same k f) (begins : BeginsAtOne k) (b : BlockId) where
  -- a filed segment says the same of the block to both
  module _ (l q : ℕ) (some : 0 < l) (limit : l ≤ block_logs) (from : 0 < q) (to : q ≤ f.head l) where
    abbrev s : Segment
    s = f.segment l q

    there : rows_at f l q ≡ rows_of s
    there = first_of (nat_lt 0 q && nat_le q (f.head l)) (rows_of s) [] (grind (arith, nat_tests))

    says_same : SaysSame s (said k l q b) (row_at f b l q)
    says_same =
        subst (λ xs. SaysSame s (row_in xs b) (row_at f b l q)) (sym (same.books.rows l q some limit from to))
        (subst (λ rows. SaysSame s (row_in (rows_told s.items) b) (join rows b)) (sym there)
        (rows_are_entries s b (same.plain l q some limit from to) (same.filed.each l q from to).versions))

    is_end : q ≤ k.end l
    is_end = let end = same.books.end l some limit in omega arith

    -- what lies where the row says is what the books have
    lies_same : (said k l q b).value ≡ lies_at f (row_at f b l q).place
    lies_same = by (row_at f b l q).place refl
      where
        by : (o : Option Place) → (row_at f b l q).place ≡ o → (said k l q b).value ≡ lies_at f o
        by None nowhere = says_same.absent nowhere
        by (Some place) there =
            let lies = says_same.place place there in
            let its = same.filed.each l q from to in
            let log : place.seg.name.log.0 ≡ l = ap (λ (n : SegName). n.log.0) lies.name ∙ its.log in
            let seq : place.seg.name.seq ≡ q = ap (λ (n : SegName). n.seq) lies.name ∙ its.seq in
            lies.item ∙ sym (ap (λ x. value_at (f.segment x place.seg.name.seq) place.item) log ∙ ap (λ x. value_at (f.segment l x) place.item) seq)

  -- ---- how new it is

  pub settled_upper : (most : ℕ) → ((l q : ℕ) → q ≤ k.end l → (said k l q b).version ≤ most) → (settled_entry f b).ver ≤ most
  settled_upper most each =
      settled_each f b (λ e. e.ver ≤ most) (omega arith)
      (λ l q some limit from to.
      (let version = (says_same l q some limit from to).version in let below = each l q (is_end l q some limit from to) in omega arith))

  -- no segment has number 0
  from_one : (l q : ℕ) → 0 < (said k l q b).version → 0 < q
  from_one l zero some = absurd (let none = ap (λ rows. (row_in rows b).version) (begins l) in omega arith)
  from_one l (suc q) some = omega arith

  pub settled_lower : (l q : ℕ) → 0 < l → l ≤ block_logs → q ≤ k.end l → 0 < (said k l q b).version → (said k l q b).version ≤ (settled_entry f b).ver
  settled_lower l q some limit filed has =
      let from = from_one l q has in
      let to : q ≤ f.head l = (let end = same.books.end l some limit in omega arith) in
      let version = (says_same l q some limit from to).version in
      let later = settled_later f b l q some limit from to in
      omega arith

  -- ---- what lies there

  -- where each filed row of this version has a value of this kind, so has the join where it is of it
  pub settled_value : (C : Content → Type 0) (most : ℕ) → 0 < most → ((l q : ℕ) → q ≤ k.end l → (said k l q b).version ≡ most → C (said k l q b).value)
      → (settled_entry f b).ver ≡ most → C (lies_at f (settled_entry f b).place)
  settled_value C most some each =
      settled_each f b (λ e. e.ver ≡ most → C (lies_at f e.place)) (λ is. absurd (omega arith))
      (λ l q positive limit from to is.
      subst C (lies_same l q positive limit from to)
      (each l q (is_end l q positive limit from to) ((says_same l q positive limit from to).version ∙ is)))

  -- where it is of no version, it lies nowhere
  pub settled_nothing : (settled_entry f b).ver ≡ 0 → lies_at f (settled_entry f b).place ≡ None
  settled_nothing =
      settled_each f b (λ e. e.ver ≡ 0 → lies_at f e.place ≡ None) (λ _. refl)
      (λ l q positive limit from to is. ap (λ (e : Entry). lies_at f e.place) (row_versioned b f l q same.filed is))
