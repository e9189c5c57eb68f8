-- Where an entry that is told says that a block lies, a filed segment says so, and the books have the value that lies there.
use Rattle.std.proofs.Common.{◌≡◌, ◌<◌, ◌≤◌, inl, inr, ℕ, Bool, true, false, nat_lt, None, Some, refl, sym, ap, subst, ◌∙◌, arith, ◌&&◌, nat_le, List, []}
use Rattle.xfs_base.proofs.Booleans.{by_test}
use Rattle.std.specs.Prelude.{Contains}
use Rattle.std.proofs.lemmas.Bool.Decides.{nat_tests}
use Rattle.client_call.specs.Reads.{value_at}
use Rattle.node_tellings.specs.entry_tie.Told.{told_by_rows}
use Rattle.run_laws.proofs.index_reads.Rows.{deltas_are_said, rows_are_entries}
use Rattle.run_laws.specs.index_reads.Rows.{IsPlain, SaysSame}
use Rattle.run_laws.specs.index_reads.Ties.{ArePlain, BooksAre}
use Rattle.index_tie.proofs.Rows.{by_filed}
use Rattle.index_tie.specs.Filed.{IsFiled}
use Rattle.headline.specs.Filed.{Filed, IsSegment, rows_at}
use Rattle.node_slots.specs.node_tie.LogRows.{rows_told}
use Rattle.segment_format.specs.declared.segment.Segment.{Segment}
use Rattle.segment_format.specs.Rows.{rows_of}
use Rattle.token_law.specs.Books.{Books, row_in, said}
use Rattle.xfs_base.specs.declared.block.BlockId.{BlockId}
use Rattle.xfs_base.specs.declared.entry.Entry.{Entry}
use Rattle.xfs_base.specs.declared.entry.Place.{Place}
use Rattle.xfs_base.specs.declared.segment.SegName.{SegName}
use Rattle.xfs_base.specs.Limits.{block_logs}

-- a log that files has a number from 1 to 9
pub one_of_nine : (f : Filed) → IsFiled f → (l q : ℕ) → 0 < q → q ≤ f.head l → (0 < l) × (l ≤ block_logs)
one_of_nine f filed l q some limit = (least (nat_lt 0 l) refl, greatest (nat_lt block_logs l) refl)
  where
    least : (t : Bool) → nat_lt 0 l ≡ t → 0 < l
    least true fact = grind (arith, nat_tests)
    least false fact = absurd (let zero_is : l ≡ 0 = grind (arith, nat_tests) in let none = filed.others l (inl zero_is) in omega arith)

    greatest : (t : Bool) → nat_lt block_logs l ≡ t → l ≤ block_logs
    greatest true fact = absurd (let over : block_logs < l = grind (arith, nat_tests) in let none = filed.others l (inr over) in omega arith)
    greatest false fact = grind (arith, nat_tests)

-- what is filed at a number is what its segment says
pub rows_there : (f : Filed) (l q : ℕ) → 0 < q → q ≤ f.head l → rows_at f l q ≡ rows_of (f.segment l q)
rows_there f l q some limit =
    by_test (λ (rows : List (BlockId × Entry)). rows ≡ rows_of (f.segment l q)) (nat_lt 0 q && nat_le q (f.head l)) (rows_of (f.segment l q)) [] (λ _. refl)
    (λ t. absurd (clash q (f.head l) some limit t))
  where
    clash : (q h : ℕ) → 0 < q → q ≤ h → (nat_lt 0 q && nat_le q h) ≡ false → ⊥
    clash q h a b t = grind (arith, nat_tests)

module _ (f : Filed) (k : Books) (b : BlockId) (e : Entry) (place : Place) where
  -- The log has filed a segment at this number, under the name of the place and in its group; that says the entry of the block, and the books have its version
  -- there, and the value of the item that the place names.
  pub record LiesAt (l q : ℕ) : Type 0 where
    pub some : 0 < q
    pub limit : q ≤ f.head l
    pub nine : (0 < l) × (l ≤ block_logs)
    pub says : Contains (rows_of (f.segment l q)) (b, e)
    pub name : place.seg.name ≡ (f.segment l q).name
    pub group : place.seg.group ≡ (f.segment l q).group
    pub filed : q ≤ k.end l
    pub version : (said k l q b).version ≡ e.ver
    pub value : (said k l q b).value ≡ value_at (f.segment l q) place.item

  module _ (filed : IsFiled f) (books : BooksAre k f) (plain : ArePlain f) (at : e.place ≡ Some place) where
    said_at : (l q : ℕ) → 0 < q → q ≤ f.head l → Contains (rows_of (f.segment l q)) (b, e) → LiesAt l q
    said_at l q some limit has =
        let nine = one_of_nine f filed l q some limit in
        let s : Segment = f.segment l q in
        let its : IsSegment l q s = filed.each l q some limit in
        let is_plain : IsPlain s = plain l q nine.0 nine.1 some limit in
        let row : SaysSame s (row_in (rows_told s.items) b) e =
        subst (SaysSame s (row_in (rows_told s.items) b)) (deltas_are_said s b e is_plain its.versions has) (rows_are_entries s b is_plain its.versions) in
        let rows : k.rows l q ≡ rows_told s.items = books.rows l q nine.0 nine.1 some limit in
        record {
          some = some;
          limit = limit;
          nine = nine;
          says = has;
          name = (row.place place at).name;
          group = (row.place place at).group;
          filed = (let end = books.end l nine.0 nine.1 in omega arith);
          version = ap (λ rs. (row_in rs b).version) rows ∙ row.version;
          value = ap (λ rs. (row_in rs b).value) rows ∙ (row.place place at).item;
        }

    -- so it is at the log and the number that the place names
    there : (l q : ℕ) → LiesAt l q → LiesAt place.seg.name.log.0 place.seg.name.seq
    there l q h =
        let its : IsSegment l q (f.segment l q) = filed.each l q h.some h.limit in
        let log : l ≡ place.seg.name.log.0 = sym (ap (λ (n : SegName). n.log.0) h.name ∙ its.log) in
        let seq : q ≡ place.seg.name.seq = sym (ap (λ (n : SegName). n.seq) h.name ∙ its.seq) in
        subst (λ x. LiesAt x place.seg.name.seq) log (subst (LiesAt l) seq h)

    pub lies_there : told_by_rows (rows_at f) b e → LiesAt place.seg.name.log.0 place.seg.name.seq
    lies_there (inr none) = absurd (nothing (sym (ap (λ (x : Entry). x.place) none) ∙ at))
      where
        nothing : None ≡ Some place → ⊥
        nothing h = absurd (cc)
    lies_there (inl h) =
        there h.log h.seq
        (by_filed (λ rows. Contains rows (b, e) → LiesAt h.log h.seq) f h.log h.seq (λ some limit has. said_at h.log h.seq some limit has)
        (λ has. absurd (let less = has.1 in omega arith)) h.says)
