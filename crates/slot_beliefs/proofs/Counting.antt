-- The counts of live blocks follow the index: after each merge the count of a segment is the count from
-- scratch over the places of the rows.
use Rattle.std.proofs.Common.{◌≡◌, ℕ, ◌+◌, ◌-◌, ◌^◌, ◌<◌, ◌≤◌, ◌&&◌, Bool, true, false, cond, nat_le, List, [], ◌∷◌, length, get_or, drop, zero, suc, Option, Some, None, unwrap_or, refl, sym, ap, subst, ◌∙◌, arith}
use Rattle.std.specs.declared.cmp.Ordering.{Ordering}
use Rattle.std.specs.declared.cmp.Ordering.TheVariants.{Less, Equal, Greater}
use Rattle.std.specs.Ordering.{is_eq, match_ordering}
use Rattle.std.specs.List.{AllByRecursion}
use Rattle.std.specs.List.Sorted.{IsStrictlySortedBy}
use Rattle.std.specs.Option.{ForSome}
use Rattle.std.specs.Map.{lookup, keys_of}
use Rattle.std.specs.BTreeMap.{is_at, insert_entry}
use Rattle.std.proofs.lemmas.List.{drop_more}
use Rattle.std.proofs.lemmas.Bool.Decides.{nat_tests}
use Rattle.std.proofs.lemmas.Cmp.{eq_by_cmp_equiv}
use Rattle.xfs_base.specs.declared.block.BlockId.{BlockId}
use Rattle.xfs_base.specs.declared.entry.Entry.{Entry}
use Rattle.xfs_base.specs.declared.segment.SegName.{SegName}
use Rattle.xfs_base.specs.Blocks.{block_cmp}
use Rattle.xfs_base.specs.Segments.{seg_cmp}
use Rattle.xfs_base.proofs.BlockOrder.{block_cmp_total}
use Rattle.delta_index.specs.Entries.{no_entry, is_newer}
use Rattle.delta_index.specs.Index.{entry_of, merged}
use Rattle.usage_table.specs.Counts.{IsTable, count_of, blocks_at, usage_shift}
use Rattle.xfs_base.proofs.Orders.{seg_cmp_total, seg_cmp_exact}
use Rattle.xfs_base.proofs.Sorted.{sorted_insert}
use Rattle.xfs_base.specs.Limits.{u32_end}
use Rattle.usage_table.proofs.Table.{table_after_shift, count_of-usage_shift}
use Rattle.index_pages.specs.Pages.{PagesState, pages_merge, pages_clean}
use Rattle.index_pages.proofs.PlainTable.{rows-pages_merge}
use Rattle.slot_beliefs.specs.Index.{Indexed, block_index_new, pages_of, block_index_clean, IsCounted, segment_of, live_in, moved, block_index_merge, merge_all, can_rise, has_room, Fits}

-- an end that is the segment moves one block at it
one_at : (seg : SegName) → blocks_at (Some seg) seg ≡ 1
one_at seg = ap (λ b. cond b 1 0) ((eq_by_cmp_equiv seg_cmp_total).refl seg)

-- an end that moves a block at a segment is that segment
is_end : (end : Option SegName) (seg : SegName) → 0 < blocks_at end seg → end ≡ Some seg
is_end None seg = λ some. absurd (omega arith)
is_end (Some end) seg = at_end (seg_cmp seg end) refl
  where
    at_end : (o : Ordering) → seg_cmp seg end ≡ o → 0 < cond (is_eq o) 1 0 → Some end ≡ Some seg
    at_end Less _ some = absurd (omega arith)
    at_end Equal same some = ap Some (sym (seg_cmp_exact seg end same))
    at_end Greater _ some = absurd (omega arith)

-- ---- what the rows say

-- the segment of what is held of a block has a live block
pub held_lives : (rows : List (BlockId × Entry)) (block : BlockId) (seg : SegName) → segment_of (entry_of rows block) ≡ Some seg → 0 < live_in seg rows
held_lives [] block seg = λ held. absurd (cc)
held_lives (r ∷ rs) block seg =
    elim (is_at (block_cmp block) r.0) as
    (λ b. segment_of (unwrap_or (cond b (Some r.1) (lookup (is_at (block_cmp block)) rs)) no_entry) ≡ Some seg
    → 0 < blocks_at (segment_of r.1) seg + live_in seg rs) [
      | true ↦ λ held. let one : blocks_at (segment_of r.1) seg ≡ 1 = ap (λ end. blocks_at end seg) held ∙ one_at seg in omega arith
      | false ↦ λ held. let rest : 0 < live_in seg rs = held_lives rs block seg held in omega arith
    ]

-- nothing is held of a block that is below all rows
none_below : (block : BlockId) (rows : List (BlockId × Entry)) → AllByRecursion (λ y. block_cmp block y ≡ Less) (keys_of rows)
    → lookup (is_at (block_cmp block)) rows ≡ None
none_below block [] below = refl
none_below block (r ∷ rs) below = ap (λ o. cond (is_eq o) (Some r.1) (lookup (is_at (block_cmp block)) rs)) below.0 ∙ none_below block rs below.1

below_rest : (block next : BlockId) (ks : List BlockId) → block_cmp block next ≡ Less → AllByRecursion (λ y. block_cmp next y ≡ Less) ks
    → AllByRecursion (λ y. block_cmp block y ≡ Less) ks
below_rest block next [] less below = tt
below_rest block next (k ∷ ks) less below = (block_cmp_total.trans block next k less below.0, below_rest block next ks less below.1)

-- an entry that is put in lives in its segment, and what it replaces no longer does
live_in-insert : (seg : SegName) (block : BlockId) (entry : Entry) (rows : List (BlockId × Entry)) → IsStrictlySortedBy block_cmp (keys_of rows)
    → live_in seg (insert_entry block_cmp rows block entry) + blocks_at (segment_of (entry_of rows block)) seg ≡ live_in seg rows + blocks_at
    (segment_of entry) seg
unfolding IsStrictlySortedBy
live_in-insert seg block entry [] sorted = omega arith
live_in-insert seg block entry (r ∷ rs) sorted =
    let at : Option Entry → ℕ = λ o. blocks_at (segment_of (unwrap_or o no_entry)) seg in
    let rest = lookup (is_at (block_cmp block)) rs in
    elim (block_cmp block r.0) as (λ o. block_cmp block r.0 ≡ o
    → live_in seg (match_ordering o ((block, entry) ∷ r ∷ rs) ((r.0, entry) ∷ rs) (r ∷ insert_entry block_cmp rs block entry)) + at
    (cond (is_eq o) (Some r.1) rest)
    ≡ live_in seg (r ∷ rs) + blocks_at (segment_of entry) seg) [
      | Less ↦ λ less. let none : at rest ≡ 0 = ap at (none_below block rs (below_rest block r.0 (keys_of rs) less sorted.0)) in omega arith
      | Equal ↦ λ _. omega arith
      | Greater ↦ λ _. let more : live_in seg (insert_entry block_cmp rs block entry) + at rest ≡ live_in seg rs + blocks_at (segment_of entry) seg =
          live_in-insert seg block entry rs sorted.1 in omega arith
    ] refl

-- ---- one merge

pub held_counted : (i : Indexed) → IsCounted i → (block : BlockId) → ForSome (segment_of (entry_of i.rows block)) (λ seg. 0 < count_of i.usage seg)
held_counted i counted block = λ seg fact. subst (λ n. 0 < n) (sym (counted.counted seg)) (held_lives i.rows block seg fact)

pub keeps-counted : (i : Indexed) (m : BlockId × Entry) → IsCounted i → IsCounted (block_index_merge i m)
unfolding block_index_merge merged
keeps-counted i m counted =
    let held = segment_of (entry_of i.rows m.0) in
    let to = segment_of m.1 in
    let paged = pages_merge (pages_of i) m.0 m.1 in
    elim (is_newer m.1 (entry_of i.rows m.0)) as
    (λ b. IsCounted
    (record { rows = cond b (insert_entry block_cmp i.rows m.0 m.1) i.rows; usage = moved b i.usage held to; numbers = paged.numbers; pages = paged.pages })) [
      | true ↦ record {
        sorted = sorted_insert block_cmp block_cmp_total m.0 m.1 i.rows counted.sorted;
        table = table_after_shift i.usage held to counted.table;
        counted = λ seg.
            let shifted : count_of (usage_shift i.usage held to) seg + blocks_at held seg ≡ count_of i.usage seg + blocks_at to seg =
            count_of-usage_shift i.usage held to seg counted.table (held_counted i counted m.0) in
            let lives : live_in seg (insert_entry block_cmp i.rows m.0 m.1) + blocks_at held seg ≡ live_in seg i.rows + blocks_at to seg =
            live_in-insert seg m.0 m.1 i.rows counted.sorted in
            let was : count_of i.usage seg ≡ live_in seg i.rows = counted.counted seg in
            omega arith;
      }
      | false ↦ record { sorted = counted.sorted; table = counted.table; counted = counted.counted }
    ]

-- a count rises by no more than the block that came
grown : (i : Indexed) (m : BlockId × Entry) → IsCounted i → (seg : SegName)
    → count_of (block_index_merge i m).usage seg ≤ count_of i.usage seg + blocks_at (segment_of m.1) seg
unfolding block_index_merge
grown i m counted seg =
    let held = segment_of (entry_of i.rows m.0) in
    let to = segment_of m.1 in
    elim (is_newer m.1 (entry_of i.rows m.0)) as (λ b. count_of (moved b i.usage held to) seg ≤ count_of i.usage seg + blocks_at to seg) [
      | true ↦ let shifted : count_of (usage_shift i.usage held to) seg + blocks_at held seg ≡ count_of i.usage seg + blocks_at to seg =
          count_of-usage_shift i.usage held to seg counted.table (held_counted i counted m.0) in omega arith
      | false ↦ omega arith
    ]

-- ---- room for all

pub fits_more : (i : Indexed) (m : BlockId × Entry) (ms : List (BlockId × Entry)) → IsCounted i → Fits i.usage (m ∷ ms) → Fits (block_index_merge i m).usage ms
fits_more i m ms counted fits = λ seg some.
    let room : count_of i.usage seg + (blocks_at (segment_of m.1) seg + live_in seg ms) < 2 ^ 32 = fits seg (omega arith) in
    let more : count_of (block_index_merge i m).usage seg ≤ count_of i.usage seg + blocks_at (segment_of m.1) seg = grown i m counted seg in
    omega arith

-- no segment has more of the rows than there are
pub live_in-limit : (seg : SegName) (rows : List (BlockId × Entry)) → live_in seg rows ≤ length rows
live_in-limit seg [] = omega arith
live_in-limit seg (r ∷ rs) =
    let rest : live_in seg rs ≤ length rs = live_in-limit seg rs in
    let one : blocks_at (segment_of r.1) seg ≤ 1 = at_most_one (segment_of r.1) in
    omega arith
  where
    at_most_one : (end : Option SegName) → blocks_at end seg ≤ 1
    at_most_one None = omega arith
    at_most_one (Some end) = elim (is_eq (seg_cmp seg end)) as (λ b. cond b 1 0 ≤ 1) [ true ↦ omega arith | false ↦ omega arith ]

both : (b c : Bool) → b && c ≡ true → (b ≡ true) × (c ≡ true)
both true c h = (refl, h)
both false c h = absurd (cc)

-- the count of each segment of the rows can rise by so many
can_rise-at : (more : ℕ) (usage : List (SegName × ℕ)) (rows : List (BlockId × Entry)) (seg : SegName) → has_room more usage rows ≡ true → 0 < live_in seg rows
    → more ≤ u32_end - count_of usage seg
can_rise-at more usage [] seg room some = absurd (omega arith)
can_rise-at more usage (r ∷ rs) seg room some =
    let halves = both (can_rise more usage (segment_of r.1)) (has_room more usage rs) room in
    at_row (blocks_at (segment_of r.1) seg) refl (can_rise-at more usage rs seg halves.1)
  where
    at_row : (n : ℕ) → blocks_at (segment_of r.1) seg ≡ n → (0 < live_in seg rs → more ≤ u32_end - count_of usage seg)
        → more ≤ u32_end - count_of usage seg
    at_row zero none rest = rest (omega arith)
    at_row (suc n) one rest =
        let can : nat_le more (u32_end - count_of usage seg) ≡ true =
        sym (ap (can_rise more usage) (is_end (segment_of r.1) seg (omega arith)))
        ∙ (both (can_rise more usage (segment_of r.1)) (has_room more usage rs) room).0 in
        grind (arith, nat_tests)

pub room_fits : (usage : List (SegName × ℕ)) (rows : List (BlockId × Entry)) → has_room (length rows) usage rows ≡ true → Fits usage rows
room_fits usage rows room = λ seg some.
    let can : length rows ≤ u32_end - count_of usage seg = can_rise-at (length rows) usage rows seg room some in
    let limit : live_in seg rows ≤ length rows = live_in-limit seg rows in
    omega arith

-- ---- from nothing, and over all

pub nothing_counted : IsCounted block_index_new
unfolding IsStrictlySortedBy
nothing_counted = record {
  sorted = tt;
  table = record { sorted = tt; above_0 = λ k d within. absurd (omega arith) };
  counted = λ seg. refl;
}

pub keeps-counted-all : (i : Indexed) (rows : List (BlockId × Entry)) → IsCounted i → IsCounted (merge_all i rows)
keeps-counted-all i [] counted = counted
keeps-counted-all i (m ∷ ms) counted = keeps-counted-all (block_index_merge i m) ms (keeps-counted i m counted)

-- ---- the two ways of the code

-- the index that has these pages and counts
abbrev pub shown : PagesState → List (SegName × ℕ) → Indexed
shown p usage = record { rows = p.rows; usage = usage; numbers = p.numbers; pages = p.pages }

-- counts are right for the rows, whatever the pages are
same_rows : (i j : Indexed) → j.rows ≡ i.rows → j.usage ≡ i.usage → IsCounted i → IsCounted j
same_rows i j rows usage counted = record {
  sorted = subst (λ r. IsStrictlySortedBy block_cmp (keys_of r)) (sym rows) counted.sorted;
  table = subst IsTable (sym usage) counted.table;
  counted = λ seg. ap (λ u. count_of u seg) usage ∙ counted.counted seg ∙ ap (live_in seg) (sym rows);
}

-- the pages with an entry merged, and the counts that follow, are the index with it
is_indexed : (i : Indexed) (m : BlockId × Entry) (p : PagesState) (usage : List (SegName × ℕ)) → p ≡ pages_merge (pages_of i) m.0 m.1
    → usage ≡ moved (is_newer m.1 (entry_of i.rows m.0)) i.usage (segment_of (entry_of i.rows m.0)) (segment_of m.1) → shown p usage ≡ block_index_merge i m
unfolding block_index_merge
is_indexed i m p usage same follows =
    let rows : p.rows ≡ merged i.rows m.0 m.1 = ap (λ (q : PagesState). q.rows) same ∙ rows-pages_merge (pages_of i) m.0 m.1 in
    λ k. record { rows = rows k; usage = follows k; numbers = (same k).numbers; pages = (same k).pages }

-- the pages, cleaned, and the counts are the index, cleaned
pub cleaned_indexed : (i : Indexed) (p : PagesState) → p ≡ pages_clean (pages_of i) → shown p i.usage ≡ block_index_clean i
unfolding pages_clean
cleaned_indexed i p same = λ k. record { rows = (same k).rows; usage = i.usage; numbers = (same k).numbers; pages = (same k).pages }

-- the pages of an index follow it
pub pages-block_index_merge : (i : Indexed) (m : BlockId × Entry) → pages_of (block_index_merge i m) ≡ pages_merge (pages_of i) m.0 m.1
pages-block_index_merge i m =
    sym (ap pages_of
    (is_indexed i m (pages_merge (pages_of i) m.0 m.1)
    (moved (is_newer m.1 (entry_of i.rows m.0)) i.usage (segment_of (entry_of i.rows m.0)) (segment_of m.1)) refl refl))

pub pages-pages_clean : (i : Indexed) → pages_of (block_index_clean i) ≡ pages_clean (pages_of i)
pages-pages_clean i = sym (ap pages_of (cleaned_indexed i (pages_clean (pages_of i)) refl))

pub kept_indexed : (i : Indexed) (m : BlockId × Entry) (p : PagesState) → is_newer m.1 (entry_of i.rows m.0) ≡ false → p ≡ pages_merge (pages_of i) m.0 m.1
    → shown p i.usage ≡ block_index_merge i m
kept_indexed i m p old same =
    is_indexed i m p i.usage same (sym (ap (λ b. moved b i.usage (segment_of (entry_of i.rows m.0)) (segment_of m.1)) old))

pub put_indexed : (i : Indexed) (m : BlockId × Entry) (p : PagesState) (usage : List (SegName × ℕ)) → is_newer m.1 (entry_of i.rows m.0) ≡ true
    → p ≡ pages_merge (pages_of i) m.0 m.1
    → usage ≡ usage_shift i.usage (segment_of (entry_of i.rows m.0)) (segment_of m.1) → shown p usage ≡ block_index_merge i m
put_indexed i m p usage newer same follows =
    is_indexed i m p usage same (follows ∙ sym (ap (λ b. moved b i.usage (segment_of (entry_of i.rows m.0)) (segment_of m.1)) newer))

pub counted_as : (i : Indexed) (m : BlockId × Entry) (p : PagesState) (usage : List (SegName × ℕ)) → IsCounted i → shown p usage ≡ block_index_merge i m
    → IsCounted (shown p usage)
counted_as i m p usage counted same = subst IsCounted (sym same) (keeps-counted i m counted)

-- cleaned pages have the same rows
pub counted_clean : (i : Indexed) (p : PagesState) → p ≡ pages_clean (pages_of i) → IsCounted i → IsCounted (shown p i.usage)
unfolding pages_clean
counted_clean i p same = same_rows i (shown p i.usage) (ap (λ (q : PagesState). q.rows) same) refl

pub fits_next : (i j : Indexed) (rows : List (BlockId × Entry)) (k : ℕ) (d : BlockId × Entry) → IsCounted i → j ≡ block_index_merge i (get_or rows k d) → k < length rows
    → Fits i.usage (drop k rows) → Fits j.usage (drop (k + 1) rows)
fits_next i j rows k d counted next here fits =
    subst (λ (n : Indexed). Fits n.usage (drop (k + 1) rows)) (sym next)
    (fits_more i (get_or rows k d) (drop (k + 1) rows) counted (subst (Fits i.usage) (drop_more rows k d here) fits))
