-- Rows that are put onto pages: what a slot's index has after Deltas, and how its pages stand to its last checkpoint then.
use Rattle.std.proofs.Common.{◌≡◌, ◌^◌, ◌<◌, ℕ, List, [], ◌∷◌, ◌++◌, Some, refl, sym, ap, ◌∙◌}
use Rattle.xfs_base.specs.declared.segment.SegRef.{SegRef}
use Rattle.xfs_base.proofs.Alls.{all_append}
use Rattle.checkpoint.specs.Laws.{Event, Checkpointed, nothing_checkpointed, after_event, after_events, slot_after, AllMayCome}
use Rattle.checkpoint.specs.Laws.Event.{Merged}
use Rattle.checkpoint.specs.WriterState.{Rows, WorkState}
use Rattle.index_pages.specs.Pages.{PagesState, pages_merge, pages_clean}
use Rattle.index_tie.specs.Net.{Net}
use Rattle.slot_beliefs.specs.Index.{Indexed, block_index_new, pages_of, block_index_merge, merge_all}
use Rattle.slot_beliefs.proofs.Counting.{pages-block_index_merge}
use Rattle.node_slots.specs.node_index_tie.Pages.{put_all, checkpointed, Desk, IsWork, Paged, WorkSeen}
use Rattle.node_slots.specs.node_index_tie.Pages.Paged.{Covered, Written, Ended}
use Rattle.node_slots.specs.node_index_tie.Sight.{held_in, RowsFit}
use Rattle.headline.specs.Filed.{Texts}
use Rattle.node_slots.proofs.node_index_tie.Moves.{Grows}

-- ---- the pages of an index

pub pages-merge_all : (i : Indexed) (ms : Rows) → pages_of (merge_all i ms) ≡ put_all (pages_of i) ms
pages-merge_all i [] = refl
pages-merge_all i (m ∷ ms) = pages-merge_all (block_index_merge i m) ms ∙ ap (λ (p : PagesState). put_all p ms) (pages-block_index_merge i m)

pub put_all-append : (p : PagesState) (xs ys : Rows) → put_all p (xs ++ ys) ≡ put_all (put_all p xs) ys
put_all-append p [] ys = refl
put_all-append p (x ∷ xs) ys = put_all-append (pages_merge p x.0 x.1) xs ys

-- ---- events of a slot that is checkpointed

abbrev pub merges : Rows → List Event
merges [] = []
merges (row ∷ rows) = Merged row.0 row.1 ∷ merges rows

pub after_both : (k : Checkpointed) (xs ys : List Event) → after_events k (xs ++ ys) ≡ after_events (after_events k xs) ys
after_both k [] ys = refl
after_both k (x ∷ xs) ys = after_both (after_event k x) xs ys

pub may_both : (holds : SegRef → Rows) (k : Checkpointed) (xs ys : List Event) → AllMayCome holds k xs → AllMayCome holds (after_events k xs) ys
    → AllMayCome holds k (xs ++ ys)
may_both holds k [] ys h more = more
may_both holds k (x ∷ xs) ys h more = (h.0, may_both holds (after_event k x) xs ys h.1 more)

pub after_merges : (k : Checkpointed) (rows : Rows) → after_events k (merges rows) ≡ checkpointed (put_all k.pages rows) k.parts
after_merges k [] = refl
after_merges k (row ∷ rows) = after_merges (after_event k (Merged row.0 row.1)) rows

pub may_merges : (holds : SegRef → Rows) (k : Checkpointed) (rows : Rows) → RowsFit rows → AllMayCome holds k (merges rows)
may_merges holds k [] fit = tt
may_merges holds k (row ∷ rows) fit = (fit.0, may_merges holds (after_event k (Merged row.0 row.1)) rows fit.1)

module _ (part : ℕ) (texts : Texts) where
  -- rows are put onto the pages of a slot
  pub paged_put : (n : Net) (desk : Desk) (epoch : ℕ) (pages : PagesState) (parts : List SegRef) (rows : Rows) → RowsFit rows
      → Paged part texts n desk epoch pages parts
      → Paged part texts n desk epoch (put_all pages rows) parts
  paged_put n desk epoch pages parts rows fit (Covered events may fact none) =
      Covered (events ++ merges rows) (may_both (held_in part texts) nothing_checkpointed events (merges rows) may
      (may_merges (held_in part texts) (slot_after events) rows fit))
      (after_both nothing_checkpointed events (merges rows) ∙ after_merges (slot_after events) rows ∙ ap
      (λ (k : Checkpointed). checkpointed (put_all k.pages rows) k.parts) fact) none
  paged_put n desk epoch pages parts rows fit (Written events w before there of at work fits fact) =
      Written events w (before ++ rows) there of at work (all_append (λ row. row.0.blk < 2 ^ 32) before rows fits fit)
      (ap (λ (p : PagesState). put_all p rows) fact ∙ sym (put_all-append (pages_clean (slot_after events).pages) before rows))
  paged_put n desk epoch pages parts rows fit (Ended number none) = Ended number none

  -- a slot that a takeover hands out, before its first checkpoint
  pub paged_first : (n : Net) (desk : Desk) (epoch : ℕ) (rows : Rows) → RowsFit rows
      → ((w : WorkState) → desk.writer.work ≡ Some w → w.slot ≡ part → w.epoch ≡ epoch → ⊥)
      → Paged part texts n desk epoch (pages_of (merge_all block_index_new rows)) []
  paged_first n desk epoch rows fit none =
      Covered (merges rows) (may_merges (held_in part texts) nothing_checkpointed rows fit)
      (after_merges nothing_checkpointed rows ∙ ap (λ (p : PagesState). checkpointed p []) (sym (pages-merge_all block_index_new rows))) none

  -- ---- the small world goes on

  pub work_on : (n m : Net) (g : Grows n m) (desk : Desk) (events : List Event) (w : WorkState) → IsWork part texts n desk events w
      → IsWork part texts m desk events w
  work_on n m g desk events w k = record {
    planned = g.sent _ k.planned;
    begun = λ none. k.begun (g.stay w.epoch none);
    may = k.may;
    segments = k.segments;
    parts = k.parts;
    rows = k.rows;
    flies = k.flies;
  }

  pub paged_on : (n m : Net) (g : Grows n m) (desk : Desk) (epoch : ℕ) (pages : PagesState) (parts : List SegRef) → Paged part texts n desk epoch pages parts
      → Paged part texts m desk epoch pages parts
  paged_on n m g desk epoch pages parts (Covered events may fact none) = Covered events may fact none
  paged_on n m g desk epoch pages parts (Written events w rows there of at work fits fact) = Written events w rows there of at
      (work_on n m g desk events w work) fits fact
  paged_on n m g desk epoch pages parts (Ended number none) = Ended number none

  pub seen_on : (n m : Net) (g : Grows n m) (desk : Desk) (w : WorkState) → WorkSeen part texts n desk w → WorkSeen part texts m desk w
  seen_on n m g desk w k = record { events = k.events; as_planned = work_on n m g desk k.events w k.as_planned }
