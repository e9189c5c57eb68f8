-- The parts that a slot's last checkpoint names hold what its index holds, but for the pages on which
-- something was put since; and there they hold nothing that is above it.
use Rattle.std.proofs.Common.{◌≡◌, ◌^◌, ◌<◌, Bool, true, false, cond, ◌||◌, List, [], ◌∷◌, ◌++◌, ◌⊎◌, inl, inr, filter, map, length, refl, sym, ap, ◌∙◌, subst}
use Rattle.std.specs.List.{list_any}
use Rattle.std.proofs.lemmas.List.Folds.{list_any-append}
use Rattle.xfs_base.specs.declared.block.BlockId.{BlockId}
use Rattle.xfs_base.specs.declared.entry.Entry.{Entry}
use Rattle.xfs_base.specs.declared.segment.SegRef.{SegRef}
use Rattle.xfs_base.specs.Blocks.{same_block}
use Rattle.xfs_base.proofs.BlockOrder.{same_block_exact, same_block_itself}
use Rattle.xfs_base.proofs.Booleans.{contrary, by_test, or_first, or_second}
use Rattle.delta_index.specs.Entries.{no_entry, is_newer, first_greatest}
use Rattle.delta_index.specs.Index.{entry_of}
use Rattle.delta_index.specs.Join.{join}
use Rattle.delta_index.proofs.EntryAlgebra.{is_newer-trans, newer_than_none, first_greatest-none, first_greatest-itself, first_greatest-newer}
use Rattle.delta_index.proofs.JoinAlgebra.{join-append}
use Rattle.index_pages.specs.declared.layout.Page.{Page}
use Rattle.index_pages.specs.Layout.{first_block}
use Rattle.index_pages.specs.Pages.{put, pages_merge, pages_clean, all_rows, changed_rows}
use Rattle.index_pages.specs.Calls.{with_first, page_with}
use Rattle.index_pages.proofs.Numbering.{IsNumbered, kept_put, kept_clean, none_numbered}
use Rattle.index_pages.proofs.PlainTable.{entry_of-insert, rows-put}
use Rattle.checkpoint.specs.declared.plan.Plan.{Plan}
use Rattle.checkpoint.specs.Plan.{writes_all, plan_of}
use Rattle.checkpoint.specs.WriterState.{Rows}
use Rattle.checkpoint.specs.Laws.{rows_of, rows_in, Checkpointed, nothing_checkpointed, Event, after_event, after_events, slot_after, MayCome, AllMayCome}
use Rattle.checkpoint.specs.Laws.Event.{Merged, Written}
use Rattle.checkpoint.proofs.Holding.{rows_in-append}
use Rattle.checkpoint.proofs.PageRows.{on_page, its_page, its_changed_page, join-pages}

-- whether one of these blocks is on a block's page
abbrev is_put_on : List BlockId → BlockId → Bool
is_put_on blocks q = list_any (λ b. same_block (first_block b) (first_block q)) blocks

-- nothing is held of a block, or its page was begun
abbrev IsKnown : Checkpointed → List BlockId → BlockId → Type 0
IsKnown k firsts q = (entry_of k.pages.rows q ≡ no_entry) ⊎ ((list_any (same_block (first_block q)) firsts ≡ true) × (q.blk < 2 ^ 32))

-- what the parts hold of a block isn't above what the index holds, and is that where nothing was put on its page
record Covers (joined was : Entry) (put_on : Bool) : Type 0 where
  below : first_greatest joined was ≡ was
  same : put_on ≡ false → joined ≡ was

record IsCovered (holds : SegRef → Rows) (k : Checkpointed) : Type 0 where
  -- the pages by their first blocks, and the blocks at which something was put since the last clean
  firsts : List BlockId
  blocks : List BlockId
  numbered : IsNumbered k.pages firsts blocks
  known : (q : BlockId) → IsKnown k firsts q
  held : (q : BlockId) → first_greatest no_entry (entry_of k.pages.rows q) ≡ entry_of k.pages.rows q
  parts : (k.parts ≡ []) ⊎ ((q : BlockId) → Covers (join (rows_in holds k.parts) q) (entry_of k.pages.rows q) (is_put_on blocks q))

-- ---- what is written

abbrev is_changed : Page → Bool
is_changed page = page.changed

cond_none : (t : Bool) (e : Entry) → e ≡ no_entry → cond t e no_entry ≡ e
cond_none true e fact = refl
cond_none false e fact = sym fact

module _ (holds : SegRef → Rows) (k : Checkpointed) (c : IsCovered holds k) (q : BlockId) where
  abbrev now_held : Entry
  now_held = entry_of k.pages.rows q

  -- whether the block's page is among those that changed
  abbrev found : Bool
  found = list_any (on_page q) (filter is_changed k.pages.pages)

  their_pages : k.pages.pages ≡ map (page_with c.blocks) c.firsts
  their_pages = c.numbered.pages

  all_join : join (rows_of (all_rows k.pages)) q ≡ now_held
  all_join = join-pages k.pages.rows q (c.held q) k.pages.pages ∙ at_known (c.known q)
    where
      at_known : IsKnown k c.firsts q → cond (list_any (on_page q) k.pages.pages) now_held no_entry ≡ now_held
      at_known (inl none) = cond_none (list_any (on_page q) k.pages.pages) now_held none
      at_known (inr (begun, fits)) =
          ap (λ t. cond t now_held no_entry) (ap (list_any (on_page q)) their_pages ∙ its_page q c.blocks c.firsts fits begun)

  -- the changed pages on what the parts hold
  changed_join : Covers (join (rows_in holds k.parts) q) now_held (is_put_on c.blocks q)
      → first_greatest (join (rows_in holds k.parts) q) (join (rows_of (changed_rows k.pages)) q) ≡ now_held
  changed_join v =
      ap (first_greatest (join (rows_in holds k.parts) q)) (join-pages k.pages.rows q (c.held q) (filter is_changed k.pages.pages)) ∙ at_known (c.known q)
    where
      unchanged : (t : Bool) → join (rows_in holds k.parts) q ≡ now_held → first_greatest (join (rows_in holds k.parts) q) (cond t now_held no_entry) ≡ now_held
      unchanged true fact = v.below
      unchanged false fact = first_greatest-none (join (rows_in holds k.parts) q) ∙ fact

      at_known : IsKnown k c.firsts q → first_greatest (join (rows_in holds k.parts) q) (cond found now_held no_entry) ≡ now_held
      at_known (inl none) = ap (first_greatest (join (rows_in holds k.parts) q)) (cond_none found now_held none) ∙ v.below
      at_known (inr (begun, fits)) =
          elim (is_put_on c.blocks q) as
          (λ t. is_put_on c.blocks q ≡ t → first_greatest (join (rows_in holds k.parts) q) (cond found now_held no_entry) ≡ now_held) [
            | true ↦ λ on.
                let there : found ≡ true =
                ap (λ ps. list_any (on_page q) (filter is_changed ps)) their_pages
                ∙ its_changed_page q c.blocks c.firsts fits on begun in
                ap (λ t. first_greatest (join (rows_in holds k.parts) q) (cond t now_held no_entry)) there ∙ v.below
            | false ↦ λ off. unchanged found (v.same off)
          ] refl

  written_joins : (segments : List SegRef) → rows_in holds segments ≡ rows_of (plan_of k.pages k.parts).pages
      → join (rows_in holds ((plan_of k.pages k.parts).parts ++ segments)) q ≡ now_held
  written_joins segments =
      let anew : Plan = record { pages = all_rows k.pages; parts = [] } in
      let more : Plan = record { pages = changed_rows k.pages; parts = k.parts } in
      elim (writes_all (length k.parts)) as
      (λ t. writes_all (length k.parts) ≡ t → rows_in holds segments ≡ rows_of (cond t anew more).pages
      → join (rows_in holds ((cond t anew more).parts ++ segments)) q ≡ now_held) [
        | true ↦ λ _ laid. ap (λ r. join r q) laid ∙ all_join
        | false ↦ λ few laid. at_parts few laid c.parts
      ] refl
    where
      at_parts : writes_all (length k.parts) ≡ false → rows_in holds segments ≡ rows_of (changed_rows k.pages)
          → (k.parts ≡ []) ⊎ ((b : BlockId) → Covers (join (rows_in holds k.parts) b) (entry_of k.pages.rows b) (is_put_on c.blocks b))
          → join (rows_in holds (k.parts ++ segments)) q ≡ now_held
      at_parts few laid (inl none) = contrary (sym few ∙ ap (λ (ps : List SegRef). writes_all (length ps)) none)
      at_parts few laid (inr covers) =
          ap (λ r. join r q) (rows_in-append holds k.parts segments) ∙ join-append (rows_in holds k.parts) (rows_in holds segments) q
          ∙ ap (λ r. first_greatest (join (rows_in holds k.parts) q) (join r q)) laid ∙ changed_join (covers q)

-- ---- each event

covered_written : (holds : SegRef → Rows) (k : Checkpointed) (segments : List SegRef) → rows_in holds segments ≡ rows_of (plan_of k.pages k.parts).pages
    → IsCovered holds k → IsCovered holds (after_event k (Written segments))
unfolding pages_clean
covered_written holds k segments laid c =
    record {
      firsts = c.firsts;
      blocks = [];
      numbered = kept_clean k.pages c.firsts c.blocks c.numbered;
      known = c.known;
      held = c.held;
      parts = inr (λ q.
          let joined = written_joins holds k c q segments laid in
          record { below = ap (λ j. first_greatest j (entry_of k.pages.rows q)) joined ∙ first_greatest-itself (entry_of k.pages.rows q); same = λ _. joined });
    }

-- what isn't above the entry held isn't above a newer one
rises : (joined old entry : Entry) → first_greatest joined old ≡ old → is_newer entry old ≡ true → first_greatest joined entry ≡ entry
rises joined old entry below newer =
    elim (is_newer old joined) as (λ t. is_newer old joined ≡ t → cond t old joined ≡ old → first_greatest joined entry ≡ entry) [
      | true ↦ λ p _. first_greatest-newer joined entry (is_newer-trans joined old entry p newer)
      | false ↦ λ _ fact. first_greatest-newer joined entry (subst (λ x. is_newer entry x ≡ true) (sym fact) newer)
    ] refl below

module _ (holds : SegRef → Rows) (k : Checkpointed) (c : IsCovered holds k) (block : BlockId) (entry : Entry) (fits : block.blk < 2 ^ 32)
    (newer : is_newer entry (entry_of k.pages.rows block) ≡ true) where
  abbrev firsts : List BlockId
  firsts = c.firsts

  abbrev was : BlockId → Entry
  was q = entry_of k.pages.rows q

  -- what is held once the entry is put
  is_now : (q : BlockId) → entry_of (put k.pages block entry).rows q ≡ cond (same_block q block) entry (was q)
  is_now q = ap (λ r. entry_of r q) (rows-put k.pages block entry) ∙ entry_of-insert k.pages.rows block entry q

  its_page_begun : list_any (same_block (first_block block)) (with_first firsts block) ≡ true
  its_page_begun =
      elim (list_any (same_block (first_block block)) firsts) as
      (λ t. list_any (same_block (first_block block)) firsts ≡ t
      → list_any (same_block (first_block block)) (cond t firsts (firsts ++ first_block block ∷ [])) ≡ true) [
        | true ↦ λ there. there
        | false ↦ λ _. list_any-append (same_block (first_block block)) firsts (first_block block ∷ [])
            ∙ or_second (list_any (same_block (first_block block)) firsts) _
            (or_first (same_block (first_block block) (first_block block)) false (same_block_itself (first_block block)))
      ] refl

  still_begun : (f : BlockId) → list_any (same_block f) firsts ≡ true → list_any (same_block f) (with_first firsts block) ≡ true
  still_begun f there =
      elim (list_any (same_block (first_block block)) firsts) as (λ t. list_any (same_block f) (cond t firsts (firsts ++ first_block block ∷ [])) ≡ true) [
        | true ↦ there
        | false ↦ list_any-append (same_block f) firsts (first_block block ∷ []) ∙ or_first (list_any (same_block f) firsts) _ there
      ]

  -- what is held of a block or known of its page, where the first holds now
  abbrev KnownAs : BlockId → Entry → Type 0
  KnownAs q e = (e ≡ no_entry) ⊎ ((list_any (same_block (first_block q)) (with_first firsts block) ≡ true) × (q.blk < 2 ^ 32))

  known_now : (q : BlockId) → KnownAs q (cond (same_block q block) entry (was q))
  known_now q =
      by_test (KnownAs q) (same_block q block) entry (was q)
      (λ same. subst (λ b. KnownAs b entry) (same_block_exact q block same) (inr (its_page_begun, fits)))
      (λ _. more (c.known q))
    where
      more : IsKnown k c.firsts q → KnownAs q (was q)
      more (inl none) = inl none
      more (inr (begun, q_fits)) = inr (still_begun (first_block q) begun, q_fits)

  held_now : (q : BlockId) → first_greatest no_entry (cond (same_block q block) entry (was q)) ≡ cond (same_block q block) entry (was q)
  held_now q =
      by_test (λ e. first_greatest no_entry e ≡ e) (same_block q block) entry (was q)
      (λ _. first_greatest-newer no_entry entry (newer_than_none (was block) entry newer)) (λ _. c.held q)

  abbrev put_on_now : BlockId → Bool
  put_on_now q = list_any (λ b. same_block (first_block b) (first_block q)) (c.blocks ++ block ∷ [])

  is_on : (q : BlockId) → put_on_now q ≡ (is_put_on c.blocks q || (same_block (first_block block) (first_block q) || false))
  is_on q = list_any-append (λ b. same_block (first_block b) (first_block q)) c.blocks (block ∷ [])

  none_first : (a b : Bool) → (a || b) ≡ false → a ≡ false
  none_first true b h = h
  none_first false b h = refl

  own_on : put_on_now block ≡ true
  own_on = is_on block
      ∙ or_second (is_put_on c.blocks block) _ (or_first (same_block (first_block block) (first_block block)) false (same_block_itself (first_block block)))

  covers_now : (joined : BlockId → Entry) → ((q : BlockId) → Covers (joined q) (was q) (is_put_on c.blocks q)) → (q : BlockId)
      → Covers (joined q) (cond (same_block q block) entry (was q)) (put_on_now q)
  covers_now joined covers q =
      by_test (λ e. Covers (joined q) e (put_on_now q)) (same_block q block) entry (was q)
      (λ same. let fact : block ≡ q = same_block_exact q block same in
      subst (λ b. Covers (joined b) entry (put_on_now b)) fact
      (record { below = rises (joined block) (was block) entry (covers block).below newer; same = λ off. contrary (sym off ∙ own_on) }))
      (λ _. record { below = (covers q).below; same = λ off. (covers q).same (none_first (is_put_on c.blocks q) _ (sym (is_on q) ∙ off)) })

  covered_put : IsCovered holds (record { pages = put k.pages block entry; parts = k.parts })
  covered_put = record {
    firsts = with_first firsts block;
    blocks = c.blocks ++ block ∷ [];
    numbered = kept_put k.pages c.firsts c.blocks block entry c.numbered;
    known = λ q. subst (KnownAs q) (sym (is_now q)) (known_now q);
    held = λ q. subst (λ e. first_greatest no_entry e ≡ e) (sym (is_now q)) (held_now q);
    parts = parts_now c.parts;
  }
    where
      parts_now : (k.parts ≡ []) ⊎ ((q : BlockId) → Covers (join (rows_in holds k.parts) q) (was q) (is_put_on c.blocks q))
          → (k.parts ≡ []) ⊎ ((q : BlockId) → Covers (join (rows_in holds k.parts) q) (entry_of (put k.pages block entry).rows q) (put_on_now q))
      parts_now (inl none) = inl none
      parts_now (inr covers) = inr (λ q.
          subst (λ e. Covers (join (rows_in holds k.parts) q) e (put_on_now q)) (sym (is_now q)) (covers_now (join (rows_in holds k.parts)) covers q))

covered_event : (holds : SegRef → Rows) (k : Checkpointed) (event : Event) → MayCome holds k event → IsCovered holds k → IsCovered holds (after_event k event)
unfolding pages_merge
covered_event holds k (Merged block entry) fits c =
    elim (is_newer entry (entry_of k.pages.rows block)) as
    (λ t. is_newer entry (entry_of k.pages.rows block) ≡ t → IsCovered holds (record { pages = cond t (put k.pages block entry) k.pages; parts = k.parts })) [
      | true ↦ λ newer. covered_put holds k c block entry fits newer
      | false ↦ λ _. c
    ] refl
covered_event holds k (Written segments) laid c = covered_written holds k segments laid c

covered_events : (holds : SegRef → Rows) (k : Checkpointed) (events : List Event) → AllMayCome holds k events → IsCovered holds k
    → IsCovered holds (after_events k events)
covered_events holds k [] all c = c
covered_events holds k (event ∷ events) all c = covered_events holds (after_event k event) events all.1 (covered_event holds k event all.0 c)

nothing_covered : (holds : SegRef → Rows) → IsCovered holds nothing_checkpointed
nothing_covered holds = record { firsts = []; blocks = []; numbered = none_numbered; known = λ q. inl refl; held = λ q. refl; parts = inl refl }

pub is_the_index : (holds : SegRef → Rows) (events : List Event) (segments : List SegRef) (block : BlockId) → AllMayCome holds nothing_checkpointed events
    → MayCome holds (slot_after events) (Written segments)
    → join (rows_in holds (after_event (slot_after events) (Written segments)).parts) block ≡ entry_of (slot_after events).pages.rows block
is_the_index holds events segments block all laid =
    written_joins holds (slot_after events) (covered_events holds nothing_checkpointed events all (nothing_covered holds)) block segments laid
