-- A checkpoint's parts cover what its horizon passes, are read as they were written, and its horizon is kept.
use Rattle.std.proofs.Common.{◌≡◌, ℕ, suc, ◌-◌, ◌<◌, ◌≤◌, ◌&&◌, ◌⊎◌, inl, inr, Bool, false, not, nat_lt, nat_le, get_or, List, [], ◌∷◌, ◌++◌, filter, Option, Some, None, unwrap_or, append-nil, refl, sym, ap, subst, ◌∙◌, arith}
use Rattle.std.specs.List.{AllByRecursion, flat_map, filter_map}
use Rattle.std.proofs.lemmas.Bool.Decides.{nat_tests}
use Rattle.std.proofs.lemmas.Bool.{le-ltb}
use Rattle.xfs_base.specs.declared.segment.SegRef.{SegRef}
use Rattle.xfs_base.specs.Segments.{names_none}
use Rattle.xfs_base.specs.Limits.{block_logs}
use Rattle.segment_format.specs.declared.segment.Segment.{Segment}
use Rattle.segment_format.specs.Rows.{row_of}
use Rattle.delta_index.specs.Index.{entry_of}
use Rattle.delta_index.specs.Join.{join}
use Rattle.takeover.specs.declared.source.Source.{Source}
use Rattle.takeover.specs.ReadBack.{IsReadBack, told_along, told_by_all}
use Rattle.takeover.specs.Rows.{is_of, part_rows, told_of}
use Rattle.takeover.specs.Sources.{part_source, prior_of, goes_back, back_from}
use Rattle.index_pages.specs.Pages.{PagesState}
use Rattle.token_manager.specs.Transition.{entry_at}
use Rattle.checkpoint.specs.Laws.{rows_in, rows_of_items, after_event, slot_after}
use Rattle.checkpoint.specs.Laws.Event.{Written}
use Rattle.checkpoint.specs.WriterState.{Rows, items_of}
use Rattle.checkpoint.proofs.Covering.{is_the_index}
use Rattle.log_protocol.specs.IndexSteps.IndexStep.{Keeps as Keep}
use Rattle.log_protocol.proofs.IndexInduction.{index_is_join_always, index_in_bounds_always}
use Rattle.index_tie.specs.Filed.{Names}
use Rattle.index_tie.specs.Takeovers.{below}
use Rattle.headline.specs.Indexes.{of_log}
use Rattle.index_tie.specs.Checkpoints.{PartsCover, TellsPart, PartsAreRead, PartsTellTheirRows, horizon_seen, CheckpointsAreKept}
use Rattle.index_tie.proofs.Takeovers.{by_log, of_log_in, of_log_out, joins_at}
use Rattle.index_tie.proofs.Tables.{at_same, first_of, second_of}

-- ---- parts cover

pub parts_cover : PartsCover
parts_cover b f w s holds events segments horizon reached filed tells m pages all laid next =
    let e = s.epoch in
    let bounds = index_in_bounds_always w reached in
    let held : join (rows_in holds (after_event (slot_after events) (Written segments)).parts) b ≡ entry_at s b =
    is_the_index holds events segments b all laid ∙ ap (λ (p : PagesState). entry_of p.rows b) pages in
    let upto : (l : ℕ) → w.applied e l ≡ below horizon l = by_log (λ l. w.applied e l ≡ below horizon l)
    (λ l some limit. let a = next l some limit in m.applied l some ∙ (omega arith))
    (λ l out. let a = bounds.applied_filed e l in let h = tells.head l in let n = filed.others l out in let o = of_log_out horizon l out in omega arith) in
    record {
      named = w.index e;
      filed = λ l. let a = upto l in let h = tells.head l in let n = bounds.applied_filed e l in omega arith;
      names = subst (λ x. Names b f x (w.index e)) (sym held) m.index;
      joins = joins_at w.version w.hop (w.applied e) (below horizon) (w.index e) upto ((index_is_join_always w reached).each e m.active);
    }

-- ---- parts are read

stops : (part : SegRef) (s : Segment) → s.name ≡ part.name → goes_back (part_source part) s ≡ false
stops part s named = let seq : s.name.seq ≡ part.name.seq = ap (λ n. n.seq) named in not_below part.name.seq s.name.seq (not (names_none s.prior)) seq
  where
    not_below : (low seq : ℕ) (t : Bool) → seq ≡ low → (nat_lt low seq && t) ≡ false
    not_below low seq t fact = grind (arith, nat_tests)

-- of a part one segment is read: its own
record IsOneRead (part : SegRef) (chain : List Segment) : Type 0 where
  segment : Segment
  alone : chain ≡ segment ∷ []
  named : segment.name ≡ part.name

read_once : (part : SegRef) (chain : List Segment) (left : Option Source) → IsReadBack (part_source part) chain left
    → (left ≡ None → IsOneRead part chain) × ((at : Source) → left ≡ Some at → chain ≡ [])
read_once part [] left read = ((λ none. absurd (some_is (part_source part) (sym read ∙ none))), (λ at fact. refl))
  where
    some_is : (at : Source) → Some at ≡ None → ⊥
    some_is at h = absurd (cc)
read_once part (s ∷ []) left read =
    let at : read.0 ≡ part_source part = ap (λ o. unwrap_or o (part_source part)) read.1 in
    let named : s.name ≡ part.name = read.2 ∙ ap (λ (x : Source). x.seg.name) at in
    let none : left ≡ None =
    read.3 ∙ ap (λ a. back_from a s) at
    ∙ second_of (goes_back (part_source part) s) (Some (record { seg = prior_of s; low = part.name.seq })) None (stops part s named) in
    ((λ _. record { segment = s; alone = refl; named = named }), (λ a some. absurd (none_is a (sym none ∙ some))))
  where
    none_is : (a : Source) → None ≡ Some a → ⊥
    none_is a h = absurd (cc)
read_once part (s ∷ t ∷ more) left read = absurd (longer (((read_once part (t ∷ more) (Some read.0) read.1).1) read.0 refl))
  where
    longer : t ∷ more ≡ [] → ⊥
    longer h = absurd (cc)

of_others : (slot : ℕ) (holds : SegRef → Rows) (part : SegRef) (parts : List SegRef) (chain : List Segment)
    → AllByRecursion (TellsPart slot holds (part ∷ parts)) chain → AllByRecursion (TellsPart slot holds parts) chain
of_others slot holds part parts [] all = tt
of_others slot holds part parts (s ∷ ss) all = (all.0.1, of_others slot holds part parts ss all.1)

of_all_others : (slot : ℕ) (holds : SegRef → Rows) (part : SegRef) (parts : List SegRef) (chains : List (List Segment))
    → AllByRecursion (AllByRecursion (TellsPart slot holds (part ∷ parts))) chains
    → AllByRecursion (AllByRecursion (TellsPart slot holds parts)) chains
of_all_others slot holds part parts [] all = tt
of_all_others slot holds part parts (c ∷ cs) all = (of_others slot holds part parts c all.0, of_all_others slot holds part parts cs all.1)

pub parts_are_read : PartsAreRead
parts_are_read slot holds [] [] read tell = refl
parts_are_read slot holds [] (c ∷ cs) read tell = absurd read
parts_are_read slot holds (p ∷ ps) [] read tell = absurd read
parts_are_read slot holds (p ∷ ps) (c ∷ cs) read tell =
    let one = (read_once p c None read.0).0 refl in
    let its : AllByRecursion (TellsPart slot holds (p ∷ ps)) (one.segment ∷ []) = subst (AllByRecursion (TellsPart slot holds (p ∷ ps))) one.alone tell.0 in
    ap (λ x. told_along slot x ++ told_by_all slot cs) one.alone
    ∙ ap (λ r. r ++ told_by_all slot cs) (append-nil (told_of slot one.segment) ∙ its.0.0 one.named)
    ∙ ap (λ r. holds p ++ r) (parts_are_read slot holds ps cs read.1 (of_all_others slot holds p ps cs tell.1))

parts_hold : (slot : ℕ) (pages : List Rows) → flat_map (part_rows slot) (items_of slot pages) ≡ rows_of_items (items_of slot pages)
parts_hold slot [] = refl
parts_hold slot (p ∷ ps) = ap (λ r. r ++ flat_map (part_rows slot) (items_of slot ps)) (at_same slot p []) ∙ ap (λ r. p ++ r) (parts_hold slot ps)

no_deltas : (slot : ℕ) (s : Segment) (pages : List Rows) → filter_map (row_of s) (items_of slot pages) ≡ []
no_deltas slot s [] = refl
no_deltas slot s (p ∷ ps) = no_deltas slot s ps

pub parts_tell : PartsTellTheirRows
parts_tell slot pages s fact =
    ap (λ r. flat_map (part_rows slot) s.items ++ filter (is_of slot) r) (ap (filter_map (row_of s)) fact ∙ no_deltas slot s pages)
    ∙ append-nil (flat_map (part_rows slot) s.items)
    ∙ ap (flat_map (part_rows slot)) fact ∙ parts_hold slot pages ∙ ap rows_of_items (sym fact)

-- ---- and kept

seen_in : (xs : List ℕ) (l : ℕ) → 0 < l → l ≤ block_logs → horizon_seen xs l ≡ of_log xs l
seen_in xs l some limit = first_of (nat_lt 0 l && nat_le l block_logs) (get_or xs (l - 1) 0) 1 (grind (arith, nat_tests)) ∙ sym (of_log_in xs l some limit)

seen_out : (xs : List ℕ) (l : ℕ) → (l ≡ 0) ⊎ (block_logs < l) → horizon_seen xs l ≡ 1
seen_out xs l (inl none) = second_of (nat_lt 0 l && nat_le l block_logs) (get_or xs (l - 1) 0) 1 (grind (arith, nat_tests))
seen_out xs l (inr past) = second_of (nat_lt 0 l && nat_le l block_logs) (get_or xs (l - 1) 0) 1 (grind (arith, nat_tests))

pub checkpoints_are_kept : CheckpointsAreKept
checkpoints_are_kept b f w horizon reached filed tells rises applied =
    let h = horizon_seen horizon in
    let e = w.epoch in
    let bounds = index_in_bounds_always w reached in
    record {
      step = Keep h (record {
        rises = by_log (λ l. w.floor e l ≤ h l)
            (λ l some limit. let a = rises l some limit in let s = seen_in horizon l some limit in omega arith)
            (λ l out. let a = bounds.floor_filed e l in let n = filed.others l out in let t = tells.head l in let s = seen_out horizon l out in omega arith);
        applied = by_log (λ l. h l ≤ suc (w.applied e l))
            (λ l some limit. let a = applied l some limit in let s = seen_in horizon l some limit in omega arith)
            (λ l out. let s = seen_out horizon l out in omega arith);
      });
      floor = λ d l from some limit. sym (second_of (nat_lt d e) (w.floor d l) (h l) (le-ltb d e from) ∙ seen_in horizon l some limit);
    }
