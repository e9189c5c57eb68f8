-- A takeover is an activation: the parts cover what is below the horizon, and each log that was read adds what it filed from there to its end.
use Rattle.std.proofs.Common.{◌≡◌, ℕ, zero, suc, ◌+◌, ◌-◌, ◌<◌, ◌≤◌, ◌&&◌, max, Bool, true, false, cond, nat_lt, nat_le, List, [], ◌∷◌, ◌++◌, map, length, take, drop, get_or, Some, None, unwrap_or, append_assoc, append-nil, ◌⊎◌, inl, inr, refl, sym, ap, subst, ◌∙◌, arith}
use Rattle.std.specs.List.{AllByRecursion, flat_map, range_with_len}
use Rattle.std.specs.List.Sorted.{IsStrictlySortedBy}
use Rattle.std.specs.Ordering.{is_eq}
use Rattle.std.specs.Map.{lookup, keys_of}
use Rattle.std.specs.BTreeMap.{is_at}
use Rattle.std.specs.declared.cmp.Ordering.TheVariants.{Less}
use Rattle.std.proofs.lemmas.Bool.Decides.{nat_tests}
use Rattle.std.proofs.lemmas.Grind.{flat_map-append}
use Rattle.std.proofs.lemmas.List.{take-append-drop}
use Rattle.std.proofs.lemmas.List.{length-map}
use Rattle.std.proofs.lemmas.List.FromFn.{get_or-map-range_with_len, length-map-range_with_len}
use Rattle.std.proofs.Math.ListN.{get_or-eq_default}
use Rattle.std.proofs.lemmas.Bool.{le-ltb, leb-false, leb-true, lt-ltb}
use Rattle.xfs_base.specs.declared.block.BlockId.{BlockId}
use Rattle.xfs_base.specs.declared.entry.Entry.{Entry}
use Rattle.xfs_base.specs.declared.news.SlotNews.{SlotNews}
use Rattle.xfs_base.specs.declared.token.Mode.{Mode}
use Rattle.xfs_base.specs.Blocks.{block_cmp, slot_of, same_block}
use Rattle.xfs_base.proofs.BlockOrder.{same_block_exact}
use Rattle.xfs_base.specs.Limits.{block_logs}
use Rattle.xfs_base.specs.Logs.{cleaners_number}
use Rattle.segment_format.specs.declared.segment.Segment.{Segment}
use Rattle.delta_index.specs.Entries.{no_entry, first_greatest}
use Rattle.delta_index.specs.Index.{entry_of, merged_all}
use Rattle.delta_index.specs.Join.{join}
use Rattle.delta_index.proofs.EntryAlgebra.{first_greatest-none}
use Rattle.delta_index.proofs.IndexJoin.{index_join}
use Rattle.delta_index.proofs.JoinAlgebra.{join-append, join-cons, join-one, none-join, same_block-eq}
use Rattle.slot_beliefs.specs.Index.{block_index_new, merge_all}
use Rattle.slot_beliefs.specs.Recalls as recalls
use Rattle.slot_beliefs.proofs.Counting.{nothing_counted, keeps-counted-all}
use Rattle.takeover.specs.declared.report.Report.{Report}
use Rattle.takeover.specs.declared.source.Source.{Source}
use Rattle.takeover.specs.Course.{Course, course_of, after_input, IsTakenOver}
use Rattle.takeover.specs.ReadBack.{IsReadBack, AreReadBack, told_along, told_by_all}
use Rattle.takeover.specs.Reports as reports
use Rattle.takeover.specs.Reports.{end_of, horizon_at, applied_at}
use Rattle.takeover.specs.Sources.{part_source, log_source, log_sources}
use Rattle.takeover.proofs.Standing.{taken_over}
use Rattle.token_manager.specs.Transition.{slot_start, entry_at}
use Rattle.log_protocol.specs.Tables.{put}
use Rattle.log_protocol.specs.IndexState.{IndexState, Joins}
use Rattle.log_protocol.specs.IndexState as index
use Rattle.log_protocol.specs.IndexMerge as merge
use Rattle.log_protocol.specs.IndexLaws.{IndexReached}
use Rattle.log_protocol.specs.IndexSteps.{CanActivate, activates}
use Rattle.log_protocol.specs.IndexSteps.IndexSteps.{Done as Ended, More}
use Rattle.log_protocol.specs.IndexSteps.IndexStep.{Activates}
use Rattle.log_protocol.proofs.IndexInduction.{index_in_bounds_always}
use Rattle.log_protocol.proofs.IndexMerge.{merging_joins}
use Rattle.index_tie.specs.Filed.{IsFiled, Tells, Names}
use Rattle.headline.specs.Filed.{Filed, rows_between}
use Rattle.index_tie.specs.Slots.{Runs}
use Rattle.index_tie.specs.Takeovers.{below, Covers, IsEnd, Linked, IsItsText, TakeoverTold, MayBegin, TakeoversAreActivations}
use Rattle.headline.specs.Indexes.{of_log}
use Rattle.index_tie.proofs.Chains.{log_tells}
use Rattle.index_tie.proofs.Rows.{names_merged, ranged_between}
use Rattle.index_tie.proofs.Slots.{rows-merge_all, framed, shown}
use Rattle.index_tie.proofs.Tables.{put_each, first_of, second_of}

-- ---- the rows of an index say of each block what it holds

none_below : (block : BlockId) (rows : List (BlockId × Entry)) → AllByRecursion (λ y. block_cmp block y ≡ Less) (keys_of rows)
    → lookup (is_at (block_cmp block)) rows ≡ None
none_below block [] below = refl
none_below block (r ∷ rs) below = ap (λ o. cond (is_eq o) (Some r.1) (lookup (is_at (block_cmp block)) rs)) below.0 ∙ none_below block rs below.1

pub join_of_rows : (rows : List (BlockId × Entry)) (q : BlockId) → IsStrictlySortedBy block_cmp (keys_of rows)
    → join rows q ≡ first_greatest no_entry (entry_of rows q)
unfolding IsStrictlySortedBy
join_of_rows [] q sorted = sym (first_greatest-none no_entry)
join_of_rows (r ∷ rs) q sorted =
    join-cons r rs q ∙ ap (λ e. first_greatest e (join rs q)) (join-one r q)
    ∙ elim (same_block q r.0) as
    (λ t. same_block q r.0 ≡ t
    → first_greatest (cond t (first_greatest no_entry r.1) no_entry) (join rs q) ≡ first_greatest no_entry
    (unwrap_or (cond t (Some r.1) (lookup (is_at (block_cmp q)) rs)) no_entry)) [
      | true ↦ λ same.
          let none : lookup (is_at (block_cmp q)) rs ≡ None =
          none_below q rs (subst (λ k. AllByRecursion (λ y. block_cmp k y ≡ Less) (keys_of rs)) (same_block_exact q r.0 same) sorted.0) in
          let nothing : join rs q ≡ no_entry = join_of_rows rs q sorted.1 ∙ ap (λ o. first_greatest no_entry (unwrap_or o no_entry)) none in
          ap (first_greatest (first_greatest no_entry r.1)) nothing ∙ first_greatest-none (first_greatest no_entry r.1)
      | false ↦ λ _. none-join rs q ∙ join_of_rows rs q sorted.1
    ] refl
    ∙ sym (ap (λ t. first_greatest no_entry (unwrap_or (cond t (Some r.1) (lookup (is_at (block_cmp q)) rs)) no_entry)) (same_block-eq q r.0))

-- an index that starts with the rows of an index has them
pub starts_with : (rows : List (BlockId × Entry)) (q : BlockId) → entry_of (merge_all block_index_new (merged_all [] rows)).rows q ≡ join rows q
starts_with rows q =
    let sorted : IsStrictlySortedBy block_cmp (keys_of (merged_all [] rows)) =
    subst (λ r. IsStrictlySortedBy block_cmp (keys_of r)) (rows-merge_all block_index_new rows)
    (keeps-counted-all block_index_new rows nothing_counted).sorted in
    ap (λ r. entry_of r q) (rows-merge_all block_index_new (merged_all [] rows)) ∙ index_join (merged_all [] rows) q
    ∙ join_of_rows (merged_all [] rows) q sorted
    ∙ ap (first_greatest no_entry) (index_join rows q) ∙ none-join rows q

-- ---- lists in two

split_back : (xs ys : List Source) (chains : List (List Segment)) → AreReadBack (xs ++ ys) chains → AreReadBack ys (drop (length xs) chains)
split_back [] ys chains read = read
split_back (x ∷ xs) ys [] read = absurd read
split_back (x ∷ xs) ys (c ∷ cs) read = split_back xs ys cs read.1

all_dropped : {X : Type 0} (P : X → Type 0) (n : ℕ) (xs : List X) → AllByRecursion P xs → AllByRecursion P (drop n xs)
all_dropped P zero xs all = all
all_dropped P (suc n) [] all = tt
all_dropped P (suc n) (x ∷ xs) all = all_dropped P n xs all.1

either : (t : Bool) (x y : ℕ) → x ≡ 0 → y ≡ 0 → cond t x y ≡ 0
either true x y a b = a
either false x y a b = b

-- ---- numbers by log

pub of_log_in : (xs : List ℕ) (l : ℕ) → 0 < l → l ≤ block_logs → of_log xs l ≡ get_or xs (l - 1) 0
of_log_in xs l some limit = first_of (nat_lt 0 l && nat_le l block_logs) (get_or xs (l - 1) 0) 0 (grind (arith, nat_tests))

pub of_log_out : (xs : List ℕ) (l : ℕ) → (l ≡ 0) ⊎ (block_logs < l) → of_log xs l ≡ 0
of_log_out xs l (inl none) = second_of (nat_lt 0 l && nat_le l block_logs) (get_or xs (l - 1) 0) 0 (grind (arith, nat_tests))
of_log_out xs l (inr past) = second_of (nat_lt 0 l && nat_le l block_logs) (get_or xs (l - 1) 0) 0 (grind (arith, nat_tests))

-- a log is one of 1 to 9, or none of them
pub by_log : (P : ℕ → Type 0) → ((l : ℕ) → 0 < l → l ≤ block_logs → P l) → ((l : ℕ) → (l ≡ 0) ⊎ (block_logs < l) → P l) → (l : ℕ) → P l
by_log P here there zero = there zero (inl refl)
by_log P here there (suc n) = elim (nat_le (suc n) block_logs) as (λ t. nat_le (suc n) block_logs ≡ t → P (suc n)) [
  | true ↦ λ fact. here (suc n) (omega arith) (grind (arith, nat_tests))
  | false ↦ λ fact. there (suc n) (inr (grind (arith, nat_tests)))
] refl

pub applied_in : (horizon : List ℕ) (rs : List Report) (l : ℕ) → 0 < l → l ≤ block_logs → of_log (reports.applied_of horizon rs) l ≡ applied_at horizon rs l
unfolding reports.applied_of
applied_in horizon rs l some limit =
    of_log_in (reports.applied_of horizon rs) l some limit ∙ get_or-map-range_with_len (applied_at horizon rs) 1 block_logs (l - 1) l 0 (omega arith) (omega arith)

pub nine : (horizon : List ℕ) (rs : List Report) → length (reports.applied_of horizon rs) ≡ block_logs
unfolding reports.applied_of
nine horizon rs = length-map-range_with_len (applied_at horizon rs) 1 block_logs

pub joins_at : (version hop : ℕ → ℕ → ℕ) (u v : ℕ → ℕ) (e : index.Entry) → ((l : ℕ) → u l ≡ v l) → Joins version hop u e → Joins version hop v e
joins_at version hop u v e same j = record {
  newest = λ l q limit. j.newest l q (let s = same l in omega arith);
  furthest = λ l q limit. j.furthest l q (let s = same l in omega arith);
  earliest = λ l q limit. j.earliest l q (let s = same l in omega arith);
  within = λ some. let w = j.within some in let s = same e.log in omega arith;
  its_version = j.its_version;
  its_hop = j.its_hop;
}

-- ---- log by log

same_test : (l k : ℕ) → (l ≡ k → ⊥) → nat_lt l k ≡ nat_lt l (suc k)
same_test l k other = grind (arith, nat_tests)

-- rows say of the block the join of what the logs filed up to here
record Gathered (b : BlockId) (f : Filed) (w : IndexState) (upto : ℕ → ℕ) (rows : List (BlockId × Entry)) : Type 0 where
  named : index.Entry
  names : Names b f (join rows b) named
  joins : Joins w.version w.hop upto named

module _ (b : BlockId) (f : Filed) (w : IndexState) (slot epoch : ℕ) (horizon : List ℕ) (rs : List Report) (reached : IndexReached w) (filed : IsFiled f)
    (tells : Tells b f w) (its : slot_of b.ino.0 ≡ slot)
    (at_floor : (l : ℕ) → 0 < l → l ≤ block_logs → of_log horizon l ≡ w.floor epoch l)
    (ends : (l : ℕ) → 0 < l → l ≤ block_logs → of_log horizon l ≤ (end_of rs l).seq → IsEnd f l (end_of rs l))
    (linked : (l : ℕ) → 0 < l → l ≤ block_logs → Linked f l (of_log horizon l) (end_of rs l).seq)
  where
    abbrev applied : List ℕ
    applied = reports.applied_of horizon rs

    -- logs below k up to what is applied of them, the others up to the horizon
    abbrev upto : ℕ → ℕ → ℕ
    upto k l = cond (nat_lt l k) (of_log applied l) (below horizon l)

    at_k : (k : ℕ) → 0 < k → k ≤ block_logs → upto k k ≡ horizon_at horizon k - 1
    at_k k some limit = second_of (nat_lt k k) (of_log applied k) (below horizon k) (grind (arith, nat_tests))
        ∙ ap (λ n. n - 1) (of_log_in horizon k some limit)

    -- the next log
    next_is : (k n : ℕ) → 0 < k → k ≤ block_logs → n ≡ applied_at horizon rs k → (l : ℕ) → put (upto k) k n l ≡ upto (suc k) l
    next_is k n some limit fact =
        put_each (λ l m. m ≡ upto (suc k) l) (upto k) k n
        (fact ∙ sym (applied_in horizon rs k some limit) ∙ sym (first_of (nat_lt k (suc k)) (of_log applied k) (below horizon k) (grind (arith, nat_tests))))
        (λ l other. ap (λ t. cond t (of_log applied l) (below horizon l)) (same_test l k other))

    stays_is : (k : ℕ) → 0 < k → k ≤ block_logs → (end_of rs k).seq < horizon_at horizon k → (l : ℕ) → upto k l ≡ upto (suc k) l
    stays_is k some limit past l =
        sym (put_each (λ d m. m ≡ upto k d) (upto k) k (horizon_at horizon k - 1) (sym (at_k k some limit)) (λ d other. refl) l)
        ∙ next_is k (horizon_at horizon k - 1) some limit (omega arith) l

    adds : (k : ℕ) (rows : List (BlockId × Entry)) (chain : List Segment) → 0 < k → k ≤ block_logs → horizon_at horizon k ≤ (end_of rs k).seq
        → Gathered b f w (upto k) rows
        → IsReadBack (log_source k (horizon_at horizon k) (end_of rs k)) chain None → AllByRecursion (IsItsText f) chain
        → Gathered b f w (upto (suc k)) (rows ++ told_along slot chain)
    adds k rows chain some limit within g read texts =
        let low = horizon_at horizon k in
        let end = end_of rs k in
        let is_low : of_log horizon k ≡ low = of_log_in horizon k some limit in
        let floor = at_floor k some limit in
        let some_floor = (index_in_bounds_always w reached).floor_some epoch k in
        let least : 0 < low = omega arith in
        let is_end : IsEnd f k end = ends k some limit (omega arith) in
        let r = ranged_between b f w k low end.seq filed tells in
        let tells_it : join (told_along slot chain) b ≡ join (rows_between f k low end.seq) b =
        log_tells f k low end filed least within is_end (subst (λ n. Linked f k n end.seq) is_low (linked k some limit)) b slot chain its read texts in
        let was = at_k k some limit in
        record {
          named = merge.merged g.named r.named;
          names = subst (λ e. Names b f e (merge.merged g.named r.named))
              (ap (first_greatest (join rows b)) (sym tells_it) ∙ sym (join-append rows (told_along slot chain) b))
              (names_merged b f g.named r.named (join rows b) (join (rows_between f k low end.seq) b) g.names r.names);
          joins = joins_at w.version w.hop (put (upto k) k end.seq) (upto (suc k)) (merge.merged g.named r.named) (next_is k end.seq some limit (omega arith))
              (merging_joins w (upto k) k low end.seq g.named r.named reached g.joins r.greatest (omega arith) (omega arith));
        }

    skips : (k : ℕ) (rows : List (BlockId × Entry)) → 0 < k → k ≤ block_logs → (end_of rs k).seq < horizon_at horizon k → Gathered b f w (upto k) rows
        → Gathered b f w (upto (suc k)) rows
    skips k rows some limit past g =
        record { named = g.named; names = g.names; joins = joins_at w.version w.hop (upto k) (upto (suc k)) g.named (stays_is k some limit past) g.joins }

    gathers : (n k : ℕ) (rows : List (BlockId × Entry)) (chains : List (List Segment)) → k + n ≡ 10 → 0 < k → Gathered b f w (upto k) rows
        → AreReadBack (flat_map (log_sources horizon rs) (range_with_len k n)) chains
        → AllByRecursion (AllByRecursion (IsItsText f)) chains → Gathered b f w (upto 10) (rows ++ told_by_all slot chains)
    gathers zero k rows [] ends_ some g read texts =
        let last : k ≡ 10 = omega arith in
        subst (Gathered b f w (upto 10)) (sym (append-nil rows)) (subst (λ j. Gathered b f w (upto j) rows) last g)
    gathers zero k rows (c ∷ cs) ends_ some g read texts = absurd read
    gathers (suc n) k rows chains ends_ some g read texts =
        by_source (λ more cs next. gathers n (k + 1) more cs (omega arith) (omega arith) next)
        (nat_le (horizon_at horizon k) (end_of rs k).seq) refl chains read texts
      where
        by_source : ((more : List (BlockId × Entry)) (cs : List (List Segment)) → Gathered b f w (upto (k + 1)) more
            → AreReadBack (flat_map (log_sources horizon rs) (range_with_len (k + 1) n)) cs → AllByRecursion (AllByRecursion (IsItsText f)) cs
            → Gathered b f w (upto 10) (more ++ told_by_all slot cs))
            → (t : Bool) → nat_le (horizon_at horizon k) (end_of rs k).seq ≡ t → (chains : List (List Segment))
            → AreReadBack
            (cond t (log_source k (horizon_at horizon k) (end_of rs k) ∷ []) [] ++ flat_map (log_sources horizon rs) (range_with_len (k + 1) n)) chains
            → AllByRecursion (AllByRecursion (IsItsText f)) chains
            → Gathered b f w (upto 10) (rows ++ told_by_all slot chains)
        by_source on true within [] read texts = absurd read
        by_source on true within (c ∷ cs) read texts =
            let less : horizon_at horizon k ≤ (end_of rs k).seq = leb-true (horizon_at horizon k) (end_of rs k).seq within in
            let next : suc k ≡ k + 1 = omega arith in
            subst (Gathered b f w (upto 10)) (append_assoc rows (told_along slot c) (told_by_all slot cs))
            (on (rows ++ told_along slot c) cs
            (subst (λ j. Gathered b f w (upto j) (rows ++ told_along slot c)) next (adds k rows c some (omega arith) less g read.0 texts.0)) read.1 texts.1)
        by_source on false past cs read texts =
            let more : (end_of rs k).seq < horizon_at horizon k = leb-false (horizon_at horizon k) (end_of rs k).seq past in
            let next : suc k ≡ k + 1 = omega arith in
            on rows cs (subst (λ j. Gathered b f w (upto j) rows) next (skips k rows some (omega arith) more g)) read texts

    -- from what the parts cover to what all tell
    all_told : (parts : List Source) (chains : List (List Segment)) → Covers b f w horizon (told_by_all slot (take (length parts) chains))
        → AreReadBack (parts ++ flat_map (log_sources horizon rs) (range_with_len 1 block_logs)) chains
        → AllByRecursion (AllByRecursion (IsItsText f)) chains → Gathered b f w (of_log applied) (told_by_all slot chains)
    all_told parts chains covers read texts =
        let n = length parts in
        let start : (l : ℕ) → below horizon l ≡ upto 1 l = by_log (λ l. below horizon l ≡ upto 1 l)
        (λ l some limit. sym (second_of (nat_lt l 1) (of_log applied l) (below horizon l) (le-ltb l 1 (omega arith))))
        (λ l out. ap (λ m. m - 1) (of_log_out horizon l out)
        ∙ sym (either (nat_lt l 1) (of_log applied l) (below horizon l) (of_log_out applied l out) (ap (λ m. m - 1) (of_log_out horizon l out)))) in
        let end : (l : ℕ) → upto 10 l ≡ of_log applied l = by_log (λ l. upto 10 l ≡ of_log applied l)
        (λ l some limit. first_of (nat_lt l 10) (of_log applied l) (below horizon l) (lt-ltb l 10 (omega arith)))
        (λ l out. either (nat_lt l 10) (of_log applied l) (below horizon l) (of_log_out applied l out) (ap (λ m. m - 1) (of_log_out horizon l out))
        ∙ sym (of_log_out applied l out)) in
        let g = gathers block_logs 1 (told_by_all slot (take n chains)) (drop n chains) refl (omega arith)
        (record { named = covers.named; names = covers.names; joins = joins_at w.version w.hop (below horizon) (upto 1) covers.named start covers.joins })
        (split_back parts (flat_map (log_sources horizon rs) (range_with_len 1 block_logs)) chains read) (all_dropped (AllByRecursion (IsItsText f)) n chains texts) in
        let whole : told_by_all slot (take n chains) ++ told_by_all slot (drop n chains) ≡ told_by_all slot chains =
        sym (flat_map-append (told_along slot) (take n chains) (drop n chains)) ∙ ap (told_by_all slot) (take-append-drop n chains) in
        record {
          named = g.named;
          names = subst (λ r. Names b f (join r b) g.named) whole g.names;
          joins = joins_at w.version w.hop (upto 10) (of_log applied) g.named end g.joins;
        }

-- ---- the activation

-- the lowest log that the horizon passes lies no higher than what is applied, which is filed
applied_most : (end low head : ℕ) → low ≤ suc head → (low ≤ end → end ≤ head) → max end (low - 1) ≤ head
applied_most end low head floor filed = by (nat_le low end) refl
  where
    by : (t : Bool) → nat_le low end ≡ t → max end (low - 1) ≤ head
    by true fact = let a : low ≤ end = grind (arith, nat_tests) in let b = filed a in omega arith
    by false fact = let a : end < low = grind (arith, nat_tests) in omega arith

activated : (b : BlockId) (f : Filed) (w : IndexState) (news : SlotNews) (c : Course) (epoch : ℕ) (rows : List (BlockId × Entry))
    (beliefs : List (BlockId × ℕ × Mode)) (numbers : List ℕ)
    → IndexReached w → IsFiled f → Tells b f w → slot_of b.ino.0 ≡ news.slot → IsTakenOver news c epoch rows beliefs numbers → TakeoverTold b f w news c
    → MayBegin w news.epoch c.state.reports → Runs b f w news.epoch (slot_start news.epoch rows beliefs numbers)
activated b f w news c epoch rows beliefs numbers reached filed tells its over told may =
    let rs = c.state.reports in
    let horizon = news.horizon in
    let e = news.epoch in
    let bounds = index_in_bounds_always w reached in
    let parts = map part_source news.parts in
    let same_length : length parts ≡ length news.parts = length-map news.parts part_source in
    let covers : Covers b f w horizon (told_by_all news.slot (take (length parts) c.read.whole)) =
    subst (λ n. Covers b f w horizon (told_by_all news.slot (take n c.read.whole))) (sym same_length) told.parts in
    let g = all_told b f w news.slot e horizon rs reached filed tells its told.horizon told.ends told.linked parts c.read.whole covers over.sources
    told.texts in
    let numbers_of = reports.applied_of horizon rs in
    let names : Names b f (entry_at (slot_start e rows beliefs numbers) b) g.named =
    subst (λ x. Names b f x g.named)
    (sym (ap (λ r. entry_of (merge_all block_index_new r).rows b) over.rows ∙ starts_with (told_by_all news.slot c.read.whole) b)) g.names in
    let upto : ℕ → ℕ = of_log numbers_of in
    let covered : (l : ℕ) → w.floor e l ≤ suc (upto l) = by_log (λ l. w.floor e l ≤ suc (upto l))
    (λ l some limit. let a = applied_in horizon rs l some limit in let h = told.horizon l some limit in let i = of_log_in horizon l some limit in omega arith)
    (λ l out. let a = bounds.floor_filed e l in let h = tells.head l in let i = filed.others l out in omega arith) in
    let most_filed : (l : ℕ) → upto l ≤ w.head l = by_log (λ l. upto l ≤ w.head l)
    (λ l some limit.
    let a = applied_in horizon rs l some limit in
    let h = told.horizon l some limit in
    let i = of_log_in horizon l some limit in
    let floor = bounds.floor_filed e l in
    let is_head = tells.head l in
    let m = applied_most (end_of rs l).seq (horizon_at horizon l) (w.head l) (omega arith)
    (λ within. let x = (told.ends l some limit (omega arith)).filed in omega arith) in
    omega arith)
    (λ l out. let a = of_log_out numbers_of l out in omega arith) in
    let reported : w.polled e ≤ upto w.cleaner =
    subst (λ l. w.polled e ≤ upto l) (sym tells.cleaner) (let a = applied_in horizon rs cleaners_number (omega arith) (omega arith) in let r = may.reported in omega arith) in
    let can : CanActivate w e upto g.named =
    record { begun = may.begun; fresh = may.fresh; heard = may.heard; reported = reported; covered = covered; filed = most_filed; joins = g.joins } in
    let t = slot_start e rows beliefs numbers in
    let frame = framed w e upto g.named in
    let shows = shown b f w upto g.named t
    (λ l some. by_log (λ d. 0 < d → upto d ≡ recalls.applied_of numbers d)
    (λ d more limit _. of_log_in numbers_of d more limit ∙ ap (λ xs. get_or xs (d - 1) 0) (sym over.applied_to))
    (λ d out more. of_log_out numbers_of d out
    ∙ sym (ap (λ xs. get_or xs (d - 1) 0) over.applied_to ∙ get_or-eq_default numbers_of 0 (let n = nine horizon rs in past d out more (length numbers_of) n)))
    l some) names in
    record {
      state = activates w e upto g.named;
      steps = More Ended (Activates e upto g.named can);
      frame = record { rest = refl; active = frame.active; applied = frame.applied; index = frame.index };
      shows = record { active = shows.active; applied = shows.applied; index = shows.index };
    }
  where
    past : (d : ℕ) → (d ≡ 0) ⊎ (block_logs < d) → 0 < d → (n : ℕ) → n ≡ cleaners_number → n ≤ d - 1
    past d (inl none) some n fact = absurd (omega arith)
    past d (inr more) some n fact = omega arith

pub takeovers_are_activations : TakeoversAreActivations
takeovers_are_activations b f w news groups clients inputs input epoch rows beliefs numbers reached filed tells its hands told may =
    let c = after_input (course_of news groups clients inputs) input in
    let over = taken_over news groups clients inputs input epoch rows beliefs numbers hands in
    subst (λ e. Runs b f w e (slot_start e rows beliefs numbers)) (sym over.of_epoch)
    (activated b f w news c epoch rows beliefs numbers reached filed tells its over told may)
