-- Once a log is open again, and what was read back is filed, its feed was told of what is filed.
use Rattle.std.proofs.Common.{◌≡◌, ◌≤◌, ◌<◌, ◌==◌, ℕ, suc, ◌-◌, ◌+◌, ◌&&◌, inl, inr, Bool, true, false, List, [], ◌∷◌, map, refl, sym, ap, subst, ◌∙◌, arith}
use Rattle.std.specs.Prelude.{nat_lt, nat_le, length}
use Rattle.std.specs.List.{AllByRecursion, range_with_len}
use Rattle.std.proofs.lemmas.Bool.Decides.{nat_tests}
use Rattle.delta_feed.specs.FeedState.{FeedState, feed_start}
use Rattle.delta_feed.specs.Transition.{settled}
use Rattle.index_tie.specs.Feeds.{fed_at}
use Rattle.headline.specs.Filed.{Filed, Texts, rows_at}
use Rattle.index_tie.specs.Growth.{with_segment}
use Rattle.index_tie.specs.Net.{Net}
use Rattle.index_tie.proofs.Growth.{more_is_filed}
use Rattle.index_tie.proofs.Tables.{at_same, first_of, second_of}
use Rattle.log_owner.specs.Opened.{filed, feed_all, feed_one as fed_with}
use Rattle.log_protocol.specs.Tables.{put}
use Rattle.node_slots.specs.node_index_tie.OwnerEvents.{FeedSeen}
use Rattle.node_slots.specs.node_index_tie.Sight.{RowsFit}
use Rattle.node_slots.proofs.node_index_tie.Feeding.{feeds_grow}
use Rattle.segment_format.specs.Rows.{rows_of}
use Rattle.segment_format.specs.declared.segment.Segment.{Segment}
use Rattle.token_protocol.specs.Basics.{In as Among}
use Rattle.xfs_base.specs.Limits.{u32_end}
use Rattle.node_slots.specs.owner_index_tie.Filing.{IsSameLog, filing, with_name, filed_after, FilesOwed, FilesNext}
use Rattle.node_slots.specs.owner_index_tie.Owners.{LogFits, NumberedFrom, ReadBack}
use Rattle.node_slots.proofs.owner_index_tie.Feeds.{by_filed, feed_ends, same_feed}
use Rattle.node_slots.proofs.owner_index_tie.Growing.{head_is, segment_is, next_files}

module _ (New : Filed → Segment → Type 0) (part : ℕ) (texts : Texts) (n : Net) (l : ℕ) where
  -- The feed was told of what is read of the log so far, and that is filed.
  pub record Along (v g : Filed) (its : FeedState) : Type 0 where
    pub feed : FeedSeen part (filing n v) l its
    pub head : v.head l ≤ g.head l
    pub same : (q : ℕ) → 0 < q → q ≤ v.head l → g.segment l q ≡ v.segment l q
    pub short : g.head l < u32_end

  -- ---- where it begins

  module _ (f : Filed) (fits : LogFits part (filing n f) l) (base : ℕ) (low : base ≤ f.head l) where
    -- what is filed up to the base
    abbrev pub below : Filed
    below = record { head = put f.head l base; segment = f.segment }

    below_head : below.head l ≡ base
    below_head = at_same l base (f.head l)

    below_fits : (q : ℕ) → RowsFit (rows_at below l q)
    below_fits q = by_filed RowsFit below l q (λ some limit. subst RowsFit (first_of (nat_lt 0 q && nat_le q (f.head l)) (rows_of (f.segment l q)) []
        (let h = below_head in grind (arith, nat_tests, h))) (fits.fit q)) tt

    pub begins_along : Along below f (feed_start base)
    begins_along = record {
      feed = record {
        base = base;
        inputs = [];
        feed_is = refl;
        fed = record {
          known = let h = below_head in omega arith;
          end = sym below_head;
          each = ap (λ k. map (fed_at below l) (range_with_len (suc base) k)) (let h = below_head in none (below.head l) base h);
        };
        fit = below_fits;
        short = let h = below_head in let s = fits.short in omega arith;
      };
      head = let h = below_head in omega arith;
      same = λ q some limit. refl;
      short = fits.short;
    }
      where
        none : (a b : ℕ) → a ≡ b → 0 ≡ a - b
        none a b same = omega arith

  -- ---- one segment

  -- a segment that is below what was read
  passes_over : (v g : Filed) (feed : FeedState) (s : Segment) → Along v g feed → s.name.seq ≤ v.head l
      → (fed_with feed s ≡ feed) × (with_name texts l g s.name ≡ g)
  unfolding fed_with
  passes_over v g feed s k low =
      let e = feed_ends part (filing n v) l feed k.feed in
      let h = k.head in (
        second_of (nat_lt feed.end s.name.seq) _ feed (grind (arith, nat_tests, e, low)),
        second_of (s.name.seq == suc (g.head l)) (with_segment g l (texts s.name)) g (grind (arith, nat_tests, h, low)),
      )

  -- the next one
  module _ (v g : Filed) (feed : FeedState) (s : Segment) (k : Along v g feed) (seq : s.name.seq ≡ suc (v.head l)) (fits : RowsFit (rows_of s)) where
    abbrev later : Filed
    later = with_segment v l s

    fed_more : suc (v.head l) < u32_end → FeedSeen part (filing n later) l (fed_with feed s)
    unfolding fed_with
    fed_more short = subst (λ q. FeedSeen part (filing n later) l (settled feed q (rows_of s))) (sym seq)
        ((feeds_grow part (filing n v) l feed k.feed).own s fits short)

    same_more : (h : Filed) → ((q : ℕ) → 0 < q → q ≤ v.head l → h.segment l q ≡ g.segment l q) → h.segment l (suc (v.head l)) ≡ s
        → (q : ℕ) → 0 < q → q ≤ later.head l → h.segment l q ≡ later.segment l q
    same_more h old new q some limit = by (nat_le q (v.head l)) refl
      where
        within : nat_le q (v.head l) ≡ true → q ≤ v.head l
        within fact = grind (arith, nat_tests)

        highest : nat_le q (v.head l) ≡ false → suc (v.head l) ≡ q
        highest fact = let e = head_is l v s in grind (arith, nat_tests, e, limit)

        by : (t : Bool) → nat_le q (v.head l) ≡ t → h.segment l q ≡ later.segment l q
        by true fact = old q some (within fact) ∙ k.same q some (within fact) ∙ sym ((more_is_filed v l s).segment l q some (within fact))
        by false fact = subst (λ p. h.segment l p ≡ later.segment l p) (highest fact) (new ∙ sym (segment_is l v s))

    -- that is filed already
    reads_on : suc (v.head l) ≤ g.head l → s ≡ g.segment l s.name.seq → Along later (with_name texts l g s.name) (fed_with feed s)
    reads_on within fact = subst (λ h. Along later h (fed_with feed s)) (sym (second_of (s.name.seq == suc (g.head l)) (with_segment g l (texts s.name)) g
        (grind (arith, nat_tests, seq, within)))) (record {
          feed = fed_more (let a = k.short in omega arith);
          head = let e = head_is l v s in omega arith;
          same = same_more g (λ q some limit. refl) (subst (λ q. g.segment l q ≡ s) seq (sym fact));
          short = k.short;
        })

    -- that is filed now
    files_on : v.head l ≡ g.head l → s ≡ texts s.name → FilesNext New texts l g s.name → Along later (with_name texts l g s.name) (fed_with feed s)
    files_on highest text owed =
        let at : s.name.seq ≡ suc (g.head l) = seq ∙ ap suc highest in
        subst (λ h. Along later h (fed_with feed s)) (sym (next_files texts l g s.name at ∙ ap (with_segment g l) (sym text))) (record {
          feed = fed_more (let a = owed.short in omega arith);
          head = let e = head_is l v s in let d = head_is l g s in omega arith;
          same = same_more (with_segment g l s) (λ q some limit. (more_is_filed g l s).segment l q some (omega arith))
              (ap ((with_segment g l s).segment l) (ap suc highest) ∙ segment_is l g s);
          short = let d = head_is l g s in let a = owed.short in omega arith;
        })

  -- ---- all that was read

  -- it goes along to this number, which is that of what is filed last
  pub record Arrives (last : ℕ) (g : Filed) (feed : FeedState) : Type 0 where
    pub read : Filed
    pub along : Along read g feed
    pub reads : read.head l ≡ last
    pub files : g.head l ≡ last

  abbrev Claim : ℕ → ℕ → List Segment → Type 0
  Claim last first chain =
      (v g : Filed) (feed : FeedState) → Along v g feed → NumberedFrom first chain → first ≤ suc (v.head l) → first + length chain ≡ suc last → g.head l ≤ last
      → ((s : Segment) → Among s chain → v.head l < s.name.seq → s.name.seq ≤ g.head l → s ≡ g.segment l s.name.seq)
      → AllByRecursion (λ s. s ≡ texts s.name) chain
      → AllByRecursion (λ (s : Segment). RowsFit (rows_of s)) chain → FilesOwed New texts l g (map filed chain)
      → Arrives last (filed_after texts l g (map filed chain)) (feed_all feed chain)

  goes_one : (last first : ℕ) (s : Segment) (chain : List Segment) → Claim last (suc first) chain → Claim last first (s ∷ chain)
  goes_one last first s chain rest v g feed k numbers from to limit old text fits owed =
      by (nat_le first (v.head l)) (nat_lt (v.head l) (g.head l)) refl refl
    where
      seq : s.name.seq ≡ first
      seq = numbers.0

      next_to : suc first + length chain ≡ suc last
      next_to = let t = to in omega arith

      low : nat_le first (v.head l) ≡ true → s.name.seq ≤ v.head l
      low fact = let e = seq in grind (arith, nat_tests, e)

      highest : nat_le first (v.head l) ≡ false → s.name.seq ≡ suc (v.head l)
      highest fact = let e = seq in let f = from in grind (arith, nat_tests, e, f)

      inside : nat_lt (v.head l) (g.head l) ≡ true → suc (v.head l) ≤ g.head l
      inside fact = grind (arith, nat_tests)

      level : nat_lt (v.head l) (g.head l) ≡ false → v.head l ≡ g.head l
      level fact = let h = k.head in grind (arith, nat_tests, h)

      by : (t u : Bool) → nat_le first (v.head l) ≡ t → nat_lt (v.head l) (g.head l) ≡ u
          → Arrives last (filed_after texts l (with_name texts l g s.name) (map filed chain)) (feed_all (fed_with feed s) chain)
      by true u fact other =
          let over = passes_over v g feed s k (low fact) in
          subst (λ h. Arrives last (filed_after texts l h (map filed chain)) (feed_all (fed_with feed s) chain)) (sym over.1)
          (subst (λ x. Arrives last (filed_after texts l g (map filed chain)) (feed_all x chain)) (sym over.0)
          (rest v g feed k numbers.1 (let a = low fact in let e = seq in omega arith) next_to limit
          (λ x there. old x (inr there)) text.1 fits.1 (subst (λ h. FilesOwed New texts l h (map filed chain)) over.1 owed.1)))
      by false true fact within =
          let h = with_name texts l g s.name in
          let same : h ≡ g = second_of (s.name.seq == suc (g.head l)) (with_segment g l (texts s.name)) g
          (let e = highest fact in let w = inside within in grind (arith, nat_tests, e, w)) in
          let e = head_is l v s in
          rest (with_segment v l s) h (fed_with feed s)
          (reads_on v g feed s k (highest fact) fits.0 (inside within)
          (old s (inl refl) (let t = highest fact in omega arith) (let t = highest fact in let w = inside within in omega arith)))
          numbers.1 (let a = seq in let t = highest fact in omega arith) next_to (subst (λ x. x.head l ≤ last) (sym same) limit)
          (λ x there after upto. subst (λ (y : Filed). x ≡ y.segment l x.name.seq) (sym same)
          (old x (inr there) (omega arith) (subst (λ (y : Filed). x.name.seq ≤ y.head l) same upto)))
          text.1 fits.1 owed.1
      by false false fact within =
          let h = with_name texts l g s.name in
          let at : s.name.seq ≡ suc (g.head l) = highest fact ∙ ap suc (level within) in
          let same = next_files texts l g s.name at in
          let e = head_is l v s in
          let d = head_is l g (texts s.name) in
          let heads : h.head l ≡ suc (g.head l) = ap (λ (x : Filed). x.head l) same ∙ d in
          rest (with_segment v l s) h (fed_with feed s)
          (files_on v g feed s k (highest fact) fits.0 (level within) text.0 (owed.0 at))
          numbers.1 (let a = seq in let t = highest fact in omega arith) next_to (let a = seq in let t = next_to in omega arith)
          (λ x there after upto. absurd (let w = level within in omega arith))
          text.1 fits.1 owed.1

  goes_along : (last first : ℕ) (chain : List Segment) → Claim last first chain
  goes_along last first [] v g feed k numbers from to limit old text fits owed =
      let h = k.head in record { read = v; along = k; reads = omega arith; files = omega arith }
  goes_along last first (s ∷ chain) v g feed k numbers from to limit old text fits owed =
      goes_one last first s chain (goes_along last (suc first) chain) v g feed k numbers from to limit old text fits owed

  -- ---- the end of a reopening

  -- what was read of it, and what is filed, are the same log
  same_log : (last : ℕ) (g : Filed) (feed : FeedState) → (a : Arrives last g feed) → IsSameLog l a.read g
  same_log last g feed a = record { head = a.files ∙ sym a.reads; segment = a.along.same }

  -- what was read back is filed, and the feed was told of all that is
  pub record Reopened (last : ℕ) (g : Filed) (its : FeedState) : Type 0 where
    pub feed : FeedSeen part (filing n g) l its
    pub head : g.head l ≡ last

  pub reopened : (f : Filed) (low last : ℕ) (chain : List Segment) → ReadBack texts l f low last chain → LogFits part (filing n f) l
      → FilesOwed New texts l f (map filed chain) → Reopened last (filed_after texts l f (map filed chain)) (feed_all (feed_start (low - 1)) chain)
  reopened f low last chain back fits owed =
      let h = back.horizon in
      let some = back.some in
      let base : low - 1 ≤ f.head l = omega arith in
      let v = below f fits (low - 1) base in
      let e : v.head l ≡ low - 1 = at_same l (low - 1) (f.head l) in
      let from = back.from in
      let a = goes_along last back.first chain v f (feed_start (low - 1)) (begins_along f fits (low - 1) base) back.numbers (omega arith) back.to back.reaches
      (λ s there after upto. back.filed s there (omega arith) upto) back.named back.fits owed in
      record {
        feed = same_feed part (filing n a.read) (filing n (filed_after texts l f (map filed chain))) l (feed_all (feed_start (low - 1)) chain)
            (same_log last (filed_after texts l f (map filed chain)) (feed_all (feed_start (low - 1)) chain) a) a.along.feed;
        head = a.files;
      }
