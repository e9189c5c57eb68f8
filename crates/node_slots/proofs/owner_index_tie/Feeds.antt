-- How a feed is seen depends on what its log filed alone; and where it ends.
use Rattle.std.proofs.Common.{◌≡◌, ◌≤◌, ◌<◌, ℕ, suc, ◌-◌, ◌&&◌, Bool, true, false, cond, List, [], ◌∷◌, map, refl, sym, ap, subst, ◌∙◌, arith}
use Rattle.std.specs.Prelude.{nat_lt, nat_le}
use Rattle.std.specs.List.{range_with_len}
use Rattle.std.proofs.lemmas.Bool.Decides.{nat_tests}
use Rattle.client_log.specs.LogState.{LogState}
use Rattle.delta_feed.specs.FeedState.{FeedState}
use Rattle.delta_feed.proofs.AfterInputs.{is_after}
use Rattle.index_tie.specs.Feeds.{fed_at}
use Rattle.headline.specs.Filed.{Filed, rows_at}
use Rattle.index_tie.specs.Net.{Net}
use Rattle.node_slots.specs.node_index_tie.OwnerEvents.{FeedSeen}
use Rattle.node_slots.specs.node_index_tie.Sight.{RowsFit}
use Rattle.segment_format.specs.Rows.{rows_of}
use Rattle.xfs_base.specs.declared.block.BlockId.{BlockId}
use Rattle.xfs_base.specs.declared.entry.Entry.{Entry}
use Rattle.xfs_base.specs.declared.segment.End.{End}
use Rattle.segment_format.specs.declared.segment.Segment.{Segment}
use Rattle.node_slots.specs.owner_index_tie.Filing.{IsSameLog}
use Rattle.node_slots.specs.owner_index_tie.Owners.{LogFits, IsLastFiled, OwnerSeen}

-- what holds where a seq is filed, and elsewhere
pub by_filed : (P : List (BlockId × Entry) → Type 0) (f : Filed) (l q : ℕ) → (0 < q → q ≤ f.head l → P (rows_of (f.segment l q))) → P [] → P (rows_at f l q)
by_filed P f l q here elsewhere = by (nat_lt 0 q && nat_le q (f.head l)) refl
  where
    by : (t : Bool) → (nat_lt 0 q && nat_le q (f.head l)) ≡ t → P (cond t (rows_of (f.segment l q)) [])
    by true fact = here (grind (arith, nat_tests)) (grind (arith, nat_tests))
    by false fact = elsewhere

-- a feed ends where its log does
pub feed_ends : (part : ℕ) (n : Net) (l : ℕ) (feed : FeedState) → FeedSeen part n l feed → feed.end ≡ n.filed.head l
feed_ends part n l feed k = ap (λ (s : FeedState). s.end) k.feed_is ∙ (is_after k.base k.inputs).end_is ∙ k.fed.end

pub same_rows : (l : ℕ) (f g : Filed) → IsSameLog l f g → (q : ℕ) → rows_at g l q ≡ rows_at f l q
same_rows l f g same q = ap (λ h. cond (nat_lt 0 q && nat_le q h) (rows_of (g.segment l q)) []) same.head ∙ by (nat_lt 0 q && nat_le q (f.head l)) refl
  where
    some : (nat_lt 0 q && nat_le q (f.head l)) ≡ true → 0 < q
    some fact = grind (arith, nat_tests)

    within : (nat_lt 0 q && nat_le q (f.head l)) ≡ true → q ≤ f.head l
    within fact = grind (arith, nat_tests)

    by : (t : Bool) → (nat_lt 0 q && nat_le q (f.head l)) ≡ t → cond t (rows_of (g.segment l q)) [] ≡ cond t (rows_of (f.segment l q)) []
    by true fact = ap rows_of (same.segment q (some fact) (within fact))
    by false fact = refl

same_feds : (l : ℕ) (f g : Filed) → IsSameLog l f g → (qs : List ℕ) → map (fed_at f l) qs ≡ map (fed_at g l) qs
same_feds l f g same [] = refl
same_feds l f g same (q ∷ qs) = ap (λ r. record { seq = q; rows = r } ∷ map (fed_at f l) qs) (sym (same_rows l f g same q))
    ∙ ap (λ fs. fed_at g l q ∷ fs) (same_feds l f g same qs)

pub same_feed : (part : ℕ) (n m : Net) (l : ℕ) (feed : FeedState) → IsSameLog l n.filed m.filed → FeedSeen part n l feed → FeedSeen part m l feed
same_feed part n m l feed same k = record {
  base = k.base;
  inputs = k.inputs;
  feed_is = k.feed_is;
  fed = record {
    known = let a = k.fed.known in let h = same.head in omega arith;
    end = k.fed.end ∙ sym same.head;
    each = k.fed.each ∙ same_feds l n.filed m.filed same (range_with_len (suc k.base) (n.filed.head l - k.base))
        ∙ ap (λ h. map (fed_at m.filed l) (range_with_len (suc k.base) (h - k.base))) (sym same.head);
  };
  fit = λ q. subst RowsFit (sym (same_rows l n.filed m.filed same q)) (k.fit q);
  short = let h = same.head in let a = k.short in omega arith;
}

pub same_fits : (part : ℕ) (n m : Net) (l : ℕ) → IsSameLog l n.filed m.filed → LogFits part n l → LogFits part m l
same_fits part n m l same k = record {
  fit = λ q. subst RowsFit (sym (same_rows l n.filed m.filed same q)) (k.fit q);
  short = let h = same.head in let a = k.short in omega arith;
}

module _ (part : ℕ) (n m : Net) (l : ℕ) where
  same_end : (end : End) → IsSameLog l n.filed m.filed → IsLastFiled part n l end → IsLastFiled part m l end
  same_end end same k = record {
    seq = k.seq ∙ sym same.head;
    pass = λ some. let h = same.head in k.pass (omega arith) ∙ ap (λ (x : Segment). x.name.pass)
        (sym (same.segment (n.filed.head l) (omega arith) (omega arith)))
        ∙ ap (λ q. (m.filed.segment l q).name.pass) (sym h);
  }

  -- an owner that serves
  pub same_owner : (number : ℕ) (state : LogState) (its : FeedState) → IsSameLog l n.filed m.filed → OwnerSeen part n l number state its
      → OwnerSeen part m l number state its
  same_owner number state its same k =
      record { number_is = k.number_is; log = k.log; end = same_end state.end same k.end; feed = same_feed part n m l its same k.feed }
