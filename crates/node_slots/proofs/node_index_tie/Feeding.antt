-- While a log files, a feed that is told of what it files is seen; what other logs file leaves it seen.
use Rattle.std.proofs.Common.{◌≡◌, ℕ, zero, suc, ◌+◌, ◌-◌, ◌<◌, ◌≤◌, ◌==◌, ◌&&◌, Bool, true, false, cond, max, List, [], ◌∷◌, ◌++◌, map, refl, sym, ap, subst, ◌∙◌, arith}
use Rattle.std.specs.Prelude.{nat_lt, nat_le}
use Rattle.std.specs.List.{range_with_len}
use Rattle.std.proofs.lemmas.Bool.{eqb-true}
use Rattle.std.proofs.lemmas.Bool.Decides.{nat_tests}
use Rattle.xfs_base.specs.Limits.{u32_end}
use Rattle.xfs_base.specs.declared.block.BlockId.{BlockId}
use Rattle.xfs_base.specs.declared.entry.Entry.{Entry}
use Rattle.xfs_base.proofs.StepLoops.{steps_both}
use Rattle.segment_format.specs.Rows.{rows_of}
use Rattle.segment_format.specs.declared.segment.Segment.{Segment}
use Rattle.delta_feed.specs.FeedState.{FeedState, feed_start}
use Rattle.delta_feed.specs.History.{greatest, settled_numbers, end_of, filed_by}
use Rattle.delta_feed.specs.Transition.{settled, transition}
use Rattle.delta_feed.specs.declared.input.In.{In}
use Rattle.delta_feed.specs.declared.input.In.TheVariants.{Settled, Ack, NewEpoch, Push, Tick}
use Rattle.delta_feed.proofs.AfterInputs.{greatest-max}
use Rattle.index_tie.specs.Feeds.{fed_at}
use Rattle.headline.specs.Filed.{Filed, rows_at}
use Rattle.index_tie.specs.Growth.{with_segment}
use Rattle.index_tie.specs.Net.{Net}
use Rattle.index_tie.proofs.Growth.{rows_stay, more_is_filed}
use Rattle.index_tie.proofs.Tables.{at_same, at_other, first_of, second_of}
use Rattle.node_slots.specs.node_index_tie.OwnerEvents.{FeedSeen, FeedsGrow}
use Rattle.node_slots.specs.node_index_tie.Sight.{RowsFit}

-- ---- one more segment is settled

max_is : (a b : ℕ) → a < b → max b a ≡ b
max_is a b h = grind (arith, nat_tests)

max_later : (a b : ℕ) → a < b → max a b ≡ b
max_later a b h = grind (arith, nat_tests)

below_max : (a b c : ℕ) → max a b < c → a < c
below_max a b c h = grind (arith, nat_tests)

past_max : (a b c : ℕ) → max a b < c → b < c
past_max a b c h = grind (arith, nat_tests)

numbers_more : (xs : List In) (seq : ℕ) (rows : List (BlockId × Entry)) → settled_numbers (xs ++ Settled seq rows ∷ []) ≡ settled_numbers xs ++ seq ∷ []
numbers_more [] seq rows = refl
numbers_more (Settled s r ∷ xs) seq rows = ap (λ ns. s ∷ ns) (numbers_more xs seq rows)
numbers_more (Ack slot applied ∷ xs) seq rows = numbers_more xs seq rows
numbers_more (NewEpoch slot ∷ xs) seq rows = numbers_more xs seq rows
numbers_more (Push slot ∷ xs) seq rows = numbers_more xs seq rows
numbers_more (Tick ∷ xs) seq rows = numbers_more xs seq rows

greatest_more : (base : ℕ) (ns : List ℕ) (seq : ℕ) → greatest base ns < seq → greatest base (ns ++ seq ∷ []) ≡ seq
greatest_more base [] seq less = max_is base seq less
greatest_more base (n ∷ ns) seq less = ap (max n) (greatest_more base ns seq (past_max n (greatest base ns) seq less)) ∙ max_later n seq
    (below_max n (greatest base ns) seq less)

filed_more : (base : ℕ) (xs : List In) (seq : ℕ) (rows : List (BlockId × Entry)) → end_of base xs < seq
    → filed_by base (xs ++ Settled seq rows ∷ []) ≡ filed_by base xs ++ record { seq = seq; rows = rows } ∷ []
filed_more base [] seq rows less = first_of (nat_lt base seq) (record { seq = seq; rows = rows } ∷ []) [] (grind (arith, nat_tests))
filed_more base (Settled s r ∷ xs) seq rows less =
    by (nat_lt base s) refl (λ below. filed_more s xs seq rows (let same = end_from below in omega arith))
    (filed_more base xs seq rows (past_max s (end_of base xs) seq less))
  where
    end_from : nat_lt base s ≡ true → end_of s xs ≡ max s (end_of base xs)
    end_from below = ap (λ k. greatest k (settled_numbers xs)) (sym (max_is base s (grind (arith, nat_tests)))) ∙ greatest-max s base (settled_numbers xs)

    by : (t : Bool) → nat_lt base s ≡ t
        → (nat_lt base s ≡ true → filed_by s (xs ++ Settled seq rows ∷ []) ≡ filed_by s xs ++ record { seq = seq; rows = rows } ∷ [])
        → filed_by base (xs ++ Settled seq rows ∷ []) ≡ filed_by base xs ++ record { seq = seq; rows = rows } ∷ []
        → cond t (record { seq = s; rows = r } ∷ filed_by s (xs ++ Settled seq rows ∷ [])) (filed_by base (xs ++ Settled seq rows ∷ []))
        ≡ cond t (record { seq = s; rows = r } ∷ filed_by s xs) (filed_by base xs) ++ record { seq = seq; rows = rows } ∷ []
    by true fact a b = ap (λ fs. record { seq = s; rows = r } ∷ fs) (a fact)
    by false fact a b = b
filed_more base (Ack slot applied ∷ xs) seq rows less = filed_more base xs seq rows less
filed_more base (NewEpoch slot ∷ xs) seq rows less = filed_more base xs seq rows less
filed_more base (Push slot ∷ xs) seq rows less = filed_more base xs seq rows less
filed_more base (Tick ∷ xs) seq rows less = filed_more base xs seq rows less

-- ---- ranges of numbers

map_more : {X Y : Type 0} (f : X → Y) (xs ys : List X) → map f (xs ++ ys) ≡ map f xs ++ map f ys
map_more f [] ys = refl
map_more f (x ∷ xs) ys = ap (λ r. f x ∷ r) (map_more f xs ys)

range_more : (first n : ℕ) → range_with_len first (suc n) ≡ range_with_len first n ++ (first + n) ∷ []
range_more first zero = ap (λ k. k ∷ []) (plus first)
  where
    plus : (k : ℕ) → k ≡ k + 0
    plus k = omega arith
range_more first (suc n) = ap (λ r. first ∷ r) (range_more (first + 1) n ∙ ap (λ k. range_with_len (first + 1) n ++ k ∷ []) (plus first n))
  where
    plus : (a b : ℕ) → a + 1 + b ≡ a + suc b
    plus a b = omega arith

-- ---- a log files

module _ (part : ℕ) (n : Net) (l : ℕ) (feed : FeedState) (k : FeedSeen part n l feed) where
  abbrev head : ℕ
  head = n.filed.head l

  module _ (s : Segment) where
    abbrev later : Filed
    later = with_segment n.filed l s

    new_head : later.head l ≡ suc head
    new_head = at_same l (suc head) head

    new_rows : rows_at later l (suc head) ≡ rows_of s
    new_rows =
        first_of (nat_lt 0 (suc head) && nat_le (suc head) (later.head l)) (rows_of (later.segment l (suc head))) []
        (let h = new_head in grind (arith, nat_tests, h))
        ∙ ap rows_of (at_same l (cond (suc head == suc head) s (n.filed.segment l (suc head))) (n.filed.segment l (suc head)) ∙ at_same (suc head) s
        (n.filed.segment l (suc head)))

    old_rows : (q : ℕ) → q ≤ head → rows_at later l q ≡ rows_at n.filed l q
    old_rows q limit = rows_stay n.filed later l q (more_is_filed n.filed l s) limit

    no_rows : (q : ℕ) → suc head < q → rows_at later l q ≡ []
    no_rows q past = second_of (nat_lt 0 q && nat_le q (later.head l)) (rows_of (later.segment l q)) [] (let h = new_head in grind (arith, nat_tests, h))

    fits : RowsFit (rows_of s) → (q : ℕ) → RowsFit (rows_at later l q)
    fits fit q = by (nat_le q head) (q == suc head) refl refl
      where
        within : nat_le q head ≡ true → q ≤ head
        within h = grind (arith, nat_tests)

        beyond : nat_le q head ≡ false → (q == suc head) ≡ false → suc head < q
        beyond h i = grind (arith, nat_tests)

        by : (t u : Bool) → nat_le q head ≡ t → (q == suc head) ≡ u → RowsFit (rows_at later l q)
        by true u fact other = subst RowsFit (sym (old_rows q (within fact))) (k.fit q)
        by false true fact at = subst (λ x. RowsFit (rows_at later l x)) (sym (eqb-true q (suc head) at)) (subst RowsFit (sym new_rows) fit)
        by false false fact other = subst RowsFit (sym (no_rows q (beyond fact other))) tt

    old_feds : (first m : ℕ) → first + m ≤ suc head → map (fed_at n.filed l) (range_with_len first m) ≡ map (fed_at later l) (range_with_len first m)
    old_feds first zero low = refl
    old_feds first (suc m) low = ap (λ r. record { seq = first; rows = r } ∷ map (fed_at n.filed l) (range_with_len (first + 1) m))
        (sym (old_rows first (omega arith))) ∙ ap (λ fs. fed_at later l first ∷ fs) (old_feds (first + 1) m (omega arith))

    each : filed_by k.base (k.inputs ++ Settled (suc head) (rows_of s) ∷ []) ≡ map (fed_at later l) (range_with_len (suc k.base) (later.head l - k.base))
    each =
        let known = k.fed.known in
        let count : later.head l - k.base ≡ suc (head - k.base) = let h = new_head in omega arith in
        let last : suc k.base + (head - k.base) ≡ suc head = omega arith in
        filed_more k.base k.inputs (suc head) (rows_of s) (let e = k.fed.end in omega arith)
        ∙ ap (λ fs. fs ++ record { seq = suc head; rows = rows_of s } ∷ []) (k.fed.each ∙ old_feds (suc k.base) (head - k.base) (omega arith))
        ∙ ap (λ r. map (fed_at later l) (range_with_len (suc k.base) (head - k.base)) ++ record { seq = suc head; rows = r } ∷ []) (sym new_rows)
        ∙ ap (λ q. map (fed_at later l) (range_with_len (suc k.base) (head - k.base)) ++ fed_at later l q ∷ []) (sym last)
        ∙ sym (map_more (fed_at later l) (range_with_len (suc k.base) (head - k.base)) ((suc k.base + (head - k.base)) ∷ []))
        ∙ ap (map (fed_at later l)) (sym (range_more (suc k.base) (head - k.base))) ∙ ap (λ m. map (fed_at later l) (range_with_len (suc k.base) m))
        (sym count)

    own : RowsFit (rows_of s) → suc head < u32_end → FeedSeen part (record n { filed = with_segment n.filed l s }) l (settled feed (suc head) (rows_of s))
    own fit short = record {
      base = k.base;
      inputs = k.inputs ++ Settled (suc head) (rows_of s) ∷ [];
      feed_is = ap (λ x. (transition x (Settled (suc head) (rows_of s))).state) k.feed_is
          ∙ sym (steps_both transition (feed_start k.base) k.inputs (Settled (suc head) (rows_of s) ∷ []));
      fed = record {
        known = let a = k.fed.known in let h = new_head in omega arith;
        end = ap (greatest k.base) (numbers_more k.inputs (suc head) (rows_of s)) ∙ greatest_more k.base (settled_numbers k.inputs) (suc head)
            (let e = k.fed.end in omega arith) ∙ sym new_head;
        each = each;
      };
      fit = fits fit;
      short = let h = new_head in omega arith;
    }

  -- ---- another log files

  module _ (other : ℕ) (s : Segment) (apart : other ≡ l → ⊥) where
    abbrev then_filed : Filed
    then_filed = with_segment n.filed other s

    same_head : then_filed.head l ≡ head
    same_head = at_other l other (suc (n.filed.head other)) head (λ e. apart (sym e))

    same_rows : (q : ℕ) → rows_at then_filed l q ≡ rows_at n.filed l q
    same_rows q =
        ap (λ h. cond (nat_lt 0 q && nat_le q h) (rows_of (then_filed.segment l q)) []) same_head
        ∙ ap (λ x. cond (nat_lt 0 q && nat_le q head) (rows_of x) [])
        (at_other l other (cond (q == suc (n.filed.head other)) s (n.filed.segment l q)) (n.filed.segment l q) (λ e. apart (sym e)))

    same_feds : (qs : List ℕ) → map (fed_at n.filed l) qs ≡ map (fed_at then_filed l) qs
    same_feds [] = refl
    same_feds (q ∷ qs) = ap (λ r. record { seq = q; rows = r } ∷ map (fed_at n.filed l) qs) (sym (same_rows q)) ∙ ap (λ fs. fed_at then_filed l q ∷ fs)
        (same_feds qs)

    theirs : FeedSeen part (record n { filed = with_segment n.filed other s }) l feed
    theirs = record {
      base = k.base;
      inputs = k.inputs;
      feed_is = k.feed_is;
      fed = record {
        known = let a = k.fed.known in let h = same_head in omega arith;
        end = k.fed.end ∙ sym same_head;
        each = k.fed.each ∙ same_feds (range_with_len (suc k.base) (head - k.base)) ∙ ap
            (λ h. map (fed_at then_filed l) (range_with_len (suc k.base) (h - k.base))) (sym same_head);
      };
      fit = λ q. subst RowsFit (sym (same_rows q)) (k.fit q);
      short = let h = same_head in let a = k.short in omega arith;
    }

pub feeds_grow : FeedsGrow
feeds_grow part n l feed k = record { own = λ s fit short. own part n l feed k s fit short; others = λ other s apart. theirs part n l feed k other s apart }
