-- What is true of every round: it stays true, and gives what joining asks.
use Rattle.std.proofs.Common.{◌≡◌, ℕ, ◌+◌, ◌-◌, ◌≤◌, zero, suc, true, false, cond, ◌&&◌, List, [], ◌∷◌, ◌++◌, Option, Some, None, length, map, refl, sym, ◌∙◌, ap, subst, arith}
use Rattle.std.proofs.lemmas.Bool.{eqb-true, ltb-true}
use Rattle.std.proofs.lemmas.List.Elements.{All-nil, All-cons, All-head, All-tail, All-append}
use Rattle.std.proofs.lemmas.List.FromFn.{length-map-range_with_len}
use Rattle.std.proofs.lemmas.List.Sums.{sum_by-cons}
use Rattle.std.specs.List.{range_with_len}
use Rattle.std.specs.Prelude.{All, IfSome, unwrap_or, is_some, count_by, ◌==◌, nat_lt, if◌then◌else◌}
use Rattle.stripe_code.specs.declared.round.Answer.{Answer}
use Rattle.stripe_code.specs.declared.round.Told.{Told}
use Rattle.stripe_code.specs.declared.round.Told.TheVariants.{Held, Missing}
use Rattle.xfs_base.specs.declared.fragment.Fragment.{Fragment}
use Rattle.xfs_base.proofs.Booleans.{and_first, and_second}
use Rattle.stripe_code.specs.Round.{RoundSoFar, IsRound, IsPart, TellsPart, count_of, bytes_in, bytes_told, len_in, len_told, parts_in, told_fits, is_as_before}
use Rattle.stripe_code.specs.Joined.{HasLengths, too_many, missing_from}
use Rattle.stripe_code.specs.Stripe.{IsCut, part_len}

-- ---- the parts that are in are as long as joining asks

bytes_long_more : (n count len index : ℕ) (told : Told) (others : Option (List ℕ)) → TellsPart n count len told
    → IfSome others (λ b. length b ≡ part_len len count)
    → IfSome (bytes_told index told others) (λ b. length b ≡ part_len len count)
bytes_long_more n count len index (Missing g) others part long = long
bytes_long_more n count len index (Held f) others part long =
    elim (f.meta.index == index) as (λ t. IfSome (if t then Some f.bytes else others) (λ b. length b ≡ part_len len count)) [ true ↦ part.long | false ↦ long ]

bytes_long : (n count len index : ℕ) (answers : List Answer) → All (λ a. TellsPart n count len a.told) answers
    → IfSome (bytes_in index answers) (λ b. length b ≡ part_len len count)
bytes_long n count len index [] all = tt
bytes_long n count len index (a ∷ rest) all =
    bytes_long_more n count len index a.told (bytes_in index rest) (All-head (λ (b : Answer). TellsPart n count len b.told) a rest all)
    (bytes_long n count len index rest (All-tail (λ (b : Answer). TellsPart n count len b.told) a rest all))

each_index : (P : Option (List ℕ) → Type 0) (f : ℕ → Option (List ℕ)) (from n : ℕ) → ((i : ℕ) → P (f i)) → All P (map f (range_with_len from n))
each_index P f from zero all = All-nil P
each_index P f from (suc n) all = All-cons P (f from) (map f (range_with_len (from + 1) n)) (all from) (each_index P f (from + 1) n all)

pub round_lengths : (r : RoundSoFar) → IsRound r → HasLengths (part_len (unwrap_or (len_in r.answers) 0) (count_of r)) (parts_in r.n r.answers)
round_lengths r fact =
    each_index (λ p. IfSome p (λ f. length f ≡ part_len (unwrap_or (len_in r.answers) 0) (count_of r))) (λ index. bytes_in index r.answers) 0 r.n
    (λ index. bytes_long r.n (count_of r) (unwrap_or (len_in r.answers) 0) index r.answers fact.parts)

-- ---- one more answer

or_else : Option ℕ → Option ℕ → Option ℕ
or_else None b = b
or_else (Some a) b = Some a

or-told : (t : Told) (x y : Option ℕ) → len_told t (or_else x y) ≡ or_else (len_told t x) y
unfolding or_else
or-told (Held f) x y = refl
or-told (Missing g) x y = refl

len-push : (answers : List Answer) (a : Answer) → len_in (answers ++ a ∷ []) ≡ or_else (len_in answers) (len_told a.told None)
unfolding or_else
len-push [] a = refl
len-push (b ∷ rest) a = ap (len_told b.told) (len-push rest a) ∙ or-told b.told (len_in rest) (len_told a.told None)

-- where no fragment is in, nothing is asked of what is told
none_told : (n count len : ℕ) (t : Told) (others : Option ℕ) → len_told t others ≡ None → TellsPart n count len t × (others ≡ None)
none_told n count len (Held f) others none = cc
none_told n count len (Missing g) others none = (tt, none)

none_in : (n count len : ℕ) (answers : List Answer) → len_in answers ≡ None → All (λ a. TellsPart n count len a.told) answers
none_in n count len [] none = All-nil (λ (a : Answer). TellsPart n count len a.told)
none_in n count len (a ∷ rest) none =
    let here = none_told n count len a.told (len_in rest) none in
    All-cons (λ (b : Answer). TellsPart n count len b.told) a rest here.0 (none_in n count len rest here.1)

new_part : (n count : ℕ) (before : Option ℕ) (f : Fragment)
    → (nat_lt f.meta.index n && is_as_before before f.meta.len && (length f.bytes == part_len f.meta.len count)) ≡ true
    → IsPart n count (unwrap_or (or_else before (Some f.meta.len)) 0) f
unfolding or_else
new_part n count None f h =
    let front = and_first (nat_lt f.meta.index n && true) _ h in
    record {
      index = ltb-true f.meta.index n (and_first (nat_lt f.meta.index n) _ front);
      says = refl;
      long = eqb-true (length f.bytes) (part_len f.meta.len count) (and_second (nat_lt f.meta.index n && true) _ h);
    }
new_part n count (Some len) f h =
    let front = and_first (nat_lt f.meta.index n && (f.meta.len == len)) _ h in
    let same : f.meta.len ≡ len = eqb-true f.meta.len len (and_second (nat_lt f.meta.index n) _ front) in
    record {
      index = ltb-true f.meta.index n (and_first (nat_lt f.meta.index n) _ front);
      says = same;
      long = eqb-true (length f.bytes) (part_len f.meta.len count) (and_second (nat_lt f.meta.index n && (f.meta.len == len)) _ h)
          ∙ ap (λ (k : ℕ). part_len k count) same;
    }

new_told : (r : RoundSoFar) (told : Told) → told_fits r told ≡ true
    → TellsPart r.n (count_of r) (unwrap_or (or_else (len_in r.answers) (len_told told None)) 0) told
new_told r (Held f) fit = new_part r.n (count_of r) (len_in r.answers) f fit
new_told r (Missing g) fit = tt

old_told : (n count : ℕ) (answers : List Answer) (more : Option ℕ) (before : Option ℕ) → len_in answers ≡ before
    → All (λ a. TellsPart n count (unwrap_or before 0) a.told) answers
    → All (λ a. TellsPart n count (unwrap_or (or_else before more) 0) a.told) answers
unfolding or_else
old_told n count answers more None none all = none_in n count (unwrap_or more 0) answers none
old_told n count answers more (Some len) fact all = all

-- one more answer that fits keeps a round a round
pub pushed_is_round : (r : RoundSoFar) (server : ℕ) (told : Told) → IsRound r → told_fits r told ≡ true
    → IsRound (record r { answers = r.answers ++ record { server = server; told = told } ∷ [] })
pushed_is_round r server told fact fit =
    let a : Answer = record { server = server; told = told } in
    let more = len_told told None in
    let P = λ (o : Option ℕ) (b : Answer). TellsPart r.n (count_of r) (unwrap_or o 0) b.told in
    record {
      cut = fact.cut;
      parts = subst (λ (o : Option ℕ). All (P o) (r.answers ++ a ∷ [])) (sym (len-push r.answers a))
          (All-append (P (or_else (len_in r.answers) more)) r.answers (a ∷ []) (old_told r.n (count_of r) r.answers more (len_in r.answers) refl fact.parts)
          (All-cons (P (or_else (len_in r.answers) more)) a [] (new_told r told fit) (All-nil (P (or_else (len_in r.answers) more)))));
    }

-- ---- what joining asks of a round

pub round_cut : (r : RoundSoFar) (ps : List (Option (List ℕ))) → IsRound r → ps ≡ parts_in r.n r.answers → IsCut (length ps) r.parity
round_cut r ps fact e =
    let many : length ps ≡ r.n = ap (λ (qs : List (Option (List ℕ))). length qs) e ∙ length-map-range_with_len (λ index. bytes_in index r.answers) 0 r.n in
    subst (λ (n : ℕ). IsCut n r.parity) (sym many) fact.cut

pub round_parts : (r : RoundSoFar) (ps : List (Option (List ℕ))) → IsRound r → ps ≡ parts_in r.n r.answers
    → HasLengths (part_len (unwrap_or (len_in r.answers) 0) (length ps - r.parity)) ps
round_parts r ps fact e =
    let many : length ps ≡ r.n = ap (λ (qs : List (Option (List ℕ))). length qs) e ∙ length-map-range_with_len (λ index. bytes_in index r.answers) 0 r.n in
    let len = unwrap_or (len_in r.answers) 0 in
    subst (λ (n : ℕ). HasLengths (part_len len (n - r.parity)) ps) (sym many)
    (subst (λ (qs : List (Option (List ℕ))). HasLengths (part_len len (count_of r)) qs) (sym e) (round_lengths r fact))

few_excess : (parity : ℕ) → 1 ≤ parity → parity ≤ 2 → (gone : List ℕ) → length gone ≤ parity → too_many parity gone ≡ None
few_excess zero some limit gone few = absurd (omega arith)
few_excess (suc zero) some limit [] few = refl
few_excess (suc zero) some limit (a ∷ []) few = refl
few_excess (suc zero) some limit (a ∷ b ∷ rest) few = absurd (omega arith)
few_excess (suc (suc zero)) some limit [] few = refl
few_excess (suc (suc zero)) some limit (a ∷ []) few = refl
few_excess (suc (suc zero)) some limit (a ∷ b ∷ []) few = refl
few_excess (suc (suc zero)) some limit (a ∷ b ∷ c ∷ rest) few = absurd (omega arith)
few_excess (suc (suc (suc n))) some limit gone few = absurd (omega arith)

none_more : (a b n : ℕ) → a + b ≡ n → suc a + b ≡ suc n
none_more a b n e = omega arith

count_some : (f : List ℕ) (ps : List (Option (List ℕ))) → count_by is_some (Some f ∷ ps) ≡ 1 + count_by is_some ps
count_some f ps = sum_by-cons (λ p. cond (is_some p) 1 0) (Some f) ps

some_more : (a b n : ℕ) → a + b ≡ n → a + (1 + b) ≡ suc n
some_more a b n e = omega arith

missing_and_there : (i : ℕ) (ps : List (Option (List ℕ))) → length (missing_from i ps) + count_by is_some ps ≡ length ps
missing_and_there i [] = refl
missing_and_there i (None ∷ ps) = none_more (length (missing_from (i + 1) ps)) (count_by is_some ps) (length ps) (missing_and_there (i + 1) ps)
missing_and_there i (Some f ∷ ps) =
    ap (λ (n : ℕ). length (missing_from (i + 1) ps) + n) (count_some f ps)
    ∙ some_more (length (missing_from (i + 1) ps)) (count_by is_some ps) (length ps) (missing_and_there (i + 1) ps)

-- where enough is in, no more is missing than the parity makes good
pub enough_in : (r : RoundSoFar) (ps : List (Option (List ℕ))) → IsRound r → ps ≡ parts_in r.n r.answers → count_of r ≤ count_by is_some ps
    → too_many r.parity (missing_from 0 ps) ≡ None
enough_in r ps fact e enough =
    let many : length ps ≡ r.n = ap (λ (qs : List (Option (List ℕ))). length qs) e ∙ length-map-range_with_len (λ index. bytes_in index r.answers) 0 r.n in
    let all = missing_and_there 0 ps in
    few_excess r.parity fact.cut.some fact.cut.few (missing_from 0 ps) (omega (arith, fact.cut.least))
