-- What is believed of a block's holders, and of all else, once each of the others that are believed to hold it gave it up.
use Rattle.std.proofs.Common.{◌≡◌, ℕ, ◌+◌, ◌≤◌, ◌<◌, ◌==◌, ◌&&◌, ◌||◌, Bool, true, false, cond, not, All, List, [], ◌∷◌, length, Some, None, is_some, refl, sym, ap, subst, ◌∙◌, arith}
use Rattle.std.specs.BTreeMap.{is_at}
use Rattle.std.specs.List.{AllByRecursion, IsDistinct, list_any}
use Rattle.std.specs.List.Sorted.{IsStrictlySortedBy}
use Rattle.std.specs.Map.{keys_of, remove_entry, set_value}
use Rattle.std.specs.Ordering.{eq_by_cmp}
use Rattle.std.proofs.lemmas.Bool.{false≢true}
use Rattle.std.proofs.lemmas.Bool.Decides.{nat_tests}
use Rattle.std.proofs.lemmas.List.Elements.{All-cons, All-head, All-tail}
use Rattle.std.proofs.lemmas.Map.Keys.{IsDistinct-from_sorted}
use Rattle.std.proofs.lemmas.Map.Steps.{length-le_from_distinct_below}
use Rattle.std.proofs.lemmas.Map.Views.{tells_apart}
use Rattle.slot_beliefs.proofs.Shares.{belief, disowned, forgotten, holder_cmp_exact, holder_laws, less}
use Rattle.slot_beliefs.specs.Beliefs.{give_way, holder, holder_cmp, others, share, share_of}
use Rattle.slot_beliefs.specs.declared.job.Holder.{Holder}
use Rattle.token_manager.proofs.Guarded.{sorted-give_way}
use Rattle.token_manager.specs.Laws.{OwnsAlone}
use Rattle.xfs_base.proofs.BlockOrder.{same_block_exact, same_block_itself}
use Rattle.xfs_base.specs.Blocks.{same_block}
use Rattle.xfs_base.specs.declared.block.BlockId.{BlockId}
use Rattle.quiet_gives.specs.Recalls.{all_given_up}

abbrev first_of : List ℕ → ℕ
first_of [] = 0
first_of (x ∷ xs) = x

abbrev rest_of : List ℕ → List ℕ
rest_of [] = []
rest_of (x ∷ xs) = xs

abbrev pub IsInOrder : List (Holder × Bool) → Type 0
IsInOrder bs = IsStrictlySortedBy holder_cmp (keys_of bs)

not_at : (h q : Holder) → (q ≡ h → ⊥) → is_at (holder_cmp h) q ≡ false
not_at h q apart =
    elim (eq_by_cmp holder_cmp h q) as (λ t. eq_by_cmp holder_cmp h q ≡ t → t ≡ false) [
      | true ↦ λ same. absurd (apart (sym (tells_apart holder_cmp_exact h q same)))
      | false ↦ λ _. refl
    ] refl

-- ---- who the others are

module _ (b : BlockId) (c : ℕ) (owners : Bool) where
  abbrev is_other : Holder × Bool → Bool
  is_other e = same_block e.0.block b && not (e.0.client == c) && (e.1 || not owners)

  -- what holds of each that is believed to hold something, and isn't the asker, holds of the others
  pub each_other : (P : ℕ → Type 0) (bs : List (Holder × Bool)) → All (λ (e : Holder × Bool). P e.0.client) bs
      → AllByRecursion (λ d. (d ≡ c → ⊥) × P d) (others bs b c owners)
  each_other P [] all = tt
  each_other P (e ∷ es) all =
      let rest : AllByRecursion (λ d. (d ≡ c → ⊥) × P d) (others es b c owners) = each_other P es (All-tail (λ (x : Holder × Bool). P x.0.client) e es all) in
      elim (is_other e) as (λ t. is_other e ≡ t → AllByRecursion (λ d. (d ≡ c → ⊥) × P d) (cond t (e.0.client ∷ others es b c owners) (others es b c owners))) [
        | true ↦ λ is. ((λ same. not_it same is, All-head (λ (x : Holder × Bool). P x.0.client) e es all), rest)
        | false ↦ λ _. rest
      ] refl
    where
      refused : (x y : Bool) → (x && not true && y) ≡ true → ⊥
      refused true y h = false≢true h
      refused false y h = false≢true h

      not_it : e.0.client ≡ c → is_other e ≡ true → ⊥
      not_it same is = refused (same_block e.0.block b) (e.1 || not owners)
          (ap (λ t. same_block e.0.block b && not t && (e.1 || not owners)) (sym (same_number e.0.client c same)) ∙ is)
        where
          same_number : (m n : ℕ) → m ≡ n → (m == n) ≡ true
          same_number m n h = grind (arith, nat_tests)

  -- each of them is believed to hold the block once
  apart_from : (e : Holder × Bool) (es : List (Holder × Bool)) → same_block e.0.block b ≡ true
      → AllByRecursion (λ k. eq_by_cmp holder_cmp e.0 k ≡ false) (keys_of es) → AllByRecursion (λ d. (e.0.client == d) ≡ false) (others es b c owners)
  apart_from e [] its differ = tt
  apart_from e (x ∷ es) its differ =
      let rest : AllByRecursion (λ d. (e.0.client == d) ≡ false) (others es b c owners) = apart_from e es its differ.1 in
      elim (is_other x) as (λ t. is_other x ≡ t → AllByRecursion (λ d. (e.0.client == d) ≡ false) (cond t (x.0.client ∷ others es b c owners) (others es b c owners))) [
        | true ↦ λ is. (differs is, rest)
        | false ↦ λ _. rest
      ] refl
    where
      first : (t u v : Bool) → (t && u && v) ≡ true → t ≡ true
      first true u v h = refl
      first false u v h = absurd (false≢true h)

      equal : (m n : ℕ) → (m == n) ≡ true → m ≡ n
      equal m n h = grind (arith, nat_tests)

      is_same : is_other x ≡ true → e.0.client ≡ x.0.client → e.0 ≡ x.0
      is_same is same =
          ap (λ y. record { block = y; client = e.0.client }) (block_of e its)
          ∙ ap (λ n. holder b n) same
          ∙ ap (λ y. record { block = y; client = x.0.client }) (sym (block_of x (first (same_block x.0.block b) (not (x.0.client == c)) (x.1 || not owners) is)))
        where
          block_of : (y : Holder × Bool) → same_block y.0.block b ≡ true → y.0.block ≡ b
          block_of y h = sym (same_block_exact y.0.block b h)

      differs : is_other x ≡ true → (e.0.client == x.0.client) ≡ false
      differs is =
          elim (e.0.client == x.0.client) as (λ t. (e.0.client == x.0.client) ≡ t → t ≡ false) [
            | true ↦ λ same. absurd (false≢true (sym differ.0 ∙ subst (λ y. eq_by_cmp holder_cmp e.0 y ≡ true) (is_same is (equal e.0.client x.0.client same)) (holder_laws.refl e.0)))
            | false ↦ λ _. refl
          ] refl

  distinct : (bs : List (Holder × Bool)) → IsDistinct (eq_by_cmp holder_cmp) (keys_of bs) → IsDistinct (λ m n. m == n) (others bs b c owners)
  unfolding IsDistinct
  distinct [] d = tt
  distinct (e ∷ es) d =
      elim (is_other e) as (λ t. is_other e ≡ t → IsDistinct (λ m n. m == n) (cond t (e.0.client ∷ others es b c owners) (others es b c owners))) [
        | true ↦ λ is. (apart_from e es (first (same_block e.0.block b) (not (e.0.client == c)) (e.1 || not owners) is) d.0, distinct es d.1)
        | false ↦ λ _. distinct es d.1
      ] refl
    where
      first : (t u v : Bool) → (t && u && v) ≡ true → t ≡ true
      first true u v h = refl
      first false u v h = absurd (false≢true h)

  low_member : (n q : ℕ) (xs : List ℕ) → AllByRecursion (λ d. (d ≡ c → ⊥) × (d ≤ n)) xs → list_any (λ d. q == d) xs ≡ true → q < n + 1
  low_member n q [] all has = absurd (false≢true has)
  low_member n q (x ∷ xs) all has =
      elim (q == x) as (λ t. (q == x) ≡ t → (t || list_any (λ d. q == d) xs) ≡ true → q < n + 1) [
        | true ↦ λ same _. let is = equal q x same in let low = all.0.1 in omega arith
        | false ↦ λ _ rest. low_member n q xs all.1 rest
      ] refl has
    where
      equal : (m k : ℕ) → (m == k) ≡ true → m ≡ k
      equal m k h = grind (arith, nat_tests)

  -- so they are few
  pub few_others : (n : ℕ) (bs : List (Holder × Bool)) → IsInOrder bs → All (λ (e : Holder × Bool). e.0.client ≤ n) bs → length (others bs b c owners) ≤ n + 1
  few_others n bs sorted low =
      length-le_from_distinct_below (others bs b c owners) (n + 1) (distinct bs (IsDistinct-from_sorted holder_cmp (keys_of bs) sorted))
      (λ q has. low_member n q (others bs b c owners) (each_other (λ d. d ≤ n) bs low) has)

-- ---- once the first of them gave the block up

module _ (b : BlockId) (c : ℕ) where
  abbrev with_first : Bool → Holder × Bool → List (Holder × Bool) → Bool → List ℕ
  with_first owners e es t = cond t (e.0.client ∷ others es b c owners) (others es b c owners)

  -- an entry that isn't the first one's isn't listed
  not_counted : (owners : Bool) (e : Holder × Bool) (es : List (Holder × Bool)) (d : ℕ) (ds : List ℕ) → others (e ∷ es) b c owners ≡ d ∷ ds
      → is_at (holder_cmp (holder b d)) e.0 ≡ false → is_other b c owners e ≡ false
  not_counted owners e es d ds is apart =
      elim (is_other b c owners e) as (λ t. is_other b c owners e ≡ t → t ≡ false) [
        | true ↦ λ its. absurd (false≢true (sym apart ∙ ap (λ h. is_at (holder_cmp (holder b d)) h) (is_it its) ∙ holder_laws.refl (holder b d)))
        | false ↦ λ _. refl
      ] refl
    where
      first : (t u v : Bool) → (t && u && v) ≡ true → t ≡ true
      first true u v h = refl
      first false u v h = absurd (false≢true h)

      is_it : is_other b c owners e ≡ true → e.0 ≡ holder b d
      is_it its =
          ap (λ y. record { block = y; client = e.0.client })
          (sym (same_block_exact e.0.block b (first (same_block e.0.block b) (not (e.0.client == c)) (e.1 || not owners) its)))
          ∙ ap (holder b) (ap first_of (sym (ap (with_first owners e es) its) ∙ is))

  skips : (owners : Bool) (e : Holder × Bool) (es : List (Holder × Bool)) (d : ℕ) (ds : List ℕ) → others (e ∷ es) b c owners ≡ d ∷ ds
      → is_at (holder_cmp (holder b d)) e.0 ≡ false → others es b c owners ≡ d ∷ ds
  skips owners e es d ds is apart = sym (ap (with_first owners e es) (not_counted owners e es d ds is apart)) ∙ is

  -- the first one's own is
  counted : (owners : Bool) (e : Holder × Bool) (es : List (Holder × Bool)) (d : ℕ) (ds : List ℕ) → IsDistinct (eq_by_cmp holder_cmp) (keys_of (e ∷ es))
      → others (e ∷ es) b c owners ≡ d ∷ ds → holder b d ≡ e.0 → is_other b c owners e ≡ true
  unfolding IsDistinct
  counted owners e es d ds apart is same =
      elim (is_other b c owners e) as (λ t. is_other b c owners e ≡ t → t ≡ true) [
        | true ↦ λ _. refl
        | false ↦ λ not_it. absurd (twice (others es b c owners) (sym (ap (with_first owners e es) not_it) ∙ is)
            (subst (λ (h : Holder). AllByRecursion (λ n. (h.client == n) ≡ false) (others es b c owners)) (sym same)
            (apart_from b c owners e es (ap (λ (h : Holder). same_block h.block b) (sym same) ∙ same_block_itself b) apart.0)))
      ] refl
    where
      itself : (n : ℕ) → (n == n) ≡ true
      itself n = grind (arith, nat_tests)

      twice : (xs : List ℕ) → xs ≡ d ∷ ds → AllByRecursion (λ n. (d == n) ≡ false) xs → ⊥
      twice [] listed all = absurd (cc)
      twice (x ∷ xs) listed all = false≢true (sym all.0 ∙ ap (λ n. d == n) (ap first_of listed) ∙ itself d)

  without_first : (bs : List (Holder × Bool)) (d : ℕ) (ds : List ℕ) → IsDistinct (eq_by_cmp holder_cmp) (keys_of bs) → others bs b c false ≡ d ∷ ds
      → others (remove_entry (is_at (holder_cmp (holder b d))) bs) b c false ≡ ds
  unfolding IsDistinct
  without_first [] d ds apart is = absurd (cc)
  without_first (e ∷ es) d ds apart is =
      let rest = without_first es d ds apart.1 in
      elim (is_at (holder_cmp (holder b d)) e.0) as
      (λ t. is_at (holder_cmp (holder b d)) e.0 ≡ t → others (cond t es (e ∷ remove_entry (is_at (holder_cmp (holder b d))) es)) b c false ≡ ds) [
        | true ↦ λ same. ap rest_of (sym (ap (with_first false e es) (counted false e es d ds apart is (tells_apart holder_cmp_exact (holder b d) e.0 same))) ∙ is)
        | false ↦ λ other. ap (with_first false e (remove_entry (is_at (holder_cmp (holder b d))) es)) (not_counted false e es d ds is other)
            ∙ rest (skips false e es d ds is other)
      ] refl

  -- with leave to keep a copy
  kept_first : (bs : List (Holder × Bool)) (d : ℕ) (ds : List ℕ) → IsDistinct (eq_by_cmp holder_cmp) (keys_of bs) → others bs b c true ≡ d ∷ ds
      → others (set_value (is_at (holder_cmp (holder b d))) bs false) b c true ≡ ds
  unfolding IsDistinct
  kept_first [] d ds apart is = absurd (cc)
  kept_first (e ∷ es) d ds apart is =
      let rest = kept_first es d ds apart.1 in
      elim (is_at (holder_cmp (holder b d)) e.0) as
      (λ t. is_at (holder_cmp (holder b d)) e.0 ≡ t → others (cond t ((e.0, false) ∷ es) (e ∷ set_value (is_at (holder_cmp (holder b d))) es false)) b c true ≡ ds) [
        | true ↦ λ same. ap (with_first true e es) (never (same_block e.0.block b) (not (e.0.client == c)))
            ∙ ap rest_of (sym (ap (with_first true e es) (counted true e es d ds apart is (tells_apart holder_cmp_exact (holder b d) e.0 same))) ∙ is)
        | false ↦ λ other. ap (with_first true e (set_value (is_at (holder_cmp (holder b d))) es false)) (not_counted true e es d ds is other)
            ∙ rest (skips true e es d ds is other)
      ] refl
    where
      never : (t u : Bool) → (t && u && (false || not true)) ≡ false
      never true true = refl
      never true false = refl
      never false u = refl

  -- who owns the block is believed to
  owner_known : (bs : List (Holder × Bool)) (d : ℕ) (ds : List ℕ) → others bs b c true ≡ d ∷ ds → is_some (belief bs (holder b d)) ≡ true
  owner_known [] d ds is = absurd (cc)
  owner_known (e ∷ es) d ds is =
      let rest = owner_known es d ds in
      elim (is_at (holder_cmp (holder b d)) e.0) as (λ t. is_at (holder_cmp (holder b d)) e.0 ≡ t → is_some (cond t (Some e.1) (belief es (holder b d))) ≡ true) [
        | true ↦ λ _. refl
        | false ↦ λ other. rest (skips true e es d ds is other)
      ] refl

  first_gone : (keep : Bool) (bs : List (Holder × Bool)) (d : ℕ) (ds : List ℕ) → IsInOrder bs → others bs b c keep ≡ d ∷ ds
      → others (give_way bs (holder b d) keep) b c keep ≡ ds
  first_gone true bs d ds sorted is =
      ap (λ t. others (cond t (set_value (is_at (holder_cmp (holder b d))) bs false) bs) b c true) (owner_known bs d ds is)
      ∙ kept_first bs d ds (IsDistinct-from_sorted holder_cmp (keys_of bs) sorted) is
  first_gone false bs d ds sorted is = without_first bs d ds (IsDistinct-from_sorted holder_cmp (keys_of bs) sorted) is

  -- ---- once all did

  pub none_left : (keep : Bool) (bs : List (Holder × Bool)) (ds : List ℕ) → IsInOrder bs → others bs b c keep ≡ ds → others (all_given_up b keep bs ds) b c keep ≡ []
  none_left keep bs [] sorted is = is
  none_left keep bs (d ∷ ds) sorted is =
      none_left keep (give_way bs (holder b d) keep) ds (sorted-give_way bs (holder b d) keep sorted) (first_gone keep bs d ds sorted is)

  -- with leave to keep copies, they are believed to hold the block still
  set_others : (h : Holder) (bs : List (Holder × Bool)) → others (set_value (is_at (holder_cmp h)) bs false) b c false ≡ others bs b c false
  set_others h [] = refl
  set_others h (e ∷ es) =
      let rest = set_others h es in
      elim (is_at (holder_cmp h) e.0) as (λ t. others (cond t ((e.0, false) ∷ es) (e ∷ set_value (is_at (holder_cmp h)) es false)) b c false ≡ others (e ∷ es) b c false) [
        | true ↦ ap (λ t. cond (same_block e.0.block b && not (e.0.client == c) && t) (e.0.client ∷ others es b c false) (others es b c false)) (sym (or_true e.1))
        | false ↦ ap (λ xs. cond (is_other b c false e) (e.0.client ∷ xs) xs) rest
      ]
    where
      or_true : (t : Bool) → (t || true) ≡ true
      or_true true = refl
      or_true false = refl

  pub same_holders : (bs : List (Holder × Bool)) (ds : List ℕ) → others (all_given_up b true bs ds) b c false ≡ others bs b c false
  same_holders bs [] = refl
  same_holders bs (d ∷ ds) = same_holders (give_way bs (holder b d) true) ds ∙ one (holder b d)
    where
      one : (h : Holder) → others (give_way bs h true) b c false ≡ others bs b c false
      one h = elim (is_some (belief bs h)) as (λ t. others (cond t (set_value (is_at (holder_cmp h)) bs false) bs) b c false ≡ others bs b c false) [
        | true ↦ set_others h bs
        | false ↦ refl
      ]

module _ (b : BlockId) (keep : Bool) where
  pub ordered_given : (bs : List (Holder × Bool)) (ds : List ℕ) → IsInOrder bs → IsInOrder (all_given_up b keep bs ds)
  ordered_given bs [] sorted = sorted
  ordered_given bs (d ∷ ds) sorted = ordered_given (give_way bs (holder b d) keep) ds (sorted-give_way bs (holder b d) keep sorted)

  -- nobody is believed to have more than before
  pub fewer_given : (bs : List (Holder × Bool)) (ds : List ℕ) → IsInOrder bs → (x : BlockId) (e : ℕ) → share_of (all_given_up b keep bs ds) x e ≤ share_of bs x e
  fewer_given bs [] sorted x e = omega arith
  fewer_given bs (d ∷ ds) sorted x e =
      (let rest = fewer_given (give_way bs (holder b d) keep) ds (sorted-give_way bs (holder b d) keep sorted) x e in
      let one = less bs (holder b d) (holder x e) keep sorted in omega arith)

  pub alone_given : (bs : List (Holder × Bool)) (ds : List ℕ) → IsInOrder bs → OwnsAlone bs → OwnsAlone (all_given_up b keep bs ds)
  alone_given bs ds sorted alone x m n differs =
      (let one = fewer_given bs ds sorted x m in let other = fewer_given bs ds sorted x n in let both = alone x m n differs in omega arith)

module _ (P : Holder → Type 0) where
  abbrev EachIs : List (Holder × Bool) → Type 0
  EachIs bs = All (λ (e : Holder × Bool). P e.0) bs

  all_removed : (test : Holder → Bool) (bs : List (Holder × Bool)) → EachIs bs → EachIs (remove_entry test bs)
  all_removed test [] all = all
  all_removed test (e ∷ es) all = by_test (test e.0) (all_removed test es (All-tail (λ (x : Holder × Bool). P x.0) e es all))
    where
      by_test : (t : Bool) → EachIs (remove_entry test es) → EachIs (cond t es (e ∷ remove_entry test es))
      by_test true rest = All-tail (λ (x : Holder × Bool). P x.0) e es all
      by_test false rest = All-cons (λ (x : Holder × Bool). P x.0) e (remove_entry test es) (All-head (λ (x : Holder × Bool). P x.0) e es all) rest

  all_set : (test : Holder → Bool) (bs : List (Holder × Bool)) → EachIs bs → EachIs (set_value test bs false)
  all_set test [] all = all
  all_set test (e ∷ es) all = by_test (test e.0) (all_set test es (All-tail (λ (x : Holder × Bool). P x.0) e es all))
    where
      by_test : (t : Bool) → EachIs (set_value test es false) → EachIs (cond t ((e.0, false) ∷ es) (e ∷ set_value test es false))
      by_test true rest =
          All-cons (λ (x : Holder × Bool). P x.0) (e.0, false) es (All-head (λ (x : Holder × Bool). P x.0) e es all) (All-tail (λ (x : Holder × Bool). P x.0) e es all)
      by_test false rest = All-cons (λ (x : Holder × Bool). P x.0) e (set_value test es false) (All-head (λ (x : Holder × Bool). P x.0) e es all) rest

  one_given : (keep : Bool) (bs : List (Holder × Bool)) (h : Holder) → EachIs bs → EachIs (give_way bs h keep)
  one_given true bs h all =
      elim (is_some (belief bs h)) as (λ t. EachIs (cond t (set_value (is_at (holder_cmp h)) bs false) bs)) [ true ↦ all_set (is_at (holder_cmp h)) bs all | false ↦ all ]
  one_given false bs h all = all_removed (is_at (holder_cmp h)) bs all

  pub believed_given : (b : BlockId) (keep : Bool) (bs : List (Holder × Bool)) (ds : List ℕ) → EachIs bs → EachIs (all_given_up b keep bs ds)
  believed_given b keep bs [] all = all
  believed_given b keep bs (d ∷ ds) all = believed_given b keep (give_way bs (holder b d) keep) ds (one_given keep bs (holder b d) all)

-- ---- one belief

-- what is no belief of a giver is as it was
other_belief : (keep : Bool) (bs : List (Holder × Bool)) (h q : Holder) → IsInOrder bs → (q ≡ h → ⊥) → share (belief (give_way bs h keep) q) ≡ share (belief bs q)
other_belief true bs h q sorted apart =
    elim (is_some (belief bs h)) as
    (λ t. is_some (belief bs h) ≡ t → share (belief (cond t (set_value (is_at (holder_cmp h)) bs false) bs) q) ≡ share (belief bs q)) [
      | true ↦ λ some. ap share (disowned bs h q some ∙ ap (λ t. cond t (Some false) (belief bs q)) (not_at h q apart))
      | false ↦ λ _. refl
    ] refl
other_belief false bs h q sorted apart = ap share (forgotten bs h q sorted ∙ ap (λ t. cond t None (belief bs q)) (not_at h q apart))

pub share_stays : (b : BlockId) (keep : Bool) (bs : List (Holder × Bool)) (ds : List ℕ) (x : BlockId) (e : ℕ) → IsInOrder bs
    → AllByRecursion (λ d. holder x e ≡ holder b d → ⊥) ds → share_of (all_given_up b keep bs ds) x e ≡ share_of bs x e
share_stays b keep bs [] x e sorted apart = refl
share_stays b keep bs (d ∷ ds) x e sorted apart =
    share_stays b keep (give_way bs (holder b d) keep) ds x e (sorted-give_way bs (holder b d) keep sorted) apart.1
    ∙ other_belief keep bs (holder b d) (holder x e) sorted apart.0

-- with leave to keep a copy, who is believed to have something is believed to have that
still_some : (bs : List (Holder × Bool)) (h q : Holder) → 1 ≤ share (belief bs q) → 1 ≤ share (belief (give_way bs h true) q)
still_some bs h q has =
    elim (is_some (belief bs h)) as (λ t. is_some (belief bs h) ≡ t → 1 ≤ share (belief (cond t (set_value (is_at (holder_cmp h)) bs false) bs) q)) [
      | true ↦ λ some. subst (λ o. 1 ≤ share o) (sym (disowned bs h q some)) (by_test (is_at (holder_cmp h) q))
      | false ↦ λ _. has
    ] refl
  where
    by_test : (t : Bool) → 1 ≤ share (cond t (Some false) (belief bs q))
    by_test true = omega arith
    by_test false = has

pub keeps_some : (b : BlockId) (bs : List (Holder × Bool)) (ds : List ℕ) (x : BlockId) (e : ℕ) → 1 ≤ share_of bs x e → 1 ≤ share_of (all_given_up b true bs ds) x e
keeps_some b bs [] x e has = has
keeps_some b bs (d ∷ ds) x e has = keeps_some b (give_way bs (holder b d) true) ds x e (still_some bs (holder b d) (holder x e) has)
