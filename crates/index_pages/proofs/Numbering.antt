-- How pages are numbered, and which of them have changed: the invariant that every call keeps.
use Rattle.std.proofs.Common.{◌≡◌, ℕ, suc, ◌+◌, Bool, true, false, cond, ◌||◌, List, [], ◌∷◌, ◌++◌, length, map, set, Option, Some, None, refl, sym, ap, ◌∙◌, subst, arith, add-zero}
use Rattle.std.specs.List.{fold, list_any}
use Rattle.std.specs.Option.{is_some}
use Rattle.std.specs.Map.{lookup}
use Rattle.std.specs.BTreeMap.{is_at}
use Rattle.std.proofs.lemmas.Bool.Decides.{nat_tests}
use Rattle.std.proofs.lemmas.List.{length-map}
use Rattle.std.proofs.lemmas.List.Folds.{list_any-append}
use Rattle.std.proofs.lemmas.List.Sums.{fold-append}
use Rattle.xfs_base.specs.declared.block.BlockId.{BlockId}
use Rattle.xfs_base.specs.declared.entry.Entry.{Entry}
use Rattle.xfs_base.specs.Blocks.{block_cmp, same_block}
use Rattle.xfs_base.proofs.BlockOrder.{block_cmp_total, lookup-insert_entry, same_block_exact, same_block_itself}
use Rattle.xfs_base.proofs.Booleans.{contrary}
use Rattle.delta_index.specs.Entries.{no_entry, is_newer}
use Rattle.delta_index.specs.Index.{entry_of}
use Rattle.delta_index.proofs.JoinAlgebra.{same_block-eq}
use Rattle.index_pages.specs.Layout.{first_block}
use Rattle.index_pages.specs.Pages.{PagesState, pages_new, page_of, changed_page, put, pages_merge, put_at, put_on, put_anew, clean_page, pages_clean}
use Rattle.index_pages.specs.Calls.{Call, after_call, after_calls, put_over, last_put, takes, taken_from, pages_begun, puts_since_clean, with_first, with_page, with_put, place_from, page_with}
use Rattle.index_pages.specs.Calls.Call.{Put, Merge, Clean}
use Rattle.index_pages.proofs.PlainTable.{one_call}

-- each block differs from all after it
abbrev pub IsApart : List BlockId → Type 0
IsApart [] = Unit {0}
IsApart (f ∷ fs) = (list_any (same_block f) fs ≡ false) × IsApart fs

-- the pages are those of these first blocks, each found by its place, and changed where one of these blocks is on it
pub record IsNumbered (s : PagesState) (firsts blocks : List BlockId) : Type 0 where
  pub pages : s.pages ≡ map (page_with blocks) firsts
  pub numbers : (f : BlockId) → lookup (is_at (block_cmp f)) s.numbers ≡ place_from 0 f firsts
  pub apart : IsApart firsts

-- ---- tests

pub or_none_first : (a b : Bool) → (a || b) ≡ false → a ≡ false
or_none_first true b h = h
or_none_first false b h = refl

pub or_none_second : (a b : Bool) → (a || b) ≡ false → b ≡ false
or_none_second true b h = contrary (sym h)
or_none_second false b h = h

or_last_false : (a b : Bool) → b ≡ false → (a || (b || false)) ≡ a
or_last_false true b h = refl
or_last_false false true h = h
or_last_false false false h = refl

or_last_true : (a b : Bool) → b ≡ true → (a || (b || false)) ≡ true
or_last_true true b h = refl
or_last_true false true h = refl
or_last_true false false h = h

pub same_turned : (a b : BlockId) → same_block a b ≡ same_block b a
same_turned a b = grind (arith, nat_tests)

-- a block that is another's isn't a third's, from which that other differs
differs : (f b g : BlockId) → same_block g b ≡ false → same_block f b ≡ true → same_block f g ≡ false
differs f b g other same =
    same_turned f g ∙ ap (same_block g) (sym (same_block_exact f b same)) ∙ other

-- ---- places

any_step : (t : Bool) (n : ℕ) (o : Option ℕ) (r : Bool) → is_some o ≡ r → is_some (cond t (Some n) o) ≡ (t || r)
any_step true n o r h = refl
any_step false n o r h = h

pub any_place : (n : ℕ) (f : BlockId) (fs : List BlockId) → is_some (place_from n f fs) ≡ list_any (same_block f) fs
any_place n f [] = refl
any_place n f (b ∷ bs) = any_step (same_block f b) n (place_from (n + 1) f bs) (list_any (same_block f) bs) (any_place (n + 1) f bs)

place_step : (t u : Bool) (n k m : ℕ) (o p : Option ℕ) → (t ≡ true → u ≡ false) → k ≡ m → p ≡ cond u (Some k) o
    → cond t (Some n) p ≡ cond u (Some m) (cond t (Some n) o)
place_step true u n k m o p h e q = ap (λ v. cond v (Some m) (Some n)) (sym (h refl))
place_step false u n k m o p h e q = q ∙ ap (λ x. cond u (Some x) o) e

-- the place of a block once another is appended that wasn't there
place_more : (n : ℕ) (f g : BlockId) (fs : List BlockId) → list_any (same_block g) fs ≡ false
    → place_from n f (fs ++ g ∷ []) ≡ cond (same_block f g) (Some (n + length fs)) (place_from n f fs)
place_more n f g [] absent = ap (λ k. cond (same_block f g) (Some k) None) (sym (add-zero n))
place_more n f g (b ∷ bs) absent =
    let e : n + 1 + length bs ≡ n + length (b ∷ bs) = omega arith in
    place_step (same_block f b) (same_block f g) n (n + 1 + length bs) (n + length (b ∷ bs)) (place_from (n + 1) f bs) (place_from (n + 1) f (bs ++ g ∷ []))
    (differs f b g (or_none_first (same_block g b) (list_any (same_block g) bs) absent)) e
    (place_more (n + 1) f g bs (or_none_second (same_block g b) (list_any (same_block g) bs) absent))

apart_more : (g : BlockId) (fs : List BlockId) → IsApart fs → list_any (same_block g) fs ≡ false → IsApart (fs ++ g ∷ [])
apart_more g [] apart absent = (refl, tt)
apart_more g (b ∷ bs) apart absent =
    let other : same_block b g ≡ false = same_turned b g ∙ or_none_first (same_block g b) (list_any (same_block g) bs) absent in (
      list_any-append (same_block b) bs (g ∷ []) ∙ or_last_false (list_any (same_block b) bs) (same_block b g) other ∙ apart.0,
      apart_more g bs apart.1 (or_none_second (same_block g b) (list_any (same_block g) bs) absent),
    )

-- ---- the pages once something is put

module _ (blocks : List BlockId) (block : BlockId) where
  -- a page on which the new block isn't stays as it is
  same_page : (f : BlockId) → same_block (first_block block) f ≡ false → page_with blocks f ≡ page_with (blocks ++ block ∷ []) f
  same_page f other =
      ap (λ t. record { first = f; changed = t })
      (sym (list_any-append (λ b. same_block (first_block b) f) blocks (block ∷ [])
      ∙ or_last_false (list_any (λ b. same_block (first_block b) f) blocks) (same_block (first_block block) f) other))

  -- its own page has changed
  own_page : (f : BlockId) → same_block (first_block block) f ≡ true → changed_page block ≡ page_with (blocks ++ block ∷ []) f
  own_page f same =
      let flag : list_any (λ b. same_block (first_block b) f) (blocks ++ block ∷ []) ≡ true =
      list_any-append (λ b. same_block (first_block b) f) blocks (block ∷ [])
      ∙ or_last_true (list_any (λ b. same_block (first_block b) f) blocks) (same_block (first_block block) f) same
      in
      let fact : first_block block ≡ f = sym (same_block_exact (first_block block) f same) in
      let changed : true ≡ list_any (λ b. same_block (first_block b) f) (blocks ++ block ∷ []) = sym flag in
      λ i. record { first = fact i; changed = changed i }

  same_pages : (fs : List BlockId) → list_any (same_block (first_block block)) fs ≡ false
      → map (page_with blocks) fs ≡ map (page_with (blocks ++ block ∷ [])) fs
  same_pages [] absent = refl
  same_pages (f ∷ fs) absent =
      let head = same_page f (or_none_first (same_block (first_block block) f) (list_any (same_block (first_block block)) fs) absent) in
      let rest = same_pages fs (or_none_second (same_block (first_block block) f) (list_any (same_block (first_block block)) fs) absent) in
      λ i. head i ∷ rest i

  new_page : (fs : List BlockId) → list_any (same_block (first_block block)) fs ≡ false
      → map (page_with blocks) fs ++ changed_page block ∷ [] ≡ map (page_with (blocks ++ block ∷ [])) (fs ++ first_block block ∷ [])
  new_page [] absent = ap (λ p. p ∷ []) (own_page (first_block block) (same_block_itself (first_block block)))
  new_page (f ∷ fs) absent =
      let head = same_page f (or_none_first (same_block (first_block block) f) (list_any (same_block (first_block block)) fs) absent) in
      let rest = new_page fs (or_none_second (same_block (first_block block) f) (list_any (same_block (first_block block)) fs) absent) in
      λ i. head i ∷ rest i

  -- what is put on the page at a place changes just that page
  abbrev Marks : List BlockId → ℕ → ℕ → Type 0
  Marks fs n m = (k : ℕ) × (m ≡ n + k) × (set (map (page_with blocks) fs) k (changed_page block) ≡ map (page_with (blocks ++ block ∷ [])) fs)

  marked_page : (n m : ℕ) (fs : List BlockId) → IsApart fs → place_from n (first_block block) fs ≡ Some m → Marks fs n m
  marked_page n m [] apart found = cc
  marked_page n m (f ∷ fs) apart found =
      elim (same_block (first_block block) f) as
      (λ t. same_block (first_block block) f ≡ t → cond t (Some n) (place_from (n + 1) (first_block block) fs) ≡ Some m → Marks (f ∷ fs) n m) [
        | true ↦ λ p h. here p h
        | false ↦ λ p h. there p (marked_page (n + 1) m fs apart.1 h)
      ] refl found
    where
      here : same_block (first_block block) f ≡ true → Some n ≡ Some m → Marks (f ∷ fs) n m
      here p h =
          let e : n ≡ m = cc in
          let f_is : f ≡ first_block block = same_block_exact (first_block block) f p in
          let absent : list_any (same_block (first_block block)) fs ≡ false = ap (λ b. list_any (same_block b) fs) (sym f_is) ∙ apart.0 in
          let head = own_page f p in
          let rest = same_pages fs absent in
          (0, sym e ∙ sym (add-zero n), λ i. head i ∷ rest i)

      there : same_block (first_block block) f ≡ false → Marks fs (n + 1) m → Marks (f ∷ fs) n m
      there p (k, e, r) =
          let head = same_page f p in
          let more : m ≡ n + suc k = omega arith in
          (suc k, more, λ i. head i ∷ r i)

-- no page has changed
clean_pages : (blocks fs : List BlockId) → map clean_page (map (page_with blocks) fs) ≡ map (page_with []) fs
clean_pages blocks [] = refl
clean_pages blocks (f ∷ fs) = ap (λ r. page_with [] f ∷ r) (clean_pages blocks fs)

-- ---- the invariant

kept_on : (s : PagesState) (firsts blocks : List BlockId) (block : BlockId) (entry : Entry) (m : ℕ) → IsNumbered s firsts blocks
    → place_from 0 (first_block block) firsts ≡ Some m → IsNumbered (put_on s m block entry) firsts (blocks ++ block ∷ [])
kept_on s firsts blocks block entry m i found =
    let marks = marked_page blocks block 0 m firsts i.apart found in
    record {
      pages = ap (λ ps. set ps m (changed_page block)) i.pages ∙ ap (λ k. set (map (page_with blocks) firsts) k (changed_page block)) (place marks) ∙ marks.2;
      numbers = i.numbers;
      apart = i.apart;
    }
  where
    place : (w : Marks blocks block firsts 0 m) → m ≡ w.0
    place (k, e, r) = omega arith

kept_anew : (s : PagesState) (firsts blocks : List BlockId) (block : BlockId) (entry : Entry) → IsNumbered s firsts blocks
    → list_any (same_block (first_block block)) firsts ≡ false → IsNumbered (put_anew s block entry) (firsts ++ first_block block ∷ []) (blocks ++ block ∷ [])
kept_anew s firsts blocks block entry i absent =
    let count : length s.pages ≡ length firsts = ap length i.pages ∙ length-map firsts (page_with blocks) in
    record {
      pages = ap (λ ps. ps ++ changed_page block ∷ []) i.pages ∙ new_page blocks block firsts absent;
      numbers = λ f. lookup-insert_entry block_cmp_total f (first_block block) (length s.pages) s.numbers
          ∙ ap (λ t. cond t (Some (length s.pages)) (lookup (is_at (block_cmp f)) s.numbers)) (same_block-eq f (first_block block))
          ∙ ap (λ n. cond (same_block f (first_block block)) (Some n) (lookup (is_at (block_cmp f)) s.numbers)) count
          ∙ ap (cond (same_block f (first_block block)) (Some (length firsts))) (i.numbers f)
          ∙ sym (place_more 0 f (first_block block) firsts absent
          ∙ ap (λ n. cond (same_block f (first_block block)) (Some n) (place_from 0 f firsts)) (zero_more (length firsts)));
      apart = apart_more (first_block block) firsts i.apart absent;
    }
  where
    zero_more : (n : ℕ) → 0 + n ≡ n
    zero_more n = omega arith

pub kept_put : (s : PagesState) (firsts blocks : List BlockId) (block : BlockId) (entry : Entry) → IsNumbered s firsts blocks
    → IsNumbered (put s block entry) (with_first firsts block) (blocks ++ block ∷ [])
unfolding put
kept_put s firsts blocks block entry i =
    elim (page_of s block) as (λ o. page_of s block ≡ o → IsNumbered (put_at o s block entry) (with_first firsts block) (blocks ++ block ∷ [])) [
      | Some m ↦ λ p. let found : place_from 0 (first_block block) firsts ≡ Some m = sym (i.numbers (first_block block)) ∙ p in
          let there : true ≡ list_any (same_block (first_block block)) firsts = ap is_some (sym found) ∙ any_place 0 (first_block block) firsts in
          subst (λ t. IsNumbered (put_on s m block entry) (cond t firsts (firsts ++ first_block block ∷ [])) (blocks ++ block ∷ [])) there
          (kept_on s firsts blocks block entry m i found)
      | None ↦ λ p. let absent : false ≡ list_any (same_block (first_block block)) firsts =
          ap is_some (sym p ∙ i.numbers (first_block block)) ∙ any_place 0 (first_block block) firsts in
          subst (λ t. IsNumbered (put_anew s block entry) (cond t firsts (firsts ++ first_block block ∷ [])) (blocks ++ block ∷ [])) absent
          (kept_anew s firsts blocks block entry i (sym absent))
    ] refl

pub kept_clean : (s : PagesState) (firsts blocks : List BlockId) → IsNumbered s firsts blocks → IsNumbered (pages_clean s) firsts []
unfolding pages_clean
kept_clean s firsts blocks i = record { pages = ap (map clean_page) i.pages ∙ clean_pages blocks firsts; numbers = i.numbers; apart = i.apart }

pub none_numbered : IsNumbered pages_new [] []
none_numbered = record { pages = refl; numbers = λ f. refl; apart = tt }

-- ---- any calls

-- what was put last once one more is called
last_more : (q : BlockId) (before : List Call) (call : Call) → last_put (before ++ call ∷ []) q ≡ put_over q (last_put before q) call
last_more q before call = fold-append (put_over q) no_entry before (call ∷ [])

-- the pages of these first blocks are as they were numbered, and hold what the calls before put last
record IsAfter (s : PagesState) (before : List Call) (firsts blocks : List BlockId) : Type 0 where
  pub table : (q : BlockId) → entry_of s.rows q ≡ last_put before q
  pub numbered : IsNumbered s firsts blocks

kept_table : (s : PagesState) (before : List Call) (call : Call) → ((q : BlockId) → entry_of s.rows q ≡ last_put before q)
    → (q : BlockId) → entry_of (after_call s call).rows q ≡ last_put (before ++ call ∷ []) q
kept_table s before call table q = one_call s call q ∙ ap (λ e. put_over q e call) (table q) ∙ sym (last_more q before call)

-- a call that takes numbers its page and notes its block; another changes no page
kept_one : (s : PagesState) (before : List Call) (firsts blocks : List BlockId) (call : Call) → IsAfter s before firsts blocks
    → IsNumbered (after_call s call) (cond (takes before call) (with_page firsts call) firsts) (cond (takes before call) (with_put blocks call) blocks)
unfolding pages_merge
kept_one s before firsts blocks (Put block entry) i = kept_put s firsts blocks block entry i.numbered
kept_one s before firsts blocks (Merge block entry) i =
    subst (λ e. IsNumbered (cond (is_newer entry (entry_of s.rows block)) (put s block entry) s)
    (cond (is_newer entry e) (with_first firsts block) firsts) (cond (is_newer entry e) (blocks ++ block ∷ []) blocks)) (i.table block)
    (at_test (is_newer entry (entry_of s.rows block)))
  where
    at_test : (t : Bool) → IsNumbered (cond t (put s block entry) s) (cond t (with_first firsts block) firsts) (cond t (blocks ++ block ∷ []) blocks)
    at_test true = kept_put s firsts blocks block entry i.numbered
    at_test false = i.numbered
kept_one s before firsts blocks Clean i = kept_clean s firsts blocks i.numbered

fold_taken : {A : Type 0} (step : A → Call → A) (a : A) (t : Bool) (call : Call) (calls : List Call)
    → fold step a (cond t (call ∷ calls) calls) ≡ fold step (cond t (step a call) a) calls
fold_taken step a true call calls = refl
fold_taken step a false call calls = refl

kept : (s : PagesState) (before : List Call) (firsts blocks : List BlockId) (calls : List Call) → IsAfter s before firsts blocks
    → IsNumbered (after_calls s calls) (fold with_page firsts (taken_from before calls)) (fold with_put blocks (taken_from before calls))
kept s before firsts blocks [] i = i.numbered
kept s before firsts blocks (call ∷ calls) i =
    let rest : List Call = taken_from (before ++ call ∷ []) calls in
    let more = kept (after_call s call) (before ++ call ∷ []) (cond (takes before call) (with_page firsts call) firsts)
    (cond (takes before call) (with_put blocks call) blocks) calls
    (record { table = kept_table s before call i.table; numbered = kept_one s before firsts blocks call i })
    in
    subst (λ fs. IsNumbered (after_calls s (call ∷ calls)) fs (fold with_put blocks (cond (takes before call) (call ∷ rest) rest)))
    (sym (fold_taken with_page firsts (takes before call) call rest))
    (subst (IsNumbered (after_calls s (call ∷ calls)) (fold with_page (cond (takes before call) (with_page firsts call) firsts) rest))
    (sym (fold_taken with_put blocks (takes before call) call rest)) more)

pub numbered : (calls : List Call) → IsNumbered (after_calls pages_new calls) (pages_begun calls) (puts_since_clean calls)
numbered calls = kept pages_new [] [] [] calls (record { table = λ q. refl; numbered = none_numbered })
