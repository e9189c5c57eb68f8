-- The numbers of the pages that changed are those of the pages on which something was put.
use Rattle.std.proofs.Common.{◌≡◌, ℕ, ◌+◌, Bool, true, false, cond, ◌||◌, List, [], ◌∷◌, map, Some, inl, inr, refl, sym, ap, ◌∙◌, subst}
use Rattle.std.specs.Prelude.{Contains, ◌↔◌}
use Rattle.std.specs.List.{list_any}
use Rattle.std.specs.Option.{is_some}
use Rattle.xfs_base.specs.declared.block.BlockId.{BlockId}
use Rattle.xfs_base.specs.Blocks.{same_block}
use Rattle.xfs_base.proofs.BlockOrder.{same_block_exact}
use Rattle.xfs_base.proofs.Booleans.{contrary, or_first, or_second}
use Rattle.xfs_base.proofs.Members.{contains_nothing, contains_first, contains_rest, contains_cases}
use Rattle.index_pages.specs.Layout.{first_block}
use Rattle.index_pages.specs.Pages.{pages_new, changed_from}
use Rattle.index_pages.specs.Calls.{Call, after_calls, pages_begun, puts_since_clean, IsPutOn, place_from, page_with}
use Rattle.index_pages.proofs.Numbering.{IsApart, IsNumbered, any_place, numbered}

-- one of these blocks passes the test
abbrev Passes : (BlockId → Bool) → List BlockId → Type 0
Passes p blocks = (b : BlockId) × Contains blocks b × (p b ≡ true)

passes : (p : BlockId → Bool) (blocks : List BlockId) → list_any p blocks ≡ true → Passes p blocks
passes p [] h = contrary h
passes p (b ∷ bs) h =
    elim (p b) as (λ t. p b ≡ t → (t || list_any p bs) ≡ true → Passes p (b ∷ bs)) [
      | true ↦ λ fact _. (b, contains_first b bs, fact)
      | false ↦ λ _ rest. more (passes p bs rest)
    ] refl h
  where
    more : Passes p bs → Passes p (b ∷ bs)
    more (x, there, fact) = (x, contains_rest b x bs there, fact)

any_passes : (p : BlockId → Bool) (blocks : List BlockId) (b : BlockId) → Contains blocks b → p b ≡ true → list_any p blocks ≡ true
any_passes p [] b there fact = absurd (contains_nothing b there)
any_passes p (x ∷ xs) b there fact =
    elim (contains_cases x b xs there) [
      | inl same ↦ or_first (p x) (list_any p xs) (ap p same ∙ fact)
      | inr rest ↦ or_second (p x) (list_any p xs) (any_passes p xs b rest fact)
    ]

module _ (blocks : List BlockId) where
  -- one of the blocks is on the page of this number, the pages being those of these first blocks from this number on
  abbrev IsOn : ℕ → List BlockId → ℕ → Type 0
  IsOn k firsts n = (b : BlockId) × Contains blocks b × (place_from k (first_block b) firsts ≡ Some n)

  abbrev is_changed : BlockId → Bool
  is_changed f = list_any (λ b. same_block (first_block b) f) blocks

  -- a block whose place is among later pages isn't on the first
  later_place : (k n : ℕ) (f : BlockId) (fs : List BlockId) (b : BlockId) → IsApart (f ∷ fs) → place_from (k + 1) (first_block b) fs ≡ Some n
      → place_from k (first_block b) (f ∷ fs) ≡ Some n
  later_place k n f fs b apart found =
      elim (same_block (first_block b) f) as
      (λ t. same_block (first_block b) f ≡ t → cond t (Some k) (place_from (k + 1) (first_block b) fs) ≡ Some n) [
        | true ↦ λ same.
            let there : list_any (same_block (first_block b)) fs ≡ true = sym (any_place (k + 1) (first_block b) fs) ∙ ap is_some found in
            let fact : first_block b ≡ f = sym (same_block_exact (first_block b) f same) in
            contrary (sym apart.0 ∙ ap (λ g. list_any (same_block g) fs) (sym fact) ∙ there)
        | false ↦ λ _. found
      ] refl

  from_changed : (k n : ℕ) (firsts : List BlockId) → IsApart firsts → Contains (changed_from k (map (page_with blocks) firsts)) n → IsOn k firsts n
  from_changed k n [] apart h = absurd (contains_nothing n h)
  from_changed k n (f ∷ fs) apart h =
      elim (is_changed f) as
      (λ t. is_changed f ≡ t
      → Contains (cond t (k ∷ changed_from (k + 1) (map (page_with blocks) fs)) (changed_from (k + 1) (map (page_with blocks) fs))) n → IsOn k (f ∷ fs) n) [
        | true ↦ λ changed there.
            elim (contains_cases k n (changed_from (k + 1) (map (page_with blocks) fs)) there) [
              | inl same ↦ here same (passes (λ b. same_block (first_block b) f) blocks changed)
              | inr rest ↦ later (from_changed (k + 1) n fs apart.1 rest)
            ]
        | false ↦ λ _ rest. later (from_changed (k + 1) n fs apart.1 rest)
      ] refl h
    where
      here : k ≡ n → Passes (λ b. same_block (first_block b) f) blocks → IsOn k (f ∷ fs) n
      here same (b, there, on) = (b, there, ap (λ t. cond t (Some k) (place_from (k + 1) (first_block b) fs)) on ∙ ap Some same)

      later : IsOn (k + 1) fs n → IsOn k (f ∷ fs) n
      later (b, there, found) = (b, there, later_place k n f fs b apart found)

  to_changed : (k n : ℕ) (firsts : List BlockId) (b : BlockId) → Contains blocks b → place_from k (first_block b) firsts ≡ Some n
      → Contains (changed_from k (map (page_with blocks) firsts)) n
  to_changed k n [] b there found = cc
  to_changed k n (f ∷ fs) b there found =
      elim (same_block (first_block b) f) as
      (λ t. same_block (first_block b) f ≡ t → cond t (Some k) (place_from (k + 1) (first_block b) fs) ≡ Some n
      → Contains (cond (is_changed f) (k ∷ rest) rest) n) [
        | true ↦ λ on fact.
            let changed : is_changed f ≡ true = any_passes (λ c. same_block (first_block c) f) blocks b there on in
            let same : k ≡ n = cc in
            subst (λ t. Contains (cond t (k ∷ rest) rest) n) (sym changed) (subst (Contains (k ∷ rest)) same (contains_first k rest))
        | false ↦ λ _ later. more (is_changed f) (to_changed (k + 1) n fs b there later)
      ] refl found
    where
      rest : List ℕ
      rest = changed_from (k + 1) (map (page_with blocks) fs)

      more : (t : Bool) → Contains rest n → Contains (cond t (k ∷ rest) rest) n
      more true h = contains_rest k n rest h
      more false h = h

pub changed_are_put_on : (calls : List Call) (number : ℕ) → Contains (changed_from 0 (after_calls pages_new calls).pages) number ↔ IsPutOn calls number
changed_are_put_on calls number = (to, from)
  where
    fact : IsNumbered (after_calls pages_new calls) (pages_begun calls) (puts_since_clean calls)
    fact = numbered calls

    to : Contains (changed_from 0 (after_calls pages_new calls).pages) number → IsPutOn calls number
    to h =
        as_put (from_changed (puts_since_clean calls) 0 number (pages_begun calls) fact.apart (subst (λ ps. Contains (changed_from 0 ps) number) fact.pages h))
      where
        as_put : IsOn (puts_since_clean calls) 0 (pages_begun calls) number → IsPutOn calls number
        as_put (b, there, found) = (b, there, fact.numbers (first_block b) ∙ found)

    from : IsPutOn calls number → Contains (changed_from 0 (after_calls pages_new calls).pages) number
    from (b, there, found) =
        subst (λ ps. Contains (changed_from 0 ps) number) (sym fact.pages)
        (to_changed (puts_since_clean calls) 0 number (pages_begun calls) b there (sym (fact.numbers (first_block b)) ∙ found))
