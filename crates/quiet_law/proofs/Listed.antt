-- The one owner of a block is the only client that has to give way.
use Rattle.std.proofs.Common.{◌≡◌, ℕ, ◌==◌, ◌&&◌, ◌||◌, not, Bool, true, false, cond, List, [], ◌∷◌, Some, None, refl, sym, ap, subst, ◌∙◌, arith}
use Rattle.std.proofs.lemmas.Bool.{false≢true}
use Rattle.std.proofs.lemmas.Bool.Decides.{nat_tests}
use Rattle.std.proofs.lemmas.Map.Views.{tells_apart}
use Rattle.std.specs.declared.cmp.Ordering.{Ordering}
use Rattle.std.specs.declared.cmp.Ordering.TheVariants.{Less}
use Rattle.std.specs.List.{AllByRecursion}
use Rattle.std.specs.List.Sorted.{IsStrictlySortedBy}
use Rattle.std.specs.Map.{keys_of}
use Rattle.std.specs.Ordering.{eq_by_cmp, is_eq}
use Rattle.slot_beliefs.proofs.Shares.{belief, holder_cmp_exact, holder_laws}
use Rattle.slot_beliefs.specs.Beliefs.{holder, holder_cmp, others, share, share_of}
use Rattle.slot_beliefs.specs.declared.job.Holder.{Holder}
use Rattle.xfs_base.proofs.BlockOrder.{same_block_exact, same_block_itself}
use Rattle.xfs_base.specs.Blocks.{same_block}
use Rattle.xfs_base.specs.declared.block.BlockId.{BlockId}
use Rattle.quiet_law.proofs.Ordered.{IsInOrder}
use Rattle.quiet_nodes.proofs.Tests.{other_test}

-- a key below all has no entry
none_below : (h : Holder) (es : List (Holder × Bool)) → AllByRecursion (λ y. holder_cmp h y ≡ Less) (keys_of es) → belief es h ≡ None
none_below h [] below = refl
none_below h (e ∷ es) below = ap (λ (r : Ordering). cond (is_eq r) (Some e.1) (belief es h)) below.0 ∙ none_below h es below.1

some_share : (owns : Bool) → share (Some owns) ≡ 0 → ⊥
some_share true none = absurd (omega (arith, none))
some_share false none = absurd (omega (arith, none))

module _ (b : BlockId) (c o : ℕ) (owners : Bool) (differ : o ≡ c → ⊥) where
  abbrev its : Holder
  its = holder b o

  abbrev gives_way : Holder × Bool → Bool
  gives_way e = same_block e.0.block b && not (e.0.client == c) && (e.1 || not owners)

  -- nobody else has anything of it
  abbrev pub NoneElse : List (Holder × Bool) → Type 0
  NoneElse bs = (x : ℕ) → (x ≡ o → ⊥) → share_of bs b x ≡ 0

  is_holder : (h : Holder) → h.block ≡ b → h ≡ holder b h.client
  is_holder h same = λ i. record { block = same i; client = h.client }

  -- an entry of the block is the owner's
  its_own : (e : Holder × Bool) (es : List (Holder × Bool)) → NoneElse (e ∷ es) → same_block e.0.block b ≡ true → e.0 ≡ its
  its_own e es none of_block =
      elim (e.0.client == o) as (λ t. (e.0.client == o) ≡ t → e.0 ≡ its) [
        | true ↦ λ same. key ∙ ap (holder b) (equal e.0.client o same)
        | false ↦ λ other. absurd (some_share e.1 (sym (found (holder b e.0.client) (sym key)) ∙ none e.0.client (apart e.0.client o other)))
      ] refl
    where
      key : e.0 ≡ holder b e.0.client
      key = is_holder e.0 (sym (same_block_exact e.0.block b of_block))

      found : (h : Holder) → h ≡ e.0 → share (belief (e ∷ es) h) ≡ share (Some e.1)
      found h same =
          ap (λ x. share (cond (eq_by_cmp holder_cmp x e.0) (Some e.1) (belief es x))) same
          ∙ ap (λ t. share (cond t (Some e.1) (belief es e.0))) (holder_laws.refl e.0)

      equal : (n m : ℕ) → (n == m) ≡ true → n ≡ m
      equal n m h = grind (arith, nat_tests)

      apart : (n m : ℕ) → (n == m) ≡ false → n ≡ m → ⊥
      apart n m h same = grind (arith, nat_tests)

  not_way : (e : Holder × Bool) → same_block e.0.block b ≡ false → gives_way e ≡ false
  not_way e other = ap (λ t. t && not (e.0.client == c) && (e.1 || not owners)) other

  -- an entry of another block says nothing of it
  passed : (e : Holder × Bool) (es : List (Holder × Bool)) (x : ℕ) → same_block e.0.block b ≡ false → belief (e ∷ es) (holder b x) ≡ belief es (holder b x)
  passed e es x other =
      elim (eq_by_cmp holder_cmp (holder b x) e.0) as (λ t. eq_by_cmp holder_cmp (holder b x) e.0 ≡ t → cond t (Some e.1) (belief es (holder b x)) ≡ belief es (holder b x)) [
        | true ↦ λ at. absurd (false≢true (sym other
            ∙ ap (λ (h : Holder). same_block h.block b) (sym (tells_apart holder_cmp_exact (holder b x) e.0 at))
            ∙ same_block_itself b))
        | false ↦ λ _. refl
      ] refl

  -- where nobody has anything, none is listed
  none_listed : (es : List (Holder × Bool)) → ((x : ℕ) → share_of es b x ≡ 0) → others es b c owners ≡ []
  none_listed [] none = refl
  none_listed (e ∷ es) none =
      elim (same_block e.0.block b) as (λ t. same_block e.0.block b ≡ t → others (e ∷ es) b c owners ≡ []) [
        | true ↦ λ of_block. absurd (some_share e.1 (sym (found (is_holder e.0 (sym (same_block_exact e.0.block b of_block)))) ∙ none e.0.client))
        | false ↦ λ other.
            ap (λ t. cond t (e.0.client ∷ others es b c owners) (others es b c owners)) (not_way e other)
            ∙ none_listed es (λ x. ap share (sym (passed e es x other)) ∙ none x)
      ] refl
    where
      found : e.0 ≡ holder b e.0.client → share_of (e ∷ es) b e.0.client ≡ share (Some e.1)
      found key =
          ap (λ x. share (cond (eq_by_cmp holder_cmp x e.0) (Some e.1) (belief es x))) (sym key)
          ∙ ap (λ t. share (cond t (Some e.1) (belief es e.0))) (holder_laws.refl e.0)

  pub listed_alone : (own : Bool) → (own || not owners) ≡ true → (bs : List (Holder × Bool)) → IsInOrder bs → belief bs its ≡ Some own → NoneElse bs
      → others bs b c owners ≡ o ∷ []
  unfolding IsStrictlySortedBy
  listed_alone own gives [] sorted owns none = absurd (cc)
  listed_alone own gives (e ∷ es) sorted owns none =
      elim (same_block e.0.block b) as (λ t. same_block e.0.block b ≡ t → others (e ∷ es) b c owners ≡ o ∷ []) [
        | true ↦ λ of_block. here (its_own e es none of_block)
        | false ↦ λ other.
            ap (λ t. cond t (e.0.client ∷ others es b c owners) (others es b c owners)) (not_way e other)
            ∙ listed_alone own gives es sorted.1 (sym (passed e es o other) ∙ owns) (λ x differs. ap share (sym (passed e es x other)) ∙ none x differs)
      ] refl
    where
      here : e.0 ≡ its → others (e ∷ es) b c owners ≡ o ∷ []
      here key =
          ap (λ t. cond t (e.0.client ∷ others es b c owners) (others es b c owners)) way
          ∙ ap (λ xs. e.0.client ∷ xs) (none_listed es rest)
          ∙ ap (λ (h : Holder). h.client ∷ []) key
        where
          owner : e.1 ≡ own
          owner = (let is : cond true (Some e.1) (belief es its) ≡ Some own =
              ap (λ t. cond t (Some e.1) (belief es its)) (sym (ap (eq_by_cmp holder_cmp its) key ∙ holder_laws.refl its)) ∙ owns in cc)

          way : gives_way e ≡ true
          way =
              ap (λ (h : Holder). same_block h.block b && not (h.client == c) && (e.1 || not owners)) key
              ∙ ap (λ t. t && not (o == c) && (e.1 || not owners)) (same_block_itself b)
              ∙ ap (λ t. not t && (e.1 || not owners)) (other_test o c differ)
              ∙ ap (λ t. t || not owners) owner
              ∙ gives

          itself_gone : belief es its ≡ None
          itself_gone = none_below its es (subst (λ h. AllByRecursion (λ y. holder_cmp h y ≡ Less) (keys_of es)) key sorted.0)

          rest : (x : ℕ) → share_of es b x ≡ 0
          rest x =
              elim (x == o) as (λ t. (x == o) ≡ t → share_of es b x ≡ 0) [
                | true ↦ λ same. ap (λ n. share (belief es (holder b n))) (equal x o same) ∙ ap share itself_gone
                | false ↦ λ other.
                    ap (λ t. share (cond t (Some e.1) (belief es (holder b x)))) (sym (not_same x (apart x o other)))
                    ∙ none x (apart x o other)
              ] refl
            where
              equal : (n m : ℕ) → (n == m) ≡ true → n ≡ m
              equal n m h = grind (arith, nat_tests)

              apart : (n m : ℕ) → (n == m) ≡ false → n ≡ m → ⊥
              apart n m h same = grind (arith, nat_tests)

              not_same : (x : ℕ) → (x ≡ o → ⊥) → eq_by_cmp holder_cmp (holder b x) e.0 ≡ false
              not_same x differs =
                  elim (eq_by_cmp holder_cmp (holder b x) e.0) as (λ t. eq_by_cmp holder_cmp (holder b x) e.0 ≡ t → t ≡ false) [
                    | true ↦ λ at. absurd (differs (ap (λ (h : Holder). h.client) (tells_apart holder_cmp_exact (holder b x) e.0 at ∙ key)))
                    | false ↦ λ _. refl
                  ] refl
