-- The order of entries, and the algebra of the first greatest of two.
use Rattle.std.proofs.Common.{◌≡◌, true, false, cond, refl, sym, ap, ◌∙◌, arith}
use Rattle.std.proofs.lemmas.Bool.Decides.{nat_tests}
use Rattle.xfs_base.specs.declared.entry.Entry.{Entry}
use Rattle.delta_index.specs.Entries.{no_entry, is_newer, first_greatest, HasSameRank, DiffersInRank}

pub is_newer-trans : (a b c : Entry) → is_newer b a ≡ true → is_newer c b ≡ true → is_newer c a ≡ true
is_newer-trans a b c p q = grind (arith, nat_tests)

pub not_newer-trans : (a b c : Entry) → is_newer b a ≡ false → is_newer c b ≡ false → is_newer c a ≡ false
not_newer-trans a b c p q = grind (arith, nat_tests)

pub newer_than_no_newer : (a b c : Entry) → is_newer b a ≡ false → is_newer c a ≡ true → is_newer c b ≡ true
newer_than_no_newer a b c p q = grind (arith, nat_tests)

pub is_newer-asym : (a b : Entry) → is_newer b a ≡ true → is_newer a b ≡ false
is_newer-asym a b p = grind (arith, nat_tests)

pub not_newer_itself : (a : Entry) → is_newer a a ≡ false
not_newer_itself a = grind (arith, nat_tests)

pub none_newer : (a : Entry) → is_newer no_entry a ≡ false
none_newer a = grind (arith, nat_tests)

-- what is above any entry is above no entry
pub newer_than_none : (a b : Entry) → is_newer b a ≡ true → is_newer b no_entry ≡ true
newer_than_none a b p = grind (arith, nat_tests)

same_rank : (a b : Entry) → is_newer a b ≡ false → is_newer b a ≡ false → HasSameRank a b
same_rank a b p q = (grind (arith, nat_tests), grind (arith, nat_tests))

pub first_greatest-none : (a : Entry) → first_greatest a no_entry ≡ a
first_greatest-none a = ap (λ b. cond b no_entry a) (none_newer a)

pub first_greatest-itself : (a : Entry) → first_greatest a a ≡ a
first_greatest-itself a = elim (is_newer a a) as (λ b. cond b a a ≡ a) [ true ↦ refl | false ↦ refl ]

pub first_greatest-newer : (a b : Entry) → is_newer b a ≡ true → first_greatest a b ≡ b
first_greatest-newer a b p = ap (λ t. cond t b a) p

pub first_greatest-not_newer : (a b : Entry) → is_newer b a ≡ false → first_greatest a b ≡ a
first_greatest-not_newer a b p = ap (λ t. cond t b a) p

pub first_greatest-assoc : (a b c : Entry) → first_greatest (first_greatest a b) c ≡ first_greatest a (first_greatest b c)
first_greatest-assoc a b c =
    elim (is_newer b a) as (λ t. is_newer b a ≡ t → first_greatest (cond t b a) c ≡ first_greatest a (first_greatest b c)) [
      | true ↦ λ p. elim (is_newer c b) as (λ u. is_newer c b ≡ u → cond u c b ≡ first_greatest a (cond u c b)) [
        | true ↦ λ q. sym (first_greatest-newer a c (is_newer-trans a b c p q))
        | false ↦ λ q. sym (first_greatest-newer a b p)
      ] refl
      | false ↦ λ p. elim (is_newer c b) as (λ u. is_newer c b ≡ u → first_greatest a c ≡ first_greatest a (cond u c b)) [
        | true ↦ λ q. refl
        | false ↦ λ q. first_greatest-not_newer a c (not_newer-trans a b c p q) ∙ sym (first_greatest-not_newer a b p)
      ] refl
    ] refl

pub first_greatest-repeat : (a b : Entry) → first_greatest (first_greatest a b) a ≡ first_greatest a b
first_greatest-repeat a b =
    elim (is_newer b a) as (λ t. is_newer b a ≡ t → first_greatest (cond t b a) a ≡ cond t b a) [
      | true ↦ λ p. first_greatest-not_newer b a (is_newer-asym a b p)
      | false ↦ λ p. first_greatest-itself a
    ] refl

pub first_greatest-swap : (a b : Entry) → DiffersInRank a b → first_greatest a b ≡ first_greatest b a
first_greatest-swap a b d =
    elim (is_newer b a) as (λ t. is_newer b a ≡ t → cond t b a ≡ first_greatest b a) [
      | true ↦ λ p. sym (first_greatest-not_newer b a (is_newer-asym a b p))
      | false ↦ λ p. elim (is_newer a b) as (λ u. is_newer a b ≡ u → a ≡ cond u a b) [
        | true ↦ λ q. refl
        | false ↦ λ q. absurd (d (same_rank a b q p))
      ] refl
    ] refl

-- no entry between two makes no difference
pub none_between : (a b : Entry) → first_greatest a (first_greatest no_entry b) ≡ first_greatest a b
none_between a b = sym (first_greatest-assoc a no_entry b) ∙ ap (λ x. first_greatest x b) (first_greatest-none a)
