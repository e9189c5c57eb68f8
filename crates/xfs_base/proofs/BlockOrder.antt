-- The order of blocks is total and exact, and what a table sorted by it has after an insertion.
use Rattle.std.proofs.Common.{◌≡◌, ℕ, true, cond, List, [], ◌∷◌, Some, refl, sym, ap, ◌∙◌, arith}
use Rattle.std.specs.declared.cmp.Ordering.{Ordering}
use Rattle.std.specs.declared.cmp.Ordering.TheVariants.{Less, Equal, Greater}
use Rattle.std.specs.Ordering.{nat_cmp, eq_by_cmp, match_ordering}
use Rattle.std.specs.Cmp.{IsTotalOrder}
use Rattle.std.specs.FinMap.Entries.{find, put, find-put, by_order}
use Rattle.std.specs.Map.{lookup}
use Rattle.std.specs.BTreeMap.{is_at, insert_entry}
use Rattle.std.proofs.lemmas.Cmp.{on_total, then_total, nat_cmp_total}
use Rattle.std.proofs.lemmas.Map.Lookups.{CmpEqualImpliesEq, exact_unsigned, exact_pairs}
use Rattle.std.proofs.lemmas.Bool.Decides.{nat_tests}
use Rattle.xfs_base.specs.declared.block.BlockId.{BlockId}
use Rattle.xfs_base.specs.Blocks.{block_cmp, same_block}

pub block_cmp_total : IsTotalOrder block_cmp
block_cmp_total = then_total (on_total (λ (b : BlockId). b.ino.0) nat_cmp_total) (on_total (λ (b : BlockId). b.blk) nat_cmp_total)

pub block_cmp_exact : CmpEqualImpliesEq block_cmp
block_cmp_exact a b h =
    ap (λ (p : ℕ × ℕ). record { ino = record { 0 = p.0 }; blk = p.1 })
    (exact_pairs nat_cmp nat_cmp exact_unsigned exact_unsigned (a.ino.0, a.blk) (b.ino.0, b.blk) h)

-- std's two words for a look-up agree
pub lookup-find : {K X : Type 0} (R : K → K → Ordering) (q : K) (es : List (K × X)) → lookup (is_at (R q)) es ≡ find R q es
lookup-find R q [] = refl
lookup-find R q (e ∷ es) = ap (cond (eq_by_cmp R q e.0) (Some e.1)) (lookup-find R q es)

-- and its two words for an insertion
pub insert_entry-put : {K X : Type 0} (R : K → K → Ordering) (k : K) (v : X) (es : List (K × X)) → insert_entry R es k v ≡ put R k v es
insert_entry-put R k v [] = refl
insert_entry-put R k v (e ∷ es) =
    elim (R k e.0) as
    (λ o. match_ordering o ((k, v) ∷ e ∷ es) ((e.0, v) ∷ es) (e ∷ insert_entry R es k v) ≡ by_order o ((k, v) ∷ e ∷ es) ((e.0, v) ∷ es) (e ∷ put R k v es)) [
      | Less ↦ refl
      | Equal ↦ refl
      | Greater ↦ ap (λ r. e ∷ r) (insert_entry-put R k v es)
    ]

-- what rows have at q once v is put at k
pub lookup-insert_entry : {K X : Type 0} {R : K → K → Ordering} (o : IsTotalOrder R) (q k : K) (v : X) (es : List (K × X))
    → lookup (is_at (R q)) (insert_entry R es k v) ≡ cond (eq_by_cmp R q k) (Some v) (lookup (is_at (R q)) es)
lookup-insert_entry {R = R} o q k v es =
    ap (lookup (is_at (R q))) (insert_entry-put R k v es) ∙ lookup-find R q (put R k v es) ∙ find-put R o q k v es
    ∙ ap (cond (eq_by_cmp R q k) (Some v)) (sym (lookup-find R q es))

-- blocks that pass the test are one
pub same_block_exact : (a b : BlockId) → same_block a b ≡ true → b ≡ a
same_block_exact a b h =
    let e : b.ino.0 ≡ a.ino.0 = grind (arith, nat_tests) in
    let f : b.blk ≡ a.blk = grind (arith, nat_tests) in
    λ i. record { ino = record { 0 = e i }; blk = f i }

-- each block passes it with itself
pub same_block_itself : (a : BlockId) → same_block a a ≡ true
same_block_itself a = grind (arith, nat_tests)
