-- The algebra of joins: of a concatenation, of a repeated merge, of merges that change places.
use Rattle.std.proofs.Common.{◌≡◌, Bool, true, false, cond, List, [], ◌∷◌, ◌++◌, map, refl, sym, ap, ◌∙◌, arith}
use Rattle.std.specs.List.{fold}
use Rattle.std.specs.Ordering.{eq_by_cmp}
use Rattle.std.proofs.lemmas.List.Sums.{fold-append}
use Rattle.std.proofs.lemmas.List.Elements.{filter-append}
use Rattle.std.proofs.lemmas.List.{map-append}
use Rattle.std.proofs.lemmas.Bool.Decides.{nat_tests}
use Rattle.xfs_base.specs.declared.block.BlockId.{BlockId}
use Rattle.xfs_base.specs.declared.entry.Entry.{Entry}
use Rattle.xfs_base.specs.Blocks.{block_cmp, same_block}
use Rattle.xfs_base.proofs.BlockOrder.{same_block_exact}
use Rattle.delta_index.specs.Entries.{no_entry, first_greatest, DiffersInRank}
use Rattle.delta_index.specs.Join.{entries_of, join, MayChangePlaces}
use Rattle.delta_index.proofs.EntryAlgebra.{first_greatest-none, first_greatest-assoc, first_greatest-repeat, first_greatest-swap, none_between}

-- a fold that begins at an entry
fold-from : (a : Entry) (es : List Entry) → fold first_greatest a es ≡ first_greatest a (fold first_greatest no_entry es)
fold-from a [] = sym (first_greatest-none a)
fold-from a (e ∷ es) =
    fold-from (first_greatest a e) es ∙ first_greatest-assoc a e (fold first_greatest no_entry es)
    ∙ sym (none_between a (first_greatest e (fold first_greatest no_entry es)))
    ∙ sym (ap (first_greatest a) (fold-from (first_greatest no_entry e) es ∙ first_greatest-assoc no_entry e (fold first_greatest no_entry es)))

-- a join is no entry, or above version 0 and hop 0
pub none-join : (ms : List (BlockId × Entry)) (q : BlockId) → first_greatest no_entry (join ms q) ≡ join ms q
none-join ms q = sym (fold-from no_entry (entries_of q ms))

entries_of-append : (q : BlockId) (ms ns : List (BlockId × Entry)) → entries_of q (ms ++ ns) ≡ entries_of q ms ++ entries_of q ns
entries_of-append q ms ns = ap (map (λ (m : BlockId × Entry). m.1)) (filter-append (λ (m : BlockId × Entry). same_block q m.0) ms ns) ∙ map-append _ _ _

pub join-append : (ms ns : List (BlockId × Entry)) (q : BlockId) → join (ms ++ ns) q ≡ first_greatest (join ms q) (join ns q)
join-append ms ns q =
    ap (fold first_greatest no_entry) (entries_of-append q ms ns) ∙ fold-append first_greatest no_entry (entries_of q ms) (entries_of q ns)
    ∙ fold-from (join ms q) (entries_of q ns)

pub join-cons : (m : BlockId × Entry) (ms : List (BlockId × Entry)) (q : BlockId) → join (m ∷ ms) q ≡ first_greatest (join (m ∷ []) q) (join ms q)
join-cons m ms q = join-append (m ∷ []) ms q

-- the join of one merge
pub join-one : (m : BlockId × Entry) (q : BlockId) → join (m ∷ []) q ≡ cond (same_block q m.0) (first_greatest no_entry m.1) no_entry
join-one m q =
    elim (same_block q m.0) as
    (λ t. fold first_greatest no_entry (map (λ (n : BlockId × Entry). n.1) (cond t (m ∷ []) [])) ≡ cond t (first_greatest no_entry m.1) no_entry)
    [ true ↦ refl | false ↦ refl ]

-- entries j, k, j and then r: the second j adds nothing
again : (j k r : Entry) → first_greatest j (first_greatest k (first_greatest j r)) ≡ first_greatest j (first_greatest k r)
again j k r =
    sym (first_greatest-assoc j k (first_greatest j r)) ∙ sym (first_greatest-assoc (first_greatest j k) j r)
    ∙ ap (λ x. first_greatest x r) (first_greatest-repeat j k) ∙ first_greatest-assoc j k r

pub join-repeat : (before between later : List (BlockId × Entry)) (m : BlockId × Entry) (q : BlockId)
    → join (before ++ m ∷ (between ++ m ∷ later)) q ≡ join (before ++ m ∷ (between ++ later)) q
join-repeat before between later m q =
    let k : join (m ∷ (between ++ m ∷ later)) q ≡ join (m ∷ (between ++ later)) q =
    join-cons m (between ++ m ∷ later) q
    ∙ ap (first_greatest (join (m ∷ []) q)) (join-append between (m ∷ later) q ∙ ap (first_greatest (join between q)) (join-cons m later q))
    ∙ again (join (m ∷ []) q) (join between q) (join later q)
    ∙ sym (join-cons m (between ++ later) q ∙ ap (first_greatest (join (m ∷ []) q)) (join-append between later q))
    in
    join-append before (m ∷ (between ++ m ∷ later)) q ∙ ap (first_greatest (join before q)) k ∙ sym (join-append before (m ∷ (between ++ later)) q)

-- both after no entry, in either order
swapped_after_none : (a b : Entry) → DiffersInRank a b
    → first_greatest (first_greatest no_entry a) (first_greatest no_entry b) ≡ first_greatest (first_greatest no_entry b) (first_greatest no_entry a)
swapped_after_none a b d =
    none_between (first_greatest no_entry a) b ∙ first_greatest-assoc no_entry a b ∙ ap (first_greatest no_entry) (first_greatest-swap a b d)
    ∙ sym (first_greatest-assoc no_entry b a) ∙ sym (none_between (first_greatest no_entry b) a)

-- one of the two is of another block
beside_none : (a : Entry) → first_greatest (first_greatest no_entry a) no_entry ≡ first_greatest no_entry (first_greatest no_entry a)
beside_none a = first_greatest-none (first_greatest no_entry a) ∙ sym (none_between no_entry a)

swapped_ones : (m n : BlockId × Entry) (q : BlockId) → MayChangePlaces m n → (t u : Bool) → same_block q m.0 ≡ t → same_block q n.0 ≡ u
    → first_greatest (cond t (first_greatest no_entry m.1) no_entry) (cond u (first_greatest no_entry n.1) no_entry) ≡ first_greatest
    (cond u (first_greatest no_entry n.1) no_entry) (cond t (first_greatest no_entry m.1) no_entry)
swapped_ones m n q may true true p r = swapped_after_none m.1 n.1 (may (same_block_exact q m.0 p ∙ sym (same_block_exact q n.0 r)))
swapped_ones m n q may true false p r = beside_none m.1
swapped_ones m n q may false true p r = sym (beside_none n.1)
swapped_ones m n q may false false p r = refl

pub join-swap : (before later : List (BlockId × Entry)) (m n : BlockId × Entry) (q : BlockId) → MayChangePlaces m n
    → join (before ++ m ∷ n ∷ later) q ≡ join (before ++ n ∷ m ∷ later) q
join-swap before later m n q may =
    let ones : first_greatest (join (m ∷ []) q) (join (n ∷ []) q) ≡ first_greatest (join (n ∷ []) q) (join (m ∷ []) q) =
    ap (λ x. first_greatest x (join (n ∷ []) q)) (join-one m q) ∙ ap (first_greatest _) (join-one n q)
    ∙ swapped_ones m n q may (same_block q m.0) (same_block q n.0) refl refl
    ∙ sym (ap (λ x. first_greatest x (join (m ∷ []) q)) (join-one n q) ∙ ap (first_greatest _) (join-one m q))
    in
    let pair : (x y : BlockId × Entry) → join (x ∷ y ∷ later) q ≡ first_greatest (first_greatest (join (x ∷ []) q) (join (y ∷ []) q)) (join later q) =
    λ x y. join-cons x (y ∷ later) q ∙ ap (first_greatest (join (x ∷ []) q)) (join-cons y later q)
    ∙ sym (first_greatest-assoc (join (x ∷ []) q) (join (y ∷ []) q) (join later q))
    in
    join-append before (m ∷ n ∷ later) q
    ∙ ap (first_greatest (join before q)) (pair m n ∙ ap (λ x. first_greatest x (join later q)) ones ∙ sym (pair n m))
    ∙ sym (join-append before (n ∷ m ∷ later) q)

-- the test of a table and the test of a join are one
pub same_block-eq : (a b : BlockId) → eq_by_cmp block_cmp a b ≡ same_block a b
same_block-eq a b = grind (arith, nat_tests)
