-- The beliefs of a slot stay in order, so that of each client and block there is one.
use Rattle.std.proofs.Common.{◌≡◌, Bool, true, false, cond, not, List, [], ◌∷◌, is_some}
use Rattle.std.specs.declared.cmp.Ordering.TheVariants.{Less}
use Rattle.std.specs.BTreeMap.{insert_entry}
use Rattle.std.specs.List.{AllByRecursion, filter}
use Rattle.std.specs.List.Sorted.{IsStrictlySortedBy}
use Rattle.std.specs.Map.{keys_of}
use Rattle.slot_beliefs.proofs.Shares.{belief, holder_cmp_total}
use Rattle.slot_beliefs.specs.Beliefs.{beliefs_hold, holder_cmp, beliefs_own, forget_block}
use Rattle.slot_beliefs.specs.declared.job.Holder.{Holder}
use Rattle.xfs_base.proofs.Sorted.{sorted_insert}
use Rattle.xfs_base.specs.Blocks.{same_block}

abbrev pub IsInOrder : List (Holder × Bool) → Type 0
IsInOrder bs = IsStrictlySortedBy holder_cmp (keys_of bs)

pub none_ordered : IsInOrder []
unfolding IsStrictlySortedBy
none_ordered = tt

below_filter : (h : Holder) (p : Holder × Bool → Bool) (es : List (Holder × Bool)) → AllByRecursion (λ y. holder_cmp h y ≡ Less) (keys_of es)
    → AllByRecursion (λ y. holder_cmp h y ≡ Less) (keys_of (filter p es))
below_filter h p [] below = below
below_filter h p (e ∷ es) below =
    elim (p e) as (λ t. AllByRecursion (λ y. holder_cmp h y ≡ Less) (keys_of (cond t (e ∷ filter p es) (filter p es))))
    [ true ↦ (below.0, below_filter h p es below.1) | false ↦ below_filter h p es below.1 ]

ordered_filter : (p : Holder × Bool → Bool) (es : List (Holder × Bool)) → IsInOrder es → IsInOrder (filter p es)
unfolding IsStrictlySortedBy
ordered_filter p [] sorted = sorted
ordered_filter p (e ∷ es) sorted =
    elim (p e) as (λ t. IsStrictlySortedBy holder_cmp (keys_of (cond t (e ∷ filter p es) (filter p es))))
    [ true ↦ (below_filter e.0 p es sorted.0, ordered_filter p es sorted.1) | false ↦ ordered_filter p es sorted.1 ]

-- once one owns the block alone
pub ordered_owned : (bs : List (Holder × Bool)) (h : Holder) → IsInOrder bs → IsInOrder (beliefs_own bs h)
ordered_owned bs h sorted =
    sorted_insert holder_cmp holder_cmp_total h true (forget_block bs h.block) (ordered_filter (λ b. not (same_block b.0.block h.block)) bs sorted)

-- once one holds a copy
pub ordered_held : (bs : List (Holder × Bool)) (h : Holder) → IsInOrder bs → IsInOrder (beliefs_hold bs h)
ordered_held bs h sorted =
    elim (is_some (belief bs h)) as (λ t. IsInOrder (cond t bs (insert_entry holder_cmp bs h false)))
    [ true ↦ sorted | false ↦ sorted_insert holder_cmp holder_cmp_total h false bs sorted ]
