-- Which blocks a client wants: none where none of its entries has a want, and the one that is asked for then.
use Rattle.token_client.specs.Transition.{is_spent, wanted_blocks}
use Rattle.std.specs.declared.cmp.Ordering.TheVariants.{Less, Equal, Greater}
use Rattle.std.specs.Map.{keys_of, remove_entry, values_of}
use Rattle.std.specs.BTreeMap.{insert_entry, is_at}
use Rattle.std.specs.List.{AllByRecursion, list_any}
use Rattle.std.specs.Prelude.{filter}
use Rattle.std.specs.Ordering.{match_ordering}
use Rattle.token_client.specs.declared.held.Wanted.{Wanted}
use Rattle.xfs_base.specs.Blocks.{block_cmp}
use Rattle.xfs_base.proofs.BlockOrder.{block_cmp_exact}
use Rattle.token_client.proofs.Promises.{Agrees, agrees-itself}
use Rattle.token_client.proofs.Tables.{InOrder}
use Rattle.std.proofs.Common.{Bool, List, None, Some, [], ap, cond, false, is_some, refl, sym, true, ◌||◌, ◌∙◌, ◌∷◌, ◌≡◌}
use Rattle.token_client.specs.State.{held_of, put_held}
use Rattle.token_client.specs.declared.held.Held.{Held}
use Rattle.xfs_base.specs.declared.block.BlockId.{BlockId}

abbrev pub NoWants : List (BlockId × Held) → Type 0
NoWants es = AllByRecursion (λ (x : BlockId × Held). x.1.want ≡ None) es

pub none_wanted : (es : List (BlockId × Held)) → NoWants es → wanted_blocks es ≡ []
none_wanted [] none = refl
none_wanted (e ∷ es) none = ap (λ o. keys_of (cond (is_some o) (e ∷ filter (λ (x : BlockId × Held). is_some x.1.want) es) (filter (λ (x : BlockId × Held). is_some x.1.want) es))) none.0 ∙ none_wanted es none.1

pub none_spent : (es : List (BlockId × Held)) → NoWants es → list_any (λ (h : Held). is_spent h.want) (values_of es) ≡ false
none_spent [] none = refl
none_spent (e ∷ es) none = ap (λ o. is_spent o || list_any (λ (h : Held). is_spent h.want) (values_of es)) none.0 ∙ none_spent es none.1

-- ---- by what is known of each block

wants_none : (table es : List (BlockId × Held)) → ((q : BlockId) → (held_of table q).want ≡ None) → Agrees table es → NoWants es
wants_none table [] none agrees = tt
wants_none table (e ∷ es) none agrees = (ap (λ (h : Held). h.want) (sym agrees.0) ∙ none e.0, wants_none table es none agrees.1)

pub no_wants : (es : List (BlockId × Held)) → InOrder es → ((q : BlockId) → (held_of es q).want ≡ None) → NoWants es
no_wants es sorted none = wants_none es es none (agrees-itself es sorted)

-- ---- one that is asked for

module _ (b : BlockId) (h : Held) (w : Wanted) (wanted : h.want ≡ Some w) where
  abbrev some_want : BlockId × Held → Bool
  some_want x = is_some x.1.want

  abbrev inserted : List (BlockId × Held) → List (BlockId × Held)
  inserted es = insert_entry block_cmp es b h

  one_key : (k : BlockId) (es : List (BlockId × Held)) → NoWants es → keys_of (filter some_want ((k, h) ∷ es)) ≡ k ∷ []
  one_key k es none =
      ap (λ o. keys_of (cond (is_some o) ((k, h) ∷ filter some_want es) (filter some_want es))) wanted ∙ ap (λ ks. k ∷ ks) (none_wanted es none)

  one_inserted : (es : List (BlockId × Held)) → NoWants es → keys_of (filter some_want (inserted es)) ≡ b ∷ []
  one_inserted [] none = one_key b [] tt
  one_inserted (e ∷ es) none =
      elim (block_cmp b e.0) as
      (λ r. block_cmp b e.0 ≡ r → keys_of (filter some_want (match_ordering r ((b, h) ∷ e ∷ es) ((e.0, h) ∷ es) (e ∷ inserted es))) ≡ b ∷ []) [
        | Less ↦ λ _. one_key b (e ∷ es) none
        | Equal ↦ λ same. one_key e.0 es none.1 ∙ ap (λ k. k ∷ []) (sym (block_cmp_exact b e.0 same))
        | Greater ↦ λ _.
            ap (λ o. keys_of (cond (is_some o) (e ∷ filter some_want (inserted es)) (filter some_want (inserted es)))) none.0 ∙ one_inserted es none.1
      ] refl

  abbrev spent_one : Held → Bool
  spent_one x = is_spent x.want

  module _ (low : is_spent (Some w) ≡ false) where
    unspent_first : (k : BlockId) (es : List (BlockId × Held)) → NoWants es → list_any spent_one (values_of ((k, h) ∷ es)) ≡ false
    unspent_first k es none = ap (λ o. is_spent o || list_any spent_one (values_of es)) wanted ∙ ap (λ t. t || list_any spent_one (values_of es)) low ∙ none_spent es none

    unspent_inserted : (es : List (BlockId × Held)) → NoWants es → list_any spent_one (values_of (inserted es)) ≡ false
    unspent_inserted [] none = unspent_first b [] tt
    unspent_inserted (e ∷ es) none =
        elim (block_cmp b e.0) as
        (λ r. list_any spent_one (values_of (match_ordering r ((b, h) ∷ e ∷ es) ((e.0, h) ∷ es) (e ∷ inserted es))) ≡ false) [
          | Less ↦ unspent_first b (e ∷ es) none
          | Equal ↦ unspent_first e.0 es none.1
          | Greater ↦ ap (λ o. is_spent o || list_any spent_one (values_of (inserted es))) none.0 ∙ unspent_inserted es none.1
        ]

  removed_none : (test : BlockId → Bool) (es : List (BlockId × Held)) → NoWants es → NoWants (remove_entry test es)
  removed_none test [] none = tt
  removed_none test (e ∷ es) none =
      elim (test e.0) as (λ t. NoWants (cond t es (e ∷ remove_entry test es))) [ true ↦ none.1 | false ↦ (none.0, removed_none test es none.1) ]

  pub one_wanted : (es : List (BlockId × Held)) → NoWants es → wanted_blocks (put_held es b h) ≡ b ∷ []
  one_wanted es none = one_inserted (remove_entry (is_at (block_cmp b)) es) (removed_none (is_at (block_cmp b)) es none)

  pub one_unspent : (es : List (BlockId × Held)) → NoWants es → is_spent (Some w) ≡ false → list_any spent_one (values_of (put_held es b h)) ≡ false
  one_unspent es none low = unspent_inserted low (remove_entry (is_at (block_cmp b)) es) (removed_none (is_at (block_cmp b)) es none)
