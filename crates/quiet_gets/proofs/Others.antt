-- Who the others are that are believed to hold a block; a copy of the asker's is none of theirs.
use Rattle.std.specs.declared.cmp.Ordering.TheVariants.{Less, Equal, Greater}
use Rattle.std.specs.Ordering.{match_ordering}
use Rattle.std.specs.BTreeMap.{insert_entry}
use Rattle.std.specs.List.{AllByRecursion}
use Rattle.quiet_nodes.proofs.Tests.{same_test}
use Rattle.slot_beliefs.proofs.Shares.{belief, holder_cmp_exact}
use Rattle.slot_beliefs.specs.Beliefs.{beliefs_hold, holder, holder_cmp, others}
use Rattle.slot_beliefs.specs.declared.job.Holder.{Holder}
use Rattle.std.proofs.Common.{All, Bool, List, [], ap, arith, cond, false, is_some, not, refl, subst, sym, true, ℕ, ◌&&◌, ◌==◌, ◌||◌, ◌∙◌, ◌∷◌, ◌≡◌, ◌≤◌}
use Rattle.std.proofs.lemmas.Bool.Decides.{nat_tests}
use Rattle.std.proofs.lemmas.List.Elements.{All-head, All-tail}
use Rattle.xfs_base.proofs.BlockOrder.{same_block_itself}
use Rattle.xfs_base.specs.Blocks.{same_block}
use Rattle.xfs_base.specs.declared.block.BlockId.{BlockId}

module _ (bs : List (Holder × Bool)) (b : BlockId) (c : ℕ) where
  -- each is a client of the setup, and not the asker
  abbrev pub IsOther : ℕ → ℕ → Type 0
  IsOther n m = ((1 ≤ m) × (m ≤ n)) × (m ≡ c → ⊥)

  pub others_are : (n : ℕ) (owners : Bool) (es : List (Holder × Bool)) → All (λ (e : Holder × Bool). (1 ≤ e.0.client) × (e.0.client ≤ n)) es
      → AllByRecursion (IsOther n) (others es b c owners)
  others_are n owners [] all = tt
  others_are n owners (e ∷ es) all =
      by_test (same_block e.0.block b) (e.0.client == c) (e.1 || not owners) refl (All-head (λ (x : Holder × Bool). (1 ≤ x.0.client) × (x.0.client ≤ n)) e es all)
      (others_are n owners es (All-tail (λ (x : Holder × Bool). (1 ≤ x.0.client) × (x.0.client ≤ n)) e es all))
    where
      apart : (m : ℕ) → (m == c) ≡ false → m ≡ c → ⊥
      apart m differs same = grind (arith, nat_tests)

      by_test : (t o some : Bool) → (e.0.client == c) ≡ o → (1 ≤ e.0.client) × (e.0.client ≤ n) → AllByRecursion (IsOther n) (others es b c owners)
          → AllByRecursion (IsOther n) (cond (t && not o && some) (e.0.client ∷ others es b c owners) (others es b c owners))
      by_test true false true own here rest = ((here, λ is. apart e.0.client own is), rest)
      by_test true false false own here rest = rest
      by_test true true some own here rest = rest
      by_test false o some own here rest = rest

  -- so is the first
  pub first_other : (n d : ℕ) (ds : List ℕ) (owners : Bool) → All (λ (e : Holder × Bool). (1 ≤ e.0.client) × (e.0.client ≤ n)) bs → others bs b c owners ≡ d ∷ ds → IsOther n d
  first_other n d ds owners all is = (subst (AllByRecursion (IsOther n)) is (others_are n owners bs all)).0

  -- a copy of the asker's is no one else's
  others_inserted : (owners : Bool) (es : List (Holder × Bool)) → others (insert_entry holder_cmp es (holder b c) false) b c owners ≡ others es b c owners
  others_inserted owners [] = ap (λ t. cond (t && not (c == c) && (false || not owners)) (c ∷ []) []) (same_block_itself b) ∙ ap (λ t. cond (not t && (false || not owners)) (c ∷ []) []) (same_test c)
  others_inserted owners (e ∷ es) =
      elim (holder_cmp (holder b c) e.0) as (λ r. holder_cmp (holder b c) e.0 ≡ r
      → others (match_ordering r ((holder b c, false) ∷ e ∷ es) ((e.0, false) ∷ es) (e ∷ insert_entry holder_cmp es (holder b c) false)) b c owners ≡ others (e ∷ es) b c owners) [
        | Less ↦ λ _. its_own (holder b c) false (e ∷ es) refl
        | Equal ↦ λ same. let is = sym (holder_cmp_exact (holder b c) e.0 same) in its_own e.0 false es is ∙ sym (its_own e.0 e.1 es is)
        | Greater ↦ λ _. ap (λ rest. cond (same_block e.0.block b && not (e.0.client == c) && (e.1 || not owners)) (e.0.client ∷ rest) rest) (others_inserted owners es)
      ] refl
    where
      its_own : (h : Holder) (owns : Bool) (rest : List (Holder × Bool)) → h ≡ holder b c → others ((h, owns) ∷ rest) b c owners ≡ others rest b c owners
      its_own h owns rest is =
          ap (λ (q : Holder). cond (same_block q.block b && not (q.client == c) && (owns || not owners)) (q.client ∷ others rest b c owners) (others rest b c owners)) is
          ∙ ap (λ t. cond (t && not (c == c) && (owns || not owners)) (c ∷ others rest b c owners) (others rest b c owners)) (same_block_itself b)
          ∙ ap (λ t. cond (not t && (owns || not owners)) (c ∷ others rest b c owners) (others rest b c owners)) (same_test c)

  pub others_held : (owners : Bool) → others (beliefs_hold bs (holder b c)) b c owners ≡ others bs b c owners
  others_held owners =
      elim (is_some (belief bs (holder b c))) as (λ t. others (cond t bs (insert_entry holder_cmp bs (holder b c) false)) b c owners ≡ others bs b c owners)
      [ true ↦ refl | false ↦ others_inserted owners bs ]
