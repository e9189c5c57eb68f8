-- What is believed once a client owns a block that nobody else is believed to hold.
use Rattle.std.proofs.Common.{◌≡◌, ℕ, ◌+◌, ◌≤◌, ◌<◌, ◌==◌, Bool, true, false, cond, not, All, List, [], ◌∷◌, Some, None, Contains, refl, sym, ap, subst, ◌∙◌, arith}
use Rattle.std.specs.declared.cmp.Ordering.{Ordering}
use Rattle.std.specs.declared.cmp.Ordering.TheVariants.{Less, Equal, Greater}
use Rattle.std.specs.Ordering.{eq_by_cmp, match_ordering}
use Rattle.std.specs.BTreeMap.{insert_entry}
use Rattle.std.proofs.lemmas.Bool.{false≢true}
use Rattle.std.proofs.lemmas.Bool.Decides.{nat_tests}
use Rattle.std.proofs.lemmas.List.Elements.{All-nil, All-cons, All-head, All-tail, All-filter}
use Rattle.std.proofs.lemmas.Map.Views.{tells_apart}
use Rattle.slot_beliefs.proofs.Shares.{belief, belief-forget_block, found_by, holder_cmp_exact, holder_cmp_total, holder_laws, least, share_at_most}
use Rattle.slot_beliefs.specs.Beliefs.{holder, holder_cmp, others, beliefs_own, share, share_of, forget_block}
use Rattle.slot_beliefs.specs.declared.job.Holder.{Holder}
use Rattle.slot_beliefs.specs.declared.job.Wanted.{Wanted}
use Rattle.token_manager.specs.Laws.{OwnsAlone}
use Rattle.xfs_base.proofs.BlockOrder.{lookup-insert_entry, same_block_exact, same_block_itself}
use Rattle.xfs_base.proofs.Members.{contains_nothing}
use Rattle.xfs_base.specs.Blocks.{same_block}
use Rattle.xfs_base.specs.declared.block.BlockId.{BlockId}
use Rattle.xfs_base.specs.declared.token.Mode.TheVariants.{Own}

-- another block tests as another
pub other_block : (x b : BlockId) → (x ≡ b → ⊥) → same_block x b ≡ false
other_block x b differs =
    elim (same_block x b) as (λ t. same_block x b ≡ t → t ≡ false) [
      | true ↦ λ same. absurd (differs (sym (same_block_exact x b same)))
      | false ↦ λ _. refl
    ] refl

module _ (P : Holder → Type 0) (h : Holder) (owns : Bool) where
  -- what holds of all that are believed to hold something, and of one more, holds of all then
  pub all_inserted : (es : List (Holder × Bool)) → All (λ (e : Holder × Bool). P e.0) es → P h
      → All (λ (e : Holder × Bool). P e.0) (insert_entry holder_cmp es h owns)
  all_inserted [] all here = All-cons (λ (e : Holder × Bool). P e.0) (h, owns) [] here (All-nil (λ (e : Holder × Bool). P e.0))
  all_inserted (e ∷ es) all here = by (holder_cmp h e.0) (all_inserted es (All-tail (λ (e : Holder × Bool). P e.0) e es all) here)
    where
      by : (r : Ordering) → All (λ (e : Holder × Bool). P e.0) (insert_entry holder_cmp es h owns)
          → All (λ (e : Holder × Bool). P e.0) (match_ordering r ((h, owns) ∷ e ∷ es) ((e.0, owns) ∷ es) (e ∷ insert_entry holder_cmp es h owns))
      by Less rest = All-cons (λ (e : Holder × Bool). P e.0) (h, owns) (e ∷ es) here all
      by Equal rest =
          All-cons (λ (e : Holder × Bool). P e.0) (e.0, owns) es (All-head (λ (e : Holder × Bool). P e.0) e es all)
          (All-tail (λ (e : Holder × Bool). P e.0) e es all)
      by Greater rest =
          All-cons (λ (e : Holder × Bool). P e.0) e (insert_entry holder_cmp es h owns) (All-head (λ (e : Holder × Bool). P e.0) e es all) rest

module _ (bs : List (Holder × Bool)) (b : BlockId) (c : ℕ) where
  abbrev then_ : List (Holder × Bool)
  then_ = beliefs_own bs (holder b c)

  pub owned_believed : (P : Holder → Type 0) → All (λ (e : Holder × Bool). P e.0) bs → P (holder b c) → All (λ (e : Holder × Bool). P e.0) then_
  owned_believed P all here =
      all_inserted P (holder b c) true (forget_block bs b) (All-filter (λ (e : Holder × Bool). not (same_block e.0.block b)) (λ (e : Holder × Bool). P e.0) bs all) here

  belief_is : (q : Holder) → belief then_ q ≡ cond (eq_by_cmp holder_cmp q (holder b c)) (Some true) (cond (same_block q.block b) None (belief bs q))
  belief_is q =
      lookup-insert_entry holder_cmp_total q (holder b c) true (forget_block bs b)
      ∙ ap (cond (eq_by_cmp holder_cmp q (holder b c)) (Some true)) (belief-forget_block q b bs)

  -- the owner
  pub owner_share : share_of then_ b c ≡ 2
  owner_share =
      ap share (belief_is (holder b c) ∙ ap (λ t. cond t (Some true) (cond (same_block b b) None (belief bs (holder b c)))) (holder_laws.refl (holder b c)))

  -- of another block all is as it was
  pub other_share : (x : BlockId) (e : ℕ) → (x ≡ b → ⊥) → share_of then_ x e ≡ share_of bs x e
  other_share x e differs =
      ap share
      (belief_is (holder x e)
      ∙ ap (λ t. cond t (Some true) (cond (same_block x b) None (belief bs (holder x e)))) apart
      ∙ ap (λ t. cond t None (belief bs (holder x e))) (other_block x b differs))
    where
      apart : eq_by_cmp holder_cmp (holder x e) (holder b c) ≡ false
      apart =
          elim (eq_by_cmp holder_cmp (holder x e) (holder b c)) as (λ t. eq_by_cmp holder_cmp (holder x e) (holder b c) ≡ t → t ≡ false) [
            | true ↦ λ same. absurd (differs (ap (λ (h : Holder). h.block) (tells_apart holder_cmp_exact (holder x e) (holder b c) same)))
            | false ↦ λ _. refl
          ] refl

  module _ (lonely : others bs b c false ≡ []) where
    abbrev its_want : Wanted
    its_want = record { client = c; block = b; inc = 0; req = 0; again = 0; mode = Own }

    -- nobody else has anything of it
    pub none_else : (e : ℕ) → (e ≡ c → ⊥) → share_of bs b e ≡ 0
    none_else e differs =
        elim (share_of bs b e == 0) as (λ t. (share_of bs b e == 0) ≡ t → share_of bs b e ≡ 0) [
          | true ↦ λ same. is_zero (share_of bs b e) same
          | false ↦ λ some. absurd (contains_nothing e (subst (λ cs. Contains cs e) lonely (found_by bs its_want e differs (is_more (share_of bs b e) some))))
        ] refl
      where
        is_zero : (n : ℕ) → (n == 0) ≡ true → n ≡ 0
        is_zero n h = grind (arith, nat_tests)

        is_more : (n : ℕ) → (n == 0) ≡ false → 2 < n + 2
        is_more n h = grind (arith, nat_tests)

    least_of : (e : ℕ) → (e ≡ c → ⊥) → share_of then_ b e ≤ share_of bs b e
    least_of e differs = least bs its_want (holder b e) (λ p. differs (ap (λ (h : Holder). h.client) p))

    pub none_then : (e : ℕ) → (e ≡ c → ⊥) → share_of then_ b e ≡ 0
    none_then e differs = let less = least_of e differs in let zero_ = none_else e differs in omega arith

    most_is : (e : ℕ) → share_of then_ b e ≤ 2
    most_is e = share_at_most (belief then_ (holder b e))

    of_it : (d e : ℕ) → (d ≡ e → ⊥) → share_of then_ b d + share_of then_ b e ≤ 2
    of_it d e differs =
        elim (d == c) as (λ t. (d == c) ≡ t → share_of then_ b d + share_of then_ b e ≤ 2) [
          | true ↦ λ same. let zero_ = none_then e (λ is_c. differs (equal d c same ∙ sym is_c)) in let most = most_is d in omega arith
          | false ↦ λ other. let zero_ = none_then d (λ is_c. apart d c other is_c) in let most = most_is e in omega arith
        ] refl
      where
        equal : (n m : ℕ) → (n == m) ≡ true → n ≡ m
        equal n m h = grind (arith, nat_tests)

        apart : (n m : ℕ) → (n == m) ≡ false → n ≡ m → ⊥
        apart n m h same = grind (arith, nat_tests)

    -- owners are alone then
    pub owned_alone : OwnsAlone bs → OwnsAlone then_
    owned_alone alone x d e differs =
        elim (same_block x b) as (λ t. same_block x b ≡ t → share_of then_ x d + share_of then_ x e ≤ 2) [
          | true ↦ λ same. subst (λ y. share_of then_ y d + share_of then_ y e ≤ 2) (same_block_exact x b same) (of_it d e differs)
          | false ↦ λ other. let apart = λ (is : x ≡ b). false≢true (sym other ∙ ap (λ y. same_block y b) is ∙ same_block_itself b) in
              subst (λ n. n + share_of then_ x e ≤ 2) (sym (other_share x d apart))
              (subst (λ n. share_of bs x d + n ≤ 2) (sym (other_share x e apart)) (alone x d e differs))
        ] refl
