-- What is believed once a client has a copy of a block that nobody else owns.
use Rattle.std.proofs.Common.{◌≡◌, ℕ, ◌+◌, ◌<◌, ◌≤◌, ◌==◌, Bool, true, false, cond, nat_le, All, Contains, List, [], Option, Some, None, is_some, refl, sym, ap, subst, ◌∙◌, arith}
use Rattle.std.specs.Ordering.{eq_by_cmp}
use Rattle.std.specs.BTreeMap.{insert_entry}
use Rattle.std.proofs.lemmas.Bool.Decides.{nat_tests}
use Rattle.std.proofs.lemmas.Map.Views.{tells_apart}
use Rattle.slot_beliefs.proofs.Shares.{belief, found_by, holder_cmp_exact, holder_cmp_total, holder_laws}
use Rattle.slot_beliefs.specs.Beliefs.{beliefs_hold, holder, holder_cmp, others, share, share_of}
use Rattle.slot_beliefs.specs.declared.job.Holder.{Holder}
use Rattle.slot_beliefs.specs.declared.job.Wanted.{Wanted}
use Rattle.token_manager.specs.Laws.{OwnsAlone}
use Rattle.xfs_base.proofs.BlockOrder.{lookup-insert_entry, same_block_exact}
use Rattle.xfs_base.proofs.Members.{contains_nothing}
use Rattle.xfs_base.specs.Blocks.{same_block}
use Rattle.xfs_base.specs.declared.block.BlockId.{BlockId}
use Rattle.xfs_base.specs.declared.token.Mode.TheVariants.{Copy}
use Rattle.quiet_law.proofs.Believing.{all_inserted}
use Rattle.quiet_law.proofs.Waiting.{not_the_block}

module _ (bs : List (Holder × Bool)) (b : BlockId) (c : ℕ) where
  abbrev then_ : List (Holder × Bool)
  then_ = beliefs_hold bs (holder b c)

  abbrev inserted : List (Holder × Bool)
  inserted = insert_entry holder_cmp bs (holder b c) false

  pub held_believed : (P : Holder → Type 0) → All (λ (e : Holder × Bool). P e.0) bs → P (holder b c) → All (λ (e : Holder × Bool). P e.0) then_
  held_believed P all here =
      elim (is_some (belief bs (holder b c))) as (λ t. All (λ (e : Holder × Bool). P e.0) (cond t bs inserted))
      [ true ↦ all | false ↦ all_inserted P (holder b c) false bs all here ]

  inserted_is : (q : Holder) → belief inserted q ≡ cond (eq_by_cmp holder_cmp q (holder b c)) (Some false) (belief bs q)
  inserted_is q = lookup-insert_entry holder_cmp_total q (holder b c) false bs

  -- the holder
  pub holder_share : 1 ≤ share_of then_ b c
  holder_share =
      elim (is_some (belief bs (holder b c))) as (λ t. is_some (belief bs (holder b c)) ≡ t → 1 ≤ share (belief (cond t bs inserted) (holder b c))) [
        | true ↦ λ some. some_share (belief bs (holder b c)) some
        | false ↦ λ none. subst (λ o. 1 ≤ share o)
            (sym (inserted_is (holder b c) ∙ ap (λ t. cond t (Some false) (belief bs (holder b c))) (holder_laws.refl (holder b c)))) (omega arith)
      ] refl
    where
      some_share : (o : Option Bool) → is_some o ≡ true → 1 ≤ share o
      some_share None h = absurd (cc)
      some_share (Some true) h = omega arith
      some_share (Some false) h = omega arith

  of_another : (x : BlockId) (e : ℕ) → (holder x e ≡ holder b c → ⊥) → share_of inserted x e ≡ share_of bs x e
  of_another x e differs = ap share (inserted_is (holder x e) ∙ ap (λ t. cond t (Some false) (belief bs (holder x e))) apart)
    where
      apart : eq_by_cmp holder_cmp (holder x e) (holder b c) ≡ false
      apart =
          elim (eq_by_cmp holder_cmp (holder x e) (holder b c)) as (λ t. eq_by_cmp holder_cmp (holder x e) (holder b c) ≡ t → t ≡ false) [
            | true ↦ λ same. absurd (differs (tells_apart holder_cmp_exact (holder x e) (holder b c) same))
            | false ↦ λ _. refl
          ] refl

  -- of all else all is as it was
  pub another_share : (x : BlockId) (e : ℕ) → (holder x e ≡ holder b c → ⊥) → share_of then_ x e ≡ share_of bs x e
  another_share x e differs =
      elim (is_some (belief bs (holder b c))) as (λ t. share_of (cond t bs inserted) x e ≡ share_of bs x e)
      [ true ↦ refl | false ↦ of_another x e differs ]

  -- and nobody is believed to have less
  pub no_less : (x : BlockId) (e : ℕ) → share_of bs x e ≤ share_of then_ x e
  no_less x e =
      elim (is_some (belief bs (holder b c))) as
      (λ t. is_some (belief bs (holder b c)) ≡ t → share (belief bs (holder x e)) ≤ share (belief (cond t bs inserted) (holder x e))) [
        | true ↦ λ _. omega arith
        | false ↦ λ none. subst (λ o. share (belief bs (holder x e)) ≤ share o) (sym (inserted_is (holder x e))) (by_test none)
      ] refl
    where
      nothing : (o : Option Bool) → is_some o ≡ false → share o ≤ 1
      nothing None h = omega arith
      nothing (Some owns) h = absurd (cc)

      by_test : is_some (belief bs (holder b c)) ≡ false
          → share (belief bs (holder x e)) ≤ share (cond (eq_by_cmp holder_cmp (holder x e) (holder b c)) (Some false) (belief bs (holder x e)))
      by_test none =
          elim (eq_by_cmp holder_cmp (holder x e) (holder b c)) as
          (λ t. eq_by_cmp holder_cmp (holder x e) (holder b c) ≡ t → share (belief bs (holder x e)) ≤ share (cond t (Some false) (belief bs (holder x e)))) [
            | true ↦ λ same. subst (λ q. share (belief bs q) ≤ 1) (sym (tells_apart holder_cmp_exact (holder x e) (holder b c) same))
                (nothing (belief bs (holder b c)) none)
            | false ↦ λ _. omega arith
          ] refl

  module _ (unowned : others bs b c true ≡ []) where
    abbrev its_want : Wanted
    its_want = record { client = c; block = b; inc = 0; req = 0; again = 0; mode = Copy }

    copy_at_most : (e : ℕ) → (e ≡ c → ⊥) → share_of bs b e ≤ 1
    copy_at_most e differs =
        elim (nat_le (share_of bs b e) 1) as (λ t. nat_le (share_of bs b e) 1 ≡ t → share_of bs b e ≤ 1) [
          | true ↦ λ few. low (share_of bs b e) few
          | false ↦ λ more. absurd (contains_nothing e (subst (λ cs. Contains cs e) unowned (found_by bs its_want e differs (high (share_of bs b e) more))))
        ] refl
      where
        low : (n : ℕ) → nat_le n 1 ≡ true → n ≤ 1
        low n h = grind (arith, nat_tests)

        high : (n : ℕ) → nat_le n 1 ≡ false → 2 < n + 1
        high n h = grind (arith, nat_tests)

    its_share : share_of inserted b c ≡ 1
    its_share = ap share (inserted_is (holder b c) ∙ ap (λ t. cond t (Some false) (belief bs (holder b c))) (holder_laws.refl (holder b c)))

    at_most_one : (n : ℕ) → share_of inserted b n ≤ 1
    at_most_one n =
        elim (n == c) as (λ t. (n == c) ≡ t → share_of inserted b n ≤ 1) [
          | true ↦ λ same. subst (λ m. share_of inserted b m ≤ 1) (sym (equal n c same)) (let one = its_share in omega arith)
          | false ↦ λ other.
              let is = of_another b n (λ same. apart n c other (ap (λ (h : Holder). h.client) same)) in
              let few = copy_at_most n (λ same. apart n c other same) in
              omega arith
        ] refl
      where
        equal : (n m : ℕ) → (n == m) ≡ true → n ≡ m
        equal n m h = grind (arith, nat_tests)

        apart : (n m : ℕ) → (n == m) ≡ false → n ≡ m → ⊥
        apart n m h same = grind (arith, nat_tests)

    of_two : OwnsAlone bs → (x : BlockId) (d e : ℕ) → (d ≡ e → ⊥) → share_of inserted x d + share_of inserted x e ≤ 2
    of_two alone x d e differs =
        elim (same_block b x) as (λ t. same_block b x ≡ t → share_of inserted x d + share_of inserted x e ≤ 2) [
          | true ↦ λ same. subst (λ y. share_of inserted y d + share_of inserted y e ≤ 2) (sym (same_block_exact b x same))
              (let one = at_most_one d in let two = at_most_one e in omega arith)
          | false ↦ λ other. let apart = not_the_block x b other in
              let one = of_another x d (λ same. apart (ap (λ (h : Holder). h.block) same)) in
              let two = of_another x e (λ same. apart (ap (λ (h : Holder). h.block) same)) in
              let before = alone x d e differs in
              omega arith
        ] refl

    -- owners are alone then
    pub copies_alone : OwnsAlone bs → OwnsAlone then_
    copies_alone alone x d e differs =
        elim (is_some (belief bs (holder b c))) as (λ t. share_of (cond t bs inserted) x d + share_of (cond t bs inserted) x e ≤ 2)
        [ true ↦ alone x d e differs | false ↦ of_two alone x d e differs ]
