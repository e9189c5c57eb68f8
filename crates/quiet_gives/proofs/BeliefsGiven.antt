-- What is believed once the owner of a block has given it up: nobody has to give way any more, and of all else all is as it was.
use Rattle.std.proofs.Common.{◌≡◌, ℕ, ◌+◌, ◌≤◌, ◌==◌, ◌&&◌, ◌||◌, not, Bool, true, false, cond, All, List, [], ◌∷◌, Option, Some, None, is_some, refl, sym, ap, ◌∙◌, arith}
use Rattle.std.proofs.lemmas.Bool.{false≢true}
use Rattle.std.proofs.lemmas.List.Elements.{All-cons, All-head, All-tail}
use Rattle.std.proofs.lemmas.Map.Views.{tells_apart}
use Rattle.std.specs.BTreeMap.{is_at}
use Rattle.std.specs.Map.{remove_entry, set_value}
use Rattle.std.specs.Ordering.{eq_by_cmp}
use Rattle.slot_beliefs.proofs.Shares.{belief, disowned, forgotten, holder_cmp_exact, holder_laws, less}
use Rattle.slot_beliefs.specs.Beliefs.{give_way, holder, holder_cmp, others, share, share_of}
use Rattle.slot_beliefs.specs.declared.job.Holder.{Holder}
use Rattle.token_manager.specs.Laws.{OwnsAlone}
use Rattle.xfs_base.proofs.BlockOrder.{same_block_exact, same_block_itself}
use Rattle.xfs_base.specs.Blocks.{same_block}
use Rattle.xfs_base.specs.declared.block.BlockId.{BlockId}
use Rattle.quiet_law.proofs.Ordered.{IsInOrder}
use Rattle.quiet_nodes.proofs.Tests.{other_test}

holder_is : (h : Holder) (b : BlockId) (o : ℕ) → h.block ≡ b → h.client ≡ o → h ≡ holder b o
holder_is h b o p q = λ i. record { block = p i; client = q i }

all_first : (x y w : Bool) → (x && y && w) ≡ true → x ≡ true
all_first true y w h = refl
all_first false y w h = h

none_last : (x y : Bool) → (x && y && false) ≡ false
none_last true true = refl
none_last true false = refl
none_last false y = refl

module _ (b : BlockId) (c o : ℕ) (differ : o ≡ c → ⊥) where
  abbrev its : Holder
  its = holder b o

  abbrev gives_way : Bool → Holder × Bool → Bool
  gives_way owners e = same_block e.0.block b && not (e.0.client == c) && (e.1 || not owners)

  abbrev removed : List (Holder × Bool) → List (Holder × Bool)
  removed bs = remove_entry (is_at (holder_cmp its)) bs

  abbrev lowered : List (Holder × Bool) → List (Holder × Bool)
  lowered bs = set_value (is_at (holder_cmp its)) bs false

  -- one that gives way and is this client is the entry of this client
  its_entry : (owners : Bool) (e : Holder × Bool) → gives_way owners e ≡ true → e.0.client ≡ o → is_at (holder_cmp its) e.0 ≡ true
  its_entry owners e way is =
      ap (eq_by_cmp holder_cmp its)
      (holder_is e.0 b o (sym (same_block_exact e.0.block b (all_first (same_block e.0.block b) (not (e.0.client == c)) (e.1 || not owners) way))) is)
      ∙ holder_laws.refl its

  -- its entry gives way, where it owns or a holder has to
  entry_way : (owners : Bool) (e : Holder × Bool) → (e.1 || not owners) ≡ true → is_at (holder_cmp its) e.0 ≡ true → gives_way owners e ≡ true
  entry_way owners e way at =
      (let same : its ≡ e.0 = tells_apart holder_cmp_exact its e.0 at in
      ap (λ (h : Holder). same_block h.block b && not (h.client == c) && (e.1 || not owners)) (sym same)
      ∙ ap (λ t. t && not (o == c) && (e.1 || not owners)) (same_block_itself b)
      ∙ ap (λ t. not t && (e.1 || not owners)) (other_test o c differ)
      ∙ way)

  not_at : (e : Holder × Bool) → (is_at (holder_cmp its) e.0 ≡ true → ⊥) → is_at (holder_cmp its) e.0 ≡ false
  not_at e never =
      elim (is_at (holder_cmp its) e.0) as (λ t. is_at (holder_cmp its) e.0 ≡ t → t ≡ false) [
        | true ↦ λ at. absurd (never at)
        | false ↦ λ _. refl
      ] refl

  -- ---- all of it is given up

  or_true : (t : Bool) → (t || true) ≡ true
  or_true true = refl
  or_true false = refl

  gone_removed : (bs : List (Holder × Bool)) → others bs b c false ≡ o ∷ [] → others (removed bs) b c false ≡ []
  gone_removed [] is = absurd (cc)
  gone_removed (e ∷ es) is =
      elim (gives_way false e) as (λ t. gives_way false e ≡ t → cond t (e.0.client ∷ others es b c false) (others es b c false) ≡ o ∷ [] → others (removed (e ∷ es)) b c false ≡ []) [
        | true ↦ λ way now.
            let first : e.0.client ≡ o = cc in
            let none : others es b c false ≡ [] = cc in
            ap (λ t. others (cond t es (e ∷ removed es)) b c false) (its_entry false e way first) ∙ none
        | false ↦ λ stays now.
            ap (λ t. others (cond t es (e ∷ removed es)) b c false) (not_at e (λ at. false≢true (sym stays ∙ entry_way false e (or_true e.1) at)))
            ∙ ap (λ t. cond t (e.0.client ∷ others (removed es) b c false) (others (removed es) b c false)) stays
            ∙ gone_removed es now
      ] refl is

  -- ---- a copy may stay

  gone_lowered : (bs : List (Holder × Bool)) → others bs b c true ≡ o ∷ [] → belief bs its ≡ Some true → others (lowered bs) b c true ≡ []
  gone_lowered [] is owns = absurd (cc)
  gone_lowered (e ∷ es) is owns =
      elim (is_at (holder_cmp its) e.0) as
      (λ t. is_at (holder_cmp its) e.0 ≡ t → cond t (Some e.1) (belief es its) ≡ Some true → others (cond t ((e.0, false) ∷ es) (e ∷ lowered es)) b c true ≡ []) [
        | true ↦ λ at now.
            let owner : e.1 ≡ true = cc in
            let way : gives_way true e ≡ true = entry_way true e (ap (λ t. t || false) owner) at in
            let listed : cond true (e.0.client ∷ others es b c true) (others es b c true) ≡ o ∷ [] =
            ap (λ t. cond t (e.0.client ∷ others es b c true) (others es b c true)) (sym way) ∙ is in
            let none : others es b c true ≡ [] = cc in
            ap (λ t. cond t (e.0.client ∷ others es b c true) (others es b c true)) (none_last (same_block e.0.block b) (not (e.0.client == c))) ∙ none
        | false ↦ λ apart now. later apart now (gone_lowered es)
      ] refl owns
    where
      later : is_at (holder_cmp its) e.0 ≡ false → belief es its ≡ Some true
          → (others es b c true ≡ o ∷ [] → belief es its ≡ Some true → others (lowered es) b c true ≡ []) → others (e ∷ lowered es) b c true ≡ []
      later apart now rest =
          elim (gives_way true e) as (λ t. gives_way true e ≡ t → cond t (e.0.client ∷ others es b c true) (others es b c true) ≡ o ∷ []
          → cond t (e.0.client ∷ others (lowered es) b c true) (others (lowered es) b c true) ≡ []) [
            | true ↦ λ way listed. let first : e.0.client ≡ o = cc in absurd (false≢true (sym apart ∙ its_entry true e way first))
            | false ↦ λ _ listed. rest listed now
          ] refl is

  abbrev given : List (Holder × Bool) → Bool → List (Holder × Bool)
  given bs keep = give_way bs its keep

  -- nobody has to give way then
  pub none_left : (bs : List (Holder × Bool)) (own : Bool) → belief bs its ≡ Some true → others bs b c (not own) ≡ o ∷ [] → others (given bs (not own)) b c (not own) ≡ []
  none_left bs true owns listed = gone_removed bs listed
  none_left bs false owns listed =
      ap (λ (x : Option Bool). others (cond (is_some x) (lowered bs) bs) b c true) owns ∙ gone_lowered bs listed owns

-- ---- shares

pub owner_is : (x : Option Bool) → 2 ≤ share x → x ≡ Some true
owner_is None h = absurd (omega (arith, h))
owner_is (Some true) h = refl
owner_is (Some false) h = absurd (omega (arith, h))

module _ (bs : List (Holder × Bool)) (h : Holder) (ordered : IsInOrder bs) where
  pub given_alone : (keep : Bool) → OwnsAlone bs → OwnsAlone (give_way bs h keep)
  given_alone keep alone x d e differs =
      both (share_of (give_way bs h keep) x d) (share_of (give_way bs h keep) x e) (share_of bs x d) (share_of bs x e) (less bs h (holder x d) keep ordered)
      (less bs h (holder x e) keep ordered) (alone x d e differs)
    where
      both : (m n m' n' : ℕ) → m ≤ m' → n ≤ n' → m' + n' ≤ 2 → m + n ≤ 2
      both m n m' n' a b c = omega arith

  apart_test : (x : Holder) → (x ≡ h → ⊥) → is_at (holder_cmp h) x ≡ false
  apart_test x differs =
      elim (is_at (holder_cmp h) x) as (λ t. is_at (holder_cmp h) x ≡ t → t ≡ false) [
        | true ↦ λ at. absurd (differs (sym (tells_apart holder_cmp_exact h x at)))
        | false ↦ λ _. refl
      ] refl

  -- of any other block and client all is as it was
  pub given_else : (keep : Bool) (x : Holder) → (x ≡ h → ⊥) → share (belief (give_way bs h keep) x) ≡ share (belief bs x)
  given_else true x differs =
      elim (is_some (belief bs h)) as (λ t. is_some (belief bs h) ≡ t → share (belief (cond t (set_value (is_at (holder_cmp h)) bs false) bs) x) ≡ share (belief bs x)) [
        | true ↦ λ some. ap share (disowned bs h x some ∙ ap (λ t. cond t (Some false) (belief bs x)) (apart_test x differs))
        | false ↦ λ _. refl
      ] refl
  given_else false x differs = ap share (forgotten bs h x ordered ∙ ap (λ t. cond t None (belief bs x)) (apart_test x differs))

  -- an owner that may keep a copy is believed to have one
  pub given_copy : belief bs h ≡ Some true → share (belief (give_way bs h true) h) ≡ 1
  given_copy owns =
      ap (λ (x : Option Bool). share (belief (cond (is_some x) (set_value (is_at (holder_cmp h)) bs false) bs) h)) owns
      ∙ ap share (disowned bs h h (ap is_some owns) ∙ ap (λ t. cond t (Some false) (belief bs h)) (holder_laws.refl h))

-- what holds of all that are believed to hold something holds of those that are left
module _ (P : Holder → Type 0) (h : Holder) where
  abbrev Of : Holder × Bool → Type 0
  Of e = P e.0

  all_removed : (bs : List (Holder × Bool)) → All Of bs → All Of (remove_entry (is_at (holder_cmp h)) bs)
  all_removed [] all = all
  all_removed (e ∷ es) all =
      elim (is_at (holder_cmp h) e.0) as (λ t. All Of (cond t es (e ∷ remove_entry (is_at (holder_cmp h)) es))) [
        | true ↦ All-tail Of e es all
        | false ↦ All-cons Of e (remove_entry (is_at (holder_cmp h)) es) (All-head Of e es all) (all_removed es (All-tail Of e es all))
      ]

  all_lowered : (bs : List (Holder × Bool)) → All Of bs → All Of (set_value (is_at (holder_cmp h)) bs false)
  all_lowered [] all = all
  all_lowered (e ∷ es) all =
      elim (is_at (holder_cmp h) e.0) as (λ t. All Of (cond t ((e.0, false) ∷ es) (e ∷ set_value (is_at (holder_cmp h)) es false))) [
        | true ↦ All-cons Of (e.0, false) es (All-head Of e es all) (All-tail Of e es all)
        | false ↦ All-cons Of e (set_value (is_at (holder_cmp h)) es false) (All-head Of e es all) (all_lowered es (All-tail Of e es all))
      ]

  pub all_given : (bs : List (Holder × Bool)) (keep : Bool) → All Of bs → All Of (give_way bs h keep)
  all_given bs true all =
      elim (is_some (belief bs h)) as (λ t. All Of (cond t (set_value (is_at (holder_cmp h)) bs false) bs)) [ true ↦ all_lowered bs all | false ↦ all ]
  all_given bs false all = all_removed bs all
