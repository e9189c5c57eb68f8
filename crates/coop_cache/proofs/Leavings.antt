-- A block leaves only where it is taken out or told as a victim, and a victim is told only where the cache is full.
use Rattle.std.proofs.Common.{◌≡◌, ℕ, ◌+◌, ◌≤◌, Bool, true, false, cond, ◌||◌, ◌⊎◌, inl, inr, List, [], ◌∷◌, length, take, drop, map, refl, sym, ap, ◌∙◌, arith}
use Rattle.std.specs.Prelude.{not}
use Rattle.std.specs.List.{list_any}
use Rattle.std.proofs.lemmas.Bool.{true≢false, cases_lt, or_left}
use Rattle.std.proofs.lemmas.List.{length-append, length-map, length-take-le, take-append-drop}
use Rattle.std.proofs.lemmas.List.Folds.{list_any-append}
use Rattle.xfs_base.specs.declared.block.BlockId.{BlockId}
use Rattle.xfs_base.specs.Blocks.{same_block}
use Rattle.xfs_base.proofs.BlockOrder.{same_block_exact, same_block_itself}
use Rattle.coop_cache.specs.declared.input.In.{In}
use Rattle.coop_cache.specs.declared.input.In.TheVariants.{Clean, Touch, Dirty, Gone}
use Rattle.coop_cache.specs.declared.output.Out.TheVariants.{Victim}
use Rattle.coop_cache.specs.CacheState.{CacheState}
use Rattle.coop_cache.specs.Transition.{without, used_last, excess, is_clean, transition}
use Rattle.coop_cache.specs.Use.{state_after}
use Rattle.coop_cache.specs.Leaving.{is_victim, StaysOrIsTold, TellsWhereFull}
use Rattle.coop_cache.proofs.LastUses.{fits_after, fewer}

either : (a b : Bool) → (a || b) ≡ true → (a ≡ true) ⊎ (b ≡ true)
either true b h = inl refl
either false b h = inr h

or_right : (a b : Bool) → b ≡ true → (a || b) ≡ true
or_right true b h = refl
or_right false b h = h

module _ (block : BlockId) where
  abbrev among : List BlockId → Bool
  among bs = list_any (same_block block) bs

  told : (bs : List BlockId) → list_any (is_victim block) (map Victim bs) ≡ among bs
  told [] = refl
  told (b ∷ bs) = ap (λ t. same_block block b || t) (told bs)

  -- the first of a list, and the rest
  in_part : (n : ℕ) (bs : List BlockId) → among bs ≡ true → (among (take n bs) ≡ true) ⊎ (among (drop n bs) ≡ true)
  in_part n bs h =
      either (among (take n bs)) (among (drop n bs))
      (sym (list_any-append (same_block block) (take n bs) (drop n bs)) ∙ ap among (take-append-drop n bs) ∙ h)

  module _ (other : BlockId) where
    not_same : (b : BlockId) → same_block other block ≡ false → same_block other b ≡ true → same_block block b ≡ false
    not_same b h e =
        elim (same_block block b) as (λ t. same_block block b ≡ t → t ≡ false) [
          | true ↦ λ fact. absurd (true≢false (sym (ap (same_block other) (sym (same_block_exact block b fact)) ∙ e) ∙ h))
          | false ↦ λ fact. refl
        ] refl

    among_others : (bs : List BlockId) → same_block other block ≡ false → among bs ≡ true → among (without other bs) ≡ true
    among_others [] h a = a
    among_others (b ∷ bs) h a =
        elim (same_block other b) as (λ t. same_block other b ≡ t → among (cond (not t) (b ∷ without other bs) (without other bs)) ≡ true) [
          | true ↦ λ e. among_others bs h (sym (ap (λ t. t || among bs) (not_same b h e)) ∙ a)
          | false ↦ λ e. elim (either (same_block block b) (among bs) a) as (λ _. (same_block block b || among (without other bs)) ≡ true) [
            | inl fact ↦ or_left (same_block block b) (among (without other bs)) fact
            | inr later ↦ or_right (same_block block b) (among (without other bs)) (among_others bs h later)
          ]
        ] refl

    -- a use keeps it
    among_used : (bs : List BlockId) → among bs ≡ true → among (used_last other bs) ≡ true
    among_used bs a =
        list_any-append (same_block block) (without other bs) (other ∷ [])
        ∙ elim (same_block other block) as (λ t. same_block other block ≡ t → (among (without other bs) || among (other ∷ [])) ≡ true) [
          | true ↦ λ e. or_right (among (without other bs)) (among (other ∷ []))
              (or_left (same_block block other) false (ap (same_block block) (sym (same_block_exact other block e)) ∙ same_block_itself block))
          | false ↦ λ e. or_left (among (without other bs)) (among (other ∷ [])) (among_others bs e a)
        ] refl

  pub leaves_told : (s : CacheState) (input : In) → is_clean s block ≡ true → StaysOrIsTold s input block
  leaves_told s (Clean cached) a =
      let blocks : List BlockId = used_last cached s.blocks in
      elim (in_part (excess s.capacity blocks) blocks (among_used cached s.blocks a)) as (λ _. StaysOrIsTold s (Clean cached) block) [
        | inl first ↦ inr (inr (told (take (excess s.capacity blocks) blocks) ∙ first))
        | inr rest ↦ inl rest
      ]
  leaves_told s (Touch used) a =
      inl (elim (is_clean s used) as (λ t. among (cond t (record { blocks = used_last used s.blocks; capacity = s.capacity }) s).blocks ≡ true)
      [ true ↦ among_used used s.blocks a | false ↦ a ])
  leaves_told s (Dirty changed) a =
      elim (same_block changed block) as (λ t. same_block changed block ≡ t → StaysOrIsTold s (Dirty changed) block)
      [ true ↦ λ e. inr (inl e) | false ↦ λ e. inl (among_others changed s.blocks e a) ] refl
  leaves_told s (Gone gone) a =
      elim (same_block gone block) as (λ t. same_block gone block ≡ t → StaysOrIsTold s (Gone gone) block)
      [ true ↦ λ e. inr (inl e) | false ↦ λ e. inl (among_others gone s.blocks e a) ] refl

cleaned_where_full : (s : CacheState) (block : BlockId) → length s.blocks ≤ s.capacity → TellsWhereFull s (transition s (Clean block)).outs
cleaned_where_full s block fits =
    let blocks : List BlockId = used_last block s.blocks in
    let size : length blocks ≡ length (without block s.blocks) + 1 = length-append (without block s.blocks) (block ∷ []) in
    let less : length (without block s.blocks) ≤ length s.blocks = fewer (λ b. not (same_block block b)) s.blocks in
    elim (cases_lt s.capacity (length blocks)) as (λ _. TellsWhereFull s (map Victim (take (excess s.capacity blocks) blocks))) [
      | inl over ↦
          let one : excess s.capacity blocks ≡ 1 = omega arith in
          let full : length s.blocks ≡ s.capacity = omega arith in
          let some : 1 ≤ length blocks = omega arith in
          inr (length-map (take (excess s.capacity blocks) blocks) Victim ∙ ap (λ n. length (take n blocks)) one ∙ length-take-le 1 blocks some, full)
      | inr within ↦ let none : excess s.capacity blocks ≡ 0 = omega arith in inl (ap (λ n. map Victim (take n blocks)) none)
    ]

pub told_where_full : (capacity : ℕ) (history : List In) (input : In)
    → TellsWhereFull (state_after capacity history) (transition (state_after capacity history) input).outs
told_where_full capacity history (Clean block) = cleaned_where_full (state_after capacity history) block (fits_after capacity history)
told_where_full capacity history (Touch block) = inl refl
told_where_full capacity history (Dirty block) = inl refl
told_where_full capacity history (Gone block) = inl refl
