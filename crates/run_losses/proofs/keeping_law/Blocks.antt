-- A segment in which each Delta that names an item names the Block of its value has a Block of each block that it says lies in it.
use Rattle.std.proofs.Common.{◌≡◌, ⊎_elim, ℕ, ◌+◌, true, List, [], ◌∷◌, None, Some, refl, sym, ap, subst, ◌∙◌}
use Rattle.std.specs.List.{filter_map, list_any}
use Rattle.std.specs.Prelude.{Contains}
use Rattle.segment_format.specs.declared.segment.Item.{Item}
use Rattle.segment_format.specs.declared.segment.Item.TheVariants.{Block, Delta, Part}
use Rattle.segment_format.specs.declared.segment.Segment.{Segment}
use Rattle.segment_format.specs.Rows.{place_of, row_of, rows_of}
use Rattle.segment_format.specs.Rule.{KeepsRule, no_item}
use Rattle.stripe_cleaner.specs.Histories.{blocks_of}
use Rattle.xfs_base.proofs.BlockOrder.{same_block_itself}
use Rattle.xfs_base.proofs.Booleans.{or_first, or_second}
use Rattle.xfs_base.proofs.Members.{contains_cases, contains_nothing}
use Rattle.xfs_base.specs.Blocks.{same_block}
use Rattle.xfs_base.specs.declared.block.BlockId.{BlockId}
use Rattle.xfs_base.specs.declared.entry.Entry.{Entry}
use Rattle.xfs_base.specs.declared.entry.Place.{Place}

module _ (s : Segment) (b : BlockId) (e : Entry) (place : Place) (at : e.place ≡ Some place) where
  -- these items have a Block of the block
  abbrev Has : List Item → Type 0
  Has items = list_any (same_block b) (blocks_of items) ≡ true

  -- a Delta of no item says that the block lies nowhere
  lies_nowhere : (row : BlockId × Entry) (item : ℕ) → item ≡ no_item → row.1.place ≡ place_of s item → row ≡ (b, e) → ⊥
  lies_nowhere row item none fact same =
      let nowhere : None ≡ Some place = sym (fact ∙ ap (place_of s) none) ∙ (ap (λ (row : BlockId × Entry). row.1.place) same ∙ at) in
      absurd (cc)

  its_block : (row : BlockId × Entry) → row ≡ (b, e) → same_block b row.0 ≡ true
  its_block row same = subst (λ x. same_block b x ≡ true) (sym (ap (λ (row : BlockId × Entry). row.0) same)) (same_block_itself b)

  has : (n : ℕ) (items : List Item) → KeepsRule None n items → Contains (filter_map (row_of s) items) (b, e) → Has items
  has n [] rule says = absurd (contains_nothing (b, e) says)
  has n (Block block value ∷ []) rule says = absurd rule
  has n (Block block value ∷ Block other more ∷ rest) rule says = absurd rule
  has n (Block block value ∷ Part slot rows ∷ rest) rule says = absurd rule
  has n (Block block value ∷ Delta of ver hop item ∷ rest) rule says =
      let first : BlockId × Entry = (of, record { ver = ver; hop = hop; place = place_of s item }) in
      ⊎_elim
      (λ same. or_first (same_block b block) (list_any (same_block b) (blocks_of rest))
      (subst (λ x. same_block b x ≡ true) rule.0 (its_block first same)))
      (λ later. or_second (same_block b block) (list_any (same_block b) (blocks_of rest)) (has (n + 1 + 1) rest rule.2 later))
      (contains_cases first (b, e) (filter_map (row_of s) rest) says)
  has n (Delta of ver hop item ∷ rest) rule says =
      let first : BlockId × Entry = (of, record { ver = ver; hop = hop; place = place_of s item }) in
      ⊎_elim (λ same. absurd (lies_nowhere first item rule.0 refl same)) (has (n + 1) rest rule.1)
      (contains_cases first (b, e) (filter_map (row_of s) rest) says)
  has n (Part slot rows ∷ rest) rule says = has (n + 1) rest rule says

  pub block_there : KeepsRule None 0 s.items → Contains (rows_of s) (b, e) → list_any (same_block b) (blocks_of s.items) ≡ true
  block_there rule says = has 0 s.items rule says
