-- Of the items of a plain segment the row and the entry of each block say the same: at most one Delta is of the block, and both are made of that one.
use Rattle.std.proofs.Common.{◌≡◌, ℕ, ◌<◌, ◌≤◌, ◌==◌, Bool, true, false, cond, List, [], ◌∷◌, ⊎_elim, Option, Some, None, length, unwrap_or, refl, sym, ap, subst, ◌∙◌, arith}
use Rattle.std.specs.Prelude.{Contains}
use Rattle.std.specs.List.{AllByRecursion, filter_map, list_any, slice_get}
use Rattle.std.proofs.lemmas.Bool.Decides.{nat_tests}
use Rattle.std.proofs.lemmas.Bool.{eqb-true}
use Rattle.xfs_base.proofs.BlockOrder.{same_block_exact, same_block_itself}
use Rattle.xfs_base.proofs.Booleans.{contrary, or_first, or_second}
use Rattle.xfs_base.proofs.Members.{contains_nothing, contains_cases}
use Rattle.xfs_base.specs.Blocks.{same_block}
use Rattle.xfs_base.specs.declared.block.BlockId.{BlockId}
use Rattle.xfs_base.specs.declared.entry.Entry.{Entry}
use Rattle.xfs_base.specs.declared.entry.Place.{Place}
use Rattle.client_call.specs.Reads.{value_in}
use Rattle.delta_index.specs.Entries.{no_entry, first_greatest}
use Rattle.delta_index.specs.Join.{join}
use Rattle.delta_index.proofs.EntryAlgebra.{first_greatest-none, first_greatest-newer}
use Rattle.delta_index.proofs.JoinAlgebra.{join-cons, join-one, none-join}
use Rattle.node_slots.specs.node_tie.LogRows.{row_told}
use Rattle.node_slots.proofs.node_tie.ClientRows.{neither, same_turned}
use Rattle.node_slots.proofs.node_tie.LogRows.{get_past}
use Rattle.segment_format.specs.Rows.{place_of, row_of}
use Rattle.segment_format.specs.Rule.{no_item}
use Rattle.segment_format.specs.declared.segment.Item.{Item}
use Rattle.segment_format.specs.declared.segment.Item.TheVariants.{Block, Delta, Part}
use Rattle.segment_format.specs.declared.segment.Segment.{Segment}
use Rattle.token_law.specs.Books.{Row, AreOnce, row_in}
use Rattle.run_laws.specs.index_reads.Rows.{LiesIn, SaysSame, RowsAreEntries, DeltasAreSaid}

-- an entry of a version is above none
versioned : (e : Entry) → 0 < e.ver → first_greatest no_entry e ≡ e
versioned e some = first_greatest-newer no_entry e (grind (arith, nat_tests))

-- the join of one more row
joined : (m : BlockId × Entry) (ms : List (BlockId × Entry)) (b : BlockId) (t : Bool) → same_block b m.0 ≡ t
    → join (m ∷ ms) b ≡ first_greatest (cond t (first_greatest no_entry m.1) no_entry) (join ms b)
joined m ms b t fact = join-cons m ms b ∙ ap (λ e. first_greatest e (join ms b)) (join-one m b ∙ ap (λ t. cond t (first_greatest no_entry m.1) no_entry) fact)

module _ (s : Segment) where
  abbrev told : List Item → List (BlockId × Row)
  told items = filter_map (row_told s.items) items

  abbrev entries : List Item → List (BlockId × Entry)
  entries items = filter_map (row_of s) items

  abbrev stands : BlockId → List Item → Bool
  stands b items = list_any (λ (r : BlockId × Row). same_block b r.0) (told items)

  -- of a block without a Delta there is no entry
  none_said : (items : List Item) (b : BlockId) → stands b items ≡ false → join (entries items) b ≡ no_entry
  none_said [] b none = refl
  none_said (Block block value ∷ items) b none = none_said items b none
  none_said (Part slot rows ∷ items) b none = none_said items b none
  none_said (Delta block ver hop item ∷ items) b none =
      let parts : (same_block b block ≡ false) × (stands b items ≡ false) = neither (same_block b block) (stands b items) none in
      joined (block, record { ver = ver; hop = hop; place = place_of s item }) (entries items) b false parts.0
      ∙ none-join (entries items) b ∙ none_said items b parts.1

  -- the first Delta's entry is what they say of its block
  first_said : (items : List Item) (block : BlockId) (entry : Entry) → stands block items ≡ false → 0 < entry.ver
      → join ((block, entry) ∷ entries items) block ≡ entry
  first_said items block entry once some =
      joined (block, entry) (entries items) block true (same_block_itself block)
      ∙ ap (first_greatest (first_greatest no_entry entry)) (none_said items block once)
      ∙ first_greatest-none (first_greatest no_entry entry) ∙ versioned entry some

  nowhere : (place : Place) → None ≡ Some place → ⊥
  nowhere place h = absurd (cc)

  somewhere : (place : Place) → Some place ≡ None → ⊥
  somewhere place h = absurd (cc)

  one_place : (x y : Place) → Some x ≡ Some y → x ≡ y
  one_place x y fact = ap (λ (o : Option Place). unwrap_or o x) fact

  -- a Delta's item, where it names one, has its value
  module _ (few : length s.items ≤ no_item) (ver hop item : ℕ) where
    said : SaysSame s (record { version = ver; value = value_in (slice_get s.items item) }) (record { ver = ver; hop = hop; place = place_of s item })
    said = by (item == no_item) refl
      where
        here : Place
        here = record { seg = record { name = s.name; group = s.group }; item = item }

        by : (t : Bool) → (item == no_item) ≡ t
            → SaysSame s (record { version = ver; value = value_in (slice_get s.items item) })
            (record { ver = ver; hop = hop; place = cond t None (Some here) })
        by true fact = record {
          version = refl;
          absent = λ _. ap value_in (ap (slice_get s.items) (eqb-true item no_item fact) ∙ get_past s.items no_item few);
          place = λ place lies. absurd (nowhere place lies);
        }
        by false fact = record {
          version = refl;
          absent = λ none. absurd (somewhere here none);
          place = λ place lies. subst (LiesIn s (value_in (slice_get s.items item))) (one_place here place lies)
              (record { name = refl; group = refl; item = refl });
        }

  says : length s.items ≤ no_item → (items : List Item) (b : BlockId) → AreOnce (told items) → AllByRecursion (λ row. 0 < row.1.ver) (entries items)
      → SaysSame s (row_in (told items) b) (join (entries items) b)
  says few [] b once versions = record { version = refl; absent = λ _. refl; place = λ place lies. absurd (nowhere place lies) }
  says few (Block block value ∷ items) b once versions = says few items b once versions
  says few (Part slot rows ∷ items) b once versions = says few items b once versions
  says few (Delta block ver hop item ∷ items) b once versions = by (same_block b block) refl (says few items b once.1 versions.1)
    where
      row : Row
      row = record { version = ver; value = value_in (slice_get s.items item) }

      entry : Entry
      entry = record { ver = ver; hop = hop; place = place_of s item }

      by : (t : Bool) → same_block b block ≡ t → SaysSame s (row_in (told items) b) (join (entries items) b)
          → SaysSame s (cond (same_block block b) row (row_in (told items) b)) (join ((block, entry) ∷ entries items) b)
      by true fact rest =
          let its : join ((block, entry) ∷ entries items) b ≡ entry =
          subst (λ k. join ((block, entry) ∷ entries items) k ≡ entry) (same_block_exact b block fact) (first_said items block entry once.0 versions.0) in
          subst (λ t. SaysSame s (cond t row (row_in (told items) b)) (join ((block, entry) ∷ entries items) b)) (sym (same_turned block b ∙ fact))
          (subst (SaysSame s row) (sym its) (said few ver hop item))
      by false fact rest =
          subst (λ t. SaysSame s (cond t row (row_in (told items) b)) (join ((block, entry) ∷ entries items) b)) (sym (same_turned block b ∙ fact))
          (subst (SaysSame s (row_in (told items) b)) (sym (joined (block, entry) (entries items) b false fact ∙ none-join (entries items) b)) rest)

  -- ---- each Delta's entry is what the segment says

  -- a block of which there is an entry stands in it
  stands_said : (items : List Item) (b : BlockId) (e : Entry) → Contains (entries items) (b, e) → stands b items ≡ true
  stands_said [] b e has = absurd (contains_nothing (b, e) has)
  stands_said (Block block value ∷ items) b e has = stands_said items b e has
  stands_said (Part slot rows ∷ items) b e has = stands_said items b e has
  stands_said (Delta block ver hop item ∷ items) b e has =
      ⊎_elim
      (λ first. or_first (same_block b block) (stands b items)
      (subst (λ (m : BlockId × Entry). same_block m.0 block ≡ true) first (same_block_itself block)))
      (λ rest. or_second (same_block b block) (stands b items) (stands_said items b e rest))
      (contains_cases (block, record { ver = ver; hop = hop; place = place_of s item }) (b, e) (entries items) has)

  is_said : (items : List Item) (b : BlockId) (e : Entry) → AreOnce (told items) → AllByRecursion (λ row. 0 < row.1.ver) (entries items)
      → Contains (entries items) (b, e) → join (entries items) b ≡ e
  is_said [] b e once versions has = absurd (contains_nothing (b, e) has)
  is_said (Block block value ∷ items) b e once versions has = is_said items b e once versions has
  is_said (Part slot rows ∷ items) b e once versions has = is_said items b e once versions has
  is_said (Delta block ver hop item ∷ items) b e once versions has =
      ⊎_elim
      (λ first. subst (λ (m : BlockId × Entry). join ((block, entry) ∷ entries items) m.0 ≡ m.1) first (first_said items block entry once.0 versions.0))
      (λ rest. behind (same_block b block) refl (stands_said items b e rest) (is_said items b e once.1 versions.1 rest))
      (contains_cases (block, entry) (b, e) (entries items) has)
    where
      entry : Entry
      entry = record { ver = ver; hop = hop; place = place_of s item }

      behind : (t : Bool) → same_block b block ≡ t → stands b items ≡ true → join (entries items) b ≡ e → join ((block, entry) ∷ entries items) b ≡ e
      behind true fact there rest = contrary (sym once.0 ∙ ap (λ k. stands k items) (same_block_exact b block fact) ∙ there)
      behind false fact there rest = joined (block, entry) (entries items) b false fact ∙ none-join (entries items) b ∙ rest

pub rows_are_entries : RowsAreEntries
rows_are_entries s b plain versions = says s plain.few s.items b plain.once versions

pub deltas_are_said : DeltasAreSaid
deltas_are_said s b e plain versions has = is_said s s.items b e plain.once versions has
