-- The rows of a segment of changes: as many as there are changes, and each names a Block of its block in the segment, or no place.
use Rattle.std.proofs.Common.{◌≡◌, ℕ, suc, ◌+◌, ◌-◌, ◌≤◌, ◌==◌, ◌&&◌, Bool, true, cond, nat_lt, List, [], ◌∷◌, ◌++◌, length, length-append, filter_map, Option, Some, None, refl, sym, ap, subst, ◌∙◌, append_assoc, append-nil, arith}
use Rattle.std.specs.Prelude.{slice_get}
use Rattle.std.specs.List.{AllByRecursion, list_all}
use Rattle.delta_feed.specs.declared.feed.FiledDeltas.{FiledDeltas}
use Rattle.delta_feed.specs.Transition.{rows_after, slot_rows}
use Rattle.log_flight.specs.declared.dirty.Change.{Change}
use Rattle.log_flight.specs.Items.{change_items, items_of}
use Rattle.node_base.specs.Known.{knows_entry}
use Rattle.node_base.specs.Maps.{maps_start, knows}
use Rattle.node_base.specs.Shape.{is_name, is_entry}
use Rattle.segment_format.specs.declared.segment.Item.{Item}
use Rattle.segment_format.specs.declared.segment.Item.TheVariants.{Block, Delta}
use Rattle.segment_format.specs.declared.segment.Segment.{Segment}
use Rattle.segment_format.specs.Rows.{place_of, row_of}
use Rattle.segment_reading.specs.Reading.{is_block}
use Rattle.slot_beliefs.specs.Index.{Indexed, IsCounted, can_rise, has_room, live_in, segment_of}
use Rattle.usage_table.specs.Counts.{blocks_at, count_of}
use Rattle.version_model.specs.declared.work.Work.{Work}
use Rattle.xfs_base.proofs.BlockOrder.{same_block_itself}
use Rattle.xfs_base.proofs.Booleans.{by_test}
use Rattle.xfs_base.specs.Blocks.{slot_of}
use Rattle.xfs_base.specs.declared.block.BlockId.{BlockId}
use Rattle.xfs_base.specs.declared.entry.Entry.{Entry}
use Rattle.xfs_base.specs.declared.entry.Place.{Place}
use Rattle.xfs_base.specs.declared.node.NodeId.{NodeId}
use Rattle.xfs_base.specs.declared.segment.SegName.{SegName}
use Rattle.xfs_base.specs.declared.segment.SegRef.{SegRef}
use Rattle.xfs_base.specs.declared.setup.Setup.{Setup}
use Rattle.xfs_base.specs.Limits.{u32_end}
use Rattle.quiet_nodes.specs.Scene.{its_groups}
use Rattle.quiet_nodes.proofs.Tests.{le_test, not_lt_test}

-- what passes for each item passes for all
pub all_pass : {X : Type 0} (P : X → Type 0) (test : X → Bool) → ((x : X) → P x → test x ≡ true) → (xs : List X) → AllByRecursion P xs → list_all test xs ≡ true
all_pass P test passes [] all = refl
all_pass P test passes (x ∷ xs) all = ap (λ t. t && list_all test xs) (passes x all.0) ∙ all_pass P test passes xs all.1

module _ (s : Segment) where
  -- a place is none, or that of a Block of the block in the segment
  abbrev pub IsLying : BlockId → Option Place → Type 0
  IsLying b None = Unit {0}
  IsLying b (Some place) = (place.seg ≡ record { name = s.name; group = s.group }) × (is_block b (slice_get s.items place.item) ≡ true)

  abbrev pub AreLying : List (BlockId × Entry) → Type 0
  AreLying rows = AllByRecursion (λ (row : BlockId × Entry). IsLying row.0 row.1.place) rows

  behind : (before : List Item) (x : Item) (rest : List Item) → slice_get (before ++ x ∷ rest) (length before) ≡ Some x
  behind [] x rest = refl
  behind (y ∷ before) x rest = behind before x rest

  one_lies : (before : List Item) (b : BlockId) (bytes : Option (List ℕ)) (rest : List Item) → s.items ≡ before ++ Block b bytes ∷ rest
      → IsLying b (place_of s (length before))
  one_lies before b bytes rest is =
      by_test (IsLying b) (length before == 65535) None (Some (record { seg = record { name = s.name; group = s.group }; item = length before })) (λ _. tt)
      (λ _. (refl, ap (λ items. is_block b (slice_get items (length before))) is ∙ ap (is_block b) (behind before (Block b bytes) rest) ∙ same_block_itself b))

  pub rows_lie : (before : List Item) (cs : List (BlockId × Change)) → s.items ≡ before ++ items_of (length before) cs
      → AreLying (filter_map (row_of s) (items_of (length before) cs))
  rows_lie before [] is = tt
  rows_lie before (c ∷ cs) is = by c.1.value is (λ more now. rows_lie more cs now)
    where
      by : (v : Option (List ℕ))
          → s.items ≡ before ++ (change_items (length before) c.0 (record { entry = c.1.entry; value = v })
          ++ items_of (length before + length (change_items (length before) c.0 (record { entry = c.1.entry; value = v }))) cs)
          → ((more : List Item) → s.items ≡ more ++ items_of (length more) cs → AreLying (filter_map (row_of s) (items_of (length more) cs)))
          → AreLying (filter_map (row_of s)
          (change_items (length before) c.0 (record { entry = c.1.entry; value = v })
          ++ items_of (length before + length (change_items (length before) c.0 (record { entry = c.1.entry; value = v }))) cs))
      by None is next =
          let x : Item = Delta c.0 c.1.entry.ver c.1.entry.hop 65535 in
          let long : length (before ++ x ∷ []) ≡ length before + 1 = length-append before (x ∷ []) in (
            tt,
            subst (λ n. AreLying (filter_map (row_of s) (items_of n cs))) long
                (next (before ++ x ∷ [])
                (is
                ∙ sym (append_assoc before (x ∷ []) (items_of (length before + 1) cs))
                ∙ ap (λ n. (before ++ x ∷ []) ++ items_of n cs) (sym long))),
          )
      by (Some bytes) is next =
          let x : Item = Block c.0 (Some bytes) in
          let y : Item = Delta c.0 c.1.entry.ver c.1.entry.hop (length before) in
          let long : length (before ++ x ∷ y ∷ []) ≡ length before + 2 = length-append before (x ∷ y ∷ []) in (
            one_lies before c.0 (Some bytes) (y ∷ items_of (length before + 2) cs) is,
            subst (λ n. AreLying (filter_map (row_of s) (items_of n cs))) long
                (next (before ++ x ∷ y ∷ [])
                (is
                ∙ sym (append_assoc before (x ∷ y ∷ []) (items_of (length before + 2) cs))
                ∙ ap (λ n. (before ++ x ∷ y ∷ []) ++ items_of n cs) (sym long))),
          )

  pub rows_count : (n : ℕ) (cs : List (BlockId × Change)) → length (filter_map (row_of s) (items_of n cs)) ≡ length cs
  rows_count n [] = refl
  rows_count n (c ∷ cs) = by c.1.value (λ m. rows_count m cs)
    where
      by : (v : Option (List ℕ)) → ((m : ℕ) → length (filter_map (row_of s) (items_of m cs)) ≡ length cs)
          → length (filter_map (row_of s)
          (change_items n c.0 (record { entry = c.1.entry; value = v }) ++ items_of (n + length (change_items n c.0 (record { entry = c.1.entry; value = v }))) cs))
          ≡ suc (length cs)
      by None rest = ap suc (rest (n + 1))
      by (Some bytes) rest = ap suc (rest (n + 2))

  -- ---- managers take them

  module _ (setup : Setup) (works : NodeId → List Work) (of_log : is_name s.name ≡ true) (group : knows (maps_start (its_groups setup works)) s.group ≡ true) where
    place_of_log : (b : BlockId) (o : Option Place) → IsLying b o → is_entry o ≡ true
    place_of_log b None lies = refl
    place_of_log b (Some place) lies = ap (λ (r : SegRef). is_name r.name) lies.0 ∙ of_log

    place_known : (b : BlockId) (o : Option Place) → IsLying b o → knows_entry (maps_start (its_groups setup works)) o ≡ true
    place_known b None lies = refl
    place_known b (Some place) lies = ap (λ (r : SegRef). knows (maps_start (its_groups setup works)) r.group) lies.0 ∙ group

    pub rows_of_log : (rows : List (BlockId × Entry)) → AreLying rows → list_all (λ (row : BlockId × Entry). is_entry row.1.place) rows ≡ true
    rows_of_log =
        all_pass (λ (row : BlockId × Entry). IsLying row.0 row.1.place) (λ (row : BlockId × Entry). is_entry row.1.place)
        (λ row lies. place_of_log row.0 row.1.place lies)

    pub rows_known : (rows : List (BlockId × Entry)) → AreLying rows
        → list_all (λ (row : BlockId × Entry). knows_entry (maps_start (its_groups setup works)) row.1.place) rows ≡ true
    rows_known =
        all_pass (λ (row : BlockId × Entry). IsLying row.0 row.1.place)
        (λ (row : BlockId × Entry). knows_entry (maps_start (its_groups setup works)) row.1.place)
        (λ row lies. place_known row.0 row.1.place lies)

-- ---- counts can rise by few rows

lives : (seg : SegName) (rows : List (BlockId × Entry)) → live_in seg rows ≤ length rows
lives seg [] = omega arith
lives seg (m ∷ ms) = by (segment_of m.1) (lives seg ms)
  where
    by : (o : Option SegName) → live_in seg ms ≤ length ms → blocks_at o seg + live_in seg ms ≤ suc (length ms)
    by None h = omega arith
    by (Some x) h = by_test (λ (n : ℕ). n + live_in seg ms ≤ suc (length ms)) _ 1 0 (λ _. omega (arith, h)) (λ _. omega (arith, h))

pub counts_rise : (i : Indexed) (more : ℕ) → IsCounted i → length i.rows ≤ 2560000 → more ≤ 24 → (rows : List (BlockId × Entry)) → has_room more i.usage rows ≡ true
counts_rise i more counted few small [] = refl
counts_rise i more counted few small (m ∷ ms) = ap (λ t. t && has_room more i.usage ms) (by (segment_of m.1)) ∙ counts_rise i more counted few small ms
  where
    by : (o : Option SegName) → can_rise more i.usage o ≡ true
    by None = refl
    by (Some seg) = (let is = counted.counted seg in let less = lives seg i.rows in le_test more (u32_end - count_of i.usage seg) (omega arith))

-- ---- the rows that go to a slot

pub newest_alone : (slot number seq : ℕ) (filed : List FiledDeltas) (rows : List (BlockId × Entry)) → AllByRecursion (λ (f : FiledDeltas). f.seq ≤ number) filed
    → nat_lt number seq ≡ true → rows_after slot number (filed ++ record { seq = seq; rows = rows } ∷ []) ≡ slot_rows slot rows
newest_alone slot number seq [] rows all newer =
    ap (λ t. cond t (slot_rows slot rows) [] ++ []) newer ∙ append-nil (slot_rows slot rows)
newest_alone slot number seq (f ∷ fs) rows all newer =
    ap (λ t. cond t (slot_rows slot f.rows) [] ++ rows_after slot number (fs ++ record { seq = seq; rows = rows } ∷ [])) (not_lt_test number f.seq all.0)
    ∙ newest_alone slot number seq fs rows all.1 newer

pub fewer : (slot : ℕ) (rows : List (BlockId × Entry)) → length (slot_rows slot rows) ≤ length rows
fewer slot [] = omega arith
fewer slot (m ∷ ms) =
    let rest = fewer slot ms in
    by_test (λ (xs : List (BlockId × Entry)). length xs ≤ suc (length ms)) (slot_of m.0.ino.0 == slot) (m ∷ slot_rows slot ms) (slot_rows slot ms)
    (λ _. omega (arith, rest)) (λ _. omega (arith, rest))
