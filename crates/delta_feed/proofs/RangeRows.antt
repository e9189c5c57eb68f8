-- The rows of a range join to what the filed segments in it join to.
use Rattle.std.proofs.Common.{◌≡◌, ℕ, ◌+◌, ◌<◌, ◌≤◌, true, false, cond, List, [], ◌∷◌, ◌++◌, map, refl, sym, ap, subst, ◌∙◌, arith}
use Rattle.std.specs.Prelude.{max, nat_lt, nat_le, ◌==◌, ◌&&◌, All}
use Rattle.std.specs.List.{filter, flat_map, fold}
use Rattle.std.proofs.lemmas.Bool.Decides.{nat_tests}
use Rattle.std.proofs.lemmas.List.Elements.{All-nil, All-cons, All-head, All-tail, All-append, All-weaker, filter_passes}
use Rattle.xfs_base.specs.declared.block.BlockId.{BlockId}
use Rattle.xfs_base.specs.declared.entry.Entry.{Entry}
use Rattle.xfs_base.specs.Blocks.{slot_of, same_block}
use Rattle.xfs_base.proofs.BlockOrder.{same_block_exact}
use Rattle.delta_index.specs.Entries.{no_entry, first_greatest}
use Rattle.delta_index.specs.Join.{join}
use Rattle.delta_index.proofs.JoinAlgebra.{join-append}
use Rattle.delta_feed.specs.declared.feed.FiledDeltas.{FiledDeltas}
use Rattle.delta_feed.specs.declared.input.In.{In}
use Rattle.delta_feed.specs.declared.input.In.TheVariants.{Settled, Ack, NewEpoch, Push, Tick}
use Rattle.delta_feed.specs.Transition.{slot_rows, rows_after}
use Rattle.delta_feed.specs.History.{greatest, settled_numbers, end_of, filed_by, deltas_between}
use Rattle.delta_feed.proofs.AfterInputs.{greatest-max}

-- segments with rising numbers, above one and up to another
abbrev pub IsRising : ℕ → List FiledDeltas → ℕ → Type 0
IsRising low [] high = low ≤ high
IsRising low (f ∷ fs) high = (low < f.seq) × IsRising f.seq fs high

pub rising_below : (low : ℕ) (fs : List FiledDeltas) (high : ℕ) → IsRising low fs high → low ≤ high
rising_below low [] high r = r
rising_below low (f ∷ fs) high r = omega (arith, r.0, rising_below f.seq fs high r.1)

pub rising_upto : (low : ℕ) (fs : List FiledDeltas) (high : ℕ) → IsRising low fs high → All (λ f. f.seq ≤ high) fs
rising_upto low [] high r = All-nil (λ f. f.seq ≤ high)
rising_upto low (f ∷ fs) high r = All-cons (λ g. g.seq ≤ high) f fs (rising_below f.seq fs high r.1) (rising_upto f.seq fs high r.1)

-- the filed segments rise from the base to the end
pub filed_rising : (base : ℕ) (inputs : List In) → IsRising base (filed_by base inputs) (end_of base inputs)
filed_rising base [] = omega arith
filed_rising base (Settled seq rows ∷ rest) =
    let numbers : List ℕ = settled_numbers rest in
    elim (nat_lt base seq) as
    (λ t. nat_lt base seq ≡ t
    → IsRising base (cond t (record { seq = seq; rows = rows } ∷ filed_by seq rest) (filed_by base rest)) (max seq (greatest base numbers))) [
      | true ↦ λ p.
          let above : base < seq = grind (arith, nat_tests) in
          let is_max : seq ≡ max seq base = omega (arith, above) in
          (above, subst (IsRising seq (filed_by seq rest)) (ap (λ m. greatest m numbers) is_max ∙ greatest-max seq base numbers) (filed_rising seq rest))
      | false ↦ λ p.
          let below : seq ≤ base = grind (arith, nat_tests) in
          let is_max : base ≡ max seq base = omega (arith, below) in
          subst (IsRising base (filed_by base rest)) (ap (λ m. greatest m numbers) is_max ∙ greatest-max seq base numbers) (filed_rising base rest)
    ] refl
filed_rising base (Ack slot applied ∷ rest) = filed_rising base rest
filed_rising base (NewEpoch slot ∷ rest) = filed_rising base rest
filed_rising base (Push slot ∷ rest) = filed_rising base rest
filed_rising base (Tick ∷ rest) = filed_rising base rest

-- a block's rows are all among those of its slot
kept : (slot : ℕ) (q : BlockId) → slot_of q.ino.0 ≡ slot → (rows : List (BlockId × Entry))
    → filter (λ (m : BlockId × Entry). same_block q m.0) (slot_rows slot rows) ≡ filter (λ (m : BlockId × Entry). same_block q m.0) rows
kept slot q at [] = refl
kept slot q at (r ∷ rs) =
    elim (same_block q r.0) as
    (λ t. same_block q r.0 ≡ t
    → filter (λ (m : BlockId × Entry). same_block q m.0) (slot_rows slot (r ∷ rs)) ≡ cond t (r ∷ filter (λ (m : BlockId × Entry). same_block q m.0) rs)
    (filter (λ (m : BlockId × Entry). same_block q m.0) rs)) [
      | true ↦ λ p.
          let same : slot_of r.0.ino.0 ≡ slot = ap (λ (b : BlockId). slot_of b.ino.0) (same_block_exact q r.0 p) ∙ at in
          let of_slot : (slot_of r.0.ino.0 == slot) ≡ true = grind (arith, nat_tests) in
          ap (λ u. filter (λ (m : BlockId × Entry). same_block q m.0) (cond u (r ∷ slot_rows slot rs) (slot_rows slot rs))) of_slot
          ∙ ap (λ u. cond u (r ∷ filter (λ (m : BlockId × Entry). same_block q m.0) (slot_rows slot rs))
          (filter (λ (m : BlockId × Entry). same_block q m.0) (slot_rows slot rs))) p
          ∙ ap (λ ms. r ∷ ms) (kept slot q at rs)
      | false ↦ λ p. elim (slot_of r.0.ino.0 == slot) as
          (λ u. filter (λ (m : BlockId × Entry). same_block q m.0) (cond u (r ∷ slot_rows slot rs) (slot_rows slot rs)) ≡ filter
          (λ (m : BlockId × Entry). same_block q m.0) rs) [
            | true ↦ ap (λ u. cond u (r ∷ filter (λ (m : BlockId × Entry). same_block q m.0) (slot_rows slot rs))
                (filter (λ (m : BlockId × Entry). same_block q m.0) (slot_rows slot rs))) p ∙ kept slot q at rs
            | false ↦ kept slot q at rs
          ]
    ] refl

join-slot_rows : (slot : ℕ) (q : BlockId) → slot_of q.ino.0 ≡ slot → (rows : List (BlockId × Entry)) → join (slot_rows slot rows) q ≡ join rows q
join-slot_rows slot q at rows = ap (λ ms. fold first_greatest no_entry (map (λ (m : BlockId × Entry). m.1) ms)) (kept slot q at rows)

-- what one more segment adds to a join
join-between : (first upto : ℕ) (f : FiledDeltas) (fs : List FiledDeltas) (q : BlockId)
    → join (deltas_between first upto (f ∷ fs)) q ≡ cond (nat_le first f.seq && nat_le f.seq upto)
    (first_greatest (join f.rows q) (join (deltas_between first upto fs) q)) (join (deltas_between first upto fs) q)
join-between first upto f fs q =
    elim (nat_le first f.seq && nat_le f.seq upto) as
    (λ t. join (flat_map (λ (g : FiledDeltas). g.rows)
    (cond t (f ∷ filter (λ (g : FiledDeltas). nat_le first g.seq && nat_le g.seq upto) fs)
    (filter (λ (g : FiledDeltas). nat_le first g.seq && nat_le g.seq upto) fs))) q
    ≡ cond t (first_greatest (join f.rows q) (join (deltas_between first upto fs) q)) (join (deltas_between first upto fs) q)) [
      | true ↦ join-append f.rows (deltas_between first upto fs) q
      | false ↦ refl
    ]

pub between_more : (first upto : ℕ) (f : FiledDeltas) (fs : List FiledDeltas) (q : BlockId) → (nat_le first f.seq && nat_le f.seq upto) ≡ true
    → join (deltas_between first upto (f ∷ fs)) q ≡ first_greatest (join f.rows q) (join (deltas_between first upto fs) q)
between_more first upto f fs q p =
    join-between first upto f fs q
    ∙ ap (λ t. cond t (first_greatest (join f.rows q) (join (deltas_between first upto fs) q)) (join (deltas_between first upto fs) q)) p

pub between_same : (first upto : ℕ) (f : FiledDeltas) (fs : List FiledDeltas) (q : BlockId) → (nat_le first f.seq && nat_le f.seq upto) ≡ false
    → join (deltas_between first upto (f ∷ fs)) q ≡ join (deltas_between first upto fs) q
between_same first upto f fs q p =
    join-between first upto f fs q
    ∙ ap (λ t. cond t (first_greatest (join f.rows q) (join (deltas_between first upto fs) q)) (join (deltas_between first upto fs) q)) p

pub join-rows_after : (slot acked end : ℕ) (q : BlockId) → slot_of q.ino.0 ≡ slot → (fs : List FiledDeltas) → All (λ f. f.seq ≤ end) fs
    → join (rows_after slot acked fs) q ≡ join (deltas_between (acked + 1) end fs) q
join-rows_after slot acked end q at [] h = refl
join-rows_after slot acked end q at (f ∷ fs) h =
    let bound : f.seq ≤ end = All-head (λ (g : FiledDeltas). g.seq ≤ end) f fs h in
    let rest : join (rows_after slot acked fs) q ≡ join (deltas_between (acked + 1) end fs) q =
    join-rows_after slot acked end q at fs (All-tail (λ (g : FiledDeltas). g.seq ≤ end) f fs h) in
    elim (nat_lt acked f.seq) as
    (λ t. nat_lt acked f.seq ≡ t → join (cond t (slot_rows slot f.rows) [] ++ rows_after slot acked fs) q ≡ join (deltas_between (acked + 1) end (f ∷ fs)) q) [
      | true ↦ λ p.
          let within : (nat_le (acked + 1) f.seq && nat_le f.seq end) ≡ true = grind (arith, nat_tests) in
          join-append (slot_rows slot f.rows) (rows_after slot acked fs) q
          ∙ ap (λ e. first_greatest e (join (rows_after slot acked fs) q)) (join-slot_rows slot q at f.rows)
          ∙ ap (first_greatest (join f.rows q)) rest
          ∙ sym (between_more (acked + 1) end f fs q within)
      | false ↦ λ p.
          let outside : (nat_le (acked + 1) f.seq && nat_le f.seq end) ≡ false = grind (arith, nat_tests) in
          rest ∙ sym (between_same (acked + 1) end f fs q outside)
    ] refl

own_rows : (slot : ℕ) (rows : List (BlockId × Entry)) → All (λ (row : BlockId × Entry). slot_of row.0.ino.0 ≡ slot) (slot_rows slot rows)
own_rows slot rows =
    All-weaker (λ (row : BlockId × Entry). (slot_of row.0.ino.0 == slot) ≡ true) (λ (row : BlockId × Entry). slot_of row.0.ino.0 ≡ slot)
    (λ row p. grind (arith, nat_tests))
    (slot_rows slot rows) (filter_passes (λ (row : BlockId × Entry). slot_of row.0.ino.0 == slot) rows)

pub own_rows_after : (slot acked : ℕ) (fs : List FiledDeltas) → All (λ (row : BlockId × Entry). slot_of row.0.ino.0 ≡ slot) (rows_after slot acked fs)
own_rows_after slot acked [] = All-nil (λ (row : BlockId × Entry). slot_of row.0.ino.0 ≡ slot)
own_rows_after slot acked (f ∷ fs) =
    All-append (λ (row : BlockId × Entry). slot_of row.0.ino.0 ≡ slot) (cond (nat_lt acked f.seq) (slot_rows slot f.rows) []) (rows_after slot acked fs)
    (elim (nat_lt acked f.seq) as (λ t. All (λ (row : BlockId × Entry). slot_of row.0.ino.0 ≡ slot) (cond t (slot_rows slot f.rows) [])) [
      | true ↦ own_rows slot f.rows
      | false ↦ All-nil (λ (row : BlockId × Entry). slot_of row.0.ino.0 ≡ slot)
    ]) (own_rows_after slot acked fs)
