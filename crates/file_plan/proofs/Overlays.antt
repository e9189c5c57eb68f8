-- Bytes laid over others, in one block and in a whole file.
use Rattle.std.proofs.Common.{inl, inr, ◌≡◌, ℕ, ◌+◌, ◌-◌, ◌*◌, ◌<◌, ◌≤◌, Bool, true, false, cond, ◌&&◌, List, [], ◌∷◌, ◌++◌, Some, length, take, drop, get_or, replicate, min, refl, sym, ap, subst, ◌∙◌, arith, length-append}
use Rattle.std.specs.Prelude.{◌⊎◌, ◌≢◌, nat_le, nat_lt, max}
use Rattle.std.proofs.lemmas.Bool.Decides.{nat_tests}
use Rattle.std.proofs.lemmas.List.{length-take, length-drop, length-replicate, get_or-take, get_or-drop, get_or_append_left, get_or-append_right}
use Rattle.version_model.specs.History.{Content}
use Rattle.file_plan.specs.Format.{bytes_in, value_of, overlaid}
use Rattle.file_plan.specs.Calls.{size_block, block_size}
use Rattle.file_plan.specs.Tree.{Table, IsBlock}
use Rattle.file_plan.specs.Driving.{put_at}
use Rattle.file_plan.proofs.Frames.{eq_cases, put_here, put_other, put_beside}
use Rattle.file_plan.proofs.Measuring.{padded_at, le_cases}
use Rattle.xfs_base.specs.declared.block.Ino.{Ino}

-- the byte at place i where new bytes begin at `start`
abbrev pub cell : ℕ → ℕ → ℕ → List ℕ → ℕ
cell old i start new = cond (nat_le start i && nat_lt i (start + length new)) (get_or new (i - start) 0) old

pub cell_in : (old i start : ℕ) (new : List ℕ) → start ≤ i → i < start + length new → cell old i start new ≡ get_or new (i - start) 0
cell_in old i start new low high =
    let a : nat_le start i ≡ true = grind (arith, nat_tests) in
    let b : nat_lt i (start + length new) ≡ true = grind (arith, nat_tests) in
    ap (λ (t : Bool). cond (t && nat_lt i (start + length new)) (get_or new (i - start) 0) old) a ∙ ap (λ (t : Bool). cond t (get_or new (i - start) 0) old) b

pub cell_below : (old i start : ℕ) (new : List ℕ) → i < start → cell old i start new ≡ old
cell_below old i start new low =
    let a : nat_le start i ≡ false = grind (arith, nat_tests) in ap (λ (t : Bool). cond (t && nat_lt i (start + length new)) (get_or new (i - start) 0) old) a

pub cell_past : (old i start : ℕ) (new : List ℕ) → start + length new ≤ i → cell old i start new ≡ old
cell_past old i start new high =
    let b : nat_lt i (start + length new) ≡ false = grind (arith, nat_tests) in
    let a : nat_le start i ≡ true = grind (arith, nat_tests) in
    ap (λ (t : Bool). cond (t && nat_lt i (start + length new)) (get_or new (i - start) 0) old) a ∙ ap (λ (t : Bool). cond t (get_or new (i - start) 0) old) b

-- ---- a list over another

front_length : (old : List ℕ) (at : ℕ) → length (take at old ++ replicate (at - length old) 0) ≡ at
front_length old at =
    let none : ℕ = 0 in
    let a = length-take at old in
    let b = length-append (take at old) (replicate (at - length old) none) in
    let c = length-replicate (at - length old) none in
    omega (arith, a, b, c)

pub length_overlaid : (old : List ℕ) (at : ℕ) (new : List ℕ) → length (overlaid old at new) ≡ max (length old) (at + length new)
length_overlaid old at new =
    let a = front_length old at in
    let b = length-append (take at old ++ replicate (at - length old) 0) (new ++ drop (at + length new) old) in
    let c = length-append new (drop (at + length new) old) in
    let d = length-drop (at + length new) old in
    omega (arith, a, b, c, d)

pub overlaid_at : (old : List ℕ) (at : ℕ) (new : List ℕ) (i : ℕ) → get_or (overlaid old at new) i 0 ≡ cell (get_or old i 0) i at new
overlaid_at old at new i = by (le_cases at i) (le_cases (at + length new) i)
  where
    front : List ℕ
    front = take at old ++ replicate (at - length old) 0

    back : List ℕ
    back = drop (at + length new) old

    before : i < at → get_or (front ++ (new ++ back)) i 0 ≡ cell (get_or old i 0) i at new
    before less =
        let f = front_length old at in
        let l : i < length front = omega (arith, f, less) in
        get_or_append_left front (new ++ back) 0 i l ∙ padded_at (take at old) (at - length old) i ∙ get_or-take at old i 0 less
        ∙ sym (cell_below (get_or old i 0) i at new less)

    within : at ≤ i → i < at + length new → get_or (front ++ (new ++ back)) i 0 ≡ cell (get_or old i 0) i at new
    within low high =
        let l : i - at < length new = omega (arith, low, high) in
        get_or-append_right front (new ++ back) at i 0 (front_length old at) low ∙ get_or_append_left new back 0 (i - at) l
        ∙ sym (cell_in (get_or old i 0) i at new low high)

    after : at + length new ≤ i → get_or (front ++ (new ++ back)) i 0 ≡ cell (get_or old i 0) i at new
    after high =
        let low : at ≤ i = omega (arith, high) in
        let l : length new ≤ i - at = omega (arith, high) in
        let e : at + length new + (i - at - length new) ≡ i = omega (arith, high) in
        get_or-append_right front (new ++ back) at i 0 (front_length old at) low ∙ get_or-append_right new back (length new) (i - at) 0 refl l
        ∙ get_or-drop (at + length new) old (i - at - length new) 0
        ∙ ap (λ (k : ℕ). get_or old k 0) e ∙ sym (cell_past (get_or old i 0) i at new high)

    by : (at ≤ i) ⊎ (i ≤ at) → (at + length new ≤ i) ⊎ (i ≤ at + length new) → get_or (front ++ (new ++ back)) i 0 ≡ cell (get_or old i 0) i at new
    by (inl low) (inl high) = after high
    by (inr less) (inl high) = after high
    by (inl low) (inr less) = edge (eq_cases i (at + length new))
      where
        edge : (i ≡ at + length new) ⊎ (i ≢ at + length new) → get_or (front ++ (new ++ back)) i 0 ≡ cell (get_or old i 0) i at new
        edge (inl e) = after (omega (arith, e))
        edge (inr e) = within low (omega (arith, less, e))
    by (inr low) (inr less) = edge (eq_cases i at) (eq_cases i (at + length new))
      where
        edge : (i ≡ at) ⊎ (i ≢ at) → (i ≡ at + length new) ⊎ (i ≢ at + length new) → get_or (front ++ (new ++ back)) i 0 ≡ cell (get_or old i 0) i at new
        edge (inl e) (inl g) = after (omega (arith, g))
        edge (inl e) (inr g) = within (omega (arith, e)) (omega (arith, less, g))
        edge (inr e) g = before (omega (arith, low, e))

-- ---- one block

-- a block's value with these bytes from `low` on
pub record Laid (old new : Content) (low : ℕ) (piece : List ℕ) : Type 0 where
  pub bytes : (j : ℕ) → j < block_size → get_or (bytes_in new) j 0 ≡ cell (get_or (bytes_in old) j 0) j low piece
  pub bound : length (bytes_in new) ≤ max (length (bytes_in old)) (low + length piece)

bytes_back : (bytes : List ℕ) → bytes_in (value_of bytes) ≡ bytes
bytes_back [] = refl
bytes_back (b ∷ bs) = refl

pub laid_over : (old : Content) (low : ℕ) (piece : List ℕ) → Laid old (value_of (overlaid (bytes_in old) low piece)) low piece
laid_over old low piece = record {
  bytes = λ j small. ap (λ (bs : List ℕ). get_or bs j 0) (bytes_back (overlaid (bytes_in old) low piece)) ∙ overlaid_at (bytes_in old) low piece j;
  bound = let e = ap length (bytes_back (overlaid (bytes_in old) low piece)) in let f = length_overlaid (bytes_in old) low piece in omega (arith, e, f);
}

pub laid_whole : (old : Content) (piece : List ℕ) → length piece ≡ block_size → Laid old (Some piece) 0 piece
laid_whole old piece whole = record {
  bytes = λ j small. let l : j < 0 + length piece = omega (arith, whole, small) in let z : j ≡ j - 0 =
      omega arith in ap (λ (k : ℕ). get_or piece k 0) z ∙ sym (cell_in (get_or (bytes_in old) j 0) j 0 piece (omega arith) l);
  bound = omega arith;
}

-- ---- a file from a place on

-- the file has the new bytes from `start` on, and its other bytes and its size as before
pub record Filled (file : Ino) (start : ℕ) (new : List ℕ) (t u : Table) : Type 0 where
  pub bytes : (b j : ℕ) → b ≢ size_block → j < block_size
      → get_or (bytes_in (u file b)) j 0 ≡ cell (get_or (bytes_in (t file b)) j 0) (block_size * b + j) start new
  pub blocks : (m : ℕ) → (0 < length new → start + length new ≤ m) → (b : ℕ) → b ≢ size_block → IsBlock m b (t file b) → IsBlock m b (u file b)
  pub sized : u file size_block ≡ t file size_block
  pub others : (i : Ino) (b : ℕ) → i ≢ file → u i b ≡ t i b

pub filled_none : (file : Ino) (start : ℕ) (t : Table) → Filled file start [] t t
filled_none file start t = record {
  bytes = λ b j n small. nothing (get_or (bytes_in (t file b)) j 0) (block_size * b + j) (le_cases start (block_size * b + j));
  blocks = λ m below b n fact. fact;
  sized = refl;
  others = λ i b h. refl;
}
  where
    nothing : (old i : ℕ) → (start ≤ i) ⊎ (i ≤ start) → old ≡ cell old i start []
    nothing old i (inl low) = sym (cell_past old i start [] (omega (arith, low)))
    nothing old i (inr low) = edge (eq_cases i start)
      where
        edge : (i ≡ start) ⊎ (i ≢ start) → old ≡ cell old i start []
        edge (inl e) = sym (cell_past old i start [] (omega (arith, e)))
        edge (inr e) = sym (cell_below old i start [] (omega (arith, low, e)))

-- one block, and then the rest
module _ (file : Ino) (blk low : ℕ) (in_block : low < block_size) (data' : blk ≢ size_block) (new : List ℕ) (some : 0 < length new) (t : Table)
    (value : Content)
    (laid : Laid (t file blk) value low (take (block_size - low) new)) (u : Table)
    (rest : Filled file (block_size * (blk + 1) + 0) (drop (block_size - low) new) (put_at t file blk value) u) where
  piece_length : length (take (block_size - low) new) ≡ min (block_size - low) (length new)
  piece_length = length-take (block_size - low) new

  rest_length : length (drop (block_size - low) new) ≡ length new - (block_size - low)
  rest_length = length-drop (block_size - low) new

  -- in the block itself
  block_itself : (j : ℕ) → j < block_size
      → get_or (bytes_in (u file blk)) j 0 ≡ cell (get_or (bytes_in (t file blk)) j 0) (block_size * blk + j) (block_size * blk + low) new
  block_itself j small =
      let old = get_or (bytes_in (t file blk)) j 0 in
      rest.bytes blk j data' small
      ∙ cell_below (get_or (bytes_in (put_at t file blk value file blk)) j 0) (block_size * blk + j) (block_size * (blk + 1) + 0) (drop (block_size - low) new)
      (omega (arith, small))
      ∙ ap (λ (v : Content). get_or (bytes_in v) j 0) (put_here t file blk value) ∙ laid.bytes j small
      ∙ moved old (le_cases low j) (le_cases (low + length new) j)
    where
      within : (old : ℕ) → low ≤ j → j < low + length new
          → cell old j low (take (block_size - low) new) ≡ cell old (block_size * blk + j) (block_size * blk + low) new
      within old a b =
          let h : j < low + length (take (block_size - low) new) = omega (arith, piece_length, small, b) in
          let c : block_size * blk + low ≤ block_size * blk + j = omega (arith, a) in
          let d : block_size * blk + j < block_size * blk + low + length new = omega (arith, b) in
          let e : j - low ≡ block_size * blk + j - (block_size * blk + low) = omega (arith, a) in
          let f : j - low < block_size - low = omega (arith, small, a) in
          cell_in old j low (take (block_size - low) new) a h ∙ get_or-take (block_size - low) new (j - low) 0 f ∙ ap (λ (n : ℕ). get_or new n 0) e
          ∙ sym (cell_in old (block_size * blk + j) (block_size * blk + low) new c d)

      below : (old : ℕ) → j < low → cell old j low (take (block_size - low) new) ≡ cell old (block_size * blk + j) (block_size * blk + low) new
      below old a =
          let c : block_size * blk + j < block_size * blk + low = omega (arith, a) in
          cell_below old j low (take (block_size - low) new) a ∙ sym (cell_below old (block_size * blk + j) (block_size * blk + low) new c)

      past : (old : ℕ) → low + length new ≤ j → cell old j low (take (block_size - low) new) ≡ cell old (block_size * blk + j) (block_size * blk + low) new
      past old b =
          let h : low + length (take (block_size - low) new) ≤ j = omega (arith, piece_length, b) in
          let c : block_size * blk + low + length new ≤ block_size * blk + j = omega (arith, b) in
          cell_past old j low (take (block_size - low) new) h ∙ sym (cell_past old (block_size * blk + j) (block_size * blk + low) new c)

      moved : (old : ℕ) → (low ≤ j) ⊎ (j ≤ low) → (low + length new ≤ j) ⊎ (j ≤ low + length new)
          → cell old j low (take (block_size - low) new) ≡ cell old (block_size * blk + j) (block_size * blk + low) new
      moved old a (inl b) = past old b
      moved old (inl a) (inr b) = edge (eq_cases j (low + length new))
        where
          edge : (j ≡ low + length new) ⊎ (j ≢ low + length new)
              → cell old j low (take (block_size - low) new) ≡ cell old (block_size * blk + j) (block_size * blk + low) new
          edge (inl e) = past old (omega (arith, e))
          edge (inr e) = within old a (omega (arith, b, e))
      moved old (inr a) (inr b) = edge (eq_cases j low)
        where
          edge : (j ≡ low) ⊎ (j ≢ low) → cell old j low (take (block_size - low) new) ≡ cell old (block_size * blk + j) (block_size * blk + low) new
          edge (inl e) = within old (omega (arith, e)) (omega (arith, e, some))
          edge (inr e) = below old (omega (arith, a, e))

  -- in another block
  block_beside : (b j : ℕ) → b ≢ blk → b ≢ size_block → j < block_size
      → get_or (bytes_in (u file b)) j 0 ≡ cell (get_or (bytes_in (t file b)) j 0) (block_size * b + j) (block_size * blk + low) new
  block_beside b j other n small =
      rest.bytes b j n small
      ∙ ap (λ (v : Content). cell (get_or (bytes_in v) j 0) (block_size * b + j) (block_size * (blk + 1) + 0) (drop (block_size - low) new))
      (put_beside t file blk value file b other)
      ∙ moved (get_or (bytes_in (t file b)) j 0) (le_cases b blk) (le_cases (block_size * blk + low + length new) (block_size * b + j))
    where
      past : (old : ℕ) → blk < b → block_size * blk + low + length new ≤ block_size * b + j
          → cell old (block_size * b + j) (block_size * (blk + 1) + 0) (drop (block_size - low) new) ≡ cell old (block_size * b + j)
          (block_size * blk + low) new
      past old a c =
          let d : block_size * (blk + 1) + 0 + length (drop (block_size - low) new) ≤ block_size * b + j = omega (arith, rest_length, a, c, in_block) in
          cell_past old (block_size * b + j) (block_size * (blk + 1) + 0) (drop (block_size - low) new) d
          ∙ sym (cell_past old (block_size * b + j) (block_size * blk + low) new c)

      within : (old : ℕ) → blk < b → block_size * b + j < block_size * blk + low + length new
          → cell old (block_size * b + j) (block_size * (blk + 1) + 0) (drop (block_size - low) new) ≡ cell old (block_size * b + j)
          (block_size * blk + low) new
      within old a c =
          let d : block_size * (blk + 1) + 0 ≤ block_size * b + j = omega (arith, a) in
          let e : block_size * b + j < block_size * (blk + 1) + 0 + length (drop (block_size - low) new) = omega (arith, rest_length, a, c, in_block) in
          let f : block_size * blk + low ≤ block_size * b + j = omega (arith, a, in_block) in
          let g : block_size - low + (block_size * b + j - (block_size * (blk + 1) + 0)) ≡ block_size * b + j - (block_size * blk + low) =
          omega (arith, a, in_block) in
          cell_in old (block_size * b + j) (block_size * (blk + 1) + 0) (drop (block_size - low) new) d e
          ∙ get_or-drop (block_size - low) new (block_size * b + j - (block_size * (blk + 1) + 0)) 0
          ∙ ap (λ (n : ℕ). get_or new n 0) g ∙ sym (cell_in old (block_size * b + j) (block_size * blk + low) new f c)

      moved : (old : ℕ) → (b ≤ blk) ⊎ (blk ≤ b)
          → (block_size * blk + low + length new ≤ block_size * b + j) ⊎ (block_size * b + j ≤ block_size * blk + low + length new)
          → cell old (block_size * b + j) (block_size * (blk + 1) + 0) (drop (block_size - low) new) ≡ cell old (block_size * b + j)
          (block_size * blk + low) new
      moved old (inl a) c =
          let d : block_size * b + j < block_size * (blk + 1) + 0 = omega (arith, a, small, other) in
          let e : block_size * b + j < block_size * blk + low = omega (arith, a, small, other) in
          cell_below old (block_size * b + j) (block_size * (blk + 1) + 0) (drop (block_size - low) new) d
          ∙ sym (cell_below old (block_size * b + j) (block_size * blk + low) new e)
      moved old (inr a) (inl c) = past old (omega (arith, a, other)) c
      moved old (inr a) (inr c) = edge (eq_cases (block_size * b + j) (block_size * blk + low + length new))
        where
          edge : (block_size * b + j ≡ block_size * blk + low + length new) ⊎ (block_size * b + j ≢ block_size * blk + low + length new)
              → cell old (block_size * b + j) (block_size * (blk + 1) + 0) (drop (block_size - low) new) ≡ cell old (block_size * b + j)
              (block_size * blk + low) new
          edge (inl e) = past old (omega (arith, a, other)) (omega (arith, e))
          edge (inr e) = within old (omega (arith, a, other)) (omega (arith, c, e))

  new_block : (m : ℕ) → block_size * blk + low + length new ≤ m → IsBlock m blk (t file blk) → IsBlock m blk value
  new_block m fits' fact = record {
    short = omega (arith, piece_length, laid.bound, fact.short, in_block);
    below = λ more. by more (eq_cases (length (bytes_in (t file blk))) 0);
  }
    where
      by : 0 < length (bytes_in value) → (length (bytes_in (t file blk)) ≡ 0) ⊎ (length (bytes_in (t file blk)) ≢ 0)
          → block_size * blk + length (bytes_in value) ≤ m
      by more (inl e) = omega (arith, piece_length, laid.bound, e, fits', more, some)
      by more (inr e) = let g = fact.below (omega (arith, e)) in omega (arith, piece_length, laid.bound, g, fits', more, some)

  pub filled_more : Filled file (block_size * blk + low) new t u
  filled_more = record {
    bytes = λ b j n small. by b j n small (eq_cases b blk);
    blocks = λ m below b n fact. block m below b n fact (eq_cases b blk);
    sized = rest.sized ∙ put_beside t file blk value file size_block (λ e. data' (sym e));
    others = λ i b h. rest.others i b h ∙ put_other t file blk value i b h;
  }
    where
      by : (b j : ℕ) → b ≢ size_block → j < block_size → (b ≡ blk) ⊎ (b ≢ blk)
          → get_or (bytes_in (u file b)) j 0 ≡ cell (get_or (bytes_in (t file b)) j 0) (block_size * b + j) (block_size * blk + low) new
      by b j n small (inl e) =
          subst (λ (c : ℕ). get_or (bytes_in (u file c)) j 0 ≡ cell (get_or (bytes_in (t file c)) j 0) (block_size * c + j) (block_size * blk + low) new)
          (sym e) (block_itself j small)
      by b j n small (inr e) = block_beside b j e n small

      block : (m : ℕ) → (0 < length new → block_size * blk + low + length new ≤ m) → (b : ℕ) → b ≢ size_block → IsBlock m b (t file b) → (b ≡ blk) ⊎ (b ≢ blk)
          → IsBlock m b (u file b)
      block m below b n fact (inl e) =
          rest.blocks m (λ more. omega (arith, rest_length, below some, more, in_block)) b n
          (subst (λ (c : ℕ). IsBlock m c (put_at t file blk value file c)) (sym e)
          (subst (IsBlock m blk) (sym (put_here t file blk value)) (new_block m (below some) (subst (λ (c : ℕ). IsBlock m c (t file c)) e fact))))
      block m below b n fact (inr e) =
          rest.blocks m (λ more. omega (arith, rest_length, below some, more, in_block)) b n
          (subst (IsBlock m b) (sym (put_beside t file blk value file b e)) fact)
