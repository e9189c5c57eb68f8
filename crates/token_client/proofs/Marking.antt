-- The marks of a table, once a block enters it, leaves it, or all are changed in place.
use Rattle.std.proofs.Common.{◌≡◌, ℕ, suc, Bool, true, false, cond, List, [], ◌∷◌, length, map, refl, sym, ap, ap₂, subst, ◌∙◌, arith}
use Rattle.std.specs.Prelude.{◌==◌, ◌||◌, not, is_some, OnOk, OnErr, if◌then◌else◌}
use Rattle.std.specs.declared.result.Result.{Result}
use Rattle.std.specs.declared.result.Result.TheVariants.{Ok, Err}
use Rattle.std.specs.declared.cmp.Ordering.TheVariants.{Less, Equal, Greater}
use Rattle.std.specs.Ordering.{is_eq, match_ordering}
use Rattle.std.specs.List.{AllByRecursion, filter, list_any}
use Rattle.std.specs.List.Sorted.{IsStrictlySortedBy}
use Rattle.std.specs.Map.{keys_of, values_of, remove_entry}
use Rattle.std.specs.Set.{remove_key}
use Rattle.std.specs.BTreeMap.{is_at, insert_entry}
use Rattle.std.specs.BTreeSet.{insert_key}
use Rattle.std.proofs.lemmas.Bool.Decides.{nat_tests}
use Rattle.std.proofs.lemmas.Cmp.{tied_itself}
use Rattle.xfs_base.specs.declared.block.BlockId.{BlockId}
use Rattle.xfs_base.specs.Blocks.{block_cmp}
use Rattle.xfs_base.proofs.BlockOrder.{block_cmp_total, block_cmp_exact}
use Rattle.xfs_base.proofs.Sorted.{sorted_insert, sorted_remove}
use Rattle.token_client.specs.declared.held.Held.{Held}
use Rattle.token_client.specs.Held.{is_dirty, drop_promised}
use Rattle.token_client.specs.Marks.{IsTable, MarksState, blocks_where, forget, mark, marks_of, note, marks_new}
use Rattle.token_client.specs.State.{is_in_slot}
use Rattle.token_client.specs.Transition.{drop_all_in, drop_in, is_spent}
use Rattle.token_client.proofs.Tables.{InOrder, in_order-changed}

-- a block is before all of these
abbrev IsBefore : BlockId → List BlockId → Type 0
IsBefore b ks = AllByRecursion (λ k. block_cmp b k ≡ Less) ks

before_all : (a b : BlockId) (ks : List BlockId) → block_cmp a b ≡ Less → IsBefore b ks → IsBefore a ks
before_all a b [] less before = before
before_all a b (k ∷ ks) less before = (block_cmp_total.trans a b k less before.0, before_all a b ks less before.1)

-- a block that is the first of a list, or isn't in it
abbrev first : Bool → BlockId → List BlockId → List BlockId
first t b ks = cond t (b ∷ ks) ks

-- to mark a block that is before all others
marked_before : (t : Bool) (b : BlockId) (ks : List BlockId) → IsBefore b ks → mark t ks b ≡ first t b ks
marked_before true b [] before = refl
marked_before true b (k ∷ ks) before = ap (λ o. match_ordering o (b ∷ k ∷ ks) (k ∷ ks) (k ∷ insert_key block_cmp ks b)) before.0
marked_before false b [] before = refl
marked_before false b (k ∷ ks) before =
    ap (λ o. cond (is_eq o) ks (k ∷ remove_key (is_at (block_cmp b)) ks)) before.0 ∙ ap (λ l. k ∷ l) (marked_before false b ks before.1)

-- to mark the block that may be the first
marked_first : (t u : Bool) (b : BlockId) (ks : List BlockId) → IsBefore b ks → mark t (first u b ks) b ≡ first t b ks
marked_first t false b ks before = marked_before t b ks before
marked_first true true b ks before = ap (λ o. match_ordering o (b ∷ b ∷ ks) (b ∷ ks) (b ∷ insert_key block_cmp ks b)) (tied_itself block_cmp_total b)
marked_first false true b ks before = ap (λ o. cond (is_eq o) ks (b ∷ remove_key (is_at (block_cmp b)) ks)) (tied_itself block_cmp_total b)

-- to mark a block behind the one that may be the first
marked_behind : (t u : Bool) (b k : BlockId) (ks : List BlockId) → block_cmp b k ≡ Greater → mark t (first u k ks) b ≡ first u k (mark t ks b)
marked_behind t false b k ks greater = refl
marked_behind true true b k ks greater = ap (λ o. match_ordering o (b ∷ k ∷ ks) (k ∷ ks) (k ∷ insert_key block_cmp ks b)) greater
marked_behind false true b k ks greater = ap (λ o. cond (is_eq o) ks (k ∷ remove_key (is_at (block_cmp b)) ks)) greater

some_left : (n : ℕ) → not (suc n == 0) ≡ true
some_left n = grind (arith, nat_tests)

module _ (p : Held → Bool) where
  where_first : (e : BlockId × Held) (es : List (BlockId × Held)) → blocks_where p (e ∷ es) ≡ first (p e.1) e.0 (blocks_where p es)
  where_first e es = by (p e.1)
    where
      rest : List (BlockId × Held)
      rest = filter (λ d. p d.1) es

      by : (t : Bool) → keys_of (cond t (e ∷ rest) rest) ≡ first t e.0 (keys_of rest)
      by true = refl
      by false = refl

  -- what is before all blocks is before those of which it is so
  before_where : (b : BlockId) (es : List (BlockId × Held)) → IsBefore b (keys_of es) → IsBefore b (blocks_where p es)
  before_where b [] before = before
  before_where b (e ∷ es) before = subst (IsBefore b) (sym (where_first e es)) (by (p e.1) (before_where b es before.1))
    where
      by : (t : Bool) → IsBefore b (blocks_where p es) → IsBefore b (first t e.0 (blocks_where p es))
      by true rest = (before.0, rest)
      by false rest = rest

  -- a block enters the table
  pub where-put : (b : BlockId) (h : Held) (es : List (BlockId × Held)) → InOrder es → blocks_where p (insert_entry block_cmp es b h) ≡ mark (p h) (blocks_where p es) b
  unfolding IsStrictlySortedBy
  where-put b h [] sorted = where_first (b, h) [] ∙ sym (marked_before (p h) b [] tt)
  where-put b h (e ∷ es) sorted =
      elim (block_cmp b e.0) as (λ o. block_cmp b e.0 ≡ o
      → blocks_where p (match_ordering o ((b, h) ∷ e ∷ es) ((e.0, h) ∷ es) (e ∷ insert_entry block_cmp es b h)) ≡ mark (p h) (blocks_where p (e ∷ es)) b) [
        | Less ↦ λ less.
            where_first (b, h) (e ∷ es)
            ∙ sym (marked_before (p h) b (blocks_where p (e ∷ es)) (before_where b (e ∷ es) (less, before_all b e.0 (keys_of es) less sorted.0)))
        | Equal ↦ λ equal.
            let same : b ≡ e.0 = block_cmp_exact b e.0 equal in
            where_first (e.0, h) es ∙ sym (marked_first (p h) (p e.1) e.0 (blocks_where p es) (before_where e.0 es sorted.0))
            ∙ ap (λ l. mark (p h) l e.0) (sym (where_first e es)) ∙ ap (mark (p h) (blocks_where p (e ∷ es))) (sym same)
        | Greater ↦ λ greater.
            where_first e (insert_entry block_cmp es b h) ∙ ap (first (p e.1) e.0) (where-put b h es sorted.1)
            ∙ sym (marked_behind (p h) (p e.1) b e.0 (blocks_where p es) greater) ∙ ap (λ l. mark (p h) l b) (sym (where_first e es))
      ] refl

  -- the first block stays, and another leaves those behind it
  removed_behind : (b : BlockId) (e : BlockId × Held) (es : List (BlockId × Held))
      → blocks_where p (remove_entry (is_at (block_cmp b)) es) ≡ mark false (blocks_where p es) b
      → mark false (first (p e.1) e.0 (blocks_where p es)) b ≡ first (p e.1) e.0 (mark false (blocks_where p es) b)
      → blocks_where p (e ∷ remove_entry (is_at (block_cmp b)) es) ≡ mark false (blocks_where p (e ∷ es)) b
  removed_behind b e es rest moved =
      where_first e (remove_entry (is_at (block_cmp b)) es) ∙ ap (first (p e.1) e.0) rest ∙ sym moved ∙ ap (λ l. mark false l b) (sym (where_first e es))

  -- a block that is before all is not among them
  not_there : (b : BlockId) (e : BlockId × Held) (es : List (BlockId × Held)) → block_cmp b e.0 ≡ Less → IsBefore e.0 (keys_of es)
      → mark false (first (p e.1) e.0 (blocks_where p es)) b ≡ first (p e.1) e.0 (mark false (blocks_where p es) b)
  not_there b e es less before =
      let early : IsBefore b (keys_of es) = before_all b e.0 (keys_of es) less before in
      marked_before false b (first (p e.1) e.0 (blocks_where p es)) (subst (IsBefore b) (where_first e es) (before_where b (e ∷ es) (less, early)))
      ∙ ap (first (p e.1) e.0) (sym (marked_before false b (blocks_where p es) (before_where b es early)))

  -- a block leaves the table
  pub where-removed : (b : BlockId) (es : List (BlockId × Held)) → InOrder es
      → blocks_where p (remove_entry (is_at (block_cmp b)) es) ≡ mark false (blocks_where p es) b
  unfolding IsStrictlySortedBy
  where-removed b [] sorted = refl
  where-removed b (e ∷ es) sorted =
      elim (block_cmp b e.0) as (λ o. block_cmp b e.0 ≡ o
      → blocks_where p (cond (is_eq o) es (e ∷ remove_entry (is_at (block_cmp b)) es)) ≡ mark false (blocks_where p (e ∷ es)) b) [
        | Less ↦ λ less. removed_behind b e es (where-removed b es sorted.1) (not_there b e es less sorted.0)
        | Equal ↦ λ equal.
            sym (marked_first false (p e.1) e.0 (blocks_where p es) (before_where e.0 es sorted.0))
            ∙ ap (λ l. mark false l e.0) (sym (where_first e es)) ∙ ap (mark false (blocks_where p (e ∷ es))) (sym (block_cmp_exact b e.0 equal))
        | Greater ↦ λ greater. removed_behind b e es (where-removed b es sorted.1) (marked_behind false (p e.1) b e.0 (blocks_where p es) greater)
      ] refl

  -- all are changed in place, and of each it is so as before
  pub where-changed : (g : BlockId → Held → Held) → ((b : BlockId) (h : Held) → p (g b h) ≡ p h) → (es : List (BlockId × Held))
      → blocks_where p (map (λ e. (e.0, g e.0 e.1)) es) ≡ blocks_where p es
  where-changed g same [] = refl
  where-changed g same (e ∷ es) =
      where_first (e.0, g e.0 e.1) (map (λ d. (d.0, g d.0 d.1)) es)
      ∙ ap₂ (λ t l. first t e.0 l) (same e.0 e.1) (where-changed g same es) ∙ sym (where_first e es)

  -- whether it is so of some block
  pub some_where : (es : List (BlockId × Held)) → not (length (blocks_where p es) == 0) ≡ list_any p (values_of es)
  some_where [] = refl
  some_where (e ∷ es) = ap (λ l. not (length l == 0)) (where_first e es) ∙ by (p e.1) refl (some_where es)
    where
      by : (t : Bool) → p e.1 ≡ t → not (length (blocks_where p es) == 0) ≡ list_any p (values_of es)
          → not (length (first t e.0 (blocks_where p es)) == 0) ≡ list_any p (values_of (e ∷ es))
      by true is rest = some_left (length (blocks_where p es)) ∙ ap (λ b. b || list_any p (values_of es)) (sym is)
      by false is rest = rest ∙ ap (λ b. b || list_any p (values_of es)) (sym is)

removed_marks : (b : BlockId) (es : List (BlockId × Held)) → InOrder es → marks_of (remove_entry (is_at (block_cmp b)) es) ≡ forget (marks_of es) b
removed_marks b es sorted = λ i. record {
  unsettled = where-removed is_dirty b es sorted i;
  wanted = where-removed (λ h. is_some h.want) b es sorted i;
  spent = where-removed (λ h. is_spent h.want) b es sorted i;
}

put_marks : (b : BlockId) (h : Held) (es : List (BlockId × Held)) → InOrder es → marks_of (insert_entry block_cmp es b h) ≡ note (marks_of es) b h
put_marks b h es sorted = λ i. record {
  unsettled = where-put is_dirty b h es sorted i;
  wanted = where-put (λ g. is_some g.want) b h es sorted i;
  spent = where-put (λ g. is_spent g.want) b h es sorted i;
}

-- a promise drops fetches and what is to be given up, of which marks don't tell
kept : (p : Held → Bool) (slot : ℕ) → ((h : Held) → p (drop_promised h) ≡ p h) → (b : BlockId) (h : Held) → p (drop_in slot b h) ≡ p h
kept p slot same b h = elim (is_in_slot slot b) as (λ t. p (if t then drop_promised h else h) ≡ p h) [ true ↦ same h | false ↦ refl ]

dropped_marks : (slot : ℕ) (es : List (BlockId × Held)) → marks_of (drop_all_in slot es) ≡ marks_of es
dropped_marks slot es = λ i. record {
  unsettled = where-changed is_dirty (drop_in slot) (kept is_dirty slot (λ h. refl)) es i;
  wanted = where-changed (λ h. is_some h.want) (drop_in slot) (kept (λ h. is_some h.want) slot (λ h. refl)) es i;
  spent = where-changed (λ h. is_spent h.want) (drop_in slot) (kept (λ h. is_spent h.want) slot (λ h. refl)) es i;
}

-- nothing is known of any block
pub none_known : {es : List (BlockId × Held)} {m : MarksState} → es ≡ [] → m ≡ marks_new → IsTable es m
unfolding IsStrictlySortedBy
none_known none bare = record { in_order = subst InOrder (sym none) tt; marks_are = bare ∙ sym (ap marks_of none) }

-- a promise changes all blocks of a slot in place
pub table_dropped : {es new : List (BlockId × Held)} {m : MarksState} (slot : ℕ) → IsTable es m → new ≡ drop_all_in slot es → IsTable new m
table_dropped {es = es} slot table dropped = record {
  in_order = subst InOrder (sym dropped) (in_order-changed (drop_in slot) es table.in_order);
  marks_are = table.marks_are ∙ sym (dropped_marks slot es) ∙ sym (ap marks_of dropped);
}

module _ {es new : List (BlockId × Held)} {m n : MarksState} where
  -- a block leaves a table
  pub table_removed : (b : BlockId) → IsTable es m → new ≡ remove_entry (is_at (block_cmp b)) es → n ≡ forget m b → IsTable new n
  table_removed b table left bare = record {
    in_order = subst InOrder (sym left) (sorted_remove block_cmp (is_at (block_cmp b)) es table.in_order);
    marks_are = bare ∙ ap (λ (k : MarksState). forget k b) table.marks_are ∙ sym (removed_marks b es table.in_order) ∙ sym (ap marks_of left);
  }

  entered : (b : BlockId) (h : Held) → IsTable es m → new ≡ insert_entry block_cmp es b h → n ≡ note m b h → IsTable new n
  entered b h table put bare = record {
    in_order = subst InOrder (sym put) (sorted_insert block_cmp block_cmp_total b h es table.in_order);
    marks_are = bare ∙ ap (λ (k : MarksState). note k b h) table.marks_are ∙ sym (put_marks b h es table.in_order) ∙ sym (ap marks_of put);
  }

  -- a block enters a table, or the table is given up
  pub table_put : {T E : Type 0} (b : BlockId) (h : Held) (r : Result T E) → IsTable es m → OnOk r (new ≡ insert_entry block_cmp es b h) → OnOk r (n ≡ note m b h)
      → OnErr r ((new ≡ []) × (n ≡ marks_new)) → IsTable new n
  table_put b h (Ok x) table put bare none = entered b h table put bare
  table_put b h (Err e) table put bare none = none_known none.0 none.1
