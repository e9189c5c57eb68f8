-- Where an entry comes or goes in a list of entries, found from the front on; and a list that rises from each entry to the next.
use Rattle.std.proofs.Common.{◌≡◌, ℕ, suc, ◌+◌, ◌<◌, ◌≤◌, Bool, true, false, cond, ◌&&◌, List, [], ◌∷◌, ◌++◌, length, take, drop, get_or, refl, sym, ap, subst, ◌∙◌, arith, length-append}
use Rattle.std.specs.Prelude.{T, insert}
use Rattle.std.proofs.Math.ListN.{set}
use Rattle.std.specs.FinMap.Entries.{is_sorted, below_all}
use Rattle.std.specs.Ordering.{match_ordering, is_eq, is_lt, is_ge}
use Rattle.std.specs.Map.{remove_entry}
use Rattle.std.specs.BTreeMap.{is_at, insert_entry}
use Rattle.std.specs.declared.cmp.Ordering.{Ordering}
use Rattle.std.specs.declared.cmp.Ordering.TheVariants.{Less, Equal, Greater}
use Rattle.std.proofs.lemmas.List.{drop_more, drop_all, set_split}
use Rattle.file_plan.specs.declared.node.Node.{Node}
use Rattle.file_plan.specs.Names.{Name, Row, name_cmp}
use Rattle.file_plan.specs.Format.{bucket_bytes}
use Rattle.file_plan.proofs.Buckets.{name_total, one_name, is_T, from_T, first, second}

-- ---- an entry comes

-- the list with the entry put among those from a place on
abbrev pub put_from : List Row → Name → Node → ℕ → List Row
put_from rows name node i = take i rows ++ insert_entry name_cmp (drop i rows) name node

pub put_step : (row : Row) (rest : List Row) (name : Name) (node : Node) (o : Ordering) → name_cmp name row.0 ≡ o
    → insert_entry name_cmp (row ∷ rest) name node ≡ match_ordering o ((name, node) ∷ row ∷ rest) ((row.0, node) ∷ rest)
    (row ∷ insert_entry name_cmp rest name node)
put_step row rest name node o e =
    ap (λ (r : Ordering). match_ordering r ((name, node) ∷ row ∷ rest) ((row.0, node) ∷ rest) (row ∷ insert_entry name_cmp rest name node)) e

one_more : (i : ℕ) → i + 1 ≡ suc i
one_more i = omega arith

pub put_over : (rows : List Row) (name : Name) (node : Node) (i : ℕ) (row : Row) → i < length rows → row ≡ get_or rows i row → name_cmp name row.0 ≡ Equal
    → put_from rows name node i ≡ set rows i (name, node)
put_over rows name node i row here fact equal =
    ap (λ (rs : List Row). take i rows ++ insert_entry name_cmp rs name node) (drop_more rows i row here)
    ∙ ap (λ (r : Row). take i rows ++ insert_entry name_cmp (r ∷ drop (i + 1) rows) name node) (sym fact)
    ∙ ap (λ (rs : List Row). take i rows ++ rs) (put_step row (drop (i + 1) rows) name node Equal equal)
    ∙ ap (λ (n : Name). take i rows ++ (n, node) ∷ drop (i + 1) rows) (sym (one_name name row.0 (ap is_eq equal)))
    ∙ ap (λ (k : ℕ). take i rows ++ (name, node) ∷ drop k rows) (one_more i)
    ∙ sym (set_split rows i (name, node) here)

pub put_last : (rows : List Row) (name : Name) (node : Node) (i : ℕ) → length rows ≤ i → put_from rows name node i ≡ insert rows i (name, node)
put_last rows name node i past =
    ap (λ (rs : List Row). take i rows ++ insert_entry name_cmp rs name node) (drop_all i rows past)
    ∙ ap (λ (rs : List Row). take i rows ++ (name, node) ∷ rs) (sym (drop_all i rows past))

-- ---- an entry goes

abbrev pub cut_from : List Row → Name → ℕ → List Row
cut_from rows name i = take i rows ++ remove_entry (is_at (name_cmp name)) (drop i rows)

-- ---- rising names

pub less_all : (x y : Name) (rows : List Row) → name_cmp x y ≡ Less → T (below_all name_cmp y rows) → T (below_all name_cmp x rows)
less_all x y [] less below = tt
less_all x y (row ∷ rows) less below =
    let here = first (is_lt (name_cmp y row.0)) (below_all name_cmp y rows) below in
    let rest = second (is_lt (name_cmp y row.0)) (below_all name_cmp y rows) below in
    both (name_cmp x row.0) (below_all name_cmp x rows) (name_total.trans x y row.0 less (lt_less (name_cmp y row.0) here)) (less_all x y rows less rest)
  where
    lt_less : (o : Ordering) → T (is_lt o) → o ≡ Less
    lt_less Less h = refl
    lt_less Equal h = absurd h
    lt_less Greater h = absurd h

    both : (o : Ordering) (b : Bool) → o ≡ Less → T b → T (is_lt o && b)
    both o b e h = subst (λ (r : Ordering). T (is_lt r && b)) (sym e) h

two_step : (o : Ordering) (x y : Name) (ys : List Row) (s : Bool) → name_cmp x y ≡ o
    → (is_lt o && below_all name_cmp x ys) && (below_all name_cmp y ys && s) ≡ (is_lt o && (below_all name_cmp y ys && s))
two_step Equal x y ys s e = refl
two_step Greater x y ys s e = refl
two_step Less x y ys s e = by (below_all name_cmp y ys) refl
  where
    off : (a : Bool) → (a && false) ≡ false
    off true = refl
    off false = refl

    by : (b : Bool) → below_all name_cmp y ys ≡ b → (below_all name_cmp x ys && (b && s)) ≡ (b && s)
    by true h = ap (λ (a : Bool). a && s) (from_T (below_all name_cmp x ys) (less_all x y ys e (is_T (below_all name_cmp y ys) h)))
    by false h = off (below_all name_cmp x ys)

two_rise : (x y : Row) (ys : List Row) → is_sorted name_cmp (x ∷ y ∷ ys) ≡ (is_lt (name_cmp x.0 y.0) && is_sorted name_cmp (y ∷ ys))
two_rise x y ys = two_step (name_cmp x.0 y.0) x.0 y.0 ys (is_sorted name_cmp ys) refl

-- from one entry on, a list rises where the next one is greater and it rises from that on
pub rise_step : (rows : List Row) (i : ℕ) (x y : Row) → i + 1 < length rows → x ≡ get_or rows i x → y ≡ get_or rows (i + 1) y
    → is_sorted name_cmp (drop i rows) ≡ (is_lt (name_cmp x.0 y.0) && is_sorted name_cmp (drop (i + 1) rows))
rise_step rows i x y here at_x at_y =
    let low : i < length rows = omega arith in
    let front = drop_more rows i x low ∙ ap (λ (r : Row). r ∷ drop (i + 1) rows) (sym at_x) in
    let back = drop_more rows (i + 1) y here ∙ ap (λ (r : Row). r ∷ drop (i + 1 + 1) rows) (sym at_y) in
    ap (λ (rs : List Row). is_sorted name_cmp rs) (front ∙ ap (λ (rs : List Row). x ∷ rs) back)
    ∙ two_rise x y (drop (i + 1 + 1) rows) ∙ ap (λ (rs : List Row). is_lt (name_cmp x.0 y.0) && is_sorted name_cmp rs) (sym back)

pub short_rises : (rows : List Row) → length rows ≤ 1 → is_sorted name_cmp rows ≡ true
short_rises [] h = refl
short_rises (x ∷ []) h = refl
short_rises (x ∷ y ∷ ys) h = absurd (omega (arith, h))

pub not_ge : (o : Ordering) → is_ge o ≡ false → is_lt o ≡ true
not_ge Less h = refl
not_ge Equal h = let e : true ≡ false = h in cc
not_ge Greater h = let e : true ≡ false = h in cc

-- without an entry the bytes are no more
pub without_shorter : (name : Name) (rows : List Row) → length (bucket_bytes (remove_entry (is_at (name_cmp name)) rows)) ≤ length (bucket_bytes rows)
without_shorter name [] = omega arith
without_shorter name (row ∷ rows) = by (is_at (name_cmp name) row.0) (without_shorter name rows)
  where
    by : (b : Bool) → length (bucket_bytes (remove_entry (is_at (name_cmp name)) rows)) ≤ length (bucket_bytes rows)
        → length (bucket_bytes (cond b rows (row ∷ remove_entry (is_at (name_cmp name)) rows))) ≤ length (bucket_bytes (row ∷ rows))
    by true h = let e = length-append row.0 (bucket_bytes rows) in omega (arith, e)
    by false h =
        let e = length-append row.0 (bucket_bytes rows) in
        let f = length-append row.0 (bucket_bytes (remove_entry (is_at (name_cmp name)) rows)) in
        omega (arith, h, e, f)
