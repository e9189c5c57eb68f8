-- Entries in rising order of names, put among others: each stands right after those of the others that its name is past.
use Rattle.std.proofs.Common.{◌≡◌, ◌<◌, true, List, [], ◌∷◌, ◌++◌, length, drop, get_or, sym, ap, subst, ◌∙◌, refl, arith, append_assoc}
use Rattle.std.specs.Prelude.{T, ◌&&◌}
use Rattle.std.specs.FinMap.Entries.{is_sorted, below_all}
use Rattle.std.specs.Ordering.{is_eq, is_lt, ordering_reverse}
use Rattle.std.specs.BTreeMap.{insert_entry}
use Rattle.std.specs.declared.cmp.Ordering.{Ordering}
use Rattle.std.specs.declared.cmp.Ordering.TheVariants.{Less, Equal, Greater}
use Rattle.file_plan.specs.declared.node.Node.{Node}
use Rattle.file_plan.specs.Merging.{Passes}
use Rattle.file_plan.specs.Names.{Name, Row, name_cmp}
use Rattle.file_plan.specs.Plan.{insert_all}
use Rattle.file_plan.proofs.Buckets.{name_total, one_name, is_T, first, second}
use Rattle.file_plan.proofs.RowPlaces.{put_step, less_all}

-- ---- the order of names

lower : (x y : Name) → T (is_lt (name_cmp x y)) → name_cmp y x ≡ Greater
lower x y h = name_total.antisymm y x ∙ by (name_cmp x y) h
  where
    by : (o : Ordering) → T (is_lt o) → ordering_reverse o ≡ Greater
    by Less h = refl
    by Equal h = absurd h
    by Greater h = absurd h

pub higher : (x y : Name) → name_cmp x y ≡ Greater → name_cmp y x ≡ Less
higher x y h = name_total.antisymm y x ∙ ap ordering_reverse h

rises : (name : Name) (node : Node) (more : List Row) → is_sorted name_cmp ((name, node) ∷ more) ≡ true → T (below_all name_cmp name more)
rises name node more h = first (below_all name_cmp name more) (is_sorted name_cmp more) (is_T (is_sorted name_cmp ((name, node) ∷ more)) h)

-- ---- one entry at the front of the others

-- an entry below all that come stays at the front
ahead : (row : Row) (rows more : List Row) → T (below_all name_cmp row.0 more) → insert_all (row ∷ rows) more ≡ row ∷ insert_all rows more
ahead row rows [] h = refl
ahead row rows (next ∷ more) h =
    let here = lower row.0 next.0 (first (is_lt (name_cmp row.0 next.0)) (below_all name_cmp row.0 more) h) in
    ap (λ (rs : List Row). insert_all rs more) (put_step row rows next.0 next.1 Greater here)
    ∙ ahead row (insert_entry name_cmp rows next.0 next.1) more (second (is_lt (name_cmp row.0 next.0)) (below_all name_cmp row.0 more) h)

before : (name : Name) (node : Node) (row : Row) (rows more : List Row) → name_cmp name row.0 ≡ Less → T (below_all name_cmp name more)
    → insert_all (row ∷ rows) ((name, node) ∷ more) ≡ (name, node) ∷ insert_all (row ∷ rows) more
before name node row rows more less h =
    ap (λ (rs : List Row). insert_all rs more) (put_step row rows name node Less less) ∙ ahead (name, node) (row ∷ rows) more h

over : (name : Name) (node : Node) (row : Row) (rows more : List Row) → name_cmp name row.0 ≡ Equal → T (below_all name_cmp name more)
    → insert_all (row ∷ rows) ((name, node) ∷ more) ≡ (name, node) ∷ insert_all rows more
over name node row rows more equal h =
    ap (λ (rs : List Row). insert_all rs more) (put_step row rows name node Equal equal)
    ∙ ap (λ (n : Name). insert_all ((n, node) ∷ rows) more) (sym (one_name name row.0 (ap is_eq equal)))
    ∙ ahead (name, node) rows more h

past : (name : Name) (node : Node) (row : Row) (rows more : List Row) → name_cmp name row.0 ≡ Greater → T (below_all name_cmp name more)
    → insert_all (row ∷ rows) ((name, node) ∷ more) ≡ row ∷ insert_all rows ((name, node) ∷ more)
past name node row rows more greater h =
    let less = higher name row.0 greater in
    ahead row rows ((name, node) ∷ more) (subst (λ (o : Ordering). T (is_lt o && below_all name_cmp row.0 more)) (sym less) (less_all row.0 name more less h))

-- ---- the loop past the entries before a name

-- what is done, with all put among the others, is so far the same
abbrev pub IsOnTheWay : List Row → List Row → Name → List Row → List Row → Type 0
IsOnTheWay done others name now rest = (node : Node) (more : List Row) → is_sorted name_cmp ((name, node) ∷ more) ≡ true
    → done ++ insert_all others ((name, node) ∷ more) ≡ now ++ insert_all rest ((name, node) ∷ more)

pub stops_before : (done others now rest : List Row) (name : Name) (key : Row) → IsOnTheWay done others name now rest → 0 < length rest → key ≡ get_or rest 0 key
    → name_cmp name key.0 ≡ Less → Passes done others name now rest
stops_before done others now [] name key way some fact less node more rising = absurd (omega (arith, some))
stops_before done others now (row ∷ rows) name key way some fact less node more rising =
    let here = ap (λ (r : Row). name_cmp name r.0) (sym fact) ∙ less in
    way node more rising ∙ ap (λ (rs : List Row). now ++ rs) (before name node row rows more here (rises name node more rising))

pub stops_at : (done others now rest next : List Row) (name : Name) (key : Row) → IsOnTheWay done others name now rest → 0 < length rest → key ≡ get_or rest 0 key
    → name_cmp name key.0 ≡ Equal → next ≡ drop 1 rest → Passes done others name now next
stops_at done others now [] next name key way some fact equal cut node more rising = absurd (omega (arith, some))
stops_at done others now (row ∷ rows) next name key way some fact equal cut node more rising =
    let here = ap (λ (r : Row). name_cmp name r.0) (sym fact) ∙ equal in
    way node more rising ∙ ap (λ (rs : List Row). now ++ rs) (over name node row rows more here (rises name node more rising))
    ∙ ap (λ (rs : List Row). now ++ (name, node) ∷ insert_all rs more) (sym cut)

pub goes_on : (done others now rest after next : List Row) (name : Name) (key row : Row) → IsOnTheWay done others name now rest → 0 < length rest
    → key ≡ get_or rest 0 key → row ≡ get_or rest 0 row → name_cmp name key.0 ≡ Greater → after ≡ now ++ row ∷ [] → next ≡ drop 1 rest
    → IsOnTheWay done others name after next
goes_on done others now [] after next name key row way some fact same greater more_done cut node more rising = absurd (omega (arith, some))
goes_on done others now (r ∷ rows) after next name key row way some fact same greater more_done cut node more rising =
    let here = ap (λ (k : Row). name_cmp name k.0) (sym fact) ∙ greater in
    way node more rising ∙ ap (λ (rs : List Row). now ++ rs) (past name node r rows more here (rises name node more rising))
    ∙ sym (append_assoc now (r ∷ []) (insert_all rows ((name, node) ∷ more)))
    ∙ ap (λ (k : Row). (now ++ k ∷ []) ++ insert_all rows ((name, node) ∷ more)) (sym same)
    ∙ ap (λ (rs : List Row). rs ++ insert_all rows ((name, node) ∷ more)) (sym more_done)
    ∙ ap (λ (rs : List Row). after ++ insert_all rs ((name, node) ∷ more)) (sym cut)

pub stops_empty : (done others now rest : List Row) (name : Name) → IsOnTheWay done others name now rest → length rest ≡ 0 → Passes done others name now rest
stops_empty done others now [] name way none node more rising =
    way node more rising ∙ ap (λ (rs : List Row). now ++ rs) (ahead (name, node) [] more (rises name node more rising))
stops_empty done others now (row ∷ rows) name way none node more rising = absurd (omega (arith, none))

-- ---- the loop over all that come

-- with those to come, what is done and the others are all
pub record Merges (done others more all : List Row) : Type 0 where
  pub rising : is_sorted name_cmp more ≡ true
  pub same : done ++ insert_all others more ≡ all
