-- Listing a directory: its eight buckets are put together in the order of names.
use Rattle.std.proofs.Common.{inl, inr, ◌≡◌, ℕ, zero, suc, ◌+◌, ◌<◌, ◌≤◌, Bool, true, false, cond, List, [], ◌∷◌, length, Option, Some, None, refl, sym, ap, subst, ◌∙◌, arith}
use Rattle.std.specs.Prelude.{IfSome, unwrap_or, nat_lt, ◌⊎◌, T}
use Rattle.std.specs.FinMap.Entries.{is_sorted, below_all}
use Rattle.std.specs.Ordering.{eq_by_cmp}
use Rattle.std.specs.BTreeMap.{insert_entry}
use Rattle.std.specs.List.{list_all}
use Rattle.std.proofs.lemmas.Bool.Decides.{leb_tells}
use Rattle.std.proofs.lemmas.Bool.{le-ltb, lt-ltb}
use Rattle.version_model.specs.declared.answer.Answer.TheVariants.{File}
use Rattle.version_model.specs.declared.answer.FileFault.TheVariants.{NoEntry, IsDir, NotDir}
use Rattle.version_model.specs.declared.file_call.FileCall.TheVariants as call
use Rattle.file_plan.specs.declared.node.Node.{Node}
use Rattle.file_plan.specs.Names.{Name, Row, name_cmp, is_good, is_directory, bucket_number, named}
use Rattle.file_plan.specs.Plan.{start, looked_at, gathering, gathered, insert_all, made_by, listing}
use Rattle.file_plan.specs.declared.state.PlanState.TheVariants.{Ends}
use Rattle.file_plan.specs.declared.state.Job.TheVariants.{Lists}
use Rattle.file_plan.specs.Tree.{Table, Tree, tree_of, rows_of, IsEntry, IsBucket, Sound, Outcome, refused, does_list, shown_of}
use Rattle.file_plan.specs.Tree.Said.{Shows}
use Rattle.file_plan.specs.Driving.{World, MeetsTree}
use Rattle.file_plan.proofs.Buckets.{bucket_back, named_each, named-insert, rising-insert, none_below, one_name, first, second, is_T}
use Rattle.file_plan.proofs.Machine.{Comes, replies}
use Rattle.file_plan.proofs.Walks.{Owes, by_path, looks, named_first, refuses_with, directory_is}
use Rattle.xfs_base.specs.declared.block.Ino.{Ino}
use Rattle.file_plan.specs.declared.node.Kind.{Kind}
use Rattle.file_plan.specs.declared.node.Kind.TheVariants as kind
use Rattle.file_plan.specs.Calls.{root}

abbrev or_else : Option Node → Option Node → Option Node
or_else None o = o
or_else (Some node) o = Some node

or_none : (o : Option Node) → or_else o None ≡ o
or_none None = refl
or_none (Some node) = refl

insert_step : (q : Name) (row : Row) (more : List Row) (o : Option Node) (t : Bool) → eq_by_cmp name_cmp q row.0 ≡ t → T (below_all name_cmp row.0 more)
    → or_else (named q more) (cond t (Some row.1) o) ≡ or_else (cond t (Some row.1) (named q more)) o
insert_step q row more o true fact below = ap (λ (p : Option Node). or_else p (Some row.1)) (none_below row.0 q more (one_name q row.0 fact) below)
insert_step q row more o false fact below = refl

named-insert_all : (q : Name) (rows more : List Row) → T (is_sorted name_cmp more) → named q (insert_all rows more) ≡ or_else (named q more) (named q rows)
named-insert_all q rows [] rising = refl
named-insert_all q rows (row ∷ more) rising =
    named-insert_all q (insert_entry name_cmp rows row.0 row.1) more (second (below_all name_cmp row.0 more) (is_sorted name_cmp more) rising)
    ∙ ap (or_else (named q more)) (named-insert q row.0 row.1 rows)
    ∙ insert_step q row more (named q rows) (eq_by_cmp name_cmp q row.0) refl (first (below_all name_cmp row.0 more) (is_sorted name_cmp more) rising)

rising-insert_all : (rows more : List Row) → is_sorted name_cmp rows ≡ true → is_sorted name_cmp (insert_all rows more) ≡ true
rising-insert_all rows [] h = h
rising-insert_all rows (row ∷ more) h = rising-insert_all (insert_entry name_cmp rows row.0 row.1) more (rising-insert row.0 row.1 rows h)

-- what a name leads to, by the entries of its bucket
pub entries_are : (kinds : Ino → Option Kind) (t : Table) (dir : Ino) (bucket : ℕ) (rows : List Row) → IsBucket kinds bucket (t dir bucket) rows → (name : Name)
    → bucket_number name ≡ bucket → (tree_of t).entries dir name ≡ named name rows
entries_are kinds t dir bucket rows fact name own =
    ap (λ (k : ℕ). named name (rows_of (t dir k))) own
    ∙ ap (λ (o : Option (List Row)). named name (unwrap_or o [])) (bucket_back kinds bucket (t dir bucket) rows fact)

three : (n m : ℕ) → (n < m) ⊎ ((n ≡ m) ⊎ (m < n))
three n m = elim (leb_tells n m) as (λ _. (n < m) ⊎ ((n ≡ m) ⊎ (m < n))) [
  | inl h ↦ elim (leb_tells m n) as (λ _. (n < m) ⊎ ((n ≡ m) ⊎ (m < n))) [ inl g ↦ inr (inl (omega (arith, h.1, g.1))) | inr g ↦ inl g.1 ]
  | inr h ↦ inr (inr h.1)
]

absent : (o : Option Node) (P : Type 0) → IfSome o (λ _. P) → (P → ⊥) → o ≡ None
absent None P h no' = refl
absent (Some node) P h no' = absurd (no' h)

own_only : (kinds : Ino → Option Kind) (bucket : ℕ) (name : Name) (o : Option Node) → IfSome o (λ node. IsEntry kinds bucket (name, node))
    → IfSome o (λ _. bucket_number name ≡ bucket)
own_only kinds bucket name None h = tt
own_only kinds bucket name (Some node) h = h.own

-- what is gathered of the buckets below blk
abbrev IsSoFar : Tree → Ino → ℕ → List Row → Type 0
IsSoFar tree dir blk rows = (name : Name) → named name rows ≡ cond (nat_lt (bucket_number name) blk) (tree.entries dir name) None

one_more : (kinds : Ino → Option Kind) (t : Table) (dir : Ino) (blk : ℕ) (rows more : List Row) → IsBucket kinds blk (t dir blk) more
    → IsSoFar (tree_of t) dir blk rows → IsSoFar (tree_of t) dir (blk + 1) (insert_all rows more)
one_more kinds t dir blk rows more fact so_far name =
    let b = bucket_number name in
    let E = (tree_of t).entries dir name in
    let own = own_only kinds blk name (named name more) (named_each (IsEntry kinds blk) name more fact.each) in
    named-insert_all name rows more (is_T (is_sorted name_cmp more) fact.rising)
    ∙ elim (three b blk) as (λ _. or_else (named name more) (named name rows) ≡ cond (nat_lt b (blk + 1)) E None) [
      | inl less ↦
          let l : b < blk + 1 = omega (arith, less) in
          ap (λ (o : Option Node). or_else o (named name rows)) (absent (named name more) (b ≡ blk) own (λ e. omega (arith, e, less)))
          ∙ so_far name ∙ ap (λ (t : Bool). cond t E None) (lt-ltb b blk less) ∙ ap (λ (t : Bool). cond t E None) (sym (lt-ltb b (blk + 1) l))
      | inr (inl same) ↦
          let l : b < blk + 1 = omega (arith, same) in
          let g : blk ≤ b = omega (arith, same) in
          ap (λ (o : Option Node). or_else (named name more) o) (so_far name ∙ ap (λ (t : Bool). cond t E None) (le-ltb b blk g)) ∙ or_none (named name more)
          ∙ sym (entries_are kinds t dir blk more fact name same) ∙ ap (λ (t : Bool). cond t E None) (sym (lt-ltb b (blk + 1) l))
      | inr (inr more') ↦
          let l : blk + 1 ≤ b = omega (arith, more') in
          let g : blk ≤ b = omega (arith, more') in
          ap (λ (o : Option Node). or_else o (named name rows)) (absent (named name more) (b ≡ blk) own (λ e. omega (arith, e, more')))
          ∙ so_far name ∙ ap (λ (t : Bool). cond t E None) (le-ltb b blk g) ∙ ap (λ (t : Bool). cond t E None) (sym (le-ltb b (blk + 1) l))
    ]

bucket_small : (name : Name) → bucket_number name < 8
bucket_small name = omega arith

module _ (kinds later : Ino → Option Kind) (w : World) (sound : Sound kinds w.value) (after : Sound later w.value) where
  abbrev shows : Ino → Outcome
  shows dir = record { said = Shows dir; tree = tree_of w.value }

  gathers : (dir : Ino) → kinds dir ≡ Some kind.Directory → (left blk : ℕ) (rows : List Row) → blk + left ≡ 8 → is_sorted name_cmp rows ≡ true
      → IsSoFar (tree_of w.value) dir blk rows
      → Comes left (gathering dir blk left rows) w (Owes later w.value (shows dir))
  gathers dir fact zero blk rows eight rising so_far = record {
    said = (
      rows,
      record {
        rising = rising;
        all = λ name. let l : bucket_number name < blk =
            omega (arith, eight, bucket_small name) in
            so_far name ∙ ap (λ (t : Bool). cond t ((tree_of w.value).entries dir name) None) (lt-ltb (bucket_number name) blk l);
      },
      refl,
    );
    sound = after;
    held = record { entries = λ d name i. refl; bytes = λ file i. refl };
    others = λ ino blk i. refl;
  }
  gathers dir fact (suc left) blk rows eight rising so_far =
      let small : blk < 8 = omega (arith, eight) in
      let b = sound.directories dir blk fact small in
      let more : blk + 1 + left ≡ 8 = omega (arith, eight) in
      subst (λ (o : Option (List Row)). Comes left (gathered dir blk left rows o) w (Owes later w.value (shows dir)))
      (sym (bucket_back kinds blk (w.value dir blk) b.0 b.1))
      (gathers dir fact left (blk + 1) (insert_all rows b.0) more (rising-insert_all rows b.0 rising) (one_more kinds w.value dir blk rows b.0 b.1 so_far))

  nothing_yet : (dir : Ino) → IsSoFar (tree_of w.value) dir 0 []
  nothing_yet dir name = let l : 0 ≤ bucket_number name =
      omega arith in ap (λ (t : Bool). cond t ((tree_of w.value).entries dir name) None) (sym (le-ltb (bucket_number name) 0 l))

  gathers_all : (dir : Ino) → kinds dir ≡ Some kind.Directory → Comes 8 (gathering dir 0 8 []) w (Owes later w.value (shows dir))
  gathers_all dir fact = gathers dir fact 8 0 [] refl refl (nothing_yet dir)

  list_node : (name : Name) (node : Node) (b : Bool) → is_directory node ≡ b → IsEntry kinds (bucket_number name) (name, node)
      → Comes 8 (cond b (gathering node.ino 0 8 []) (Ends (File NotDir))) w (Owes later w.value (cond b (shows node.ino) (refused (tree_of w.value) NotDir)))
  list_node name node true fact entry = gathers_all node.ino (entry.kept ∙ ap Some (directory_is node fact))
  list_node name node false fact entry = refuses_with kinds later w sound after 8 NotDir

  list_found : (dir : Ino) (name : Name) (rows : List Row) (ver : ℕ) (o : Option Node) → IfSome o (λ node. IsEntry kinds (bucket_number name) (name, node))
      → Comes 8 (looked_at dir name ver rows Lists o) w (Owes later w.value (shown_of (tree_of w.value) o))
  list_found dir name rows ver None entry = refuses_with kinds later w sound after 8 NoEntry
  list_found dir name rows ver (Some node) entry = list_node name node (is_directory node) refl entry

  lists : (path : List Name) → list_all is_good path ≡ true → Comes (length path + 8) (listing path) w (Owes later w.value (does_list (tree_of w.value) path))
  lists [] good = gathers_all root sound.root_is_directory
  lists (name ∷ rest) good =
      by_path kinds later w sound after Lists 8 IsDir (λ dir last. shown_of (tree_of w.value) ((tree_of w.value).entries dir last)) (λ dir last fact _.
      looks kinds later w sound after Lists 8 (shown_of (tree_of w.value)) dir last fact
      (λ rows bucket o e entry. list_found dir last rows (w.ver dir (bucket_number last)) o entry))
      (name ∷ rest) good

pub ls_meets : (path : List Name) → MeetsTree (call.Ls path)
ls_meets path kinds w number client sound fresh =
    let ino = made_by number client in
    replies (start (call.Ls path) ino) (length path + 8) [] w _
    (named_first kinds kinds w sound sound (call.Ls path) ino (length path + 8) (λ good. lists kinds kinds w sound sound path good))
