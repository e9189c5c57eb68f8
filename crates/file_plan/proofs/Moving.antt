-- Moving a file: a second entry is made, all is synced, and the first goes.
use Rattle.std.proofs.Common.{◌≡◌, ℕ, suc, ◌+◌, Bool, true, false, cond, ◌&&◌, List, [], length, Option, Some, None, refl, sym, ap, subst, ◌∙◌}
use Rattle.std.specs.Prelude.{IfSome}
use Rattle.std.specs.List.{list_all}
use Rattle.std.specs.Ordering.{eq_by_cmp}
use Rattle.std.specs.BTreeMap.{insert_entry}
use Rattle.version_model.specs.declared.answer.Answer.TheVariants.{Done, File}
use Rattle.version_model.specs.declared.answer.FileFault.TheVariants.{NoEntry, Exists, IsDir, DirFull}
use Rattle.version_model.specs.declared.file_call.FileCall.TheVariants as call
use Rattle.file_plan.specs.declared.node.Node.{Node}
use Rattle.file_plan.specs.Names.{Name, Row, name_cmp, is_good, is_directory, bucket_number, named}
use Rattle.file_plan.specs.Format.{value_of, bucket_bytes}
use Rattle.file_plan.specs.declared.state.Job.{Job}
use Rattle.file_plan.specs.Names.{same_node}
use Rattle.file_plan.specs.Plan.{start, looked, looked_at, leaving, walking_path, fits, made_by}
use Rattle.file_plan.specs.declared.state.PlanState.TheVariants.{Ends, Looks, Enters}
use Rattle.file_plan.specs.declared.state.Job.TheVariants.{Moves, Links, Unlinks}
use Rattle.file_plan.specs.Tree.{tree_of, IsEntry, IsBucket, Sound, Outcome, answered, refused, of_file, at_path, moved_as, does_link, does_move, with_entry, Meets}
use Rattle.file_plan.specs.Driving.{World, write, MeetsTree}
use Rattle.file_plan.proofs.Buckets.{bucket_back, named-insert, named-remove, without, is_T}
use Rattle.file_plan.proofs.Frames.{ino_itself, with_rows, bytes_same, file_beside, sound_now, entries_now, room_is, bucket_more, bucket_less, file_directory, nobody_directory}
use Rattle.file_plan.proofs.Listing.{entries_are}
use Rattle.file_plan.proofs.Machine.{Post, Comes, replies}
use Rattle.file_plan.proofs.Making.{enters}
use Rattle.file_plan.proofs.Walks.{Owes, bucket_at, by_path, looks, named_first, refuses_with}
use Rattle.xfs_base.specs.declared.block.Ino.{Ino}
use Rattle.xfs_base.proofs.Booleans.{and_first, and_second}
use Rattle.file_plan.specs.declared.node.Kind.{Kind}
use Rattle.file_plan.specs.declared.node.Kind.TheVariants as kind
use Rattle.file_plan.specs.Names.{same_ino, same_kind}

kind_itself : (k : Kind) → same_kind k k ≡ true
kind_itself kind.File = refl
kind_itself kind.Directory = refl

node_itself : (node : Node) → same_node node node ≡ true
node_itself node = ap (λ (b : Bool). b && same_ino node.ino node.ino) (kind_itself node.kind) ∙ ino_itself node.ino

-- a bucket is read
looks_at : (kinds : Ino → Option Kind) (w : World) (sound : Sound kinds w.value) (dir : Ino) (name : Name) (fact : kinds dir ≡ Some kind.Directory) (job : Job)
    (n : ℕ) (Q : Post)
    → Comes n (looked_at dir name (w.ver dir (bucket_number name)) (bucket_at kinds w.value sound dir name fact).0 job
    (named name (bucket_at kinds w.value sound dir name fact).0)) w Q → Comes (suc n) (Looks dir name job) w Q
looks_at kinds w sound dir name fact job n Q h =
    let b = bucket_at kinds w.value sound dir name fact in
    subst (λ (o : Option (List Row)). Comes n (looked dir name (w.ver dir (bucket_number name)) job o) w Q)
    (sym (bucket_back kinds (bucket_number name) (w.value dir (bucket_number name)) b.0 b.1)) h

module _ (kinds : Ino → Option Kind) (w : World) (sound : Sound kinds w.value) (from : Ino) (from_is : kinds from ≡ Some kind.Directory) (old : Name)
    (node : Node) (there : (tree_of w.value).entries from old ≡ Some node) where
  module _ (dir : Ino) (fact : kinds dir ≡ Some kind.Directory) (name : Name) (rows : List Row)
      (before : IsBucket kinds (bucket_number name) (w.value dir (bucket_number name)) rows) (entry : IsEntry kinds (bucket_number name) (name, node)) where
    abbrev now : List Row
    now = insert_entry name_cmp rows name node

    next_one : IsBucket kinds (bucket_number name) (value_of (bucket_bytes now)) now
    next_one = bucket_more kinds (bucket_number name) (w.value dir (bucket_number name)) name rows node before entry

    abbrev w1 : World
    w1 = write w dir (bucket_number name) (value_of (bucket_bytes now))

    s1 : Sound kinds w1.value
    s1 = sound_now kinds w.value sound dir fact (bucket_number name) rows before now next_one

    abbrev both_ways : Outcome
    both_ways = answered (with_entry (with_entry (tree_of w.value) dir name (Some node)) from old None) Done

    still : (b : Bool) (o : Option Node) → o ≡ Some node → cond b (Some node) o ≡ Some node
    still true o h = refl
    still false o h = h

    entries_1 : (d : Ino) (q : Name) → (tree_of w1.value).entries d q ≡ (with_entry (tree_of w.value) dir name (Some node)).entries d q
    entries_1 d q =
        entries_now kinds w.value sound dir fact (bucket_number name) rows before now next_one name (Some node) refl (λ r. named-insert r name node rows) d q

    abbrev rows_1 : List Row
    rows_1 = (bucket_at kinds w1.value s1 from old from_is).0

    bucket_1 : IsBucket kinds (bucket_number old) (w1.value from (bucket_number old)) rows_1
    bucket_1 = (bucket_at kinds w1.value s1 from old from_is).1

    -- the first entry still stands
    still_there : named old rows_1 ≡ Some node
    still_there =
        sym (entries_are kinds w1.value from (bucket_number old) rows_1 bucket_1 old refl) ∙ entries_1 from old
        ∙ still ((same_ino from dir) && eq_by_cmp name_cmp old name) ((tree_of w.value).entries from old) there

    less : IsBucket kinds (bucket_number old) (value_of (bucket_bytes (without old rows_1))) (without old rows_1)
    less = bucket_less kinds (bucket_number old) (w1.value from (bucket_number old)) old rows_1 bucket_1

    moved : Meets kinds w.value both_ways Done (write w1 from (bucket_number old) (value_of (bucket_bytes (without old rows_1)))).value
    moved = record {
      said = refl;
      sound = sound_now kinds w1.value s1 from from_is (bucket_number old) rows_1 bucket_1 (without old rows_1) less;
      held = record {
        entries = λ d q i. entries_now kinds w1.value s1 from from_is (bucket_number old) rows_1 bucket_1 (without old rows_1) less old None refl
            (λ r. named-remove r old rows_1 (is_T _ bucket_1.rising)) d q
            ∙ ap (λ (o : Option Node). cond ((same_ino d from) && eq_by_cmp name_cmp q old) None o) (entries_1 d q);
        bytes = λ file k. bytes_same w1.value (with_rows kinds w1.value s1 from from_is (bucket_number old) rows_1 bucket_1 (without old rows_1) less) file
            (file_beside kinds w1.value s1 from from_is (bucket_number old) rows_1 bucket_1 (without old rows_1) less file (Some kind.File) k file_directory)
            ∙ bytes_same w.value w1.value file
            (file_beside kinds w.value sound dir fact (bucket_number name) rows before now next_one file (Some kind.File) k file_directory);
      };
      others = λ ino blk k. file_beside kinds w1.value s1 from from_is (bucket_number old) rows_1 bucket_1 (without old rows_1) less ino None k
          (nobody_directory None refl) blk
          ∙ file_beside kinds w.value sound dir fact (bucket_number name) rows before now next_one ino None k (nobody_directory None refl) blk;
    }

    unlinks : Comes 2 (Looks from old (Unlinks node)) w1 (Owes kinds w.value both_ways)
    unlinks =
        looks_at kinds w1 s1 from old from_is (Unlinks node) 1 (Owes kinds w.value both_ways)
        (subst (λ (o : Option Node). Comes 1 (looked_at from old (w1.ver from (bucket_number old)) rows_1 (Unlinks node) o) w1 (Owes kinds w.value both_ways))
        (sym still_there)
        (subst (λ (b : Bool). Comes 1 (cond b (leaving from old (w1.ver from (bucket_number old)) rows_1 node.ino (Unlinks node)) (Ends Done)) w1
        (Owes kinds w.value both_ways)) (sym (node_itself node))
        (enters w1 from old (w1.ver from (bucket_number old)) (without old rows_1) node.ino (Unlinks node) 0 (Owes kinds w.value both_ways) refl moved)))

    link_room : (b : Bool)
        → Comes 4 (cond b (Enters dir name (w.ver dir (bucket_number name)) now node.ino (Links node from old)) (Ends (File DirFull))) w
        (Owes kinds w.value (cond b both_ways (refused (tree_of w.value) DirFull)))
    link_room true = enters w dir name (w.ver dir (bucket_number name)) now node.ino (Links node from old) 3 (Owes kinds w.value both_ways) refl unlinks
    link_room false = refuses_with kinds kinds w sound sound 4 DirFull

    links : named name rows ≡ None
        → Comes 4 (looked_at dir name (w.ver dir (bucket_number name)) rows (Links node from old) None) w
        (Owes kinds w.value (moved_as w.value (tree_of w.value) from old node dir name None))
    links none =
        subst (λ (b : Bool). Comes 4
        (cond (fits now) (Enters dir name (w.ver dir (bucket_number name)) now node.ino (Links node from old)) (Ends (File DirFull))) w
        (Owes kinds w.value (cond b both_ways (refused (tree_of w.value) DirFull))))
        (room_is kinds w.value dir name rows node before none) (link_room (fits now))

  link_found : (bucket : ℕ) (entry : IsEntry kinds bucket (old, node)) (dir : Ino) → kinds dir ≡ Some kind.Directory → (name : Name) → is_good name ≡ true
      → (rows : List Row) → IsBucket kinds (bucket_number name) (w.value dir (bucket_number name)) rows → (o : Option Node) → named name rows ≡ o
      → Comes 4 (looked_at dir name (w.ver dir (bucket_number name)) rows (Links node from old) o) w
      (Owes kinds w.value (moved_as w.value (tree_of w.value) from old node dir name o))
  link_found bucket entry dir fact name good rows before None none =
      links dir fact name rows before (record { form = record { good = good; ino = entry.form.ino }; own = refl; kept = entry.kept }) none
  link_found bucket entry dir fact name good rows before (Some found) some = refuses_with kinds kinds w sound sound 4 Exists

  links_path : (bucket : ℕ) → IsEntry kinds bucket (old, node) → (to : List Name) → list_all is_good to ≡ true
      → Comes (length to + 4) (walking_path to Exists (Links node from old)) w
      (Owes kinds w.value (at_path (tree_of w.value) Exists (does_link w.value (tree_of w.value) from old node) to))
  links_path bucket entry to good =
      by_path kinds kinds w sound sound (Links node from old) 4 Exists (does_link w.value (tree_of w.value) from old node) (λ dir name fact fine.
      looks kinds kinds w sound sound (Links node from old) 4 (moved_as w.value (tree_of w.value) from old node dir name) dir name fact
      (λ rows before o e _. link_found bucket entry dir fact name fine rows before o e))
      to good

module _ (kinds : Ino → Option Kind) (w : World) (sound : Sound kinds w.value) (to : List Name) (good : list_all is_good to ≡ true) where
  move_node : (dir : Ino) → kinds dir ≡ Some kind.Directory → (name : Name) (node : Node) → (tree_of w.value).entries dir name ≡ Some node
      → IsEntry kinds (bucket_number name) (name, node) → (b : Bool)
      → Comes (length to + 4) (cond b (Ends (File IsDir)) (walking_path to Exists (Links node dir name))) w
      (Owes kinds w.value (cond b (refused (tree_of w.value) IsDir) (at_path (tree_of w.value) Exists (does_link w.value (tree_of w.value) dir name node) to)))
  move_node dir fact name node there entry true = refuses_with kinds kinds w sound sound (length to + 4) IsDir
  move_node dir fact name node there entry false = links_path kinds w sound dir fact name node there (bucket_number name) entry to good

  move_found : (dir : Ino) → kinds dir ≡ Some kind.Directory → (name : Name) (rows : List Row) (ver : ℕ) (o : Option Node)
      → (tree_of w.value).entries dir name ≡ o → IfSome o (λ node. IsEntry kinds (bucket_number name) (name, node))
      → Comes (length to + 4) (looked_at dir name ver rows (Moves to) o) w
      (Owes kinds w.value (of_file (tree_of w.value) (λ node. at_path (tree_of w.value) Exists (does_link w.value (tree_of w.value) dir name node) to) o))
  move_found dir fact name rows ver None there entry = refuses_with kinds kinds w sound sound (length to + 4) NoEntry
  move_found dir fact name rows ver (Some node) there entry = move_node dir fact name node there entry (is_directory node)

pub mv_meets : (from to : List Name) → MeetsTree (call.Mv from to)
mv_meets from to kinds w number client sound fresh =
    let ino = made_by number client in
    let n = length to + 4 in
    replies (start (call.Mv from to) ino) (length from + n) [] w _
    (named_first kinds kinds w sound sound (call.Mv from to) ino (length from + n) (λ good.
    by_path kinds kinds w sound sound (Moves to) n IsDir (does_move w.value (tree_of w.value) to) (λ dir name fact _.
    looks kinds kinds w sound sound (Moves to) n
    (of_file (tree_of w.value) (λ node. at_path (tree_of w.value) Exists (does_link w.value (tree_of w.value) dir name node) to)) dir name fact
    (λ rows before o e entry. move_found kinds w sound to (and_second (list_all is_good from) (list_all is_good to) good) dir fact name rows
    (w.ver dir (bucket_number name)) o
    (entries_are kinds w.value dir (bucket_number name) rows before name refl ∙ e) entry))
    from (and_first (list_all is_good from) (list_all is_good to) good)))
