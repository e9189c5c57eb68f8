-- Making a file or a directory.
use Rattle.std.proofs.Common.{◌≡◌, ℕ, suc, ◌+◌, ◌^◌, ◌<◌, Bool, true, false, cond, List, [], length, Option, Some, None, refl, subst}
use Rattle.std.specs.List.{list_all}
use Rattle.std.specs.BTreeMap.{insert_entry}
use Rattle.version_model.specs.declared.answer.Answer.{Answer}
use Rattle.version_model.specs.declared.answer.Answer.TheVariants.{Made, File}
use Rattle.version_model.specs.declared.answer.FileFault.TheVariants.{Exists, DirFull}
use Rattle.version_model.specs.declared.file_call.FileCall.TheVariants as call
use Rattle.file_plan.specs.declared.node.Node.{Node}
use Rattle.file_plan.specs.Names.{Name, Row, name_cmp, is_good, bucket_number, named}
use Rattle.file_plan.specs.Format.{value_of, bucket_bytes}
use Rattle.file_plan.specs.declared.state.Job.{Job}
use Rattle.file_plan.specs.Plan.{start, file_plan_answered, looked_at, walking_path, entered, fits, made_by}
use Rattle.file_plan.specs.declared.state.PlanState.TheVariants.{Ends, Enters}
use Rattle.file_plan.specs.declared.state.Job.TheVariants.{Makes}
use Rattle.file_plan.specs.Tree.{tree_of, IsEntry, IsBucket, Sound, answered, refused, at_path, entered_as, does_make, with_entry, Meets, kept_as}
use Rattle.file_plan.specs.Driving.{World, write, MeetsTree}
use Rattle.file_plan.proofs.Buckets.{named-insert}
use Rattle.file_plan.proofs.Frames.{written_at, with_rows, bytes_same, file_beside, sound_now, entries_now, room_is, bucket_more, sound_kept, kept_itself, file_directory, nobody_directory}
use Rattle.file_plan.proofs.Machine.{Post, Comes, replies}
use Rattle.file_plan.proofs.Walks.{Owes, by_path, looks, named_first, refuses_with}
use Rattle.xfs_base.specs.declared.block.Ino.{Ino}
use Rattle.file_plan.specs.declared.node.Kind.{Kind}
use Rattle.file_plan.specs.declared.node.Kind.TheVariants as kind

-- the bucket is written
pub enters : (w : World) (dir : Ino) (name : Name) (ver : ℕ) (rows : List Row) (ino : Ino) (job : Job) (n : ℕ) (Q : Post) → w.ver dir (bucket_number name) ≡ ver
    → Comes n (entered job ino) (write w dir (bucket_number name) (value_of (bucket_bytes rows))) Q → Comes (suc n) (Enters dir name ver rows ino job) w Q
enters w dir name ver rows ino job n Q same h =
    written_at w dir (bucket_number name) ver (value_of (bucket_bytes rows)) (λ a v. Comes n (file_plan_answered (Enters dir name ver rows ino job) a) v Q) same h

module _ (kinds : Ino → Option Kind) (w : World) (sound : Sound kinds w.value) where
  -- the table with an entry more holds the tree with it
  pub holds_more : (dir : Ino) → kinds dir ≡ Some kind.Directory → (name : Name) (rows : List Row)
      → IsBucket kinds (bucket_number name) (w.value dir (bucket_number name)) rows
      → (node : Node) → IsEntry kinds (bucket_number name) (name, node) → (given answer : Answer) → given ≡ answer
      → Meets kinds w.value (answered (with_entry (tree_of w.value) dir name (Some node)) answer) given
      (write w dir (bucket_number name) (value_of (bucket_bytes (insert_entry name_cmp rows name node)))).value
  holds_more dir fact name rows before node entry given answer same =
      let b = bucket_number name in
      let now = insert_entry name_cmp rows name node in
      let next_one = bucket_more kinds b (w.value dir b) name rows node before entry in
      record {
        said = same;
        sound = sound_now kinds w.value sound dir fact b rows before now next_one;
        held = record {
          entries = λ d q i. entries_now kinds w.value sound dir fact b rows before now next_one name (Some node) refl (λ r. named-insert r name node rows) d q;
          bytes = λ file k. bytes_same w.value (with_rows kinds w.value sound dir fact b rows before now next_one) file
              (file_beside kinds w.value sound dir fact b rows before now next_one file (Some kind.File) k file_directory);
        };
        others = λ ino blk k. file_beside kinds w.value sound dir fact b rows before now next_one ino None k (nobody_directory None refl) blk;
      }

  module _ (node : Node) (small : node.ino.0 < 2 ^ 32) (kept : kinds node.ino ≡ Some node.kind) where
    make_room : (dir : Ino) (fact : kinds dir ≡ Some kind.Directory) (name : Name) (good : is_good name ≡ true) (rows : List Row)
        (before : IsBucket kinds (bucket_number name) (w.value dir (bucket_number name)) rows) (b : Bool)
        → Comes 1 (cond b (Enters dir name (w.ver dir (bucket_number name)) (insert_entry name_cmp rows name node) node.ino (Makes node)) (Ends (File DirFull)))
        w
        (Owes kinds w.value (cond b (answered (with_entry (tree_of w.value) dir name (Some node)) (Made node.ino.0)) (refused (tree_of w.value) DirFull)))
    make_room dir fact name good rows before true =
        enters w dir name (w.ver dir (bucket_number name)) (insert_entry name_cmp rows name node) node.ino (Makes node) 0 _ refl
        (holds_more dir fact name rows before node (record { form = record { good = good; ino = small }; own = refl; kept = kept }) (Made node.ino.0)
        (Made node.ino.0) refl)
    make_room dir fact name good rows before false = refuses_with kinds kinds w sound sound 1 DirFull

    make_found : (dir : Ino) (fact : kinds dir ≡ Some kind.Directory) (name : Name) (good : is_good name ≡ true) (rows : List Row)
        (before : IsBucket kinds (bucket_number name) (w.value dir (bucket_number name)) rows) (o : Option Node) → named name rows ≡ o
        → Comes 1 (looked_at dir name (w.ver dir (bucket_number name)) rows (Makes node) o) w
        (Owes kinds w.value (entered_as w.value (tree_of w.value) dir name node (Made node.ino.0) o))
    make_found dir fact name good rows before None none =
        subst (λ (b : Bool). Comes 1
        (cond (fits (insert_entry name_cmp rows name node))
        (Enters dir name (w.ver dir (bucket_number name)) (insert_entry name_cmp rows name node) node.ino (Makes node)) (Ends (File DirFull))) w
        (Owes kinds w.value (cond b (answered (with_entry (tree_of w.value) dir name (Some node)) (Made node.ino.0)) (refused (tree_of w.value) DirFull))))
        (room_is kinds w.value dir name rows node before none)
        (make_room dir fact name good rows before (fits (insert_entry name_cmp rows name node)))
    make_found dir fact name good rows before (Some found) some = refuses_with kinds kinds w sound sound 1 Exists

    pub makes : (path : List Name) → list_all is_good path ≡ true
        → Comes (length path + 1) (walking_path path Exists (Makes node)) w
        (Owes kinds w.value (at_path (tree_of w.value) Exists (does_make w.value (tree_of w.value) node) path))
    makes path good =
        by_path kinds kinds w sound sound (Makes node) 1 Exists (does_make w.value (tree_of w.value) node) (λ dir name fact fit.
        looks kinds kinds w sound sound (Makes node) 1 (entered_as w.value (tree_of w.value) dir name node (Made node.ino.0)) dir name fact
        (λ rows before o e entry. make_found dir fact name fit rows before o e))
        path good

pub mk_meets : (path : List Name) → MeetsTree (call.Mk path)
mk_meets path kinds w number client sound fresh =
    let ino = made_by number client in
    let later = sound_kept kinds w.value ino kind.File sound fresh in
    replies (start (call.Mk path) ino) (length path + 1) [] w _
    (named_first (kept_as kinds ino kind.File) (kept_as kinds ino kind.File) w later later (call.Mk path) ino (length path + 1) (λ good.
    makes (kept_as kinds ino kind.File) w later (record { kind = kind.File; ino = ino }) fresh.fits (kept_itself kinds ino kind.File) path good))

pub mkdir_meets : (path : List Name) → MeetsTree (call.Mkdir path)
mkdir_meets path kinds w number client sound fresh =
    let ino = made_by number client in
    let later = sound_kept kinds w.value ino kind.Directory sound fresh in
    replies (start (call.Mkdir path) ino) (length path + 1) [] w _
    (named_first (kept_as kinds ino kind.Directory) (kept_as kinds ino kind.Directory) w later later (call.Mkdir path) ino (length path + 1) (λ good.
    makes (kept_as kinds ino kind.Directory) w later (record { kind = kind.Directory; ino = ino }) fresh.fits (kept_itself kinds ino kind.Directory) path good))
