-- The file tree that a table of blocks holds, and what each call answers and changes, in maps of entries and strings of bytes.
use Rattle.std.specs.Prelude.{◌≡◌, ◌≢◌, ℕ, ◌+◌, ◌*◌, ◌/◌, ◌%◌, ◌^◌, ◌<◌, ◌≤◌, Bool, true, ◌&&◌, nat_le, nat_lt, List, [], ◌∷◌, length, map, take, drop, get_or, Option, Some, None, unwrap_or, if◌then◌else◌}
use Rattle.std.specs.List.{AllByRecursion, range_with_len}
use Rattle.std.specs.FinMap.Entries.{is_sorted}
use Rattle.std.specs.Ordering.{eq_by_cmp}
use Rattle.version_model.specs.declared.answer.Answer.{Answer}
use Rattle.version_model.specs.declared.answer.Answer.TheVariants.{Done, Made, Bytes, Size, Names, File}
use Rattle.version_model.specs.declared.answer.FileFault.{FileFault}
use Rattle.version_model.specs.declared.answer.FileFault.TheVariants.{NoEntry, Exists, NotDir, IsDir, BadName, DirFull, TooBig}
use Rattle.version_model.specs.declared.file_call.FileCall.{FileCall}
use Rattle.version_model.specs.declared.file_call.FileCall.TheVariants as call
use Rattle.version_model.specs.History.{Content}
use Rattle.xfs_base.specs.declared.block.Ino.{Ino}
use Rattle.file_plan.specs.declared.node.Kind.{Kind}
use Rattle.file_plan.specs.declared.node.Kind.TheVariants as kind
use Rattle.file_plan.specs.declared.node.Node.{Node}
use Rattle.file_plan.specs.Names.{Name, Row, name_cmp, same_ino, is_directory, bucket_number, named, names_are_good}
use Rattle.file_plan.specs.Format.{bytes_in, value_of, overlaid, bucket_bytes, read_bucket, size_value, read_size, file_end}
use Rattle.file_plan.specs.Formats.{IsRow}
use Rattle.file_plan.specs.Calls.{root, size_block, block_size}
use Rattle.file_plan.specs.Plan.{shown}

-- the value of each block, by index number and number of the block
abbrev pub Table : Type 0
Table = Ino → ℕ → Content

-- what each name leads to in each directory, and the bytes of each file
pub record Tree : Type 0 where
  pub entries : Ino → Name → Option Node
  pub bytes : Ino → List ℕ

abbrev pub rows_of : Content → List Row
rows_of value = unwrap_or (read_bucket value) []

abbrev pub size_of : Table → Ino → ℕ
size_of t file = unwrap_or (read_size (t file size_block)) 0

-- 0 where nothing was written
abbrev pub byte_at : Table → Ino → ℕ → ℕ
byte_at t file i = get_or (bytes_in (t file (i / block_size))) (i % block_size) 0

abbrev pub tree_of : Table → Tree
tree_of t = record {
  entries = λ dir name. named name (rows_of (t dir (bucket_number name)));
  bytes = λ file. map (byte_at t file) (range_with_len 0 (size_of t file));
}

-- ---- sound tables; kinds says of each index number whether it is a file's, a directory's or nobody's

-- an entry of this bucket
pub record IsEntry (kinds : Ino → Option Kind) (bucket : ℕ) (row : Row) : Type 0 where
  pub form : IsRow row
  pub own : bucket_number row.0 ≡ bucket
  pub kept : kinds row.1.ino ≡ Some row.1.kind

-- a value is the bucket that holds these entries
pub record IsBucket (kinds : Ino → Option Kind) (bucket : ℕ) (value : Content) (rows : List Row) : Type 0 where
  pub text : value ≡ value_of (bucket_bytes rows)
  pub rising : is_sorted name_cmp rows ≡ true
  pub each : AllByRecursion (IsEntry kinds bucket) rows

-- a block of a file of this size: no byte is at or past the size
pub record IsBlock (size blk : ℕ) (value : Content) : Type 0 where
  pub short : length (bytes_in value) ≤ block_size
  pub below : 0 < length (bytes_in value) → block_size * blk + length (bytes_in value) ≤ size

pub record IsFile (t : Table) (file : Ino) (size : ℕ) : Type 0 where
  pub stored : t file size_block ≡ size_value size
  pub bound : size ≤ file_end
  pub blocks : (blk : ℕ) → blk ≢ size_block → IsBlock size blk (t file blk)

pub record Sound (kinds : Ino → Option Kind) (t : Table) : Type 0 where
  pub root_is_directory : kinds root ≡ Some kind.Directory
  pub directories : (dir : Ino) (bucket : ℕ) → kinds dir ≡ Some kind.Directory → bucket < 8 → (rows : List Row) × IsBucket kinds bucket (t dir bucket) rows
  pub files : (file : Ino) → kinds file ≡ Some kind.File → (size : ℕ) × IsFile t file size

-- ---- calls

-- what is answered: an answer, or the listing of a directory
pub data Said : Type 0 where
  Says : (answer : Answer) → Said
  Shows : (dir : Ino) → Said

pub record Outcome : Type 0 where
  pub said : Said
  pub tree : Tree

abbrev pub answered : Tree → Answer → Outcome
answered tree answer = record { said = Says answer; tree = tree }

abbrev pub refused : Tree → FileFault → Outcome
refused tree fault = answered tree (File fault)

abbrev pub with_entry : Tree → Ino → Name → Option Node → Tree
with_entry tree dir name node = record tree { entries = λ d n. if same_ino d dir && eq_by_cmp name_cmp n name then node else tree.entries d n }

abbrev pub with_bytes : Tree → Ino → List ℕ → Tree
with_bytes tree file bytes = record tree { bytes = λ f. if same_ino f file then bytes else tree.bytes f }

-- the directory in which a path's last name stands, and that name
pub data Place : Type 0 where
  At : (dir : Ino) (name : Name) → Place
  Fails : (fault : FileFault) → Place

abbrev pub placed : (Ino → Place) → Option Node → Place
placed more None = Fails NoEntry
placed more (Some node) = if is_directory node then more node.ino else Fails NotDir

abbrev pub place_of : Tree → Ino → Name → List Name → Place
place_of tree dir name [] = At dir name
place_of tree dir name (onto ∷ rest) = placed (λ ino. place_of tree ino onto rest) (tree.entries dir name)

abbrev pub at_place : Tree → (Ino → Name → Outcome) → Place → Outcome
at_place tree does (At dir name) = does dir name
at_place tree does (Fails fault) = refused tree fault

-- what a call does at the place to which its path leads; at the root it is refused
abbrev pub at_path : Tree → FileFault → (Ino → Name → Outcome) → List Name → Outcome
at_path tree at_root does [] = refused tree at_root
at_path tree at_root does (name ∷ rest) = at_place tree does (place_of tree root name rest)

-- a call that needs an entry that is a file's
abbrev pub of_file : Tree → (Node → Outcome) → Option Node → Outcome
of_file tree does None = refused tree NoEntry
of_file tree does (Some node) = if is_directory node then refused tree IsDir else does node

-- a bucket has room for an entry of this name
abbrev pub has_room : Table → Ino → Name → Bool
has_room t dir name = nat_le (length (bytes_in (t dir (bucket_number name))) + (6 + length name)) block_size

-- a new entry
abbrev pub entered_as : Table → Tree → Ino → Name → Node → Answer → Option Node → Outcome
entered_as t tree dir name node answer (Some found) = refused tree Exists
entered_as t tree dir name node answer None =
    if has_room t dir name then answered (with_entry tree dir name (Some node)) answer else refused tree DirFull

abbrev pub does_make : Table → Tree → Node → Ino → Name → Outcome
does_make t tree node dir name = entered_as t tree dir name node (Made node.ino.0) (tree.entries dir name)

abbrev pub bytes_after : List ℕ → ℕ → List ℕ → List ℕ
bytes_after old offset [] = old
bytes_after old offset (b ∷ bs) = overlaid old offset (b ∷ bs)

abbrev pub does_put : Tree → ℕ → List ℕ → Ino → Name → Outcome
does_put tree offset bytes dir name = of_file tree (λ node.
    if nat_lt file_end (offset + length bytes) then refused tree TooBig
    else answered (with_bytes tree node.ino (bytes_after (tree.bytes node.ino) offset bytes)) Done) (tree.entries dir name)

abbrev pub does_get : Tree → ℕ → ℕ → Ino → Name → Outcome
does_get tree offset len dir name = of_file tree (λ node. answered tree (Bytes (take len (drop offset (tree.bytes node.ino))))) (tree.entries dir name)

abbrev pub does_size : Tree → Ino → Name → Outcome
does_size tree dir name = of_file tree (λ node. answered tree (Size (length (tree.bytes node.ino)))) (tree.entries dir name)

abbrev pub shown_of : Tree → Option Node → Outcome
shown_of tree None = refused tree NoEntry
shown_of tree (Some node) = if is_directory node then record { said = Shows node.ino; tree = tree } else refused tree NotDir

abbrev pub does_list : Tree → List Name → Outcome
does_list tree [] = record { said = Shows root; tree = tree }
does_list tree (name ∷ rest) = at_place tree (λ dir last. shown_of tree (tree.entries dir last)) (place_of tree root name rest)

abbrev pub does_remove : Tree → Ino → Name → Outcome
does_remove tree dir name = of_file tree (λ node. answered (with_bytes (with_entry tree dir name None) node.ino []) Done) (tree.entries dir name)

-- a second entry is made, and then the first goes
abbrev pub moved_as : Table → Tree → Ino → Name → Node → Ino → Name → Option Node → Outcome
moved_as t tree from old node dir name (Some found) = refused tree Exists
moved_as t tree from old node dir name None =
    if has_room t dir name then answered (with_entry (with_entry tree dir name (Some node)) from old None) Done else refused tree DirFull

abbrev pub does_link : Table → Tree → Ino → Name → Node → Ino → Name → Outcome
does_link t tree from old node dir name = moved_as t tree from old node dir name (tree.entries dir name)

abbrev pub does_move : Table → Tree → List Name → Ino → Name → Outcome
does_move t tree to dir name = of_file tree (λ node. at_path tree Exists (does_link t tree dir name node) to) (tree.entries dir name)

abbrev pub outcome_named : Table → Tree → FileCall → Ino → Outcome
outcome_named t tree (call.Mk path) ino = at_path tree Exists (does_make t tree (record { kind = kind.File; ino = ino })) path
outcome_named t tree (call.Mkdir path) ino = at_path tree Exists (does_make t tree (record { kind = kind.Directory; ino = ino })) path
outcome_named t tree (call.Put path offset bytes) ino = at_path tree IsDir (does_put tree offset bytes) path
outcome_named t tree (call.Get path offset len) ino = at_path tree IsDir (does_get tree offset len) path
outcome_named t tree (call.Size path) ino = at_path tree IsDir (does_size tree) path
outcome_named t tree (call.Ls path) ino = does_list tree path
outcome_named t tree (call.Rm path) ino = at_path tree IsDir (does_remove tree) path
outcome_named t tree (call.Mv from to) ino = at_path tree IsDir (does_move t tree to) from

-- what a call answers and changes on a sound table, where a new entry would have this index number
abbrev pub outcome : Table → FileCall → Ino → Outcome
outcome t c ino = if names_are_good c then outcome_named t (tree_of t) c ino else refused (tree_of t) BadName

-- ---- what is reached

-- the entries of a directory in rising order of names
pub record IsListing (entries : Name → Option Node) (rows : List Row) : Type 0 where
  pub rising : is_sorted name_cmp rows ≡ true
  pub all : (name : Name) → named name rows ≡ entries name

abbrev pub IsSaid : Tree → Said → Answer → Type 0
IsSaid tree (Says answer) given = given ≡ answer
IsSaid tree (Shows dir) given =
    (rows : List Row) × IsListing (tree.entries dir) rows × (given ≡ Names (map shown rows))

-- a table holds this tree
pub record Holds (kinds : Ino → Option Kind) (t : Table) (tree : Tree) : Type 0 where
  pub entries : (dir : Ino) (name : Name) → kinds dir ≡ Some kind.Directory → (tree_of t).entries dir name ≡ tree.entries dir name
  pub bytes : (file : Ino) → kinds file ≡ Some kind.File → (tree_of t).bytes file ≡ tree.bytes file

-- the answer is the tree's, and the table after is sound and holds the tree's change
pub record Meets (kinds : Ino → Option Kind) (before : Table) (o : Outcome) (given : Answer) (now : Table) : Type 0 where
  pub said : IsSaid o.tree o.said given
  pub sound : Sound kinds now
  pub held : Holds kinds now o.tree
  pub others : (ino : Ino) (blk : ℕ) → kinds ino ≡ None → now ino blk ≡ before ino blk

-- the index number that a call makes is nobody's, and none of its blocks was written
pub record IsFresh (kinds : Ino → Option Kind) (t : Table) (ino : Ino) : Type 0 where
  pub nobody : kinds ino ≡ None
  pub unwritten : (blk : ℕ) → t ino blk ≡ None
  pub fits : ino.0 < 2 ^ 32

abbrev pub MakesFresh : (Ino → Option Kind) → Table → Ino → FileCall → Type 0
MakesFresh kinds t ino (call.Mk path) = IsFresh kinds t ino
MakesFresh kinds t ino (call.Mkdir path) = IsFresh kinds t ino
MakesFresh kinds t ino c = Unit {0}

abbrev pub kept_as : (Ino → Option Kind) → Ino → Kind → Ino → Option Kind
kept_as kinds ino made i = if same_ino i ino then Some made else kinds i

-- the kinds after a call: the number that it makes is then a file's or a directory's
abbrev pub kinds_after : (Ino → Option Kind) → Ino → FileCall → Ino → Option Kind
kinds_after kinds ino (call.Mk path) = kept_as kinds ino kind.File
kinds_after kinds ino (call.Mkdir path) = kept_as kinds ino kind.Directory
kinds_after kinds ino c = kinds
